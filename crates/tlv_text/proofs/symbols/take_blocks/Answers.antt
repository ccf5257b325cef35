use Rattle.std.proofs.Common.{◌≡◌, ◌++◌, ◌∙◌, rules, sym}
use Rattle.tlv_text.proofs.SymbolLemmas.{takes-block}
use Rattle.tlv_text.proofs.symbols.take_blocks.Goals as goal

pub loop-rest-preserved : goal.loop-rest-preserved
loop-rest-preserved c =
    let added : c.try_extend_from_slice.new.self.items ≡ c.loop-rest.symbols.items ++ c.split_at.result.0.now =
    search rules in
    record {
      takes =
          rw added
          (takes-block c.args.alphabet c.args.rest.now.now c.args.symbols.now.items c.loop-rest.rest.now
          c.loop-rest.symbols.items c.split_at.result.0.now c.split_at.result.1.now 32 c.loop-rest.invariant.takes
          c.split_at.ensures.front c.split_at.ensures.back
          (sym c.are_symbols.ensures ∙ c.if-not-are_symbols.false));
      few = search rules;
    }
