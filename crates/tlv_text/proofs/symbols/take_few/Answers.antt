use Rattle.std.proofs.Common.{◌≡◌, ◌∷◌, [], ◌++◌, arith, rules, slice_index}
use Rattle.tlv_text.proofs.SymbolLemmas.{takes-one}
use Rattle.tlv_text.proofs.symbols.take_few.Goals as goal

pub loop-rest-preserved : goal.loop-rest-preserved
loop-rest-preserved c =
    let rest = c.loop-rest.rest.now in
    let added : c.push.new.self.items ≡ c.loop-rest.symbols.items ++ slice_index rest 0 ∷ [] = search rules in
    record {
      takes =
          rw added
          (takes-one c.args.alphabet c.args.rest.now.now c.args.symbols.now.items rest c.loop-rest.symbols.items
          c.loop-rest.invariant.takes c.in-len1-up.len_at_least (search rules));
      few = search (rules, arith);
    }
