use Rattle.std.proofs.Common.{◌∙◌, arith, sym, ap}
use Rattle.std.specs.Prelude.{is_some}
use Rattle.std.proofs.lemmas.List.{length-take}
use Rattle.tlv_text.proofs.TokenPlaceLemmas.{mark-within, none-behind_mark, none-to_end, none-up_to_mark}
use Rattle.tlv_text.proofs.tokens.first_marked.Goals as goal

pub returns-then-is_some-clause-first : goal.returns-then-is_some-clause-first
returns-then-is_some-clause-first c =
    let found = rw c.new-finder.ensures at c.in-Some.ensures in
    none-up_to_mark c.args.mark.now c.args.before c.args.text.now c.loop-more.start c.min.result c.in-Some.more
    c.told-mark found c.loop-more.invariant.first

pub loop-more-preserved : goal.loop-more-preserved
loop-more-preserved c =
    let text = c.args.text.now in
    let found = rw c.new-finder.ensures at c.in-Some.ensures in
    let within = mark-within c.args.mark.now text c.loop-more.start c.min.result c.in-Some.more c.told-mark
    found in
    record {
      within = omega (arith, within, length-take c.min.result text);
      first = none-behind_mark c.args.mark.now c.args.before text c.loop-more.start c.min.result c.in-Some.more
          c.told-mark found
          (ap is_some (sym c.token_from.ensures.token) ∙ sym c.is_some.ensures ∙ c.if-is_some.false)
          c.loop-more.invariant.first;
    }

pub returns-clause-first : goal.returns-clause-first
returns-clause-first c =
    none-to_end c.args.mark.now c.args.before c.args.text.now c.loop-more.start c.min.result c.args.end c.told-mark
    c.min.ensures (rw c.new-finder.ensures at c.in_default.ensures) c.loop-more.invariant.first
