use Rattle.std.proofs.Common.{◌≡◌, ◌∷◌, ◌∙◌, List, ap, arith, length, map, sym}
use Rattle.std.specs.Vec.Iter.{into_iter_items}
use Rattle.tlv_text.specs.Private.Counting.{IsBounded}
use Rattle.tlv_text.specs.Taken.{taken_as}
use Rattle.tlv_text.specs.declared.taken.TakenFor.TheVariants.{Text}
use Rattle.tlv_text.proofs.CountLemmas.{fit-bounded, next-fit, pushed-all, pushed-taken}
use Rattle.tlv_text.specs.Blocks.{block_value}
use Rattle.tlv_text.specs.declared.block.Block.{Block}
use Rattle.tlv_text.proofs.values.all_taken_as.Goals as goal

pub loop-block-preserved : goal.loop-block-preserved
loop-block-preserved c =
    let at = c.loop-block in
    let b = c.in-Some.block in
    let steps : into_iter_items at.block-iterator ≡ b ∷ into_iter_items c.next.new.self = c.in-Some.ensures.steps.0 in
    let fits = next-fit _ _ _ steps at.invariant.fit in
    let pushed = c.in_ok-push.ensures.items in
    let made = c.taken_as.ensures in
    record {
      taken = pushed-taken _ _ _ _ _ _ pushed
          (ap (λ (bs : List Block). map (taken_as (Text c.args.form)) (map block_value bs)) steps
          ∙ ap (λ t. t ∷ map (taken_as (Text c.args.form)) (map block_value (into_iter_items c.next.new.self)))
          (sym made.value))
          at.invariant.taken;
      bounded = pushed-all (IsBounded 1) _ _ _ pushed at.invariant.bounded
          (fit-bounded 0 b _ made.no_layers made.octets fits.0);
      fit = fits.1;
      left = let was = at.invariant.left in
          let gone = c.in-Some.ensures.steps.1 in
          let short = ap length steps in
          omega arith;
    }
