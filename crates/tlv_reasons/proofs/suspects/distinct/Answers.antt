use Rattle.std.proofs.Common.{◌≡◌, ◌+◌, ◌<◌, ◌++◌, ◌∙◌, ℕ, List, ap, append_assoc, arith, drop, get_or, length, sym}
use Rattle.tlv_reasons.proofs.FirstLemmas.{from-next}
use Rattle.tlv_reasons.specs.Suspects.{distinct_after, unless_seen}
use Rattle.tlv_reasons.proofs.suspects.distinct.Goals as goal

-- one number more
distinct-more : (kept xs : List ℕ) (i : ℕ) → i < length xs
    → kept ++ distinct_after kept (drop i xs)
    ≡ (kept ++ unless_seen kept (get_or xs i 0)) ++ distinct_after (kept ++ unless_seen kept (get_or xs i 0)) (drop (i + 1) xs)
distinct-more kept xs i h =
    ap (λ (l : List ℕ). kept ++ distinct_after kept l) (from-next xs i h)
    ∙ sym (append_assoc kept (unless_seen kept (get_or xs i 0))
    (distinct_after (kept ++ unless_seen kept (get_or xs i 0)) (drop (i + 1) xs)))

pub loop-each-preserved : goal.loop-each-preserved
loop-each-preserved c = record {
  kept =
      rw c.add_unless_seen.ensures.added
      (c.loop-each.invariant.kept
      ∙ distinct-more c.loop-each.kept.items c.args.offsets.now c.loop-each.each-index c.loop-each-test.true);
  few = omega (arith, c.add_unless_seen.ensures.few, c.loop-each.invariant.few);
}
