use Rattle.std.proofs.Common.{◌≡◌, ◌+◌, ◌-◌, ◌∙◌, ◌++◌, List, ℕ, ap, arith, length, subst}
use Rattle.std.proofs.lemmas.List.{length-append}
use Rattle.tlv_text.proofs.DumpLemmas.{pair_octets-length}
use Rattle.tlv_text.proofs.DumpOutputLemmas.{IsAddedSoFar, added-all, added-more, none-added}
use Rattle.tlv_text.proofs.DumpPairLemmas.{no-pairs_whole, one-pair, pairs-from_first, pairs-left, some-read, two-first}
use Rattle.tlv_text.proofs.DumpPairLemmas.{two-taken}
use Rattle.tlv_text.specs.Dump.{octets_repeated}
use Rattle.tlv_text.specs.DumpPairs.{pairs_after, pairs_at}
use Rattle.tlv_text.specs.Private.PairSteps.{pair_octets}
use Rattle.tlv_text.specs.TextRead.{TextRead, octets_then}
use Rattle.tlv_text.proofs.dump.add_pairs.Goals as goal

pub loop-digits-init : goal.loop-digits-init
loop-digits-init c =
    let text : List ℕ = c.args.text.now in
    let all : TextRead = pairs_at (length text) c.args.gap text in
    let from : all ≡ octets_then (pair_octets c.take_first.new.digits.items)
    (pairs_after (length text - 1) c.args.gap c.take_first.new.rest.now) =
    rw (c.take_first.ensures.pair, c.take_first.ensures.rest)
    (pairs-from_first (length text) c.args.gap text (omega (arith, two-first text c.requires)) c.requires) in
    record {
      pairs = c.take_first.ensures.whole;
      few = rw c.take_first.ensures.pair (omega (arith, two-taken text c.requires));
      added = subst (λ (r : TextRead). IsAddedSoFar all.octets r.octets c.args.output.now c.args.output.now) from
          (none-added all.octets c.args.output.now);
      count = omega (
        arith,
        ap (λ (r : TextRead). length r.octets) from,
        length-append (pair_octets c.take_first.new.digits.items)
            (pairs_after (length text - 1) c.args.gap c.take_first.new.rest.now).octets,
        one-pair c.take_first.new.digits.items text c.take_first.ensures.pair c.requires,
        two-first text c.requires,
      );
      rest = ap (λ (r : TextRead). r.rest) from;
    }

pub loop-digits-smaller : goal.loop-digits-smaller
loop-digits-smaller c =
    omega (
      arith,
      c.take_pairs-left.ensures.count,
      c.loop-digits.invariant.few,
      pair_octets-length c.take_pairs-left.new.digits.items,
      pair_octets-length c.loop-digits.digits.items,
      c.if-len-lt-DIGITS.false,
      c.len.ensures.value,
    )

pub loop-digits-preserved : goal.loop-digits-preserved
loop-digits-preserved c =
    let i = c.loop-digits.invariant in
    let digits : List ℕ = c.take_pairs-left.new.digits.items in
    let others : TextRead = pairs_after c.take_pairs-left.result c.args.gap c.take_pairs-left.new.rest.now in
    record {
      pairs = rw c.clear.ensures no-pairs_whole;
      few = rw c.clear.ensures (omega arith);
      added = rw c.clear.ensures
          (added-more _ _ (octets_repeated 1 (pair_octets digits)) others.octets c.args.output.now c.loop-digits.output
          c.add_octets.new.output i.added (rw c.as_slice.ensures.value at c.in_ok-add_octets.ensures)
          (some-read c.take_pairs-left.result c.args.gap c.take_pairs-left.new.rest.now digits _
          c.take_pairs-left.ensures.read));
      count = pairs-left _ (length c.args.text.now) c.loop-digits.left c.take_pairs-left.result
          (pair_octets c.loop-digits.digits.items) (pair_octets digits)
          (pairs_after c.loop-digits.left c.args.gap c.loop-digits.rest.now) others
          c.take_pairs-left.ensures.read c.take_pairs-left.ensures.count i.count;
      rest = i.rest ∙ ap (λ (r : TextRead). r.rest) c.take_pairs-left.ensures.read;
    }

-- no pair follows, so all pairs that are read are counted
all-counted : (c : goal.Then-len-lt-DIGITS)
    → length (pairs_at (length c.args.text.now) c.args.gap c.args.text.now).octets + c.take_pairs-left.result
    ≡ length c.args.text.now
all-counted c =
    let t = c.take_pairs-left.ensures in
    let i = c.loop-digits.invariant in
    let others : TextRead = pairs_after c.take_pairs-left.result c.args.gap c.take_pairs-left.new.rest.now in
    pairs-left _ (length c.args.text.now) c.loop-digits.left c.take_pairs-left.result
    (pair_octets c.loop-digits.digits.items) (pair_octets c.take_pairs-left.new.digits.items)
    (pairs_after c.loop-digits.left c.args.gap c.loop-digits.rest.now) others t.read t.count i.count
    ∙ ap (λ (r : TextRead). length r.octets + length c.args.text.now)
    (t.last (omega (arith, c.if-len-lt-DIGITS.true, c.len.ensures.value)))
    ∙ omega arith

pub overflow_sub-result : goal.overflow_sub-result
overflow_sub-result c = omega (arith, all-counted c)

pub returns-then-len-lt-DIGITS-clause-count : goal.returns-then-len-lt-DIGITS-clause-count
returns-then-len-lt-DIGITS-clause-count c = omega (arith, all-counted c)

pub returns-then-len-lt-DIGITS-clause-octets : goal.returns-then-len-lt-DIGITS-clause-octets
returns-then-len-lt-DIGITS-clause-octets c =
    let t = c.take_pairs-left.ensures in
    let digits : List ℕ = c.take_pairs-left.new.digits.items in
    added-all _ _ (octets_repeated 1 (pair_octets digits)) c.args.output.now c.loop-digits.output
    c.add_octets.new.output c.loop-digits.invariant.added (rw c.as_slice.ensures.value at c.in_ok-add_octets.ensures)
    (ap (λ (r : TextRead). r.octets) t.read
    ∙ ap (λ (r : TextRead). pair_octets digits ++ r.octets)
    (t.last (omega (arith, c.if-len-lt-DIGITS.true, c.len.ensures.value))))
