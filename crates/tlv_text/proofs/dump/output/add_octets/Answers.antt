use Rattle.std.proofs.Common.{◌≡◌, ◌++◌, inl, inr, rules}
use Rattle.tlv_text.specs.Private.PairSteps.{pair_octets}
use Rattle.tlv_text.proofs.DumpLemmas.{pair_octets-length}
use Rattle.tlv_text.proofs.DumpOutputLemmas.{becomes-over, is-added, row-more, stays}
use Rattle.tlv_text.proofs.PairLemmas.{decoded-are}
use Rattle.tlv_text.proofs.dump.output.add_octets.Goals as goal
use Rattle.tlv_text.proofs.dump.output.add_octets.Goals.{then-output-via-else-output+then-times-eq0}
use Rattle.tlv_text.proofs.dump.output.add_octets.Goals.{then-output-via-then-output}

pub returns-then-output : goal.returns-then-output
returns-then-output c =
    stays c.args.output.now c.args.times (pair_octets c.args.digits.now)
    (elim c.then-output.branch [
      | then-output-via-then-output w ↦ inl w.if-output.true
      | then-output-via-else-output+then-times-eq0 w ↦ inr w.if-times-eq0.true
    ])

pub returns-then-not-fits : goal.returns-then-not-fits
returns-then-not-fits c =
    let size = pair_octets-length c.args.digits.now in
    becomes-over c.args.output.now _ c.args.times (pair_octets c.args.digits.now) c.if-output.false (search rules)
    (search rules)
    (λ few. cc (c.if-not-fits.ensures.1 (rw (size, ← c.as_slice-count.ensures.value) at few)))

pub loop-preserved : goal.loop-preserved
loop-preserved c =
    let pushed : c.extend_from_slice.new.self.items ≡ c.loop.output.octets.items ++ c.in-Ok.row.items = search rules in
    record {
      kept = c.loop.invariant.kept;
      added = row-more _ _ _ c.loop.counter c.in-Ok.row.items c.loop.invariant.added pushed;
      within = search rules;
    }

pub returns : goal.returns
returns c =
    let row : c.in-Ok.row.items ≡ pair_octets c.args.digits.now =
    decoded-are c.args.digits.now _ c.requires.pairs c.in-Ok.ensures.ok in
    let all : c.loop.counter ≡ c.args.times = search rules in
    let size = pair_octets-length c.args.digits.now in
    is-added c.args.output.now c.loop.output c.args.times (pair_octets c.args.digits.now) c.if-output.false
    c.loop.invariant.within c.loop.invariant.kept (rw (row, all) at c.loop.invariant.added)
    (rw (← size, c.as_slice-count.ensures.value) at (c.if-not-fits.ensures.0 (search rules)))
