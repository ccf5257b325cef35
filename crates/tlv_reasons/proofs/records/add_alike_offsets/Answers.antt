use Rattle.std.proofs.Common.{◌-◌, arith, sym, ◌∙◌}
use Rattle.tlv_reasons.proofs.RecordLemmas.{last-one, none-more, one-more}
use Rattle.tlv_reasons.specs.NextRecord.{is_alike}
use Rattle.tlv_reasons.proofs.records.add_alike_offsets.Goals.{else-is_alike, then-is_alike+else-tries-eq-RECORD_TRIES}
use Rattle.tlv_reasons.proofs.records.add_alike_offsets.Goals as goal

pub returns-then-tries-eq-RECORD_TRIES : goal.returns-then-tries-eq-RECORD_TRIES
returns-then-tries-eq-RECORD_TRIES c =
    c.push.ensures.items
    ∙ last-one c.args.octets.now (is_alike c.args.octets.now c.args.offset) c.loop-place.place c.loop-place.tried.items _
    (1024 - c.loop-place.tries) (omega (arith, c.loop-place.invariant.few, c.if-tries-eq-RECORD_TRIES.true)) (omega arith)
    (sym c.is_alike.ensures ∙ c.if-is_alike.true) c.loop-place.invariant.items

pub loop-place-preserved : goal.loop-place-preserved
loop-place-preserved c =
    let p = is_alike c.args.octets.now c.args.offset in
    let i = c.loop-place.invariant in
    elim c.if-is_alike.branch [
      | then-is_alike+else-tries-eq-RECORD_TRIES b ↦ record {
        few = omega (arith, i.few, b.tries-is, b.if-tries-eq-RECORD_TRIES.false);
        room = rw (b.tried-is, b.tries-is) (omega (arith, i.room, b.push.ensures.len));
        items = rw (b.tried-is, b.push.ensures.items)
            (one-more c.args.octets.now p c.loop-place.place c.loop-place.tried.items _ (1024 - c.loop-place.tries)
            (1024 - c.if-is_alike.tries) (omega (arith, i.few, b.tries-is)) (omega arith)
            (sym c.is_alike.ensures ∙ b.if-is_alike.true) i.items);
      }
      | else-is_alike b ↦ record {
        few = omega (arith, i.few, b.tries-is);
        room = rw (b.tried-is, b.tries-is) i.room;
        items = rw (b.tried-is, b.tries-is)
            (none-more c.args.octets.now p c.loop-place.place c.loop-place.tried.items _ (1024 - c.loop-place.tries)
            (omega arith) (sym c.is_alike.ensures ∙ b.if-is_alike.false) i.items);
      }
    ]
