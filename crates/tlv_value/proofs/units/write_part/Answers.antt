use Rattle.std.proofs.Common.{ℕ, take}
use Rattle.tlv_value.specs.Units.{unit_text}
use Rattle.tlv_value.proofs.TextLemmas.UnescapedUnits.{unescaped-units}
use Rattle.tlv_value.proofs.TextLemmas.UnitSteps.{units-step}
use Rattle.tlv_value.proofs.units.write_part.Goals as goal

pub returns-then-unescaped-gt0-clause-text : goal.returns-then-unescaped-gt0-clause-text
returns-then-unescaped-gt0-clause-text c =
    let n : ℕ = c.unescaped_size-unescaped.result in
    let unescaped = c.unescaped_size-unescaped.ensures.unescaped in (
      take n c.args.octets.now,
      (λ h. c.add_if_room.ensures.added h),
      unescaped-units c.args.kind n c.args.octets.now c.unescaped_size-unescaped.ensures.within
          (unescaped.0 c.if-unescaped-gt0.true) unescaped.1,
    )

pub returns-clause-text : goal.returns-clause-text
returns-clause-text c =
    let n : ℕ = c.unit_size-size.result in (
      unit_text c.args.kind (take n c.args.octets.now),
      (λ h. c.write_unit.ensures h),
      units-step c.args.kind n c.args.octets.now c.unit_size-size.ensures.value c.requires,
    )
