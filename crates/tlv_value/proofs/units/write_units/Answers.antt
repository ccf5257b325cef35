use Rattle.std.proofs.Common.{ℕ, ◌++◌, [], List, refl, sym, ap, ◌∙◌, arith, append_assoc, append-nil, length-append}
use Rattle.std.specs.Prelude.{flat_map}
use Rattle.tlv_value.specs.Units.{unit_text, units}
use Rattle.tlv_value.proofs.units.write_units.Goals as goal

pub loop-rest-init : goal.loop-rest-init
loop-rest-init c = ([], (λ h. sym (append-nil c.args.held.now)), refl)

pub loop-rest-preserved : goal.loop-rest-preserved
loop-rest-preserved c =
    let i = c.loop-rest.invariant in
    let part = c.write_part.ensures.text in (
      i.0 ++ part.0,
      (λ h.
          let written = i.1 (omega (arith, length-append i.0 part.0, h)) in
          part.1 (rw written (omega (arith, length-append i.0 part.0, length-append c.args.held.now i.0, h)))
          ∙ ap (λ (t : List ℕ). t ++ part.0) written ∙ append_assoc c.args.held.now i.0 part.0),
      append_assoc i.0 part.0 (flat_map (unit_text c.args.kind) (units c.args.kind c.split_at.result.1.now))
          ∙ ap (λ (t : List ℕ). i.0 ++ t) (rw c.split_at.ensures.back (sym part.2)) ∙ i.2,
    )
