use Rattle.std.proofs.Common.{◌∙◌, ◌&&◌, Bool, ap, sym, arith}
use Rattle.std.proofs.Math.Bool.{and-true}
use Rattle.tlv_value.proofs.CheckLemmas.UnitsNoted.{two-few}
use Rattle.tlv_value.proofs.value_check.units.are_characters_of_two.Goals as goal

pub returns : goal.returns
returns c =
    sym (and-true c.loop-rest.all)
    ∙ ap (λ (b : Bool). c.loop-rest.all && b) (sym (two-few c.loop-rest.rest.now (omega arith)))
    ∙ c.loop-rest.invariant
