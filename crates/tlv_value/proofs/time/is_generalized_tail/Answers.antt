use Rattle.tlv_value.specs.Times.{fraction, generalized_zone, maybe}
use Rattle.tlv_value.proofs.CheckLemmas.Forms.{maybe-left, maybe-there}
use Rattle.tlv_value.proofs.time.is_generalized_tail.Goals as goal

pub returns-then-is_fraction_and_zone : goal.returns-then-is_fraction_and_zone
returns-then-is_fraction_and_zone c =
    maybe-there fraction (maybe generalized_zone) c.args.octets.now c.is_fraction_and_zone.result
    c.is_fraction_and_zone.ensures (cc)

pub returns-else-is_fraction_and_zone : goal.returns-else-is_fraction_and_zone
returns-else-is_fraction_and_zone c =
    maybe-left fraction (maybe generalized_zone) c.args.octets.now c.is_fraction_and_zone.result
    c.is_generalized_zone_or_nothing.result c.is_fraction_and_zone.ensures (cc) c.is_generalized_zone_or_nothing.ensures
