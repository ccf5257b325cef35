use Rattle.std.proofs.Common.{Bool, ◌&&◌, ap, ◌∙◌, sym}
use Rattle.tlv_head.specs.HeaderFields.{new_header}
use Rattle.tlv_value.specs.Types.{is_string}
use Rattle.tlv_open.proofs.spot.has_segments.Goals as goal

pub returns-then-fields : goal.returns-then-fields
returns-then-fields c = λ octets.
    c.is_string.ensures octets
    ∙ ap (λ (k : Bool). k && is_string (new_header c.args.fields.now octets)) (sym c.if-fields.true)
