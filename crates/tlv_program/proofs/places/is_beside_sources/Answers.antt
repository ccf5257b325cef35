use Rattle.std.proofs.Common.{◌∙◌, ap, codes, eqb}
use Rattle.std.specs.List.{ends_with}
use Rattle.tlv_program.proofs.places.is_beside_sources.Goals as goal

pub returns : goal.returns
returns c = c.ends_with.ensures.value ∙ ap (λ octets. ends_with eqb octets (codes "/crates/tlvdump_show/out/tlvdump_show")) c.as_bytes.ensures.value
