use Rattle.std.proofs.Common.{sym, ◌∙◌}
use Rattle.tlv_open.proofs.FinderLemmas.Inputs.{sound-by}
use Rattle.tlv_open.proofs.reading.are_sound_elements.Goals as goal

pub returns-then-not-is_empty : goal.returns-then-not-is_empty
returns-then-not-is_empty c =
    sound-by c.args.octets.now c.elements_size.result c.is_some.result
    (sym c.is_empty.ensures ∙ c.if-not-is_empty.true) c.is_some.ensures c.elements_size.ensures
