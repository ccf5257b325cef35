use Rattle.std.proofs.Common.{◌∙◌, ap, arith, sym, take}
use Rattle.std.specs.List.{list_any}
use Rattle.std.proofs.lemmas.List.{drop_all}
use Rattle.std.proofs.lemmas.List.Folds.{list_any_at}
use Rattle.tlv_text.specs.Taken.{is_control}
use Rattle.tlv_text.proofs.CharacterLemmas.{first-characters}
use Rattle.tlv_text.proofs.characters.has_controls.Goals as goal

pub returns-then-is_control : goal.returns-then-is_control
returns-then-is_control c =
    let text = c.args.text.now in
    sym
    (list_any_at is_control (take c.min.result text) c.loop-character.character-index _ c.loop-character-test.true
    (sym c.is_control.ensures ∙ c.if-is_control.true))
    ∙ first-characters is_control text c.min.result (omega (arith, c.min.ensures))

pub returns : goal.returns
returns c =
    let text = c.args.text.now in
    sym
    (c.loop-character.invariant
    ∙ ap (list_any is_control)
    (drop_all c.loop-character.character-index (take c.min.result text) c.loop-character-test.false))
    ∙ first-characters is_control text c.min.result (omega (arith, c.min.ensures))
