use Rattle.std.proofs.Common.{◌≡◌, true, ◌++◌, List, ℕ, length, take, ◌-◌, sym, ap, ◌∙◌, arith}
use Rattle.std.proofs.Math.Seq.{take-append_seam}
use Rattle.tlv_io.specs.LineTexts.{spaces}
use Rattle.tlv_value.specs.Private.UnescapedCharacters.{is_unescaped}
use Rattle.std.specs.List.{list_all}
use Rattle.tlv_value.proofs.TextLemmas.UnescapedUnits.{unescaped-prefix, unescaped-row}
use Rattle.tlv_value.proofs.TextLemmas.RowTextLengths.{units-short}
use Rattle.tlv_value.proofs.units.write_characters.Goals as goal

pub returns-then-are_unescaped : goal.returns-then-are_unescaped
returns-then-are_unescaped c =
    let row = c.args.row.now in
    let first : take (length row) c.block_of-block.result ≡ row =
    ap (take (length row)) c.block_of-block.ensures ∙ take-append_seam row (spaces (64 - length row)) in
    let unescaped : list_all is_unescaped row ≡ true = ap (list_all is_unescaped) (sym first)
    ∙ unescaped-prefix (length row) _ (sym c.are_unescaped.ensures ∙ c.if-are_unescaped.true) in
    c.add_prefix.ensures
    ∙ ap (λ (l : List ℕ). c.args.held.now ++ l)
    (first
    ∙ sym (unescaped-row c.args.kind row (sym c.has_ascii_octets.ensures ∙ c.if-has_ascii_octets.true) unescaped))

pub returns : goal.returns
returns c = c.write_units.ensures
    (omega (arith, units-short c.args.kind c.args.row.now, c.requires.short, c.requires.room))
