use Rattle.std.proofs.Common.{◌≡◌, ◌++◌, ◌∷◌, Bool, true, [], refl, rules, sym, ◌∙◌}
use Rattle.tlv_text.specs.Taken.{TakenValue}
use Rattle.tlv_io.proofs.Puts.{puts_text}
use Rattle.tlv_view_program.proofs.Items.{all_three, first_fails, second_fails}
use Rattle.tlv_view_program.specs.Lines.{MessagePlace, place_words}
use Rattle.tlv_view_program.specs.Notes.{has_note, note_line, taken_note}
use Rattle.tlv_view_program.proofs.lines.put_note_line.Goals as goal

-- the line of a block that has a note
noted-line : (place : MessagePlace) (t : TakenValue) (b : Bool) → b ≡ has_note t.taken_for → b ≡ true
    → (place_words place ++ taken_note t) ++ 10 ∷ [] ≡ note_line place t
noted-line place t b e f = let u : has_note t.taken_for ≡ true = sym e ∙ f in rw u refl

pub returns-in_err-put_place : goal.returns-in_err-put_place
returns-in_err-put_place g c =
    let some : c.has_note.result ≡ true = search rules in
    puts_text g.D.Drain.state _ _ _ _ _ (noted-line _ _ _ c.has_note.ensures some)
    (first_fails g.D.Drain.state _ _ _ _ _ _ _ c.in_err-put_place.ensures (search rules))

pub returns-in_err-put_note : goal.returns-in_err-put_note
returns-in_err-put_note g c =
    let some : c.has_note.result ≡ true = search rules in
    puts_text g.D.Drain.state _ _ _ _ _ (noted-line _ _ _ c.has_note.ensures some)
    (second_fails g.D.Drain.state _ _ _ _ _ _ _ _ c.in_ok-put_place.ensures c.in_err-put_note.ensures (search rules))

pub returns : goal.returns
returns g c =
    let some : c.has_note.result ≡ true = search rules in
    puts_text g.D.Drain.state _ _ _ _ _ (noted-line _ _ _ c.has_note.ensures some)
    (all_three g.D.Drain.state _ _ _ _ _ _ _ _ c.in_ok-put_place.ensures c.in_ok-put_note.ensures c.put.ensures)
