use Rattle.std.proofs.Common.{◌≡◌, ◌++◌, ◌∷◌, ℕ, Bool, true, false, List, [], length, refl, rules, sym, ◌∙◌}
use Rattle.std.specs.Prelude.{◌==◌}
use Rattle.tlv_io.proofs.Puts.{puts_text}
use Rattle.tlv_view_program.proofs.Items.{all_three, first_fails, second_fails}
use Rattle.tlv_view_program.specs.Lines.{MessagePlace, place_words, placed_line}
use Rattle.tlv_view_program.proofs.lines.put_placed_line.Goals as goal

-- the line of a text that is not empty
some-line : (place : MessagePlace) (text : List ℕ) (b : Bool) → b ≡ (length text == 0) → b ≡ false
    → (place_words place ++ text) ++ 10 ∷ [] ≡ placed_line place text
some-line place [] b e f = let u : true ≡ false = sym e ∙ f in absurd (cc (u))
some-line place (x ∷ text) b e f = refl

pub returns-in_err-put_place : goal.returns-in_err-put_place
returns-in_err-put_place g c =
    puts_text g.D.Drain.state _ _ _ _ _ (some-line _ _ _ c.is_empty.ensures c.if-is_empty.false)
    (first_fails g.D.Drain.state _ _ _ _ _ _ _ c.in_err-put_place.ensures (search rules))

pub returns-in_err-put : goal.returns-in_err-put
returns-in_err-put g c =
    puts_text g.D.Drain.state _ _ _ _ _ (some-line _ _ _ c.is_empty.ensures c.if-is_empty.false)
    (second_fails g.D.Drain.state _ _ _ _ _ _ _ _ c.in_ok-put_place.ensures c.in_err-put.ensures (search rules))

pub returns : goal.returns
returns g c =
    puts_text g.D.Drain.state _ _ _ _ _ (some-line _ _ _ c.is_empty.ensures c.if-is_empty.false)
    (all_three g.D.Drain.state _ _ _ _ _ _ _ _ c.in_ok-put_place.ensures c.in_ok-put.ensures
    c.put-2.ensures)
