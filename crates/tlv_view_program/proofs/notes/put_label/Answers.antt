use Rattle.std.proofs.Common.{◌≡◌, ◌++◌, ℕ, Bool, true, false, List, [], ◌∷◌, length, refl, rules, sym, ◌∙◌}
use Rattle.std.specs.Prelude.{codes, ◌==◌}
use Rattle.tlv_io.proofs.Puts.{puts_failed, puts_text, puts_then}
use Rattle.tlv_view_program.specs.Notes.{label_words}
use Rattle.tlv_view_program.proofs.notes.put_label.Goals as goal

-- the words for a label that is not empty
some-label : (label : List ℕ) (b : Bool) → b ≡ (length label == 0) → b ≡ false
    → codes ", " ++ label ≡ label_words label
some-label [] b e f = let u : true ≡ false = sym e ∙ f in absurd (cc (u))
some-label (x ∷ label) b e f = refl

pub returns-in_err-put : goal.returns-in_err-put
returns-in_err-put g c =
    puts_text g.D.Drain.state _ _ _ _ _ (some-label _ _ c.is_empty.ensures c.if-is_empty.false)
    (puts_failed g.D.Drain.state _ _ _ _ _ _ c.in_err-put.ensures (search rules))

pub returns : goal.returns
returns g c =
    puts_text g.D.Drain.state _ _ _ _ _ (some-label _ _ c.is_empty.ensures c.if-is_empty.false)
    (puts_then g.D.Drain.state _ _ _ _ _ tt _ c.in_ok-put.ensures c.put-2.ensures)
