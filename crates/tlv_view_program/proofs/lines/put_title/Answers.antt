use Rattle.std.proofs.Common.{◌≡◌, ◌++◌, ℕ, Bool, true, false, List, [], ◌∷◌, Option, length, refl, rules, sym, ◌∙◌}
use Rattle.std.specs.Prelude.{codes, ◌==◌}
use Rattle.tlv_io.proofs.Puts.{puts_text}
use Rattle.tlv_view_program.proofs.Items.{all_three, first_fails, second_fails}
use Rattle.tlv_view_program.specs.Lines.{block_title, shown_name}
use Rattle.tlv_view_program.proofs.lines.put_title.Goals as goal
use Rattle.tlv_view_program.proofs.lines.put_title.Goals.{else-several_files}
use Rattle.tlv_view_program.proofs.lines.put_title.Goals.{then-several_files+in_ok-put_shown_name+in_ok-put}

-- what a block with a label is called: of several files by its file too
both-named : (several : Bool) (file : Option (List ℕ)) (label : List ℕ) (b : Bool) → several ≡ true
    → b ≡ (length label == 0) → b ≡ false → (shown_name file ++ codes ": ") ++ label ≡ block_title several file label
both-named several file [] b s e f = let u : true ≡ false = sym e ∙ f in absurd (cc (u))
both-named true file (x ∷ label) b s e f = refl
both-named false file (x ∷ label) b s e f = absurd (cc (s))

label-alone : (several : Bool) (file : Option (List ℕ)) (label : List ℕ) (b : Bool) → several ≡ false
    → b ≡ (length label == 0) → b ≡ false → label ≡ block_title several file label
label-alone several file [] b s e f = let u : true ≡ false = sym e ∙ f in absurd (cc (u))
label-alone false file (x ∷ label) b s e f = refl
label-alone true file (x ∷ label) b s e f = absurd (cc (s))

pub returns-in_err-put_shown_name : goal.returns-in_err-put_shown_name
returns-in_err-put_shown_name g c =
    puts_text g.D.Drain.state _ _ _ _ _
    (both-named _ _ _ _ c.if-several_files.true c.is_empty.ensures c.if-is_empty.false)
    (first_fails g.D.Drain.state _ _ _ _ _ _ _ c.in_err-put_shown_name.ensures (search rules))

pub returns-in_err-put : goal.returns-in_err-put
returns-in_err-put g c =
    puts_text g.D.Drain.state _ _ _ _ _
    (both-named _ _ _ _ c.if-several_files.true c.is_empty.ensures c.if-is_empty.false)
    (second_fails g.D.Drain.state _ _ _ _ _ _ _ _ c.in_ok-put_shown_name.ensures c.in_err-put.ensures
    (search rules))

pub returns : goal.returns
returns g c = elim c.if-several_files.branch [
  | then-several_files+in_ok-put_shown_name+in_ok-put w ↦
      puts_text g.D.Drain.state _ _ _ _ _
      (both-named _ _ _ _ w.if-several_files.true c.is_empty.ensures c.if-is_empty.false)
      (all_three g.D.Drain.state _ _ _ _ _ _ _ _ w.in_ok-put_shown_name.ensures w.in_ok-put.ensures
      (rw w.out-is at c.put-2.ensures))
  | else-several_files w ↦
      puts_text g.D.Drain.state _ _ _ _ _
      (label-alone _ _ _ _ w.if-several_files.false c.is_empty.ensures c.if-is_empty.false)
      (rw w.out-is at c.put-2.ensures)
]
