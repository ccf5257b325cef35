use Rattle.std.proofs.Common.{◌≡◌, ◌≤◌, ◌<◌, ℕ, ◌++◌, List, Bool, true, false, ap, rules, refl, arith, ◌∙◌}
use Rattle.std.specs.Prelude.{Some, None, codes, eqb, nat_lt, if◌then◌else◌, []}
use Rattle.std.specs.Option.{option_map_or}
use Rattle.std.proofs.lemmas.Bool.Decides.{nat_tests}
use Rattle.tlv_io.proofs.Puts.{puts_line, puts_no_room, puts_text}
use Rattle.tlv_value.specs.declared.layout.Layout.{Layout}
use Rattle.tlv_value.specs.Layout.{inner_line}
use Rattle.tlv_value.specs.TextBeside.{row_text_with}
use Rattle.tlv_value.specs.ValueTextState.{row_line}
use Rattle.tlv_value.proofs.value_lines.row_lines.put_row.Goals.{in_default-via-in-None-1}
use Rattle.tlv_value.proofs.value_lines.row_lines.put_row.Goals.{in_default-via-in-Some+else-index-from}
use Rattle.tlv_value.proofs.value_lines.row_lines.put_row.Goals as goal

-- three dots, or nothing, past the limit
past_limit : (layout : Layout) (i limit other : ℕ) (text : List ℕ) → layout.limit ≡ Some limit → limit ≤ i
    → other ≡ limit
    → (if eqb i other then inner_line layout (codes "...") else []) ≡ row_line layout i text
past_limit layout i limit other text e past same =
    let b : nat_lt i limit ≡ false = grind (arith, nat_tests) in
    rw (same, e, b) (by (eqb i limit))
  where
    by : (first : Bool) → (if first then inner_line layout (codes "...") else [])
        ≡ option_map_or (inner_line layout) (if first then Some (codes "...") else None) []
    by true = refl
    by false = refl

-- the row itself before it
below_limit : (layout : Layout) (i limit : ℕ) (text : List ℕ) → layout.limit ≡ Some limit → i < limit
    → inner_line layout text ≡ row_line layout i text
below_limit layout i limit text e below =
    let b : nat_lt i limit ≡ true = grind (arith, nat_tests) in
    rw (e, b) refl

no_limit : (layout : Layout) (i : ℕ) (text : List ℕ) → layout.limit ≡ None
    → inner_line layout text ≡ row_line layout i text
no_limit layout i text e = rw e refl

pub returns : goal.returns
returns g c =
    let e =
    past_limit c.args.form.now.layout c.args.index c.in-Some.limit c.from-2.result (row_text_with c.args.form.now.with_text c.args.form.now.kind c.args.row.now)
    c.in-Some.is (omega (arith, c.from.ensures, c.if-index-from.true)) c.from-2.ensures in
    puts_text g.D.Drain.state _ _ _ _ _ e c.put_dots.ensures

pub returns-in_err-make_room : goal.returns-in_err-make_room
returns-in_err-make_room g c = puts_no_room g.D.Drain.state _ _ _ _ _ c.in_err-make_room.ensures.puts (search rules)

pub returns-2 : goal.returns-2
returns-2 g c =
    let text : List ℕ = row_text_with c.args.form.now.with_text c.args.form.now.kind c.args.row.now in
    let e : inner_line c.args.form.now.layout text ≡ row_line c.args.form.now.layout c.args.index text = elim c.in_default.branch [
      | in_default-via-in-None-1 w ↦ no_limit c.args.form.now.layout c.args.index text (search rules)
      | in_default-via-in-Some+else-index-from w ↦
          below_limit c.args.form.now.layout c.args.index w.in-Some.limit text w.in-Some.is
          (omega (arith, w.from.ensures, w.if-index-from.false))
    ] in
    puts_line g.D.Drain.state _ _ _ _ _ _ c.in_ok-make_room.ensures.puts refl
    (c.write_line.ensures ∙ ap (λ (l : List ℕ). c.make_room.new.self.held ++ l) e)
