use Rattle.std.proofs.Common.{rules, ◌≡◌, List, ℕ, [], refl, sym, ap, ◌∙◌}
use Rattle.std.specs.Prelude.{Bool, true, false, if◌then◌else◌}
use Rattle.tlv_io.proofs.Puts.{puts_nothing, puts_text}
use Rattle.tlv_value.specs.ValueTextState.{ValueTextState, begin_lines, primitive_line}
use Rattle.tlv_value.specs.ValueTextFields.{value_text_state_of}
use Rattle.tlv_value.specs.Value.{is_long}
use Rattle.tlv_value.proofs.TextLemmas.Rests.{begin-puts}
use Rattle.tlv_value.proofs.value_text.ValueText.begin.Goals.{then-not-is_long-via-then-not-is_long}
use Rattle.tlv_value.proofs.value_text.ValueText.begin.Goals.{then-not-is_long-via-else-not-is_long+then-not-self}
use Rattle.tlv_value.proofs.value_text.ValueText.begin.Goals as goal

-- with the header of a value that is not long no line is known
begun-short : (s v : ValueTextState) → s ≡ v → is_long s.primitive.kind s.primitive.size ≡ false → [] ≡ begin_lines v
begun-short s v same l =
    sym (ap (λ (b : Bool). if b then (if s.kept.has_put_line then primitive_line s.primitive [] else []) else []) l)
    ∙ ap begin_lines same

same-by_test : (b : Bool) (xs : List ℕ) → xs ≡ (if b then xs else xs)
same-by_test true xs = refl
same-by_test false xs = refl

-- nor is one with that of a value whose line comes later
begun-before_line : (s v : ValueTextState) → s ≡ v → s.kept.has_put_line ≡ false → [] ≡ begin_lines v
begun-before_line s v same l =
    same-by_test (is_long s.primitive.kind s.primitive.size) []
    ∙ ap (λ (b : Bool). if is_long s.primitive.kind s.primitive.size
    then (if b then primitive_line s.primitive [] else []) else [])
    (sym l)
    ∙ ap begin_lines same

pub returns-then-not-is_long-clause-puts : goal.returns-then-not-is_long-clause-puts
returns-then-not-is_long-clause-puts g c =
    let t = c.self.inside in
    let state_of = g.D.Drain.state in
    let none : [] ≡ begin_lines c.args.self.now = elim c.then-not-is_long.branch [
      | then-not-is_long-via-then-not-is_long w ↦
          begun-short (value_text_state_of t) c.args.self.now c.self.view_is
          (sym c.is_long.ensures ∙ w.if-not-is_long.true)
      | then-not-is_long-via-else-not-is_long+then-not-self w ↦
          begun-before_line (value_text_state_of t) c.args.self.now c.self.view_is w.if-not-self.true
    ] in
    puts_text state_of _ _ _ _ _ none (puts_nothing state_of _ _)

pub returns-clause-puts : goal.returns-clause-puts
returns-clause-puts g c = search rules

-- in other words

pub returns-then-not-is_long-clause-lines : goal.returns-then-not-is_long-clause-lines
returns-then-not-is_long-clause-lines g c with_text h layout e =
    begin-puts g.D.Drain.state _ _ _ with_text h layout c.args.self.now e (returns-then-not-is_long-clause-puts g c)

pub returns-clause-lines : goal.returns-clause-lines
returns-clause-lines g c with_text h layout e =
    begin-puts g.D.Drain.state _ _ _ with_text h layout c.args.self.now e (returns-clause-puts g c)
