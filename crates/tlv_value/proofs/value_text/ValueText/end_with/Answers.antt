use Rattle.std.proofs.Common.{rules, ◌≡◌, ◌∙◌, length, sym, ap, arith}
use Rattle.std.specs.Prelude.{false}
use Rattle.tlv_io.proofs.Puts.{puts_text}
use Rattle.tlv_value.specs.ValueTextState.{ValueTextState, end_lines, primitive_lines}
use Rattle.tlv_value.specs.Value.{is_long}
use Rattle.tlv_value.specs.ValueTextFields.{value_text_state_of}
use Rattle.tlv_value.proofs.TextLemmas.PrimitiveLines.{ended-shown, held-most}
use Rattle.tlv_value.proofs.TextLemmas.Rests.{end-puts}
use Rattle.tlv_value.proofs.value_text.ValueText.end_with.Goals as goal

pub put-requires : goal.put-requires
put-requires g c =
    let t = c.self.inside in
    let l : is_long t.primitive.kind t.primitive.size ≡ false = sym c.is_long.ensures ∙ c.if-is_long.false in
    let left : t.left ≡ 0 = ap (λ (s : ValueTextState). s.left) c.self.view_is ∙ c.requires in
    let kept = c.self.invariant.kept l in
    held-most t.primitive.kind (length c.as_slice-contents.result.now) t.primitive.size l
    (omega (arith, ap length c.as_slice-contents.ensures.value, kept, left))

pub returns-clause-puts : goal.returns-clause-puts
returns-clause-puts g c =
    let t = c.self.inside in
    let names = g.N.NameTable.name_of c.args.names.now in
    let l : is_long t.primitive.kind t.primitive.size ≡ false = sym c.is_long.ensures ∙ c.if-is_long.false in
    let row : primitive_lines names t.primitive c.as_slice-contents.result.now
    ≡ primitive_lines names t.primitive t.row.items =
    ap (primitive_lines names t.primitive) c.as_slice-contents.ensures.value in
    let all =
    sym (ended-shown names t.primitive t.left (value_text_state_of t).kept l)
    ∙ ap (end_lines names) c.self.view_is in
    puts_text g.D.Drain.state _ _ _ _ _ (row ∙ all) c.put.ensures

pub returns-then-is_long-clause-puts : goal.returns-then-is_long-clause-puts
returns-then-is_long-clause-puts g c = search rules

-- in other words

pub returns-clause-lines : goal.returns-clause-lines
returns-clause-lines g c with_text h layout octets e size =
    end-puts g.D.Drain.state _ _ _ with_text h layout c.args.self.now (g.N.NameTable.name_of c.args.names.now) octets e size
    (returns-clause-puts g c)

pub returns-then-is_long-clause-lines : goal.returns-then-is_long-clause-lines
returns-then-is_long-clause-lines g c with_text h layout octets e size =
    end-puts g.D.Drain.state _ _ _ with_text h layout c.args.self.now (g.N.NameTable.name_of c.args.names.now) octets e size
    (returns-then-is_long-clause-puts g c)
