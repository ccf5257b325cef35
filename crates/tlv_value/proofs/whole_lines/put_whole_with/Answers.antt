use Rattle.std.proofs.Common.{◌≡◌, ap, sym, ◌∙◌, false}
use Rattle.tlv_value.specs.declared.primitive.Primitive.{Primitive}
use Rattle.tlv_value.specs.Value.{is_long}
use Rattle.tlv_value.specs.Private.PrimitiveLines.{lines_in_steps}
use Rattle.tlv_value.specs.ValueTextState.{new_value_text_of}
use Rattle.tlv_value.proofs.TextLemmas.Pieces.{shown-new, whole-new}
use Rattle.tlv_io.proofs.Puts.{puts_text}
use Rattle.tlv_value.proofs.whole_lines.put_whole_with.Goals as goal

pub returns-then-is_long : goal.returns-then-is_long
returns-then-is_long g c =
    let name_of = g.N.NameTable.name_of c.args.names.now in
    let steps =
    ap (λ (p : Primitive). lines_in_steps name_of (new_value_text_of p) c.args.contents.now)
    c.new-primitive.ensures in
    puts_text g.D.Drain.state
    _ _ _ _ _ (steps
    ∙ whole-new c.args.with_text name_of c.args.header.now c.args.layout c.args.contents.now c.requires)
    c.put_long_lines.ensures

pub returns-else-is_long : goal.returns-else-is_long
returns-else-is_long g c =
    let p = c.new-primitive.result in
    let few : is_long p.kind p.size ≡ false = sym c.is_long.ensures ∙ c.if-is_long.false in
    let short = sym (ap (λ (q : Primitive). is_long q.kind q.size) c.new-primitive.ensures) ∙ few in
    puts_text g.D.Drain.state
    _ _ _ _ _ (shown-new c.args.with_text _ c.args.header.now c.args.layout c.new-primitive.result c.args.contents.now
    c.new-primitive.ensures short c.requires)
    c.put.ensures
