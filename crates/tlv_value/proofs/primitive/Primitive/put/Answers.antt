use Rattle.std.proofs.Common.{rules, ◌++◌, ◌∷◌, [], List, ℕ, refl, ap, ◌∙◌, append_assoc}
use Rattle.tlv_io.proofs.Puts.{puts_failed_in, puts_held, puts_then_as}
use Rattle.tlv_value.specs.Value.{Value, short_value}
use Rattle.tlv_value.specs.TextBeside.{on_line_text_with, shown_row_lines_with}
use Rattle.tlv_value.specs.Private.UndottedText.{undotted_text}
use Rattle.tlv_value.specs.Private.PrimitiveLines.{line_prefix}
use Rattle.tlv_value.proofs.TextLemmas.PrimitiveLines.{shown-prefix, shown-object, shown-undotted, shown-relative}
use Rattle.tlv_value.proofs.primitive.Primitive.put.Goals as goal

pub returns-in_err-put_prefix : goal.returns-in_err-put_prefix
returns-in_err-put_prefix g c =
    let p = c.args.self.now in
    let names = g.N.NameTable.name_of c.args.names.now in
    let v : Value = short_value names p.kind c.args.contents.now in
    puts_failed_in g.D.Drain.state _ _ (line_prefix p) _ _ _ c.in_err-put_prefix.ensures.puts (search rules)
    (record {
      rest = (on_line_text_with p.with_text v.on_line ++ 10 ∷ []) ++ shown_row_lines_with p.with_text p.kind p.layout v.rows;
      is = shown-prefix names p c.args.contents.now;
    })

pub returns-in-Object : goal.returns-in-Object
returns-in-Object g c =
    let p = c.args.self.now in
    let names = g.N.NameTable.name_of c.args.names.now in
    puts_then_as g.D.Drain.state _ _ _ _ _ _ _ _ c.in_ok-put_prefix.ensures.puts c.put_object.ensures
    (shown-object names p c.args.contents.now c.in-Object.is)

pub returns-in-Relative : goal.returns-in-Relative
returns-in-Relative g c =
    let p = c.args.self.now in
    let names = g.N.NameTable.name_of c.args.names.now in
    puts_then_as g.D.Drain.state _ _ _ _ _ _ _ _ c.in_ok-put_prefix.ensures.puts c.put_relative.ensures
    (shown-relative names p c.args.contents.now c.in-Relative.is)

pub returns-in_default : goal.returns-in_default
returns-in_default g c =
    let state_of = g.D.Drain.state in
    let p = c.args.self.now in
    let names = g.N.NameTable.name_of c.args.names.now in
    let text : List ℕ = undotted_text p.with_text p.kind c.args.contents.now in
    let begun = c.put_prefix.new.out in
    let added =
    c.add.ensures ∙ ap (λ (l : List ℕ). l ++ 10 ∷ []) c.write_undotted.ensures.text
    ∙ append_assoc begun.held text (10 ∷ []) in
    puts_then_as state_of _ _ _ _ _ _ _ _ c.in_ok-put_prefix.ensures.puts
    (puts_held state_of _ _ (text ++ 10 ∷ []) (tt {0}) refl added)
    (shown-undotted names p c.args.contents.now (search rules) (search rules) c.requires)
