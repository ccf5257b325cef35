use Rattle.std.proofs.Common.{◌≡◌, ◌+◌, ◌++◌, ◌∷◌, [], ◌∙◌, ℕ, List, refl, sym, ap, append_assoc, false}
use Rattle.std.specs.Prelude.{None, Some, unwrap_or}
use Rattle.std.specs.Option.{option_copied}
use Rattle.tlv_io.proofs.Puts.{puts_held, puts_then_as}
use Rattle.tlv_value.specs.Arcs.{dotted_of}
use Rattle.tlv_value.proofs.TextLemmas.ObjectLines.{after_space, object_named, object_unnamed, some_text}
use Rattle.tlv_value.proofs.value_lines.put_object.Goals as goal

pub returns-in-Some : goal.returns-in-Some
returns-in-Some g c =
    let state_of = g.D.Drain.state in
    let names = g.N.NameTable.name_of c.args.names.now in
    let text : List ℕ = unwrap_or (dotted_of false c.args.contents.now) [] in
    let d : dotted_of false c.args.contents.now ≡ Some text =
    some_text _ (sym c.write_dotted.ensures.exists ∙ c.if-not-write_dotted.false) in
    let h : c.write_dotted.new.held ≡ c.args.out.now.held ++ 32 ∷ text =
    rw c.if-not-write_dotted.false at c.write_dotted.ensures.adds.text in
    let b =
    after_space c.args.out.now.held c.as_slice.result.now text (c.len-start.result + 1)
    (c.as_slice.ensures.octets ∙ h) (ap (λ n. n + 1) c.len-start.ensures.count) in
    let n : names text ≡ Some c.in-Some.name.now =
    sym (ap names b) ∙ sym c.get.ensures ∙ ap option_copied c.in-Some.is in
    puts_then_as state_of _ _ _ (32 ∷ text) _ _ _ _ (puts_held state_of _ _ (32 ∷ text) (tt {0}) refl h)
    c.put_name.ensures (object_named c.args.with_text names c.args.layout false c.args.contents.now text c.in-Some.name.now d n)

pub returns-in-None : goal.returns-in-None
returns-in-None g c =
    let state_of = g.D.Drain.state in
    let names = g.N.NameTable.name_of c.args.names.now in
    let text : List ℕ = unwrap_or (dotted_of false c.args.contents.now) [] in
    let d : dotted_of false c.args.contents.now ≡ Some text =
    some_text _ (sym c.write_dotted.ensures.exists ∙ c.if-not-write_dotted.false) in
    let h : c.write_dotted.new.held ≡ c.args.out.now.held ++ 32 ∷ text =
    rw c.if-not-write_dotted.false at c.write_dotted.ensures.adds.text in
    let b =
    after_space c.args.out.now.held c.as_slice.result.now text (c.len-start.result + 1)
    (c.as_slice.ensures.octets ∙ h) (ap (λ n. n + 1) c.len-start.ensures.count) in
    let n : names text ≡ None = sym (ap names b) ∙ sym c.get.ensures ∙ ap option_copied c.in-None.is in
    let all =
    c.add.ensures ∙ ap (λ (l : List ℕ). l ++ 10 ∷ []) h ∙ append_assoc c.args.out.now.held (32 ∷ text) (10 ∷ []) in
    puts_held state_of _ _ _ _ refl
    (all
    ∙ ap (λ (l : List ℕ). c.args.out.now.held ++ l)
    (object_unnamed c.args.with_text names c.args.layout false c.args.contents.now text d n))
