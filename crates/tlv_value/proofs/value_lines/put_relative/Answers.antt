use Rattle.std.proofs.Common.{◌≡◌, ◌++◌, ◌∷◌, [], ◌∙◌, ℕ, List, refl, sym, ap, append_assoc, true}
use Rattle.std.specs.Prelude.{None, Some, unwrap_or}
use Rattle.tlv_io.proofs.Puts.{puts_held, puts_then_as}
use Rattle.tlv_value.specs.Arcs.{dotted_of}
use Rattle.tlv_value.specs.Value.{no_names}
use Rattle.tlv_value.proofs.TextLemmas.ObjectLines.{no_text, object_octets, object_unnamed, some_text}
use Rattle.tlv_value.proofs.value_lines.put_relative.Goals as goal

pub returns-then-not-write_dotted : goal.returns-then-not-write_dotted
returns-then-not-write_dotted g c =
    let d : dotted_of true c.args.contents.now ≡ None =
    no_text _ (sym c.write_dotted.ensures.exists ∙ c.if-not-write_dotted.true) in
    let state_of = g.D.Drain.state in
    let same = rw c.if-not-write_dotted.true at c.write_dotted.ensures.adds.text in
    puts_then_as state_of _ _ _ [] _ _ (tt {0}) _ (puts_held state_of _ _ [] (tt {0}) refl same) c.put_octets.ensures
    (object_octets c.args.with_text no_names c.args.layout true c.args.contents.now d)

pub returns : goal.returns
returns g c =
    let text : List ℕ = unwrap_or (dotted_of true c.args.contents.now) [] in
    let d : dotted_of true c.args.contents.now ≡ Some text =
    some_text _ (sym c.write_dotted.ensures.exists ∙ c.if-not-write_dotted.false) in
    let h : c.write_dotted.new.held ≡ c.args.out.now.held ++ 32 ∷ text =
    rw c.if-not-write_dotted.false at c.write_dotted.ensures.adds.text in
    let all =
    c.add.ensures ∙ ap (λ (l : List ℕ). l ++ 10 ∷ []) h ∙ append_assoc c.args.out.now.held (32 ∷ text) (10 ∷ []) in
    puts_held g.D.Drain.state _ _ _ _ refl
    (all
    ∙ ap (λ (l : List ℕ). c.args.out.now.held ++ l)
    (object_unnamed c.args.with_text no_names c.args.layout true c.args.contents.now text d refl))
