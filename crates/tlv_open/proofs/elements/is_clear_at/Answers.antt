use Rattle.std.proofs.Common.{◌↔◌, List, ℕ, IsTrue, length, take, sym, ap, ◌∙◌, subst}
use Rattle.tlv_head.specs.HeaderFields.{new_header}
use Rattle.tlv_open.specs.Held.{IsClearPrimitive}
use Rattle.tlv_open.proofs.ElementLemmas.Elements.{tail-all}
use Rattle.tlv_open.proofs.ElementLemmas.OneHeader.{clear-one, header-there, whole-one}
use Rattle.tlv_open.proofs.elements.is_clear_at.Goals as goal

pub is_clear_primitive-requires-clause-all : goal.is_clear_primitive-requires-clause-all
is_clear_primitive-requires-clause-all c =
    whole-one c.args.octets.now c.args.offset c.requires.fields c.in-Some.fields c.requires.count c.in-Some.count
    c.requires.begins c.in-Some.ensures c.requires.whole
    ∙ ap length (sym (tail-all c.args.octets.now c.in-Some.count))

pub returns-in-Some : goal.returns-in-Some
returns-in-Some c = λ g m b.
    clear-one c.args.octets.now c.args.offset c.in-Some.fields g c.in-Some.count m c.in-Some.ensures b
    c.is_clear_primitive.result
    (subst
    (λ (o : List ℕ). IsTrue c.is_clear_primitive.result
    ↔ IsClearPrimitive (new_header c.in-Some.fields (take c.in-Some.count c.args.octets.now)) o)
    (tail-all c.args.octets.now c.in-Some.count) c.is_clear_primitive.ensures)

pub returns-in-None : goal.returns-in-None
returns-in-None c = λ g m b. absurd (header-there c.args.octets.now c.args.offset g m b c.in-None.ensures)
