use Rattle.std.proofs.Common.{◌≡◌, ◌+◌, ◌<◌, ℕ, List, true, false, length, drop, ap, sym, arith, add_assoc, ◌∙◌, refl}
use Rattle.std.proofs.Common.{subst, length-drop}
use Rattle.tlv_open.specs.Private.Elements.{BeginsWithElement, BeginsWithElements, BeginsWithNoElement}
use Rattle.tlv_open.specs.Private.Elements.{is_elements_end, place_at}
use Rattle.tlv_open.proofs.ElementLemmas.FirstElement.{first-definite, first-indefinite, first-no_end, first-no_list}
use Rattle.tlv_open.proofs.ElementLemmas.FirstElement.{first-primitive, first-too_deep, first-too_long, first-unclear}
use Rattle.tlv_open.proofs.ElementLemmas.FirstElement.{no_header-none}
use Rattle.tlv_open.proofs.ElementLemmas.Elements.{element-within, elements-nil, elements-next, elements-none}
use Rattle.tlv_open.proofs.ElementLemmas.Elements.{elements-rest, elements-start, elements-started, elements-stop}
use Rattle.tlv_open.proofs.ElementLemmas.Elements.{no_element-at_end, no_element-at_zero, tail-all}
use Rattle.tlv_open.proofs.elements.+sound.Goals.{elements_size-then-loop-at-test+else-octets-at-ne0}
use Rattle.tlv_open.proofs.elements.+sound.Goals.{elements_size-else-loop-at-test}
use Rattle.tlv_open.proofs.elements.+sound.Goals.{size_with-then-fields-2+in_ok-elements_size-in-Definite}
use Rattle.tlv_open.proofs.elements.+sound.Goals.{size_with-else-fields-2+else-likely}
use Rattle.tlv_open.proofs.elements.+sound.Goals.{size_with-else-fields-via-then-fields+else-depth-ge-DEPTH_LIMIT}
use Rattle.tlv_open.proofs.elements.+sound.Goals.{size_with-else-fields-via-else-fields}
use Rattle.tlv_open.proofs.elements.+sound.Goals.{size_with-else-likely-via-then-likely+else-not-is_clear_primitive}
use Rattle.tlv_open.proofs.elements.+sound.Goals.{size_with-else-likely-via-else-likely}
use Rattle.tlv_open.proofs.elements.+sound.Goals as goal

pub long_element_size-returns-in_err-fields : goal.long_element_size-returns-in_err-fields
long_element_size-returns-in_err-fields t c =
    rw c.from_residual.ensures (no_header-none _ _ c.args.octets.now c.in_err-fields.ensures)

pub size_with-returns-then-depth-ge-DEPTH_LIMIT : goal.size_with-returns-then-depth-ge-DEPTH_LIMIT
size_with-returns-then-depth-ge-DEPTH_LIMIT t c =
    first-too_deep c.args.octets.now c.args.offset c.args.depth c.args.likely c.args.fields.now c.args.count
    c.requires.begins c.if-fields.true c.if-depth-ge-DEPTH_LIMIT.true

pub size_with-returns-then-length-rest : goal.size_with-returns-then-length-rest
size_with-returns-then-length-rest t c =
    first-too_long c.args.octets.now c.args.offset c.args.depth c.args.likely c.args.fields.now c.args.count
    c.requires.begins c.in-Definite.length c.in-Definite.is
    (omega (arith, ap length c.split_at.ensures.back))

pub size_with-returns-in_err-elements_size-in-Definite :
    goal.size_with-returns-in_err-elements_size-in-Definite
size_with-returns-in_err-elements_size-in-Definite t c =
    rw c.from_residual.ensures
    (first-no_list c.args.octets.now c.args.offset c.args.depth c.args.likely c.args.fields.now c.args.count
    c.requires.begins c.in-Definite.length c.if-fields-2.true c.in-Definite.is
    (rw (← c.split_at.ensures.back) c.in_err-elements_size-in-Definite.ensures))

pub size_with-returns-then-not-is_clear_primitive :
    goal.size_with-returns-then-not-is_clear_primitive
size_with-returns-then-not-is_clear_primitive t c =
    first-unclear c.args.octets.now c.args.offset c.args.depth c.args.likely c.args.fields.now c.args.count
    c.requires.begins c.in-Definite.length c.if-fields-2.false c.in-Definite.is c.if-likely.true
    (rw (← c.split_at.ensures.back, ← c.split_at.ensures.front)
    (λ k. absurd (cc (c.is_clear_primitive.ensures.1 k, c.if-not-is_clear_primitive.true))))

pub size_with-returns-in_err-size-in-Indefinite :
    goal.size_with-returns-in_err-size-in-Indefinite
size_with-returns-in_err-size-in-Indefinite t c =
    rw c.from_residual-in_err-size-in-Indefinite.ensures
    (first-no_end c.args.octets.now c.args.offset c.args.depth c.args.likely c.args.fields.now c.args.count
    c.requires.begins c.in-Indefinite.is
    (rw (← c.split_at.ensures.back) c.in_err-size-in-Indefinite.ensures))

pub size_with-returns-after-fields-2 : goal.size_with-returns-after-fields-2
size_with-returns-after-fields-2 t c = elim c.if-fields-2.branch [
  | size_with-then-fields-2+in_ok-elements_size-in-Definite w ↦
      rw c.split_at.ensures.back
      (first-definite c.args.octets.now c.args.offset c.args.depth c.args.likely c.args.fields.now
      c.args.count c.requires.begins c.in-Definite.length w.in_ok-elements_size-in-Definite.field-0
      w.if-fields-2.true c.in-Definite.is (omega (arith, ap length c.split_at.ensures.back))
      (elim c.else-fields.branch [
        | size_with-else-fields-via-then-fields+else-depth-ge-DEPTH_LIMIT v ↦ v.if-depth-ge-DEPTH_LIMIT.false
        | size_with-else-fields-via-else-fields v ↦ absurd (cc (w.if-fields-2.true, v.if-fields.false))
      ])
      (rw (← c.split_at.ensures.back) w.in_ok-elements_size-in-Definite.ensures))
  | size_with-else-fields-2+else-likely w ↦
      rw c.split_at.ensures.back
      (first-primitive c.args.octets.now c.args.offset c.args.depth c.args.likely c.args.fields.now
      c.args.count c.requires.begins c.in-Definite.length
      w.if-fields-2.false c.in-Definite.is (omega (arith, ap length c.split_at.ensures.back))
      (rw (← c.split_at.ensures.back, ← c.split_at.ensures.front) (elim w.else-likely.branch [
        | size_with-else-likely-via-then-likely+else-not-is_clear_primitive u ↦
            λ _. u.is_clear_primitive.ensures.0 u.if-not-is_clear_primitive.false
        | size_with-else-likely-via-else-likely u ↦ λ e. absurd (cc (e, u.if-likely.false))
      ])))
]

pub size_with-returns-in_ok-size-in-Indefinite :
    goal.size_with-returns-in_ok-size-in-Indefinite
size_with-returns-in_ok-size-in-Indefinite t c =
    first-indefinite c.args.octets.now c.args.offset c.args.depth c.args.likely c.args.fields.now
    c.args.count c.requires.begins c.in_ok-size-in-Indefinite.size c.in-Indefinite.is (λ k. elim c.else-fields.branch [
      | size_with-else-fields-via-then-fields+else-depth-ge-DEPTH_LIMIT v ↦ v.if-depth-ge-DEPTH_LIMIT.false
      | size_with-else-fields-via-else-fields v ↦ absurd (cc (k, v.if-fields.false))
    ])
    (rw (← c.split_at.ensures.back) c.in_ok-size-in-Indefinite.ensures)

pub elements_size-loop-at-init : goal.elements_size-loop-at-init
elements_size-loop-at-init t c = record {
  within = omega arith;
  onward = λ n e. elements-start c.args.offset c.args.depth c.args.likely c.args.end_octets c.args.octets.now n e;
  back = λ n e. elements-started c.args.offset c.args.depth c.args.likely c.args.end_octets c.args.octets.now n e;
}

pub elements_size-returns-in_err-at : goal.elements_size-returns-in_err-at
elements_size-returns-in_err-at t c =
    rw c.from_residual.ensures (λ n e.
    elements-none c.args.offset c.args.depth c.args.likely c.args.end_octets c.args.octets.now c.loop-at.at
    c.loop-at-test.true c.if-octets-at-ne0.true
    (subst
    (λ (o : List ℕ). BeginsWithNoElement (place_at (c.args.offset + c.loop-at.at) c.args.depth) c.args.likely o)
    (tail-all c.args.octets.now c.loop-at.at) c.in_err-at.ensures)
    (c.loop-at.invariant.back n e))

pub elements_size-loop-at-preserved : goal.elements_size-loop-at-preserved
elements_size-loop-at-preserved t c =
    let more : BeginsWithElement (place_at (c.args.offset + c.loop-at.at) c.args.depth) c.args.likely
    (drop c.loop-at.at c.args.octets.now) c.in_ok-at.field-0 =
    subst
    (λ (o : List ℕ). BeginsWithElement (place_at (c.args.offset + c.loop-at.at) c.args.depth) c.args.likely o
    c.in_ok-at.field-0)
    (tail-all c.args.octets.now c.loop-at.at) c.in_ok-at.ensures in
    let some : c.loop-at.at < length c.args.octets.now = c.loop-at-test.true in
    record {
      within = omega (arith, element-within _ _ _ _ more, length-drop c.loop-at.at c.args.octets.now);
      onward = λ n e.
          rw add_assoc
          (c.loop-at.invariant.onward _
          (elements-next c.args.offset c.args.depth c.args.likely c.args.end_octets c.args.octets.now c.loop-at.at
          c.in_ok-at.field-0 c.loop-at.invariant.within more n e));
      back = λ n e.
          elements-rest c.args.offset c.args.depth c.args.likely c.args.end_octets c.args.octets.now c.loop-at.at
          c.in_ok-at.field-0 c.loop-at-test.true c.if-octets-at-ne0.true more (c.loop-at.invariant.back n e);
    }

pub elements_size-returns-then-is_elements_end : goal.elements_size-returns-then-is_elements_end
elements_size-returns-then-is_elements_end t c =
    let end : is_elements_end c.args.end_octets (drop c.loop-at.at c.args.octets.now) ≡ true =
    sym (c.is_elements_end.ensures ∙ ap (is_elements_end c.args.end_octets) (tail-all c.args.octets.now c.loop-at.at))
    ∙ c.if-is_elements_end.true in
    let size : c.loop-at.at + 0 ≡ c.loop-at.at = omega arith in
    subst
    (λ (n : ℕ). BeginsWithElements (place_at c.args.offset c.args.depth) c.args.likely c.args.end_octets
    c.args.octets.now n)
    size
    (c.loop-at.invariant.onward 0 (elements-nil _ c.args.likely c.args.end_octets _ end))

pub elements_size-returns-else-is_elements_end : goal.elements_size-returns-else-is_elements_end
elements_size-returns-else-is_elements_end t c = λ n e.
    let here = c.loop-at.invariant.back n e in
    let end : is_elements_end c.args.end_octets (drop c.loop-at.at c.args.octets.now) ≡ false =
    sym (c.is_elements_end.ensures ∙ ap (is_elements_end c.args.end_octets) (tail-all c.args.octets.now c.loop-at.at))
    ∙ c.if-is_elements_end.false in
    elements-stop _ c.args.likely c.args.end_octets _ here.0 refl end (elim c.loop-at-test.branch [
      | elements_size-then-loop-at-test+else-octets-at-ne0 w ↦
          no_element-at_zero _ c.args.likely c.args.octets.now c.loop-at.at w.loop-at-test.true w.if-octets-at-ne0.false
      | elements_size-else-loop-at-test w ↦
          no_element-at_end _ c.args.likely c.args.octets.now c.loop-at.at w.loop-at-test.false
    ]) here.1
