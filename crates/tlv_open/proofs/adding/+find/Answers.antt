use Rattle.std.proofs.Common.{◌≡◌, ◌↔◌, ◌+◌, ◌&&◌, Bool, IsTrue, false, true, List, ℕ, [], ◌∷◌, length, take, drop}
use Rattle.std.proofs.Common.{refl, rules, sym}
use Rattle.std.proofs.Common.{ap, append-nil, ◌∙◌, arith, length-drop, subst, vec_len}
use Rattle.tlv_head.specs.HeaderFields.{new_header}
use Rattle.tlv_head.specs.ReadHeader.{BeginsWithFields}
use Rattle.tlv_open.specs.declared.extent.Extent.{Extent}
use Rattle.tlv_open.specs.Private.Adds.{IsKept, IsPlain, SaysSound}
use Rattle.tlv_open.specs.Private.Elements.{SaysElement, is_elements_end, place_at}
use Rattle.tlv_open.specs.Private.Finds.{AddsAll, FoundStrings, found_of, list_of, spot_held}
use Rattle.tlv_open.proofs.ElementLemmas.Elements.{element-within, tail-all, tail-of_tail}
use Rattle.tlv_open.proofs.ElementLemmas.Extents.{says-definite, says-indefinite, says-lacking}
use Rattle.tlv_open.proofs.ElementLemmas.Extents.{says-unended}
use Rattle.tlv_open.proofs.ElementLemmas.FirstElement.{first-too_deep, first-too_long, no_header-none}
use Rattle.tlv_open.proofs.ElementLemmas.Held.{HoldsSome, holds-if, holds-nothing, holds-too_deep}
use Rattle.tlv_open.proofs.ElementLemmas.OneHeader.{adds-at, begins-nonzero, header-there, some-octets}
use Rattle.tlv_open.proofs.FinderLemmas.NothingFound.{nothing_found}
use Rattle.tlv_open.proofs.FinderLemmas.FirstFound.{adds-ended_holder, adds-holder, adds-open_holder, adds-primitive}
use Rattle.tlv_open.proofs.FinderLemmas.FirstFound.{adds-too_deep, adds-unended_holder, adds-unfinished}
use Rattle.tlv_open.proofs.FinderLemmas.FirstFound.{indefinite-constructed}
use Rattle.tlv_open.proofs.FinderLemmas.FirstRead.{finds-header}
use Rattle.tlv_open.proofs.FinderLemmas.Found.{adds-all-at, adds-done, adds-ended, adds-more, adds-start}
use Rattle.tlv_open.proofs.FinderLemmas.FoundBoth.{both-nothing}
use Rattle.tlv_open.proofs.FinderLemmas.Kept.{kept-all, kept-broken, kept-opened, kept-pushed, kept-same, kept-then}
use Rattle.tlv_open.proofs.FinderLemmas.Plain.{adds-plain, no-inner, plain-sound, says-alone}
use Rattle.tlv_open.proofs.FinderLemmas.Sounds.{adds-all_octets, says-done, says-ended, says-inside, says-unsound}
use Rattle.tlv_open.proofs.FinderLemmas.Sounds.{so_far-sound, so_far-start}
use Rattle.tlv_open.proofs.FinderLemmas.Steps.{GoneOver, gone-element, gone-padding}
use Rattle.tlv_open.proofs.FinderLemmas.Strings.{adds-held, adds-no_octets, adds-unheld, adds-unopened, begins-taken}
use Rattle.tlv_open.proofs.FinderLemmas.Strings.{primitive-at, string-count, string-whole, whole-taken}
use Rattle.tlv_open.proofs.adding.+find.Goals.{add_strings-in-Some+in_default+in_ok-element-in-Some}
use Rattle.tlv_open.proofs.adding.+find.Goals.{add_strings-in-None+in_ok-element-in-None, add_strings-in-None-3}
use Rattle.tlv_open.proofs.adding.+find.Goals.{add_held-then-spot-ge-DEPTH_LIMIT-via-then-spot-ge-DEPTH_LIMIT}
use Rattle.tlv_open.proofs.adding.+find.Goals.{add_held-then-spot-ge-DEPTH_LIMIT-via-else-spot-ge-DEPTH_LIMIT+then-is_empty}
use Rattle.tlv_open.proofs.adding.+find.Goals as goal

pub add_strings-loop-at-init : goal.add_strings-loop-at-init
add_strings-loop-at-init t c = record {
  within = omega arith;
  adds =
      adds-start c.args.spot.now c.args.offset c.args.end_octets c.args.octets.now (found_of c.args.found.now);
  far = so_far-start c.args.spot.now c.args.offset c.args.end_octets c.args.octets.now;
  kept = kept-all (found_of c.args.found.now);
}

pub add_strings-loop-at-preserved-in-Some-plain_size : goal.add_strings-loop-at-preserved-in-Some-plain_size
add_strings-loop-at-preserved-in-Some-plain_size t c =
    let tail = tail-all c.args.octets.now c.loop-at.at in
    let begins : BeginsWithFields (drop c.loop-at.at c.args.octets.now) (c.args.offset + c.loop-at.at) false
    c.in-Some.fields c.in-Some.count =
    subst (λ (o : List ℕ). BeginsWithFields o (c.args.offset + c.loop-at.at) false c.in-Some.fields c.in-Some.count)
    tail c.in-Some.ensures in
    let plain : IsPlain (drop c.loop-at.at c.args.octets.now) c.in-Some.fields c.in-Some.count c.args.spot.now.likely
    c.in-Some-plain_size.size =
    subst
    (λ (o : List ℕ). IsPlain o c.in-Some.fields c.in-Some.count c.args.spot.now.likely c.in-Some-plain_size.size)
    tail c.in-Some-plain_size.ensures in
    let element = plain-sound (drop c.loop-at.at c.args.octets.now) (c.args.offset + c.loop-at.at) c.in-Some.fields
    c.in-Some.count c.in-Some-plain_size.size begins c.args.spot.now.depth c.args.spot.now.likely plain in
    record {
      within =
          omega (
            arith,
            element-within _ _ _ _ element,
            length-drop c.loop-at.at c.args.octets.now,
            c.loop-at-test.true,
          );
      adds =
          adds-more c.args.spot.now c.args.offset c.args.end_octets c.args.octets.now _ _ _ c.loop-at.at
          c.in-Some-plain_size.size c.loop-at-test.true c.loop-at.invariant.adds
          (adds-plain (drop c.loop-at.at c.args.octets.now) (c.args.offset + c.loop-at.at) c.in-Some.fields
          c.in-Some.count c.in-Some-plain_size.size begins c.args.spot.now c.args.end_octets
          (found_of c.loop-at.found) plain);
      far =
          so_far-sound c.args.spot.now c.args.offset c.args.end_octets c.args.octets.now c.loop-at.at c.loop-at.sound
          c.loop-at-test.true c.loop-at.invariant.far c.in-Some-plain_size.size element;
      kept = c.loop-at.invariant.kept;
    }

pub add_strings-loop-at-preserved : goal.add_strings-loop-at-preserved
add_strings-loop-at-preserved t c =
    let tail = tail-all c.args.octets.now c.loop-at.at in
    let before : GoneOver c.args.spot.now c.args.offset c.args.end_octets c.args.octets.now (found_of c.args.found.now)
    (found_of c.loop-at.found) c.loop-at.at c.loop-at.sound = record {
      within = c.loop-at.invariant.within;
      adds = c.loop-at.invariant.adds;
      far = c.loop-at.invariant.far;
      kept = c.loop-at.invariant.kept;
    } in
    let after : GoneOver c.args.spot.now c.args.offset c.args.end_octets c.args.octets.now (found_of c.args.found.now)
    (found_of c.match-two_octet_header.found) (c.loop-at.at + c.match-two_octet_header.element.size)
    (c.loop-at.sound && c.match-two_octet_header.element.sound) =
    elim c.match-two_octet_header.branch [
      | add_strings-in-Some+in_default+in_ok-element-in-Some w ↦
          rw (w.element-is, w.found-is)
          (gone-element c.args.spot.now c.args.offset c.args.end_octets c.args.octets.now (found_of c.args.found.now)
          (found_of c.loop-at.found) c.loop-at.at c.loop-at.sound c.loop-at-test.true before
          w.in_ok-element-in-Some.element (found_of w.add_with.new.found) _ tail
          (begins-nonzero c.args.octets.now c.loop-at.at (c.args.offset + c.loop-at.at) w.in-Some.fields
          w.in-Some.count c.loop-at-test.true
          (subst
          (λ (o : List ℕ). BeginsWithFields o (c.args.offset + c.loop-at.at) false w.in-Some.fields w.in-Some.count)
          tail w.in-Some.ensures))
          w.in_ok-element-in-Some.ensures.within w.in_ok-element-in-Some.ensures.adds
          w.in_ok-element-in-Some.ensures.sound w.in_ok-element-in-Some.ensures.kept)
      | add_strings-in-None+in_ok-element-in-None w ↦
          rw (w.element-is, w.found-is)
          (gone-element c.args.spot.now c.args.offset c.args.end_octets c.args.octets.now (found_of c.args.found.now)
          (found_of c.loop-at.found) c.loop-at.at c.loop-at.sound c.loop-at-test.true before
          w.in_ok-element-in-None.element (found_of w.add_after_long.new.found) _ tail w.if-octets-at-ne0.true
          w.in_ok-element-in-None.ensures.within w.in_ok-element-in-None.ensures.adds
          w.in_ok-element-in-None.ensures.sound w.in_ok-element-in-None.ensures.kept)
      | add_strings-in-None-3 w ↦
          rw (w.element-is, w.found-is)
          (gone-padding c.args.spot.now c.args.offset c.args.end_octets c.args.octets.now (found_of c.args.found.now)
          (found_of c.loop-at.found) c.loop-at.at c.loop-at.sound c.loop-at-test.true before
          w.if-octets-at-ne0.false w.if-end_octets.false)
    ] in
    record { within = after.within; adds = after.adds; far = after.far; kept = after.kept }

pub add_strings-returns-in-None-2-clause-adds : goal.add_strings-returns-in-None-2-clause-adds
add_strings-returns-in-None-2-clause-adds t c = record {
  adds =
      adds-ended c.args.spot.now c.args.offset c.args.end_octets c.args.octets.now _ _ c.loop-at.at
      c.loop-at-test.true c.if-octets-at-ne0.false c.if-end_octets.true c.loop-at.invariant.adds;
  sound =
      let end : is_elements_end true (drop c.loop-at.at c.args.octets.now) ≡ c.is_elements_end-sound.result =
      sym (c.is_elements_end-sound.ensures ∙ ap (is_elements_end true) (tail-all c.args.octets.now c.loop-at.at)) in
      subst
      (λ (k : Bool). SaysSound c.args.spot.now c.args.offset c.args.end_octets c.args.octets.now
      (record { size = c.loop-at.at; sound = c.loop-at.sound && k }))
      end
      (says-ended c.args.spot.now c.args.offset c.args.end_octets c.args.octets.now c.loop-at.at c.loop-at.sound
      c.loop-at-test.true c.if-octets-at-ne0.false c.if-end_octets.true c.loop-at.invariant.far);
  kept = c.loop-at.invariant.kept;
  within = search rules;
}

pub add_strings-returns-clause-adds : goal.add_strings-returns-clause-adds
add_strings-returns-clause-adds t c = record {
  adds =
      adds-done c.args.spot.now c.args.offset c.args.end_octets c.args.octets.now _ _ c.loop-at.at
      c.loop-at-test.false c.loop-at.invariant.adds;
  sound =
      says-done c.args.spot.now c.args.offset c.args.end_octets c.args.octets.now c.loop-at.at c.loop-at.sound
      c.loop-at-test.false c.loop-at.invariant.far;
  kept = c.loop-at.invariant.kept;
  within = search rules;
}

pub add_after_long-returns-in-None : goal.add_after_long-returns-in-None
add_after_long-returns-in-None t c = record {
  adds =
      adds-all_octets c.args.spot.now c.args.offset c.args.end_octets c.args.octets.now (found_of c.args.found.now)
      (found_of c.args.found.now) c.unended.result c.unended.ensures
      (λ p f rest r. record {
        found = nothing_found;
        added = sym (both-nothing (found_of c.args.found.now));
        finds =
            finds-header _ p f c.args.spot.now.depth c.args.offset c.args.end_octets c.args.octets.now rest r
            c.requires.begun c.in-None.ensures;
      });
  sound =
      says-unsound (place_at c.args.offset c.args.spot.now.depth) c.args.spot.now.likely c.args.octets.now
      c.unended.result c.unended.ensures
      (no_header-none (place_at c.args.offset c.args.spot.now.depth) c.args.spot.now.likely c.args.octets.now
      c.in-None.ensures);
  kept = kept-all (found_of c.args.found.now);
  some = omega (arith, some-octets c.args.octets.now c.requires.begun, ap (λ (e : Extent). e.size) c.unended.ensures);
  within = search rules;
}

pub add_with-returns-then-length-octets : goal.add_with-returns-then-length-octets
add_with-returns-then-length-octets t c = record {
  adds =
      adds-all_octets c.args.spot.now c.args.offset c.args.end_octets c.args.octets.now (found_of c.args.found.now)
      (found_of c.args.found.now) c.unended.result c.unended.ensures
      (adds-unfinished c.args.octets.now c.args.offset c.args.fields.now c.args.count c.requires.begins
      c.args.spot.now (found_of c.args.found.now) c.if-fields.false
      (omega (
        arith,
        c.if-length-octets.true,
        c.announced_length-length.ensures,
        length-drop c.args.count c.args.octets.now,
      ))
      c.args.end_octets);
  sound =
      says-unsound (place_at c.args.offset c.args.spot.now.depth) c.args.spot.now.likely c.args.octets.now
      c.unended.result c.unended.ensures
      (says-lacking c.args.octets.now c.args.offset c.args.spot.now.depth c.args.spot.now.likely c.args.fields.now
      c.args.count
      c.requires.begins c.if-fields.false
      (omega (
        arith,
        c.if-length-octets.true,
        c.announced_length-length.ensures,
        length-drop c.args.count c.args.octets.now,
      )));
  kept = kept-all (found_of c.args.found.now);
  some = search rules;
  within = search rules;
}

pub add_with-is_likely_if-sound-requires : goal.add_with-is_likely_if-sound-requires
add_with-is_likely_if-sound-requires t c =
    whole-taken c.args.octets.now c.args.offset c.args.fields.now c.args.count
    c.announced_length-length.result c.requires.begins c.announced_length-length.ensures
    (omega (arith, c.if-length-octets.false, length-drop c.args.count c.args.octets.now))
    (omega (arith, c.if-length-octets.false, c.requires.begins.within))

pub add_with-returns-then-not-is_octet_or_bit_string : goal.add_with-returns-then-not-is_octet_or_bit_string
add_with-returns-then-not-is_octet_or_bit_string t c = record {
  adds =
      adds-primitive c.args.octets.now c.args.offset c.args.fields.now c.args.count c.requires.begins
      c.args.spot.now (found_of c.args.found.now) (found_of c.args.found.now) c.announced_length-length.result
      (c.args.spot.now.in_extension
      && is_elements_end c.args.end_octets (drop (c.args.count + c.announced_length-length.result) c.args.octets.now))
      c.args.end_octets c.if-fields.false c.announced_length-length.ensures
      (omega (arith, c.if-length-octets.false, length-drop c.args.count c.args.octets.now))
      refl
      (adds-no_octets c.args.spot.now
      (c.args.spot.now.in_extension
      && is_elements_end c.args.end_octets (drop (c.args.count + c.announced_length-length.result) c.args.octets.now))
      (new_header c.args.fields.now (take c.args.count c.args.octets.now))
      (take c.announced_length-length.result (drop c.args.count c.args.octets.now))
      (found_of c.args.found.now)
      (no-inner (new_header c.args.fields.now (take c.args.count c.args.octets.now))
      (take c.announced_length-length.result (drop c.args.count c.args.octets.now))
      (sym (c.is_octet_or_bit_string.ensures (take c.args.count c.args.octets.now))
      ∙ c.if-not-is_octet_or_bit_string.true)));
  sound =
      says-alone c.args.octets.now c.args.offset c.args.spot.now.depth c.args.spot.now.likely c.args.fields.now
      c.args.count
      c.announced_length-length.result c.is_likely_if-sound.result c.requires.begins c.if-fields.false
      c.announced_length-length.ensures
      (omega (arith, c.if-length-octets.false, length-drop c.args.count c.args.octets.now))
      (omega (arith, c.if-length-octets.false, c.requires.begins.within)) c.is_likely_if-sound.ensures.unasked
      c.is_likely_if-sound.ensures.asked;
  kept = kept-all (found_of c.args.found.now);
  some = search rules;
  within = search rules;
}

pub add_with-returns : goal.add_with-returns
add_with-returns t c = record {
  adds =
      adds-primitive c.args.octets.now c.args.offset c.args.fields.now c.args.count c.requires.begins
      c.args.spot.now (found_of c.args.found.now) (found_of c.add_string.new.found) c.announced_length-length.result
      c.is_value_before-is_value.result c.args.end_octets c.if-fields.false c.announced_length-length.ensures
      (omega (arith, c.if-length-octets.false, length-drop c.args.count c.args.octets.now))
      (c.is_value_before-is_value.ensures
      ∙ ap (λ (o : List ℕ). c.args.spot.now.in_extension && is_elements_end c.args.end_octets o)
      (tail-all c.args.octets.now (c.args.count + c.announced_length-length.result)))
      (primitive-at c.args.spot.now c.is_value_before-is_value.result c.args.fields.now c.args.octets.now c.args.count
      c.announced_length-length.result (found_of c.args.found.now) (found_of c.add_string.new.found)
      (c.in_ok-add_string.ensures.adds c.args.fields.now c.args.count
      (begins-taken c.args.octets.now c.args.offset c.args.fields.now c.args.count c.announced_length-length.result
      c.requires.begins (omega (arith, c.if-length-octets.false, c.requires.begins.within)))
      c.if-fields.false));
  sound =
      says-alone c.args.octets.now c.args.offset c.args.spot.now.depth c.args.spot.now.likely c.args.fields.now
      c.args.count
      c.announced_length-length.result c.is_likely_if-sound.result c.requires.begins c.if-fields.false
      c.announced_length-length.ensures
      (omega (arith, c.if-length-octets.false, length-drop c.args.count c.args.octets.now))
      (omega (arith, c.if-length-octets.false, c.requires.begins.within)) c.is_likely_if-sound.ensures.unasked
      c.is_likely_if-sound.ensures.asked;
  kept = c.in_ok-add_string.ensures.kept;
  some = search rules;
  within = search rules;
}

pub add_in_holder-returns-then-spot-ge-DEPTH_LIMIT : goal.add_in_holder-returns-then-spot-ge-DEPTH_LIMIT
add_in_holder-returns-then-spot-ge-DEPTH_LIMIT t c = record {
  adds =
      adds-all_octets c.args.spot.now c.args.offset c.args.end_octets c.args.octets.now (found_of c.args.found.now)
      (found_of c.args.found.now) c.unended.result c.unended.ensures
      (adds-too_deep c.args.octets.now c.args.offset c.args.fields.now c.args.count c.requires.begins
      c.args.spot.now (found_of c.args.found.now) (length c.args.octets.now) c.requires.constructed
      c.if-spot-ge-DEPTH_LIMIT.true c.args.end_octets);
  sound =
      says-unsound (place_at c.args.offset c.args.spot.now.depth) c.args.spot.now.likely c.args.octets.now
      c.unended.result c.unended.ensures
      (first-too_deep c.args.octets.now c.args.offset c.args.spot.now.depth c.args.spot.now.likely c.args.fields.now
      c.args.count
      c.requires.begins c.requires.constructed c.if-spot-ge-DEPTH_LIMIT.true);
  kept = kept-all (found_of c.args.found.now);
  some = search rules;
  within = search rules;
}

pub add_in_holder-returns-then-length-rest : goal.add_in_holder-returns-then-length-rest
add_in_holder-returns-then-length-rest t c = record {
  adds =
      adds-all_octets c.args.spot.now c.args.offset c.args.end_octets c.args.octets.now (found_of c.args.found.now)
      (found_of c.add_all_strings.new.found) c.unended-then-length-rest.result c.unended-then-length-rest.ensures
      (adds-open_holder c.args.octets.now c.args.offset c.args.fields.now c.args.count c.requires.begins
      c.args.spot.now (found_of c.args.found.now) (found_of c.add_all_strings.new.found) c.in-Definite.length
      _ c.inside_lacking.result c.requires.constructed c.in-Definite.is
      (omega (arith, c.if-length-rest.true, ap length (tail-all c.args.octets.now c.args.count)))
      (c.inside_lacking.ensures.inner (take c.args.count c.args.octets.now))
      (adds-all-at _ _ _ _ _ _ _ _ _ refl (tail-all c.args.octets.now c.args.count)
      c.in_ok-add_all_strings.ensures.adds)
      c.args.end_octets);
  sound =
      says-unsound (place_at c.args.offset c.args.spot.now.depth) c.args.spot.now.likely c.args.octets.now
      c.unended-then-length-rest.result c.unended-then-length-rest.ensures
      (first-too_long c.args.octets.now c.args.offset c.args.spot.now.depth c.args.spot.now.likely c.args.fields.now
      c.args.count
      c.requires.begins c.in-Definite.length c.in-Definite.is
      (omega (arith, c.if-length-rest.true, ap length (tail-all c.args.octets.now c.args.count))));
  kept = c.in_ok-add_all_strings.ensures.kept;
  some = search rules;
  within = search rules;
}

pub add_in_holder-returns : goal.add_in_holder-returns
add_in_holder-returns t c = record {
  adds =
      rw (tail-all c.args.octets.now c.args.count)
      (adds-holder c.args.octets.now c.args.offset c.args.fields.now c.args.count c.requires.begins
      c.args.spot.now (found_of c.args.found.now) (found_of c.add_all_strings-2.new.found) c.in-Definite.length
      _ c.inside-inner.result c.requires.constructed c.in-Definite.is
      (omega (arith, c.if-length-rest.false, ap length (tail-all c.args.octets.now c.args.count)))
      (rw (tail-all c.args.octets.now c.args.count)
      at (c.inside-inner.ensures.inner (take c.args.count c.args.octets.now)))
      (adds-all-at _ _ _ _ _ _ _ _ _ refl (ap (take c.in-Definite.length) (tail-all c.args.octets.now c.args.count))
      c.in_ok-sound.ensures.adds)
      c.args.end_octets);
  sound =
      subst
      (λ (o : List ℕ).
      SaysElement (place_at c.args.offset c.args.spot.now.depth) c.args.spot.now.likely c.args.octets.now
      (record { size = c.args.count + length (take c.in-Definite.length o); sound = c.in_ok-sound.sound }))
      (sym (tail-all c.args.octets.now c.args.count))
      (says-definite c.args.octets.now c.args.offset c.args.spot.now.depth c.args.spot.now.likely c.args.fields.now
      c.args.count
      c.requires.begins c.in-Definite.length _ c.in_ok-sound.sound
      c.requires.constructed c.in-Definite.is
      (omega (arith, c.if-length-rest.false, ap length (tail-all c.args.octets.now c.args.count)))
      c.if-spot-ge-DEPTH_LIMIT.false
      (says-inside c.inside-inner.result (c.args.offset + c.args.count) (c.args.spot.now.depth + 1) false false
      (take c.in-Definite.length (drop c.args.count c.args.octets.now)) _ c.inside-inner.ensures.depth
      c.inside-inner.ensures.unasked.0 c.inside-inner.ensures.unasked.1
      (subst
      (λ (o : List ℕ).
      SaysSound c.inside-inner.result (c.args.offset + c.args.count) false (take c.in-Definite.length o)
      (record { size = length (take c.in-Definite.length o); sound = c.in_ok-sound.sound }))
      (tail-all c.args.octets.now c.args.count) c.in_ok-sound.ensures.sound)));
  kept = c.in_ok-sound.ensures.kept;
  some = search rules;
  within = search rules;
}

pub add_in_indefinite-returns-then-is_elements_end : goal.add_in_indefinite-returns-then-is_elements_end
add_in_indefinite-returns-then-is_elements_end t c = record {
  adds =
      adds-ended_holder c.args.octets.now c.args.offset c.args.fields.now c.args.count c.requires.begins
      c.args.spot.now (found_of c.args.found.now) (found_of c.add_ended_strings.new.found) c.in_ok-extent.extent.size
      c.inside-inner.result
      (indefinite-constructed c.args.fields.now.constructed c.args.fields.now.size c.requires.indefinite
      c.requires.begins.begins.valid.allowed)
      c.requires.indefinite
      (rw (tail-all c.args.octets.now c.args.count)
      at (c.inside-inner.ensures.inner (take c.args.count c.args.octets.now)))
      (adds-all-at _ _ _ _ _ _ _ _ _ refl (tail-all c.args.octets.now c.args.count) c.in_ok-extent.ensures.adds)
      (sym (c.is_elements_end.ensures
      ∙ ap (is_elements_end true) (tail-of_tail c.args.octets.now c.args.count c.in_ok-extent.extent.size))
      ∙ c.if-is_elements_end.true)
      c.args.end_octets;
  sound =
      says-indefinite c.args.octets.now c.args.offset c.args.spot.now.depth c.args.spot.now.likely c.args.fields.now
      c.args.count c.requires.begins c.in_ok-extent.extent.size c.in_ok-extent.extent.sound c.requires.indefinite
      c.requires.shallow
      (says-inside c.inside-inner.result (c.args.offset + c.args.count) (c.args.spot.now.depth + 1) false true
      (drop c.args.count c.args.octets.now) c.in_ok-extent.extent c.inside-inner.ensures.depth
      c.inside-inner.ensures.unasked.0 c.inside-inner.ensures.unasked.1
      (subst
      (λ (o : List ℕ). SaysSound c.inside-inner.result (c.args.offset + c.args.count) true o c.in_ok-extent.extent)
      (tail-all c.args.octets.now c.args.count) c.in_ok-extent.ensures.sound));
  kept = c.in_ok-extent.ensures.kept;
  some = search rules;
  within = search rules;
}

pub add_in_indefinite-returns : goal.add_in_indefinite-returns
add_in_indefinite-returns t c = record {
  adds =
      adds-all_octets c.args.spot.now c.args.offset c.args.end_octets c.args.octets.now (found_of c.args.found.now)
      (found_of c.add_ended_strings.new.found) c.unended.result c.unended.ensures
      (adds-unended_holder c.args.octets.now c.args.offset c.args.fields.now c.args.count c.requires.begins
      c.args.spot.now (found_of c.args.found.now) (found_of c.add_ended_strings.new.found) c.in_ok-extent.extent.size
      c.inside-inner.result
      (indefinite-constructed c.args.fields.now.constructed c.args.fields.now.size c.requires.indefinite
      c.requires.begins.begins.valid.allowed)
      c.requires.indefinite
      (rw (tail-all c.args.octets.now c.args.count)
      at (c.inside-inner.ensures.inner (take c.args.count c.args.octets.now)))
      (adds-all-at _ _ _ _ _ _ _ _ _ refl (tail-all c.args.octets.now c.args.count) c.in_ok-extent.ensures.adds)
      (sym (c.is_elements_end.ensures
      ∙ ap (is_elements_end true) (tail-of_tail c.args.octets.now c.args.count c.in_ok-extent.extent.size))
      ∙ c.if-is_elements_end.false)
      c.args.end_octets);
  sound =
      says-unsound (place_at c.args.offset c.args.spot.now.depth) c.args.spot.now.likely c.args.octets.now
      c.unended.result c.unended.ensures
      (says-unended c.args.octets.now c.args.offset c.args.spot.now.depth c.args.spot.now.likely c.args.fields.now
      c.args.count c.requires.begins c.in_ok-extent.extent.size c.in_ok-extent.extent.sound c.requires.indefinite
      (sym (c.is_elements_end.ensures
      ∙ ap (is_elements_end true) (tail-of_tail c.args.octets.now c.args.count c.in_ok-extent.extent.size))
      ∙ c.if-is_elements_end.false)
      (says-inside c.inside-inner.result (c.args.offset + c.args.count) (c.args.spot.now.depth + 1) false true
      (drop c.args.count c.args.octets.now) c.in_ok-extent.extent c.inside-inner.ensures.depth
      c.inside-inner.ensures.unasked.0 c.inside-inner.ensures.unasked.1
      (subst
      (λ (o : List ℕ). SaysSound c.inside-inner.result (c.args.offset + c.args.count) true o c.in_ok-extent.extent)
      (tail-all c.args.octets.now c.args.count) c.in_ok-extent.ensures.sound)));
  kept = c.in_ok-extent.ensures.kept;
  some = search rules;
  within = search rules;
}

pub add_string-returns-then-not-spot-clause-adds : goal.add_string-returns-then-not-spot-clause-adds
add_string-returns-then-not-spot-clause-adds t c = λ g m b p.
    adds-unopened c.args.spot.now c.args.is_value (new_header g (take m c.args.octets.now)) (drop m c.args.octets.now)
    (found_of c.args.found.now) c.if-not-spot.true

pub add_string-returns-then-not-spot-clause-kept : goal.add_string-returns-then-not-spot-clause-kept
add_string-returns-then-not-spot-clause-kept t c = kept-all (found_of c.args.found.now)

pub add_string-returns-in_default-clause-adds : goal.add_string-returns-in_default-clause-adds
add_string-returns-in_default-clause-adds t c = λ g m b p.
    absurd (header-there c.args.octets.now c.args.offset g m b c.in_default.ensures)

pub add_string-returns-in_default-clause-kept : goal.add_string-returns-in_default-clause-kept
add_string-returns-in_default-clause-kept t c = kept-all (found_of c.args.found.now)

pub add_string-returns-in_default-held_octets-clause-adds : goal.add_string-returns-in_default-held_octets-clause-adds
add_string-returns-in_default-held_octets-clause-adds t c =
    adds-at c.args.spot.now c.args.is_value c.args.octets.now c.args.offset c.in-Some.fields c.in-Some.count
    (found_of c.args.found.now) (found_of c.args.found.now) c.in-Some.ensures
    (λ p.
    adds-no_octets c.args.spot.now c.args.is_value
    (new_header c.in-Some.fields (take c.in-Some.count c.args.octets.now))
    (drop c.in-Some.count c.args.octets.now) (found_of c.args.found.now)
    (rw (tail-all c.args.octets.now c.in-Some.count) at c.in_default-held_octets.ensures.inner))

pub add_string-returns-in_default-held_octets-clause-kept : goal.add_string-returns-in_default-held_octets-clause-kept
add_string-returns-in_default-held_octets-clause-kept t c = kept-all (found_of c.args.found.now)

pub add_string-returns-then-branch-clause-adds : goal.add_string-returns-then-branch-clause-adds
add_string-returns-then-branch-clause-adds t c =
    let inner = (rw (tail-all c.args.octets.now c.in-Some.count) at c.in-Some-held_octets.ensures.inner) in
    adds-at c.args.spot.now c.args.is_value c.args.octets.now c.args.offset c.in-Some.fields c.in-Some.count
    (found_of c.args.found.now) (found_of c.add_held.new.found) c.in-Some.ensures
    (λ p.
    adds-held c.args.spot.now c.args.is_value (new_header c.in-Some.fields (take c.in-Some.count c.args.octets.now))
    (drop c.in-Some.count c.args.octets.now) c.in-Some-held_octets.inner.now (found_of c.args.found.now)
    c.if-not-spot.false inner (c.args.spot.now.start + c.args.offset)
    (ap (λ (o : ℕ). c.args.spot.now.start + o) (sym c.in-Some.ensures.begins.offset))
    (found_of c.add_held.new.found) _ c.in-Some.count c.in_ok-add_held.field-0 p
    (string-count c.in-Some.fields c.args.octets.now c.in-Some.count c.in-Some.ensures.within)
    (c.in_ok-add_held.ensures.held (new_header c.in-Some.fields (take c.in-Some.count c.args.octets.now))
    (drop c.in-Some.count c.args.octets.now) inner)
    c.if-branch.true
    (omega (
      arith,
      length-drop c.in-Some.count c.args.octets.now,
      c.in-Some.ensures.within,
      c.in-Some.ensures.begins.offset,
    ))
    c.in_ok-add_held.ensures.tries)

pub add_string-returns-clause-adds : goal.add_string-returns-clause-adds
add_string-returns-clause-adds t c =
    let inner = (rw (tail-all c.args.octets.now c.in-Some.count) at c.in-Some-held_octets.ensures.inner) in
    adds-at c.args.spot.now c.args.is_value c.args.octets.now c.args.offset c.in-Some.fields c.in-Some.count
    (found_of c.args.found.now) _ c.in-Some.ensures
    (λ p.
    adds-unheld c.args.spot.now c.args.is_value (new_header c.in-Some.fields (take c.in-Some.count c.args.octets.now))
    (drop c.in-Some.count c.args.octets.now) c.in-Some-held_octets.inner.now (found_of c.args.found.now)
    c.if-not-spot.false inner (c.args.spot.now.start + c.args.offset)
    (ap (λ (o : ℕ). c.args.spot.now.start + o) (sym c.in-Some.ensures.begins.offset))
    (found_of c.add_held.new.found) _ _ c.args.octets.now c.in_ok-add_held.field-0 c.broken_string-broken.result
    (c.in_ok-add_held.ensures.held (new_header c.in-Some.fields (take c.in-Some.count c.args.octets.now))
    (drop c.in-Some.count c.args.octets.now) inner)
    c.if-branch.false c.in_ok-add_held.ensures.tries
    (string-whole c.in-Some.fields c.args.octets.now c.in-Some.count) c.broken_string-broken.ensures refl
    c.in_ok-add_broken.ensures)

pub add_string-returns-clause-kept : goal.add_string-returns-clause-kept
add_string-returns-clause-kept t c =
    kept-then _ (found_of c.add_held.new.found) _ c.in_ok-add_held.ensures.kept (record {
      more = record { opened = []; broken = list_of c.broken_string-broken.result };
      added = λ i. record {
        opened = sym (append-nil c.add_held.new.found.opened.items) i;
        broken = c.in_ok-add_broken.ensures i;
      };
    })

pub add_held-returns-then-spot-ge-DEPTH_LIMIT-clause-held : goal.add_held-returns-then-spot-ge-DEPTH_LIMIT-clause-held
add_held-returns-then-spot-ge-DEPTH_LIMIT-clause-held t c = λ h contents e. (
  λ u. absurd (cc (u)),
  λ s.
      absurd (elim c.then-spot-ge-DEPTH_LIMIT.branch [
        | add_held-then-spot-ge-DEPTH_LIMIT-via-then-spot-ge-DEPTH_LIMIT w ↦
            holds-too_deep c.args.spot.now.depth h contents c.args.octets.now e w.if-spot-ge-DEPTH_LIMIT.true s
        | add_held-then-spot-ge-DEPTH_LIMIT-via-else-spot-ge-DEPTH_LIMIT+then-is_empty w ↦
            holds-nothing c.args.spot.now.depth h contents c.args.octets.now e
            (sym w.is_empty.ensures ∙ w.if-is_empty.true) s
      ]),
)

pub add_held-returns-then-spot-ge-DEPTH_LIMIT-clause-kept : goal.add_held-returns-then-spot-ge-DEPTH_LIMIT-clause-kept
add_held-returns-then-spot-ge-DEPTH_LIMIT-clause-kept t c = kept-all (found_of c.args.found.now)

pub add_held-returns-then-sound-clause-held : goal.add_held-returns-then-sound-clause-held
add_held-returns-then-sound-clause-held t c = λ h contents e.
    subst (λ (k : Bool). IsTrue k ↔ HoldsSome c.args.spot.now.depth h contents) c.if-sound.true
    (holds-if c.args.spot.now.depth h contents c.args.octets.now e c.in_ok-sound.sound
    (length c.args.octets.now)
    c.if-spot-ge-DEPTH_LIMIT.false (sym c.is_empty.ensures ∙ c.if-is_empty.false)
    (says-inside (spot_held c.args.spot.now c.args.start) 0 (c.args.spot.now.depth + 1) true false c.args.octets.now
    _ refl refl refl c.in_ok-sound.ensures.sound))

pub add_held-returns-then-sound-clause-tries : goal.add_held-returns-then-sound-clause-tries
add_held-returns-then-sound-clause-tries t c = record {
  size = (length c.args.octets.now);
  adds =
      subst
      (λ (o : FoundStrings). AddsAll (spot_held c.args.spot.now c.args.start) 0 false c.args.octets.now o
      (found_of c.add_all_strings.new.found) (length c.args.octets.now))
      (λ i. record {
        opened = c.in_ok-push.ensures.items i;
        broken = sym (append-nil c.args.found.now.broken.items) i;
      })
      c.in_ok-sound.ensures.adds;
}

pub add_held-returns-then-sound-clause-kept : goal.add_held-returns-then-sound-clause-kept
add_held-returns-then-sound-clause-kept t c =
    kept-pushed _ _ _ (record { opened = c.args.offset ∷ []; broken = [] })
    (λ i. record {
      opened = c.in_ok-push.ensures.items i;
      broken = sym (append-nil c.args.found.now.broken.items) i;
    })
    c.in_ok-sound.ensures.kept

pub add_held-returns-clause-held : goal.add_held-returns-clause-held
add_held-returns-clause-held t c = λ h contents e.
    subst (λ (k : Bool). IsTrue k ↔ HoldsSome c.args.spot.now.depth h contents) c.if-sound.false
    (holds-if c.args.spot.now.depth h contents c.args.octets.now e c.in_ok-sound.sound
    (length c.args.octets.now)
    c.if-spot-ge-DEPTH_LIMIT.false (sym c.is_empty.ensures ∙ c.if-is_empty.false)
    (says-inside (spot_held c.args.spot.now c.args.start) 0 (c.args.spot.now.depth + 1) true false c.args.octets.now
    _ refl refl refl c.in_ok-sound.ensures.sound))

pub add_held-returns-clause-kept : goal.add_held-returns-clause-kept
add_held-returns-clause-kept t c =
    let kept : IsKept (found_of c.args.found.now) (found_of c.add_all_strings.new.found) =
    kept-pushed _ _ _ (record { opened = c.args.offset ∷ []; broken = [] })
    (λ i. record {
      opened = c.in_ok-push.ensures.items i;
      broken = sym (append-nil c.args.found.now.broken.items) i;
    })
    c.in_ok-sound.ensures.kept in
    let count_opened : c.len-opened.result ≡ vec_len c.args.found.now.opened = c.len-opened.ensures in
    let count_broken : c.len-broken.result ≡ vec_len c.args.found.now.broken = c.len-broken.ensures in
    kept-same _ _ (λ i. record {
      opened =
          (c.truncate.ensures.items
          ∙ kept-opened (found_of c.args.found.now) (found_of c.add_all_strings.new.found) _ kept
          (omega (arith, c.args.found.now.opened.ok.0, count_opened))) i;
      broken =
          (c.truncate-2.ensures.items
          ∙ kept-broken (found_of c.args.found.now) (found_of c.add_all_strings.new.found) _ kept
          (omega (arith, c.args.found.now.broken.ok.0, count_broken))) i;
    })
