-- Over the events of a forest, exactly the elements are found that are out of order.
use Rattle.std.proofs.Common.{◌≡◌, ℕ, ◌+◌, ◌<◌, ◌≤◌, ◌==◌, true, false, List, [], ◌∷◌, ◌++◌, length, refl, sym, ap}
use Rattle.std.proofs.Common.{ap₂, ◌∙◌, subst, arith, append_assoc}
use Rattle.std.proofs.lemmas.Bool.{true≢false}
use Rattle.std.proofs.lemmas.List.{length-map}
use Rattle.std.specs.Prelude.{Option, Some, None}
use Rattle.tlv_head.specs.Header.{HeaderValue, octets_of}
use Rattle.tlv_walk.specs.Events.{EventValue, closing_event, events}
use Rattle.tlv_walk.specs.Forest.{Forest, Holder, NoMore, OpenBitString, OpenEndOctets, OpenHeader, OpenHolder}
use Rattle.tlv_walk.specs.Forest.{OpenPrimitive, PaddingOctet, Primitive, end_octets, holder_extent, is_whole, opening}
use Rattle.tlv_walk.specs.Forest.{primitive_extent, spelling}
use Rattle.tlv_walk.specs.Place.{ObeysGrammar, Place, place_after, place_of_children, top_place}
use Rattle.tlv_walk.proofs.GrammarLemmas.Spellings.{append_assoc-3}
use Rattle.tlv_show.specs.declared.rules.Rules.{Rules}
use Rattle.tlv_show.specs.declared.set_frame.SetFrame.{SetFrame}
use Rattle.tlv_show.specs.SetOrder.{Element, holder_element, is_set}
use Rattle.tlv_show.specs.SetOrder.{out_of_order_offsets, primitive_element}
use Rattle.tlv_show.specs.SetOrderState.{OutOfOrderIsFound, SetOrderState, frame_after_octets, frames_after_octets}
use Rattle.tlv_show.specs.SetOrderState.{is_direct, new_set_order, set_order_close_step, set_order_found}
use Rattle.tlv_show.specs.SetOrderState.{set_order_octets_step}
use Rattle.tlv_show.specs.SetOrderState.{set_order_offsets, set_order_step}
use Rattle.tlv_show.proofs.FindingLemmas.SiteWords.{is_held_by}
use Rattle.tlv_show.proofs.SetOrderLemmas.Compared.{all-after-append}
use Rattle.tlv_show.proofs.SetOrderLemmas.Events.{IsAfter, SetOrderRun, closed-is, opened-knows, opened_state, run-closing}
use Rattle.tlv_show.proofs.SetOrderLemmas.Events.{run-opening, run-primitive, run_more, run_set_order, then_offsets}
use Rattle.tlv_show.proofs.SetOrderLemmas.OneElement.{IsElementTaken, Knows, element-taken, element_step}
use Rattle.tlv_show.proofs.SetOrderLemmas.OneElement.{ended_offsets, octets_step-append}

pub after-none : (outer : List SetFrame) → outer ≡ frames_after_octets [] outer
after-none [] = refl
after-none (w ∷ outer) = ap (λ (l : List SetFrame). w ∷ l) (after-none outer)

module _ (rules : Rules) where
  -- what is found and kept of a forest, if this holds it, and this is right before it
  record IsRunAs (p : Place) (s : SetOrderState) (holder : Option HeaderValue) (neighbour : Option Element) (f : Forest)
      : Type 0 where
    found : (run_set_order rules s (events f)).found ≡ out_of_order_offsets rules holder neighbour f
    after : p.padding ≡ false → is_whole f ≡ true
        → IsAfter rules s (spelling f) (run_set_order rules s (events f)).state

  -- one element, and then other whole ones
  pub after-more : (s : SetOrderState) (holder : Option HeaderValue) (neighbour : Option Element) (e : Element)
      (t : SetOrderState) (octets : List ℕ) (u : SetOrderState) → IsElementTaken rules s holder neighbour e t
      → IsAfter rules t octets u → IsAfter rules s (e.octets ++ octets) u
  after-more s holder neighbour e t octets u k a =
      let direct : is_direct t.frame ≡ is_direct s.frame = ap (λ (n : ℕ). n == 0) k.open_count in
      record {
        inside = λ outside.
            a.inside (direct ∙ outside)
            ∙ ap (λ (v : SetOrderState). set_order_octets_step v octets) (k.inside outside)
            ∙ sym (octets_step-append s e.octets octets);
        directly = λ d. (
          (a.directly (direct ∙ d)).0,
          (a.directly (direct ∙ d)).1
              ∙ ap (frames_after_octets octets) k.outer
              ∙ sym (all-after-append e.octets octets s.outer),
        );
      }

  is-after-same : (s : SetOrderState) (octets more : List ℕ) (t u : SetOrderState) → octets ≡ more → u ≡ t
      → IsAfter rules s octets t → IsAfter rules s more u
  is-after-same s octets more t u same_octets same a =
      subst (λ (l : List ℕ). IsAfter rules s l u) same_octets
      (subst (λ (x : SetOrderState). IsAfter rules s octets x) (sym same) a)

  length-taken : (s : SetOrderState) (holder : Option HeaderValue) (neighbour : Option Element) (e : Element)
      (t : SetOrderState) → IsElementTaken rules s holder neighbour e t → length t.outer ≡ length s.outer
  length-taken s holder neighbour e t k =
      ap length k.outer ∙ length-map s.outer (λ (w : SetFrame). frame_after_octets w e.octets)

  order-forest : (p : Place) (s : SetOrderState) (holder : Option HeaderValue) (neighbour : Option Element) (f : Forest)
      → ObeysGrammar p f → Knows s holder neighbour → s.frame.open_count ≤ p.depth + 1 → length s.outer ≤ p.depth
      → (p.padding ≡ true → holder ≡ None)
      → IsRunAs p s holder neighbour f
  order-forest p s holder neighbour NoMore v k limit few free = record {
    found = refl;
    after = λ z whole. record {
      inside = λ outside. ap (λ (l : List SetFrame). record { frame = s.frame; outer = l }) (after-none s.outer);
      directly = λ d. (d, after-none s.outer);
    };
  }
  order-forest p s holder neighbour (PaddingOctet rest) v k limit few free =
      let outside : is_direct s.frame ≡ false = k.direct ∙ ap (is_held_by is_set) (free v.0.0) in
      let known : Knows s holder None =
      record { direct = k.direct; before = λ d. absurd (true≢false (sym d ∙ outside)) } in
      let r = order-forest (place_after p 1) s holder None rest v.1 known limit few free in
      record { found = r.found; after = λ z whole. absurd (true≢false (sym v.0.0 ∙ z)) }
  order-forest p s holder neighbour (Primitive h c rest) v k limit few free =
      let e : Element = primitive_element h c in
      let t : SetOrderState = element_step rules s e in
      let taken = element-taken rules s holder neighbour e k in
      let same : length t.outer ≡ length s.outer = length-taken s holder neighbour e t taken in
      let r =
      order-forest (place_after p (primitive_extent h c)) t holder (Some e) rest v.1 taken.knows
      (omega (arith, limit, taken.open_count)) (omega (arith, few, same)) free in
      let run = run-primitive rules s h c (events rest) in
      record {
        found = ap (λ (u : SetOrderRun). u.found) run ∙ ap₂ (λ (a b : List ℕ). a ++ b) taken.found r.found;
        after = λ z whole.
            let a =
            after-more s holder neighbour e t (spelling rest) (run_set_order rules t (events rest)).state taken
            (r.after z whole) in
            is-after-same s _ _ _ _ (append_assoc (octets_of h) c (spelling rest))
            (ap (λ (u : SetOrderRun). u.state) run) a;
      }
  order-forest p s holder neighbour (Holder h inside rest) v k limit few free =
      let e : Element = holder_element h inside in
      let t : SetOrderState = element_step rules s e in
      let taken = element-taken rules s holder neighbour e k in
      let same : length t.outer ≡ length s.outer = length-taken s holder neighbour e t taken in
      let room : length s.outer < 128 = omega (arith, few, v.0.0.shallow) in
      let opened = opened-knows rules s h room in
      let i =
      order-forest (place_of_children p h) (opened_state rules s h) (Some h) None inside v.1 opened.knows
      (omega (arith, limit, opened.open_count)) (omega (arith, few, opened.few))
      (λ x. absurd (true≢false (sym x))) in
      let r =
      order-forest (place_after p (holder_extent h inside)) t holder (Some e) rest v.2 taken.knows
      (omega (arith, limit, taken.open_count)) (omega (arith, few, same)) free in
      let u : SetOrderState = (run_set_order rules (opened_state rules s h) (events inside)).state in
      let closed : set_order_close_step u (end_octets h.size) ≡ t =
      closed-is rules s h inside u room (omega (arith, limit, v.0.0.shallow)) (i.after refl v.0.1) in
      let es : List EventValue = closing_event h inside ∷ events rest in
      let put : List ℕ = (run_set_order rules (opened_state rules s h) (events inside)).found in
      let run : run_set_order rules s (events (Holder h inside rest))
      ≡ then_offsets put (then_offsets (ended_offsets t) (run_set_order rules t (events rest))) =
      run-opening rules s h (events inside ++ es)
      ∙ run_more rules (opened_state rules s h) (events inside) es
      ∙ ap (then_offsets put) (run-closing rules u h inside (events rest) v.0.0.header.valid.allowed)
      ∙ ap (λ (x : SetOrderState). then_offsets put (then_offsets (ended_offsets x) (run_set_order rules x (events rest))))
      closed in
      record {
        found =
            ap (λ (x : SetOrderRun). x.found) run
            ∙ ap₂ (λ (a b : List ℕ). a ++ b) i.found (ap₂ (λ (a b : List ℕ). a ++ b) taken.found r.found);
        after = λ z whole.
            let a =
            after-more s holder neighbour e t (spelling rest) (run_set_order rules t (events rest)).state taken
            (r.after z whole) in
            is-after-same s _ _ _ _
            (append_assoc-3 (opening h) (spelling inside) (end_octets h.size) (spelling rest))
            (ap (λ (x : SetOrderRun). x.state) run) a;
      }
  order-forest p s holder neighbour (OpenPrimitive h c) v k limit few free =
      record { found = refl; after = λ z whole. absurd (true≢false (sym whole)) }
  order-forest p s holder neighbour (OpenHolder h inside) v k limit few free =
      let opened = opened-knows rules s h (omega (arith, few, v.0.0.shallow)) in
      let i =
      order-forest (place_of_children p h) (opened_state rules s h) (Some h) None inside v.1 opened.knows
      (omega (arith, limit, opened.open_count)) (omega (arith, few, opened.few))
      (λ x. absurd (true≢false (sym x))) in
      record {
        found = ap (λ (u : SetOrderRun). u.found) (run-opening rules s h (events inside)) ∙ i.found;
        after = λ z whole. absurd (true≢false (sym whole));
      }
  order-forest p s holder neighbour (OpenBitString h) v k limit few free =
      record { found = refl; after = λ z whole. absurd (true≢false (sym whole)) }
  order-forest p s holder neighbour (OpenHeader octets) v k limit few free =
      record { found = refl; after = λ z whole. absurd (true≢false (sym whole)) }
  order-forest p s holder neighbour OpenEndOctets v k limit few free =
      record { found = refl; after = λ z whole. absurd (true≢false (sym whole)) }

same-offsets : (rules : Rules) (s : SetOrderState) (es : List EventValue)
    → set_order_offsets rules s es ≡ (run_set_order rules s es).found
same-offsets rules s [] = refl
same-offsets rules s (e ∷ es) =
    ap (λ (l : List ℕ). set_order_found e (set_order_step rules s e) ++ l)
    (same-offsets rules (set_order_step rules s e) es)

pub out_of_order_found : OutOfOrderIsFound
out_of_order_found rules framing f v =
    same-offsets rules new_set_order (events f)
    ∙ (order-forest rules (top_place framing) new_set_order None None f v
    (record { direct = refl; before = λ d. absurd (true≢false (sym d)) }) (omega arith) (omega arith)
    (λ padding. refl)).found
