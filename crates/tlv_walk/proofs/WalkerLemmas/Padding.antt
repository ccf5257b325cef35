-- Padding, on a walker's state.
use Rattle.std.proofs.Common.{◌≡◌, ℕ, ◌+◌, Bool, true, false, ◌||◌, List, [], ◌∷◌, ◌++◌, length, map, All, None, refl}
use Rattle.std.proofs.Common.{sym, ap, ◌∙◌, subst, arith, append-nil, length-append}
use Rattle.std.proofs.lemmas.List.Elements.{All-head, All-tail}
use Rattle.std.proofs.Math.Bool.{or-false}
use Rattle.tlv_walk.specs.WalkerState.{Between, PhaseValue, WalkerState}
use Rattle.tlv_walk.specs.Events.{EventValue, Pad, events, single_octets}
use Rattle.tlv_walk.specs.Forest.{Forest, NoMore, PaddingOctet, has_element, is_whole, spelling}
use Rattle.tlv_walk.specs.Place.{ObeysGrammar, Place, place_after}
use Rattle.tlv_walk.specs.Private.Zipper.{NoTail, HasZipper, IsPhaseOf, Layer, Zipper, place_in, place_of}
use Rattle.tlv_walk.specs.Private.Yields.{Continues}
use Rattle.tlv_walk.proofs.WalkerLemmas.ZipperGrowth.{are_whole, element-either, between_tail, phase_at, spelled_whole}
use Rattle.tlv_walk.proofs.WalkerLemmas.ZipperGrowth.{tail_state, yielded_whole, with_layers}
use Rattle.tlv_walk.proofs.WalkerLemmas.Zipper.{followed_by}

-- padding
abbrev pub padding_octets : List ℕ → Forest
padding_octets [] = NoMore
padding_octets (x ∷ xs) = PaddingOctet (padding_octets xs)

spelling-padding_octets : (t : List ℕ) → All (λ x. x ≡ 0) t → spelling (padding_octets t) ≡ t
spelling-padding_octets [] z = refl
spelling-padding_octets (x ∷ t) z =
    ap (λ (s : List ℕ). 0 ∷ s) (spelling-padding_octets t (All-tail (λ x. x ≡ 0) x t z))
    ∙ ap (λ (y : ℕ). y ∷ t) (sym (All-head (λ x. x ≡ 0) x t z))

events-padding_octets : (t : List ℕ) → All (λ x. x ≡ 0) t
    → single_octets (events (padding_octets t)) ≡ map (λ x. Pad (x ∷ [])) t
events-padding_octets [] z = refl
events-padding_octets (x ∷ t) z =
    ap (λ (es : List EventValue). Pad (0 ∷ []) ∷ es) (events-padding_octets t (All-tail (λ x. x ≡ 0) x t z))
    ∙ ap (λ (y : ℕ). Pad (y ∷ []) ∷ map (λ x. Pad (x ∷ [])) t) (sym (All-head (λ x. x ≡ 0) x t z))

whole-padding_octets : (t : List ℕ) → is_whole (padding_octets t) ≡ true
whole-padding_octets [] = refl
whole-padding_octets (x ∷ t) = whole-padding_octets t

element-padding_octets : (t : List ℕ) → has_element (padding_octets t) ≡ false
element-padding_octets [] = refl
element-padding_octets (x ∷ t) = element-padding_octets t

open-padding_octets : (p : Place) (t : List ℕ) → p.padding ≡ true → p.indefinite ≡ false → p.bound ≡ None
    → ObeysGrammar p (padding_octets t)
open-padding_octets p [] a d n = tt
open-padding_octets p (x ∷ t) a d n = ((a, d, rw n tt), open-padding_octets (place_after p 1) t a d n)

pad_state : (w : WalkerState) (b : List ℕ) (yielded : List EventValue) (s : Zipper) (t : List ℕ)
    → HasZipper w b yielded (with_layers s [] NoTail) → w.phase ≡ Between → w.framing.padding ≡ true
    → All (λ x. x ≡ 0) t
    → HasZipper (record w { offset = w.offset + length t; events = w.events + 1 }) (b ++ t) (yielded ++ Pad t ∷ [])
    (record {
      layers = [];
      here = followed_by s.here (padding_octets t);
      tail = NoTail;
    })
pad_state w b yielded s t has e padding zeros = record {
  spelled =
      spelled_whole [] s.here (padding_octets t) [] t b has.here.whole (spelling-padding_octets t zeros) has.spelled;
  offset = omega (arith, has.offset, length-append b t);
  stack = has.stack;
  layers = tt;
  here =
      are_whole (place_in w.framing []) s.here (padding_octets t) has.here (open-padding_octets _ t padding refl refl)
      (whole-padding_octets t);
  phase =
      subst
      (λ (f : PhaseValue). IsPhaseOf f NoTail
      (place_of w.framing
      (record { layers = []; here = followed_by s.here (padding_octets t); tail = NoTail })))
      (sym e) tt;
  same_events =
      yielded_whole yielded [] s.here (padding_octets t) [] (Pad t ∷ []) has.here.whole has.same_events
      (events-padding_octets t zeros ∙ sym (append-nil (map (λ x. Pad (x ∷ [])) t)));
  element =
      has.element
      ∙ sym (element-either s.here (padding_octets t) has.here.whole
      ∙ (ap (λ (k : Bool). has_element s.here || k) (element-padding_octets t)
      ∙ or-false (has_element s.here)));
}

pad_from : (w : WalkerState) (b : List ℕ) (yielded : List EventValue) (s : Zipper) (t : List ℕ) (ls : List Layer)
    → HasZipper w b yielded (with_layers s ls NoTail) → w.phase ≡ Between → w.stack ≡ []
    → w.framing.padding ≡ true → All (λ x. x ≡ 0) t
    → (u : Zipper)
    × HasZipper (record w { offset = w.offset + length t; events = w.events + 1 }) (b ++ t)
    (yielded ++ Pad t ∷ []) u
pad_from w b yielded s t [] has e none padding zeros = (_, pad_state w b yielded s t has e padding zeros)
pad_from w b yielded s t (l ∷ ls) has e none padding zeros = absurd (cc (has.stack))

pub yields_pad : (w : WalkerState) (t : List ℕ) (n : ℕ) → w.phase ≡ Between → w.stack ≡ []
    → w.framing.padding ≡ true → All (λ x. x ≡ 0) t → n ≡ length t
    → Continues w (record w { offset = w.offset + n; events = w.events + 1 }) t (Pad t ∷ [])
yields_pad w t n e none padding zeros len =
    subst (λ (m : ℕ). Continues w (record w { offset = w.offset + m; events = w.events + 1 }) t (Pad t ∷ []))
    (sym len) (record {
      framing = refl;
      wrapper_count = refl;
      next_zipper = λ b yielded s has.
          let tail = between_tail s.tail _ (phase_at w b yielded s _ e has) in
          pad_from w b yielded s t s.layers (tail_state w b yielded s _ tail has) e none padding zeros;
    })
