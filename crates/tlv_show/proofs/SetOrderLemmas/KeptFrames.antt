-- The frames that are kept in an array, outermost first.
use Rattle.std.proofs.Common.{◌≡◌, ℕ, zero, suc, ◌+◌, ◌<◌, ◌≤◌, true, min, List, [], ◌∷◌, ◌++◌, length}
use Rattle.std.proofs.Common.{get_or, reverse, refl, sym, subst, ap, ap₂, ◌∙◌, arith}
use Rattle.std.proofs.lemmas.List.{length-map, map-append, reverse-append}
use Rattle.tlv_show.specs.declared.set_frame.SetFrame.{SetFrame}
use Rattle.tlv_show.specs.Private.SetOrder.{NeedNoOctets, frames_after_octets_from}
use Rattle.tlv_show.specs.SetOrderState.{frame_after_octets, frames_after_octets, has_all_compared}
use Rattle.tlv_show.proofs.SetOrderLemmas.Compared.{full-stays}

-- ---- the first frames need no more octets

pub full_pushed : (n : ℕ) (outer : List SetFrame) (w : SetFrame) → NeedNoOctets n outer → NeedNoOctets n (outer ++ w ∷ [])
full_pushed zero outer w full = tt
full_pushed (suc n) [] w full = absurd full
full_pushed (suc n) (v ∷ outer) w full = (full.0, full_pushed n outer w full.1)

pub full-fewer : (n m : ℕ) (outer : List SetFrame) → m ≤ n → NeedNoOctets n outer → NeedNoOctets m outer
full-fewer n zero outer few full = tt
full-fewer zero (suc m) outer few full = absurd (omega arith)
full-fewer (suc n) (suc m) [] few full = full
full-fewer (suc n) (suc m) (v ∷ outer) few full = (full.0, full-fewer n m outer (omega arith) full.1)

pub full_taken : (n : ℕ) (outer : List SetFrame) (w : SetFrame) → NeedNoOctets n (outer ++ w ∷ [])
    → NeedNoOctets (min n (length outer)) outer
full_taken zero outer w full =
    let none : 0 ≡ min 0 (length outer) = omega arith in subst (λ (k : ℕ). NeedNoOctets k outer) none tt
full_taken (suc n) [] w full =
    let none : 0 ≡ min (suc n) 0 = omega arith in subst (λ (k : ℕ). NeedNoOctets k []) none tt
full_taken (suc n) (v ∷ outer) w full =
    let more : suc (min n (length outer)) ≡ min (suc n) (length (v ∷ outer)) = omega arith in
    let rest : NeedNoOctets (suc (min n (length outer))) (v ∷ outer) = (full.0, full_taken n outer w full.1) in
    subst (λ (k : ℕ). NeedNoOctets k (v ∷ outer)) more rest

full-next-suc : (n : ℕ) (outer : List SetFrame) (w : SetFrame) → NeedNoOctets n outer → n < length outer
    → has_all_compared (get_or outer n w) ≡ true → NeedNoOctets (suc n) outer
full-next-suc zero [] w full few one_more = absurd (omega arith)
full-next-suc zero (v ∷ outer) w full few one_more = (one_more, tt)
full-next-suc (suc n) [] w full few one_more = absurd (omega arith)
full-next-suc (suc n) (v ∷ outer) w full few one_more =
    (full.0, full-next-suc n outer w full.1 (omega arith) one_more)

pub full_next : (n : ℕ) (outer : List SetFrame) (w : SetFrame) → NeedNoOctets n outer → n < length outer
    → has_all_compared (get_or outer n w) ≡ true → NeedNoOctets (n + 1) outer
full_next n outer w full few one_more =
    let next : suc n ≡ n + 1 = omega arith in
    subst (λ (k : ℕ). NeedNoOctets k outer) next (full-next-suc n outer w full few one_more)

-- ---- octets

pub full_after : (n : ℕ) (octets : List ℕ) (outer : List SetFrame) → NeedNoOctets n outer
    → NeedNoOctets n (frames_after_octets_from n octets outer)
full_after zero octets outer full = tt
full_after (suc n) octets [] full = absurd full
full_after (suc n) octets (w ∷ outer) full = (full.0, full_after n octets outer full.1)

pub after_from_full : (n : ℕ) (octets : List ℕ) (outer : List SetFrame) → NeedNoOctets n outer
    → frames_after_octets_from n octets outer ≡ frames_after_octets octets outer
after_from_full zero octets outer full = refl
after_from_full (suc n) octets [] full = absurd full
after_from_full (suc n) octets (w ∷ outer) full =
    ap₂ (λ (v : SetFrame) (l : List SetFrame). v ∷ l) (sym (full-stays w octets full.0))
    (after_from_full n octets outer full.1)

pub after_all_full : (octets : List ℕ) (outer : List SetFrame) → NeedNoOctets (length outer) outer
    → frames_after_octets octets outer ≡ outer
after_all_full octets [] full = refl
after_all_full octets (w ∷ outer) full =
    ap₂ (λ (v : SetFrame) (l : List SetFrame). v ∷ l) (full-stays w octets full.0)
    (after_all_full octets outer full.1)

pub length-after : (n : ℕ) (octets : List ℕ) (outer : List SetFrame)
    → length (frames_after_octets_from n octets outer) ≡ length outer
length-after zero octets outer = length-map outer (λ (w : SetFrame). frame_after_octets w octets)
length-after (suc n) octets [] = refl
length-after (suc n) octets (w ∷ outer) = ap suc (length-after n octets outer)

pub after-past_end : (n : ℕ) (octets : List ℕ) (outer : List SetFrame) → length outer ≤ n
    → frames_after_octets_from n octets outer ≡ outer
after-past_end zero octets [] past = refl
after-past_end zero octets (w ∷ outer) past = absurd (omega arith)
after-past_end (suc n) octets [] past = refl
after-past_end (suc n) octets (w ∷ outer) past =
    ap (λ (l : List SetFrame). w ∷ l) (after-past_end n octets outer (omega arith))

-- ---- innermost first

pub reverse_after : (octets : List ℕ) (outer : List SetFrame)
    → reverse (frames_after_octets octets outer) ≡ frames_after_octets octets (reverse outer)
reverse_after octets [] = refl
reverse_after octets (w ∷ outer) =
    let v : SetFrame = frame_after_octets w octets in
    reverse-append (v ∷ []) (frames_after_octets octets outer)
    ∙ ap (λ (l : List SetFrame). l ++ v ∷ []) (reverse_after octets outer)
    ∙ sym (map-append (λ (u : SetFrame). frame_after_octets u octets) (reverse outer) (w ∷ []))
    ∙ ap (frames_after_octets octets) (sym (reverse-append (w ∷ []) outer))
