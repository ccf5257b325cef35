-- The frames that are kept in an array, outermost first.
use Rattle.std.proofs.Common.{◌≡◌, ℕ, zero, suc, ◌+◌, ◌<◌, ◌≤◌, ◌&&◌, ◌||◌, Bool, true, false, min, not, List, [], ◌∷◌}
use Rattle.std.proofs.Common.{◌++◌, length, get_or, reverse, refl, sym, subst, ap, ap₂, ◌∙◌, arith}
use Rattle.std.proofs.lemmas.List.{length-map, map-append, reverse-append}
use Rattle.tlv_show.specs.declared.segment_frame.SegmentFrame.{SegmentFrame}
use Rattle.tlv_show.specs.Private.SegmentCharacters.{AreDone, is_done, kept_frames, segments_after_octets_from}
use Rattle.tlv_show.specs.SegmentCharacters.{has_wrong_octet}
use Rattle.tlv_show.specs.SegmentCharactersState.{segment_after_octets, segments_after_octets}

-- ---- the first frames look at no octets

pub done_stays : (w : SegmentFrame) (octets : List ℕ) → is_done w ≡ true → segment_after_octets w octets ≡ w
done_stays w octets done =
    ap (λ (k : Bool). record w { has_wrong = k })
    (by w.in_contents w.has_wrong (has_wrong_octet w.number octets) done)
  where
    by : (i x a : Bool) → (not i || x) ≡ true → (x || (i && a)) ≡ x
    by i true a d = refl
    by true false a d = absurd (cc (d))
    by false false a d = refl

pub done_pushed : (n : ℕ) (outer : List SegmentFrame) (w : SegmentFrame) → AreDone n outer → AreDone n (outer ++ w ∷ [])
done_pushed zero outer w done = tt
done_pushed (suc n) [] w done = absurd done
done_pushed (suc n) (v ∷ outer) w done = (done.0, done_pushed n outer w done.1)

pub done-fewer : (n m : ℕ) (outer : List SegmentFrame) → m ≤ n → AreDone n outer → AreDone m outer
done-fewer n zero outer few done = tt
done-fewer zero (suc m) outer few done = absurd (omega arith)
done-fewer (suc n) (suc m) [] few done = done
done-fewer (suc n) (suc m) (v ∷ outer) few done = (done.0, done-fewer n m outer (omega arith) done.1)

pub done_taken : (n : ℕ) (outer : List SegmentFrame) (w : SegmentFrame) → AreDone n (outer ++ w ∷ [])
    → AreDone (min n (length outer)) outer
done_taken zero outer w done =
    let none : 0 ≡ min 0 (length outer) = omega arith in subst (λ (k : ℕ). AreDone k outer) none tt
done_taken (suc n) [] w done =
    let none : 0 ≡ min (suc n) 0 = omega arith in subst (λ (k : ℕ). AreDone k []) none tt
done_taken (suc n) (v ∷ outer) w done =
    let more : suc (min n (length outer)) ≡ min (suc n) (length (v ∷ outer)) = omega arith in
    let rest : AreDone (suc (min n (length outer))) (v ∷ outer) = (done.0, done_taken n outer w done.1) in
    subst (λ (k : ℕ). AreDone k (v ∷ outer)) more rest

done-next-suc : (n : ℕ) (outer : List SegmentFrame) (w : SegmentFrame) → AreDone n outer → n < length outer
    → is_done (get_or outer n w) ≡ true → AreDone (suc n) outer
done-next-suc zero [] w done few one_more = absurd (omega arith)
done-next-suc zero (v ∷ outer) w done few one_more = (one_more, tt)
done-next-suc (suc n) [] w done few one_more = absurd (omega arith)
done-next-suc (suc n) (v ∷ outer) w done few one_more =
    (done.0, done-next-suc n outer w done.1 (omega arith) one_more)

pub done_next : (n : ℕ) (outer : List SegmentFrame) (w : SegmentFrame) → AreDone n outer → n < length outer
    → is_done (get_or outer n w) ≡ true → AreDone (n + 1) outer
done_next n outer w done few one_more =
    let next : suc n ≡ n + 1 = omega arith in
    subst (λ (k : ℕ). AreDone k outer) next (done-next-suc n outer w done few one_more)

-- ---- octets

pub done_after : (n : ℕ) (octets : List ℕ) (outer : List SegmentFrame) → AreDone n outer
    → AreDone n (segments_after_octets_from n octets outer)
done_after zero octets outer done = tt
done_after (suc n) octets [] done = absurd done
done_after (suc n) octets (w ∷ outer) done = (done.0, done_after n octets outer done.1)

pub after_from_done : (n : ℕ) (octets : List ℕ) (outer : List SegmentFrame) → AreDone n outer
    → segments_after_octets_from n octets outer ≡ segments_after_octets octets outer
after_from_done zero octets outer done = refl
after_from_done (suc n) octets [] done = absurd done
after_from_done (suc n) octets (w ∷ outer) done =
    ap₂ (λ (v : SegmentFrame) (l : List SegmentFrame). v ∷ l) (sym (done_stays w octets done.0))
    (after_from_done n octets outer done.1)

pub after_all_done : (octets : List ℕ) (outer : List SegmentFrame) → AreDone (length outer) outer
    → segments_after_octets octets outer ≡ outer
after_all_done octets [] done = refl
after_all_done octets (w ∷ outer) done =
    ap₂ (λ (v : SegmentFrame) (l : List SegmentFrame). v ∷ l) (done_stays w octets done.0)
    (after_all_done octets outer done.1)

pub length-after : (n : ℕ) (octets : List ℕ) (outer : List SegmentFrame)
    → length (segments_after_octets_from n octets outer) ≡ length outer
length-after zero octets outer = length-map outer (λ (w : SegmentFrame). segment_after_octets w octets)
length-after (suc n) octets [] = refl
length-after (suc n) octets (w ∷ outer) = ap suc (length-after n octets outer)

pub after-past_end : (n : ℕ) (octets : List ℕ) (outer : List SegmentFrame) → length outer ≤ n
    → segments_after_octets_from n octets outer ≡ outer
after-past_end zero octets [] past = refl
after-past_end zero octets (w ∷ outer) past = absurd (omega arith)
after-past_end (suc n) octets [] past = refl
after-past_end (suc n) octets (w ∷ outer) past =
    ap (λ (l : List SegmentFrame). w ∷ l) (after-past_end n octets outer (omega arith))

-- ---- innermost first

pub reverse_after : (octets : List ℕ) (outer : List SegmentFrame)
    → reverse (segments_after_octets octets outer) ≡ segments_after_octets octets (reverse outer)
reverse_after octets [] = refl
reverse_after octets (w ∷ outer) =
    let v : SegmentFrame = segment_after_octets w octets in
    reverse-append (v ∷ []) (segments_after_octets octets outer)
    ∙ ap (λ (l : List SegmentFrame). l ++ v ∷ []) (reverse_after octets outer)
    ∙ sym (map-append (λ (u : SegmentFrame). segment_after_octets u octets) (reverse outer) (w ∷ []))
    ∙ ap (segments_after_octets octets) (sym (reverse-append (w ∷ []) outer))

pub kept_after : (is_open : Bool) (octets : List ℕ) (w v : SegmentFrame) (outer new : List SegmentFrame)
    → v ≡ segment_after_octets w octets → new ≡ segments_after_octets octets outer
    → kept_frames is_open v new ≡ segments_after_octets octets (kept_frames is_open w outer)
kept_after false octets w v outer new e f = refl
kept_after true octets w v outer new e f =
    ap₂ (λ (u : SegmentFrame) (l : List SegmentFrame). u ∷ l) e (ap reverse f ∙ reverse_after octets outer)
