-- What a frame keeps of octets: the first ones, and how they compare with those of the neighbour.
use Rattle.std.proofs.Common.{◌≡◌, ℕ, ◌+◌, ◌≤◌, ◌&&◌, ◌||◌, ◌==◌, not, Bool, true, false, nat_lt, if◌then◌else◌}
use Rattle.std.proofs.Common.{List, [], ◌∷◌, ◌++◌, length, take, set, refl, sym, subst, ap, ap₂, ◌∙◌, arith}
use Rattle.std.proofs.Common.{append_assoc, length-append}
use Rattle.std.proofs.lemmas.Bool.{eqb-true}
use Rattle.std.proofs.lemmas.Bool.Decides.{nat_tests}
use Rattle.std.proofs.Math.Seq.{get_or-append_seam, set-append_seam}
use Rattle.std.proofs.lemmas.List.{length-replicate, length-take-le}
use Rattle.std.specs.Prelude.{slice_index}
use Rattle.tlv_show.specs.declared.set_frame.SetFrame.{SetFrame}
use Rattle.tlv_show.specs.SetOrder.{compared_count, compared_octets, is_smaller, zeros}
use Rattle.tlv_show.specs.SetOrderState.{frame_after_octet, frame_after_octets, frame_compared, frames_after_octets}
use Rattle.tlv_show.specs.SetOrderState.{has_all_compared}

pub length-zeros : length zeros ≡ 64
unfolding zeros
length-zeros = length-replicate {A = ℕ} 64 0

-- ---- octets one after another

pub after-append : (w : SetFrame) (a b : List ℕ)
    → frame_after_octets w (a ++ b) ≡ frame_after_octets (frame_after_octets w a) b
after-append w [] b = refl
after-append w (x ∷ a) b = after-append (frame_after_octet w x) a b

pub all-after-append : (a b : List ℕ) (outer : List SetFrame)
    → frames_after_octets (a ++ b) outer ≡ frames_after_octets b (frames_after_octets a outer)
all-after-append a b [] = refl
all-after-append a b (w ∷ outer) = ap₂ (λ v l. v ∷ l) (after-append w a b) (all-after-append a b outer)

-- ---- a frame that needs no more octets

past-stays-one : (w : SetFrame) (x : ℕ) → 64 ≤ w.count → frame_after_octet w x ≡ w
past-stays-one w x past =
    let no : nat_lt w.count 64 ≡ false = grind (arith, nat_tests) in
    ap (λ (k : Bool). if k then frame_compared w x (slice_index w.octets w.count) else w) no

pub past_stays : (w : SetFrame) (octets : List ℕ) → 64 ≤ w.count → frame_after_octets w octets ≡ w
past_stays w [] past = refl
past_stays w (x ∷ octets) past =
    ap (λ (v : SetFrame). frame_after_octets v octets) (past-stays-one w x past) ∙ past_stays w octets past

pub full-stays : (w : SetFrame) (octets : List ℕ) → has_all_compared w ≡ true → frame_after_octets w octets ≡ w
full-stays w octets full = past_stays w octets (omega (arith, eqb-true w.count 64 full))

-- ---- the number of open elements does not matter

abbrev pub with_open : ℕ → SetFrame → SetFrame
with_open n w = record w { open_count = n }

open-one : (n : ℕ) (w : SetFrame) (x : ℕ)
    → frame_after_octet (with_open n w) x ≡ with_open n (frame_after_octet w x)
open-one n w x = by (nat_lt w.count compared_count)
  where
    by : (k : Bool)
        → (if k then frame_compared (with_open n w) x (slice_index w.octets w.count) else with_open n w)
        ≡ with_open n (if k then frame_compared w x (slice_index w.octets w.count) else w)
    by true = refl
    by false = refl

pub after-open : (n : ℕ) (w : SetFrame) (octets : List ℕ)
    → frame_after_octets (with_open n w) octets ≡ with_open n (frame_after_octets w octets)
after-open n w [] = refl
after-open n w (x ∷ octets) =
    ap (λ (v : SetFrame). frame_after_octets v octets) (open-one n w x)
    ∙ after-open n (frame_after_octet w x) octets

-- ---- what octets do not change

pub record SameElement (w v : SetFrame) : Type 0 where
  pub offset : v.offset ≡ w.offset
  pub number : v.number ≡ w.number
  pub class : v.class ≡ w.class
  pub open_count : v.open_count ≡ w.open_count
  pub octets_decide : v.octets_decide ≡ w.octets_decide

same-one : (w : SetFrame) (x : ℕ) → SameElement w (frame_after_octet w x)
same-one w x = by (nat_lt w.count compared_count)
  where
    by : (k : Bool)
        → SameElement w (if k then frame_compared w x (slice_index w.octets w.count) else w)
    by true = record { offset = refl; number = refl; class = refl; open_count = refl; octets_decide = refl }
    by false = record { offset = refl; number = refl; class = refl; open_count = refl; octets_decide = refl }

same-then : {u w t : SetFrame} → SameElement u w → SameElement w t → SameElement u t
same-then a b = record {
  offset = b.offset ∙ a.offset;
  number = b.number ∙ a.number;
  class = b.class ∙ a.class;
  open_count = b.open_count ∙ a.open_count;
  octets_decide = b.octets_decide ∙ a.octets_decide;
}

pub same-after : (w : SetFrame) (octets : List ℕ) → SameElement w (frame_after_octets w octets)
same-after w [] = record { offset = refl; number = refl; class = refl; open_count = refl; octets_decide = refl }
same-after w (x ∷ octets) = same-then (same-one w x) (same-after (frame_after_octet w x) octets)

-- ---- as many octets as are compared

-- `n` are the neighbour's octets that are still to be compared, and `p` those of the element that have been
record IsAllCompared (w v : SetFrame) (p n octets : List ℕ) : Type 0 where
  octets_are : v.octets ≡ p ++ take (length n) octets
  smaller : v.is_smaller ≡ (w.is_smaller || (not w.differs && is_smaller octets n))

or-none : (s d : Bool) → s ≡ (s || (not d && false))
or-none true d = refl
or-none false true = refl
or-none false false = refl

smaller-than-none : (octets : List ℕ) → false ≡ is_smaller octets []
smaller-than-none [] = refl
smaller-than-none (x ∷ octets) = refl

smaller-next : (s d less same rest : Bool)
    → ((s || (not d && less)) || (not (d || not same) && rest)) ≡ (s || (not d && (less || (same && rest))))
smaller-next true d less same rest = refl
smaller-next false true less same rest = refl
smaller-next false false true same rest = refl
smaller-next false false false true rest = refl
smaller-next false false false false rest = refl

all-compared : (w : SetFrame) (p n octets : List ℕ) → w.octets ≡ p ++ n → w.count ≡ length p
    → length p + length n ≡ 64 → length n ≤ length octets
    → IsAllCompared w (frame_after_octets w octets) p n octets
all-compared w p [] octets o c all enough =
    let full : has_all_compared w ≡ true = grind (arith, nat_tests) in
    let stays : frame_after_octets w octets ≡ w = full-stays w octets full in
    record {
      octets_are = ap (λ (v : SetFrame). v.octets) stays ∙ o;
      smaller =
          ap (λ (v : SetFrame). v.is_smaller) stays ∙ or-none w.is_smaller w.differs
          ∙ ap (λ (k : Bool). w.is_smaller || (not w.differs && k)) (smaller-than-none octets);
    }
all-compared w p (y ∷ n) [] o c all enough = absurd (omega arith)
all-compared w p (y ∷ n) (x ∷ octets) o c all enough =
    let more : nat_lt w.count 64 ≡ true = grind (arith, nat_tests) in
    let other : slice_index w.octets w.count ≡ y =
    ap₂ (λ (l : List ℕ) (k : ℕ). slice_index l k) o c ∙ get_or-append_seam p y n 0 in
    let next : frame_after_octet w x ≡ frame_compared w x y =
    ap (λ (k : Bool). if k then frame_compared w x (slice_index w.octets w.count) else w) more
    ∙ ap (frame_compared w x) other in
    let put : set w.octets w.count x ≡ (p ++ x ∷ []) ++ n =
    ap₂ (λ (l : List ℕ) (k : ℕ). set l k x) o c ∙ set-append_seam p y n x
    ∙ sym (append_assoc p (x ∷ []) n) in
    let r =
    all-compared (frame_compared w x y) (p ++ x ∷ []) n octets put (omega (arith, c, length-append p (x ∷ [])))
    (omega (arith, all, length-append p (x ∷ []))) (omega (arith, enough)) in
    let all_next : frame_after_octets (frame_after_octet w x) octets ≡ frame_after_octets (frame_compared w x y) octets =
    ap (λ (v : SetFrame). frame_after_octets v octets) next in
    record {
      octets_are =
          ap (λ (v : SetFrame). v.octets) all_next ∙ r.octets_are
          ∙ append_assoc p (x ∷ []) (take (length n) octets);
      smaller =
          ap (λ (v : SetFrame). v.is_smaller) all_next ∙ r.smaller
          ∙ smaller-next w.is_smaller w.differs (nat_lt x y) (x == y) (is_smaller octets n);
    }

smaller-by-first : (octets n : List ℕ) → is_smaller octets n ≡ is_smaller (take (length n) octets) n
smaller-by-first [] [] = refl
smaller-by-first [] (y ∷ n) = refl
smaller-by-first (x ∷ octets) [] = refl
smaller-by-first (x ∷ octets) (y ∷ n) =
    ap (λ (k : Bool). nat_lt x y || (x == y && k)) (smaller-by-first octets n)

pub length-compared : (octets : List ℕ) → length (compared_octets octets) ≡ 64
length-compared octets =
    length-take-le 64 (octets ++ zeros) (omega (arith, length-append octets zeros, length-zeros))

-- ---- an element from its first octet to its end

-- a frame with the octets of the neighbour, before the element's first octet
pub record IsFrameReady (w : SetFrame) : Type 0 where
  pub all : length w.octets ≡ 64
  pub none_yet : w.count ≡ 0
  pub same : w.differs ≡ false
  pub no_smaller : w.is_smaller ≡ false

pub record IsCompared (w v : SetFrame) (octets : List ℕ) : Type 0 where
  pub octets_are : v.octets ≡ compared_octets octets
  pub smaller : v.is_smaller ≡ is_smaller (compared_octets octets) w.octets
  pub element : SameElement w v

pub element-compared : (w : SetFrame) (octets : List ℕ) → IsFrameReady w
    → IsCompared w (frame_after_octets (frame_after_octets w octets) zeros) octets
element-compared w octets r =
    let joined : frame_after_octets w (octets ++ zeros) ≡ frame_after_octets (frame_after_octets w octets) zeros =
    after-append w octets zeros in
    let enough : length w.octets ≤ length (octets ++ zeros) =
    omega (arith, length-append octets zeros, length-zeros, r.all) in
    let c = all-compared w [] w.octets (octets ++ zeros) refl r.none_yet (omega (arith, r.all)) enough in
    let cut : take (length w.octets) (octets ++ zeros) ≡ compared_octets octets =
    ap (λ (n : ℕ). take n (octets ++ zeros)) r.all in
    subst (λ (v : SetFrame). IsCompared w v octets) joined
    (record {
      octets_are = c.octets_are ∙ cut;
      smaller =
          c.smaller
          ∙ ap₂ (λ (s d : Bool). s || (not d && is_smaller (octets ++ zeros) w.octets)) r.no_smaller r.same
          ∙ smaller-by-first (octets ++ zeros) w.octets
          ∙ ap (λ (l : List ℕ). is_smaller l w.octets) cut;
      element = same-after w (octets ++ zeros);
    })
