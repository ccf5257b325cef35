-- Headers that state other lengths, one after another, and chains of them.
use Rattle.std.proofs.Common.{◌≡◌, ℕ, ◌+◌, ◌-◌, ◌<◌, ◌≤◌, true, false, nat_lt, List, [], ◌∷◌, ◌++◌, length, get_or}
use Rattle.std.proofs.Common.{◌∙◌, ap, arith, drop, inl, inr, length-drop, map, refl, subst, sym, take, take-append-drop}
use borrow.Rule.Slice.PartMut.{Post-is, put_mid}
use Rattle.std.specs.Prelude.{Bool, Option, Some, None, slice_range}
use Rattle.std.specs.List.{filter}
use Rattle.std.specs.Option.{is_some}
use Rattle.std.proofs.lemmas.Bool.{cases_lt, ltb-true, lt-ltb}
use Rattle.std.proofs.lemmas.List.{drop_all, length-take-le}
use Rattle.tlv_head.specs.declared.header.HeaderFields.{HeaderFields}
use Rattle.tlv_head.specs.declared.header.Size.{Size}
use Rattle.tlv_head.specs.declared.header.Size.TheVariants.{Definite, Indefinite}
use Rattle.tlv_head.specs.Header.{HeaderValue, definite_length, octets_of}
use Rattle.tlv_head.specs.HeaderFields.{new_header}
use Rattle.tlv_head.specs.ReadHeader.{BeginsWithFields}
use Rattle.tlv_reasons.proofs.FirstLemmas.{from-next}
use Rattle.tlv_reasons.proofs.LengthLemmas.{begun-one, changed-with}
use Rattle.tlv_open.specs.Opens.{closed_framing}
use Rattle.tlv_walk.proofs.GrammarLemmas.Readings.{reading-unique}
use Rattle.tlv_walk.specs.Forest.{Forest}
use Rattle.tlv_walk.specs.Reading.{IsSoundList}
use Rattle.tlv_reasons.specs.Chains.{AreAround, AreMoved, IsChain, IsChainAt, IsChainBy, IsFirstChain, IsMoved}
use Rattle.tlv_reasons.specs.Chains.{WouldMend, chain_of, moved_length}
use Rattle.tlv_reasons.specs.declared.chains.Chain.{Chain}
use Rattle.tlv_reasons.specs.Chains as chains
use Rattle.tlv_reasons.specs.declared.facts.Facts.{Facts}
use Rattle.tlv_reasons.specs.declared.sizes.Difference.{Difference}
use Rattle.tlv_reasons.specs.Facts.{open_holders}
use Rattle.tlv_reasons.specs.OpenHolders.{has_end}
use Rattle.tlv_reasons.specs.Private.Lengths.{with_octets_saying}
use Rattle.tlv_reasons.specs.Sizes.{size_difference}
use Rattle.tlv_reasons.specs.Suspects.{element_offset}
use Rattle.tlv_reasons.specs.Mended.{wide_limit}
use Rattle.tlv_reasons.specs.WrongLength.{input_with_length, length_bound, length_octets_saying}

-- ---- one header

definite-is : (size : Size) (n : ℕ) → definite_length size ≡ Some n → size ≡ Definite n
definite-is (Definite m) n e = cc
definite-is Indefinite n e = absurd (cc)

-- what a header that was read says, if it can state another length
pub record CanMove (d : Difference) (fields : HeaderFields) (count : ℕ) : Type 0 where
  pub said : ℕ
  pub size_is : fields.size ≡ Definite said
  pub would : ℕ
  pub would_is : moved_length d said ≡ Some would
  pub sayable : nat_lt would (length_bound (count - fields.id_len)) ≡ true

module _ (d : Difference) (octets : List ℕ) (offset : ℕ) (fields : HeaderFields) (count : ℕ)
    (b : BeginsWithFields (drop offset octets) offset false fields count) where
  abbrev raw : List ℕ
  raw = take count (drop offset octets)

  abbrev header : HeaderValue
  header = new_header fields raw

  raw-size : length raw ≡ count
  raw-size = length-take-le count (drop offset octets) b.within

  room : length header.length_octets ≡ count - fields.id_len
  room = omega (arith, length-drop fields.id_len raw, raw-size)

  -- the header there states another length only if the one that was read can
  pub can-move : (changed : List ℕ) → IsMoved d offset octets changed → CanMove d fields count
  can-move changed m =
      let same : header ≡ m.header = begun-one header m.header b.begins m.begins in
      let size : fields.size ≡ m.header.size = ap (λ (h : HeaderValue). h.size) same in
      let lengths : count - fields.id_len ≡ length m.header.length_octets =
      sym room ∙ ap (λ (h : HeaderValue). length h.length_octets) same in
      record {
        said = m.said;
        size_is = size ∙ definite-is m.header.size m.said m.said_is;
        would = m.would;
        would_is = m.would_is;
        sayable = rw lengths (lt-ltb m.would (length_bound (length m.header.length_octets)) m.sayable);
      }

  -- if it can, and its length octets are changed, it does
  pub moved-there : (start said would : ℕ) → offset ≤ length octets → start ≡ offset + fields.id_len
      → fields.size ≡ Definite said → moved_length d said ≡ Some would
      → nat_lt would (length_bound ((offset + count) - start)) ≡ true
      → IsMoved d offset octets (with_octets_saying start (offset + count) would octets)
  moved-there start said would within s z w t =
      let id : length header.identifier_octets ≡ fields.id_len =
      length-take-le fields.id_len raw (omega (arith, b.sized.identifier)) in
      let all : length (octets_of header) ≡ count = ap length (take-append-drop fields.id_len raw) ∙ raw-size in
      let there : length header.length_octets ≡ (offset + count) - start = omega (arith, room, s) in
      record {
        header = header;
        begins = b.begins;
        said = said;
        said_is = ap definite_length z;
        would = would;
        would_is = w;
        sayable = rw there (ltb-true would (length_bound ((offset + count) - start)) t);
        changed_is =
            subst
            (λ (i : ℕ). with_octets_saying i (offset + count) would octets ≡ input_with_length octets header would)
            (sym s)
            (changed-with would octets b.begins.rest header offset fields.id_len count within b.begins.offset id all
            b.begins.octets_are);
      }

-- an input in which a header states the other length is the only one
pub moved-one : (d : Difference) (offset : ℕ) (octets x y : List ℕ) → IsMoved d offset octets x
    → IsMoved d offset octets y → x ≡ y
moved-one d offset octets x y p q =
    let same : p.header ≡ q.header = begun-one p.header q.header p.begins q.begins in
    let size : definite_length p.header.size ≡ definite_length q.header.size =
    ap (λ (h : HeaderValue). definite_length h.size) same in
    let some_said : Some p.said ≡ Some q.said = sym p.said_is ∙ size ∙ q.said_is in
    let said : p.said ≡ q.said = cc in
    let some_would : Some p.would ≡ Some q.would = sym p.would_is ∙ ap (moved_length d) said ∙ q.would_is in
    let would : p.would ≡ q.would = cc in
    p.changed_is ∙ (λ i. input_with_length octets (same i) (would i)) ∙ sym q.changed_is

-- a header that can state a length is not one that cannot
pub moved-apart : (d : Difference) (fields : HeaderFields) (count said would room : ℕ) → CanMove d fields count
    → fields.size ≡ Definite said → moved_length d said ≡ Some would → room ≡ count - fields.id_len
    → nat_lt would (length_bound room) ≡ false → ⊥
moved-apart d fields count said would room k z w e f =
    let same : Definite said ≡ Definite k.said = sym z ∙ k.size_is in
    let is_said : said ≡ k.said = cc in
    let some_would : Some would ≡ Some k.would = sym w ∙ ap (moved_length d) is_said ∙ k.would_is in
    let is_would : would ≡ k.would = cc in
    let sayable : nat_lt would (length_bound room) ≡ true =
    (λ i. nat_lt (is_would i) (length_bound (e i))) ∙ k.sayable in
    absurd (cc)

-- length octets changed in place
pub put-said : (start end would : ℕ) (octets now : List ℕ) → start ≤ end
    → now ≡ length_octets_saying would (slice_range octets start end)
    → put_mid start (end - start) octets now ≡ with_octets_saying start end would octets
put-said start end would octets now h e = λ i. take start octets ++ (e i ++ Post-is start end octets h i)

-- ---- headers, one after another

-- one more states another length
pub moved-on : (d : Difference) (xs : List ℕ) (i : ℕ) (octets next changed : List ℕ) → i < length xs
    → IsMoved d (get_or xs i 0) octets next → AreMoved d (drop (i + 1) xs) next changed
    → AreMoved d (drop i xs) octets changed
moved-on d xs i octets next changed h m all = rw (from-next xs i h) (chains.one_moved m all)

others-moved : (d : Difference) (offset : ℕ) (more octets next changed : List ℕ) → IsMoved d offset octets next
    → AreMoved d (offset ∷ more) octets changed → AreMoved d more next changed
others-moved d offset more octets next changed m (chains.one_moved {next = other} k all) =
    subst (λ (o : List ℕ). AreMoved d more o changed) (moved-one d offset octets other next k m) all

pub moved-back : (d : Difference) (xs : List ℕ) (i : ℕ) (octets next changed : List ℕ) → i < length xs
    → IsMoved d (get_or xs i 0) octets next → AreMoved d (drop i xs) octets changed
    → AreMoved d (drop (i + 1) xs) next changed
moved-back d xs i octets next changed h m all =
    others-moved d (get_or xs i 0) (drop (i + 1) xs) octets next changed m
    (subst (λ (l : List ℕ). AreMoved d l octets changed) (from-next xs i h) all)

pub moved-end : (d : Difference) (xs : List ℕ) (i : ℕ) (octets : List ℕ) → length xs ≤ i
    → AreMoved d (drop i xs) octets octets
moved-end d xs i octets h = rw (drop_all i xs h) chains.all_moved

first-moved : (d : Difference) (offset : ℕ) (more octets changed : List ℕ)
    → ((next : List ℕ) → IsMoved d offset octets next → ⊥) → AreMoved d (offset ∷ more) octets changed → ⊥
first-moved d offset more octets changed none (chains.one_moved {next = other} k all) = none other k

-- one cannot state another length
pub moved-none : (d : Difference) (xs : List ℕ) (i : ℕ) (octets changed : List ℕ) → i < length xs
    → ((next : List ℕ) → IsMoved d (get_or xs i 0) octets next → ⊥) → AreMoved d (drop i xs) octets changed → ⊥
moved-none d xs i octets changed h none all =
    first-moved d (get_or xs i 0) (drop (i + 1) xs) octets changed none
    (subst (λ (l : List ℕ). AreMoved d l octets changed) (from-next xs i h) all)

-- equal lists of headers mend alike
pub mend-of : {padding : Bool} {octets : List ℕ} {d : Difference} {xs ys : List ℕ} → xs ≡ ys
    → WouldMend padding octets d xs → WouldMend padding octets d ys
mend-of {padding} {octets} {d} e k = subst (λ (l : List ℕ). WouldMend padding octets d l) e k

-- and fail alike
pub mend-none : {padding : Bool} {octets : List ℕ} {d : Difference} {xs ys : List ℕ} {r : Bool} → xs ≡ ys
    → (WouldMend padding octets d xs → r ≡ true) → r ≡ false → WouldMend padding octets d ys → ⊥
mend-none e mends f k = let t : true ≡ false = sym (mends (mend-of (sym e) k)) ∙ f in absurd (cc)

-- headers state the other lengths in one input
pub all-one : (d : Difference) (xs octets x y : List ℕ) → AreMoved d xs octets x → AreMoved d xs octets y → x ≡ y
all-one d [] octets x y chains.all_moved chains.all_moved = refl
all-one d (offset ∷ more) octets x y (chains.one_moved {next = next} p all) q =
    all-one d more next x y all (others-moved d offset more octets next y p q)

-- the input would be sound if headers stated other lengths, if it is with those lengths
pub mended-sound : {padding : Bool} {octets : List ℕ} {d : Difference} {headers : List ℕ} (changed : List ℕ)
    → AreMoved d headers octets changed → WouldMend padding octets d headers
    → IsSoundList (closed_framing padding) changed
mended-sound {padding} {octets} {d} {headers} changed all k =
    subst (λ (o : List ℕ). IsSoundList (closed_framing padding) o)
    (all-one d headers octets k.changed changed k.are_moved all) k.sound

-- ---- chains at offsets, one after another

module _ (padding : Bool) (octets : List ℕ) (d : Difference) where
  pub chain-here : (xs : List ℕ) (i : ℕ) (r : Option Chain) → i < length xs
      → IsChainAt padding octets d (get_or xs i 0) r → is_some r ≡ true
      → IsFirstChain padding octets d (drop i xs) r
  chain-here xs i None h k e = absurd (cc)
  chain-here xs i (Some c) h k e = rw (from-next xs i h) (chains.here k)

  pub chain-later : (xs : List ℕ) (i : ℕ) (r found : Option Chain) → i < length xs
      → IsChainAt padding octets d (get_or xs i 0) r → is_some r ≡ false
      → IsFirstChain padding octets d (drop (i + 1) xs) found → IsFirstChain padding octets d (drop i xs) found
  chain-later xs i None found h k e f = rw (from-next xs i h) (chains.later k f)
  chain-later xs i (Some c) found h k e f = absurd (cc)

  pub chain-end : (xs : List ℕ) (i : ℕ) → length xs ≤ i → IsFirstChain padding octets d (drop i xs) None
  chain-end xs i h = rw (drop_all i xs h) chains.no_more

-- ---- one chain

-- octets are around one list of headers
around-one : {padding : Bool} {octets xs ys : List ℕ} → AreAround padding octets xs → AreAround padding octets ys
    → xs ≡ ys
around-one {padding} {octets} {xs} {ys} p q =
    let same : p.reading ≡ q.reading =
    reading-unique (closed_framing padding) octets p.reading q.reading p.is_reading q.is_reading in
    p.headers_are ∙ ap (λ (f : Forest). map element_offset (filter has_end (open_holders f))) same ∙ sym q.headers_are

module _ {padding : Bool} {octets : List ℕ} {d : Difference} where
  -- of two lists of headers, the same is the first
  same-mend : {xs ys : List ℕ} → xs ≡ ys → WouldMend padding octets d xs → (WouldMend padding octets d ys → ⊥) → ⊥
  same-mend e p none = none (mend-of e p)

  at-one : {offset : ℕ} {a b : Option Chain} → IsChainAt padding octets d offset a
      → IsChainAt padding octets d offset b → a ≡ b
  at-one (chains.outside h) (chains.outside k) = refl
  at-one (chains.outside h) (chains.around k r p) = absurd (omega (arith, h, k))
  at-one (chains.outside h) (chains.with_header k r n p) = absurd (omega (arith, h, k))
  at-one (chains.outside h) (chains.in_vain k r n m) = refl
  at-one (chains.around k r p) (chains.outside h) = absurd (omega (arith, h, k))
  at-one (chains.around h r p) (chains.around k s q) = ap (λ (l : List ℕ). Some (chain_of d l)) (around-one r s)
  at-one (chains.around h r p) (chains.with_header k s n q) = absurd (same-mend (around-one r s) p n)
  at-one (chains.around h r p) (chains.in_vain k s n m) = absurd (same-mend (around-one r s) p n)
  at-one (chains.with_header k r n p) (chains.outside h) = absurd (omega (arith, h, k))
  at-one (chains.with_header h r n p) (chains.around k s q) = absurd (same-mend (around-one s r) q n)
  at-one {offset} (chains.with_header h r n p) (chains.with_header k s m q) =
      ap (λ (l : List ℕ). Some (chain_of d (l ++ offset ∷ []))) (around-one r s)
  at-one {offset} (chains.with_header h r n p) (chains.in_vain k s m l) =
      absurd (same-mend (ap (λ (xs : List ℕ). xs ++ offset ∷ []) (around-one r s)) p l)
  at-one (chains.in_vain k r n m) (chains.outside h) = refl
  at-one (chains.in_vain h r n m) (chains.around k s q) = absurd (same-mend (around-one s r) q n)
  at-one {offset} (chains.in_vain h r n m) (chains.with_header k s l q) =
      absurd (same-mend (ap (λ (xs : List ℕ). xs ++ offset ∷ []) (around-one s r)) q m)
  at-one (chains.in_vain h r n m) (chains.in_vain k s l o) = refl

  first-one : {xs : List ℕ} {a b : Option Chain} → IsFirstChain padding octets d xs a
      → IsFirstChain padding octets d xs b → a ≡ b
  first-one chains.no_more chains.no_more = refl
  first-one (chains.here p) (chains.here q) = at-one p q
  first-one (chains.here {c = c} p) (chains.later q g) = let e : Some c ≡ None = at-one p q in absurd (cc)
  first-one (chains.later p f) (chains.here {c = c} q) = let e : Some c ≡ None = at-one q p in absurd (cc)
  first-one (chains.later p f) (chains.later q g) = first-one f g

by-one : (padding : Bool) (octets : List ℕ) (d : Option Difference) (candidates : List ℕ) (a b : Option Chain)
    → IsChainBy padding octets d candidates a → IsChainBy padding octets d candidates b → a ≡ b
by-one padding octets None candidates a b p q = p ∙ sym q
by-one padding octets (Some d) candidates a b p q = first-one p q

pub chain-one : (padding : Bool) (octets : List ℕ) (facts : Facts) (candidates : List ℕ) (a b : Option Chain)
    → IsChain padding octets facts candidates a → IsChain padding octets facts candidates b → a ≡ b
chain-one padding octets facts candidates a b p q = elim (cases_lt wide_limit (length octets)) [
  | inl great ↦ p.unsearched great ∙ sym (q.unsearched great)
  | inr few ↦ by-one padding octets (size_difference octets facts) candidates a b (p.searched few) (q.searched few)
]
