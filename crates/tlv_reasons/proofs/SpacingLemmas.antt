-- Elements that stand apart from each other.
use Rattle.std.proofs.Common.{◌≡◌, ℕ, ◌+◌, ◌<◌, ◌≤◌, false, true, List, ap, arith, drop, length, subst, sym, take, ◌∙◌}
use Rattle.std.specs.Prelude.{Some}
use Rattle.tlv_head.specs.declared.header.HeaderFields.{HeaderFields}
use Rattle.tlv_head.specs.declared.header.Size.{Size}
use Rattle.tlv_head.specs.declared.header.Size.TheVariants.{Definite, Indefinite}
use Rattle.tlv_head.specs.Header.{HeaderValue, definite_length}
use Rattle.tlv_head.specs.HeaderFields.{new_header}
use Rattle.tlv_head.specs.ReadHeader.{BeginsWithFields}
use Rattle.tlv_reasons.proofs.LengthLemmas.{begun-one}
use Rattle.tlv_reasons.proofs.OctetLemmas.{starts-at}
use Rattle.tlv_reasons.specs.Spacing.{AreSpaced, EndsAsStated, IsWholeFrom, last, last_with_gap, next}
use Rattle.tlv_reasons.specs.WrongLength.{contents_start}

-- a definite length is that of the octets
definite-is : (z : Size) (n : ℕ) → definite_length z ≡ Some n → z ≡ Definite n
definite-is (Definite m) n e = cc
definite-is Indefinite n e = absurd (cc)

-- what is known of an element by the fields of its header
pub stated-by : (octets : List ℕ) (offset end count : ℕ) (fields : HeaderFields)
    → BeginsWithFields (drop offset octets) offset false fields count → EndsAsStated octets offset end
    → (n : ℕ) × (fields.size ≡ Definite n) × (fields.constructed ≡ true) × (end ≡ offset + count + n)
stated-by octets offset end count fields b w =
    let g : HeaderValue = new_header fields (take count (drop offset octets)) in
    let one : w.header ≡ g = begun-one w.header g w.begins b.begins in
    let start : contents_start w.header ≡ offset + count =
    ap contents_start one ∙ starts-at octets offset count fields b in (
      w.contents,
      definite-is fields.size w.contents (sym (ap (λ (x : HeaderValue). definite_length x.size) one) ∙ w.contents_are),
      sym (ap (λ (x : HeaderValue). x.constructed) one) ∙ w.constructed,
      omega (arith, w.end_is, start),
    )

-- an element ends at one place
pub stated-one : (octets : List ℕ) (offset a b : ℕ) → EndsAsStated octets offset a → EndsAsStated octets offset b
    → a ≡ b
stated-one octets offset a b v w =
    let one : v.header ≡ w.header = begun-one v.header w.header v.begins w.begins in
    let same : Some v.contents ≡ Some w.contents =
    sym v.contents_are ∙ ap (λ (x : HeaderValue). definite_length x.size) one ∙ w.contents_are in
    let n : v.contents ≡ w.contents = cc in
    let start : contents_start v.header ≡ contents_start w.header = ap contents_start one in
    omega (arith, v.end_is, w.end_is, n, start)

whole-one : (octets : List ℕ) (offset a b : ℕ) → IsWholeFrom octets offset a → IsWholeFrom octets offset b → a ≡ b
whole-one octets offset a b v w = stated-one octets offset a b v.stated w.stated

-- elements from an offset on are spaced as the first ends
pub spaced-on : (gap : ℕ) (octets : List ℕ) (offset end n : ℕ) → IsWholeFrom octets offset end
    → (end ≡ length octets → ⊥) → (end + gap ≡ length octets → ⊥)
    → ((m : ℕ) → end + gap < length octets → AreSpaced gap octets (end + gap) m → ⊥) → AreSpaced gap octets offset n → ⊥
spaced-on gap octets offset end n w apart more_apart none (last {end = e} v is) =
    apart (whole-one octets offset end e w v ∙ is)
spaced-on gap octets offset end n w apart more_apart none (last_with_gap {end = e} v is) =
    more_apart (ap (λ i. i + gap) (whole-one octets offset end e w v) ∙ is)
spaced-on gap octets offset end n w apart more_apart none (next {end = e} {count = m} v less more) =
    let same : e ≡ end = sym (whole-one octets offset end e w v) in
    none m (omega (arith, less, same)) (rw same at more)

-- what is found behind some elements is found behind one more
pub counted-on : (gap : ℕ) (octets : List ℕ) (at first count : ℕ)
    → ((n : ℕ) → AreSpaced gap octets at n → AreSpaced gap octets first (n + count)) → AreSpaced gap octets at 1
    → AreSpaced gap octets first (count + 1)
counted-on gap octets at first count found one =
    let n : 1 + count ≡ count + 1 = omega arith in rw (sym n) (found 1 one)

pub counted-more : (gap : ℕ) (octets : List ℕ) (at first end count n : ℕ)
    → ((n : ℕ) → AreSpaced gap octets at n → AreSpaced gap octets first (n + count)) → IsWholeFrom octets at end
    → end + gap < length octets → AreSpaced gap octets (end + gap) n → AreSpaced gap octets first (n + (count + 1))
counted-more gap octets at first end count n found w less more =
    let m : n + 1 + count ≡ n + (count + 1) = omega arith in rw (sym m) (found (n + 1) (next w less more))

-- where no element stands, none are spaced
pub none-spaced : (gap : ℕ) (octets : List ℕ) (offset n : ℕ) → ((end : ℕ) → IsWholeFrom octets offset end → ⊥)
    → AreSpaced gap octets offset n → ⊥
none-spaced gap octets offset n none (last {end = e} v is) = none e v
none-spaced gap octets offset n none (last_with_gap {end = e} v is) = none e v
none-spaced gap octets offset n none (next {end = e} v less more) = none e v

-- the first of spaced elements is whole, up to where its header says that it ends
pub first-whole : (gap : ℕ) (octets : List ℕ) (offset end n : ℕ) → EndsAsStated octets offset end
    → AreSpaced gap octets offset n → IsWholeFrom octets offset end
first-whole gap octets offset end n t (last {end = e} v is) =
    subst (λ (x : ℕ). IsWholeFrom octets offset x) (stated-one octets offset e end v.stated t) v
first-whole gap octets offset end n t (last_with_gap {end = e} v is) =
    subst (λ (x : ℕ). IsWholeFrom octets offset x) (stated-one octets offset e end v.stated t) v
first-whole gap octets offset end n t (next {end = e} v less more) =
    subst (λ (x : ℕ). IsWholeFrom octets offset x) (stated-one octets offset e end v.stated t) v

-- behind the first of two or more there is a header
pub none-behind : (gap : ℕ) (octets : List ℕ) (offset end n : ℕ) → EndsAsStated octets offset end
    → ((e : ℕ) → EndsAsStated octets (end + gap) e → ⊥) → 2 ≤ n → AreSpaced gap octets offset n → ⊥
none-behind gap octets offset end n t none many (last v is) = omega (arith, many)
none-behind gap octets offset end n t none many (last_with_gap v is) = omega (arith, many)
none-behind gap octets offset end n t none many (next {end = e} {count = m} v less more) =
    let same : e ≡ end = stated-one octets offset e end v.stated t in
    none-spaced gap octets (end + gap) m (λ x w. none x w.stated) (rw same at more)

some-spaced : (gap : ℕ) (octets : List ℕ) (offset n : ℕ) → AreSpaced gap octets offset n → 1 ≤ n
some-spaced gap octets offset n (last v is) = omega arith
some-spaced gap octets offset n (last_with_gap v is) = omega arith
some-spaced gap octets offset n (next {count = m} v less more) = omega arith

-- if octets follow the gap behind the first, there are two or more
pub two-spaced : (gap : ℕ) (octets : List ℕ) (offset end n : ℕ) → EndsAsStated octets offset end
    → end + gap < length octets → AreSpaced gap octets offset n → 2 ≤ n
two-spaced gap octets offset end n t less (last {end = e} v is) =
    absurd (omega (arith, less, is, stated-one octets offset e end v.stated t))
two-spaced gap octets offset end n t less (last_with_gap {end = e} v is) =
    absurd (omega (arith, less, is, stated-one octets offset e end v.stated t))
two-spaced gap octets offset end n t less (next {end = e} {count = m} v below more) =
    omega (arith, some-spaced gap octets (e + gap) m more)
