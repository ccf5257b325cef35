-- Whether octets are read as what an extension begins with.
use Rattle.std.proofs.Common.{◌∷◌, [], ◌≢◌, eqb, eqb-true, get_or}
use Rattle.std.proofs.lemmas.Bool.{and_parts, cases_Bool, or_cases}
use Rattle.std.proofs.Common.{◌≡◌, ◌⊎◌, inl, inr, ℕ, ◌<◌, ◌≤◌, Bool, true, false, ◌&&◌, List, ◌++◌, length, take}
use Rattle.std.proofs.Common.{subst, drop, refl, sym, ap, ap₂, ◌∙◌, arith, length-append}
use Rattle.std.proofs.Math.Seq.{take-append_seam}
use Rattle.tlv_head.specs.declared.header.Class.{Class}
use Rattle.tlv_head.specs.declared.header.Class.TheVariants.{Universal, Application, Context, Private}
use Rattle.tlv_head.specs.declared.header.HeaderFields.{HeaderFields}
use Rattle.tlv_head.specs.declared.header.Size.{Size}
use Rattle.tlv_head.specs.declared.header.Size.TheVariants.{Definite, Indefinite}
use Rattle.tlv_head.specs.Header.{HeaderValue, IsHeader, IsLength, announced_length, class_bits, identifier_octet}
use Rattle.tlv_head.specs.Header.{is_universal}
use Rattle.tlv_head.specs.Header.{octets_of}
use Rattle.tlv_head.specs.HeaderFields.{new_header}
use Rattle.tlv_head.specs.ReadHeader.{BeginsWithFields}
use Rattle.tlv_head.specs.Refusal.{BeginsWithNoHeader}
use Rattle.tlv_head.specs.UniversalTypes as universal
use Rattle.tlv_value.specs.Types.{is_a}
use Rattle.tlv_walk.specs.Forest.{Forest, Holder, NoMore, OpenBitString, OpenEndOctets, OpenHeader, OpenHolder}
use Rattle.tlv_walk.specs.Forest.{OpenPrimitive, PaddingOctet, Primitive, spelling}
use Rattle.tlv_walk.specs.Place.{Place}
use Rattle.tlv_open.specs.Breaks.{begin_extension, goes_beyond, names_extension}
use Rattle.tlv_open.specs.Private.Finds.{IsReadAt}
use Rattle.tlv_open.proofs.ElementLemmas.OneElement.{regroup-3}
use Rattle.tlv_open.proofs.FinderLemmas.FirstRead.{IsReadFirst, first_holder, first_open_holder, first_open_primitive}
use Rattle.tlv_open.proofs.FinderLemmas.FirstRead.{first_primitive, first-read, unnamed-form}

-- no header is there
pub none-begin_extension : (p : Place) (f : Forest) (depth offset : ℕ) (ends : Bool) (octets rest : List ℕ)
    → IsReadAt p f depth offset ends octets rest → BeginsWithNoHeader octets → false ≡ begin_extension f
none-begin_extension p (Primitive k c g) depth offset ends octets rest r none =
    absurd (none k (c ++ (spelling g ++ rest)) r.obeys_grammar.0.0.header.valid
    (sym r.spelled ∙ regroup-3 (octets_of k) c (spelling g) rest))
none-begin_extension p NoMore depth offset ends octets rest r none = refl
none-begin_extension p (PaddingOctet g) depth offset ends octets rest r none = refl
none-begin_extension p (Holder k inside g) depth offset ends octets rest r none = refl
none-begin_extension p (OpenPrimitive k c) depth offset ends octets rest r none = refl
none-begin_extension p (OpenHolder k inside) depth offset ends octets rest r none = refl
none-begin_extension p (OpenBitString k) depth offset ends octets rest r none = refl
none-begin_extension p (OpenHeader o) depth offset ends octets rest r none = refl
none-begin_extension p OpenEndOctets depth offset ends octets rest r none = refl

-- 8.1.2: what the octets of an element begin with that has the universal number 6 and is primitive
first_in : (a b c x octets : List ℕ) (n : ℕ) → a ≡ n ∷ x → (a ++ b) ++ c ≡ octets → get_or octets 0 0 ≡ n
first_in a b c x octets n e d =
    ap (λ (o : List ℕ). get_or o 0 0) (sym d) ∙ ap (λ (o : List ℕ). get_or ((o ++ b) ++ c) 0 0) e

universal-bits : (class : Class) → is_universal class ≡ true → class_bits class ≡ 0
universal-bits Universal is = refl
universal-bits Application is = absurd (cc (is))
universal-bits Context is = absurd (cc (is))
universal-bits Private is = absurd (cc (is))

object-first : (k : HeaderValue) (more octets : List ℕ) → IsHeader k → k.constructed ≡ false
    → is_a universal.object_identifier k ≡ true → octets_of k ++ more ≡ octets
    → (get_or octets 0 0 ≢ 6) → (get_or octets 0 0 ≢ 0x1f) → ⊥
object-first k more octets v form is e six high =
    let parts : (is_universal k.class ≡ true) × (eqb k.number 6 ≡ true) = and_parts _ _ is in
    let class : class_bits k.class ≡ 0 = universal-bits k.class parts.0 in
    let number : k.number ≡ 6 = eqb-true k.number 6 parts.1 in
    elim v.identifier [
      | inl low ↦
          six (first_in k.identifier_octets k.length_octets more [] octets _ low.octets_are e
          ∙ (ap₂ (λ (b : Bool) (n : ℕ). identifier_octet k.class b n) form number ∙ omega (arith, class)))
      | inr long ↦
          high (first_in k.identifier_octets k.length_octets more _ octets _ long.octets_are e
          ∙ (ap (λ (b : Bool). identifier_octet k.class b 31) form ∙ omega (arith, class)))
    ]

-- no primitive OBJECT IDENTIFIER is there
pub other-begin_extension : (p : Place) (f : Forest) (depth offset : ℕ) (ends : Bool) (octets rest : List ℕ)
    → IsReadAt p f depth offset ends octets rest → get_or octets 0 0 ≢ 6 → get_or octets 0 0 ≢ 0x1f
    → false ≡ begin_extension f
other-begin_extension p (Primitive k c g) depth offset ends octets rest r six high =
    elim (cases_Bool (is_a universal.object_identifier k)) [
      | inl is ↦
          absurd (object-first k (c ++ (spelling g ++ rest)) octets r.obeys_grammar.0.0.header.valid
          (unnamed-form p false k r.none_named r.obeys_grammar.0.0.header r.obeys_grammar.0.0.holding) is
          (sym (regroup-3 (octets_of k) c (spelling g) rest) ∙ r.spelled) six high)
      | inr other ↦ ap (λ (b : Bool). b && names_extension c) (sym other)
    ]
other-begin_extension p NoMore depth offset ends octets rest r six high = refl
other-begin_extension p (PaddingOctet g) depth offset ends octets rest r six high = refl
other-begin_extension p (Holder k inside g) depth offset ends octets rest r six high = refl
other-begin_extension p (OpenPrimitive k c) depth offset ends octets rest r six high = refl
other-begin_extension p (OpenHolder k inside) depth offset ends octets rest r six high = refl
other-begin_extension p (OpenBitString k) depth offset ends octets rest r six high = refl
other-begin_extension p (OpenHeader o) depth offset ends octets rest r six high = refl
other-begin_extension p OpenEndOctets depth offset ends octets rest r six high = refl

-- 8.19: contents that name an extension, by their first two octets
abbrev pub MayName : ℕ → ℕ → Type 0
MayName x y = ((x ≡ 0x55) × (y ≡ 0x1d)) ⊎ ((x ≡ 0x2b) × (y ≡ 6))

names-first : (c more : List ℕ) → names_extension c ≡ true → MayName (get_or (c ++ more) 0 0) (get_or (c ++ more) 1 0)
names-first [] more e = absurd (cc (e))
names-first (x ∷ []) more e = elim (or_cases (eqb x 0x55 && false) (eqb x 0x2b && false) e) [
  | inl t ↦ let u : false ≡ true = (and_parts (eqb x 0x55) false t).1 in absurd (cc (u))
  | inr t ↦ let u : false ≡ true = (and_parts (eqb x 0x2b) false t).1 in absurd (cc (u))
]
names-first (x ∷ y ∷ c) more e =
    let either = or_cases (goes_beyond (0x55 ∷ 0x1d ∷ []) (x ∷ y ∷ c))
    (goes_beyond (0x2b ∷ 6 ∷ 1 ∷ 5 ∷ 5 ∷ 7 ∷ 1 ∷ []) (x ∷ y ∷ c)) e in
    elim either [
      | inl t ↦
          let parts = and_parts (eqb x 0x55) (goes_beyond (0x1d ∷ []) (y ∷ c)) t in
          inl (eqb-true x 0x55 parts.0, eqb-true y 0x1d (and_parts (eqb y 0x1d) (goes_beyond [] c) parts.1).0)
      | inr t ↦
          let parts = and_parts (eqb x 0x2b) (goes_beyond (6 ∷ 1 ∷ 5 ∷ 5 ∷ 7 ∷ 1 ∷ []) (y ∷ c)) t in
          let second = and_parts (eqb y 6) (goes_beyond (1 ∷ 5 ∷ 5 ∷ 7 ∷ 1 ∷ []) c) parts.1 in
          inr (eqb-true x 0x2b parts.0, eqb-true y 6 second.0)
    ]

-- 8.1.3.4: length octets of which the first is below 80 are one
length-short : (size : Size) (o more : List ℕ) → IsLength size o → get_or (o ++ more) 0 0 < 128
    → (n : ℕ) × (o ≡ n ∷ [])
length-short (Definite n) o more (inl t) less = (n, t.1)
length-short (Definite n) o more (inr t) less =
    absurd (omega (arith, less, ap (λ (x : List ℕ). get_or (x ++ more) 0 0) t.octets_are))
length-short Indefinite o more t less = absurd (omega (arith, less, ap (λ (x : List ℕ). get_or (x ++ more) 0 0) t))

-- after a header of which the first octet is 06 and the second below 80 the contents begin
short-octets : (k : HeaderValue) (more octets : List ℕ) → IsHeader k → octets_of k ++ more ≡ octets
    → get_or octets 0 0 ≡ 6 → get_or octets 1 0 < 128 → (x : ℕ) × ((y : ℕ) × (octets ≡ x ∷ y ∷ more))
short-octets k more octets v e six less = elim v.identifier [
  | inl low ↦
      let second : get_or octets 1 0 ≡ get_or (k.length_octets ++ more) 0 0 =
      ap (λ (o : List ℕ). get_or o 1 0) (sym e)
      ∙ ap (λ (i : List ℕ). get_or ((i ++ k.length_octets) ++ more) 1 0) low.octets_are in
      let one = length-short k.size k.length_octets more v.lengths (omega (arith, second, less)) in
      (_, (one.0, sym e ∙ ap₂ (λ (i l : List ℕ). (i ++ l) ++ more) low.octets_are one.1))
  | inr long ↦
      absurd (omega (arith, six, first_in k.identifier_octets k.length_octets more _ octets _ long.octets_are e))
]

-- an OBJECT IDENTIFIER of an extension that has a short header, by its first four octets
pub named-first : (p : Place) (f : Forest) (depth offset : ℕ) (ends : Bool) (octets rest : List ℕ)
    → IsReadAt p f depth offset ends octets rest → begin_extension f ≡ true → get_or octets 0 0 ≡ 6
    → get_or octets 1 0 < 128 → MayName (get_or octets 2 0) (get_or octets 3 0)
named-first p (Primitive k c g) depth offset ends octets rest r e six less =
    let short = short-octets k (c ++ (spelling g ++ rest)) octets r.obeys_grammar.0.0.header.valid
    (sym (regroup-3 (octets_of k) c (spelling g) rest) ∙ r.spelled) six less in
    subst (λ (o : List ℕ). MayName (get_or o 2 0) (get_or o 3 0)) (sym short.1.1)
    (names-first c (spelling g ++ rest) (and_parts (is_a universal.object_identifier k) (names_extension c) e).1)
named-first p NoMore depth offset ends octets rest r e six less = absurd (cc (e))
named-first p (PaddingOctet g) depth offset ends octets rest r e six less = absurd (cc (e))
named-first p (Holder k inside g) depth offset ends octets rest r e six less = absurd (cc (e))
named-first p (OpenPrimitive k c) depth offset ends octets rest r e six less = absurd (cc (e))
named-first p (OpenHolder k inside) depth offset ends octets rest r e six less = absurd (cc (e))
named-first p (OpenBitString k) depth offset ends octets rest r e six less = absurd (cc (e))
named-first p (OpenHeader o) depth offset ends octets rest r e six less = absurd (cc (e))
named-first p OpenEndOctets depth offset ends octets rest r e six less = absurd (cc (e))

module _ (octets : List ℕ) (offset : ℕ) (f : HeaderFields) (count : ℕ)
    (b : BeginsWithFields octets offset false f count) where
  abbrev h : HeaderValue
  h = new_header f (take count octets)

  abbrev after : List ℕ
  after = drop count octets

  -- it is constructed, or lacks octets
  pub begins-none : (p : Place) (g : Forest) (depth : ℕ) (ends : Bool) (rest : List ℕ)
      → IsReadAt p g depth offset ends octets rest
      → (f.constructed ≡ true) ⊎ (length after < announced_length f.size) → false ≡ begin_extension g
  begins-none p g depth ends rest r why = first_none g (first-read octets offset f count b p g depth ends rest r)
    where
      first_none : (g : Forest) → IsReadFirst p h after rest g → false ≡ begin_extension g
      first_none _ (first_primitive {c = c} {g = g} t size spelled obeys) = elim why [
        | inl k ↦ let u : true ≡ false = sym k ∙ t in absurd (cc (u))
        | inr less ↦
            absurd (omega (arith, ap announced_length size, ap length spelled, length-append c (spelling g ++ rest)))
      ]
      first_none _ (first_holder c few s closed obeys spelled more) = refl
      first_none _ (first_open_primitive c i s l spelled none) = refl
      first_none _ (first_open_holder c few within l obeys spelled none) = refl

  -- it is a primitive with all its octets
  pub begins-some : (p : Place) (g : Forest) (depth : ℕ) (ends : Bool) (rest : List ℕ) (m : ℕ)
      → IsReadAt p g depth offset ends octets rest → f.constructed ≡ false → m ≡ announced_length f.size
      → m ≤ length after
      → (is_a universal.object_identifier h && names_extension (take m after)) ≡ begin_extension g
  begins-some p g depth ends rest m r k all few =
      first_some g (first-read octets offset f count b p g depth ends rest r)
    where
      first_some : (g : Forest) → IsReadFirst p h after rest g
          → (is_a universal.object_identifier h && names_extension (take m after)) ≡ begin_extension g
      first_some _ (first_primitive {c = c} {g = g} t size spelled obeys) =
          let same : m ≡ length c = all ∙ ap announced_length size in
          let front : take m after ≡ c =
          ap₂ take same (sym spelled) ∙ take-append_seam c (spelling g ++ rest) in
          ap (λ (x : List ℕ). is_a universal.object_identifier h && names_extension x) front
      first_some _ (first_holder c few s closed obeys spelled more) =
          let t : false ≡ true = sym k ∙ c in absurd (cc (t))
      first_some _ (first_open_primitive {c = c} t n size less spelled none) =
          absurd (omega (arith, all, ap announced_length size, ap length spelled, less))
      first_some _ (first_open_holder c few within l obeys spelled none) =
          let t : false ≡ true = sym k ∙ c in absurd (cc (t))
