-- The first of sound elements with which octets begin.
use Rattle.std.proofs.Common.{◌≡◌, ℕ, ◌+◌, ◌≤◌, false, true, List, [], ◌∷◌, ◌++◌, length, drop, take, ap, refl}
use Rattle.std.proofs.Common.{◌∙◌, sym, subst, append_assoc, arith, length-append, take-append-drop, IfSome}
use Rattle.std.specs.Option.{option_map_or}
use Rattle.std.specs.Prelude.{◌↔◌, Bool, IsTrue, Option, Some, None}
use Rattle.std.proofs.lemmas.List.{append-nil, length-take-le}
use Rattle.std.proofs.Math.Seq.{drop-append_seam, take-append_seam, take-append-add}
use Rattle.tlv_head.specs.declared.fault.FaultCode.TheVariants.{StrayEnd}
use Rattle.tlv_head.specs.declared.header.HeaderFields.{HeaderFields}
use Rattle.tlv_head.specs.declared.header.Size.{Size}
use Rattle.tlv_head.specs.declared.header.Size.TheVariants.{Definite, Indefinite}
use Rattle.tlv_head.specs.Header.{HeaderValue, definite_length, octets_of}
use Rattle.tlv_head.specs.HeaderFields.{new_header}
use Rattle.tlv_head.specs.ReadHeader.{BeginsWithFields}
use Rattle.tlv_head.specs.Refusal.{BeginsWithNoHeader}
use Rattle.tlv_reasons.proofs.LengthLemmas.{begun-one}
use Rattle.tlv_reasons.specs.NextStart.{BeginsAndEnds, BeginsWithEncodings, EndsWithInput, SeemsRight, ends_near_by}
use Rattle.tlv_reasons.specs.WrongLength.{contents_start}
use Rattle.tlv_open.proofs.ElementLemmas.FirstElement.{lead-none, unnamed-holds}
use Rattle.tlv_open.specs.Opens.{closed_framing}
use Rattle.tlv_walk.specs.Ending.{IsEnding, fault_ending}
use Rattle.tlv_walk.specs.Forest.{Forest, Holder, NoMore, OpenBitString, OpenEndOctets, OpenHeader, OpenHolder}
use Rattle.tlv_walk.specs.Forest.{OpenPrimitive, PaddingOctet, Primitive, end_octets, has_element, lead}
use Rattle.tlv_walk.specs.Forest.{opening, spelling}
use Rattle.tlv_walk.specs.Place.{IsHeaderAt, place_of_children, top_place}
use Rattle.tlv_walk.specs.Reading.{IsSound, IsSoundList}
use Rattle.tlv_reasons.proofs.MovedElements.{inner-breaks}

-- what is known of octets that begin with whole encodings, by their first header
pub data FirstEncoding (octets : List ℕ) (fields : HeaderFields) (count : ℕ) : Type 0 where
  of_definite : (n : ℕ) → fields.size ≡ Definite n → n ≤ length (drop count octets)
      → IsSoundList (closed_framing false) (take (count + n) octets) → FirstEncoding octets fields count
  of_indefinite : (n : ℕ) → fields.size ≡ Indefinite
      → IsEnding (closed_framing false) (drop count octets) (fault_ending StrayEnd n)
      → n + 2 ≤ length (drop count octets)
      → IsSoundList (closed_framing false) (take (count + (n + 2)) octets) → FirstEncoding octets fields count

-- octets that begin with a header, some others and then more
after-header : (octets header some more : List ℕ) (count : ℕ) → length header ≡ count
    → header ++ (some ++ more) ≡ octets
    → (drop count octets ≡ some ++ more) × (take (count + length some) octets ≡ header ++ some)
    × (length some ≤ length (drop count octets))
after-header octets header some more count n e =
    let d : drop count octets ≡ some ++ more =
    ap (λ (o : List ℕ). drop count o) (sym e) ∙ ap (λ (i : ℕ). drop i (header ++ (some ++ more))) (sym n)
    ∙ drop-append_seam header (some ++ more) in
    let t : take (count + length some) octets ≡ header ++ some =
    ap (λ (o : List ℕ). take (count + length some) o) (sym e)
    ∙ ap (λ (i : ℕ). take (i + length some) (header ++ (some ++ more))) (sym n)
    ∙ take-append-add header (some ++ more) (length some)
    ∙ ap (λ (o : List ℕ). header ++ o) (take-append_seam some more) in
    (d, t, omega (arith, ap length d, length-append some more))

module _ (octets : List ℕ) (fields : HeaderFields) (count : ℕ) (b : BeginsWithFields octets 0 false fields count) where
  count-is : length (octets_of (new_header fields (take count octets))) ≡ count
  count-is = ap length (take-append-drop fields.id_len (take count octets)) ∙ length-take-le count octets b.within

  header-is : (h : HeaderValue) (tail : List ℕ)
      → IsHeaderAt (top_place (closed_framing false)) h
      → octets_of h ++ tail ≡ octets → (length (octets_of h) ≡ count) × (h.size ≡ fields.size)
  header-is h tail k e =
      let same : h ≡ new_header fields (take count octets) =
      begun-one h (new_header fields (take count octets))
      (record { valid = k.valid; offset = k.offset; named = k.named; rest = tail; octets_are = sym e }) b.begins in
      (ap (λ (x : HeaderValue). length (octets_of x)) same ∙ count-is, ap (λ (x : HeaderValue). x.size) same)

  by_size : (h : HeaderValue) (children : Forest) (others : List ℕ) (size : Size) → h.size ≡ size
      → IsSound (top_place (closed_framing false)) (Holder h children NoMore) → h.constructed ≡ true
      → octets_of h ++ (spelling children ++ (end_octets h.size ++ others)) ≡ octets → FirstEncoding octets fields count
  by_size h children others (Definite n) z s c e =
      let e' : octets_of h ++ (spelling children ++ others) ≡ octets =
      ap (λ (x : Size). octets_of h ++ (spelling children ++ (end_octets x ++ others))) (sym z) ∙ e in
      let i = header-is h (spelling children ++ others) s.0.0 e' in
      let a = after-header octets (octets_of h) (spelling children) others count i.0 e' in
      let none : lead h ≡ [] = lead-none h c in
      let long : IfSome (definite_length (Definite n)) (λ m. length (lead h) + length (spelling children) ≡ m) =
      subst (λ (x : Size). IfSome (definite_length x) (λ m. length (lead h) + length (spelling children) ≡ m)) z s.0.3 in
      let m : length (spelling children) ≡ n = omega (arith, long, ap length none) in
      let spelled : opening h ++ (spelling children ++ (end_octets h.size ++ [])) ≡ octets_of h ++ spelling children =
      rw (none, z, append-nil (spelling children), append-nil (octets_of h)) refl in
      of_definite n (sym i.1 ∙ z) (omega (arith, m, a.2))
      (record {
        forest = Holder h children NoMore;
        sound = s;
        some = refl;
        spelled = spelled ∙ sym a.1 ∙ ap (λ (x : ℕ). take (count + x) octets) m;
      })
  by_size h children others Indefinite z s c e =
      let contents : List ℕ = spelling children in
      let e' : octets_of h ++ ((contents ++ 0 ∷ 0 ∷ []) ++ others) ≡ octets =
      ap (λ (o : List ℕ). octets_of h ++ o) (append_assoc contents (0 ∷ 0 ∷ []) others)
      ∙ ap (λ (x : Size). octets_of h ++ (contents ++ (end_octets x ++ others))) (sym z) ∙ e in
      let i = header-is h ((contents ++ 0 ∷ 0 ∷ []) ++ others) s.0.0 e' in
      let a = after-header octets (octets_of h) (contents ++ 0 ∷ 0 ∷ []) others count i.0 e' in
      let none : lead h ≡ [] = lead-none h c in
      let m : length (contents ++ 0 ∷ 0 ∷ []) ≡ length contents + 2 = length-append contents (0 ∷ 0 ∷ []) in
      let spelled : opening h ++ (contents ++ (end_octets h.size ++ [])) ≡ octets_of h ++ (contents ++ 0 ∷ 0 ∷ []) =
      rw (none, z, append-nil (octets_of h)) refl in
      let breaks : IsEnding (closed_framing false) (drop count octets) (fault_ending StrayEnd (length contents)) =
      subst (λ (o : List ℕ). IsEnding (closed_framing false) o (fault_ending StrayEnd (length contents)))
      (sym (a.0 ∙ append_assoc contents (0 ∷ 0 ∷ []) others))
      (inner-breaks (place_of_children (top_place (closed_framing false)) h) children (0 ∷ others) refl refl s.1) in
      of_indefinite (length contents) (sym i.1 ∙ z) breaks (omega (arith, m, a.2))
      (record {
        forest = Holder h children NoMore;
        sound = s;
        some = refl;
        spelled = spelled ∙ sym a.1 ∙ ap (λ (x : ℕ). take (count + x) octets) m;
      })

  by_forest : (f : Forest) (rest : List ℕ) → IsSound (top_place (closed_framing false)) f → has_element f ≡ true
      → spelling f ++ rest ≡ octets → FirstEncoding octets fields count
  by_forest NoMore rest s t e = absurd (cc)
  by_forest (PaddingOctet more) rest s t e = let x : false ≡ true = s.0 in absurd (cc)
  by_forest (Primitive h c more) rest s t e =
      let e' : octets_of h ++ (c ++ (spelling more ++ rest)) ≡ octets =
      sym (append_assoc (octets_of h) (c ++ spelling more) rest
      ∙ ap (λ (o : List ℕ). octets_of h ++ o) (append_assoc c (spelling more) rest)) ∙ e in
      let i = header-is h (c ++ (spelling more ++ rest)) s.0.0 e' in
      let a = after-header octets (octets_of h) c (spelling more ++ rest) count i.0 e' in
      of_definite (length c) (sym i.1 ∙ s.0.2) a.2
      (record {
        forest = Primitive h c NoMore;
        sound = (s.0, tt);
        some = refl;
        spelled = ap (λ (o : List ℕ). octets_of h ++ o) (append-nil c) ∙ sym a.1;
      })
  by_forest (Holder h children more) rest s t e =
      let c : h.constructed ≡ true =
      sym (unnamed-holds h.constructed h.named h.class h.number h.size s.0.0.named) ∙ s.0.1 in
      let o : opening h ≡ octets_of h =
      ap (λ (x : List ℕ). octets_of h ++ x) (lead-none h c) ∙ append-nil (octets_of h) in
      let e' : octets_of h ++ (spelling children ++ (end_octets h.size ++ (spelling more ++ rest))) ≡ octets =
      sym (append_assoc (octets_of h) (spelling children ++ (end_octets h.size ++ spelling more)) rest
      ∙ ap (λ (x : List ℕ). octets_of h ++ x)
      (append_assoc (spelling children) (end_octets h.size ++ spelling more) rest
      ∙ ap (λ (x : List ℕ). spelling children ++ x) (append_assoc (end_octets h.size) (spelling more) rest)))
      ∙ ap (λ (x : List ℕ). (x ++ (spelling children ++ (end_octets h.size ++ spelling more))) ++ rest) (sym o) ∙ e in
      by_size h children (spelling more ++ rest) h.size refl (s.0, s.1, tt) c e'
  by_forest (OpenPrimitive h c) rest s t e = absurd s
  by_forest (OpenHolder h children) rest s t e = absurd s
  by_forest (OpenBitString h) rest s t e = absurd s
  by_forest (OpenHeader o) rest s t e = absurd s
  by_forest OpenEndOctets rest s t e = absurd s

  pub first-encoding : BeginsWithEncodings octets → FirstEncoding octets fields count
  first-encoding k =
      by_forest k.sound.forest k.rest k.sound.sound k.sound.some
      (ap (λ (o : List ℕ). o ++ k.rest) k.sound.spelled ∙ k.octets_are)

-- octets that begin with whole encodings begin with a header
encodings-headed : (f : Forest) (rest octets : List ℕ) → IsSound (top_place (closed_framing false)) f
    → has_element f ≡ true → spelling f ++ rest ≡ octets → BeginsWithNoHeader octets → ⊥
encodings-headed NoMore rest octets s t e none = cc
encodings-headed (PaddingOctet more) rest octets s t e none = let x : false ≡ true = s.0 in cc
encodings-headed (Primitive h c more) rest octets s t e none =
    none h ((c ++ spelling more) ++ rest) s.0.0.valid (sym e ∙ append_assoc (octets_of h) (c ++ spelling more) rest)
encodings-headed (Holder h children more) rest octets s t e none =
    let others : List ℕ = spelling children ++ (end_octets h.size ++ spelling more) in
    none h ((lead h ++ others) ++ rest) s.0.0.valid
    (sym e ∙ ap (λ (x : List ℕ). x ++ rest) (append_assoc (octets_of h) (lead h) others)
    ∙ append_assoc (octets_of h) (lead h ++ others) rest)
encodings-headed (OpenPrimitive h c) rest octets s t e none = s
encodings-headed (OpenHolder h children) rest octets s t e none = s
encodings-headed (OpenBitString h) rest octets s t e none = s
encodings-headed (OpenHeader o) rest octets s t e none = s
encodings-headed OpenEndOctets rest octets s t e none = s

pub headless-none : (octets : List ℕ) → BeginsWithNoHeader octets → BeginsWithEncodings octets → ⊥
headless-none octets none k =
    encodings-headed k.sound.forest k.rest octets k.sound.sound k.sound.some
    (ap (λ (o : List ℕ). o ++ k.rest) k.sound.spelled ∙ k.octets_are) none

-- the size that is found for contents is that of the first encoding
pub size-found : (octets after : List ℕ) (fields : HeaderFields) (count : ℕ) (r : Option ℕ) → after ≡ drop count octets
    → ((n : ℕ) → fields.size ≡ Definite n → n ≤ length after → r ≡ Some n)
    → ((n : ℕ) → fields.size ≡ Indefinite → IsEnding (closed_framing false) after (fault_ending StrayEnd n)
    → n + 2 ≤ length after → r ≡ Some (n + 2))
    → FirstEncoding octets fields count
    → (n : ℕ) × (r ≡ Some n) × IsSoundList (closed_framing false) (take (count + n) octets)
size-found octets after fields count r same definite indefinite (of_definite n z k s) =
    (n, definite n z (omega (arith, k, ap length same)), s)
size-found octets after fields count r same definite indefinite (of_indefinite n z e k s) = (
  n + 2,
  indefinite n z (subst (λ (o : List ℕ). IsEnding (closed_framing false) o (fault_ending StrayEnd n)) (sym same) e)
      (omega (arith, k, ap length same)),
  s,
)

-- where a size is found, it is that
pub size-is : (octets : List ℕ) (count size : ℕ) (r : Option ℕ) → r ≡ Some size
    → (n : ℕ) × (r ≡ Some n) × IsSoundList (closed_framing false) (take (count + n) octets)
    → IsSoundList (closed_framing false) (take (count + size) octets)
size-is octets count size r e (n, f, s) =
    let same : n ≡ size = cc in
    subst (λ (i : ℕ). IsSoundList (closed_framing false) (take (count + i) octets)) same s

pub none-found : (octets : List ℕ) (count : ℕ) (r : Option ℕ) → r ≡ None
    → (n : ℕ) × (r ≡ Some n) × IsSoundList (closed_framing false) (take (count + n) octets) → ⊥
none-found octets count r e (n, f, s) = cc

-- the element at the start seems right, by the fields of its header and what comes after that
abbrev pub Seems-by : HeaderFields → List ℕ → Type 0
Seems-by fields after = (fields.constructed ≡ true)
    × BeginsWithEncodings (option_map_or (λ n. take n after) (definite_length fields.size) after)

after-is : (octets : List ℕ) (h : HeaderValue) (rest : List ℕ) (count : ℕ) → octets ≡ octets_of h ++ rest
    → length (octets_of h) ≡ count → rest ≡ drop count octets
after-is octets h rest count e n =
    sym (ap (λ (o : List ℕ). drop count o) e ∙ ap (λ (i : ℕ). drop i (octets_of h ++ rest)) (sym n)
    ∙ drop-append_seam (octets_of h) rest)

pub seems-from : (octets after : List ℕ) (fields : HeaderFields) (count : ℕ)
    → BeginsWithFields octets 0 false fields count → after ≡ drop count octets
    → Seems-by fields after → SeemsRight octets
seems-from octets after fields count b same seems = record {
  header = new_header fields (take count octets);
  begins = b.begins;
  constructed = seems.0;
  inside =
      subst (λ (o : List ℕ). BeginsWithEncodings (option_map_or (λ n. take n o) (definite_length fields.size) o))
      (same ∙ sym (after-is octets (new_header fields (take count octets)) b.begins.rest count b.begins.octets_are
      (count-is octets fields count b))) seems.1;
}

pub seems-by : (octets after : List ℕ) (fields : HeaderFields) (count : ℕ)
    → BeginsWithFields octets 0 false fields count → after ≡ drop count octets
    → SeemsRight octets → Seems-by fields after
seems-by octets after fields count b same s =
    let g : HeaderValue = new_header fields (take count octets) in
    let one : s.header ≡ g = begun-one s.header g s.begins b.begins in
    let size : length (octets_of s.header) ≡ count =
    ap (λ (x : HeaderValue). length (octets_of x)) one ∙ count-is octets fields count b in
    let rest : s.begins.rest ≡ after =
    after-is octets s.header s.begins.rest count s.begins.octets_are size ∙ sym same in
    let inside : BeginsWithEncodings (option_map_or (λ n. take n after) (definite_length s.header.size) after) =
    subst (λ (o : List ℕ). BeginsWithEncodings (option_map_or (λ n. take n o) (definite_length s.header.size) o)) rest
    s.inside in (
      ap (λ (x : HeaderValue). x.constructed) (sym one) ∙ s.constructed,
      subst (λ (x : Size). BeginsWithEncodings (option_map_or (λ n. take n after) (definite_length x) after))
          (ap (λ (x : HeaderValue). x.size) one) inside,
    )

-- the first element ends near the end of the input, by the fields of its header
module _ (octets : List ℕ) (fields : HeaderFields) (count : ℕ) (b : BeginsWithFields octets 0 false fields count) where
  start-is : contents_start (new_header fields (take count octets)) ≡ count
  start-is = omega (arith, b.begins.offset, count-is octets fields count b)

  pub ends-from : ends_near_by fields.constructed count (length octets) (definite_length fields.size) ≡ true
      → BeginsAndEnds octets
  ends-from near = record {
    header = new_header fields (take count octets);
    begins = b.begins;
    near =
        ap (λ (i : ℕ). ends_near_by fields.constructed i (length octets) (definite_length fields.size)) start-is ∙ near;
  }

  pub ends-by : BeginsAndEnds octets
      → ends_near_by fields.constructed count (length octets) (definite_length fields.size) ≡ true
  ends-by e =
      let one : e.header ≡ new_header fields (take count octets) =
      begun-one e.header (new_header fields (take count octets)) e.begins b.begins in
      sym (ap (λ (i : ℕ). ends_near_by fields.constructed i (length octets) (definite_length fields.size)) start-is)
      ∙ sym (ap (λ (x : HeaderValue). ends_near_by x.constructed (contents_start x) (length octets) (definite_length x.size))
      one) ∙ e.near

pub size-sound : (octets : List ℕ) (size : ℕ) (r : Option ℕ) → r ≡ Some size
    → (n : ℕ) × (r ≡ Some n) × IsSoundList (closed_framing false) (take n octets)
    → IsSoundList (closed_framing false) (take size octets)
size-sound octets size r e (n, f, s) =
    let same : n ≡ size = cc in subst (λ (i : ℕ). IsSoundList (closed_framing false) (take i octets)) same s

-- an element at an offset ends with the input, by the fields of its header
module _ (octets : List ℕ) (offset count : ℕ) (fields : HeaderFields)
    (b : BeginsWithFields (drop offset octets) offset false fields count) where
  alone-from : definite_length fields.size ≡ Some (length (drop count (drop offset octets))) → EndsWithInput octets offset
  alone-from e =
      let raw : List ℕ = take count (drop offset octets) in
      let size : length (octets_of (new_header fields raw)) ≡ count =
      ap length (take-append-drop fields.id_len raw) ∙ length-take-le count (drop offset octets) b.within in
      record {
        header = new_header fields raw;
        begins = b.begins;
        ends =
            e ∙ ap (λ (o : List ℕ). Some (length o))
            (sym (after-is (drop offset octets) (new_header fields raw) b.begins.rest count b.begins.octets_are size));
      }

  alone-by : EndsWithInput octets offset → definite_length fields.size ≡ Some (length (drop count (drop offset octets)))
  alone-by w =
      let raw : List ℕ = take count (drop offset octets) in
      let size : length (octets_of (new_header fields raw)) ≡ count =
      ap length (take-append-drop fields.id_len raw) ∙ length-take-le count (drop offset octets) b.within in
      let one : w.header ≡ new_header fields raw = begun-one w.header (new_header fields raw) w.begins b.begins in
      let wide : length (octets_of w.header) ≡ count = ap (λ (x : HeaderValue). length (octets_of x)) one ∙ size in
      sym (ap (λ (x : HeaderValue). definite_length x.size) one) ∙ w.ends
      ∙ ap (λ (o : List ℕ). Some (length o))
      (after-is (drop offset octets) w.header w.begins.rest count w.begins.octets_are wide)

  pub alone-same : (r : Bool) (after : List ℕ) → after ≡ drop count (drop offset octets)
      → IsTrue r ↔ (definite_length fields.size ≡ Some (length after)) → IsTrue r ↔ EndsWithInput octets offset
  alone-same r after same told = (
    (λ t. alone-from (told.0 t ∙ ap (λ (o : List ℕ). Some (length o)) same)),
    (λ w. told.1 (alone-by w ∙ ap (λ (o : List ℕ). Some (length o)) (sym same))),
  )
