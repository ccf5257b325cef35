-- An input has a list of strings that are opened.
use Rattle.std.proofs.Common.{◌≡◌, ℕ, zero, suc, ◌+◌, ◌<◌, ◌≤◌, Bool, true, false, List, [], ◌∷◌}
use Rattle.std.proofs.Common.{◌++◌, length, Option, Some, None, refl, sym, ◌∙◌, arith, subst}
use Rattle.std.proofs.Common.{if◌then◌else◌, eqb}
use Rattle.std.proofs.lemmas.List.Elements.{All-tail, All-take}
use Rattle.std.proofs.Math.Seq.{take-append_seam}
use Rattle.tlv_head.specs.Header.{HeaderValue, octets_of}
use Rattle.tlv_head.specs.UniversalTypes as universal
use Rattle.tlv_value.specs.Types.{is_a}
use Rattle.tlv_walk.specs.Forest.{Forest, Holder, NoMore, OpenBitString, OpenEndOctets, OpenHeader, OpenHolder}
use Rattle.tlv_walk.specs.Forest.{OpenPrimitive, PaddingOctet, Primitive, end_octets, opening, spelling}
use Rattle.tlv_walk.specs.Reading.{AreOctets, IsReading}
use Rattle.tlv_walk.proofs.GrammarLemmas.Readings.{is-reading, reading}
use Rattle.tlv_open.specs.Held.{HoldsEncodings, after_unused_bits, inner_octets}
use Rattle.tlv_open.specs.Laws.{InputsHaveOneList}
use Rattle.tlv_open.specs.Opens as opens
use Rattle.tlv_open.specs.Opens.{AreOpened, Opens, Where, closed_framing, is_one_primitive, where_at_top}
use Rattle.tlv_open.specs.Opens.{where_of_children, where_of_held}
use Rattle.tlv_open.proofs.LawLemmas.Deciding.{candidate_of, fails, holds_test, passes}
use Rattle.tlv_open.proofs.LawLemmas.OneList.{opened-one}

-- parts of octets are octets
pub back-octets : (a b : List ℕ) → AreOctets (a ++ b) → AreOctets b
back-octets [] b each = each
back-octets (x ∷ a) b each = back-octets a b (All-tail (λ k. k < 256) x (a ++ b) each)

pub front-octets : (a b : List ℕ) → AreOctets (a ++ b) → AreOctets a
front-octets a b each =
    subst AreOctets (take-append_seam a b) (All-take (λ k. k < 256) (length a) (a ++ b) each)

unused-octets : (contents octets : List ℕ) → after_unused_bits contents ≡ Some octets → AreOctets contents
    → AreOctets octets
unused-octets [] octets e each = absurd (cc (e))
unused-octets (x ∷ xs) octets e each = by_test (eqb x 0) e
  where
    by_test : (b : Bool) → (if b then Some xs else None) ≡ Some octets → AreOctets octets
    by_test true t = let same : xs ≡ octets = cc (t) in subst AreOctets same (All-tail (λ k. k < 256) x xs each)
    by_test false t = absurd (cc (t))

pub inner-are_octets : (h : HeaderValue) (contents octets : List ℕ) → inner_octets h contents ≡ Some octets
    → AreOctets contents → AreOctets octets
inner-are_octets h contents octets e each = by_type (is_a universal.octet_string h) (is_a universal.bit_string h) e
  where
    by_type : (a b : Bool)
        → (if a then Some contents else (if b then after_unused_bits contents else None)) ≡ Some octets
        → AreOctets octets
    by_type true b t = let same : contents ≡ octets = cc (t) in subst AreOctets same each
    by_type false true t = unused-octets contents octets t each
    by_type false false t = absurd (cc (t))

-- ---- The list

-- of a string among elements with these inner octets, if it has any, by what is found in what strings hold
abbrev pub string_list : (Where → HeaderValue → Forest → List ℕ) → Where → HeaderValue → Option (List ℕ) → List ℕ
string_list held w h None = []
string_list held w h (Some octets) =
    if holds_test w.depth octets then (w.start + h.offset) ∷ held w h (candidate_of octets) else []

-- of elements
abbrev pub list_in : (Where → HeaderValue → Forest → List ℕ) → Where → Forest → List ℕ
list_in held w NoMore = []
list_in held w (PaddingOctet rest) = list_in held w rest
list_in held w (Primitive h c rest) =
    string_list held w h (if w.may_open then inner_octets h c else None) ++ list_in held w rest
list_in held w (Holder h inside rest) =
    list_in held (where_of_children w h (is_one_primitive inside)) inside ++ list_in held w rest
list_in held w (OpenPrimitive h c) = []
list_in held w (OpenHolder h inside) = list_in held (where_of_children w h false) inside
list_in held w (OpenBitString h) = []
list_in held w (OpenHeader octets) = []
list_in held w OpenEndOctets = []

-- of elements, with strings in so many others
abbrev pub opened_list : ℕ → Where → Forest → List ℕ
opened_list zero w f = list_in (λ v h g. []) w f
opened_list (suc k) w f = list_in (λ v h g. opened_list k (where_of_held v h) g) w f

-- ---- It is right

-- of a primitive, if it is so of what it may hold
module _ (held : Where → HeaderValue → Forest → List ℕ) (w : Where) (h : HeaderValue) (contents : List ℕ)
    (rest : Forest) (ys : List ℕ) (each : AreOctets contents)
    (is_held : (inner : Forest) → HoldsEncodings w.depth h contents inner → AreOctets (spelling inner)
    → Opens (where_of_held w h) inner (held w h inner))
    (more : Opens w rest ys) where
  by_test : w.may_open ≡ true → (octets : List ℕ) → inner_octets h contents ≡ Some octets → (b : Bool)
      → holds_test w.depth octets ≡ b
      → Opens w (Primitive h contents rest)
      ((if b then (w.start + h.offset) ∷ held w h (candidate_of octets) else []) ++ ys)
  by_test m octets e true t =
      let each' : AreOctets octets = inner-are_octets h contents octets e each in
      let s : HoldsEncodings w.depth h contents (candidate_of octets) = passes w.depth h contents octets e each' t in
      let u : Some (spelling (candidate_of octets)) ≡ Some octets = sym s.octets ∙ e in
      let same : spelling (candidate_of octets) ≡ octets = cc (u) in
      opens.opened m (candidate_of octets) s (is_held (candidate_of octets) s (subst AreOctets (sym same) each')) more
  by_test m octets e false t =
      opens.closed
      (λ _ inner s.
      fails w.depth h contents octets e (inner-are_octets h contents octets e each) t inner s) more

  by_octets : w.may_open ≡ true → (o : Option (List ℕ)) → inner_octets h contents ≡ o
      → Opens w (Primitive h contents rest) (string_list held w h o ++ ys)
  by_octets m None e =
      opens.closed (λ t inner s. let u : Some (spelling inner) ≡ None = sym s.octets ∙ e in absurd (cc (u))) more
  by_octets m (Some octets) e = by_test m octets e (holds_test w.depth octets) refl

  by_may : (b : Bool) → w.may_open ≡ b
      → Opens w (Primitive h contents rest) (string_list held w h (if b then inner_octets h contents else None) ++ ys)
  by_may true m = by_octets m (inner_octets h contents) refl
  by_may false m = opens.closed (λ t inner s. let u : true ≡ false = sym t ∙ m in absurd (cc (u))) more

-- of elements, if it is so of what strings among them hold
in-opens : (k : ℕ) (held : Where → HeaderValue → Forest → List ℕ)
    → ((w : Where) → 128 ≤ w.depth + k → (h : HeaderValue) (c : List ℕ) (inner : Forest)
    → HoldsEncodings w.depth h c inner
    → AreOctets (spelling inner) → Opens (where_of_held w h) inner (held w h inner))
    → (w : Where) (f : Forest) → 128 ≤ w.depth + k → AreOctets (spelling f) → Opens w f (list_in held w f)
in-opens k held is w NoMore few each = opens.no_more
in-opens k held is w (PaddingOctet rest) few each =
    opens.padded (in-opens k held is w rest few (All-tail (λ k. k < 256) 0 (spelling rest) each))
in-opens k held is w (Primitive h c rest) few each =
    let inside : AreOctets (c ++ spelling rest) = back-octets (octets_of h) (c ++ spelling rest) each in
    by_may held w h c rest (list_in held w rest) (front-octets c (spelling rest) inside)
    (λ inner s e. is w few h c inner s e)
    (in-opens k held is w rest few (back-octets c (spelling rest) inside)) w.may_open refl
in-opens k held is w (Holder h inside rest) few each =
    let all : AreOctets (spelling inside ++ (end_octets h.size ++ spelling rest)) =
    back-octets (opening h) (spelling inside ++ (end_octets h.size ++ spelling rest)) each in
    opens.holder
    (in-opens k held is (where_of_children w h (is_one_primitive inside)) inside (omega arith)
    (front-octets (spelling inside) (end_octets h.size ++ spelling rest) all))
    (in-opens k held is w rest few
    (back-octets (end_octets h.size) (spelling rest)
    (back-octets (spelling inside) (end_octets h.size ++ spelling rest) all)))
in-opens k held is w (OpenPrimitive h c) few each = opens.open_primitive
in-opens k held is w (OpenHolder h inside) few each =
    opens.open_holder
    (in-opens k held is (where_of_children w h false) inside (omega arith)
    (back-octets (opening h) (spelling inside) each))
in-opens k held is w (OpenBitString h) few each = opens.open_bit_string
in-opens k held is w (OpenHeader octets) few each = opens.open_header
in-opens k held is w OpenEndOctets few each = opens.open_end_octets

-- of any elements, since strings are opened inside fewer than 128
list-opens : (k : ℕ) (w : Where) (f : Forest) → 128 ≤ w.depth + k → AreOctets (spelling f)
    → Opens w f (opened_list k w f)
list-opens zero w f few each =
    in-opens zero (λ v h g. []) (λ v b h c inner s e. absurd (omega (arith, s.shallow, b))) w f few each
list-opens (suc k) w f few each =
    in-opens (suc k) (λ v h g. opened_list k (where_of_held v h) g)
    (λ v b h c inner s e. list-opens k (where_of_held v h) inner (omega (arith, b)) e) w f few each

-- of an input
abbrev pub input_list : Bool → List ℕ → List ℕ
input_list padding octets = opened_list 128 where_at_top (reading (closed_framing padding) octets)

pub input-opens : (padding : Bool) (octets : List ℕ) → AreOctets octets
    → AreOpened padding octets (input_list padding octets)
input-opens padding octets each =
    let f : Forest = reading (closed_framing padding) octets in
    let r : IsReading (closed_framing padding) octets f = is-reading (closed_framing padding) octets each in
    let read : AreOctets (spelling f) =
    front-octets (spelling f) r.is_prefix.0 (subst AreOctets (sym r.is_prefix.1) each) in
    record { reading = f; is_reading = r; opens = list-opens 128 where_at_top f (omega arith) read }

pub one-list_opened : InputsHaveOneList
one-list_opened padding octets each = (
  input_list padding octets,
  input-opens padding octets each,
  λ ys other. opened-one padding octets (input_list padding octets) ys (input-opens padding octets each) other,
)
