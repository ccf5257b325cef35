-- An input has a list of strings that are broken.
use Rattle.std.proofs.Common.{◌≡◌, ℕ, zero, suc, ◌+◌, ◌<◌, ◌≤◌, Bool, true, false, ◌&&◌, List, [], ◌++◌, Option}
use Rattle.std.proofs.Common.{Some, None, refl, sym, ◌∙◌, arith, subst, if◌then◌else◌}
use Rattle.std.proofs.lemmas.List.Elements.{All-append, All-tail}
use Rattle.tlv_head.specs.Header.{HeaderValue, octets_of}
use Rattle.tlv_walk.specs.Forest.{Forest, Holder, NoMore, OpenBitString, OpenEndOctets, OpenHeader, OpenHolder}
use Rattle.tlv_walk.specs.Forest.{OpenPrimitive, PaddingOctet, Primitive, end_octets, opening, spelling}
use Rattle.tlv_walk.specs.Reading.{AreOctets, IsReading}
use Rattle.tlv_walk.proofs.GrammarLemmas.Readings.{is-reading, reading}
use Rattle.tlv_open.specs.declared.strings.BrokenString.{BrokenString}
use Rattle.tlv_open.specs.Breaks as breaks
use Rattle.tlv_open.specs.Breaks.{AreBroken, Breaks, IsBrokenString, is_extension, is_no_more}
use Rattle.tlv_open.specs.Held.{HoldsEncodings, inner_octets}
use Rattle.tlv_open.specs.Laws.{InputsHaveOneBrokenList}
use Rattle.tlv_open.specs.Opens.{Where, closed_framing, is_one_primitive, where_at_top, where_of_children}
use Rattle.tlv_open.specs.Opens.{where_of_held}
use Rattle.tlv_open.specs.Private.Finds.{list_of}
use Rattle.tlv_open.proofs.LawLemmas.Deciding.{candidate_of, fails, holds_test, passes}
use Rattle.tlv_open.proofs.LawLemmas.DecidingBroken.{broken_of, broken-none, broken-some}
use Rattle.tlv_open.proofs.LawLemmas.OneBroken.{are_broken-one}
use Rattle.tlv_open.proofs.LawLemmas.SomeList.{back-octets, front-octets, inner-are_octets}

-- ---- The list

-- of a string among elements with these inner octets, if it has any, by what is found in what strings hold
abbrev pub broken_string_list : (Where → HeaderValue → Forest → List BrokenString) → Where → Bool → HeaderValue → List ℕ
    → Option (List ℕ) → List BrokenString
broken_string_list held w v h c None = []
broken_string_list held w v h c (Some octets) =
    if holds_test w.depth octets then held w h (candidate_of octets)
    else list_of (broken_of (w.start + h.offset) w.depth (octets_of h ++ c) octets v)

-- of elements
abbrev pub broken_in : (Where → HeaderValue → Forest → List BrokenString) → Where → Bool → Forest → List BrokenString
broken_in held w e NoMore = []
broken_in held w e (PaddingOctet rest) = broken_in held w e rest
broken_in held w e (Primitive h c rest) =
    broken_string_list held w (e && is_no_more rest) h c (if w.may_open then inner_octets h c else None)
    ++ broken_in held w e rest
broken_in held w e (Holder h inside rest) =
    broken_in held (where_of_children w h (is_one_primitive inside)) (is_extension h inside) inside
    ++ broken_in held w e rest
broken_in held w e (OpenPrimitive h c) = []
broken_in held w e (OpenHolder h inside) = broken_in held (where_of_children w h false) false inside
broken_in held w e (OpenBitString h) = []
broken_in held w e (OpenHeader octets) = []
broken_in held w e OpenEndOctets = []

-- of elements, with strings in so many others
abbrev pub broken_list : ℕ → Where → Bool → Forest → List BrokenString
broken_list zero w e f = broken_in (λ v h g. []) w e f
broken_list (suc k) w e f = broken_in (λ v h g. broken_list k (where_of_held v h) false g) w e f

-- ---- It is right

-- of a primitive, if it is so of what it may hold
module _ (held : Where → HeaderValue → Forest → List BrokenString) (w : Where) (e : Bool) (h : HeaderValue)
    (contents : List ℕ) (rest : Forest) (ys : List BrokenString) (octets_are : AreOctets (octets_of h))
    (each : AreOctets contents)
    (is_held : (inner : Forest) → HoldsEncodings w.depth h contents inner → AreOctets (spelling inner)
    → Breaks (where_of_held w h) false inner (held w h inner))
    (more : Breaks w e rest ys) where
  abbrev value : Bool
  value = e && is_no_more rest

  abbrev string : List ℕ
  string = octets_of h ++ contents

  string-octets : AreOctets string
  string-octets = All-append (λ k. k < 256) (octets_of h) contents octets_are each

  module _ (octets : List ℕ) (inner : inner_octets h contents ≡ Some octets) (m : w.may_open ≡ true)
      (none : (f : Forest) → HoldsEncodings w.depth h contents f → ⊥) where
    same-octets : (o : List ℕ) → inner_octets h contents ≡ Some o → o ≡ octets
    same-octets o d = let u : Some o ≡ Some octets = sym d ∙ inner in cc (u)

    by_broken : (b : Option BrokenString) → broken_of (w.start + h.offset) w.depth string octets value ≡ b
        → Breaks w e (Primitive h contents rest) (list_of b ++ ys)
    by_broken (Some x) t =
        breaks.broken x (record {
          may_open = m;
          not_opened = none;
          octets = octets;
          inner = inner;
          is_broken =
              broken-some (w.start + h.offset) w.depth string octets value string-octets
              (inner-are_octets h contents octets inner each) x t;
        }) more
    by_broken None t =
        breaks.other (λ k. none)
        (λ x b.
        broken-none (w.start + h.offset) w.depth string octets value string-octets
        (inner-are_octets h contents octets inner each) x t
        (subst (λ (o : List ℕ). IsBrokenString (w.start + h.offset) w.depth string o value x)
        (same-octets b.octets b.inner) b.is_broken))
        more

  by_test : w.may_open ≡ true → (octets : List ℕ) → inner_octets h contents ≡ Some octets → (b : Bool)
      → holds_test w.depth octets ≡ b
      → Breaks w e (Primitive h contents rest)
      ((if b then held w h (candidate_of octets)
      else list_of (broken_of (w.start + h.offset) w.depth string octets value)) ++ ys)
  by_test m octets d true t =
      let each' : AreOctets octets = inner-are_octets h contents octets d each in
      let s : HoldsEncodings w.depth h contents (candidate_of octets) = passes w.depth h contents octets d each' t in
      let u : Some (spelling (candidate_of octets)) ≡ Some octets = sym s.octets ∙ d in
      let same : spelling (candidate_of octets) ≡ octets = cc (u) in
      breaks.opened m (candidate_of octets) s (is_held (candidate_of octets) s (subst AreOctets (sym same) each')) more
  by_test m octets d false t =
      by_broken octets d m
      (λ inner s. fails w.depth h contents octets d (inner-are_octets h contents octets d each) t inner s)
      (broken_of (w.start + h.offset) w.depth string octets value) refl

  by_octets : w.may_open ≡ true → (o : Option (List ℕ)) → inner_octets h contents ≡ o
      → Breaks w e (Primitive h contents rest) (broken_string_list held w value h contents o ++ ys)
  by_octets m None d =
      breaks.other (λ t inner s. let u : Some (spelling inner) ≡ None = sym s.octets ∙ d in absurd (cc (u)))
      (λ x b. let u : Some b.octets ≡ None = sym b.inner ∙ d in absurd (cc (u))) more
  by_octets m (Some octets) d = by_test m octets d (holds_test w.depth octets) refl

  by_may : (b : Bool) → w.may_open ≡ b
      → Breaks w e (Primitive h contents rest)
      (broken_string_list held w value h contents (if b then inner_octets h contents else None) ++ ys)
  by_may true m = by_octets m (inner_octets h contents) refl
  by_may false m =
      breaks.other (λ t inner s. let u : true ≡ false = sym t ∙ m in absurd (cc (u)))
      (λ x b. let u : true ≡ false = sym b.may_open ∙ m in absurd (cc (u))) more

-- of elements, if it is so of what strings among them hold
in-breaks : (k : ℕ) (held : Where → HeaderValue → Forest → List BrokenString)
    → ((w : Where) → 128 ≤ w.depth + k → (h : HeaderValue) (c : List ℕ) (inner : Forest)
    → HoldsEncodings w.depth h c inner
    → AreOctets (spelling inner) → Breaks (where_of_held w h) false inner (held w h inner))
    → (w : Where) (e : Bool) (f : Forest) → 128 ≤ w.depth + k → AreOctets (spelling f)
    → Breaks w e f (broken_in held w e f)
in-breaks k held is w e NoMore few each = breaks.no_more
in-breaks k held is w e (PaddingOctet rest) few each =
    breaks.padded (in-breaks k held is w e rest few (All-tail (λ k. k < 256) 0 (spelling rest) each))
in-breaks k held is w e (Primitive h c rest) few each =
    let inside : AreOctets (c ++ spelling rest) = back-octets (octets_of h) (c ++ spelling rest) each in
    by_may held w e h c rest (broken_in held w e rest) (front-octets (octets_of h) (c ++ spelling rest) each)
    (front-octets c (spelling rest) inside)
    (λ inner s o. is w few h c inner s o)
    (in-breaks k held is w e rest few (back-octets c (spelling rest) inside)) w.may_open refl
in-breaks k held is w e (Holder h inside rest) few each =
    let all : AreOctets (spelling inside ++ (end_octets h.size ++ spelling rest)) =
    back-octets (opening h) (spelling inside ++ (end_octets h.size ++ spelling rest)) each in
    breaks.holder
    (in-breaks k held is (where_of_children w h (is_one_primitive inside)) (is_extension h inside) inside (omega arith)
    (front-octets (spelling inside) (end_octets h.size ++ spelling rest) all))
    (in-breaks k held is w e rest few
    (back-octets (end_octets h.size) (spelling rest)
    (back-octets (spelling inside) (end_octets h.size ++ spelling rest) all)))
in-breaks k held is w e (OpenPrimitive h c) few each = breaks.open_primitive
in-breaks k held is w e (OpenHolder h inside) few each =
    breaks.open_holder
    (in-breaks k held is (where_of_children w h false) false inside (omega arith)
    (back-octets (opening h) (spelling inside) each))
in-breaks k held is w e (OpenBitString h) few each = breaks.open_bit_string
in-breaks k held is w e (OpenHeader octets) few each = breaks.open_header
in-breaks k held is w e OpenEndOctets few each = breaks.open_end_octets

-- of any elements, since strings are opened inside fewer than 128
list-breaks : (k : ℕ) (w : Where) (e : Bool) (f : Forest) → 128 ≤ w.depth + k → AreOctets (spelling f)
    → Breaks w e f (broken_list k w e f)
list-breaks zero w e f few each =
    in-breaks zero (λ v h g. []) (λ v b h c inner s o. absurd (omega (arith, s.shallow, b))) w e f few each
list-breaks (suc k) w e f few each =
    in-breaks (suc k) (λ v h g. broken_list k (where_of_held v h) false g)
    (λ v b h c inner s o. list-breaks k (where_of_held v h) false inner (omega (arith, b)) o) w e f few each

-- of an input
abbrev pub broken_list_of : Bool → List ℕ → List BrokenString
broken_list_of padding octets = broken_list 128 where_at_top false (reading (closed_framing padding) octets)

pub input-breaks : (padding : Bool) (octets : List ℕ) → AreOctets octets
    → AreBroken padding octets (broken_list_of padding octets)
input-breaks padding octets each =
    let f : Forest = reading (closed_framing padding) octets in
    let r : IsReading (closed_framing padding) octets f = is-reading (closed_framing padding) octets each in
    let read : AreOctets (spelling f) =
    front-octets (spelling f) r.is_prefix.0 (subst AreOctets (sym r.is_prefix.1) each) in
    record { reading = f; is_reading = r; breaks = list-breaks 128 where_at_top false f (omega arith) read }

pub one-broken_list : InputsHaveOneBrokenList
one-broken_list padding octets each = (
  broken_list_of padding octets,
  input-breaks padding octets each,
  λ ys other. are_broken-one padding octets (broken_list_of padding octets) ys (input-breaks padding octets each) other,
)
