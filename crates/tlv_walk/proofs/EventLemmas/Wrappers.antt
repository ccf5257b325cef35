-- Wrappers by the events that enter them, and that their offsets rise.
use Rattle.std.proofs.Common.{◌≡◌, inl, inr, ℕ, ◌+◌, ◌<◌, ◌≤◌, Bool, true, false, ◌||◌, if◌then◌else◌, List, [], ◌∷◌}
use Rattle.std.proofs.Common.{◌++◌, length, map, refl, sym, ap, ◌∙◌, arith, length-append}
use Rattle.std.proofs.lemmas.Bool.{cases_Bool, true≢false}
use Rattle.tlv_head.specs.Header.{HeaderValue, holds, octets_of}
use Rattle.tlv_head.proofs.Wraps.{is_wrapper}
use Rattle.tlv_walk.specs.Forest.{Forest, NoMore, PaddingOctet, Primitive, Holder, OpenPrimitive, OpenHolder}
use Rattle.tlv_walk.specs.Forest.{OpenBitString, OpenHeader, OpenEndOctets, holder_extent, lead, opening, spelling}
use Rattle.tlv_head.specs.Lists.{is_among}
use Rattle.tlv_walk.specs.Place.{IsHeaderAt, ObeysGrammar, Place, place_after, place_of_children}
use Rattle.tlv_walk.specs.Events.{Begin, Bytes, Close, End, Enter, EventValue, Leave, Open, Pad, Unused, closing_event}
use Rattle.tlv_walk.specs.Events.{events, opening_events, single_octets}
use Rattle.tlv_walk.specs.Wrappers.{entered_offsets, wrapper_offset, wrapper_offsets}
use Rattle.tlv_walk.proofs.GrammarLemmas.Leads.{lead-one, wrapper_offset_by}
use Rattle.tlv_walk.proofs.GrammarLemmas.Spellings.{length-holder, length-opening, length-primitive}
use Rattle.tlv_head.proofs.ReaderLemmas.Prefix.{header-two}

-- of two pieces
pub enters-append : (xs ys : List EventValue) → entered_offsets (xs ++ ys) ≡ entered_offsets xs ++ entered_offsets ys
enters-append [] ys = refl
enters-append (Enter h ∷ es) ys = ap (λ (t : List ℕ). h.offset ∷ t) (enters-append es ys)
enters-append (Open h ∷ es) ys = enters-append es ys
enters-append (Begin h ∷ es) ys = enters-append es ys
enters-append (Bytes c ∷ es) ys = enters-append es ys
enters-append (End ∷ es) ys = enters-append es ys
enters-append (Close o ∷ es) ys = enters-append es ys
enters-append (Unused ∷ es) ys = enters-append es ys
enters-append (Leave ∷ es) ys = enters-append es ys
enters-append (Pad c ∷ es) ys = enters-append es ys

-- contents octets enter none
enters-bytes : (c : List ℕ) (es : List EventValue)
    → entered_offsets (map (λ x. Bytes (x ∷ [])) c ++ es) ≡ entered_offsets es
enters-bytes [] es = refl
enters-bytes (x ∷ c) es = enters-bytes c es

-- padding enters none
enters-pad : (c : List ℕ) (es : List EventValue)
    → entered_offsets (map (λ x. Pad (x ∷ [])) c ++ es) ≡ entered_offsets es
enters-pad [] es = refl
enters-pad (x ∷ c) es = enters-pad c es

-- cutting contents and padding apart changes none
pub enters-apart : (es : List EventValue) → entered_offsets (single_octets es) ≡ entered_offsets es
enters-apart [] = refl
enters-apart (Bytes c ∷ es) = enters-bytes c (single_octets es) ∙ enters-apart es
enters-apart (Pad c ∷ es) = enters-pad c (single_octets es) ∙ enters-apart es
enters-apart (Enter h ∷ es) = ap (λ (t : List ℕ). h.offset ∷ t) (enters-apart es)
enters-apart (Open h ∷ es) = enters-apart es
enters-apart (Begin h ∷ es) = enters-apart es
enters-apart (End ∷ es) = enters-apart es
enters-apart (Close o ∷ es) = enters-apart es
enters-apart (Unused ∷ es) = enters-apart es
enters-apart (Leave ∷ es) = enters-apart es

-- the first contents octet of a BIT STRING enters none
enters-unused : (l : List ℕ) (es : List EventValue) → entered_offsets (map (λ z. Unused) l ++ es) ≡ entered_offsets es
enters-unused [] es = refl
enters-unused (x ∷ l) es = enters-unused l es

-- the first event of an element that holds others, by its form
enters-first : (h : HeaderValue) (constructed : Bool) (es : List EventValue)
    → entered_offsets ((if constructed then Open h else Enter h) ∷ es)
    ≡ wrapper_offset_by constructed h.offset ++ entered_offsets es
enters-first h true es = refl
enters-first h false es = refl

-- the beginning of an element that holds others enters it, if it is a wrapper
enters-opens : (h : HeaderValue) (es : List EventValue)
    → entered_offsets (opening_events h ++ es) ≡ wrapper_offset h ++ entered_offsets es
enters-opens h es =
    enters-first h h.constructed (map (λ z. Unused) (lead h) ++ es)
    ∙ ap (λ (t : List ℕ). wrapper_offset h ++ t) (enters-unused (lead h) es)

-- the end of an element that holds others enters none
enters-closes : (h : HeaderValue) (inside : Forest) (es : List EventValue)
    → entered_offsets (closing_event h inside ∷ es) ≡ entered_offsets es
enters-closes h inside es = elim (cases_Bool h.constructed) [
  | inl e ↦ rw e
  | inr e ↦ rw e
]

-- what waits for its first contents octet is a wrapper
waiting-wraps : (h : HeaderValue) → lead h ≡ 0 ∷ [] → wrapper_offset h ≡ h.offset ∷ []
waiting-wraps h e = elim (cases_Bool h.constructed) [
  | inl c ↦ let none : List ℕ = [] in let e' : none ≡ 0 ∷ [] = rw c at e in absurd (cc)
  | inr c ↦ rw c
]

-- the wrappers of a forest that obeys the grammar are those that its events enter
pub wrapper_offsets-entered : (p : Place) (f : Forest) → ObeysGrammar p f
    → wrapper_offsets f ≡ entered_offsets (events f)
wrapper_offsets-entered p NoMore w = refl
wrapper_offsets-entered p (PaddingOctet rest) w = wrapper_offsets-entered (place_after p 1) rest w.1
wrapper_offsets-entered p (Primitive h c rest) w =
    wrapper_offsets-entered (place_after p (length (octets_of h) + length c)) rest w.1
wrapper_offsets-entered p (Holder h inside rest) w = sym
    (enters-opens h (events inside ++ closing_event h inside ∷ events rest)
    ∙ ap (λ (t : List ℕ). wrapper_offset h ++ t)
    (enters-append (events inside) (closing_event h inside ∷ events rest)
    ∙ (ap (λ (t : List ℕ). t ++ entered_offsets (closing_event h inside ∷ events rest))
    (sym (wrapper_offsets-entered (place_of_children p h) inside w.1))
    ∙ ap (λ (t : List ℕ). wrapper_offsets inside ++ t)
    (enters-closes h inside (events rest)
    ∙ sym (wrapper_offsets-entered (place_after p (holder_extent h inside)) rest w.2)))))
wrapper_offsets-entered p (OpenPrimitive h c) w = refl
wrapper_offsets-entered p (OpenHolder h inside) w =
    sym (enters-opens h (events inside)
    ∙ ap (λ (t : List ℕ). wrapper_offset h ++ t) (sym (wrapper_offsets-entered (place_of_children p h) inside w.1)))
wrapper_offsets-entered p (OpenBitString h) w = waiting-wraps h (lead-one h w.1)
wrapper_offsets-entered p (OpenHeader octets) w = refl
wrapper_offsets-entered p OpenEndOctets w = refl

-- each number is larger than the one before, from `least` on and below `end`
abbrev pub Rise : ℕ → ℕ → List ℕ → Type 0
Rise least end [] = least ≤ end
Rise least end (n ∷ ns) = (least ≤ n) × Rise (n + 1) end ns

-- a later end
rise-end : (a b c : ℕ) (ns : List ℕ) → b ≤ c → Rise a b ns → Rise a c ns
rise-end a b c [] h r = omega arith
rise-end a b c (n ∷ ns) h r = (r.0, rise-end (n + 1) b c ns h r.1)

-- an earlier beginning
rise-least : (a b c : ℕ) (ns : List ℕ) → b ≤ a → Rise a c ns → Rise b c ns
rise-least a b c [] h r = omega arith
rise-least a b c (n ∷ ns) h r = (omega (arith, r.0), r.1)

-- both
rise-within : (a b c d : ℕ) (ns : List ℕ) → c ≤ a → b ≤ d → Rise a b ns → Rise c d ns
rise-within a b c d ns h k r = rise-least a c d ns h (rise-end a b d ns k r)

-- numbers that rise, and others that rise after them
rise-append : (a b c : ℕ) (xs ys : List ℕ) → Rise a b xs → Rise b c ys → Rise a c (xs ++ ys)
rise-append a b c [] ys r s = rise-least b a c ys r s
rise-append a b c (n ∷ xs) ys r s = (r.0, rise-append (n + 1) b c xs ys r.1 s)

-- the offset of a wrapper is that of its first octet
wrapper-rises : (a b : ℕ) (h : HeaderValue) → h.offset ≡ a → a < b → Rise a b (wrapper_offset h)
wrapper-rises a b h e l = elim (cases_Bool h.constructed) [
  | inl c ↦ rw c (omega arith)
  | inr c ↦ rw c (omega arith, omega arith)
]

-- the offsets of the wrappers rise, and are those of octets of the forest
pub wrapper_offsets-rise : (p : Place) (f : Forest) → ObeysGrammar p f
    → Rise p.offset (p.offset + length (spelling f)) (wrapper_offsets f)
wrapper_offsets-rise p NoMore w = omega arith
wrapper_offsets-rise p (PaddingOctet rest) w =
    rise-within _ _ _ _ (wrapper_offsets rest) (omega arith) (omega arith)
    (wrapper_offsets-rise (place_after p 1) rest w.1)
wrapper_offsets-rise p (Primitive h c rest) w =
    rise-within _ _ _ _ (wrapper_offsets rest) (omega arith) (omega (arith, length-primitive h c rest))
    (wrapper_offsets-rise (place_after p (length (octets_of h) + length c)) rest w.1)
wrapper_offsets-rise p (Holder h inside rest) w =
    let two : 2 ≤ length (octets_of h) = header-two h w.0.0.header.valid in
    let size : length (spelling (Holder h inside rest)) ≡ holder_extent h inside + length (spelling rest) =
    length-holder h inside rest in
    rise-append p.offset (p.offset + length (opening h)) _ (wrapper_offset h)
    (wrapper_offsets inside ++ wrapper_offsets rest)
    (wrapper-rises p.offset (p.offset + length (opening h)) h w.0.0.header.offset (omega (arith, length-opening h)))
    (rise-append (p.offset + length (opening h)) (p.offset + holder_extent h inside) _ (wrapper_offsets inside)
    (wrapper_offsets rest)
    (rise-within _ _ _ _ (wrapper_offsets inside) (omega arith) (omega arith)
    (wrapper_offsets-rise (place_of_children p h) inside w.1))
    (rise-within _ _ _ _ (wrapper_offsets rest) (omega arith) (omega arith)
    (wrapper_offsets-rise (place_after p (holder_extent h inside)) rest w.2)))
wrapper_offsets-rise p (OpenPrimitive h c) w = omega arith
wrapper_offsets-rise p (OpenHolder h inside) w =
    let two : 2 ≤ length (octets_of h) = header-two h w.0.0.header.valid in
    rise-append p.offset (p.offset + length (opening h)) _ (wrapper_offset h) (wrapper_offsets inside)
    (wrapper-rises p.offset (p.offset + length (opening h)) h w.0.0.header.offset (omega (arith, length-opening h)))
    (rise-within _ _ _ _ (wrapper_offsets inside) (omega arith)
    (omega (arith, length-append (opening h) (spelling inside)))
    (wrapper_offsets-rise (place_of_children p h) inside w.1))
wrapper_offsets-rise p (OpenBitString h) w =
    wrapper-rises p.offset _ h w.0.header.offset (omega (arith, header-two h w.0.header.valid))
wrapper_offsets-rise p (OpenHeader octets) w = omega arith
wrapper_offsets-rise p OpenEndOctets w = omega arith

-- each is among the offsets named
abbrev pub AreNamed : List ℕ → List ℕ → Type 0
AreNamed inside [] = Unit {0}
AreNamed inside (n ∷ ns) = (is_among n inside ≡ true) × AreNamed inside ns

-- of two pieces
named-append : (inside xs ys : List ℕ) → AreNamed inside xs → AreNamed inside ys → AreNamed inside (xs ++ ys)
named-append inside [] ys r s = s
named-append inside (n ∷ xs) ys r s = (r.0, named-append inside xs ys r.1 s)

-- only what is named is a wrapper
wraps-named : (constructed named : Bool) (h : HeaderValue) → constructed ≡ false
    → (constructed || is_wrapper named h.class constructed h.number h.size) ≡ true → named ≡ true
wraps-named true named h c e = absurd (true≢false c)
wraps-named false true h c e = refl
wraps-named false false h c e = absurd (cc)

-- an element that is there, if it is a wrapper, is named
wrapper-named : (p : Place) (h : HeaderValue) → IsHeaderAt p h → holds h ≡ true → AreNamed p.inside (wrapper_offset h)
wrapper-named p h header holding = elim (cases_Bool h.constructed) [
  | inl c ↦ rw c tt
  | inr c ↦
      let named : is_among h.offset p.inside ≡ true =
      ap (λ (n : ℕ). is_among n p.inside) header.offset
      ∙ (sym header.named ∙ wraps-named h.constructed h.named h c holding) in
      rw c (named, tt)
]

-- the wrappers of a forest that obeys the grammar are among the offsets named
pub wrapper_offsets-named : (p : Place) (f : Forest) → ObeysGrammar p f → AreNamed p.inside (wrapper_offsets f)
wrapper_offsets-named p NoMore w = tt
wrapper_offsets-named p (PaddingOctet rest) w = wrapper_offsets-named (place_after p 1) rest w.1
wrapper_offsets-named p (Primitive h c rest) w =
    wrapper_offsets-named (place_after p (length (octets_of h) + length c)) rest w.1
wrapper_offsets-named p (Holder h inside rest) w =
    named-append p.inside (wrapper_offset h) (wrapper_offsets inside ++ wrapper_offsets rest)
    (wrapper-named p h w.0.0.header w.0.0.holding)
    (named-append p.inside (wrapper_offsets inside) (wrapper_offsets rest)
    (wrapper_offsets-named (place_of_children p h) inside w.1)
    (wrapper_offsets-named (place_after p (holder_extent h inside)) rest w.2))
wrapper_offsets-named p (OpenPrimitive h c) w = tt
wrapper_offsets-named p (OpenHolder h inside) w =
    named-append p.inside (wrapper_offset h) (wrapper_offsets inside) (wrapper-named p h w.0.0.header w.0.0.holding)
    (wrapper_offsets-named (place_of_children p h) inside w.1)
wrapper_offsets-named p (OpenBitString h) w = wrapper-named p h w.0.header w.0.holding
wrapper_offsets-named p (OpenHeader octets) w = tt
wrapper_offsets-named p OpenEndOctets w = tt
