-- An octet is refused exactly for a cause of the list, with its code.
use Rattle.std.proofs.Common.{◌≡◌, inl, inr, ℕ, ◌+◌, ◌<◌, Bool, true, false, ◌&&◌, ◌||◌, leb, List, [], ◌∷◌, ◌++◌}
use Rattle.std.proofs.Common.{length, Option, Some, None, refl, sym, ap, ◌∙◌, eq-eqb, ne_eqb, le-leb, leb-true}
use Rattle.std.proofs.Common.{leb-false}
use Rattle.std.proofs.lemmas.Bool.{cases_Bool, cases_eq, and_parts, and_cases, and_from, lt-leb, true≢false}
use Rattle.tlv_head.specs.declared.fault.FaultCode.{FaultCode}
use Rattle.tlv_head.specs.declared.fault.FaultCode.TheVariants.{StrayEnd}
use Rattle.tlv_head.specs.Header.{HeaderValue, announced_length, holds, octets_of}
use Rattle.tlv_head.proofs.Wraps.{is_wrapper}
use Rattle.tlv_head.specs.Refusal.{IsRefusedOctet}
use Rattle.tlv_head.proofs.GrammarLemmas.Scan.{Origin, Scan, Fresh, High, Named, Long, Ready, Stuck}
use Rattle.tlv_head.proofs.GrammarLemmas.Scan.{Over, moved_header, step}
use Rattle.tlv_head.proofs.GrammarLemmas.Scan.{scan, scan-moved_header, more-from_prefix}
use Rattle.tlv_head.proofs.GrammarLemmas.Meaning.{IsStateAfter, reads-step, reads-scan, prefix-bytes}
use Rattle.tlv_head.proofs.GrammarLemmas.Headers.{IsHeadRefusal, Explains, step-explains}
use Rattle.tlv_head.proofs.GrammarLemmas.RefusedOctets.{refused-stuck}
use Rattle.tlv_walk.specs.declared.framing.Framing.{Framing}
use Rattle.tlv_walk.specs.Forest.{Forest, NoMore, OpenPrimitive, OpenBitString, OpenHeader, OpenEndOctets}
use Rattle.tlv_walk.specs.Place.{Fits, IsHeaderAt, ObeysGrammar, Place, top_place}
use Rattle.tlv_walk.specs.Ending.{IsRefusedAt, bad_inside, missing_end, bad_end, no_room, refused_octet, too_deep}
use Rattle.tlv_walk.specs.Ending.{overrun}
use Rattle.tlv_walk.specs.Ending.{no_end, stray_end, OpenEnd, open_end}
use Rattle.tlv_walk.proofs.GrammarLemmas.Bounds.{fits, fits-within, within-fits}
use Rattle.tlv_walk.proofs.GrammarLemmas.PushSteps.{PushStep, Grown, Ended, Refused, begin, complete, origin, push}
use Rattle.tlv_walk.proofs.GrammarLemmas.PushSteps.{zero_between}
use Rattle.tlv_walk.proofs.GrammarLemmas.PopHeaders.{push-scan}
use Rattle.tlv_walk.proofs.GrammarLemmas.OpenEnds.{IsOpenEndAt, push-open_end, refusal, open_end-fact}

-- what does not fit ends beyond the bound
too-long : (p : Place) (n : ℕ) → fits p n ≡ false → Fits p n → ⊥
too-long p n e f = true≢false (sym (fits-within p.bound (p.offset + n) f) ∙ e)

-- what ends beyond the bound does not fit
no-fit : (p : Place) (n : ℕ) → (Fits p n → ⊥) → fits p n ≡ false
no-fit p n beyond = elim (cases_Bool (fits p n)) [
  | inl e ↦ absurd (beyond (within-fits p.bound (p.offset + n) e))
  | inr e ↦ e
]

-- why an octet is refused, if it is
abbrev pub Blames : Place → Forest → ℕ → Option FaultCode → Type 0
Blames p e x None = Unit {0}
Blames p e x (Some code) = IsRefusedAt (record { place = p; forest = e }) x code

-- an octet 00 between elements is refused as a stray end
zero-blames : (p : Place) (x : ℕ) (i a : Bool) → p.indefinite ≡ i → p.padding ≡ a → x ≡ 0
    → Blames p NoMore x (refusal (zero_between i a))
zero-blames p x true a e d z = tt
zero-blames p x false true e d z = tt
zero-blames p x false false e d z = stray_end e d z

-- between elements
between-blames : (p : Place) (x : ℕ) → (p.indefinite ≡ false → Fits p 1) → Blames p NoMore x (refusal (push p NoMore x))
between-blames p x room = elim (cases_Bool (fits p 1)) [
  | inl f ↦ elim (cases_eq x 0) [
    | inl e ↦ rw (f, eq-eqb x 0 e) (zero-blames p x p.indefinite p.padding refl refl e)
    | inr e ↦ rw (f, ne_eqb x 0 e) tt
  ]
  | inr f ↦ elim (cases_Bool p.indefinite) [
    | inl i ↦ rw f (no_end i (too-long p 1 f))
    | inr i ↦ absurd (true≢false (sym (fits-within p.bound (p.offset + 1) (room i)) ∙ f))
  ]
]

-- before the first contents octet of a wrapping BIT STRING
unused-blames : (p : Place) (h : HeaderValue) (x : ℕ)
    → Blames p (OpenBitString h) x (refusal (push p (OpenBitString h) x))
unused-blames p h x = elim (cases_eq x 0) [
  | inl e ↦ rw (eq-eqb x 0 e) tt
  | inr e ↦ rw (ne_eqb x 0 e) (bad_inside e)
]

-- after the first of the end-of-contents octets
end-blames : (p : Place) (x : ℕ) → Blames p OpenEndOctets x (refusal (push p OpenEndOctets x))
end-blames p x = elim (cases_Bool (fits p 2)) [
  | inl f ↦ elim (cases_eq x 0) [
    | inl e ↦ rw (f, eq-eqb x 0 e) tt
    | inr e ↦ rw (f, ne_eqb x 0 e) (bad_end (within-fits p.bound _ f) e)
  ]
  | inr f ↦ rw f (missing_end (too-long p 2 f))
]

-- what is refused for the octets of a header alone has that fault
octet-blames : (p : Place) (o : List ℕ) (x : ℕ) (code : FaultCode) → (o ≡ [] → ⊥) → Fits p (length o + 1)
    → IsHeadRefusal code o x → IsRefusedAt (open_end p (OpenHeader o)) x code
octet-blames p o x StrayEnd some room r = absurd (some r.0)
octet-blames p o x code some room r = refused_octet room r

-- if the test of the depth fails, the element is not too deep
depth-allows : (t : Bool) (d : ℕ) → (t && leb 128 d) ≡ false → t ≡ true → d < 128
depth-allows t d e k = elim (and_cases t (leb 128 d) e) [
  | inl z ↦ absurd (true≢false (sym k ∙ z))
  | inr z ↦ leb-false 128 d z
]

-- a header that is complete and refused is too deep, or its contents end beyond the bound
complete-blames : (p : Place) (o : List ℕ) (x : ℕ) (h : HeaderValue) → Fits p (length o + 1)
    → IsHeaderAt p h → octets_of h ≡ o ++ x ∷ []
    → Blames p (OpenHeader o) x (refusal (complete p h))
complete-blames p o x h room s octets = elim (cases_Bool (holds h && leb 128 p.depth)) [
  | inl deep ↦
      let parts : (holds h ≡ true) × (leb 128 p.depth ≡ true) = and_parts _ _ deep in
      rw deep (too_deep room h s parts.0 octets (leb-true _ _ parts.1))
  | inr not_deep ↦ elim (cases_Bool (fits p (length (octets_of h) + announced_length h.size))) [
    | inl f ↦ rw (not_deep, f) tt
    | inr f ↦ rw (not_deep, f) (overrun room h s octets (depth-allows (holds h) p.depth not_deep) (too-long p _ f))
  ]
]

-- octets of a header, by what they say
begin-blames : (p : Place) (o : List ℕ) (x : ℕ) (s : Scan) → (o ≡ [] → ⊥) → Fits p (length o + 1) → Explains s o x
    → IsStateAfter (origin p) s (o ++ x ∷ [])
    → Blames p (OpenHeader o) x (refusal (begin p (o ++ x ∷ []) s))
begin-blames p o x Fresh some below w r = tt
begin-blames p o x (High c k ds) some below w r = tt
begin-blames p o x (Named c k n i) some below w r = tt
begin-blames p o x (Long c k n i m ds) some below w r = tt
begin-blames p o x (Ready h) some below w r =
    complete-blames p o x h below
    (record {
      valid =
          r.0;
      offset = ap (λ (a : Origin). a.offset) r.2;
      named = ap (λ (a : Origin). a.named) r.2;
    })
    (sym r.1)
begin-blames p o x (Stuck code) some below w r = octet-blames p o x code some below w
begin-blames p o x Over some below w r = absurd w

-- inside a header
header-blames : (p : Place) (o : List ℕ) (x : ℕ) → x < 256 → ObeysGrammar p (OpenHeader o)
    → Blames p (OpenHeader o) x (refusal (push p (OpenHeader o) x))
header-blames p o x h w =
    let at : Origin = origin p in
    let now : IsStateAfter at (scan at o) o = reads-scan at o (prefix-bytes o w.1) in
    elim (cases_Bool (fits p (length o + 1))) [
      | inl f ↦ rw f
          (begin-blames p o x (step at (scan at o) x) w.0 (within-fits p.bound _ f)
          (step-explains at x (scan at o) o (more-from_prefix at o w.1) now) (reads-step at x (scan at o) o h now))
      | inr f ↦ rw f (no_room (too-long p (length o + 1) f))
    ]

-- a refusal at an open end has a cause of the list
pub refusal-has_fault : (p : Place) (f : Forest) (x : ℕ) → x < 256 → IsOpenEndAt p f
    → Blames p f x (refusal (push p f x))
refusal-has_fault p NoMore x h t = between-blames p x t.1
refusal-has_fault p (OpenPrimitive header c) x h t = tt
refusal-has_fault p (OpenBitString header) x h t = unused-blames p header x
refusal-has_fault p (OpenHeader o) x h t = header-blames p o x h t
refusal-has_fault p OpenEndOctets x h t = end-blames p x
refusal-has_fault p f x h t = absurd t

-- an octet that is refused for the octets of a header alone is refused there
stuck-refusal : (p : Place) (o : List ℕ) (x : ℕ) (code : FaultCode) → ObeysGrammar p (OpenHeader o)
    → Fits p (length o + 1)
    → IsRefusedOctet o x code → refusal (push p (OpenHeader o) x) ≡ Some code
stuck-refusal p o x code t room r =
    ap refusal (push-scan p o x (Stuck code) room (refused-stuck (origin p) code o x t.1 r))

-- the header as it is read there
read-there : (p : Place) (o : List ℕ) (x : ℕ) (h : HeaderValue) → Fits p (length o + 1) → IsHeaderAt p h
    → octets_of h ≡ o ++ x ∷ [] → push p (OpenHeader o) x ≡ complete p (moved_header (origin p) h)
read-there p o x h room s octets =
    push-scan p o x (Ready (moved_header (origin p) h)) room
    (ap (scan (origin p)) (sym octets) ∙ scan-moved_header (origin p) h s.valid)

-- the header as it is read there holds others if the header does
holds-there : (p : Place) (h : HeaderValue) → IsHeaderAt p h → holds (moved_header (origin p) h) ≡ holds h
holds-there p h s =
    ap (λ (named : Bool). h.constructed || is_wrapper named h.class h.constructed h.number h.size) (sym s.named)

-- if the element is not too deep, the test of the depth fails
pub not-deep : (t : Bool) (d : ℕ) → (t ≡ true → d < 128) → (t && leb 128 d) ≡ false
not-deep true d f = lt-leb 128 d (f refl)
not-deep false d f = refl

-- for a cause of the list an octet is refused at the open end, with that code
pub fault-refusal : (e : OpenEnd) (x : ℕ) (code : FaultCode) → IsOpenEndAt e.place e.forest → IsRefusedAt e x code
    → refusal (push e.place e.forest x) ≡ Some code
fault-refusal e x code t (bad_inside nz) = rw (ne_eqb x 0 nz)
fault-refusal e x code t (missing_end {p = p} a) = rw (no-fit p 2 a)
fault-refusal e x code t (bad_end {p = p} room nz) = rw (fits-within p.bound (p.offset + 2) room, ne_eqb x 0 nz)
fault-refusal e x code t (no_room {p = p} {o = o} a) = rw (no-fit p (length o + 1) a)
fault-refusal e x code t (refused_octet {p = p} {o = o} room r) = stuck-refusal p o x code t room r
fault-refusal e x code t (too_deep {p = p} {o = o} room h s form octets deep) =
    let test : (holds (moved_header (origin p) h) && leb 128 p.depth) ≡ true =
    and_from _ _ (holds-there p h s ∙ form) (le-leb 128 p.depth deep) in
    ap refusal (read-there p o x h room s octets) ∙ rw test
fault-refusal e x code t (overrun {p = p} {o = o} room h s octets k beyond) =
    let test : (holds (moved_header (origin p) h) && leb 128 p.depth) ≡ false =
    not-deep _ p.depth (λ q. k (sym (holds-there p h s) ∙ q)) in
    let none : fits p (length (octets_of h) + announced_length h.size) ≡ false = no-fit p _ beyond in
    ap refusal (read-there p o x h room s octets) ∙ rw (test, none)
fault-refusal e x code t (no_end {p = p} i a) = rw (no-fit p 1 a)
fault-refusal e x code t (stray_end {p = p} i d z) = rw (fits-within p.bound (p.offset + 1) (t.1 i), eq-eqb x 0 z, i, d)

-- a step with a code is that refusal
refusal-code : (s : PushStep) (code : FaultCode) → refusal s ≡ Some code → s ≡ Refused code
refusal-code (Grown g) code e = absurd (cc)
refusal-code (Ended g) code e = absurd (cc)
refusal-code (Refused c) code e = let same : c ≡ code = cc in ap Refused same

-- the innermost open end of a forest that obeys the grammar and is the whole input so far
open_end-top : (w : Framing) (f : Forest) → ObeysGrammar (top_place w) f
    → IsOpenEndAt (open_end (top_place w) f).place (open_end (top_place w) f).forest
open_end-top w f v = open_end-fact (top_place w) f tt (λ _ _. tt) v

-- an octet that is refused has a cause of the list, with that code
pub refused-fault : (w : Framing) (f : Forest) (x : ℕ) (code : FaultCode) → x < 256 → ObeysGrammar (top_place w) f
    → push (top_place w) f x ≡ Refused code → IsRefusedAt (open_end (top_place w) f) x code
refused-fault w f x code h v e =
    let same : refusal (push (open_end (top_place w) f).place (open_end (top_place w) f).forest x) ≡ Some code =
    sym (push-open_end (top_place w) f x) ∙ ap refusal e in
    rw same at (refusal-has_fault (open_end (top_place w) f).place (open_end (top_place w) f).forest x h
    (open_end-top w f v))

-- an octet with a cause of the list is refused, with that code
pub fault-refused : (w : Framing) (f : Forest) (x : ℕ) (code : FaultCode) → ObeysGrammar (top_place w) f
    → IsRefusedAt (open_end (top_place w) f) x code → push (top_place w) f x ≡ Refused code
fault-refused w f x code v k =
    refusal-code (push (top_place w) f x) code
    (push-open_end (top_place w) f x
    ∙ fault-refusal (open_end (top_place w) f) x code (open_end-top w f v) k)

-- an octet is refused with one code alone
pub fault-unique : (w : Framing) (f : Forest) (x : ℕ) (c d : FaultCode) → ObeysGrammar (top_place w) f
    → IsRefusedAt (open_end (top_place w) f) x c
    → IsRefusedAt (open_end (top_place w) f) x d → c ≡ d
fault-unique w f x c d v a b =
    let left : push (top_place w) f x ≡ Refused c = fault-refused w f x c v a in
    let right : push (top_place w) f x ≡ Refused d = fault-refused w f x d v b in
    cc (left, right)
