-- Octets that are refused whatever the room and the depth: no header begins with them, and they begin with none.
use Rattle.std.proofs.Common.{◌≡◌, ◌≢◌, ◌⊎◌, inl, inr, ℕ, ◌+◌, ◌-◌, ◌<◌, ◌≤◌, Bool, true, false, not, ◌&&◌, eqb, ltb}
use Rattle.std.proofs.Common.{List, [], ◌∷◌, ◌++◌, length, All, refl, sym, ap, ◌∙◌, arith, append_assoc, append-nil}
use Rattle.std.proofs.Common.{length-append, lt-ltb, le-ltb, ne_eqb, ⊎_elim}
use Rattle.std.proofs.lemmas.Bool.{cases_Bool}
use Rattle.std.proofs.lemmas.List.Elements.{All-head, All-tail}
use Rattle.tlv_head.specs.declared.header.Class.{Class}
use Rattle.tlv_head.specs.declared.fault.FaultCode.{FaultCode}
use Rattle.tlv_head.specs.declared.fault.FaultCode.TheVariants.{TagTooLong, ReservedLength, IndefinitePrimitive}
use Rattle.tlv_head.specs.declared.fault.FaultCode.TheVariants.{LengthTooLarge}
use Rattle.tlv_head.specs.Header.{HeaderValue, IsHeader, IsIdentifier, identifier_octet, octets_of, with_bit_8}
use Rattle.tlv_head.specs.Refusal.{CannotBecomeHeader, BeginsWithNoHeader, IsHeaderPrefix, IsRefusedOctet}
use Rattle.tlv_head.specs.Refusal.{indefinite_primitive, length_too_large, reserved_length, tag_too_long}
use Rattle.tlv_head.proofs.GrammarLemmas.Scan.{Scan, Origin, start, Fresh, High, Named, Long, Ready, Stuck, Over, step}
use Rattle.tlv_head.proofs.GrammarLemmas.Scan.{scan_from, scan, scan_from-append, scan_from-over, scan-identifier}
use Rattle.tlv_head.proofs.GrammarLemmas.Scan.{scan-moved_header, moved_header, step-leading, is_more, more-from_prefix}
use Rattle.tlv_head.proofs.GrammarLemmas.Headers.{prefixes-nest, stuck-none}

-- read from this state, a prefix of the octets is refused at its last octet
record IsStuckFrom (at : Origin) (s : Scan) (o : List ℕ) : Type 0 where
  prefix : List ℕ
  rest : List ℕ
  code : FaultCode
  stuck : scan_from at s prefix ≡ Stuck code
  octets_are : o ≡ prefix ++ rest

-- so it is, whatever follows
stuck-longer : (at : Origin) (s : Scan) (o more : List ℕ) → IsStuckFrom at s o → IsStuckFrom at s (o ++ more)
stuck-longer at s o more r = record {
  prefix = r.prefix;
  rest = r.rest ++ more;
  code = r.code;
  stuck = r.stuck;
  octets_are = ap (λ z. z ++ more) r.octets_are ∙ append_assoc r.prefix r.rest more;
}

stuck-last : (at : Origin) (o : List ℕ) (code : FaultCode) → scan at o ≡ Stuck code → IsStuckFrom at Fresh o
stuck-last at o code e = record { prefix = o; rest = []; code = code; stuck = e; octets_are = sym (append-nil o) }

prefix-none : (o : List ℕ) (code : FaultCode) → scan start o ≡ Stuck code → CannotBecomeHeader o
prefix-none o code e = stuck-none start (Stuck code) o e refl (λ h z. cc)

-- no header begins with such octets
stuck-begins-none : (o : List ℕ) → IsStuckFrom start Fresh o → CannotBecomeHeader o
stuck-begins-none o r = λ h more v e.
    prefix-none r.prefix r.code r.stuck h (r.rest ++ more) v
    (sym (append_assoc r.prefix r.rest more) ∙ (ap (λ z. z ++ more) (sym r.octets_are) ∙ e))

past-header : (at : Origin) (h : HeaderValue) (z : List ℕ) (code : FaultCode) → scan_from at (Ready h) z ≡ Stuck code
    → ⊥
past-header at h [] code e = cc
past-header at h (y ∷ z) code e = let over : scan_from at Over z ≡ Over = scan_from-over at z in cc

-- octets that are refused at the last of them begin with no header
header-not_stuck : (h : HeaderValue) (z o : List ℕ) (code : FaultCode) → IsHeader h → octets_of h ++ z ≡ o
    → scan start o ≡ Stuck code → ⊥
header-not_stuck h z o code v e s =
    let whole : scan start (octets_of h ++ z) ≡ Stuck code = ap (scan start) e ∙ s in
    let split : scan_from start (scan start (octets_of h)) z ≡ Stuck code =
    sym (scan_from-append start Fresh (octets_of h) z) ∙ whole in
    past-header start (moved_header start h) z code
    (ap (λ (t : Scan). scan_from start t z) (sym (scan-moved_header start h v)) ∙ split)

stuck-begins_with-none : (o : List ℕ) → IsStuckFrom start Fresh o → BeginsWithNoHeader o
stuck-begins_with-none o r =
    λ h rest v e. elim (prefixes-nest r.prefix (octets_of h) r.rest rest (sym r.octets_are ∙ e)) [
      | inl z ↦ prefix-none r.prefix r.code r.stuck h z.0 v z.1
      | inr z ↦ header-not_stuck h z.0 r.prefix r.code v z.1 r.stuck
    ]

-- one octet after those that were read
scan-step : (at : Origin) (o : List ℕ) (x : ℕ) (s : Scan) (code : FaultCode) → scan at o ≡ s
    → step at s x ≡ Stuck code → scan at (o ++ x ∷ []) ≡ Stuck code
scan-step at o x s code e f = rw (scan_from-append at Fresh o (x ∷ []), e) f

-- subsequent identifier octets with bit 8 set
scan-flagged : (at : Origin) (c : Class) (k : Bool) (ds es : List ℕ) → All (λ d. d < 128) es → length ds + length es ≤ 8
    → scan_from at (High c k ds) (with_bit_8 es) ≡ High c k (ds ++ es)
scan-flagged at c k ds [] each few = ap (High c k) (sym (append-nil ds))
scan-flagged at c k ds (e ∷ es) each few =
    let here : e < 128 = All-head (λ d. d < 128) e es each in
    let more : 128 ≤ 128 + e = omega arith in
    let room : length ds < 8 = omega arith in
    let back : 128 + e - 128 ≡ e = omega arith in
    let fewer : length (ds ++ e ∷ []) + length es ≤ 8 = omega (arith, length-append ds (e ∷ [])) in
    let one : step at (High c k ds) (128 + e) ≡ High c k (ds ++ e ∷ []) =
    rw (le-ltb (128 + e) 128 more, lt-ltb (length ds) 8 room, back) in
    ap (λ (s : Scan). scan_from at s (with_bit_8 es)) one
    ∙ rw (append_assoc ds (e ∷ []) es) at
    (scan-flagged at c k (ds ++ e ∷ []) es (All-tail (λ d. d < 128) e es each) fewer)

-- a ninth such octet
too_long-stuck : (at : Origin) (c : Class) (k : Bool) (ds o : List ℕ) (x : ℕ) → All (λ d. d < 128) ds → length ds ≡ 8
    → o ≡ identifier_octet c k 31 ∷ with_bit_8 ds → 128 ≤ x → scan at (o ++ x ∷ []) ≡ Stuck TagTooLong
too_long-stuck at c k ds o x each eight octets flag =
    let nonzero : identifier_octet c k 31 ≡ 0 → ⊥ = omega arith in
    let below : 31 < 32 = omega arith in
    let prefix : scan at o ≡ High c k ds =
    rw octets (ap (λ (s : Scan). scan_from at s (with_bit_8 ds)) (step-leading at c k 31 below nonzero)
    ∙ scan-flagged at c k [] ds each (omega (arith, eight))) in
    scan-step at o x (High c k ds) TagTooLong prefix
    (rw (le-ltb x 128 flag, le-ltb (length ds) 8 (omega (arith, eight))))

-- a first length octet ff
reserved-stuck : (at : Origin) (c : Class) (k : Bool) (n : ℕ) (o : List ℕ) (x : ℕ) → IsIdentifier c k n o → x ≡ 255
    → scan at (o ++ x ∷ []) ≡ Stuck ReservedLength
reserved-stuck at c k n o x i e =
    scan-step at o x (Named c k n o) ReservedLength (scan-identifier at c k n o i) (rw e refl)

-- a first length octet 80 of a primitive
primitive-stuck : (at : Origin) (c : Class) (n : ℕ) (o : List ℕ) (x : ℕ) → IsIdentifier c false n o → x ≡ 128
    → scan at (o ++ x ∷ []) ≡ Stuck IndefinitePrimitive
primitive-stuck at c n o x i e =
    scan-step at o x (Named c false n o) IndefinitePrimitive (scan-identifier at c false n o i) (rw e refl)

-- the digits of an unfinished length are read, or one of them is refused
long-or-stuck : (at : Origin) (c : Class) (k : Bool) (n : ℕ) (i : List ℕ) (m : ℕ) (ds es : List ℕ)
    → length ds + length es < m
    → (scan_from at (Long c k n i m ds) es ≡ Long c k n i m (ds ++ es)) ⊎ IsStuckFrom at (Long c k n i m ds) es
long-or-stuck at c k n i m ds [] h = inl (ap (Long c k n i m) (sym (append-nil ds)))
long-or-stuck at c k n i m ds (e ∷ es) h = ⊎_elim
    (λ (bad : (not (eqb e 0) && ltb (length ds + 5) m) ≡ true).
    inr (record { prefix = e ∷ []; rest = es; code = LengthTooLarge; stuck = rw bad refl; octets_are = refl }))
    (λ (good : (not (eqb e 0) && ltb (length ds + 5) m) ≡ false).
    let room : length ds + 1 < m = omega arith in
    let one : step at (Long c k n i m ds) e ≡ Long c k n i m (ds ++ e ∷ []) =
    rw (good, lt-ltb (length ds + 1) m room) in
    let fewer : length (ds ++ e ∷ []) + length es < m = omega (arith, length-append ds (e ∷ [])) in
    ⊎_elim
    (λ (on : scan_from at (Long c k n i m (ds ++ e ∷ [])) es ≡ Long c k n i m ((ds ++ e ∷ []) ++ es)). inl
    (rw (one, sym (append_assoc ds (e ∷ []) es)) on))
    (λ (r : IsStuckFrom at (Long c k n i m (ds ++ e ∷ [])) es).
    inr (record {
      prefix = e ∷ r.prefix;
      rest = r.rest;
      code = r.code;
      stuck = ap (λ (s : Scan). scan_from at s r.prefix) one ∙ r.stuck;
      octets_are = ap (λ z. e ∷ z) r.octets_are;
    }))
    (long-or-stuck at c k n i m (ds ++ e ∷ []) es fewer))
    (cases_Bool (not (eqb e 0) && ltb (length ds + 5) m))

-- a length octet that makes the length too large is refused, or one before it is
too_large-stuck : (at : Origin) (c : Class) (k : Bool) (n : ℕ) (x left : ℕ) (i ds o : List ℕ) → IsIdentifier c k n i
    → 6 ≤ left → length ds + left ≤ 126
    → o ≡ i ++ (128 + (length ds + left)) ∷ ds → x ≢ 0
    → (scan at (o ++ x ∷ []) ≡ Stuck LengthTooLarge) ⊎ IsStuckFrom at Fresh o
too_large-stuck at c k n x left i ds o id many few octets nonzero =
    let m : ℕ = length ds + left in
    let above : 128 ≤ 128 + m = omega arith in
    let apart : 128 + m ≡ 255 → ⊥ = omega (arith, few) in
    let other : 128 + m ≡ 128 → ⊥ = omega (arith, many) in
    let back : 128 + m - 128 ≡ m = omega arith in
    let one : step at (Named c k n i) (128 + m) ≡ Long c k n i m [] =
    rw (le-ltb (128 + m) 128 above, ne_eqb (128 + m) 255 apart, ne_eqb (128 + m) 128 other, back) in
    let lead : (es : List ℕ) → scan at (i ++ (128 + m) ∷ es) ≡ scan_from at (Long c k n i m []) es =
    λ es. scan_from-append at Fresh i ((128 + m) ∷ es)
    ∙ (ap (λ (s : Scan). scan_from at s ((128 + m) ∷ es)) (scan-identifier at c k n i id)
    ∙ ap (λ (s : Scan). scan_from at s es) one) in
    let more : length ds + 5 < m = omega (arith, many) in
    ⊎_elim
    (λ (on : scan_from at (Long c k n i m []) ds ≡ Long c k n i m ds).
    inl (scan-step at o x (Long c k n i m ds) LengthTooLarge (ap (scan at) octets ∙ (lead ds ∙ on))
    (rw (ne_eqb x 0 nonzero, lt-ltb (length ds + 5) m more))))
    (λ (s : IsStuckFrom at (Long c k n i m []) ds).
    inr (record {
      prefix = i ++ (128 + m) ∷ s.prefix;
      rest = s.rest;
      code = s.code;
      stuck = lead s.prefix ∙ s.stuck;
      octets_are =
          octets
          ∙ (ap (λ z. i ++ (128 + m) ∷ z) s.octets_are ∙ sym (append_assoc i ((128 + m) ∷ s.prefix) s.rest));
    }))
    (long-or-stuck at c k n i m [] ds (omega (arith, many)))

-- the last octet is refused with this code, or one before it is refused
refused-last : (at : Origin) (code : FaultCode) (o : List ℕ) (x : ℕ) → IsRefusedOctet o x code
    → (scan at (o ++ x ∷ []) ≡ Stuck code) ⊎ ((code ≡ LengthTooLarge) × IsStuckFrom at Fresh o)
refused-last at code o x (tag_too_long c k prefix eight flag) =
    inl (too_long-stuck at c k prefix.digits o x prefix.each eight prefix.octets_are flag)
refused-last at code o x (reserved_length c k n i e) = inl (reserved-stuck at c k n o x i e)
refused-last at code o x (indefinite_primitive c n i e) = inl (primitive-stuck at c n o x i e)
refused-last at code o x (length_too_large c k n left prefix many nonzero) = ⊎_elim
    (λ (e : scan at (o ++ x ∷ []) ≡ Stuck LengthTooLarge). inl e)
    (λ (s : IsStuckFrom at Fresh o). inr (refl, s))
    (too_large-stuck at c k n x left prefix.identifier_octets prefix.digits o prefix.identifier many prefix.within
    prefix.octets_are nonzero)

refused-stuck_from : (code : FaultCode) (o : List ℕ) (x : ℕ) → IsRefusedOctet o x code
    → IsStuckFrom start Fresh (o ++ x ∷ [])
refused-stuck_from code o x r = ⊎_elim
    (λ (e : scan start (o ++ x ∷ []) ≡ Stuck code). stuck-last start (o ++ x ∷ []) code e)
    (λ (s : (code ≡ LengthTooLarge) × IsStuckFrom start Fresh o). stuck-longer start Fresh o (x ∷ []) s.1)
    (refused-last start code o x r)

-- no header begins with octets of which the last is refused
pub refused-none : (code : FaultCode) (o : List ℕ) (x : ℕ) → IsRefusedOctet o x code → CannotBecomeHeader (o ++ x ∷ [])
refused-none code o x r = stuck-begins-none (o ++ x ∷ []) (refused-stuck_from code o x r)

-- nor do they begin with one, whatever follows
pub refused-with_none : (code : FaultCode) (o : List ℕ) (x : ℕ) (more : List ℕ) → IsRefusedOctet o x code
    → BeginsWithNoHeader ((o ++ x ∷ []) ++ more)
refused-with_none code o x more r =
    stuck-begins_with-none ((o ++ x ∷ []) ++ more)
    (stuck-longer start Fresh (o ++ x ∷ []) more (refused-stuck_from code o x r))

past-stuck : (at : Origin) (code : FaultCode) (z : List ℕ) → is_more (scan_from at (Stuck code) z) ≡ false
past-stuck at code [] = refl
past-stuck at code (y ∷ z) = ap is_more (scan_from-over at z)

stuck-no_more : (at : Origin) (o : List ℕ) → IsStuckFrom at Fresh o → is_more (scan at o) ≡ false
stuck-no_more at o r =
    let split : scan at o ≡ scan_from at (Stuck r.code) r.rest =
    ap (scan at) r.octets_are
    ∙ (scan_from-append at Fresh r.prefix r.rest ∙ ap (λ (s : Scan). scan_from at s r.rest) r.stuck) in
    ap is_more split ∙ past-stuck at r.code r.rest

-- after a prefix of a header an octet is refused with this code
pub refused-stuck : (at : Origin) (code : FaultCode) (o : List ℕ) (x : ℕ) → IsHeaderPrefix o → IsRefusedOctet o x code
    → scan at (o ++ x ∷ []) ≡ Stuck code
refused-stuck at code o x prefix r = ⊎_elim
    (λ (e : scan at (o ++ x ∷ []) ≡ Stuck code). e)
    (λ (s : (code ≡ LengthTooLarge) × IsStuckFrom at Fresh o).
    absurd (let both : true ≡ false = sym (more-from_prefix at o prefix) ∙ stuck-no_more at o s.1 in cc))
    (refused-last at code o x r)

stuck-or_over : (at : Origin) (s : Scan) (o : List ℕ) (x : ℕ) → IsStuckFrom at s o → scan_from at s (o ++ x ∷ []) ≡ Over
stuck-or_over at s o x r =
    let whole : o ++ x ∷ [] ≡ r.prefix ++ (r.rest ++ x ∷ []) =
    ap (λ z. z ++ x ∷ []) r.octets_are ∙ append_assoc r.prefix r.rest (x ∷ []) in
    ap (scan_from at s) whole
    ∙ (scan_from-append at s r.prefix (r.rest ++ x ∷ [])
    ∙ (ap (λ (t : Scan). scan_from at t (r.rest ++ x ∷ [])) r.stuck ∙ over r.rest))
  where
    over : (z : List ℕ) → scan_from at (Stuck r.code) (z ++ x ∷ []) ≡ Over
    over [] = refl
    over (y ∷ z) = scan_from-over at (z ++ x ∷ [])

-- the state has this code, or is after a refusal
refused-state : (code : FaultCode) (o : List ℕ) (x : ℕ) → IsRefusedOctet o x code
    → (scan start (o ++ x ∷ []) ≡ Stuck code) ⊎ ((code ≡ LengthTooLarge) × (scan start (o ++ x ∷ []) ≡ Over))
refused-state code o x r = ⊎_elim
    (λ (e : scan start (o ++ x ∷ []) ≡ Stuck code). inl e)
    (λ (s : (code ≡ LengthTooLarge) × IsStuckFrom start Fresh o). inr (s.0, stuck-or_over start Fresh o x s.1))
    (refused-last start code o x r)

-- an octet is refused with one code alone
pub one-refusal : (c d : FaultCode) (o : List ℕ) (x : ℕ) → IsRefusedOctet o x c → IsRefusedOctet o x d → c ≡ d
one-refusal c d o x p q = both (refused-state c o x p) (refused-state d o x q)
  where
    both : (scan start (o ++ x ∷ []) ≡ Stuck c) ⊎ ((c ≡ LengthTooLarge) × (scan start (o ++ x ∷ []) ≡ Over))
        → (scan start (o ++ x ∷ []) ≡ Stuck d) ⊎ ((d ≡ LengthTooLarge) × (scan start (o ++ x ∷ []) ≡ Over)) → c ≡ d
    both (inl e) (inl f) = let same : Stuck c ≡ Stuck d = sym e ∙ f in cc
    both (inl e) (inr f) = let same : Stuck c ≡ Over = sym e ∙ f.1 in absurd (cc)
    both (inr e) (inl f) = let same : Over ≡ Stuck d = sym e.1 ∙ f in absurd (cc)
    both (inr e) (inr f) = e.0 ∙ sym f.0
