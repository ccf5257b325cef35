-- Headers by their octets: one way to read them, and what one more octet does to a prefix of one.
use Rattle.std.proofs.Common.{◌≡◌, ◌≢◌, ◌⊎◌, inl, inr, ℕ, ◌+◌, ◌-◌, ◌%◌, ◌/◌, ◌<◌, ◌≤◌, Bool, true, false, cond, ◌&&◌}
use Rattle.std.proofs.Common.{not, eqb, ltb, List, [], ◌∷◌, ◌++◌, length, refl, sym, ap, ◌∙◌, arith, append-nil}
use Rattle.std.proofs.Common.{length-append, lt-ltb, le-ltb, eq-eqb, ne_eqb, ltb-true, subst, ⊎_elim}
use Rattle.std.proofs.lemmas.Bool.{cases_lt, cases_eq, cases_Bool, and_parts, not-true, eqb-false}
use Rattle.tlv_head.specs.declared.header.Class.{Class}
use Rattle.tlv_head.specs.Header.{HeaderValue, IsHeader, IsIdentifier, octets_of}
use Rattle.tlv_head.specs.Laws.{AreHeaderOctets, IsRefusedWithSomeCode}
use Rattle.tlv_head.specs.Refusal.{CannotBecomeHeader, IsHeaderPrefix, IsLengthPrefix, IsRefusedOctet}
use Rattle.tlv_head.specs.Refusal.{indefinite_primitive}
use Rattle.tlv_head.specs.Refusal.{length_too_large, reserved_length, tag_too_long}
use Rattle.tlv_head.specs.declared.fault.FaultCode.{FaultCode}
use Rattle.tlv_head.specs.declared.fault.FaultCode.TheVariants.{StrayEnd, IndefinitePrimitive}
use Rattle.tlv_head.proofs.GrammarLemmas.Scan.{Scan, Origin, origin_of, start, Fresh, High, Named, Long, Ready, Stuck}
use Rattle.tlv_head.proofs.GrammarLemmas.Scan.{Over, leads, class_of, step, scan, scan_from-append, scan_from-past}
use Rattle.tlv_head.proofs.GrammarLemmas.Scan.{scan-moved_header, moved_header, is_more, more-from_prefix, no-prefix}
use Rattle.tlv_head.proofs.GrammarLemmas.Scan.{same-header}
use Rattle.tlv_head.proofs.GrammarLemmas.Meaning.{IsHighState, IsLongState, IsStateAfter, reads-step, reads-scan}
use Rattle.tlv_head.proofs.GrammarLemmas.Meaning.{prefix-from_more, prefix-bytes}

-- if two lists are prefixes of one list, one of the two is a prefix of the other
pub prefixes-nest : (a b x y : List ℕ) → a ++ x ≡ b ++ y
    → ((z : List ℕ) × (a ++ z ≡ b) × (x ≡ z ++ y)) ⊎ ((z : List ℕ) × (b ++ z ≡ a) × (y ≡ z ++ x))
prefixes-nest [] b x y e = inl (b, refl, e)
prefixes-nest (c ∷ a) [] x y e = inr (c ∷ a, refl, sym e)
prefixes-nest (c ∷ a) (d ∷ b) x y e =
    let same : c ≡ d = cc in
    ⊎_elim
    (λ (r : (z : List ℕ) × (a ++ z ≡ b) × (x ≡ z ++ y)). inl
    (r.0, ap (λ (t : List ℕ). c ∷ t) r.1 ∙ ap (λ (u : ℕ). u ∷ b) same, r.2))
    (λ (r : (z : List ℕ) × (b ++ z ≡ a) × (y ≡ z ++ x)). inr
    (r.0, ap (λ (t : List ℕ). d ∷ t) r.1 ∙ ap (λ (u : ℕ). u ∷ a) (sym same), r.2))
    (prefixes-nest a b x y (cc))

-- octets that begin with a header begin with no other
pub one-header : (h g : HeaderValue) (x y : List ℕ) → IsHeader h → IsHeader g → origin_of h ≡ origin_of g
    → octets_of h ++ x ≡ octets_of g ++ y → (h ≡ g) × (x ≡ y)
one-header h g x y vh vg o e = ⊎_elim
    (λ (r : (z : List ℕ) × (octets_of h ++ z ≡ octets_of g) × (x ≡ z ++ y)). forward h g x y r.0 vh vg o r.1 r.2)
    (λ (r : (z : List ℕ) × (octets_of g ++ z ≡ octets_of h) × (y ≡ z ++ x)).
    let back : (g ≡ h) × (y ≡ x) = forward g h y x r.0 vg vh (sym o) r.1 r.2 in (sym back.0, sym back.1))
    (prefixes-nest (octets_of h) (octets_of g) x y e)
  where
    forward : (h g : HeaderValue) (x y z : List ℕ) → IsHeader h → IsHeader g → origin_of h ≡ origin_of g
        → octets_of h ++ z ≡ octets_of g → x ≡ z ++ y → (h ≡ g) × (x ≡ y)
    forward h g x y [] vh vg o e f = (same-header h g vh vg o (sym (append-nil (octets_of h)) ∙ e), f)
    forward h g x y (b ∷ z) vh vg o e f = absurd (no-prefix h g (b ∷ z) vh vg (λ n. omega (arith, ap length n)) e)

-- why an octet does not continue a prefix of a header, or begin one
abbrev pub IsHeadRefusal : FaultCode → List ℕ → ℕ → Type 0
IsHeadRefusal StrayEnd o x = (o ≡ []) × (x ≡ 0)
IsHeadRefusal code o x = IsRefusedOctet o x code

-- why the reading is stuck, if it is
abbrev pub Explains : Scan → List ℕ → ℕ → Type 0
Explains Fresh o x = Unit {0}
Explains (High c k ds) o x = Unit {0}
Explains (Named c k n i) o x = Unit {0}
Explains (Long c k n i m ds) o x = Unit {0}
Explains (Ready h) o x = Unit {0}
Explains (Stuck code) o x = IsHeadRefusal code o x
Explains Over o x = ⊥

explains-leads : (x : ℕ) (c : Class) (k : Bool) (low : ℕ) (o : List ℕ) → Explains (leads x c k low) o x
explains-leads x c k low o = ⊎_elim
    (λ (e : eqb low 31 ≡ true). rw e tt)
    (λ (e : eqb low 31 ≡ false). rw e tt)
    (cases_Bool (eqb low 31))

explains-first : (at : Origin) (x : ℕ) (o : List ℕ) → o ≡ [] → Explains (step at Fresh x) o x
explains-first at x o e = ⊎_elim
    (λ (z : x ≡ 0). rw (eq-eqb x 0 z) (e, z))
    (λ (nz : x ≡ 0 → ⊥). rw (ne_eqb x 0 nz) (explains-leads x (class_of (x / 64)) (ltb 31 (x % 64)) (x % 32) o))
    (cases_eq x 0)

explains-high : (at : Origin) (x : ℕ) (c : Class) (k : Bool) (ds o : List ℕ) → IsHighState c k ds o
    → Explains (step at (High c k ds) x) o x
explains-high at x c k ds o s = ⊎_elim
    (λ (small : x < 128). rw (lt-ltb x 128 small) tt)
    (λ (large : 128 ≤ x). ⊎_elim
    (λ (room : length ds < 8). rw (le-ltb x 128 large, lt-ltb (length ds) 8 room) tt)
    (λ (full : 8 ≤ length ds). rw (le-ltb x 128 large, le-ltb (length ds) 8 full)
    (tag_too_long c k (record { digits = ds; each = s.each; octets_are = s.octets_are }) (omega (arith, s.short))
    large))
    (cases_lt (length ds) 8))
    (cases_lt x 128)

explains-mark : (at : Origin) (x : ℕ) (c : Class) (k : Bool) (n : ℕ) (i o : List ℕ) (h : HeaderValue)
    → IsIdentifier c k n i → o ≡ i → x ≡ 128 → Explains (cond k (Ready h) (Stuck IndefinitePrimitive)) o x
explains-mark at x c true n i o h id e m = tt
explains-mark at x c false n i o h id e m = indefinite_primitive c n (subst (IsIdentifier c false n) (sym e) id) m

explains-named : (at : Origin) (x : ℕ) (c : Class) (k : Bool) (n : ℕ) (i o : List ℕ) → IsIdentifier c k n i → o ≡ i
    → Explains (step at (Named c k n i) x) o x
explains-named at x c k n i o id e = ⊎_elim
    (λ (small : x < 128). rw (lt-ltb x 128 small) tt)
    (λ (large : 128 ≤ x). ⊎_elim
    (λ (all : x ≡ 255). rw (le-ltb x 128 large, eq-eqb x 255 all)
    (reserved_length c k n (subst (IsIdentifier c k n) (sym e) id) all))
    (λ (below : x ≡ 255 → ⊥). ⊎_elim
    (λ (mark : x ≡ 128). rw (le-ltb x 128 large, ne_eqb x 255 below, eq-eqb x 128 mark)
    (explains-mark at x c k n i o _ id e mark))
    (λ (above : x ≡ 128 → ⊥). rw (le-ltb x 128 large, ne_eqb x 255 below, ne_eqb x 128 above) tt)
    (cases_eq x 128))
    (cases_eq x 255))
    (cases_lt x 128)

explains-long : (at : Origin) (x : ℕ) (c : Class) (k : Bool) (n : ℕ) (i : List ℕ) (m : ℕ) (ds o : List ℕ)
    → IsLongState c k n i m ds o → Explains (step at (Long c k n i m ds) x) o x
explains-long at x c k n i m ds o s = ⊎_elim
    (λ (bad : (not (eqb x 0) && ltb (length ds + 5) m) ≡ true).
    let parts : (not (eqb x 0) ≡ true) × (ltb (length ds + 5) m ≡ true) = and_parts _ _ bad in
    let many : length ds + 5 < m = ltb-true _ _ parts.1 in
    let total : length ds + (m - length ds) ≡ m = omega arith in
    let prefix : IsLengthPrefix c k n (m - length ds) o = record {
      identifier_octets = i;
      digits = ds;
      identifier = s.identifier;
      each = s.each;
      some = omega arith;
      within = omega (arith, s.within);
      octets_are = rw total s.octets_are;
    } in
    rw bad (length_too_large c k n (m - length ds) prefix (omega arith) (eqb-false x 0 (not-true _ parts.0))))
    (λ (good : (not (eqb x 0) && ltb (length ds + 5) m) ≡ false). ⊎_elim
    (λ (more : ltb (length ds + 1) m ≡ true). rw (good, more) tt)
    (λ (last : ltb (length ds + 1) m ≡ false). rw (good, last) tt)
    (cases_Bool (ltb (length ds + 1) m)))
    (cases_Bool (not (eqb x 0) && ltb (length ds + 5) m))

pub step-explains : (at : Origin) (x : ℕ) (s : Scan) (o : List ℕ) → is_more s ≡ true → IsStateAfter at s o
    → Explains (step at s x) o x
step-explains at x Fresh o m r = explains-first at x o r
step-explains at x (High c k ds) o m r = explains-high at x c k ds o r
step-explains at x (Named c k n i) o m r = explains-named at x c k n i o r.0 r.1
step-explains at x (Long c k n i j ds) o m r = explains-long at x c k n i j ds o r
step-explains at x (Ready h) o m r = absurd (cc)
step-explains at x (Stuck code) o m r = absurd (cc)
step-explains at x Over o m r = absurd (cc)

pub stuck-none : (at : Origin) (s : Scan) (o : List ℕ) → scan at o ≡ s → is_more s ≡ false
    → ((h : HeaderValue) → s ≡ Ready h → ⊥) → CannotBecomeHeader o
stuck-none at s o e m n h [] v f =
    let ready : scan at (o ++ []) ≡ Ready (moved_header at h) = rw f (scan-moved_header at h v) in
    let ready' : scan at o ≡ Ready (moved_header at h) = rw append-nil at ready in
    n (moved_header at h) (sym e ∙ ready')
stuck-none at s o e m n h (x ∷ more) v f =
    let ready : scan at (o ++ x ∷ more) ≡ Ready (moved_header at h) = rw f (scan-moved_header at h v) in
    scan_from-past at s (x ∷ more) (moved_header at h) m (λ z. omega (arith, ap length z))
    (rw (scan_from-append at Fresh o (x ∷ more), e) at ready)

-- one more octet makes a prefix of a header, or a header, or begins none
pub data AfterOctet (o : List ℕ) (x : ℕ) : Type 0 where
  continues : IsHeaderPrefix (o ++ x ∷ []) → AfterOctet o x
  completes : (h : HeaderValue) → IsHeader h → octets_of h ≡ o ++ x ∷ [] → AfterOctet o x
  refuses : (code : FaultCode) → IsHeadRefusal code o x → CannotBecomeHeader (o ++ x ∷ []) → AfterOctet o x

next-from : (o : List ℕ) (x : ℕ) (s : Scan) → scan start (o ++ x ∷ []) ≡ s → IsStateAfter start s (o ++ x ∷ [])
    → Explains s o x → AfterOctet o x
next-from o x Fresh e r w = absurd (omega (arith, ap length r, length-append o (x ∷ [])))
next-from o x (High c k ds) e r w =
    continues
    (prefix-from_more start (High c k ds) _ r (λ z. omega (arith, ap length z, length-append o (x ∷ []))) refl)
next-from o x (Named c k m i) e r w =
    continues
    (prefix-from_more start (Named c k m i) _ r (λ z. omega (arith, ap length z, length-append o (x ∷ []))) refl)
next-from o x (Long c k m i j ds) e r w =
    continues
    (prefix-from_more start (Long c k m i j ds) _ r (λ z. omega (arith, ap length z, length-append o (x ∷ [])))
    refl)
next-from o x (Ready h) e r w = completes h r.0 (sym r.1)
next-from o x (Stuck code) e r w = refuses code w (stuck-none start (Stuck code) _ e refl (λ h z. cc))
next-from o x Over e r w = absurd w

next-more : (o : List ℕ) (x : ℕ) → x < 256 → is_more (scan start o) ≡ true → IsStateAfter start (scan start o) o
    → AfterOctet o x
next-more o x h m r =
    next-from o x (step start (scan start o) x) (scan_from-append start Fresh o (x ∷ []))
    (reads-step start x (scan start o) o h r) (step-explains start x (scan start o) o m r)

pub after-octet : (o : List ℕ) (x : ℕ) → x < 256 → (o ≡ []) ⊎ IsHeaderPrefix o → AfterOctet o x
after-octet o x h (inl e) = rw e (next-more [] x h refl refl)
after-octet o x h (inr f) = next-more o x h (more-from_prefix start o f) (reads-scan start o (prefix-bytes o f))

refused-octet : (code : FaultCode) (o : List ℕ) (x : ℕ) → (o ≡ [] → x ≢ 0) → IsHeadRefusal code o x
    → IsRefusedOctet o x code
refused-octet StrayEnd o x first r = absurd (first r.0 r.1)
refused-octet code o x first r = r

-- a first octet other than 00 is refused for the octets alone
pub octet-cases : (o : List ℕ) (x : ℕ) → (o ≡ [] → x ≢ 0) → AfterOctet o x
    → IsHeaderPrefix (o ++ x ∷ []) ⊎ (AreHeaderOctets (o ++ x ∷ []) ⊎ IsRefusedWithSomeCode o x)
octet-cases o x first (continues f) = inl f
octet-cases o x first (completes h v e) = inr (inl (h, v, e))
octet-cases o x first (refuses code r none) = inr (inr (code, refused-octet code o x first r))

-- what can go on is no header
pub prefix-no_header : (o : List ℕ) (h : HeaderValue) → IsHeaderPrefix o → IsHeader h → octets_of h ≡ o → ⊥
prefix-no_header o h f v e = no-prefix h f.header f.more v f.valid f.proper (rw e f.prefix)
