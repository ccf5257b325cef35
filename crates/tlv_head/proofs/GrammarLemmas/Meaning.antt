-- What the octets read so far are, by the state that they lead to: nothing, a header, a prefix of one, or refused.
use Rattle.std.proofs.Common.{◌≡◌, ◌≢◌, ◌⊎◌, inl, inr, ℕ, zero, suc, if◌then◌else◌, ◌+◌, ◌-◌, ◌*◌, ◌/◌, ◌%◌, ◌^◌, ◌<◌}
use Rattle.std.proofs.Common.{◌≤◌, Bool, true, false, cond, ◌&&◌, not, eqb, ltb, List, [], ◌∷◌, ◌++◌, length, map}
use Rattle.std.proofs.Common.{replicate, All, refl, ap, ◌∙◌, arith, append_assoc, append-nil, lt-ltb, le-ltb, eq-eqb}
use Rattle.std.proofs.Common.{ne_eqb, ltb-true, ltb-false, eqb-true, ⊎_elim, pow-suc, zero-mul, length-append}
use Rattle.std.proofs.lemmas.Bool.{cases_lt, cases_eq, cases_Bool, and_cases, not-false}
use Rattle.std.proofs.lemmas.List.Elements.{All-head, All-tail, All-push, All-append, All-replicate, All-nil, All-cons}
use Rattle.std.proofs.lemmas.List.Elements.{All-map, All-weaker}
use Rattle.std.proofs.lemmas.List.{map_push, length-replicate, get_or_append_left}
use Rattle.tlv_head.specs.declared.header.Class.{Class}
use Rattle.tlv_head.specs.declared.header.Class.TheVariants.{Universal, Application, Context, Private}
use Rattle.tlv_head.specs.declared.header.Size.{Size}
use Rattle.tlv_head.specs.declared.header.Size.TheVariants.{Definite, Indefinite}
use Rattle.tlv_head.specs.Header.{HeaderValue, IsHeader, IsIdentifier, IsLength, class_bits}
use Rattle.tlv_head.specs.HeaderSoFar.{AllowsSize}
use Rattle.tlv_head.specs.Header.{identifier_octet}
use Rattle.tlv_head.specs.Header.{octets_of, value_of}
use Rattle.tlv_head.specs.Refusal.{IsHeaderPrefix}
use Rattle.tlv_head.specs.declared.fault.FaultCode.TheVariants.{IndefinitePrimitive}
use Rattle.tlv_head.proofs.NumberLemmas.Digits.{value_of-snoc, value_of-zeros}
use Rattle.tlv_head.proofs.GrammarLemmas.Scan.{Origin, origin_of, start, Scan, Fresh, High, Named, Long, Ready, Stuck}
use Rattle.tlv_head.proofs.GrammarLemmas.Scan.{Over, class_of, leads, step, scan_from, scan, head_of, is_more}

-- the high form so far
pub record IsHighState (c : Class) (k : Bool) (ds o : List ℕ) : Type 0 where
  pub each : All (λ d. d < 128) ds
  pub short : length ds ≤ 8
  pub octets_are : o ≡ identifier_octet c k 31 ∷ map (λ d. 128 + d) ds

-- identifier octets, the first length octet, and digits of which more are to follow
pub record IsLongState (c : Class) (k : Bool) (n : ℕ) (i : List ℕ) (m : ℕ) (ds o : List ℕ) : Type 0 where
  pub identifier : IsIdentifier c k n i
  pub each : All (λ d. d < 256) ds
  pub short : length ds < m
  pub within : m ≤ 126
  -- followed by zeros alone, it is a length below the limit
  pub limit : value_of 256 ds * 256 ^ (m - length ds) < 2 ^ 40
  pub octets_are : o ≡ i ++ (128 + m) ∷ ds

-- what the octets are, if they lead to this state
abbrev pub IsStateAfter : Origin → Scan → List ℕ → Type 0
IsStateAfter at Fresh o = o ≡ []
IsStateAfter at (High c k ds) o = IsHighState c k ds o
IsStateAfter at (Named c k n i) o = IsIdentifier c k n i × (o ≡ i)
IsStateAfter at (Long c k n i m ds) o = IsLongState c k n i m ds o
IsStateAfter at (Ready h) o = IsHeader h × (o ≡ octets_of h) × (origin_of h ≡ at)
IsStateAfter at (Stuck code) o = Unit {0}
IsStateAfter at Over o = Unit {0}

bits-class_of : (x : ℕ) → x < 4 → class_bits (class_of x) ≡ x
bits-class_of zero h = refl
bits-class_of (suc zero) h = refl
bits-class_of (suc (suc zero)) h = refl
bits-class_of (suc (suc (suc zero))) h = refl
bits-class_of (suc (suc (suc (suc x)))) h = absurd (omega arith)

leading-parts : (x a : ℕ) (k : Bool) → a ≡ x / 64 → ltb 31 (x % 64) ≡ k → 64 * a + (if k then 32 else 0) + x % 32 ≡ x
leading-parts x a true e t = omega (arith, ltb-true 31 (x % 64) t)
leading-parts x a false e t = omega (arith, ltb-false 31 (x % 64) t)

leading-of : (x : ℕ) → x < 256 → identifier_octet (class_of (x / 64)) (ltb 31 (x % 64)) (x % 32) ≡ x
leading-of x h = leading-parts x _ (ltb 31 (x % 64)) (bits-class_of (x / 64) (omega arith)) refl

reads-leads : (at : Origin) (x : ℕ) (c : Class) (k : Bool) (low : ℕ) → low < 32 → identifier_octet c k low ≡ x → x ≢ 0
    → IsStateAfter at (leads x c k low) (x ∷ [])
reads-leads at x c k low h e nz = ⊎_elim
    (λ (last : low ≡ 31). rw (eq-eqb low 31 last) (record {
      each = All-nil (λ d. d < 128);
      short = omega arith;
      octets_are = rw (← e, last);
    }))
    (λ (other : low ≡ 31 → ⊥). rw (ne_eqb low 31 other)
    (inl (record { small = omega arith; octets_are = rw e; nonzero = rw e nz }), refl))
    (cases_eq low 31)

reads-first : (at : Origin) (x : ℕ) → x < 256 → IsStateAfter at (step at Fresh x) (x ∷ [])
reads-first at x h = ⊎_elim
    (λ (z : x ≡ 0). rw (eq-eqb x 0 z) tt)
    (λ (nz : x ≡ 0 → ⊥). rw (ne_eqb x 0 nz)
    (reads-leads at x (class_of (x / 64)) (ltb 31 (x % 64)) (x % 32) (omega arith) (leading-of x h) nz))
    (cases_eq x 0)

reads-high : (at : Origin) (x : ℕ) (c : Class) (k : Bool) (ds o : List ℕ) → x < 256 → IsHighState c k ds o
    → IsStateAfter at (step at (High c k ds) x) (o ++ x ∷ [])
reads-high at x c k ds o h s = ⊎_elim
    (λ (small : x < 128). rw (lt-ltb x 128 small) (
      inr
          (record {
            digits = ds;
            last = x;
            each = s.each;
            last_digit = small;
            short = s.short;
            value = refl;
            octets_are = refl;
          }),
      rw s.octets_are,
    ))
    (λ (large : 128 ≤ x). ⊎_elim
    (λ (room : length ds < 8). rw (le-ltb x 128 large, lt-ltb (length ds) 8 room)
    (record {
      each = All-push (λ d. d < 128) ds (x - 128) s.each (omega arith);
      short = omega (arith, length-append ds ((x - 128) ∷ []));
      octets_are =
          let back : 128 + (x - 128) ≡ x = omega arith in rw (s.octets_are, map_push (λ d. 128 + d) ds (x - 128), back);
    }))
    (λ (full : 8 ≤ length ds). rw (le-ltb x 128 large, le-ltb (length ds) 8 full) tt)
    (cases_lt (length ds) 8))
    (cases_lt x 128)

pub allows_definite : (k : Bool) (n : ℕ) → AllowsSize k (Definite n)
allows_definite true n = refl
allows_definite false n = refl

reads-indefinite : (at : Origin) (x : ℕ) (c : Class) (k : Bool) (n : ℕ) (i : List ℕ) → IsIdentifier c k n i → x ≡ 128
    → IsStateAfter at (cond k (Ready (head_of at c k n i Indefinite (x ∷ []))) (Stuck IndefinitePrimitive))
    (i ++ x ∷ [])
reads-indefinite at x c true n i id e = (record { identifier = id; lengths = rw e; allowed = refl }, refl, refl)
reads-indefinite at x c false n i id e = tt

reads-named : (at : Origin) (x : ℕ) (c : Class) (k : Bool) (n : ℕ) (i : List ℕ) → x < 256 → IsIdentifier c k n i
    → IsStateAfter at (step at (Named c k n i) x) (i ++ x ∷ [])
reads-named at x c k n i h id = ⊎_elim
    (λ (small : x < 128). rw (lt-ltb x 128 small)
    (record { identifier = id; lengths = inl (small, refl); allowed = allows_definite k x }, refl, refl))
    (λ (large : 128 ≤ x). ⊎_elim
    (λ (all : x ≡ 255). rw (le-ltb x 128 large, eq-eqb x 255 all) tt)
    (λ (below : x ≡ 255 → ⊥). ⊎_elim
    (λ (mark : x ≡ 128). rw (le-ltb x 128 large, ne_eqb x 255 below, eq-eqb x 128 mark)
    (reads-indefinite at x c k n i id mark))
    (λ (above : x ≡ 128 → ⊥). rw (le-ltb x 128 large, ne_eqb x 255 below, ne_eqb x 128 above)
    (record {
      identifier = id;
      each = All-nil (λ d. d < 256);
      short = omega arith;
      within = omega arith;
      limit = omega (arith, zero-mul (256 ^ (x - 128 - 0)));
      octets_are = let back : 128 + (x - 128) ≡ x = omega arith in rw back;
    }))
    (cases_eq x 128))
    (cases_eq x 255))
    (cases_lt x 128)

limit-zero : (v r : ℕ) → v * 256 ^ suc r < 2 ^ 40 → (v * 256 + 0) * 256 ^ r < 2 ^ 40
limit-zero v r h = let h' : v * (256 ^ r * 256) < 2 ^ 40 = rw pow-suc at h in omega arith

limit-few : (v x r : ℕ) → r ≤ 4 → x < 256 → v * 256 ^ suc r < 2 ^ 40 → (v * 256 + x) * 256 ^ r < 2 ^ 40
limit-few v x zero few small h = omega arith
limit-few v x (suc zero) few small h = omega arith
limit-few v x (suc (suc zero)) few small h = omega arith
limit-few v x (suc (suc (suc zero))) few small h = omega arith
limit-few v x (suc (suc (suc (suc zero)))) few small h = omega arith
limit-few v x (suc (suc (suc (suc (suc r))))) few small h = absurd (omega arith)

limit-more : (ds : List ℕ) (x m : ℕ) → x < 256 → length ds < m → (x ≡ 0) ⊎ (m ≤ length ds + 5)
    → value_of 256 ds * 256 ^ (m - length ds) < 2 ^ 40
    → value_of 256 (ds ++ x ∷ []) * 256 ^ (m - (length ds + 1)) < 2 ^ 40
limit-more ds x m h short c limit =
    let one : m - length ds ≡ suc (m - (length ds + 1)) = omega arith in
    let limit' : value_of 256 ds * 256 ^ suc (m - (length ds + 1)) < 2 ^ 40 = rw one at limit in
    rw (value_of-snoc 256 ds x) (⊎_elim
    (λ (z : x ≡ 0). rw z (limit-zero (value_of 256 ds) (m - (length ds + 1)) limit'))
    (λ (few : m ≤ length ds + 5). limit-few (value_of 256 ds) x (m - (length ds + 1)) (omega arith) h limit')
    c)

long-cases : (x m : ℕ) (ds : List ℕ) → (not (eqb x 0) && ltb (length ds + 5) m) ≡ false → (x ≡ 0) ⊎ (m ≤ length ds + 5)
long-cases x m ds e = ⊎_elim
    (λ z. inl (eqb-true x 0 (not-false _ z)))
    (λ z. inr (ltb-false _ _ z))
    (and_cases _ _ e)

reads-long : (at : Origin) (x : ℕ) (c : Class) (k : Bool) (n : ℕ) (i : List ℕ) (m : ℕ) (ds o : List ℕ) → x < 256
    → IsLongState c k n i m ds o
    → IsStateAfter at (step at (Long c k n i m ds) x) (o ++ x ∷ [])
reads-long at x c k n i m ds o h s = ⊎_elim
    (λ (bad : (not (eqb x 0) && ltb (length ds + 5) m) ≡ true). rw bad tt)
    (λ (good : (not (eqb x 0) && ltb (length ds + 5) m) ≡ false).
    let limit : value_of 256 (ds ++ x ∷ []) * 256 ^ (m - (length ds + 1)) < 2 ^ 40 =
    limit-more ds x m h s.short (long-cases x m ds good) s.limit in
    let longer : length (ds ++ x ∷ []) ≡ length ds + 1 = omega (arith, length-append ds (x ∷ [])) in
    ⊎_elim
    (λ (more : length ds + 1 < m). rw (good, lt-ltb (length ds + 1) m more)
    (record {
      identifier = s.identifier;
      each = All-push (λ d. d < 256) ds x s.each h;
      short = omega arith;
      within = s.within;
      limit = rw longer limit;
      octets_are = rw (s.octets_are, append_assoc i ((128 + m) ∷ ds) (x ∷ []));
    }))
    (λ (last : m ≤ length ds + 1).
    let is : m ≡ length (ds ++ x ∷ []) = omega (arith, s.short) in
    let zero' : m - (length ds + 1) ≡ 0 = omega arith in
    let limit' : value_of 256 (ds ++ x ∷ []) * 1 < 2 ^ 40 = rw zero' at limit in
    rw (good, le-ltb (length ds + 1) m last) (
      record {
        identifier = s.identifier;
        allowed = allows_definite k 0;
        lengths = inr (record {
          digits = ds ++ x ∷ [];
          each = All-push (λ d. d < 256) ds x s.each h;
          some = omega arith;
          short = omega (arith, s.within);
          value = refl;
          limit = omega arith;
          octets_are = rw is;
        });
      },
      rw (s.octets_are, append_assoc i ((128 + m) ∷ ds) (x ∷ [])),
      refl,
    ))
    (cases_lt (length ds + 1) m))
    (cases_Bool (not (eqb x 0) && ltb (length ds + 5) m))

-- one more octet
pub reads-step : (at : Origin) (x : ℕ) (s : Scan) (o : List ℕ) → x < 256 → IsStateAfter at s o
    → IsStateAfter at (step at s x) (o ++ x ∷ [])
reads-step at x Fresh o h r = rw r (reads-first at x h)
reads-step at x (High c k ds) o h r = reads-high at x c k ds o h r
reads-step at x (Named c k n i) o h r = rw (r.1) (reads-named at x c k n i h r.0)
reads-step at x (Long c k n i m ds) o h r = reads-long at x c k n i m ds o h r
reads-step at x (Ready head) o h r = tt
reads-step at x (Stuck code) o h r = tt
reads-step at x Over o h r = tt

reads-scan_from : (at : Origin) (s : Scan) (o xs : List ℕ) → All (λ x. x < 256) xs → IsStateAfter at s o
    → IsStateAfter at (scan_from at s xs) (o ++ xs)
reads-scan_from at s o [] each r = rw (append-nil o) r
reads-scan_from at s o (x ∷ xs) each r =
    rw (append_assoc o (x ∷ []) xs) at
    (reads-scan_from at (step at s x) (o ++ x ∷ []) xs (All-tail (λ x. x < 256) x xs each)
    (reads-step at x s o (All-head (λ x. x < 256) x xs each) r))

-- octets are what the state that they lead to says
pub reads-scan : (at : Origin) (xs : List ℕ) → All (λ x. x < 256) xs → IsStateAfter at (scan at xs) xs
reads-scan at xs each = reads-scan_from at Fresh [] xs each refl

-- identifier octets, or the first of them, are a prefix of a header: its length may be 0
named-prefix : (c : Class) (k : Bool) (n : ℕ) (i o more : List ℕ) → IsIdentifier c k n i → o ≢ [] → o ++ more ≡ i
    → IsHeaderPrefix o
named-prefix c k n i o more id some e = record {
  header = head_of start c k n i (Definite 0) (0 ∷ []);
  more = more ++ 0 ∷ [];
  proper = λ z. omega (arith, ap length z, length-append more (0 ∷ []));
  valid = record { identifier = id; lengths = inl (omega arith, refl); allowed = allows_definite k 0 };
  prefix = rw (← append_assoc o more (0 ∷ []), e);
}

-- octets up to digits of a length are a prefix of a header: its other digits may be zeros
long-prefix : (c : Class) (k : Bool) (n : ℕ) (i : List ℕ) (m : ℕ) (ds o : List ℕ) → o ≢ []
    → IsLongState c k n i m ds o → IsHeaderPrefix o
long-prefix c k n i m ds o some s =
    let total : length (ds ++ replicate (m - length ds) 0) ≡ m =
    omega (
      arith,
      length-append ds (replicate (m - length ds) 0),
      length-replicate {A = ℕ} (m - length ds) 0,
      s.short,
    ) in
    record {
      header =
          head_of start c k n i (Definite (value_of 256 (ds ++ replicate (m - length ds) 0)))
          ((128 + m) ∷ (ds ++ replicate (m - length ds) 0));
      more = replicate (m - length ds) 0;
      proper = λ z. omega (arith, ap length z, length-replicate {A = ℕ} (m - length ds) 0, s.short);
      valid = record {
        identifier = s.identifier;
        allowed = allows_definite k 0;
        lengths = inr (record {
          digits = ds ++ replicate (m - length ds) 0;
          each = All-append (λ d. d < 256) ds _ s.each (All-replicate (λ d. d < 256) (m - length ds) 0 (omega arith));
          some = omega (arith, s.short);
          short = omega (arith, s.within);
          value = refl;
          limit = rw (value_of-zeros 256 ds (m - length ds)) s.limit;
          octets_are = rw total;
        });
      };
      prefix = rw (s.octets_are, append_assoc i ((128 + m) ∷ ds) (replicate (m - length ds) 0));
    }

-- octets after which more are needed are a prefix of a header
pub prefix-from_more : (at : Origin) (s : Scan) (o : List ℕ) → IsStateAfter at s o → o ≢ [] → is_more s ≡ true
    → IsHeaderPrefix o
prefix-from_more at Fresh o r some e = absurd (some r)
prefix-from_more at (High c k ds) o r some e =
    named-prefix c k _ _ o (0 ∷ [])
    (inr
    (record {
      digits =
          ds;
      last = 0;
      each = r.each;
      last_digit = omega arith;
      short = r.short;
      value = refl;
      octets_are = refl;
    }))
    some (rw r.octets_are)
prefix-from_more at (Named c k n i) o r some e = named-prefix c k n i o [] r.0 some (append-nil o ∙ r.1)
prefix-from_more at (Long c k n i m ds) o r some e = long-prefix c k n i m ds o some r
prefix-from_more at (Ready h) o r some e = absurd (cc)
prefix-from_more at (Stuck code) o r some e = absurd (cc)
prefix-from_more at Over o r some e = absurd (cc)

-- the numbers in a header are below 256
leading-byte : (c : Class) (k : Bool) (n : ℕ) → n < 32 → identifier_octet c k n < 256
leading-byte Universal true n h = omega arith
leading-byte Universal false n h = omega arith
leading-byte Application true n h = omega arith
leading-byte Application false n h = omega arith
leading-byte Context true n h = omega arith
leading-byte Context false n h = omega arith
leading-byte Private true n h = omega arith
leading-byte Private false n h = omega arith

identifier-bytes : (c : Class) (k : Bool) (n : ℕ) (i : List ℕ) → IsIdentifier c k n i → All (λ x. x < 256) i
identifier-bytes c k n i (inl low) =
    let small : n < 32 = omega (arith, low.small) in
    rw low.octets_are (All-cons (λ x. x < 256) _ [] (leading-byte c k n small) (All-nil (λ x. x < 256)))
identifier-bytes c k n i (inr high) =
    let small : 31 < 32 = omega arith in
    rw high.octets_are (All-cons (λ x. x < 256) _ _ (leading-byte c k 31 small)
    (All-append (λ x. x < 256) (map (λ d. 128 + d) high.digits) (high.last ∷ [])
    (All-map (λ x. x < 256) (λ d. 128 + d) high.digits
    (All-weaker (λ d. d < 128) (λ d. 128 + d < 256) (λ d h. omega arith) high.digits high.each))
    (All-cons (λ x. x < 256) high.last [] (omega (arith, high.last_digit)) (All-nil (λ x. x < 256)))))

length-bytes : (s : Size) (l : List ℕ) → IsLength s l → All (λ x. x < 256) l
length-bytes (Definite n) l (inl short) =
    rw (short.1) (All-cons (λ x. x < 256) n [] (omega (arith, short.0)) (All-nil (λ x. x < 256)))
length-bytes (Definite n) l (inr long) =
    rw long.octets_are (All-cons (λ x. x < 256) _ _ (omega (arith, long.short)) long.each)
length-bytes Indefinite l e = rw e (All-cons (λ x. x < 256) 128 [] (omega arith) (All-nil (λ x. x < 256)))

header-bytes : (h : HeaderValue) → IsHeader h → All (λ x. x < 256) (octets_of h)
header-bytes h valid =
    All-append (λ x. x < 256) h.identifier_octets h.length_octets
    (identifier-bytes h.class h.constructed h.number h.identifier_octets valid.identifier)
    (length-bytes h.size h.length_octets valid.lengths)

All-prefix : (xs ys : List ℕ) → All (λ x. x < 256) (xs ++ ys) → All (λ x. x < 256) xs
All-prefix xs ys each k d h = rw (get_or_append_left xs ys d k h) at (each k d (omega (arith, length-append xs ys)))

pub prefix-bytes : (o : List ℕ) → IsHeaderPrefix o → All (λ x. x < 256) o
prefix-bytes o f = All-prefix o f.more (rw f.prefix (header-bytes f.header f.valid))
