-- The octets of a header, read one at a time: each header is read, and nothing after it.
use Rattle.std.proofs.Common.{◌≡◌, ◌≢◌, inl, inr, ℕ, zero, suc, ◌+◌, ◌-◌, ◌*◌, ◌/◌, ◌%◌, ◌^◌, ◌<◌, ◌≤◌, Bool, true}
use Rattle.std.proofs.Common.{false, cond, ◌&&◌, not, eqb, ltb, List, [], ◌∷◌, ◌++◌, length, map, All, refl, ap, ◌∙◌}
use Rattle.std.proofs.Common.{arith, append_assoc, append-nil, lt-ltb, le-ltb, eq-eqb, ne_eqb, mul-le-mul_right, ⊎_elim}
use Rattle.std.proofs.Common.{length-append}
use Rattle.std.proofs.lemmas.Bool.{cases_lt, cases_eq, and_right, cases_Bool}
use Rattle.std.proofs.lemmas.List.Elements.{All-head, All-tail}
use Rattle.std.proofs.Math.Nat.{pow-le-pow_right}
use Rattle.tlv_head.specs.declared.header.Class.{Class}
use Rattle.tlv_head.specs.declared.header.Class.TheVariants.{Universal, Application, Context, Private}
use Rattle.tlv_head.specs.declared.header.Size.{Size}
use Rattle.tlv_head.specs.declared.header.Size.TheVariants.{Definite, Indefinite}
use Rattle.tlv_head.specs.Header.{HeaderValue, IsHeader, IsIdentifier, IsLength, class_bits}
use Rattle.tlv_head.specs.HeaderSoFar.{AllowsSize}
use Rattle.tlv_head.specs.Header.{identifier_octet}
use Rattle.tlv_head.specs.Header.{octets_of, value_of}
use Rattle.tlv_head.specs.Refusal.{IsHeaderPrefix}
use Rattle.tlv_head.specs.declared.fault.FaultCode.{FaultCode}
use Rattle.tlv_head.specs.declared.fault.FaultCode.TheVariants.{StrayEnd, TagTooLong, ReservedLength}
use Rattle.tlv_head.specs.declared.fault.FaultCode.TheVariants.{IndefinitePrimitive, LengthTooLarge}
use Rattle.tlv_head.proofs.NumberLemmas.Digits.{value_of-append-le}

-- where a header begins, and whether that offset is named
pub record Origin : Type 0 where
  pub offset : ℕ
  pub named : Bool

abbrev pub origin_of : HeaderValue → Origin
origin_of h = record { offset = h.offset; named = h.named }

abbrev pub start : Origin
start = record { offset = 0; named = false }

-- what the octets so far say
pub data Scan : Type 0 where
  Fresh : Scan
  -- subsequent identifier octets, without their bit 8
  High : (class : Class) (constructed : Bool) (digits : List ℕ) → Scan
  -- the identifier: the length is to follow
  Named : (class : Class) (constructed : Bool) (number : ℕ) (identifier : List ℕ) → Scan
  -- the identifier, how many length octets follow the first, and those so far
  Long : (class : Class) (constructed : Bool) (number : ℕ) (identifier : List ℕ) (count : ℕ) (digits : List ℕ) → Scan
  Ready : (head : HeaderValue) → Scan
  -- the last octet was refused
  Stuck : (code : FaultCode) → Scan
  -- an octet after a header or a refusal
  Over : Scan

abbrev pub class_of : ℕ → Class
class_of zero = Universal
class_of (suc zero) = Application
class_of (suc (suc zero)) = Context
class_of _ = Private

abbrev pub leads : ℕ → Class → Bool → ℕ → Scan
leads x class constructed low = cond (eqb low 31) (High class constructed []) (Named class constructed low (x ∷ []))

abbrev pub step : Origin → Scan → ℕ → Scan
step at Fresh x = cond (eqb x 0) (Stuck StrayEnd) (leads x (class_of (x / 64)) (ltb 31 (x % 64)) (x % 32))
step at (High c k ds) x =
    cond (ltb x 128)
    (Named c k (value_of 128 (ds ++ x ∷ [])) (identifier_octet c k 31 ∷ (map (λ d. 128 + d) ds ++ x ∷ [])))
    (cond (ltb (length ds) 8) (High c k (ds ++ (x - 128) ∷ [])) (Stuck TagTooLong))
step at (Named c k n i) x =
    cond (ltb x 128) (Ready (record {
      offset = at.offset;
      named = at.named;
      class = c;
      constructed = k;
      number = n;
      size = Definite x;
      identifier_octets = i;
      length_octets = x ∷ [];
    }))
    (cond (eqb x 255) (Stuck ReservedLength)
    (cond (eqb x 128)
    (cond k
    (Ready
    (record {
      offset =
          at.offset;
      named =
          at.named;
      class =
          c;
      constructed = k;
      number = n;
      size = Indefinite;
      identifier_octets = i;
      length_octets = x ∷ [];
    }))
    (Stuck IndefinitePrimitive))
    (Long c k n i (x - 128) [])))
step at (Long c k n i m ds) x =
    cond (not (eqb x 0) && ltb (length ds + 5) m) (Stuck LengthTooLarge)
    (cond (ltb (length ds + 1) m) (Long c k n i m (ds ++ x ∷ []))
    (Ready (record {
      offset = at.offset;
      named = at.named;
      class = c;
      constructed = k;
      number = n;
      size = Definite (value_of 256 (ds ++ x ∷ []));
      identifier_octets = i;
      length_octets = (128 + m) ∷ (ds ++ x ∷ []);
    })))
step at (Ready h) x = Over
step at (Stuck code) x = Over
step at Over x = Over

abbrev pub scan_from : Origin → Scan → List ℕ → Scan
scan_from at s [] = s
scan_from at s (x ∷ xs) = scan_from at (step at s x) xs

abbrev pub scan : Origin → List ℕ → Scan
scan at xs = scan_from at Fresh xs

-- octets are read one after another, wherever they are cut
pub scan_from-append : (at : Origin) (s : Scan) (xs ys : List ℕ)
    → scan_from at s (xs ++ ys) ≡ scan_from at (scan_from at s xs) ys
scan_from-append at s [] ys = refl
scan_from-append at s (x ∷ xs) ys = scan_from-append at (step at s x) xs ys

class_of-bits : (c : Class) → class_of (class_bits c) ≡ c
class_of-bits Universal = refl
class_of-bits Application = refl
class_of-bits Context = refl
class_of-bits Private = refl

leading-class : (c : Class) (k : Bool) (n : ℕ) → n < 32 → identifier_octet c k n / 64 ≡ class_bits c
leading-class c true n h = omega arith
leading-class c false n h = omega arith

leading-form : (c : Class) (k : Bool) (n : ℕ) → n < 32 → ltb 31 (identifier_octet c k n % 64) ≡ k
leading-form c true n h = lt-ltb 31 _ (omega arith)
leading-form c false n h = le-ltb 31 _ (omega arith)

leading-low : (c : Class) (k : Bool) (n : ℕ) → n < 32 → identifier_octet c k n % 32 ≡ n
leading-low c true n h = omega arith
leading-low c false n h = omega arith

leads-first : (at : Origin) (x : ℕ) (c : Class) (k : Bool) (n : ℕ) → x ≢ 0 → x / 64 ≡ class_bits c
    → ltb 31 (x % 64) ≡ k → x % 32 ≡ n → step at Fresh x ≡ leads x c k n
leads-first at x c k n nz ec ek en = rw (ne_eqb x 0 nz, ec, ek, en, class_of-bits c)

pub step-leading : (at : Origin) (c : Class) (k : Bool) (n : ℕ) → n < 32 → identifier_octet c k n ≢ 0
    → step at Fresh (identifier_octet c k n) ≡ leads (identifier_octet c k n) c k n
step-leading at c k n h nz =
    leads-first at (identifier_octet c k n) c k n nz (leading-class c k n h) (leading-form c k n h)
    (leading-low c k n h)

-- more digits of a number, up to the last
scan-high : (at : Origin) (c : Class) (k : Bool) (ds es : List ℕ) (l : ℕ) → All (λ d. d < 128) es → l < 128
    → length ds + length es ≤ 8
    → scan_from at (High c k ds) (map (λ d. 128 + d) es ++ l ∷ [])
    ≡ Named c k (value_of 128 ((ds ++ es) ++ l ∷ []))
    (identifier_octet c k 31 ∷ (map (λ d. 128 + d) (ds ++ es) ++ l ∷ []))
scan-high at c k ds [] l each small few = rw (append-nil ds, lt-ltb l 128 small)
scan-high at c k ds (e ∷ es) l each small few =
    let here : e < 128 = All-head (λ d. d < 128) e es each in
    let more : 128 ≤ 128 + e = omega arith in
    let room : length ds < 8 = omega arith in
    let back : 128 + e - 128 ≡ e = omega arith in
    let fewer : length (ds ++ e ∷ []) + length es ≤ 8 = omega (arith, length-append ds (e ∷ [])) in
    let one : step at (High c k ds) (128 + e) ≡ High c k (ds ++ e ∷ []) =
    rw (le-ltb (128 + e) 128 more, lt-ltb (length ds) 8 room, back) in
    ap (λ (s : Scan). scan_from at s (map (λ d. 128 + d) es ++ l ∷ [])) one
    ∙ rw (append_assoc ds (e ∷ []) es) at
    (scan-high at c k (ds ++ e ∷ []) es l (All-tail (λ d. d < 128) e es each) small fewer)

pub scan-identifier : (at : Origin) (c : Class) (k : Bool) (n : ℕ) (i : List ℕ) → IsIdentifier c k n i
    → scan at i ≡ Named c k n i
scan-identifier at c k n i (inl low) =
    let small : n < 32 = omega (arith, low.small) in
    let apart : n ≡ 31 → ⊥ = omega (arith, low.small) in
    rw low.octets_are (step-leading at c k n small low.nonzero ∙ rw (ne_eqb n 31 apart))
scan-identifier at c k n i (inr high) =
    let nonzero : identifier_octet c k 31 ≢ 0 = omega arith in
    let below : 31 < 32 = omega arith in
    rw (high.octets_are, high.value)
    (ap (λ (s : Scan). scan_from at s (map (λ d. 128 + d) high.digits ++ high.last ∷ []))
    (step-leading at c k 31 below nonzero)
    ∙ scan-high at c k [] high.digits high.last high.each high.last_digit (omega (arith, high.short)))

pow-le : (i j : ℕ) → i ≤ j → 256 ^ i ≤ 256 ^ j
pow-le i j h = let some : 0 < 256 = omega arith in pow-le-pow_right some h

-- a digit other than 0 with five or more after it makes 2^40 or more
high-value : (ds : List ℕ) (e : ℕ) (es : List ℕ) → 1 ≤ e → 5 ≤ length es → 2 ^ 40 ≤ value_of 256 (ds ++ e ∷ es)
high-value ds e es some many =
    let power : 256 ^ 5 ≤ 256 ^ length es = pow-le 5 (length es) many in
    let times : 1 * 256 ^ length es ≤ e * 256 ^ length es = mul-le-mul_right (256 ^ length es) some in
    omega (arith, value_of-append-le 256 ds (e ∷ es))

-- so a length below 2^40 has none
long-test : (ds : List ℕ) (e : ℕ) (es : List ℕ) (m : ℕ) → length ds + suc (length es) ≡ m
    → value_of 256 (ds ++ e ∷ es) < 2 ^ 40
    → (not (eqb e 0) && ltb (length ds + 5) m) ≡ false
long-test ds e es m total limit = ⊎_elim
    (λ (z : e ≡ 0). rw (eq-eqb e 0 z))
    (λ (nz : e ≡ 0 → ⊥). ⊎_elim
    (λ (few : length es < 5). and_right (not (eqb e 0)) _ (le-ltb (length ds + 5) m (omega arith)))
    (λ (many : 5 ≤ length es). absurd (omega (arith, high-value ds e es (omega arith) many)))
    (cases_lt (length es) 5))
    (cases_eq e 0)

abbrev long_head : Origin → Class → Bool → ℕ → List ℕ → ℕ → List ℕ → HeaderValue
long_head at c k n i m ds = record {
  offset = at.offset;
  named = at.named;
  class = c;
  constructed = k;
  number = n;
  size = Definite (value_of 256 ds);
  identifier_octets = i;
  length_octets = (128 + m) ∷ ds;
}

scan-long : (at : Origin) (c : Class) (k : Bool) (n : ℕ) (i : List ℕ) (m : ℕ) (ds : List ℕ) (e : ℕ) (es : List ℕ)
    → length ds + suc (length es) ≡ m → value_of 256 (ds ++ e ∷ es) < 2 ^ 40
    → scan_from at (Long c k n i m ds) (e ∷ es) ≡ Ready (long_head at c k n i m (ds ++ e ∷ es))
scan-long at c k n i m ds e [] total limit =
    rw (long-test ds e [] m total limit, le-ltb (length ds + 1) m (omega arith))
scan-long at c k n i m ds e (f ∷ es) total limit =
    let next : length (ds ++ e ∷ []) + suc (length es) ≡ m = omega (arith, length-append ds (e ∷ [])) in
    let same : (ds ++ e ∷ []) ++ f ∷ es ≡ ds ++ e ∷ f ∷ es = append_assoc ds (e ∷ []) (f ∷ es) in
    rw (long-test ds e (f ∷ es) m total limit, lt-ltb (length ds + 1) m (omega arith))
    (rw same at (scan-long at c k n i m (ds ++ e ∷ []) f es next (rw same limit)))

-- the header with these octets, read at that place
abbrev pub head_of : Origin → Class → Bool → ℕ → List ℕ → Size → List ℕ → HeaderValue
head_of at c k n i size l = record {
  offset = at.offset;
  named = at.named;
  class = c;
  constructed = k;
  number = n;
  size = size;
  identifier_octets = i;
  length_octets = l;
}

scan-digits : (at : Origin) (c : Class) (k : Bool) (n : ℕ) (i : List ℕ) (ds : List ℕ) → 1 ≤ length ds
    → length ds ≤ 126 → value_of 256 ds < 2 ^ 40
    → scan_from at (Named c k n i) ((128 + length ds) ∷ ds) ≡ Ready (long_head at c k n i (length ds) ds)
scan-digits at c k n i [] some few limit = absurd (omega arith)
scan-digits at c k n i (d ∷ ds) some few limit =
    let above : 128 ≤ 128 + length (d ∷ ds) = omega arith in
    let apart : 128 + length (d ∷ ds) ≡ 255 → ⊥ = omega arith in
    let other : 128 + length (d ∷ ds) ≡ 128 → ⊥ = omega arith in
    let back : 128 + length (d ∷ ds) - 128 ≡ length (d ∷ ds) = omega arith in
    rw (le-ltb _ 128 above, ne_eqb _ 255 apart, ne_eqb _ 128 other, back)
    (scan-long at c k n i (length (d ∷ ds)) [] d ds (omega arith) limit)

scan-length : (at : Origin) (c : Class) (k : Bool) (n : ℕ) (i : List ℕ) (size : Size) (l : List ℕ) → IsLength size l
    → AllowsSize k size
    → scan_from at (Named c k n i) l ≡ Ready (head_of at c k n i size l)
scan-length at c k n i (Definite a) l (inl short) allowed = rw (short.1, lt-ltb a 128 short.0)
scan-length at c k n i (Definite a) l (inr long) allowed =
    let limit : value_of 256 long.digits < 2 ^ 40 = omega (arith, long.limit, long.value) in
    rw (long.octets_are, long.value) (scan-digits at c k n i long.digits long.some long.short limit)
scan-length at c true n i Indefinite l e allowed = rw e
scan-length at c false n i Indefinite l e allowed = absurd (cc (allowed))

-- the octets of a header are read as this header
pub scan-header : (h : HeaderValue) → IsHeader h → scan (origin_of h) (octets_of h) ≡ Ready h
scan-header h valid =
    rw (
      scan_from-append (origin_of h) Fresh h.identifier_octets h.length_octets,
      scan-identifier (origin_of h) h.class h.constructed h.number h.identifier_octets valid.identifier,
    )
    (scan-length (origin_of h) h.class h.constructed h.number h.identifier_octets h.size h.length_octets valid.lengths valid.allowed)

-- more octets are needed
abbrev pub is_more : Scan → Bool
is_more Fresh = true
is_more (High c k ds) = true
is_more (Named c k n i) = true
is_more (Long c k n i m ds) = true
is_more (Ready h) = false
is_more (Stuck code) = false
is_more Over = false

leads-more : (x : ℕ) (c : Class) (k : Bool) (low : ℕ) → is_more (leads x c k low) ≡ true
leads-more x c k low = ⊎_elim
    (λ (e : eqb low 31 ≡ true). rw e)
    (λ (e : eqb low 31 ≡ false). rw e)
    (cases_Bool (eqb low 31))

pub first-more : (at : Origin) (x : ℕ) → x ≢ 0 → is_more (step at Fresh x) ≡ true
first-more at x nz = rw (ne_eqb x 0 nz) (leads-more x (class_of (x / 64)) (ltb 31 (x % 64)) (x % 32))

pub scan_from-over : (at : Origin) (xs : List ℕ) → scan_from at Over xs ≡ Over
scan_from-over at [] = refl
scan_from-over at (x ∷ xs) = scan_from-over at xs

-- nothing may follow a header or a refusal
pub scan_from-past : (at : Origin) (s : Scan) (xs : List ℕ) (h : HeaderValue) → is_more s ≡ false → xs ≢ []
    → scan_from at s xs ≡ Ready h → ⊥
scan_from-past at s [] h e some r = some refl
scan_from-past at Fresh (x ∷ xs) h e some r = cc
scan_from-past at (High c k ds) (x ∷ xs) h e some r = cc
scan_from-past at (Named c k n i) (x ∷ xs) h e some r = cc
scan_from-past at (Long c k n i m ds) (x ∷ xs) h e some r = cc
scan_from-past at (Ready g) (x ∷ xs) h e some r = cc (scan_from-over at xs)
scan_from-past at (Stuck code) (x ∷ xs) h e some r = cc (scan_from-over at xs)
scan_from-past at Over (x ∷ xs) h e some r = cc (scan_from-over at xs)

-- a header read at any offset
abbrev pub moved_header : Origin → HeaderValue → HeaderValue
moved_header at h = head_of at h.class h.constructed h.number h.identifier_octets h.size h.length_octets

pub scan-moved_header : (at : Origin) (h : HeaderValue) → IsHeader h → scan at (octets_of h) ≡ Ready (moved_header at h)
scan-moved_header at h valid = scan-header (moved_header at h) (record {
  identifier = valid.identifier;
  lengths = valid.lengths;
  allowed = valid.allowed;
})

more-cases : (at : Origin) (s : Scan) (xs : List ℕ) (h : HeaderValue) → xs ≢ [] → scan_from at s xs ≡ Ready h
    → (t : Bool) → is_more s ≡ t → is_more s ≡ true
more-cases at s xs h some r true e = e
more-cases at s xs h some r false e = absurd (scan_from-past at s xs h e some r)

-- after a prefix of a header more octets are needed
pub more-from_prefix : (at : Origin) (o : List ℕ) → IsHeaderPrefix o → is_more (scan at o) ≡ true
more-from_prefix at o f =
    let whole : scan at (o ++ f.more) ≡ Ready (moved_header at f.header) =
    rw f.prefix (scan-moved_header at f.header f.valid) in
    more-cases at (scan at o) f.more (moved_header at f.header) f.proper
    (rw (scan_from-append at Fresh o f.more) at whole)
    (is_more (scan at o)) refl

-- a header is no proper prefix of another
pub no-prefix : (h g : HeaderValue) (xs : List ℕ) → IsHeader h → IsHeader g → xs ≢ []
    → octets_of h ++ xs ≡ octets_of g → ⊥
no-prefix h g xs vh vg some e =
    let whole : scan start (octets_of h ++ xs) ≡ Ready (moved_header start g) = rw e (scan-moved_header start g vg) in
    let split : scan_from start (scan start (octets_of h)) xs ≡ Ready (moved_header start g) =
    rw (scan_from-append start Fresh (octets_of h) xs) at whole in
    let past : scan_from start (Ready (moved_header start h)) xs ≡ Ready (moved_header start g) =
    rw (scan-moved_header start h vh) at split in
    scan_from-past start (Ready (moved_header start h)) xs (moved_header start g) refl some past

-- two headers at one place with the same octets are one
pub same-header : (h g : HeaderValue) → IsHeader h → IsHeader g → origin_of h ≡ origin_of g
    → octets_of h ≡ octets_of g → h ≡ g
same-header h g vh vg o e =
    let left : scan (origin_of h) (octets_of h) ≡ Ready h = scan-header h vh in
    let right : scan (origin_of h) (octets_of g) ≡ Ready g = rw o (scan-header g vg) in
    let right' : scan (origin_of h) (octets_of h) ≡ Ready g = rw e right in
    cc
