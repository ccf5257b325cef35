-- Whether a string is broken can be decided.
use Rattle.std.proofs.Common.{◌≡◌, ℕ, zero, suc, ◌+◌, ◌*◌, ◌<◌, ◌≤◌, Bool, true, false, ◌&&◌, eqb, ltb}
use Rattle.std.proofs.Common.{if◌then◌else◌, List, [], ◌∷◌, ◌++◌, length, slice_index, Option, Some, None, refl, sym}
use Rattle.std.proofs.Common.{ap}
use Rattle.std.proofs.Common.{◌∙◌, arith, subst, append_assoc, eq-eqb, eqb-true, lt-ltb, ltb-true}
use Rattle.std.proofs.Math.Dec.{leb}
use Rattle.std.proofs.lemmas.Bool.{and_parts, le-leb, leb-true}
use Rattle.std.proofs.lemmas.List.Elements.{All-append, All-cons, All-nil, All-tail}
use Rattle.tlv_head.specs.declared.fault.Fault.{Fault}
use Rattle.tlv_head.specs.declared.header.Size.{Size}
use Rattle.tlv_head.specs.declared.header.Size.TheVariants.{Definite, Indefinite}
use Rattle.tlv_head.specs.Header.{HeaderValue, octets_of}
use Rattle.tlv_head.specs.Limits.{input_limit}
use Rattle.tlv_head.specs.Refusal.{BeginsWith}
use Rattle.tlv_head.proofs.GrammarLemmas.Headers.{one-header}
use Rattle.tlv_head.proofs.GrammarLemmas.Meaning.{IsStateAfter, reads-scan}
use Rattle.tlv_head.proofs.GrammarLemmas.Scan.{Fresh, High, Long, Named, Over, Ready, Scan, Stuck, origin_of, scan}
use Rattle.tlv_head.proofs.GrammarLemmas.Scan.{scan_from, scan_from-append, scan-header, start, step}
use Rattle.tlv_walk.specs.declared.ending.Ending.{Ending}
use Rattle.tlv_walk.specs.declared.ending.Ending.TheVariants as ending
use Rattle.tlv_walk.specs.Ending.{IsEnding}
use Rattle.tlv_walk.specs.Reading.{AreOctets}
use Rattle.tlv_walk.proofs.GrammarLemmas.Endings as endings
use Rattle.tlv_walk.proofs.GrammarLemmas.OneEnding.{ending-unique}
use Rattle.tlv_open.specs.declared.strings.BrokenString.{BrokenString}
use Rattle.tlv_open.specs.declared.strings.Suspicion.{Suspicion}
use Rattle.tlv_open.specs.declared.strings.Suspicion.TheVariants.{Extension, Sequence, Set}
use Rattle.tlv_open.specs.Breaks as breaks
use Rattle.tlv_open.specs.Breaks.{BeginsAs, BreaksAt, HaveAnnouncedSize, IsBrokenString, LooksEncoded, fault_of_string}
use Rattle.tlv_open.specs.Breaks.{framing_around, octets_around, sequence_starts}

no-true : (b : Bool) → (b ≡ true → ⊥) → b ≡ false
no-true true n = absurd (n refl)
no-true false n = refl

both-true : (a b : Bool) → a ≡ true → b ≡ true → (a && b) ≡ true
both-true a b e d = rw (e, d) refl

-- ---- The header with which octets begin

abbrev pub ready_header : Scan → Option HeaderValue
ready_header Fresh = None
ready_header (High c k ds) = None
ready_header (Named c k n i) = None
ready_header (Long c k n i m ds) = None
ready_header (Ready h) = Some h
ready_header (Stuck code) = None
ready_header Over = None

abbrev pub first_header_of : Option HeaderValue → Option HeaderValue → Option HeaderValue
first_header_of None other = other
first_header_of (Some h) other = Some h

abbrev pub header_from : Scan → List ℕ → Option HeaderValue
header_from s [] = ready_header s
header_from s (x ∷ xs) = first_header_of (ready_header s) (header_from (step start s x) xs)

abbrev pub header_of_octets : List ℕ → Option HeaderValue
header_of_octets octets = header_from Fresh octets

-- after the octets a have been read
ready-begins : (s : Scan) (a b : List ℕ) (h : HeaderValue) → IsStateAfter start s a → ready_header s ≡ Some h
    → BeginsWith (a ++ b) 0 false h
ready-begins (Ready k) a b h r e =
    let same : k ≡ h = cc (e) in
    subst (λ (z : HeaderValue). BeginsWith (a ++ b) 0 false z) same (record {
      valid = r.0;
      offset = λ i. (r.2 i).offset;
      named = λ i. (r.2 i).named;
      rest = b;
      octets_are = ap (λ (o : List ℕ). o ++ b) r.1;
    })
ready-begins Fresh a b h r e = absurd (cc (e))
ready-begins (High c k ds) a b h r e = absurd (cc (e))
ready-begins (Named c k n i) a b h r e = absurd (cc (e))
ready-begins (Long c k n i m ds) a b h r e = absurd (cc (e))
ready-begins (Stuck code) a b h r e = absurd (cc (e))
ready-begins Over a b h r e = absurd (cc (e))

front-of : (a b : List ℕ) → AreOctets (a ++ b) → AreOctets a
front-of [] b each = All-nil (λ k. k < 256)
front-of (x ∷ a) b each =
    All-cons (λ k. k < 256) x a (each 0 0 (omega arith)) (front-of a b (All-tail (λ k. k < 256) x (a ++ b) each))

from-begins : (a b : List ℕ) (h : HeaderValue) → AreOctets (a ++ b) → header_from (scan start a) b ≡ Some h
    → BeginsWith (a ++ b) 0 false h
from-begins a [] h each e = ready-begins (scan start a) a [] h (reads-scan start a (front-of a [] each)) e
from-begins a (x ∷ b) h each e =
    let same : a ++ x ∷ b ≡ (a ++ x ∷ []) ++ b = sym (append_assoc a (x ∷ []) b) in
    let next : scan start (a ++ x ∷ []) ≡ step start (scan start a) x = scan_from-append start Fresh a (x ∷ []) in
    by_ready (ready_header (scan start a)) refl
    (λ f.
    subst (λ (o : List ℕ). BeginsWith o 0 false h) (sym same)
    (from-begins (a ++ x ∷ []) b h (subst AreOctets same each) (ap (λ (s : Scan). header_from s b) next ∙ f)))
    e
  where
    by_ready : (o : Option HeaderValue) → ready_header (scan start a) ≡ o
        → (header_from (step start (scan start a) x) b ≡ Some h → BeginsWith (a ++ x ∷ b) 0 false h)
        → first_header_of o (header_from (step start (scan start a) x) b) ≡ Some h → BeginsWith (a ++ x ∷ b) 0 false h
    by_ready (Some k) d more f =
        ready-begins (scan start a) a (x ∷ b) h (reads-scan start a (front-of a (x ∷ b) each)) (d ∙ f)
    by_ready None d more f = more f

pub header-begins : (octets : List ℕ) (h : HeaderValue) → AreOctets octets → header_of_octets octets ≡ Some h
    → BeginsWith octets 0 false h
header-begins octets h each e = from-begins [] octets h each e

from-some : (s : Scan) (o rest : List ℕ) (k : HeaderValue) → scan_from start s o ≡ Ready k
    → header_from s (o ++ rest) ≡ None → ⊥
from-some s [] [] k e n = let t : Some k ≡ None = sym (ap ready_header e) ∙ n in absurd (cc (t))
from-some s [] (x ∷ rest) k e n =
    let t : Some k ≡ None =
    sym (ap (λ (r : Scan). first_header_of (ready_header r) (header_from (step start s x) rest)) e) ∙ n in
    absurd (cc (t))
from-some s (x ∷ o) rest k e n = by_ready (ready_header s) (λ d. from-some (step start s x) o rest k e d) n
  where
    by_ready : (r : Option HeaderValue) → (header_from (step start s x) (o ++ rest) ≡ None → ⊥)
        → first_header_of r (header_from (step start s x) (o ++ rest)) ≡ None → ⊥
    by_ready (Some h) more d = absurd (cc (d))
    by_ready None more d = more d

pub header-none : (octets : List ℕ) (h : HeaderValue) → BeginsWith octets 0 false h → header_of_octets octets ≡ None → ⊥
header-none octets h b n =
    let origin : origin_of h ≡ start = (λ i. record { offset = b.offset i; named = b.named i }) in
    from-some Fresh (octets_of h) b.rest h (rw origin at (scan-header h b.valid))
    (ap header_of_octets (sym b.octets_are) ∙ n)

-- ---- The size that they announce

abbrev pub is_near : Size → ℕ → ℕ → Bool
is_near (Definite m) l n = leb n ((l + m) + 8) && leb (l + m) (n + 8)
is_near Indefinite l n = false

abbrev pub announces : Option HeaderValue → ℕ → Bool
announces None n = false
announces (Some h) n = is_near h.size (length (octets_of h)) n

abbrev pub size_test : List ℕ → Bool
size_test octets = ltb 24 (length octets) && announces (header_of_octets octets) (length octets)

near-size : (octets : List ℕ) (h : HeaderValue) (s : Size) → h.size ≡ s → 24 < length octets
    → BeginsWith octets 0 false h → is_near s (length (octets_of h)) (length octets) ≡ true → HaveAnnouncedSize octets
near-size octets h (Definite m) e many b t =
    let parts : (leb (length octets) ((length (octets_of h) + m) + 8) ≡ true)
    × (leb (length (octets_of h) + m) (length octets + 8) ≡ true) = and_parts _ _ t in
    record {
      many = many;
      header = h;
      begins = b;
      announced = m;
      definite = e;
      not_before = leb-true _ _ parts.0;
      not_after = leb-true _ _ parts.1;
    }
near-size octets h Indefinite e many b t = absurd (cc (t))

pub size-passes : (octets : List ℕ) → AreOctets octets → size_test octets ≡ true → HaveAnnouncedSize octets
size-passes octets each t =
    let parts : (ltb 24 (length octets) ≡ true) × (announces (header_of_octets octets) (length octets) ≡ true) =
    and_parts _ _ t in
    by_header (header_of_octets octets) refl parts.1 (ltb-true 24 (length octets) parts.0)
  where
    by_header : (o : Option HeaderValue) → header_of_octets octets ≡ o → announces o (length octets) ≡ true
        → 24 < length octets → HaveAnnouncedSize octets
    by_header None e t many = absurd (cc (t))
    by_header (Some h) e t many = near-size octets h h.size refl many (header-begins octets h each e) t

pub size-tested : (octets : List ℕ) → AreOctets octets → HaveAnnouncedSize octets → size_test octets ≡ true
size-tested octets each s = by_header (header_of_octets octets) refl
  where
    near : is_near s.header.size (length (octets_of s.header)) (length octets) ≡ true
    near =
        ap (λ (z : Size). is_near z (length (octets_of s.header)) (length octets)) s.definite
        ∙ both-true _ _ (le-leb _ _ s.not_before) (le-leb _ _ s.not_after)

    by_header : (o : Option HeaderValue) → header_of_octets octets ≡ o → size_test octets ≡ true
    by_header None e = absurd (header-none octets s.header s.begins e)
    by_header (Some h) e =
        let b : BeginsWith octets 0 false h = header-begins octets h each e in
        let origin : origin_of h ≡ origin_of s.header =
        (λ i. record { offset = (b.offset ∙ sym s.begins.offset) i; named = (b.named ∙ sym s.begins.named) i }) in
        let same : h ≡ s.header =
        (one-header h s.header b.rest s.begins.rest b.valid s.begins.valid origin
        (sym b.octets_are ∙ s.begins.octets_are)).0 in
        both-true _ _ (lt-ltb 24 (length octets) s.many)
        (ap (λ (o : Option HeaderValue). announces o (length octets)) (e ∙ ap Some same) ∙ near)

-- ---- Why they look like encodings

abbrev pub begin_test : ℕ → List ℕ → Bool
begin_test first octets = eqb (slice_index octets 0) first && size_test octets

begin-passes : (first : ℕ) (octets : List ℕ) → AreOctets octets → begin_test first octets ≡ true → BeginsAs first octets
begin-passes first octets each t =
    let parts : (eqb (slice_index octets 0) first ≡ true) × (size_test octets ≡ true) = and_parts _ _ t in
    record { first_octet = eqb-true _ _ parts.0; size = size-passes octets each parts.1 }

begin-fails : (first : ℕ) (octets : List ℕ) → AreOctets octets → begin_test first octets ≡ false → BeginsAs first octets
    → ⊥
begin-fails first octets each t b =
    let passed : begin_test first octets ≡ true =
    both-true _ _ (eq-eqb _ _ b.first_octet) (size-tested octets each b.size) in
    let u : true ≡ false = sym passed ∙ t in
    absurd (cc (u))

abbrev pub suspicion_by : Bool → Bool → Bool → Option Suspicion
suspicion_by true b v = Some Sequence
suspicion_by false true v = Some Set
suspicion_by false false true = Some Extension
suspicion_by false false false = None

abbrev pub suspicion_of : List ℕ → Bool → Option Suspicion
suspicion_of octets v = suspicion_by (begin_test 0x30 octets) (begin_test 0x31 octets) v

module _ (octets : List ℕ) (each : AreOctets octets) where
  looks-by : (a b v : Bool) (r : Suspicion) → begin_test 0x30 octets ≡ a → begin_test 0x31 octets ≡ b
      → suspicion_by a b v ≡ Some r → LooksEncoded octets v r
  looks-by true b v r e d t =
      let same : Sequence ≡ r = cc (t) in
      subst (LooksEncoded octets v) same (breaks.sequence (begin-passes 0x30 octets each e))
  looks-by false true v r e d t =
      let same : Set ≡ r = cc (t) in
      subst (LooksEncoded octets v) same (breaks.set (begin-passes 0x31 octets each d))
  looks-by false false true r e d t =
      let same : Extension ≡ r = cc (t) in
      subst (LooksEncoded octets true) same
      (breaks.extension refl (begin-fails 0x30 octets each e) (begin-fails 0x31 octets each d))
  looks-by false false false r e d t = absurd (cc (t))

  pub looks-some : (v : Bool) (r : Suspicion) → suspicion_of octets v ≡ Some r → LooksEncoded octets v r
  looks-some v r t = looks-by (begin_test 0x30 octets) (begin_test 0x31 octets) v r refl refl t

  unlike-by : (a b v : Bool) (r : Suspicion) → begin_test 0x30 octets ≡ a → begin_test 0x31 octets ≡ b
      → suspicion_by a b v ≡ None → LooksEncoded octets v r → ⊥
  unlike-by true b v r e d t l = absurd (cc (t))
  unlike-by false true v r e d t l = absurd (cc (t))
  unlike-by false false true r e d t l = absurd (cc (t))
  unlike-by false false false _ e d t (breaks.sequence b) = begin-fails 0x30 octets each e b
  unlike-by false false false _ e d t (breaks.set b) = begin-fails 0x31 octets each d b
  unlike-by false false false _ e d t (breaks.extension k m n) = absurd (cc (k))

  pub looks-none : (v : Bool) (r : Suspicion) → suspicion_of octets v ≡ None → LooksEncoded octets v r → ⊥
  looks-none v r t l = unlike-by (begin_test 0x30 octets) (begin_test 0x31 octets) v r refl refl t l

-- ---- Where they break

abbrev pub fault_within : Ending → ℕ → Option Fault
fault_within ending.Done n = None
fault_within (ending.Fault f) n = if leb f.offset n then Some f else None

abbrev pub fault_around : ℕ → List ℕ → Option Fault
fault_around depth string =
    if leb (length (octets_around depth string)) input_limit
    then fault_within (endings.ending (framing_around depth) (octets_around depth string)) (2 * depth + length string)
    else None

starts-octets : (n : ℕ) → AreOctets (sequence_starts n)
starts-octets zero = All-nil (λ k. k < 256)
starts-octets (suc n) =
    All-cons (λ k. k < 256) 0x30 (0x80 ∷ sequence_starts n) (omega arith)
    (All-cons (λ k. k < 256) 0x80 (sequence_starts n) (omega arith) (starts-octets n))

around-octets : (depth : ℕ) (string : List ℕ) → AreOctets string → AreOctets (octets_around depth string)
around-octets depth string each =
    All-append (λ k. k < 256) (sequence_starts depth) (string ++ 5 ∷ 0 ∷ []) (starts-octets depth)
    (All-append (λ k. k < 256) string (5 ∷ 0 ∷ []) each
    (All-cons (λ k. k < 256) 5 (0 ∷ []) (omega arith)
    (All-cons (λ k. k < 256) 0 [] (omega arith) (All-nil (λ k. k < 256)))))

module _ (depth : ℕ) (string : List ℕ) (each : AreOctets string) where
  abbrev the_ending : Ending
  the_ending = endings.ending (framing_around depth) (octets_around depth string)

  is-the_ending : IsEnding (framing_around depth) (octets_around depth string) the_ending
  is-the_ending =
      endings.is-ending (framing_around depth) (octets_around depth string) (around-octets depth string each)

  within-some : (e : Ending) (f : Fault) → fault_within e (2 * depth + length string) ≡ Some f
      → (e ≡ ending.Fault f) × (f.offset ≤ 2 * depth + length string)
  within-some ending.Done f t = absurd (cc (t))
  within-some (ending.Fault g) f t = by_test (leb g.offset (2 * depth + length string)) refl t
    where
      by_test : (b : Bool) → leb g.offset (2 * depth + length string) ≡ b → (if b then Some g else None) ≡ Some f
          → (ending.Fault g ≡ ending.Fault f) × (f.offset ≤ 2 * depth + length string)
      by_test true e u =
          let same : g ≡ f = cc (u) in
          (ap ending.Fault same, subst (λ (k : Fault). k.offset ≤ 2 * depth + length string) same (leb-true _ _ e))
      by_test false e u = absurd (cc (u))

  by-limit : (b : Bool) (f : Fault) → leb (length (octets_around depth string)) input_limit ≡ b
      → (if b then fault_within the_ending (2 * depth + length string) else None) ≡ Some f → BreaksAt depth string f
  by-limit true f e t =
      let parts : (the_ending ≡ ending.Fault f) × (f.offset ≤ 2 * depth + length string) = within-some the_ending f t in
      record {
        within_limit = leb-true _ _ e;
        is_ending =
            subst (λ (k : Ending). IsEnding (framing_around depth) (octets_around depth string) k) parts.0
            is-the_ending;
        within_string = parts.1;
      }
  by-limit false f e t = absurd (cc (t))

  pub fault-some : (f : Fault) → fault_around depth string ≡ Some f → BreaksAt depth string f
  fault-some f t = by-limit (leb (length (octets_around depth string)) input_limit) f refl t

  pub fault-none : (f : Fault) → fault_around depth string ≡ None → BreaksAt depth string f → ⊥
  fault-none f t b =
      let same : the_ending ≡ ending.Fault f =
      ending-unique (framing_around depth) (octets_around depth string) _ _ is-the_ending b.is_ending in
      let found : fault_around depth string ≡ Some f =
      ap (λ (k : Bool). if k then fault_within the_ending (2 * depth + length string) else None)
      (le-leb _ _ b.within_limit)
      ∙ (ap (λ (e : Ending). fault_within e (2 * depth + length string)) same
      ∙ ap (λ (k : Bool). if k then Some f else None) (le-leb _ _ b.within_string)) in
      let u : Some f ≡ None = sym found ∙ t in
      absurd (cc (u))

-- ---- Whether it is broken

abbrev pub broken_by : ℕ → ℕ → Option Suspicion → Option Fault → Option BrokenString
broken_by offset depth None f = None
broken_by offset depth (Some r) None = None
broken_by offset depth (Some r) (Some f) =
    Some (record { offset = offset; reason = r; fault = fault_of_string offset depth f })

abbrev pub broken_of : ℕ → ℕ → List ℕ → List ℕ → Bool → Option BrokenString
broken_of offset depth string octets v = broken_by offset depth (suspicion_of octets v) (fault_around depth string)

module _ (offset depth : ℕ) (string octets : List ℕ) (v : Bool) (each : AreOctets string)
    (inner : AreOctets octets) where
  broken-by : (s : Option Suspicion) (g : Option Fault) (x : BrokenString) → suspicion_of octets v ≡ s
      → fault_around depth string ≡ g → broken_by offset depth s g ≡ Some x
      → IsBrokenString offset depth string octets v x
  broken-by None g x e d t = absurd (cc (t))
  broken-by (Some r) None x e d t = absurd (cc (t))
  broken-by (Some r) (Some f) x e d t =
      let made : BrokenString = record { offset = offset; reason = r; fault = fault_of_string offset depth f } in
      let same : made ≡ x = cc (t) in
      subst (IsBrokenString offset depth string octets v) same (record {
        offset_is = refl;
        looks_encoded = looks-some octets inner v r e;
        fault = f;
        breaks_at = fault-some depth string each f d;
        fault_is = refl;
      })

  pub broken-some : (x : BrokenString) → broken_of offset depth string octets v ≡ Some x
      → IsBrokenString offset depth string octets v x
  broken-some x t = broken-by (suspicion_of octets v) (fault_around depth string) x refl refl t

  unbroken-by : (s : Option Suspicion) (g : Option Fault) (x : BrokenString) → suspicion_of octets v ≡ s
      → fault_around depth string ≡ g → broken_by offset depth s g ≡ None
      → IsBrokenString offset depth string octets v x → ⊥
  unbroken-by None g x e d t b = looks-none octets inner v x.reason e b.looks_encoded
  unbroken-by (Some r) None x e d t b = fault-none depth string each b.fault d b.breaks_at
  unbroken-by (Some r) (Some f) x e d t b = absurd (cc (t))

  pub broken-none : (x : BrokenString) → broken_of offset depth string octets v ≡ None
      → IsBrokenString offset depth string octets v x → ⊥
  broken-none x t b = unbroken-by (suspicion_of octets v) (fault_around depth string) x refl refl t b
