-- Octets that are missing or were put in, after headers that are looked at one after another.
use Rattle.std.proofs.Common.{◌≡◌, ℕ, ◌+◌, ◌-◌, ◌<◌, ◌≤◌, false, List, ◌++◌, length, drop, take}
use Rattle.std.proofs.Common.{◌∙◌, sym, subst, ap, arith, get_or, length-append, length-drop, refl}
use Rattle.std.proofs.Common.{take-append-drop}
use Rattle.std.specs.Prelude.{Option, Some, None, Result, Ok, Err, IfOk}
use Rattle.std.proofs.lemmas.List.{drop_all, length-take-le, take_rest}
use Rattle.tlv_head.proofs.ReaderLemmas.Prefix.{header-two}
use Rattle.tlv_head.specs.declared.header.HeaderFields.{HeaderFields}
use Rattle.tlv_head.specs.Header.{HeaderValue, announced_length, octets_of}
use Rattle.tlv_head.specs.HeaderFields.{new_header}
use Rattle.tlv_head.specs.ReadHeader.{BeginsWithFields}
use Rattle.tlv_head.specs.Refusal.{BeginsWith, BeginsWithNoHeader}
use Rattle.tlv_walk.specs.declared.framing.Framing.{Framing}
use Rattle.tlv_walk.specs.Reading.{IsSoundList}
use Rattle.tlv_reasons.proofs.FirstLemmas.{from-next}
use Rattle.tlv_reasons.proofs.LengthLemmas.{begun-one}
use Rattle.tlv_reasons.specs.declared.octet_changes.OctetChange.{OctetChange}
use Rattle.tlv_reasons.specs.declared.octet_changes.OctetChange.TheVariants.{Missing, PutIn}
use Rattle.tlv_reasons.specs.declared.lengths.WrongLength.{WrongLength}
use Rattle.tlv_reasons.specs.OneOctet.{IsChangeAt, IsFirstChange, IsOctetChange, WouldBeSoundWithOctet}
use Rattle.tlv_reasons.specs.OneOctet.{WouldBeSoundWithoutOctet, another_length, here, later, left_over}
use Rattle.tlv_reasons.specs.WrongLength.{contents_start}
use Rattle.tlv_reasons.specs.OneOctet.{missing, neither, no_more, not_searched, put_in, searched, with_octet_at}
use Rattle.tlv_reasons.specs.OneOctet.{without_octet_at}

-- what follows from what holds of a result
pub if_ok-along : {T E : Type 0} {P Q : T → Type 0} (r : Result T E) → ((t : T) → P t → Q t) → IfOk r P → IfOk r Q
if_ok-along (Ok t) f p = f t p
if_ok-along (Err e) f p = tt

-- the contents begin after the octets of the header
pub starts-at : (octets : List ℕ) (offset count : ℕ) (fields : HeaderFields)
    → (b : BeginsWithFields (drop offset octets) offset false fields count)
    → contents_start (new_header fields (take count (drop offset octets))) ≡ offset + count
starts-at octets offset count fields b =
    let raw : List ℕ = take count (drop offset octets) in
    let h : HeaderValue = new_header fields raw in
    let whole : length raw ≡ count = length-take-le count (drop offset octets) b.within in
    let all : length (octets_of h) ≡ count = ap length (take-append-drop fields.id_len raw) ∙ whole in
    let at : h.offset ≡ offset = b.begins.offset in
    omega (arith, all, at)

-- ---- at one header

module _ (framing : Framing) (octets : List ℕ) (offset count place announced : ℕ) (fields : HeaderFields)
    (b : BeginsWithFields (drop offset octets) offset false fields count) (p : place ≡ offset + count)
    (a : announced ≡ announced_length fields.size) where
  header : HeaderValue
  header = new_header fields (take count (drop offset octets))

  starts-there : place ≡ contents_start header
  unfolding header
  starts-there = p ∙ sym (starts-at octets offset count fields b)

  -- with an octet more at the place the input is sound, and contents are announced
  abbrev SoundWith : Type 0
  SoundWith = (0 < announced) × IsSoundList framing (with_octet_at place octets)

  would-be : SoundWith → WouldBeSoundWithOctet framing octets header
  unfolding header
  would-be (some, sound) =
      (omega (arith, some, a), subst (λ (n : ℕ). IsSoundList framing (with_octet_at n octets)) starts-there sound)

  would-there : WouldBeSoundWithOctet framing octets header → SoundWith
  unfolding header
  would-there (some, sound) =
      (omega (arith, some, a), subst (λ (n : ℕ). IsSoundList framing (with_octet_at n octets)) (sym starts-there) sound)

  without-there : WouldBeSoundWithoutOctet framing octets header → IsSoundList framing (without_octet_at place octets)
  unfolding header
  without-there sound = subst (λ (n : ℕ). IsSoundList framing (without_octet_at n octets)) (sym starts-there) sound

  pub missing-there : SoundWith → IsChangeAt framing octets offset (Some (Missing offset))
  unfolding header
  missing-there sound = missing header b.begins (would-be sound)

  pub put_in-there : (SoundWith → ⊥) → IsSoundList framing (without_octet_at place octets)
      → IsChangeAt framing octets offset (Some (PutIn offset))
  unfolding header
  put_in-there unsound sound =
      put_in header b.begins (λ w. unsound (would-there w))
      (subst (λ (n : ℕ). IsSoundList framing (without_octet_at n octets)) starts-there sound)

  pub neither-there : (SoundWith → ⊥) → (IsSoundList framing (without_octet_at place octets) → ⊥)
      → IsChangeAt framing octets offset None
  unfolding header
  neither-there one other =
      neither (λ h q. subst (λ (g : HeaderValue). (WouldBeSoundWithOctet framing octets g → ⊥)
      × (WouldBeSoundWithoutOctet framing octets g → ⊥)) (begun-one header h b.begins q)
      (λ w. one (would-there w), λ w. other (without-there w)))

-- ---- where no header is

pub no_header-there : (framing : Framing) (octets : List ℕ) (offset : ℕ)
    → BeginsWithNoHeader (take (length octets - offset) (drop offset octets)) → IsChangeAt framing octets offset None
no_header-there framing octets offset none =
    neither (λ h p. absurd (none h p.rest p.valid (take_rest octets offset ∙ p.octets_are)))

pub past-there : (framing : Framing) (octets : List ℕ) (offset : ℕ) → length octets < offset
    → IsChangeAt framing octets offset None
past-there framing octets offset past =
    neither (λ h p.
    let two : 2 ≤ length (octets_of h) = header-two h p.valid in
    let all : length (drop offset octets) ≡ length (octets_of h ++ p.rest) = ap length p.octets_are in
    absurd (omega (arith, past, two, all, length-drop offset octets, length-append (octets_of h) p.rest)))

-- ---- one header after another

pub change-here : (framing : Framing) (octets xs : List ℕ) (i : ℕ) {change : OctetChange} → i < length xs
    → IsChangeAt framing octets (get_or xs i 0) (Some change)
    → IsFirstChange framing octets (drop i xs) (Some change)
change-here framing octets xs i h at = rw (from-next xs i h) (here at)

pub change-later : (framing : Framing) (octets xs : List ℕ) (i : ℕ) {found : Option OctetChange} → i < length xs
    → IsChangeAt framing octets (get_or xs i 0) None
    → IsFirstChange framing octets (drop (i + 1) xs) found → IsFirstChange framing octets (drop i xs) found
change-later framing octets xs i h none f = rw (from-next xs i h) (later none f)

pub changes-end : (framing : Framing) (octets xs : List ℕ) (i : ℕ) → length xs ≤ i
    → IsFirstChange framing octets (drop i xs) None
changes-end framing octets xs i h = rw (drop_all i xs h) no_more

-- ---- there is one change

with-same : (framing : Framing) (octets : List ℕ) (offset : ℕ) (h g : HeaderValue)
    → BeginsWith (drop offset octets) offset false h → BeginsWith (drop offset octets) offset false g
    → WouldBeSoundWithOctet framing octets h → WouldBeSoundWithOctet framing octets g
with-same framing octets offset h g x y sound =
    subst (λ (z : HeaderValue). WouldBeSoundWithOctet framing octets z) (begun-one h g x y) sound

one-at : (framing : Framing) (octets : List ℕ) (offset : ℕ) {a b : Option OctetChange}
    → IsChangeAt framing octets offset a → IsChangeAt framing octets offset b → a ≡ b
one-at framing octets offset (missing h x s) (missing g y t) = refl
one-at framing octets offset (missing h x s) (put_in g y n t) = absurd (n (with-same framing octets offset h g x y s))
one-at framing octets offset (missing h x s) (neither n) = absurd ((n h x).0 s)
one-at framing octets offset (put_in h x n s) (missing g y t) = absurd (n (with-same framing octets offset g h y x t))
one-at framing octets offset (put_in h x n s) (put_in g y m t) = refl
one-at framing octets offset (put_in h x n s) (neither m) = absurd ((m h x).1 s)
one-at framing octets offset (neither n) (missing g y t) = absurd ((n g y).0 t)
one-at framing octets offset (neither n) (put_in g y m t) = absurd ((n g y).1 t)
one-at framing octets offset (neither n) (neither m) = refl

first-one : (framing : Framing) (octets : List ℕ) {candidates : List ℕ} {a b : Option OctetChange}
    → IsFirstChange framing octets candidates a → IsFirstChange framing octets candidates b → a ≡ b
first-one framing octets no_more no_more = refl
first-one framing octets (here {offset = o} x) (here y) = one-at framing octets o x y
first-one framing octets (here {offset = o} {change = c} x) (later n g) =
    let e : Some c ≡ None = one-at framing octets o x n in absurd (cc)
first-one framing octets (later {offset = o} n f) (here {change = c} y) =
    let e : Some c ≡ None = one-at framing octets o y n in absurd (cc)
first-one framing octets (later n f) (later m g) = first-one framing octets f g

pub change-one : (framing : Framing) (octets candidates : List ℕ) (wrong : Option WrongLength)
    (a b : Option OctetChange) → IsOctetChange framing octets candidates wrong a
    → IsOctetChange framing octets candidates wrong b → a ≡ b
change-one framing octets candidates wrong a b (another_length w) (another_length v) = refl
change-one framing octets candidates wrong a b (not_searched long) (not_searched l) = refl
change-one framing octets candidates wrong a b (not_searched long) (left_over short s) = refl
change-one framing octets candidates wrong a b (not_searched long) (searched short n f) = absurd (omega (arith, long, short))
change-one framing octets candidates wrong a b (left_over short s) (not_searched long) = refl
change-one framing octets candidates wrong a b (left_over short s) (left_over l t) = refl
change-one framing octets candidates wrong a b (left_over short s) (searched l n f) = absurd (n s)
change-one framing octets candidates wrong a b (searched short n f) (not_searched long) = absurd (omega (arith, long, short))
change-one framing octets candidates wrong a b (searched short n f) (left_over l s) = absurd (n s)
change-one framing octets candidates wrong a b (searched short n f) (searched l m g) = first-one framing octets f g
