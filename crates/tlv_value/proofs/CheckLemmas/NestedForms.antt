-- One form of text within another, and a canonical time within its grammar.
use Rattle.std.proofs.Common.{◌≡◌, ℕ, ◌≤◌, Bool, true, false, ◌&&◌, ◌||◌, not, nat_le, List, [], ◌∷◌, ◌++◌}
use Rattle.std.proofs.Common.{length, eqb, refl, sym, ◌∙◌, ◌⊎◌, inl, inr, arith}
use Rattle.std.specs.List.{list_any}
use Rattle.std.proofs.lemmas.Bool.{and_parts, or_cases, leb-true, le-leb}
use Rattle.std.proofs.lemmas.Bool.Decides.{nat_tests}
use Rattle.std.specs.Char.{is_ascii_digit}
use Rattle.tlv_value.specs.declared.finding.Finding.TheVariants.{B19, B26, S04}
use Rattle.tlv_value.specs.Dates.{month_has_day, month_has_day_in_some_century}
use Rattle.tlv_value.specs.Times.{Form, canonical_fraction, canonical_generalized_time_form, canonical_utc_time_form}
use Rattle.tlv_value.specs.Times.{digits, generalized_time_form, hour, mark, maybe, minute}
use Rattle.tlv_value.specs.Times.{month_and_day, no_octets, octet_between, second, sign, splits, two_digit_number}
use Rattle.tlv_value.specs.Times.{two_digits, utc_time_form, year_digits, ◌or◌, ◌followed_by◌}
use Rattle.tlv_value.specs.Private.TimeFindings.{generalized_time_findings, time_findings, utc_time_findings}
use Rattle.tlv_value.proofs.CheckLemmas.Forms.{digits-then, octet-then, then-assoc}
use Rattle.tlv_value.specs.Private.TimeParts.{generalized_tail}
use Rattle.tlv_value.specs.ValueCheckState.{finding_if}

-- each text of the first form has the second
record Within (f g : Form) : Type 0 where
  pub has : (text : List ℕ) → f text ≡ true → g text ≡ true

or-left : (a b : Bool) → a ≡ true → (a || b) ≡ true
or-left true b h = refl
or-left false b h = absurd cc

or-both : (a b c d : Bool) → (a ≡ true → c ≡ true) → (b ≡ true → d ≡ true) → (a || b) ≡ true → (c || d) ≡ true
or-both true b true d f g h = refl
or-both true b false d f g h = absurd (let e = f refl in cc)
or-both false b true d f g h = refl
or-both false b false d f g h = g h

and-both : (a b c d : Bool) → (a ≡ true → c ≡ true) → (b ≡ true → d ≡ true) → (a && b) ≡ true → (c && d) ≡ true
and-both true b true d f g h = g h
and-both true b false d f g h = absurd (let e = f refl in cc)
and-both false b c d f g h = absurd cc

any-weaker : {X : Type 0} (p q : X → Bool) → ((x : X) → p x ≡ true → q x ≡ true) → (xs : List X)
    → list_any p xs ≡ true → list_any q xs ≡ true
any-weaker p q w [] h = h
any-weaker p q w (x ∷ xs) h = or-both (p x) (list_any p xs) (q x) (list_any q xs) (w x) (any-weaker p q w xs) h

within-same : (f : Form) → Within f f
within-same f = record { has = λ text h. h }

within-then : {f g h k : Form} → Within f h → Within g k → Within (f followed_by g) (h followed_by k)
within-then {f} {g} {h} {k} v w = record {
  has = λ text e.
      any-weaker (λ (split : List ℕ × List ℕ). f split.0 && g split.1)
      (λ (split : List ℕ × List ℕ). h split.0 && k split.1)
      (λ (split : List ℕ × List ℕ). and-both (f split.0) (g split.1) (h split.0) (k split.1) (v.has split.0)
      (w.has split.1)) (splits text) e;
}

within-or : {f g h k : Form} → Within f h → Within g k → Within (f or g) (h or k)
within-or {f} {g} {h} {k} v w = record {
  has = λ text. or-both (f text) (g text) (h text) (k text) (v.has text) (w.has text);
}

within-first : {f g : Form} (h : Form) → Within f g → Within f (g or h)
within-first {f} {g} h v = record { has = λ text e. or-left (g text) (h text) (v.has text e) }

-- a first part, and then two parts within one
within-prefix : {f k : Form} (g h m : Form) → Within f k → Within (g followed_by h) m → Within ((f followed_by g) followed_by h) (k followed_by m)
within-prefix {f} g h m v w = record {
  has = λ text e. (within-then v w).has text (sym (then-assoc f g h text) ∙ e);
}

-- two digits of a number with a greater limit
within-two_digits : (low high more : ℕ) → high ≤ more → Within (two_digits low high) (two_digits low more)
within-two_digits low high more le = record { has = has }
  where
    greater : (n : ℕ) → nat_le n high ≡ true → nat_le n more ≡ true
    greater n h = le-leb n more (let t = leb-true n high h in omega arith)

    last : (a b c n : Bool) (m : Bool) → (n ≡ true → m ≡ true) → (a && b && c && n) ≡ true → (a && b && c && m) ≡ true
    last true true true n m f h = f h
    last true true false n m f h = h
    last true false c n m f h = h
    last false b c n m f h = h

    has : (text : List ℕ) → two_digits low high text ≡ true → two_digits low more text ≡ true
    has [] h = h
    has (x ∷ []) h = h
    has (x ∷ y ∷ []) h =
        let n : ℕ = two_digit_number x y in
        last (is_ascii_digit x) (is_ascii_digit y) (nat_le low n) (nat_le n high) (nat_le n more) (greater n) h
    has (x ∷ y ∷ z ∷ zs) h = h

-- one octet that is a digit, and is not 0
digit-is : (text : List ℕ) → octet_between 49 57 text ≡ true → digits text ≡ true
digit-is [] h = absurd cc
digit-is (x ∷ []) h = grind (arith, nat_tests)
digit-is (x ∷ y ∷ ys) h = absurd cc

-- a digit before digits
digits-behind : (x : ℕ) (xs : List ℕ) → ((digits followed_by octet_between 49 57) xs ≡ true → digits xs ≡ true)
    → (octet_between 49 57 (x ∷ xs) ≡ true) ⊎ ((is_ascii_digit x && (digits followed_by octet_between 49 57) xs) ≡ true)
    → digits (x ∷ xs) ≡ true
digits-behind x xs more (inl e) = digit-is (x ∷ xs) e
digits-behind x xs more (inr e) =
    let both = and_parts (is_ascii_digit x) ((digits followed_by octet_between 49 57) xs) e in rw (both.0, more both.1) refl

digits-more : (text : List ℕ) → (digits followed_by octet_between 49 57) text ≡ true → digits text ≡ true
digits-more [] h = absurd cc
digits-more (x ∷ xs) h =
    digits-behind x xs (digits-more xs)
    (or_cases (octet_between 49 57 (x ∷ xs)) (is_ascii_digit x && (digits followed_by octet_between 49 57) xs)
    (sym (digits-then (octet_between 49 57) x xs) ∙ h))

one-or-more : (text : List ℕ) → (digits followed_by octet_between 49 57) text ≡ true → digits text ≡ true
    → (octet_between 48 57 followed_by digits) text ≡ true
one-or-more [] h d = absurd cc
one-or-more (x ∷ xs) h d = octet-then 48 57 digits x xs ∙ d

-- digits of which the last is not 0 are one digit or more
within-digits : Within (digits followed_by octet_between 49 57) (octet_between 48 57 followed_by digits)
within-digits = record { has = λ text h. one-or-more text h (digits-more text h) }

within-hour : Within (two_digits 0 23) hour
within-hour = within-two_digits 0 23 24 (omega arith)

within-second : {f g : Form} → Within f g → Within (second followed_by f) (maybe second followed_by g)
within-second w = within-then (within-first no_octets (within-same second)) w

-- 11.8
utc-within : Within canonical_utc_time_form utc_time_form
utc-within =
    within-then (within-same year_digits)
    (within-then (within-same month_and_day)
    (within-prefix _ _ _ within-hour
    (within-prefix _ _ _ (within-same minute)
    (within-second (within-first (sign followed_by hour followed_by minute) (within-same (mark 90)))))))

generalized-tail : Within (maybe canonical_fraction followed_by mark 90) generalized_tail
generalized-tail =
    within-then
    (within-or (within-then (within-first (mark 44) (within-same (mark 46))) within-digits) (within-same no_octets))
    (within-first no_octets (within-first (sign followed_by hour followed_by maybe minute) (within-same (mark 90))))

-- 11.7
generalized-within : Within canonical_generalized_time_form generalized_time_form
generalized-within =
    within-then (within-same year_digits)
    (within-then (within-same year_digits)
    (within-then (within-same month_and_day)
    (within-prefix _ _ _ within-hour
    (within-then
    (within-first no_octets (within-then (within-same minute) (within-first no_octets (within-same second))))
    generalized-tail))))

-- if the canonical form is within the grammar, nothing is found exactly on contents of the canonical form whose month
-- has the day
clear-within :
    {f g : Form} → Within f g → (day : Bool) (text : List ℕ)
    → (f text && day) ≡ eqb (length (time_findings (g text) day (f text))) 0
clear-within {f} {g} w day text = go (f text) (g text) day (w.has text)
  where
    go : (a b day : Bool) → (a ≡ true → b ≡ true) → (a && day) ≡ eqb (length (time_findings b day a)) 0
    go true true true v = refl
    go true true false v = refl
    go true false day v = absurd (let e = v refl in cc)
    go false true true v = refl
    go false true false v = refl
    go false false day v = refl

pub utc_clear :
    (octets : List ℕ)
    → (canonical_utc_time_form octets && month_has_day_in_some_century octets)
    ≡ eqb (length (utc_time_findings octets)) 0
utc_clear octets = clear-within utc-within (month_has_day_in_some_century octets) octets

pub generalized_clear :
    (octets : List ℕ)
    → (canonical_generalized_time_form octets && month_has_day octets)
    ≡ eqb (length (generalized_time_findings octets)) 0
generalized_clear octets = clear-within generalized-within (month_has_day octets) octets

-- then there are no findings on contents of either type, whether they are short or not
pub time-clear : (short form day canonical : Bool) → eqb (length (time_findings form day canonical)) 0 ≡ true
    → finding_if (short && not form) B19
    ++ (finding_if (short && form && not day) B26 ++ (finding_if (short && form && not canonical) S04 ++ []))
    ≡ []
time-clear false form day canonical h = refl
time-clear true true true true h = refl
time-clear true true true false h = absurd cc
time-clear true true false true h = absurd cc
time-clear true true false false h = absurd cc
time-clear true false day canonical h = absurd cc
