-- Steps of reading a list of numbers, one after another.
use Rattle.std.proofs.Common.{◌≡◌, ℕ, zero, suc, ◌+◌, ◌==◌, ◌<◌, ◌≤◌, Bool, true, false, ◌||◌, List, [], ◌∷◌, ◌++◌}
use Rattle.std.proofs.Common.{length, drop, refl, ap, sym, ◌∙◌, append_assoc, arith, slice_index, Option, Some, None}
use Rattle.std.specs.Option.{option_or}
use Rattle.std.specs.Prelude.{is_some, option_map}
use Rattle.std.proofs.lemmas.Bool.{false_from_ne_true}
use Rattle.std.proofs.lemmas.List.{drop_all}
use Rattle.std.proofs.Math.Seq.{drop-drop}
use Rattle.memchr.specs.Find.{IsFirstByte, is_byte2}
use Rattle.tlv_text.proofs.Slices.{from-on, slice_from}
use Rattle.tlv_text.specs.Numbers.{from_list, in_list_after, items_read, list_at, list_place_after, list_step_then}
use Rattle.tlv_text.specs.Numbers.{alone_before, has_no_pair, has_zero_pair, numbers_read, step_at}
use Rattle.tlv_text.specs.TextRead.{PartRead}
use Rattle.tlv_text.specs.declared.numbers.Number.{Number}
use Rattle.tlv_text.specs.declared.numbers.Place.{Place}
use Rattle.tlv_text.specs.declared.numbers.Place.TheVariants.{AfterNumber}
use Rattle.tlv_text.specs.declared.numbers.Step.{Step}
use Rattle.tlv_text.specs.declared.numbers.Step.TheVariants.{Reads}

-- octets before what is read after them
abbrev pub part_before : List ℕ → PartRead → PartRead
part_before front more = record more { octets = front ++ more.octets }

one-more : (front : List ℕ) (n : Number) (left : ℕ) (more : PartRead)
    → part_before front (list_step_then (Reads n) left more) ≡ part_before (front ++ n.octet ∷ []) more
one-more front n left more =
    ap (λ (octets : List ℕ). record { octets = octets; left = more.left })
    (sym (append_assoc front (n.octet ∷ []) more.octets))

-- what belongs to a number is no step of its own
inside-skipped : (close n : ℕ) (place : Place) (text : List ℕ)
    → items_read close n place text ≡ items_read close 0 place (drop n text)
inside-skipped close zero place text = refl
inside-skipped close (suc n) place [] = refl
inside-skipped close (suc n) place (x ∷ text) = inside-skipped close n place text

after-one : (x : ℕ) (text : List ℕ) → slice_from 1 (x ∷ text) ≡ text
after-one x text = from-on 1 (x ∷ text)

-- a step, and what is read after it
step-first : (close : ℕ) (place : Place) (text : List ℕ) (step : Step) → 1 ≤ length text
    → step ≡ step_at close place text
    → items_read close 0 place text ≡ list_step_then step (length text)
    (items_read close 0 (list_place_after step) (drop (in_list_after step) (slice_from 1 text)))
step-first close place [] step one e = absurd (omega arith)
step-first close place (x ∷ text) step one e =
    ap (λ (s : Step). list_step_then s (length (x ∷ text))
    (items_read close (in_list_after s) (list_place_after s) text)) (sym e)
    ∙ ap (list_step_then step (length (x ∷ text)))
    (inside-skipped close (in_list_after step) (list_place_after step) text
    ∙ ap (λ (rest : List ℕ). items_read close 0 (list_place_after step) (drop (in_list_after step) rest))
    (sym (after-one x text)))

-- a number is read after others
pub number-read : (all : PartRead) (close : ℕ) (place : Place) (octets text : List ℕ) (n : Number)
    → 1 ≤ length text → Reads n ≡ step_at close place text
    → all ≡ part_before octets (items_read close 0 place text)
    → all ≡ part_before (octets ++ n.octet ∷ [])
    (items_read close 0 AfterNumber (slice_from n.more (slice_from 1 text)))
number-read all close place octets text n one e i =
    i
    ∙ ap (part_before octets) (step-first close place text (Reads n) one e)
    ∙ one-more octets n (length text) (items_read close 0 AfterNumber (drop n.more (slice_from 1 text)))
    ∙ ap (λ (rest : List ℕ). part_before (octets ++ n.octet ∷ []) (items_read close 0 AfterNumber rest))
    (sym (from-on n.more (slice_from 1 text)))

-- ---- where no list begins

pub some-mapped : {A B : Type 0} (f : A → B) (o : Option A) → is_some (option_map f o) ≡ is_some o
some-mapped f (Some x) = refl
some-mapped f None = refl

-- no character before this place opens a list: 91 is a bracket, 123 a brace
abbrev NoOpening : List ℕ → ℕ → Type 0
NoOpening text n = (k : ℕ) → k < n → is_byte2 91 123 (slice_index text k) ≡ false

or-parts : (a b : Bool) → (a || b) ≡ false → (a ≡ false) × (b ≡ false)
or-parts true b e = absurd (cc)
or-parts false b e = (refl, e)

one-passed : (x : ℕ) (text other : List ℕ) → is_byte2 91 123 x ≡ false → from_list text ≡ from_list other
    → from_list (x ∷ text) ≡ from_list other
one-passed x text other e same =
    let parts = or-parts (x == 91) (x == 123) e in rw (parts.0, parts.1) same

openings-passed : (n : ℕ) (text : List ℕ) → NoOpening text n → from_list text ≡ from_list (drop n text)
openings-passed zero text none = refl
openings-passed (suc n) [] none = refl
openings-passed (suc n) (x ∷ text) none =
    one-passed x text (drop n text) (none 0 (omega arith))
    (openings-passed n text (λ k less. none (suc k) (omega (arith, less))))

-- the list with which a text begins is its first one, or is passed over
list-first : (text : List ℕ) → is_some (list_at text) ≡ true → from_list text ≡ text
list-first [] e = refl
list-first (x ∷ text) e = rw e refl

list-passed : (text : List ℕ) → is_some (list_at text) ≡ false → from_list text ≡ from_list (drop 1 text)
list-passed [] e = refl
list-passed (x ∷ text) e = rw e refl

-- a text begins with a list, or has none, from its first list on
list-there : (text : List ℕ) → is_some (list_at (from_list text)) ≡ false → from_list text ≡ []
list-there [] e = refl
list-there (x ∷ text) e = by (is_some (list_at (x ∷ text))) refl (list-there text)
  where
    by : (b : Bool) → is_some (list_at (x ∷ text)) ≡ b
        → (is_some (list_at (from_list text)) ≡ false → from_list text ≡ []) → from_list (x ∷ text) ≡ []
    by true is more = let same = list-first (x ∷ text) is in absurd (cc (rw same at e, is))
    by false is more = let same = list-passed (x ∷ text) is in same ∙ more (rw same at e)

-- ---- the only list of a text

-- no other list begins
pub alone-before : (rest : List ℕ) (list : PartRead) (second : Option PartRead)
    → second ≡ list_at (from_list rest) → is_some second ≡ false → list ≡ alone_before (from_list rest) list
alone-before rest list second e none =
    let nothing : from_list rest ≡ [] = list-there rest (ap is_some (sym e) ∙ none) in
    ap (λ (t : List ℕ). alone_before t list) (sym nothing)

-- a second list begins with its opening, and `after` comes after it
second-size : (text after : List ℕ) → is_some (list_at text) ≡ true → after ≡ drop 1 text → (list : PartRead)
    → record list { left = option_or list.left (Some (length after + 1)) } ≡ alone_before text list
second-size [] after some e list = absurd (cc)
second-size (x ∷ text) after some e list =
    let size : length after + 1 ≡ suc (length text) = omega (arith, ap length e) in
    ap (λ (n : ℕ). record { octets = list.octets; left = option_or list.left (Some n) }) size

pub alone-refused : (rest after : List ℕ) (list : PartRead) (left : Option ℕ) (second : Option PartRead)
    → left ≡ option_or list.left (Some (length after + 1)) → second ≡ list_at (from_list rest)
    → is_some second ≡ true → after ≡ drop 1 (from_list rest)
    → record list { left = left } ≡ alone_before (from_list rest) list
alone-refused rest after list left second is e some f =
    ap (λ (l : Option ℕ). record list { left = l }) is
    ∙ second-size (from_list rest) after (ap is_some (sym e) ∙ some) f list

-- what is read of a text, by its first list
pub first-only : (text rest : List ℕ) (list only : PartRead) → Some list ≡ list_at (from_list text)
    → rest ≡ drop 1 (from_list text) → only ≡ alone_before (from_list rest) list → numbers_read text ≡ Some only
first-only text rest list only first next is =
    ap (λ (t : List ℕ). option_map (alone_before (from_list t)) (list_at (from_list text))) (sym next)
    ∙ ap (option_map (alone_before (from_list rest))) (sym first)
    ∙ ap Some (sym is)

-- ---- the first character that opens a list

none-before : (text : List ℕ) (n : ℕ) → IsFirstByte (is_byte2 91 123) text (Some n) → NoOpening text n
none-before text n f k less =
    false_from_ne_true (is_byte2 91 123 (slice_index text k)) (f.0.before k (omega arith) less)

next-on : (n : ℕ) (text : List ℕ) → drop 1 (drop n text) ≡ slice_from (n + 1) text
next-on n text = drop-drop 1 n text ∙ sym (from-on (n + 1) text)

pub no-list : (text : List ℕ) → IsFirstByte (is_byte2 91 123) text None → from_list text ≡ []
no-list text f =
    openings-passed (length text) text
    (λ k less. false_from_ne_true (is_byte2 91 123 (slice_index text k)) (f k (omega arith) less))
    ∙ ap from_list (drop_all (length text) text (omega arith))

pub list-found : (text : List ℕ) (n : ℕ) (list : Option PartRead) → IsFirstByte (is_byte2 91 123) text (Some n)
    → list ≡ list_at (slice_from n text) → is_some list ≡ true
    → (list ≡ list_at (from_list text)) × (slice_from (n + 1) text ≡ drop 1 (from_list text))
list-found text n list f e some =
    let here : list ≡ list_at (drop n text) = e ∙ ap list_at (from-on n text) in
    let same : from_list text ≡ drop n text =
    openings-passed n text (none-before text n f) ∙ list-first (drop n text) (ap is_some (sym here) ∙ some) in
    (here ∙ ap list_at (sym same), sym (next-on n text) ∙ ap (drop 1) (sym same))

pub list-not_there : (text : List ℕ) (n : ℕ) (list : Option PartRead) → IsFirstByte (is_byte2 91 123) text (Some n)
    → list ≡ list_at (slice_from n text) → is_some list ≡ false
    → from_list text ≡ from_list (slice_from (n + 1) text)
list-not_there text n list f e none =
    let here : list ≡ list_at (drop n text) = e ∙ ap list_at (from-on n text) in
    openings-passed n text (none-before text n f)
    ∙ list-passed (drop n text) (ap is_some (sym here) ∙ none)
    ∙ ap from_list (next-on n text)

-- ---- fewer than three characters

pub few-zero_pair : (text : List ℕ) → length text < 3 → has_zero_pair text ≡ false
few-zero_pair [] few = refl
few-zero_pair (x ∷ []) few = refl
few-zero_pair (x ∷ y ∷ []) few = refl
few-zero_pair (x ∷ y ∷ z ∷ text) few = absurd (omega (arith, few))

pub few-no_pair : (text : List ℕ) → length text < 3 → has_no_pair text ≡ false
few-no_pair [] few = refl
few-no_pair (x ∷ []) few = refl
few-no_pair (x ∷ y ∷ []) few = refl
few-no_pair (x ∷ y ∷ z ∷ text) few = absurd (omega (arith, few))
