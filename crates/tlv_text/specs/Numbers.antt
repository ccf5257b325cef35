-- Octets as decimal numbers from -128 to 255 in brackets or braces, as JSON, Go and Java write them.
--
--   text   = *character list *character         with one list alone: it is refused where the list breaks, or where
--                                               a second list begins
--   list   = "[" items "]" / "{" items "}"      of two numbers or more
--   items  = item *("," item) ["," *white]
--   item   = *white number *white
--   number = ["-"] 1*3digit                     from -128 to 255; white space, a comma or the end of the list follows
use Rattle.std.specs.Prelude.{ℕ, zero, suc, ◌+◌, ◌-◌, ◌*◌, ◌%◌, ◌==◌, Bool, true, false, ◌&&◌, ◌||◌, nat_le, not}
use Rattle.std.specs.Prelude.{if◌then◌else◌}
use Rattle.std.specs.Prelude.{List, [], ◌∷◌, Option, Some, None, drop, is_some, length, option_map}
use Rattle.std.specs.Option.{option_or}
use Rattle.tlv_text.specs.Characters.{is_white}
use Rattle.tlv_text.specs.TextRead.{PartRead, refused_with}
use Rattle.tlv_text.specs.declared.numbers.Digits.{Digits}
use Rattle.tlv_text.specs.declared.numbers.Number.{Number}
use Rattle.tlv_text.specs.declared.numbers.Place.{Place}
use Rattle.tlv_text.specs.declared.numbers.Place.TheVariants.{AfterComma, AfterNumber, AtStart}
use Rattle.tlv_text.specs.declared.numbers.Step.{Step}
use Rattle.tlv_text.specs.declared.numbers.Step.TheVariants.{Closes, Fails, Passes, Reads}

-- ---- a number

abbrev pub is_decimal : ℕ → Bool
is_decimal x = nat_le 48 x && nat_le x 57

-- digits have a value, and this number of digits comes after the first
abbrev pub digits_of : ℕ → ℕ → Digits
digits_of value more = record { value = value; more = more }

-- what has to follow a number: white space, a comma, or this character, which closes the list
abbrev pub may_follow_number : ℕ → List ℕ → Bool
may_follow_number close [] = false
may_follow_number close (x ∷ text) = is_white x || (x == 44) || (x == close)

-- one digit x, or two digits x and y, before the rest of a text
abbrev pub one_decimal : ℕ → ℕ → List ℕ → Option Digits
one_decimal close x text = if is_decimal x && may_follow_number close text then Some (digits_of (x - 48) 0) else None

abbrev pub two_decimals : ℕ → ℕ → ℕ → List ℕ → Option Digits
two_decimals close x y text =
    if is_decimal x && is_decimal y && may_follow_number close text then Some (digits_of ((x - 48) * 10 + (y - 48)) 1)
    else one_decimal close x (y ∷ text)

-- the digits that a text begins with, one to three, if the end of a number follows them
abbrev pub digits_at : ℕ → List ℕ → Option Digits
digits_at close [] = None
digits_at close (x ∷ []) = one_decimal close x []
digits_at close (x ∷ y ∷ []) = two_decimals close x y []
digits_at close (x ∷ y ∷ z ∷ text) =
    if is_decimal x && is_decimal y && is_decimal z && may_follow_number close text
    then Some (digits_of ((x - 48) * 100 + (y - 48) * 10 + (z - 48)) 2)
    else two_decimals close x y (z ∷ text)

-- a number has an octet, and this number of characters comes after its first
abbrev pub number_of : ℕ → ℕ → Number
number_of octet more = record { octet = octet; more = more }

-- without a sign: up to 255
abbrev pub plain_number : Option Digits → Option Number
plain_number None = None
plain_number (Some d) = if nat_le d.value 255 then Some (number_of d.value d.more) else None

-- after a minus: down to -128. The octet of -n is 256 - n; the octet of -0 is 0
abbrev pub negative_number : Option Digits → Option Number
negative_number None = None
negative_number (Some d) =
    if nat_le d.value 128 then Some (number_of ((256 - d.value) % 256) (1 + d.more)) else None

-- the number that a text begins with
abbrev pub number_at : ℕ → List ℕ → Option Number
number_at close [] = None
number_at close (x ∷ text) =
    if x == 45 then negative_number (digits_at close text) else plain_number (digits_at close (x ∷ text))

-- ---- a list of numbers

-- a place says where in a list a text begins; a step says what its first characters are there
abbrev pub number_step : Option Number → Step
number_step None = Fails
number_step (Some n) = Reads n

-- white space is passed over, a number is read, and a list may close only after a comma
abbrev pub before_number : Place → Bool → ℕ → List ℕ → Step
before_number place may_close close (x ∷ text) =
    if is_white x then Passes place
    else (if may_close && (x == close) then Closes else number_step (number_at close (x ∷ text)))
before_number place may_close close [] = Fails

-- white space and a comma are passed over, or a list closes
abbrev pub after_number : ℕ → List ℕ → Step
after_number close (x ∷ text) =
    if is_white x then Passes AfterNumber
    else (if x == 44 then Passes AfterComma else (if x == close then Closes else Fails))
after_number close [] = Fails

abbrev pub step_at : ℕ → Place → List ℕ → Step
step_at close AtStart text = before_number AtStart false close text
step_at close AfterNumber text = after_number close text
step_at close AfterComma text = before_number AfterComma true close text

-- the place after a step
abbrev pub list_place_after : Step → Place
list_place_after (Passes place) = place
list_place_after (Reads n) = AfterNumber
list_place_after Closes = AfterNumber
list_place_after Fails = AfterNumber

-- the number of characters of a number that are still to come
abbrev pub in_list_after : Step → ℕ
in_list_after (Reads n) = n.more
in_list_after (Passes place) = 0
in_list_after Closes = 0
in_list_after Fails = 0

-- what is read from a step on, given what is read after it; `left` is the number of characters from the step on
abbrev pub list_step_then : Step → ℕ → PartRead → PartRead
list_step_then (Passes place) left more = more
list_step_then (Reads n) left more = record more { octets = n.octet ∷ more.octets }
list_step_then Closes left more = record { octets = []; left = None }
list_step_then Fails left more = refused_with left

-- what is read of a list from a place on, up to its end or to where it breaks; the second argument is the number of
-- characters of the text that belong to a number that began before
abbrev pub items_read : ℕ → ℕ → Place → List ℕ → PartRead
items_read close inside place [] = refused_with 0
items_read close (suc n) place (x ∷ text) = items_read close n place text
items_read close zero place (x ∷ text) =
    let step : Step = step_at close place (x ∷ text) in
    list_step_then step (length (x ∷ text)) (items_read close (in_list_after step) (list_place_after step) text)

-- one number alone is no list: it may be a size, as in `[5]byte{48, 3, 2, 1, 5}`
abbrev pub two_or_more : PartRead → Option PartRead
two_or_more list = if nat_le 2 (length list.octets) then Some list else None

-- what is read of the list that a text begins with: 91 and 93 are brackets, 123 and 125 braces
abbrev pub list_at : List ℕ → Option PartRead
list_at [] = None
list_at (x ∷ text) =
    if x == 91 then two_or_more (items_read 93 0 AtStart text)
    else (if x == 123 then two_or_more (items_read 125 0 AtStart text) else None)

-- ---- the lists of a text

-- a text from its first list on; nothing, if it has none
abbrev pub from_list : List ℕ → List ℕ
from_list [] = []
from_list (x ∷ text) = if is_some (list_at (x ∷ text)) then x ∷ text else from_list text

-- a list that does not break is refused where another one begins
abbrev pub alone_before : List ℕ → PartRead → PartRead
alone_before [] list = list
alone_before (x ∷ other) list = record list { left = option_or list.left (Some (length (x ∷ other))) }

-- what is read of a text that begins with its first list
abbrev pub only_list : List ℕ → Option PartRead
only_list text = option_map (alone_before (from_list (drop 1 text))) (list_at text)

-- what is read of the list of a text, if it has one
abbrev pub numbers_read : List ℕ → Option PartRead
numbers_read text = only_list (from_list text)

-- ---- numbers that may be pairs of hexadecimal digits

-- a bracket or a brace that closes a list
abbrev pub is_closing : ℕ → Bool
is_closing x = (x == 93) || (x == 125)

-- three characters that no pair of digits has: a minus comes first, or there are three digits
abbrev pub is_no_pair : ℕ → ℕ → ℕ → Bool
is_no_pair x y z = (x == 45) || (is_decimal x && is_decimal y && is_decimal z)

-- two digits, the first of them 0, and then another character
abbrev pub is_zero_pair : ℕ → ℕ → ℕ → Bool
is_zero_pair x y z = (x == 48) && is_decimal y && not (is_decimal z)

-- the same somewhere in a list, after its opening
abbrev pub has_no_pair : List ℕ → Bool
has_no_pair [] = false
has_no_pair (x ∷ []) = false
has_no_pair (x ∷ y ∷ []) = false
has_no_pair (x ∷ y ∷ z ∷ text) = not (is_closing x) && (is_no_pair x y z || has_no_pair (y ∷ z ∷ text))

abbrev pub has_zero_pair : List ℕ → Bool
has_zero_pair [] = false
has_zero_pair (x ∷ []) = false
has_zero_pair (x ∷ y ∷ []) = false
has_zero_pair (x ∷ y ∷ z ∷ text) = not (is_closing x) && (is_zero_pair x y z || has_zero_pair (y ∷ z ∷ text))

-- no number of the list of a text has a minus or three digits, and one has two digits, of which the first is 0: these
-- are more likely pairs of hexadecimal digits, as in `[30, 03, 02, 01, 05]`
abbrev pub may_be_pairs : List ℕ → Bool
may_be_pairs text = has_zero_pair (drop 1 (from_list text)) && not (has_no_pair (drop 1 (from_list text)))
