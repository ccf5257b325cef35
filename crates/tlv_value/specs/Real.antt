-- The contents of a REAL: X.690 8.5, and 11.3 for the canonical ones. The conditions are at the end, and the terms that
-- they use before them. The first octet of the contents is x.
use Rattle.std.specs.Prelude.{ℕ, ◌+◌, ◌/◌, ◌%◌, Bool, true, false, ◌&&◌, ◌||◌, not, ◌==◌, nat_le}
use Rattle.std.specs.Prelude.{if◌then◌else◌, List, [], ◌∷◌, length, take, drop}
use Rattle.std.specs.List.{list_all, list_any}
use Rattle.tlv_value.specs.ContentsOctets.{first_octet, is_padded_integer, last_octet}
use Rattle.tlv_value.specs.TextForms.{Form, digits, mark, maybe, octet_between, sign, ◌or◌, ◌followed_by◌}

-- ---- Binary: 8.5.7

-- 8.5.7.2: bits 6 and 5 are 0 for base 2, 1 for base 8 and 2 for base 16; 3 is reserved
abbrev pub base_bits : ℕ → ℕ
base_bits x = x / 16 % 4

-- 8.5.7.3: bits 4 and 3 are the scale
abbrev pub scale_bits : ℕ → ℕ
scale_bits x = x / 4 % 4

-- 8.5.7.4: bits 2 and 1 are 0, 1 or 2 for an exponent of one, two or three octets. If they are 3, the second octet of
-- the contents says how many there are
abbrev pub has_size_octet : ℕ → Bool
has_size_octet x = x % 4 == 3

-- the number of exponent octets. `rest` are the octets after x
abbrev pub exponent_size : ℕ → List ℕ → ℕ
exponent_size x rest = if has_size_octet x then first_octet rest else x % 4 + 1

-- the exponent octets and the octets after them
abbrev pub from_exponent : ℕ → List ℕ → List ℕ
from_exponent x rest = if has_size_octet x then drop 1 rest else rest

abbrev pub exponent_octets : ℕ → List ℕ → List ℕ
exponent_octets x rest = take (exponent_size x rest) (from_exponent x rest)

-- 8.5.7.5
abbrev pub mantissa_octets : ℕ → List ℕ → List ℕ
mantissa_octets x rest = drop (exponent_size x rest) (from_exponent x rest)

-- 8.5.7: the base is not the reserved one, the exponent has an octet or more, and a mantissa follows it. 8.5.7.4 d): if
-- the second octet says how many octets the exponent has, its first nine bits are not all equal
abbrev pub is_binary_form : ℕ → List ℕ → Bool
is_binary_form x rest =
    not (base_bits x == 3)
    && not (exponent_size x rest == 0)
    && not (has_size_octet x && is_padded_integer (exponent_octets x rest))
    && not (length (mantissa_octets x rest) == 0)

-- 11.3.1: the mantissa is odd, and in the fewest octets
abbrev pub is_canonical_mantissa : List ℕ → Bool
is_canonical_mantissa octets = not (first_octet octets == 0) && last_octet octets % 2 == 1

-- 11.3.1, of contents of this form: base 2, a scale of 0, a second octet for the number of exponent octets only if
-- there are four or more, the exponent in the fewest octets, and such a mantissa
abbrev pub is_canonical_binary : ℕ → List ℕ → Bool
is_canonical_binary x rest =
    base_bits x == 0
    && scale_bits x == 0
    && not (has_size_octet x && nat_le (exponent_size x rest) 3)
    && not (is_padded_integer (exponent_octets x rest))
    && is_canonical_mantissa (mantissa_octets x rest)

-- ---- Special values: 8.5.9

-- there is no other octet. 40 is plus infinity, 41 minus infinity, 42 not a number, and 43 minus zero
abbrev pub is_special_form : ℕ → List ℕ → Bool
is_special_form x rest = nat_le 0x40 x && nat_le x 0x43 && length rest == 0

-- ---- Decimal: 8.5.8. The octets after x are a number as ISO 6093 writes it

-- 20 is the space
abbrev pub leading_spaces : Form
leading_spaces text = list_all (λ x. x == 0x20) text

-- one digit or more: 30 to 39 are the digits
abbrev pub some_digits : Form
some_digits = octet_between 0x30 0x39 followed_by digits

-- 2e is the point, 2c the comma
abbrev pub decimal_mark : Form
decimal_mark = mark 0x2e or mark 0x2c

-- digits with a mark after them, in them or before them
abbrev pub marked_digits : Form
marked_digits = (some_digits followed_by decimal_mark followed_by digits) or (decimal_mark followed_by some_digits)

-- 45 is E, 65 is e
abbrev pub exponent : Form
exponent = (mark 0x45 or mark 0x65) followed_by maybe sign followed_by some_digits

-- spaces and a sign, if there are any
abbrev pub number_prefix : Form
number_prefix = leading_spaces followed_by maybe sign

-- the forms of ISO 6093: NR1 is a whole number, NR2 one with a mark, NR3 one with an exponent
abbrev pub nr1_form : Form
nr1_form = number_prefix followed_by some_digits

abbrev pub nr2_form : Form
nr2_form = number_prefix followed_by marked_digits

abbrev pub nr3_form : Form
nr3_form = number_prefix followed_by (some_digits or marked_digits) followed_by exponent

-- 8.5.8: the first octet says which form it is; no other octet below 40 is allowed
abbrev pub is_decimal_form : ℕ → List ℕ → Bool
is_decimal_form x rest =
    if x == 1 then nr1_form rest
    else if x == 2 then nr2_form rest
    else x == 3 && nr3_form rest

-- a digit that is not 0: 31 to 39
abbrev pub nonzero_digit : Form
nonzero_digit = octet_between 0x31 0x39

-- 11.3.2.4: neither the first nor the last digit of the mantissa is 0
abbrev pub canonical_mantissa : Form
canonical_mantissa = nonzero_digit followed_by maybe (digits followed_by nonzero_digit)

-- 11.3.2.6: an exponent of 0 is +0. Any other has no plus, and its first digit is not 0
abbrev pub canonical_exponent : Form
canonical_exponent =
    (mark 0x2b followed_by mark 0x30) or (maybe (mark 0x2d) followed_by nonzero_digit followed_by digits)

-- 11.3.2: NR3 with no spaces and no plus before the mantissa; the point and E come right after it
abbrev pub canonical_nr3_form : Form
canonical_nr3_form =
    maybe (mark 0x2d) followed_by canonical_mantissa followed_by mark 0x2e followed_by mark 0x45
    followed_by canonical_exponent

-- ---- Zero

-- the octets of a decimal number before its E or e (45, 65): all of them, if there is none
abbrev pub before_exponent : List ℕ → List ℕ
before_exponent [] = []
before_exponent (x ∷ xs) = if x == 0x45 || x == 0x65 then [] else x ∷ before_exponent xs

-- no digit before the exponent is from 1 to 9 (31 to 39)
abbrev pub is_decimal_zero : List ℕ → Bool
is_decimal_zero text = not (list_any (λ x. nat_le 0x31 x && nat_le x 0x39) (before_exponent text))

-- ---- The conditions

-- 8.5.2: no contents are plus zero. 8.5.6: bits 8 and 7 of the first octet say which form the others have
abbrev pub is_real_form : List ℕ → Bool
is_real_form [] = true
is_real_form (x ∷ rest) =
    if nat_le 0x80 x then is_binary_form x rest
    else if nat_le 0x40 x then is_special_form x rest
    else is_decimal_form x rest

-- 8.5.2, 8.5.3: contents of one of the forms are a number in binary or decimal, and the number is zero
abbrev pub is_zero_number : List ℕ → Bool
is_zero_number [] = false
is_zero_number (x ∷ rest) =
    if nat_le 0x80 x then list_all (λ octet. octet == 0) (mantissa_octets x rest)
    else not (nat_le 0x40 x) && is_decimal_zero rest

-- 11.3
abbrev pub is_canonical_real : List ℕ → Bool
is_canonical_real [] = true
is_canonical_real (x ∷ rest) =
    if nat_le 0x80 x then is_canonical_binary x rest
    else if nat_le 0x40 x then is_special_form x rest
    else x == 3 && canonical_nr3_form rest
