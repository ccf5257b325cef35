-- Times as texts: X.680 46 and 47, X.690 11.7 and 11.8.
use Rattle.std.specs.Prelude.{ℕ, ◌+◌, ◌-◌, ◌*◌, false, ◌&&◌, nat_le, ◌∷◌, []}
use Rattle.std.specs.Char.{is_ascii_digit}
pub use Rattle.tlv_value.specs.TextForms.{Form, digits, mark, maybe, no_octets, octet_between, sign, splits}
pub use Rattle.tlv_value.specs.TextForms.{◌or◌, ◌followed_by◌}

-- the number that two digits stand for: 30 is the digit 0
abbrev pub two_digit_number : ℕ → ℕ → ℕ
two_digit_number x y = 10 * (x - 0x30) + (y - 0x30)

-- two digits, of a number from low to high
abbrev pub two_digits : ℕ → ℕ → Form
two_digits low high (x ∷ y ∷ []) =
    is_ascii_digit x && is_ascii_digit y && nat_le low (two_digit_number x y) && nat_le (two_digit_number x y) high
two_digits low high text = false

-- ---- The grammars. Each number of two digits is looked at by itself, so ranges are lenient: each month has 31 days,
-- hour 24 is allowed with any minute (also in the offset of a zone), and second 60 in any minute

-- YY: two digits of a year. A year of four digits is two of these
abbrev pub year_digits : Form
year_digits = two_digits 0 99

-- MMDD
abbrev pub month_and_day : Form
month_and_day = two_digits 1 12 followed_by two_digits 1 31

abbrev pub hour : Form
hour = two_digits 0 24

abbrev pub minute : Form
minute = two_digits 0 59

abbrev pub second : Form
second = two_digits 0 60

-- 5a is Z
abbrev pub utc_zone : Form
utc_zone = mark 0x5a or (sign followed_by hour followed_by minute)

-- X.680 47.3, with the ranges above, which are lenient
abbrev pub utc_time_form : Form
utc_time_form =
    year_digits followed_by month_and_day followed_by hour followed_by minute followed_by maybe second
    followed_by utc_zone

-- one digit or more after a point or a comma: 2e is the point, 2c the comma, 30 to 39 are the digits
abbrev pub fraction : Form
fraction = (mark 0x2e or mark 0x2c) followed_by octet_between 0x30 0x39 followed_by digits

abbrev pub generalized_zone : Form
generalized_zone = mark 0x5a or (sign followed_by hour followed_by maybe minute)

-- X.680 46.3: the fraction is that of the hour, minute or second before it
abbrev pub generalized_time_form : Form
generalized_time_form =
    year_digits followed_by year_digits followed_by month_and_day followed_by hour
    followed_by maybe (minute followed_by maybe second) followed_by maybe fraction followed_by maybe generalized_zone

-- ---- The canonical forms: X.690 11.7, 11.8

-- hour, minute and second. 11.7.2, 11.8.2: the second is always present. 11.7.5, 11.8.3: midnight is hour 0 of the
-- following day, so no hour is 24
abbrev pub canonical_clock : Form
canonical_clock = two_digits 0 23 followed_by minute followed_by second

-- 11.8.1: the time ends with Z
abbrev pub canonical_utc_time_form : Form
canonical_utc_time_form = year_digits followed_by month_and_day followed_by canonical_clock followed_by mark 0x5a

-- 11.7.4: a fraction begins with a point. 11.7.3: its last digit is not 0 (31 to 39 are the digits 1 to 9), so at least
-- one digit follows the point
abbrev pub canonical_fraction : Form
canonical_fraction = mark 0x2e followed_by digits followed_by octet_between 0x31 0x39

-- 11.7.1: the time ends with Z
abbrev pub canonical_generalized_time_form : Form
canonical_generalized_time_form =
    year_digits followed_by year_digits followed_by month_and_day followed_by canonical_clock
    followed_by maybe canonical_fraction followed_by mark 0x5a
