-- Dates: which days a month has, and the forms of DATE, TIME-OF-DAY and DATE-TIME (X.690 8.26).
use Rattle.std.specs.Prelude.{ℕ, ◌+◌, ◌*◌, ◌%◌, Bool, false, ◌&&◌, ◌||◌, not, ◌==◌, nat_le}
use Rattle.std.specs.Prelude.{if◌then◌else◌, List, ◌∷◌}
use Rattle.tlv_head.specs.UniversalTypes as universal
use Rattle.tlv_value.specs.Times.{Form, minute, month_and_day, second, two_digit_number, two_digits, year_digits}
use Rattle.tlv_value.specs.Times.{◌or◌, ◌followed_by◌}

-- the Gregorian calendar: 4 divides a leap year, and 100 does not, or 400 does
abbrev pub is_leap_year : ℕ → Bool
is_leap_year year = year % 4 == 0 && (not (year % 100 == 0) || year % 400 == 0)

-- April, June, September, November
abbrev pub has_thirty_days : ℕ → Bool
has_thirty_days month = month == 4 || month == 6 || month == 9 || month == 11

-- the last day of a month, in a leap year or in another year
abbrev pub last_day : Bool → ℕ → ℕ
last_day is_leap month =
    if month == 2 then (if is_leap then 29 else 28) else if has_thirty_days month then 30 else 31

-- in a text that begins with YYYYMMDD: the month has the day
abbrev pub month_has_day : List ℕ → Bool
month_has_day (a ∷ b ∷ c ∷ d ∷ e ∷ f ∷ g ∷ h ∷ text) =
    nat_le (two_digit_number g h)
    (last_day (is_leap_year (100 * two_digit_number a b + two_digit_number c d)) (two_digit_number e f))
month_has_day text = false

-- in a text that begins with YYMMDD: the month has the day in some century. If 4 divides YY, it divides the year, and
-- there is a century in which the year is a leap year
abbrev pub month_has_day_in_some_century : List ℕ → Bool
month_has_day_in_some_century (c ∷ d ∷ e ∷ f ∷ g ∷ h ∷ text) =
    nat_le (two_digit_number g h) (last_day (two_digit_number c d % 4 == 0) (two_digit_number e f))
month_has_day_in_some_century text = false

-- ---- 8.26

-- hhmmss with an hour of at most 23. Second 60, a leap second, is allowed in any minute: only a list of leap seconds
-- says in which minutes there is one
abbrev pub clock_form : Form
clock_form = two_digits 0 23 followed_by minute followed_by second

-- 240000: midnight at the end of a day
abbrev pub midnight_form : Form
midnight_form = two_digits 24 24 followed_by two_digits 0 0 followed_by two_digits 0 0

-- hhmmss
abbrev pub time_of_day_form : Form
time_of_day_form = clock_form or midnight_form

-- YYYYMMDD
abbrev pub date_form : Form
date_form = year_digits followed_by year_digits followed_by month_and_day

-- YYYYMMDDhhmmss
abbrev pub date_time_form : Form
date_time_form = date_form followed_by time_of_day_form

-- 8.26: the contents of a DATE, TIME-OF-DAY or DATE-TIME, the type with this number, are such a date or time
abbrev pub is_date_or_time : ℕ → List ℕ → Bool
is_date_or_time number contents =
    if number == universal.time_of_day then time_of_day_form contents
    else if number == universal.date then date_form contents && month_has_day contents
    else date_time_form contents && month_has_day contents
