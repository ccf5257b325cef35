-- What the texts of options mean. A result `None` means that the text is not a valid value of the option; an argument
-- `None` is an option that was not given.
use Rattle.std.specs.Prelude.{ℕ, ◌-◌, ◌^◌, ◌==◌, ◌&&◌, List, [], ◌∷◌, Option, Some, None}
use Rattle.std.specs.Prelude.{codes, if◌then◌else◌, length, nat_le, nat_lt, option_and_then}
use Rattle.std.specs.Prelude.{option_map}
use Rattle.std.specs.Char.{is_ascii_digit}
use Rattle.std.specs.List.{list_all, slice_split}
use Rattle.std.specs.Str.{bytes_eq}
use Rattle.std.specs.Str.Parse.{digits_value}
use Rattle.clap.specs.Words.{Text}
use Rattle.tlv_walk.specs.Inside.{can_name}
use Rattle.tlv_show.specs.declared.rules.Rules.{Rules}
use Rattle.tlv_show.specs.declared.rules.Rules.TheVariants.{Ber, Cer, Der}
use Rattle.tlv_head.specs.Limits.{input_limit}

-- ---- numbers

-- a number of 1 to 13 digits, at most `most`
abbrev pub bounded_number : Text → ℕ → Option ℕ
bounded_number text most =
    if nat_lt 0 (length text) && (nat_le (length text) 13
    && (list_all is_ascii_digit text && nat_le (digits_value 10 text) most))
    then Some (digits_value 10 text) else None

-- ---- lists of offsets

-- the parts of a text between its commas, which are octets 44
abbrev pub comma_parts : Text → List Text
comma_parts = slice_split (λ octet. octet == 44)

-- the offset in each part, if each part is an offset
abbrev pub part_offsets : List Text → Option (List ℕ)
part_offsets [] = Some []
part_offsets (part ∷ parts) =
    option_and_then (λ n. option_map (λ ns. n ∷ ns) (part_offsets parts))
    (bounded_number part input_limit)

-- the offsets, if they can be named
abbrev pub nameable_offsets : List ℕ → Option (List ℕ)
nameable_offsets offsets = if can_name offsets then Some offsets else None

-- 1 to 16 increasing offsets with commas between them
abbrev pub offset_list : Text → Option (List ℕ)
offset_list text = option_and_then nameable_offsets (part_offsets (comma_parts text))

-- ---- the value of an option, by its text or by none

-- `--rules`: `ber`, `der` or `cer`; without it, the usual rules
abbrev pub rules_value : Rules → Option Text → Option Rules
rules_value usual None = Some usual
rules_value usual (Some text) =
    if bytes_eq text (codes "ber") then Some Ber
    else (if bytes_eq text (codes "der") then Some Der
    else (if bytes_eq text (codes "cer") then Some Cer else None))

-- `--limit`: a number below 2^32; without it there is no limit
abbrev pub limit_value : Option Text → Option (Option ℕ)
limit_value None = Some None
limit_value (Some text) = option_map Some (bounded_number text (2 ^ 32 - 1))

-- `--offset`: an offset, which must be given
abbrev pub offset_value : Option Text → Option ℕ
offset_value = option_and_then (λ text. bounded_number text input_limit)

-- `--inside`: a list of offsets; without it there is none
abbrev pub inside_value : Option Text → Option (List ℕ)
inside_value None = Some []
inside_value (Some text) = offset_list text
