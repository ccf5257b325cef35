-- Which options go together, by what `clap` matches: the texts of each option given, and the names of files.
use Rattle.std.specs.Prelude.{Bool, List, [], ◌∷◌, Option, Some, None, ◌&&◌, codes, find, if◌then◌else◌, is_some}
use Rattle.std.specs.Prelude.{length, nat_lt, not, option_and_then, option_map, unwrap_or}
use Rattle.std.specs.Option.{option_or}
use Rattle.clap.specs.Words.{Row, Text, all_of, first_of}
use Rattle.tlv_program.specs.Matches.{has_flag}
use Rattle.tlv_view_program.specs.declared.refusal.Refusal.{Refusal}
use Rattle.tlv_view_program.specs.declared.refusal.Refusal.TheVariants.{ContentsAlone, NotWith, SeveralFiles}
use Rattle.tlv_view_program.specs.declared.refusal.ShowOption.{ShowOption}
use Rattle.tlv_view_program.specs.declared.refusal.ShowOption.TheVariants.{Check, Closed, Contents, Limit, Names}
use Rattle.tlv_view_program.specs.declared.refusal.ShowOption.TheVariants.{NoText, Offset, Offsets, Pure, Raw, Rules, Why}

-- ---- what is given

-- the option is given
abbrev pub is_option_given : ShowOption → List Row → Bool
is_option_given Check matches = has_flag (codes "check") matches
is_option_given Offset matches = is_some (first_of (codes "offset") matches)
is_option_given Contents matches = has_flag (codes "contents") matches
is_option_given Offsets matches = has_flag (codes "offsets") matches
is_option_given Raw matches = has_flag (codes "raw") matches
is_option_given Why matches = has_flag (codes "why") matches
is_option_given Rules matches = is_some (first_of (codes "rules") matches)
is_option_given Limit matches = is_some (first_of (codes "limit") matches)
is_option_given Pure matches = has_flag (codes "pure") matches
is_option_given Names matches = is_some (first_of (codes "names") matches)
is_option_given Closed matches = has_flag (codes "closed") matches
is_option_given NoText matches = has_flag (codes "no-text") matches

-- the first of these options that is given
abbrev pub first_given : List ShowOption → List Row → Option ShowOption
first_given options matches = find (λ option. is_option_given option matches) options

-- the names of the files, in their order
abbrev pub given_files : List Row → List Text
given_files matches = unwrap_or (all_of (codes "file") matches) []

-- ---- what does not go together

-- the options that may not be given with this one, which asks for something other than a dump
abbrev pub apart_from : ShowOption → List ShowOption
apart_from Check = Offset ∷ Offsets ∷ Raw ∷ Why ∷ Limit ∷ Pure ∷ Names ∷ NoText ∷ []
apart_from Offset = Offsets ∷ Raw ∷ Why ∷ Rules ∷ Limit ∷ Pure ∷ Names ∷ Closed ∷ NoText ∷ []
apart_from Offsets = Raw ∷ Why ∷ Rules ∷ Limit ∷ Pure ∷ Names ∷ Closed ∷ NoText ∷ []
apart_from Raw = Why ∷ Rules ∷ Limit ∷ Pure ∷ Names ∷ Closed ∷ NoText ∷ []
apart_from Why = Rules ∷ Limit ∷ Pure ∷ Names ∷ NoText ∷ []
apart_from _ = []

-- the first of `--check`, `--offset`, `--offsets`, `--raw` and `--why` that is given, and an option that may not be
-- given with it
abbrev pub refused_apart : List Row → Option Refusal
refused_apart matches = option_and_then
    (λ asked. option_map (NotWith asked) (first_given (apart_from asked) matches))
    (first_given (Check ∷ Offset ∷ Offsets ∷ Raw ∷ Why ∷ []) matches)

-- `--contents` without `--offset`
abbrev pub refused_contents : List Row → Option Refusal
refused_contents matches =
    if is_option_given Contents matches && not (is_option_given Offset matches) then Some ContentsAlone else None

-- several files with `--offset` or `--offsets`
abbrev pub refused_files : List Row → Option Refusal
refused_files matches = if nat_lt 1 (length (given_files matches))
    then option_map SeveralFiles (first_given (Offset ∷ Offsets ∷ []) matches) else None

-- why the options do not go together: the first of these that holds
abbrev pub refused_together : List Row → Option Refusal
refused_together matches =
    option_or (refused_apart matches) (option_or (refused_contents matches) (refused_files matches))
