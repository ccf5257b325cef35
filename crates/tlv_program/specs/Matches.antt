-- What is read from the matches that `clap` makes of words.
use Rattle.std.specs.Prelude.{Bool, false, List, codes}
use Rattle.std.specs.Option.{option_map_or}
use Rattle.std.specs.Str.{bytes_eq}
use Rattle.clap.specs.Words.{Row, Text, first_of, found_of, rows_of}
use Rattle.clap.specs.declared.parser.matches.ArgMatches.{ArgMatches}

-- the text of each option given, from what `clap` matches
abbrev pub matched_rows : ArgMatches → List Row
matched_rows matches = rows_of (found_of matches)

-- the flag is given
abbrev pub has_flag : Text → List Row → Bool
has_flag name matches =
    option_map_or (λ text. bytes_eq text (codes "true")) (first_of name matches) false
