-- What `request_of` returns: what the words ask for, or why they ask for nothing.
use Rattle.std.specs.Prelude.{◌≡◌, List, [], Option, Some, None, Result, Ok, Err, ⊤, codes, if◌then◌else◌, not}
use Rattle.clap.specs.Faults.{fault_of}
use Rattle.clap.specs.Words.{Row, Text, first_of, matches_of}
use Rattle.tlv_show.specs.declared.rules.Rules.TheVariants.{Ber, Der}
use Rattle.tlv_program.specs.CommandOf.{AreRefusedBy, with_value}
use Rattle.tlv_program.specs.Matches.{has_flag}
use Rattle.tlv_program.specs.Values.{limit_value, offset_value, rules_value}
use Rattle.tlv_view_program.specs.FormValue.{form_value}
use Rattle.tlv_view_program.specs.OptionsTogether.{given_files, is_option_given, refused_together}
use Rattle.tlv_view_program.specs.ShowCommandLine.{show_app}
use Rattle.tlv_view_program.specs.declared.refusal.Refusal.{Refusal}
use Rattle.tlv_view_program.specs.declared.refusal.Refusal.TheVariants.{FormValue, LimitValue, OffsetValue, RulesValue}
use Rattle.tlv_view_program.specs.declared.refusal.RequestFault.{RequestFault}
use Rattle.tlv_view_program.specs.declared.refusal.RequestFault.TheVariants.{Memory, Parser, Refused}
use Rattle.tlv_view_program.specs.declared.refusal.ShowOption.TheVariants as given
use Rattle.tlv_view_program.specs.declared.request.Request.{Request}
use Rattle.tlv_view_program.specs.declared.request.Wanted.{Wanted}
use Rattle.tlv_view_program.specs.declared.request.Wanted.TheVariants.{Check, Dump, Extract, Offsets, Raw, Why}

-- ---- what the matches of `clap` ask for: the texts of each option given, and the names of files

abbrev pub wanted_dump : List Row → Result Wanted Refusal
wanted_dump matches =
    with_value RulesValue (rules_value Ber (first_of (codes "rules") matches)) (λ rules.
    with_value LimitValue (limit_value (first_of (codes "limit") matches)) (λ limit.
    Ok (Dump
    rules
    limit
    (has_flag (codes "pure") matches)
    (not (has_flag (codes "no-text") matches))
    (has_flag (codes "closed") matches)
    (first_of (codes "names") matches))))

abbrev pub wanted_check : List Row → Result Wanted Refusal
wanted_check matches =
    with_value RulesValue (rules_value Der (first_of (codes "rules") matches)) (λ rules.
    Ok (Check rules (has_flag (codes "closed") matches)))

abbrev pub wanted_extract : List Row → Result Wanted Refusal
wanted_extract matches =
    with_value OffsetValue (offset_value (first_of (codes "offset") matches)) (λ offset.
    Ok (Extract offset (has_flag (codes "contents") matches)))

-- what is wanted of each file, or the first option whose text is not a valid value
abbrev pub wanted_of : List Row → Result Wanted Refusal
wanted_of matches =
    if is_option_given given.Check matches then wanted_check matches
    else (if is_option_given given.Offset matches then wanted_extract matches
    else (if is_option_given given.Offsets matches then Ok Offsets
    else (if is_option_given given.Raw matches then Ok Raw
    else (if is_option_given given.Why matches then Ok (Why (has_flag (codes "closed") matches))
    else wanted_dump matches))))

-- what is wanted, of which files, and the form of the files; an invalid text of `--as` is reported after the others
abbrev pub request_for : List Row → Result Wanted Refusal → Result Request Refusal
request_for matches (Ok wanted) =
    with_value FormValue (form_value (first_of (codes "as") matches)) (λ form.
    Ok (record {
      wanted = wanted;
      form = form;
      padding = has_flag (codes "padding") matches;
      files = given_files matches;
    }))
request_for matches (Err refusal) = Err refusal

-- the request, or why there is none: options that do not go together come first
abbrev pub request_unless : List Row → Option Refusal → Result Request Refusal
request_unless matches (Some refusal) = Err refusal
request_unless matches None = request_for matches (wanted_of matches)

abbrev pub matched_request : List Row → Result Request Refusal
matched_request matches = request_unless matches (refused_together matches)

-- ---- the words of a command line

-- `clap` accepts the words, and the result is what the matches ask for, or why they ask for nothing
pub record AreAskedAs (words : List Text) (result : Result Request Refusal) : Type 0 where
  pub no_fault : fault_of show_app words ≡ []
  pub same_result : matched_request (matches_of show_app words) ≡ result

-- why nothing is asked for: a line for each cause
abbrev pub IsRequestFaultOf : List Text → RequestFault → Type 0
-- `clap` refuses the words, or they ask for help or for the version: the kind of the error says which
IsRequestFaultOf words (Parser error) = AreRefusedBy show_app words error
-- U2, U4: the text of an option is not a valid value, or options do not go together
IsRequestFaultOf words (Refused refusal) = AreAskedAs words (Err refusal)
-- U3: memory was refused, whatever the words are
IsRequestFaultOf words Memory = ⊤
