-- What `clap` says of the words of `tlvdump-show`.
use Rattle.std.proofs.Common.{◌≡◌, ◌∙◌, true, List, [], IfOk, IfErr, Result, Ok, Err, refl, sym, ap}
use Rattle.clap.specs.Faults.{fault_of, is_simple_and_free}
use Rattle.clap.specs.Kinds.{HasKind}
use Rattle.clap.specs.Words.{Row, Text, is_simple, kind_of, matches_of, takes}
use Rattle.clap.specs.declared.error.Error.{Error}
use Rattle.clap.specs.declared.error.kind.ErrorKind.TheVariants.{OutOfMemory}
use Rattle.clap.proofs.OnLiterals.{clap_on_literals}
use Rattle.tlv_program.proofs.CommandLemmas.{refused_by}
use Rattle.tlv_view_program.specs.Private.RequestOf.{IsParserFault, ReturnsAsked}
use Rattle.tlv_view_program.specs.RequestOf.{AreAskedAs, IsRequestFaultOf, matched_request}
use Rattle.tlv_view_program.specs.ShowCommandLine.{show_app}
use Rattle.tlv_view_program.specs.declared.refusal.Refusal.{Refusal}
use Rattle.tlv_view_program.specs.declared.refusal.RequestFault.{RequestFault}
use Rattle.tlv_view_program.specs.declared.refusal.RequestFault.TheVariants.{Memory, Parser, Refused}
use Rattle.tlv_view_program.specs.declared.request.Request.{Request}

pub show_app-simple : is_simple show_app ≡ true
unfolding clap_on_literals show_app
show_app-simple = refl

pub show_app-free : is_simple_and_free show_app ≡ true
unfolding clap_on_literals show_app
show_app-free = refl

-- ---- words that `clap` takes

-- the words are read as what their matches ask for
asked_as : (words : List Text) (rows : List Row) (asked : Result Request Refusal) → fault_of show_app words ≡ []
    → rows ≡ matches_of show_app words → matched_request rows ≡ asked → AreAskedAs words asked
asked_as words rows asked sound same gives =
    record { no_fault = sound; same_result = ap matched_request (sym same) ∙ gives }

-- the result for the matches is that for the words
pub result_of_matches : (words : List Text) (rows : List Row) (r : Result Request RequestFault)
    → fault_of show_app words ≡ [] → rows ≡ matches_of show_app words → ReturnsAsked (matched_request rows) r
    → IfOk r (λ request. AreAskedAs words (Ok request)) × IfErr r (IsRequestFaultOf words)
result_of_matches words rows (Ok request) sound same gives = (asked_as words rows (Ok request) sound same gives, tt)
result_of_matches words rows (Err (Parser error)) sound same gives = absurd gives
result_of_matches words rows (Err (Refused refusal)) sound same gives =
    (tt, asked_as words rows (Err refusal) sound same gives)
result_of_matches words rows (Err Memory) sound same gives = (tt, tt)

-- ---- words that `clap` refuses

-- the fault for the error of `clap` is that of the words
pub request_fault_of : (words : List Text) (error : Error) (fault : RequestFault)
    → HasKind (fault_of show_app words) error → (takes show_app words ≡ true → kind_of error ≡ OutOfMemory)
    → IsParserFault error fault → IsRequestFaultOf words fault
request_fault_of words error (Parser same) has passes is = rw is.0 (refused_by show_app words error has passes is.1)
request_fault_of words error (Refused refusal) has passes is = absurd is
request_fault_of words error Memory has passes is = tt
