use Rattle.std.proofs.Common.{◌∙◌, ap, ap₂, sym}
use Rattle.clap.specs.Faults.{fault_of, is_simple_and_free}
use Rattle.clap.specs.Words.{is_simple, matches_of, takes}
use Rattle.tlv_view_program.proofs.RequestLemmas.{request_fault_of, result_of_matches, show_app-free, show_app-simple}
use Rattle.tlv_view_program.proofs.request_of_call.request_of.Goals as goal

pub returns-in-Ok-try_get_matches_from : goal.returns-in-Ok-try_get_matches_from
returns-in-Ok-try_get_matches_from c =
    let words = c.args.words.now in
    let parser = c.in-Ok.ensures in
    let parse = c.in-Ok-try_get_matches_from.ensures in
    let same_faults = ap₂ fault_of parser.same_app c.as_slice.ensures in
    let no_fault = sym same_faults ∙ parse.kinds (ap is_simple_and_free parser.same_app ∙ show_app-free) in
    let same = (parse.matches (ap is_simple parser.same_app ∙ show_app-simple)).0
    ∙ ap₂ matches_of parser.same_app c.as_slice.ensures in
    let both = result_of_matches words _ c.matched_request.result no_fault same c.matched_request.ensures in
    record { ok = both.0; err = both.1 }

pub returns-in-Err-clause-err : goal.returns-in-Err-clause-err
returns-in-Err-clause-err c =
    let words = c.args.words.now in
    let parser = c.in-Ok.ensures in
    let parse = c.in-Err.ensures in
    let same_faults = ap₂ fault_of parser.same_app c.as_slice.ensures in
    let same_takes = ap₂ takes parser.same_app c.as_slice.ensures in
    let kinds = parse.kinds (ap is_simple_and_free parser.same_app ∙ show_app-free) in
    request_fault_of words c.in-Err.error c.parser_fault.result
    (rw (← same_faults) kinds) (rw (← same_takes) parse.passes) c.parser_fault.ensures
