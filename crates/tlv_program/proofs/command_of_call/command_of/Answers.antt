use Rattle.std.proofs.Common.{◌≡◌, ◌∙◌, true, is_some, rules, ap, ap₂, sym}
use Rattle.clap.proofs.CallerLemmas.{subcommand_required}
use Rattle.clap.specs.Faults.{fault_of, is_simple_and_free}
use Rattle.clap.specs.Words.{App, is_simple, subcommand_of, subcommand_rows_of, takes}
use Rattle.tlv_program.proofs.CommandLemmas.{requires_subcommand, result_of_found, tlvdump_app-simple, simple_and_free}
use Rattle.tlv_program.proofs.CommandLemmas.{usage_fault_of}
use Rattle.tlv_program.proofs.command_of_call.command_of.Goals as goal

pub matched_command-requires : goal.matched_command-requires
matched_command-requires c =
    let parser = c.in-Ok.ensures in
    let matches = c.in-Ok-try_get_matches_from.matches in
    let parse = c.in-Ok-try_get_matches_from.ensures in
    let needs = ap (λ (a : App). a.top.subcommand_required) parser.same_app ∙ requires_subcommand in
    let has = subcommand_required c.in-Ok.parser matches parse.parsed parser.local needs in
    search (rules, has)

pub returns-in-Ok-try_get_matches_from : goal.returns-in-Ok-try_get_matches_from
returns-in-Ok-try_get_matches_from c =
    let words = c.args.words.now in
    let parser = c.in-Ok.ensures in
    let matches = c.in-Ok-try_get_matches_from.matches in
    let parse = c.in-Ok-try_get_matches_from.ensures in
    let needs = ap (λ (a : App). a.top.subcommand_required) parser.same_app ∙ requires_subcommand in
    let has = subcommand_required c.in-Ok.parser matches parse.parsed parser.local needs in
    let found : is_some (subcommand_rows_of matches) ≡ true = search (rules, has) in
    let same_found = ap₂ subcommand_of parser.same_app c.as_slice.ensures in
    let same_faults = ap₂ fault_of parser.same_app c.as_slice.ensures in
    let no_fault = sym same_faults ∙ parse.kinds (ap is_simple_and_free parser.same_app ∙ simple_and_free) in
    let same = (parse.matches (ap is_simple parser.same_app ∙ tlvdump_app-simple)).1 ∙ same_found in
    let both = result_of_found words _ c.matched_command.result no_fault same found c.matched_command.ensures in
    record { ok = both.0; err = both.1 }

pub returns-in-Err-clause-err : goal.returns-in-Err-clause-err
returns-in-Err-clause-err c =
    let words = c.args.words.now in
    let parser = c.in-Ok.ensures in
    let parse = c.in-Err.ensures in
    let same_faults = ap₂ fault_of parser.same_app c.as_slice.ensures in
    let same_takes = ap₂ takes parser.same_app c.as_slice.ensures in
    let kinds = parse.kinds (ap is_simple_and_free parser.same_app ∙ simple_and_free) in
    usage_fault_of words c.in-Err.error c.usage_fault.result
    (rw (← same_faults) kinds) (rw (← same_takes) parse.passes) c.usage_fault.ensures
