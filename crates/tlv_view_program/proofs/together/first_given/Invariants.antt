use Rattle.std.proofs.Common.{◌≡◌, drop, find}
use Rattle.tlv_program.specs.Matches.{matched_rows}
use Rattle.tlv_view_program.specs.OptionsTogether.{is_option_given}
use Rattle.tlv_view_program.proofs.together.first_given.Given as goal

abbrev pub invariant-loop-option : goal.invariant-loop-option
invariant-loop-option l =
    find (λ option. is_option_given option (matched_rows l.matches)) l.options
    ≡ find (λ option. is_option_given option (matched_rows l.matches)) (drop l.option-index l.options)
