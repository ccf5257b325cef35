use Rattle.std.proofs.Common.{rules}
use Rattle.tlv_text.proofs.DumpSignLemmas.{octal-at_end, read-at_end}
use Rattle.tlv_text.proofs.dump.ahead.from_first_row.Goals as goal

pub returns-then-not-has_row_sign-clause-read : goal.returns-then-not-has_row_sign-clause-read
returns-then-not-has_row_sign-clause-read c =
    read-at_end c.args.text.now (search rules)

pub returns-then-not-has_row_sign-clause-octal : goal.returns-then-not-has_row_sign-clause-octal
returns-then-not-has_row_sign-clause-octal c =
    octal-at_end c.args.text.now (search rules)
