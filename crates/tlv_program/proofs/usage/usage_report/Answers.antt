use Rattle.std.proofs.Common.{rules}
use Rattle.std.proofs.lemmas.List.{take_min}
use Rattle.tlv_program.proofs.usage.usage_report.Goals as goal

pub returns-in-Value : goal.returns-in-Value
returns-in-Value c =
    let prefix = take_min 64 c.in-Value.option.now in rw c.in-Value.is (search rules)

pub returns-after-use_stderr : goal.returns-after-use_stderr
returns-after-use_stderr c = search rules
