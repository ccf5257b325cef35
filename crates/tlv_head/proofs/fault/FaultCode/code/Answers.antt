use Rattle.std.proofs.Common.{rules}
use Rattle.tlv_head.proofs.fault.FaultCode.code.Goals as goal

pub returns-in-TooDeep-clause-code : goal.returns-in-TooDeep-clause-code
returns-in-TooDeep-clause-code c = search rules
