use Rattle.std.proofs.Common.{sym}
use Rattle.std.specs.FinMap as finite
use Rattle.tlv_examples.proofs.no_names.NoNamesNameTable.get.Goals as goal

pub returns : goal.returns
returns c = sym (finite.get-empty _ c.args._dotted.now)
