use Rattle.std.proofs.Common.{◌∙◌, rules}
use Rattle.tlv_walk.proofs.WalkerLemmas.HasRead.{read_offset}
use Rattle.tlv_walk.proofs.walker.Walker.offset.Goals as goal

pub returns-clause-value : goal.returns-clause-value
returns-clause-value c = search rules

pub returns-clause-taken : goal.returns-clause-taken
returns-clause-taken c = λ b f read. (search rules) ∙ read_offset c.args.self.now b f read
