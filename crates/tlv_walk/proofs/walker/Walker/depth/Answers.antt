use Rattle.std.proofs.Common.{◌∙◌, rules}
use Rattle.tlv_walk.proofs.WalkerLemmas.HasRead.{read_depth}
use Rattle.tlv_walk.proofs.walker.Walker.depth.Goals as goal

pub returns-clause-open_elements : goal.returns-clause-open_elements
returns-clause-open_elements c = λ none b f read. (search rules) ∙ read_depth c.args.self.now b f read none

pub returns-clause-value : goal.returns-clause-value
returns-clause-value c = search rules
