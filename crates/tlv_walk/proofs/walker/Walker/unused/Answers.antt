use Rattle.std.proofs.Common.{rules, ◌≡◌, ◌∙◌}
use Rattle.tlv_walk.specs.Walker.{unused_offset}
use Rattle.tlv_walk.proofs.WalkerLemmas.HasRead.{read_unused}
use Rattle.tlv_walk.proofs.walker.Walker.unused.Goals as goal

pub returns-clause-first : goal.returns-clause-first
returns-clause-first c = λ b f read.
    let value : c.offset_at.result ≡ unused_offset c.args.self.now = search rules in
    value ∙ read_unused c.args.self.now b f read

pub returns-clause-value : goal.returns-clause-value
returns-clause-value c = search rules
