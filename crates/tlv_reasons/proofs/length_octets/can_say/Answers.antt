use Rattle.std.proofs.Common.{◌∙◌, sym}
use Rattle.std.proofs.lemmas.Bool.{lt-ltb}
use Rattle.tlv_reasons.proofs.LengthLemmas.{bound-fits, long-bound}
use Rattle.tlv_reasons.proofs.length_octets.can_say.Goals as goal

pub pow-requires : goal.pow-requires
pow-requires c = bound-fits c.args.count c.if-count-gt6.false

pub returns-then-count-gt6 : goal.returns-then-count-gt6
returns-then-count-gt6 c =
    lt-ltb 6 c.args.count c.if-count-gt6.true
    ∙ sym (long-bound c.args.count c.args.would c.if-count-gt6.true c.requires.below)
