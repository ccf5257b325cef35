use Rattle.std.proofs.Common.{◌≡◌, true, false, sym, ◌∙◌}
use Rattle.tlv_open.specs.Breaks.{extension, sequence, set}
use Rattle.tlv_open.proofs.breaking.suspicion.Goals as goal

pub returns-then-begin_as : goal.returns-then-begin_as
returns-then-begin_as c = sequence (c.begin_as.ensures.0 c.if-begin_as.true)

pub returns-then-begin_as-2 : goal.returns-then-begin_as-2
returns-then-begin_as-2 c = set (c.begin_as-2.ensures.0 c.if-begin_as-2.true)

pub returns-then-is_value : goal.returns-then-is_value
returns-then-is_value c =
    extension c.if-is_value.true
    (λ b. let t : true ≡ false = sym (c.begin_as.ensures.1 b) ∙ c.if-begin_as.false in absurd (cc (t)))
    (λ b. let t : true ≡ false = sym (c.begin_as-2.ensures.1 b) ∙ c.if-begin_as-2.false in absurd (cc (t)))
