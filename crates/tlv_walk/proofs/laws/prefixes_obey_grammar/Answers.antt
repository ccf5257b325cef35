use Rattle.std.proofs.Common.{sym}
use Rattle.tlv_walk.specs.Forest.{Forest}
use Rattle.tlv_walk.proofs.GrammarLemmas.PushSteps.{Spells}
use Rattle.tlv_walk.proofs.GrammarLemmas.Readings.{prefix-obeys_grammar}
use Rattle.tlv_walk.proofs.laws.prefixes_obey_grammar.Goals as goal

pub returns : goal.returns
returns c = λ p f s w front.
    let g : (g : Forest) × Spells p s g = prefix-obeys_grammar p f s front.0 w (sym front.1) in
    (g.0, g.1.obeys_grammar, g.1.spelled)
