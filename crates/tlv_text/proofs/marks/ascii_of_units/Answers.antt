use Rattle.std.proofs.Common.{◌≡◌, ◌++◌, ◌∷◌, ◌∙◌, [], rules, sym}
use Rattle.tlv_text.proofs.MarkLemmas.{unit-more}
use Rattle.tlv_text.proofs.marks.ascii_of_units.Goals as goal

pub loop-rest-preserved : goal.loop-rest-preserved
loop-rest-preserved c =
    let pushed : c.push.new.self.items ≡ c.loop-rest.text.items ++ c.in-Some.character ∷ [] = search rules in
    rw pushed
    (unit-more _ c.args.low_first c.loop-rest.rest.now c.loop-rest.text.items c.in-Some.character (search rules)
    (sym c.in-Some.is ∙ c.ascii_of_pair.ensures) c.loop-rest.invariant)
