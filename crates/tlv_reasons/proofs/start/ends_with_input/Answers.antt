use Rattle.std.proofs.Common.{◌∙◌, List, ap, drop, ℕ}
use Rattle.std.proofs.lemmas.List.{take_rest}
use Rattle.tlv_reasons.proofs.LengthLemmas.{begins-there}
use Rattle.tlv_reasons.proofs.StartLemmas.{alone-same}
use Rattle.tlv_reasons.proofs.start.ends_with_input.Goals as goal

pub returns-in-Some : goal.returns-in-Some
returns-in-Some c =
    alone-same c.args.octets.now c.args.offset c.in-Some.count c.in-Some.fields
    (begins-there c.args.octets.now c.args.offset c.in-Some.count c.in-Some.fields c.in-Some.ensures) c.ends_with.result _
    (take_rest _ c.in-Some.count ∙ ap (λ (o : List ℕ). drop c.in-Some.count o) (take_rest c.args.octets.now c.args.offset))
    c.ends_with.ensures
