use Rattle.std.proofs.Common.{rules}
use Rattle.std.proofs.lemmas.Result.{IfOk-weaker}
use Rattle.tlv_text.specs.Separated.{IsNotSeparated}
use Rattle.tlv_text.proofs.PairReadLemmas.{joined-lone}
use Rattle.tlv_text.proofs.pairs.lone_octets.Goals as goal

pub returns-in-None : goal.returns-in-None
returns-in-None c =
    let none : IsNotSeparated c.args.text.now = search rules in
    IfOk-weaker c.joined_octets.result _ _ (λ octets. joined-lone (λ o. o.items) c.args.text.now octets none)
    c.joined_octets.ensures
