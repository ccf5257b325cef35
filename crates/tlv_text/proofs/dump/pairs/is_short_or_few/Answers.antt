use Rattle.std.proofs.Common.{◌∙◌, ap, nat_le, subst, sym, ◌≤◌, ℕ}
use Rattle.std.proofs.lemmas.Bool.{le-leb}
use Rattle.tlv_text.proofs.DumpPairLemmas.{few-counted, few-in_short}
use Rattle.tlv_text.proofs.dump.pairs.is_short_or_few.Goals as goal

pub returns-then-saturating_sub-octets : goal.returns-then-saturating_sub-octets
returns-then-saturating_sub-octets c =
    le-leb _ _ c.if-saturating_sub-octets.true
    ∙ sym (few-in_short c.args.octets c.after_blanks-others.result.now c.args.rest.now c.after_blanks-others.ensures
    (subst (λ (n : ℕ). n ≤ c.args.octets) c.saturating_sub.ensures c.if-saturating_sub-octets.true))

pub returns-else-saturating_sub-octets : goal.returns-else-saturating_sub-octets
returns-else-saturating_sub-octets c =
    ap (λ (n : ℕ). nat_le n c.args.octets) c.saturating_sub-else-saturating_sub-octets.ensures
    ∙ few-counted c.args.octets c.others_count.result c.after_blanks-others.result.now c.args.rest.now
    c.after_blanks-others.ensures c.others_count.ensures
