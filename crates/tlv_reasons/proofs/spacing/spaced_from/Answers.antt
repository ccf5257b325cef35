use Rattle.std.proofs.Common.{◌≡◌, ◌∙◌, ap, arith, false, refl, sym, true}
use Rattle.tlv_reasons.specs.Spacing.{are_alike}
use Rattle.tlv_reasons.proofs.SpacingLemmas.{first-whole, none-behind, stated-one, two-spaced}
use Rattle.tlv_reasons.proofs.spacing.spaced_from.Goals as goal

pub returns-in_default : goal.returns-in_default
returns-in_default c = λ s k. c.in_default.ensures.end s.end k.end_is.stated

pub returns-in_default-stated_end : goal.returns-in_default-stated_end
returns-in_default-stated_end c = λ s k.
    none-behind c.args.gap c.args.octets.now c.args.first c.in-Some.end s.count c.in-Some.ensures.end
    c.in_default-stated_end.ensures.end k.many k.are_spaced

pub returns-then-are_alike : goal.returns-then-are_alike
returns-then-are_alike c = λ s k.
    let same : s.end ≡ c.in-Some.end =
    stated-one c.args.octets.now c.args.first s.end c.in-Some.end k.end_is.stated c.in-Some.ensures.end in
    let t : true ≡ false =
    sym (sym c.are_alike.ensures ∙ c.if-are_alike.true) ∙ sym (ap (λ e. are_alike c.args.octets.now c.args.first e) same)
    ∙ k.apart in
    cc

pub returns : goal.returns
returns c = record {
  first_is = refl;
  gap_is = refl;
  end_is = first-whole c.args.gap c.args.octets.now c.args.first c.in-Some.end c.in-Some-spaced_count.count
      c.in-Some.ensures.end c.in-Some-spaced_count.ensures;
  apart = sym c.are_alike.ensures ∙ c.if-are_alike.false;
  are_spaced = c.in-Some-spaced_count.ensures;
  many = two-spaced c.args.gap c.args.octets.now c.args.first c.in-Some.end c.in-Some-spaced_count.count
      c.in-Some.ensures.end (omega (arith, c.in-Some-stated_end.ensures.within)) c.in-Some-spaced_count.ensures;
}
