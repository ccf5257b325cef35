use Rattle.std.proofs.Common.{◌≡◌, ◌∙◌, sym, false, true, subst}
use Rattle.std.proofs.lemmas.List.{take_rest}
use Rattle.tlv_reasons.specs.NextStart.{BeginsWithEncodings}
use Rattle.tlv_reasons.proofs.StartLemmas.{seems-by, seems-from}
use Rattle.tlv_reasons.proofs.start.seems_right.Goals as goal

pub returns-then-fields : goal.returns-then-fields
returns-then-fields c = (
  (λ t. seems-from c.args.octets.now _ c.in-Some.fields c.in-Some.count c.in-Some.ensures
      (take_rest c.args.octets.now c.in-Some.count) (
        c.if-fields.true,
        subst (λ o. BeginsWithEncodings o) c.contents_among.ensures.contents (c.begins_with_encodings.ensures.0 t),
      )),
  (λ s. c.begins_with_encodings.ensures.1
      (subst (λ o. BeginsWithEncodings o) (sym c.contents_among.ensures.contents)
      (seems-by c.args.octets.now _ c.in-Some.fields c.in-Some.count c.in-Some.ensures
      (take_rest c.args.octets.now c.in-Some.count) s).1)),
)

pub returns-else-fields : goal.returns-else-fields
returns-else-fields c = (
  (λ t. let e : true ≡ false = sym t ∙ c.if-fields.false in absurd (cc)),
  (λ s. (seems-by c.args.octets.now _ c.in-Some.fields c.in-Some.count c.in-Some.ensures
      (take_rest c.args.octets.now c.in-Some.count) s).0),
)
