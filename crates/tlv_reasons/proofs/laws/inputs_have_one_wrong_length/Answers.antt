use Rattle.std.proofs.Common.{◌∙◌, inl, inr, length, sym}
use Rattle.std.proofs.lemmas.Bool.{cases_lt}
use Rattle.tlv_reasons.proofs.LawLemmas.{wrong-one}
use Rattle.tlv_reasons.specs.WrongLength.{search_limit}
use Rattle.tlv_reasons.proofs.laws.inputs_have_one_wrong_length.Goals as goal

pub returns : goal.returns
returns c = λ framing bounds octets holders candidates a b x y. elim (cases_lt search_limit (length octets)) [
  | inl great ↦ x.unsearched great ∙ sym (y.unsearched great)
  | inr few ↦ wrong-one framing bounds octets holders (x.searched few) (y.searched few)
]
