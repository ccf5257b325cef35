use Rattle.std.proofs.Common.{◌≡◌, length}
use Rattle.tlv_text.specs.Plain.{is_plain_text}
use Rattle.tlv_text.specs.declared.base64_text.Alphabet.TheVariants.{Standard}
use Rattle.tlv_text.proofs.TextLemmas.{IsReadSoFar}
use Rattle.tlv_text.proofs.plain.plain_octets.Given as goal

abbrev pub invariant-loop-rest : goal.invariant-loop-rest
invariant-loop-rest l = record {
  read : IsReadSoFar Standard l.text l.octets.items l.rest;
  plain : is_plain_text Standard l.rest ≡ is_plain_text Standard l.text;
}

abbrev pub decreases-loop-rest : goal.decreases-loop-rest
decreases-loop-rest l = length l.rest
