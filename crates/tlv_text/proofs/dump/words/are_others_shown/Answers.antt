use Rattle.std.proofs.Common.{◌≡◌, ◌∙◌, List, ℕ, ap, refl}
use Rattle.tlv_text.proofs.DumpWordLemmas.{room-decoded}
use Rattle.tlv_text.specs.DumpWords.{are_other_octets}
use Rattle.tlv_text.specs.Private.PairSteps.{pair_octets}
use Rattle.tlv_text.proofs.dump.words.are_others_shown.Goals as goal

pub returns : goal.returns
returns c =
    let digits : List ℕ = c.args.digits.now in
    let out : c.decode_to_slice.new.out ≡ pair_octets digits =
    (rw (room-decoded digits _ c.requires.pairs c.requires.few refl) at c.decode_to_slice.ensures.value).1 in
    c.are_other_octets.ensures ∙ ap (λ (octets : List ℕ). are_other_octets octets c.args.text.now) out
