use Rattle.std.proofs.Common.{◌≡◌, ◌<◌, ℕ, true}
use Rattle.std.specs.Prelude.{slice_index}
use Rattle.tlv_value.specs.Private.UnescapedCharacters.{is_unescaped}
use Rattle.tlv_value.proofs.units.unescaped_size.Given as goal

abbrev pub invariant-loop-i : goal.invariant-loop-i
invariant-loop-i l = (k : ℕ) → k < l.i → is_unescaped (slice_index l.octets k) ≡ true
