-- Where to look next, after an outermost element.
use Rattle.std.specs.Prelude.{ℕ, ◌<◌, ◌↔◌, Bool, List}
use Rattle.tlv_reasons.specs.declared.outermost.Following.{Following}
use Rattle.tlv_reasons.specs.declared.outermost.Following.TheVariants.{At, Unknown, Nowhere}
use Rattle.tlv_reasons.specs.OutermostSizes.{SizesAgree}

-- the outermost elements agree with the input from this offset on: if they do from another offset on, whatever follows,
-- or not at all
abbrev pub IsFollowing : Bool → List ℕ → ℕ → Following → Type 0
IsFollowing padding octets offset (At n) = (offset < n) × (SizesAgree padding octets offset ↔ SizesAgree padding octets n)
IsFollowing padding octets offset Unknown = SizesAgree padding octets offset
IsFollowing padding octets offset Nowhere = SizesAgree padding octets offset → ⊥
