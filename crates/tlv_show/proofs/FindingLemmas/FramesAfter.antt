-- The frame after an element more, in a string and outside of strings.
use Rattle.std.proofs.Common.{◌≡◌, ℕ, Bool, true, false, if◌then◌else◌, ap}
use Rattle.tlv_show.specs.declared.holder_frame.HolderFrame.{HolderFrame}
use Rattle.tlv_show.specs.NestingState.{frame_after, frame_after_segment}

pub in-string : (w : HolderFrame) (primitive : Bool) (size : ℕ) (unused_bits : Bool) → w.has_segments ≡ true
    → frame_after w primitive size unused_bits ≡ frame_after_segment w primitive size unused_bits
in-string w primitive size unused_bits e =
    ap (λ (k : Bool). if k then frame_after_segment w primitive size unused_bits else w) e

pub outside : (w : HolderFrame) (primitive : Bool) (size : ℕ) (unused_bits : Bool) → w.has_segments ≡ false
    → frame_after w primitive size unused_bits ≡ w
outside w primitive size unused_bits e =
    ap (λ (k : Bool). if k then frame_after_segment w primitive size unused_bits else w) e
