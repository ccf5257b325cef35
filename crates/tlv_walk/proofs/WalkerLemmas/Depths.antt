-- A walker has a frame for each open element that holds others, if no event is waiting.
use Rattle.std.proofs.Common.{◌≡◌, ℕ, ◌+◌, true, List, [], ◌∷◌, suc, length, refl, sym, ap, ◌∙◌, arith}
use Rattle.std.proofs.lemmas.Bool.{true≢false}
use Rattle.tlv_walk.specs.Stack.{FrameValue}
use Rattle.tlv_walk.specs.declared.framing.Framing.{Framing}
use Rattle.tlv_walk.specs.Events.{EventValue}
use Rattle.tlv_walk.specs.Forest.{Forest, NoMore, PaddingOctet, Primitive, Holder, OpenPrimitive, OpenHolder}
use Rattle.tlv_walk.specs.Forest.{OpenBitString, OpenHeader, OpenEndOctets, is_whole}
use Rattle.tlv_walk.specs.WalkerState.{WalkerState}
use Rattle.tlv_walk.specs.Walker.{depth_of}
use Rattle.tlv_walk.proofs.WalkerLemmas.Waiting.{EventWaits}
use Rattle.tlv_walk.specs.Place.{Place}
use Rattle.tlv_walk.specs.Private.Zipper.{AreLayers, BitStringTail, NoTail, HasZipper, PrimitiveTail, EndOctetsTail}
use Rattle.tlv_walk.specs.Private.Zipper.{HeaderTail, Layer, Tail, Zipper, frames_of, place_of, stack_of}
use Rattle.tlv_walk.proofs.WalkerLemmas.ZipperEndings.{tail_forest, state-within}
use Rattle.tlv_walk.proofs.WalkerLemmas.Zipper.{followed_by, reading_of, forest_in_layers}

-- after whole elements as many are open as of the others
pub count-after : (f g : Forest) → is_whole f ≡ true → depth_of (followed_by f g) ≡ depth_of g
count-after NoMore g e = refl
count-after (PaddingOctet rest) g e = count-after rest g e
count-after (Primitive h c rest) g e = count-after rest g e
count-after (Holder h inside rest) g e = count-after rest g e
count-after (OpenPrimitive h c) g e = absurd (true≢false (sym e))
count-after (OpenHolder h inside) g e = absurd (true≢false (sym e))
count-after (OpenBitString h) g e = absurd (true≢false (sym e))
count-after (OpenHeader octets) g e = absurd (true≢false (sym e))
count-after OpenEndOctets g e = absurd (true≢false (sym e))

-- each layer is open
pub count-within : (w : Framing) (ls : List Layer) (f : Forest) → AreLayers w ls
    → depth_of (forest_in_layers ls f) ≡ length ls + depth_of f
count-within w [] f a = omega arith
count-within w (l ∷ ls) f a =
    omega (
      arith,
      count-within w ls (followed_by l.before (OpenHolder l.header f)) a.0,
      count-after l.before (OpenHolder l.header f) a.1.whole,
    )

-- each layer has a frame
length-frames : (w : Framing) (ls : List Layer) → length (frames_of w ls) ≡ length ls
length-frames w [] = refl
length-frames w (l ∷ ls) = ap suc (length-frames w ls)

-- and so has a wrapping BIT STRING before its first contents octet
length-stack : (w : Framing) (ls : List Layer) (p : Place) (t : Tail)
    → length (stack_of w ls p t) ≡ length ls + depth_of (tail_forest t)
length-stack w ls p NoTail = omega (arith, length-frames w ls)
length-stack w ls p (PrimitiveTail h c) = omega (arith, length-frames w ls)
length-stack w ls p (BitStringTail h) = omega (arith, length-frames w ls)
length-stack w ls p (HeaderTail octets) = omega (arith, length-frames w ls)
length-stack w ls p EndOctetsTail = omega (arith, length-frames w ls)

-- the frames of a walker are as many as the open elements of its reading that hold others
pub state-depth : (w : WalkerState) (b : List ℕ) (yielded : List EventValue) (s : Zipper) → HasZipper w b yielded s
    → (EventWaits w → ⊥) → length w.stack ≡ depth_of (reading_of s)
state-depth w b yielded s h n =
    ap (λ (stack : List FrameValue). length stack) h.stack
    ∙ length-stack w.framing s.layers (place_of w.framing s) s.tail
    ∙ sym (ap depth_of (state-within w b yielded s h n)
    ∙ count-within w.framing s.layers (followed_by s.here (tail_forest s.tail)) h.layers
    ∙ ap (λ (k : ℕ). length s.layers + k) (count-after s.here (tail_forest s.tail) h.here.whole))
