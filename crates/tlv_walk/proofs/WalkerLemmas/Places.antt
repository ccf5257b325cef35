-- Where a walker's state is, by its frames.
use Rattle.std.proofs.Common.{◌≡◌, ℕ, ◌+◌, List, [], ◌∷◌, ◌++◌, length, Some, None, refl, ap, arith, length-append}
use Rattle.tlv_head.specs.declared.header.Size.{Size}
use Rattle.tlv_head.specs.declared.header.Size.TheVariants.{Definite, Indefinite}
use Rattle.tlv_walk.specs.declared.framing.Framing.{Framing}
use Rattle.tlv_walk.specs.Events.{EventValue}
use Rattle.tlv_walk.specs.Forest.{opening, spelling}
use Rattle.tlv_walk.specs.WalkerState.{WalkerState}
use Rattle.tlv_walk.specs.Private.Stack.{bound_in}
use Rattle.tlv_walk.specs.Stack.{bound_of}
use Rattle.tlv_walk.specs.Private.Zipper.{HasZipper, Layer, Zipper, frames_of, place_in, place_of, spelling_of_layers}
use Rattle.tlv_walk.specs.Private.Zipper.{spelling_of_tail}

-- elements begin after the octets of the layers
pub place-offset : (w : Framing) (ls : List Layer) → (place_in w ls).offset ≡ length (spelling_of_layers ls)
place-offset w [] = refl
place-offset w (l ∷ ls) =
    omega (
      arith,
      place-offset w ls,
      length-append (spelling_of_layers ls) (spelling l.before ++ opening l.header),
      length-append (spelling l.before) (opening l.header),
    )

-- with the bound of the innermost frame
pub place-bound : (w : Framing) (ls : List Layer) → (place_in w ls).bound ≡ bound_of (frames_of w ls)
place-bound w [] = refl
place-bound w (l ∷ ls) = refl

-- with the offsets that the user named
pub place-inside : (w : Framing) (ls : List Layer) → (place_in w ls).inside ≡ w.inside
place-inside w [] = refl
place-inside w (l ∷ ls) = place-inside w ls

-- in as many elements as there are frames
pub place-depth : (w : Framing) (ls : List Layer) → (place_in w ls).depth ≡ length (frames_of w ls)
place-depth w [] = refl
place-depth w (l ∷ ls) = omega (arith, place-depth w ls)

-- the walker has taken the octets up to the open end, and those of what is open
pub walker-offset : (w : WalkerState) (b : List ℕ) (yielded : List EventValue) (s : Zipper) → HasZipper w b yielded s
    → w.offset ≡ (place_of w.framing s).offset + length (spelling_of_tail s.tail)
walker-offset w b yielded s has =
    omega (
      arith,
      has.offset,
      ap length has.spelled,
      place-offset w.framing s.layers,
      length-append (spelling_of_layers s.layers) (spelling s.here ++ spelling_of_tail s.tail),
      length-append (spelling s.here) (spelling_of_tail s.tail),
    )

pub indefinite-size : (s : Size) (start : ℕ) → bound_in s start None ≡ None → s ≡ Indefinite
indefinite-size (Definite n) start e = absurd (cc)
indefinite-size Indefinite start e = refl

pub definite-size : (s : Size) (start end : ℕ) → bound_in s start None ≡ Some end
    → (n : ℕ) × (s ≡ Definite n) × (start + n ≡ end)
definite-size (Definite n) start end e = (n, refl, cc)
definite-size Indefinite start end e = absurd (cc)
