-- What the functions of a stack return, and the frame of an element, given its header.
use Rattle.std.specs.Prelude.{◌≡◌, ℕ, ◌+◌, ◌-◌, Bool, not, List, [], ◌∷◌, Option, Some, None}
use Rattle.std.specs.Option.{option_map_or, option_or}
use Rattle.tlv_head.specs.declared.header.Size.{Size}
use Rattle.tlv_head.specs.Header.{definite_length}
use Rattle.tlv_walk.specs.Stack.{FrameValue, bound_of}

-- whether the innermost element is a wrapper, if there is one
abbrev pub innermost_wraps : List FrameValue → Option Bool
innermost_wraps [] = None
innermost_wraps (f ∷ fs) = Some f.wrapper

-- the innermost element is definite, and its contents end at the offset
abbrev pub IsFilled : List FrameValue → ℕ → Type 0
IsFilled [] offset = ⊥
IsFilled (f ∷ fs) offset = f.end ≡ Some offset

-- the frame of an element that ends there, or is indefinite, inside the open elements
abbrev pub frame_inside : List FrameValue → Option ℕ → Bool → FrameValue
frame_inside stack end wrapper = record { end = end; bound = option_or end (bound_of stack); wrapper = wrapper }

-- the number of octets from an offset to a bound
abbrev pub room_to : Option ℕ → ℕ → Option ℕ
room_to None offset = None
room_to (Some b) offset = Some (b - offset)

-- the number of octets from an offset to the end of the innermost definite element
abbrev pub room_in : List FrameValue → ℕ → Option ℕ
room_in stack offset = room_to (bound_of stack) offset

-- the end of contents that begin at the offset `start`, if their length is definite; otherwise the bound outside
abbrev pub bound_in : Size → ℕ → Option ℕ → Option ℕ
bound_in size start outside = option_map_or (λ n. Some (start + n)) (definite_length size) outside

-- the frame of an element whose contents begin at the offset
abbrev pub frame_with : ℕ → Option ℕ → Size → Bool → FrameValue
frame_with start outer size constructed =
    record { end = bound_in size start None; bound = bound_in size start outer; wrapper = not constructed }
