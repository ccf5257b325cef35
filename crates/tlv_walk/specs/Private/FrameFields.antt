-- The meaning of the fields of a `Stack` and of its frames.
use Rattle.std.specs.Prelude.{◌≡◌, ◌≢◌, ℕ, ◌-◌, ◌^◌, Bool, true, false, eqb, if◌then◌else◌, List, [], ◌∷◌}
use Rattle.std.specs.Prelude.{Option, Some, None}
use Rattle.tlv_walk.specs.Stack.{FrameValue}
use Rattle.tlv_walk.specs.declared.stack.Frame.{Frame}
use Rattle.tlv_walk.specs.declared.stack.FrameKind.{FrameKind}
use Rattle.tlv_walk.specs.declared.stack.FrameKind.TheVariants.{Input, Definite, Indefinite, Wrapper}

-- the largest u64, which stands for no bound
abbrev pub no_bound_mark : ℕ
no_bound_mark = 2 ^ 64 - 1

-- the bound, if any
abbrev pub bound_from : ℕ → Option ℕ
bound_from n = if eqb n no_bound_mark then None else Some n

-- where the contents end, if the length is definite: such an element is itself the innermost definite one
abbrev pub end_from : FrameKind → ℕ → Option ℕ
end_from Input n = None
end_from Definite n = bound_from n
end_from Indefinite n = None
end_from Wrapper n = bound_from n

-- whether it is a wrapper
abbrev pub wraps_from : FrameKind → Bool
wraps_from Input = false
wraps_from Definite = false
wraps_from Indefinite = false
wraps_from Wrapper = true

-- what the fields of a frame say about its element
abbrev pub frame_from : Frame → FrameValue
frame_from f = record { end = end_from f.kind f.bound; bound = bound_from f.bound; wrapper = wraps_from f.kind }

-- the open elements, innermost first, given the innermost frame and the frames around it: all frames but the last,
-- which is the input
abbrev pub frames_from : Frame → List Frame → List FrameValue
frames_from innermost [] = []
frames_from innermost (f ∷ fs) = frame_from innermost ∷ frames_from f fs

-- the frame of the input, which has no bound
abbrev pub IsInput : Frame → Type 0
IsInput f = (f.kind ≡ Input) × (f.bound ≡ no_bound_mark)

-- an element, whose end is known if its length is definite
abbrev pub HasEnd : FrameKind → ℕ → Type 0
HasEnd Input n = ⊥
HasEnd Definite n = n ≢ no_bound_mark
HasEnd Indefinite n = Unit {0}
HasEnd Wrapper n = n ≢ no_bound_mark

-- the last frame is the input, and all others are elements
abbrev pub AreHolders : Frame → List Frame → Type 0
AreHolders innermost [] = IsInput innermost
AreHolders innermost (f ∷ fs) = HasEnd innermost.kind innermost.bound × AreHolders f fs
