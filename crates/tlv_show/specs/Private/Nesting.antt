-- The frames that are kept of the open elements, and all frames that they represent.
use Rattle.std.specs.Prelude.{ℕ, zero, suc, ◌≡◌, ◌-◌, ◌<◌, ◌||◌, ⊤, if◌then◌else◌, false, List, [], ◌∷◌}
use Rattle.std.specs.Prelude.{Option, Some, None}
use Rattle.tlv_show.specs.declared.holder_frame.HolderFrame.{HolderFrame}
use Rattle.tlv_show.specs.declared.holder_frame.KeptFrame.{KeptFrame}
use Rattle.tlv_show.specs.NestingState.{NestingState, frame_after, top_frame, with_element}

-- ---- What is left of an element that ends

-- its frame, if it held segments or lacks components
abbrev pub frame_if_judged : HolderFrame → Option HolderFrame
frame_if_judged w = if w.has_segments || w.lacks_components then Some w else None

abbrev pub closed_frame_inside : HolderFrame → List HolderFrame → Option HolderFrame
closed_frame_inside closed [] = None
closed_frame_inside closed (w ∷ outer) = frame_if_judged closed

abbrev pub closed_frame : NestingState → Option HolderFrame
closed_frame s = closed_frame_inside s.frame s.outer

-- ---- What is noted of an element that begins

-- in the innermost element
abbrev pub nesting_with_element : NestingState → NestingState
nesting_with_element n = record n { frame = with_element n.frame }

-- ---- The frames that are kept

-- if this number of elements without a frame are open inside `w`, each of them has the frame of the top
abbrev pub innermost_frame : HolderFrame → ℕ → HolderFrame
innermost_frame w zero = w
innermost_frame w (suc without_frame) = top_frame

abbrev pub frames_with : HolderFrame → ℕ → List HolderFrame → List HolderFrame
frames_with w zero outer = w ∷ outer
frames_with w (suc without_frame) outer = top_frame ∷ frames_with w without_frame outer

abbrev pub outer_frames : HolderFrame → ℕ → List HolderFrame → List HolderFrame
outer_frames w zero outer = outer
outer_frames w (suc without_frame) outer = frames_with w without_frame outer

-- the frames outside of an element that has a frame, from its floor. The element is inside `floor - 1` others;
-- outside of it, from the floor of `k` on, elements without a frame are open
abbrev pub all_frames : ℕ → List KeptFrame → List HolderFrame
all_frames floor [] = []
all_frames floor (k ∷ outer) = frames_with k.frame (floor - 1 - k.floor) (all_frames k.floor outer)

-- if elements without a frame are open inside `w`, it says of itself what the frame of the top says: it is no string,
-- and has and lacks no components
abbrev pub SaysTheSame : HolderFrame → ℕ → Type 0
SaysTheSame w without_frame =
    ((innermost_frame w without_frame).has_segments ≡ w.has_segments)
    × ((innermost_frame w without_frame).lacks_components ≡ w.lacks_components)
    × ((innermost_frame w without_frame).has_components ≡ w.has_components)

-- each floor is above the floor outside of it, and the floor of the top is 0
abbrev pub HaveRisingFloors : ℕ → List KeptFrame → Type 0
HaveRisingFloors floor [] = floor ≡ 0
HaveRisingFloors floor (k ∷ outer) =
    (k.floor < floor) × SaysTheSame k.frame (floor - 1 - k.floor) × HaveRisingFloors k.floor outer

-- what is kept after the end of the element inside the innermost of these
pub record IsTakenBack (closed : HolderFrame) (k : KeptFrame) (outer : List KeptFrame)
    (w : HolderFrame) (floor : ℕ) (rest : List KeptFrame) : Type 0 where
  pub frame : w ≡ frame_after k.frame closed.is_primitive closed.announced_length false
  pub same_floor : floor ≡ k.floor
  pub rest_is : rest ≡ outer

abbrev pub TakesBack : HolderFrame → List KeptFrame → HolderFrame → ℕ → List KeptFrame → Type 0
TakesBack closed [] w floor rest = ⊤
TakesBack closed (k ∷ outer) w floor rest = IsTakenBack closed k outer w floor rest
