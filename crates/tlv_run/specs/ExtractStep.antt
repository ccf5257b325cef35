-- The effect of events on an `Extract`.
use Rattle.std.specs.Prelude.{ℕ, ◌+◌, ◌==◌, min, suc, zero, Bool, true, false, if◌then◌else◌}
use Rattle.std.specs.Prelude.{List, [], ◌∷◌, Some, None}
use Rattle.tlv_head.specs.Header.{HeaderValue, octets_of}
use Rattle.tlv_walk.specs.declared.follow.Go.{Go}
use Rattle.tlv_walk.specs.declared.follow.Go.TheVariants.{On, Enough}
use Rattle.tlv_walk.specs.Events.{Begin, Bytes, Close, End, Enter, EventValue, Leave, Open, Pad, Unused}
use Rattle.tlv_walk.specs.Follow.{Effect, each_octet, effect_with, no_effect}
use Rattle.tlv_run.specs.declared.extract_follower.Position.{Position}
use Rattle.tlv_run.specs.declared.extract_follower.Position.TheVariants.{Before, Within, After}

-- what contracts see of an `Extract`
pub record ExtractState : Type 0 where
  -- the offset of the wanted element
  pub offset : ℕ
  -- only its contents are wanted
  pub contents_only : Bool
  -- where the walk is, relative to the wanted element
  pub position : Position

-- an `Extract` that has followed no event
abbrev pub new_extract : ℕ → Bool → ExtractState
new_extract offset contents_only =
    record { offset = offset; contents_only = contents_only; position = Before }

-- the header of the wanted element is complete
abbrev pub has_found : ExtractState → Bool
has_found s = by_position s.position
  where
    by_position : Position → Bool
    by_position Before = false
    by_position (Within count) = true
    by_position After = true

-- the octets that are put, out of octets around the contents of the wanted element: none if only its contents are
-- wanted
abbrev pub outer_octets : Bool → List ℕ → List ℕ
outer_octets contents_only octets = if contents_only then [] else octets

-- the effect that puts these octets and moves the walk to this position
abbrev pub extract_step_to : ExtractState → Position → List ℕ → Go → Effect ExtractState
extract_step_to s position octets goes =
    record { state = record s { position = position }; put = octets; goes = goes }

-- an element begins at this offset, with these octets for its header: the wanted element, one that it holds, or
-- another. The count of open elements inside the wanted one stops at 255
abbrev pub extract_begin_step_at : ExtractState → ℕ → List ℕ → Effect ExtractState
extract_begin_step_at s offset octets = by_position s.position
  where
    by_position : Position → Effect ExtractState
    by_position Before =
        if offset == s.offset
        then extract_step_to s (Within 0) (outer_octets s.contents_only octets) On
        else no_effect s
    by_position (Within count) = extract_step_to s (Within (min (count + 1) 255)) octets On
    by_position After = no_effect s

-- the element with this header begins
abbrev pub extract_begin_step : ExtractState → HeaderValue → Effect ExtractState
extract_begin_step s h = extract_begin_step_at s h.offset (octets_of h)

-- the octets of the wanted element, out of octets that come at this position
abbrev pub wanted_octets : Position → List ℕ → List ℕ
wanted_octets Before octets = []
wanted_octets (Within count) octets = octets
wanted_octets After octets = []

-- a contents octet comes
abbrev pub extract_octet_step : ExtractState → ℕ → Effect ExtractState
extract_octet_step s x = effect_with s (wanted_octets s.position (x ∷ []))

-- contents octets come
abbrev pub extract_contents_step : ExtractState → List ℕ → Effect ExtractState
extract_contents_step s octets = each_octet extract_octet_step s octets

-- an element ends, with these end-of-contents octets
abbrev pub extract_end_step : ExtractState → List ℕ → Effect ExtractState
extract_end_step s octets = by_position s.position
  where
    by_position : Position → Effect ExtractState
    by_position Before = no_effect s
    by_position (Within zero) = extract_step_to s After (outer_octets s.contents_only octets) Enough
    by_position (Within (suc count)) = extract_step_to s (Within count) octets On
    by_position After = no_effect s

-- an event comes
abbrev pub extract_step : ExtractState → EventValue → Effect ExtractState
extract_step s (Open h) = extract_begin_step s h
extract_step s (Begin h) = extract_begin_step s h
extract_step s (Enter h) = extract_begin_step s h
extract_step s (Bytes octets) = extract_contents_step s octets
extract_step s Unused = extract_octet_step s 0
extract_step s (Close None) = extract_end_step s []
extract_step s (Close (Some offset)) = extract_end_step s (0 ∷ 0 ∷ [])
extract_step s End = extract_end_step s []
extract_step s Leave = extract_end_step s []
extract_step s (Pad octets) = no_effect s
