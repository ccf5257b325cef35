-- The frames of the open SETs as an array, outermost first.
use Rattle.std.specs.Prelude.{◌≡◌, ℕ, zero, suc, true, false, ⊤, List, [], ◌∷◌, ◌++◌, drop, take}
use Rattle.tlv_head.specs.Header.{HeaderValue}
use Rattle.tlv_show.specs.declared.rules.Rules.{Rules}
use Rattle.tlv_show.specs.declared.set_frame.SetFrame.{SetFrame}
use Rattle.tlv_show.specs.SetOrderState.{SetOrderState, frames_after_octets, is_direct, has_all_compared}
use Rattle.tlv_show.specs.SetOrderState.{set_order_begin_step}
use Rattle.tlv_show.specs.SetOrderState.{set_order_end_step, set_order_octets_step}

-- there are this number of frames, and the first ones need no more octets
abbrev pub NeedNoOctets : ℕ → List SetFrame → Type 0
NeedNoOctets zero outer = ⊤
NeedNoOctets (suc n) [] = ⊥
NeedNoOctets (suc n) (w ∷ outer) = (has_all_compared w ≡ true) × NeedNoOctets n outer

-- the frames from this one on take octets
abbrev pub frames_after_octets_from : ℕ → List ℕ → List SetFrame → List SetFrame
frames_after_octets_from n octets outer = take n outer ++ frames_after_octets octets (drop n outer)

-- a list with one thing more at this index
abbrev pub inserted : {T : Type 0} → List T → ℕ → T → List T
inserted things index thing = take index things ++ thing ∷ drop index things

-- a primitive that ends changes nothing
abbrev pub IsUnchangedByPrimitives : SetOrderState → Type 0
IsUnchangedByPrimitives s =
    (is_direct s.frame ≡ false)
    × ((rules : Rules) (h : HeaderValue) (c : List ℕ)
    → set_order_end_step (set_order_octets_step (set_order_begin_step rules s h) c) ≡ s)
