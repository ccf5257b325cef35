-- What a stack shows of its frames: the innermost one, and those that hold it.
use Rattle.std.proofs.Common.{◌≡◌, ◌≢◌, ◌⊎◌, inl, inr, ◌↔◌, ℕ, suc, ◌-◌, ◌^◌, ◌≤◌, Bool, true, false, eqb}
use Rattle.std.proofs.Common.{if◌then◌else◌, List, [], ◌∷◌, length, Option, Some, None, refl, sym, ap, ap₂, ◌∙◌, arith}
use Rattle.std.proofs.Common.{eqb-true, ne_eqb}
use Rattle.std.proofs.lemmas.Bool.{false_from_ne_true}
use Rattle.tlv_walk.specs.declared.stack.Frame.{Frame}
use Rattle.tlv_walk.specs.declared.stack.FrameKind.{FrameKind}
use Rattle.tlv_walk.specs.declared.stack.FrameKind.TheVariants.{Input, Definite, Indefinite, Wrapper}
use Rattle.tlv_walk.specs.Stack.{FrameValue, IsInIndefinite, IsInWrapper, bound_of}
use Rattle.tlv_walk.specs.Stack.{IsWithin}
use Rattle.tlv_walk.specs.Private.Stack.{IsFilled, frame_inside}
use Rattle.tlv_walk.specs.Private.FrameFields.{AreHolders, HasEnd, bound_from, end_from, frames_from, wraps_from}

-- one frame more

length-frames_in : (i : Frame) (fs : List Frame) → length (frames_from i fs) ≡ length fs
length-frames_in i [] = refl
length-frames_in i (f ∷ fs) = ap suc (length-frames_in f fs)

pub length-frames : (i : Frame) (fs : List Frame) (now : List FrameValue) → frames_from i fs ≡ now
    → length now ≡ length fs
length-frames i fs now shown = sym (ap length shown) ∙ length-frames_in i fs

-- the bound

pub no_bound : (n : ℕ) → n ≡ 2 ^ 64 - 1 → bound_from n ≡ None
no_bound n e = ap bound_from e

pub some_bound : (n : ℕ) → n ≢ 2 ^ 64 - 1 → bound_from n ≡ Some n
some_bound n e = rw (ne_eqb n (2 ^ 64 - 1) e) refl

bound-frames_in : (i : Frame) (fs : List Frame) → AreHolders i fs → bound_of (frames_from i fs) ≡ bound_from i.bound
bound-frames_in i [] h = sym (no_bound i.bound h.1)
bound-frames_in i (f ∷ fs) h = refl

pub bound-frames : (i : Frame) (fs : List Frame) (now : List FrameValue) → AreHolders i fs → frames_from i fs ≡ now
    → bound_of now ≡ bound_from i.bound
bound-frames i fs now h shown = sym (ap bound_of shown) ∙ bound-frames_in i fs h

within_at : (n end : ℕ) (b : Bool) → eqb n (2 ^ 64 - 1) ≡ b → end ≤ 2 ^ 64 - 1
    → (end ≤ n) ↔ IsWithin (if b then None else Some n) end
within_at n end true e most = ((λ h. tt), (λ h. omega (arith, eqb-true n (2 ^ 64 - 1) e)))
within_at n end false e most = ((λ h. h), (λ h. h))

pub within_bound : (n end : ℕ) → end ≤ 2 ^ 64 - 1 → (end ≤ n) ↔ IsWithin (bound_from n) end
within_bound n end most = within_at n end (eqb n (2 ^ 64 - 1)) refl most

-- what the innermost element is

wraps_alone : (h : FrameKind) → wraps_from h ≡ true → h ≡ Wrapper
wraps_alone Input e = absurd (cc)
wraps_alone Definite e = absurd (cc)
wraps_alone Indefinite e = absurd (cc)
wraps_alone Wrapper e = refl

pub in_wrapper : (i : Frame) (fs : List Frame) → AreHolders i fs
    → IsInWrapper (frames_from i fs) ↔ (i.kind ≡ Wrapper)
in_wrapper i [] h = ((λ x. absurd x), (λ e. let is_input = h.0 in absurd (cc)))
in_wrapper i (f ∷ fs) h = (wraps_alone i.kind, λ e. ap wraps_from e)

endless_alone : (h : FrameKind) (n : ℕ) → HasEnd h n → end_from h n ≡ None → h ≡ Indefinite
endless_alone Input n h e = absurd h
endless_alone Definite n h e = absurd (cc (some_bound n h))
endless_alone Indefinite n h e = refl
endless_alone Wrapper n h e = absurd (cc (some_bound n h))

pub in_indefinite : (i : Frame) (fs : List Frame) → AreHolders i fs
    → IsInIndefinite (frames_from i fs) ↔ (i.kind ≡ Indefinite)
in_indefinite i [] h = ((λ x. absurd x), (λ e. let is_input = h.0 in absurd (cc)))
in_indefinite i (f ∷ fs) h = (endless_alone i.kind i.bound h.0, λ e. ap (λ (k : FrameKind). end_from k i.bound) e)

end_alone : (h : FrameKind) (n offset : ℕ) → HasEnd h n → end_from h n ≡ Some offset
    → (n ≡ offset) × ((h ≡ Definite) ⊎ (h ≡ Wrapper))
end_alone Input n offset h e = absurd h
end_alone Definite n offset h e = let s = some_bound n h in (cc, inl refl)
end_alone Indefinite n offset h e = absurd (cc)
end_alone Wrapper n offset h e = let s = some_bound n h in (cc, inr refl)

ends_there : (h : FrameKind) (n : ℕ) → HasEnd h n → (h ≡ Definite) ⊎ (h ≡ Wrapper) → end_from h n ≡ Some n
ends_there Input n h k = absurd h
ends_there Definite n h k = some_bound n h
ends_there Indefinite n h (inl e) = absurd (cc)
ends_there Indefinite n h (inr e) = absurd (cc)
ends_there Wrapper n h k = some_bound n h

input_endless : (h : FrameKind) → h ≡ Input → (h ≡ Definite) ⊎ (h ≡ Wrapper) → ⊥
input_endless h is_input (inl e) = cc
input_endless h is_input (inr e) = cc

pub is_filled : (i : Frame) (fs : List Frame) (offset : ℕ) → AreHolders i fs
    → IsFilled (frames_from i fs) offset ↔ ((i.bound ≡ offset) × ((i.kind ≡ Definite) ⊎ (i.kind ≡ Wrapper)))
is_filled i [] offset h = ((λ x. absurd x), (λ k. input_endless i.kind h.0 k.1))
is_filled i (f ∷ fs) offset h =
    (end_alone i.kind i.bound offset h.0, λ k. ends_there i.kind i.bound h.0 k.1 ∙ ap Some k.0)

-- an element of the indefinite length is opened inside the innermost one

pub more_indefinite : (i : Frame) (fs : List Frame) (now : List FrameValue) (end : Option ℕ) (wrapper : Bool)
    → AreHolders i fs → frames_from i fs ≡ now → end ≡ None → (wrapper ≡ true → end ≢ None)
    → frames_from (record { bound = i.bound; kind = Indefinite }) (i ∷ fs) ≡ frame_inside now end wrapper ∷ now
more_indefinite i fs now end wrapper h shown e definite =
    let plain : false ≡ wrapper = sym (false_from_ne_true wrapper (λ w. definite w e)) in
    let bound : bound_from i.bound ≡ bound_of now = sym (bound-frames i fs now h shown) in
    ap₂ (λ (b : Option ℕ) (fs : List FrameValue). record { end = None; bound = b; wrapper = false } ∷ fs) bound shown
    ∙ ap₂ (λ (n : Option ℕ) (w : Bool). frame_inside now n w ∷ now) (sym e) plain
