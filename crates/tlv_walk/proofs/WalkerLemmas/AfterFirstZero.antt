-- A step after the first of the end-of-contents octets is one of both.
use Rattle.std.proofs.Common.{◌≡◌, inl, inr, ℕ, ◌+◌, ◌-◌, Option, Some, None, arith, List, [], ◌∷◌, ◌++◌, ap, ◌∙◌}
use Rattle.std.proofs.Common.{subst, append_assoc, append-nil}
use Rattle.tlv_head.specs.declared.fault.Fault.{Fault}
use Rattle.tlv_walk.specs.declared.ending.Ending.TheVariants as ending
use Rattle.tlv_walk.specs.declared.event.Step.{Step}
use Rattle.tlv_walk.specs.declared.event.Step.TheVariants as step
use Rattle.tlv_walk.specs.declared.framing.Framing.{Framing}
use Rattle.tlv_walk.specs.WalkerState.{InEndOctets, WalkerState}
use Rattle.tlv_walk.specs.Ending.{IsEnding}
use Rattle.tlv_walk.specs.Events.{EventValue, event_value_of}
use Rattle.tlv_walk.specs.Stack.{IsWithin}
use Rattle.tlv_walk.specs.Private.Stack.{room_to}
use Rattle.tlv_walk.specs.Private.Zipper.{HasZipper}
use Rattle.tlv_walk.specs.Private.Yields.{Continues, RefusesOctet, YieldsEvent, YieldsFault, YieldsStep}
use Rattle.tlv_walk.proofs.WalkerLemmas.ZipperGrowth.{continues_both}

module _ (old middle new : WalkerState) (x : ℕ) (first : Continues old middle (x ∷ []) [])
    (same : middle.framing ≡ old.framing) (kept : middle.stack ≡ old.stack) where
  event_after : (piece rest : List ℕ) (e : EventValue) → YieldsEvent middle new piece rest e
      → YieldsEvent old new (x ∷ piece) rest e
  event_after piece rest e t =
      record {
        taken = x ∷ t.taken;
        piece_is = ap (λ (o : List ℕ). x ∷ o) t.piece_is;
        continues = continues_both old middle new (x ∷ []) t.taken [] (e ∷ []) first t.continues;
      }

  refused_after : (piece rest : List ℕ) (f : Fault) → RefusesOctet middle piece rest f
      → RefusesOctet old (x ∷ piece) rest f
  refused_after piece rest f r = record {
    taken = x ∷ r.taken;
    octet = r.octet;
    others = r.others;
    piece_is = ap (λ (o : List ℕ). x ∷ o) r.piece_is;
    rest_is = r.rest_is;
    refuses = λ b yielded s has.
        let one = first.next_zipper b yielded s has in
        let two = r.refuses (b ++ x ∷ []) (yielded ++ []) one.0 one.1 in
        let spelled : (b ++ x ∷ []) ++ r.taken ≡ b ++ x ∷ r.taken = append_assoc b (x ∷ []) r.taken in record {
          walker = two.walker;
          zipper = two.zipper;
          has_zipper = subst (λ (o : List ℕ). HasZipper two.walker o yielded two.zipper) spelled
              (subst (λ (es : List EventValue). HasZipper two.walker ((b ++ x ∷ []) ++ r.taken) es two.zipper)
              (append-nil yielded) two.has_zipper);
          idle = two.idle;
          offset = two.offset;
          ends = λ c. subst (λ (w : Framing). IsEnding w ((b ++ x ∷ r.taken) ++ r.octet ∷ c) (ending.Fault f)) same
              (subst (λ (o : List ℕ). IsEnding middle.framing (o ++ r.octet ∷ c) (ending.Fault f)) spelled
              (two.ends c));
          framing = two.framing ∙ same;
          stack = two.stack ∙ kept;
        };
  }

  fault_after : (piece rest : List ℕ) (f : Fault) → middle.phase ≡ InEndOctets
      → YieldsFault middle new piece rest f → YieldsFault old new (x ∷ piece) rest f
  fault_after piece rest f z (inl r) = inl (refused_after piece rest f r)
  fault_after piece rest f z (inr r) = absurd (cc (z, r.refused))

  pub step_after : (piece rest : List ℕ) (m : Step) → middle.phase ≡ InEndOctets
      → YieldsStep middle new piece rest m → YieldsStep old new (x ∷ piece) rest m
  step_after piece rest (step.Event e) z t = event_after piece rest (event_value_of e) t
  step_after piece rest step.NeedMore z t = continues_both old middle new (x ∷ []) piece [] [] first t
  step_after piece rest (step.Fault f) z t = fault_after piece rest f z t

-- there is room for an octet before the bound
pub room_more : (b : Option ℕ) (n : ℕ) → IsWithin b n → (room_to b n ≡ Some 0 → ⊥) → IsWithin b (n + 1)
room_more None n w f = tt
room_more (Some m) n w f = let some : m - n ≡ 0 → ⊥ = λ e. f (ap Some e) in omega arith
