-- What a walker refuses is a fault, whatever follows.
use Rattle.std.proofs.Common.{◌≡◌, ◌≢◌, inl, inr, ℕ, ◌+◌, ◌-◌, ◌<◌, ◌≤◌, get_or, drop, Bool, true, false, List, [], ◌∷◌}
use Rattle.std.proofs.Common.{◌++◌, length, Option, Some, None, refl, sym, ap, ◌∙◌, subst, arith, append-nil}
use Rattle.std.proofs.lemmas.Bool.{cases_Bool}
use Rattle.tlv_head.specs.declared.fault.FaultCode.{FaultCode}
use Rattle.tlv_head.specs.declared.fault.FaultCode.TheVariants.{StrayEnd, BadEnd, MissingEnd, BadInside}
use Rattle.tlv_walk.specs.declared.ending.Ending.TheVariants as ending
use Rattle.tlv_head.specs.declared.fault.Fault.{Fault}
use Rattle.tlv_walk.specs.WalkerState.{Between, InBitString, InEndOctets, PhaseValue, WalkerState}
use Rattle.tlv_walk.specs.Ending.{IsEnding, IsRefusedAt, bad_end, bad_inside, fault_at, fault_ending, missing_end}
use Rattle.tlv_walk.specs.Ending.{no_end}
use Rattle.tlv_walk.specs.Ending.{stray_end}
use Rattle.tlv_walk.specs.Events.{EventValue}
use Rattle.tlv_walk.proofs.WalkerLemmas.Waiting.{EventWaits, EventWaitsIn, none_waits-idle}
use Rattle.tlv_walk.specs.Stack.{IsInIndefinite, bound_of}
use Rattle.tlv_walk.specs.Stack.{IsWithin}
use Rattle.tlv_walk.specs.Private.Stack.{IsFilled, room_in, room_to}
use Rattle.tlv_walk.specs.Private.Zipper.{BitStringTail, NoTail, HasZipper, EndOctetsTail, Layer, Zipper, frames_of}
use Rattle.tlv_walk.specs.Private.Zipper.{place_in, place_of}
use Rattle.tlv_walk.specs.Private.Yields.{RefusesOctet}
use Rattle.tlv_walk.proofs.WalkerLemmas.AfterHeader.{lead_tail}
use Rattle.tlv_walk.proofs.WalkerLemmas.ZipperGrowth.{between_tail, lone_tail, phase_at, tail_state, with_tail}
use Rattle.tlv_walk.proofs.WalkerLemmas.Places.{place-bound, walker-offset}
use Rattle.tlv_walk.proofs.WalkerLemmas.ZipperEndings.{state-fault, zipper_end}
use Rattle.tlv_walk.proofs.WalkerLemmas.Zipper.{place-indefinite}

-- if there is no room before the bound, an octet more passes it
pub left_none : (b : Option ℕ) (n m : ℕ) → room_to b n ≡ Some 0 → n < m → IsWithin b m → ⊥
left_none None n m e h f = absurd (cc)
left_none (Some k) n m e h f = let z : k - n ≡ 0 = cc in omega arith

-- if room is left an octet more does not
pub left_some : (b : Option ℕ) (n m : ℕ) → (room_to b n ≡ Some 0 → ⊥) → m ≤ n + 1 → IsWithin b m
left_some None n m f h = tt
left_some (Some k) n m f h = let apart : k - n ≡ 0 → ⊥ = λ z. f (ap Some z) in omega arith

-- no event waits in that phase
pub idle_at : (w : WalkerState) (f : PhaseValue) → w.phase ≡ f → (EventWaitsIn f w.stack w.offset → ⊥) → EventWaits w
    → ⊥
idle_at w f e n k = n (subst (λ (g : PhaseValue). EventWaitsIn g w.stack w.offset) e k)

-- the first octet of a piece
pub front_octet : (piece : List ℕ) → 1 ≤ length piece → piece ≡ get_or piece 0 0 ∷ drop 1 piece
front_octet [] h = absurd (omega arith)
front_octet (x ∷ xs) h = refl

pub refuses_front : (w : WalkerState) (piece : List ℕ) (f : Fault) → 1 ≤ length piece
    → RefusesOctet w (get_or piece 0 0 ∷ drop 1 piece) (get_or piece 0 0 ∷ drop 1 piece) f
    → RefusesOctet w piece piece f
refuses_front w piece f h r = subst (λ (o : List ℕ). RefusesOctet w o o f) (sym (front_octet piece h)) r

-- an octet that has a cause of the list in each state of a walker is refused
pub refuses_here : (w : WalkerState) (x : ℕ) (rest : List ℕ) (code : FaultCode) → (EventWaits w → ⊥)
    → ((b : List ℕ) (yielded : List EventValue) (s : Zipper) → HasZipper w b yielded s
    → (t : Zipper) × HasZipper w b yielded t × IsRefusedAt (zipper_end w.framing t) x code)
    → RefusesOctet w (x ∷ rest) (x ∷ rest) (fault_at code w.offset)
refuses_here w x rest code idle faulty = record {
  taken = [];
  octet = x;
  others = rest;
  piece_is = refl;
  rest_is = refl;
  refuses = λ b yielded s has.
      let f = faulty b yielded s has in record {
        walker = w;
        zipper = f.0;
        has_zipper = subst (λ (o : List ℕ). HasZipper w o yielded f.0) (sym (append-nil b)) f.1;
        idle = none_waits-idle w idle;
        offset = refl;
        ends =
            λ c. subst (λ (o : List ℕ). IsEnding w.framing (o ++ x ∷ c) (ending.Fault (fault_at code w.offset)))
            (sym (append-nil b))
            (subst (λ (n : ℕ). IsEnding w.framing (b ++ x ∷ c) (fault_ending code n)) (sym f.1.offset)
            (state-fault w b yielded f.0 x c code f.1 idle f.2));
        framing = refl;
        stack = refl;
      };
}

bound_there : (w : WalkerState) (b : List ℕ) (yielded : List EventValue) (s : Zipper) → HasZipper w b yielded s
    → w.stack ≡ frames_of w.framing s.layers → bound_of w.stack ≡ (place_of w.framing s).bound
bound_there w b yielded s has stack = ap bound_of stack ∙ sym (place-bound w.framing s.layers)

-- the bound is reached before the end-of-contents octets
pub refuses_missing : (w : WalkerState) (x : ℕ) (rest : List ℕ) → w.phase ≡ Between
    → (IsFilled w.stack w.offset → ⊥) → IsInIndefinite w.stack → IsWithin (bound_of w.stack) w.offset
    → room_in w.stack w.offset ≡ Some 0
    → RefusesOctet w (x ∷ rest) (x ∷ rest) (fault_at MissingEnd w.offset)
refuses_missing w x rest e unfilled inside within room =
    refuses_here w x rest MissingEnd (idle_at w Between e unfilled) (λ b yielded s has.
    let t = between_tail s.tail _ (phase_at w b yielded s _ e has) in
    let has' : HasZipper w b yielded (with_tail s NoTail) = tail_state w b yielded s _ t has in
    let place : w.offset ≡ (place_of w.framing (with_tail s NoTail)).offset + 0 = walker-offset w b yielded _ has' in
    let none : room_to (place_of w.framing (with_tail s NoTail)).bound w.offset ≡ Some 0 =
    subst (λ (o : Option ℕ). room_to o w.offset ≡ Some 0) (bound_there w b yielded _ has' has'.stack) room in (
      with_tail s NoTail,
      has',
      no_end ((place-indefinite w.framing s.layers).1 (subst IsInIndefinite has'.stack inside))
          (left_none _ w.offset _ none (omega (arith, place))),
    ))

-- 00 where no end-of-contents octets can be, and no padding
not_padding : (w : WalkerState) (ls : List Layer) → w.stack ≡ frames_of w.framing ls
    → (w.framing.padding ≡ true → w.stack ≡ [] → ⊥) → (place_in w.framing ls).padding ≡ false
not_padding w [] e f = elim (cases_Bool w.framing.padding) [
  | inl yes' ↦ absurd (f yes' e)
  | inr no' ↦ no'
]
not_padding w (l ∷ ls) e f = refl

not_indefinite : (k : Bool) → (k ≡ true → ⊥) → k ≡ false
not_indefinite true f = absurd (f refl)
not_indefinite false f = refl

pub refuses_stray : (w : WalkerState) (rest : List ℕ) → w.phase ≡ Between → (IsFilled w.stack w.offset → ⊥)
    → (IsInIndefinite w.stack → ⊥) → (w.framing.padding ≡ true → w.stack ≡ [] → ⊥)
    → RefusesOctet w (0 ∷ rest) (0 ∷ rest) (fault_at StrayEnd w.offset)
refuses_stray w rest e unfilled outside padding =
    refuses_here w 0 rest StrayEnd (idle_at w Between e unfilled) (λ b yielded s has.
    let t = between_tail s.tail _ (phase_at w b yielded s _ e has) in
    let has' : HasZipper w b yielded (with_tail s NoTail) = tail_state w b yielded s _ t has in (
      with_tail s NoTail,
      has',
      stray_end
          (not_indefinite
          _ (λ i. outside (subst IsInIndefinite (sym has'.stack) ((place-indefinite w.framing s.layers).0 i))))
          (not_padding w s.layers has'.stack padding) refl,
    ))

pub refuses_stray_front : (w : WalkerState) (piece : List ℕ) → 1 ≤ length piece → get_or piece 0 0 ≡ 0
    → w.phase ≡ Between → (IsFilled w.stack w.offset → ⊥) → (IsInIndefinite w.stack → ⊥)
    → (w.framing.padding ≡ true → w.stack ≡ [] → ⊥) → RefusesOctet w piece piece (fault_at StrayEnd w.offset)
refuses_stray_front w piece some zero e unfilled outside padding =
    refuses_front w piece _ some
    (subst (λ (x : ℕ). RefusesOctet w (x ∷ drop 1 piece) (x ∷ drop 1 piece) (fault_at StrayEnd w.offset)) (sym zero)
    (refuses_stray w (drop 1 piece) e unfilled outside padding))

-- the second of the end-of-contents octets
pub refuses_second_missing : (w : WalkerState) (x : ℕ) (rest : List ℕ) → w.phase ≡ InEndOctets
    → IsWithin (bound_of w.stack) w.offset → room_in w.stack w.offset ≡ Some 0
    → RefusesOctet w (x ∷ rest) (x ∷ rest) (fault_at MissingEnd w.offset)
refuses_second_missing w x rest e within room =
    refuses_here w x rest MissingEnd (idle_at w InEndOctets e (λ k. k)) (λ b yielded s has.
    let t = lone_tail s.tail _ (phase_at w b yielded s _ e has) in
    let has' : HasZipper w b yielded (with_tail s EndOctetsTail) = tail_state w b yielded s _ t has in
    let place : w.offset ≡ (place_of w.framing (with_tail s EndOctetsTail)).offset + 1 =
    walker-offset w b yielded _ has' in
    let none : room_to (place_of w.framing (with_tail s EndOctetsTail)).bound w.offset ≡ Some 0 =
    subst (λ (o : Option ℕ). room_to o w.offset ≡ Some 0) (bound_there w b yielded _ has' has'.stack) room in
    (with_tail s EndOctetsTail, has', missing_end (left_none _ w.offset _ none (omega (arith, place)))))

pub refuses_second : (w : WalkerState) (x : ℕ) (rest : List ℕ) → w.phase ≡ InEndOctets
    → (room_in w.stack w.offset ≡ Some 0 → ⊥) → x ≢ 0
    → RefusesOctet w (x ∷ rest) (x ∷ rest) (fault_at BadEnd w.offset)
refuses_second w x rest e room nonzero =
    refuses_here w x rest BadEnd (idle_at w InEndOctets e (λ k. k)) (λ b yielded s has.
    let t = lone_tail s.tail _ (phase_at w b yielded s _ e has) in
    let has' : HasZipper w b yielded (with_tail s EndOctetsTail) = tail_state w b yielded s _ t has in
    let place : w.offset ≡ (place_of w.framing (with_tail s EndOctetsTail)).offset + 1 =
    walker-offset w b yielded _ has' in (
      with_tail s EndOctetsTail,
      has',
      bad_end
          (left_some _ w.offset
          _ (λ none. room
          (subst (λ (o : Option ℕ). room_to o w.offset ≡ Some 0)
          (sym (bound_there w b yielded _ has' has'.stack)) none))
          (omega (arith, place)))
          nonzero,
    ))

-- the first contents octet of a wrapping BIT STRING
pub refuses_unused : (w : WalkerState) (x : ℕ) (rest : List ℕ) → w.phase ≡ InBitString → x ≢ 0
    → RefusesOctet w (x ∷ rest) (x ∷ rest) (fault_at BadInside w.offset)
refuses_unused w x rest e nonzero =
    refuses_here w x rest BadInside (idle_at w InBitString e (λ k. k)) (λ b yielded s has.
    let t = lead_tail s.tail _ (phase_at w b yielded s _ e has) in
    (with_tail s (BitStringTail t.0), tail_state w b yielded s _ t.1 has, bad_inside nonzero))
