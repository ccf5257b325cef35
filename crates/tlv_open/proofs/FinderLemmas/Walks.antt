-- A walk over an input that is at hand, and how much of the input is read.
use Rattle.std.proofs.Common.{◌≡◌, ◌⊎◌, inl, inr, ℕ, List, [], ◌∷◌, ◌++◌, length, refl, sym, ap, ◌∙◌, subst}
use Rattle.std.proofs.Common.{append_assoc}
use Rattle.tlv_head.specs.declared.fault.Fault.{Fault}
use Rattle.tlv_walk.specs.declared.ending.Ending.{Ending}
use Rattle.tlv_walk.specs.declared.ending.Ending.TheVariants as ending
use Rattle.tlv_walk.specs.declared.event.Event.{Event}
use Rattle.tlv_walk.specs.declared.event.Step.{Step}
use Rattle.tlv_walk.specs.declared.event.Step.TheVariants as step
use Rattle.tlv_walk.specs.declared.framing.Framing.{Framing}
use Rattle.tlv_walk.specs.Ending.{IsEnding, IsEndingOf, empty, short, done, refused}
use Rattle.tlv_walk.specs.Events.{EventValue, event_value_of}
use Rattle.tlv_walk.specs.Forest.{Forest, spelling}
use Rattle.tlv_walk.specs.WalkerState.{Refused, WalkerState}
use Rattle.tlv_walk.specs.Walker.{StandsAtEnd, refused_one, took_all, IsIdle, Stands, RefusesNext, StepsTo, UsesUpPiece}
use Rattle.tlv_walk.specs.Walker.{YieldsNext}
use Rattle.tlv_walk.specs.Reading.{IsReading}
use Rattle.tlv_walk.proofs.GrammarLemmas.Readings.{reading-unique}
use Rattle.tlv_walk.proofs.WalkerLemmas.HasRead.{never_refused}
use Rattle.tlv_open.specs.Private.Walks.{HasWalkedOver}

-- a walker that has walked over some of the octets
pub record WalksFurther (framing : Framing) (octets : List ℕ) (w : WalkerState) (rest : List ℕ) : Type 0 where
  pub framing_is : w.framing ≡ framing
  pub taken : List ℕ
  pub yielded : List EventValue
  pub stands : Stands w taken yielded
  pub whole : taken ++ rest ≡ octets

pub walks-on : (framing : Framing) (octets : List ℕ) (old new : WalkerState) (rest left : List ℕ) (e : Event)
    → WalksFurther framing octets old rest → YieldsNext old new rest left e → WalksFurther framing octets new left
walks-on framing octets old new rest left e w y = record {
  framing_is = y.takes.framing ∙ w.framing_is;
  taken = w.taken ++ y.takes.taken;
  yielded = w.yielded ++ event_value_of e ∷ [];
  stands = y.stands w.taken w.yielded w.stands;
  whole =
      append_assoc w.taken y.takes.taken left
      ∙ (ap (λ (o : List ℕ). w.taken ++ o) (sym y.takes.piece_is) ∙ w.whole);
}

idle-refused : (w : WalkerState) (f : Fault) → w.phase ≡ Refused f → IsIdle w
idle-refused w f e = rw e refl

uses_up : (framing : Framing) (octets : List ℕ) (old new : WalkerState) (rest left : List ℕ)
    → WalksFurther framing octets old rest → UsesUpPiece old new rest left → HasWalkedOver framing octets new
uses_up framing octets old new rest left w u = record {
  framing_is = u.takes.framing ∙ w.framing_is;
  yielded = w.yielded;
  at_end =
      took_all (subst (λ (o : List ℕ). Stands new o w.yielded) w.whole (u.stands w.taken w.yielded w.stands)) u.ready.0;
  idle = u.ready.0;
}

refuses : (framing : Framing) (octets : List ℕ) (old new : WalkerState) (rest left : List ℕ) (f : Fault)
    → WalksFurther framing octets old rest → RefusesNext old new rest left f → HasWalkedOver framing octets new
refuses framing octets old new rest left f w r = record {
  framing_is = r.takes.framing ∙ w.framing_is;
  yielded = w.yielded;
  at_end =
      refused_one f (record {
        taken = w.taken ++ r.takes.taken;
        octet = r.octet;
        others = r.others;
        octets_are =
            append_assoc w.taken r.takes.taken (r.octet ∷ r.others)
            ∙ (ap (λ (o : List ℕ). w.taken ++ (r.takes.taken ++ o)) (sym r.rest_is)
            ∙ (ap (λ (o : List ℕ). w.taken ++ o) (sym r.takes.piece_is) ∙ w.whole));
        stands = r.stands w.taken w.yielded w.stands;
      });
  idle = idle-refused new f r.phase;
}

-- the step after which a walk has ended
pub walk-ended : (framing : Framing) (octets : List ℕ) (old new : WalkerState) (rest left : List ℕ) (s : Step)
    → WalksFurther framing octets old rest → StepsTo old new rest left s
    → (s ≡ step.NeedMore) ⊎ ((f : Fault) × (s ≡ step.Fault f)) → HasWalkedOver framing octets new
walk-ended framing octets old new rest left step.NeedMore w t e = uses_up framing octets old new rest left w t
walk-ended framing octets old new rest left (step.Fault f) w (inl r) e = refuses framing octets old new rest left f w r
walk-ended framing octets old new rest left (step.Fault f) w (inr a) e =
    absurd (never_refused old w.taken w.yielded f w.stands a.refused)
walk-ended framing octets old new rest left (step.Event x) w t (inl e) = absurd (cc (e))
walk-ended framing octets old new rest left (step.Event x) w t (inr e) = let f = e.1 in absurd (cc (f))

-- a walker that walks over octets: it has walked over some of them, or it refused an octet before
abbrev pub IsOnItsWay : Framing → List ℕ → WalkerState → List ℕ → Type 0
IsOnItsWay framing octets w rest =
    WalksFurther framing octets w rest ⊎ (((f : Fault) × (w.phase ≡ Refused f)) × HasWalkedOver framing octets w)

pub way-start : (framing : Framing) (octets piece : List ℕ) (w : WalkerState) → HasWalkedOver framing octets w
    → IsOnItsWay framing (octets ++ piece) w piece
way-start framing octets piece w h = by_end h.at_end
  where
    by_end : StandsAtEnd w octets h.yielded → IsOnItsWay framing (octets ++ piece) w piece
    by_end (took_all st none) = inl (record {
      framing_is = h.framing_is;
      taken = octets;
      yielded = h.yielded;
      stands = st;
      whole = refl;
    })
    by_end (refused_one f at) = inr (
      (f, at.stands.phase),
      record {
        framing_is = h.framing_is;
        yielded = h.yielded;
        at_end =
            refused_one f (record {
              taken = at.taken;
              octet = at.octet;
              others = at.others ++ piece;
              octets_are =
                  sym (append_assoc at.taken (at.octet ∷ at.others) piece)
                  ∙ ap (λ (o : List ℕ). o ++ piece) at.octets_are;
              stands = at.stands;
            });
        idle = h.idle;
      },
    )

pub way-on : (framing : Framing) (octets : List ℕ) (old new : WalkerState) (rest left : List ℕ) (e : Event)
    → IsOnItsWay framing octets old rest → YieldsNext old new rest left e → IsOnItsWay framing octets new left
way-on framing octets old new rest left e (inl w) y = inl (walks-on framing octets old new rest left e w y)
way-on framing octets old new rest left e (inr r) y = absurd (y.takes.not_refused r.0.0 r.0.1)

pub way-ended : (framing : Framing) (octets : List ℕ) (old new : WalkerState) (rest left : List ℕ) (s : Step)
    → IsOnItsWay framing octets old rest → StepsTo old new rest left s
    → (s ≡ step.NeedMore) ⊎ ((f : Fault) × (s ≡ step.Fault f)) → HasWalkedOver framing octets new
way-ended framing octets old new rest left s (inl w) t e = walk-ended framing octets old new rest left s w t e
way-ended framing octets old new rest left step.NeedMore (inr r) t e = absurd (t.takes.not_refused r.0.0 r.0.1)
way-ended framing octets old new rest left (step.Fault f) (inr r) (inl t) e = absurd (t.takes.not_refused r.0.0 r.0.1)
way-ended framing octets old new rest left (step.Fault f) (inr r) (inr a) e =
    subst (λ (w : WalkerState). HasWalkedOver framing octets w) (sym a.same) r.1
way-ended framing octets old new rest left (step.Event x) (inr r) t e = absurd (t.takes.not_refused r.0.0 r.0.1)

-- the first walk
pub way-first : (framing : Framing) (w : WalkerState) → w.framing ≡ framing → Stands w [] [] → IsIdle w
    → HasWalkedOver framing [] w
way-first framing w e st idle = record {
  framing_is = e;
  yielded = [];
  at_end = took_all st idle;
  idle = idle;
}

-- how many octets an ending says are read
abbrev pub count_of : List ℕ → Ending → ℕ
count_of octets ending.Done = length octets
count_of octets (ending.Fault f) = f.offset

count-by : (framing : Framing) (octets : List ℕ) (e : Ending) (f : Forest) → IsEndingOf framing octets f e
    → count_of octets e ≡ length (spelling f)
count-by framing octets _ f (empty spelled none) = sym (ap length spelled)
count-by framing octets _ f (short spelled open_) = sym (ap length spelled)
count-by framing octets _ f (done spelled some whole) = sym (ap length spelled)
count-by framing octets _ f (refused x rest code spelled why) = refl

pub ending-count : (framing : Framing) (octets : List ℕ) (e : Ending) (f : Forest) → IsEnding framing octets e
    → IsReading framing octets f → count_of octets e ≡ length (spelling f)
ending-count framing octets e f x r =
    count-by framing octets e x.reading x.ends
    ∙ ap (λ (g : Forest). length (spelling g)) (reading-unique framing octets x.reading f x.is_reading r)
