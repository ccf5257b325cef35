-- What `indef` writes for a longer input begins with what it writes for the shorter.
use Rattle.std.proofs.Common.{◌≡◌, List, ◌++◌, ℕ, refl, sym, ap, ◌∙◌}
use Rattle.tlv_walk.specs.Events.{AreEqualJoined, EventValue, events}
use Rattle.tlv_walk.specs.Follow.{Effect}
use Rattle.tlv_walk.proofs.FollowerLemmas.FollowedEvents.{followed-alike}
use Rattle.tlv_walk.proofs.EventLemmas.LongerInputs.{events-prefix}
use Rattle.tlv_walk.specs.Place.{Place, top_place}
use Rattle.tlv_run.specs.Indef.{indef_framing}
use Rattle.tlv_run.specs.CutLaws.{IndefTextGoesOn}
use Rattle.tlv_run.specs.IndefStep.{IndefState, indef_step, new_indef}
use Rattle.tlv_run.proofs.IndefLemmas.Elements.{events_text-append, followed-indef_step, events_text}
use Rattle.tlv_run.proofs.IndefLemmas.Elements.{events_text-events}

-- the same octets are put for events that are equal once their pieces are joined
events_text-alike : (xs ys : List EventValue) → AreEqualJoined xs ys → events_text xs ≡ events_text ys
events_text-alike xs ys e =
    sym (ap (λ (t : Effect IndefState). t.put) (followed-indef_step new_indef xs))
    ∙ ap (λ (t : Effect IndefState). t.put)
    (followed-alike indef_step (λ s x y. refl) (λ s. refl) (λ s x. refl) (λ s x y. refl) (λ s. refl)
    (λ s x. refl) new_indef xs ys e)
    ∙ ap (λ (t : Effect IndefState). t.put) (followed-indef_step new_indef ys)

pub indef_text_goes_on : IndefTextGoesOn
indef_text_goes_on padding b c f g r s =
    let at_top : Place = top_place (indef_framing padding) in
    let more : (others : List EventValue) × AreEqualJoined (events g) (events f ++ others) =
    events-prefix (indef_framing padding) b c f g r s in
    let puts : events_text (events g) ≡ events_text (events f) ++ events_text more.0 =
    events_text-alike (events g) (events f ++ more.0) more.1 ∙ events_text-append (events f) more.0 in (
      events_text more.0,
      ap (λ (l : List ℕ). l ++ events_text more.0) (sym (events_text-events at_top f refl r.obeys_grammar)) ∙ sym puts
          ∙ events_text-events at_top g refl s.obeys_grammar,
    )
