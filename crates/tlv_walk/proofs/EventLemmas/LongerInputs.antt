-- The events of a longer input go on from those of the shorter.
use Rattle.std.proofs.Common.{◌≡◌, ℕ, zero, suc, List, [], ◌∷◌, ◌++◌, length, refl, sym, ap, ◌∙◌, arith, append_assoc}
use Rattle.std.proofs.Common.{append-nil, length-append}
use Rattle.tlv_walk.specs.declared.framing.Framing.{Framing}
use Rattle.tlv_walk.specs.Forest.{Forest, spelling}
use Rattle.tlv_walk.specs.Place.{ObeysGrammar, Place, top_place}
use Rattle.tlv_walk.specs.Reading.{IsReading}
use Rattle.tlv_walk.specs.Events.{AreEqualJoined, EventValue, events, single_octets}
use Rattle.tlv_walk.proofs.GrammarLemmas.Spellings.{prefix-of}
use Rattle.tlv_walk.proofs.GrammarLemmas.PushSteps.{Grown}
use Rattle.tlv_walk.proofs.GrammarLemmas.PopHeaders.{list-back, is_nil, is_push}
use Rattle.tlv_walk.proofs.GrammarLemmas.Readings.{PoppedBy, popped-by, spelling-unique}
use Rattle.tlv_walk.proofs.EventLemmas.JoinedEvents.{apart-before, joined-from_apart}
use Rattle.tlv_walk.proofs.EventLemmas.NextEvents.{Brings, gain_events, push-brings}

-- the events are those, each octet by itself, and then others
pub record GoesFurther (xs ys : List EventValue) : Type 0 where
  pub others : List EventValue
  pub more : single_octets ys ≡ single_octets (xs ++ others)

-- events that go on, and go on further
goes-on-after : (xs ys zs new : List EventValue) → GoesFurther xs ys → single_octets zs ≡ single_octets (ys ++ new)
    → GoesFurther xs zs
goes-on-after xs ys zs new r e = record {
  others = r.others ++ new;
  more = e ∙ apart-before ys (xs ++ r.others) new r.more ∙ ap single_octets (append_assoc xs r.others new);
}

-- `events-go_on`, by the number of octets between
forest-goes_on : (p : Place) (n : ℕ) (f g : Forest) (t : List ℕ) → length t ≡ n → ObeysGrammar p f → ObeysGrammar p g
    → spelling g ≡ spelling f ++ t → GoesFurther (events f) (events g)
forest-goes_on p zero f g [] l w v e =
    let same : g ≡ f = spelling-unique p g f v w (e ∙ append-nil (spelling f)) in
    record {
      others = [];
      more = ap (λ (f : Forest). single_octets (events f)) same ∙ sym (ap single_octets (append-nil (events f)));
    }
forest-goes_on p zero f g (x ∷ t) l w v e = absurd (omega arith)
forest-goes_on p (suc n) f g t l w v e = elim (list-back t) [
  | is_nil z ↦ absurd (omega (arith, ap length z))
  | is_push ys y z ↦
      let e' : spelling g ≡ (spelling f ++ ys) ++ y ∷ [] = rw (append_assoc (spelling f) ys (y ∷ [])) (rw z at e) in
      let q : PoppedBy p g (spelling f ++ ys) y = popped-by p g (spelling f ++ ys) y v e' in
      let brings : Brings (events q.popped.from ++ gain_events p q.popped.from q.popped.last) (Grown g) =
      rw (q.popped.pushed) at (push-brings p q.popped.from q.popped.last q.popped.obeys_grammar) in
      goes-on-after (events f) (events q.popped.from) (events g) (gain_events p q.popped.from q.popped.last)
      (forest-goes_on p n f q.popped.from ys (omega (arith, ap length z, length-append ys (y ∷ []))) w
      q.popped.obeys_grammar q.spelled)
      brings
]

-- of two forests at one place that obey the grammar, if one spelling goes on from the other the events do
pub events-go_on : (p : Place) (f g : Forest) (t : List ℕ) → ObeysGrammar p f → ObeysGrammar p g
    → spelling g ≡ spelling f ++ t
    → GoesFurther (events f) (events g)
events-go_on p f g t w v e = forest-goes_on p (length t) f g t refl w v e

-- the reading of a longer input goes on from that of the shorter
pub reading-goes_on : (w : Framing) (b c : List ℕ) (f g : Forest) → IsReading w b f → IsReading w (b ++ c) g
    → (t : List ℕ) × (spelling g ≡ spelling f ++ t)
reading-goes_on w b c f g r s =
    let front : spelling f ++ (r.is_prefix.0 ++ c) ≡ b ++ c =
    sym (append_assoc (spelling f) r.is_prefix.0 c) ∙ ap (λ (t : List ℕ). t ++ c) r.is_prefix.1 in
    prefix-of (spelling f) (spelling g) (r.is_prefix.0 ++ c) s.is_prefix.0 (front ∙ sym s.is_prefix.1)
    (s.longest f r.obeys_grammar (r.is_prefix.0 ++ c, front))

-- the events of a longer input begin, joined, with those of the shorter
pub events-prefix : (w : Framing) (b c : List ℕ) (f g : Forest) → IsReading w b f → IsReading w (b ++ c) g
    → (es : List EventValue) × AreEqualJoined (events g) (events f ++ es)
events-prefix w b c f g r s =
    let t : (t : List ℕ) × (spelling g ≡ spelling f ++ t) = reading-goes_on w b c f g r s in
    let on : GoesFurther (events f) (events g) =
    events-go_on (top_place w) f g t.0 r.obeys_grammar s.obeys_grammar t.1 in
    (on.others, joined-from_apart (events g) (events f ++ on.others) on.more)
