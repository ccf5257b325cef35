-- What a follower makes of all events of a forest, if it was given events that are equal joined.
use Rattle.std.proofs.Common.{◌≡◌, ℕ, List, [], ◌∷◌, ◌++◌, flat_map, refl, sym, ap, ◌∙◌}
use Rattle.tlv_walk.specs.declared.follow.Go.{Go}
use Rattle.tlv_walk.specs.declared.follow.Go.TheVariants as go
use Rattle.tlv_walk.specs.Events.{AreEqualJoined, Bytes, EventValue, Pad, event_octets, events}
use Rattle.tlv_walk.specs.Follow.{Effect, GoesOn, Joins, IgnoresEmpty, effect_of, followed_events, FollowsEvents}
use Rattle.tlv_walk.specs.Forest.{Forest}
use Rattle.tlv_walk.specs.Wrappers.{entered_offsets}
use Rattle.tlv_walk.proofs.FollowerLemmas.FollowedEvents.{events_enough, followed-alike, followed-enough, kept-alike}
use Rattle.tlv_walk.proofs.FollowerLemmas.WalkSoFar.{enters_each}

module _ {S : Type 0} (next : S → EventValue → Effect S) where
  -- the laws that a follower keeps: contents in two parts are followed as in one, no octets as no event, and octets are
  -- never enough; the same holds for padding
  pub record PieceLaws : Type 0 where
    pub bytes_join : Joins next Bytes
    pub bytes_empty : IgnoresEmpty next Bytes
    pub bytes_go_on : GoesOn next Bytes
    pub pad_join : Joins next Pad
    pub pad_empty : IgnoresEmpty next Pad
    pub pad_go_on : GoesOn next Pad

  pub laws_by : Joins next Bytes → IgnoresEmpty next Bytes → GoesOn next Bytes → Joins next Pad → IgnoresEmpty next Pad
      → GoesOn next Pad → PieceLaws
  laws_by bytes_join bytes_empty bytes_go_on pad_join pad_empty pad_go_on = record {
    bytes_join = bytes_join;
    bytes_empty = bytes_empty;
    bytes_go_on = bytes_go_on;
    pad_join = pad_join;
    pad_empty = pad_empty;
    pad_go_on = pad_go_on;
  }

  -- what was made of all events of a forest
  pub record MadeAll (s t : S) (f : Forest) (goes : Go) (text : List ℕ) : Type 0 where
    pub state : t ≡ (effect_of next s (events f)).state
    pub wants : (effect_of next s (events f)).goes ≡ goes
    pub text_is : text ≡ (effect_of next s (events f)).put

  module _ (laws : PieceLaws) where
    pub alike : (s : S) (es fs : List EventValue) → AreEqualJoined es fs → effect_of next s es ≡ effect_of next s fs
    alike =
        followed-alike next laws.bytes_join laws.bytes_empty laws.bytes_go_on laws.pad_join laws.pad_empty
        laws.pad_go_on

    octets_alike : (s : S) (es fs : List EventValue) → AreEqualJoined es fs
        → flat_map event_octets (followed_events next s es) ≡ flat_map event_octets (followed_events next s fs)
    octets_alike s es fs e =
        kept-alike next laws.bytes_join laws.bytes_empty laws.bytes_go_on laws.pad_join laws.pad_empty laws.pad_go_on
        event_octets (λ x y. refl) refl (λ x y. refl) refl s es fs e

    enters_alike : (s : S) (es fs : List EventValue) → AreEqualJoined es fs
        → entered_offsets (followed_events next s es) ≡ entered_offsets (followed_events next s fs)
    enters_alike s es fs e =
        enters_each (followed_events next s es)
        ∙ kept-alike next laws.bytes_join laws.bytes_empty laws.bytes_go_on laws.pad_join laws.pad_empty laws.pad_go_on
        (λ e. entered_offsets (e ∷ [])) (λ x y. refl) refl (λ x y. refl) refl s es fs e
        ∙ sym (enters_each (followed_events next s fs))

    pub made_all : (s t : S) (es : List EventValue) (f : Forest) (goes : Go) → FollowsEvents next s t es goes
        → AreEqualJoined es (events f) → MadeAll s t f goes (effect_of next s es).put
    made_all s t es f goes m e =
        let same : effect_of next s es ≡ effect_of next s (events f) = alike s es (events f) e in record {
          state = m.state ∙ ap (λ (k : Effect S). k.state) same;
          wants = sym (ap (λ (k : Effect S). k.goes) same) ∙ m.wants;
          text_is = ap (λ (k : Effect S). k.put) same;
        }

    -- if there was enough before the last of them
    pub made_enough : (s t : S) (es others : List EventValue) (f : Forest) → FollowsEvents next s t es go.Enough
        → AreEqualJoined (es ++ others) (events f) → MadeAll s t f go.Enough (effect_of next s es).put
    made_enough s t es others f m e =
        let same : effect_of next s es ≡ effect_of next s (events f) =
        sym (followed-enough next s es others m.wants) ∙ alike s (es ++ others) (events f) e in record {
          state = m.state ∙ ap (λ (k : Effect S). k.state) same;
          wants = sym (ap (λ (k : Effect S). k.goes) same) ∙ m.wants;
          text_is = ap (λ (k : Effect S). k.put) same;
        }

    -- the events followed are then these
    enough_events : (s t : S) (es others : List EventValue) → FollowsEvents next s t es go.Enough
        → followed_events next s (es ++ others) ≡ es
    enough_events s t es others m = events_enough next s es others m.wants ∙ m.all

    pub enough_octets : (s t : S) (es others : List EventValue) (f : Forest) → FollowsEvents next s t es go.Enough
        → AreEqualJoined (es ++ others) (events f)
        → flat_map event_octets es ≡ flat_map event_octets (followed_events next s (events f))
    enough_octets s t es others f m e =
        ap (flat_map event_octets) (sym (enough_events s t es others m)) ∙ octets_alike s (es ++ others) (events f) e

    pub enough_enters : (s t : S) (es others : List EventValue) (f : Forest) → FollowsEvents next s t es go.Enough
        → AreEqualJoined (es ++ others) (events f)
        → entered_offsets es ≡ entered_offsets (followed_events next s (events f))
    enough_enters s t es others f m e =
        ap entered_offsets (sym (enough_events s t es others m)) ∙ enters_alike s (es ++ others) (events f) e
