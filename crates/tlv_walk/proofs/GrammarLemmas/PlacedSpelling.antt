-- A spelling that elements can have at any place, and the offsets that are then named: those of an element that holds
-- others and of what is after it are joined.
use Rattle.std.proofs.Common.{◌≡◌, not, ℕ, ◌+◌, ◌*◌, ◌<◌, ◌≤◌, Bool, false, List, ◌++◌, length, ◌∙◌, arith}
use Rattle.tlv_walk.specs.AlikeElements.{AreAlike}
use Rattle.tlv_walk.specs.Forest.{Forest, spelling}
use Rattle.tlv_head.specs.Lists.{is_among}
use Rattle.tlv_walk.specs.Place.{Place}
use Rattle.tlv_walk.specs.Reading.{IsSound}
use Rattle.tlv_walk.specs.Wrappers.{wrapper_offsets}
use Rattle.tlv_walk.proofs.GrammarLemmas.Leads.{wrapper_offset_by}
use Rattle.tlv_walk.proofs.GrammarLemmas.AlikeSpellings.{AreRegular}
use Rattle.tlv_walk.proofs.GrammarLemmas.ShortHeaders.{own-there, own-apart, in-first, in-second, in-third}

-- a place where the same may be, whatever is named
pub record IsLike (p q : Place) : Type 0 where
  pub padding : q.padding ≡ p.padding
  pub depth : q.depth ≡ p.depth

-- no offset in the lists is below where they are
abbrev pub ComeAfter : (ℕ → List ℕ) → Type 0
ComeAfter names = (offset i : ℕ) → i < offset → is_among i (names offset) ≡ false

-- nor beyond so many octets from there
abbrev pub AreWithin : (ℕ → List ℕ) → ℕ → Type 0
AreWithin names n = (offset i : ℕ) → offset + n ≤ i → is_among i (names offset) ≡ false

-- of the next octets there, these offsets are named and no others
abbrev pub Agrees : Place → List ℕ → ℕ → Type 0
Agrees q names n = (i : ℕ) → q.offset ≤ i → i < q.offset + n → is_among i q.inside ≡ is_among i names

-- elements alike, at a place, with that spelling, and wrappers at these offsets
pub record SpelledAt (form : Bool → Bool) (q : Place) (f : Forest) (octets names : List ℕ) : Type 0 where
  pub forest : Forest
  pub alike : AreAlike f forest
  pub sound : IsSound q forest
  pub regular : AreRegular form forest
  pub spelled : spelling forest ≡ octets
  pub names_are : wrapper_offsets forest ≡ names

-- one spelling, wherever it is, and the offsets of its wrappers, by that of its first octet
pub record Spelling (form : Bool → Bool) (p : Place) (f : Forest) : Type 0 where
  pub octets : List ℕ
  pub names : ℕ → List ℕ
  pub short : length octets ≤ 4 * length (spelling f)
  pub names_after : ComeAfter names
  pub names_within : AreWithin names (length octets)
  pub there : (q : Place) → IsLike p q → Agrees q (names q.offset) (length octets)
      → SpelledAt form q f octets (names q.offset)

-- what is named of an element that holds others and of those after it, by where it is: what it holds is `begins` octets
-- on, and what is after it `far` octets on
abbrev pub joint_names : (constructed : Bool) (inner others : ℕ → List ℕ) (begins far : ℕ) → ℕ → List ℕ
joint_names constructed inner others begins far offset =
    wrapper_offset_by constructed offset ++ (inner (offset + begins) ++ others (offset + far))

-- if it holds `count` octets, and `rest` octets are after it
pub record JoinsOffsets (constructed : Bool) (inner others : ℕ → List ℕ) (begins count far rest : ℕ) : Type 0 where
  pub after : ComeAfter (joint_names constructed inner others begins far)
  pub within : AreWithin (joint_names constructed inner others begins far) (far + rest)
  pub of_own : (offset : ℕ) → is_among offset (joint_names constructed inner others begins far offset) ≡ not constructed
  pub of_inner : (offset i : ℕ) → offset + begins ≤ i → i < offset + begins + count
      → is_among i (joint_names constructed inner others begins far offset) ≡ is_among i (inner (offset + begins))
  pub of_others : (offset i : ℕ) → offset + far ≤ i
      → is_among i (joint_names constructed inner others begins far offset) ≡ is_among i (others (offset + far))

pub offsets-join : (constructed : Bool) (inner others : ℕ → List ℕ) (begins count far rest : ℕ) → 1 ≤ begins
    → begins + count ≤ far → ComeAfter inner → AreWithin inner count → ComeAfter others → AreWithin others rest
    → JoinsOffsets constructed inner others begins count far rest
offsets-join constructed inner others begins count far rest some on inner_after inner_within others_after others_within
    =
    record {
      after = λ offset i less.
          in-third i (wrapper_offset_by constructed offset) (inner (offset + begins)) (others (offset + far))
          (own-apart constructed offset i (λ e. omega (arith, less, e)))
          (inner_after (offset + begins) i (omega (arith, less)))
          ∙ others_after (offset + far) i (omega (arith, less));
      within = λ offset i more.
          in-third i (wrapper_offset_by constructed offset) (inner (offset + begins)) (others (offset + far))
          (own-apart constructed offset i (λ e. omega (arith, more, e, some, on)))
          (inner_within (offset + begins) i (omega (arith, more, on)))
          ∙ others_within (offset + far) i (omega (arith, more));
      of_own = λ offset.
          in-first offset (wrapper_offset_by constructed offset) (inner (offset + begins)) (others (offset + far))
          (inner_after (offset + begins) offset (omega (arith, some)))
          (others_after (offset + far) offset (omega (arith, some, on)))
          ∙ own-there constructed offset;
      of_inner = λ offset i least most.
          in-second i (wrapper_offset_by constructed offset) (inner (offset + begins)) (others (offset + far))
          (own-apart constructed offset i (λ e. omega (arith, least, some, e)))
          (others_after (offset + far) i (omega (arith, most, on)));
      of_others = λ offset i least.
          in-third i (wrapper_offset_by constructed offset) (inner (offset + begins)) (others (offset + far))
          (own-apart constructed offset i (λ e. omega (arith, least, some, on, e)))
          (inner_within (offset + begins) i (omega (arith, least, on)));
    }
