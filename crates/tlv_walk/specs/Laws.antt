-- Laws of forests that obey the grammar, of the readings and endings of inputs, and of their events.
use Rattle.std.specs.Prelude.{◌≡◌, ◌≢◌, ◌↔◌, ℕ, true, List, ◌++◌}
use Rattle.tlv_head.specs.declared.fault.FaultCode.{FaultCode}
use Rattle.tlv_head.specs.declared.fault.FaultCode.TheVariants.{Empty, Short}
use Rattle.tlv_walk.specs.declared.ending.Ending.{Ending}
use Rattle.tlv_walk.specs.declared.ending.Ending.TheVariants.{Done}
use Rattle.tlv_walk.specs.declared.framing.Framing.{Framing}
use Rattle.tlv_walk.specs.Follow.{Effect, effect_of}
use Rattle.tlv_walk.specs.Forest.{Forest, is_whole, spelling}
use Rattle.tlv_walk.specs.Place.{ObeysGrammar, Place, top_place}
use Rattle.tlv_walk.specs.Reading.{AreOctets, CannotBecomeSound, IsPrefixOf, IsReading, IsSound, IsSoundList}
use Rattle.tlv_walk.specs.Events.{AreEqualJoined, EventValue, events, single_octets}
use Rattle.tlv_walk.specs.Ending.{IsEnding, fault_ending}

-- a code other than F01 and F02
abbrev pub IsFinalCode : FaultCode → Type 0
IsFinalCode code = (code ≢ Empty) × (code ≢ Short)

-- each prefix of the spelling of a forest that obeys the grammar is the spelling of one that obeys it
abbrev pub PrefixesObeyGrammar : Type 0
PrefixesObeyGrammar = (p : Place) (f : Forest) (s : List ℕ) → ObeysGrammar p f → IsPrefixOf s (spelling f)
    → (g : Forest) × ObeysGrammar p g × (spelling g ≡ s)

-- forests that begin at one place, obey the grammar and have one spelling are one forest, including offsets
abbrev pub SpellingsAreExact : Type 0
SpellingsAreExact = (p : Place) (f g : Forest) → ObeysGrammar p f → ObeysGrammar p g → spelling f ≡ spelling g → f ≡ g

-- octets have exactly one reading
abbrev pub OctetsHaveOneReading : Type 0
OctetsHaveOneReading = (framing : Framing) (b : List ℕ) → AreOctets b
    → (f : Forest) × IsReading framing b f × ((g : Forest) → IsReading framing b g → g ≡ f)

-- octets have exactly one ending
abbrev pub OctetsHaveOneEnding : Type 0
OctetsHaveOneEnding = (framing : Framing) (b : List ℕ) → AreOctets b
    → (e : Ending) × IsEnding framing b e × ((d : Ending) → IsEnding framing b d → d ≡ e)

-- whatever follows an input with a fault other than F01 and F02, the ending and the reading stay
abbrev pub FaultsAreFinal : Type 0
FaultsAreFinal = (framing : Framing) (b c : List ℕ) (code : FaultCode) (offset : ℕ) (f : Forest) → IsFinalCode code
    → IsEnding framing b (fault_ending code offset) → IsReading framing b f
    → IsEnding framing (b ++ c) (fault_ending code offset) × IsReading framing (b ++ c) f

-- whatever follows an input with a fault other than F01 and F02, the whole is not a sound list
abbrev pub FaultsAreRight : Type 0
FaultsAreRight = (framing : Framing) (b : List ℕ) (code : FaultCode) (offset : ℕ) → IsFinalCode code
    → IsEnding framing b (fault_ending code offset) → CannotBecomeSound framing b

-- the inputs whose ending is `Done` are the sound lists
abbrev pub DoneIsSound : Type 0
DoneIsSound = (framing : Framing) (b : List ℕ) → IsEnding framing b Done ↔ IsSoundList framing b

-- this relation holds between the reading of an input and the reading of any longer input that begins with it
abbrev pub ForLongerInputs : (Forest → Forest → Type 0) → Type 0
ForLongerInputs P = (framing : Framing) (b c : List ℕ) (f g : Forest)
    → IsReading framing b f → IsReading framing (b ++ c) g → P f g

-- the events of a longer input are, joined, the events of the shorter input followed by others
abbrev pub EventsGoOn : Type 0
EventsGoOn = ForLongerInputs (λ f g. (others : List EventValue) × AreEqualJoined (events g) (events f ++ others))

-- events are equal joined if and only if they are equal with contents and padding in single octets
abbrev pub JoinedIsApart : Type 0
JoinedIsApart = (xs ys : List EventValue) → AreEqualJoined xs ys ↔ (single_octets xs ≡ single_octets ys)

-- elements are sound if and only if they obey the grammar and nothing is open
abbrev pub SoundIsWhole : Type 0
SoundIsWhole = (framing : Framing) (f : Forest)
    → IsSound (top_place framing) f ↔ (ObeysGrammar (top_place framing) f × (is_whole f ≡ true))

-- events that are equal joined have the same effect on a follower
abbrev pub PiecesDoNotShow : {S : Type 0} → (S → EventValue → Effect S) → Type 0
PiecesDoNotShow {S} next = (s : S) (xs ys : List EventValue) → AreEqualJoined xs ys
    → effect_of next s xs ≡ effect_of next s ys
