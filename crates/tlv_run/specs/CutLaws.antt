-- The statements of the laws of `extract` and `indef`.
use Rattle.std.specs.Prelude.{◌≡◌, ℕ, Bool, true, false, if◌then◌else◌, List, [], ◌++◌, length}
use Rattle.std.specs.Option.{is_some, option_map_or}
use Rattle.tlv_head.specs.Header.{HeaderValue, IsHeader, octets_of}
use Rattle.tlv_walk.specs.declared.follow.Go.TheVariants.{Enough}
use Rattle.tlv_walk.specs.declared.framing.Framing.{Framing}
use Rattle.tlv_walk.specs.Events.{Close, End, EventValue, Leave, events}
use Rattle.tlv_walk.specs.Follow.{Effect, effect_of, effect_with, go_of}
use Rattle.tlv_walk.specs.Forest.{Forest, end_octets, is_whole, spelling}
use Rattle.tlv_walk.specs.Reading.{IsPrefixOf, IsReading}
use Rattle.tlv_walk.specs.Laws.{ForLongerInputs}
use Rattle.tlv_run.specs.Extract.{element_at, extract_text}
use Rattle.tlv_run.specs.ExtractStep.{ExtractState, extract_step, has_found, new_extract}
use Rattle.tlv_walk.specs.declared.ending.Ending.TheVariants.{Done}
use Rattle.tlv_walk.specs.Ending.{IsEnding}
use Rattle.tlv_walk.specs.Place.{ObeysGrammar, top_place}
use Rattle.tlv_run.specs.Indef.{indef_text, indef_framing, IsReadBack, indef_reading}
use Rattle.tlv_run.specs.IndefStep.{IndefState, indef_step}

-- the element that begins at the offset n is there
abbrev pub has_element_at : ℕ → Forest → Bool
has_element_at n f = is_some (element_at n f)

-- this element is there, and has ended
abbrev pub has_whole_element_at : ℕ → Forest → Bool
has_whole_element_at n f = option_map_or is_whole (element_at n f) false

-- what is written for the element at the offset n are octets of the input b, from that offset on: a header, contents
-- and, if the element is whole and its length is indefinite, end-of-contents octets
pub record IsInInput (b : List ℕ) (n : ℕ) (f : Forest) : Type 0 where
  -- the octets before the element, and the octets after what is written for it
  pub before : List ℕ
  pub after : List ℕ
  pub octets_are : before ++ (extract_text n false f ++ after) ≡ b
  pub begins : length before ≡ n
  -- its header
  pub header : HeaderValue
  pub valid : IsHeader header
  pub offset : header.offset ≡ n
  pub parts : extract_text n false f ≡ octets_of header ++ (extract_text n true f
      ++ (if has_whole_element_at n f then end_octets header.size else []))

-- an element that is found is in the input
abbrev pub ExtractTextIsInTheInput : Type 0
ExtractTextIsInTheInput = (framing : Framing) (b : List ℕ) (f : Forest) → IsReading framing b f
    → (n : ℕ) → has_element_at n f ≡ true → IsInInput b n f

-- what is written for an input is a prefix of what is written for a longer one
abbrev pub ExtractTextGoesOn : Type 0
ExtractTextGoesOn = ForLongerInputs (λ f g. (n : ℕ) (contents_only : Bool)
    → IsPrefixOf (extract_text n contents_only f) (extract_text n contents_only g))

-- an element that is found stays found, whatever follows
abbrev pub FoundElementsStay : Type 0
FoundElementsStay = ForLongerInputs (λ f g. (n : ℕ)
    → has_element_at n f ≡ true → has_element_at n g ≡ true)

-- for the element at the offset n, the same is found and written in both
pub record AreExtractedAlike (n : ℕ) (f g : Forest) : Type 0 where
  pub found : has_element_at n g ≡ has_element_at n f
  pub whole : has_whole_element_at n g ≡ has_whole_element_at n f
  pub text : (contents_only : Bool)
      → extract_text n contents_only g ≡ extract_text n contents_only f

-- if an element is whole, nothing that follows changes what is found and written for it
abbrev pub WholeElementsStay : Type 0
WholeElementsStay = ForLongerInputs (λ f g. (n : ℕ)
    → has_whole_element_at n f ≡ true → AreExtractedAlike n f g)

-- what was put is what `extract` writes. The follower has enough if the element is whole, and has found the element
-- if it is there
pub record MakesExtract (n : ℕ) (contents_only : Bool) (f : Forest) (x : Effect ExtractState)
    : Type 0 where
  pub put : x.put ≡ extract_text n contents_only f
  pub goes : x.goes ≡ go_of (has_whole_element_at n f)
  pub found : has_found x.state ≡ has_element_at n f

-- from the events of a reading, an `Extract` writes what `extract` writes
abbrev pub ExtractMakesItsText : Type 0
ExtractMakesItsText = (framing : Framing) (b : List ℕ) (f : Forest) → IsReading framing b f
    → (n : ℕ) (contents_only : Bool)
    → MakesExtract n contents_only f
    (effect_of extract_step (new_extract n contents_only) (events f))

-- an element ends
abbrev pub is_end_event : EventValue → Bool
is_end_event End = true
is_end_event (Close offset) = true
is_end_event Leave = true
is_end_event _ = false

-- an `Extract` has enough only at the end of an element, whatever it followed before
abbrev pub EnoughComesAtEnds : Type 0
EnoughComesAtEnds = (s : ExtractState) (e : EventValue)
    → (extract_step s e).goes ≡ Enough → is_end_event e ≡ true

-- from the events of elements that obey the grammar, an `Indef` writes what `indef` writes, and it wants more
abbrev pub IndefMakesItsText : Type 0
IndefMakesItsText = (s : IndefState) (padding : Bool) (f : Forest)
    → ObeysGrammar (top_place (indef_framing padding)) f
    → effect_of indef_step s (events f) ≡ effect_with s (indef_text f)

-- what is written for an input is a prefix of what is written for a longer one
abbrev pub IndefTextGoesOn : Type 0
IndefTextGoesOn = (padding : Bool) (b c : List ℕ) (f g : Forest)
    → IsReading (indef_framing padding) b f → IsReading (indef_framing padding) (b ++ c) g
    → IsPrefixOf (indef_text f) (indef_text g)

-- what is written for elements that obey the grammar are the octets of elements that obey it too
abbrev pub IndefTextObeysGrammar : Type 0
IndefTextObeysGrammar = (padding : Bool) (f : Forest) → ObeysGrammar (top_place (indef_framing padding)) f
    → (spelling (indef_reading f) ≡ indef_text f)
    × ObeysGrammar (top_place (indef_framing padding)) (indef_reading f)

-- what is written for an input is read back as the same elements with indefinite lengths, and for these elements the
-- same octets are written again
abbrev pub IndefTextIsReadBack : Type 0
IndefTextIsReadBack = (padding : Bool) (b : List ℕ) (f : Forest)
    → IsReading (indef_framing padding) b f → IsReadBack padding f (indef_text f)

-- if an input ends without a fault, what is written for it also ends without a fault
abbrev pub IndefTextIsDone : Type 0
IndefTextIsDone = (padding : Bool) (b : List ℕ) (f : Forest)
    → IsReading (indef_framing padding) b f
    → IsEnding (indef_framing padding) b Done → IsEnding (indef_framing padding) (indef_text f) Done
