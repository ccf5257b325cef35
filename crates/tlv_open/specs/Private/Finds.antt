-- What is found among elements that are read from octets, and what is left to be read.
use Rattle.std.specs.Prelude.{◌≡◌, ◌⊎◌, ℕ, ◌+◌, Bool, true, false, ◌&&◌, List, [], ◌∷◌, ◌++◌, length, drop, Option}
use Rattle.std.specs.Prelude.{Some, None}
use Rattle.tlv_head.specs.Header.{HeaderValue}
use Rattle.tlv_walk.specs.Forest.{Forest, Primitive, is_whole, spelling}
use Rattle.tlv_walk.specs.Place.{ObeysGrammar, Place, place_after}
use Rattle.tlv_open.specs.declared.spot.Spot.{Spot}
use Rattle.tlv_open.specs.declared.strings.BrokenString.{BrokenString}
use Rattle.tlv_open.specs.declared.strings.Strings.{Strings}
use Rattle.tlv_open.specs.Breaks.{Breaks, is_extension, is_no_more}
use Rattle.tlv_open.specs.Opens.{Opens, Where, is_one_primitive, may_open_in}
use Rattle.tlv_open.specs.Private.Elements.{is_elements_end}

-- where the elements are at a spot
abbrev pub where_of : Spot → Where
where_of s = record { start = s.start; depth = s.depth; may_open = s.may_open }

-- the strings found: the opened strings, and the strings that break
pub record FoundStrings : Type 0 where
  pub opened : List ℕ
  pub broken : List BrokenString

abbrev pub found_of : Strings → FoundStrings
found_of s = record { opened = s.opened.items; broken = s.broken.items }

-- strings that are found, and others after them
abbrev pub found_in_turn : FoundStrings → FoundStrings → FoundStrings
found_in_turn a b = record { opened = a.opened ++ b.opened; broken = a.broken ++ b.broken }

-- these strings are found among the elements at a spot
pub record Finds (s : Spot) (f : Forest) (found : FoundStrings) : Type 0 where
  pub opens : Opens (where_of s) f found.opened
  pub breaks : Breaks (where_of s) s.in_extension f found.broken

-- the spot inside an element with this header and these children; `ended` says whether the element has its end
abbrev pub spot_inside : Spot → HeaderValue → Forest → Bool → Spot
spot_inside s h children ended = record {
  start = s.start;
  depth = s.depth + 1;
  may_open = may_open_in h (is_one_primitive children && ended);
  in_extension = is_extension h children;
  likely = false;
  padding = false;
}

-- the spot inside an element with this header that lacks octets
abbrev pub spot_lacking : Spot → HeaderValue → Spot
spot_lacking s h = record {
  start = s.start;
  depth = s.depth + 1;
  may_open = may_open_in h false;
  in_extension = false;
  likely = false;
  padding = false;
}

-- the spot inside a string whose inner octets begin at `start`
abbrev pub spot_held : Spot → ℕ → Spot
spot_held s start = record {
  start = start;
  depth = s.depth + 1;
  may_open = true;
  in_extension = false;
  likely = true;
  padding = false;
}

-- the spot of elements that are followed by these octets: if they do not end there, the last of them is not the value
-- of an extension
abbrev pub spot_before : Spot → Bool → List ℕ → Spot
spot_before s end_octets rest = record s { in_extension = s.in_extension && is_elements_end end_octets rest }

-- elements end with the octets, or are whole and end before end-of-contents octets
pub record EndsBefore (end_octets : Bool) (f : Forest) (rest : List ℕ) : Type 0 where
  pub asked : end_octets ≡ true
  pub whole : is_whole f ≡ true
  pub end : is_elements_end true rest ≡ true

-- f is the reading of the octets at a place, up to the octets `rest`
pub record IsReadAt
    (p : Place) (f : Forest) (depth offset : ℕ) (end_octets : Bool) (octets rest : List ℕ)
    : Type 0 where
  pub depth_is : p.depth ≡ depth
  pub offset_is : p.offset ≡ offset
  pub none_named : p.inside ≡ []
  pub indefinite : p.indefinite ≡ end_octets
  pub obeys_grammar : ObeysGrammar p f
  pub spelled : spelling f ++ rest ≡ octets
  pub end : (rest ≡ []) ⊎ EndsBefore end_octets f rest

-- what is found in the first n octets of the elements f that the octets are read as: other elements follow there, or
-- the last element has not ended
pub data FindsUpTo
    (s : Spot) (p : Place) (f : Forest) (offset : ℕ) (end_octets : Bool) (octets rest : List ℕ) (found : FoundStrings)
    (n : ℕ)
    : Type 0 where
  goes_on : (g : Forest) → IsReadAt (place_after p n) g s.depth (offset + n) end_octets (drop n octets) rest
      → ((others : FoundStrings) → Finds s g others → Finds s f (found_in_turn found others)) → is_whole f ≡ is_whole g
      → length (spelling f) ≡ n + length (spelling g)
      → FindsUpTo s p f offset end_octets octets rest found n
  stops : Finds s f found → is_whole f ≡ false → n ≡ length octets
      → FindsUpTo s p f offset end_octets octets rest found n

-- what is found up to there is added to what was found before
pub record AddsUpTo
    (s : Spot) (p : Place) (f : Forest) (offset : ℕ) (end_octets : Bool) (octets rest : List ℕ)
    (old new : FoundStrings) (n : ℕ)
    : Type 0 where
  pub found : FoundStrings
  pub added : new ≡ found_in_turn old found
  pub finds : FindsUpTo s p f offset end_octets octets rest found n

-- the same, whatever the octets are read as
abbrev pub AddsFirst : Spot → ℕ → Bool → List ℕ → FoundStrings → FoundStrings → ℕ → Type 0
AddsFirst s offset end_octets octets old new n = (p : Place) (f : Forest) (rest : List ℕ)
    → IsReadAt p f s.depth offset end_octets octets rest
    → AddsUpTo (spot_before s end_octets rest) p f offset end_octets octets rest old new n

-- what is found in all elements f is added to what was found before, and n says where they end if they are whole
pub record AddsStrings (s : Spot) (f : Forest) (octets : List ℕ) (old new : FoundStrings) (n : ℕ) : Type 0 where
  pub found : FoundStrings
  pub added : new ≡ found_in_turn old found
  pub finds : Finds s f found
  pub size : is_whole f ≡ true → length (spelling f) ≡ n
  pub unfinished : is_whole f ≡ false → is_elements_end true (drop n octets) ≡ false

-- the same, whatever the octets are read as
abbrev pub AddsAll : Spot → ℕ → Bool → List ℕ → FoundStrings → FoundStrings → ℕ → Type 0
AddsAll s offset end_octets octets old new n = (p : Place) (f : Forest) (rest : List ℕ)
    → IsReadAt p f s.depth offset end_octets octets rest
    → AddsStrings (spot_before s end_octets rest) f octets old new n

-- the same spot, where the elements are the elements of an extension, or not
abbrev pub spot_with : Spot → Bool → Spot
spot_with s in_extension = record s { in_extension = in_extension }

-- what is found in a primitive is added to what was found before, by whether it is the value of an extension
pub record AddsPrimitive
    (s : Spot) (is_value : Bool) (h : HeaderValue) (contents : List ℕ) (old new : FoundStrings)
    : Type 0 where
  pub found : FoundStrings
  pub added : new ≡ found_in_turn old found
  pub finds : (e : Bool) (g : Forest) (others : FoundStrings) → (e && is_no_more g) ≡ is_value
      → Finds (spot_with s e) g others
      → Finds (spot_with s e) (Primitive h contents g) (found_in_turn found others)

-- an option as a list
abbrev pub list_of : Option BrokenString → List BrokenString
list_of None = []
list_of (Some x) = x ∷ []
