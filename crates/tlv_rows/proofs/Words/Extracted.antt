-- Words of the rows of `extract`.
use Rattle.std.proofs.Common.{ℕ, Bool, true, false, List, []}
use Rattle.tlv_walk.specs.declared.framing.Framing.{Framing}
use Rattle.tlv_walk.specs.Forest.{Forest}
use Rattle.tlv_walk.proofs.GrammarLemmas.Readings.{reading}
use Rattle.tlv_run.specs.Extract.{extract_text}
use Rattle.tlv_run.specs.CutLaws.{has_element_at, has_whole_element_at}

-- what is written, whether the element is found, and whether it is whole
pub record ExtractValues : Type 0 where
  pub octets : List ℕ
  pub found : Bool
  pub whole : Bool

-- of these elements, the one at this offset or its contents alone
abbrev values : Bool → ℕ → Forest → ExtractValues
values contents_only n f = record {
  octets = extract_text n contents_only f;
  found = has_element_at n f;
  whole = has_whole_element_at n f;
}

-- of an input, the element at this offset
abbrev pub element : Framing → ℕ → List ℕ → ExtractValues
element framing n b = values false n (reading framing b)

-- and its contents alone
abbrev pub contents : Framing → ℕ → List ℕ → ExtractValues
contents framing n b = values true n (reading framing b)

-- the element is whole, has not ended, or is not there
abbrev pub whole_element : List ℕ → ExtractValues
whole_element octets = record { octets = octets; found = true; whole = true }

abbrev pub open_element : List ℕ → ExtractValues
open_element octets = record { octets = octets; found = true; whole = false }

abbrev pub no_element : ExtractValues
no_element = record { octets = []; found = false; whole = false }
