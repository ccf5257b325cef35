-- What `indef` writes of an input.
use Rattle.std.specs.Prelude.{ℕ, List, [], ◌∷◌, Bool, false, ◌≡◌, ◌+◌, length, Result, Ok}
use Rattle.tlv_head.specs.declared.header.Size.TheVariants.{Indefinite}
use Rattle.tlv_head.specs.Header.{HeaderValue}
use Rattle.tlv_walk.specs.Forest.{Forest, Holder, NoMore, OpenBitString, OpenEndOctets, OpenHeader, OpenHolder}
use Rattle.tlv_walk.specs.Forest.{OpenPrimitive, PaddingOctet, Primitive, holder_extent, opening, primitive_extent}
use Rattle.tlv_walk.specs.Forest.{spelling}
use Rattle.tlv_walk.specs.declared.ending.Ending.{Ending}
use Rattle.tlv_walk.specs.declared.framing.Framing.{Framing}
use Rattle.tlv_walk.specs.Job.{DeviceStates, Job, Runs}
use Rattle.tlv_walk.specs.Reading.{IsReading}
use Rattle.tlv_walk.specs.declared.ending.Ending.TheVariants.{Done}
use Rattle.tlv_walk.specs.declared.run.DeviceFault.{DeviceFault}
use Rattle.tlv_walk.specs.Ending.{IsEnding}

-- 8.1.3.6.1: the header with the octet 80 for its length octets
abbrev pub indefinite_header : HeaderValue → HeaderValue
indefinite_header h = record h { size = Indefinite; length_octets = 128 ∷ [] }

-- the same elements, with an indefinite length for each holder. Each holder is constructed here, since `indef_framing`
-- names no string. The octets of an open header are left out, and so is the first of the end-of-contents octets without
-- the second
abbrev pub with_indefinite_lengths : Forest → Forest
with_indefinite_lengths (PaddingOctet rest) = PaddingOctet (with_indefinite_lengths rest)
with_indefinite_lengths (Primitive h c rest) = Primitive h c (with_indefinite_lengths rest)
with_indefinite_lengths (Holder h children rest) =
    Holder (indefinite_header h) (with_indefinite_lengths children) (with_indefinite_lengths rest)
with_indefinite_lengths (OpenPrimitive h c) = OpenPrimitive h c
with_indefinite_lengths (OpenHolder h children) = OpenHolder (indefinite_header h) (with_indefinite_lengths children)
with_indefinite_lengths (OpenBitString h) = OpenBitString h
with_indefinite_lengths _ = NoMore

-- what `indef` writes
abbrev pub indef_text : Forest → List ℕ
indef_text f = spelling (with_indefinite_lengths f)

-- no string is read as encodings; padding is allowed or not
abbrev pub indef_framing : Bool → Framing
indef_framing padding = record { inside = []; padding = padding }

-- write all elements, each holder with an indefinite length
abbrev pub indef_job : Bool → Job Ending
indef_job padding = record {
  framing = indef_framing padding;
  text = indef_text;
  is_enough = λ f. false;
  returns = λ f e. e;
}

-- the same elements from the offset n on: each begins where the one before it ends
abbrev pub with_offsets_from : ℕ → Forest → Forest
with_offsets_from n NoMore = NoMore
with_offsets_from n (PaddingOctet rest) = PaddingOctet (with_offsets_from (n + 1) rest)
with_offsets_from n (Primitive h c rest) =
    Primitive (record h { offset = n }) c
    (with_offsets_from (n + primitive_extent h c) rest)
with_offsets_from n (Holder h children rest) =
    Holder (record h { offset = n }) (with_offsets_from (n + length (opening h)) children)
    (with_offsets_from (n + holder_extent h children) rest)
with_offsets_from n (OpenPrimitive h c) = OpenPrimitive (record h { offset = n }) c
with_offsets_from n (OpenHolder h children) =
    OpenHolder (record h { offset = n }) (with_offsets_from (n + length (opening h)) children)
with_offsets_from n (OpenBitString h) = OpenBitString (record h { offset = n })
with_offsets_from n (OpenHeader octets) = OpenHeader octets
with_offsets_from n OpenEndOctets = OpenEndOctets

-- the same elements with indefinite lengths, at their offsets in what is written
abbrev pub indef_reading : Forest → Forest
indef_reading f = with_offsets_from 0 (with_indefinite_lengths f)

-- octets that are read as these elements with indefinite lengths, and for which `indef` writes the same octets again
pub record IsReadBack (padding : Bool) (f : Forest) (octets : List ℕ) : Type 0 where
  pub is_reading : IsReading (indef_framing padding) octets (indef_reading f)
  pub same_again : indef_text (indef_reading f) ≡ octets

-- what was written and returned is what the job says. If the ending is `Done`, what was written is read back, and its
-- ending is `Done` too
pub record RunsIndef (padding : Bool) (old new : DeviceStates) (result : Result Ending DeviceFault) : Type 0 where
  pub runs : Runs (indef_job padding) old new result
  pub read_back : result ≡ Ok Done → IsReadBack padding runs.reading runs.sends.sent
  pub done_again : result ≡ Ok Done → IsEnding (indef_framing padding) runs.sends.sent Done
