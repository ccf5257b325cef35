-- What `extract` writes of an input.
use Rattle.std.specs.Prelude.{ℕ, Bool, false, ◌==◌, if◌then◌else◌, List, [], ◌++◌, Option, Some, None}
use Rattle.std.specs.Option.{is_some, option_map_or, option_or}
use Rattle.tlv_walk.specs.Forest.{Forest, Holder, NoMore, OpenBitString, OpenHolder, OpenPrimitive, PaddingOctet}
use Rattle.tlv_walk.specs.Forest.{Primitive, is_whole, lead, spelling}
use Rattle.tlv_walk.specs.declared.framing.Framing.{Framing}
use Rattle.tlv_walk.specs.Job.{Job}
use Rattle.tlv_run.specs.declared.extract_call.Cut.{Cut}

-- the element that begins at the offset n, without what follows it. There is none before its header is complete. No
-- two elements begin at one offset
abbrev pub element_at : ℕ → Forest → Option Forest
element_at n (PaddingOctet rest) = element_at n rest
element_at n (Primitive h c rest) =
    if h.offset == n then Some (Primitive h c NoMore) else element_at n rest
element_at n (Holder h children rest) =
    if h.offset == n then Some (Holder h children NoMore)
    else option_or (element_at n children) (element_at n rest)
element_at n (OpenPrimitive h c) = if h.offset == n then Some (OpenPrimitive h c) else None
element_at n (OpenHolder h children) =
    if h.offset == n then Some (OpenHolder h children) else element_at n children
element_at n (OpenBitString h) = if h.offset == n then Some (OpenBitString h) else None
element_at n _ = None

-- the elements, at any depth. Left out are padding, a prefix of a header, and the first of the end-of-contents octets
-- if the second is missing. The last two may be inside a holder. They are octets of it (8.1.4, 8.1.5), but are not
-- written
abbrev pub elements_only : Forest → Forest
elements_only (PaddingOctet rest) = elements_only rest
elements_only (Primitive h c rest) = Primitive h c (elements_only rest)
elements_only (Holder h children rest) = Holder h (elements_only children) (elements_only rest)
elements_only (OpenPrimitive h c) = OpenPrimitive h c
elements_only (OpenHolder h children) = OpenHolder h (elements_only children)
elements_only (OpenBitString h) = OpenBitString h
elements_only _ = NoMore

-- 8.1.1.1: the octets of elements, as far as they are there, without those that `elements_only` leaves out
abbrev pub octets_so_far : Forest → List ℕ
octets_so_far f = spelling (elements_only f)

-- 8.1.4: the contents octets of one element that are written so far. In a holder, those that `elements_only` leaves out
-- are not written (`contents_length` counts them). Those of a wrapping BIT STRING begin with the octet for unused bits
abbrev pub contents_so_far : Forest → List ℕ
contents_so_far (Primitive h c _) = c
contents_so_far (Holder h children _) = lead h ++ octets_so_far children
contents_so_far (OpenPrimitive h c) = c
contents_so_far (OpenHolder h children) = lead h ++ octets_so_far children
contents_so_far _ = []

-- what `extract` writes: all octets of the element at the offset n, or only its contents octets. Nothing if there is no
-- such element
abbrev pub extract_text : ℕ → Bool → Forest → List ℕ
extract_text n contents_only f =
    option_map_or (λ e. if contents_only then contents_so_far e else octets_so_far e) (element_at n f) []

-- write the element at the offset, or only its contents. When it has ended, nothing more is wanted. It is found once
-- its header is complete
abbrev pub extract_job : ℕ → Bool → Framing → Job Cut
extract_job offset contents_only framing = record {
  framing = framing;
  text = extract_text offset contents_only;
  is_enough = λ f. option_map_or is_whole (element_at offset f) false;
  returns = λ f e. record { ending = e; found = is_some (element_at offset f) };
}
