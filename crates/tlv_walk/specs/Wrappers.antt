-- Which of the named offsets are offsets of wrappers.
use Rattle.std.specs.Prelude.{ℕ, not, if◌then◌else◌, List, [], ◌∷◌, ◌++◌, Option}
use Rattle.std.specs.List.{find}
use Rattle.tlv_head.specs.Header.{HeaderValue}
use Rattle.tlv_walk.specs.Events.{Enter, EventValue}
use Rattle.tlv_walk.specs.Forest.{Forest, PaddingOctet, Primitive, Holder, OpenHolder, OpenBitString}
use Rattle.tlv_head.specs.Lists.{is_among}

-- a list of one offset, that of a holder with this header, if it is a wrapper; an empty list if it is constructed
abbrev pub wrapper_offset : HeaderValue → List ℕ
wrapper_offset h = if h.constructed then [] else h.offset ∷ []

-- the offsets of the wrappers
abbrev pub wrapper_offsets : Forest → List ℕ
wrapper_offsets (PaddingOctet rest) = wrapper_offsets rest
wrapper_offsets (Primitive h c rest) = wrapper_offsets rest
wrapper_offsets (Holder h children rest) = wrapper_offset h ++ (wrapper_offsets children ++ wrapper_offsets rest)
wrapper_offsets (OpenHolder h children) = wrapper_offset h ++ wrapper_offsets children
wrapper_offsets (OpenBitString h) = wrapper_offset h
wrapper_offsets _ = []

-- the first named offset that is not a wrapper's
abbrev pub first_without_wrapper : List ℕ → Forest → Option ℕ
first_without_wrapper inside f = find (λ n. not (is_among n (wrapper_offsets f))) inside

-- the offsets of the wrappers that events enter
abbrev pub entered_offsets : List EventValue → List ℕ
entered_offsets [] = []
entered_offsets (Enter h ∷ es) = h.offset ∷ entered_offsets es
entered_offsets (e ∷ es) = entered_offsets es
