-- What contracts see of a `HeadReader`, and what `push` returns.
use Rattle.std.specs.Prelude.{◌≡◌, ◌≢◌, ℕ, ◌<◌, ◌≤◌, Bool, false, List, [], ◌∷◌, ◌++◌, Option, Some, IfSome, ◌+◌, true}
use Rattle.std.specs.Prelude.{length}
use Rattle.tlv_head.specs.declared.header.Size.{Size}
use Rattle.tlv_head.specs.declared.header.Size.TheVariants.{Definite, Indefinite}
use Rattle.tlv_head.specs.Limits.{depth_limit, input_limit}
use Rattle.tlv_head.specs.declared.fault.Fault.{Fault}
use Rattle.tlv_head.specs.declared.fault.FaultCode.{FaultCode}
use Rattle.tlv_head.specs.declared.fault.FaultCode.TheVariants.{TooDeep, Overrun}
use Rattle.tlv_head.specs.declared.head_reader.Head.{Head}
use Rattle.tlv_head.specs.declared.head_reader.Head.TheVariants.{More, Whole, Refused}
use Rattle.tlv_head.specs.Header.{HeaderValue, IsHeader, holds, octets_of}
use Rattle.tlv_head.specs.Refusal.{IsHeaderPrefix, IsRefusedOctet}

-- where the header begins, whether that offset is named, its octets so far (none once it is whole), and whether it is
-- whole
pub record HeadReaderState : Type 0 where
  pub offset : ℕ
  pub named : Bool
  pub octets : List ℕ
  pub done : Bool

-- what `push` requires of the next octet x, with `room` octets up to the bound, this one included
pub record CanPush (r : HeadReaderState) (x : ℕ) (room : Option ℕ) (depth : ℕ) : Type 0 where
  pub unfinished : r.done ≡ false
  pub first : r.octets ≡ [] → (x ≢ 0) × (room ≢ Some 0)
  pub shallow : depth ≤ depth_limit
  pub limit : r.offset ≤ input_limit

-- the reader with another octet
abbrev pub with_octet : HeadReaderState → ℕ → HeadReaderState
with_octet r x = record { offset = r.offset; named = r.named; octets = r.octets ++ x ∷ []; done = false }

-- contents of this size end within the bound: `room` counts from the last octet of the header on
abbrev pub ContentsFit : Size → Option ℕ → Type 0
ContentsFit (Definite n) room = IfSome room (λ r. n < r)
ContentsFit Indefinite room = IfSome room (λ r. 0 < r)

-- the reader's octets followed by these octets are this header, complete
pub record Completes (r : HeadReaderState) (added : List ℕ) (h : HeaderValue) : Type 0 where
  pub valid : IsHeader h
  pub offset : h.offset ≡ r.offset
  pub named : h.named ≡ r.named
  pub octets_are : octets_of h ≡ r.octets ++ added

-- an element with this header is allowed there: a holder is not inside `depth_limit` holders, and the announced
-- contents end within the bound
pub record FitsThere (h : HeaderValue) (room : Option ℕ) (depth : ℕ) : Type 0 where
  pub shallow : holds h ≡ true → depth < depth_limit
  pub contents_fit : ContentsFit h.size room

-- why the octet x is refused, one line for each cause. The bound is checked before the octet
pub data IsRefusedPush (r : HeadReaderState) (x : ℕ) (room : Option ℕ) (depth : ℕ) : FaultCode → Type 0 where
  -- F11, 8.1.3.3: the header does not end within the bound
  no_room : room ≡ Some 0 → IsRefusedPush r x room depth Overrun
  -- F06 to F09: no header goes on with that octet
  refused_octet : {code : FaultCode} → room ≢ Some 0 → IsRefusedOctet r.octets x code
      → IsRefusedPush r x room depth code
  -- F10, a limit of our own: x completes the header of a holder, inside `depth_limit` holders
  too_deep : room ≢ Some 0 → (h : HeaderValue) → Completes r (x ∷ []) h → holds h ≡ true → depth_limit ≤ depth
      → IsRefusedPush r x room depth TooDeep
  -- F11, 8.1.3.3: x completes a header whose contents end beyond the bound
  overrun : room ≢ Some 0 → (h : HeaderValue) → Completes r (x ∷ []) h → (holds h ≡ true → depth < depth_limit)
      → (ContentsFit h.size room → ⊥) → IsRefusedPush r x room depth Overrun

-- what `push` returns, and the reader that it leaves, one line for each result
pub data Pushes (old : HeadReaderState) (x : ℕ) (room : Option ℕ) (depth : ℕ) (new : HeadReaderState)
    : Head → Type 0 where
  -- the octet was taken, and the header needs more octets
  more : room ≢ Some 0 → IsHeaderPrefix (old.octets ++ x ∷ []) → new ≡ with_octet old x
      → Pushes old x room depth new More
  -- the octet was taken, and completes a header whose element is allowed there
  whole : (h : HeaderValue) → Completes old (x ∷ []) h → FitsThere h room depth → new.done ≡ true
      → Pushes old x room depth new (Whole h)
  -- the octet was not taken
  refused : (f : Fault) → IsRefusedPush old x room depth f.code → f.offset ≡ old.offset + length old.octets
      → new ≡ old → Pushes old x room depth new (Refused f)
