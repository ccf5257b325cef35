-- An octet is refused for what is at the innermost open end.
use Rattle.std.proofs.Common.{◌≡◌, ℕ, ◌+◌, true, false, length, Option, Some, None, refl, ◌∙◌, arith}
use Rattle.tlv_head.specs.declared.fault.FaultCode.{FaultCode}
use Rattle.tlv_head.specs.Header.{HeaderValue, octets_of}
use Rattle.tlv_walk.specs.Forest.{Forest, Holder, NoMore, OpenBitString, OpenEndOctets, OpenHeader, OpenHolder}
use Rattle.tlv_walk.specs.Forest.{OpenPrimitive, PaddingOctet, Primitive, contents_length, holder_extent, is_whole, spelling}
use Rattle.tlv_walk.specs.Place.{Fits, ObeysGrammar, Place, place_after, place_of_children}
use Rattle.tlv_walk.specs.Ending.{open_end}
use Rattle.tlv_walk.proofs.GrammarLemmas.Bounds.{fits-inside, lacks-within, within-le}
use Rattle.tlv_walk.proofs.GrammarLemmas.Spellings.{length-holder, length-opening, length-primitive}
use Rattle.tlv_walk.proofs.GrammarLemmas.PushSteps.{PushStep, Grown, Ended, Refused, push_after, push, settle}

-- the code of a refusal
abbrev pub refusal : PushStep → Option FaultCode
refusal (Grown g) = None
refusal (Ended g) = None
refusal (Refused code) = Some code

-- a step of what follows an element is refused if that of both is
refusal-follow : (f : Forest → Forest) (s : PushStep) → refusal (push_after f s) ≡ refusal s
refusal-follow f (Grown g) = refl
refusal-follow f (Ended g) = refl
refusal-follow f (Refused code) = refl

-- a step of what an element holds is refused if that of the element is
refusal-settle : (h : HeaderValue) (s : PushStep) → refusal (settle h s) ≡ refusal s
refusal-settle h (Grown g) = refl
refusal-settle h (Ended g) = refl
refusal-settle h (Refused code) = refl

-- a refusal after a forest is that at its innermost open end
pub push-open_end : (p : Place) (f : Forest) (x : ℕ)
    → refusal (push p f x) ≡ refusal (push (open_end p f).place (open_end p f).forest x)
push-open_end p NoMore x = refl
push-open_end p (PaddingOctet rest) x =
    refusal-follow PaddingOctet (push (place_after p 1) rest x) ∙ push-open_end (place_after p 1) rest x
push-open_end p (Primitive h c rest) x =
    refusal-follow (Primitive h c) (push (place_after p (length (octets_of h) + length c)) rest x)
    ∙ push-open_end (place_after p (length (octets_of h) + length c)) rest x
push-open_end p (Holder h inside rest) x =
    refusal-follow (Holder h inside) (push (place_after p (holder_extent h inside)) rest x)
    ∙ push-open_end (place_after p (holder_extent h inside)) rest x
push-open_end p (OpenPrimitive h c) x = refl
push-open_end p (OpenHolder h inside) x =
    refusal-settle h (push (place_of_children p h) inside x) ∙ push-open_end (place_of_children p h) inside x
push-open_end p (OpenBitString h) x = refl
push-open_end p (OpenHeader o) x = refl
push-open_end p OpenEndOctets x = refl

-- whole elements outside an indefinite length may be followed by another octet
abbrev pub AllowsOneMore : Place → Forest → Type 0
AllowsOneMore p f = p.indefinite ≡ false → is_whole f ≡ true → Fits p (length (spelling f) + 1)

-- what holds of an open end that begins there
abbrev pub IsOpenEndAt : Place → Forest → Type 0
IsOpenEndAt p NoMore = Fits p 0 × (p.indefinite ≡ false → Fits p 1)
IsOpenEndAt p (OpenPrimitive h c) = Unit {0}
IsOpenEndAt p (OpenBitString h) = Unit {0}
IsOpenEndAt p (OpenHeader o) = ObeysGrammar p (OpenHeader o)
IsOpenEndAt p OpenEndOctets = Fits p 1
IsOpenEndAt p f = ⊥

-- what has room has room at its end
room-after : (p : Place) (n : ℕ) (f g : Forest) → length (spelling g) ≡ n + length (spelling f)
    → (is_whole f ≡ true → is_whole g ≡ true) → AllowsOneMore p g → AllowsOneMore (place_after p n) f
room-after p n f g size whole r i w = within-le p.bound _ _ (omega arith) (r i (whole w))

-- what an element holds has room, if octets are lacking
room-inside : (p : Place) (h : HeaderValue) (inside : Forest) → ObeysGrammar p (OpenHolder h inside)
    → AllowsOneMore (place_of_children p h) inside
room-inside p h inside e i w =
    within-le (place_of_children p h).bound _ _ (omega (arith, length-opening h))
    (lacks-within h.size (p.offset + length (octets_of h)) p.bound (contents_length h inside) i (e.0.1 w))

-- it holds of the innermost open end of a forest that obeys the grammar, with room
pub open_end-fact : (p : Place) (f : Forest) → Fits p 0 → AllowsOneMore p f → ObeysGrammar p f
    → IsOpenEndAt (open_end p f).place (open_end p f).forest
open_end-fact p NoMore z r w = (z, λ i. r i refl)
open_end-fact p (PaddingOctet rest) z r w =
    open_end-fact (place_after p 1) rest (within-le p.bound _ _ (omega arith) w.0.2)
    (room-after p 1 rest (PaddingOctet rest) (omega arith) (λ t. t) r) w.1
open_end-fact p (Primitive h c rest) z r w =
    open_end-fact (place_after p (length (octets_of h) + length c)) rest
    (within-le p.bound _ _ (omega arith) w.0.0.fits)
    (room-after p _ rest (Primitive h c rest) (length-primitive h c rest) (λ t. t) r) w.1
open_end-fact p (Holder h inside rest) z r w =
    open_end-fact (place_after p (holder_extent h inside)) rest (within-le p.bound _ _ (omega arith) w.0.0.fits)
    (room-after p _ rest (Holder h inside rest) (length-holder h inside rest) (λ t. t) r) w.2
open_end-fact p (OpenPrimitive h c) z r w = tt
open_end-fact p (OpenHolder h inside) z r w =
    open_end-fact (place_of_children p h) inside (fits-inside p h w.0.0.holding w.0.0.fits)
    (room-inside p h inside w)
    w.1
open_end-fact p (OpenBitString h) z r w = tt
open_end-fact p (OpenHeader o) z r w = w
open_end-fact p OpenEndOctets z r w = w.1
