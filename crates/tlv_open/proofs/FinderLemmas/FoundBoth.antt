-- What is found in one kind of elements and in another.
use Rattle.std.proofs.Common.{◌≡◌, ℕ, ◌+◌, Bool, true, false, ◌&&◌, List, refl, sym, subst, append_assoc}
use Rattle.std.proofs.Common.{append-nil}
use Rattle.tlv_head.specs.Header.{HeaderValue}
use Rattle.tlv_walk.specs.Forest.{Forest, Holder, NoMore, OpenBitString, OpenEndOctets, OpenHeader, OpenHolder}
use Rattle.tlv_walk.specs.Forest.{OpenPrimitive, PaddingOctet, Primitive, is_whole}
use Rattle.tlv_open.specs.declared.spot.Spot.{Spot}
use Rattle.tlv_open.specs.declared.strings.BrokenString.{BrokenString}
use Rattle.tlv_open.specs.Breaks as breaks
use Rattle.tlv_open.specs.Breaks.{Breaks, IsBroken, is_extension, is_no_more}
use Rattle.tlv_open.specs.Opens as opens
use Rattle.tlv_open.specs.Opens.{Where, is_one_primitive, may_open_in}
use Rattle.tlv_open.specs.Private.Finds.{Finds, FoundStrings, found_in_turn, spot_with}
use Rattle.tlv_open.proofs.FinderLemmas.NothingFound.{nothing_found}

pub both-nothing : (a : FoundStrings) → found_in_turn a nothing_found ≡ a
both-nothing a = λ i. record { opened = append-nil a.opened i; broken = append-nil a.broken i }

pub both-assoc : (a b c : FoundStrings) → found_in_turn (found_in_turn a b) c ≡ found_in_turn a (found_in_turn b c)
both-assoc a b c = λ i. record {
  opened = append_assoc a.opened b.opened c.opened i;
  broken = append_assoc a.broken b.broken c.broken i;
}

-- inside an element, by whether it is one whole string's only segment, and whether it is an extension
abbrev pub spot_of_children : Spot → HeaderValue → Bool → Bool → Spot
spot_of_children s h one in_extension = record {
  start = s.start;
  depth = s.depth + 1;
  may_open = may_open_in h one;
  in_extension = in_extension;
  likely = false;
  padding = false;
}

pub finds-no_more : (s : Spot) → Finds s NoMore nothing_found
finds-no_more s = record { opens = opens.no_more; breaks = breaks.no_more }

pub finds-padded : (s : Spot) (rest : Forest) (xs : FoundStrings) → Finds s rest xs → Finds s (PaddingOctet rest) xs
finds-padded s rest xs a = record { opens = opens.padded a.opens; breaks = breaks.padded a.breaks }

pub finds-holder : (s : Spot) (h : HeaderValue) (children rest : Forest) (xs ys : FoundStrings)
    → Finds (spot_of_children s h (is_one_primitive children) (is_extension h children)) children xs
    → Finds s rest ys → Finds s (Holder h children rest) (found_in_turn xs ys)
finds-holder s h children rest xs ys a o = record {
  opens = opens.holder a.opens o.opens;
  breaks = breaks.holder a.breaks o.breaks;
}

pub finds-open_holder : (s : Spot) (h : HeaderValue) (children : Forest) (xs : FoundStrings)
    → Finds (spot_of_children s h false false) children xs → Finds s (OpenHolder h children) xs
finds-open_holder s h children xs a = record {
  opens = opens.open_holder a.opens;
  breaks = breaks.open_holder a.breaks;
}

pub finds-open_primitive : (s : Spot) (h : HeaderValue) (c : List ℕ) → Finds s (OpenPrimitive h c) nothing_found
finds-open_primitive s h c = record { opens = opens.open_primitive; breaks = breaks.open_primitive }

pub finds-open_header : (s : Spot) (o : List ℕ) → Finds s (OpenHeader o) nothing_found
finds-open_header s o = record { opens = opens.open_header; breaks = breaks.open_header }

pub finds-open_end_octets : (s : Spot) → Finds s OpenEndOctets nothing_found
finds-open_end_octets s = record { opens = opens.open_end_octets; breaks = breaks.open_end_octets }

-- what is not whole has no element after which no other follows
not-last : (e : Bool) (f : Forest) → is_whole f ≡ false → (e && is_no_more f) ≡ false
not-last true NoMore w = absurd (cc (w))
not-last true (PaddingOctet rest) w = refl
not-last true (Primitive h c rest) w = refl
not-last true (Holder h children rest) w = refl
not-last true (OpenPrimitive h c) w = refl
not-last true (OpenHolder h children) w = refl
not-last true (OpenBitString h) w = refl
not-last true (OpenHeader o) w = refl
not-last true OpenEndOctets w = refl
not-last false f w = refl

-- so among elements that are not whole no extension's value is found
breaks-unfinished : {w : Where} {e : Bool} {f : Forest} {xs : List BrokenString} → is_whole f ≡ false → Breaks w e f xs
    → Breaks w false f xs
breaks-unfinished n breaks.no_more = absurd (cc (n))
breaks-unfinished n (breaks.padded a) = breaks.padded (breaks-unfinished n a)
breaks-unfinished n (breaks.opened m f s a r) = breaks.opened m f s a (breaks-unfinished n r)
breaks-unfinished {w = w} {e = e} n (breaks.broken {h = h} {contents = contents} {rest = rest} x b r) =
    breaks.broken x (subst (λ (k : Bool). IsBroken w k h contents x) (not-last e rest n) b) (breaks-unfinished n r)
breaks-unfinished {w = w} {e = e} n (breaks.other {h = h} {contents = contents} {rest = rest} o b r) =
    breaks.other o
    (λ x k. b x (subst (λ (k : Bool). IsBroken w k h contents x) (sym (not-last e rest n)) k)) (breaks-unfinished n r)
breaks-unfinished n (breaks.holder a r) = breaks.holder a (breaks-unfinished n r)
breaks-unfinished n (breaks.open_holder a) = breaks.open_holder a
breaks-unfinished n breaks.open_primitive = breaks.open_primitive
breaks-unfinished n breaks.open_bit_string = breaks.open_bit_string
breaks-unfinished n breaks.open_header = breaks.open_header
breaks-unfinished n breaks.open_end_octets = breaks.open_end_octets

pub finds-unfinished : (s : Spot) (f : Forest) (xs : FoundStrings) → is_whole f ≡ false → Finds s f xs
    → Finds (spot_with s false) f xs
finds-unfinished s f xs n a = record { opens = a.opens; breaks = breaks-unfinished n a.breaks }
