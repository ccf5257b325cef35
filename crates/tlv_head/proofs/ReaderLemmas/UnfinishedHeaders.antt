-- What a reader carries can become a header.
use Rattle.std.proofs.Common.{◌≡◌, ◌≢◌, ℕ, suc, zero, Bool, true, false, ◌||◌, ◌+◌, ◌*◌, ◌-◌, ◌<◌, ◌≤◌, inl, inr, List}
use Rattle.std.proofs.Common.{[], ◌∷◌, ◌++◌, length, Option, Some, refl, ap, sym, ◌∙◌, arith, length-append}
use Rattle.std.proofs.Common.{append_assoc, lit<, take, drop}
use Rattle.std.proofs.lemmas.Bool.{cases_eq}
use Rattle.tlv_head.specs.Header.{HeaderValue, IsHeader}
use Rattle.tlv_head.specs.HeadReader.{ContentsFit, HeadReaderState, Completes, IsRefusedPush, overrun, too_deep}
use Rattle.tlv_head.specs.Refusal.{IsHeaderPrefix}
use Rattle.tlv_head.specs.HeaderSoFar.{Carries, CarriesNumber, CarriesIdentifier, CarriesLength, is_whole_header}
use Rattle.tlv_head.specs.Private.NextOctet.{MakesHeader}
use Rattle.tlv_head.specs.declared.fault.FaultCode.TheVariants.{TooDeep, Overrun}
use Rattle.tlv_head.specs.declared.header.Size.{Size}
use Rattle.tlv_head.specs.declared.header.Size.TheVariants.{Definite}
use Rattle.tlv_head.specs.declared.next_octet.IdentifierFields.{IdentifierFields}
use Rattle.tlv_head.specs.declared.next_octet.Part.{Part}
use Rattle.tlv_head.specs.declared.next_octet.Part.TheVariants.{Start, Number, Identifier, Length, Whole}
use Rattle.std.proofs.lemmas.List.{length-map}
use Rattle.std.proofs.Math.Seq.{drop-append_seam, take-append_seam}
use Rattle.tlv_head.proofs.Wraps.{is_wrapper}
use Rattle.tlv_head.proofs.ReaderLemmas.Steps.{ends_number, ends_length, more_length}
use Rattle.tlv_head.proofs.GrammarLemmas.Meaning.{allows_definite}

pub length-carried : (p : Part) (os : List ℕ) → Carries p os → length os ≤ 136
length-carried Start os h = rw h (omega arith)
length-carried (Number id) os h =
    let short : length h.prefix.digits ≤ 8 = h.short in
    rw h.prefix.octets_are (omega (arith, length-map h.prefix.digits (λ d. 128 + d)))
length-carried (Identifier id) os h = let short : length os ≤ 10 = h.short in omega arith
length-carried (Length id n left) os h =
    let short : length h.prefix.identifier_octets ≤ 10 = h.short in
    let some : 1 ≤ left = h.prefix.some in
    let within : length h.prefix.digits + left ≤ 126 = h.prefix.within in
    rw h.prefix.octets_are
    (omega (
      arith,
      length-append h.prefix.identifier_octets ((128 + (length h.prefix.digits + left)) ∷ h.prefix.digits),
    ))
length-carried Whole os h = rw h (omega arith)

-- the header that the octets are
abbrev pub made_header : (at : ℕ) (named : Bool) (id : IdentifierFields) (size : Size) (os : List ℕ)
    → MakesHeader id size os
    → HeaderValue
made_header at named id size os m = record {
  offset = at;
  named = named;
  class = id.class;
  constructed = id.constructed;
  number = id.number;
  size = size;
  identifier_octets = m.identifier_octets;
  length_octets = m.length_octets;
}

made_header-valid : (at : ℕ) (named : Bool) (id : IdentifierFields) (size : Size) (os : List ℕ)
    (m : MakesHeader id size os)
    → IsHeader (made_header at named id size os m)
made_header-valid at named id size os m = record {
  identifier = m.carried.identifier;
  lengths = m.lengths;
  allowed = m.allowed;
}

made_completes : (r : HeadReaderState) (id : IdentifierFields) (size : Size) (os : List ℕ) (x : ℕ)
    (m : MakesHeader id size (os ++ x ∷ []))
    → os ≡ r.octets
    → Completes r (x ∷ []) (made_header r.offset r.named id size (os ++ x ∷ []) m)
made_completes r id size os x m e = record {
  valid = made_header-valid r.offset r.named id size _ m;
  offset = refl;
  named = refl;
  octets_are = sym m.octets_are ∙ ap (λ s. s ++ x ∷ []) e;
}

pub made_too_deep : (r : HeadReaderState) (id : IdentifierFields) (size : Size) (os : List ℕ) (x depth : ℕ)
    (room : Option ℕ)
    → room ≢ Some 0 → MakesHeader id size (os ++ x ∷ []) → os ≡ r.octets
    → (id.constructed || is_wrapper r.named id.class id.constructed id.number size) ≡ true → 128 ≤ depth
    → IsRefusedPush r x room depth TooDeep
made_too_deep r id size os x depth room n m e c low =
    too_deep n (made_header r.offset r.named id size (os ++ x ∷ []) m) (made_completes r id size os x m e) c low

pub made_overrun : (r : HeadReaderState) (id : IdentifierFields) (size : Size) (os : List ℕ) (x depth : ℕ)
    (room : Option ℕ)
    → room ≢ Some 0 → MakesHeader id size (os ++ x ∷ []) → os ≡ r.octets
    → ((id.constructed || is_wrapper r.named id.class id.constructed id.number size) ≡ true → depth < 128)
    → (ContentsFit size room → ⊥) → IsRefusedPush r x room depth Overrun
made_overrun r id size os x depth room n m e c past =
    overrun n (made_header r.offset r.named id size (os ++ x ∷ []) m) (made_completes r id size os x m e) c past

-- the octets that make a header, cut after its identifier
pub made_whole : (r : HeadReaderState) (id : IdentifierFields) (size : Size) (os : List ℕ) (x : ℕ)
    (m : MakesHeader id size (os ++ x ∷ []))
    → os ≡ r.octets
    → Completes r (x ∷ []) (record {
      offset = r.offset;
      named = r.named;
      class = id.class;
      constructed = id.constructed;
      number = id.number;
      size = size;
      identifier_octets = take id.id_len (os ++ x ∷ []);
      length_octets = drop id.id_len (os ++ x ∷ []);
    })
made_whole r id size os x m e =
    let count : id.id_len ≡ length m.identifier_octets = m.carried.count in
    rw (
      m.octets_are,
      count,
      take-append_seam m.identifier_octets m.length_octets,
      drop-append_seam m.identifier_octets m.length_octets,
    )
    (made_completes r id size os x m e)

cons≢nil : (x : ℕ) (xs : List ℕ) → x ∷ xs ≢ []
cons≢nil x xs e = cc

-- octets are a prefix of a header if they are with a zero after them
zero_after : (os : List ℕ) → IsHeaderPrefix (os ++ 0 ∷ []) → IsHeaderPrefix os
zero_after os u = record {
  header = u.header;
  more = 0 ∷ u.more;
  valid = u.valid;
  proper = cons≢nil 0 u.more;
  prefix = sym (append_assoc os (0 ∷ []) u.more) ∙ u.prefix;
}

zero_ends : (id : IdentifierFields) (size : Size) (os : List ℕ) → MakesHeader id size (os ++ 0 ∷ []) → IsHeaderPrefix os
zero_ends id size os m = record {
  header = made_header 0 false id size _ m;
  more = 0 ∷ [];
  valid = made_header-valid 0 false id size _ m;
  proper = cons≢nil 0 [];
  prefix = m.octets_are;
}

pub unfinished_identifier : (id : IdentifierFields) (os : List ℕ) → CarriesIdentifier id os → IsHeaderPrefix os
unfinished_identifier id os h = zero_ends id (Definite 0) os (record {
  identifier_octets = os;
  length_octets = 0 ∷ [];
  carried = h;
  lengths = inl (lit< tt, refl);
  short = omega arith;
  some = omega arith;
  allowed = allows_definite id.constructed 0;
  octets_are = refl;
})

pub unfinished_number : (id : IdentifierFields) (os : List ℕ) → CarriesNumber id os → IsHeaderPrefix os
unfinished_number id os h = zero_after os (unfinished_identifier _ _ (ends_number id 0 0 os h refl (lit< tt)))

pub unfinished_length : (k : ℕ) (id : IdentifierFields) (n left : ℕ) (os : List ℕ) → left ≤ k
    → CarriesLength id n left os
    → IsHeaderPrefix os
unfinished_length zero id n left os below h = let some : 1 ≤ left = h.prefix.some in absurd (omega arith)
unfinished_length (suc k) id n left os below h = elim (cases_eq (left - 1) 0) [
  | inl e ↦ zero_ends id (Definite (n * 256 + 0)) os (ends_length id n left 0 0 os h refl (lit< tt) (inl refl) e)
  | inr e ↦
      zero_after os
      (unfinished_length k id (n * 256 + 0) (left - 1) _ (omega arith)
      (more_length id n left 0 0 os h refl (lit< tt) (inl refl) e))
]

snoc≢nil : (os : List ℕ) (x : ℕ) → os ++ x ∷ [] ≢ []
snoc≢nil [] x e = cc
snoc≢nil (y ∷ os) x e = cc

pub unfinished_part : (p : Part) (os : List ℕ) (x : ℕ) → Carries p (os ++ x ∷ [])
    → IsHeaderPrefix (os ++ x ∷ []) × (is_whole_header p ≡ false)
unfinished_part Start os x h = absurd (snoc≢nil os x h)
unfinished_part (Number id) os x h = (unfinished_number id _ h, refl)
unfinished_part (Identifier id) os x h = (unfinished_identifier id _ h, refl)
unfinished_part (Length id n left) os x h = (unfinished_length left id n left _ (omega arith) h, refl)
unfinished_part Whole os x h = absurd (snoc≢nil os x h)
