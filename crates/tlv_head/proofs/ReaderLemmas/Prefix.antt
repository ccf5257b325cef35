-- What octets begin with that are read at once.
use Rattle.std.proofs.Common.{◌≡◌, ◌⊎◌, inl, inr, ℕ, ◌+◌, ◌-◌, ◌<◌, ◌≤◌, Bool, false, get_or, List, [], ◌∷◌, ◌++◌}
use Rattle.std.proofs.Common.{length, take, drop, refl, sym, ap, ◌∙◌, subst, arith, append_assoc, length-append}
use Rattle.std.proofs.Common.{length-drop, length-take}
use Rattle.std.proofs.lemmas.List.{take-append-drop, take_all, take_more}
use Rattle.std.proofs.Math.Seq.{drop-append_seam, take-add, take-append_seam}
use Rattle.tlv_head.specs.declared.header.Size.{Size}
use Rattle.tlv_head.specs.declared.header.HeaderFields.{HeaderFields}
use Rattle.tlv_head.specs.declared.next_octet.IdentifierFields.{IdentifierFields}
use Rattle.tlv_head.specs.HeaderFields.{IsHeaderSized, new_header}
use Rattle.tlv_head.specs.declared.next_octet.Part.{Part}
use Rattle.tlv_head.specs.declared.next_octet.Part.TheVariants.{Start, Number, Identifier, Length, Whole}
use Rattle.tlv_head.specs.Header.{HeaderValue, IsHeader, octets_of}
use Rattle.tlv_head.specs.HeaderSoFar.{Carries, is_whole_header}
use Rattle.tlv_head.specs.Private.NextOctet.{BeginsWithIdentifier, BeginsWithLength, MakesHeader}
use Rattle.tlv_head.specs.ReadHeader.{BeginsWithFields}
use Rattle.tlv_head.specs.Refusal.{BeginsWith, IsHeaderPrefix}
use Rattle.tlv_head.proofs.GrammarLemmas.Scan.{origin_of, scan, Fresh, Ready, no-prefix, scan-header}
use Rattle.tlv_head.proofs.ShortestLemmas.OneShortest.{identifier-some, lengths-some}
use Rattle.tlv_head.proofs.ReaderLemmas.UnfinishedHeaders.{unfinished_number, unfinished_identifier, unfinished_length}

-- nothing yet, or a prefix of a header
abbrev pub IsBegun : List ℕ → Type 0
IsBegun os = (os ≡ []) ⊎ IsHeaderPrefix os

pub begun_part : (p : Part) (os : List ℕ) → Carries p os → is_whole_header p ≡ false → IsBegun os
begun_part Start os h e = inl h
begun_part (Number id) os h e = inr (unfinished_number id os h)
begun_part (Identifier id) os h e = inr (unfinished_identifier id os h)
begun_part (Length id n left) os h e = inr (unfinished_length left id n left os (omega arith) h)
begun_part Whole os h e = absurd (cc)

prefix_nil : (a b : List ℕ) → a ++ b ≡ [] → a ≡ []
prefix_nil [] b e = refl
prefix_nil (x ∷ a) b e = absurd (cc)

rest_nil : (a b : List ℕ) → a ++ b ≡ [] → b ≡ []
rest_nil [] b e = e
rest_nil (x ∷ a) b e = absurd (cc)

header-some : (h : HeaderValue) → IsHeader h → octets_of h ≡ [] → ⊥
header-some h v e =
    let ready : scan (origin_of h) (octets_of h) ≡ Ready h = scan-header h v in
    let fresh : Fresh ≡ Ready h = rw e at ready in
    cc

-- no header is a prefix of octets that have only begun one
pub begun_none : (os : List ℕ) → IsBegun os → (h : HeaderValue) (rest : List ℕ) → IsHeader h
    → octets_of h ++ rest ≡ os → ⊥
begun_none os (inl none) h rest v e = header-some h v (prefix_nil (octets_of h) rest (e ∙ none))
begun_none os (inr f) h rest v e =
    no-prefix h f.header (rest ++ f.more) v f.valid (λ z. f.proper (rest_nil rest f.more z))
    (sym (append_assoc (octets_of h) rest f.more) ∙ (ap (λ s. s ++ f.more) e ∙ f.prefix))

-- the octet at a place, with what is before and after it
pub split-at : (xs : List ℕ) (i : ℕ) → i < length xs → xs ≡ (take i xs ++ get_or xs i 0 ∷ []) ++ drop (i + 1) xs
split-at xs i h = sym (take-append-drop (i + 1) xs) ∙ ap (λ z. z ++ drop (i + 1) xs) (take_more xs i 0 h)

-- a header has an identifier octet and a length octet at least
pub header-two : (h : HeaderValue) → IsHeader h → 2 ≤ length (octets_of h)
header-two h v =
    omega (
      arith,
      length-append h.identifier_octets h.length_octets,
      identifier-some h.class h.constructed h.number h.identifier_octets v.identifier,
      lengths-some h.size h.length_octets v.lengths,
    )

-- by their number the octets may be those of the header that was made
pub made_sized : (os : List ℕ) (f : HeaderFields) (id : IdentifierFields) (size : Size) → MakesHeader id size os
    → f.id_len ≡ id.id_len → IsHeaderSized f os
made_sized os f id size m e =
    let count : id.id_len ≡ length m.identifier_octets = m.carried.count in
    let within : length m.identifier_octets ≤ 10 = m.carried.short in
    let short : length m.length_octets ≤ 127 = m.short in
    let some : 1 ≤ length m.length_octets = m.some in
    let all : length os ≡ length m.identifier_octets + length m.length_octets =
    rw m.octets_are (length-append m.identifier_octets m.length_octets) in
    record { identifier = omega (arith, e); within = omega (arith, e); short = omega arith }

pub made_begins : (os rest : List ℕ) (offset : ℕ) (named : Bool) (id : IdentifierFields) (size : Size)
    → MakesHeader id size os
    → BeginsWith (os ++ rest) offset named
    (new_header
    (record {
      offset =
          offset;
      named =
          named;
      class =
          id.class;
      constructed = id.constructed;
      number = id.number;
      size = size;
      id_len = id.id_len;
    })
    os)
made_begins os rest offset named id size m =
    let prefix : take id.id_len os ≡ m.identifier_octets =
    rw (m.octets_are, m.carried.count) (take-append_seam m.identifier_octets m.length_octets) in
    let back : drop id.id_len os ≡ m.length_octets =
    rw (m.octets_are, m.carried.count) (drop-append_seam m.identifier_octets m.length_octets) in
    record {
      valid = rw (prefix, back) (record {
        identifier = m.carried.identifier;
        lengths = m.lengths;
        allowed = m.allowed;
      });
      offset = refl;
      named = refl;
      rest = rest;
      octets_are = rw (prefix, back, m.octets_are) refl;
    }

-- an identifier, and a length after it
pub begins_short : (os : List ℕ) (offset : ℕ) (named : Bool) (id : IdentifierFields) (size : Size) (id_len count : ℕ)
    → BeginsWithIdentifier os id → id_len ≡ id.id_len
    → BeginsWithLength (take (length os - id_len) (drop id_len os)) id.constructed size count
    → BeginsWithFields os offset named
    (record {
      offset =
          offset;
      named =
          named;
      class =
          id.class;
      constructed = id.constructed;
      number = id.number;
      size = size;
      id_len = id.id_len;
    })
    (id_len + count)
begins_short os offset named id size id_len count i e l =
    let rest : take (length os - id_len) (drop id_len os) ≡ drop id_len os =
    take_all (length os - id_len) (drop id_len os) (omega (arith, length-drop id_len os)) in
    let l' : BeginsWithLength (drop id_len os) id.constructed size count =
    subst (λ (xs : List ℕ). BeginsWithLength xs id.constructed size count) rest l in
    let i' : BeginsWithIdentifier os id = i in
    let within : id_len + count ≤ length os = omega (arith, i'.within, l'.within, length-drop id_len os) in
    let made : MakesHeader id size (take (id_len + count) os) = record {
      identifier_octets = take id_len os;
      length_octets = take count (drop id_len os);
      carried = rw e i'.carried;
      lengths = l'.lengths;
      short = omega (arith, l'.at_most_127, length-take count (drop id_len os));
      some = omega (arith, l'.some, l'.within, length-take count (drop id_len os));
      allowed = l'.allowed;
      octets_are = take-add id_len count os;
    } in
    record {
      within = within;
      sized = made_sized (take (id_len + count) os) _ id size made refl;
      begins =
          subst
          (λ (xs : List ℕ). BeginsWith xs offset named
          (new_header
          (record {
            offset =
                offset;
            named =
                named;
            class =
                id.class;
            constructed =
                id.constructed;
            number = id.number;
            size = size;
            id_len = id.id_len;
          })
          (take (id_len + count) os)))
          (take-append-drop (id_len + count) os)
          (made_begins (take (id_len + count) os) (drop (id_len + count) os) offset named id size made);
    }
