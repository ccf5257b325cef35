-- The octets, their offset and whether it is named determine what `read_header` returns.
use Rattle.std.proofs.Common.{◌≡◌, ℕ, ◌<◌, Bool, List, length, take, ap, sym, ◌∙◌, arith}
use Rattle.std.proofs.lemmas.List.{length-take-le, take-append-drop}
use Rattle.tlv_head.specs.declared.header.HeaderFields.{HeaderFields}
use Rattle.tlv_head.specs.HeaderFields.{new_header}
use Rattle.tlv_head.specs.Header.{HeaderValue, octets_of}
use Rattle.tlv_head.specs.ReadHeader.{BeginsWithFields}
use Rattle.tlv_head.proofs.GrammarLemmas.Headers.{one-header}
use Rattle.tlv_head.proofs.GrammarLemmas.Scan.{origin_of}

-- the header's identifier has as many octets as the fields say
identifier-count : (octets : List ℕ) (offset : ℕ) (named : Bool) (f : HeaderFields) (n : ℕ)
    → BeginsWithFields octets offset named f n
    → length (take f.id_len (take n octets)) ≡ f.id_len
identifier-count octets offset named f n b =
    let some : f.id_len < length (take n octets) = b.sized.identifier in
    length-take-le f.id_len (take n octets) (omega arith)

octets-count : (octets : List ℕ) (offset : ℕ) (named : Bool) (f : HeaderFields) (n : ℕ)
    → BeginsWithFields octets offset named f n
    → length (octets_of (new_header f (take n octets))) ≡ n
octets-count octets offset named f n b =
    ap length (take-append-drop f.id_len (take n octets)) ∙ length-take-le n octets b.within

pub one_header_returned : (octets : List ℕ) (offset : ℕ) (named : Bool) (f g : HeaderFields) (m n : ℕ)
    → BeginsWithFields octets offset named f m → BeginsWithFields octets offset named g n → (f ≡ g) × (m ≡ n)
one_header_returned octets offset named f g m n p q =
    let h : HeaderValue = new_header f (take m octets) in
    let k : HeaderValue = new_header g (take n octets) in
    let origin : origin_of h ≡ origin_of k =
    (λ i. record {
      offset = (p.begins.offset ∙ sym q.begins.offset) i;
      named = (p.begins.named ∙ sym q.begins.named) i;
    }) in
    let same : h ≡ k =
    (one-header h k p.begins.rest q.begins.rest p.begins.valid q.begins.valid origin
    (sym p.begins.octets_are ∙ q.begins.octets_are)).0 in
    let count : f.id_len ≡ g.id_len =
    sym (identifier-count octets offset named f m p)
    ∙ (ap (λ (x : HeaderValue). length x.identifier_octets) same ∙ identifier-count octets offset named g n q) in (
      (λ i. record {
        offset = (same i).offset;
        named = (same i).named;
        class = (same i).class;
        constructed = (same i).constructed;
        number = (same i).number;
        size = (same i).size;
        id_len = count i;
      }),
      sym (octets-count octets offset named f m p)
          ∙ (ap (λ (x : HeaderValue). length (octets_of x)) same ∙ octets-count octets offset named g n q),
    )
