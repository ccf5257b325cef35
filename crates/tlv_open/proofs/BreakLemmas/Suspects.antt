-- Which strings look like encodings.
use Rattle.std.proofs.Common.{◌≡◌, ℕ, ◌+◌, ◌-◌, ◌<◌, ◌≤◌, false, List, length, take, sym, ap, ◌∙◌, arith}
use Rattle.tlv_head.specs.declared.header.HeaderFields.{HeaderFields}
use Rattle.tlv_head.specs.declared.header.Size.TheVariants.{Definite}
use Rattle.tlv_head.specs.Header.{HeaderValue, octets_of}
use Rattle.tlv_head.specs.HeaderFields.{new_header}
use Rattle.tlv_head.specs.ReadHeader.{BeginsWithFields}
use Rattle.tlv_head.proofs.GrammarLemmas.Headers.{one-header}
use Rattle.tlv_head.proofs.GrammarLemmas.Scan.{origin_of}
use Rattle.tlv_open.specs.Breaks.{HaveAnnouncedSize}
use Rattle.tlv_open.proofs.FinderLemmas.FirstRead.{head-count}

module _ (octets : List ℕ) (f : HeaderFields) (count : ℕ) (b : BeginsWithFields octets 0 false f count) where
  abbrev h : HeaderValue
  h = new_header f (take count octets)

  pub announced-some : (m : ℕ) → 24 < length octets → f.size ≡ Definite m → m ≤ (length octets - count) + 8
      → length octets - count ≤ m + 8 → HaveAnnouncedSize octets
  announced-some m many size late early = record {
    many = many;
    header = h;
    begins = b.begins;
    announced = m;
    definite = size;
    not_before = omega (arith, head-count octets 0 f count b, b.within, early);
    not_after = omega (arith, head-count octets 0 f count b, b.within, late);
  }

  announced-header : (s : HaveAnnouncedSize octets) → h ≡ s.header
  announced-header s =
      let origin : origin_of h ≡ origin_of s.header =
      (λ i. record {
        offset = (b.begins.offset ∙ sym s.begins.offset) i;
        named = (b.begins.named ∙ sym s.begins.named) i;
      }) in
      (one-header h s.header b.begins.rest s.begins.rest b.begins.valid s.begins.valid origin
      (sym b.begins.octets_are ∙ s.begins.octets_are)).0

  pub announced-size : (s : HaveAnnouncedSize octets) → f.size ≡ Definite s.announced
  announced-size s = ap (λ (k : HeaderValue). k.size) (announced-header s) ∙ s.definite

  announced-count : (s : HaveAnnouncedSize octets) → length (octets_of s.header) ≡ count
  announced-count s =
      sym (ap (λ (k : HeaderValue). length (octets_of k)) (announced-header s)) ∙ head-count octets 0 f count b

  pub announced-late : (s : HaveAnnouncedSize octets) → s.announced ≤ (length octets - count) + 8
  announced-late s = omega (arith, announced-count s, s.not_after, b.within)

  pub announced-early : (s : HaveAnnouncedSize octets) → length octets - count ≤ s.announced + 8
  announced-early s = omega (arith, announced-count s, s.not_before, b.within)
