-- Sound elements can be spelled with headers as short as they can be, and lengths of one form; the strings that
-- hold elements are named where they then are.
use Rattle.std.proofs.Common.{◌≡◌, ◌≢◌, not, eqb, ℕ, ◌+◌, ◌^◌, ◌<◌, ◌≤◌, Bool, true, false, List, [], ◌∷◌, ◌++◌, length}
use Rattle.std.proofs.Common.{refl, sym, ap, ap₂, ◌∙◌, arith, subst, length-append}
use Rattle.tlv_head.specs.declared.header.Size.{Size}
use Rattle.tlv_head.specs.declared.header.Size.TheVariants.{Definite}
use Rattle.tlv_head.specs.Header.{HeaderValue, IsHeader, identifier_octet, octets_of, wraps}
use Rattle.tlv_head.proofs.ShortestLemmas.OneShortest.{identifier-some, lengths-some}
use Rattle.tlv_walk.specs.AlikeElements.{HaveNoUniversalZero, holders, nothing, padding, primitives}
use Rattle.tlv_walk.specs.Forest.{Forest, NoMore, PaddingOctet, Primitive, Holder, OpenPrimitive, OpenHolder}
use Rattle.tlv_walk.specs.Forest.{OpenBitString, OpenHeader, OpenEndOctets, end_octets, holder_extent, lead, opening}
use Rattle.tlv_walk.specs.Forest.{spelling}
use Rattle.tlv_head.specs.Lists.{is_among}
use Rattle.tlv_walk.specs.Place.{Place, place_after, place_of_children}
use Rattle.tlv_walk.specs.Reading.{IsSound}
use Rattle.tlv_walk.specs.Wrappers.{wrapper_offsets}
use Rattle.tlv_walk.proofs.GrammarLemmas.Leads.{lead_by, wrapper_offset_by}
use Rattle.tlv_head.proofs.ReaderLemmas.Prefix.{header-two}
use Rattle.tlv_walk.proofs.GrammarLemmas.Spellings.{length-holder, length-opening, length-primitive}
use Rattle.tlv_walk.proofs.GrammarLemmas.ShortHeaders.{Octets, header_of, octets-in, header-valid, header-shortest}
use Rattle.tlv_walk.proofs.GrammarLemmas.ShortHeaders.{octets-for, header-some, size-for, size-below, size-form}
use Rattle.tlv_walk.proofs.GrammarLemmas.ShortHeaders.{size-length, allows-size, lead-short, not-holding, Holds}
use Rattle.tlv_walk.proofs.GrammarLemmas.ShortHeaders.{holds-again, identifier-same_form}
use Rattle.tlv_walk.proofs.GrammarLemmas.PlacedSpelling.{JoinsOffsets, SpelledAt, Spelling, offsets-join, joint_names}

module _ (form : Bool → Bool) (definite : form false ≡ false) where
  spelling-padding : (p : Place) (rest : Forest) → p.padding ≡ true → Spelling form (place_after p 1) rest
      → Spelling form p (PaddingOctet rest)
  spelling-padding p rest allowed r = record {
    octets = 0 ∷ r.octets;
    names = λ offset. r.names (offset + 1);
    short = omega (arith, r.short);
    names_after = λ offset i less. r.names_after (offset + 1) i (omega (arith, less));
    names_within = λ offset i more. r.names_within (offset + 1) i (omega (arith, more));
    there = λ q like agrees.
        let t : SpelledAt form (place_after q 1) rest r.octets (r.names (q.offset + 1)) =
        r.there (place_after q 1) (record { padding = like.padding; depth = like.depth })
        (λ i least most. agrees i (omega (arith, least)) (omega (arith, most))) in
        record {
          forest = PaddingOctet t.forest;
          alike = padding rest t.forest t.alike;
          sound = (like.padding ∙ allowed, t.sound);
          regular = t.regular;
          spelled = ap (λ (l : List ℕ). 0 ∷ l) t.spelled;
          names_are = t.names_are;
        };
  }

  spelling-primitive : (p : Place) (h : HeaderValue) (c : List ℕ) (rest : Forest) → h.constructed ≡ false → IsHeader h
      → (o : Octets h false (Definite (length c)))
      → Spelling form (place_after p (length (octets_of h) + length c)) rest → Spelling form p (Primitive h c rest)
  spelling-primitive p h c rest primitive valid o r =
      let header : List ℕ = octets-in h false (Definite (length c)) o in
      let total : length (header ++ (c ++ r.octets)) ≡ length header + (length c + length r.octets) =
      omega (arith, length-append header (c ++ r.octets), length-append c r.octets) in
      let some : 1 ≤ length header = header-some h false (Definite (length c)) o in
      record {
        octets = header ++ (c ++ r.octets);
        names = λ offset. r.names (offset + (length header + length c));
        short =
            let id : 1 ≤ length h.identifier_octets =
            identifier-some h.class h.constructed h.number h.identifier_octets valid.identifier in
            let len : 1 ≤ length h.length_octets = lengths-some h.size h.length_octets valid.lengths in
            omega (
              arith,
              id,
              len,
              o.short,
              o.short_lengths,
              r.short,
              total,
              length-primitive h c rest,
              length-append h.identifier_octets h.length_octets,
              length-append o.identifier.octets o.lengths.octets,
            );
        names_after = λ offset i less. r.names_after (offset + (length header + length c)) i (omega (arith, less));
        names_within =
            λ offset i more. r.names_within (offset + (length header + length c)) i (omega (arith, more, total));
        there = λ q like agrees.
            let k : HeaderValue = header_of h false false (Definite (length c)) o q.offset in
            let next : ℕ = q.offset + (length header + length c) in
            let t : SpelledAt form (place_after q (length header + length c)) rest r.octets (r.names next) =
            r.there (place_after q (length header + length c)) (record { padding = like.padding; depth = like.depth })
            (λ i least most. agrees i (omega (arith, least)) (omega (arith, most, total))) in
            let unnamed : is_among q.offset q.inside ≡ false =
            agrees q.offset (omega arith) (omega (arith, total, some))
            ∙ r.names_after next q.offset (omega (arith, some)) in
            record {
              forest = Primitive k c t.forest;
              alike =
                  primitives h k c rest t.forest (record { class = refl; constructed = primitive; number = refl })
                  t.alike;
              sound = (
                (
                  record {
                    valid = header-valid h false false (Definite (length c)) o q.offset;
                    offset = refl;
                    named = sym unnamed;
                  },
                  refl,
                  refl,
                ),
                t.sound,
              );
              regular = (
                record {
                  shortest =
                      header-shortest h false false (Definite (length c)) o q.offset;
                  by_form = sym definite;
                },
                t.regular,
              );
              spelled = ap (λ (l : List ℕ). header ++ (c ++ l)) t.spelled;
              names_are = t.names_are;
            };
      }

  spelling-holder : (p : Place) (h : HeaderValue) (inside rest : Forest) (constructed : Bool)
      → h.constructed ≡ constructed → IsHeader h → p.depth < 128
      → (held : Spelling form (place_of_children p h) inside)
      → Holds h constructed (form constructed) (length held.octets)
      → (o : Octets h constructed
      (size-for (form constructed) (length (lead_by constructed (eqb h.number 3)) + length held.octets)))
      → Spelling form (place_after p (holder_extent h inside)) rest → Spelling form p (Holder h inside rest)
  spelling-holder p h inside rest constructed is valid few held holding o r =
      let first : List ℕ = lead_by constructed (eqb h.number 3) in
      let m : ℕ = length first + length held.octets in
      let size : Size = size-for (form constructed) m in
      let begins : List ℕ = octets-in h constructed size o ++ first in
      let ends : List ℕ = end_octets size in
      let some : 1 ≤ length begins =
      omega (arith, header-some h constructed size o, length-append (octets-in h constructed size o) first) in
      let total : length (begins ++ (held.octets ++ (ends ++ r.octets)))
      ≡ length begins + (length held.octets + (length ends + length r.octets)) =
      omega (
        arith,
        length-append begins (held.octets ++ (ends ++ r.octets)),
        length-append held.octets (ends ++ r.octets),
        length-append ends r.octets,
      ) in
      let far : ℕ = length begins + (length held.octets + length ends) in
      let joint : JoinsOffsets constructed held.names r.names (length begins) (length held.octets) far
      (length r.octets) =
      offsets-join constructed held.names r.names (length begins) (length held.octets) far (length r.octets) some
      (omega arith)
      held.names_after held.names_within r.names_after r.names_within in
      let lead_is : length first ≡ length (lead h) = ap (λ (k : Bool). length (lead_by k (eqb h.number 3))) (sym is) in
      record {
        octets = begins ++ (held.octets ++ (ends ++ r.octets));
        names = joint_names constructed held.names r.names (length begins) far;
        short =
            let id : 1 ≤ length h.identifier_octets =
            identifier-some h.class h.constructed h.number h.identifier_octets valid.identifier in
            let len : 1 ≤ length h.length_octets = lengths-some h.size h.length_octets valid.lengths in
            omega (
              arith,
              id,
              len,
              o.short,
              o.short_lengths,
              held.short,
              r.short,
              total,
              lead_is,
              length-holder h inside rest,
              length-opening h,
              length-append h.identifier_octets h.length_octets,
              length-append (octets-in h constructed size o) first,
              length-append o.identifier.octets o.lengths.octets,
            );
        names_after = joint.after;
        names_within = λ offset i more. joint.within offset i (omega (arith, more, total));
        there = λ q like agrees.
            let k : HeaderValue = header_of h (not constructed) constructed size o q.offset in
            let named : is_among q.offset q.inside ≡ not constructed =
            agrees q.offset (omega arith) (omega (arith, total, some)) ∙ joint.of_own q.offset in
            let i : SpelledAt form (place_of_children q k) inside held.octets (held.names (q.offset + length begins)) =
            held.there (place_of_children q k) (record { padding = refl; depth = ap (λ (d : ℕ). d + 1) like.depth })
            (λ j least most. agrees j (omega (arith, least)) (omega (arith, most, total))
            ∙ joint.of_inner q.offset j least most) in
            let next_is : holder_extent k i.forest ≡ far =
            ap (λ (l : List ℕ). length begins + (length l + length ends)) i.spelled in
            let t : SpelledAt form (place_after q (holder_extent k i.forest)) rest r.octets
            (r.names (q.offset + holder_extent k i.forest)) =
            r.there (place_after q (holder_extent k i.forest)) (record { padding = like.padding; depth = like.depth })
            (λ j least most.
            agrees j (omega (arith, least)) (omega (arith, most, next_is, total))
            ∙ joint.of_others q.offset j (omega (arith, least, next_is))
            ∙ ap (λ (n : ℕ). is_among j (r.names (q.offset + n))) (sym next_is)) in
            let others_are : wrapper_offsets t.forest ≡ r.names (q.offset + far) =
            t.names_are ∙ ap (λ (n : ℕ). r.names (q.offset + n)) next_is in
            record {
              forest = Holder k i.forest t.forest;
              alike =
                  holders h k inside i.forest rest t.forest (record { class = refl; constructed = is; number = refl })
                  i.alike t.alike;
              sound = (
                (
                  record {
                    valid = header-valid h (not constructed) constructed size o q.offset;
                    offset = refl;
                    named = sym named;
                  },
                  holding.again,
                  omega (arith, like.depth, few),
                  size-length (form constructed) m (length first + length (spelling i.forest))
                      (omega (arith, ap length i.spelled)),
                ),
                i.sound,
                t.sound,
              );
              regular = (
                record {
                  shortest =
                      header-shortest h (not constructed) constructed size o q.offset;
                  by_form =
                      size-form (form constructed) m;
                },
                i.regular,
                t.regular,
              );
              spelled = ap₂ (λ (x y : List ℕ). begins ++ (x ++ (ends ++ y))) i.spelled t.spelled;
              names_are =
                  ap₂ (λ (x y : List ℕ). wrapper_offset_by constructed q.offset ++ (x ++ y)) i.names_are others_are;
            };
      }

  pub sound-spelling : (p : Place) (f : Forest) → length (spelling f) ≤ 2 ^ 38 → IsSound p f → HaveNoUniversalZero f
      → Spelling form p f
  sound-spelling p NoMore few u low = record {
    octets = [];
    names = λ offset. [];
    short = omega arith;
    names_after = λ offset i less. refl;
    names_within = λ offset i more. refl;
    there = λ q like agrees. record {
      forest = NoMore;
      alike = nothing;
      sound = tt;
      regular = tt;
      spelled = refl;
      names_are = refl;
    };
  }
  sound-spelling p (PaddingOctet rest) few u low =
      spelling-padding p rest u.0 (sound-spelling (place_after p 1) rest (omega (arith, few)) u.1 low)
  sound-spelling p (Primitive h c rest) few u low =
      let count : length (spelling (Primitive h c rest)) ≡ length (octets_of h) + length c + length (spelling rest) =
      length-primitive h c rest in
      let primitive : h.constructed ≡ false =
      not-holding h.constructed (wraps h) u.0.1 in
      let o : Octets h false (Definite (length c)) =
      octets-for h false (Definite (length c))
      (identifier-same_form h.class h.constructed false h.number h.identifier_octets primitive u.0.0.valid.identifier)
      (subst (λ (k : Bool). identifier_octet h.class k h.number ≢ 0) primitive low.0) refl
      (omega (arith, count, few)) in
      spelling-primitive p h c rest primitive u.0.0.valid o
      (sound-spelling (place_after p (length (octets_of h) + length c)) rest (omega (arith, count, few)) u.1 low.1)
  sound-spelling p (Holder h inside rest) few u low =
      let count : length (spelling (Holder h inside rest)) ≡ holder_extent h inside + length (spelling rest) =
      length-holder h inside rest in
      let begins : length (opening h) ≡ length (octets_of h) + length (lead h) = length-opening h in
      let some : 2 ≤ length (octets_of h) = header-two h u.0.0.valid in
      let held : Spelling form (place_of_children p h) inside =
      sound-spelling (place_of_children p h) inside (omega (arith, count, few)) u.1 low.0 in
      let m : ℕ = length (lead h) + length held.octets in
      let below : m < 2 ^ 40 = omega (arith, held.short, count, begins, some, few, lead-short h.constructed h.number) in
      let primitive : h.constructed ≡ false → form h.constructed ≡ false = λ e. ap form e ∙ definite in
      let holding : Holds h h.constructed (form h.constructed) (length held.octets) =
      holds-again h h.constructed (form h.constructed) (length held.octets) primitive u.0.1 in
      let o : Octets h h.constructed (size-for (form h.constructed) m) =
      octets-for h h.constructed (size-for (form h.constructed) m) u.0.0.valid.identifier holding.nonzero
      (allows-size h.constructed (form h.constructed) m primitive)
      (size-below (form h.constructed) m below) in
      spelling-holder p h inside rest h.constructed refl u.0.0.valid u.0.2 held holding o
      (sound-spelling (place_after p (holder_extent h inside)) rest (omega (arith, count, few)) u.2 low.1)
  sound-spelling p (OpenPrimitive h c) few u low = absurd u
  sound-spelling p (OpenHolder h inside) few u low = absurd u
  sound-spelling p (OpenBitString h) few u low = absurd u
  sound-spelling p (OpenHeader octets) few u low = absurd u
  sound-spelling p OpenEndOctets few u low = absurd u
