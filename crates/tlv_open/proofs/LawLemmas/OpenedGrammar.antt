-- Elements obey the grammar if the strings that are opened are named, and the same octets are refused after them.
use Rattle.std.proofs.Common.{◌≡◌, ◌≢◌, ℕ, ◌+◌, ◌<◌, ◌≤◌, Bool, true, false, List, [], ◌∷◌, ◌++◌, length, Option}
use Rattle.std.proofs.Common.{IfSome}
use Rattle.std.proofs.Common.{refl, sym, ap, ap₂, ◌∙◌, arith, subst, length-append}
use Rattle.tlv_head.specs.declared.fault.FaultCode.{FaultCode}
use Rattle.tlv_head.specs.declared.header.Size.TheVariants.{Definite}
use Rattle.tlv_head.specs.Header.{HeaderValue, definite_length, octets_of}
use Rattle.tlv_head.proofs.ReaderLemmas.Prefix.{header-two}
use Rattle.tlv_walk.specs.Ending.{IsRefusedAt, OpenEnd, bad_end, bad_inside, open_at, missing_end, no_end, no_room}
use Rattle.tlv_walk.specs.Ending.{open_end, overrun, refused_octet, stray_end, too_deep}
use Rattle.tlv_walk.specs.Forest.{Forest, Holder, NoMore, OpenBitString, OpenEndOctets, OpenHeader, OpenHolder}
use Rattle.tlv_walk.specs.Forest.{OpenPrimitive, Primitive, holder_extent}
use Rattle.tlv_walk.specs.Forest.{lead, opening, primitive_extent, spelling}
use Rattle.tlv_head.specs.Lists.{is_among}
use Rattle.tlv_walk.specs.Place.{Fits, IsHeaderAt, ObeysGrammar, Place, announced_extent}
use Rattle.tlv_walk.specs.Private.Stack.{bound_in}
use Rattle.tlv_walk.specs.Stack.{IsWithin}
use Rattle.tlv_walk.specs.Place.{place_after, place_of_children}
use Rattle.tlv_walk.specs.Reading.{IsSound}
use Rattle.tlv_walk.proofs.GrammarLemmas.PlacedSpelling.{Agrees}
use Rattle.tlv_walk.proofs.GrammarLemmas.SoundElements.{sound-obeys_grammar, sound-whole}
use Rattle.tlv_walk.proofs.GrammarLemmas.Spellings.{length-opening, length-primitive}
use Rattle.tlv_open.specs.Held.{place_by_itself}
use Rattle.tlv_open.specs.Opens.{Opens, Where, closed, holder, no_more, open_bit_string, open_end_octets, open_header}
use Rattle.tlv_open.specs.Opens.{open_holder, open_primitive, opened, padded}
use Rattle.tlv_open.proofs.LawLemmas.OpenedForest.{ArePlain, grammar-plain, moved, opened_forest, opened-rise}
use Rattle.tlv_open.proofs.LawLemmas.OpenedForest.{opened-spelling, opened-whole}
use Rattle.tlv_open.proofs.LawLemmas.OpenedSound.{IsMovedTo, agrees-children, agrees-inner, agrees-others, agrees-rest}
use Rattle.tlv_open.proofs.LawLemmas.OpenedSound.{children-extent, children-has_length, contents-size, header-named}
use Rattle.tlv_open.proofs.LawLemmas.OpenedSound.{header-unnamed, held-extent, held-has_length, held-length}
use Rattle.tlv_open.proofs.LawLemmas.OpenedSound.{holder-unnamed, opened-sound, string-named}
use Rattle.tlv_open.proofs.LawLemmas.Rising.{before-none}

-- the same place, but for the offsets that are named
pub record IsSamePlace (p q : Place) : Type 0 where
  pub offset : q.offset ≡ p.offset
  pub depth : q.depth ≡ p.depth
  pub bound : q.bound ≡ p.bound
  pub indefinite : q.indefinite ≡ p.indefinite
  pub padding : q.padding ≡ p.padding

same-after : (p q : Place) (m n : ℕ) → n ≡ m → IsSamePlace p q → IsSamePlace (place_after p m) (place_after q n)
same-after p q m n e s = record {
  offset = omega (arith, s.offset, e);
  depth = s.depth;
  bound = s.bound;
  indefinite = s.indefinite;
  padding = s.padding;
}

same-children : (p q : Place) (start : ℕ) (named : Bool) (h : HeaderValue) → IsSamePlace p q
    → IsSamePlace (place_of_children p h) (place_of_children q (moved start named h))
same-children p q start named h s = record {
  offset = ap (λ (o : ℕ). o + length (opening h)) s.offset;
  depth = ap (λ (d : ℕ). d + 1) s.depth;
  bound = ap₂ (λ (o : ℕ) (b : Option ℕ). bound_in h.size (o + length (octets_of h)) b) s.offset s.bound;
  indefinite = refl;
  padding = refl;
}

fits-same : (p q : Place) (m n : ℕ) → IsSamePlace p q → n ≡ m → Fits p m → Fits q n
fits-same p q m n s e f =
    let at : p.offset + m ≡ q.offset + n = omega (arith, s.offset, e) in
    subst (λ (b : Option ℕ). IsWithin b (q.offset + n)) (sym s.bound)
    (subst (λ (o : ℕ). IsWithin p.bound o) at f)

fits-back : (p q : Place) (n : ℕ) → IsSamePlace p q → Fits q n → Fits p n
fits-back p q n s f =
    let at : q.offset + n ≡ p.offset + n = omega (arith, s.offset) in
    subst (λ (b : Option ℕ). IsWithin b (p.offset + n)) s.bound (subst (λ (o : ℕ). IsWithin q.bound o) at f)

-- ---- What is refused

abbrev is_header_begun : Forest → Bool
is_header_begun (OpenHeader octets) = true
is_header_begun f = false

header-same : (p q : Place) (h : HeaderValue) → IsSamePlace p q → p.inside ≡ []
    → is_among q.offset q.inside ≡ false → IsHeaderAt p h → IsHeaderAt q h
header-same p q h s e none k = record {
  valid = k.valid;
  offset = k.offset ∙ sym s.offset;
  named = k.named ∙ (ap (is_among p.offset) e ∙ sym none);
}

refused-same : (e : OpenEnd) (q : Place) (x : ℕ) (code : FaultCode) → IsRefusedAt e x code → IsSamePlace e.place q
    → e.place.inside ≡ [] → (is_header_begun e.forest ≡ true → is_among q.offset q.inside ≡ false)
    → IsRefusedAt (open_at q e.forest) x code
refused-same e q x code (bad_inside nz) s i n = bad_inside nz
refused-same e q x code (missing_end {p = p} a) s i n = missing_end (λ f. a (fits-back p q 2 s f))
refused-same e q x code (bad_end {p = p} f nz) s i n = bad_end (fits-same p q 2 2 s refl f) nz
refused-same e q x code (no_room {p = p} {o = o} a) s i n = no_room (λ f. a (fits-back p q (length o + 1) s f))
refused-same e q x code (refused_octet {p = p} {o = o} f r) s i n =
    refused_octet (fits-same p q (length o + 1) (length o + 1) s refl f) r
refused-same e q x code (too_deep {p = p} {o = o} f h k form is deep) s i n =
    too_deep (fits-same p q (length o + 1) (length o + 1) s refl f) h (header-same p q h s i (n refl) k) form is
    (omega (arith, deep, s.depth))
refused-same e q x code (overrun {p = p} {o = o} f h k is shallow a) s i n =
    overrun (fits-same p q (length o + 1) (length o + 1) s refl f) h (header-same p q h s i (n refl) k) is
    (λ t. let few : p.depth < 128 = shallow t in omega (arith, few, s.depth))
    (λ t. a (fits-back p q (announced_extent h) s t))
refused-same e q x code (no_end {p = p} d a) s i n = no_end (s.indefinite ∙ d) (λ f. a (fits-back p q 1 s f))
refused-same e q x code (stray_end d t z) s i n = stray_end (s.indefinite ∙ d) (s.padding ∙ t) z

abbrev is_primitive_begun : Forest → Bool
is_primitive_begun (OpenPrimitive h c) = true
is_primitive_begun f = false

-- no octet of contents is refused
contents-taken : (e : OpenEnd) (x : ℕ) (code : FaultCode) → IsRefusedAt e x code → is_primitive_begun e.forest ≡ true
    → ⊥
contents-taken e x code (bad_inside nz) t = absurd (cc (t))
contents-taken e x code (missing_end a) t = absurd (cc (t))
contents-taken e x code (bad_end f nz) t = absurd (cc (t))
contents-taken e x code (no_room a) t = absurd (cc (t))
contents-taken e x code (refused_octet f r) t = absurd (cc (t))
contents-taken e x code (too_deep f h k form is deep) t = absurd (cc (t))
contents-taken e x code (overrun f h k is shallow a) t = absurd (cc (t))
contents-taken e x code (no_end d a) t = absurd (cc (t))
contents-taken e x code (stray_end d u z) t = absurd (cc (t))

-- ---- Elements that obey the grammar

-- they obey it with strings named, and what is refused after them is refused then
pub record AreOpenedWell (p q : Place) (f g : Forest) : Type 0 where
  pub obeys : ObeysGrammar q g
  pub refuses : (x : ℕ) (code : FaultCode) → IsRefusedAt (open_end p f) x code → IsRefusedAt (open_end q g) x code

moved-to : (start : ℕ) (p q : Place) → start ≡ 0 → IsSamePlace p q → IsMovedTo start p q
moved-to start p q z s = record { offset = omega (arith, s.offset, z); depth = s.depth; padding = s.padding }

some-octet : (o : List ℕ) → o ≢ [] → 0 < length o
some-octet [] n = absurd (n refl)
some-octet (x ∷ o) n = omega arith

pub opened-grammar : {w : Where} {f : Forest} {xs : List ℕ} (p q : Place) → (d : Opens w f xs) → p.inside ≡ []
    → p.depth ≡ w.depth → w.start ≡ 0 → IsSamePlace p q → ObeysGrammar p f → Agrees q xs (length (spelling f))
    → AreOpenedWell p q f (opened_forest d)
opened-grammar p q no_more e k z s o agrees = record {
  obeys = tt;
  refuses = λ x code t. refused-same (open_at p NoMore) q x code t s e (λ u. absurd (cc (u)));
}
opened-grammar {w = w} p q (padded {rest = rest} r) e k z s o agrees =
    let i : AreOpenedWell (place_after p 1) (place_after q 1) rest (opened_forest r) =
    opened-grammar (place_after p 1) (place_after q 1) r e k z (same-after p q 1 1 refl s) o.1
    (λ i least most. agrees i (omega (arith, least)) (omega (arith, most))) in
    record {
      obeys = ((s.padding ∙ o.0.0, s.indefinite ∙ o.0.1, fits-same p q 1 1 s refl o.0.2), i.obeys);
      refuses = i.refuses;
    }
opened-grammar {w = w} p q
    (opened {h = h} {contents = contents} {rest = rest} {xs = xs} {ys = ys} may inner held a r) e k z s o agrees =
    let plain : ArePlain p.offset (Primitive h contents rest) = grammar-plain p (Primitive h contents rest) e o in
    let m : IsMovedTo w.start p q = moved-to w.start p q z s in
    let size : h.size ≡ Definite (length contents) = o.0.1 in
    let string : HeaderValue = moved w.start true h in
    let far : holder_extent string (opened_forest a) ≡ primitive_extent h contents =
    held-extent w h contents inner rest xs ys p.offset held a r plain.0.0 size plain.1 q m.offset agrees in
    let sound : IsSound (place_of_children q string) (opened_forest a) =
    opened-sound (place_by_itself (w.depth + 1)) (place_of_children q string) a refl refl
    (record {
      offset = omega (arith, m.offset, plain.0.0.offset);
      depth = omega (arith, k, m.depth);
      padding = refl;
    })
    held.sound
    (agrees-inner w h contents inner rest xs ys p.offset held a r plain.0.0 size plain.1 q m.offset agrees) in
    let held_is : length (spelling (opened_forest a)) ≡ length (spelling inner) =
    held-length w h contents inner rest xs ys p.offset held a r plain.0.0 size plain.1 q m.offset agrees in
    let all : length contents ≡ length (lead h) + length (spelling inner) =
    contents-size w h contents inner rest xs ys p.offset held a r plain.0.0 size plain.1 q m.offset agrees in
    let i : AreOpenedWell (place_after p (primitive_extent h contents))
    (place_after q (holder_extent string (opened_forest a))) rest (opened_forest r) =
    opened-grammar (place_after p (primitive_extent h contents)) (place_after q (holder_extent string (opened_forest a))) r e
    k z (same-after p q _ _ far s) o.1
    (agrees-rest w h contents inner rest xs ys p.offset held a r plain.0.0 size plain.1 q m.offset agrees) in
    let there = header-named w.start q p.offset w.depth h contents inner plain.0.0 size held m.offset
    (string-named w h contents inner rest xs ys p.offset held a r plain.0.0 size plain.1 q m.offset agrees) in
    record {
      obeys = (
        (
          record {
            header = there.0;
            holding = there.1;
            shallow = omega (arith, held.shallow, k, m.depth);
            fits = fits-same p q _ _ s far o.0.0.fits;
          },
          opened-whole a ∙ sound-whole (place_by_itself (w.depth + 1)) inner held.sound,
          held-has_length w h contents inner rest xs ys p.offset held a r plain.0.0 size plain.1 q m.offset agrees,
        ),
        sound-obeys_grammar (place_of_children q string) (opened_forest a) (λ t. absurd (cc (t)))
            (rw size (omega (arith, held_is, all, length-opening h))) sound,
        i.obeys,
      );
      refuses = i.refuses;
    }
opened-grammar {w = w} {xs = xs} p q (closed {h = h} {contents = contents} {rest = rest} none r) e k z s o agrees =
    let plain : ArePlain p.offset (Primitive h contents rest) = grammar-plain p (Primitive h contents rest) e o in
    let m : IsMovedTo w.start p q = moved-to w.start p q z s in
    let two : 2 ≤ length (octets_of h) = header-two h plain.0.0.valid in
    let unnamed : is_among q.offset q.inside ≡ false =
    agrees q.offset (omega arith) (omega (arith, length-primitive h contents rest, two))
    ∙ before-none _ _ q.offset xs (omega (arith, m.offset, two))
    (opened-rise (p.offset + primitive_extent h contents) r plain.1) in
    let i : AreOpenedWell (place_after p (primitive_extent h contents)) (place_after q (primitive_extent h contents))
    rest (opened_forest r) =
    opened-grammar (place_after p (primitive_extent h contents)) (place_after q (primitive_extent h contents)) r e k z
    (same-after p q _ _ refl s) o.1
    (λ i least most. agrees i (omega (arith, least)) (omega (arith, most, length-primitive h contents rest))) in
    let there = header-unnamed w.start q p.offset false h plain.0.0 m.offset unnamed in
    record {
      obeys = (
        (
          record {
            header = there.0;
            holding = there.1;
            fits = fits-same p q _ _ s refl o.0.0.fits;
          },
          o.0.1,
        ),
        i.obeys,
      );
      refuses = i.refuses;
    }
opened-grammar {w = w} p q (holder {h = h} {children = children} {rest = rest} {xs = xs} {ys = ys} a r) e k z s o
    agrees =
    let plain : ArePlain p.offset (Holder h children rest) = grammar-plain p (Holder h children rest) e o in
    let m : IsMovedTo w.start p q = moved-to w.start p q z s in
    let head : HeaderValue = moved w.start false h in
    let far : holder_extent head (opened_forest a) ≡ holder_extent h children =
    children-extent w _ h children rest xs ys p.offset refl a r plain.0 plain.1 plain.2 q m.offset agrees in
    let c : AreOpenedWell (place_of_children p h) (place_of_children q head) children (opened_forest a) =
    opened-grammar (place_of_children p h) (place_of_children q head) a e (ap (λ (n : ℕ). n + 1) k) z
    (same-children p q w.start false h s) o.1
    (agrees-children w _ h children rest xs ys p.offset refl a r plain.0 plain.1 plain.2 q m.offset agrees) in
    let i : AreOpenedWell (place_after p (holder_extent h children)) (place_after q (holder_extent head (opened_forest a))) rest
    (opened_forest r) =
    opened-grammar (place_after p (holder_extent h children)) (place_after q (holder_extent head (opened_forest a))) r e k z
    (same-after p q _ _ far s) o.2
    (agrees-others w _ h children rest xs ys p.offset refl a r plain.0 plain.1 plain.2 q m.offset agrees) in
    let there = header-unnamed w.start q p.offset true h plain.0 m.offset
    (holder-unnamed w _ h children rest xs ys p.offset refl a r plain.0 plain.1 plain.2 q m.offset agrees) in
    record {
      obeys = (
        (
          record {
            header = there.0;
            holding = there.1;
            shallow = omega (arith, o.0.0.shallow, s.depth);
            fits = fits-same p q _ _ s far o.0.0.fits;
          },
          opened-whole a ∙ o.0.1,
          children-has_length w _ h children rest xs ys p.offset refl a r plain.0 plain.1 plain.2 q m.offset agrees
              o.0.2,
        ),
        c.obeys,
        i.obeys,
      );
      refuses = i.refuses;
    }
opened-grammar {w = w} {xs = xs} p q (open_holder {h = h} {children = children} a) e k z s o agrees =
    let plain : ArePlain p.offset (OpenHolder h children) = grammar-plain p (OpenHolder h children) e o in
    let m : IsMovedTo w.start p q = moved-to w.start p q z s in
    let head : HeaderValue = moved w.start false h in
    let two : 2 ≤ length (octets_of h) = header-two h plain.0.valid in
    let total : length (opening h ++ spelling children) ≡ length (opening h) + length (spelling children) =
    length-append (opening h) (spelling children) in
    let unnamed : is_among q.offset q.inside ≡ false =
    agrees q.offset (omega arith) (omega (arith, total, two, length-opening h))
    ∙ before-none _ _ q.offset xs (omega (arith, m.offset, two, length-opening h))
    (opened-rise (p.offset + length (opening h)) a plain.1) in
    let c : AreOpenedWell (place_of_children p h) (place_of_children q head) children (opened_forest a) =
    opened-grammar (place_of_children p h) (place_of_children q head) a e (ap (λ (n : ℕ). n + 1) k) z
    (same-children p q w.start false h s) o.1
    (λ i least most. agrees i (omega (arith, least)) (omega (arith, most, total))) in
    let same : length (spelling (opened_forest a)) ≡ length (spelling children) =
    ap length (opened-spelling (p.offset + length (opening h)) a plain.1) in
    let there = header-unnamed w.start q p.offset true h plain.0 m.offset unnamed in
    record {
      obeys = (
        (
          record {
            header = there.0;
            holding = there.1;
            shallow = omega (arith, o.0.0.shallow, s.depth);
            fits = fits-same p q _ _ s refl o.0.0.fits;
          },
          λ t.
              subst (λ (l : ℕ). IfSome (definite_length h.size) (λ n. length (lead h) + l < n)) (sym same)
              (o.0.1 (sym (opened-whole a) ∙ t)),
        ),
        c.obeys,
      );
      refuses = c.refuses;
    }
opened-grammar {w = w} p q (open_primitive {h = h} {contents = contents}) e k z s o agrees =
    let plain : ArePlain p.offset (OpenPrimitive h contents) = grammar-plain p (OpenPrimitive h contents) e o in
    let m : IsMovedTo w.start p q = moved-to w.start p q z s in
    let two : 2 ≤ length (octets_of h) = header-two h plain.valid in
    let unnamed : is_among q.offset q.inside ≡ false =
    agrees q.offset (omega arith) (omega (arith, two, length-append (octets_of h) contents)) in
    let there = header-unnamed w.start q p.offset false h plain m.offset unnamed in
    record {
      obeys = (
        record {
          header = there.0;
          holding = there.1;
          fits = fits-same p q _ _ s refl o.0.fits;
        },
        o.1,
      );
      refuses = λ x code t. absurd (contents-taken (open_at p (OpenPrimitive h contents)) x code t refl);
    }
opened-grammar p q (open_bit_string {h = h}) e k z s o agrees = absurd (grammar-plain p (OpenBitString h) e o)
opened-grammar p q (open_header {octets = octets}) e k z s o agrees = record {
  obeys = (o.0, o.1, fits-same p q _ _ s refl o.2);
  refuses = λ x code t.
      refused-same (open_at p (OpenHeader octets)) q x code t s e
      (λ u. agrees q.offset (omega arith) (omega (arith, some-octet octets o.0)));
}
opened-grammar p q open_end_octets e k z s o agrees = record {
  obeys = (s.indefinite ∙ o.0, fits-same p q 1 1 s refl o.1);
  refuses = λ x code t. refused-same (open_at p OpenEndOctets) q x code t s e (λ u. absurd (cc (u)));
}
