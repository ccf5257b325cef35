-- What octets are read as, by the header with which they begin.
use Rattle.std.proofs.Common.{◌≡◌, ◌≢◌, ◌⊎◌, inl, inr, ℕ, ◌+◌, ◌<◌, ◌≤◌, Bool, true, false, eqb, List, []}
use Rattle.std.proofs.Common.{◌∷◌, ◌++◌, length, take, drop, IfSome, Option, get_or, refl, sym, ap, ◌∙◌, arith, subst}
use Rattle.std.proofs.Common.{append_assoc, append-nil, length-append, eqb-true}
use Rattle.std.proofs.lemmas.Bool.{and_parts}
use Rattle.std.proofs.lemmas.List.{length-take-le, take-append-drop}
use Rattle.tlv_head.specs.declared.header.HeaderFields.{HeaderFields}
use Rattle.tlv_head.specs.declared.header.Size.{Size}
use Rattle.tlv_head.specs.declared.header.Size.TheVariants.{Definite, Indefinite}
use Rattle.tlv_head.specs.Header.{HeaderValue, definite_length, holds, octets_of}
use Rattle.tlv_head.specs.HeaderFields.{new_header}
use Rattle.tlv_head.specs.ReadHeader.{BeginsWithFields}
use Rattle.tlv_head.specs.Refusal.{BeginsWithNoHeader, IsHeaderPrefix}
use Rattle.tlv_head.proofs.GrammarLemmas.Scan.{no-prefix}
use Rattle.tlv_head.proofs.ReaderLemmas.Prefix.{header-two}
use Rattle.tlv_walk.specs.Forest.{Forest, Holder, NoMore, OpenBitString, OpenEndOctets, OpenHeader, OpenHolder}
use Rattle.tlv_walk.specs.Forest.{OpenPrimitive, PaddingOctet, Primitive, end_octets, holder_extent, is_whole}
use Rattle.tlv_walk.specs.Forest.{lead, opening, primitive_extent, spelling}
use Rattle.tlv_head.specs.Lists.{is_among}
use Rattle.tlv_walk.specs.Place.{Fits, IsHeaderAt, ObeysGrammar, Place, place_after}
use Rattle.tlv_walk.specs.Private.Stack.{bound_in}
use Rattle.tlv_walk.specs.Stack.{IsWithin}
use Rattle.tlv_walk.specs.Place.{place_of_children}
use Rattle.tlv_walk.proofs.GrammarLemmas.Bounds.{fits-inside}
use Rattle.tlv_walk.proofs.GrammarLemmas.OpenElements.{size-definite, spelling-fits}
use Rattle.tlv_walk.proofs.GrammarLemmas.Leads.{lead-one}
use Rattle.tlv_walk.proofs.GrammarLemmas.Spellings.{length-opening}
use Rattle.tlv_open.specs.declared.spot.Spot.{Spot}
use Rattle.tlv_open.specs.Opens.{is_one_primitive}
use Rattle.tlv_open.specs.Private.Elements.{is_elements_end}
use Rattle.tlv_open.specs.Private.Finds.{EndsBefore, FindsUpTo, IsReadAt, stops}
use Rattle.tlv_open.proofs.FinderLemmas.NothingFound.{nothing_found}
use Rattle.tlv_open.proofs.ElementLemmas.FirstElement.{lead-none, length-led, unnamed-holds}
use Rattle.tlv_open.proofs.ElementLemmas.OneElement.{end-no_header, header-one, regroup-3, regroup-4, zero-no_header}
use Rattle.tlv_open.proofs.FinderLemmas.FoundBoth.{finds-open_header}

-- where no string is named, an element holds others exactly if it is constructed
pub unnamed-form : (p : Place) (holding : Bool) (h : HeaderValue) → p.inside ≡ [] → IsHeaderAt p h → holds h ≡ holding
    → h.constructed ≡ holding
unnamed-form p holding h none k form =
    sym (unnamed-holds h.constructed h.named h.class h.number h.size (k.named ∙ ap (is_among p.offset) none)) ∙ form

-- the element that has this header, if these octets follow it, and what follows it
pub data IsReadFirst (p : Place) (h : HeaderValue) (after rest : List ℕ) : Forest → Type 0 where
  first_primitive : {c : List ℕ} {g : Forest} → h.constructed ≡ false → h.size ≡ Definite (length c)
      → c ++ (spelling g ++ rest) ≡ after → ObeysGrammar (place_after p (primitive_extent h c)) g
      → IsReadFirst p h after rest (Primitive h c g)
  first_holder : {inside g : Forest} → h.constructed ≡ true → p.depth < 128
      → IfSome (definite_length h.size) (λ n. length (spelling inside) ≡ n) → is_whole inside ≡ true
      → ObeysGrammar (place_of_children p h) inside
      → spelling inside ++ (end_octets h.size ++ (spelling g ++ rest)) ≡ after
      → ObeysGrammar (place_after p (holder_extent h inside)) g
      → IsReadFirst p h after rest (Holder h inside g)
  first_open_primitive : {c : List ℕ} → h.constructed ≡ false → (n : ℕ) → h.size ≡ Definite n → length c < n
      → c ≡ after → rest ≡ [] → IsReadFirst p h after rest (OpenPrimitive h c)
  first_open_holder : {inside : Forest} → h.constructed ≡ true → p.depth < 128
      → IfSome (definite_length h.size) (λ n. length (spelling inside) ≤ n)
      → (is_whole inside ≡ true → IfSome (definite_length h.size) (λ n. length (spelling inside) < n))
      → ObeysGrammar (place_of_children p h) inside → spelling inside ≡ after → rest ≡ []
      → IsReadFirst p h after rest (OpenHolder h inside)

-- what is open has nothing after it
open-last : (ends : Bool) (f : Forest) (rest : List ℕ) → is_whole f ≡ false → (rest ≡ []) ⊎ EndsBefore ends f rest
    → rest ≡ []
open-last ends f rest o (inl e) = e
open-last ends f rest o (inr e) = let w : true ≡ false = sym e.whole ∙ o in absurd (cc (w))

-- contents so far within a definite length
within-length : (s : Size) (start : ℕ) (outside : Option ℕ) (l m : ℕ)
    → IsWithin (bound_in s start outside) ((start + l) + m) → IfSome (definite_length s) (λ n. m ≤ n)
within-length (Definite n) start outside l m f = omega arith
within-length Indefinite start outside l m f = tt

lacks-led : (s : Size) (l m : ℕ) → IfSome (definite_length s) (λ n. l + m < n)
    → IfSome (definite_length s) (λ n. m < n)
lacks-led (Definite n) l m f = omega arith
lacks-led Indefinite l m f = tt

module _ (p : Place) (h : HeaderValue) (after octets rest : List ℕ) (depth offset : ℕ) (ends : Bool)
    (at : IsHeaderAt p h) (whole : octets_of h ++ after ≡ octets) where
  first-cases : (f : Forest) → IsReadAt p f depth offset ends octets rest → IsReadFirst p h after rest f
  first-cases NoMore r = elim r.end [
    | inl e ↦
        absurd (omega (
          arith,
          header-two h at.valid,
          ap length whole,
          ap length e,
          ap length r.spelled,
          length-append (octets_of h) after,
        ))
    | inr e ↦ absurd (end-no_header true rest after h e.end at.valid (whole ∙ sym r.spelled))
  ]
  first-cases (PaddingOctet g) r =
      absurd (zero-no_header h 0 after (spelling g ++ rest) at.valid (whole ∙ sym r.spelled) refl)
  first-cases (Primitive k c g) r =
      let s : (k ≡ h) × (c ++ (spelling g ++ rest) ≡ after) =
      header-one p k h _ after r.obeys_grammar.0.0.header at
      (sym (regroup-3 (octets_of k) c (spelling g) rest) ∙ (r.spelled ∙ sym whole)) in
      subst (λ (z : HeaderValue). IsReadFirst p z after rest (Primitive k c g)) s.0
      (first_primitive (unnamed-form p false k r.none_named r.obeys_grammar.0.0.header r.obeys_grammar.0.0.holding)
      r.obeys_grammar.0.1 s.1 r.obeys_grammar.1)
  first-cases (Holder k inside g) r =
      let s : (k ≡ h) × (lead k ++ (spelling inside ++ (end_octets k.size ++ (spelling g ++ rest))) ≡ after) =
      header-one p k h _ after r.obeys_grammar.0.0.header at
      (sym (append_assoc (octets_of k) (lead k) _)
      ∙ (sym (regroup-4 (opening k) (spelling inside) (end_octets k.size) (spelling g) rest)
      ∙ (r.spelled ∙ sym whole))) in
      let constructed : k.constructed ≡ true =
      unnamed-form p true k r.none_named r.obeys_grammar.0.0.header r.obeys_grammar.0.0.holding in
      let none : lead k ≡ [] = lead-none k constructed in
      subst (λ (z : HeaderValue). IsReadFirst p z after rest (Holder k inside g)) s.0
      (first_holder constructed r.obeys_grammar.0.0.shallow
      (length-led k.size (length (lead k)) (length (spelling inside)) (ap (λ (o : List ℕ). length o) none)
      r.obeys_grammar.0.2)
      r.obeys_grammar.0.1 r.obeys_grammar.1
      (ap (λ (o : List ℕ). o ++ (spelling inside ++ (end_octets k.size ++ (spelling g ++ rest)))) (sym none) ∙ s.1)
      r.obeys_grammar.2)
  first-cases (OpenPrimitive k c) r =
      let nothing : rest ≡ [] = open-last ends (OpenPrimitive k c) rest refl r.end in
      let s : (k ≡ h) × (c ++ rest ≡ after) =
      header-one p k h _ after r.obeys_grammar.0.header at
      (sym (append_assoc (octets_of k) c rest) ∙ (r.spelled ∙ sym whole)) in
      let size : (n : ℕ) × (k.size ≡ Definite n) =
      size-definite k r.obeys_grammar.0.header.valid r.obeys_grammar.0.holding in
      subst (λ (z : HeaderValue). IsReadFirst p z after rest (OpenPrimitive k c)) s.0
      (first_open_primitive (unnamed-form p false k r.none_named r.obeys_grammar.0.header r.obeys_grammar.0.holding)
      size.0 size.1 (rw size.1 at r.obeys_grammar.1)
      (sym (append-nil c) ∙ (ap (λ (o : List ℕ). c ++ o) (sym nothing) ∙ s.1)) nothing)
  first-cases (OpenHolder k inside) r =
      let nothing : rest ≡ [] = open-last ends (OpenHolder k inside) rest refl r.end in
      let s : (k ≡ h) × (lead k ++ (spelling inside ++ rest) ≡ after) =
      header-one p k h _ after r.obeys_grammar.0.0.header at
      (sym (append_assoc (octets_of k) (lead k) (spelling inside ++ rest))
      ∙ (sym (append_assoc (opening k) (spelling inside) rest) ∙ (r.spelled ∙ sym whole))) in
      let constructed : k.constructed ≡ true =
      unnamed-form p true k r.none_named r.obeys_grammar.0.0.header r.obeys_grammar.0.0.holding in
      let none : lead k ≡ [] = lead-none k constructed in
      let fits : Fits (place_of_children p k) (length (spelling inside)) =
      spelling-fits (place_of_children p k) inside
      (fits-inside p k r.obeys_grammar.0.0.holding r.obeys_grammar.0.0.fits) r.obeys_grammar.1 in
      let room : (p.offset + length (opening k)) + length (spelling inside)
      ≡ ((p.offset + length (octets_of k)) + length (lead k)) + length (spelling inside) =
      omega (arith, length-opening k) in
      subst (λ (z : HeaderValue). IsReadFirst p z after rest (OpenHolder k inside)) s.0
      (first_open_holder constructed r.obeys_grammar.0.0.shallow
      (within-length k.size (p.offset + length (octets_of k)) p.bound (length (lead k)) (length (spelling inside))
      (subst (IsWithin (bound_in k.size (p.offset + length (octets_of k)) p.bound)) room fits))
      (λ w. lacks-led k.size (length (lead k)) (length (spelling inside)) (r.obeys_grammar.0.1 w))
      r.obeys_grammar.1
      (sym (append-nil (spelling inside)) ∙ (ap (λ (o : List ℕ). spelling inside ++ o) (sym nothing)
      ∙ (ap (λ (o : List ℕ). o ++ (spelling inside ++ rest)) (sym none) ∙ s.1))) nothing)
  first-cases (OpenBitString k) r =
      let constructed : k.constructed ≡ true =
      unnamed-form p true k r.none_named r.obeys_grammar.0.header r.obeys_grammar.0.holding in
      let w : 0 ∷ [] ≡ [] = sym (lead-one k r.obeys_grammar.1) ∙ lead-none k constructed in
      absurd (cc (w))
  first-cases (OpenHeader o) r =
      let nothing : rest ≡ [] = open-last ends (OpenHeader o) rest refl r.end in
      let q : IsHeaderPrefix o = r.obeys_grammar.1 in
      let same : octets_of h ++ after ≡ o =
      whole ∙ (sym r.spelled ∙ (ap (λ (x : List ℕ). o ++ x) nothing ∙ append-nil o)) in
      absurd (no-prefix h q.header (after ++ q.more) at.valid q.valid
      (λ n. q.proper (rest_nil after q.more n))
      (sym (append_assoc (octets_of h) after q.more) ∙ (ap (λ (x : List ℕ). x ++ q.more) same ∙ q.prefix)))
    where
      rest_nil : (a b : List ℕ) → a ++ b ≡ [] → b ≡ []
      rest_nil [] b e = e
      rest_nil (x ∷ a) b e = absurd (cc (e))
  first-cases OpenEndOctets r = absurd (zero-no_header h 0 after rest at.valid (whole ∙ sym r.spelled) refl)

module _ (octets : List ℕ) (offset : ℕ) (f : HeaderFields) (count : ℕ)
    (b : BeginsWithFields octets offset false f count) where
  abbrev pub head : HeaderValue
  head = new_header f (take count octets)

  head-front : octets_of head ≡ take count octets
  head-front = take-append-drop f.id_len (take count octets)

  pub head-count : length (octets_of head) ≡ count
  head-count = ap length head-front ∙ length-take-le count octets b.within

  pub head-whole : octets_of head ++ drop count octets ≡ octets
  head-whole = ap (λ (o : List ℕ). o ++ drop count octets) head-front ∙ take-append-drop count octets

  -- the header is at the place
  pub head-at : (p : Place) → p.offset ≡ offset → p.inside ≡ [] → IsHeaderAt p head
  head-at p o none = record {
    valid = b.begins.valid;
    offset = b.begins.offset ∙ sym o;
    named = b.begins.named ∙ ap (is_among p.offset) (sym none);
  }

  pub first-read : (p : Place) (g : Forest) (depth : ℕ) (ends : Bool) (rest : List ℕ)
      → IsReadAt p g depth offset ends octets rest → IsReadFirst p head (drop count octets) rest g
  first-read p g depth ends rest r =
      first-cases p head (drop count octets) octets rest depth offset ends (head-at p r.offset_is r.none_named)
      head-whole g r

-- octets with which no header begins, though they do not begin with 00
begins-zero : (octets : List ℕ) (x : ℕ) (more : List ℕ) → get_or octets 0 0 ≢ 0 → x ∷ more ≡ octets → x ≡ 0 → ⊥
begins-zero octets x more n e z = n (ap (λ (o : List ℕ). get_or o 0 0) (sym e) ∙ z)

ends-zero : (octets : List ℕ) → get_or octets 0 0 ≢ 0 → is_elements_end true octets ≡ true → ⊥
ends-zero [] n e = absurd (cc (e))
ends-zero (x ∷ []) n e = absurd (cc (e))
ends-zero (x ∷ y ∷ more) n e = n (eqb-true x 0 (and_parts (eqb x 0) (eqb y 0) e).0)

pub finds-header : (w : Spot) (p : Place) (f : Forest) (depth offset : ℕ) (ends : Bool) (octets rest : List ℕ)
    → IsReadAt p f depth offset ends octets rest → get_or octets 0 0 ≢ 0 → BeginsWithNoHeader octets
    → FindsUpTo w p f offset ends octets rest nothing_found (length octets)
finds-header w p NoMore depth offset ends octets rest r n none = elim r.end [
  | inl e ↦ absurd (n (ap (λ (o : List ℕ). get_or o 0 0) (sym r.spelled ∙ e)))
  | inr e ↦ absurd (ends-zero octets n (ap (is_elements_end true) (sym r.spelled) ∙ e.end))
]
finds-header w p (PaddingOctet g) depth offset ends octets rest r n none =
    absurd (begins-zero octets 0 (spelling g ++ rest) n r.spelled refl)
finds-header w p (Primitive k c g) depth offset ends octets rest r n none =
    absurd (none k (c ++ (spelling g ++ rest)) r.obeys_grammar.0.0.header.valid
    (sym r.spelled ∙ regroup-3 (octets_of k) c (spelling g) rest))
finds-header w p (Holder k inside g) depth offset ends octets rest r n none =
    absurd (none k _ r.obeys_grammar.0.0.header.valid
    (sym r.spelled ∙ (regroup-4 (opening k) (spelling inside) (end_octets k.size) (spelling g) rest
    ∙ append_assoc (octets_of k) (lead k) _)))
finds-header w p (OpenPrimitive k c) depth offset ends octets rest r n none =
    absurd (none k (c ++ rest) r.obeys_grammar.0.header.valid
    (sym r.spelled ∙ append_assoc (octets_of k) c rest))
finds-header w p (OpenHolder k inside) depth offset ends octets rest r n none =
    absurd (none k _ r.obeys_grammar.0.0.header.valid
    (sym r.spelled ∙ (append_assoc (opening k) (spelling inside) rest ∙ append_assoc (octets_of k) (lead k) _)))
finds-header w p (OpenBitString k) depth offset ends octets rest r n none =
    absurd (none k rest r.obeys_grammar.0.header.valid (sym r.spelled))
finds-header w p (OpenHeader o) depth offset ends octets rest r n none = stops (finds-open_header w o) refl refl
finds-header w p OpenEndOctets depth offset ends octets rest r n none =
    absurd (begins-zero octets 0 rest n r.spelled refl)

-- and then they are no primitive
pub none-one_primitive : (p : Place) (f : Forest) (depth offset : ℕ) (ends : Bool) (octets rest : List ℕ)
    → IsReadAt p f depth offset ends octets rest → BeginsWithNoHeader octets → is_one_primitive f ≡ false
none-one_primitive p NoMore depth offset ends octets rest r none = refl
none-one_primitive p (PaddingOctet g) depth offset ends octets rest r none = refl
none-one_primitive p (Primitive k c g) depth offset ends octets rest r none =
    absurd (none k (c ++ (spelling g ++ rest)) r.obeys_grammar.0.0.header.valid
    (sym r.spelled ∙ regroup-3 (octets_of k) c (spelling g) rest))
none-one_primitive p (Holder k inside g) depth offset ends octets rest r none = refl
none-one_primitive p (OpenPrimitive k c) depth offset ends octets rest r none = refl
none-one_primitive p (OpenHolder k inside) depth offset ends octets rest r none = refl
none-one_primitive p (OpenBitString k) depth offset ends octets rest r none = refl
none-one_primitive p (OpenHeader o) depth offset ends octets rest r none = refl
none-one_primitive p OpenEndOctets depth offset ends octets rest r none = refl
