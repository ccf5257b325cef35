-- What is found in the element with which octets begin.
use Rattle.std.proofs.Common.{◌≡◌, ◌⊎◌, inl, inr, ℕ, ◌+◌, ◌<◌, ◌≤◌, Bool, true, false, ◌&&◌, List, []}
use Rattle.std.proofs.Common.{◌∷◌, ◌++◌, length, take, drop, refl, sym, ap, ap₂, ◌∙◌, arith, subst}
use Rattle.std.proofs.Common.{append-nil, length-append}
use Rattle.std.proofs.lemmas.Bool.{cases_Bool}
use Rattle.std.proofs.lemmas.List.{drop-drop, take_all}
use Rattle.std.proofs.Math.Seq.{drop-append_seam, take-append_seam}
use Rattle.tlv_head.specs.declared.header.HeaderFields.{HeaderFields}
use Rattle.tlv_head.specs.declared.header.Size.{Size}
use Rattle.tlv_head.specs.declared.header.Size.TheVariants.{Definite, Indefinite}
use Rattle.tlv_head.specs.Header.{HeaderValue, announced_length, octets_of}
use Rattle.tlv_head.specs.HeaderSoFar.{AllowsSize}
use Rattle.tlv_head.specs.HeaderFields.{new_header}
use Rattle.tlv_head.specs.ReadHeader.{BeginsWithFields}
use Rattle.tlv_walk.specs.Forest.{Forest, Holder, NoMore, OpenBitString, OpenEndOctets, OpenHeader, OpenHolder}
use Rattle.tlv_walk.specs.Forest.{OpenPrimitive, PaddingOctet, Primitive, end_octets, holder_extent, is_whole}
use Rattle.tlv_walk.specs.Forest.{opening, primitive_extent, spelling}
use Rattle.tlv_walk.specs.Place.{ObeysGrammar, Place, place_after, place_of_children}
use Rattle.tlv_walk.proofs.GrammarLemmas.Spellings.{length-holder, length-opening, length-primitive}
use Rattle.tlv_open.specs.declared.spot.Spot.{Spot}
use Rattle.tlv_open.specs.Breaks.{is_extension, is_no_more}
use Rattle.tlv_open.specs.Opens.{is_one_primitive}
use Rattle.tlv_open.specs.Private.Elements.{is_elements_end}
use Rattle.tlv_open.specs.Private.Finds.{AddsAll, AddsFirst, AddsPrimitive, AddsStrings, AddsUpTo, EndsBefore, Finds}
use Rattle.tlv_open.specs.Private.Finds.{FindsUpTo, FoundStrings, IsReadAt, found_in_turn, goes_on}
use Rattle.tlv_open.proofs.FinderLemmas.NothingFound.{nothing_found}
use Rattle.tlv_open.specs.Private.Finds.{spot_before, spot_inside, spot_lacking, stops}
use Rattle.tlv_open.proofs.ElementLemmas.FirstElement.{lead-none}
use Rattle.tlv_open.proofs.FinderLemmas.FirstRead.{IsReadFirst, first_holder, first_open_holder}
use Rattle.tlv_open.proofs.FinderLemmas.FirstRead.{first_open_primitive, first_primitive, first-read, head-count}
use Rattle.tlv_open.proofs.FinderLemmas.FirstRead.{head-whole}
use Rattle.tlv_open.proofs.FinderLemmas.FoundBoth.{both-nothing, finds-holder, finds-open_holder, finds-open_primitive}
use Rattle.tlv_open.proofs.FinderLemmas.FoundBoth.{finds-unfinished, spot_of_children}
use Rattle.tlv_open.proofs.FinderLemmas.OneSegment.{after-primitive}

and-true : (x : Bool) → (x && true) ≡ x
and-true true = refl
and-true false = refl

and-false : (x : Bool) → (x && false) ≡ false
and-false true = refl
and-false false = refl

whole-one : (g : Forest) → is_one_primitive g ≡ true → is_whole g ≡ true
whole-one (Primitive h c NoMore) e = refl
whole-one f e = absurd (cc (e))

-- what is found inside an element that has ended, and inside one that has not
finds-inside : (w : Spot) (h : HeaderValue) (inside : Forest) (xs : FoundStrings) (b : Bool) → b ≡ true
    → Finds (spot_before (spot_inside w h inside b) false []) inside xs
    → Finds (spot_of_children w h (is_one_primitive inside) (is_extension h inside)) inside xs
finds-inside w h inside xs b e a =
    subst (λ (u : Spot). Finds u inside xs)
    (ap₂ (λ (x y : Bool). spot_of_children w h x y)
    (ap (λ (x : Bool). is_one_primitive inside && x) e ∙ and-true (is_one_primitive inside))
    (and-true (is_extension h inside)))
    a

one-no_more : (h : HeaderValue) (c : List ℕ) (g : Forest) → is_one_primitive (Primitive h c g) ≡ is_no_more g
one-no_more h c NoMore = refl
one-no_more h c (PaddingOctet rest) = refl
one-no_more h c (Primitive k d rest) = refl
one-no_more h c (Holder k children rest) = refl
one-no_more h c (OpenPrimitive k d) = refl
one-no_more h c (OpenHolder k children) = refl
one-no_more h c (OpenBitString k) = refl
one-no_more h c (OpenHeader o) = refl
one-no_more h c OpenEndOctets = refl

and-swap : (a b c d : Bool) → d ≡ (c && b) → ((a && b) && c) ≡ (a && d)
and-swap true b true d e = and-true b ∙ sym e
and-swap true b false d e = and-false b ∙ sym e
and-swap false b c d e = refl

-- 8.1.3.2 a): an element of indefinite length is constructed
pub indefinite-constructed : (constructed : Bool) (size : Size) → size ≡ Indefinite → AllowsSize constructed size
    → constructed ≡ true
indefinite-constructed true size e a = refl
indefinite-constructed false (Definite n) e a = absurd (cc (e))
indefinite-constructed false Indefinite e a = absurd (cc (a))

-- the next elements are read after an element of n octets
read-on : (p : Place) (m n : ℕ) (g : Forest) (depth offset : ℕ) (ends : Bool) (octets rest : List ℕ) (f : Forest)
    → m ≡ n → IsReadAt p f depth offset ends octets rest → ObeysGrammar (place_after p m) g
    → spelling g ++ rest ≡ drop n octets → is_whole f ≡ is_whole g
    → IsReadAt (place_after p n) g depth (offset + n) ends (drop n octets) rest
read-on p m n g depth offset ends octets rest f e r obeys spelled whole =
    record {
      depth_is = r.depth_is;
      offset_is = ap (λ (o : ℕ). o + n) r.offset_is;
      none_named = r.none_named;
      indefinite = r.indefinite;
      obeys_grammar = subst (λ (k : ℕ). ObeysGrammar (place_after p k) g) e obeys;
      spelled = spelled;
      end = elim r.end [
        | inl t ↦ inl t
        | inr t ↦ inr (record { asked = t.asked; whole = sym whole ∙ t.whole; end = t.end })
      ];
    }

module _ (octets : List ℕ) (offset : ℕ) (f : HeaderFields) (count : ℕ)
    (b : BeginsWithFields octets offset false f count) (w : Spot) where
  abbrev h : HeaderValue
  h = new_header f (take count octets)

  abbrev after : List ℕ
  after = drop count octets

  opening-size : h.constructed ≡ true → length (opening h) ≡ count
  opening-size e =
      omega (arith, length-opening h, head-count octets offset f count b, ap (λ (o : List ℕ). length o) (lead-none h e))

  after-count : (n : ℕ) → drop (count + n) octets ≡ drop n after
  after-count n = sym (drop-drop n count octets)

  all-octets : length octets ≡ count + length after
  all-octets =
      omega (
        arith,
        ap length (head-whole octets offset f count b),
        head-count octets offset f count b,
        length-append (octets_of h) after,
      )

  first-of : (p : Place) (g : Forest) (ends : Bool) (rest : List ℕ) → IsReadAt p g w.depth offset ends octets rest
      → IsReadFirst p h after rest g
  first-of p g ends rest r = first-read octets offset f count b p g w.depth ends rest r

  -- an element that holds others, inside so many that it may not
  pub adds-too_deep : (old : FoundStrings) (n : ℕ) → f.constructed ≡ true → 128 ≤ w.depth → (ends : Bool)
      → AddsFirst w offset ends octets old old n
  adds-too_deep old n k deep ends p g rest r =
      absurd (deep_first g (first-of p g ends rest r))
    where
      deep_first : (g : Forest) → IsReadFirst p h after rest g → ⊥
      deep_first _ (first_primitive c size spelled obeys) = let t : true ≡ false = sym k ∙ c in absurd (cc (t))
      deep_first _ (first_holder c few size closed obeys spelled more) = omega (arith, few, r.depth_is)
      deep_first _ (first_open_primitive c m size less spelled none) =
          let t : true ≡ false = sym k ∙ c in absurd (cc (t))
      deep_first _ (first_open_holder c few within less obeys spelled none) = omega (arith, few, r.depth_is)

  -- a primitive that lacks octets
  pub adds-unfinished : (old : FoundStrings) → f.constructed ≡ false → length after < announced_length f.size
      → (ends : Bool) → AddsFirst w offset ends octets old old (length octets)
  adds-unfinished old k less ends p g rest r = record {
    found = nothing_found;
    added = sym (both-nothing old);
    finds = unfinished g (first-of p g ends rest r);
  }
    where
      unfinished : (g : Forest) → IsReadFirst p h after rest g
          → FindsUpTo (spot_before w ends rest) p g offset ends octets rest nothing_found (length octets)
      unfinished _ (first_primitive {c = c} {g = g} t size spelled obeys) =
          let all : announced_length f.size ≡ length c = ap announced_length size in
          absurd (omega (arith, all, ap length spelled, length-append c (spelling g ++ rest)))
      unfinished _ (first_holder c few size closed obeys spelled more) =
          let t : false ≡ true = sym k ∙ c in absurd (cc (t))
      unfinished _ (first_open_primitive {c = d} c m size less spelled none) =
          stops (finds-open_primitive (spot_before w ends rest) h d) refl refl
      unfinished _ (first_open_holder c few within less obeys spelled none) =
          let t : false ≡ true = sym k ∙ c in absurd (cc (t))

  -- a primitive with all its octets
  pub adds-primitive : (old new : FoundStrings) (m : ℕ) (v : Bool) (ends : Bool) → f.constructed ≡ false
      → m ≡ announced_length f.size → m ≤ length after
      → v ≡ (w.in_extension && is_elements_end ends (drop (count + m) octets))
      → AddsPrimitive w v h (take m after) old new → AddsFirst w offset ends octets old new (count + m)
  adds-primitive old new m v ends k all few last a p g rest r = record {
    found = a.found;
    added = a.added;
    finds = found_in g r (first-of p g ends rest r);
  }
    where
      found_in : (g : Forest) → IsReadAt p g w.depth offset ends octets rest → IsReadFirst p h after rest g
          → FindsUpTo (spot_before w ends rest) p g offset ends octets rest a.found (count + m)
      found_in _ r (first_primitive {c = c} {g = g} t size spelled obeys) =
          let same : m ≡ length c = all ∙ ap announced_length size in
          let front : take m after ≡ c =
          ap₂ take same (sym spelled) ∙ take-append_seam c (spelling g ++ rest) in
          let number : primitive_extent h c ≡ count + m =
          omega (arith, head-count octets offset f count b, same) in
          let left : spelling g ++ rest ≡ drop (count + m) octets =
          sym (after-count m ∙ (ap₂ drop same (sym spelled) ∙ drop-append_seam c (spelling g ++ rest))) in
          let ends_there : is_elements_end ends (drop (count + m) octets)
          ≡ (is_no_more g && is_elements_end ends rest) =
          ap (is_elements_end ends) (sym left)
          ∙ (after-primitive h c (place_after p (primitive_extent h c)) g ends rest obeys r.indefinite (elim r.end [
            | inl e ↦ inl e
            | inr e ↦ inr (record { asked = e.asked; whole = e.whole; end = e.end })
          ])
          ∙ ap (λ (x : Bool). x && is_elements_end ends rest) (one-no_more h c g)) in
          let value : ((w.in_extension && is_elements_end ends rest) && is_no_more g) ≡ v =
          and-swap w.in_extension (is_elements_end ends rest) (is_no_more g) _ ends_there ∙ sym last in
          goes_on g
          (read-on p (primitive_extent h c) (count + m) g w.depth offset ends octets rest
          (Primitive h c g) number r obeys left refl)
          (λ ys o.
          subst (λ (x : List ℕ). Finds (spot_before w ends rest) (Primitive h x g) (found_in_turn a.found ys)) front
          (a.finds (w.in_extension && is_elements_end ends rest) g ys value o))
          refl (omega (arith, length-primitive h c g, number))
      found_in _ r (first_holder c few size closed obeys spelled more) =
          let t : false ≡ true = sym k ∙ c in absurd (cc (t))
      found_in _ r (first_open_primitive {c = c} t n size less spelled none) =
          let same : m ≡ n = all ∙ ap announced_length size in
          absurd (omega (arith, ap length spelled, less))
      found_in _ r (first_open_holder c few within less obeys spelled none) =
          let t : false ≡ true = sym k ∙ c in absurd (cc (t))

  -- what the children are read as
  read-children : (p : Place) (ends inner : Bool) (g inside : Forest) (rest left end : List ℕ)
      → IsReadAt p g w.depth offset ends octets rest → f.constructed ≡ true
      → (place_of_children p h).indefinite ≡ inner
      → ObeysGrammar (place_of_children p h) inside → spelling inside ++ end ≡ left
      → (end ≡ []) ⊎ EndsBefore inner inside end
      → IsReadAt (place_of_children p h) inside (w.depth + 1) (offset + count) inner left end
  read-children p ends inner g inside rest left end r k indefinite obeys spelled ended = record {
    depth_is = ap (λ (d : ℕ). d + 1) r.depth_is;
    offset_is = ap₂ (λ (o l : ℕ). o + l) r.offset_is (opening-size k);
    none_named = r.none_named;
    indefinite = indefinite;
    obeys_grammar = obeys;
    spelled = spelled;
    end = ended;
  }

  -- an element that holds others, and lacks octets
  pub adds-open_holder : (old new : FoundStrings) (m n : ℕ) (v : Spot) → f.constructed ≡ true → f.size ≡ Definite m
      → length after < m → v ≡ spot_lacking w h → AddsAll v (offset + count) false after old new n
      → (ends : Bool) → AddsFirst w offset ends octets old new (length octets)
  adds-open_holder old new m n v k size less inner_is a ends p g rest r = lacks g r (first-of p g ends rest r)
    where
      lacks : (g : Forest) → IsReadAt p g w.depth offset ends octets rest → IsReadFirst p h after rest g
          → AddsUpTo (spot_before w ends rest) p g offset ends octets rest old new (length octets)
      lacks _ r (first_primitive c s spelled obeys) = let t : true ≡ false = sym k ∙ c in absurd (cc (t))
      lacks _ r (first_open_primitive c i s l spelled none) = let t : true ≡ false = sym k ∙ c in absurd (cc (t))
      lacks _ r (first_holder {inside = inside} {g = g} c few s closed obeys spelled more) =
          let same : length (spelling inside) ≡ m = rw size at s in
          absurd (omega (
            arith,
            ap length spelled,
            length-append (spelling inside) (end_octets f.size ++ (spelling g ++ rest)),
          ))
      lacks _ r (first_open_holder {inside = inside} c few within l obeys spelled none) =
          let inner : IsReadAt (place_of_children p h) inside (w.depth + 1) (offset + count) false after [] =
          read-children p ends false (OpenHolder h inside) inside rest after [] r k (rw size refl) obeys
          (append-nil (spelling inside) ∙ spelled) (inl refl) in
          let s : AddsStrings (spot_before (spot_lacking w h) false []) inside after old new n =
          subst (λ (u : Spot). AddsAll u (offset + count) false after old new n) inner_is a (place_of_children p h)
          inside [] inner in
          record {
            found = s.found;
            added = s.added;
            finds = stops (finds-open_holder (spot_before w ends rest) h inside s.found s.finds) refl refl;
          }

  -- where what it holds is
  abbrev pub IsSpotInside : Spot → Bool → List ℕ → Type 0
  IsSpotInside v ends contents = (q : Place) (inside : Forest) (depth : ℕ) (end : List ℕ) → q.padding ≡ false
      → IsReadAt q inside depth (offset + count) ends contents end
      → v ≡ spot_inside w h inside (is_elements_end ends end)

  -- an element that holds others, and has all its octets
  pub adds-holder : (old new : FoundStrings) (m n : ℕ) (v : Spot) → f.constructed ≡ true → f.size ≡ Definite m
      → m ≤ length after → IsSpotInside v false (take m after)
      → AddsAll v (offset + count) false (take m after) old new n
      → (ends : Bool) → AddsFirst w offset ends octets old new (count + length (take m after))
  adds-holder old new m n v k size few inner_is a ends p g rest r = all g r (first-of p g ends rest r)
    where
      adds_in : (inside : Forest)
          → IsReadAt (place_of_children p h) inside (w.depth + 1) (offset + count) false (take m after) []
          → AddsStrings (spot_before (spot_inside w h inside true) false []) inside (take m after) old new n
      adds_in inside inner =
          subst (λ (u : Spot). AddsAll u (offset + count) false (take m after) old new n)
          (inner_is (place_of_children p h) inside (w.depth + 1) [] refl inner) a (place_of_children p h) inside []
          inner

      all : (g : Forest) → IsReadAt p g w.depth offset ends octets rest → IsReadFirst p h after rest g
          → AddsUpTo (spot_before w ends rest) p g offset ends octets rest old new (count + length (take m after))
      all _ r (first_primitive c s spelled obeys) = let t : true ≡ false = sym k ∙ c in absurd (cc (t))
      all _ r (first_open_primitive c i s l spelled none) = let t : true ≡ false = sym k ∙ c in absurd (cc (t))
      all _ r (first_holder {inside = inside} {g = g} c shallow s closed obeys spelled more) =
          let same : length (spelling inside) ≡ m = rw size at s in
          let no_end : end_octets f.size ≡ [] = rw size refl in
          let spelled' : spelling inside ++ (spelling g ++ rest) ≡ after =
          ap (λ (o : List ℕ). spelling inside ++ (o ++ (spelling g ++ rest))) (sym no_end) ∙ spelled in
          let front : take m after ≡ spelling inside =
          ap₂ take (sym same) (sym spelled') ∙ take-append_seam (spelling inside) (spelling g ++ rest) in
          let inner : IsReadAt (place_of_children p h) inside (w.depth + 1) (offset + count) false (take m after) [] =
          read-children p ends false (Holder h inside g) inside rest (take m after) [] r k (rw size refl) obeys
          (append-nil (spelling inside) ∙ sym front) (inl refl) in
          let a' : AddsStrings (spot_before (spot_inside w h inside true) false []) inside (take m after) old new n =
          adds_in inside inner in
          let number : holder_extent h inside ≡ count + length (take m after) =
          omega (
            arith,
            opening-size k,
            ap (λ (o : List ℕ). length o) front,
            ap (λ (o : List ℕ). length o) no_end,
          ) in
          let left : spelling g ++ rest ≡ drop (count + length (take m after)) octets =
          sym (after-count (length (take m after))
          ∙ (ap₂ drop (ap (λ (o : List ℕ). length o) front) (sym spelled')
          ∙ drop-append_seam (spelling inside) (spelling g ++ rest))) in
          record {
            found = a'.found;
            added = a'.added;
            finds =
                goes_on g
                (read-on p (holder_extent h inside) (count + length (take m after)) g w.depth offset ends octets rest
                (Holder h inside g) number r more left refl)
                (λ ys o.
                finds-holder (spot_before w ends rest) h inside g a'.found ys
                (finds-inside w h inside a'.found true refl a'.finds) o)
                refl (omega (arith, length-holder h inside g, number));
          }
      all _ r (first_open_holder {inside = inside} c shallow within l obeys spelled none) =
          let most : length (spelling inside) ≤ m = rw size at within in
          let there : take m after ≡ after = take_all m after (omega (arith, ap length spelled)) in
          let inner : IsReadAt (place_of_children p h) inside (w.depth + 1) (offset + count) false (take m after) [] =
          read-children p ends false (OpenHolder h inside) inside rest (take m after) [] r k (rw size refl) obeys
          (append-nil (spelling inside) ∙ (spelled ∙ sym there)) (inl refl) in
          let open_ : is_whole inside ≡ false = elim (cases_Bool (is_whole inside)) [
            | inl t ↦
                let fewer : length (spelling inside) < m = rw size at (l t) in
                absurd (omega (arith, ap length spelled))
            | inr t ↦ t
          ] in
          let not_one : is_one_primitive inside ≡ false = elim (cases_Bool (is_one_primitive inside)) [
            | inl t ↦ let u : true ≡ false = sym (whole-one inside t) ∙ open_ in absurd (cc (u))
            | inr t ↦ t
          ] in
          let a' : AddsStrings (spot_before (spot_inside w h inside true) false []) inside (take m after) old new n =
          adds_in inside inner in
          record {
            found = a'.found;
            added = a'.added;
            finds =
                stops
                (finds-open_holder (spot_before w ends rest) h inside a'.found
                (subst (λ (x : Bool). Finds (spot_of_children w h x false) inside a'.found)
                (and-true (is_one_primitive inside) ∙ not_one)
                (finds-unfinished (spot_before (spot_inside w h inside true) false []) inside a'.found open_ a'.finds)))
                refl (omega (arith, all-octets, ap (λ (o : List ℕ). length o) there));
          }

  -- an element of indefinite length
  module _ (old new : FoundStrings) (n : ℕ) (v : Spot) (k : f.constructed ≡ true) (size : f.size ≡ Indefinite)
      (inner_is : IsSpotInside v true after) (a : AddsAll v (offset + count) true after old new n) where
    adds-in_indefinite : (p : Place) (inside : Forest) (end : List ℕ)
        → IsReadAt (place_of_children p h) inside (w.depth + 1) (offset + count) true after end
        → AddsStrings (spot_before (spot_inside w h inside (is_elements_end true end)) true end) inside after old new n
    adds-in_indefinite p inside end inner =
        subst (λ (u : Spot). AddsAll u (offset + count) true after old new n)
        (inner_is (place_of_children p h) inside (w.depth + 1) end refl inner) a (place_of_children p h) inside end
        inner

    closed-read : (p : Place) (ends : Bool) (inside g : Forest) (rest : List ℕ)
        → IsReadAt p (Holder h inside g) w.depth offset ends octets rest → is_whole inside ≡ true
        → ObeysGrammar (place_of_children p h) inside
        → spelling inside ++ (end_octets f.size ++ (spelling g ++ rest)) ≡ after
        → IsReadAt (place_of_children p h) inside (w.depth + 1) (offset + count) true after
        (0 ∷ 0 ∷ (spelling g ++ rest))
    closed-read p ends inside g rest r closed obeys spelled =
        let the_end : end_octets f.size ≡ 0 ∷ 0 ∷ [] = rw size refl in
        read-children p ends true (Holder h inside g) inside rest after (0 ∷ 0 ∷ (spelling g ++ rest)) r k
        (rw size refl) obeys
        (ap (λ (o : List ℕ). spelling inside ++ (o ++ (spelling g ++ rest))) (sym the_end) ∙ spelled)
        (inr (record { asked = refl; whole = closed; end = refl }))

    open-read : (p : Place) (ends : Bool) (inside : Forest) (rest : List ℕ)
        → IsReadAt p (OpenHolder h inside) w.depth offset ends octets rest
        → ObeysGrammar (place_of_children p h) inside → spelling inside ≡ after
        → IsReadAt (place_of_children p h) inside (w.depth + 1) (offset + count) true after []
    open-read p ends inside rest r obeys spelled =
        read-children p ends true (OpenHolder h inside) inside rest after [] r k (rw size refl) obeys
        (append-nil (spelling inside) ∙ spelled) (inl refl)

    -- if it has not ended, no end-of-contents octets follow
    open-no_end : (s : Spot) (inside : Forest) → spelling inside ≡ after → AddsStrings s inside after old new n
        → is_elements_end true (drop n after) ≡ false
    open-no_end s inside spelled d = elim (cases_Bool (is_whole inside)) [
      | inl t ↦
          ap (is_elements_end true)
          (ap₂ drop (sym (d.size t)) (sym spelled ∙ sym (append-nil (spelling inside)))
          ∙ drop-append_seam (spelling inside) [])
      | inr t ↦ d.unfinished t
    ]

    pub adds-ended_holder : is_elements_end true (drop n after) ≡ true → (ends : Bool)
        → AddsFirst w offset ends octets old new (count + n + 2)
    adds-ended_holder e ends p g rest r = ended g r (first-of p g ends rest r)
      where
        ended : (g : Forest) → IsReadAt p g w.depth offset ends octets rest → IsReadFirst p h after rest g
            → AddsUpTo (spot_before w ends rest) p g offset ends octets rest old new (count + n + 2)
        ended _ r (first_primitive c s spelled obeys) = let t : true ≡ false = sym k ∙ c in absurd (cc (t))
        ended _ r (first_open_primitive c i s l spelled none) = let t : true ≡ false = sym k ∙ c in absurd (cc (t))
        ended _ r (first_holder {inside = inside} {g = g} c shallow s closed obeys spelled more) =
            let the_end : end_octets f.size ≡ 0 ∷ 0 ∷ [] = rw size refl in
            let inner : IsReadAt (place_of_children p h) inside (w.depth + 1) (offset + count) true after
            (0 ∷ 0 ∷ (spelling g ++ rest)) = closed-read p ends inside g rest r closed obeys spelled in
            let a' : AddsStrings (spot_before (spot_inside w h inside true) true (0 ∷ 0 ∷ (spelling g ++ rest))) inside
            after old new n = adds-in_indefinite p inside (0 ∷ 0 ∷ (spelling g ++ rest)) inner in
            let count_is : length (spelling inside) ≡ n = a'.size closed in
            let number : holder_extent h inside ≡ count + n + 2 =
            omega (arith, opening-size k, count_is, ap (λ (o : List ℕ). length o) the_end) in
            let end_there : drop n after ≡ 0 ∷ 0 ∷ (spelling g ++ rest) =
            ap₂ drop (sym count_is) (sym inner.spelled)
            ∙ drop-append_seam (spelling inside) (0 ∷ 0 ∷ (spelling g ++ rest)) in
            let left : spelling g ++ rest ≡ drop (count + n + 2) octets =
            sym (sym (drop-drop 2 (count + n) octets) ∙ ap (drop 2) (after-count n ∙ end_there)) in
            record {
              found = a'.found;
              added = a'.added;
              finds =
                  goes_on g
                  (read-on p (holder_extent h inside) (count + n + 2) g w.depth offset ends octets rest (Holder h inside g)
                  number r more left refl)
                  (λ ys o.
                  finds-holder (spot_before w ends rest) h inside g a'.found ys
                  (finds-inside w h inside a'.found true refl a'.finds) o)
                  refl (omega (arith, length-holder h inside g, number));
            }
        ended _ r (first_open_holder {inside = inside} c shallow within l obeys spelled none) =
            let a' = adds-in_indefinite p inside [] (open-read p ends inside rest r obeys spelled) in
            let t : true ≡ false = sym e ∙ open-no_end _ inside spelled a' in
            absurd (cc (t))

    pub adds-unended_holder : is_elements_end true (drop n after) ≡ false → (ends : Bool)
        → AddsFirst w offset ends octets old new (length octets)
    adds-unended_holder e ends p g rest r = unended g r (first-of p g ends rest r)
      where
        unended : (g : Forest) → IsReadAt p g w.depth offset ends octets rest → IsReadFirst p h after rest g
            → AddsUpTo (spot_before w ends rest) p g offset ends octets rest old new (length octets)
        unended _ r (first_primitive c s spelled obeys) = let t : true ≡ false = sym k ∙ c in absurd (cc (t))
        unended _ r (first_open_primitive c i s l spelled none) = let t : true ≡ false = sym k ∙ c in absurd (cc (t))
        unended _ r (first_holder {inside = inside} {g = g} c shallow s closed obeys spelled more) =
            let inner : IsReadAt (place_of_children p h) inside (w.depth + 1) (offset + count) true after
            (0 ∷ 0 ∷ (spelling g ++ rest)) = closed-read p ends inside g rest r closed obeys spelled in
            let a' : AddsStrings (spot_before (spot_inside w h inside true) true (0 ∷ 0 ∷ (spelling g ++ rest))) inside
            after old new n = adds-in_indefinite p inside (0 ∷ 0 ∷ (spelling g ++ rest)) inner in
            let end_there : drop n after ≡ 0 ∷ 0 ∷ (spelling g ++ rest) =
            ap₂ drop (sym (a'.size closed)) (sym inner.spelled)
            ∙ drop-append_seam (spelling inside) (0 ∷ 0 ∷ (spelling g ++ rest)) in
            let t : true ≡ false = sym (ap (is_elements_end true) end_there) ∙ e in
            absurd (cc (t))
        unended _ r (first_open_holder {inside = inside} c shallow within l obeys spelled none) =
            let a' : AddsStrings (spot_before (spot_inside w h inside false) true []) inside after old new n =
            adds-in_indefinite p inside [] (open-read p ends inside rest r obeys spelled) in
            record {
              found = a'.found;
              added = a'.added;
              finds =
                  stops
                  (finds-open_holder (spot_before w ends rest) h inside a'.found
                  (subst (λ (u : Spot). Finds u inside a'.found)
                  (ap₂ (λ (x y : Bool). spot_of_children w h x y) (and-false (is_one_primitive inside))
                  (and-false (is_extension h inside)))
                  a'.finds))
                  refl refl;
            }
