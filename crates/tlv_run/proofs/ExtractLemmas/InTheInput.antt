-- The octets of an element that is found are in the input, from its offset on.
use Rattle.std.proofs.Common.{refl, sym, ap, ◌∙◌, subst, arith, append_assoc, append-nil, length-append}
use Rattle.std.specs.Prelude.{◌≡◌, ℕ, ◌+◌, Bool, true, false, ◌==◌, if◌then◌else◌, List, [], ◌∷◌, ◌++◌}
use Rattle.std.specs.Prelude.{length, Option, Some, None}
use Rattle.std.specs.Option.{option_or}
use Rattle.std.proofs.lemmas.Bool.{eqb-true, true≢false}
use Rattle.tlv_head.specs.Header.{HeaderValue, IsHeader, octets_of}
use Rattle.tlv_walk.specs.Forest.{Forest, NoMore, PaddingOctet, Primitive, Holder, OpenPrimitive, OpenHolder}
use Rattle.tlv_walk.specs.Forest.{OpenBitString, OpenHeader, OpenEndOctets}
use Rattle.tlv_walk.specs.Forest.{end_octets, holder_extent, is_whole, lead, opening, spelling}
use Rattle.tlv_walk.specs.Place.{IsHeaderAt, ObeysGrammar, Place, place_after, place_of_children}
use Rattle.tlv_walk.proofs.GrammarLemmas.Spellings.{append_assoc-3, append_assoc-4}
use Rattle.tlv_run.specs.Extract.{contents_so_far, element_at, octets_so_far}

-- ---- the octets so far of elements

-- they are a prefix of all octets, and all of them if all elements have ended
record BeginsWithOctetsSoFar (f : Forest) : Type 0 where
  rest : List ℕ
  octets_are : spelling f ≡ octets_so_far f ++ rest
  all : is_whole f ≡ true → spelling f ≡ octets_so_far f

-- those of elements after others
prefix_of_rest : (f rest : Forest) (o : List ℕ) → spelling f ≡ o ++ spelling rest
    → octets_so_far f ≡ o ++ octets_so_far rest
    → is_whole f ≡ is_whole rest → BeginsWithOctetsSoFar rest → BeginsWithOctetsSoFar f
prefix_of_rest f rest o all keeps whole r = record {
  rest = r.rest;
  octets_are = all ∙ ap (λ (l : List ℕ). o ++ l) r.octets_are ∙ sym (append_assoc o (octets_so_far rest) r.rest)
      ∙ ap (λ (l : List ℕ). l ++ r.rest) (sym keeps);
  all = λ w. all ∙ ap (λ (l : List ℕ). o ++ l) (r.all (sym whole ∙ w)) ∙ sym keeps;
}

octets_so_far-prefix : (p : Place) (f : Forest) → p.padding ≡ false → ObeysGrammar p f → BeginsWithOctetsSoFar f
octets_so_far-prefix p NoMore plain v = record { rest = []; octets_are = refl; all = λ w. refl }
octets_so_far-prefix p (PaddingOctet rest) plain v = absurd (true≢false (sym v.0.0 ∙ plain))
octets_so_far-prefix p (Primitive h c rest) plain v =
    prefix_of_rest (Primitive h c rest) rest (octets_of h ++ c) (sym (append_assoc (octets_of h) c (spelling rest)))
    (sym (append_assoc (octets_of h) c (octets_so_far rest))) refl
    (octets_so_far-prefix (place_after p _) rest plain v.1)
octets_so_far-prefix p (Holder h inside rest) plain v =
    let i = octets_so_far-prefix (place_of_children p h) inside refl v.1 in
    let e = end_octets h.size in
    prefix_of_rest (Holder h inside rest) rest (opening h ++ (spelling inside ++ e))
    (sym (append_assoc-3 (opening h) (spelling inside) e (spelling rest)))
    (ap (λ (k : List ℕ). opening h ++ (k ++ (e ++ octets_so_far rest))) (sym (i.all v.0.1))
    ∙ sym (append_assoc-3 (opening h) (spelling inside) e (octets_so_far rest))) refl
    (octets_so_far-prefix (place_after p (holder_extent h inside)) rest plain v.2)
octets_so_far-prefix p (OpenPrimitive h c) plain v =
    record { rest = []; octets_are = sym (append-nil (octets_of h ++ c)); all = λ w. refl }
octets_so_far-prefix p (OpenHolder h inside) plain v =
    let i = octets_so_far-prefix (place_of_children p h) inside refl v.1 in
    record {
      rest = i.rest;
      octets_are = ap (λ (l : List ℕ). opening h ++ l) i.octets_are
          ∙ sym (append_assoc (opening h) (octets_so_far inside) i.rest);
      all = λ w. absurd (cc (w));
    }
octets_so_far-prefix p (OpenBitString h) plain v =
    record { rest = []; octets_are = sym (append-nil (octets_of h)); all = λ w. refl }
octets_so_far-prefix p (OpenHeader octets) plain v =
    record { rest = octets; octets_are = refl; all = λ w. absurd (cc (w)) }
octets_so_far-prefix p OpenEndOctets plain v = record { rest = 0 ∷ []; octets_are = refl; all = λ w. absurd (cc (w)) }

module _ (n : ℕ) where
  -- ---- the element

  -- an element of a forest, at the offset n: its octets, and its header, contents and end-of-contents octets
  pub record IsFoundIn (p : Place) (f e : Forest) : Type 0 where
    pub before : List ℕ
    pub after : List ℕ
    pub octets_are : spelling f ≡ before ++ (octets_so_far e ++ after)
    pub begins : p.offset + length before ≡ n
    pub header : HeaderValue
    pub valid : IsHeader header
    pub offset : header.offset ≡ n
    pub parts : octets_so_far e
        ≡ octets_of header ++ (contents_so_far e ++ (if is_whole e then end_octets header.size else []))

  -- it is the first of the forest
  found-here : (p : Place) (h : HeaderValue) (f e : Forest) (rest : List ℕ) → IsHeaderAt p h
      → (h.offset == n) ≡ true → spelling f ≡ octets_so_far e ++ rest
      → octets_so_far e ≡ octets_of h ++ (contents_so_far e ++ (if is_whole e then end_octets h.size else []))
      → IsFoundIn p f e
  found-here p h f e rest at is octets parts = record {
    before = [];
    after = rest;
    octets_are = octets;
    begins = omega (arith, at.offset, eqb-true h.offset n is);
    header = h;
    valid = at.valid;
    offset = eqb-true h.offset n is;
    parts = parts;
  }

  -- it is among elements that come later, or deeper
  found-further : (p q : Place) (f g e : Forest) (o t : List ℕ) → spelling f ≡ o ++ (spelling g ++ t)
      → q.offset ≡ p.offset + length o
      → IsFoundIn q g e → IsFoundIn p f e
  found-further p q f g e o t all at r = record {
    before = o ++ r.before;
    after = r.after ++ t;
    octets_are =
        all ∙ ap (λ (l : List ℕ). o ++ (l ++ t)) r.octets_are
        ∙ ap (λ (l : List ℕ). o ++ l) (append_assoc-3 r.before (octets_so_far e) r.after t)
        ∙ sym (append_assoc o r.before (octets_so_far e ++ (r.after ++ t)));
    begins = omega (arith, at, r.begins, length-append o r.before);
    header = r.header;
    valid = r.valid;
    offset = r.offset;
    parts = r.parts;
  }

  -- an element with that offset, or one of others
  found-by_test : (p : Place) (f : Forest) (k : Bool) (d : Forest) (b : Option Forest) (e : Forest)
      → (k ≡ true → IsFoundIn p f d)
      → (k ≡ false → b ≡ Some e → IsFoundIn p f e) → (if k then Some d else b) ≡ Some e → IsFoundIn p f e
  found-by_test p f true d b e x y is = let same : d ≡ e = cc in subst (IsFoundIn p f) same (x refl)
  found-by_test p f false d b e x y is = y refl is

  -- the first that is there
  first_there : (p : Place) (f : Forest) (a b : Option Forest) (e : Forest) → (a ≡ Some e → IsFoundIn p f e)
      → (b ≡ Some e → IsFoundIn p f e)
      → option_or a b ≡ Some e → IsFoundIn p f e
  first_there p f (Some d) b e x y is = x is
  first_there p f None b e x y is = y is

  found-none : (p : Place) (f e : Forest) → None ≡ Some e → IsFoundIn p f e
  found-none p f e is = absurd (cc (is))

  -- it is after an element
  in_rest : (p q : Place) (f rest e : Forest) (o : List ℕ) → spelling f ≡ o ++ spelling rest
      → q.offset ≡ p.offset + length o
      → IsFoundIn q rest e → IsFoundIn p f e
  in_rest p q f rest e o all at r =
      found-further p q f rest e o [] (all ∙ ap (λ (l : List ℕ). o ++ l) (sym (append-nil (spelling rest)))) at r

  holder_parts : (h : HeaderValue) (inside : Forest)
      → octets_so_far (Holder h inside NoMore)
      ≡ octets_of h ++ (contents_so_far (Holder h inside NoMore) ++ end_octets h.size)
  holder_parts h inside =
      let e = end_octets h.size in
      append_assoc (octets_of h) (lead h) (octets_so_far inside ++ (e ++ []))
      ∙ ap (λ (l : List ℕ). octets_of h ++ (lead h ++ (octets_so_far inside ++ l))) (append-nil e)
      ∙ ap (λ (l : List ℕ). octets_of h ++ l) (sym (append_assoc (lead h) (octets_so_far inside) e))

  pub found_in_input : (p : Place) (f : Forest) → ObeysGrammar p f → (e : Forest) → element_at n f ≡ Some e
      → IsFoundIn p f e
  found_in_input p NoMore v d some = found-none p NoMore d some
  found_in_input p (PaddingOctet rest) v d some =
      in_rest p (place_after p 1) (PaddingOctet rest) rest d (0 ∷ []) refl refl
      (found_in_input (place_after p 1) rest v.1 d some)
  found_in_input p (Primitive h c rest) v d some =
      let f = Primitive h c rest in
      found-by_test p f (h.offset == n) (Primitive h c NoMore) (element_at n rest) d
      (λ is.
      found-here p h f (Primitive h c NoMore) (spelling rest) v.0.0.header is
      (sym (append_assoc-3 (octets_of h) c [] (spelling rest)))
      (ap (λ (l : List ℕ). octets_of h ++ (c ++ l)) (sym (ap end_octets v.0.1))))
      (λ _ some.
      in_rest p (place_after p _) f rest d (octets_of h ++ c) (sym (append_assoc (octets_of h) c (spelling rest)))
      (omega (arith, length-append (octets_of h) c))
      (found_in_input (place_after p _) rest v.1 d some))
      some
  found_in_input p (Holder h inside rest) v d some =
      let f = Holder h inside rest in
      let e = end_octets h.size in
      let i = octets_so_far-prefix (place_of_children p h) inside refl v.1 in
      found-by_test p f (h.offset == n) (Holder h inside NoMore) (option_or (element_at n inside) (element_at n rest)) d
      (λ is.
      found-here p h f (Holder h inside NoMore) (spelling rest) v.0.0.header is
      (ap (λ (k : List ℕ). opening h ++ (k ++ (e ++ spelling rest))) (i.all v.0.1)
      ∙ sym (append_assoc-4 (opening h) (octets_so_far inside) e [] (spelling rest)))
      (holder_parts h inside))
      (λ _ some.
      first_there p f (element_at n inside) (element_at n rest) d
      (λ some. found-further p (place_of_children p h) f inside d (opening h) (e ++ spelling rest) refl refl
      (found_in_input (place_of_children p h) inside v.1 d some))
      (λ some.
      in_rest p (place_after p (holder_extent h inside)) f rest d (opening h ++ (spelling inside ++ e))
      (sym (append_assoc-3 (opening h) (spelling inside) e (spelling rest)))
      (omega (arith, length-append (opening h) (spelling inside ++ e), length-append (spelling inside) e))
      (found_in_input (place_after p (holder_extent h inside)) rest v.2 d some))
      some)
      some
  found_in_input p (OpenPrimitive h c) v d some =
      found-by_test p (OpenPrimitive h c) (h.offset == n) (OpenPrimitive h c) None d
      (λ is.
      found-here p h (OpenPrimitive h c) (OpenPrimitive h c) [] v.0.header is
      (sym (append-nil (octets_of h ++ c)))
      (ap (λ (l : List ℕ). octets_of h ++ l) (sym (append-nil c))))
      (λ _ some. found-none p (OpenPrimitive h c) d some)
      some
  found_in_input p (OpenHolder h inside) v d some =
      let f = OpenHolder h inside in
      let i = octets_so_far-prefix (place_of_children p h) inside refl v.1 in
      found-by_test p f (h.offset == n) f (element_at n inside) d
      (λ is.
      found-here p h f f i.rest v.0.0.header is
      (ap (λ (l : List ℕ). opening h ++ l) i.octets_are ∙ sym (append_assoc (opening h) (octets_so_far inside) i.rest))
      (append_assoc (octets_of h) (lead h) (octets_so_far inside)
      ∙ ap (λ (l : List ℕ). octets_of h ++ l) (sym (append-nil (lead h ++ octets_so_far inside)))))
      (λ _ some. in_rest p (place_of_children p h) f inside d (opening h) refl refl
      (found_in_input (place_of_children p h) inside v.1 d some))
      some
  found_in_input p (OpenBitString h) v d some =
      found-by_test p (OpenBitString h) (h.offset == n) (OpenBitString h) None d
      (λ is. found-here p h (OpenBitString h) (OpenBitString h) [] v.0.header is (sym (append-nil (octets_of h)))
      (sym (append-nil (octets_of h))))
      (λ _ some. found-none p (OpenBitString h) d some)
      some
  found_in_input p (OpenHeader octets) v d some = found-none p (OpenHeader octets) d some
  found_in_input p OpenEndOctets v d some = found-none p OpenEndOctets d some
