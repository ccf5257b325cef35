-- Outermost elements, counted one after another.
use Rattle.std.proofs.Common.{◌≡◌, ℕ, ◌+◌, ◌-◌, ◌<◌, ◌≤◌, Bool, true, false, List, [], ◌∷◌, ◌++◌, length, map}
use Rattle.std.proofs.Common.{drop, take, ap, append_assoc, append-nil, arith, length-append}
use Rattle.std.proofs.Common.{not, refl, subst, sym, ◌∙◌}
use Rattle.std.specs.Prelude.{if◌then◌else◌, nat_lt, nat_le, ◌&&◌, Some, None, slice_index}
use Rattle.std.specs.List.{filter}
use Rattle.std.proofs.Math.Bool.{and-false}
use Rattle.std.proofs.lemmas.Bool.{le-ltb}
use Rattle.std.proofs.lemmas.List.{map-append, take_rest}
use Rattle.tlv_head.specs.declared.header.HeaderFields.{HeaderFields}
use Rattle.tlv_head.specs.declared.header.Size.TheVariants.{Definite, Indefinite}
use Rattle.tlv_head.specs.Header.{HeaderValue, definite_length}
use Rattle.tlv_head.specs.HeaderFields.{new_header}
use Rattle.tlv_head.specs.ReadHeader.{BeginsWithFields}
use Rattle.tlv_head.specs.Refusal.{BeginsWithNoHeader}
use Rattle.tlv_reasons.proofs.LengthLemmas.{begun-one}
use Rattle.tlv_reasons.proofs.OctetLemmas.{starts-at}
use Rattle.tlv_reasons.proofs.OutermostLemmas.{further, header-inside}
use Rattle.tlv_reasons.specs.declared.element_kinds.Counts.{Counts}
use Rattle.tlv_reasons.specs.declared.element_kinds.OutermostKinds.{OutermostKinds}
use Rattle.tlv_reasons.specs.OutermostKinds.{AreKinds, AreOutermost, are_many, first_octets, kinds_of}
use Rattle.tlv_reasons.specs.OutermostKinds as outer
use Rattle.tlv_reasons.specs.OutermostSizes.{is_padded_at}
use Rattle.tlv_reasons.specs.Private.OutermostKinds.{IsElementUpTo, kinds_counted, new_counts, counting_element}
use Rattle.tlv_reasons.specs.Suspects.{distinct, distinct_after, unless_seen}
use Rattle.tlv_reasons.specs.WrongLength.{contents_start}

-- the numbers of two lists, each only once: those of the first, and then those of the second that are new
distinct-append : (seen xs ys : List ℕ)
    → distinct_after seen (xs ++ ys) ≡ distinct_after seen xs ++ distinct_after (seen ++ distinct_after seen xs) ys
distinct-append seen [] ys = ap (λ (l : List ℕ). distinct_after l ys) (sym (append-nil seen))
distinct-append seen (x ∷ xs) ys =
    let new : List ℕ = unless_seen seen x in
    let others : List ℕ = distinct_after (seen ++ new) xs in
    ap (λ (l : List ℕ). new ++ l) (distinct-append (seen ++ new) xs ys)
    ∙ sym (append_assoc new others (distinct_after ((seen ++ new) ++ others) ys))
    ∙ ap (λ (l : List ℕ). (new ++ others) ++ distinct_after l ys) (append_assoc seen new others)

distinct-more : (xs : List ℕ) (x : ℕ) → distinct (xs ++ x ∷ []) ≡ distinct xs ++ unless_seen (distinct xs) x
distinct-more xs x =
    distinct-append [] xs (x ∷ []) ∙ ap (λ (l : List ℕ). distinct xs ++ l) (append-nil (unless_seen (distinct xs) x))

primitives-in : List HeaderValue → ℕ
primitives-in headers = length (filter (λ h. not h.constructed) headers)

filter-on : (xs ys : List HeaderValue) → primitives-in (xs ++ ys) ≡ primitives-in xs + primitives-in ys
unfolding primitives-in
filter-on [] ys = omega arith
filter-on (h ∷ xs) ys = by h.constructed refl (filter-on xs ys) where
  by : (b : Bool) → h.constructed ≡ b → primitives-in (xs ++ ys) ≡ primitives-in xs + primitives-in ys
      → primitives-in ((h ∷ xs) ++ ys) ≡ primitives-in (h ∷ xs) + primitives-in ys
  by true e others = rw e others
  by false e others = rw e (omega (arith, others))

module _ (padding : Bool) (octets : List ℕ) where
  abbrev pub Are : ℕ → List HeaderValue → Type 0
  Are offset headers = AreOutermost padding octets offset headers

  abbrev first : HeaderValue → ℕ
  first h = slice_index octets h.offset

  -- ---- what comes next

  module _ (offset : ℕ) (inside : offset < length octets) where
    padded-back : is_padded_at padding octets offset ≡ true → (all : List HeaderValue) → Are offset all
        → Are (offset + 1) all
    padded-back pad all (outer.no_more e) = absurd (omega (arith, inside, e))
    padded-back pad all (outer.behind_padding within is more) = more
    padded-back pad all (outer.element h n not p size within more) = absurd (cc (pad, not))

    pub padding-next : is_padded_at padding octets offset ≡ true
        → ((more : List HeaderValue) → Are (offset + 1) more → Are offset more)
        × ((all : List HeaderValue) → Are offset all → Are (offset + 1) all)
    padding-next pad = (λ more r. outer.behind_padding inside pad r, padded-back pad)

    -- no header begins there
    pub nothing-next : is_padded_at padding octets offset ≡ false
        → BeginsWithNoHeader (take (length octets - offset) (drop offset octets)) → (all : List HeaderValue)
        → Are offset all → ⊥
    nothing-next pad none all (outer.no_more e) = absurd (omega (arith, inside, e))
    nothing-next pad none all (outer.behind_padding within is more) = absurd (cc (pad, is))
    nothing-next pad none all (outer.element h n not p size within more) =
        none h p.rest p.valid (take_rest octets offset ∙ p.octets_are)

    module _ (count : ℕ) (fields : HeaderFields) (b : BeginsWithFields (drop offset octets) offset false fields count)
        (pad : is_padded_at padding octets offset ≡ false) where
      there : HeaderValue
      there = new_header fields (take count (drop offset octets))

      contents-begin : contents_start there ≡ offset + count
      unfolding there
      contents-begin = starts-at octets offset count fields b

      -- its length is indefinite
      pub open-next : fields.size ≡ Indefinite → (all : List HeaderValue) → Are offset all → ⊥
      unfolding there
      open-next size all (outer.no_more e) = absurd (omega (arith, inside, e))
      open-next size all (outer.behind_padding within is more) = absurd (cc (pad, is))
      open-next size all (outer.element h m not p e within more) =
          let one : there ≡ h = begun-one there h b.begins p in
          let known : definite_length h.size ≡ None =
          ap (λ (x : HeaderValue). definite_length x.size) (sym one) ∙ ap definite_length size in
          absurd (cc)

      module _ (n : ℕ) (size : fields.size ≡ Definite n) where
        element-back : (all : List HeaderValue) → Are offset all
            → (more : List HeaderValue) × Are (offset + count + n) more × (all ≡ there ∷ more)
            × (offset + count + n ≤ length octets)
        unfolding there
        element-back all (outer.no_more e) = absurd (omega (arith, inside, e))
        element-back all (outer.behind_padding within is more) = absurd (cc (pad, is))
        element-back all (outer.element {more = rest} h m not p e within more) =
            let one : there ≡ h = begun-one there h b.begins p in
            let known : definite_length h.size ≡ Some n =
            ap (λ (x : HeaderValue). definite_length x.size) (sym one) ∙ ap definite_length size in
            let same : m ≡ n = cc in
            let start : contents_start h ≡ offset + count = ap contents_start (sym one) ∙ contents-begin in (
              rest,
              subst (λ (i : ℕ). Are i rest) (λ i. start i + same i) more,
              ap (λ (x : HeaderValue). x ∷ rest) (sym one),
              omega (arith, within, start, same),
            )

        -- it ends behind the input
        pub far-next : length octets < offset + count + n → (all : List HeaderValue) → Are offset all → ⊥
        far-next far all r = let back = element-back all r in omega (arith, far, back.3)

        pub element-next : offset + count + n ≤ length octets → (primitive : Bool) → primitive ≡ not fields.constructed
            → IsElementUpTo padding octets offset (offset + count + n) primitive
        unfolding there
        element-next within primitive is = record {
          header = there;
          offset_is = b.begins.offset;
          primitive_is = is;
          further = further padding octets offset inside count fields b pad n;
          within = within;
          on = λ more r.
              outer.element there n pad b.begins (ap definite_length size) (omega (arith, within, contents-begin))
              (subst (λ (i : ℕ). Are (i + n) more) (sym contents-begin) r);
          back = λ all r. let back = element-back all r in (back.0, back.1, back.2);
        }

  -- ---- what is counted

  -- the elements in front of this offset were counted
  pub record Counted (offset : ℕ) (c : Counts) : Type 0 where
    pub done : List HeaderValue
    pub on : (more : List HeaderValue) → Are offset more → Are 0 (done ++ more)
    pub back : (all : List HeaderValue) → Are 0 all
        → (more : List HeaderValue) × Are offset more × (all ≡ done ++ more)
    pub elements : c.elements ≡ length done
    pub primitives : c.primitives ≡ length (filter (λ h. not h.constructed) done)
    pub firsts : c.firsts.items ≡ first_octets octets done
    pub few : c.elements ≤ offset
    pub fewer : c.primitives ≤ c.elements
    pub within : offset ≤ length octets

  pub counted-none : Counted 0 new_counts
  counted-none = record {
    done = [];
    on = λ more r. r;
    back = λ all r. (all, r, refl);
    elements = refl;
    primitives = refl;
    firsts = refl;
    few = omega arith;
    fewer = omega arith;
    within = omega arith;
  }

  pub counted-padding : (offset : ℕ) (c : Counts) → offset < length octets → Counted offset c
      → ((more : List HeaderValue) → Are (offset + 1) more → Are offset more)
      × ((all : List HeaderValue) → Are offset all → Are (offset + 1) all) → Counted (offset + 1) c
  counted-padding offset c inside x next = record {
    done = x.done;
    on = λ more r. x.on more (next.0 more r);
    back = λ all r. let back = x.back all r in (back.0, next.1 back.0 back.1, back.2);
    elements = x.elements;
    primitives = x.primitives;
    firsts = x.firsts;
    few = omega (arith, x.few);
    fewer = x.fewer;
    within = omega (arith, inside);
  }

  pub counted-element : (offset end : ℕ) (primitive : Bool) (c : Counts) → Counted offset c
      → IsElementUpTo padding octets offset end primitive
      → Counted end (counting_element (slice_index octets offset) primitive c)
  unfolding primitives-in
  counted-element offset end primitive c x e = record {
    done = x.done ++ e.header ∷ [];
    on = λ more r.
        subst (λ (l : List HeaderValue). Are 0 l) (sym (append_assoc x.done (e.header ∷ []) more))
        (x.on (e.header ∷ more) (e.on more r));
    back = λ all r.
        let one = x.back all r in
        let two = e.back one.0 one.1 in (
          two.0,
          two.1,
          one.2 ∙ ap (λ (l : List HeaderValue). x.done ++ l) two.2 ∙ sym (append_assoc x.done (e.header ∷ []) two.0),
        );
    elements = omega (arith, x.elements, length-append x.done (e.header ∷ []));
    primitives = primitives-are;
    firsts = firsts-are;
    few = omega (arith, x.few, e.further);
    fewer = by-primitive primitive;
    within = e.within;
  } where
    by-primitive : (b : Bool) → (if b then c.primitives + 1 else c.primitives) ≤ c.elements + 1
    by-primitive true = omega (arith, x.fewer)
    by-primitive false = omega (arith, x.fewer)

    one-more : (b : Bool) → b ≡ not e.header.constructed
        → (if b then c.primitives + 1 else c.primitives) ≡ c.primitives + primitives-in (e.header ∷ [])
    one-more true k = rw (sym k) refl
    one-more false k = rw (sym k) (omega arith)

    primitives-are : (if primitive then c.primitives + 1 else c.primitives)
        ≡ length (filter (λ h. not h.constructed) (x.done ++ e.header ∷ []))
    primitives-are =
        one-more primitive e.primitive_is ∙ ap (λ (n : ℕ). n + primitives-in (e.header ∷ [])) x.primitives
        ∙ sym (filter-on x.done (e.header ∷ []))

    firsts-are : c.firsts.items ++ unless_seen c.firsts.items (slice_index octets offset)
        ≡ first_octets octets (x.done ++ e.header ∷ [])
    firsts-are =
        ap (λ (l : List ℕ). l ++ unless_seen l (slice_index octets offset)) x.firsts
        ∙ ap (λ (i : ℕ). first_octets octets x.done ++ unless_seen (first_octets octets x.done) (slice_index octets i))
        (sym e.offset_is)
        ∙ sym (distinct-more (map first x.done) (first e.header))
        ∙ ap distinct (sym (map-append first x.done (e.header ∷ [])))

  -- an element begins where the input ends: there is none
  all-done : (offset : ℕ) → length octets ≤ offset → (more : List HeaderValue) → Are offset more → more ≡ []
  all-done offset past more (outer.no_more e) = refl
  all-done offset past more (outer.behind_padding within is r) = absurd (omega (arith, past, within))
  all-done offset past more (outer.element h n not p size within r) =
      absurd (omega (arith, past, header-inside octets offset h p))

  pub counted-all : (offset : ℕ) (c : Counts) → length octets ≤ offset → Counted offset c
      → AreKinds padding octets (kinds_counted c)
  counted-all offset c past x = by (are_many octets x.done) refl where
    is-many : (nat_le 3 (length c.firsts.items) && nat_lt (length c.firsts.items) 64) ≡ are_many octets x.done
    is-many = ap (λ (l : List ℕ). nat_le 3 (length l) && nat_lt (length l) 64) x.firsts

    counted-are : kinds_of octets x.done
        ≡ record { elements = c.elements; kinds = length c.firsts.items; primitives = c.primitives }
    counted-are = λ i. record {
      elements = sym x.elements i;
      kinds = ap (λ (l : List ℕ). length l) (sym x.firsts) i;
      primitives = sym x.primitives i;
    }

    by : (b : Bool) → are_many octets x.done ≡ b → AreKinds padding octets (kinds_counted c)
    by true e =
        rw (is-many, e)
        (subst (λ (k : OutermostKinds). AreKinds padding octets (Some k)) counted-are
        (outer.many (subst (λ (l : List HeaderValue). Are 0 l) (append-nil x.done)
        (x.on [] (outer.no_more (omega (arith, past, x.within))))) e))
    by false e =
        rw (is-many, e)
        (outer.few (λ headers r.
        let back = x.back headers r in
        let same : headers ≡ x.done =
        back.2 ∙ ap (λ (l : List HeaderValue). x.done ++ l) (all-done offset past back.0 back.1) ∙ append-nil x.done in
        ap (λ (l : List HeaderValue). are_many octets l) same ∙ e))

  -- nothing begins at the offset
  pub counted-nothing : (offset : ℕ) (c : Counts) → Counted offset c
      → ((all : List HeaderValue) → Are offset all → ⊥) → AreKinds padding octets None
  counted-nothing offset c x none = outer.few (λ headers r. let back = x.back headers r in absurd (none back.0 back.1))

  -- they begin with too many octets
  pub counted-too_many : (offset : ℕ) (c : Counts) → Counted offset c → 64 ≤ length c.firsts.items
      → AreKinds padding octets None
  counted-too_many offset c x enough =
      outer.few (λ headers r.
      let back = x.back headers r in
      let all : first_octets octets headers
      ≡ first_octets octets x.done
      ++ distinct_after (first_octets octets x.done) (map first back.0) =
      ap (λ (l : List HeaderValue). first_octets octets l) back.2
      ∙ ap distinct (map-append first x.done back.0)
      ∙ distinct-append [] (map first x.done) (map first back.0) in
      let size : length (first_octets octets headers)
      ≡ length (first_octets octets x.done)
      + length (distinct_after (first_octets octets x.done) (map first back.0)) =
      ap (λ (l : List ℕ). length l) all
      ∙ length-append (first_octets octets x.done) (distinct_after (first_octets octets x.done) (map first back.0)) in
      too-many (length (first_octets octets headers))
      (omega (arith, size, enough, ap (λ (l : List ℕ). length l) x.firsts)))
    where
      too-many : (n : ℕ) → 64 ≤ n → (nat_le 3 n && nat_lt n 64) ≡ false
      too-many n big = rw (le-ltb n 64 big) (and-false (nat_le 3 n))
