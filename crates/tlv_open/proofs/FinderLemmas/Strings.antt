-- What is found in a primitive.
use Rattle.std.proofs.Common.{◌≡◌, ◌↔◌, ℕ, ◌+◌, ◌-◌, Bool, true, false, ◌&&◌, eqb, List, [], ◌∷◌, ◌++◌, length}
use Rattle.std.proofs.Common.{Option, MatchOption, Some, None, IsTrue, if◌then◌else◌, inl, inr, refl, sym, ap, ◌∙◌}
use Rattle.std.proofs.Common.{arith}
use Rattle.std.proofs.Common.{◌≤◌, drop, subst, take}
use Rattle.std.proofs.lemmas.List.{drop-take, length-take-le, take-append-drop, take-take}
use Rattle.tlv_head.specs.declared.header.HeaderFields.{HeaderFields}
use Rattle.tlv_head.specs.HeaderFields.{IsHeaderSized, new_header}
use Rattle.tlv_head.specs.ReadHeader.{BeginsWithFields}
use Rattle.std.proofs.Common.{append-nil, eqb-true}
use Rattle.std.proofs.lemmas.Bool.{cases_Bool}
use Rattle.tlv_head.specs.declared.header.Class.{Class}
use Rattle.tlv_head.specs.Header.{HeaderValue, IsHeader, announced_length, is_universal, octets_of}
use Rattle.tlv_walk.specs.Forest.{Forest, lead, opening, spelling}
use Rattle.tlv_walk.proofs.GrammarLemmas.Leads.{lead_by}
use Rattle.tlv_walk.specs.Place.{ObeysGrammar}
use Rattle.tlv_walk.proofs.GrammarLemmas.SoundElements.{sound-obeys_grammar}
use Rattle.tlv_walk.proofs.GrammarLemmas.Spellings.{length-opening}
use Rattle.tlv_open.specs.declared.spot.Spot.{Spot}
use Rattle.tlv_open.specs.declared.strings.BrokenString.{BrokenString}
use Rattle.tlv_open.specs.Breaks as breaks
use Rattle.tlv_open.specs.Breaks.{Breaks, IsBroken, IsBrokenString}
use Rattle.tlv_open.specs.Held.{HoldsEncodings, IsClearPrimitive, after_unused_bits, inner_octets, place_by_itself}
use Rattle.tlv_open.specs.Opens as opens
use Rattle.tlv_open.specs.Opens.{Opens, Where, where_of_held}
use Rattle.tlv_open.specs.Private.Finds.{AddsAll, AddsPrimitive, AddsStrings, FoundStrings, IsReadAt, found_in_turn}
use Rattle.tlv_open.specs.Private.Adds.{AddsHeld, IsAllOfPrimitive, Tries}
use Rattle.tlv_open.specs.Private.Finds.{list_of, spot_before, spot_held, where_of}
use Rattle.tlv_open.proofs.FinderLemmas.NothingFound.{nothing_found}
use Rattle.tlv_open.specs.Private.Held.{inner_octets_of}
use Rattle.tlv_open.proofs.FinderLemmas.FoundBoth.{both-assoc, both-nothing}

-- nothing is found
pub adds-other : (w : Spot) (v : Bool) (h : HeaderValue) (contents : List ℕ) (old : FoundStrings)
    → (w.may_open ≡ true → (inner : Forest) → HoldsEncodings w.depth h contents inner → ⊥)
    → ((x : BrokenString) → IsBroken (where_of w) v h contents x → ⊥) → AddsPrimitive w v h contents old old
adds-other w v h contents old none sound = record {
  found = nothing_found;
  added = sym (both-nothing old);
  finds = λ e g ys last o. record {
    opens = opens.closed none o.opens;
    breaks =
        breaks.other none (λ x b. sound x (subst (λ (k : Bool). IsBroken (where_of w) k h contents x) last b)) o.breaks;
  };
}

pub adds-unopened : (w : Spot) (v : Bool) (h : HeaderValue) (contents : List ℕ) (old : FoundStrings)
    → w.may_open ≡ false → AddsPrimitive w v h contents old old
adds-unopened w v h contents old e =
    adds-other w v h contents old (λ t inner s. let u : true ≡ false = sym t ∙ e in absurd (cc (u)))
    (λ x b. let u : true ≡ false = sym b.may_open ∙ e in absurd (cc (u)))

pub adds-no_octets : (w : Spot) (v : Bool) (h : HeaderValue) (contents : List ℕ) (old : FoundStrings)
    → inner_octets h contents ≡ None → AddsPrimitive w v h contents old old
adds-no_octets w v h contents old e =
    adds-other w v h contents old
    (λ t inner s. let u : Some (spelling inner) ≡ None = sym s.octets ∙ e in absurd (cc (u)))
    (λ x b. let u : Some b.octets ≡ None = sym b.inner ∙ e in absurd (cc (u)))

-- the string breaks, or does not
module _ (w : Spot) (v : Bool) (h : HeaderValue) (contents octets : List ℕ) (old new : FoundStrings)
    (inner : inner_octets h contents ≡ Some octets)
    (none : (f : Forest) → HoldsEncodings w.depth h contents f → ⊥) where
  by-octets : (x : BrokenString) (o : List ℕ) → o ≡ octets
      → IsBrokenString (w.start + h.offset) w.depth (octets_of h ++ contents) o v x
      → IsBrokenString (w.start + h.offset) w.depth (octets_of h ++ contents) octets v x
  by-octets x o e b =
      subst (λ (k : List ℕ). IsBrokenString (w.start + h.offset) w.depth (octets_of h ++ contents) k v x) e b

  adds-no_fault : ((x : BrokenString)
      → IsBrokenString (w.start + h.offset) w.depth (octets_of h ++ contents) octets v x → ⊥)
      → AddsPrimitive w v h contents old old
  adds-no_fault sound =
      adds-other w v h contents old (λ t. none)
      (λ x b.
      let u : Some b.octets ≡ Some octets = sym b.inner ∙ inner in
      sound x (by-octets x b.octets (cc (u)) b.is_broken))

  adds-fault : (x : BrokenString) → w.may_open ≡ true
      → IsBrokenString (w.start + h.offset) w.depth (octets_of h ++ contents) octets v x
      → new ≡ found_in_turn old (record { opened = []; broken = x ∷ [] }) → AddsPrimitive w v h contents old new
  adds-fault x may b e = record {
    found = record { opened = []; broken = x ∷ [] };
    added = e;
    finds = λ k g ys last o. record {
      opens = opens.closed (λ t. none) o.opens;
      breaks =
          breaks.broken x
          (subst (λ (k : Bool). IsBroken (where_of w) k h contents x) (sym last) (record {
            may_open = may;
            not_opened = none;
            octets = octets;
            inner = inner;
            is_broken = b;
          }))
          o.breaks;
    };
  }

  pub adds-broken : (found : Option BrokenString) → w.may_open ≡ true
      → MatchOption found
      ((x : BrokenString) → IsBrokenString (w.start + h.offset) w.depth (octets_of h ++ contents) octets v x → ⊥)
      (λ x. IsBrokenString (w.start + h.offset) w.depth (octets_of h ++ contents) octets v x)
      → new.opened ≡ old.opened → new.broken ≡ old.broken ++ list_of found → AddsPrimitive w v h contents old new
  adds-broken None may sound e d =
      let same : old ≡ new = λ i. record {
        opened = sym e i;
        broken = sym (d ∙ append-nil old.broken) i;
      } in
      subst (λ (k : FoundStrings). AddsPrimitive w v h contents old k) same (adds-no_fault sound)
  adds-broken (Some x) may b e d =
      adds-fault x may b (λ i. record { opened = (e ∙ sym (append-nil old.opened)) i; broken = d i })

-- how many octets are before the inner ones
unused-lead : (contents octets : List ℕ) → after_unused_bits contents ≡ Some octets
    → length contents ≡ 1 + length octets
unused-lead [] octets e = absurd (cc (e))
unused-lead (x ∷ xs) octets e = go (eqb x 0) e
  where
    go : (b : Bool) → (if b then Some xs else None) ≡ Some octets → length (x ∷ xs) ≡ 1 + length octets
    go true t = let same : xs ≡ octets = cc (t) in omega (arith, ap length same)
    go false t = absurd (cc (t))

pub lead-size : (class : Class) (number : ℕ) (contents octets : List ℕ)
    → inner_octets_of class number contents ≡ Some octets
    → length contents ≡ length (lead_by false (eqb number 3)) + length octets
lead-size class number contents octets e = by_class (is_universal class) e
  where
    by_class : (u : Bool)
        → (if u && eqb number 4 then Some contents
        else (if u && eqb number 3 then after_unused_bits contents else None))
        ≡ Some octets
        → length contents ≡ length (lead_by false (eqb number 3)) + length octets
    by_class false t = absurd (cc (t))
    by_class true t = elim (cases_Bool (eqb number 4)) [
      | inl four ↦
          let is : number ≡ 4 = eqb-true number 4 four in
          let t' : Some contents ≡ Some octets = rw four at t in
          let same : contents ≡ octets = cc (t') in
          rw is (omega (arith, ap length same))
      | inr other ↦
          let t' : (if eqb number 3 then after_unused_bits contents else None) ≡ Some octets = rw other at t in
          elim (cases_Bool (eqb number 3)) [
            | inl three ↦
                let u : after_unused_bits contents ≡ Some octets = rw three at t' in
                rw three (unused-lead contents octets u)
            | inr none ↦ let u : None ≡ Some octets = rw none at t' in absurd (cc (u))
          ]
    ]

-- the string is opened
pub adds-opened : (w u : Spot) (v : Bool) (h : HeaderValue) (contents octets : List ℕ) (old mid new : FoundStrings)
    (count n : ℕ) (b : Bool)
    → w.may_open ≡ true → h.constructed ≡ false → length (octets_of h) ≡ count
    → inner_octets h contents ≡ Some octets → IsTrue b ↔ ((inner : Forest) × HoldsEncodings w.depth h contents inner)
    → b ≡ true → mid ≡ found_in_turn old (record { opened = (w.start + h.offset) ∷ []; broken = [] })
    → u.start ≡ w.start + h.offset + ((count + length contents) - length octets) → u.depth ≡ w.depth + 1
    → u.may_open ≡ true → u.in_extension ≡ false → AddsAll u 0 false octets mid new n
    → AddsPrimitive w v h contents old new
adds-opened w u v h contents octets old mid new _ n b may primitive size inner held e pushed start depth open_ no_e a =
    let s : (f : Forest) × HoldsEncodings w.depth h contents f = held.0 e in
    let spelled : spelling s.0 ≡ octets =
    let t : Some (spelling s.0) ≡ Some octets = sym s.1.octets ∙ inner in cc (t) in
    let obeys : ObeysGrammar (place_by_itself (w.depth + 1)) s.0 =
    sound-obeys_grammar (place_by_itself (w.depth + 1)) s.0 (λ t. refl) tt s.1.sound in
    let read : IsReadAt (place_by_itself (w.depth + 1)) s.0 u.depth 0 false octets [] = record {
      depth_is = sym depth;
      offset_is = refl;
      none_named = refl;
      indefinite = refl;
      obeys_grammar = obeys;
      spelled = append-nil (spelling s.0) ∙ spelled;
      end = inl refl;
    } in
    let r : AddsStrings (spot_before u false []) s.0 octets mid new n = a (place_by_itself (w.depth + 1)) s.0 [] read in
    let led : length contents ≡ length (lead_by false (eqb h.number 3)) + length octets =
    lead-size h.class h.number contents octets inner in
    let lead_is : length (lead h) ≡ length (lead_by false (eqb h.number 3)) =
    ap (λ (k : Bool). length (lead_by k (eqb h.number 3))) primitive in
    let begins : u.start ≡ w.start + (h.offset + length (opening h)) =
    omega (arith, start, led, lead_is, size, length-opening h) in
    let where_is : where_of u ≡ where_of_held (where_of w) h = λ i. record {
      start = begins i;
      depth = depth i;
      may_open = open_ i;
    } in
    let none : (u.in_extension && true) ≡ false = ap (λ (k : Bool). k && true) no_e in
    record {
      found = found_in_turn (record { opened = (w.start + h.offset) ∷ []; broken = [] }) r.found;
      added =
          r.added ∙ (ap (λ (o : FoundStrings). found_in_turn o r.found) pushed
          ∙ both-assoc old (record { opened = (w.start + h.offset) ∷ []; broken = [] }) r.found);
      finds = λ k g ys last o. record {
        opens =
            opens.opened may s.0 s.1 (subst (λ (x : Where). Opens x s.0 r.found.opened) where_is r.finds.opens) o.opens;
        breaks =
            breaks.opened may s.0 s.1
            (subst (λ (x : Where). Breaks x false s.0 r.found.broken) where_is
            (subst (λ (x : Bool). Breaks (where_of u) x s.0 r.found.broken) none r.finds.breaks))
            o.breaks;
      };
    }

-- a string by its octets
pub string-front : (f : HeaderFields) (string : List ℕ) (count : ℕ)
    → octets_of (new_header f (take count string)) ≡ take count string
string-front f string count = take-append-drop f.id_len (take count string)

pub string-whole : (f : HeaderFields) (string : List ℕ) (count : ℕ)
    → octets_of (new_header f (take count string)) ++ drop count string ≡ string
string-whole f string count =
    ap (λ (o : List ℕ). o ++ drop count string) (string-front f string count) ∙ take-append-drop count string

pub string-count : (f : HeaderFields) (string : List ℕ) (count : ℕ) → count ≤ length string
    → length (octets_of (new_header f (take count string))) ≡ count
string-count f string count h = ap length (string-front f string count) ∙ length-take-le count string h

-- a string among octets
pub primitive-at : (w : Spot) (v : Bool) (f : HeaderFields) (octets : List ℕ) (count m : ℕ) (old new : FoundStrings)
    → AddsPrimitive w v (new_header f (take count (take (count + m) octets))) (drop count (take (count + m) octets)) old
    new → AddsPrimitive w v (new_header f (take count octets)) (take m (drop count octets)) old new
primitive-at w v f octets count m old new a =
    subst (λ (x : List ℕ). AddsPrimitive w v (new_header f x) (take m (drop count octets)) old new)
    (take-take count (count + m) octets (omega arith))
    (subst
    (λ (x : List ℕ). AddsPrimitive w v (new_header f (take count (take (count + m) octets))) x old new)
    (drop-take count m octets) a)

-- what a string adds that was tried
module _ (w : Spot) (v : Bool) (h : HeaderValue) (contents octets : List ℕ) (old : FoundStrings)
    (may : w.may_open ≡ true)
    (inner : inner_octets h contents ≡ Some octets) (offset : ℕ) (here : offset ≡ w.start + h.offset) where
  pub adds-held : (new : FoundStrings) (start count : ℕ) (b : Bool) → h.constructed ≡ false
      → length (octets_of h) ≡ count → IsTrue b ↔ ((f : Forest) × HoldsEncodings w.depth h contents f) → b ≡ true
      → start ≡ w.start + h.offset + ((count + length contents) - length octets) → Tries w start offset octets old new b
      → AddsPrimitive w v h contents old new
  adds-held new start count b primitive size held e start_is tries =
      let a : AddsHeld w start offset octets old new =
      subst (λ (k : Bool). Tries w start offset octets old new k) e tries in
      adds-opened w (spot_held w start) v h contents octets old
      (found_in_turn old (record { opened = offset ∷ []; broken = [] })) new count a.size b may primitive size inner
      held e
      (ap (λ (o : ℕ). found_in_turn old (record { opened = o ∷ []; broken = [] })) here) start_is refl refl refl a.adds

  pub adds-unheld : (mid new : FoundStrings) (start : ℕ) (string : List ℕ) (b : Bool) (found : Option BrokenString)
      → IsTrue b ↔ ((f : Forest) × HoldsEncodings w.depth h contents f) → b ≡ false
      → Tries w start offset octets old mid b → octets_of h ++ contents ≡ string
      → MatchOption found ((x : BrokenString) → IsBrokenString offset w.depth string octets v x → ⊥)
      (λ x. IsBrokenString offset w.depth string octets v x)
      → new.opened ≡ mid.opened → new.broken ≡ mid.broken ++ list_of found → AddsPrimitive w v h contents old new
  adds-unheld mid new start string b found held e tries whole is_broken opened broken =
      let same : mid ≡ old = subst (λ (k : Bool). Tries w start offset octets old mid k) e tries in
      adds-broken w v h contents octets old new inner
      (λ f s. let t : true ≡ false = sym (held.1 (f, s)) ∙ e in absurd (cc (t))) found may
      (subst
      (λ (o : ℕ). MatchOption found
      ((x : BrokenString) → IsBrokenString o w.depth (octets_of h ++ contents) octets v x → ⊥)
      (λ x. IsBrokenString o w.depth (octets_of h ++ contents) octets v x))
      here
      (subst
      (λ (o : List ℕ). MatchOption found ((x : BrokenString) → IsBrokenString offset w.depth o octets v x → ⊥)
      (λ x. IsBrokenString offset w.depth o octets v x))
      (sym whole) is_broken))
      (opened ∙ ap (λ (o : FoundStrings). o.opened) same)
      (broken ∙ ap (λ (o : FoundStrings). o.broken ++ list_of found) same)

-- octets that are cut after the contents
pub begins-taken : (octets : List ℕ) (offset : ℕ) (f : HeaderFields) (count m : ℕ)
    → BeginsWithFields octets offset false f count → count + m ≤ length octets
    → BeginsWithFields (take (count + m) octets) offset false f count
begins-taken octets offset f count m b few =
    let same : take count octets ≡ take count (take (count + m) octets) =
    sym (take-take count (count + m) octets (omega arith)) in
    record {
      within = omega (arith, length-take-le (count + m) octets few);
      sized = subst (λ (o : List ℕ). IsHeaderSized f o) same b.sized;
      begins = record {
        valid = subst (λ (o : List ℕ). IsHeader (new_header f o)) same b.begins.valid;
        offset = b.begins.offset;
        named = b.begins.named;
        rest = drop count (take (count + m) octets);
        octets_are = sym (string-whole f (take (count + m) octets) count);
      };
    }

pub whole-taken : (octets : List ℕ) (offset : ℕ) (f : HeaderFields) (count m : ℕ)
    → BeginsWithFields octets offset false f count → m ≡ announced_length f.size → m ≤ length (drop count octets)
    → count + m ≤ length octets → IsAllOfPrimitive (take (count + m) octets) offset
whole-taken octets offset f count m b all few within = record {
  fields = f;
  count = count;
  begins = begins-taken octets offset f count m b within;
  whole =
      sym (ap length (drop-take count m octets) ∙ (length-take-le m (drop count octets) few ∙ all));
}

pub clear-taken : (octets : List ℕ) (f : HeaderFields) (count m : ℕ) (k : Bool)
    → (IsTrue k
    ↔ IsClearPrimitive (new_header f (take count (take (count + m) octets))) (drop count (take (count + m) octets)))
    → IsTrue k ↔ IsClearPrimitive (new_header f (take count octets)) (take m (drop count octets))
clear-taken octets f count m k a =
    subst (λ (x : List ℕ). IsTrue k ↔ IsClearPrimitive (new_header f x) (take m (drop count octets)))
    (take-take count (count + m) octets (omega arith))
    (subst
    (λ (x : List ℕ). IsTrue k ↔ IsClearPrimitive (new_header f (take count (take (count + m) octets))) x)
    (drop-take count m octets) a)
