-- The offsets at which the next record is looked for, one after another.
use Rattle.std.proofs.Common.{◌≡◌, ℕ, zero, suc, ◌+◌, ◌-◌, ◌<◌, ◌≤◌, Bool, true, false, List, [], ◌∷◌, ◌++◌}
use Rattle.std.proofs.Common.{append_assoc, append-nil, length, not}
use Rattle.std.proofs.Common.{drop, take, ap, arith, get_or, length-append, length-drop, refl, subst, sym, ◌∙◌}
use Rattle.std.specs.Prelude.{IfSome, Option, Some, None}
use Rattle.std.specs.Option.{option_map}
use Rattle.std.proofs.lemmas.List.{drop_all, take_rest}
use Rattle.tlv_head.proofs.ReaderLemmas.Prefix.{header-two}
use Rattle.tlv_head.specs.declared.header.HeaderFields.{HeaderFields}
use Rattle.tlv_head.specs.declared.header.Size.TheVariants.{Definite, Indefinite}
use Rattle.tlv_head.specs.Header.{HeaderValue, definite_length, octets_of}
use Rattle.tlv_head.specs.HeaderFields.{new_header}
use Rattle.tlv_head.specs.ReadHeader.{BeginsWithFields}
use Rattle.tlv_head.specs.Refusal.{BeginsWithNoHeader}
use Rattle.tlv_head.specs.declared.fault.Fault.{Fault}
use Rattle.tlv_walk.proofs.GrammarLemmas.Endings.{done-sound, sound-done}
use Rattle.tlv_walk.proofs.GrammarLemmas.OneEnding.{ending-unique}
use Rattle.tlv_head.specs.declared.fault.FaultCode.{FaultCode}
use Rattle.tlv_walk.specs.declared.ending.Ending.{Ending}
use Rattle.tlv_walk.specs.declared.framing.Framing.{Framing}
use Rattle.tlv_walk.specs.declared.ending.Ending.TheVariants.{Done}
use Rattle.tlv_walk.specs.declared.ending.Ending.TheVariants as ending
use Rattle.tlv_walk.specs.Ending.{IsEnding, fault_ending}
use Rattle.tlv_open.specs.Opens.{closed_framing}
use Rattle.tlv_reasons.proofs.FirstLemmas.{from-next}
use Rattle.tlv_reasons.proofs.LawLemmas.{within-one}
use Rattle.tlv_reasons.proofs.LengthLemmas.{begun-one}
use Rattle.tlv_reasons.proofs.OctetLemmas.{starts-at}
use Rattle.tlv_reasons.specs.WrongLength.{contents_start}
use Rattle.tlv_reasons.specs.declared.lengths.WrongLength.{WrongLength}
use Rattle.tlv_reasons.specs.FirstOf.{IsFirstWithin, all_spent, all_tried, tried_in_vain, tried_well}
use Rattle.tlv_reasons.specs.Elements.{offset_sum}
use Rattle.tlv_reasons.specs.NextRecord.{EndsNear, IsNextRecord, IsRecordAfter, IsRecordAt, IsSomeRecord, ReadsInVain}
use Rattle.tlv_reasons.specs.NextRecord.{another_length, another_start, at, is_far, none_in_front, nothing, nowhere}
use Rattle.tlv_reasons.specs.NextRecord.{offsets_where, searched, to_a_fault, to_the_end, tried_offsets, up_to_fault}
use Rattle.tlv_reasons.specs.declared.records.NextRecord.{NextRecord}

-- ---- offsets of octets for which p holds

module _ (octets : List ℕ) (p : ℕ → Bool) (n : ℕ) where
  -- the first of these offsets, from n on
  abbrev pub From : ℕ → List ℕ
  From tries = take tries (offsets_where p n (drop n octets))

  -- the first of them after n
  abbrev pub FromNext : ℕ → List ℕ
  FromNext tries = take tries (offsets_where p (n + 1) (drop (n + 1) octets))

  pub alike-here : (tries more : ℕ) → tries ≡ suc more → n < length octets → p (get_or octets n 0) ≡ true
      → From tries ≡ n ∷ FromNext more
  alike-here tries more t h e = rw (from-next octets n h, e, t) refl

  pub other-here : (tries : ℕ) → n < length octets → p (get_or octets n 0) ≡ false → From tries ≡ FromNext tries
  other-here tries h e = rw (from-next octets n h, e) refl

  none : List ℕ
  none = []

  none-taken : (tries : ℕ) → take tries none ≡ []
  unfolding none
  none-taken zero = refl
  none-taken (suc tries) = refl

  pub alike-end : (tries : ℕ) → length octets ≤ n → From tries ≡ []
  unfolding none
  alike-end tries h = rw (drop_all n octets h) (none-taken tries)

  -- one more of them is put behind others
  pub one-more : (tried all : List ℕ) (tries more : ℕ) → tries ≡ suc more → n < length octets
      → p (get_or octets n 0) ≡ true → tried ++ From tries ≡ all → (tried ++ n ∷ []) ++ FromNext more ≡ all
  one-more tried all tries more t h e k =
      append_assoc tried (n ∷ []) (FromNext more) ∙ ap (λ (l : List ℕ). tried ++ l) (sym (alike-here tries more t h e)) ∙ k

  pub last-one : (tried all : List ℕ) (tries : ℕ) → tries ≡ 1 → n < length octets → p (get_or octets n 0) ≡ true
      → tried ++ From tries ≡ all → tried ++ n ∷ [] ≡ all
  last-one tried all tries t h e k = sym (append-nil (tried ++ n ∷ [])) ∙ one-more tried all tries 0 t h e k

  pub none-more : (tried all : List ℕ) (tries : ℕ) → n < length octets → p (get_or octets n 0) ≡ false
      → tried ++ From tries ≡ all → tried ++ FromNext tries ≡ all
  none-more tried all tries h e k = ap (λ (l : List ℕ). tried ++ l) (sym (other-here tries h e)) ∙ k

-- ---- tries

-- whether an ending is a fault far behind that of the input
is_far_ending : ℕ → ℕ → Ending → Bool
is_far_ending fault offset Done = false
is_far_ending fault offset (ending.Fault next) = is_far fault offset next.code next.offset

-- what is read in vain leads to no record
pub vain-no_record : (padding : Bool) (octets : List ℕ) (fault offset count : ℕ)
    → ReadsInVain padding octets fault offset count → IsSomeRecord padding octets fault offset → ⊥
unfolding is_far_ending
vain-no_record padding octets fault offset count (up_to_fault h x e code ends far) (next, to_the_end s) =
    let other : fault_ending code count ≡ Done =
    ending-unique (closed_framing padding) (drop offset octets) (fault_ending code count) Done ends
    (sound-done (closed_framing padding) (drop offset octets) s.sound) in
    cc (other)
vain-no_record padding octets fault offset count (up_to_fault h x e code ends near)
    (next, to_a_fault g y d other n final far) =
    let same : fault_ending code count ≡ fault_ending other n =
    ending-unique (closed_framing padding) (drop offset octets) (fault_ending code count) (fault_ending other n) ends final in
    let also : is_far fault offset code count ≡ is_far fault offset other n =
    ap (λ (e : Ending). is_far_ending fault offset e) same in
    let wrong : false ≡ true = sym near ∙ also ∙ far in cc (wrong)
vain-no_record padding octets fault offset count (nothing none) (next, to_the_end s) =
    let other : true ≡ false = sym s.constructed ∙ none s.header s.begins in cc (other)
vain-no_record padding octets fault offset count (nothing none) (next, to_a_fault g y d code n ends far) =
    let other : true ≡ false = sym d ∙ none g y in cc (other)

pub not-false : (b : Bool) → not b ≡ true → b ≡ false
not-false true e = absurd (cc (e))
not-false false e = refl

pub not-true : (b : Bool) → not b ≡ false → b ≡ true
not-true true e = refl
not-true false e = absurd (cc (e))

module _ (padding : Bool) (octets : List ℕ) (fault : ℕ) where
  -- the first of these offsets is found with this budget
  abbrev pub IsFirstTried : ℕ → List ℕ → Option ℕ → Type 0
  IsFirstTried budget offsets found =
      IsFirstWithin (IsSomeRecord padding octets fault) (ReadsInVain padding octets fault) budget offsets found

  pub tried-here : (budget : ℕ) (offsets : List ℕ) (i : ℕ) → i < length offsets → (budget ≡ 0 → ⊥)
      → IsSomeRecord padding octets fault (get_or offsets i 0)
      → IsFirstTried budget (drop i offsets) (Some (get_or offsets i 0))
  tried-here budget offsets i h some s = rw (from-next offsets i h) (tried_well {budget = budget} (omega (arith, some)) s)

  pub tried-later : (budget count : ℕ) (offsets : List ℕ) (i : ℕ) (found : Option ℕ) → i < length offsets
      → (budget ≡ 0 → ⊥) → ReadsInVain padding octets fault (get_or offsets i 0) count
      → IsFirstTried (budget - count) (drop (i + 1) offsets) found → IsFirstTried budget (drop i offsets) found
  tried-later budget count offsets i found h some vain f =
      rw (from-next offsets i h)
      (tried_in_vain {budget = budget} (omega (arith, some))
      (vain-no_record padding octets fault (get_or offsets i 0) count vain) vain f)

  pub tried-spent : (budget : ℕ) (offsets : List ℕ) → budget ≡ 0 → IsFirstTried budget offsets None
  tried-spent budget offsets none = rw none all_spent

  pub tried-all : (budget : ℕ) (offsets : List ℕ) (i : ℕ) → length offsets ≤ i
      → IsFirstTried budget (drop i offsets) None
  tried-all budget offsets i h = rw (drop_all i offsets h) all_tried

  module _ (offset : ℕ) where
    pub vain-past : length octets < offset → ReadsInVain padding octets fault offset 0
    vain-past past =
        nothing (λ h p.
        let two : 2 ≤ length (octets_of h) = header-two h p.valid in
        let all : length (drop offset octets) ≡ length (octets_of h ++ p.rest) = ap length p.octets_are in
        absurd (omega (arith, past, two, all, length-drop offset octets, length-append (octets_of h) p.rest)))

    -- an ending of the octets from there on
    pub ends-there : (framing : Framing) (e d : Ending) → framing ≡ closed_framing padding → e ≡ d
        → IsEnding framing (take (length octets - offset) (drop offset octets)) e
        → IsEnding (closed_framing padding) (drop offset octets) d
    ends-there framing e d same is ends =
        subst (λ (f : Framing). IsEnding f (drop offset octets) d) same
        (subst (λ (xs : List ℕ). IsEnding framing xs d) (take_rest octets offset)
        (subst (λ (y : Ending). IsEnding framing (take (length octets - offset) (drop offset octets)) y) is ends))

    pub vain-no_header : BeginsWithNoHeader (take (length octets - offset) (drop offset octets))
        → ReadsInVain padding octets fault offset 0
    vain-no_header none =
        nothing (λ h p. absurd (none h p.rest p.valid (take_rest octets offset ∙ p.octets_are)))

    module _ (count : ℕ) (fields : HeaderFields)
        (b : BeginsWithFields (drop offset octets) offset false fields count) where
      pub vain-primitive : fields.constructed ≡ false → ReadsInVain padding octets fault offset 0
      vain-primitive e =
          nothing (λ h p.
          let one : new_header fields (take count (drop offset octets)) ≡ h = begun-one _ h b.begins p in
          ap (λ (x : HeaderValue). x.constructed) (sym one) ∙ e)

      pub vain-fault : (next : Fault) → fields.constructed ≡ true
          → IsEnding (closed_framing padding) (drop offset octets) (ending.Fault next)
          → is_far fault offset next.code next.offset ≡ false
          → ReadsInVain padding octets fault offset next.offset
      vain-fault next e ends near =
          up_to_fault (new_header fields (take count (drop offset octets))) b.begins e next.code ends near

      pub record-far : (next : Fault) → fields.constructed ≡ true
          → IsEnding (closed_framing padding) (drop offset octets) (ending.Fault next)
          → is_far fault offset next.code next.offset ≡ true
          → IsRecordAt padding octets fault offset (Some (offset_sum offset next.offset))
      record-far next e ends far =
          to_a_fault (new_header fields (take count (drop offset octets))) b.begins e next.code next.offset ends far

      pub record-to-end : fields.constructed ≡ true → IsEnding (closed_framing padding) (drop offset octets) Done
          → IsRecordAt padding octets fault offset None
      record-to-end e ends =
          to_the_end (record {
            header = new_header fields (take count (drop offset octets));
            begins = b.begins;
            constructed = e;
            sound = done-sound (closed_framing padding) (drop offset octets) ends;
          })

-- ---- where the damaged element ends

module _ (octets : List ℕ) (offset count : ℕ) (fields : HeaderFields)
    (b : BeginsWithFields (drop offset octets) offset false fields count) where
  damaged : HeaderValue
  damaged = new_header fields (take count (drop offset octets))

  contents-there : contents_start damaged ≡ offset + count
  unfolding damaged
  contents-there = starts-at octets offset count fields b

  pub ends-at : (n : ℕ) → fields.size ≡ Definite n → offset + count + n ≤ length octets + 1
      → EndsNear octets offset (Some (offset + count + n))
  unfolding damaged
  ends-at n size near =
      subst (λ (i : ℕ). EndsNear octets offset (Some (i + n))) contents-there
      (at damaged n b.begins (ap definite_length size) (omega (arith, near, contents-there)))

  pub ends-far : (n : ℕ) → fields.size ≡ Definite n → length octets + 1 < offset + count + n
      → EndsNear octets offset None
  unfolding damaged
  ends-far n size far =
      nowhere (λ h m begins e.
      let one : damaged ≡ h = begun-one damaged h b.begins begins in
      let known : definite_length h.size ≡ Some n =
      ap (λ (x : HeaderValue). definite_length x.size) (sym one) ∙ ap definite_length size in
      let same : m ≡ n = cc in
      let start : contents_start h ≡ offset + count = ap contents_start (sym one) ∙ contents-there in
      omega (arith, far, same, start))

  pub ends-open : fields.size ≡ Indefinite → EndsNear octets offset None
  unfolding damaged
  ends-open size =
      nowhere (λ h m begins e.
      let one : damaged ≡ h = begun-one damaged h b.begins begins in
      let known : definite_length h.size ≡ None =
      ap (λ (x : HeaderValue). definite_length x.size) (sym one) ∙ ap definite_length size in
      absurd (cc))

pub ends-no_header : (octets : List ℕ) (offset : ℕ)
    → BeginsWithNoHeader (take (length octets - offset) (drop offset octets)) → EndsNear octets offset None
ends-no_header octets offset none =
    nowhere (λ h m p e. absurd (none h p.rest p.valid (take_rest octets offset ∙ p.octets_are)))

pub ends-past : (octets : List ℕ) (offset : ℕ) → length octets < offset → EndsNear octets offset None
ends-past octets offset past =
    nowhere (λ h m p e.
    let two : 2 ≤ length (octets_of h) = header-two h p.valid in
    let all : length (drop offset octets) ≡ length (octets_of h ++ p.rest) = ap length p.octets_are in
    absurd (omega (arith, past, two, all, length-drop offset octets, length-append (octets_of h) p.rest)))

-- ---- an input has one next record

ends-one : (octets : List ℕ) (offset : ℕ) (a b : Option ℕ) → EndsNear octets offset a → EndsNear octets offset b → a ≡ b
ends-one octets offset a b (at h n x e near) (at g m y f le) =
    let one : h ≡ g = begun-one h g x y in
    let known : definite_length g.size ≡ Some n =
    ap (λ (z : HeaderValue). definite_length z.size) (sym one) ∙ e in
    let same : n ≡ m = cc in
    λ i. Some (contents_start (one i) + same i)
ends-one octets offset a b (at h n x e near) (nowhere none) = absurd (omega (arith, near, none h n x e))
ends-one octets offset a b (nowhere none) (at h n x e near) = absurd (omega (arith, near, none h n x e))
ends-one octets offset a b (nowhere none) (nowhere other) = refl

-- equal endings with a fault have it at the same offset
offset-of : Ending → ℕ
offset-of Done = 0
offset-of (ending.Fault fault) = fault.offset

fault-offset-of : {code other : FaultCode} {a b : ℕ} → fault_ending code a ≡ fault_ending other b → a ≡ b
unfolding offset-of
fault-offset-of same = ap offset-of same

vain-one : (padding : Bool) (octets : List ℕ) (fault offset a b : ℕ) → ReadsInVain padding octets fault offset a
    → ReadsInVain padding octets fault offset b → a ≡ b
vain-one padding octets fault offset a b (up_to_fault h x e code ends near) (up_to_fault g y d other final also) =
    let same : fault_ending code a ≡ fault_ending other b =
    ending-unique (closed_framing padding) (drop offset octets) (fault_ending code a) (fault_ending other b) ends final in
    fault-offset-of same
vain-one padding octets fault offset a b (up_to_fault h x e code ends near) (nothing none) =
    let other : true ≡ false = sym e ∙ none h x in absurd (cc (other))
vain-one padding octets fault offset a b (nothing none) (up_to_fault h x e code ends near) =
    let other : true ≡ false = sym e ∙ none h x in absurd (cc (other))
vain-one padding octets fault offset a b (nothing none) (nothing other) = refl

-- from an offset on an input parses up to one place
place-one : (padding : Bool) (octets : List ℕ) (fault offset : ℕ) (a b : Option ℕ)
    → IsRecordAt padding octets fault offset a → IsRecordAt padding octets fault offset b → a ≡ b
place-one padding octets fault offset a b (to_the_end s) (to_the_end t) = refl
place-one padding octets fault offset a b (to_the_end s) (to_a_fault h x e code n ends far) =
    let other : fault_ending code n ≡ Done =
    ending-unique (closed_framing padding) (drop offset octets) (fault_ending code n) Done ends
    (sound-done (closed_framing padding) (drop offset octets) s.sound) in
    absurd (cc (other))
place-one padding octets fault offset a b (to_a_fault h x e code n ends far) (to_the_end s) =
    let other : fault_ending code n ≡ Done =
    ending-unique (closed_framing padding) (drop offset octets) (fault_ending code n) Done ends
    (sound-done (closed_framing padding) (drop offset octets) s.sound) in
    absurd (cc (other))
place-one padding octets fault offset a b (to_a_fault h x e code n ends far) (to_a_fault g y d other m final also) =
    let same : fault_ending code n ≡ fault_ending other m =
    ending-unique (closed_framing padding) (drop offset octets) (fault_ending code n) (fault_ending other m) ends final in
    ap (λ (i : ℕ). Some (offset_sum offset i)) (fault-offset-of same)

-- a record is known by its offset
found-one : (padding : Bool) (octets : List ℕ) (fault : ℕ) (a b : Option NextRecord)
    → option_map (λ (r : NextRecord). r.offset) a ≡ option_map (λ (r : NextRecord). r.offset) b
    → IfSome a (λ r. IsRecordAt padding octets fault r.offset r.fault)
    → IfSome b (λ r. IsRecordAt padding octets fault r.offset r.fault) → a ≡ b
found-one padding octets fault None None e x y = refl
found-one padding octets fault None (Some r) e x y = absurd (cc (e))
found-one padding octets fault (Some r) None e x y = absurd (cc (e))
found-one padding octets fault (Some r) (Some t) e x y =
    let place : r.offset ≡ t.offset = cc (e) in
    let next : r.fault ≡ t.fault =
    place-one padding octets fault t.offset r.fault t.fault
    (subst (λ (i : ℕ). IsRecordAt padding octets fault i r.fault) place x) y in
    λ i. Some (record { offset = place i; fault = next i })

record-one : (reads : ℕ) (padding : Bool) (octets : List ℕ) (fault offset : ℕ) (a b : Option NextRecord)
    → IsRecordAfter reads padding octets fault offset a → IsRecordAfter reads padding octets fault offset b → a ≡ b
record-one reads padding octets fault offset a b x y =
    let same : y.end ≡ x.end = ends-one octets offset y.end x.end y.ends x.ends in
    found-one padding octets fault a b
    (within-one (vain-one padding octets fault) x.first
    (subst (λ (e : Option ℕ). IsFirstTried padding octets fault reads (tried_offsets octets offset e)
    (option_map (λ (r : NextRecord). r.offset) b)) same y.first)) x.parses y.parses

pub next-one : (reads : ℕ) (padding : Bool) (octets : List ℕ) (fault top : ℕ) (wrong : Option WrongLength)
    (start : Option ℕ) (a b : Option NextRecord) → IsNextRecord reads padding octets fault top wrong start a
    → IsNextRecord reads padding octets fault top wrong start b → a ≡ b
next-one reads padding octets fault top wrong start a b (another_start n) (another_start m) = refl
next-one reads padding octets fault top wrong start a b (none_in_front z) (none_in_front y) = refl
next-one reads padding octets fault top wrong start a b (none_in_front z) (another_length w) = refl
next-one reads padding octets fault top wrong start a b (none_in_front z) (searched some u r) =
    absurd (omega (arith, z, some))
next-one reads padding octets fault top wrong start a b (another_length w) (none_in_front z) = refl
next-one reads padding octets fault top wrong start a b (another_length w) (another_length v) = refl
next-one reads padding octets fault top wrong start a b (another_length w) (searched some u r) = absurd (cc)
next-one reads padding octets fault top wrong start a b (searched some u r) (none_in_front z) =
    absurd (omega (arith, z, some))
next-one reads padding octets fault top wrong start a b (searched some u r) (another_length w) = absurd (cc)
next-one reads padding octets fault top wrong start a b (searched some u r) (searched other v s) =
    record-one reads padding octets fault top a b r s
