-- What is found on contents in pieces.
use Rattle.std.proofs.Common.{◌≡◌, ℕ, zero, suc, ◌-◌, Bool, true, false, List, [], ◌∷◌, ◌++◌, length, take, refl, sym}
use Rattle.std.proofs.Common.{ap, ◌∙◌, arith, append_assoc, length-append}
use Rattle.std.proofs.lemmas.List.Folds.{list_all-append}
use Rattle.std.specs.List.{list_all}
use Rattle.std.specs.Prelude.{◌&&◌, ◌||◌, eqb, nat_lt, if◌then◌else◌}
use Rattle.std.specs.Str.{is_utf8}
use Rattle.tlv_head.specs.Header.{HeaderValue, announced_length}
use Rattle.tlv_head.specs.declared.kind.Kind.TheVariants.{Utf8}
use Rattle.tlv_value.specs.CheckLaws.{ChecksJoin, FindingsEnd}
use Rattle.tlv_value.specs.ValueCheckState.{has_empty_label_after, is_padded_after}
use Rattle.tlv_value.specs.ValueCheckState.{last_octet_after, new_value_check, ValueCheckState}
use Rattle.tlv_value.specs.ValueCheckState.{kept_conditions, new_value_check_of, notes_each, notes_first, notes_iri}
use Rattle.tlv_value.specs.ValueCheckState.{notes_real, notes_time, notes_units, type_number, value_check_for}
use Rattle.tlv_value.specs.ValueCheckState.{with_each_noted, with_first_noted, with_iri_noted, with_octets_noted}
use Rattle.tlv_value.specs.ValueCheckState.{with_real_noted, with_time_noted, with_units_noted}
use Rattle.tlv_value.specs.UnitsSoFar.{are_characters_after, character_size, open_unit}
use Rattle.tlv_value.specs.Checks.{findings_by}
use Rattle.tlv_head.specs.declared.type_table.Rule.TheVariants as rules
use Rattle.tlv_value.specs.Types.{has_rule}
use Rattle.tlv_value.specs.RowsSoFar.{full_rows, open_row}
use Rattle.tlv_value.proofs.CheckLemmas.NotedContents.{class-same, noted-same}
use Rattle.tlv_value.proofs.CheckLemmas.UnitsNoted.{characters-join, open_unit-join}
use Rattle.tlv_value.proofs.RealLemmas.RealPieces.{real-join}
use Rattle.tlv_value.specs.RealState.{real_check_after}
use Rattle.tlv_value.specs.declared.real.RealCheck.{RealCheck}
use Rattle.tlv_value.proofs.RowLemmas.OneCut.{rows-join}
use Rattle.tlv_value.specs.Characters.{allows_octet}

last-join : (previous : ℕ) (x y : List ℕ)
    → last_octet_after (last_octet_after previous x) y ≡ last_octet_after previous (x ++ y)
last-join previous [] y = refl
last-join previous (z ∷ x) y = last-join z x y

and-assoc : (a b c : Bool) → ((a && b) && c) ≡ (a && (b && c))
and-assoc true b c = refl
and-assoc false b c = refl

or-assoc : (a b c : Bool) → ((a || b) || c) ≡ (a || (b || c))
or-assoc true b c = refl
or-assoc false b c = refl

padded-join : (previous : ℕ) (x y : List ℕ)
    → (is_padded_after previous x || is_padded_after (last_octet_after previous x) y)
    ≡ is_padded_after previous (x ++ y)
padded-join previous [] y = refl
padded-join previous (z ∷ x) y =
    or-assoc (nat_lt previous 128 && eqb z 128) (is_padded_after z x) (is_padded_after (last_octet_after z x) y)
    ∙ ap (λ (b : Bool). (nat_lt previous 128 && eqb z 128) || b) (padded-join z x y)

utf8-join : (rows more : List (List ℕ))
    → (list_all is_utf8 rows && list_all is_utf8 more) ≡ list_all is_utf8 (rows ++ more)
utf8-join [] more = refl
utf8-join (row ∷ rows) more =
    and-assoc (is_utf8 row) (list_all is_utf8 rows) (list_all is_utf8 more)
    ∙ ap (λ (b : Bool). is_utf8 row && b) (utf8-join rows more)

take-twice : (n : ℕ) (xs ys : List ℕ) → take n (take n xs ++ ys) ≡ take n (xs ++ ys)
take-twice zero xs ys = refl
take-twice (suc n) [] ys = refl
take-twice (suc n) (x ∷ xs) ys = ap (λ (t : List ℕ). x ∷ t) (take-twice n xs ys)

take-join : (n : ℕ) (prefix x y : List ℕ) → take n (take n (prefix ++ x) ++ y) ≡ take n (prefix ++ (x ++ y))
take-join n prefix x y = take-twice n (prefix ++ x) y ∙ ap (take n) (append_assoc prefix x y)

padded-at : (b is_padded : Bool) (previous : ℕ) (x y : List ℕ)
    → (if b
    then (if b then is_padded || is_padded_after previous x else is_padded)
    || is_padded_after (last_octet_after previous x) y
    else (if b then is_padded || is_padded_after previous x else is_padded))
    ≡ (if b then is_padded || is_padded_after previous (x ++ y) else is_padded)
padded-at true is_padded previous x y =
    or-assoc is_padded (is_padded_after previous x) (is_padded_after (last_octet_after previous x) y)
    ∙ ap (λ (b : Bool). is_padded || b) (padded-join previous x y)
padded-at false is_padded previous x y = refl

formed-at : (b are_full_rows_utf8 : Bool) (row x y : List ℕ)
    → (if b
    then (if b then are_full_rows_utf8 && list_all is_utf8 (full_rows Utf8 row x) else are_full_rows_utf8)
    && list_all is_utf8 (full_rows Utf8 (if b then open_row Utf8 row x else row) y)
    else (if b then are_full_rows_utf8 && list_all is_utf8 (full_rows Utf8 row x) else are_full_rows_utf8))
    ≡ (if b then are_full_rows_utf8 && list_all is_utf8 (full_rows Utf8 row (x ++ y)) else are_full_rows_utf8)
formed-at true are_full_rows_utf8 row x y =
    and-assoc are_full_rows_utf8 (list_all is_utf8 (full_rows Utf8 row x))
    (list_all is_utf8 (full_rows Utf8 (open_row Utf8 row x) y))
    ∙ ap (λ (b : Bool). are_full_rows_utf8 && b)
    (utf8-join (full_rows Utf8 row x) (full_rows Utf8 (open_row Utf8 row x) y)
    ∙ ap (list_all is_utf8) (sym (rows-join Utf8 row x y).0))
formed-at false are_full_rows_utf8 row x y = refl

row-at : (b : Bool) (row x y : List ℕ)
    → (if b then open_row Utf8 (if b then open_row Utf8 row x else row) y else (if b then open_row Utf8 row x else row))
    ≡ (if b then open_row Utf8 row (x ++ y) else row)
row-at true row x y = sym (rows-join Utf8 row x y).1
row-at false row x y = refl

abbrev state_with : ValueCheckState → ℕ → List ℕ → ℕ → Bool → Bool → Bool → List ℕ → List ℕ → ValueCheckState
state_with s left first_octets last are_octets_allowed is_padded are_full_rows_utf8 row time = record {
  number = s.number;
  size = s.size;
  left = left;
  first_octets = first_octets;
  last = last;
  are_octets_allowed = are_octets_allowed;
  is_padded = is_padded;
  are_full_rows_utf8 = are_full_rows_utf8;
  row = row;
  has_empty_label = s.has_empty_label;
  time = time;
  are_characters = s.are_characters;
  unit = s.unit;
  real = s.real;
}

state_with-eq : (s : ValueCheckState) (l l' : ℕ) (f f' : List ℕ) (t t' : ℕ) (a a' p p' m m' : Bool) (r r' i i' : List ℕ)
    → l ≡ l' → f ≡ f' → t ≡ t' → a ≡ a' → p ≡ p' → m ≡ m' → r ≡ r' → i ≡ i'
    → state_with s l f t a p m r i ≡ state_with s l' f' t' a' p' m' r' i'
state_with-eq s l l' f f' t t' a a' p p' m m' r r' i i' e1 e2 e3 e4 e5 e6 e7 e8 =
    rw (e1, e2, e3, e4, e5, e6, e7, e8) refl

-- an OID-IRI or RELATIVE-OID-IRI
abbrev iri_with : ValueCheckState → ℕ → List ℕ → ℕ → Bool → List ℕ → Bool → ValueCheckState
iri_with s left first_octets last are_full_rows_utf8 row has_empty_label = record s {
  left = left;
  first_octets = first_octets;
  last = last;
  are_full_rows_utf8 = are_full_rows_utf8;
  row = row;
  has_empty_label = has_empty_label;
}

iri-eq : (s : ValueCheckState) (l l' : ℕ) (f f' : List ℕ) (t t' : ℕ) (m m' : Bool) (r r' : List ℕ) (e e' : Bool)
    → l ≡ l' → f ≡ f' → t ≡ t' → m ≡ m' → r ≡ r' → e ≡ e' → iri_with s l f t m r e ≡ iri_with s l' f' t' m' r' e'
iri-eq s l l' f f' t t' m m' r r' e e' e1 e2 e3 e4 e5 e6 = rw (e1, e2, e3, e4, e5, e6) refl

labels-join : (previous : ℕ) (x y : List ℕ)
    → (has_empty_label_after previous x || has_empty_label_after (last_octet_after previous x) y)
    ≡ has_empty_label_after previous (x ++ y)
labels-join previous [] y = refl
labels-join previous (z ∷ x) y =
    or-assoc (eqb previous 0x2f && eqb z 0x2f) (has_empty_label_after z x)
    (has_empty_label_after (last_octet_after z x) y)
    ∙ ap (λ (b : Bool). (eqb previous 0x2f && eqb z 0x2f) || b) (labels-join z x y)

units-eq : (s : ValueCheckState) (l l' : ℕ) (a a' : Bool) (u u' : List ℕ) → l ≡ l' → a ≡ a' → u ≡ u'
    → record s { left = l; are_characters = a; unit = u } ≡ record s { left = l'; are_characters = a'; unit = u' }
units-eq s l l' a a' u u' e1 e2 e3 = rw (e1, e2, e3) refl

real-eq : (s : ValueCheckState) (l l' : ℕ) (r r' : RealCheck) → l ≡ l' → r ≡ r'
    → record s { left = l; real = r } ≡ record s { left = l'; real = r' }
real-eq s l l' r r' e1 e2 = rw (e1, e2) refl

-- what is noted, by what the type asks for
abbrev noted_state : Bool → Bool → Bool → Bool → Bool → Bool → ValueCheckState → List ℕ → ValueCheckState
noted_state first each time units iri real s octets =
    if first then with_first_noted s octets
    else if each then with_each_noted s octets
    else if time then with_time_noted s octets
    else if units then with_units_noted s octets
    else if iri then with_iri_noted s octets
    else if real then with_real_noted s octets
    else s

abbrev by_kind : Bool → Bool → Bool → Bool → Bool → Bool → ValueCheckState → List ℕ → ValueCheckState
by_kind f e t u i r s octets =
    record (noted_state f e t u i r s octets) { number = s.number; size = s.size; left = s.left - length octets }

join-by : (f e t u i r : Bool) (s : ValueCheckState) (x y : List ℕ)
    → by_kind f e t u i r (by_kind f e t u i r s x) y ≡ by_kind f e t u i r s (x ++ y)
join-by true e t u i r s x y =
    let l : s.left - length x - length y ≡ s.left - length (x ++ y) = omega (arith, length-append x y) in
    state_with-eq s (s.left - length x - length y) (s.left - length (x ++ y))
    (take 2 (take 2 (s.first_octets ++ x) ++ y))
    (take 2 (s.first_octets ++ (x ++ y)))
    (last_octet_after (last_octet_after s.last x) y) (last_octet_after s.last (x ++ y))
    s.are_octets_allowed s.are_octets_allowed s.is_padded s.is_padded s.are_full_rows_utf8 s.are_full_rows_utf8
    s.row s.row s.time s.time
    l (take-join 2 s.first_octets x y) (last-join s.last x y) refl refl refl refl refl
join-by false true t u i r s x y =
    let l : s.left - length x - length y ≡ s.left - length (x ++ y) = omega (arith, length-append x y) in
    state_with-eq s (s.left - length x - length y) (s.left - length (x ++ y)) s.first_octets s.first_octets
    (last_octet_after (last_octet_after s.last x) y) (last_octet_after s.last (x ++ y))
    (with_each_noted (with_each_noted s x) y).are_octets_allowed (with_each_noted s (x ++ y)).are_octets_allowed
    (with_each_noted (with_each_noted s x) y).is_padded (with_each_noted s (x ++ y)).is_padded
    (with_each_noted (with_each_noted s x) y).are_full_rows_utf8 (with_each_noted s (x ++ y)).are_full_rows_utf8
    (with_each_noted (with_each_noted s x) y).row (with_each_noted s (x ++ y)).row s.time s.time
    l refl (last-join s.last x y)
    (and-assoc s.are_octets_allowed (list_all (allows_octet s.number) x) (list_all (allows_octet s.number) y)
    ∙ ap (λ (b : Bool). s.are_octets_allowed && b) (sym (list_all-append (allows_octet s.number) x y)))
    (padded-at (has_rule rules.Subidentifiers s.number) s.is_padded s.last x y)
    (formed-at (eqb s.number 12) s.are_full_rows_utf8 s.row x y) (row-at (eqb s.number 12) s.row x y) refl
join-by false false true u i r s x y =
    let l : s.left - length x - length y ≡ s.left - length (x ++ y) = omega (arith, length-append x y) in
    state_with-eq s (s.left - length x - length y) (s.left - length (x ++ y)) s.first_octets s.first_octets s.last
    s.last
    s.are_octets_allowed s.are_octets_allowed s.is_padded s.is_padded s.are_full_rows_utf8 s.are_full_rows_utf8
    s.row s.row
    (take 64 (take 64 (s.time ++ x) ++ y))
    (take 64 (s.time ++ (x ++ y)))
    l refl refl refl refl refl refl (take-join 64 s.time x y)
join-by false false false true i r s x y =
    let size : ℕ = character_size s.number in
    let l : s.left - length x - length y ≡ s.left - length (x ++ y) = omega (arith, length-append x y) in
    units-eq s (s.left - length x - length y) (s.left - length (x ++ y))
    ((s.are_characters && are_characters_after size s.unit x) && are_characters_after size (open_unit size s.unit x) y)
    (s.are_characters && are_characters_after size s.unit (x ++ y))
    (open_unit size (open_unit size s.unit x) y)
    (open_unit size s.unit (x ++ y))
    l
    (and-assoc s.are_characters (are_characters_after size s.unit x)
    (are_characters_after size (open_unit size s.unit x) y)
    ∙ ap (λ (b : Bool). s.are_characters && b) (characters-join size s.unit x y))
    (open_unit-join size s.unit x y)
join-by false false false false true r s x y =
    let l : s.left - length x - length y ≡ s.left - length (x ++ y) = omega (arith, length-append x y) in
    iri-eq s (s.left - length x - length y) (s.left - length (x ++ y))
    (take 2 (take 2 (s.first_octets ++ x) ++ y))
    (take 2 (s.first_octets ++ (x ++ y)))
    (last_octet_after (last_octet_after s.last x) y) (last_octet_after s.last (x ++ y))
    (with_iri_noted (with_iri_noted s x) y).are_full_rows_utf8 (with_iri_noted s (x ++ y)).are_full_rows_utf8
    (with_iri_noted (with_iri_noted s x) y).row (with_iri_noted s (x ++ y)).row
    ((s.has_empty_label || has_empty_label_after s.last x) || has_empty_label_after (last_octet_after s.last x) y)
    (s.has_empty_label || has_empty_label_after s.last (x ++ y))
    l (take-join 2 s.first_octets x y) (last-join s.last x y)
    (formed-at true s.are_full_rows_utf8 s.row x y) (row-at true s.row x y)
    (or-assoc s.has_empty_label (has_empty_label_after s.last x) (has_empty_label_after (last_octet_after s.last x) y)
    ∙ ap (λ (b : Bool). s.has_empty_label || b) (labels-join s.last x y))
join-by false false false false false true s x y =
    let l : s.left - length x - length y ≡ s.left - length (x ++ y) = omega (arith, length-append x y) in
    real-eq s (s.left - length x - length y) (s.left - length (x ++ y))
    (real_check_after (real_check_after s.real x) y) (real_check_after s.real (x ++ y))
    l (real-join s.real x y)
join-by false false false false false false s x y =
    let l : s.left - length x - length y ≡ s.left - length (x ++ y) = omega (arith, length-append x y) in
    ap (λ (n : ℕ). record s { left = n }) l

pub checks-join : ChecksJoin
checks-join s x y =
    join-by (notes_first s.number) (notes_each s.number) (notes_time s.number) (notes_units s.number)
    (notes_iri s.number) (notes_real s.number) s x y

-- what is noted at the end

noted-left : (n : ℕ) (f e t u i r : Bool) (s : ValueCheckState) (c : List ℕ)
    → findings_by (kept_conditions n (by_kind f e t u i r s c))
    ≡ findings_by (kept_conditions n (noted_state f e t u i r s c))
noted-left n true e t u i r s c = refl
noted-left n false true t u i r s c = refl
noted-left n false false true u i r s c = refl
noted-left n false false false true i r s c = refl
noted-left n false false false false true r s c = refl
noted-left n false false false false false true s c = refl
noted-left n false false false false false false s c = refl

pub findings-end : FindingsEnd
findings-end h octets e =
    let n = type_number h in
    noted-left n (notes_first n) (notes_each n) (notes_time n) (notes_units n) (notes_iri n) (notes_real n)
    (new_value_check h) octets
    ∙ ap (λ (z : ℕ). findings_by (kept_conditions n (with_octets_noted (new_value_check_of n z) octets))) e
    ∙ sym (noted-same n octets) ∙ sym (class-same h octets)

-- no octets
same-in-both : {A : Type 0} (b : Bool) (x : A) → (if b then x else x) ≡ x
same-in-both true x = refl
same-in-both false x = refl

none-by : (f e t u i r : Bool) (n size : ℕ)
    → by_kind f e t u i r (new_value_check_of n size) [] ≡ new_value_check_of n size
none-by true e t u i r n size = ap (λ (l : ℕ). record (new_value_check_of n size) { left = l }) (omega arith)
none-by false true t u i r n size =
    state_with-eq (new_value_check_of n size) (size - 0) size [] [] 0 0 true true
    (if has_rule rules.Subidentifiers n then false else false) false (if eqb n 12 then true else true) true
    (if eqb n 12 then [] else []) [] [] []
    (omega arith) refl refl refl (same-in-both (has_rule rules.Subidentifiers n) false) (same-in-both (eqb n 12) true)
    (same-in-both (eqb n 12) []) refl
none-by false false true u i r n size = ap (λ (l : ℕ). record (new_value_check_of n size) { left = l }) (omega arith)
none-by false false false true i r n size = ap (λ (l : ℕ). record (new_value_check_of n size) { left = l }) (omega arith)
none-by false false false false true r n size =
    ap (λ (l : ℕ). record (new_value_check_of n size) { left = l }) (omega arith)
none-by false false false false false true n size =
    ap (λ (l : ℕ). record (new_value_check_of n size) { left = l }) (omega arith)
none-by false false false false false false n size =
    ap (λ (l : ℕ). record (new_value_check_of n size) { left = l }) (omega arith)

pub checked-none : (h : HeaderValue) → value_check_for h [] ≡ new_value_check h
checked-none h =
    let n = type_number h in
    none-by (notes_first n) (notes_each n) (notes_time n) (notes_units n) (notes_iri n) (notes_real n) n
    (announced_length h.size)
