-- The table of a names file, as the map that it stands for.
use Rattle.std.proofs.Common.{◌≡◌, ℕ, ◌+◌, Bool, true, false, ◌||◌, cond, List, [], ◌∷◌, ◌++◌, length, map, refl}
use Rattle.std.proofs.Common.{sym, ap, subst, ◌∙◌, arith}
use Rattle.std.specs.Prelude.{Option, Some, None, IsUtf8, String, is_some, string_bytes, Vec, if◌then◌else◌}
use Rattle.std.specs.Option.{option_map}
use Rattle.std.specs.Ordering.{nat_cmp, eq_by_cmp}
use Rattle.std.specs.Cmp.Lexicographic.{slice_cmp, nat_list_cmp_total}
use Rattle.std.specs.Str.{bytes_eq}
use Rattle.std.specs.Map.{KeepsOthers, lookup}
use Rattle.std.specs.HashMap.{HashMap, Updates, get_by, hash_map_len}
use Rattle.std.specs.FinMap as finite
use Rattle.std.proofs.lemmas.Bool.{false_from_ne_true}
use Rattle.std.proofs.lemmas.Cmp.{nat_list_eq_equiv}
use Rattle.std.proofs.lemmas.List.{length-map}
use Rattle.std.proofs.lemmas.Map.Text.{is_eq-slice_cmp}
use Rattle.std.proofs.lemmas.Slice.Eq.{bytes_eq-Decides}
use Rattle.std.proofs.lemmas.Str.{IsUtf8-string_bytes}
use Rattle.tlv_value.specs.Names.{Entry, NamesValue, has_entry}
use Rattle.tlv_value.specs.NamesFields.{names_in, table_in, table_with, texts_in}

-- two keys are equal
abbrev same_key : {Z : Type 0} → String Z → String Z → Bool
same_key x y = bytes_eq (string_bytes x) (string_bytes y)

abbrev texts : {Z : Type 0} → String Z × Vec ℕ Z → Entry
texts e = (string_bytes e.0, e.1.items)

abbrev find : List ℕ → List Entry → Option (List ℕ)
find = finite.find (slice_cmp nat_cmp)

same-table : (m n : NamesValue) → ((q : List ℕ) → finite.get m q ≡ finite.get n q) → m ≡ n
same-table = finite.same_map nat_list_cmp_total (finite.slice_cmp-IsAntisymmetric finite.nat_cmp-IsAntisymmetric)

find-table : (q : List ℕ) (es : List Entry) → finite.get (table_with es) q ≡ find q es
find-table q es = finite.get-from_entries nat_list_cmp_total es q

among-at : (q : List ℕ) (e : Entry) (found : Option (List ℕ)) (b : Bool) → b ≡ is_some found
    → (bytes_eq q e.0 || b) ≡ is_some (cond (eq_by_cmp (slice_cmp nat_cmp) q e.0) (Some e.1) found)
among-at q e found b h =
    rw (is_eq-slice_cmp q e.0, h)
    (elim (bytes_eq q e.0) as (λ t. (t || is_some found) ≡ is_some (cond t (Some e.1) found))
    [ true ↦ refl | false ↦ refl ])

among-find : (q : List ℕ) (es : List Entry) → has_entry q es ≡ is_some (find q es)
among-find q [] = refl
among-find q (e ∷ es) = among-at q e (find q es) (has_entry q es) (among-find q es)

-- an entry has the dotted text exactly if the table has a name for it
pub among-table : (q : List ℕ) (es : List Entry) → has_entry q es ≡ is_some (finite.get (table_with es) q)
among-table q es = among-find q es ∙ ap is_some (sym (find-table q es))

none-from : {A : Type 0} (o : Option A) → is_some o ≡ false → o ≡ None
none-from None h = refl
none-from (Some x) h = absurd (cc)

-- an entry whose dotted text is new is put into the table
pub table-push : (es : List Entry) (dotted name : List ℕ) → has_entry dotted es ≡ false
    → table_with (es ++ (dotted, name) ∷ []) ≡ finite.insert (table_with es) dotted name
table-push es dotted name h =
    finite.from_entries_push nat_list_cmp_total (finite.slice_cmp-IsAntisymmetric finite.nat_cmp-IsAntisymmetric) es
    dotted name (none-from (find dotted es) (sym (among-find dotted es) ∙ h))

lookup-texts : {Z : Type 0} (q : List ℕ) (es : List (String Z × Vec ℕ Z))
    → option_map (λ name. name.items) (lookup (λ k. bytes_eq q (string_bytes k)) es) ≡ find q (map texts es)
lookup-texts q [] = refl
lookup-texts {Z} q (e ∷ es) =
    rw (is_eq-slice_cmp q (string_bytes e.0))
    (elim (bytes_eq q (string_bytes e.0)) as (λ b. option_map (λ (name : Vec ℕ Z). name.items)
    (cond b (Some e.1) (lookup (λ k. bytes_eq q (string_bytes k)) es))
    ≡ cond b (Some e.1.items) (find q (map texts es))) [
      | true ↦ refl
      | false ↦ lookup-texts q es
    ])

-- what a look-up of another text than the changed key's finds
found-other : {Z : Type 0} (q : List ℕ) (k : String Z) (old new : List (String Z × Vec ℕ Z))
    → KeepsOthers same_key (same_key k) old new → bytes_eq q (string_bytes k) ≡ false
    → lookup (λ y. bytes_eq q (string_bytes y)) new ≡ lookup (λ y. bytes_eq q (string_bytes y)) old
unfolding KeepsOthers
found-other q k old new keeps other =
    keeps (λ y. bytes_eq q (string_bytes y)) (λ x y. nat_list_eq_equiv.congr q (string_bytes x) (string_bytes y))
    (λ y same. ap (bytes_eq q) (sym ((bytes_eq-Decides (string_bytes k) (string_bytes y)).0 same)) ∙ other)

-- what a look-up finds after a value is put at a key
found-after : {Z : Type 0} (q : List ℕ) (k : String Z) (v : Vec ℕ Z) (old new : List (String Z × Vec ℕ Z))
    → lookup (same_key k) new ≡ Some v → KeepsOthers same_key (same_key k) old new
    → (b : Bool) → bytes_eq q (string_bytes k) ≡ b
    → lookup (λ y. bytes_eq q (string_bytes y)) new ≡ cond b (Some v) (lookup (λ y. bytes_eq q (string_bytes y)) old)
found-after q k v old new put keeps true same =
    subst (λ t. lookup (λ y. bytes_eq t (string_bytes y)) new ≡ Some v)
    (sym ((bytes_eq-Decides q (string_bytes k)).0 same)) put
found-after q k v old new put keeps false other = found-other q k old new keeps other

option_map-cond : {A B : Type 0} (f : A → B) (b : Bool) (x : A) (o : Option A)
    → option_map f (cond b (Some x) o) ≡ cond b (Some (f x)) (option_map f o)
option_map-cond f true x o = refl
option_map-cond f false x o = refl

find-after : {Z : Type 0} (q : List ℕ) (k : String Z) (v : Vec ℕ Z) (old new : List (String Z × Vec ℕ Z))
    → lookup (same_key k) new ≡ Some v → KeepsOthers same_key (same_key k) old new
    → find q (map texts new)
    ≡ cond (eq_by_cmp (slice_cmp nat_cmp) q (string_bytes k)) (Some v.items) (find q (map texts old))
find-after {Z} q k v old new put keeps =
    sym (lookup-texts q new)
    ∙ ap (option_map (λ (name : Vec ℕ Z). name.items))
    (found-after q k v old new put keeps (bytes_eq q (string_bytes k)) refl)
    ∙ option_map-cond (λ (name : Vec ℕ Z). name.items) (bytes_eq q (string_bytes k)) v
    (lookup (λ y. bytes_eq q (string_bytes y)) old)
    ∙ ap (cond (bytes_eq q (string_bytes k)) (Some v.items)) (lookup-texts q old)
    ∙ ap (λ b. cond b (Some v.items) (find q (map texts old))) (sym (is_eq-slice_cmp q (string_bytes k)))

is_some-map : {A B : Type 0} (f : A → B) (o : Option A) → is_some (option_map f o) ≡ is_some o
is_some-map f None = refl
is_some-map f (Some x) = refl

-- the map has a key exactly if its texts have it
pub among-texts : {Z S : Type 0} (q : List ℕ) (m : HashMap (String Z) (Vec ℕ Z) S) (b : Bool)
    → b ≡ is_some (get_by (λ k. bytes_eq q (string_bytes k)) m) → has_entry q (texts_in m) ≡ b
among-texts {Z} q m b h =
    among-find q (texts_in m)
    ∙ sym (ap is_some (lookup-texts q m.entries))
    ∙ is_some-map (λ (name : Vec ℕ Z). name.items) (lookup (λ k. bytes_eq q (string_bytes k)) m.entries)
    ∙ sym h

pub length-texts : {Z S : Type 0} (m : HashMap (String Z) (Vec ℕ Z) S) → length (texts_in m) ≡ hash_map_len m
length-texts m = length-map m.entries texts

-- a value put at a key of the map is a name put into its table
pub put-entry : {Z S : Type 0} (k : String Z) (v : Vec ℕ Z) (old new : HashMap (String Z) (Vec ℕ Z) S)
    (dotted name : List ℕ)
    → Updates same_key old new k (Some v)
    → string_bytes k ≡ dotted → v.items ≡ name → table_in new ≡ finite.insert (table_in old) dotted name
put-entry k v old new dotted name updates d n =
    same-table (table_in new) (finite.insert (table_in old) (string_bytes k) v.items)
    (λ q. find-table q (texts_in new) ∙ find-after q k v old.entries new.entries updates.1 updates.3
    ∙ ap (cond (eq_by_cmp (slice_cmp nat_cmp) q (string_bytes k)) (Some v.items)) (sym (find-table q (texts_in old)))
    ∙ sym (finite.get-insert nat_list_cmp_total (table_in old) (string_bytes k) v.items q))
    ∙ ap (λ (t : List ℕ). finite.insert (table_in old) t v.items) d
    ∙ ap (finite.insert (table_in old) dotted) n

-- a new key makes the map longer by one
pub one-longer : {Z S : Type 0} (k : String Z) (old new : HashMap (String Z) (Vec ℕ Z) S) (dotted : List ℕ)
    (had : Option (Vec ℕ Z)) (b : Bool)
    → had ≡ get_by (same_key k) old → hash_map_len new ≡ hash_map_len old + (if is_some had then 0 else 1)
    → string_bytes k ≡ dotted
    → b ≡ is_some (get_by (λ y. bytes_eq dotted (string_bytes y)) old) → b ≡ false
    → length (texts_in new) ≡ length (texts_in old) + 1
one-longer {Z} k old new dotted had b h l d c e =
    let none : is_some had ≡ false =
    ap is_some h ∙ ap (λ (q : List ℕ). is_some (get_by (λ (y : String Z). bytes_eq q (string_bytes y)) old)) d
    ∙ sym c ∙ e in
    let more : hash_map_len new ≡ hash_map_len old + 1 =
    l ∙ ap (λ t. hash_map_len old + (if t then 0 else 1)) none in
    omega (arith, length-texts new, length-texts old)

-- what a look-up returns
get-texts : {Z S : Type 0} (m : HashMap (String Z) (Vec ℕ Z) S) (q : List ℕ)
    → option_map (λ name. name.items) (get_by (λ k. bytes_eq q (string_bytes k)) m) ≡ finite.get (table_in m) q
get-texts m q = lookup-texts q m.entries ∙ sym (find-table q (texts_in m))

pub get-none : {Z S : Type 0} (table : Option (HashMap (String Z) (Vec ℕ Z) S)) (q : List ℕ) → table ≡ None
    → None ≡ finite.get (names_in table) q
get-none table q e = sym (ap (λ t. finite.get (names_in t) q) e ∙ finite.get-empty (slice_cmp nat_cmp) q)

pub get-some : {Z S : Type 0} (table : Option (HashMap (String Z) (Vec ℕ Z) S)) (m : HashMap (String Z) (Vec ℕ Z) S)
    (q : List ℕ) (o : Option (Vec ℕ Z))
    → table ≡ Some m
    → o ≡ get_by (λ k. bytes_eq q (string_bytes k)) m
    → option_map (λ name. name.items) o ≡ finite.get (names_in table) q
get-some {Z} table m q o e h =
    ap (option_map (λ (name : Vec ℕ Z). name.items)) h ∙ get-texts m q ∙ ap (λ t. finite.get (names_in t) q) (sym e)

-- a text that is not UTF-8 is no key
none-found : {Z : Type 0} (q : List ℕ) (es : List (String Z × Vec ℕ Z)) → (IsUtf8 q → ⊥)
    → lookup (λ k. bytes_eq q (string_bytes k)) es ≡ None
none-found q [] apart = refl
none-found q (e ∷ es) apart =
    let other : bytes_eq q (string_bytes e.0) ≡ false =
    false_from_ne_true (bytes_eq q (string_bytes e.0))
    (λ same. apart (subst IsUtf8 (sym ((bytes_eq-Decides q (string_bytes e.0)).0 same)) (IsUtf8-string_bytes e.0))) in
    rw other (none-found q es apart)

pub get-no_text : {Z S : Type 0} (table : Option (HashMap (String Z) (Vec ℕ Z) S)) (m : HashMap (String Z) (Vec ℕ Z) S)
    (q : List ℕ) → table ≡ Some m → (IsUtf8 q → ⊥) → None ≡ finite.get (names_in table) q
get-no_text table m q e apart = get-some table m q None e (sym (none-found q m.entries apart))
