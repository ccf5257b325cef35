-- The labels of an OID-IRI or RELATIVE-OID-IRI, by what is kept of its octets.
use Rattle.std.proofs.Common.{◌≡◌, ℕ, Bool, true, false, ◌&&◌, not, ◌==◌, eqb, List, [], ◌∷◌, length, take, drop}
use Rattle.std.proofs.Common.{refl, sym, ap, ap₂, ◌∙◌, arith}
use Rattle.std.proofs.lemmas.Bool.{eqb-true}
use Rattle.std.proofs.lemmas.Bool.Decides.{nat_tests}
use Rattle.std.specs.List.{list_all, onto_first, slice_split}
use Rattle.tlv_value.specs.AllChecks.{are_labels}
use Rattle.tlv_value.specs.Checks.{begins_with}
use Rattle.tlv_value.specs.TextForms.{no_octets}
use Rattle.tlv_value.specs.ValueCheckState.{has_empty_label_after, last_octet_after}

abbrev parts : List ℕ → List (List ℕ)
parts text = slice_split (λ x. x == 0x2f) text

-- no part is empty
abbrev are_full : List (List ℕ) → Bool
are_full labels = list_all (λ label. not (no_octets label)) labels

-- no part but the first is empty
abbrev are_others_full : List (List ℕ) → Bool
are_others_full labels = are_full (drop 1 labels)

more-full : (x : ℕ) (labels : List (List ℕ)) → are_full (onto_first x labels) ≡ are_others_full labels
more-full x [] = refl
more-full x (label ∷ labels) = refl

more-others : (x : ℕ) (labels : List (List ℕ)) → are_others_full (onto_first x labels) ≡ are_others_full labels
more-others x [] = refl
more-others x (label ∷ labels) = refl

-- what is kept of the octets after `previous`: no label is empty, and the last octet is not /
abbrev pub ends_labels : ℕ → List ℕ → Bool
ends_labels previous octets =
    not (has_empty_label_after previous octets) && not (last_octet_after previous octets == 0x2f)

-- of octets after another octet, which is not /, and after /
record Ends (octets : List ℕ) : Type 0 where
  inside : (previous : ℕ) → eqb previous 0x2f ≡ false
      → are_others_full (parts octets) ≡ ends_labels previous octets
  begun : are_full (parts octets) ≡ ends_labels 0x2f octets

ends-more : (x : ℕ) (xs : List ℕ) (test : Bool) → eqb x 0x2f ≡ test → Ends xs → Ends (x ∷ xs)
ends-more x xs true e h = record {
  inside = λ previous p.
      rw (e, p) (h.begun ∙ ap (λ (y : ℕ). ends_labels y xs) (sym (eqb-true x 0x2f e)));
  begun = rw e refl;
}
ends-more x xs false e h = record {
  inside = λ previous p. rw (e, p) (more-others x (parts xs) ∙ h.inside x e);
  begun = rw e (more-full x (parts xs) ∙ h.inside x e);
}

ends : (xs : List ℕ) → Ends xs
ends [] = record { inside = λ previous p. rw p refl; begun = refl }
ends (x ∷ xs) = ends-more x xs (eqb x 0x2f) refl (ends xs)

-- labels, as if a / were before them
pub labels-end : (text : List ℕ) → are_labels text ≡ ends_labels 0x2f text
labels-end text = (ends text).begun

-- a RELATIVE-OID-IRI
relative-by : (x : ℕ) (xs : List ℕ) (test : Bool) → eqb x 0x2f ≡ test
    → are_labels (x ∷ xs) ≡ (not (begins_with 0x2f (x ∷ xs)) && ends_labels 0 (x ∷ xs))
relative-by x xs true e = rw e refl
relative-by x xs false e = rw e (more-full x (parts xs) ∙ (ends xs).inside x e)

pub relative-kept : (c : List ℕ)
    → are_labels c
    ≡ ((not (length c == 0) && not (begins_with 0x2f (take 2 c))) && ends_labels 0 c)
relative-kept [] = refl
relative-kept (x ∷ xs) =
    let some : eqb (length (x ∷ xs)) 0 ≡ false = grind (arith, nat_tests) in
    rw some (relative-by x xs (eqb x 0x2f) refl)

-- an OID-IRI
absolute-by : (x : ℕ) (xs : List ℕ) (test : Bool) → eqb x 0x2f ≡ test
    → (begins_with 0x2f (x ∷ xs) && are_labels xs) ≡ (begins_with 0x2f (x ∷ xs) && ends_labels 0 (x ∷ xs))
absolute-by x xs true e =
    rw e ((ends xs).begun ∙ ap (λ (y : ℕ). ends_labels y xs) (sym (eqb-true x 0x2f e)))
absolute-by x xs false e = rw e refl

pub absolute-kept : (c : List ℕ)
    → (begins_with 0x2f c && are_labels (drop 1 c)) ≡ (begins_with 0x2f (take 2 c) && ends_labels 0 c)
absolute-kept [] = refl
absolute-kept (x ∷ xs) = absolute-by x xs (eqb x 0x2f) refl

-- the same of what is found of the text
pub labels-found : (text : List ℕ) (empty : Bool) (last : ℕ) → empty ≡ has_empty_label_after 0x2f text
    → last ≡ last_octet_after 0x2f text → (not empty && not (last == 0x2f)) ≡ are_labels text
labels-found text empty last e f = ap₂ (λ (b : Bool) (n : ℕ). not b && not (n == 0x2f)) e f ∙ sym (labels-end text)
