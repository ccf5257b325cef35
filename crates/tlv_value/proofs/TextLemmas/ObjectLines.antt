-- The lines of an object identifier of at most 64 octets, as they are put.
use Rattle.std.proofs.Common.{◌≡◌, ◌≤◌, ℕ, ◌+◌, ◌-◌, Bool, true, false, List, [], ◌∷◌, ◌++◌, length, take, drop, refl}
use Rattle.std.proofs.Common.{sym, ap, ◌∙◌, arith, append_assoc, append-nil}
use Rattle.std.specs.Prelude.{Option, Some, None, is_some, unwrap_or, nat_le}
use Rattle.std.proofs.Math.ListN.{length-drop}
use Rattle.std.proofs.Math.Seq.{drop-append-add}
use Rattle.std.proofs.lemmas.Bool.Decides.{nat_tests}
use Rattle.std.proofs.lemmas.List.{take_all}
use Rattle.tlv_head.specs.declared.kind.Kind.TheVariants.{Octets}
use Rattle.tlv_value.specs.declared.layout.Layout.{Layout}
use Rattle.tlv_value.specs.Arcs.{dotted_of}
use Rattle.tlv_value.specs.Private.ObjectLines.{object_lines, octets_lines}
use Rattle.tlv_value.specs.Rows.{rows_of}
use Rattle.tlv_value.specs.TextBeside.{shown_row_lines_with}
use Rattle.tlv_value.specs.Private.UndottedText.{line_pairs}
use Rattle.tlv_value.specs.Value.{NameOf}
use Rattle.tlv_value.proofs.TextLemmas.RowLines.{no-row_lines}

-- a text, if there is one
pub some_text : (d : Option (List ℕ)) → is_some d ≡ true → d ≡ Some (unwrap_or d [])
some_text None e = cc (e)
some_text (Some text) e = refl

pub no_text : (d : Option (List ℕ)) → is_some d ≡ false → d ≡ None
no_text None e = refl
no_text (Some text) e = cc (e)

-- what was added after a space
pub after_space : (old new text : List ℕ) (n : ℕ) → new ≡ old ++ 32 ∷ text → n ≡ length old + 1
    → take (length new - n) (drop n new) ≡ text
after_space old new text n e at =
    take_all (length new - n) (drop n new) (omega (arith, length-drop n new)) ∙ ap (λ (l : List ℕ). drop n l) e
    ∙ ap (λ (k : ℕ). drop k (old ++ 32 ∷ text)) at ∙ drop-append-add old (32 ∷ text) 1

-- a text with no rows below it
no_rows_below : (with_text : Bool) (layout : Layout) (text : List ℕ)
    → text ++ shown_row_lines_with with_text Octets layout [] ≡ text
no_rows_below with_text layout text =
    ap (λ (l : List ℕ). text ++ l) (no-row_lines with_text Octets layout) ∙ append-nil text

module _ (with_text : Bool) (name_of : NameOf) (layout : Layout) (relative : Bool) (contents : List ℕ) where
  -- a dotted text with a name
  pub object_named : (text name : List ℕ) → dotted_of relative contents ≡ Some text → name_of text ≡ Some name
      → (32 ∷ text) ++ (32 ∷ 40 ∷ (name ++ 41 ∷ 10 ∷ [])) ≡ object_lines with_text name_of layout relative contents
  object_named text name d n =
      rw (d, n) (sym
      (no_rows_below with_text layout ((32 ∷ (text ++ (32 ∷ 40 ∷ (name ++ 41 ∷ [])))) ++ 10 ∷ [])
      ∙ append_assoc (32 ∷ text) (32 ∷ 40 ∷ (name ++ 41 ∷ [])) (10 ∷ [])
      ∙ ap (λ (l : List ℕ). (32 ∷ text) ++ (32 ∷ 40 ∷ l)) (append_assoc name (41 ∷ []) (10 ∷ []))))

  -- without a name
  pub object_unnamed : (text : List ℕ) → dotted_of relative contents ≡ Some text → name_of text ≡ None
      → (32 ∷ text) ++ 10 ∷ [] ≡ object_lines with_text name_of layout relative contents
  object_unnamed text d n =
      rw (d, n)
      (sym
      (no_rows_below with_text layout ((32 ∷ (text ++ [])) ++ 10 ∷ [])
      ∙ ap (λ (l : List ℕ). (32 ∷ l) ++ 10 ∷ []) (append-nil text)))

  -- no dotted text
  pub object_octets : dotted_of relative contents ≡ None
      → octets_lines with_text layout contents ≡ object_lines with_text name_of layout relative contents
  object_octets d = rw d refl

-- octets on the line
pub octets_short : (with_text : Bool) (layout : Layout) (contents : List ℕ) → length contents ≤ 16
    → line_pairs with_text contents ++ 10 ∷ [] ≡ octets_lines with_text layout contents
octets_short with_text layout contents few =
    let b : nat_le (length contents) 16 ≡ true =
    grind (arith, nat_tests) in rw b (sym (no_rows_below with_text layout (line_pairs with_text contents ++ 10 ∷ [])))

-- and in rows
pub octets_long : (with_text : Bool) (layout : Layout) (contents : List ℕ) → 17 ≤ length contents
    → (10 ∷ []) ++ shown_row_lines_with with_text Octets layout (rows_of Octets contents)
    ≡ octets_lines with_text layout contents
octets_long with_text layout contents many = let b : nat_le (length contents) 16 ≡ false = grind (arith, nat_tests) in rw b refl
