-- S05 among other findings: what is left of them if it is left out.
use Rattle.std.proofs.Common.{◌≡◌, ℕ, ◌&&◌, Bool, true, false, if◌then◌else◌, List, [], ◌∷◌, ◌++◌, refl, ap}
use Rattle.std.specs.List.{filter}
use Rattle.tlv_value.specs.declared.finding.Finding.{Finding}
use Rattle.tlv_value.specs.declared.finding.Finding.TheVariants.{B28, S05}
use Rattle.tlv_show.specs.declared.rules.Rules.{Rules}
use Rattle.tlv_show.specs.Items.{FindingAt, Item, finding_items}
use Rattle.tlv_show.specs.SetOrder.{Element, is_out_of_order_at}
use Rattle.tlv_show.specs.ShownFindings.{comes_after_order, last_findings, listed_by, with_order, with_order_if}
use Rattle.tlv_show.specs.ListedFindings.{rules_have}
use Rattle.tlv_show.specs.ShownFindings.{wants_characters, with_characters_if}
use Rattle.tlv_show.specs.Site.{Site}

module _ (test : Item → Bool) (hidden : (level offset : ℕ) → test (FindingAt level offset S05) ≡ false) where
  without-order : (level offset : ℕ) (gs : List Finding) (ys : List Item)
      → filter test (finding_items level offset (with_order gs) ++ ys)
      ≡ filter test (finding_items level offset gs ++ ys)
  without-order level offset [] ys =
      ap (λ (k : Bool). if k then FindingAt level offset S05 ∷ filter test ys else filter test ys) (hidden level offset)
  without-order level offset (g ∷ gs) ys = by (comes_after_order g) (without-order level offset gs ys)
    where
      by : (k : Bool)
          → filter test (finding_items level offset (with_order gs) ++ ys)
          ≡ filter test (finding_items level offset gs ++ ys)
          → filter test (finding_items level offset (if k then S05 ∷ g ∷ gs else g ∷ with_order gs) ++ ys)
          ≡ filter test (finding_items level offset (g ∷ gs) ++ ys)
      by true e =
          ap (λ (k : Bool). if k
          then FindingAt level offset S05 ∷ filter test (finding_items level offset (g ∷ gs) ++ ys)
          else filter test (finding_items level offset (g ∷ gs) ++ ys))
          (hidden level offset)
      by false e = ap (λ (l : List Item). if test (FindingAt level offset g) then FindingAt level offset g ∷ l else l) e

  pub without-order_if : (level offset : ℕ) (b : Bool) (gs : List Finding) (ys : List Item)
      → filter test (finding_items level offset (with_order_if b gs) ++ ys)
      ≡ filter test (finding_items level offset gs ++ ys)
  without-order_if level offset true gs ys = without-order level offset gs ys
  without-order_if level offset false gs ys = refl

-- of the listed findings B28 is none
pub no-characters : (rules : Rules) (wrong : Bool) (gs : List Finding)
    → with_characters_if (wants_characters (listed_by rules) && wrong) gs ≡ gs
no-characters rules wrong gs = ap (λ (k : Bool). with_characters_if (k && wrong) gs) (and-none (rules_have rules B28))
  where
    and-none : (k : Bool) → (k && false) ≡ false
    and-none true = refl
    and-none false = refl

-- nor is S05
pub none-listed : (rules : Rules) (s : Site) (e : Element) (gs : List Finding)
    → last_findings (listed_by rules) s e gs ≡ gs
none-listed rules s e gs =
    ap (λ (k : Bool). with_order_if (k && is_out_of_order_at rules s e) gs) (and-none (rules_have rules S05))
  where
    and-none : (k : Bool) → (k && false) ≡ false
    and-none true = refl
    and-none false = refl
