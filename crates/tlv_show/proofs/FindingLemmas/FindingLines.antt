-- Lines of findings, one after another.
use Rattle.std.proofs.Common.{◌≡◌, ◌+◌, ◌<◌, ◌++◌, ◌∷◌, ℕ, List, drop, get_or, length, ap, sym, ◌∙◌, add-one}
use Rattle.std.proofs.Math.Seq.{drop-cons}
use Rattle.tlv_value.specs.declared.finding.Finding.{Finding}
use Rattle.tlv_show.specs.declared.finding_lines.Style.{Style}
use Rattle.tlv_show.specs.FindingLines.{styled_line, styled_lines}

-- the line of the next finding, and those of the others
pub next_line : (style : Style) (level offset : ℕ) (text line all : List ℕ) (xs : List Finding) (i : ℕ) (d : Finding)
    → i < length xs → line ≡ styled_line style level offset (get_or xs i d)
    → text ++ styled_lines style level offset (drop i xs) ≡ all
    → text ++ (line ++ styled_lines style level offset (drop (i + 1) xs)) ≡ all
next_line style level offset text line all xs i d h e f =
    let next : drop i xs ≡ get_or xs i d ∷ drop (i + 1) xs = rw add-one (drop-cons xs i d h) in
    ap (λ (l : List ℕ). text ++ (l ++ styled_lines style level offset (drop (i + 1) xs))) e
    ∙ ap (λ (l : List Finding). text ++ styled_lines style level offset l) (sym next)
    ∙ f
