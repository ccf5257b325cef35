use Rattle.std.proofs.Common.{◌≡◌, Bool, not, eqb, true, false, List, [], ◌∷◌, length, ap, ap₂, sym, refl, ◌∙◌, arith}
use Rattle.std.proofs.Common.{eqb-true}
use Rattle.tlv_value.specs.declared.finding.Finding.{Finding}
use Rattle.tlv_value.specs.ValueCheckState.{ValueCheckState, value_check_after}
use Rattle.tlv_show.specs.declared.rules.Rules.TheVariants.{Ber}
use Rattle.tlv_show.specs.declared.holder_frame.HolderFrame.{HolderFrame}
use Rattle.tlv_show.specs.declared.wanted.Wanted.{Wanted}
use Rattle.tlv_show.specs.NestingState.{surroundings_in}
use Rattle.tlv_show.specs.KeptConditions.{header_findings_in}
use Rattle.tlv_show.specs.FinderState.{contents_findings_in}
use Rattle.tlv_show.specs.ListedFindings.{listed_findings}
use Rattle.tlv_show.specs.ShownFindings.{listed_by}
use Rattle.tlv_show.specs.Site.{top_site}
use Rattle.tlv_show.proofs.FindingLemmas.FinderSteps.{contents_findings-at_end}
use Rattle.tlv_show.proofs.FindingLemmas.ListedTables.{listed-contents, listed-header}
use Rattle.tlv_show.proofs.basic_findings.has_basic_findings.Goals as goal

empty-nil : (xs : List Finding) (b : Bool) → b ≡ eqb (length xs) 0 → b ≡ true → xs ≡ []
empty-nil [] b e t = refl
empty-nil (x ∷ xs) b e t = absurd (omega (arith, eqb-true (length (x ∷ xs)) 0 (sym e ∙ t)))

nil-empty : (xs : List Finding) (b : Bool) → b ≡ eqb (length xs) 0 → xs ≡ [] → not b ≡ false
nil-empty [] b e t = ap not e
nil-empty (x ∷ xs) b e t = absurd (cc)

not-back : (b : Bool) → not b ≡ false → b ≡ true
not-back true e = refl
not-back false e = absurd (cc)

both-empty : (b : Bool) (header found contents : List Finding) → header ≡ [] → found ≡ contents
    → b ≡ eqb (length found) 0
    → (not b ≡ false → (header ≡ []) × (contents ≡ [])) × ((header ≡ []) × (contents ≡ []) → not b ≡ false)
both-empty b header found contents none same e =
    (λ t. (none, sym same ∙ empty-nil found b e (not-back b t)), λ r. nil-empty found b e (same ∙ r.1))

not-empty : (b : Bool) (header found contents : List Finding) → found ≡ header → b ≡ eqb (length found) 0 → b ≡ false
    → (true ≡ false → (header ≡ []) × (contents ≡ [])) × ((header ≡ []) × (contents ≡ []) → true ≡ false)
not-empty b header found contents same e some =
    ((λ t. absurd (cc (t))), λ r. sym (e ∙ ap (λ (l : List Finding). eqb (length l) 0) (same ∙ r.0)) ∙ some)

pub returns-then-not-is_empty : goal.returns-then-not-is_empty
returns-then-not-is_empty c =
    let header : c.add_header_findings.new.found.items ≡ (listed_findings Ber).of_header top_site c.args.header.now =
    c.add_header_findings.ensures
    ∙ ap₂ (λ (v : Wanted) (w : HolderFrame). header_findings_in v (surroundings_in w) c.args.header.now)
    c.listed-wanted.ensures c.top_frame.ensures
    ∙ listed-header Ber top_site c.args.header.now in
    not-empty c.is_empty.result _ c.add_header_findings.new.found.items _ header c.is_empty.ensures
    c.if-not-is_empty.true

pub returns : goal.returns
returns c =
    let header : (listed_findings Ber).of_header top_site c.args.header.now ≡ [] =
    sym (listed-header Ber top_site c.args.header.now)
    ∙ ap₂ (λ (v : Wanted) (w : HolderFrame). header_findings_in v (surroundings_in w) c.args.header.now)
    (sym c.listed-wanted.ensures) (sym c.top_frame.ensures)
    ∙ sym c.add_header_findings.ensures
    ∙ empty-nil c.add_header_findings.new.found.items c.is_empty.result c.is_empty.ensures c.if-not-is_empty.false in
    let found :
    c.add_contents_findings.new.found.items
    ≡ (listed_findings Ber).of_primitive top_site c.args.header.now c.args.contents.now =
    c.add_contents_findings.ensures.found ∙
    (ap₂ contents_findings_in c.listed-wanted.ensures
    (c.bytes.ensures.state
    ∙ ap (λ (s : ValueCheckState). value_check_after s c.args.contents.now) c.new-check.ensures)
    ∙ contents_findings-at_end (listed_by Ber) c.args.header.now c.args.contents.now c.requires
    ∙ listed-contents Ber top_site c.args.header.now c.args.contents.now) in
    both-empty c.is_empty-2.result _ c.add_contents_findings.new.found.items _ header found c.is_empty-2.ensures
