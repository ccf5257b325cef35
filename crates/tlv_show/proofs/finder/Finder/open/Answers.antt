use Rattle.std.proofs.Common.{◌≡◌, ◌∙◌, false, ap, rules, sym}
use Rattle.tlv_show.specs.FinderState.{CheckState, FinderState}
use Rattle.tlv_show.specs.KeptConditions.{Surroundings, header_findings_in}
use Rattle.tlv_show.specs.NestingState.{has_frame}
use Rattle.tlv_show.specs.Private.IfOpen.{if_open}
use Rattle.tlv_show.proofs.DumpLemmas.ClearPrimitives.{opens-clear}
use Rattle.tlv_show.proofs.finder.Finder.open.Goals as goal

pub returns-then-has_no_header_findings : goal.returns-then-has_no_header_findings
returns-then-has_no_header_findings g c =
    let f = c.self.inside in
    let h = c.args.header.now in
    let s : CheckState = record {
      wanted = f.wanted;
      holders = f.holders;
      open_primitive = if_open f.is_open (record { offset = f.offset; check = f.check });
      seen = record { order = f.order; strings = f.strings };
      finding_count = f.finding_count;
    } in
    let none =
    ap (λ (t : Surroundings). header_findings_in f.wanted t h) (sym c.frame.ensures.around)
    ∙ c.has_no_header_findings.ensures.no_findings (search rules) f.wanted.scope in
    rw (← c.self.view_is, c.open_without_frame.ensures, c.open_in_order.ensures, c.open_in_strings.ensures) (opens-clear s _ _ _ none)

pub find_indefinite-requires : goal.find_indefinite-requires
find_indefinite-requires g c =
    let f = c.self.inside in
    let h = c.args.header.now in (
      search rules,
      ap (λ (t : Surroundings). header_findings_in f.wanted t h) (sym c.frame-2.ensures.around)
          ∙ c.is_only_indefinite.ensures.finding (search rules) f.wanted.scope,
    )

pub open_without_frame-requires-then-is_only_indefinite : goal.open_without_frame-requires-then-is_only_indefinite
open_without_frame-requires-then-is_only_indefinite g c =
    let h = c.args.header.now in
    let none : has_frame c.self.inside.holders.frame h ≡ false = search rules in
    ap (λ (f : FinderState). has_frame f.kept.holders.frame h)
    (c.self-then-is_only_indefinite.view_is ∙ c.find_indefinite.ensures)
    ∙ none
