use Rattle.std.proofs.Common.{ap, sym, ◌∙◌}
use Rattle.std.proofs.lemmas.List.{take_all}
use Rattle.std.specs.List.{filter}
use Rattle.tlv_value.specs.AllChecks.{is_listed}
use Rattle.tlv_value.specs.ValueCheckState.{ValueCheckState, findings_in}
use Rattle.tlv_value.proofs.CheckLemmas.CheckPieces.{findings-end}
use Rattle.tlv_value.proofs.CheckLemmas.Filtered.{filter-hidden, kept, next-within, stays-within}
use Rattle.tlv_value.proofs.CheckLemmas.ListedRows.{listed-stay}
use Rattle.tlv_value.proofs.value_check.ValueCheck.end.Goals as goal
use Rattle.tlv_value.proofs.value_check.ValueCheck.end.Goals.{then-is_listed, else-is_listed}

pub loop-finding-preserved : goal.loop-finding-preserved
loop-finding-preserved c =
    let l = c.as_slice-finding-items.result.now in
    let old = c.loop-finding.invariant in
    elim c.if-is_listed.branch [
      | then-is_listed w ↦
          rw w.listed-is
          (record {
            kept =
                kept is_listed l _ c.loop-finding.finding-index _ c.loop-finding-test.true old.kept
                _ (sym c.is_listed.ensures ∙ w.if-is_listed.true) w.push.ensures.items;
            short = next-within _ _ _ old.short w.push.ensures.len;
            all = old.all;
            all_short = old.all_short;
          })
      | else-is_listed w ↦
          rw w.listed-is
          (record {
            kept =
                filter-hidden is_listed l _ c.loop-finding.finding-index _ c.loop-finding-test.true
                old.kept
                (sym c.is_listed.ensures ∙ w.if-is_listed.false);
            short = stays-within _ _ old.short;
            all = old.all;
            all_short = old.all_short;
          })
    ]

pub returns-clause-all_contents : goal.returns-clause-all_contents
returns-clause-all_contents c h octets e size =
    let loop = c.loop-finding in
    loop.invariant.kept
    ∙ ap (filter is_listed)
    (take_all loop.finding-index c.as_slice-finding-items.result.now c.loop-finding-test.false ∙ loop.invariant.all)
    ∙ ap (λ (s : ValueCheckState). filter is_listed (findings_in s)) e
    ∙ ap (filter is_listed) (findings-end h octets size) ∙ listed-stay h octets
