use Rattle.std.proofs.Common.{◌≡◌, ◌≢◌, ◌∙◌, Bool, true, false, Option, Some, None, refl, sym}
use Rattle.std.proofs.lemmas.Bool.{true≢false}
use Rattle.std.specs.Option.{is_some}
use Rattle.tlv_head.specs.declared.fault.Fault.{Fault}
use Rattle.tlv_view_program.specs.Reasons.{no_memory, parses, refused}
use Rattle.tlv_view_program.proofs.explain.explain.Goals as goal

-- there is a fault, or there is none
some-fault : (fault : Option Fault) (b : Bool) → b ≡ is_some fault → b ≡ true → fault ≢ None
some-fault None b e t n = true≢false (sym t ∙ e)
some-fault (Some f) b e t n = cc (n)

no-fault : (fault : Option Fault) (b : Bool) → b ≡ is_some fault → b ≡ false → fault ≡ None
no-fault None b e t = refl
no-fault (Some f) b e t = absurd (true≢false (sym e ∙ t))

pub returns-then-is_some : goal.returns-then-is_some
returns-then-is_some g c =
    rw (c.without_strings.ensures.report, c.without_strings.ensures.none, c.explained_report.ensures)
    (refused c.closed_facts-facts.result c.explain_octets-outcome.result c.closed_facts-facts.ensures
    (some-fault _ _ c.is_some.ensures c.if-is_some.true) c.explain_octets-outcome.ensures)

pub returns-in_default : goal.returns-in_default
returns-in_default g c =
    rw (c.no_memory.ensures.report, c.no_memory.ensures.none)
    (no_memory c.closed_facts-facts.result c.closed_facts-facts.ensures
    (no-fault _ _ c.is_some.ensures c.if-is_some.false) refl)

pub returns : goal.returns
returns g c =
    rw c.explained_report-2.ensures
    (parses c.closed_facts-facts.result _ _ c.in-Ok.found.ber.broken.items c.explain_parsing-outcome.result
    c.closed_facts-facts.ensures (no-fault _ _ c.is_some.ensures c.if-is_some.false) c.in-Ok.ensures.ber
    c.in-Ok.ensures.der c.in-Ok.ensures.broken c.in-Ok.found.first.items c.in-Ok.ensures.first
    c.in-Ok.found.kinds c.in-Ok.ensures.kinds c.explain_parsing-outcome.ensures)
