use Rattle.std.proofs.Common.{◌≡◌, ℕ, Bool, true, false, List, [], refl, sym, ◌∙◌}
use Rattle.std.specs.Prelude.{not}
use Rattle.tlv_open.specs.declared.strings.BrokenString.{BrokenString}
use Rattle.tlv_view_program.specs.Views.{AreBrokenUnless}
use Rattle.tlv_view_program.specs.declared.request.Wanted.{Wanted}
use Rattle.tlv_view_program.specs.declared.request.Wanted.TheVariants.{Dump, Check, Extract, Offsets, Raw, Why}
use Rattle.tlv_view_program.specs.ShowsBlock.{no_memory, reports_broken, shown, stays_closed}
use Rattle.tlv_view_program.proofs.octets.show_view.Goals as goal

-- where broken strings are reported, strings are opened
reported : (w : Wanted) (padding : Bool) (octets : List ℕ) (broken : List BrokenString) → reports_broken w ≡ true
    → AreBrokenUnless (stays_closed w) padding octets broken
    → AreBrokenUnless (not (reports_broken w)) padding octets broken
reported (Dump rules limit pure text true names) padding octets broken e x = absurd (cc (e))
reported (Dump rules limit pure text false names) padding octets broken e x = x
reported (Check rules true) padding octets broken e x = absurd (cc (e))
reported (Check rules false) padding octets broken e x = x
reported (Extract offset contents) padding octets broken e x = absurd (cc (e))
reported Offsets padding octets broken e x = absurd (cc (e))
reported Raw padding octets broken e x = absurd (cc (e))
reported (Why true) padding octets broken e x = absurd (cc (e))
reported (Why false) padding octets broken e x = x

-- where they are not, there are none
unreported : (b padding : Bool) (octets : List ℕ) → b ≡ false → AreBrokenUnless (not b) padding octets []
unreported true padding octets e = absurd (cc (e))
unreported false padding octets e = refl

pub returns-then-reports_broken : goal.returns-then-reports_broken
returns-then-reports_broken g c = λ reads.
    shown c.args.view.now _ c.in-Ok.viewed.broken.items c.requires.wanted
    (rw c.stays_closed-closed.ensures at c.in-Ok.ensures.views)
    (reported c.args.request.now.wanted c.args.request.now.padding c.args.octets.now c.in-Ok.viewed.broken.items
    (sym c.reports_broken.ensures ∙ c.if-reports_broken.true)
    (rw c.stays_closed-closed.ensures at c.in-Ok.ensures.broken))

pub returns-else-reports_broken : goal.returns-else-reports_broken
returns-else-reports_broken g c = λ reads.
    rw c.new.ensures.items
    (shown c.args.view.now _ [] c.requires.wanted (rw c.stays_closed-closed.ensures at c.in-Ok.ensures.views)
    (unreported (reports_broken c.args.request.now.wanted) c.args.request.now.padding c.args.octets.now
    (sym c.reports_broken.ensures ∙ c.if-reports_broken.false)))

pub returns-in-Err : goal.returns-in-Err
returns-in-Err g c = λ reads.
    rw (c.no_memory.ensures.report, c.no_memory.ensures.none) (no_memory c.in-Err.ensures.nothing)
