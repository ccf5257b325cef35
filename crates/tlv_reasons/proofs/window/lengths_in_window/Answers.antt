use Rattle.std.proofs.Common.{rules, sym, ◌∙◌}
use Rattle.tlv_reasons.specs.Window.{fault_behind, fault_inside, unfollowed}
use Rattle.tlv_reasons.proofs.window.lengths_in_window.Goals as goal

pub returns-then-not-is_followed : goal.returns-then-not-is_followed
returns-then-not-is_followed c =
    rw c.new.ensures
    (unfollowed
    (λ f. cc (
      c.if-not-is_followed.true,
      (rw (c.closed_framing-framing.ensures, c.is_cut-cut.ensures, c.window-searched.ensures.window) at c.is_followed.ensures).1 f,
    )))

pub returns-then-is_fault_behind : goal.returns-then-is_fault_behind
returns-then-is_fault_behind c =
    rw c.new-then-is_fault_behind.ensures
    (fault_behind (rw (c.closed_framing-framing.ensures, c.window-searched.ensures.window) at c.facts_of-facts.ensures)
    (rw c.is_cut-cut.ensures at (sym c.is_fault_behind.ensures ∙ c.if-is_fault_behind.true)))

pub returns : goal.returns
returns c =
    rw (c.all_behind.ensures, c.as_slice-2.ensures.value)
    (fault_inside
    ((rw (c.closed_framing-framing.ensures, c.is_cut-cut.ensures, c.window-searched.ensures.window) at c.is_followed.ensures).0
    (search rules))
    (rw (c.closed_framing-framing.ensures, c.window-searched.ensures.window) at c.facts_of-facts.ensures)
    (rw c.is_cut-cut.ensures at (sym c.is_fault_behind.ensures ∙ c.if-is_fault_behind.false))
    (rw (
      c.closed_framing-framing.ensures,
      c.as_slice-holders.ensures.value,
      c.as_slice.ensures.value,
      c.suspect_offsets-candidates.ensures,
      c.fault_offset.ensures,
      c.is_cut-cut.ensures,
      c.window-searched.ensures.window,
    ) at c.in_ok-found.ensures))
