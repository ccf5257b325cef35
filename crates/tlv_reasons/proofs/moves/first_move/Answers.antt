use Rattle.tlv_reasons.specs.Moves.{here, later, no_more}
use Rattle.tlv_reasons.proofs.MoveLemmas.{denied}
use Rattle.tlv_reasons.proofs.moves.first_move.Goals as goal

pub returns-then-branch : goal.returns-then-branch
returns-then-branch c =
    here (c.in_ok-is_undone.ensures.0 c.if-branch.true)

pub returns-then-branch-2 : goal.returns-then-branch-2
returns-then-branch-2 c =
    later (denied c.in_ok-is_undone.field-0 c.in_ok-is_undone.ensures c.if-branch.false)
    (here (c.in_ok-is_undone-2.ensures.0 c.if-branch-2.true))

pub returns-then-branch-3 : goal.returns-then-branch-3
returns-then-branch-3 c =
    later (denied c.in_ok-is_undone.field-0 c.in_ok-is_undone.ensures c.if-branch.false)
    (later (denied c.in_ok-is_undone-2.field-0 c.in_ok-is_undone-2.ensures c.if-branch-2.false)
    (here (c.in_ok-is_undone-3.ensures.0 c.if-branch-3.true)))

pub returns-then-branch-4 : goal.returns-then-branch-4
returns-then-branch-4 c =
    later (denied c.in_ok-is_undone.field-0 c.in_ok-is_undone.ensures c.if-branch.false)
    (later (denied c.in_ok-is_undone-2.field-0 c.in_ok-is_undone-2.ensures c.if-branch-2.false)
    (later (denied c.in_ok-is_undone-3.field-0 c.in_ok-is_undone-3.ensures c.if-branch-3.false)
    (here (c.in_ok-is_undone-4.ensures.0 c.if-branch-4.true))))

pub returns : goal.returns
returns c =
    later (denied c.in_ok-is_undone.field-0 c.in_ok-is_undone.ensures c.if-branch.false)
    (later (denied c.in_ok-is_undone-2.field-0 c.in_ok-is_undone-2.ensures c.if-branch-2.false)
    (later (denied c.in_ok-is_undone-3.field-0 c.in_ok-is_undone-3.ensures c.if-branch-3.false)
    (later (denied c.in_ok-is_undone-4.field-0 c.in_ok-is_undone-4.ensures c.if-branch-4.false)
    no_more)))
