use Rattle.std.proofs.Common.{refl, rules}
use Rattle.std.proofs.lemmas.Result.{err_from_is_err_and}
use Rattle.tlv_walk.proofs.FollowerLemmas.Prefixes.{prefix_fails, prefix_whole}
use Rattle.tlv_walk.proofs.WalkerLemmas.Passing.{is_whole_element}
use Rattle.tlv_walk.proofs.one_piece.follow_found.Goals as goal

pub whole-requires : goal.whole-requires
whole-requires g c = rw c.new-header.ensures (record {
  whole = is_whole_element c.args.walker.now c.args.piece.now.now c.args.primitive.now c.requires.can;
})

pub returns-in_err-whole : goal.returns-in_err-whole
returns-in_err-whole g c =
    let p = err_from_is_err_and c.from_residual.result c.from_residual.ensures.1 in rw p.1
    (prefix_fails g.F.Follow.next g.D.Drain.state _ _ _ _ c.args.primitive.now c.new-header.result _ _ c.requires.can
    c.new-header.ensures (c.in_err-whole.ensures.failed refl))

pub returns : goal.returns
returns g c =
    prefix_whole g.F.Follow.next g.D.Drain.state _ _ c.args.piece.now.now _ c.args.primitive.now c.new-header.result
    c.new-header.ensures (c.in_ok-whole.ensures.followed (search rules)) c.pass.ensures.yields c.pass.ensures.passes
