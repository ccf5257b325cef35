use Rattle.std.proofs.Common.{◌≡◌, ap, refl, rules, ℕ}
use Rattle.std.specs.FinMap as finite
use Rattle.std.specs.Option.{is_some}
use Rattle.tlv_walk.proofs.FollowerLemmas.WholeResults.{if_failed, if_followed}
use Rattle.tlv_io.proofs.Puts.{puts_text}
use Rattle.tlv_value.specs.TextBeside.{whole_lines_with}
use Rattle.tlv_show.specs.DumpStep.{DumpState, level_in}
use Rattle.tlv_show.specs.Texts.{layout_at}
use Rattle.tlv_show.proofs.DumpLemmas.FinderKeeps.{dump_with}
use Rattle.tlv_show.proofs.DumpLemmas.ClearPrimitivesShown.{at_level, made_is, shown, shown-failed, stands_after}
use Rattle.tlv_show.proofs.dump_follower.DumpFollow.whole.Goals as goal

pub returns-in_err-whole-clause-failed : goal.returns-in_err-whole-clause-failed
returns-in_err-whole-clause-failed g c =
    let u : DumpState = dump_with c.self.inside.lines c.self.inside.finder.kept in
    let is =
    made_is c.args.self.now u c.self.inside.finder c.passes.new.self c.args.header.now c.args.octets.now
    c.contents_in-contents.result.now c.passes.result
    c.self.view_is refl c.contents_in-contents.ensures c.requires.whole (search rules) c.passes.ensures in
    let level : c.level.result ≡ level_in u =
    at_level c.args.self.now u c.self.inside.finder c.passes.new.self c.args.header.now c.args.octets.now
    c.contents_in-contents.result.now c.passes.result
    c.self.view_is refl c.contents_in-contents.ensures c.requires.whole (search rules) c.passes.ensures
    c.level.result c.level.ensures in
    let lines =
    ap (λ (n : ℕ). whole_lines_with u.lines.with_text (finite.get u.lines.names) c.args.header.now
    (layout_at u.lines.layout n) c.contents_in-contents.result.now)
    level in
    if_failed g.D.Drain.state _ _ _ _ _ _
    (shown-failed g.D.Drain.state c.args.out.now c.whole.new.out _ _ _ is c.args.self.now _ _ c.from_residual.result
    (puts_text g.D.Drain.state _ _ _ _ _ lines c.in_err-whole.ensures.puts) c.from_residual.ensures.0)

pub returns-clause-followed : goal.returns-clause-followed
returns-clause-followed g c =
    let u : DumpState = dump_with c.self.inside.lines c.self.inside.finder.kept in
    let is =
    made_is c.args.self.now u c.self.inside.finder c.passes.new.self c.args.header.now c.args.octets.now
    c.contents_in-contents.result.now c.passes.result
    c.self.view_is refl c.contents_in-contents.ensures c.requires.whole (search rules) c.passes.ensures in
    let level : c.level.result ≡ level_in u =
    at_level c.args.self.now u c.self.inside.finder c.passes.new.self c.args.header.now c.args.octets.now
    c.contents_in-contents.result.now c.passes.result
    c.self.view_is refl c.contents_in-contents.ensures c.requires.whole (search rules) c.passes.ensures
    c.level.result c.level.ensures in
    let lines =
    ap (λ (n : ℕ). whole_lines_with u.lines.with_text (finite.get u.lines.names) c.args.header.now
    (layout_at u.lines.layout n) c.contents_in-contents.result.now)
    level in
    let new =
    stands_after c.args.self.now u c.self.inside.finder c.passes.new.self c.args.header.now c.args.octets.now
    c.contents_in-contents.result.now c.passes.result
    c.self.view_is refl c.contents_in-contents.ensures c.requires.whole (search rules) c.passes.ensures
    c.whole.new.self (c.whole.ensures.state (is_some u.finder.open_primitive)) in
    if_followed g.D.Drain.state _ _ _ c.args.self.now _ _
    (shown g.D.Drain.state c.args.out.now c.whole.new.out _ _ _ is c.args.self.now _ new
    (puts_text g.D.Drain.state _ _ _ _ _ lines c.in_ok-whole.ensures.puts))

pub whole-requires : goal.whole-requires
whole-requires g c = search rules
