use Rattle.std.proofs.Common.{◌≡◌, ◌∙◌, List, [], ap₂, sym, subst}
use Rattle.tlv_show.specs.declared.holder_frame.HolderFrame.{HolderFrame}
use Rattle.tlv_show.specs.declared.segment_frame.SegmentFrame.{SegmentFrame}
use Rattle.tlv_show.specs.FinderState.{CheckState, FinderState, SeenState, finder_close_step}
use Rattle.tlv_show.specs.NestingState.{depth_in}
use Rattle.tlv_show.specs.Private.FinderState.{ReturnsFindings}
use Rattle.tlv_show.specs.Private.IfOpen.{if_open}
use Rattle.tlv_show.specs.SetOrderState.{SetOrderState}
use Rattle.tlv_show.proofs.FindingLemmas.FinderEnds.{IsClosed, ended_with, ends-none, ends-other, ends-some}
use Rattle.tlv_show.proofs.finder.Finder.close.Goals as goal

pub returns-in-Some : goal.returns-in-Some
returns-in-Some g c =
    let f = c.self.inside in
    let s : CheckState = record {
      wanted = f.wanted;
      holders = f.holders;
      open_primitive = if_open f.is_open (record { offset = f.offset; check = f.check });
      seen = record { order = f.order; strings = f.strings };
      finding_count = f.finding_count;
    } in
    let o = c.close_in_order-is_out_of_order in
    let t = c.close_in_strings-string in
    let b = c.args.has_end_octets in
    let seen : SeenState = record { order = o.new.order; strings = t.new.strings } in
    let closed : IsClosed s b c.close.new.self seen o.result t.result = record {
      holders_are = c.in-Some.ensures.state;
      seen_is =
          ap₂ (λ (a : SetOrderState) (l : List SegmentFrame). record { order = a; strings = l }) o.ensures.state
          t.ensures.state;
      misplaced = o.ensures.found;
      string_is = t.ensures.found;
    } in
    subst
    (λ (x : FinderState). ReturnsFindings (finder_close_step x.kept b) c.find_with_end.new.self c.find_with_end.result)
    c.self.view_is
    (ends-some s b c.close.new.self seen o.result t.result closed c.in-Some.closed c.find_with_end.new.self
    c.find_with_end.result c.in-Some.ensures.closed c.find_with_end.ensures)

pub returns-then-has_finding : goal.returns-then-has_finding
returns-then-has_finding g c =
    let f = c.self.inside in
    let s : CheckState = record {
      wanted = f.wanted;
      holders = f.holders;
      open_primitive = if_open f.is_open (record { offset = f.offset; check = f.check });
      seen = record { order = f.order; strings = f.strings };
      finding_count = f.finding_count;
    } in
    let o = c.close_in_order-is_out_of_order in
    let t = c.close_in_strings-string in
    let b = c.args.has_end_octets in
    let r = c.find_with_end-then-has_finding in
    let seen : SeenState = record { order = o.new.order; strings = t.new.strings } in
    let closed : IsClosed s b c.close.new.self seen o.result t.result = record {
      holders_are = c.in-None.ensures.state;
      seen_is =
          ap₂ (λ (a : SetOrderState) (l : List SegmentFrame). record { order = a; strings = l }) o.ensures.state
          t.ensures.state;
      misplaced = o.ensures.found;
      string_is = t.ensures.found;
    } in
    subst (λ (x : FinderState). ReturnsFindings (finder_close_step x.kept b) r.new.self r.result) c.self.view_is
    (ends-other s b c.close.new.self seen o.result t.result closed r.new.self r.result c.in-None.ensures.closed
    (λ e. c.if-depth-eq0.false (c.depth.ensures ∙ e)) (sym c.if-has_finding.ensures)
    (subst (λ (w : HolderFrame). ReturnsFindings (ended_with s c.close.new.self (depth_in c.close.new.self) seen o.result t.result w) r.new.self r.result)
    c.top_frame.ensures r.ensures))

pub returns-else-has_finding : goal.returns-else-has_finding
returns-else-has_finding g c =
    let f = c.self.inside in
    let s : CheckState = record {
      wanted = f.wanted;
      holders = f.holders;
      open_primitive = if_open f.is_open (record { offset = f.offset; check = f.check });
      seen = record { order = f.order; strings = f.strings };
      finding_count = f.finding_count;
    } in
    let o = c.close_in_order-is_out_of_order in
    let t = c.close_in_strings-string in
    let b = c.args.has_end_octets in
    let seen : SeenState = record { order = o.new.order; strings = t.new.strings } in
    let closed : IsClosed s b c.close.new.self seen o.result t.result = record {
      holders_are = c.in-None.ensures.state;
      seen_is =
          ap₂ (λ (a : SetOrderState) (l : List SegmentFrame). record { order = a; strings = l }) o.ensures.state
          t.ensures.state;
      misplaced = o.ensures.found;
      string_is = t.ensures.found;
    } in
    subst
    (λ (x : FinderState). (record s { holders = c.close.new.self; seen = seen } ≡ (finder_close_step x.kept b).kept)
    × ((finder_close_step x.kept b).findings ≡ []))
    c.self.view_is
    (ends-none s b c.close.new.self seen o.result t.result closed c.in-None.ensures.closed
    (λ e. c.if-depth-eq0.false (c.depth.ensures ∙ e)) (sym c.if-has_finding.ensures))
