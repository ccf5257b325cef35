use Rattle.std.proofs.Common.{◌≡◌, ◌+◌, ◌∷◌, ◌∙◌, ap, arith, flat_map, length, length-append}
use Rattle.std.proofs.lemmas.List.{nil_from_length}
use Rattle.std.proofs.lemmas.List.Elements.{All-tail}
use Rattle.std.specs.Vec.Iter.{into_iter_items}
use Rattle.tlv_view_program.proofs.BlockSteps.{all-shown, rest-ends, rest-goes_on, rest-stops}
use Rattle.tlv_view_program.specs.Private.BlockParts.{blocks_place, file_blocks, file_fits}
use Rattle.tlv_view_program.specs.Streams.{streams_value}
use Rattle.tlv_view_program.proofs.files.show_blocks.Goals as goal

pub returns-then-outcome : goal.returns-then-outcome
returns-then-outcome g c =
    let steps : into_iter_items c.loop-file.file-iterator ≡ c.in-Some.file ∷ into_iter_items c.next.new.self =
    c.in-Some.ensures.steps.0 in
    let failed = c.if-outcome.true in
    rw c.highest-status.ensures
    (all-shown c.args.task.now.request.now c.args.task.now.names.now (blocks_place c.args.task.now)
    (rest-stops c.args.task.now.request.now c.args.task.now.names.now (blocks_place c.args.task.now) 1
    (flat_map file_blocks c.args.files.items)
    (streams_value g.I.Source.state g.O.Drain.state g.O.Output.reader_gone g.M.Drain.state c.args.streams.now)
    c.loop-file.before c.loop-file.status c.show_file-outcome.result.status (file_blocks c.in-Some.file)
    (flat_map file_blocks (into_iter_items c.next.new.self))
    (flat_map file_blocks (into_iter_items c.loop-file.file-iterator)) _ _
    (ap (flat_map file_blocks) steps) c.loop-file.invariant.shows (rw failed at c.show_file-outcome.ensures)))

pub loop-file-preserved : goal.loop-file-preserved
loop-file-preserved g c =
    let steps : into_iter_items c.loop-file.file-iterator ≡ c.in-Some.file ∷ into_iter_items c.next.new.self =
    c.in-Some.ensures.steps.0 in
    let count = c.file_block_count-count.ensures in
    let more = ap (λ l. length (flat_map file_blocks l)) steps
    ∙ length-append (file_blocks c.in-Some.file) (flat_map file_blocks (into_iter_items c.next.new.self)) in
    record {
      shows =
          rw c.highest-status.ensures
          (rest-goes_on c.args.task.now.request.now c.args.task.now.names.now (blocks_place c.args.task.now) 1
          (flat_map file_blocks c.args.files.items)
          (streams_value g.I.Source.state g.O.Drain.state g.O.Output.reader_gone g.M.Drain.state c.args.streams.now)
          c.loop-file.before (c.loop-file.before + c.file_block_count-count.result) c.loop-file.status
          c.show_file-outcome.result.status (file_blocks c.in-Some.file)
          (flat_map file_blocks (into_iter_items c.next.new.self))
          (flat_map file_blocks (into_iter_items c.loop-file.file-iterator)) _ _
          (ap (flat_map file_blocks) steps) (ap (λ n. c.loop-file.before + n) count) c.loop-file.invariant.shows
          (rw c.if-outcome.false at c.show_file-outcome.ensures));
      fit = All-tail file_fits c.in-Some.file _ (rw steps at c.loop-file.invariant.fit);
      count = omega (arith, more, count, c.loop-file.invariant.count);
      left = omega (arith, c.loop-file.invariant.left, c.in-Some.ensures.steps.1, ap length steps);
    }

pub returns : goal.returns
returns g c =
    all-shown c.args.task.now.request.now c.args.task.now.names.now (blocks_place c.args.task.now)
    (rest-ends c.args.task.now.request.now c.args.task.now.names.now (blocks_place c.args.task.now) 1
    (flat_map file_blocks c.args.files.items)
    (streams_value g.I.Source.state g.O.Drain.state g.O.Output.reader_gone g.M.Drain.state c.args.streams.now)
    c.loop-file.before c.loop-file.status (flat_map file_blocks (into_iter_items c.loop-file.file-iterator)) _
    (ap (flat_map file_blocks)
    (nil_from_length (into_iter_items c.loop-file.file-iterator)
    (omega (arith, c.loop-file.invariant.left, c.in-None.ensures.steps.0))))
    c.loop-file.invariant.shows)
