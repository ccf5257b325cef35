use Rattle.std.proofs.Common.{◌≡◌, ◌+◌, ℕ, Bool, List, [], ◌∷◌, Option, ap, arith, length, map, refl, rules}
use Rattle.std.proofs.Common.{subst}
use Rattle.std.proofs.lemmas.List.{nil_from_length}
use Rattle.std.proofs.lemmas.List.Elements.{All-tail}
use Rattle.std.specs.Prelude.{Ok, nat_lt, ◌≤◌}
use Rattle.std.specs.Vec.Iter.{into_iter_items}
use Rattle.tlv_text.specs.Taken.{taken_value}
use Rattle.tlv_text.specs.declared.taken.Taken.{Taken}
use Rattle.tlv_head.specs.Limits.{input_limit}
use Rattle.tlv_run.specs.BorrowedText.{text_in}
use Rattle.tlv_value.specs.Names.{NamesValue}
use Rattle.tlv_view_program.specs.declared.request.Request.{Request}
use Rattle.tlv_view_program.proofs.BlockSteps.{one-shown, rest-ends, rest-goes_on, rest-stops}
use Rattle.tlv_view_program.proofs.InputBlockLemmas.{blocks-taken, taken_block}
use Rattle.tlv_view_program.specs.InputBlocks.{InputBlockValue, blocks_taken}
use Rattle.tlv_view_program.specs.Private.BlockParts.{blocks_place}
use Rattle.tlv_view_program.specs.Private.ShowsSome.{ShowsSome}
use Rattle.tlv_view_program.specs.ShowsAll.{BlocksPlace}
use Rattle.tlv_view_program.specs.Streams.{StreamsValue, streams_value}
use Rattle.tlv_view_program.proofs.files.show_taken.Goals as goal

-- the blocks of the file
of-file : {S : Type 0} (request : Request) (table : NamesValue) (p : BlocksPlace) (n : ℕ) (file : Option (List ℕ))
    (several : Bool) (ts : List Taken) (old new : StreamsValue S) (failed : Bool) (status : ℕ)
    → several ≡ nat_lt 1 (length ts)
    → ShowsSome request table p n (map (taken_block file several) ts) old new failed status
    → ShowsSome request table p n (blocks_taken file (Ok (map taken_value ts))) old new failed status
of-file request table p n file several ts old new failed status is x =
    subst (λ (l : List InputBlockValue). ShowsSome request table p n l old new failed status)
    (blocks-taken file several ts is) x

pub returns-then-shown : goal.returns-then-shown
returns-then-shown g c =
    let file = text_in c.args.file in
    let several = nat_lt 1 c.len-is_one_of_several.result in
    let steps : into_iter_items c.loop-each.each-iterator ≡ c.in-Some.each ∷ into_iter_items c.next.new.self =
    c.in-Some.ensures.steps.0 in
    rw c.highest-status.ensures
    (of-file c.args.task.now.request.now c.args.task.now.names.now (blocks_place c.args.task.now) (c.args.before + 1)
    file several c.args.taken.items _ _ _ _ (ap (nat_lt 1) (search rules))
    (rest-stops c.args.task.now.request.now c.args.task.now.names.now (blocks_place c.args.task.now) (c.args.before + 1)
    (map (taken_block file several) c.args.taken.items)
    (streams_value g.I.Source.state g.O.Drain.state g.O.Output.reader_gone g.M.Drain.state c.args.streams.now)
    c.loop-each.number c.loop-each.status c.block-shown.result.status (taken_block file several c.in-Some.each ∷ [])
    (map (taken_block file several) (into_iter_items c.next.new.self))
    (map (taken_block file several) (into_iter_items c.loop-each.each-iterator)) _ _
    (ap (map (taken_block file several)) steps) c.loop-each.invariant.shows
    (one-shown c.args.task.now.request.now c.args.task.now.names.now (blocks_place c.args.task.now)
    (c.loop-each.number + 1) _ _ _ _ _ (rw c.if-shown.true at c.block-shown.ensures))))

pub loop-each-preserved : goal.loop-each-preserved
loop-each-preserved g c =
    let file = text_in c.args.file in
    let several = nat_lt 1 c.len-is_one_of_several.result in
    let steps : into_iter_items c.loop-each.each-iterator ≡ c.in-Some.each ∷ into_iter_items c.next.new.self =
    c.in-Some.ensures.steps.0 in
    record {
      shows =
          rw c.highest-status.ensures
          (rest-goes_on c.args.task.now.request.now c.args.task.now.names.now (blocks_place c.args.task.now)
          (c.args.before + 1) (map (taken_block file several) c.args.taken.items)
          (streams_value g.I.Source.state g.O.Drain.state g.O.Output.reader_gone g.M.Drain.state c.args.streams.now)
          c.loop-each.number (c.loop-each.number + 1) c.loop-each.status c.block-shown.result.status
          (taken_block file several c.in-Some.each ∷ [])
          (map (taken_block file several) (into_iter_items c.next.new.self))
          (map (taken_block file several) (into_iter_items c.loop-each.each-iterator)) _ _
          (ap (map (taken_block file several)) steps) refl c.loop-each.invariant.shows
          (one-shown c.args.task.now.request.now c.args.task.now.names.now (blocks_place c.args.task.now)
          (c.loop-each.number + 1) _ _ _ _ _ (rw c.if-shown.false at c.block-shown.ensures)));
      fit =
          All-tail (λ (t : Taken). length t.block.octets.items ≤ input_limit) c.in-Some.each _
          (rw steps at c.loop-each.invariant.fit);
      count = omega (arith, c.loop-each.invariant.count, ap length steps);
      left = omega (arith, c.loop-each.invariant.left, c.in-Some.ensures.steps.1, ap length steps);
    }

pub returns : goal.returns
returns g c =
    let file = text_in c.args.file in
    let several = nat_lt 1 c.len-is_one_of_several.result in
    of-file c.args.task.now.request.now c.args.task.now.names.now (blocks_place c.args.task.now) (c.args.before + 1)
    file several c.args.taken.items _ _ _ _ (ap (nat_lt 1) (search rules))
    (rest-ends c.args.task.now.request.now c.args.task.now.names.now (blocks_place c.args.task.now) (c.args.before + 1)
    (map (taken_block file several) c.args.taken.items)
    (streams_value g.I.Source.state g.O.Drain.state g.O.Output.reader_gone g.M.Drain.state c.args.streams.now)
    c.loop-each.number c.loop-each.status (map (taken_block file several) (into_iter_items c.loop-each.each-iterator)) _
    (ap (map (taken_block file several))
    (nil_from_length (into_iter_items c.loop-each.each-iterator)
    (omega (arith, c.loop-each.invariant.left, c.in-None.ensures.steps.0))))
    c.loop-each.invariant.shows)
