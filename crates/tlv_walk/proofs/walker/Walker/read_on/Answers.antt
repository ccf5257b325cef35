use Rattle.std.proofs.Common.{◌≡◌, inl, ℕ, ◌+◌, ◌≤◌, get_or, [], ◌∷◌, length, length-append, Option, sym, ap, ◌∙◌}
use Rattle.std.proofs.Common.{subst, arith, rules}
use Rattle.tlv_head.specs.HeadReader.{HeadReaderState, FitsThere, IsRefusedPush, more, refused, whole}
use Rattle.tlv_walk.specs.WalkerState.{WalkerState}
use Rattle.tlv_walk.specs.Private.HandsOver.{HandsOver}
use Rattle.tlv_walk.specs.Stack.{bound_of}
use Rattle.tlv_walk.specs.Stack.{IsWithin}
use Rattle.tlv_walk.specs.Private.Stack.{room_to}
use Rattle.tlv_walk.specs.Events.{event_value_of}
use Rattle.tlv_walk.specs.WalkerFields.{walker_state_of}
use Rattle.tlv_walk.proofs.WalkerLemmas.HeaderRefusals.{refuses_header}
use Rattle.tlv_walk.proofs.WalkerLemmas.HeaderSteps.{HasTaken, first_and_others, give_room, give_some, pushed_end}
use Rattle.tlv_walk.proofs.WalkerLemmas.HeaderSteps.{pushed_some, taken_more, yields_unfinished, used_up}
use Rattle.tlv_walk.proofs.WalkerLemmas.HeaderSteps.{can_take_whole_header}
use Rattle.tlv_walk.proofs.WalkerLemmas.HeaderSteps.{whole_yields, within_next}
use Rattle.tlv_walk.proofs.walker.Walker.read_on.Goals as goal

pub loop-piece-preserved : goal.loop-piece-preserved
loop-piece-preserved c =
    let first = first_and_others c.loop-piece.piece.now c.in-len1-up.len_at_least in
    elim c.in-More.ensures.pushes [
      | more some front same ↦ record {
        same = c.loop-piece.invariant.same;
        unfinished = ap (λ (r : HeadReaderState). r.done) same;
        start = ap (λ (r : HeadReaderState). r.offset) same ∙ c.loop-piece.invariant.start;
        end = pushed_end c.loop-piece.reader _ _ _ same c.loop-piece.invariant.end;
        taken = omega (arith, ap length first, c.loop-piece.invariant.taken);
        grown = omega (arith, c.loop-piece.invariant.grown);
        within =
            within_next c.bound-bound.result c.loop-piece.offset c.loop-piece.invariant.within
            (λ e. some (c.room_to.ensures ∙ e));
        read = taken_more _ _ _ _ _ _ _ c.loop-piece.invariant.read first front same;
        first = inl (pushed_some c.loop-piece.reader _ _ same);
      }
    ]

pub take_whole_header-requires-clause-can : goal.take_whole_header-requires-clause-can
take_whole_header-requires-clause-can c =
    let i = c.loop-piece.invariant in
    let same = c.self.view_is ∙ sym i.same in
    let room : c.room_to.result ≡ room_to (bound_of c.loop-piece.self.stack) c.loop-piece.offset =
    c.room_to.ensures
    ∙ ap (λ (b : Option ℕ). room_to b c.loop-piece.offset)
    (c.bound-bound.ensures ∙ ap (λ (m : WalkerState). bound_of m.stack) same) in
    elim c.in-Whole.ensures.pushes [
      | whole header completes there done ↦
          can_take_whole_header c.loop-piece.self c.loop-piece.reader _ c.len-depth.result c.loop-piece.offset
          c.in-Whole.header
          (subst (λ (m : WalkerState). m.offset ≤ c.loop-piece.offset) (sym i.same) i.grown)
          (subst (λ (m : WalkerState). m.events + length m.stack ≤ c.loop-piece.reader.offset) (sym i.same)
          (omega (arith, c.requires.can.counted, i.start)))
          i.end
          (omega (arith, c.requires.limit, i.taken, c.in-len1-up.len_at_least))
          (c.len-depth.ensures.count ∙ ap (λ (m : WalkerState). length m.stack) same) completes
          (subst (λ (o : Option ℕ). FitsThere c.in-Whole.header o c.len-depth.result) room there)
    ]

pub returns-in-Whole-clause-yields : goal.returns-in-Whole-clause-yields
returns-in-Whole-clause-yields c = λ w over.
    let over' : HandsOver w c.loop-piece.self c.args.reader =
    subst (λ (m : WalkerState). HandsOver w m c.args.reader) (sym c.loop-piece.invariant.same) over in
    elim c.in-Whole.ensures.pushes [
      | whole header completes there done ↦
          whole_yields w c.loop-piece.self c.take_whole_header.new.self c.args.reader c.loop-piece.reader
          _ c.loop-piece.piece.now _ _ c.in-Whole.header (event_value_of c.take_whole_header.result) over'
          c.loop-piece.invariant.read (first_and_others c.loop-piece.piece.now c.in-len1-up.len_at_least) completes
          c.take_whole_header.ensures.yields
    ]

pub returns-in-Refused-clause-yields : goal.returns-in-Refused-clause-yields
returns-in-Refused-clause-yields c = λ w over.
    let i = c.loop-piece.invariant in
    let x : ℕ = get_or c.loop-piece.piece.now 0 0 in
    let bound : c.bound-bound.result ≡ bound_of c.args.self.now.stack =
    c.bound-bound.ensures ∙ ap (λ (m : WalkerState). bound_of m.stack) c.self.view_is in
    let left : room_to c.bound-bound.result c.loop-piece.offset
    ≡ room_to (bound_of c.args.self.now.stack) c.loop-piece.offset =
    ap (λ (b : Option ℕ). room_to b c.loop-piece.offset) bound in
    elim c.in-Refused.ensures.pushes [
      | refused fault cause there same ↦
          inl
          (refuses_header w c.args.self.now c.args.reader c.loop-piece.reader c.args.piece.now.now
          c.loop-piece.piece.now _ x c.len-depth.result c.loop-piece.offset c.in-Refused.fault over i.read
          (first_and_others c.loop-piece.piece.now c.in-len1-up.len_at_least)
          (subst (λ (b : Option ℕ). IsWithin b c.loop-piece.offset) bound i.within) i.end
          (c.len-depth.ensures.count ∙ ap (λ (m : WalkerState). length m.stack) c.self.view_is)
          (λ none e. give_room c.loop-piece.reader.octets c.loop-piece.piece.now
          (room_to c.bound-bound.result c.loop-piece.offset) i.first none (left ∙ e))
          (subst (λ (o : Option ℕ). IsRefusedPush c.loop-piece.reader x o c.len-depth.result c.in-Refused.fault.code)
          (c.room_to.ensures ∙ left) cause)
          there)
    ]

pub returns-clause-yields : goal.returns-clause-yields
returns-clause-yields c = λ w over.
    let i = c.loop-piece.invariant in
    let used : c.loop-piece.piece.now ≡ [] = used_up c.loop-piece.piece.now c.in_default.len_below in
    let same = c.self-2.view_is ∙ i.same in
    let bound : c.bound-bound.result ≡ bound_of c.self-2.inside.stack =
    c.bound-bound.ensures ∙ ap (λ (m : WalkerState). bound_of m.stack) (c.self.view_is ∙ sym same) in
    yields_unfinished w (walker_state_of c.self-2.inside) c.args.reader c.loop-piece.reader c.args.piece.now.now
    c.loop-piece.offset (subst (λ (m : WalkerState). HandsOver w m c.args.reader) (sym same) over)
    (subst (HasTaken c.args.reader c.loop-piece.reader c.args.piece.now.now) used i.read)
    (give_some c.loop-piece.reader.octets c.loop-piece.piece.now _ i.first used) i.end
    (subst (λ (b : Option ℕ). IsWithin b c.loop-piece.offset) bound i.within)

pub returns-in-Refused-clause-counts : goal.returns-in-Refused-clause-counts
returns-in-Refused-clause-counts c = search rules

pub returns-in-Whole-clause-counts : goal.returns-in-Whole-clause-counts
returns-in-Whole-clause-counts c =
    let i = c.loop-piece.invariant in
    let e = c.take_whole_header.ensures in
    let x : ℕ = get_or c.loop-piece.piece.now 0 0 in
    let first = first_and_others c.loop-piece.piece.now c.in-len1-up.len_at_least in
    elim c.in-Whole.ensures.pushes [
      | whole header completes there done ↦ (
        record {
          counts =
              omega (
                arith,
                e.counts.offset,
                completes.offset,
                ap length completes.octets_are,
                length-append c.loop-piece.reader.octets (x ∷ []),
                i.end,
                i.taken,
                ap length first,
              );
          events = e.counts.events ∙ ap (λ (m : WalkerState). m.events + 1) i.same;
          has_yielded = e.counts.has_yielded;
        },
        e.has_octets,
      )
    ]
