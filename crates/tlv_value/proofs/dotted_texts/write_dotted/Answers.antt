use Rattle.std.proofs.Common.{◌≡◌, ℕ, ◌+◌, ◌*◌, ◌%◌, ◌++◌, ◌∷◌, true, List, get_or, refl, sym, ap, ◌∙◌, arith}
use Rattle.std.proofs.Common.{[], append_assoc, append-nil, rules}
use Rattle.std.proofs.lemmas.Grind.{common_steps}
use Rattle.tlv_value.specs.Arcs.{is_finished}
use Rattle.tlv_value.specs.Private.Arcs.{arcs_text}
use Rattle.tlv_value.proofs.TextLemmas.Arcs.{room-last, room-within, run-end, run-last, run-none, run-within}
use Rattle.tlv_value.proofs.TextLemmas.RowTextLengths.{adds_short}
use Rattle.tlv_value.proofs.dotted_texts.write_dotted.Goals.{then-octet-lt128, else-octet-lt128}
use Rattle.tlv_value.proofs.dotted_texts.write_dotted.Goals as goal

pub returns-then-number-clause-exists : goal.returns-then-number-clause-exists
returns-then-number-clause-exists c =
    let f : is_finished c.args.contents.now ≡ true = grind (arith, common_steps) in
    let (text, held, room, same) = c.loop-octet.invariant in
    rw (run-none c.args.relative c.args.contents.now text c.loop-octet.first c.loop-octet.number
    c.loop-octet.octet-index f (omega arith) (omega arith) (omega arith) same)
    refl

pub loop-octet-preserved : goal.loop-octet-preserved
loop-octet-preserved c =
    let (text, held, room, same) = c.loop-octet.invariant in
    let i : ℕ = c.loop-octet.octet-index in
    let x : ℕ = get_or c.args.contents.now i 0 in
    let n : ℕ = c.loop-octet.number * 128 + c.from.result in
    let v : n ≡ c.loop-octet.number * 128 + x % 128 = ap (λ (m : ℕ). c.loop-octet.number * 128 + m) c.from.ensures in
    elim c.if-octet-lt128.branch [
      | then-octet-lt128 w ↦
          let part : List ℕ = arcs_text c.loop-octet.first c.args.relative n in (
            text ++ part,
            w.held-is ∙ w.write_arcs.ensures ∙ ap (λ (t : List ℕ). t ++ part) held
                ∙ append_assoc c.args.held.now (32 ∷ text) part,
            rw (w.first-is, w.number-is)
                (room-last text c.loop-octet.first c.args.relative c.loop-octet.number x n i v (omega arith) room),
            rw (w.first-is, w.number-is)
                (sym
                (run-last text c.loop-octet.first c.args.relative c.loop-octet.number n c.args.contents.now i v
                c.loop-octet-test.true (omega arith) w.if-octet-lt128.true)
                ∙ same),
          )
      | else-octet-lt128 w ↦ (
        text,
        w.held-is ∙ held,
        rw (w.first-is, w.number-is) (room-within text c.loop-octet.first c.loop-octet.number x n i v room),
        rw (w.first-is, w.number-is)
            (sym
            (run-within text c.loop-octet.first c.args.relative c.loop-octet.number n c.args.contents.now i v
            c.loop-octet-test.true (omega arith) w.if-octet-lt128.false)
            ∙ same),
      )
    ]

pub returns-clause-exists : goal.returns-clause-exists
returns-clause-exists c =
    let f : is_finished c.args.contents.now ≡ true = grind (arith, common_steps) in
    let (text, held, room, same) = c.loop-octet.invariant in
    rw (run-end c.args.relative c.args.contents.now text c.loop-octet.first c.loop-octet.number
    c.loop-octet.octet-index f (omega arith) (omega arith) same)
    refl

pub returns-clause-adds : goal.returns-clause-adds
returns-clause-adds c =
    let f : is_finished c.args.contents.now ≡ true = grind (arith, common_steps) in
    let (text, held, room, same) = c.loop-octet.invariant in
    rw (run-end c.args.relative c.args.contents.now text c.loop-octet.first c.loop-octet.number
    c.loop-octet.octet-index f (omega arith) (omega arith) same)
    (adds_short _ _ (32 ∷ text) 259 held (omega (arith, room)))

pub truncate-requires : goal.truncate-requires
truncate-requires c = grind (arith, common_steps)

pub returns-then-number-clause-adds : goal.returns-then-number-clause-adds
returns-then-number-clause-adds c =
    let same : c.truncate.new.self ≡ c.args.held.now = grind (arith, common_steps) in
    adds_short _ _ [] 259 (same ∙ sym (append-nil c.args.held.now)) (omega arith)

pub write_arcs-requires : goal.write_arcs-requires
write_arcs-requires c = grind (arith, common_steps)

pub write_short-requires-clause-short : goal.write_short-requires-clause-short
write_short-requires-clause-short c = search rules
