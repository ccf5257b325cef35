use Rattle.std.proofs.Common.{◌≡◌, ℕ, ◌+◌, ◌*◌, ◌%◌, ◌++◌, ◌∷◌, List, get_or, refl, sym, ap, ◌∙◌, arith, append_assoc}
use Rattle.tlv_value.specs.Private.Arcs.{arcs_text}
use Rattle.tlv_value.proofs.TextLemmas.Arcs.{few-bits, none-yet, one-more, room-last, room-within, run-end, run-last}
use Rattle.tlv_value.proofs.TextLemmas.Arcs.{run-within}
use Rattle.tlv_value.proofs.TextLemmas.RowTextLengths.{adds_short}
use Rattle.tlv_value.proofs.dotted_texts.write_short.Goals.{then-octet-lt128, else-octet-lt128}
use Rattle.tlv_value.proofs.dotted_texts.write_short.Goals as goal

pub loop-octet-preserved : goal.loop-octet-preserved
loop-octet-preserved c =
    let (text, held, room, same, small) = c.loop-octet.invariant in
    let i : ℕ = c.loop-octet.octet-index in
    let x : ℕ = get_or c.args.contents.now i 0 in
    let n : ℕ = c.loop-octet.number * 128 + c.from.result in
    let v : n ≡ c.loop-octet.number * 128 + x % 128 = ap (λ (m : ℕ). c.loop-octet.number * 128 + m) c.from.ensures in
    let few = few-bits c.loop-octet.number i small (omega (arith, c.loop-octet-test.true, c.requires.short)) in
    elim c.if-octet-lt128.branch [
      | then-octet-lt128 w ↦
          let m : ℕ = w.from-then-octet-lt128.result in
          let u : m ≡ c.loop-octet.number * 128 + x % 128 = w.from-then-octet-lt128.ensures ∙ v in
          let part : List ℕ = arcs_text c.loop-octet.first c.args.relative m in (
            text ++ part,
            w.held-is ∙ w.write_arcs.ensures ∙ ap (λ (t : List ℕ). t ++ part) held
                ∙ append_assoc c.args.held.now (32 ∷ text) part,
            rw (w.first-is, w.number-is)
                (room-last text c.loop-octet.first c.args.relative c.loop-octet.number x m i u (omega (arith, few, u))
                room),
            rw (w.first-is, w.number-is)
                (sym
                (run-last text c.loop-octet.first c.args.relative c.loop-octet.number m c.args.contents.now i u
                c.loop-octet-test.true (omega (arith, few)) w.if-octet-lt128.true)
                ∙ same),
            rw w.number-is (none-yet (i + 1)),
          )
      | else-octet-lt128 w ↦ (
        text,
        w.held-is ∙ held,
        rw (w.first-is, w.number-is) (room-within text c.loop-octet.first c.loop-octet.number x n i v room),
        rw (w.first-is, w.number-is)
            (sym
            (run-within text c.loop-octet.first c.args.relative c.loop-octet.number n c.args.contents.now i v
            c.loop-octet-test.true (omega (arith, few)) w.if-octet-lt128.false)
            ∙ same),
        rw w.number-is (one-more c.loop-octet.number x n i v small),
      )
    ]

pub overflow_mul-number : goal.overflow_mul-number
overflow_mul-number c =
    let (text, held, room, same, small) = c.loop-octet.invariant in
    omega (
      arith,
      few-bits c.loop-octet.number c.loop-octet.octet-index small
          (omega (arith, c.loop-octet-test.true, c.requires.short)),
    )

pub overflow_add-number : goal.overflow_add-number
overflow_add-number c =
    let (text, held, room, same, small) = c.loop-octet.invariant in
    omega (
      arith,
      c.from.ensures,
      few-bits c.loop-octet.number c.loop-octet.octet-index small
          (omega (arith, c.loop-octet-test.true, c.requires.short)),
    )

pub returns-clause-exists : goal.returns-clause-exists
returns-clause-exists c =
    let (text, held, room, same, small) = c.loop-octet.invariant in
    rw (run-end c.args.relative c.args.contents.now text c.loop-octet.first c.loop-octet.number
    c.loop-octet.octet-index c.requires.finished (omega (arith, c.requires.short))
    (omega (arith, c.loop-octet-test.false)) same)
    refl

pub returns-clause-adds : goal.returns-clause-adds
returns-clause-adds c =
    let (text, held, room, same, small) = c.loop-octet.invariant in
    rw (run-end c.args.relative c.args.contents.now text c.loop-octet.first c.loop-octet.number
    c.loop-octet.octet-index c.requires.finished (omega (arith, c.requires.short))
    (omega (arith, c.loop-octet-test.false)) same)
    (adds_short _ _ (32 ∷ text) 259 held (omega (arith, room)))
