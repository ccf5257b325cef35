use Rattle.std.proofs.Common.{◌≡◌, ◌+◌, ◌∷◌, ◌∙◌, List, ℕ, suc, ap, drop, length, take, arith, sym}
use Rattle.std.proofs.lemmas.List.{drop_all}
use Rattle.std.proofs.Math.Seq.{take-length}
use Rattle.tlv_text.proofs.DumpLemmas.{line-alone, line-found}
use Rattle.tlv_text.proofs.Slices.{from-on}
use Rattle.tlv_text.specs.DumpLines.{dump_lines, new_text_line}
use Rattle.tlv_text.proofs.dump.lines.split_line.Goals as goal

pub returns-in-Some-clause-lines : goal.returns-in-Some-clause-lines
returns-in-Some-clause-lines c =
    let text : List ℕ = c.args.text.now in
    let n : ℕ = c.in-Some.length in
    let size : suc n ≡ n + 1 = omega arith in
    line-found text n c.in-Some.ensures
    ∙ ap (λ (rest : List ℕ). new_text_line (take n text) (length text) ∷ dump_lines rest)
    (ap (λ (k : ℕ). drop k text) size ∙ sym (from-on (n + 1) text))

pub returns-in-None-clause-lines : goal.returns-in-None-clause-lines
returns-in-None-clause-lines c =
    rw (
      c.split_at.ensures.front,
      c.split_at.ensures.back,
      take-length c.args.text.now,
      drop_all (length c.args.text.now) c.args.text.now (omega arith),
    )
    (line-alone c.args.text.now c.requires c.in-None.ensures)
