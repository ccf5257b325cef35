use Rattle.std.proofs.Common.{ℕ, arith, take}
use Rattle.std.proofs.lemmas.List.{length-drop, length-take}
use Rattle.tlv_text.proofs.LineLemmas.{line-further, line_feeds-le}
use Rattle.tlv_text.proofs.blocks.lines.line_from.Goals as goal

pub overflow_add-result : goal.overflow_add-result
overflow_add-result c =
    let r = c.requires in
    let f = c.line_feeds.ensures in
    omega (
      arith,
      r.from.line,
      f.within,
      line_feeds-le (take c.args.from.place c.args.text.now),
      length-take {A = ℕ},
      length-drop {A = ℕ},
    )

pub returns-clause-line : goal.returns-clause-line
returns-clause-line c =
    let r = c.requires in
    let f = c.line_feeds.ensures in
    record {
      within = r.within;
      line = omega (arith, r.from.line, f.value, line-further c.args.text.now c.args.from.place c.args.place r.order);
    }
