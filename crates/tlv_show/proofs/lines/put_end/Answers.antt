use Rattle.std.proofs.Common.{◌≡◌, ◌==◌, ap, arith, false, true}
use Rattle.std.proofs.lemmas.Bool.Decides.{nat_tests}
use Rattle.tlv_value.specs.Value.{NameOf}
use Rattle.tlv_value.specs.ValueTextState.{end_lines}
use Rattle.tlv_io.proofs.Puts.{puts_nothing, puts_text}
use Rattle.tlv_show.proofs.lines.put_end.Goals as goal
use Rattle.tlv_show.proofs.lines.put_end.Goals.{then-not-is_open-via-then-not-is_open}
use Rattle.tlv_show.proofs.lines.put_end.Goals.{then-not-is_open-via-else-not-is_open+then-left-ne0}

pub returns-then-not-is_open : goal.returns-then-not-is_open
returns-then-not-is_open g c =
    let state_of = g.D.Drain.state in
    elim c.then-not-is_open.branch [
      | then-not-is_open-via-then-not-is_open w ↦ rw w.if-not-is_open.true (puts_nothing state_of _ tt)
      | then-not-is_open-via-else-not-is_open+then-left-ne0 w ↦
          let some : (c.args.text.now.left == 0) ≡ false =
          grind (arith, nat_tests, w.left.ensures, w.if-left-ne0.true) in
          rw (w.if-not-is_open.false, some) (puts_nothing state_of _ tt)
    ]

pub returns : goal.returns
returns g c =
    let all : (c.args.text.now.left == 0) ≡ true =
    grind (arith, nat_tests, c.left.ensures, c.if-left-ne0.false) in
    rw (c.if-not-is_open.false, all)
    (puts_text g.D.Drain.state _ _ _ _ _
    (ap (λ (n : NameOf). end_lines n c.args.text.now) (g.met.N.FiniteNames.has_table c.args.names.now))
    c.end_with.ensures.puts)
