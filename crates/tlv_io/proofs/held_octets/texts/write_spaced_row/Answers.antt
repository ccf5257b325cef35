use Rattle.std.proofs.Common.{rules, ℕ, ◌++◌, List, ap, drop, refl, arith}
use Rattle.tlv_io.proofs.HeldTexts.{row_step, row_whole}
use Rattle.tlv_io.proofs.held_octets.texts.write_spaced_row.Goals as goal

pub loop-i-init : goal.loop-i-init
loop-i-init c = record {
  pairs = (drop 48 c.args.to.now, ap (λ (l : List ℕ). l ++ drop 48 c.args.to.now) c.copy_from_slice.ensures.after);
  size = refl;
}

pub loop-i-preserved : goal.loop-i-preserved
loop-i-preserved c =
    let i : ℕ = c.loop-i.i in
    let p = c.loop-i.invariant.pairs in record {
      pairs = (
        p.0,
        row_step c.args.octets.now c.loop-i.to c.pair.result p.0 i c.loop-i-test.true c.told-octets p.1 c.pair.ensures,
      );
      size = search rules;
    }

pub returns : goal.returns
returns c =
    let p = c.loop-i.invariant.pairs in record {
      text =
          row_whole c.args.octets.now c.loop-i.to p.0 c.loop-i.i
          (omega (arith, c.loop-i.auto.i-end, c.loop-i-test.false)) c.told-octets p.1;
      size = search rules;
    }
