use Rattle.std.proofs.Common.{rules, arith}
use Rattle.tlv_io.proofs.HeldTexts.{spaces_of_more, spaces_step}
use Rattle.tlv_io.proofs.held_octets.texts.fill_more_spaces.Goals as goal

pub loop-done-preserved : goal.loop-done-preserved
loop-done-preserved c =
    let i = c.loop-done.invariant in record {
      blank =
          spaces_step c.loop-done.to c.copy_from_slice.new.self _ c.loop-done.done
          (omega (arith, i.size, c.requires, c.loop-done-test.true)) c.copy_from_slice.ensures.after i.blank;
      size = search rules;
      bound = omega (arith, c.loop-done-test.true);
    }

pub returns : goal.returns
returns c = record {
  text =
      spaces_of_more c.args.count c.loop-done.done c.loop-done.to (omega (arith, c.loop-done-test.false))
      c.loop-done.invariant.blank;
  size = c.loop-done.invariant.size;
}
