use Rattle.std.proofs.Common.{rules, arith, refl}
use Rattle.tlv_io.proofs.Pieces.{no_pieces_so_far}
use Rattle.tlv_view_program.proofs.ReadsSoFar.{whole-ended, whole-failed, whole-more, whole-no_memory, whole-too_long}
use Rattle.tlv_view_program.proofs.input.read_whole.Goals as goal

pub loop-count-init : goal.loop-count-init
loop-count-init g c = record {
  given = record { gathered = no_pieces_so_far (g.S.Source.state c.args.source.now); are = search rules };
  most = search rules;
  piece = search rules;
  failures = refl;
}

pub loop-count-preserved : goal.loop-count-preserved
loop-count-preserved g c =
    let i = c.loop-count.invariant in
    record {
      given =
          whole-more _ _ _ _ i.given i.most i.failures c.read.new.to (search rules) c.in-Ok.count c.in-Ok.ensures
          (search rules) _ (search rules);
      most = search rules;
      piece = search rules;
      failures = search rules;
    }

pub returns-in_default-clause-reads : goal.returns-in_default-clause-reads
returns-in_default-clause-reads g c =
    let i = c.loop-count.invariant in
    whole-failed _ _ _ _ i.given i.most i.failures c.read.new.to (search rules) _ c.in_default.ensures

pub returns-then-count-eq0-clause-reads : goal.returns-then-count-eq0-clause-reads
returns-then-count-eq0-clause-reads g c =
    let i = c.loop-count.invariant in
    whole-ended _ _ _ _ i.given i.most i.failures c.read.new.to (search rules) c.in-Ok.count c.in-Ok.ensures
    (search rules)

pub returns-then-len-count-gt-WHOLE_LIMIT-clause-reads : goal.returns-then-len-count-gt-WHOLE_LIMIT-clause-reads
returns-then-len-count-gt-WHOLE_LIMIT-clause-reads g c =
    let i = c.loop-count.invariant in
    whole-too_long _ _ _ _ i.given i.most i.failures c.read.new.to (search rules) c.in-Ok.count c.in-Ok.ensures
    (omega (arith, c.len.ensures, c.if-len-count-gt-WHOLE_LIMIT.true))

pub returns-then-is_err-clause-reads : goal.returns-then-is_err-clause-reads
returns-then-is_err-clause-reads g c =
    let i = c.loop-count.invariant in
    whole-no_memory _ _ _ _ i.given i.most i.failures c.read.new.to (search rules) c.in-Ok.count c.in-Ok.ensures
    (search rules) (omega (arith, c.len.ensures, c.if-len-count-gt-WHOLE_LIMIT.false))
