use Rattle.std.proofs.Common.{rules, arith, refl}
use Rattle.tlv_io.proofs.Pieces.{no_pieces_so_far}
use Rattle.tlv_value.proofs.NamesLemmas.Reads.{given_more, gives_end, gives_failed, gives_long, gives_memory}
use Rattle.tlv_value.proofs.names.reading.read_octets.Goals as goal

pub loop-count-init : goal.loop-count-init
loop-count-init g c = record {
  given = record { gathered = no_pieces_so_far (g.S.Source.state c.args.source.now); are = search rules };
  most = search rules;
  piece = search rules;
  failures = refl;
}

pub loop-count-preserved : goal.loop-count-preserved
loop-count-preserved g c =
    let i = c.loop-count.invariant in
    record {
      given =
          given_more _ _ _ _ i.given i.most i.failures c.read.new.to (search rules) c.in-Ok.count c.in-Ok.ensures
          (search rules) _ (search rules);
      most = search rules;
      piece = search rules;
      failures = search rules;
    }

pub returns-in_default : goal.returns-in_default
returns-in_default g c =
    let i = c.loop-count.invariant in
    gives_failed _ _ _ _ i.given i.most i.failures c.read.new.to (search rules) _ c.in_default.ensures

pub returns-then-count-eq0 : goal.returns-then-count-eq0
returns-then-count-eq0 g c =
    let i = c.loop-count.invariant in
    gives_end _ _ _ _ i.given i.most i.failures c.read.new.to (search rules) c.in-Ok.count c.in-Ok.ensures
    (search rules) _ refl

pub returns-then-count-len : goal.returns-then-count-len
returns-then-count-len g c =
    let i = c.loop-count.invariant in
    gives_long _ _ _ _ i.given i.most i.failures c.read.new.to (search rules) c.in-Ok.count c.in-Ok.ensures
    (omega (arith, c.len.ensures, c.if-count-len.true))

pub returns-then-is_err : goal.returns-then-is_err
returns-then-is_err g c =
    let i = c.loop-count.invariant in
    gives_memory _ _ _ _ i.given i.most i.failures c.read.new.to (search rules) c.in-Ok.count c.in-Ok.ensures
    (omega (arith, c.len.ensures, c.if-count-len.false))
