use Rattle.std.proofs.Common.{rules, take, sym, subst}
use Rattle.tlv_walk.specs.WalkerState.{WalkerState}
use Rattle.tlv_walk.specs.Private.WalkerCalls.{CanPass}
use Rattle.tlv_walk.proofs.WalkerLemmas.Passing.{yields_primitive}
use Rattle.tlv_walk.proofs.walker.Walker.pass.Goals as goal

pub returns-clause-yields : goal.returns-clause-yields
returns-clause-yields c =
    let can =
    subst (λ (m : WalkerState). CanPass m c.args.piece.now.now c.args.primitive.now) (sym c.self.view_is)
    c.requires.can in
    record {
      taken = take c.args.primitive.now.octet_count c.args.piece.now.now;
      piece_is = search rules;
      continues = rw (← c.self.view_is) (yields_primitive _ c.args.piece.now.now c.args.primitive.now _ can);
    }
