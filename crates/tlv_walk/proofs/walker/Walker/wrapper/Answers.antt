use Rattle.std.proofs.Common.{◌+◌, [], ◌∷◌, length, true, subst, rules}
use Rattle.tlv_head.specs.HeaderFields.{new_header}
use Rattle.tlv_head.specs.ReadHeader.{BeginsWithFields}
use Rattle.tlv_walk.specs.declared.walker.headers.HeaderKind.{HeaderKind}
use Rattle.tlv_walk.specs.Private.WalkerCalls.{TakesHeader}
use Rattle.tlv_walk.specs.Private.Yields.{Continues}
use Rattle.tlv_walk.proofs.WalkerLemmas.HeaderKinds.{event_of, takes_at_once, wrapper_kind}
use Rattle.tlv_walk.proofs.walker.Walker.wrapper.Goals as goal

pub returns-clause-steps : goal.returns-clause-steps
returns-clause-steps c =
    let begins : BeginsWithFields c.args.piece.now.now c.args.self.now.offset true c.in_ok-fields.fields
    c.in_ok-fields.count =
    rw (← c.self.view_is) c.in_ok-fields.ensures.begins in
    let takes : TakesHeader c.args.self.now c.take_header.new.self c.in_ok-fields.fields
    (c.in_ok-fields.fields.offset + length c.split_at.result.0.now) c.take_header.result =
    rw (← c.self.view_is) c.take_header.ensures.takes in record {
      counts = search rules;
      yields = record {
        taken = c.split_at.result.0.now;
        piece_is = search rules;
        continues =
            (subst
            (λ (k : HeaderKind). Continues c.args.self.now c.take_header.new.self c.split_at.result.0.now
            (event_of k (new_header c.in_ok-fields.fields c.split_at.result.0.now) ∷ []))
            (wrapper_kind c.args.self.now c.take_header.new.self c.in_ok-fields.fields _ c.take_header.result
            (search rules) (search rules) takes)
            (takes_at_once c.args.self.now c.take_header.new.self c.args.piece.now.now true c.in_ok-fields.fields
            c.in_ok-fields.count c.split_at.result.0.now c.take_header.result
            (search rules) begins c.split_at.ensures.front (search rules) (search rules) (search rules)
            takes));
      };
    }
