use Rattle.std.proofs.Common.{sym, arith}
use Rattle.tlv_value.proofs.NamesLemmas.Texts.{forty_of_two, forty_of_more, some_digit}
use Rattle.tlv_value.proofs.names.arcs.is_below_forty.Goals as goal

pub returns-in-2 : goal.returns-in-2
returns-in-2 c = forty_of_two c.args.arc.now c.requires (omega arith)

pub returns-in_default : goal.returns-in_default
returns-in_default c =
    sym (forty_of_more c.args.arc.now c.requires (omega (arith, some_digit c.args.arc.now c.requires)))
