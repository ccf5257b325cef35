use Rattle.std.proofs.Common.{rules, refl}
use Rattle.tlv_view_program.specs.InputBlocks.{opened, standard_input, unopened}
use Rattle.tlv_view_program.proofs.input_blocks.octets_of_file.Goals as goal

pub returns-in_default-clause-gets : goal.returns-in_default-clause-gets
returns-in_default-clause-gets g c =
    rw c.octets_read.ensures.had (standard_input _ (search rules) c.read_whole.ensures.reads refl)

pub returns-in-Ok-clause-gets : goal.returns-in-Ok-clause-gets
returns-in-Ok-clause-gets g c =
    rw c.octets_read-in-Ok.ensures.had
    (opened c.in-Some.name.now c.open.new.self (g.S.File.Source.state c.in-Ok.opened)
    (g.S.File.Source.state c.read_whole-octets.new.source) _ (search rules) c.in-Ok.ensures.opens
    c.in-Ok.ensures.unread c.read_whole-octets.ensures.reads c.close.ensures refl)

pub returns-in-Err-clause-gets : goal.returns-in-Err-clause-gets
returns-in-Err-clause-gets g c = unopened c.in-Some.name.now c.in-Err.why (search rules) c.in-Err.ensures.opens refl
