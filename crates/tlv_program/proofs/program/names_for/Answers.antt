use Rattle.std.proofs.Common.{rules, refl}
use Rattle.tlv_program.specs.RunsProgram.{not_asked, read, unopened}
use Rattle.tlv_program.proofs.program.names_for.Goals as goal

pub returns-in_default : goal.returns-in_default
returns-in_default g c = rw c.empty.ensures (not_asked (search rules) refl)

pub returns-in-Ok : goal.returns-in-Ok
returns-in-Ok g c =
    read c.in-Some.name.now c.«open».new.self (g.S.File.Source.state c.in-Ok.file) _ _ (search rules)
    c.in-Ok.ensures.opens c.in-Ok.ensures.unread (search rules) c.close.ensures

pub returns-in-Err : goal.returns-in-Err
returns-in-Err g c = unopened c.in-Some.name.now c.in-Err.field-0 (search rules) c.in-Err.ensures.opens
