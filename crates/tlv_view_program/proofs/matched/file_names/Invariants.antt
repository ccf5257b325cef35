use Rattle.std.proofs.Common.{◌≡◌, map, take}
use Rattle.tlv_view_program.proofs.matched.file_names.Given as goal

abbrev pub invariant-loop-name : goal.invariant-loop-name
invariant-loop-name l = l.files ≡ map (λ name. name.now) (take l.name-index l.names)
