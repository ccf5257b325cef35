use Rattle.std.proofs.Common.{arith, rules}
use Rattle.std.proofs.lemmas.Bool.Decides.{nat_tests}
use Rattle.tlv_value.specs.ValueCheckFields.{value_check_state_of}
use Rattle.tlv_value.proofs.CheckLemmas.EachNoted.{characters-noted, object-noted, text-noted}
use Rattle.tlv_value.proofs.value_check.ValueCheck.note_each.Goals.{in-6, in-12, in_default}
use Rattle.tlv_value.proofs.value_check.ValueCheck.note_each.Goals as goal

pub returns : goal.returns
returns c = elim c.match-self.branch [
  | in-6 w ↦
      rw (← c.self.view_is, c.last_octet-self-inside.ensures, w.self-inside-is, w.is_padded_with-self-inside.ensures)
      (object-noted (value_check_state_of c.self.inside) c.args.octets.now (grind (arith, nat_tests)))
  | in-12 w ↦
      rw (
        ← c.self.view_is,
        c.last_octet-self-inside.ensures,
        w.self-inside-is,
        w.both-self-inside.ensures,
        w.take_rows.ensures.utf8,
        w.take_rows.ensures.row,
      )
      (text-noted (value_check_state_of c.self.inside) c.args.octets.now (search rules))
  | in_default w ↦
      rw (
        ← c.self.view_is,
        c.last_octet-self-inside.ensures,
        w.self-inside-is,
        w.both-self-inside-in_default.ensures,
        w.are_allowed.ensures,
      )
      (characters-noted (value_check_state_of c.self.inside) c.args.octets.now (grind (arith, nat_tests))
      (grind (arith, nat_tests)))
]
