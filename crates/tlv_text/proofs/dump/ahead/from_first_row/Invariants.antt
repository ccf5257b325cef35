use Rattle.std.proofs.Common.{◌≡◌, length}
use Rattle.tlv_text.specs.Dump.{dump_in, is_octal_first}
use Rattle.tlv_text.specs.DumpLines.{dump_lines}
use Rattle.tlv_text.specs.declared.dump.lines.Radix.TheVariants.{Hexadecimal}
use Rattle.tlv_text.proofs.dump.ahead.from_first_row.Given as goal

abbrev pub invariant-loop-line : goal.invariant-loop-line
invariant-loop-line l = record {
  read : dump_in Hexadecimal l.rest ≡ dump_in Hexadecimal l.text;
  octal : is_octal_first (dump_lines l.rest) ≡ is_octal_first (dump_lines l.text);
}

abbrev pub decreases-loop-line : goal.decreases-loop-line
decreases-loop-line l = length l.rest
