use Rattle.std.proofs.Common.{◌≡◌, ◌<◌, ◌^◌, take, true}
use Rattle.std.specs.List.{list_all}
use Rattle.std.specs.Char.{is_ascii_digit}
use Rattle.std.specs.Str.Parse.{digits_value}
use Rattle.tlv_program.proofs.values.bounded_number.Given as goal

abbrev pub invariant-loop-octet : goal.invariant-loop-octet
invariant-loop-octet l = record {
  passed : list_all is_ascii_digit (take l.octet-index l.text) ≡ true;
  value : l.number ≡ digits_value 10 (take l.octet-index l.text);
  small : l.number < 10 ^ l.octet-index;
}
