-- The line that is written for a broken string.
use Rattle.std.specs.Prelude.{ℕ, List, ◌++◌, codes, decimal}
use Rattle.tlv_head.specs.Fault.{fault_code, fault_text}
use Rattle.tlv_open.specs.declared.strings.BrokenString.{BrokenString}
use Rattle.tlv_open.specs.declared.strings.Suspicion.{Suspicion}
use Rattle.tlv_open.specs.declared.strings.Suspicion.TheVariants.{Extension, Sequence, Set}

-- why it looks like encodings
abbrev pub suspicion_text : Suspicion → List ℕ
suspicion_text Sequence = codes "begins as a SEQUENCE of its size"
suspicion_text Set = codes "begins as a SET of its size"
suspicion_text Extension = codes "is the value of an extension"

abbrev pub broken_line : BrokenString → List ℕ
broken_line s =
    codes "string at " ++ decimal s.offset ++ codes " " ++ suspicion_text s.reason ++ codes " and breaks at "
    ++ decimal s.fault.offset ++ codes ": " ++ fault_code s.fault.code ++ codes " " ++ fault_text s.fault.code
