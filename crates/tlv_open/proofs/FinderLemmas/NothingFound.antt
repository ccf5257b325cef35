-- Where nothing is found.
use Rattle.std.proofs.Common.{[]}
use Rattle.tlv_open.specs.Private.Finds.{FoundStrings}

abbrev pub nothing_found : FoundStrings
nothing_found = record { opened = []; broken = [] }
