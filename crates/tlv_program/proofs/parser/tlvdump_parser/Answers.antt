use Rattle.tlv_program.specs.CommandLine.{tlvdump_app}
use Rattle.tlv_program.proofs.parser.tlvdump_parser.Goals as goal

pub returns : goal.returns
unfolding tlvdump_app
returns c =
    let with_dump = c.in_ok-parser-2.ensures _ _ c.in_ok-parser.ensures c.dump_parser.ensures in
    let with_check = c.in_ok-parser-3.ensures _ _ with_dump c.check_parser.ensures in
    let with_extract = c.in_ok-parser-4.ensures _ _ with_check c.extract_parser.ensures in
    c.with_command-4.ensures _ _ with_extract c.indef_parser.ensures
