use Rattle.std.proofs.Common.{rules}
use Rattle.tlv_show.proofs.FindingLemmas.UsualHeaders.{none-by_ber}
use Rattle.tlv_show.proofs.header_findings.has_no_header_findings_if_usual.Goals as goal

pub returns-in-Ber-clause-no_findings : goal.returns-in-Ber-clause-no_findings
returns-in-Ber-clause-no_findings c shown usual =
    let usual_frame = c.is_frame_usual.ensures in
    let usual_tag = c.is_tag_usual.ensures in
    rw c.in-Ber.is
    (none-by_ber c.args.frame.now c.args.header.now (usual_frame.no_segments (search rules))
    (usual_frame.no_components (search rules)) (usual_tag.needed (search rules))
    (usual_tag.shortest (search rules)) usual)
