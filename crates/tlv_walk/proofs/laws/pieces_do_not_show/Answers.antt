use Rattle.tlv_walk.proofs.FollowerLemmas.FollowedEvents.{followed-alike}
use Rattle.tlv_walk.proofs.laws.pieces_do_not_show.Goals as goal

pub returns : goal.returns
returns g c =
    let law = g.met.F.Follow in
    followed-alike g.F.Follow.next law.bytes_join law.bytes_empty law.bytes_go_on law.pad_join law.pad_empty
    law.pad_go_on
