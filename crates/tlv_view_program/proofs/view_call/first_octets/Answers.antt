use Rattle.tlv_view_program.proofs.FirstOctets.{first-of-view}
use Rattle.tlv_view_program.proofs.view_call.first_octets.Goals as goal

pub returns : goal.returns
returns g c =
    first-of-view c.args.rules _ c.args.closed c.args.padding c.args.octets.now c.type_inv.octets c.requires 1024 _ _
    c.new-drain.ensures c.into_octets.result c.into_octets.ensures.octets_are c.into_octets.ensures.short
    c.into_octets.ensures.full_if_failed _ c.in_ok-_viewed.ensures.views
