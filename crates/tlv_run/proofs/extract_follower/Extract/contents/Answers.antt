use Rattle.std.proofs.Common.{rules, sym, ap}
use Rattle.tlv_walk.specs.Follow.{Effect}
use Rattle.tlv_walk.proofs.FollowerLemmas.FollowedEvents.{each_octet-goes_on}
use Rattle.tlv_run.specs.ExtractStep.{ExtractState, extract_octet_step}
use Rattle.tlv_run.proofs.ExtractLemmas.Contents.{all_contents}
use Rattle.tlv_run.proofs.extract_follower.Extract.contents.Goals as goal

pub returns : goal.returns
returns g c =
    let all = all_contents c.args.self.now c.args.octets.now in record {
      has = record { puts = search rules; state = sym (ap (λ (t : Effect ExtractState). t.state) all) };
      goes = sym (each_octet-goes_on extract_octet_step c.args.self.now c.args.octets.now);
    }
