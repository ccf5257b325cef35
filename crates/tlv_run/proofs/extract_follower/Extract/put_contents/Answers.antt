use Rattle.std.proofs.Common.{sym, ap, ◌∙◌}
use Rattle.tlv_run.specs.ExtractStep.{ExtractState}
use Rattle.tlv_run.proofs.ExtractLemmas.Contents.{puts_none, puts_contents}
use Rattle.tlv_run.proofs.extract_follower.Extract.put_contents.Goals as goal

pub returns-in-Within : goal.returns-in-Within
returns-in-Within g c =
    let is = ap (λ (s : ExtractState). s.position) (sym c.self.view_is) ∙ c.in-Within.is in
    puts_contents _ _ _ is g.D.Drain.state _ _ _ c.put.ensures.puts

pub returns-in_default : goal.returns-in_default
returns-in_default g c =
    puts_none c.args.self.now c.self.inside.position c.args.octets.now g.D.Drain.state _
    (ap (λ (s : ExtractState). s.position) (sym c.self.view_is)) c.in_default.not-Within
