use Rattle.std.proofs.Common.{rules}
use Rattle.tlv_program.proofs.Replaced.{of_text, replaces_calls, text_at_ok}
use Rattle.tlv_program.proofs.printable.PrintableDisplay.fmt.Goals as goal

pub returns-clause-writes : goal.returns-clause-writes
returns-clause-writes g c =
    of_text _ _
    (λ octets known plain ok.
    let (same, written) = replaces_calls g.W.Write.write_str_gives (λ s. s.to) _ octets _ (search rules) (known ok) in
    search rules)
    (g.T.Display.output c.args.self.now.text.now) (text_at_ok c.write.result _ _ c.write.ensures.writes)
