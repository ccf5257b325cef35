use Rattle.std.proofs.Common.{◌≡◌, ◌-◌, ◌∙◌, ℕ, ap, arith, drop, length, take}
use Rattle.tlv_value.proofs.Wordings.{code_size, text_at_end}
use Rattle.tlv_value.proofs.finding.Finding.text_block.Goals as goal

pub returns-clause-text : goal.returns-clause-text
returns-clause-text c =
    let block = c.line_block-count.ensures in
    let line = c.line_block-count.result.0.now in
    let size = c.line_block-count.result.1 - 4 in
    let start : length line - 44 ≡ 4 = omega arith in
    ap (take size) c.in-Some.ensures.cases.1.same
    ∙ ap (λ (n : ℕ). take size (drop n line)) start
    ∙ text_at_end _ _ _ _ (code_size c.args.self) block.count.0 block.line
