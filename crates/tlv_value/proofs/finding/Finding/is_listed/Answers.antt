use Rattle.std.proofs.Common.{◌∙◌, ap, not, sym}
use Rattle.tlv_value.proofs.CheckLemmas.ListedFindings.{listed, unlisted}
use Rattle.tlv_value.proofs.finding.Finding.is_listed.Goals as goal
use Rattle.tlv_value.proofs.finding.Finding.is_listed.Goals.{in-B20, in_default}

pub returns : goal.returns
returns c = elim c.match-matches.branch [
  | in-B20 w ↦ ap not w.matches-is ∙ sym (unlisted _ w.in-B20.is)
  | in_default w ↦
      let none = w.in_default in
      ap not w.matches-is
      ∙ sym (listed _ none.not-B20 none.not-B21 none.not-B22 none.not-B23 none.not-B24 none.not-B25 none.not-B26
      none.not-B27 none.not-B28 none.not-B29 none.not-B30 none.not-S05 none.not-S06)
]
