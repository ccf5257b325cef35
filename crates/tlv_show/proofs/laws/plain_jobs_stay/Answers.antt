use Rattle.tlv_value.proofs.TextLemmas.WithoutText.{incomplete-without, whole-without}
use Rattle.tlv_show.proofs.FindingLemmas.ListedTables.{checks-same, dumps-same, listed-contents}
use Rattle.tlv_show.proofs.laws.plain_jobs_stay.Goals as goal

pub returns : goal.returns
returns c = record {
  whole = whole-without;
  incomplete = incomplete-without;
  dumps = dumps-same;
  checks = checks-same;
  contents = λ rules s h c. listed-contents rules s h c;
}
