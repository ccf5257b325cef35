use Rattle.tlv_text.proofs.DumpPairLemmas.{first-pair_whole}
use Rattle.tlv_text.specs.Private.PairSteps.{AreWholePairs}
use Rattle.std.proofs.Common.{subst, sym, rules, ◌≡◌, take}
use Rattle.tlv_text.proofs.dump.pairs.take_first.Goals as goal

pub returns-clause-whole : goal.returns-clause-whole
returns-clause-whole c =
    let pair : c.try_extend_from_slice.new.self.items ≡ take 2 c.args.rest.now.now = search rules in
    subst AreWholePairs (sym pair) (first-pair_whole c.args.rest.now.now c.requires.pair)
