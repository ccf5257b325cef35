use Rattle.std.proofs.Common.{◌≡◌, ◌+◌, length}
use Rattle.tlv_text.specs.Blocks.{line_feeds}
use Rattle.tlv_text.proofs.blocks.lines.line_feeds.Given as goal

abbrev pub invariant-loop-rest : goal.invariant-loop-rest
invariant-loop-rest l = l.count + line_feeds l.rest ≡ line_feeds l.text

abbrev pub decreases-loop-rest : goal.decreases-loop-rest
decreases-loop-rest l = length l.rest
