use Rattle.std.proofs.Common.{◌≡◌, ◌+◌, drop}
use Rattle.tlv_text.specs.Blocks.{line_feeds}
use Rattle.tlv_text.proofs.blocks.lines.few_line_feeds.Given as goal

abbrev pub invariant-loop-character : goal.invariant-loop-character
invariant-loop-character l = l.count + line_feeds (drop l.character-index l.text) ≡ line_feeds l.text
