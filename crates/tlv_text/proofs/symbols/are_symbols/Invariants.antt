use Rattle.std.proofs.Common.{◌≡◌, ◌&&◌, drop}
use Rattle.std.specs.List.{list_all}
use Rattle.tlv_text.specs.Base64.{is_symbol}
use Rattle.tlv_text.proofs.symbols.are_symbols.Given as goal

abbrev pub invariant-loop-character : goal.invariant-loop-character
invariant-loop-character l =
    (l.all && list_all (is_symbol l.alphabet) (drop l.character-index l.text))
    ≡ list_all (is_symbol l.alphabet) l.text
