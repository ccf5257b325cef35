use Rattle.std.proofs.Common.{◌≡◌, ◌<◌, ◌^◌, List, ℕ, ◌++◌, ◌∷◌, drop, [], true}
use Rattle.tlv_value.proofs.TextLemmas.Arcs.{HasRoom, arcs_run}
use Rattle.tlv_value.proofs.dotted_texts.write_short.Given as goal

abbrev pub invariant-loop-octet : goal.invariant-loop-octet
invariant-loop-octet l =
    (text : List ℕ) × (l.held ≡ l.fn.held ++ 32 ∷ text) × HasRoom text l.first l.number l.octet-index
    × (arcs_run text l.first l.relative l.number (drop l.octet-index l.contents)
    ≡ arcs_run [] true l.relative 0 l.contents)
    × (l.number < 128 ^ l.octet-index)
