use Rattle.std.proofs.Common.{◌≡◌, ℕ, ◌≤◌, Bool, true, List, length}
use Rattle.std.proofs.lemmas.Result.{IfOk-weaker}
use Rattle.tlv_head.specs.Limits.{input_limit}
use Rattle.tlv_walk.specs.Inside.{are_rising}
use Rattle.tlv_walk.specs.Reading.{AreOctets}
use Rattle.tlv_walk.proofs.GrammarLemmas.Readings.{is-reading, reading}
use Rattle.tlv_open.specs.Laws.{OpeningIsSafe, opened_framing}
use Rattle.tlv_open.specs.Opens.{AreOpened, closed_framing}
use Rattle.tlv_open.proofs.FinderLemmas.Inputs.{octets-fit}
use Rattle.tlv_view_program.proofs.view_call.strings_unless.Goals as goal

-- the offsets of the strings that are opened rise
rising : OpeningIsSafe → (padding : Bool) (octets offsets : List ℕ) → AreOctets octets → length octets ≤ input_limit
    → AreOpened padding octets offsets → are_rising 0 offsets ≡ true
rising safe padding octets offsets each short opens =
    (safe padding octets offsets (reading (closed_framing padding) octets)
    (reading (opened_framing padding offsets) octets) each short opens
    (is-reading (closed_framing padding) octets each) (is-reading (opened_framing padding offsets) octets each)).0

pub returns-clause-rising : goal.returns-clause-rising
returns-clause-rising c =
    IfOk-weaker c.strings_of.result _ _
    (λ strings opens.
    rising c.opening_is_safe.ensures c.args.padding c.args.octets.now strings.opened.items
    (octets-fit c.args.octets.now c.type_inv.octets) c.requires opens)
    c.strings_of.ensures.opened
