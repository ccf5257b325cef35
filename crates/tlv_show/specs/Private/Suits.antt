-- What each kind of finder may be asked for.
use Rattle.std.specs.Prelude.{◌≡◌, ◌≢◌, ℕ, false}
use Rattle.tlv_show.specs.declared.wanted.Wanted.{Wanted}
use Rattle.tlv_show.specs.ShownFindings.{wants_characters, wants_order}

-- the order of SETs is wanted only if the frames of 128 open SETs are tracked, and the characters of segments only if
-- anything is tracked. Most proofs need not look into it, and a search that does so takes long
unfoldable pub Suits : ℕ → Wanted → Type 0
Suits tracked wanted =
    (tracked ≢ 128 → wants_order wanted ≡ false)
    × (tracked ≡ 0 → wants_characters wanted ≡ false)
