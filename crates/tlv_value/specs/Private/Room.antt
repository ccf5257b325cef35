-- Octets that fit into a row.
use Rattle.std.specs.Prelude.{◌≡◌, ℕ, ◌+◌, ◌<◌, true, List, slice_index}
use Rattle.tlv_head.specs.declared.kind.Kind.{Kind}
use Rattle.tlv_value.specs.RowSizes.{has_room}

-- the first n of the octets have room after `begun` others
abbrev pub HaveRoom : Kind → ℕ → List ℕ → ℕ → Type 0
HaveRoom kind begun octets n =
    (i : ℕ) → i < n → has_room kind (begun + i) (slice_index octets i) ≡ true
