-- How octets are cut into rows, as a condition on rows. It depends on the number of octets for which a row has room,
-- and on the number of octets to keep together from each octet on.
use Rattle.std.specs.Prelude.{◌≡◌, ◌≢◌, ◌⊎◌, ℕ, ◌+◌, ◌<◌, ◌≤◌, if◌then◌else◌, All, List, [], ◌∷◌, length}
use Rattle.std.specs.Prelude.{slice_index}
use Rattle.std.specs.List.{concat}
use Rattle.std.specs.Int.{is_in_range}

-- a last row, if it has octets
abbrev pub last_rows : List ℕ → List (List ℕ)
last_rows [] = []
last_rows (x ∷ xs) = (x ∷ xs) ∷ []

module _ (size : ℕ) (wanted : ℕ → ℕ) where
  -- for each octet of a row, the octets to keep together from it on fit into the row
  abbrev pub SplitsNone : List ℕ → Type 0
  SplitsNone row = (i : ℕ) → i < length row → i + wanted (slice_index row i) ≤ size

  -- a row has octets, no more than it has room for, and splits no octets that are to be kept together
  pub record IsRow (row : List ℕ) : Type 0 where
    pub some : row ≢ []
    pub short : length row ≤ size
    pub splits_none : SplitsNone row

  -- a row before another row has no room left, or no room for the octets to keep together from the other row's first
  -- octet on
  abbrev pub IsFull : List ℕ → List ℕ → Type 0
  IsFull row next = (length row ≡ size) ⊎ (size < length row + wanted (slice_index next 0))

  abbrev pub AreFull : List (List ℕ) → Type 0
  AreFull [] = Unit {0}
  AreFull (row ∷ []) = Unit {0}
  AreFull (row ∷ next ∷ rows) = IsFull row next × AreFull (next ∷ rows)

  -- the rows are a cut of the octets: the octets in order, each row valid, and each row but the last full
  pub record IsCut (octets : List ℕ) (rows : List (List ℕ)) : Type 0 where
    pub together : concat rows ≡ octets
    pub each : All IsRow rows
    pub full : AreFull rows

-- RFC 3629, 4: the number of octets of a UTF-8 character that begins with this octet; 1 if none does
abbrev pub utf8_length : ℕ → ℕ
utf8_length x =
    if is_in_range 0xc2 0xdf x then 2
    else if is_in_range 0xe0 0xef x then 3
    else if is_in_range 0xf0 0xf4 x then 4
    else 1
