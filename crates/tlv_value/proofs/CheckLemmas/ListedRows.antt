-- The listed findings on contents are all findings on them, without those that are not listed.
use Rattle.std.proofs.Common.{◌≡◌, ℕ, Bool, true, false, if◌then◌else◌, List, [], ◌∷◌, refl, ap}
use Rattle.std.specs.List.{filter}
use Rattle.tlv_head.specs.Header.{is_universal}
use Rattle.tlv_value.specs.declared.finding.Finding.{Finding}
use Rattle.tlv_value.specs.AllChecks.{is_listed, type_conditions}
use Rattle.tlv_value.specs.CheckLaws.{ListedFindingsStay}
use Rattle.tlv_value.specs.Checks.{findings_by, listed_type_conditions}

-- the rows whose findings are kept
abbrev pub kept_rows : (Finding → Bool) → List (Finding × Bool) → List (Finding × Bool)
kept_rows keeps rows = filter (λ row. keeps row.0) rows

-- of the findings by conditions those are kept that the kept rows have
pub kept-found : (keeps : Finding → Bool) (rows : List (Finding × Bool))
    → filter keeps (findings_by rows) ≡ findings_by (kept_rows keeps rows)
kept-found keeps [] = refl
kept-found keeps (row ∷ rows) = by row.1 (keeps row.0) refl (kept-found keeps rows)
  where
    by : (there kept : Bool) → keeps row.0 ≡ kept
        → filter keeps (findings_by rows) ≡ findings_by (kept_rows keeps rows)
        → filter keeps (findings_by ((row.0, there) ∷ rows)) ≡ findings_by (kept_rows keeps ((row.0, there) ∷ rows))
    by true true e h = rw e (ap (λ (l : List Finding). row.0 ∷ l) h)
    by true false e h = rw e h
    by false true e h = rw e h
    by false false e h = rw e h

listed-class : (universal : Bool) (number : ℕ) (c : List ℕ)
    → filter is_listed (findings_by (if universal then type_conditions number c else []))
    ≡ findings_by (if universal then listed_type_conditions number c else [])
listed-class true number c = kept-found is_listed (type_conditions number c)
listed-class false number c = refl

pub listed-stay : ListedFindingsStay
listed-stay h octets = listed-class (is_universal h.class) h.number octets
