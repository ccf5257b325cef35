-- What the fields of a `ValueCheck` say.
use Rattle.std.specs.Prelude.{◌<◌, ◌≤◌, ◌∷◌, [], length, take}
use Rattle.tlv_value.specs.declared.value_check.ValueCheck.TheInside.{Inside}
use Rattle.tlv_head.specs.declared.kind.Kind.TheVariants.{Utf8}
use Rattle.tlv_value.specs.ValueCheckState.{ValueCheckState}
use Rattle.tlv_value.specs.RowSizes.{IsOpenRow}
use Rattle.tlv_value.specs.UnitsSoFar.{character_size}

abbrev pub value_check_state_of : Inside → ValueCheckState
value_check_state_of t = record {
  number = t.number;
  size = t.size;
  left = t.left;
  first_octets = take t.known (t.first ∷ t.second ∷ []);
  last = t.last;
  are_octets_allowed = t.are_octets_allowed;
  is_padded = t.is_padded;
  are_full_rows_utf8 = t.are_full_rows_utf8;
  row = t.row.items;
  has_empty_label = t.has_empty_label;
  time = t.time.items;
  are_characters = t.are_characters;
  unit = t.unit.items;
  real = t.real;
}

-- the row that is kept is an open row of UTF-8, at most two first octets are known, the last one is below 256, and the
-- unit that is kept is not whole
pub record ValueCheckFieldsAgree (t : Inside) : Type 0 where
  pub is_open : IsOpenRow Utf8 t.row.items
  pub last : t.last < 256
  pub known : t.known ≤ 2
  pub unit : length t.unit.items < character_size t.number
