-- What the fields of a `ValueText` say.
use Rattle.std.specs.Prelude.{◌≡◌, ◌+◌, ◌≤◌, true, false, length, []}
use Rattle.tlv_head.specs.declared.kind.Kind.TheVariants.{Bits}
use Rattle.tlv_value.specs.declared.value_text.ValueText.TheInside.{Inside}
use Rattle.tlv_value.specs.RowSizes.{IsOpenRow}
use Rattle.tlv_value.specs.ValueTextState.{ValueTextState, is_long_primitive}

abbrev pub value_text_state_of : Inside → ValueTextState
value_text_state_of t = record {
  primitive = t.primitive;
  left = t.left;
  kept = record { has_put_line = t.has_put_line; row_count = t.row_count; row = t.row.items };
}

pub record ValueTextFieldsAgree (t : Inside) : Type 0 where
  pub counted : t.row_count + length t.row.items + t.left ≤ t.primitive.size
  -- for a long value, the row that has begun
  pub is_open : is_long_primitive t.primitive ≡ true
      → IsOpenRow t.primitive.kind t.row.items
  -- for any other value, all octets that have come
  pub kept : is_long_primitive t.primitive ≡ false
      → length t.row.items + t.left ≡ t.primitive.size
  -- before the first octet of a long BIT STRING
  pub before_line : is_long_primitive t.primitive ≡ true → t.has_put_line ≡ false
      → (t.primitive.kind ≡ Bits) × (t.row.items ≡ []) × (t.row_count ≡ 0)
