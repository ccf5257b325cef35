use Rattle.std.proofs.Common.{◌∙◌, arith, refl}
use Rattle.tlv_value.proofs.NamesLemmas.Tables.{among-texts, length-texts, put-entry, one-longer}
use Rattle.tlv_value.proofs.names.table.add.Goals as goal

pub returns-then-contains_key : goal.returns-then-contains_key
returns-then-contains_key g c = (
  among-texts c.args.dotted.now c.args.table.now c.contains_key.result c.contains_key.ensures
      ∙ c.if-contains_key.true,
  refl,
)

pub returns-then-len-ge-ENTRY_LIMIT : goal.returns-then-len-ge-ENTRY_LIMIT
returns-then-len-ge-ENTRY_LIMIT g c = (
  among-texts c.args.dotted.now c.args.table.now c.contains_key.result c.contains_key.ensures ∙ c.if-contains_key.false,
  omega (arith, length-texts c.args.table.now, c.len.ensures.len),
)

pub returns-in-Ok-insert : goal.returns-in-Ok-insert
returns-in-Ok-insert g c = (
  among-texts c.args.dotted.now c.args.table.now c.contains_key.result c.contains_key.ensures ∙ c.if-contains_key.false,
  omega (arith, length-texts c.args.table.now, c.len.ensures.len),
  put-entry c.in-Ok.key c.in-Ok-from_slice.value c.args.table.now c.insert.new.self c.args.dotted.now c.args.name.now
      c.in-Ok-insert.ensures.updates c.in-Ok.ensures.ok c.in-Ok-from_slice.ensures.items,
  one-longer c.in-Ok.key c.args.table.now c.insert.new.self c.args.dotted.now c.in-Ok-insert.field-0
      c.contains_key.result c.in-Ok-insert.ensures.old c.in-Ok-insert.ensures.len c.in-Ok.ensures.ok
      c.contains_key.ensures c.if-contains_key.false,
)
