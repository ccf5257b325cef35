use Rattle.std.proofs.lemmas.Grind.{common_steps}
use Rattle.std.proofs.Common.{rules, ◌∷◌, [], get_or, arith}
use Rattle.tlv_head.specs.HeaderSoFar.{CarriesNumber}
use Rattle.tlv_head.proofs.ReaderLemmas.ShortPrefixes.{always-unfinished, goes-on, leads-on, no-other, no-third}
use Rattle.tlv_head.proofs.ReaderLemmas.ShortPrefixes.{still-high, IsUnended}
use Rattle.tlv_head.proofs.header_at_once.short_identifier.Goals as goal

pub returns-in_default : goal.returns-in_default
returns-in_default c =
    absurd (leads-on c.first_identifier.result _ c.first_identifier.ensures c.in_default.not-Identifier
    c.in_default.not-Number)

pub returns-in_default-next_number : goal.returns-in_default-next_number
returns-in_default-next_number c =
    let xs = c.args.octets.now in
    absurd (no-other c.next_number.result c.in_default-next_number.field-0 c.in-Number.identifier (get_or xs 0 0 ∷ [])
    (get_or xs 1 0) c.in-Number.ensures
    (c.next_number.ensures _ c.in-Number.ensures) c.in_default-next_number.is (search rules) (search rules))

pub returns-in_default-next_number-3 : goal.returns-in_default-next_number-3
returns-in_default-next_number-3 c =
    absurd (always-unfinished c.next_number.result c.in-Number.identifier _ _ c.in-Number.ensures (omega arith)
    (c.next_number.ensures _ c.in-Number.ensures) (search rules))

pub returns-in_default-next_number-2 : goal.returns-in_default-next_number-2
returns-in_default-next_number-2 c =
    let xs = c.args.octets.now in
    let high : CarriesNumber c.in-Unfinished-Number.higher (get_or xs 0 0 ∷ get_or xs 1 0 ∷ []) =
    still-high c.next_number.result c.in-Unfinished-Number.field-0 c.in-Unfinished-Number.higher (get_or xs 0 0 ∷ [])
    (get_or xs 1 0)
    (c.next_number.ensures _ c.in-Number.ensures) c.in-Unfinished-Number.is c.in-Unfinished-Number.field-0-is in
    let higher : IsUnended (get_or xs 0 0 ∷ get_or xs 1 0 ∷ get_or xs 2 0 ∷ []) =
    goes-on c.next_number-in-Unfinished-Number.result c.in_default-next_number-2.field-0 c.in-Unfinished-Number.higher
    (get_or xs 0 0 ∷ get_or xs 1 0 ∷ []) (get_or xs 2 0)
    high (c.next_number-in-Unfinished-Number.ensures _ high) c.in_default-next_number-2.is (search rules) in
    no-third xs higher.0 higher.1 (omega arith)

pub returns-in_default-next_number-2-2 : goal.returns-in_default-next_number-2-2
returns-in_default-next_number-2-2 c =
    let xs = c.args.octets.now in
    let high : CarriesNumber c.in-Unfinished-Number.higher (get_or xs 0 0 ∷ get_or xs 1 0 ∷ []) =
    still-high c.next_number.result c.in-Unfinished-Number.field-0 c.in-Unfinished-Number.higher (get_or xs 0 0 ∷ [])
    (get_or xs 1 0)
    (c.next_number.ensures _ c.in-Number.ensures) c.in-Unfinished-Number.is c.in-Unfinished-Number.field-0-is in
    absurd (always-unfinished c.next_number-in-Unfinished-Number.result c.in-Unfinished-Number.higher _ _ high
    (omega arith)
    (c.next_number-in-Unfinished-Number.ensures _ high) (search rules))

pub returns-then-octets-lt3 : goal.returns-then-octets-lt3
returns-then-octets-lt3 c = grind (arith, common_steps)
