use Rattle.std.proofs.Common.{◌≡◌, ◌∙◌, ◌<◌, ℕ, Bool, List, ◌&&◌, map, get_or, bit_or, nat_eq, leb, refl, sym, ap, arith}
use Rattle.std.specs.Prelude.{◌||◌, false}
use Rattle.std.specs.List.{range_with_len}
use Rattle.std.proofs.lemmas.List.FromFn.{get_or-map-range_with_len}
use Rattle.tlv_value.specs.Checks.{is_printable_string_octet}
use Rattle.tlv_value.proofs.value_check.characters.is_printable_string_octet.Goals as goal

-- what the code compares
abbrev is_compared : ℕ → Bool
is_compared x =
    (((((leb 97 (bit_or x 32) && leb (bit_or x 32) 122)
    || (leb 43 x && leb x 58))
    || (leb 39 x && leb x 41))
    || nat_eq x 32)
    || nat_eq x 61)
    || nat_eq x 63

-- it says what the definition says: both are computed for each octet
table : map is_compared (range_with_len 0 256) ≡ map is_printable_string_octet (range_with_len 0 256)
table = refl

pub returns : goal.returns
returns c =
    let x : ℕ = c.args.octet in
    let small : x < 256 = omega arith in
    sym (get_or-map-range_with_len is_compared 0 256 x x false small (omega arith))
    ∙ ap (λ (flags : List Bool). get_or flags x false) table
    ∙ get_or-map-range_with_len is_printable_string_octet 0 256 x x false small (omega arith)
