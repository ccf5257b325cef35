use Rattle.std.proofs.Common.{◌≡◌, ◌∙◌, ◌<◌, ◌≤◌, ℕ, ◌+◌, ◌/◌, ◌%◌, List, [], ◌∷◌, Bool}
use Rattle.std.proofs.Common.{decimal, map, get_or, nat_lt, refl, sym, ap, arith, ⊎_elim, lt-ltb, le-ltb}
use Rattle.std.specs.List.{range_with_len}
use Rattle.std.specs.Prelude.{if◌then◌else◌}
use Rattle.std.proofs.lemmas.Bool.{cases_lt}
use Rattle.std.proofs.lemmas.Fmt.{decimal_digit}
use Rattle.std.proofs.lemmas.List.FromFn.{get_or-map-range_with_len}
use Rattle.itoa.proofs.Decimal.{decimal_two}
use Rattle.tlv_io.specs.LineTexts.{at_right}
use Rattle.tlv_io.specs.declared.held_octets.numbers.TheConstants.{TWO_PLACES}
use Rattle.tlv_io.proofs.held_octets.numbers.in_two_places.Goals as goal

-- the digits of a number below 100
abbrev places : ℕ → List ℕ
places n = if nat_lt n 10 then 32 ∷ (48 + n) ∷ [] else (48 + n / 10) ∷ (48 + n % 10) ∷ []

-- the table has them: both are computed for each number
table : TWO_PLACES ≡ map places (range_with_len 0 100)
table = refl

at : (n : ℕ) → n < 100 → get_or TWO_PLACES n [] ≡ places n
at n h =
    ap (λ (texts : List (List ℕ)). get_or texts n []) table
    ∙ get_or-map-range_with_len places 0 100 n n [] h (omega arith)

same : (n : ℕ) → n < 100 → places n ≡ at_right 2 (decimal n)
same n h = ⊎_elim
    (λ (low : n < 10).
    ap (λ (b : Bool). if b then 32 ∷ (48 + n) ∷ [] else (48 + n / 10) ∷ (48 + n % 10) ∷ []) (lt-ltb n 10 low)
    ∙ ap (at_right 2) (sym (decimal_digit n low)))
    (λ (high : 10 ≤ n).
    ap (λ (b : Bool). if b then 32 ∷ (48 + n) ∷ [] else (48 + n / 10) ∷ (48 + n % 10) ∷ []) (le-ltb n 10 high)
    ∙ ap (at_right 2) (sym (decimal_two n high h)))
    (cases_lt n 10)

pub returns : goal.returns
returns c = at c.args.number c.requires ∙ same c.args.number c.requires
