-- Offsets with commas between them.
use Rattle.std.proofs.Common.{◌≡◌, ◌∙◌, ◌+◌, ◌-◌, ◌≤◌, ◌<◌, ◌==◌, ℕ, suc, true, false, List, [], ◌∷◌, ◌++◌}
use Rattle.std.proofs.Common.{Option, Some, None, IfSome, IfNone, length, refl, ap, arith, not, option_map}
use Rattle.std.proofs.Common.{option_and_then, cond, drop, take}
use Rattle.std.specs.Option.{option_map_or}
use Rattle.std.specs.List.{onto_first, position_or_len}
use Rattle.std.proofs.lemmas.List.{append-nil, length-drop, take_all}
use Rattle.std.proofs.lemmas.List.Splits.{slice_split_first}
use Rattle.clap.specs.Words.{Text}
use Rattle.tlv_walk.specs.Inside.{can_name}
use Rattle.tlv_program.specs.Values.{comma_parts, nameable_offsets, part_offsets}

-- ---- parts

-- a text without a comma is the one part
pub one_part : (xs : Text) → length xs ≤ position_or_len (λ x. x == 44) xs → comma_parts xs ≡ xs ∷ []
one_part [] h = refl
one_part (x ∷ xs) h =
    elim (x == 44) as (λ b. suc (length xs) ≤ cond (not b) (1 + position_or_len (λ x. x == 44) xs) 0
    → cond b ([] ∷ comma_parts xs) (onto_first x (comma_parts xs)) ≡ (x ∷ xs) ∷ []) [
      | true ↦ λ g. absurd (omega arith)
      | false ↦ λ g. ap (onto_first x) (one_part xs (omega arith))
    ] h

-- the part before the first comma, and the parts after it
pub parts_at_comma : (xs : Text) (n : ℕ) → n ≡ position_or_len (λ x. x == 44) xs → n < length xs
    → comma_parts xs ≡ take n xs ∷ comma_parts (take (length xs - (n + 1)) (drop (n + 1) xs))
parts_at_comma xs n e h =
    let h' : position_or_len (λ x. x == 44) xs < length xs = rw (← e) h in
    let all : take (length xs - (n + 1)) (drop (n + 1) xs) ≡ drop (n + 1) xs =
    take_all _ _ (omega (arith, length-drop (n + 1) xs)) in
    rw (all, e) (slice_split_first (λ x. x == 44) xs 0 h')

-- what `Inside::new` makes of offsets
pub inside_offsets : (r : Option (List ℕ)) (ns : List ℕ) → IfSome r (λ offsets. offsets ≡ ns)
    → IfSome r (λ offsets. can_name ns ≡ true) → IfNone r (can_name ns ≡ false) → r ≡ nameable_offsets ns
inside_offsets None ns same can cannot = rw cannot refl
inside_offsets (Some offsets) ns same can cannot = rw can (ap Some same)

-- ---- the loop

-- the offsets that are read, with those that follow
abbrev pub with_next : List ℕ → Option (List ℕ) → Option (List ℕ)
with_next ns = option_map (λ next. ns ++ next)

-- the offsets in the rest of the text
abbrev pub rest_offsets : Option Text → Option (List ℕ)
rest_offsets rest = option_map_or (λ text. part_offsets (comma_parts text)) rest (Some [])

-- no part is left
pub last_part : (all : Option (List ℕ)) (ns : List ℕ) (rest : Option Text) → rest ≡ None
    → all ≡ with_next ns (rest_offsets rest) → nameable_offsets ns ≡ option_and_then nameable_offsets all
last_part all ns rest none e =
    let whole : all ≡ Some ns = e ∙ rw none (ap Some (append-nil ns)) in rw whole refl
