-- The contents of a REAL in pieces.
use Rattle.std.proofs.Common.{◌≡◌, ◌-◌, ◌≤◌, ◌&&◌, ◌==◌, ℕ, Bool, true, false, List, [], ◌∷◌, ◌++◌, length, take, drop}
use Rattle.std.proofs.Common.{get_or, refl, sym, ap, ◌∙◌, arith}
use Rattle.std.specs.List.{list_all}
use Rattle.std.proofs.Math.Bool.{and-true}
use Rattle.std.proofs.lemmas.List.{take_all}
use Rattle.tlv_value.specs.RealState.{real_check_after, real_check_next}
use Rattle.tlv_value.specs.ValueCheckState.{last_octet_after}
use Rattle.tlv_value.specs.declared.real.RealCheck.{RealCheck}
use Rattle.tlv_value.specs.declared.real.RealPart.TheVariants.{Mantissa}

and-assoc : (a b c : Bool) → ((a && b) && c) ≡ (a && (b && c))
and-assoc true b c = refl
and-assoc false b c = refl

-- two pieces, one after the other, have the effect of one
pub real-join : (s : RealCheck) (x y : List ℕ) → real_check_after (real_check_after s x) y ≡ real_check_after s (x ++ y)
real-join s [] y = refl
real-join s (z ∷ x) y = real-join (real_check_next s z) x y

abbrev pub mantissa_check : ℕ → Bool → Bool → RealCheck
mantissa_check last canonical zero = record {
  part = Mantissa last;
  is_canonical_so_far = canonical;
  is_zero_so_far = zero;
}

-- of a mantissa that has begun only the last octet counts, and whether all are zero
pub mantissa-after : (last : ℕ) (canonical zero : Bool) (xs : List ℕ)
    → real_check_after (mantissa_check last canonical zero) xs
    ≡ mantissa_check (last_octet_after last xs) canonical (zero && list_all (λ octet. octet == 0) xs)
mantissa-after last canonical zero [] = ap (mantissa_check last canonical) (sym (and-true zero))
mantissa-after last canonical zero (x ∷ xs) =
    ap (λ (b : Bool). real_check_after (mantissa_check x b (zero && x == 0)) xs) (and-true canonical)
    ∙ mantissa-after x canonical (zero && x == 0) xs
    ∙ ap (mantissa_check (last_octet_after x xs) canonical) (and-assoc zero (x == 0) (list_all (λ octet. octet == 0) xs))

one-left : (x : ℕ) (xs : List ℕ) → take (length (x ∷ xs) - 1) xs ≡ xs
one-left x xs = take_all (length (x ∷ xs) - 1) xs (omega arith)

-- one octet more
pub real-more : (s : RealCheck) (xs : List ℕ) → 1 ≤ length xs
    → real_check_after (real_check_next s (get_or xs 0 0)) (take (length xs - 1) (drop 1 xs)) ≡ real_check_after s xs
real-more s [] h = absurd (omega arith)
real-more s (x ∷ xs) h = ap (real_check_after (real_check_next s x)) (one-left x xs)

pub real-none : (s : RealCheck) (xs : List ℕ) → length xs ≤ 0 → s ≡ real_check_after s xs
real-none s [] h = refl
real-none s (x ∷ xs) h = absurd (omega arith)
