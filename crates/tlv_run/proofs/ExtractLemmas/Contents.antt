-- What an `Extract` makes of contents octets that come in pieces.
use Rattle.std.proofs.Common.{◌≡◌, ℕ, List, [], ◌∷◌, ◌++◌, refl, ap, ◌∙◌}
use Rattle.std.specs.Prelude.{Result, Ok, ⊤}
use Rattle.tlv_walk.specs.Follow.{Effect, each_octet, effect_with}
use Rattle.tlv_io.specs.declared.drain.WriteFault.{WriteFault}
use Rattle.tlv_io.specs.declared.out.Out.{Out}
use Rattle.tlv_io.specs.Device.{DrainState}
use Rattle.tlv_io.specs.Out.{Puts}
use Rattle.tlv_io.proofs.Puts.{HasPut, puts_nothing}
use Rattle.tlv_run.specs.declared.extract_follower.Position.{Position}
use Rattle.tlv_run.specs.declared.extract_follower.Position.TheVariants.{Before, Within, After}
use Rattle.tlv_run.specs.ExtractStep.{ExtractState, wanted_octets, extract_octet_step}

pub wanted_octets-none : (w : Position) → [] ≡ wanted_octets w []
wanted_octets-none Before = refl
wanted_octets-none (Within count) = refl
wanted_octets-none After = refl

wanted_octets-more : (w : Position) (x : ℕ) (xs : List ℕ)
    → wanted_octets w (x ∷ []) ++ wanted_octets w xs ≡ wanted_octets w (x ∷ xs)
wanted_octets-more Before x xs = refl
wanted_octets-more (Within count) x xs = refl
wanted_octets-more After x xs = refl

-- octets that come one by one put the same as all at once
pub all_contents : (s : ExtractState) (xs : List ℕ)
    → each_octet extract_octet_step s xs ≡ effect_with s (wanted_octets s.position xs)
all_contents s [] = ap (effect_with s) (wanted_octets-none s.position)
all_contents s (x ∷ xs) =
    ap (λ (u : Effect ExtractState). record u { put = wanted_octets s.position (x ∷ []) ++ u.put })
    (all_contents s xs)
    ∙ ap (effect_with s) (wanted_octets-more s.position x xs)

module _ (s : ExtractState) (w : Position) (xs : List ℕ) (e : s.position ≡ w) where
  contents_put : (each_octet extract_octet_step s xs).put ≡ wanted_octets w xs
  contents_put =
      ap (λ (t : Effect ExtractState). t.put) (all_contents s xs) ∙ ap (λ (w : Position). wanted_octets w xs) e

  -- what is put of octets at this position
  pub puts_contents : {D : Type 0} (state_of : D → DrainState) (a b : Out D) (r : Result ⊤ WriteFault)
      → Puts {T = ⊤} {E = WriteFault} state_of a b (wanted_octets w xs) r
      → Puts state_of a b (each_octet extract_octet_step s xs).put r
  puts_contents state_of a b r p = rw (contents_put) p

-- outside the element wanted nothing is put
pub puts_none : (s : ExtractState) (w : Position) (xs : List ℕ) {D : Type 0} (state_of : D → DrainState) (a : Out D)
    → s.position ≡ w
    → ((count : ℕ) → w ≡ Within count → ⊥) → HasPut state_of a a (each_octet extract_octet_step s xs).put
puts_none s Before xs state_of a e n = puts_contents s Before xs e state_of a a (Ok tt) (puts_nothing state_of a tt)
puts_none s (Within count) xs state_of a e n = absurd (n count refl)
puts_none s After xs state_of a e n = puts_contents s After xs e state_of a a (Ok tt) (puts_nothing state_of a tt)
