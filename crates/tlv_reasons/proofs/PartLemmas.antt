-- Texts that are put for each part of a sentence.
use Rattle.std.proofs.Common.{◌≡◌, ◌+◌, ◌<◌, ◌++◌, ℕ, List, [], ◌∷◌, ap, append-nil, drop, flat_map, get_or}
use Rattle.std.proofs.Common.{length, sym, take, take-append-drop, ◌∙◌}
use Rattle.std.specs.Prelude.{Result, Ok, Err, IsErr, ⊤}
use Rattle.std.proofs.lemmas.Grind.{flat_map-append}
use Rattle.std.proofs.lemmas.List.{take_more}
use Rattle.tlv_io.specs.Device.{DrainState}
use Rattle.tlv_io.specs.Out.{Puts}
use Rattle.tlv_io.specs.declared.drain.WriteFault.{WriteFault}
use Rattle.tlv_io.specs.declared.out.Out.{Out}
use Rattle.tlv_io.proofs.Puts.{HasPut, puts_failed_in, puts_then_as}

module _ {X : Type 0} (text : X → List ℕ) where
  -- the text of a part more
  part-more : (xs : List X) (i : ℕ) (d : X) → i < length xs
      → flat_map text (take i xs) ++ text (get_or xs i d) ≡ flat_map text (take (i + 1) xs)
  part-more xs i d h =
      sym (ap (flat_map text) (take_more xs i d h)
      ∙ flat_map-append text (take i xs) (get_or xs i d ∷ [])
      ∙ ap (λ (l : List ℕ). flat_map text (take i xs) ++ l) (append-nil (text (get_or xs i d))))

  module _ {D : Type 0} (state_of : D → DrainState) where
    -- it was put
    pub puts_part : (a b c : Out D) (xs : List X) (i : ℕ) (d : X) → i < length xs
        → HasPut state_of a b (flat_map text (take i xs)) → HasPut state_of b c (text (get_or xs i d))
        → HasPut state_of a c (flat_map text (take (i + 1) xs))
    puts_part a b c xs i d h p q = puts_then_as state_of a b c _ _ _ tt (Ok tt) p q (part-more xs i d h)

    -- it could not be put
    pub fails_part : (a b c : Out D) (xs : List X) (i : ℕ) (d : X) (e : WriteFault) (r : Result ⊤ WriteFault)
        → i < length xs → HasPut state_of a b (flat_map text (take i xs))
        → Puts {T = ⊤} {E = WriteFault} state_of b c (text (get_or xs i d)) (Err e) → IsErr r
        → Puts state_of a c (flat_map text xs) r
    fails_part a b c xs i d e r h p q f =
        puts_failed_in state_of a c _ _ e r
        (puts_then_as state_of a b c _ _ _ tt (Err e) p q (part-more xs i d h)) f
        record {
          rest = flat_map text (drop (i + 1) xs);
          is =
              sym (flat_map-append text (take (i + 1) xs) (drop (i + 1) xs))
              ∙ ap (flat_map text) (take-append-drop (i + 1) xs);
        }
