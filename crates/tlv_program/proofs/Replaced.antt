-- Writes through a writer that replaces octets, taken together.
use Rattle.std.proofs.Common.{◌≡◌, ◌∙◌, ℕ, List, [], ◌∷◌, map, sym, refl, subst}
use Rattle.std.specs.Prelude.{Result, Ok, Err, Option, None, Some}
use mathlib.Core.Bool.{true≢false}
use Rattle.std.proofs.lemmas.Grind.{put_two}
use Rattle.std.proofs.lemmas.List.{map-append}
use Rattle.std.specs.List.{FoldsTo, concat}
use Rattle.std.specs.Option.{IfSome, option_map}
use Rattle.std.specs.Result.{IsOk, OnOk}
use Rattle.std.specs.Borrow.{MutBor}
use Rattle.std.specs.Fmt.{HasWritten, IsPlainFormatter, WritesInCalls}
use Rattle.std.specs.declared.fmt.Formatter.{Formatter}
use Rattle.tlv_program.specs.Texts.{printed_octet}

-- what holds of an `Ok` holds if there is one
at_ok : {T E P : Type 0} (r : Result T E) → IsOk r → OnOk r P → P
at_ok (Ok value) is holds = holds
at_ok (Err error) is holds = absurd (true≢false (sym is))

pub text_at_ok : {T E : Type 0} (r : Result T E) (P : List ℕ → Type 0) (text : Option (List ℕ))
    → OnOk r (IfSome text P) → IfSome text (λ octets. IsOk r → P octets)
text_at_ok r P None known = tt
text_at_ok r P (Some octets) known = λ ok. at_ok r ok known

-- what follows for each text from what is known of it
pub of_text : (P Q : List ℕ → Type 0) → ((octets : List ℕ) → P octets → Q (map printed_octet octets))
    → (text : Option (List ℕ)) → IfSome text P → IfSome (option_map (map printed_octet) text) Q
of_text P Q each None known = tt
of_text P Q each (Some octets) known = each octets known

module _ {W S : Type 0} (took : W → List ℕ → W → Type 0) (to : S → MutBor (Formatter W)) where
  -- what one call does, as the writer says
  abbrev pub Replaces : S → List ℕ → S → Type 0
  Replaces s octets t = ((to t).ghost_name ≡ (to s).ghost_name)
      × (IsPlainFormatter (to s).now → HasWritten took (to s).now (map printed_octet octets) (to t).now)

  replaces_all : (s : S) (parts : List (List ℕ)) (t : S) → IsPlainFormatter (to s).now → FoldsTo Replaces s parts t
      → ((to t).ghost_name ≡ (to s).ghost_name) × HasWritten took (to s).now (map printed_octet (concat parts)) (to t).now
  replaces_all s [] t plain same =
      subst (λ x. ((to x).ghost_name ≡ (to s).ghost_name) × HasWritten took (to s).now [] (to x).now) same
      (refl, record { wrote = record { parts = []; calls = refl; whole = refl }; plain = plain })
  replaces_all s (part ∷ parts) t plain calls =
      let (between, first, rest) = calls in
      let written = first.1 plain in
      let after = replaces_all between parts t written.plain rest in (
        after.0 ∙ first.0,
        put_two took _ _ _ _ _ _ written after.1 (sym (map-append printed_octet part (concat parts))),
      )

  pub replaces_calls : (s : S) (octets : List ℕ) (t : S) → IsPlainFormatter (to s).now → WritesInCalls Replaces s octets t
      → ((to t).ghost_name ≡ (to s).ghost_name) × HasWritten took (to s).now (map printed_octet octets) (to t).now
  replaces_calls s octets t plain calls =
      let after = replaces_all s calls.parts t plain calls.calls in
      (after.0, subst (λ xs. HasWritten took (to s).now (map printed_octet xs) (to t).now) calls.whole after.1)
