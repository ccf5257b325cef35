-- Sentences that are sent: all, or those that need no memory.
use Rattle.std.proofs.Common.{◌≡◌, ℕ, List, sym, subst}
use mathlib.Core.Bool.{true≢false}
use Rattle.std.specs.Prelude.{IfOk, IsErr, OnErr, Result, Ok, Err}
use Rattle.std.specs.Result.{IsOkAnd}
use Rattle.std.specs.declared.alloc.AllocError.{AllocError}
use Rattle.tlv_io.specs.Device.{DrainState}
use Rattle.tlv_reasons.specs.declared.sentence.Sentence.{Sentence}
use Rattle.tlv_view_program.specs.WritesReasons.{Outcome, SendsReasons, all_sent, few_failed, few_sent}

module _ {octets : List ℕ} {front few : List Sentence} {P Q : List Sentence → Type 0} {R S : Type 0}
    {old new : DrainState} where
  -- what is sent, in other words
  pub sends-weaker : {outcome : Outcome} → ((s : List Sentence) → P s → Q s) → (R → S)
      → SendsReasons octets front P few R old new outcome → SendsReasons octets front Q few S old new outcome
  sends-weaker p r (SendsReasons.all_sent s result are sends) = all_sent s result (p s are) sends
  sends-weaker p r (SendsReasons.few_sent error unit may sends) = few_sent error unit (r may) sends
  sends-weaker p r (SendsReasons.few_failed fault may sends) = few_failed fault (r may) sends

module _ {A : Type 0} (items : A → List Sentence) where
  -- the sentences of a result have what it states
  pub all-of : (P : List Sentence → Type 0) (r : Result A AllocError) → IfOk r (λ x. P (items x)) → (s : List Sentence)
      → IsOkAnd r (λ x. items x ≡ s) → P s
  all-of P (Ok x) p s e = subst P e p
  all-of P (Err e) p s q = absurd q

-- so has its refusal
pub refusal-of : {A X : Type 0} (r : Result A AllocError) → OnErr r X → IsErr r → X
refusal-of (Ok x) p e = absurd (true≢false (sym e))
refusal-of (Err y) p e = p
