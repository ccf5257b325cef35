-- The octets around a string.
use Rattle.std.proofs.Common.{◌≡◌, ℕ, zero, suc, ◌+◌, ◌*◌, ◌<◌, false, List, [], ◌∷◌, ◌++◌, length, refl, ap}
use Rattle.std.proofs.Common.{◌∙◌, arith}
use Rattle.std.proofs.Common.{length-append, subst}
use Rattle.tlv_head.specs.declared.fault.Fault.{Fault}
use Rattle.tlv_walk.specs.declared.ending.Ending.{Ending}
use Rattle.tlv_walk.specs.declared.ending.Ending.TheVariants as ending
use Rattle.tlv_walk.specs.Ending.{IsEnding}
use Rattle.tlv_walk.proofs.GrammarLemmas.OneEnding.{ending-unique}
use Rattle.tlv_open.specs.Breaks.{BreaksAt, framing_around, octets_around, sequence_starts}

pub starts-length : (n : ℕ) → length (sequence_starts n) ≡ 2 * n
starts-length zero = refl
starts-length (suc n) = omega (arith, starts-length n)

starts-suc : (n : ℕ) → sequence_starts n ++ 0x30 ∷ 0x80 ∷ [] ≡ sequence_starts (suc n)
starts-suc zero = refl
starts-suc (suc n) = ap (λ (o : List ℕ). 0x30 ∷ 0x80 ∷ o) (starts-suc n)

pub starts-next : (n : ℕ) → sequence_starts n ++ 0x30 ∷ 0x80 ∷ [] ≡ sequence_starts (n + 1)
starts-next n = let same : suc n ≡ n + 1 = omega arith in starts-suc n ∙ ap sequence_starts same

pub around-length : (depth : ℕ) (string : List ℕ) → length (octets_around depth string) ≡ 2 * depth + length string + 2
around-length depth string =
    omega (
      arith,
      starts-length depth,
      length-append (sequence_starts depth) (string ++ 5 ∷ 0 ∷ []),
      length-append string (5 ∷ 0 ∷ []),
    )

-- a string has one fault
pub breaks-one : (depth : ℕ) (string : List ℕ) (f g : Fault) → BreaksAt depth string f → BreaksAt depth string g → f ≡ g
breaks-one depth string f g a b =
    let same : ending.Fault f ≡ ending.Fault g =
    ending-unique (framing_around depth) (octets_around depth string) _ _ a.is_ending b.is_ending in
    cc (same)

pub around-framing : (depth before : ℕ) (inside string : List ℕ) (e : Ending) → inside ≡ before ∷ []
    → before ≡ 2 * depth
    → IsEnding (record { inside = inside; padding = false }) (octets_around depth string) e
    → IsEnding (framing_around depth) (octets_around depth string) e
around-framing depth before inside string e i b k =
    subst (λ (o : List ℕ). IsEnding (record { inside = o; padding = false }) (octets_around depth string) e)
    (i ∙ ap (λ (n : ℕ). n ∷ []) b) k

-- no fault, or one that is beyond the end
pub breaks-done : (depth : ℕ) (string : List ℕ)
    → IsEnding (framing_around depth) (octets_around depth string) ending.Done
    → (f : Fault) → BreaksAt depth string f → ⊥
breaks-done depth string e f b =
    let same : ending.Done ≡ ending.Fault f =
    ending-unique (framing_around depth) (octets_around depth string) _ _ e b.is_ending in
    absurd (cc (same))

pub breaks-within : (depth : ℕ) (string : List ℕ) (g : Fault)
    → IsEnding (framing_around depth) (octets_around depth string) (ending.Fault g)
    → 2 * depth + length string < g.offset
    → (f : Fault) → BreaksAt depth string f → ⊥
breaks-within depth string g e beyond f b =
    let same : ending.Fault g ≡ ending.Fault f =
    ending-unique (framing_around depth) (octets_around depth string) _ _ e b.is_ending in
    let fault : g ≡ f = cc (same) in
    let offset : g.offset ≡ f.offset = ap (λ (k : Fault). k.offset) fault in
    absurd (omega (arith, beyond, offset, b.within_string))
