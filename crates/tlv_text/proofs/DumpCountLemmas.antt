-- What the block of a dump counts as.
use Rattle.std.proofs.Common.{◌≡◌, List, [], ◌∷◌, ◌++◌, ℕ, Bool, true, false, ap, map, refl, subst, sym, ◌∙◌}
use Rattle.tlv_text.specs.Private.Counting.{IsDumpCount, IsFittingForm}
use Rattle.tlv_text.specs.Taken.{AreTakenAsEncodings, DumpCounts, TakenValue, is_complete, is_ended, taken_as}
use Rattle.tlv_text.specs.Taken.{taken_value}
use Rattle.tlv_text.specs.declared.taken.Taken.{Taken}
use Rattle.tlv_text.specs.declared.taken.TakenFor.TheVariants.{Text}
use Rattle.tlv_text.specs.Blocks.{BlockValue, block_value}
use Rattle.tlv_text.specs.declared.block.Block.{Block}
use Rattle.tlv_text.specs.declared.block.BlockState.{BlockState}
use Rattle.tlv_text.specs.declared.block.BlockState.TheVariants.{Whole, BeginsAt, MayBePairs, Unended, Ended, Encrypted}
use Rattle.tlv_text.specs.declared.block.BlockState.TheVariants.{Refused, Absent}
use Rattle.tlv_text.specs.declared.block.Form.TheVariants.{Dump}
use Rattle.tlv_text.proofs.CountingLemmas.{only-one}

not-ended : (state : BlockState) → ((line : ℕ) → state ≡ Ended line → ⊥) → is_ended state ≡ false
not-ended Whole not = refl
not-ended (BeginsAt offset) not = refl
not-ended MayBePairs not = refl
not-ended Unended not = refl
not-ended (Ended line) not = absurd (not line refl)
not-ended Encrypted not = refl
not-ended (Refused line) not = refl
not-ended Absent not = refl

pub dump-ended : (b : BlockValue) (line : ℕ) (octets : List ℕ) (answer : Bool) → b.state ≡ Ended line
    → octets ≡ b.octets → AreTakenAsEncodings octets answer → DumpCounts b answer
dump-ended b line octets answer is same are =
    DumpCounts.ended answer (ap is_ended is) (subst (λ (xs : List ℕ). AreTakenAsEncodings xs answer) same are)

pub dump-not_ended : (b : BlockValue) (answer : Bool) → ((line : ℕ) → b.state ≡ Ended line → ⊥)
    → answer ≡ is_complete b → DumpCounts b answer
dump-not_ended b answer not complete =
    subst (DumpCounts b) (sym complete) (DumpCounts.not_ended (not-ended b.state not))

-- the only block counts
pub dump-kept : (all before : List Block) (b : Block) (t : Taken) (ts : List Taken) (answer : Bool)
    → all ≡ before ++ b ∷ [] → IsFittingForm Dump (map block_value all) → DumpCounts (block_value b) answer
    → answer ≡ true → taken_value t ≡ taken_as (Text Dump) (block_value b) → ts ≡ t ∷ []
    → IsDumpCount (map block_value all) (map taken_value ts)
dump-kept all before b t ts answer is one counts kept value made =
    subst (λ (bs : List Block). IsDumpCount (map block_value bs) (map taken_value ts))
    (sym (only-one all before b is one))
    (subst (λ (us : List TakenValue). IsDumpCount (block_value b ∷ []) us)
    (sym (ap (map taken_value) made ∙ ap (λ (u : TakenValue). u ∷ []) value))
    (IsDumpCount.counted {b = block_value b} {answer = true} (subst (DumpCounts (block_value b)) kept counts)))

-- it does not count
pub dump-passed : (all before : List Block) (b : Block) (ts : List Taken) (answer : Bool) → all ≡ before ++ b ∷ []
    → IsFittingForm Dump (map block_value all) → DumpCounts (block_value b) answer → answer ≡ false → ts ≡ []
    → IsDumpCount (map block_value all) (map taken_value ts)
dump-passed all before b ts answer is one counts passed none =
    subst (λ (bs : List Block). IsDumpCount (map block_value bs) (map taken_value ts))
    (sym (only-one all before b is one))
    (subst (λ (us : List Taken). IsDumpCount (block_value b ∷ []) (map taken_value us)) (sym none)
    (IsDumpCount.counted {b = block_value b} {answer = false} (subst (DumpCounts (block_value b)) passed counts)))
