-- Blocks that are counted one after another.
use Rattle.std.proofs.Common.{◌≡◌, ◌+◌, ◌≤◌, List, [], ◌∷◌, ◌++◌, ℕ, Bool, true, false, length, map, filter}
use Rattle.std.proofs.Common.{◌||◌, ap, refl, sym, ◌∙◌, arith, subst, append_assoc}
use Rattle.std.specs.List.{All, list_any}
use Rattle.std.proofs.lemmas.Bool.{le-ltb, ltb-false, or_parts}
use Rattle.std.proofs.lemmas.List.{map-append}
use Rattle.std.proofs.lemmas.List.Elements.{All-push}
use Rattle.tlv_text.specs.Private.Counting.{IsBounded, is_too_long}
use Rattle.tlv_text.specs.Taken.{TakenValue, taken_value}
use Rattle.tlv_text.specs.declared.taken.Taken.{Taken}
use Rattle.tlv_head.specs.Limits.{input_limit}
use Rattle.tlv_text.specs.Blocks.{BlockValue, are_too_long, block_value, octet_count}
use Rattle.tlv_text.specs.Dump.{dump_limit, text_limit}
use Rattle.tlv_text.specs.declared.block.Block.{Block}

-- the next block is not too long, nor are those after it
pub next-fit : (b : Block) (rest all : List Block) → all ≡ b ∷ rest
    → list_any is_too_long (map block_value all) ≡ false
    → (is_too_long (block_value b) ≡ false) × (list_any is_too_long (map block_value rest) ≡ false)
next-fit b rest all next fit =
    or_parts (is_too_long (block_value b)) (list_any is_too_long (map block_value rest))
    (subst (λ (bs : List Block). list_any is_too_long (map block_value bs) ≡ false) next fit)

-- each block is not too long if all are not
blocks-fit : (limit : ℕ) (bs : List BlockValue) → limit ≤ dump_limit → octet_count bs ≤ limit
    → list_any is_too_long bs ≡ false
blocks-fit limit [] most few = refl
blocks-fit limit (b ∷ bs) most few =
    ap (λ (x : Bool). x || list_any is_too_long bs) (le-ltb dump_limit (length b.octets) (omega (arith, few, most)))
    ∙ blocks-fit limit bs most (omega (arith, few))

pub each-fits : (text : List ℕ) (bs : List BlockValue) → are_too_long text bs ≡ false
    → list_any is_too_long bs ≡ false
each-fits text bs fit =
    blocks-fit (text_limit text) bs (omega arith) (ltb-false (text_limit text) (octet_count bs) fit)

pub one-fits : (text : List ℕ) (b : BlockValue) → are_too_long text (b ∷ []) ≡ false → is_too_long b ≡ false
one-fits text b fit = (or_parts (is_too_long b) false (each-fits text (b ∷ []) fit)).0

-- what is not too long for a text is not too long for an input
pub fit-within : (b : Block) → is_too_long (block_value b) ≡ false → length b.octets.items ≤ input_limit
fit-within b fit = let short = ltb-false dump_limit (length b.octets.items) fit in omega arith

-- a block that is in no layer, and not too long
pub fit-bounded : (n : ℕ) (b : Block) (t : Taken) → t.layers.items ≡ [] → t.block.octets.items ≡ b.octets.items
    → is_too_long (block_value b) ≡ false → IsBounded (n + 1) t
fit-bounded n b t none same fit = record {
  few = omega (arith, ap length none);
  within = let short = fit-within b fit in omega (arith, ap length same);
}

-- a block is added to those that a loop has
pub pushed-all : (P : Taken → Type 0) (done new : List Taken) (t : Taken) → new ≡ done ++ t ∷ [] → All P done → P t
    → All P new
pushed-all P done new t push all one =
    subst (λ (ts : List Taken). All P ts) (sym push) (All-push P done t all one)

pub pushed-taken : (done new : List Taken) (t : Taken) (rest left all : List TakenValue) → new ≡ done ++ t ∷ []
    → rest ≡ taken_value t ∷ left → map taken_value done ++ rest ≡ all → map taken_value new ++ left ≡ all
pushed-taken done new t rest left all push next are =
    ap (λ (ts : List Taken). map taken_value ts ++ left) push
    ∙ ap (λ (ts : List TakenValue). ts ++ left) (map-append taken_value done (t ∷ []))
    ∙ append_assoc (map taken_value done) (taken_value t ∷ []) left
    ∙ ap (λ (ts : List TakenValue). map taken_value done ++ ts) (sym next)
    ∙ are

-- the first of some that passes a test
pub filter-first : {X : Type 0} (test : X → Bool) (x : X) (xs : List X) → test x ≡ true
    → filter test (x ∷ xs) ≡ x ∷ filter test xs
filter-first test x xs passes = rw passes
