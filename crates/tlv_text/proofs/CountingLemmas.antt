-- What blocks of base64 count as.
use Rattle.std.proofs.Common.{◌≡◌, ◌==◌, List, [], ◌∷◌, ◌++◌, Option, None, ℕ, suc, Bool, true, false}
use Rattle.std.proofs.Common.{append-nil, ap, arith, drop, length, map, refl, subst, sym, take, ◌∙◌, Result, IfErr}
use Rattle.std.specs.Result.{IsErrAnd}
use Rattle.std.proofs.lemmas.Bool.{eqb-true}
use Rattle.std.proofs.lemmas.List.{drop_all, length-append, length-map, map-append, take_all}
use Rattle.std.proofs.lemmas.Result.{err_from_is_err_and}
use Rattle.tlv_text.specs.Private.Counting.{IsFittingForm}
use Rattle.tlv_text.specs.Taken.{AreTakenAsEncodings, BlocksCount, BlocksTooLong, Counts, HasInner, HoldsTooLong}
use Rattle.tlv_text.specs.Taken.{IsFirstTooLong, IsMemoryOr, TakenValue}
use Rattle.tlv_text.specs.Taken.{has_some, in_layer, is_complete, is_whole_block, taken_as, taken_value}
use Rattle.tlv_text.specs.declared.taken.Taken.{Taken}
use Rattle.tlv_text.specs.declared.taken.TakenFor.TheVariants.{Text}
use Rattle.tlv_text.specs.Blocks.{BlockValue, IsBlocksFault, block_value}
use Rattle.tlv_text.specs.declared.block.Block.{Block}
use Rattle.tlv_text.specs.declared.block.Form.{Form}
use Rattle.tlv_text.specs.declared.block.Form.TheVariants.{Base64, Runs}
use Rattle.tlv_text.specs.declared.text_fault.TextFault.{TextFault}
use Rattle.tlv_text.specs.declared.text_fault.TextFault.TheVariants.{Memory, TooLong}

-- ---- blocks of a text

-- a text that has one block
pub only-one : (all before : List Block) (b : Block) → all ≡ before ++ b ∷ [] → length (map block_value all) ≡ 1
    → all ≡ b ∷ []
only-one all [] b is one = is
only-one all (c ∷ before) b is one =
    let sizes : length (map block_value all) ≡ suc (length (map block_value (before ++ b ∷ []))) =
    ap (λ (bs : List Block). length (map block_value bs)) is in
    absurd (omega (arith, length-map (before ++ b ∷ []) block_value, length-append before (b ∷ [])))

-- ---- faults

-- what `?` returns
pub returned-fault : {T : Type 0} (r : Result T TextFault) (fault : TextFault) (P : TextFault → Type 0)
    → IsErrAnd r (λ d. d ≡ fault) → P fault → IfErr r P
returned-fault {T} r fault P is holds =
    let p = err_from_is_err_and r is in
    subst (λ (s : Result T TextFault). IfErr s P) (sym p.1) (subst P (sym p.2) holds)

-- memory may be refused, or else this is so
pub fault-weaker : {P Q : Type 0} (fault : TextFault) → (P → Q) → IsMemoryOr P fault → IsMemoryOr Q fault
fault-weaker TooLong then says = then says
fault-weaker Memory then says = tt

-- the blocks of a text in the next form have a fault
pub first-fault : (Inner : List ℕ → List TakenValue → Type 0) (Deep : List ℕ → Type 0) (text : List ℕ) (form : Form)
    (forms : List Form) (fault : TextFault) → IsBlocksFault text form fault
    → IsMemoryOr (IsFirstTooLong Inner Deep text (form ∷ forms)) fault
first-fault Inner Deep text form forms TooLong (IsBlocksFault.too_long bs are long) = IsFirstTooLong.here are long
first-fault Inner Deep text form forms Memory wrong = tt

-- the next block holds a text that is too long
pub next-run : (Inner : List ℕ → List TakenValue → Type 0) (Deep : List ℕ → Type 0) (before rest all : List Block)
    (b : Block) → before ++ b ∷ rest ≡ all → HoldsTooLong Deep (block_value b)
    → BlocksTooLong Inner Deep Runs (map block_value all)
next-run Inner Deep before rest all b split holds =
    subst (λ (bs : List BlockValue). BlocksTooLong Inner Deep Runs bs)
    (sym (map-append block_value before (b ∷ rest)) ∙ ap (map block_value) split)
    (BlocksTooLong.run (map block_value before) (map block_value rest) holds)

-- the only block does
pub only-base64 : (Inner : List ℕ → List TakenValue → Type 0) (Deep : List ℕ → Type 0) (all before : List Block)
    (b : Block) → all ≡ before ++ b ∷ [] → IsFittingForm Base64 (map block_value all)
    → HoldsTooLong Deep (block_value b) → BlocksTooLong Inner Deep Base64 (map block_value all)
only-base64 Inner Deep all before b is one holds =
    subst (λ (bs : List Block). BlocksTooLong Inner Deep Base64 (map block_value bs)) (sym (only-one all before b is one))
    (BlocksTooLong.base64 holds)

-- ---- one block

pub octets-none : (n : ℕ) (octets : List ℕ) → n ≡ length octets → (n == 0) ≡ true → has_some octets ≡ false
octets-none n [] size none = refl
octets-none n (x ∷ octets) size none = let zero : n ≡ 0 = eqb-true n 0 none in absurd (omega (arith, size))

pub octets-some : (n : ℕ) (octets : List ℕ) → n ≡ length octets → (n == 0) ≡ false → has_some octets ≡ true
octets-some n [] size some = absurd (cc (ap (λ (k : ℕ). k == 0) size, some))
octets-some n (x ∷ octets) size some = refl

module _ (Inner : List ℕ → List TakenValue → Type 0) (form : Form) (layer : Option ℕ) (b : BlockValue) where
  pub counts-nothing : (ts : List Taken) → ts ≡ [] → has_some b.octets ≡ false
      → Counts Inner form layer b (map taken_value ts)
  counts-nothing ts none empty =
      subst (λ (all : List Taken). Counts Inner form layer b (map taken_value all)) (sym none) (Counts.nothing empty)

  module _ (some : has_some b.octets ≡ true) (inner : List Taken)
      (are : HasInner Inner (is_whole_block b.state) b.octets (map taken_value inner)) where
    -- it is not base64 of a text of a form
    no_inner : inner ≡ [] → HasInner Inner (is_whole_block b.state) b.octets []
    no_inner none =
        subst (λ (us : List Taken). HasInner Inner (is_whole_block b.state) b.octets (map taken_value us)) none are

    pub counts-encodings : (ts : List Taken) (t : Taken) (octets : List ℕ) (answer : Bool) → inner ≡ [] → ts ≡ t ∷ []
        → taken_value t ≡ taken_as (Text form) b → octets ≡ b.octets → AreTakenAsEncodings octets answer
        → answer ≡ true → Counts Inner form layer b (map taken_value ts)
    counts-encodings ts t octets answer none one value same encodings taken =
        subst (λ (all : List TakenValue). Counts Inner form layer b all)
        (sym (ap (map taken_value) one ∙ ap (λ (u : TakenValue). u ∷ []) value))
        (Counts.encodings some (no_inner none) (rw (← same, ← taken) encodings))

    pub counts-other : (ts : List Taken) (octets : List ℕ) (answer : Bool) → inner ≡ [] → octets ≡ b.octets
        → AreTakenAsEncodings octets answer → answer ≡ false
        → map taken_value ts ≡ map (in_layer layer) (map taken_value inner)
        → Counts Inner form layer b (map taken_value ts)
    counts-other ts octets answer none same encodings other values =
        subst (λ (all : List TakenValue). Counts Inner form layer b all)
        (sym (values ∙ ap (λ (us : List Taken). map (in_layer layer) (map taken_value us)) none))
        (Counts.other some (no_inner none) (rw (← same, ← other) encodings))

  pub counts-text : (ts inner : List Taken) (n : ℕ) → has_some b.octets ≡ true
      → HasInner Inner (is_whole_block b.state) b.octets (map taken_value inner) → n ≡ length inner
      → (n == 0) ≡ false → map taken_value ts ≡ map (in_layer layer) (map taken_value inner)
      → Counts Inner form layer b (map taken_value ts)
  counts-text ts [] n some are size not_none values = absurd (cc (ap (λ (k : ℕ). k == 0) size, not_none))
  counts-text ts (t ∷ inner) n some are size not_none values =
      subst (λ (all : List TakenValue). Counts Inner form layer b all) (sym values)
      (Counts.text (taken_value t) (map taken_value inner) some are)

-- a slice that is written keeps its place in the vector
pub written-back : (n : ℕ) (new old : List Taken) → n ≡ length old → length new ≡ length old
    → take n (new ++ drop (length new) old) ≡ new
written-back n new old size same =
    ap (λ (xs : List Taken). take n (new ++ xs)) (drop_all (length new) old (omega arith))
    ∙ ap (take n) (append-nil new)
    ∙ take_all n new (omega arith)

-- ---- blocks of a form

pub base64-counts : (Inner : List ℕ → List TakenValue → Type 0) (all before : List Block) (b : Block)
    (ts : List TakenValue) → all ≡ before ++ b ∷ [] → IsFittingForm Base64 (map block_value all)
    → is_complete (block_value b) ≡ true → Counts Inner Base64 None (block_value b) ts
    → BlocksCount Inner Base64 (map block_value all) ts
base64-counts Inner all before b ts is one complete counts =
    subst (λ (bs : List Block). BlocksCount Inner Base64 (map block_value bs) ts) (sym (only-one all before b is one))
    (BlocksCount.base64 complete counts)

pub base64-broken : (Inner : List ℕ → List TakenValue → Type 0) (all before : List Block) (b : Block)
    (ts : List Taken) → all ≡ before ++ b ∷ [] → IsFittingForm Base64 (map block_value all)
    → is_complete (block_value b) ≡ false → ts ≡ []
    → BlocksCount Inner Base64 (map block_value all) (map taken_value ts)
base64-broken Inner all before b ts is one broken none =
    subst (λ (bs : List Block). BlocksCount Inner Base64 (map block_value bs) (map taken_value ts))
    (sym (only-one all before b is one))
    (subst (λ (us : List Taken). BlocksCount Inner Base64 (block_value b ∷ []) (map taken_value us)) (sym none)
    (BlocksCount.no_base64 broken))
