-- What runs of base64 count as, one after another.
use Rattle.std.proofs.Common.{◌≡◌, ◌+◌, ◌<◌, List, [], ◌∷◌, ◌++◌, Some, ℕ, ◌∙◌, append-nil}
use Rattle.std.proofs.Common.{append_assoc, ap, arith, drop, get_or, length, map, refl, subst, sym}
use Rattle.std.proofs.lemmas.Bool.{le-ltb, lt-ltb}
use Rattle.std.proofs.lemmas.List.{drop_more, map-append}
use Rattle.tlv_text.specs.Taken.{BlocksCount, BlocksTooLong, Counts, RunsCount, TakenValue, taken_count}
use Rattle.tlv_text.specs.Taken.{taken_value}
use Rattle.tlv_text.specs.declared.taken.Taken.{Taken}
use Rattle.tlv_text.specs.Blocks.{BlockValue, block_value}
use Rattle.tlv_text.specs.Dump.{dump_limit}
use Rattle.tlv_text.specs.declared.block.Block.{Block}
use Rattle.tlv_text.specs.declared.block.Form.TheVariants.{Runs}

-- ---- the number of octets

pub count-append : (ts us : List TakenValue) → taken_count (ts ++ us) ≡ taken_count ts + taken_count us
count-append [] us = omega arith
count-append (t ∷ ts) us = omega (arith, count-append ts us)

-- the next block and those after it
pub count-next : (ts : List Taken) (i : ℕ) (d : Taken) → i < length ts
    → taken_count (map taken_value (drop i ts))
    ≡ length (get_or ts i d).block.octets.items + taken_count (map taken_value (drop (i + 1) ts))
count-next ts i d within =
    ap (λ (us : List Taken). taken_count (map taken_value us)) (drop_more ts i d within)

pub count-more : (done more new : List Taken) → new ≡ done ++ more
    → taken_count (map taken_value new)
    ≡ taken_count (map taken_value done) + taken_count (map taken_value more)
count-more done more new is =
    ap (λ (us : List Taken). taken_count (map taken_value us)) is
    ∙ ap taken_count (map-append taken_value done more)
    ∙ count-append (map taken_value done) (map taken_value more)

-- ---- runs

module _ (Inner : List ℕ → List TakenValue → Type 0) where
  runs-append : (bs cs : List BlockValue) (ts us : List TakenValue) → RunsCount Inner bs ts → RunsCount Inner cs us
      → RunsCount Inner (bs ++ cs) (ts ++ us)
  runs-append _ cs _ us RunsCount.no_more others = others
  runs-append _ cs _ us (RunsCount.next {b} {bs} {ts} {more} counts rest) others =
      subst (λ (all : List TakenValue). RunsCount Inner (b ∷ (bs ++ cs)) all) (sym (append_assoc ts more us))
      (RunsCount.next counts (runs-append bs cs more us rest others))

  -- one run more
  pub runs-more : (before : List Block) (b : Block) (done more new : List Taken)
      → RunsCount Inner (map block_value before) (map taken_value done)
      → Counts Inner Runs (Some b.line) (block_value b) (map taken_value more) → new ≡ done ++ more
      → RunsCount Inner (map block_value (before ++ b ∷ [])) (map taken_value new)
  runs-more before b done more new so_far counts is =
      subst (λ (bs : List BlockValue). RunsCount Inner bs (map taken_value new))
      (sym (map-append block_value before (b ∷ [])))
      (subst (λ (us : List TakenValue). RunsCount Inner (map block_value before ++ block_value b ∷ []) us)
      (ap (λ (us : List TakenValue). map taken_value done ++ us) (append-nil (map taken_value more))
      ∙ sym (map-append taken_value done more) ∙ ap (map taken_value) (sym is))
      (runs-append (map block_value before) (block_value b ∷ []) (map taken_value done) (map taken_value more ++ [])
      so_far (RunsCount.next counts RunsCount.no_more)))

  -- all of them
  pub runs-all : (before rest all : List Block) (done : List Taken) (left : ℕ)
      → RunsCount Inner (map block_value before) (map taken_value done) → before ++ rest ≡ all → rest ≡ []
      → left + taken_count (map taken_value done) ≡ dump_limit
      → BlocksCount Inner Runs (map block_value all) (map taken_value done)
  runs-all before rest all done left counts passed none room =
      subst (λ (bs : List Block). BlocksCount Inner Runs (map block_value bs) (map taken_value done))
      (sym (append-nil before) ∙ ap (λ (bs : List Block). before ++ bs) (sym none) ∙ passed)
      (BlocksCount.runs counts (le-ltb dump_limit (taken_count (map taken_value done)) (omega (arith, room))))

  -- there is no room for what the next run counts as
  pub runs-too_many : (Deep : List ℕ → Type 0) (before rest all : List Block) (b : Block) (done more : List Taken)
      (left : ℕ) → RunsCount Inner (map block_value before) (map taken_value done)
      → Counts Inner Runs (Some b.line) (block_value b) (map taken_value more) → before ++ b ∷ rest ≡ all
      → left + taken_count (map taken_value done) ≡ dump_limit → left < taken_count (map taken_value more)
      → BlocksTooLong Inner Deep Runs (map block_value all)
  runs-too_many Deep before rest all b done more left so_far counts split room over =
      let size = count-more done more (done ++ more) refl in
      subst (λ (bs : List BlockValue). BlocksTooLong Inner Deep Runs bs)
      (sym (map-append block_value (before ++ b ∷ []) rest)
      ∙ ap (map block_value) (append_assoc before (b ∷ []) rest ∙ split))
      (BlocksTooLong.runs (map block_value (before ++ b ∷ [])) (map block_value rest)
      (runs-more before b done more (done ++ more) so_far counts refl)
      (lt-ltb dump_limit (taken_count (map taken_value (done ++ more))) (omega (arith, room, over, size))))
