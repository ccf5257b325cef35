-- Words of the rows of runs of base64.
use Rattle.std.proofs.Common.{◌≡◌, ℕ, zero, suc, ◌+◌, ◌≤◌, ◌&&◌, Bool, true, nat_lt, List, [], ◌∷◌, ◌++◌, drop}
use Rattle.std.proofs.Common.{length}
use Rattle.std.proofs.Common.{arith, ltb-true}
use Rattle.std.proofs.lemmas.Bool.{and_parts}
use Rattle.std.proofs.lemmas.List.{drop_all}
use Rattle.tlv_text.proofs.RunLemmas.{NoRunBefore, no-run, run-alone}
use Rattle.tlv_text.specs.Runs.{HasNoRun, IsFirstRun, leading_symbols, padding_size, stretch_size}

-- fewer than 40 symbols begin at each of the first n places
unfoldable pub all_short : ℕ → List ℕ → Bool
all_short zero text = true
all_short (suc n) [] = true
all_short (suc n) (x ∷ text) = nat_lt (leading_symbols (x ∷ text)) 40 && all_short n text

short-before : (n : ℕ) (text : List ℕ) → all_short n text ≡ true → NoRunBefore text n
unfolding all_short
short-before zero text e k less = absurd (omega arith)
short-before (suc n) [] e k less = rw (drop_all {X = ℕ} k [] (omega arith)) (omega arith)
short-before (suc n) (x ∷ text) e zero less =
    ltb-true (leading_symbols (x ∷ text)) 40 (and_parts (nat_lt (leading_symbols (x ∷ text)) 40) _ e).0
short-before (suc n) (x ∷ text) e (suc k) less =
    short-before n text (and_parts (nat_lt (leading_symbols (x ∷ text)) 40) _ e).1 k (omega (arith, less))

pub run_there : (text : List ℕ) (start : ℕ) (run rest : List ℕ) → drop start text ≡ run ++ rest
    → nat_lt 39 (leading_symbols (drop start text)) ≡ true
    → length run ≡ stretch_size (drop start text)
    + padding_size (drop (stretch_size (drop start text)) (drop start text))
    → all_short start text ≡ true → IsFirstRun text start run rest
run_there text start run rest spelled long size short =
    let enough : 40 ≤ leading_symbols (drop start text) =
    omega (arith, ltb-true 39 (leading_symbols (drop start text)) long) in
    let before = short-before start text short in
    record {
      spelled = spelled;
      long = enough;
      size = size;
      alone = run-alone text start enough before;
      no_sooner = before;
    }

pub no_run_there : (text : List ℕ) → all_short (length text) text ≡ true → HasNoRun text
no_run_there text short = no-run text (length text) (omega arith) (short-before (length text) text short)
