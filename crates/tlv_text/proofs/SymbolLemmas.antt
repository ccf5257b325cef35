-- The symbols with which a text begins.
use Rattle.std.proofs.Common.{◌≡◌, ℕ, List, [], ◌∷◌, ◌++◌, length, slice_index, take, drop, refl, ap, sym}
use Rattle.std.proofs.Common.{◌≤◌, ◌∙◌, arith, true}
use Rattle.std.proofs.Common.{length-append, take-append-drop}
use Rattle.std.specs.List.{list_all}
use Rattle.std.proofs.lemmas.List.Elements.{All-append, All-cons, All-head, All-nil, All-tail}
use Rattle.std.proofs.lemmas.List.Sums.{AllPass-from_list_all}
use Rattle.tlv_text.specs.Base64.{is_symbol, symbol_then, symbols_read}
use Rattle.tlv_text.specs.Plain.{is_plain_text}
use Rattle.tlv_text.specs.Private.SymbolSteps.{AreSymbols, TakesSymbols, symbols_then}
use Rattle.tlv_text.specs.declared.base64_text.Alphabet.{Alphabet}
use Rattle.tlv_text.proofs.Slices.{from-on, slice_from}
use Rattle.tlv_text.proofs.TextLemmas.{symbols-more}

symbol-first : (alphabet : Alphabet) (x : ℕ) (text : List ℕ) → is_symbol alphabet x ≡ true
    → symbols_read alphabet (x ∷ text) ≡ symbol_then x (symbols_read alphabet text)
symbol-first alphabet x [] e = rw e refl
symbol-first alphabet x (y ∷ text) e = rw e refl

run-first : (alphabet : Alphabet) (run rest : List ℕ) → AreSymbols alphabet run
    → symbols_read alphabet (run ++ rest) ≡ symbols_then run (symbols_read alphabet rest)
run-first alphabet [] rest all = refl
run-first alphabet (x ∷ run) rest all =
    symbol-first alphabet x (run ++ rest) (All-head (λ y. is_symbol alphabet y ≡ true) x run all)
    ∙ ap (symbol_then x) (run-first alphabet run rest (All-tail (λ y. is_symbol alphabet y ≡ true) x run all))

-- symbols are plain
plain-first : (alphabet : Alphabet) (run rest : List ℕ) → AreSymbols alphabet run
    → is_plain_text alphabet rest ≡ is_plain_text alphabet (run ++ rest)
plain-first alphabet [] rest all = refl
plain-first alphabet (x ∷ run) rest all =
    let symbol : is_symbol alphabet x ≡ true = All-head (λ y. is_symbol alphabet y ≡ true) x run all in
    rw symbol (plain-first alphabet run rest (All-tail (λ y. is_symbol alphabet y ≡ true) x run all))

-- the symbols with which a text begins are taken
pub takes-run : (alphabet : Alphabet) (run rest text taken : List ℕ) → text ≡ run ++ rest → AreSymbols alphabet run
    → AreSymbols alphabet taken → TakesSymbols alphabet text taken rest (taken ++ run)
takes-run alphabet run rest text taken is all before = record {
  are_symbols = All-append (λ x. is_symbol alphabet x ≡ true) taken run before all;
  read =
      ap (λ (t : List ℕ). symbols_then taken (symbols_read alphabet t)) is
      ∙ ap (symbols_then taken) (run-first alphabet run rest all)
      ∙ symbols-more taken run (symbols_read alphabet rest);
  moved = omega (arith, ap length is, length-append run rest, length-append taken run);
  less = omega (arith, ap length is, length-append run rest);
  plain = plain-first alphabet run rest all ∙ ap (is_plain_text alphabet) (sym is);
}

-- symbols are taken, and then more
pub takes-more : (alphabet : Alphabet) (text taken middle between rest symbols : List ℕ)
    → TakesSymbols alphabet text taken middle between → TakesSymbols alphabet middle between rest symbols
    → TakesSymbols alphabet text taken rest symbols
takes-more alphabet text taken middle between rest symbols p q = record {
  are_symbols = q.are_symbols;
  read = p.read ∙ q.read;
  moved = omega (arith, p.moved, q.moved);
  less = omega (arith, p.less, q.less);
  plain = q.plain ∙ p.plain;
}

-- a block of symbols with which the rest of a text begins is taken too
pub takes-block : (alphabet : Alphabet) (text taken middle between front back : List ℕ) (n : ℕ)
    → TakesSymbols alphabet text taken middle between → front ≡ take n middle → back ≡ drop n middle
    → list_all (is_symbol alphabet) front ≡ true → TakesSymbols alphabet text taken back (between ++ front)
takes-block alphabet text taken middle between front back n p f b all =
    takes-more alphabet text taken middle between back (between ++ front) p
    (takes-run alphabet front back middle between
    (sym (take-append-drop n middle) ∙ rw (← f, ← b) refl)
    (AllPass-from_list_all (is_symbol alphabet) front all) p.are_symbols)

-- a symbol with which the rest of a text begins is taken too
pub takes-one : (alphabet : Alphabet) (text taken middle between : List ℕ)
    → TakesSymbols alphabet text taken middle between → 1 ≤ length middle
    → is_symbol alphabet (slice_index middle 0) ≡ true
    → TakesSymbols alphabet text taken (slice_from 1 middle) (between ++ slice_index middle 0 ∷ [])
takes-one alphabet text taken [] between p some e = absurd (omega (arith, some))
takes-one alphabet text taken (x ∷ more) between p some e =
    rw (from-on 1 (x ∷ more))
    (takes-more alphabet text taken (x ∷ more) between more (between ++ x ∷ []) p
    (takes-run alphabet (x ∷ []) more (x ∷ more) between refl
    (All-cons (λ y. is_symbol alphabet y ≡ true) x [] e (All-nil (λ y. is_symbol alphabet y ≡ true))) p.are_symbols))
