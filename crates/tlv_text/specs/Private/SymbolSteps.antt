-- Symbols of base64, without what is left out between them.
use Rattle.std.specs.Prelude.{◌≡◌, ℕ, ◌+◌, ◌%◌, ◌<◌, ◌≤◌, List, ◌++◌, length, slice_index, true, false}
use Rattle.std.specs.List.{AllPass}
use Rattle.base64.specs.GeneralPurpose.{IsBytes}
use Rattle.base64.specs.declared.decode.DecodeAllocError.{DecodeAllocError}
use Rattle.base64.specs.declared.decode.DecodeAllocError.TheVariants.{DecodeError, OutOfMemory}
use Rattle.tlv_text.specs.Base64.{SymbolsRead, base64_of, fits_after, is_symbol, no_symbols, padding_of, symbols_read}
use Rattle.tlv_text.specs.Plain.{is_line_end, is_plain_text}
use Rattle.tlv_text.specs.declared.base64_text.Alphabet.{Alphabet}
use Rattle.tlv_text.specs.declared.base64_text.Alphabet.TheVariants.{Standard}

-- each is a symbol of the alphabet
abbrev pub AreSymbols : Alphabet → List ℕ → Type 0
AreSymbols alphabet symbols = AllPass (is_symbol alphabet) symbols

-- symbols, and then what is read after them
abbrev pub symbols_then : List ℕ → SymbolsRead → SymbolsRead
symbols_then symbols more = record more { symbols = symbols ++ more.symbols }

-- the symbols with which a text begins, or the first of them, were taken, and come after others
pub record TakesSymbols (alphabet : Alphabet) (text taken rest symbols : List ℕ) : Type 0 where
  pub are_symbols : AreSymbols alphabet symbols
  pub read : symbols_then taken (symbols_read alphabet text) ≡ symbols_then symbols (symbols_read alphabet rest)
  pub moved : length rest + length symbols ≡ length text + length taken
  pub less : length rest ≤ length text
  pub plain : is_plain_text alphabet rest ≡ is_plain_text alphabet text

-- the octets that these symbols encode come after the others
pub record AreAdded (alphabet : Alphabet) (symbols old new : List ℕ) : Type 0 where
  pub more : List ℕ
  pub are_octets : IsBytes more
  pub symbols_of : base64_of alphabet more ≡ symbols
  pub added : new ≡ old ++ more

-- these symbols are not the base64 of any octets
abbrev pub IsOfNone : Alphabet → List ℕ → Type 0
IsOfNone alphabet symbols = (octets : List ℕ) → IsBytes octets → base64_of alphabet octets ≡ symbols → ⊥

-- an error of the decoder: memory is refused, or the symbols are not the base64 of any octets
abbrev pub IsFailure : Alphabet → List ℕ → DecodeAllocError → Type 0
IsFailure alphabet symbols (DecodeError error) = IsOfNone alphabet symbols
IsFailure alphabet symbols OutOfMemory = Unit {0}

-- the padding in `rest` may follow these symbols
abbrev pub PaddingFits : List ℕ → List ℕ → Type 0
PaddingFits symbols rest = fits_after (length symbols) (padding_of rest) ≡ true

-- these symbols come after the base64 of the octets, as the last of the text
pub record IsAtEnd (alphabet : Alphabet) (text octets symbols rest : List ℕ) : Type 0 where
  pub read : symbols_read alphabet text
      ≡ symbols_then (base64_of alphabet octets) (symbols_then symbols (no_symbols rest))
  pub are_octets : IsBytes octets
  pub whole : length octets % 3 ≡ 0
  pub less : length rest ≤ length text

-- a text is empty, or begins with a character that is neither a symbol nor a line end
abbrev pub IsPastSymbols : List ℕ → Type 0
IsPastSymbols rest = 0 < length rest
    → (is_symbol Standard (slice_index rest 0) ≡ false) × (is_line_end (slice_index rest 0) ≡ false)
