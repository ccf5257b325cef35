-- Steps of looking for tokens.
use Rattle.std.specs.Prelude.{◌≡◌, ◌<◌, ℕ, zero, suc, true, List, [], ◌∷◌, length, Option, None, is_some}
use Rattle.memchr.specs.Find.{OccursAt}
use Rattle.tlv_text.specs.Tokens.{token_at}
use Rattle.tlv_text.specs.declared.tokens.Token.{Token}

-- the token that begins at this place of a text, if no token begins before it; the second argument is the character
-- before the text
abbrev pub token_from : ℕ → ℕ → List ℕ → Option Token
token_from zero before text = token_at before text
token_from (suc n) before [] = None
token_from (suc n) before (x ∷ text) = token_from n x text

-- a token begins at this place, or it is the end of the text
abbrev pub IsTokenOrEnd : ℕ → List ℕ → ℕ → Type 0
IsTokenOrEnd before text n = n < length text → is_some (token_from n before text) ≡ true

-- before this place, no token begins with this mark
abbrev pub NoneMarked : List ℕ → ℕ → List ℕ → ℕ → Type 0
NoneMarked mark before text n = (k : ℕ) → k < n → OccursAt text mark k → token_from k before text ≡ None
