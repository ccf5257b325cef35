-- Pieces of a text, one after another.
use Rattle.std.proofs.Common.{◌≡◌, ℕ, zero, suc, ◌≤◌, Bool, true, false, ◌&&◌, not, List, [], ◌∷◌, ◌++◌, length}
use Rattle.std.proofs.Common.{drop, refl, ap, sym, ◌∙◌, subst, append_assoc, arith, Option, Some, None, slice_index}
use Rattle.std.specs.Prelude.{if◌then◌else◌, nat_le}
use Rattle.std.proofs.lemmas.Bool.{leb-false}
use Rattle.tlv_text.proofs.Slices.{from-on, slice_from}
use Rattle.tlv_text.specs.TextRead.{TextRead, nothing_read, octets_then}
use Rattle.tlv_text.specs.Tokens.{Piece, before_after, begins_like_token, inside_after, is_word, piece_of, pieces}
use Rattle.tlv_text.specs.Tokens.{pieces_read, token_at, tokens_in}
use Rattle.tlv_text.specs.declared.tokens.Token.{Token}

-- what belongs to a token has no pieces of its own
inside-skipped : (n before : ℕ) (text : List ℕ) → pieces n before text ≡ pieces 0 before (drop n text)
inside-skipped zero before text = refl
inside-skipped (suc n) before [] = refl
inside-skipped (suc n) before (x ∷ text) = inside-skipped n before text

after-one : (x : ℕ) (text : List ℕ) → slice_from 1 (x ∷ text) ≡ text
after-one x text = from-on 1 (x ∷ text)

pub pieces-cons : (before x : ℕ) (text : List ℕ) (found : Option Token) → found ≡ token_at before (x ∷ text)
    → pieces 0 before (x ∷ text)
    ≡ piece_of found (begins_like_token before (x ∷ text)) x text
    ∷ pieces (inside_after found) (before_after found x) text
pieces-cons before x text found e =
    ap (λ (o : Option Token). piece_of o (begins_like_token before (x ∷ text)) x text
    ∷ pieces (inside_after o) (before_after o x) text) (sym e)

-- a token comes first
pub token-first : (before : ℕ) (text : List ℕ) (t : Token) → 1 ≤ length text → Some t ≡ token_at before text
    → pieces 0 before text ≡ Piece.token t.octet ∷ pieces 0 32 (slice_from t.more (slice_from 1 text))
token-first before [] t one e = absurd (omega arith)
token-first before (x ∷ text) t one e =
    pieces-cons before x text (Some t) e
    ∙ ap (λ (ps : List Piece). Piece.token t.octet ∷ ps) (inside-skipped t.more 32 text
    ∙ ap (λ (rest : List ℕ). pieces 0 32 rest)
    (sym (ap (slice_from t.more) (after-one x text) ∙ from-on t.more text)))

-- ---- what is read

pub octets-and_more : (a b : List ℕ) (r : TextRead) → octets_then a (octets_then b r) ≡ octets_then (a ++ b) r
octets-and_more a b r =
    ap (λ (octets : List ℕ). record { octets = octets; rest = r.rest }) (sym (append_assoc a b r.octets))

-- a token is read after others
pub token-read : (all : TextRead) (begun : Bool) (before : ℕ) (octets text : List ℕ) (t : Token) → 1 ≤ length text
    → Some t ≡ token_at before text
    → all ≡ octets_then octets (pieces_read begun (pieces 0 before text))
    → all ≡ octets_then (octets ++ t.octet ∷ [])
    (pieces_read true (pieces 0 32 (slice_from t.more (slice_from 1 text))))
token-read all begun before octets text t one e i =
    let more : List Piece = pieces 0 32 (slice_from t.more (slice_from 1 text)) in
    i
    ∙ ap (λ (ps : List Piece). octets_then octets (pieces_read begun ps)) (token-first before text t one e)
    ∙ octets-and_more octets (t.octet ∷ []) (pieces_read true more)

-- where no token comes, nothing is refused but what begins like one
no-token-words : (ps : List Piece) → tokens_in ps ≡ 0 → pieces_read true ps ≡ pieces_read false ps
no-token-words [] e = refl
no-token-words (Piece.token octet ∷ ps) e = absurd (omega (arith, e))
no-token-words (Piece.broken x text ∷ ps) e = refl
no-token-words (Piece.other x text ∷ ps) e =
    not-before-tokens (is_word x) ps e ∙ no-token-words ps e
  where
    not-before-tokens : (word : Bool) (ps : List Piece) → tokens_in ps ≡ 0
        → (if true && word && nat_le 1 (tokens_in ps) then nothing_read (x ∷ text) else pieces_read true ps)
        ≡ pieces_read true ps
    not-before-tokens true ps e = rw e refl
    not-before-tokens false ps e = refl

behind-tokens : (ps : List Piece) (more : List ℕ) (begun word : Bool)
    → (begun && (word && nat_le 1 (tokens_in ps))) ≡ false
    → (if begun && word && nat_le 1 (tokens_in ps) then nothing_read more else pieces_read begun ps)
    ≡ pieces_read (begun && not word) ps
behind-tokens ps more false word e = refl
behind-tokens ps more true false e = refl
behind-tokens ps more true true e =
    rw e (no-token-words ps (omega (arith, leb-false 1 (tokens_in ps) e)))

none-first : (before x : ℕ) (text : List ℕ) (like : Bool) → None ≡ token_at before (x ∷ text)
    → begins_like_token before (x ∷ text) ≡ like
    → pieces 0 before (x ∷ text) ≡ piece_of None like x text ∷ pieces 0 x text
none-first before x text like e l =
    pieces-cons before x text None e
    ∙ ap (λ (b : Bool). piece_of None b x text ∷ pieces 0 x text) l

-- a character is passed over
pub other-read : (all : TextRead) (begun : Bool) (before : ℕ) (octets text : List ℕ) → 1 ≤ length text
    → None ≡ token_at before text → begins_like_token before text ≡ false
    → (begun && (is_word (slice_index text 0)
    && nat_le 1 (tokens_in (pieces 0 (slice_index text 0) (slice_from 1 text))))) ≡ false
    → all ≡ octets_then octets (pieces_read begun (pieces 0 before text))
    → all ≡ octets_then octets (pieces_read (begun && not (is_word (slice_index text 0)))
    (pieces 0 (slice_index text 0) (slice_from 1 text)))
other-read all begun before octets [] one e l w i = absurd (omega arith)
other-read all begun before octets (x ∷ text) one e l w i =
    let from : slice_from 1 (x ∷ text) ≡ text = after-one x text in
    let ps : List Piece = pieces 0 x text in
    let here : (begun && (is_word x && nat_le 1 (tokens_in ps))) ≡ false =
    subst (λ (t : List ℕ). (begun && (is_word x && nat_le 1 (tokens_in (pieces 0 x t)))) ≡ false) from w in
    i
    ∙ ap (λ (ps : List Piece). octets_then octets (pieces_read begun ps)) (none-first before x text false e l)
    ∙ ap (octets_then octets) (behind-tokens ps (x ∷ text) begun (is_word x) here)
    ∙ ap (λ (t : List ℕ). octets_then octets (pieces_read (begun && not (is_word x)) (pieces 0 x t))) (sym from)
