-- Runs of base64 inside another text: in LDIF, mail, XML and JSON.
--
--   run    = 40symbol *([break] symbol) *2"="   with no symbol right before it
--   break  = *blank end *blank                  the symbols after it reach to the end of their line
--   end    = [carriage-return / "&#13;" / "&#xD;"] line-feed / ["\r"] "\n"
--   symbol =                                    a letter, a digit, "+" or "/": RFC 4648, section 4
use Rattle.std.specs.Prelude.{◌≡◌, ℕ, zero, suc, ◌+◌, ◌<◌, ◌≤◌, ◌==◌, Bool, true, false, ◌&&◌, ◌||◌, not}
use Rattle.std.specs.Prelude.{if◌then◌else◌, List, [], ◌∷◌, ◌++◌, drop, length, slice_index}
use Rattle.tlv_text.specs.Base64.{is_symbol}
use Rattle.tlv_text.specs.Characters.{is_quote}
use Rattle.tlv_text.specs.declared.base64_text.Alphabet.TheVariants.{Standard}

-- a space or a tab
abbrev pub is_run_blank : ℕ → Bool
is_run_blank x = (x == 32) || (x == 9)

-- a symbol comes first
abbrev pub begins_symbol : List ℕ → Bool
begins_symbol [] = false
begins_symbol (x ∷ text) = is_symbol Standard x

-- the end of a line comes first, or nothing; or blanks, and then one of these
abbrev pub is_at_line_end : List ℕ → Bool
is_at_line_end [] = true
is_at_line_end (x ∷ text) = (x == 10) || (x == 13) || (is_run_blank x && is_at_line_end text)

-- what comes after symbols that reach to the end of their line: the end of the line, `<`, `&`, `)`, a backtick, a quote,
-- a backslash, or padding. A `=` with a symbol after it is no padding, but stands after a name: `KEY=MIIE`
abbrev pub ends_symbols : List ℕ → Bool
ends_symbols [] = true
ends_symbols (x ∷ text) =
    if x == 61 then not (begins_symbol text)
    else (x == 60) || (x == 38) || (x == 41) || (x == 96) || (x == 92) || is_quote x || is_at_line_end (x ∷ text)

-- the leading symbols of a text reach to the end of their line
abbrev pub reaches_line_end : List ℕ → Bool
reaches_line_end [] = true
reaches_line_end (x ∷ text) = if is_symbol Standard x then reaches_line_end text else ends_symbols (x ∷ text)

-- the size of n characters and the blanks after them, if one or more symbols follow that reach to the end of their
-- line; otherwise 0
abbrev pub up_to_symbol : ℕ → List ℕ → ℕ
up_to_symbol n [] = 0
up_to_symbol n (x ∷ text) =
    if is_symbol Standard x && reaches_line_end text then n
    else (if is_run_blank x then up_to_symbol (1 + n) text else 0)

-- a carriage return as XML writes it, and a line feed: `&#13;` or `&#xD;`, here without its `&`
abbrev pub ends_reference : List ℕ → Bool
ends_reference (x ∷ y ∷ z ∷ s ∷ f ∷ text) =
    (x == 35) && (((y == 49) && (z == 51)) || ((y == 120) && (z == 68))) && (s == 59) && (f == 10)
ends_reference text = false

-- a line feed comes first
abbrev pub begins_feed : List ℕ → Bool
begins_feed [] = false
begins_feed (x ∷ text) = x == 10

-- the size of a line end as JSON and C write it, `\n` or `\r\n`, from its first backslash on; here without this backslash
abbrev pub escape_size : List ℕ → ℕ
escape_size (x ∷ y ∷ z ∷ text) =
    if x == 110 then 2 else (if (x == 114) && (y == 92) && (z == 110) then 4 else 0)
escape_size (x ∷ text) = if x == 110 then 2 else 0
escape_size [] = 0

-- the size of the line end that a text begins with, or 0: a line feed, perhaps with a carriage return before it, which
-- XML may write as above; or the same as JSON writes it. Base64 has no `&`, so a run with `&#13;` in it is refused there
abbrev pub line_end_size : List ℕ → ℕ
line_end_size [] = 0
line_end_size (x ∷ text) =
    if x == 10 then 1
    else (
    if (x == 13) && begins_feed text then 2
    else (if (x == 38) && ends_reference text then 6 else (if x == 92 then escape_size text else 0))
    )

-- the size of n blanks, a line end of this size, if it is not 0, and blanks after it, up to a symbol as above; or 0
abbrev pub across_line_end : ℕ → ℕ → List ℕ → ℕ
across_line_end n zero text = 0
across_line_end n (suc size) text = up_to_symbol (n + suc size) (drop (suc size) text)

-- the same, where more blanks may stand before the line end
abbrev pub break_after : ℕ → List ℕ → ℕ
break_after n [] = 0
break_after n (x ∷ text) =
    if is_run_blank x then break_after (n + 1) text else across_line_end n (line_end_size (x ∷ text)) (x ∷ text)

-- the size of the break with which a text begins: a line end with blanks around it. It is 0 if there is none, or if no
-- symbols follow that reach to the end of their line. So the first word of the line after base64 does not belong to
-- it: `cn` of `cn: x` in LDIF, `tls` of `tls.key: x` in YAML
abbrev pub break_size : List ℕ → ℕ
break_size text = break_after 0 text

-- the number of symbols that a text begins with, with nothing between them
abbrev pub leading_symbols : List ℕ → ℕ
leading_symbols [] = 0
leading_symbols (x ∷ text) = if is_symbol Standard x then 1 + leading_symbols text else 0

-- the number of characters of the symbols that a text begins with and of the breaks between them, after this number of
-- characters that still belong to a break
abbrev pub stretch_after : ℕ → List ℕ → ℕ
stretch_after n [] = 0
stretch_after zero (x ∷ text) =
    if is_symbol Standard x then 1 + stretch_after (break_size text) text else 0
stretch_after (suc n) (x ∷ text) = 1 + stretch_after n text

-- the same, from the first character on
abbrev pub stretch_size : List ℕ → ℕ
stretch_size text = stretch_after 0 text

-- the size of the padding that a text begins with: one or two `=`, or none
abbrev pub padding_size : List ℕ → ℕ
padding_size [] = 0
padding_size (x ∷ []) = if x == 61 then 1 else 0
padding_size (x ∷ y ∷ text) = if x == 61 then (if y == 61 then 2 else 1) else 0

-- no symbol stands right before the place
abbrev pub IsAfterNoSymbol : List ℕ → ℕ → Type 0
IsAfterNoSymbol text zero = Unit {0}
IsAfterNoSymbol text (suc k) = is_symbol Standard (slice_index text k) ≡ false

-- the first run of a text begins after `start` characters; the rest comes after its padding
pub record IsFirstRun (text : List ℕ) (start : ℕ) (run rest : List ℕ) : Type 0 where
  pub spelled : drop start text ≡ run ++ rest
  pub long : 40 ≤ leading_symbols (drop start text)
  pub size : length run ≡ stretch_size (drop start text)
      + padding_size (drop (stretch_size (drop start text)) (drop start text))
  pub alone : IsAfterNoSymbol text start
  pub no_sooner : (k : ℕ) → k < start → leading_symbols (drop k text) < 40

-- a text without runs
abbrev pub HasNoRun : List ℕ → Type 0
HasNoRun text = (k : ℕ) → leading_symbols (drop k text) < 40
