-- Which characters make a text.
use Rattle.std.proofs.Common.{◌≡◌, Bool, true, false, ◌&&◌, not, List, ℕ, ap, length, min, sym, take, ◌∙◌}
use Rattle.std.proofs.Math.Bool.{and-true}
use Rattle.std.proofs.lemmas.Bool.{false_from_ne_true}
use Rattle.std.proofs.lemmas.List.{take_min}
use Rattle.std.proofs.lemmas.Str.{IsUtf8-from_is_utf8, is_utf8-from_IsUtf8}
use Rattle.std.specs.List.{list_any}
use Rattle.std.specs.Prelude.{IsUtf8}
use Rattle.std.specs.Str.{is_utf8}
use Rattle.tlv_text.specs.Taken.{has_controls, is_other_text, is_seen}

-- the characters that are looked at
pub first-characters : (p : ℕ → Bool) (text : List ℕ) (n : ℕ) → n ≡ min 4096 (length text)
    → list_any p (take n text) ≡ list_any p (take 4096 text)
first-characters p text n least =
    ap (λ (k : ℕ). list_any p (take k text)) least ∙ ap (list_any p) (take_min 4096 text)

-- what is UTF-8 and has no control character is a text if it has a character that is seen
pub utf8-text : (text : List ℕ) → IsUtf8 text → has_controls text ≡ false → list_any is_seen text ≡ is_other_text text
utf8-text text utf8 none =
    sym
    (ap (λ (b : Bool). b && list_any is_seen text && not (has_controls text)) (is_utf8-from_IsUtf8 text utf8)
    ∙ ap (λ (b : Bool). true && list_any is_seen text && not b) none
    ∙ and-true (list_any is_seen text))

-- what is not UTF-8 is no text
pub no_utf8-text : (text : List ℕ) → (IsUtf8 text → ⊥) → false ≡ is_other_text text
no_utf8-text text other =
    sym
    (ap (λ (b : Bool). b && list_any is_seen text && not (has_controls text))
    (false_from_ne_true (is_utf8 text) (λ e. other (IsUtf8-from_is_utf8 text e))))
