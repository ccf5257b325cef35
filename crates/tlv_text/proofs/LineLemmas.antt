-- Line feeds of a text and of its parts.
use Rattle.std.proofs.Common.{◌≡◌, ℕ, ◌+◌, ◌-◌, ◌==◌, ◌≤◌, Bool, true, false, List, [], ◌∷◌, ◌++◌}
use Rattle.std.proofs.Common.{◌∙◌, arith, drop, length, take, refl, ap, sym}
use Rattle.std.specs.Prelude.{if◌then◌else◌}
use Rattle.std.proofs.lemmas.List.{take-append-drop}
use Rattle.std.proofs.Math.Seq.{take-add}
use Rattle.tlv_text.specs.Blocks.{line_at, line_feeds}

-- how many line feeds a character is
abbrev feeds_by : Bool → ℕ → ℕ
feeds_by is_feed more = if is_feed then 1 + more else more

feeds-more : (b : Bool) (m n : ℕ) → feeds_by b (m + n) ≡ feeds_by b m + n
feeds-more true m n = omega arith
feeds-more false m n = refl

feeds-few : (b : Bool) (m n : ℕ) → m ≤ n → feeds_by b m ≤ 1 + n
feeds-few true m n less = omega arith
feeds-few false m n less = omega arith

pub line_feeds-append : (xs ys : List ℕ) → line_feeds (xs ++ ys) ≡ line_feeds xs + line_feeds ys
line_feeds-append [] ys = omega arith
line_feeds-append (x ∷ xs) ys =
    ap (feeds_by (x == 10)) (line_feeds-append xs ys) ∙ feeds-more (x == 10) (line_feeds xs) (line_feeds ys)

pub line_feeds-le : (xs : List ℕ) → line_feeds xs ≤ length xs
line_feeds-le [] = omega arith
line_feeds-le (x ∷ xs) = omega (arith, feeds-few (x == 10) (line_feeds xs) (length xs) (line_feeds-le xs))

-- those of a text's front and of its back
pub line_feeds-parts : (n : ℕ) (text : List ℕ) → line_feeds text ≡ line_feeds (take n text) + line_feeds (drop n text)
line_feeds-parts n text =
    ap line_feeds (sym (take-append-drop n text)) ∙ line_feeds-append (take n text) (drop n text)

-- from one place to another, the line feeds between them are added
pub line-further : (text : List ℕ) (from place : ℕ) → from ≤ place
    → line_at text from + line_feeds (take (place - from) (drop from text)) ≡ line_at text place
line-further text from place less =
    let parts = ap line_feeds (take-add from (place - from) text)
    ∙ line_feeds-append (take from text) (take (place - from) (drop from text)) in
    let whole : line_feeds (take (from + (place - from)) text) ≡ line_feeds (take place text) =
    ap (λ (n : ℕ). line_feeds (take n text)) (omega arith) in
    omega (arith, parts, whole)
