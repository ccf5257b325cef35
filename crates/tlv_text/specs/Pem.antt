-- Blocks of PEM in a text, read laxly (RFC 7468): they may begin and end anywhere in a line.
use Rattle.std.specs.Prelude.{◌≡◌, ◌⊎◌, ℕ, ◌<◌, ◌==◌, Bool, true, ◌&&◌, not, nat_le}
use Rattle.std.specs.Prelude.{List, [], ◌++◌, codes, drop, length}
use Rattle.std.specs.List.{list_all}
use Rattle.memchr.specs.Find.{OccursAt}

-- what comes before a label
abbrev pub begin_marker : List ℕ
begin_marker = codes "-----BEGIN "

-- what comes after a label, and where a body ends
abbrev pub dashes : List ℕ
dashes = codes "-----"

-- printable, and no hyphen
abbrev pub is_label_character : ℕ → Bool
is_label_character x = nat_le 32 x && nat_le x 126 && not (x == 45)

-- 1 to 64 such characters
abbrev pub is_label : List ℕ → Bool
is_label label = list_all is_label_character label && nat_le 1 (length label) && nat_le (length label) 64

-- a text begins with the marker of a block that has this label; `after` comes after it
pub record BeginsBlock (text label after : List ℕ) : Type 0 where
  pub spelled : text ≡ begin_marker ++ (label ++ (dashes ++ after))
  pub has_label : is_label label ≡ true

-- after a marker comes a body, up to the next five hyphens or up to the end of the text
pub record EndsBody (after body rest : List ℕ) : Type 0 where
  pub spelled : after ≡ body ++ rest
  pub no_sooner : (k : ℕ) → k < length body → OccursAt after dashes k → ⊥
  pub end : (rest ≡ []) ⊎ OccursAt after dashes (length body)

-- the first block of a text begins after `start` characters; the rest of the text comes after its body
pub record IsFirstBlock (text : List ℕ) (start : ℕ) (label body rest : List ℕ) : Type 0 where
  pub after : List ℕ
  pub begins : BeginsBlock (drop start text) label after
  pub ends : EndsBody after body rest
  pub no_sooner : (k : ℕ) → k < start → (other others : List ℕ) → BeginsBlock (drop k text) other others → ⊥

-- a text without blocks
abbrev pub HasNoBlock : List ℕ → Type 0
HasNoBlock text = (k : ℕ) → (label after : List ℕ) → BeginsBlock (drop k text) label after → ⊥
