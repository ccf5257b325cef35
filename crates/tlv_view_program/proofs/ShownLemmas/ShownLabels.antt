-- Labels of blocks are printable ASCII, also the first words that stand in their place.
use Rattle.std.proofs.Common.{◌≡◌, inl, inr, ℕ, Bool, true, false, ◌||◌, eqb, List, [], ◌∷◌, ◌++◌}
use Rattle.std.proofs.Common.{Option, Some, None, map, take, refl, sym, ◌∙◌}
use Rattle.std.specs.List.{All, list_all}
use Rattle.std.proofs.lemmas.Bool.{and_parts, cases_Bool}
use Rattle.std.proofs.lemmas.List.Elements.{All-cons, All-nil}
use Rattle.std.proofs.lemmas.List.Folds.{list_all-append}
use Rattle.tlv_value.specs.Units.{is_printable}
use Rattle.tlv_text.specs.Blocks.{AreBlocks, ArePemBlocks, AreRunBlocks, BlockValue, IsBase64Block, IsPemBlock}
use Rattle.tlv_text.specs.Blocks.{list_block, or_absent}
use Rattle.tlv_text.specs.Numbers.{numbers_read}
use Rattle.tlv_text.specs.TextRead.{PartRead}
use Rattle.tlv_text.specs.Pem.{is_label, is_label_character}
use Rattle.tlv_text.specs.declared.block.Form.{Form}
use Rattle.tlv_text.specs.Taken.{first_words, shown_character}
use Rattle.tlv_reasons.specs.Laws.{AreShown, is_shown_octet}

or-second : (a b : Bool) → b ≡ true → (a || b) ≡ true
or-second true b e = refl
or-second false b e = e

pub printable-shown : (x : ℕ) → is_printable x ≡ true → is_shown_octet x ≡ true
printable-shown x is = or-second (eqb x 10) (is_printable x) is

-- one text after another
pub joined-shown : (xs ys : List ℕ) → AreShown xs → AreShown ys → AreShown (xs ++ ys)
joined-shown xs ys first second = simp (list_all-append, first, second)

-- the front of a text that is shown
pub front-shown : (front back : List ℕ) → AreShown (front ++ back) → AreShown front
front-shown front back shown = (and_parts _ _ (sym (list_all-append is_shown_octet front back) ∙ shown)).0

pub all_printable-shown : (octets : List ℕ) → list_all is_printable octets ≡ true → AreShown octets
all_printable-shown [] all = refl
all_printable-shown (x ∷ octets) all =
    rw (printable-shown x (and_parts _ _ all).0) (all_printable-shown octets (and_parts _ _ all).1)

-- ---- labels

characters-shown : (label : List ℕ) → list_all is_label_character label ≡ true → AreShown label
characters-shown [] all = refl
characters-shown (x ∷ label) all =
    let both = and_parts _ _ all in
    rw (printable-shown x (and_parts _ _ both.0).0) (characters-shown label both.1)

label-shown : (label : List ℕ) → is_label label ≡ true → AreShown label
label-shown label is = characters-shown label (and_parts _ _ (and_parts _ _ is).0).0

character-shown : (x : ℕ) → is_shown_octet (shown_character x) ≡ true
character-shown x = elim (cases_Bool (is_printable x)) [
  | inl printable ↦ rw printable (printable-shown x printable)
  | inr other ↦ rw other refl
]

characters_of-shown : (text : List ℕ) → AreShown (map shown_character text)
characters_of-shown [] = refl
characters_of-shown (x ∷ text) = rw (character-shown x) (characters_of-shown text)

pub first_words-shown : (text : List ℕ) → AreShown (first_words text)
first_words-shown text = characters_of-shown (take 32 text)

-- ---- blocks

abbrev pub HasShownLabel : BlockValue → Type 0
HasShownLabel b = AreShown b.label

pem_block-shown : (text : List ℕ) (place : ℕ) (label body rest : List ℕ) (b : BlockValue) → is_label label ≡ true
    → IsPemBlock text place label body rest b → HasShownLabel b
pem_block-shown text place label body rest _ is (IsPemBlock.encrypted e) = label-shown label is
pem_block-shown text place label body rest _ is (IsPemBlock.decoded octets refused e reads) = label-shown label is

pem_blocks-shown : (text part : List ℕ) (bs : List BlockValue) → ArePemBlocks text part bs → All HasShownLabel bs
pem_blocks-shown text part _ (ArePemBlocks.no_more none) = All-nil HasShownLabel
pem_blocks-shown text part _ (ArePemBlocks.next start label body rest {b} {bs} first is are) =
    All-cons HasShownLabel b bs (pem_block-shown text _ label body rest b first.begins.has_label is)
    (pem_blocks-shown text rest bs are)

run_blocks-shown : (text part : List ℕ) (bs : List BlockValue) → AreRunBlocks text part bs → All HasShownLabel bs
run_blocks-shown text part _ (AreRunBlocks.no_more none) = All-nil HasShownLabel
run_blocks-shown text part _ (AreRunBlocks.next start run rest octets refused {bs} first reads are) =
    All-cons HasShownLabel _ bs refl (run_blocks-shown text rest bs are)

one-shown : (b : BlockValue) → HasShownLabel b → All HasShownLabel (b ∷ [])
one-shown b shown = All-cons HasShownLabel b [] shown (All-nil HasShownLabel)

or_absent-shown : (bs : List BlockValue) → All HasShownLabel bs → All HasShownLabel (or_absent bs)
or_absent-shown [] all = one-shown _ refl
or_absent-shown (b ∷ bs) all = all

list-shown : (text : List ℕ) (list : Option PartRead) → HasShownLabel (list_block text list)
list-shown text (Some list) = refl
list-shown text None = refl

base64-shown : (text : List ℕ) (b : BlockValue) → IsBase64Block text b → HasShownLabel b
base64-shown text _ (IsBase64Block.base64 octets refused reads) = refl

pub blocks-shown : (text : List ℕ) (form : Form) (bs : List BlockValue) → AreBlocks text form bs → All HasShownLabel bs
blocks-shown text _ _ (AreBlocks.pem {bs} are) = or_absent-shown bs (pem_blocks-shown text text bs are)
blocks-shown text _ _ AreBlocks.dump = one-shown _ refl
blocks-shown text _ _ AreBlocks.hex = one-shown _ refl
blocks-shown text _ _ AreBlocks.numbers = one-shown _ (list-shown text (numbers_read text))
blocks-shown text _ _ (AreBlocks.base64 {b} is) = one-shown b (base64-shown text b is)
blocks-shown text _ _ (AreBlocks.runs {bs} are) = or_absent-shown bs (run_blocks-shown text text bs are)
