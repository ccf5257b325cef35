-- What an input is taken for has labels that are printable ASCII, however deep in base64 it is.
use Rattle.std.proofs.Common.{ℕ, zero, suc, Bool, true, false, List, [], ◌∷◌, Option, map, subst, sym}
use Rattle.std.proofs.Common.{Ok, refl}
use Rattle.std.specs.Prelude.{if◌then◌else◌}
use Rattle.std.specs.List.{All}
use Rattle.std.proofs.lemmas.List.Elements.{All-append, All-cons, All-filter, All-head, All-map, All-nil, All-tail}
use Rattle.tlv_text.specs.Blocks.{BlockValue}
use Rattle.tlv_text.specs.declared.block.Form.{Form}
use Rattle.tlv_text.specs.Taken.{AreFirstBlocks, BlocksCount, Counts, HasBlocks, HasInner, IsTakenAs, IsTakenFor}
use Rattle.tlv_text.specs.Taken.{RunsCount, TakenValue, TextBlocks, in_layer, is_present, taken_as, text_of}
use Rattle.tlv_text.specs.declared.taken.TakenFor.{TakenFor}
use Rattle.tlv_text.specs.declared.taken.TakenFor.TheVariants.{Text}
use Rattle.tlv_view_program.specs.declared.request.InputForm.{InputForm}
use Rattle.tlv_view_program.specs.declared.request.InputForm.TheVariants as asked
use Rattle.tlv_view_program.specs.InputBlocks.{TakesInput}
use Rattle.tlv_view_program.proofs.ShownLemmas.ShownLabels.{HasShownLabel, blocks-shown, first_words-shown}

abbrev pub IsShownTaken : TakenValue → Type 0
IsShownTaken t = HasShownLabel t.block

none-shown : All IsShownTaken []
none-shown = All-nil IsShownTaken

one-shown : (t : TakenValue) → IsShownTaken t → All IsShownTaken (t ∷ [])
one-shown t shown = All-cons IsShownTaken t [] shown none-shown

if-shown : (counts : Bool) (t : TakenValue) → IsShownTaken t → All IsShownTaken (if counts then t ∷ [] else [])
if-shown true t shown = one-shown t shown
if-shown false t shown = none-shown

all_taken-shown : (taken_for : TakenFor) (bs : List BlockValue) → All HasShownLabel bs
    → All IsShownTaken (map (taken_as taken_for) bs)
all_taken-shown taken_for bs all = All-map IsShownTaken (taken_as taken_for) bs all

-- ---- blocks that count

-- the blocks of what is base64 in a text are shown
abbrev pub ShowsInner : (List ℕ → List TakenValue → Type 0) → Type 0
ShowsInner Inner = (octets : List ℕ) (ts : List TakenValue) → Inner octets ts → All IsShownTaken ts

module _ (Inner : List ℕ → List TakenValue → Type 0) (inner : ShowsInner Inner) where
  has_inner-shown : (whole : Bool) (octets : List ℕ) (ts : List TakenValue) → HasInner Inner whole octets ts
      → All IsShownTaken ts
  has_inner-shown true octets ts has = inner octets ts has
  has_inner-shown false octets ts none = subst (λ (l : List TakenValue). All IsShownTaken l) (sym none) none-shown

  counts-shown : (form : Form) (layer : Option ℕ) (b : BlockValue) (ts : List TakenValue) → HasShownLabel b
      → Counts Inner form layer b ts → All IsShownTaken ts
  counts-shown form layer b _ shown (Counts.nothing none) = none-shown
  counts-shown form layer b _ shown (Counts.text t ts some has) =
      All-map IsShownTaken (in_layer layer) (t ∷ ts) (has_inner-shown _ _ _ has)
  counts-shown form layer b _ shown (Counts.encodings some has are) = one-shown _ shown
  counts-shown form layer b _ shown (Counts.other some has are) = none-shown

  runs-shown : (bs : List BlockValue) (ts : List TakenValue) → All HasShownLabel bs → RunsCount Inner bs ts
      → All IsShownTaken ts
  runs-shown _ _ all RunsCount.no_more = none-shown
  runs-shown _ _ all (RunsCount.next {b} {bs} {ts} {more} counts others) =
      All-append IsShownTaken ts more (counts-shown _ _ b ts (All-head HasShownLabel b bs all) counts)
      (runs-shown bs more (All-tail HasShownLabel b bs all) others)

  blocks_count-shown : (form : Form) (bs : List BlockValue) (ts : List TakenValue) → All HasShownLabel bs
      → BlocksCount Inner form bs ts → All IsShownTaken ts
  blocks_count-shown _ _ _ all (BlocksCount.pem {bs}) =
      all_taken-shown _ _ (All-filter (λ (b : BlockValue). is_present b.state) HasShownLabel bs all)
  blocks_count-shown _ _ _ all (BlocksCount.dump {b} counts) = if-shown _ _ (All-head HasShownLabel b [] all)
  blocks_count-shown _ _ _ all (BlocksCount.hex {b}) = if-shown _ _ (All-head HasShownLabel b [] all)
  blocks_count-shown _ _ _ all (BlocksCount.numbers {b}) = if-shown _ _ (All-head HasShownLabel b [] all)
  blocks_count-shown _ _ _ all (BlocksCount.base64 {b} {ts} complete counts) =
      counts-shown _ _ b ts (All-head HasShownLabel b [] all) counts
  blocks_count-shown _ _ _ all (BlocksCount.no_base64 {b} not) = none-shown
  blocks_count-shown _ _ _ all (BlocksCount.runs {bs} {ts} counts few) = runs-shown bs ts all counts

  first_blocks-shown : (text : List ℕ) (forms : List Form) (ts : List TakenValue)
      → AreFirstBlocks Inner text forms ts → All IsShownTaken ts
  first_blocks-shown text _ _ AreFirstBlocks.no_form = none-shown
  first_blocks-shown text _ _ (AreFirstBlocks.here {form} {forms} {bs} {t} {ts} are counts) =
      blocks_count-shown form bs (t ∷ ts) (blocks-shown text form bs are.are) counts
  first_blocks-shown text _ _ (AreFirstBlocks.later {form} {forms} {bs} {ts} are counts others) =
      first_blocks-shown text forms ts others

  has_blocks-shown : (octets : List ℕ) (ts : List TakenValue) → HasBlocks Inner octets ts → All IsShownTaken ts
  has_blocks-shown octets _ (HasBlocks.control has) = none-shown
  has_blocks-shown octets _ (HasBlocks.text {ts} has are) = first_blocks-shown _ _ ts are

text_blocks-shown : (layers : ℕ) → ShowsInner (TextBlocks layers)
text_blocks-shown zero octets ts none = subst (λ (l : List TakenValue). All IsShownTaken l) (sym none) none-shown
text_blocks-shown (suc layers) octets ts has =
    has_blocks-shown (TextBlocks layers) (text_blocks-shown layers) octets ts has

-- ---- inputs

taken_for-shown : (octets : List ℕ) (ts : List TakenValue) → IsTakenFor octets ts → All IsShownTaken ts
taken_for-shown octets _ (IsTakenFor.surely_sound are) = one-shown _ refl
taken_for-shown octets _ (IsTakenFor.text {t} {ts} unsure blocks) = text_blocks-shown 4 octets (t ∷ ts) blocks
taken_for-shown octets _ (IsTakenFor.control has) = one-shown _ refl
taken_for-shown octets _ (IsTakenFor.sound none are) = one-shown _ refl
taken_for-shown octets _ (IsTakenFor.other_text none not is) = one-shown _ (first_words-shown (text_of octets))
taken_for-shown octets _ (IsTakenFor.no_text none is) = one-shown _ refl

taken_as-shown : (form : Form) (octets : List ℕ) (ts : List TakenValue) → IsTakenAs form octets ts
    → All IsShownTaken ts
taken_as-shown form octets ts is =
    subst (λ (l : List TakenValue). All IsShownTaken l) (sym is.taken)
    (all_taken-shown (Text form) is.blocks (blocks-shown (text_of octets) form is.blocks is.are_blocks))

pub taken-shown : (form : InputForm) (octets : List ℕ) (ts : List TakenValue) → TakesInput form octets (Ok ts)
    → All IsShownTaken ts
taken-shown asked.Any octets ts is = taken_for-shown octets ts is
taken-shown asked.Octets octets ts is =
    subst (λ (l : List TakenValue). All IsShownTaken l) (sym is) (one-shown _ refl)
taken-shown (asked.Text form) octets ts is = taken_as-shown form octets ts is
