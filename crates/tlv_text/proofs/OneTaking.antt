-- An input is taken for one thing.
use Rattle.std.proofs.Common.{◌≡◌, ℕ, zero, suc, List, [], ◌∷◌, ◌++◌, Option, Some, None, Bool, true, false, ◌∙◌, ◌&&◌, ap}
use Rattle.std.proofs.Common.{if◌then◌else◌, map, not, refl, subst, sym}
use Rattle.std.specs.List.{list_any}
use Rattle.std.specs.Str.{is_utf8}
use Rattle.std.proofs.lemmas.Bool.{and_parts}
use Rattle.tlv_text.specs.Laws.{InputsAreTakenForOneThing}
use Rattle.tlv_text.specs.Taken.{AreFirstBlocks, AreFittingBlocks, AreTakenAsEncodings, BlocksCount, Counts, DumpCounts}
use Rattle.tlv_text.specs.Taken.{HasBlocks, HasInner, IsTakenFor, RunsCount, TakenValue, TextBlocks, all_forms}
use Rattle.tlv_text.specs.Taken.{has_controls, in_layer, is_other_text, is_seen, taken_as, text_of}
use Rattle.tlv_text.proofs.OneBlocks.{one-list_of_blocks}
use Rattle.tlv_text.specs.Blocks.{BlockValue}
use Rattle.tlv_text.specs.declared.block.Form.{Form}
use Rattle.tlv_text.specs.declared.block.Form.TheVariants.{Base64, Dump, Runs}
use Rattle.tlv_text.specs.declared.taken.TakenFor.TheVariants.{Text}

-- octets have one list of blocks
abbrev HaveOne : (List ℕ → List TakenValue → Type 0) → Type 0
HaveOne Inner = (octets : List ℕ) (ts us : List TakenValue) → Inner octets ts → Inner octets us → ts ≡ us

-- a list with a first element is not empty
no-first : {X : Type 0} (x : X) (xs : List X) → x ∷ xs ≡ [] → ⊥
no-first x xs e = absurd (cc (e))

module _ (Inner : List ℕ → List TakenValue → Type 0) (one : HaveOne Inner) where
  one-inner : (whole : Bool) (octets : List ℕ) (ts us : List TakenValue) → HasInner Inner whole octets ts
      → HasInner Inner whole octets us → ts ≡ us
  one-inner true octets ts us p q = one octets ts us p q
  one-inner false octets ts us p q = p ∙ sym q

  one-answer : (octets : List ℕ) → AreTakenAsEncodings octets true → AreTakenAsEncodings octets false → ⊥
  one-answer octets (AreTakenAsEncodings.sound is) (AreTakenAsEncodings.neither unsound other) = unsound is
  one-answer octets (AreTakenAsEncodings.begins is) (AreTakenAsEncodings.neither unsound other) = absurd (cc (is, other))

  -- whether octets are taken for encodings, and whether a dump counts, has one answer
  one-encodings : (octets : List ℕ) (a c : Bool) → AreTakenAsEncodings octets a → AreTakenAsEncodings octets c
      → a ≡ c
  one-encodings octets true true are also = refl
  one-encodings octets true false are not = absurd (one-answer octets are not)
  one-encodings octets false true not are = absurd (one-answer octets are not)
  one-encodings octets false false not also = refl

  one-dump : (b : BlockValue) (a c : Bool) → DumpCounts b a → DumpCounts b c → a ≡ c
  one-dump b _ _ (DumpCounts.not_ended not) (DumpCounts.not_ended also) = refl
  one-dump b _ _ (DumpCounts.not_ended not) (DumpCounts.ended c is are) = absurd (cc (not, is))
  one-dump b _ _ (DumpCounts.ended a is are) (DumpCounts.not_ended not) = absurd (cc (not, is))
  one-dump b _ _ (DumpCounts.ended a is are) (DumpCounts.ended c same also) = one-encodings b.octets a c are also

  one-count : (form : Form) (layer : Option ℕ) (b : BlockValue) (ts us : List TakenValue)
      → Counts Inner form layer b ts → Counts Inner form layer b us → ts ≡ us
  one-count form layer b _ _ (Counts.nothing none) (Counts.nothing also) = refl
  one-count form layer b _ _ (Counts.nothing none) (Counts.text u us some inner) = absurd (cc (none, some))
  one-count form layer b _ _ (Counts.nothing none) (Counts.encodings some inner are) = absurd (cc (none, some))
  one-count form layer b _ _ (Counts.nothing none) (Counts.other some inner are) = refl
  one-count form layer b _ _ (Counts.text t ts some inner) (Counts.nothing none) = absurd (cc (none, some))
  one-count form layer b _ _ (Counts.text t ts some inner) (Counts.text u us also more) =
      ap (map (in_layer layer)) (one-inner _ b.octets (t ∷ ts) (u ∷ us) inner more)
  one-count form layer b _ _ (Counts.text t ts some inner) (Counts.encodings also none are) =
      absurd (no-first t ts (one-inner _ b.octets (t ∷ ts) [] inner none))
  one-count form layer b _ _ (Counts.text t ts some inner) (Counts.other also none are) =
      absurd (no-first t ts (one-inner _ b.octets (t ∷ ts) [] inner none))
  one-count form layer b _ _ (Counts.encodings some none are) (Counts.nothing empty) = absurd (cc (empty, some))
  one-count form layer b _ _ (Counts.encodings some none are) (Counts.text u us also inner) =
      absurd (no-first u us (one-inner _ b.octets (u ∷ us) [] inner none))
  one-count form layer b _ _ (Counts.encodings some none are) (Counts.encodings also empty same) = refl
  one-count form layer b _ _ (Counts.encodings some none are) (Counts.other also empty not) =
      absurd (one-answer b.octets are not)
  one-count form layer b _ _ (Counts.other some none are) (Counts.nothing empty) = refl
  one-count form layer b _ _ (Counts.other some none are) (Counts.text u us also inner) =
      absurd (no-first u us (one-inner _ b.octets (u ∷ us) [] inner none))
  one-count form layer b _ _ (Counts.other some none not) (Counts.encodings also empty are) =
      absurd (one-answer b.octets are not)
  one-count form layer b _ _ (Counts.other some none are) (Counts.other also empty same) = refl

  one-run_count : (bs : List BlockValue) (ts us : List TakenValue) → RunsCount Inner bs ts → RunsCount Inner bs us
      → ts ≡ us
  one-run_count _ _ _ RunsCount.no_more RunsCount.no_more = refl
  one-run_count _ _ _ (RunsCount.next {b} {bs} {ts} {more} counts rest)
      (RunsCount.next {ts = us} {more = others} also follow) =
      ap (λ (l : List TakenValue). l ++ more) (one-count Runs (Some b.line) b ts us counts also)
      ∙ ap (λ (l : List TakenValue). us ++ l) (one-run_count bs more others rest follow)

  one-form_count : (form : Form) (bs : List BlockValue) (ts us : List TakenValue) → BlocksCount Inner form bs ts
      → BlocksCount Inner form bs us → ts ≡ us
  one-form_count _ _ _ _ BlocksCount.pem BlocksCount.pem = refl
  one-form_count _ _ _ _ (BlocksCount.dump {b} {answer} counts) (BlocksCount.dump {answer = other} also) =
      ap (λ (a : Bool). if a then taken_as (Text Dump) b ∷ [] else []) (one-dump b answer other counts also)
  one-form_count _ _ _ _ BlocksCount.hex BlocksCount.hex = refl
  one-form_count _ _ _ _ BlocksCount.numbers BlocksCount.numbers = refl
  one-form_count _ _ _ _ (BlocksCount.base64 {b} {ts} complete counts) (BlocksCount.base64 {ts = us} also others) =
      one-count Base64 None b ts us counts others
  one-form_count _ _ _ _ (BlocksCount.base64 {b} complete counts) (BlocksCount.no_base64 broken) =
      absurd (cc (complete, broken))
  one-form_count _ _ _ _ (BlocksCount.no_base64 broken) (BlocksCount.base64 {b} complete counts) =
      absurd (cc (complete, broken))
  one-form_count _ _ _ _ (BlocksCount.no_base64 broken) (BlocksCount.no_base64 also) = refl
  one-form_count _ _ _ _ (BlocksCount.runs {bs} {ts} count few) (BlocksCount.runs {ts = us} also same) =
      one-run_count bs ts us count also

  -- the blocks of a text in a form count as one list
  one-counted : (text : List ℕ) (form : Form) (bs cs : List BlockValue) (ts us : List TakenValue)
      → AreFittingBlocks text form bs → AreFittingBlocks text form cs → BlocksCount Inner form bs ts
      → BlocksCount Inner form cs us → ts ≡ us
  one-counted text form bs cs ts us are also counts others =
      one-form_count form bs ts us counts
      (subst (λ (ds : List BlockValue). BlocksCount Inner form ds us)
      (one-list_of_blocks text form cs bs also.are are.are) others)

  one-first_blocks : (text : List ℕ) (forms : List Form) (ts us : List TakenValue) → AreFirstBlocks Inner text forms ts
      → AreFirstBlocks Inner text forms us → ts ≡ us
  one-first_blocks text _ _ _ AreFirstBlocks.no_form AreFirstBlocks.no_form = refl
  one-first_blocks text _ _ _ (AreFirstBlocks.here {form} {bs = bs} {t} {ts} are counts)
      (AreFirstBlocks.here {bs = cs} {t = u} {ts = us} also others) =
      one-counted text form bs cs (t ∷ ts) (u ∷ us) are also counts others
  one-first_blocks text _ _ _ (AreFirstBlocks.here {form} {bs = bs} {t} {ts} are counts)
      (AreFirstBlocks.later {bs = cs} also none rest) =
      absurd (no-first t ts (one-counted text form bs cs (t ∷ ts) [] are also counts none))
  one-first_blocks text _ _ _ (AreFirstBlocks.later {form} {bs = bs} are none rest)
      (AreFirstBlocks.here {bs = cs} {t} {ts} also counts) =
      absurd (no-first t ts (one-counted text form cs bs (t ∷ ts) [] also are counts none))
  one-first_blocks text _ _ _ (AreFirstBlocks.later {forms = forms} {ts = ts} are none rest)
      (AreFirstBlocks.later {ts = us} also empty follow) =
      one-first_blocks text forms ts us rest follow

  one-blocks : (octets : List ℕ) (ts us : List TakenValue) → HasBlocks Inner octets ts → HasBlocks Inner octets us
      → ts ≡ us
  one-blocks octets _ _ (HasBlocks.control is) (HasBlocks.control also) = refl
  one-blocks octets _ _ (HasBlocks.control is) (HasBlocks.text not first) = absurd (cc (is, not))
  one-blocks octets _ _ (HasBlocks.text not first) (HasBlocks.control is) = absurd (cc (is, not))
  one-blocks octets ts us (HasBlocks.text not first) (HasBlocks.text also second) =
      one-first_blocks (text_of octets) all_forms ts us first second

pub one-text_blocks : (layers : ℕ) → HaveOne (TextBlocks layers)
one-text_blocks zero octets ts us p q = p ∙ sym q
one-text_blocks (suc layers) octets ts us p q =
    one-blocks (TextBlocks layers) (one-text_blocks layers) octets ts us p q

-- ---- inputs

-- a text with a control character has no blocks
no-blocks : (octets : List ℕ) (t : TakenValue) (ts : List TakenValue) → has_controls (text_of octets) ≡ true
    → TextBlocks 4 octets (t ∷ ts) → ⊥
no-blocks octets t ts control has =
    no-first t ts (one-text_blocks 4 octets (t ∷ ts) [] has (HasBlocks.control control))

-- and is no text
no-other : (octets : List ℕ) → has_controls (text_of octets) ≡ true → is_other_text (text_of octets) ≡ true → ⊥
no-other octets control other =
    let text : List ℕ = text_of octets in
    let none : not (has_controls text) ≡ true =
    (and_parts (is_utf8 text && list_any is_seen text) (not (has_controls text)) other).1 in
    let said : not (has_controls (text_of octets)) ≡ false = ap not control in
    absurd (cc (none, said))

both-blocks : (octets : List ℕ) (t : TakenValue) (ts : List TakenValue) → TextBlocks 4 octets (t ∷ ts)
    → TextBlocks 4 octets [] → ⊥
both-blocks octets t ts some none = no-first t ts (one-text_blocks 4 octets (t ∷ ts) [] some none)

pub one-taking : InputsAreTakenForOneThing
one-taking octets _ _ (IsTakenFor.surely_sound is) (IsTakenFor.surely_sound also) = refl
one-taking octets _ _ (IsTakenFor.surely_sound is) (IsTakenFor.text not has) = absurd (not is)
one-taking octets _ _ (IsTakenFor.surely_sound is) (IsTakenFor.control control) = refl
one-taking octets _ _ (IsTakenFor.surely_sound is) (IsTakenFor.sound none are) = refl
one-taking octets _ _ (IsTakenFor.surely_sound is) (IsTakenFor.other_text none not other) = absurd (not is.encodings)
one-taking octets _ _ (IsTakenFor.surely_sound is) (IsTakenFor.no_text none other) = refl
one-taking octets _ _ (IsTakenFor.text not has) (IsTakenFor.surely_sound is) = absurd (not is)
one-taking octets _ _ (IsTakenFor.text {t} {ts} not has) (IsTakenFor.text {t = u} {ts = us} also more) =
    one-text_blocks 4 octets (t ∷ ts) (u ∷ us) has more
one-taking octets _ _ (IsTakenFor.text {t} {ts} not has) (IsTakenFor.control control) =
    absurd (no-blocks octets t ts control has)
one-taking octets _ _ (IsTakenFor.text {t} {ts} not has) (IsTakenFor.sound none are) =
    absurd (both-blocks octets t ts has none)
one-taking octets _ _ (IsTakenFor.text {t} {ts} not has) (IsTakenFor.other_text none unsound other) =
    absurd (both-blocks octets t ts has none)
one-taking octets _ _ (IsTakenFor.text {t} {ts} not has) (IsTakenFor.no_text none other) =
    absurd (both-blocks octets t ts has none)
one-taking octets _ _ (IsTakenFor.control control) (IsTakenFor.surely_sound is) = refl
one-taking octets _ _ (IsTakenFor.control control) (IsTakenFor.text {t} {ts} not has) =
    absurd (no-blocks octets t ts control has)
one-taking octets _ _ (IsTakenFor.control control) (IsTakenFor.control also) = refl
one-taking octets _ _ (IsTakenFor.control control) (IsTakenFor.sound none are) = refl
one-taking octets _ _ (IsTakenFor.control control) (IsTakenFor.other_text none unsound other) =
    absurd (no-other octets control other)
one-taking octets _ _ (IsTakenFor.control control) (IsTakenFor.no_text none other) = refl
one-taking octets _ _ (IsTakenFor.sound none are) (IsTakenFor.surely_sound is) = refl
one-taking octets _ _ (IsTakenFor.sound none are) (IsTakenFor.text {t} {ts} not has) =
    absurd (both-blocks octets t ts has none)
one-taking octets _ _ (IsTakenFor.sound none are) (IsTakenFor.control control) = refl
one-taking octets _ _ (IsTakenFor.sound none are) (IsTakenFor.sound also same) = refl
one-taking octets _ _ (IsTakenFor.sound none are) (IsTakenFor.other_text also unsound other) = absurd (unsound are)
one-taking octets _ _ (IsTakenFor.sound none are) (IsTakenFor.no_text also other) = refl
one-taking octets _ _ (IsTakenFor.other_text none unsound other) (IsTakenFor.surely_sound is) =
    absurd (unsound is.encodings)
one-taking octets _ _ (IsTakenFor.other_text none unsound other) (IsTakenFor.text {t} {ts} not has) =
    absurd (both-blocks octets t ts has none)
one-taking octets _ _ (IsTakenFor.other_text none unsound other) (IsTakenFor.control control) =
    absurd (no-other octets control other)
one-taking octets _ _ (IsTakenFor.other_text none unsound other) (IsTakenFor.sound also are) = absurd (unsound are)
one-taking octets _ _ (IsTakenFor.other_text none unsound other) (IsTakenFor.other_text also not same) = refl
one-taking octets _ _ (IsTakenFor.other_text none unsound other) (IsTakenFor.no_text also not) =
    absurd (cc (other, not))
one-taking octets _ _ (IsTakenFor.no_text none other) (IsTakenFor.surely_sound is) = refl
one-taking octets _ _ (IsTakenFor.no_text none other) (IsTakenFor.text {t} {ts} not has) =
    absurd (both-blocks octets t ts has none)
one-taking octets _ _ (IsTakenFor.no_text none other) (IsTakenFor.control control) = refl
one-taking octets _ _ (IsTakenFor.no_text none other) (IsTakenFor.sound also are) = refl
one-taking octets _ _ (IsTakenFor.no_text none not) (IsTakenFor.other_text also unsound other) =
    absurd (cc (other, not))
one-taking octets _ _ (IsTakenFor.no_text none other) (IsTakenFor.no_text also same) = refl
