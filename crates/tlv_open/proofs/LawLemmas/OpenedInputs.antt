-- What comes of an input if the strings that are opened are named.
use Rattle.std.proofs.Common.{◌≡◌, ℕ, ◌≤◌, Bool, List, ◌∷◌, ◌++◌, length, refl, ap, ◌∙◌, arith}
use Rattle.std.proofs.Common.{subst}
use Rattle.tlv_walk.specs.declared.ending.Ending.{Ending}
use Rattle.tlv_walk.specs.Ending.{IsEnding, IsEndingOf, IsRefusedAt, done, empty, fault_ending, open_end, refused}
use Rattle.tlv_walk.specs.Ending.{short}
use Rattle.tlv_walk.specs.Forest.{Forest, spelling}
use Rattle.tlv_walk.specs.Place.{Place, top_place}
use Rattle.tlv_walk.specs.Reading.{AreOctets, IsReading}
use Rattle.tlv_walk.specs.Wrappers.{wrapper_offsets}
use Rattle.tlv_walk.proofs.GrammarLemmas.Endings.{ending, ending-by, halt-ending, is-ending}
use Rattle.tlv_walk.proofs.GrammarLemmas.Faults.{fault-refused}
use Rattle.tlv_walk.proofs.GrammarLemmas.Readings.{Going, Halted, IsHalt, reading-unique, run-reading}
use Rattle.tlv_open.specs.Laws.{OpeningIsSafe, OpensWell, opened_framing}
use Rattle.tlv_open.specs.Opens.{Opens, closed_framing, where_at_top}
use Rattle.tlv_open.proofs.FinderLemmas.Inputs.{read-within}
use Rattle.tlv_open.proofs.LawLemmas.OpenedForest.{ArePlain, grammar-plain, opened_forest, opened-element, opened-rise}
use Rattle.tlv_open.proofs.LawLemmas.OpenedForest.{opened-spelling, opened-whole, opened-wrappers}
use Rattle.tlv_open.proofs.LawLemmas.OpenedGrammar.{AreOpenedWell, opened-grammar}
use Rattle.tlv_open.proofs.LawLemmas.Rising.{rise-rising}

module _ (padding : Bool) (octets offsets : List ℕ) (closed : Forest) (opens : Opens where_at_top closed offsets)
    (is_reading : IsReading (closed_framing padding) octets closed) where
  abbrev before : Place
  before = top_place (closed_framing padding)

  abbrev now : Place
  now = top_place (opened_framing padding offsets)

  abbrev forest : Forest
  forest = opened_forest opens

  plain : ArePlain 0 closed
  plain = grammar-plain before closed refl is_reading.obeys_grammar

  well : AreOpenedWell before now closed forest
  well =
      opened-grammar before now opens refl refl refl
      (record { offset = refl; depth = refl; bound = refl; indefinite = refl; padding = refl })
      is_reading.obeys_grammar (λ i least most. refl)

  spelled : spelling forest ≡ spelling closed
  spelled = opened-spelling 0 opens plain

  -- it is the reading, and the ending is the same
  record Ends (e : Ending) : Type 0 where
    pub reading : IsReading (opened_framing padding offsets) octets forest
    pub is_ending : IsEnding (opened_framing padding offsets) octets e

  all-read : spelling forest ≡ octets → IsReading (opened_framing padding offsets) octets forest
  all-read e =
      run-reading (opened_framing padding offsets) (Going forest) octets
      (record { obeys_grammar = well.obeys; spelled = e })

  -- all octets are read, with this ending
  reads-all : (e : Ending) → spelling closed ≡ octets
      → (spelling forest ≡ octets → IsEndingOf (opened_framing padding offsets) octets forest e) → Ends e
  reads-all e all ends =
      let read : IsReading (opened_framing padding offsets) octets forest = all-read (spelled ∙ all) in
      record {
        reading = read;
        is_ending = ending-by (opened_framing padding offsets) octets forest e read (ends (spelled ∙ all));
      }

  ends-by : (e : Ending) → IsEndingOf (closed_framing padding) octets closed e → Ends e
  ends-by _ (empty all none) = reads-all _ all (λ s. empty s (opened-element opens ∙ none))
  ends-by _ (short all open_) = reads-all _ all (λ s. short s (opened-whole opens ∙ open_))
  ends-by _ (done all some closed_) =
      reads-all _ all (λ s. done s (opened-element opens ∙ some) (opened-whole opens ∙ closed_))
  ends-by _ (refused x rest code front why) =
      let why' : IsRefusedAt (open_end now forest) x code = well.refuses x code why in
      let size : length (spelling forest) ≡ length (spelling closed) = ap length spelled in
      let halt : IsHalt (opened_framing padding offsets) forest code octets = record {
        obeys_grammar = well.obeys;
        octet = x;
        rest = rest;
        front = ap (λ (o : List ℕ). o ++ x ∷ rest) spelled ∙ front;
        refused = fault-refused (opened_framing padding offsets) forest x code well.obeys why';
      } in
      record {
        reading = run-reading (opened_framing padding offsets) (Halted forest code) octets halt;
        is_ending =
            subst (λ (n : ℕ). IsEnding (opened_framing padding offsets) octets (fault_ending code n)) size
            (halt-ending (opened_framing padding offsets) forest code octets halt why');
      }

  ends : (e : Ending) → IsEnding (closed_framing padding) octets e → Ends e
  ends e x =
      let same : x.reading ≡ closed =
      reading-unique (closed_framing padding) octets x.reading closed x.is_reading is_reading in
      ends-by e (subst (λ (f : Forest). IsEndingOf (closed_framing padding) octets f e) same x.ends)

  -- the reading with the strings named is that forest
  pub opens-well : (opened : Forest) → AreOctets octets → IsReading (opened_framing padding offsets) octets opened
      → OpensWell padding octets offsets closed opened
  opens-well opened each r =
      let e : Ends (ending (closed_framing padding) octets) =
      ends (ending (closed_framing padding) octets) (is-ending (closed_framing padding) octets each) in
      let same : opened ≡ forest =
      reading-unique (opened_framing padding offsets) octets opened forest r e.reading in
      record {
        wrappers = ap wrapper_offsets same ∙ opened-wrappers 0 opens plain;
        spelled = ap spelling same ∙ spelled;
        ending = λ d t. (ends d t).is_ending;
      }

pub opening-safe : OpeningIsSafe
opening-safe padding octets offsets closed opened each limit a r s =
    let same : a.reading ≡ closed = reading-unique (closed_framing padding) octets a.reading closed a.is_reading r in
    let opens : Opens where_at_top closed offsets =
    subst (λ (f : Forest). Opens where_at_top f offsets) same a.opens in
    let plain : ArePlain 0 closed = grammar-plain (top_place (closed_framing padding)) closed refl r.obeys_grammar in
    let few : length (spelling closed) ≤ length octets = read-within (closed_framing padding) octets closed r in (
      rise-rising 0 _ offsets (omega (arith, few, limit)) (opened-rise 0 opens plain),
      opens-well padding octets offsets closed opens r opened each s,
    )
