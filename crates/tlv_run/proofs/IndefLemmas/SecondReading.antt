-- What `indef` writes, read again.
use Rattle.std.proofs.Common.{◌≡◌, ℕ, Bool, true, List, refl, ap, ◌∙◌}
use Rattle.tlv_walk.specs.declared.ending.Ending.TheVariants.{Done}
use Rattle.tlv_walk.specs.Ending.{IsEnding, done}
use Rattle.tlv_walk.specs.Forest.{Forest, has_element, is_whole, spelling}
use Rattle.tlv_walk.specs.Place.{ObeysGrammar, top_place}
use Rattle.tlv_walk.specs.Reading.{IsReading, IsSoundList}
use Rattle.tlv_walk.proofs.GrammarLemmas.Endings.{done-sound, ending-by, sound-reading}
use Rattle.tlv_walk.proofs.GrammarLemmas.Readings.{Going, reading-unique, run-reading}
use Rattle.tlv_walk.proofs.GrammarLemmas.SoundElements.{sound-whole}
use Rattle.tlv_run.specs.Indef.{indef_text, with_indefinite_lengths, indef_framing, IsReadBack, indef_reading}
use Rattle.tlv_run.proofs.IndefLemmas.Grammar.{IsFree, obeys_grammar, offsets-has_element, offsets-whole}
use Rattle.tlv_run.proofs.IndefLemmas.Offsets.{indef_text-again, spelling-with_offsets_from}

top_free : (padding : Bool) → IsFree (top_place (indef_framing padding)) (top_place (indef_framing padding))
top_free padding =
    record { names = refl; same_names = refl; depth = refl; bound = refl; padding = λ e. e; definite = λ e. refl }

pub indef_text_obeys_grammar : (padding : Bool) (f : Forest) → ObeysGrammar (top_place (indef_framing padding)) f
    → (spelling (indef_reading f) ≡ indef_text f) × ObeysGrammar (top_place (indef_framing padding)) (indef_reading f)
indef_text_obeys_grammar padding f v =
    let p = top_place (indef_framing padding) in
    (spelling-with_offsets_from 0 (with_indefinite_lengths f), obeys_grammar p p f (top_free padding) v)

pub indef_text_is_read_back : (padding : Bool) (b : List ℕ) (f : Forest) → IsReading (indef_framing padding) b f
    → IsReadBack padding f (indef_text f)
indef_text_is_read_back padding b f r =
    let o = indef_text_obeys_grammar padding f r.obeys_grammar in record {
      is_reading =
          run-reading (indef_framing padding) (Going (indef_reading f)) (indef_text f)
          (record { obeys_grammar = o.1; spelled = o.0 });
      same_again = indef_text-again 0 f;
    }

-- what is written for a sound list of encodings has no fault
sound_again : (padding : Bool) (b : List ℕ) (f : Forest) → IsReading (indef_framing padding) b f → is_whole f ≡ true
    → has_element f ≡ true
    → IsEnding (indef_framing padding) (indef_text f) Done
sound_again padding b f r w e =
    let o = indef_text_obeys_grammar padding f r.obeys_grammar in
    ending-by (indef_framing padding) (indef_text f) (indef_reading f) Done
    (indef_text_is_read_back padding b f r).is_reading
    (done o.0 (offsets-has_element 0 f w e) (offsets-whole 0 f w))

pub indef_text_is_done : (padding : Bool) (b : List ℕ) (f : Forest) → IsReading (indef_framing padding) b f
    → IsEnding (indef_framing padding) b Done
    → IsEnding (indef_framing padding) (indef_text f) Done
indef_text_is_done padding b f r d =
    let w = indef_framing padding in
    let s : IsSoundList w b = done-sound w b d in
    let same : f ≡ s.forest = reading-unique w b f s.forest r (sound-reading w b s) in
    sound_again padding b f r
    (ap is_whole same ∙ sound-whole (top_place w) s.forest s.sound)
    (ap has_element same ∙ s.some)
