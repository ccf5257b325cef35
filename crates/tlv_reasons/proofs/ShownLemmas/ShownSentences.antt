-- The text of sentences is printable ASCII.
use Rattle.std.proofs.Common.{◌≡◌, inl, inr, ℕ, Bool, true, false, ◌&&◌, eqb, List, [], ◌∷◌, refl}
use Rattle.std.specs.Prelude.{decimal}
use Rattle.std.specs.List.{list_all}
use Rattle.std.proofs.lemmas.Bool.{cases_Bool}
use Rattle.std.proofs.lemmas.List.Folds.{list_all-append}
use Rattle.tlv_head.specs.declared.fault.FaultCode.{FaultCode}
use Rattle.tlv_head.specs.declared.fault.FaultCode.TheVariants as fault
use Rattle.tlv_walk.specs.Reading.{AreOctets}
use Rattle.tlv_reasons.specs.declared.facts.Unfinished.{Unfinished}
use Rattle.tlv_reasons.specs.declared.facts.Unfinished.TheVariants as at
use Rattle.tlv_reasons.specs.declared.kinds.FileKind.{FileKind}
use Rattle.tlv_reasons.specs.declared.kinds.FileKind.TheVariants as kind
use Rattle.tlv_reasons.specs.declared.moves.Move.{Move}
use Rattle.tlv_reasons.specs.declared.moves.Move.TheVariants as move
use Rattle.tlv_reasons.specs.declared.octet_changes.OctetChange.TheVariants.{Missing, PutIn}
use Rattle.tlv_reasons.specs.declared.sentence.Sentence.{Sentence}
use Rattle.tlv_reasons.specs.declared.sentence.Sentence.TheVariants as say
use Rattle.tlv_reasons.specs.declared.text_changes.TextChange.{TextChange}
use Rattle.tlv_reasons.specs.declared.text_changes.TextChange.TheVariants.{LineEnds, Replaced, Utf8}
use Rattle.tlv_reasons.specs.declared.traces.Trace.{Trace}
use Rattle.tlv_reasons.specs.declared.traces.Trace.TheVariants as trace
use Rattle.tlv_reasons.specs.declared.value.Value.{Value}
use Rattle.tlv_reasons.specs.declared.value.Value.TheVariants as value
use Rattle.tlv_reasons.specs.Laws.{AreShown, SentencesAreShown, is_shown_octet}
use Rattle.tlv_reasons.specs.Sentences.{chain_words_by, file_kind_words, filled, move_words, octet_or_value}
use Rattle.tlv_reasons.specs.Sentences.{refused_header_words, sentence_text, text_change_words, sentences_text}
use Rattle.tlv_reasons.specs.Sentences.{trace_words, values_after, words_of}
use Rattle.tlv_reasons.specs.Values.{chain_offsets, lacking_zeros, mark_before, offsets_in_words, value_text}
use Rattle.tlv_reasons.proofs.ShownLemmas.ShownValues.{all_in_words-shown, broken_line-shown, code-shown, decimal-shown}
use Rattle.tlv_reasons.proofs.ShownLemmas.ShownValues.{first_pairs-shown, header_sentence-shown, named_element-shown}
use Rattle.tlv_reasons.proofs.ShownLemmas.ShownValues.{octets_in_words-shown}

-- ---- values

zeros-shown : (u : Unfinished) → AreShown (lacking_zeros u)
zeros-shown at.EndOctets = refl
zeros-shown at.Nothing = refl
zeros-shown (at.Primitive e) = refl
zeros-shown at.Header = refl

mark-shown : (offsets : List ℕ) → AreShown (mark_before offsets)
mark-shown [] = refl
mark-shown (x ∷ []) = refl
mark-shown (x ∷ y ∷ offsets) = refl

offsets-shown : (offsets : List ℕ) → AreShown (offsets_in_words offsets)
offsets-shown [] = refl
offsets-shown (x ∷ offsets) =
    let here : AreShown (decimal x) = decimal-shown x in
    let mark : AreShown (mark_before offsets) = mark-shown offsets in
    let more : AreShown (offsets_in_words offsets) = offsets-shown offsets in
    simp (list_all-append, here, mark, more)

pub value-shown : (octets : List ℕ) (v : Value) → AreOctets octets → AreShown (value_text octets v)
value-shown octets (value.Number n) o = decimal-shown n
value-shown octets (value.Octets n) o = octets_in_words-shown n
value-shown octets (value.Pairs start end) o = first_pairs-shown octets start end o
value-shown octets (value.Name e) o = named_element-shown e
value-shown octets (value.Header e) o = header_sentence-shown octets e o
value-shown octets (value.LackingZeros u) o = zeros-shown u
value-shown octets (value.Code f) o = (code-shown f.code).0
value-shown octets (value.Message f) o = (code-shown f.code).1
value-shown octets (value.Broken x) o = broken_line-shown x
value-shown octets (value.Offsets c) o = offsets-shown (chain_offsets c)
value-shown octets (value.All end) o = all_in_words-shown end

-- ---- words

refused-shown : (code : FaultCode) → AreShown (refused_header_words code)
refused-shown fault.Empty = refl
refused-shown fault.Short = refl
refused-shown fault.StrayEnd = refl
refused-shown fault.BadEnd = refl
refused-shown fault.MissingEnd = refl
refused-shown fault.TagTooLong = refl
refused-shown fault.ReservedLength = refl
refused-shown fault.IndefinitePrimitive = refl
refused-shown fault.LengthTooLarge = refl
refused-shown fault.TooDeep = refl
refused-shown fault.Overrun = refl
refused-shown fault.BadInside = refl

change-shown : (change : TextChange) → AreShown (text_change_words change)
change-shown Utf8 = refl
change-shown LineEnds = refl
change-shown Replaced = refl

kind-shown : (k : FileKind) → AreShown (file_kind_words k)
kind-shown kind.Zip = refl
kind-shown kind.Gzip = refl
kind-shown kind.Bzip2 = refl
kind-shown kind.Pdf = refl
kind-shown kind.Markup = refl
kind-shown kind.OpenSsh = refl
kind-shown kind.Utf16 = refl
kind-shown kind.Capture = refl
kind-shown kind.KeyStore = refl
kind-shown kind.Http = refl
kind-shown kind.ByteOrderMark = refl
kind-shown kind.Chunks = refl

chain-shown : (is_greater is_one : Bool) → AreShown (chain_words_by is_greater is_one)
chain-shown true true = refl
chain-shown true false = refl
chain-shown false true = refl
chain-shown false false = refl

trace-shown : (t : Trace) → AreShown (trace_words t).0
trace-shown (trace.AsUtf8 n) = refl
trace-shown (trace.LineEnds n) = refl
trace-shown (trace.SevenBits n) = refl
trace-shown (trace.QuestionMarks n) = refl
trace-shown trace.HalfZeros = refl

move-shown : (m : Move) → AreShown (move_words m)
move-shown move.Pairs = refl
move-shown move.Fours = refl
move-shown move.Reversed = refl
move-shown move.Inverted = refl

words-shown : (s : Sentence) → AreShown (words_of s).0
words-shown (say.Parses a) = refl
words-shown (say.ManyKinds a) = refl
words-shown (say.DoesNotParse a) = refl
words-shown (say.Breaks a) = refl
words-shown (say.LeftOver a b) = refl
words-shown (say.BlanksFollow a b) = refl
words-shown (say.FillerFollows a b) = refl
words-shown (say.TextFollows a b) = refl
words-shown (say.TryWhole a) = refl
words-shown say.NoOctets = refl
words-shown (say.ZerosAlone a) = refl
words-shown say.TryWriter = refl
words-shown (say.EndsInHeader a b) = refl
words-shown (say.EndsInPrimitive a) = refl
words-shown (say.MissingThere a) = refl
words-shown (say.EndsBetweenZeros a) = refl
words-shown (say.EndsInHolder a) = refl
words-shown (say.EndsWithInput a) = refl
words-shown (say.EndsBehindInput a b) = refl
words-shown (say.NotEnded a) = refl
words-shown say.TryGreater = refl
words-shown say.TryWholeCopy = refl
words-shown (say.BeginsWithZeros a) = refl
words-shown (say.ZerosFollow a b c) = refl
words-shown say.TryPadding = refl
words-shown (say.TryFront a) = refl
words-shown (say.ZeroInside a b) = refl
words-shown (say.LeftInside a) = refl
words-shown (say.NoSecondZero a b) = refl
words-shown (say.EndMissing a b c) = refl
words-shown (say.RefusedHeader a b c) = refused-shown a
words-shown say.NoEncoding = refl
words-shown (say.TryLook a) = refl
words-shown (say.TooDeep a) = refl
words-shown say.TryDeeper = refl
words-shown (say.HeaderPast a b) = refl
words-shown (say.LeftInHolder a b) = refl
words-shown (say.CompletesHeader a b) = refl
words-shown (say.ElementPast a b) = refl
words-shown say.OneOfTwo = refl
words-shown say.TryAnew = refl
words-shown (say.LengthInFront a) = refl
words-shown (say.OtherLength a b) = refl
words-shown (say.TwoLengths a b c) = refl
words-shown (say.ThreeLengths a b c d) = refl
words-shown (say.OneOctet (Missing a)) = refl
words-shown (say.OneOctet (PutIn a)) = refl
words-shown (say.NoneLost a) = refl
words-shown (say.SomeLost a b) = refl
words-shown (say.SomePutIn a b) = refl
words-shown (say.OtherChain a) = chain-shown a.is_greater (eqb a.count 1)
words-shown (say.StandsTwice a) = refl
words-shown (say.Overwritten a) = refl
words-shown (say.Spaced a) = refl
words-shown (say.TextChanged a) = change-shown a
words-shown (say.Traced a) = trace-shown a
words-shown (say.OctetsMoved a) = move-shown a
words-shown (say.OtherKind a) = kind-shown a
words-shown (say.ParsesFrom a) = refl
words-shown (say.NextRecord a) = refl
words-shown (say.NextRecordUpTo a b) = refl

-- ---- sentences

and-left : (a b : Bool) → (a && b) ≡ true → a ≡ true
and-left true b e = refl
and-left false b e = e

and-right : (a b : Bool) → (a && b) ≡ true → b ≡ true
and-right true b e = e
and-right false b e = absurd (cc (e))

module _ (octets : List ℕ) (o : AreOctets octets) where
  octet-shown : (x : ℕ) (vs : List Value) → is_shown_octet x ≡ true → AreShown (octet_or_value octets x vs)
  octet-shown x [] shown = rw shown refl
  octet-shown x (v ∷ vs) shown = elim (cases_Bool (eqb x 0x25)) [
    | inl here ↦ rw here (value-shown octets v o)
    | inr other ↦ rw (other, shown) refl
  ]

  filled-shown : (words : List ℕ) (vs : List Value) → AreShown words → AreShown (filled octets words vs)
  filled-shown [] vs shown = refl
  filled-shown (x ∷ words) vs shown =
      let first : AreShown (octet_or_value octets x vs) =
      octet-shown x vs (and-left (is_shown_octet x) (list_all is_shown_octet words) shown) in
      let more : AreShown (filled octets words (values_after x vs)) =
      filled-shown words (values_after x vs) (and-right (is_shown_octet x) (list_all is_shown_octet words) shown) in
      simp (list_all-append, first, more)

  sentence-shown : (s : Sentence) → AreShown (sentence_text octets s)
  unfolding sentence_text
  sentence-shown s = filled-shown (words_of s).0 (words_of s).1 (words-shown s)

pub sentences-shown : SentencesAreShown
sentences-shown octets [] o = refl
sentences-shown octets (s ∷ sentences) o =
    let first : AreShown (sentence_text octets s) = sentence-shown octets o s in
    let more : AreShown (sentences_text octets sentences) = sentences-shown octets sentences o in
    simp (list_all-append, first, more)
