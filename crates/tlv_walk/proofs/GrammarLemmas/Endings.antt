-- Each input of octets has an ending: it is `Done` if the input is sound, and no fault is a false alarm.
use Rattle.std.proofs.Common.{◌≡◌, ◌≢◌, ◌⊎◌, inl, inr, ℕ, ◌<◌, ◌≤◌, true, cond, List, [], ◌∷◌, ◌++◌, length, All, refl}
use Rattle.std.proofs.Common.{sym, ap, ◌∙◌, subst, arith, append-nil, length-append}
use Rattle.std.proofs.lemmas.Bool.{cases_Bool}
use Rattle.std.proofs.lemmas.List.{get_or_at}
use Rattle.tlv_head.specs.declared.fault.Fault as fault
use Rattle.tlv_head.specs.declared.fault.FaultCode.{FaultCode}
use Rattle.tlv_head.specs.declared.fault.FaultCode.TheVariants.{Empty, Short}
use Rattle.tlv_walk.specs.declared.ending.Ending.{Ending}
use Rattle.tlv_walk.specs.declared.ending.Ending.TheVariants.{Done, Fault}
use Rattle.tlv_walk.specs.declared.framing.Framing.{Framing}
use Rattle.tlv_walk.specs.Forest.{Forest, has_element, is_whole, spelling}
use Rattle.tlv_walk.specs.Place.{top_place}
use Rattle.tlv_walk.specs.Reading.{IsReading, IsSoundList}
use Rattle.tlv_walk.specs.Ending.{IsEnding, IsEndingOf, IsRefusedAt, done, empty, fault_ending, refused, short, open_end}
use Rattle.tlv_walk.proofs.GrammarLemmas.PushSteps.{Spells}
use Rattle.tlv_walk.proofs.GrammarLemmas.Readings.{PushRun, Going, Halted, IsHalt, IsRightRun, halt-longer}
use Rattle.tlv_walk.proofs.GrammarLemmas.Readings.{halt-longest, is-run}
use Rattle.tlv_walk.proofs.GrammarLemmas.Readings.{push_all, run-reading, spelling-unique}
use Rattle.tlv_walk.proofs.GrammarLemmas.Spellings.{prefix-same}
use Rattle.tlv_walk.proofs.GrammarLemmas.SoundElements.{grammar-sound, sound-obeys_grammar_top, sound-whole}
use Rattle.tlv_walk.proofs.GrammarLemmas.Faults.{fault-refused, refused-fault}

-- the ending of a run of pushes over n octets
abbrev pub ending_of : ℕ → PushRun → Ending
ending_of n (Going f) = cond (has_element f) (cond (is_whole f) Done (fault_ending Short n)) (fault_ending Empty n)
ending_of n (Halted f code) = fault_ending code (length (spelling f))

-- the ending that pushing gives
abbrev pub ending : Framing → List ℕ → Ending
ending w b = ending_of (length b) (push_all w b)

-- an octet of the input is below 256
octet-small : (s : List ℕ) (x : ℕ) (rest b : List ℕ) → s ++ x ∷ rest ≡ b → All (λ x. x < 256) b → x < 256
octet-small s x rest b e each =
    let there : length s < length b = omega (arith, ap length e, length-append s (x ∷ rest)) in
    rw (← e, get_or_at s x rest 0 (length s) refl) at (each (length s) 0 there)

-- the ending of an input, by its reading
pub ending-by : (w : Framing) (b : List ℕ) (f : Forest) (e : Ending) → IsReading w b f → IsEndingOf w b f e
    → IsEnding w b e
ending-by w b f e r x = record { reading = f; is_reading = r; ends = x }

-- if no octet is refused, the ending says what is open
going-ending : (w : Framing) (f : Forest) (b : List ℕ) → Spells (top_place w) b f
    → IsEnding w b (ending_of (length b) (Going f))
going-ending w f b r =
    let reading : IsReading w b f = run-reading w (Going f) b r in
    elim (cases_Bool (has_element f)) [
      | inl some ↦ elim (cases_Bool (is_whole f)) [
        | inl whole ↦ rw (some, whole) (ending-by w b f _ reading (done r.spelled some whole))
        | inr part ↦ rw (some, part) (ending-by w b f _ reading (short r.spelled part))
      ]
      | inr none ↦ rw none (ending-by w b f _ reading (empty r.spelled none))
    ]

-- an octet that is refused gives an ending, whatever follows
pub halt-ending : (w : Framing) (f : Forest) (code : FaultCode) (b : List ℕ) → (r : IsHalt w f code b)
    → IsRefusedAt (open_end (top_place w) f) r.octet code
    → IsEnding w b (fault_ending code (length (spelling f)))
halt-ending w f code b r k =
    ending-by w b f _ (run-reading w (Halted f code) b r) (refused r.octet r.rest code r.front k)

-- a right run of pushes has the ending that it gives
run-ending : (w : Framing) (r : PushRun) (b : List ℕ) → All (λ x. x < 256) b → IsRightRun w r b
    → IsEnding w b (ending_of (length b) r)
run-ending w (Going f) b each r = going-ending w f b r
run-ending w (Halted f code) b each r =
    halt-ending w f code b r
    (refused-fault w f r.octet code (octet-small (spelling f) r.octet r.rest b r.front each) r.obeys_grammar r.refused)

-- an input of octets has an ending
pub is-ending : (w : Framing) (b : List ℕ) → All (λ x. x < 256) b → IsEnding w b (ending w b)
is-ending w b each = run-ending w (push_all w b) b each (is-run w b each)

-- the input is the spelling of a forest that obeys the grammar, with one or more elements, in which nothing is open
pub record IsDone (w : Framing) (b : List ℕ) : Type 0 where
  pub forest : Forest
  pub spells : Spells (top_place w) b forest
  pub some : has_element forest ≡ true
  pub whole : is_whole forest ≡ true

-- F01 or F02: the input ends too early, and a longer one may be sound
abbrev pub IsEarly : FaultCode → Type 0
IsEarly code = (code ≡ Empty) ⊎ (code ≡ Short)

-- an octet is refused for a cause of the list
pub record IsRefused (w : Framing) (b : List ℕ) (code : FaultCode) (offset : ℕ) : Type 0 where
  pub forest : Forest
  pub halt : IsHalt w forest code b
  pub fault : IsRefusedAt (open_end (top_place w) forest) halt.octet code
  pub there : offset ≡ length (spelling forest)

-- what an ending says
abbrev pub Says : Framing → List ℕ → Ending → Type 0
Says w b Done = IsDone w b
Says w b (Fault f) = IsEarly f.code ⊎ IsRefused w b f.code f.offset

-- `ending-says`, by the reading
says-by : (w : Framing) (b : List ℕ) (f : Forest) (e : Ending) → IsReading w b f → IsEndingOf w b f e → Says w b e
says-by w b f e r (empty s n) = inl (inl refl)
says-by w b f e r (short s p) = inl (inr refl)
says-by w b f e r (done s n t) = record {
  forest = f;
  spells = record { obeys_grammar = r.obeys_grammar; spelled = s };
  some = n;
  whole = t;
}
says-by w b f e r (refused x rest code s k) = inr (record {
  forest = f;
  halt = record {
    obeys_grammar = r.obeys_grammar;
    octet = x;
    rest = rest;
    front = s;
    refused = fault-refused w f x code r.obeys_grammar k;
  };
  fault = k;
  there = refl;
})

-- each ending says so
pub ending-says : (w : Framing) (b : List ℕ) (e : Ending) → IsEnding w b e → Says w b e
ending-says w b e x = says-by w b x.reading e x.is_reading x.ends

-- after a fault other than F01 and F02 an octet is refused
pub fault-halt : (w : Framing) (b : List ℕ) (code : FaultCode) (offset : ℕ) → code ≢ Empty → code ≢ Short
    → IsEnding w b (fault_ending code offset) → IsRefused w b code offset
fault-halt w b code offset a d e = elim (ending-says w b (fault_ending code offset) e) [
  | inl early ↦ elim early [
    | inl z ↦ absurd (a z)
    | inr z ↦ absurd (d z)
  ]
  | inr r ↦ r
]

-- no input in which an octet is refused is sound
pub halt-unsound : (w : Framing) (b : List ℕ) (f : Forest) (code : FaultCode) → IsHalt w f code b → IsSoundList w b → ⊥
halt-unsound w b f code r s =
    let most : length (spelling s.forest) ≤ length (spelling f) =
    halt-longest w f code b r s.forest (sound-obeys_grammar_top w s.forest s.sound)
    ([], append-nil (spelling s.forest) ∙ s.spelled) in
    omega (arith, ap length s.spelled, ap length r.front, length-append (spelling f) (r.octet ∷ r.rest))

-- no false alarm: after a fault other than F01 and F02 no input that goes on is sound
pub no-false-alarm : (w : Framing) (b c : List ℕ) (code : FaultCode) (offset : ℕ) → code ≢ Empty → code ≢ Short
    → IsEnding w b (fault_ending code offset) → IsSoundList w (b ++ c) → ⊥
no-false-alarm w b c code offset a d e s =
    let r : IsRefused w b code offset = fault-halt w b code offset a d e in
    halt-unsound w (b ++ c) r.forest code (halt-longer w r.forest code b c r.halt) s

-- if the ending is `Done` the input is sound
pub done-sound : (w : Framing) (b : List ℕ) → IsEnding w b Done → IsSoundList w b
done-sound w b e =
    let d : IsDone w b = ending-says w b Done e in
    record {
      forest = d.forest;
      sound = grammar-sound (top_place w) d.forest d.spells.obeys_grammar d.whole;
      some = d.some;
      spelled = d.spells.spelled;
    }

-- the reading of a sound input is its elements
pub sound-reading : (w : Framing) (b : List ℕ) → (s : IsSoundList w b) → IsReading w b s.forest
sound-reading w b s = run-reading w (Going s.forest) b (record {
  obeys_grammar = sound-obeys_grammar_top w s.forest s.sound;
  spelled = s.spelled;
})

-- the ending of a sound input is `Done`
pub sound-done : (w : Framing) (b : List ℕ) → IsSoundList w b → IsEnding w b Done
sound-done w b s =
    ending-by w b s.forest Done (sound-reading w b s)
    (done s.spelled s.some (sound-whole (top_place w) s.forest s.sound))

abbrev pub offset_in : Ending → ℕ
offset_in Done = 0
offset_in (Fault f) = f.offset

-- an ending that is a fault: the input ends there, or an octet of it is refused
fault-place : (w : Framing) (b : List ℕ) (g : Forest) (e : Ending) (f : fault.Fault) → IsReading w b g
    → IsEndingOf w b g e → e ≡ Fault f
    → (f.offset ≡ length b) ⊎ ((g : Forest) × IsReading w b g × (f.offset ≡ length (spelling g)))
fault-place w b g e f r (empty s n) i = inl (sym (ap offset_in i))
fault-place w b g e f r (short s n) i = inl (sym (ap offset_in i))
fault-place w b g e f r (done s n t) i = absurd (cc (i))
fault-place w b g e f r (refused x rest code s k) i = inr (g, r, sym (ap offset_in i))

-- if the octet after p is refused and p is the spelling of a forest that obeys the grammar, that is the reading
pub refused-reading : (w : Framing) (p : List ℕ) (x : ℕ) (c : List ℕ) (f : fault.Fault) (g : Forest)
    → Spells (top_place w) p g → f.offset ≡ length p → IsEnding w (p ++ x ∷ c) (Fault f) → IsReading w (p ++ x ∷ c) g
refused-reading w p x c f g v there e = elim (fault-place w (p ++ x ∷ c) e.reading (Fault f) f e.is_reading e.ends refl) [
  | inl end ↦ absurd (omega (arith, end, there, length-append p (x ∷ c)))
  | inr r ↦
      let same : spelling r.0 ≡ spelling g =
      prefix-same (spelling r.0) (spelling g) (r.1.is_prefix.0) (x ∷ c)
      (r.1.is_prefix.1 ∙ ap (λ (o : List ℕ). o ++ x ∷ c) (sym v.spelled))
      (sym r.2 ∙ there ∙ ap length (sym v.spelled)) in
      subst (λ (h : Forest). IsReading w (p ++ x ∷ c) h) (spelling-unique
      (top_place w) r.0 g r.1.obeys_grammar v.obeys_grammar same) r.1
]
