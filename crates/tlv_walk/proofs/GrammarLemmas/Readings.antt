-- Forests that obey the grammar, by their spellings, and the reading of an input.
use Rattle.std.proofs.Common.{◌≡◌, inl, inr, ℕ, zero, suc, ◌<◌, ◌≤◌, true, List, [], ◌∷◌, ◌++◌, length, All, refl, sym}
use Rattle.std.proofs.Common.{ap}
use Rattle.std.proofs.Common.{◌∙◌, arith, append_assoc, append-nil, length-append}
use Rattle.std.proofs.lemmas.Bool.{cases_lt, true≢false}
use Rattle.std.proofs.lemmas.List.{same_from_push}
use Rattle.std.proofs.lemmas.List.Elements.{All-head, All-tail}
use Rattle.tlv_head.specs.declared.fault.FaultCode.{FaultCode}
use Rattle.tlv_head.specs.declared.fault.FaultCode.TheVariants.{StrayEnd}
use Rattle.tlv_walk.specs.declared.framing.Framing.{Framing}
use Rattle.tlv_walk.specs.Forest.{Forest, NoMore, spelling}
use Rattle.tlv_walk.specs.Place.{ObeysGrammar, Place, top_place}
use Rattle.tlv_walk.specs.Reading.{IsPrefixOf, IsReading}
use Rattle.tlv_walk.proofs.GrammarLemmas.Spellings.{prefix-of, prefix-same}
use Rattle.tlv_walk.proofs.GrammarLemmas.PushSteps.{PushStep, Grown, Ended, Refused, IsStep, Spells, push}
use Rattle.tlv_walk.proofs.GrammarLemmas.Push.{push-steps}
use Rattle.tlv_walk.proofs.GrammarLemmas.PopHeaders.{Popped, list-back, is_nil, is_push}
use Rattle.tlv_walk.proofs.GrammarLemmas.Pop.{forest-popped}

-- no string is read as encodings, and there is padding
abbrev pub padding_framing : Framing
padding_framing = record { inside = []; padding = true }

-- a forest, popped by this octet
pub record PoppedBy (p : Place) (f : Forest) (o : List ℕ) (x : ℕ) : Type 0 where
  pub popped : Popped p f
  pub spelled : spelling popped.from ≡ o
  pub octet : popped.last ≡ x

-- it is popped by the last octet of its spelling
pub popped-by : (p : Place) (f : Forest) (o : List ℕ) (x : ℕ) → ObeysGrammar p f → spelling f ≡ o ++ x ∷ []
    → PoppedBy p f o x
popped-by p f o x w e = elim (forest-popped p f w) [
  | inl stop ↦ let e' : [] ≡ o ++ x ∷ [] =
      rw stop at e in absurd (omega (arith, ap length e', length-append o (x ∷ [])))
  | inr q ↦
      let same : (spelling q.from ≡ o) × (q.last ≡ x) = same_from_push _ _ _ _ (sym q.spelled ∙ e) in
      record { popped = q; spelled = same.0; octet = same.1 }
]

-- `prefix-obeys_grammar`, by the number of octets that are cut off
prefix-within : (p : Place) (n : ℕ) (f : Forest) (s t : List ℕ) → length t ≡ n → ObeysGrammar p f → spelling f ≡ s ++ t
    → (g : Forest) × Spells p s g
prefix-within p zero f s [] l w e = (f, record { obeys_grammar = w; spelled = e ∙ append-nil s })
prefix-within p zero f s (x ∷ t) l w e = absurd (omega arith)
prefix-within p (suc n) f s t l w e = elim (list-back t) [
  | is_nil z ↦ absurd (omega (arith, ap length z))
  | is_push ys y z ↦
      let e' : spelling f ≡ (s ++ ys) ++ y ∷ [] = rw (append_assoc s ys (y ∷ [])) (rw z at e) in
      let q : PoppedBy p f (s ++ ys) y = popped-by p f (s ++ ys) y w e' in
      prefix-within p n q.popped.from s ys (omega (arith, ap length z, length-append ys (y ∷ [])))
      q.popped.obeys_grammar q.spelled
]

-- each prefix of the spelling of a forest that obeys the grammar is the spelling of one that obeys it
pub prefix-obeys_grammar : (p : Place) (f : Forest) (s t : List ℕ) → ObeysGrammar p f → spelling f ≡ s ++ t
    → (g : Forest) × Spells p s g
prefix-obeys_grammar p f s t w e = prefix-within p (length t) f s t refl w e

-- forests that are popped alike are the same
same-pushed : (p : Place) (f g : Forest) (q : Popped p f) (r : Popped p g) → q.from ≡ r.from → q.last ≡ r.last → f ≡ g
same-pushed p f g q r e l =
    let a : push p r.from r.last ≡ Grown f = rw (e, l) at q.pushed in
    let b : push p r.from r.last ≡ Grown g = r.pushed in
    cc (a, b)

-- a forest that obeys the grammar and spells nothing is empty
pub unique-empty : (p : Place) (f : Forest) → ObeysGrammar p f → spelling f ≡ [] → f ≡ NoMore
unique-empty p f w e = elim (forest-popped p f w) [
  | inl stop ↦ stop
  | inr q ↦ absurd (omega (arith, ap length e, ap length q.spelled, length-append (spelling q.from) (q.last ∷ [])))
]

-- `spelling-unique`, by the number of octets
unique-within : (p : Place) (n : ℕ) (f g : Forest) (o : List ℕ) → length o ≡ n → ObeysGrammar p f → ObeysGrammar p g
    → spelling f ≡ o → spelling g ≡ o → f ≡ g
unique-within p zero f g [] l w v e d = unique-empty p f w e ∙ sym (unique-empty p g v d)
unique-within p zero f g (x ∷ o) l w v e d = absurd (omega arith)
unique-within p (suc n) f g o l w v e d = elim (list-back o) [
  | is_nil z ↦ absurd (omega (arith, ap length z))
  | is_push ys y z ↦
      let q : PoppedBy p f ys y = popped-by p f ys y w (e ∙ z) in
      let r : PoppedBy p g ys y = popped-by p g ys y v (d ∙ z) in
      let same : q.popped.from ≡ r.popped.from =
      unique-within p n q.popped.from r.popped.from ys (omega (arith, ap length z, length-append ys (y ∷ [])))
      q.popped.obeys_grammar r.popped.obeys_grammar q.spelled r.spelled in
      same-pushed p f g q.popped r.popped same (q.octet ∙ sym r.octet)
]

-- two forests at one place that obey the grammar and have one spelling are the same
pub spelling-unique : (p : Place) (f g : Forest) → ObeysGrammar p f → ObeysGrammar p g → spelling f ≡ spelling g → f ≡ g
spelling-unique p f g w v e = unique-within p (length (spelling g)) f g (spelling g) refl w v e refl

-- the octet that leads from one forest that obeys the grammar to another is pushed
pub push-complete : (p : Place) (f g : Forest) (x : ℕ) → ObeysGrammar p f → ObeysGrammar p g
    → spelling g ≡ spelling f ++ x ∷ []
    → push p f x ≡ Grown g
push-complete p f g x w v e =
    let q : PoppedBy p g (spelling f) x = popped-by p g (spelling f) x v e in
    rw (spelling-unique p q.popped.from f q.popped.obeys_grammar w q.spelled, q.octet) at q.popped.pushed

-- one octet after another, up to the first that is refused
pub data PushRun : Type 0 where
  Going : (forest : Forest) → PushRun
  Halted : (forest : Forest) (code : FaultCode) → PushRun

-- at the top no contents end
abbrev pub took : Forest → PushStep → PushRun
took f (Grown g) = Going g
took f (Ended g) = Halted f StrayEnd
took f (Refused code) = Halted f code

-- a run of pushes over one more octet
abbrev pub push_next : Framing → PushRun → ℕ → PushRun
push_next w (Going f) x = took f (push (top_place w) f x)
push_next w (Halted f code) x = Halted f code

-- a run of pushes over more octets
abbrev pub push_all_from : Framing → PushRun → List ℕ → PushRun
push_all_from w r [] = r
push_all_from w r (x ∷ xs) = push_all_from w (push_next w r x) xs

-- the run of pushes over an input
abbrev pub push_all : Framing → List ℕ → PushRun
push_all w b = push_all_from w (Going NoMore) b

-- what was taken
abbrev pub run_forest : PushRun → Forest
run_forest (Going f) = f
run_forest (Halted f code) = f

-- what pushing gives, up to the first octet that is refused
abbrev pub reading : Framing → List ℕ → Forest
reading w b = run_forest (push_all w b)

-- the octet after the forest is refused
pub record IsHalt (w : Framing) (f : Forest) (code : FaultCode) (b : List ℕ) : Type 0 where
  pub obeys_grammar : ObeysGrammar (top_place w) f
  pub octet : ℕ
  pub rest : List ℕ
  pub front : spelling f ++ octet ∷ rest ≡ b
  pub refused : push (top_place w) f octet ≡ Refused code

-- a run of pushes is right
abbrev pub IsRightRun : Framing → PushRun → List ℕ → Type 0
IsRightRun w (Going f) b = Spells (top_place w) b f
IsRightRun w (Halted f code) b = IsHalt w f code b

-- a step of a run of pushes is right
took-run : (w : Framing) (f : Forest) (x : ℕ) (s : PushStep) → ObeysGrammar (top_place w) f → push (top_place w) f x ≡ s
    → IsStep (top_place w) (spelling f ++ x ∷ []) s → IsRightRun w (took f s) (spelling f ++ x ∷ [])
took-run w f x (Grown g) v e r = r
took-run w f x (Ended g) v e r = absurd (true≢false (sym r.indefinite))
took-run w f x (Refused code) v e r = record { obeys_grammar = v; octet = x; rest = []; front = refl; refused = e }

-- further octets do not change a halt
abbrev pub halt-longer : (w : Framing) (f : Forest) (code : FaultCode) (b c : List ℕ) → IsHalt w f code b
    → IsHalt w f code (b ++ c)
halt-longer w f code b c r =
    record {
      obeys_grammar = r.obeys_grammar;
      octet = r.octet;
      rest = r.rest ++ c;
      front = rw (← r.front, append_assoc (spelling f) (r.octet ∷ r.rest) c);
      refused = r.refused;
    }

-- a run of pushes that is right is so after one more octet
turn-run : (w : Framing) (r : PushRun) (b : List ℕ) (x : ℕ) → x < 256 → IsRightRun w r b
    → IsRightRun w (push_next w r x) (b ++ x ∷ [])
turn-run w (Going f) b x h r =
    rw (← r.spelled)
    (took-run w f x (push (top_place w) f x) r.obeys_grammar refl (push-steps (top_place w) f x h r.obeys_grammar))
turn-run w (Halted f code) b x h r = halt-longer w f code b (x ∷ []) r

-- and after more octets
run_from-run : (w : Framing) (r : PushRun) (b xs : List ℕ) → All (λ x. x < 256) xs → IsRightRun w r b
    → IsRightRun w (push_all_from w r xs) (b ++ xs)
run_from-run w r b [] each v = rw (append-nil b) v
run_from-run w r b (x ∷ xs) each v =
    rw (append_assoc b (x ∷ []) xs) at
    (run_from-run w (push_next w r x) (b ++ x ∷ []) xs (All-tail (λ x. x < 256) x xs each)
    (turn-run w r b x (All-head (λ x. x < 256) x xs each) v))

-- the run of pushes over an input is right
pub is-run : (w : Framing) (b : List ℕ) → All (λ x. x < 256) b → IsRightRun w (push_all w b) b
is-run w b each = run_from-run w (Going NoMore) [] b each (record { obeys_grammar = tt; spelled = refl })

-- no forest that obeys the grammar spells the octet that is refused
pub halt-longest : (w : Framing) (f : Forest) (code : FaultCode) (b : List ℕ) → IsHalt w f code b → (g : Forest)
    → ObeysGrammar (top_place w) g → IsPrefixOf (spelling g) b
    → length (spelling g) ≤ length (spelling f)
halt-longest w f code b r g v q = elim (cases_lt (length (spelling f)) (length (spelling g))) [
  | inl more ↦
      let end : (spelling f ++ r.octet ∷ []) ++ r.rest ≡ spelling g ++ q.0 =
      append_assoc (spelling f) (r.octet ∷ []) r.rest ∙ (r.front ∙ sym q.1) in
      let u : (u : List ℕ) × (spelling g ≡ (spelling f ++ r.octet ∷ []) ++ u) =
      prefix-of (spelling f ++ r.octet ∷ []) (spelling g) r.rest q.0 end
      (omega (arith, length-append (spelling f) (r.octet ∷ []))) in
      let k : (k : Forest) × Spells (top_place w) (spelling f ++ r.octet ∷ []) k =
      prefix-obeys_grammar (top_place w) g (spelling f ++ r.octet ∷ []) u.0 v u.1 in
      let grown : push (top_place w) f r.octet ≡ Grown k.0 =
      push-complete (top_place w) f k.0 r.octet r.obeys_grammar k.1.obeys_grammar k.1.spelled in
      let refused : push (top_place w) f r.octet ≡ Refused code = r.refused in
      absurd (cc (grown, refused))
  | inr less ↦ less
]

-- a right run of pushes holds the reading
pub run-reading : (w : Framing) (r : PushRun) (b : List ℕ) → IsRightRun w r b → IsReading w b (run_forest r)
run-reading w (Going f) b r = record {
  obeys_grammar = r.obeys_grammar;
  is_prefix = ([], append-nil (spelling f) ∙ r.spelled);
  longest = λ g v q. omega (arith, ap length q.1, ap length r.spelled, length-append (spelling g) q.0);
}
run-reading w (Halted f code) b r = record {
  obeys_grammar = r.obeys_grammar;
  is_prefix = (r.octet ∷ r.rest, r.front);
  longest = halt-longest w f code b r;
}

-- an input of octets has a reading
pub is-reading : (w : Framing) (b : List ℕ) → All (λ x. x < 256) b → IsReading w b (reading w b)
is-reading w b each = run-reading w (push_all w b) b (is-run w b each)

-- after octets that are all read others can be read too
pub reading-longer : (w : Framing) (f : Forest) (b xs : List ℕ) → All (λ x. x < 256) xs → IsReading w b f
    → spelling f ≡ b → (g : Forest) × IsReading w (b ++ xs) g
reading-longer w f b xs each r e =
    let k : PushRun = push_all_from w (Going f) xs in (
      run_forest k,
      run-reading w k (b ++ xs) (run_from-run w (Going f) b xs each (record {
        obeys_grammar = r.obeys_grammar;
        spelled = e;
      })),
    )

-- an input has one reading
pub reading-unique : (w : Framing) (b : List ℕ) (f g : Forest) → IsReading w b f → IsReading w b g → f ≡ g
reading-unique w b f g r s =
    let most : length (spelling f) ≤ length (spelling g) = s.longest f r.obeys_grammar r.is_prefix in
    let most' : length (spelling g) ≤ length (spelling f) = r.longest g s.obeys_grammar s.is_prefix in
    spelling-unique (top_place w) f g r.obeys_grammar s.obeys_grammar
    (prefix-same (spelling f) (spelling g) (r.is_prefix.0) (s.is_prefix.0) (r.is_prefix.1 ∙ sym s.is_prefix.1)
    (omega arith))
