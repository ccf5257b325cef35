-- An input has one ending, and a fault that an octet has is final. What an ending shows of soundness.
use Rattle.std.proofs.Common.{◌≡◌, ◌≢◌, ℕ, Bool, true, false, List, ◌∷◌, ◌++◌, length, refl, sym, ap, ◌∙◌, subst, arith}
use Rattle.std.proofs.Common.{length-append}
use Rattle.std.proofs.lemmas.Bool.{true≢false}
use Rattle.std.proofs.lemmas.List.{append_cancel_left}
use Rattle.tlv_head.specs.declared.fault.FaultCode.{FaultCode}
use Rattle.tlv_head.specs.declared.fault.FaultCode.TheVariants.{Empty, Short}
use Rattle.tlv_walk.specs.declared.ending.Ending.{Ending}
use Rattle.tlv_walk.specs.declared.ending.Ending.TheVariants.{Done, Fault}
use Rattle.tlv_walk.specs.declared.framing.Framing.{Framing}
use Rattle.tlv_walk.specs.Forest.{Forest, NoMore, PaddingOctet, Primitive, Holder, OpenPrimitive, OpenHolder}
use Rattle.tlv_walk.specs.Forest.{OpenBitString, OpenHeader, OpenEndOctets, has_element, is_whole, spelling}
use Rattle.tlv_walk.specs.Place.{top_place}
use Rattle.tlv_walk.specs.Reading.{CannotBecomeSound, IsReading, IsSoundList}
use Rattle.tlv_walk.specs.Ending.{IsEnding, IsEndingOf, IsFinalEnding, IsRefusedAt, ShowsSoundness, done, empty}
use Rattle.tlv_walk.specs.Ending.{fault_ending, open_end, refused, short}
use Rattle.tlv_walk.proofs.GrammarLemmas.Readings.{Halted, IsHalt, halt-longer, reading-unique, run-reading}
use Rattle.tlv_walk.proofs.GrammarLemmas.Faults.{fault-unique}
use Rattle.tlv_walk.proofs.GrammarLemmas.Endings.{IsRefused, done-sound, fault-halt, halt-ending, no-false-alarm}
use Rattle.tlv_walk.proofs.GrammarLemmas.Endings.{sound-done}

-- without an octet of an element nothing is open
none-whole : (f : Forest) → has_element f ≡ false → is_whole f ≡ true
none-whole NoMore e = refl
none-whole (PaddingOctet rest) e = none-whole rest e
none-whole (Primitive h c rest) e = absurd (cc)
none-whole (Holder h inside rest) e = absurd (cc)
none-whole (OpenPrimitive h c) e = absurd (cc)
none-whole (OpenHolder h inside) e = absurd (cc)
none-whole (OpenBitString h) e = absurd (cc)
none-whole (OpenHeader octets) e = absurd (cc)
none-whole OpenEndOctets e = absurd (cc)

-- a test of the reading has one result
test-apart : (w : Framing) (b : List ℕ) (f g : Forest) (test : Forest → Bool) → IsReading w b f → IsReading w b g
    → test f ≡ true → test g ≡ false → ⊥
test-apart w b f g test r s t u = true≢false (sym t ∙ ap test (reading-unique w b f g r s) ∙ u)

-- the whole input is read, or an octet is refused
read-apart : (w : Framing) (b : List ℕ) (f g : Forest) (x : ℕ) (rest : List ℕ) → IsReading w b f → IsReading w b g
    → spelling f ≡ b → spelling g ++ x ∷ rest ≡ b → ⊥
read-apart w b f g x rest r s e d =
    let same : length (spelling f) ≡ length (spelling g) =
    ap (λ (f : Forest). length (spelling f)) (reading-unique w b f g r s) in
    omega (arith, ap length e, ap length d, length-append (spelling g) (x ∷ rest))

-- an octet that is refused is one octet, with one code
refused-same : (w : Framing) (b : List ℕ) (f g : Forest) (x y : ℕ) (r s : List ℕ) (c d : FaultCode) → IsReading w b f
    → IsReading w b g → spelling f ++ x ∷ r ≡ b → spelling g ++ y ∷ s ≡ b
    → IsRefusedAt (open_end (top_place w) f) x c
    → IsRefusedAt (open_end (top_place w) g) y d
    → fault_ending c (length (spelling f)) ≡ fault_ending d (length (spelling g))
refused-same w b f g x y r s c d u v e e' k l =
    let same : f ≡ g = reading-unique w b f g u v in
    let tails : x ∷ r ≡ y ∷ s = append_cancel_left (spelling g) (x ∷ r) (y ∷ s) (rw same at (e ∙ sym e')) in
    let octet : x ≡ y = cc in
    let k' : IsRefusedAt (open_end (top_place w) g) y c = rw (same, octet) at k in
    let code : c ≡ d = fault-unique w g y c d v.obeys_grammar k' l in
    ap (λ (c : FaultCode). fault_ending c (length (spelling f))) code
    ∙ ap (λ (f : Forest). fault_ending d (length (spelling f))) same

-- `ending-unique`, by the readings
unique-by : (w : Framing) (b : List ℕ) (f g : Forest) (e d : Ending) → IsReading w b f → IsReading w b g
    → IsEndingOf w b f e → IsEndingOf w b g d → e ≡ d
unique-by w b f g e d r u (empty s n) (empty t m) = refl
unique-by w b f g e d r u (empty s n) (short t p) = absurd (test-apart w b f g is_whole r u (none-whole f n) p)
unique-by w b f g e d r u (empty s n) (done t m q) = absurd (test-apart w b g f has_element u r m n)
unique-by w b f g e d r u (empty s n) (refused y rest c t k) = absurd (read-apart w b f g y rest r u s t)
unique-by w b f g e d r u (short s p) (empty t m) = absurd (test-apart w b g f is_whole u r (none-whole g m) p)
unique-by w b f g e d r u (short s p) (short t q) = refl
unique-by w b f g e d r u (short s p) (done t m q) = absurd (test-apart w b g f is_whole u r q p)
unique-by w b f g e d r u (short s p) (refused y rest c t k) = absurd (read-apart w b f g y rest r u s t)
unique-by w b f g e d r u (done s n q) (empty t m) = absurd (test-apart w b f g has_element r u n m)
unique-by w b f g e d r u (done s n q) (short t p) = absurd (test-apart w b f g is_whole r u q p)
unique-by w b f g e d r u (done s n q) (done t m p) = refl
unique-by w b f g e d r u (done s n q) (refused y rest c t k) = absurd (read-apart w b f g y rest r u s t)
unique-by w b f g e d r u (refused x rest c s k) (empty t m) = absurd (read-apart w b g f x rest u r t s)
unique-by w b f g e d r u (refused x rest c s k) (short t p) = absurd (read-apart w b g f x rest u r t s)
unique-by w b f g e d r u (refused x rest c s k) (done t m q) = absurd (read-apart w b g f x rest u r t s)
unique-by w b f g e d r u (refused x rest c s k) (refused y more m t l) =
    refused-same w b f g x y rest more c m r u s t k l

-- an input has one ending
pub ending-unique : (w : Framing) (b : List ℕ) (e d : Ending) → IsEnding w b e → IsEnding w b d → e ≡ d
ending-unique w b e d x y = unique-by w b x.reading y.reading e d x.is_reading y.is_reading x.ends y.ends

-- a fault other than F01 and F02 is final: no continuation changes the reading or the ending
pub refused-for-good : (w : Framing) (b c : List ℕ) (code : FaultCode) (offset : ℕ) (f : Forest) → code ≢ Empty
    → code ≢ Short → IsEnding w b (fault_ending code offset) → IsReading w b f
    → IsReading w (b ++ c) f × IsEnding w (b ++ c) (fault_ending code offset)
refused-for-good w b c code offset f a d e r =
    let k : IsRefused w b code offset = fault-halt w b code offset a d e in
    let longer : IsHalt w k.forest code (b ++ c) = halt-longer w k.forest code b c k.halt in
    let same : k.forest ≡ f = reading-unique w b k.forest f (run-reading w (Halted k.forest code) b k.halt) r in
    let reading : IsReading w (b ++ c) k.forest = run-reading w (Halted k.forest code) (b ++ c) longer in
    let end : IsEnding w (b ++ c) (fault_ending code (length (spelling k.forest))) =
    halt-ending w k.forest code (b ++ c) longer k.fault in
    (rw same at reading, rw (← k.there) at end)

-- whatever follows an ending that is final, no input that goes on is sound
pub never-sound : (w : Framing) (b : List ℕ) (e : Ending) → IsEnding w b e → IsFinalEnding e → CannotBecomeSound w b
never-sound w b Done x final = absurd final
never-sound w b (Fault f) x final = λ more. no-false-alarm w b more f.code f.offset final.0 final.1 x

-- the ending of octets shows whether they are sound
pub shows-soundness : (w : Framing) (b : List ℕ) (e : Ending) → IsEnding w b e → ShowsSoundness w b e
shows-soundness w b e x = record {
  done_is_sound = (
    (λ (is : e ≡ Done). done-sound w b (subst (IsEnding w b) is x)),
    (λ (s : IsSoundList w b). ending-unique w b e Done x (sound-done w b s)),
  );
  faults_are_right = never-sound w b e x;
}
