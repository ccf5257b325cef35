-- Words that are put with their values.
use Rattle.std.proofs.Common.{◌≡◌, ◌+◌, ◌<◌, ◌++◌, ℕ, List, [], ◌∷◌, ap, append-nil, append_assoc, drop, drop-cons, get_or}
use Rattle.std.proofs.Common.{length, refl, sym, ◌∙◌}
use native.Mathlib.Numerals.{unary_clauses}
use Rattle.std.specs.Prelude.{Result, Ok, Err, IsErr, ⊤}
use Rattle.tlv_io.specs.Device.{DrainState}
use Rattle.tlv_io.specs.Out.{Puts}
use Rattle.tlv_io.specs.declared.drain.WriteFault.{WriteFault}
use Rattle.tlv_io.specs.declared.out.Out.{Out}
use Rattle.tlv_io.proofs.Puts.{HasPut, puts_failed_in, puts_nothing, puts_text, puts_then}
use Rattle.tlv_reasons.specs.Sentences.{filled, octet_or_value, values_after}
use Rattle.tlv_reasons.specs.declared.value.Value.{Value}

-- the words in front of the rest were put, with their values
pub record IsFilledTo {D : Type 0} (state_of : D → DrainState) (a b : Out D) (octets words : List ℕ) (values : List Value)
    (rest : List ℕ) (left : List Value) : Type 0 where
  pub done : List ℕ
  pub put : HasPut state_of a b done
  pub is : done ++ filled octets rest left ≡ filled octets words values

module _ {D : Type 0} (state_of : D → DrainState) where
  pub filled-none : (a : Out D) (octets words : List ℕ) (values : List Value)
      → IsFilledTo state_of a a octets words values words values
  filled-none a octets words values = record { done = []; put = puts_nothing state_of a tt; is = refl }

  -- what is done, and then what stands for the octet of the words at i
  more-is : (octets words : List ℕ) (i d : ℕ) (left : List Value) (done all : List ℕ) → i < length words
      → done ++ filled octets (drop i words) left ≡ all
      → (done ++ octet_or_value octets (get_or words i d) left)
      ++ filled octets (drop (i + 1) words) (values_after (get_or words i d) left) ≡ all
  more-is octets words i d left done all h e =
      let next : drop i words ≡ get_or words i d ∷ drop (i + 1) words = simp unary_clauses (drop-cons words i d h) in
      append_assoc done (octet_or_value octets (get_or words i d) left)
      (filled octets (drop (i + 1) words) (values_after (get_or words i d) left))
      ∙ sym (ap (λ (l : List ℕ). done ++ filled octets l left) next) ∙ e

  pub filled-more : (a b c : Out D) (octets words : List ℕ) (values : List Value) (i d : ℕ) (left : List Value)
      → i < length words → IsFilledTo state_of a b octets words values (drop i words) left
      → HasPut state_of b c (octet_or_value octets (get_or words i d) left)
      → IsFilledTo state_of a c octets words values (drop (i + 1) words) (values_after (get_or words i d) left)
  filled-more a b c octets words values i d left h p q = record {
    done = p.done ++ octet_or_value octets (get_or words i d) left;
    put = puts_then state_of a b c p.done (octet_or_value octets (get_or words i d) left) tt (Ok tt) p.put q;
    is = more-is octets words i d left p.done (filled octets words values) h p.is;
  }

  pub filled-failed : (a b c : Out D) (octets words : List ℕ) (values : List Value) (i d : ℕ) (left : List Value)
      (e : WriteFault) (r : Result ⊤ WriteFault) → i < length words
      → IsFilledTo state_of a b octets words values (drop i words) left
      → Puts {T = ⊤} {E = WriteFault} state_of b c (octet_or_value octets (get_or words i d) left) (Err e) → IsErr r
      → Puts state_of a c (filled octets words values) r
  filled-failed a b c octets words values i d left e r h p q f =
      puts_failed_in state_of a c (p.done ++ octet_or_value octets (get_or words i d) left) (filled octets words values)
      e r (puts_then state_of a b c p.done (octet_or_value octets (get_or words i d) left) tt (Err e) p.put q) f
      record {
        rest = filled octets (drop (i + 1) words) (values_after (get_or words i d) left);
        is = more-is octets words i d left p.done (filled octets words values) h p.is;
      }

  pub filled-all : (a b : Out D) (octets words : List ℕ) (values left : List Value)
      → IsFilledTo state_of a b octets words values [] left → HasPut state_of a b (filled octets words values)
  filled-all a b octets words values left p =
      puts_text state_of a b p.done (filled octets words values) (Ok tt) (sym (append-nil p.done) ∙ p.is) p.put
