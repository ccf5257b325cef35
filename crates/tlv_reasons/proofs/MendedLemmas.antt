-- Octets that begin with whole elements, and how they end.
use Rattle.std.proofs.Common.{◌≡◌, ◌∙◌, ◌<◌, ℕ, Bool, List, ap, drop, false, length, refl, take, sym, subst, true}
use Rattle.std.proofs.lemmas.Bool.{lt-ltb, ltb-true}
use Rattle.std.specs.Prelude.{◌↔◌, IsTrue, None, Some, nat_lt}
use Rattle.tlv_head.specs.declared.fault.Fault.{Fault}
use Rattle.tlv_head.specs.declared.fault.FaultCode.{FaultCode}
use Rattle.tlv_head.specs.declared.fault.FaultCode.TheVariants as code
use Rattle.tlv_head.specs.declared.header.HeaderFields.{HeaderFields}
use Rattle.tlv_head.specs.declared.header.Size.TheVariants.{Definite, Indefinite}
use Rattle.tlv_head.specs.Header.{HeaderValue, definite_length}
use Rattle.tlv_head.specs.HeaderFields.{new_header}
use Rattle.tlv_head.specs.ReadHeader.{BeginsWithFields}
use Rattle.tlv_walk.proofs.GrammarLemmas.Endings.{sound-done}
use Rattle.tlv_walk.proofs.GrammarLemmas.OneEnding.{ending-unique}
use Rattle.tlv_walk.proofs.GrammarLemmas.Readings.{reading-unique}
use Rattle.tlv_walk.specs.declared.ending.Ending.TheVariants as endings
use Rattle.tlv_walk.specs.declared.framing.Framing.{Framing}
use Rattle.tlv_walk.specs.Ending.{IsEnding, fault_at, fault_ending}
use Rattle.tlv_reasons.specs.declared.bounds.Bounds.{Bounds}
use Rattle.tlv_reasons.specs.declared.facts.Facts.{Facts}
use Rattle.tlv_reasons.specs.Facts.{AreFacts, whole_end}
use Rattle.tlv_reasons.specs.Mended.{BeginsWhole, IsMended, cut_off, whole}
use Rattle.tlv_reasons.specs.Sizes.{is_short, says_sizes}
use Rattle.tlv_reasons.specs.Spacing.{EndsAsStated, are_alike}
use Rattle.tlv_reasons.specs.Window.{BeginsIndefinite, IsFollowed, ParsesOn, by_a_record, by_nothing, cut_short}
use Rattle.tlv_reasons.specs.Window.{whole_list, without_length}
use Rattle.tlv_reasons.proofs.LengthLemmas.{begun-one}
use Rattle.tlv_reasons.proofs.SpacingLemmas.{stated-one}

-- whether they begin so is whether their top end is above 0
pub begins-by : (framing : Framing) (octets : List ℕ) (facts : Facts) → AreFacts framing octets facts
    → IsTrue (nat_lt 0 facts.top) ↔ BeginsWhole framing octets
begins-by framing octets facts are = (
  (λ t. record {
    reading = are.reading;
    is_reading = are.is_reading;
    some = subst (λ (n : ℕ). 0 < n) are.are_facts.top (ltb-true 0 facts.top t);
  }),
  (λ b.
      let same : b.reading ≡ are.reading =
      reading-unique framing octets b.reading are.reading b.is_reading are.is_reading in
      let top : whole_end 0 b.reading ≡ facts.top = ap (whole_end 0) same ∙ sym are.are_facts.top in
      lt-ltb 0 facts.top (subst (λ (n : ℕ). 0 < n) top b.some)),
)

-- F02 is the fault with this code
short-code : (c : FaultCode) → is_short c ≡ true → c ≡ code.Short
short-code code.Short e = refl
short-code code.Empty e = absurd (cc (e))
short-code code.StrayEnd e = absurd (cc (e))
short-code code.BadEnd e = absurd (cc (e))
short-code code.MissingEnd e = absurd (cc (e))
short-code code.TagTooLong e = absurd (cc (e))
short-code code.ReservedLength e = absurd (cc (e))
short-code code.IndefinitePrimitive e = absurd (cc (e))
short-code code.LengthTooLarge e = absurd (cc (e))
short-code code.TooDeep e = absurd (cc (e))
short-code code.Overrun e = absurd (cc (e))
short-code code.BadInside e = absurd (cc (e))

pub short-ending : (framing : Framing) (octets : List ℕ) (fault : Fault) → says_sizes (Some fault) ≡ true
    → IsEnding framing octets (endings.Fault fault) → IsEnding framing octets (fault_ending code.Short fault.offset)
short-ending framing octets fault short ends =
    let same : fault.code ≡ code.Short = short-code fault.code short in
    subst (λ (c : FaultCode). IsEnding framing octets (fault_ending c fault.offset)) same ends

-- ---- what follows the damaged element in a window

-- what is so of octets with a fault that speak for what stands in front of them
pub record IsCutShort (cut : Bool) (fault : Fault) : Type 0 where
  pub is_cut : cut ≡ true
  pub is_short : says_sizes (Some fault) ≡ true

pub cut-short-by : (framing : Framing) (cut : Bool) (octets : List ℕ) (fault : Fault)
    → IsEnding framing octets (endings.Fault fault) → ParsesOn framing cut octets → IsCutShort cut fault
cut-short-by framing cut octets fault ends (whole_list sound) =
    absurd (cc (ending-unique framing octets (endings.Fault fault) endings.Done ends (sound-done framing octets sound)))
cut-short-by framing cut octets fault ends (cut_short count is_cut short) =
    let same : endings.Fault fault ≡ fault_ending code.Short count =
    ending-unique framing octets (endings.Fault fault) (fault_ending code.Short count) ends short in
    record { is_cut = is_cut; is_short = rw (fault-inside same) refl }
  where
    fault-inside : endings.Fault fault ≡ fault_ending code.Short count → fault ≡ fault_at code.Short count
    fault-inside e = cc (e)

-- an element that states its end, behind which octets follow, is followed by a record
pub followed-by : (framing : Framing) (cut : Bool) (octets : List ℕ) (end : ℕ) → EndsAsStated octets 0 end
    → (end ≡ length octets → ⊥) → IsFollowed framing cut octets
    → (are_alike octets 0 end ≡ true) × ParsesOn framing cut (drop end octets)
followed-by framing cut octets end stated more (by_nothing e s last) =
    absurd (more (stated-one octets 0 end e stated s ∙ last))
followed-by framing cut octets end stated more (by_a_record e s alike parses) =
    let same : e ≡ end = stated-one octets 0 e end s stated in
    (subst (λ (n : ℕ). are_alike octets 0 n ≡ true) same alike, subst (λ (n : ℕ). ParsesOn framing cut (drop n octets)) same parses)
followed-by framing cut octets end stated more (without_length b) =
    let same : stated.header ≡ b.header = begun-one stated.header b.header stated.begins b.begins in
    let size : definite_length b.header.size ≡ Some stated.contents =
    ap (λ (h : HeaderValue). definite_length h.size) (sym same) ∙ stated.contents_are in
    let none : None ≡ Some stated.contents = ap definite_length (sym b.size_is) ∙ size in
    absurd (cc (none))

-- one that states none is followed if its length is indefinite
pub unstated-by : (framing : Framing) (cut : Bool) (octets : List ℕ) → ((end : ℕ) → EndsAsStated octets 0 end → ⊥)
    → IsFollowed framing cut octets → BeginsIndefinite octets
unstated-by framing cut octets none (by_nothing e s last) = absurd (none e s)
unstated-by framing cut octets none (by_a_record e s alike parses) = absurd (none e s)
unstated-by framing cut octets none (without_length b) = b

-- ---- octets with a fault

-- what is so of octets with a fault that count as mended
pub record IsCutOff (framing : Framing) (bounds : Bounds) (octets : List ℕ) (fault : Fault) : Type 0 where
  pub is_cut : bounds.cut ≡ true
  pub is_short : says_sizes (Some fault) ≡ true
  pub begins : BeginsWhole framing octets

pub cut-off-by : (framing : Framing) (bounds : Bounds) (octets : List ℕ) (fault : Fault)
    → IsEnding framing octets (endings.Fault fault) → IsMended framing bounds octets
    → IsCutOff framing bounds octets fault
cut-off-by framing bounds octets fault ends (whole sound) =
    absurd (cc (ending-unique framing octets (endings.Fault fault) endings.Done ends (sound-done framing octets sound)))
cut-off-by framing bounds octets fault ends (cut_off count is_cut begins short) =
    let same : endings.Fault fault ≡ fault_ending code.Short count =
    ending-unique framing octets (endings.Fault fault) (fault_ending code.Short count) ends short in
    record { is_cut = is_cut; is_short = rw (fault-inside same) refl; begins = begins }
  where
    fault-inside : endings.Fault fault ≡ fault_ending code.Short count → fault ≡ fault_at code.Short count
    fault-inside e = cc (e)

-- octets that begin with a definite length do not begin with an indefinite one
pub definite-begins : (octets : List ℕ) (count n : ℕ) (fields : HeaderFields)
    → BeginsWithFields octets 0 false fields count → fields.size ≡ Definite n → BeginsIndefinite octets → ⊥
definite-begins octets count n fields b size_is i =
    let g : HeaderValue = new_header fields (take count octets) in
    let same : i.header ≡ g = begun-one i.header g i.begins b.begins in
    let other : Indefinite ≡ Definite n = sym i.size_is ∙ ap (λ (h : HeaderValue). h.size) same ∙ size_is in
    cc (other)
