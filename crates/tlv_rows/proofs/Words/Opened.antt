-- Words of the rows of strings that hold encodings, or break.
use Rattle.std.proofs.Common.{◌≡◌, ℕ, zero, suc, ◌<◌, ◌++◌, Bool, true, false, ltb, List, [], ◌∷◌, subst}
use Rattle.std.proofs.Common.{ltb-true}
use Rattle.std.proofs.lemmas.Bool.{and_parts}
use Rattle.std.proofs.lemmas.List.Elements.{All-cons, All-nil}
use Rattle.std.specs.List.{list_all}
use Rattle.tlv_head.specs.declared.fault.FaultCode.{FaultCode}
use Rattle.tlv_walk.specs.Ending.{fault_at}
use Rattle.tlv_walk.specs.Reading.{AreOctets}
use Rattle.tlv_open.specs.declared.strings.BrokenString.{BrokenString}
use Rattle.tlv_open.specs.declared.strings.Suspicion.{Suspicion}
use Rattle.tlv_open.specs.Breaks.{AreBroken}
use Rattle.tlv_open.specs.Opens.{AreOpened}
use Rattle.tlv_open.proofs.LawLemmas.SomeBroken.{broken_list_of, input-breaks}
use Rattle.tlv_open.proofs.LawLemmas.SomeList.{input_list, input-opens}

are-octets : (b : List ℕ) → list_all (λ x. ltb x 256) b ≡ true → AreOctets b
are-octets [] e = All-nil (λ x. x < 256)
are-octets (x ∷ b) e =
    let parts : (ltb x 256 ≡ true) × (list_all (λ x. ltb x 256) b ≡ true) = and_parts _ _ e in
    All-cons (λ x. x < 256) x b (ltb-true x 256 parts.0) (are-octets b parts.1)

pub opened : (padding : Bool) (octets offsets : List ℕ) → list_all (λ x. ltb x 256) octets ≡ true
    → input_list padding octets ≡ offsets → AreOpened padding octets offsets
opened padding octets offsets each e =
    subst (AreOpened padding octets) e (input-opens padding octets (are-octets octets each))

pub broken : (octets : List ℕ) (list : List BrokenString) → list_all (λ x. ltb x 256) octets ≡ true
    → broken_list_of false octets ≡ list → AreBroken false octets list
broken octets list each e = subst (AreBroken false octets) e (input-breaks false octets (are-octets octets each))

-- the string at this offset, the reason why it may hold encodings, and the fault in it
abbrev pub breaks_there : ℕ → Suspicion → FaultCode → ℕ → BrokenString
breaks_there offset reason code fault = record { offset = offset; reason = reason; fault = fault_at code fault }

-- so many elements of indefinite length, one in another, that hold these octets
unfoldable pub nested : ℕ → List ℕ → List ℕ
nested zero octets = octets
nested (suc n) octets = 0x30 ∷ 0x80 ∷ (nested n octets ++ 0 ∷ 0 ∷ [])
