-- An octet that is refused has a fault that is final.
use Rattle.std.proofs.Common.{◌≡◌, ◌≢◌, ℕ, List, ◌∷◌, ◌++◌, length, refl, sym, ap, arith, length-append}
use Rattle.tlv_head.specs.declared.fault.Fault as fault
use Rattle.tlv_head.specs.declared.fault.FaultCode.{FaultCode}
use Rattle.tlv_head.specs.declared.fault.FaultCode.TheVariants.{Empty}
use Rattle.tlv_head.specs.Refusal.{IsRefusedOctet, tag_too_long, reserved_length, indefinite_primitive}
use Rattle.tlv_head.specs.Refusal.{length_too_large}
use Rattle.tlv_walk.specs.declared.ending.Ending.{Ending}
use Rattle.tlv_walk.specs.declared.ending.Ending.TheVariants.{Done, Fault}
use Rattle.tlv_walk.specs.declared.framing.Framing.{Framing}
use Rattle.tlv_walk.specs.Laws.{IsFinalCode}
use Rattle.tlv_walk.specs.Ending.{IsEnding, IsEndingOf, IsRefusedAt, OpenEnd, bad_inside, missing_end}
use Rattle.tlv_walk.specs.Ending.{bad_end, no_room}
use Rattle.tlv_walk.specs.Ending.{refused_octet, too_deep, overrun, no_end, stray_end, done, empty, refused, short}
use Rattle.tlv_walk.specs.Forest.{Forest}
use Rattle.tlv_walk.proofs.GrammarLemmas.Endings.{offset_in}

-- no cause in the octets of a header is that the input ends too early
octet-final : (o : List ℕ) (x : ℕ) (code : FaultCode) → IsRefusedOctet o x code → IsFinalCode code
octet-final o x code (tag_too_long c k a b d) = (λ z. cc, λ z. cc)
octet-final o x code (reserved_length c k n i e) = (λ z. cc, λ z. cc)
octet-final o x code (indefinite_primitive c n i e) = (λ z. cc, λ z. cc)
octet-final o x code (length_too_large c k n l a b d) = (λ z. cc, λ z. cc)

-- none of the causes is that the input ends too early
cause-final : (e : OpenEnd) (x : ℕ) (code : FaultCode) → IsRefusedAt e x code → IsFinalCode code
cause-final e x code (bad_inside n) = (λ z. cc, λ z. cc)
cause-final e x code (missing_end a) = (λ z. cc, λ z. cc)
cause-final e x code (bad_end a n) = (λ z. cc, λ z. cc)
cause-final e x code (no_room a) = (λ z. cc, λ z. cc)
cause-final e x code (refused_octet a r) = octet-final _ x code r
cause-final e x code (too_deep a h c k o d) = (λ z. cc, λ z. cc)
cause-final e x code (overrun a h c o k d) = (λ z. cc, λ z. cc)
cause-final e x code (no_end i a) = (λ z. cc, λ z. cc)
cause-final e x code (stray_end i a z) = (λ z. cc, λ z. cc)

-- the code of a fault
abbrev code_in : Ending → FaultCode
code_in Done = Empty
code_in (Fault f) = f.code

-- a fault that comes before the end of the input is final
early-final : (w : Framing) (b : List ℕ) (g : Forest) (e : Ending) (f : fault.Fault) → IsEndingOf w b g e → e ≡ Fault f
    → f.offset ≢ length b → IsFinalCode f.code
early-final w b g e f (empty s n) i k = absurd (k (sym (ap offset_in i)))
early-final w b g e f (short s n) i k = absurd (k (sym (ap offset_in i)))
early-final w b g e f (done s n t) i k = absurd (cc (i))
early-final w b g e f (refused x rest code s c) i k = rw (← ap code_in i) (cause-final _ x code c)

-- the octet after p is refused
pub refused-final : (w : Framing) (p : List ℕ) (x : ℕ) (rest : List ℕ) (f : fault.Fault) → f.offset ≡ length p
    → IsEnding w (p ++ x ∷ rest) (Fault f) → IsFinalCode f.code
refused-final w p x rest f there e =
    early-final w (p ++ x ∷ rest) e.reading (Fault f) f e.ends refl (λ n. omega (arith, n, there, length-append p (x ∷ rest)))
