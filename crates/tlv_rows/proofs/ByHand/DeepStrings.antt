-- Inputs that are nested as deep as may be, and the strings of them that are opened, or broken.
use Rattle.std.proofs.Common.{false, [], ◌∷◌, refl}
use Rattle.std.specs.Prelude.{replicate}
use Rattle.tlv_head.specs.declared.fault.FaultCode.TheVariants.{Overrun, TooDeep}
use Rattle.tlv_open.specs.declared.strings.Suspicion.TheVariants.{Sequence}
use Rattle.tlv_open.specs.Breaks.{AreBroken}
use Rattle.tlv_open.specs.Opens.{AreOpened}
use Rattle.tlv_rows.proofs.Words.Opened.{breaks_there, broken, nested, opened}

-- the string is the 128th element that holds others, or would be the 129th
row-deep : AreOpened false (nested 127 (4 ∷ 2 ∷ 5 ∷ 0 ∷ [])) (254 ∷ [])
unfolding nested
row-deep = opened false _ _ refl refl

row-too_deep : AreOpened false (nested 128 (4 ∷ 2 ∷ 5 ∷ 0 ∷ [])) []
unfolding nested
row-too_deep = opened false _ _ refl refl

-- the SEQUENCE in the string is the 128th element that holds others, or would be the 129th; and the string would be
row-broken_deep : AreBroken false (nested 126 (4 ∷ 0x19 ∷ 0x30 ∷ 0x17 ∷ 2 ∷ 1 ∷ 5 ∷ 4 ∷ 0x13 ∷ replicate 18 0))
    (breaks_there 252 Sequence Overrun 260 ∷ [])
unfolding nested
row-broken_deep = broken _ _ refl refl

row-broken_deeper : AreBroken false (nested 127 (4 ∷ 0x19 ∷ 0x30 ∷ 0x17 ∷ 2 ∷ 1 ∷ 5 ∷ 4 ∷ 0x13 ∷ replicate 18 0))
    (breaks_there 254 Sequence TooDeep 257 ∷ [])
unfolding nested
row-broken_deeper = broken _ _ refl refl

row-broken_too_deep : AreBroken false (nested 128 (4 ∷ 0x19 ∷ 0x30 ∷ 0x17 ∷ 2 ∷ 1 ∷ 5 ∷ 4 ∷ 0x13 ∷ replicate 18 0))
    (breaks_there 256 Sequence TooDeep 257 ∷ [])
unfolding nested
row-broken_too_deep = broken _ _ refl refl
