use Rattle.std.proofs.Common.{◌≡◌, ◌||◌, Bool, true, false, sym, ◌∙◌}
use Rattle.tlv_open.proofs.spot.is_octet_or_bit_string.Goals as goal

first : (a b r : Bool) → r ≡ a → r ≡ true → r ≡ (a || b)
first true b r e t = t
first false b r e t = let u : true ≡ false = sym t ∙ e in absurd (cc (u))

other-type : (a b k r : Bool) → k ≡ a → k ≡ false → r ≡ b → r ≡ (a || b)
other-type true b k r e f s = let u : true ≡ false = sym e ∙ f in absurd (cc (u))
other-type false b k r e f s = s

pub returns-then-is_a : goal.returns-then-is_a
returns-then-is_a c = λ header. first _ _ _ (c.is_a.ensures header) c.if-is_a.true

pub returns-else-is_a : goal.returns-else-is_a
returns-else-is_a c = λ header.
    other-type _ _ _ _ (c.is_a.ensures header) c.if-is_a.false (c.is_a-else-is_a.ensures header)
