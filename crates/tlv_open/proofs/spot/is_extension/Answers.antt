use Rattle.std.proofs.Common.{◌≡◌, Bool, ◌&&◌, true, false, sym, ◌∙◌}
use Rattle.tlv_open.proofs.spot.is_extension.Goals as goal

both : (a k n m : Bool) → a ≡ k → a ≡ true → n ≡ m → n ≡ (k && m)
both a true n m e t d = d
both a false n m e t d = let u : true ≡ false = sym t ∙ e in absurd (cc (u))

neither : (a k m : Bool) → a ≡ k → a ≡ false → a ≡ (k && m)
neither a true m e t = let u : true ≡ false = sym e ∙ t in absurd (cc (u))
neither a false m e t = t

pub returns-then-is_a : goal.returns-then-is_a
returns-then-is_a c = λ header p f depth ends rest r.
    both _ _ _ _ (c.is_a.ensures header) c.if-is_a.true (c.begin_extension.ensures p f depth ends rest r)

pub returns-else-is_a : goal.returns-else-is_a
returns-else-is_a c = λ header p f depth ends rest r. neither _ _ _ (c.is_a.ensures header) c.if-is_a.false
