use Rattle.std.proofs.Common.{◌≡◌, Bool, true, false, not, ◌||◌, refl, ◌∙◌}
use Rattle.tlv_open.proofs.spot.may_open_in.Goals as goal

unless : (b k one : Bool) → b ≡ k → b ≡ false → not b ≡ (not k || one)
unless b k one e f = rw (← e, f) refl

if_one : (b k one : Bool) → b ≡ k → b ≡ true → one ≡ (not k || one)
if_one b k one e f = rw (← e, f) refl

pub returns-then-not-has_segments : goal.returns-then-not-has_segments
returns-then-not-has_segments c = λ header p f depth rest z r.
    unless _ _ _ (c.has_segments.ensures header) c.if-not-has_segments.true

pub returns-else-not-has_segments : goal.returns-else-not-has_segments
returns-else-not-has_segments c = λ header p f depth rest z r.
    c.is_one_segment.ensures p f depth rest z r
    ∙ if_one _ _ _ (c.has_segments.ensures header) c.if-not-has_segments.false
