use Rattle.std.proofs.Common.{◌≡◌, ◌+◌, Bool, true, false, not, ◌||◌, refl, ap, ◌∙◌}
use Rattle.tlv_open.proofs.spot.inside_lacking.Goals as goal

or-false : (b : Bool) → b ≡ (b || false)
or-false true = refl
or-false false = refl

pub returns-clause-inner : goal.returns-clause-inner
returns-clause-inner c = λ header i. record {
  start = c.args.spot.now.start;
  depth = c.args.spot.now.depth + 1;
  may_open = (ap not (c.has_segments.ensures header) ∙ or-false _) i;
  in_extension = false;
  likely = false;
  padding = false;
}
