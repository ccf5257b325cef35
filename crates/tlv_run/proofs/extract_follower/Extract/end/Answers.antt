use Rattle.std.proofs.Common.{◌≡◌, ℕ, List, true, false, rules, refl, sym, ap, ◌∙◌, subst}
use Rattle.tlv_walk.specs.declared.follow.Go.TheVariants.{Enough}
use Rattle.tlv_run.specs.declared.extract_follower.Position.{Position}
use Rattle.tlv_run.specs.declared.extract_follower.Position.TheVariants.{Within, After}
use Rattle.tlv_run.specs.ExtractStep.{ExtractState, extract_end_step, outer_octets, extract_step_to}
use Rattle.tlv_run.proofs.extract_follower.Extract.end.Goals as goal
use Rattle.tlv_run.proofs.extract_follower.Extract.end.Goals.{then-not-self+in_ok-put-in-Within-eq0, else-not-self}

-- the element wanted ends
extract_end_step-last : (s : ExtractState) (octets : List ℕ) → s.position ≡ Within 0
    → extract_end_step s octets ≡ extract_step_to s After (outer_octets s.contents_only octets) Enough
extract_end_step-last s octets e =
    let at = λ (w : Position). record s { position = w } in
    subst (λ (w : Position). extract_end_step (at w) octets
    ≡ extract_step_to (at w) After (outer_octets s.contents_only octets) Enough) (sym e) refl

pub returns-in_err-put-in-Within-eq0 : goal.returns-in_err-put-in-Within-eq0
returns-in_err-put-in-Within-eq0 g c =
    let is_zero = sym c.in-Within-eq0.field-0-is ∙ c.in-Within-eq0.field-0-test in
    let position : c.args.self.now.position ≡ Within 0 =
    ap (λ (s : ExtractState). s.position) (sym c.self.view_is) ∙ c.in-Within-eq0.is ∙ ap Within is_zero in
    let whole : c.args.self.now.contents_only ≡ false =
    ap (λ (s : ExtractState). s.contents_only) (sym c.self.view_is) ∙ c.if-not-self.true in
    rw (position, whole) (search rules)

pub returns-after-not-self : goal.returns-after-not-self
returns-after-not-self g c =
    let is_zero = sym c.in-Within-eq0.field-0-is ∙ c.in-Within-eq0.field-0-test in
    let position : c.args.self.now.position ≡ Within 0 =
    ap (λ (s : ExtractState). s.position) (sym c.self.view_is) ∙ c.in-Within-eq0.is ∙ ap Within is_zero in
    let ends = extract_end_step-last c.args.self.now c.args.octets.now position in
    record {
      has = record {
        puts = elim c.if-not-self.branch [
          | then-not-self+in_ok-put-in-Within-eq0 w ↦
              let whole : c.args.self.now.contents_only ≡ false =
              ap (λ (s : ExtractState). s.contents_only) (sym c.self.view_is) ∙ w.if-not-self.true in
              rw (position, whole, w.out-is) (search rules)
          | else-not-self w ↦
              let part : c.args.self.now.contents_only ≡ true =
              ap (λ (s : ExtractState). s.contents_only) (sym c.self.view_is) ∙ w.if-not-self.false in
              rw (position, part, w.out-is) (search rules)
        ];
        state = rw (ends, ← c.self.view_is) refl;
      };
      goes = rw ends refl;
    }
