use Rattle.std.proofs.Common.{◌≡◌, refl, sym, ap, ◌∙◌, rules, subst}
use Rattle.std.specs.Prelude.{ℕ, ◌+◌, min, Bool, if◌then◌else◌, ◌==◌, true, List}
use Rattle.tlv_walk.specs.declared.follow.Go.TheVariants.{On}
use Rattle.tlv_walk.specs.Follow.{no_effect}
use Rattle.tlv_run.specs.declared.extract_follower.Position.{Position}
use Rattle.tlv_run.specs.declared.extract_follower.Position.TheVariants.{Before, Within}
use Rattle.tlv_run.specs.ExtractStep.{ExtractState, extract_begin_step_at, outer_octets, extract_step_to}
use Rattle.tlv_run.proofs.extract_follower.Extract.begin.Goals as goal

equal-test : (m n : ℕ) → m ≡ n → (m == n) ≡ true
equal-test m n e = search rules

-- the element that is wanted begins
extract_begin_step_at-wanted : (s : ExtractState) (offset : ℕ) (octets : List ℕ) → s.position ≡ Before
    → offset ≡ s.offset
    → extract_begin_step_at s offset octets ≡ extract_step_to s (Within 0) (outer_octets s.contents_only octets) On
extract_begin_step_at-wanted s offset octets b e =
    let at = λ (w : Position). record s { position = w } in
    let first = extract_step_to (at Before) (Within 0) (outer_octets s.contents_only octets) On in
    subst (λ (w : Position). extract_begin_step_at (at w) offset octets
    ≡ extract_step_to (at w) (Within 0) (outer_octets s.contents_only octets) On) (sym b)
    (ap (λ (k : Bool). if k then first else no_effect (at Before)) (equal-test offset s.offset e))

-- an element begins that the one wanted holds
extract_begin_step_at-inside : (s : ExtractState) (count offset : ℕ) (octets : List ℕ) → s.position ≡ Within count
    → extract_begin_step_at s offset octets ≡ extract_step_to s (Within (min (count + 1) 255)) octets On
extract_begin_step_at-inside s count offset octets e =
    let at = λ (w : Position). record s { position = w } in
    subst (λ (w : Position). extract_begin_step_at (at w) offset octets
    ≡ extract_step_to (at w) (Within (min (count + 1) 255)) octets On) (sym e) refl

pub returns-in_ok-put-in-Within : goal.returns-in_ok-put-in-Within
returns-in_ok-put-in-Within g c =
    let is = ap (λ (s : ExtractState). s.position) (sym c.self.view_is) ∙ c.in-Within.is in
    let one_more = extract_begin_step_at-inside c.args.self.now c.in-Within.count c.args.offset c.args.octets.now is in
    rw (one_more, ← c.self.view_is, c.saturating_add.ensures)
    (record { has = record { puts = search rules; state = refl }; goes = refl })

pub returns-after-not-self : goal.returns-after-not-self
returns-after-not-self g c =
    let begins = extract_begin_step_at-wanted c.args.self.now c.args.offset c.args.octets.now
    (ap (λ (s : ExtractState). s.position) (sym c.self.view_is) ∙ c.in-Before.is)
    (c.if-offset-self.true ∙ ap (λ (s : ExtractState). s.offset) c.self.view_is) in
    rw (begins, ← c.self.view_is) (record { has = record { puts = search rules; state = refl }; goes = refl })

pub returns-in_err-put-in-Before : goal.returns-in_err-put-in-Before
returns-in_err-put-in-Before g c =
    let begins = extract_begin_step_at-wanted c.args.self.now c.args.offset c.args.octets.now
    (ap (λ (s : ExtractState). s.position) (sym c.self.view_is) ∙ c.in-Before.is)
    (c.if-offset-self.true ∙ ap (λ (s : ExtractState). s.offset) c.self.view_is) in
    rw begins (search rules)
