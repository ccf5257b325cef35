-- What an `Extract` makes of a whole primitive in one call, which may also leave the events to other calls.
use Rattle.std.proofs.Common.{◌≡◌, ◌≤◌, ℕ, List, [], ◌∷◌, ◌++◌, refl, sym, ap, ◌∙◌, subst}
use Rattle.std.specs.Prelude.{Bool, true, false, not, ◌==◌, if◌then◌else◌, Result, Ok, Err, IsErr, ⊤}
use mathlib.Core.Bool.{true≢false}
use Rattle.tlv_head.specs.Header.{HeaderValue, octets_of}
use Rattle.tlv_io.specs.declared.drain.WriteFault.{WriteFault}
use Rattle.tlv_walk.specs.declared.follow.Go.TheVariants.{On}
use Rattle.tlv_io.specs.declared.out.Out.{Out}
use Rattle.tlv_io.specs.Device.{DrainState}
use Rattle.tlv_walk.specs.Events.{Begin, Bytes, End}
use Rattle.tlv_walk.specs.Follow.{Effect, contents_in, effect_with, no_effect, whole_events}
use Rattle.tlv_walk.proofs.FollowerLemmas.WholeResults.{HasEffectOrNone}
use Rattle.tlv_io.specs.Out.{Puts}
use Rattle.tlv_walk.proofs.FollowerLemmas.FollowedEvents.{followed-one}
use Rattle.tlv_io.proofs.Puts.{HasPut, puts_as, puts_failed_last, puts_nothing, puts_text}
use Rattle.tlv_run.specs.declared.extract_follower.Position.{Position}
use Rattle.tlv_run.specs.declared.extract_follower.Position.TheVariants.{Before, Within, After}
use Rattle.tlv_run.specs.ExtractStep.{ExtractState, extract_begin_step, extract_end_step, extract_step, outer_octets}
use Rattle.tlv_run.specs.ExtractStep.{extract_step_to}
use Rattle.tlv_run.specs.ExtractStep.{wanted_octets}
use Rattle.tlv_run.proofs.ExtractLemmas.Inside.{made_from, made_from-begins, then_more, primitive_passed_on}

module _ (s : ExtractState) (h : HeaderValue) (o : List ℕ) where
  abbrev contents : List ℕ
  contents = contents_in h o

  -- this `Extract`, at another position
  abbrev at : Position → ExtractState
  at w = record s { position = w }

  abbrev effect : Effect ExtractState
  effect = made_from s (whole_events h o)

  -- an element that the one wanted holds
  pub whole_inside : (count : ℕ) → s.position ≡ Within count → count ≤ 254 → octets_of h ++ contents_in h o ≡ o
      → effect ≡ effect_with s o
  whole_inside count e low all =
      subst
      (λ (w : Position). made_from (record s { position = w }) (whole_events h o)
      ≡ effect_with (record s { position = w }) (octets_of h ++ contents))
      (sym e)
      (primitive_passed_on s.offset s.contents_only count h contents low)
      ∙ ap (effect_with s) all

  -- an element of which nothing is put
  passed_by : extract_begin_step s h ≡ no_effect s → wanted_octets s.position contents ≡ []
      → extract_end_step s [] ≡ no_effect s → effect ≡ no_effect s
  passed_by b none n =
      then_more s s [] (Begin h ∷ Bytes contents ∷ []) (End ∷ [])
      (made_from-begins s s [] h contents b ∙ ap (effect_with s) none)
      ∙ followed-one extract_step s End
      ∙ n

  pub whole_after : s.position ≡ After → effect ≡ no_effect s
  whole_after e =
      passed_by (subst (λ (w : Position). extract_begin_step (at w) h ≡ no_effect (at w)) (sym e) refl)
      (subst (λ (w : Position). wanted_octets w contents ≡ []) (sym e) refl)
      (subst (λ (w : Position). extract_end_step (at w) [] ≡ no_effect (at w)) (sym e) refl)

  pub whole_before : s.position ≡ Before → (h.offset == s.offset) ≡ false → effect ≡ no_effect s
  whole_before e other =
      passed_by
      (subst (λ (w : Position). extract_begin_step (at w) h ≡ no_effect (at w)) (sym e)
      (ap (λ (k : Bool). if k then extract_step_to (at Before) (Within 0)
      (outer_octets s.contents_only (octets_of h)) On else no_effect (at Before)) other))
      (subst (λ (w : Position). wanted_octets w contents ≡ []) (sym e) refl)
      (subst (λ (w : Position). extract_end_step (at w) [] ≡ no_effect (at w)) (sym e) refl)

not_true : (b : Bool) → not b ≡ true → b ≡ false
not_true false e = refl
not_true true e = absurd (true≢false (sym e))

pub differ-differ : (m n i j : ℕ) → m ≡ i → n ≡ j → not (i == j) ≡ true → (m == n) ≡ false
differ-differ m n i j e f t = rw (e, f) (not_true (i == j) t)

-- ---- what a call does that may leave the events to other calls

module _ {D : Type 0} (state_of : D → DrainState) (a b : Out D) (s : ExtractState) (m : Effect ExtractState) where
  -- all octets were put
  pub has_put_whole : (xs : List ℕ) → m ≡ effect_with s xs
      → HasPut state_of a b xs → HasEffectOrNone state_of m a b s s (Ok true)
  has_put_whole xs e p = (
    record {
      puts = puts_as state_of a b xs m.put tt true p (sym (ap (λ (t : Effect ExtractState). t.put) e));
      state = sym (ap (λ (t : Effect ExtractState). t.state) e);
    },
    ap (λ (t : Effect ExtractState). t.goes) e,
  )

  -- a write failed
  pub has_failed_whole : (xs : List ℕ) (e : WriteFault) (r : Result Bool WriteFault) (t : ExtractState)
      → m ≡ effect_with s xs
      → Puts {T = ⊤} {E = WriteFault} state_of a b xs (Err e) → IsErr r → HasEffectOrNone state_of m a b s t r
  has_failed_whole xs e (Ok x) t same p h = absurd (true≢false (sym h))
  has_failed_whole xs e (Err f) t same p h = record {
    puts = puts_text state_of a b xs m.put (Err f) (sym (ap (λ (u : Effect ExtractState). u.put) same))
        (puts_failed_last state_of a b xs e (Err f) p h);
    state = tt;
  }

-- nothing was put: the events are left to other calls, or make nothing
pub has_put_none : {D : Type 0} (state_of : D → DrainState) (a : Out D) (s : ExtractState) (m : Effect ExtractState)
    (x : Bool) → (x ≡ true → m ≡ no_effect s) → HasEffectOrNone state_of m a a s s (Ok x)
has_put_none state_of a s m false e = (puts_nothing state_of a false, refl)
has_put_none state_of a s m true e = has_put_whole state_of a a s m [] (e refl) (puts_nothing state_of a tt)
