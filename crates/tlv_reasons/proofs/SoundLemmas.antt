-- A walk of which nothing is made tells how octets end.
use Rattle.std.proofs.Common.{◌≡◌, ◌≤◌, ℕ, List, [], ◌∷◌, ◌++◌, length, take, refl, sym, ap, ◌∙◌, subst, arith}
use Rattle.std.proofs.Common.{append-nil, length-append, true, false, inl, inr}
use Rattle.std.proofs.lemmas.List.{take_all}
use Rattle.std.specs.Prelude.{Some, Result, Ok, Err}
use Rattle.tlv_head.specs.Limits.{input_limit}
use Rattle.tlv_io.specs.Device.{DrainState, SourceState, failures_after, new_source, octets_given}
use Rattle.tlv_run.proofs.KnownDevices.{at_end, left_of, take_prefix}
use Rattle.tlv_walk.specs.declared.ending.Ending.{Ending}
use Rattle.tlv_walk.specs.declared.ending.Ending.TheVariants as ending
use Rattle.tlv_walk.specs.declared.framing.Framing.{Framing}
use Rattle.tlv_walk.specs.declared.run.DeviceFault.{DeviceFault}
use Rattle.tlv_walk.specs.declared.run.Run.{Run}
use Rattle.tlv_walk.specs.DriveJob.{Drives, drive_job, drive_states}
use Rattle.tlv_walk.proofs.GrammarLemmas.OneEnding.{refused-for-good}
use Rattle.tlv_walk.specs.Ending.{IsEnding, IsFinalEnding}
use Rattle.tlv_walk.specs.Events.{EventValue, events}
use Rattle.tlv_walk.specs.Follow.{effect_of, had_enough}
use Rattle.tlv_walk.specs.Forest.{Forest}
use Rattle.tlv_walk.specs.Job.{ComesTo, Job, at_settled_result, at_source_end, drain_result, read_failed}
use Rattle.tlv_walk.specs.Job.{source_result, too_long, with_enough, without_enough, write_failed}
use Rattle.tlv_reasons.specs.Private.Silence.{silent_step}

-- there is never enough
never-enough : {S : Type 0} (s : S) (es : List EventValue) → had_enough (effect_of silent_step s es).goes ≡ false
never-enough s [] = refl
never-enough s (e ∷ es) = never-enough s es

-- a run that ended as octets end
abbrev pub EndsSo : Framing → List ℕ → Result Run DeviceFault → Type 0
EndsSo framing octets (Ok run) = IsEnding framing octets run.ending
EndsSo framing octets (Err e) = ⊥

-- an ending that is final stays, whatever follows
final-stays : (framing : Framing) (b more : List ℕ) (e : Ending) → IsEnding framing b e → IsFinalEnding e
    → IsEnding framing (b ++ more) e
final-stays framing b more ending.Done ends final = absurd final
final-stays framing b more (ending.Fault f) ends final =
    (refused-for-good framing b more f.code f.offset ends.reading final.0 final.1 ends ends.is_reading).1

module _ {S : Type 0} (framing : Framing) (octets : List ℕ) (few : length octets ≤ input_limit) (before : S) where
  abbrev job : Job Run
  job = drive_job silent_step framing before

  ending-is : (f : Forest) (e : Ending) → (job.returns f e).ending ≡ e
  ending-is f e = rw (never-enough before (events f)) refl

  module _ (given left : List ℕ) (all : octets ≡ given ++ left) (f : Forest) (new : SourceState)
      (left_is : new.left ≡ Some left) where
    -- what was read, and more, are all octets
    all-read : (more : List ℕ) → take input_limit (given ++ left) ≡ take input_limit given ++ more
        → take input_limit given ++ more ≡ octets
    all-read more e = sym e ∙ ap (take input_limit) (sym all) ∙ take_all input_limit octets few

    enough-never : job.is_enough f ≡ true → ⊥
    enough-never k = let other : job.is_enough f ≡ false = never-enough before (events f) in absurd (cc (k, other))

    by_end : (result : Result Run DeviceFault) → ComesTo job input_limit given f new result
        → 0 ≡ failures_after (source_result result) 0 → 0 ≡ failures_after (drain_result result) 0
        → EndsSo framing octets result
    by_end _ (at_settled_result _ (with_enough k) _) r w = absurd (enough-never k)
    by_end _ (at_settled_result e (without_enough _ _ x) (inl k)) r w = absurd (enough-never k)
    by_end _ (at_settled_result e (without_enough _ _ x) (inr final)) r w =
        let more = take_prefix input_limit given left in
        subst (IsEnding framing octets) (sym (ending-is f e))
        (subst (λ (l : List ℕ). IsEnding framing l e) (all-read more.0 more.1)
        (final-stays framing (take input_limit given) more.0 e x.is_ending final))
    by_end _ (at_source_end _ (with_enough k) last end) r w = absurd (enough-never k)
    by_end _ (at_source_end e (without_enough _ _ x) last end) r w =
        let none : left ≡ [] = at_end new.left left left_is end in
        let whole : octets ≡ given = all ∙ ap (λ (l : List ℕ). given ++ l) none ∙ append-nil given in
        let read : take input_limit given ≡ octets =
        ap (take input_limit) (sym whole) ∙ take_all input_limit octets few in
        subst (IsEnding framing octets) (sym (ending-is f e))
        (subst (λ (l : List ℕ). IsEnding framing l e) read x.is_ending)
    by_end _ (read_failed last) r w = absurd (cc (r))
    by_end _ write_failed r w = absurd (cc (w))
    by_end _ (too_long many wants) r w =
        absurd (omega (arith, many, few, ap length all, length-append given left))

  -- whatever the reads give, the run ends as the octets do
  pub silent-ending : (after : S) (old new : SourceState) (from to : DrainState) (result : Result Run DeviceFault)
      → old ≡ new_source (Some octets) → new.failures ≡ 0 → from.failures ≡ 0 → to.failures ≡ 0
      → Drives silent_step framing input_limit (drive_states before old from) (drive_states after new to) result
      → EndsSo framing octets result
  silent-ending after old new from to result o n f t d =
      let given : List ℕ = octets_given d.runs.pieces in
      let known : old.left ≡ Some octets = ap (λ (s : SourceState). s.left) o in
      let quiet : old.failures ≡ 0 = ap (λ (s : SourceState). s.failures) o in
      let left = left_of old.left new.left octets given known d.runs.pieces.consumed in
      by_end given left.0 left.2 d.runs.reading new left.1 result d.runs.comes
      (sym n ∙ d.runs.failures ∙ ap (failures_after (source_result result)) quiet)
      (sym t ∙ d.runs.sends.failures ∙ ap (failures_after (drain_result result)) f)
