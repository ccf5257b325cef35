-- Whether there was enough, and the ending.
use Rattle.std.proofs.Common.{◌≡◌, ◌⊎◌, inl, inr, ℕ, ◌<◌, true, false, List, length, take, refl, sym, subst}
use Rattle.std.proofs.Common.{◌∙◌}
use Rattle.std.proofs.lemmas.Bool.{true≢false}
use Rattle.std.specs.Prelude.{Result, Ok, Err, ⊤}
use Rattle.std.specs.Io.KnownBytes.{IsAtEnd}
use Rattle.tlv_io.specs.Device.{SourceState, failed, gave}
use Rattle.tlv_walk.specs.declared.ending.Ending.{Ending}
use Rattle.tlv_walk.specs.declared.ending.Ending.TheVariants.{Done}
use Rattle.tlv_walk.specs.declared.framing.Framing.{Framing}
use Rattle.tlv_walk.specs.declared.run.DeviceFault.{DeviceFault}
use Rattle.tlv_walk.specs.declared.run.DeviceFault.TheVariants.{ReadFailed, WriteFailed, InputTooLong}
use Rattle.tlv_walk.specs.Ending.{IsEnding, IsFinalEnding}
use Rattle.tlv_walk.specs.Forest.{Forest}
use Rattle.tlv_walk.specs.Job.{ComesTo, EndsWith, Job, WantMore, at_settled_result, at_source_end, read_failed}
use Rattle.tlv_walk.specs.Job.{too_long, with_enough, without_enough, write_failed}
use Rattle.tlv_walk.proofs.GrammarLemmas.OneEnding.{shows-soundness}

-- if there was enough, the ending is `Done`; otherwise it is that of the octets
module _ {A : Type 0} (job : Job A) (octets : List ℕ) (f : Forest) where
  pub ends_done : (e : Ending) → EndsWith job octets f e → job.is_enough f ≡ true → e ≡ Done
  ends_done e (with_enough _) is = refl
  ends_done e (without_enough _ not_enough x) is = absurd (true≢false (sym is ∙ not_enough))

  pub ends_as_octets : (e : Ending) → EndsWith job octets f e → job.is_enough f ≡ false
      → IsEnding job.framing octets e
  ends_as_octets e (with_enough enough) is = absurd (true≢false (sym enough ∙ is))
  ends_as_octets e (without_enough _ _ x) is = x.is_ending

  -- the ending of octets shows whether they are sound
  pub ends_without : (e : Ending) → job.is_enough f ≡ false → IsEnding job.framing octets e → EndsWith job octets f e
  ends_without e is x =
      without_enough e is (record { is_ending = x; soundness = shows-soundness job.framing octets e x })

  -- a job with the same framing that has enough of the same octets ends with the same
  pub ends_alike : {B : Type 0} (other : Job B) → other.framing ≡ job.framing → job.is_enough f ≡ other.is_enough f
      → (e : Ending) → EndsWith other octets f e → EndsWith job octets f e
  ends_alike other framing same e (with_enough enough) = with_enough (same ∙ enough)
  ends_alike other framing same e (without_enough _ not_enough x) =
      ends_without e (same ∙ not_enough) (subst (λ (g : Framing). IsEnding g octets e) framing x.is_ending)

module _ {A : Type 0} (job : Job A) (limit : ℕ) (given : List ℕ) (f : Forest) (new : SourceState) where
  -- the ending stays whatever follows, or nothing follows
  abbrev pub Settled : Ending → Type 0
  Settled e = IsFinalEnding e ⊎ ((new.last ≡ gave 0) × IsAtEnd new.left)

  -- what `ComesTo` says of each result
  abbrev pub ComesToResult : Result A DeviceFault → Type 0
  ComesToResult (Ok a) =
      (e : Ending) × (a ≡ job.returns f e) × EndsWith job (take limit given) f e
      × ((job.is_enough f ≡ true) ⊎ Settled e)
  ComesToResult (Err ReadFailed) = new.last ≡ failed
  ComesToResult (Err WriteFailed) = ⊤
  ComesToResult (Err InputTooLong) = (limit < length given) × WantMore job (take limit given)

  pub comes_to-result : (result : Result A DeviceFault) → ComesTo job limit given f new result → ComesToResult result
  comes_to-result result (at_settled_result e x (inl enough)) = (e, refl, x, inl enough)
  comes_to-result result (at_settled_result e x (inr final)) = (e, refl, x, inr (inl final))
  comes_to-result result (at_source_end e x last end) = (e, refl, x, inr (inr (last, end)))
  comes_to-result result (read_failed last) = last
  comes_to-result result write_failed = tt
  comes_to-result result (too_long many wants) = (many, wants)

  comes_ok : (e : Ending) → EndsWith job (take limit given) f e
      → (job.is_enough f ≡ true) ⊎ Settled e → ComesTo job limit given f new (Ok (job.returns f e))
  comes_ok e x (inl enough) = at_settled_result e x (inl enough)
  comes_ok e x (inr (inl final)) = at_settled_result e x (inr final)
  comes_ok e x (inr (inr end)) = at_source_end e x end.0 end.1

  pub comes_to : (result : Result A DeviceFault) → ComesToResult result → ComesTo job limit given f new result
  comes_to (Ok a) x = subst (λ (k : A). ComesTo job limit given f new (Ok k)) (sym x.1)
      (comes_ok x.0 x.2 x.3)
  comes_to (Err ReadFailed) x = read_failed x
  comes_to (Err WriteFailed) x = write_failed
  comes_to (Err InputTooLong) x = too_long x.0 x.1
