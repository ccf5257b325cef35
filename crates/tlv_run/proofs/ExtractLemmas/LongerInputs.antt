-- What `extract` writes for a longer input begins with what it writes for the shorter.
use Rattle.std.proofs.Common.{◌≡◌, ℕ, Bool, true, List, [], ◌∷◌, ◌++◌, suc, zero, refl, sym, ap, ◌∙◌, arith}
use Rattle.std.specs.Prelude.{Some, None}
use Rattle.tlv_head.specs.Header.{HeaderValue}
use Rattle.tlv_walk.specs.declared.follow.Go.{Go}
use Rattle.tlv_walk.specs.declared.follow.Go.TheVariants as go
use Rattle.tlv_walk.specs.declared.framing.Framing.{Framing}
use Rattle.tlv_walk.specs.Events.{AreEqualJoined, Begin, Bytes, Close, End, Enter, EventValue, Leave, Open, Unused}
use Rattle.tlv_walk.specs.Events.{Pad, events}
use Rattle.tlv_walk.specs.Follow.{Effect, go_of, effect_if_more}
use Rattle.tlv_walk.specs.Forest.{Forest}
use Rattle.tlv_walk.specs.Place.{top_place}
use Rattle.tlv_walk.specs.Reading.{IsPrefixOf, IsReading}
use Rattle.tlv_walk.proofs.FollowerLemmas.FollowedEvents.{each_octet-goes_on, each_octet-joins, followed-alike}
use Rattle.tlv_walk.proofs.FollowerLemmas.FollowedEvents.{followed-append}
use Rattle.tlv_walk.proofs.FollowerLemmas.FollowedEvents.{followed-enough, followed-prefix}
use Rattle.tlv_walk.proofs.EventLemmas.LongerInputs.{events-prefix}
use Rattle.tlv_run.specs.declared.extract_follower.Position.{Position}
use Rattle.tlv_run.specs.declared.extract_follower.Position.TheVariants as position
use Rattle.tlv_run.specs.Extract.{extract_text, element_at}
use Rattle.tlv_run.specs.CutLaws.{has_element_at, has_whole_element_at}
use Rattle.tlv_run.specs.ExtractStep.{ExtractState, extract_begin_step, extract_end_step, extract_step, has_found}
use Rattle.tlv_run.specs.ExtractStep.{extract_octet_step}
use Rattle.tlv_run.specs.ExtractStep.{new_extract}
use Rattle.tlv_run.proofs.ExtractLemmas.Inside.{made_from}
use Rattle.tlv_run.proofs.ExtractLemmas.Elements.{IsTextOf, makes_text}
use Rattle.tlv_run.proofs.ExtractLemmas.Contents.{all_contents}
use Rattle.tlv_run.proofs.ExtractLemmas.Job.{goes_alike}

-- ---- an element that is found stays found

-- an `Extract` at this position
abbrev at : ℕ → Bool → Position → ExtractState
at n only w = record { offset = n; contents_only = only; position = w }

begin_found : (n : ℕ) (only : Bool) (w : Position) (h : HeaderValue) → has_found (at n only w) ≡ true
    → has_found (extract_begin_step (at n only w) h).state ≡ true
begin_found n only position.Before h b = absurd (cc (b))
begin_found n only (position.Within count) h b = refl
begin_found n only position.After h b = refl

extract_begin_step-found : (s : ExtractState) (h : HeaderValue) → has_found s ≡ true
    → has_found (extract_begin_step s h).state ≡ true
extract_begin_step-found s h b = begin_found s.offset s.contents_only s.position h b

end_found : (n : ℕ) (only : Bool) (w : Position) (octets : List ℕ) → has_found (at n only w) ≡ true
    → has_found (extract_end_step (at n only w) octets).state ≡ true
end_found n only position.Before octets b = absurd (cc (b))
end_found n only (position.Within zero) octets b = refl
end_found n only (position.Within (suc count)) octets b = refl
end_found n only position.After octets b = refl

extract_end_step-found : (s : ExtractState) (octets : List ℕ) → has_found s ≡ true
    → has_found (extract_end_step s octets).state ≡ true
extract_end_step-found s octets b = end_found s.offset s.contents_only s.position octets b

extract_step-found : (s : ExtractState) (e : EventValue) → has_found s ≡ true
    → has_found (extract_step s e).state ≡ true
extract_step-found s (Open h) b = extract_begin_step-found s h b
extract_step-found s (Begin h) b = extract_begin_step-found s h b
extract_step-found s (Enter h) b = extract_begin_step-found s h b
extract_step-found s (Bytes octets) b =
    ap (λ (t : Effect ExtractState). has_found t.state) (all_contents s octets) ∙ b
extract_step-found s Unused b = b
extract_step-found s (Close None) b = extract_end_step-found s [] b
extract_step-found s (Close (Some offset)) b = extract_end_step-found s (0 ∷ 0 ∷ []) b
extract_step-found s End b = extract_end_step-found s [] b
extract_step-found s Leave b = extract_end_step-found s [] b
extract_step-found s (Pad octets) b = b

effect_if_more-found : (g : Go) (t : Effect ExtractState) (f : ExtractState → Effect ExtractState)
    → has_found t.state ≡ true
    → has_found (f t.state).state ≡ true → has_found (effect_if_more g t f).state ≡ true
effect_if_more-found go.On t f b d = d
effect_if_more-found go.Enough t f b d = b

made_from-found : (s : ExtractState) (es : List EventValue) → has_found s ≡ true
    → has_found (made_from s es).state ≡ true
made_from-found s [] b = b
made_from-found s (e ∷ es) b =
    let t = extract_step s e in
    effect_if_more-found t.goes t (λ u. made_from u es) (extract_step-found s e b)
    (made_from-found t.state es (extract_step-found s e b))

made_from-found_more : (s : ExtractState) (es fs : List EventValue) → has_found (made_from s es).state ≡ true
    → has_found (made_from s (es ++ fs)).state ≡ true
made_from-found_more s es fs b =
    let t = made_from s es in
    ap (λ (t : Effect ExtractState). has_found t.state) (followed-append extract_step s es fs)
    ∙ effect_if_more-found t.goes t (λ u. made_from u fs) b (made_from-found t.state fs b)

-- ---- inputs

module _ (framing : Framing) (b c : List ℕ) (f g : Forest) (r : IsReading framing b f)
    (s : IsReading framing (b ++ c) g) (n : ℕ) (only : Bool) where
  -- the events after those of the shorter input
  later_events : (es : List EventValue) × AreEqualJoined (events g) (events f ++ es)
  later_events = events-prefix framing b c f g r s

  -- after them the same is made as of the events of the longer input
  longer : made_from (new_extract n only) (events g) ≡ made_from (new_extract n only) (events f ++ later_events.0)
  longer =
      followed-alike extract_step (each_octet-joins extract_octet_step) (λ s. refl)
      (each_octet-goes_on extract_octet_step)
      (λ s x y. refl) (λ s. refl) (λ s x. refl)
      (new_extract n only) (events g) (events f ++ later_events.0) later_events.1

  shorter_text : IsTextOf n only (element_at n f) (made_from (new_extract n only) (events f))
  shorter_text = makes_text n only (top_place framing) f r.obeys_grammar (omega arith)

  longer_text : IsTextOf n only (element_at n g) (made_from (new_extract n only) (events g))
  longer_text = makes_text n only (top_place framing) g s.obeys_grammar (omega arith)

  pub extract_text_goes_on : IsPrefixOf (extract_text n only f) (extract_text n only g)
  extract_text_goes_on =
      let front = followed-prefix extract_step (new_extract n only) (events f) later_events.0 in (
        front.0,
        sym (sym longer_text.put ∙ ap (λ (t : Effect ExtractState). t.put) longer ∙ front.1
            ∙ ap (λ (l : List ℕ). l ++ front.0) shorter_text.put),
      )

  pub found_elements_stay : has_element_at n f ≡ true → has_element_at n g ≡ true
  found_elements_stay e =
      sym longer_text.found ∙ ap (λ (t : Effect ExtractState). has_found t.state) longer
      ∙ made_from-found_more (new_extract n only) (events f) later_events.0 (shorter_text.found ∙ e)

  whole-same : has_whole_element_at n f ≡ true
      → made_from (new_extract n only) (events g) ≡ made_from (new_extract n only) (events f)
  whole-same e = longer
      ∙ followed-enough extract_step (new_extract n only) (events f) later_events.0 (shorter_text.goes ∙ ap go_of e)

  pub same_extract_text : has_whole_element_at n f ≡ true → extract_text n only g ≡ extract_text n only f
  same_extract_text e = sym longer_text.put ∙ ap (λ (t : Effect ExtractState). t.put) (whole-same e) ∙ shorter_text.put

  pub same_found : has_whole_element_at n f ≡ true → has_element_at n g ≡ has_element_at n f
  same_found e =
      sym longer_text.found ∙ ap (λ (t : Effect ExtractState). has_found t.state) (whole-same e) ∙ shorter_text.found

  pub same_whole : has_whole_element_at n f ≡ true → has_whole_element_at n g ≡ has_whole_element_at n f
  same_whole e =
      goes_alike (has_whole_element_at n g) (has_whole_element_at n f)
      (sym longer_text.goes ∙ ap (λ (t : Effect ExtractState). t.goes) (whole-same e) ∙ shorter_text.goes)
