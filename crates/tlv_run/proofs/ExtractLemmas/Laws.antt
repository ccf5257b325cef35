-- The laws of what `extract` writes.
use Rattle.std.proofs.Common.{◌≡◌, ℕ, Bool, true, false, ◌==◌, if◌then◌else◌, List, [], ◌++◌, refl, sym, ap, ◌∙◌, arith}
use Rattle.std.specs.Prelude.{Option, Some, None}
use Rattle.std.specs.Option.{is_some, option_map_or}
use Rattle.tlv_head.specs.Header.{HeaderValue, octets_of}
use Rattle.tlv_walk.specs.declared.follow.Go.TheVariants as go
use Rattle.tlv_walk.specs.Events.{Open, Begin, Bytes, End, Close, Enter, Unused, Leave, Pad}
use Rattle.tlv_walk.specs.Follow.{no_effect}
use Rattle.tlv_walk.specs.Forest.{Forest, end_octets, is_whole}
use Rattle.tlv_walk.specs.Place.{top_place}
use Rattle.tlv_walk.proofs.FollowerLemmas.FollowedEvents.{each_octet-goes_on}
use Rattle.tlv_walk.proofs.GrammarLemmas.Spellings.{append_assoc-3}
use Rattle.tlv_run.specs.declared.extract_follower.Position.{Position}
use Rattle.tlv_run.specs.declared.extract_follower.Position.TheVariants as position
use Rattle.tlv_run.specs.Extract.{contents_so_far, element_at, extract_text, octets_so_far}
use Rattle.tlv_run.specs.CutLaws.{ExtractTextIsInTheInput, EnoughComesAtEnds, ExtractMakesItsText}
use Rattle.tlv_run.specs.ExtractStep.{ExtractState, extract_begin_step, extract_octet_step, outer_octets}
use Rattle.tlv_run.specs.ExtractStep.{extract_step_to}
use Rattle.tlv_run.proofs.ExtractLemmas.Elements.{makes_text}
use Rattle.tlv_run.proofs.ExtractLemmas.InTheInput.{found_in_input}

-- an element that is there
the_some : (o : Option Forest) → is_some o ≡ true → (e : Forest) × (o ≡ Some e)
the_some (Some e) some = (e, refl)
the_some None some = absurd (cc (some))

pub extract_text_is_in_the_input : ExtractTextIsInTheInput
extract_text_is_in_the_input framing b f r n some =
    let there = the_some (element_at n f) some in
    let e = found_in_input n (top_place framing) f r.obeys_grammar there.0 there.1 in
    let written : extract_text n false f ≡ octets_so_far there.0 =
    ap (λ (o : Option Forest). option_map_or octets_so_far o []) there.1 in
    record {
      before = e.before;
      after = e.after ++ r.is_prefix.0;
      octets_are =
          ap (λ (l : List ℕ). e.before ++ (l ++ (e.after ++ r.is_prefix.0))) written
          ∙ sym (append_assoc-3 e.before (octets_so_far there.0) e.after r.is_prefix.0)
          ∙ ap (λ (l : List ℕ). l ++ r.is_prefix.0) (sym e.octets_are) ∙ r.is_prefix.1;
      begins = omega (arith, e.begins);
      header = e.header;
      valid = e.valid;
      offset = e.offset;
      parts =
          written ∙ e.parts
          ∙ ap (λ (o : Option Forest). octets_of e.header ++ (option_map_or contents_so_far o []
          ++ (if option_map_or is_whole o false then end_octets e.header.size else []))) (sym there.1);
    }

pub extract_makes_its_text : ExtractMakesItsText
extract_makes_its_text framing b f r n only =
    let c = makes_text n only (top_place framing) f r.obeys_grammar (omega arith) in
    record { put = c.put; goes = c.goes; found = c.found }

-- ---- there is enough at the end of an element alone

on_is_not : {A : Type 0} → go.On ≡ go.Enough → A
on_is_not e = absurd (cc (e))

begin_goes_on : (n : ℕ) (only : Bool) (w : Position) (h : HeaderValue)
    → (extract_begin_step (record { offset = n; contents_only = only; position = w }) h).goes ≡ go.On
begin_goes_on n only position.Before h = by (h.offset == n)
  where
    s : ExtractState
    s = record { offset = n; contents_only = only; position = position.Before }

    by : (k : Bool)
        → (if k then extract_step_to s (position.Within 0) (outer_octets only (octets_of h)) go.On
        else no_effect s).goes
        ≡ go.On
    by true = refl
    by false = refl
begin_goes_on n only (position.Within count) h = refl
begin_goes_on n only position.After h = refl

extract_begin_step-goes_on : (s : ExtractState) (h : HeaderValue) → (extract_begin_step s h).goes ≡ go.On
extract_begin_step-goes_on s h = begin_goes_on s.offset s.contents_only s.position h

pub enough_comes_at_ends : EnoughComesAtEnds
enough_comes_at_ends s (Open h) e = on_is_not (sym (extract_begin_step-goes_on s h) ∙ e)
enough_comes_at_ends s (Begin h) e = on_is_not (sym (extract_begin_step-goes_on s h) ∙ e)
enough_comes_at_ends s (Enter h) e = on_is_not (sym (extract_begin_step-goes_on s h) ∙ e)
enough_comes_at_ends s (Bytes octets) e = on_is_not (sym (each_octet-goes_on extract_octet_step s octets) ∙ e)
enough_comes_at_ends s Unused e = on_is_not e
enough_comes_at_ends s (Pad octets) e = on_is_not e
enough_comes_at_ends s End e = refl
enough_comes_at_ends s (Close offset) e = refl
enough_comes_at_ends s Leave e = refl
