-- What an `Extract` makes of the events of what the element wanted holds: it puts their octets.
use Rattle.std.proofs.Common.{refl, sym, ap, ap₂, ◌∙◌, arith, append_assoc, append-nil}
use Rattle.std.specs.Prelude.{◌≡◌, ℕ, suc, ◌≤◌, Bool, true, false, eqb, if◌then◌else◌, List, [], ◌∷◌, ◌++◌, map}
use Rattle.tlv_head.specs.declared.header.Size.{Size}
use Rattle.tlv_head.specs.declared.header.Size.TheVariants.{Definite, Indefinite}
use Rattle.tlv_head.specs.Header.{HeaderValue, octets_of}
use Rattle.tlv_head.specs.HeaderSoFar.{AllowsSize}
use Rattle.tlv_walk.specs.declared.follow.Go.{Go}
use Rattle.tlv_walk.specs.declared.follow.Go.TheVariants as go
use Rattle.tlv_walk.specs.Events.{Begin, Bytes, Close, End, Enter, EventValue, Leave, Open, Pad, Unused, closing_event}
use Rattle.tlv_walk.specs.Events.{events, opening_events}
use Rattle.tlv_walk.proofs.GrammarLemmas.Leads.{end_offset}
use Rattle.tlv_walk.specs.Follow.{Effect, and_then, effect_if_more, effect_of, effect_with}
use Rattle.tlv_walk.specs.Forest.{Forest, NoMore, PaddingOctet, Primitive, Holder, OpenPrimitive, OpenHolder}
use Rattle.tlv_walk.specs.Forest.{OpenBitString, OpenHeader, OpenEndOctets}
use Rattle.tlv_walk.specs.Forest.{end_octets, holder_extent, is_whole, lead, opening}
use Rattle.tlv_walk.proofs.GrammarLemmas.Leads.{lead_by}
use Rattle.tlv_walk.specs.Place.{ObeysGrammar, Place, place_after, place_of_children}
use Rattle.tlv_walk.proofs.FollowerLemmas.FollowedEvents.{followed-more, followed-one}
use Rattle.tlv_run.specs.declared.extract_follower.Position.TheVariants as position
use Rattle.tlv_run.specs.Extract.{octets_so_far}
use Rattle.tlv_run.specs.ExtractStep.{ExtractState, extract_begin_step, extract_end_step, extract_step, has_found}
use Rattle.tlv_run.specs.ExtractStep.{wanted_octets}
use Rattle.tlv_run.proofs.ExtractLemmas.Contents.{all_contents, wanted_octets-none}

-- what an `Extract` makes of these events
abbrev pub made_from : ExtractState → List EventValue → Effect ExtractState
made_from s es = effect_of extract_step s es

-- ---- one event after another

-- of some events this was made, and then others come
pub then_more : (s t : ExtractState) (put : List ℕ) (xs ys : List EventValue) → made_from s xs ≡ effect_with t put
    → made_from s (xs ++ ys) ≡ record (made_from t ys) { put = put ++ (made_from t ys).put }
then_more s t put xs ys e =
    followed-more extract_step s xs ys (ap (λ (u : Effect ExtractState). u.goes) e)
    ∙ ap (λ (k : Effect ExtractState). and_then k (λ u. made_from u ys)) e

-- a primitive begins, and gives contents octets
pub made_from-begins : (s t : ExtractState) (put : List ℕ) (h : HeaderValue) (c : List ℕ)
    → extract_begin_step s h ≡ effect_with t put
    → made_from s (Begin h ∷ Bytes c ∷ []) ≡ effect_with t (put ++ wanted_octets t.position c)
made_from-begins s t put h c e =
    ap (λ (k : Effect ExtractState). effect_if_more k.goes k (λ u. made_from u (Bytes c ∷ []))) e
    ∙ ap (λ (k : Effect ExtractState). and_then (effect_with t put) (λ u. k))
    (followed-one extract_step t (Bytes c) ∙ all_contents t c)

-- an element that holds others begins
opens_by : (k three : Bool) (s t : ExtractState) (put : List ℕ) (h : HeaderValue)
    → extract_begin_step s h ≡ effect_with t put
    → made_from s ((if k then Open h else Enter h) ∷ map (λ z. Unused) (lead_by k three))
    ≡ effect_with t (put ++ wanted_octets t.position (lead_by k three))
opens_by true three s t put h e =
    followed-one extract_step s (Open h) ∙ e
    ∙ ap (effect_with t) (sym (append-nil put) ∙ ap (λ (l : List ℕ). put ++ l) (wanted_octets-none t.position))
opens_by false true s t put h e =
    ap (λ (k : Effect ExtractState). effect_if_more k.goes k (λ u. made_from u (Unused ∷ []))) e
    ∙ ap (λ (k : Effect ExtractState). and_then (effect_with t put) (λ u. k)) (followed-one extract_step t Unused)
opens_by false false s t put h e =
    followed-one extract_step s (Enter h) ∙ e
    ∙ ap (effect_with t) (sym (append-nil put) ∙ ap (λ (l : List ℕ). put ++ l) (wanted_octets-none t.position))

pub made_from-opens : (s t : ExtractState) (put : List ℕ) (h : HeaderValue) → extract_begin_step s h ≡ effect_with t put
    → made_from s (opening_events h) ≡ effect_with t (put ++ wanted_octets t.position (lead h))
made_from-opens s t put h e = opens_by h.constructed (eqb h.number 3) s t put h e

-- it ends
closes_by : (k : Bool) (size : Size) (s : ExtractState) (o : ℕ) → AllowsSize k size
    → extract_step s (if k then Close (end_offset size o) else Leave) ≡ extract_end_step s (end_octets size)
closes_by true (Definite n) s o allowed = refl
closes_by true Indefinite s o allowed = refl
closes_by false (Definite n) s o allowed = refl
closes_by false Indefinite s o allowed = absurd (cc (allowed))

pub made_from-closes : (s : ExtractState) (h : HeaderValue) (inside : Forest) → AllowsSize h.constructed h.size
    → made_from s (closing_event h inside ∷ []) ≡ extract_end_step s (end_octets h.size)
made_from-closes s h inside allowed =
    followed-one extract_step s (closing_event h inside) ∙ closes_by h.constructed h.size s _ allowed

-- the events of an element that has ended, and of what follows it
pub events-holder : (h : HeaderValue) (inside rest : Forest)
    → events (Holder h inside rest)
    ≡ (opening_events h ++ (events inside ++ closing_event h inside ∷ [])) ++ events rest
events-holder h inside rest =
    sym (append_assoc (opening_events h) (events inside ++ closing_event h inside ∷ []) (events rest)
    ∙ ap (λ (l : List EventValue). opening_events h ++ l)
    (append_assoc (events inside) (closing_event h inside ∷ []) (events rest)))

module _ (n : ℕ) (only : Bool) where
  -- an `Extract` in the element wanted, and in this many that it holds
  abbrev pub state_inside : ℕ → ExtractState
  state_inside count = record { offset = n; contents_only = only; position = position.Within count }

  -- ---- in the element wanted

  -- of elements in it their octets are put
  pub record IsPassedOn (count : ℕ) (f : Forest) : Type 0 where
    pub put : (made_from (state_inside count) (events f)).put ≡ octets_so_far f
    pub goes : (made_from (state_inside count) (events f)).goes ≡ go.On
    pub found : has_found (made_from (state_inside count) (events f)).state ≡ true
    pub stays : is_whole f ≡ true → (made_from (state_inside count) (events f)).state ≡ state_inside count

  pub whole_inside_passed_on : (count : ℕ) (f : Forest) → is_whole f ≡ true → IsPassedOn count f
      → made_from (state_inside count) (events f) ≡ effect_with (state_inside count) (octets_so_far f)
  whole_inside_passed_on count f whole k =
      let goes = (made_from (state_inside count) (events f)).goes in
      ap₂ (λ (s : ExtractState) (l : List ℕ). record { state = s; put = l; goes = goes }) (k.stays whole) k.put
      ∙ ap (λ (g : Go). record { state = state_inside count; put = octets_so_far f; goes = g }) k.goes

  -- elements after those whose octets are put
  passed_on_after : (count : ℕ) (es : List EventValue) (put : List ℕ) (f rest : Forest)
      → made_from (state_inside count) es ≡ effect_with (state_inside count) put
      → events f ≡ es ++ events rest → put ++ octets_so_far rest ≡ octets_so_far f → is_whole f ≡ is_whole rest
      → IsPassedOn count rest → IsPassedOn count f
  passed_on_after count es put f rest e again octets whole k =
      let all =
      ap (made_from (state_inside count)) again
      ∙ then_more (state_inside count) (state_inside count) put es (events rest) e in
      record {
        put = ap (λ (t : Effect ExtractState). t.put) all ∙ ap (λ (l : List ℕ). put ++ l) k.put ∙ octets;
        goes = ap (λ (t : Effect ExtractState). t.goes) all ∙ k.goes;
        found = ap (λ (t : Effect ExtractState). has_found t.state) all ∙ k.found;
        stays = λ w. ap (λ (t : Effect ExtractState). t.state) all ∙ k.stays (sym whole ∙ w);
      }

  -- one more is open, and the count goes up
  one_more : (count : ℕ) (h : HeaderValue) → count ≤ 254
      → extract_begin_step (state_inside count) h ≡ effect_with (state_inside (suc count)) (octets_of h)
  one_more count h low = ap (λ (m : ℕ). effect_with (state_inside m) (octets_of h)) (omega (arith, low))

  -- a primitive
  pub primitive_passed_on : (count : ℕ) (h : HeaderValue) (c : List ℕ) → count ≤ 254
      → made_from (state_inside count) (Begin h ∷ Bytes c ∷ End ∷ [])
      ≡ effect_with (state_inside count) (octets_of h ++ c)
  primitive_passed_on count h c low =
      then_more (state_inside count) (state_inside (suc count)) (octets_of h ++ c) (Begin h ∷ Bytes c ∷ []) (End ∷ [])
      (made_from-begins (state_inside count) (state_inside (suc count)) (octets_of h) h c (one_more count h low))
      ∙ ap (effect_with (state_inside count)) (append-nil (octets_of h ++ c))

  holder_passed_on : (count : ℕ) (h : HeaderValue) (inside : Forest) → count ≤ 128 → AllowsSize h.constructed h.size
      → is_whole inside ≡ true → IsPassedOn (suc count) inside
      → made_from (state_inside count) (opening_events h ++ (events inside ++ closing_event h inside ∷ []))
      ≡ effect_with (state_inside count) (opening h ++ (octets_so_far inside ++ end_octets h.size))
  holder_passed_on count h inside low allowed whole k =
      then_more (state_inside count) (state_inside (suc count)) (opening h) (opening_events h)
      (events inside ++ closing_event h inside ∷ [])
      (made_from-opens (state_inside count) (state_inside (suc count)) (octets_of h) h
      (one_more count h (omega (arith, low))))
      ∙ ap (λ (t : Effect ExtractState). record t { put = opening h ++ t.put })
      (then_more (state_inside (suc count)) (state_inside (suc count)) (octets_so_far inside) (events inside)
      (closing_event h inside ∷ []) (whole_inside_passed_on (suc count) inside whole k)
      ∙ ap (λ (t : Effect ExtractState). record t { put = octets_so_far inside ++ t.put })
      (made_from-closes (state_inside (suc count)) h inside allowed))

  -- the octets of all that the element wanted holds are put
  pub passed_on : (p : Place) (count : ℕ) (f : Forest) → ObeysGrammar p f → count ≤ p.depth → p.depth ≤ 128
      → IsPassedOn count f
  passed_on p count NoMore v low deep = record { put = refl; goes = refl; found = refl; stays = λ w. refl }
  passed_on p count (PaddingOctet rest) v low deep =
      passed_on_after count (Pad (0 ∷ []) ∷ []) [] (PaddingOctet rest) rest refl refl refl refl
      (passed_on (place_after p 1) count rest v.1 low deep)
  passed_on p count (Primitive h c rest) v low deep =
      passed_on_after count (Begin h ∷ Bytes c ∷ End ∷ []) (octets_of h ++ c) (Primitive h c rest) rest
      (primitive_passed_on count h c (omega (arith, low, deep))) refl
      (append_assoc (octets_of h) c (octets_so_far rest)) refl (passed_on (place_after p _) count rest v.1 low deep)
  passed_on p count (Holder h inside rest) v low deep =
      let i : IsPassedOn (suc count) inside =
      passed_on (place_of_children p h) (suc count) inside v.1 (omega (arith, low))
      (omega (arith, v.0.0.shallow)) in
      passed_on_after count (opening_events h ++ (events inside ++ closing_event h inside ∷ []))
      (opening h ++ (octets_so_far inside ++ end_octets h.size)) (Holder h inside rest) rest
      (holder_passed_on count h inside (omega (arith, low, deep)) v.0.0.header.valid.allowed v.0.1 i)
      (events-holder h inside rest)
      (append_assoc (opening h) (octets_so_far inside ++ end_octets h.size) (octets_so_far rest)
      ∙ ap (λ (l : List ℕ). opening h ++ l)
      (append_assoc (octets_so_far inside) (end_octets h.size) (octets_so_far rest))) refl
      (passed_on (place_after p (holder_extent h inside)) count rest v.2 low deep)
  passed_on p count (OpenPrimitive h c) v low deep =
      let all =
      made_from-begins (state_inside count) (state_inside (suc count)) (octets_of h) h c
      (one_more count h (omega (arith, low, deep))) in
      record {
        put = ap (λ (t : Effect ExtractState). t.put) all;
        goes = ap (λ (t : Effect ExtractState). t.goes) all;
        found = ap (λ (t : Effect ExtractState). has_found t.state) all;
        stays = λ w. absurd (cc (w));
      }
  passed_on p count (OpenHolder h inside) v low deep =
      let i : IsPassedOn (suc count) inside =
      passed_on (place_of_children p h) (suc count) inside v.1 (omega (arith, low))
      (omega (arith, v.0.0.shallow)) in
      let all = then_more (state_inside count) (state_inside (suc count)) (opening h) (opening_events h) (events inside)
      (made_from-opens (state_inside count) (state_inside (suc count)) (octets_of h) h
      (one_more count h (omega (arith, low, deep)))) in
      record {
        put = ap (λ (t : Effect ExtractState). t.put) all ∙ ap (λ (l : List ℕ). opening h ++ l) i.put;
        goes = ap (λ (t : Effect ExtractState). t.goes) all ∙ i.goes;
        found = ap (λ (t : Effect ExtractState). has_found t.state) all ∙ i.found;
        stays = λ w. absurd (cc (w));
      }
  passed_on p count (OpenBitString h) v low deep =
      let all =
      followed-one extract_step (state_inside count) (Enter h) ∙ one_more count h (omega (arith, low, deep)) in
      record {
        put = ap (λ (t : Effect ExtractState). t.put) all;
        goes = ap (λ (t : Effect ExtractState). t.goes) all;
        found = ap (λ (t : Effect ExtractState). has_found t.state) all;
        stays = λ w. absurd (cc (w));
      }
  passed_on p count (OpenHeader octets) v low deep = record { put = refl; goes = refl; found = refl; stays = λ w. refl }
  passed_on p count OpenEndOctets v low deep = record { put = refl; goes = refl; found = refl; stays = λ w. refl }
