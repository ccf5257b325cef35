-- What an `Extract` makes of the events of elements is what `extract` writes.
use Rattle.std.proofs.Common.{refl, sym, ap, ◌∙◌, subst, arith, append_assoc, append-nil}
use Rattle.std.specs.Prelude.{◌≡◌, ℕ, ◌≤◌, Bool, true, false, ◌==◌, if◌then◌else◌, List, [], ◌∷◌, ◌++◌}
use Rattle.std.specs.Prelude.{Option, Some, None}
use Rattle.std.specs.Option.{is_some, option_map_or, option_or}
use Rattle.tlv_head.specs.Header.{HeaderValue, octets_of}
use Rattle.tlv_head.specs.HeaderSoFar.{AllowsSize}
use Rattle.tlv_walk.specs.declared.follow.Go.TheVariants as go
use Rattle.tlv_walk.specs.Events.{Begin, Bytes, End, Enter, EventValue, closing_event, events, opening_events}
use Rattle.tlv_walk.specs.Follow.{Effect, effect_with, go_of, no_effect}
use Rattle.tlv_walk.specs.Forest.{Forest, NoMore, PaddingOctet, Primitive, Holder, OpenPrimitive, OpenHolder}
use Rattle.tlv_walk.specs.Forest.{OpenBitString, OpenHeader, OpenEndOctets}
use Rattle.tlv_walk.specs.Forest.{end_octets, holder_extent, is_whole, lead, opening}
use Rattle.tlv_walk.specs.Place.{ObeysGrammar, Place, place_after, place_of_children}
use Rattle.tlv_walk.proofs.FollowerLemmas.FollowedEvents.{followed-enough, followed-one}
use Rattle.tlv_run.specs.declared.extract_follower.Position.TheVariants as position
use Rattle.tlv_run.specs.Extract.{contents_so_far, element_at, octets_so_far}
use Rattle.tlv_run.specs.ExtractStep.{ExtractState, extract_begin_step, extract_step, has_found, new_extract}
use Rattle.tlv_run.specs.ExtractStep.{outer_octets}
use Rattle.tlv_run.proofs.ExtractLemmas.Inside.{made_from, IsPassedOn, whole_inside_passed_on}
use Rattle.tlv_run.proofs.ExtractLemmas.Inside.{made_from-begins, events-holder, made_from-closes, state_inside}
use Rattle.tlv_run.proofs.ExtractLemmas.Inside.{made_from-opens, then_more, passed_on}

-- what is written for an element: all its octets, or only its contents octets
abbrev element_text : Bool → Forest → List ℕ
element_text contents_only e = if contents_only then contents_so_far e else octets_so_far e

module _ (n : ℕ) (only : Bool) where
  -- an `Extract` before its element, and after it
  abbrev pub before : ExtractState
  before = new_extract n only

  abbrev pub after_element : ExtractState
  after_element = record before { position = position.After }

  abbrev pub finish_step : List ℕ → Effect ExtractState
  finish_step octets = record { state = after_element; put = octets; goes = go.Enough }

  -- ---- what is made, by the element at the offset

  -- what was made is the text of this element, if there is one
  pub record IsTextOf (e : Option Forest) (t : Effect ExtractState) : Type 0 where
    pub put : t.put ≡ option_map_or (element_text only) e []
    pub goes : t.goes ≡ go_of (option_map_or is_whole e false)
    pub found : has_found t.state ≡ is_some e
    pub misses : e ≡ None → t ≡ no_effect before

  -- there is none
  no_effect-is_text : (t : Effect ExtractState) → t ≡ no_effect before → IsTextOf None t
  no_effect-is_text t e = record {
    put = ap (λ (t : Effect ExtractState). t.put) e;
    goes = ap (λ (t : Effect ExtractState). t.goes) e;
    found = ap (λ (t : Effect ExtractState). has_found t.state) e;
    misses = λ _. e;
  }

  -- it has not ended
  open_text : (e : Forest) (t : Effect ExtractState) → is_whole e ≡ false → t.put ≡ element_text only e
      → t.goes ≡ go.On
      → has_found t.state ≡ true → IsTextOf (Some e) t
  open_text e t part octets on found =
      record { put = octets; goes = on ∙ sym (ap go_of part); found = found; misses = λ none. absurd (cc (none)) }

  -- it has ended
  whole_text : (e : Forest) (t : Effect ExtractState) (octets : List ℕ) → is_whole e ≡ true
      → octets ≡ element_text only e → t ≡ finish_step octets
      → IsTextOf (Some e) t
  whole_text e t octets whole is made = record {
    put = ap (λ (t : Effect ExtractState). t.put) made ∙ is;
    goes = ap (λ (t : Effect ExtractState). t.goes) made ∙ sym (ap go_of whole);
    found = ap (λ (t : Effect ExtractState). has_found t.state) made;
    misses = λ none. absurd (cc (none));
  }

  -- one of two, by a test
  text-by_test : (k : Bool) (a b : Option Forest) (t : Effect ExtractState) → (k ≡ true → IsTextOf a t)
      → (k ≡ false → IsTextOf b t)
      → IsTextOf (if k then a else b) t
  text-by_test true a b t f g = f refl
  text-by_test false a b t f g = g refl

  -- the first that is there
  first_there : (a b : Option Forest) (t : Effect ExtractState) → ((e : Forest) → a ≡ Some e → IsTextOf a t)
      → (a ≡ None → IsTextOf b t)
      → IsTextOf (option_or a b) t
  first_there (Some e) b t f g = f e refl
  first_there None b t f g = g refl

  -- ---- an element begins

  -- by whether it is the one wanted
  abbrev begins : HeaderValue → Bool → Effect ExtractState
  begins h wanted =
      if wanted then effect_with (state_inside n only 0) (outer_octets only (octets_of h)) else no_effect before

  wanted_begins : (h : HeaderValue) → (h.offset == n) ≡ true
      → extract_begin_step before h ≡ effect_with (state_inside n only 0) (outer_octets only (octets_of h))
  wanted_begins h e = ap (begins h) e

  other_begins : (h : HeaderValue) → (h.offset == n) ≡ false → extract_begin_step before h ≡ no_effect before
  other_begins h e = ap (begins h) e

  -- the element wanted, from its header to its end
  made_from-primitive : (h : HeaderValue) (c : List ℕ) → (h.offset == n) ≡ true
      → made_from before (Begin h ∷ Bytes c ∷ End ∷ [])
      ≡ finish_step ((outer_octets only (octets_of h) ++ c) ++ outer_octets only [])
  made_from-primitive h c e =
      then_more before (state_inside n only 0) (outer_octets only (octets_of h) ++ c) (Begin h ∷ Bytes c ∷ [])
      (End ∷ [])
      (made_from-begins before (state_inside n only 0) (outer_octets only (octets_of h)) h c (wanted_begins h e))

  opens_wanted : (h : HeaderValue) → (h.offset == n) ≡ true
      → made_from before (opening_events h)
      ≡ effect_with (state_inside n only 0) (outer_octets only (octets_of h) ++ lead h)
  opens_wanted h e =
      made_from-opens before (state_inside n only 0) (outer_octets only (octets_of h)) h (wanted_begins h e)

  opens_other : (h : HeaderValue) (es : List EventValue) → (h.offset == n) ≡ false
      → made_from before (opening_events h ++ es) ≡ made_from before es
  opens_other h es e =
      then_more before before [] (opening_events h) es (made_from-opens before before [] h (other_begins h e))

  made_from-holder : (h : HeaderValue) (inside : Forest) → (h.offset == n) ≡ true → AllowsSize h.constructed h.size
      → is_whole inside ≡ true → IsPassedOn n only 0 inside
      → made_from before (opening_events h ++ (events inside ++ closing_event h inside ∷ []))
      ≡ finish_step ((outer_octets only (octets_of h) ++ lead h) ++
      (octets_so_far inside ++ outer_octets only (end_octets h.size)))
  made_from-holder h inside e allowed whole k =
      then_more before (state_inside n only 0) (outer_octets only (octets_of h) ++ lead h) (opening_events h)
      (events inside ++ closing_event h inside ∷ []) (opens_wanted h e)
      ∙ ap (λ (t : Effect ExtractState). record t { put = (outer_octets only (octets_of h) ++ lead h) ++ t.put })
      (then_more (state_inside n only 0) (state_inside n only 0) (octets_so_far inside) (events inside)
      (closing_event h inside ∷ []) (whole_inside_passed_on n only 0 inside whole k)
      ∙ ap (λ (t : Effect ExtractState). record t { put = octets_so_far inside ++ t.put })
      (made_from-closes (state_inside n only 0) h inside allowed))

  -- ---- what is put

  whole_octets : (h : HeaderValue) (c : List ℕ)
      → (outer_octets only (octets_of h) ++ c) ++ outer_octets only [] ≡ element_text only (Primitive h c NoMore)
  whole_octets h c = by only
    where
      by : (k : Bool) → (outer_octets k (octets_of h) ++ c) ++ outer_octets k [] ≡ element_text k (Primitive h c NoMore)
      by true = append-nil c
      by false = append_assoc (octets_of h) c []

  holder_octets : (h : HeaderValue) (inside : Forest)
      → (outer_octets only (octets_of h) ++ lead h) ++ (octets_so_far inside ++ outer_octets only (end_octets h.size))
      ≡ element_text only (Holder h inside NoMore)
  holder_octets h inside = by only
    where
      by : (k : Bool)
          → (outer_octets k (octets_of h) ++ lead h) ++ (octets_so_far inside ++ outer_octets k (end_octets h.size))
          ≡ element_text k (Holder h inside NoMore)
      by true = ap (λ (l : List ℕ). lead h ++ l) (append-nil (octets_so_far inside))
      by false = ap (λ (l : List ℕ). opening h ++ (octets_so_far inside ++ l)) (sym (append-nil (end_octets h.size)))

  open_primitive_octets : (h : HeaderValue) (c : List ℕ)
      → outer_octets only (octets_of h) ++ c ≡ element_text only (OpenPrimitive h c)
  open_primitive_octets h c = by only
    where
      by : (k : Bool) → outer_octets k (octets_of h) ++ c ≡ element_text k (OpenPrimitive h c)
      by true = refl
      by false = refl

  open_holder_octets : (h : HeaderValue) (inside : Forest)
      → (outer_octets only (octets_of h) ++ lead h) ++ octets_so_far inside ≡ element_text only (OpenHolder h inside)
  open_holder_octets h inside = by only
    where
      by : (k : Bool)
          → (outer_octets k (octets_of h) ++ lead h) ++ octets_so_far inside ≡ element_text k (OpenHolder h inside)
      by true = refl
      by false = refl

  open_bit_string_octets : (h : HeaderValue) → outer_octets only (octets_of h) ≡ element_text only (OpenBitString h)
  open_bit_string_octets h = by only
    where
      by : (k : Bool) → outer_octets k (octets_of h) ≡ element_text k (OpenBitString h)
      by true = refl
      by false = refl

  -- ---- elements

  -- the element has ended, if there is one
  abbrev AllWhole : Option Forest → Type 0
  AllWhole e = option_map_or is_whole e true ≡ true

  whole-by_test : (k : Bool) (a b : Option Forest) → AllWhole a → AllWhole b → AllWhole (if k then a else b)
  whole-by_test true a b v w = v
  whole-by_test false a b v w = w

  either_there : (a b : Option Forest) → AllWhole a → AllWhole b → AllWhole (option_or a b)
  either_there (Some e) b v w = v
  either_there None b v w = w

  -- if all elements have ended, the one at the offset has
  whole_at : (p : Place) (f : Forest) → ObeysGrammar p f → is_whole f ≡ true → AllWhole (element_at n f)
  whole_at p NoMore v w = refl
  whole_at p (PaddingOctet rest) v w = whole_at (place_after p 1) rest v.1 w
  whole_at p (Primitive h c rest) v w =
      whole-by_test (h.offset == n) (Some (Primitive h c NoMore)) (element_at n rest) refl
      (whole_at (place_after p _) rest v.1 w)
  whole_at p (Holder h inside rest) v w =
      let a = element_at n inside in
      let b = element_at n rest in
      whole-by_test (h.offset == n) (Some (Holder h inside NoMore)) (option_or a b) refl
      (either_there a b (whole_at (place_of_children p h) inside v.1 v.0.1)
      (whole_at (place_after p (holder_extent h inside)) rest v.2 w))
  whole_at p (OpenPrimitive h c) v w = absurd (cc (w))
  whole_at p (OpenHolder h inside) v w = absurd (cc (w))
  whole_at p (OpenBitString h) v w = absurd (cc (w))
  whole_at p (OpenHeader octets) v w = absurd (cc (w))
  whole_at p OpenEndOctets v w = absurd (cc (w))

  -- the element that is there has ended
  there_whole : (a : Option Forest) (e : Forest) → a ≡ Some e → AllWhole a → option_map_or is_whole a false ≡ true
  there_whole (Some d) e is w = w
  there_whole None e is w = absurd (cc (is))

  -- once there was enough, nothing is made of more events
  enough-ends_all : (es fs : List EventValue) (octets : List ℕ) → made_from before es ≡ finish_step octets
      → made_from before (es ++ fs) ≡ finish_step octets
  enough-ends_all es fs octets e =
      followed-enough extract_step before es fs (ap (λ (t : Effect ExtractState). t.goes) e) ∙ e

  -- an element that holds others and is not the one wanted
  passed_by : (p : Place) (h : HeaderValue) (inside rest : Forest) → ObeysGrammar p (Holder h inside rest)
      → (h.offset == n) ≡ false
      → IsTextOf (element_at n inside) (made_from before (events inside))
      → IsTextOf (element_at n rest) (made_from before (events rest))
      → IsTextOf (option_or (element_at n inside) (element_at n rest))
      (made_from before (events (Holder h inside rest)))
  passed_by p h inside rest v e i r =
      let t = made_from before (events (Holder h inside rest)) in
      let opened = opens_other h (events inside ++ closing_event h inside ∷ events rest) e in
      first_there (element_at n inside) (element_at n rest) t
      (λ e is.
      let whole = there_whole (element_at n inside) e is (whole_at (place_of_children p h) inside v.1 v.0.1) in
      let on = i.goes ∙ ap go_of whole in
      let same =
      opened ∙ followed-enough extract_step before (events inside) (closing_event h inside ∷ events rest) on in
      subst (IsTextOf (element_at n inside)) (sym same) i)
      (λ none.
      let same =
      opened ∙ then_more before before [] (events inside) (closing_event h inside ∷ events rest) (i.misses none)
      ∙ then_more before before [] (closing_event h inside ∷ []) (events rest)
      (made_from-closes before h inside v.0.0.header.valid.allowed) in
      subst (IsTextOf (element_at n rest)) (sym same) r)

  -- what is made of the events of elements is the text of the element at the offset
  pub makes_text : (p : Place) (f : Forest) → ObeysGrammar p f → p.depth ≤ 128
      → IsTextOf (element_at n f) (made_from before (events f))
  makes_text p NoMore v deep = no_effect-is_text (made_from before []) refl
  makes_text p (PaddingOctet rest) v deep = makes_text (place_after p 1) rest v.1 deep
  makes_text p (Primitive h c rest) v deep =
      let es = Begin h ∷ Bytes c ∷ End ∷ [] in
      text-by_test (h.offset == n) (Some (Primitive h c NoMore)) (element_at n rest)
      (made_from before (es ++ events rest))
      (λ e. whole_text (Primitive h c NoMore) _ _ refl (whole_octets h c)
      (enough-ends_all es (events rest) _ (made_from-primitive h c e)))
      (λ e. subst (IsTextOf (element_at n rest))
      (sym (then_more before before [] (Begin h ∷ Bytes c ∷ []) (End ∷ events rest)
      (made_from-begins before before [] h c (other_begins h e))))
      (makes_text (place_after p _) rest v.1 deep))
  makes_text p (Holder h inside rest) v deep =
      let es = opening_events h ++ (events inside ++ closing_event h inside ∷ []) in
      text-by_test (h.offset == n) (Some (Holder h inside NoMore)) (option_or (element_at n inside) (element_at n rest))
      (made_from before (events (Holder h inside rest)))
      (λ e.
      let k =
      passed_on n only (place_of_children p h) 0 inside v.1 (omega arith) (omega (arith, v.0.0.shallow)) in
      let all = enough-ends_all es (events rest) _ (made_from-holder h inside e v.0.0.header.valid.allowed v.0.1 k) in
      whole_text (Holder h inside NoMore) _ _ refl (holder_octets h inside)
      (ap (made_from before) (events-holder h inside rest) ∙ all))
      (λ e. passed_by p h inside rest v e
      (makes_text (place_of_children p h) inside v.1 (omega (arith, v.0.0.shallow)))
      (makes_text (place_after p (holder_extent h inside)) rest v.2 deep))
  makes_text p (OpenPrimitive h c) v deep =
      let es = Begin h ∷ Bytes c ∷ [] in
      text-by_test (h.offset == n) (Some (OpenPrimitive h c)) None (made_from before es)
      (λ e.
      let all =
      made_from-begins before (state_inside n only 0) (outer_octets only (octets_of h)) h c (wanted_begins h e) in
      open_text (OpenPrimitive h c) _ refl (ap (λ (t : Effect ExtractState). t.put) all ∙ open_primitive_octets h c)
      (ap (λ (t : Effect ExtractState). t.goes) all)
      (ap (λ (t : Effect ExtractState). has_found t.state) all))
      (λ e. no_effect-is_text _ (made_from-begins before before [] h c (other_begins h e)))
  makes_text p (OpenHolder h inside) v deep =
      text-by_test (h.offset == n) (Some (OpenHolder h inside)) (element_at n inside)
      (made_from before (opening_events h ++ events inside))
      (λ e.
      let k =
      passed_on n only (place_of_children p h) 0 inside v.1 (omega arith) (omega (arith, v.0.0.shallow)) in
      let all =
      then_more before (state_inside n only 0) (outer_octets only (octets_of h) ++ lead h) (opening_events h)
      (events inside) (opens_wanted h e) in
      open_text (OpenHolder h inside) _ refl
      (ap (λ (t : Effect ExtractState). t.put) all
      ∙ ap (λ (l : List ℕ). (outer_octets only (octets_of h) ++ lead h) ++ l) k.put ∙ open_holder_octets h inside)
      (ap (λ (t : Effect ExtractState). t.goes) all ∙ k.goes)
      (ap (λ (t : Effect ExtractState). has_found t.state) all ∙ k.found))
      (λ e. subst (IsTextOf (element_at n inside)) (sym (opens_other h (events inside) e))
      (makes_text (place_of_children p h) inside v.1 (omega (arith, v.0.0.shallow))))
  makes_text p (OpenBitString h) v deep =
      text-by_test (h.offset == n) (Some (OpenBitString h)) None (made_from before (Enter h ∷ []))
      (λ e.
      let all = followed-one extract_step before (Enter h) ∙ wanted_begins h e in
      open_text (OpenBitString h) _ refl (ap (λ (t : Effect ExtractState). t.put) all ∙ open_bit_string_octets h)
      (ap (λ (t : Effect ExtractState). t.goes) all)
      (ap (λ (t : Effect ExtractState). has_found t.state) all))
      (λ e. no_effect-is_text _ (followed-one extract_step before (Enter h) ∙ other_begins h e))
  makes_text p (OpenHeader octets) v deep = no_effect-is_text (made_from before []) refl
  makes_text p OpenEndOctets v deep = no_effect-is_text (made_from before []) refl
