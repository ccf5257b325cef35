-- What is kept and found of the events of one element.
use Rattle.std.proofs.Common.{◌≡◌, ℕ, ◌+◌, ◌-◌, ◌<◌, ◌≤◌, ◌&&◌, ◌==◌, Bool, true, false, min, nat_lt, if◌then◌else◌}
use Rattle.std.proofs.Common.{List, [], ◌∷◌, ◌++◌, length, map, refl, sym, subst, ap, ◌∙◌, arith, append_assoc}
use Rattle.std.proofs.lemmas.Bool.{true≢false}
use Rattle.std.proofs.lemmas.Bool.Decides.{nat_tests}
use Rattle.std.proofs.lemmas.List.{length-map}
use Rattle.std.specs.Prelude.{Some, None}
use Rattle.tlv_head.specs.declared.header.Size.{Size}
use Rattle.tlv_head.specs.declared.header.Size.TheVariants.{Definite, Indefinite}
use Rattle.tlv_head.specs.Header.{HeaderValue, octets_of}
use Rattle.tlv_head.specs.HeaderSoFar.{AllowsSize}
use Rattle.tlv_walk.specs.Events.{Begin, Bytes, Close, End, Enter, EventValue, Leave, Open, Unused, closing_event}
use Rattle.tlv_walk.specs.Events.{event_octets, opening_events}
use Rattle.tlv_walk.proofs.GrammarLemmas.Leads.{end_offset}
use Rattle.tlv_walk.specs.Forest.{Forest, end_octets, opening, spelling}
use Rattle.tlv_walk.proofs.GrammarLemmas.Leads.{lead_by}
use Rattle.tlv_show.specs.declared.rules.Rules.{Rules}
use Rattle.tlv_show.specs.declared.set_frame.SetFrame.{SetFrame}
use Rattle.tlv_show.specs.SetOrder.{holder_element, is_set, primitive_element}
use Rattle.tlv_show.specs.SetOrderState.{SetOrderState, frame_after_octets, frame_begun, frame_entered}
use Rattle.tlv_show.specs.SetOrderState.{frames_after_octets, is_direct, new_set_frame, set_order_close_step}
use Rattle.tlv_show.specs.SetOrderState.{set_order_closed, set_order_end_step, set_order_entered, set_order_found}
use Rattle.tlv_show.specs.SetOrderState.{set_order_left, set_order_octets_step, set_order_outside, set_order_started}
use Rattle.tlv_show.specs.SetOrderState.{set_order_step}
use Rattle.tlv_show.proofs.SetOrderLemmas.Compared.{after-open, same-after, with_open}
use Rattle.tlv_show.proofs.SetOrderLemmas.OneElement.{Knows, element_step, ended_offsets, octets_step-append}

-- ---- a list of events

-- what is kept, and the offsets that were found
pub record SetOrderRun : Type 0 where
  pub state : SetOrderState
  pub found : List ℕ

abbrev pub then_offsets : List ℕ → SetOrderRun → SetOrderRun
then_offsets found u = record { state = u.state; found = found ++ u.found }

abbrev pub run_set_order : Rules → SetOrderState → List EventValue → SetOrderRun
run_set_order rules s [] = record { state = s; found = [] }
run_set_order rules s (e ∷ es) =
    then_offsets (set_order_found e (set_order_step rules s e)) (run_set_order rules (set_order_step rules s e) es)

pub run_more : (rules : Rules) (s : SetOrderState) (xs ys : List EventValue)
    → run_set_order rules s (xs ++ ys)
    ≡ then_offsets (run_set_order rules s xs).found (run_set_order rules (run_set_order rules s xs).state ys)
run_more rules s [] ys = refl
run_more rules s (x ∷ xs) ys =
    let t : SetOrderState = set_order_step rules s x in
    let found : List ℕ = set_order_found x t in
    ap (then_offsets found) (run_more rules t xs ys)
    ∙ ap (λ (l : List ℕ). record { state = (run_set_order rules (run_set_order rules t xs).state ys).state; found = l })
    (sym
    (append_assoc found (run_set_order rules t xs).found
    (run_set_order rules (run_set_order rules t xs).state ys).found))

module _ (rules : Rules) where
  -- ---- a primitive

  pub run-primitive : (s : SetOrderState) (h : HeaderValue) (c : List ℕ) (es : List EventValue)
      → run_set_order rules s (Begin h ∷ Bytes c ∷ End ∷ es)
      ≡ then_offsets (ended_offsets (element_step rules s (primitive_element h c)))
      (run_set_order rules (element_step rules s (primitive_element h c)) es)
  run-primitive s h c es =
      ap
      (λ (t : SetOrderState). then_offsets (ended_offsets (set_order_end_step t))
      (run_set_order rules (set_order_end_step t) es))
      (sym (octets_step-append (set_order_started rules s h) (octets_of h) c))

  -- ---- an element that holds others begins

  -- between its opening and the first element that it holds
  abbrev pub begun_state : SetOrderState → HeaderValue → SetOrderState
  begun_state s h = set_order_octets_step (set_order_started rules s h) (opening h)

  abbrev pub opened_state : SetOrderState → HeaderValue → SetOrderState
  opened_state s h = set_order_entered (begun_state s h) h

  abbrev entered_as : Bool → SetOrderState → SetOrderState
  entered_as with_frame s =
      if with_frame
      then record { frame = new_set_frame; outer = frame_entered s.frame ∷ s.outer }
      else record s { frame = frame_entered s.frame }

  entered-after : (w : SetFrame) (octets : List ℕ)
      → frame_after_octets (frame_entered w) octets ≡ frame_entered (frame_after_octets w octets)
  entered-after w octets =
      after-open (min (w.open_count + 1) 255) w octets
      ∙ ap (λ (n : ℕ). with_open (min (n + 1) 255) (frame_after_octets w octets)) (sym (same-after w octets).open_count)

  opened-by : (s : SetOrderState) (h : HeaderValue) (es : List EventValue) (k three : Bool)
      → run_set_order rules s (((if k then Open h else Enter h) ∷ map (λ z. Unused) (lead_by k three)) ++ es)
      ≡ run_set_order rules (opened_state s h) es
  opened-by s h es true three = refl
  opened-by s h es false false = refl
  opened-by s h es false true = refl

  pub run-opening : (s : SetOrderState) (h : HeaderValue) (es : List EventValue)
      → run_set_order rules s (opening_events h ++ es) ≡ run_set_order rules (opened_state s h) es
  run-opening s h es = opened-by s h es h.constructed (h.number == 3)

  -- ---- and ends

  close-octets : (size : Size) (offset : ℕ) → event_octets (Close (end_offset size offset)) ≡ end_octets size
  close-octets (Definite n) offset = refl
  close-octets Indefinite offset = refl

  no-end_octets : (size : Size) → AllowsSize false size → end_octets size ≡ []
  no-end_octets size allowed = ap (λ (k : Bool). if k then [] else 0 ∷ 0 ∷ []) allowed

  abbrev closed_run : SetOrderState → List ℕ → List EventValue → SetOrderRun
  closed_run s octets es =
      then_offsets (ended_offsets (set_order_close_step s octets))
      (run_set_order rules (set_order_close_step s octets) es)

  closed-by : (s : SetOrderState) (size : Size) (offset : ℕ) (es : List EventValue) (k : Bool) → AllowsSize k size
      → run_set_order rules s ((if k then Close (end_offset size offset) else Leave) ∷ es)
      ≡ closed_run s (end_octets size) es
  closed-by s size offset es true allowed = ap (λ (l : List ℕ). closed_run s l es) (close-octets size offset)
  closed-by s size offset es false allowed =
      ap (λ (l : List ℕ). closed_run s l es) (sym (no-end_octets size allowed))

  pub run-closing : (s : SetOrderState) (h : HeaderValue) (inside : Forest) (es : List EventValue)
      → AllowsSize h.constructed h.size
      → run_set_order rules s (closing_event h inside ∷ es)
      ≡ then_offsets (ended_offsets (set_order_close_step s (end_octets h.size)))
      (run_set_order rules (set_order_close_step s (end_octets h.size)) es)
  run-closing s h inside es allowed =
      closed-by s h.size (h.offset + length (opening h) + length (spelling inside)) es h.constructed allowed

  -- ---- what is kept inside

  started-open : (s : SetOrderState) (h : HeaderValue)
      → (set_order_started rules s h).frame.open_count ≡ s.frame.open_count
  started-open s h = by (is_direct s.frame)
    where
      by : (k : Bool)
          → (if k then record s { frame = frame_begun rules s.frame h } else s).frame.open_count ≡ s.frame.open_count
      by true = refl
      by false = refl

  started-outer : (s : SetOrderState) (h : HeaderValue) → (set_order_started rules s h).outer ≡ s.outer
  started-outer s h = by (is_direct s.frame)
    where
      by : (k : Bool) → (if k then record s { frame = frame_begun rules s.frame h } else s).outer ≡ s.outer
      by true = refl
      by false = refl

  begun-open : (s : SetOrderState) (h : HeaderValue) → (begun_state s h).frame.open_count ≡ s.frame.open_count
  begun-open s h =
      (same-after (set_order_started rules s h).frame (opening h)).open_count ∙ started-open s h

  begun-length : (s : SetOrderState) (h : HeaderValue) → length (begun_state s h).outer ≡ length s.outer
  begun-length s h =
      length-map (set_order_started rules s h).outer (λ (w : SetFrame). frame_after_octets w (opening h))
      ∙ ap length (started-outer s h)

  has-room : (s : SetOrderState) (h : HeaderValue) → length s.outer < 128
      → nat_lt (length (begun_state s h).outer) 128 ≡ true
  has-room s h few =
      let e = begun-length s h in
      let less : length (begun_state s h).outer < 128 = omega (arith, e) in
      grind (arith, nat_tests)

  not-direct : (n : ℕ) → (min (n + 1) 255 == 0) ≡ false
  not-direct n = let some : 0 < min (n + 1) 255 = omega arith in grind (arith, nat_tests)

  -- what an opened state is, by whether its element is a SET
  pub record IsOpened (s : SetOrderState) (h : HeaderValue) (t : SetOrderState) : Type 0 where
    pub knows : Knows t (Some h) None
    pub open_count : t.frame.open_count ≤ s.frame.open_count + 1
    pub few : length t.outer ≤ length s.outer + 1

  opened-as : (s : SetOrderState) (h : HeaderValue) (k : Bool) → is_set h ≡ k
      → IsOpened s h (entered_as k (begun_state s h))
  opened-as s h true e =
      let n = begun-length s h in
      record {
        knows = record { direct = sym e; before = λ z. record { octets = refl; tag = tt } };
        open_count = omega arith;
        few = omega (arith, n);
      }
  opened-as s h false e =
      let n = begun-length s h in
      let same_open = begun-open s h in
      let none = not-direct (begun_state s h).frame.open_count in
      record {
        knows = record { direct = none ∙ sym e; before = λ is. absurd (true≢false (sym is ∙ none)) };
        open_count = omega (arith, same_open);
        few = omega (arith, n);
      }

  opened-is : (s : SetOrderState) (h : HeaderValue) → length s.outer < 128
      → opened_state s h ≡ entered_as (is_set h) (begun_state s h)
  opened-is s h few =
      ap (λ (k : Bool). entered_as (is_set h && k) (begun_state s h)) (has-room s h few)
      ∙ ap (λ (k : Bool). entered_as k (begun_state s h)) (and-true (is_set h))
    where
      and-true : (k : Bool) → (k && true) ≡ k
      and-true true = refl
      and-true false = refl

  pub opened-knows : (s : SetOrderState) (h : HeaderValue) → length s.outer < 128
      → IsOpened s h (opened_state s h)
  opened-knows s h few =
      subst (IsOpened s h) (sym (opened-is s h few)) (opened-as s h (is_set h) refl)

  -- ---- what is kept after whole elements

  -- after these octets of whole elements: what is kept of an element that holds them, and of the SETs outside
  pub record IsAfter (s : SetOrderState) (octets : List ℕ) (u : SetOrderState) : Type 0 where
    pub inside : is_direct s.frame ≡ false → u ≡ set_order_octets_step s octets
    pub directly : is_direct s.frame ≡ true
        → (is_direct u.frame ≡ true) × (u.outer ≡ frames_after_octets octets s.outer)

  -- with the end of what holds them, the frame outside is the innermost one again
  left-as : (t : SetOrderState) (octets : List ℕ) (u : SetOrderState) (k : Bool) → IsAfter (entered_as k t) octets u
      → set_order_left u ≡ set_order_octets_step (record t { frame = frame_entered t.frame }) octets
  left-as t octets u true after =
      let d = after.directly refl in
      ap (λ (k : Bool). if k then set_order_outside u u.outer else u) d.0
      ∙ ap (set_order_outside u) d.1
  left-as t octets u false after =
      let s : SetOrderState = record t { frame = frame_entered t.frame } in
      let none : is_direct s.frame ≡ false = not-direct t.frame.open_count in
      let e : u ≡ set_order_octets_step s octets = after.inside none in
      let still : is_direct (set_order_octets_step s octets).frame ≡ false =
      ap (λ (n : ℕ). n == 0) (same-after s.frame octets).open_count ∙ none in
      ap set_order_left e
      ∙ ap (λ (k : Bool). if k
      then set_order_outside (set_order_octets_step s octets) (set_order_octets_step s octets).outer
      else set_order_octets_step s octets)
      still

  closed-entered : (w : SetFrame) → w.open_count ≤ 254
      → record (frame_entered w) { open_count = (frame_entered w).open_count - 1 } ≡ w
  closed-entered w few =
      let same : min (w.open_count + 1) 255 - 1 ≡ w.open_count = omega arith in
      ap (λ (n : ℕ). with_open n w) same

  pub closed-is : (s : SetOrderState) (h : HeaderValue) (inside : Forest) (u : SetOrderState) → length s.outer < 128
      → s.frame.open_count ≤ 254 → IsAfter (opened_state s h) (spelling inside) u
      → set_order_close_step u (end_octets h.size) ≡ element_step rules s (holder_element h inside)
  closed-is s h inside u few limit after =
      let t : SetOrderState = begun_state s h in
      let octets : List ℕ = spelling inside ++ end_octets h.size in
      let in_it : SetOrderState = record t { frame = frame_entered t.frame } in
      let left : set_order_left u ≡ set_order_octets_step in_it (spelling inside) =
      left-as t (spelling inside) u (is_set h)
      (subst (λ (v : SetOrderState). IsAfter v (spelling inside) u) (opened-is s h few) after) in
      let w : SetFrame = frame_after_octets t.frame octets in
      let same : w.open_count ≡ s.frame.open_count = (same-after t.frame octets).open_count ∙ begun-open s h in
      ap (λ (v : SetOrderState). set_order_end_step (set_order_closed (set_order_octets_step v (end_octets h.size))))
      left
      ∙ ap (λ (v : SetOrderState). set_order_end_step (set_order_closed v))
      (sym (octets_step-append in_it (spelling inside) (end_octets h.size)))
      ∙ ap
      (λ (v : SetFrame). set_order_end_step
      (set_order_closed (record { frame = v; outer = frames_after_octets octets t.outer })))
      (entered-after t.frame octets)
      ∙ ap (λ (v : SetFrame). set_order_end_step (record { frame = v; outer = frames_after_octets octets t.outer }))
      (closed-entered w (omega (arith, same, limit)))
      ∙ ap set_order_end_step (sym (octets_step-append (set_order_started rules s h) (opening h) octets))
