-- What a follower makes of lists of events, and of lists that are equal joined.
use Rattle.std.proofs.Common.{◌≡◌, ℕ, List, [], ◌∷◌, ◌++◌, refl, sym, ap, ◌∙◌, append_assoc, append-nil, flat_map}
use Rattle.tlv_walk.specs.declared.follow.Go.{Go}
use Rattle.tlv_walk.specs.declared.follow.Go.TheVariants.{On, Enough}
use Rattle.tlv_walk.specs.Events.{AreEqualJoined, Begin, Bytes, Close, End, Enter, EventValue, Leave, Open, Pad, Unused}
use Rattle.tlv_walk.specs.Events.{joined_events, with_bytes, with_pad}
use Rattle.tlv_walk.specs.Follow.{Effect, GoesOn, Joins, IgnoresEmpty, and_then, each_octet, effect_of, followed_events}
use Rattle.tlv_walk.specs.Follow.{events_if_more, effect_if_more, no_effect}

module _ {S : Type 0} where
  -- what was put before
  put_before : List ℕ → Effect S → Effect S
  put_before put t = record t { put = put ++ t.put }

  -- three in a row
  pub and_then-assoc : (t : Effect S) (f g : S → Effect S)
      → and_then (and_then t f) g ≡ and_then t (λ u. and_then (f u) g)
  and_then-assoc t f g =
      let middle = f t.state in
      let last = g middle.state in
      ap (λ (l : List ℕ). record last { put = l }) (append_assoc t.put middle.put last.put)

  -- nothing after, and nothing before
  pub and_then-stay : (t : Effect S) → t.goes ≡ On → and_then t no_effect ≡ t
  and_then-stay t e =
      ap (λ (g : Go). record { state = t.state; put = t.put ++ []; goes = g }) (sym e)
      ∙ ap (λ (l : List ℕ). record { state = t.state; put = l; goes = t.goes }) (append-nil t.put)

  -- what comes after may be another that makes the same
  pub and_then-alike : (t : Effect S) (f g : S → Effect S) → f t.state ≡ g t.state → and_then t f ≡ and_then t g
  unfolding put_before
  and_then-alike t f g e = ap (put_before t.put) e

  effect_if_more-alike : (go : Go) (t : Effect S) (f g : S → Effect S) → f t.state ≡ g t.state
      → effect_if_more go t f ≡ effect_if_more go t g
  effect_if_more-alike On t f g e = and_then-alike t f g e
  effect_if_more-alike Enough t f g e = refl

  effect_if_more-assoc : (go : Go) (t : Effect S) (f g : S → Effect S) → go ≡ t.goes
      → effect_if_more go t (λ u. effect_if_more (f u).goes (f u) g)
      ≡ effect_if_more (effect_if_more go t f).goes (effect_if_more go t f) g
  effect_if_more-assoc On t f g e = effect-after_one (f t.state) (f t.state).goes
    where
      effect-after_one : (m : Effect S) (go : Go)
          → and_then t (λ u. effect_if_more go m g) ≡ effect_if_more go (and_then t (λ u. m)) g
      effect-after_one m On = sym (and_then-assoc t (λ u. m) g)
      effect-after_one m Enough = refl
  effect_if_more-assoc Enough t f g e = ap (λ (go : Go). effect_if_more go t g) e

on_is_not_enough : On ≡ Enough → ⊥
on_is_not_enough e = cc

module _ {S : Type 0} (next : S → EventValue → Effect S) where
  -- some events and then others
  pub followed-append : (s : S) (xs ys : List EventValue)
      → effect_of next s (xs ++ ys)
      ≡ effect_if_more (effect_of next s xs).goes (effect_of next s xs) (λ u. effect_of next u ys)
  followed-append s [] ys = refl
  followed-append s (e ∷ xs) ys =
      let t = next s e in
      effect_if_more-alike t.goes t (λ u. effect_of next u (xs ++ ys))
      (λ u. effect_if_more (effect_of next u xs).goes (effect_of next u xs) (λ v. effect_of next v ys))
      (followed-append t.state xs ys)
      ∙ effect_if_more-assoc t.goes t (λ u. effect_of next u xs) (λ v. effect_of next v ys) refl

  -- if it wanted more, others come after
  pub followed-more : (s : S) (xs ys : List EventValue) → (effect_of next s xs).goes ≡ On
      → effect_of next s (xs ++ ys) ≡ and_then (effect_of next s xs) (λ u. effect_of next u ys)
  followed-more s xs ys e =
      followed-append s xs ys ∙ ap (λ (go : Go). effect_if_more go (effect_of next s xs) (λ u. effect_of next u ys)) e

  -- if it had enough, others make nothing
  pub followed-enough : (s : S) (xs ys : List EventValue) → (effect_of next s xs).goes ≡ Enough
      → effect_of next s (xs ++ ys) ≡ effect_of next s xs
  followed-enough s xs ys e =
      followed-append s xs ys ∙ ap (λ (go : Go). effect_if_more go (effect_of next s xs) (λ u. effect_of next u ys)) e

  -- what some events put is a prefix of what these and others put
  pub followed-prefix : (s : S) (xs ys : List EventValue)
      → (more : List ℕ) × ((effect_of next s (xs ++ ys)).put ≡ (effect_of next s xs).put ++ more)
  followed-prefix s xs ys =
      let t = effect_of next s xs in
      let front = if_prefix t.goes t (λ u. effect_of next u ys) in
      (front.0, ap (λ (u : Effect S). u.put) (followed-append s xs ys) ∙ front.1)
    where
      if_prefix : (go : Go) (t : Effect S) (f : S → Effect S)
          → (more : List ℕ) × ((effect_if_more go t f).put ≡ t.put ++ more)
      if_prefix On t f = ((f t.state).put, refl)
      if_prefix Enough t f = ([], sym (append-nil t.put))

  -- one event more
  pub followed-one : (s : S) (e : EventValue) → effect_of next s (e ∷ []) ≡ next s e
  followed-one s e = one (next s e).goes (next s e) refl
    where
      one : (go : Go) (t : Effect S) → t.goes ≡ go → effect_if_more go t no_effect ≡ t
      one On t g = and_then-stay t g
      one Enough t g = refl

  -- ---- the events up to the first at which it has enough

  -- if it wanted more after some events, they are followed, and others after them
  pub events_more : (s : S) (xs ys : List EventValue) → (effect_of next s xs).goes ≡ On
      → followed_events next s (xs ++ ys) ≡ xs ++ followed_events next (effect_of next s xs).state ys
  events_more s [] ys h = refl
  events_more s (e ∷ xs) ys h =
      by (λ (k : (effect_of next (next s e).state xs).goes ≡ On). events_more (next s e).state xs ys k)
      (next s e).goes refl h
    where
      by : ((effect_of next (next s e).state xs).goes ≡ On
          → followed_events next (next s e).state (xs ++ ys)
          ≡ xs ++ followed_events next (effect_of next (next s e).state xs).state ys)
          → (g : Go) → (next s e).goes ≡ g → (effect_if_more g (next s e) (λ u. effect_of next u xs)).goes ≡ On
          → e ∷ events_if_more g (followed_events next (next s e).state (xs ++ ys))
          ≡ e ∷ (xs ++ followed_events next (effect_if_more g (next s e) (λ u. effect_of next u xs)).state ys)
      by step On k h = ap (λ (l : List EventValue). e ∷ l) (step h)
      by step Enough k h = absurd (on_is_not_enough (sym h ∙ k))

  -- one event is followed
  pub events_one : (s : S) (e : EventValue) → followed_events next s (e ∷ []) ≡ e ∷ []
  events_one s e = by (next s e).goes
    where
      by : (g : Go) → e ∷ events_if_more g [] ≡ e ∷ []
      by On = refl
      by Enough = refl

  -- if it had enough, none after them
  pub events_enough : (s : S) (xs ys : List EventValue) → (effect_of next s xs).goes ≡ Enough
      → followed_events next s (xs ++ ys) ≡ followed_events next s xs
  events_enough s [] ys h = absurd (cc (h))
  events_enough s (e ∷ xs) ys h =
      by (λ (k : (effect_of next (next s e).state xs).goes ≡ Enough). events_enough (next s e).state xs ys k)
      (next s e).goes refl h
    where
      by : ((effect_of next (next s e).state xs).goes ≡ Enough
          → followed_events next (next s e).state (xs ++ ys) ≡ followed_events next (next s e).state xs)
          → (g : Go) → (next s e).goes ≡ g → (effect_if_more g (next s e) (λ u. effect_of next u xs)).goes ≡ Enough
          → e ∷ events_if_more g (followed_events next (next s e).state (xs ++ ys))
          ≡ e ∷ events_if_more g (followed_events next (next s e).state xs)
      by step On k h = ap (λ (l : List EventValue). e ∷ l) (step h)
      by step Enough k h = refl

  -- events after one event may be others that are followed alike
  effect-after_one : (s : S) (e : EventValue) (es fs : List EventValue) → ((u : S) → effect_of next u es
      ≡ effect_of next u fs)
      → effect_of next s (e ∷ es) ≡ effect_of next s (e ∷ fs)
  effect-after_one s e es fs h =
      effect_if_more-alike (next s e).goes (next s e) (λ u. effect_of next u es) (λ u. effect_of next u fs)
      (h (next s e).state)

  -- octets in parts: `part` is `Bytes` or `Pad`
  module _ (part : List ℕ → EventValue) (joins : Joins next part) (rests : IgnoresEmpty next part)
      (go_on : GoesOn next part) where
    after_part : (s : S) (b : List ℕ) (es : List EventValue)
        → effect_of next s (part b ∷ es) ≡ and_then (next s (part b)) (λ u. effect_of next u es)
    after_part s b es = ap (λ (go : Go). effect_if_more go (next s (part b)) (λ u. effect_of next u es)) (go_on s b)

    -- two parts are one
    pub two_parts : (s : S) (b c : List ℕ) (es : List EventValue)
        → effect_of next s (part (b ++ c) ∷ es) ≡ effect_of next s (part b ∷ part c ∷ es)
    two_parts s b c es =
        after_part s (b ++ c) es
        ∙ ap (λ (t : Effect S). and_then t (λ u. effect_of next u es)) (joins s b c)
        ∙ and_then-assoc (next s (part b)) (λ u. next u (part c)) (λ u. effect_of next u es)
        ∙ and_then-alike (next s (part b)) (λ u. and_then (next u (part c)) (λ v. effect_of next v es))
        (λ u. effect_of next u (part c ∷ es)) (sym (after_part (next s (part b)).state c es))
        ∙ sym (after_part s b (part c ∷ es))

    -- no octets
    pub no_part : (s : S) (es : List EventValue) → effect_of next s (part [] ∷ es) ≡ effect_of next s es
    no_part s es = after_part s [] es ∙ ap (λ (t : Effect S). and_then t (λ u. effect_of next u es)) (rests s)

module _ {S : Type 0} (next : S → EventValue → Effect S)
    (bytes_join : Joins next Bytes) (bytes_empty : IgnoresEmpty next Bytes) (bytes_go_on : GoesOn next Bytes)
    (pad_join : Joins next Pad) (pad_empty : IgnoresEmpty next Pad) (pad_go_on : GoesOn next Pad) where
  followed-with_bytes : (s : S) (b : List ℕ) (es : List EventValue)
      → effect_of next s (with_bytes b es) ≡ effect_of next s (Bytes b ∷ es)
  followed-with_bytes s [] es = sym (no_part next Bytes bytes_join bytes_empty bytes_go_on s es)
  followed-with_bytes s (x ∷ b) [] = refl
  followed-with_bytes s (x ∷ b) (Bytes c ∷ es) = two_parts next Bytes bytes_join bytes_empty bytes_go_on s (x ∷ b) c es
  followed-with_bytes s (x ∷ b) (Open h ∷ es) = refl
  followed-with_bytes s (x ∷ b) (Begin h ∷ es) = refl
  followed-with_bytes s (x ∷ b) (End ∷ es) = refl
  followed-with_bytes s (x ∷ b) (Close o ∷ es) = refl
  followed-with_bytes s (x ∷ b) (Enter h ∷ es) = refl
  followed-with_bytes s (x ∷ b) (Unused ∷ es) = refl
  followed-with_bytes s (x ∷ b) (Leave ∷ es) = refl
  followed-with_bytes s (x ∷ b) (Pad c ∷ es) = refl

  followed-with_pad : (s : S) (b : List ℕ) (es : List EventValue)
      → effect_of next s (with_pad b es) ≡ effect_of next s (Pad b ∷ es)
  followed-with_pad s [] es = sym (no_part next Pad pad_join pad_empty pad_go_on s es)
  followed-with_pad s (x ∷ b) [] = refl
  followed-with_pad s (x ∷ b) (Pad c ∷ es) = two_parts next Pad pad_join pad_empty pad_go_on s (x ∷ b) c es
  followed-with_pad s (x ∷ b) (Open h ∷ es) = refl
  followed-with_pad s (x ∷ b) (Begin h ∷ es) = refl
  followed-with_pad s (x ∷ b) (End ∷ es) = refl
  followed-with_pad s (x ∷ b) (Close o ∷ es) = refl
  followed-with_pad s (x ∷ b) (Enter h ∷ es) = refl
  followed-with_pad s (x ∷ b) (Unused ∷ es) = refl
  followed-with_pad s (x ∷ b) (Leave ∷ es) = refl
  followed-with_pad s (x ∷ b) (Bytes c ∷ es) = refl

  -- joining changes nothing that is made
  pub followed-joined : (s : S) (es : List EventValue) → effect_of next s (joined_events es) ≡ effect_of next s es
  followed-joined s [] = refl
  followed-joined s (Bytes b ∷ es) =
      followed-with_bytes s b (joined_events es)
      ∙ effect-after_one next s (Bytes b) (joined_events es) es (λ u. followed-joined u es)
  followed-joined s (Pad b ∷ es) =
      followed-with_pad s b (joined_events es)
      ∙ effect-after_one next s (Pad b) (joined_events es) es (λ u. followed-joined u es)
  followed-joined s (Open h ∷ es) = effect-after_one next s (Open h) (joined_events es) es (λ u. followed-joined u es)
  followed-joined s (Begin h ∷ es) = effect-after_one next s (Begin h) (joined_events es) es (λ u. followed-joined u es)
  followed-joined s (End ∷ es) = effect-after_one next s End (joined_events es) es (λ u. followed-joined u es)
  followed-joined s (Close o ∷ es) = effect-after_one next s (Close o) (joined_events es) es (λ u. followed-joined u es)
  followed-joined s (Enter h ∷ es) = effect-after_one next s (Enter h) (joined_events es) es (λ u. followed-joined u es)
  followed-joined s (Unused ∷ es) = effect-after_one next s Unused (joined_events es) es (λ u. followed-joined u es)
  followed-joined s (Leave ∷ es) = effect-after_one next s Leave (joined_events es) es (λ u. followed-joined u es)

  -- events that are equal joined make the same
  pub followed-alike : (s : S) (es fs : List EventValue) → AreEqualJoined es fs
      → effect_of next s es ≡ effect_of next s fs
  followed-alike s es fs e = sym (followed-joined s es) ∙ ap (effect_of next s) e ∙ followed-joined s fs

-- ---- of the events that are followed, what is kept of each

module _ {S : Type 0} (next : S → EventValue → Effect S) (part : EventValue → List ℕ) where
  -- a follower that puts what is kept
  abbrev part_step : S → EventValue → Effect S
  part_step s e = record { state = (next s e).state; put = part e; goes = (next s e).goes }

  parts-put : (s : S) (es : List EventValue) → flat_map part (followed_events next s es)
      ≡ (effect_of part_step s es).put
  parts-put s [] = refl
  parts-put s (e ∷ es) = by (parts-put (next s e).state es) (next s e).goes
    where
      by : flat_map part (followed_events next (next s e).state es) ≡ (effect_of part_step (next s e).state es).put
          → (g : Go)
          → part e ++ flat_map part (events_if_more g (followed_events next (next s e).state es))
          ≡ (effect_if_more g (part_step s e) (λ u. effect_of part_step u es)).put
      by step On = ap (λ (l : List ℕ). part e ++ l) step
      by step Enough = append-nil (part e)

  module _ (o : List ℕ → EventValue) (parts : (x y : List ℕ) → part (o (x ++ y)) ≡ part (o x) ++ part (o y))
      (none : part (o []) ≡ []) where
    part_step_joins : Joins next o → Joins part_step o
    part_step_joins joins s x y =
        let both = and_then (next s (o x)) (λ u. next u (o y)) in
        ap (λ (t : Effect S). record { state = t.state; put = part (o (x ++ y)); goes = t.goes }) (joins s x y)
        ∙ ap (λ (l : List ℕ). record { state = both.state; put = l; goes = both.goes }) (parts x y)

    part_step_rests : IgnoresEmpty next o → IgnoresEmpty part_step o
    part_step_rests rests s =
        ap (λ (t : Effect S). record { state = t.state; put = part (o []); goes = t.goes }) (rests s)
        ∙ ap (λ (l : List ℕ). record { state = s; put = l; goes = On }) none

module _ {S : Type 0} (next : S → EventValue → Effect S)
    (bytes_join : Joins next Bytes) (bytes_empty : IgnoresEmpty next Bytes) (bytes_go_on : GoesOn next Bytes)
    (pad_join : Joins next Pad) (pad_empty : IgnoresEmpty next Pad) (pad_go_on : GoesOn next Pad)
    (part : EventValue → List ℕ)
    (bytes : (x y : List ℕ) → part (Bytes (x ++ y)) ≡ part (Bytes x) ++ part (Bytes y))
    (no_bytes : part (Bytes []) ≡ [])
    (pads : (x y : List ℕ) → part (Pad (x ++ y)) ≡ part (Pad x) ++ part (Pad y)) (no_pads : part (Pad []) ≡ []) where
  -- of events that are equal joined the same is kept
  pub kept-alike : (s : S) (es fs : List EventValue) → AreEqualJoined es fs
      → flat_map part (followed_events next s es) ≡ flat_map part (followed_events next s fs)
  kept-alike s es fs e =
      let same : effect_of (part_step next part) s es ≡ effect_of (part_step next part) s fs =
      followed-alike (part_step next part) (part_step_joins next part Bytes bytes no_bytes bytes_join)
      (part_step_rests next part Bytes bytes no_bytes bytes_empty) bytes_go_on
      (part_step_joins next part Pad pads no_pads pad_join) (part_step_rests next part Pad pads no_pads pad_empty)
      pad_go_on s es fs e in
      parts-put next part s es ∙ ap (λ (t : Effect S). t.put) same ∙ sym (parts-put next part s fs)

-- ---- octet by octet

module _ {S : Type 0} (one : S → ℕ → Effect S) where
  pub each_octet-joins : (s : S) (x y : List ℕ)
      → each_octet one s (x ++ y) ≡ and_then (each_octet one s x) (λ u. each_octet one u y)
  each_octet-joins s [] y = refl
  each_octet-joins s (o ∷ x) y =
      and_then-alike (one s o) (λ u. each_octet one u (x ++ y))
      (λ u. and_then (each_octet one u x) (λ v. each_octet one v y)) (each_octet-joins (one s o).state x y)
      ∙ sym (and_then-assoc (one s o) (λ u. each_octet one u x) (λ v. each_octet one v y))

  pub each_octet-goes_on : (s : S) (x : List ℕ) → (each_octet one s x).goes ≡ On
  each_octet-goes_on s [] = refl
  each_octet-goes_on s (o ∷ x) = each_octet-goes_on (one s o).state x
