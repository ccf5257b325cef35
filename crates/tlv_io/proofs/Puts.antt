-- Puts to an `Out`, one after another.
use Rattle.std.proofs.Common.{◌≡◌, ◌≢◌, ◌+◌, ◌<◌, ◌++◌, ◌∷◌, ℕ, List, [], length, take, drop, get_or, flat_map, refl}
use Rattle.std.proofs.Common.{sym, ap, ◌∙◌, subst, append_assoc, append-nil, take-append-drop}
use Rattle.std.specs.Prelude.{Result, Ok, Err, IsErr, ⊤}
use mathlib.Core.Bool.{true≢false}
use Rattle.std.specs.Io.KnownBytes.{Appends}
use Rattle.std.proofs.KnownBytes.{Appends-nil, Appends-trans}
use Rattle.std.proofs.lemmas.Grind.{flat_map-append}
use Rattle.std.proofs.lemmas.List.{take_more}
use Rattle.std.proofs.lemmas.Result.{on_ok_weaker}
use Rattle.std.specs.Borrow.{MutBor}
use Rattle.tlv_io.specs.declared.out.Out.{Out}
use Rattle.tlv_io.specs.declared.drain.WriteFault.{WriteFault}
use Rattle.tlv_io.specs.Device.{DrainState, failures_after}
use Rattle.tlv_io.specs.Out.{Puts, Sends, held_octets, drain_of}

-- octets that are left, and others after them
pub more_left : (xs ys : List ℕ) → xs ≢ [] → xs ++ ys ≢ []
more_left [] ys some none = some refl
more_left (x ∷ xs) ys some none = cc (none)

-- ---- one put after another

-- what was put so far
abbrev pub HasPut : {D : Type 0} → (D → DrainState) → Out D → Out D → List ℕ → Type 0
HasPut state_of a b xs = Puts {T = ⊤} {E = WriteFault} state_of a b xs (Ok tt)

-- zs begin with xs
pub record IsPrefix (xs zs : List ℕ) : Type 0 where
  pub rest : List ℕ
  pub is : xs ++ rest ≡ zs

pub prefix_none : (zs : List ℕ) → IsPrefix [] zs
prefix_none zs = record { rest = zs; is = refl }

pub prefix_all : (xs : List ℕ) → IsPrefix xs xs
prefix_all xs = record { rest = []; is = append-nil xs }

pub prefix_first : (xs ys : List ℕ) → IsPrefix xs (xs ++ ys)
prefix_first xs ys = record { rest = ys; is = refl }

module _ {D : Type 0} (state_of : D → DrainState) where
  module _ {T U E : Type 0} where
    -- octets were put, and then others
    pub puts_then_as : (a b c : Out D) (xs ys zs : List ℕ) (x : T) (r : Result U E)
        → Puts {T = T} {E = E} state_of a b xs (Ok x) → Puts state_of b c ys r → xs ++ ys ≡ zs
        → Puts state_of a c zs r
    puts_then_as a b c xs ys zs x r p q e = record {
      same_reference = q.same_reference ∙ p.same_reference;
      sent = p.sent ++ q.sent;
      left = q.left;
      prefix =
          append_assoc p.sent q.sent q.left
          ∙ ap (λ (l : List ℕ). p.sent ++ l) (q.prefix ∙ ap (λ (l : List ℕ). l ++ ys) p.held)
          ∙ sym (append_assoc p.sent p.left ys)
          ∙ ap (λ (l : List ℕ). l ++ ys) p.prefix
          ∙ append_assoc (held_octets a) xs ys
          ∙ ap (λ (l : List ℕ). held_octets a ++ l) e;
      took =
          Appends-trans (state_of (drain_of a).now).octets (state_of (drain_of b).now).octets
          (state_of (drain_of c).now).octets p.sent q.sent p.took q.took;
      held = q.held;
      lost = q.lost;
      failures = q.failures ∙ ap (failures_after r) p.failures;
    }

    pub puts_then : (a b c : Out D) (xs ys : List ℕ) (x : T) (r : Result U E)
        → Puts {T = T} {E = E} state_of a b xs (Ok x) → Puts state_of b c ys r → Puts state_of a c (xs ++ ys) r
    puts_then a b c xs ys x r p q = puts_then_as a b c xs ys (xs ++ ys) x r p q refl

    -- they could not be put, and others are not
    pub puts_failed_in : (a b : Out D) (xs zs : List ℕ) (e : E) (r : Result U E)
        → Puts {T = T} {E = E} state_of a b xs (Err e) → IsErr r → IsPrefix xs zs → Puts state_of a b zs r
    puts_failed_in a b xs zs e (Ok x) p h z = absurd (true≢false (sym h))
    puts_failed_in a b xs zs e (Err f) p h z = record {
      same_reference = p.same_reference;
      sent = p.sent;
      left = p.left ++ z.rest;
      prefix =
          sym (append_assoc p.sent p.left z.rest) ∙ ap (λ (l : List ℕ). l ++ z.rest) p.prefix
          ∙ append_assoc (held_octets a) xs z.rest ∙ ap (λ (l : List ℕ). held_octets a ++ l) z.is;
      took = p.took;
      held = tt;
      lost = more_left p.left z.rest p.lost;
      failures = p.failures;
    }

    pub puts_failed : (a b : Out D) (xs ys : List ℕ) (e : E) (r : Result U E)
        → Puts {T = T} {E = E} state_of a b xs (Err e) → IsErr r → Puts state_of a b (xs ++ ys) r
    puts_failed a b xs ys e r p h = puts_failed_in a b xs (xs ++ ys) e r p h (prefix_first xs ys)

    pub puts_failed_last : (a b : Out D) (xs : List ℕ) (e : E) (r : Result U E)
        → Puts {T = T} {E = E} state_of a b xs (Err e) → IsErr r → Puts state_of a b xs r
    puts_failed_last a b xs e r p h = puts_failed_in a b xs xs e r p h (prefix_all xs)

    -- nothing was to be put yet
    pub puts_no_room : (a b : Out D) (xs : List ℕ) (e : E) (r : Result U E)
        → Puts {T = T} {E = E} state_of a b [] (Err e) → IsErr r → Puts state_of a b xs r
    puts_no_room a b xs e r p h = puts_failed_in a b [] xs e r p h (prefix_none xs)

    -- the same was put, and another result is returned
    pub puts_as : (a b : Out D) (xs zs : List ℕ) (x : T) (y : U) → Puts {T = T} {E = E} state_of a b xs (Ok x)
        → xs ≡ zs → Puts {T = U} {E = E} state_of a b zs (Ok y)
    puts_as a b xs zs x y p z = record {
      same_reference = p.same_reference;
      sent = p.sent;
      left = p.left;
      prefix = p.prefix ∙ ap (λ (l : List ℕ). held_octets a ++ l) z;
      took = p.took;
      held = p.held;
      lost = tt;
      failures = p.failures;
    }

  module _ {T E : Type 0} where
    -- the same octets
    pub puts_text : (a b : Out D) (xs ys : List ℕ) (r : Result T E) → xs ≡ ys → Puts state_of a b xs r
        → Puts state_of a b ys r
    puts_text a b xs ys r e p = subst (λ (l : List ℕ). Puts state_of a b l r) e p

    -- nothing is put
    pub puts_nothing : (a : Out D) (x : T) → Puts {T = T} {E = E} state_of a a [] (Ok x)
    puts_nothing a x = record {
      same_reference = refl;
      sent = [];
      left = held_octets a;
      prefix = sym (append-nil (held_octets a));
      took = Appends-nil (state_of (drain_of a).now).octets;
      held = refl;
      lost = tt;
      failures = refl;
    }

    -- octets were added to those that are held
    pub puts_held : (a b : Out D) (xs : List ℕ) (x : T) → drain_of b ≡ drain_of a
        → held_octets b ≡ held_octets a ++ xs → Puts {T = T} {E = E} state_of a b xs (Ok x)
    puts_held a b xs x same more = record {
      same_reference = ap (λ (l : MutBor D). l.ghost_name) same;
      sent = [];
      left = held_octets b;
      prefix = more;
      took =
          subst (λ (l : MutBor D). Appends (state_of (drain_of a).now).octets (state_of l.now).octets []) (sym same)
          (Appends-nil (state_of (drain_of a).now).octets);
      held = refl;
      lost = tt;
      failures = ap (λ (l : MutBor D). (state_of l.now).failures) same;
    }

    -- nothing was held, and octets are handed to the drain
    pub puts_sent : (a b : Out D) (xs : List ℕ) (r : Result T E) → held_octets a ≡ [] → held_octets b ≡ []
        → (drain_of b).ghost_name ≡ (drain_of a).ghost_name
        → Sends (state_of (drain_of a).now) (state_of (drain_of b).now) xs r → Puts state_of a b xs r
    puts_sent a b xs r e f same q = record {
      same_reference = same;
      sent = q.sent;
      left = q.left;
      prefix = q.prefix ∙ ap (λ (l : List ℕ). l ++ xs) (sym e);
      took = q.took;
      held = on_ok_weaker r (λ (z : q.left ≡ []). f ∙ sym z) q.all_sent;
      lost = q.lost;
      failures = q.failures;
    }

  module _ {T U E : Type 0} where
    -- room was made, and then octets were added
    pub puts_line : (a b c : Out D) (xs : List ℕ) (x : T) (y : U) → Puts {T = T} {E = E} state_of a b [] (Ok x)
        → drain_of c ≡ drain_of b → held_octets c ≡ held_octets b ++ xs → Puts {T = U} {E = E} state_of a c xs (Ok y)
    puts_line a b c xs x y p same more =
        puts_then_as {T = T} {U = U} {E = E} a b c [] xs xs x (Ok y) p (puts_held {T = U} {E = E} b c xs y same more)
        refl

-- what a function that makes a line where an `Out` holds it needs
pub ruleset lines = (puts_line, puts_no_room)

-- what a function that puts several times needs, as `#[tactic(auto, using(crate::proofs::Puts::puts))]`
pub ruleset puts = (puts_then, puts_failed, puts_failed_last)

-- ---- octet by octet

-- an octet more
text_more : (text : ℕ → List ℕ) (xs : List ℕ) (i : ℕ) → i < length xs
    → flat_map text (take i xs) ++ text (get_or xs i 0) ≡ flat_map text (take (i + 1) xs)
text_more text xs i h =
    sym (ap (flat_map text) (take_more xs i 0 h)
    ∙ flat_map-append text (take i xs) (get_or xs i 0 ∷ [])
    ∙ ap (λ (l : List ℕ). flat_map text (take i xs) ++ l) (append-nil (text (get_or xs i 0))))

module _ {D : Type 0} (state_of : D → DrainState) (text : ℕ → List ℕ) where
  -- the text of an octet more was put
  pub puts_octet : (a b c : Out D) (xs : List ℕ) (i : ℕ) → i < length xs
      → HasPut state_of a b (flat_map text (take i xs)) → HasPut state_of b c (text (get_or xs i 0))
      → HasPut state_of a c (flat_map text (take (i + 1) xs))
  puts_octet a b c xs i h p q = puts_then_as state_of a b c _ _ _ tt (Ok tt) p q (text_more text xs i h)

  -- it could not be put
  pub fails_octet : (a b c : Out D) (xs : List ℕ) (i : ℕ) (e : WriteFault) (r : Result ⊤ WriteFault) → i < length xs
      → HasPut state_of a b (flat_map text (take i xs))
      → Puts {T = ⊤} {E = WriteFault} state_of b c (text (get_or xs i 0)) (Err e) → IsErr r
      → Puts state_of a c (flat_map text xs) r
  fails_octet a b c xs i e r h p q f =
      puts_failed_in state_of a c _ _ e r (puts_then_as state_of a b c _ _ _ tt (Err e) p q (text_more text xs i h)) f
      record {
        rest = flat_map text (drop (i + 1) xs);
        is =
            sym (flat_map-append text (take (i + 1) xs) (drop (i + 1) xs))
            ∙ ap (flat_map text) (take-append-drop (i + 1) xs);
      }
