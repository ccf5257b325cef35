-- Octets sent to a drain, by one call or by several, and by way of an `Out`.
use Rattle.std.proofs.Common.{◌≡◌, ◌≢◌, ◌+◌, ◌<◌, ◌++◌, ℕ, List, [], length, take, drop, refl, sym, ap, ◌∙◌, subst}
use Rattle.std.proofs.Common.{append_assoc, append-nil, arith, take-append-drop}
use Rattle.std.specs.Prelude.{Option, Some, None, Result, Ok, Err, IsErr, OnErr, OnOk}
use mathlib.Core.Bool.{true≢false}
use Rattle.std.specs.Io.KnownBytes.{Appends, Keeps}
use Rattle.std.proofs.KnownBytes.{Appends-nil, Appends-trans}
use Rattle.std.proofs.Math.Seq.{take-add}
use Rattle.std.proofs.lemmas.List.{length-drop}
use Rattle.std.proofs.lemmas.Result.{on_err_weaker}
use Rattle.tlv_io.specs.declared.out.Out.{Out}
use Rattle.tlv_io.specs.Device.{DrainState, failures_after}
use Rattle.tlv_io.specs.Out.{Puts, Sends, held_octets, drain_of}
use Rattle.tlv_io.proofs.Puts.{IsPrefix, more_left, puts_as, puts_failed_last, puts_then_as}

-- ---- octets that a drain took

pub appends_kept : (a b c : Option (List ℕ)) (bs : List ℕ) → Appends a b bs → Keeps b c → Appends a c bs
appends_kept None b c bs p q = tt
appends_kept (Some x) None c bs p q = absurd p
appends_kept (Some x) (Some y) None bs p q = absurd q
appends_kept (Some x) (Some y) (Some z) bs p q = q ∙ p

-- the first i of xs were appended, and then n of those that were left
pub appends_more : (a b c : Option (List ℕ)) (xs rest : List ℕ) (i n : ℕ) → rest ≡ drop i xs → Appends a b (take i xs)
    → Appends b c (take n rest) → Appends a c (take (i + n) xs)
appends_more None b c xs rest i n e p q = tt
appends_more (Some x) None c xs rest i n e p q = absurd p
appends_more (Some x) (Some y) None xs rest i n e p q = absurd q
appends_more (Some x) (Some y) (Some z) xs rest i n e p q =
    q ∙ ap (λ l. l ++ take n rest) p ∙ append_assoc x _ _ ∙ ap (λ l. x ++ (take i xs ++ take n l)) e
    ∙ ap (λ l. x ++ l) (sym (take-add i n xs))

-- octets are left after the first i, if there are more than i
some_left : (i : ℕ) (xs : List ℕ) → i < length xs → drop i xs ≢ []
some_left i xs less none = omega (arith, less, length-drop i xs, ap length none)

module _ {T E : Type 0} (result : Result T E) where
  -- the first i octets were sent, and then no more
  pub sends_part : (old middle new : DrainState) (octets : List ℕ) (i : ℕ)
      → Appends old.octets middle.octets (take i octets) → middle.failures ≡ old.failures
      → Keeps middle.octets new.octets → new.failures ≡ failures_after result middle.failures
      → OnOk result (drop i octets ≡ []) → OnErr result (i < length octets)
      → Sends old new octets result
  sends_part old middle new octets i took failures kept failed all some = record {
    sent = take i octets;
    left = drop i octets;
    prefix = take-append-drop i octets;
    took = appends_kept old.octets middle.octets new.octets (take i octets) took kept;
    all_sent = all;
    lost = on_err_weaker result (some_left i octets) some;
    failures = failed ∙ ap (failures_after result) failures;
  }

-- ---- octets sent to a drain, one call after another

module _ {T U E : Type 0} where
  -- octets were sent, and then others
  pub sends_then : (a b c : DrainState) (xs ys : List ℕ) (x : T) (r : Result U E)
      → Sends {T = T} {E = E} a b xs (Ok x) → Sends b c ys r → Sends a c (xs ++ ys) r
  sends_then a b c xs ys x r p q = record {
    sent = p.sent ++ q.sent;
    left = q.left;
    prefix =
        append_assoc p.sent q.sent q.left
        ∙ ap (λ (l : List ℕ). p.sent ++ l) q.prefix
        ∙ ap (λ (l : List ℕ). l ++ ys)
        (sym (append-nil p.sent) ∙ ap (λ (l : List ℕ). p.sent ++ l) (sym p.all_sent) ∙ p.prefix);
    took = Appends-trans a.octets b.octets c.octets p.sent q.sent p.took q.took;
    all_sent = q.all_sent;
    lost = q.lost;
    failures = q.failures ∙ ap (failures_after r) p.failures;
  }

  -- what was sent then
  pub sends_then-sent : (a b c : DrainState) (xs ys : List ℕ) (x : T) (r : Result U E)
      (p : Sends {T = T} {E = E} a b xs (Ok x)) (q : Sends b c ys r)
      → (sends_then a b c xs ys x r p q).sent ≡ p.sent ++ q.sent
  unfolding sends_then
  sends_then-sent a b c xs ys x r p q = refl

module _ {T U E F : Type 0} where
  -- the same, with another result of the same kind
  pub sends_ok : (a b : DrainState) (xs ys : List ℕ) (x : T) (y : U) → Sends {T = T} {E = E} a b xs (Ok x) → xs ≡ ys
      → Sends {T = U} {E = F} a b ys (Ok y)
  sends_ok a b xs ys x y p z = record {
    sent = p.sent;
    left = p.left;
    prefix = p.prefix ∙ z;
    took = p.took;
    all_sent = p.all_sent;
    lost = tt;
    failures = p.failures;
  }

  -- a prefix of the octets is one of more octets
  pub sends_err : (a b : DrainState) (xs ys : List ℕ) (e : E) (f : F) → Sends {T = T} {E = E} a b xs (Err e)
      → IsPrefix xs ys → Sends {T = U} {E = F} a b ys (Err f)
  sends_err a b xs ys e f p z = record {
    sent = p.sent;
    left = p.left ++ z.rest;
    prefix = sym (append_assoc p.sent p.left z.rest) ∙ ap (λ (l : List ℕ). l ++ z.rest) p.prefix ∙ z.is;
    took = p.took;
    all_sent = tt;
    lost = more_left p.left z.rest p.lost;
    failures = p.failures;
  }

module _ {T E : Type 0} where
  -- if the call did not fail, the drain has all of them
  pub sends_appends : (a b : DrainState) (xs : List ℕ) (x : T) → Sends {T = T} {E = E} a b xs (Ok x)
      → Appends a.octets b.octets xs
  sends_appends a b xs x p =
      subst (Appends a.octets b.octets)
      (sym (append-nil p.sent) ∙ ap (λ (l : List ℕ). p.sent ++ l) (sym p.all_sent) ∙ p.prefix) p.took

  -- nothing is sent
  pub sends_nothing : (a : DrainState) (x : T) → Sends {T = T} {E = E} a a [] (Ok x)
  sends_nothing a x = record {
    sent = [];
    left = [];
    prefix = refl;
    took = Appends-nil a.octets;
    all_sent = refl;
    lost = tt;
    failures = refl;
  }

module _ {T E : Type 0} where
  -- the same octets, said otherwise: what was sent of them is the same
  abbrev pub sends_as : (a b : DrainState) (xs ys : List ℕ) (r : Result T E) → Sends a b xs r → xs ≡ ys → Sends a b ys r
  sends_as a b xs ys r p z = record {
    sent = p.sent;
    left = p.left;
    prefix = p.prefix ∙ z;
    took = p.took;
    all_sent = p.all_sent;
    lost = p.lost;
    failures = p.failures;
  }

-- ---- to a drain, by way of an `Out`

module _ {D : Type 0} (state_of : D → DrainState) where
  module _ {T E : Type 0} where
    -- the drain that was lent: how it was, and how it is then
    pub sends_puts : (a c : Out D) (d d' : D) (xs : List ℕ) (r : Result T E) → (drain_of a).now ≡ d
        → held_octets a ≡ [] → d' ≡ (drain_of c).now
        → Puts state_of a c xs r → OnOk r (held_octets c ≡ []) → Sends (state_of d) (state_of d') xs r
    sends_puts a c d d' xs r from none to p empty =
        subst (λ (x : D). Sends (state_of x) (state_of d') xs r) from
        (subst (λ (x : D). Sends (state_of (drain_of a).now) (state_of x) xs r) (sym to) record {
          sent = p.sent;
          left = p.left;
          prefix = p.prefix ∙ ap (λ (l : List ℕ). l ++ xs) none;
          took = p.took;
          all_sent = both r p.held empty;
          lost = p.lost;
          failures = p.failures;
        })
      where
        both : (r : Result T E) → OnOk r (held_octets c ≡ p.left) → OnOk r (held_octets c ≡ []) → OnOk r (p.left ≡ [])
        both (Ok x) h e = sym h ∙ e
        both (Err x) h e = tt

  module _ {T U E : Type 0} where
    -- octets were put, and then it was flushed
    pub sends_flushed : (a b c : Out D) (d d' : D) (xs : List ℕ) (x : T) (y : U) → (drain_of a).now ≡ d
        → held_octets a ≡ [] → d' ≡ (drain_of c).now
        → Puts {T = T} {E = E} state_of a b xs (Ok x) → Puts {T = U} {E = E} state_of b c [] (Ok y)
        → held_octets c ≡ [] → Sends {T = T} {E = E} (state_of d) (state_of d') xs (Ok x)
    sends_flushed a b c d d' xs x y from none to p f empty =
        sends_puts a c d d' xs (Ok x) from none to
        (puts_as state_of a c xs xs y x (puts_then_as state_of a b c xs [] xs x (Ok y) p f (append-nil xs)) refl)
        empty

    -- it could not be flushed
    pub sends_failed : (a b c : Out D) (d d' : D) (xs : List ℕ) (x : T) (e : E) (r : Result T E)
        → (drain_of a).now ≡ d → held_octets a ≡ [] → d' ≡ (drain_of c).now
        → Puts {T = T} {E = E} state_of a b xs (Ok x) → Puts {T = U} {E = E} state_of b c [] (Err e) → IsErr r
        → Sends (state_of d) (state_of d') xs r
    sends_failed a b c d d' xs x e r from none to p f err =
        sends_puts a c d d' xs r from none to
        (puts_failed_last state_of a c xs e r (puts_then_as state_of a b c xs [] xs x (Err e) p f (append-nil xs))
        err)
        (no_ok r err)
      where
        no_ok : (r : Result T E) → IsErr r → OnOk r (held_octets c ≡ [])
        no_ok (Ok x) h = absurd (true≢false (sym h))
        no_ok (Err e) h = tt

-- what a function that makes an `Out`, puts and flushes needs
pub ruleset sends = (sends_flushed, sends_failed)
