-- The blocks that are shown, one after another.
use Rattle.std.proofs.Common.{◌≡◌, ◌+◌, ◌++◌, ℕ, Bool, true, false, List, [], ◌∷◌, arith, length, refl, subst}
use Rattle.std.proofs.Common.{sym}
use Rattle.std.specs.Prelude.{max}
use Rattle.tlv_value.specs.Names.{NamesValue}
use Rattle.tlv_view_program.specs.declared.request.Request.{Request}
use Rattle.tlv_view_program.specs.InputBlocks.{InputBlockValue}
use Rattle.tlv_view_program.specs.Private.ShowsSome.{ShowsSome}
use Rattle.tlv_view_program.specs.Private.ShowsSome as some
use Rattle.tlv_view_program.specs.ShowsAll.{BlocksPlace, ShowsBlocks, block_place, goes_on, no_more, stops}
use Rattle.tlv_view_program.specs.ShowsBlock.{ShowsBlock}
use Rattle.tlv_view_program.specs.Streams.{StreamsValue}

-- the highest status of one, and of three
max-none : (n : ℕ) → max n 0 ≡ n
max-none n = omega arith

max-first : (n : ℕ) → n ≡ max 0 n
max-first n = omega arith

max-three : (a b c : ℕ) → max a (max b c) ≡ max (max a b) c
max-three a b c = omega arith

module _ {S : Type 0} (request : Request) (table : NamesValue) (p : BlocksPlace) where
  -- the number of the first block and the status, said otherwise
  renumbered : (n m a b : ℕ) (failed : Bool) (xs : List InputBlockValue) (old new : StreamsValue S) → n ≡ m → a ≡ b
      → ShowsSome request table p n xs old new failed a → ShowsSome request table p m xs old new failed b
  renumbered n m a b failed xs old new e f x = rw (← e, ← f) x

  -- one block
  pub one-shown : (n a : ℕ) (failed : Bool) (b : InputBlockValue) (old new : StreamsValue S)
      → ShowsBlock request table (block_place p n) b old new failed a
      → ShowsSome request table p n (b ∷ []) old new failed a
  one-shown n a true b old new x = some.stops x
  one-shown n a false b old new x =
      renumbered n n (max a 0) a false (b ∷ []) old new refl (max-none a) (some.goes_on new x some.no_more)

  -- some blocks, and then others
  shown-then : {n a b : ℕ} {failed fails : Bool} {xs ys : List InputBlockValue} {old between new : StreamsValue S}
      → ShowsSome request table p n xs old between failed a → failed ≡ false
      → ShowsSome request table p (n + length xs) ys between new fails b
      → ShowsSome request table p n (xs ++ ys) old new fails (max a b)
  shown-then {n = n} {b = b} {fails = fails} {ys = ys} {old = old} {new = new} some.no_more e others =
      renumbered (n + 0) n b (max 0 b) fails ys old new (omega arith) (max-first b) others
  shown-then {n = n} {b = last} {fails = fails} {xs = x ∷ xs} {ys = ys} {old = old} {new = new}
      (some.goes_on {status = status} {rest = rest} between shown more) e others =
      renumbered n n (max status (max rest last)) (max (max status rest) last) fails ((x ∷ xs) ++ ys) old new refl
      (max-three status rest last)
      (some.goes_on between shown
      (shown-then more e (renumbered _ _ last last fails ys _ new (omega arith) refl others)))
  shown-then (some.stops shown) e others = absurd (cc (e))

  -- no others after a failed write
  shown-stops : {n a : ℕ} {failed : Bool} {xs : List InputBlockValue} {old new : StreamsValue S}
      (ys : List InputBlockValue) → ShowsSome request table p n xs old new failed a → failed ≡ true
      → ShowsSome request table p n (xs ++ ys) old new true a
  shown-stops ys some.no_more e = absurd (cc (e))
  shown-stops ys (some.goes_on between shown more) e = some.goes_on between shown (shown-stops ys more e)
  shown-stops ys (some.stops shown) e = some.stops shown

  -- whether standard output failed does not matter if there are no others
  pub all-shown : {n a : ℕ} {failed : Bool} {xs : List InputBlockValue} {old new : StreamsValue S}
      → ShowsSome request table p n xs old new failed a → ShowsBlocks request table p n xs old new a
  all-shown some.no_more = no_more
  all-shown (some.goes_on between shown more) = goes_on between shown (all-shown more)
  all-shown (some.stops shown) = stops shown

  module _ (number : ℕ) (blocks : List InputBlockValue) (first : StreamsValue S) where
    -- what comes of the blocks that are left, after so many, comes of all of them, with the status so far
    abbrev pub ShowsRest : ℕ → List InputBlockValue → StreamsValue S → ℕ → Type 0
    ShowsRest before left now status = (new : StreamsValue S) (failed : Bool) (rest : ℕ)
        → ShowsSome request table p (before + 1) left now new failed rest
        → ShowsSome request table p number blocks first new failed (max status rest)

    pub rest-stops : (before status worst : ℕ) (xs ys left : List InputBlockValue) (now new : StreamsValue S)
        → left ≡ xs ++ ys → ShowsRest before left now status
        → ShowsSome request table p (before + 1) xs now new true worst
        → ShowsSome request table p number blocks first new true (max status worst)
    rest-stops before status worst xs ys left now new is so x =
        so new true worst
        (subst (λ (l : List InputBlockValue). ShowsSome request table p (before + 1) l now new true worst) (sym is)
        (shown-stops ys x refl))

    pub rest-goes_on : (before after status worst : ℕ) (xs ys left : List InputBlockValue)
        (now between : StreamsValue S) → left ≡ xs ++ ys → after ≡ before + length xs
        → ShowsRest before left now status → ShowsSome request table p (before + 1) xs now between false worst
        → ShowsRest after ys between (max status worst)
    rest-goes_on before after status worst xs ys left now between is counted so x new failed rest others =
        renumbered number number _ _ failed blocks first new refl (max-three status worst rest)
        (so new failed (max worst rest)
        (subst
        (λ (l : List InputBlockValue). ShowsSome request table p (before + 1) l now new failed (max worst rest))
        (sym is)
        (shown-then x refl
        (renumbered (after + 1) ((before + 1) + length xs) rest rest failed ys between new (omega (arith, counted))
        refl others))))

    pub rest-ends : (before status : ℕ) (left : List InputBlockValue) (now : StreamsValue S) → left ≡ []
        → ShowsRest before left now status → ShowsSome request table p number blocks first now false status
    rest-ends before status left now is so =
        renumbered number number (max status 0) status false blocks first now refl (max-none status)
        (so now false 0
        (subst (λ (l : List InputBlockValue). ShowsSome request table p (before + 1) l now now false 0) (sym is)
        some.no_more))

    pub rest-begins : (before : ℕ) (left : List InputBlockValue) → number ≡ before + 1 → left ≡ blocks
        → ShowsRest before left first 0
    rest-begins before left counted is new failed rest x =
        renumbered (before + 1) number rest (max 0 rest) failed blocks first new (sym counted) (max-first rest)
        (subst (λ (l : List InputBlockValue). ShowsSome request table p (before + 1) l first new failed rest) is x)
