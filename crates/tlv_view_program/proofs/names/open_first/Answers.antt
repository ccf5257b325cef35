use Rattle.std.proofs.Common.{◌+◌, ◌<◌, ℕ, List, Option, Some, None, arith, drop, get_or, length, subst, sym}
use Rattle.std.proofs.lemmas.List.{drop_all, drop_more}
use Rattle.tlv_io.specs.Device.{SourceState}
use Rattle.tlv_program.specs.System.{Allows}
use Rattle.tlv_view_program.specs.Private.Tables.{OpensOrNot}
use Rattle.tlv_view_program.specs.ShowsAll.{OpensFirst, here, later, none}
use Rattle.tlv_view_program.proofs.names.open_first.Goals as goal

module _ {S : Type 0} (allows : Allows S) (places : List (List ℕ)) where
  -- the next place opens
  next-here : (i : ℕ) (d : List ℕ) (old new : S) (file : SourceState) → i < length places
      → OpensOrNot allows (get_or places i d) old new (Some file) → OpensFirst allows (drop i places) old new (Some file)
  next-here i d old new file some opens =
      subst (λ (l : List (List ℕ)). OpensFirst allows l old new (Some file)) (sym (drop_more places i d some))
      (here file opens.0 opens.1)

  -- it does not, and then come the others
  next-later : (i : ℕ) (d : List ℕ) (old between new : S) (found : Option SourceState) → i < length places
      → OpensOrNot allows (get_or places i d) old between None → OpensFirst allows (drop (i + 1) places) between new found
      → OpensFirst allows (drop i places) old new found
  next-later i d old between new found some opens others =
      subst (λ (l : List (List ℕ)). OpensFirst allows l old new found) (sym (drop_more places i d some))
      (later between opens.0 opens.1 others)

pub returns-in-Some : goal.returns-in-Some
returns-in-Some g c =
    let places = c.as_slice-place-items.ensures in
    c.loop-place.invariant _ _
    (next-here g.S.System.allows c.args.places.now c.loop-place.place-index c.place-item.result _ _ _
    (rw (← places) c.loop-place-test.true)
    (rw (← places, ← c.place-item.is, ← c.as_str.ensures) (rw c.in-Some.is at c.open_or_not.ensures)))

pub loop-place-preserved : goal.loop-place-preserved
loop-place-preserved g c = λ new found others.
    let places = c.as_slice-place-items.ensures in
    c.loop-place.invariant new found
    (next-later g.S.System.allows c.args.places.now c.loop-place.place-index c.place-item.result _ _ new found
    (rw (← places) c.loop-place-test.true)
    (rw (← places, ← c.place-item.is, ← c.as_str.ensures) (rw c.in_default.is at c.open_or_not.ensures))
    others)

pub returns : goal.returns
returns g c =
    let places = c.as_slice-place-items.ensures in
    c.loop-place.invariant _ _
    (rw
    (drop_all c.loop-place.place-index c.args.places.now
    (rw (← places) (omega (arith, c.loop-place-test.false))))
    none)
