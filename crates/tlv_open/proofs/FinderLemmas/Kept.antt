-- What was found before is still there.
use Rattle.std.proofs.Common.{◌≡◌, ℕ, length, take, refl, sym, ap, ap₂, ◌∙◌}
use Rattle.std.proofs.Math.Seq.{take-append_seam}
use Rattle.tlv_open.specs.Private.Adds.{IsKept}
use Rattle.tlv_open.specs.Private.Finds.{FoundStrings, found_in_turn}
use Rattle.tlv_open.proofs.FinderLemmas.FoundBoth.{both-assoc, both-nothing}
use Rattle.tlv_open.proofs.FinderLemmas.NothingFound.{nothing_found}

pub kept-same : (old new : FoundStrings) → new ≡ old → IsKept old new
kept-same old new e = record { more = nothing_found; added = e ∙ sym (both-nothing old) }

pub kept-all : (old : FoundStrings) → IsKept old old
kept-all old = kept-same old old refl

pub kept-then : (old mid new : FoundStrings) → IsKept old mid → IsKept mid new → IsKept old new
kept-then old mid new a b = record {
  more = found_in_turn a.more b.more;
  added = b.added ∙ (ap (λ (o : FoundStrings). found_in_turn o b.more) a.added ∙ both-assoc old a.more b.more);
}

-- so the lists can be cut back to it
pub kept-opened : (old new : FoundStrings) (n : ℕ) → IsKept old new → n ≡ length old.opened
    → take n new.opened ≡ old.opened
kept-opened old new n k e =
    ap₂ take e (ap (λ (o : FoundStrings). o.opened) k.added) ∙ take-append_seam old.opened k.more.opened

pub kept-broken : (old new : FoundStrings) (n : ℕ) → IsKept old new → n ≡ length old.broken
    → take n new.broken ≡ old.broken
kept-broken old new n k e =
    ap₂ take e (ap (λ (o : FoundStrings). o.broken) k.added) ∙ take-append_seam old.broken k.more.broken

-- a string more, and then others
pub kept-pushed : (old mid new : FoundStrings) (more : FoundStrings) → mid ≡ found_in_turn old more → IsKept mid new
    → IsKept old new
kept-pushed old mid new more e k = kept-then old mid new (record { more = more; added = e }) k
