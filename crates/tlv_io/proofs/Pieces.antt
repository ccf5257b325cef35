-- Reads of a source, one after another.
use Rattle.std.proofs.Common.{◌≡◌, ℕ, zero, suc, ◌+◌, ◌-◌, ◌^◌, ◌≤◌, min, List, [], ◌∷◌, ◌++◌, length, refl}
use Rattle.std.proofs.Common.{sym, ap, ◌∙◌, subst, arith, append_assoc, append-nil}
use Rattle.std.proofs.lemmas.List.Elements.{All-nil, All-push}
use Rattle.std.proofs.KnownBytes.{Consumes-nil, Consumes-trans}
use Rattle.std.specs.Prelude.{All}
use Rattle.std.specs.Io.KnownBytes.{Consumes}
use Rattle.std.specs.List.{concat}
use Rattle.tlv_io.specs.Device.{GaveLast, IsPiece, Pieces, SourceState, next_count, read_limit}

-- a count to which so many are added, one at a time
abbrev pub next_count_times : ℕ → ℕ → ℕ
next_count_times zero r = r
next_count_times (suc n) r = next_count (next_count_times n r)

pub count-next_count_times : (n r : ℕ) → next_count (next_count_times n r) ≡ min (r + (n + 1)) (2 ^ 64 - 1)
count-next_count_times zero r = refl
count-next_count_times (suc n) r = ap next_count (count-next_count_times n r) ∙ omega arith

-- pieces, and one more
pub together_more : (pieces : List (List ℕ)) (r : List ℕ) → concat (pieces ++ r ∷ []) ≡ concat pieces ++ r
together_more [] r = append-nil r
together_more (p ∷ pieces) r =
    ap (λ (l : List ℕ). p ++ l) (together_more pieces r) ∙ sym (append_assoc p (concat pieces) r)

pub count_more : (pieces : List (List ℕ)) (r : List ℕ) → length (pieces ++ r ∷ []) ≡ suc (length pieces)
count_more [] r = refl
count_more (p ∷ pieces) r = ap suc (count_more pieces r)

-- the reads so far, none of which was the last
pub record PiecesSoFar (old new : SourceState) : Type 0 where
  pub pieces : List (List ℕ)
  pub each : All IsPiece pieces
  pub reads : new.reads ≡ next_count_times (length pieces) old.reads
  pub consumed : Consumes old.left new.left (concat pieces)

abbrev pub no_pieces_so_far : (old : SourceState) → PiecesSoFar old old
no_pieces_so_far old = record { pieces = []; each = All-nil IsPiece; reads = refl; consumed = Consumes-nil old.left }

module _ (old middle new : SourceState) (x : PiecesSoFar old middle) (r : List ℕ)
    (consumed : Consumes middle.left new.left r) (read : new.reads ≡ next_count middle.reads) where
  pub all_consumed : Consumes old.left new.left (concat x.pieces ++ r)
  all_consumed = Consumes-trans old.left middle.left new.left (concat x.pieces) r x.consumed consumed

  -- one read more
  abbrev pub pieces_so_far_more : IsPiece r → PiecesSoFar old new
  pieces_so_far_more p = record {
    pieces = x.pieces ++ r ∷ [];
    each = All-push IsPiece x.pieces r x.each p;
    reads = read ∙ ap next_count x.reads ∙ ap (λ (n : ℕ). next_count_times n old.reads) (sym (count_more x.pieces r));
    consumed = subst (Consumes old.left new.left) (sym (together_more x.pieces r)) all_consumed;
  }

  -- and no other
  abbrev pub pieces_all : GaveLast new.last r → length r ≤ read_limit → Pieces old new
  pieces_all g s = record {
    pieces = x.pieces;
    last = r;
    each = x.each;
    short = s;
    gave_last = g;
    reads = read ∙ ap next_count x.reads ∙ count-next_count_times (length x.pieces) old.reads;
    consumed = all_consumed;
  }
