-- A source that is read into memory, one read after another.
use Rattle.std.proofs.Common.{◌≡◌, inl, inr, ℕ, ◌+◌, ◌<◌, ◌≤◌, List, [], ◌++◌, length, take, refl, sym, ap, ◌∙◌, subst}
use Rattle.std.proofs.Common.{arith, append-nil, length-append}
use Rattle.std.specs.Prelude.{Ok, Err}
use Rattle.std.specs.List.{concat}
use Rattle.std.proofs.KnownBytes.{Consumes-kept, Consumes-nil}
use Rattle.std.proofs.lemmas.List.{length-take-le}
use Rattle.tlv_io.specs.declared.source.ReadFault.{ReadFault}
use Rattle.tlv_io.specs.Device.{Pieces, ReadsOnce, SourceState, gave, next_count}
use Rattle.tlv_io.proofs.Pieces.{pieces_so_far_more, pieces_all, together_more}
use Rattle.tlv_value.proofs.NamesLemmas.Reads.{OctetsSoFar}
use Rattle.tlv_view_program.specs.ReadWhole.{ReadsWhole, whole_limit}
use Rattle.tlv_view_program.specs.declared.input.InputFault.TheVariants.{ReadFailed, TooLong, Memory}

module _ (old middle new : SourceState) (octets : List ℕ) (x : OctetsSoFar old middle octets)
    (most : length octets ≤ whole_limit) (failures : middle.failures ≡ old.failures) (piece : List ℕ)
    (room : length piece ≡ 4096) where
  in_limit_so_far : length (concat x.gathered.pieces) ≤ whole_limit
  in_limit_so_far = subst (λ (l : List ℕ). length l ≤ whole_limit) (sym x.are) most

  -- a read that failed
  pub whole-failed : (e : ReadFault) → ReadsOnce middle new (Err e) piece → ReadsWhole old new (Err ReadFailed)
  whole-failed e r = record {
    pieces =
        pieces_all old middle new x.gathered []
        (Consumes-kept middle.left middle.left new.left [] (Consumes-nil middle.left) r.octets) r.reads
        (inr (r.last, refl)) (omega arith);
    within = in_limit_so_far;
    gives = r.last;
    failures = r.failures ∙ ap next_count failures;
  }

  module _ (n : ℕ) (r : ReadsOnce {E = ReadFault} middle new (Ok n) piece) where
    n_taken : length (take n piece) ≡ n
    n_taken = length-take-le n piece r.within.0

    few_taken : length (take n piece) ≤ 4096
    few_taken = omega (arith, n_taken, r.within.0, room)

    given_are : concat x.gathered.pieces ++ take n piece ≡ octets ++ take n piece
    given_are = ap (λ (l : List ℕ). l ++ take n piece) x.are

    count_given : length (concat x.gathered.pieces ++ take n piece) ≡ length octets + n
    count_given = ap length given_are ∙ length-append octets (take n piece) ∙ ap (λ (k : ℕ). length octets + k) n_taken

    no_failure : new.failures ≡ old.failures
    no_failure = r.failures ∙ failures

    -- and these are all
    abbrev read_pieces : Pieces old new
    read_pieces =
        pieces_all old middle new x.gathered (take n piece) r.octets.0 r.reads (inl (r.last ∙ ap gave (sym n_taken)))
        few_taken

    pub whole-ended : n ≡ 0 → ReadsWhole old new (Ok octets)
    whole-ended z = record {
      pieces = read_pieces;
      within = in_limit_so_far;
      gives = record {
        are_given = sym (given_are ∙ ap (λ (k : ℕ). octets ++ take k piece) z ∙ append-nil octets);
        ended = r.last ∙ ap gave z;
        at_end = r.octets.1 z (omega (arith, room));
      };
      failures = no_failure;
    }

    pub whole-too_long : whole_limit < length octets + n → ReadsWhole old new (Err TooLong)
    whole-too_long more = record {
      pieces = read_pieces;
      within = in_limit_so_far;
      gives = omega (arith, more, count_given);
      failures = no_failure;
    }

    pub whole-no_memory : (n ≡ 0 → ⊥) → length octets + n ≤ whole_limit → ReadsWhole old new (Err Memory)
    whole-no_memory some less = record {
      pieces = read_pieces;
      within = in_limit_so_far;
      gives = record { gave_some = omega (arith, some, n_taken); in_limit = omega (arith, less, count_given) };
      failures = no_failure;
    }

    -- or there are more
    pub whole-more : (n ≡ 0 → ⊥) → (more : List ℕ) → more ≡ octets ++ take n piece → OctetsSoFar old new more
    whole-more some more is = record {
      gathered =
          pieces_so_far_more old middle new x.gathered (take n piece) r.octets.0 r.reads
          (omega (arith, some, n_taken), few_taken);
      are = together_more x.gathered.pieces (take n piece) ∙ given_are ∙ sym is;
    }
