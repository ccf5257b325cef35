-- Octets read one piece after another.
use Rattle.std.proofs.Common.{◌≡◌, inl, inr, ℕ, ◌+◌, ◌-◌, ◌<◌, ◌≤◌, List, [], ◌++◌, length, take, refl, sym, ap, ◌∙◌}
use Rattle.std.proofs.Common.{subst, arith, append-nil, length-append}
use Rattle.std.specs.Prelude.{Option, Some, None, String, Vec, Result, Ok, Err}
use Rattle.std.specs.Io.KnownBytes.{Consumes, Keeps}
use Rattle.std.proofs.lemmas.List.{length-take-le}
use Rattle.tlv_io.specs.declared.source.ReadFault.{ReadFault}
use Rattle.std.specs.List.{concat}
use Rattle.tlv_io.specs.Device.{Pieces, ReadsOnce, SourceState, gave, next_count, octets_given}
use Rattle.tlv_io.proofs.Pieces.{PiecesSoFar, pieces_so_far_more, pieces_all, together_more}
use Rattle.tlv_value.specs.declared.names.fault.NamesFault.{NamesFault}
use Rattle.tlv_value.specs.declared.names.fault.NamesFault.TheVariants.{BadOid, BadName, Repeated, TooLarge, ReadFailed}
use Rattle.tlv_value.specs.declared.names.fault.NamesFault.TheVariants.{Memory}
use Rattle.std.specs.HashMap.{HashMap}
use Rattle.tlv_value.specs.Names.{NamesValue, names_of}
use Rattle.tlv_value.specs.NamesReading.{IsWholeFile, ReadsFrom, file_limit}
use Rattle.tlv_value.specs.NamesFields.{table_in}
use Rattle.tlv_value.specs.Private.NamesSteps.{Gives, GivesAll, IsTableOf, result_in}

-- the octets that the reads so far gave
pub record OctetsSoFar (old new : SourceState) (octets : List ℕ) : Type 0 where
  pub gathered : PiecesSoFar old new
  pub are : concat gathered.pieces ≡ octets

module _ (old middle new : SourceState) (octets : List ℕ) (x : OctetsSoFar old middle octets)
    (most : length octets ≤ file_limit) (failures : middle.failures ≡ old.failures) (piece : List ℕ)
    (room : length piece ≡ 4096) where
  -- a read that failed
  pub gives_failed : {Z : Type 0} → (e : ReadFault) → ReadsOnce middle new (Err e) piece
      → Gives {Z = Z} old new (Err ReadFailed)
  gives_failed e r = record {
    pieces =
        pieces_all old middle new x.gathered [] (consumes_kept middle.left new.left r.octets) r.reads
        (inr (r.last, refl)) (omega arith);
    gives = record {
      failed_last = r.last;
      within =
          subst (λ (l : List ℕ). length l ≤ file_limit) (sym (append-nil (concat x.gathered.pieces) ∙ x.are)) most;
    };
    failures = r.failures ∙ ap next_count failures;
  }
    where
      consumes_kept : (a b : Option (List ℕ)) → Keeps a b → Consumes a b []
      consumes_kept None b k = tt
      consumes_kept (Some xs) None k = absurd k
      consumes_kept (Some xs) (Some ys) k = sym k

  module _ (n : ℕ) (r : ReadsOnce {E = ReadFault} middle new (Ok n) piece) where
    pub r_length : length (take n piece) ≡ n
    r_length = length-take-le n piece r.within.0

    pub all_are : concat x.gathered.pieces ++ take n piece ≡ octets ++ take n piece
    all_are = ap (λ (l : List ℕ). l ++ take n piece) x.are

    pub few : length (take n piece) ≤ 4096
    few = omega (arith, r_length, r.within.0, room)

    -- and these are all
    abbrev pub pieces_so : Pieces old new
    pieces_so =
        pieces_all old middle new x.gathered (take n piece) r.octets.0 r.reads (inl (r.last ∙ ap gave (sym r_length)))
        few

    length_all : length (concat x.gathered.pieces ++ take n piece) ≡ length octets + n
    length_all = ap length all_are ∙ length-append octets (take n piece) ∙ ap (λ (k : ℕ). length octets + k) r_length

    same_failures : new.failures ≡ old.failures
    same_failures = r.failures ∙ failures

    pub gives_end : {Z : Type 0} → n ≡ 0 → (v : Vec ℕ Z) → v.items ≡ octets → Gives {Z = Z} old new (Ok v)
    gives_end z v is = record {
      pieces = pieces_so;
      gives = (
        all_are ∙ ap (λ (k : ℕ). octets ++ take k piece) z ∙ none_taken ∙ sym is,
        record {
          ended = r.last ∙ ap gave z;
          at_end = r.octets.1 z (omega (arith, room));
          within = omega (arith, most, length_all, z);
        },
      );
      failures = same_failures;
    }
      where
        none_taken : octets ++ take 0 piece ≡ octets
        none_taken = append-nil octets

    pub gives_long : {Z : Type 0} → file_limit - length octets < n → Gives {Z = Z} old new (Err TooLarge)
    gives_long more = record {
      pieces = pieces_so;
      gives = record {
        count = n;
        gave_last = r.last;
        beyond = omega (arith, more, most, length_all);
        before = omega (arith, most, length_all);
      };
      failures = same_failures;
    }

    pub gives_memory : {Z : Type 0} → n ≤ file_limit - length octets → Gives {Z = Z} old new (Err Memory)
    gives_memory less = record {
      pieces = pieces_so;
      gives = omega (arith, less, most, length_all);
      failures = same_failures;
    }

    -- or there are more
    pub given_more : (n ≡ 0 → ⊥) → (more : List ℕ) → more ≡ octets ++ take n piece → OctetsSoFar old new more
    given_more some more is = record {
      gathered =
          pieces_so_far_more old middle new x.gathered (take n piece) r.octets.0 r.reads
          (omega (arith, some, r_length), few);
      are = together_more x.gathered.pieces (take n piece) ∙ all_are ∙ sym is;
    }

-- ---- what is made of all of them

-- the octets that were read say the result
result-is_whole_file : {Z : Type 0} (new : SourceState) (octets : List ℕ) (v : Vec ℕ Z)
    (r : Result NamesValue NamesFault)
    → GivesAll new octets (Ok v) → names_of v.items ≡ r → IsWholeFile new octets r
result-is_whole_file new octets v r x n = record { ends = x.1; result_is = ap names_of x.0 ∙ n }

pub reads-from_table : {Y Z S : Type 0} (old new : SourceState) (v : Vec ℕ Y)
    (result : Result (HashMap (String Z) (Vec ℕ Z) S) NamesFault)
    → Gives old new (Ok v) → IsTableOf v.items result → ReadsFrom old new (result_in result)
reads-from_table old new v (Ok m) x n = record {
  pieces = x.pieces;
  result_is = result-is_whole_file new (octets_given x.pieces) v (Ok (table_in m)) x.gives n;
  failures = x.failures;
}
reads-from_table old new v (Err (BadOid k)) x n = record {
  pieces = x.pieces;
  result_is = result-is_whole_file new (octets_given x.pieces) v (Err (BadOid k)) x.gives n;
  failures = x.failures;
}
reads-from_table old new v (Err (BadName k)) x n = record {
  pieces = x.pieces;
  result_is = result-is_whole_file new (octets_given x.pieces) v (Err (BadName k)) x.gives n;
  failures = x.failures;
}
reads-from_table old new v (Err (Repeated k)) x n = record {
  pieces = x.pieces;
  result_is = result-is_whole_file new (octets_given x.pieces) v (Err (Repeated k)) x.gives n;
  failures = x.failures;
}
reads-from_table old new v (Err TooLarge) x n = record {
  pieces = x.pieces;
  result_is = inl (result-is_whole_file new (octets_given x.pieces) v (Err TooLarge) x.gives n);
  failures = x.failures;
}
reads-from_table old new v (Err ReadFailed) x n = absurd n
reads-from_table old new v (Err Memory) x n = record {
  pieces = x.pieces;
  result_is = x.gives.1.within;
  failures = x.failures;
}

-- the octets could not be read
pub failed-reads_from : {Z : Type 0} (old new : SourceState) (e : NamesFault) → Gives {Z = Z} old new (Err e)
    → ReadsFrom old new (Err e)
failed-reads_from old new (BadOid k) x = absurd x.gives
failed-reads_from old new (BadName k) x = absurd x.gives
failed-reads_from old new (Repeated k) x = absurd x.gives
failed-reads_from old new TooLarge x = record { pieces = x.pieces; result_is = inr x.gives; failures = x.failures }
failed-reads_from old new ReadFailed x = record { pieces = x.pieces; result_is = x.gives; failures = x.failures }
failed-reads_from old new Memory x = record { pieces = x.pieces; result_is = x.gives; failures = x.failures }
