-- What the steps of reading a names file return.
use Rattle.std.specs.Prelude.{◌≡◌, ℕ, ◌+◌, ◌<◌, ◌≤◌, true, false, List, length, Option, Some, None, Result}
use Rattle.std.specs.Prelude.{Ok, Err, String, Vec}
use Rattle.std.specs.Option.{option_map}
use Rattle.std.specs.Result.{IsOk, IsErrOf}
use Rattle.std.specs.FinMap as finite
use Rattle.std.specs.Borrow.{Bor}
use Rattle.std.specs.HashMap.{HashMap}
use Rattle.tlv_io.specs.Device.{Pieces, SourceState, octets_given}
use Rattle.tlv_value.specs.Names.{Entry, NamesLine, NamesValue, entry, has_entry, long_line, entry_limit}
use Rattle.tlv_value.specs.Names.{names_of, no_entry, no_name, no_object_identifier}
use Rattle.tlv_value.specs.NamesReading.{EndsWithin, FailsWithin, IsTooLong, names_failures_after, file_limit}
use Rattle.tlv_value.specs.declared.names.fault.NamesFault.{NamesFault}
use Rattle.tlv_value.specs.declared.names.fault.NamesFault.TheVariants.{BadOid, BadName, Repeated, TooLarge}
use Rattle.tlv_value.specs.declared.names.fault.NamesFault.TheVariants.{ReadFailed, Memory}
use Rattle.tlv_value.specs.NamesFields.{table_in, table_with}

abbrev pub texts_of :
    Result (Option (Bor (List ℕ) × Bor (List ℕ))) NamesFault → Result (Option Entry) NamesFault
texts_of (Ok pair) = Ok (option_map (λ p. (p.0.now, p.1.now)) pair)
texts_of (Err fault) = Err fault

-- the entry of a line with this number, or why it is refused by itself
abbrev pub entry_or_refusal : ℕ → NamesLine → Result (Option Entry) NamesFault
entry_or_refusal number no_entry = Ok None
entry_or_refusal number (entry dotted name) = Ok (Some (dotted, name))
entry_or_refusal number no_object_identifier = Err (BadOid number)
entry_or_refusal number no_name = Err (BadName number)
entry_or_refusal number long_line = Err TooLarge

-- an entry is added to others, or refused
abbrev pub Adds : {T : Type 0}
    → ℕ → List ℕ → List ℕ → List Entry → List Entry → Result T NamesFault → Type 0
Adds number dotted name old new (Ok done) =
    (has_entry dotted old ≡ false)
    × (length old < entry_limit)
    × (table_with new ≡ finite.insert (table_with old) dotted name)
    × (length new ≡ length old + 1)
Adds number dotted name old new (Err (Repeated n)) = (has_entry dotted old ≡ true) × (n ≡ number)
Adds number dotted name old new (Err TooLarge) = (has_entry dotted old ≡ false) × (entry_limit ≤ length old)
Adds number dotted name old new (Err Memory) = Unit {0}
Adds number dotted name old new (Err fault) = ⊥

-- what a line says is added to the entries, or refused
abbrev pub AddsLine : {T : Type 0} → ℕ → NamesLine → List Entry → List Entry → Result T NamesFault → Type 0
AddsLine number no_entry old new result = IsOk result × (new ≡ old)
AddsLine number (entry dotted name) old new result = Adds number dotted name old new result
AddsLine number no_object_identifier old new result = IsErrOf result (BadOid number)
AddsLine number no_name old new result = IsErrOf result (BadName number)
AddsLine number long_line old new result = IsErrOf result TooLarge

-- the octets give this table or refusal; memory may be refused at any time
abbrev pub IsTableOf : {Z S : Type 0}
    → List ℕ → Result (HashMap (String Z) (Vec ℕ Z) S) NamesFault → Type 0
IsTableOf octets (Ok table) = names_of octets ≡ Ok (table_in table)
IsTableOf octets (Err ReadFailed) = ⊥
IsTableOf octets (Err Memory) = Unit {0}
IsTableOf octets (Err fault) = names_of octets ≡ Err fault

abbrev pub result_in : {Z S : Type 0}
    → Result (HashMap (String Z) (Vec ℕ Z) S) NamesFault → Result NamesValue NamesFault
result_in (Ok m) = Ok (table_in m)
result_in (Err fault) = Err fault

-- all octets of a source, by what its last read gave
abbrev pub GivesAll : {Z : Type 0} → SourceState → List ℕ → Result (Vec ℕ Z) NamesFault → Type 0
GivesAll new octets (Ok v) = (octets ≡ v.items) × EndsWithin new octets
GivesAll new octets (Err TooLarge) = IsTooLong new.last octets
GivesAll new octets (Err ReadFailed) = FailsWithin new octets
GivesAll new octets (Err Memory) = length octets ≤ file_limit
GivesAll new octets (Err fault) = ⊥

-- the octets of a names file, read in pieces
pub record Gives {Z : Type 0} (old new : SourceState) (result : Result (Vec ℕ Z) NamesFault) : Type 0 where
  pub pieces : Pieces old new
  pub gives : GivesAll new (octets_given pieces) result
  pub failures : new.failures ≡ names_failures_after result old.failures
