use Rattle.std.proofs.Common.{◌≡◌, ℕ, Bool, false, List, Option, Some, None, Result, refl}
use Rattle.std.specs.Option.{is_none}
use Rattle.tlv_io.specs.Device.{SourceState}
use Rattle.tlv_value.specs.Names.{NamesValue}
use Rattle.tlv_value.specs.NamesReading.{ReadsFrom}
use Rattle.tlv_value.specs.declared.names.fault.NamesFault.{NamesFault}
use Rattle.tlv_program.specs.System.{Allows}
use Rattle.tlv_view_program.specs.declared.request.Wanted.{Wanted}
use Rattle.tlv_view_program.specs.Private.Tables.{OpensNames, result_without_file}
use Rattle.tlv_view_program.specs.ShowsAll.{GetsTable, found, named, names_of_wanted, none_found, not_asked, unopened}
use Rattle.tlv_view_program.proofs.names.table_for.Goals as goal

module _ {S : Type 0} (allows : Allows S) (wanted : Wanted) (places : List (List ℕ)) (old new : S) where
  -- no file opens
  without-file : (name : Option (List ℕ)) (noted : Bool) (result : Result NamesValue NamesFault)
      → names_of_wanted wanted ≡ Some name → OpensNames allows name places old new None → noted ≡ is_none name
      → result ≡ result_without_file name → GetsTable allows wanted places old new noted result
  without-file None noted result asked opens n r = rw (n, r) (none_found asked opens)
  without-file (Some name) noted result asked opens n r = rw (n, r) (unopened name opens.0 asked opens.1)

  -- a file opens
  with-file : (name : Option (List ℕ)) (between : S) (before after : SourceState)
      (result : Result NamesValue NamesFault)
      → names_of_wanted wanted ≡ Some name → OpensNames allows name places old between (Some before)
      → ReadsFrom before after result → allows.closes between new after
      → GetsTable allows wanted places old new false result
  with-file None between before after result asked opens reads closes =
      found between before after result asked opens reads closes
  with-file (Some name) between before after result asked opens reads closes =
      named name between before after result asked opens.0 opens.1 reads closes

pub returns-in-Check : goal.returns-in-Check
returns-in-Check g c =
    rw (c.no_table.ensures.names, c.no_table.ensures.noted) (not_asked (rw c.in-Check.is refl) refl)

pub returns-in-Extract : goal.returns-in-Extract
returns-in-Extract g c =
    rw (c.no_table-in-Extract.ensures.names, c.no_table-in-Extract.ensures.noted)
    (not_asked (rw c.in-Extract.is refl) refl)

pub returns-in-Offsets : goal.returns-in-Offsets
returns-in-Offsets g c =
    rw (c.no_table-in-Offsets.ensures.names, c.no_table-in-Offsets.ensures.noted)
    (not_asked (rw c.in-Offsets.is refl) refl)

pub returns-in-Raw : goal.returns-in-Raw
returns-in-Raw g c =
    rw (c.no_table-in-Raw.ensures.names, c.no_table-in-Raw.ensures.noted) (not_asked (rw c.in-Raw.is refl) refl)

pub returns-in-Why : goal.returns-in-Why
returns-in-Why g c =
    rw (c.no_table-in-Why.ensures.names, c.no_table-in-Why.ensures.noted) (not_asked (rw c.in-Why.is refl) refl)

pub returns-in_default : goal.returns-in_default
returns-in_default g c =
    without-file g.S.System.allows c.args.wanted.now c.args.places.now _ _ c.in-Dump.names _ _
    (rw c.in-Dump.is refl) (rw c.in_default.is at c.open_names.ensures) c.table_without_file.ensures.noted
    c.table_without_file.ensures.result

pub returns-in-Ok : goal.returns-in-Ok
returns-in-Ok g c =
    with-file g.S.System.allows c.args.wanted.now c.args.places.now _ _ c.in-Dump.names c.open_names.new.system
    (g.S.File.Source.state c.in-Some.file) (g.S.File.Source.state c.read-names.new.source) _
    (rw c.in-Dump.is refl) (rw c.in-Some.is at c.open_names.ensures) (rw c.in-Ok.is at c.read-names.ensures)
    c.close.ensures

pub returns-in-Err : goal.returns-in-Err
returns-in-Err g c =
    with-file g.S.System.allows c.args.wanted.now c.args.places.now _ _ c.in-Dump.names c.open_names.new.system
    (g.S.File.Source.state c.in-Some.file) (g.S.File.Source.state c.read-names.new.source) _
    (rw c.in-Dump.is refl) (rw c.in-Some.is at c.open_names.ensures) (rw c.in-Err.is at c.read-names.ensures)
    c.close.ensures
