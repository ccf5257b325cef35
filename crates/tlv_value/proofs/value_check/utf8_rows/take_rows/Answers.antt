use Rattle.std.specs.List.{list_all}
use Rattle.std.proofs.Common.{◌≡◌, ◌⊎◌, inl, inr, ℕ, ◌+◌, ◌<◌, ◌++◌, [], Bool, List, length, sym, ap, ◌∙◌, arith}
use Rattle.std.specs.Prelude.{◌&&◌}
use Rattle.std.specs.Str.{is_utf8}
use Rattle.std.proofs.lemmas.Bool.{eqb-true}
use Rattle.std.proofs.lemmas.Bool.Decides.{nat_tests}
use Rattle.std.proofs.lemmas.Grind.{common_steps}
use Rattle.tlv_head.specs.declared.kind.Kind.TheVariants.{Utf8}
use Rattle.tlv_value.specs.RowSizes.{row_size}
use Rattle.tlv_value.proofs.RowLemmas.FilledRows.{rows_filled}
use Rattle.tlv_value.proofs.CheckLemmas.Noting.{and-nothing, and-row}
use Rattle.tlv_value.proofs.RowLemmas.OneCut.{open-parts}
use Rattle.tlv_value.proofs.RowLemmas.RowSteps.{row-kept_in_loop, kept-open, none-open, row-filled_in_loop}
use Rattle.tlv_value.proofs.value_check.utf8_rows.take_rows.Goals as goal

pub loop-rest-init : goal.loop-rest-init
loop-rest-init c =
    let p = open-parts Utf8 c.args.row.now.items c.args.octets.now c.requires in
    record { is_open = c.requires; row = p.1; utf8 = ap (list_all is_utf8) p.0 }

pub returns-then-is_empty-clause-is_open : goal.returns-then-is_empty-clause-is_open
returns-then-is_empty-clause-is_open c =
    let z : length c.split_at.result.1.now ≡ 0 =
    eqb-true (length c.split_at.result.1.now) 0 (sym c.if-is_empty.ensures) in
    let t : c.try_extend_from_slice.new.self.items ≡ c.loop-rest.row.items ++ c.split_at.result.0.now =
    grind (arith, common_steps) in
    rw t
    (kept-open Utf8 c.len.result c.loop-rest.row.items c.fitting_length.result c.loop-rest.rest.now
    c.split_at.result.0.now c.loop-rest.invariant.is_open c.len.ensures.value c.split_at.ensures.front
    c.fitting_length.ensures.fits
    (omega arith) c.fitting_length.ensures.within (omega arith))

pub returns-then-is_empty-clause-utf8 : goal.returns-then-is_empty-clause-utf8
returns-then-is_empty-clause-utf8 c =
    let z : length c.split_at.result.1.now ≡ 0 =
    eqb-true (length c.split_at.result.1.now) 0 (sym c.if-is_empty.ensures) in
    let k =
    row-kept_in_loop Utf8 c.len.result c.loop-rest.row.items c.fitting_length.result c.loop-rest.rest.now
    c.split_at.result.0.now c.len.ensures.value c.split_at.ensures.front c.fitting_length.ensures.fits
    (omega arith) c.fitting_length.ensures.within (omega arith) in
    sym (and-nothing c.loop-rest.are_full_rows_utf8 (rows_filled Utf8 c.loop-rest.row.items c.loop-rest.rest.now) k.0)
    ∙ c.loop-rest.invariant.utf8

pub returns-then-is_empty-clause-row : goal.returns-then-is_empty-clause-row
returns-then-is_empty-clause-row c =
    let z : length c.split_at.result.1.now ≡ 0 =
    eqb-true (length c.split_at.result.1.now) 0 (sym c.if-is_empty.ensures) in
    let k =
    row-kept_in_loop Utf8 c.len.result c.loop-rest.row.items c.fitting_length.result c.loop-rest.rest.now
    c.split_at.result.0.now c.len.ensures.value c.split_at.ensures.front c.fitting_length.ensures.fits
    (omega arith) c.fitting_length.ensures.within (omega arith) in
    let t : c.try_extend_from_slice.new.self.items ≡ c.loop-rest.row.items ++ c.split_at.result.0.now =
    grind (arith, common_steps) in
    t ∙ sym k.1 ∙ c.loop-rest.invariant.row

pub loop-rest-preserved : goal.loop-rest-preserved
loop-rest-preserved c =
    let i = c.loop-rest.invariant in
    let row : List ℕ = c.loop-rest.row.items in
    let part : List ℕ = c.split_at.result.0.now in
    let more : List ℕ = c.split_at.result.1.now in
    let m : ℕ = c.fitting_length.result in
    let claim : (c.len.result + m ≡ row_size Utf8) ⊎ (m < length c.loop-rest.rest.now) =
    elim c.else-len-part-lt64.branch [
      | goal.else-len-part-lt64-via-then-len-part-lt64+else-is_empty w ↦ inr (grind (arith, nat_tests))
      | goal.else-len-part-lt64-via-else-len-part-lt64 w ↦ inl (omega arith)
    ] in
    let t =
    row-filled_in_loop Utf8 c.len.result row m c.loop-rest.rest.now part more c.len.ensures.value
    c.split_at.ensures.front
    c.split_at.ensures.back c.fitting_length.ensures.fits c.fitting_length.ensures.short
    c.fitting_length.ensures.within (omega arith) c.fitting_length.ensures.next claim in
    let none : c.is_full_row_utf8.new.row.items ≡ [] = c.is_full_row_utf8.ensures.row in
    let both : c.both-are_full_rows_utf8.result ≡ (c.loop-rest.are_full_rows_utf8 && is_utf8 (row ++ part)) =
    c.both-are_full_rows_utf8.ensures
    ∙ ap (λ (b : Bool). c.loop-rest.are_full_rows_utf8 && b) c.is_full_row_utf8.ensures.utf8 in
    record {
      is_open = rw none (none-open Utf8);
      row = rw none (sym t.1 ∙ i.row);
      utf8 =
          rw none
          (ap (λ (b : Bool). b && list_all is_utf8 (rows_filled Utf8 [] more)) both
          ∙ and-row c.loop-rest.are_full_rows_utf8 (row ++ part) (rows_filled Utf8 [] more)
          (rows_filled Utf8 row c.loop-rest.rest.now) t.0
          ∙ i.utf8);
    }
