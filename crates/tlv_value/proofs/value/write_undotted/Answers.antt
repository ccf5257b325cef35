use Rattle.std.proofs.Common.{rules, ◌≤◌, ◌∷◌, length, List, ℕ}
use Rattle.tlv_value.specs.Private.UndottedText.{integer_text, line_pairs}
use Rattle.tlv_value.specs.Value.{bits_value, boolean_value}
use Rattle.tlv_value.specs.TextBeside.{on_line_text_with}
use Rattle.tlv_value.specs.Units.{quoted_text}
use Rattle.tlv_value.proofs.TextLemmas.RowTextLengths.{bits-short, boolean-short, length-grown, integer-short}
use Rattle.tlv_value.proofs.TextLemmas.RowTextLengths.{pairs-short}
use Rattle.tlv_value.proofs.TextLemmas.RowTextLengths.{text-short}
use Rattle.tlv_value.proofs.value.write_undotted.Goals as goal

pub returns-in-Boolean : goal.returns-in-Boolean
returns-in-Boolean c =
    let octets : List ℕ = c.args.contents.now in
    record {
      text = search rules;
      within =
          length-grown c.args.held.now c.write_boolean.new.held (on_line_text_with c.args.with_text (boolean_value octets).on_line) 330 c.write_boolean.ensures
          (boolean-short c.args.with_text octets (rw c.in-Boolean.is at c.requires.short));
    }

pub returns-in-Integer : goal.returns-in-Integer
returns-in-Integer c =
    let octets : List ℕ = c.args.contents.now in
    record {
      text = search rules;
      within =
          length-grown c.args.held.now c.write_integer.new.held (integer_text octets) 330 c.write_integer.ensures
          (integer-short octets (rw c.in-Integer.is at c.requires.short));
    }

pub returns-in-Bits : goal.returns-in-Bits
returns-in-Bits c =
    let octets : List ℕ = c.args.contents.now in
    record {
      text = search rules;
      within = length-grown c.args.held.now c.write_bits.new.held (on_line_text_with c.args.with_text (bits_value octets).on_line) 330 c.write_bits.ensures
          (bits-short c.args.with_text octets (rw c.in-Bits.is at c.requires.short));
    }

pub returns-in-Text : goal.returns-in-Text
returns-in-Text c =
    let octets : List ℕ = c.args.contents.now in
    let short : length octets ≤ 64 = search rules in
    record {
      text = search rules;
      within =
          length-grown c.args.held.now c.write_quoted.new.held (32 ∷ quoted_text c.args.kind octets) 330
          c.write_quoted.ensures (text-short c.args.kind octets short);
    }

pub returns-in-Octets : goal.returns-in-Octets
returns-in-Octets c =
    let octets : List ℕ = c.args.contents.now in
    let short : length octets ≤ 64 = search rules in
    record {
      text = search rules;
      within =
          length-grown c.args.held.now c.write_pairs.new.held (line_pairs c.args.with_text octets) 330
          c.write_pairs.ensures (pairs-short c.args.with_text octets short);
    }
