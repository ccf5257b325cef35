-- What the calls put is what the definitions say.
use Rattle.std.proofs.Common.{◌≡◌, ℕ, ◌≤◌, Bool, true, false, List, [], ◌∷◌, ◌++◌, length, refl, sym, ap, ◌∙◌}
use Rattle.std.proofs.Common.{arith, append_assoc, append-nil}
use Rattle.std.specs.Prelude.{nat_le, if◌then◌else◌}
use Rattle.std.proofs.lemmas.Bool.Decides.{nat_tests}
use Rattle.tlv_head.specs.declared.kind.Kind.{Kind}
use Rattle.tlv_head.specs.declared.kind.Kind.TheVariants.{Octets, Boolean, Integer, Bits, Object, Relative, Text, Utf8}
use Rattle.tlv_head.specs.declared.kind.Kind.TheVariants.{Ucs2, Ucs4}
use Rattle.tlv_value.specs.declared.layout.Layout.{Layout}
use Rattle.tlv_value.specs.Private.ObjectLines.{object_lines}
use Rattle.tlv_value.specs.Private.PrimitiveLines.{line_prefix}
use Rattle.tlv_value.specs.declared.primitive.Primitive.{Primitive}
use Rattle.tlv_value.specs.RowsSoFar.{full_rows}
use Rattle.tlv_value.specs.TextBeside.{on_line_text_with, shown_row_lines_with}
use Rattle.tlv_value.specs.ValueTextState.{KeptContents, ValueTextState, contents_lines, end_lines, primitive_line}
use Rattle.tlv_value.specs.ValueTextState.{primitive_lines, row_lines}
use Rattle.tlv_value.specs.Value.{NameOf, Value, bit_count_text, bits_value, boolean_value, integer_value, is_long}
use Rattle.tlv_value.specs.Value.{is_unused_count, long_text, most_not_long, no_names, octets_value, row_octets}
use Rattle.tlv_value.specs.Value.{short_value, used_digits, value_on_line}
use Rattle.tlv_value.specs.Private.UndottedText.{undotted_text}
use Rattle.tlv_value.proofs.TextLemmas.RowLines.{no-row_lines}
use Rattle.tlv_value.proofs.TextLemmas.WithoutText.{integer-on_line}

-- what the line of a primitive begins with, and the rest of its lines
prefix-line : (p : Primitive) (text rows : List ℕ)
    → line_prefix p ++ ((text ++ 10 ∷ []) ++ rows) ≡ primitive_line p text ++ rows
prefix-line p text rows = simp append_assoc refl

pub shown-prefix : (name_of : NameOf) (p : Primitive) (octets : List ℕ)
    → line_prefix p
    ++ ((on_line_text_with p.with_text (short_value name_of p.kind octets).on_line ++ 10 ∷ [])
    ++ shown_row_lines_with p.with_text p.kind p.layout (short_value name_of p.kind octets).rows)
    ≡ primitive_lines name_of p octets
shown-prefix name_of p octets =
    let v : Value = short_value name_of p.kind octets in
    prefix-line p (on_line_text_with p.with_text v.on_line) (shown_row_lines_with p.with_text p.kind p.layout v.rows)

module _ (with_text : Bool) (name_of : NameOf) (layout : Layout) (line : List ℕ → List ℕ) (octets : List ℕ) where
  abbrev shown_by : Kind → List ℕ
  shown_by kind =
      line (on_line_text_with with_text (short_value name_of kind octets).on_line)
      ++ shown_row_lines_with with_text kind layout (short_value name_of kind octets).rows

  -- rows of octets are the same for an object identifier
  object_at : (kind : Kind) → kind ≡ Object
      → line (on_line_text_with with_text (short_value name_of Object octets).on_line)
      ++ shown_row_lines_with with_text Octets layout (short_value name_of Object octets).rows
      ≡ shown_by kind
  object_at kind e = rw e refl

  relative_at : (kind : Kind) → kind ≡ Relative
      → line (on_line_text_with with_text (short_value name_of Relative octets).on_line)
      ++ shown_row_lines_with with_text Octets layout (short_value name_of Relative octets).rows
      ≡ shown_by kind
  relative_at kind e = rw e refl

pub shown-object : (name_of : NameOf) (p : Primitive) (octets : List ℕ) → p.kind ≡ Object
    → line_prefix p ++ object_lines p.with_text name_of p.layout false octets ≡ primitive_lines name_of p octets
shown-object name_of p octets e =
    let v : Value = short_value name_of Object octets in
    prefix-line p (on_line_text_with p.with_text v.on_line) (shown_row_lines_with p.with_text Octets p.layout v.rows)
    ∙ object_at p.with_text name_of p.layout (primitive_line p) octets p.kind e

pub shown-relative : (name_of : NameOf) (p : Primitive) (octets : List ℕ) → p.kind ≡ Relative
    → line_prefix p ++ object_lines p.with_text no_names p.layout true octets ≡ primitive_lines name_of p octets
shown-relative name_of p octets e =
    let v : Value = short_value name_of Relative octets in
    prefix-line p (on_line_text_with p.with_text v.on_line) (shown_row_lines_with p.with_text Octets p.layout v.rows)
    ∙ relative_at p.with_text name_of p.layout (primitive_line p) octets p.kind e

-- values on their lines, without rows

abbrev IsUndotted : Bool → NameOf → Kind → List ℕ → Type 0
IsUndotted with_text name_of kind row =
    (on_line_text_with with_text (short_value name_of kind row).on_line ≡ undotted_text with_text kind row) × ((short_value name_of kind row).rows ≡ [])

octets-rows : (row : List ℕ) → length row ≤ 16 → (octets_value row).rows ≡ []
octets-rows row h = let b : nat_le (length row) 16 ≡ true = grind (arith, nat_tests) in rw b refl

octets-text : (with_text : Bool) (name_of : NameOf) (row : List ℕ) → length row ≤ 16 → IsUndotted with_text name_of Octets row
octets-text with_text name_of row h = let b : nat_le (length row) 16 ≡ true = grind (arith, nat_tests) in rw b (refl, refl)

boolean-rows : (row : List ℕ) → length row ≤ 16 → (boolean_value row).rows ≡ []
boolean-rows [] h = refl
boolean-rows (x ∷ []) h = refl
boolean-rows (x ∷ y ∷ row) h = octets-rows (x ∷ y ∷ row) h

integer-rows : (row : List ℕ) → length row ≤ 16 → (integer_value row).rows ≡ []
integer-rows [] h = refl
integer-rows (x ∷ row) h = refl

if-rows : (b : Bool) (x y : Value) → x.rows ≡ [] → y.rows ≡ [] → (if b then x else y).rows ≡ []
if-rows true x y e f = e
if-rows false x y e f = f

bits-rows : (row : List ℕ) → length row ≤ 9 → (bits_value row).rows ≡ []
bits-rows [] h = refl
bits-rows (u ∷ row) h =
    if-rows (is_unused_count u (length row)) (value_on_line (bit_count_text u (length row) ++ used_digits u row))
    (octets_value (u ∷ row)) refl (octets-rows (u ∷ row) (omega arith))

pub held-undotted : (with_text : Bool) (name_of : NameOf) (kind : Kind) (row : List ℕ) → (kind ≡ Object → ⊥) → (kind ≡ Relative → ⊥)
    → length row ≤ most_not_long kind → IsUndotted with_text name_of kind row
held-undotted with_text name_of Octets row o r h = octets-text with_text name_of row h
held-undotted with_text name_of Boolean row o r h = (refl, boolean-rows row h)
held-undotted with_text name_of Integer row o r h = (integer-on_line with_text row, integer-rows row h)
held-undotted with_text name_of Bits row o r h = (refl, bits-rows row h)
held-undotted with_text name_of Object row o r h = absurd (o refl)
held-undotted with_text name_of Relative row o r h = absurd (r refl)
held-undotted with_text name_of Text row o r h = (refl, refl)
held-undotted with_text name_of Utf8 row o r h = (refl, refl)
held-undotted with_text name_of Ucs2 row o r h = (refl, refl)
held-undotted with_text name_of Ucs4 row o r h = (refl, refl)

undotted_at : (with_text : Bool) (name_of : NameOf) (kind : Kind) (layout : Layout) (line row : List ℕ) → IsUndotted with_text name_of kind row
    → line ++ (undotted_text with_text kind row ++ 10 ∷ [])
    ≡ line
    ++ ((on_line_text_with with_text (short_value name_of kind row).on_line ++ 10 ∷ [])
    ++ shown_row_lines_with with_text kind layout (short_value name_of kind row).rows)
undotted_at with_text name_of kind layout line row p =
    let text : List ℕ = undotted_text with_text kind row ++ 10 ∷ [] in
    rw (p.0, p.1)
    (ap (λ (t : List ℕ). line ++ t)
    (sym (append-nil text) ∙ ap (λ (t : List ℕ). text ++ t) (sym (no-row_lines with_text kind layout))))

pub shown-undotted : (name_of : NameOf) (p : Primitive) (octets : List ℕ) → (p.kind ≡ Object → ⊥)
    → (p.kind ≡ Relative → ⊥) → length octets ≤ most_not_long p.kind
    → line_prefix p ++ (undotted_text p.with_text p.kind octets ++ 10 ∷ []) ≡ primitive_lines name_of p octets
shown-undotted name_of p octets o r h =
    undotted_at p.with_text name_of p.kind p.layout (line_prefix p) octets (held-undotted p.with_text name_of p.kind octets o r h)
    ∙ shown-prefix name_of p octets

abbrev pub state_by : Primitive → ℕ → KeptContents → ValueTextState
state_by p left kept = record { primitive = p; left = left; kept = kept }

-- with its end a primitive that is not long has all its lines
pub ended-shown : (name_of : NameOf) (p : Primitive) (left : ℕ) (kept : KeptContents) → is_long p.kind p.size ≡ false
    → end_lines name_of (state_by p left kept) ≡ primitive_lines name_of p kept.row
ended-shown name_of p left kept l = rw l refl

-- the first contents octet of a long BIT STRING

new-first_at : (with_text : Bool) (kind : Kind) (has_put_line : Bool) (size : ℕ) (layout : Layout) (line : List ℕ → List ℕ) (x : ℕ)
    (rest rows_part : List ℕ)
    → kind ≡ Bits → has_put_line ≡ false → is_long kind size ≡ true
    → (if is_long kind size
    then (if has_put_line then rows_part
    else (line (long_text kind size (x ∷ []))
    ++ row_lines with_text kind layout 0 (full_rows kind (row_octets kind (x ∷ [])) rest)))
    else [])
    ≡ line (long_text Bits size (x ∷ [])) ++ row_lines with_text Bits layout 0 (full_rows Bits (row_octets Bits (x ∷ [])) rest)
new-first_at with_text kind has_put_line size layout line x rest rows_part e u l = rw (l, u, e) refl

pub new-first : (s : ValueTextState) (x : ℕ) (rest : List ℕ) → s.primitive.kind ≡ Bits → s.kept.has_put_line ≡ false
    → is_long s.primitive.kind s.primitive.size ≡ true
    → contents_lines s (x ∷ rest)
    ≡ primitive_line s.primitive (long_text Bits s.primitive.size (x ∷ []))
    ++ row_lines s.primitive.with_text Bits s.primitive.layout 0 (full_rows Bits (row_octets Bits (x ∷ [])) rest)
new-first s x rest e u l =
    new-first_at s.primitive.with_text s.primitive.kind s.kept.has_put_line s.primitive.size s.primitive.layout (primitive_line s.primitive) x
    rest
    (row_lines s.primitive.with_text s.primitive.kind s.primitive.layout s.kept.row_count (full_rows s.primitive.kind s.kept.row (x ∷ rest)))
    e u l

-- the rows after it
pub rows-first : (with_text : Bool) (kind : Kind) (layout : Layout) (n : ℕ) (row begun rest : List ℕ) → kind ≡ Bits → n ≡ 0 → row ≡ begun
    → row_lines with_text kind layout n (full_rows kind row rest) ≡ row_lines with_text Bits layout 0 (full_rows Bits begun rest)
rows-first with_text kind layout n row begun rest e z r = rw (e, z, r) refl

-- a value on its line has few octets
pub held-most : (kind : Kind) (n size : ℕ) → is_long kind size ≡ false → n ≡ size → n ≤ most_not_long kind
held-most kind n size l e = grind (arith, nat_tests)
