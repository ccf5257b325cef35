-- Contents in pieces.
use Rattle.std.proofs.Common.{◌≡◌, ℕ, ◌+◌, ◌-◌, ◌≤◌, Bool, true, false, List, [], ◌∷◌, ◌++◌, length, refl, sym, ap, ◌∙◌}
use Rattle.std.proofs.Common.{arith, append_assoc, append-nil, length-append}
use Rattle.std.specs.Prelude.{◌&&◌, nat_le, if◌then◌else◌}
use Rattle.tlv_head.specs.Header.{HasAllContents, HeaderValue, announced_length as size_of}
use Rattle.tlv_io.specs.Cuts.{last_rows}
use Rattle.tlv_head.specs.declared.kind.Kind.{Kind}
use Rattle.tlv_head.specs.declared.kind.Kind.TheVariants.{Octets, Boolean, Integer, Bits, Object, Relative, Text, Utf8}
use Rattle.tlv_head.specs.declared.kind.Kind.TheVariants.{Ucs2, Ucs4}
use Rattle.tlv_value.specs.declared.layout.Layout.{Layout}
use Rattle.tlv_value.specs.declared.primitive.Primitive.{Primitive}
use Rattle.tlv_head.specs.Kind.{kind_of}
use Rattle.tlv_value.specs.Laws.{LinesBegin, LinesEnd, LinesGoOn, PiecesJoin}
use Rattle.tlv_value.specs.Rows.{full_rows_in, rows_of}
use Rattle.tlv_value.specs.RowsSoFar.{full_rows, open_row, open_row_in}
use Rattle.tlv_value.specs.Private.PrimitiveLines.{lines_in_steps}
use Rattle.tlv_value.specs.ValueLines.{has_line}
use Rattle.tlv_value.specs.TextBeside.{incomplete_lines_with, on_line_text_with, shown_row_lines_with, whole_lines_with}
use Rattle.tlv_value.specs.ValueTextState.{KeptContents, ValueTextState, begin_lines, contents_lines, end_lines}
use Rattle.tlv_value.specs.ValueTextState.{kept_contents_with_line, kept_contents_before_line, full_row_lines}
use Rattle.tlv_value.specs.ValueTextState.{new_value_text_of}
use Rattle.tlv_value.specs.ValueTextState.{new_value_text_with, primitive_line, primitive_lines, new_primitive}
use Rattle.tlv_value.specs.ValueTextState.{kept_contents_after_line, row_lines}
use Rattle.tlv_value.specs.ValueTextState.{kept_contents_after, value_text_for, value_text_after}
use Rattle.tlv_value.specs.Value.{NameOf, Value, Written, is_long, long_text, row_octets}
use Rattle.tlv_value.specs.Value.{short_value}
use Rattle.std.proofs.lemmas.Bool.Decides.{nat_tests}
use Rattle.tlv_value.proofs.TextLemmas.RowLines.{row_lines-all, row_lines-append}
use Rattle.tlv_value.proofs.RowLemmas.RowsFilled.{rows-filled}
use Rattle.tlv_value.proofs.RowLemmas.OneCut.{rows-join, rows-parts}

abbrev kept_with : ℕ → List ℕ → KeptContents
kept_with n r = record { has_put_line = true; row_count = n; row = r }

kept-eq : (n m : ℕ) (r q : List ℕ) → n ≡ m → r ≡ q → kept_with n r ≡ kept_with m q
kept-eq n m r q e f = ap (λ (j : ℕ). kept_with j r) e ∙ ap (kept_with m) f

module _ (with_text : Bool) (kind : Kind) where
  -- what is kept, and what is written, of two pieces
  kept-join : (k : KeptContents) (x y : List ℕ)
      → kept_contents_after_line kind (kept_contents_after_line kind k x) y ≡ kept_contents_after_line kind k (x ++ y)
  kept-join k x y =
      let j = rows-join kind k.row x y in
      let n : k.row_count + length (full_rows kind k.row x) + length (full_rows kind (open_row kind k.row x) y)
      ≡ k.row_count + length (full_rows kind k.row (x ++ y)) =
      omega (arith, ap length j.0, length-append (full_rows kind k.row x) (full_rows kind (open_row kind k.row x) y)) in
      kept-eq (k.row_count + length (full_rows kind k.row x) + length (full_rows kind (open_row kind k.row x) y))
      (k.row_count + length (full_rows kind k.row (x ++ y))) (open_row kind (open_row kind k.row x) y)
      (open_row kind k.row (x ++ y)) n (sym j.1)

  new-join : (layout : Layout) (k : KeptContents) (x y : List ℕ)
      → full_row_lines with_text kind layout k (x ++ y)
      ≡ full_row_lines with_text kind layout k x ++ full_row_lines with_text kind layout (kept_contents_after_line kind k x) y
  new-join layout k x y =
      ap (row_lines with_text kind layout k.row_count) (rows-join kind k.row x y).0
      ∙ row_lines-append with_text kind layout k.row_count (full_rows kind k.row x) (full_rows kind (open_row kind k.row x) y)

-- the parts of a state that do not change are left out here: the tests, the lines and what is kept
module _ (with_text : Bool) (kind : Kind) (layout : Layout) (line : List ℕ → List ℕ) (size : ℕ) where
  abbrev kept_by : Bool → Bool → KeptContents → List ℕ → KeptContents
  kept_by long has_put_line k x =
      if long then (if has_put_line then kept_contents_after_line kind k x else kept_contents_before_line kind k x) else
      record {
        has_put_line = k.has_put_line;
        row_count = k.row_count;
        row = k.row ++ x;
      }

  abbrev first_new : List ℕ → List ℕ
  first_new [] = []
  first_new (u ∷ x) = line (long_text kind size (u ∷ [])) ++ full_row_lines with_text kind layout (kept_contents_with_line kind u)
      x

  abbrev new_by : Bool → Bool → KeptContents → List ℕ → List ℕ
  new_by long has_put_line k x =
      if long then (if has_put_line then full_row_lines with_text kind layout k x else first_new x) else []

  join-kept : (long has_put_line : Bool) (k : KeptContents) (x y : List ℕ) → k.has_put_line ≡ has_put_line
      → kept_by long (kept_by long has_put_line k x).has_put_line (kept_by long has_put_line k x) y
      ≡ kept_by long has_put_line k (x ++ y)
  join-kept false has_put_line k x y e =
      ap (λ (r : List ℕ). record { has_put_line = k.has_put_line; row_count = k.row_count; row = r })
      (append_assoc k.row x y)
  join-kept true true k x y e = kept-join with_text kind k x y
  join-kept true false k [] y e = rw e refl
  join-kept true false k (u ∷ x) y e = kept-join with_text kind (kept_contents_with_line kind u) x y

  join-new : (long has_put_line : Bool) (k : KeptContents) (x y : List ℕ) → k.has_put_line ≡ has_put_line
      → new_by long has_put_line k (x ++ y)
      ≡ new_by long has_put_line k x
      ++ new_by long (kept_by long has_put_line k x).has_put_line (kept_by long has_put_line k x) y
  join-new false has_put_line k x y e = refl
  join-new true true k x y e = new-join with_text kind layout k x y
  join-new true false k [] y e = rw e refl
  join-new true false k (u ∷ x) y e =
      ap (λ (t : List ℕ). line (long_text kind size (u ∷ [])) ++ t)
      (new-join with_text kind layout (kept_contents_with_line kind u) x y)
      ∙ sym (append_assoc (line (long_text kind size (u ∷ [])))
      (full_row_lines with_text kind layout (kept_contents_with_line kind u) x)
      (full_row_lines with_text kind layout (kept_contents_after_line kind (kept_contents_with_line kind u) x) y))

abbrev with_kept : ValueTextState → ℕ → KeptContents → ValueTextState
with_kept s left k = record { primitive = s.primitive; left = left; kept = k }

new_by-new : (s : ValueTextState) (x : List ℕ)
    → new_by s.primitive.with_text s.primitive.kind s.primitive.layout (primitive_line s.primitive) s.primitive.size
    (is_long s.primitive.kind s.primitive.size) s.kept.has_put_line s.kept x
    ≡ contents_lines s x
new_by-new s [] = refl
new_by-new s (u ∷ x) = refl

pub pieces-join : PiecesJoin
pieces-join s x y =
    let l : s.left - length x - length y ≡ s.left - length (x ++ y) = omega (arith, length-append x y) in
    let k =
    join-kept s.primitive.with_text s.primitive.kind s.primitive.layout (primitive_line s.primitive) s.primitive.size
    (is_long s.primitive.kind s.primitive.size) s.kept.has_put_line s.kept x y refl in
    let t =
    join-new s.primitive.with_text s.primitive.kind s.primitive.layout (primitive_line s.primitive) s.primitive.size
    (is_long s.primitive.kind s.primitive.size) s.kept.has_put_line s.kept x y refl in (
      ap (λ (n : ℕ). with_kept s n (kept_contents_after (value_text_after s x) y)) l
          ∙ ap (with_kept s (s.left - length (x ++ y))) k,
      sym (new_by-new s (x ++ y)) ∙ t
          ∙ ap (λ (r : List ℕ). r
          ++ new_by s.primitive.with_text s.primitive.kind s.primitive.layout (primitive_line s.primitive) s.primitive.size
          (is_long s.primitive.kind s.primitive.size) (kept_contents_after s x).has_put_line (kept_contents_after s x)
          y)
          (new_by-new s x)
          ∙ ap (λ (r : List ℕ). contents_lines s x ++ r) (new_by-new (value_text_after s x) y),
    )

-- the octets in rows, with the first contents octet of a BIT STRING by itself
first-full : (u : ℕ) (rest : List ℕ) (b : Bool)
    → full_rows Bits [] (if b then rest else u ∷ rest) ≡ full_rows Bits (if b then [] else u ∷ []) rest
first-full u rest true = refl
first-full u rest false = refl

first-open_row : (u : ℕ) (rest : List ℕ) (b : Bool)
    → open_row Bits [] (if b then rest else u ∷ rest) ≡ open_row Bits (if b then [] else u ∷ []) rest
first-open_row u rest true = refl
first-open_row u rest false = refl

-- the value of long contents, whose size is said apart
abbrev long_by : Kind → ℕ → List ℕ → Value
long_by kind size octets = record {
  on_line = Written (long_text kind size octets);
  rows = rows_of kind (row_octets kind octets);
}

abbrev begin_kept : Kind → KeptContents
begin_kept kind = record { has_put_line = has_line kind []; row_count = 0; row = [] }

module _ (with_text : Bool) (layout : Layout) (line : List ℕ → List ℕ) (size : ℕ) where
  abbrev begun_at : Kind → Bool → List ℕ
  begun_at kind long = if long then (if has_line kind [] then line [] else []) else []

  abbrev open_from : Kind → Bool → List ℕ → List ℕ
  open_from kind long octets =
      if long && has_line kind octets
      then line (long_text kind size octets) ++ row_lines with_text kind layout 0 (full_rows kind [] (row_octets kind octets))
      else []

  -- as the definition says it, from all rows that are known
  abbrev known_at : Kind → Bool → List ℕ → List ℕ
  known_at kind long octets =
      if long && has_line kind octets
      then line (long_text kind size octets)
      ++ shown_row_lines_with with_text kind layout (full_rows kind [] (row_octets kind octets))
      else []

  known-open : (kind : Kind) (long : Bool) (octets : List ℕ) → known_at kind long octets ≡ open_from kind long octets
  known-open kind long octets =
      ap (λ (t : List ℕ). if long && has_line kind octets then line (long_text kind size octets) ++ t else [])
      (sym (row_lines-all with_text kind layout (full_rows kind [] (row_octets kind octets))))

  abbrev OpenIsNew : Kind → Bool → List ℕ → Type 0
  OpenIsNew kind long octets =
      open_from kind long octets
      ≡ begun_at kind long ++ new_by with_text kind layout line size long (has_line kind []) (begin_kept kind) octets

  open-new : (kind : Kind) (long : Bool) (octets : List ℕ) → OpenIsNew kind long octets
  open-new kind false octets = refl
  open-new Octets true octets = refl
  open-new Boolean true octets = refl
  open-new Integer true octets = refl
  open-new Object true octets = refl
  open-new Relative true octets = refl
  open-new Text true octets = refl
  open-new Utf8 true octets = refl
  open-new Ucs2 true octets = refl
  open-new Ucs4 true octets = refl
  open-new Bits true [] = refl
  open-new Bits true (u ∷ octets) =
      ap (λ (t : List (List ℕ)). line (long_text Bits size (u ∷ [])) ++ row_lines with_text Bits layout 0 t)
      (first-full u octets (nat_le u 7))

  abbrev whole_at : NameOf → Kind → Bool → List ℕ → List ℕ
  whole_at name_of kind long octets =
      line (on_line_text_with with_text (if long then long_by kind size octets else short_value name_of kind octets).on_line)
      ++ shown_row_lines_with with_text kind layout
      (if long then long_by kind size octets else short_value name_of kind octets).rows

  abbrev ended_at : NameOf → Kind → Bool → KeptContents → List ℕ
  ended_at name_of kind long k =
      if long then row_lines with_text kind layout k.row_count (last_rows k.row)
      else line (on_line_text_with with_text (short_value name_of kind k.row).on_line)
      ++ shown_row_lines_with with_text kind layout (short_value name_of kind k.row).rows

  abbrev WholeIsEnded : NameOf → Kind → Bool → List ℕ → Type 0
  WholeIsEnded name_of kind long octets =
      whole_at name_of kind long octets
      ≡ open_from kind long octets
      ++ ended_at name_of kind long
      (kept_by with_text kind layout line size long (has_line kind []) (begin_kept kind) octets)

  last-after : (kind : Kind) (first octets : List ℕ)
      → first ++ shown_row_lines_with with_text kind layout (rows_of kind octets)
      ≡ (first ++ row_lines with_text kind layout 0 (full_rows kind [] octets))
      ++ row_lines with_text kind layout (0 + length (full_rows kind [] octets)) (last_rows (open_row kind [] octets))
  last-after kind first octets =
      let full = full_rows kind [] octets in
      let last = last_rows (open_row kind [] octets) in
      ap (λ (t : List ℕ). first ++ t) (sym (row_lines-all with_text kind layout (rows_of kind octets)))
      ∙ ap (λ (rows : List (List ℕ)). first ++ row_lines with_text kind layout 0 rows) (rows-parts kind octets)
      ∙ ap (λ (t : List ℕ). first ++ t) (row_lines-append with_text kind layout 0 full last)
      ∙ sym (append_assoc first (row_lines with_text kind layout 0 full) (row_lines with_text kind layout (0 + length full) last))

  whole-ended : (name_of : NameOf) (kind : Kind) (long : Bool) (octets : List ℕ) → (long ≡ true → 1 ≤ length octets)
      → WholeIsEnded name_of kind long octets
  whole-ended name_of kind false octets some = refl
  whole-ended name_of Octets true octets some = last-after Octets (line []) octets
  whole-ended name_of Boolean true octets some = last-after Boolean (line []) octets
  whole-ended name_of Integer true octets some = last-after Integer (line []) octets
  whole-ended name_of Object true octets some = last-after Object (line []) octets
  whole-ended name_of Relative true octets some = last-after Relative (line []) octets
  whole-ended name_of Text true octets some = last-after Text (line []) octets
  whole-ended name_of Utf8 true octets some = last-after Utf8 (line []) octets
  whole-ended name_of Ucs2 true octets some = last-after Ucs2 (line []) octets
  whole-ended name_of Ucs4 true octets some = last-after Ucs4 (line []) octets
  whole-ended name_of Bits true [] some = absurd (let h = some refl in omega arith)
  whole-ended name_of Bits true (u ∷ octets) some =
      let f = first-full u octets (nat_le u 7) in
      let o = first-open_row u octets (nat_le u 7) in
      last-after Bits (line (long_text Bits size (u ∷ []))) (row_octets Bits (u ∷ octets))
      ∙ ap (λ (t : List (List ℕ)).
      (line (long_text Bits size (u ∷ []))
      ++ row_lines with_text Bits layout 0 (full_rows Bits [] (row_octets Bits (u ∷ octets))))
      ++ row_lines with_text Bits layout (0 + length t) (last_rows (open_row Bits [] (row_octets Bits (u ∷ octets)))))
      f
      ∙ ap (λ (t : List ℕ).
      (line (long_text Bits size (u ∷ []))
      ++ row_lines with_text Bits layout 0 (full_rows Bits [] (row_octets Bits (u ∷ octets))))
      ++ row_lines with_text Bits layout (0 + length (full_rows Bits (row_octets Bits (u ∷ [])) octets)) (last_rows t))
      o

abbrev line_for : Bool → HeaderValue → Layout → List ℕ → List ℕ
line_for with_text h layout = primitive_line (new_primitive with_text h layout)

-- all that is known of a primitive that is still open was written
pub open-lines : (with_text : Bool) (h : HeaderValue) (layout : Layout) (octets : List ℕ)
    → incomplete_lines_with with_text h layout octets
    ≡ begin_lines (new_value_text_with with_text h layout) ++ contents_lines (new_value_text_with with_text h layout) octets
open-lines with_text h layout octets =
    known-open with_text layout (line_for with_text h layout) (size_of h.size) (kind_of h.class h.number)
    (is_long (kind_of h.class h.number) (size_of h.size)) octets
    ∙ open-new with_text layout (line_for with_text h layout) (size_of h.size) (kind_of h.class h.number)
    (is_long (kind_of h.class h.number) (size_of h.size)) octets
    ∙ ap (λ (t : List ℕ). begin_lines (new_value_text_with with_text h layout) ++ t) (new_by-new (new_value_text_with with_text h layout) octets)

-- with no octets a primitive that begins has no lines more, and is kept as it is

new-nothing_at : (with_text : Bool) (kind : Kind) (layout : Layout) (line : List ℕ → List ℕ) (size : ℕ) (long has_put_line : Bool)
    → new_by with_text kind layout line size long has_put_line (begin_kept kind) [] ≡ []
new-nothing_at with_text kind layout line size false has_put_line = refl
new-nothing_at with_text kind layout line size true true =
    ap (λ (rows : List (List ℕ)). row_lines with_text kind layout 0 (full_rows_in kind rows)) (rows-filled kind [])
new-nothing_at with_text kind layout line size true false = refl

pub new-nothing : (with_text : Bool) (h : HeaderValue) (layout : Layout) → contents_lines (new_value_text_with with_text h layout) [] ≡ []
new-nothing with_text h layout =
    let s : ValueTextState = new_value_text_with with_text h layout in
    sym (new_by-new s [])
    ∙ new-nothing_at s.primitive.with_text s.primitive.kind s.primitive.layout (primitive_line s.primitive) s.primitive.size
    (is_long s.primitive.kind s.primitive.size) s.kept.has_put_line

after-nothing_at : (with_text : Bool) (kind : Kind) (layout : Layout) (line : List ℕ → List ℕ) (size : ℕ) (long has_put_line : Bool)
    → has_put_line ≡ has_line kind []
    → kept_by with_text kind layout line size long has_put_line (begin_kept kind) [] ≡ begin_kept kind
after-nothing_at with_text kind layout line size false has_put_line e = refl
after-nothing_at with_text kind layout line size true true e =
    ap (λ (rows : List (List ℕ)). kept_with (0 + length (full_rows_in kind rows)) (open_row_in kind rows))
    (rows-filled kind [])
    ∙ ap (λ (b : Bool). record { has_put_line = b; row_count = 0; row = [] }) e
after-nothing_at with_text kind layout line size true false e = refl

pub after-nothing : (with_text : Bool) (h : HeaderValue) (layout : Layout)
    → value_text_after (new_value_text_with with_text h layout) [] ≡ new_value_text_with with_text h layout
after-nothing with_text h layout =
    let s : ValueTextState = new_value_text_with with_text h layout in
    let l : s.left - 0 ≡ s.left = omega arith in
    ap (λ (n : ℕ). with_kept s n (kept_contents_after s [])) l
    ∙ ap (with_kept s s.left)
    (after-nothing_at s.primitive.with_text s.primitive.kind s.primitive.layout (primitive_line s.primitive) s.primitive.size
    (is_long s.primitive.kind s.primitive.size) s.kept.has_put_line refl)

pub lines-begin : LinesBegin
lines-begin with_text h layout = (
  open-lines with_text h layout [] ∙ ap (λ (t : List ℕ). begin_lines (new_value_text_with with_text h layout) ++ t) (new-nothing with_text h layout)
      ∙ append-nil (begin_lines (new_value_text_with with_text h layout)),
  after-nothing with_text h layout,
)

pub lines-go_on : LinesGoOn
lines-go_on with_text h layout octets x =
    open-lines with_text h layout (octets ++ x)
    ∙ ap (λ (t : List ℕ). begin_lines (new_value_text_with with_text h layout) ++ t) (pieces-join (new_value_text_with with_text h layout) octets x).1
    ∙ sym (append_assoc (begin_lines (new_value_text_with with_text h layout)) (contents_lines (new_value_text_with with_text h layout) octets)
    (contents_lines (value_text_for with_text h layout octets) x))
    ∙ ap (λ (t : List ℕ). t ++ contents_lines (value_text_for with_text h layout octets) x) (sym (open-lines with_text h layout octets))

long-some : (kind : Kind) (n size : ℕ) → n ≡ size → is_long kind size ≡ true → 1 ≤ n
long-some kind n size e h = grind (arith, nat_tests)

abbrev whole_by : Bool → Layout → (List ℕ → List ℕ) → NameOf → Kind → ℕ → List ℕ → List ℕ
whole_by with_text layout line name_of kind n octets =
    line
    (on_line_text_with with_text
    (if is_long kind n then long_by kind n octets else short_value name_of kind octets).on_line)
    ++ shown_row_lines_with with_text kind layout
    (if is_long kind n then long_by kind n octets else short_value name_of kind octets).rows

pub lines-end : LinesEnd
lines-end with_text name_of h layout octets e =
    let kind : Kind = kind_of h.class h.number in
    let w =
    whole-ended with_text layout (line_for with_text h layout) (size_of h.size) name_of kind (is_long kind (size_of h.size)) octets
    (long-some kind (length octets) (size_of h.size) (sym e)) in
    let k =
    known-open with_text layout (line_for with_text h layout) (size_of h.size) kind (is_long kind (size_of h.size))
    octets in
    ap (λ (n : ℕ). whole_by with_text layout (line_for with_text h layout) name_of kind n octets) (sym e)
    ∙ w
    ∙ ap (λ (t : List ℕ). t ++ end_lines name_of (value_text_for with_text h layout octets)) (sym k)

-- a primitive written with its header, its contents and its end has the lines of the whole
pub whole-new : (with_text : Bool) (name_of : NameOf) (h : HeaderValue) (layout : Layout) (c : List ℕ) → HasAllContents h c
    → begin_lines (new_value_text_with with_text h layout)
    ++ (contents_lines (new_value_text_with with_text h layout) c
    ++ end_lines name_of (value_text_after (new_value_text_with with_text h layout) c))
    ≡ whole_lines_with with_text name_of h layout c
whole-new with_text name_of h layout c e =
    let t : ValueTextState = new_value_text_with with_text h layout in
    sym (append_assoc (begin_lines t) (contents_lines t c) (end_lines name_of (value_text_after t c)))
    ∙ ap (λ (l : List ℕ). l ++ end_lines name_of (value_text_after t c)) (sym (open-lines with_text h layout c))
    ∙ sym (lines-end with_text name_of h layout c e)

-- so has a long one: its line, and its rows
pub new-long : (name_of : NameOf) (p : Primitive) (c : List ℕ) → is_long p.kind p.size ≡ true → length c ≡ p.size
    → primitive_line p (long_text p.kind p.size c)
    ++ shown_row_lines_with p.with_text p.kind p.layout (rows_of p.kind (row_octets p.kind c))
    ≡ lines_in_steps name_of (new_value_text_of p) c
new-long name_of p c long e =
    let s : ValueTextState = new_value_text_of p in
    let w =
    whole-ended p.with_text p.layout (primitive_line p) p.size name_of p.kind (is_long p.kind p.size) c
    (long-some p.kind (length c) p.size e) in
    let o = open-new p.with_text p.layout (primitive_line p) p.size p.kind (is_long p.kind p.size) c in
    ap (λ (b : Bool). whole_at p.with_text p.layout (primitive_line p) p.size name_of p.kind b c) (sym long)
    ∙ w
    ∙ ap (λ (t : List ℕ). t ++ end_lines name_of (value_text_after s c))
    (o ∙ ap (λ (t : List ℕ). begin_lines s ++ t) (new_by-new s c))
    ∙ append_assoc (begin_lines s) (contents_lines s c) (end_lines name_of (value_text_after s c))

-- one with its value on its line is written with its end
pub new-short : (name_of : NameOf) (p : Primitive) (c : List ℕ) → is_long p.kind p.size ≡ false
    → primitive_lines name_of p c ≡ lines_in_steps name_of (new_value_text_of p) c
new-short name_of p c short = rw short refl

pub shown-new : (with_text : Bool) (name_of : NameOf) (h : HeaderValue) (layout : Layout) (p : Primitive) (c : List ℕ)
    → p ≡ new_primitive with_text h layout → is_long (kind_of h.class h.number) (size_of h.size) ≡ false
    → HasAllContents h c → primitive_lines name_of p c ≡ whole_lines_with with_text name_of h layout c
shown-new with_text name_of h layout p c is short e =
    ap (λ (q : Primitive). primitive_lines name_of q c) is
    ∙ new-short name_of (new_primitive with_text h layout) c short
    ∙ whole-new with_text name_of h layout c e
