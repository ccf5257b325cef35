-- What the lines of a dump come to, element by element.
use Rattle.std.proofs.Common.{◌≡◌, ℕ, ◌+◌, ◌-◌, ◌^◌, ◌≤◌, Bool, true, false, ◌==◌, if◌then◌else◌, List, [], ◌∷◌}
use Rattle.std.proofs.Common.{◌++◌, length, map, refl, sym, ap, ap₂, ◌∙◌, subst, arith, append_assoc, append-nil}
use Rattle.std.proofs.lemmas.Bool.{true≢false}
use Rattle.std.specs.FinMap as finite
use Rattle.std.specs.Prelude.{Some, None}
use Rattle.tlv_head.specs.declared.header.Size.{Size}
use Rattle.tlv_head.specs.declared.header.Size.TheVariants.{Definite, Indefinite}
use Rattle.tlv_head.specs.Header.{HasAllContents, HeaderValue, announced_length, octets_of}
use Rattle.tlv_head.specs.HeaderSoFar.{AllowsSize}
use Rattle.tlv_value.specs.declared.layout.Layout.{Layout}
use Rattle.tlv_value.specs.Names.{NamesValue}
use Rattle.tlv_value.specs.TextBeside.{incomplete_lines_with, whole_lines_with}
use Rattle.tlv_value.specs.ValueTextState.{ValueTextState, begin_lines, contents_lines, end_lines}
use Rattle.tlv_value.specs.ValueTextState.{new_value_text_with, value_text_after}
use Rattle.tlv_value.specs.Value.{NameOf}
use Rattle.tlv_value.proofs.TextLemmas.Pieces.{lines-end, open-lines}
use Rattle.tlv_walk.specs.Events.{Begin, Bytes, Close, End, Enter, Leave, Open, Pad, Unused, closing_event}
use Rattle.tlv_walk.specs.Events.{opening_events}
use Rattle.tlv_walk.proofs.GrammarLemmas.Leads.{end_offset}
use Rattle.tlv_walk.specs.Forest.{end_octets_offset}
use Rattle.tlv_walk.specs.Follow.{Effect, effect_if_more, effect_of, effect_with}
use Rattle.tlv_walk.specs.Forest.{Forest, NoMore, PaddingOctet, Primitive, Holder, OpenPrimitive, OpenHolder}
use Rattle.tlv_walk.specs.Forest.{OpenBitString, OpenHeader, OpenEndOctets, end_octets, holder_extent, lead, opening, spelling}
use Rattle.tlv_walk.proofs.GrammarLemmas.Leads.{lead_by}
use Rattle.tlv_walk.specs.Place.{ObeysGrammar, Place, place_after}
use Rattle.tlv_walk.proofs.GrammarLemmas.Spellings.{length-opening}
use Rattle.tlv_show.specs.LinesStep.{LinesState, lines_step, lines_after_header}
use Rattle.tlv_show.specs.HolderLines.{closing_line, opening_line, padding_line, opening_word}
use Rattle.tlv_show.specs.Texts.{layout_at}
use Rattle.tlv_show.proofs.DumpLemmas.OctetPieces.{after_put, dumped_bytes, rested-new}
use Rattle.tlv_show.specs.SaturatingSum.{saturating_sum}
use Rattle.std.proofs.lemmas.List.{take_all}
use Rattle.tlv_show.proofs.SaturatingSums.{sum-small}

-- ---- what is reported of a primitive

-- with the header, with the contents octets, and with the end
whole_shown : (with_text : Bool) (name_of : NameOf) (h : HeaderValue) (layout : Layout) (c : List ℕ) → HasAllContents h c
    → begin_lines (new_value_text_with with_text h layout)
    ++ (contents_lines (new_value_text_with with_text h layout) c
    ++ (end_lines name_of (value_text_after (new_value_text_with with_text h layout) c) ++ []))
    ≡ whole_lines_with with_text name_of h layout c
whole_shown with_text name_of h layout c e =
    let t : ValueTextState = new_value_text_with with_text h layout in
    ap (λ (l : List ℕ). begin_lines t ++ (contents_lines t c ++ l))
    (append-nil (end_lines name_of (value_text_after t c)))
    ∙ sym (append_assoc (begin_lines t) (contents_lines t c) (end_lines name_of (value_text_after t c)))
    ∙ ap (λ (l : List ℕ). l ++ end_lines name_of (value_text_after t c)) (sym (open-lines with_text h layout c))
    ∙ sym (lines-end with_text name_of h layout c e)

-- whatever went before
pub primitives_shown : (level : ℕ) (s : LinesState) (h : HeaderValue) (c : List ℕ) → HasAllContents h c
    → effect_of (lines_step level) s (Begin h ∷ Bytes c ∷ End ∷ [])
    ≡ effect_with
    (record (lines_after_header s h)
    { offset = saturating_sum (lines_after_header s h).offset (length c); open_text = None })
    (whole_lines_with s.with_text (finite.get s.names) h (layout_at s.layout level) c)
primitives_shown level s h c size =
    let t : ValueTextState = new_value_text_with s.with_text h (layout_at s.layout level) in
    let u : LinesState = record (lines_after_header s h) { open_text = Some t } in
    let lines_after : LinesState =
    record (lines_after_header s h)
    { offset = saturating_sum (lines_after_header s h).offset (length c); open_text = None } in
    let took = take_all (announced_length h.size) c (omega (arith, size)) in
    let none : announced_length h.size - length c ≡ 0 = omega (arith, size) in
    ap (λ (k : Effect LinesState). after_put (begin_lines t)
    (effect_if_more k.goes k (λ w. effect_of (lines_step level) w (End ∷ []))))
    (dumped_bytes u c (λ e. rested-new s.with_text h (layout_at s.layout level)))
    ∙ ap (λ (l : List ℕ). effect_with lines_after
    (begin_lines t
    ++ (contents_lines t l
    ++ ((if announced_length h.size - length l == 0
    then end_lines (finite.get s.names) (value_text_after t l) else [])
    ++ []))))
    took
    ∙ ap (λ (n : ℕ). effect_with lines_after
    (begin_lines t
    ++ (contents_lines t c
    ++ ((if n == 0 then end_lines (finite.get s.names) (value_text_after t c) else []) ++ []))))
    none
    ∙ ap (effect_with lines_after) (whole_shown s.with_text (finite.get s.names) h (layout_at s.layout level) c size)

-- of elements in this style, with these names, with text beside pairs of digits or without it
module _ (with_text : Bool) (style : Layout) (names : NamesValue) where
  -- a dump between two elements
  abbrev pub lines_between : ℕ → Bool → LinesState
  lines_between offset padded = record {
    layout = style;
    with_text = with_text;
    names = names;
    offset = offset;
    in_padding = padded;
    open_text = None;
  }

  -- a state between two elements, and what was put
  between-equal : (o n : ℕ) (k : Bool) (put put' : List ℕ) → o ≡ n → put ≡ put'
      → effect_with (lines_between o k) put ≡ effect_with (lines_between n k) put'
  between-equal o n k put put' e f =
      ap₂ (λ (o : ℕ) (put : List ℕ). effect_with (lines_between o k) put) e f

  -- ---- a primitive

  abbrev lines_in_primitive : ℕ → ℕ → Bool → HeaderValue → LinesState
  lines_in_primitive level offset padded h =
      record (lines_after_header (lines_between offset padded) h)
      { open_text = Some (new_value_text_with with_text h (layout_at style level)) }

  pub primitive_shown : (level offset : ℕ) (padded : Bool) (h : HeaderValue) (c : List ℕ) → h.offset ≡ offset
      → HasAllContents h c → offset + (length (octets_of h) + length c) ≤ 2 ^ 64 - 1
      → effect_of (lines_step level) (lines_between offset padded) (Begin h ∷ Bytes c ∷ End ∷ [])
      ≡ effect_with (lines_between (offset + (length (octets_of h) + length c)) false)
      (whole_lines_with with_text (finite.get names) h (layout_at style level) c)
  primitive_shown level offset padded h c there size far_enough =
      primitives_shown level (lines_between offset padded) h c size
      ∙ between-equal (saturating_sum (saturating_sum h.offset (length (octets_of h))) (length c))
      (offset + (length (octets_of h) + length c)) false
      _ (whole_lines_with with_text (finite.get names) h (layout_at style level) c)
      (omega (arith, there, far_enough)) refl

  pub part_shown : (level offset : ℕ) (padded : Bool) (h : HeaderValue) (c : List ℕ)
      → length c ≤ announced_length h.size
      → (effect_of (lines_step level) (lines_between offset padded) (Begin h ∷ Bytes c ∷ [])).put
      ≡ incomplete_lines_with with_text h (layout_at style level) c
  part_shown level offset padded h c size =
      let t : ValueTextState = new_value_text_with with_text h (layout_at style level) in
      ap
      (λ (k : Effect LinesState).
      (after_put (begin_lines t) (effect_if_more k.goes k (λ w. effect_of (lines_step level) w []))).put)
      (dumped_bytes (lines_in_primitive level offset padded h) c (λ e. rested-new with_text h (layout_at style level)))
      ∙ ap (λ (l : List ℕ). begin_lines t ++ (contents_lines t l ++ [])) (take_all (announced_length h.size) c size)
      ∙ ap (λ (l : List ℕ). begin_lines t ++ l) (append-nil (contents_lines t c))
      ∙ sym (open-lines with_text h (layout_at style level) c)

  -- ---- an element that holds others begins

  holder_by : (level offset : ℕ) (padded k three : Bool) (h : HeaderValue) → h.offset ≡ offset
      → offset + (length (octets_of h) + length (lead_by k three)) ≤ 2 ^ 64 - 1
      → effect_of (lines_step level) (lines_between offset padded)
      ((if k then Open h else Enter h) ∷ map (λ z. Unused) (lead_by k three))
      ≡ effect_with (lines_between (offset + (length (octets_of h) + length (lead_by k three))) false)
      (opening_line (layout_at style level) h (opening_word k))
  holder_by level offset padded true three h there far_enough =
      between-equal (saturating_sum h.offset (length (octets_of h)))
      (offset + (length (octets_of h) + 0)) false _ (opening_line (layout_at style level) h (opening_word true))
      (omega (arith, there, far_enough)) (append-nil (opening_line (layout_at style level) h (opening_word true)))
  holder_by level offset padded false true h there far_enough =
      between-equal (saturating_sum (saturating_sum h.offset (length (octets_of h))) 1)
      (offset + (length (octets_of h) + 1)) false _ (opening_line (layout_at style level) h (opening_word false))
      (omega (arith, there, far_enough)) (append-nil (opening_line (layout_at style level) h (opening_word false)))
  holder_by level offset padded false false h there far_enough =
      between-equal (saturating_sum h.offset (length (octets_of h)))
      (offset + (length (octets_of h) + 0)) false _ (opening_line (layout_at style level) h (opening_word false))
      (omega (arith, there, far_enough)) (append-nil (opening_line (layout_at style level) h (opening_word false)))

  pub holder_shown : (level offset : ℕ) (padded : Bool) (h : HeaderValue) → h.offset ≡ offset
      → offset + length (opening h) ≤ 2 ^ 64 - 1
      → effect_of (lines_step level) (lines_between offset padded) (opening_events h)
      ≡ effect_with (lines_between (offset + length (opening h)) false)
      (opening_line (layout_at style level) h (opening_word h.constructed))
  holder_shown level offset padded h there far_enough =
      holder_by level offset padded h.constructed (h.number == 3) h there
      (omega (arith, far_enough, length-opening h))
      ∙ between-equal (offset + (length (octets_of h) + length (lead h)))
      (offset + length (opening h)) false (opening_line (layout_at style level) h (opening_word h.constructed))
      (opening_line (layout_at style level) h (opening_word h.constructed))
      (omega (arith, length-opening h)) refl

  -- ---- and ends

  closer_by : (level o : ℕ) (k : Bool) (size : Size) → AllowsSize k size → o + length (end_octets size) ≤ 2 ^ 64 - 1
      → effect_of (lines_step level) (lines_between o false) ((if k then Close (end_offset size o) else Leave) ∷ [])
      ≡ effect_with (lines_between (o + length (end_octets size)) false)
      (closing_line (layout_at style level) (end_offset size o))
  closer_by level o true (Definite n) allowed far_enough =
      between-equal o (o + 0) false _ (closing_line (layout_at style level) None)
      (omega arith) (append-nil (closing_line (layout_at style level) None))
  closer_by level o true Indefinite allowed far_enough =
      between-equal (saturating_sum o 2) (o + 2) false
      _ (closing_line (layout_at style level) (Some o)) (omega (arith, far_enough))
      (append-nil (closing_line (layout_at style level) (Some o)))
  closer_by level o false (Definite n) allowed far_enough =
      between-equal o (o + 0) false _ (closing_line (layout_at style level) None)
      (omega arith) (append-nil (closing_line (layout_at style level) None))
  closer_by level o false Indefinite allowed far_enough = absurd (cc (allowed))

  pub closer_shown : (level o : ℕ) (h : HeaderValue) (inside : Forest)
      → h.offset + length (opening h) + length (spelling inside) ≡ o → AllowsSize h.constructed h.size
      → o + length (end_octets h.size) ≤ 2 ^ 64 - 1
      → effect_of (lines_step level) (lines_between o false) (closing_event h inside ∷ [])
      ≡ effect_with (lines_between (o + length (end_octets h.size)) false)
      (closing_line (layout_at style level) (end_octets_offset h inside))
  closer_shown level o h inside there allowed far_enough =
      subst
      (λ (n : ℕ). effect_of (lines_step level) (lines_between o false)
      ((if h.constructed then Close (end_offset h.size n) else Leave) ∷ [])
      ≡ effect_with (lines_between (o + length (end_octets h.size)) false)
      (closing_line (layout_at style level) (end_offset h.size n)))
      (sym there) (closer_by level o h.constructed h.size allowed far_enough)

  -- ---- elements

  -- whether padding is at their end
  abbrev pub ends_in_padding : Bool → Forest → Bool
  ends_in_padding padded NoMore = padded
  ends_in_padding padded (PaddingOctet rest) = ends_in_padding true rest
  ends_in_padding padded (Primitive h c rest) = ends_in_padding false rest
  ends_in_padding padded (Holder h inside rest) = ends_in_padding false rest
  ends_in_padding padded (OpenPrimitive h c) = false
  ends_in_padding padded (OpenHolder h inside) = false
  ends_in_padding padded (OpenBitString h) = false
  ends_in_padding padded (OpenHeader octets) = padded
  ends_in_padding padded OpenEndOctets = padded

  -- inside an element there is none
  pub no_padding : (p : Place) (f : Forest) → p.padding ≡ false → ObeysGrammar p f → ends_in_padding false f ≡ false
  no_padding p NoMore e v = refl
  no_padding p (PaddingOctet rest) e v = absurd (true≢false (sym v.0.0 ∙ e))
  no_padding p (Primitive h c rest) e v = no_padding (place_after p (length (octets_of h) + length c)) rest e v.1
  no_padding p (Holder h inside rest) e v = no_padding (place_after p (holder_extent h inside)) rest e v.2
  no_padding p (OpenPrimitive h c) e v = refl
  no_padding p (OpenHolder h inside) e v = refl
  no_padding p (OpenBitString h) e v = refl
  no_padding p (OpenHeader octets) e v = refl
  no_padding p OpenEndOctets e v = refl

  pub fill_shown : (level offset : ℕ) (padded : Bool) → offset + 1 ≤ 2 ^ 64 - 1
      → effect_of (lines_step level) (lines_between offset padded) (Pad (0 ∷ []) ∷ [])
      ≡ effect_with (lines_between (offset + 1) true)
      (if padded then [] else padding_line (layout_at style level) offset)
  fill_shown level offset padded far_enough =
      let line = if padded then [] else padding_line (layout_at style level) offset in
      between-equal (saturating_sum offset 1) (offset + 1) true ((line ++ []) ++ []) line
      (sum-small offset 1 far_enough) (append-nil (line ++ []) ∙ append-nil line)
