-- The lines of a dump are printable ASCII.
use Rattle.std.proofs.Common.{◌<◌, inl, inr, ℕ, ◌+◌, ◌*◌, ◌&&◌, Bool, true, false}
use Rattle.std.proofs.Common.{List, [], ◌∷◌, ◌++◌, Option, Some, None, refl, subst, sym, take}
use Rattle.std.specs.Prelude.{codes, decimal, flat_map, if◌then◌else◌, length, map, nat_lt}
use Rattle.std.specs.FinMap as finite
use Rattle.std.specs.List.{All}
use Rattle.std.specs.Io.KnownBytes.{Consumes}
use Rattle.std.proofs.lemmas.Bool.{cases_Bool}
use Rattle.std.proofs.lemmas.List.Elements.{All-append, All-cons, All-map, All-nil, All-take}
use Rattle.tlv_head.specs.Limits.{input_limit}
use Rattle.tlv_head.specs.Header.{HeaderValue, announced_length, octets_of}
use Rattle.tlv_head.specs.Tag.{tag_text}
use Rattle.tlv_head.specs.declared.header.Size.{Size}
use Rattle.tlv_head.specs.declared.header.Size.TheVariants.{Definite, Indefinite}
use Rattle.tlv_io.specs.Device.{octets_given}
use Rattle.tlv_walk.specs.Forest.{end_octets_offset}
use Rattle.tlv_walk.specs.Forest.{Forest, end_octets, opening, spelling}
use Rattle.tlv_walk.specs.Forest.{Holder, NoMore, OpenBitString, OpenEndOctets, OpenHeader, OpenHolder, OpenPrimitive}
use Rattle.tlv_walk.specs.Forest.{PaddingOctet, Primitive}
use Rattle.tlv_walk.specs.Reading.{AreOctets}
use Rattle.tlv_value.specs.declared.finding.Finding.{Finding}
use Rattle.tlv_head.specs.declared.kind.Kind.{Kind}
use Rattle.tlv_value.specs.declared.layout.Layout.{Layout}
use Rattle.tlv_value.specs.Finding.{finding_code, finding_text}
use Rattle.tlv_value.specs.Layout.{blank_columns, columns, inner_line, line, margin, shown_rows, spaces}
use Rattle.tlv_value.specs.Value.{NameOf, Value, is_long, whole_value}
use Rattle.tlv_value.specs.TextBeside.{on_line_text_with, row_text_with}
use Rattle.tlv_value.specs.ValueLines.{has_line, header_kind}
use Rattle.tlv_value.specs.TextBeside.{incomplete_lines_with, shown_row_lines_with}
use Rattle.tlv_value.specs.TextBeside.{value_lines_with, whole_lines_with}
use Rattle.tlv_show.specs.ShowJob.{top_layout}
use Rattle.tlv_show.specs.HolderLines.{closing_line, opening_line, opening_word, padding_line, size_text}
use Rattle.tlv_show.specs.Items.{ClosingLine, FindingAt, Item, OpenPrimitiveLines, OpeningLine, PaddingLine}
use Rattle.tlv_show.specs.Items.{PrimitiveLines, finding_items, items}
use Rattle.tlv_show.proofs.FindingLemmas.SiteWords.{contents_items, end_items, header_items, site_after_holder}
use Rattle.tlv_show.proofs.FindingLemmas.SiteWords.{site_after_padding, site_after_primitive}
use Rattle.tlv_show.specs.ShownFindings.{held_findings, wanted_findings}
use Rattle.tlv_show.specs.SetOrder.{holder_element, primitive_element}
use Rattle.tlv_show.specs.ShownFindings.{all_by, contents_findings, header_findings, last_findings}
use Rattle.tlv_show.specs.Site.{Site, is_padding, site_of_children, top_site}
use Rattle.tlv_show.specs.FindingLines.{dump_finding_line}
use Rattle.tlv_show.specs.Texts.{layout_at}
use Rattle.tlv_show.specs.WantedJobs.{item_text_with}
use Rattle.tlv_show.specs.declared.wanted.Wanted.{Wanted}
use Rattle.tlv_open.specs.Laws.{opened_framing}
use Rattle.tlv_view_program.specs.Views.{dump_options}
use Rattle.tlv_reasons.specs.Laws.{AreShown}
use Rattle.tlv_reasons.proofs.ShownLemmas.ShownValues.{decimal-shown}
use Rattle.tlv_view_program.specs.ShownLines.{DumpsAreShown}
use Rattle.tlv_view_program.proofs.ShownLemmas.ShownLabels.{joined-shown}
use Rattle.tlv_view_program.proofs.ShownLemmas.ShownFindings.{wording-shown}
use Rattle.tlv_view_program.proofs.ShownLemmas.ShownReasons.{sends-shown}
use Rattle.tlv_view_program.proofs.ShownLemmas.ShownText.{columns-shown, flat-shown, left-octets, right-octets}
use Rattle.tlv_view_program.proofs.ShownLemmas.ShownText.{spaces-shown, tag-shown}
use Rattle.tlv_view_program.proofs.ShownLemmas.ShownValues.{AreShownNames, IsShownValue, incomplete-shown, row-shown}
use Rattle.tlv_view_program.proofs.ShownLemmas.ShownValues.{whole-shown}

-- ---- lines

first-shown : (pure : Bool) (first : List ℕ) → AreShown first → AreShown (if pure then [] else first)
first-shown true first shown = refl
first-shown false first shown = shown

margin-shown : (layout : Layout) (first : List ℕ) → AreShown first → AreShown (margin layout first)
margin-shown layout first shown =
    joined-shown (if layout.pure then [] else first) (spaces (2 * layout.level)) (first-shown layout.pure first shown)
    (spaces-shown (2 * layout.level))

line-shown : (layout : Layout) (first text : List ℕ) → AreShown first → AreShown text
    → AreShown (line layout first text)
line-shown layout first text f t =
    joined-shown (margin layout first ++ text) (10 ∷ [])
    (joined-shown (margin layout first) text (margin-shown layout first f) t) refl

inner-shown : (layout : Layout) (text : List ℕ) → AreShown text → AreShown (inner_line layout text)
inner-shown layout text t = line-shown (record layout { level = layout.level + 1 }) blank_columns text refl t

limited-shown : (limit : Option ℕ) (texts : List (List ℕ)) → All AreShown texts → All AreShown (shown_rows limit texts)
limited-shown None texts all = all
limited-shown (Some limit) texts all = elim (cases_Bool (nat_lt limit (length texts))) [
  | inl more ↦
      rw more
      (All-append AreShown (take limit texts) (codes "..." ∷ []) (All-take AreShown limit texts all)
      (All-cons AreShown (codes "...") [] refl (All-nil AreShown)))
  | inr no_more ↦ rw no_more all
]

rows-shown : (with_text : Bool) (k : Kind) (layout : Layout) (rows : List (List ℕ))
    → All (λ (row : List ℕ). AreOctets row) rows → AreShown (shown_row_lines_with with_text k layout rows)
rows-shown with_text k layout rows all =
    let texts : List (List ℕ) = map (row_text_with with_text k) rows in
    let shown : All AreShown texts =
    All-map AreShown (row_text_with with_text k) rows (λ i other less. row-shown with_text k _ (all i other less)) in
    flat-shown (inner_line layout) AreShown (shown_rows layout.limit texts) (inner-shown layout)
    (limited-shown layout.limit texts shown)

value-shown : (with_text : Bool) (h : HeaderValue) (layout : Layout) (v : Value) → IsShownValue v
    → AreShown (value_lines_with with_text h layout v)
value-shown with_text h layout v shown =
    let size : List ℕ = decimal (announced_length h.size) in
    let value_text : List ℕ = on_line_text_with with_text v.on_line in
    let text : List ℕ = tag_text h.class h.number ++ value_text in
    joined-shown (line layout (columns h.offset size) text) (shown_row_lines_with with_text (header_kind h) layout v.rows)
    (line-shown layout (columns h.offset size) text
    (columns-shown h.offset size (decimal-shown (announced_length h.size)))
    (joined-shown (tag_text h.class h.number) value_text (tag-shown h.class h.number) (shown.text with_text)))
    (rows-shown with_text (header_kind h) layout v.rows shown.rows)

whole_lines-shown : (with_text : Bool) (name_of : NameOf) (h : HeaderValue) (layout : Layout) (c : List ℕ)
    → AreShownNames name_of → AreOctets c → AreShown (whole_lines_with with_text name_of h layout c)
whole_lines-shown with_text name_of h layout c names o =
    value-shown with_text h layout (whole_value name_of (header_kind h) c)
    (whole-shown name_of (header_kind h) c names o)

incomplete_lines-shown : (with_text : Bool) (h : HeaderValue) (layout : Layout) (c : List ℕ) → AreOctets c
    → AreShown (incomplete_lines_with with_text h layout c)
incomplete_lines-shown with_text h layout c o =
    elim (cases_Bool (is_long (header_kind h) (announced_length h.size) && has_line (header_kind h) c)) [
      | inl known ↦
          rw known
          (value-shown with_text h layout _ (incomplete-shown (header_kind h) (announced_length h.size) c o))
      | inr unknown ↦ rw unknown refl
    ]

size-shown : (size : Size) → AreShown (size_text size)
size-shown (Definite n) = decimal-shown n
size-shown Indefinite = refl

word-shown : (constructed : Bool) → AreShown (opening_word constructed)
word-shown true = refl
word-shown false = refl

opening-shown : (layout : Layout) (h : HeaderValue) → AreShown (opening_line layout h (opening_word h.constructed))
opening-shown layout h =
    line-shown layout (columns h.offset (size_text h.size))
    (tag_text h.class h.number ++ opening_word h.constructed)
    (columns-shown h.offset (size_text h.size) (size-shown h.size))
    (joined-shown (tag_text h.class h.number) (opening_word h.constructed) (tag-shown h.class h.number)
    (word-shown h.constructed))

closing-shown : (layout : Layout) (offset : Option ℕ) → AreShown (closing_line layout offset)
closing-shown layout None = line-shown layout blank_columns (codes "}") refl refl
closing-shown layout (Some offset) =
    line-shown layout (columns offset (codes "end")) (codes "}") (columns-shown offset (codes "end") refl) refl

padding-shown : (layout : Layout) (offset : ℕ) → AreShown (padding_line layout offset)
padding-shown layout offset =
    line-shown layout (columns offset (codes "pad")) (codes "padding")
    (columns-shown offset (codes "pad") refl) refl

finding_in-shown : (pure : Bool) (limit : Option ℕ) (level offset : ℕ) (f : Finding)
    → AreShown (dump_finding_line (record { level = level; limit = limit; pure = pure }) offset f)
finding_in-shown true limit level offset f = refl
finding_in-shown false limit level offset f =
    line-shown (record { level = level; limit = limit; pure = false }) (columns offset (finding_code f))
    (finding_text f)
    (columns-shown offset (finding_code f) (wording-shown f).0) (wording-shown f).1

-- ---- items

-- the contents of a primitive are octets
abbrev pub IsOfOctets : Item → Type 0
IsOfOctets (PrimitiveLines level h c) = AreOctets c
IsOfOctets (OpenPrimitiveLines level h c) = AreOctets c
IsOfOctets item = Unit {0}

item-shown : (with_text : Bool) (name_of : NameOf) (layout : Layout) (item : Item) → AreShownNames name_of
    → IsOfOctets item → AreShown (item_text_with with_text name_of layout item)
item-shown with_text name_of layout (FindingAt level offset f) names o =
    finding_in-shown layout.pure layout.limit level offset f
item-shown with_text name_of layout (OpeningLine level h) names o = opening-shown (layout_at layout level) h
item-shown with_text name_of layout (ClosingLine level offset) names o = closing-shown (layout_at layout level) offset
item-shown with_text name_of layout (PrimitiveLines level h c) names o =
    whole_lines-shown with_text name_of h (layout_at layout level) c names o
item-shown with_text name_of layout (OpenPrimitiveLines level h c) names o =
    incomplete_lines-shown with_text h (layout_at layout level) c o
item-shown with_text name_of layout (PaddingLine level offset) names o = padding-shown (layout_at layout level) offset

findings-of : (level offset : ℕ) (findings : List Finding) → All IsOfOctets (finding_items level offset findings)
findings-of level offset findings = All-map IsOfOctets (FindingAt level offset) findings (λ k d less. tt)

none-of : All IsOfOctets []
none-of = All-nil IsOfOctets

padding-of : (before : Bool) (level offset : ℕ) → All IsOfOctets (if before then [] else PaddingLine level offset ∷ [])
padding-of true level offset = none-of
padding-of false level offset = All-cons IsOfOctets (PaddingLine level offset) [] tt none-of

module _ (wanted : Wanted) where
  header-of : (s : Site) (h : HeaderValue) (more : List Item) → All IsOfOctets more
      → All IsOfOctets (header_items (wanted_findings wanted) s h ++ more)
  header-of s h more all =
      All-append IsOfOctets (header_items (wanted_findings wanted) s h) more
      (findings-of s.depth h.offset (header_findings wanted s h)) all

  items-of : (s : Site) (f : Forest) → AreOctets (spelling f) → All IsOfOctets (items (wanted_findings wanted) s f)
  items-of s (PaddingOctet rest) o =
      All-append IsOfOctets (if is_padding s.previous then [] else PaddingLine s.depth s.offset ∷ []) _
      (padding-of (is_padding s.previous) s.depth s.offset)
      (items-of (site_after_padding s) rest (right-octets (0 ∷ []) (spelling rest) o))
  items-of s (Primitive h c rest) o =
      let after : AreOctets (c ++ spelling rest) = right-octets (octets_of h) (c ++ spelling rest) o in
      header-of s h _
      (All-cons IsOfOctets (PrimitiveLines s.depth h c) _ (left-octets c (spelling rest) after)
      (All-append IsOfOctets (contents_items (wanted_findings wanted) s h c) _
      (findings-of s.depth h.offset (last_findings wanted s (primitive_element h c) (contents_findings wanted h c)))
      (items-of (site_after_primitive s h c) rest (right-octets c (spelling rest) after))))
  items-of s (Holder h children rest) o =
      let after : AreOctets (spelling children ++ (end_octets h.size ++ spelling rest)) =
      right-octets (opening h) (spelling children ++ (end_octets h.size ++ spelling rest)) o in
      header-of s h _
      (All-cons IsOfOctets (OpeningLine s.depth h) _ tt
      (All-append IsOfOctets (items (wanted_findings wanted) (site_of_children s h) children) _
      (items-of (site_of_children s h) children
      (left-octets (spelling children) (end_octets h.size ++ spelling rest) after))
      (All-cons IsOfOctets
      (ClosingLine s.depth (end_octets_offset h children)) _ tt
      (All-append IsOfOctets (end_items (wanted_findings wanted) s h children) _
      (findings-of s.depth h.offset
      (last_findings wanted s (holder_element h children) (held_findings wanted h children)))
      (items-of (site_after_holder s h children) rest
      (right-octets (end_octets h.size) (spelling rest)
      (right-octets (spelling children) (end_octets h.size ++ spelling rest) after)))))))
  items-of s (OpenPrimitive h c) o =
      header-of s h _
      (All-cons IsOfOctets (OpenPrimitiveLines s.depth h c) [] (right-octets (octets_of h) c o) none-of)
  items-of s (OpenHolder h children) o =
      header-of s h _
      (All-cons IsOfOctets (OpeningLine s.depth h) _ tt
      (items-of (site_of_children s h) children (right-octets (opening h) (spelling children) o)))
  items-of s (OpenBitString h) o =
      header-of s h _ (All-cons IsOfOctets (OpeningLine s.depth h) [] tt none-of)
  items-of s NoMore o = none-of
  items-of s (OpenHeader octets) o = none-of
  items-of s OpenEndOctets o = none-of

-- ---- views

given-octets : (octets given : List ℕ) (left : Option (List ℕ)) → AreOctets octets → Consumes (Some octets) left given
    → AreOctets given
given-octets octets given (Some rest) o is =
    left-octets given rest (subst (λ (l : List ℕ). AreOctets l) is o)
given-octets octets given None o is = absurd is

pub dumps-shown : DumpsAreShown
dumps-shown rules limit pure with_text closed padding table octets old new report o names x =
    let run = x.runs.runs in
    let layout : Layout = top_layout (dump_options rules limit pure (opened_framing padding x.offsets)) in
    let given : AreOctets (octets_given run.pieces) =
    given-octets octets (octets_given run.pieces) x.source.left o run.pieces.consumed in
    let read : AreOctets (take input_limit (octets_given run.pieces)) =
    All-take (λ (n : ℕ). n < 256) input_limit (octets_given run.pieces) given in
    let spelled : AreOctets (spelling run.reading) =
    left-octets (spelling run.reading) run.is_reading.is_prefix.0
    (subst (λ (l : List ℕ). AreOctets l) (sym run.is_reading.is_prefix.1) read) in
    sends-shown old new (flat_map (item_text_with with_text (finite.get table) layout) (items (wanted_findings (all_by rules)) top_site run.reading)) _
    (flat-shown (item_text_with with_text (finite.get table) layout) IsOfOctets (items (wanted_findings (all_by rules)) top_site run.reading)
    (λ item is. item-shown with_text (finite.get table) layout item names is)
    (items-of (all_by rules) top_site run.reading spelled)) run.sends
