-- Laws of the texts of a dump and of a check.
use Rattle.std.specs.Prelude.{◌≡◌, ℕ, ◌≤◌, List, [], ◌∷◌, ◌++◌, length, None, Bool, true, false, flat_map}
use Rattle.std.specs.FinMap as finite
use Rattle.std.specs.List.{filter}
use Rattle.tlv_show.specs.Items.{Item, FindingAt, OpeningLine, ClosingLine, PrimitiveLines}
use Rattle.tlv_show.specs.Items.{OpenPrimitiveLines, PaddingLine, items}
use Rattle.tlv_show.specs.Site.{Site, top_site}
use Rattle.tlv_show.specs.declared.rules.Rules.TheVariants.{Ber}
use Rattle.tlv_show.specs.ShowJob.{top_layout}
use Rattle.tlv_show.specs.WantedJobs.{check_job_with, dump_job_with, wanted_in}
use Rattle.tlv_show.specs.FinderState.{new_check}
use Rattle.tlv_show.specs.Texts.{check_line, finding_count, layout_at}
use Rattle.tlv_show.specs.CheckStep.{check_step}
use Rattle.tlv_show.specs.DumpStep.{new_dump_with}
use Rattle.tlv_head.specs.Header.{HasAllContents, HeaderValue}
use Rattle.tlv_value.specs.Names.{NamesValue}
use Rattle.tlv_value.specs.TextBeside.{whole_lines_with}
use Rattle.tlv_walk.specs.Events.{Begin, Bytes, End, events}
use Rattle.tlv_walk.specs.Follow.{effect_of, effect_with}
use Rattle.tlv_walk.specs.Forest.{Forest}
use Rattle.tlv_walk.specs.Job.{Job}
use Rattle.tlv_walk.specs.Reading.{IsPrefixOf, IsReading}
use Rattle.tlv_walk.specs.declared.framing.Framing.{Framing}
use Rattle.tlv_show.specs.declared.options.Options.{Options}
use Rattle.tlv_show.specs.declared.rules.Rules.{Rules}
use Rattle.tlv_show.specs.declared.scope.Scope.{Scope}
use Rattle.tlv_show.specs.declared.wanted.Wanted.{Wanted}
use Rattle.tlv_walk.specs.declared.follow.Go.TheVariants.{On}
use Rattle.tlv_show.specs.declared.finding_lines.Style.TheVariants.{Dump}
use Rattle.tlv_show.specs.FindingLines.{styled_lines}
use Rattle.tlv_show.specs.DumpStep.{DumpState, dump_step, finding_lines, level_in}
use Rattle.tlv_show.specs.FinderState.{CheckState, finder_begin_step, finder_bytes_step, finder_end_step, is_misplaced}
use Rattle.tlv_show.specs.ListedFindings.{rules_have, listed_findings}
use Rattle.tlv_show.specs.ShownFindings.{all_by, contents_findings, is_listed, listed_by, wanted_findings}
use Rattle.tlv_show.specs.ShownFindings.{with_order_if}
use Rattle.tlv_head.specs.Limits.{input_limit}

-- the text of a longer input, of at most 2^40 octets, begins with the text of the shorter input
abbrev pub TextGoesOn : {A : Type 0} → Job A → Type 0
TextGoesOn job =
    (b c : List ℕ) (f g : Forest) → length (b ++ c) ≤ input_limit
    → IsReading job.framing b f → IsReading job.framing (b ++ c) g
    → IsPrefixOf (job.text f) (job.text g)

-- the text of a dump goes on, with text beside pairs of digits and without it
abbrev pub DumpsGoOn : Type 0
DumpsGoOn =
    (scope : Scope) (with_text : Bool) (options : Options) (names : NamesValue)
    → TextGoesOn (dump_job_with scope with_text options names)

-- the text of a check goes on
abbrev pub ChecksGoOn : Type 0
ChecksGoOn = (wanted : Wanted) (framing : Framing) → TextGoesOn (check_job_with wanted framing)

-- what is kept after a primitive
abbrev pub whole_primitive : CheckState → HeaderValue → List ℕ → CheckState
whole_primitive s h c = (finder_end_step (finder_bytes_step (finder_begin_step s h).kept c)).kept

-- the lines of the findings on the contents of a primitive
abbrev pub contents_finding_lines : DumpState → HeaderValue → List ℕ → List ℕ
contents_finding_lines s h c =
    styled_lines (Dump s.lines.layout.pure) (level_in s) h.offset
    (with_order_if (is_misplaced s.finder.wanted (whole_primitive s.finder h c).seen)
    (contents_findings s.finder.wanted h c))

-- a primitive with as many contents octets as its header announces has the lines of its whole contents, between the
-- lines of findings of its header and of findings on its contents. Nothing of it is kept
abbrev pub PrimitivesAreShown : Type 0
PrimitivesAreShown =
    (s : DumpState) (h : HeaderValue) (c : List ℕ) → HasAllContents h c
    → (shown : DumpState)
    × (shown.lines.open_text ≡ None)
    × (shown.finder.open_primitive ≡ None)
    × (effect_of dump_step s (Begin h ∷ Bytes c ∷ End ∷ [])
    ≡ effect_with shown
    (finding_lines s (finder_begin_step s.finder h)
    ++ (whole_lines_with s.lines.with_text (finite.get s.lines.names) h (layout_at s.lines.layout (level_in s)) c
    ++ contents_finding_lines s h c)))

-- a `Dump` puts the text of the reading of an input of at most 2^40 octets, counts its findings, and always wants more
abbrev pub DumpsMakeTexts : Type 0
DumpsMakeTexts =
    (scope : Scope) (with_text : Bool) (options : Options) (names : NamesValue) (b : List ℕ) (f : Forest)
    → length b ≤ input_limit → IsReading options.framing b f
    → let made =
    effect_of dump_step (new_dump_with with_text (wanted_in scope options) (top_layout options) names) (events f) in
    (made.put ≡ (dump_job_with scope with_text options names).text f)
    × (made.state.finder.finding_count ≡ finding_count (wanted_findings (wanted_in scope options)) f)
    × (made.goes ≡ On)

-- a `Check` puts the text of the check of such a reading, counts its findings, and always wants more
abbrev pub ChecksMakeTexts : Type 0
ChecksMakeTexts =
    (wanted : Wanted) (framing : Framing) (b : List ℕ) (f : Forest) → length b ≤ input_limit → IsReading framing b f
    → let made = effect_of check_step (new_check wanted) (events f) in
    (made.put ≡ (check_job_with wanted framing).text f)
    × (made.state.finding_count ≡ finding_count (wanted_findings wanted) f)
    × (made.goes ≡ On)

-- a finding of BER
abbrev pub is_basic : Item → Bool
is_basic (FindingAt depth offset finding) = rules_have Ber finding
is_basic (OpeningLine depth h) = false
is_basic (ClosingLine depth offset) = false
is_basic (PrimitiveLines depth h c) = false
is_basic (OpenPrimitiveLines depth h c) = false
is_basic (PaddingLine depth offset) = false

-- what a check lists under BER is what it lists under other rules, without the findings that these rules add
abbrev pub BasicFindingsStay : Type 0
BasicFindingsStay =
    (scope : Scope) (rules : Rules) (framing : Framing) (f : Forest)
    → (check_job_with (record { rules = Ber; scope = scope }) framing).text f
    ≡ flat_map check_line
    (filter is_basic (items (wanted_findings (record { rules = rules; scope = scope })) top_site f))

-- a listed finding, or no finding
abbrev pub is_listed_item : Item → Bool
is_listed_item (FindingAt depth offset finding) = is_listed finding
is_listed_item (OpeningLine depth h) = true
is_listed_item (ClosingLine depth offset) = true
is_listed_item (PrimitiveLines depth h c) = true
is_listed_item (OpenPrimitiveLines depth h c) = true
is_listed_item (PaddingLine depth offset) = true

-- what is reported with the listed findings is what is reported if all are wanted, without the other findings; and it
-- is what is reported if the listed ones are wanted
abbrev pub ListedItemsStay : Type 0
ListedItemsStay =
    (rules : Rules) (s : Site) (f : Forest)
    → (items (listed_findings rules) s f ≡ filter is_listed_item (items (wanted_findings (all_by rules)) s f))
    × (items (wanted_findings (listed_by rules)) s f ≡ items (listed_findings rules) s f)
