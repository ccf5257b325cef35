-- What a dump makes of an event: what its lines and its finder make of it.
use Rattle.std.proofs.Common.{◌≡◌, ℕ, Bool, List, [], ◌∷◌, ◌++◌, refl, sym, ap, ◌∙◌}
use Rattle.std.specs.Prelude.{Err, IsErr, Ok, Result}
use Rattle.tlv_io.specs.declared.out.Out.{Out}
use Rattle.tlv_io.specs.Device.{DrainState}
use Rattle.tlv_io.specs.Out.{Puts}
use Rattle.tlv_io.proofs.Puts.{puts_failed, puts_text, puts_then}
use Rattle.tlv_walk.specs.declared.follow.Go.{Go}
use Rattle.tlv_walk.specs.declared.follow.Go.TheVariants as go
use Rattle.tlv_walk.specs.Events.{Begin, Bytes, Close, End, Enter, EventValue, Leave, Open, Pad, Unused}
use Rattle.tlv_walk.specs.Follow.{Effect, each_octet, effect_if_more, effect_of}
use Rattle.tlv_show.specs.LinesStep.{lines_octet_step, lines_padding_step}
use Rattle.tlv_show.specs.DumpStep.{DumpState, dump_octet_step, dump_padding_step, dump_step, finding_lines, level_in}
use Rattle.tlv_show.specs.FinderState.{CheckState, FinderState, finder_bytes_step}
use Rattle.tlv_show.specs.FindingLines.{last_finding_lines}
use Rattle.tlv_show.specs.Private.FinderState.{ReturnsFindings, with_findings_if}
use Rattle.tlv_show.specs.declared.finding_lines.Style.{Style}
use Rattle.tlv_show.specs.declared.finding_lines.Style.TheVariants.{Dump}
use Rattle.tlv_show.proofs.FindingLemmas.CheckLaws.{found-join, last-same}

-- octet by octet, and at once
pub each-shown : (s : DumpState) (octets : List ℕ)
    → each_octet dump_octet_step s octets
    ≡ record {
      state = record {
        lines = (each_octet lines_octet_step s.lines octets).state;
        finder = finder_bytes_step s.finder octets;
      };
      put = (each_octet lines_octet_step s.lines octets).put;
      goes = go.On;
    }
each-shown s [] = refl
each-shown s (x ∷ octets) =
    let d = lines_octet_step s.lines x in
    let u : DumpState = record { lines = d.state; finder = finder_bytes_step s.finder (x ∷ []) } in
    ap (λ (k : Effect DumpState). record { state = k.state; put = d.put ++ k.put; goes = k.goes }) (each-shown u octets)
    ∙ ap (λ (f : CheckState). record {
      state = record { lines = (each_octet lines_octet_step d.state octets).state; finder = f };
      put = d.put ++ (each_octet lines_octet_step d.state octets).put;
      goes = go.On;
    })
    (sym (found-join s.finder (x ∷ []) octets))

pub each-filled : (s : DumpState) (octets : List ℕ)
    → each_octet dump_padding_step s octets
    ≡ record {
      state = record { lines = (each_octet (lines_padding_step (level_in s)) s.lines octets).state; finder = s.finder };
      put = (each_octet (lines_padding_step (level_in s)) s.lines octets).put;
      goes = go.On;
    }
each-filled s [] = refl
each-filled s (x ∷ octets) =
    let d = lines_padding_step (level_in s) s.lines x in
    ap (λ (k : Effect DumpState). record { state = k.state; put = d.put ++ k.put; goes = k.goes })
    (each-filled (record { lines = d.state; finder = s.finder }) octets)

pub one_on : (s : DumpState) (e : EventValue) → (dump_step s e).goes ≡ go.On
one_on s (Open h) = refl
one_on s (Begin h) = refl
one_on s (Bytes octets) = ap (λ (t : Effect DumpState). t.goes) (each-shown s octets)
one_on s End = refl
one_on s (Close offset) = refl
one_on s (Enter h) = refl
one_on s Unused = refl
one_on s Leave = refl
one_on s (Pad octets) = ap (λ (t : Effect DumpState). t.goes) (each-filled s octets)

-- a dump always wants more
pub all_on : (s : DumpState) (es : List EventValue) → (effect_of dump_step s es).goes ≡ go.On
all_on s [] = refl
all_on s (e ∷ es) =
    ap (λ (g : Go). (effect_if_more g (dump_step s e) (λ u. effect_of dump_step u es)).goes) (one_on s e)
    ∙ all_on (dump_step s e).state es

-- ---- findings are put before the lines, or after them

module _ {D : Type 0} (taken : D → DrainState) (s : DumpState) (f last : FinderState) (may_have_findings : Bool)
    (style : Style) where
  lines-last : style ≡ Dump s.lines.layout.pure → ReturnsFindings f last may_have_findings
      → last_finding_lines style (with_findings_if may_have_findings last) ≡ finding_lines s f
  lines-last is says =
      ap (λ (y : Style). last_finding_lines y (with_findings_if may_have_findings last)) is
      ∙ last-same (Dump s.lines.layout.pure) f last may_have_findings says

  module _ {T U E : Type 0} where
    pub found_failed : (a b : Out D) (put : List ℕ) (e : E) (r : Result U E) → style ≡ Dump s.lines.layout.pure
        → ReturnsFindings f last may_have_findings
        → Puts {T = T} {E = E} taken a b (last_finding_lines style (with_findings_if may_have_findings last)) (Err e)
        → IsErr r → Puts taken a b (finding_lines s f ++ put) r
    found_failed a b put e r is says failed err =
        puts_failed taken a b _ put e r (puts_text taken a b _ _ (Err e) (lines-last is says) failed) err

    pub found_before : (a b c : Out D) (put : List ℕ) (x : T) (r : Result U E) → style ≡ Dump s.lines.layout.pure
        → ReturnsFindings f last may_have_findings
        → Puts {T = T} {E = E} taken a b (last_finding_lines style (with_findings_if may_have_findings last)) (Ok x)
        → Puts taken b c put r → Puts taken a c (finding_lines s f ++ put) r
    found_before a b c put x r is says found lines =
        puts_then taken a b c _ put x r (puts_text taken a b _ _ (Ok x) (lines-last is says) found) lines

    pub found_after : (a b c : Out D) (put : List ℕ) (x : T) (r : Result U E) → style ≡ Dump s.lines.layout.pure
        → ReturnsFindings f last may_have_findings
        → Puts {T = T} {E = E} taken a b put (Ok x)
        → Puts taken b c (last_finding_lines style (with_findings_if may_have_findings last)) r
        → Puts taken a c (put ++ finding_lines s f) r
    found_after a b c put x r is says lines found =
        puts_then taken a b c put _ x r lines (puts_text taken b c _ _ r (lines-last is says) found)
