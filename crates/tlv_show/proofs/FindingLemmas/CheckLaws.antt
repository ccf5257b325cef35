-- Contents in pieces are checked as contents at once.
use Rattle.std.proofs.Common.{◌≡◌, ◌-◌, ◌==◌, Bool, true, false, ℕ, List, [], ◌∷◌, ◌++◌, length, take, refl, sym, ap}
use Rattle.std.proofs.Common.{◌∙◌, ap₂, arith, append-nil, if◌then◌else◌}
use Rattle.std.proofs.lemmas.Bool.Decides.{nat_tests}
use Rattle.std.specs.Prelude.{Option, Some, None, Result, Ok, Err, OnOk}
use Rattle.tlv_value.specs.ValueCheckState.{ValueCheckState, value_check_after}
use Rattle.tlv_value.proofs.CheckLemmas.CheckPieces.{checks-join}
use Rattle.tlv_walk.specs.declared.follow.Go.TheVariants as go
use Rattle.tlv_walk.specs.Events.{Begin, Bytes, Close, End, Enter, EventValue, Leave, Open, Pad, Unused}
use Rattle.tlv_io.proofs.Puts.{puts_text}
use Rattle.tlv_io.specs.declared.drain.WriteFault.{WriteFault}
use Rattle.tlv_io.specs.declared.out.Out.{Out}
use Rattle.tlv_io.specs.Device.{DrainState}
use Rattle.tlv_io.specs.Out.{Puts}
use Rattle.tlv_walk.specs.Follow.{Effect, HasEffect, each_octet, no_effect}
use Rattle.tlv_show.specs.declared.finding_lines.Style.{Style}
use Rattle.tlv_show.specs.declared.finding_lines.Style.TheVariants.{Check}
use Rattle.tlv_show.specs.CheckStep.{check_octet_step, check_step, findings_effect}
use Rattle.tlv_show.specs.FindingLines.{last_finding_lines, styled_lines}
use Rattle.tlv_show.specs.FinderState.{CheckState, FinderState, OpenPrimitiveState, finder_bytes_step}
use Rattle.tlv_show.specs.FinderState.{open_primitive_after, seen_after}
use Rattle.tlv_show.specs.declared.wanted.Wanted.{Wanted}
use Rattle.tlv_show.specs.declared.segment_frame.SegmentFrame.{SegmentFrame}
use Rattle.tlv_show.specs.FinderState.{SeenState}
use Rattle.tlv_show.specs.SegmentCharactersState.{segments_after_octets}
use Rattle.tlv_show.specs.SetOrderState.{SetOrderState, set_order_octets_step}
use Rattle.tlv_show.specs.ShownFindings.{wants_characters}
use Rattle.tlv_show.proofs.SegmentLemmas.Frames.{all-after-append}
use Rattle.tlv_show.specs.ShownFindings.{wants_order}
use Rattle.tlv_show.proofs.SetOrderLemmas.OneElement.{octets_step-append}
use Rattle.tlv_show.specs.Private.FinderState.{ReturnsFindings, with_findings_if}
use Rattle.tlv_show.proofs.FindingLemmas.FinderStep.{finder_step}
use Rattle.tlv_show.proofs.DumpLemmas.OctetPieces.{take-both}

primitive-join : (v : Option OpenPrimitiveState) (x y : List ℕ)
    → open_primitive_after (open_primitive_after v x) y ≡ open_primitive_after v (x ++ y)
primitive-join None x y = refl
primitive-join (Some v) x y =
    ap (λ (t : ValueCheckState). Some (record v { check = t }))
    (checks-join v.check (take v.check.left x) (take (v.check.left - length (take v.check.left x)) y)
    ∙ ap (value_check_after v.check) (sym (take-both v.check.left x y)))

seen-join : (wanted : Wanted) (v : Option OpenPrimitiveState) (o : SeenState) (x y : List ℕ)
    → seen_after wanted v o (x ++ y) ≡ seen_after wanted (open_primitive_after v x) (seen_after wanted v o x) y
seen-join wanted None o x y = refl
seen-join wanted (Some v) o x y =
    ap₂ (λ (a : SetOrderState) (l : List SegmentFrame). record { order = a; strings = l })
    (by-order (wants_order wanted)) (by-strings (wants_characters wanted))
  where
    by-order : (k : Bool)
        → (if k then set_order_octets_step o.order (x ++ y) else o.order)
        ≡ (if k
        then set_order_octets_step (if k then set_order_octets_step o.order x else o.order) y
        else (if k then set_order_octets_step o.order x else o.order))
    by-order true = octets_step-append o.order x y
    by-order false = refl

    by-strings : (k : Bool)
        → (if k then segments_after_octets (x ++ y) o.strings else o.strings)
        ≡ (if k
        then segments_after_octets y (if k then segments_after_octets x o.strings else o.strings)
        else (if k then segments_after_octets x o.strings else o.strings))
    by-strings true = sym (all-after-append x y o.strings)
    by-strings false = refl

pub one-or-more : (x : ℕ) (octets : List ℕ) → (length (x ∷ octets) == 0) ≡ false
one-or-more x octets = grind (arith, nat_tests)

pub found-join : (s : CheckState) (x y : List ℕ)
    → finder_bytes_step s (x ++ y) ≡ finder_bytes_step (finder_bytes_step s x) y
found-join s [] y = refl
found-join s (a ∷ x) [] = ap (λ (l : List ℕ). finder_bytes_step s (a ∷ l)) (append-nil x)
found-join s (a ∷ x) (b ∷ y) =
    rw (one-or-more a (x ++ b ∷ y), one-or-more a x, one-or-more b y)
    (ap₂ (λ (v : Option OpenPrimitiveState) (o : SeenState). record s { open_primitive = v; seen = o })
    (sym (primitive-join s.open_primitive (a ∷ x) (b ∷ y)))
    (seen-join s.wanted s.open_primitive s.seen (a ∷ x) (b ∷ y)))

-- octet by octet
pub each-found : (s : CheckState) (octets : List ℕ)
    → each_octet check_octet_step s octets ≡ no_effect (finder_bytes_step s octets)
each-found s [] = refl
each-found s (x ∷ octets) =
    each-found (finder_bytes_step s (x ∷ [])) octets
    ∙ ap (λ (u : CheckState). no_effect u) (sym (found-join s (x ∷ []) octets))

-- an event is what the finder makes of it, listed
pub step-is : (s : CheckState) (e : EventValue) → check_step s e ≡ findings_effect (finder_step s e)
step-is s (Open h) = refl
step-is s (Begin h) = refl
step-is s (Bytes octets) = each-found s octets
step-is s End = refl
step-is s (Close offset) = refl
step-is s (Enter h) = refl
step-is s Unused = refl
step-is s Leave = refl
step-is s (Pad octets) = refl

-- what was reported, if anything was, is all that there is
pub last-same : (style : Style) (f v : FinderState) (may_have_findings : Bool) → ReturnsFindings f v may_have_findings
    → last_finding_lines style (with_findings_if may_have_findings v) ≡ last_finding_lines style f
last-same style f v true e = ap (last_finding_lines style) e
last-same style f v false e = sym (ap (styled_lines style f.level f.offset) e.1)

pub last-state : (f v : FinderState) (may_have_findings : Bool) → ReturnsFindings f v may_have_findings
    → v.kept ≡ f.kept
last-state f v true e = ap (λ (u : FinderState). u.kept) e
last-state f v false e = e.0

stays : {T E P : Type 0} (r : Result T E) → P → OnOk r P
stays (Ok x) p = p
stays (Err e) p = tt

-- what was found and put is the effect of what the finder makes of an event
pub lists : {T D : Type 0} (state_of : D → DrainState) (a b : Out D) (f v : FinderState) (may_have_findings : Bool)
    (r : Result T WriteFault) → ReturnsFindings f v may_have_findings
    → Puts state_of a b (last_finding_lines Check (with_findings_if may_have_findings v)) r
    → HasEffect state_of (findings_effect f) a b v.kept r
lists state_of a b f v may_have_findings r says puts = record {
  puts = puts_text state_of a b _ _ r (last-same Check f v may_have_findings says) puts;
  state = stays r (last-state f v may_have_findings says);
}

-- a check always wants more
pub one_on : (s : CheckState) (e : EventValue) → go.On ≡ (check_step s e).goes
one_on s e = sym (ap (λ (k : Effect CheckState). k.goes) (step-is s e))
