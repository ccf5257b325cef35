-- What a `Finder` returns.
use Rattle.std.specs.Prelude.{ℕ, ◌≡◌, Bool, true, false, if◌then◌else◌, List, []}
use Rattle.tlv_head.specs.Header.{HeaderValue}
use Rattle.tlv_show.specs.declared.wanted.Wanted.{Wanted}
use Rattle.tlv_show.specs.FinderState.{CheckState, FinderState, new_check, without_findings}
use Rattle.tlv_show.specs.FinderState.{finder_begin_step, finder_bytes_step, finder_end_step}

-- a finder before its first event
abbrev pub new_finder : Wanted → FinderState
new_finder wanted = without_findings (new_check wanted)

-- only what is kept changes
abbrev pub with_check_state : CheckState → FinderState → FinderState
with_check_state s f = record f { kept = s }

-- a finder returns whether there may be findings with an event: if so, it says what they are; if not, there are none
abbrev pub ReturnsFindings : FinderState → FinderState → Bool → Type 0
ReturnsFindings f new true = new ≡ f
ReturnsFindings f new false = (new.kept ≡ f.kept) × (f.findings ≡ [])

-- the findings, if the finder says that there may be findings
abbrev pub with_findings_if : Bool → FinderState → FinderState
with_findings_if may_have_findings f = if may_have_findings then f else without_findings f.kept

-- all of a primitive: its header, its contents and its end. The result has the findings of its end
abbrev pub finder_whole_step : CheckState → HeaderValue → List ℕ → FinderState
finder_whole_step s h c = finder_end_step (finder_bytes_step (finder_begin_step s h).kept c)

-- a primitive has no findings, and what is kept is what is kept after its end
pub record PassesPrimitive (old new : FinderState) (h : HeaderValue) (c : List ℕ) : Type 0 where
  pub begins : (finder_begin_step old.kept h).findings ≡ []
  pub ends : (finder_whole_step old.kept h c).findings ≡ []
  pub kept : new ≡ with_check_state (finder_whole_step old.kept h c).kept old

-- a finder returns whether it took a primitive that has no findings; if not, nothing changes
abbrev pub PassesOrStays : FinderState → FinderState → HeaderValue → List ℕ → Bool → Type 0
PassesOrStays old new h c true = PassesPrimitive old new h c
PassesOrStays old new h c false = new ≡ old
