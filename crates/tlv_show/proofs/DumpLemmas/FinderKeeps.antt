-- What a finder keeps for the lines of a dump: whether a primitive is open, and the number of open holders.
use Rattle.std.proofs.Common.{◌≡◌, ◌-◌, ℕ, Bool, List, [], ◌∷◌, length, refl, ap, arith, ◌∙◌}
use Rattle.std.specs.Option.{is_some}
use Rattle.std.specs.Prelude.{Option, Some, None}
use Rattle.tlv_show.specs.declared.holder_frame.HolderFrame.{HolderFrame}
use Rattle.tlv_show.specs.DumpStep.{DumpState}
use Rattle.tlv_head.specs.Header.{HeaderValue}
use Rattle.tlv_show.specs.FinderState.{CheckState, OpenPrimitiveState, finder_begin_step, finder_bytes_step}
use Rattle.tlv_show.specs.FinderState.{finder_close_step, finder_end_step}
use Rattle.tlv_show.specs.FinderState.{finder_frame_end_step, finder_primitive_end_step, open_primitive_after}
use Rattle.tlv_show.specs.NestingState.{depth_in}
use Rattle.tlv_show.proofs.FindingLemmas.CheckLaws.{one-or-more}
use Rattle.tlv_show.specs.Private.FinderState.{finder_whole_step}
use Rattle.tlv_show.specs.Private.KeptLines.{KeptLines, lines_if}

-- a dump with these lines, and with what its finder keeps
abbrev pub dump_with : KeptLines → CheckState → DumpState
dump_with k f = record { lines = lines_if (is_some f.open_primitive) k; finder = f }

-- contents octets leave a primitive open, and open none
still-open : (v : Option OpenPrimitiveState) (octets : List ℕ) → is_some (open_primitive_after v octets) ≡ is_some v
still-open None octets = refl
still-open (Some v) octets = refl

pub open-after_bytes : (s : CheckState) (octets : List ℕ)
    → is_some (finder_bytes_step s octets).open_primitive ≡ is_some s.open_primitive
open-after_bytes s [] = refl
open-after_bytes s (x ∷ octets) =
    rw (one-or-more x octets) (still-open s.open_primitive (x ∷ octets))

-- none is open after an end
ended : (s : CheckState) (v : Option OpenPrimitiveState) → s.open_primitive ≡ v
    → (finder_primitive_end_step s v).kept.open_primitive ≡ None
ended s None e = e
ended s (Some v) e = refl

pub none-after_end : (s : CheckState) → (finder_end_step s).kept.open_primitive ≡ None
none-after_end s = ended s s.open_primitive refl

-- a primitive leaves the number of open holders as it is
same-level-ended : (s : CheckState) (v : Option OpenPrimitiveState)
    → depth_in (finder_primitive_end_step s v).kept.holders ≡ depth_in s.holders
same-level-ended s None = refl
same-level-ended s (Some v) = refl

same-level-after_bytes : (s : CheckState) (octets : List ℕ)
    → depth_in (finder_bytes_step s octets).holders ≡ depth_in s.holders
same-level-after_bytes s [] = refl
same-level-after_bytes s (x ∷ octets) = rw (one-or-more x octets) refl

pub same-level : (s : CheckState) (h : HeaderValue) (c : List ℕ)
    → depth_in (finder_whole_step s h c).kept.holders ≡ depth_in s.holders
same-level s h c =
    let t : CheckState = (finder_begin_step s h).kept in
    let u : CheckState = finder_bytes_step t c in
    same-level-ended u u.open_primitive ∙ same-level-after_bytes t c

-- with the end of a holder one fewer is open
closed-level : (s : CheckState) (has_end_octets : Bool) (outer : List HolderFrame) → s.holders.outer ≡ outer
    → depth_in (finder_frame_end_step s has_end_octets outer).kept.holders ≡ length outer - 1
closed-level s has_end_octets [] e = ap length e
closed-level s has_end_octets (w ∷ outer) e = rw e (omega arith)

pub level-after_close : (s : CheckState) (has_end_octets : Bool)
    → depth_in (finder_close_step s has_end_octets).kept.holders ≡ depth_in s.holders - 1
level-after_close s has_end_octets = closed-level s has_end_octets s.holders.outer refl
