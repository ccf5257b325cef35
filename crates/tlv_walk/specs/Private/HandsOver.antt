-- How a walker continues a header, octet by octet.
use Rattle.std.specs.Prelude.{◌≡◌, ◌⊎◌, ℕ, true, List, [], ◌∷◌}
use Rattle.tlv_head.specs.Header.{HeaderValue}
use Rattle.tlv_head.specs.HeadReader.{HeadReaderState, Completes}
use Rattle.tlv_walk.specs.declared.event.Step.{Step}
use Rattle.tlv_walk.specs.WalkerState.{Between, InHeader, WalkerState}
use Rattle.tlv_walk.specs.Events.{EventValue}
use Rattle.tlv_head.specs.Lists.{is_among}
use Rattle.tlv_walk.specs.Private.Yields.{Continues, YieldsStep}

-- a reader of the header that begins where the walker is
pub record BeginsAt (w : WalkerState) (r : HeadReaderState) : Type 0 where
  pub phase : w.phase ≡ Between
  pub none : r.octets ≡ []
  pub offset : r.offset ≡ w.offset
  pub named : r.named ≡ is_among w.offset w.framing.inside

-- the walker after its reader r is taken out of it, or after it begins a header with r
abbrev pub HandsOver : WalkerState → WalkerState → HeadReaderState → Type 0
HandsOver old new r =
    ((old.phase ≡ InHeader r) × (new ≡ record old { phase = Between }))
    ⊎ (BeginsAt old r × (new ≡ record old { has_element = true }))

-- the result of a step, in terms of the walker that handed its reader r over and became `old`
abbrev pub YieldsFrom : WalkerState → HeadReaderState → WalkerState → List ℕ → List ℕ → Step → Type 0
YieldsFrom old r new piece rest result = (w : WalkerState) → HandsOver w old r → YieldsStep w new piece rest result

-- the result of taking a whole header, in terms of the walker that handed its reader over and became `old`
abbrev pub YieldsHeader : WalkerState → WalkerState → HeaderValue → EventValue → Type 0
YieldsHeader old new h e = (w : WalkerState) (r : HeadReaderState) (t : List ℕ) → HandsOver w old r
    → Completes r t h → Continues w new t (e ∷ [])
