-- The reading of an input, and which inputs are sound.
use Rattle.std.specs.Prelude.{◌≡◌, ℕ, ◌<◌, ◌≤◌, true, false, List, ◌++◌, All, length}
use Rattle.tlv_head.specs.Limits.{depth_limit}
use Rattle.tlv_head.specs.declared.header.Size.TheVariants.{Definite}
use Rattle.tlv_head.specs.Header.{holds}
use Rattle.tlv_walk.specs.declared.framing.Framing.{Framing}
use Rattle.tlv_walk.specs.Forest.{Forest, Holder, NoMore, PaddingOctet, Primitive, holder_extent}
use Rattle.tlv_walk.specs.Forest.{has_element, primitive_extent, spelling}
use Rattle.tlv_walk.specs.Place.{HasItsLength, IsHeaderAt, ObeysGrammar, Place, place_after, place_of_children}
use Rattle.tlv_walk.specs.Place.{top_place}

-- octets, each below 256
abbrev pub AreOctets : List ℕ → Type 0
AreOctets b = All (λ x. x < 256) b

-- the first octets are a prefix of the second
abbrev pub IsPrefixOf : List ℕ → List ℕ → Type 0
IsPrefixOf begun octets = (rest : List ℕ) × (begun ++ rest ≡ octets)

-- the reading of an input: a forest that obeys the grammar and spells a prefix of it, the longest prefix that any
-- such forest spells. There is exactly one (the law `octets_have_one_reading`)
pub record IsReading (framing : Framing) (b : List ℕ) (f : Forest) : Type 0 where
  pub obeys_grammar : ObeysGrammar (top_place framing) f
  pub is_prefix : IsPrefixOf (spelling f) b
  pub longest : (g : Forest) → ObeysGrammar (top_place framing) g → IsPrefixOf (spelling g) b
      → length (spelling g) ≤ length (spelling f)

-- 8.1.1 to 8.1.5: nothing is open, each definite length is the length of the contents, and each holder is inside fewer
-- than `depth_limit` holders. Padding, which X.690 does not have, is at the top level only. A wrapper is a holder, so
-- it has to hold sound encodings, which X.690 does not ask for. No bound is asked for, and none is needed: by
-- `HasItsLength` all that a holder of definite length holds is together exactly as long as its header announces
abbrev pub IsSound : Place → Forest → Type 0
IsSound p NoMore = Unit {0}
IsSound p (PaddingOctet rest) = (p.padding ≡ true) × IsSound (place_after p 1) rest
IsSound p (Primitive h c rest) =
    (IsHeaderAt p h × (holds h ≡ false) × (h.size ≡ Definite (length c)))
    × IsSound (place_after p (primitive_extent h c)) rest
IsSound p (Holder h children rest) =
    (IsHeaderAt p h × (holds h ≡ true) × (p.depth < depth_limit) × HasItsLength h children)
    × IsSound (place_of_children p h) children × IsSound (place_after p (holder_extent h children)) rest
IsSound p _ = ⊥

-- the octets of one or more sound elements, with padding if the framing allows it
pub record IsSoundList (framing : Framing) (b : List ℕ) : Type 0 where
  pub forest : Forest
  pub sound : IsSound (top_place framing) forest
  pub some : has_element forest ≡ true
  pub spelled : spelling forest ≡ b

-- no input that begins with these octets is a sound list
abbrev pub CannotBecomeSound : Framing → List ℕ → Type 0
CannotBecomeSound framing begun = (rest : List ℕ) → IsSoundList framing (begun ++ rest) → ⊥
