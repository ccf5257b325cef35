-- What a frame says of the elements around, after each element.
use Rattle.std.proofs.Common.{◌≡◌, ℕ, ◌&&◌, ◌||◌, ◌==◌, not, Bool, true, false, if◌then◌else◌, List, [], ◌∷◌, refl, sym}
use Rattle.std.proofs.Common.{subst, ap, ap₂, ◌∙◌}
use Rattle.std.proofs.lemmas.Bool.{eqb-true}
use Rattle.std.specs.Prelude.{Option, None, eqb, Some}
use Rattle.tlv_head.specs.Header.{HeaderValue, announced_length, is_universal}
use Rattle.tlv_value.specs.ValueCheckState.{begins_nonzero, has_unused_bits, value_check_after, value_check_for}
use Rattle.tlv_value.specs.ValueCheckState.{new_value_check_of, type_number}
use Rattle.tlv_head.specs.UniversalTypes.{bit_string, external, octet_string}
use Rattle.tlv_value.specs.Types.{has_segments, is_a, has_primitive_form}
use Rattle.tlv_value.proofs.CheckLemmas.CheckPieces.{checked-none}
use Rattle.tlv_walk.specs.Forest.{Forest, NoMore, PaddingOctet, Primitive}
use Rattle.tlv_show.specs.declared.holder_frame.HolderFrame.{HolderFrame}
use Rattle.tlv_show.specs.Conditions.{leaves_unused_bits, is_not_full}
use Rattle.tlv_show.specs.AllConditions.{has_components}
use Rattle.tlv_show.specs.KeptConditions.{Surroundings}
use Rattle.tlv_show.specs.NestingState.{frame_after, frame_after_segment, frame_of, frame_under, top_frame}
use Rattle.tlv_show.specs.NestingState.{surroundings_in}
use Rattle.tlv_show.specs.Site.{Site, in_bit_string, in_string, site_of_children}
use Rattle.tlv_show.proofs.FindingLemmas.SiteWords.{is_held_by, site_after_padding}
use Rattle.tlv_show.proofs.FindingLemmas.HeaderFindings.{Knows}

abbrev surroundings_with : Bool → Bool → Bool → Bool → Bool → Bool → Surroundings
surroundings_with a b c d e f = record {
  in_string = a;
  in_bit_string = b;
  after_unused_bits = c;
  after_not_full = d;
  in_components = e;
  in_external = f;
}

-- what is around an element, by what holds it, and what is before it
abbrev around : Option HeaderValue → Forest → Surroundings
around holder previous =
    surroundings_with (is_held_by has_segments holder)
    (is_held_by (λ h. has_segments h && is_a bit_string h) holder)
    (is_held_by (λ h. has_segments h && is_a bit_string h) holder && leaves_unused_bits previous)
    (is_held_by has_segments holder && is_not_full previous)
    (is_held_by has_components holder)
    (is_held_by (λ h. has_components h && is_a external h) holder)

-- outside of strings: what is before it does not matter
no-string : (h : HeaderValue) (previous : Forest) → has_segments h ≡ false
    → around (Some h) previous
    ≡ surroundings_with false false false false (has_components h) (has_components h && is_a external h)
no-string h previous e =
    ap (λ (k : Bool). surroundings_with k (k && is_a bit_string h)
    ((k && is_a bit_string h) && leaves_unused_bits previous)
    (k && is_not_full previous)
    (has_components h) (has_components h && is_a external h))
    e

no-components : (h : HeaderValue) → has_components h ≡ false
    → surroundings_with false false false false (has_components h) (has_components h && is_a external h)
    ≡ surroundings_in top_frame
no-components h e =
    ap (λ (k : Bool). surroundings_with false false false false k (k && is_a external h)) e

around-any : (holder : Option HeaderValue) (p q : Forest) → is_held_by has_segments holder ≡ false
    → around holder p ≡ around holder q
around-any None p q e = refl
around-any (Some h) p q e = no-string h p e ∙ sym (no-string h q e)

in-its-own : (k b m x : Bool)
    → surroundings_with k (k && (k && b)) ((k && (k && b)) && false) (k && false) m x
    ≡ surroundings_with k (k && b) ((k && b) && false) (k && false) m x
in-its-own true b m x = refl
in-its-own false b m x = refl

pub knows-inside : (w : HolderFrame) (s : Site) (h : HeaderValue) → Knows (frame_under w h) (site_of_children s h)
knows-inside w s h = by (w.has_segments || w.has_components) (has_segments h) (has_components h) refl refl
  where
    of-frame : Knows (frame_of h) (site_of_children s h)
    of-frame =
        in-its-own (has_segments h) (is_a bit_string h) (has_components h) (has_components h && is_a external h)

    by : (outside string components : Bool) → has_segments h ≡ string → has_components h ≡ components
        → Knows (if outside || string || components then frame_of h else top_frame) (site_of_children s h)
    by true string components e f = of-frame
    by false true components e f = of-frame
    by false false true e f = of-frame
    by false false false e f = sym (no-string h NoMore e ∙ no-components h f)

-- after an element
unused-at : (k : Bool) (n size x : ℕ) (c : List ℕ) → eqb n bit_string ≡ k
    → has_unused_bits (value_check_after (new_value_check_of n size) (x ∷ c)) ≡ (k && not (x == 0))
unused-at true n size x c e =
    subst (λ (m : ℕ). has_unused_bits (value_check_after (new_value_check_of m size) (x ∷ c)) ≡ not (x == 0))
    (sym (eqb-true n bit_string e)) refl
unused-at false n size x c e =
    ap (λ (k : Bool). k && begins_nonzero (value_check_after (new_value_check_of n size) (x ∷ c)).first_octets) e

type-is : (universal : Bool) (n : ℕ)
    → eqb (if universal then n else octet_string) bit_string ≡ (universal && n == bit_string)
type-is true n = refl
type-is false n = refl

pub unused-of : (h : HeaderValue) (c : List ℕ)
    → has_unused_bits (value_check_for h c) ≡ leaves_unused_bits (Primitive h c NoMore)
unused-of h [] = ap has_unused_bits (checked-none h) ∙ by-none (eqb (type_number h) bit_string)
  where
    by-none : (a : Bool) → (a && false) ≡ false
    by-none true = refl
    by-none false = refl
unused-of h (x ∷ c) =
    let t : eqb (type_number h) bit_string ≡ is_a bit_string h = type-is (is_universal h.class) h.number in
    unused-at (is_a bit_string h) (type_number h) (announced_length h.size) x c t

-- a primitive, by its form and its length
pub full-of : (h : HeaderValue) (c : List ℕ) → h.constructed ≡ false
    → not (has_primitive_form h && announced_length h.size == 1000) ≡ is_not_full (Primitive h c NoMore)
full-of h c e = ap (λ (k : Bool). not (not k && announced_length h.size == 1000)) e

surroundings_with-eq : (a a' b b' c c' d d' e e' f f' : Bool) → a ≡ a' → b ≡ b' → c ≡ c' → d ≡ d' → e ≡ e'
    → f ≡ f' → surroundings_with a b c d e f ≡ surroundings_with a' b' c' d' e' f'
surroundings_with-eq a a' b b' c c' d d' e e' f f' p q r s t u = rw (p, q, r, s, t, u) refl

pub knows-after : (w : HolderFrame) (s t : Site) (h : HeaderValue) (unused_bits : Bool)
    → Knows w s → t.holder ≡ s.holder → unused_bits ≡ leaves_unused_bits t.previous
    → not (has_primitive_form h && announced_length h.size == 1000) ≡ is_not_full t.previous
    → Knows (frame_after w (has_primitive_form h) (announced_length h.size) unused_bits) t
knows-after w s t h unused_bits k e u full = by-segments w.has_segments refl
  where
    same : surroundings_in w ≡ around t.holder s.previous
    same = k ∙ ap (λ (o : Option HeaderValue). around o s.previous) (sym e)

    segments : w.has_segments ≡ in_string t
    segments = ap (λ (x : Surroundings). x.in_string) same

    bits : (w.has_segments && w.is_bit_string) ≡ in_bit_string t
    bits = ap (λ (x : Surroundings). x.in_bit_string) same

    by-segments : (b : Bool) → w.has_segments ≡ b
        → Knows (if b then frame_after_segment w (has_primitive_form h) (announced_length h.size) unused_bits else w) t
    by-segments true c =
        surroundings_with-eq _ _ _ _ _ _ _ _ _ _ _ _ segments bits
        (ap₂ (λ (x y : Bool). x && y) bits u)
        (ap₂ (λ (x y : Bool). x && y) segments full)
        (ap (λ (x : Surroundings). x.in_components) same)
        (ap (λ (x : Surroundings). x.in_external) same)
    by-segments false c =
        same ∙ around-any t.holder s.previous t.previous (sym segments ∙ c)

pub knows-padding : (w : HolderFrame) (s : Site) → Knows w s → s.holder ≡ None → Knows w (site_after_padding s)
knows-padding w s k e =
    k ∙ ap (λ (o : Option HeaderValue). around o s.previous) e
    ∙ sym (ap (λ (o : Option HeaderValue). around o (PaddingOctet NoMore)) e)
