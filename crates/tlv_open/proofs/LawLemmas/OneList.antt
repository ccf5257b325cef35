-- An input has no second list of strings that are opened.
use Rattle.std.proofs.Common.{◌≡◌, ℕ, ◌+◌, Bool, List, ◌∷◌, ◌++◌, Some, refl, sym, ap₂, ◌∙◌, subst}
use Rattle.tlv_head.specs.Header.{HeaderValue}
use Rattle.tlv_walk.specs.Forest.{Forest}
use Rattle.tlv_walk.specs.Forest.{spelling}
use Rattle.tlv_walk.proofs.GrammarLemmas.Readings.{reading-unique, spelling-unique}
use Rattle.tlv_walk.proofs.GrammarLemmas.SoundElements.{sound-obeys_grammar}
use Rattle.tlv_open.specs.Held.{HoldsEncodings, place_by_itself}
use Rattle.tlv_open.specs.Opens.{AreOpened, Opens, Where, closed, closed_framing, holder, no_more, open_bit_string}
use Rattle.tlv_open.specs.Opens.{open_end_octets, open_header, open_holder, open_primitive, opened, padded}
use Rattle.tlv_open.specs.Opens.{where_at_top}
use Rattle.tlv_open.specs.Opens.{where_of_held}

-- a string holds one list of encodings
pub holds-one : (depth : ℕ) (h : HeaderValue) (contents : List ℕ) (f g : Forest) → HoldsEncodings depth h contents f
    → HoldsEncodings depth h contents g → f ≡ g
holds-one depth h contents f g a b =
    let spelled : Some (spelling f) ≡ Some (spelling g) = sym a.octets ∙ b.octets in
    let same : spelling f ≡ spelling g = cc (spelled) in
    spelling-unique (place_by_itself (depth + 1)) f g
    (sound-obeys_grammar (place_by_itself (depth + 1)) f (λ t. refl) tt a.sound)
    (sound-obeys_grammar (place_by_itself (depth + 1)) g (λ t. refl) tt b.sound) same

pub opens-one : {w : Where} {f : Forest} {xs ys : List ℕ} → Opens w f xs → Opens w f ys → xs ≡ ys
opens-one no_more no_more = refl
opens-one (padded a) (padded b) = opens-one a b
opens-one {w = w} (opened {h = h} {contents = contents} m f s a r) (opened {xs = xs} m2 g t b q) =
    let same : g ≡ f = holds-one w.depth h contents g f t s in
    let b' : Opens (where_of_held w h) f xs = subst (λ (k : Forest). Opens (where_of_held w h) k xs) same b in
    ap₂ (λ (x y : List ℕ). (w.start + h.offset) ∷ (x ++ y)) (opens-one a b') (opens-one r q)
opens-one (opened m f s a r) (closed n q) = absurd (n m f s)
opens-one (closed n r) (opened m f s a q) = absurd (n m f s)
opens-one (closed n r) (closed k q) = opens-one r q
opens-one (holder a r) (holder b q) = ap₂ (λ (x y : List ℕ). x ++ y) (opens-one a b) (opens-one r q)
opens-one (open_holder a) (open_holder b) = opens-one a b
opens-one open_primitive open_primitive = refl
opens-one open_bit_string open_bit_string = refl
opens-one open_header open_header = refl
opens-one open_end_octets open_end_octets = refl

-- of an input
pub opened-one : (padding : Bool) (octets xs ys : List ℕ) → AreOpened padding octets xs → AreOpened padding octets ys
    → ys ≡ xs
opened-one padding octets xs ys a b =
    let same : b.reading ≡ a.reading =
    reading-unique (closed_framing padding) octets b.reading a.reading b.is_reading a.is_reading in
    sym (opens-one a.opens (subst (λ (f : Forest). Opens where_at_top f ys) same b.opens))
