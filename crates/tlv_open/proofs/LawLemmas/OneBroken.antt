-- An input has no second list of strings that are broken.
use Rattle.std.proofs.Common.{◌≡◌, ℕ, ◌+◌, Bool, false, List, ◌∷◌, ◌++◌, Some, refl, sym, ap, ap₂, ◌∙◌}
use Rattle.std.proofs.Common.{arith, subst}
use Rattle.tlv_head.specs.declared.fault.Fault.{Fault}
use Rattle.tlv_head.specs.Header.{HeaderValue, octets_of}
use Rattle.tlv_walk.specs.Forest.{Forest}
use Rattle.tlv_walk.proofs.GrammarLemmas.Readings.{reading-unique}
use Rattle.tlv_open.specs.declared.strings.BrokenString.{BrokenString}
use Rattle.tlv_open.specs.declared.strings.Suspicion.{Suspicion}
use Rattle.tlv_open.specs.Breaks as breaks
use Rattle.tlv_open.specs.Breaks.{AreBroken, BeginsAs, Breaks, IsBroken, IsBrokenString, LooksEncoded, fault_of_string}
use Rattle.tlv_open.specs.Opens.{Where, closed_framing, where_at_top, where_of_held}
use Rattle.tlv_open.proofs.BreakLemmas.Around.{breaks-one}
use Rattle.tlv_open.proofs.LawLemmas.OneList.{holds-one}

-- octets begin with one octet
begins-one : (octets : List ℕ) → BeginsAs 0x30 octets → BeginsAs 0x31 octets → ⊥
begins-one octets a b = absurd (omega (arith, a.first_octet, b.first_octet))

-- a string looks like encodings for one reason
looks-one : (octets : List ℕ) (v : Bool) (r s : Suspicion) → LooksEncoded octets v r → LooksEncoded octets v s → r ≡ s
looks-one octets v _ _ (breaks.sequence a) (breaks.sequence b) = refl
looks-one octets v _ _ (breaks.sequence a) (breaks.set b) = absurd (begins-one octets a b)
looks-one octets v _ _ (breaks.sequence a) (breaks.extension e m n) = absurd (m a)
looks-one octets v _ _ (breaks.set a) (breaks.sequence b) = absurd (begins-one octets b a)
looks-one octets v _ _ (breaks.set a) (breaks.set b) = refl
looks-one octets v _ _ (breaks.set a) (breaks.extension e m n) = absurd (n a)
looks-one octets v _ _ (breaks.extension e m n) (breaks.sequence b) = absurd (m b)
looks-one octets v _ _ (breaks.extension e m n) (breaks.set b) = absurd (n b)
looks-one octets v _ _ (breaks.extension e m n) (breaks.extension d k l) = refl

string-one : (offset depth : ℕ) (string octets : List ℕ) (v : Bool) (x y : BrokenString)
    → IsBrokenString offset depth string octets v x → IsBrokenString offset depth string octets v y → x ≡ y
string-one offset depth string octets v x y a b =
    let reason : x.reason ≡ y.reason = looks-one octets v x.reason y.reason a.looks_encoded b.looks_encoded in
    let fault : a.fault ≡ b.fault = breaks-one depth string a.fault b.fault a.breaks_at b.breaks_at in
    let offset_same : x.offset ≡ y.offset = a.offset_is ∙ sym b.offset_is in
    let fault_same : x.fault ≡ y.fault =
    a.fault_is ∙ (ap (λ (f : Fault). fault_of_string offset depth f) fault ∙ sym b.fault_is) in
    λ i. record { offset = offset_same i; reason = reason i; fault = fault_same i }

broken-one : (w : Where) (v : Bool) (h : HeaderValue) (contents : List ℕ) (x y : BrokenString)
    → IsBroken w v h contents x → IsBroken w v h contents y → x ≡ y
broken-one w v h contents x y a b =
    let e : Some a.octets ≡ Some b.octets = sym a.inner ∙ b.inner in
    let same : a.octets ≡ b.octets = cc (e) in
    string-one (w.start + h.offset) w.depth (octets_of h ++ contents) b.octets v x y
    (subst
    (λ (o : List ℕ). IsBrokenString (w.start + h.offset) w.depth (octets_of h ++ contents) o v x) same a.is_broken)
    b.is_broken

pub breaks-list_one : {w : Where} {e : Bool} {f : Forest} {xs ys : List BrokenString} → Breaks w e f xs
    → Breaks w e f ys
    → xs ≡ ys
breaks-list_one breaks.no_more breaks.no_more = refl
breaks-list_one (breaks.padded a) (breaks.padded b) = breaks-list_one a b
breaks-list_one {w = w} (breaks.opened {h = h} {contents = contents} m f s a r) (breaks.opened {xs = xs} m2 g t b q) =
    let same : g ≡ f = holds-one w.depth h contents g f t s in
    let b' : Breaks (where_of_held w h) false f xs =
    subst (λ (k : Forest). Breaks (where_of_held w h) false k xs) same b in
    ap₂ (λ (x y : List BrokenString). x ++ y) (breaks-list_one a b') (breaks-list_one r q)
breaks-list_one (breaks.opened m f s a r) (breaks.broken x b q) = absurd (b.not_opened f s)
breaks-list_one (breaks.opened m f s a r) (breaks.other n b q) = absurd (n m f s)
breaks-list_one (breaks.broken x b q) (breaks.opened m f s a r) = absurd (b.not_opened f s)
breaks-list_one {w = w} (breaks.broken {h = h} {contents = contents} x a r) (breaks.broken y b q) =
    ap₂ (λ (k : BrokenString) (l : List BrokenString). k ∷ l) (broken-one w _ h contents x y a b) (breaks-list_one r q)
breaks-list_one (breaks.broken x a r) (breaks.other n b q) = absurd (b x a)
breaks-list_one (breaks.other n b q) (breaks.opened m f s a r) = absurd (n m f s)
breaks-list_one (breaks.other n b q) (breaks.broken x a r) = absurd (b x a)
breaks-list_one (breaks.other n a r) (breaks.other k b q) = breaks-list_one r q
breaks-list_one (breaks.holder a r) (breaks.holder b q) =
    ap₂ (λ (x y : List BrokenString). x ++ y) (breaks-list_one a b) (breaks-list_one r q)
breaks-list_one (breaks.open_holder a) (breaks.open_holder b) = breaks-list_one a b
breaks-list_one breaks.open_primitive breaks.open_primitive = refl
breaks-list_one breaks.open_bit_string breaks.open_bit_string = refl
breaks-list_one breaks.open_header breaks.open_header = refl
breaks-list_one breaks.open_end_octets breaks.open_end_octets = refl

-- of an input
pub are_broken-one : (padding : Bool) (octets : List ℕ) (xs ys : List BrokenString) → AreBroken padding octets xs
    → AreBroken padding octets ys → ys ≡ xs
are_broken-one padding octets xs ys a b =
    let same : b.reading ≡ a.reading =
    reading-unique (closed_framing padding) octets b.reading a.reading b.is_reading a.is_reading in
    sym (breaks-list_one a.breaks (subst (λ (f : Forest). Breaks where_at_top false f ys) same b.breaks))
