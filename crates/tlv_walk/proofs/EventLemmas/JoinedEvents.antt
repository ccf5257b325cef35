-- Events joined are equal if they are equal with each octet by itself.
use Rattle.std.proofs.Common.{◌≡◌, ◌↔◌, ℕ, List, [], ◌∷◌, ◌++◌, map, refl, sym, ap, ◌∙◌, append_assoc}
use Rattle.std.proofs.lemmas.List.{map-append}
use Rattle.tlv_walk.specs.Events.{AreEqualJoined, Begin, Bytes, Close, End, Enter, EventValue, Leave, Open, Pad, Unused}
use Rattle.tlv_walk.specs.Events.{joined_events, single_octets, with_bytes, with_pad}

-- contents octets, each by itself
abbrev pub bytes_apart : List ℕ → List EventValue
bytes_apart c = map (λ x. Bytes (x ∷ [])) c

-- padding, each octet by itself
abbrev pub pad_apart : List ℕ → List EventValue
pad_apart c = map (λ x. Pad (x ∷ [])) c

-- events apart, of two pieces
pub apart-append : (xs ys : List EventValue) → single_octets (xs ++ ys) ≡ single_octets xs ++ single_octets ys
apart-append [] ys = refl
apart-append (Bytes c ∷ xs) ys =
    ap (λ (t : List EventValue). bytes_apart c ++ t) (apart-append xs ys)
    ∙ sym (append_assoc (bytes_apart c) (single_octets xs) (single_octets ys))
apart-append (Pad c ∷ xs) ys =
    ap (λ (t : List EventValue). pad_apart c ++ t) (apart-append xs ys)
    ∙ sym (append_assoc (pad_apart c) (single_octets xs) (single_octets ys))
apart-append (Open h ∷ xs) ys = ap (λ (t : List EventValue). Open h ∷ t) (apart-append xs ys)
apart-append (Begin h ∷ xs) ys = ap (λ (t : List EventValue). Begin h ∷ t) (apart-append xs ys)
apart-append (End ∷ xs) ys = ap (λ (t : List EventValue). End ∷ t) (apart-append xs ys)
apart-append (Close o ∷ xs) ys = ap (λ (t : List EventValue). Close o ∷ t) (apart-append xs ys)
apart-append (Enter h ∷ xs) ys = ap (λ (t : List EventValue). Enter h ∷ t) (apart-append xs ys)
apart-append (Unused ∷ xs) ys = ap (λ (t : List EventValue). Unused ∷ t) (apart-append xs ys)
apart-append (Leave ∷ xs) ys = ap (λ (t : List EventValue). Leave ∷ t) (apart-append xs ys)

-- contents octets put together with the next are the same apart
apart-with_bytes : (c : List ℕ) (es : List EventValue)
    → single_octets (with_bytes c es) ≡ bytes_apart c ++ single_octets es
apart-with_bytes [] es = refl
apart-with_bytes (x ∷ c) [] = refl
apart-with_bytes (x ∷ c) (Bytes d ∷ es) =
    ap (λ (t : List EventValue). Bytes (x ∷ []) ∷ (t ++ single_octets es)) (map-append (λ x. Bytes (x ∷ [])) c d)
    ∙ ap (λ (t : List EventValue). Bytes (x ∷ []) ∷ t) (append_assoc (bytes_apart c) (bytes_apart d) (single_octets es))
apart-with_bytes (x ∷ c) (Pad d ∷ es) = refl
apart-with_bytes (x ∷ c) (Open h ∷ es) = refl
apart-with_bytes (x ∷ c) (Begin h ∷ es) = refl
apart-with_bytes (x ∷ c) (End ∷ es) = refl
apart-with_bytes (x ∷ c) (Close o ∷ es) = refl
apart-with_bytes (x ∷ c) (Enter h ∷ es) = refl
apart-with_bytes (x ∷ c) (Unused ∷ es) = refl
apart-with_bytes (x ∷ c) (Leave ∷ es) = refl

-- contents octets put together one by one
with_bytes-cons : (x : ℕ) (c : List ℕ) (es : List EventValue)
    → with_bytes (x ∷ []) (with_bytes c es) ≡ with_bytes (x ∷ c) es
with_bytes-cons x [] es = refl
with_bytes-cons x (y ∷ c) [] = refl
with_bytes-cons x (y ∷ c) (Bytes d ∷ es) = refl
with_bytes-cons x (y ∷ c) (Pad d ∷ es) = refl
with_bytes-cons x (y ∷ c) (Open h ∷ es) = refl
with_bytes-cons x (y ∷ c) (Begin h ∷ es) = refl
with_bytes-cons x (y ∷ c) (End ∷ es) = refl
with_bytes-cons x (y ∷ c) (Close o ∷ es) = refl
with_bytes-cons x (y ∷ c) (Enter h ∷ es) = refl
with_bytes-cons x (y ∷ c) (Unused ∷ es) = refl
with_bytes-cons x (y ∷ c) (Leave ∷ es) = refl

-- single contents octets, joined
joined-bytes_apart : (c : List ℕ) (es : List EventValue)
    → joined_events (bytes_apart c ++ es) ≡ with_bytes c (joined_events es)
joined-bytes_apart [] es = refl
joined-bytes_apart (x ∷ c) es =
    ap (with_bytes (x ∷ [])) (joined-bytes_apart c es) ∙ with_bytes-cons x c (joined_events es)

-- padding put together with the next is the same apart
apart-with_pad : (c : List ℕ) (es : List EventValue) → single_octets (with_pad c es) ≡ pad_apart c ++ single_octets es
apart-with_pad [] es = refl
apart-with_pad (x ∷ c) [] = refl
apart-with_pad (x ∷ c) (Pad d ∷ es) =
    ap (λ (t : List EventValue). Pad (x ∷ []) ∷ (t ++ single_octets es)) (map-append (λ x. Pad (x ∷ [])) c d)
    ∙ ap (λ (t : List EventValue). Pad (x ∷ []) ∷ t) (append_assoc (pad_apart c) (pad_apart d) (single_octets es))
apart-with_pad (x ∷ c) (Bytes d ∷ es) = refl
apart-with_pad (x ∷ c) (Open h ∷ es) = refl
apart-with_pad (x ∷ c) (Begin h ∷ es) = refl
apart-with_pad (x ∷ c) (End ∷ es) = refl
apart-with_pad (x ∷ c) (Close o ∷ es) = refl
apart-with_pad (x ∷ c) (Enter h ∷ es) = refl
apart-with_pad (x ∷ c) (Unused ∷ es) = refl
apart-with_pad (x ∷ c) (Leave ∷ es) = refl

-- padding put together octet by octet
with_pad-cons : (x : ℕ) (c : List ℕ) (es : List EventValue) → with_pad (x ∷ []) (with_pad c es) ≡ with_pad (x ∷ c) es
with_pad-cons x [] es = refl
with_pad-cons x (y ∷ c) [] = refl
with_pad-cons x (y ∷ c) (Pad d ∷ es) = refl
with_pad-cons x (y ∷ c) (Bytes d ∷ es) = refl
with_pad-cons x (y ∷ c) (Open h ∷ es) = refl
with_pad-cons x (y ∷ c) (Begin h ∷ es) = refl
with_pad-cons x (y ∷ c) (End ∷ es) = refl
with_pad-cons x (y ∷ c) (Close o ∷ es) = refl
with_pad-cons x (y ∷ c) (Enter h ∷ es) = refl
with_pad-cons x (y ∷ c) (Unused ∷ es) = refl
with_pad-cons x (y ∷ c) (Leave ∷ es) = refl

-- single octets of padding, joined
joined-pad_apart : (c : List ℕ) (es : List EventValue)
    → joined_events (pad_apart c ++ es) ≡ with_pad c (joined_events es)
joined-pad_apart [] es = refl
joined-pad_apart (x ∷ c) es = ap (with_pad (x ∷ [])) (joined-pad_apart c es) ∙ with_pad-cons x c (joined_events es)

-- joining changes nothing apart
apart-joined : (es : List EventValue) → single_octets (joined_events es) ≡ single_octets es
apart-joined [] = refl
apart-joined (Bytes c ∷ es) =
    apart-with_bytes c (joined_events es) ∙ ap (λ (t : List EventValue). bytes_apart c ++ t) (apart-joined es)
apart-joined (Pad c ∷ es) =
    apart-with_pad c (joined_events es) ∙ ap (λ (t : List EventValue). pad_apart c ++ t) (apart-joined es)
apart-joined (Open h ∷ es) = ap (λ (t : List EventValue). Open h ∷ t) (apart-joined es)
apart-joined (Begin h ∷ es) = ap (λ (t : List EventValue). Begin h ∷ t) (apart-joined es)
apart-joined (End ∷ es) = ap (λ (t : List EventValue). End ∷ t) (apart-joined es)
apart-joined (Close o ∷ es) = ap (λ (t : List EventValue). Close o ∷ t) (apart-joined es)
apart-joined (Enter h ∷ es) = ap (λ (t : List EventValue). Enter h ∷ t) (apart-joined es)
apart-joined (Unused ∷ es) = ap (λ (t : List EventValue). Unused ∷ t) (apart-joined es)
apart-joined (Leave ∷ es) = ap (λ (t : List EventValue). Leave ∷ t) (apart-joined es)

-- cutting apart changes nothing joined
joined-apart : (es : List EventValue) → joined_events (single_octets es) ≡ joined_events es
joined-apart [] = refl
joined-apart (Bytes c ∷ es) = joined-bytes_apart c (single_octets es) ∙ ap (with_bytes c) (joined-apart es)
joined-apart (Pad c ∷ es) = joined-pad_apart c (single_octets es) ∙ ap (with_pad c) (joined-apart es)
joined-apart (Open h ∷ es) = ap (λ (t : List EventValue). Open h ∷ t) (joined-apart es)
joined-apart (Begin h ∷ es) = ap (λ (t : List EventValue). Begin h ∷ t) (joined-apart es)
joined-apart (End ∷ es) = ap (λ (t : List EventValue). End ∷ t) (joined-apart es)
joined-apart (Close o ∷ es) = ap (λ (t : List EventValue). Close o ∷ t) (joined-apart es)
joined-apart (Enter h ∷ es) = ap (λ (t : List EventValue). Enter h ∷ t) (joined-apart es)
joined-apart (Unused ∷ es) = ap (λ (t : List EventValue). Unused ∷ t) (joined-apart es)
joined-apart (Leave ∷ es) = ap (λ (t : List EventValue). Leave ∷ t) (joined-apart es)

-- events that are equal apart are equal joined
pub joined-from_apart : (xs ys : List EventValue) → single_octets xs ≡ single_octets ys → AreEqualJoined xs ys
joined-from_apart xs ys e = sym (joined-apart xs) ∙ ap joined_events e ∙ joined-apart ys

-- events that are equal joined are equal apart
pub apart-from_joined : (xs ys : List EventValue) → AreEqualJoined xs ys → single_octets xs ≡ single_octets ys
apart-from_joined xs ys e = sym (apart-joined xs) ∙ ap single_octets e ∙ apart-joined ys

-- the same in both directions
pub equal-joined : (xs ys : List EventValue) → AreEqualJoined xs ys ↔ (single_octets xs ≡ single_octets ys)
equal-joined xs ys = (apart-from_joined xs ys, joined-from_apart xs ys)

-- events that are equal apart, after the same events
pub apart-after : (xs ys zs : List EventValue) → single_octets ys ≡ single_octets zs
    → single_octets (xs ++ ys) ≡ single_octets (xs ++ zs)
apart-after xs ys zs e =
    apart-append xs ys ∙ ap (λ (t : List EventValue). single_octets xs ++ t) e ∙ sym (apart-append xs zs)

-- events that are equal apart, before the same events
pub apart-before : (xs ys zs : List EventValue) → single_octets xs ≡ single_octets ys
    → single_octets (xs ++ zs) ≡ single_octets (ys ++ zs)
apart-before xs ys zs e =
    apart-append xs zs ∙ ap (λ (t : List EventValue). t ++ single_octets zs) e ∙ sym (apart-append ys zs)

-- new events after some, and so after all
pub apart-more : (xs ys zs new : List EventValue) → single_octets ys ≡ single_octets (zs ++ new)
    → single_octets (xs ++ ys) ≡ single_octets ((xs ++ zs) ++ new)
apart-more xs ys zs new e = apart-after xs ys (zs ++ new) e ∙ sym (ap single_octets (append_assoc xs zs new))
