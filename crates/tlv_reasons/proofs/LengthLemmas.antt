-- Length octets that are changed in place are those of another header.
use Rattle.std.proofs.Common.{◌≡◌, ℕ, ◌+◌, ◌-◌, ◌^◌, ◌<◌, ◌≤◌, false, List, [], ◌∷◌, ◌++◌, length, drop, take}
use Rattle.std.proofs.Common.{◌∙◌, inl, inr, sym, subst, append_assoc, arith, length-append, length-drop, ap, refl}
use Rattle.std.proofs.Common.{◌*◌, ◌/◌, ◌%◌, add-one, append-nil, get_or, suc, take-append-drop, zero}
use Rattle.std.specs.Prelude.{Bool, MatchOption, Option, Some, None, slice_range, nat_lt}
use Rattle.std.specs.List.{cons_option, filter}
use Rattle.std.specs.Option.{option_map_or}
use Rattle.std.proofs.Common.{lit<, true, eqb}
use Rattle.std.proofs.lemmas.Bool.{lt-ltb}
use Rattle.std.proofs.lemmas.Bool.Decides.{eqb_tells}
use Rattle.std.proofs.Math.Nat.{pow-le-pow_right, pow-suc}
use Rattle.std.proofs.lemmas.List.{drop_all, length-take-le, take_rest}
use Rattle.std.proofs.Math.Seq.{drop-append_seam, drop-append-add, take-append_seam, take-append-add}
use Rattle.tlv_head.proofs.GrammarLemmas.Headers.{one-header}
use Rattle.tlv_head.proofs.GrammarLemmas.Scan.{origin_of}
use Rattle.tlv_head.specs.declared.header.HeaderFields.{HeaderFields}
use Rattle.tlv_head.specs.declared.header.Size.{Size}
use Rattle.tlv_head.specs.declared.header.Size.TheVariants.{Definite, Indefinite}
use Rattle.tlv_head.specs.Header.{HeaderValue, announced_length, definite_length, octets_of}
use Rattle.tlv_head.specs.HeaderFields.{new_header}
use Rattle.tlv_head.specs.ReadHeader.{BeginsWithFields}
use Rattle.tlv_head.specs.Refusal.{BeginsWith}
use Rattle.tlv_reasons.proofs.FirstLemmas.{first-along, from-next}
use Rattle.tlv_reasons.specs.declared.element.Element.{Element}
use Rattle.tlv_reasons.specs.declared.lengths.WrongLength.{WrongLength}
use Rattle.tlv_walk.specs.declared.framing.Framing.{Framing}
use Rattle.tlv_reasons.specs.declared.bounds.Bounds.{Bounds}
use Rattle.tlv_reasons.specs.FirstOf.{IsFirstOf, no_more}
use Rattle.tlv_reasons.specs.Mended.{IsMended}
use Rattle.tlv_reasons.specs.Private.Lengths.{MendedWithOctets, sayable, with_octets_saying}
use Rattle.tlv_reasons.specs.WrongLength.{AreWrongLengths, HasNoOtherLength, IsOtherLength, IsRightLength, WouldBeMended}
use Rattle.tlv_reasons.specs.WrongLength.{contents_start, input_with_length, length_bound, reach_in, reversed, tried_lengths}
use Rattle.tlv_reasons.specs.WrongLength as wrong
use Rattle.tlv_reasons.specs.WrongLength.{length_octets_saying, other_lengths}

-- two headers with which an input begins are the same
pub begun-one : {input : List ℕ} {offset : ℕ} (h g : HeaderValue) → BeginsWith input offset false h
    → BeginsWith input offset false g → h ≡ g
begun-one h g p q =
    let origin : origin_of h ≡ origin_of g =
    (λ i. record { offset = (p.offset ∙ sym q.offset) i; named = (p.named ∙ sym q.named) i }) in
    (one-header h g p.rest q.rest p.valid q.valid origin (sym p.octets_are ∙ q.octets_are)).0

-- after octets, an identifier, length octets and others: the length octets
lengths-between : (xs id ls rest : List ℕ)
    → slice_range (xs ++ ((id ++ ls) ++ rest)) (length xs + length id) (length xs + length (id ++ ls)) ≡ ls
lengths-between xs id ls rest =
    let size : (length xs + length (id ++ ls)) - (length xs + length id) ≡ length ls =
    omega (arith, length-append id ls) in
    rw (
      drop-append-add xs ((id ++ ls) ++ rest) (length id),
      append_assoc id ls rest,
      drop-append_seam id (ls ++ rest),
      size,
    ) (take-append_seam ls rest)

-- changed in place, they are those of a header that says another length
changed-octets : (n : ℕ) (xs rest : List ℕ) (h : HeaderValue) → h.offset ≡ length xs
    → with_octets_saying (length xs + length h.identifier_octets) (length xs + length (octets_of h)) n
    (xs ++ (octets_of h ++ rest)) ≡ input_with_length (xs ++ (octets_of h ++ rest)) h n
changed-octets n xs rest h o =
    let id : List ℕ = h.identifier_octets in
    let ls : List ℕ = h.length_octets in
    let front : take (length xs + length id) (xs ++ ((id ++ ls) ++ rest)) ≡ xs ++ id =
    take-append-add xs ((id ++ ls) ++ rest) (length id)
    ∙ ap (λ ys. xs ++ take (length id) ys) (append_assoc id ls rest)
    ∙ ap (λ ys. xs ++ ys) (take-append_seam id (ls ++ rest)) in
    let back : drop (length xs + length (id ++ ls)) (xs ++ ((id ++ ls) ++ rest)) ≡ rest =
    drop-append-add xs ((id ++ ls) ++ rest) (length (id ++ ls)) ∙ drop-append_seam (id ++ ls) rest in
    let said : List ℕ = length_octets_saying n ls in
    rw (front, lengths-between xs id ls rest, back, o, back, take-append_seam xs ((id ++ ls) ++ rest))
    (append_assoc xs id (said ++ rest) ∙ ap (λ ys. xs ++ ys) (sym (append_assoc id said rest)))

pub changed-with : (n : ℕ) (octets rest : List ℕ) (h : HeaderValue) (offset id count : ℕ) → offset ≤ length octets
    → h.offset ≡ offset → length h.identifier_octets ≡ id → length (octets_of h) ≡ count
    → drop offset octets ≡ octets_of h ++ rest
    → with_octets_saying (offset + id) (offset + count) n octets ≡ input_with_length octets h n
changed-with n octets rest h offset id count within o i k d =
    let front : List ℕ = take offset octets in
    let size : length front ≡ offset = length-take-le offset octets within in
    let all : front ++ (octets_of h ++ rest) ≡ octets =
    ap (λ ys. front ++ ys) (sym d) ∙ take-append-drop offset octets in
    let start : length front + length h.identifier_octets ≡ offset + id = omega (arith, size, i) in
    let end : length front + length (octets_of h) ≡ offset + count = omega (arith, size, k) in
    let e : with_octets_saying (length front + length h.identifier_octets) (length front + length (octets_of h)) n
    (front ++ (octets_of h ++ rest)) ≡ input_with_length (front ++ (octets_of h ++ rest)) h n =
    changed-octets n front rest h (o ∙ sym size) in
    subst (λ (xs : List ℕ). with_octets_saying (offset + id) (offset + count) n xs ≡ input_with_length xs h n) all
    (subst (λ (s : ℕ). with_octets_saying s (offset + count) n (front ++ (octets_of h ++ rest))
    ≡ input_with_length (front ++ (octets_of h ++ rest)) h n) start
    (subst (λ (s : ℕ). with_octets_saying (length front + length h.identifier_octets) s n (front ++ (octets_of h ++ rest))
    ≡ input_with_length (front ++ (octets_of h ++ rest)) h n) end e))

others-are : (w v : ℕ) (c d : Bool) (s t : ℕ) (size : Size) (wide : Bool) (reach said : ℕ) (lengths : List ℕ) → w ≡ v → c ≡ d
    → s ≡ t → size ≡ Definite said → lengths ≡ tried_lengths v d t wide reach said
    → filter (λ n. nat_lt n (length_bound w))
    (option_map_or (λ x. tried_lengths w c s wide reach x) (definite_length size) []) ≡ sayable v lengths
others-are w v c d s t size wide reach said lengths e f g z l =
    rw (e, f, g, z) (ap (λ (xs : List ℕ). sayable v xs) (sym l))

-- what is tried for a header
pub record IsTried (wide : Bool) (octets : List ℕ) (offset start count : ℕ) (fields : HeaderFields) (said : ℕ)
    (holders : List Element) (lengths : List ℕ) : Type 0 where
  pub within : offset ≤ length octets
  pub begins : BeginsWithFields (drop offset octets) offset false fields count
  pub start_is : start ≡ offset + fields.id_len
  pub size_is : fields.size ≡ Definite said
  pub lengths_are : lengths
      ≡ tried_lengths ((offset + count) - start) fields.constructed (offset + count) wide
      (reach_in holders offset (length octets)) said

module _ {octets : List ℕ} {offset start count : ℕ} {fields : HeaderFields} {said : ℕ} {holders : List Element}
    {lengths : List ℕ} (framing : Framing) (bounds : Bounds)
    (t : IsTried bounds.wide octets offset start count fields said holders lengths) where
  abbrev raw : List ℕ
  raw = take count (drop offset octets)

  abbrev header : HeaderValue
  header = new_header fields raw

  -- the first length that does if its octets are changed in place is the first that does if the header says it
  first-with : (r : Option ℕ)
      → IsFirstOf (MendedWithOctets framing bounds start (offset + count) octets)
      (sayable ((offset + count) - start) lengths) r
      → IsRightLength framing bounds octets holders offset header r
  first-with r f =
      let whole : length raw ≡ count = length-take-le count (drop offset octets) t.begins.within in
      let id : length header.identifier_octets ≡ fields.id_len =
      length-take-le fields.id_len raw (omega (arith, t.begins.sized.identifier)) in
      let all : length (octets_of header) ≡ count = ap length (take-append-drop fields.id_len raw) ∙ whole in
      let room : length header.length_octets ≡ (offset + count) - start =
      omega (arith, length-drop fields.id_len raw, whole, t.start_is) in
      let contents : contents_start header ≡ offset + count =
      ap (λ (n : ℕ). n + length (octets_of header)) t.begins.begins.offset ∙ ap (λ (n : ℕ). offset + n) all in
      let same : (n : ℕ) → with_octets_saying start (offset + count) n octets ≡ input_with_length octets header n =
      λ n. subst (λ (i : ℕ). with_octets_saying i (offset + count) n octets ≡ input_with_length octets header n)
      (sym t.start_is)
      (changed-with n octets t.begins.begins.rest header offset fields.id_len count t.within t.begins.begins.offset id all
      t.begins.begins.octets_are) in
      let others : other_lengths header bounds.wide (reach_in holders offset (length octets))
      ≡ sayable ((offset + count) - start) lengths =
      others-are (length header.length_octets) ((offset + count) - start) fields.constructed fields.constructed
      (contents_start header) (offset + count) fields.size bounds.wide (reach_in holders offset (length octets)) said
      lengths room refl contents t.size_is t.lengths_are in
      subst (λ (xs : List ℕ). IsFirstOf (WouldBeMended framing bounds octets header) xs r) (sym others)
      (first-along (λ n. subst (λ (xs : List ℕ). IsMended framing bounds xs) (same n))
      (λ n. subst (λ (xs : List ℕ). IsMended framing bounds xs) (sym (same n))) f)

  -- a length is found there
  pub found-at : (would : ℕ)
      → IsFirstOf (MendedWithOctets framing bounds start (offset + count) octets)
      (sayable ((offset + count) - start) lengths) (Some would)
      → IsOtherLength framing bounds octets holders offset (record { offset = offset; said = said; would = would })
  found-at would f = record {
    header = header;
    begins = t.begins.begins;
    right = first-with (Some would) f;
    offset_is = refl;
    said_is = sym (ap announced_length t.size_is);
  }

  -- none is found there
  pub none-at :
      IsFirstOf (MendedWithOctets framing bounds start (offset + count) octets)
      (sayable ((offset + count) - start) lengths) None
      → HasNoOtherLength framing bounds octets holders offset
  none-at f h p =
      subst (λ (x : HeaderValue). IsRightLength framing bounds octets holders offset x None)
      (begun-one header h t.begins.begins p)
      (first-with None f)

no-others : (P : ℕ → Type 0) (w : ℕ) (c : Bool) (s : ℕ) (wide : Bool) (reach : ℕ) (size : Size)
    → ((n : ℕ) → size ≡ Definite n → ⊥)
    → IsFirstOf P (filter (λ n. nat_lt n (length_bound w))
    (option_map_or (λ x. tried_lengths w c s wide reach x) (definite_length size) [])) None
no-others P w c s wide reach (Definite n) k = absurd (k n refl)
no-others P w c s wide reach Indefinite k = no_more

-- of a header in the indefinite form there are no other lengths
pub indefinite-none : (framing : Framing) (bounds : Bounds) (octets : List ℕ) (holders : List Element) (offset count : ℕ)
    (fields : HeaderFields) → BeginsWithFields (drop offset octets) offset false fields count
    → ((n : ℕ) → fields.size ≡ Definite n → ⊥) → HasNoOtherLength framing bounds octets holders offset
indefinite-none framing bounds octets holders offset count fields b k h p =
    let g : HeaderValue = new_header fields (take count (drop offset octets)) in
    let e : g ≡ h = begun-one g h b.begins p in
    no-others (WouldBeMended framing bounds octets h) (length h.length_octets) h.constructed (contents_start h) bounds.wide
    (reach_in holders offset (length octets)) h.size (λ n s. k n (ap (λ (x : HeaderValue). x.size) e ∙ s))

-- ---- offsets that are searched one after another

module _ (framing : Framing) (bounds : Bounds) (octets : List ℕ) (holders : List Element) where
  -- one more was looked at
  pub candidates-more : (xs : List ℕ) (i most : ℕ) (found : List WrongLength) (r : Option WrongLength) → i < length xs
      → length found < most
      → MatchOption r (HasNoOtherLength framing bounds octets holders (get_or xs i 0))
      (λ w. IsOtherLength framing bounds octets holders (get_or xs i 0) w)
      → ((rest : List WrongLength)
      → AreWrongLengths framing bounds octets holders (most - length found) (drop i xs) rest
      → AreWrongLengths framing bounds octets holders most xs (found ++ rest))
      → (rest : List WrongLength)
      → AreWrongLengths framing bounds octets holders (most - length (found ++ cons_option r [])) (drop (i + 1) xs) rest
      → AreWrongLengths framing bounds octets holders most xs ((found ++ cons_option r []) ++ rest)
  candidates-more xs i most found None h few none so_far rest p =
      let same : found ++ [] ≡ found = append-nil found in
      rw same
      (so_far rest
      (rw (from-next xs i h)
      (wrong.passed_over {most = most - length found} (omega (arith, few)) none
      (subst (λ (l : List WrongLength). AreWrongLengths framing bounds octets holders (most - length l) (drop (i + 1) xs) rest)
      same p))))
  candidates-more xs i most found (Some w) h few is so_far rest p =
      let count : length (found ++ w ∷ []) ≡ length found + 1 = length-append found (w ∷ []) in
      let less : most - length (found ++ w ∷ []) ≡ (most - length found) - 1 = omega (arith, count, few) in
      subst (λ (l : List WrongLength). AreWrongLengths framing bounds octets holders most xs l)
      (sym (append_assoc found (w ∷ []) rest))
      (so_far (w ∷ rest)
      (rw (from-next xs i h)
      (wrong.named {most = most - length found} (omega (arith, few)) is
      (subst (λ (n : ℕ). AreWrongLengths framing bounds octets holders n (drop (i + 1) xs) rest) less p))))

  -- enough are named, or there are no more
  pub candidates-enough : (xs : List ℕ) (i most : ℕ) (found : List WrongLength) → most ≤ length found
      → ((rest : List WrongLength)
      → AreWrongLengths framing bounds octets holders (most - length found) (drop i xs) rest
      → AreWrongLengths framing bounds octets holders most xs (found ++ rest))
      → AreWrongLengths framing bounds octets holders most xs found
  candidates-enough xs i most found h so_far =
      let none : most - length found ≡ 0 = omega (arith, h) in
      subst (λ (l : List WrongLength). AreWrongLengths framing bounds octets holders most xs l) (append-nil found)
      (so_far [] (rw none wrong.enough))

  pub candidates-end : (xs : List ℕ) (i most : ℕ) (found : List WrongLength) → length xs ≤ i
      → ((rest : List WrongLength)
      → AreWrongLengths framing bounds octets holders (most - length found) (drop i xs) rest
      → AreWrongLengths framing bounds octets holders most xs (found ++ rest))
      → AreWrongLengths framing bounds octets holders most xs found
  candidates-end xs i most found h so_far =
      subst (λ (l : List WrongLength). AreWrongLengths framing bounds octets holders most xs l) (append-nil found)
      (so_far [] (rw (drop_all i xs h) wrong.no_more))

-- a slice from an offset on is all that comes after it
pub begins-there : (octets : List ℕ) (offset count : ℕ) (fields : HeaderFields)
    → BeginsWithFields (take (length octets - offset) (drop offset octets)) offset false fields count
    → BeginsWithFields (drop offset octets) offset false fields count
begins-there octets offset count fields b =
    subst (λ (xs : List ℕ). BeginsWithFields xs offset false fields count) (take_rest octets offset) b

pub start-is : (offset a b : ℕ) → a ≡ b → offset + a ≡ offset + b
start-is offset a b e = ap (λ n. offset + n) e

-- 8.1.3.5: six and more octets after the first can say each length below 2^48
pub long-bound : (count would : ℕ) → 6 < count → would < 2 ^ 41 → nat_lt would (length_bound count) ≡ true
long-bound count would many small =
    let long : 6 ≤ count - 1 = omega arith in
    let power : 256 ^ 6 ≤ 256 ^ (count - 1) = pow-le-pow_right (lit< tt) long in
    let below : would < 256 ^ (count - 1) = omega arith in
    let one : eqb count 1 ≡ false =
    elim (eqb_tells count 1) [ inl (t, e) ↦ absurd (omega arith) | inr (t, e) ↦ t ] in
    rw one (lt-ltb would (256 ^ (count - 1)) below)

pub bound-fits : (count : ℕ) → count ≤ 6 → 256 ^ (count - 1) < 2 ^ 64
bound-fits count few =
    let short : count - 1 ≤ 5 = omega arith in
    let power : 256 ^ (count - 1) ≤ 256 ^ 5 = pow-le-pow_right (lit< tt) short in
    omega arith

-- no more are named than may be
pub few-named : (most : ℕ) (found : List WrongLength) (r : Option WrongLength) → length found < most
    → length (found ++ cons_option r []) ≤ most
few-named most found None few = omega (arith, length-append found [], few)
few-named most found (Some w) few = omega (arith, length-append found (w ∷ []), few)

-- ---- numbers with their octets reversed

pub reversed-step : (k n front : ℕ) → 0 < k → reversed k n front ≡ reversed (k - 1) (n / 256) (front * 256 + n % 256)
reversed-step zero n front some = absurd (omega (arith, some))
reversed-step (suc k) n front some =
    let less : k ≡ suc k - 1 = omega arith in ap (λ j. reversed j (n / 256) (front * 256 + n % 256)) less

pub more-front : (k front r : ℕ) → front < 256 ^ k → r < 256 → front * 256 + r < 256 ^ (k + 1)
more-front k front r f small =
    let power : 256 ^ suc k ≡ 256 ^ k * 256 = pow-suc 256 k in
    let next : 256 ^ (k + 1) ≡ 256 ^ suc k = ap (λ n. 256 ^ n) (add-one k) in
    omega (arith, power, next, f, small)

pub front-below : (k front : ℕ) → k ≤ 5 → front < 256 ^ k → front < 2 ^ 40
front-below k front few f =
    let power : 256 ^ k ≤ 256 ^ 5 = pow-le-pow_right (lit< tt) few in omega (arith, power, f)

pub front-fits : (k front : ℕ) → k ≤ 4 → front < 256 ^ k → front * 256 < 2 ^ 40
front-fits k front few f =
    let power : 256 ^ k ≤ 256 ^ 4 = pow-le-pow_right (lit< tt) few in omega (arith, power, f)

pub flipped-below : (said bit value : ℕ) → said < 2 ^ 40 → bit < 40 → value ≡ 2 ^ bit → said + value < 2 ^ 41
flipped-below said bit value small few v =
    let below : bit ≤ 39 = omega (arith, few) in
    let power : 2 ^ bit ≤ 2 ^ 39 = pow-le-pow_right (lit< tt) below in omega (arith, power, v, small)
