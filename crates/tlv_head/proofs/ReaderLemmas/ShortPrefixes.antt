-- Octets that begin with no short identifier, or with no short header.
use Rattle.std.proofs.Common.{◌≡◌, ◌≢◌, inl, inr, ℕ, ◌+◌, ◌-◌, ◌*◌, ◌<◌, ◌≤◌, Bool, true, false, get_or, List, [], ◌∷◌}
use Rattle.std.proofs.Common.{◌++◌, length, take, drop, refl, sym, ap, ◌∙◌, subst, arith, lit<, append_assoc}
use Rattle.std.proofs.Common.{append-nil, length-append, length-drop}
use Rattle.std.proofs.lemmas.List.{length-map, take-append-drop, take_all}
use Rattle.std.proofs.Math.Seq.{drop-append_seam}
use Rattle.tlv_head.specs.declared.header.Class.{Class}
use Rattle.tlv_head.specs.declared.header.Size.{Size}
use Rattle.tlv_head.specs.declared.header.Size.TheVariants.{Definite, Indefinite}
use Rattle.tlv_head.specs.declared.fault.FaultCode.{FaultCode}
use Rattle.tlv_head.specs.declared.next_octet.IdentifierFields.{IdentifierFields}
use Rattle.tlv_head.specs.declared.next_octet.Part.{Part}
use Rattle.tlv_head.specs.declared.next_octet.Part.TheVariants.{Start, Number, Identifier, Length}
use Rattle.tlv_head.specs.declared.next_octet.Part.TheVariants as part
use Rattle.tlv_head.specs.declared.next_octet.Next.{Next}
use Rattle.tlv_head.specs.declared.next_octet.Next.TheVariants.{Unfinished, Whole, Refused}
use Rattle.tlv_head.specs.Header.{IsIdentifier, IsLength, identifier_octet, with_bit_8}
use Rattle.tlv_head.specs.HeaderSoFar.{AllowsSize, Carries, CarriesIdentifier, CarriesNumber}
use Rattle.tlv_head.specs.Private.NextOctet.{BeginsWithIdentifier, BeginsWithNoIdentifier, BeginsWithNoLength}
use Rattle.tlv_head.specs.Private.NextOctet.{MakesNext}
use Rattle.tlv_head.specs.ReadHeader.{BeginsWithNoShortHeader}
use Rattle.tlv_head.specs.Refusal.{IsRefusedOctet, indefinite_primitive, length_too_large, reserved_length}
use Rattle.tlv_head.specs.Refusal.{tag_too_long}
use Rattle.tlv_head.proofs.GrammarLemmas.Scan.{Named, scan, scan-identifier, start}
use Rattle.tlv_head.proofs.ReaderLemmas.Steps.{ends_number}

-- the first octet says whether the number is in the high form
forms-apart : (c d : Class) (k j : Bool) (n : ℕ) → n < 31 → identifier_octet c k n ≡ identifier_octet d j 31 → ⊥
forms-apart c d true true n h e = omega (arith, e)
forms-apart c d true false n h e = omega (arith, e)
forms-apart c d false true n h e = omega (arith, e)
forms-apart c d false false n h e = omega (arith, e)

-- digits with bit 8 set end at the first octet without it
flagged-end : (ds es : List ℕ) (l m : ℕ) (x y : List ℕ) → l < 128 → m < 128
    → (with_bit_8 ds ++ l ∷ []) ++ x ≡ (with_bit_8 es ++ m ∷ []) ++ y
    → with_bit_8 ds ++ l ∷ [] ≡ with_bit_8 es ++ m ∷ []
flagged-end [] [] l m x y h k e = let same : l ≡ m = cc in ap (λ (u : ℕ). u ∷ []) same
flagged-end [] (b ∷ es) l m x y h k e = let same : l ≡ 128 + b = cc in absurd (omega arith)
flagged-end (a ∷ ds) [] l m x y h k e = let same : 128 + a ≡ m = cc in absurd (omega arith)
flagged-end (a ∷ ds) (b ∷ es) l m x y h k e =
    let same : 128 + a ≡ 128 + b = cc in
    let rest : (with_bit_8 ds ++ l ∷ []) ++ x ≡ (with_bit_8 es ++ m ∷ []) ++ y = cc in
    ap (λ (u : ℕ). u ∷ (with_bit_8 ds ++ l ∷ [])) same
    ∙ ap (λ (t : List ℕ). (128 + b) ∷ t) (flagged-end ds es l m x y h k rest)

-- octets begin with at most one identifier
one-identifier : (c d : Class) (k j : Bool) (n m : ℕ) (i o x y : List ℕ) → IsIdentifier c k n i → IsIdentifier d j m o
    → i ++ x ≡ o ++ y → i ≡ o
one-identifier c d k j n m i o x y (inl p) (inl q) e =
    let whole : identifier_octet c k n ∷ x ≡ identifier_octet d j m ∷ y =
    ap (λ (z : List ℕ). z ++ x) (sym p.octets_are) ∙ (e ∙ ap (λ (z : List ℕ). z ++ y) q.octets_are) in
    let same : identifier_octet c k n ≡ identifier_octet d j m = cc in
    p.octets_are ∙ (ap (λ (u : ℕ). u ∷ []) same ∙ sym q.octets_are)
one-identifier c d k j n m i o x y (inl p) (inr q) e =
    let whole : identifier_octet c k n ∷ x ≡ identifier_octet d j 31 ∷ ((with_bit_8 q.digits ++ q.last ∷ []) ++ y) =
    ap (λ (z : List ℕ). z ++ x) (sym p.octets_are) ∙ (e ∙ ap (λ (z : List ℕ). z ++ y) q.octets_are) in
    absurd (forms-apart c d k j n p.small (cc))
one-identifier c d k j n m i o x y (inr p) (inl q) e =
    let whole : identifier_octet d j m ∷ y ≡ identifier_octet c k 31 ∷ ((with_bit_8 p.digits ++ p.last ∷ []) ++ x) =
    ap (λ (z : List ℕ). z ++ y) (sym q.octets_are) ∙ (sym e ∙ ap (λ (z : List ℕ). z ++ x) p.octets_are) in
    absurd (forms-apart d c j k m q.small (cc))
one-identifier c d k j n m i o x y (inr p) (inr q) e =
    let whole : identifier_octet c k 31 ∷ ((with_bit_8 p.digits ++ p.last ∷ []) ++ x)
    ≡ identifier_octet d j 31 ∷ ((with_bit_8 q.digits ++ q.last ∷ []) ++ y) =
    ap (λ (z : List ℕ). z ++ x) (sym p.octets_are) ∙ (e ∙ ap (λ (z : List ℕ). z ++ y) q.octets_are) in
    let same : identifier_octet c k 31 ≡ identifier_octet d j 31 = cc in
    let rest : (with_bit_8 p.digits ++ p.last ∷ []) ++ x ≡ (with_bit_8 q.digits ++ q.last ∷ []) ++ y = cc in
    let digits : with_bit_8 p.digits ++ p.last ∷ [] ≡ with_bit_8 q.digits ++ q.last ∷ [] =
    flagged-end p.digits q.digits p.last q.last x y p.last_digit q.last_digit rest in
    p.octets_are
    ∙ (ap (λ (u : ℕ). u ∷ (with_bit_8 p.digits ++ p.last ∷ [])) same
    ∙ (ap (λ (t : List ℕ). identifier_octet d j 31 ∷ t) digits ∙ sym q.octets_are))

-- and it has one form: primitive or constructed
one-form : (c d : Class) (k j : Bool) (n m : ℕ) (i o : List ℕ) → IsIdentifier c k n i → IsIdentifier d j m o → i ≡ o
    → k ≡ j
one-form c d k j n m i o p q e =
    let left : scan start i ≡ Named c k n i = scan-identifier start c k n i p in
    let right : scan start o ≡ Named d j m o = scan-identifier start d j m o q in
    let both : Named c k n i ≡ Named d j m o = sym left ∙ (ap (scan start) e ∙ right) in
    cc

-- of two prefixes the shorter is a prefix of the other
within-prefix : (o i x y : List ℕ) → length i ≤ length o → o ++ x ≡ i ++ y → (z : List ℕ) × (o ≡ i ++ z)
within-prefix o [] x y h e = (o, refl)
within-prefix [] (b ∷ i) x y h e = absurd (omega arith)
within-prefix (a ∷ o) (b ∷ i) x y h e =
    let same : a ≡ b = cc in
    let rest : o ++ x ≡ i ++ y = cc in
    let r = within-prefix o i x y (omega arith) rest in
    (r.0, ap (λ (t : List ℕ). a ∷ t) r.1 ∙ ap (λ (u : ℕ). u ∷ (i ++ r.0)) same)

-- there are length octets, and identifier octets
some-length : (s : Size) (l : List ℕ) → IsLength s l → l ≢ []
some-length (Definite n) l (inl short) e = omega (arith, ap length (sym short.1 ∙ e))
some-length (Definite n) l (inr long) e = omega (arith, ap length (sym long.octets_are ∙ e))
some-length Indefinite l q e = omega (arith, ap length (sym q ∙ e))

some-identifier : (c : Class) (k : Bool) (n : ℕ) (i : List ℕ) → IsIdentifier c k n i → i ≢ []
some-identifier c k n i (inl low) e = omega (arith, ap length (sym low.octets_are ∙ e))
some-identifier c k n i (inr high) e = omega (arith, ap length (sym high.octets_are ∙ e))

snoc≢nil : (os : List ℕ) (x : ℕ) → os ++ x ∷ [] ≢ []
snoc≢nil [] x e = cc
snoc≢nil (y ∷ os) x e = cc

-- a high form that has not ended has no identifier as a prefix
high_form-no_identifier : (id : IdentifierFields) (o : List ℕ) (c : Class) (k : Bool) (n : ℕ) (i z : List ℕ)
    → CarriesNumber id o
    → IsIdentifier c k n i → o ≡ i ++ z → ⊥
high_form-no_identifier id o c k n i z h p e =
    let ended : CarriesIdentifier
    (record {
      class = id.class;
      constructed = id.constructed;
      number = id.number * 128 + 0;
      id_len = id.id_len + 1;
    })
    (o ++ 0 ∷ []) =
    ends_number id 0 0 o h refl (lit< tt) in
    let whole : (o ++ 0 ∷ []) ++ [] ≡ i ++ (z ++ 0 ∷ []) =
    append-nil (o ++ 0 ∷ []) ∙ (ap (λ (s : List ℕ). s ++ 0 ∷ []) e ∙ append_assoc i z (0 ∷ [])) in
    let same : o ++ 0 ∷ [] ≡ i = one-identifier _ c _ k _ n (o ++ 0 ∷ []) i [] (z ++ 0 ∷ []) ended.identifier p whole in
    omega (arith, ap length same, length-append o (0 ∷ []), ap length e, length-append i z)

-- nor is one a prefix of it and another octet, if octets are left for a length
unended-length : (id : IdentifierFields) (o : List ℕ) (x : ℕ) (c : Class) (k : Bool) (n : ℕ) (i l : List ℕ)
    → CarriesNumber id o → IsIdentifier c k n i → 1 ≤ length l
    → o ++ x ∷ [] ≡ i ++ l → ⊥
unended-length id o x c k n i l h p some e =
    let r = within-prefix o i (x ∷ []) l (omega (arith, ap length e, length-append o (x ∷ []), length-append i l)) e in
    high_form-no_identifier id o c k n i r.0 h p r.1

-- after the high form so far no octet is refused, if there are at most seven digits
high_form-no_refusal : (code : FaultCode) (id : IdentifierFields) (o : List ℕ) (x : ℕ) → CarriesNumber id o
    → length o ≤ 8
    → IsRefusedOctet o x code → ⊥
high_form-no_refusal code id o x h few (tag_too_long c k prefix eight flag) =
    let size : length o ≡ length prefix.digits + 1 =
    rw prefix.octets_are (omega (arith, length-map prefix.digits (λ d. 128 + d))) in
    omega (arith, eight)
high_form-no_refusal code id o x h few (reserved_length c k n i all) = high_form-no_identifier id o c k n o [] h i
    (sym (append-nil o))
high_form-no_refusal code id o x h few (indefinite_primitive c n i mark) = high_form-no_identifier id o c false n o [] h
    i (sym (append-nil o))
high_form-no_refusal code id o x h few (length_too_large c k n left prefix many nonzero) =
    high_form-no_identifier id o c k n prefix.identifier_octets _ h prefix.identifier prefix.octets_are

-- so an octet is read, and makes no header
pub always-unfinished : (r : Next) (id : IdentifierFields) (o : List ℕ) (x : ℕ) → CarriesNumber id o → length o ≤ 8
    → MakesNext o x r
    → ((p : Part) → r ≡ Unfinished p → ⊥) → ⊥
always-unfinished (Unfinished p) id o x h few f not = not p refl
always-unfinished (Whole d size) id o x h few f not =
    unended-length id o x d.class d.constructed d.number f.identifier_octets f.length_octets h
    f.carried.identifier f.some f.octets_are
always-unfinished (Refused code) id o x h few f not = high_form-no_refusal code id o x h few f

-- what is returned is what the octets are
unfinished-carries : (r : Next) (p : Part) (o : List ℕ) (x : ℕ) → MakesNext o x r → r ≡ Unfinished p
    → Carries p (o ++ x ∷ [])
unfinished-carries r p o x f e = subst (MakesNext o x) e f

-- the high form goes on
pub still-high : (r : Next) (p : Part) (d : IdentifierFields) (o : List ℕ) (x : ℕ) → MakesNext o x r → r ≡ Unfinished p
    → p ≡ Number d → CarriesNumber d (o ++ x ∷ [])
still-high r p d o x f e g = unfinished-carries r (Number d) o x f (e ∙ ap (λ (q : Part). Unfinished q) g)

-- octets of the high form, which has not ended
abbrev pub IsUnended : List ℕ → Type 0
IsUnended o = (d : IdentifierFields) × CarriesNumber d o

-- an octet ends the high form or goes on with it
carried-on : (p : Part) (id : IdentifierFields) (o : List ℕ) (x : ℕ) → CarriesNumber id o → Carries p (o ++ x ∷ [])
    → ((d : IdentifierFields) → p ≡ Identifier d → ⊥)
    → (d : IdentifierFields) × (p ≡ Number d) × CarriesNumber d (o ++ x ∷ [])
carried-on Start id o x h f not = absurd (snoc≢nil o x f)
carried-on (Number d) id o x h f not = (d, refl, f)
carried-on (Identifier d) id o x h f not = absurd (not d refl)
carried-on (Length d n left) id o x h f not =
    absurd (unended-length id o x d.class d.constructed d.number f.prefix.identifier_octets _ h f.prefix.identifier
    (omega arith) f.prefix.octets_are)
carried-on part.Whole id o x h f not = absurd (snoc≢nil o x f)

pub goes-on : (r : Next) (p : Part) (id : IdentifierFields) (o : List ℕ) (x : ℕ) → CarriesNumber id o → MakesNext o x r
    → r ≡ Unfinished p
    → ((d : IdentifierFields) → p ≡ Identifier d → ⊥) → IsUnended (o ++ x ∷ [])
goes-on r p id o x h f e not = let on = carried-on p id o x h (unfinished-carries r p o x f e) not in (on.0, on.2)

pub no-other : (r : Next) (p : Part) (id : IdentifierFields) (o : List ℕ) (x : ℕ) → CarriesNumber id o → MakesNext o x r
    → r ≡ Unfinished p
    → ((d : IdentifierFields) → p ≡ Identifier d → ⊥) → ((d : IdentifierFields) → p ≡ Number d → ⊥) → ⊥
no-other r p id o x h f e not nor = let on = carried-on p id o x h (unfinished-carries r p o x f e) not in nor on.0 on.1

-- the first octet is an identifier, or begins the high form
pub leads-on : (p : Part) (x : ℕ) → Carries p (x ∷ []) → ((d : IdentifierFields) → p ≡ Identifier d → ⊥)
    → ((d : IdentifierFields) → p ≡ Number d → ⊥) → ⊥
leads-on Start x h not nor = let none : x ∷ [] ≡ [] = h in cc
leads-on (Number d) x h not nor = nor d refl
leads-on (Identifier d) x h not nor = not d refl
leads-on (Length d n left) x h not nor =
    some-identifier d.class d.constructed d.number h.prefix.identifier_octets h.prefix.identifier
    (short_prefix h.prefix.identifier_octets _ _ x h.prefix.octets_are)
  where
    short_prefix : (i : List ℕ) (y : ℕ) (l : List ℕ) (x : ℕ) → x ∷ [] ≡ i ++ y ∷ l → i ≡ []
    short_prefix [] y l x e = refl
    short_prefix (a ∷ i) y l x e = absurd (omega (arith, ap length e, length-append i (y ∷ l)))
leads-on part.Whole x h not nor = let none : x ∷ [] ≡ [] = h in cc

-- octets that begin with the high form so far begin with no identifier that ends within it
none-after : (id : IdentifierFields) (o more : List ℕ) (c : Class) (k : Bool) (n : ℕ) (i rest : List ℕ)
    → CarriesNumber id o
    → IsIdentifier c k n i
    → length i ≤ length o → o ++ more ≡ i ++ rest → ⊥
none-after id o more c k n i rest h p few e =
    let r = within-prefix o i more rest few e in high_form-no_identifier id o c k n i r.0 h p r.1

-- the high form has not ended with the third octet
pub no-third : (xs : List ℕ) (id : IdentifierFields)
    → CarriesNumber id (get_or xs 0 0 ∷ get_or xs 1 0 ∷ get_or xs 2 0 ∷ [])
    → 3 ≤ length xs → BeginsWithNoIdentifier xs
no-third [] id h some = absurd (omega arith)
no-third (x ∷ []) id h some = absurd (omega arith)
no-third (x ∷ y ∷ []) id h some = absurd (omega arith)
no-third (x ∷ y ∷ z ∷ xs) id h some =
    λ c k n i rest p few more e. none-after id (x ∷ y ∷ z ∷ []) xs c k n i rest h p few e

-- a header begins with an identifier, and has an octet after it
pub no-short_identifier : (os : List ℕ) → BeginsWithNoIdentifier os → BeginsWithNoShortHeader os
no-short_identifier os none = λ h rest v e few less.
    none h.class h.constructed h.number h.identifier_octets (h.length_octets ++ rest) v.identifier few
    (λ z. some-length h.size h.length_octets v.lengths (prefix-nil h.length_octets rest z))
    (e ∙ append_assoc h.identifier_octets h.length_octets rest)
  where
    prefix-nil : (a b : List ℕ) → a ++ b ≡ [] → a ≡ []
    prefix-nil [] b e = refl
    prefix-nil (x ∷ a) b e = absurd (cc)

-- and then a length that its form may have
pub no-short_length : (os : List ℕ) (id : IdentifierFields) (id_len : ℕ) → BeginsWithIdentifier os id
    → id_len ≡ id.id_len
    → BeginsWithNoLength (take (length os - id_len) (drop id_len os)) id.constructed → BeginsWithNoShortHeader os
no-short_length os id id_len b at none = λ h rest v e few less.
    let cut : os ≡ h.identifier_octets ++ (h.length_octets ++ rest) = e ∙ append_assoc h.identifier_octets h.length_octets rest in
    let prefix : take id.id_len os ≡ h.identifier_octets =
    one-identifier _ h.class _ h.constructed _ h.number (take id.id_len os) h.identifier_octets (drop id.id_len os)
    (h.length_octets ++ rest) b.carried.identifier v.identifier
    (take-append-drop id.id_len os ∙ cut) in
    let form : id.constructed ≡ h.constructed =
    one-form _ h.class _ h.constructed _ h.number (take id.id_len os) h.identifier_octets b.carried.identifier
    v.identifier prefix in
    let count : id_len ≡ length h.identifier_octets = at ∙ (b.carried.count ∙ ap length prefix) in
    let back : drop id_len os ≡ h.length_octets ++ rest =
    rw (cut, count) (drop-append_seam h.identifier_octets (h.length_octets ++ rest)) in
    let all : take (length os - id_len) (drop id_len os) ≡ drop id_len os =
    take_all (length os - id_len) (drop id_len os) (omega (arith, length-drop id_len os)) in
    none h.size h.length_octets rest v.lengths (subst (λ (k : Bool). AllowsSize k h.size) (sym form) v.allowed) less
    (all ∙ back)
