-- The octets, the room and the depth determine what a push returns.
use Rattle.std.proofs.Common.{◌≡◌, ◌≢◌, ℕ, ◌+◌, true, ◌<◌, ◌≤◌, [], ◌∷◌, ◌++◌, Option, Some, IfSome, refl, ap, sym, ◌∙◌}
use Rattle.std.proofs.Common.{arith, append-nil, length, subst}
use Rattle.tlv_head.specs.declared.fault.FaultCode.{FaultCode}
use Rattle.tlv_head.specs.declared.header.Size.{Size}
use Rattle.tlv_head.specs.declared.header.Size.TheVariants.{Definite, Indefinite}
use Rattle.tlv_head.specs.declared.head_reader.Head.{Head}
use Rattle.tlv_head.specs.declared.head_reader.Head.TheVariants.{Whole, Refused}
use Rattle.tlv_head.specs.Header.{HeaderValue, holds}
use Rattle.tlv_head.specs.HeadReader.{ContentsFit, HeadReaderState, Completes, FitsThere, IsRefusedPush, Pushes, more}
use Rattle.tlv_head.specs.HeadReader.{no_room, overrun, refused, refused_octet, too_deep, whole}
use Rattle.tlv_head.specs.Refusal.{IsHeaderPrefix, IsRefusedOctet}
use Rattle.tlv_head.proofs.GrammarLemmas.Headers.{prefix-no_header}
use Rattle.tlv_head.proofs.GrammarLemmas.RefusedOctets.{one-refusal, refused-none}
use Rattle.tlv_head.proofs.GrammarLemmas.Scan.{same-header}

-- an octet completes at most one header
pub completes_unique : (r : HeadReaderState) (x : ℕ) (g h : HeaderValue) → Completes r (x ∷ []) g
    → Completes r (x ∷ []) h → g ≡ h
completes_unique r x g h p q =
    same-header g h p.valid q.valid
    (λ i. record { offset = (p.offset ∙ sym q.offset) i; named = (p.named ∙ sym q.named) i })
    (p.octets_are ∙ sym q.octets_are)

-- a prefix of a header is no whole header
pub prefix_not_whole : (r : HeadReaderState) (x : ℕ) (h : HeaderValue) → IsHeaderPrefix (r.octets ++ x ∷ [])
    → Completes r (x ∷ []) h → ⊥
prefix_not_whole r x h f c = prefix-no_header _ h f c.valid c.octets_are

-- an octet that is refused for the octets alone completes no header
refused_completes_none : (code : FaultCode) (r : HeadReaderState) (x : ℕ) (h : HeaderValue)
    → IsRefusedOctet r.octets x code → Completes r (x ∷ []) h → ⊥
refused_completes_none code r x h p c =
    refused-none code r.octets x p h [] c.valid (append-nil (r.octets ++ x ∷ []) ∙ sym c.octets_are)

-- what is returned if an octet is refused
pub refusal-is : (old : HeadReaderState) (x : ℕ) (room : Option ℕ) (depth : ℕ) (code : FaultCode) (offset : ℕ)
    (r : Head)
    → r ≡ Refused (record {
      code = code;
      offset = offset;
    })
    → IsRefusedPush old x room depth code → offset ≡ old.offset + length old.octets → Pushes old x room depth old r
refusal-is old x room depth code offset r e cause at =
    subst (Pushes old x room depth old) (sym e) (refused _ cause at refl)

-- contents that fit need room
room_left : (size : Size) (room : Option ℕ) → ContentsFit size room → room ≢ Some 0
room_left (Definite n) room f e =
    let none : IfSome (Some 0) (λ r. n < r) = subst (λ (o : Option ℕ). IfSome o (λ r. n < r)) e f in omega (arith, none)
room_left Indefinite room f e =
    let none : IfSome (Some 0) (λ r. 0 < r) = subst (λ (o : Option ℕ). IfSome o (λ r. 0 < r)) e f in omega (arith, none)

-- if an octet is refused for the depth or the bound, the header that it completes may not be there
refused_not_whole : (code : FaultCode) (r : HeadReaderState) (x : ℕ) (room : Option ℕ) (depth : ℕ) (h : HeaderValue)
    → IsRefusedPush r x room depth code
    → Completes r (x ∷ []) h → FitsThere h room depth → ⊥
refused_not_whole code r x room depth h (no_room z) c f = room_left h.size room f.contents_fit z
refused_not_whole code r x room depth h (refused_octet m p) c f = refused_completes_none code r x h p c
refused_not_whole code r x room depth h (too_deep m g d k deep) c f =
    let s : holds h ≡ true = subst (λ (g : HeaderValue). holds g ≡ true) (completes_unique r x g h d c) k in
    let l : depth < 128 = f.shallow s in
    omega (arith, deep)
refused_not_whole code r x room depth h (overrun m g d k past) c f =
    past (subst (λ (g : HeaderValue). ContentsFit g.size room) (completes_unique r x h g c d) f.contents_fit)

pub push-exact : (old new : HeadReaderState) (x : ℕ) (room : Option ℕ) (depth : ℕ) (r : Head)
    → Pushes old x room depth new r → (h : HeaderValue) → Completes old (x ∷ []) h
    → FitsThere h room depth → r ≡ Whole h
push-exact old new x room depth r (more m prefix e) h c f = absurd (prefix_not_whole old x h prefix c)
push-exact old new x room depth r (whole g d there e) h c f = ap (λ k. Whole k) (completes_unique old x g h d c)
push-exact old new x room depth r (refused fault cause at e) h c f =
    absurd (refused_not_whole fault.code old x room depth h cause c f)

not_deep_and_past : (r : HeadReaderState) (x depth : ℕ) (g h : HeaderValue) → Completes r (x ∷ []) g → holds g ≡ true
    → 128 ≤ depth → Completes r (x ∷ []) h → (holds h ≡ true → depth < 128) → ⊥
not_deep_and_past r x depth g h c k deep d shallow =
    let s : holds h ≡ true = subst (λ (g : HeaderValue). holds g ≡ true) (completes_unique r x g h c d) k in
    let l : depth < 128 = shallow s in
    omega (arith, deep)

-- an octet is refused with one code alone
one_code : (c d : FaultCode) (r : HeadReaderState) (x : ℕ) (room : Option ℕ) (depth : ℕ)
    → IsRefusedPush r x room depth c → IsRefusedPush r x room depth d → c ≡ d
one_code c d r x room depth (no_room z) (no_room y) = refl
one_code c d r x room depth (no_room z) (refused_octet n p) = absurd (n z)
one_code c d r x room depth (no_room z) (too_deep n h e k l) = absurd (n z)
one_code c d r x room depth (no_room z) (overrun n h e k l) = absurd (n z)
one_code c d r x room depth (refused_octet n p) (no_room y) = absurd (n y)
one_code c d r x room depth (refused_octet n p) (refused_octet m q) = one-refusal c d r.octets x p q
one_code c d r x room depth (refused_octet n p) (too_deep m h e k l) = absurd (refused_completes_none c r x h p e)
one_code c d r x room depth (refused_octet n p) (overrun m h e k l) = absurd (refused_completes_none c r x h p e)
one_code c d r x room depth (too_deep n h e k l) (no_room y) = absurd (n y)
one_code c d r x room depth (too_deep n h e k l) (refused_octet m q) = absurd (refused_completes_none d r x h q e)
one_code c d r x room depth (too_deep n h e k l) (too_deep m g f i j) = refl
one_code c d r x room depth (too_deep n h e k l) (overrun m g f i j) =
    absurd (not_deep_and_past r x depth h g e k l f i)
one_code c d r x room depth (overrun n h e k l) (no_room y) = absurd (n y)
one_code c d r x room depth (overrun n h e k l) (refused_octet m q) = absurd (refused_completes_none d r x h q e)
one_code c d r x room depth (overrun n h e k l) (too_deep m g f i j) =
    absurd (not_deep_and_past r x depth g h f i j e k)
one_code c d r x room depth (overrun n h e k l) (overrun m g f i j) = refl

refused_no_prefix : (code : FaultCode) (r : HeadReaderState) (x : ℕ) (room : Option ℕ) (depth : ℕ)
    → IsRefusedPush r x room depth code → room ≢ Some 0 → IsHeaderPrefix (r.octets ++ x ∷ []) → ⊥
refused_no_prefix code r x room depth (no_room z) n f = n z
refused_no_prefix code r x room depth (refused_octet m p) n f =
    refused-none code r.octets x p f.header f.more f.valid f.prefix
refused_no_prefix code r x room depth (too_deep m h c k l) n f = prefix_not_whole r x h f c
refused_no_prefix code r x room depth (overrun m h c k l) n f = prefix_not_whole r x h f c

-- a push returns one result alone
pub one-result : (old new other : HeadReaderState) (x : ℕ) (room : Option ℕ) (depth : ℕ) (r s : Head)
    → Pushes old x room depth new r → Pushes old x room depth other s → r ≡ s
one-result old new other x room depth r s a (whole h c there e) =
    push-exact old new x room depth r a h c there
one-result old new other x room depth r s (whole h c there e) b =
    sym (push-exact old other x room depth s b h c there)
one-result old new other x room depth r s (more n prefix e) (more m prefix' e') = refl
one-result old new other x room depth r s (more n prefix e) (refused g cause at e') =
    absurd (refused_no_prefix g.code old x room depth cause n prefix)
one-result old new other x room depth r s (refused f cause at e) (more n prefix e') =
    absurd (refused_no_prefix f.code old x room depth cause n prefix)
one-result old new other x room depth r s (refused f cause at e) (refused g cause' at' e') =
    let code : f.code ≡ g.code = one_code f.code g.code old x room depth cause cause' in
    let offset : f.offset ≡ g.offset = at ∙ sym at' in
    let same : f ≡ g = λ i. record { code = code i; offset = offset i } in
    ap (λ k. Refused k) same
