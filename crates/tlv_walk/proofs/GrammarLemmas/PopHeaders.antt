-- A forest that obeys the grammar and ends in a header, or in a prefix of one, is a shorter one and the octet pushed.
use Rattle.std.proofs.Common.{◌≡◌, ◌≢◌, ℕ, ◌+◌, ◌≤◌, Bool, true, false, ◌&&◌, leb, List, [], ◌∷◌, ◌++◌}
use Rattle.std.proofs.Common.{length, refl, sym, ap, ◌∙◌, arith, append_assoc, append-nil, length-append, ne_eqb}
use Rattle.std.proofs.lemmas.Bool.{lt-leb}
use Rattle.tlv_head.specs.Header.{HeaderValue, IsHeader, holds, octets_of}
use Rattle.tlv_head.specs.Refusal.{IsHeaderPrefix}
use Rattle.tlv_head.proofs.GrammarLemmas.Scan.{Origin, Scan, Fresh, High, Named, Long, Ready, Stuck, Over, origin_of}
use Rattle.tlv_head.proofs.GrammarLemmas.Scan.{scan, scan_from-append, scan-header, is_more, more-from_prefix}
use Rattle.tlv_head.proofs.ReaderLemmas.Prefix.{header-two}
use Rattle.tlv_walk.specs.Forest.{Forest, NoMore, OpenBitString, OpenHeader, is_wrapping_bit_string, lead, opening}
use Rattle.tlv_walk.specs.Forest.{spelling}
use Rattle.tlv_walk.specs.Place.{Fits, IsHeaderAt, IsHolderAt, ObeysGrammar, Place, announced_extent}
use Rattle.tlv_walk.proofs.GrammarLemmas.Bounds.{fits-within, within-le}
use Rattle.tlv_walk.proofs.GrammarLemmas.Leads.{lead-one, wraps-bits}
use Rattle.tlv_walk.proofs.GrammarLemmas.PushSteps.{Grown, begin, complete, element_begun, holder_begun, holder_so_far}
use Rattle.tlv_walk.proofs.GrammarLemmas.PushSteps.{origin, push}
use Rattle.tlv_walk.proofs.GrammarLemmas.OpenElements.{element_begun-spells, holder_so_far-spells}

-- a list is empty, or has a last element
pub data Back (o : List ℕ) : Type 0 where
  is_nil : o ≡ [] → Back o
  is_push : (front : List ℕ) (last : ℕ) → o ≡ front ++ last ∷ [] → Back o

-- one more element before a list
back-cons : (x : ℕ) (xs : List ℕ) → Back xs → Back (x ∷ xs)
back-cons x xs (is_nil e) = is_push [] x (ap (λ (t : List ℕ). x ∷ t) e)
back-cons x xs (is_push front last e) = is_push (x ∷ front) last (ap (λ (t : List ℕ). x ∷ t) e)

-- each list is one or the other
pub list-back : (xs : List ℕ) → Back xs
list-back [] = is_nil refl
list-back (x ∷ xs) = back-cons x xs (list-back xs)

-- a forest that obeys the grammar, and the octet that makes g of it
pub record Popped (p : Place) (g : Forest) : Type 0 where
  pub from : Forest
  pub last : ℕ
  pub obeys_grammar : ObeysGrammar p from
  pub spelled : spelling g ≡ spelling from ++ last ∷ []
  pub pushed : push p from last ≡ Grown g

-- an octet after a prefix of a header, by what all of them say
pub push-scan : (p : Place) (o : List ℕ) (x : ℕ) (s : Scan) → Fits p (length o + 1)
    → scan (origin p) (o ++ x ∷ []) ≡ s → push p (OpenHeader o) x ≡ begin p (o ++ x ∷ []) s
push-scan p o x s f e =
    rw (fits-within p.bound _ f) (ap (begin p (o ++ x ∷ [])) (sym (scan_from-append (origin p) Fresh o (x ∷ [])) ∙ e))

-- an octet that completes a header
pub push-header : (p : Place) (h : HeaderValue) (o : List ℕ) (x : ℕ) → IsHeader h → origin_of h ≡ origin p
    → octets_of h ≡ o ++ x ∷ [] → Fits p (length o + 1)
    → push p (OpenHeader o) x ≡ complete p h
push-header p h o x valid at e f =
    push-scan p o x (Ready h) f
    (ap (scan (origin p)) (sym e) ∙ (ap (λ (a : Origin). scan a (octets_of h)) (sym at) ∙ scan-header h valid))

-- octets that make no header yet are a prefix of one
begin-more : (p : Place) (o : List ℕ) (s : Scan) → is_more s ≡ true → begin p o s ≡ Grown (OpenHeader o)
begin-more p o Fresh e = refl
begin-more p o (High c k ds) e = refl
begin-more p o (Named c k n i) e = refl
begin-more p o (Long c k n i m ds) e = refl
begin-more p o (Ready h) e = absurd (cc)
begin-more p o (Stuck code) e = absurd (cc)
begin-more p o Over e = absurd (cc)

-- an octet that makes a longer prefix of a header
pub push-prefix : (p : Place) (o : List ℕ) (x : ℕ) → IsHeaderPrefix (o ++ x ∷ []) → Fits p (length o + 1)
    → push p (OpenHeader o) x ≡ Grown (OpenHeader (o ++ x ∷ []))
push-prefix p o x front f =
    push-scan p o x _ f refl ∙ begin-more p (o ++ x ∷ []) _ (more-from_prefix (origin p) (o ++ x ∷ []) front)

-- a header that may be there is a forest
pub complete-element_begun : (p : Place) (h : HeaderValue) (k : Bool) → holds h ≡ k → (k && leb 128 p.depth) ≡ false
    → Fits p (announced_extent h) → complete p h ≡ Grown (element_begun k h)
complete-element_begun p h k e d f = rw (e, d, fits-within p.bound _ f)

-- a header that is there begins there
pub header-origin : (p : Place) (h : HeaderValue) → IsHeaderAt p h → origin_of h ≡ origin p
header-origin p h header = λ i. record { offset = header.offset i; named = header.named i }

-- a header alone is popped by its last octet
pub header-popped : (p : Place) (h : HeaderValue) (k : Bool) → IsHeaderAt p h → holds h ≡ k
    → (k && leb 128 p.depth) ≡ false → Fits p (announced_extent h) → Popped p (element_begun k h)
header-popped p h k header form d f = elim (list-back (octets_of h)) [
  | is_nil e ↦ absurd (omega (arith, ap length e, header-two h header.valid))
  | is_push o x e ↦
      let size : length (octets_of h) ≡ length o + 1 = ap length e ∙ length-append o (x ∷ []) in
      let two : 2 ≤ length (octets_of h) = header-two h header.valid in
      record {
        from = OpenHeader o;
        last = x;
        obeys_grammar = (
          λ z. omega (arith, ap length z),
          record {
            header = h;
            more = x ∷ [];
            valid = header.valid;
            proper = λ z. omega (arith, ap length z);
            prefix = sym e;
          },
          within-le p.bound _ _ (omega arith) f,
        );
        spelled = (element_begun-spells p h k header form d f).spelled ∙ e;
        pushed = push-header p h o x header.valid (header-origin p h header) e (within-le p.bound _ _ (omega arith) f)
            ∙ complete-element_begun p h k form d f;
      }
]

-- an element that holds none yet is popped by the last octet of its header
pub holder_begun-popped : (p : Place) (h : HeaderValue) (l : List ℕ) → lead h ≡ l → IsHolderAt p h (announced_extent h)
    → Popped p (holder_begun h l)
holder_begun-popped p h l e entry =
    let r : Popped p (holder_begun h (lead h)) =
    header-popped p h true entry.header entry.holding (lt-leb 128 p.depth entry.shallow) entry.fits in
    rw (ap (holder_begun h) e) at r

-- an element that holds none yet
pub lead-popped : (p : Place) (h : HeaderValue) (l : List ℕ) → lead h ≡ l → IsHolderAt p h (announced_extent h)
    → Popped p (holder_so_far h NoMore)
lead-popped p h [] e entry = holder_begun-popped p h [] e entry
lead-popped p h (x ∷ xs) e entry =
    let bits : is_wrapping_bit_string h ≡ true = wraps-bits h x xs e in
    let one : lead h ≡ 0 ∷ [] = lead-one h bits in
    record {
      from = OpenBitString h;
      last = 0;
      obeys_grammar = (entry, bits);
      spelled =
          (holder_so_far-spells p h NoMore entry tt).spelled ∙ append-nil (opening h)
          ∙ ap (λ (t : List ℕ). octets_of h ++ t) one;
      pushed = refl;
    }

-- no header begins with 00
more-nonzero : (at : Origin) (x : ℕ) → is_more (scan at (x ∷ [])) ≡ true → x ≢ 0
more-nonzero at x e z = let e' : is_more (scan at (0 ∷ [])) ≡ true = rw z at e in cc

-- a prefix of a header is popped
pub prefix-popped : (p : Place) (o : List ℕ) (x : ℕ) → IsHeaderPrefix (o ++ x ∷ []) → Fits p (length (o ++ x ∷ []))
    → Popped p (OpenHeader (o ++ x ∷ []))
prefix-popped p [] x front f =
    let nz : x ≢ 0 = more-nonzero (origin p) x (more-from_prefix (origin p) (x ∷ []) front) in
    record {
      from = NoMore;
      last = x;
      obeys_grammar = tt;
      spelled = refl;
      pushed = rw (fits-within p.bound (p.offset + 1) f, ne_eqb x 0 nz);
    }
prefix-popped p (y ∷ o) x front f = record {
  from = OpenHeader (y ∷ o);
  last = x;
  obeys_grammar = (
    λ z. omega (arith, ap length z),
    record {
      header = front.header;
      more = x ∷ front.more;
      valid = front.valid;
      proper = λ z. omega (arith, ap length z);
      prefix = sym (append_assoc (y ∷ o) (x ∷ []) front.more) ∙ front.prefix;
    },
    within-le p.bound _ _ (omega (arith, length-append (y ∷ o) (x ∷ []))) f,
  );
  spelled = refl;
  pushed = push-prefix p (y ∷ o) x front (within-le p.bound _ _ (omega (arith, length-append (y ∷ o) (x ∷ []))) f);
}
