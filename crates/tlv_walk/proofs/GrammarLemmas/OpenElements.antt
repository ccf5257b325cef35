-- A forest that obeys the grammar ends within its bound, and an element obeys the grammar from its header on, as its
-- contents come.
use Rattle.std.proofs.Common.{◌≡◌, inl, inr, ℕ, ◌+◌, ◌≤◌, Bool, true, false, ◌&&◌, leb, List, [], ◌∷◌, ◌++◌}
use Rattle.std.proofs.Common.{length, refl, sym, ap, ◌∙◌, arith, append-nil, length-append, eq-eqb, ne_eqb, leb-false}
use Rattle.std.proofs.lemmas.Bool.{cases_eq, cases_Bool, and_parts, true≢false}
use Rattle.tlv_head.specs.declared.header.Size.{Size}
use Rattle.tlv_head.specs.declared.header.Size.TheVariants.{Definite, Indefinite}
use Rattle.tlv_head.specs.Header.{HeaderValue, IsHeader, announced_length, holds, octets_of, wraps}
use Rattle.tlv_head.specs.HeaderSoFar.{AllowsSize}
use Rattle.tlv_walk.specs.Forest.{Forest, Holder, NoMore, OpenBitString, OpenEndOctets, OpenHeader, OpenHolder}
use Rattle.tlv_walk.specs.Forest.{OpenPrimitive, PaddingOctet, Primitive, contents_length, end_octets, holder_extent, is_whole}
use Rattle.tlv_walk.specs.Forest.{lead, opening, spelling}
use Rattle.tlv_walk.specs.Place.{Fits, IsHeaderAt, IsHolderAt, ObeysGrammar, Place, announced_extent, place_after}
use Rattle.tlv_walk.specs.Place.{place_of_children}
use Rattle.tlv_walk.proofs.GrammarLemmas.Lengths.{LacksOctets}
use Rattle.tlv_walk.proofs.GrammarLemmas.Leads.{wraps-bits}
use Rattle.tlv_walk.proofs.GrammarLemmas.Bounds.{IsDefiniteLength, fits-inside, has_length, length-full}
use Rattle.tlv_walk.proofs.GrammarLemmas.Bounds.{length-lacks, within-le, within-outside}
use Rattle.tlv_walk.proofs.GrammarLemmas.Spellings.{length-holder, length-opening, length-primitive}
use Rattle.tlv_walk.proofs.GrammarLemmas.ShortHeaders.{not-holding}
use Rattle.tlv_walk.proofs.GrammarLemmas.PushSteps.{is_filled_by, holder_so_far, primitive_so_far, holder_begun}
use Rattle.tlv_walk.proofs.GrammarLemmas.PushSteps.{element_begun, Spells}

-- if what an element holds ends within the bound inside, the element so far ends within that outside
reaches-open_holder : (p : Place) (h : HeaderValue) (inside : Forest)
    → Fits p (length (octets_of h) + announced_length h.size)
    → Fits (place_of_children p h) (length (spelling inside))
    → Fits p (length (opening h ++ spelling inside))
reaches-open_holder p h inside f g =
    let size : length (opening h ++ spelling inside)
    ≡ length (octets_of h) + (length (lead h) + length (spelling inside)) =
    omega (arith, length-append (opening h) (spelling inside), length-opening h) in
    within-le p.bound _ _ (omega arith)
    (within-outside h.size (p.offset + length (octets_of h)) p.bound (length (lead h) + length (spelling inside))
    (within-le p.bound _ _ (omega arith) f)
    (within-le (place_of_children p h).bound _ _ (omega (arith, length-opening h)) g))

-- a forest that obeys the grammar ends within the bound
pub spelling-fits : (p : Place) (f : Forest) → Fits p 0 → ObeysGrammar p f → Fits p (length (spelling f))
spelling-fits p NoMore z w = z
spelling-fits p (PaddingOctet rest) z w =
    within-le p.bound _ _ (omega arith)
    (spelling-fits (place_after p 1) rest (within-le p.bound _ _ (omega arith) w.0.2) w.1)
spelling-fits p (Primitive h c rest) z w =
    within-le p.bound _ _ (omega (arith, length-primitive h c rest))
    (spelling-fits (place_after p (length (octets_of h) + length c)) rest
    (within-le p.bound _ _ (omega arith) w.0.0.fits)
    w.1)
spelling-fits p (Holder h inside rest) z w =
    within-le p.bound _ _ (omega (arith, length-holder h inside rest))
    (spelling-fits (place_after p (holder_extent h inside)) rest (within-le p.bound _ _ (omega arith) w.0.0.fits) w.2)
spelling-fits p (OpenPrimitive h c) z w = within-le p.bound _ _ (omega (arith, length-append (octets_of h) c, w.1))
    w.0.fits
spelling-fits p (OpenHolder h inside) z w =
    reaches-open_holder p h inside w.0.0.fits
    (spelling-fits (place_of_children p h) inside (fits-inside p h w.0.0.holding w.0.0.fits) w.1)
spelling-fits p (OpenBitString h) z w = within-le p.bound _ _ (omega arith) w.0.fits
spelling-fits p (OpenHeader o) z w = w.2
spelling-fits p OpenEndOctets z w = w.1

-- 8.1.3.2 a): the length of a primitive is definite
definite-primitive : (constructed : Bool) (s : Size) → constructed ≡ false → AllowsSize constructed s
    → (n : ℕ) × (s ≡ Definite n)
definite-primitive true s e a = absurd (true≢false e)
definite-primitive false (Definite n) e a = (n, refl)
definite-primitive false Indefinite e a = absurd (cc (a))

-- an element that holds no others has a definite length
pub size-definite : (h : HeaderValue) → IsHeader h → holds h ≡ false → (n : ℕ) × (h.size ≡ Definite n)
size-definite h valid e = definite-primitive h.constructed h.size (not-holding h.constructed (wraps h) e) valid.allowed

-- contents octets of a primitive, no more than announced
pub primitive_so_far-spells : (p : Place) (h : HeaderValue) (c : List ℕ) (n : ℕ) → IsHeaderAt p h
    → holds h ≡ false → h.size ≡ Definite n → length c ≤ n → Fits p (length (octets_of h) + n)
    → Spells p (octets_of h ++ c) (primitive_so_far h c)
primitive_so_far-spells p h c n header form e most f =
    let all : announced_length h.size ≡ n = ap announced_length e in
    elim (cases_eq (length c) n) [
      | inl full ↦ rw (eq-eqb (length c) (announced_length h.size) (full ∙ sym all)) (record {
        obeys_grammar = (
          (record { header = header; holding = form; fits = rw full f }, e ∙ ap Definite (sym full)),
          tt,
        );
        spelled = ap (λ (t : List ℕ). octets_of h ++ t) (append-nil c);
      })
      | inr less ↦ rw (ne_eqb (length c) (announced_length h.size) (λ z. less (z ∙ all))) (record {
        obeys_grammar = (
          record { header = header; holding = form; fits = within-le p.bound _ _ (omega arith) f },
          omega arith,
        );
        spelled = refl;
      })
    ]

-- an element that holds others, with all its contents octets by its definite length
pub holder-spells : (p : Place) (h : HeaderValue) (g : Forest) → IsHolderAt p h (announced_extent h)
    → ObeysGrammar (place_of_children p h) g
    → is_whole g ≡ true → IsDefiniteLength h.size (contents_length h g)
    → Spells p (opening h ++ spelling g) (Holder h g NoMore)
holder-spells p h g entry w whole full =
    let none : length (end_octets h.size) ≡ 0 = ap length full.ends in
    record {
      obeys_grammar = (
        (
          record {
            header = entry.header;
            holding = entry.holding;
            shallow = entry.shallow;
            fits = within-le p.bound _ _ (omega (arith, full.all, length-opening h)) entry.fits;
          },
          whole,
          full.filled,
        ),
        w,
        tt,
      );
      spelled =
          ap (λ (t : List ℕ). opening h ++ (spelling g ++ (t ++ []))) full.ends
          ∙ ap (λ (t : List ℕ). opening h ++ t) (append-nil (spelling g));
    }

-- an element that is not filled lacks octets, if what it holds is whole
pub unfilled-lacks : (p : Place) (h : HeaderValue) (g : Forest) → is_filled_by h g ≡ false → is_whole g ≡ true
    → Fits (place_of_children p h) (length (spelling g)) → LacksOctets h.size (contents_length h g)
unfilled-lacks p h g e whole there =
    let short : has_length h.size (contents_length h g) ≡ false = rw whole at e in
    length-lacks h.size (p.offset + length (octets_of h)) p.bound
    _ (within-le (place_of_children p h).bound _ _ (omega (arith, length-opening h)) there) short

-- if what an element holds obeys the grammar, so does the element
pub holder_so_far-spells : (p : Place) (h : HeaderValue) (g : Forest) → IsHolderAt p h (announced_extent h)
    → ObeysGrammar (place_of_children p h) g → Spells p (opening h ++ spelling g) (holder_so_far h g)
holder_so_far-spells p h g entry w = elim (cases_Bool (is_filled_by h g)) [
  | inl e ↦
      let parts : (is_whole g ≡ true) × (has_length h.size (contents_length h g) ≡ true) = and_parts _ _ e in
      rw e (holder-spells p h g entry w parts.0 (length-full h.size _ parts.1))
  | inr e ↦
      let there : Fits (place_of_children p h) (length (spelling g)) =
      spelling-fits (place_of_children p h) g (fits-inside p h entry.holding entry.fits) w in
      rw e (record { obeys_grammar = ((entry, λ whole. unfilled-lacks p h g e whole there), w); spelled = refl })
]

-- an element that holds none yet
holder_begun-spells : (p : Place) (h : HeaderValue) (l : List ℕ) → lead h ≡ l → IsHolderAt p h (announced_extent h)
    → Spells p (octets_of h) (holder_begun h l)
holder_begun-spells p h [] e entry =
    let r : Spells p (opening h ++ []) (holder_so_far h NoMore) = holder_so_far-spells p h NoMore entry tt in
    let none : opening h ++ [] ≡ octets_of h =
    append-nil (opening h) ∙ ap (λ (t : List ℕ). octets_of h ++ t) e ∙ append-nil (octets_of h) in
    record { obeys_grammar = r.obeys_grammar; spelled = r.spelled ∙ none }
holder_begun-spells p h (x ∷ xs) e entry = record { obeys_grammar = (entry, wraps-bits h x xs e); spelled = refl }

-- a header where one may be obeys the grammar
pub element_begun-spells : (p : Place) (h : HeaderValue) (k : Bool) → IsHeaderAt p h → holds h ≡ k
    → (k && leb 128 p.depth) ≡ false → Fits p (announced_extent h)
    → Spells p (octets_of h) (element_begun k h)
element_begun-spells p h true header form d f = holder_begun-spells p h (lead h) refl (record {
  header = header;
  holding = form;
  shallow = leb-false 128 p.depth d;
  fits = f;
})
element_begun-spells p h false header form d f =
    let n : (n : ℕ) × (h.size ≡ Definite n) = size-definite h header.valid form in
    let f' : Fits p (length (octets_of h) + n.0) = rw (ap announced_length n.1) at f in
    rw (append-nil (octets_of h)) at (primitive_so_far-spells p h [] n.0 header form n.1 (omega arith) f')
