-- A walker's state is a forest that obeys the grammar, taken apart along its open elements.
use Rattle.std.proofs.Common.{◌≡◌, ◌↔◌, ℕ, ◌+◌, Bool, true, false, cond, eqb, List, [], ◌∷◌, ◌++◌, length, None, refl}
use Rattle.std.proofs.Common.{sym, ap, ◌∙◌, subst, arith, append_assoc}
use Rattle.std.proofs.lemmas.Bool.{true≢false}
use Rattle.tlv_head.specs.declared.header.Size.{Size}
use Rattle.tlv_head.specs.declared.header.Size.TheVariants.{Definite, Indefinite}
use Rattle.tlv_head.specs.Header.{HeaderValue, announced_length, octets_of}
use Rattle.tlv_walk.specs.declared.framing.Framing.{Framing}
use Rattle.tlv_walk.specs.Ending.{open_end}
use Rattle.tlv_walk.specs.Forest.{Forest, Holder, NoMore, OpenBitString, OpenEndOctets, OpenHeader, OpenHolder}
use Rattle.tlv_walk.specs.Forest.{OpenPrimitive, PaddingOctet, Primitive, contents_length, end_octets, holder_extent, is_whole}
use Rattle.tlv_walk.specs.Forest.{opening, spelling}
use Rattle.tlv_walk.specs.Place.{ObeysGrammar, Place, is_indefinite, place_after, top_place}
use Rattle.tlv_walk.specs.Private.Stack.{bound_in}
use Rattle.tlv_walk.proofs.GrammarLemmas.Lengths.{LacksOctets}
use Rattle.tlv_walk.specs.Stack.{IsInIndefinite}
use Rattle.tlv_walk.specs.Private.Zipper.{AreLayers, AreWhole, BitStringTail, NoTail, PrimitiveTail, EndOctetsTail}
use Rattle.tlv_walk.specs.Private.Zipper.{HeaderTail, Layer, Tail, Zipper, frames_of, place_in, spelling_of_layers}
use Rattle.tlv_walk.proofs.GrammarLemmas.PushSteps.{is_filled_by}
use Rattle.tlv_walk.proofs.GrammarLemmas.Spellings.{append_assoc-3, append_assoc-4, length-holder, length-primitive}

-- whole elements, and then others
abbrev pub followed_by : Forest → Forest → Forest
followed_by NoMore f = f
followed_by (PaddingOctet rest) f = PaddingOctet (followed_by rest f)
followed_by (Primitive h c rest) f = Primitive h c (followed_by rest f)
followed_by (Holder h inside rest) f = Holder h inside (followed_by rest f)
followed_by (OpenPrimitive h c) f = OpenPrimitive h c
followed_by (OpenHolder h inside) f = OpenHolder h inside
followed_by (OpenBitString h) f = OpenBitString h
followed_by (OpenHeader octets) f = OpenHeader octets
followed_by OpenEndOctets f = OpenEndOctets

-- elements in the innermost open one
abbrev pub forest_in_layers : List Layer → Forest → Forest
forest_in_layers [] f = f
forest_in_layers (l ∷ ls) f = forest_in_layers ls (followed_by l.before (OpenHolder l.header f))

-- the same, where each element that is filled ends
abbrev pub settled_forest : List Layer → Forest → Forest
settled_forest [] f = f
settled_forest (l ∷ ls) f =
    cond (is_filled_by l.header f) (settled_forest ls (followed_by l.before (Holder l.header f NoMore)))
    (forest_in_layers (l ∷ ls) f)

abbrev pub primitive_in : List Layer → Forest → HeaderValue → List ℕ → Bool → Forest
primitive_in ls here h c true = settled_forest ls (followed_by here (Primitive h c NoMore))
primitive_in ls here h c false = forest_in_layers ls (followed_by here (OpenPrimitive h c))

-- what a state has been read as
abbrev pub reading_in : List Layer → Forest → Tail → Forest
reading_in ls here NoTail = settled_forest ls here
reading_in ls here (PrimitiveTail h c) = primitive_in ls here h c (eqb (length c) (announced_length h.size))
reading_in ls here (BitStringTail h) = forest_in_layers ls (followed_by here (OpenBitString h))
reading_in ls here (HeaderTail octets) = forest_in_layers ls (followed_by here (OpenHeader octets))
reading_in ls here EndOctetsTail = forest_in_layers ls (followed_by here OpenEndOctets)

abbrev pub reading_of : Zipper → Forest
reading_of s = reading_in s.layers s.here s.tail

-- ---- places

-- a place after one that is after another
after-after : (p : Place) (m n k : ℕ) → m + n ≡ k → place_after (place_after p m) n ≡ place_after p k
after-after p m n k e =
    let same : (p.offset + m) + n ≡ p.offset + k = omega arith in ap (λ (i : ℕ). record p { offset = i }) same

-- no octets on
pub after-none : (p : Place) → place_after p 0 ≡ p
after-none p = let same : p.offset + 0 ≡ p.offset = omega arith in ap (λ (i : ℕ). record p { offset = i }) same

-- what obeys the grammar there does so by either way to the place
grammar-after : (p : Place) (m n k : ℕ) (g : Forest) → m + n ≡ k → ObeysGrammar (place_after p k) g
    → ObeysGrammar (place_after (place_after p m) n) g
grammar-after p m n k g e w = subst (λ (q : Place). ObeysGrammar q g) (sym (after-after p m n k e)) w

-- ---- whole elements, and then others

-- their octets
pub spelling-followed_by : (f g : Forest) → is_whole f ≡ true → spelling (followed_by f g) ≡ spelling f ++ spelling g
spelling-followed_by NoMore g e = refl
spelling-followed_by (PaddingOctet rest) g e = ap (λ (t : List ℕ). 0 ∷ t) (spelling-followed_by rest g e)
spelling-followed_by (Primitive h c rest) g e =
    ap (λ (t : List ℕ). octets_of h ++ (c ++ t)) (spelling-followed_by rest g e)
    ∙ sym (append_assoc-3 (octets_of h) c (spelling rest) (spelling g))
spelling-followed_by (Holder h inside rest) g e =
    ap (λ (t : List ℕ). opening h ++ (spelling inside ++ (end_octets h.size ++ t))) (spelling-followed_by rest g e)
    ∙ sym (append_assoc-4 (opening h) (spelling inside) (end_octets h.size) (spelling rest) (spelling g))
spelling-followed_by (OpenPrimitive h c) g e = absurd (true≢false (sym e))
spelling-followed_by (OpenHolder h inside) g e = absurd (true≢false (sym e))
spelling-followed_by (OpenBitString h) g e = absurd (true≢false (sym e))
spelling-followed_by (OpenHeader octets) g e = absurd (true≢false (sym e))
spelling-followed_by OpenEndOctets g e = absurd (true≢false (sym e))

-- nothing is open if nothing of the others is
pub whole-followed_by : (f g : Forest) → is_whole f ≡ true → is_whole (followed_by f g) ≡ is_whole g
whole-followed_by NoMore g e = refl
whole-followed_by (PaddingOctet rest) g e = whole-followed_by rest g e
whole-followed_by (Primitive h c rest) g e = whole-followed_by rest g e
whole-followed_by (Holder h inside rest) g e = whole-followed_by rest g e
whole-followed_by (OpenPrimitive h c) g e = absurd (true≢false (sym e))
whole-followed_by (OpenHolder h inside) g e = absurd (true≢false (sym e))
whole-followed_by (OpenBitString h) g e = absurd (true≢false (sym e))
whole-followed_by (OpenHeader octets) g e = absurd (true≢false (sym e))
whole-followed_by OpenEndOctets g e = absurd (true≢false (sym e))

-- they obey the grammar if the others do, after them
pub grammar-followed_by : (p : Place) (f g : Forest) → AreWhole p f
    → ObeysGrammar (place_after p (length (spelling f))) g → ObeysGrammar p (followed_by f g)
grammar-followed_by p NoMore g a w = subst (λ (q : Place). ObeysGrammar q g) (after-none p) w
grammar-followed_by p (PaddingOctet rest) g a w = (
  a.obeys_grammar.0,
  grammar-followed_by (place_after p 1) rest g (record { obeys_grammar = a.obeys_grammar.1; whole = a.whole })
      (grammar-after p 1 (length (spelling rest)) _ g (omega arith) w),
)
grammar-followed_by p (Primitive h c rest) g a w = (
  a.obeys_grammar.0,
  grammar-followed_by (place_after p (length (octets_of h) + length c)) rest g (record {
    obeys_grammar = a.obeys_grammar.1;
    whole = a.whole;
  })
      (grammar-after p (length (octets_of h) + length c) (length (spelling rest)) _ g (sym (length-primitive h c rest))
      w),
)
grammar-followed_by p (Holder h inside rest) g a w = (
  a.obeys_grammar.0,
  a.obeys_grammar.1,
  grammar-followed_by (place_after p (holder_extent h inside)) rest g
      (record { obeys_grammar = a.obeys_grammar.2; whole = a.whole })
      (grammar-after p (holder_extent h inside) (length (spelling rest)) _ g (sym (length-holder h inside rest)) w),
)
grammar-followed_by p (OpenPrimitive h c) g a w = absurd (true≢false (sym a.whole))
grammar-followed_by p (OpenHolder h inside) g a w = absurd (true≢false (sym a.whole))
grammar-followed_by p (OpenBitString h) g a w = absurd (true≢false (sym a.whole))
grammar-followed_by p (OpenHeader octets) g a w = absurd (true≢false (sym a.whole))
grammar-followed_by p OpenEndOctets g a w = absurd (true≢false (sym a.whole))

-- the open end is the same by either way to the place
open_end-after : (p : Place) (m n k : ℕ) (g : Forest) → m + n ≡ k
    → open_end (place_after (place_after p m) n) g ≡ open_end (place_after p k) g
open_end-after p m n k g e = ap (λ (q : Place). open_end q g) (after-after p m n k e)

-- the open end is that of the others
pub open_end-followed_by : (p : Place) (f g : Forest) → is_whole f ≡ true
    → open_end p (followed_by f g) ≡ open_end (place_after p (length (spelling f))) g
open_end-followed_by p NoMore g e = ap (λ (q : Place). open_end q g) (sym (after-none p))
open_end-followed_by p (PaddingOctet rest) g e =
    open_end-followed_by (place_after p 1) rest g e ∙ open_end-after p 1 (length (spelling rest)) _ g (omega arith)
open_end-followed_by p (Primitive h c rest) g e =
    open_end-followed_by (place_after p (length (octets_of h) + length c)) rest g e
    ∙ open_end-after p (length (octets_of h) + length c) (length (spelling rest)) _ g (sym (length-primitive h c rest))
open_end-followed_by p (Holder h inside rest) g e =
    open_end-followed_by (place_after p (holder_extent h inside)) rest g e
    ∙ open_end-after p (holder_extent h inside) (length (spelling rest)) _ g (sym (length-holder h inside rest))
open_end-followed_by p (OpenPrimitive h c) g e = absurd (true≢false (sym e))
open_end-followed_by p (OpenHolder h inside) g e = absurd (true≢false (sym e))
open_end-followed_by p (OpenBitString h) g e = absurd (true≢false (sym e))
open_end-followed_by p (OpenHeader octets) g e = absurd (true≢false (sym e))
open_end-followed_by p OpenEndOctets g e = absurd (true≢false (sym e))

-- no others
pub followed_by-none : (f : Forest) → followed_by f NoMore ≡ f
followed_by-none NoMore = refl
followed_by-none (PaddingOctet rest) = ap PaddingOctet (followed_by-none rest)
followed_by-none (Primitive h c rest) = ap (Primitive h c) (followed_by-none rest)
followed_by-none (Holder h inside rest) = ap (Holder h inside) (followed_by-none rest)
followed_by-none (OpenPrimitive h c) = refl
followed_by-none (OpenHolder h inside) = refl
followed_by-none (OpenBitString h) = refl
followed_by-none (OpenHeader octets) = refl
followed_by-none OpenEndOctets = refl

-- ---- where the elements in the innermost open element begin

-- an indefinite length has no end that is known
indefinite-endless : (s : Size) (start : ℕ) → (is_indefinite s ≡ true) ↔ (bound_in s start None ≡ None)
indefinite-endless (Definite n) start = (λ e. absurd (cc), λ e. absurd (cc))
indefinite-endless Indefinite start = (λ e. refl, λ e. refl)

-- in an element of indefinite length if the innermost frame's is
pub place-indefinite : (w : Framing) (ls : List Layer)
    → ((place_in w ls).indefinite ≡ true) ↔ IsInIndefinite (frames_of w ls)
place-indefinite w [] = (λ e. absurd (true≢false (sym e)), λ e. absurd e)
place-indefinite w (l ∷ ls) = indefinite-endless l.header.size _

-- ---- elements in the innermost open one

-- their octets, after those of the layers
pub spelling-within : (w : Framing) (ls : List Layer) (f : Forest) → AreLayers w ls
    → spelling (forest_in_layers ls f) ≡ spelling_of_layers ls ++ spelling f
spelling-within w [] f a = refl
spelling-within w (l ∷ ls) f a =
    spelling-within w ls (followed_by l.before (OpenHolder l.header f)) a.0
    ∙ ap (λ (t : List ℕ). spelling_of_layers ls ++ t)
    (spelling-followed_by l.before (OpenHolder l.header f) a.1.whole
    ∙ sym (append_assoc (spelling l.before) (opening l.header) (spelling f)))
    ∙ sym (append_assoc (spelling_of_layers ls) (spelling l.before ++ opening l.header) (spelling f))

-- if they are whole, contents octets of the innermost open element are lacking
abbrev pub HasRoomIn : List Layer → Forest → Type 0
HasRoomIn [] f = Unit {0}
HasRoomIn (l ∷ ls) f = is_whole f ≡ true → LacksOctets l.header.size (contents_length l.header f)

-- if something is open, none need be lacking
pub room-if_open : (ls : List Layer) (f : Forest) → is_whole f ≡ false → HasRoomIn ls f
room-if_open [] f e = tt
room-if_open (l ∷ ls) f e = λ whole. absurd (true≢false (sym whole ∙ e))

-- if they obey the grammar where they are, so does the whole
pub grammar-within : (w : Framing) (ls : List Layer) (f : Forest) → AreLayers w ls → ObeysGrammar (place_in w ls) f
    → HasRoomIn ls f → ObeysGrammar (top_place w) (forest_in_layers ls f)
grammar-within w [] f a v r = v
grammar-within w (l ∷ ls) f a v r =
    grammar-within w ls (followed_by l.before (OpenHolder l.header f)) a.0
    (grammar-followed_by (place_in w ls) l.before (OpenHolder l.header f) a.1 ((a.2, r), v))
    (room-if_open ls _ (whole-followed_by l.before (OpenHolder l.header f) a.1.whole))

-- the open end is theirs
pub open_end-within : (w : Framing) (ls : List Layer) (f : Forest) → AreLayers w ls
    → open_end (top_place w) (forest_in_layers ls f) ≡ open_end (place_in w ls) f
open_end-within w [] f a = refl
open_end-within w (l ∷ ls) f a =
    open_end-within w ls (followed_by l.before (OpenHolder l.header f)) a.0
    ∙ open_end-followed_by (place_in w ls) l.before (OpenHolder l.header f) a.1.whole

-- inside a layer something is open
pub whole-within : (w : Framing) (ls : List Layer) (f : Forest) → AreLayers w ls → (ls ≡ [] → is_whole f ≡ false)
    → is_whole (forest_in_layers ls f) ≡ false
whole-within w [] f a e = e refl
whole-within w (l ∷ ls) f a e =
    whole-within w ls (followed_by l.before (OpenHolder l.header f)) a.0
    (λ _. whole-followed_by l.before (OpenHolder l.header f) a.1.whole)
