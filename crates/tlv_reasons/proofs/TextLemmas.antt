-- Octets of a text, changed one after another.
use Rattle.std.proofs.Common.{◌≡◌, ℕ, ◌+◌, ◌*◌, ◌-◌, ◌<◌, ◌≤◌, Bool, List, [], ◌∷◌, ◌++◌, length}
use Rattle.std.proofs.Common.{ap, refl, sym, append_assoc, append-nil, ◌∙◌, arith, nat_lt, inl, inr, subst}
use Rattle.std.specs.Prelude.{Option, None, Some, option_map, ◌⊎◌}
use Rattle.std.proofs.lemmas.Bool.{cases_Bool}
use Rattle.tlv_open.specs.Opens.{closed_framing}
use Rattle.tlv_walk.specs.Reading.{IsSoundList}
use Rattle.tlv_reasons.specs.TextCopies.{IsSoundWithLfAlone, IsSoundWithoutUtf8, begins_crlf, is_latin1_pair}
use Rattle.tlv_reasons.specs.TextCopies.{latin1_of_utf8, octet_and, with_lf_alone}

-- octets before others, if these are there
abbrev pub octets_and : List ℕ → Option (List ℕ) → Option (List ℕ)
octets_and front more = option_map (λ (xs : List ℕ). front ++ xs) more

one-more : (front : List ℕ) (x : ℕ) (more : Option (List ℕ))
    → octets_and front (octet_and x more) ≡ octets_and (front ++ x ∷ []) more
one-more front x None = refl
one-more front x (Some xs) = ap Some (sym (append_assoc front (x ∷ []) xs))

-- a character after others
pub character-more : (all : Option (List ℕ)) (front rest more now : List ℕ) (x : ℕ) → now ≡ front ++ x ∷ []
    → latin1_of_utf8 rest ≡ octet_and x (latin1_of_utf8 more) → all ≡ octets_and front (latin1_of_utf8 rest)
    → all ≡ octets_and now (latin1_of_utf8 more)
character-more all front rest more now x p e i =
    i ∙ ap (λ (o : Option (List ℕ)). octets_and front o) e ∙ one-more front x (latin1_of_utf8 more)
    ∙ ap (λ (f : List ℕ). octets_and f (latin1_of_utf8 more)) (sym p)

-- no character after others
pub character-none : (all : Option (List ℕ)) (front rest : List ℕ) → latin1_of_utf8 rest ≡ None
    → all ≡ octets_and front (latin1_of_utf8 rest) → None ≡ all
character-none all front rest e i = sym (i ∙ ap (λ (o : Option (List ℕ)). octets_and front o) e)

-- no octets after others
pub characters-end : (all : Option (List ℕ)) (front rest : List ℕ) → length rest ≡ 0
    → all ≡ octets_and front (latin1_of_utf8 rest) → Some front ≡ all
characters-end all front [] e i = ap Some (sym (append-nil front)) ∙ sym i
characters-end all front (x ∷ rest) e i = absurd (omega arith)

-- octets with each 0d 0a as 0a alone are the same, or fewer
pub lf-size : (octets : List ℕ) → (with_lf_alone octets ≡ octets) ⊎ (length (with_lf_alone octets) < length octets)
lf-size [] = inl refl
lf-size (x ∷ more) = elim (cases_Bool (begins_crlf (x ∷ more))) [
  | inl e ↦ rw e (inr (elim (lf-size more) [
    | inl same ↦ omega (arith, ap length same)
    | inr less ↦ omega (arith, less)
  ]))
  | inr e ↦ rw e (elim (lf-size more) [
    | inl same ↦ inl (ap (λ (o : List ℕ). x ∷ o) same)
    | inr less ↦ inr (omega (arith, less))
  ])
]

-- one octet before others
and-split : (x : ℕ) (o : Option (List ℕ)) (characters : List ℕ) → octet_and x o ≡ Some characters
    → (xs : List ℕ) × (o ≡ Some xs) × (characters ≡ x ∷ xs)
and-split x None characters e = absurd (cc)
and-split x (Some xs) characters e = (xs, refl, cc)

-- characters in one octet each are the same octets, or fewer
pub latin1-size : (octets characters : List ℕ) → latin1_of_utf8 octets ≡ Some characters
    → (characters ≡ octets) ⊎ (length characters < length octets)
latin1-size [] characters e = inl (cc)
latin1-size (x ∷ []) characters e = elim (cases_Bool (nat_lt x 128)) [
  | inl t ↦ let e' : Some (x ∷ []) ≡ Some characters = rw t at e in inl (cc)
  | inr t ↦ let e' : None ≡ Some characters = rw t at e in absurd (cc)
]
latin1-size (x ∷ y ∷ more) characters e = elim (cases_Bool (nat_lt x 128)) [
  | inl t ↦
      let e' : octet_and x (latin1_of_utf8 (y ∷ more)) ≡ Some characters = rw t at e in
      let s = and-split x (latin1_of_utf8 (y ∷ more)) characters e' in
      elim (latin1-size (y ∷ more) s.0 s.1) [
        | inl same ↦ inl (s.2 ∙ ap (λ (o : List ℕ). x ∷ o) same)
        | inr less ↦ inr (omega (arith, less, ap length s.2))
      ]
  | inr t ↦ elim (cases_Bool (is_latin1_pair x y)) [
    | inl p ↦
        let e' : octet_and ((x - 194) * 64 + y) (latin1_of_utf8 more) ≡ Some characters = rw (t, p) at e in
        let s = and-split ((x - 194) * 64 + y) (latin1_of_utf8 more) characters e' in
        elim (latin1-size more s.0 s.1) [
          | inl same ↦ inr (omega (arith, ap length same, ap length s.2))
          | inr less ↦ inr (omega (arith, less, ap length s.2))
        ]
    | inr p ↦ let e' : None ≡ Some characters = rw (t, p) at e in absurd (cc)
  ]
]

-- what is known if the copy is shorter, and what if it is not
pub lf-undone : (padding : Bool) (octets copy now : List ℕ) → copy ≡ with_lf_alone octets → now ≡ copy
    → length copy < length octets → IsSoundList (closed_framing padding) now → IsSoundWithLfAlone padding octets
lf-undone padding octets copy now e n less s = record {
  changed = λ same. omega (arith, less, ap length e, ap length same);
  sound = subst (λ (o : List ℕ). IsSoundList (closed_framing padding) o) (n ∙ e) s;
}

pub lf-sound : (padding : Bool) (octets copy now : List ℕ) → copy ≡ with_lf_alone octets → now ≡ copy
    → IsSoundWithLfAlone padding octets → IsSoundList (closed_framing padding) now
lf-sound padding octets copy now e n s =
    subst (λ (o : List ℕ). IsSoundList (closed_framing padding) o) (sym (n ∙ e)) s.sound

pub lf-same : (padding : Bool) (octets copy : List ℕ) → copy ≡ with_lf_alone octets → length octets ≤ length copy
    → IsSoundWithLfAlone padding octets → ⊥
lf-same padding octets copy e k s = elim (lf-size octets) [
  | inl same ↦ s.changed same
  | inr less ↦ omega (arith, less, k, ap length e)
]

pub utf8-undone : (padding : Bool) (octets characters now : List ℕ) → Some characters ≡ latin1_of_utf8 octets
    → now ≡ characters → length characters < length octets → IsSoundList (closed_framing padding) now
    → IsSoundWithoutUtf8 padding octets
utf8-undone padding octets characters now e n less s = record {
  characters = characters;
  characters_are = sym e;
  changed = λ same. omega (arith, less, ap length same);
  sound = subst (λ (o : List ℕ). IsSoundList (closed_framing padding) o) n s;
}

pub utf8-sound : (padding : Bool) (octets characters now : List ℕ) → Some characters ≡ latin1_of_utf8 octets
    → now ≡ characters → IsSoundWithoutUtf8 padding octets → IsSoundList (closed_framing padding) now
utf8-sound padding octets characters now e n s =
    let f : Some characters ≡ Some s.characters = e ∙ s.characters_are in
    let same : characters ≡ s.characters = cc in
    subst (λ (o : List ℕ). IsSoundList (closed_framing padding) o) (sym (n ∙ same)) s.sound

pub utf8-same : (padding : Bool) (octets characters : List ℕ) → Some characters ≡ latin1_of_utf8 octets
    → length octets ≤ length characters → IsSoundWithoutUtf8 padding octets → ⊥
utf8-same padding octets characters e k s =
    let f : Some characters ≡ Some s.characters = e ∙ s.characters_are in
    let same : characters ≡ s.characters = cc in
    elim (latin1-size octets characters (sym e)) [
      | inl one ↦ s.changed (sym same ∙ one)
      | inr less ↦ omega (arith, less, k)
    ]
