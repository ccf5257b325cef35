-- Spellings: how long they are, and how they are regrouped.
use Rattle.std.proofs.Common.{◌≡◌, ℕ, ◌+◌, ◌≤◌, List, [], ◌∷◌, ◌++◌, length, ap, ◌∙◌, arith, append_assoc}
use Rattle.std.proofs.Common.{length-append, refl, sym}
use Rattle.tlv_head.specs.Header.{HeaderValue, octets_of}
use Rattle.tlv_walk.specs.Forest.{Forest, Primitive, Holder, end_octets, holder_extent, lead, opening, spelling}

-- what comes before the elements that an element holds is the header and the contents octets before them
pub length-opening : (h : HeaderValue) → length (opening h) ≡ length (octets_of h) + length (lead h)
length-opening h = length-append (octets_of h) (lead h)

-- a primitive, and what follows it
pub length-primitive : (h : HeaderValue) (c : List ℕ) (rest : Forest)
    → length (spelling (Primitive h c rest)) ≡ length (octets_of h) + length c + length (spelling rest)
length-primitive h c rest =
    omega (arith, length-append (octets_of h) (c ++ spelling rest), length-append c (spelling rest))

-- an element that holds others, and what follows it
pub length-holder : (h : HeaderValue) (inside rest : Forest)
    → length (spelling (Holder h inside rest)) ≡ holder_extent h inside + length (spelling rest)
length-holder h inside rest =
    omega (
      arith,
      length-append (opening h) (spelling inside ++ (end_octets h.size ++ spelling rest)),
      length-append (spelling inside) (end_octets h.size ++ spelling rest),
      length-append (end_octets h.size) (spelling rest),
    )

-- octets after a list of three pieces are after the last of them
pub append_assoc-3 : (a b s t : List ℕ) → (a ++ (b ++ s)) ++ t ≡ a ++ (b ++ (s ++ t))
append_assoc-3 a b s t = append_assoc a (b ++ s) t ∙ ap (λ (u : List ℕ). a ++ u) (append_assoc b s t)

-- and after a list of four
pub append_assoc-4 : (a b c s t : List ℕ) → (a ++ (b ++ (c ++ s))) ++ t ≡ a ++ (b ++ (c ++ (s ++ t)))
append_assoc-4 a b c s t = append_assoc a (b ++ (c ++ s)) t ∙ ap (λ (u : List ℕ). a ++ u) (append_assoc-3 b c s t)

-- of two prefixes of one list the longer begins with the shorter
pub prefix-of : (s t u v : List ℕ) → s ++ u ≡ t ++ v → length s ≤ length t → (r : List ℕ) × (t ≡ s ++ r)
prefix-of [] t u v e l = (t, refl)
prefix-of (x ∷ s) [] u v e l = absurd (omega arith)
prefix-of (x ∷ s) (y ∷ t) u v e l =
    let same : x ≡ y = cc in
    let r : (r : List ℕ) × (t ≡ s ++ r) = prefix-of s t u v (cc) (omega arith) in
    (r.0, ap (λ (u : List ℕ). y ∷ u) r.1 ∙ ap (λ (u : ℕ). u ∷ (s ++ r.0)) (sym same))

-- two prefixes of one list that are as long are the same
pub prefix-same : (s t u v : List ℕ) → s ++ u ≡ t ++ v → length s ≡ length t → s ≡ t
prefix-same [] [] u v e l = refl
prefix-same [] (y ∷ t) u v e l = absurd (omega arith)
prefix-same (x ∷ s) [] u v e l = absurd (omega arith)
prefix-same (x ∷ s) (y ∷ t) u v e l =
    let same : x ≡ y = cc in
    let rest : s ≡ t = prefix-same s t u v (cc) (omega arith) in
    rw (same, rest)
