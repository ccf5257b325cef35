-- What a dump makes of octets that come in pieces.
use Rattle.std.proofs.Common.{◌≡◌, ◌-◌, ◌<◌, ℕ, zero, suc, Bool, true, false, List, [], ◌∷◌, ◌++◌, length, take}
use Rattle.std.proofs.Common.{refl, ap, ap₂, sym, ◌∙◌, arith, append-nil, length-append}
use Rattle.std.proofs.lemmas.Grind.{common_steps}
use Rattle.std.proofs.lemmas.List.{nil_from_length}
use Rattle.std.specs.Prelude.{Option, Some, None}
use Rattle.tlv_head.specs.Header.{HeaderValue}
use Rattle.tlv_value.specs.declared.layout.Layout.{Layout}
use Rattle.tlv_value.specs.ValueTextState.{ValueTextState, contents_lines, new_value_text_with, value_text_after}
use Rattle.tlv_value.proofs.TextLemmas.Pieces.{after-nothing, new-nothing, pieces-join}
use Rattle.tlv_walk.specs.Follow.{Effect, each_octet, effect_with}
use Rattle.tlv_show.specs.LinesStep.{LinesState, lines_octet_step, lines_padding_step, open_text_after}
use Rattle.tlv_show.specs.LinesStep.{open_text_lines}
use Rattle.tlv_show.specs.HolderLines.{padding_line}
use Rattle.tlv_show.specs.SaturatingSum.{saturating_sum}
use Rattle.tlv_show.specs.Texts.{layout_at}
use Rattle.tlv_show.proofs.SaturatingSums.{sum-more, sum-none}

-- ---- contents

take-none : (xs : List ℕ) → take 0 xs ≡ []
take-none xs = grind (arith, common_steps)

-- the first n octets of two pieces, one after the other
pub take-both : (n : ℕ) (x y : List ℕ) → take n (x ++ y) ≡ take n x ++ take (n - length (take n x)) y
take-both zero x y = take-none (x ++ y) ∙ sym (ap₂ (λ (a b : List ℕ). a ++ b) (take-none x) (take-none y))
take-both (suc n) [] y = let e : suc n ≡ suc n - 0 = omega arith in ap (λ (k : ℕ). take k y) e
take-both (suc n) (z ∷ x) y =
    ap (λ (l : List ℕ). z ∷ l) (take-both n x y ∙ ap (λ (k : ℕ). take n x ++ take k y) (omega arith))

value-join : (v : Option ValueTextState) (x y : List ℕ)
    → (open_text_after (open_text_after v x) y ≡ open_text_after v (x ++ y))
    × (open_text_lines v (x ++ y) ≡ open_text_lines v x ++ open_text_lines (open_text_after v x) y)
value-join None x y = (refl, refl)
value-join (Some t) x y =
    let e = take-both t.left x y in
    let j = pieces-join t (take t.left x) (take (t.left - length (take t.left x)) y) in
    (ap (λ (u : ValueTextState). Some u) (j.0 ∙ ap (value_text_after t) (sym e)), ap (contents_lines t) e ∙ j.1)

-- no octets make no lines of it, and change nothing that is kept
abbrev pub IsRested : Option ValueTextState → Type 0
IsRested v = (open_text_after v [] ≡ v) × (open_text_lines v [] ≡ [])

-- this stays so after an octet
rested-after : (v : Option ValueTextState) (x : ℕ) → IsRested (open_text_after v (x ∷ []))
rested-after v x =
    let j = value-join v (x ∷ []) [] in
    let put : List ℕ = open_text_lines v (x ∷ []) in
    let more : List ℕ = open_text_lines (open_text_after v (x ∷ [])) [] in
    (j.0, nil_from_length more (omega (arith, ap length j.1, length-append put more)))

-- it is so of a primitive that begins
pub rested-new : (with_text : Bool) (h : HeaderValue) (layout : Layout)
    → IsRested (Some (new_value_text_with with_text h layout))
rested-new with_text h layout =
    let t : ValueTextState = new_value_text_with with_text h layout in (
      ap (λ (u : ValueTextState). Some u) (ap (value_text_after t) (take-of-none t.left) ∙ after-nothing with_text h layout),
      ap (contents_lines t) (take-of-none t.left) ∙ new-nothing with_text h layout,
    )
  where
    take-of-none : (n : ℕ) → take {A = ℕ} n [] ≡ []
    take-of-none n = grind (arith, common_steps)

-- what more octets come to, if what went before put this
abbrev pub after_put : List ℕ → Effect LinesState → Effect LinesState
after_put put u = record { state = u.state; put = put ++ u.put; goes = u.goes }

-- a dump of contents: the offset after them, what is reported of the primitive, and what is put
abbrev pub of_bytes : LinesState → ℕ → Option ValueTextState → List ℕ → Effect LinesState
of_bytes s offset text put = effect_with (record s { offset = offset; open_text = text }) put

pub dumped_bytes : (s : LinesState) (xs : List ℕ) → (xs ≡ [] → IsRested s.open_text)
    → each_octet lines_octet_step s xs
    ≡ of_bytes s (saturating_sum s.offset (length xs)) (open_text_after s.open_text xs)
    (open_text_lines s.open_text xs)
dumped_bytes s [] rested =
    let r = rested refl in
    ap (λ (n : ℕ). of_bytes s n s.open_text []) (sym (sum-none s.offset))
    ∙ ap₂ (λ (v : Option ValueTextState) (put : List ℕ). of_bytes s (saturating_sum s.offset 0) v put) (sym r.0)
    (sym r.1)
dumped_bytes s (x ∷ xs) rested =
    let j = value-join s.open_text (x ∷ []) xs in
    ap (after_put (open_text_lines s.open_text (x ∷ [])))
    (dumped_bytes (lines_octet_step s x).state xs (λ e. rested-after s.open_text x))
    ∙ ap (λ (n : ℕ). of_bytes s n (open_text_after (open_text_after s.open_text (x ∷ [])) xs)
    (open_text_lines s.open_text (x ∷ []) ++ open_text_lines (open_text_after s.open_text (x ∷ [])) xs))
    (sum-more s.offset 1 (length xs) ∙ ap (saturating_sum s.offset) (omega arith))
    ∙ ap₂ (λ (v : Option ValueTextState) (put : List ℕ). of_bytes s (saturating_sum s.offset (length (x ∷ xs))) v put)
    j.0 (sym j.1)

-- ---- padding

-- the same dump, elsewhere
abbrev pub lines_at : LinesState → ℕ → Bool → LinesState
lines_at s offset in_padding = record s { offset = offset; in_padding = in_padding }

-- it had its line
pub more_pad : (level : ℕ) (s : LinesState) (offset : ℕ) (xs : List ℕ)
    → each_octet (lines_padding_step level) (lines_at s offset true) xs
    ≡ effect_with (lines_at s (saturating_sum offset (length xs)) true) []
more_pad level s offset [] = ap (λ (o : ℕ). effect_with (lines_at s o true) []) (sym (sum-none offset))
more_pad level s offset (x ∷ xs) =
    more_pad level s (saturating_sum offset 1) xs
    ∙ ap (λ (o : ℕ). effect_with (lines_at s o true) [])
    (sum-more offset 1 (length xs) ∙ ap (saturating_sum offset) (omega arith))

more_by : (level : ℕ) (s : LinesState) (offset : ℕ) (in_padding : Bool) (xs : List ℕ) → in_padding ≡ true
    → each_octet (lines_padding_step level) (lines_at s offset in_padding) xs
    ≡ effect_with (lines_at s (saturating_sum offset (length xs)) in_padding) []
more_by level s offset true xs e = more_pad level s offset xs
more_by level s offset false xs e = absurd (cc)

pub padded_more : (level : ℕ) (s : LinesState) (xs : List ℕ) → s.in_padding ≡ true
    → each_octet (lines_padding_step level) s xs
    ≡ effect_with (lines_at s (saturating_sum s.offset (length xs)) s.in_padding) []
padded_more level s xs e = more_by level s s.offset s.in_padding xs e

-- it has its line with the first octet
first_by : (level : ℕ) (s : LinesState) (offset : ℕ) (in_padding : Bool) (xs : List ℕ) → 0 < length xs → in_padding ≡ false
    → each_octet (lines_padding_step level) (lines_at s offset in_padding) xs
    ≡ effect_with (lines_at s (saturating_sum offset (length xs)) true) (padding_line (layout_at s.layout level) offset)
first_by level s offset true xs some e = absurd (cc)
first_by level s offset false [] some e = absurd (omega (arith, some))
first_by level s offset false (x ∷ xs) some e =
    ap (after_put (padding_line (layout_at s.layout level) offset)) (more_pad level s (saturating_sum offset 1) xs)
    ∙ ap (λ (o : ℕ). effect_with (lines_at s o true) (padding_line (layout_at s.layout level) offset ++ []))
    (sum-more offset 1 (length xs) ∙ ap (saturating_sum offset) (omega arith))
    ∙ ap (effect_with (lines_at s (saturating_sum offset (length (x ∷ xs))) true))
    (append-nil (padding_line (layout_at s.layout level) offset))

pub padded_first : (level : ℕ) (s : LinesState) (xs : List ℕ) → 0 < length xs → s.in_padding ≡ false
    → each_octet (lines_padding_step level) s xs
    ≡ effect_with (lines_at s (saturating_sum s.offset (length xs)) true) (padding_line (layout_at s.layout level) s.offset)
padded_first level s xs some e = first_by level s s.offset s.in_padding xs some e
