-- What is kept and found of one element, if all its octets come one after another.
use Rattle.std.proofs.Common.{◌≡◌, ℕ, ◌&&◌, ◌||◌, ◌==◌, Bool, true, false, nat_lt, if◌then◌else◌}
use Rattle.std.proofs.Common.{List, [], ◌∷◌, ◌++◌, length, replicate, refl, sym, subst, ap, ap₂, ◌∙◌, arith}
use Rattle.std.proofs.lemmas.Bool.{true≢false}
use Rattle.std.proofs.lemmas.Bool.Decides.{nat_tests}
use Rattle.std.specs.Prelude.{zero, suc, ⊤, Option, Some, None}
use Rattle.tlv_head.specs.declared.header.Class.{Class}
use Rattle.tlv_head.specs.Header.{HeaderValue}
use Rattle.tlv_show.specs.declared.rules.Rules.{Rules}
use Rattle.tlv_show.specs.declared.set_frame.SetFrame.{SetFrame}
use Rattle.tlv_show.specs.SetOrder.{Element, compared_count, compared_octets, do_octets_decide, is_out_of_order_after}
use Rattle.tlv_show.specs.SetOrder.{is_set, is_smaller, offset_if, zeros}
use Rattle.tlv_show.specs.SetOrderState.{SetOrderState, frame_after_octets, frame_begun, frame_ended}
use Rattle.tlv_show.specs.SetOrderState.{frames_after_octets, is_direct, is_last_out_of_order, set_order_end_step}
use Rattle.tlv_show.specs.SetOrderState.{set_order_octets_step, set_order_started}
use Rattle.tlv_show.proofs.FindingLemmas.SiteWords.{is_held_by}
use Rattle.tlv_show.proofs.SetOrderLemmas.Compared.{after-append, all-after-append}
use Rattle.tlv_show.proofs.SetOrderLemmas.Compared.{element-compared, length-compared, length-zeros, same-after}

-- ---- all frames

pub octets_step-append : (s : SetOrderState) (a b : List ℕ)
    → set_order_octets_step s (a ++ b) ≡ set_order_octets_step (set_order_octets_step s a) b
octets_step-append s a b =
    ap₂ (λ (w : SetFrame) (l : List SetFrame). record { frame = w; outer = l }) (after-append s.frame a b)
    (all-after-append a b s.outer)

-- all of an element: its header and the rest of its octets, and its end
abbrev pub element_step : Rules → SetOrderState → Element → SetOrderState
element_step rules s e = set_order_end_step (set_order_octets_step (set_order_started rules s e.header) e.octets)

abbrev pub ended_offsets : SetOrderState → List ℕ
ended_offsets s = offset_if (is_last_out_of_order s.frame) s.frame.offset

-- ---- what a frame knows of the neighbour

abbrev pub octets_before : Option Element → List ℕ
octets_before None = zeros
octets_before (Some n) = compared_octets n.octets

abbrev pub HasTagOf : SetFrame → Option Element → Type 0
HasTagOf w None = ⊤
HasTagOf w (Some n) = (w.class ≡ n.header.class) × (w.number ≡ n.header.number)

pub record KnowsNeighbour (w : SetFrame) (neighbour : Option Element) : Type 0 where
  pub octets : w.octets ≡ octets_before neighbour
  pub tag : HasTagOf w neighbour

pub record Knows (s : SetOrderState) (holder : Option HeaderValue) (neighbour : Option Element) : Type 0 where
  pub direct : is_direct s.frame ≡ is_held_by is_set holder
  pub before : is_direct s.frame ≡ true → KnowsNeighbour s.frame neighbour

length-before : (neighbour : Option Element) → length (octets_before neighbour) ≡ 64
length-before None = length-zeros
length-before (Some n) = length-compared n.octets

-- ---- what is found

none-smaller : (n : ℕ) (octets : List ℕ) → is_smaller octets (replicate n 0) ≡ false
none-smaller zero [] = refl
none-smaller zero (x ∷ octets) = refl
none-smaller (suc n) [] = refl
none-smaller (suc n) (x ∷ octets) =
    let none : nat_lt x 0 ≡ false = grind (arith, nat_tests) in
    ap₂ (λ (a b : Bool). a || (x == 0 && b)) none (none-smaller n octets) ∙ and-none (x == 0)
  where
    and-none : (k : Bool) → (k && false) ≡ false
    and-none true = refl
    and-none false = refl

none-before-zeros : (octets : List ℕ) → is_smaller octets zeros ≡ false
unfolding zeros
none-before-zeros octets = none-smaller compared_count octets

module _ (rules : Rules) where
  -- what a frame says of an element right after this neighbour, and what the definition says
  decides : (w : SetFrame) (holder : Option HeaderValue) (neighbour : Option Element) (e : Element)
      → is_held_by is_set holder ≡ true → KnowsNeighbour w neighbour
      → (do_octets_decide rules e.header.class e.header.number w.class w.number
      && is_smaller (compared_octets e.octets) w.octets)
      ≡ is_out_of_order_after rules holder neighbour e
  decides w None neighbour e held k = absurd (true≢false (sym held))
  decides w (Some g) None e held k =
      let d : Bool = do_octets_decide rules e.header.class e.header.number w.class w.number in
      ap (λ (l : List ℕ). d && is_smaller (compared_octets e.octets) l) k.octets
      ∙ ap (λ (b : Bool). d && b) (none-before-zeros (compared_octets e.octets))
      ∙ and-none d
    where
      and-none : (b : Bool) → (b && false) ≡ false
      and-none true = refl
      and-none false = refl
  decides w (Some g) (Some n) e held k =
      let smaller : List ℕ → Bool = is_smaller (compared_octets e.octets) in
      ap (λ (l : List ℕ). do_octets_decide rules e.header.class e.header.number w.class w.number && smaller l) k.octets
      ∙ ap₂ (λ (c : Class) (m : ℕ). do_octets_decide rules e.header.class e.header.number c m
      && smaller (compared_octets n.octets))
      k.tag.0 k.tag.1
      ∙ ap (λ (b : Bool). b && (do_octets_decide rules e.header.class e.header.number n.header.class n.header.number
      && smaller (compared_octets n.octets)))
      (sym held)

  nothing-outside : (holder : Option HeaderValue) (neighbour : Option Element) (e : Element)
      → is_held_by is_set holder ≡ false
      → is_out_of_order_after rules holder neighbour e ≡ false
  nothing-outside None neighbour e held = refl
  nothing-outside (Some g) None e held = refl
  nothing-outside (Some g) (Some n) e held =
      ap (λ (b : Bool). b && (do_octets_decide rules e.header.class e.header.number n.header.class n.header.number
      && is_smaller (compared_octets e.octets) (compared_octets n.octets)))
      held

  -- ---- one element

  pub record IsElementTaken (s : SetOrderState) (holder : Option HeaderValue) (neighbour : Option Element) (e : Element)
      (t : SetOrderState) : Type 0 where
    pub found : ended_offsets t ≡ offset_if (is_out_of_order_after rules holder neighbour e) e.header.offset
    pub knows : Knows t holder (Some e)
    pub open_count : t.frame.open_count ≡ s.frame.open_count
    pub outer : t.outer ≡ frames_after_octets e.octets s.outer
    pub inside : is_direct s.frame ≡ false → t ≡ set_order_octets_step s e.octets

  -- not directly in a SET
  pub started-inside : (s : SetOrderState) (h : HeaderValue) → is_direct s.frame ≡ false → set_order_started rules s h ≡ s
  started-inside s h outside = ap (λ (k : Bool). if k then record s { frame = frame_begun rules s.frame h } else s) outside

  pub ended-inside : (s : SetOrderState) → is_direct s.frame ≡ false → set_order_end_step s ≡ s
  ended-inside s outside = ap (λ (k : Bool). if k then record s { frame = frame_ended s.frame } else s) outside

  taken-inside : (s : SetOrderState) (holder : Option HeaderValue) (neighbour : Option Element) (e : Element)
      → Knows s holder neighbour → is_direct s.frame ≡ false
      → IsElementTaken s holder neighbour e (set_order_octets_step s e.octets)
  taken-inside s holder neighbour e k outside =
      let open_count : (frame_after_octets s.frame e.octets).open_count ≡ s.frame.open_count = (same-after s.frame e.octets).open_count in
      let direct : is_direct (frame_after_octets s.frame e.octets) ≡ is_direct s.frame = ap (λ (n : ℕ). n == 0) open_count in
      let w : SetFrame = frame_after_octets s.frame e.octets in
      record {
        found =
            ap (λ (b : Bool). offset_if (b && (w.octets_decide && w.is_smaller)) w.offset) (direct ∙ outside)
            ∙ ap (λ (b : Bool). offset_if b e.header.offset)
            (sym (nothing-outside holder neighbour e (sym k.direct ∙ outside)));
        knows = record { direct = direct ∙ k.direct; before = λ directly. absurd (true≢false (sym directly ∙ direct ∙ outside)) };
        open_count = open_count;
        outer = refl;
        inside = λ z. refl;
      }

  -- directly in a SET
  taken-directly : (s : SetOrderState) (holder : Option HeaderValue) (neighbour : Option Element) (e : Element)
      → Knows s holder neighbour → is_direct s.frame ≡ true
      → IsElementTaken s holder neighbour e (record {
        frame = frame_after_octets (frame_after_octets (frame_begun rules s.frame e.header) e.octets) zeros;
        outer = frames_after_octets e.octets s.outer;
      })
  taken-directly s holder neighbour e k directly =
      let n : KnowsNeighbour s.frame neighbour = k.before directly in
      let c =
      element-compared (frame_begun rules s.frame e.header) e.octets
      (record { all = ap length n.octets ∙ length-before neighbour; none_yet = refl; same = refl; no_smaller = refl })
      in
      let v : SetFrame =
      frame_after_octets (frame_after_octets (frame_begun rules s.frame e.header) e.octets) zeros in
      let direct : is_direct v ≡ is_direct s.frame = ap (λ (m : ℕ). m == 0) c.element.open_count in
      record {
        found =
            ap₂ (λ (b : Bool) (offset : ℕ). offset_if (b && (v.octets_decide && v.is_smaller)) offset) (direct ∙ directly)
            c.element.offset
            ∙ ap₂ (λ (a b : Bool). offset_if (a && b) e.header.offset) c.element.octets_decide c.smaller
            ∙ ap (λ (b : Bool). offset_if b e.header.offset)
            (decides s.frame holder neighbour e (sym k.direct ∙ directly) n);
        knows = record {
          direct = direct ∙ k.direct;
          before = λ z. record { octets = c.octets_are; tag = (c.element.class, c.element.number) };
        };
        open_count = c.element.open_count;
        outer = refl;
        inside = λ outside. absurd (true≢false (sym directly ∙ outside));
      }

  pub element-taken : (s : SetOrderState) (holder : Option HeaderValue) (neighbour : Option Element) (e : Element)
      → Knows s holder neighbour
      → IsElementTaken s holder neighbour e (element_step rules s e)
  element-taken s holder neighbour e k = by (is_direct s.frame) refl
    where
      by : (b : Bool) → is_direct s.frame ≡ b → IsElementTaken s holder neighbour e (element_step rules s e)
      by false outside =
          let open_count : (frame_after_octets s.frame e.octets).open_count ≡ s.frame.open_count = (same-after s.frame e.octets).open_count in
          let ends : set_order_end_step (set_order_octets_step s e.octets) ≡ set_order_octets_step s e.octets =
          ended-inside (set_order_octets_step s e.octets) (ap (λ (n : ℕ). n == 0) open_count ∙ outside) in
          let all : element_step rules s e ≡ set_order_octets_step s e.octets =
          ap (λ (t : SetOrderState). set_order_end_step (set_order_octets_step t e.octets)) (started-inside s e.header outside)
          ∙ ends in
          subst (IsElementTaken s holder neighbour e) (sym all) (taken-inside s holder neighbour e k outside)
      by true directly =
          let w : SetFrame = frame_after_octets (frame_begun rules s.frame e.header) e.octets in
          let outer : List SetFrame = frames_after_octets e.octets s.outer in
          let open_count : w.open_count ≡ s.frame.open_count = (same-after (frame_begun rules s.frame e.header) e.octets).open_count in
          let started : set_order_started rules s e.header ≡ record s { frame = frame_begun rules s.frame e.header } =
          ap (λ (b : Bool). if b then record s { frame = frame_begun rules s.frame e.header } else s) directly in
          let ends : set_order_end_step (record { frame = w; outer = outer })
          ≡ record { frame = frame_after_octets w zeros; outer = outer } =
          ap
          (λ (b : Bool). if b
          then record { frame = frame_after_octets w zeros; outer = outer }
          else record { frame = w; outer = outer })
          (ap (λ (n : ℕ). n == 0) open_count ∙ directly) in
          let all : element_step rules s e ≡ record { frame = frame_after_octets w zeros; outer = outer } =
          ap (λ (t : SetOrderState). set_order_end_step (set_order_octets_step t e.octets)) started ∙ ends in
          subst (IsElementTaken s holder neighbour e) (sym all) (taken-directly s holder neighbour e k directly)
