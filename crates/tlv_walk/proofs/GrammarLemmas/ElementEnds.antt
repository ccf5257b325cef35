-- Whole elements in the innermost open one, where each element that is filled ends.
use Rattle.std.proofs.Common.{◌≡◌, inl, inr, ℕ, ◌+◌, Bool, true, false, ◌&&◌, eqb, List, [], ◌∷◌, ◌++◌, length, Option}
use Rattle.std.proofs.Common.{Some, None, refl, sym, ap, ◌∙◌, arith, append_assoc, length-append, eq-eqb, ne_eqb}
use Rattle.std.proofs.Common.{eqb-true}
use Rattle.std.proofs.lemmas.Bool.{and_parts, cases_Bool, eqb-false}
use Rattle.tlv_head.specs.declared.header.Size.{Size}
use Rattle.tlv_head.specs.declared.header.Size.TheVariants.{Definite, Indefinite}
use Rattle.tlv_head.specs.Header.{HeaderValue, octets_of}
use Rattle.tlv_walk.specs.declared.framing.Framing.{Framing}
use Rattle.tlv_walk.specs.Forest.{Forest, Holder, NoMore, contents_length, is_whole, opening, spelling}
use Rattle.tlv_walk.specs.Place.{Fits, ObeysGrammar, Place, place_after, place_of_children, top_place}
use Rattle.tlv_walk.specs.Private.Stack.{bound_in}
use Rattle.tlv_walk.specs.Private.Stack.{IsFilled}
use Rattle.tlv_walk.specs.Private.Zipper.{AreLayers, AreWhole, Layer, frames_of, place_in, spelling_of_layers}
use Rattle.tlv_walk.specs.Walker.{is_end_at}
use Rattle.tlv_walk.proofs.GrammarLemmas.Bounds.{IsDefiniteLength, fits-inside, has_length, length-full}
use Rattle.tlv_walk.proofs.GrammarLemmas.PushSteps.{Spells, is_filled_by}
use Rattle.tlv_walk.proofs.GrammarLemmas.OpenElements.{holder-spells, spelling-fits, unfilled-lacks}
use Rattle.tlv_walk.proofs.GrammarLemmas.Spellings.{length-opening}
use Rattle.tlv_walk.proofs.WalkerLemmas.Zipper.{followed_by, grammar-followed_by, grammar-within, settled_forest}
use Rattle.tlv_walk.proofs.WalkerLemmas.Zipper.{spelling-followed_by, spelling-within, whole-followed_by}
use Rattle.tlv_walk.proofs.WalkerLemmas.Zipper.{forest_in_layers}

-- where the whole elements end that are there, and before that
abbrev pub end_in : Framing → List Layer → Forest → ℕ
end_in w ls f = (place_in w ls).offset + length (spelling f)

-- an element that is filled, and what is before it, are whole elements around it, with the octets of both
pub record IsEnded (w : Framing) (l : Layer) (ls : List Layer) (f : Forest) : Type 0 where
  pub are_whole : AreWhole (place_in w ls) (followed_by l.before (Holder l.header f NoMore))
  pub spelled : spelling (followed_by l.before (Holder l.header f NoMore))
      ≡ spelling l.before ++ (opening l.header ++ spelling f)
  pub same_end : end_in w ls (followed_by l.before (Holder l.header f NoMore)) ≡ end_in w (l ∷ ls) f

-- what is filled has all its contents octets
pub filled-full : (h : HeaderValue) (f : Forest) → is_filled_by h f ≡ true
    → IsDefiniteLength h.size (contents_length h f)
filled-full h f e =
    let parts : (is_whole f ≡ true) × (has_length h.size (contents_length h f) ≡ true) = and_parts _ _ e in
    length-full h.size _ parts.1

-- an element that is filled ends so
pub filled-ended : (w : Framing) (l : Layer) (ls : List Layer) (f : Forest) → AreLayers w (l ∷ ls)
    → AreWhole (place_in w (l ∷ ls)) f → is_filled_by l.header f ≡ true → IsEnded w l ls f
filled-ended w l ls f a i e =
    let p : Place = place_after (place_in w ls) (length (spelling l.before)) in
    let c : Spells p (opening l.header ++ spelling f) (Holder l.header f NoMore) =
    holder-spells p l.header f a.2 i.obeys_grammar i.whole (filled-full l.header f e) in
    let s : spelling (followed_by l.before (Holder l.header f NoMore))
    ≡ spelling l.before ++ (opening l.header ++ spelling f) =
    spelling-followed_by l.before (Holder l.header f NoMore) a.1.whole
    ∙ ap (λ (t : List ℕ). spelling l.before ++ t) c.spelled in
    record {
      are_whole = record {
        obeys_grammar = grammar-followed_by (place_in w ls) l.before (Holder l.header f NoMore) a.1 c.obeys_grammar;
        whole = whole-followed_by l.before (Holder l.header f NoMore) a.1.whole;
      };
      spelled = s;
      same_end =
          omega (
            arith,
            ap length s,
            length-append (spelling l.before) (opening l.header ++ spelling f),
            length-append (opening l.header) (spelling f),
          );
    }

-- an element that is not filled lacks octets
pub unfilled-room : (w : Framing) (l : Layer) (ls : List Layer) (f : Forest) → AreLayers w (l ∷ ls)
    → AreWhole (place_in w (l ∷ ls)) f → is_filled_by l.header f ≡ false
    → ObeysGrammar (top_place w) (forest_in_layers (l ∷ ls) f)
unfilled-room w l ls f a i e =
    let p : Place = place_after (place_in w ls) (length (spelling l.before)) in
    let there : Fits (place_of_children p l.header) (length (spelling f)) =
    spelling-fits (place_of_children p l.header) f (fits-inside p l.header a.2.holding a.2.fits) i.obeys_grammar in
    grammar-within w (l ∷ ls) f a i.obeys_grammar (λ whole. unfilled-lacks p l.header f e whole there)

-- the forest obeys the grammar, and spells the octets of the layers and then its own
pub settled-spells : (w : Framing) (ls : List Layer) (f : Forest) → AreLayers w ls → AreWhole (place_in w ls) f
    → Spells (top_place w) (spelling_of_layers ls ++ spelling f) (settled_forest ls f)
settled-spells w [] f a i = record { obeys_grammar = i.obeys_grammar; spelled = refl }
settled-spells w (l ∷ ls) f a i = elim (cases_Bool (is_filled_by l.header f)) [
  | inl e ↦
      let d : IsEnded w l ls f = filled-ended w l ls f a i e in
      let r : Spells (top_place w)
      (spelling_of_layers ls ++ spelling (followed_by l.before (Holder l.header f NoMore)))
      (settled_forest ls (followed_by l.before (Holder l.header f NoMore))) =
      settled-spells w ls (followed_by l.before (Holder l.header f NoMore)) a.0 d.are_whole in
      let s : spelling_of_layers ls ++ (spelling l.before ++ (opening l.header ++ spelling f))
      ≡ (spelling_of_layers ls ++ (spelling l.before ++ opening l.header)) ++ spelling f =
      ap (λ (t : List ℕ). spelling_of_layers ls ++ t)
      (sym (append_assoc (spelling l.before) (opening l.header) (spelling f)))
      ∙ sym (append_assoc (spelling_of_layers ls) (spelling l.before ++ opening l.header) (spelling f)) in
      rw e (record {
        obeys_grammar = r.obeys_grammar;
        spelled = r.spelled ∙ ap (λ (t : List ℕ). spelling_of_layers ls ++ t) d.spelled ∙ s;
      })
  | inr e ↦ rw e (record { obeys_grammar = unfilled-room w l ls f a i e; spelled = spelling-within w (l ∷ ls) f a })
]

-- an element ends at an offset by its frame if it has all its contents octets by its length
end-length : (s : Size) (start m n : ℕ) → start + m ≡ n → is_end_at (bound_in s start None) n ≡ has_length s m
end-length (Definite k) start m n e = elim (cases_Bool (eqb m k)) [
  | inl same ↦ let there : m ≡ k = eqb-true m k same in rw (same, eq-eqb (start + k) n (omega arith))
  | inr other ↦ let apart : m ≡ k
      → ⊥ = eqb-false m k other in rw (other, ne_eqb (start + k) n (λ z. apart (omega arith)))
]
end-length Indefinite start m n e = refl

-- so the frame of the innermost open element says whether that is filled
pub end-filled : (w : Framing) (l : Layer) (ls : List Layer) (f : Forest) → is_whole f ≡ true
    → is_end_at
    (bound_in l.header.size (((place_in w ls).offset + length (spelling l.before)) + length (octets_of l.header))
    None)
    (end_in w (l ∷ ls) f)
    ≡ is_filled_by l.header f
end-filled w l ls f whole =
    end-length l.header.size (((place_in w ls).offset + length (spelling l.before)) + length (octets_of l.header))
    (contents_length l.header f) (end_in w (l ∷ ls) f) (omega (arith, length-opening l.header))
    ∙ ap (λ (k : Bool). k && has_length l.header.size (contents_length l.header f)) (sym whole)

-- a frame that ends there says so
end-there : (end : Option ℕ) (offset : ℕ) → is_end_at end offset ≡ true → end ≡ Some offset
end-there None offset e = absurd (cc)
end-there (Some n) offset e = ap Some (eqb-true n offset e)

-- if the innermost open element is not filled, no element ends
pub settled-within : (w : Framing) (ls : List Layer) (f : Forest) → (IsFilled (frames_of w ls) (end_in w ls f) → ⊥)
    → settled_forest ls f ≡ forest_in_layers ls f
settled-within w [] f n = refl
settled-within w (l ∷ ls) f n = elim (cases_Bool (is_filled_by l.header f)) [
  | inl e ↦
      let parts : (is_whole f ≡ true) × (has_length l.header.size (contents_length l.header f) ≡ true) =
      and_parts _ _ e in
      absurd (n (end-there _ (end_in w (l ∷ ls) f) (end-filled w l ls f parts.0 ∙ e)))
  | inr e ↦ rw e refl
]
