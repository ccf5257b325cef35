-- Blocks that are in layers of base64.
use Rattle.std.proofs.Common.{◌≡◌, ◌+◌, ◌-◌, ◌<◌, ◌≤◌, List, [], ◌∷◌, ◌++◌, Option, ℕ, length, map, take, drop, get_or}
use Rattle.std.proofs.Common.{refl, ap, append-nil, ◌∙◌, arith}
use Rattle.std.proofs.Math.ListN.{set}
use Rattle.std.proofs.lemmas.List.{drop_all, take_all}
use Rattle.std.proofs.lemmas.List.Edits.{map_over_more}
use Rattle.arrayvec.specs.ArrayVec.{ArrayVec}
use Rattle.std.specs.List.{All}
use Rattle.std.proofs.lemmas.List.Elements.{All-map}
use Rattle.std.proofs.lemmas.List.{get_or-append_right, get_or-drop, length-map, length-take, length-append}
use Rattle.tlv_text.specs.Private.Counting.{IsBounded}
use Rattle.tlv_text.specs.Taken.{in_layer, taken_value}
use Rattle.tlv_text.specs.declared.taken.Taken.{Taken}

-- in one more layer, as code sees it
abbrev pub pushed_layer : Option ℕ → Taken → Taken
pushed_layer layer t = record t { layers = record { items = t.layers.items ++ layer ∷ [] } }

-- the same as contracts see it
pub pushed-values : (layer : Option ℕ) (ts : List Taken)
    → map taken_value (map (pushed_layer layer) ts) ≡ map (in_layer layer) (map taken_value ts)
pushed-values layer [] = refl
pushed-values layer (t ∷ ts) = ap (λ all. taken_value (pushed_layer layer t) ∷ all) (pushed-values layer ts)

-- it is in one layer more
pub pushed-bounded : (n : ℕ) (layer : Option ℕ) (ts : List Taken) → All (IsBounded n) ts
    → All (IsBounded (n + 1)) (map (pushed_layer layer) ts)
pushed-bounded n layer ts bounded =
    All-map (IsBounded (n + 1)) (pushed_layer layer) ts
    (λ k d h.
    let was = bounded k d h in record {
      few = omega (arith, was.few, length-append (get_or ts k d).layers.items (layer ∷ []));
      within = was.within;
    })

-- the layer is not yet added where a loop stands
pub fresh-get : (layer : Option ℕ) (ts : List Taken) (i : ℕ) (d : Taken) → i < length ts
    → get_or (map (pushed_layer layer) (take i ts) ++ drop i ts) i d ≡ get_or ts i d
fresh-get layer ts i d within =
    let size : length (map (pushed_layer layer) (take i ts)) ≡ i =
    omega (arith, length-map (take i ts) (pushed_layer layer), length-take i ts) in
    get_or-append_right (map (pushed_layer layer) (take i ts)) (drop i ts) i i d size (omega arith)
    ∙ get_or-drop i ts (i - i) d ∙ ap (λ k. get_or ts k d) (omega arith)

-- a loop adds the layer to the next block
pub layer-next : (layer : Option ℕ) (ts now : List Taken) (i : ℕ) (d : Taken) (layers : ArrayVec (Option ℕ))
    → i < length ts → now ≡ map (pushed_layer layer) (take i ts) ++ drop i ts → d ≡ get_or now i d
    → layers.items ≡ (get_or now i d).layers.items ++ layer ∷ []
    → set now i (record (get_or now i d) { layers = layers })
    ≡ map (pushed_layer layer) (take (i + 1) ts) ++ drop (i + 1) ts
layer-next layer ts now i d layers within before is push =
    ap (λ (xs : List (Option ℕ)). set now i (record (get_or now i d) { layers = record { items = xs } })) push
    ∙ map_over_more (pushed_layer layer) ts now i (get_or now i d) within before (ap (get_or now i) is)

-- it has added it to all
pub all-layered : (layer : Option ℕ) (ts now : List Taken) (i : ℕ)
    → now ≡ map (pushed_layer layer) (take i ts) ++ drop i ts → length ts ≤ i → now ≡ map (pushed_layer layer) ts
all-layered layer ts now i before all =
    before
    ∙ ap (λ (xs : List Taken). map (pushed_layer layer) xs ++ drop i ts) (take_all i ts all)
    ∙ ap (λ (xs : List Taken). map (pushed_layer layer) ts ++ xs) (drop_all i ts all)
    ∙ append-nil (map (pushed_layer layer) ts)
