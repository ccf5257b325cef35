use Rattle.std.proofs.Common.{◌≡◌, ◌≤◌, ◌++◌, ◌∷◌, ◌∙◌, ℕ, List, [], ap, arith, false, get_or, length, sym, take}
use Rattle.std.specs.Prelude.{if◌then◌else◌, unwrap_or}
use Rattle.std.proofs.lemmas.Slice.Eq.{slice_eq-Decides}
use Rattle.std.proofs.lemmas.Bool.Decides.{Decides-eqb}
use Rattle.std.proofs.lemmas.List.{length-append, length-take}
use Rattle.tlv_value.specs.Arcs.{dotted_of}
use Rattle.tlv_value.proofs.known_texts.KnownTexts.write_dotted.Goals as goal

pub returns-then-eq-clause-adds : goal.returns-then-eq-clause-adds
returns-then-eq-clause-adds c =
    let known = get_or c.args.self.now.texts c.place_of.result c.index-self-place_of.result in
    let contents : List ℕ = take c.from.result known.contents in
    let d = slice_eq-Decides Decides-eqb c.args.contents.now contents c.eq.result c.eq.ensures in
    let same : c.args.contents.now ≡ contents = d.0 c.if-eq.true in
    let size : contents ≡ take known.contents_size known.contents =
    ap (λ (n : ℕ). take n known.contents) c.from.ensures in
    let added : List ℕ = take c.from-then-eq.result known.text in
    let text : added ≡ (if known.has_text then 32 ∷ unwrap_or (dotted_of false c.args.contents.now) [] else []) =
    ap (λ (n : ℕ). take n known.text) c.from-then-eq.ensures ∙ known.is
    ∙ ap (λ (l : List ℕ). if known.has_text then 32 ∷ unwrap_or (dotted_of false l) [] else []) (sym (same ∙ size)) in
    let fewer : length added ≤ 259 =
    omega (arith, length-take c.from-then-eq.result known.text, c.from-then-eq.ensures, known.text_within) in
    record {
      text = c.add_prefix.ensures ∙ ap (λ (l : List ℕ). c.args.held.now ++ l) text;
      within = rw (c.add_prefix.ensures, length-append c.args.held.now added) omega (arith, fewer);
    }
