use Rattle.std.proofs.Common.{◌≡◌, ◌++◌, ◌∙◌, ℕ, List, ap, refl, sym}
use Rattle.std.specs.Prelude.{codes, Option, None}
use Rattle.std.specs.Option.{option_map, unwrap_or}
use Rattle.tlv_head.specs.Tag.{bracketed_tag}
use Rattle.tlv_head.specs.TypeTable.{TypeRow, type_at}
use Rattle.tlv_value.proofs.line_starts.write_universal.Goals as goal

pub returns-in-None : goal.returns-in-None
returns-in-None c =
    let none : option_map (λ (t : TypeRow). t.name) (type_at c.args.number) ≡ None =
    sym c.in-None.ensures.name in
    let bracketed = c.write_bracketed.ensures.universal refl in
    record {
      text = bracketed.text
          ∙ ap (λ (name : Option (List ℕ)). c.args.held.now
          ++ unwrap_or name (bracketed_tag (codes "UNIVERSAL ") c.args.number))
          (sym none);
      within = bracketed.within;
    }
