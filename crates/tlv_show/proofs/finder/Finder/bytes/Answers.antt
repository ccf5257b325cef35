use Rattle.std.proofs.Common.{◌≡◌, ◌==◌, ◌∙◌, ℕ, ap, false, length, refl, sym, take}
use Rattle.std.proofs.lemmas.List.{take_min}
use Rattle.std.specs.Prelude.{min}
use Rattle.tlv_show.proofs.finder.Finder.bytes.Goals as goal

pub returns-then-not-is_empty : goal.returns-then-not-is_empty
returns-then-not-is_empty g c =
    let octets = c.args.octets.now in
    let some : (length octets == 0) ≡ false = sym c.is_empty.ensures ∙ c.if-not-is_empty.true in
    let taken : take c.min-count.result octets ≡ take c.self.inside.check.left octets =
    ap (λ (n : ℕ). take n octets) (c.min-count.ensures ∙ ap (λ (left : ℕ). min left (length octets)) c.left.ensures)
    ∙ take_min c.self.inside.check.left octets in
    rw (
      ← c.self.view_is,
      c.if-self.true,
      some,
      c.bytes.ensures.state,
      taken,
      c.bytes_in_order.ensures,
      c.bytes_in_strings.ensures,
    )
    refl
