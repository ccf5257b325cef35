use Rattle.std.proofs.Common.{◌≡◌, ℕ, length, take, get_or, ap, sym, refl, ◌∙◌}
use Rattle.std.specs.Prelude.{true, false, min}
use Rattle.std.specs.Str.{is_utf8}
use Rattle.std.proofs.lemmas.List.{take_min}
use Rattle.tlv_io.specs.Cuts.{utf8_length}
use Rattle.tlv_value.proofs.TextLemmas.UnitSteps.{is_utf8-same}
use Rattle.tlv_value.proofs.units.utf8_unit_size.Goals as goal

pub returns-then-is_utf8-clause-value : goal.returns-then-is_utf8-clause-value
returns-then-is_utf8-clause-value c =
    let n : c.min.result ≡ min (utf8_length (get_or c.args.octets.now 0 0)) (length c.args.octets.now) =
    c.min.ensures ∙ ap (λ (m : ℕ). min m (length c.args.octets.now)) c.utf8_length.ensures.value in
    let e =
    ap (λ (m : ℕ). take m c.args.octets.now) n
    ∙ take_min (utf8_length (get_or c.args.octets.now 0 0)) c.args.octets.now in
    let t : is_utf8 (take c.min.result c.args.octets.now) ≡ true =
    sym (is_utf8-same (take c.min.result c.args.octets.now) c.is_utf8.result c.is_utf8.ensures)
    ∙ c.if-is_utf8.true in
    rw (← e, t) refl

pub returns-else-is_utf8-clause-value : goal.returns-else-is_utf8-clause-value
returns-else-is_utf8-clause-value c =
    let n : c.min.result ≡ min (utf8_length (get_or c.args.octets.now 0 0)) (length c.args.octets.now) =
    c.min.ensures ∙ ap (λ (m : ℕ). min m (length c.args.octets.now)) c.utf8_length.ensures.value in
    let e =
    ap (λ (m : ℕ). take m c.args.octets.now) n
    ∙ take_min (utf8_length (get_or c.args.octets.now 0 0)) c.args.octets.now in
    let t : is_utf8 (take c.min.result c.args.octets.now) ≡ false =
    sym (is_utf8-same (take c.min.result c.args.octets.now) c.is_utf8.result c.is_utf8.ensures)
    ∙ c.if-is_utf8.false in
    rw (← e, t) refl
