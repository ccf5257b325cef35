use Rattle.std.proofs.Common.{◌≡◌, Bool, ◌&&◌, true, false, inl, inr, sym, ap, ◌∙◌, arith, length, take, drop, List, ℕ}
use Rattle.tlv_head.specs.HeaderFields.{new_header}
use Rattle.tlv_head.specs.UniversalTypes as universal
use Rattle.tlv_value.specs.Types.{is_a}
use Rattle.tlv_open.specs.Breaks.{names_extension}
use Rattle.tlv_open.proofs.ElementLemmas.Elements.{tail-all}
use Rattle.tlv_open.proofs.FinderLemmas.Extensions.{begins-none, begins-some, none-begin_extension}
use Rattle.tlv_open.proofs.spot.begin_extension.Goals.{then-fields-via-then-fields}
use Rattle.tlv_open.proofs.spot.begin_extension.Goals.{then-fields-via-else-fields+then-length-rest}
use Rattle.tlv_open.proofs.spot.begin_extension.Goals as goal

pub returns-in_default : goal.returns-in_default
returns-in_default c = λ p f depth ends rest r.
    none-begin_extension p f depth c.args.offset ends c.args.octets.now rest r c.in_default.ensures

pub returns-then-fields : goal.returns-then-fields
returns-then-fields c = λ p f depth ends rest r.
    begins-none c.args.octets.now c.args.offset c.in-Some.fields c.in-Some.count c.in-Some.ensures p f depth ends rest r
    (elim c.then-fields.branch [
      | then-fields-via-then-fields w ↦ inl w.if-fields.true
      | then-fields-via-else-fields+then-length-rest w ↦
          inr (omega (
            arith,
            w.if-length-rest.true,
            c.announced_length-length.ensures,
            ap length (tail-all c.args.octets.now c.in-Some.count),
          ))
    ])

both : (a k n m : Bool) → a ≡ k → a ≡ true → n ≡ m → n ≡ (k && m)
both a true n m e t d = d
both a false n m e t d = let u : true ≡ false = sym t ∙ e in absurd (cc (u))

neither : (a k m : Bool) → a ≡ k → a ≡ false → a ≡ (k && m)
neither a true m e t = let u : true ≡ false = sym e ∙ t in absurd (cc (u))
neither a false m e t = t

pub returns-then-is_a : goal.returns-then-is_a
returns-then-is_a c = λ p f depth ends rest r.
    both c.is_a.result
    (is_a universal.object_identifier (new_header c.in-Some.fields (take c.in-Some.count c.args.octets.now)))
    c.names_extension.result _ (c.is_a.ensures (take c.in-Some.count c.args.octets.now)) c.if-is_a.true
    (c.names_extension.ensures
    ∙ ap (λ (o : List ℕ). names_extension (take c.announced_length-length.result o))
    (tail-all c.args.octets.now c.in-Some.count))
    ∙ begins-some c.args.octets.now c.args.offset c.in-Some.fields c.in-Some.count c.in-Some.ensures p f depth ends rest
    c.announced_length-length.result r c.if-fields.false c.announced_length-length.ensures
    (omega (arith, c.if-length-rest.false, ap length (tail-all c.args.octets.now c.in-Some.count)))

pub returns-else-is_a : goal.returns-else-is_a
returns-else-is_a c = λ p f depth ends rest r.
    neither c.is_a.result
    (is_a universal.object_identifier (new_header c.in-Some.fields (take c.in-Some.count c.args.octets.now)))
    (names_extension (take c.announced_length-length.result (drop c.in-Some.count c.args.octets.now)))
    (c.is_a.ensures (take c.in-Some.count c.args.octets.now)) c.if-is_a.false
    ∙ begins-some c.args.octets.now c.args.offset c.in-Some.fields c.in-Some.count c.in-Some.ensures p f depth ends rest
    c.announced_length-length.result r c.if-fields.false c.announced_length-length.ensures
    (omega (arith, c.if-length-rest.false, ap length (tail-all c.args.octets.now c.in-Some.count)))
