use Rattle.std.proofs.Common.{◌≡◌, ◌∙◌, List, ℕ, [], ◌∷◌, ap, refl, rules, sym, true}
use Rattle.std.proofs.lemmas.Bool.{and_parts}
use Rattle.std.specs.List.{list_all}
use Rattle.tlv_io.proofs.Puts.{fails_octet, puts_octet}
use Rattle.tlv_value.specs.Units.{is_printable}
use Rattle.tlv_view_program.specs.Lines.{printable_name, printable_octet}
use Rattle.tlv_view_program.proofs.lines.put_printable.Goals as goal

-- a name that is printable is shown as it is
shown-as_is : (name : List ℕ) → list_all is_printable name ≡ true → printable_name name ≡ name
shown-as_is [] all = refl
shown-as_is (x ∷ name) all =
    let parts = and_parts (is_printable x) (list_all is_printable name) all in
    rw parts.0 (ap (λ (xs : List ℕ). x ∷ xs) (shown-as_is name parts.1))

pub returns-then-are_printable : goal.returns-then-are_printable
returns-then-are_printable g c =
    let all = ap (list_all is_printable) (sym c.as_bytes.ensures.value) ∙ sym c.if-are_printable.ensures in
    rw (shown-as_is c.args.name.now all, ← c.as_bytes-then-are_printable.ensures.value) c.put.ensures

pub returns-in_err-put : goal.returns-in_err-put
returns-in_err-put g c =
    let octets = c.as_bytes-octet-items.ensures.value in
    fails_octet g.D.Drain.state printable_octet _ _ _ c.args.name.now c.loop-octet.octet-index _ _
    (rw (← octets) c.loop-octet-test.true) c.loop-octet.invariant
    (rw (← octets) (rw c.printable_octet.ensures at c.in_err-put.ensures)) (search rules)

pub loop-octet-preserved : goal.loop-octet-preserved
loop-octet-preserved g c =
    let octets = c.as_bytes-octet-items.ensures.value in
    puts_octet g.D.Drain.state printable_octet _ _ _ c.args.name.now c.loop-octet.octet-index
    (rw (← octets) c.loop-octet-test.true) c.loop-octet.invariant
    (rw (← octets) (rw c.printable_octet.ensures at c.in_ok-put.ensures))
