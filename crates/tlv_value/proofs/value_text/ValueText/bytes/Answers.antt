use Rattle.std.proofs.Common.{rules, ◌≡◌, ◌++◌, ◌∷◌, [], List, ℕ, sym, ap, ◌∙◌, arith}
use Rattle.std.specs.Prelude.{true, false}
use Rattle.std.proofs.lemmas.Grind.{common_steps}
use Rattle.tlv_io.proofs.Puts.{puts_failed_in, puts_text, puts_then_as}
use Rattle.tlv_head.specs.declared.kind.Kind.TheVariants.{Bits}
use Rattle.tlv_value.specs.RowsSoFar.{full_rows}
use Rattle.tlv_value.specs.ValueTextState.{ValueTextState, contents_lines, primitive_line, row_lines}
use Rattle.tlv_value.specs.ValueTextFields.{value_text_state_of}
use Rattle.tlv_value.specs.Value.{is_long, long_text, row_octets}
use Rattle.tlv_value.proofs.TextLemmas.PrimitiveLines.{new-first, rows-first}
use Rattle.tlv_value.proofs.TextLemmas.Rests.{bytes-puts}
use Rattle.tlv_value.proofs.value_text.ValueText.bytes.Goals as goal

-- the line, and then the rows
new-both : (s v : ValueTextState) (x : ℕ) (rest octets : List ℕ) → s ≡ v → s.primitive.kind ≡ Bits
    → s.kept.has_put_line ≡ false → is_long s.primitive.kind s.primitive.size ≡ true → octets ≡ x ∷ rest
    → primitive_line s.primitive (long_text Bits s.primitive.size (x ∷ []))
    ++ row_lines s.primitive.with_text Bits s.primitive.layout 0 (full_rows Bits (row_octets Bits (x ∷ [])) rest)
    ≡ contents_lines v octets
new-both s v x rest octets same b u l e =
    sym (new-first s x rest b u l) ∙ ap (contents_lines s) (sym e)
    ∙ ap (λ (w : ValueTextState). contents_lines w octets) same

pub returns-in_err-put_bits_line-clause-puts : goal.returns-in_err-put_bits_line-clause-puts
returns-in_err-put_bits_line-clause-puts g c =
    let t = c.self.inside in
    let l : is_long t.primitive.kind t.primitive.size ≡ true = sym c.if-not-is_long.ensures in
    let u = c.self.invariant.before_line l c.if-self.false in
    let x : ℕ = c.in-Some.unused_bits.now in
    let rest : List ℕ = c.in-Some.rest.now in
    let all =
    new-both (value_text_state_of t) c.args.self.now x rest c.args.octets.now c.self.view_is u.0 c.if-self.false l
    c.in-Some.ensures.cases.0 in
    puts_failed_in g.D.Drain.state _ _ (primitive_line t.primitive (long_text Bits t.primitive.size (x ∷ [])))
    _ _ _ c.in_err-put_bits_line.ensures (search rules)
    (record { rest = row_lines t.primitive.with_text Bits t.primitive.layout 0 (full_rows Bits (row_octets Bits (x ∷ [])) rest); is = all })

pub returns-clause-puts : goal.returns-clause-puts
returns-clause-puts g c =
    let t = c.self.inside in
    let l : is_long t.primitive.kind t.primitive.size ≡ true = sym c.if-not-is_long.ensures in
    let u = c.self.invariant.before_line l c.if-self.false in
    let x : ℕ = c.in-Some.unused_bits.now in
    let rest : List ℕ = c.in-Some.rest.now in
    let all =
    new-both (value_text_state_of t) c.args.self.now x rest c.args.octets.now c.self.view_is u.0 c.if-self.false l
    c.in-Some.ensures.cases.0 in
    let same =
    rows-first t.primitive.with_text t.primitive.kind t.primitive.layout t.row_count c.begin_row.new.row.items (row_octets Bits (x ∷ []))
    rest u.0 u.2 c.begin_row.ensures in
    let state_of = g.D.Drain.state in
    puts_then_as state_of _ _ _ _ _ _ _ _ c.in_ok-put_bits_line.ensures
    (puts_text state_of _ _ _ _ _ same c.put_rows-2.ensures.puts) all

pub returns-then-not-is_long-clause-puts : goal.returns-then-not-is_long-clause-puts
returns-then-not-is_long-clause-puts g c = grind (arith, common_steps)

pub returns-then-self-clause-puts : goal.returns-then-self-clause-puts
returns-then-self-clause-puts g c = search rules

pub returns-in_default-clause-puts : goal.returns-in_default-clause-puts
returns-in_default-clause-puts g c = search rules

-- in other words

pub returns-then-not-is_long-clause-lines : goal.returns-then-not-is_long-clause-lines
returns-then-not-is_long-clause-lines g c with_text h layout prefix e =
    bytes-puts g.D.Drain.state _ _ _ with_text h layout c.args.self.now prefix c.args.octets.now e
    (returns-then-not-is_long-clause-puts g c)

pub returns-then-self-clause-lines : goal.returns-then-self-clause-lines
returns-then-self-clause-lines g c with_text h layout prefix e =
    bytes-puts g.D.Drain.state _ _ _ with_text h layout c.args.self.now prefix c.args.octets.now e
    (returns-then-self-clause-puts g c)

pub returns-in_default-clause-lines : goal.returns-in_default-clause-lines
returns-in_default-clause-lines g c with_text h layout prefix e =
    bytes-puts g.D.Drain.state _ _ _ with_text h layout c.args.self.now prefix c.args.octets.now e
    (returns-in_default-clause-puts g c)

pub returns-in_err-put_bits_line-clause-lines : goal.returns-in_err-put_bits_line-clause-lines
returns-in_err-put_bits_line-clause-lines g c with_text h layout prefix e =
    bytes-puts g.D.Drain.state _ _ _ with_text h layout c.args.self.now prefix c.args.octets.now e
    (returns-in_err-put_bits_line-clause-puts g c)

pub returns-clause-lines : goal.returns-clause-lines
returns-clause-lines g c with_text h layout prefix e =
    bytes-puts g.D.Drain.state _ _ _ with_text h layout c.args.self.now prefix c.args.octets.now e (returns-clause-puts g c)
