use Rattle.std.proofs.Common.{◌++◌, List, ℕ, ap, append_assoc, arith, rules, refl, ◌∙◌}
use Rattle.tlv_io.proofs.Puts.{puts_failed_in, puts_text, puts_then_as}
use Rattle.tlv_value.specs.ValueTextState.{ValueTextState, begin_lines, contents_lines, end_lines, value_text_after}
use Rattle.tlv_value.specs.Private.PrimitiveLines.{lines_in_steps}
use Rattle.tlv_value.proofs.whole_lines.put_in_steps.Goals as goal

pub bytes-requires : goal.bytes-requires
bytes-requires g c = omega (arith, ap (λ (t : ValueTextState). t.left) c.of-text.ensures, c.requires)

pub end_with-requires : goal.end_with-requires
end_with-requires g c =
    omega (
      arith,
      ap (λ (t : ValueTextState). t.left) c.in_ok-bytes.ensures.state,
      ap (λ (t : ValueTextState). t.left) c.of-text.ensures,
      c.requires,
    )

pub returns-in_err-begin : goal.returns-in_err-begin
returns-in_err-begin g c =
    let name_of = g.N.NameTable.name_of c.args.names.now in
    let octets : List ℕ = c.args.contents.now in
    let s : ValueTextState = c.of-text.result in
    puts_failed_in g.D.Drain.state _ _ (begin_lines s) _ _ _ c.in_err-begin.ensures.puts (search rules) (record {
      rest = contents_lines s octets ++ end_lines name_of (value_text_after s octets);
      is = ap (λ (t : ValueTextState). lines_in_steps name_of t octets) c.of-text.ensures;
    })

pub returns-in_err-bytes : goal.returns-in_err-bytes
returns-in_err-bytes g c =
    let name_of = g.N.NameTable.name_of c.args.names.now in
    let octets : List ℕ = c.args.contents.now in
    let s : ValueTextState = c.of-text.result in
    let begun =
    puts_then_as g.D.Drain.state _ _ _ (begin_lines s) (contents_lines s octets)
    (begin_lines s ++ contents_lines s octets) _ _ c.in_ok-begin.ensures.puts c.in_err-bytes.ensures.puts
    refl in
    puts_failed_in g.D.Drain.state _ _ (begin_lines s ++ contents_lines s octets) _ _ _ begun (search rules) (record {
      rest = end_lines name_of (value_text_after s octets);
      is =
          append_assoc (begin_lines s) (contents_lines s octets) (end_lines name_of (value_text_after s octets))
          ∙ ap (λ (t : ValueTextState). lines_in_steps name_of t octets) c.of-text.ensures;
    })

pub returns : goal.returns
returns g c =
    let name_of = g.N.NameTable.name_of c.args.names.now in
    let octets : List ℕ = c.args.contents.now in
    let s : ValueTextState = c.of-text.result in
    let end =
    puts_text g.D.Drain.state _ _ _ _ _ (ap (end_lines name_of) c.in_ok-bytes.ensures.state) c.end_with.ensures.puts in
    let rest =
    puts_then_as g.D.Drain.state _ _ _ (contents_lines s octets) (end_lines name_of (value_text_after s octets))
    (contents_lines s octets ++ end_lines name_of (value_text_after s octets)) _ _ c.in_ok-bytes.ensures.puts
    end refl in
    puts_then_as g.D.Drain.state _ _ _ _ _ _ _ _ c.in_ok-begin.ensures.puts rest
    (ap (λ (t : ValueTextState). lines_in_steps name_of t octets) c.of-text.ensures)
