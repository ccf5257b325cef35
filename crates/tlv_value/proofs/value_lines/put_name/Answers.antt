use Rattle.std.proofs.Common.{rules, ◌∷◌, [], refl}
use Rattle.tlv_io.proofs.Puts.{puts_failed_in, puts_held, puts_then}
use Rattle.tlv_value.proofs.value_lines.put_name.Goals as goal

pub returns-in_err-put : goal.returns-in_err-put
returns-in_err-put g c =
    let state_of = g.D.Drain.state in
    puts_failed_in state_of
    _ _ _ _ _ _ (puts_then state_of _ _ _ (32 ∷ 40 ∷ []) c.args.name.now
    _ _ (puts_held state_of _ _ (32 ∷ 40 ∷ []) (tt {0}) refl c.add.ensures) c.in_err-put.ensures.puts)
    (search rules) (record {
      rest = 41 ∷ 10 ∷ [];
      is = refl;
    })

pub returns : goal.returns
returns g c =
    let state_of = g.D.Drain.state in
    puts_then state_of _ _ _ (32 ∷ 40 ∷ c.args.name.now) (41 ∷ 10 ∷ []) _ _
    (puts_then state_of _ _ _ (32 ∷ 40 ∷ []) c.args.name.now
    _ _ (puts_held state_of _ _ (32 ∷ 40 ∷ []) (tt {0}) refl c.add.ensures) c.in_ok-put.ensures.puts)
    c.put-2.ensures.puts
