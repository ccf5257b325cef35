use Rattle.std.proofs.Common.{◌≡◌, ◌+◌, ◌<◌, ◌++◌, ◌∷◌, ℕ, List, drop, get_or, length, ap, sym, refl, ◌∙◌, arith}
use Rattle.std.proofs.Common.{◌-◌, Bool, take, add-one, append_assoc, rules}
use Rattle.std.specs.Prelude.{◌==◌}
use Rattle.std.proofs.lemmas.List.{length-drop, length-take}
use Rattle.std.proofs.Math.Seq.{drop-cons}
use Rattle.tlv_io.proofs.Puts.{puts_as, puts_failed_in, puts_then}
use Rattle.tlv_view_program.specs.Offsets.{listed_offset, offsets_line}
use Rattle.tlv_view_program.proofs.offsets.put_offsets.Goals as goal

-- nothing is left in the slice after so many exactly if there are no more
last-is : (xs : List ℕ) (k : ℕ) (b : Bool) → b ≡ (length (take (length xs - k) (drop k xs)) == 0)
    → b ≡ (length (drop k xs) == 0)
last-is xs k b e =
    e ∙ ap (λ (n : ℕ). n == 0) (omega (arith, length-take (length xs - k) (drop k xs), length-drop k xs))

-- the text of one more offset
next_offset : (text line all : List ℕ) (xs : List ℕ) (i : ℕ) → i < length xs
    → line ≡ listed_offset (get_or xs i 0) (length (drop (i + 1) xs) == 0)
    → text ++ offsets_line (drop i xs) ≡ all → text ++ (line ++ offsets_line (drop (i + 1) xs)) ≡ all
next_offset text line all xs i h e f =
    let next : drop i xs ≡ get_or xs i 0 ∷ drop (i + 1) xs = rw add-one (drop-cons xs i 0 h) in
    ap (λ (l : List ℕ). text ++ (l ++ offsets_line (drop (i + 1) xs))) e
    ∙ ap (λ (l : List ℕ). text ++ offsets_line l) (sym next)
    ∙ f

pub returns-in_err-put : goal.returns-in_err-put
returns-in_err-put g c =
    let i = c.loop-i.invariant in
    puts_failed_in g.D.Drain.state
    _ _ _ _ _ _ (puts_then g.D.Drain.state _ _ _ _ _ _ _ i.put.1 c.in_err-put.ensures.puts) (search rules)
    (record {
      rest = _;
      is = append_assoc i.put.0 _ _ ∙ next_offset i.put.0 _ _ c.args.offsets.now c.loop-i.i (omega arith)
          (c.as_slice.ensures.value ∙ c.offset_text-text.ensures
          ∙ ap (listed_offset _) (last-is c.args.offsets.now (c.loop-i.i + 1) _ c.is_empty.ensures)) i.put.2;
    })

pub loop-i-preserved : goal.loop-i-preserved
loop-i-preserved g c =
    let i = c.loop-i.invariant in
    record {
      put = (
        _,
        puts_as g.D.Drain.state
            _ _ _ _ _ _ (puts_then g.D.Drain.state _ _ _ _ _ _ _ i.put.1 c.in_ok-put.ensures.puts) refl,
        append_assoc i.put.0 _ _
            ∙ next_offset i.put.0 _ _ c.args.offsets.now c.loop-i.i (omega arith)
            (c.as_slice.ensures.value ∙ c.offset_text-text.ensures
            ∙ ap (listed_offset _) (last-is c.args.offsets.now (c.loop-i.i + 1) _ c.is_empty.ensures)) i.put.2,
      );
    }
