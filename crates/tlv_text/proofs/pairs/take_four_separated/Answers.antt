use Rattle.std.proofs.Common.{◌≡◌, ◌∷◌, [], ◌++◌, append_assoc, arith, rules, sym}
use Rattle.tlv_text.proofs.PairReadLemmas.{separated-at}
use Rattle.tlv_text.proofs.Slices.{from-on}
use Rattle.tlv_text.proofs.pairs.take_four_separated.Goals as goal

pub loop-rest-preserved : goal.loop-rest-preserved
loop-rest-preserved c =
    let i = c.loop-rest.invariant in
    let text = c.loop-rest.rest.now in
    let size = c.in-len12-up.len_at_least in
    let first = c.separated_octet-first.ensures (search rules) in
    let second = c.separated_octet-second.ensures (search rules) in
    let third = c.separated_octet-third.ensures (search rules) in
    let fourth = c.separated_octet-fourth.ensures (search rules) in
    let added : c.extend_from_slice.new.self.items
    ≡ c.loop-rest.octets.items
    ++ c.separated_octet-first.result ∷ c.separated_octet-second.result ∷ c.separated_octet-third.result
    ∷ c.separated_octet-fourth.result ∷ [] =
    search rules in
    let one = separated-at c.args.text.now.now _ _ text 0 _ (omega (arith, size)) (sym first.0) first.1 i.read
    i.separated in
    let two = separated-at c.args.text.now.now _ _ text 3 _ (omega (arith, size)) (sym second.0) second.1 one.0 one.1 in
    let three = separated-at c.args.text.now.now _ _ text 6 _ (omega (arith, size)) (sym third.0) third.1 two.0 two.1 in
    let four = separated-at c.args.text.now.now _ _ text 9 _ size (sym fourth.0) fourth.1 three.0 three.1 in
    record {
      read = rw (added, from-on 12 text) (simp append_assoc (simp append_assoc at four.0));
      separated = rw (from-on 12 text) four.1;
      less = search rules;
    }
