use Rattle.std.proofs.Common.{◌≡◌, ◌∷◌, [], ◌++◌, arith, rules, sym}
use Rattle.tlv_text.proofs.PairReadLemmas.{digits-at, four-read}
use Rattle.tlv_text.proofs.Slices.{from-on}
use Rattle.tlv_text.proofs.pairs.take_four_pairs.Goals as goal

pub loop-rest-preserved : goal.loop-rest-preserved
loop-rest-preserved c =
    let i = c.loop-rest.invariant in
    let text = c.loop-rest.rest.now in
    let whole = c.args.text.now.now in
    let size = c.in-len8-up.len_at_least in
    let first = c.octet_or_more-first.ensures.octet (search rules) in
    let second = c.octet_or_more-second.ensures.octet (search rules) in
    let third = c.octet_or_more-third.ensures.octet (search rules) in
    let fourth = c.octet_or_more-fourth.ensures.octet (search rules) in
    let added : c.extend_from_slice.new.self.items
    ≡ c.loop-rest.octets.items
    ++ c.octet_or_more-first.result ∷ c.octet_or_more-second.result ∷ c.octet_or_more-third.result
    ∷ c.octet_or_more-fourth.result ∷ [] =
    search rules in
    record {
      read = rw added (four-read _ c.loop-rest.octets.items c.loop-rest.rest.now _ _ _ _ c.in-len8-up.len_at_least
          (sym first) (sym second) (sym third) (sym fourth) i.read);
      digits = rw (from-on 8 text)
          (digits-at whole text 6 _ size (sym fourth)
          (digits-at whole text 4 _ (omega (arith, size)) (sym third)
          (digits-at whole text 2 _ (omega (arith, size)) (sym second)
          (digits-at whole text 0 _ (omega (arith, size)) (sym first) i.digits))));
      less = search rules;
    }
