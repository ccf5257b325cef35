use Rattle.std.proofs.Common.{◌≡◌, ◌%◌, ℕ, List, length, subst, sym, arith}
use Rattle.tlv_text.proofs.TextLemmas.{IsReadSoFar}
use Rattle.tlv_text.proofs.TextLemmas.{more-so_far, none-so_far}
use Rattle.tlv_text.proofs.base64_text.decode_with.Goals as goal

pub loop-rest-init : goal.loop-rest-init
loop-rest-init c =
    subst (λ (octets : List ℕ). IsReadSoFar c.args.alphabet c.args.text.now octets c.args.text.now)
    (sym c.new-octets.ensures.items) (none-so_far c.args.alphabet c.args.text.now)

pub loop-rest-preserved : goal.loop-rest-preserved
loop-rest-preserved c =
    let whole : length c.take_symbols.new.symbols.items % 4 ≡ 0 =
    omega (arith, c.take_symbols.ensures.few, c.if-len-lt-SYMBOLS.false, c.len.ensures.value) in
    more-so_far c.args.alphabet c.args.text.now c.loop-rest.octets.items c.loop-rest.rest.now
    c.take_symbols.new.symbols.items _ _ c.loop-rest.invariant c.take_symbols.ensures.read
    whole c.take_symbols.ensures.less
    (rw c.as_slice-in-loop-rest.ensures.value at c.in_ok-add_groups.ensures)
