use Rattle.std.proofs.Common.{◌≡◌, ◌∙◌, ◌<◌, ◌%◌, ℕ, List, ap, arith, length, rules, subst, sym}
use Rattle.tlv_text.specs.Base64.{SymbolsRead}
use Rattle.tlv_text.specs.declared.base64_text.Alphabet.TheVariants.{Standard}
use Rattle.tlv_text.proofs.PlainLemmas.{is-base64, other-rest}
use Rattle.tlv_text.proofs.TextLemmas.{IsReadSoFar, more-so_far, none-so_far}
use Rattle.tlv_text.proofs.plain.plain_octets.Goals as goal

pub loop-rest-init : goal.loop-rest-init
loop-rest-init c = record {
  read = subst (λ (octets : List ℕ). IsReadSoFar Standard c.args.text.now octets c.args.text.now)
      (sym c.new-octets.ensures.items) (none-so_far Standard c.args.text.now);
  plain = search rules;
}

pub returns-then-not-are_padding_or_ends : goal.returns-then-not-are_padding_or_ends
returns-then-not-are_padding_or_ends c =
    let i = c.loop-rest.invariant in
    let taken = c.take_plain_symbols.ensures in
    let few : length c.take_plain_symbols.new.symbols.items < 4096 =
    omega (arith, c.if-len-lt-SYMBOLS.true, c.len.ensures.value) in
    other-rest c.args.text.now c.take_plain_symbols.new.rest.now
    (ap (λ (r : SymbolsRead). r.rest) i.read.read ∙ ap (λ (r : SymbolsRead). r.rest) taken.read)
    (taken.plain ∙ i.plain) (taken.last few)
    (sym c.are_padding_or_ends.ensures ∙ c.if-not-are_padding_or_ends.true)

pub loop-rest-preserved : goal.loop-rest-preserved
loop-rest-preserved c =
    let i = c.loop-rest.invariant in
    let taken = c.take_plain_symbols.ensures in
    let whole : length c.take_plain_symbols.new.symbols.items % 4 ≡ 0 =
    omega (arith, taken.few, c.if-len-lt-SYMBOLS.false, c.len.ensures.value) in
    record {
      read = more-so_far Standard c.args.text.now c.loop-rest.octets.items c.loop-rest.rest.now
          c.take_plain_symbols.new.symbols.items _ _ i.read taken.read whole taken.less
          (rw c.as_slice-in-loop-rest.ensures.value at c.in_ok-add_groups.ensures);
      plain = taken.plain ∙ i.plain;
    }

pub returns-then-len-lt-SYMBOLS : goal.returns-then-len-lt-SYMBOLS
returns-then-len-lt-SYMBOLS c =
    let i = c.loop-rest.invariant in
    is-base64 c.args.text.now c.in_ok-decoded.decoded.octets.items c.take_plain_symbols.new.rest.now
    c.in_ok-decoded.decoded.refused c.in_ok-decoded.ensures (sym c.is_some.ensures ∙ c.if-is_some.false)
    (c.take_plain_symbols.ensures.plain ∙ i.plain)
    (sym c.are_padding_or_ends.ensures ∙ c.if-not-are_padding_or_ends.false)
