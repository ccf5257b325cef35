use Rattle.std.proofs.Common.{◌+◌, take, drop, sym, ◌∙◌, subst, refl, arith}
use Rattle.std.proofs.lemmas.List.{take-append-drop, take_all, take_more}
use Rattle.tlv_head.specs.Refusal.{BeginsWith}
use Rattle.tlv_head.specs.HeaderFields.{new_header}
use Rattle.tlv_head.specs.Private.NextOctet.{MakesHeader}
use Rattle.tlv_head.proofs.ReaderLemmas.Prefix.{split-at, begun_none, begun_part, made_begins, made_sized}
use Rattle.tlv_head.proofs.GrammarLemmas.RefusedOctets.{refused-with_none}
use Rattle.tlv_head.proofs.header_at_once.read_header.Goals as goal

pub returns-in-Whole : goal.returns-in-Whole
returns-in-Whole c =
    let xs = c.args.octets.now in
    let i = c.loop-i.i in
    let octets = take (i + 1) xs in
    let made : MakesHeader c.in-Whole.identifier c.in-Whole.size octets =
    subst (MakesHeader c.in-Whole.identifier c.in-Whole.size) (sym (take_more xs i 0 (omega arith)))
    (c.in-Whole.ensures (take i xs) c.loop-i.invariant.carries) in
    rw c.header_fields.ensures (record {
      within = omega arith;
      sized = made_sized octets _ c.in-Whole.identifier c.in-Whole.size made refl;
      begins =
          subst
          (λ s. BeginsWith s c.args.offset c.args.named
          (new_header
          (record {
            offset =
                c.args.offset;
            named =
                c.args.named;
            class =
                c.in-Whole.identifier.class;
            constructed =
                c.in-Whole.identifier.constructed;
            number =
                c.in-Whole.identifier.number;
            size =
                c.in-Whole.size;
            id_len = c.in-Whole.identifier.id_len;
          })
          octets))
          (take-append-drop (i + 1) xs)
          (made_begins octets (drop (i + 1) xs) c.args.offset c.args.named c.in-Whole.identifier
          c.in-Whole.size made);
    })

pub returns-in-Refused : goal.returns-in-Refused
returns-in-Refused c = λ h rest v e.
    refused-with_none _ _ _ (drop (c.loop-i.i + 1) c.args.octets.now)
    (c.in-Refused.ensures (take c.loop-i.i c.args.octets.now) c.loop-i.invariant.carries) h rest v
    (sym (split-at c.args.octets.now c.loop-i.i (omega arith)) ∙ e)

pub returns : goal.returns
returns c = λ h rest v e.
    begun_none _ (begun_part _ _ c.loop-i.invariant.carries c.loop-i.invariant.unfinished) h rest v
    (sym e ∙ sym (take_all c.loop-i.i c.args.octets.now (omega arith)))
