use Rattle.std.proofs.Common.{◌≡◌, Bool, [], ◌∷◌, ◌+◌, ◌≤◌, length, arith, rules, refl, sym, ap, ◌∙◌, subst}
use Rattle.std.proofs.lemmas.Bool.{false≢true}
use Rattle.tlv_head.specs.declared.head_reader.Head.TheVariants.{Whole}
use Rattle.tlv_head.specs.declared.fault.FaultCode.TheVariants.{Overrun, TooDeep}
use Rattle.tlv_head.specs.HeadReader.{HeadReaderState, Completes, IsRefusedPush, Pushes, more, no_room, refused_octet}
use Rattle.tlv_head.specs.HeadReader.{whole}
use Rattle.tlv_head.specs.HeaderFields.{fields_hold}
use Rattle.tlv_head.specs.declared.header.HeaderFields.{HeaderFields}
use Rattle.tlv_head.specs.Refusal.{IsRefusedOctet}
use Rattle.tlv_head.proofs.ReaderLemmas.OneResult.{push-exact, completes_unique, prefix_not_whole, refusal-is}
use Rattle.tlv_head.proofs.ReaderLemmas.UnfinishedHeaders.{length-carried, made_overrun, made_too_deep, made_whole}
use Rattle.tlv_head.proofs.ReaderLemmas.UnfinishedHeaders.{unfinished_part}
use Rattle.tlv_head.proofs.head_reader.HeadReader.push.Goals as goal
use Rattle.tlv_head.proofs.head_reader.HeadReader.push.Goals.{else-depth-ge128-via-then-depth-ge128+else-fields_hold}
use Rattle.tlv_head.proofs.head_reader.HeadReader.push.Goals.{else-depth-ge128-via-else-depth-ge128}

-- whether the header that is made holds others
holds_made : {b : Bool} {f g : HeaderFields} → b ≡ fields_hold f → f ≡ g → b ≡ fields_hold g
holds_made e same = e ∙ ap fields_hold same

pub push-requires : goal.push-requires
push-requires c =
    let b : length c.self.inside.raw.items ≤ 136 =
    length-carried c.self.inside.part c.self.inside.raw.items c.self.invariant in
    (omega arith, omega arith)

pub returns-then-eq : goal.returns-then-eq
returns-then-eq c =
    let a : Pushes c.args.self.now c.args.octet c.args.room c.args.depth c.args.self.now c.refusal.result =
    refusal-is _ _ _ _ _ _ _ c.refusal.ensures (no_room (search rules))
    (rw (← c.self.view_is) (ap (λ n. c.self.inside.offset + n) c.len.ensures.value)) in
    record { pushes = a; whole = push-exact _ _ _ _ _ _ a }

pub returns-then-fields_hold : goal.returns-then-fields_hold
returns-then-fields_hold c =
    let deep : IsRefusedPush c.args.self.now c.args.octet c.args.room c.args.depth TooDeep =
    subst (λ (p : HeadReaderState). IsRefusedPush p c.args.octet c.args.room c.args.depth TooDeep) c.self.view_is
    (made_too_deep _ _ _ _ _ _ _ (search rules) (c.in-Whole.ensures c.self.inside.raw.items c.self.invariant) refl
    (sym (holds_made c.fields_hold.ensures c.header_fields-fields.ensures) ∙ c.if-fields_hold.true)
    c.if-depth-ge128.true) in
    let a : Pushes c.args.self.now c.args.octet c.args.room c.args.depth c.args.self.now
    c.refusal-then-fields_hold.result =
    refusal-is _ _ _ _ _ _ _ c.refusal-then-fields_hold.ensures deep
    (rw (← c.self.view_is) (ap (λ n. c.self.inside.offset + n) c.len.ensures.value)) in
    record { pushes = a; whole = push-exact _ _ _ _ _ _ a }

pub returns-then-not-contents_fit : goal.returns-then-not-contents_fit
returns-then-not-contents_fit c =
    let past : IsRefusedPush c.args.self.now c.args.octet c.args.room c.args.depth Overrun =
    subst (λ (p : HeadReaderState). IsRefusedPush p c.args.octet c.args.room c.args.depth Overrun) c.self.view_is
    (made_overrun _ _ _ _ _ _ _ (search rules) (c.in-Whole.ensures c.self.inside.raw.items c.self.invariant) refl
    (elim c.else-depth-ge128.branch [
      | else-depth-ge128-via-then-depth-ge128+else-fields_hold w ↦
          λ h. absurd (false≢true
          (sym w.if-fields_hold.false ∙ holds_made w.fields_hold.ensures c.header_fields-fields.ensures
          ∙ h))
      | else-depth-ge128-via-else-depth-ge128
          w ↦
          λ _. w.if-depth-ge128.false
    ])
    (λ f. absurd (false≢true (sym c.if-not-contents_fit.true ∙ c.contents_fit.ensures.1 f)))) in
    let a : Pushes c.args.self.now c.args.octet c.args.room c.args.depth c.args.self.now
    c.refusal-then-not-contents_fit.result =
    refusal-is _ _ _ _ _ _ _ c.refusal-then-not-contents_fit.ensures past
    (rw (← c.self.view_is) (ap (λ n. c.self.inside.offset + n) c.len.ensures.value)) in
    record { pushes = a; whole = push-exact _ _ _ _ _ _ a }

pub returns-in-Unfinished : goal.returns-in-Unfinished
returns-in-Unfinished c =
    let p =
    unfinished_part c.in-Unfinished.part c.self.inside.raw.items c.args.octet
    (c.in-Unfinished.ensures c.self.inside.raw.items c.self.invariant) in
    rw (← c.self.view_is) (record {
      pushes = more (search rules) p.0 (rw (p.1, c.push.ensures.items) refl);
      whole = λ h d f. absurd (prefix_not_whole _ _ h p.0 d);
    })

pub returns-in-Refused : goal.returns-in-Refused
returns-in-Refused c =
    let octet : IsRefusedOctet c.args.self.now.octets c.args.octet c.in-Refused.code =
    subst (λ (p : HeadReaderState). IsRefusedOctet p.octets c.args.octet c.in-Refused.code) c.self.view_is
    (c.in-Refused.ensures c.self.inside.raw.items c.self.invariant) in
    let a : Pushes c.args.self.now c.args.octet c.args.room c.args.depth c.args.self.now c.refusal-in-Refused.result =
    refusal-is _ _ _ _ _ _ _ c.refusal-in-Refused.ensures (refused_octet (search rules) octet)
    (rw (← c.self.view_is) (ap (λ n. c.self.inside.offset + n) c.len.ensures.value)) in
    record { pushes = a; whole = push-exact _ _ _ _ _ _ a }

-- the header that is returned
returned-completes : (c : goal.After-with_raw) → Completes c.args.self.now (c.args.octet ∷ []) c.with_raw.result
returned-completes c =
    rw (
      ← c.self.view_is,
      c.with_raw.ensures,
      c.header_fields-fields.ensures,
      c.take.ensures.value,
      c.push-in-Whole.ensures.items,
    )
    (made_whole _ _ _ _ _ (c.in-Whole.ensures c.self.inside.raw.items c.self.invariant) refl)

pub returns-else-not-contents_fit-clause-pushes : goal.returns-else-not-contents_fit-clause-pushes
returns-else-not-contents_fit-clause-pushes c =
    whole _ (returned-completes c)
    (rw (c.with_raw.ensures, c.header_fields-fields.ensures) (record {
      shallow =
          elim c.else-depth-ge128.branch [
            | else-depth-ge128-via-then-depth-ge128+else-fields_hold w ↦
                λ h. absurd (false≢true
                (sym w.if-fields_hold.false ∙ holds_made w.fields_hold.ensures c.header_fields-fields.ensures
                ∙ h))
            | else-depth-ge128-via-else-depth-ge128
                w ↦
                λ _. w.if-depth-ge128.false
          ];
      contents_fit = c.contents_fit.ensures.0 c.if-not-contents_fit.false;
    }))
    refl

pub returns-else-not-contents_fit-clause-whole : goal.returns-else-not-contents_fit-clause-whole
returns-else-not-contents_fit-clause-whole c =
    λ h d f. ap (λ g. Whole g) (completes_unique _ _ _ _ (returned-completes c) d)
