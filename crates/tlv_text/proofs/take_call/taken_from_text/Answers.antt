use Rattle.std.proofs.Common.{◌∙◌, sym}
use Rattle.tlv_text.proofs.CountingLemmas.{fault-weaker, returned-fault}
use Rattle.tlv_text.proofs.InputLemmas.{control-taken, no_text-taken, none-taken, other-taken, sound-taken, text-is}
use Rattle.tlv_text.proofs.InputLemmas.{surely-taken, text-taken, too_long-taken}
use Rattle.tlv_text.specs.declared.text_fault.TextFault.TheVariants.{Memory}
use Rattle.tlv_text.proofs.take_call.taken_from_text.Goals as goal

pub returns-in_err-ascii-clause-fault : goal.returns-in_err-ascii-clause-fault
returns-in_err-ascii-clause-fault c =
    returned-fault _ Memory _ c.from_residual.ensures.1 tt

pub returns-then-has_controls-clause-taken : goal.returns-then-has_controls-clause-taken
returns-then-has_controls-clause-taken c =
    control-taken c.args.octets.now _
    (text-is c.args.octets.now _ _ c.text_in-text.ensures c.in_ok-ascii.ensures)
    _ c.new.ensures.items (sym c.has_controls.ensures ∙ c.if-has_controls.true)

pub are_surely_encodings-requires-clause-text : goal.are_surely_encodings-requires-clause-text
are_surely_encodings-requires-clause-text c =
    text-is c.args.octets.now _ _ c.text_in-text.ensures c.in_ok-ascii.ensures

pub returns-then-are_surely_encodings-clause-taken : goal.returns-then-are_surely_encodings-clause-taken
returns-then-are_surely_encodings-clause-taken c =
    surely-taken c.args.octets.now _ c.new-then-are_surely_encodings.ensures.items
    (c.are_surely_encodings.ensures.0 c.if-are_surely_encodings.true)

pub returns-in_err-taken-clause-fault : goal.returns-in_err-taken-clause-fault
returns-in_err-taken-clause-fault c =
    let is = text-is c.args.octets.now _ _ c.text_in-text.ensures c.in_ok-ascii.ensures in
    returned-fault _ c.in_err-taken.field-0.0 _ c.from_residual-in_err-taken.ensures.1
    (fault-weaker _
    (too_long-taken c.args.octets.now _ is (sym c.has_controls.ensures ∙ c.if-has_controls.false)
    (λ surely. absurd (cc (c.are_surely_encodings.ensures.1 surely, c.if-are_surely_encodings.false))))
    c.in_err-taken.ensures.fault)

pub returns-in_err-one_taken-clause-fault : goal.returns-in_err-one_taken-clause-fault
returns-in_err-one_taken-clause-fault c =
    returned-fault _ Memory _ c.from_residual-in_err-one_taken.ensures.1 tt

pub returns-then-not-are_encodings-clause-taken : goal.returns-then-not-are_encodings-clause-taken
returns-then-not-are_encodings-clause-taken c =
    let taken = c.in_ok-taken.taken in
    other-taken c.args.octets.now _ (text-is c.args.octets.now _ _ c.text_in-text.ensures c.in_ok-ascii.ensures)
    (sym c.has_controls.ensures ∙ c.if-has_controls.false)
    taken.items c.in_ok-taken.ensures.taken _ c.taken_other_text.result
    (none-taken _ taken.items taken.ok.0 (sym c.is_empty.ensures ∙ c.if-is_empty.true))
    (λ encodings. absurd (cc (c.are_encodings.ensures.1 encodings, c.if-not-are_encodings.true)))
    (sym c.is_other_text.ensures ∙ c.if-is_other_text.true) c.in_ok-one_taken.ensures c.taken_other_text.ensures.value

pub returns-clause-taken : goal.returns-clause-taken
returns-clause-taken c =
    let taken = c.in_ok-taken.taken in
    let is = text-is c.args.octets.now _ _ c.text_in-text.ensures c.in_ok-ascii.ensures in
    let no_control = sym c.has_controls.ensures ∙ c.if-has_controls.false in
    elim c.else-is_empty.branch [
      | goal.else-is_empty-via-then-is_empty+then-is_other_text+else-not-are_encodings w ↦
          sound-taken c.args.octets.now _ is no_control taken.items c.in_ok-taken.ensures.taken
          (none-taken _ taken.items taken.ok.0 (sym c.is_empty.ensures ∙ w.if-is_empty.true))
          (w.are_encodings.ensures.0 w.if-not-are_encodings.false)
      | goal.else-is_empty-via-then-is_empty+else-is_other_text w ↦
          no_text-taken c.args.octets.now _ is no_control taken.items c.in_ok-taken.ensures.taken
          (none-taken _ taken.items taken.ok.0 (sym c.is_empty.ensures ∙ w.if-is_empty.true))
          (sym w.is_other_text.ensures ∙ w.if-is_other_text.false)
      | goal.else-is_empty-via-else-is_empty w ↦
          text-taken c.args.octets.now _ is no_control
          (λ surely. absurd (cc (c.are_surely_encodings.ensures.1 surely, c.if-are_surely_encodings.false)))
          taken.items c.in_ok-taken.ensures.taken
          _ taken.ok.0 (sym c.is_empty.ensures ∙ w.if-is_empty.false)
    ]
