use Rattle.std.proofs.Common.{drop, take, take-append-drop}
use Rattle.tlv_reasons.proofs.StartLemmas.{size-sound}
use Rattle.tlv_reasons.proofs.start.begins_with_encodings.Goals as goal

pub returns-in-Some : goal.returns-in-Some
returns-in-Some c = (
  (λ t. record {
    front = take c.in-Some.size c.args.octets.now;
    rest = drop c.in-Some.size c.args.octets.now;
    octets_are = take-append-drop c.in-Some.size c.args.octets.now;
    sound = c.is_sound.ensures.0 t;
  }),
  (λ k. c.is_sound.ensures.1 (size-sound c.args.octets.now c.in-Some.size c.first_size.result c.in-Some.is
      (c.first_size.ensures.size k))),
)
