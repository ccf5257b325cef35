use Rattle.std.proofs.Common.{ℕ, ◌+◌, List, length, ap}
use Rattle.tlv_head.proofs.ReaderLemmas.FieldsOf.{made_again}
use Rattle.tlv_walk.specs.declared.walker.headers.HeaderKind.TheVariants as kind
use Rattle.tlv_walk.proofs.WalkerLemmas.HeaderSteps.{yields_header}
use Rattle.tlv_walk.proofs.walker.Walker.take_whole_header.Goals as goal

pub returns-in-Constructed-clause-yields : goal.returns-in-Constructed-clause-yields
returns-in-Constructed-clause-yields c =
    yields_header _ _ c.fields-fields.result c.args.header _ kind.Constructed c.requires.can
    (made_again _ _ c.fields-fields.ensures)
    (ap (λ (o : List ℕ). c.fields-fields.result.offset + length o) c.raw.ensures.value)
    c.in-Constructed.ensures.takes

pub returns-in-Wrapper-clause-yields : goal.returns-in-Wrapper-clause-yields
returns-in-Wrapper-clause-yields c =
    yields_header _ _ c.fields-fields.result c.args.header _ kind.Wrapper c.requires.can
    (made_again _ _ c.fields-fields.ensures)
    (ap (λ (o : List ℕ). c.fields-fields.result.offset + length o) c.raw.ensures.value)
    c.in-Wrapper.ensures.takes

pub returns-in-Primitive-clause-yields : goal.returns-in-Primitive-clause-yields
returns-in-Primitive-clause-yields c =
    yields_header _ _ c.fields-fields.result c.args.header _ kind.Primitive c.requires.can
    (made_again _ _ c.fields-fields.ensures)
    (ap (λ (o : List ℕ). c.fields-fields.result.offset + length o) c.raw.ensures.value)
    c.in-Primitive.ensures.takes
