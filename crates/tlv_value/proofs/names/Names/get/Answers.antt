use Rattle.std.proofs.Common.{Some, ◌∙◌, ap}
use Rattle.std.specs.FinMap as finite
use Rattle.tlv_value.specs.Names.{NamesValue}
use Rattle.tlv_value.specs.NamesFields.{names_in}
use Rattle.tlv_value.proofs.NamesLemmas.Tables.{get-none, get-no_text, get-some}
use Rattle.tlv_value.proofs.names.Names.get.Goals as goal

pub returns-in_default : goal.returns-in_default
returns-in_default g c =
    get-none c.self.inside.table c.args.dotted.now c.in_default.is
    ∙ ap (λ (m : NamesValue). finite.get m c.args.dotted.now) c.self.view_is

pub returns-in_default-from_utf8 : goal.returns-in_default-from_utf8
returns-in_default-from_utf8 g c =
    get-no_text c.self.inside.table c.in-Some.table c.args.dotted.now c.in-Some.is
    c.in_default-from_utf8.ensures.cases.0
    ∙ ap (λ (m : NamesValue). finite.get m c.args.dotted.now) c.self.view_is

pub returns-in-None : goal.returns-in-None
returns-in-None g c =
    get-some c.self.inside.table c.in-Some.table c.in-Ok.text.now _ c.in-Some.is c.in-None.ensures.value
    ∙ ap (finite.get (names_in c.self.inside.table)) c.in-Ok.ensures.cases.0
    ∙ ap (λ (m : NamesValue). finite.get m c.args.dotted.now) c.self.view_is

pub returns-in-Some-get : goal.returns-in-Some-get
returns-in-Some-get g c =
    ap Some c.as_slice.ensures.value
    ∙ get-some c.self.inside.table c.in-Some.table c.in-Ok.text.now _ c.in-Some.is c.in-Some-get.ensures.value
    ∙ ap (finite.get (names_in c.self.inside.table)) c.in-Ok.ensures.cases.0
    ∙ ap (λ (m : NamesValue). finite.get m c.args.dotted.now) c.self.view_is
