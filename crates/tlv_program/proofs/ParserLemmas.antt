-- What a chain of builders makes, by one step.
use Rattle.std.proofs.Common.{◌≡◌, ◌∙◌, ◌||◌, Bool, false, ap, ap₂}
use Rattle.clap.specs.Words.{App, Rule, with_rule, with_subcommand, AddsArg, AddsSubcommand}
use Rattle.tlv_program.specs.Parsers.{IsArgumentOf, IsParserOf}
use Rattle.clap.specs.declared.builder.arg.Arg.{Arg}
use Rattle.clap.specs.declared.builder.command.Command.{Command}

or-false : (a b : Bool) → a ≡ false → b ≡ false → (a || b) ≡ false
or-false a b p q = ap₂ ◌||◌ p q

-- one more argument
pub one_more : {old new : Command} {a : Arg} {x : App} {r : Rule} → IsParserOf x old → AddsArg old a new
    → IsArgumentOf r a → IsParserOf (with_rule x r) new
one_more s h t = record {
  same_app = h.shape t.local ∙ ap₂ with_rule s.same_app t.same_rule;
  local = h.globals ∙ or-false _ _ s.local t.local;
}

-- one more subcommand
pub one_below : {old sub new : Command} {x y : App} → IsParserOf x old → AddsSubcommand old sub new → IsParserOf y sub
    → IsParserOf (with_subcommand x y.top) new
one_below s h t = record {
  same_app = h.shape t.local ∙ ap₂ with_subcommand s.same_app (ap (λ (a : App). a.top) t.same_app);
  local = h.globals ∙ or-false _ _ s.local t.local;
}
