-- What building a command leaves of each of its options.
use Rattle.std.proofs.Common.{true, ◌≡◌, ◌∙◌, ◌++◌, ap, ap₂, false, List, [], ◌∷◌}
use Rattle.clap.specs.Built.{AddsArg}
use Rattle.clap.specs.Simple.{App, app_of, app_of_fields, with_rule}
use Rattle.clap.specs.Walk.{Rule, rule_of}
use Rattle.clap.specs.declared.builder.arg.Arg.{Arg}
use Rattle.clap.specs.declared.builder.command.Command.{Command}
use Rattle.clap.specs.declared.builder.command.Command.TheViews.{out-Command}
use Rattle.answer_model.specs.Command.{command_of}

-- one more option stands behind those before
pub rule_added : (old new : Command) (a : Arg) (options : List Rule) (option : Rule) → app_of old ≡ command_of options → rule_of a ≡ option
    → a.global ≡ false → AddsArg old a new → app_of new ≡ command_of (options ++ option ∷ [])
rule_added old new a options option before is local added = added.shape local ∙ ap₂ with_rule before is

-- a command whose words don't begin with the program's name
pub without_name : (a b : Command) (app : App) → app_of a ≡ app → out-Command b ≡ record (out-Command a) { no_binary_name = true }
    → app_of b ≡ record app { top = record app.top { no_binary_name = true } }
without_name a b app is same = ap app_of_fields same ∙ ap (λ (x : App). record x { top = record x.top { no_binary_name = true } }) is

-- a command without a help flag
pub without_help : (a b : Command) (app : App) → app_of a ≡ app → out-Command b ≡ record (out-Command a) { disable_help_flag = true }
    → app_of b ≡ record app { top = record app.top { disable_help_flag = true } }
without_help a b app is same = ap app_of_fields same ∙ ap (λ (x : App). record x { top = record x.top { disable_help_flag = true } }) is
