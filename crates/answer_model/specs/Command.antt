-- The options that the program knows, as the rules of a simple command of `clap` (own rule: after BitBake's own options,
-- BitBake User Manual, "The BitBake Command").
use Rattle.std.specs.Prelude.{ℕ, pos, true, List, [], ◌∷◌, ◌++◌, Some, codes}
use Rattle.clap.specs.Walk.{Rule, Text}
use Rattle.clap.specs.Simple.{App, new_rule, new_shape}
use Rattle.clap.specs.declared.builder.action.ArgAction.TheVariants.{Append, SetTrue}
use Rattle.clap.specs.declared.builder.value_parser.ValueParser.TheVariants as parser

-- an option without a value, `--NAME`: it is given or it isn't
abbrev pub switch : Text → Rule
switch name = record (new_rule name) { long = Some name; action = Some SetTrue }

-- an option with one value, `--NAME VALUE` or `--NAME=VALUE`
abbrev pub valued : Text → Rule
valued name = record (new_rule name) { long = Some name }

-- the option has this letter besides, `-L`
abbrev pub lettered : ℕ → Rule → Rule
lettered letter option = record option { short = Some letter }

-- the option's value is a number from `least` to `most`, in decimal digits
abbrev pub numbered : ℕ → ℕ → Rule → Rule
numbered least most option = record option { parser = Some (parser.Signed (pos least) (pos most)) }

-- words that belong to no option: any number of them
abbrev pub rest : Text → Rule
rest name = record (new_rule name) { action = Some Append }

-- the options that say how to run
abbrev pub run_options : List Rule
run_options = lettered 99 (valued (codes "cmd"))
    ∷ lettered 102 (switch (codes "force"))
    ∷ lettered 107 (switch (codes "continue"))
    ∷ switch (codes "no-setscene")
    ∷ []

-- the options of the modes
abbrev pub mode_options : List Rule
mode_options = lettered 110 (switch (codes "dry-run"))
    ∷ lettered 101 (switch (codes "environment"))
    ∷ lettered 115 (switch (codes "show-versions"))
    ∷ lettered 112 (switch (codes "parse-only"))
    ∷ numbered 1 1000 (valued (codes "sample"))
    ∷ []

-- all options, and the targets behind or between them
abbrev pub rules : List Rule
rules = run_options ++ mode_options ++ rest (codes "target") ∷ []

-- a command of some rules: it has no subcommand, no help and no version, and its words don't begin with the program's name
abbrev pub command_of : List Rule → App
command_of options = record {
  top = record (new_shape (codes "bitbake")) { rules = options; no_binary_name = true; disable_help_flag = true };
  subs = [];
}

-- the program's command
unfoldable pub command : App
command = command_of rules
