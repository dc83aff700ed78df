use Rattle.std.proofs.Common.{◌∙◌, ap, sym, codes}
use Rattle.std.specs.Prelude.{Some, option_map}
use Rattle.clap.specs.Matches.{found_of}
use Rattle.clap.proofs.WalkLemmas.{first_value-rows}
use Rattle.command_words.proofs.reading.task_of.Goals as goal

pub returns-in_ok-from_str-in-Some : goal.returns-in_ok-from_str-in-Some
returns-in_ok-from_str-in-Some c =
    ap Some c.in_ok-from_str-in-Some.ensures ∙ (ap (option_map (λ s. s.now)) (sym c.in-Some.is) ∙ (c.get_str.ensures ∙ first_value-rows (found_of c.args.matches.now) (codes "cmd")))

pub returns-in-None : goal.returns-in-None
returns-in-None c = ap (option_map (λ s. s.now)) (sym c.in-None.is) ∙ (c.get_str.ensures ∙ first_value-rows (found_of c.args.matches.now) (codes "cmd"))
