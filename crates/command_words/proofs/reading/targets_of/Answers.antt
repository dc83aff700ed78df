use Rattle.std.proofs.Common.{◌∙◌, ap, sym, codes, map, [], List, ℕ}
use Rattle.std.specs.Prelude.{Option, option_map, unwrap_or}
use Rattle.std.proofs.lemmas.Result.{IfOk-weaker}
use Rattle.clap.specs.Matches.{found_of}
use Rattle.clap.proofs.WalkLemmas.{raw_values-rows}
use Rattle.command_words.proofs.reading.targets_of.Goals as goal

pub returns-in-Some : goal.returns-in-Some
returns-in-Some c =
    let all = ap (option_map (λ s. map (λ v. v.now) s.now)) (sym c.in-Some.is) ∙ (c.get_strs.ensures ∙ raw_values-rows (found_of c.args.matches.now) (codes "target")) in
    IfOk-weaker c.texts_of.result _ _ (λ made is. is ∙ ap (λ (o : Option (List (List ℕ))). unwrap_or o []) all) c.texts_of.ensures

pub returns-in-None : goal.returns-in-None
returns-in-None c =
    let all = ap (option_map (λ s. map (λ v. v.now) s.now)) (sym c.in-None.is) ∙ (c.get_strs.ensures ∙ raw_values-rows (found_of c.args.matches.now) (codes "target")) in
    c.new.ensures ∙ ap (λ (o : Option (List (List ℕ))). unwrap_or o []) all
