use Rattle.std.proofs.Common.{◌≡◌, ◌∙◌, Ok, codes, subst}
use Rattle.std.proofs.lemmas.Result.{IfOk-weaker, IfErr-weaker}
use Rattle.datastore.specs.Faults.{IsDataFault}
use Rattle.load_model.specs.Layers.{words_of}
use Rattle.load_model.specs.Facts.{form}
use Rattle.recipe_facts.proofs.packages.provided_for.Goals as goal

pub returns-clause-ok : goal.returns-clause-ok
returns-clause-ok c =
    let lines = c.args.store.now in
    let own = c.as_str.ensures ∙ c.in_ok-own.ensures in
    IfOk-weaker c.words_of.result (λ made. words_of lines c.as_str.result.now ≡ Ok made) (λ made. words_of lines (form (codes "RPROVIDES") c.args.name.now) ≡ Ok made) (λ made e. subst (λ n. words_of lines n ≡ Ok made) own e) c.words_of.ensures.ok

pub returns-clause-err : goal.returns-clause-err
returns-clause-err c =
    let lines = c.args.store.now in
    let own = c.as_str.ensures ∙ c.in_ok-own.ensures in
    IfErr-weaker c.words_of.result (λ fault. IsDataFault fault (words_of lines c.as_str.result.now)) (λ fault. IsDataFault fault (words_of lines (form (codes "RPROVIDES") c.args.name.now))) (λ fault h. subst (λ n. IsDataFault fault (words_of lines n)) own h) c.words_of.ensures.err
