use Rattle.std.proofs.Common.{◌≡◌, ◌∙◌, Ok, codes, subst}
use Rattle.std.proofs.lemmas.Result.{IfOk-weaker, IfErr-weaker}
use Rattle.datastore.specs.Faults.{IsDataFault}
use Rattle.load_model.specs.Facts.{form, needed_words}
use Rattle.recipe_facts.proofs.packages.needed_for.Goals as goal

pub returns-clause-ok : goal.returns-clause-ok
returns-clause-ok c =
    let lines = c.args.store.now in
    let own = c.as_str.ensures ∙ c.in_ok-own.ensures in
    IfOk-weaker c.needed_words.result (λ made. needed_words lines c.as_str.result.now ≡ Ok made) (λ made. needed_words lines (form (codes "RDEPENDS") c.args.name.now) ≡ Ok made) (λ made e. subst (λ n. needed_words lines n ≡ Ok made) own e) c.needed_words.ensures.ok

pub returns-clause-err : goal.returns-clause-err
returns-clause-err c =
    let lines = c.args.store.now in
    let own = c.as_str.ensures ∙ c.in_ok-own.ensures in
    IfErr-weaker c.needed_words.result (λ fault. IsDataFault fault (needed_words lines c.as_str.result.now)) (λ fault. IsDataFault fault (needed_words lines (form (codes "RDEPENDS") c.args.name.now))) (λ fault h. subst (λ n. IsDataFault fault (needed_words lines n)) own h) c.needed_words.ensures.err
