use Rattle.std.proofs.Common.{◌≡◌, ◌++◌, List, rules, subst, ℕ}
use Rattle.tree_model.specs.Hash.{IsHash, hash_text}
use Rattle.tree_model.specs.Path.{IsAtOrBelow}
use Rattle.store_clean.proofs.Swept.{needed_by}
use Rattle.store_clean.proofs.sweeping.is_needed.Goals as goal

pub returns-in-Some-digest_of : goal.returns-in-Some-digest_of
returns-in-Some-digest_of c =
    let whole : c.args.path.now ≡ c.args.prefix.now ++ c.in-Some.rest.now = search rules in
    let name = c.in-Some-digest_of.name in
    needed_by c.args.prefix.now c.args.table.now.entries c.args.path.now c.in-Some.rest.now name c.place_of.result c.is_some.result whole
    (subst (λ (rest : List ℕ). IsHash name × IsAtOrBelow (hash_text name) rest) c.as_bytes.ensures.value c.in-Some-digest_of.ensures.some) c.place_of.ensures c.is_some.ensures
