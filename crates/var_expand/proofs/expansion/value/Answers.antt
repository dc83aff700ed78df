use Rattle.meta_model.specs.Expansion.{value_by}
use Rattle.var_expand.specs.Expanding.{known}
use Rattle.var_expand.proofs.Expanding.{start_value, same_ok, same_err}
use Rattle.var_expand.proofs.Growing.{started}
use Rattle.var_expand.proofs.expansion.value.Goals as goal

pub returns-clause-ok : goal.returns-clause-ok
returns-clause-ok g c =
    let finds = g.L.Lookup.finds c.args.from.now in
    let names = c.new-going.result.within.items in
    same_ok c.value_within.result ((known finds 64 names).at c.args.name.now) (value_by finds c.args.name.now) (start_value finds names c.args.name.now c.new-going.ensures.within) c.value_within.ensures.ok

pub returns-clause-err : goal.returns-clause-err
returns-clause-err g c =
    let finds = g.L.Lookup.finds c.args.from.now in
    let names = c.new-going.result.within.items in
    same_err c.value_within.result ((known finds 64 names).at c.args.name.now) (value_by finds c.args.name.now) (start_value finds names c.args.name.now c.new-going.ensures.within) c.value_within.ensures.err

pub value_within-requires : goal.value_within-requires
value_within-requires g c = record { going = started (g.L.Lookup.finds c.args.from.now) 64 c.new-going.result c.new-going.ensures.within c.new-going.ensures.values c.new-going.ensures.height }
