use Rattle.meta_model.specs.Expansion.{expanded, expand_by}
use Rattle.var_expand.specs.Expanding.{known, last_name}
use Rattle.var_expand.proofs.Expanding.{start_text, same_ok, same_err}
use Rattle.var_expand.proofs.Growing.{started}
use Rattle.var_expand.proofs.expansion.expand.Goals as goal

pub returns-clause-ok : goal.returns-clause-ok
returns-clause-ok g c =
    let finds = g.L.Lookup.finds c.args.from.now in
    let names = c.new-going.result.within.items in
    same_ok c.expand_text.result (expanded (known finds 64 names) (last_name names) c.args.text.now) (expand_by finds c.args.text.now) (start_text finds names c.args.text.now c.new-going.ensures.within) c.expand_text.ensures.ok

pub returns-clause-err : goal.returns-clause-err
returns-clause-err g c =
    let finds = g.L.Lookup.finds c.args.from.now in
    let names = c.new-going.result.within.items in
    same_err c.expand_text.result (expanded (known finds 64 names) (last_name names) c.args.text.now) (expand_by finds c.args.text.now) (start_text finds names c.args.text.now c.new-going.ensures.within) c.expand_text.ensures.err

pub expand_text-requires : goal.expand_text-requires
expand_text-requires g c = record { going = started (g.L.Lookup.finds c.args.from.now) 64 c.new-going.result c.new-going.ensures.within c.new-going.ensures.values c.new-going.ensures.height }
