use Rattle.std.proofs.Common.{[]}
use Rattle.meta_model.specs.Expansion.{expanded_parts, values_by, longest}
use Rattle.var_expand.specs.Expanding.{known, last_name}
use Rattle.var_expand.specs.Pieces.{parts_in}
use Rattle.var_expand.proofs.Expanding.{start_parts, same_ok, same_err}
use Rattle.var_expand.proofs.Growing.{started}
use Rattle.var_expand.proofs.expansion.expand_name.Goals as goal

pub returns-clause-ok : goal.returns-clause-ok
returns-clause-ok g c =
    let finds = g.L.Lookup.finds c.args.from.now in
    let names = c.new-going.result.within.items in
    same_ok c.expand_parts.result (expanded_parts (known finds 64 names) (last_name names) (parts_in c.args.name.now) longest) (expanded_parts (values_by finds) [] (parts_in c.args.name.now) longest)
    (start_parts finds names (parts_in c.args.name.now) c.new-going.ensures.within) c.expand_parts.ensures.ok

pub returns-clause-err : goal.returns-clause-err
returns-clause-err g c =
    let finds = g.L.Lookup.finds c.args.from.now in
    let names = c.new-going.result.within.items in
    same_err c.expand_parts.result (expanded_parts (known finds 64 names) (last_name names) (parts_in c.args.name.now) longest) (expanded_parts (values_by finds) [] (parts_in c.args.name.now) longest)
    (start_parts finds names (parts_in c.args.name.now) c.new-going.ensures.within) c.expand_parts.ensures.err

pub expand_parts-requires : goal.expand_parts-requires
expand_parts-requires g c = record { going = started (g.L.Lookup.finds c.args.from.now) 64 c.new-going.result c.new-going.ensures.within c.new-going.ensures.values c.new-going.ensures.height }
