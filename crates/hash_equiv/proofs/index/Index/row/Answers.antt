use Rattle.std.proofs.Common.{◌∙◌, ap}
use Rattle.std.specs.Cmp.Lexicographic.{nat_list_eq_equiv}
use Rattle.store_model.specs.Rows.{row_at}
use Rattle.hash_equiv.proofs.Rowing.{found_by_name}
use Rattle.hash_equiv.proofs.index.Index.row.Goals as goal

pub returns : goal.returns
returns c =
    let name = c.args.name.now in
    c.get.ensures.value
    ∙ found_by_name _ name.bytes (nat_list_eq_equiv.symm name.bytes) c.self.inside.rows.entries c.self.invariant.named
    ∙ ap (λ rows. row_at rows name) c.self.view_is
