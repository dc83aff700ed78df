use Rattle.std.proofs.Common.{◌≡◌, ◌∙◌, sym, ap, subst, Some, List, slice_get}
use Rattle.std.proofs.lemmas.Option.{same_Some}
use Rattle.tree_model.specs.declared.hash.Hash.{Hash}
use Rattle.store_model.specs.Rows.{uni}
use Rattle.setscene_plan.proofs.work.Names.is_kept.Goals as goal

pub returns-then-are_same-clause-hashed : goal.returns-then-are_same-clause-hashed
returns-then-are_same-clause-hashed g c = λ is name at.
    let names : slice_get c.args.self.now.names.items c.args.task ≡ Some c.hash_at-name.result = subst (λ (ns : List Hash). slice_get ns c.args.task ≡ Some c.hash_at-name.result) c.as_slice.ensures.value c.hash_at-name.ensures in
    let kept : slice_get c.args.self.now.unihashes.items c.args.task ≡ Some c.hash_at-kept.result = subst (λ (ns : List Hash). slice_get ns c.args.task ≡ Some c.hash_at-kept.result) c.as_slice-2.ensures.value c.hash_at-kept.ensures in
    let same : c.hash_at-name.result ≡ name = same_Some c.hash_at-name.result name (sym names ∙ at) in
    kept ∙ ap Some (c.if-are_same.ensures ∙ c.unihash_of-unihash.ensures ∙ ap (uni (g.P.Probe.view c.args.probe.now).rows) same)
