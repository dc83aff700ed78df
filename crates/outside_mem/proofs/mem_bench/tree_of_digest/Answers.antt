use Rattle.std.proofs.Common.{◌≡◌, ◌∙◌, ◌∷◌, [], ap, rules, subst, List, ℕ, false, Some}
use Rattle.std.specs.Prelude.{codes}
use Rattle.tree_model.specs.declared.entry.Entry.{Entry}
use Rattle.tree_model.specs.declared.entry.Entry.TheVariants.{File}
use Rattle.tree_model.specs.Path.{IsClean}
use Rattle.tree_model.specs.Tree.{entry_at, put}
use Rattle.outside_mem.proofs.Prints.{tree_of_one}
use Rattle.outside_mem.proofs.mem_bench.tree_of_digest.Goals as goal

pub returns : goal.returns
returns c =
    let clean : IsClean (codes "out") = search rules in
    tree_of_one (codes "out") (File false c.in_ok-bytes.bytes) c.put.new.self clean c.entries.ensures.tree
    (subst (λ (l : List (List ℕ × Entry)). entry_at c.put.new.self ≡ put (entry_at l) (codes "out") (Some (File false c.in_ok-bytes.bytes))) c.empty-tree.ensures c.in_ok-put.ensures.ok)
    ∙ ap (λ (b : List ℕ). (codes "out", File false b) ∷ []) c.in_ok-bytes.ensures
