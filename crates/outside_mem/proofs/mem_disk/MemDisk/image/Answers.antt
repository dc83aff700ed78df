use Rattle.std.proofs.Common.{rules, ◌∙◌, ap, reverse, subst, List, ℕ}
use Rattle.tree_model.specs.Tree.{entry_at}
use Rattle.outside_traits.specs.declared.call.Call.{Call}
use Rattle.outside_traits.specs.Story.{unsynced}
use Rattle.outside_mem.specs.Kept.{IsDamaged, IsPicked, touched}
use Rattle.outside_mem.proofs.Damages.{damaged_same, fresh_sound, image_content, image_of, picked_same}
use Rattle.outside_mem.proofs.mem_disk.MemDisk.image.Goals as goal

pub invariant_of-result : goal.invariant_of-result
invariant_of-result c =
    let damaged = subst (λ (paths : List (List ℕ)). IsDamaged paths (entry_at c.in_ok-tree.tree) (entry_at c.damage.new.tree)) c.as_slice-2.ensures.value c.in_ok-damage.ensures.damaged in record {
      sound = fresh_sound c.damage.new.tree c.new.result.items (search rules)
          (image_content c.args.self.now.tree c.in_ok-tree.tree c.damage.new.tree c.args.self.now.calls.items c.in_ok-touched.touched.items c.args.self.now.sound c.in_ok-tree.ensures damaged);
    }

pub returns-clause-image : goal.returns-clause-image
returns-clause-image c =
    let damaged = subst (λ (paths : List (List ℕ)). IsDamaged paths (entry_at c.in_ok-tree.tree) (entry_at c.damage.new.tree)) c.as_slice-2.ensures.value c.in_ok-damage.ensures.damaged in
    let paths_are = c.in_ok-touched.ensures ∙ ap (λ (calls : List Call). touched (unsynced (reverse calls)) (reverse calls)) c.as_slice.ensures.value in
    image_of c.args.self.now.tree c.damage.new.tree c.args.self.now.calls.items c.args.self.now.sound (damaged_same paths_are (ap entry_at c.in_ok-tree.ensures) damaged)

pub returns-clause-damaged : goal.returns-clause-damaged
returns-clause-damaged c =
    let damaged = subst (λ (paths : List (List ℕ)). IsDamaged paths (entry_at c.in_ok-tree.tree) (entry_at c.damage.new.tree)) c.as_slice-2.ensures.value c.in_ok-damage.ensures.damaged in
    let paths_are = c.in_ok-touched.ensures ∙ ap (λ (calls : List Call). touched (unsynced (reverse calls)) (reverse calls)) c.as_slice.ensures.value in
    damaged_same paths_are (ap entry_at c.in_ok-tree.ensures) damaged

pub returns-clause-picked : goal.returns-clause-picked
returns-clause-picked c =
    let picked = subst (λ (paths : List (List ℕ)). IsPicked c.args.pick paths (entry_at c.in_ok-tree.tree) (entry_at c.damage.new.tree)) c.as_slice-2.ensures.value c.in_ok-damage.ensures.picked in
    let paths_are = c.in_ok-touched.ensures ∙ ap (λ (calls : List Call). touched (unsynced (reverse calls)) (reverse calls)) c.as_slice.ensures.value in
    picked_same paths_are (ap entry_at c.in_ok-tree.ensures) picked
