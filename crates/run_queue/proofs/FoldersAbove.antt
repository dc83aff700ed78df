-- What stands above a task's work folder and an object.
use Rattle.std.proofs.Common.{◌≡◌, ◌∙◌, sym, ap, subst, ℕ, ◌+◌, arith, List, None, inl, inr}
use Rattle.std.specs.Prelude.{codes}
use Rattle.tree_model.specs.Hash.{hash_text}
use Rattle.tree_model.specs.Path.{IsBelow}
use Rattle.tree_model.specs.declared.hash.Hash.{Hash}
use Rattle.outside_traits.specs.Store.{Store}
use Rattle.outside_traits.proofs.Folders.{above_under}
use Rattle.meta_model.specs.declared.plan.PlanTask.{PlanTask}
use Rattle.meta_model.specs.CleanBuild.{Gives}
use Rattle.store_model.specs.Available.{object_folder, task_folder, work_folder}
use Rattle.store_model.specs.Origins.{Book, Line, Reading}
use Rattle.store_model.specs.Valid.{IsValidBook, StandsIn}
use Rattle.store_opening.specs.Named.{IsName}
use Rattle.store_opening.specs.Paths.{HasPlace}
use Rattle.outside_traits.specs.Store.{slashes}
use Rattle.store_opening.proofs.Clean.{folder_slashes, name_is_name, name_slashes}
use Rattle.store_opening.proofs.Slashes.{slashes_inside}
use Rattle.run_queue.specs.Stands.{KeepsFolders}

-- what stands above a path has fewer slashes
fewer : (q path : List ℕ) (below : IsBelow q path) → slashes path ≡ slashes q + 1 + slashes below.0
fewer q path below = ap slashes below.1 ∙ slashes_inside q below.0

-- where nothing stood above a task's work folder, nothing does
pub above_work : (held image : Store) (task : PlanTask) (q : List ℕ) → KeepsFolders held image → HasPlace task → IsBelow q (work_folder task) → held q ≡ None → image q ≡ None
above_work held image task q keeps place below none = elim (above_under (codes "work") (task_folder task) q below) [
  | inl up ↦ let n : 0 ≡ slashes q + 1 + slashes up.0 = fewer q (codes "work") up in absurd (omega (arith, n))
  | inr rest ↦ elim rest [
    | inl same ↦ ap image same ∙ keeps.work (sym (ap held same) ∙ none)
    | inr under ↦
        let n = fewer under.0 (task_folder task) under.2 in
        let flat : slashes under.0 ≡ 0 = omega (arith, n, folder_slashes task place) in
        ap image under.1 ∙ keeps.parts under.0 flat (sym (ap held under.1) ∙ none)
  ]
]

-- above an object stands `obj` alone
pub above_object : (held : Store) (unihash : Hash) (q : List ℕ) → held (codes "obj") ≡ None → IsName unihash → IsBelow q (object_folder unihash) → held q ≡ None
above_object held unihash q none name below = elim (above_under (codes "obj") (hash_text unihash) q below) [
  | inl up ↦ let n : 0 ≡ slashes q + 1 + slashes up.0 = fewer q (codes "obj") up in absurd (omega (arith, n))
  | inr rest ↦ elim rest [
    | inl same ↦ ap held same ∙ none
    | inr under ↦
        let n = fewer under.0 (hash_text unihash) under.2 in
        absurd (omega (arith, n, name_slashes unihash name))
  ]
]

-- the unihashes of a valid book are names
pub unihash_is_name : (gives : Gives) (reading : Reading) (book before : Book) (line : Line) → IsValidBook gives reading book → StandsIn book before line → IsName line.unihash
unihash_is_name gives reading book before line valid stands = elim ((valid before line stands).named) [
  | inl own ↦ subst IsName (sym own) (name_is_name line.sig)
  | inr alike ↦ subst IsName (sym alike.name) (name_is_name alike.first.sig)
]
