-- Open publications of tasks.
use Rattle.std.specs.Prelude.{◌≡◌, ◌++◌, ◌∷◌, [], false, List}
use Rattle.meta_model.specs.CleanBuild.{Entries}
use Rattle.sig_gen.specs.Sound.{Spells}
use Rattle.store_model.specs.Available.{task_folder}
use Rattle.store_model.specs.Rows.{hash_eq}
use Rattle.store_model.specs.Signatures.{Signed}
use Rattle.store_model.specs.Spelling.{name_of, signature_bytes}
use Rattle.store_model.specs.declared.signature.EquivRow.{EquivRow}
use Rattle.build_store.specs.declared.pieces.OpenPublication.{OpenPublication}
use Rattle.build_store.specs.Drafts.{IsNewFor}
use Rattle.build_store.specs.OpenOnes.{IsFit, Suits}
use Rattle.build_store.specs.Publication.{IsAgreed, object_for, unihash_for}

-- The open publication is that of a task which gave this tree, over these rows.
pub record IsOpenOf (rows : List EquivRow) (s : Signed) (tree : Entries) (o : OpenPublication) : Type 0 where
  pub folder : o.folder ≡ task_folder s.task
  pub name : o.name ≡ name_of s.sig
  pub sig : o.sig ≡ signature_bytes s.sig
  pub gave : o.tree ≡ tree
  pub unihash : o.unihash ≡ unihash_for rows s tree
  pub object : o.object ≡ object_for rows s tree
  pub new : IsNewFor rows s tree o.new
  pub spells : Spells (signature_bytes s.sig) s.sig
  pub agrees : IsAgreed rows s tree
  pub fit : IsFit o
  pub suits : Suits o o.reached

-- It stays so while rows of other tasks and names come behind.
abbrev pub OpenTasksStay : Type 0
OpenTasksStay = (rows : List EquivRow) (row : EquivRow) (s : Signed) (tree : Entries) (o : OpenPublication) → hash_eq row.name (name_of s.sig) ≡ false → (row.pn ≡ s.sig.pn → row.task ≡ s.sig.task → ⊥) → IsOpenOf rows s tree o → IsOpenOf (rows ++ row ∷ []) s tree o
