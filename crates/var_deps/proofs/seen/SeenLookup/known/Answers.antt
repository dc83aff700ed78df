use Rattle.std.proofs.Common.{◌≡◌, refl, ℕ, List, Option, Some, None}
use Rattle.meta_model.specs.declared.entry.EntryLine.{EntryLine}
use Rattle.var_deps.specs.Seen.{seen_with}
use Rattle.var_deps.proofs.seen.SeenLookup.known.Goals as goal

-- of entries nothing is told
untold_seen : (store : List EntryLine) (task : Option (List ℕ)) (name : List ℕ) (wanted : List (List ℕ)) → (seen_with store task).known name wanted ≡ None
untold_seen store None name wanted = refl
untold_seen store (Some task) name wanted = refl

pub returns : goal.returns
returns c = untold_seen c.args.self.now.store.now c.args.self.now.task c.args._name.now c.args._wanted.now
