-- What is kept by the names of records.
use Rattle.std.specs.Prelude.{◌≡◌, ℕ, List, map, Option, Some, None, bytes_eq, if◌then◌else◌}
use Rattle.std.specs.Map.{lookup}
use Rattle.std.specs.Option.{option_or}
use Rattle.tree_model.specs.declared.hash.Hash.{Hash}
use Rattle.store_model.specs.declared.signature.DepLine.{DepLine}
use Rattle.store_model.specs.declared.signature.SigRecord.{SigRecord}
use Rattle.store_model.specs.Rows.{hash_eq, hash_or}

-- the value of a name
abbrev pub value_at : {V : Type 0} → List (List ℕ × V) → Hash → Option V
value_at entries name = lookup (bytes_eq name.bytes) entries

-- a value is put under a name, where it has none
abbrev pub PutsFirst : {V : Type 0} → List (List ℕ × V) → List (List ℕ × V) → Hash → V → Type 0
PutsFirst {V} old new name value = (q : Hash) → value_at new q ≡ option_or (value_at old q) (if hash_eq name q then Some value else None)

-- the names that stand for those of the needed tasks, where there are some
abbrev pub dep_by : List (List ℕ × Hash) → DepLine → DepLine
dep_by names dep = record { pn = dep.pn; task = dep.task; name = hash_or dep.name (value_at names dep.name) }

abbrev pub sig_by : List (List ℕ × Hash) → SigRecord → SigRecord
sig_by names sig = record { pn = sig.pn; task = sig.task; key = sig.key; files = sig.files; deps = map (dep_by names) sig.deps }
