-- What a store finds.
use Rattle.std.specs.Prelude.{◌≡◌, ℕ, true, List, Option, is_some, Result, Ok}
use Rattle.meta_model.specs.declared.entry.EntryLine.{EntryLine}
use Rattle.meta_model.specs.declared.value.Resolved.{Resolved}
use Rattle.meta_model.specs.Refusal.{Refusal}
use Rattle.meta_model.specs.Overrides.{resolved}
use Rattle.meta_model.specs.Active.{active as active_in}
use Rattle.meta_model.specs.Expansion.{Find, found_by}
use Rattle.var_expand.specs.Faults.{IsFaultOf}
use Rattle.datastore.specs.declared.looked.Overrides.{Overrides}
use Rattle.datastore.specs.declared.looked.Overrides.TheVariants.{Settled, Refused}
use Rattle.datastore.specs.Faults.{refusal_of, refused_by}

-- what each name has under these active overrides
abbrev pub found_under : List EntryLine → List (List ℕ) → Find
found_under list active = found_by (λ name. Ok (resolved list active name))

-- these are the active overrides that were meant, or the refusal that was
abbrev pub IsMeant : Overrides → Result (List (List ℕ)) Refusal → Type 0
IsMeant (Settled active) meant = meant ≡ Ok active
IsMeant (Refused fault) meant = (is_some (refusal_of fault) ≡ true) × IsFaultOf fault meant

-- these are the active overrides of the entries, or the refusal of them
pub record AreOf (list : List EntryLine) (overrides : Overrides) : Type 0 where
  pub meant : IsMeant overrides (active_in list)

-- what a name has, where the active overrides are worked out
abbrev pub at_over : List EntryLine → Overrides → List ℕ → Result (Option Resolved) Refusal
at_over list (Settled active) name = Ok (resolved list active name)
at_over list (Refused fault) name = refused_by fault

abbrev pub found_over : List EntryLine → Overrides → Find
found_over list overrides = found_by (at_over list overrides)
