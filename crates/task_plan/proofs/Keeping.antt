-- What is kept of recipes, one after another.
use Rattle.std.proofs.Common.{◌≡◌, ◌∙◌, sym, ℕ, List, [], Option, Some, nat_eq, slice_index_or}
use Rattle.std.specs.Map.{update}
use Rattle.std.proofs.Math.Logic.{⊎_elim}
use Rattle.std.proofs.lemmas.Bool.{cases_eq}
use Rattle.std.proofs.lemmas.Map.{update_here, update_apart}
use Rattle.meta_model.specs.declared.entry.EntryLine.{EntryLine}
use Rattle.task_plan.specs.Meant.{AreKept}

-- one more recipe's entries are kept
pub one_more_kept : (stores : List (List EntryLine)) (old new : ℕ → Option (List EntryLine)) (k : ℕ) (keys : List EntryLine) → ((q : ℕ) → new q ≡ update nat_eq old k (Some keys) q) → AreKept stores old → keys ≡ slice_index_or stores k [] → AreKept stores new
one_more_kept stores old new k keys made kept is n found e =
    ⊎_elim
    (λ same. let now = made n in let here = update_here old k (Some keys) in (cc))
    (λ apart. kept n found (sym (update_apart old k (Some keys) n apart) ∙ sym (made n) ∙ e))
    (cases_eq n k)
