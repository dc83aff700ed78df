-- What stands while `upgrade` runs.
use Rattle.std.proofs.Common.{◌∷◌, get_or, ◌∙◌, ◌≡◌, ◌⊎◌, subst, refl, List, inl, inr}
use Rattle.std.proofs.Common.{ap, ℕ, Bool, false, Result, Ok, Err}
use Rattle.std.specs.Prelude.{IsErrAnd}
use Rattle.outside_traits.specs.Fault.{Counts}
use Rattle.outside_traits.specs.declared.fault.DiskFault.{DiskFault}
use Rattle.store_upgrade.specs.declared.fault.UpgradeFault.{UpgradeFault}
use Rattle.store_upgrade.specs.declared.fault.UpgradeFault.TheVariants.{Disk}
use Rattle.store_upgrade.specs.Faults.{is_disk_fault, is_the_disks, upgrade_failed}
use Rattle.std.specs.Prelude.{codes}
use Rattle.outside_traits.specs.declared.call.Call.{Call}
use Rattle.outside_traits.specs.Passes.{Passes, Same}
use Rattle.outside_traits.specs.Store.{Store}
use Rattle.outside_traits.specs.Story.{IsFresh, IsSound, Leaves, Story}
use Rattle.outside_traits.proofs.Calls.{same_then}
use Rattle.outside_traits.proofs.Runs.{passes_so}
use Rattle.store_move.specs.Stores.{IsDone}
use Rattle.store_upgrade.specs.Halfway.{HoldsBoth, IsAlong, Upgrades}
use Rattle.tree_model.specs.Path.{inside}
use Rattle.meta_model.specs.CleanBuild.{Gives}
use Rattle.store_model.specs.Opened.{IsElsewhere}
use Rattle.store_model.specs.Origins.{Book, Reading}
use Rattle.store_move.specs.First.{first_shape, second_keys, second_shape}
use Rattle.store_move.specs.Stores.{IsStore}
use Rattle.store_opening.proofs.Areas.{differ, heads_differ}
use Rattle.store_opening.proofs.Reopened.{cleared_is_valid}
use Rattle.store_move.proofs.Same.{is_one_store}
use Rattle.store_upgrade.specs.Steps.{Within}
use Rattle.store_opening.specs.Opening.{Clears}
use Rattle.store_upgrade.proofs.Called.{IsDurable, passes_from}

pub fresh_durable : (a : Story) → IsFresh a → IsDurable a
fresh_durable a fresh image img = subst (λ (calls : List Call). Leaves a.held calls image) fresh img

pub along_same : (a b : Story) → IsSound a → IsFresh a → Passes a b Same → Passes a b (λ i k. IsAlong a.held k)
along_same a b sound fresh run = passes_from (IsAlong a.held) sound (fresh_durable a fresh) run (λ k e. inl e)

pub along_clears : (a b c : Story) → IsSound a → IsFresh a → IsDone a.held → Passes a b Same → Passes b c (Within (codes "rec")) → Passes a c (λ i k. IsAlong a.held k)
along_clears a b c sound fresh done first second =
    passes_from (IsAlong a.held) sound (fresh_durable a fresh) (same_then (λ i. record { others = λ q never. refl }) first second) (λ k w. inr (inl (done, λ q never. w.others q never)))

pub along_moves : (a b c : Story) → IsSound a → IsFresh a → (IsDone a.held → ⊥) → Passes a b Same → Passes b c (λ i k. Upgrades b.held k) → Passes a c (λ i k. IsAlong a.held k)
along_moves a b c sound fresh old first second =
    passes_from (IsAlong a.held) sound (fresh_durable a fresh) (same_then (λ i. inl refl) first (passes_so Moved second (λ i k u. inr u))) (λ k w. by k w)
  where
    Moved : Store → Store → Type 0
    Moved i k = (k ≡ i) ⊎ Upgrades b.held k

    by : (k : Store) → Moved a.held k → IsAlong a.held k
    by k w = elim w [
      | inl e ↦ inl e
      | inr u ↦ inr (inr (old, subst (λ (h : Store). Upgrades h k) first.held u))
    ]

-- ---- a store that isn't of the present format alone

-- what is under `rec` stands elsewhere
pub rec_elsewhere : (path : List ℕ) → IsElsewhere (114 ∷ 101 ∷ 99 ∷ 47 ∷ path)
rec_elsewhere path = record {
  records = λ at. elim at [
    | inl e ↦ differ 47 50 refl (ap (λ (l : List ℕ). get_or l 3 0) e)
    | inr w ↦ differ 47 50 refl (ap (λ (l : List ℕ). get_or l 3 0) w.1)
  ];
  keys = λ at. elim at [
    | inl e ↦ heads_differ (differ 114 107 refl) e
    | inr w ↦ heads_differ (differ 114 107 refl) w.1
  ];
  stamps = λ at. elim at [
    | inl e ↦ heads_differ (differ 114 115 refl) e
    | inr w ↦ heads_differ (differ 114 115 refl) w.1
  ];
  temporary = λ at. elim at [
    | inl e ↦ heads_differ (differ 114 116 refl) e
    | inr w ↦ heads_differ (differ 114 116 refl) w.1
  ];
  objects = heads_differ (differ 114 111 refl);
}

-- what opening leaves is valid in both formats, with the same books
pub opened_both : (held k : Store) → Clears held held k → (gives : Gives) (reading : Reading) (book start : Book) → HoldsBoth gives reading held book start → HoldsBoth gives reading k book start
opened_both held k clears gives reading book start both = record {
  old = record { records = λ path. clears.left (inside (codes "rec") path) (inl (rec_elsewhere path)) ∙ both.old.records path; lines = both.old.lines };
  old_readable = both.old_readable;
  new = cleared_is_valid held held k clears gives reading start both.new both.new_readable start both.new;
  new_readable = both.new_readable;
  no_clash = both.no_clash;
}

-- a store with a book in each format is one that a run may open
pub both_store : (held : Store) (gives : Gives) (reading : Reading) (book start : Book) → HoldsBoth gives reading held book start → IsStore first_shape second_shape second_keys gives reading held start
both_store held gives reading book start both = let two = (is_one_store gives reading held start).1 both.new in record { valid = two.0; has_keys = two.1; old = λ never. (book, both.old) }

pub opened_upgrades : (held k : Store) → Clears held held k → Upgrades held k
opened_upgrades held k clears = record {
  beside = λ q be. clears.left q (inl be.elsewhere);
  books = λ gives reading book start both. (start, inl refl, both_store k gives reading book start (opened_both held k clears gives reading book start both));
}

pub opened_keeps : (a b : Story) → IsSound a → IsDurable a → Passes a b (Clears a.held) → Passes a b (λ i k. Upgrades a.held k)
opened_keeps a b sound durable run = passes_from (Upgrades a.held) sound durable run (λ k clears. opened_upgrades a.held k clears)

-- ---- what counts

pub counts_on : (a b c : ℕ) (x : Bool) → Counts a b false → Counts b c x → Counts a c x
counts_on a b c x first second = subst (λ (n : ℕ). Counts n c x) first.stayed second

pub failed_of : {T : Type 0} (r : Result T UpgradeFault) (given : DiskFault) → IsErrAnd r (λ e. e ≡ Disk given) → upgrade_failed r ≡ is_disk_fault given
failed_of (Ok x) given never = absurd never
failed_of (Err e) given is = ap is_the_disks is
