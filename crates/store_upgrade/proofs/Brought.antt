-- What plans had they have behind the move.
use Rattle.std.proofs.Common.{◌≡◌, ◌≢◌, ◌∙◌, sym, ap, refl, ℕ, Bool, true, false, List, [], ◌∷◌, ◌++◌, None, Some, get_or}
use Rattle.std.specs.Prelude.{bytes_eq, find, if◌then◌else◌, ◌==◌}
use Rattle.std.proofs.lemmas.Option.{none-some}
use Rattle.tree_model.specs.declared.entry.Entry.{Entry}
use Rattle.tree_model.specs.declared.entry.Entry.TheVariants.{File}
use Rattle.tree_model.specs.declared.manifest.ManifestLine.{ManifestLine}
use Rattle.tree_model.specs.Hash.{hash_text}
use Rattle.tree_model.specs.Path.{IsBelow}
use Rattle.outside_traits.specs.Store.{Store}
use Rattle.meta_model.specs.declared.plan.PlanTask.{PlanTask}
use Rattle.meta_model.proofs.Bools.{same_text, text_itself}
use Rattle.store_model.specs.Available.{Matches, stamp_path, task_folder, work_folder}
use Rattle.store_model.specs.Signatures.{Signed}
use Rattle.store_model.specs.Spelling.{name_of}
use Rattle.store_move.specs.First.{first, first_name}
use Rattle.store_move.specs.Formats.{IsInWork, rows_of}
use Rattle.store_move.specs.Moves.{IsMoved, Move, Pair, is_named, present}
use Rattle.store_move.proofs.Naming.{available_is_moved, objects_are_moved}
use Rattle.store_opening.proofs.Areas.{differ, heads_differ}
use Rattle.store_opening.proofs.StillThere.{matches_there}
use Rattle.store_upgrade.specs.Halfway.{whole_move}
use Rattle.store_upgrade.specs.Upgraded.{HasStampPlace, IsBrought, UpgradedIsAvailable}

-- of what is held the work folders, and one more path
pub only : List ℕ → Store → Store
only p held = λ q. if bytes_eq p q then held q else (if get_or q 0 0 == 119 then held q else None)

pub only_work : (p : List ℕ) (held : Store) (rest : List ℕ) → only p held (119 ∷ rest) ≡ held (119 ∷ rest)
unfolding only
only_work p held rest = by (bytes_eq p (119 ∷ rest))
  where
    by : (b : Bool) → (if b then held (119 ∷ rest) else held (119 ∷ rest)) ≡ held (119 ∷ rest)
    by true = refl
    by false = refl

only_at : (p : List ℕ) (held : Store) → only p held p ≡ held p
unfolding only
only_at p held = rw (text_itself p) refl

-- a stamp that is held there is at the path
only_stamp : (p rest : List ℕ) (held : Store) (e : Entry) → only p held (115 ∷ rest) ≡ Some e → p ≡ 115 ∷ rest
unfolding only
only_stamp p rest held e is = by (bytes_eq p (115 ∷ rest)) refl
  where
    by : (b : Bool) → bytes_eq p (115 ∷ rest) ≡ b → p ≡ 115 ∷ rest
    by true t = same_text p (115 ∷ rest) t
    by false f = absurd (none-some e (rw f at is))

-- no object is there
only_object : (p rest : List ℕ) (held : Store) → p ≢ 111 ∷ rest → only p held (111 ∷ rest) ≡ None
unfolding only
only_object p rest held ne = by (bytes_eq p (111 ∷ rest)) refl
  where
    by : (b : Bool) → bytes_eq p (111 ∷ rest) ≡ b → (if bytes_eq p (111 ∷ rest) then held (111 ∷ rest) else None) ≡ None
    by true t = absurd (ne (same_text p (111 ∷ rest) t))
    by false f = rw f refl

module _ (move : Move) (held now : Store) (task : PlanTask) (place : HasStampPlace task) (way : (q : List ℕ) → IsBelow q (work_folder task) → held q ≡ None) (brought : IsBrought move held now) where
  abbrev P : List ℕ
  P = stamp_path task

  no_object : (rest : List ℕ) (h : Store) → only P h (111 ∷ rest) ≡ None
  no_object rest h = only_object P rest h (heads_differ (differ 115 111 refl))

  work_moved : (t : PlanTask) (lines : List ManifestLine) → Matches (only P held) (work_folder t) lines → Matches (only P now) (work_folder t) lines
  work_moved t lines m =
      matches_there now (only P now) 119 (111 ∷ 114 ∷ 107 ∷ 47 ∷ task_folder t) lines (differ 119 47 refl) (only_work P now)
      (brought.work t lines (matches_there (only P held) held 119 (111 ∷ 114 ∷ 107 ∷ 47 ∷ task_folder t) lines (differ 119 47 refl) (λ rest. sym (only_work P held rest)) m))

  stamp_moved : (pair : Pair) → find (is_named first (first_name pair.old.sig)) move.pairs ≡ Some pair → (t : PlanTask) → only P held (stamp_path t) ≡ Some (File false (hash_text (first_name pair.old.sig) ++ 10 ∷ [])) → only P now (stamp_path t) ≡ Some (File false (hash_text (name_of pair.new.sig) ++ 10 ∷ []))
  stamp_moved pair found t is =
      let same : P ≡ stamp_path t = only_stamp P (116 ∷ 97 ∷ 109 ∷ 112 ∷ 47 ∷ task_folder t) held (File false (hash_text (first_name pair.old.sig) ++ 10 ∷ [])) is in
      let here : held P ≡ Some (File false (hash_text (first_name pair.old.sig) ++ 10 ∷ [])) = sym (only_at P held) ∙ ap (only P held) same ∙ is in
      ap (only P now) (sym same) ∙ only_at P now ∙ brought.stamps pair found task place way here

  object_moved : (a b : List ℕ) (lines : List ManifestLine) → Matches (only P held) (111 ∷ 98 ∷ 106 ∷ 47 ∷ a) lines → Matches (only P now) (111 ∷ 98 ∷ 106 ∷ 47 ∷ b) lines
  object_moved a b lines m = record {
    tree = m.tree;
    is_tree = m.is_tree;
    holds = record {
      entries = λ path. no_object (98 ∷ 106 ∷ 47 ∷ (b ++ 47 ∷ path)) now ∙ sym (no_object (98 ∷ 106 ∷ 47 ∷ (a ++ 47 ∷ path)) held) ∙ m.holds.entries path;
      outside = record { at = no_object (98 ∷ 106 ∷ 47 ∷ b) now; above = λ q up. above q up };
    };
    manifest = m.manifest;
  }
    where
      above : (q : List ℕ) → IsBelow q (111 ∷ 98 ∷ 106 ∷ 47 ∷ b) → only P now q ≡ None
      above [] up = absurd (heads_differ (differ 111 47 refl) up.1)
      above (x ∷ q) up = let head : x ≡ 111 = sym (ap (λ (l : List ℕ). get_or l 0 0) up.1) in ap (λ (y : ℕ). only P now (y ∷ q)) head ∙ no_object q now

  pub moved_only : IsMoved first present move (only P held) (only P now)
  moved_only = record { work = work_moved; stamps = stamp_moved; objects = λ pair found m. object_moved (hash_text pair.old.unihash) (hash_text pair.new.unihash) pair.old.manifest m }

pub upgraded_available : UpgradedIsAvailable
upgraded_available gives reading held now olds again may brought tasks keep clear n s later at too kept setscene = (
  λ place w. work_back s later place
      ((available_is_moved first present gives reading olds again may (only (stamp_path s.task) held) (only (stamp_path s.task) now) (moved_only (whole_move olds again) held now s.task place w.folder.holds.outside.above brought) tasks keep clear n s later at too kept setscene).0 (work_on place w)),
  λ apart o. objects_are_moved first present gives reading olds again may held now (λ pair found m. brought.objects apart pair found m) tasks keep clear n s later at too kept setscene o,
)
  where
    work_on : HasStampPlace s.task → IsInWork first held (rows_of first olds) s → IsInWork first (only (stamp_path s.task) held) (rows_of first olds) s
    work_on place w = record {
      kept = w.kept;
      row = w.row;
      stored = w.stored;
      stamp = only_at (stamp_path s.task) held ∙ w.stamp;
      folder = matches_there held (only (stamp_path s.task) held) 119 (111 ∷ 114 ∷ 107 ∷ 47 ∷ task_folder s.task) w.row.manifest (differ 119 47 refl) (only_work (stamp_path s.task) held) w.folder;
    }

    work_back : (s later : Signed) → HasStampPlace s.task → IsInWork present (only (stamp_path s.task) now) (rows_of present (whole_move olds again).book) later → IsInWork present now (rows_of present (whole_move olds again).book) later
    work_back s later place w = record {
      kept = w.kept;
      row = w.row;
      stored = w.stored;
      stamp = let same : stamp_path s.task ≡ 115 ∷ 116 ∷ 97 ∷ 109 ∷ 112 ∷ 47 ∷ task_folder later.task = only_stamp (stamp_path s.task) (116 ∷ 97 ∷ 109 ∷ 112 ∷ 47 ∷ task_folder later.task) now (File false (hash_text (name_of later.sig) ++ 10 ∷ [])) w.stamp in ap now (sym same) ∙ sym (only_at (stamp_path s.task) now) ∙ ap (only (stamp_path s.task) now) same ∙ w.stamp;
      folder = matches_there (only (stamp_path s.task) now) now 119 (111 ∷ 114 ∷ 107 ∷ 47 ∷ task_folder later.task) w.row.manifest (differ 119 47 refl) (λ rest. sym (only_work (stamp_path s.task) now rest)) w.folder;
    }
