-- What a later run needs of a library and an application, and what it has of them.
use Rattle.std.proofs.Common.{Bool, true, None, Option, ◌++◌, if◌then◌else◌, ◌≡◌, ◌∙◌, sym, ap, refl, subst, ℕ, zero, suc, arith, false, List, [], ◌∷◌, Some, ◌⊎◌, inl, inr, ◌<◌}
use Rattle.std.specs.Prelude.{Contains, codes}
use Rattle.std.specs.List.{AllByRecursion, slice_get}
use Rattle.std.specs.Fmt.{digits}
use Rattle.std.specs.Option.{option_map}
use Rattle.std.specs.Str.{bytes_eq}
use Rattle.hex.specs.Hex.{encode_with}
use Rattle.sha2.specs.Sha256.{compress, digest_bytes, first_words, hash_after, rounds, schedule, sha256}
use Rattle.tree_model.specs.declared.entry.Entry.{Entry}
use Rattle.tree_model.specs.declared.entry.Entry.TheVariants.{File}
use Rattle.tree_model.specs.Hash.{hash_text}
use Rattle.tree_model.specs.Path.{IsBelow, IsClean, IsPart, inside, parts_of}
use Rattle.tree_model.specs.Tree.{IsTree, entry_at}
use Rattle.meta_model.specs.declared.event.Avail.TheVariants as avail
use Rattle.meta_model.specs.declared.plan.PlanTask.{PlanTask}
use Rattle.store_model.specs.declared.signature.EquivRow.{EquivRow}
use Rattle.store_model.specs.Rows.{row_at}
use Rattle.store_model.specs.Origins.{row_of, rows_of}
use Rattle.store_model.specs.Recording.{recorded}
use Rattle.store_model.specs.Spelling.{key_bytes, key_name, name_of, short_bytes, signature_bytes}
use Rattle.store_model.specs.Available.{IsInObject, IsInWork, IsNeeded, Matches, object_folder, stamp_path}
use Rattle.store_model.specs.Available as need
use Rattle.store_model.specs.LibraryAndApplication.{WhatIsNeeded, WhatIsRestored, app_compile, app_install, app_published, book, by_objects, greet_compile, greet_install, greeting, not_at_all, nothing, object, object_store, plan, published, publishing, task_of, tasks}
use Rattle.store_model.proofs.Worked.{all_of, end_not_slash, is_part, not_above, not_same}
use Rattle.store_model.proofs.Hello.{only}
use Rattle.store_model.proofs.Needing.{need_is_least}

-- a task of a list of which none runs in each run
none_always : (list : List PlanTask) → AllByRecursion (λ t. t.nostamp ≡ false) list → (n : ℕ) (task : PlanTask) → slice_get list n ≡ Some task → task.nostamp ≡ false
none_always [] all n task e = absurd (cc)
none_always (x ∷ xs) all zero task e = let is : x ≡ task = cc in sym (ap (λ t. t.nostamp) is) ∙ all.0
none_always (x ∷ xs) all (suc n) task e = none_always xs all.1 n task e

-- what `do_build` of the application needs
below_build : (m : ℕ) (task : PlanTask) → slice_get tasks 8 ≡ Some task → Contains task.deps m → m ≡ 7
below_build m task at among =
    let is : task_of (codes "app") (codes "do_build") nothing (7 ∷ []) 7 ≡ task = cc in
    sym (only 7 m (subst (λ t. Contains t.deps m) (sym is) among))

-- nothing is needed below what an object has
below_one : (n m : ℕ) (task : PlanTask) → (n ≡ 8) ⊎ (n ≡ 7) → slice_get tasks n ≡ Some task → by_objects n ≡ avail.Missing → Contains task.deps m → (m ≡ 8) ⊎ (m ≡ 7)
below_one n m task (inl e) at missing among = inr (below_build m task (subst (λ k. slice_get tasks k ≡ Some task) e at) among)
below_one n m task (inr e) at missing among = let has : by_objects 7 ≡ avail.Missing = subst (λ k. by_objects k ≡ avail.Missing) e missing in absurd (cc)

two : (n : ℕ) → IsNeeded plan by_objects n → (n ≡ 8) ⊎ (n ≡ 7)
two = need_is_least plan by_objects (λ n. (n ≡ 8) ⊎ (n ≡ 7)) (record {
  targets = λ n among. inl (sym (only 8 n among));
  always = λ n task at is. let not = none_always tasks (refl, (refl, (refl, (refl, (refl, (refl, (refl, (refl, (refl, tt))))))))) n task at in absurd (cc);
  below = below_one;
})

target : IsNeeded plan not_at_all 8
target = need.target 8 (zero, omega arith, refl)

n7 : IsNeeded plan not_at_all 7
n7 = need.below 8 7 (task_of (codes "app") (codes "do_build") nothing (7 ∷ []) 7) target refl refl (zero, omega arith, refl)

n6 : IsNeeded plan not_at_all 6
n6 = need.below 7 6 (publishing (codes "app") (6 ∷ []) 6) n7 refl refl (zero, omega arith, refl)

n5 : IsNeeded plan not_at_all 5
n5 = need.below 6 5 (task_of (codes "app") (codes "do_install") app_install (5 ∷ []) 5) n6 refl refl (zero, omega arith, refl)

n4 : IsNeeded plan not_at_all 4
n4 = need.below 5 4 (task_of (codes "app") (codes "do_compile") app_compile (0 ∷ (4 ∷ [])) 4) n5 refl refl (suc zero, omega arith, refl)

n0 : IsNeeded plan not_at_all 0
n0 = need.below 5 0 (task_of (codes "app") (codes "do_compile") app_compile (0 ∷ (4 ∷ [])) 4) n5 refl refl (zero, omega arith, refl)

n3 : IsNeeded plan not_at_all 3
n3 = need.below 4 3 (publishing (codes "greet") (3 ∷ []) 3) n4 refl refl (zero, omega arith, refl)

n2 : IsNeeded plan not_at_all 2
n2 = need.below 3 2 (task_of (codes "greet") (codes "do_install") greet_install (2 ∷ []) 2) n3 refl refl (zero, omega arith, refl)

n1 : IsNeeded plan not_at_all 1
n1 = need.below 2 1 (task_of (codes "greet") (codes "do_compile") greet_compile (1 ∷ []) 1) n2 refl refl (zero, omega arith, refl)

all : (n : ℕ) → n < 9 → IsNeeded plan not_at_all n
all zero lt = n0
all (suc zero) lt = n1
all (suc (suc zero)) lt = n2
all (suc (suc (suc zero))) lt = n3
all (suc (suc (suc (suc zero)))) lt = n4
all (suc (suc (suc (suc (suc zero))))) lt = n5
all (suc (suc (suc (suc (suc (suc zero)))))) lt = n6
all (suc (suc (suc (suc (suc (suc (suc zero))))))) lt = n7
all (suc (suc (suc (suc (suc (suc (suc (suc zero)))))))) lt = target
all (suc (suc (suc (suc (suc (suc (suc (suc (suc n))))))))) lt = absurd (omega arith)

pub what_is_needed : WhatIsNeeded
what_is_needed = record {
  two = two;
  both = (
    need.target 8 (zero, omega arith, refl),
    need.below 8 7 (task_of (codes "app") (codes "do_build") nothing (7 ∷ []) 7) (need.target 8 (zero, omega arith, refl)) refl refl (zero, omega arith, refl),
  );
  all = all;
}

-- ---- what is available

row : EquivRow
row = row_of (recorded [] published app_published)

is_row : row_at (rows_of book) (name_of published.sig) ≡ Some row
unfolding name_of signature_bytes short_bytes key_name key_bytes digits encode_with first_words schedule rounds compress hash_after digest_bytes sha256 row
is_row = refl

is_folder : object_folder row.unihash ≡ object
unfolding name_of signature_bytes short_bytes key_name key_bytes digits encode_with first_words schedule rounds compress hash_after digest_bytes sha256 row
is_folder = refl

no_stamp : (x : Entry) → object_store (stamp_path published.task) ≡ Some x → ⊥
no_stamp x e = let clash : ◌≡◌ {A = Option Entry} None (Some x) = e in absurd (cc)

not_in_work : IsInWork object_store (rows_of book) published → ⊥
not_in_work w = no_stamp (File false (hash_text (name_of published.sig) ++ 10 ∷ [])) w.stamp

is_clean : IsClean (codes "usr/share/out.txt")
is_clean = record {
  short = omega arith;
  parts = all_of IsPart (parts_of (codes "usr/share/out.txt")) (
    is_part (codes "usr") (omega arith) (omega arith) (refl, (refl, (refl, tt))),
    (
      is_part (codes "share") (omega arith) (omega arith) (refl, (refl, (refl, (refl, (refl, tt))))),
      (is_part (codes "out.txt") (omega arith) (omega arith) (refl, (refl, (refl, (refl, (refl, (refl, (refl, tt))))))), tt),
    ),
  );
}

is_tree : IsTree app_published
is_tree = record { clean = all_of (λ e. IsClean e.0) app_published (is_clean, tt); ordered = λ i j d lt within. absurd (omega arith) }

by_one : (a : Bool) (x : Entry) (u : List ℕ) → (if a then Some x else None) ≡ option_map (λ (e : List ℕ × Entry). e.1) (if a then Some (u, x) else None)
by_one true x u = refl
by_one false x u = refl

entries : (path : List ℕ) → object_store (inside object path) ≡ entry_at app_published path
entries path = by_one (bytes_eq (codes "usr/share/out.txt") path) (File false greeting) (codes "usr/share/out.txt")

none_of_one : (a : Bool) (x : Entry) → a ≡ false → (if a then Some x else None) ≡ None
none_of_one true x e = absurd (cc)
none_of_one false x e = refl

open_above : (q : List ℕ) → IsBelow q object → object_store q ≡ None
open_above q below = none_of_one (bytes_eq (inside object (codes "usr/share/out.txt")) q) (File false greeting)
    (not_above object (inside object (codes "usr/share/out.txt")) q (λ b. not_same object (inside (inside object (codes "usr/share/out.txt")) b.0) 68 None (Some 47) refl refl end_not_slash b.1) below)

row_sig : row.sig ≡ signature_bytes published.sig
unfolding row
row_sig = refl

matches : Matches object_store object row.manifest
unfolding row
matches = record { tree = app_published; is_tree = is_tree; holds = record { entries = entries; outside = record { at = refl; above = open_above } }; manifest = refl }

in_object : IsInObject object_store (rows_of book) true published
in_object = record {
  kept = refl;
  sstate = refl;
  counts = refl;
  row = row;
  stored = record { is_row = is_row; sig = row_sig };
  object = subst (λ f. Matches object_store f row.manifest) (sym is_folder) matches;
}

pub what_is_restored : WhatIsRestored
what_is_restored = record { by_object = (not_in_work, in_object); without = (not_in_work, λ o. let counts : false ≡ true = o.counts in absurd (cc)) }
