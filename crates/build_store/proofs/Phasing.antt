-- What the phases of a publication do to a store.
use Rattle.std.proofs.Common.{◌≡◌, ◌≢◌, ◌∙◌, sym, ap, subst, refl, ℕ, ◌⊎◌, inl, inr, ⊎_elim, List, [], ◌∷◌, Option, None, arith}
use Rattle.std.specs.Prelude.{codes, IsSome}
use Rattle.std.specs.Option.{is_some}
use Rattle.std.proofs.lemmas.Bool.{false≢true}
use Rattle.tree_model.specs.declared.entry.Entry.{Entry}
use Rattle.tree_model.specs.declared.hash.Hash.{Hash}
use Rattle.tree_model.specs.Hash.{hash_text}
use Rattle.tree_model.specs.Path.{inside}
use Rattle.outside_traits.specs.Store.{AgreesApart, ChangesAt, Moves, Store, slashes}
use Rattle.outside_traits.proofs.Folders.{under_same}
use Rattle.outside_traits.proofs.Held.{none_unless}
use Rattle.outside_traits.proofs.Puts.{path_cases}
use Rattle.stamp_store.specs.Stamp.{TakesAway, old_path, stamp_path, staged_path}
use Rattle.store_opening.specs.Named.{IsName}
use Rattle.store_opening.specs.Paths.{IsLaidOut, IsTemporary, staged_record_path}
use Rattle.store_model.specs.Paths.{key_path, record_path}
use Rattle.build_store.specs.Calls.{FreesStamp}
use Rattle.build_store.specs.Phases.{IsApartFrom, Lays, Stages}
use Rattle.store_model.specs.Publication.{work_at}
use Rattle.store_opening.proofs.Areas.{apart_by_first, differ, heads_differ}
use Rattle.store_opening.proofs.Clean.{name_slashes}
use Rattle.store_opening.proofs.Slashes.{slashes_inside}
use Rattle.build_store.proofs.Rounding.{frees_there}

-- a path under `rec2/`, `stamp/`, `tmp/` or `key/` at which the store may put something
abbrev pub Well : List ℕ → Type 0
Well q =
    ((p : List ℕ) × (q ≡ inside (codes "rec2") p) × (slashes p ≡ 0))
    ⊎ (((p : List ℕ) × (q ≡ inside (codes "stamp") p) × (slashes p ≡ 1))
    ⊎ (((p : List ℕ) × (q ≡ inside (codes "tmp") p) × IsTemporary p)
    ⊎ ((p : List ℕ) × (q ≡ inside (codes "key") p) × (slashes p ≡ 0))))

pub IsWell : List ℕ → Type 0
IsWell q = Well q

-- where nothing comes to be held but at such paths, what is held stays laid out
laid_after : (i j : Store) → ((q : List ℕ) → IsSome (j q) → IsSome (i q) ⊎ IsWell q) → IsLaidOut i → IsLaidOut j
unfolding IsWell
laid_after i j comes was = record {
  records = λ path some. by_rec path (comes (inside (codes "rec2") path) some);
  keys = λ path some. by_key path (comes (inside (codes "key") path) some);
  temporary = λ path some. by_tmp path (comes (inside (codes "tmp") path) some);
  at_records = none_unless (j (codes "rec2")) (λ some. at_top (codes "rec2") refl was.at_records (comes (codes "rec2") some));
  at_keys = none_unless (j (codes "key")) (λ some. at_top (codes "key") refl was.at_keys (comes (codes "key") some));
  at_stamps = none_unless (j (codes "stamp")) (λ some. at_top (codes "stamp") refl was.at_stamps (comes (codes "stamp") some));
  at_temporary = none_unless (j (codes "tmp")) (λ some. at_top (codes "tmp") refl was.at_temporary (comes (codes "tmp") some));
}
  where
    plain : (top folder p : List ℕ) → slashes top ≡ 0 → top ≡ inside folder p → ⊥
    plain top folder p none e = let m = ap slashes e ∙ slashes_inside folder p in omega (arith, m, none)

    held_none : {o : Option Entry} → o ≡ None → IsSome o → ⊥
    held_none none some = false≢true (sym (ap is_some none) ∙ some)

    by_rec : (path : List ℕ) → IsSome (i (inside (codes "rec2") path)) ⊎ Well (inside (codes "rec2") path) → slashes path ≡ 0
    by_rec path (inl some) = was.records path some
    by_rec path (inr (inl w)) = ap slashes (under_same (codes "rec2") path w.0 w.1) ∙ w.2
    by_rec path (inr (inr (inl w))) = absurd (heads_differ (differ 114 115 refl) w.1)
    by_rec path (inr (inr (inr (inl w)))) = absurd (heads_differ (differ 114 116 refl) w.1)
    by_rec path (inr (inr (inr (inr w)))) = absurd (heads_differ (differ 114 107 refl) w.1)

    by_key : (path : List ℕ) → IsSome (i (inside (codes "key") path)) ⊎ Well (inside (codes "key") path) → slashes path ≡ 0
    by_key path (inl some) = was.keys path some
    by_key path (inr (inl w)) = absurd (heads_differ (differ 107 114 refl) w.1)
    by_key path (inr (inr (inl w))) = absurd (heads_differ (differ 107 115 refl) w.1)
    by_key path (inr (inr (inr (inl w)))) = absurd (heads_differ (differ 107 116 refl) w.1)
    by_key path (inr (inr (inr (inr w)))) = ap slashes (under_same (codes "key") path w.0 w.1) ∙ w.2

    by_tmp : (path : List ℕ) → IsSome (i (inside (codes "tmp") path)) ⊎ Well (inside (codes "tmp") path) → IsTemporary path
    by_tmp path (inl some) = was.temporary path some
    by_tmp path (inr (inl w)) = absurd (heads_differ (differ 116 114 refl) w.1)
    by_tmp path (inr (inr (inl w))) = absurd (heads_differ (differ 116 115 refl) w.1)
    by_tmp path (inr (inr (inr (inl w)))) = subst IsTemporary (sym (under_same (codes "tmp") path w.0 w.1)) w.2
    by_tmp path (inr (inr (inr (inr w)))) = absurd (heads_differ (differ 116 107 refl) w.1)

    at_top : (top : List ℕ) → slashes top ≡ 0 → i top ≡ None → IsSome (i top) ⊎ Well top → ⊥
    at_top top none free (inl some) = held_none free some
    at_top top none free (inr (inl w)) = plain top (codes "rec2") w.0 none w.1
    at_top top none free (inr (inr (inl w))) = plain top (codes "stamp") w.0 none w.1
    at_top top none free (inr (inr (inr (inl w)))) = plain top (codes "tmp") w.0 none w.1
    at_top top none free (inr (inr (inr (inr w)))) = plain top (codes "key") w.0 none w.1

well_record : (name : Hash) → IsName name → IsWell (record_path name)
unfolding IsWell
well_record name is = inl (hash_text name, refl, name_slashes name is)

well_staged_record : (name : Hash) → IsName name → IsWell (staged_record_path name)
unfolding IsWell
well_staged_record name is = inr (inr (inl (inside (codes "rec2") (hash_text name), refl, inl (hash_text name, refl, name_slashes name is))))

well_stamp : (folder : List ℕ) → slashes folder ≡ 1 → IsWell (stamp_path folder)
unfolding IsWell
well_stamp folder one = inr (inl (folder, refl, one))

well_staged : (folder : List ℕ) → slashes folder ≡ 1 → IsWell (staged_path folder)
unfolding IsWell
well_staged folder one = inr (inr (inl (inside (codes "stamp") folder, refl, inr (inl (folder, refl, one)))))

well_old : (folder : List ℕ) → slashes folder ≡ 1 → IsWell (old_path folder)
unfolding IsWell
well_old folder one = inr (inr (inl (inside (codes "old") folder, refl, inr (inr (folder, refl, one)))))

well_key : (name : Hash) → IsName name → IsWell (key_path name)
unfolding IsWell
well_key name is = inr (inr (inr (hash_text name, refl, name_slashes name is)))

laid_change : (p : List ℕ) (i j : Store) → IsWell p → ChangesAt p i j → IsLaidOut i → IsLaidOut j
laid_change p i j well change was = laid_after i j (λ q some. elim (path_cases q p) [
  | inl same ↦ inr (subst IsWell (sym same) well)
  | inr other ↦ inl (subst IsSome (change.others q other) some)
]) was

-- the first path is as before or holds nothing, and the second one holds anything
laid_from : (p r : List ℕ) (i j : Store) → IsWell r → ((q : List ℕ) → q ≢ p → q ≢ r → j q ≡ i q) → (j p ≡ i p) ⊎ (j p ≡ None) → IsLaidOut i → IsLaidOut j
laid_from p r i j well others source was = laid_after i j (λ q some. elim (path_cases q r) [
  | inl same ↦ inr (subst IsWell (sym same) well)
  | inr other ↦ elim (path_cases q p) [
    | inl same ↦ inl (⊎_elim (λ e. subst IsSome (ap j same ∙ e ∙ ap i (sym same)) some) (λ e. absurd (false≢true (sym (ap is_some (ap j same ∙ e)) ∙ some))) source)
    | inr differs ↦ inl (subst IsSome (others q differs other) some)
  ]
]) was

pub laid_key : (name : Hash) (i j : Store) → IsName name → ChangesAt (key_path name) i j → IsLaidOut i → IsLaidOut j
laid_key name i j is change was = laid_change (key_path name) i j (well_key name is) change was

pub laid_move : (p r : List ℕ) (x : Option Entry) (i j : Store) → IsWell r → Moves p r x i j → IsLaidOut i → IsLaidOut j
laid_move p r x i j well move was = laid_from p r i j well move.others move.source was

pub laid_aside : (folder : List ℕ) (i j : Store) → slashes folder ≡ 1 → TakesAway folder i j → IsLaidOut i → IsLaidOut j
laid_aside folder i j one takes was = laid_from (stamp_path folder) (old_path folder) i j (well_old folder one) takes.others takes.source was

pub laid_stamped : (folder : List ℕ) (x : Option Entry) (i j : Store) → slashes folder ≡ 1 → Moves (staged_path folder) (stamp_path folder) x i j → IsLaidOut i → IsLaidOut j
laid_stamped folder x i j one move was = laid_move (staged_path folder) (stamp_path folder) x i j (well_stamp folder one) move was

-- what is in the way of a stamp goes
pub laid_freeing : (folder : List ℕ) (i j : Store) → FreesStamp folder i i j → IsLaidOut i → IsLaidOut j
laid_freeing folder i j frees was = record {
  records = λ path some. was.records path (subst IsSome (same 114 (101 ∷ 99 ∷ 50 ∷ 47 ∷ path) (differ 114 115 refl)) some);
  keys = λ path some. was.keys path (subst IsSome (same 107 (101 ∷ 121 ∷ 47 ∷ path) (differ 107 115 refl)) some);
  temporary = λ path some. was.temporary path (subst IsSome (same 116 (109 ∷ 112 ∷ 47 ∷ path) (differ 116 115 refl)) some);
  at_records = same 114 (101 ∷ 99 ∷ 50 ∷ []) (differ 114 115 refl) ∙ was.at_records;
  at_keys = same 107 (101 ∷ 121 ∷ []) (differ 107 115 refl) ∙ was.at_keys;
  at_stamps = frees.none (codes "stamp") was.at_stamps ∙ was.at_stamps;
  at_temporary = same 116 (109 ∷ 112 ∷ []) (differ 116 115 refl) ∙ was.at_temporary;
}
  where
    same : (c : ℕ) (rest : List ℕ) → c ≢ 115 → j (c ∷ rest) ≡ i (c ∷ rest)
    same c rest ne = frees_there folder i i j c (c ∷ rest) ne (rest, refl) frees

-- ---- the work folder and the object

object_by_first : (object : Option Hash) (c : ℕ) (ps : List ℕ) → c ≢ 111 → IsApartFrom object (c ∷ ps)
object_by_first object c ps ne unihash is = apart_by_first ps (98 ∷ 106 ∷ 47 ∷ hash_text unihash) ne

pub laid_lays : (folder : List ℕ) (object : Option Hash) (i j : Store) → Lays folder object i j → IsLaidOut i → IsLaidOut j
laid_lays folder object i j lays was = record {
  records = λ path some. was.records path (subst IsSome (same 114 (101 ∷ 99 ∷ 50 ∷ 47 ∷ path) (differ 114 119 refl) (differ 114 111 refl)) some);
  keys = λ path some. was.keys path (subst IsSome (same 107 (101 ∷ 121 ∷ 47 ∷ path) (differ 107 119 refl) (differ 107 111 refl)) some);
  temporary = λ path some. was.temporary path (subst IsSome (same 116 (109 ∷ 112 ∷ 47 ∷ path) (differ 116 119 refl) (differ 116 111 refl)) some);
  at_records = same 114 (101 ∷ 99 ∷ 50 ∷ []) (differ 114 119 refl) (differ 114 111 refl) ∙ was.at_records;
  at_keys = same 107 (101 ∷ 121 ∷ []) (differ 107 119 refl) (differ 107 111 refl) ∙ was.at_keys;
  at_stamps = same 115 (116 ∷ 97 ∷ 109 ∷ 112 ∷ []) (differ 115 119 refl) (differ 115 111 refl) ∙ was.at_stamps;
  at_temporary = same 116 (109 ∷ 112 ∷ []) (differ 116 119 refl) (differ 116 111 refl) ∙ was.at_temporary;
}
  where
    same : (c : ℕ) (ps : List ℕ) → c ≢ 119 → c ≢ 111 → j (c ∷ ps) ≡ i (c ∷ ps)
    same c ps work obj = lays.others (c ∷ ps) (apart_by_first ps (111 ∷ 114 ∷ 107 ∷ 47 ∷ folder) work) (object_by_first object c ps obj)

-- other areas stay
pub lays_elsewhere : (folder : List ℕ) (object : Option Hash) (i j : Store) (c : ℕ) (ps : List ℕ) → c ≢ 119 → c ≢ 111 → Lays folder object i j → j (c ∷ ps) ≡ i (c ∷ ps)
lays_elsewhere folder object i j c ps work obj lays = lays.others (c ∷ ps) (apart_by_first ps (111 ∷ 114 ∷ 107 ∷ 47 ∷ folder) work) (object_by_first object c ps obj)

pub lays_by_work : (folder : List ℕ) (object : Option Hash) (i j : Store) → AgreesApart (work_at folder) i j → Lays folder object i j
lays_by_work folder object i j agrees = record { others = λ q work obj. agrees.apart q work }

-- ---- records and stamps that are staged

module _ (name : Hash) (file : Option Entry) where
  pub stages_same : (i : Store) → Stages name file i i
  stages_same i = record { others = λ q tmp own. refl; stored = inl refl; laid_out = λ l. l }

  -- a path under `tmp/` changes
  by_temporary : (path : List ℕ) (i j : Store) → IsWell (inside (codes "tmp") path) → ChangesAt (inside (codes "tmp") path) i j → Stages name file i j
  by_temporary path i j well change = record {
    others = λ q tmp own. change.others q (λ same. tmp (path, same));
    stored = inl (change.others (record_path name) (heads_differ (differ 114 116 refl)));
    laid_out = λ l. laid_change (inside (codes "tmp") path) i j well change l;
  }

  pub stages_by_record : (i j : Store) → IsName name → ChangesAt (staged_record_path name) i j → Stages name file i j
  stages_by_record i j is change = by_temporary (inside (codes "rec2") (hash_text name)) i j (well_staged_record name is) change

  pub stages_by_stamp : (folder : List ℕ) (i j : Store) → slashes folder ≡ 1 → ChangesAt (staged_path folder) i j → Stages name file i j
  stages_by_stamp folder i j one change = by_temporary (inside (codes "stamp") folder) i j (well_staged folder one) change
