-- What a move writes leaves a store laid out.
use Rattle.std.proofs.Common.{◌≡◌, ◌≢◌, ◌∙◌, sym, ap, subst, refl, ℕ, ◌⊎◌, inl, inr, List, [], ◌∷◌, Option, None, get_or}
use Rattle.std.specs.Prelude.{codes, IsSome}
use Rattle.std.specs.Option.{is_some}
use Rattle.std.proofs.lemmas.Bool.{false≢true}
use Rattle.tree_model.specs.declared.entry.Entry.{Entry}
use Rattle.tree_model.specs.declared.hash.Hash.{Hash}
use Rattle.tree_model.specs.Hash.{hash_text}
use Rattle.tree_model.specs.Path.{inside}
use Rattle.outside_traits.specs.Store.{ChangesAt, Moves, Store, slashes}
use Rattle.outside_traits.proofs.Folders.{under_same}
use Rattle.outside_traits.proofs.Held.{none_unless}
use Rattle.outside_traits.proofs.Puts.{path_cases}
use Rattle.stamp_store.specs.Stamp.{stamp_path, staged_path}
use Rattle.store_model.specs.Paths.{key_path, record_path}
use Rattle.store_opening.specs.Named.{IsName}
use Rattle.store_opening.specs.Paths.{IsLaidOut, IsTemporary, staged_record_path}
use Rattle.store_opening.proofs.Areas.{differ, heads_differ}
use Rattle.store_opening.proofs.Clean.{name_slashes}
use Rattle.store_opening.proofs.Doomed.{no_slash}
use Rattle.store_upgrade.specs.Steps.{Within}

-- something may be held at the path where a store is laid out
pub record IsWell (q : List ℕ) : Type 0 where
  pub records : (path : List ℕ) → q ≡ inside (codes "rec2") path → slashes path ≡ 0
  pub keys : (path : List ℕ) → q ≡ inside (codes "key") path → slashes path ≡ 0
  pub temporary : (path : List ℕ) → q ≡ inside (codes "tmp") path → IsTemporary path
  pub no_records : q ≢ codes "rec2"
  pub no_keys : q ≢ codes "key"
  pub no_stamps : q ≢ codes "stamp"
  pub no_temporary : q ≢ codes "tmp"

-- where all that is held more is held well
pub laid_if : (held now : Store) → ((q : List ℕ) → IsSome (now q) → IsSome (held q) ⊎ IsWell q) → IsLaidOut held → IsLaidOut now
laid_if held now of laid = record {
  records = λ path some. elim (of (inside (codes "rec2") path) some) [ inl was ↦ laid.records path was | inr well ↦ well.records path refl ];
  keys = λ path some. elim (of (inside (codes "key") path) some) [ inl was ↦ laid.keys path was | inr well ↦ well.keys path refl ];
  temporary = λ path some. elim (of (inside (codes "tmp") path) some) [ inl was ↦ laid.temporary path was | inr well ↦ well.temporary path refl ];
  at_records = none_at (codes "rec2") laid.at_records (λ well. well.no_records refl);
  at_keys = none_at (codes "key") laid.at_keys (λ well. well.no_keys refl);
  at_stamps = none_at (codes "stamp") laid.at_stamps (λ well. well.no_stamps refl);
  at_temporary = none_at (codes "tmp") laid.at_temporary (λ well. well.no_temporary refl);
}
  where
    none_at : (q : List ℕ) → held q ≡ None → (IsWell q → ⊥) → now q ≡ None
    none_at q none never = none_unless (now q) (λ some. elim (of q some) [ inl was ↦ false≢true (sym (ap is_some none) ∙ was) | inr well ↦ never well ])

pub laid_changed : (held now : Store) (p : List ℕ) → IsWell p → ChangesAt p held now → IsLaidOut held → IsLaidOut now
laid_changed held now p well changes laid = laid_if held now (λ q some. elim (path_cases q p) [ inl same ↦ inr (subst IsWell (sym same) well) | inr other ↦ inl (subst IsSome (changes.others q other) some) ]) laid

pub laid_moved : (held now : Store) (from to : List ℕ) (x : Option Entry) → IsWell to → Moves from to x held now → IsLaidOut held → IsLaidOut now
laid_moved held now from to x well moves laid = laid_if held now (λ q some. by q some (path_cases q to) (path_cases q from)) laid
  where
    source : (q : List ℕ) → IsSome (now q) → q ≡ from → (now from ≡ held from) ⊎ (now from ≡ None) → IsSome (held q)
    source q some same (inl was) = subst IsSome (ap now same ∙ was ∙ ap held (sym same)) some
    source q some same (inr none) = absurd (false≢true (sym (ap is_some (ap now same ∙ none)) ∙ some))

    by : (q : List ℕ) → IsSome (now q) → (q ≡ to) ⊎ (q ≢ to) → (q ≡ from) ⊎ (q ≢ from) → IsSome (held q) ⊎ IsWell q
    by q some (inl same) which = inr (subst IsWell (sym same) well)
    by q some (inr other) (inl same) = inl (source q some same moves.source)
    by q some (inr other) (inr apart) = inl (subst IsSome (moves.others q apart other) some)

-- what is at or under another folder
pub laid_within : (held now : Store) (c : ℕ) (folder : List ℕ) → c ≢ 114 → c ≢ 107 → c ≢ 116 → c ≢ 115 → Within (c ∷ folder) held now → IsLaidOut held → IsLaidOut now
laid_within held now c folder nr nk nt ns within laid = record {
  records = λ path some. laid.records path (subst IsSome (stays 114 (101 ∷ 99 ∷ 50 ∷ 47 ∷ path) nr) some);
  keys = λ path some. laid.keys path (subst IsSome (stays 107 (101 ∷ 121 ∷ 47 ∷ path) nk) some);
  temporary = λ path some. laid.temporary path (subst IsSome (stays 116 (109 ∷ 112 ∷ 47 ∷ path) nt) some);
  at_records = stays 114 (101 ∷ 99 ∷ 50 ∷ []) nr ∙ laid.at_records;
  at_keys = stays 107 (101 ∷ 121 ∷ []) nk ∙ laid.at_keys;
  at_stamps = stays 115 (116 ∷ 97 ∷ 109 ∷ 112 ∷ []) ns ∙ laid.at_stamps;
  at_temporary = stays 116 (109 ∷ 112 ∷ []) nt ∙ laid.at_temporary;
}
  where
    stays : (d : ℕ) (rest : List ℕ) → c ≢ d → now (d ∷ rest) ≡ held (d ∷ rest)
    stays d rest ne = within.others (d ∷ rest) (λ at. elim at [ inl same ↦ ne (sym (ap (λ (l : List ℕ). get_or l 0 0) same)) | inr below ↦ ne (sym (ap (λ (l : List ℕ). get_or l 0 0) below.1)) ])

-- ---- where a move writes

pub well_key : (name : Hash) → IsName name → IsWell (key_path name)
well_key name is = record {
  records = λ path e. absurd (heads_differ (differ 107 114 refl) e);
  keys = λ path e. ap slashes (sym (under_same (codes "key") (hash_text name) path e)) ∙ name_slashes name is;
  temporary = λ path e. absurd (heads_differ (differ 107 116 refl) e);
  no_records = λ e. heads_differ (differ 107 114 refl) e;
  no_keys = λ e. no_slash (codes "key") (hash_text name) (sym e);
  no_stamps = λ e. heads_differ (differ 107 115 refl) e;
  no_temporary = λ e. heads_differ (differ 107 116 refl) e;
}

pub well_record : (name : Hash) → IsName name → IsWell (record_path name)
well_record name is = record {
  records = λ path e. ap slashes (sym (under_same (codes "rec2") (hash_text name) path e)) ∙ name_slashes name is;
  keys = λ path e. absurd (heads_differ (differ 114 107 refl) e);
  temporary = λ path e. absurd (heads_differ (differ 114 116 refl) e);
  no_records = λ e. no_slash (codes "rec2") (hash_text name) (sym e);
  no_keys = λ e. heads_differ (differ 114 107 refl) e;
  no_stamps = λ e. heads_differ (differ 114 115 refl) e;
  no_temporary = λ e. heads_differ (differ 114 116 refl) e;
}

-- under `tmp/`
well_temporary : (path : List ℕ) → IsTemporary path → IsWell (inside (codes "tmp") path)
well_temporary path is = record {
  records = λ rest e. absurd (heads_differ (differ 116 114 refl) e);
  keys = λ rest e. absurd (heads_differ (differ 116 107 refl) e);
  temporary = λ rest e. subst IsTemporary (under_same (codes "tmp") path rest e) is;
  no_records = λ e. heads_differ (differ 116 114 refl) e;
  no_keys = λ e. heads_differ (differ 116 107 refl) e;
  no_stamps = λ e. heads_differ (differ 116 115 refl) e;
  no_temporary = λ e. no_slash (codes "tmp") path (sym e);
}

pub well_staged_record : (name : Hash) → IsName name → IsWell (staged_record_path name)
well_staged_record name is = well_temporary (inside (codes "rec2") (hash_text name)) (inl (hash_text name, refl, name_slashes name is))

pub well_staged_stamp : (folder : List ℕ) → slashes folder ≡ 1 → IsWell (staged_path folder)
well_staged_stamp folder one = well_temporary (inside (codes "stamp") folder) (inr (inl (folder, refl, one)))

pub well_stamp : (folder : List ℕ) → IsWell (stamp_path folder)
well_stamp folder = record {
  records = λ path e. absurd (heads_differ (differ 115 114 refl) e);
  keys = λ path e. absurd (heads_differ (differ 115 107 refl) e);
  temporary = λ path e. absurd (heads_differ (differ 115 116 refl) e);
  no_records = λ e. heads_differ (differ 115 114 refl) e;
  no_keys = λ e. heads_differ (differ 115 107 refl) e;
  no_stamps = λ e. no_slash (codes "stamp") folder (sym e);
  no_temporary = λ e. heads_differ (differ 115 116 refl) e;
}
