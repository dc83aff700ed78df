-- Stamps that name records that go.
use Rattle.std.proofs.Common.{◌≡◌, ◌∙◌, sym, ap, subst, refl, arith, ℕ, zero, suc, ◌+◌, ◌<◌, ◌≤◌, ◌⊎◌, inl, inr, Bool, true, false, List, [], ◌∷◌, ◌++◌, length, get_or, take, Option, None, Some}
use Rattle.std.specs.Prelude.{codes, Contains, IsSome, MatchBool}
use Rattle.std.specs.Map.{lookup}
use Rattle.std.specs.Option.{is_some}
use Rattle.std.specs.Str.{bytes_eq}
use Rattle.std.proofs.lemmas.Bool.{false≢true}
use Rattle.std.proofs.lemmas.List.{take_all}
use Rattle.std.proofs.lemmas.List.Elements.{Contains-append_left, Contains-push, Contains-push_cases}
use Rattle.std.proofs.Math.Seq.{take-append_seam}
use Rattle.tree_model.specs.declared.entry.Entry.{Entry}
use Rattle.tree_model.specs.declared.entry.Entry.TheVariants.{File}
use Rattle.tree_model.specs.declared.hash.Hash.{Hash}
use Rattle.tree_model.specs.Hash.{IsHash, hash_text}
use Rattle.outside_traits.specs.Store.{Store}
use Rattle.stamp_store.specs.Stamp.{stamp_of}
use Rattle.store_model.specs.Publication.{stamp_file}
use Rattle.store_opening.specs.Survey.{AreUnder, HeldFile, IsFileIn, paths_of}
use Rattle.store_opening.proofs.Areas.{differ, heads_differ}
use Rattle.store_opening.proofs.Clean.{hash_is_name, name_text_length, same_digest}
use Rattle.store_opening.proofs.Surveyed.{each_of, file_of}
use Rattle.store_clean.specs.Naming.{place_in}
use Rattle.store_clean.specs.Cleared.{gone_path}
use Rattle.store_clean.specs.Steps.{AreGoneStamps, HoldsGoneStamp, IsGone, IsGoneStamp, IsPlaceTable, Notes, TakesAway}
use Rattle.store_clean.proofs.Lists.{nothing, some_one, taken_first, taken_last, taken_none, taken_or}

-- a stamp names one record
same_stamp : (a b : Hash) → IsHash a → IsHash b → stamp_file a ≡ stamp_file b → a ≡ b
same_stamp a b hash_a hash_b same =
    let bytes : hash_text a ++ 10 ∷ [] ≡ hash_text b ++ 10 ∷ [] = (let e : File false (hash_text a ++ 10 ∷ []) ≡ File false (hash_text b ++ 10 ∷ []) = same in cc) in
    let long : length (hash_text a) ≡ length (hash_text b) = name_text_length a (hash_is_name a hash_a) ∙ sym (name_text_length b (hash_is_name b hash_b)) in
    let text : hash_text a ≡ hash_text b = sym (take-append_seam (hash_text a) (10 ∷ [])) ∙ ap (take (length (hash_text a))) bytes ∙ ap (λ n. take n (hash_text b ++ 10 ∷ [])) long ∙ take-append_seam (hash_text b) (10 ∷ []) in
    same_digest a b (hash_is_name a hash_a) (hash_is_name b hash_b) text

module _ (names : List Hash) (entries : List (List ℕ × ℕ)) (marks : List Bool) (entry : Entry) (name : Hash) (table : IsPlaceTable names entries) (is : IsHash name × (entry ≡ stamp_of name)) where
  one_stamp : (s : IsGoneStamp names marks entry) → s.name ≡ name
  one_stamp s = same_stamp s.name name s.is_hash is.0 (sym s.is ∙ is.1)

  pub stamp_some : (r : Bool) (place : ℕ) → Some place ≡ lookup (bytes_eq name.bytes) entries → MatchBool r (IsGone marks place) (IsGone marks place → ⊥) → MatchBool r (IsGoneStamp names marks entry) (IsGoneStamp names marks entry → ⊥)
  stamp_some true place found gone = record { name = name; is_hash = is.0; place = place; stands = sym (table name) ∙ sym found; gone = gone; is = is.1 }
  stamp_some false place found stays = λ s. stays (subst (IsGone marks) (some_one (place_in names name) s.place place (ap (place_in names) (sym (one_stamp s)) ∙ s.stands) (sym (table name) ∙ sym found)) s.gone)

  pub stamp_none : None ≡ lookup (bytes_eq name.bytes) entries → IsGoneStamp names marks entry → ⊥
  stamp_none none s = absurd (let no : None ≡ Some s.place = none ∙ table name ∙ ap (place_in names) (sym (one_stamp s)) ∙ s.stands in cc)

-- ---- among files

pub gone_first : (names : List Hash) (marks : List Bool) (files : List HeldFile) (paths : List (List ℕ)) → paths ≡ [] → AreGoneStamps names marks (take 0 files) paths
gone_first names marks files paths empty q = (λ has. absurd (nothing q (subst (λ l. Contains l q) empty has)), λ w. absurd (taken_none files (q, w.0) w.1))

pub gone_next : (names : List Hash) (marks : List Bool) (files : List HeldFile) (i : ℕ) (file : HeldFile) (paths new : List (List ℕ)) → i < length files → file ≡ get_or files i file → AreGoneStamps names marks (take i files) paths → Notes (IsGoneStamp names marks file.1) file.0 paths new
    → AreGoneStamps names marks (take (i + 1) files) new
gone_next names marks files i file paths new lt is was (inl w) q = (forth, back)
  where
    forth : Contains new q → (entry : Entry) × Contains (take (i + 1) files) (q, entry) × IsGoneStamp names marks entry
    forth has = elim (Contains-push_cases paths file.0 q (subst (λ l. Contains l q) w.1 has)) [
      | inl earlier ↦ let x = (was q).0 earlier in (x.0, taken_first files i file (q, x.0) lt is x.1, x.2)
      | inr same ↦ (file.1, subst (λ (p : List ℕ). Contains (take (i + 1) files) (p, file.1)) same (taken_last files i file lt is), w.0)
    ]

    back : (entry : Entry) × Contains (take (i + 1) files) (q, entry) × IsGoneStamp names marks entry → Contains new q
    back x = subst (λ l. Contains l q) (sym w.1) (elim (taken_or files i file (q, x.0) lt is x.1) [
      | inl earlier ↦ Contains-append_left paths (file.0 ∷ []) q ((was q).1 (x.0, earlier, x.2))
      | inr same ↦ subst (Contains (paths ++ file.0 ∷ [])) (ap (λ (f : HeldFile). f.0) same) (Contains-push paths file.0)
    ])
gone_next names marks files i file paths new lt is was (inr w) q = (forth, back)
  where
    forth : Contains new q → (entry : Entry) × Contains (take (i + 1) files) (q, entry) × IsGoneStamp names marks entry
    forth has = let x = (was q).0 (subst (λ l. Contains l q) w.1 has) in (x.0, taken_first files i file (q, x.0) lt is x.1, x.2)

    back : (entry : Entry) × Contains (take (i + 1) files) (q, entry) × IsGoneStamp names marks entry → Contains new q
    back x = subst (λ l. Contains l q) (sym w.1) (elim (taken_or files i file (q, x.0) lt is x.1) [
      | inl earlier ↦ (was q).1 (x.0, earlier, x.2)
      | inr same ↦ absurd (w.0 (subst (IsGoneStamp names marks) (sym (ap (λ (f : HeldFile). f.1) same)) x.2))
    ])

pub gone_all : (names : List Hash) (marks : List Bool) (files : List HeldFile) (i : ℕ) (paths : List (List ℕ)) → length files ≤ i → AreGoneStamps names marks (take i files) paths → AreGoneStamps names marks files paths
gone_all names marks files i paths past was = subst (λ l. AreGoneStamps names marks l paths) (take_all i files past) was

-- ---- on the disk

none_not : (o : Option Entry) → o ≡ None → IsSome o → ⊥
none_not o none some = false≢true (sym (ap is_some none) ∙ some)

module _ (names : List Hash) (marks : List Bool) (held : Store) (files : List HeldFile) (paths : List (List ℕ)) (under : AreUnder (codes "stamp/") held files) (are : AreGoneStamps names marks files paths) where
  path_has : (xs : List HeldFile) (q : List ℕ) (entry : Entry) → Contains xs (q, entry) → Contains (paths_of xs) q
  path_has xs q entry has = by xs has.0 has.1 has.2
    where
      by : (ys : List HeldFile) (k : ℕ) → k < length ys → get_or ys k (q, entry) ≡ (q, entry) → Contains (paths_of ys) q
      by [] k lt e = absurd (omega (arith, lt))
      by (y ∷ ys) zero lt e = (0, omega arith, ap (λ (f : HeldFile). f.0) e)
      by (y ∷ ys) (suc k) lt e = let w = by ys k (omega (arith, lt)) e in (suc w.0, (let l = w.1 in omega (arith, l)), w.2)

  pub stamp_held : (q : List ℕ) → Contains paths q → HoldsGoneStamp names marks held q
  stamp_held q has =
      let w = (are q).0 has in
      let file : held q ≡ Some w.0 = each_of (IsFileIn held) files (q, w.0) under.each w.1 in
      record { under = (under.listing.are_held q (path_has files q w.0 w.1)).0; entry = w.0; here = file; stamp = w.2 }

  pub stamps_apart : Contains paths gone_path → ⊥
  stamps_apart has = heads_differ (differ 116 115 refl) (stamp_held gone_path has).under.1

  pub stamps_gone : (now : Store) → TakesAway (Contains paths) held now → ((q : List ℕ) → Contains paths q → now q ≡ None) → (q : List ℕ) → HoldsGoneStamp names marks now q → ⊥
  stamps_gone now takes gone q s = by (takes.taken q (λ e. heads_differ (differ 115 116 refl) (sym s.under.1 ∙ e)))
    where
      some : IsSome (now q)
      some = subst IsSome (sym s.here) refl

      by : (now q ≡ held q) ⊎ (Contains paths q × (now q ≡ None)) → ⊥
      by (inr w) = none_not (now q) w.1 some
      by (inl same) =
          let has : Contains (paths_of files) q = under.listing.all q s.under (subst IsSome same some) in
          let f = file_of files q has in
          let at : held q ≡ Some f.0.1 = ap held (sym f.2) ∙ each_of (IsFileIn held) files f.0 under.each f.1 in
          let one : f.0.1 ≡ s.entry = some_one (held q) f.0.1 s.entry at (sym same ∙ s.here) in
          let pair : Contains files (q, f.0.1) = subst (λ (p : List ℕ). Contains files (p, f.0.1)) f.2 f.1 in
          none_not (now q) (gone q ((are q).1 (f.0.1, pair, subst (IsGoneStamp names marks) (sym one) s.stamp))) some
