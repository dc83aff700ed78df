-- What is found under `rec/`.
use Rattle.std.proofs.Common.{◌≡◌, ◌∙◌, sym, ap, subst, refl, ℕ, zero, suc, ◌+◌, ◌<◌, ◌≤◌, inl, inr, List, [], ◌∷◌, ◌++◌, length, get_or, take, map, Some, arith}
use Rattle.std.specs.Prelude.{codes, Contains, IsSome}
use Rattle.std.specs.List.{AllByRecursion, take-map}
use Rattle.std.specs.Ordering.{nat_cmp}
use Rattle.std.specs.Cmp.Lexicographic.{slice_cmp}
use Rattle.std.specs.declared.cmp.Ordering.TheVariants.{Less}
use Rattle.std.proofs.lemmas.List.{map-append, take_all, take_more}
use Rattle.std.proofs.lemmas.List.Elements.{Contains-append_left, Contains-push, Contains-push_cases}
use Rattle.tree_model.specs.declared.entry.Entry.{Entry}
use Rattle.tree_model.specs.Hash.{hash_text}
use Rattle.outside_traits.specs.Store.{Store}
use Rattle.store_model.specs.declared.candidate.Candidate.{Candidate}
use Rattle.store_model.specs.Believed.{Ascend, name_cmp}
use Rattle.store_model.proofs.Ordered.{each_append, each_weaker}
use Rattle.sha2.proofs.Facts256.{length-sha256}
use Rattle.store_model.specs.declared.signature.SigRecord.{SigRecord}
use Rattle.store_move.specs.First.{first_bytes, first_name, first_record}
use Rattle.store_opening.specs.Named.{IsName}
use Rattle.store_opening.proofs.Hexed.{digest_bytes_are, hex_less}
use Rattle.store_upgrade.proofs.Olden.{one_old_name}
use Rattle.record_move.specs.declared.records.OldRecord.{OldRecord}
use Rattle.store_opening.specs.Survey.{AreUnder, HeldFile, IsFileIn, paths_of}
use Rattle.store_opening.proofs.Surveyed.{each_of, file_of, less_before, pairs_push}
use Rattle.store_upgrade.specs.Old.{AreOldFound, IsGoodOld, IsOldFile, IsOldIn, TakesOld, candidate_of, old_file, old_path}

-- the record is that of one of these files
pub record IsOldAmong (held : Store) (files : List HeldFile) (old : OldRecord) : Type 0 where
  pub file : IsOldFile held old
  pub at : Contains (paths_of files) (old_path old.name)

-- what was found among the first files
pub record AreSoFar (held : Store) (files : List HeldFile) (found : List OldRecord) : Type 0 where
  pub ascend : Ascend (map candidate_of found)
  pub each : AllByRecursion (IsOldAmong held files) found
  pub whole : (f : HeldFile) (old : OldRecord) → Contains files f → IsOldIn f old → Contains found old

pub good_more : (f : HeldFile) (old new : List OldRecord) → TakesOld f old new → AllByRecursion IsGoodOld old → AllByRecursion IsGoodOld new
good_more f old new (inl w) good = subst (AllByRecursion IsGoodOld) (sym w.2) (each_append IsGoodOld old (w.0 ∷ []) good (w.1.good, tt))
good_more f old new (inr w) good = subst (AllByRecursion IsGoodOld) (sym w.1) good

pub so_far_none : (held : Store) (files : List HeldFile) → AreSoFar held (take 0 files) []
so_far_none held files = record { ascend = λ i j d lt within. absurd (omega (arith, within)); each = tt; whole = λ f old has is. absurd (let lt = has.1 in omega (arith, lt)) }

first_is_name : (sig : SigRecord) → IsName (first_name sig)
unfolding first_name
first_is_name sig = record { size = length-sha256 (first_bytes sig); bytes = digest_bytes_are (first_bytes sig) }

old_named : (o : OldRecord) → IsGoodOld o → IsName o.name
old_named o good = subst IsName (sym good.name) (first_is_name o.stored.sig)

-- a file is one record's
one_old : (f : HeldFile) (a b : OldRecord) → IsOldIn f a → IsOldIn f b → a ≡ b
one_old f a b one two =
    let e : old_file a.stored ≡ old_file b.stored = sym one.is ∙ two.is in
    let bytes : first_record a.stored ≡ first_record b.stored = cc in
    one_old_name (first_record a.stored) a b one.good two.good refl bytes

paths_long : (files : List HeldFile) → length (paths_of files) ≡ length files
paths_long [] = refl
paths_long (x ∷ xs) = ap suc (paths_long xs)

path_at : (files : List HeldFile) (n : ℕ) (f : HeldFile) → f ≡ get_or files n f → n < length files → f.0 ≡ get_or (paths_of files) n f.0
path_at [] n f is lt = refl
path_at (x ∷ xs) zero f is lt = ap (λ (y : HeldFile). y.0) is
path_at (x ∷ xs) (suc n) f is lt = path_at xs n f is (omega (arith, lt))

module _ (held : Store) (files : List HeldFile) (n : ℕ) (f : HeldFile) (old new : List OldRecord) (lt : n < length files) (is : f ≡ get_or files n f) (are : AreUnder (codes "rec/") held files) (was : AreSoFar held (take n files) old) where
  grown : take (n + 1) files ≡ take n files ++ f ∷ []
  grown = take_more files n f lt ∙ ap (λ (x : HeldFile). take n files ++ x ∷ []) (sym is)

  there : held f.0 ≡ Some f.1
  there = each_of (IsFileIn held) files f are.each (n, lt, sym is)

  paths_grown : paths_of (take (n + 1) files) ≡ paths_of (take n files) ++ f.0 ∷ []
  paths_grown = ap paths_of grown ∙ map-append (λ (x : HeldFile). x.0) (take n files) (f ∷ [])

  further : (o : OldRecord) → IsOldAmong held (take n files) o → IsOldAmong held (take (n + 1) files) o
  further o a = record { file = a.file; at = subst (λ (l : List (List ℕ)). Contains l (old_path o.name)) (sym paths_grown) (Contains-append_left (paths_of (take n files)) (f.0 ∷ []) (old_path o.name) a.at) }

  pub so_far_more : TakesOld f old new → AreSoFar held (take (n + 1) files) new
  so_far_more (inr w) = record {
    ascend = subst (λ (l : List OldRecord). Ascend (map candidate_of l)) (sym w.1) was.ascend;
    each = subst (AllByRecursion (IsOldAmong held (take (n + 1) files))) (sym w.1) (each_weaker (IsOldAmong held (take n files)) (IsOldAmong held (take (n + 1) files)) further old was.each);
    whole = λ g o has in_it. elim (Contains-push_cases (take n files) f g (subst (λ (l : List HeldFile). Contains l g) grown has)) [
      | inl earlier ↦ subst (λ (l : List OldRecord). Contains l o) (sym w.1) (was.whole g o earlier in_it)
      | inr same ↦ absurd (w.0 o (subst (λ (x : HeldFile). IsOldIn x o) (sym same) in_it))
    ];
  }
  so_far_more (inl w) = record {
    ascend = subst (λ (l : List OldRecord). Ascend (map candidate_of l)) (sym w.2) (subst Ascend (sym (map-append candidate_of old (w.0 ∷ []))) (pairs_push (λ a b. name_cmp a.name b.name ≡ Less) (map candidate_of old) (candidate_of w.0) was.ascend (before old was.each)));
    each = subst (AllByRecursion (IsOldAmong held (take (n + 1) files))) (sym w.2) (each_append (IsOldAmong held (take (n + 1) files)) old (w.0 ∷ []) (each_weaker (IsOldAmong held (take n files)) (IsOldAmong held (take (n + 1) files)) further old was.each) (mine, tt));
    whole = λ g o has in_it. elim (Contains-push_cases (take n files) f g (subst (λ (l : List HeldFile). Contains l g) grown has)) [
      | inl earlier ↦ subst (λ (l : List OldRecord). Contains l o) (sym w.2) (Contains-append_left old (w.0 ∷ []) o (was.whole g o earlier in_it))
      | inr same ↦ subst (λ (l : List OldRecord). Contains l o) (sym w.2) (subst (Contains (old ++ w.0 ∷ [])) (one_old f w.0 o w.1 (subst (λ (x : HeldFile). IsOldIn x o) (sym same) in_it)) (Contains-push old w.0))
    ];
  }
    where
      mine : IsOldAmong held (take (n + 1) files) w.0
      mine = record {
        file = record { good = w.1.good; file = sym (ap held w.1.at) ∙ there ∙ ap (λ (e : Entry). Some e) w.1.is };
        at = subst (λ (l : List (List ℕ)). Contains l (old_path w.0.name)) (sym paths_grown) (subst (Contains (paths_of (take n files) ++ f.0 ∷ [])) w.1.at (Contains-push (paths_of (take n files)) f.0));
      }

      less : AllByRecursion (λ q. slice_cmp nat_cmp q f.0 ≡ Less) (paths_of (take n files))
      less = subst (AllByRecursion (λ q. slice_cmp nat_cmp q f.0 ≡ Less)) (take-map (λ (x : HeldFile). x.0) n files) (less_before (paths_of files) n f.0 (omega (arith, lt, paths_long files)) (path_at files n f is lt) are.listing.ascending)

      less_name : (o : OldRecord) → IsOldAmong held (take n files) o → name_cmp o.name w.0.name ≡ Less
      less_name o a =
          let e : slice_cmp nat_cmp (old_path o.name) (old_path w.0.name) ≡ Less = ap (slice_cmp nat_cmp (old_path o.name)) (sym w.1.at) ∙ each_of (λ q. slice_cmp nat_cmp q f.0 ≡ Less) (paths_of (take n files)) (old_path o.name) less a.at in
          let one = old_named o a.file.good in
          let two = old_named w.0 w.1.good in
          hex_less o.name.bytes w.0.name.bytes one.bytes two.bytes e

      before : (olds : List OldRecord) → AllByRecursion (IsOldAmong held (take n files)) olds → AllByRecursion (λ (x : Candidate). name_cmp x.name (candidate_of w.0).name ≡ Less) (map candidate_of olds)
      before [] all = tt
      before (o ∷ olds) all = (less_name o all.0, before olds all.1)

pub found_all : (held : Store) (files : List HeldFile) (n : ℕ) (found : List OldRecord) → length files ≤ n → AreUnder (codes "rec/") held files → AreSoFar held (take n files) found → AreOldFound held found
found_all held files n found past are was = record {
  ascend = was.ascend;
  each = each_weaker (IsOldAmong held (take n files)) (IsOldFile held) (λ o a. a.file) found was.each;
  whole = λ o file. of o file (file_of files (old_path o.name) (are.listing.all (old_path o.name) (hash_text o.name, refl) (subst IsSome (sym file.file) refl)));
}
  where
    of : (o : OldRecord) → IsOldFile held o → (f : HeldFile) × Contains files f × (f.0 ≡ old_path o.name) → Contains found o
    of o file w =
        let there : Some w.0.1 ≡ Some (old_file o.stored) = sym (each_of (IsFileIn held) files w.0 are.each w.1) ∙ ap held w.2 ∙ file.file in
        let entry : w.0.1 ≡ old_file o.stored = cc in
        was.whole w.0 o (subst (λ (l : List HeldFile). Contains l w.0) (sym (take_all n files past)) w.1) (record { good = file.good; at = w.2; is = entry })
