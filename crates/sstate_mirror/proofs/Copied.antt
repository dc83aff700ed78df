-- Objects are copied from a mirror, one after another.
use Rattle.std.proofs.Common.{◌≡◌, ◌≢◌, ◌∙◌, sym, ap, subst, refl, ℕ, suc, ◌+◌, ◌<◌, ◌≤◌, ◌⊎◌, inl, inr, Bool, true, false, List, [], ◌∷◌, ◌++◌, length, get_or, take, All, arith, None, Some, Option}
use Rattle.std.specs.Prelude.{codes, Contains, MatchBool}
use Rattle.std.specs.Option.{is_some}
use Rattle.std.specs.List.{AllByRecursion}
use Rattle.std.proofs.lemmas.Bool.{false≢true}
use Rattle.std.proofs.lemmas.List.{take_all, take_more}
use Rattle.std.proofs.lemmas.List.Elements.{Contains-append_left, Contains-append_right, Contains-push_cases}
use Rattle.std.proofs.Math.Seq.{take-append_seam}
use Rattle.tree_model.specs.declared.entry.Entry.{Entry}
use Rattle.tree_model.specs.declared.hash.Hash.{Hash}
use Rattle.tree_model.specs.declared.manifest.ManifestLine.{ManifestLine}
use Rattle.tree_model.specs.Hash.{hash_text}
use Rattle.tree_model.specs.Path.{IsBelow, inside}
use Rattle.outside_traits.specs.Passes.{Passes, Same}
use Rattle.outside_traits.specs.Store.{AgreesRound, HoldsTree, IsApart, Store, slashes}
use Rattle.outside_traits.specs.Story.{Story}
use Rattle.outside_traits.proofs.Calls.{same_so, same_then}
use Rattle.outside_traits.proofs.Folders.{above_under, under_same}
use Rattle.outside_traits.proofs.Puts.{path_cases}
use Rattle.outside_traits.proofs.Runs.{passes_so, passes_then}
use Rattle.sstate_objects.specs.Matching.{IsMatching}
use Rattle.store_model.specs.Available.{Matches, object_folder}
use Rattle.store_model.specs.declared.signature.EquivRow.{EquivRow}
use Rattle.store_model.specs.Readable.{HasShortPaths}
use Rattle.store_model.specs.Rows.{hash_eq, row_at}
use Rattle.store_model.proofs.Listing.{find_splits}
use Rattle.store_model.proofs.Ordered.{each_weaker}
use Rattle.store_opening.specs.Named.{IsName}
use Rattle.store_opening.proofs.Clean.{hash_is_name, name_slashes, name_text_length, same_digest}
use Rattle.store_opening.proofs.Slashes.{slashes_inside}
use Rattle.record_move.specs.declared.records.MovedRecord.{MovedRecord}
use Rattle.store_upgrade.specs.Steps.{HasManifest, Within}
use Rattle.store_upgrade.proofs.Copied.{matches_now, round_within, short_tree}
use Rattle.sstate_mirror.specs.Copying.{AreCopied, HasObject, HaveOneObject, IsCopy, IsCopyOf, IsCopying, IsNew, PutsOne, PutsUnless, count_with}

-- ---- one object

abbrev Tree : Type 0
Tree = List (List ℕ × Entry)

-- what was read matches
pub is_there : (folder : List ℕ) (lines : List ManifestLine) (held : Store) (tree : Tree) → IsMatching folder lines held (Some tree) → Matches held folder lines
is_there folder lines held tree m = record { tree = tree; is_tree = m.0; holds = m.1.0; manifest = m.1.1 }

pub was_there : (folder : List ℕ) (lines : List ManifestLine) (held : Store) (found : Option Tree) → IsMatching folder lines held found → is_some found ≡ true → Matches held folder lines
was_there folder lines held None m some = absurd (false≢true some)
was_there folder lines held (Some tree) m some = is_there folder lines held tree m

-- the own object matched already
pub copy_none : (from to : List ℕ) (lines : List ManifestLine) (mirror old new : Store) → new ≡ old → Matches old to lines → IsCopy from to lines mirror old new false
copy_none from to lines mirror old new same matched = (same, λ source. matched)

-- the mirror's doesn't match
pub copy_never : (from to : List ℕ) (lines : List ManifestLine) (mirror old new : Store) → new ≡ old → (Matches mirror from lines → ⊥) → IsCopy from to lines mirror old new false
copy_never from to lines mirror old new same never = (same, λ source. absurd (never source))

-- it matches, and was put or is too long
pub copy_put : (from to : List ℕ) (lines : List ManifestLine) (mirror old new : Store) (tree : Tree) (made : Bool) → HasShortPaths lines → IsMatching from lines mirror (Some tree) → (Matches old to lines → ⊥)
    → MatchBool made (HoldsTree to tree new) ((All (λ e. length e.0 ≤ 3072) tree → ⊥) × (new ≡ old)) → IsCopy from to lines mirror old new made
copy_put from to lines mirror old new tree true short m never put = (is_there from lines mirror tree m, (never, matches_now to lines tree new (m.0, m.1.1) put))
copy_put from to lines mirror old new tree false short m never put = absurd (put.0 (short_tree lines tree m.1.1 short))

pub puts_same : (folder : List ℕ) (lines : List ManifestLine) (a b : Story) → Passes a b Same → Passes a b (PutsUnless folder lines a.held)
puts_same folder lines a b run = same_so (PutsUnless folder lines a.held) (λ i. inl refl) run

pub puts_round : (folder : List ℕ) (lines : List ManifestLine) (a b c : Story) → Passes a b Same → Passes b c (AgreesRound folder b.held) → (Matches a.held folder lines → ⊥) → Passes a c (PutsUnless folder lines a.held)
puts_round folder lines a b c one two never =
    same_then (λ i. inl refl) one (passes_so (PutsUnless folder lines a.held) two (λ i k round. inr (subst (λ (h : Store). AgreesRound folder h i k) one.held round, never)))

-- ---- objects of other names stay

module _ (a b : Hash) (na : IsName a) (nb : IsName b) (ne : a ≢ b) where
  texts_differ : hash_text a ≢ hash_text b
  texts_differ e = ne (same_digest a b na nb e)

  below_never : (x : Hash) → IsName x → (path : List ℕ) → hash_text x ≡ path → 0 < slashes path → ⊥
  below_never x nx path e more = let none = name_slashes x nx in let same = ap slashes e in omega (arith, none, same, more)

  folder_apart : IsApart (object_folder a) (object_folder b)
  folder_apart = record {
    not_folder = λ e. texts_differ (sym (under_same (codes "obj") (hash_text b) (hash_text a) e));
    not_above = λ up. below_never a na (inside (hash_text b) up.0) (under_same (codes "obj") (hash_text a) (inside (hash_text b) up.0) up.1) (let s = slashes_inside (hash_text b) up.0 in omega (arith, s));
    not_under = λ down. below_never b nb (inside (hash_text a) down.0) (under_same (codes "obj") (hash_text b) (inside (hash_text a) down.0) down.1) (let s = slashes_inside (hash_text a) down.0 in omega (arith, s));
  }

  entry_apart : (path : List ℕ) → IsApart (object_folder a) (inside (object_folder b) path)
  entry_apart path = record {
    not_folder = λ e. below_never a na (inside (hash_text b) path) (sym (under_same (codes "obj") (inside (hash_text b) path) (hash_text a) e)) (let s = slashes_inside (hash_text b) path in omega (arith, s));
    not_above = λ up. below_never a na (inside (inside (hash_text b) path) up.0) (under_same (codes "obj") (hash_text a) (inside (inside (hash_text b) path) up.0) up.1) (let s = slashes_inside (inside (hash_text b) path) up.0 in omega (arith, s));
    not_under = λ down. under down.0 (under_same (codes "obj") (inside (hash_text b) path) (inside (hash_text a) down.0) down.1);
  }
    where
      under : (rest : List ℕ) → inside (hash_text b) path ≡ inside (hash_text a) rest → ⊥
      under rest e =
          let la = name_text_length a na in
          let lb = name_text_length b nb in
          let long : length (hash_text b) ≡ length (hash_text a) = omega (arith, la, lb) in
          texts_differ (sym (sym (take-append_seam (hash_text b) (47 ∷ path)) ∙ (λ i. take (long i) (e i)) ∙ take-append_seam (hash_text a) (47 ∷ rest)))

  -- what is above an object's folder is `obj` alone
  above_object : (now : Store) → now (codes "obj") ≡ None → (q : List ℕ) → IsBelow q (object_folder b) → now q ≡ None
  above_object now none q up = by (above_under (codes "obj") (hash_text b) q up)
    where
      by : IsBelow q (codes "obj") ⊎ ((q ≡ codes "obj") ⊎ ((r : List ℕ) × (q ≡ inside (codes "obj") r) × IsBelow r (hash_text b))) → now q ≡ None
      by (inl over) = absurd (let s = slashes_inside q over.0 in let e = ap slashes over.1 in omega (arith, s, e))
      by (inr (inl same)) = ap now same ∙ none
      by (inr (inr w)) = absurd (below_never b nb (inside w.0 w.2.0) w.2.1 (let s = slashes_inside w.0 w.2.0 in omega (arith, s)))

  -- an object of another name stays, where nothing is at `obj`
  pub object_stays : (held i k : Store) (lines : List ManifestLine) → AgreesRound (object_folder a) held i k → held (codes "obj") ≡ None → Matches i (object_folder b) lines → Matches k (object_folder b) lines
  object_stays held i k lines round way m = record {
    tree = m.tree;
    is_tree = m.is_tree;
    holds = record {
      entries = λ path. round.apart (inside (object_folder b) path) (entry_apart path) ∙ m.holds.entries path;
      outside = record {
        at = round.apart (object_folder b) folder_apart ∙ m.holds.outside.at;
        above = above_object k (round.around (codes "obj") (inr (hash_text a, refl)) way ∙ m.holds.outside.above (codes "obj") (hash_text b, refl));
      };
    };
    manifest = m.manifest;
  }

  -- ... and was there before
  pub object_was : (mid now : Store) (lines : List ManifestLine) → AgreesRound (object_folder a) mid mid now → mid (codes "obj") ≡ None → Matches now (object_folder b) lines → Matches mid (object_folder b) lines
  object_was mid now lines round way m = record {
    tree = m.tree;
    is_tree = m.is_tree;
    holds = record {
      entries = λ path. sym (round.apart (inside (object_folder b) path) (entry_apart path)) ∙ m.holds.entries path;
      outside = record { at = sym (round.apart (object_folder b) folder_apart) ∙ m.holds.outside.at; above = above_object mid way };
    };
    manifest = m.manifest;
  }

-- ---- rows

-- a row that is found is one of them
pub found_row : (rows : List EquivRow) (name : Hash) (row : EquivRow) → row_at rows name ≡ Some row → Contains rows row
found_row rows name row found =
    let s = find_splits (λ (r : EquivRow). hash_eq r.name name) rows row found in
    subst (λ (l : List EquivRow). Contains l row) (sym s.0.is) (Contains-append_right s.0.front (row ∷ s.0.rest) row (0, omega arith, refl))

pub one_row : (rows : List EquivRow) (name : Hash) (row other : EquivRow) → row_at rows name ≡ Some row → row_at rows name ≡ Some other → row ≡ other
one_row rows name row other e f = let g : Some row ≡ Some other = sym e ∙ f in cc

hash_cases : (a b : Hash) → (a ≡ b) ⊎ (a ≢ b)
hash_cases a b = elim (path_cases a.bytes b.bytes) [
  | inl same ↦ inl (λ i. record { bytes = same i })
  | inr other ↦ inr (λ e. other (ap (λ (h : Hash). h.bytes) e))
]

-- ---- one step

module _ (rows : List EquivRow) (one : HaveOneObject rows) where
  named : (row : EquivRow) → Contains rows row → IsName row.unihash
  named row has = hash_is_name row.unihash (one.hashes row has)

  -- where an object is put that didn't match, all that matched match still
  round_keeps : (row : EquivRow) → Contains rows row → (held i k : Store) → AgreesRound (object_folder row.unihash) held i k → (HasObject held row → ⊥) → held (codes "obj") ≡ None
      → (r : EquivRow) → Contains rows r → HasObject held r → HasObject i r → HasObject k r
  round_keeps row among held i k round never way r has matched m = elim (hash_cases row.unihash r.unihash) [
    | inl same ↦ absurd (never (subst (λ (u : Hash). Matches held (object_folder u) row.manifest) (sym same) (subst (Matches held (object_folder r.unihash)) (sym (one.one row r among has same)) matched)))
    | inr other ↦ object_stays row.unihash r.unihash (named row among) (named r has) other held i k r.manifest round way m
  ]

  one_keeps : (m : MovedRecord) (held i k : Store) → PutsOne rows m held i k → held (codes "obj") ≡ None → (r : EquivRow) → Contains rows r → HasObject held r → HasObject i r → HasObject k r
  one_keeps m held i k (inl same) way r has matched there = subst (λ (h : Store). HasObject h r) (sym same) there
  one_keeps m held i k (inr (row, manifest, inl same)) way r has matched there = subst (λ (h : Store). HasObject h r) (sym same) there
  one_keeps m held i k (inr (row, manifest, inr (round, never))) way r has matched there =
      round_keeps row (found_row rows m.name row manifest.is_row) held i k round never way r has matched there

-- nothing but objects changes
one_within : (rows : List EquivRow) (m : MovedRecord) (held i k : Store) → PutsOne rows m held i k → Within (codes "obj") i k
one_within rows m held i k (inl same) = record { others = λ q never. ap (λ (h : Store). h q) same }
one_within rows m held i k (inr (row, manifest, inl same)) = record { others = λ q never. ap (λ (h : Store). h q) same }
one_within rows m held i k (inr (row, manifest, inr (round, never))) = round_within row.unihash held i k round

-- `obj` stays free
pub way_stays : (rows : List EquivRow) (m : MovedRecord) (held now : Store) → PutsOne rows m held held now → held (codes "obj") ≡ None → now (codes "obj") ≡ None
way_stays rows m held now (inl same) way = ap (λ (h : Store). h (codes "obj")) same ∙ way
way_stays rows m held now (inr (row, manifest, inl same)) way = ap (λ (h : Store). h (codes "obj")) same ∙ way
way_stays rows m held now (inr (row, manifest, inr (round, never))) way = round.around (codes "obj") (inr (hash_text row.unihash, refl)) way ∙ way

pub copying_start : (rows : List EquivRow) (held : Store) → IsCopying rows held held
copying_start rows held = record { others = λ q never. refl; kept = λ one row has matched. matched }

pub copying_more : (rows : List EquivRow) (m : MovedRecord) (start held i k : Store) → IsCopying rows start held → held (codes "obj") ≡ None → IsCopying rows start i → PutsOne rows m held i k → IsCopying rows start k
copying_more rows m start held i k now way was puts = record {
  others = λ q never. (one_within rows m held i k puts).others q never ∙ was.others q never;
  kept = λ one row has matched. one_keeps rows one m held i k puts way row has (now.kept one row has matched) (was.kept one row has matched);
}

pub copying_run : (rows : List EquivRow) (m : MovedRecord) (start : Store) (a b c : Story) → b.held (codes "obj") ≡ None → Passes a b (λ i k. IsCopying rows start k) → Passes b c (PutsOne rows m b.held) → Passes a c (λ i k. IsCopying rows start k)
copying_run rows m start a b c way first second = passes_then (λ i k. IsCopying rows start k) first second (λ i j p. p) (λ i j k p puts. copying_more rows m start b.held j k first.held way p puts)

-- ---- lists that grow

pub last_of : {A : Type 0} (xs : List A) (n : ℕ) (a b : A) → n < length xs → a ≡ get_or xs n a → Contains (take (n + 1) xs) b → Contains (take n xs) b ⊎ (a ≡ b)
last_of {A} xs n a b lt is has =
    let grown : take (n + 1) xs ≡ take n xs ++ a ∷ [] = take_more xs n a lt ∙ ap (λ (x : A). take n xs ++ x ∷ []) (sym is) in
    Contains-push_cases (take n xs) a b (subst (λ (l : List A). Contains l b) grown has)

front_of : {A : Type 0} (xs : List A) (n : ℕ) (a b : A) → n < length xs → a ≡ get_or xs n a → Contains (take n xs) b → Contains (take (n + 1) xs) b
front_of {A} xs n a b lt is has =
    let grown : take (n + 1) xs ≡ take n xs ++ a ∷ [] = take_more xs n a lt ∙ ap (λ (x : A). take n xs ++ x ∷ []) (sym is) in
    subst (λ (l : List A). Contains l b) (sym grown) (Contains-append_left (take n xs) (a ∷ []) b has)

end_of : {A : Type 0} (xs : List A) (n : ℕ) (a : A) → n < length xs → a ≡ get_or xs n a → Contains (take (n + 1) xs) a
end_of {A} xs n a lt is =
    let grown : take (n + 1) xs ≡ take n xs ++ a ∷ [] = take_more xs n a lt ∙ ap (λ (x : A). take n xs ++ x ∷ []) (sym is) in
    subst (λ (l : List A). Contains l a) (sym grown) (Contains-append_right (take n xs) (a ∷ []) a (0, omega arith, refl))

later_has : {A : Type 0} (x : A) (xs : List A) (y : A) → Contains xs y → Contains (x ∷ xs) y
later_has x xs y has = (suc has.0, (let lt = has.1 in omega (arith, lt)), has.2)

-- what holds of each item that is among them
each_so : {A : Type 0} (P Q : A → Type 0) (xs : List A) → ((x : A) → Contains xs x → P x → Q x) → AllByRecursion P xs → AllByRecursion Q xs
each_so P Q [] so all = tt
each_so P Q (x ∷ xs) so all = (so x (0, omega arith, refl) all.0, each_so P Q xs (λ y has. so y (later_has x xs y has)) all.1)

-- ---- how many were copied

pub copied_start : (rows : List EquivRow) (records : List MovedRecord) (mirror held : Store) → AreCopied rows (take 0 records) mirror held held 0
copied_start rows records mirror held = record {
  copied = [];
  many = refl;
  each = tt;
  apart = tt;
  there = λ m row has manifest source. absurd (let lt = has.1 in omega (arith, lt));
  whole = λ row has matched. inl matched;
}

module _ (rows : List EquivRow) (one : HaveOneObject rows) (records : List MovedRecord) (n : ℕ) (m : MovedRecord) (lt : n < length records) (is : m ≡ get_or records n m)
    (mirror start mid now : Store) (way : mid (codes "obj") ≡ None) (sofar : IsCopying rows start mid) (count : ℕ) (was : AreCopied rows (take n records) mirror start mid count) where
  -- nothing changed
  same_copied : now ≡ mid → ((row : EquivRow) → HasManifest rows m row → Matches mirror (object_folder m.old_unihash) row.manifest → HasObject mid row) → AreCopied rows (take (n + 1) records) mirror start now count
  same_copied same here = record {
    copied = was.copied;
    many = was.many;
    each = each_weaker (IsNew rows (take n records) mirror start mid) (IsNew rows (take (n + 1) records) mirror start now)
        (λ row w. record { m = w.m; among = front_of records n m w.m lt is w.among; manifest = w.manifest; source = w.source; was_not = w.was_not; is = subst (λ (h : Store). HasObject h row) (sym same) w.is }) was.copied was.each;
    apart = was.apart;
    there = λ x row has manifest source. subst (λ (h : Store). HasObject h row) (sym same) (elim (last_of records n m x lt is has) [
      | inl earlier ↦ was.there x row earlier manifest source
      | inr last ↦ here row (subst (λ (y : MovedRecord). HasManifest rows y row) (sym last) manifest) (subst (λ (y : MovedRecord). Matches mirror (object_folder y.old_unihash) row.manifest) (sym last) source)
    ]);
    whole = λ row has matched. was.whole row has (subst (λ (h : Store). HasObject h row) same matched);
  }

  module _ (row : EquivRow) (manifest : HasManifest rows m row) (source : Matches mirror (object_folder m.old_unihash) row.manifest) (never : HasObject mid row → ⊥) (here : HasObject now row)
      (round : AgreesRound (object_folder row.unihash) mid mid now) where
    among : Contains rows row
    among = found_row rows m.name row manifest.is_row

    new_here : IsNew rows (take (n + 1) records) mirror start now row
    new_here = record { m = m; among = end_of records n m lt is; manifest = manifest; source = source; was_not = λ matched. never (sofar.kept one row among matched); is = here }

    -- an object that was copied before is another one
    other_object : (r : EquivRow) → IsNew rows (take n records) mirror start mid r → row.unihash ≢ r.unihash
    other_object r w same =
        let there : Contains rows r = found_row rows w.m.name r w.manifest.is_row in
        never (subst (λ (u : Hash). Matches mid (object_folder u) row.manifest) (sym same) (subst (Matches mid (object_folder r.unihash)) (sym (one.one row r among there same)) w.is))

    stays : (r : EquivRow) → Contains rows r → HasObject mid r → HasObject now r
    stays r has matched = round_keeps rows one row among mid mid now round never way r has matched matched

    new_stays : (r : EquivRow) → IsNew rows (take n records) mirror start mid r → IsNew rows (take (n + 1) records) mirror start now r
    new_stays r w = record { m = w.m; among = front_of records n m w.m lt is w.among; manifest = w.manifest; source = w.source; was_not = w.was_not; is = stays r (found_row rows w.m.name r w.manifest.is_row) w.is }

    new_copied : AreCopied rows (take (n + 1) records) mirror start now (count + 1)
    new_copied = record {
      copied = row ∷ was.copied;
      many = (let e = was.many in omega (arith, e));
      each = (new_here, each_weaker (IsNew rows (take n records) mirror start mid) (IsNew rows (take (n + 1) records) mirror start now) new_stays was.copied was.each);
      apart = (each_weaker (IsNew rows (take n records) mirror start mid) (λ (r : EquivRow). row.unihash ≢ r.unihash) other_object was.copied was.each, was.apart);
      there = λ x r has manifest' source'. elim (last_of records n m x lt is has) [
        | inl earlier ↦ stays r (found_row rows x.name r manifest'.is_row) (was.there x r earlier manifest' source')
        | inr last ↦ subst (HasObject now) (one_row rows m.name row r manifest.is_row (subst (λ (y : MovedRecord). row_at rows y.name ≡ Some r) (sym last) manifest'.is_row)) here
      ];
      whole = λ r has matched. elim (hash_cases row.unihash r.unihash) [
        | inl same ↦ inr (row, (0, omega arith, refl), same)
        | inr other ↦ elim (was.whole r has (object_was row.unihash r.unihash (named rows one row among) (named rows one r has) other mid now r.manifest round way matched)) [
          | inl before ↦ inl before
          | inr w ↦ inr (w.0, later_has row was.copied w.0 w.1, w.2)
        ]
      ];
    }

  -- the round of what was put
  put_round : (row : EquivRow) → HasManifest rows m row → PutsOne rows m mid mid now → (HasObject mid row → ⊥) → HasObject now row → AgreesRound (object_folder row.unihash) mid mid now
  put_round row manifest (inl same) never here = absurd (never (subst (λ (h : Store). HasObject h row) same here))
  put_round row manifest (inr (r, manifest', inl same)) never here = absurd (never (subst (λ (h : Store). HasObject h row) same here))
  put_round row manifest (inr (r, manifest', inr (round, apart))) never here = subst (λ (x : EquivRow). AgreesRound (object_folder x.unihash) mid mid now) (one_row rows m.name r row manifest'.is_row manifest.is_row) round

  pub copied_more : (copied : Bool) → IsCopyOf rows m mirror mid now copied → PutsOne rows m mid mid now → AreCopied rows (take (n + 1) records) mirror start now (count_with copied count)
  copied_more true (inl (row, manifest, (source, (never, here)))) puts = new_copied row manifest source never here (put_round row manifest puts never here)
  copied_more false (inl (row, manifest, (same, so))) puts =
      same_copied same (λ r manifest' source. subst (HasObject mid) (one_row rows m.name row r manifest.is_row manifest'.is_row) (so (subst (λ (x : EquivRow). Matches mirror (object_folder m.old_unihash) x.manifest) (one_row rows m.name r row manifest'.is_row manifest.is_row) source)))
  copied_more copied (inr (none, (same, off))) puts = subst (λ (b : Bool). AreCopied rows (take (n + 1) records) mirror start now (count_with b count)) (sym off) (same_copied same (λ r manifest' source. absurd (none r manifest')))

pub copied_all : (rows : List EquivRow) (records : List MovedRecord) (n : ℕ) (mirror held now : Store) (count : ℕ) → length records ≤ n → AreCopied rows (take n records) mirror held now count → AreCopied rows records mirror held now count
copied_all rows records n mirror held now count past was = subst (λ (l : List MovedRecord). AreCopied rows l mirror held now count) (take_all n records past) was

-- no more are counted than were gone through
pub count_few : (copied : Bool) (count now n : ℕ) → now ≡ count_with copied count → count ≤ n → now ≤ n + 1
count_few true count now n is few = omega (arith, is, few)
count_few false count now n is few = omega (arith, is, few)

-- where none is counted none was, and it was not copied
pub count_none : (copied : Bool) (count now : ℕ) → now ≡ count_with copied count → now ≡ 0 → (count ≡ 0) × (copied ≡ false)
count_none true count now is none = absurd (omega (arith, is, none))
count_none false count now is none = (sym is ∙ none, refl)
