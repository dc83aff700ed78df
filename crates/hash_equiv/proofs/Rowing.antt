-- Rows by name, by place and by PN.
use Rattle.std.proofs.Common.{◌≡◌, ◌∙◌, sym, ap, refl, ℕ, zero, suc, ◌+◌, ◌<◌, get_or, drop, is_some, Bool, true, false, cond, ◌&&◌, List, [], ◌∷◌, ◌++◌, length, filter, take, slice_get, Option, Some, None, unwrap_or, inl, inr, bytes_eq, append-nil, arith, IsTrue, ◌↔◌, true≢false, subst, String, Global, length-append}
use Rattle.std.specs.Option.{option_map, option_or}
use Rattle.std.proofs.lemmas.List.{length-map, map-append, take_more, take-append-drop}
use Rattle.std.proofs.lemmas.List.Folds.{find-append}
use Rattle.std.specs.Prelude.{find}
use Rattle.std.specs.List.{AllByRecursion}
use Rattle.std.specs.BTreeMap.{BTreeMap}
use Rattle.std.specs.Map.{values_of, lookup, update}
use Rattle.std.proofs.lemmas.List.Elements.{filter_map-append, filter-append}
use Rattle.meta_model.proofs.Bools.{either_way, not_both, same_text, and_left}
use Rattle.tree_model.specs.declared.manifest.ManifestLine.{ManifestLine}
use Rattle.store_model.specs.declared.signature.EquivRow.{EquivRow}
use Rattle.indexmap.specs.IndexMap.{insert_entry}
use Rattle.store_model.specs.Rows.{is_row_for, manifest_eq}
use Rattle.store_model.proofs.Unihashes.{manifest_same, manifest_itself}
use Rattle.hash_equiv.specs.Index.{places_of, rows_at, rows_of, IsIndex}

-- ---- the places of a PN

put_here : (b : Bool) (w f a : List ℕ) → (b ≡ true → w ≡ f ++ a) → cond b w f ≡ f ++ cond b a []
put_here true w f a h = h refl
put_here false w f a h = sym (append-nil f)

at_cond : (b : Bool) (w : List ℕ) (o : Option (List ℕ)) → unwrap_or (cond b (Some w) o) [] ≡ cond b w (unwrap_or o [])
at_cond true w o = refl
at_cond false w o = refl

-- one place more for a PN
pub one_put : (f g : List ℕ → Option (List ℕ)) (k : List ℕ) (a : ℕ) (w : List ℕ) → ((q : List ℕ) → g q ≡ update bytes_eq f k (Some w) q) → w ≡ unwrap_or (f k) [] ++ a ∷ []
    → (t : List ℕ) → unwrap_or (g t) [] ≡ unwrap_or (f t) [] ++ cond (bytes_eq k t) (a ∷ []) []
one_put f g k a w u e t =
    ap (λ o. unwrap_or o []) (u t) ∙ at_cond (bytes_eq k t) w (f t)
    ∙ put_here (bytes_eq k t) w (unwrap_or (f t) []) (a ∷ []) (λ same. e ∙ ap (λ q. unwrap_or (f q) [] ++ a ∷ []) (same_text k t same))

same_value : (b : Bool) (w o : Option (List ℕ)) → (b ≡ true → o ≡ w) → cond b w o ≡ o
same_value true w o h = sym (h refl)
same_value false w o h = refl

-- what a PN has is put there again
pub same_put : (f g : List ℕ → Option (List ℕ)) (k w : List ℕ) → ((q : List ℕ) → g q ≡ update bytes_eq f k (Some w) q) → f k ≡ Some w
    → (t : List ℕ) → unwrap_or (g t) [] ≡ unwrap_or (f t) []
same_put f g k w u e t = ap (λ o. unwrap_or o []) (u t ∙ same_value (bytes_eq k t) (Some w) (f t) (λ same. sym (ap f (same_text k t same)) ∙ e))

-- ---- the row of a name

abbrev pub IsNamed : List ℕ × EquivRow → Type 0
IsNamed e = e.0 ≡ e.1.name.bytes

-- under its name a row is found
pub found_by_name : (test : List ℕ → Bool) (name : List ℕ) → ((k : List ℕ) → test k ≡ bytes_eq k name) → (es : List (List ℕ × EquivRow)) → AllByRecursion IsNamed es
    → lookup test es ≡ find (λ r. bytes_eq r.name.bytes name) (values_of es)
found_by_name test name is [] named = refl
found_by_name test name is (e ∷ es) named =
    λ i. cond ((is e.0 ∙ ap (λ k. bytes_eq k name) named.0) i) (Some e.1) (found_by_name test name is es named.1 i)

-- ---- one row more

get_before : (rows : List EquivRow) (row : EquivRow) (i : ℕ) → i < length rows → slice_get (rows ++ row ∷ []) i ≡ slice_get rows i
get_before [] row i h = absurd (omega (arith, h))
get_before (r ∷ rows) row zero h = refl
get_before (r ∷ rows) row (suc i) h = get_before rows row i (omega (arith, h))

get_last : (rows : List EquivRow) (row : EquivRow) → slice_get (rows ++ row ∷ []) (length rows) ≡ Some row
get_last [] row = refl
get_last (r ∷ rows) row = get_last rows row

at_before : (rows : List EquivRow) (row : EquivRow) (places : List ℕ) → AllByRecursion (λ i. i < length rows) places → rows_at (rows ++ row ∷ []) places ≡ rows_at rows places
at_before rows row [] h = refl
at_before rows row (i ∷ places) h = rw (get_before rows row i h.0, at_before rows row places h.1) refl

at_last : (rows : List EquivRow) (row : EquivRow) (b : Bool) → rows_at (rows ++ row ∷ []) (cond b (length rows ∷ []) []) ≡ cond b (row ∷ []) []
at_last rows row true = rw (get_last rows row) refl
at_last rows row false = refl

kept_last : (pn : List ℕ) (row : EquivRow) → rows_of (row ∷ []) pn ≡ cond (bytes_eq row.pn pn) (row ∷ []) []
kept_last pn row = by (bytes_eq row.pn pn) refl
  where
    by : (b : Bool) → bytes_eq row.pn pn ≡ b → rows_of (row ∷ []) pn ≡ cond (bytes_eq row.pn pn) (row ∷ []) []
    by true e = rw e refl
    by false e = rw e refl

-- with one row more at the end, and its place more for its PN, the places of each PN are those of its rows
pub found_more : (rows : List EquivRow) (row : EquivRow) (places more : List ℕ) (pn : List ℕ) → AllByRecursion (λ i. i < length rows) places
    → rows_at rows places ≡ rows_of rows pn → more ≡ places ++ cond (bytes_eq row.pn pn) (length rows ∷ []) []
    → rows_at (rows ++ row ∷ []) more ≡ rows_of (rows ++ row ∷ []) pn
found_more rows row places more pn within found is =
    ap (rows_at (rows ++ row ∷ [])) is
    ∙ filter_map-append (slice_get (rows ++ row ∷ [])) places (cond (bytes_eq row.pn pn) (length rows ∷ []) [])
    ∙ (λ j. (at_before rows row places within ∙ found) j ++ (at_last rows row (bytes_eq row.pn pn) ∙ sym (kept_last pn row)) j)
    ∙ sym (filter-append (λ r. bytes_eq r.pn pn) rows (row ∷ []))

below_more : (n : ℕ) (places : List ℕ) → AllByRecursion (λ i. i < n) places → AllByRecursion (λ i. i < suc n) places
below_more n [] h = tt
below_more n (i ∷ places) h = (omega (arith, h.0), below_more n places h.1)

below_put : (n : ℕ) (b : Bool) (places : List ℕ) → AllByRecursion (λ i. i < n) places → AllByRecursion (λ i. i < suc n) (places ++ cond b (n ∷ []) [])
below_put n true [] h = (omega arith, tt)
below_put n false [] h = tt
below_put n b (i ∷ places) h = (omega (arith, h.0), below_put n b places h.1)

-- and each place is one
pub within_more : (n m : ℕ) (b : Bool) (places more : List ℕ) → m ≡ suc n → AllByRecursion (λ i. i < n) places → more ≡ places ++ cond b (n ∷ []) [] → AllByRecursion (λ i. i < m) more
within_more n m b places more e h is = rw (e, is) (below_put n b places h)

-- one more entry under its name
pub named_more : (es : List (List ℕ × EquivRow)) (row : EquivRow) → AllByRecursion IsNamed es → AllByRecursion IsNamed (es ++ (row.name.bytes, row) ∷ [])
named_more [] row h = (refl, tt)
named_more (e ∷ es) row h = (h.0, named_more es row h.1)

-- ---- the first row that passes

module _ (p : EquivRow → Bool) (rows : List EquivRow) (places : List ℕ) (i : ℕ) (lt : i < length places) (none : find p (rows_at rows (take i places)) ≡ None) where
  -- after one place more the search has found what that place gives
  pub found_on : find p (rows_at rows (take (i + 1) places)) ≡ find p (rows_at rows (get_or places i 0 ∷ []))
  found_on =
      ap (λ l. find p (rows_at rows l)) (take_more places i 0 lt)
      ∙ ap (find p) (filter_map-append (slice_get rows) (take i places) (get_or places i 0 ∷ []))
      ∙ find-append p (rows_at rows (take i places)) (rows_at rows (get_or places i 0 ∷ []))
      ∙ ap (λ o. option_or o (find p (rows_at rows (get_or places i 0 ∷ [])))) none

  -- and where that is a row, no later place counts
  pub found_whole : (row : EquivRow) → find p (rows_at rows (get_or places i 0 ∷ [])) ≡ Some row → find p (rows_at rows places) ≡ Some row
  found_whole row is =
      ap (λ l. find p (rows_at rows l)) (sym (take-append-drop (i + 1) places))
      ∙ ap (find p) (filter_map-append (slice_get rows) (take (i + 1) places) (drop (i + 1) places))
      ∙ find-append p (rows_at rows (take (i + 1) places)) (rows_at rows (drop (i + 1) places))
      ∙ ap (λ o. option_or o (find p (rows_at rows (drop (i + 1) places)))) (found_on ∙ is)

-- a value that is made from none is none
pub none_made : (o : Option EquivRow) → is_some (option_map (λ r. r.unihash) o) ≡ false → o ≡ None
none_made None e = refl
none_made (Some row) e = absurd (true≢false e)

-- and one that is made from some is made from that
pub some_made : (o whole : Option EquivRow) → is_some (option_map (λ r. r.unihash) o) ≡ true → ((row : EquivRow) → o ≡ Some row → whole ≡ Some row) → option_map (λ r. r.unihash) o ≡ option_map (λ r. r.unihash) whole
some_made None whole e all = absurd (true≢false (sym e))
some_made (Some row) whole e all = sym (ap (option_map (λ r. r.unihash)) (all row refl))

module _ (p q : EquivRow → Bool) (passes : (r : EquivRow) → p r ≡ true → q r ≡ true) where
  -- among those that can pass the same one is first
  pub find_kept : (rows : List EquivRow) → find p (filter q rows) ≡ find p rows
  find_kept [] = refl
  find_kept (r ∷ rows) = by (q r) refl (find_kept rows)
    where
      by : (b : Bool) → q r ≡ b → find p (filter q rows) ≡ find p rows → find p (filter q (r ∷ rows)) ≡ find p (r ∷ rows)
      by true e rest = rw e (ap (cond (p r) (Some r)) rest)
      by false e rest = at_first (p r) refl
        where
          at_first : (c : Bool) → p r ≡ c → find p (filter q (r ∷ rows)) ≡ find p (r ∷ rows)
          at_first true t = not_both (q r) (passes r t) e
          at_first false t = rw (e, t) rest

-- a row for a PN is of that PN
pub of_that_pn : (pn task : List ℕ) (manifest : List ManifestLine) (row : EquivRow) → is_row_for pn task manifest row ≡ true → bytes_eq row.pn pn ≡ true
of_that_pn pn task manifest row t = and_left (bytes_eq row.pn pn) (bytes_eq row.task task && manifest_eq row.manifest manifest) t

-- ---- the index as a whole

-- the same entries and places are an index again
pub index_stays : (es fs : List (List ℕ × EquivRow)) (m n : BTreeMap (String Global) (List ℕ)) → IsIndex es m → fs ≡ es → ((t : List ℕ) → places_of n t ≡ places_of m t) → IsIndex fs n
index_stays es fs m n index same places = record {
  named = subst (AllByRecursion IsNamed) (sym same) index.named;
  found = λ t. rw (same, places t) (index.found t);
  within = λ t. rw (same, places t) (index.within t);
}

-- one row more is in its place
pub index_more : (es fs : List (List ℕ × EquivRow)) (m n : BTreeMap (String Global) (List ℕ)) (row : EquivRow) → IsIndex es m → fs ≡ es ++ (row.name.bytes, row) ∷ []
    → ((t : List ℕ) → places_of n t ≡ places_of m t ++ cond (bytes_eq row.pn t) (length es ∷ []) []) → IsIndex fs n
index_more es fs m n row index is places =
    let rows = values_of es in
    let size : length rows ≡ length es = length-map es (λ e. e.1) in
    let more : values_of fs ≡ rows ++ row ∷ [] = ap values_of is ∙ map-append (λ e. e.1) es ((row.name.bytes, row) ∷ []) in
    let longer : length fs ≡ suc (length es) = ap length is ∙ length-append es ((row.name.bytes, row) ∷ []) ∙ omega arith in
    record {
      named = subst (AllByRecursion IsNamed) (sym is) (named_more es row index.named);
      found = λ t.
          rw more (found_more rows row (places_of m t) (places_of n t) t (subst (λ n. AllByRecursion (λ i. i < n) (places_of m t)) (sym size) (index.within t)) (index.found t)
          (places t ∙ ap (λ n. places_of m t ++ cond (bytes_eq row.pn t) (n ∷ []) []) (sym size)));
      within = λ t. within_more (length es) (length fs) (bytes_eq row.pn t) (places_of m t) (places_of n t) longer (index.within t) (places t);
    }

-- ---- manifests

-- a test that finds equality is that of the definitions
pub told_same : (b : Bool) (xs ys : List ManifestLine) → (IsTrue b ↔ (xs ≡ ys)) → b ≡ manifest_eq xs ys
told_same true xs ys h = sym (subst (λ z. manifest_eq xs z ≡ true) (h.0 refl) (manifest_itself xs))
told_same false xs ys h = elim (either_way (manifest_eq xs ys)) [ inl t ↦ absurd (true≢false (sym (h.1 (manifest_same xs ys t)))) | inr f ↦ sym f ]

-- what is put under a key that isn't there goes last
pub put_last : (eq : List ℕ → List ℕ → Bool) (es fs : List (List ℕ × EquivRow)) (k : List ℕ) (v : EquivRow) → fs ≡ es → lookup (eq k) es ≡ None
    → insert_entry eq fs k v ≡ es ++ (k, v) ∷ []
put_last eq es fs k v same none = ap (λ gs. insert_entry eq gs k v) same ∙ put_at_end es none
  where
    put_at_end : (es : List (List ℕ × EquivRow)) → lookup (eq k) es ≡ None → insert_entry eq es k v ≡ es ++ (k, v) ∷ []
    put_at_end [] none = refl
    put_at_end (e ∷ es) none = at_first (eq k e.0) refl (put_at_end es)
      where
        at_first : (b : Bool) → eq k e.0 ≡ b → (lookup (eq k) es ≡ None → insert_entry eq es k v ≡ es ++ (k, v) ∷ []) → insert_entry eq (e ∷ es) k v ≡ e ∷ es ++ (k, v) ∷ []
        at_first true t rest = let bad : Some e.1 ≡ None = rw t at none in absurd (cc)
        at_first false f rest = rw f (ap (λ l. e ∷ l) (rest (rw f at none)))
