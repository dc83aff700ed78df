-- What is found under `rec2/`.
use Rattle.std.proofs.Common.{◌≡◌, ◌∙◌, sym, ap, subst, refl, ℕ, zero, suc, ◌+◌, ◌<◌, ◌≤◌, ◌⊎◌, inl, inr, List, [], ◌∷◌, ◌++◌, length, arith, get_or, take, AllPairs, Option, None, Some, false, IfNone, IfSome, length-append}
use Rattle.std.specs.Prelude.{codes, Contains, IsSome, slice_get}
use Rattle.std.specs.Option.{is_some}
use Rattle.std.specs.List.{AllByRecursion}
use Rattle.std.specs.List.Sorted.{IsStrictlySortedBy}
use Rattle.std.specs.Ordering.{nat_cmp}
use Rattle.std.specs.Cmp.Lexicographic.{slice_cmp}
use Rattle.std.specs.declared.cmp.Ordering.TheVariants.{Less}
use Rattle.std.proofs.lemmas.Bool.{cases_eq, false≢true}
use Rattle.std.proofs.lemmas.List.{get_or_append_left, map-append, take_all, take_more}
use Rattle.std.proofs.lemmas.List.Elements.{All-from_recursion, Contains-append_left, Contains-push, Contains-push_cases}
use Rattle.std.proofs.lemmas.Option.{get_or_from_slice_get, slice_get-get_or}
use Rattle.std.proofs.Math.Seq.{get_or-append_seam}
use Rattle.tree_model.specs.declared.entry.Entry.{Entry}
use Rattle.tree_model.specs.declared.entry.Entry.TheVariants.{File}
use Rattle.tree_model.specs.Path.{BeginsWith, inside}
use Rattle.tree_model.specs.Hash.{hash_text}
use Rattle.outside_traits.specs.Store.{IsListing, Store}
use Rattle.store_model.specs.Spelling.{short_bytes, short_name, short_record, whole_text}
use Rattle.store_model.specs.declared.signature.ShortStored.{ShortStored}
use Rattle.store_model.specs.Stored.{SpellsShort}
use Rattle.tree_model.specs.declared.hash.Hash.{Hash}
use Rattle.store_model.proofs.Ordered.{each_append, each_weaker}
use Rattle.sig_gen.proofs.ShortLaws.{short_stored_again}
use Rattle.store_model.specs.declared.candidate.Candidate.{Candidate}
use Rattle.store_model.specs.Believed.{Ascend, IsAmong, IsBelievedWithin, name_cmp}
use Rattle.store_opening.specs.declared.records.Found.{Found}
use Rattle.store_model.specs.Opened.{HoldsKey, IsBelievedRecord, IsLeft, IsRecordFile}
use Rattle.store_model.specs.Paths.{key_path, record_path}
use Rattle.store_model.specs.Publication.{short_file}
use Rattle.store_opening.specs.Survey.{AreKeys, AreRead, AreRecords, AreUnder, HasNoRecord, HasRead, HeldFile, IsFileIn, IsFoundIn, IsGood, IsKeyIn, IsSurveyed, Rejects, StandsAmong, Takes, Visits, paths_of}
use Rattle.store_opening.proofs.Areas.{differ, heads_differ}
use Rattle.store_opening.proofs.Hexed.{records_in_order, same_short_text}

-- ---- lists

pub pairs_push : {A : Type 0} (R : A → A → Type 0) (xs : List A) (y : A) → AllPairs R xs → AllByRecursion (λ x. R x y) xs → AllPairs R (xs ++ y ∷ [])
pairs_push {A} R xs y pairs all i j d lt within =
    let len : length (xs ++ y ∷ []) ≡ length xs + 1 = length-append xs (y ∷ []) in
    elim (cases_eq j (length xs)) [
      | inl same ↦
          let first : get_or (xs ++ y ∷ []) i d ≡ get_or xs i d = get_or_append_left xs (y ∷ []) d i (omega arith) in
          let last : get_or (xs ++ y ∷ []) j d ≡ y = ap (λ (n : ℕ). get_or (xs ++ y ∷ []) n d) same ∙ get_or-append_seam xs y [] d in
          let P : A → Type 0 = λ a. R a (get_or (xs ++ y ∷ []) j d) in
          let Q : A → Type 0 = λ b. R (get_or xs i d) b in
          subst P (sym first) (subst Q (sym last) (All-from_recursion (λ x. R x y) xs all i d (omega arith)))
      | inr other ↦
          let first : get_or (xs ++ y ∷ []) i d ≡ get_or xs i d = get_or_append_left xs (y ∷ []) d i (omega arith) in
          let second : get_or (xs ++ y ∷ []) j d ≡ get_or xs j d = get_or_append_left xs (y ∷ []) d j (omega arith) in
          let P : A → Type 0 = λ a. R a (get_or (xs ++ y ∷ []) j d) in
          let Q : A → Type 0 = λ b. R (get_or xs i d) b in
          subst P (sym first) (subst Q (sym second) (pairs i j d lt (omega arith)))
    ]

-- what comes before a path of an ascending list is less
pub less_before : (paths : List (List ℕ)) (n : ℕ) (path : List ℕ) → n < length paths → path ≡ get_or paths n path → IsStrictlySortedBy (slice_cmp nat_cmp) paths → AllByRecursion (λ q. slice_cmp nat_cmp q path ≡ Less) (take n paths)
unfolding IsStrictlySortedBy
less_before [] n path lt is sorted = absurd (omega (arith, lt))
less_before (x ∷ xs) zero path lt is sorted = tt
less_before (x ∷ xs) (suc n) path lt is sorted =
    (subst (λ (p : List ℕ). slice_cmp nat_cmp x p ≡ Less) (sym is) (All-from_recursion (λ y. slice_cmp nat_cmp x y ≡ Less) xs sorted.0 n path (omega (arith, lt))), less_before xs n path (omega (arith, lt)) is sorted.1)

pub each_of : {A : Type 0} (P : A → Type 0) (xs : List A) (x : A) → AllByRecursion P xs → Contains xs x → P x
each_of P xs x all has = subst P has.2 (All-from_recursion P xs all has.0 x has.1)

-- ---- keys that were read

-- which of some files has this path
pub file_of : (files : List HeldFile) (path : List ℕ) → Contains (paths_of files) path → (f : HeldFile) × Contains files f × (f.0 ≡ path)
file_of [] path has = absurd (let lt = has.1 in omega (arith, lt))
file_of (x ∷ files) path (zero, lt, is) = (x, (zero, omega arith, refl), is)
file_of (x ∷ files) path (suc k, lt, is) = let f = file_of files path (k, omega (arith, lt), is) in (f.0, (suc f.1.0, (let l = f.1.1 in omega (arith, l)), f.1.2), f.2)

pub key_holds : (held : Store) (files : List HeldFile) (name : Hash) (key : List ℕ) → AreKeys held files → IsKeyIn files name key → HoldsKey held name key
key_holds held files name key are k = record { file = each_of (IsFileIn held) files (key_path name, File false key) are.each k.among; digest = k.digest }

pub key_found : (held : Store) (files : List HeldFile) (name : Hash) (key : List ℕ) → AreKeys held files → HoldsKey held name key → IsKeyIn files name key
key_found held files name key are k =
    let listed = are.listing.all (key_path name) (hash_text name, refl) (subst IsSome (sym k.file) refl) in
    let f = file_of files (key_path name) listed in
    let there : held f.0.0 ≡ Some f.0.1 = each_of (IsFileIn held) files f.0 are.each f.1 in
    let entry : Some f.0.1 ≡ Some (File false key) = sym there ∙ ap held f.2 ∙ k.file in
    let one : f.0.1 ≡ File false key = cc in
    record { among = subst (Contains files) (λ i. (f.2 i, one i)) f.1; digest = k.digest }

-- ---- one path more

module _ (held : Store) (keys : List HeldFile) (are_keys : AreKeys held keys) (seen : List (List ℕ)) (path : List ℕ) (less : AllByRecursion (λ q. slice_cmp nat_cmp q path ≡ Less) seen) (found next : Found) (was : IsSurveyed held seen found) where
  abbrev More : List (List ℕ)
  More = seen ++ path ∷ []

  further : (c : Candidate) → StandsAmong held seen c → StandsAmong held More c
  further c s = record { file = s.file; at = Contains-append_left seen (path ∷ []) (record_path c.name) s.at }

  at_path : Contains More path
  at_path = Contains-push seen path

  file_at : (entry : Entry) → held path ≡ Some entry → (c : Candidate) → IsRecordFile held c → path ≡ record_path c.name → entry ≡ short_file c.stored
  file_at entry at c file is = let e : Some entry ≡ Some (short_file c.stored) = sym at ∙ ap held is ∙ file.file in cc

  takes : (entry : Entry) → held path ≡ Some entry → Takes keys path entry found next → IsSurveyed held More next
  takes entry at t =
      let c = t.candidate in
      let file : IsRecordFile held c = record { file = sym (ap held t.stands) ∙ at ∙ ap (λ e. Some e) t.is; name = t.good.name; spelled = t.good.spelled; short = t.good.short; key = t.good.key; key_held = key_holds held keys c.stored.sig.key t.good.key are_keys t.good.key_in; text = t.good.text } in
      record {
        ascend = subst Ascend (sym t.candidates) (pairs_push (λ a b. name_cmp a.name b.name ≡ Less) found.candidates.items c was.ascend (each_weaker (StandsAmong held seen) (λ x. name_cmp x.name c.name ≡ Less) (before c t.stands t.good.name) found.candidates.items was.each));
        each = subst (AllByRecursion (StandsAmong held More)) (sym t.candidates)
            (each_append (StandsAmong held More) found.candidates.items (c ∷ []) (each_weaker (StandsAmong held seen) (StandsAmong held More) further found.candidates.items was.each)
            (record { file = file; at = subst (Contains More) t.stands at_path }, tt));
        rejected = λ q has. let w = was.rejected q (subst (λ (l : List (List ℕ)). Contains l q) t.rejected has) in (Contains-append_left seen (path ∷ []) q w.0, w.1);
        whole = λ q has. by q (Contains-push_cases seen path q has);
      }
    where
      before : (c : Candidate) → path ≡ record_path c.name → c.name ≡ short_name c.stored.sig → (x : Candidate) → StandsAmong held seen x → name_cmp x.name c.name ≡ Less
      before c stands name x s =
          let lt : slice_cmp nat_cmp (record_path x.name) path ≡ Less = each_of (λ q. slice_cmp nat_cmp q path ≡ Less) seen (record_path x.name) less s.at in
          let e : slice_cmp nat_cmp (record_path (short_name x.stored.sig)) (record_path (short_name c.stored.sig)) ≡ Less =
          ap (λ n. slice_cmp nat_cmp (record_path n) (record_path (short_name c.stored.sig))) (sym s.file.name) ∙ ap (λ n. slice_cmp nat_cmp (record_path x.name) (record_path n)) (sym name) ∙ ap (λ p. slice_cmp nat_cmp (record_path x.name) p) (sym stands) ∙ lt in
          ap (λ n. name_cmp n c.name) s.file.name ∙ ap (λ n. name_cmp (short_name x.stored.sig) n) name ∙ records_in_order x.stored.sig c.stored.sig e

      by : (q : List ℕ) → Contains seen q ⊎ (path ≡ q) → Contains next.rejected.items q ⊎ ((c : Candidate) × Contains next.candidates.items c × (q ≡ record_path c.name))
      by q (inl s) = by_old (was.whole q s)
        where
          by_old : Contains found.rejected.items q ⊎ ((c : Candidate) × Contains found.candidates.items c × (q ≡ record_path c.name)) → Contains next.rejected.items q ⊎ ((c : Candidate) × Contains next.candidates.items c × (q ≡ record_path c.name))
          by_old (inl r) = inl (subst (λ (l : List (List ℕ)). Contains l q) (sym t.rejected) r)
          by_old (inr w) = inr (w.0, subst (λ (l : List Candidate). Contains l w.0) (sym t.candidates) (Contains-append_left found.candidates.items (t.candidate ∷ []) w.0 w.1), w.2)
      by q (inr e) = inr (t.candidate, subst (λ (l : List Candidate). Contains l t.candidate) (sym t.candidates) (Contains-push found.candidates.items t.candidate), sym e ∙ t.stands)

  rejects : (entry : Entry) → held path ≡ Some entry → Rejects keys path entry found next → IsSurveyed held More next
  rejects entry at r = record {
    ascend = subst Ascend (sym r.candidates) was.ascend;
    each = subst (AllByRecursion (StandsAmong held More)) (sym r.candidates) (each_weaker (StandsAmong held seen) (StandsAmong held More) further found.candidates.items was.each);
    rejected = λ q has. by_new q (Contains-push_cases found.rejected.items path q (subst (λ (l : List (List ℕ)). Contains l q) r.rejected has));
    whole = λ q has. by q (Contains-push_cases seen path q has);
  }
    where
      by_new : (q : List ℕ) → Contains found.rejected.items q ⊎ (path ≡ q) → Contains More q × HasNoRecord held q
      by_new q (inl o) = let w = was.rejected q o in (Contains-append_left seen (path ∷ []) q w.0, w.1)
      by_new q (inr e) = (subst (Contains More) e at_path, λ c file is. r.none c (record { name = file.name; spelled = file.spelled; short = file.short; key = file.key; key_in = key_found held keys c.stored.sig.key file.key are_keys file.key_held; text = file.text }) (e ∙ is) (file_at entry at c file (e ∙ is)))

      by : (q : List ℕ) → Contains seen q ⊎ (path ≡ q) → Contains next.rejected.items q ⊎ ((c : Candidate) × Contains next.candidates.items c × (q ≡ record_path c.name))
      by q (inl s) = by_old (was.whole q s)
        where
          by_old : Contains found.rejected.items q ⊎ ((c : Candidate) × Contains found.candidates.items c × (q ≡ record_path c.name)) → Contains next.rejected.items q ⊎ ((c : Candidate) × Contains next.candidates.items c × (q ≡ record_path c.name))
          by_old (inl o) = inl (subst (λ (l : List (List ℕ)). Contains l q) (sym r.rejected) (Contains-append_left found.rejected.items (path ∷ []) q o))
          by_old (inr w) = inr (w.0, subst (λ (l : List Candidate). Contains l w.0) (sym r.candidates) w.1, w.2)
      by q (inr e) = inl (subst (λ (l : List (List ℕ)). Contains l q) (sym r.rejected) (subst (Contains (found.rejected.items ++ path ∷ [])) e (Contains-push found.rejected.items path)))

  visited : (entry : Entry) → held path ≡ Some entry → Visits keys path entry found next → IsSurveyed held More next
  visited entry at (inl t) = takes entry at t
  visited entry at (inr r) = rejects entry at r

-- ---- the files of a listing

path_at : (files : List HeldFile) (n : ℕ) (f : HeldFile) → n < length files → f ≡ get_or files n f → get_or (paths_of files) n f.0 ≡ f.0
path_at [] n f lt is = absurd (omega (arith, lt))
path_at (x ∷ files) zero f lt is = ap (λ (g : HeldFile). g.0) (sym is)
path_at (x ∷ files) (suc n) f lt is = path_at files n f (omega (arith, lt)) is

as_many : (files : List HeldFile) → length (paths_of files) ≡ length files
as_many [] = refl
as_many (x ∷ files) = ap suc (as_many files)

-- what the next file is told to be is so of it
pub surveyed_more : (held : Store) (keys : List HeldFile) → AreKeys held keys → (files : List HeldFile) (n : ℕ) (f : HeldFile) (found next : Found) → n < length files → f ≡ get_or files n f → AreRecords held files → IsSurveyed held (take n (paths_of files)) found → Visits keys f.0 f.1 found next → IsSurveyed held (take (n + 1) (paths_of files)) next
surveyed_more held keys are_keys files n f found next lt is all was visits =
    let paths = paths_of files in
    let within : n < length paths = omega (arith, lt, as_many files) in
    let at : get_or paths n f.0 ≡ f.0 = path_at files n f lt is in
    let grown : take (n + 1) paths ≡ take n paths ++ f.0 ∷ [] = take_more paths n f.0 within ∙ ap (λ (p : List ℕ). take n paths ++ p ∷ []) at in
    let here : held f.0 ≡ Some f.1 = each_of (IsFileIn held) files f all.each (n, lt, sym is) in
    subst (λ (l : List (List ℕ)). IsSurveyed held l next) (sym grown)
    (visited held keys are_keys (take n paths) f.0 (less_before paths n f.0 within (sym at) all.listing.ascending) found next was f.1 here visits)

-- one file more
pub read_more : (held : Store) (paths : List (List ℕ)) (n : ℕ) (path : List ℕ) (files next : List HeldFile) → n < length paths → path ≡ get_or paths n path → IsSome (held path) → AreRead held (take n paths) files → HasRead held path files next → AreRead held (take (n + 1) paths) next
read_more held paths n path files next lt is some was (inl r) =
    let grown : take (n + 1) paths ≡ take n paths ++ path ∷ [] = take_more paths n path lt ∙ ap (λ (p : List ℕ). take n paths ++ p ∷ []) (sym is) in
    let more : List HeldFile = files ++ (path, r.0) ∷ [] in
    record {
      at = ap paths_of r.2 ∙ map-append (λ (f : HeldFile). f.0) files ((path, r.0) ∷ []) ∙ ap (λ (l : List (List ℕ)). l ++ path ∷ []) was.at ∙ sym grown;
      each = subst (AllByRecursion (IsFileIn held)) (sym r.2) (each_append (IsFileIn held) files ((path, r.0) ∷ []) was.each (r.1, tt));
    }
read_more held paths n path files next lt is some was (inr r) = absurd (false≢true (sym (ap is_some r.0) ∙ some))

-- ---- all of them

within_among : (candidates : List Candidate) (n : ℕ) (c : Candidate) → IsBelievedWithin candidates n c → IsAmong candidates c
within_among candidates zero c b = absurd b
within_among candidates (suc n) c b = b.among

-- a believed record is a file
pub believed_file : (held : Store) (c : Candidate) → IsBelievedRecord held c → IsRecordFile held c
believed_file held c b =
    let among = within_among b.candidates b.believed.0 c b.believed.1 in
    each_of (IsRecordFile held) b.candidates c b.found.each (among.0, in_range b.candidates among.0 c among.1, get_or_from_slice_get b.candidates among.0 c c among.1)
  where
    in_range : (xs : List Candidate) (k : ℕ) (x : Candidate) → slice_get xs k ≡ Some x → k < length xs
    in_range [] k x e = absurd (cc)
    in_range (y ∷ ys) zero x e = omega arith
    in_range (y ∷ ys) (suc k) x e = let lt = in_range ys k x e in omega (arith, lt)

-- records with the same bytes are one, but for their keys
pub same_stored : (a b : ShortStored) → SpellsShort (short_record a) a → SpellsShort (short_record b) b → short_record a ≡ short_record b → a ≡ b
same_stored a b one other bytes =
    let read : Some a ≡ Some b = sym (short_stored_again (short_record a) a one) ∙ short_stored_again (short_record a) b (subst (λ (l : List ℕ). SpellsShort l b) (sym bytes) other) in
    cc

-- ... also where one is read from the bytes that the other one spells
pub same_bytes_stored : (bytes : List ℕ) (s other : ShortStored) → SpellsShort bytes s → SpellsShort (short_record other) other → bytes ≡ short_record other → other ≡ s
same_bytes_stored bytes s other one two is =
    let read : Some other ≡ Some s = sym (short_stored_again bytes other (subst (λ (l : List ℕ). SpellsShort l other) (sym is) two)) ∙ short_stored_again bytes s one in
    cc

-- what a fact entails holds where it does
pub none_weaker : {T P Q : Type 0} (found : Option T) → (P → Q) → IfNone found P → IfNone found Q
none_weaker None then fact = then fact
none_weaker (Some x) then fact = fact

-- ... and what a fact of a value entails
pub some_weaker : {T : Type 0} {P Q : T → Type 0} (found : Option T) → ((x : T) → P x → Q x) → IfSome found P → IfSome found Q
some_weaker None then fact = tt
some_weaker (Some x) then fact = then x fact

-- what has the same bytes has one name
pub one_name : (keys : List HeldFile) (a b : Candidate) → IsGood keys a → IsGood keys b → short_record a.stored ≡ short_record b.stored → a.name ≡ b.name
one_name keys a b one other bytes = one.name ∙ ap (λ (s : ShortStored). short_name s.sig) (same_stored a.stored b.stored one.spelled other.spelled bytes) ∙ sym other.name

bytes_in : {x y : List ℕ} {e f : _} → Some (File e x) ≡ Some (File f y) → x ≡ y
bytes_in e = cc

-- records at one path are one
pub one_record : (held : Store) (a b : Candidate) → IsRecordFile held a → IsRecordFile held b → record_path a.name ≡ record_path b.name → a ≡ b
one_record held a b fa fb same =
    let text : hash_text a.name ≡ hash_text b.name = cc in
    let name : a.name ≡ b.name = fa.name ∙ same_short_text a.stored.sig b.stored.sig (ap hash_text (sym fa.name) ∙ text ∙ ap hash_text fb.name) ∙ sym fb.name in
    let file : Some (short_file a.stored) ≡ Some (short_file b.stored) = sym fa.file ∙ ap held same ∙ fb.file in
    let stored : a.stored ≡ b.stored = same_stored a.stored b.stored fa.spelled fb.spelled (bytes_in file) in
    let key : fa.key ≡ fb.key = bytes_in (sym fa.key_held.file ∙ ap (λ (s : ShortStored). held (key_path s.sig.key)) stored ∙ fb.key_held.file) in
    let sig : a.sig ≡ b.sig = fa.text ∙ (λ i. whole_text (short_bytes (stored i).sig) (key i)) ∙ sym fb.text in
    λ i. record { name = name i; stored = stored i; sig = sig i }

pub among_of : (xs : List Candidate) (x : Candidate) → Contains xs x → IsAmong xs x
among_of xs x has = (has.0, slice_get-get_or xs has.0 x has.1 ∙ ap (λ y. Some y) has.2)

pub found_in : (held : Store) (paths : List (List ℕ)) (found : Found) → IsListing (codes "rec2/") held paths → IsSurveyed held paths found → IsFoundIn held found.candidates.items found.rejected.items
found_in held paths found listing s = record { found = record { ascend = s.ascend; each = each_weaker (StandsAmong held paths) (IsRecordFile held) (λ c x. x.file) found.candidates.items s.each; whole = whole }; within = λ q r. (listing.are_held q (s.rejected q r).0).0; not_left = not_left; whole = all }
  where
    files : AllByRecursion (IsRecordFile held) found.candidates.items
    files = each_weaker (StandsAmong held paths) (IsRecordFile held) (λ c x. x.file) found.candidates.items s.each

    whole : (c : Candidate) → IsRecordFile held c → IsAmong found.candidates.items c
    whole c file = by (s.whole (record_path c.name) (listing.all (record_path c.name) (hash_text c.name, refl) (subst IsSome (sym file.file) refl)))
      where
        by : Contains found.rejected.items (record_path c.name) ⊎ ((d : Candidate) × Contains found.candidates.items d × (record_path c.name ≡ record_path d.name)) → IsAmong found.candidates.items c
        by (inl r) = absurd ((s.rejected (record_path c.name) r).1 c file refl)
        by (inr w) = subst (IsAmong found.candidates.items) (sym (one_record held c w.0 file (each_of (IsRecordFile held) found.candidates.items w.0 files w.1) w.2)) (among_of found.candidates.items w.0 w.1)

    not_left : (q : List ℕ) → Contains found.rejected.items q → IsLeft held q → ⊥
    not_left q r = let w = s.rejected q r in let at = listing.are_held q w.0 in by at.0 at.1 w.1
      where
        by : BeginsWith (codes "rec2/") q → IsSome (held q) → HasNoRecord held q → IsLeft held q → ⊥
        by begins some none (inl e) = e.records (inr (begins.0, begins.1))
        by begins some none (inr (inl b)) = none b.0 (believed_file held b.0 b.1) b.2
        by begins some none (inr (inr (inl k))) = heads_differ (differ 114 107 refl) (sym begins.1 ∙ k.2)
        by begins some none (inr (inr (inr (inl t)))) = heads_differ (differ 114 115 refl) (sym begins.1 ∙ t.2)
        by begins some none (inr (inr (inr (inr n)))) = false≢true (sym (ap is_some n) ∙ some)

    all : (path : List ℕ) → IsSome (held (inside (codes "rec2") path)) → Contains found.rejected.items (inside (codes "rec2") path) ⊎ ((c : Candidate) × Contains found.candidates.items c × (inside (codes "rec2") path ≡ record_path c.name))
    all path some = s.whole (inside (codes "rec2") path) (listing.all (inside (codes "rec2") path) (path, refl) some)

-- what is read of a listing is all that stands there
pub listing_read : (prefix : List ℕ) (held : Store) (paths : List (List ℕ)) (files : List HeldFile) → IsListing prefix held paths → AreRead held paths files → AreUnder prefix held files
listing_read prefix held paths files listing read = record { listing = subst (IsListing prefix held) (sym read.at) listing; each = read.each }

-- all of them
pub surveyed_all : (held : Store) (files : List HeldFile) (n : ℕ) (found : Found) → length files ≤ n → AreRecords held files → IsSurveyed held (take n (paths_of files)) found → IsFoundIn held found.candidates.items found.rejected.items
surveyed_all held files n found past all was =
    let whole : take n (paths_of files) ≡ paths_of files = take_all n (paths_of files) (omega (arith, past, as_many files)) in
    found_in held (paths_of files) found all.listing (subst (λ (l : List (List ℕ)). IsSurveyed held l found) whole was)
