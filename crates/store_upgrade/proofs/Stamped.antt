-- Stamps are renewed.
use Rattle.std.proofs.Common.{◌≡◌, ◌≢◌, ◌∙◌, sym, ap, subst, refl, ℕ, zero, suc, ◌+◌, ◌<◌, ◌≤◌, ◌⊎◌, inl, inr, List, [], ◌∷◌, ◌++◌, length, get_or, drop, take, arith, None, Some, Ok, Option, Result}
use Rattle.std.specs.Prelude.{codes, Contains, IsSome}
use Rattle.std.proofs.lemmas.List.{take-append-drop, take_all, take_more}
use Rattle.std.proofs.lemmas.List.Elements.{Contains-append_left, Contains-push, Contains-push_cases}
use Rattle.tree_model.specs.declared.entry.Entry.{Entry}
use Rattle.tree_model.specs.declared.hash.Hash.{Hash}
use Rattle.tree_model.specs.Path.{inside}
use Rattle.outside_traits.specs.declared.fault.DiskFault.{DiskFault}
use Rattle.outside_traits.specs.Answers.{IsSettled}
use Rattle.outside_traits.specs.Passes.{Passes}
use Rattle.outside_traits.specs.Store.{ChangesAt, IsFree, Moves, Store, put, slashes}
use Rattle.outside_traits.specs.Story.{IsSound, Story}
use Rattle.outside_traits.proofs.Folders.{under_same}
use Rattle.outside_traits.proofs.Held.{none_unless}
use Rattle.outside_traits.proofs.Puts.{path_cases, put-other, put-same}
use Rattle.outside_traits.proofs.Runs.{passes_so, passes_then}
use Rattle.std.specs.Prelude.{find}
use Rattle.std.specs.Option.{option_map, option_or}
use Rattle.std.proofs.lemmas.List.Folds.{find-append}
use Rattle.std.specs.Map.{lookup}
use Rattle.std.specs.Str.{bytes_eq}
use Rattle.std.proofs.Math.Seq.{take-append_seam}
use Rattle.tree_model.specs.Hash.{IsHash, hash_text}
use Rattle.store_opening.proofs.Clean.{hash_is_name, name_text_length, same_digest}
use Rattle.stamp_store.specs.Stamp.{IsFolder, stamp_bytes, stamp_of, stamp_path, staged_path}
use Rattle.store_opening.proofs.Areas.{differ, heads_differ}
use Rattle.store_model.specs.Rows.{hash_eq}
use Rattle.store_opening.specs.Survey.{AreUnder, HeldFile, IsFileIn}
use Rattle.store_opening.proofs.Surveyed.{each_of, file_of}
use Rattle.record_move.specs.declared.records.MovedRecord.{MovedRecord}
use Rattle.store_upgrade.specs.Stamps.{AreRenewed, IsRenewed, IsRenewedAt, IsRenewedIn, TakesRenewed, renewed}
use Rattle.store_upgrade.specs.Steps.{AreFolders, AreHeld, HaveOneName, AreStagedStamps, AreStamped, PutsOne, PutsStamps, Within}
use Rattle.store_upgrade.proofs.Called.{IsDurable, none_some, settled_by}

-- what is held is in nobody's way
pub free_held : (story : Story) → IsSound story → (p : List ℕ) → IsSome (story.held p) → IsFree story.held p
free_held story sound p some = record {
  above = λ q up. none_unless (story.held q) (λ other. (sound.content 0).treelike q p up other some);
  below = λ q down. none_unless (story.held q) (λ other. (sound.content 0).treelike p q down some other);
}

abbrev Stamp : Type 0
Stamp = List ℕ × Hash

pub stamp_in : (stamps : List Stamp) (n : ℕ) (s : Stamp) → n < length stamps → s ≡ get_or stamps n s → Contains stamps (s.0, s.1)
stamp_in stamps n s lt is = (n, lt, sym is)

last_stamp : (stamps : List Stamp) (n : ℕ) (s t : Stamp) → n < length stamps → s ≡ get_or stamps n s → Contains (take (n + 1) stamps) t → Contains (take n stamps) t ⊎ (s ≡ t)
last_stamp stamps n s t lt is has =
    let grown : take (n + 1) stamps ≡ take n stamps ++ s ∷ [] = take_more stamps n s lt ∙ ap (λ (x : Stamp). take n stamps ++ x ∷ []) (sym is) in
    Contains-push_cases (take n stamps) s t (subst (λ (l : List Stamp). Contains l t) grown has)

front_stamp : (stamps : List Stamp) (n : ℕ) (t : Stamp) → Contains (take n stamps) t → Contains stamps t
front_stamp stamps n t has = subst (λ (l : List Stamp). Contains l t) (take-append-drop n stamps) (Contains-append_left (take n stamps) (drop n stamps) t has)

more_stamp : (stamps : List Stamp) (n : ℕ) (s t : Stamp) → n < length stamps → s ≡ get_or stamps n s → Contains (take n stamps) t → Contains (take (n + 1) stamps) t
more_stamp stamps n s t lt is has = subst (λ (l : List Stamp). Contains l t) (sym (take_more stamps n s lt ∙ ap (λ (x : Stamp). take n stamps ++ x ∷ []) (sym is))) (Contains-append_left (take n stamps) (s ∷ []) t has)

newest_stamp : (stamps : List Stamp) (n : ℕ) (s : Stamp) → n < length stamps → s ≡ get_or stamps n s → Contains (take (n + 1) stamps) s
newest_stamp stamps n s lt is = subst (λ (l : List Stamp). Contains l s) (sym (take_more stamps n s lt ∙ ap (λ (x : Stamp). take n stamps ++ x ∷ []) (sym is))) (Contains-push (take n stamps) s)

-- ---- they are written first

pub stamp_within : (folder : List ℕ) (a b : Story) → Passes a b (ChangesAt (staged_path folder)) → Passes a b (Within (codes "tmp"))
stamp_within folder a b run = passes_so (Within (codes "tmp")) run (λ i j at. record { others = λ q never. at.others q (λ same. never (inr (inside (codes "stamp") folder, same))) })

staged_folder : (a b : List ℕ) → staged_path a ≡ staged_path b → a ≡ b
staged_folder a b e = under_same (codes "stamp") a b (under_same (codes "tmp") (inside (codes "stamp") a) (inside (codes "stamp") b) e)

pub staged_stamps_more : (stamps : List Stamp) (n : ℕ) (s : Stamp) (held now : Store) → n < length stamps → s ≡ get_or stamps n s → HaveOneName stamps → AreStagedStamps (take n stamps) held → now ≡ put held (staged_path s.0) (Some (stamp_of s.1)) → AreStagedStamps (take (n + 1) stamps) now
staged_stamps_more stamps n s held now lt is folders was did folder name has = by (last_stamp stamps n s (folder, name) lt is has)
  where
    here : now (staged_path s.0) ≡ Some (stamp_of s.1)
    here = ap (λ (h : Store). h (staged_path s.0)) did ∙ put-same held (staged_path s.0) (staged_path s.0) (Some (stamp_of s.1)) refl

    by : Contains (take n stamps) (folder, name) ⊎ (s ≡ (folder, name)) → now (staged_path folder) ≡ Some (stamp_of name)
    by (inr same) = subst (λ (t : Stamp). now (staged_path t.0) ≡ Some (stamp_of t.1)) same here
    by (inl earlier) = at (path_cases (staged_path folder) (staged_path s.0))
      where
        at : (staged_path folder ≡ staged_path s.0) ⊎ (staged_path folder ≢ staged_path s.0) → now (staged_path folder) ≡ Some (stamp_of name)
        at (inr other) = ap (λ (h : Store). h (staged_path folder)) did ∙ put-other held (staged_path s.0) (staged_path folder) (Some (stamp_of s.1)) other ∙ was folder name earlier
        at (inl same) =
            let one : s.0 ≡ folder = staged_folder s.0 folder (sym same) in
            let names : s.1 ≡ name = folders folder s.1 name (subst (λ (f : List ℕ). Contains stamps (f, s.1)) one (stamp_in stamps n s lt is)) (front_stamp stamps n (folder, name) earlier) in
            ap now same ∙ here ∙ ap (λ (x : Hash). Some (stamp_of x)) names

pub staged_stamps_none : (stamps : List Stamp) (held : Store) → AreStagedStamps (take 0 stamps) held
staged_stamps_none stamps held folder name has = absurd (let lt = has.1 in omega (arith, lt))

pub staged_stamps_all : (stamps : List Stamp) (n : ℕ) (held : Store) → length stamps ≤ n → AreStagedStamps (take n stamps) held → AreStagedStamps stamps held
staged_stamps_all stamps n held past was = subst (λ (l : List Stamp). AreStagedStamps l held) (take_all n stamps past) was

-- ---- they are put

apart_stamps : (a b : List ℕ) → staged_path a ≢ stamp_path b
apart_stamps a b e = heads_differ (differ 116 115 refl) e

abbrev pub AreAway : List Stamp → Store → Type 0
AreAway stamps held = (folder : List ℕ) (name : Hash) → Contains stamps (folder, name) → held (staged_path folder) ≡ None

away_not : (stamps : List Stamp) (held : Store) (folder : List ℕ) → AreAway stamps held → IsSome (held (staged_path folder)) → (f : List ℕ) (name : Hash) → Contains stamps (f, name) → (staged_path folder ≢ stamp_path f) × (staged_path folder ≢ staged_path f)
away_not stamps held folder away some f name has = (apart_stamps folder f, λ same. none_some (held (staged_path folder)) (ap held same ∙ away f name has) some)

pub stamp_settled : (stamps : List Stamp) (a b : Story) (folder : List ℕ) → IsDurable a → Passes a b (PutsStamps stamps) → AreAway stamps b.held → IsSome (b.held (staged_path folder)) → IsSettled (staged_path folder) b
stamp_settled stamps a b folder durable run away some = settled_by a b (PutsStamps stamps) (staged_path folder) durable run (λ i j puts. puts.others (staged_path folder) (away_not stamps b.held folder away some)) some

-- whether a folder is one of these
folder_or : (xs : List Stamp) (f : List ℕ) → ((name : Hash) × Contains xs (f, name)) ⊎ ((g : List ℕ) (name : Hash) → Contains xs (g, name) → f ≢ g)
folder_or [] f = inr (λ g name has e. let lt = has.1 in omega (arith, lt))
folder_or (x ∷ xs) f = by (folder_or xs f) (path_cases x.0 f)
  where
    by : ((name : Hash) × Contains xs (f, name)) ⊎ ((g : List ℕ) (name : Hash) → Contains xs (g, name) → f ≢ g) → (x.0 ≡ f) ⊎ (x.0 ≢ f) → ((name : Hash) × Contains (x ∷ xs) (f, name)) ⊎ ((g : List ℕ) (name : Hash) → Contains (x ∷ xs) (g, name) → f ≢ g)
    by (inl w) which = inl (w.0, (suc w.1.0, (let lt = w.1.1 in omega (arith, lt)), w.1.2))
    by (inr none) (inl same) = inl (x.1, (0, omega arith, λ i. (same i, x.1)))
    by (inr none) (inr ne) = inr rest
      where
        rest : (g : List ℕ) (name : Hash) → Contains (x ∷ xs) (g, name) → f ≢ g
        rest g name (zero, lt, e) same = ne (ap (λ (t : Stamp). t.0) e ∙ sym same)
        rest g name (suc k, lt, e) same = none g name (k, omega (arith, lt), e) same

module _ (stamps : List Stamp) (n : ℕ) (s : Stamp) (lt : n < length stamps) (is : s ≡ get_or stamps n s) (folders : HaveOneName stamps) where
  one_name : (f : List ℕ) (m other : Hash) → Contains (take (n + 1) stamps) (f, m) → Contains (take (n + 1) stamps) (f, other) → m ≡ other
  one_name f m other has too = folders f m other (front_stamp stamps (n + 1) (f, m) has) (front_stamp stamps (n + 1) (f, other) too)

  grown : (i j : Store) → PutsStamps (take n stamps) i j → PutsStamps (take (n + 1) stamps) i j
  grown i j p = record {
    others = λ q none. p.others q (λ f m has. none f m (more_stamp stamps n s (f, m) lt is has));
    put = λ f m has. by f m has (folder_or (take n stamps) f);
  }
    where
      by : (f : List ℕ) (m : Hash) → Contains (take (n + 1) stamps) (f, m) → ((name : Hash) × Contains (take n stamps) (f, name)) ⊎ ((g : List ℕ) (name : Hash) → Contains (take n stamps) (g, name) → f ≢ g) → (j (stamp_path f) ≡ i (stamp_path f)) ⊎ (j (stamp_path f) ≡ Some (stamp_of m))
      by f m has (inl w) = subst (λ (x : Hash). (j (stamp_path f) ≡ i (stamp_path f)) ⊎ (j (stamp_path f) ≡ Some (stamp_of x))) (one_name f w.0 m (more_stamp stamps n s (f, w.0) lt is w.1) has) (p.put f w.0 w.1)
      by f m has (inr none) = inl (p.others (stamp_path f) (λ g name in_it. ((λ e. none g name in_it (under_same (codes "stamp") f g e)), λ e. apart_stamps g f (sym e))))

  moved : (i j k : Store) → PutsStamps (take n stamps) i j → Moves (staged_path s.0) (stamp_path s.0) (Some (stamp_of s.1)) j k → PutsStamps (take (n + 1) stamps) i k
  moved i j k p moves = record {
    others = λ q none. let apart = none s.0 s.1 (newest_stamp stamps n s lt is) in moves.others q apart.1 apart.0 ∙ p.others q (λ f m has. none f m (more_stamp stamps n s (f, m) lt is has));
    put = λ f m has. by f m has ((grown i j p).put f m has) (path_cases (stamp_path f) (stamp_path s.0)) moves.target;
  }
    where
      shift : (f : List ℕ) (m : Hash) → k (stamp_path f) ≡ j (stamp_path f) → (j (stamp_path f) ≡ i (stamp_path f)) ⊎ (j (stamp_path f) ≡ Some (stamp_of m)) → (k (stamp_path f) ≡ i (stamp_path f)) ⊎ (k (stamp_path f) ≡ Some (stamp_of m))
      shift f m same was = elim was [ inl still ↦ inl (same ∙ still) | inr now ↦ inr (same ∙ now) ]

      by : (f : List ℕ) (m : Hash) → Contains (take (n + 1) stamps) (f, m) → (j (stamp_path f) ≡ i (stamp_path f)) ⊎ (j (stamp_path f) ≡ Some (stamp_of m)) → (stamp_path f ≡ stamp_path s.0) ⊎ (stamp_path f ≢ stamp_path s.0) → (k (stamp_path s.0) ≡ j (stamp_path s.0)) ⊎ (k (stamp_path s.0) ≡ Some (stamp_of s.1)) → (k (stamp_path f) ≡ i (stamp_path f)) ⊎ (k (stamp_path f) ≡ Some (stamp_of m))
      by f m has was (inr other) target = shift f m (moves.others (stamp_path f) (λ e. apart_stamps s.0 f (sym e)) other) was
      by f m has was (inl same) (inl now) = shift f m (ap k same ∙ now ∙ ap j (sym same)) was
      by f m has was (inl same) (inr now) =
          let folder : s.0 ≡ f = sym (under_same (codes "stamp") f s.0 same) in
          let name : s.1 ≡ m = one_name f s.1 m (subst (λ (g : List ℕ). Contains (take (n + 1) stamps) (g, s.1)) folder (newest_stamp stamps n s lt is)) has in
          inr (ap k same ∙ now ∙ ap (λ (x : Hash). Some (stamp_of x)) name)

  -- where it was written first it is still, or was renamed away
  still_staged : (a b : Story) → AreStagedStamps stamps a.held → Passes a b (PutsStamps (take n stamps)) → AreAway (take n stamps) b.held → (e : Entry) → b.held (staged_path s.0) ≡ Some e → b.held (staged_path s.0) ≡ Some (stamp_of s.1)
  still_staged a b staged run away e some = run.held.others (staged_path s.0) (away_not (take n stamps) b.held s.0 away (subst IsSome (sym some) refl)) ∙ staged s.0 s.1 (stamp_in stamps n s lt is)

  pub stamps_run : (a b c : Story) (r : Result (Unit {0}) DiskFault) → AreStagedStamps stamps a.held → Passes a b (PutsStamps (take n stamps)) → AreAway (take n stamps) b.held → PutsOne (staged_path s.0) (stamp_path s.0) b c r → Passes a c (PutsStamps (take (n + 1) stamps))
  stamps_run a b c r staged run away puts = by (b.held (staged_path s.0)) refl
    where
      by : (o : Option Entry) → b.held (staged_path s.0) ≡ o → Passes a c (PutsStamps (take (n + 1) stamps))
      by None none = passes_then (PutsStamps (take (n + 1) stamps)) run (puts.same none) grown (λ i j k p e. subst (PutsStamps (take (n + 1) stamps) i) (sym e) (grown i j p))
      by (Some e) some = passes_then (PutsStamps (take (n + 1) stamps)) run (subst (λ (x : Option Entry). Passes b c (Moves (staged_path s.0) (stamp_path s.0) x)) (still_staged a b staged run away e some) puts.moves) grown moved

  pub away_more : (b c : Story) (v : Unit {0}) → AreAway (take n stamps) b.held → PutsOne (staged_path s.0) (stamp_path s.0) b c (Ok v) → AreAway (take (n + 1) stamps) c.held
  away_more b c v away puts f m has = by (last_stamp stamps n s (f, m) lt is has) (path_cases (staged_path f) (staged_path s.0))
    where
      by : Contains (take n stamps) (f, m) ⊎ (s ≡ (f, m)) → (staged_path f ≡ staged_path s.0) ⊎ (staged_path f ≢ staged_path s.0) → c.held (staged_path f) ≡ None
      by which (inl same) = ap c.held same ∙ puts.gone
      by (inl earlier) (inr other) = puts.moves.held.others (staged_path f) other (apart_stamps f s.0) ∙ away f m earlier
      by (inr e) (inr other) = absurd (other (ap (λ (t : Stamp). staged_path t.0) (sym e)))

  pub stamped_more : (a b c : Story) (v : Unit {0}) → AreStagedStamps stamps a.held → Passes a b (PutsStamps (take n stamps)) → AreAway (take n stamps) b.held → AreStamped (take n stamps) b.held → PutsOne (staged_path s.0) (stamp_path s.0) b c (Ok v) → AreStamped (take (n + 1) stamps) c.held
  stamped_more a b c v staged run away was puts f m has = by (folder_or (take n stamps) f)
    where
      held_on : Contains (take n stamps) (f, m) → (path_is : (stamp_path f ≡ stamp_path s.0) ⊎ (stamp_path f ≢ stamp_path s.0)) → c.held (stamp_path f) ≡ Some (stamp_of m)
      held_on earlier (inr other) = puts.moves.held.others (stamp_path f) (λ e. apart_stamps s.0 f (sym e)) other ∙ was f m earlier
      held_on earlier (inl same) =
          let folder : f ≡ s.0 = under_same (codes "stamp") f s.0 same in
          let none : b.held (staged_path s.0) ≡ None = ap (λ (g : List ℕ). b.held (staged_path g)) (sym folder) ∙ away f m earlier in
          ap (λ (h : Store). h (stamp_path f)) (puts.same none).held ∙ was f m earlier

      fresh : (o : Option Entry) → b.held (staged_path s.0) ≡ o → s ≡ (f, m) → ((g : List ℕ) (name : Hash) → Contains (take n stamps) (g, name) → f ≢ g) → c.held (stamp_path f) ≡ Some (stamp_of m)
      fresh o some same none =
          let there : b.held (staged_path s.0) ≡ Some (stamp_of s.1) = run.held.others (staged_path s.0) (λ g name in_it. (apart_stamps s.0 g, λ e. none g name in_it (sym (ap (λ (t : Stamp). t.0) same) ∙ staged_folder s.0 g e))) ∙ staged s.0 s.1 (stamp_in stamps n s lt is) in
          subst (λ (t : Stamp). c.held (stamp_path t.0) ≡ Some (stamp_of t.1)) same (puts.put (stamp_of s.1) there)

      by : ((name : Hash) × Contains (take n stamps) (f, name)) ⊎ ((g : List ℕ) (name : Hash) → Contains (take n stamps) (g, name) → f ≢ g) → c.held (stamp_path f) ≡ Some (stamp_of m)
      by (inl w) = held_on (subst (λ (x : Hash). Contains (take n stamps) (f, x)) (one_name f w.0 m (more_stamp stamps n s (f, w.0) lt is w.1) has) w.1) (path_cases (stamp_path f) (stamp_path s.0))
      by (inr none) = elim (last_stamp stamps n s (f, m) lt is has) [
        | inl earlier ↦ absurd (none f m earlier refl)
        | inr same ↦ fresh (b.held (staged_path s.0)) refl same none
      ]

pub stamps_none : (stamps : List Stamp) (i : Store) → PutsStamps (take 0 stamps) i i
stamps_none stamps i = record { others = λ q none. refl; put = λ f m has. absurd (let lt = has.1 in omega (arith, lt)) }

pub away_none : (stamps : List Stamp) (held : Store) → AreAway (take 0 stamps) held
away_none stamps held f m has = absurd (let lt = has.1 in omega (arith, lt))

pub stamped_none : (stamps : List Stamp) (held : Store) → AreStamped (take 0 stamps) held
stamped_none stamps held f m has = absurd (let lt = has.1 in omega (arith, lt))

pub stamped_all : (stamps : List Stamp) (n : ℕ) (held : Store) → length stamps ≤ n → AreStamped (take n stamps) held → AreStamped stamps held
stamped_all stamps n held past was = subst (λ (l : List Stamp). AreStamped l held) (take_all n stamps past) was

-- the first ones are some of them
pub stamps_first : (stamps : List Stamp) (n : ℕ) → HaveOneName stamps → (i j : Store) → PutsStamps (take n stamps) i j → PutsStamps stamps i j
stamps_first stamps n folders i j p = record {
  others = λ q none. p.others q (λ f m has. none f m (front_stamp stamps n (f, m) has));
  put = λ f m has. by f m has (folder_or (take n stamps) f);
}
  where
    by : (f : List ℕ) (m : Hash) → Contains stamps (f, m) → ((name : Hash) × Contains (take n stamps) (f, name)) ⊎ ((g : List ℕ) (name : Hash) → Contains (take n stamps) (g, name) → f ≢ g) → (j (stamp_path f) ≡ i (stamp_path f)) ⊎ (j (stamp_path f) ≡ Some (stamp_of m))
    by f m has (inl w) = subst (λ (x : Hash). (j (stamp_path f) ≡ i (stamp_path f)) ⊎ (j (stamp_path f) ≡ Some (stamp_of x))) (folders f w.0 m (front_stamp stamps n (f, w.0) w.1) has) (p.put f w.0 w.1)
    by f m has (inr none) = inl (p.others (stamp_path f) (λ g name in_it. ((λ e. none g name in_it (under_same (codes "stamp") f g e)), λ e. apart_stamps g f (sym e))))

-- the stamps that are to be put are held while the earlier ones are put
pub still_held : (stamps : List Stamp) (i j : Store) → PutsStamps stamps i j → AreHeld stamps i → AreHeld stamps j
still_held stamps i j p held f m has = elim (p.put f m has) [
  | inl same ↦ subst IsSome (sym same) (held f m has)
  | inr now ↦ subst IsSome (sym now) refl
]

-- a stamp says one name
pub same_stamp : (one old : Hash) (entry : Entry) → IsHash one × (entry ≡ stamp_of one) → IsHash old × (entry ≡ stamp_of old) → one ≡ old
same_stamp one old entry first second =
    let stamps : stamp_of one ≡ stamp_of old = sym first.1 ∙ second.1 in
    let bytes : stamp_bytes one ≡ stamp_bytes old = cc in
    let la = name_text_length one (hash_is_name one first.0) in
    let lb = name_text_length old (hash_is_name old second.0) in
    let long : length (hash_text one) ≡ length (hash_text old) = omega (arith, la, lb) in
    let text : hash_text one ≡ hash_text old = sym (take-append_seam (hash_text one) (10 ∷ [])) ∙ (λ i. take (long i) (bytes i)) ∙ take-append_seam (hash_text old) (10 ∷ []) in
    same_digest one old (hash_is_name one first.0) (hash_is_name old second.0) text

one_renewal : (names : List (List ℕ × Hash)) (one old name other : Hash) (entry : Entry) → IsHash one × (entry ≡ stamp_of one) → IsHash old × (entry ≡ stamp_of old) → lookup (bytes_eq one.bytes) names ≡ Some name → lookup (bytes_eq old.bytes) names ≡ Some other → name ≡ other
one_renewal names one old name other entry first second found too =
    let e : Some name ≡ Some other = sym found ∙ ap (λ (h : Hash). lookup (bytes_eq h.bytes) names) (same_stamp one old entry first second) ∙ too in
    cc

pub one_stamp_name : (names : List (List ℕ × Hash)) (one old name : Hash) (entry : Entry) → IsHash one × (entry ≡ stamp_of one) → IsHash old → entry ≡ stamp_of old → lookup (bytes_eq one.bytes) names ≡ None → lookup (bytes_eq old.bytes) names ≡ Some name → ⊥
one_stamp_name names one old name entry first hash second none found =
    let e : None ≡ Some name = sym none ∙ ap (λ (h : Hash). lookup (bytes_eq h.bytes) names) (same_stamp one old entry first (hash, second)) ∙ found in
    cc

-- ---- which are renewed

map_or : {A B : Type 0} (f : A → B) (o p : Option A) → option_map f (option_or o p) ≡ option_or (option_map f o) (option_map f p)
map_or f None p = refl
map_or f (Some x) p = refl

pub renewed_more : (moved : List MovedRecord) (n : ℕ) (m : MovedRecord) (q : Hash) → n < length moved → m ≡ get_or moved n m → renewed (take (n + 1) moved) q ≡ option_or (renewed (take n moved) q) (renewed (m ∷ []) q)
renewed_more moved n m q lt is =
    ap (λ (l : List MovedRecord). renewed l q) (take_more moved n m lt ∙ ap (λ (x : MovedRecord). take n moved ++ x ∷ []) (sym is))
    ∙ ap (option_map (λ (x : MovedRecord). x.name)) (find-append (λ (x : MovedRecord). hash_eq x.old_name q) (take n moved) (m ∷ []))
    ∙ map_or (λ (x : MovedRecord). x.name) (find (λ (x : MovedRecord). hash_eq x.old_name q) (take n moved)) (find (λ (x : MovedRecord). hash_eq x.old_name q) (m ∷ []))

file_cases : (files : List HeldFile) (n : ℕ) (f g : HeldFile) → n < length files → f ≡ get_or files n f → Contains (take (n + 1) files) g → Contains (take n files) g ⊎ (f ≡ g)
file_cases files n f g lt is has =
    let grown : take (n + 1) files ≡ take n files ++ f ∷ [] = take_more files n f lt ∙ ap (λ (x : HeldFile). take n files ++ x ∷ []) (sym is) in
    Contains-push_cases (take n files) f g (subst (λ (l : List HeldFile). Contains l g) grown has)

file_last : (files : List HeldFile) (n : ℕ) (f : HeldFile) → n < length files → f ≡ get_or files n f → Contains (take (n + 1) files) f
file_last files n f lt is = subst (λ (l : List HeldFile). Contains l f) (sym (take_more files n f lt ∙ ap (λ (x : HeldFile). take n files ++ x ∷ []) (sym is))) (Contains-push (take n files) f)

file_more : (files : List HeldFile) (n : ℕ) (f g : HeldFile) → n < length files → f ≡ get_or files n f → Contains (take n files) g → Contains (take (n + 1) files) g
file_more files n f g lt is has = subst (λ (l : List HeldFile). Contains l g) (sym (take_more files n f lt ∙ ap (λ (x : HeldFile). take n files ++ x ∷ []) (sym is))) (Contains-append_left (take n files) (f ∷ []) g has)

pub renewed_at_more : (names : List (List ℕ × Hash)) (files : List HeldFile) (n : ℕ) (f : HeldFile) (old new : List Stamp) → n < length files → f ≡ get_or files n f → IsRenewedAt names (take n files) old → TakesRenewed names f old new → IsRenewedAt names (take (n + 1) files) new
renewed_at_more names files n f old new lt is was (inr w) = record {
  sound = λ folder name has. let s = was.sound folder name (subst (λ (l : List Stamp). Contains l (folder, name)) w.1 has) in (s.0, file_more files n f s.0 lt is s.1, s.2);
  whole = λ g folder name has r. elim (file_cases files n f g lt is has) [
    | inl earlier ↦ subst (λ (l : List Stamp). Contains l (folder, name)) (sym w.1) (was.whole g folder name earlier r)
    | inr same ↦ absurd (w.0 folder name (subst (λ (x : HeldFile). IsRenewedIn names x folder name) (sym same) r))
  ];
}
renewed_at_more names files n f old new lt is was (inl w) = record {
  sound = λ folder name has. by folder name (Contains-push_cases old (w.0, w.1) (folder, name) (subst (λ (l : List Stamp). Contains l (folder, name)) w.3 has));
  whole = λ g folder name has r. elim (file_cases files n f g lt is has) [
    | inl earlier ↦ subst (λ (l : List Stamp). Contains l (folder, name)) (sym w.3) (Contains-append_left old ((w.0, w.1) ∷ []) (folder, name) (was.whole g folder name earlier r))
    | inr same ↦ last g folder name same r
  ];
}
  where
    by : (folder : List ℕ) (name : Hash) → Contains old (folder, name) ⊎ (◌≡◌ {A = Stamp} (w.0, w.1) (folder, name)) → (g : HeldFile) × Contains (take (n + 1) files) g × IsRenewedIn names g folder name
    by folder name (inl earlier) = let s = was.sound folder name earlier in (s.0, file_more files n f s.0 lt is s.1, s.2)
    by folder name (inr same) = (f, file_last files n f lt is, subst (λ (t : Stamp). IsRenewedIn names f t.0 t.1) same w.2)

    last : (g : HeldFile) (folder : List ℕ) (name : Hash) → f ≡ g → IsRenewedIn names g folder name → Contains new (folder, name)
    last g folder name same r =
        let mine : IsRenewedIn names f folder name = subst (λ (x : HeldFile). IsRenewedIn names x folder name) (sym same) r in
        let folders : w.0 ≡ folder = under_same (codes "stamp") w.0 folder (sym w.2.at ∙ mine.at) in
        let one : w.1 ≡ name = one_renewal names w.2.old mine.old w.1 name f.1 (w.2.is_hash, w.2.is) (mine.is_hash, mine.is) w.2.renewed mine.renewed in
        subst (λ (l : List Stamp). Contains l (folder, name)) (sym w.3) (subst (λ (t : Stamp). Contains (old ++ (w.0, w.1) ∷ []) t) (λ i. (folders i, one i)) (Contains-push old (w.0, w.1)))

pub renewed_at_none : (names : List (List ℕ × Hash)) (files : List HeldFile) → IsRenewedAt names (take 0 files) []
renewed_at_none names files = record { sound = λ folder name has. absurd (let lt = has.1 in omega (arith, lt)); whole = λ f folder name has r. absurd (let lt = has.1 in omega (arith, lt)) }

pub renewed_at_all : (names : List (List ℕ × Hash)) (files : List HeldFile) (n : ℕ) (stamps : List Stamp) → length files ≤ n → IsRenewedAt names (take n files) stamps → IsRenewedAt names files stamps
renewed_at_all names files n stamps past was = subst (λ (l : List HeldFile). IsRenewedAt names l stamps) (take_all n files past) was

pub renewed_all : (names : List (List ℕ × Hash)) (files : List HeldFile) (stamps : List Stamp) (moved : List MovedRecord) (held : Store) → AreUnder (codes "stamp/") held files → ((q : Hash) → lookup (bytes_eq q.bytes) names ≡ renewed moved q) → IsRenewedAt names files stamps → AreRenewed held moved stamps
renewed_all names files stamps moved held are by_name at = record {
  sound = λ folder name has. let s = at.sound folder name has in of folder name s.0 s.1 s.2;
  whole = λ folder name r.
      let path = stamp_path folder in
      let listed = are.listing.all path (folder, refl) (subst IsSome (sym r.file) refl) in
      let f = file_of files path listed in
      at.whole f.0 folder name f.1 (found folder name r f.0 f.1 f.2);
}
  where
    of : (folder : List ℕ) (name : Hash) (f : HeldFile) → Contains files f → IsRenewedIn names f folder name → IsRenewed held moved folder name
    of folder name f has r =
        let there : held (stamp_path folder) ≡ Some f.1 = ap held (sym r.at) ∙ each_of (IsFileIn held) files f are.each has in
        record {
          is_folder = r.is_folder;
          two = r.two;
          old = r.old;
          is_hash = r.is_hash;
          file = there ∙ ap (λ (e : Entry). Some e) r.is;
          renewed = sym (by_name r.old) ∙ r.renewed;
        }

    found : (folder : List ℕ) (name : Hash) (r : IsRenewed held moved folder name) (f : HeldFile) → Contains files f → f.0 ≡ stamp_path folder → IsRenewedIn names f folder name
    found folder name r f has path =
        let there : Some f.1 ≡ Some (stamp_of r.old) = sym (each_of (IsFileIn held) files f are.each has) ∙ ap held path ∙ r.file in
        let entry : f.1 ≡ stamp_of r.old = cc in
        record { at = path; is_folder = r.is_folder; two = r.two; old = r.old; is_hash = r.is_hash; is = entry; renewed = by_name r.old ∙ r.renewed }

-- each folder has one name
pub renewed_names : (held : Store) (moved : List MovedRecord) (stamps : List Stamp) → AreRenewed held moved stamps → HaveOneName stamps
renewed_names held moved stamps are folder name other has too =
    let r = are.sound folder name has in
    let q = are.sound folder other too in
    one_said moved r.old q.old name other (held (stamp_path folder)) (r.is_hash, r.file) (q.is_hash, q.file) r.renewed q.renewed
  where
    one_said : (moved : List MovedRecord) (one old name other : Hash) (o : Option Entry) → IsHash one × (o ≡ Some (stamp_of one)) → IsHash old × (o ≡ Some (stamp_of old)) → renewed moved one ≡ Some name → renewed moved old ≡ Some other → name ≡ other
    one_said moved one old name other o first second found too =
        let stamps' : Some (stamp_of one) ≡ Some (stamp_of old) = sym first.1 ∙ second.1 in
        let entry : stamp_of one ≡ stamp_of old = cc in
        let same : one ≡ old = same_stamp one old (stamp_of one) (first.0, refl) (second.0, entry) in
        let e : Some name ≡ Some other = sym found ∙ ap (renewed moved) same ∙ too in
        cc

pub renewed_held : (held now : Store) (moved : List MovedRecord) (stamps : List Stamp) → AreRenewed held moved stamps → ((folder : List ℕ) → now (stamp_path folder) ≡ held (stamp_path folder)) → AreHeld stamps now
renewed_held held now moved stamps are same folder name has = let r = are.sound folder name has in subst IsSome (sym (same folder ∙ r.file)) refl

pub folders_more : (old new : List Stamp) (folder : List ℕ) (name : Hash) → new ≡ old ++ (folder, name) ∷ [] → IsFolder folder × (slashes folder ≡ 1) → AreFolders old → AreFolders new
folders_more old new folder name is good was f m has = elim (Contains-push_cases old (folder, name) (f, m) (subst (λ (l : List Stamp). Contains l (f, m)) is has)) [
  | inl earlier ↦ was f m earlier
  | inr same ↦ subst (λ (t : Stamp). IsFolder t.0 × (slashes t.0 ≡ 1)) same good
]
