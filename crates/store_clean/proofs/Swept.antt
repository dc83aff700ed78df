-- Objects and keys that nothing needs.
use Rattle.std.proofs.Common.{◌≡◌, ◌∙◌, sym, ap, subst, refl, arith, ℕ, ◌+◌, ◌-◌, ◌<◌, ◌≤◌, ◌⊎◌, inl, inr, Bool, true, false, List, [], ◌∷◌, ◌++◌, append_assoc, drop, length, length-drop, get_or, take, Option, None, Some, slice_get}
use Rattle.std.specs.Prelude.{codes, Contains, IsSome, MatchBool, if◌then◌else◌}
use Rattle.std.specs.Map.{lookup}
use Rattle.std.specs.Option.{is_some, option_or}
use Rattle.std.specs.Str.{bytes_eq}
use Rattle.std.proofs.lemmas.Bool.{cases_lt, false≢true}
use Rattle.std.proofs.lemmas.List.{take_all, take-append-drop}
use Rattle.std.proofs.lemmas.List.Elements.{Contains-append_left, Contains-push, Contains-push_cases}
use Rattle.std.proofs.lemmas.Option.{slice_get_within}
use Rattle.std.proofs.Math.Seq.{take-append_seam}
use Rattle.tree_model.specs.declared.entry.Entry.{Entry}
use Rattle.tree_model.specs.declared.hash.Hash.{Hash}
use Rattle.tree_model.specs.Hash.{IsHash, hash_text}
use Rattle.tree_model.specs.Path.{BeginsWith, IsAtOrBelow}
use Rattle.outside_traits.specs.Store.{ChangesAt, IsListing, Store}
use Rattle.store_model.specs.Rows.{hash_eq}
use Rattle.store_model.proofs.Listing.{hash_itself, hash_same}
use Rattle.store_opening.specs.Survey.{TakesOut}
use Rattle.store_opening.proofs.Areas.{differ, heads_differ}
use Rattle.store_opening.proofs.Clean.{hash_is_name, name_text_length, same_digest}
use Rattle.store_keep.specs.Keep.{IsMarked}
use Rattle.store_clean.specs.declared.nodes.Node.{Node}
use Rattle.store_clean.specs.Cleared.{gone_path}
use Rattle.store_clean.specs.Steps.{AreUnneeded, IsEnd, IsKeptTable, IsNeeded, IsOfKept, NotesUnneeded, PutsKept, Sweeps, SweepsAll, SweepsLeft}
use Rattle.store_clean.proofs.Lists.{nothing, some_one, taken_first, taken_last, taken_none, taken_or}

-- ---- tables of digests

pub record KeptTo (digest : Node → Hash) (nodes : List Node) (marks : List Bool) (n : ℕ) (entries : List (List ℕ × ℕ)) : Type 0 where
  pub sound : (q : Hash) (p : ℕ) → lookup (bytes_eq q.bytes) entries ≡ Some p → (place : ℕ) × (node : Node) × IsMarked marks place × (slice_get nodes place ≡ Some node) × (digest node ≡ q)
  pub whole : (place : ℕ) (node : Node) → place < n → IsMarked marks place → slice_get nodes place ≡ Some node → lookup (bytes_eq (digest node).bytes) entries ≡ None → ⊥

module _ (digest : Node → Hash) (nodes : List Node) (marks : List Bool) (n : ℕ) (node : Node) (entries new : List (List ℕ × ℕ)) (at : slice_get nodes n ≡ Some node) (was : KeptTo digest nodes marks n entries) where
  stays : IsMarked marks n ⊎ (new ≡ entries) → (IsMarked marks n → ⊥) → new ≡ entries → KeptTo digest nodes marks (n + 1) new
  stays which not same = subst (KeptTo digest nodes marks (n + 1)) (sym same) (record {
    sound = was.sound;
    whole = λ place other lt m here none. elim (cases_lt place n) [
      | inl less ↦ was.whole place other less m here none
      | inr more ↦ let one : place ≡ n = omega (arith, lt, more) in not (subst (IsMarked marks) one m)
    ];
  })

  abbrev put_or : Option ℕ → Bool → Option ℕ
  put_or o b = option_or o (if b then Some n else None)

  puts : IsMarked marks n → ((q : Hash) → lookup (bytes_eq q.bytes) new ≡ option_or (lookup (bytes_eq q.bytes) entries) (if hash_eq (digest node) q then Some n else None)) → KeptTo digest nodes marks (n + 1) new
  puts marked put = record {
    sound = λ q p e. sound q p (lookup (bytes_eq q.bytes) entries) refl (hash_eq (digest node) q) refl (sym (put q) ∙ e);
    whole = λ place other lt m here none. elim (cases_lt place n) [
      | inl less ↦ was.whole place other less m here (first_none (lookup (bytes_eq (digest other).bytes) entries) (hash_eq (digest node) (digest other)) (sym (put (digest other)) ∙ none))
      | inr more ↦ last place other (omega (arith, lt, more)) here none
    ];
  }
    where
      first_none : (o : Option ℕ) (b : Bool) → put_or o b ≡ None → o ≡ None
      first_none None b e = refl
      first_none (Some k) b e = absurd (let no : Some k ≡ None = e in cc)

      sound : (q : Hash) (p : ℕ) (o : Option ℕ) → lookup (bytes_eq q.bytes) entries ≡ o → (b : Bool) → hash_eq (digest node) q ≡ b → put_or (lookup (bytes_eq q.bytes) entries) (hash_eq (digest node) q) ≡ Some p
          → (place : ℕ) × (x : Node) × IsMarked marks place × (slice_get nodes place ≡ Some x) × (digest x ≡ q)
      sound q p (Some k) found b t e = was.sound q k found
      sound q p None found true t e = (n, node, marked, at, hash_same (digest node) q t)
      sound q p None found false t e = absurd (let no : None ≡ Some p = sym (ap (λ o. put_or o false) found) ∙ sym (ap (put_or (lookup (bytes_eq q.bytes) entries)) t) ∙ e in cc)

      last : (place : ℕ) (other : Node) → place ≡ n → slice_get nodes place ≡ Some other → lookup (bytes_eq (digest other).bytes) new ≡ None → ⊥
      last place other one here none =
          let same : node ≡ other = some_one (slice_get nodes n) node other at (ap (slice_get nodes) (sym one) ∙ here) in
          no (lookup (bytes_eq (digest other).bytes) entries) (ap (put_or (lookup (bytes_eq (digest other).bytes) entries)) (sym (hash_itself (digest node) (digest other) (ap digest same))) ∙ sym (put (digest other)) ∙ none)
        where
          no : (o : Option ℕ) → put_or o true ≡ None → ⊥
          no None e = absurd (let f : Some n ≡ None = e in cc)
          no (Some k) e = absurd (let f : Some k ≡ None = e in cc)

  pub kept_next : (mark : Bool) → mark ≡ get_or marks n false → PutsKept mark (digest node) n entries new → KeptTo digest nodes marks (n + 1) new
  kept_next true here put = puts (sym here) put
  kept_next false here same = stays (inr same) (λ m. false≢true (here ∙ m)) same

pub kept_all : (digest : Node → Hash) (nodes : List Node) (marks : List Bool) (n : ℕ) (entries : List (List ℕ × ℕ)) → length nodes ≤ n → KeptTo digest nodes marks n entries → IsKeptTable digest nodes marks entries
kept_all digest nodes marks n entries past was = record { sound = was.sound; whole = λ place node m at none. was.whole place node (let lt = slice_get_within nodes place node at in omega (arith, lt, past)) m at none }

-- ---- digests in paths

pub digest_some : (path digits rest : List ℕ) (name : Hash) → digits ≡ take 64 path → rest ≡ drop 64 path → IsEnd rest → IsHash name × (digits ≡ hash_text name) → IsHash name × IsAtOrBelow (hash_text name) path
digest_some path digits rest name front back ends is = (is.0, by ends)
  where
    whole : path ≡ hash_text name ++ rest
    whole = sym (take-append-drop 64 path) ∙ ap (λ l. l ++ drop 64 path) (sym front ∙ is.1) ∙ ap (λ l. hash_text name ++ l) (sym back)

    by : IsEnd rest → IsAtOrBelow (hash_text name) path
    by (inl none) = inl (whole ∙ ap (λ l. hash_text name ++ l) none ∙ append_nil (hash_text name))
      where
        append_nil : (xs : List ℕ) → xs ++ [] ≡ xs
        append_nil [] = refl
        append_nil (x ∷ xs) = ap (λ l. x ∷ l) (append_nil xs)
    by (inr w) = inr (w.0, whole ∙ ap (λ l. hash_text name ++ l) w.1)

text_long : (name : Hash) → IsHash name → length (hash_text name) ≡ 64
text_long name h = name_text_length name (hash_is_name name h)

long_append : (xs ys : List ℕ) → length (xs ++ ys) ≡ length xs + length ys
long_append [] ys = omega arith
long_append (x ∷ xs) ys = let n = long_append xs ys in omega (arith, n)

-- a path at or below a digest has its digits, and then it ends, or a slash stands there
at_parts : (path : List ℕ) (name : Hash) → IsHash name → IsAtOrBelow (hash_text name) path → (rest : List ℕ) × (path ≡ hash_text name ++ rest) × IsEnd rest
at_parts path name h (inl same) = ([], same ∙ sym (nil (hash_text name)), inl refl)
  where
    nil : (xs : List ℕ) → xs ++ [] ≡ xs
    nil [] = refl
    nil (x ∷ xs) = ap (λ l. x ∷ l) (nil xs)
at_parts path name h (inr below) = (47 ∷ below.0, below.1, inr (below.0, refl))

pub digest_short : (path : List ℕ) (name : Hash) → length path < 64 → IsHash name → IsAtOrBelow (hash_text name) path → ⊥
digest_short path name lt h at =
    let w = at_parts path name h at in
    let n : length path ≡ length (hash_text name) + length w.0 = ap length w.1 ∙ long_append (hash_text name) w.0 in
    let m = text_long name h in
    omega (arith, lt, n, m)

drop_text : (name : Hash) (rest : List ℕ) → IsHash name → drop 64 (hash_text name ++ rest) ≡ rest
drop_text name rest h = ap (λ n. drop n (hash_text name ++ rest)) (sym (text_long name h)) ∙ seam (hash_text name) rest
  where
    seam : (xs ys : List ℕ) → drop (length xs) (xs ++ ys) ≡ ys
    seam [] ys = refl
    seam (x ∷ xs) ys = seam xs ys

pub digest_no_end : (path rest : List ℕ) (name : Hash) → rest ≡ drop 64 path → (IsEnd rest → ⊥) → IsHash name → IsAtOrBelow (hash_text name) path → ⊥
digest_no_end path rest name back never h at =
    let w = at_parts path name h at in
    never (subst IsEnd (sym (back ∙ ap (drop 64) w.1 ∙ drop_text name w.0 h)) w.2)

pub digest_other : (path digits : List ℕ) (name : Hash) → digits ≡ take 64 path → (IsHash name → digits ≡ hash_text name → ⊥) → IsHash name → IsAtOrBelow (hash_text name) path → ⊥
digest_other path digits name front never h at =
    let w = at_parts path name h at in
    never h (front ∙ ap (take 64) w.1 ∙ ap (λ n. take n (hash_text name ++ w.0)) (sym (text_long name h)) ∙ take-append_seam (hash_text name) w.0)

-- behind a prefix
pub behind : (prefix rest text : List ℕ) → IsAtOrBelow text rest → IsAtOrBelow (prefix ++ text) (prefix ++ rest)
behind prefix rest text (inl same) = inl (ap (λ l. prefix ++ l) same)
behind prefix rest text (inr below) = inr (below.0, ap (λ l. prefix ++ l) below.1 ∙ sym (append_assoc prefix text (47 ∷ below.0)))

same_tail : (prefix a b : List ℕ) → prefix ++ a ≡ prefix ++ b → a ≡ b
same_tail [] a b e = e
same_tail (x ∷ xs) a b e = same_tail xs a b (let c : (x ∷ (xs ++ a)) ≡ (x ∷ (xs ++ b)) = e in cc)

pub before : (prefix rest text : List ℕ) → IsAtOrBelow (prefix ++ text) (prefix ++ rest) → IsAtOrBelow text rest
before prefix rest text (inl same) = inl (same_tail prefix rest text same)
before prefix rest text (inr below) = inr (below.0, same_tail prefix rest (text ++ 47 ∷ below.0) (below.1 ∙ append_assoc prefix text (47 ∷ below.0)))

-- two digests at or above one path are one
one_digest : (rest : List ℕ) (a b : Hash) → IsHash a → IsHash b → IsAtOrBelow (hash_text a) rest → IsAtOrBelow (hash_text b) rest → a ≡ b
one_digest rest a b hash_a hash_b at_a at_b =
    let x = at_parts rest a hash_a at_a in
    let y = at_parts rest b hash_b at_b in
    let first : take 64 rest ≡ hash_text a = ap (take 64) x.1 ∙ ap (λ n. take n (hash_text a ++ x.0)) (sym (text_long a hash_a)) ∙ take-append_seam (hash_text a) x.0 in
    let second : take 64 rest ≡ hash_text b = ap (take 64) y.1 ∙ ap (λ n. take n (hash_text b ++ y.0)) (sym (text_long b hash_b)) ∙ take-append_seam (hash_text b) y.0 in
    same_digest a b (hash_is_name a hash_a) (hash_is_name b hash_b) (sym first ∙ second)

-- a path is needed where its digest has a place
pub needed_by : (prefix : List ℕ) (entries : List (List ℕ × ℕ)) (path rest : List ℕ) (name : Hash) (o : Option ℕ) (r : Bool) → path ≡ prefix ++ rest → IsHash name × IsAtOrBelow (hash_text name) rest → o ≡ lookup (bytes_eq name.bytes) entries → r ≡ is_some o
    → MatchBool r (IsNeeded prefix entries path) (IsNeeded prefix entries path → ⊥)
needed_by prefix entries path rest name (Some p) r whole at found told = subst (λ b. MatchBool b (IsNeeded prefix entries path) (IsNeeded prefix entries path → ⊥)) (sym told)
    (record { name = name; is_hash = at.0; at = subst (IsAtOrBelow (prefix ++ hash_text name)) (sym whole) (behind prefix rest (hash_text name) at.1); place = p; found = sym found })
needed_by prefix entries path rest name None r whole at found told = subst (λ b. MatchBool b (IsNeeded prefix entries path) (IsNeeded prefix entries path → ⊥)) (sym told)
    (λ n.
    let here = before prefix rest (hash_text n.name) (subst (IsAtOrBelow (prefix ++ hash_text n.name)) whole n.at) in
    let one : n.name ≡ name = one_digest rest n.name name n.is_hash at.0 here at.1 in
    absurd (let no : None ≡ Some n.place = found ∙ ap (λ (h : Hash). lookup (bytes_eq h.bytes) entries) (sym one) ∙ n.found in cc))

-- what stands behind the digits
pub rest_is : (path : List ℕ) → take (length path - 64) (drop 64 path) ≡ drop 64 path
rest_is path = take_all (length path - 64) (drop 64 path) (let n = length-drop 64 path in omega (arith, n))

-- ---- what isn't needed

pub unneeded_first : (prefix : List ℕ) (entries : List (List ℕ × ℕ)) (paths made : List (List ℕ)) → made ≡ [] → AreUnneeded prefix entries (take 0 paths) made
unneeded_first prefix entries paths made empty = record { sound = λ q has. absurd (nothing q (subst (λ l. Contains l q) empty has)); whole = λ q has. absurd (taken_none paths q has) }

pub unneeded_noted : (prefix : List ℕ) (entries : List (List ℕ × ℕ)) (paths : List (List ℕ)) (i : ℕ) (path : List ℕ) (made new : List (List ℕ)) → i < length paths → path ≡ get_or paths i path → AreUnneeded prefix entries (take i paths) made
    → NotesUnneeded prefix entries path made new → AreUnneeded prefix entries (take (i + 1) paths) new
unneeded_noted prefix entries paths i path made new lt is was (inl w) = record {
  sound = λ q has. elim (Contains-push_cases made path q (subst (λ l. Contains l q) w.1 has)) [
    | inl earlier ↦ let s = was.sound q earlier in (taken_first paths i path q lt is s.0, s.1)
    | inr same ↦ (subst (Contains (take (i + 1) paths)) same (taken_last paths i path lt is), subst (λ p. IsNeeded prefix entries p → ⊥) same w.0)
  ];
  whole = λ q has. elim (taken_or paths i path q lt is has) [
    | inl earlier ↦ elim (was.whole q earlier) [
      | inl there ↦ inl (subst (λ l. Contains l q) (sym w.1) (Contains-append_left made (path ∷ []) q there))
      | inr needed ↦ inr needed
    ]
    | inr same ↦ inl (subst (λ l. Contains l q) (sym w.1) (subst (Contains (made ++ path ∷ [])) same (Contains-push made path)))
  ];
}
unneeded_noted prefix entries paths i path made new lt is was (inr w) = record {
  sound = λ q has. let s = was.sound q (subst (λ l. Contains l q) w.1 has) in (taken_first paths i path q lt is s.0, s.1);
  whole = λ q has. elim (taken_or paths i path q lt is has) [
    | inl earlier ↦ elim (was.whole q earlier) [
      | inl there ↦ inl (subst (λ l. Contains l q) (sym w.1) there)
      | inr needed ↦ inr needed
    ]
    | inr same ↦ inr (subst (IsNeeded prefix entries) same w.0)
  ];
}

pub unneeded_all : (prefix : List ℕ) (entries : List (List ℕ × ℕ)) (paths : List (List ℕ)) (i : ℕ) (made : List (List ℕ)) → length paths ≤ i → AreUnneeded prefix entries (take i paths) made → AreUnneeded prefix entries paths made
unneeded_all prefix entries paths i made past was = subst (λ l. AreUnneeded prefix entries l made) (take_all i paths past) was

-- ---- on the disk

none_not : (o : Option Entry) → o ≡ None → IsSome o → ⊥
none_not o none some = false≢true (sym (ap is_some none) ∙ some)

module _ (prefix : List ℕ) (entries : List (List ℕ × ℕ)) (held : Store) (paths doomed : List (List ℕ)) (listing : IsListing prefix held paths) (are : AreUnneeded prefix entries paths doomed) where
  pub sweeps_of : (i j : Store) → TakesOut doomed i j → Sweeps prefix entries i j
  sweeps_of i j takes = record { others = λ q needed. takes.others q (λ has. let s = are.sound q has in s.1 (needed (listing.are_held q s.0).0)) }

  pub left_of : (now : Store) → TakesOut doomed held now → ((q : List ℕ) → Contains doomed q → now q ≡ None) → (q : List ℕ) → BeginsWith prefix q → IsSome (now q) → IsNeeded prefix entries q
  left_of now takes gone q begins some =
      let still : now q ≡ held q = takes.others q (λ has. none_not (now q) (gone q has) some) in
      elim (are.whole q (listing.all q begins (subst IsSome still some))) [
        | inl there ↦ absurd (none_not (now q) (gone q there) some)
        | inr needed ↦ needed
      ]

-- ---- all together

module _ (digest : Node → Hash) (nodes : List Node) (marks : List Bool) (prefix : List ℕ) (entries : List (List ℕ × ℕ)) (table : IsKeptTable digest nodes marks entries) where
  pub needed_of : ((place : ℕ) (node : Node) → slice_get nodes place ≡ Some node → IsHash (digest node)) → (q : List ℕ) → IsOfKept digest nodes marks prefix q → IsNeeded prefix entries q
  needed_of hashes q k = by (lookup (bytes_eq (digest k.node).bytes) entries) refl
    where
      by : (o : Option ℕ) → lookup (bytes_eq (digest k.node).bytes) entries ≡ o → IsNeeded prefix entries q
      by None e = absurd (table.whole k.place k.node k.marked k.stands e)
      by (Some p) e = record { name = digest k.node; is_hash = hashes k.place k.node k.stands; at = k.at; place = p; found = e }

  pub kept_of : (q : List ℕ) → IsNeeded prefix entries q → IsOfKept digest nodes marks prefix q
  kept_of q n =
      let s = table.sound n.name n.place n.found in
      record { place = s.0; node = s.1; marked = s.2; stands = s.3; at = subst (λ (h : Hash). IsAtOrBelow (prefix ++ hash_text h) q) (sym s.4) n.at }

pub sweeps_objects : (nodes : List Node) (marks : List Bool) (entries : List (List ℕ × ℕ)) → IsKeptTable (λ n. n.unihash) nodes marks entries → (i j : Store) → Sweeps (codes "obj/") entries i j → SweepsAll nodes marks i j
sweeps_objects nodes marks entries table i j s = record {
  others = λ hashes q objects keys ne. s.others q (λ b. needed_of (λ n. n.unihash) nodes marks (codes "obj/") entries table (λ p n e. (hashes.each p n e).0) q (objects b));
}

pub sweeps_keys : (nodes : List Node) (marks : List Bool) (entries : List (List ℕ × ℕ)) → IsKeptTable (λ n. n.key) nodes marks entries → (i j : Store) → Sweeps (codes "key/") entries i j → SweepsAll nodes marks i j
sweeps_keys nodes marks entries table i j s = record {
  others = λ hashes q objects keys ne. s.others q (λ b. needed_of (λ n. n.key) nodes marks (codes "key/") entries table (λ p n e. (hashes.each p n e).1) q (keys b));
}

pub sweeps_gone : (nodes : List Node) (marks : List Bool) (i j : Store) → ChangesAt gone_path i j → SweepsAll nodes marks i j
sweeps_gone nodes marks i j c = record { others = λ hashes q objects keys ne. c.others q ne }

pub sweeps_same : (nodes : List Node) (marks : List Bool) (i : Store) → SweepsAll nodes marks i i
sweeps_same nodes marks i = record { others = λ hashes q objects keys ne. refl }

pub sweeps_join : (nodes : List Node) (marks : List Bool) (i j k : Store) → SweepsAll nodes marks i j → SweepsAll nodes marks j k → SweepsAll nodes marks i k
sweeps_join nodes marks i j k a b = record { others = λ hashes q objects keys ne. b.others hashes q objects keys ne ∙ a.others hashes q objects keys ne }

-- what is left behind all
pub left_all : (nodes : List Node) (marks : List Bool) (objects keys : List (List ℕ × ℕ)) → IsKeptTable (λ n. n.unihash) nodes marks objects → IsKeptTable (λ n. n.key) nodes marks keys → (a b c : Store)
    → ((q : List ℕ) → BeginsWith (codes "obj/") q → IsSome (a q) → IsNeeded (codes "obj/") objects q) → Sweeps (codes "key/") keys a b → ((q : List ℕ) → BeginsWith (codes "key/") q → IsSome (b q) → IsNeeded (codes "key/") keys q) → ChangesAt gone_path b c → c gone_path ≡ None
    → SweepsLeft nodes marks c
left_all nodes marks objects keys object_table key_table a b c left_objects sweeps left_keys changes gone = record {
  objects = λ q begins some.
      let from_b : c q ≡ b q = changes.others q (λ e. heads_differ (differ 111 116 refl) (sym begins.1 ∙ e)) in
      let from_a : b q ≡ a q = sweeps.others q (λ k. absurd (heads_differ (differ 111 107 refl) (sym begins.1 ∙ k.1))) in
      kept_of (λ n. n.unihash) nodes marks (codes "obj/") objects object_table q (left_objects q begins (subst IsSome (from_b ∙ from_a) some));
  keys = λ q begins some.
      let from_b : c q ≡ b q = changes.others q (λ e. heads_differ (differ 107 116 refl) (sym begins.1 ∙ e)) in
      kept_of (λ n. n.key) nodes marks (codes "key/") keys key_table q (left_keys q begins (subst IsSome from_b some));
  gone = gone;
}
