-- Keys come to stand at their places, one after another.
use Rattle.std.proofs.Common.{◌≡◌, ◌≢◌, ◌∙◌, sym, ap, subst, refl, ℕ, ◌+◌, ◌<◌, ◌≤◌, ◌⊎◌, inl, inr, List, [], ◌∷◌, ◌++◌, length, Some, arith, get_or, drop, take, false}
use Rattle.std.specs.Prelude.{codes, Contains}
use Rattle.std.proofs.lemmas.List.{take_all, take_more}
use Rattle.std.proofs.lemmas.List.{take-append-drop}
use Rattle.std.proofs.lemmas.List.Elements.{Contains-append_left, Contains-push_cases}
use Rattle.tree_model.specs.declared.entry.Entry.{Entry}
use Rattle.tree_model.specs.declared.entry.Entry.TheVariants.{File}
use Rattle.tree_model.specs.declared.hash.Hash.{Hash}
use Rattle.tree_model.specs.Hash.{IsHash, hash_text}
use Rattle.sha2.specs.Sha256.{sha256}
use Rattle.meta_model.specs.declared.value.Key.{Key}
use Rattle.outside_traits.specs.Store.{PutsEntry, Store}
use Rattle.outside_traits.proofs.Folders.{under_same}
use Rattle.outside_traits.proofs.Puts.{path_cases}
use Rattle.store_model.specs.Paths.{key_path}
use Rattle.store_model.specs.Spelling.{key_bytes, key_name}
use Rattle.store_model.proofs.Digests.{key_name_is_hash}
use Rattle.store_opening.specs.Named.{IsName}
use Rattle.store_opening.specs.Paths.{IsLaidOut}
use Rattle.store_opening.proofs.Clean.{hash_is_name, same_digest}
use Rattle.record_move.proofs.Keeping.{key_name_is}
use Rattle.record_move.specs.Known.{digest}
use Rattle.record_move.specs.declared.records.AddedRecord.{AddedRecord}
use Rattle.store_upgrade.specs.Steps.{HaveOneKey, HoldsKeys, KeysDiffer, PutsKeys, key_of}
use Rattle.store_upgrade.proofs.Laid.{IsWell, laid_changed, well_key}

abbrev pub HoldsFirst : List AddedRecord → Store → Type 0
HoldsFirst first held = HoldsKeys first held

pub named_by : (key : Key) (name : Hash) → name.bytes ≡ sha256 (key_bytes key) → name ≡ key_name key
named_by key name is = let same : name ≡ digest (key_bytes key) = λ i. record { bytes = is i } in same ∙ key_name_is key

pub key_is_name : (key : Key) → IsName (key_name key)
key_is_name key = hash_is_name (key_name key) (key_name_is_hash key)

pub put_laid : (held now : Store) (path : List ℕ) (entry : Entry) (key : Key) → path ≡ key_path (key_name key) → PutsEntry path entry held held now → IsLaidOut held → IsLaidOut now
put_laid held now path entry key at puts laid = laid_changed held now path (subst IsWell (sym at) (well_key (key_name key) (key_is_name key))) (record { others = puts.others }) laid

-- the key of a record at the end of those that were gone through
pub last_of : (added : List AddedRecord) (n : ℕ) (a b : AddedRecord) → n < length added → a ≡ get_or added n a → Contains (take (n + 1) added) b → Contains (take n added) b ⊎ (a ≡ b)
last_of added n a b lt is has =
    let grown : take (n + 1) added ≡ take n added ++ a ∷ [] = take_more added n a lt ∙ ap (λ (x : AddedRecord). take n added ++ x ∷ []) (sym is) in
    Contains-push_cases (take n added) a b (subst (λ (l : List AddedRecord). Contains l b) grown has)

pub among_all : (added : List AddedRecord) (n : ℕ) (a : AddedRecord) → n < length added → a ≡ get_or added n a → Contains added a
among_all added n a lt is = (n, lt, sym is)

pub front_among : (added : List AddedRecord) (n : ℕ) (b : AddedRecord) → Contains (take n added) b → Contains added b
front_among added n b has = subst (λ (l : List AddedRecord). Contains l b) (take-append-drop n added) (Contains-append_left (take n added) (drop n added) b has)

-- keys in order: what one more call does
pub keys_run : (added : List AddedRecord) (a : AddedRecord) (held mid : Store) → Contains added a → PutsKeys added held held mid → (i j k : Store) → PutsKeys added held i j → PutsEntry (key_path (key_name a.stored.sig.key)) (key_of a) mid j k → PutsKeys added held i k
keys_run added a held mid among sofar i j k puts entry = record {
  others = λ q never. entry.others q (never a among) ∙ puts.others q never;
  right = λ name bytes hash is one. by name bytes hash is one (path_cases (key_path name) (key_path (key_name a.stored.sig.key)));
}
  where
    by : (name : Hash) (bytes : List ℕ) → IsHash name → held (key_path name) ≡ Some (File false bytes) → HaveOneKey added name bytes → (key_path name ≡ key_path (key_name a.stored.sig.key)) ⊎ (key_path name ≢ key_path (key_name a.stored.sig.key)) → k (key_path name) ≡ i (key_path name)
    by name bytes hash is one (inr other) = entry.others (key_path name) other ∙ puts.right name bytes hash is one
    by name bytes hash is one (inl same) =
        let own : key_name a.stored.sig.key ≡ name = same_digest (key_name a.stored.sig.key) name (key_is_name a.stored.sig.key) (hash_is_name name hash) (sym (under_same (codes "key") (hash_text name) (hash_text (key_name a.stored.sig.key)) same)) in
        let right : key_bytes a.stored.sig.key ≡ bytes = one a among own in
        let there : mid (key_path (key_name a.stored.sig.key)) ≡ Some (key_of a) = ap mid (sym same) ∙ sofar.right name bytes hash is one ∙ is ∙ ap (λ (b : List ℕ). Some (File false b)) (sym right) in
        ap k same ∙ entry.right there ∙ ap j (sym same) ∙ puts.right name bytes hash is one

pub keys_none : (added : List AddedRecord) (held i : Store) → PutsKeys added held i i
keys_none added held i = record { others = λ q never. refl; right = λ name bytes hash is one. refl }

-- one key more stands
pub keys_more : (added : List AddedRecord) (n : ℕ) (a : AddedRecord) (held mid now : Store) → n < length added → a ≡ get_or added n a → KeysDiffer added → HoldsFirst (take n added) mid
    → PutsEntry (key_path (key_name a.stored.sig.key)) (key_of a) mid mid now → now (key_path (key_name a.stored.sig.key)) ≡ Some (key_of a) → HoldsFirst (take (n + 1) added) now
keys_more added n a held mid now lt is differ was puts here b has = by (last_of added n a b lt is has)
  where
    among : Contains added a
    among = among_all added n a lt is

    by : Contains (take n added) b ⊎ (a ≡ b) → now (key_path (key_name b.stored.sig.key)) ≡ Some (key_of b)
    by (inr same) = subst (λ (x : AddedRecord). now (key_path (key_name x.stored.sig.key)) ≡ Some (key_of x)) same here
    by (inl earlier) = at (path_cases (key_path (key_name b.stored.sig.key)) (key_path (key_name a.stored.sig.key)))
      where
        at : (key_path (key_name b.stored.sig.key) ≡ key_path (key_name a.stored.sig.key)) ⊎ (key_path (key_name b.stored.sig.key) ≢ key_path (key_name a.stored.sig.key)) → now (key_path (key_name b.stored.sig.key)) ≡ Some (key_of b)
        at (inr other) = puts.others (key_path (key_name b.stored.sig.key)) other ∙ was b earlier
        at (inl same) =
            let own : key_name b.stored.sig.key ≡ key_name a.stored.sig.key = same_digest (key_name b.stored.sig.key) (key_name a.stored.sig.key) (key_is_name b.stored.sig.key) (key_is_name a.stored.sig.key) (under_same (codes "key") (hash_text (key_name b.stored.sig.key)) (hash_text (key_name a.stored.sig.key)) same) in
            let bytes : key_bytes b.stored.sig.key ≡ key_bytes a.stored.sig.key = differ a among b (front_among added n b earlier) own in
            ap now same ∙ here ∙ ap (λ (l : List ℕ). Some (File false l)) (sym bytes)

pub none_first : (xs : List AddedRecord) (a : AddedRecord) → Contains (take 0 xs) a → ⊥
none_first xs a has = let lt = has.1 in omega (arith, lt)

pub keys_start : (added : List AddedRecord) (held : Store) → HoldsFirst (take 0 added) held
keys_start added held a has = absurd (none_first added a has)

pub keys_all : (added : List AddedRecord) (n : ℕ) (held : Store) → length added ≤ n → HoldsFirst (take n added) held → HoldsKeys added held
keys_all added n held past was = subst (λ (l : List AddedRecord). HoldsFirst l held) (take_all n added past) was
