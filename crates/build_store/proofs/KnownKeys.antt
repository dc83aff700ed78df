-- Keys that are known, and held.
use Rattle.std.proofs.Common.{◌≡◌, ◌≢◌, ◌∙◌, sym, ap, subst, refl, ℕ, Bool, true, false, cond, inr, List, [], ◌∷◌, ◌++◌, Option, Some, None, bytes_eq, length, take, ◌<◌, ◌+◌}
use Rattle.std.specs.Prelude.{codes, is_none, if◌then◌else◌, Contains}
use Rattle.std.specs.List.{AllByRecursion}
use Rattle.std.specs.Option.{option_or}
use Rattle.std.proofs.lemmas.Bool.{false≢true}
use Rattle.std.proofs.lemmas.List.{take_more}
use Rattle.std.proofs.lemmas.List.Folds.{find-append}
use Rattle.std.proofs.lemmas.Option.{get_or_from_slice_get}
use Rattle.sha2.specs.Sha256.{sha256}
use Rattle.tree_model.specs.declared.entry.Entry.TheVariants.{File}
use Rattle.tree_model.specs.declared.hash.Hash.{Hash}
use Rattle.tree_model.specs.Hash.{hash_text}
use Rattle.outside_traits.specs.Passes.{Passes}
use Rattle.outside_traits.specs.Store.{ChangesAt, Store}
use Rattle.outside_traits.specs.Story.{Story}
use Rattle.outside_traits.proofs.Folders.{under_same}
use Rattle.outside_traits.proofs.Runs.{each_now}
use Rattle.store_model.specs.declared.signature.EquivRow.{EquivRow}
use Rattle.store_model.specs.declared.signature.SigRecord.{SigRecord}
use Rattle.store_model.specs.Paths.{key_path, record_path}
use Rattle.store_model.specs.Readable.{IsHeld}
use Rattle.store_model.specs.Spelling.{key_name, key_part, signature_bytes}
use Rattle.store_model.proofs.Digests.{digest_is_hash}
use Rattle.store_model.proofs.Listing.{find_splits}
use Rattle.store_model.proofs.Ordered.{each_append, each_middle, each_weaker}
use Rattle.record_move.specs.Known.{digest, key_named}
use Rattle.record_move.proofs.Keeping.{found_is_named, last_is_found}
use Rattle.store_opening.specs.Named.{IsName}
use Rattle.store_opening.specs.Paths.{IsLaidOut}
use Rattle.store_opening.specs.Sound.{IsKept}
use Rattle.store_opening.proofs.Areas.{differ, heads_differ}
use Rattle.store_opening.proofs.Clean.{hash_is_name}
use Rattle.store_opening.proofs.Surveyed.{each_of}
use Rattle.meta_model.specs.CleanBuild.{Entries}
use Rattle.store_model.specs.Signatures.{Signed}
use Rattle.build_store.specs.declared.fault.StoreFault.{StoreFault}
use Rattle.build_store.specs.declared.fault.StoreFault.TheVariants as fault
use Rattle.store_model.specs.Clashes.{KeysAgree}
use Rattle.build_store.specs.Drafts.{IsKeyClash}
use Rattle.build_store.specs.Faults.{IsRefusal}
use Rattle.build_store.specs.View.{OpenView, open_in, open_view_of, opened_at}
use Rattle.build_store.proofs.Phasing.{laid_key}
use Rattle.build_store.specs.declared.pieces.OpenPublication.{OpenPublication}
use Rattle.build_store.specs.Keys.{AreOfRows, HasNewKey, HasNoOtherKey, HoldsKeyOf, HoldsKeys, KnowsKeyOf, KnowsRowAt, KnowsRows, PutsKey, is_new_key, keys_behind, keys_with, text_key}
use Rattle.build_store.specs.Standing.{HoldsOpen, KnowsOpen}
use Rattle.build_store.proofs.Digests.{same_digest}
use Rattle.build_store.proofs.Stays.{each_both}
use Rattle.build_store.proofs.Texts.{held_key, row_key_name, text_key_bytes, text_key_is}

-- ---- names of keys

pub text_key_is_name : (text : List ℕ) → IsName (text_key text)
text_key_is_name text = hash_is_name (text_key text) (digest_is_hash (key_part text))

-- keys with one place have one name
pub one_place : (a b : List ℕ) → key_path (text_key a) ≡ key_path (text_key b) → text_key a ≡ text_key b
one_place a b same = same_digest (text_key a) (text_key b) (text_key_is_name a) (text_key_is_name b) (under_same (codes "key") (hash_text (text_key a)) (hash_text (text_key b)) same)

named_is_name : (keys : List (List ℕ)) (name : Hash) (key : List ℕ) → key_named keys name ≡ Some key → name ≡ record { bytes = sha256 key }
named_is_name keys name key found = ap (λ (l : List ℕ). record { bytes = l }) (found_is_named keys name key found)

-- ---- one key more

module _ (keys : List (List ℕ)) (text : List ℕ) where
  found_more : (name : Hash) (key more : List ℕ) → key_named keys name ≡ Some key → key_named (keys ++ more ∷ []) name ≡ Some key
  found_more name key more found = find-append (λ k. bytes_eq name.bytes (sha256 k)) keys (more ∷ []) ∙ ap (λ o. option_or o (key_named (more ∷ []) name)) found

  pub named_still : (name : Hash) (key : List ℕ) → key_named keys name ≡ Some key → key_named (keys_behind keys text) name ≡ Some key
  named_still name key found = by (is_none (key_named keys (text_key text)))
    where
      by : (b : Bool) → key_named (if b then keys ++ key_part text ∷ [] else keys) name ≡ Some key
      by true = found_more name key (key_part text) found
      by false = found

  pub knows_still : (other : List ℕ) → KnowsKeyOf keys other → KnowsKeyOf (keys_behind keys text) other
  knows_still other known = named_still (text_key other) (key_part other) known

  pub rows_still : (rows : List EquivRow) → KnowsRows keys rows → KnowsRows (keys_behind keys text) rows
  rows_still rows all = each_weaker (λ (row : EquivRow). KnowsKeyOf keys row.sig) (λ (row : EquivRow). KnowsKeyOf (keys_behind keys text) row.sig) (λ row known. knows_still row.sig known) rows all

  pub open_still : (open_ones : List OpenPublication) → KnowsOpen keys open_ones → KnowsOpen (keys_behind keys text) open_ones
  open_still open_ones all = each_weaker (λ (one : OpenPublication). KnowsKeyOf keys one.sig) (λ (one : OpenPublication). KnowsKeyOf (keys_behind keys text) one.sig) (λ one known. knows_still one.sig known) open_ones all

  -- where no other one of its name was known
  pub knows_own : ((key : List ℕ) → key_named keys (text_key text) ≡ Some key → key ≡ key_part text) → KnowsKeyOf (keys_behind keys text) text
  knows_own one = by (key_named keys (text_key text)) refl
    where
      by : (o : Option (List ℕ)) → key_named keys (text_key text) ≡ o → KnowsKeyOf (keys_behind keys text) text
      by None none = rw none (last_is_found keys (text_key text) (key_part text) none refl)
      by (Some key) some = rw some (some ∙ ap (λ k. Some k) (one key some))

  pub behind_none : key_named keys (text_key text) ≡ None → keys_behind keys text ≡ keys ++ key_part text ∷ []
  behind_none none = ap (λ (o : Option (List ℕ)). if is_none o then keys ++ key_part text ∷ [] else keys) none

  pub behind_some : (key : List ℕ) → key_named keys (text_key text) ≡ Some key → keys_behind keys text ≡ keys
  behind_some key some = ap (λ (o : Option (List ℕ)). if is_none o then keys ++ key_part text ∷ [] else keys) some

  -- what is known by it is held
  last_named : (name : Hash) (key : List ℕ) → key_named keys name ≡ None → key_named (keys ++ key_part text ∷ []) name ≡ Some key → (name ≡ text_key text) × (key ≡ key_part text)
  last_named name key none found =
      let all : key_named (key_part text ∷ []) name ≡ Some key = ap (λ o. option_or o (key_named (key_part text ∷ []) name)) (sym none) ∙ sym (find-append (λ k. bytes_eq name.bytes (sha256 k)) keys (key_part text ∷ [])) ∙ found in
      let is : key ≡ key_part text = by (bytes_eq name.bytes (sha256 (key_part text))) all in
      (named_is_name (keys ++ key_part text ∷ []) name key found ∙ ap (λ (l : List ℕ). record { bytes = sha256 l }) is, is)
    where
      by : (b : Bool) → cond b (Some (key_part text)) None ≡ Some key → key ≡ key_part text
      by true e = let same : Some (key_part text) ≡ Some key = e in cc
      by false e = let bad : None ≡ Some key = e in absurd (cc)

  module _ (old new : Store) (puts : PutsKey keys text old new) (holds : HoldsKeys keys old) where
    -- those that were known are held still
    pub holds_still : HoldsKeys keys new
    holds_still name key found = puts.others (key_path name) (λ none same. different none same) ∙ holds name key found
      where
        different : is_none (key_named keys (text_key text)) ≡ true → key_path name ≡ key_path (text_key text) → ⊥
        different none same =
            let is = named_is_name keys name key found in
            let named : IsName name = subst IsName (sym is) (hash_is_name (record { bytes = sha256 key }) (digest_is_hash key)) in
            let one : name ≡ text_key text = same_digest name (text_key text) named (text_key_is_name text) (under_same (codes "key") (hash_text name) (hash_text (text_key text)) same) in
            false≢true (sym (ap is_none (sym (ap (key_named keys) one) ∙ found)) ∙ none)

    pub holds_behind : HoldsKeyOf text new → HoldsKeys (keys_behind keys text) new
    holds_behind has = by (key_named keys (text_key text)) refl
      where
        by : (o : Option (List ℕ)) → key_named keys (text_key text) ≡ o → HoldsKeys (keys_behind keys text) new
        by (Some known) some = subst (λ (ks : List (List ℕ)). HoldsKeys ks new) (sym (behind_some known some)) holds_still
        by None none = subst (λ (ks : List (List ℕ)). HoldsKeys ks new) (sym (behind_none none)) (λ name key found. at name key found (key_named keys name) refl)
          where
            at : (name : Hash) (key : List ℕ) → key_named (keys ++ key_part text ∷ []) name ≡ Some key → (o : Option (List ℕ)) → key_named keys name ≡ o → new (key_path name) ≡ Some (File false key)
            at name key found (Some other) was =
                let e : Some other ≡ Some key = sym (found_more name other (key_part text) was) ∙ found in
                let same : other ≡ key = cc in
                holds_still name key (was ∙ ap (λ k. Some k) same)
            at name key found None was =
                let w = last_named name key was found in
                ap (λ (n : Hash). new (key_path n)) w.0 ∙ has ∙ ap (λ (k : List ℕ). Some (File false k)) (sym w.1)

-- ---- by signatures

pub behind_with : (keys : List (List ℕ)) (sig : SigRecord) → keys_behind keys (signature_bytes sig) ≡ keys_with keys sig
behind_with keys sig i = if is_none (key_named keys (text_key_is sig i)) then keys ++ text_key_bytes sig i ∷ [] else keys

pub one_of_text : (keys : List (List ℕ)) (sig : SigRecord) → HasNoOtherKey keys sig → (key : List ℕ) → key_named keys (text_key (signature_bytes sig)) ≡ Some key → key ≡ key_part (signature_bytes sig)
one_of_text keys sig one key found = one key (ap (key_named keys) (sym (text_key_is sig)) ∙ found) ∙ sym (text_key_bytes sig)

pub one_of_sig : (keys : List (List ℕ)) (sig : SigRecord) → ((key : List ℕ) → key_named keys (text_key (signature_bytes sig)) ≡ Some key → key ≡ key_part (signature_bytes sig)) → HasNoOtherKey keys sig
one_of_sig keys sig one key found = one key (ap (key_named keys) (text_key_is sig) ∙ found) ∙ text_key_bytes sig

-- ---- the rows stay held

module _ (keys : List (List ℕ)) (text : List ℕ) where
  pub key_stays_held : (other : List ℕ) (i k : Store) → KnowsKeyOf keys other → PutsKey keys text i k → k (key_path (text_key other)) ≡ i (key_path (text_key other))
  key_stays_held other i k known puts = puts.others (key_path (text_key other)) (λ none same.
      false≢true (sym (ap is_none (sym (ap (key_named keys) (one_place other text same)) ∙ known)) ∙ none))

  held_still : (rows : List EquivRow) (i k : Store) → KnowsRows keys rows → PutsKey keys text i k → AllByRecursion (IsHeld i) rows → AllByRecursion (IsHeld k) rows
  held_still rows i k known puts all = each_both (IsHeld i) (λ (row : EquivRow). KnowsKeyOf keys row.sig) (IsHeld k) rows all known (λ row h knows. record {
    known = h.known;
    held = puts.others (record_path row.name) (λ none. heads_differ (differ 114 107 refl)) ∙ h.held;
    key_held =
        let at : key_path h.known.stored.sig.key ≡ key_path (text_key row.sig) = ap key_path (sym (row_key_name row h.known)) in
        ap k at ∙ key_stays_held row.sig i k knows puts ∙ ap i (sym at) ∙ h.key_held;
  })

  pub kept_still : (rows : List EquivRow) (a b : Story) → KnowsRows keys rows → IsKept rows a → Passes a b (PutsKey keys text) → IsLaidOut b.held → IsKept rows b
  kept_still rows a b known was run laid = record {
    laid_out = laid;
    stored = each_now (λ i. AllByRecursion (IsHeld i) rows) (λ k. AllByRecursion (IsHeld k) rows) was.stored run (λ i k held puts. held_still rows i k known puts held);
  }

-- ---- what is known of open ones is held

pub open_held : (keys : List (List ℕ)) (held : Store) (open_ones : List OpenPublication) → HoldsKeys keys held → KnowsOpen keys open_ones → HoldsOpen open_ones held
open_held keys held open_ones holds all = each_weaker (λ (one : OpenPublication). KnowsKeyOf keys one.sig) (λ (one : OpenPublication). HoldsKeyOf one.sig held) (λ one known. holds (text_key one.sig) (key_part one.sig) known) open_ones all

-- ---- what follows for the key of a signature

module _ (keys : List (List ℕ)) (sig : SigRecord) where
  pub agrees_known : (text : List ℕ) → HasNoOtherKey keys sig → KnowsKeyOf keys text → KeysAgree text (signature_bytes sig)
  agrees_known text one known digest =
      let name : text_key text ≡ text_key (signature_bytes sig) = ap (λ (l : List ℕ). record { bytes = l }) digest in
      one_of_text keys sig one (key_part text) (ap (key_named keys) (sym name) ∙ known)

  unused_known : (text : List ℕ) → is_new_key keys sig ≡ true → KnowsKeyOf keys text → text_key text ≢ key_name sig.key
  unused_known text new known same = false≢true (sym (ap is_none (ap (key_named keys) (sym same) ∙ known)) ∙ new)

pub row_known : (keys : List (List ℕ)) (rows : List EquivRow) (row : EquivRow) → KnowsRows keys rows → Contains rows row → KnowsKeyOf keys row.sig
row_known keys rows row all has = each_of (λ (r : EquivRow). KnowsKeyOf keys r.sig) rows row all has

pub view_known : (keys : List (List ℕ)) (xs : List OpenPublication) (folder : List ℕ) (one : OpenView) → KnowsOpen keys xs → opened_at (open_in xs) folder ≡ Some one → KnowsKeyOf keys one.sig
view_known keys [] folder one all is = absurd (cc)
view_known keys (x ∷ xs) folder one all is = by (bytes_eq x.folder folder) refl (view_known keys xs folder one all.1)
  where
    by : (b : Bool) → bytes_eq x.folder folder ≡ b → (opened_at (open_in xs) folder ≡ Some one → KnowsKeyOf keys one.sig) → KnowsKeyOf keys one.sig
    by true e more =
        let found : Some (open_view_of x) ≡ Some one = rw e at is in
        let same : open_view_of x ≡ one = cc in
        subst (λ (v : OpenView). KnowsKeyOf keys v.sig) same all.0
    by false e more = more (rw e at is)

pub new_known : (keys : List (List ℕ)) (sig : SigRecord) (rows : List EquivRow) (xs : List OpenPublication) → KnowsRows keys rows → KnowsOpen keys xs → is_new_key keys sig ≡ true → HasNewKey rows (open_in xs) sig
new_known keys sig rows xs all opened new = record {
  rows = each_weaker (λ (row : EquivRow). KnowsKeyOf keys row.sig) (λ (row : EquivRow). text_key row.sig ≢ key_name sig.key) (λ row known. unused_known keys sig row.sig new known) rows all;
  opens = λ folder one at. unused_known keys sig one.sig new (view_known keys xs folder one opened at);
}

-- ---- a laid out store stays so

pub laid_puts : (keys : List (List ℕ)) (text : List ℕ) (i j : Store) → PutsKey keys text i j → IsLaidOut i → IsLaidOut j
laid_puts keys text i j puts was = laid_key (text_key text) i j (text_key_is_name text) (record { others = λ q ne. puts.others q (λ none. ne) }) was

-- what is kept is kept still
pub keeps_puts : (keys : List (List ℕ)) (text : List ℕ) (rows : List EquivRow) (a b : Story) → KnowsRows keys rows → IsKept rows a → Passes a b (PutsKey keys text) → IsKept rows b
keeps_puts keys text rows a b known kept puts = kept_still keys text rows a b known kept puts (laid_puts keys text a.held b.held puts.held kept.laid_out)

-- ---- as a store is opened

-- the keys of rows that are held are held
pub rows_held : (keys : List (List ℕ)) (rows : List EquivRow) (held : Store) → AreOfRows rows keys → AllByRecursion (IsHeld held) rows → HoldsKeys keys held
rows_held keys rows held of all = λ name key found.
    let splits = find_splits (λ k. bytes_eq name.bytes (sha256 k)) keys key found in
    let w = each_middle (λ k. (row : EquivRow) × Contains rows row × (k ≡ key_part row.sig)) splits.0.front key splits.0.rest (subst (AreOfRows rows) splits.0.is of) in
    let has : HoldsKeyOf w.0.sig held = held_key held w.0 (each_of (IsHeld held) rows w.0 all w.1) in
    let is : name ≡ text_key w.0.sig = named_is_name keys name key found ∙ ap (λ (k : List ℕ). record { bytes = sha256 k }) w.2 in
    ap (λ (n : Hash). held (key_path n)) is ∙ has ∙ ap (λ (k : List ℕ). Some (File false k)) (sym w.2)

-- ---- keys as the code has them

-- a key is added, where no other one of its name was known
pub know_added : (old new : List (List ℕ)) (key text : List ℕ) → key ≡ key_part text → (key_named old (digest key) ≡ None → new ≡ old ++ key ∷ []) → ((held : List ℕ) → key_named old (digest key) ≡ Some held → (held ≡ key) × (new ≡ old)) → KnowsKeyOf new text
know_added old new key text is added known = by (key_named old (digest key)) refl
  where
    at : key_named old (text_key text) ≡ key_named old (digest key)
    at = ap (λ (k : List ℕ). key_named old (digest k)) (sym is)

    by : (o : Option (List ℕ)) → key_named old (digest key) ≡ o → KnowsKeyOf new text
    by None none = ap (λ (ks : List (List ℕ)). key_named ks (text_key text)) (added none) ∙ last_is_found old (text_key text) key (at ∙ none) (ap sha256 (sym is)) ∙ ap (λ k. Some k) is
    by (Some held) some = let w = known held some in ap (λ (ks : List (List ℕ)). key_named ks (text_key text)) w.1 ∙ at ∙ some ∙ ap (λ k. Some k) (w.0 ∙ is)

pub name_by_digest : (h : Hash) (slice text : List ℕ) → h.bytes ≡ sha256 slice → slice ≡ key_part text → h ≡ text_key text
name_by_digest h slice text is same = ap (λ (l : List ℕ). record { bytes = l }) (is ∙ ap sha256 same)

-- a key that is known by the name is the one of the text, where this one was compared with it
pub same_found : (keys : List (List ℕ)) (text : List ℕ) (h : Hash) (held : List ℕ) → h ≡ text_key text → Some held ≡ key_named keys h → held ≡ key_part text → (key : List ℕ) → key_named keys (text_key text) ≡ Some key → key ≡ key_part text
same_found keys text h held is found same key at =
    let one : Some key ≡ Some held = sym at ∙ ap (key_named keys) (sym is) ∙ sym found in
    let own : key ≡ held = cc in
    own ∙ same

pub none_found : (keys : List (List ℕ)) (text : List ℕ) (h : Hash) → h ≡ text_key text → None ≡ key_named keys h → (key : List ℕ) → key_named keys (text_key text) ≡ Some key → key ≡ key_part text
none_found keys text h is found key at =
    let bad : None ≡ Some key = found ∙ ap (key_named keys) is ∙ at in
    absurd (cc)

pub some_held : (keys : List (List ℕ)) (text : List ℕ) (h : Hash) (held : List ℕ) (store : Store) → h ≡ text_key text → Some held ≡ key_named keys h → ((key : List ℕ) → key_named keys (text_key text) ≡ Some key → key ≡ key_part text) → HoldsKeys keys store → HoldsKeyOf text store
some_held keys text h held store is found one holds =
    let at : key_named keys (text_key text) ≡ Some held = ap (key_named keys) (sym is) ∙ sym found in
    holds (text_key text) held at ∙ ap (λ (k : List ℕ). Some (File false k)) (one held at)

pub puts_by_change : (keys : List (List ℕ)) (text : List ℕ) (h : Hash) → h ≡ text_key text → None ≡ key_named keys h → (i j : Store) → ChangesAt (key_path h) i j → PutsKey keys text i j
puts_by_change keys text h is found i j change = record {
  others = λ q ne. change.others q (λ same. ne (ap is_none (ap (key_named keys) (sym is) ∙ sym found)) (same ∙ ap key_path is));
}

-- the known key of a signature's name is its own
pub known_one : (keys : List (List ℕ)) (sig : SigRecord) → KnowsKeyOf keys (signature_bytes sig) → HasNoOtherKey keys sig
known_one keys sig known = one_of_sig keys sig (λ key found.
    let both : Some key ≡ Some (key_part (signature_bytes sig)) = sym found ∙ known in
    let same : key ≡ key_part (signature_bytes sig) = cc in
    same)

-- another one is a refusal
pub key_refusal : (rows : List EquivRow) (keys : List (List ℕ)) (s : Signed) (tree : Entries) (f : StoreFault) → IsKeyClash keys (signature_bytes s.sig) f → IsRefusal rows keys s tree f
key_refusal rows keys s tree fault.Disk clash = absurd clash
key_refusal rows keys s tree fault.Memory clash = tt
key_refusal rows keys s tree (fault.Collision name held given) clash = inr (record {
  name_is = clash.1 ∙ text_key_is s.sig;
  held_is = clash.0;
  given_is = clash.2 ∙ text_key_bytes s.sig;
  differ = clash.3;
  held_name = sym (found_is_named keys name held clash.0);
  given_name = ap sha256 clash.2 ∙ sym (ap (λ (h : Hash). h.bytes) clash.1);
})
key_refusal rows keys s tree (fault.Unsteady pn task held given) clash = absurd clash

-- ---- the keys of an index

pub rows_known_more : (rows : List EquivRow) (place : ℕ) (old new : List (List ℕ)) → place < length rows → KnowsRowAt rows place old new → KnowsRows old (take place rows) → KnowsRows new (take (place + 1) rows)
rows_known_more rows place old new lt at all =
    let still : KnowsRows new (take place rows) = subst (λ (ks : List (List ℕ)). KnowsRows ks (take place rows)) (sym at.is) (rows_still old at.row.sig (take place rows) all) in
    subst (λ (l : List EquivRow). KnowsRows new l) (sym (take_more rows place at.row lt ∙ ap (λ (r : EquivRow). take place rows ++ r ∷ []) (get_or_from_slice_get rows place at.row at.row at.is_row)))
    (each_append (λ (r : EquivRow). KnowsKeyOf new r.sig) (take place rows) (at.row ∷ []) still (at.knows, tt))

pub of_rows_more : (rows : List EquivRow) (place : ℕ) (old new : List (List ℕ)) → place < length rows → KnowsRowAt rows place old new → AreOfRows rows old → AreOfRows rows new
of_rows_more rows place old new lt at all = subst (AreOfRows rows) (sym at.is) (by (is_none (key_named old (text_key at.row.sig))))
  where
    its : (row : EquivRow) × Contains rows row × (key_part at.row.sig ≡ key_part row.sig)
    its = (at.row, (place, lt, get_or_from_slice_get rows place at.row at.row at.is_row), refl)

    by : (b : Bool) → AreOfRows rows (if b then old ++ key_part at.row.sig ∷ [] else old)
    by true = each_append (λ key. (row : EquivRow) × Contains rows row × (key ≡ key_part row.sig)) old (key_part at.row.sig ∷ []) all (its, tt)
    by false = all
