-- What is known of the records that a move adds, behind the book that a store holds.
use Rattle.std.proofs.Common.{◌≡◌, ◌≢◌, ◌∙◌, sym, ap, subst, ℕ, zero, suc, Bool, List, [], ◌∷◌, ◌++◌, None, Some, arith}
use Rattle.std.specs.Prelude.{Contains}
use Rattle.std.specs.List.{AllZip}
use Rattle.tree_model.specs.Hash.{hash_text}
use Rattle.outside_traits.specs.Store.{Store}
use Rattle.meta_model.specs.CleanBuild.{Gives}
use Rattle.meta_model.specs.declared.value.Key.{Key}
use Rattle.store_model.specs.declared.signature.StoredSig.{StoredSig}
use Rattle.store_model.specs.Origins.{Book, Line, Reading}
use Rattle.store_model.specs.Paths.{record_path}
use Rattle.store_model.specs.Spelling.{key_bytes, key_name, name_of}
use Rattle.store_model.specs.Valid.{IsValid, StandsIn}
use Rattle.store_model.proofs.Digests.{same_name_text}
use Rattle.store_model.proofs.Standing.{each_line}
use Rattle.store_move.specs.Formats.{IsValidBook}
use Rattle.store_move.specs.Moves.{present}
use Rattle.store_move.specs.Parts.{part}
use Rattle.store_opening.proofs.Surveyed.{each_of}
use Rattle.record_move.specs.declared.records.AddedRecord.{AddedRecord}
use Rattle.record_move.specs.Known.{IsKnown, key_named}
use Rattle.record_move.specs.Moved.{StandWell}
use Rattle.record_move.specs.Rounds.{IsAddedAs, IsInRound}
use Rattle.store_upgrade.specs.Steps.{HaveOneKey, KeysDiffer, NamesDiffer}
use Rattle.store_upgrade.proofs.Entries.{entry_none, text}
use Rattle.store_upgrade.proofs.Zipped.{Distinct, beside_of, later_distinct, names_apart, stands_among, stands_later, stands_sooner}

-- The store is valid with the first book, and the lines behind it, which are added, may come round by round: whatever stands then is a valid book.
pub record IsReady (gives : Gives) (reading : Reading) (held : Store) (again more : Book) (added : List AddedRecord) (keys : List (List ℕ)) : Type 0 where
  pub valid : IsValid gives reading held again
  pub lines : AllZip IsAddedAs more added
  pub stand : StandWell keys (again ++ more)
  pub whole : IsValidBook present gives reading (again ++ more)
  pub stopped : (round : ℕ) (keep : Line → Bool) → IsInRound again more added round keep → IsValidBook present gives reading (part keep (again ++ more))

-- records of lines whose names differ have texts of their own
names_differ : (more : Book) (added : List AddedRecord) → Distinct present more → AllZip IsAddedAs more added → NamesDiffer added
names_differ [] [] distinct all a b has too same = absurd (let lt = has.1 in omega (arith, lt))
names_differ [] (x ∷ xs) distinct all a b has too same = absurd all
names_differ (l ∷ ls) [] distinct all a b has too same = absurd all
names_differ (l ∷ ls) (x ∷ xs) distinct all a b has too same = at a b has too (names_differ ls xs distinct.1 all.1) same
  where
    -- a record behind has another text
    apart : (c : AddedRecord) → Contains xs c → hash_text x.name ≢ hash_text c.name
    apart c in_it e =
        let w = beside_of IsAddedAs ls xs c all.1 in_it in
        each_of (λ (m : Line). name_of l.sig ≢ name_of m.sig) ls w.0 distinct.0 w.1 (same_name_text l.sig w.0.sig (sym (ap hash_text all.0.name) ∙ e ∙ ap hash_text w.2.name))

    at : (a b : AddedRecord) → Contains (x ∷ xs) a → Contains (x ∷ xs) b → NamesDiffer xs → hash_text a.name ≡ hash_text b.name → a ≡ b
    at a b (zero, lt, e) (zero, lu, f) rest s = sym e ∙ f
    at a b (zero, lt, e) (suc k, lu, f) rest s = absurd (apart b (k, omega (arith, lu), f) (ap (λ (y : AddedRecord). hash_text y.name) e ∙ s))
    at a b (suc j, lt, e) (zero, lu, f) rest s = absurd (apart a (j, omega (arith, lt), e) (ap (λ (y : AddedRecord). hash_text y.name) f ∙ sym s))
    at a b (suc j, lt, e) (suc k, lu, f) rest s = rest a b (j, omega (arith, lt), e) (k, omega (arith, lu), f) s

-- of one name one key is known
one_key : (keys : List (List ℕ)) (k l : Key) → IsKnown keys k → IsKnown keys l → key_name k ≡ key_name l → key_bytes k ≡ key_bytes l
one_key keys k l known too same =
    let e : Some (key_bytes k) ≡ Some (key_bytes l) = sym known ∙ ap (key_named keys) same ∙ too in
    cc

module _ (gives : Gives) (reading : Reading) (held : Store) (again more : Book) (added : List AddedRecord) (keys : List (List ℕ)) (r : IsReady gives reading held again more added keys) where
  pub names : NamesDiffer added
  names = names_differ more added (later_distinct present again more r.stand.new) r.lines

  added_known : (a : AddedRecord) → Contains added a → IsKnown keys a.stored.sig.key
  added_known a has =
      let w = beside_of IsAddedAs more added a r.lines has in
      let s = stands_among more w.0 w.1 in
      subst (λ (stored : StoredSig). IsKnown keys stored.sig.key) (sym w.2.stored) (r.stand.known (again ++ s.0) w.0 (stands_later again more s.0 w.0 s.1))

  pub keys_differ : KeysDiffer added
  keys_differ a has b too same = one_key keys b.stored.sig.key a.stored.sig.key (added_known b too) (added_known a has) same

  -- a line that stood already, and one that is added, with keys of one name have one key
  pub line_key : (before : Book) (line : Line) → StandsIn again before line → HaveOneKey added (key_name line.sig.key) (key_bytes line.sig.key)
  line_key before line s a has same = one_key keys a.stored.sig.key line.sig.key (added_known a has) (r.stand.known before line (stands_sooner again more before line s)) same

  -- none of the records that are added is there yet
  pub unheld : (a : AddedRecord) → Contains added a → held (record_path a.name) ≡ None
  unheld a has =
      let w = beside_of IsAddedAs more added a r.lines has in
      let s = stands_among more w.0 w.1 in
      r.valid.records (hash_text a.name)
      ∙ entry_none again (hash_text a.name) (each_line (λ (l : Line). text l ≢ hash_text a.name) again
      (λ before l t same. names_apart present again more before s.0 l w.0 r.stand.new t s.1 (same_name_text l.sig w.0.sig (same ∙ ap hash_text w.2.name))))
