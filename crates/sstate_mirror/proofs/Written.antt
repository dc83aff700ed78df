-- What the writing of records that come leaves, phase by phase.
use Rattle.std.proofs.Common.{◌≡◌, ◌∙◌, sym, ap, subst, refl, ℕ, inl, inr, List, [], ◌∷◌, length, arith}
use Rattle.std.specs.Prelude.{codes, Contains}
use Rattle.tree_model.specs.Hash.{hash_text}
use Rattle.tree_model.specs.Path.{inside}
use Rattle.outside_traits.specs.Passes.{Passes, Same}
use Rattle.outside_traits.specs.Store.{Store}
use Rattle.outside_traits.specs.Story.{IsSound, Story}
use Rattle.outside_traits.proofs.Runs.{passes_so, passes_then}
use Rattle.store_model.specs.declared.signature.EquivRow.{EquivRow}
use Rattle.store_model.specs.Spelling.{key_name}
use Rattle.store_model.proofs.Ordered.{each_weaker}
use Rattle.store_opening.proofs.Areas.{differ, heads_differ}
use Rattle.store_opening.specs.Paths.{IsLaidOut}
use Rattle.record_move.specs.declared.moving.Moved.{Moved}
use Rattle.record_move.specs.declared.records.AddedRecord.{AddedRecord}
use Rattle.record_move.specs.declared.records.MovedRecord.{MovedRecord}
use Rattle.store_upgrade.specs.Steps.{ArePut, AreStaged, HoldsKeys, KeysDiffer, NamesDiffer, PutsKeys, PutsRounds, StagesRecords, Within}
use Rattle.store_upgrade.specs.Writes.{AreWritten, IsEarly}
use Rattle.store_upgrade.proofs.Called.{IsDurable, durable_same, passes_on}
use Rattle.store_upgrade.proofs.Made.{not_at}
use Rattle.store_upgrade.proofs.Whole.{early_keys, early_objects, early_start, early_temporary, early_writes, laid_objects, object_later, objects_keyed, objects_later, prepared_keys, prepared_objects, prepared_writes, staged_temporary}
use Rattle.sstate_mirror.specs.Brought.{IsBeside, IsOpen, KeepsObjects}
use Rattle.sstate_mirror.specs.Copying.{AreCopied, HasObject, HaveOneObject, IsCopying, IsNew}
use Rattle.sstate_mirror.specs.Steps.{IsEarlier, IsWriting}

-- ---- before a record is put

copied_within : (rows : List EquivRow) (held k : Store) → IsCopying rows held k → Within (codes "obj") held k
copied_within rows held k c = record { others = c.others }

pub earlier_copied : (moved : Moved) (held k : Store) → IsCopying moved.rows held k → IsEarlier moved held k
earlier_copied moved held k c = record { early = early_objects moved.added.items held held k (early_start moved.added.items held) (copied_within moved.rows held k c); kept = c.kept }

-- objects stay where all that begins as their paths do is as it was
kept_later : (moved : Moved) (held j k : Store) → ((rest : List ℕ) → k (111 ∷ rest) ≡ j (111 ∷ rest)) → (HaveOneObject moved.rows → KeepsObjects moved.rows held j) → HaveOneObject moved.rows → KeepsObjects moved.rows held k
kept_later moved held j k same was one row has matched = object_later j k row.unihash row.manifest same (was one row has matched)

pub earlier_keys : (moved : Moved) (held mid j k : Store) → IsEarlier moved held mid → IsEarlier moved held j → PutsKeys moved.added.items mid j k → IsEarlier moved held k
earlier_keys moved held mid j k m e p = record {
  early = early_keys moved.added.items held mid j k m.early e.early p;
  kept = kept_later moved held j k (objects_keyed moved.added.items mid j k p) e.kept;
}

pub earlier_staged : (moved : Moved) (held j k : Store) → IsEarlier moved held j → StagesRecords moved.added.items j k → IsEarlier moved held k
earlier_staged moved held j k e s =
    let w = staged_temporary moved.added.items j k s in
    record { early = early_temporary moved.added.items held j k e.early w; kept = kept_later moved held j k (objects_later j k w) e.kept }

pub run_copied : (moved : Moved) (a b : Story) → Passes a b (λ i k. IsCopying moved.rows a.held k) → Passes a b (λ i k. IsEarlier moved a.held k)
run_copied moved a b run = passes_so (λ i k. IsEarlier moved a.held k) run (λ i k c. earlier_copied moved a.held k c)

pub run_keys : (moved : Moved) (slice : List AddedRecord) (a b c : Story) → slice ≡ moved.added.items → Passes a b (λ i k. IsEarlier moved a.held k) → Passes b c (PutsKeys slice b.held) → Passes a c (λ i k. IsEarlier moved a.held k)
run_keys moved slice a b c is first second =
    passes_then (λ i k. IsEarlier moved a.held k) first (subst (λ (l : List AddedRecord). Passes b c (PutsKeys l b.held)) is second) (λ i j e. e) (λ i j k e p. earlier_keys moved a.held b.held j k first.held e p)

pub run_staged : (moved : Moved) (slice : List AddedRecord) (a b c : Story) → slice ≡ moved.added.items → Passes a b (λ i k. IsEarlier moved a.held k) → Passes b c (StagesRecords slice) → Passes a c (λ i k. IsEarlier moved a.held k)
run_staged moved slice a b c is first second =
    passes_then (λ i k. IsEarlier moved a.held k) first (subst (λ (l : List AddedRecord). Passes b c (StagesRecords l)) is second) (λ i j e. e) (λ i j k e s. earlier_staged moved a.held j k e s)

pub laid_copied : (rows : List EquivRow) (held now : Store) → IsCopying rows held now → IsLaidOut held → IsLaidOut now
laid_copied rows held now c laid = laid_objects held now (copied_within rows held now c) laid

-- what was copied is there while other things are written
pub copied_later : (rows : List EquivRow) (records : List MovedRecord) (mirror held now later : Store) (count : ℕ) → ((rest : List ℕ) → later (111 ∷ rest) ≡ now (111 ∷ rest)) → AreCopied rows records mirror held now count
    → AreCopied rows records mirror held later count
copied_later rows records mirror held now later count same was = record {
  copied = was.copied;
  many = was.many;
  each = each_weaker (IsNew rows records mirror held now) (IsNew rows records mirror held later)
      (λ row w. record { m = w.m; among = w.among; manifest = w.manifest; source = w.source; was_not = w.was_not; is = there row w.is }) was.copied was.each;
  apart = was.apart;
  there = λ m row has manifest source. there row (was.there m row has manifest source);
  whole = λ row has matched. was.whole row has (object_later later now row.unihash row.manifest (λ rest. sym (same rest)) matched);
}
  where
    there : (row : EquivRow) → HasObject now row → HasObject later row
    there row m = object_later now later row.unihash row.manifest same m

-- ---- behind it

early_not_put : (added : List AddedRecord) (held image : Store) → IsEarly added held image → (path : List ℕ) → image (inside (codes "rec2") path) ≡ held (inside (codes "rec2") path)
early_not_put added held image e path =
    e.others (inside (codes "rec2") path) (not_at 111 114 (98 ∷ 106 ∷ []) (101 ∷ 99 ∷ 50 ∷ 47 ∷ path) (differ 114 111 refl)) (not_at 116 114 (109 ∷ 112 ∷ []) (101 ∷ 99 ∷ 50 ∷ 47 ∷ path) (differ 114 116 refl))
    (λ a has same. heads_differ (differ 114 107 refl) same)

early_beside : (added : List AddedRecord) (held image : Store) → IsEarly added held image → (q : List ℕ) → IsBeside q → image q ≡ held q
early_beside added held image e q b = e.others q b.objects b.temporary (λ a has same. b.keys (inr (hash_text (key_name a.stored.sig.key), same)))

pub early_writing : (moved : Moved) (held image : Store) → IsEarlier moved held image → IsWriting moved held image
early_writing moved held image e = record {
  beside = early_beside moved.added.items held image e.early;
  writes = early_writes moved held image e.early;
  written = inr (λ a has. early_not_put moved.added.items held image e.early (hash_text a.name));
  kept = e.kept;
}

module _ (moved : Moved) (held base : Store) (e : IsEarlier moved held base) (staged : NamesDiffer moved.added.items → AreStaged moved.added.items base) (keyed : KeysDiffer moved.added.items → HoldsKeys moved.added.items base) where
  pub round_writing : AreWritten moved → (image : Store) → PutsRounds moved.added.items base image → IsWriting moved held image
  round_writing written image p = record {
    beside = λ q b. p.others q (λ a has. ((λ same. b.records (inr (hash_text a.name, same))), λ same. b.temporary (inr (inside (codes "rec2") (hash_text a.name), same)))) ∙ early_beside moved.added.items held base e.early q b;
    writes = prepared_writes moved held base image e.early staged keyed (inl p);
    written = inl written;
    kept = kept_later moved held base image (prepared_objects moved base image (inl p)) e.kept;
  }

  pub round_keys : (image : Store) → PutsRounds moved.added.items base image → KeysDiffer moved.added.items → HoldsKeys moved.added.items image
  round_keys image p = prepared_keys moved held base image e.early staged keyed (inl p)

-- objects stay while records are put
pub round_objects : (moved : Moved) (base image : Store) → PutsRounds moved.added.items base image → (rest : List ℕ) → image (111 ∷ rest) ≡ base (111 ∷ rest)
round_objects moved base image p = prepared_objects moved base image (inl p)

pub run_written : (moved : Moved) (slice : List AddedRecord) (a b c : Story) → slice ≡ moved.added.items → IsSound b → IsDurable b → Passes a b (λ i k. IsEarlier moved a.held k)
    → (NamesDiffer moved.added.items → AreStaged moved.added.items b.held) → (KeysDiffer moved.added.items → HoldsKeys moved.added.items b.held) → AreWritten moved → Passes b c (λ i k. PutsRounds slice b.held k) → Passes a c (λ i k. IsWriting moved a.held k)
run_written moved slice a b c is sound durable first staged keyed written second =
    passes_on (IsEarlier moved a.held) (IsWriting moved a.held) sound durable first (subst (λ (l : List AddedRecord). Passes b c (λ i k. PutsRounds l b.held k)) is second)
    (early_writing moved a.held) (λ k p. round_writing moved a.held b.held first.held staged keyed written k p)

pub run_early : (moved : Moved) (a b : Story) → Passes a b (λ i k. IsEarlier moved a.held k) → Passes a b (λ i k. IsWriting moved a.held k)
run_early moved a b run = passes_so (λ i k. IsWriting moved a.held k) run (λ i k e. early_writing moved a.held k e)

-- ---- where nothing is added

none_of : (added : List AddedRecord) → added ≡ [] → (a : AddedRecord) → Contains added a → ⊥
none_of added none a has = let within = has.1 in let empty = ap (length {A = AddedRecord}) none in omega (arith, within, empty)

pub none_keyed : (added : List AddedRecord) (held : Store) → added ≡ [] → HoldsKeys added held
none_keyed added held none a has = absurd (none_of added none a has)

pub none_staged : (added : List AddedRecord) (held : Store) → added ≡ [] → AreStaged added held
none_staged added held none a has = absurd (none_of added none a has)

pub none_put : (added : List AddedRecord) (held : Store) → added ≡ [] → ArePut added held
none_put added held none a has = absurd (none_of added none a has)

pub none_spelled : (moved : Moved) → moved.added.items ≡ [] → AreWritten moved
none_spelled moved none a has = absurd (none_of moved.added.items none a has)

-- where nothing changed the disk may be brought to still
pub open_same : (a b : Story) → IsOpen a → Passes a b Same → IsOpen b
open_same a b was run = record {
  laid = subst IsLaidOut (sym run.held) was.laid;
  way = ap (λ (h : Store). h (codes "obj")) run.held ∙ was.way;
  durable = durable_same a b was.durable run;
}
