-- A move that was made of what was read.
use Rattle.std.proofs.Common.{◌≡◌, ◌≢◌, ◌∙◌, sym, ap, subst, refl, ℕ, ◌⊎◌, inl, inr, List, [], ◌∷◌, ◌++◌, false, Some}
use Rattle.std.specs.Prelude.{codes, Contains}
use Rattle.tree_model.specs.declared.entry.Entry.TheVariants.{File}
use Rattle.tree_model.specs.Path.{IsAtOrBelow, inside}
use Rattle.outside_traits.specs.Passes.{Passes, Same}
use Rattle.outside_traits.specs.Store.{Store}
use Rattle.outside_traits.specs.Story.{IsSound, Story}
use Rattle.outside_traits.proofs.Calls.{then_same}
use Rattle.meta_model.specs.CleanBuild.{Gives}
use Rattle.store_model.specs.declared.signature.EquivRow.{EquivRow}
use Rattle.store_model.specs.Opened.{IsElsewhere, IsOpened}
use Rattle.store_model.specs.Origins.{Book, Reading}
use Rattle.store_move.specs.First.{first, first_shape, second_keys, second_shape}
use Rattle.store_move.specs.Formats.{Format, IsValidBook, rows_of}
use Rattle.store_move.specs.Moves.{AreClear, MayMove, begun, moved_from, present}
use Rattle.store_move.specs.Parts.{part}
use Rattle.store_move.specs.Stores.{HoldsBook, IsStore}
use Rattle.store_move.proofs.Same.{is_one_definition}
use Rattle.store_opening.specs.Opening.{Clears}
use Rattle.store_opening.specs.Survey.{AreUnder, HeldFile}
use Rattle.store_opening.proofs.Areas.{differ, heads_differ}
use Rattle.record_move.specs.declared.moving.Moved.{Moved}
use Rattle.record_move.specs.declared.records.OldRecord.{OldRecord}
use Rattle.record_move.specs.Known.{digest, key_named}
use Rattle.record_move.specs.Moved.{AreLinesOf, AreSpelled, IsMoveOf, StandWell}
use Rattle.record_move.specs.Whole.{LeavesValid}
use Rattle.record_move.proofs.Wholly.{move_leaves_valid}
use Rattle.store_upgrade.specs.Halfway.{HoldsBoth, IsBeside, IsHalfMoved, Upgrades, whole_move}
use Rattle.store_upgrade.specs.Old.{AreOlds}
use Rattle.store_upgrade.specs.Writes.{Writes}
use Rattle.store_upgrade.proofs.Along.{opened_both, opened_keeps, rec_elsewhere}
use Rattle.store_upgrade.proofs.Asked.{IsAsked, asked}
use Rattle.store_upgrade.proofs.Called.{IsDurable, durable_same, passes_on}
use Rattle.store_upgrade.proofs.Halved.{half}
use Rattle.store_upgrade.proofs.Ready.{IsReady}

-- What is read of a store that was opened: its rows, the old records that are believed, and the keys that are known.
pub record IsRead (entry held : Store) (rows : List EquivRow) (records : List OldRecord) (keys : List (List ℕ)) : Type 0 where
  pub clears : Clears entry entry held
  pub opened : IsOpened entry held rows
  pub files : List HeldFile
  pub under : AreUnder (codes "key/") held files
  pub known : (path bytes : List ℕ) → Contains files (path, File false bytes) → key_named keys (digest bytes) ≡ Some bytes
  pub olds : AreOlds held records

-- What is made of it in memory, whatever books these are the records and the rows of.
pub record IsMade (rows : List EquivRow) (records : List OldRecord) (keys : List (List ℕ)) (moved : Moved) : Type 0 where
  pub told : (form : Format) (book start : Book) → AreLinesOf form records book → rows ≡ rows_of present start
      → IsMoveOf form start (moved_from form present (begun start) book) moved.rows moved.records.items moved.added.items
  pub clear : (form : Format) (book start : Book) → AreLinesOf form records book → rows ≡ rows_of present start → AreSpelled book → StandWell keys start
      → AreClear form present (begun start) book
  pub well : (form : Format) (book start : Book) → AreLinesOf form records book → rows ≡ rows_of present start → AreSpelled book → StandWell keys start
      → StandWell moved.keys (moved_from form present (begun start) book).book

pub asked_of : (entry held : Store) (rows : List EquivRow) (records : List OldRecord) (keys : List (List ℕ)) → IsRead entry held rows records keys
    → (gives : Gives) (reading : Reading) (book start : Book) → HoldsBoth gives reading entry book start → IsAsked gives reading held book start rows records keys
asked_of entry held rows records keys read gives reading book start both =
    asked entry held gives reading book start (opened_both entry held read.clears gives reading book start both) both rows read.opened read.files read.under keys read.known records read.olds

-- ---- what is beside

pub not_at : (c d : ℕ) (folder ps : List ℕ) → d ≢ c → IsAtOrBelow (c ∷ folder) (d ∷ ps) → ⊥
not_at c d folder ps ne (inl same) = heads_differ ne same
not_at c d folder ps ne (inr below) = heads_differ ne below.1

pub old_beside : (path : List ℕ) → IsBeside (114 ∷ 101 ∷ 99 ∷ 47 ∷ path)
old_beside path = record {
  elsewhere = rec_elsewhere path;
  no_object = not_at 111 114 (98 ∷ 106 ∷ []) (101 ∷ 99 ∷ 47 ∷ path) (differ 114 111 refl);
  no_format = not_at 102 114 (111 ∷ 114 ∷ 109 ∷ 97 ∷ 116 ∷ []) (101 ∷ 99 ∷ 47 ∷ path) (differ 114 102 refl);
}

pub work_elsewhere : (rest : List ℕ) → IsElsewhere (119 ∷ rest)
work_elsewhere rest = record {
  records = not_at 114 119 (101 ∷ 99 ∷ 50 ∷ []) rest (differ 119 114 refl);
  keys = not_at 107 119 (101 ∷ 121 ∷ []) rest (differ 119 107 refl);
  stamps = not_at 115 119 (116 ∷ 97 ∷ 109 ∷ 112 ∷ []) rest (differ 119 115 refl);
  temporary = not_at 116 119 (109 ∷ 112 ∷ []) rest (differ 119 116 refl);
  objects = heads_differ (differ 119 111 refl);
}

pub work_beside : (rest : List ℕ) → IsBeside (119 ∷ rest)
work_beside rest = record {
  elsewhere = work_elsewhere rest;
  no_object = not_at 111 119 (98 ∷ 106 ∷ []) rest (differ 119 111 refl);
  no_format = not_at 102 119 (111 ∷ 114 ∷ 109 ∷ 97 ∷ 116 ∷ []) rest (differ 119 102 refl);
}

-- ---- the move of two books

module _ (gives : Gives) (reading : Reading) (held : Store) (book start : Book) (rows : List EquivRow) (records : List OldRecord) (keys : List (List ℕ))
    (a : IsAsked gives reading held book start rows records keys) (moved : Moved) (m : IsMade rows records keys moved) where
  pub told : IsMoveOf first a.again (whole_move a.olds a.again) moved.rows moved.records.items moved.added.items
  told = m.told first a.olds a.again a.old_lines a.rows_are

  pub may : MayMove first present gives reading a.olds a.again
  may = record {
    old = a.old_valid;
    new = (is_one_definition gives reading a.again).1 a.valid.lines;
    no_clash = a.no_clash;
    clear = m.clear first a.olds a.again a.old_lines a.rows_are a.spelled a.well;
  }

  leaves : LeavesValid gives reading a.again (whole_move a.olds a.again).book told.more moved.added.items
  leaves = move_leaves_valid first gives reading a.olds a.again moved.rows moved.records.items moved.added.items may told

  pub ready : IsReady gives reading held a.again told.more moved.added.items moved.keys
  ready = record {
    valid = a.valid;
    lines = told.lines;
    stand = subst (StandWell moved.keys) told.longer (m.well first a.olds a.again a.old_lines a.rows_are a.spelled a.well);
    whole = subst (IsValidBook present gives reading) told.longer leaves.whole_valid;
    stopped = λ round keep at. subst (λ (b : Book). IsValidBook present gives reading (part keep b)) told.longer (leaves.stopped round keep at);
  }

-- ---- what stands while it is written

module _ (entry held image : Store) (rows : List EquivRow) (records : List OldRecord) (keys : List (List ℕ)) (read : IsRead entry held rows records keys) (moved : Moved)
    (m : IsMade rows records keys moved) (w : Writes moved held image) where
  module _ (gives : Gives) (reading : Reading) (book start : Book) (both : HoldsBoth gives reading entry book start) where
    old_stays : HoldsBook first_shape gives reading image book
    old_stays =
        let h = opened_both entry held read.clears gives reading book start both in
        record { records = λ path. w.beside (inside (codes "rec") path) (old_beside path) ∙ h.old.records path; lines = h.old.lines }

    half_of : (a : IsAsked gives reading held book start rows records keys)
        → (now : Book) × ((now ≡ start) ⊎ IsHalfMoved book start now) × IsStore first_shape second_shape second_keys gives reading image now
    half_of a =
        let t = told gives reading held book start rows records keys a moved m in
        let h = half gives reading held image a.again t.more moved moved.keys (ready gives reading held book start rows records keys a moved m) w in (
          part h.keep (a.again ++ t.more),
          inr (record { olds = a.olds; again = a.again; taken = a.taken; keep = h.keep; stood = h.stood; is = sym (ap (part h.keep) t.longer) }),
          record { valid = h.holds_part; has_keys = h.keys_there; old = λ never. (book, old_stays) },
        )

  pub image_upgrades : Upgrades entry image
  image_upgrades = record {
    beside = λ q be. w.beside q be ∙ read.clears.left q (inl be.elsewhere);
    books = λ gives reading book start both. half_of gives reading book start both (asked_of entry held rows records keys read gives reading book start both);
  }

-- ---- what was read, call by call

pub read_of : (a b u d : Story) (rows : List EquivRow) (records : List OldRecord) (keys : List (List ℕ)) (files slice : List HeldFile) → slice ≡ files → Passes a b (Clears a.held)
    → IsOpened a.held b.held rows → Passes b u Same → Passes u d Same
    → AreUnder (codes "key/") b.held files → ((path bytes : List ℕ) → Contains slice (path, File false bytes) → key_named keys (digest bytes) ≡ Some bytes) → AreOlds u.held records
    → IsRead a.held d.held rows records keys
read_of a b u d rows records keys files slice whole run opened one two under known olds =
    let same : d.held ≡ b.held = two.held ∙ one.held in
    record {
      clears = subst (Clears a.held a.held) (sym same) run.held;
      opened = subst (λ (h : Store). IsOpened a.held h rows) (sym same) opened;
      files = slice;
      under = subst (λ (h : Store). AreUnder (codes "key/") h slice) (sym same) (subst (AreUnder (codes "key/") b.held) (sym whole) under);
      known = known;
      olds = subst (λ (h : Store). AreOlds h records) (sym two.held) olds;
    }

-- what stands at each moment
pub run_upgrades : (a b u d e : Story) → IsSound a → IsSound d → IsDurable a → IsDurable b → Passes a b (Clears a.held) → Passes b u Same → Passes u d Same
    → (rows : List EquivRow) (records : List OldRecord) (keys : List (List ℕ)) → IsRead a.held d.held rows records keys → (moved : Moved) → IsMade rows records keys moved
    → Passes d e (λ i k. Writes moved d.held k) → Passes a e (λ i k. Upgrades a.held k)
run_upgrades a b u d e sound later first_durable durable run one two rows records keys read moved m writes =
    passes_on (Upgrades a.held) (Upgrades a.held) later (durable_same u d (durable_same b u durable one) two) (then_same (then_same (opened_keeps a b sound first_durable run) one) two) writes
    (λ j upgrades. upgrades) (λ k w. image_upgrades a.held d.held k rows records keys read moved m w)
