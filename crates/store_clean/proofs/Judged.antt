-- The records of rows that were judged are held.
use Rattle.std.proofs.Common.{◌≡◌, ◌∙◌, sym, ap, subst, refl, ℕ, suc, List, [], ◌∷◌, Some, slice_get}
use Rattle.std.specs.List.{AllByRecursion}
use Rattle.outside_traits.specs.Store.{Store}
use Rattle.store_model.specs.declared.candidate.Candidate.{Candidate}
use Rattle.store_model.specs.declared.signature.EquivRow.{EquivRow}
use Rattle.store_model.specs.Opened.{IsRecordFile, row_of_candidate}
use Rattle.store_model.specs.Readable.{IsHeld}
use Rattle.store_opening.specs.Survey.{AreJudged}
use Rattle.store_opening.proofs.Sorted.{each_at}
use Rattle.store_clean.proofs.Ready.{row_place}

all_rows : (P : EquivRow → Type 0) (rows : List EquivRow) → ((k : ℕ) (row : EquivRow) → slice_get rows k ≡ Some row → P row) → AllByRecursion P rows
all_rows P [] each = tt
all_rows P (row ∷ rows) each = (each 0 row refl, all_rows P rows (λ k r e. each (suc k) r e))

-- the row of a record that is held
row_held : (held : Store) (c : Candidate) → IsRecordFile held c → IsHeld held (row_of_candidate c)
row_held held c f = record {
  known = record {
    stored = c.stored;
    key = f.key;
    is = λ i. record { name = f.name i; pn = c.stored.sig.pn; task = c.stored.sig.task; sig = f.text i; manifest = c.stored.manifest; unihash = c.stored.unihash };
    spelled = f.spelled;
    short = f.short;
    digest = f.key_held.digest;
  };
  held = f.file;
  key_held = f.key_held.file;
}

pub judged_held : (held : Store) (rows : List EquivRow) → AreJudged held rows → AllByRecursion (IsHeld held) rows
judged_held held rows j = all_rows (IsHeld held) rows (λ k row e.
    let s = j.2 in
    let r = row_place s.candidates s.places (λ i p at. let w = s.believed.each i p at in (w.0, w.1)) k row (ap (λ (l : List EquivRow). slice_get l k) (sym s.rows_are) ∙ e) in
    subst (IsHeld held) (sym r.is) (row_held held r.candidate (each_at (IsRecordFile held) s.candidates r.place r.candidate s.found.each r.stands)))
