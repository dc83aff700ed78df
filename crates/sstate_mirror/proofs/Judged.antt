-- The lines of a mirror, in the order in which its records are believed.
use Rattle.std.proofs.Common.{◌≡◌, ◌∙◌, sym, ap, subst, refl, ℕ, zero, suc, List, [], ◌∷◌, None, Some}
use Rattle.std.specs.Prelude.{slice_get}
use Rattle.std.specs.List.{AllByRecursion}
use Rattle.outside_traits.specs.Store.{Store}
use Rattle.meta_model.specs.CleanBuild.{Gives}
use Rattle.store_model.specs.declared.candidate.Candidate.{Candidate}
use Rattle.store_model.specs.declared.signature.EquivRow.{EquivRow}
use Rattle.store_model.specs.Lines.{HaveSameLines}
use Rattle.store_model.specs.Opened.{row_of_candidate, rows_at}
use Rattle.store_model.specs.Origins.{Book, Line, Reading}
use Rattle.store_model.specs.Readable.{IsReadable}
use Rattle.store_model.specs.Valid.{IsValid, IsValidBook}
use Rattle.store_model.proofs.Standing.{each_line}
use Rattle.store_move.specs.Formats.{row_of, rows_of}
use Rattle.store_move.specs.Moves.{present}
use Rattle.record_belief.specs.Books.{AreOfBook, IsInOrder, IsLineAt, IsOfLine}
use Rattle.record_belief.proofs.Again.{again_valid, again_whole, line_at}
use Rattle.store_opening.specs.Survey.{AreJudged, IsRecordSurvey}
use Rattle.store_opening.proofs.Reopened.{line_readable, of_book, rows_one_way}

-- what is held decides the rows
pub one_judged : (held : Store) (rows others : List EquivRow) → AreJudged held rows → AreJudged held others → rows ≡ others
one_judged held rows others one two =
    let j = one.2 in
    let k = two.2 in
    j.rows_are ∙ rows_one_way held j.candidates k.candidates j.places k.places j.found k.found j.believed k.believed ∙ sym k.rows_are

-- ---- lines at places

module _ (book : Book) (candidates : List Candidate) (of : AreOfBook book candidates) where
  record InPlaces (places : List ℕ) : Type 0 where
    again : Book
    order : IsInOrder book candidates places again
    rows_are : rows_at candidates places ≡ rows_of present again

  places_more : (p : ℕ) (places : List ℕ) (c : Candidate) → slice_get candidates p ≡ Some c → InPlaces places → InPlaces (p ∷ places)
  places_more p places c stands more = record {
    again = l.line ∷ more.again;
    order = record { long = ap suc more.order.long; each = at };
    rows_are = rw stands ((λ i. row_of_candidate (record { name = l.records.name i; stored = l.records.stored i; sig = l.records.text i }) ∷ rows_at candidates places) ∙ ap (λ rows. row_of present l.line ∷ rows) more.rows_are);
  }
    where
      l : IsOfLine book c
      l = of.each p c stands

      at : (k : ℕ) (line : Line) → slice_get (l.line ∷ more.again) k ≡ Some line → IsLineAt book candidates (p ∷ places) k line
      at zero line e =
          let same : l.line ≡ line = cc in
          subst (IsLineAt book candidates (p ∷ places) zero) same (record { place = p; candidate = c; listed = refl; stands = stands; records = l.records; before = l.before; in_book = l.in_book })
      at (suc k) line e =
          let r = more.order.each k line e in
          record { place = r.place; candidate = r.candidate; listed = r.listed; stands = r.stands; records = r.records; before = r.before; in_book = r.in_book }

  in_places : (places : List ℕ) → ((k p : ℕ) → slice_get places k ≡ Some p → (c : Candidate) × (slice_get candidates p ≡ Some c)) → InPlaces places
  in_places [] each = record { again = []; order = record { long = refl; each = λ k line e. absurd (let f : None ≡ Some line = e in cc) }; rows_are = refl }
  in_places (p ∷ places) each = let c = each 0 p refl in places_more p places c.0 c.1 (in_places places (λ k q e. each (suc k) q e))

-- ---- the book

-- The lines of the store's book in another order, with which the rows are theirs.
pub record IsJudgedBook (gives : Gives) (reading : Reading) (theirs : Book) (rows : List EquivRow) : Type 0 where
  pub again : Book
  pub same : HaveSameLines theirs again
  pub readable : AllByRecursion IsReadable again
  pub lines : IsValidBook gives reading again
  pub rows_are : rows ≡ rows_of present again

pub judged_book : (gives : Gives) (reading : Reading) (held : Store) (theirs : Book) → IsValid gives reading held theirs → AllByRecursion IsReadable theirs → (rows : List EquivRow) → AreJudged held rows → IsJudgedBook gives reading theirs rows
judged_book gives reading held theirs valid readable rows judged = record {
  again = a.again;
  same = same;
  readable = each_line IsReadable a.again (λ b line s. let l = same.only b line s in line_readable gives reading held theirs valid readable l.0 line l.1);
  lines = again_valid gives reading theirs j.candidates j.places a.again valid.lines j.found.ascend of j.believed a.order;
  rows_are = j.rows_are ∙ a.rows_are;
}
  where
    j : IsRecordSurvey held rows judged.0 judged.1
    j = judged.2

    of : AreOfBook theirs j.candidates
    of = of_book gives reading held theirs valid readable j.candidates j.found

    a : InPlaces theirs j.candidates of j.places
    a = in_places theirs j.candidates of j.places (λ k p e. let h = j.believed.each k p e in (h.0, h.1))

    same : HaveSameLines theirs a.again
    same = record {
      whole = λ b line s. again_whole gives reading theirs j.candidates j.places a.again valid.lines j.found.ascend of j.believed a.order b line s;
      only = λ b line s. let at = line_at gives reading theirs j.candidates j.places a.again valid.lines j.found.ascend of j.believed a.order b line s in (at.before, at.in_book);
    }
