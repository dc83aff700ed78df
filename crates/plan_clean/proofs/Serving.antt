-- What is left behind a clearing that was done.
use Rattle.std.proofs.Common.{◌≡◌, ◌∙◌, sym, ap, ℕ, inl, inr, Bool, List, Some}
use Rattle.std.specs.Prelude.{IsSome}
use Rattle.std.specs.Option.{is_some}
use Rattle.std.specs.List.{AllByRecursion}
use Rattle.std.proofs.lemmas.Option.{none-some}
use Rattle.tree_model.specs.declared.entry.Entry.{Entry}
use Rattle.tree_model.specs.declared.hash.Hash.{Hash}
use Rattle.outside_traits.specs.Store.{Store}
use Rattle.meta_model.specs.CleanBuild.{Gives}
use Rattle.meta_model.specs.declared.plan.Plan.{Plan}
use Rattle.store_model.specs.declared.signature.EquivRow.{EquivRow}
use Rattle.store_model.specs.Lines.{HasLine}
use Rattle.store_model.specs.Opened.{IsOpened}
use Rattle.store_model.specs.Origins.{Book, Line, Reading}
use Rattle.store_model.specs.Readable.{IsReadable}
use Rattle.store_model.specs.Reuse.{MayReuse}
use Rattle.store_model.specs.Valid.{IsValid, StandsIn}
use Rattle.store_model.proofs.Ordered.{each_middle}
use Rattle.store_model.proofs.Standing.{each_line}
use Rattle.run_model.specs.Headline.{MayBegin}
use Rattle.store_opening.specs.Reopened.{HoldsNoMore, IsBookAgain}
use Rattle.store_opening.proofs.Reopened.{opened_holds_no_more, opened_is_valid}
use Rattle.std.proofs.Common.{subst}
use Rattle.book_change.specs.Going.{kept_of, stays}
use Rattle.store_clean.specs.Cleared.{IsBeside, IsCleared, NamesGone}
use Rattle.store_clean.specs.Deciding.{keeps}
use Rattle.store_clean.proofs.Valid.{cleared_is_valid}
use Rattle.store_clean.proofs.Whence.{was_in}
use Rattle.plan_clean.specs.Laws.{ClearedServes, IsServing}
use Rattle.plan_clean.proofs.Fewer.{part_reuse}

-- ---- nothing is put

module _ (rows : List EquivRow) (keep : Hash → Bool) (opened now : Store) (c : IsCleared rows keep opened now) where
  there : (q : List ℕ) (e : Entry) → now q ≡ Some e → IsSome (now q)
  there q e is = ap is_some is

  -- what is held still wasn't touched
  untouched : (q : List ℕ) (e : Entry) → now q ≡ Some e → IsBeside rows keep opened q
  untouched q e is = record {
    records = λ row goes at. none-some e (sym (c.records row goes) ∙ sym (ap now at) ∙ is);
    stamps = λ below named. elim (c.moment.stamps q below) [
      | inl same ↦ c.stamps q below (subst (NamesGone rows keep) (sym same) named)
      | inr gone ↦ none-some e (sym gone.1 ∙ is)
    ];
    objects = λ below. c.objects q below (there q e is);
    keys = λ below. c.keys q below (there q e is);
    temporary = λ at. none-some e (sym c.temporary ∙ sym (ap now at) ∙ is);
  }

  pub no_more_cleared : HoldsNoMore opened now
  no_more_cleared q e is = sym (c.moment.beside q (untouched q e is)) ∙ is

pub no_more_then : (a b c : Store) → HoldsNoMore a b → HoldsNoMore b c → HoldsNoMore a c
no_more_then a b c first second q e is = first q e (second q e is)

module _ (gives : Gives) (reading : Reading) (book : Book) (held opened now : Store) (rows : List EquivRow) (keep : Hash → Bool) (valid : IsValid gives reading held book) (readable : AllByRecursion IsReadable book) (o : IsOpened held opened rows) (c : IsCleared rows keep opened now) where
  again : IsBookAgain gives reading book opened rows
  again = opened_is_valid held opened rows o gives reading book valid readable

  abbrev Part : Book
  Part = kept_of keep again.again

  valid_part : IsValid gives reading now Part
  valid_part = cleared_is_valid held opened now rows keep o c gives reading again.again again.valid again.readable again.rows_are

  among_book : (before : Book) (line : Line) → StandsIn Part before line → HasLine book line
  among_book before line s = let w = was_in (stays keep) again.again before line s in again.same.only w.was line w.at

  readable_line : (b : Book) (line : Line) → StandsIn again.again b line → IsReadable line
  readable_line b line s = each_middle IsReadable b line s.rest (subst (AllByRecursion IsReadable) s.is again.readable)

  readable_part : AllByRecursion IsReadable Part
  readable_part = each_line IsReadable Part (λ b line s. let w = was_in (stays keep) again.again b line s in readable_line w.was line w.at)

  no_more : HoldsNoMore held now
  no_more = no_more_then held opened now (opened_holds_no_more held opened rows o) (no_more_cleared rows keep opened now c)

  begins : (plan : Plan) → MayReuse gives reading held book plan.tasks → MayBegin gives reading Part now plan
  begins plan may = record {
    valid = valid_part;
    readable = readable_part;
    may = λ none. part_reuse gives reading book Part valid.lines valid_part.lines among_book held now plan.tasks no_more may none;
  }

  pub serving : IsServing gives reading book held now rows keep
  serving = record {
    again = again.again;
    same = again.same;
    rows_are = again.rows_are;
    valid = valid_part;
    readable = readable_part;
    begins = begins;
  }

pub cleared_serves : ClearedServes
cleared_serves plan limit held after cleaned c gives reading book valid readable =
    serving gives reading book held c.opened after.held c.rows (keeps c.rows c.done.marks) valid readable c.is_opened c.done.cleared
