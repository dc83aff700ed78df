-- Records of a mirror come to a store that is opened first.
use Rattle.std.proofs.Common.{◌≡◌, ◌≢◌, ◌∙◌, sym, ap, subst, refl, ℕ, ◌⊎◌, inl, inr, Bool, true, List, [], ◌∷◌, ◌++◌, append-nil, None, Result}
use Rattle.std.specs.Prelude.{Contains, IfErr, IfOk, codes}
use Rattle.std.specs.List.{AllByRecursion}
use Rattle.std.proofs.lemmas.List.Elements.{filter-append}
use Rattle.std.proofs.lemmas.Result.{IfErr-weaker, IfOk-weaker}
use Rattle.tree_model.specs.declared.hash.Hash.{Hash}
use Rattle.tree_model.specs.declared.manifest.ManifestLine.{ManifestLine}
use Rattle.tree_model.specs.Hash.{hash_text}
use Rattle.outside_traits.specs.Passes.{Passes}
use Rattle.outside_traits.specs.Store.{Store}
use Rattle.outside_traits.specs.Story.{IsFresh, IsSound, Story}
use Rattle.outside_traits.proofs.Puts.{path_cases}
use Rattle.meta_model.specs.CleanBuild.{Gives}
use Rattle.store_model.specs.declared.signature.EquivRow.{EquivRow}
use Rattle.store_model.specs.Available.{Matches, object_folder}
use Rattle.store_model.specs.Lines.{HaveSameLines}
use Rattle.store_model.specs.Opened.{IsElsewhere, IsLeft, IsOpened}
use Rattle.store_model.specs.Origins.{Book, Line, Reading}
use Rattle.store_model.specs.Valid.{IsValid}
use Rattle.store_model.proofs.Standing.{each_line}
use Rattle.store_move.specs.Formats.{IsValidBook}
use Rattle.store_move.specs.Moves.{begun, present}
use Rattle.store_move.specs.Parts.{part}
use Rattle.store_move.proofs.Same.{is_one_definition}
use Rattle.store_move.proofs.Whole.{from_longer}
use Rattle.store_opening.specs.Opening.{Clears}
use Rattle.store_opening.specs.Reopened.{IsBookAgain}
use Rattle.store_opening.proofs.Areas.{differ, heads_differ}
use Rattle.store_opening.proofs.Reopened.{cleared_is_valid, opened_is_valid}
use Rattle.store_upgrade.proofs.Again.{reordered_of}
use Rattle.store_upgrade.proofs.AgainSame.{no_clash_again}
use Rattle.store_upgrade.proofs.Along.{fresh_durable}
use Rattle.store_upgrade.proofs.Called.{IsDurable, passes_from, passes_on}
use Rattle.store_upgrade.proofs.Whole.{object_later}
use Rattle.sstate_mirror.specs.declared.bringing.Brought.{Brought}
use Rattle.sstate_mirror.specs.declared.fault.BringFault.{BringFault}
use Rattle.sstate_mirror.specs.Brought.{Brings, HoldBoth, IsDone, IsMoment, IsPartly, StaysBeside}
use Rattle.sstate_mirror.specs.Faults.{IsCauseOf}
use Rattle.sstate_mirror.specs.Wanted.{Titles, wanted_book}
use Rattle.sstate_mirror.specs.OnTheWay.{BringsTo, HoldStores, IsBroughtIn, KeepsOnTheWay, StaysApart}

-- ---- what opening leaves alone

-- a path that begins as those of objects do, but for `obj` itself
object_elsewhere : (rest : List ℕ) → 111 ∷ rest ≢ codes "obj" → IsElsewhere (111 ∷ rest)
object_elsewhere rest other = record {
  records = λ at. elim at [ inl same ↦ heads_differ (differ 111 114 refl) same | inr below ↦ heads_differ (differ 111 114 refl) below.1 ];
  keys = λ at. elim at [ inl same ↦ heads_differ (differ 111 107 refl) same | inr below ↦ heads_differ (differ 111 107 refl) below.1 ];
  stamps = λ at. elim at [ inl same ↦ heads_differ (differ 111 115 refl) same | inr below ↦ heads_differ (differ 111 115 refl) below.1 ];
  temporary = λ at. elim at [ inl same ↦ heads_differ (differ 111 116 refl) same | inr below ↦ heads_differ (differ 111 116 refl) below.1 ];
  objects = other;
}

-- objects that match stay, since nothing is held at `obj` then
left_object : (held now : Store) → ((q : List ℕ) → IsLeft held q → now q ≡ held q) → (unihash : Hash) (lines : List ManifestLine) → Matches held (object_folder unihash) lines → Matches now (object_folder unihash) lines
left_object held now left unihash lines m = object_later held now unihash lines same m
  where
    free : held (codes "obj") ≡ None
    free = m.holds.outside.above (codes "obj") (hash_text unihash, refl)

    same : (rest : List ℕ) → now (111 ∷ rest) ≡ held (111 ∷ rest)
    same rest = elim (path_cases (111 ∷ rest) (codes "obj")) [
      | inl at ↦ ap now at ∙ left (codes "obj") (inr (inr (inr (inr free)))) ∙ ap held (sym at)
      | inr other ↦ left (111 ∷ rest) (inl (object_elsewhere rest other))
    ]

pub apart_cleared : (held k : Store) → Clears held held k → StaysApart held k
apart_cleared held k clears q left beside = clears.left q left

pub apart_later : (held opened k : Store) (rows : List EquivRow) → IsOpened held opened rows → StaysBeside opened k → StaysApart held k
apart_later held opened k rows is stays q left beside = stays q beside ∙ is.left q left

-- ---- books

same_lines : (book : Book) → HaveSameLines book book
same_lines book = record { whole = λ before line s. (before, s); only = λ before line s. (before, s) }

valid_lines : (gives : Gives) (reading : Reading) (held : Store) (book : Book) → IsValid gives reading held book → IsValidBook present gives reading book
valid_lines gives reading held book valid = let d = is_one_definition gives reading book in d.1 valid.lines

-- the opened store and the mirror hold the lines that the store held before, and the mirror's
both_again : (gives : Gives) (reading : Reading) (mirror held opened : Store) (rows : List EquivRow) (start theirs : Book) → HoldStores gives reading held mirror start theirs → (a : IsBookAgain gives reading start opened rows)
    → HoldBoth gives reading rows opened mirror a.again theirs
both_again gives reading mirror held opened rows start theirs both a = record {
  valid = a.valid;
  readable = a.readable;
  rows_are = a.rows_are;
  mirror_valid = both.mirror_valid;
  mirror_readable = both.mirror_readable;
  no_clash = no_clash_again present present gives reading theirs start theirs a.again their_lines start_lines (reordered_of present gives reading theirs theirs their_lines (same_lines theirs))
      (reordered_of present gives reading start a.again again_lines a.same) both.no_clash;
}
  where
    their_lines : IsValidBook present gives reading theirs
    their_lines = valid_lines gives reading mirror theirs both.mirror_valid

    start_lines : IsValidBook present gives reading start
    start_lines = valid_lines gives reading held start both.valid

    again_lines : IsValidBook present gives reading a.again
    again_lines = valid_lines gives reading opened a.again a.valid

-- a part that keeps all lines has them all
all_kept : (keep : Line → Bool) (book : Book) → AllByRecursion (λ (l : Line). keep l ≡ true) book → part keep book ≡ book
all_kept keep [] all = refl
all_kept keep (line ∷ book) all = rw all.0 (ap (λ (l : Book). line ∷ l) (all_kept keep book all.1))

-- some of the lines that come stand behind those that stood
partly_longer : (wanted : Titles) (mirror : Store) (again theirs book : Book) → (book ≡ again) ⊎ IsPartly wanted mirror again theirs book → (lines : Book) × (book ≡ again ++ lines)
partly_longer wanted mirror again theirs book (inl same) = ([], same ∙ sym (append-nil again))
partly_longer wanted mirror again theirs book (inr p) =
    let l = from_longer present present (begun again) (wanted_book wanted p.again) in (
      part p.keep l.more,
      p.is ∙ ap (part p.keep) l.is ∙ filter-append p.keep again l.more ∙ ap (λ (b : Book). b ++ part p.keep l.more) (all_kept p.keep again (each_line (λ (x : Line). p.keep x ≡ true) again p.stood)),
    )

-- ---- at each moment

-- while the store is opened
cleared_bringing : (wanted : Titles) (mirror held k : Store) → Clears held held k → BringsTo wanted mirror held k
cleared_bringing wanted mirror held k clears gives reading start theirs both = record {
  again = start;
  same = same_lines start;
  book = start;
  partly = inl refl;
  lines = [];
  longer = sym (append-nil start);
  valid = cleared_is_valid held held k clears gives reading start both.valid both.readable start both.valid;
  readable = both.readable;
  objects = λ row has matched. left_object held k clears.left row.unihash row.manifest matched;
}

-- and behind that
opened_bringing : (wanted : Titles) (mirror held opened k : Store) (rows : List EquivRow) → IsOpened held opened rows → Brings wanted rows mirror opened k → BringsTo wanted mirror held k
opened_bringing wanted mirror held opened k rows is brings gives reading start theirs both = record {
  again = a.again;
  same = a.same;
  book = m.book;
  partly = m.partly;
  lines = more.0;
  longer = more.1;
  valid = m.valid;
  readable = m.readable;
  objects = λ row has matched.
      m.objects row (subst (λ (l : List EquivRow). Contains l row) (sym a.rows_are) has) (left_object held opened is.left row.unihash row.manifest matched);
}
  where
    a : IsBookAgain gives reading start opened rows
    a = opened_is_valid held opened rows is gives reading start both.valid both.readable

    m : IsMoment gives reading wanted rows mirror opened k a.again theirs
    m = brings gives reading a.again theirs (both_again gives reading mirror held opened rows start theirs both a)

    more : (lines : Book) × (m.book ≡ a.again ++ lines)
    more = partly_longer wanted mirror a.again theirs m.book m.partly

-- where the opening was refused
pub way_cleared : (tells : Type 0) (wanted : Titles) (mirror : Store) (a b : Story) → IsSound a → IsFresh a → Passes a b (Clears a.held) → KeepsOnTheWay tells wanted mirror a.held a b
way_cleared tells wanted mirror a b sound fresh run = record {
  apart = passes_from (StaysApart a.held) sound (fresh_durable a fresh) run (λ k clears. apart_cleared a.held k clears);
  moments = λ t. passes_from (BringsTo wanted mirror a.held) sound (fresh_durable a fresh) run (λ k clears. cleared_bringing wanted mirror a.held k clears);
}

-- where it wasn't
pub way_opened : (tells : Type 0) (wanted : Titles) (mirror : Store) (rows : List EquivRow) (a b c : Story) → IsSound a → IsFresh a → Passes a b (Clears a.held) → IsOpened a.held b.held rows → IsSound b → IsDurable b
    → Passes b c (λ earlier image. StaysBeside b.held image) → (tells → Passes b c (λ earlier image. Brings wanted rows mirror b.held image)) → KeepsOnTheWay tells wanted mirror a.held a c
way_opened tells wanted mirror rows a b c sound fresh run opened sound' durable beside images = record {
  apart = passes_on (StaysApart a.held) (StaysApart a.held) sound' durable (passes_from (StaysApart a.held) sound (fresh_durable a fresh) run (λ k clears. apart_cleared a.held k clears)) beside (λ j p. p)
      (λ k stays. apart_later a.held b.held k rows opened stays);
  moments = λ t. passes_on (BringsTo wanted mirror a.held) (BringsTo wanted mirror a.held) sound' durable
      (passes_from (BringsTo wanted mirror a.held) sound (fresh_durable a fresh) run (λ k clears. cleared_bringing wanted mirror a.held k clears)) (images t) (λ j p. p)
      (λ k brings. opened_bringing wanted mirror a.held b.held k rows opened brings);
}

-- ---- at the end

-- all wanted lines came to what the store held
abbrev pub AllCame : Titles → Store → Store → Store → Brought → Type 0
AllCame wanted mirror held now brought = (gives : Gives) (reading : Reading) (start theirs : Book) → HoldStores gives reading held mirror start theirs → IsBroughtIn gives reading wanted mirror held now start theirs brought

-- the fault has its cause
abbrev pub HasCause : Store → Store → BringFault → Type 0
HasCause mirror held fault = (gives : Gives) (reading : Reading) (start theirs : Book) → HoldStores gives reading held mirror start theirs → IsCauseOf fault

module _ (wanted : Titles) (mirror held opened now : Store) (rows : List EquivRow) (is : IsOpened held opened rows) where
  again : (gives : Gives) (reading : Reading) (start theirs : Book) → HoldStores gives reading held mirror start theirs → IsBookAgain gives reading start opened rows
  again gives reading start theirs both = opened_is_valid held opened rows is gives reading start both.valid both.readable

  pub all_came : (r : Result Brought BringFault) → IfOk r (λ brought. (gives : Gives) (reading : Reading) (start theirs : Book) → HoldBoth gives reading rows opened mirror start theirs → IsDone gives reading wanted rows mirror opened now start theirs brought)
      → IfOk r (AllCame wanted mirror held now)
  all_came r done = IfOk-weaker r _ (AllCame wanted mirror held now) (λ brought came gives reading start theirs both.
      let a = again gives reading start theirs both in
      record {
        again = a.again;
        same = a.same;
        opened = opened;
        is_opened = subst (IsOpened held opened) a.rows_are is;
        done = subst (λ (l : List EquivRow). IsDone gives reading wanted l mirror opened now a.again theirs brought) a.rows_are (came gives reading a.again theirs (both_again gives reading mirror held opened rows start theirs both a));
      }) done

  pub cause_so : (r : Result Brought BringFault) → IfErr r (λ fault. (gives : Gives) (reading : Reading) (start theirs : Book) → HoldBoth gives reading rows opened mirror start theirs → IsCauseOf fault)
      → IfErr r (HasCause mirror held)
  cause_so r clash = IfErr-weaker r _ (HasCause mirror held) (λ fault cause gives reading start theirs both.
      let a = again gives reading start theirs both in cause gives reading a.again theirs (both_again gives reading mirror held opened rows start theirs both a)) clash
