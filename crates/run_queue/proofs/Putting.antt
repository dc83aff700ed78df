-- The book of a run in which no fault is kept, settled tasks of fronts, and what is begun.
use Rattle.std.proofs.Common.{◌≡◌, ◌∙◌, sym, ap, subst, ℕ, ◌+◌, ◌<◌, ◌≤◌, ◌-◌, ◌⊎◌, inl, inr, zero, suc, arith, true, List, [], ◌∷◌, ◌++◌, length, take, Some, None}
use Rattle.std.specs.Prelude.{Option}
use Rattle.std.specs.List.{AllByRecursion, slice_get}
use Rattle.std.proofs.lemmas.Bool.{cases_eq}
use Rattle.std.proofs.lemmas.List.{take_all, take-append-le}
use Rattle.meta_model.specs.declared.event.Avail.{Avail}
use Rattle.meta_model.specs.declared.event.Logged.{Logged}
use Rattle.meta_model.specs.declared.plan.PlanTask.{PlanTask}
use Rattle.tale_model.specs.Fates.{fate_at, fates_told, is_settled}
use Rattle.tale_model.specs.History.{EachAfter}
use Rattle.run_core.specs.History.{IsOrderly}
use Rattle.run_core.proofs.Seats.{by_fronts, settled_kept}
use Rattle.run_core.proofs.Steps.{told_push}
use Rattle.store_model.specs.Origins.{Book, rows_of}
use Rattle.store_model.specs.Premises.{HasNoCollision}
use Rattle.store_model.specs.declared.signature.EquivRow.{EquivRow}
use Rattle.store_model.specs.Reuse.{MayReuse}
use Rattle.store_model.specs.Rows.{IsClear}
use Rattle.store_model.specs.Signatures.{Signed, signatures}
use Rattle.store_model.specs.Spelling.{name_of, signature_bytes}
use Rattle.store_model.specs.Valid.{IsValidBook}
use Rattle.store_model.specs.Readable.{IsReadable}
use Rattle.run_model.specs.Opening.{Opening}
use Rattle.run_model.specs.Books.{book_after}
use Rattle.run_queue.specs.Keeps.{IsRun}
use Rattle.run_queue.specs.Seen.{IsBegunIn, Seen}
use Rattle.run_queue.proofs.Clearing.{clear_is_no_collision, unihashes_are}

-- ---- the book of a run in which no fault is kept

abbrev pub book_now : Opening → Seen → Book
book_now o s = book_after o.gives s.plan o.book s.tale

pub valid_now : (o : Opening) (s : Seen) → IsRun o s → s.fault ≡ None → IsValidBook o.gives o.reading (book_now o s)
valid_now o s run faultless = subst (IsValidBook o.gives o.reading) (sym run.grown) (run.book faultless)

pub readable_now : (o : Opening) (s : Seen) → IsRun o s → AllByRecursion IsReadable (book_now o s)
readable_now o s run = subst (AllByRecursion IsReadable) (sym run.grown) run.readable

-- Where no row of a task's name has other bytes, the plan may reuse the book as it is now.
pub may_now : (o : Opening) (s : Seen) → IsRun o s → s.fault ≡ None → ((t : ℕ) (sg : Signed) → slice_get (signatures s.rows s.plan.tasks) t ≡ Some sg → IsClear s.rows (name_of sg.sig) (signature_bytes sg.sig)) → MayReuse o.gives o.reading o.story.held (book_now o s) s.plan.tasks
may_now o s run faultless clear =
    let valid = valid_now o s run faultless in
    run.reusable (subst (λ (r : List EquivRow). HasNoCollision (book_now o s) r s.plan.tasks) (sym run.rows)
    (clear_is_no_collision o.gives o.reading (book_now o s) valid (readable_now o s run) s.plan.tasks
    (λ t sg is. run.may.spellings (rows_of (book_now o s)) (unihashes_are o.gives o.reading (book_now o s) valid) t sg is)
    (subst (λ (r : List EquivRow). (t : ℕ) (sg : Signed) → slice_get (signatures r s.plan.tasks) t ≡ Some sg → IsClear r (name_of sg.sig) (signature_bytes sg.sig)) run.rows clear)))

-- ---- settled tasks of fronts

-- what is settled in a front of an orderly tale is settled in the tale
pub settled_front : (tasks : List PlanTask) (tale : List Logged) → EachAfter (IsOrderly tasks) tale → (t k : ℕ) → is_settled (fate_at (fates_told (length tasks) (take k tale)) t) ≡ true → is_settled (fate_at (fates_told (length tasks) tale) t) ≡ true
settled_front tasks tale each t k settled =
    by_fronts (IsOrderly tasks) (λ l. (n : ℕ) → is_settled (fate_at (fates_told (length tasks) (take n l)) t) ≡ true → is_settled (fate_at (fates_told (length tasks) l) t) ≡ true)
    (λ n is. subst (λ (l : List Logged). is_settled (fate_at (fates_told (length tasks) l) t) ≡ true) (take_all n [] (omega arith)) is)
    next tale each k settled
  where
    le_or : (a b : ℕ) → (a ≤ b) ⊎ (b < a)
    le_or zero b = inl (omega arith)
    le_or (suc a) zero = inr (omega arith)
    le_or (suc a) (suc b) = elim (le_or a b) [ inl le ↦ inl (omega (arith, le)) | inr lt ↦ inr (omega (arith, lt)) ]

    next : (before : List Logged) (entry : Logged) → ((n : ℕ) → is_settled (fate_at (fates_told (length tasks) (take n before)) t) ≡ true → is_settled (fate_at (fates_told (length tasks) before) t) ≡ true) → IsOrderly tasks before entry
        → (n : ℕ) → is_settled (fate_at (fates_told (length tasks) (take n (before ++ entry ∷ []))) t) ≡ true → is_settled (fate_at (fates_told (length tasks) (before ++ entry ∷ [])) t) ≡ true
    next before entry again order n is = elim (le_or n (length before)) [
      | inl le ↦
          subst (λ (l : List Rattle.tale_model.specs.declared.fate.Fate.Fate). is_settled (fate_at l t) ≡ true) (sym (told_push (length tasks) before entry))
          (settled_kept (fates_told (length tasks) before) entry.event order.can t (again n (subst (λ (l : List Logged). is_settled (fate_at (fates_told (length tasks) l) t) ≡ true) (take-append-le n before (entry ∷ []) le) is)))
      | inr gt ↦ subst (λ (l : List Logged). is_settled (fate_at (fates_told (length tasks) l) t) ≡ true) (take_all n (before ++ entry ∷ []) (let m = Rattle.std.proofs.Common.length-append before (entry ∷ []) in omega (arith, m, gt))) is
    ]

-- ---- what is begun

-- a list of what is begun, in which a task is begun besides
pub record Begins (old new : List (Option Avail)) (t : ℕ) : Type 0 where
  pub there : Avail
  pub here : slice_get new t ≡ Some (Some there)
  pub others : (u : ℕ) → (u ≡ t → ⊥) → slice_get new u ≡ slice_get old u

-- what was begun is begun
pub more_begun : (s : Seen) (begun : List (Option Avail)) (t : ℕ) → Begins s.begun begun t → (u : ℕ) → IsBegunIn s.begun u → IsBegunIn begun u
more_begun s begun t begins u was = elim (cases_eq u t) [
  | inl same ↦ (begins.there, ap (slice_get begun) same ∙ begins.here)
  | inr ne ↦ (was.0, begins.others u ne ∙ was.1)
]
