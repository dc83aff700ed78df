-- Restorings that are open, beside publications, and through the turns of others.
use Rattle.std.proofs.Common.{◌≡◌, ◌≢◌, ◌∙◌, sym, ap, subst, refl, ℕ, ◌⊎◌, inl, inr, zero, suc, true, false, List, ◌∷◌, ◌++◌, [], length, set, Some, None}
use Rattle.std.specs.Prelude.{Bool, Contains, Option, if◌then◌else◌}
use Rattle.std.specs.List.{slice_get}
use Rattle.std.specs.Option.{option_or}
use Rattle.std.specs.Str.{bytes_eq}
use Rattle.std.proofs.lemmas.Bool.{cases_eq, false≢true}
use Rattle.std.proofs.lemmas.Option.{none-some, same_Some}
use Rattle.meta_model.specs.declared.event.Avail.{Avail}
use Rattle.meta_model.specs.declared.event.Event.{Event}
use Rattle.meta_model.specs.declared.event.Logged.{Logged}
use Rattle.meta_model.specs.declared.plan.Plan.{Plan}
use Rattle.tale_model.specs.declared.fate.Fate.{Fate}
use Rattle.tale_model.specs.declared.fate.Fate.TheVariants as fate
use Rattle.tale_model.specs.Fates.{fate_at, fate_by, fates_told, is_running, task_of}
use Rattle.run_core.proofs.Steps.{told_push}
use Rattle.store_model.specs.declared.signature.EquivRow.{EquivRow}
use Rattle.store_model.specs.Available.{task_folder}
use Rattle.store_model.specs.Origins.{Book, rows_of}
use Rattle.store_model.specs.Reuse.{MayReuse}
use Rattle.store_model.specs.Rows.{row_at}
use Rattle.store_model.specs.Signatures.{Signed, signatures}
use Rattle.store_model.specs.Spelling.{name_of}
use Rattle.run_model.specs.InFlight.{RunsAfter}
use Rattle.run_model.specs.Opening.{Opening}
use Rattle.run_queue.specs.Flights.{OpenTask, OpenTasks, with_open}
use Rattle.run_queue.specs.Keeps.{IsRun}
use Rattle.run_queue.specs.Mends.{AreMends, IsMend, both}
use Rattle.run_queue.specs.Seen.{Seen}
use Rattle.run_queue.proofs.Enduring.{row_on, same_signed, signed_at}
use Rattle.run_queue.proofs.Flights.{folders_differ}
use Rattle.run_queue.proofs.Notes.{set_other}
use Rattle.run_queue.proofs.OwnNames.{signed_task_at}
use Rattle.run_queue.proofs.Putting.{Begins}

-- ---- as plain values

-- a publication that is open is among what is open
pub both_some : (opened mends : OpenTasks) (folder : List ℕ) (one : OpenTask) → opened folder ≡ Some one → both opened mends folder ≡ Some one
both_some opened mends folder one is = ap (λ (x : Option OpenTask). option_or x (mends folder)) is

-- where no publication is open, a restoring is, or nothing
pub both_mend : (opened mends : OpenTasks) (folder : List ℕ) → opened folder ≡ None → both opened mends folder ≡ mends folder
both_mend opened mends folder none = ap (λ (x : Option OpenTask). option_or x (mends folder)) none

-- where nothing is open neither a publication is nor a restoring
pub both_none : (opened mends : OpenTasks) (folder : List ℕ) → both opened mends folder ≡ None → (opened folder ≡ None) × (mends folder ≡ None)
both_none opened mends folder none = by (opened folder) refl none
  where
    by : (x : Option OpenTask) → opened folder ≡ x → option_or x (mends folder) ≡ None → (opened folder ≡ None) × (mends folder ≡ None)
    by None at e = (at, e)
    by (Some one) at e = absurd (none-some one (sym e))

-- what is open is a publication, or a restoring
pub both_either : (opened mends : OpenTasks) (folder : List ℕ) (one : OpenTask) → both opened mends folder ≡ Some one → (opened folder ≡ Some one) ⊎ (mends folder ≡ Some one)
both_either opened mends folder one is = by (opened folder) refl is
  where
    by : (x : Option OpenTask) → opened folder ≡ x → option_or x (mends folder) ≡ Some one → (opened folder ≡ Some one) ⊎ (mends folder ≡ Some one)
    by None at e = inr e
    by (Some other) at e = inl (at ∙ e)

-- one publication more beside restorings is one more of both
pub with_both : (folder : List ℕ) (one : OpenTask) (opened mends : OpenTasks) (beside : List ℕ) → both (with_open folder one opened) mends beside ≡ with_open folder one (both opened mends) beside
with_both folder one opened mends beside = by (bytes_eq beside folder)
  where
    by : (b : Bool) → option_or (if b then Some one else opened beside) (mends beside) ≡ (if b then Some one else option_or (opened beside) (mends beside))
    by true = refl
    by false = refl

-- ---- a restoring and a publication

-- its task stands in the plan
pub mend_at : (o : Opening) (plan : Plan) (rows : List EquivRow) (begun : List (Option Avail)) (tale : List Logged) (restoring : List ℕ) (folder : List ℕ) (one : OpenTask) (m : IsMend o plan rows begun tale restoring folder one) → slice_get plan.tasks m.number ≡ Some m.own.task
mend_at o plan rows begun tale restoring folder one m = signed_task_at rows plan.tasks m.number m.own m.signed

module _ (o : Opening) (s : Seen) (run : IsRun o s) (none : s.fault ≡ None) where
  abbrev mend : (folder : List ℕ) (one : OpenTask) → run.mends folder ≡ Some one → IsMend o s.plan s.rows s.begun s.tale s.restoring folder one
  mend folder one is = (run.mending none).each folder one is

  -- no folder has both
  never_both : (folder : List ℕ) (one other : OpenTask) → run.opened folder ≡ Some one → run.mends folder ≡ Some other → ⊥
  never_both folder one other is beside =
      let h = (run.flights none).each folder one is in
      let m = (run.mending none).each folder other beside in
      elim (cases_eq h.number m.number) [
        | inl same ↦ (let n : fate.Waiting ≡ fate.Running h.seat = sym m.waits ∙ ap (fate_at (fates_told (length s.plan.tasks) s.tale)) (sym same) ∙ h.runs in cc)
        | inr ne ↦ folders_differ s.plan run.may.sound h.number m.number one.signed.task m.own.task h.flight.at (mend_at o s.plan s.rows s.begun s.tale s.restoring folder other m) ne (sym h.folder_is ∙ m.folder_is)
      ]

  pub mend_grounded : (folder : List ℕ) (other : OpenTask) → run.mends folder ≡ Some other → run.opened folder ≡ None
  mend_grounded folder other is = by (run.opened folder) refl
    where
      by : (x : Option OpenTask) → run.opened folder ≡ x → run.opened folder ≡ None
      by None e = e
      by (Some one) e = absurd (never_both folder one other e is)

  pub flight_alone : (folder : List ℕ) (one : OpenTask) → run.opened folder ≡ Some one → run.mends folder ≡ None
  flight_alone folder one is = by (run.mends folder) refl
    where
      by : (x : Option OpenTask) → run.mends folder ≡ x → run.mends folder ≡ None
      by None e = e
      by (Some other) e = absurd (never_both folder one other is e)

  -- a task that runs isn't one that is being restored
  pub mends_rest : (t seat : ℕ) → RunsAfter s.plan s.tale t seat → (folder : List ℕ) (one : OpenTask) (is : run.mends folder ≡ Some one) → ((run.mending none).each folder one is).number ≢ t
  mends_rest t seat runs folder one is same =
      let m = (run.mending none).each folder one is in
      let n : fate.Waiting ≡ fate.Running seat = sym m.waits ∙ ap (fate_at (fates_told (length s.plan.tasks) s.tale)) same ∙ runs in
      cc

  -- What the store has open of a task in hand, as of one without an object, is its restoring.
  module _ (t : ℕ) (hand : Contains s.restoring t) (sg : Signed) (signed : slice_get (signatures s.rows s.plan.tasks) t ≡ Some sg) (one : OpenTask) (is_open : both run.opened run.mends (task_folder sg.task) ≡ Some one) where
    at : slice_get s.plan.tasks t ≡ Some sg.task
    at = signed_task_at s.rows s.plan.tasks t sg signed

    not_flying : run.opened (task_folder sg.task) ≡ Some one → ⊥
    not_flying flies =
        let h = (run.flights none).each (task_folder sg.task) one flies in
        elim (cases_eq h.number t) [
          | inl same ↦ false≢true (sym ((run.mending none).rest t hand) ∙ ap (λ (n : ℕ). is_running (fate_at (fates_told (length s.plan.tasks) s.tale) n)) (sym same) ∙ ap is_running h.runs)
          | inr ne ↦ folders_differ s.plan run.may.sound h.number t one.signed.task sg.task h.flight.at at ne (sym h.folder_is)
        ]

    pub mend_open : run.mends (task_folder sg.task) ≡ Some one
    mend_open = elim (both_either run.opened run.mends (task_folder sg.task) one is_open) [
      | inl flies ↦ absurd (not_flying flies)
      | inr is ↦ is
    ]

    abbrev m : IsMend o s.plan s.rows s.begun s.tale s.restoring (task_folder sg.task) one
    m = (run.mending none).each (task_folder sg.task) one mend_open

    pub mend_number : ((run.mending none).each (task_folder sg.task) one mend_open).number ≡ t
    mend_number = elim (cases_eq m.number t) [
      | inl same ↦ same
      | inr ne ↦ absurd (folders_differ s.plan run.may.sound m.number t m.own.task sg.task (mend_at o s.plan s.rows s.begun s.tale s.restoring (task_folder sg.task) one m) at ne (sym m.folder_is))
    ]

    pub mend_own : ((run.mending none).each (task_folder sg.task) one mend_open).own ≡ sg
    mend_own = same_Some m.own sg (sym m.signed ∙ ap (slice_get (signatures s.rows s.plan.tasks)) mend_number ∙ signed)

    pub mend_waits : fate_at (fates_told (length s.plan.tasks) s.tale) t ≡ fate.Waiting
    mend_waits = subst (λ (n : ℕ). fate_at (fates_told (length s.plan.tasks) s.tale) n ≡ fate.Waiting) mend_number m.waits

-- ---- other tasks' events

-- The event is of none of the tasks whose restorings are open, and leaves none that is in hand running.
pub record IsBeside (o : Opening) (s : Seen) (run : IsRun o s) (event : Event) : Type 0 where
  pub numbers : (none : s.fault ≡ None) (folder : List ℕ) (one : OpenTask) (is : run.mends folder ≡ Some one) → ((run.mending none).each folder one is).number ≢ task_of event
  pub rest : s.fault ≡ None → Contains s.restoring (task_of event) → is_running (fate_by event) ≡ false

-- one of a task that isn't in hand
pub beside_unheld : (o : Opening) (s : Seen) (run : IsRun o s) (event : Event) → (Contains s.restoring (task_of event) → ⊥) → IsBeside o s run event
beside_unheld o s run event never = record {
  numbers = λ none folder one is same. never (subst (Contains s.restoring) same ((run.mending none).each folder one is).among);
  rest = λ none hand. absurd (never hand);
}

-- one that brings a running task to its end
pub beside_running : (o : Opening) (s : Seen) (run : IsRun o s) (event : Event) (seat : ℕ) → RunsAfter s.plan s.tale (task_of event) seat → is_running (fate_by event) ≡ false → IsBeside o s run event
beside_running o s run event seat runs rests = record {
  numbers = λ none folder one is. mends_rest o s run none (task_of event) seat runs folder one is;
  rest = λ none hand. rests;
}

-- a task that comes to rest rests
set_rests : (fates : List Fate) (t : ℕ) (f : Fate) → is_running f ≡ false → is_running (fate_at (set fates t f) t) ≡ false
set_rests [] t f rests = refl
set_rests (x ∷ fates) zero f rests = rests
set_rests (x ∷ fates) (suc t) f rests = set_rests fates t f rests

-- Behind it they are open as before.
pub mends_marked : (o : Opening) (s : Seen) (run : IsRun o s) (none : s.fault ≡ None) (entry : Logged) → IsBeside o s run entry.event → AreMends o s.plan s.rows s.begun (s.tale ++ entry ∷ []) s.restoring run.mends
mends_marked o s run none entry beside = record {
  each = λ folder one is.
      let m = (run.mending none).each folder one is in
      record {
        number = m.number;
        among = m.among;
        waits = other m.number (beside.numbers none folder one is) ∙ m.waits;
        begins = m.begins;
        own = m.own;
        signed = m.signed;
        folder_is = m.folder_is;
        puts = m.puts;
        row = m.row;
        object = m.object;
      };
  rest = λ t hand. elim (cases_eq t (task_of entry.event)) [
    | inl same ↦ ap (λ (n : ℕ). is_running (fate_at (fates_told (length s.plan.tasks) (s.tale ++ entry ∷ [])) n)) same ∙ own (beside.rest none (subst (Contains s.restoring) same hand))
    | inr ne ↦ ap is_running (other t ne) ∙ (run.mending none).rest t hand
  ];
}
  where
    other : (t : ℕ) → t ≢ task_of entry.event → fate_at (fates_told (length s.plan.tasks) (s.tale ++ entry ∷ [])) t ≡ fate_at (fates_told (length s.plan.tasks) s.tale) t
    other t ne = ap (λ (l : List Fate). fate_at l t) (told_push (length s.plan.tasks) s.tale entry) ∙ set_other (fates_told (length s.plan.tasks) s.tale) (task_of entry.event) t (fate_by entry.event) (λ same. ne (sym same))

    own : is_running (fate_by entry.event) ≡ false → is_running (fate_at (fates_told (length s.plan.tasks) (s.tale ++ entry ∷ [])) (task_of entry.event)) ≡ false
    own rests = ap (λ (l : List Fate). is_running (fate_at l (task_of entry.event))) (told_push (length s.plan.tasks) s.tale entry) ∙ set_rests (fates_told (length s.plan.tasks) s.tale) (task_of entry.event) (fate_by entry.event) rests

-- ---- another task is begun

pub mends_begun : (o : Opening) (s : Seen) (run : IsRun o s) (none : s.fault ≡ None) (begun : List (Option Avail)) (t : ℕ) → Begins s.begun begun t → ((folder : List ℕ) (one : OpenTask) (is : run.mends folder ≡ Some one) → ((run.mending none).each folder one is).number ≢ t) → AreMends o s.plan s.rows begun s.tale s.restoring run.mends
mends_begun o s run none begun t begins other = record {
  each = λ folder one is.
      let m = (run.mending none).each folder one is in
      record {
        number = m.number;
        among = m.among;
        waits = m.waits;
        begins = begins.others m.number (other folder one is) ∙ m.begins;
        own = m.own;
        signed = m.signed;
        folder_is = m.folder_is;
        puts = m.puts;
        row = m.row;
        object = m.object;
      };
  rest = (run.mending none).rest;
}

-- ---- rows come

-- The signatures of tasks whose records are stored stay, and so do their rows.
pub mends_over : (o : Opening) (plan : Plan) (book more : Book) (old rows : List EquivRow) (begun : List (Option Avail)) (tale : List Logged) (restoring : List ℕ) (mends : OpenTasks) → old ≡ rows_of book → rows ≡ rows_of (book ++ more) → MayReuse o.gives o.reading o.story.held book plan.tasks
    → AreMends o plan old begun tale restoring mends → AreMends o plan rows begun tale restoring mends
mends_over o plan book more old rows begun tale restoring mends were are may before = record { each = λ folder one is. by folder one (before.each folder one is); rest = before.rest }
  where
    by : (folder : List ℕ) (one : OpenTask) → IsMend o plan old begun tale restoring folder one → IsMend o plan rows begun tale restoring folder one
    by folder one m = record {
      number = m.number;
      among = m.among;
      waits = m.waits;
      begins = m.begins;
      own = m.own;
      signed = x.1 ∙ ap (λ (y : Signed). Some y) (sym same);
      folder_is = m.folder_is;
      puts = m.puts;
      row = m.row;
      object = record { stored = record { is_row = ap (λ (r : List EquivRow). row_at r (name_of m.own.sig)) are ∙ row_on o.gives o.reading o.story.held book more plan.tasks may (name_of m.own.sig) has ∙ row_was; sig = m.object.stored.sig }; is_tree = m.object.is_tree; holds = m.object.holds; manifest = m.object.manifest };
    }
      where
        row_was : row_at (rows_of book) (name_of m.own.sig) ≡ Some m.row
        row_was = ap (λ (r : List EquivRow). row_at r (name_of m.own.sig)) (sym were) ∙ m.object.stored.is_row

        has : row_at (rows_of book) (name_of m.own.sig) ≢ None
        has e = none-some m.row (sym e ∙ row_was)

        x : (y : Signed) × (slice_get (signatures rows plan.tasks) m.number ≡ Some y)
        x = signed_at old rows plan.tasks m.number m.own m.signed

        same : m.own ≡ x.0
        same =
            same_signed o.gives o.reading o.story.held book more plan.tasks may m.number m.own x.0
            (subst (λ (r : List EquivRow). slice_get (signatures r plan.tasks) m.number ≡ Some m.own) were m.signed)
            (subst (λ (r : List EquivRow). slice_get (signatures r plan.tasks) m.number ≡ Some x.0) are x.1) has
