-- The lines of publications that are open in a run.
use Rattle.std.proofs.Common.{◌≡◌, ◌≢◌, ◌∙◌, sym, ap, subst, refl, ℕ, zero, suc, inl, inr, List, [], ◌∷◌, ◌++◌, Some, None, append-nil}
use Rattle.std.specs.List.{AllByRecursion, slice_get}
use Rattle.std.proofs.lemmas.Bool.{cases_eq}
use Rattle.std.proofs.lemmas.Option.{none-some, same_Some}
use Rattle.outside_traits.specs.Store.{Store}
use Rattle.meta_model.specs.declared.event.Logged.{Logged}
use Rattle.meta_model.specs.declared.plan.Plan.{Plan}
use Rattle.meta_model.specs.declared.plan.PlanTask.{PlanTask}
use Rattle.run_core.proofs.Seats.{all_seated}
use Rattle.store_model.specs.Available.{task_folder}
use Rattle.store_model.specs.Origins.{Book, Line, row_of, rows_of}
use Rattle.store_model.specs.Readable.{HasShortPaths, IsReadable}
use Rattle.store_model.specs.Recording.{recorded}
use Rattle.store_model.specs.Reuse.{MayReuse}
use Rattle.store_model.specs.Rows.{row_at}
use Rattle.store_model.specs.Spelling.{name_of, record_bytes}
use Rattle.store_model.specs.Stored.{SpellsStored}
use Rattle.store_model.specs.Valid.{IsValidBook, IsValidLine}
use Rattle.store_model.specs.declared.signature.SigRecord.{SigRecord}
use Rattle.store_model.specs.declared.signature.StoredSig.{StoredSig}
use Rattle.store_model.proofs.Ordered.{each_append}
use Rattle.store_opening.proofs.Sorted.{each_at}
use Rattle.build_store.specs.Publication.{publication}
use Rattle.build_store.proofs.Apart.{same_parts}
use Rattle.run_model.specs.Books.{book_after, line_of_ended}
use Rattle.run_model.specs.InFlight.{AreInFlight, RunsAfter, book_with, lines_in_flight}
use Rattle.run_model.specs.Opening.{Opening}
use Rattle.run_queue.specs.Flights.{AreOnce, Flies, FliesAs, IsFlight, IsInHand, IsUnderWay, IsValidWith, OpenTask, OpenTasks}
use Rattle.run_queue.specs.Joined.{AllTwo, AreTwo}
use Rattle.run_queue.specs.Stands.{IsReadAfter}
use Rattle.run_queue.proofs.Enduring.{differ_at}
use Rattle.run_queue.proofs.OwnNames.{has_own_name}
use Rattle.run_queue.proofs.Growing.{ended_line}
use Rattle.run_queue.proofs.Joining.{lines_join}
use Rattle.run_queue.proofs.Placing.{has_place}
use Rattle.run_queue.proofs.Recorded.{IsPut, put_line}

-- ---- lines that are of two tasks

pub two_append : (xs ys : Book) → AllTwo xs → AllTwo ys → AllByRecursion (λ (x : Line). AllByRecursion (AreTwo x) ys) xs → AllTwo (xs ++ ys)
two_append [] ys a b cross = b
two_append (x ∷ xs) ys a b cross = (each_append (AreTwo x) xs ys a.0 cross.0, two_append xs ys a.1 b cross.1)

-- what is known of each by two lists
pub each_both : {A : Type 0} (P Q R : A → Type 0) → ((x : A) → P x → Q x → R x) → (xs : List A) → AllByRecursion P xs → AllByRecursion Q xs → AllByRecursion R xs
each_both P Q R f [] p q = tt
each_both P Q R f (x ∷ xs) p q = (f x p.0 q.0, each_both P Q R f xs p.1 q.1)

pub each_of : {A : Type 0} (P : A → Type 0) → ((x : A) → P x) → (xs : List A) → AllByRecursion P xs
each_of P f [] = tt
each_of P f (x ∷ xs) = (f x, each_of P f xs)

-- the line has this signature
abbrev pub HasSig : SigRecord → Line → Type 0
HasSig sig line = line.sig ≡ sig

-- lines of two signatures
two_of_sigs : (one other : SigRecord) → name_of one ≢ name_of other → (one.pn ≡ other.pn → one.task ≡ other.task → ⊥) → (a b : Line) → a.sig ≡ one → b.sig ≡ other → AreTwo a b
two_of_sigs one other names tasks a b p q = record {
  names = λ same. names (sym (ap name_of p) ∙ same ∙ ap name_of q);
  tasks = λ pn task. tasks (sym (ap (λ (g : SigRecord). g.pn) p) ∙ pn ∙ ap (λ (g : SigRecord). g.pn) q) (sym (ap (λ (g : SigRecord). g.task) p) ∙ task ∙ ap (λ (g : SigRecord). g.task) q);
}

two_beside : (one other : SigRecord) → name_of one ≢ name_of other → (one.pn ≡ other.pn → one.task ≡ other.task → ⊥) → (a : Line) → a.sig ≡ one → (ys : Book) → AllByRecursion (HasSig other) ys → AllByRecursion (AreTwo a) ys
two_beside one other names tasks a p [] all = tt
two_beside one other names tasks a p (y ∷ ys) all = (two_of_sigs one other names tasks a y p all.0, two_beside one other names tasks a p ys all.1)

-- ---- a publication over a book

module _ (o : Opening) (plan : Plan) (book : Book) (may : MayReuse o.gives o.reading o.story.held book plan.tasks) (t : ℕ) (one : OpenTask) (f : IsFlight o plan book t one) where
  -- its line: it stands in the book, or comes behind it
  pub put_of : IsPut o.gives o.reading book (publication (rows_of book) one.signed one.tree) one.signed one.tree
  put_of = put_line o.gives o.reading o.story.held book plan.tasks may t one.signed f.clean.0 f.signed f.clean.1 f.needs one.tree f.clean.2

  -- that is the line that the task puts behind the book when it ends
  pub line_is : line_of_ended o.gives plan book t ≡ put_of.more
  line_is = elim put_of.stands [
    | inl known ↦ lines.1 (row_of put_of.line) (sym (ap (λ (b : Book). row_at (rows_of b) (name_of one.signed.sig)) (ap (λ (b : Book). book ++ b) known.1 ∙ append-nil book)) ∙ put_of.row) ∙ sym known.1
    | inr new ↦ lines.0 new.2 ∙ sym (new.1 ∙ ap (λ (l : Line). l ∷ []) new.3)
  ]
    where
      lines : (row_at (rows_of book) (name_of one.signed.sig) ≡ None → line_of_ended o.gives plan book t ≡ recorded (rows_of book) one.signed one.tree ∷ [])
          × ((row : Rattle.store_model.specs.declared.signature.EquivRow.EquivRow) → row_at (rows_of book) (name_of one.signed.sig) ≡ Some row → line_of_ended o.gives plan book t ≡ [])
      lines = ended_line o.gives plan book t one.signed f.clean.0 one.tree f.signed f.clean.1 f.clean.2

  -- it is valid behind the book
  pub line_alone : AllByRecursion (IsValidLine o.gives o.reading book) (line_of_ended o.gives plan book t)
  line_alone = subst (AllByRecursion (IsValidLine o.gives o.reading book)) (sym line_is) (elim put_of.stands [
    | inl known ↦ subst (AllByRecursion (IsValidLine o.gives o.reading book)) (sym known.1) tt
    | inr new ↦ subst (AllByRecursion (IsValidLine o.gives o.reading book)) (sym new.1) (new.0, tt)
  ])

  -- it is of the task, with its signature
  pub line_named : AllByRecursion (HasSig one.signed.sig) (line_of_ended o.gives plan book t)
  line_named = subst (AllByRecursion (HasSig one.signed.sig)) (sym line_is) (elim put_of.stands [
    | inl known ↦ subst (AllByRecursion (HasSig one.signed.sig)) (sym known.1) tt
    | inr new ↦ subst (AllByRecursion (HasSig one.signed.sig)) (sym new.1) (put_of.sig, tt)
  ])

  line_two : AllTwo (line_of_ended o.gives plan book t)
  line_two = subst AllTwo (sym line_is) (elim put_of.stands [
    | inl known ↦ subst AllTwo (sym known.1) tt
    | inr new ↦ subst AllTwo (sym new.1) (tt, tt)
  ])

  -- it can be read again
  pub line_readable : AllByRecursion IsReadable (line_of_ended o.gives plan book t)
  line_readable = subst (AllByRecursion IsReadable) (sym line_is) (elim put_of.stands [
    | inl known ↦ subst (AllByRecursion IsReadable) (sym known.1) tt
    | inr new ↦ subst (AllByRecursion IsReadable) (sym new.1) (same, tt)
  ])
    where
      same : IsReadable put_of.line
      same = record {
        spelled = subst (λ (x : StoredSig). SpellsStored (record_bytes x) x) (λ i. record { sig = sym put_of.sig i; manifest = sym put_of.manifest i; unihash = sym put_of.unihash i }) f.readable.spelled;
        short = subst HasShortPaths (sym put_of.manifest) f.readable.short;
      }

-- ---- flights of a run

-- tasks at two numbers have two folders
pub folders_differ : (plan : Plan) → Rattle.plan_model.specs.Sound.IsSound plan → (t u : ℕ) (task other : PlanTask) → slice_get plan.tasks t ≡ Some task → slice_get plan.tasks u ≡ Some other → (t ≡ u → ⊥) → task_folder task ≢ task_folder other
folders_differ plan sound t u task other at_t at_u ne same =
    let a = has_place plan t task sound at_t in
    let b = has_place plan u other sound at_u in
    let parts = same_parts task.id.pn other.id.pn task.id.task other.id.task a.pn.alone b.pn.alone same in
    differ_at plan sound t u task other at_t at_u ne parts.0 parts.1

module _ (o : Opening) (plan : Plan) (tale : List Logged) (opened : OpenTasks) (w : IsUnderWay o plan tale opened) where
  abbrev Now : Book
  Now = book_after o.gives plan o.book tale

  -- what is kept of the publication of a task
  pub in_hand : (t : ℕ) (one : OpenTask) → FliesAs plan opened t one → IsInHand o plan tale (task_folder one.signed.task) one
  in_hand t one fl = w.flights.each (task_folder one.signed.task) one fl.1

  pub same_number : (t : ℕ) (one : OpenTask) (fl : FliesAs plan opened t one) → (in_hand t one fl).number ≡ t
  same_number t one fl = elim (cases_eq (in_hand t one fl).number t) [
    | inl same ↦ same
    | inr ne ↦ absurd (differ_at plan w.may.sound (in_hand t one fl).number t one.signed.task one.signed.task (in_hand t one fl).flight.at fl.0 ne refl refl)
  ]

  pub runs_now : (t : ℕ) (one : OpenTask) (fl : FliesAs plan opened t one) → RunsAfter plan tale t (in_hand t one fl).seat
  runs_now t one fl = subst (λ (n : ℕ). RunsAfter plan tale n (in_hand t one fl).seat) (same_number t one fl) (in_hand t one fl).runs

  pub flight_of : (t : ℕ) (one : OpenTask) → FliesAs plan opened t one → IsFlight o plan (book_after o.gives plan o.book tale) t one
  flight_of t one fl = subst (λ (n : ℕ). IsFlight o plan (book_after o.gives plan o.book tale) n one) (same_number t one fl) (in_hand t one fl).flight

  own_name : (t : ℕ) (one : OpenTask) (fl : FliesAs plan opened t one) → (one.signed.sig.pn ≡ one.signed.task.id.pn) × (one.signed.sig.task ≡ one.signed.task.id.task)
  own_name t one fl = has_own_name (rows_of Now) plan.tasks t one.signed (flight_of t one fl).signed

  -- two of them have two names, and are of two tasks
  pub names_two : (t u : ℕ) (one other : OpenTask) → FliesAs plan opened t one → FliesAs plan opened u other → (t ≡ u → ⊥) → name_of one.signed.sig ≢ name_of other.signed.sig
  names_two t u one other fl gl ne = w.flights.apart (task_folder one.signed.task) (task_folder other.signed.task) one other fl.1 gl.1 (folders_differ plan w.may.sound t u one.signed.task other.signed.task fl.0 gl.0 ne)

  pub tasks_two : (t u : ℕ) (one other : OpenTask) → FliesAs plan opened t one → FliesAs plan opened u other → (t ≡ u → ⊥) → one.signed.sig.pn ≡ other.signed.sig.pn → one.signed.sig.task ≡ other.signed.sig.task → ⊥
  tasks_two t u one other fl gl ne pn task =
      let a = own_name t one fl in
      let b = own_name u other gl in
      differ_at plan w.may.sound t u one.signed.task other.signed.task fl.0 gl.0 ne (sym a.0 ∙ pn ∙ b.0) (sym a.1 ∙ task ∙ b.1)

  -- ---- the lines of some of them

  pub all_alone : (ts : List ℕ) → AllByRecursion (Flies plan opened) ts → AllByRecursion (IsValidLine o.gives o.reading (book_after o.gives plan o.book tale)) (lines_in_flight o.gives plan (book_after o.gives plan o.book tale) ts)
  all_alone [] fly = tt
  all_alone (t ∷ ts) fly =
      each_append (IsValidLine o.gives o.reading Now) (line_of_ended o.gives plan Now t) (lines_in_flight o.gives plan Now ts)
      (line_alone o plan Now w.reuse t fly.0.0 (flight_of t fly.0.0 fly.0.1)) (all_alone ts fly.1)

  pub all_readable : (ts : List ℕ) → AllByRecursion (Flies plan opened) ts → AllByRecursion IsReadable (lines_in_flight o.gives plan (book_after o.gives plan o.book tale) ts)
  all_readable [] fly = tt
  all_readable (t ∷ ts) fly =
      each_append IsReadable (line_of_ended o.gives plan Now t) (lines_in_flight o.gives plan Now ts)
      (line_readable o plan Now w.reuse t fly.0.0 (flight_of t fly.0.0 fly.0.1)) (all_readable ts fly.1)

  -- a line of a task is another than those of others
  pub two_besides : (t : ℕ) (one : OpenTask) → FliesAs plan opened t one → (line : Line) → line.sig ≡ one.signed.sig → (ts : List ℕ) → AllByRecursion (Flies plan opened) ts → AllByRecursion (λ u. t ≢ u) ts → AllByRecursion (AreTwo line) (lines_in_flight o.gives plan (book_after o.gives plan o.book tale) ts)
  two_besides t one fl line is [] fly ne = tt
  two_besides t one fl line is (u ∷ us) fly ne =
      each_append (AreTwo line) (line_of_ended o.gives plan Now u) (lines_in_flight o.gives plan Now us)
      (two_beside one.signed.sig fly.0.0.signed.sig (names_two t u one fly.0.0 fl fly.0.1 ne.0) (tasks_two t u one fly.0.0 fl fly.0.1 ne.0) line is (line_of_ended o.gives plan Now u) (line_named o plan Now w.reuse u fly.0.0 (flight_of u fly.0.0 fly.0.1)))
      (two_besides t one fl line is us fly.1 ne.1)

  all_two : (ts : List ℕ) → AllByRecursion (Flies plan opened) ts → AreOnce ts → AllTwo (lines_in_flight o.gives plan Now ts)
  all_two [] fly once = tt
  all_two (t ∷ ts) fly once =
      two_append (line_of_ended o.gives plan Now t) (lines_in_flight o.gives plan Now ts)
      (line_two o plan Now w.reuse t fly.0.0 (flight_of t fly.0.0 fly.0.1))
      (all_two ts fly.1 once.1)
      (cross (line_of_ended o.gives plan Now t) (line_named o plan Now w.reuse t fly.0.0 (flight_of t fly.0.0 fly.0.1)))
    where
      cross : (xs : Book) → AllByRecursion (HasSig fly.0.0.signed.sig) xs → AllByRecursion (λ (x : Line). AllByRecursion (AreTwo x) (lines_in_flight o.gives plan Now ts)) xs
      cross [] all = tt
      cross (x ∷ xs) all = (two_besides t fly.0.0 fly.0.1 x all.0 ts fly.1 once.0, cross xs all.1)

  -- Behind the book of what ended any choice of lines in flight is a valid book.
  pub choice_valid : (ts : List ℕ) → AllByRecursion (Flies plan opened) ts → AreOnce ts → IsValidBook o.gives o.reading (book_with o plan tale ts)
  choice_valid ts fly once = lines_join o.gives o.reading Now (lines_in_flight o.gives plan Now ts) w.reuse.valid (all_alone ts fly) (all_two ts fly once)

  -- ---- as a run promises it

  pub flown : (ts : List ℕ) → AllByRecursion (Flies plan opened) ts → AreOnce ts → AreInFlight plan tale ts
  flown ts fly once = record {
    runs = λ k t here. let fl = each_at (Flies plan opened) ts k t fly here in ((in_hand t fl.0 fl.1).seat, runs_now t fl.0 fl.1);
    apart = λ j k t u seat one two a b. once_place ts once j k t u one two ((all_seated plan.tasks tale w.orderly).one t u seat a b);
  }
    where
      not_there : (t : ℕ) (us : List ℕ) (k u : ℕ) → AllByRecursion (λ x. t ≢ x) us → slice_get us k ≡ Some u → t ≡ u → ⊥
      not_there t us k u all here same = each_at (λ x. t ≢ x) us k u all here same

      once_place : (us : List ℕ) → AreOnce us → (j k t u : ℕ) → slice_get us j ≡ Some t → slice_get us k ≡ Some u → t ≡ u → j ≡ k
      once_place [] all j k t u a b same = absurd (none-some t a)
      once_place (x ∷ us) all zero zero t u a b same = refl
      once_place (x ∷ us) all zero (suc k) t u a b same = absurd (not_there x us k u all.0 b (same_Some x t a ∙ same))
      once_place (x ∷ us) all (suc j) zero t u a b same = absurd (not_there x us j t all.0 a (same_Some x u b ∙ sym same))
      once_place (x ∷ us) all (suc j) (suc k) t u a b same = ap suc (once_place us all.1 j k t u a b same)

  -- What is valid with some lines in flight is so as a run promises it of a crash.
  pub with_is_read : (image : Store) → IsValidWith o plan tale opened image → IsReadAfter o plan tale image
  with_is_read image v = record {
    after = record { in_flight = v.in_flight; flies = flown v.in_flight v.fly v.once; valid = v.valid; alone = all_alone v.in_flight v.fly };
    readable = each_append IsReadable Now (lines_in_flight o.gives plan Now v.in_flight) w.readable (all_readable v.in_flight v.fly);
  }
