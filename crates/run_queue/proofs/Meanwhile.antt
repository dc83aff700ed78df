-- What others' turns leave of publications that are open, and of tasks that run.
use Rattle.std.proofs.Common.{◌≡◌, ◌≢◌, ◌∙◌, sym, ap, subst, refl, ℕ, ◌⊎◌, inl, inr, arith, true, false, List, [], ◌∷◌, ◌++◌, length, Some, None}
use Rattle.std.specs.Prelude.{Contains, IsSome, Option, codes}
use Rattle.std.specs.Option.{option_or}
use Rattle.std.specs.List.{AllByRecursion}
use Rattle.std.proofs.lemmas.Bool.{cases_eq, false≢true}
use Rattle.std.proofs.lemmas.List.{map-append}
use Rattle.std.proofs.lemmas.List.Folds.{find-append}
use Rattle.tree_model.specs.declared.hash.Hash.{Hash}
use Rattle.tree_model.specs.Hash.{hash_text}
use Rattle.tree_model.specs.Path.{inside}
use Rattle.outside_traits.specs.Store.{Store}
use Rattle.outside_traits.proofs.Puts.{path_cases}
use Rattle.meta_model.specs.declared.event.Avail.TheVariants.{Missing, Object}
use Rattle.meta_model.specs.declared.event.Logged.{Logged}
use Rattle.meta_model.specs.declared.plan.Plan.{Plan}
use Rattle.tale_model.specs.declared.fate.Fate.{Fate}
use Rattle.tale_model.specs.Fates.{fate_at, fate_by, fates_told, is_running, task_of}
use Rattle.run_core.proofs.Steps.{told_push}
use Rattle.run_model.specs.InFlight.{RunsAfter}
use Rattle.run_model.specs.Stands.{HasBroken, IsPlaced}
use Rattle.run_queue.specs.Keeps.{IsToldOf, WasThere}
use Rattle.run_queue.specs.Seen.{Seen}
use Rattle.run_queue.specs.declared.fault.RunFault.{RunFault}
use Rattle.run_queue.proofs.Notes.{set_other}
use Rattle.run_queue.proofs.Touched.{broken_on, placed_on}
use Rattle.store_model.specs.Available.{IsAvailable, IsStored}
use Rattle.store_model.specs.Origins.{row_of, rows_of}
use Rattle.store_model.specs.Paths.{key_path, record_path}
use Rattle.store_model.specs.Publication.{Publication}
use Rattle.store_model.specs.Rows.{hash_eq, row_at}
use Rattle.store_model.specs.Signatures.{Signed}
use Rattle.store_model.specs.Spelling.{key_name, name_of, signature_bytes}
use Rattle.store_model.specs.declared.signature.EquivRow.{EquivRow}
use Rattle.store_model.specs.declared.signature.SigRecord.{SigRecord}
use Rattle.store_model.proofs.Listing.{find_splits}
use Rattle.store_model.proofs.Ordered.{each_middle, map_each}
use Rattle.store_model.proofs.Reading.{signature_is_read}
use Rattle.store_model.proofs.Staying.{signatures_stay}
use Rattle.build_store.specs.Publication.{Publishes, Restores}
use Rattle.run_model.specs.Opening.{Opening}
use Rattle.run_queue.specs.FlightLaws.{MissingStays, OtherBytes, RestoringKeepsValid, StartedStaysMissing, ToldAtEnd, ToldGoesOn}
use Rattle.run_queue.specs.Flights.{IsValidWith, OpenTasks}
use Rattle.run_queue.proofs.Clearing.{signature_fits, unihashes_are}
use Rattle.run_queue.proofs.Enduring.{signed_task}
use Rattle.run_queue.proofs.OwnNames.{signed_task_at}
use Rattle.run_queue.proofs.Honest.{foreign_key, foreign_record}

-- ---- a restoring

-- where no record is new, all are as they were
records_stay : (p : Publication) (old new : Store) → p.is_new ≡ false → Publishes p old new → (path : List ℕ) → new (inside (codes "rec2") path) ≡ old (inside (codes "rec2") path)
records_stay p old new not_new publishes path = by (path_cases (inside (codes "rec2") path) (record_path p.name))
  where
    at_own : inside (codes "rec2") path ≡ record_path p.name → (new (record_path p.name) ≡ old (record_path p.name)) ⊎ ((p.is_new ≡ true) × (new (record_path p.name) ≡ Some p.file) × (new (key_path p.key) ≡ Some p.key_file)) → new (inside (codes "rec2") path) ≡ old (inside (codes "rec2") path)
    at_own same (inl stays) = ap new same ∙ stays ∙ sym (ap old same)
    at_own same (inr put) = absurd (false≢true (sym not_new ∙ put.0))

    by : (inside (codes "rec2") path ≡ record_path p.name) ⊎ (inside (codes "rec2") path ≢ record_path p.name) → new (inside (codes "rec2") path) ≡ old (inside (codes "rec2") path)
    by (inl same) = at_own same publishes.stored
    by (inr ne) = publishes.others (inside (codes "rec2") path) (foreign_record p path (λ is_new. ne))

-- and where no key is written, so are all keys
keys_stay : (p : Publication) (old new : Store) → p.writes_key ≡ false → Publishes p old new → (name : Hash) → new (key_path name) ≡ old (key_path name)
keys_stay p old new not_written publishes name = publishes.others (key_path name) (foreign_key p (hash_text name) (λ writes. absurd (false≢true (sym not_written ∙ writes))))

pub still_valid : (o : Opening) (plan : Plan) (tale : List Logged) (opened : OpenTasks) (p : Publication) (old new : Store) → p.is_new ≡ false → p.writes_key ≡ false → Publishes p old new → IsValidWith o plan tale opened old → IsValidWith o plan tale opened new
still_valid o plan tale opened p old new not_new not_written publishes v = record {
  in_flight = v.in_flight;
  fly = v.fly;
  once = v.once;
  valid = record { records = λ path. records_stay p old new not_new publishes path ∙ v.valid.records path; lines = v.valid.lines; keys = λ before line stands. keys_stay p old new not_written publishes (key_name line.sig.key) ∙ v.valid.keys before line stands };
}

pub restoring_keeps_valid : RestoringKeepsValid
restoring_keeps_valid o plan tale opened held rows s a b pass with image is = by made.2 (with made.0 made.1)
  where
    made : (earlier : Store) × Rattle.outside_traits.specs.Story.IsImage a earlier × Restores held rows s earlier image
    made = pass.now image is

    by : Restores held rows s made.0 image → IsValidWith o plan tale opened made.0 → IsValidWith o plan tale opened image
    by (inl same) v = subst (IsValidWith o plan tale opened) (sym same) v
    by (inr r) v = still_valid o plan tale opened (Rattle.build_store.specs.Publication.restoration s r.row r.tree) made.0 image refl refl r.publishes v

-- ---- rows that come

-- a row that stands for a task among more rows stood for it among the first, where no other has its signature's bytes
stored_before : (rows more : List EquivRow) (s : Signed) (row : EquivRow) → AllByRecursion (λ (r : EquivRow). r.sig ≢ signature_bytes s.sig) more → IsStored (rows ++ more) s row → IsStored rows s row
stored_before rows more s row others stored = by (row_at rows (name_of s.sig)) refl
  where
    both : option_or (row_at rows (name_of s.sig)) (row_at more (name_of s.sig)) ≡ Some row
    both = sym (find-append (λ (r : EquivRow). hash_eq r.name (name_of s.sig)) rows more) ∙ stored.is_row

    by : (o : Option EquivRow) → row_at rows (name_of s.sig) ≡ o → IsStored rows s row
    by (Some r) e = record { is_row = e ∙ sym (ap (λ (o : Option EquivRow). option_or o (row_at more (name_of s.sig))) e) ∙ both; sig = stored.sig }
    by None e =
        let at : row_at more (name_of s.sig) ≡ Some row = sym (ap (λ (o : Option EquivRow). option_or o (row_at more (name_of s.sig))) e) ∙ both in
        let f = find_splits (λ (r : EquivRow). hash_eq r.name (name_of s.sig)) more row at in
        absurd (each_middle (λ (r : EquivRow). r.sig ≢ signature_bytes s.sig) f.0.front row f.0.rest (subst (AllByRecursion (λ (r : EquivRow). r.sig ≢ signature_bytes s.sig)) f.0.is others) stored.sig)

pub missing_stays : MissingStays
missing_stays held rows more setscene s others missing = (
  λ w. missing.0 (record { kept = w.kept; row = w.row; stored = stored_before rows more s w.row others w.stored; stamp = w.stamp; folder = w.folder }),
  λ w. missing.1 (record { kept = w.kept; sstate = w.sstate; counts = w.counts; row = w.row; stored = stored_before rows more s w.row others w.stored; object = w.object }),
)

pub other_bytes : OtherBytes
other_bytes o plan book may valid t s is line readable other same =
    let fits = may.spellings (rows_of book) (unihashes_are o.gives o.reading book valid) t s is in
    let one : line.sig ≡ s.sig = signature_is_read line.sig s.sig (signature_fits line.sig readable.spelled.sound.sig) fits same in
    other (ap (λ (g : SigRecord). g.pn) one) (ap (λ (g : SigRecord). g.task) one)

pub started_stays_missing : StartedStaysMissing
started_stays_missing o plan book more may setscene t s later is is_later needs others missing =
    let sig = signatures_stay o.gives o.reading o.story.held book more plan.tasks may t s later is is_later needs in
    let task = signed_task (rows_of (book ++ more)) plan.tasks t later s.task is_later (signed_task_at (rows_of book) plan.tasks t s is) in
    let same : s ≡ later = λ i. record { task = sym task i; sig = sym sig i } in
    subst (λ (x : Signed). IsAvailable o.story.held (rows_of (book ++ more)) setscene x Missing) same
    (subst (λ (r : List EquivRow). IsAvailable o.story.held r setscene s Missing) (sym (map-append row_of book more))
    (missing_stays o.story.held (rows_of book) (rows_of more) setscene s (map_each row_of (λ (r : EquivRow). r.sig ≢ signature_bytes s.sig) more others) missing))

-- ---- what is told

pub told_at_end : ToldAtEnd
told_at_end o s t none over told = elim told [
  | inl placed ↦ inl placed
  | inr rest ↦ elim rest [
    | inl runs ↦ absurd (none t (ap is_running runs.1))
    | inr more ↦ elim more [
      | inl it ↦ inr (it.0, inl it.1)
      | inr hand ↦ elim over [
        | inl empty ↦ absurd (none_in (subst (λ (l : List ℕ). Contains l t) empty hand.0))
        | inr some ↦ inr (some, inr hand)
      ]
    ]
  ]
]
  where
    none_in : Contains {X = ℕ} [] t → ⊥
    none_in c = let lt = c.1 in omega (arith, lt)

pub told_goes_on : ToldGoesOn
told_goes_on o s later t entry same_plan same_tale stays hand own told = elim told [
  | inl placed ↦ inl (subst (λ (l : List Logged). IsPlaced l t) (sym same_tale) (placed_on s.tale entry t placed))
  | inr rest ↦ elim rest [
    | inl runs ↦ runs_on runs.0 runs.1 (cases_eq t (task_of entry.event))
    | inr more ↦ elim more [
      | inl it ↦ inr (inr (inl (stays it.0, subst (λ (l : List Logged). HasBroken l t) (sym same_tale) (broken_on s.tale entry t it.1))))
      | inr was ↦ inr (inr (inr (hand was.0 was.1)))
    ]
  ]
]
  where
    runs_on : (seat : ℕ) → RunsAfter s.plan s.tale t seat → (t ≡ task_of entry.event) ⊎ (t ≢ task_of entry.event) → IsToldOf o later t
    runs_on seat runs (inl same) = elim (own seat same runs) [
      | inl placed ↦ inl placed
      | inr broken ↦ inr (inr (inl broken))
    ]
    runs_on seat runs (inr ne) =
        let now : RunsAfter s.plan (s.tale ++ entry ∷ []) t seat = ap (λ (l : List Fate). fate_at l t) (told_push (length s.plan.tasks) s.tale entry) ∙ set_other (fates_told (length s.plan.tasks) s.tale) (task_of entry.event) t (fate_by entry.event) (λ e. ne (sym e)) ∙ runs in
        inr (inl (seat, subst (λ (p : Plan). RunsAfter p later.tale t seat) (sym same_plan) (subst (λ (l : List Logged). RunsAfter s.plan l t seat) (sym same_tale) now)))

-- where a fault is kept it stays, as long as none is kept now only where none was
pub fault_stays : (old new : Option RunFault) → (new ≡ None → old ≡ None) → IsSome old → IsSome new
fault_stays old (Some f) stays is = refl
fault_stays None None stays is = is
fault_stays (Some f) None stays is = absurd (let n : Some f ≡ None = stays refl in cc)

-- A task is told of still, by views that say the same of what was there, where a fault stays.
pub told_by : (o : Opening) (s later : Seen) (t : ℕ) → later.plan ≡ s.plan → later.tale ≡ s.tale → (IsSome s.fault → IsSome later.fault) → (Contains s.restoring t → WasThere o s t Object → Contains later.restoring t × WasThere o later t Object) → IsToldOf o s t → IsToldOf o later t
told_by o s later t same_plan same_tale stays hand told = elim told [
  | inl placed ↦ inl (subst (λ (l : List Logged). IsPlaced l t) (sym same_tale) placed)
  | inr rest ↦ elim rest [
    | inl runs ↦ inr (inl (runs.0, subst (λ (p : Plan). RunsAfter p later.tale t runs.0) (sym same_plan) (subst (λ (l : List Logged). RunsAfter s.plan l t runs.0) (sym same_tale) runs.1)))
    | inr more ↦ elim more [
      | inl it ↦ inr (inr (inl (stays it.0, subst (λ (l : List Logged). HasBroken l t) (sym same_tale) it.1)))
      | inr was ↦ inr (inr (inr (hand was.0 was.1)))
    ]
  ]
]
