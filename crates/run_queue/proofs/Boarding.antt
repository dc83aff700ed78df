-- A publication is opened beside others; an event is marked that records nothing.
use Rattle.std.proofs.Common.{◌≡◌, ◌≢◌, ◌∙◌, sym, ap, subst, refl, ℕ, ◌⊎◌, inl, inr, List, [], ◌∷◌, ◌++◌, length, Some, None, append-nil}
use Rattle.std.specs.Prelude.{Bool, Option, false, if◌then◌else◌}
use Rattle.std.specs.Option.{option_map, option_or}
use Rattle.std.specs.List.{AllByRecursion}
use Rattle.std.specs.Str.{bytes_eq}
use Rattle.meta_model.proofs.Bools.{either_way, same_text, text_itself}
use Rattle.std.proofs.lemmas.Option.{none-some, same_Some}
use Rattle.outside_traits.specs.Store.{Store}
use Rattle.outside_traits.proofs.Puts.{path_cases}
use Rattle.meta_model.specs.declared.event.Logged.{Logged}
use Rattle.meta_model.specs.declared.plan.Plan.{Plan}
use Rattle.tale_model.specs.declared.fate.Fate.{Fate}
use Rattle.tale_model.specs.Fates.{NoneRuns, fate_at, fate_by, fates_told, is_running, task_of}
use Rattle.run_core.proofs.Steps.{told_push}
use Rattle.store_model.specs.Available.{task_folder}
use Rattle.store_model.specs.Origins.{Book}
use Rattle.store_model.specs.Spelling.{name_of}
use Rattle.store_model.specs.Valid.{IsValid}
use Rattle.run_model.specs.Books.{book_after}
use Rattle.run_model.specs.InFlight.{book_with, lines_in_flight}
use Rattle.run_model.specs.Opening.{Opening}
use Rattle.run_queue.specs.FlightLaws.{BeginsUnderWay, EndsWithNothing, MarksKeepFlights, OneMoreOrLess, OpeningKeepsFlights, OpeningKeepsOthers}
use Rattle.run_queue.specs.Flights.{AreFlights, Flies, IsFlight, IsInHand, OpenTask, OpenTasks, OpensAt, view_of}
use Rattle.run_queue.proofs.Growing.{book_grows}
use Rattle.run_queue.proofs.Notes.{set_other}

-- ---- nothing is open

pub begins_under_way : BeginsUnderWay
begins_under_way o plan may clear = (
  record {
    may = may;
    orderly = λ k entry at. absurd (none-some entry at);
    lines = [];
    grown = sym (append-nil o.book);
    readable = may.readable;
    reuse = may.may clear;
    flights = record {
      each = λ folder one is. absurd (none-some one is);
      apart = λ folder beside one other is_one is_other ne. absurd (none-some one is_one);
    };
  },
  λ image is. record {
    in_flight = [];
    fly = tt;
    once = tt;
    valid = subst (IsValid o.gives o.reading image) (sym (append-nil o.book)) (subst (λ (i : Store). IsValid o.gives o.reading i o.book) (sym (may.durable image is)) may.valid);
  },
)

none_open : (o : Opening) (plan : Plan) (tale : List Logged) (opened : OpenTasks) → AreFlights o plan tale opened → NoneRuns (fates_told (length plan.tasks) tale) → (folder : List ℕ) (one : OpenTask) → opened folder ≡ Some one → ⊥
none_open o plan tale opened flights rest folder one is = let h = flights.each folder one is in rest h.number (ap is_running h.runs)

pub ends_with_nothing : EndsWithNothing
ends_with_nothing o plan tale opened flights rest = (
  λ image v. by image v.in_flight v.fly v.valid,
  λ mends views none same folder. sym (same folder) ∙ ap (λ (x : Option OpenTask). option_map view_of (option_or x (mends folder))) (nothing folder (opened folder) refl) ∙ ap (option_map view_of) (none folder),
)
  where
    by : (image : Store) (ts : List ℕ) → AllByRecursion (Flies plan opened) ts → IsValid o.gives o.reading image (book_with o plan tale ts) → IsValid o.gives o.reading image (book_after o.gives plan o.book tale)
    by image [] fly valid = subst (IsValid o.gives o.reading image) (append-nil (book_after o.gives plan o.book tale)) valid
    by image (t ∷ ts) fly valid = absurd (none_open o plan tale opened flights rest (task_folder fly.0.0.signed.task) fly.0.0 fly.0.1.1)

    nothing : (folder : List ℕ) (x : Option OpenTask) → opened folder ≡ x → opened folder ≡ None
    nothing folder None is = is
    nothing folder (Some one) is = absurd (none_open o plan tale opened flights rest folder one is)

-- ---- one more is opened

module _ (o : Opening) (plan : Plan) (tale : List Logged) (opened later : OpenTasks) (flights : AreFlights o plan tale opened) (one : OpenTask) (opens : OpensAt (task_folder one.signed.task) one opened later) (hand : IsInHand o plan tale (task_folder one.signed.task) one)
    (apart : (beside : List ℕ) (other : OpenTask) → opened beside ≡ Some other → name_of one.signed.sig ≢ name_of other.signed.sig) where
  -- what is open is this one, or was open
  either : (folder : List ℕ) (other : OpenTask) → later folder ≡ Some other → ((folder ≡ task_folder one.signed.task) × (one ≡ other)) ⊎ (opened folder ≡ Some other)
  either folder other is = elim (path_cases folder (task_folder one.signed.task)) [
    | inl same ↦ inl (same, same_Some one other (sym opens.is_open ∙ sym (ap later same) ∙ is))
    | inr ne ↦ inr (sym (opens.others folder ne) ∙ is)
  ]

  each : (folder : List ℕ) (other : OpenTask) → later folder ≡ Some other → IsInHand o plan tale folder other
  each folder other is = elim (either folder other is) [
    | inl it ↦ subst (IsInHand o plan tale folder) it.1 (subst (λ (f : List ℕ). IsInHand o plan tale f one) (sym it.0) hand)
    | inr was ↦ flights.each folder other was
  ]

  two_names : (folder beside : List ℕ) (a b : OpenTask) → later folder ≡ Some a → later beside ≡ Some b → folder ≢ beside → name_of a.signed.sig ≢ name_of b.signed.sig
  two_names folder beside a b is_a is_b ne = elim (either folder a is_a) [
    | inl it ↦ elim (either beside b is_b) [
      | inl at ↦ absurd (ne (it.0 ∙ sym at.0))
      | inr was ↦ λ same. apart beside b was (ap (λ (x : OpenTask). name_of x.signed.sig) it.1 ∙ same)
    ]
    | inr was ↦ elim (either beside b is_b) [
      | inl at ↦ λ same. apart folder a was (ap (λ (x : OpenTask). name_of x.signed.sig) at.1 ∙ sym same)
      | inr there ↦ flights.apart folder beside a b was there ne
    ]
  ]

  still : (ts : List ℕ) → AllByRecursion (Flies plan opened) ts → AllByRecursion (Flies plan later) ts
  still [] all = tt
  still (t ∷ ts) all = ((all.0.0, (all.0.1.0, opens.others (task_folder all.0.0.signed.task) (λ same. let n : None ≡ Some all.0.0 = sym opens.none ∙ sym (ap opened same) ∙ all.0.1.1 in cc) ∙ all.0.1.1)), still ts all.1)

pub opening_keeps_flights : OpeningKeepsFlights
opening_keeps_flights o plan tale opened later flights one opens hand apart = (
  record { each = each o plan tale opened later flights one opens hand apart; apart = two_names o plan tale opened later flights one opens hand apart },
  λ image v. record { in_flight = v.in_flight; fly = still o plan tale opened later flights one opens hand apart v.in_flight v.fly; once = v.once; valid = v.valid },
)

-- what was open is
still_open : (opened later : OpenTasks) (folder : List ℕ) (one : OpenTask) → OpensAt folder one opened later → (beside : List ℕ) (other : OpenTask) → opened beside ≡ Some other → later beside ≡ Some other
still_open opened later folder one opens beside other is = opens.others beside (λ same. let n : None ≡ Some other = sym opens.none ∙ sym (ap opened same) ∙ is in cc) ∙ is

pub opening_keeps_others : OpeningKeepsOthers
opening_keeps_others o plan tale opened later folder one opens image were t task at not_yet on_ground =
    were t task at not_yet (λ flies. on_ground (flies.0, (flies.1.0, still_open opened later folder one opens (task_folder flies.0.signed.task) flies.0 flies.1.1)))

-- ---- as plain values

pub one_more_or_less : OneMoreOrLess
one_more_or_less folder one opened = (
  λ none. record {
    none = none;
    is_open = ap (λ (b : Bool). if b then Some one else opened folder) (text_itself folder);
    others = λ beside ne. ap (λ (b : Bool). if b then Some one else opened beside) (other beside ne);
  },
  record {
    closed = ap (λ (b : Bool). if b then None else opened folder) (text_itself folder);
    others = λ beside ne. ap (λ (b : Bool). if b then None else opened beside) (other beside ne);
  },
)
  where
    other : (beside : List ℕ) → beside ≢ folder → bytes_eq beside folder ≡ false
    other beside ne = elim (either_way (bytes_eq beside folder)) [ inl same ↦ absurd (ne (same_text beside folder same)) | inr differ ↦ differ ]

-- ---- an event that records nothing

pub marks_keep_flights : MarksKeepFlights
marks_keep_flights o plan tale opened entry none other flights = (
  record { each = hand; apart = flights.apart },
  λ image v. record {
    in_flight = v.in_flight;
    fly = v.fly;
    once = v.once;
    valid = subst (λ (b : Book). IsValid o.gives o.reading image (b ++ lines_in_flight o.gives plan b v.in_flight)) (sym same_book) v.valid;
  },
)
  where
    same_book : book_after o.gives plan o.book (tale ++ entry ∷ []) ≡ book_after o.gives plan o.book tale
    same_book = book_grows o.gives plan o.book tale entry ∙ none (book_after o.gives plan o.book tale)

    hand : (folder : List ℕ) (one : OpenTask) → opened folder ≡ Some one → IsInHand o plan (tale ++ entry ∷ []) folder one
    hand folder one is =
        let h = flights.each folder one is in
        let apart = other h.number h.seat (one, (h.flight.at, sym (ap opened h.folder_is) ∙ is)) h.runs in
        record {
          number = h.number;
          seat = h.seat;
          runs = ap (λ (l : List Fate). fate_at l h.number) (told_push (length plan.tasks) tale entry) ∙ set_other (fates_told (length plan.tasks) tale) (task_of entry.event) h.number (fate_by entry.event) (λ same. apart (sym same)) ∙ h.runs;
          folder_is = h.folder_is;
          flight = subst (λ (b : Book). IsFlight o plan b h.number one) (sym same_book) h.flight;
        }
