-- What a turn of an open publication leaves of a run in which others are open too.
use Rattle.std.proofs.Common.{◌≡◌, ◌≢◌, ◌∙◌, sym, ap, subst, refl, ℕ, ◌⊎◌, inl, inr, Bool, List, [], ◌∷◌, ◌++◌, map, Some, None, append_assoc, append-nil}
use Rattle.std.specs.Prelude.{codes, Option}
use Rattle.std.specs.List.{AllByRecursion}
use Rattle.std.proofs.lemmas.Bool.{cases_eq}
use Rattle.tree_model.specs.declared.entry.Entry.{Entry}
use Rattle.tree_model.specs.Hash.{hash_text}
use Rattle.tree_model.specs.Path.{inside}
use Rattle.tree_model.specs.Tree.{entry_at}
use Rattle.outside_traits.specs.Store.{Store}
use Rattle.meta_model.specs.declared.event.Logged.{Logged}
use Rattle.meta_model.specs.declared.plan.Plan.{Plan}
use Rattle.store_model.specs.Lines.{HasLine}
use Rattle.store_model.specs.Origins.{Book, Line, rows_of}
use Rattle.store_model.specs.Paths.{record_path}
use Rattle.store_model.specs.Spelling.{name_of}
use Rattle.store_model.specs.Valid.{IsValid, IsValidLine, record_entry}
use Rattle.store_model.specs.Publication.{Publication}
use Rattle.store_model.proofs.Digests.{same_name_text}
use Rattle.store_model.proofs.Ordered.{each_append}
use Rattle.store_model.proofs.Standing.{stands_further}
use Rattle.store_opening.proofs.SameLines.{entry_found, entry_there}
use Rattle.build_store.specs.Laws.{IsOfLine}
use Rattle.build_store.specs.Publication.{Publishes, publication}
use Rattle.build_store.proofs.Validity.{published_is_valid}
use Rattle.run_model.specs.Books.{book_after, line_of_ended}
use Rattle.run_model.specs.InFlight.{lines_in_flight}
use Rattle.run_model.specs.Opening.{Opening}
use Rattle.run_queue.specs.Flights.{AreOnce, Flies, FliesAs, IsUnderWay, IsValidWith, MayTurn, OpenTask, OpenTasks, put_of_turn}
use Rattle.run_queue.proofs.Flights.{flight_of, line_is, put_of, two_besides}
use Rattle.run_queue.proofs.Joining.{line_stays_valid}
use Rattle.run_queue.proofs.Recorded.{IsPut, not_twice}

-- ---- lines of one more

pub has_right : (xs ys : Book) (line : Line) → HasLine ys line → HasLine (xs ++ ys) line
has_right xs ys line has = (xs ++ has.0, record { rest = has.1.rest; is = ap (λ (b : Book). xs ++ b) has.1.is ∙ sym (append_assoc xs has.0 (line ∷ has.1.rest)) })

pub has_left : (xs ys : Book) (line : Line) → HasLine xs line → HasLine (xs ++ ys) line
has_left xs ys line has = (has.0, stands_further (xs ++ ys) xs ys has.0 line refl has.1)

pub each_pushed : {A : Type 0} (P : A → Type 0) (xs : List A) (x : A) → AllByRecursion P xs → P x → AllByRecursion P (xs ++ x ∷ [])
each_pushed P xs x all p = each_append P xs (x ∷ []) all (p, tt)

once_pushed : (ts : List ℕ) (t : ℕ) → AreOnce ts → AllByRecursion (λ u. t ≢ u) ts → AreOnce (ts ++ t ∷ [])
once_pushed [] t once ne = (tt, tt)
once_pushed (u ∷ ts) t once ne = (each_pushed (λ v. u ≢ v) ts t once.0 (λ same. ne.0 (sym same)), once_pushed ts t once.1 ne.1)

lines_pushed : (o : Opening) (plan : Plan) (book : Book) (ts : List ℕ) (t : ℕ) → lines_in_flight o.gives plan book (ts ++ t ∷ []) ≡ lines_in_flight o.gives plan book ts ++ line_of_ended o.gives plan book t
lines_pushed o plan book [] t = append-nil (line_of_ended o.gives plan book t)
lines_pushed o plan book (u ∷ ts) t =
    ap (λ (b : Book). line_of_ended o.gives plan book u ++ b) (lines_pushed o plan book ts t)
    ∙ sym (append_assoc (line_of_ended o.gives plan book u) (lines_in_flight o.gives plan book ts) (line_of_ended o.gives plan book t))

-- the line of a task stands among those in flight, or the task is another than each of them
pub either_place : (o : Opening) (plan : Plan) (book : Book) (t : ℕ) (line : Line) → line_of_ended o.gives plan book t ≡ line ∷ [] → (ts : List ℕ) → HasLine (lines_in_flight o.gives plan book ts) line ⊎ AllByRecursion (λ u. t ≢ u) ts
either_place o plan book t line is [] = inr tt
either_place o plan book t line is (u ∷ ts) = by (cases_eq t u) (either_place o plan book t line is ts)
  where
    by : (t ≡ u) ⊎ (t ≢ u) → HasLine (lines_in_flight o.gives plan book ts) line ⊎ AllByRecursion (λ v. t ≢ v) ts → HasLine (line_of_ended o.gives plan book u ++ lines_in_flight o.gives plan book ts) line ⊎ ((t ≢ u) × AllByRecursion (λ v. t ≢ v) ts)
    by (inl same) rest = inl (has_left (line_of_ended o.gives plan book u) (lines_in_flight o.gives plan book ts) line ([], record { rest = []; is = ap (line_of_ended o.gives plan book) (sym same) ∙ is }))
    by (inr ne) (inl has) = inl (has_right (line_of_ended o.gives plan book u) (lines_in_flight o.gives plan book ts) line has)
    by (inr ne) (inr all) = inr (ne, all)

-- ---- a turn

module _ (o : Opening) (plan : Plan) (tale : List Logged) (opened : OpenTasks) (w : IsUnderWay o plan tale opened) (t : ℕ) (one : OpenTask) (fl : FliesAs plan opened t one) (writes : Bool) where
  abbrev Now : Book
  Now = book_after o.gives plan o.book tale

  abbrev Lines : List ℕ → Book
  Lines ts = lines_in_flight o.gives plan (book_after o.gives plan o.book tale) ts

  abbrev p : Publication
  p = put_of_turn (rows_of (book_after o.gives plan o.book tale)) one writes

  abbrev pub put : IsPut o.gives o.reading (book_after o.gives plan o.book tale) (publication (rows_of (book_after o.gives plan o.book tale)) one.signed one.tree) one.signed one.tree
  put = put_of o plan Now w.reuse t one (flight_of o plan tale opened w t one fl)

  more_is : line_of_ended o.gives plan Now t ≡ put.more
  more_is = line_is o plan Now w.reuse t one (flight_of o plan tale opened w t one fl)

  -- the line stands behind the book of what ended and these lines in flight, or may come behind them
  place : (ts : List ℕ) → AllByRecursion (Flies plan opened) ts → HasLine (Now ++ Lines ts) put.line ⊎ (IsValidLine o.gives o.reading (Now ++ Lines ts) put.line × (line_of_ended o.gives plan Now t ≡ put.line ∷ []) × AllByRecursion (λ u. t ≢ u) ts)
  place ts fly = elim put.stands [
    | inl known ↦ inl (has_left Now (Lines ts) put.line known.0)
    | inr new ↦ elim (either_place o plan Now t put.line (more_is ∙ new.1) ts) [
      | inl has ↦ inl (has_right Now (Lines ts) put.line has)
      | inr ne ↦ inr (
        line_stays_valid o.gives o.reading Now (Lines ts) put.line w.reuse.valid new.0 (two_besides o plan tale opened w t one fl put.line put.sig ts fly ne),
        more_is ∙ new.1,
        ne,
      )
    ]
  ]

  -- the line is that of the publication, whether its key is written or not
  of_line : IsOfLine (put_of_turn (rows_of (book_after o.gives plan o.book tale)) one writes) put.line
  of_line = record { name = put.of.name; file = put.of.file; key = put.of.key; key_file = put.of.key_file }

  -- What is valid with some lines in flight stays so through a turn of a publication that is open.
  pub turn_valid : (old new : Store) → MayTurn o plan tale opened one writes old → Publishes (put_of_turn (rows_of (book_after o.gives plan o.book tale)) one writes) old new → IsValidWith o plan tale opened new
  turn_valid old new may publishes = elim (place was.in_flight was.fly) [
    | inl has ↦ elim (published_is_valid p put.line old new of_line publishes o.gives o.reading (Now ++ Lines was.in_flight) was.valid may.new_key (inl has)) [
      | inl v ↦ record { in_flight = was.in_flight; fly = was.fly; once = was.once; valid = v }
      | inr v ↦ absurd (not_twice o.gives o.reading (Now ++ Lines was.in_flight) put.line has v.lines)
    ]
    | inr comes ↦ elim (published_is_valid p put.line old new of_line publishes o.gives o.reading (Now ++ Lines was.in_flight) was.valid may.new_key (inr comes.0)) [
      | inl v ↦ record { in_flight = was.in_flight; fly = was.fly; once = was.once; valid = v }
      | inr v ↦ record {
        in_flight = was.in_flight ++ t ∷ [];
        fly = each_pushed (Flies plan opened) was.in_flight t was.fly (one, fl);
        once = once_pushed was.in_flight t was.once comes.2;
        valid = subst (IsValid o.gives o.reading new) (longer was.in_flight comes.1) v;
      }
    ]
  ]
    where
      was : IsValidWith o plan tale opened old
      was = may.with_lines

      longer : (ts : List ℕ) → line_of_ended o.gives plan Now t ≡ put.line ∷ [] → (Now ++ Lines ts) ++ put.line ∷ [] ≡ Now ++ Lines (ts ++ t ∷ [])
      longer ts is =
          append_assoc Now (Lines ts) (put.line ∷ [])
          ∙ ap (λ (b : Book). Now ++ b) (ap (λ (b : Book). Lines ts ++ b) (sym is) ∙ sym (lines_pushed o plan Now ts t))

  -- ---- its record

  file_is : p.file ≡ (record_entry put.line).1
  file_is = put.of.file

  place_of : record_path (name_of one.signed.sig) ≡ inside (codes "rec2") (hash_text (name_of put.line.sig))
  place_of = ap record_path (put.of.name)

  -- where its line stands its record is held
  held_record : (image : Store) (book : Book) → IsValid o.gives o.reading image book → HasLine book put.line → image (record_path (name_of one.signed.sig)) ≡ Some p.file
  held_record image book v has =
      ap image place_of ∙ v.records (hash_text (name_of put.line.sig)) ∙ entry_there o.gives o.reading book has.0 put.line v.lines has.1 ∙ ap (λ (e : Entry). Some e) (sym file_is)

  -- where it may come none is held under its name
  pub no_record_yet : (image : Store) (ts : List ℕ) → IsValid o.gives o.reading image (Now ++ Lines ts) → IsValidLine o.gives o.reading (Now ++ Lines ts) put.line → image (record_path (name_of one.signed.sig)) ≡ None
  no_record_yet image ts v line = ap image place_of ∙ v.records (hash_text (name_of put.line.sig)) ∙ none (entry_at (map record_entry (Now ++ Lines ts)) (hash_text (name_of put.line.sig))) refl
    where
      none : (e : Option Entry) → entry_at (map record_entry (Now ++ Lines ts)) (hash_text (name_of put.line.sig)) ≡ e → entry_at (map record_entry (Now ++ Lines ts)) (hash_text (name_of put.line.sig)) ≡ None
      none None is = is
      none (Some e) is = let f = entry_found (Now ++ Lines ts) (hash_text (name_of put.line.sig)) e is in absurd (line.new f.0 f.1 f.2 (same_name_text f.1.sig put.line.sig f.3))

  -- In an image under the publication's name nothing is held, or its record.
  pub own_record : (image : Store) → IsValidWith o plan tale opened image → (image (record_path (name_of one.signed.sig)) ≡ None) ⊎ (image (record_path (name_of one.signed.sig)) ≡ Some (publication (rows_of (book_after o.gives plan o.book tale)) one.signed one.tree).file)
  own_record image v = elim (place v.in_flight v.fly) [
    | inl has ↦ inr (held_record image (Now ++ Lines v.in_flight) v.valid has)
    | inr comes ↦ inl (no_record_yet image v.in_flight v.valid comes.0)
  ]
