-- Where the key of a publication is written as that is opened, no line of the book or in flight has a key of its name.
use Rattle.std.proofs.Common.{◌≡◌, ◌≢◌, ◌∙◌, sym, ap, subst, ℕ, Bool, true, Some, List, [], ◌∷◌, ◌++◌}
use Rattle.std.specs.List.{AllByRecursion}
use Rattle.sha2.specs.Sha256.{sha256}
use Rattle.tree_model.specs.declared.hash.Hash.{Hash}
use Rattle.outside_traits.specs.Store.{Store}
use Rattle.meta_model.specs.declared.event.Logged.{Logged}
use Rattle.meta_model.specs.declared.plan.Plan.{Plan}
use Rattle.store_model.specs.declared.signature.EquivRow.{EquivRow}
use Rattle.store_model.specs.declared.signature.SigRecord.{SigRecord}
use Rattle.store_model.specs.Available.{task_folder}
use Rattle.store_model.specs.Origins.{Book, Line, rows_of}
use Rattle.store_model.specs.Spelling.{key_bytes, key_name, short_bytes, short_of, signature_bytes}
use Rattle.store_model.specs.Valid.{StandsIn}
use Rattle.store_model.proofs.Ordered.{each_append}
use Rattle.store_model.proofs.Reading.{key_of_whole}
use Rattle.build_store.specs.Keys.{HasNewKey, text_key}
use Rattle.build_store.specs.View.{OpenViews, opened_at}
use Rattle.run_model.specs.Books.{book_after, line_of_ended}
use Rattle.run_model.specs.InFlight.{lines_in_flight}
use Rattle.run_model.specs.Opening.{Opening}
use Rattle.run_queue.specs.Flights.{Flies, FliesAs, IsUnderWay, IsValidWith, MayTurn, OpenTask, OpenTasks, view_of}
use Rattle.run_queue.proofs.Flights.{flight_of, line_named}

-- the name of the key in the whole text of a signature
key_in_text : (sig : SigRecord) → text_key (signature_bytes sig) ≡ key_name sig.key
unfolding signature_bytes key_name
key_in_text sig = ap (λ (b : List ℕ). record { bytes = sha256 b }) (key_of_whole (short_bytes (short_of sig)) (key_bytes sig.key))

abbrev HasOther : Hash → Line → Type 0
HasOther name line = key_name line.sig.key ≢ name

others_of_rows : (name : Hash) (book : Book) → AllByRecursion (λ (row : EquivRow). text_key row.sig ≢ name) (rows_of book) → AllByRecursion (HasOther name) book
others_of_rows name [] each = tt
others_of_rows name (line ∷ book) each = (
  (λ same. each.0 (key_in_text line.sig ∙ same)),
  others_of_rows name book each.1,
)

others_of_sig : (name : Hash) (sig : SigRecord) → key_name sig.key ≢ name → (book : Book) → AllByRecursion (λ (line : Line). line.sig ≡ sig) book → AllByRecursion (HasOther name) book
others_of_sig name sig ne [] all = tt
others_of_sig name sig ne (line ∷ book) all = ((λ same. ne (sym (ap (λ (g : SigRecord). key_name g.key) all.0) ∙ same)), others_of_sig name sig ne book all.1)

each_standing : (P : Line → Type 0) (book : Book) → AllByRecursion P book → (before : Book) (line : Line) → StandsIn book before line → P line
each_standing P book all before line stands = at before (subst (AllByRecursion P) stands.is all)
  where
    at : (front : Book) → AllByRecursion P (front ++ line ∷ stands.rest) → P line
    at [] h = h.0
    at (x ∷ front) h = at front h.1

module _ (o : Opening) (plan : Plan) (tale : List Logged) (opened : OpenTasks) (views : OpenViews) (w : IsUnderWay o plan tale opened) (are : (folder : List ℕ) (one : OpenTask) → opened folder ≡ Some one → opened_at views folder ≡ Some (view_of one)) (sig : SigRecord) (fresh : HasNewKey (rows_of (book_after o.gives plan o.book tale)) views sig) where
  abbrev Now : Book
  Now = book_after o.gives plan o.book tale

  other_key : (t : ℕ) (one : OpenTask) → FliesAs plan opened t one → key_name one.signed.sig.key ≢ key_name sig.key
  other_key t one fl same =
      fresh.opens (task_folder one.signed.task) (view_of one) (are (task_folder one.signed.task) one fl.1) (key_in_text one.signed.sig ∙ same)

  in_flight : (ts : List ℕ) → AllByRecursion (Flies plan opened) ts → AllByRecursion (HasOther (key_name sig.key)) (lines_in_flight o.gives plan (book_after o.gives plan o.book tale) ts)
  in_flight [] fly = tt
  in_flight (t ∷ ts) fly =
      each_append (HasOther (key_name sig.key)) (line_of_ended o.gives plan Now t) (lines_in_flight o.gives plan Now ts)
      (others_of_sig (key_name sig.key) fly.0.0.signed.sig (other_key t fly.0.0 fly.0.1) (line_of_ended o.gives plan Now t)
      (line_named o plan Now w.reuse t fly.0.0 (flight_of o plan tale opened w t fly.0.0 fly.0.1)))
      (in_flight ts fly.1)

  -- no line of the book or in flight has it
  pub none_has_it : (ts : List ℕ) → AllByRecursion (Flies plan opened) ts → (before : Book) (line : Line) → StandsIn (Now ++ lines_in_flight o.gives plan Now ts) before line → key_name line.sig.key ≢ key_name sig.key
  none_has_it ts fly =
      each_standing (HasOther (key_name sig.key)) (Now ++ lines_in_flight o.gives plan Now ts)
      (each_append (HasOther (key_name sig.key)) Now (lines_in_flight o.gives plan Now ts) (others_of_rows (key_name sig.key) Now fresh.rows) (in_flight ts fly))

-- So the turn in which one more is opened may write its key, over what was valid before.
pub opening_may_turn : (o : Opening) (plan : Plan) (tale : List Logged) (opened later : OpenTasks) (views : OpenViews) (w : IsUnderWay o plan tale opened) (are : (folder : List ℕ) (one : OpenTask) → opened folder ≡ Some one → opened_at views folder ≡ Some (view_of one)) (one : OpenTask) (writes : Bool)
    → (writes ≡ true → HasNewKey (rows_of (book_after o.gives plan o.book tale)) views one.signed.sig) → ((t : ℕ) → Flies plan opened t → Flies plan later t)
    → (image : Store) → IsValidWith o plan tale opened image → MayTurn o plan tale later one writes image
opening_may_turn o plan tale opened later views w are one writes fresh still image v = record {
  with_lines = record { in_flight = v.in_flight; fly = all v.in_flight v.fly; once = v.once; valid = v.valid };
  new_key = λ written. none_has_it o plan tale opened views w are one.signed.sig (fresh written) v.in_flight v.fly;
}
  where
    all : (ts : List ℕ) → AllByRecursion (Flies plan opened) ts → AllByRecursion (Flies plan later) ts
    all [] fly = tt
    all (t ∷ ts) fly = (still t fly.0, all ts fly.1)
