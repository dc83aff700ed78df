-- A publication that is open stays the same while lines of other tasks come behind the book.
use Rattle.std.proofs.Common.{◌≡◌, ◌∙◌, sym, ap, subst, refl, ℕ, ◌⊎◌, inl, inr, true, false, List, [], ◌∷◌, ◌++◌, get_or, Some, None}
use Rattle.std.specs.Prelude.{Bool, Option, find, is_none, if◌then◌else◌}
use Rattle.std.specs.Option.{option_map, option_or}
use Rattle.std.specs.Str.{bytes_eq}
use Rattle.std.specs.List.{AllByRecursion, slice_get}
use Rattle.std.proofs.lemmas.List.{map-append}
use Rattle.std.proofs.lemmas.List.Folds.{find-append}
use Rattle.tree_model.specs.Manifest.{manifest_lines}
use Rattle.tree_model.specs.declared.hash.Hash.{Hash}
use Rattle.tree_model.specs.declared.manifest.ManifestLine.{ManifestLine}
use Rattle.meta_model.proofs.Bools.{either_way, same_text}
use Rattle.meta_model.specs.CleanBuild.{Entries}
use Rattle.meta_model.specs.declared.plan.Plan.{Plan}
use Rattle.store_model.specs.Origins.{Book, Line, row_of, rows_of}
use Rattle.store_model.specs.Readable.{IsReadable}
use Rattle.store_model.specs.Recording.{NeedsHaveRows, recorded}
use Rattle.store_model.specs.Reuse.{MayReuse}
use Rattle.store_model.specs.Rows.{hash_eq, hash_or, is_row_for, row_at, unihash_or}
use Rattle.store_model.specs.Signatures.{Signed, signatures}
use Rattle.store_model.specs.Spelling.{key_name, name_of}
use Rattle.store_model.specs.Valid.{key_file, stored_of}
use Rattle.store_model.specs.Publication.{record_file}
use Rattle.store_model.specs.declared.signature.EquivRow.{EquivRow}
use Rattle.store_model.specs.declared.signature.SigRecord.{SigRecord}
use Rattle.store_model.proofs.Listing.{hash_other}
use Rattle.store_model.proofs.Ordered.{each_weaker, map_each}
use Rattle.store_model.proofs.Staying.{signatures_stay}
use Rattle.build_store.specs.Publication.{line_for, publication, unihash_for}
use Rattle.run_model.specs.Books.{line_of_ended}
use Rattle.run_model.specs.Opening.{Opening}
use Rattle.run_queue.specs.Flights.{IsFlight, OpenTask}
use Rattle.run_queue.specs.Joined.{IsOther}
use Rattle.run_queue.proofs.Enduring.{row_on, same_signed, signed_at, signed_task}
use Rattle.run_queue.proofs.Growing.{ended_line}

-- ---- rows behind rows

none_found : {A : Type 0} (p : A → Bool) (xs : List A) → AllByRecursion (λ x. p x ≡ false) xs → find p xs ≡ None
none_found p [] all = refl
none_found p (x ∷ xs) all = let first = all.0 in rw first (none_found p xs all.1)

or_none : {A : Type 0} (x : Option A) → option_or x None ≡ x
or_none None = refl
or_none (Some a) = refl

find_beside : {A : Type 0} (p : A → Bool) (xs ys : List A) → AllByRecursion (λ x. p x ≡ false) ys → find p (xs ++ ys) ≡ find p xs
find_beside p xs ys all = find-append p xs ys ∙ ap (option_or (find p xs)) (none_found p ys all) ∙ or_none (find p xs)

-- ---- rows of other tasks

other_name : (sig : SigRecord) (line : Line) → IsOther sig line → hash_eq (name_of line.sig) (name_of sig) ≡ false
other_name sig line other = hash_other (name_of line.sig) (name_of sig) other.names

other_row : (sig : SigRecord) (lines : List ManifestLine) (line : Line) → IsOther sig line → is_row_for sig.pn sig.task lines (row_of line) ≡ false
other_row sig lines line other = by (either_way (bytes_eq line.sig.pn sig.pn)) (either_way (bytes_eq line.sig.task sig.task))
  where
    by : (bytes_eq line.sig.pn sig.pn ≡ true) ⊎ (bytes_eq line.sig.pn sig.pn ≡ false) → (bytes_eq line.sig.task sig.task ≡ true) ⊎ (bytes_eq line.sig.task sig.task ≡ false) → is_row_for sig.pn sig.task lines (row_of line) ≡ false
    by (inl a) (inl b) = absurd (other.tasks (same_text line.sig.pn sig.pn a) (same_text line.sig.task sig.task b))
    by (inr a) second = rw a refl
    by (inl a) (inr b) = rw a (rw b refl)

module _ (book more : Book) (s : Signed) (tree : Entries) (others : AllByRecursion (IsOther s.sig) more) where
  later_is : rows_of (book ++ more) ≡ rows_of book ++ rows_of more
  later_is = map-append row_of book more

  -- the row of its name
  pub row_same : row_at (rows_of (book ++ more)) (name_of s.sig) ≡ row_at (rows_of book) (name_of s.sig)
  row_same = ap (λ (r : List EquivRow). row_at r (name_of s.sig)) later_is
      ∙ find_beside (λ (r : EquivRow). hash_eq r.name (name_of s.sig)) (rows_of book) (rows_of more)
      (map_each row_of (λ (r : EquivRow). hash_eq r.name (name_of s.sig) ≡ false) more (each_weaker (IsOther s.sig) (λ (l : Line). hash_eq (name_of l.sig) (name_of s.sig) ≡ false) (other_name s.sig) more others))

  -- the first row of its output
  first_same : find (is_row_for s.sig.pn s.sig.task (manifest_lines tree)) (rows_of (book ++ more)) ≡ find (is_row_for s.sig.pn s.sig.task (manifest_lines tree)) (rows_of book)
  first_same = ap (λ (r : List EquivRow). find (is_row_for s.sig.pn s.sig.task (manifest_lines tree)) r) later_is
      ∙ find_beside (is_row_for s.sig.pn s.sig.task (manifest_lines tree)) (rows_of book) (rows_of more)
      (map_each row_of (λ (r : EquivRow). is_row_for s.sig.pn s.sig.task (manifest_lines tree) r ≡ false) more (each_weaker (IsOther s.sig) (λ (l : Line). is_row_for s.sig.pn s.sig.task (manifest_lines tree) (row_of l) ≡ false) (other_row s.sig (manifest_lines tree)) more others))

  new_same : (recorded (rows_of (book ++ more)) s tree).unihash ≡ (recorded (rows_of book) s tree).unihash
  new_same = ap (λ (x : Option EquivRow). hash_or (name_of s.sig) (option_map (λ (r : EquivRow). r.unihash) x)) first_same

  unihash_same : unihash_for (rows_of (book ++ more)) s tree ≡ unihash_for (rows_of book) s tree
  unihash_same = ap (λ (h : Hash). unihash_or h (row_at (rows_of (book ++ more)) (name_of s.sig))) new_same ∙ ap (unihash_or (recorded (rows_of book) s tree).unihash) row_same

  recorded_same : recorded (rows_of (book ++ more)) s tree ≡ recorded (rows_of book) s tree
  recorded_same = λ i. record { sig = s.sig; files = s.task.files; manifest = manifest_lines tree; unihash = new_same i }

  line_same : line_for (rows_of (book ++ more)) s tree ≡ line_for (rows_of book) s tree
  line_same = λ i. record { sig = s.sig; files = s.task.files; manifest = manifest_lines tree; unihash = unihash_same i }

  -- what is put
  pub publication_same : publication (rows_of (book ++ more)) s tree ≡ publication (rows_of book) s tree
  publication_same = λ i. record {
    folder = (publication (rows_of book) s tree).folder;
    name = name_of s.sig;
    file = record_file (stored_of (line_same i));
    is_new = is_none (row_same i);
    tree = tree;
    object = if s.task.sstate then Some (unihash_same i) else None;
    key = key_name s.sig.key;
    key_file = key_file s.sig.key;
    writes_key = false;
  }

-- ---- a publication of a task of the plan

module _ (o : Opening) (plan : Plan) (book more : Book) (may : MayReuse o.gives o.reading o.story.held book plan.tasks) (u : ℕ) (one : OpenTask) (f : IsFlight o plan book u one) (others : AllByRecursion (IsOther one.signed.sig) more) where
  -- its signature stays
  signed_same : slice_get (signatures (rows_of (book ++ more)) plan.tasks) u ≡ Some one.signed
  signed_same =
      let x = signed_at (rows_of book) (rows_of (book ++ more)) plan.tasks u one.signed f.signed in
      let sig = signatures_stay o.gives o.reading o.story.held book more plan.tasks may u one.signed x.0 f.signed x.1 f.needs in
      let task = signed_task (rows_of (book ++ more)) plan.tasks u x.0 one.signed.task x.1 f.at in
      let same : x.0 ≡ one.signed = λ i. record { task = task i; sig = sig i } in
      x.1 ∙ ap (λ (y : Signed). Some y) same

  needs_same : NeedsHaveRows (rows_of (book ++ more)) (signatures (rows_of (book ++ more)) plan.tasks) one.signed.task
  needs_same k d inside s is none =
      let n : ℕ = get_or one.signed.task.deps k d in
      let y = signed_at (rows_of (book ++ more)) (rows_of book) plan.tasks n s is in
      let has = f.needs k d inside y.0 y.1 in
      let same = same_signed o.gives o.reading o.story.held book more plan.tasks may n y.0 s y.1 is has in
      has (sym (row_on o.gives o.reading o.story.held book more plan.tasks may (name_of y.0.sig) has) ∙ ap (λ (z : Signed). row_at (rows_of (book ++ more)) (name_of z.sig)) same ∙ none)

  -- Over the longer book it is one still.
  pub flight_stays : IsFlight o plan (book ++ more) u one
  flight_stays = record {
    at = f.at;
    signed = signed_same;
    clean = f.clean;
    says = f.says;
    is_tree = f.is_tree;
    needs = needs_same;
    readable = subst IsReadable (sym (line_same book more one.signed one.tree others)) f.readable;
  }

  -- with the line that it had
  pub line_stays : line_of_ended o.gives plan (book ++ more) u ≡ line_of_ended o.gives plan book u
  line_stays = by (row_at (rows_of book) (name_of one.signed.sig)) refl
    where
      now : (row_at (rows_of (book ++ more)) (name_of one.signed.sig) ≡ None → line_of_ended o.gives plan (book ++ more) u ≡ recorded (rows_of (book ++ more)) one.signed one.tree ∷ [])
          × ((row : EquivRow) → row_at (rows_of (book ++ more)) (name_of one.signed.sig) ≡ Some row → line_of_ended o.gives plan (book ++ more) u ≡ [])
      now = ended_line o.gives plan (book ++ more) u one.signed f.clean.0 one.tree signed_same f.clean.1 f.clean.2

      was : (row_at (rows_of book) (name_of one.signed.sig) ≡ None → line_of_ended o.gives plan book u ≡ recorded (rows_of book) one.signed one.tree ∷ [])
          × ((row : EquivRow) → row_at (rows_of book) (name_of one.signed.sig) ≡ Some row → line_of_ended o.gives plan book u ≡ [])
      was = ended_line o.gives plan book u one.signed f.clean.0 one.tree f.signed f.clean.1 f.clean.2

      by : (r : Option EquivRow) → row_at (rows_of book) (name_of one.signed.sig) ≡ r → line_of_ended o.gives plan (book ++ more) u ≡ line_of_ended o.gives plan book u
      by None e = now.0 (row_same book more one.signed one.tree others ∙ e) ∙ ap (λ (l : Line). l ∷ []) (recorded_same book more one.signed one.tree others) ∙ sym (was.0 e)
      by (Some row) e = now.1 row (row_same book more one.signed one.tree others ∙ e) ∙ sym (was.1 row e)
