-- The signatures of a sound plan's tasks can be held by a program.
use Rattle.std.proofs.Common.{◌≡◌, refl, subst, ℕ, zero, suc, ◌+◌, ◌*◌, ◌<◌, ◌≤◌, ◌^◌, arith, lit<, mod-lt, add-one, Bool, true, false, ◌&&◌, nat_le, not, codes, List, [], ◌∷◌, ◌++◌, length, map, All, Option, Some, None, slice_get}
use Rattle.std.specs.Prelude.{slice_index, filter}
use Rattle.std.specs.List.{AllByRecursion, cons_option, filter_map, join_with_byte}
use Rattle.std.specs.List.Sorted.{IsStrictlyIncreasing}
use Rattle.std.specs.Int.{to_be_bytes, w32}
use Rattle.std.proofs.lemmas.List.{length-append, length-map}
use Rattle.std.proofs.lemmas.List.Elements.{recursion_from_All}
use Rattle.std.proofs.lemmas.List.Sums.{count_by-le-length, length-filter}
use Rattle.std.proofs.lemmas.Bool.{leb-true}
use Rattle.std.proofs.lemmas.Option.{slice_get_within}
use Rattle.sha2.specs.Sha256.{sha256, digest_bytes}
use Rattle.sha2.proofs.Facts256.{length-sha256}
use Rattle.tree_model.specs.declared.entry.Entry.{Entry}
use Rattle.tree_model.specs.declared.hash.Hash.{Hash}
use Rattle.tree_model.specs.Hash.{IsHash}
use Rattle.tree_model.specs.Manifest.{content_of}
use Rattle.meta_model.proofs.Bools.{and_left, and_right}
use Rattle.meta_model.specs.declared.plan.PlanTask.{PlanTask}
use Rattle.meta_model.specs.declared.value.KeyLine.{KeyLine}
use Rattle.meta_model.specs.InOrder.{in_order, put_in_order}
use Rattle.meta_model.specs.Text.{begins_with, is_in, is_made_of, is_shell_name, texts_eq}
use Rattle.load_model.specs.Recipes.{is_pn}
use Rattle.store_model.specs.declared.signature.EquivRow.{EquivRow}
use Rattle.store_model.specs.declared.signature.SigRecord.{SigRecord}
use Rattle.store_model.specs.OneSpelling.{AllFit, DepFits, FileFits, Fits, LineFits, SignatureFits}
use Rattle.store_model.specs.Rows.{hash_eq, uni}
use Rattle.store_model.specs.Signatures.{Signed, dep_line, file_hash, is_dep_before, is_laid_before, is_line_before, is_signed_of, order_line, own_laid, own_tasks, signature, signatures, signed_from, signed_needs, with_order}
use Rattle.store_model.specs.Spelling.{name_of, short_bytes, short_of}
use Rattle.store_model.proofs.Laying.{each_kept}
use Rattle.store_model.proofs.Ordered.{each_append, each_ordered, map_each, put_each}
use Rattle.plan_model.specs.Names.{is_task_name}
use Rattle.plan_model.specs.Sound.{IsSoundTask}
use Rattle.plan_model.specs.Spellings.{SoundHasSpellings, TaskFits}

-- ---- names are digests

word_bytes : (n : ℕ) → AllByRecursion (λ b. b < 256) (to_be_bytes w32 n)
word_bytes n = (mod-lt _ (lit< tt), (mod-lt _ (lit< tt), (mod-lt _ (lit< tt), (mod-lt _ (lit< tt), tt))))

each_byte : (h : List ℕ) (n : ℕ) → AllByRecursion (λ b. b < 256) (digest_bytes h n)
unfolding digest_bytes
each_byte h zero = tt
each_byte h (suc n) = each_append (λ b. b < 256) (digest_bytes h n) (to_be_bytes w32 (slice_index h n)) (each_byte h n) (word_bytes (slice_index h n))

bytes_are : (xs : List ℕ) → AllByRecursion (λ b. b < 256) xs → (i : ℕ) → slice_index xs i < 256
bytes_are [] all i = lit< tt
bytes_are (x ∷ xs) all zero = all.0
bytes_are (x ∷ xs) all (suc i) = bytes_are xs all.1 i

digest_is_bytes : (m : List ℕ) (i : ℕ) → slice_index (sha256 m) i < 256
unfolding sha256
digest_is_bytes m = bytes_are (sha256 m) (each_byte _ 8)

digest_is_hash : (m : List ℕ) → IsHash (record { bytes = sha256 m })
digest_is_hash m = record { size = length-sha256 m; bytes = digest_is_bytes m }

name_is_hash : (sig : SigRecord) → IsHash (name_of sig)
unfolding name_of
name_is_hash sig = digest_is_hash (short_bytes (short_of sig))

-- what stands for a digest among rows of digests is one
row_is_hash : (name : Hash) (rows : List EquivRow) → IsHash name → AllByRecursion (λ r. IsHash r.unihash) rows → IsHash (uni rows name)
row_is_hash name [] is all = is
row_is_hash name (row ∷ rows) is all = by (hash_eq row.name name) refl (row_is_hash name rows is all.1)
  where
    by : (b : Bool) → hash_eq row.name name ≡ b → IsHash (uni rows name) → IsHash (uni (row ∷ rows) name)
    by true e more = rw e all.0
    by false e more = rw e more

-- ---- how long lists are

put_length : {X : Type 0} (before : X → X → Bool) (x : X) (ys : List X) → length (put_in_order before x ys) ≡ length ys + 1
put_length before x [] = refl
put_length before x (y ∷ ys) = by (before y x) refl (put_length before x ys)
  where
    by : (b : Bool) → before y x ≡ b → length (put_in_order before x ys) ≡ length ys + 1 → length (put_in_order before x (y ∷ ys)) ≡ length (y ∷ ys) + 1
    by true e more = rw e (omega (arith, more))
    by false e more = rw e (omega arith)

ordered_length : {X : Type 0} (before : X → X → Bool) (xs : List X) → length (in_order before xs) ≡ length xs
ordered_length before [] = refl
ordered_length before (x ∷ xs) = omega (arith, put_length before x (in_order before xs), ordered_length before xs)

module _ {X : Type 0} (P : X → Type 0) where
  at_place : (xs : List X) → AllByRecursion P xs → (n : ℕ) (x : X) → slice_get xs n ≡ Some x → P x
  at_place [] all n x e = absurd (cc)
  at_place (y ∷ ys) all zero x e = let same : y ≡ x = cc in subst P same all.0
  at_place (y ∷ ys) all (suc n) x e = at_place ys all.1 n x e

  -- the items at some places are no more than these
  at_places : (xs : List X) → AllByRecursion P xs → (places : List ℕ) → AllByRecursion P (filter_map (slice_get xs) places) × (length (filter_map (slice_get xs) places) ≤ length places)
  at_places xs all [] = (tt, omega arith)
  at_places xs all (n ∷ places) = by (slice_get xs n) refl (at_places xs all places)
    where
      by : (o : Option X) → slice_get xs n ≡ o → AllByRecursion P (filter_map (slice_get xs) places) × (length (filter_map (slice_get xs) places) ≤ length places)
          → AllByRecursion P (cons_option (slice_get xs n) (filter_map (slice_get xs) places)) × (length (cons_option (slice_get xs n) (filter_map (slice_get xs) places)) ≤ length (n ∷ places))
      by None e more = rw e (more.0, omega (arith, more.1))
      by (Some x) e more = rw e ((at_place xs all n x e, more.0), omega (arith, more.1))

-- an increasing list of numbers below one has no more than it says
rises : (xs : List ℕ) → IsStrictlyIncreasing xs → (k : ℕ) → k < length xs → k ≤ slice_index xs k
rises xs up zero lt = omega arith
rises xs up (suc k) lt =
    let step = subst (λ m. m < length xs → slice_index xs k < slice_index xs m) (add-one k) (up k) in
    omega (arith, rises xs up k (omega (arith, lt)), step lt)

few_below : (n : ℕ) (xs : List ℕ) → IsStrictlyIncreasing xs → All (λ d. d < n) xs → length xs ≤ n
few_below n [] up below = omega arith
few_below n (x ∷ xs) up below = omega (arith, rises (x ∷ xs) up (length xs) (omega arith), below (length xs) 0 (omega arith))

-- ---- the order line

abbrev IsShort : List ℕ → Type 0
IsShort text = length text ≤ 255

joined_length : (names : List (List ℕ)) → AllByRecursion IsShort names → length (join_with_byte 32 names) ≤ 256 * length names
joined_length [] all = omega arith
joined_length (x ∷ []) all = omega (arith, all.0)
joined_length (x ∷ y ∷ names) all = omega (arith, all.0, length-append x (32 ∷ join_with_byte 32 (y ∷ names)), joined_length (y ∷ names) all.1)

order_fits : (names : List (List ℕ)) → AllByRecursion IsShort names → length names ≤ 65536 → LineFits (order_line names)
order_fits names short few = record {
  name = omega arith;
  value = record { text = omega (arith, few, joined_length names short); removes = (omega arith, tt); flags = (omega arith, tt) };
}

with_order_fits : (laid listed : List (List ℕ)) (lines : List KeyLine) → AllByRecursion IsShort laid → length laid ≤ 65536 → length lines + 1 < 2 ^ 64 → AllByRecursion LineFits lines → AllFit LineFits (with_order laid listed lines)
with_order_fits laid listed lines short few room all = by (texts_eq laid listed) refl
  where
    by : (b : Bool) → texts_eq laid listed ≡ b → AllFit LineFits (with_order laid listed lines)
    by true e = rw e (omega (arith, room), all)
    by false e = rw e (omega (arith, room, put_length is_line_before (order_line laid) lines), put_each LineFits is_line_before (order_line laid) lines (order_fits laid short few) all)

-- ---- a task's signature

-- what is known of a needed task: its PN and its name are short
record HasShortNames (task : PlanTask) : Type 0 where
  pn : IsShort task.id.pn
  name : IsShort task.id.task

-- what is known of a task of a sound plan that can be held
record IsHeld (task : PlanTask) : Type 0 where
  names : HasShortNames task
  few : length task.deps ≤ 65536
  files : AllByRecursion (λ e. Fits e.0) task.files
  fits : TaskFits task

module _ (rows : List EquivRow) (hashes : AllByRecursion (λ r. IsHash r.unihash) rows) where
  dep_fits : (s : Signed) → HasShortNames s.task → DepFits (dep_line rows s)
  dep_fits s short = record { pn = omega (arith, short.pn); task = omega (arith, short.name); name = row_is_hash (name_of s.sig) rows (name_is_hash s.sig) hashes }

  deps_fit : (needed : List Signed) → AllByRecursion (λ s. HasShortNames s.task) needed → length needed ≤ 65536 → AllFit DepFits (in_order is_dep_before (map (dep_line rows) needed))
  deps_fit needed short few = (
    omega (arith, few, ordered_length is_dep_before (map (dep_line rows) needed), length-map needed (dep_line rows)),
    each_ordered DepFits is_dep_before (map (dep_line rows) needed) (map_each (dep_line rows) DepFits needed (each needed short)),
  )
    where
      each : (xs : List Signed) → AllByRecursion (λ s. HasShortNames s.task) xs → AllByRecursion (λ s. DepFits (dep_line rows s)) xs
      each [] all = tt
      each (s ∷ xs) all = (dep_fits s all.0, each xs all.1)

  -- the names of its own recipe's tasks, in the order in which they are laid
  laid_short : (pn : List ℕ) (needed : List Signed) → AllByRecursion (λ s. HasShortNames s.task) needed → AllByRecursion IsShort (own_laid pn needed)
  laid_short pn needed short =
      map_each (λ (s : Signed). s.task.id.task) IsShort (filter (is_signed_of pn) (in_order is_laid_before needed))
      (each_kept (is_signed_of pn) (λ s. IsShort s.task.id.task) (in_order is_laid_before needed) (each (in_order is_laid_before needed) (each_ordered (λ s. HasShortNames s.task) is_laid_before needed short)))
    where
      each : (xs : List Signed) → AllByRecursion (λ s. HasShortNames s.task) xs → AllByRecursion (λ s. is_signed_of pn s ≡ true → IsShort s.task.id.task) xs
      each [] all = tt
      each (s ∷ xs) all = (λ own. all.0.name, each xs all.1)

  laid_few : (pn : List ℕ) (needed : List Signed) → length needed ≤ 65536 → length (own_laid pn needed) ≤ 65536
  laid_few pn needed few =
      let laid = in_order is_laid_before needed in
      omega (arith, few, ordered_length is_laid_before needed, length-map (filter (is_signed_of pn) laid) (λ (s : Signed). s.task.id.task), length-filter (is_signed_of pn) laid, count_by-le-length (is_signed_of pn) laid)

  files_fit : (files : List (List ℕ × Entry)) → Fits files → AllByRecursion (λ e. Fits e.0) files → AllFit FileFits (map file_hash files)
  files_fit files few all = (omega (arith, few, length-map files file_hash), map_each file_hash FileFits files (each files all))
    where
      each : (xs : List (List ℕ × Entry)) → AllByRecursion (λ e. Fits e.0) xs → AllByRecursion (λ e. FileFits (file_hash e)) xs
      each [] h = tt
      each (e ∷ xs) h = ((h.0, digest_is_hash (content_of e.1)), each xs h.1)

  signature_fits : (before : List Signed) (task : PlanTask) → AllByRecursion (λ s. HasShortNames s.task) before → IsHeld task → SignatureFits (signature rows before task)
  signature_fits before task short held =
      let needed = signed_needs before task in
      let at = at_places (λ (s : Signed). HasShortNames s.task) before short task.deps in
      let few : length needed ≤ 65536 = omega (arith, held.few, at.1) in
      let deps = in_order is_dep_before (map (dep_line rows) needed) in
      record {
        pn = omega (arith, held.names.pn);
        task = omega (arith, held.names.name);
        lines = with_order_fits (own_laid task.id.pn needed) (own_tasks task.id.pn deps) task.key.lines (laid_short task.id.pn needed at.0) (laid_few task.id.pn needed few) held.fits.room held.fits.lines;
        files = files_fit task.files held.fits.files held.files;
        deps = deps_fit needed at.0 few;
        excluded = refl;
      }

  -- each signature along a plan fits, and what is signed is a task of the plan
  all_fit : (before : List Signed) (tasks : List PlanTask) → AllByRecursion (λ s. HasShortNames s.task × SignatureFits s.sig) before → AllByRecursion IsHeld tasks
      → AllByRecursion (λ s. HasShortNames s.task × SignatureFits s.sig) (signed_from rows before tasks)
  all_fit before [] all held = all
  all_fit before (task ∷ tasks) all held =
      all_fit (before ++ record { task = task; sig = signature rows before task } ∷ []) tasks
      (each_append (λ s. HasShortNames s.task × SignatureFits s.sig) before (record { task = task; sig = signature rows before task } ∷ []) all
      ((held.0.names, signature_fits before task (each before all) held.0), tt))
      held.1
    where
      each : (xs : List Signed) → AllByRecursion (λ s. HasShortNames s.task × SignatureFits s.sig) xs → AllByRecursion (λ s. HasShortNames s.task) xs
      each [] h = tt
      each (s ∷ xs) h = (h.0.0, each xs h.1)

-- ---- a sound plan

short_pn : (pn : List ℕ) → is_pn pn ≡ true → IsShort pn
short_pn pn e =
    let dots = not (is_in pn (codes "." ∷ codes ".." ∷ [])) in
    leb-true (length pn) 255 (and_left (nat_le (length pn) 255) dots (and_right (is_made_of (codes "+-.") pn) (nat_le (length pn) 255 && dots) e))

short_name : (name : List ℕ) → is_task_name name ≡ true → IsShort name
short_name name e =
    leb-true (length name) 255 (and_right (is_shell_name name) (nat_le (length name) 255) (and_right (begins_with (codes "do_") name) (is_shell_name name && nat_le (length name) 255) e))

task_held : (n : ℕ) (task : PlanTask) → n ≤ 65536 → IsSoundTask n task → TaskFits task → IsHeld task
task_held n task few sound fits = record {
  names = record { pn = short_pn task.id.pn sound.pn; name = short_name task.id.task sound.name };
  few = omega (arith, few, few_below n task.deps sound.deps sound.below);
  files = recursion_from_All (λ e. Fits e.0) task.files (λ k d lt. omega (arith, (sound.tree.clean k d lt).short));
  fits = fits;
}

-- what holds of each task at its place
each_task : (P : PlanTask → Type 0) (tasks : List PlanTask) → ((n : ℕ) (task : PlanTask) → slice_get tasks n ≡ Some task → P task) → AllByRecursion P tasks
each_task P [] h = tt
each_task P (task ∷ tasks) h = (h zero task refl, each_task P tasks (λ n t e. h (suc n) t e))

pub sound_has_spellings : SoundHasSpellings
sound_has_spellings plan sound fit rows hashes t s e =
    let held = each_task IsHeld plan.tasks (λ n task at. task_held n task (omega (arith, sound.few, slice_get_within plan.tasks n task at)) (sound.tasks n task at) (fit n task at)) in
    let all = all_fit rows hashes [] plan.tasks tt held in
    (at_place (λ s. HasShortNames s.task × SignatureFits s.sig) (signatures rows plan.tasks) all t s e).1
