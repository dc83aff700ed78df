-- An old stamp is put aside, and taken out once no crash leaves it in its place.
use Rattle.std.proofs.Common.{◌≡◌, ◌≢◌, ◌∙◌, sym, ap, subst, refl, ℕ, ◌⊎◌, inl, inr, List, ◌∷◌, Some, None, Result, Ok, Err, OnOk}
use Rattle.std.specs.Prelude.{codes, IsSome}
use Rattle.tree_model.specs.declared.entry.Entry.{Entry}
use Rattle.tree_model.specs.declared.hash.Hash.{Hash}
use Rattle.tree_model.specs.Path.{IsBelow, inside}
use Rattle.tree_model.specs.Tree.{IsTree}
use Rattle.outside_traits.specs.declared.fault.DiskFault.{DiskFault}
use Rattle.outside_traits.specs.Answers.{Ends, Removes}
use Rattle.outside_traits.specs.Passes.{EachNow, Passes, Same}
use Rattle.outside_traits.specs.Store.{IsOpen, Store}
use Rattle.outside_traits.specs.Story.{IsSound, Story}
use Rattle.outside_traits.proofs.Calls.{removes_passes, same_then}
use Rattle.outside_traits.proofs.Puts.{path_cases}
use Rattle.outside_traits.proofs.Runs.{each_now, passes_so}
use Rattle.stamp_store.specs.Stamp.{TakesAway, old_path, stamp_path}
use Rattle.stamp_store.proofs.Aside.{places_differ}
use Rattle.store_model.specs.Available.{object_folder}
use Rattle.store_model.specs.Publication.{stamp_at, work_at, Publication}
use Rattle.store_opening.proofs.Areas.{differ, heads_differ}
use Rattle.build_store.specs.declared.pieces.OpenPublication.{OpenPublication}
use Rattle.build_store.specs.declared.pieces.Reached.{Reached}
use Rattle.build_store.specs.declared.pieces.Reached.TheVariants as reached
use Rattle.build_store.specs.Calls.{IsRound, Opens}
use Rattle.build_store.specs.Ending.{IsTicket}
use Rattle.build_store.specs.Halves.{IsAside, IsHalf}
use Rattle.build_store.specs.Items.{IsWithin, Item}
use Rattle.build_store.specs.Noting.{AreFound, AreNoted}
use Rattle.build_store.specs.OpenOnes.{AddsOwn, IsAsideAt, KeepsEntries, MakesRoom, StagesAt, Sweeps, put_by}
use Rattle.build_store.specs.Pieces.{IsPublishing}
use Rattle.build_store.proofs.Around.{far_by_first, out_by_first, within_object, within_work}
use Rattle.build_store.proofs.NotingRuns.{noted_half}
use Rattle.build_store.proofs.OpeningRuns.{aside_opens, room_gone, room_opens}
use Rattle.build_store.proofs.Piecing.{opens_is_publishing}

-- ---- what was noted stays noted, where nothing within the folders changes

found_same : (folder : List ℕ) (found : List (List ℕ)) (i j : Store) → ((path : List ℕ) → j (inside folder path) ≡ i (inside folder path)) → AreFound folder found i → AreFound folder found j
found_same folder found i j same was = record {
  listed = λ path some. was.listed path (subst IsSome (same path) some);
  are_held = λ path listed. subst IsSome (sym (same path)) (was.are_held path listed);
}

pub noted_same : (p : Publication) (items : List Item) (i j : Store) → ((path : List ℕ) → j (inside (work_at p.folder) path) ≡ i (inside (work_at p.folder) path)) → ((unihash : Hash) → p.object ≡ Some unihash → (path : List ℕ) → j (inside (object_folder unihash) path) ≡ i (inside (object_folder unihash) path))
    → AreNoted p items i → AreNoted p items j
noted_same p items i j work objects was = record {
  found = was.found;
  shared = was.shared;
  work = found_same (work_at p.folder) was.found i j work was.work;
  objects = λ unihash is. found_same (object_folder unihash) was.shared i j (objects unihash is) (was.objects unihash is);
  are = was.are;
}

-- opening changes nothing within the folders
pub opens_within : (p : Publication) (held i j : Store) → Opens p held i j → (q : List ℕ) → IsWithin p q → j q ≡ i q
opens_within p held i j opens q within = opens.others q
    (λ same. out_by_first p 115 (116 ∷ 97 ∷ 109 ∷ 112 ∷ 47 ∷ p.folder) q same (differ 115 119 refl) (differ 115 111 refl) within)
    (λ same. out_by_first p 116 (109 ∷ 112 ∷ 47 ∷ 111 ∷ 108 ∷ 100 ∷ 47 ∷ p.folder) q same (differ 116 119 refl) (differ 116 111 refl) within)
    round
  where
    round : IsRound p q → ⊥
    round (inl at) = within_work p q within at
    round (inr w) = within_object p w.0 w.1 q within w.2

pub opens_noted : (p : Publication) (items : List Item) (held i j : Store) → Opens p held i j → AreNoted p items i → AreNoted p items j
opens_noted p items held i j opens was = noted_same p items i j (λ path. opens_within p held i j opens (inside (work_at p.folder) path) (inl (path, refl))) (λ unihash is path. opens_within p held i j opens (inside (object_folder unihash) path) (inr (unihash, is, (path, refl)))) was

pub opens_entries : (p : Publication) {a b : Story} → Passes a b (Opens p a.held) → Passes a b (KeepsEntries p a.held)
opens_entries p {a} run = passes_so (KeepsEntries p a.held) run (λ i j opens. record {
  work = λ path e at is. opens_within p a.held i j opens (inside (work_at p.folder) path) (inl (path, refl));
  shared = λ unihash some path e at is. opens_within p a.held i j opens (inside (object_folder unihash) path) (inr (unihash, some, (path, refl)));
})

pub opens_publish : (p : Publication) {a b : Story} → Passes a b (Opens p a.held) → Passes a b (IsPublishing p a.held)
opens_publish p {a} run = passes_so (IsPublishing p a.held) run (λ i j opens. opens_is_publishing p a.held i j opens)

opens_nothing : (p : Publication) (held i : Store) → Opens p held i i
opens_nothing p held i = record { others = λ q stamp old out. refl; round = λ q round none. refl; honest = inl (record { stamp = refl; work = λ q at. refl }) }

pub opens_same : (p : Publication) {a b : Story} → Passes a b Same → Passes a b (Opens p a.held)
opens_same p {a} run = passes_so (Opens p a.held) run (λ i j same. subst (Opens p a.held i) (sym same) (opens_nothing p a.held i))

pub opens_behind : (p : Publication) {a b c : Story} → Passes a b Same → Passes b c (Opens p b.held) → Passes a c (Opens p a.held)
opens_behind p {a} {b} {c} same run = same_then (opens_nothing p a.held) same (subst (λ (h : Store). Passes b c (Opens p h)) same.held run)

pub on_ok_both : {T E A B C : Type 0} (r : Result T E) → OnOk r A → OnOk r B → (A → B → C) → OnOk r C
on_ok_both (Ok v) a b f = f a b
on_ok_both (Err e) a b f = tt

-- a stamp that is settled stays so
pub settled_same : (f : List ℕ) {a b : Story} → Passes a b Same → EachNow a (λ image. image (stamp_at f) ≡ a.held (stamp_at f)) → EachNow b (λ image. image (stamp_at f) ≡ b.held (stamp_at f))
settled_same f run was i img = let w = run.now i img in ap (λ (h : Store). h (stamp_at f)) w.2 ∙ was w.0 w.1 ∙ sym (ap (λ (h : Store). h (stamp_at f)) run.held)

-- ---- the stamp is put aside, or there was none

module _ (p : Publication) (items : List Item) where
  pub aside_on : {a b c : Story} (k : ℕ) → Passes a b (TakesAway p.folder) → b.held (stamp_at p.folder) ≡ None → Passes b c Same → IsTicket k c → AreNoted p items a.held → IsAside p k items c
  aside_on {a} {b} {c} k run none same ticket noted = record {
    past = ticket.past;
    gone = λ i left. ap (λ (h : Store). h (stamp_at p.folder)) (ticket.held i left ∙ same.held) ∙ none;
    noted = subst (AreNoted p items) (sym same.held) (opens_noted p items a.held a.held b.held (aside_opens p run).held noted);
  }

  half_of : {b c : Story} → IsTree p.tree → EachNow b (λ image. image (stamp_at p.folder) ≡ None) → Passes b c (MakesRoom p b.held) → IsOpen (work_at p.folder) c.held → ((unihash : Hash) → p.object ≡ Some unihash → IsOpen (object_folder unihash) c.held) → AreNoted p items c.held → IsHalf p items c
  half_of {b} {c} is_tree gone room work objects noted = noted_half p items c is_tree (room_gone p gone room) work objects noted

  pub begun_on : {a b c : Story} → IsTree p.tree → IsSound b → Passes a b (TakesAway p.folder) → EachNow b (λ image. image (stamp_at p.folder) ≡ None) → Passes b c (MakesRoom p b.held) → IsOpen (work_at p.folder) c.held → ((unihash : Hash) → p.object ≡ Some unihash → IsOpen (object_folder unihash) c.held)
      → AreNoted p items a.held → IsHalf p items c
  begun_on {a} {b} {c} is_tree sound aside gone room work objects noted = half_of is_tree gone room work objects (opens_noted p items a.held a.held c.held (room_opens p sound aside gone room).held noted)

  -- ---- it is taken out

  pub gone_behind : {a b : Story} (k : ℕ) {T : Type 0} {v : T} → IsAside p k items a → Ends k a b (Ok v) → EachNow b (λ image. image (stamp_at p.folder) ≡ None)
  gone_behind k is did = subst (λ (s : Story). EachNow s (λ image. image (stamp_at p.folder) ≡ None)) (sym did.answers) is.gone

-- the old stamp is removed where it was put
pub out_aside : (folder : List ℕ) {b c : Story} {T : Type 0} {r : Result T DiskFault} → Removes (old_path folder) b c r → Passes b c (TakesAway folder)
out_aside folder did = passes_so (TakesAway folder) (removes_passes did) (λ i j change. record { others = λ q stamp old. change.others q old; source = inl (change.others (stamp_path folder) (places_differ folder)) })

pub out_gone : (folder : List ℕ) {b c : Story} {T : Type 0} {r : Result T DiskFault} → EachNow b (λ image. image (stamp_at folder) ≡ None) → Removes (old_path folder) b c r → EachNow c (λ image. image (stamp_at folder) ≡ None)
out_gone folder gone did = each_now (λ i. i (stamp_at folder) ≡ None) (λ j. j (stamp_at folder) ≡ None) gone (removes_passes did) (λ i j none change. change.others (stamp_at folder) (places_differ folder) ∙ none)

-- ---- what it leaves under `tmp/`

no_stamp : (folder q : List ℕ) → IsBelow (codes "tmp") q → q ≢ stamp_at folder
no_stamp folder q below same = heads_differ (differ 116 115 refl) (sym below.1 ∙ same)

opens_beside : (p : Publication) (held old new : Store) → Opens p held old new → (q : List ℕ) → IsBelow (codes "tmp") q → q ≢ old_path p.folder → new q ≡ old q
opens_beside p held old new opens q below other = opens.others q (no_stamp p.folder q below) other (far_by_first p 116 (109 ∷ 112 ∷ 47 ∷ below.0) q below.1 (differ 116 119 refl) (differ 116 111 refl))

pub taken_sweeps : (o : OpenPublication) (f : Entry) (k : ℕ) (held old new : Store) → Opens (put_by o f) held old new → new (old_path o.folder) ≡ None → Sweeps o (reached.Taken k) (Some (reached.Working 0)) old new
taken_sweeps o f k held old new opens gone q below not was = by (path_cases q (old_path o.folder)) was
  where
    by : (q ≡ old_path o.folder) ⊎ (q ≢ old_path o.folder) → (old q ≡ None) ⊎ StagesAt o (reached.Taken k) q → new q ≡ None
    by (inl same) w = ap new same ∙ gone
    by (inr other) (inl none) = opens_beside (put_by o f) held old new opens q below other ∙ none
    by (inr other) (inr aside) = absurd (other aside)

pub aside_sweeps : (o : OpenPublication) (k : ℕ) (old : Store) → Sweeps o (reached.Aside k) (Some (reached.Taken k)) old old
aside_sweeps o k old q below not (inl none) = none
aside_sweeps o k old q below not (inr aside) = absurd (not aside)

stages_aside : (o : OpenPublication) (now : Reached) (q : List ℕ) → IsAsideAt now → q ≡ old_path o.folder → StagesAt o now q
stages_aside o (reached.Aside k) q is same = same
stages_aside o (reached.Taken k) q is same = absurd is
stages_aside o (reached.Working done) q is same = absurd is
stages_aside o (reached.Staged k) q is same = absurd is
stages_aside o (reached.Kept k) q is same = absurd is
stages_aside o (reached.Stored k) q is same = absurd is
stages_aside o (reached.Stamped k) q is same = absurd is

pub opens_own : (o : OpenPublication) (p : Publication) (held old new : Store) → p.folder ≡ o.folder → Opens p held old new → (old (old_path o.folder) ≡ None → IsAsideAt o.reached ⊎ (new (old_path o.folder) ≡ None)) → AddsOwn o old new
opens_own o p held old new is opens aside q below not none = by (path_cases q (old_path o.folder))
  where
    at : IsAsideAt o.reached ⊎ (new (old_path o.folder) ≡ None) → q ≡ old_path o.folder → new q ≡ None
    at (inl put) same = absurd (not (stages_aside o o.reached q put same))
    at (inr gone) same = ap new same ∙ gone

    by : (q ≡ old_path o.folder) ⊎ (q ≢ old_path o.folder) → new q ≡ None
    by (inl same) = at (aside (ap old (sym same) ∙ none)) same
    by (inr other) = opens_beside p held old new opens q below (λ same. other (same ∙ ap old_path is)) ∙ none
