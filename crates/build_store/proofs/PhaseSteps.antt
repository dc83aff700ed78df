-- The phases of a publication's end.
use Rattle.std.proofs.Common.{◌≡◌, inl, inr, ⊎_elim, ℕ, List, ◌∷◌, Option, Some, None, Ok, refl, sym, ◌∙◌, ap, subst, arith}
use Rattle.tree_model.specs.declared.entry.Entry.{Entry}
use Rattle.tree_model.specs.Hash.{hash_text}
use Rattle.outside_traits.specs.Answers.{Renames}
use Rattle.outside_traits.specs.Passes.{Passes, Same}
use Rattle.outside_traits.specs.Store.{Moves, Store, put}
use Rattle.outside_traits.specs.Story.{IsImage, IsSound, Story, ended}
use Rattle.outside_traits.proofs.Calls.{renames_passes}
use Rattle.outside_traits.proofs.Images.{above-now, held-above}
use Rattle.outside_traits.proofs.Puts.{put-same}
use Rattle.outside_traits.proofs.Sound.{sound_ended}
use Rattle.stamp_store.specs.Stamp.{stamp_path, staged_path}
use Rattle.store_model.specs.Paths.{key_path, record_path}
use Rattle.store_model.specs.Publication.{stamp_at, stamp_file, Publication}
use Rattle.store_opening.specs.Paths.{staged_record_path}
use Rattle.store_opening.proofs.Areas.{differ, heads_differ, tree_stays}
use Rattle.build_store.specs.Ending.{HasFolders, IsAt, IsHonest, IsReady, IsStored, IsTicket, IsWaiting, KeepsPut, NowIsTicket, PhasesEnd, PhasesStay, RecordGoesOn, StampGoesOn, StagedAtFirst}
use Rattle.outside_traits.specs.Phases.{kept, staged, stamped, stored}
use Rattle.build_store.specs.Publication.{IsPublished}
use Rattle.build_store.proofs.Quieting.{staged_differ}

renamed : {from to : List ℕ} {a b : Story} → Renames from to a b {T = Unit {0}} (Ok (tt {0})) → b.held to ≡ a.held from
renamed {from} {to} {a} did = ap (λ (s : Story). s.held to) did.answers ∙ put-same (put a.held from None) to to (a.held from) refl

module _ (p : Publication) where
  pub folders_by : (j k : Store) → ((qs : List ℕ) → k (119 ∷ qs) ≡ j (119 ∷ qs)) → ((qs : List ℕ) → k (111 ∷ qs) ≡ j (111 ∷ qs)) → HasFolders p j → HasFolders p k
  folders_by j k work objects was = record {
    work = tree_stays 119 (111 ∷ 114 ∷ 107 ∷ 47 ∷ p.folder) p.tree j k (differ 119 47 refl) work was.work;
    shared = λ unihash is. tree_stays 111 (98 ∷ 106 ∷ 47 ∷ hash_text unihash) p.tree j k (differ 111 47 refl) objects (was.shared unihash is);
  }

  -- the record is renamed
  waiting_of : (x : Option Entry) (j k : Store) → IsWaiting p j → Moves (staged_record_path p.name) (record_path p.name) x j k → IsWaiting p k
  waiting_of x j k was m = record {
    folders = folders_by j k
        (λ qs. m.others (119 ∷ qs) (heads_differ (differ 119 116 refl)) (heads_differ (differ 119 114 refl)))
        (λ qs. m.others (111 ∷ qs) (heads_differ (differ 111 116 refl)) (heads_differ (differ 111 114 refl))) was.folders;
    staged_stamp = m.others (staged_path p.folder) (staged_differ p.folder p.name) (heads_differ (differ 116 114 refl)) ∙ was.staged_stamp;
    unstamped = m.others (stamp_at p.folder) (heads_differ (differ 115 116 refl)) (heads_differ (differ 115 114 refl)) ∙ was.unstamped;
  }

  -- the stamp is renamed
  honest_of : (x : Option Entry) → x ≡ Some (stamp_file p.name) → (j k : Store) → IsStored p j → Moves (staged_path p.folder) (stamp_path p.folder) x j k → IsHonest p k
  honest_of x is j k was m = record {
    folders = folders_by j k
        (λ qs. m.others (119 ∷ qs) (heads_differ (differ 119 116 refl)) (heads_differ (differ 119 115 refl)))
        (λ qs. m.others (111 ∷ qs) (heads_differ (differ 111 116 refl)) (heads_differ (differ 111 115 refl))) was.waiting.folders;
    stored = m.others (record_path p.name) (heads_differ (differ 114 116 refl)) (heads_differ (differ 114 115 refl)) ∙ was.stored;
    key = m.others (key_path p.key) (heads_differ (differ 107 116 refl)) (heads_differ (differ 107 115 refl)) ∙ was.key;
    stamp = ⊎_elim (λ e. inl (e ∙ was.waiting.unstamped)) (λ e. inr (e ∙ is)) m.target;
  }

  published_of : (i : Store) → IsHonest p i → i (stamp_at p.folder) ≡ Some (stamp_file p.name) → IsPublished p i
  published_of i honest at = record { stamp = at; stored = honest.stored; key = honest.key; work = honest.folders.work; shared = honest.folders.shared }

  -- ---- what others do

  waiting_kept : (j k : Store) → IsWaiting p j → KeepsPut p j k → IsWaiting p k
  waiting_kept j k w keeps = record { folders = keeps.folders w.folders; staged_stamp = keeps.staged_stamp ∙ w.staged_stamp; unstamped = keeps.stamp ∙ w.unstamped }

  ready_kept : (j k : Store) → IsReady p j → KeepsPut p j k → IsReady p k
  ready_kept j k r keeps = record { waiting = waiting_kept j k r.waiting keeps; staged_record = keeps.staged_record ∙ r.staged_record; key = keeps.key ∙ r.key }

  stored_kept : (j k : Store) → IsStored p j → KeepsPut p j k → IsStored p k
  stored_kept j k s keeps = record { waiting = waiting_kept j k s.waiting keeps; stored = keeps.record_at ∙ s.stored; key = keeps.key ∙ s.key }

  honest_kept : (j k : Store) → IsHonest p j → KeepsPut p j k → IsHonest p k
  honest_kept j k h keeps = record { folders = keeps.folders h.folders; stored = keeps.record_at ∙ h.stored; key = keeps.key ∙ h.key; stamp = ⊎_elim (λ e. inl (keeps.stamp ∙ e)) (λ e. inr (keeps.stamp ∙ e)) h.stamp }

  published_kept : (j k : Store) → IsPublished p j → KeepsPut p j k → IsPublished p k
  published_kept j k w keeps =
      let folders = keeps.folders (record { work = w.work; shared = w.shared }) in
      record { stamp = keeps.stamp ∙ w.stamp; stored = keeps.record_at ∙ w.stored; key = keeps.key ∙ w.key; work = folders.work; shared = folders.shared }

pub now_is_ticket : NowIsTicket
now_is_ticket story = record { past = omega arith; held = λ i left. above-now story i left }

pub staged_at_first : StagedAtFirst
staged_at_first p a k ticket unstamped = (
  λ ready. (ticket.past, unstamped, λ i left. subst (IsReady p) (sym (ticket.held i left)) ready),
  λ there. (ticket.past, unstamped, λ i left. subst (IsStored p) (sym (ticket.held i left)) there),
)

pub phases_stay : PhasesStay
phases_stay p (staged k) a b is run = (
  omega (arith, is.0, run.later),
  λ i img. let w = run.now i img in w.2.stamp ∙ is.1 w.0 w.1,
  λ i left. let w = run.above k i is.0 left in ready_kept p w.0 i (is.2 w.0 w.1) w.2,
)
phases_stay p (kept k) a b is run = (
  omega (arith, is.0, run.later),
  λ i img. let w = run.now i img in w.2.stamp ∙ is.1 w.0 w.1,
  λ i left. let w = run.above k i is.0 left in stored_kept p w.0 i (is.2 w.0 w.1) w.2,
)
phases_stay p (stored k) a b is run = (
  omega (arith, is.0, run.later),
  λ i img. let w = run.now i img in waiting_kept p w.0 i (is.1 w.0 w.1) w.2,
  λ i left. let w = run.above k i is.0 left in stored_kept p w.0 i (is.2 w.0 w.1) w.2,
)
phases_stay p (stamped k) a b is run = (
  omega (arith, is.0, run.later),
  λ i img. let w = run.now i img in honest_kept p w.0 i (is.1 w.0 w.1) w.2,
  λ i left. let w = run.above k i is.0 left in published_kept p w.0 i (is.2 w.0 w.1) w.2,
)

-- what each image is, behind a run that changes nothing
now_same : {b c : Story} (P : Store → Type 0) → ((i : Store) → IsImage b i → P i) → Passes b c Same → (i : Store) → IsImage c i → P i
now_same P each same i img = let w = same.now i img in subst P (sym w.2) (each w.0 w.1)

pub record_goes_on : RecordGoesOn
record_goes_on p a b c k n sound is did same ticket =
    let run = renames_passes (sound_ended a k sound) did in
    let first = is.2 a.held (held-above a sound k) in
    let held = a.held (staged_record_path p.name) in
    let at_b : IsStored p b.held = record { waiting = waiting_of p held a.held b.held first.waiting run.held; stored = renamed did ∙ first.staged_record; key = run.held.others (key_path p.key) (heads_differ (differ 107 116 refl)) (heads_differ (differ 107 114 refl)) ∙ first.key } in (
      ticket.past,
      now_same (IsWaiting p) (λ i img. let w = run.now i img in waiting_of p held w.0 i (is.2 w.0 w.1).waiting w.2) same,
      λ i left. subst (IsStored p) (sym (ticket.held i left ∙ same.held)) at_b,
    )

-- where the ticket is ended, each image has the record
stamp_on : (p : Publication) (a b c : Story) (k n : ℕ) → IsSound a → ((i : Store) → IsImage (ended k a) i → IsStored p i) → IsStored p a.held → Renames (staged_path p.folder) (stamp_path p.folder) (ended k a) b {T = Unit {0}} (Ok (tt {0}))
    → Passes b c Same → IsTicket n c → IsAt p (stamped n) c
stamp_on p a b c k n sound each first did same ticket =
    let run = renames_passes (sound_ended a k sound) did in
    let held = a.held (staged_path p.folder) in
    let at_last = honest_of p held first.waiting.staged_stamp a.held b.held first run.held in (
      ticket.past,
      now_same (IsHonest p) (λ i img. let w = run.now i img in honest_of p held first.waiting.staged_stamp w.0 i (each w.0 w.1) w.2) same,
      λ i left. subst (IsPublished p) (sym (ticket.held i left ∙ same.held)) (published_of p b.held at_last (renamed did ∙ first.waiting.staged_stamp)),
    )

pub stamp_goes_on : StampGoesOn
stamp_goes_on p a b c k n sound (inl is) did same ticket = stamp_on p a b c k n sound is.2 (is.2 a.held (held-above a sound k)) did same ticket
stamp_goes_on p a b c k n sound (inr is) did same ticket = stamp_on p a b c k n sound is.2 (is.2 a.held (held-above a sound k)) did same ticket

pub phases_end : PhasesEnd
phases_end p a k is = is.2
