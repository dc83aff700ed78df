-- What the end of an open publication does.
use Rattle.std.proofs.Common.{◌≡◌, ◌≢◌, ◌∙◌, sym, ap, subst, refl, ℕ, suc, ◌-◌, ◌<◌, ◌≤◌, ◌^◌, min, ◌⊎◌, inl, inr, ⊎_elim, List, [], ◌∷◌, Option, Some, None, Result, Ok, true, false, arith}
use Rattle.std.specs.Prelude.{IsSome}
use Rattle.std.specs.Option.{is_some}
use Rattle.std.proofs.lemmas.Bool.{false≢true}
use Rattle.tree_model.specs.declared.entry.Entry.{Entry}
use Rattle.tree_model.specs.declared.hash.Hash.{Hash}
use Rattle.outside_traits.specs.declared.fault.DiskFault.{DiskFault}
use Rattle.outside_traits.specs.Answers.{Ends, IsSettled, Renames, Syncs}
use Rattle.outside_traits.specs.Passes.{EachNow, Passes, Same}
use Rattle.outside_traits.specs.Phases.{EachAbove, kept, staged, stamped, stored}
use Rattle.outside_traits.specs.Store.{Moves, Store, put}
use Rattle.outside_traits.specs.Story.{IsSound, LeftBy, Story, ended, moment, synced}
use Rattle.outside_traits.proofs.Calls.{ended_passes, renames_passes, same_so, then_same}
use Rattle.outside_traits.proofs.Images.{held-above, held-image}
use Rattle.outside_traits.proofs.Puts.{put-other, put-same}
use Rattle.outside_traits.proofs.Runs.{each_now, passes_at, passes_so}
use Rattle.outside_traits.proofs.Sound.{sound_ended}
use Rattle.stamp_store.specs.Stamp.{stamp_path, staged_path}
use Rattle.store_model.specs.Paths.{key_path, record_path}
use Rattle.store_model.specs.Publication.{stamp_at, stamp_file, Publication}
use Rattle.store_opening.specs.Paths.{staged_record_path}
use Rattle.store_opening.proofs.Areas.{differ, heads_differ}
use Rattle.build_store.specs.declared.drafting.NewRecord.{NewRecord}
use Rattle.build_store.specs.Calls.{Finishes}
use Rattle.build_store.specs.Drafts.{file_of}
use Rattle.build_store.specs.Ending.{HasFolders, IsAt, IsReady, IsStored, IsTicket, IsWaiting}
use Rattle.build_store.specs.Halves.{IsHalf}
use Rattle.build_store.specs.Phases.{AddsStaged, IsFileOf, IsStagedFile}
use Rattle.build_store.specs.Publication.{IsPublished}
use Rattle.build_store.proofs.PhaseSteps.{folders_by, now_is_ticket, record_goes_on, staged_at_first, stamp_goes_on}
use Rattle.build_store.proofs.Stepping.{whole_at_last}

-- ---- tickets

pub ticket_now : (s : Story) (k : ℕ) → k ≡ min (moment s) (2 ^ 64 - 1) → k < 2 ^ 64 - 1 → IsTicket k s
ticket_now s k is lt = let same : moment s ≡ k = omega (arith, is, lt) in subst (λ (n : ℕ). IsTicket n s) same (now_is_ticket s)

ticket_of_synced : (s : Story) (k : ℕ) → k ≤ moment s → IsTicket k (synced s)
ticket_of_synced s k le = record {
  past = omega (arith, le);
  held = λ i left. let none : min (suc (moment s) - k) 0 ≡ 0 = omega arith in subst (λ (n : ℕ). LeftBy n s.held (synced s).calls i) none left;
}

pub ticket_synced : (a b : Story) (k : ℕ) {T : Type 0} {v : T} → k ≤ moment a → Syncs a b (Ok v) → IsTicket k b
ticket_synced a b k le did = subst (λ (s : Story). IsTicket k s) (sym did.answers) (ticket_of_synced a k le)

-- ---- record and stamp are staged

pub adds_finishes : (p : Publication) (file : Option Entry) {a b : Story} → Passes a b (AddsStaged p.folder p.name file) → Passes a b (Finishes p)
adds_finishes p file run = passes_so (Finishes p) run (λ i j adds. record {
  others = λ q stamp record_at at stored. adds.others q stamp (λ some. record_at);
  stored = inl (adds.others (record_path p.name) (heads_differ (differ 114 116 refl)) (λ some. heads_differ (differ 114 116 refl)));
  stamp = inl (adds.others (stamp_at p.folder) (heads_differ (differ 115 116 refl)) (λ some. heads_differ (differ 115 116 refl)));
})

pub finishes_same : (p : Publication) (i : Store) → Finishes p i i
finishes_same p i = record { others = λ q a b c d. refl; stored = inl refl; stamp = inl refl }

module _ (p : Publication) (file : Option Entry) {a b c : Story} (half : IsHalf p [] a) (run : Passes a b (AddsStaged p.folder p.name file)) (stamp : b.held (staged_path p.folder) ≡ Some (stamp_file p.name)) (same : Passes b c Same) where
  gone_still : EachNow c (λ image. image (stamp_at p.folder) ≡ None)
  gone_still = each_now (λ i. i (stamp_at p.folder) ≡ None) (λ i. i (stamp_at p.folder) ≡ None) half.unstamped (then_same run same)
      (λ i j none adds. adds.others (stamp_at p.folder) (heads_differ (differ 115 116 refl)) (λ some. heads_differ (differ 115 116 refl)) ∙ none)

  waits_at_last : IsSound a → IsWaiting p c.held
  waits_at_last sound =
      let w = whole_at_last p a half in
      let was : HasFolders p a.held = record { work = w.0; shared = w.1 } in
      let adds = (then_same run same).held in
      record {
        folders = folders_by p a.held c.held
            (λ qs. adds.others (119 ∷ qs) (heads_differ (differ 119 116 refl)) (λ some. heads_differ (differ 119 116 refl)))
            (λ qs. adds.others (111 ∷ qs) (heads_differ (differ 111 116 refl)) (λ some. heads_differ (differ 111 116 refl))) was;
        staged_stamp = ap (λ (h : Store). h (staged_path p.folder)) same.held ∙ stamp;
        unstamped = adds.others (stamp_at p.folder) (heads_differ (differ 115 116 refl)) (λ some. heads_differ (differ 115 116 refl)) ∙ half.unstamped a.held (held-image a sound);
      }

  key_now : a.held (key_path p.key) ≡ Some p.key_file → c.held (key_path p.key) ≡ Some p.key_file
  key_now has = (then_same run same).held.others (key_path p.key) (heads_differ (differ 107 116 refl)) (λ some. heads_differ (differ 107 116 refl)) ∙ has

  pub staged_now : IsSound a → (k : ℕ) → IsTicket k c → b.held (staged_record_path p.name) ≡ Some p.file → a.held (key_path p.key) ≡ Some p.key_file → IsAt p (staged k) c
  staged_now sound k ticket at has = (staged_at_first p c k ticket gone_still).0 (record { waiting = waits_at_last sound; staged_record = ap (λ (h : Store). h (staged_record_path p.name)) same.held ∙ at; key = key_now has })

  pub kept_now : IsSound a → (k : ℕ) → IsTicket k c → a.held (record_path p.name) ≡ Some p.file → a.held (key_path p.key) ≡ Some p.key_file → IsAt p (kept k) c
  kept_now sound k ticket at has = (staged_at_first p c k ticket gone_still).1 (record {
    waiting = waits_at_last sound;
    stored = (then_same run same).held.others (record_path p.name) (heads_differ (differ 114 116 refl)) (λ some. heads_differ (differ 114 116 refl)) ∙ at;
    key = key_now has;
  })

-- ---- renames

settled_by : (q : List ℕ) (x : Entry) (a : Story) (k : ℕ) → IsSound a → EachAbove a k (λ i. i q ≡ Some x) → IsSettled q (ended k a)
settled_by q x a k sound is =
    let here : a.held q ≡ Some x = is a.held (held-above a sound k) in
    record { held = subst IsSome (sym here) refl; kept = λ i img. is i img ∙ sym here }

pub record_settled : (p : Publication) (a : Story) (k : ℕ) → IsSound a → IsAt p (staged k) a → IsSettled (staged_record_path p.name) (ended k a)
record_settled p a k sound is = settled_by (staged_record_path p.name) p.file a k sound (λ i left. (is.2 i left).staged_record)

stored_above : (p : Publication) (a : Story) (k : ℕ) → IsAt p (kept k) a ⊎ IsAt p (stored k) a → EachAbove a k (IsStored p)
stored_above p a k (inl is) = is.2
stored_above p a k (inr is) = is.2

pub stamp_settled : (p : Publication) (a : Story) (k : ℕ) → IsSound a → IsAt p (kept k) a ⊎ IsAt p (stored k) a → IsSettled (staged_path p.folder) (ended k a)
stamp_settled p a k sound is = settled_by (staged_path p.folder) (stamp_file p.name) a k sound (λ i left. (stored_above p a k is i left).waiting.staged_stamp)

record_finish : (p : Publication) → p.is_new ≡ true → (x : Option Entry) → x ≡ Some p.file → (i j : Store) → IsReady p i → Moves (staged_record_path p.name) (record_path p.name) x i j → Finishes p i j
record_finish p new x is i j ready move = record {
  others = λ q stamp staged_at at stored. move.others q staged_at (stored new);
  stored = ⊎_elim (λ same. inl same) (λ to. inr (new, to ∙ is, move.others (key_path p.key) (heads_differ (differ 107 116 refl)) (heads_differ (differ 107 114 refl)) ∙ ready.key)) move.target;
  stamp = inl (move.others (stamp_at p.folder) (heads_differ (differ 115 116 refl)) (heads_differ (differ 115 114 refl)));
}

-- the record is renamed, or that is refused
pub record_finishes : (p : Publication) (a b : Story) (k : ℕ) {T : Type 0} {r : Result T DiskFault} → IsSound a → p.is_new ≡ true → IsAt p (staged k) a → Renames (staged_record_path p.name) (record_path p.name) (ended k a) b r → Passes a b (Finishes p)
record_finishes p a b k sound new is did =
    let held : a.held (staged_record_path p.name) ≡ Some p.file = (is.2 a.held (held-above a sound k)).staged_record in
    passes_at (IsReady p) (Finishes p) (sound_ended a k sound) is.2 (ended_passes a sound k) (renames_passes (sound_ended a k sound) did)
    (λ i j same. subst (Finishes p i) (sym same) (finishes_same p i))
    (λ i j l same ready move. subst (λ (s : Store). Finishes p s l) same (record_finish p new (a.held (staged_record_path p.name)) held j l ready move))

stamp_finish : (p : Publication) (x : Option Entry) → x ≡ Some (stamp_file p.name) → (i j : Store) → IsStored p i → IsPublished p j ⊎ (j (stamp_at p.folder) ≡ i (stamp_at p.folder)) → Moves (staged_path p.folder) (stamp_path p.folder) x i j → Finishes p i j
stamp_finish p x is i j was which move = record {
  others = λ q stamp staged_at at stored. move.others q stamp at;
  stored = inl (move.others (record_path p.name) (heads_differ (differ 114 116 refl)) (heads_differ (differ 114 115 refl)));
  stamp = ⊎_elim (λ all. inr all) (λ same. inl same) which;
}

-- the stamp is renamed, so all that it tells of is there, or it isn't
stamp_comes : (p : Publication) (x : Option Entry) → x ≡ Some (stamp_file p.name) → (i j : Store) → IsStored p i → Moves (staged_path p.folder) (stamp_path p.folder) x i j → IsPublished p j ⊎ (j (stamp_at p.folder) ≡ i (stamp_at p.folder))
stamp_comes p x is i j was move = ⊎_elim (λ same. inr same) (λ to. inl (record { stamp = to ∙ is; stored = stored; key = has_key; work = folders.work; shared = folders.shared })) move.target
  where
    folders : HasFolders p j
    folders = folders_by p i j
        (λ qs. move.others (119 ∷ qs) (heads_differ (differ 119 116 refl)) (heads_differ (differ 119 115 refl)))
        (λ qs. move.others (111 ∷ qs) (heads_differ (differ 111 116 refl)) (heads_differ (differ 111 115 refl))) was.waiting.folders

    stored : j (record_path p.name) ≡ Some p.file
    stored = move.others (record_path p.name) (heads_differ (differ 114 116 refl)) (heads_differ (differ 114 115 refl)) ∙ was.stored

    has_key : j (key_path p.key) ≡ Some p.key_file
    has_key = move.others (key_path p.key) (heads_differ (differ 107 116 refl)) (heads_differ (differ 107 115 refl)) ∙ was.key

-- the stamp is renamed, or that is refused
pub stamp_finishes : (p : Publication) (a b : Story) (k : ℕ) {T : Type 0} {r : Result T DiskFault} → IsSound a → IsAt p (kept k) a ⊎ IsAt p (stored k) a → Renames (staged_path p.folder) (stamp_path p.folder) (ended k a) b r → Passes a b (Finishes p)
stamp_finishes p a b k sound is did =
    let above = stored_above p a k is in
    let held : a.held (staged_path p.folder) ≡ Some (stamp_file p.name) = (above a.held (held-above a sound k)).waiting.staged_stamp in
    passes_at (IsStored p) (Finishes p) (sound_ended a k sound) above (ended_passes a sound k) (renames_passes (sound_ended a k sound) did)
    (λ i j same. subst (Finishes p i) (sym same) (finishes_same p i))
    (λ i j l same was move.
    let x = a.held (staged_path p.folder) in
    subst (λ (s : Store). Finishes p s l) same (stamp_finish p x held j l was (stamp_comes p x held j l was move) move))

pub finishes_by_same : (p : Publication) {a b : Story} → Passes a b Same → Passes a b (Finishes p)
finishes_by_same p run = same_so (Finishes p) (finishes_same p) run

-- ---- as the code has them: paths, and what calls answered

pub record_may_move : (name : Hash) (from : List ℕ) (a b : Story) (k : ℕ) {v : Unit {0}} → IsSound a → from ≡ staged_record_path name → ((p : Publication) × (p.name ≡ name) × IsAt p (staged k) a) → Ends k a b (Ok v) → IsSettled from b
record_may_move name from a b k sound is w did =
    let path : staged_record_path w.0.name ≡ from = ap staged_record_path w.1 ∙ sym is in
    subst (IsSettled from) (sym did.answers) (subst (λ (q : List ℕ). IsSettled q (ended k a)) path (record_settled w.0 a k sound w.2))

pub stamp_may_move : (folder from : List ℕ) (a b : Story) (k : ℕ) {v : Unit {0}} → IsSound a → from ≡ staged_path folder → ((p : Publication) × (p.folder ≡ folder) × (IsAt p (kept k) a ⊎ IsAt p (stored k) a)) → Ends k a b (Ok v) → IsSettled from b
stamp_may_move folder from a b k sound is w did =
    let path : staged_path w.0.folder ≡ from = ap staged_path w.1 ∙ sym is in
    subst (IsSettled from) (sym did.answers) (subst (λ (q : List ℕ). IsSettled q (ended k a)) path (stamp_settled w.0 a k sound w.2))

-- the rename, where the paths are the record's
record_did : (p : Publication) (name : Hash) (from to : List ℕ) (a b c : Story) (k : ℕ) {v : Unit {0}} {r : Result (Unit {0}) DiskFault} → p.name ≡ name → from ≡ staged_record_path name → to ≡ record_path name → Ends k a b (Ok v) → Renames from to b c r → Renames (staged_record_path p.name) (record_path p.name) (ended k a) c r
record_did p name from to a b c k {v} {r} own from_is to_is ends did =
    let f : from ≡ staged_record_path p.name = from_is ∙ ap staged_record_path (sym own) in
    let t : to ≡ record_path p.name = to_is ∙ ap record_path (sym own) in
    subst (λ (q : List ℕ). Renames q (record_path p.name) (ended k a) c r) f (subst (λ (q : List ℕ). Renames from q (ended k a) c r) t (subst (λ (s : Story). Renames from to s c r) ends.answers did))

stamp_did : (p : Publication) (folder from to : List ℕ) (a b c : Story) (k : ℕ) {v : Unit {0}} {r : Result (Unit {0}) DiskFault} → p.folder ≡ folder → from ≡ staged_path folder → to ≡ stamp_path folder → Ends k a b (Ok v) → Renames from to b c r → Renames (staged_path p.folder) (stamp_path p.folder) (ended k a) c r
stamp_did p folder from to a b c k {v} {r} own from_is to_is ends did =
    let f : from ≡ staged_path p.folder = from_is ∙ ap staged_path (sym own) in
    let t : to ≡ stamp_path p.folder = to_is ∙ ap stamp_path (sym own) in
    subst (λ (q : List ℕ). Renames q (stamp_path p.folder) (ended k a) c r) f (subst (λ (q : List ℕ). Renames from q (ended k a) c r) t (subst (λ (s : Story). Renames from to s c r) ends.answers did))

pub record_moves : (p : Publication) (name : Hash) (from to : List ℕ) (a b c d : Story) (k : ℕ) {v : Unit {0}} {r : Result (Unit {0}) DiskFault} → IsSound a → p.name ≡ name → from ≡ staged_record_path name → to ≡ record_path name → Ends k a b (Ok v) → Renames from to b c r → Passes c d Same → p.is_new ≡ true → IsAt p (staged k) a → Passes a d (Finishes p)
record_moves p name from to a b c d k sound own from_is to_is ends did same new is = then_same (record_finishes p a c k sound new is (record_did p name from to a b c k own from_is to_is ends did)) same

pub record_next : (p : Publication) (name : Hash) (from to : List ℕ) (a b c d : Story) (k n : ℕ) {v w : Unit {0}} → IsSound a → p.name ≡ name → from ≡ staged_record_path name → to ≡ record_path name → Ends k a b (Ok v) → Renames from to b c (Ok w) → Passes c d Same → IsTicket n d → IsAt p (staged k) a → IsAt p (stored n) d
record_next p name from to a b c d k n sound own from_is to_is ends did same ticket is = record_goes_on p a c d k n sound is (record_did p name from to a b c k own from_is to_is ends did) same ticket

pub stamp_moves : (p : Publication) (folder from to : List ℕ) (a b c d : Story) (k : ℕ) {v : Unit {0}} {r : Result (Unit {0}) DiskFault} → IsSound a → p.folder ≡ folder → from ≡ staged_path folder → to ≡ stamp_path folder → Ends k a b (Ok v) → Renames from to b c r → Passes c d Same → IsAt p (kept k) a ⊎ IsAt p (stored k) a → Passes a d (Finishes p)
stamp_moves p folder from to a b c d k sound own from_is to_is ends did same is = then_same (stamp_finishes p a c k sound is (stamp_did p folder from to a b c k own from_is to_is ends did)) same

pub stamp_next : (p : Publication) (folder from to : List ℕ) (a b c d : Story) (k n : ℕ) {v w : Unit {0}} → IsSound a → p.folder ≡ folder → from ≡ staged_path folder → to ≡ stamp_path folder → Ends k a b (Ok v) → Renames from to b c (Ok w) → Passes c d Same → IsTicket n d → IsAt p (kept k) a ⊎ IsAt p (stored k) a → IsAt p (stamped n) d
stamp_next p folder from to a b c d k n sound own from_is to_is ends did same ticket is = stamp_goes_on p a c d k n sound is (stamp_did p folder from to a b c k own from_is to_is ends did) same ticket

-- the source of a rename is empty behind it
pub moved_gone : (from to : List ℕ) (b c d : Story) {v : Unit {0}} → from ≢ to → Renames from to b c (Ok v) → Passes c d Same → d.held from ≡ None
moved_gone from to b c d ne did same = ap (λ (h : Store). h from) same.held ∙ ap (λ (s : Story). s.held from) did.answers ∙ put-other (put b.held from None) to from (b.held from) ne ∙ put-same b.held from from None refl

-- ---- the record's file

pub staged_file : (name : Hash) (new : Option NewRecord) (text : List ℕ) (h held : Store) (f : Entry) → IsSome new → IsStagedFile name (file_of new) held → IsFileOf name (file_of new) text h f → held (staged_record_path name) ≡ Some f
staged_file name None text h held f some is of = absurd (false≢true some)
staged_file name (Some made) text h held f some is of = is made.file refl ∙ ap (λ (e : Entry). Some e) (of.new made.file refl)

pub kept_file : (name : Hash) (new : Option NewRecord) (text : List ℕ) (h : Store) (f : Entry) → is_some new ≡ false → IsFileOf name (file_of new) text h f → h (record_path name) ≡ Some f
kept_file name None text h f none of = of.old refl
kept_file name (Some made) text h f none of = absurd (false≢true (sym none))

pub is_none_of : (new : Option NewRecord) → is_some new ≡ false → new ≡ None
is_none_of None none = refl
is_none_of (Some made) none = absurd (false≢true (sym none))

pub new_of : (new : Option NewRecord) → IsSome new → is_some (file_of new) ≡ true
new_of None some = absurd (false≢true some)
new_of (Some made) some = refl
