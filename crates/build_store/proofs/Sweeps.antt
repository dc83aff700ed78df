-- What a step of an open publication leaves under `tmp/`.
use Rattle.std.proofs.Common.{◌≡◌, ◌≢◌, ◌∙◌, sym, ap, refl, ℕ, zero, suc, ◌⊎◌, inl, inr, false, List, [], ◌∷◌, take, Option, Some, None, Result, Ok, Err, OnOk, IfOk}
use Rattle.std.specs.Prelude.{codes, IsSome}
use Rattle.std.specs.List.{AllByRecursion}
use Rattle.std.specs.Option.{is_some}
use Rattle.std.proofs.lemmas.Bool.{false≢true}
use Rattle.tree_model.specs.declared.entry.Entry.{Entry}
use Rattle.tree_model.specs.declared.entry.Entry.TheVariants.{File}
use Rattle.tree_model.specs.declared.hash.Hash.{Hash}
use Rattle.tree_model.specs.Path.{IsBelow}
use Rattle.outside_traits.specs.Answers.{Ends, Renames}
use Rattle.outside_traits.specs.Passes.{Passes, Same}
use Rattle.outside_traits.specs.Store.{Store}
use Rattle.outside_traits.specs.Story.{IsSound, Story}
use Rattle.outside_traits.proofs.Calls.{ends_passes, renames_passes}
use Rattle.outside_traits.proofs.Puts.{path_cases}
use Rattle.stamp_store.specs.Stamp.{stamp_path, staged_path}
use Rattle.store_model.specs.Paths.{record_path}
use Rattle.store_opening.specs.Paths.{staged_record_path}
use Rattle.store_opening.proofs.Areas.{differ, heads_differ}
use Rattle.build_store.specs.declared.pieces.OpenPublication.{OpenPublication}
use Rattle.build_store.specs.declared.pieces.Reached.{Reached}
use Rattle.build_store.specs.declared.pieces.Reached.TheVariants as reached
use Rattle.build_store.specs.Calls.{KeepsBut, MovesOnly, Works}
use Rattle.build_store.specs.Drafts.{file_of}
use Rattle.build_store.specs.Items.{IsItemOf, Item}
use Rattle.build_store.specs.OpenOnes.{IsStaged, StagesAt, Sweeps, put_by}
use Rattle.build_store.specs.Phases.{AddsStaged}
use Rattle.build_store.proofs.Around.{out_by_first}
use Rattle.build_store.proofs.Piecing.{works_at}

pub on_ok_of : {T E P : Type 0} (r : Result T E) → P → OnOk r P
on_ok_of (Ok v) p = p
on_ok_of (Err e) p = tt

pub if_ok_adds : {T E : Type 0} (r : Result T E) (P : T → Type 0) (A : Type 0) (Q : T → Type 0) → IfOk r P → OnOk r A → ((v : T) → P v → A → Q v) → IfOk r Q
if_ok_adds (Ok v) P A Q p a both = both v p a
if_ok_adds (Err e) P A Q p a both = tt

no_stamp : (folder q : List ℕ) → IsBelow (codes "tmp") q → q ≢ stamp_path folder
no_stamp folder q below same = heads_differ (differ 116 115 refl) (sym below.1 ∙ same)

no_record : (name : Hash) (q : List ℕ) → IsBelow (codes "tmp") q → q ≢ record_path name
no_record name q below same = heads_differ (differ 116 114 refl) (sym below.1 ∙ same)

-- ---- items

each_taken : {A : Type 0} (P : A → Type 0) (n : ℕ) (xs : List A) → AllByRecursion P xs → AllByRecursion P (take n xs)
each_taken P zero xs all = tt
each_taken P (suc n) [] all = tt
each_taken P (suc n) (x ∷ xs) all = (all.0, each_taken P n xs all.1)

pub works_sweeps : (o : OpenPublication) (done next : ℕ) (old new : Store) (items : List Item) → ((f : Entry) → AllByRecursion (IsItemOf (put_by o f)) items) → Works (take 64 items) old new → Sweeps o (reached.Working done) (Some (reached.Working next)) old new
works_sweeps o done next old new items all works q below not (inr staged) = absurd staged
works_sweeps o done next old new items all works q below not (inl none) =
    let f : Entry = File false [] in
    works_at (put_by o f) (take 64 items) old old new (each_taken (IsItemOf (put_by o f)) 64 items (all f)) works q (out_by_first (put_by o f) 116 (109 ∷ 112 ∷ 47 ∷ below.0) q below.1 (differ 116 119 refl) (differ 116 111 refl)) ∙ none

-- ---- what is staged

no_file : (new : Option Entry) → new ≡ None → IsSome new → ⊥
no_file new is some = false≢true (sym (ap is_some is) ∙ some)

pub staging_sweeps : (o : OpenPublication) (done : ℕ) (next : Reached) (old new : Store) → IsStaged o next → AddsStaged o.folder o.name (file_of o.new) old new → Sweeps o (reached.Working done) (Some next) old new
staging_sweeps o done (reached.Aside k) old new is adds q below not was = absurd is
staging_sweeps o done (reached.Taken k) old new is adds q below not was = absurd is
staging_sweeps o done (reached.Working n) old new is adds q below not was = absurd is
staging_sweeps o done (reached.Staged k) old new is adds q below not (inr staged) = absurd staged
staging_sweeps o done (reached.Staged k) old new is adds q below not (inl none) = adds.others q (λ same. not (inl same)) (λ some same. not (inr same)) ∙ none
staging_sweeps o done (reached.Kept k) old new is adds q below not (inr staged) = absurd staged
staging_sweeps o done (reached.Kept k) old new is adds q below not (inl none) = adds.others q not (λ some. absurd (no_file (file_of o.new) (ap file_of is) some)) ∙ none
staging_sweeps o done (reached.Stored k) old new is adds q below not was = absurd is
staging_sweeps o done (reached.Stamped k) old new is adds q below not was = absurd is

-- ---- the renames

pub moved_only : (f t from to : List ℕ) (a b c d : Story) (k : ℕ) {v w : Unit {0}} → IsSound a → IsSound b → from ≡ f → to ≡ t → Ends k a b (Ok v) → Renames from to b c (Ok w) → Passes c d Same → MovesOnly f t a.held d.held
moved_only f t from to a b c d k sound sound_b from_is to_is ended did same q nf nt =
    ap (λ h. h q) same.held ∙ (renames_passes sound_b did).held.others q (λ e. nf (e ∙ from_is)) (λ e. nt (e ∙ to_is)) ∙ ap (λ h. h q) (ends_passes sound ended).held

pub record_sweeps : (o : OpenPublication) (j k : ℕ) (old new : Store) → MovesOnly (staged_record_path o.name) (record_path o.name) old new → new (staged_record_path o.name) ≡ None → Sweeps o (reached.Staged j) (Some (reached.Stored k)) old new
record_sweeps o j k old new moves gone q below not was = by (path_cases q (staged_record_path o.name)) was
  where
    by : (q ≡ staged_record_path o.name) ⊎ (q ≢ staged_record_path o.name) → (old q ≡ None) ⊎ StagesAt o (reached.Staged j) q → new q ≡ None
    by (inl same) w = ap new same ∙ gone
    by (inr other) (inl none) = moves q other (no_record o.name q below) ∙ none
    by (inr other) (inr (inl stamp)) = absurd (not stamp)
    by (inr other) (inr (inr record_at)) = absurd (other record_at)

pub stamp_sweeps_kept : (o : OpenPublication) (j k : ℕ) (old new : Store) → KeepsBut (staged_path o.folder) old new → new (staged_path o.folder) ≡ None → Sweeps o (reached.Kept j) (Some (reached.Stamped k)) old new
stamp_sweeps_kept o j k old new moves gone q below not was = by (path_cases q (staged_path o.folder)) was
  where
    by : (q ≡ staged_path o.folder) ⊎ (q ≢ staged_path o.folder) → (old q ≡ None) ⊎ StagesAt o (reached.Kept j) q → new q ≡ None
    by (inl same) w = ap new same ∙ gone
    by (inr other) (inl none) = moves q below other ∙ none
    by (inr other) (inr staged) = absurd (other staged)

pub stamp_sweeps_stored : (o : OpenPublication) (j k : ℕ) (old new : Store) → KeepsBut (staged_path o.folder) old new → new (staged_path o.folder) ≡ None → Sweeps o (reached.Stored j) (Some (reached.Stamped k)) old new
stamp_sweeps_stored o j k old new moves gone = stamp_sweeps_kept o j k old new moves gone

pub ending_sweeps : (o : OpenPublication) (j : ℕ) (old new : Store) → new ≡ old → Sweeps o (reached.Stamped j) None old new
ending_sweeps o j old new same q below not (inr staged) = absurd staged
ending_sweeps o j old new same q below not (inl none) = ap (λ h. h q) same ∙ none
