-- What stands in the way of a folder is none of its paths.
use Rattle.std.proofs.Common.{◌≡◌, ◌∙◌, refl, sym, ap, subst, ℕ, zero, suc, ◌+◌, ◌<◌, ◌≤◌, ◌⊎◌, inl, inr, Bool, true, false, List, [], ◌∷◌, ◌++◌, All, length, length-append, map, arith}
use Rattle.std.specs.Prelude.{◌≢◌, ◌==◌, OnOk, Result, Ok, Err}
use Rattle.outside_traits.specs.declared.fault.DiskFault.{DiskFault}
use Rattle.outside_traits.specs.declared.fault.DiskFault.TheVariants as disk
use Rattle.build_store.specs.Faults.{is_disk_fault, of_disk}
use Rattle.std.specs.List.{AllByRecursion}
use Rattle.std.proofs.lemmas.Bool.Decides.{Decides-eqb}
use Rattle.std.proofs.lemmas.List.Elements.{All-from_recursion, recursion_from_All}
use Rattle.tree_model.specs.Path.{IsBelow, inside}
use Rattle.outside_traits.specs.Store.{IsAround, MakesWay, Store}
use Rattle.outside_traits.specs.Fault.{Counts, Rose, disk_failed}
use Rattle.meta_model.specs.declared.event.Status.{Status}
use Rattle.meta_model.specs.declared.event.Status.TheVariants as status
use Rattle.run_model.specs.Build.{MayEndSo, TellsDifference}
use Rattle.sub_disk.specs.Sub.{FaultsSince, GoesOn, IsSettledWhole, below}
use Rattle.outside_traits.specs.Passes.{Passes}
use Rattle.outside_traits.specs.Story.{Story}
use Rattle.meta_model.specs.declared.event.Logged.{Logged}
use Rattle.outside_traits.specs.Bench.{Gives}
use Rattle.meta_model.specs.declared.plan.Options.{Options}
use Rattle.meta_model.specs.declared.plan.Plan.{Plan}
use Rattle.store_model.specs.Origins.{Book, Reading}
use Rattle.run_model.specs.Runs.{Runs}
use Rattle.build_resume.specs.Build.{IsEntry, Leaves}
use Rattle.config_build.specs.Below.{LeavesStory, WentOn}
use Rattle.config_build.specs.Upgrading.{BringsUp, made_ready, story_at}
use Rattle.store_upgrade.specs.Faults.{is_the_disks}
use Rattle.store_upgrade.specs.Halfway.{IsAlong}
use Rattle.store_upgrade.specs.Upgraded.{IsUpgraded}
use Rattle.store_upgrade.specs.declared.fault.UpgradeFault.{UpgradeFault}
use Rattle.store_upgrade.specs.declared.fault.UpgradeFault.TheVariants as upgrade
use Rattle.multi_config.specs.Configs.{store_prefix}
use Rattle.multi_config.specs.Parts.{DidFolder, MakesReady, ready, store_folder}

-- a path of the folder is neither its own path nor above it
not_around : (folder path : List ℕ) → IsAround folder (inside folder path) → ⊥
not_around folder path (inl e) = let a = ap length e in let b = length-append folder (47 ∷ path) in absurd (omega (arith, a, b))
not_around folder path (inr under) =
    let a = ap length under.1 in
    let b = length-append folder (47 ∷ path) in
    let d = length-append (inside folder path) (47 ∷ under.0) in
    absurd (omega (arith, a, b, d))

prefix_of_folder : (mc path : List ℕ) → mc ≢ [] → store_prefix mc ++ path ≡ inside (store_folder mc) path
prefix_of_folder [] path some = absurd (some refl)
prefix_of_folder (c ∷ mc) path some = simp Rattle.std.proofs.Common.append_assoc

-- what is held in the folder stays
pub held_below : (mc : List ℕ) (held old new : Store) → MakesReady mc held old new → below (store_prefix mc) new ≡ below (store_prefix mc) old
held_below [] held old new e = ap (below []) e
held_below (c ∷ mc) held old new way = λ i path. at path i
  where
    some : (c ∷ mc) ≢ []
    some e = absurd cc

    at : (path : List ℕ) → new (store_prefix (c ∷ mc) ++ path) ≡ old (store_prefix (c ∷ mc) ++ path)
    at path =
        let is = prefix_of_folder (c ∷ mc) path some in
        subst (λ q. new q ≡ old q) (sym is) (way.others (inside (store_folder (c ∷ mc)) path) (not_around (store_folder (c ∷ mc)) path))

-- what holds of what each item gives
pub all_unmapped : {X Y : Type 0} (P : Y → Type 0) (f : X → Y) (xs : List X) → All P (map f xs) → All (λ x. P (f x)) xs
all_unmapped {X} {Y} P f xs all = All-from_recursion (λ x. P (f x)) xs (by xs (recursion_from_All P (map f xs) all))
  where
    by : (ys : List X) → AllByRecursion P (map f ys) → AllByRecursion (λ x. P (f x)) ys
    by [] h = tt
    by (y ∷ ys) h = (h.0, by ys h.1)

-- ---- counts of the folder's disk, and of the whole one

-- a fault of the folder's disk is one of the whole disk
pub disk_failed_so : (mine now start : ℕ) (bench sink : Type 0) (s : Status) → FaultsSince start now mine → MayEndSo mine bench sink s → s ≡ status.DiskFault → Rose start now
disk_failed_so mine now start bench sink s since ends e = since.rose (subst (MayEndSo mine bench sink) e ends)

-- where the whole disk didn't fail, the folder's didn't
pub faults_none : (mine now start : ℕ) → FaultsSince start now mine → (Rose start now → ⊥) → mine ≡ 0
faults_none zero now start since none = refl
faults_none (suc mine) now start since none = absurd (none (since.rose (omega arith)))

pub wider_disk : (mine now start : ℕ) (bench sink : Type 0) (s : Status) → FaultsSince start now mine → MayEndSo mine bench sink s → MayEndSo now bench sink s
wider_disk mine now start bench sink status.Ok since ends = ends
wider_disk mine now start bench sink status.TaskFailed since ends = ends
wider_disk mine now start bench sink status.Usage since ends = ends
wider_disk mine now start bench sink (status.Metadata file line kind detail) since ends = ends
wider_disk mine now start bench sink status.DiskFault since ends = let rose = since.rose ends in omega (arith, rose)
wider_disk mine now start bench sink status.BenchFault since ends = ends
wider_disk mine now start bench sink status.ReadFault since ends = ends
wider_disk mine now start bench sink status.WriteFault since ends = ends
wider_disk mine now start bench sink (status.Collision name held given) since ends = ends
wider_disk mine now start bench sink (status.Unsteady pn task held given) since ends = ends
wider_disk mine now start bench sink (status.Limit kind) since ends = ends
wider_disk mine now start bench sink status.OutOfMemory since ends = ends
wider_disk mine now start bench sink status.MirrorFault since ends = ends

pub went_on : (prefix : List ℕ) (start now sub : Story) (P : Story → Type 0) → GoesOn prefix start now sub → P sub → WentOn prefix start now P
went_on prefix start now sub P goes kept = record { sub = sub; goes_on = goes; kept = kept }

-- what a run left of the story of its folder's disk is what it leaves of such a story
pub leaves_story : {B : Type 0} (disk bench : Type 0) (gives_of : B → Gives) (items : List B) (plan : Plan) (options : Options) (tale : List Logged) (s : Status) (own made sub : Story) (before now : List Runs) → own ≡ made
    → (bench → (gives : Gives) → All (λ b. gives_of b ≡ gives) items → (reading : Reading) (book : Book) → IsEntry gives reading book own.held plan → Leaves gives reading book own.held plan options tale s sub before now) → TellsDifference disk plan sub s
    → LeavesStory disk bench (map gives_of items) plan options tale s made.held before now sub
leaves_story disk bench gives_of items plan options tale s own made sub before now same leaves differs = record {
  leaves = λ b gives all reading book entry.
      subst (λ (x : Story). Leaves gives reading book x.held plan options tale s sub before now) same
      (leaves b gives (all_unmapped (λ (x : Gives). x ≡ gives) gives_of items all) reading book (subst (λ (x : Story). IsEntry gives reading book x.held plan) (sym same) entry));
  differs = differs;
}

-- ---- ready folders

pub prefix_folder : (mc : List ℕ) → mc ≢ [] → store_prefix mc ≡ inside (store_folder mc) []
prefix_folder [] some = absurd (some refl)
prefix_folder (c ∷ mc) some = refl

pub ok_more : {T E : Type 0} (r : Result T E) (P Q : Type 0) → (P → Q) → OnOk r P → OnOk r Q
ok_more (Ok x) P Q f h = f h
ok_more (Err e) P Q f h = tt

pub empty_of : (name : List ℕ) (b : Bool) → b ≡ (length name == 0) → b ≡ true → name ≡ []
empty_of [] b is e = refl
empty_of (c ∷ name) b is e = absurd (let h : length (c ∷ name) ≡ 0 = (Decides-eqb (length (c ∷ name)) 0).0 (sym is ∙ e) in omega (arith, h))

pub failed_rose : (fault : DiskFault) (old new : ℕ) → Counts old new (disk_failed {T = Unit {0}} (Err fault)) → is_disk_fault (of_disk fault) ≡ true → 0 < new
failed_rose disk.Failed old new counts e = let rose = counts.rose in omega (arith, rose)
failed_rose disk.Memory old new counts e = absurd cc

-- where the disk was made ready, the folder holds what it held
pub ready_holds : (mc prefix : List ℕ) (before start : Story) → prefix ≡ store_prefix mc → Passes before start (MakesReady mc before.held) → below prefix start.held ≡ below (store_prefix mc) before.held
ready_holds mc prefix before start is way = ap (λ p. below p start.held) is ∙ held_below mc before.held before.held start.held way.held

-- the whole disk goes on from where it was made ready
pub did_folder : (disk bench : Type 0) (given : List Gives) (plan : Plan) (options : Options) (mc prefix : List ℕ) (tale : List Logged) (s : Status) (before start now : Story) (runs runs_now : List Runs) → prefix ≡ store_prefix mc → Passes before start (MakesReady mc before.held) → IsSettledWhole start
    → WentOn prefix start now (LeavesStory disk bench given plan options tale s (below prefix start.held) runs runs_now) → DidFolder mc tale s before now (LeavesStory disk bench given plan options tale s (below (store_prefix mc) before.held) runs runs_now)
did_folder disk bench given plan options mc prefix tale s before start now runs runs_now is way settled went =
    ready start went.sub way settled (held_below mc before.held before.held start.held way.held) (subst (λ (p : List ℕ). GoesOn p start now went.sub) is went.goes_on)
    (subst (λ (h : Store). LeavesStory disk bench given plan options tale s h runs runs_now went.sub) (ready_holds mc prefix before start is way) went.kept)

-- ---- bringing a store up

-- what is counted over the folder's disk, which began with no fault, is so of the whole one
pub counts_so : (start now old mine : ℕ) (failed : Bool) → old ≡ 0 → Counts old mine failed → FaultsSince start now mine → Counts start now failed
counts_so start now old mine true none counts since = record { later = since.later; rose = since.rose (let rose = counts.rose in omega (arith, none, rose)); stayed = tt }
counts_so start now old mine false none counts since = record { later = since.later; rose = tt; stayed = since.stayed (counts.stayed ∙ none) }

-- what is counted behind a call that was well is so from before it
pub counts_after : (before start now : ℕ) (failed : Bool) → Counts before start false → Counts start now failed → Counts before now failed
counts_after before start now true well counts = record { later = let a = well.stayed in let b = counts.later in omega (arith, a, b); rose = let a = well.stayed in let b = counts.rose in omega (arith, a, b); stayed = tt }
counts_after before start now false well counts = record { later = let a = well.stayed in let b = counts.later in omega (arith, a, b); rose = tt; stayed = counts.stayed ∙ well.stayed }

-- a fault of the disk is one of an upgrade
pub disk_fault_same : (T : Type 0) (before now : ℕ) (f : DiskFault) → Counts before now (disk_failed {T = T} (Err f)) → Counts before now (is_the_disks (upgrade.Disk f))
disk_fault_same T before now disk.Failed counts = counts
disk_fault_same T before now disk.Memory counts = counts

-- what an upgrade left of the story of its folder's disk is what is left of the disk
pub brings_up : (mc prefix : List ℕ) (before start now : Story) → prefix ≡ store_prefix mc → Passes before start (MakesReady mc before.held) → IsSettledWhole start
    → WentOn prefix start now (λ sub. Passes (story_at prefix start) sub (λ earlier image. IsAlong (below prefix start.held) image)) → BringsUp mc before now
brings_up mc prefix before start now is way settled went =
    made_ready start went.sub way settled (held_below mc before.held before.held start.held way.held) (subst (λ (p : List ℕ). GoesOn p start now went.sub) is went.goes_on)
    (subst (λ (h : Store). Passes (story_at (store_prefix mc) start) went.sub (λ earlier image. IsAlong h image)) (ready_holds mc prefix before start is way)
    (subst (λ (p : List ℕ). Passes (story_at p start) went.sub (λ earlier image. IsAlong (below prefix start.held) image)) is went.kept))

-- what an upgrade left of the folder's disk is what it left of what is held in the folder
pub upgraded_below : {T : Type 0} (done : Result T UpgradeFault) (old held new now : Store) → old ≡ held → now ≡ new → OnOk done (IsUpgraded old new) → OnOk done (IsUpgraded held now)
upgraded_below done old held new now before behind is = subst (λ (h : Store). OnOk done (IsUpgraded h now)) before (subst (λ (n : Store). OnOk done (IsUpgraded old n)) (sym behind) is)

pub along_below : (own start sub : Story) → own ≡ start → Passes own sub (λ earlier image. IsAlong own.held image) → Passes start sub (λ earlier image. IsAlong start.held image)
along_below own start sub same passes = subst (λ (s : Story). Passes s sub (λ earlier image. IsAlong s.held image)) same passes
