use Rattle.std.proofs.Common.{sym, subst, List, ℕ, [], ◌∷◌}
use Rattle.store_model.specs.Available.{task_folder}
use Rattle.store_opening.proofs.Clean.{folder_slashes}
use Rattle.build_store.specs.declared.pieces.OpenPublication.{OpenPublication}
use Rattle.build_store.specs.Openings.{OpensOne, open_view}
use Rattle.store_model.proofs.Ordered.{each_append}
use Rattle.build_store.specs.Keys.{KnowsKeyOf}
use Rattle.build_store.specs.Standing.{AreOn, AreOpen, IsTidy, KnowsOpen}
use Rattle.build_store.specs.View.{open_in, signed_as}
use Rattle.build_store.proofs.Beside.{free_by, others_stand}
use Rattle.build_store.proofs.Opened.{on_opened, opens_one, stand_opened, tidy_beside}
use Rattle.build_store.proofs.Several.{view_others}
use Rattle.build_store.proofs.tasks.open_beside.Goals as goal

pub open_task-requires-clause-settled : goal.open_task-requires-clause-settled
open_task-requires-clause-settled g c told = (c.requires.tidy told).settled (task_folder c.args.task.now) (folder_slashes c.args.task.now c.requires.place) c.requires.closed

pub returns-in_err-one-clause-on : goal.returns-in_err-one-clause-on
returns-in_err-one-clause-on g c told =
    let s = signed_as c.args.shared c.args.task.now c.args.sig.now in
    let rows = c.args.index.now in
    let xs = c.args.open_ones.now.items in
    let free = free_by rows s c.args.tree c.args.draft.name c.requires.draft.name xs (view_others (task_folder c.args.task.now) xs c.requires.closed) c.requires.apart in
    others_stand rows s c.args.tree c.requires.rows (folder_slashes c.args.task.now c.requires.place) (g.D.Disk.story c.args.disk.now) (g.D.Disk.story c.open_task.new.disk) (g.met.D.Disk.sound c.args.disk.now told) (c.open_task.ensures.publishing told) xs free (c.requires.on told)

pub returns-clause-opens : goal.returns-clause-opens
returns-clause-opens g c =
    let s = signed_as c.args.shared c.args.task.now c.args.sig.now in
    let xs = c.args.open_ones.now.items in
    subst (λ (l : List OpenPublication). OpensOne (task_folder c.args.task.now) (open_view s c.args.tree) (open_in xs) (open_in l)) (sym c.push_reserved.ensures.items)
    (opens_one c.args.index.now s c.args.tree xs c.in_ok-one.one c.in_ok-one.ensures.of c.requires.closed)

pub returns-clause-agrees : goal.returns-clause-agrees
returns-clause-agrees g c = c.requires.draft.agrees

pub returns-clause-stand : goal.returns-clause-stand
returns-clause-stand g c =
    let s = signed_as c.args.shared c.args.task.now c.args.sig.now in
    let rows = c.args.index.now in
    let xs = c.args.open_ones.now.items in
    let free = free_by rows s c.args.tree c.args.draft.name c.requires.draft.name xs (view_others (task_folder c.args.task.now) xs c.requires.closed) c.requires.apart in
    subst (AreOpen rows) (sym c.push_reserved.ensures.items) (stand_opened rows s c.args.tree xs c.in_ok-one.one c.in_ok-one.ensures.of free c.requires.named c.requires.stand)

pub returns-clause-on : goal.returns-clause-on
returns-clause-on g c told =
    let s = signed_as c.args.shared c.args.task.now c.args.sig.now in
    let rows = c.args.index.now in
    let xs = c.args.open_ones.now.items in
    let free = free_by rows s c.args.tree c.args.draft.name c.requires.draft.name xs (view_others (task_folder c.args.task.now) xs c.requires.closed) c.requires.apart in
    subst (AreOn rows (g.D.Disk.story c.open_task.new.disk)) (sym c.push_reserved.ensures.items)
    (on_opened rows s c.args.tree xs c.in_ok-one.one c.in_ok-one.ensures.of free c.requires.rows (folder_slashes c.args.task.now c.requires.place) c.requires.named (g.D.Disk.story c.args.disk.now) (g.D.Disk.story c.open_task.new.disk)
    (g.met.D.Disk.sound c.args.disk.now told) (c.open_task.ensures.publishing told) (c.in_ok-one.ensures.opened told) (c.requires.on told))

pub returns-clause-tidy : goal.returns-clause-tidy
returns-clause-tidy g c told =
    let s = signed_as c.args.shared c.args.task.now c.args.sig.now in
    let xs = c.args.open_ones.now.items in
    subst (λ (l : List OpenPublication). IsTidy l (g.D.Disk.story c.open_task.new.disk)) (sym c.push_reserved.ensures.items)
    (tidy_beside c.args.index.now s c.args.tree xs c.in_ok-one.one c.in_ok-one.ensures.of (g.D.Disk.story c.args.disk.now) (g.D.Disk.story c.open_task.new.disk) (c.in_ok-one.ensures.swept told) (c.open_task.ensures.publishing told) (c.requires.tidy told))

pub returns-clause-known : goal.returns-clause-known
returns-clause-known g c = λ keys all own.
    let xs = c.args.open_ones.now.items in
    let one = c.in_ok-one.one in
    let its : KnowsKeyOf keys one.sig = subst (λ (t : List ℕ). KnowsKeyOf keys t) (sym c.in_ok-one.ensures.of.sig) own in
    subst (λ (l : List OpenPublication). KnowsOpen keys l) (sym c.push_reserved.ensures.items) (each_append (λ (x : OpenPublication). KnowsKeyOf keys x.sig) xs (one ∷ []) all (its, tt))
