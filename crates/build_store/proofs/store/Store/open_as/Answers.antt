use Rattle.std.proofs.Common.{◌≢◌, refl, subst, inr, List}
use Rattle.outside_traits.specs.Passes.{Same}
use Rattle.outside_traits.proofs.Runs.{passes_none}
use Rattle.store_model.specs.Available.{task_folder}
use Rattle.store_model.specs.Spelling.{name_of}
use Rattle.store_model.proofs.Ordered.{each_weaker}
use Rattle.build_store.specs.declared.pieces.OpenPublication.{OpenPublication}
use Rattle.build_store.specs.Openings.{OpensOne, open_view}
use Rattle.build_store.specs.Publication.{first_publication}
use Rattle.build_store.specs.View.{open_in, signed_as}
use Rattle.build_store.proofs.Beside.{IsFreeOf, free_by}
use Rattle.build_store.proofs.Opened.{none_named}
use Rattle.build_store.proofs.Several.{view_others}
use Rattle.build_store.proofs.GoingRuns.{publishing_same}
use Rattle.build_store.proofs.KnownKeys.{agrees_known, new_known, row_known, view_known}
use Rattle.build_store.proofs.Shared.{named_as}
use Rattle.build_store.proofs.store.Store.open_as.Goals as goal

pub returns-in_err-draft-clause-publishing : goal.returns-in_err-draft-clause-publishing
returns-in_err-draft-clause-publishing g c told = rw (← c.self.view_is) (publishing_same (first_publication c.self.inside.keys c.self.inside.index (signed_as c.args.shared c.args.task.now c.args.sig.now) c.args.tree) (passes_none (g.D.Disk.story c.self.inside.disk) Same (λ i. refl)))

pub returns-in-None-clause-publishing : goal.returns-in-None-clause-publishing
returns-in-None-clause-publishing g c told = rw (← c.self.view_is) (publishing_same (first_publication c.self.inside.keys c.self.inside.index (signed_as c.args.shared c.args.task.now c.args.sig.now) c.args.tree) (passes_none (g.D.Disk.story c.self.inside.disk) Same (λ i. refl)))

pub returns-in-Ok-clause-opens : goal.returns-in-Ok-clause-opens
returns-in-Ok-clause-opens g c =
    let s = signed_as c.args.shared c.args.task.now c.args.sig.now in
    rw (← c.self.view_is) (record {
      opened = subst (λ (l : List OpenPublication). OpensOne (task_folder c.args.task.now) (open_view s c.args.tree) (open_in l) (open_in c.open_with_key-done.new.open_ones.items)) c.prepare.ensures.listed c.in-Ok.ensures.opens;
      kept = rw c.in-Some.is at c.in_ok-draft.ensures.kept;
      faultless = refl;
      agrees = c.in-Ok.ensures.agrees;
      readable = c.in-Ok.ensures.readable;
      keys = c.in-Ok.ensures.keys;
      one_key = λ row has. agrees_known c.self.inside.keys c.args.sig.now row.sig c.in_ok-draft.ensures.one_key (row_known c.self.inside.keys c.self.inside.index row c.self.invariant.5 has);
      beside = λ folder one at. agrees_known c.self.inside.keys c.args.sig.now one.sig c.in_ok-draft.ensures.one_key (view_known c.self.inside.keys c.self.inside.open_ones.items folder one c.self.invariant.6 at);
    })

pub returns-in-Ok-clause-apart : goal.returns-in-Ok-clause-apart
returns-in-Ok-clause-apart g c =
    let s = signed_as c.args.shared c.args.task.now c.args.sig.now in
    let rows = c.self.inside.index in
    let xs = c.self.inside.open_ones.items in
    let closed = rw (← c.self.view_is) at c.requires.closed in
    let draft = rw c.in-Some.is at c.in_ok-draft.ensures.draft in
    let apart = rw c.in-Some.is at c.in_ok-draft.ensures.apart in
    let free = free_by rows s c.args.tree c.in-Some.draft.name (draft c.args.tree c.requires.listed).name xs (view_others (task_folder c.args.task.now) xs closed) (apart c.args.tree c.requires.listed) in
    inr (rw (← c.self.view_is) (none_named (name_of c.args.sig.now) xs (each_weaker (IsFreeOf rows s c.args.tree) (λ (one : OpenPublication). one.name ≢ name_of c.args.sig.now) (λ one is. is.1) xs free)))

pub returns-in-Err-clause-apart : goal.returns-in-Err-clause-apart
returns-in-Err-clause-apart g c =
    let s = signed_as c.args.shared c.args.task.now c.args.sig.now in
    let rows = c.self.inside.index in
    let xs = c.self.inside.open_ones.items in
    let closed = rw (← c.self.view_is) at c.requires.closed in
    let draft = rw c.in-Some.is at c.in_ok-draft.ensures.draft in
    let apart = rw c.in-Some.is at c.in_ok-draft.ensures.apart in
    let free = free_by rows s c.args.tree c.in-Some.draft.name (draft c.args.tree c.requires.listed).name xs (view_others (task_folder c.args.task.now) xs closed) (apart c.args.tree c.requires.listed) in
    inr (rw (← c.self.view_is) (none_named (name_of c.args.sig.now) xs (each_weaker (IsFreeOf rows s c.args.tree) (λ (one : OpenPublication). one.name ≢ name_of c.args.sig.now) (λ one is. is.1) xs free)))

pub returns-then-not-self-clause-new_key : goal.returns-then-not-self-clause-new_key
returns-then-not-self-clause-new_key g c = rw (← c.self.view_is) (new_known c.self.inside.keys c.args.sig.now c.self.inside.index c.self.inside.open_ones.items c.self.invariant.5 c.self.invariant.6)

pub returns-in_err-draft-clause-new_key : goal.returns-in_err-draft-clause-new_key
returns-in_err-draft-clause-new_key g c = rw (← c.self.view_is) (new_known c.self.inside.keys c.args.sig.now c.self.inside.index c.self.inside.open_ones.items c.self.invariant.5 c.self.invariant.6)

pub returns-in-None-clause-new_key : goal.returns-in-None-clause-new_key
returns-in-None-clause-new_key g c = rw (← c.self.view_is) (new_known c.self.inside.keys c.args.sig.now c.self.inside.index c.self.inside.open_ones.items c.self.invariant.5 c.self.invariant.6)

pub returns-in-Ok-clause-new_key : goal.returns-in-Ok-clause-new_key
returns-in-Ok-clause-new_key g c = rw (← c.self.view_is) (new_known c.self.inside.keys c.args.sig.now c.self.inside.index c.self.inside.open_ones.items c.self.invariant.5 c.self.invariant.6)

pub returns-in-Err-clause-new_key : goal.returns-in-Err-clause-new_key
returns-in-Err-clause-new_key g c = rw (← c.self.view_is) (new_known c.self.inside.keys c.args.sig.now c.self.inside.index c.self.inside.open_ones.items c.self.invariant.5 c.self.invariant.6)

pub open_with_key-done-requires-clause-named : goal.open_with_key-done-requires-clause-named
open_with_key-done-requires-clause-named g c = named_as c.args.shared c.args.task.now c.args.sig.now c.requires.named
