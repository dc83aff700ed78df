use Rattle.std.proofs.Common.{Bool, IfErr, subst}
use Rattle.std.specs.Prelude.{MatchBool}
use Rattle.meta_model.specs.CleanBuild.{Gives}
use Rattle.outside_traits.specs.Store.{Store}
use Rattle.outside_traits.proofs.Calls.{then_same}
use Rattle.store_model.specs.Origins.{Book, Reading}
use Rattle.store_move.specs.Stores.{IsDone}
use Rattle.store_upgrade.specs.Faults.{IsCauseOf}
use Rattle.store_upgrade.specs.Halfway.{HoldsBoth}
use Rattle.store_upgrade.proofs.Along.{along_clears, along_moves, along_same}
use Rattle.store_upgrade.proofs.moving.upgrade.Goals as goal

pub returns-in_err-is_done-clause-images : goal.returns-in_err-is_done-clause-images
returns-in_err-is_done-clause-images g c told = along_same (g.D.Disk.story c.args.disk.now) (g.D.Disk.story c.is_done.new.disk) (g.met.D.Disk.sound c.args.disk.now told) (c.requires.fresh told) (c.is_done.ensures.others told)

pub returns-in_err-remove_old-clause-images : goal.returns-in_err-remove_old-clause-images
returns-in_err-remove_old-clause-images g c told =
    along_clears (g.D.Disk.story c.args.disk.now) (g.D.Disk.story c.is_done.new.disk) (g.D.Disk.story c.remove_old.new.disk) (g.met.D.Disk.sound c.args.disk.now told)
    (c.requires.fresh told)
    (subst (λ (b : Bool). MatchBool b (IsDone (g.D.Disk.story c.args.disk.now).held) (IsDone (g.D.Disk.story c.args.disk.now).held → ⊥)) c.if-branch.true
    (c.in_ok-is_done.ensures.done told))
    (c.is_done.ensures.others told) (c.remove_old.ensures.within told)

pub returns-in_err-sync-clause-images : goal.returns-in_err-sync-clause-images
returns-in_err-sync-clause-images g c told =
    then_same
    (along_clears (g.D.Disk.story c.args.disk.now) (g.D.Disk.story c.is_done.new.disk) (g.D.Disk.story c.remove_old.new.disk) (g.met.D.Disk.sound c.args.disk.now told)
    (c.requires.fresh told)
    (subst (λ (b : Bool). MatchBool b (IsDone (g.D.Disk.story c.args.disk.now).held) (IsDone (g.D.Disk.story c.args.disk.now).held → ⊥)) c.if-branch.true
    (c.in_ok-is_done.ensures.done told))
    (c.is_done.ensures.others told) (c.remove_old.ensures.within told))
    (c.sync.ensures.same told)

pub returns-then-branch-clause-images : goal.returns-then-branch-clause-images
returns-then-branch-clause-images g c told =
    then_same
    (along_clears (g.D.Disk.story c.args.disk.now) (g.D.Disk.story c.is_done.new.disk) (g.D.Disk.story c.remove_old.new.disk) (g.met.D.Disk.sound c.args.disk.now told)
    (c.requires.fresh told)
    (subst (λ (b : Bool). MatchBool b (IsDone (g.D.Disk.story c.args.disk.now).held) (IsDone (g.D.Disk.story c.args.disk.now).held → ⊥)) c.if-branch.true
    (c.in_ok-is_done.ensures.done told))
    (c.is_done.ensures.others told) (c.remove_old.ensures.within told))
    (c.sync.ensures.same told)

pub returns-clause-images : goal.returns-clause-images
returns-clause-images g c told =
    along_moves (g.D.Disk.story c.args.disk.now) (g.D.Disk.story c.is_done.new.disk) (g.D.Disk.story c.move_store.new.disk) (g.met.D.Disk.sound c.args.disk.now told)
    (c.requires.fresh told)
    (subst (λ (b : Bool). MatchBool b (IsDone (g.D.Disk.story c.args.disk.now).held) (IsDone (g.D.Disk.story c.args.disk.now).held → ⊥)) c.if-branch.false
    (c.in_ok-is_done.ensures.done told))
    (c.is_done.ensures.others told) (c.move_store.ensures.images told)

pub returns-clause-clash : goal.returns-clause-clash
returns-clause-clash g c told = subst (λ (h : Store). IfErr c.move_store.result (λ fault. (gives : Gives) → (reading : Reading) → (book : Book) → (start : Book) → HoldsBoth gives reading h book start → IsCauseOf fault)) (c.is_done.ensures.others told).held (c.move_store.ensures.clash told)
