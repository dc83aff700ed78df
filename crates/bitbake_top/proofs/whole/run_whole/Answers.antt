use Rattle.std.proofs.Common.{◌≡◌, ◌∙◌, inl, refl, subst, ℕ, List}
use Rattle.meta_model.specs.declared.event.Status.TheVariants as status
use Rattle.meta_model.specs.declared.plan.Plan.{Plan}
use Rattle.run_model.specs.Build.{TellsDifference}
use Rattle.build_resume.proofs.Statuses.{nothing_differs}
use Rattle.bitbake_top.proofs.Begun.{all_of_none, all_of_one, refused_not_ok, refused_steady}
use Rattle.bitbake_top.proofs.Devices.{rose_from}
use Rattle.bitbake_top.proofs.Kept.{one_behind, unbegun_benches, unbegun_broke, unbegun_keeps}
use Rattle.bitbake_top.proofs.Written.{plan_front}
use Rattle.run_model.specs.Written.{WritesFront}
use Rattle.bitbake_top.proofs.whole.run_whole.Goals as goal

pub returns-clause-keeps : goal.returns-clause-keeps
returns-clause-keeps g c d b gives all reading book may =
    let story = g.D.Disk.story c.args.disk in
    unbegun_keeps gives reading book c.args.plan c.args.options c.new-in-Err.result.items c.refuse.result story story _ _ (c.requires.fresh d) may
    (refused_not_ok status.OutOfMemory c.refuse.result refl c.refuse.ensures.status) (refused_steady status.OutOfMemory c.refuse.result refl c.refuse.ensures.status) c.new-in-Err.ensures.items refl refl

pub returns-in-Ok-write_all-clause-exactly : goal.returns-in-Ok-write_all-clause-exactly
returns-in-Ok-write_all-clause-exactly g c d b gives all reading book may wanted disk benches sink certain =
    c.run_ready.ensures.exactly d b gives all reading book may wanted disk benches (λ rose. sink (rose_from _ _ _ c.in-Ok-write_all.ensures.cause.later rose)) certain

pub returns-in-Ok-clause-keeps : goal.returns-in-Ok-clause-keeps
returns-in-Ok-clause-keeps g c d b gives all reading book may =
    let story = g.D.Disk.story c.args.disk in
    unbegun_keeps gives reading book c.args.plan c.args.options c.in-Ok.field-0.room.tales.items status.WriteFault story story _ _ (c.requires.fresh d) may
    (λ e. let h : status.WriteFault ≡ status.Ok = e in cc) refl c.in-Ok.ensures.none.1 refl refl

pub returns-in-Ok-clause-text : goal.returns-in-Ok-clause-text
returns-in-Ok-clause-text g c told =
    plan_front (g.W.Sink.written c.args.sink) (g.W.Sink.written c.write_all.new.sink) _ c.args.plan c.push_reserved.new.self.items c.in-Ok.field-0.room.tales.items status.WriteFault
    (one_behind c.in-Ok.field-0.room.plans.items c.push_reserved.new.self.items c.args.plan c.in-Ok.ensures.none.0 c.push_reserved.ensures.items) c.in-Ok.ensures.none.1 c.in-Err-write_all.ensures.cause.rose
    (subst (λ (t : List ℕ). WritesFront (g.W.Sink.written c.args.sink) (g.W.Sink.written c.write_all.new.sink) t) (c.as_bytes.ensures.value ∙ c.as_str.ensures ∙ c.in-Ok.ensures.text) (c.in-Err-write_all.ensures.err told))

pub returns-in-Ok-clause-broke : goal.returns-in-Ok-clause-broke
returns-in-Ok-clause-broke g c = unbegun_broke c.in-Ok.field-0.room.tales.items _ _ c.in-Ok.ensures.none.1

pub returns-in-Ok-clause-benches : goal.returns-in-Ok-clause-benches
returns-in-Ok-clause-benches g c = unbegun_benches _ c.in-Ok.field-0.room.tales.items c.in-Ok.ensures.none.1

pub returns-clause-broke : goal.returns-clause-broke
returns-clause-broke g c = unbegun_broke c.new-in-Err.result.items _ _ c.new-in-Err.ensures.items

pub returns-clause-benches : goal.returns-clause-benches
returns-clause-benches g c = unbegun_benches _ c.new-in-Err.result.items c.new-in-Err.ensures.items

pub returns-in-Ok-clause-differs : goal.returns-in-Ok-clause-differs
returns-in-Ok-clause-differs g c =
    let story = g.D.Disk.story c.args.disk in
    all_of_one (Unit {0}) (λ (p : Plan). TellsDifference g.D.Disk.tells p story status.WriteFault) c.args.plan c.push_reserved.new.self.items
    (inl (one_behind c.in-Ok.field-0.room.plans.items c.push_reserved.new.self.items c.args.plan c.in-Ok.ensures.none.0 c.push_reserved.ensures.items))
    (nothing_differs g.D.Disk.tells c.args.plan story status.WriteFault tt)

pub returns-clause-differs : goal.returns-clause-differs
returns-clause-differs g c = all_of_none (λ (p : Plan). TellsDifference g.D.Disk.tells p (g.D.Disk.story c.args.disk) c.refuse.result) c.new.result.items c.new.ensures.items
