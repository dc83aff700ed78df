use Rattle.std.proofs.Common.{◌∙◌, sym, ap, subst, inl, ◌∷◌, [], ℕ, List, map, vec_len}
use Rattle.meta_model.specs.declared.plan.Plan.{Plan}
use Rattle.run_model.specs.Runs.{Runs}
use Rattle.run_model.specs.Benches.{AtSeats, BreaksByFault}
use Rattle.run_model.specs.Build.{RanPrinted, TellsDifference}
use Rattle.run_model.specs.Seated.{HaveBenches}
use Rattle.build_resume.proofs.Statuses.{wider_cause}
use Rattle.bitbake_top.proofs.Begun.{all_of_one, certain_ample, certain_apart}
use Rattle.bitbake_top.proofs.Devices.{none_rose, rose_from}
use Rattle.bitbake_top.proofs.Kept.{as_entry, begun_each, begun_keeps, one_behind}
use Rattle.bitbake_top.proofs.Written.{begun_text, printed_one}
use Rattle.bitbake_top.proofs.whole.run_ready.Goals as goal

pub returns-clause-keeps : goal.returns-clause-keeps
returns-clause-keeps g c d b gives all reading book may =
    let plan = c.args.plan in
    let tale = c.build-plan.result.tale.items in
    let held = (g.D.Disk.story c.args.disk).held in
    begun_keeps gives reading book held plan c.args.options c.push_reserved-2.new.self.items tale c.build-plan.result.status (g.D.Disk.story c.build-plan.result.disk) _ _
    (one_behind c.args.room.tales.items c.push_reserved-2.new.self.items c.from_vec.result c.requires.none.1 c.push_reserved-2.ensures.items ∙ ap (λ t. t ∷ []) c.from_vec.ensures)
    (c.build-plan.ensures.leaves d b gives all reading book (as_entry gives reading book held plan c.requires.sound c.requires.spellings may))

pub returns-clause-exactly : goal.returns-clause-exactly
returns-clause-exactly g c d b gives all reading book may wanted disk benches sink certain =
    let entry = as_entry gives reading book (g.D.Disk.story c.args.disk).held c.args.plan c.requires.sound c.requires.spellings may in
    c.build-plan.ensures.exactly d b gives all reading book entry wanted disk
    (none_rose (map g.B.Bench.faults c.args.benches.items) (map g.B.Bench.faults c.build-plan.result.benches.items) benches)
    sink (certain_ample c.build-plan.result.status certain) (certain_apart c.build-plan.result.status certain)

pub returns-clause-begun : goal.returns-clause-begun
returns-clause-begun g c = record {
  plan = c.args.plan;
  tale = c.build-plan.result.tale.items;
  plans_are = one_behind c.args.room.plans.items c.push_reserved.new.self.items c.build-plan.result.plan c.requires.none.0 c.push_reserved.ensures.items ∙ ap (λ p. p ∷ []) c.build-plan.ensures.plan;
  tales_are = one_behind c.args.room.tales.items c.push_reserved-2.new.self.items c.from_vec.result c.requires.none.1 c.push_reserved-2.ensures.items ∙ ap (λ t. t ∷ []) c.from_vec.ensures;
  ends = c.build-plan.ensures.told;
  seated = c.build-plan.ensures.seated;
}

pub returns-clause-benches : goal.returns-clause-benches
returns-clause-benches g c =
    let long = c.args.benches.ok.0 in
    begun_each (HaveBenches (vec_len c.args.benches)) c.push_reserved-2.new.self.items c.build-plan.result.tale.items
    (one_behind c.args.room.tales.items c.push_reserved-2.new.self.items c.from_vec.result c.requires.none.1 c.push_reserved-2.ensures.items ∙ ap (λ t. t ∷ []) c.from_vec.ensures)
    (subst (λ n. HaveBenches n c.build-plan.result.tale.items) (sym long) c.build-plan.ensures.benches)

pub returns-clause-broke : goal.returns-clause-broke
returns-clause-broke g c =
    begun_each (λ tale. AtSeats (BreaksByFault tale) (map g.B.Bench.faults c.args.benches.items) (map g.B.Bench.faults c.build-plan.result.benches.items)) c.push_reserved-2.new.self.items c.build-plan.result.tale.items
    (one_behind c.args.room.tales.items c.push_reserved-2.new.self.items c.from_vec.result c.requires.none.1 c.push_reserved-2.ensures.items ∙ ap (λ t. t ∷ []) c.from_vec.ensures) c.build-plan.ensures.broke

pub returns-clause-text : goal.returns-clause-text
returns-clause-text g c told base before lt said =
    begun_text base (g.W.Sink.written c.args.sink) (g.W.Sink.written c.build-plan.result.sink) before (g.W.Sink.faults c.args.sink) (g.W.Sink.faults c.build-plan.result.sink) c.args.plan c.push_reserved.new.self.items c.build-plan.result.tale.items c.push_reserved-2.new.self.items c.build-plan.result.status
    (one_behind c.args.room.plans.items c.push_reserved.new.self.items c.build-plan.result.plan c.requires.none.0 c.push_reserved.ensures.items ∙ ap (λ p. p ∷ []) c.build-plan.ensures.plan)
    (one_behind c.args.room.tales.items c.push_reserved-2.new.self.items c.from_vec.result c.requires.none.1 c.push_reserved-2.ensures.items ∙ ap (λ t. t ∷ []) c.from_vec.ensures)
    lt said (c.build-plan.ensures.text told)

pub returns-clause-printed : goal.returns-clause-printed
returns-clause-printed g c told b base said =
    let plan = c.args.plan in
    let tale = c.build-plan.result.tale.items in
    let before : List Runs = map (λ x. (g.B.Bench.place x).runs) c.args.benches.items in
    let after : List Runs = map (λ x. (g.B.Bench.place x).runs) c.build-plan.result.benches.items in
    let now = g.W.Sink.written c.build-plan.result.sink in
    printed_one base now plan c.push_reserved.new.self.items tale c.push_reserved-2.new.self.items before after
    (one_behind c.args.room.plans.items c.push_reserved.new.self.items c.build-plan.result.plan c.requires.none.0 c.push_reserved.ensures.items ∙ ap (λ p. p ∷ []) c.build-plan.ensures.plan)
    (one_behind c.args.room.tales.items c.push_reserved-2.new.self.items c.from_vec.result c.requires.none.1 c.push_reserved-2.ensures.items ∙ ap (λ t. t ∷ []) c.from_vec.ensures)
    (subst (λ (m : List ℕ). RanPrinted plan tale before after m now) said (c.build-plan.ensures.printed told b))

pub returns-clause-causes : goal.returns-clause-causes
returns-clause-causes g c before lt =
    wider_cause (g.D.Disk.faults c.build-plan.result.disk) _ _ _ _ c.build-plan.result.status (λ rose. rose)
    (rose_from before (g.W.Sink.faults c.args.sink) (g.W.Sink.faults c.build-plan.result.sink) lt) c.build-plan.ensures.ends

pub returns-clause-differs : goal.returns-clause-differs
returns-clause-differs g c =
    all_of_one (Unit {0}) (λ (p : Plan). TellsDifference g.D.Disk.tells p (g.D.Disk.story c.build-plan.result.disk) c.build-plan.result.status) c.args.plan c.push_reserved.new.self.items
    (inl (one_behind c.args.room.plans.items c.push_reserved.new.self.items c.build-plan.result.plan c.requires.none.0 c.push_reserved.ensures.items ∙ ap (λ p. p ∷ []) c.build-plan.ensures.plan))
    c.build-plan.ensures.differs
