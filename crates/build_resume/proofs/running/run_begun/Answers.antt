use Rattle.std.proofs.Common.{◌≡◌, ◌≤◌, ◌∙◌, ◌+◌, ◌∷◌, [], sym, ap, subst, arith, ℕ, List, length, length-append, map, inl, inr}
use Rattle.std.proofs.lemmas.List.{length-map}
use Rattle.outside_traits.specs.Bench.{Gives}
use Rattle.outside_traits.specs.Fault.{Rose}
use Rattle.meta_model.specs.declared.plan.Plan.{Plan}
use Rattle.tale_model.specs.Fates.{NoneRuns, fates_told}
use Rattle.run_model.specs.Report.{tale_text}
use Rattle.run_queue.specs.Keeps.{Prints}
use Rattle.run_queue.proofs.Steady.{steady_none}
use Rattle.run_model.specs.Runs.{Runs}
use Rattle.run_model.specs.Benches.{AtSeats, BreaksByFault, SomeRose, broken_at, started_by}
use Rattle.run_model.specs.Seated.{HaveBenches}
use Rattle.build_resume.specs.Benches.{SomeBreak}
use Rattle.run_model.specs.Build.{RanJust, RanStarted, TellsDifference}
use Rattle.build_resume.specs.Build.{WritesReport}
use Rattle.build_resume.specs.Drive.{RanOn, RanSaid, SaidTo}
use Rattle.build_resume.proofs.Begun.{ends_still, kept_still}
use Rattle.build_resume.proofs.Benches.{at_seats, broke_before, broke_behind, broken_before, just_before, last_has, others_have, ran_before, ran_behind, rose_by, some_rose, workers_weaker}
use Rattle.build_resume.proofs.Printing.{said_first}
use Rattle.build_resume.proofs.Reports.{counts_first, prints_first}
use Rattle.build_resume.proofs.Statuses.{wider_cause}
use Rattle.build_resume.proofs.Working.{break_seat, have_benches, left_on, workers_grown}
use Rattle.build_resume.proofs.running.run_begun.Goals as goal

pub returns-clause-plan : goal.returns-clause-plan
returns-clause-plan g c = c.finish-plan.ensures.plan ∙ c.with_workers-state.ensures.same.plan

pub returns-clause-ends : goal.returns-clause-ends
returns-clause-ends g c = ends_still c.args.state c.with_workers-state.result.0 c.finish-plan.result.tale.items c.finish-plan.result.status c.with_workers-state.ensures.same c.finish-plan.ensures.ends

pub returns-clause-seated : goal.returns-clause-seated
returns-clause-seated g c =
    let mid = c.with_workers-state.result.0 in
    let went = c.finish-plan.ensures.went in record {
      front = mid.tale;
      back = went.more;
      cut = went.is;
      workers = c.with_workers-state.ensures.threads;
      rests = subst (λ (p : Plan). NoneRuns (fates_told (length p.tasks) mid.tale)) c.with_workers-state.ensures.same.plan c.with_workers-state.ensures.none;
      alone = went.alone.seats;
      left = left_on (length c.take_last-last.new.benches.items) mid.tale went.more c.finish-plan.result.tale.items went.is went.alone c.with_workers-state.ensures.wide c.with_workers-state.ensures.left went.left;
    }

pub returns-clause-benches : goal.returns-clause-benches
returns-clause-benches g c =
    let went = c.finish-plan.ensures.went in
    let rest = c.take_last-last.new.benches.items in
    let long : length c.args.benches.items ≡ length rest + 1 = ap length c.take_last-last.ensures.items ∙ length-append rest (c.take_last-last.result ∷ []) in
    subst (λ n. HaveBenches n c.finish-plan.result.tale.items) (sym long) (have_benches (length rest) c.with_workers-state.result.0.tale went.more c.finish-plan.result.tale.items went.is went.alone c.with_workers-state.ensures.wide)

pub returns-clause-text : goal.returns-clause-text
returns-clause-text g c heard =
    let state = c.args.state in
    let mid = c.with_workers-state.result.0 in
    let written : List ℕ = g.W.Sink.written state.sink in
    let first = prints_first state.plan state.tale written state.sink_failed c.requires.stands c.requires.none in
    let counts = counts_first (g.W.Sink.faults state.sink) state.sink_failed c.requires.stands in
    let same = c.with_workers-state.ensures.same.plan in
    let prints : Prints written (g.W.Sink.written mid.sink) (tale_text mid.plan.tasks mid.tale) mid.sink_failed =
    subst (λ (p : Plan). Prints written (g.W.Sink.written mid.sink) (tale_text p.tasks mid.tale) mid.sink_failed) (sym same) (c.with_workers-state.ensures.text heard written first) in
    subst (λ (p : Plan). WritesReport (Rose (g.W.Sink.faults state.sink) (g.W.Sink.faults c.finish-plan.result.sink)) written (g.W.Sink.written c.finish-plan.result.sink) p c.finish-plan.result.tale.items c.finish-plan.result.status) same
    (c.finish-plan.ensures.text heard written (g.W.Sink.faults state.sink) prints (c.with_workers-state.ensures.sink (g.W.Sink.faults state.sink) counts))

pub returns-clause-broke : goal.returns-clause-broke
returns-clause-broke g c =
    let tale = c.finish-plan.result.tale.items in
    let mid = c.with_workers-state.result.0.tale in
    let went = c.finish-plan.ensures.went in
    at_seats g.B.Bench.faults (BreaksByFault tale) c.args.benches.items c.push_reserved.new.self.items c.take_last-last.new.benches.items c.with_workers-state.result.1.items c.take_last-last.result c.finish-plan.new.last c.take_last-last.ensures.items c.push_reserved.ensures.items
    (workers_weaker (λ s a b. BreaksByFault mid s (g.B.Bench.faults a) (g.B.Bench.faults b)) (λ s a b. BreaksByFault tale s (g.B.Bench.faults a) (g.B.Bench.faults b)) c.take_last-last.new.benches.items c.with_workers-state.result.1.items
    (λ s a b other by. broke_before s (g.B.Bench.faults a) (g.B.Bench.faults b) mid tale went.more other went.is went.alone by) c.with_workers-state.ensures.broke)
    (broke_behind (g.B.Bench.faults c.take_last-last.result) (g.B.Bench.faults c.finish-plan.new.last) mid tale went.more c.with_workers-state.ensures.calm went.is went.breaks)

pub returns-clause-cause : goal.returns-clause-cause
returns-clause-cause g c =
    let state = c.args.state in
    let counts = counts_first (g.W.Sink.faults state.sink) state.sink_failed c.requires.stands in
    let rest = c.take_last-last.new.benches.items in
    let before : List ℕ = map g.B.Bench.faults c.args.benches.items in
    let now : List ℕ = map g.B.Bench.faults c.push_reserved.new.self.items in
    let tale = c.finish-plan.result.tale.items in
    let went = c.finish-plan.ensures.went in
    let by_seats : AtSeats (BreaksByFault tale) before now = returns-clause-broke g c in
    let long : length before ≡ length rest + 1 = length-map c.args.benches.items g.B.Bench.faults ∙ ap length c.take_last-last.ensures.items ∙ length-append rest (c.take_last-last.result ∷ []) in
    let broke : SomeBreak tale → SomeRose before now = λ b.
    let at = break_seat (length rest) c.with_workers-state.result.0.tale went.more tale went.is went.alone c.with_workers-state.ensures.wide b.0 b.1 in
    rose_by before now by_seats b.0 b.1 (omega (arith, at, long)) in
    let rose : Rose (g.B.Bench.faults c.take_last-last.result) (g.B.Bench.faults c.finish-plan.new.last) → SomeRose before now =
    some_rose c.args.benches.items c.push_reserved.new.self.items rest c.with_workers-state.result.1.items c.take_last-last.result c.finish-plan.new.last c.take_last-last.ensures.items c.push_reserved.ensures.items c.with_workers-state.ensures.broke.long g.B.Bench.faults in
    wider_cause (g.D.Disk.faults c.finish-plan.result.disk) _ _ _ _ c.finish-plan.result.status
    (λ bench. elim bench [
      | inl r ↦ rose r
      | inr b ↦ broke b
    ])
    (λ rose. rose) (c.finish-plan.ensures.cause (g.W.Sink.faults state.sink) (c.with_workers-state.ensures.sink (g.W.Sink.faults state.sink) counts))

pub returns-clause-differs : goal.returns-clause-differs
returns-clause-differs g c =
    subst (λ (p : Plan). TellsDifference g.D.Disk.tells p (g.D.Disk.story c.finish-plan.result.disk) c.finish-plan.result.status) c.with_workers-state.ensures.same.plan c.finish-plan.ensures.differs

pub returns-clause-run : goal.returns-clause-run
returns-clause-run g c tells told gives all o same run =
    let state = c.args.state in
    let tale = c.finish-plan.result.tale.items in
    let mid = c.with_workers-state.result.0 in
    let last = c.take_last-last.result in
    let went = c.finish-plan.ensures.went in
    let rest = others_have (λ b. g.B.Bench.gives b ≡ gives) c.args.benches.items c.take_last-last.new.benches.items last c.take_last-last.ensures.items all in
    let own : g.B.Bench.gives last ≡ gives = last_has (λ b. g.B.Bench.gives b ≡ gives) c.args.benches.items c.take_last-last.new.benches.items last c.take_last-last.ensures.items all in
    let workers = c.with_workers-state.ensures.run tells told gives rest o same run in
    let alone = c.finish-plan.ensures.run tells told o (same ∙ sym own) workers.0 in
    let ran : RanOn gives state.plan mid.tale tale (g.B.Bench.place last).runs (g.B.Bench.place c.finish-plan.new.last).runs =
    subst (λ (p : Plan). RanOn gives p mid.tale tale (g.B.Bench.place last).runs (g.B.Bench.place c.finish-plan.new.last).runs) c.with_workers-state.ensures.same.plan
    (subst (λ (x : Gives). RanOn x mid.plan mid.tale tale (g.B.Bench.place last).runs (g.B.Bench.place c.finish-plan.new.last).runs) own alone.1) in (
      kept_still o state mid tale c.finish-plan.result.status (g.D.Disk.story c.finish-plan.result.disk) c.with_workers-state.ensures.same alone.0,
      at_seats (λ b. (g.B.Bench.place b).runs) (RanStarted gives state.plan tale) c.args.benches.items c.push_reserved.new.self.items c.take_last-last.new.benches.items c.with_workers-state.result.1.items last c.finish-plan.new.last c.take_last-last.ensures.items c.push_reserved.ensures.items
          (workers_weaker (λ s a b. RanStarted gives state.plan mid.tale s (g.B.Bench.place a).runs (g.B.Bench.place b).runs) (λ s a b. RanStarted gives state.plan tale s (g.B.Bench.place a).runs (g.B.Bench.place b).runs) c.take_last-last.new.benches.items c.with_workers-state.result.1.items
          (λ s a b other r. ran_before gives state.plan s mid.tale tale went.more (g.B.Bench.place a).runs (g.B.Bench.place b).runs other went.is went.alone r) workers.1)
          (ran_behind gives state.plan mid.tale tale ran.more (g.B.Bench.place last).runs (g.B.Bench.place c.finish-plan.new.last).runs c.with_workers-state.ensures.seats ran.is ran.ran),
    )

pub returns-clause-printed : goal.returns-clause-printed
returns-clause-printed g c heard told =
    let state = c.args.state in
    let tale = c.finish-plan.result.tale.items in
    let mid = c.with_workers-state.result.0 in
    let last = c.take_last-last.result in
    let now = c.finish-plan.new.last in
    let base : List ℕ = g.W.Sink.written state.sink in
    let plan = c.with_workers-state.ensures.same.plan in
    let runs : g.row.B.Denot → Runs = λ b. (g.B.Bench.place b).runs in
    let went = c.finish-plan.ensures.went in
    let said = c.with_workers-state.ensures.printed heard told c.requires.stands c.requires.faultless in
    let first = said_first runs state.plan mid.fault mid.tale c.take_last-last.new.benches.items c.with_workers-state.result.1.items (g.B.Bench.place last).runs base (g.W.Sink.written mid.sink) said in
    let to : SaidTo state.plan said.front tale (g.B.Bench.place last).runs (g.B.Bench.place now).runs base (g.W.Sink.written c.finish-plan.result.sink) =
    subst (λ (p : Plan). SaidTo p said.front tale (g.B.Bench.place last).runs (g.B.Bench.place now).runs base (g.W.Sink.written c.finish-plan.result.sink)) plan
    (c.finish-plan.ensures.printed heard told said.front base (g.B.Bench.place last).runs
    (subst (λ (p : Plan). RanSaid p _ mid.fault said.front mid.tale (g.B.Bench.place last).runs (g.B.Bench.place last).runs base (g.W.Sink.written mid.sink)) (sym plan) first)) in
    record {
      front = to.front;
      back = to.back;
      cut = to.cut;
      ran = at_seats runs (λ s. RanJust state.plan (broken_at s tale) (started_by s to.front)) c.args.benches.items c.push_reserved.new.self.items c.take_last-last.new.benches.items c.with_workers-state.result.1.items last now c.take_last-last.ensures.items c.push_reserved.ensures.items
          (workers_weaker (λ s a b. RanJust state.plan (broken_at s mid.tale) (started_by s said.front) (g.B.Bench.place a).runs (g.B.Bench.place b).runs) (λ s a b. RanJust state.plan (broken_at s tale) (started_by s to.front) (g.B.Bench.place a).runs (g.B.Bench.place b).runs) c.take_last-last.new.benches.items c.with_workers-state.result.1.items
          (λ s a b other r. just_before state.plan s (broken_at s tale) said.front to.front to.on (g.B.Bench.place a).runs (g.B.Bench.place b).runs other to.goes to.alone
          (broken_before state.plan s mid.tale tale went.more (started_by s said.front) (g.B.Bench.place a).runs (g.B.Bench.place b).runs other went.is went.alone r)) said.ran)
          to.ran;
      rest = to.rest;
      written = to.written_is;
    }

pub returns-clause-steady : goal.returns-clause-steady
returns-clause-steady g c tells told gives all o same run =
    let state = c.args.state in
    let last = c.take_last-last.result in
    let rest = others_have (λ b. g.B.Bench.gives b ≡ gives) c.args.benches.items c.take_last-last.new.benches.items last c.take_last-last.ensures.items all in
    let own : g.B.Bench.gives last ≡ gives = last_has (λ b. g.B.Bench.gives b ≡ gives) c.args.benches.items c.take_last-last.new.benches.items last c.take_last-last.ensures.items all in
    let workers = c.with_workers-state.ensures.run tells told gives rest o same run in
    c.finish-plan.ensures.steady tells told o (same ∙ sym own) workers.0
    (c.with_workers-state.ensures.steady tells told gives rest o same run (steady_none state.fault c.requires.faultless))

pub returns-clause-alike : goal.returns-clause-alike
returns-clause-alike g c =
    workers_grown (λ s a b. (g.B.Bench.gives b ≡ g.B.Bench.gives a) × (g.B.Bench.faults a ≤ g.B.Bench.faults b)) c.take_last-last.new.benches.items c.with_workers-state.result.1.items c.args.benches.items c.push_reserved.new.self.items c.take_last-last.result c.finish-plan.new.last
    c.take_last-last.ensures.items c.push_reserved.ensures.items c.with_workers-state.ensures.alike c.finish-plan.ensures.alike

pub returns-clause-later : goal.returns-clause-later
returns-clause-later g c =
    let state = c.args.state in
    let counts = counts_first (g.W.Sink.faults state.sink) state.sink_failed c.requires.stands in
    c.finish-plan.ensures.later (g.W.Sink.faults state.sink) (c.with_workers-state.ensures.sink (g.W.Sink.faults state.sink) counts)
