use Rattle.std.proofs.Common.{rules, false, ◌≡◌, ◌≤◌, ◌<◌, ◌∙◌, ◌+◌, ◌++◌, ◌∷◌, [], ℕ, List, All, length, sym, ap, subst, refl, append-nil, length-append, arith}
use Rattle.std.proofs.lemmas.List.{nil_from_length}
use Rattle.outside_traits.specs.Bench.{Gives}
use Rattle.run_model.specs.Report.{tale_text}
use Rattle.meta_model.specs.declared.event.Logged.{Logged}
use Rattle.meta_model.specs.declared.plan.Plan.{Plan}
use Rattle.run_queue.specs.Keeps.{IsFront, Prints}
use Rattle.run_model.specs.Runs.{RanThese}
use Rattle.run_model.specs.Benches.{BreaksByFault, broken_at, started_by}
use Rattle.run_model.specs.Build.{RanJust, RanStarted}
use Rattle.build_resume.proofs.Begun.{just_nothing, ran_nothing}
use Rattle.build_resume.proofs.Benches.{others_have, workers_same}
use Rattle.build_resume.proofs.Reports.{prints_first}
use Rattle.build_resume.proofs.Working.{broke_by, calm_behind, has_seats, no_seats, ran_behind, said_by_workers, said_pushed, seats_wider, workers_pushed}
use Rattle.run_queue.specs.Seen.{seen}
use Rattle.run_workers.specs.Ended.{WasFaulty}
use Rattle.build_resume.proofs.Working.{ended_none, ended_pushed, ended_whole, left_none, left_workers}
use Rattle.build_resume.proofs.workers.+with_at_most.Goals as goal

-- ---- there is no bench

pub returns-then-is_empty-clause-printed : goal.returns-then-is_empty-clause-printed
returns-then-is_empty-clause-printed g t c heard told stands faultless =
    let state = c.args.state in
    record {
      front = state.tale;
      back = [];
      cut = sym (append-nil state.tale);
      ran = workers_same (λ s a b. RanJust state.plan (broken_at s state.tale) (started_by s state.tale) (g.B.Bench.place a).runs (g.B.Bench.place b).runs) c.args.benches.items c.args.benches.items refl (λ s a. just_nothing state.plan state.tale c.requires.none s (g.B.Bench.place a).runs);
      none = subst (λ (l : List Logged). started_by 0 l ≡ []) (sym c.requires.none) refl;
      rest = [];
      is = subst (λ (l : List Logged). g.W.Sink.written state.sink ≡ g.W.Sink.written state.sink ++ (tale_text state.plan.tasks l ++ [])) (sym c.requires.none) (sym (append-nil (g.W.Sink.written state.sink)));
      whole = λ none. (refl, refl);
    }

pub returns-then-is_empty-clause-run : goal.returns-then-is_empty-clause-run
returns-then-is_empty-clause-run g t c tells told gives all o same run =
    let state = c.args.state in
    (run, workers_same (λ s a b. RanStarted gives state.plan state.tale s (g.B.Bench.place a).runs (g.B.Bench.place b).runs) c.args.benches.items c.args.benches.items refl (λ s a. ran_nothing gives state.plan state.tale c.requires.none s (g.B.Bench.place a).runs))

pub returns-then-is_empty-clause-threads : goal.returns-then-is_empty-clause-threads
returns-then-is_empty-clause-threads g t c = no_seats c.args.workers c.args.state.tale c.requires.none

pub returns-then-is_empty-clause-ended : goal.returns-then-is_empty-clause-ended
returns-then-is_empty-clause-ended g t c =
    let first = seen g.D.Disk.story g.W.Sink.written c.args.state in
    ended_none first (WasFaulty g.D.Disk.faults g.W.Sink.faults first (g.W.Sink.faults c.args.state.sink)) g.B.Bench.faults false c.args.state.tale c.args.workers c.args.benches.items c.args.benches.items
    (nil_from_length c.args.benches.items (let none : length c.args.benches.items ≡ 0 = search rules in none))

pub returns-then-is_empty-clause-left : goal.returns-then-is_empty-clause-left
returns-then-is_empty-clause-left g t c = left_none c.args.state.tale c.requires.none

-- ---- each bench has a worker

pub returns-then-len-workers-clause-text : goal.returns-then-len-workers-clause-text
returns-then-len-workers-clause-text g t c told base printed =
    let now = c.run_workers-state in
    subst (λ (p : Plan). Prints base (g.W.Sink.written now.result.0.sink) (tale_text p.tasks now.result.0.tale) now.result.0.sink_failed) now.ensures.same.plan (now.ensures.text told base printed)

pub returns-then-len-workers-clause-left : goal.returns-then-len-workers-clause-left
returns-then-len-workers-clause-left g t c =
    let now = c.run_workers-state in
    left_workers g.B.Bench.faults c.args.benches.items now.result.1.items now.result.0.tale now.ensures.benches (has_seats (length c.args.benches.items) now.result.0.tale now.ensures.seats) now.ensures.breaks

pub returns-then-len-workers-clause-ended : goal.returns-then-len-workers-clause-ended
returns-then-len-workers-clause-ended g t c =
    let first = seen g.D.Disk.story g.W.Sink.written c.args.state in
    let now = c.run_workers-state in
    ended_whole first (WasFaulty g.D.Disk.faults g.W.Sink.faults first (g.W.Sink.faults c.args.state.sink)) g.B.Bench.faults now.result.2 now.result.0.tale c.args.workers c.args.benches.items now.result.1.items
    (let test : c.len.result ≤ c.args.workers = search rules in let len = c.len.ensures in let long = c.args.benches.ok.0 in omega (arith, test, len, long)) now.ensures.benches now.ensures.ended

pub returns-then-len-workers-clause-threads : goal.returns-then-len-workers-clause-threads
returns-then-len-workers-clause-threads g t c =
    seats_wider (length c.args.benches.items) c.args.workers c.run_workers-state.result.0.tale (let test : c.len.result ≤ c.args.workers = search rules in let len = c.len.ensures in let long = c.args.benches.ok.0 in omega (arith, test, len, long)) (has_seats (length c.args.benches.items) c.run_workers-state.result.0.tale c.run_workers-state.ensures.seats)

pub returns-then-len-workers-clause-seats : goal.returns-then-len-workers-clause-seats
returns-then-len-workers-clause-seats g t c = has_seats (length c.args.benches.items) c.run_workers-state.result.0.tale c.run_workers-state.ensures.seats

pub returns-then-len-workers-clause-broke : goal.returns-then-len-workers-clause-broke
returns-then-len-workers-clause-broke g t c = record {
  long = c.run_workers-state.ensures.benches;
  each = λ k old new was is. broke_by (k + 1) (g.B.Bench.faults old) (g.B.Bench.faults new) c.run_workers-state.result.0.tale (c.run_workers-state.ensures.breaks k old new was is);
}

pub returns-then-len-workers-clause-printed : goal.returns-then-len-workers-clause-printed
returns-then-len-workers-clause-printed g t c heard told stands faultless =
    let state = c.args.state in
    let now = c.run_workers-state.result.0 in
    let base : List ℕ = g.W.Sink.written state.sink in
    let written : List ℕ = g.W.Sink.written now.sink in
    let printed = c.run_workers-state.ensures.printed in
    let same : now.plan ≡ state.plan = c.run_workers-state.ensures.same.plan in
    let first = prints_first state.plan state.tale base state.sink_failed stands c.requires.none in
    let prints = subst (λ (p : Plan). Prints base written (tale_text p.tasks now.tale) now.sink_failed) same (c.run_workers-state.ensures.text heard base first) in
    let front = subst (λ (p : Plan). IsFront (base ++ tale_text p.tasks (Rattle.std.specs.Prelude.take printed.0 now.tale)) written) same (printed.2 heard base first) in
    said_by_workers (λ b. (g.B.Bench.place b).runs) state.plan now.fault now.tale c.args.benches.items c.run_workers-state.result.1.items base written now.sink_failed printed.0 (length c.args.benches.items)
    (has_seats (length c.args.benches.items) now.tale c.run_workers-state.ensures.seats) c.run_workers-state.ensures.benches front (λ k old new was is. printed.3 k old new was is told) printed.1 c.kept.ensures.heard prints

pub returns-then-len-workers-clause-run : goal.returns-then-len-workers-clause-run
returns-then-len-workers-clause-run g t c tells told gives all o same run =
    let alike : All (λ b. g.B.Bench.gives b ≡ o.gives) c.args.benches.items = subst (λ (x : Gives). All (λ b. g.B.Bench.gives b ≡ x) c.args.benches.items) (sym same) all in
    let ran = c.run_workers-state.ensures.ran tells told o alike run in (
      c.run_workers-state.ensures.run tells told o alike run,
      record {
        long = c.run_workers-state.ensures.benches;
        each = λ k old new was is. let r = ran k old new was is in record { runs = r.runs; ran = r.ran; these = subst (λ (x : Gives). RanThese x c.args.state.plan (broken_at (k + 1) c.run_workers-state.result.0.tale) (started_by (k + 1) c.run_workers-state.result.0.tale) r.runs) same r.these };
      },
    )

pub returns-then-len-workers-clause-steady : goal.returns-then-len-workers-clause-steady
returns-then-len-workers-clause-steady g t c tells told gives all o same run held =
    c.run_workers-state.ensures.steady tells told o (subst (λ (x : Gives). All (λ b. g.B.Bench.gives b ≡ x) c.args.benches.items) (sym same) all) run held

-- ---- the last bench has none

pub returns-clause-seats : goal.returns-clause-seats
returns-clause-seats g t c =
    let rest = c.take_last-bench.new.benches.items in
    let long = ap length c.take_last-bench.ensures.items ∙ length-append rest (c.take_last-bench.result ∷ []) in
    seats_wider (length rest) (length c.args.benches.items) c.with_at_most-state.result.0.tale (omega (arith, long)) c.with_at_most-state.ensures.seats

pub returns-clause-room : goal.returns-clause-room
returns-clause-room g t c = c.push_reserved.ensures.capacity ∙ c.with_at_most-state.ensures.room ∙ c.take_last-bench.ensures.capacity

pub returns-clause-broke : goal.returns-clause-broke
returns-clause-broke g t c =
    let tale = c.with_at_most-state.result.0.tale in
    let rest = c.take_last-bench.new.benches.items in
    let bench = c.take_last-bench.result in
    workers_pushed (λ s a b. BreaksByFault tale s (g.B.Bench.faults a) (g.B.Bench.faults b)) rest c.with_at_most-state.result.1.items c.args.benches.items c.push_reserved.new.self.items bench c.take_last-bench.ensures.items c.push_reserved.ensures.items
    c.with_at_most-state.ensures.broke (calm_behind (length rest) (length rest + 1) (g.B.Bench.faults bench) tale (omega arith) c.with_at_most-state.ensures.seats)

pub returns-clause-printed : goal.returns-clause-printed
returns-clause-printed g t c heard told stands faultless =
    let now = c.with_at_most-state.result.0 in
    let rest = c.take_last-bench.new.benches.items in
    said_pushed (λ b. (g.B.Bench.place b).runs) c.args.state.plan now.fault now.tale rest c.with_at_most-state.result.1.items c.args.benches.items c.push_reserved.new.self.items c.take_last-bench.result (g.W.Sink.written c.args.state.sink) (g.W.Sink.written now.sink)
    c.take_last-bench.ensures.items c.push_reserved.ensures.items c.with_at_most-state.ensures.seats (c.with_at_most-state.ensures.printed heard told stands faultless)

pub returns-clause-run : goal.returns-clause-run
returns-clause-run g t c tells told gives all o same run =
    let tale = c.with_at_most-state.result.0.tale in
    let rest = c.take_last-bench.new.benches.items in
    let bench = c.take_last-bench.result in
    let did = c.with_at_most-state.ensures.run tells told gives (others_have (λ b. g.B.Bench.gives b ≡ gives) c.args.benches.items rest bench c.take_last-bench.ensures.items all) o same run in (
      did.0,
      workers_pushed (λ s a b. RanStarted gives c.args.state.plan tale s (g.B.Bench.place a).runs (g.B.Bench.place b).runs) rest c.with_at_most-state.result.1.items c.args.benches.items c.push_reserved.new.self.items bench c.take_last-bench.ensures.items c.push_reserved.ensures.items
          did.1 (ran_behind gives c.args.state.plan (length rest) tale (g.B.Bench.place bench).runs c.with_at_most-state.ensures.seats),
    )

pub returns-clause-steady : goal.returns-clause-steady
returns-clause-steady g t c tells told gives all o same run held =
    c.with_at_most-state.ensures.steady tells told gives (others_have (λ b. g.B.Bench.gives b ≡ gives) c.args.benches.items c.take_last-bench.new.benches.items c.take_last-bench.result c.take_last-bench.ensures.items all) o same run held

pub returns-clause-ended : goal.returns-clause-ended
returns-clause-ended g t c =
    let first = seen g.D.Disk.story g.W.Sink.written c.args.state in
    let now = c.with_at_most-state in
    let rest = c.take_last-bench.new.benches.items in
    ended_pushed first (WasFaulty g.D.Disk.faults g.W.Sink.faults first (g.W.Sink.faults c.args.state.sink)) g.B.Bench.faults now.result.2 now.result.0.tale c.args.workers rest now.result.1.items c.args.benches.items c.push_reserved.new.self.items c.take_last-bench.result
    c.take_last-bench.ensures.items c.push_reserved.ensures.items now.ensures.broke.long
    (let test : c.args.workers < c.len.result = search rules in let len = c.len.ensures in let long = c.args.benches.ok.0 in let items = ap length c.take_last-bench.ensures.items ∙ length-append rest (c.take_last-bench.result ∷ []) in omega (arith, test, len, long, items)) now.ensures.ended

-- ---- what stays of the benches

pub returns-then-is_empty-clause-alike : goal.returns-then-is_empty-clause-alike
returns-then-is_empty-clause-alike g t c = workers_same (λ s a b. (g.B.Bench.gives b ≡ g.B.Bench.gives a) × (g.B.Bench.faults a ≤ g.B.Bench.faults b)) c.args.benches.items c.args.benches.items refl (λ s a. (refl, omega arith))

pub returns-then-len-workers-clause-alike : goal.returns-then-len-workers-clause-alike
returns-then-len-workers-clause-alike g t c = record { long = c.run_workers-state.ensures.benches; each = λ k old new was is. c.run_workers-state.ensures.gives k old new was is }

pub returns-clause-alike : goal.returns-clause-alike
returns-clause-alike g t c =
    workers_pushed (λ s a b. (g.B.Bench.gives b ≡ g.B.Bench.gives a) × (g.B.Bench.faults a ≤ g.B.Bench.faults b)) c.take_last-bench.new.benches.items c.with_at_most-state.result.1.items c.args.benches.items c.push_reserved.new.self.items c.take_last-bench.result
    c.take_last-bench.ensures.items c.push_reserved.ensures.items c.with_at_most-state.ensures.alike (refl, omega arith)
