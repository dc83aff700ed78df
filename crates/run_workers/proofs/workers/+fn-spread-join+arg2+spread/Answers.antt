use Rattle.outside_traits.specs.Fault.{Rose}
use Rattle.std.proofs.Common.{rules, ◌≡◌, ◌+◌, ◌++◌, ◌∷◌, [], ℕ, List, length, vec_len, sym, ◌∙◌, ap, subst, arith}
use Rattle.turn_lock.specs.declared.rule.Record.{Record}
use Rattle.turn_lock.specs.Seats.{view_of}
use Rattle.run_workers.specs.declared.shared.Told.{Told}
use Rattle.run_workers.specs.Seats.{IsSameSeat}
use Rattle.run_workers.specs.Ended.{AllEnded, Ended, WasFaulty}
use Rattle.run_workers.specs.Told.{logged_in}
use Rattle.run_workers.specs.Worked.{AllWorked, IsJoined, IsWorked}
use Rattle.run_workers.proofs.Ending.{all_seen, ended_push, one_seen, want_first, want_second}
use Rattle.run_workers.proofs.Spreading.{all_long, all_push, one_more, taken_in}
use Rattle.run_workers.proofs.workers.+fn-spread-join+arg2+spread.Goals as goal

pub returns-clause-worked : goal.returns-clause-worked
returns-clause-worked g t c =
    let m : ℕ = vec_len c.args.benches in
    let rest = c.pop.new.self.items in
    let news = c.join-seat.result.0.1.items in
    let v = view_of c.join-seat.result.0.0 in
    let w = view_of c.split-other.result in
    let x = view_of c.join-seat.result.1.0 in
    let u = view_of c.join-2.new.seat in
    let all : AllWorked g.D.Disk.tells g.B.Bench.tells g.K.Began.alike g.B.Bench.place g.B.Bench.gives g.B.Bench.faults g.K.Began.first g.K.Began.gives 1 rest news v.others = search rules in
    let joins : IsJoined v = search rules in
    let same : IsSameSeat w x = search rules in
    let one : IsWorked g.D.Disk.tells g.B.Bench.tells g.K.Began.alike g.B.Bench.place g.B.Bench.gives g.B.Bench.faults g.K.Began.first g.K.Began.gives w.number x.own c.in-Some.bench c.join-seat.result.1.1 = search rules in
    let taken = taken_in m (view_of c.args.seat) v w x u c.requires.begins c.split-other.ensures.new same joins c.join-2.ensures.seat in
    let r : Record Told = record { number = m; entries = x.own } in
    let items : c.args.benches.items ≡ rest ++ c.in-Some.bench ∷ [] = c.in-Some.ensures.items in
    let long : m ≡ 1 + length rest = c.args.benches.ok.0 ∙ ap length items ∙ Rattle.std.proofs.Common.length-append rest (c.in-Some.bench ∷ []) ∙ one_more (length rest) in
    let pushed = all_push g.D.Disk.tells g.B.Bench.tells g.K.Began.alike g.B.Bench.place g.B.Bench.gives g.B.Bench.faults g.K.Began.first g.K.Began.gives 1 rest news v.others c.in-Some.bench c.join-seat.result.1.1 r all long
    (subst (λ n. IsWorked g.D.Disk.tells g.B.Bench.tells g.K.Began.alike g.B.Bench.place g.B.Bench.gives g.B.Bench.faults g.K.Began.first g.K.Began.gives n x.own c.in-Some.bench c.join-seat.result.1.1) (taken.number ∙ long) one) in
    subst (λ (l : List (Record Told)). AllWorked g.D.Disk.tells g.B.Bench.tells g.K.Began.alike g.B.Bench.place g.B.Bench.gives g.B.Bench.faults g.K.Began.first g.K.Began.gives 1 c.args.benches.items c.push_reserved-2.new.self.items l) (sym taken.others)
    (subst (λ (l : List g.row.B.Denot). AllWorked g.D.Disk.tells g.B.Bench.tells g.K.Began.alike g.B.Bench.place g.B.Bench.gives g.B.Bench.faults g.K.Began.first g.K.Began.gives 1 l c.push_reserved-2.new.self.items (v.others ++ r ∷ [])) (sym items)
    (subst (λ (l : List g.row.B.Denot). AllWorked g.D.Disk.tells g.B.Bench.tells g.K.Began.alike g.B.Bench.place g.B.Bench.gives g.B.Bench.faults g.K.Began.first g.K.Began.gives 1 (rest ++ c.in-Some.bench ∷ []) l (v.others ++ r ∷ [])) (sym c.push_reserved-2.ensures.items) pushed))

pub returns-clause-ended : goal.returns-clause-ended
returns-clause-ended g t c =
    let first = g.K.Began.first in
    let faulty = WasFaulty g.D.Disk.faults g.W.Sink.faults first g.K.Began.faults in
    let rest = c.pop.new.self.items in
    let news = c.join-seat.result.0.1.items in
    let bench = c.in-Some.bench in
    let now = c.join-seat.result.1.1 in
    let v = view_of c.join-seat.result.0.0 in
    let x = view_of c.join-seat.result.1.0 in
    let u = view_of c.join-2.new.seat in
    let a = c.join-seat.result.0.2 in
    let b = c.join-seat.result.1.2 in
    let still = c.some_wants.result in
    let all : AllEnded first faulty g.B.Bench.faults a (logged_in v.seen) rest news = search rules in
    let one : Ended first faulty b (Rose (g.B.Bench.faults bench) (g.B.Bench.faults now)) (logged_in x.seen) = search rules in
    let worked : AllWorked g.D.Disk.tells g.B.Bench.tells g.K.Began.alike g.B.Bench.place g.B.Bench.gives g.B.Bench.faults first g.K.Began.gives 1 rest news v.others = search rules in
    let many = all_long g.D.Disk.tells g.B.Bench.tells g.K.Began.alike g.B.Bench.place g.B.Bench.gives g.B.Bench.faults first g.K.Began.gives 1 rest news v.others worked in
    let seen = c.join-2.ensures.seen in
    let pushed = ended_push first faulty g.B.Bench.faults still (logged_in u.seen) rest news bench now many
    (all_seen first faulty g.B.Bench.faults a still v.seen u.seen rest news seen.0 (λ e. c.some_wants.ensures ∙ want_first a b e) all)
    (one_seen first faulty b still (Rose (g.B.Bench.faults bench) (g.B.Bench.faults now)) x.seen u.seen seen.1 (λ e. c.some_wants.ensures ∙ want_second a b e) one) in
    subst (λ (l : List g.row.B.Denot). AllEnded first faulty g.B.Bench.faults still (logged_in u.seen) l c.push_reserved-2.new.self.items) (sym c.in-Some.ensures.items)
    (subst (λ (l : List g.row.B.Denot). AllEnded first faulty g.B.Bench.faults still (logged_in u.seen) (rest ++ bench ∷ []) l) (sym c.push_reserved-2.ensures.items) pushed)
