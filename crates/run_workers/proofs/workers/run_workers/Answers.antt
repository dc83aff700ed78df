use Rattle.std.proofs.Common.{◌≡◌, ◌+◌, ◌<◌, suc, sym, subst, arith}
use Rattle.std.specs.Prelude.{take}
use Rattle.outside_traits.specs.Fault.{Rose}
use Rattle.meta_model.specs.CleanBuild.{Gives}
use Rattle.run_model.specs.Seats.{own, RanStarted}
use Rattle.run_workers.specs.Worked.{Breaks, RanPrinted}
use Rattle.run_workers.proofs.Picking.{alike_all, alike_first, gives_first}
use Rattle.run_workers.proofs.workers.run_workers.Goals as goal

pub returns-clause-run : goal.returns-clause-run
returns-clause-run g c t u o all is =
    c.run_shared.ensures.did.since.run t (u, alike_all g.B.Bench.gives o.gives c.args.benches.items (subst (λ n. 0 < n) c.args.benches.ok.0 c.requires.few.0) all) o (alike_first g.B.Bench.gives o.gives c.args.benches.items (subst (λ n. 0 < n) c.args.benches.ok.0 c.requires.few.0) all) is

pub returns-clause-steady : goal.returns-clause-steady
returns-clause-steady g c t u o all is =
    c.run_shared.ensures.did.since.steady t (u, alike_all g.B.Bench.gives o.gives c.args.benches.items (subst (λ n. 0 < n) c.args.benches.ok.0 c.requires.few.0) all) o (alike_first g.B.Bench.gives o.gives c.args.benches.items (subst (λ n. 0 < n) c.args.benches.ok.0 c.requires.few.0) all) is

pub returns-clause-gives : goal.returns-clause-gives
returns-clause-gives g c k old new was is = let e = c.run_shared.ensures.did.each k old new was is in (e.same, e.later)

pub returns-clause-breaks : goal.returns-clause-breaks
returns-clause-breaks g c k old new was is =
    let one : suc k ≡ k + 1 = omega arith in
    subst (λ n. Breaks (Unit {0}) (Rose (g.B.Bench.faults old) (g.B.Bench.faults new)) (own n c.run_shared.result.0.tale)) one (c.run_shared.ensures.did.each k old new was is).breaks

pub returns-clause-ran : goal.returns-clause-ran
returns-clause-ran g c t u o all is k old new was at =
    let one : suc k ≡ k + 1 = omega arith in
    let same = alike_first g.B.Bench.gives o.gives c.args.benches.items (subst (λ n. 0 < n) c.args.benches.ok.0 c.requires.few.0) all in
    let did = (c.run_shared.ensures.did.each k old new was at).ran t (u, alike_all g.B.Bench.gives o.gives c.args.benches.items (subst (λ n. 0 < n) c.args.benches.ok.0 c.requires.few.0) all) o same is in
    subst (λ (x : Gives). RanStarted x c.args.state.plan (own (k + 1) c.run_shared.result.0.tale) (g.B.Bench.place old).runs (g.B.Bench.place new).runs) (sym same)
    (subst (λ n. RanStarted (gives_first g.B.Bench.gives c.args.benches.items) c.args.state.plan (own n c.run_shared.result.0.tale) (g.B.Bench.place old).runs (g.B.Bench.place new).runs) one did)

pub returns-clause-printed : goal.returns-clause-printed
returns-clause-printed g c =
    let d = c.run_shared.ensures.did in (
      d.printed,
      d.heard,
      d.lines,
      λ k old new was at u.
          let one : suc k ≡ k + 1 = omega arith in
          subst (λ n. RanPrinted c.args.state.plan (own n c.run_shared.result.0.tale) (own n (take d.printed c.run_shared.result.0.tale)) (g.B.Bench.place old).runs (g.B.Bench.place new).runs) one ((d.each k old new was at).said u),
    )
