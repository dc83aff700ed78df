use Rattle.std.proofs.Common.{◌≡◌, ◌∙◌, sym, arith, get_or, take, ap, List, ℕ, ◌-◌, ◌+◌, inl, refl}
use Rattle.outside_traits.proofs.Folders.{ways_none, ways_clears}
use Rattle.outside_traits.proofs.Steps.{clearing_start, clearing_ways, clearing_more, clearing_skips, clearing_end}
use Rattle.outside_traits.proofs.Slashes.{front_slashes, more_slashes, one_slash}
use Rattle.outside_traits.proofs.trees.clear_above.Goals as goal
use Rattle.outside_traits.proofs.trees.clear_above.Goals.{then-bytes-i-eq47+in_ok-clear_at-2, else-bytes-i-eq47}

pub returns-in_err-clear_at-clause-way : goal.returns-in_err-clear_at-clause-way
returns-in_err-clear_at-clause-way g c told = ways_clears (inl refl) (ways_none c.args.folder.now (g.D.Disk.story c.args.disk.now)) (c.clear_at.ensures.clears told)

pub loop-i-init : goal.loop-i-init
loop-i-init g c = record {
  faults = c.in_ok-clear_at.ensures.cause.stayed;
  clearing = λ told. clearing_start (c.in_ok-clear_at.ensures.clears told);
  brief = λ told. omega (arith, c.in_ok-clear_at.ensures.brief told);
}

pub returns-in_err-clear_at-2-clause-way : goal.returns-in_err-clear_at-2-clause-way
returns-in_err-clear_at-2-clause-way g c told =
    let at_it : get_or c.args.folder.now c.loop-i.i 0 ≡ 47 = ap (λ (l : List ℕ). get_or l c.loop-i.i 0) (sym c.as_bytes-bytes.ensures.value) ∙ c.if-bytes-i-eq47.true in
    let p_is : c.range.result.now ≡ take c.loop-i.i c.args.folder.now = c.range.ensures.value ∙ ap (λ (m : ℕ). take m c.args.folder.now) (let e : c.loop-i.i - 0 ≡ c.loop-i.i = omega arith in e) in
    (clearing_ways (omega arith) at_it p_is (c.loop-i.invariant.clearing told) (c.clear_at-then-bytes-i-eq47.ensures.clears told))

pub loop-i-preserved : goal.loop-i-preserved
loop-i-preserved g c = elim c.if-bytes-i-eq47.branch [
  | then-bytes-i-eq47+in_ok-clear_at-2 w ↦ record {
    faults = rw w.disk-is (w.in_ok-clear_at-2.ensures.cause.stayed ∙ c.loop-i.invariant.faults);
    clearing = λ told.
        let at_it : get_or c.args.folder.now c.loop-i.i 0 ≡ 47 = ap (λ (l : List ℕ). get_or l c.loop-i.i 0) (sym c.as_bytes-bytes.ensures.value) ∙ w.if-bytes-i-eq47.true in
        let p_is : w.range.result.now ≡ take c.loop-i.i c.args.folder.now = w.range.ensures.value ∙ ap (λ (m : ℕ). take m c.args.folder.now) (let e : c.loop-i.i - 0 ≡ c.loop-i.i = omega arith in e) in
        rw w.disk-is (clearing_more (omega arith) at_it p_is (c.loop-i.invariant.clearing told) (w.in_ok-clear_at-2.ensures.clears told));
    brief = λ told.
        let at_it : get_or c.args.folder.now c.loop-i.i 0 ≡ 47 = ap (λ (l : List ℕ). get_or l c.loop-i.i 0) (sym c.as_bytes-bytes.ensures.value) ∙ w.if-bytes-i-eq47.true in
        let more = one_slash c.args.folder.now c.loop-i.i (omega arith) at_it in
        rw w.disk-is (omega (arith, more, c.loop-i.invariant.brief told, w.in_ok-clear_at-2.ensures.brief told));
  }
  | else-bytes-i-eq47 w ↦ record {
    faults = rw w.disk-is c.loop-i.invariant.faults;
    clearing = λ told. rw w.disk-is (clearing_skips (λ is. w.if-bytes-i-eq47.false (ap (λ (l : List ℕ). get_or l c.loop-i.i 0) c.as_bytes-bytes.ensures.value ∙ is)) (c.loop-i.invariant.clearing told));
    brief = λ told. let more = more_slashes c.args.folder.now c.loop-i.i in rw w.disk-is (omega (arith, more, c.loop-i.invariant.brief told));
  }
]

pub returns-clause-open : goal.returns-clause-open
returns-clause-open g c told = clearing_end c.loop-i.i (omega arith) (c.loop-i.invariant.clearing told)

pub returns-clause-brief : goal.returns-clause-brief
returns-clause-brief g c told = let front = front_slashes c.args.folder.now c.loop-i.i in omega (arith, front, c.loop-i.invariant.brief told)

pub returns-in_err-clear_at-2-clause-brief : goal.returns-in_err-clear_at-2-clause-brief
returns-in_err-clear_at-2-clause-brief g c told =
    let at_it : get_or c.args.folder.now c.loop-i.i 0 ≡ 47 = ap (λ (l : List ℕ). get_or l c.loop-i.i 0) (sym c.as_bytes-bytes.ensures.value) ∙ c.if-bytes-i-eq47.true in
    let more = one_slash c.args.folder.now c.loop-i.i (omega arith) at_it in
    let front = front_slashes c.args.folder.now (c.loop-i.i + 1) in
    omega (arith, more, front, c.loop-i.invariant.brief told, c.clear_at-then-bytes-i-eq47.ensures.brief told)
