use Rattle.std.proofs.Common.{◌∙◌, ◌+◌, ◌<◌, ℕ, List, Contains, length, ap, sym, subst, arith}
use Rattle.tree_model.specs.declared.hash.Hash.{Hash}
use Rattle.setscene_plan.specs.Reworks.{HaveOneName}
use Rattle.setscene_plan.proofs.Keys.{puts_one}
use Rattle.setscene_plan.proofs.Working.{AreNamesakes, namesake_in, namesake_out}
use Rattle.setscene_plan.proofs.work.Names.namesakes.Goals.{then-is_namesake+in_ok-insert-2, else-is_namesake}
use Rattle.setscene_plan.proofs.work.Names.namesakes.Goals as goal

pub loop-place-preserved : goal.loop-place-preserved
loop-place-preserved c =
    let names = c.as_slice-names.result.now in
    let place = c.loop-place.place in
    elim c.if-is_namesake.branch [
      | then-is_namesake+in_ok-insert-2 w ↦ subst (λ (ks : List ℕ). AreNamesakes names c.args.task (place + 1) ks) (sym (ap (λ m. m.keys) w.made-is ∙ w.in_ok-insert-2.ensures.keys)) (namesake_in names c.args.task place c.loop-place.made.keys _ c.loop-place.invariant w.if-is_namesake.ensures (puts_one c.loop-place.made.keys place))
      | else-is_namesake w ↦ subst (λ (ks : List ℕ). AreNamesakes names c.args.task (place + 1) ks) (sym (ap (λ m. m.keys) w.made-is)) (namesake_out names c.args.task place c.loop-place.made.keys c.loop-place.invariant w.if-is_namesake.ensures)
    ]

pub returns-clause-only : goal.returns-clause-only
returns-clause-only c = subst (λ (ns : List Hash). (t : ℕ) → Contains c.loop-place.made.keys t → HaveOneName ns t c.args.task) c.as_slice-names.ensures.value c.loop-place.invariant.only

pub returns-clause-within : goal.returns-clause-within
returns-clause-within c = λ t h. omega (arith, c.loop-place.invariant.within t h, c.loop-place-test.false, c.loop-place.auto.place-end, ap (λ (ns : List Hash). length ns) c.as_slice-names.ensures.value)

pub returns-clause-whole : goal.returns-clause-whole
returns-clause-whole c = subst (λ (ns : List Hash). (t : ℕ) → t < length ns → HaveOneName ns t c.args.task → Contains c.loop-place.made.keys t) c.as_slice-names.ensures.value (λ t lt same. c.loop-place.invariant.whole t (omega (arith, lt, c.loop-place-test.false)) same)
