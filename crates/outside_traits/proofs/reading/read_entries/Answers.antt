use Rattle.std.proofs.Common.{rules, ◌≡◌, ◌∙◌, ℕ, List, [], ap, sym, subst}
use Rattle.std.specs.Prelude.{IsSome}
use Rattle.std.specs.Option.{is_some}
use Rattle.std.proofs.lemmas.Bool.{false≢true}
use Rattle.std.proofs.lemmas.List.{get_or_default}
use Rattle.tree_model.specs.Path.{BeginsWith}
use Rattle.outside_traits.specs.Store.{Store}
use Rattle.outside_traits.proofs.Calls.{reads_passes, then_same}
use Rattle.outside_traits.proofs.Readings.{stands_more}
use Rattle.outside_traits.proofs.reading.read_entries.Goals as goal
use Rattle.outside_traits.proofs.reading.read_entries.Goals.{in-Some+in_ok-rest_behind+in_ok-push, in_default}

pub returns-in_err-entry-clause-others : goal.returns-in_err-entry-clause-others
returns-in_err-entry-clause-others g c told = then_same (c.loop-path.invariant.run told) (reads_passes (c.read.ensures.told told))

pub returns-in_err-rest_behind-clause-others : goal.returns-in_err-rest_behind-clause-others
returns-in_err-rest_behind-clause-others g c told = then_same (c.loop-path.invariant.run told) (reads_passes (c.read.ensures.told told))

pub returns-in_err-push-clause-others : goal.returns-in_err-push-clause-others
returns-in_err-push-clause-others g c told = then_same (c.loop-path.invariant.run told) (reads_passes (c.read.ensures.told told))

pub loop-path-preserved : goal.loop-path-preserved
loop-path-preserved g c = record {
  faults = search rules;
  run = λ told. then_same (c.loop-path.invariant.run told) (reads_passes (c.read.ensures.told told));
  stands = λ told.
      let held = (g.D.Disk.story c.args.disk.now).held in
      let item = c.path-item.result in
      let is = c.path-item.is ∙ get_or_default c.args.paths.now c.loop-path.path-index c.path-item.result [] c.loop-path-test.true in
      let asked = subst (λ (q : List ℕ). BeginsWith c.args.prefix.now q × IsSome (held q)) (sym c.path-item.is) (c.requires told c.loop-path.path-index c.path-item.result c.loop-path-test.true) in
      let found : held item ≡ c.in_ok-entry.field-0 = ap held (sym c.as_str.ensures) ∙ sym (ap (λ (h : Store). h c.as_str.result.now) (c.loop-path.invariant.run told).held) ∙ sym (c.in_ok-entry.ensures.told told).answers.0 in
      elim c.match-branch-3.branch [
        | in-Some+in_ok-rest_behind+in_ok-push w ↦ rw w.entries-is (rw w.in_ok-push.ensures.items (stands_more item w.in_ok-rest_behind.field-0 w.in-Some.entry c.loop-path-test.true is
            (sym w.as_str-in-Some.ensures ∙ w.in_ok-rest_behind.ensures (subst (BeginsWith c.args.prefix.now) (sym w.as_str-in-Some.ensures) asked.0))
            (found ∙ w.in-Some.is) (c.loop-path.invariant.stands told)))
        | in_default w ↦ absurd (false≢true (sym (ap is_some (found ∙ w.in_default.is)) ∙ asked.1))
      ];
}
