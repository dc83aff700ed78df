use Rattle.std.proofs.Common.{List, refl, subst, sym, ℕ}
use Rattle.std.specs.Prelude.{Contains}
use Rattle.std.proofs.lemmas.Result.{on_ok_weaker}
use Rattle.outside_traits.proofs.Runs.{passes_none, passes_so}
use Rattle.store_clean.specs.Cleared.{gone_path}
use Rattle.store_clean.specs.Steps.{IsRecordOf, TakesAway}
use Rattle.store_clean.proofs.Down.{record_apart}
use Rattle.store_clean.proofs.Runs.{takes_same, takes_so}
use Rattle.store_clean.proofs.going.take_round.Goals as goal

pub take_away-requires-clause-apart : goal.take_away-requires-clause-apart
take_away-requires-clause-apart g c told has = record_apart c.args.nodes.now c.args.places.now gone_path (c.in_ok-paths.ensures.sound gone_path (subst (λ (l : List (List ℕ)). Contains l gone_path) c.deref.ensures.value has)) refl

pub returns-in_err-paths-clause-takes : goal.returns-in_err-paths-clause-takes
returns-in_err-paths-clause-takes g c told = passes_none (g.D.Disk.story c.args.disk.now) (TakesAway (IsRecordOf c.args.nodes.now c.args.places.now)) (takes_same (IsRecordOf c.args.nodes.now c.args.places.now))

pub returns-clause-gone : goal.returns-clause-gone
returns-clause-gone g c told = on_ok_weaker c.take_away.result (λ gone q is. gone q (subst (λ (l : List (List ℕ)). Contains l q) (sym c.deref.ensures.value) (c.in_ok-paths.ensures.whole q is))) (c.take_away.ensures.gone told)

pub returns-clause-takes : goal.returns-clause-takes
returns-clause-takes g c told =
    passes_so (TakesAway (IsRecordOf c.args.nodes.now c.args.places.now)) (c.take_away.ensures.takes told)
    (λ i j takes. takes_so (Contains c.deref.result.now) (IsRecordOf c.args.nodes.now c.args.places.now) (λ q has. c.in_ok-paths.ensures.sound q (subst (λ (l : List (List ℕ)). Contains l q) c.deref.ensures.value has)) i j takes)
