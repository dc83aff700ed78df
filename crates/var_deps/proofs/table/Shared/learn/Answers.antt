use Rattle.std.proofs.Common.{subst, false, []}
use Rattle.std.specs.BTreeMap.{get_by_text}
use Rattle.var_deps.specs.Kept.{shared_view}
use Rattle.var_deps.specs.Known.{IsKnown}
use Rattle.var_deps.specs.Reading.{view_by}
use Rattle.var_deps.proofs.Knowing.{known_shared}
use Rattle.var_deps.proofs.Tabling.{learned}
use Rattle.var_deps.proofs.table.Shared.learn.Goals as goal

pub returns-clause-right : goal.returns-clause-right
returns-clause-right c =
    let old = c.args.self.now in
    let name = c.args.name.now in
    let value = c.in_ok-known.known in
    let known : IsKnown (view_by old.seen.store.now old.seen.task old.ignored false name) false name value = subst (λ i. IsKnown (view_by old.seen.store.now old.seen.task i false name) false name value) c.as_slice.ensures c.in_ok-known.ensures in
    record {
      known = learned c.put_value.result (shared_view old) (get_by_text old.known) (get_by_text c.put_value.new.map) name value c.put_value.ensures.ok c.put_value.ensures.err c.requires.known
          (known_shared old.seen.store.now old.seen.task old.ignored name [] name value known);
    }
