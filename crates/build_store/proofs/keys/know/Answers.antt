use Rattle.std.proofs.Common.{◌∙◌}
use Rattle.build_store.proofs.KnownKeys.{know_added}
use Rattle.build_store.proofs.keys.know.Goals as goal
use Rattle.build_store.proofs.keys.know.Goals.{in-Ok, in-Err}

pub returns-clause-knows : goal.returns-clause-knows
returns-clause-knows c = elim c.match-add.branch [
  | in-Ok w ↦ rw w.result-is (know_added c.args.keys.now c.add.new.self c.in_ok-from_slice.field-0 c.args.sig.now (c.in_ok-from_slice.ensures ∙ c.key.ensures) w.in-Ok.ensures.added w.in-Ok.ensures.known)
  | in-Err w ↦ rw w.result-is tt
]
