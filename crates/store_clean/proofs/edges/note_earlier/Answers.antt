use Rattle.std.proofs.Common.{inl}
use Rattle.std.proofs.lemmas.Result.{on_ok_weaker}
use Rattle.store_clean.proofs.edges.note_earlier.Goals as goal

pub returns-in-Some : goal.returns-in-Some
returns-in-Some c = on_ok_weaker c.push.result (λ ok names table. inl (c.in-Some.place, c.in-Some.ensures names table, ok)) c.push.ensures.ok
