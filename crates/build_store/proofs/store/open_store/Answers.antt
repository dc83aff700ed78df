use Rattle.std.proofs.Common.{◌≡◌, sym, subst}
use Rattle.std.proofs.lemmas.Result.{IfOk-weaker}
use Rattle.outside_traits.specs.Passes.{EachNow}
use Rattle.build_store.proofs.store.open_store.Goals as goal

pub returns-in-Ok-clause-durable : goal.returns-in-Ok-clause-durable
returns-in-Ok-clause-durable g c told =
    IfOk-weaker c.store_of.result _ _ (λ store w. subst (λ d. EachNow (g.D.Disk.story d) (λ image. image ≡ (g.D.Disk.story d).held)) (sym w.0) (c.in-Ok.ensures.durable told)) c.store_of.ensures.store
