use Rattle.std.proofs.Common.{◌∙◌, sym}
use Rattle.std.proofs.lemmas.Result.{on_ok_weaker}
use Rattle.build_store.proofs.KnownKeys.{name_by_digest, none_found, same_found}
use Rattle.build_store.proofs.drafting.check_key.Goals as goal

pub returns-in-Some-clause-ok : goal.returns-in-Some-clause-ok
returns-in-Some-clause-ok c =
    let name = name_by_digest c.of-name.result c.key.result.now c.args.sig.now c.of-name.ensures c.key.ensures in
    on_ok_weaker c.same_key.result (λ same. same_found c.args.keys.now c.args.sig.now c.of-name.result c.in-Some.held.now name c.in-Some.ensures (sym c.as_slice.ensures ∙ same ∙ c.key-in-Some.ensures)) c.same_key.ensures.ok

pub returns-in-None-clause-ok : goal.returns-in-None-clause-ok
returns-in-None-clause-ok c =
    none_found c.args.keys.now c.args.sig.now c.of-name.result (name_by_digest c.of-name.result c.key.result.now c.args.sig.now c.of-name.ensures c.key.ensures) c.in-None.ensures
