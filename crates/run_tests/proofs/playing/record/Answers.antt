use Rattle.std.proofs.Common.{◌≡◌, List, IfSome, slice_get, subst}
use Rattle.tree_model.specs.declared.hash.Hash.{Hash}
use Rattle.store_model.specs.Spelling.{name_of, signature_bytes}
use Rattle.sig_gen.specs.Signing.{signature_by}
use Rattle.run_tests.proofs.Recorded.{recorded}
use Rattle.run_tests.proofs.playing.record.Goals as goal

pub returns-clause-settled : goal.returns-clause-settled
returns-clause-settled c =
    let tasks = c.args.index.now.plan.now.tasks in
    recorded c.args.index.now c.put.new.self c.args.replan.now c.args.task c.in_ok-name.name c.in_ok-name.text c.requires.task c.requires.current
    (subst (λ (us : List Hash). IfSome (slice_get tasks c.args.task) (λ own. c.in_ok-name.name ≡ name_of (signature_by tasks us own))) c.unihashes.ensures c.in_ok-name.ensures.name)
    (subst (λ (us : List Hash). IfSome (slice_get tasks c.args.task) (λ own. c.in_ok-name.text ≡ signature_bytes (signature_by tasks us own))) c.unihashes.ensures c.in_ok-name.ensures.bytes)
    c.put.ensures.plan c.in_ok-put.ensures.puts
