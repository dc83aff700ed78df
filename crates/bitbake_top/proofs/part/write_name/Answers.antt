use Rattle.std.proofs.Common.{◌∙◌, ◌∷◌, [], ◌++◌, ap, codes, ℕ, List}
use Rattle.meta_model.specs.Text.{newline}
use Rattle.bitbake_top.proofs.PartRuns.{front_first, front_third, mapped, of_refusal}
use Rattle.bitbake_top.proofs.part.write_name.Goals as goal

pub returns-in_err-write_all-clause-err : goal.returns-in_err-write_all-clause-err
returns-in_err-write_all-clause-err g c =
    of_refusal c.from_residual.result _ (λ told. front_first (g.W.Sink.written c.args.sink.now) (g.W.Sink.written c.write_all.new.sink) (codes "mc ") (c.args.mc.now ++ newline ∷ []) (c.in_err-write_all.ensures.err told))

pub returns-clause-err : goal.returns-clause-err
returns-clause-err g c =
    let one = g.W.Sink.written c.write_all.new.sink in
    mapped c.write_all-3.result _ _
    (λ f told. front_third (g.W.Sink.written c.args.sink.now) one (g.W.Sink.written c.write_all-2.new.sink) (g.W.Sink.written c.write_all-3.new.sink) (codes "mc ") c.args.mc.now (newline ∷ []) (c.in_ok-write_all.ensures.ok told)
    (c.in_ok-write_all-2.ensures.ok told ∙ ap (λ (m : List ℕ). one ++ m) c.as_bytes.ensures.value) (f told))
    c.write_all-3.ensures.err
