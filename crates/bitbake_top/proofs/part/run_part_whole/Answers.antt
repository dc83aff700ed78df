use Rattle.std.proofs.Common.{◌≡◌, ◌∙◌, ◌++◌, [], ap, sym, subst, inl, inr, refl, ℕ, List}
use Rattle.meta_model.specs.declared.event.Status.TheVariants as status
use Rattle.run_model.specs.Written.{WritesFront}
use Rattle.multi_config.specs.Parts.{stands}
use Rattle.bitbake_top.proofs.Kept.{one_behind}
use Rattle.bitbake_top.proofs.PartRuns.{unbegun_ran}
use Rattle.bitbake_top.proofs.Written.{plan_front, unbegun_text}
use Rattle.bitbake_top.proofs.part.run_part_whole.Goals as goal

pub returns-in-Ok-write_all-clause-ran : goal.returns-in-Ok-write_all-clause-ran
returns-in-Ok-write_all-clause-ran g c =
    c.run_part_ready.ensures.ran (g.W.Sink.written c.args.sink) (g.W.Sink.faults c.args.sink) c.in-Ok-write_all.ensures.cause.later
    (λ told. c.in-Ok-write_all.ensures.ok told ∙ ap (λ (t : List ℕ). g.W.Sink.written c.args.sink ++ t) (c.as_bytes.ensures.value ∙ c.as_str.ensures ∙ c.in-Ok.ensures.text))

pub returns-in-Ok-clause-ran : goal.returns-in-Ok-clause-ran
returns-in-Ok-clause-ran g c =
    let at = stands g.D.Disk.story g.D.Disk.faults g.B.Bench.gives g.B.Bench.place g.B.Bench.faults g.W.Sink.written g.W.Sink.faults 0 c.args.disk c.args.benches.items c.args.sink in
    let one = one_behind c.in-Ok.field-0.room.plans.items c.push_reserved.new.self.items c.args.plan c.in-Ok.ensures.none.0 c.push_reserved.ensures.items in
    unbegun_ran g.D.Disk.tells g.B.Bench.tells g.W.Sink.tells c.args.options c.args.mc.now c.args.plan at (g.W.Sink.written c.write_all.new.sink) (g.W.Sink.faults c.write_all.new.sink) c.push_reserved.new.self.items c.in-Ok.field-0.room.tales.items status.WriteFault
    (inl one) c.in-Ok.ensures.none.1 (inr refl) c.in-Err-write_all.ensures.cause.later (λ e. c.in-Err-write_all.ensures.cause.rose)
    (λ told. plan_front (g.W.Sink.written c.args.sink) (g.W.Sink.written c.write_all.new.sink) _ c.args.plan c.push_reserved.new.self.items [] status.WriteFault one refl c.in-Err-write_all.ensures.cause.rose
    (subst (λ (t : List ℕ). WritesFront (g.W.Sink.written c.args.sink) (g.W.Sink.written c.write_all.new.sink) t) (c.as_bytes.ensures.value ∙ c.as_str.ensures ∙ c.in-Ok.ensures.text) (c.in-Err-write_all.ensures.err told)))

pub returns-clause-ran : goal.returns-clause-ran
returns-clause-ran g c =
    let at = stands g.D.Disk.story g.D.Disk.faults g.B.Bench.gives g.B.Bench.place g.B.Bench.faults g.W.Sink.written g.W.Sink.faults 0 c.args.disk c.args.benches.items c.args.sink in
    let memory : c.refuse.result ≡ status.OutOfMemory = elim c.refuse.ensures.status [ inl e ↦ e | inr e ↦ e ] in
    unbegun_ran g.D.Disk.tells g.B.Bench.tells g.W.Sink.tells c.args.options c.args.mc.now c.args.plan at (g.W.Sink.written c.refuse.new.sink) (g.W.Sink.faults c.refuse.new.sink) c.new.result.items c.new-in-Err.result.items c.refuse.result
    (inr (c.new.ensures.items, memory)) c.new-in-Err.ensures.items (inl memory) c.refuse.ensures.later (λ e. absurd (let h : status.OutOfMemory ≡ status.WriteFault = sym memory ∙ e in cc))
    (λ told. unbegun_text (g.W.Sink.written c.args.sink) (g.W.Sink.written c.refuse.new.sink) (g.W.Sink.faults c.args.sink) (g.W.Sink.faults c.refuse.new.sink) c.new.result.items [] c.refuse.result refl (c.refuse.ensures.said told))
