use Rattle.std.proofs.Common.{◌≡◌, ◌∙◌, sym, ap, subst, inl, inr, refl, arith, ◌∷◌, [], ℕ, List, length, map}
use Rattle.std.proofs.lemmas.List.{length-map}
use Rattle.meta_model.specs.declared.event.Logged.{Logged}
use Rattle.run_model.specs.Benches.{AtSeats, BreaksByFault}
use Rattle.run_model.specs.Build.{RanPrinted}
use Rattle.run_model.specs.Runs.{Runs}
use Rattle.run_model.specs.Seated.{HaveBenches}
use Rattle.build_resume.proofs.Statuses.{wider_cause}
use Rattle.config_build.specs.Below.{LeavesStory}
use Rattle.multi_config.specs.Configs.{store_prefix}
use Rattle.multi_config.specs.Parts.{DidFolder}
use Rattle.sub_disk.specs.Sub.{below}
use Rattle.bitbake_top.proofs.Begun.{certain_ample, certain_apart}
use Rattle.bitbake_top.proofs.Devices.{none_rose, rose_from}
use Rattle.bitbake_top.proofs.Kept.{as_entry, begun_each, one_behind}
use Rattle.bitbake_top.proofs.PartRuns.{same_tale, some_tale, stays}
use Rattle.bitbake_top.proofs.Written.{begun_text, printed_one}
use Rattle.bitbake_top.proofs.part.run_part_ready.Goals as goal

pub returns-clause-ran : goal.returns-clause-ran
returns-clause-ran g c base count lt said =
    let ran = c.build_config-plan in
    let plan = c.args.plan in
    let tale = ran.result.tale.items in
    let plans = c.push_reserved.new.self.items in
    let tales = c.push_reserved-2.new.self.items in
    let one_plan : plans ≡ plan ∷ [] = one_behind c.args.room.plans.items plans ran.result.plan c.requires.none.0 c.push_reserved.ensures.items ∙ ap (λ p. p ∷ []) ran.ensures.plan in
    let one_tale : tales ≡ tale ∷ [] = one_behind c.args.room.tales.items tales c.from_vec.result c.requires.none.1 c.push_reserved-2.ensures.items ∙ ap (λ t. t ∷ []) c.from_vec.ensures in
    let mc = c.args.mc.now in
    let held = (g.D.Disk.story c.args.disk).held in
    let counts : List ℕ = map g.B.Bench.faults c.args.benches.items in
    let counts_now : List ℕ = map g.B.Bench.faults ran.result.benches.items in
    let runs : List Runs = map (λ b. (g.B.Bench.place b).runs) c.args.benches.items in
    let runs_now : List Runs = map (λ b. (g.B.Bench.place b).runs) ran.result.benches.items in
    let status = ran.result.status in
    record {
      plans_are = inl one_plan;
      concludes = inr (record { plan = plan; tale = tale; plans_are = one_plan; tales_are = one_tale; ends = ran.ensures.told; seated = ran.ensures.seated });
      unbegun = λ none. some_tale tale tales one_tale none;
      folder = λ d other one.
          subst (λ (t : List Logged). DidFolder mc t status (g.D.Disk.story c.args.disk) (g.D.Disk.story ran.result.disk) (LeavesStory g.D.Disk.tells g.B.Bench.tells (map g.B.Bench.gives c.args.benches.items) plan c.args.options t status (below (store_prefix mc) held) runs runs_now)) (same_tale tale other tales one_tale one) (ran.ensures.folder d);
      exactly = λ d b gives all reading book may wanted ds bs ss certain.
          ran.ensures.exactly d b gives all reading book (as_entry gives reading book (below (store_prefix mc) held) plan c.requires.sound c.requires.spellings may) wanted ds (none_rose counts counts_now bs)
          (λ rose. ss (rose_from count (g.W.Sink.faults c.args.sink) (g.W.Sink.faults ran.result.sink) lt rose)) (certain_ample status certain) (certain_apart status certain);
      text = λ heard. begun_text base (g.W.Sink.written c.args.sink) (g.W.Sink.written ran.result.sink) count (g.W.Sink.faults c.args.sink) (g.W.Sink.faults ran.result.sink) plan plans tale tales status one_plan one_tale lt (said heard) (ran.ensures.text heard);
      printed = λ heard b.
          printed_one base (g.W.Sink.written ran.result.sink) plan plans tale tales runs runs_now one_plan one_tale
          (subst (λ (m : List ℕ). RanPrinted plan tale runs runs_now m (g.W.Sink.written ran.result.sink)) (said heard) (ran.ensures.printed heard b));
      same_disk = λ none. some_tale tale tales one_tale none;
      same_benches = λ none. some_tale tale tales one_tale none;
      benches = begun_each (HaveBenches (length counts)) tales tale one_tale (subst (λ n. HaveBenches n tale) (sym (length-map c.args.benches.items g.B.Bench.faults)) ran.ensures.benches);
      broke = begun_each (λ t. AtSeats (BreaksByFault t) counts counts_now) tales tale one_tale ran.ensures.broke;
      causes = wider_cause (g.D.Disk.faults ran.result.disk) _ _ _ _ status (λ rose. rose) (rose_from count (g.W.Sink.faults c.args.sink) (g.W.Sink.faults ran.result.sink) lt) ran.ensures.ends;
      disk_cause = ran.ensures.disk_cause;
      later = (ran.ensures.count, let more = ran.ensures.later in omega (arith, lt, more));
      stay = stays g.B.Bench.gives g.B.Bench.faults c.args.benches.items ran.result.benches.items _ _ refl refl refl refl ran.ensures.alike;
    }
