use Rattle.std.proofs.Common.{◌≡◌, ◌<◌, length, List, None, subst, sym, Bool, ℕ}
use Rattle.std.specs.Prelude.{All}
use Rattle.std.specs.List.{AllByRecursion}
use Rattle.std.proofs.lemmas.Result.{on_ok_weaker}
use Rattle.outside_traits.specs.Passes.{Passes}
use Rattle.store_keep.specs.Keep.{NameEarlier}
use Rattle.store_clean.specs.Steps.{AreInRounds, AreRounds, HoldsGoneStamp, IsRecordOf, SweepsAll, SweepsLeft, node_names, round_at}
use Rattle.store_clean.proofs.Down.{above_gone, below_gone}
use Rattle.store_clean.proofs.Runs.{free_kept}
use Rattle.store_clean.proofs.Whole.{cleared_done, nothing_done, rounds_done, rounds_within, stamps_done, sweep_done}
use Rattle.store_clean.proofs.clearing.clear_chosen.Goals as goal

pub rounds_of-requires-clause-earlier : goal.rounds_of-requires-clause-earlier
rounds_of-requires-clause-earlier g c = subst NameEarlier (sym c.deref.ensures.value) c.requires.earlier

pub take_records-requires-clause-free : goal.take_records-requires-clause-free
take_records-requires-clause-free g c told = free_kept (HoldsGoneStamp (node_names c.args.nodes.now) c.args.chosen.now.marks.items (g.D.Disk.story c.args.disk.now).held) (g.D.Disk.story c.args.disk.now).held (g.D.Disk.story c.take_stamps.new.disk).held (c.take_stamps.ensures.takes told).held above_gone below_gone (c.requires.free told)

pub take_records-requires-clause-within : goal.take_records-requires-clause-within
take_records-requires-clause-within g c =
    let are : AreRounds c.args.chosen.now.edges.items c.args.chosen.now.marks.items c.in_ok-rounds.rounds.items =
    subst (λ (e : List (List ℕ)). AreRounds e c.args.chosen.now.marks.items c.in_ok-rounds.rounds.items) c.deref.ensures.value (subst (λ (m : List Bool). AreRounds c.deref.result.now m c.in_ok-rounds.rounds.items) c.deref-2.ensures.value c.in_ok-rounds.ensures) in
    subst (AllByRecursion (All (λ p. p < length c.args.nodes.now))) (sym c.deref-3.ensures.value) (rounds_within c.args.chosen.now.edges.items c.args.chosen.now.marks.items c.in_ok-rounds.rounds.items (length c.args.nodes.now) are c.requires.edges)

pub returns-in_err-rounds-clause-images : goal.returns-in_err-rounds-clause-images
returns-in_err-rounds-clause-images g c told rows ready = nothing_done rows c.args.nodes.now c.args.chosen.now (g.D.Disk.story c.args.disk.now) (g.met.D.Disk.sound c.args.disk.now told) (c.requires.durable told) ready

pub returns-in_err-take_stamps-clause-images : goal.returns-in_err-take_stamps-clause-images
returns-in_err-take_stamps-clause-images g c told rows ready = stamps_done rows c.args.nodes.now c.args.chosen.now (g.D.Disk.story c.args.disk.now) (g.met.D.Disk.sound c.args.disk.now told) (c.requires.durable told) ready (g.D.Disk.story c.take_stamps.new.disk) (c.take_stamps.ensures.takes told)

pub returns-in_err-take_records-clause-images : goal.returns-in_err-take_records-clause-images
returns-in_err-take_records-clause-images g c told rows ready =
    let nodes = c.args.nodes.now in
    let chosen = c.args.chosen.now in
    let rounds = c.in_ok-rounds.rounds.items in
    let a = g.D.Disk.story c.args.disk.now in
    let b = g.D.Disk.story c.take_stamps.new.disk in
    let e = g.D.Disk.story c.take_records.new.disk in
    let are : AreRounds chosen.edges.items chosen.marks.items rounds =
    subst (λ (l : List (List ℕ)). AreRounds l chosen.marks.items rounds) c.deref.ensures.value (subst (λ (m : List Bool). AreRounds c.deref.result.now m rounds) c.deref-2.ensures.value c.in_ok-rounds.ensures) in
    let went : Passes b e (λ i k. AreInRounds nodes rounds b.held k) = subst (λ (l : List (List ℕ)). Passes b e (λ i k. AreInRounds nodes l b.held k)) c.deref-3.ensures.value (c.take_records.ensures.takes told) in
    let sound = g.met.D.Disk.sound c.args.disk.now told in
    let sound_b = g.met.D.Disk.sound c.take_stamps.new.disk told in
    rounds_done rows nodes chosen a sound (c.requires.durable told) ready rounds are c.requires.edges b sound_b (c.in_ok-take_stamps.ensures.durable told) (c.take_stamps.ensures.takes told) e went

pub returns-clause-images : goal.returns-clause-images
returns-clause-images g c told rows ready =
    let nodes = c.args.nodes.now in
    let chosen = c.args.chosen.now in
    let rounds = c.in_ok-rounds.rounds.items in
    let a = g.D.Disk.story c.args.disk.now in
    let b = g.D.Disk.story c.take_stamps.new.disk in
    let e = g.D.Disk.story c.take_records.new.disk in
    let are : AreRounds chosen.edges.items chosen.marks.items rounds =
    subst (λ (l : List (List ℕ)). AreRounds l chosen.marks.items rounds) c.deref.ensures.value (subst (λ (m : List Bool). AreRounds c.deref.result.now m rounds) c.deref-2.ensures.value c.in_ok-rounds.ensures) in
    let went : Passes b e (λ i k. AreInRounds nodes rounds b.held k) = subst (λ (l : List (List ℕ)). Passes b e (λ i k. AreInRounds nodes l b.held k)) c.deref-3.ensures.value (c.take_records.ensures.takes told) in
    let sound = g.met.D.Disk.sound c.args.disk.now told in
    let sound_b = g.met.D.Disk.sound c.take_stamps.new.disk told in
    let d = g.D.Disk.story c.sweep.new.disk in
    let sound_e = g.met.D.Disk.sound c.take_records.new.disk told in
    let gone : (k : ℕ) (q : List ℕ) → k < length rounds → IsRecordOf nodes (round_at rounds k) q → e.held q ≡ None =
    subst (λ (l : List (List ℕ)). (k : ℕ) (q : List ℕ) → k < length l → IsRecordOf nodes (round_at l k) q → e.held q ≡ None) c.deref-3.ensures.value (c.in_ok-take_records.ensures.gone told) in
    let sweeps : Passes e d (SweepsAll nodes chosen.marks.items) = subst (λ (m : List Bool). Passes e d (SweepsAll nodes m)) c.deref-4.ensures.value (c.sweep.ensures.sweeps told) in
    sweep_done rows nodes chosen a sound (c.requires.durable told) ready rounds are c.requires.edges b sound_b (c.in_ok-take_stamps.ensures.durable told) (c.take_stamps.ensures.takes told) e sound_e
    (c.in_ok-take_records.ensures.durable told) went gone d sweeps

pub returns-clause-cleared : goal.returns-clause-cleared
returns-clause-cleared g c told rows ready =
    let nodes = c.args.nodes.now in
    let chosen = c.args.chosen.now in
    let rounds = c.in_ok-rounds.rounds.items in
    let a = g.D.Disk.story c.args.disk.now in
    let b = g.D.Disk.story c.take_stamps.new.disk in
    let e = g.D.Disk.story c.take_records.new.disk in
    let are : AreRounds chosen.edges.items chosen.marks.items rounds =
    subst (λ (l : List (List ℕ)). AreRounds l chosen.marks.items rounds) c.deref.ensures.value (subst (λ (m : List Bool). AreRounds c.deref.result.now m rounds) c.deref-2.ensures.value c.in_ok-rounds.ensures) in
    let went : Passes b e (λ i k. AreInRounds nodes rounds b.held k) = subst (λ (l : List (List ℕ)). Passes b e (λ i k. AreInRounds nodes l b.held k)) c.deref-3.ensures.value (c.take_records.ensures.takes told) in
    let sound = g.met.D.Disk.sound c.args.disk.now told in
    let sound_b = g.met.D.Disk.sound c.take_stamps.new.disk told in
    let d = g.D.Disk.story c.sweep.new.disk in
    let sound_e = g.met.D.Disk.sound c.take_records.new.disk told in
    let gone : (k : ℕ) (q : List ℕ) → k < length rounds → IsRecordOf nodes (round_at rounds k) q → e.held q ≡ None =
    subst (λ (l : List (List ℕ)). (k : ℕ) (q : List ℕ) → k < length l → IsRecordOf nodes (round_at l k) q → e.held q ≡ None) c.deref-3.ensures.value (c.in_ok-take_records.ensures.gone told) in
    let sweeps : Passes e d (SweepsAll nodes chosen.marks.items) = subst (λ (m : List Bool). Passes e d (SweepsAll nodes m)) c.deref-4.ensures.value (c.sweep.ensures.sweeps told) in
    on_ok_weaker c.sweep.result
    (λ left. cleared_done rows nodes chosen a sound (c.requires.durable told) ready rounds are c.requires.edges b sound_b (c.in_ok-take_stamps.ensures.durable told) (c.take_stamps.ensures.takes told) e sound_e
    (c.in_ok-take_records.ensures.durable told) went gone d sweeps (subst (λ (m : List Bool). SweepsLeft nodes m d.held) c.deref-4.ensures.value left) (c.in_ok-take_stamps.ensures.gone told))
    (c.sweep.ensures.left told)
