use Rattle.std.proofs.Common.{◌≡◌, ◌∙◌, ◌+◌, refl, subst, arith, ℕ}
use Rattle.std.proofs.lemmas.Result.{on_ok_weaker}
use Rattle.store_upgrade.specs.Steps.{PutsRounds}
use Rattle.store_upgrade.proofs.Called.{passes_on, passes_start}
use Rattle.store_upgrade.proofs.Rounded.{IsUpTo, puts_now, puts_start, put_by_last, round_others, up_to_more, up_to_none}
use Rattle.store_upgrade.proofs.records.put_rounds.Goals as goal

pub loop-round-init : goal.loop-round-init
loop-round-init g c = record {
  faults = refl;
  run = λ told. passes_start (g.D.Disk.story c.args.disk.now) (PutsRounds c.args.added.now (g.D.Disk.story c.args.disk.now).held) (g.met.D.Disk.sound c.args.disk.now told) (c.requires.durable told) (puts_start c.args.added.now (g.D.Disk.story c.args.disk.now).held);
  laid = c.requires.laid;
  durable = c.requires.durable;
  others = λ told q none. refl;
  up_to = λ told differ. up_to_none c.args.added.now (g.D.Disk.story c.args.disk.now).held;
}

pub returns-in_err-put_synced-clause-puts : goal.returns-in_err-put_synced-clause-puts
returns-in_err-put_synced-clause-puts g c told =
    passes_on (PutsRounds c.args.added.now (g.D.Disk.story c.args.disk.now).held) (PutsRounds c.args.added.now (g.D.Disk.story c.args.disk.now).held) (g.met.D.Disk.sound c.loop-round.disk told) (c.loop-round.invariant.durable told) (c.loop-round.invariant.run told) (c.in_err-put_synced.ensures.puts told) (λ j p. p)
    (λ k puts. puts_now c.args.added.now c.loop-round.round (g.D.Disk.story c.args.disk.now).held (g.D.Disk.story c.loop-round.disk).held k (c.loop-round.invariant.others told) (c.loop-round.invariant.up_to told) puts)

pub loop-round-preserved : goal.loop-round-preserved
loop-round-preserved g c = record {
  faults = c.in_ok-put_synced.ensures.cause.stayed ∙ c.loop-round.invariant.faults;
  run = λ told.
      passes_on (PutsRounds c.args.added.now (g.D.Disk.story c.args.disk.now).held) (PutsRounds c.args.added.now (g.D.Disk.story c.args.disk.now).held) (g.met.D.Disk.sound c.loop-round.disk told) (c.loop-round.invariant.durable told) (c.loop-round.invariant.run told) (c.in_ok-put_synced.ensures.puts told) (λ j p. p)
      (λ k puts. puts_now c.args.added.now c.loop-round.round (g.D.Disk.story c.args.disk.now).held (g.D.Disk.story c.loop-round.disk).held k (c.loop-round.invariant.others told) (c.loop-round.invariant.up_to told) puts);
  laid = c.in_ok-put_synced.ensures.laid;
  durable = c.in_ok-put_synced.ensures.durable;
  others = λ told q none. round_others c.args.added.now c.loop-round.round (g.D.Disk.story c.loop-round.disk).held (g.D.Disk.story c.put_synced.new.disk).held q none (c.in_ok-put_synced.ensures.puts told).held ∙ c.loop-round.invariant.others told q none;
  up_to = λ told differ.
      up_to_more c.args.added.now c.loop-round.round (g.D.Disk.story c.args.disk.now).held (g.D.Disk.story c.loop-round.disk).held differ (c.loop-round.invariant.up_to told differ) (g.D.Disk.story c.put_synced.new.disk).held (c.in_ok-put_synced.ensures.puts told).held (c.in_ok-put_synced.ensures.put told);
}

pub returns-clause-put : goal.returns-clause-put
returns-clause-put g c told =
    let last : c.loop-round.round ≡ c.last_round-last.result = omega arith in
    on_ok_weaker c.put_synced-2.result
    (λ put differ staged.
    put_by_last c.args.added.now c.last_round-last.result (c.last_round-last.result + 1) (g.D.Disk.story c.args.disk.now).held (g.D.Disk.story c.put_synced-2.new.disk).held c.last_round-last.ensures (omega arith)
    (up_to_more c.args.added.now c.last_round-last.result (g.D.Disk.story c.args.disk.now).held (g.D.Disk.story c.loop-round.disk).held differ
    (subst (λ (n : ℕ). IsUpTo c.args.added.now n (g.D.Disk.story c.args.disk.now).held (g.D.Disk.story c.loop-round.disk).held) last (c.loop-round.invariant.up_to told differ)) (g.D.Disk.story c.put_synced-2.new.disk).held (c.put_synced-2.ensures.puts told).held put)
    staged)
    (c.put_synced-2.ensures.put told)

pub returns-clause-puts : goal.returns-clause-puts
returns-clause-puts g c told =
    let last : c.loop-round.round ≡ c.last_round-last.result = omega arith in
    passes_on (PutsRounds c.args.added.now (g.D.Disk.story c.args.disk.now).held) (PutsRounds c.args.added.now (g.D.Disk.story c.args.disk.now).held) (g.met.D.Disk.sound c.loop-round.disk told) (c.loop-round.invariant.durable told) (c.loop-round.invariant.run told) (c.put_synced-2.ensures.puts told) (λ j p. p)
    (λ k puts.
    puts_now c.args.added.now c.last_round-last.result (g.D.Disk.story c.args.disk.now).held (g.D.Disk.story c.loop-round.disk).held k (c.loop-round.invariant.others told)
    (λ differ. subst (λ (n : ℕ). IsUpTo c.args.added.now n (g.D.Disk.story c.args.disk.now).held (g.D.Disk.story c.loop-round.disk).held) last (c.loop-round.invariant.up_to told differ)) puts)
