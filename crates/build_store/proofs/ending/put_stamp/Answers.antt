use Rattle.std.proofs.lemmas.Result.{IfOk-weaker, on_ok_weaker}
use Rattle.build_store.proofs.Phasing.{laid_freeing}
use Rattle.build_store.proofs.StampRuns.{freed_at, freeing_entries, freeing_publishes, moves_behind, stamp_entries, stamp_publishes, unstamped_own}
use Rattle.build_store.proofs.GoingRuns.{unstamped_at}
use Rattle.build_store.proofs.ending.put_stamp.Goals as goal

pub free_stamp-requires : goal.free_stamp-requires
free_stamp-requires g c told =
    let w = c.requires.at told in
    unstamped_own w.0 c.args.folder.now w.1 (g.D.Disk.story c.args.disk.now) c.args.ticket (g.met.D.Disk.sound c.args.disk.now told) w.2

pub rename_staged_stamp-requires-clause-laid_out : goal.rename_staged_stamp-requires-clause-laid_out
rename_staged_stamp-requires-clause-laid_out g c told =
    laid_freeing c.args.folder.now (g.D.Disk.story c.args.disk.now).held (g.D.Disk.story c.free_stamp.new.disk).held (c.free_stamp.ensures.frees told).held (c.requires.laid_out told)

pub rename_staged_stamp-requires-clause-at : goal.rename_staged_stamp-requires-clause-at
rename_staged_stamp-requires-clause-at g c told =
    let w = c.requires.at told in
    (w.0, w.1, freed_at w.0 c.args.folder.now w.1 c.args.ticket (c.free_stamp.ensures.frees told) w.2)

pub returns-in_err-free_stamp-clause-publishing : goal.returns-in_err-free_stamp-clause-publishing
returns-in_err-free_stamp-clause-publishing g c told = λ p own is.
    freeing_publishes p c.args.folder.now own (g.met.D.Disk.sound c.args.disk.now told) (unstamped_at p (g.D.Disk.story c.args.disk.now) c.args.ticket is) (c.free_stamp.ensures.frees told)

pub returns-in_err-free_stamp-clause-keeps : goal.returns-in_err-free_stamp-clause-keeps
returns-in_err-free_stamp-clause-keeps g c told = λ p own is. freeing_entries p c.args.folder.now own (c.free_stamp.ensures.frees told)

pub returns-in_err-free_stamp-clause-laid_out : goal.returns-in_err-free_stamp-clause-laid_out
returns-in_err-free_stamp-clause-laid_out g c told =
    laid_freeing c.args.folder.now (g.D.Disk.story c.args.disk.now).held (g.D.Disk.story c.free_stamp.new.disk).held (c.free_stamp.ensures.frees told).held (c.requires.laid_out told)

pub returns-clause-at : goal.returns-clause-at
returns-clause-at g c told =
    IfOk-weaker c.rename_staged_stamp.result _ _ (λ next at. λ p own is. at p own (freed_at p c.args.folder.now own c.args.ticket (c.free_stamp.ensures.frees told) is)) (c.rename_staged_stamp.ensures.at told)

pub returns-clause-publishing : goal.returns-clause-publishing
returns-clause-publishing g c told = λ p own is.
    stamp_publishes p c.args.folder.now own c.args.ticket (g.met.D.Disk.sound c.args.disk.now told) (g.met.D.Disk.sound c.free_stamp.new.disk told) is (c.free_stamp.ensures.frees told)
    (c.rename_staged_stamp.ensures.finishes told p own (freed_at p c.args.folder.now own c.args.ticket (c.free_stamp.ensures.frees told) is))

pub returns-clause-keeps : goal.returns-clause-keeps
returns-clause-keeps g c told = λ p own is.
    stamp_entries p c.args.folder.now own (c.free_stamp.ensures.frees told) (c.rename_staged_stamp.ensures.finishes told p own (freed_at p c.args.folder.now own c.args.ticket (c.free_stamp.ensures.frees told) is))

pub returns-clause-moves : goal.returns-clause-moves
returns-clause-moves g c told =
    on_ok_weaker c.rename_staged_stamp.result (λ moves. moves_behind c.args.folder.now (g.D.Disk.story c.args.disk.now).held (g.D.Disk.story c.args.disk.now).held (g.D.Disk.story c.free_stamp.new.disk).held (g.D.Disk.story c.rename_staged_stamp.new.disk).held (c.free_stamp.ensures.frees told).held moves)
    (c.rename_staged_stamp.ensures.moves told)
