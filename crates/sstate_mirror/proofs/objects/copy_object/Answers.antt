use Rattle.std.proofs.Common.{◌≡◌, ◌≤◌, ◌∙◌, All, length, sym, subst}
use Rattle.std.specs.Prelude.{MatchBool}
use Rattle.outside_traits.specs.Store.{HoldsTree, Store}
use Rattle.outside_traits.proofs.Calls.{then_same}
use Rattle.sstate_objects.specs.Matching.{IsMatching}
use Rattle.store_model.specs.Available.{object_folder}
use Rattle.store_upgrade.proofs.Copied.{never_matched}
use Rattle.sstate_mirror.proofs.Copied.{copy_none, copy_put, puts_round, puts_same, was_there}
use Rattle.sstate_mirror.proofs.Refused.{disk_none}
use Rattle.sstate_mirror.proofs.objects.copy_object.Goals as goal

pub returns-then-is_some-clause-copied : goal.returns-then-is_some-clause-copied
returns-then-is_some-clause-copied g c told tells =
    copy_none (object_folder c.args.from.now) (object_folder c.args.to.now) c.args.manifest.now (g.M.Disk.story c.args.mirror.now).held (g.D.Disk.story c.args.disk.now).held (g.D.Disk.story c.read_verified.new.disk).held
    (c.in_ok-read_verified.ensures.others told).held
    (was_there (object_folder c.args.to.now) c.args.manifest.now (g.D.Disk.story c.args.disk.now).held c.in_ok-read_verified.field-0 (c.in_ok-read_verified.ensures.found told) (sym c.is_some.ensures ∙ c.if-is_some.true))

pub returns-then-is_some-clause-puts : goal.returns-then-is_some-clause-puts
returns-then-is_some-clause-puts g c told = puts_same (object_folder c.args.to.now) c.args.manifest.now (g.D.Disk.story c.args.disk.now) (g.D.Disk.story c.read_verified.new.disk) (c.in_ok-read_verified.ensures.others told)

pub returns-in_err-read_verified-clause-puts : goal.returns-in_err-read_verified-clause-puts
returns-in_err-read_verified-clause-puts g c told = puts_same (object_folder c.args.to.now) c.args.manifest.now (g.D.Disk.story c.args.disk.now) (g.D.Disk.story c.read_verified.new.disk) (c.in_err-read_verified.ensures.others told)

pub returns-in_ok-put_short-in-Some-clause-copied : goal.returns-in_ok-put_short-in-Some-clause-copied
returns-in_ok-put_short-in-Some-clause-copied g c told tells =
    copy_put (object_folder c.args.from.now) (object_folder c.args.to.now) c.args.manifest.now (g.M.Disk.story c.args.mirror.now).held (g.D.Disk.story c.args.disk.now).held (g.D.Disk.story c.put_short.new.disk).held c.in-Some.tree c.in_ok-put_short-in-Some.field-0
    c.requires.short
    (subst (IsMatching (object_folder c.args.from.now) c.args.manifest.now (g.M.Disk.story c.args.mirror.now).held) c.in-Some.is (c.in_ok-tree.ensures.found tells))
    (never_matched (object_folder c.args.to.now) c.args.manifest.now (g.D.Disk.story c.args.disk.now).held c.in_ok-read_verified.field-0 (c.in_ok-read_verified.ensures.found told) (sym c.is_some.ensures ∙ c.if-is_some.false))
    (subst (λ (h : Store). MatchBool c.in_ok-put_short-in-Some.field-0 (HoldsTree (object_folder c.args.to.now) c.in-Some.tree (g.D.Disk.story c.put_short.new.disk).held)
    ((All (λ e. length e.0 ≤ 3072) c.in-Some.tree → ⊥) × ((g.D.Disk.story c.put_short.new.disk).held ≡ h))) (c.in_ok-read_verified.ensures.others told).held (c.in_ok-put_short-in-Some.ensures.made told))

pub returns-in_ok-put_short-in-Some-clause-puts : goal.returns-in_ok-put_short-in-Some-clause-puts
returns-in_ok-put_short-in-Some-clause-puts g c told =
    puts_round (object_folder c.args.to.now) c.args.manifest.now (g.D.Disk.story c.args.disk.now) (g.D.Disk.story c.read_verified.new.disk) (g.D.Disk.story c.put_short.new.disk) (c.in_ok-read_verified.ensures.others told) (c.in_ok-put_short-in-Some.ensures.round told)
    (never_matched (object_folder c.args.to.now) c.args.manifest.now (g.D.Disk.story c.args.disk.now).held c.in_ok-read_verified.field-0 (c.in_ok-read_verified.ensures.found told) (sym c.is_some.ensures ∙ c.if-is_some.false))

pub returns-in_err-read_verified-clause-none : goal.returns-in_err-read_verified-clause-none
returns-in_err-read_verified-clause-none g c = disk_none c.from_residual.result c.in_err-read_verified.field-0.0 c.from_residual.ensures.1

pub returns-in_err-put_short-in-Some-clause-none : goal.returns-in_err-put_short-in-Some-clause-none
returns-in_err-put_short-in-Some-clause-none g c = disk_none c.from_residual-in_err-put_short-in-Some.result c.in_err-put_short-in-Some.field-0.0 c.from_residual-in_err-put_short-in-Some.ensures.1

pub returns-in_ok-put_short-in-Some-clause-idle : goal.returns-in_ok-put_short-in-Some-clause-idle
returns-in_ok-put_short-in-Some-clause-idle g c told none = then_same (c.in_ok-read_verified.ensures.others told) (c.in_ok-put_short-in-Some.ensures.idle told none)
