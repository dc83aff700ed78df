use Rattle.std.proofs.Common.{◌∙◌, sym}
use Rattle.std.proofs.lemmas.Result.{on_ok_weaker}
use Rattle.store_model.specs.Available.{object_folder}
use Rattle.store_upgrade.proofs.Copied.{matches_now, matching_tree, never_matched, round_after, round_none, short_tree}
use Rattle.store_upgrade.proofs.objects.copy_object.Goals as goal

pub returns-in-Some-clause-copied : goal.returns-in-Some-clause-copied
returns-in-Some-clause-copied g c told =
    let m = matching_tree (object_folder c.args.from.now) c.args.manifest.now (g.D.Disk.story c.read_verified.new.disk).held c.in_ok-tree.field-0 c.in-Some.tree c.in-Some.is (c.in_ok-tree.ensures.found told) in
    on_ok_weaker c.put_short.result
    (λ holds was. matches_now (object_folder c.args.to.now) c.args.manifest.now c.in-Some.tree (g.D.Disk.story c.put_short.new.disk).held m (holds (short_tree c.args.manifest.now c.in-Some.tree m.1 c.requires.short)))
    (c.put_short.ensures.held told)

pub returns-in-Some-clause-round : goal.returns-in-Some-clause-round
returns-in-Some-clause-round g c told =
    round_after (object_folder c.args.to.now) (g.D.Disk.story c.args.disk.now) (g.D.Disk.story c.read_verified.new.disk) (g.D.Disk.story c.read_verified-2.new.disk) (g.D.Disk.story c.put_short.new.disk)
    (c.in_ok-read_verified.ensures.others told) (c.in_ok-tree.ensures.others told) (c.put_short.ensures.round told)

pub returns-in-None-clause-round : goal.returns-in-None-clause-round
returns-in-None-clause-round g c told =
    round_none (object_folder c.args.to.now) (g.D.Disk.story c.args.disk.now) (g.D.Disk.story c.read_verified.new.disk) (g.D.Disk.story c.read_verified-2.new.disk) (c.in_ok-read_verified.ensures.others told) (c.in_ok-tree.ensures.others told)

pub returns-in-Some-clause-kept : goal.returns-in-Some-clause-kept
returns-in-Some-clause-kept g c told = on_ok_weaker c.put_short.result (λ holds was. absurd (never_matched (object_folder c.args.to.now) c.args.manifest.now (g.D.Disk.story c.args.disk.now).held c.in_ok-read_verified.field-0 (c.in_ok-read_verified.ensures.found told) (sym c.is_some.ensures ∙ c.if-is_some.false) was)) (c.put_short.ensures.held told)
