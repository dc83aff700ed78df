use Rattle.std.proofs.Common.{◌∙◌, ap}
use Rattle.store_model.specs.Rows.{uni}
use Rattle.setscene_plan.specs.View.{View}
use Rattle.setscene_plan.proofs.Renaming.{named_for}
use Rattle.setscene_plan.proofs.Working.{named_one}
use Rattle.setscene_plan.proofs.work.Names.rename.Goals as goal

pub compare-requires : goal.compare-requires
compare-requires g c =
    let view = g.P.Probe.view c.args.probe.now in
    named_for view c.args.plan.now c.args.self.now.names.items c.args.self.now.unihashes.items c.as_slice.result.now c.args.place c.in_ok-made.made.name c.in_ok-made.made.text
    c.requires.plan c.requires.ordered c.requires.place c.as_slice.ensures.value
    (λ t lower. let right = c.requires.before t lower in (right.named, right.hashed)) c.in_ok-made.ensures.name c.in_ok-made.ensures.text

pub returns-clause-renamed : goal.returns-clause-renamed
returns-clause-renamed g c =
    named_one (g.P.Probe.view c.args.probe.now).rows c.args.plan.now.tasks c.args.place c.args.self.now c.put.new.self c.put_unihash.new.self c.in_ok-made.made.name c.unihash_of.result c.in_ok-made.made.text c.as_slice.result.now
    c.requires.place c.requires.names c.requires.unihashes c.as_slice.ensures.value c.in_ok-made.ensures.name c.in_ok-made.ensures.text c.in_ok-compare.ensures.clear
    c.put.ensures.names c.put.ensures.unihashes c.put_unihash.ensures.unihashes c.put_unihash.ensures.put
    (c.unihash_of.ensures ∙ ap (λ (v : View). uni v.rows c.in_ok-made.made.name) c.compare.ensures.same) c.in_ok-put.ensures.found c.in_ok-put.ensures.others
