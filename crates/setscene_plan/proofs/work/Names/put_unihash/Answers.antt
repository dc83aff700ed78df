use Rattle.std.proofs.Common.{◌≡◌, true, false}
use Rattle.setscene_plan.proofs.Working.{put_other, put_same}
use Rattle.setscene_plan.proofs.work.Names.put_unihash.Goals as goal

pub returns-then-are_same-clause-put : goal.returns-then-are_same-clause-put
returns-then-are_same-clause-put c = put_same c.args.self.now.unihashes.items c.args.place c.index.result.now c.args.unihash c.index.ensures c.if-are_same.ensures

pub returns-clause-changed : goal.returns-clause-changed
returns-clause-changed c = record {
  same = λ e. absurd (let f : true ≡ false = e in cc);
  other = λ e. put_other c.args.self.now.unihashes.items c.args.place c.index.result.now c.args.unihash c.requires c.index.ensures c.if-are_same.ensures;
}
