use Rattle.std.proofs.Common.{◌∙◌, sym, ap, Option}
use Rattle.std.specs.Option.{option_map}
use Rattle.run_tests.specs.declared.index.Row.{Row}
use Rattle.run_tests.proofs.Rows.{unihash_here}
use Rattle.run_tests.proofs.index.IndexProbe.unihash.Goals as goal

pub returns-in-Some : goal.returns-in-Some
returns-in-Some c = ap (λ (o : Option Row). option_map (λ r. r.unihash) o) c.in-Some.ensures.value ∙ sym (unihash_here c.args.name.now c.args.self.now.rows)

pub returns-in-None : goal.returns-in-None
returns-in-None c = ap (λ (o : Option Row). option_map (λ r. r.unihash) o) c.in-None.ensures.value ∙ sym (unihash_here c.args.name.now c.args.self.now.rows)
