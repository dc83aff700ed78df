use Rattle.std.proofs.Common.{sym, ◌∙◌, arith}
use Rattle.std.proofs.lemmas.Grind.{common_steps}
use Rattle.std.proofs.lemmas.Str.{IsCharBoundary-after_ascii}
use Rattle.meta_model.proofs.Splits.{split_at_first-some, split_at_first-none}
use Rattle.meta_model.proofs.cuts.split_at.Goals as goal

pub range_from-requires : goal.range_from-requires
range_from-requires c = λ _. let h = rw c.as_bytes.ensures.value at c.in-Some.ensures.stands in
    IsCharBoundary-after_ascii c.args.line.now c.in-Some.at c.utf8.line h.0 (omega (arith, h.1, c.requires))

pub returns-in-Some : goal.returns-in-Some
returns-in-Some c = let h = rw c.as_bytes.ensures.value at (sym c.place_of.ensures.first ∙ c.in-Some.is) in
    let e = split_at_first-some c.args.byte c.args.line.now c.in-Some.at h in rw e (grind (arith, common_steps))

pub returns-in-None : goal.returns-in-None
returns-in-None c = let h = rw c.as_bytes.ensures.value at (sym c.place_of.ensures.first ∙ c.in-None.is) in
    split_at_first-none c.args.byte c.args.line.now h
