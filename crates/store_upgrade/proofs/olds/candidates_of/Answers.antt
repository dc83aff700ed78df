use Rattle.std.proofs.Common.{◌∙◌, ◌++◌, ◌∷◌, [], ap, map, sym, take, List}
use Rattle.store_model.specs.declared.candidate.Candidate.{Candidate}
use Rattle.store_upgrade.specs.Old.{candidate_of}
use Rattle.store_upgrade.proofs.Olden.{candidates_all, candidates_more, good_at}
use Rattle.store_upgrade.proofs.olds.candidates_of.Goals as goal

pub candidate_of-requires : goal.candidate_of-requires
candidate_of-requires c = good_at c.args.olds.now c.loop-old.old-index c.old-item.result c.loop-old-test.true c.old-item.is c.requires

pub loop-old-preserved : goal.loop-old-preserved
loop-old-preserved c =
    c.in_ok-push.ensures.items ∙ ap (λ (l : List Candidate). l ++ c.in_ok-candidate_of.field-0 ∷ []) c.loop-old.invariant ∙ ap (λ (x : Candidate). map candidate_of (take c.loop-old.old-index c.args.olds.now) ++ x ∷ []) c.in_ok-candidate_of.ensures
    ∙ sym (candidates_more c.args.olds.now c.loop-old.old-index c.old-item.result c.loop-old-test.true c.old-item.is)

pub returns : goal.returns
returns c = c.loop-old.invariant ∙ candidates_all c.args.olds.now c.loop-old.old-index c.loop-old-test.false
