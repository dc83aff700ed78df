use Rattle.tree_model.proofs.AssociativityLemmas.{associates, associates_just_where, removes_too}
use Rattle.tree_model.proofs.laws.overlay_is_associative.Goals as goal

pub returns-clause-just_where : goal.returns-clause-just_where
returns-clause-just_where c =
    associates_just_where c.args.first.now c.args.second.now c.args.third.now c.args.earlier.now c.args.later.now c.args.one.now c.args.other.now
    c.entries-first.ensures.tree c.entries-second.ensures.tree c.entries-third.ensures.tree c.requires.earlier c.requires.later c.requires.one c.requires.other

pub returns-clause-nothing_below : goal.returns-clause-nothing_below
returns-clause-nothing_below c = λ keeps.
    associates c.args.first.now c.args.second.now c.args.third.now c.args.earlier.now c.args.later.now c.args.one.now c.args.other.now
    c.entries-first.ensures.tree c.entries-second.ensures.tree c.entries-third.ensures.tree c.requires.earlier c.requires.later c.requires.one c.requires.other
    (removes_too c.args.first.now c.args.second.now c.args.third.now c.args.later.now c.entries-second.ensures.tree c.entries-third.ensures.tree c.requires.later keeps)
