use Rattle.std.specs.declared.cmp.Ordering.TheVariants.{Less, Equal, Greater}
use Rattle.std.proofs.lemmas.Map.Lookups.{exact_bytes}
use Rattle.name_walk.proofs.Places.{turned}
use Rattle.name_walk.proofs.Steps.{empty_of}
use Rattle.name_walk.proofs.Firsts.{first_less, first_same, first_more, first_alone, second_alone, compared}
use Rattle.name_walk.proofs.least_of.Goals as goal

pub returns-in-Less : goal.returns-in-Less
returns-in-Less c =
    let first = c.in-Some.first.now in
    let second = c.in-Some-split_first.second.now in
    first_less c.args.one.now c.args.other.now c.in-Some.rest.now c.in-Some-split_first.others.now first second c.in-Some.ensures.cases.0 c.in-Some-split_first.ensures.cases.0 c.requires.one c.requires.other
    (compared c.as_str.result.now c.as_str-in-Some-split_first.result.now first second Less c.in-Less.ensures c.as_str.ensures c.as_str-in-Some-split_first.ensures)

pub returns-in-Equal : goal.returns-in-Equal
returns-in-Equal c =
    let first = c.in-Some.first.now in
    let second = c.in-Some-split_first.second.now in
    first_same c.args.one.now c.args.other.now c.in-Some.rest.now c.in-Some-split_first.others.now first second c.in-Some.ensures.cases.0 c.in-Some-split_first.ensures.cases.0 c.requires.one c.requires.other
    (exact_bytes first second (compared c.as_str.result.now c.as_str-in-Some-split_first.result.now first second Equal c.in-Equal.ensures c.as_str.ensures c.as_str-in-Some-split_first.ensures))

pub returns-in-Greater : goal.returns-in-Greater
returns-in-Greater c =
    let first = c.in-Some.first.now in
    let second = c.in-Some-split_first.second.now in
    first_more c.args.one.now c.args.other.now c.in-Some.rest.now c.in-Some-split_first.others.now first second c.in-Some.ensures.cases.0 c.in-Some-split_first.ensures.cases.0 c.requires.one c.requires.other
    (turned first second Greater (compared c.as_str.result.now c.as_str-in-Some-split_first.result.now first second Greater c.in-Greater.ensures c.as_str.ensures c.as_str-in-Some-split_first.ensures))

pub returns-in-None-split_first : goal.returns-in-None-split_first
returns-in-None-split_first c =
    first_alone c.args.one.now c.args.other.now c.in-Some.rest.now c.in-Some.first.now c.in-Some.ensures.cases.0 (empty_of c.args.other.now c.in-None-split_first.ensures.cases) c.requires.one

pub returns-in-Some-split_first-2 : goal.returns-in-Some-split_first-2
returns-in-Some-split_first-2 c =
    second_alone c.args.one.now c.args.other.now c.in-Some-split_first-2.others.now c.in-Some-split_first-2.second.now (empty_of c.args.one.now c.in-None.ensures.cases) c.in-Some-split_first-2.ensures.cases.0 c.requires.other
