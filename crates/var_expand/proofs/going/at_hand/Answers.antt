use Rattle.std.proofs.Common.{◌∙◌, refl, sym, false}
use Rattle.std.proofs.lemmas.Result.{err_from_is_err_and}
use Rattle.var_expand.specs.declared.going.Going.{Going}
use Rattle.var_expand.specs.Going.{kept_of, has_no_more}
use Rattle.var_expand.proofs.Growing.{kept_at_hand, none_at_hand, plain_at_hand, plain_too_long}
use Rattle.var_expand.proofs.going.at_hand.Goals as goal

pub returns-in-Some-clause-ok : goal.returns-in-Some-clause-ok
returns-in-Some-clause-ok g c =
    let found = rw c.in-Some.is at c.in_ok-kept.ensures in
    let hit = kept_at_hand (g.L.Lookup.finds c.args.from.now) c.args.left c.args.going.now (record { within = c.args.going.now.within; values = c.args.going.now.values; height = c.higher-going.result }) c.args.name.now (kept_of c.in-Some.kept) c.requires found.0 found.1 refl c.higher-going.ensures in
    (hit.0, refl, hit.1, hit.2)

pub returns-in_default-2-clause-ok : goal.returns-in_default-2-clause-ok
returns-in_default-2-clause-ok g c =
    let found = rw (c.in_default-2.is, c.as_slice.ensures.value) at c.in_ok-found.ensures.ok in
    let hit = none_at_hand (g.L.Lookup.finds c.args.from.now) c.args.left c.args.going.now c.args.name.now c.requires found.0 found.1 in
    (hit.0, refl, hit.1, hit.2)

pub returns-in_err-value-clause-err : goal.returns-in_err-value-clause-err
returns-in_err-value-clause-err g c =
    let found = rw (c.in-Some-2.is, c.as_slice.ensures.value) at c.in_ok-found.ensures.ok in
    let p = err_from_is_err_and c.from_residual-in_err-value.result c.from_residual-in_err-value.ensures.1 in
    rw (p.1, p.2) (plain_too_long (g.L.Lookup.finds c.args.from.now) c.args.left c.args.going.now.within.items c.args.name.now c.in-Some-2.found c.in_err-value.field-0.0 found.0 found.1 found.2 (sym c.has_no_more.ensures ∙ c.if-not-has_no_more.false) c.in_err-value.ensures.err)

pub returns-clause-ok : goal.returns-clause-ok
returns-clause-ok g c =
    let found = rw (c.in-Some-2.is, c.as_slice.ensures.value) at c.in_ok-found.ensures.ok in
    let next : Going = record { within = c.args.going.now.within; values = c.args.going.now.values; height = c.higher-going-2.result } in
    let hit = plain_at_hand (g.L.Lookup.finds c.args.from.now) c.args.left c.args.going.now next c.args.name.now c.in_ok-value.value c.in-Some-2.found c.requires found.0 found.1 found.2 (sym c.has_no_more.ensures ∙ c.if-not-has_no_more.false) c.in_ok-value.ensures.ok c.in_ok-value.ensures.fits refl c.higher-going-2.ensures in
    (hit.0, refl, hit.1, hit.2)
