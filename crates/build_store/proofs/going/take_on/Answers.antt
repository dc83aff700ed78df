use Rattle.std.proofs.Common.{sym, refl}
use Rattle.store_opening.proofs.Clean.{name_slashes}
use Rattle.build_store.specs.OpenOnes.{items_of, put_by}
use Rattle.build_store.proofs.going.take_on.Goals as goal

pub take_out-requires-clause-at : goal.take_out-requires-clause-at
take_out-requires-clause-at g c told =
    let w = c.requires.at told in
    (put_by c.args.one.now w.0, (items_of c.args.one.now, sym c.as_str.ensures, w.1))

pub returns-clause-half : goal.returns-clause-half
returns-clause-half g c told = λ f is. c.in_ok-take_out.ensures.half told (put_by c.args.one.now f) (sym c.as_str.ensures) refl c.requires.fit.is_tree (items_of c.args.one.now) is

pub returns-in_err-take_out-clause-opens : goal.returns-in_err-take_out-clause-opens
returns-in_err-take_out-clause-opens g c told = λ f is. c.take_out.ensures.opens told (put_by c.args.one.now f) (sym c.as_str.ensures) refl (items_of c.args.one.now) is

pub returns-clause-opens : goal.returns-clause-opens
returns-clause-opens g c told = λ f is. c.take_out.ensures.opens told (put_by c.args.one.now f) (sym c.as_str.ensures) refl (items_of c.args.one.now) is

pub returns-in_err-take_out-clause-brief : goal.returns-in_err-take_out-clause-brief
returns-in_err-take_out-clause-brief g c told = c.take_out.ensures.brief told (λ unihash some. name_slashes unihash (c.requires.fit.object unihash some))

pub returns-clause-brief : goal.returns-clause-brief
returns-clause-brief g c told = c.take_out.ensures.brief told (λ unihash some. name_slashes unihash (c.requires.fit.object unihash some))
