use Rattle.std.proofs.Common.{◌∙◌, sym, ap, subst, List, ℕ, false, Some}
use Rattle.tree_model.specs.declared.entry.Entry.TheVariants.{File}
use Rattle.tree_model.specs.declared.hash.Hash.{Hash}
use Rattle.outside_traits.proofs.Runs.{passes_so}
use Rattle.store_model.specs.Paths.{key_path}
use Rattle.store_opening.specs.Named.{IsName}
use Rattle.build_store.specs.Keys.{PutsKey}
use Rattle.build_store.proofs.KnownKeys.{name_by_digest, puts_by_change, some_held, text_key_is_name}
use Rattle.build_store.proofs.keys.put_key.Goals as goal

pub returns-in-Some-clause-held : goal.returns-in-Some-clause-held
returns-in-Some-clause-held g c told =
    let name = name_by_digest c.of-name.result c.key.result.now c.args.sig.now c.of-name.ensures c.key.ensures in
    some_held c.args.keys.now c.args.sig.now c.of-name.result c.in-Some.field-0.now (g.D.Disk.story c.args.disk.now).held name c.in-Some.ensures c.requires.one

pub write_key-requires-clause-name : goal.write_key-requires-clause-name
write_key-requires-clause-name g c =
    let name = name_by_digest c.of-name.result c.key.result.now c.args.sig.now c.of-name.ensures c.key.ensures in
    subst (λ (h : Hash). IsName h) (sym name) (text_key_is_name c.args.sig.now)

pub returns-in_err-write_key-in-None-clause-puts : goal.returns-in_err-write_key-in-None-clause-puts
returns-in_err-write_key-in-None-clause-puts g c told =
    let name = name_by_digest c.of-name.result c.key.result.now c.args.sig.now c.of-name.ensures c.key.ensures in
    passes_so (PutsKey c.args.keys.now c.args.sig.now) (c.write_key.ensures.others told) (λ i j change. puts_by_change c.args.keys.now c.args.sig.now c.of-name.result name c.in-None.ensures i j change)

pub returns-in_err-know-in-None-clause-puts : goal.returns-in_err-know-in-None-clause-puts
returns-in_err-know-in-None-clause-puts g c told =
    let name = name_by_digest c.of-name.result c.key.result.now c.args.sig.now c.of-name.ensures c.key.ensures in
    passes_so (PutsKey c.args.keys.now c.args.sig.now) (c.write_key.ensures.others told) (λ i j change. puts_by_change c.args.keys.now c.args.sig.now c.of-name.result name c.in-None.ensures i j change)

pub returns-in_ok-know-in-None-clause-puts : goal.returns-in_ok-know-in-None-clause-puts
returns-in_ok-know-in-None-clause-puts g c told =
    let name = name_by_digest c.of-name.result c.key.result.now c.args.sig.now c.of-name.ensures c.key.ensures in
    passes_so (PutsKey c.args.keys.now c.args.sig.now) (c.write_key.ensures.others told) (λ i j change. puts_by_change c.args.keys.now c.args.sig.now c.of-name.result name c.in-None.ensures i j change)

pub returns-in_ok-know-in-None-clause-held : goal.returns-in_ok-know-in-None-clause-held
returns-in_ok-know-in-None-clause-held g c told = λ holds.
    let name = name_by_digest c.of-name.result c.key.result.now c.args.sig.now c.of-name.ensures c.key.ensures in
    let key = c.key-in-None.ensures in
    ap (λ (h : Hash). (g.D.Disk.story c.write_key.new.disk).held (key_path h)) (sym name) ∙ c.in_ok-write_key-in-None.ensures.held told ∙ ap (λ (k : List ℕ). Some (File false k)) key
