use Rattle.std.proofs.Common.{◌∙◌, ap, sym, subst, ◌++◌, ◌∷◌, []}
use Rattle.std.specs.Map.{values_of}
use Rattle.std.proofs.lemmas.List.{map-append}
use Rattle.record_move.specs.Known.{AreNamed, key_named}
use Rattle.record_move.proofs.Keeping.{found_by_name, named_more, put_last}
use Rattle.record_move.proofs.keys.KnownKeys.put.Goals as goal

pub invariant_of-self-2 : goal.invariant_of-self-2
invariant_of-self-2 c =
    let name = c.args.name in
    let es = c.self.inside.by_name.entries in
    let none = found_by_name name es c.self.invariant ∙ ap (λ keys. key_named keys name) c.self.view_is ∙ c.requires.new in
    subst AreNamed (sym (c.in_ok-insert.ensures.entries ∙ put_last es name.bytes c.args.key none)) (named_more es name.bytes c.args.key c.self.invariant c.requires.named)

pub returns-clause-ok : goal.returns-clause-ok
returns-clause-ok c =
    let name = c.args.name in
    let es = c.self.inside.by_name.entries in
    let none = found_by_name name es c.self.invariant ∙ ap (λ keys. key_named keys name) c.self.view_is ∙ c.requires.new in
    ap values_of (c.in_ok-insert.ensures.entries ∙ put_last es name.bytes c.args.key none)
    ∙ map-append (λ e. e.1) es ((name.bytes, c.args.key) ∷ []) ∙ ap (λ keys. keys ++ c.args.key ∷ []) c.self.view_is
