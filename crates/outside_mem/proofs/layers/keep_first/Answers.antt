use Rattle.std.proofs.Common.{◌≡◌, List, ℕ, sym, ◌∙◌, false, subst}
use Rattle.std.specs.Option.{is_some}
use Rattle.std.specs.String.{string_bytes}
use Rattle.std.specs.BTreeMap.{get_by_text}
use Rattle.outside_mem.specs.Layers.{with_file}
use Rattle.outside_mem.proofs.Files.{with_new}
use Rattle.outside_mem.proofs.layers.keep_first.Goals as goal

pub returns-in_ok-insert : goal.returns-in_ok-insert
returns-in_ok-insert c =
    let P : List ℕ → Type 0 = λ bs. is_some (get_by_text c.args.held.now bs) ≡ false → get_by_text c.insert.new.self ≡ with_file bs c.args.bytes (get_by_text c.args.held.now) in
    let none : is_some (get_by_text c.args.held.now c.args.path.now) ≡ false = sym c.contains_key.ensures ∙ c.if-not-contains_key.true in
    subst P c.in_ok-from_str.ensures.ok (λ n. with_new c.args.held.now c.insert.new.self (string_bytes c.in_ok-from_str.field-0) c.args.bytes n c.in_ok-insert.ensures.updates) none
