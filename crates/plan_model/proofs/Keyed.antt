-- The lines of a key ascend, and none is an order line.
use Rattle.std.proofs.Common.{◌≡◌, sym, ap, refl, subst, ℕ, List, [], ◌∷◌, map, Bool, true, false, ◌||◌, Ok, All, bytes_eq}
use Rattle.std.specs.List.{AllByRecursion}
use Rattle.std.specs.declared.cmp.Ordering.TheVariants.{Less}
use Rattle.std.proofs.lemmas.List.Elements.{All-from_recursion}
use Rattle.meta_model.proofs.Bools.{not_both, or_first, or_later, same_text, text_itself}
use Rattle.meta_model.proofs.Room.{ok_parts}
use Rattle.meta_model.specs.declared.entry.EntryLine.{EntryLine}
use Rattle.meta_model.specs.declared.value.Key.{Key}
use Rattle.meta_model.specs.declared.value.KeyLine.{KeyLine}
use Rattle.meta_model.specs.Text.{is_in}
use Rattle.task_model.specs.Leads.{View, view_of, has_part}
use Rattle.task_model.specs.Keys.{key, key_over}
use Rattle.meta_model.specs.Ascending.{Above, Ascending}
use Rattle.task_model.proofs.Least.{reached_ascending}
use Rattle.task_model.proofs.Leaders.{view_is}
use Rattle.task_model.proofs.KeyNames.{made_from, names_are_reached}
use Rattle.task_model.proofs.Shared.{names_fit_in}
use Rattle.store_model.specs.Signatures.{is_order, order_name, line_cmp}
use Rattle.store_model.specs.Spelled.{Ascends}

abbrev names_of : List KeyLine → List (List ℕ)
names_of lines = map (λ line. line.name) lines

above_lines : (line : KeyLine) (lines : List KeyLine) → Above line.name (names_of lines) → AllByRecursion (λ y. line_cmp line y ≡ Less) lines
above_lines line [] h = tt
above_lines line (next ∷ lines) h = (h.0, above_lines line lines h.1)

lines_ascend : (lines : List KeyLine) → Ascending (names_of lines) → Ascends line_cmp lines
lines_ascend [] h = tt
lines_ascend (line ∷ lines) h = (above_lines line lines h.0, lines_ascend lines h.1)

-- what holds of each name
each_line : (test : List ℕ → Bool) (lines : List KeyLine) → ((name : List ℕ) → is_in name (names_of lines) ≡ true → test name ≡ false) → AllByRecursion (λ l. test l.name ≡ false) lines
each_line test [] h = tt
each_line test (line ∷ lines) h =
    (h line.name (or_first (bytes_eq line.name line.name) (is_in line.name (names_of lines)) (text_itself line.name)), each_line test lines (λ name k. h name (or_later (bytes_eq name line.name) (is_in name (names_of lines)) k)))

-- the view of a key
viewed : (store : List EntryLine) (task : List ℕ) (made : Key) → key store task ≡ Ok made → (view : View) × (key_over view ≡ Ok made) × (view.task ≡ task)
viewed store task made e =
    let view = ok_parts (view_of store task) key_over made e in
    let is = view_is store task view.0 view.1 in
    (view.0, view.2, sym (ap (λ v. v.task) is.2))

pub key_ascends : (store : List EntryLine) (task : List ℕ) (made : Key) → key store task ≡ Ok made → Ascends line_cmp made.lines
key_ascends store task made e =
    let view = viewed store task made e in
    let from = made_from view.0 made view.1 in
    lines_ascend made.lines (subst Ascending (sym (names_are_reached view.0 made from.start view.1 from.start_is)) (reached_ascending view.0 from.start.names))

-- no name of a key is that of the order line, unless the task's is
pub key_has_no_order : (store : List EntryLine) (task : List ℕ) (made : Key) → bytes_eq task order_name ≡ false → key store task ≡ Ok made → All (λ l. is_order l ≡ false) made.lines
key_has_no_order store task made other e = All-from_recursion (λ l. is_order l ≡ false) made.lines (each_line (λ name. bytes_eq name order_name) made.lines each)
  where
    each : (name : List ℕ) → is_in name (names_of made.lines) ≡ true → bytes_eq name order_name ≡ false
    each name there = by (bytes_eq name order_name) refl
      where
        by : (b : Bool) → bytes_eq name order_name ≡ b → bytes_eq name order_name ≡ false
        by false h = h
        by true h =
            let view = viewed store task made e in
            let is : name ≡ order_name = same_text name order_name h in
            let fits : (has_part name || bytes_eq name view.0.task) ≡ true = names_fit_in view.0 made name view.1 there in
            let same : bytes_eq order_name task ≡ true = subst (λ n. (has_part n || bytes_eq n task) ≡ true) is (subst (λ t. (has_part name || bytes_eq name t) ≡ true) view.2 fits) in
            not_both (bytes_eq task order_name) (subst (λ t. bytes_eq t order_name ≡ true) (same_text order_name task same) (text_itself order_name)) other
