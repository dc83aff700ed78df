-- The names of a key, and what its task's line says.
use Rattle.std.proofs.Common.{◌≡◌, ◌++◌, refl, sym, ◌∙◌, ap, subst, ℕ, List, ◌∷◌, Bool, true, false, ◌||◌, Option, Some, None, is_some, Result, Ok, bytes_eq, codes, if◌then◌else◌}
use Rattle.meta_model.proofs.Bools.{or_first, text_itself}
use Rattle.meta_model.proofs.Room.{ok_parts}
use Rattle.meta_model.specs.declared.entry.EntryLine.{EntryLine}
use Rattle.meta_model.specs.declared.value.Resolved.{Resolved}
use Rattle.meta_model.specs.declared.value.Key.{Key}
use Rattle.meta_model.specs.Refusal.{Refusal, ◌>>=◌}
use Rattle.meta_model.specs.Text.{is_in, in_byte_order}
use Rattle.meta_model.specs.Forms.{asked_by}
use Rattle.task_model.specs.Leads.{View, Led, view_of, value_words, flag_words, exported, starting, without}
use Rattle.task_model.specs.Keys.{led_to, Told, IsLeast, key, key_over, lines_of, reached, own_value, task_value}
use Rattle.task_model.specs.Scripts.{line_names, value_at, flag_at, is_sstate_of}
use Rattle.meta_model.specs.Ascending.{Ascending}
use Rattle.meta_model.proofs.Ordered.{ordered_in, ordered_ascending, ascending_same}
use Rattle.task_model.proofs.Least.{NoOthers, reached_closed, reached_holds, reached_least, reached_ascending}
use Rattle.task_model.proofs.Leaders.{store_view, view_is, no_others}
use Rattle.task_model.proofs.KeyLines.{all_lines}
use Rattle.task_model.proofs.LawParts.{task_flag}
use Rattle.task_model.proofs.KeyLaw.{made_of}

-- the least set

in_order : (names : List (List ℕ)) → Ascending names → in_byte_order names ≡ names
in_order names a = ascending_same (in_byte_order names) names (ordered_ascending names) a (λ x. ordered_in names x)

-- what is reached is the least set, where the leaders alone lead on
pub over_view : (view : View) → NoOthers view → (start : List (List ℕ)) → IsLeast (led_to view) start (reached view start)
over_view view none start = record {
  ordered = in_order (reached view start) (reached_ascending view start);
  holds = λ name h. reached_holds view start name h;
  closed = λ from name h k. reached_closed view none start from name h k;
  least = λ other holds closed name h. reached_least view start (λ x. is_in x other ≡ true) holds (λ m x there k. closed m x there k) name h;
}

pub reached_is_least : (store : List EntryLine) (task : List ℕ) (view : View) → view_of store task ≡ Ok view → (start : List (List ℕ)) → IsLeast (led_to view) start (reached view start)
reached_is_least store task view e start =
    let is = view_is store task view e in
    over_view view (subst NoOthers is.2 (no_others store task is.0 is.1)) start

both_ways : (a b : Bool) → (a ≡ true → b ≡ true) → (b ≡ true → a ≡ true) → a ≡ b
both_ways true b h k = sym (h refl)
both_ways false true h k = k refl
both_ways false false h k = refl

-- there is one such list alone
pub one_least : (led : List ℕ → List (List ℕ)) (start a b : List (List ℕ)) → IsLeast led start a → IsLeast led start b → a ≡ b
one_least led start a b p q =
    ascending_same a b (subst Ascending p.ordered (ordered_ascending a)) (subst Ascending q.ordered (ordered_ascending b))
    (λ x. both_ways (is_in x a) (is_in x b) (p.least b q.holds q.closed x) (q.least a p.holds p.closed x))

-- the lines of a key

pub record MadeFrom (view : View) (made : Key) : Type 0 where
  pub start : Led
  pub start_is : starting view ≡ Ok start
  pub told : List Told
  pub told_is : lines_of view (reached view start.names) ≡ Ok told
  pub made_is : made_of start told ≡ made

pub made_from : (view : View) (made : Key) → key_over view ≡ Ok made → MadeFrom view made
made_from view made e =
    let start = ok_parts (starting view) (λ start. lines_of view (reached view start.names) >>= (λ told. Ok (made_of start told))) made e in
    let told = ok_parts (lines_of view (reached view start.0.names)) (λ told. Ok (made_of start.0 told)) made start.2 in
    record { start = start.0; start_is = start.1; told = told.0; told_is = told.1; made_is = (let k : Ok (made_of start.0 told.0) ≡ Ok made = told.2 in cc) }

same_led : (a b : Led) (m : Result Led Refusal) → m ≡ Ok a → m ≡ Ok b → a ≡ b
same_led a b m e h = let k : Ok a ≡ Ok b = sym e ∙ h in cc

pub names_are_reached : (view : View) (made : Key) (start : Led) → key_over view ≡ Ok made → starting view ≡ Ok start → line_names made ≡ reached view start.names
names_are_reached view made start e s =
    let from = made_from view made e in
    let same : from.start ≡ start = same_led from.start start (starting view) from.start_is s in
    ap (λ k. line_names k) (sym from.made_is) ∙ (all_lines view (reached view from.start.names) from.told from.told_is).named ∙ ap (λ l. reached view l.names) same

-- a key starts with its task

abbrev start_of : View → Led → Led
start_of view others = record { names = view.task ∷ others.names; left_out = is_some (asked_by view.task) || others.left_out }

task_starts : (view : View) (start : Led) → starting view ≡ Ok start → is_in view.task start.names ≡ true
task_starts view start e =
    let after = ok_parts (flag_words view view.task (codes "postfuncs")) (λ after. flag_words view view.task (codes "prefuncs") >>= (λ before. Ok (start_of view (without view.ignored (before ++ (after ++ exported view)))))) start e in
    let before = ok_parts (flag_words view view.task (codes "prefuncs")) (λ before. Ok (start_of view (without view.ignored (before ++ (after.0 ++ exported view))))) start after.2 in
    let start_is : start_of view (without view.ignored (before.0 ++ (after.0 ++ exported view))) ≡ start = let k : Ok (start_of view (without view.ignored (before.0 ++ (after.0 ++ exported view)))) ≡ Ok start = before.2 in cc in
    subst (λ l. is_in view.task l.names ≡ true) start_is (or_first (bytes_eq view.task view.task) (is_in view.task (without view.ignored (before.0 ++ (after.0 ++ exported view))).names) (text_itself view.task))

-- what the task's line has, also where something is left out
task_line : (view : View) (made : Key) → key_over view ≡ Ok made → (value : Option Resolved) × (value_at made.lines view.task ≡ Some (task_value view value))
task_line view made e =
    let from = made_from view made e in
    let there = reached_holds view from.start.names view.task (task_starts view from.start from.start_is) in
    let at = (all_lines view (reached view from.start.names) from.told from.told_is).at view.task there in (
      at.parts.value,
      ap (λ k. value_at k.lines view.task) (sym from.made_is) ∙ at.at ∙ sym (ap (λ t. t.line.value) at.parts.told_is) ∙ ap (λ b. own_value view b at.parts.value) (text_itself view.task),
    )

some_or_none : (b : Bool) → is_some (if b then Some (codes "1") else None) ≡ b
some_or_none true = refl
some_or_none false = refl

sstate_over : (view : View) (made : Key) → key_over view ≡ Ok made → is_sstate_of made view.task ≡ view.sstate
sstate_over view made e =
    let line = task_line view made e in
    ap (λ v. is_some (flag_at (codes "sstate") v)) line.1 ∙ ap is_some (task_flag view line.0 (codes "sstate")) ∙ some_or_none view.sstate

pub sstate_is : (store : List EntryLine) (task : List ℕ) (made : Key) (tasks : List (List ℕ)) → key store task ≡ Ok made → value_words store (codes "SSTATETASKS") ≡ Ok tasks → is_sstate_of made task ≡ is_in task tasks
sstate_is store task made tasks e words =
    let view = ok_parts (view_of store task) key_over made e in
    let ignored = ok_parts (value_words store (codes "BB_BASEHASH_IGNORE_VARS")) (λ ignored. value_words store (codes "SSTATETASKS") >>= (λ sstate. Ok (store_view store task ignored sstate))) view.0 view.1 in
    let sstate = ok_parts (value_words store (codes "SSTATETASKS")) (λ sstate. Ok (store_view store task ignored.0 sstate)) view.0 ignored.2 in
    let own = store_view store task ignored.0 sstate.0 in
    let is : own ≡ view.0 = let k : Ok own ≡ Ok view.0 = sstate.2 in cc in
    let over : key_over own ≡ Ok made = subst (λ v. key_over v ≡ Ok made) (sym is) view.2 in
    let same : sstate.0 ≡ tasks = let k : Ok sstate.0 ≡ Ok tasks = sym sstate.1 ∙ words in cc in
    sstate_over own made over ∙ ap (λ l. is_in task l) same
