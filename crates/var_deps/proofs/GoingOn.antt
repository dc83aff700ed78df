-- Walks of tasks that go on from what the exported names lead to for others.
use Rattle.std.proofs.Common.{◌≡◌, sym, ◌∙◌, ap, subst, ℕ, true, false, not, List, [], ◌++◌, filter, None, Result, Ok, Err, bytes_eq, codes, inl, inr}
use Rattle.meta_model.proofs.Bools.{either_way, same_text, text_itself}
use Rattle.meta_model.proofs.Room.{ok_parts}
use Rattle.meta_model.proofs.Winner.{in_filter, filter_passes}
use Rattle.meta_model.specs.Refusal.{Refusal, ◌>>=◌}
use Rattle.meta_model.specs.Text.{is_in}
use Rattle.task_model.specs.Leads.{View, Led, by_value, by_flags, flag_words, has_part, is_omitted, without}
use Rattle.task_model.specs.Keys.{Told, IsLeast, led_to, names_led}
use Rattle.task_model.proofs.Agree.{in_front, in_behind}
use Rattle.task_model.proofs.Least.{in_either}
use Rattle.task_model.proofs.ScriptLaw.{filter_in}
use Rattle.name_walk.specs.Walk.{IsWalk}
use Rattle.name_walk.proofs.Steps.{met_cases, met_done, met_todo}
use Rattle.var_deps.specs.declared.table.Table.{Table}
use Rattle.var_deps.specs.Reading.{view_by, led_behind, line_behind}
use Rattle.var_deps.specs.Known.{read_led, read_line}
use Rattle.var_deps.specs.Kept.{IsReady, Shares, task_view}
use Rattle.var_deps.specs.Exports.{plain_led}
use Rattle.meta_model.proofs.Passing.{goes_on}
use Rattle.var_deps.proofs.Tables.{leads_read}
use Rattle.var_deps.proofs.Tabling.{own_led, other_led}

abbrev pub Names : Type 0
Names = List (List ℕ)

-- Where a name leads to no less than for others, and each other name to the same, a walk goes on from what names lead to for
-- others, if what that name leads to is still to be done where it is among that.
pub goes_on_from : (plain led : List ℕ → Names) (task : List ℕ) (names todo reached rest : Names) → IsLeast plain names reached
    → ((from : List ℕ) → bytes_eq from task ≡ false → plain from ≡ led from) → ((x : List ℕ) → is_in x (plain task) ≡ true → is_in x (led task) ≡ true) → is_in task todo ≡ true
    → (is_in task reached ≡ true → (x : List ℕ) → is_in x (led task) ≡ true → is_in x rest ≡ true) → ((x : List ℕ) → is_in x rest ≡ true → is_in x (led task) ≡ true)
    → IsWalk led (todo ++ names) reached (todo ++ rest)
goes_on_from plain led task names todo reached rest least same more own all some = record {
  ordered = least.ordered;
  holds = λ x h. elim (in_either x todo names h) [
    | inl t ↦ met_todo reached (todo ++ rest) x (in_front x todo rest t)
    | inr n ↦ met_done reached (todo ++ rest) x (least.holds x n)
  ];
  closed = λ from x h k. elim (either_way (bytes_eq from task)) [
    | inl e ↦
        let is : from ≡ task = same_text from task e in
        met_todo reached (todo ++ rest) x (in_behind x todo rest (all (subst (λ z. is_in z reached ≡ true) is h) x (subst (λ z. is_in x (led z) ≡ true) is k)))
    | inr f ↦ met_done reached (todo ++ rest) x (least.closed from x h (subst (λ l. is_in x l ≡ true) (sym (same from f)) k))
  ];
  least = λ other holds closed x h. elim (met_cases reached (todo ++ rest) x h) [
    | inl d ↦ filter_passes (λ y. is_in y other) reached x (least.least (filter (λ y. is_in y other) reached)
        (λ y n. in_filter (λ z. is_in z other) reached y (holds y (in_behind y todo names n)) (least.holds y n))
        (λ from y there k. in_filter (λ z. is_in z other) reached y
        (closed from y (filter_passes (λ z. is_in z other) reached from there) (widens from y k))
        (least.closed from y (filter_in (λ z. is_in z other) reached from there) k)) x d)
    | inr t ↦ elim (in_either x todo rest t) [
      | inl k ↦ holds x (in_front x todo names k)
      | inr k ↦ closed task x (holds task (in_front task todo names own)) (some x k)
    ]
  ];
}
  where
    widens : (from y : List ℕ) → is_in y (plain from) ≡ true → is_in y (led from) ≡ true
    widens from y k = elim (either_way (bytes_eq from task)) [
      | inl e ↦
          let is : from ≡ task = same_text from task e in
          subst (λ z. is_in y (led z) ≡ true) (sym is) (more y (subst (λ z. is_in y (plain z) ≡ true) is k))
      | inr f ↦ subst (λ l. is_in y l ≡ true) (same from f) k
    ]

-- a task leads to no less than it does for others, where its own texts can be read

within_without : (omitted a b : Names) (x : List ℕ) → ((y : List ℕ) → is_in y a ≡ true → is_in y b ≡ true) → is_in x (without omitted a).names ≡ true → is_in x (without omitted b).names ≡ true
within_without omitted a b x sub h =
    let there = filter_in (λ n. not (is_omitted omitted n)) (filter has_part a) x h in
    in_filter (λ n. not (is_omitted omitted n)) (filter has_part b) x (filter_passes (λ n. not (is_omitted omitted n)) (filter has_part a) x h)
    (in_filter has_part b x (filter_passes has_part a x there) (sub x (filter_in has_part a x there)))

abbrev led_from : Names → Result Names Refusal → Result Names Refusal → Result Names Refusal → Result Names Refusal → Result Led Refusal
led_from ignored v f d e = (v >>= λ value. f >>= λ flags. d >>= λ deps. Ok (value ++ (flags ++ deps))) >>= λ all. e >>= λ excluded. Ok (without (ignored ++ excluded) all)

more_from : (ignored : Names) (v f d e : Result Names Refusal) (led : Led) (x : List ℕ) → led_from ignored v f d e ≡ Ok led → is_in x (names_led (led_from ignored v (Ok []) d e)) ≡ true → is_in x (names_led (led_from ignored v f d e)) ≡ true
more_from ignored (Ok value) (Ok flags) (Ok deps) (Ok excluded) led x is h =
    within_without (ignored ++ excluded) (value ++ deps) (value ++ (flags ++ deps)) x (λ y k. elim (in_either y value deps k) [
      | inl a ↦ in_front y value (flags ++ deps) a
      | inr b ↦ in_behind y value (flags ++ deps) (in_behind y flags deps b)
    ]) h
more_from ignored (Ok value) (Ok flags) (Ok deps) (Err refusal) led x is h = absurd cc
more_from ignored (Ok value) (Ok flags) (Err refusal) e led x is h = absurd cc
more_from ignored (Ok value) (Err refusal) d e led x is h = absurd cc
more_from ignored (Err refusal) f d e led x is h = absurd cc

own_leads_more : (view : View) (name x : List ℕ) (told : Told) → read_line view true name ≡ Ok told → is_in x (names_led (read_led view false name)) ≡ true → is_in x (names_led (read_led view true name)) ≡ true
own_leads_more view name x told e h =
    let found = ok_parts (view.find.at name) (λ found. led_behind view true name found >>= λ led. line_behind view true name found led) told e in
    let led = ok_parts (led_behind view true name found.0) (λ led. line_behind view true name found.0 led) told found.2 in
    let less : read_led view false name ≡ led_behind view false name found.0 = goes_on (view.find.at name) found.0 (led_behind view false name) found.1 in
    let more : read_led view true name ≡ led_behind view true name found.0 = goes_on (view.find.at name) found.0 (led_behind view true name) found.1 in
    subst (λ l. is_in x (names_led l) ≡ true) (sym more)
    (more_from view.ignored (by_value view name found.0) (by_flags view true) (flag_words view name (codes "vardeps")) (flag_words view name (codes "vardepsexclude")) led.0 x led.1
    (subst (λ l. is_in x (names_led l) ≡ true) less h))

-- what a name leads to for others is what it leads to in the view of a task that sees the store as it is
plain_is : (t : Table) (name : List ℕ) → t.shared.seen.task ≡ None → plain_led t.shared.seen.store.now t.shared.ignored name ≡ names_led (read_led (task_view t) false name)
plain_is t name e = ap (λ o. names_led (read_led (view_by t.shared.seen.store.now o t.shared.ignored t.sstate t.task) false name)) (sym e)

-- the walk of a task that shares what the exported names lead to
pub walk_shared : (t : Table) (names todo reached rest : Names) → IsReady t → Shares t → IsLeast (plain_led t.shared.seen.store.now t.shared.ignored) names reached → is_in t.task todo ≡ true
    → (is_in t.task reached ≡ true → (x : List ℕ) → is_in x (led_to (task_view t) t.task) ≡ true → is_in x rest ≡ true) → ((x : List ℕ) → is_in x rest ≡ true → is_in x (led_to (task_view t) t.task) ≡ true)
    → IsWalk (led_to (task_view t)) (todo ++ names) reached (todo ++ rest)
walk_shared t names todo reached rest ready shares least own all some =
    let view = task_view t in
    goes_on_from (plain_led t.shared.seen.store.now t.shared.ignored) (led_to view) t.task names todo reached rest least
    (λ from f. plain_is t from shares.seen ∙ other_led view from f)
    (λ x h. subst (λ l. is_in x (names_led l) ≡ true) (sym (leads_read view true t.task (text_itself t.task)))
    (own_leads_more view t.task x shares.told.0 shares.told.1 (subst (λ l. is_in x l ≡ true) (plain_is t t.task shares.seen) h)))
    own all some

-- the names that the task leads to are kept
pub kept_led : (t : Table) → IsReady t → t.own.led.items ≡ led_to (task_view t) t.task
kept_led t ready = own_led (task_view t) t.task t.own.led.items (text_itself t.task) ready.own.led
