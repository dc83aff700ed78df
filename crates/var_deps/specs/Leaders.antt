-- What is kept is of one store, or of one task of it, in which names that no entry names lead nowhere.
use Rattle.std.proofs.Common.{◌≡◌, ◌∙◌, ap, refl, sym, subst, ℕ, false, List, [], flat_map}
use Rattle.meta_model.specs.Text.{is_in}
use Rattle.meta_model.specs.Base.{flag, names}
use Rattle.meta_model.specs.Active.{find_in}
use Rattle.task_model.specs.Views.{seen_by}
use Rattle.task_model.specs.Keys.{led_to, leaders, fronts, names_led}
use Rattle.task_model.proofs.Least.{NoOthers}
use Rattle.task_model.proofs.Leaders as leading
use Rattle.var_deps.specs.declared.table.Shared.{Shared}
use Rattle.var_deps.specs.declared.table.Table.{Table}
use Rattle.var_deps.specs.Seen.{seen_with}
use Rattle.var_deps.specs.Known.{read_led}
use Rattle.var_deps.specs.Kept.{IsReady, IsRight, IsSame, StaysSo, shared_view, task_view}
use Rattle.var_deps.specs.Absent.{absent_nowhere}

-- what a name leads to for whatever task that has another name and sees the store so
abbrev pub read_of : Shared → List ℕ → List (List ℕ)
read_of s name = names_led (read_led (shared_view s) false name)

unfoldable pub shared_led : Shared → List ℕ → List (List ℕ)
shared_led s = read_of s

pub shared_led_is : (s : Shared) → shared_led s ≡ read_of s
unfolding shared_led
shared_led_is s = refl

-- what a name leads to for the task
unfoldable pub task_led : Table → List ℕ → List (List ℕ)
task_led t = led_to (task_view t)

pub task_led_is : (t : Table) → task_led t ≡ led_to (task_view t)
unfolding task_led
task_led_is t = refl

abbrev pub shared_leaders : Shared → List (List ℕ)
shared_leaders s = flat_map fronts (names s.seen.store.now)

pub no_others_shared : (s : Shared) (name : List ℕ) → IsRight s → is_in name (shared_leaders s) ≡ false → shared_led s name ≡ []
no_others_shared s name right h = ap (λ f. f name) (shared_led_is s) ∙ absent_nowhere s.seen.store.now s.seen.task s.ignored name h

pub same_itself : (s : Shared) → IsSame s s
same_itself s = record { store = refl; task = refl; ignored = refl }

pub same_on : (a b c : Shared) → IsSame a b → IsSame b c → IsSame a c
same_on a b c p q = record { store = q.store ∙ p.store; task = q.task ∙ p.task; ignored = q.ignored ∙ p.ignored }

pub none_other : (t : Table) → IsReady t → NoOthers (task_view t)
none_other t ready =
    let store = t.shared.seen.store.now in
    let e : seen_with store t.shared.seen.task ≡ seen_by t.task (find_in store) = ready.seen in
    subst (λ f. NoOthers (record { task = t.task; find = f; flag = flag store; names = names store; ignored = t.shared.ignored; sstate = t.sstate })) (sym e) (leading.no_others store t.task t.shared.ignored [])

-- a name that isn't among the leaders leads nowhere
pub no_others : (t : Table) (name : List ℕ) → IsReady t → is_in name (leaders (task_view t)) ≡ false → task_led t name ≡ []
no_others t name ready h = ap (λ f. f name) (task_led_is t) ∙ none_other t ready name h

pub stays_itself : (t : Table) → StaysSo t t
stays_itself t = record { shared = same_itself t.shared; task = refl; sstate = refl }

pub stays_on : (a b c : Table) → StaysSo a b → StaysSo b c → StaysSo a c
stays_on a b c p q = record {
  shared = same_on a.shared b.shared c.shared p.shared q.shared;
  task = q.task ∙ p.task;
  sstate = q.sstate ∙ p.sstate;
}
