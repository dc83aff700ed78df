-- The parts of a task, one after another.
use Rattle.std.proofs.Common.{◌≡◌, ◌∙◌, refl, sym, ap, ℕ, List, Bool, Result, Ok, Err, codes}
use Rattle.meta_model.proofs.Room.{ok_parts}
use Rattle.meta_model.specs.declared.entry.EntryLine.{EntryLine}
use Rattle.meta_model.specs.declared.value.Key.{Key}
use Rattle.meta_model.specs.Refusal as read
use Rattle.meta_model.specs.Text.{is_in}
use Rattle.load_model.specs.LoadRefusal.{◌>>=◌, refused_as}
use Rattle.task_model.specs.Leads.{view_of, value_words}
use Rattle.task_model.specs.Keys.{key, key_over}
use Rattle.task_model.specs.Scripts.{is_sstate_of}
use Rattle.task_model.proofs.Leaders.{store_view}
use Rattle.task_model.proofs.KeyNames.{sstate_is}
use Rattle.meta_model.proofs.Passing.{goes_on}
use Rattle.plan_model.specs.PlanRefusal.{PlanRefusal, no_value}
use Rattle.plan_model.specs.Inputs.{Files, Inputs}
use Rattle.plan_model.specs.Plans.{task_inputs, is_shared, Parts, parts_of}
use Rattle.task_plan.specs.declared.shell.Shell.{Shell}
use Rattle.task_plan.specs.declared.fault.PlanFault.{PlanFault}
use Rattle.task_plan.specs.Faults.{IsPlanFault}
use Rattle.task_plan.specs.Steps.{key_told, script_told, places_told, nostamp_told, shell_of, parts_with}
use Rattle.task_plan.proofs.Faulting.{plan_same, plan_on, plan_later}

-- the key tells whether the task is one of the shared state
shared_is : (store : List EntryLine) (task : List ℕ) (made : Key) → key store task ≡ Ok made → is_shared store task ≡ Ok (is_sstate_of made task)
shared_is store task made e =
    let view = ok_parts (view_of store task) key_over made e in
    let ignored = ok_parts (value_words store (codes "BB_BASEHASH_IGNORE_VARS")) (λ ignored. read.◌>>=◌ (value_words store (codes "SSTATETASKS")) (λ sstate. Ok (store_view store task ignored sstate))) view.0 view.1 in
    let tasks = ok_parts (value_words store (codes "SSTATETASKS")) (λ sstate. Ok (store_view store task ignored.0 sstate)) view.0 ignored.2 in
    goes_on (value_words store (codes "SSTATETASKS")) tasks.0 (λ t. Ok (is_in task t)) tasks.1 ∙ ap Ok (sym (sstate_is store task made tasks.0 e tasks.1))

whole : (task : List ℕ) (made : Key) (i : Result Inputs PlanRefusal) (s : Result (List ℕ) PlanRefusal) (p : Result (List (List ℕ × List ℕ)) PlanRefusal) (n h : Result Bool PlanRefusal) → h ≡ Ok (is_sstate_of made task)
    → (i >>= λ inputs. s >>= λ text. p >>= λ pairs. n >>= λ nostamp. h >>= λ shared. Ok (record { key = made; inputs = inputs; script = text; places = pairs; nostamp = nostamp; sstate = shared }))
    ≡ (i >>= λ inputs. (s >>= λ text. p >>= λ pairs. n >>= λ nostamp. Ok (record { script = text; places = pairs; nostamp = nostamp })) >>= λ shell. Ok (parts_with task made inputs shell))
whole task made (Err r) s p n h e = refl
whole task made (Ok inputs) (Err r) p n h e = refl
whole task made (Ok inputs) (Ok text) (Err r) n h e = refl
whole task made (Ok inputs) (Ok text) (Ok pairs) (Err r) h e = refl
whole task made (Ok inputs) (Ok text) (Ok pairs) (Ok nostamp) h e = ap (λ q. q >>= λ shared. Ok (record { key = made; inputs = inputs; script = text; places = pairs; nostamp = nostamp; sstate = shared })) e

module _ (files : Files) (file : List ℕ) (store : List EntryLine) (task : List ℕ) (bytes : ℕ) where
  -- behind the key
  abbrev behind : Key → Result Parts PlanRefusal
  behind made = task_inputs files file store task bytes >>= λ inputs. shell_of file store task >>= λ shell. Ok (parts_with task made inputs shell)

  -- the same, as it is defined
  abbrev after_key : Key → Result Parts PlanRefusal
  after_key made = task_inputs files file store task bytes >>= λ inputs. script_told file store task >>= λ text. places_told file store task >>= λ pairs. nostamp_told file store task >>= λ nostamp. refused_as (no_value file) (is_shared store task) >>= λ shared. Ok (record { key = made; inputs = inputs; script = text; places = pairs; nostamp = nostamp; sstate = shared })

  pub parts_is : (made : Key) → key store task ≡ Ok made → parts_of files file store task bytes ≡ behind made
  parts_is made e =
      let told : key_told file store task ≡ Ok made = ap (refused_as (no_value file)) e in
      let shared : refused_as (no_value file) (is_shared store task) ≡ Ok (is_sstate_of made task) = ap (refused_as (no_value file)) (shared_is store task made e) in
      let first : parts_of files file store task bytes ≡ after_key made = goes_on (key_told file store task) made after_key told in
      let second : after_key made ≡ behind made = whole task made (task_inputs files file store task bytes) (script_told file store task) (places_told file store task) (nostamp_told file store task) (refused_as (no_value file) (is_shared store task)) shared in
      first ∙ second

  pub key_refused : (fault : PlanFault) → IsPlanFault fault (key_told file store task) → IsPlanFault fault (parts_of files file store task bytes)
  key_refused fault h = plan_on fault (key_told file store task) after_key h

  pub inputs_refused : (made : Key) (fault : PlanFault) → key store task ≡ Ok made → IsPlanFault fault (task_inputs files file store task bytes) → IsPlanFault fault (parts_of files file store task bytes)
  inputs_refused made fault e h = plan_same fault (parts_of files file store task bytes) (behind made) (parts_is made e) (plan_on fault (task_inputs files file store task bytes) (λ inputs. shell_of file store task >>= λ shell. Ok (parts_with task made inputs shell)) h)

  pub shell_refused : (made : Key) (inputs : Inputs) (fault : PlanFault) → key store task ≡ Ok made → task_inputs files file store task bytes ≡ Ok inputs → IsPlanFault fault (shell_of file store task) → IsPlanFault fault (parts_of files file store task bytes)
  shell_refused made inputs fault e i h =
      plan_same fault (parts_of files file store task bytes) (behind made) (parts_is made e)
      (plan_later fault (task_inputs files file store task bytes) inputs (λ inputs. shell_of file store task >>= λ shell. Ok (parts_with task made inputs shell)) i
      (plan_on fault (shell_of file store task) (λ shell. Ok (parts_with task made inputs shell)) h))

  pub parts_made : (made : Key) (inputs : Inputs) (shell : Shell) → key store task ≡ Ok made → task_inputs files file store task bytes ≡ Ok inputs → shell_of file store task ≡ Ok shell → parts_of files file store task bytes ≡ Ok (parts_with task made inputs shell)
  parts_made made inputs shell e i s =
      parts_is made e ∙ goes_on (task_inputs files file store task bytes) inputs (λ inputs. shell_of file store task >>= λ shell. Ok (parts_with task made inputs shell)) i
      ∙ goes_on (shell_of file store task) shell (λ shell. Ok (parts_with task made inputs shell)) s

-- the shell's parts

module _ (file : List ℕ) (store : List EntryLine) (task : List ℕ) where
  abbrev behind_places : List ℕ → List (List ℕ × List ℕ) → Result Shell PlanRefusal
  behind_places text pairs = nostamp_told file store task >>= λ nostamp. Ok (record { script = text; places = pairs; nostamp = nostamp })

  abbrev behind_script : List ℕ → Result Shell PlanRefusal
  behind_script text = places_told file store task >>= behind_places text

  pub shell_made : (text : List ℕ) (pairs : List (List ℕ × List ℕ)) (nostamp : Bool) → script_told file store task ≡ Ok text → places_told file store task ≡ Ok pairs → nostamp_told file store task ≡ Ok nostamp → shell_of file store task ≡ Ok (record { script = text; places = pairs; nostamp = nostamp })
  shell_made text pairs nostamp e f g =
      goes_on (script_told file store task) text behind_script e ∙ goes_on (places_told file store task) pairs (behind_places text) f ∙ goes_on (nostamp_told file store task) nostamp (λ n. Ok (record { script = text; places = pairs; nostamp = n })) g

  pub places_refused : (text : List ℕ) (fault : PlanFault) → script_told file store task ≡ Ok text → IsPlanFault fault (places_told file store task) → IsPlanFault fault (shell_of file store task)
  places_refused text fault e h = plan_later fault (script_told file store task) text behind_script e (plan_on fault (places_told file store task) (behind_places text) h)

  pub nostamp_refused : (text : List ℕ) (pairs : List (List ℕ × List ℕ)) (fault : PlanFault) → script_told file store task ≡ Ok text → places_told file store task ≡ Ok pairs → IsPlanFault fault (nostamp_told file store task) → IsPlanFault fault (shell_of file store task)
  nostamp_refused text pairs fault e f h =
      plan_later fault (script_told file store task) text behind_script e (plan_later fault (places_told file store task) pairs (behind_places text) f (plan_on fault (nostamp_told file store task) (λ n. Ok (record { script = text; places = pairs; nostamp = n })) h))
