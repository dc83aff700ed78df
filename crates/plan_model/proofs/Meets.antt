-- A sound plan meets what the laws of reuse ask.
use Rattle.std.proofs.Common.{◌≡◌, ◌≢◌, ◌∙◌, ap, refl, ℕ, ◌<◌, arith, List, [], ◌∷◌, Bool, true, false, ◌||◌, ◌&&◌, ◌==◌, nat_le, codes, length}
use Rattle.std.specs.Prelude.{AllPairs}
use Rattle.std.specs.List.{AllByRecursion, list_all}
use Rattle.std.specs.Char.{is_ascii_alphabetic, is_ascii_alphanumeric}
use Rattle.std.proofs.lemmas.List.Elements.{All-from_recursion}
use Rattle.std.proofs.lemmas.List.Kept.{AllPairs-from_increasing}
use Rattle.std.proofs.lemmas.Bool.{eqb-true}
use Rattle.meta_model.proofs.Bools.{not_both, and_left, and_right}
use Rattle.meta_model.specs.declared.plan.PlanTask.{PlanTask}
use Rattle.meta_model.specs.Text.{begins_with, is_shell_name}
use Rattle.store_model.specs.Premises.{IsWord}
use Rattle.store_model.specs.SoundPlan.{IsSoundAt}
use Rattle.plan_model.specs.Names.{is_task_name}
use Rattle.plan_model.specs.Sound.{IsSoundTask, SoundMeets}

-- a byte that passes a test that a blank fails
no_blank : (p : ℕ → Bool) → p 32 ≡ false → (c : ℕ) → p c ≡ true → (c == 32) ≡ false
no_blank p f c h = by (c == 32) refl
  where
    by : (b : Bool) → (c == 32) ≡ b → (c == 32) ≡ false
    by false e = e
    by true e = not_both (p c) h (ap p (eqb-true c 32 e) ∙ f)

no_blanks : (p : ℕ → Bool) → p 32 ≡ false → (text : List ℕ) → list_all p text ≡ true → AllByRecursion (λ c. (c == 32) ≡ false) text
no_blanks p f [] h = tt
no_blanks p f (c ∷ text) h = (no_blank p f c (and_left (p c) (list_all p text) h), no_blanks p f text (and_right (p c) (list_all p text) h))

shell_word : (name : List ℕ) → is_shell_name name ≡ true → IsWord name
shell_word [] h = absurd (cc)
shell_word (c ∷ cs) h =
    let first = and_left (is_ascii_alphabetic c || c == 95) (list_all (λ d. is_ascii_alphanumeric d || d == 95) cs) h in
    let rest = and_right (is_ascii_alphabetic c || c == 95) (list_all (λ d. is_ascii_alphanumeric d || d == 95) cs) h in
    record {
      not_empty = λ e. cc;
      no_blank = All-from_recursion (λ d. (d == 32) ≡ false) (c ∷ cs) (no_blank (λ d. is_ascii_alphabetic d || d == 95) refl c first, no_blanks (λ d. is_ascii_alphanumeric d || d == 95) refl cs rest);
    }

name_word : (name : List ℕ) → is_task_name name ≡ true → IsWord name
name_word name h = shell_word name (and_left (is_shell_name name) (nat_le (length name) 255) (and_right (begins_with (codes "do_") name) (is_shell_name name && nat_le (length name) 255) h))

apart : (deps : List ℕ) → AllPairs (λ x y. x < y) deps → AllPairs (λ c d. c ≢ d) deps
apart deps h i j d lt within e = omega (arith, h i j d lt within, e)

sound_at : (n : ℕ) (task : PlanTask) → IsSoundTask n task → IsSoundAt n task
sound_at n task s = record {
  apart = apart task.deps (AllPairs-from_increasing task.deps s.deps);
  below = s.below;
  name = name_word task.id.task s.name;
  ascends = s.ascends;
  no_order = s.no_order;
  plain = s.plain;
  parts = λ k d lt. (s.parts k d lt).part;
  tree = s.tree;
}

pub sound_meets : SoundMeets
sound_meets plan s = record { threads = s.threads; few = s.few; targets = s.targets; differ = s.differ; tasks = λ n task e. sound_at n task (s.tasks n task e) }
