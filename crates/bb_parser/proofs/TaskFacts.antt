-- The tasks of words.
use Rattle.std.proofs.Common.{◌≡◌, ℕ, zero, suc, ◌<◌, false, List, [], ◌∷◌, map, length, get_or, refl, None, arith}
use Rattle.std.specs.List.{list_all}
use Rattle.std.proofs.lemmas.Bool.{and_left, and_right}
use Rattle.meta_model.specs.Grammar.{tasks, task_of}
use Rattle.bb_parser.specs.Tasks.{is_task_name}

one_bad : (ws : List (List ℕ)) (i : ℕ) (d : List ℕ) → i < length ws → is_task_name (task_of (get_or ws i d)) ≡ false → list_all is_task_name (map task_of ws) ≡ false
one_bad [] i d h t = absurd (omega arith)
one_bad (w ∷ ws) zero d h t = and_left (is_task_name (task_of w)) (list_all is_task_name (map task_of ws)) t
one_bad (w ∷ ws) (suc i) d h t = and_right (is_task_name (task_of w)) (list_all is_task_name (map task_of ws)) (one_bad ws i d (omega arith) t)

-- where one word can be no task, there are none
pub tasks-none : (ws : List (List ℕ)) (i : ℕ) (w : List ℕ) → i < length ws → w ≡ get_or ws i w → is_task_name (task_of w) ≡ false → tasks ws ≡ None
tasks-none ws i w h e t = rw (one_bad ws i w h (rw (← e) t)) refl
