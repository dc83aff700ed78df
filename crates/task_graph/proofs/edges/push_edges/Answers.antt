use Rattle.std.proofs.Common.{◌≡◌, ◌∙◌, subst, refl, List, ℕ, All, Ok}
use Rattle.meta_model.specs.Needs.{Task}
use Rattle.meta_model.specs.GraphRefusal.{word_task}
use Rattle.task_graph.proofs.edges.push_edges.Goals as goal

pub returns-clause-ok : goal.returns-clause-ok
returns-clause-ok c =
    let below = c.in_ok-push_below.ensures.ok in
    record {
      below = below.below;
      put = below.put ∙ rw (c.in_ok-push_run.ensures.ok, c.in_ok-push_built.ensures.ok, c.in_ok-push_words.ensures.ok, c.in_ok-push_tasks.ensures, c.new-out.ensures.items, c.as_slice-2.ensures, c.as_slice.ensures) refl;
      words = subst (λ (l : List (List ℕ × List ℕ)). All (λ (w : List ℕ × List ℕ). (b : Task) × (word_task c.args.facts.now w ≡ Ok b)) l) c.as_slice-2.ensures c.in_ok-push_words.ensures.resolved;
      building = c.in_ok-push_built.ensures.whole;
      running = c.in_ok-push_run.ensures.whole;
      led = below.led;
      provided = below.provided;
    }
