use Rattle.std.proofs.Common.{sym, ap, ◌∙◌, subst, List, ℕ}
use Rattle.std.proofs.lemmas.Bool.{false≢true}
use Rattle.std.specs.BTreeMap.{get_by_text}
use Rattle.tree_model.specs.Path.{IsClean}
use Rattle.outside_mem.specs.Layers.{FileMap, AreFrom, with_file}
use Rattle.outside_mem.proofs.Files.{from_clean, from_unclean}
use Rattle.outside_mem.proofs.layers.first_files.Goals as goal
use Rattle.outside_mem.proofs.layers.first_files.Goals.{then-is_clean+in_ok-keep_first, else-is_clean}

pub loop-path-preserved : goal.loop-path-preserved
loop-path-preserved c =
    elim c.if-is_clean.branch [
      | then-is_clean+in_ok-keep_first w ↦
          from_clean c.loop-path.yielded (get_by_text c.loop-path.held) (get_by_text c.if-is_clean.held) (c.in-Some.path, c.in-Some.bytes)
          (subst IsClean c.as_str.ensures (c.is_clean.ensures.0 w.if-is_clean.true))
          (ap get_by_text w.held-is ∙ w.in_ok-keep_first.ensures ∙ ap (λ (p : List ℕ). with_file p c.in-Some.bytes (get_by_text c.loop-path.held)) w.as_str-then-is_clean.ensures)
          c.loop-path.invariant
      | else-is_clean w ↦
          from_unclean c.loop-path.yielded (get_by_text c.if-is_clean.held) (c.in-Some.path, c.in-Some.bytes)
          (λ clean. false≢true (sym w.if-is_clean.false ∙ c.is_clean.ensures.1 (subst IsClean (sym c.as_str.ensures) clean)))
          (subst (λ (m : FileMap). AreFrom c.loop-path.yielded (get_by_text m)) (sym w.held-is) c.loop-path.invariant)
    ]
