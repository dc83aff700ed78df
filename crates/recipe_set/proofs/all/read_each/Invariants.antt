use Rattle.std.proofs.Common.{◌≡◌, ◌≤◌, List, ℕ, bytes_eq, drop, map}
use Rattle.std.specs.Map.{lookup}
use Rattle.std.specs.BTreeMap.{get_by_text, btree_map_len}
use Rattle.load_model.specs.Loading.{sources_of}
use Rattle.load_model.specs.Recipes.{Recipe as Read, recipes_read}
use Rattle.meta_model.specs.Passing.{behind}
use Rattle.recipe_set.specs.Chosen.{file_meant}
use Rattle.recipe_set.specs.Picks.{ArePicks}
use Rattle.recipe_set.proofs.all.read_each.Given as goal

-- the recipes so far are read, and one of each PN is chosen
abbrev pub invariant-loop-file : goal.invariant-loop-file
invariant-loop-file g l = record {
  same : g.L.Layers.files l.layers ≡ g.L.Layers.files l.fn.layers;
  faults : g.L.Layers.faults l.layers ≡ g.L.Layers.faults l.fn.layers;
  few : btree_map_len l.picks ≤ l.file-index;
  read : g.L.Layers.tells → (before : List Read)
      × ((recipes_read (sources_of (g.L.Layers.files l.fn.layers)) l.known.config.now l.known.appends.now (map file_meant l.files) ≡ behind before (recipes_read (sources_of (g.L.Layers.files l.fn.layers)) l.known.config.now l.known.appends.now (map file_meant (drop l.file-index l.files))))
      × ((wishes : List (List ℕ × List ℕ)) → ((t : List ℕ) → get_by_text l.versions t ≡ lookup (bytes_eq t) wishes) → ArePicks wishes before l.picks));
}
