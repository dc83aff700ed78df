use Rattle.std.proofs.Common.{◌≡◌, ◌+◌, ◌*◌, true, drop, map}
use Rattle.load_model.specs.Loading.{read_within, statements_after, includes_after, classes_after}
use Rattle.class_inherit.specs.Faults.{where_is}
use Rattle.class_inherit.specs.Reading.{origin_meant, sources_for, statement_for}
use Rattle.class_inherit.proofs.load.+load.Given as goal

abbrev pub decreases-run_statements : goal.decreases-run_statements
decreases-run_statements g l = 10 * l.left + 9

abbrev pub decreases-run_statement : goal.decreases-run_statement
decreases-run_statement g l = 10 * l.left + 8

abbrev pub decreases-include_named : goal.decreases-include_named
decreases-include_named g l = 10 * l.left + 7

abbrev pub decreases-inherit_named : goal.decreases-inherit_named
decreases-inherit_named g l = 10 * l.left + 7

abbrev pub decreases-include_words : goal.decreases-include_words
decreases-include_words g l = 10 * l.left + 6

abbrev pub decreases-inherit_words : goal.decreases-inherit_words
decreases-inherit_words g l = 10 * l.left + 6

abbrev pub decreases-include_word : goal.decreases-include_word
decreases-include_word g l = 10 * l.left + 4

abbrev pub decreases-inherit_word : goal.decreases-inherit_word
decreases-inherit_word g l = 10 * l.left + 4

abbrev pub decreases-read_found : goal.decreases-read_found
decreases-read_found g l = 10 * l.left + 1

-- the statements so far are done
abbrev pub invariant-run_statements-loop-line : goal.invariant-run_statements-loop-line
invariant-run_statements-loop-line g l = record {
  same : g.L.Layers.files l.layers ≡ g.L.Layers.files l.fn.layers;
  faults : g.L.Layers.faults l.layers ≡ g.L.Layers.faults l.fn.layers;
  done : g.L.Layers.tells →
      statements_after (read_within l.left (sources_for l.layer (g.L.Layers.files l.fn.layers))) (sources_for l.layer (g.L.Layers.files l.fn.layers)) (origin_meant l.origin) (map (λ s. (s.0, statement_for l.layer s.1)) (drop l.line-index l.list)) l.reading
      ≡ statements_after (read_within l.left (sources_for l.layer (g.L.Layers.files l.fn.layers))) (sources_for l.layer (g.L.Layers.files l.fn.layers)) (origin_meant l.origin) (map (λ s. (s.0, statement_for l.layer s.1)) l.list) l.fn.reading;
}

-- the words so far are done
abbrev pub invariant-include_words-loop-word : goal.invariant-include_words-loop-word
invariant-include_words-loop-word g l = record {
  same : g.L.Layers.files l.layers ≡ g.L.Layers.files l.fn.layers;
  faults : g.L.Layers.faults l.layers ≡ g.L.Layers.faults l.fn.layers;
  done : g.L.Layers.tells →
      includes_after (read_within l.left (sources_for l.layer (g.L.Layers.files l.fn.layers))) (sources_for l.layer (g.L.Layers.files l.fn.layers)) (where_is l.place) (origin_meant l.origin) l.must (drop l.word-index l.words) l.reading
      ≡ includes_after (read_within l.left (sources_for l.layer (g.L.Layers.files l.fn.layers))) (sources_for l.layer (g.L.Layers.files l.fn.layers)) (where_is l.place) (origin_meant l.origin) l.must l.words l.fn.reading;
}

-- the classes so far are done
abbrev pub invariant-inherit_words-loop-name : goal.invariant-inherit_words-loop-name
invariant-inherit_words-loop-name g l = record {
  same : g.L.Layers.files l.layers ≡ g.L.Layers.files l.fn.layers;
  faults : g.L.Layers.faults l.layers ≡ g.L.Layers.faults l.fn.layers;
  done : g.L.Layers.tells →
      classes_after (read_within l.left (sources_for l.layer (g.L.Layers.files l.fn.layers))) (sources_for l.layer (g.L.Layers.files l.fn.layers)) (where_is l.place) true (drop l.name-index l.names) l.reading
      ≡ classes_after (read_within l.left (sources_for l.layer (g.L.Layers.files l.fn.layers))) (sources_for l.layer (g.L.Layers.files l.fn.layers)) (where_is l.place) true l.names l.fn.reading;
}
