-- Keys of rows and of open publications are known still, whatever a step came to.
use Rattle.std.proofs.Common.{ℕ, Bool, true, false, List, [], ◌∷◌, ◌++◌, if◌then◌else◌}
use Rattle.std.specs.Prelude.{is_none}
use Rattle.meta_model.specs.CleanBuild.{Entries}
use Rattle.outside_traits.specs.Store.{Store}
use Rattle.store_model.specs.declared.signature.EquivRow.{EquivRow}
use Rattle.store_model.specs.Origins.{row_of}
use Rattle.store_model.specs.Rows.{row_at}
use Rattle.store_model.specs.Signatures.{Signed}
use Rattle.store_model.specs.Spelling.{name_of, signature_bytes}
use Rattle.store_model.proofs.Ordered.{each_append, each_middle}
use Rattle.build_store.specs.declared.pieces.OpenPublication.{OpenPublication}
use Rattle.build_store.specs.declared.pieces.Reached.{Reached}
use Rattle.build_store.specs.Keys.{HoldsKeyOf, KnowsKeyOf, KnowsRows}
use Rattle.build_store.specs.OpenOnes.{at_next}
use Rattle.build_store.specs.Publication.{line_for, rows_with}
use Rattle.build_store.specs.Standing.{HoldsOpen, KnowsOpen}

module _ (keys : List (List ℕ)) where
  pub known_next : (before : List OpenPublication) (one : OpenPublication) (after : List OpenPublication) (next : Reached) → KnowsOpen keys (before ++ one ∷ after) → KnowsOpen keys (before ++ at_next one next ∷ after)
  known_next [] one after next all = all
  known_next (x ∷ before) one after next all = (all.0, known_next before one after next all.1)

  pub known_gone : (before : List OpenPublication) (one : OpenPublication) (after : List OpenPublication) → KnowsOpen keys (before ++ one ∷ after) → KnowsOpen keys (before ++ after)
  known_gone [] one after all = all.1
  known_gone (x ∷ before) one after all = (all.0, known_gone before one after all.1)

  pub known_at : (before : List OpenPublication) (one : OpenPublication) (after : List OpenPublication) → KnowsOpen keys (before ++ one ∷ after) → KnowsKeyOf keys one.sig
  known_at before one after all = each_middle (λ (x : OpenPublication). KnowsKeyOf keys x.sig) before one after all

  pub known_rows : (rows : List EquivRow) (s : Signed) (tree : Entries) → KnowsRows keys rows → KnowsKeyOf keys (signature_bytes s.sig) → KnowsRows keys (rows_with rows s tree)
  known_rows rows s tree all own = by (is_none (row_at rows (name_of s.sig)))
    where
      by : (b : Bool) → KnowsRows keys (if b then rows ++ row_of (line_for rows s tree) ∷ [] else rows)
      by true = each_append (λ (row : EquivRow). KnowsKeyOf keys row.sig) rows (row_of (line_for rows s tree) ∷ []) all (own, tt)
      by false = all

pub held_at : (held : Store) (before : List OpenPublication) (one : OpenPublication) (after : List OpenPublication) → HoldsOpen (before ++ one ∷ after) held → HoldsKeyOf one.sig held
held_at held before one after all = each_middle (λ (x : OpenPublication). HoldsKeyOf x.sig held) before one after all
