-- What may be reused of a book may be reused of another with the same lines.
use Rattle.std.proofs.Common.{◌≡◌, ◌∙◌, sym, ap, subst, refl, ℕ, false, List, [], ◌∷◌, ◌++◌, inl, inr}
use Rattle.std.specs.Prelude.{map}
use Rattle.std.specs.List.{AllByRecursion}
use Rattle.std.proofs.lemmas.List.Elements.{All-from_recursion, recursion_from_All}
use Rattle.tree_model.specs.declared.hash.Hash.{Hash}
use Rattle.outside_traits.specs.Store.{Store}
use Rattle.meta_model.specs.InOrder.{in_order}
use Rattle.meta_model.specs.declared.plan.PlanTask.{PlanTask}
use Rattle.meta_model.specs.CleanBuild.{Entries, Gives}
use Rattle.store_model.specs.declared.signature.DepLine.{DepLine}
use Rattle.store_model.specs.declared.signature.EquivRow.{EquivRow}
use Rattle.store_model.specs.Origins.{Book, Reading, rows_of}
use Rattle.store_model.specs.Premises.{HasNoClash, HasNoCollision, HasOneSignature, IsContent, IsTreeOf}
use Rattle.store_model.specs.Premises as of
use Rattle.store_model.specs.Rows.{row_at, unihash_or}
use Rattle.store_model.specs.Signatures.{Signed, dep_line, file_hash, is_dep_before, own_laid, own_tasks, signature, signature_over, signatures, signed_from, signed_needs, with_order}
use Rattle.store_model.specs.Spelling.{name_of}
use Rattle.store_model.specs.Valid.{IsValidBook}
use Rattle.store_model.proofs.Ordered.{each_weaker}
use Rattle.store_model.specs.Lines.{HaveSameLines}
use Rattle.store_opening.specs.Reopened.{HoldsNoMore, ReuseAgain}
use Rattle.store_opening.proofs.SameLines.{same_origin, same_rows}

-- ---- signatures are by the rows of names alone

module _ (rows others : List EquivRow) (same : (name : Hash) → row_at others name ≡ row_at rows name) where
  lines_same : (needed : List Signed) → map (dep_line others) needed ≡ map (dep_line rows) needed
  lines_same [] = refl
  lines_same (s ∷ needed) =
      let name = ap (unihash_or (name_of s.sig)) (same (name_of s.sig)) in
      let rest = lines_same needed in
      λ i. record { pn = s.task.id.pn; task = s.task.id.task; name = name i } ∷ rest i

  over_same : (task : PlanTask) (needed : List Signed) → signature_over others task needed ≡ signature_over rows task needed
  over_same task needed =
      let at : List DepLine → _ = λ ds. record {
        pn = task.id.pn;
        task = task.id.task;
        key = record { lines = with_order (own_laid task.id.pn needed) (own_tasks task.id.pn (in_order is_dep_before ds)) task.key.lines; excluded = false };
        files = map file_hash task.files;
        deps = in_order is_dep_before ds;
      } in ap at (lines_same needed)

  from_same : (before : List Signed) (tasks : List PlanTask) → signed_from others before tasks ≡ signed_from rows before tasks
  from_same before [] = refl
  from_same before (task ∷ more) =
      ap (λ sig. signed_from others (before ++ record { task = task; sig = sig } ∷ []) more) (over_same task (signed_needs before task))
      ∙ from_same (before ++ record { task = task; sig = signature rows before task } ∷ []) more

  pub signatures_same : (tasks : List PlanTask) → signatures others tasks ≡ signatures rows tasks
  signatures_same tasks = from_same [] tasks

-- ---- contents

module _ (gives : Gives) (reading : Reading) (held less : Store) (book again : Book) (tasks : List PlanTask) (valid : IsValidBook gives reading book) (valid' : IsValidBook gives reading again) (same : HaveSameLines book again) (fewer : HoldsNoMore held less) where
  tree_was : (tree : Entries) → IsTreeOf gives reading again tasks tree → IsTreeOf gives reading book tasks tree
  tree_was tree (of.output before line t s is) = let b = same.only before line s in of.output b.0 line t b.1 (sym (same_origin gives reading book again valid valid' same before b.0 line s b.1) ∙ is)
  tree_was tree (of.files before line s) = let b = same.only before line s in of.files b.0 line b.1
  tree_was tree (of.clean built t among is) = of.clean built t among is
  tree_was tree (of.inputs task among) = of.inputs task among

  content_was : (bytes : List ℕ) → IsContent gives reading less again tasks bytes → IsContent gives reading held book tasks bytes
  content_was bytes (inl c) = inl (c.0, tree_was c.0 c.1, c.2)
  content_was bytes (inr h) = inr (h.0, h.1, fewer h.0 h.1 h.2, h.3)

  no_clash : HasNoClash gives reading held book tasks → HasNoClash gives reading less again tasks
  no_clash none a b x y e = none a b (content_was a x) (content_was b y) e

-- ---- signatures under one name

module _ (gives : Gives) (reading : Reading) (book again : Book) (tasks : List PlanTask) (valid : IsValidBook gives reading book) (valid' : IsValidBook gives reading again) (same : HaveSameLines book again) where
  one_signature : (s : Signed) → HasOneSignature book s → HasOneSignature again s
  one_signature s one before line t name = let b = same.only before line t in one b.0 line b.1 name

  -- where no line has the name of a task and another signature, none of the other book has
  pub no_collision : HasNoCollision book (rows_of book) tasks → HasNoCollision again (rows_of again) tasks
  no_collision none =
      let signed = signatures_same (rows_of book) (rows_of again) (same_rows gives reading book again valid valid' same) tasks in
      All-from_recursion (HasOneSignature again) (signatures (rows_of again) tasks)
      (subst (AllByRecursion (HasOneSignature again)) (sym signed) (each_weaker (HasOneSignature book) (HasOneSignature again) one_signature (signatures (rows_of book) tasks) (recursion_from_All (HasOneSignature book) (signatures (rows_of book) tasks) none)))

pub reuse_again : ReuseAgain
reuse_again gives reading held less book again tasks may same valid fewer = record {
  valid = valid;
  sound = may.sound;
  blind = may.blind;
  no_clash = no_clash gives reading held less book again tasks may.valid valid same fewer may.no_clash;
  no_collision = no_collision gives reading book again tasks may.valid valid same may.no_collision;
}
