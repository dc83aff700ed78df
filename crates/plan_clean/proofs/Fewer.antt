-- A book that has some lines of another: each comes from what it came from.
use Rattle.std.proofs.Common.{◌≡◌, ◌∙◌, sym, ap, subst, ℕ, zero, suc, ◌<◌, List, ◌∷◌, length, get_or, arith, Some, inl, inr}
use Rattle.std.specs.Prelude.{slice_get}
use Rattle.std.proofs.lemmas.List.{length-append}
use Rattle.std.proofs.lemmas.List.Elements.{recursion_from_All}
use Rattle.std.proofs.lemmas.Option.{get_or_from_slice_get, slice_get-get_or, slice_get_within}
use Rattle.outside_traits.specs.Store.{Store}
use Rattle.meta_model.specs.CleanBuild.{Entries, Gives}
use Rattle.meta_model.specs.declared.plan.PlanTask.{PlanTask}
use Rattle.store_model.specs.declared.signature.DepLine.{DepLine}
use Rattle.store_model.specs.Lines.{HasLine}
use Rattle.store_model.specs.Origins.{Book, Line, Reading, origin, outcome_named, traced, traced_over}
use Rattle.store_model.specs.Premises.{HasNoClash, HasNoCollision, IsContent, IsTreeOf}
use Rattle.store_model.specs.Premises as of
use Rattle.store_model.specs.Reuse.{MayReuse}
use Rattle.store_model.specs.Origins.{rows_of}
use Rattle.store_model.specs.Spelling.{name_of}
use Rattle.store_model.specs.Valid.{IsNamedBefore, IsValidBook, StandsIn}
use Rattle.store_model.proofs.Standing.{AllNew, one_place, stands_earlier}
use Rattle.store_model.proofs.Tracing.{outcome_at}
use Rattle.store_opening.specs.Reopened.{HoldsNoMore}
use Rattle.book_change.proofs.Going.{same_deps}

module _ (gives : Gives) (reading : Reading) where
  all_new : (book : Book) → IsValidBook gives reading book → AllNew book
  all_new book valid before line s behind earlier t = let v = valid before line s in v.new behind earlier t

-- an earlier line has fewer before it
fewer : (before behind : Book) (earlier : Line) → StandsIn before behind earlier → length behind < length before
fewer before behind earlier s = omega (arith, ap (length {A = Line}) s.is, length-append behind (earlier ∷ s.rest))

module _ (gives : Gives) (reading : Reading) (book part : Book) (valid : IsValidBook gives reading book) (valid' : IsValidBook gives reading part) (only : (before : Book) (line : Line) → StandsIn part before line → HasLine book line) where
  -- two lines of the book with one name are one
  same_line : (b c : Book) (k l : Line) → StandsIn book b k → StandsIn book c l → name_of k.sig ≡ name_of l.sig → k ≡ l
  same_line b c k l s t name = (one_place book b c k l (all_new gives reading book valid) s t name).1

  origin_within : (n : ℕ) (before was : Book) (line : Line) → StandsIn part before line → StandsIn book was line → length before < n → origin gives reading before line ≡ origin gives reading was line
  origin_within zero before was line s t lt = absurd (omega (arith, lt))
  origin_within (suc n) before was line s t lt =
      ap (traced_over gives reading line) (same_deps (traced gives reading before) (traced gives reading was) line.sig.deps
      (recursion_from_All (λ (dep : DepLine). outcome_named (traced gives reading before) dep.name ≡ outcome_named (traced gives reading was) dep.name) line.sig.deps
      (λ i d inside. one_dep i (get_or line.sig.deps i d) (slice_get-get_or line.sig.deps i d inside) (λ b w l x y less. origin_within n b w l x y less))))
    where
      one_dep : (i : ℕ) (dep : DepLine) → slice_get line.sig.deps i ≡ Some dep
          → ((b w : Book) (l : Line) → StandsIn part b l → StandsIn book w l → length b < n → origin gives reading b l ≡ origin gives reading w l)
          → outcome_named (traced gives reading before) dep.name ≡ outcome_named (traced gives reading was) dep.name
      one_dep i dep e later =
          let inside = slice_get_within line.sig.deps i dep e in
          let now : IsNamedBefore before dep = subst (IsNamedBefore before) (get_or_from_slice_get line.sig.deps i dep dep e) (let v = valid' before line s in v.deps i dep inside) in
          let old : IsNamedBefore was dep = subst (IsNamedBefore was) (get_or_from_slice_get line.sig.deps i dep dep e) (let v = valid was line t in v.deps i dep inside) in
          let in_part = stands_earlier part before now.behind line now.line s now.stands in
          let in_book = stands_earlier book was old.behind line old.line t old.stands in
          let there = only now.behind now.line in_part in
          let one : now.line ≡ old.line = same_line there.0 old.behind now.line old.line there.1 in_book (now.name ∙ sym old.name) in
          let was_there : StandsIn was old.behind now.line = subst (StandsIn was old.behind) (sym one) old.stands in
          let was_in_book : StandsIn book old.behind now.line = subst (StandsIn book old.behind) (sym one) in_book in
          outcome_at gives reading before now.behind now.line dep.name now.stands now.name (λ b l x q. all_new gives reading part valid' now.behind now.line in_part b l x (q ∙ sym now.name))
          ∙ later now.behind old.behind now.line in_part was_in_book (omega (arith, lt, fewer before now.behind now.line now.stands))
          ∙ sym (outcome_at gives reading was old.behind now.line dep.name was_there now.name (λ b l x q. all_new gives reading book valid old.behind now.line was_in_book b l x (q ∙ sym now.name)))

  part_origin : (before was : Book) (line : Line) → StandsIn part before line → StandsIn book was line → origin gives reading before line ≡ origin gives reading was line
  part_origin before was line s t = origin_within (suc (length before)) before was line s t (omega arith)

  -- ---- so a plan that might reuse the book may reuse the part, over a store that holds no more

  module _ (held less : Store) (tasks : List PlanTask) (no_more : HoldsNoMore held less) where
    tree_was : (tree : Entries) → IsTreeOf gives reading part tasks tree → IsTreeOf gives reading book tasks tree
    tree_was tree (of.output before line t s is) = let b = only before line s in of.output b.0 line t b.1 (sym (part_origin before b.0 line s b.1) ∙ is)
    tree_was tree (of.files before line s) = let b = only before line s in of.files b.0 line b.1
    tree_was tree (of.clean built t among is) = of.clean built t among is
    tree_was tree (of.inputs task among) = of.inputs task among

    content_was : (bytes : List ℕ) → IsContent gives reading less part tasks bytes → IsContent gives reading held book tasks bytes
    content_was bytes (inl c) = inl (c.0, tree_was c.0 c.1, c.2)
    content_was bytes (inr h) = inr (h.0, h.1, no_more h.0 h.1 h.2, h.3)

    part_clash : HasNoClash gives reading held book tasks → HasNoClash gives reading less part tasks
    part_clash none a b x y e = none a b (content_was a x) (content_was b y) e

    pub part_reuse : MayReuse gives reading held book tasks → HasNoCollision part (rows_of part) tasks → MayReuse gives reading less part tasks
    part_reuse may none = record { valid = valid'; sound = may.sound; blind = may.blind; no_clash = part_clash may.no_clash; no_collision = none }
