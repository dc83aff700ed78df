-- Lines that come behind a book in any choice.
use Rattle.std.proofs.Common.{◌≡◌, ◌≢◌, ◌∙◌, sym, ap, subst, refl, ◌⊎◌, inl, inr, List, [], ◌∷◌, ◌++◌, Result, append_assoc, append-nil}
use Rattle.std.specs.List.{AllByRecursion}
use Rattle.std.proofs.lemmas.List.Elements.{All-weaker, recursion_from_All}
use Rattle.meta_model.specs.CleanBuild.{Entries, Gives, Lack}
use Rattle.store_model.specs.declared.signature.DepLine.{DepLine}
use Rattle.store_model.specs.Lines.{HasLine}
use Rattle.store_model.specs.Origins.{Book, Line, Reading, Traced, dep_outputs, origin, outcome_named, traced, traced_over, with_dep}
use Rattle.store_model.specs.Spelling.{name_of}
use Rattle.store_model.specs.Valid.{IsNamedBefore, IsValidBook, IsValidLine, StandsIn}
use Rattle.store_model.proofs.Ordered.{each_middle, each_weaker}
use Rattle.store_model.proofs.Standing.{stands_behind, stands_further}
use Rattle.store_model.proofs.Tracing.{outcome_at}
use Rattle.build_store.proofs.Others.{longer_valid}
use Rattle.run_queue.specs.Joined.{AreTwo, LineStaysValid, LinesJoin}

-- ---- lines of two books in a row

pub has_either : (xs ys before : Book) (line : Line) → StandsIn (xs ++ ys) before line → HasLine xs line ⊎ HasLine ys line
has_either [] ys before line stands = inr (before, stands)
has_either (x ∷ xs) ys [] line stands = inl ([], record { rest = xs; is = let e : x ∷ (xs ++ ys) ≡ line ∷ stands.rest = stands.is in let h : x ≡ line = cc in ap (λ (y : Line). y ∷ xs) h })
has_either (x ∷ xs) ys (b ∷ bs) line stands =
    let e : x ∷ (xs ++ ys) ≡ b ∷ (bs ++ line ∷ stands.rest) = stands.is in
    let tail : xs ++ ys ≡ bs ++ line ∷ stands.rest = cc in
    by (has_either xs ys bs line (record { rest = stands.rest; is = tail }))
  where
    by : HasLine xs line ⊎ HasLine ys line → HasLine (x ∷ xs) line ⊎ HasLine ys line
    by (inl h) = inl (x ∷ h.0, stands_behind x xs h.0 line h.1)
    by (inr h) = inr h

-- what each line of a book has
pub line_has : (P : Line → Type 0) (book : Book) (line : Line) → AllByRecursion P book → HasLine book line → P line
line_has P book line all has = each_middle P has.0 line has.1.rest (subst (AllByRecursion P) has.1.is all)

pub two_turned : (a b : Line) → AreTwo a b → AreTwo b a
two_turned a b two = record { names = λ same. two.names (sym same); tasks = λ pn task. two.tasks (sym pn) (sym task) }

-- ---- a line behind more lines

same_deps : (xs ys : List Traced) (deps : List DepLine) → AllByRecursion (λ (dep : DepLine). outcome_named xs dep.name ≡ outcome_named ys dep.name) deps → dep_outputs xs deps ≡ dep_outputs ys deps
same_deps xs ys [] all = refl
same_deps xs ys (dep ∷ deps) all = ap (λ (r : Result Entries Lack). with_dep dep r (dep_outputs xs deps)) all.0 ∙ ap (with_dep dep (outcome_named ys dep.name)) (same_deps xs ys deps all.1)

module _ (gives : Gives) (reading : Reading) (book : Book) (valid : IsValidBook gives reading book) (more : Book) where
  further : (before : Book) (line : Line) → StandsIn book before line → StandsIn (book ++ more) before line
  further before line stands = stands_further (book ++ more) book more before line refl stands

  -- what a named line gave is found behind more lines too
  same_outcome : (dep : DepLine) → IsNamedBefore book dep → outcome_named (traced gives reading (book ++ more)) dep.name ≡ outcome_named (traced gives reading book) dep.name
  same_outcome dep n =
      let new : (behind : Book) (earlier : Line) → StandsIn n.behind behind earlier → name_of earlier.sig ≢ dep.name = λ behind earlier s same. (valid n.behind n.line n.stands).new behind earlier s (same ∙ sym n.name) in
      outcome_at gives reading (book ++ more) n.behind n.line dep.name (further n.behind n.line n.stands) n.name new
      ∙ sym (outcome_at gives reading book n.behind n.line dep.name n.stands n.name new)

  same_origin : (line : Line) → IsValidLine gives reading book line → origin gives reading (book ++ more) line ≡ origin gives reading book line
  same_origin line v =
      ap (traced_over gives reading line) (same_deps (traced gives reading (book ++ more)) (traced gives reading book) line.sig.deps
      (each_weaker (IsNamedBefore book) (λ (dep : DepLine). outcome_named (traced gives reading (book ++ more)) dep.name ≡ outcome_named (traced gives reading book) dep.name) same_outcome line.sig.deps (recursion_from_All (IsNamedBefore book) line.sig.deps v.deps)))

  still_named : (dep : DepLine) → IsNamedBefore book dep → IsNamedBefore (book ++ more) dep
  still_named dep n = record { line = n.line; behind = n.behind; stands = further n.behind n.line n.stands; name = n.name; pn = n.pn; task = n.task }

  stays_valid : (line : Line) → IsValidLine gives reading book line → AllByRecursion (AreTwo line) more → IsValidLine gives reading (book ++ more) line
  stays_valid line v two = record {
    spelled = v.spelled;
    new = λ behind earlier s same. elim (has_either book more behind earlier s) [
      | inl old ↦ v.new old.0 earlier old.1 same
      | inr other ↦ (line_has (AreTwo line) more earlier two other).names (sym same)
    ];
    plain = v.plain;
    tree = v.tree;
    files = v.files;
    deps = All-weaker (IsNamedBefore book) (IsNamedBefore (book ++ more)) still_named line.sig.deps v.deps;
    output = v.output;
    origin = same_origin line v ∙ v.origin;
    manifest = v.manifest;
    shared = λ behind earlier s alike. elim (has_either book more behind earlier s) [
      | inl old ↦ v.shared old.0 earlier old.1 alike
      | inr other ↦ absurd ((line_has (AreTwo line) more earlier two other).tasks (sym alike.pn) (sym alike.task))
    ];
    named = elim v.named [
      | inl own ↦ inl own
      | inr like ↦ inr (record { first = like.first; behind = like.behind; stands = further like.behind like.first like.stands; alike = like.alike; name = like.name })
    ];
  }

pub line_stays_valid : LineStaysValid
line_stays_valid gives reading book more line valid v two = stays_valid gives reading book valid more line v two

-- ---- lines in a row

pub lines_join : LinesJoin
lines_join gives reading book [] valid alone two = subst (IsValidBook gives reading) (sym (append-nil book)) valid
lines_join gives reading book (line ∷ lines) valid alone two =
    let longer : Book = book ++ line ∷ [] in
    subst (IsValidBook gives reading) (append_assoc book (line ∷ []) lines)
    (lines_join gives reading longer lines (longer_valid gives reading book line valid alone.0) (behind lines alone.1 two.0) two.1)
  where
    behind : (rest : Book) → AllByRecursion (IsValidLine gives reading book) rest → AllByRecursion (AreTwo line) rest → AllByRecursion (IsValidLine gives reading (book ++ line ∷ [])) rest
    behind [] all apart = tt
    behind (l ∷ rest) all apart = (stays_valid gives reading book valid (line ∷ []) l all.0 (two_turned line l apart.0, tt), behind rest all.1 apart.1)
