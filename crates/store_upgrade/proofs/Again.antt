-- A book's lines in another order, by their names in a format, are a valid book again.
use Rattle.std.proofs.Common.{◌≡◌, ◌∙◌, sym, ap, subst, refl, ℕ, zero, suc, ◌<◌, List, [], ◌∷◌, length, arith, ◌⊎◌}
use Rattle.std.specs.List.{AllByRecursion}
use Rattle.std.proofs.lemmas.List.Elements.{All-from_recursion, recursion_from_All}
use Rattle.tree_model.specs.declared.hash.Hash.{Hash}
use Rattle.meta_model.specs.CleanBuild.{Gives}
use Rattle.store_model.specs.declared.signature.DepLine.{DepLine}
use Rattle.store_model.specs.Lines.{HasLine, HaveSameLines}
use Rattle.store_model.specs.Origins.{Book, Line, Reading, traced_over, with_dep}
use Rattle.store_model.specs.Valid.{StandsIn}
use Rattle.store_model.proofs.Ordered.{each_weaker}
use Rattle.store_model.proofs.Standing.{stands_earlier}
use Rattle.store_move.specs.Formats.{Format, IsNamedAlike, IsNamedBefore, IsValidBook, IsValidLine, dep_outputs, origin, outcome_named, traced}
use Rattle.store_move.proofs.Places.{AllNew, one_place}
use Rattle.store_move.proofs.Shares.{alike_unihash}
use Rattle.store_move.proofs.Traces.{outcome_at}
use Rattle.record_belief.proofs.Bookish.{fewer}

-- one of the lines has this name
pub record HasNamed (form : Format) (before : Book) (name : Hash) : Type 0 where
  pub line : Line
  pub behind : Book
  pub stands : StandsIn before behind line
  pub name_is : form.name_of line.sig ≡ name

abbrev pub IsDepNamed : Format → Book → DepLine → Type 0
IsDepNamed form before dep = HasNamed form before dep.name

-- lines of the book in another order: no two have one name, and what each of them names stands before it
pub record IsReordered (form : Format) (book again : Book) : Type 0 where
  pub new : AllNew form again
  pub only : (before : Book) (line : Line) → StandsIn again before line → HasLine book line
  pub deps : (before : Book) (line : Line) → StandsIn again before line → AllByRecursion (IsDepNamed form before) line.sig.deps
  pub unihash : (before : Book) (line : Line) → StandsIn again before line → (line.unihash ≡ form.name_of line.sig) ⊎ IsNamedAlike form before line

-- what stands before a line differs in name too
new_front : (form : Format) (book before : Book) (line : Line) → AllNew form book → StandsIn book before line → AllNew form before
new_front form book before line new s behind earlier t = new behind earlier (stands_earlier book before behind line earlier s t)

module _ (form : Format) (gives : Gives) (reading : Reading) (book again : Book) (valid : IsValidBook form gives reading book) (re : IsReordered form book again) where
  book_new : AllNew form book
  book_new before line s = let v = valid before line s in v.new

  -- two lines of the book with one name are one
  same_line : (b c : Book) (k l : Line) → StandsIn book b k → StandsIn book c l → form.name_of k.sig ≡ form.name_of l.sig → k ≡ l
  same_line b c k l s t same = let one = one_place form book b c k l book_new s t same in one.1

  -- the line that a needed task names is the one that it named in the book
  one_named : (before was : Book) (line : Line) (dep : DepLine) → StandsIn again before line → StandsIn book was line
      → (now : HasNamed form before dep.name) (old : IsNamedBefore form was dep) → now.line ≡ old.line
  one_named before was line dep s t now old =
      let there = re.only now.behind now.line (stands_earlier again before now.behind line now.line s now.stands) in
      same_line there.0 old.behind now.line old.line there.1 (stands_earlier book was old.behind line old.line t old.stands) (now.name_is ∙ sym old.name)

  named_before : (before was : Book) (line : Line) → StandsIn again before line → StandsIn book was line → (deps : List DepLine) → AllByRecursion (IsDepNamed form before) deps
      → AllByRecursion (IsNamedBefore form was) deps → AllByRecursion (IsNamedBefore form before) deps
  named_before before was line s t [] now old = tt
  named_before before was line s t (dep ∷ deps) now old =
      let n = now.0 in
      let o = old.0 in
      let one = one_named before was line dep s t n o in (
        record {
          line = n.line;
          behind = n.behind;
          stands = n.stands;
          name = n.name_is;
          pn = ap (λ (l : Line). l.sig.pn) one ∙ o.pn;
          task = ap (λ (l : Line). l.sig.task) one ∙ o.task;
        },
        named_before before was line s t deps now.1 old.1,
      )

  -- ---- what lines gave

  -- lines with fewer before them gave the same
  abbrev SameWithin : ℕ → Type 0
  SameWithin n = (b w : Book) (l : Line) → StandsIn again b l → StandsIn book w l → length b < n → origin form gives reading b l ≡ origin form gives reading w l

  one_output : (n : ℕ) (before was : Book) (line : Line) (dep : DepLine) → StandsIn again before line → StandsIn book was line → length before < suc n → SameWithin n
      → HasNamed form before dep.name → IsNamedBefore form was dep
      → outcome_named form (traced form gives reading before) dep.name ≡ outcome_named form (traced form gives reading was) dep.name
  one_output n before was line dep s t lt same now old =
      let one = one_named before was line dep s t now old in
      let in_again = stands_earlier again before now.behind line now.line s now.stands in
      let in_book = stands_earlier book was old.behind line old.line t old.stands in
      let in_was : StandsIn was old.behind now.line = subst (StandsIn was old.behind) (sym one) old.stands in
      outcome_at form gives reading before now.behind now.line dep.name (new_front form again before line re.new s) now.stands now.name_is
      ∙ same now.behind old.behind now.line in_again (subst (StandsIn book old.behind) (sym one) in_book) (omega (arith, lt, fewer before now.behind now.line now.stands))
      ∙ sym (outcome_at form gives reading was old.behind now.line dep.name (new_front form book was line book_new t) in_was now.name_is)

  all_outputs : (n : ℕ) (before was : Book) (line : Line) → StandsIn again before line → StandsIn book was line → length before < suc n → SameWithin n
      → (deps : List DepLine) → AllByRecursion (IsDepNamed form before) deps → AllByRecursion (IsNamedBefore form was) deps
      → dep_outputs form (traced form gives reading before) deps ≡ dep_outputs form (traced form gives reading was) deps
  all_outputs n before was line s t lt same [] now old = refl
  all_outputs n before was line s t lt same (dep ∷ deps) now old =
      let one = one_output n before was line dep s t lt same now.0 old.0 in
      let more = all_outputs n before was line s t lt same deps now.1 old.1 in
      λ i. with_dep dep (one i) (more i)

  origins_within : (n : ℕ) → SameWithin n
  origins_within zero before was line s t lt = absurd (omega (arith, lt))
  origins_within (suc n) before was line s t lt =
      let v = valid was line t in
      let old = recursion_from_All (IsNamedBefore form was) line.sig.deps v.deps in
      ap (traced_over gives reading line) (all_outputs n before was line s t lt (origins_within n) line.sig.deps (re.deps before line s) old)

  pub same_origin : (before was : Book) (line : Line) → StandsIn again before line → StandsIn book was line
      → origin form gives reading before line ≡ origin form gives reading was line
  same_origin before was line s t = origins_within (suc (length before)) before was line s t (omega arith)

  pub again_valid : IsValidBook form gives reading again
  again_valid before line s = record {
    spelled = v.spelled;
    new = re.new before line s;
    plain = v.plain;
    tree = v.tree;
    files = v.files;
    deps = All-from_recursion (IsNamedBefore form before) line.sig.deps
        (named_before before there.0 line s there.1 line.sig.deps (re.deps before line s) (recursion_from_All (IsNamedBefore form there.0) line.sig.deps v.deps));
    output = v.output;
    origin = same_origin before there.0 line s there.1 ∙ v.origin;
    manifest = v.manifest;
    shared = λ behind earlier t alike.
        let b = re.only behind earlier (stands_earlier again before behind line earlier s t) in
        alike_unihash form gives reading book valid b.0 there.0 earlier line b.1 there.1 alike;
    named = re.unihash before line s;
  }
    where
      there : HasLine book line
      there = re.only before line s

      v : IsValidLine form gives reading there.0 line
      v = valid there.0 line there.1

-- a valid book of the same lines has them in another order
pub reordered_of : (form : Format) (gives : Gives) (reading : Reading) (book again : Book) → IsValidBook form gives reading again → HaveSameLines book again
    → IsReordered form book again
reordered_of form gives reading book again valid same = record {
  new = λ before line s. let v = valid before line s in v.new;
  only = same.only;
  deps = λ before line s.
      let v = valid before line s in
      each_weaker (IsNamedBefore form before) (IsDepNamed form before) (λ dep n. record { line = n.line; behind = n.behind; stands = n.stands; name_is = n.name }) line.sig.deps
      (recursion_from_All (IsNamedBefore form before) line.sig.deps v.deps);
  unihash = λ before line s. let v = valid before line s in v.named;
}
