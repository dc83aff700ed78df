-- Lists side by side, and where lines stand in a book.
use Rattle.std.proofs.Common.{◌≡◌, ◌≢◌, ◌∙◌, sym, ap, subst, refl, zero, suc, ◌⊎◌, inl, inr, List, [], ◌∷◌, ◌++◌, append_assoc, arith}
use Rattle.std.specs.Prelude.{Contains}
use Rattle.std.specs.List.{AllByRecursion, AllZip}
use Rattle.std.proofs.lemmas.List.Elements.{Contains-append_right}
use Rattle.store_model.specs.Lines.{HasLine}
use Rattle.store_model.specs.Origins.{Book, Line}
use Rattle.store_model.specs.Valid.{StandsIn}
use Rattle.store_model.proofs.Standing.{each_line, stands_behind, stands_first}
use Rattle.store_move.specs.Formats.{Format}
use Rattle.store_move.proofs.Places.{AllNew}

module _ {A B : Type 0} (R : A → B → Type 0) where
  -- what stands beside an item of the second list
  pub beside_of : (xs : List A) (ys : List B) (y : B) → AllZip R xs ys → Contains ys y → (x : A) × Contains xs x × R x y
  beside_of [] [] y all has = absurd (let lt = has.1 in omega (arith, lt))
  beside_of [] (z ∷ ys) y all has = absurd all
  beside_of (x ∷ xs) [] y all has = absurd all
  beside_of (x ∷ xs) (z ∷ ys) y all (zero, lt, e) = (x, (0, omega arith, refl), subst (R x) e all.0)
  beside_of (x ∷ xs) (z ∷ ys) y all (suc k, lt, e) =
      let w = beside_of xs ys y all.1 (k, omega (arith, lt), e) in
      (w.0, (suc w.1.0, (let m = w.1.1 in omega (arith, m)), w.1.2), w.2)

  -- ... and beside one of the first
  pub beside_for : (xs : List A) (ys : List B) (x : A) → AllZip R xs ys → Contains xs x → (y : B) × Contains ys y × R x y
  beside_for [] [] x all has = absurd (let lt = has.1 in omega (arith, lt))
  beside_for [] (z ∷ ys) x all has = absurd all
  beside_for (z ∷ xs) [] x all has = absurd all
  beside_for (z ∷ xs) (y ∷ ys) x all (zero, lt, e) = (y, (0, omega arith, refl), subst (λ (a : A). R a y) e all.0)
  beside_for (z ∷ xs) (y ∷ ys) x all (suc k, lt, e) =
      let w = beside_for xs ys x all.1 (k, omega (arith, lt), e) in
      (w.0, (suc w.1.0, (let m = w.1.1 in omega (arith, m)), w.1.2), w.2)

  -- what holds of all that stand side by side
  pub zip_so : (S : A → B → Type 0) (xs : List A) (ys : List B) → ((x : A) (y : B) → Contains ys y → R x y → S x y) → AllZip R xs ys → AllZip S xs ys
  zip_so S [] [] so all = tt
  zip_so S [] (y ∷ ys) so all = absurd all
  zip_so S (x ∷ xs) [] so all = absurd all
  zip_so S (x ∷ xs) (y ∷ ys) so all =
      (so x y (0, omega arith, refl) all.0, zip_so S xs ys (λ a b has r. so a b (suc has.0, (let lt = has.1 in omega (arith, lt)), has.2) r) all.1)

-- ---- lines

pub among_stands : (book before : Book) (line : Line) → StandsIn book before line → Contains book line
among_stands book before line s = subst (λ (b : Book). Contains b line) (sym s.is) (Contains-append_right before (line ∷ s.rest) line (0, omega arith, refl))

pub stands_among : (book : Book) (line : Line) → Contains book line → HasLine book line
stands_among [] line has = absurd (let lt = has.1 in omega (arith, lt))
stands_among (x ∷ xs) line (zero, lt, e) = ([], record { rest = xs; is = ap (λ (l : Line). l ∷ xs) e })
stands_among (x ∷ xs) line (suc k, lt, e) = let w = stands_among xs line (k, omega (arith, lt), e) in (x ∷ w.0, stands_behind x xs w.0 line w.1)

-- the line stands in the first book, or in the second one, behind all of the first
split_at : (start more before rest : Book) (line : Line) → start ++ more ≡ before ++ line ∷ rest
    → StandsIn start before line ⊎ ((middle : Book) × (before ≡ start ++ middle) × StandsIn more middle line)
split_at [] more before rest line e = inr (before, refl, record { rest = rest; is = e })
split_at (s ∷ start) more [] rest line e = let first : s ≡ line = cc in inl (record { rest = start; is = ap (λ (l : Line). l ∷ start) first })
split_at (s ∷ start) more (b ∷ before) rest line e =
    let first : s ≡ b = cc in
    let tail : start ++ more ≡ before ++ line ∷ rest = cc in
    elim (split_at start more before rest line tail) [
      | inl t ↦ inl (record { rest = t.rest; is = λ i. first i ∷ t.is i })
      | inr m ↦ inr (m.0, (λ i. sym first i ∷ m.1 i), m.2)
    ]

pub split_stands : (start more before : Book) (line : Line) → StandsIn (start ++ more) before line
    → StandsIn start before line ⊎ ((middle : Book) × (before ≡ start ++ middle) × StandsIn more middle line)
split_stands start more before line s = split_at start more before s.rest line s.is

-- a line of the second book stands in both, behind all of the first
pub stands_later : (start more before : Book) (line : Line) → StandsIn more before line → StandsIn (start ++ more) (start ++ before) line
stands_later start more before line s = record { rest = s.rest; is = ap (λ (b : Book). start ++ b) s.is ∙ sym (append_assoc start before (line ∷ s.rest)) }

-- ... and one of the first stands in both
pub stands_sooner : (start more before : Book) (line : Line) → StandsIn start before line → StandsIn (start ++ more) before line
stands_sooner start more before line s = record { rest = s.rest ++ more; is = ap (λ (b : Book). b ++ more) s.is ∙ append_assoc before (line ∷ s.rest) more }

-- ---- lines whose names differ

module _ (form : Format) where
  abbrev pub Distinct : Book → Type 0
  Distinct [] = Unit {0}
  Distinct (l ∷ ls) = AllByRecursion (λ (m : Line). form.name_of l.sig ≢ form.name_of m.sig) ls × Distinct ls

  pub distinct_of : (book : Book) → AllNew form book → Distinct book
  distinct_of [] new = tt
  distinct_of (l ∷ ls) new = (
    each_line (λ (m : Line). form.name_of l.sig ≢ form.name_of m.sig) ls (λ before m s same. new (l ∷ before) m (stands_behind l ls before m s) [] l (stands_first l before) same),
    distinct_of ls (λ before m s behind earlier t. new (l ∷ before) m (stands_behind l ls before m s) (l ∷ behind) earlier (stands_behind l before behind earlier t)),
  )

  -- of two books the one behind the other
  pub later_distinct : (start more : Book) → AllNew form (start ++ more) → Distinct more
  later_distinct start more new = distinct_of more (λ before m s behind earlier t. new (start ++ before) m (stands_later start more before m s) (start ++ behind) earlier (stands_later start before behind earlier t))

  pub names_apart : (start more b c : Book) (k l : Line) → AllNew form (start ++ more) → StandsIn start b k → StandsIn more c l → form.name_of k.sig ≢ form.name_of l.sig
  names_apart start more b c k l new s t same = new (start ++ c) l (stands_later start more c l t) b k (stands_sooner start c b k s) same
