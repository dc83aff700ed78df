-- Whence the lines are that stay.
use Rattle.std.proofs.Common.{◌≡◌, ◌∙◌, sym, ap, refl, Bool, true, false, [], ◌∷◌, ◌++◌, filter}
use Rattle.store_model.specs.Origins.{Book, Line}
use Rattle.store_model.specs.Valid.{StandsIn}
use Rattle.std.proofs.lemmas.List.Elements.{filter-append}
use Rattle.store_model.proofs.Standing.{stands_behind}

no_line : (before : Book) (line : Line) (rest : Book) → ◌≡◌ {A = Book} [] (before ++ line ∷ rest) → ⊥
no_line [] line rest e = cc
no_line (x ∷ before) line rest e = cc

-- a line that stays stood in the book
pub record WasIn (k : Line → Bool) (book : Book) (line : Line) : Type 0 where
  pub was : Book
  pub at : StandsIn book was line
  pub kept : k line ≡ true

pub was_in : (k : Line → Bool) (book before : Book) (line : Line) → StandsIn (filter k book) before line → WasIn k book line
was_in k [] before line s = absurd (no_line before line s.rest s.is)
was_in k (x ∷ xs) before line s = by (k x) refl before s (λ d l t. was_in k xs d l t)
  where
    by : (b : Bool) → k x ≡ b → (c : Book) → StandsIn (filter k (x ∷ xs)) c line → ((d : Book) (l : Line) → StandsIn (filter k xs) d l → WasIn k xs l) → WasIn k (x ∷ xs) line
    by true t [] s' more =
        let e = s'.is in
        let f : x ∷ filter k xs ≡ line ∷ s'.rest = rw t at e in
        let first : x ≡ line = cc in
        record { was = []; at = record { rest = xs; is = ap (λ (l : Line). l ∷ xs) first }; kept = sym (ap k first) ∙ t }
    by true t (y ∷ c) s' more =
        let e = s'.is in
        let f : x ∷ filter k xs ≡ y ∷ c ++ line ∷ s'.rest = rw t at e in
        let rest : filter k xs ≡ c ++ line ∷ s'.rest = cc in
        let w = more c line (record { rest = s'.rest; is = rest }) in
        record { was = x ∷ w.was; at = stands_behind x xs w.was line w.at; kept = w.kept }
    by false f c s' more =
        let e = s'.is in
        let g : filter k xs ≡ c ++ line ∷ s'.rest = rw f at e in
        let w = more c line (record { rest = s'.rest; is = g }) in
        record { was = x ∷ w.was; at = stands_behind x xs w.was line w.at; kept = w.kept }

-- a line of the book that is admitted stays
pub stands_kept : (k : Line → Bool) (book was : Book) (line : Line) → StandsIn book was line → k line ≡ true → StandsIn (filter k book) (filter k was) line
stands_kept k book was line s t = record { rest = filter k s.rest; is = ap (filter k) s.is ∙ filter-append k was (line ∷ s.rest) ∙ ap (λ (l : Book). filter k was ++ l) (rw t refl) }
