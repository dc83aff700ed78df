-- What the lines of a file are made of.
use Rattle.std.proofs.Common.{◌≡◌, ℕ, suc, ◌-◌, Bool, true, false, cond, not, ◌&&◌, ◌||◌, ◌==◌, List, [], ◌∷◌, ◌++◌, map, length, refl, sym, ap, ◌∙◌, Ok, Err, bytes_eq, codes}
use Rattle.std.specs.List.{list_all}
use Rattle.std.specs.Str.Lossy.{utf8_valid_len}
use Rattle.std.proofs.lemmas.Bool.{and_parts}
use Rattle.std.proofs.lemmas.Slice.Eq.{bytes_eq-Decides}
use Rattle.std.proofs.lemmas.List.Folds.{list_all-append}
use Rattle.meta_model.specs.declared.line.Line.{Line}
use Rattle.meta_model.specs.declared.line.Place.{Place}
use Rattle.meta_model.specs.declared.line.Place.TheVariants.{Plain, Body, Close}
use Rattle.meta_model.specs.declared.line.SyntaxFault.TheVariants.{CommentInJoin, NotUtf8}
use Rattle.meta_model.specs.Text.{newline, is_empty, without_end, end_kept, without_last}
use Rattle.meta_model.specs.Lines.{pieces, onto_first, physical_lines, is_comment, is_joined, opens_body, Standing, outside, inside, joining, Step, nothing, line, fault, step, whole, OrFault, with_first, logical_from, lines_of_text, logical_lines, line_at}
use Rattle.meta_model.specs.Statements.{body_of}
use Rattle.bb_parser.specs.Written.{is_one_line, is_dropped, is_body_line, ends_line, are_whole_lines}
use Rattle.bb_parser.proofs.WrittenLines.{pieces-line}
use Rattle.bb_parser.proofs.WrittenWords.{all-take, all-without_end}
use Rattle.bb_parser.proofs.WritableFacts.{ends-behind}

-- each piece is one line
onto-one : (c : ℕ) (ps : List (List ℕ)) → (c == newline) ≡ false → list_all is_one_line ps ≡ true → list_all is_one_line (onto_first c ps) ≡ true
onto-one c [] h k = rw h refl
onto-one c (p ∷ ps) h k = rw h k

pub pieces-one : (bs : List ℕ) → list_all is_one_line (pieces bs) ≡ true
pieces-one [] = refl
pieces-one (b ∷ bs) = by_case (b == newline) refl (pieces-one bs)
  where
    by_case : (t : Bool) → (b == newline) ≡ t → list_all is_one_line (pieces bs) ≡ true → list_all is_one_line (cond t ([] ∷ pieces bs) (onto_first b (pieces bs))) ≡ true
    by_case true e h = h
    by_case false e h = onto-one b (pieces bs) e h

-- what is dropped at an end isn't dropped again
kept-again : (p : ℕ → Bool) (x : ℕ) (ys : List ℕ) → without_end p ys ≡ ys → without_end p (end_kept p x ys) ≡ end_kept p x ys
kept-again p x [] h = by_case (p x) refl
  where
    by_case : (b : Bool) → p x ≡ b → without_end p (cond b [] (x ∷ [])) ≡ cond b [] (x ∷ [])
    by_case true e = refl
    by_case false e = rw e refl
kept-again p x (y ∷ ys) h = ap (end_kept p x) h

end-again : (p : ℕ → Bool) (xs : List ℕ) → without_end p (without_end p xs) ≡ without_end p xs
end-again p [] = refl
end-again p (x ∷ xs) = kept-again p x (without_end p xs) (end-again p xs)

-- a physical line
abbrev pub is_physical : List ℕ → Bool
is_physical p = is_one_line p && bytes_eq (without_end is_dropped p) p

physical-ends : (ps : List (List ℕ)) → list_all is_one_line ps ≡ true → list_all is_physical (map (without_end is_dropped) ps) ≡ true
physical-ends [] h = refl
physical-ends (p ∷ ps) h = let b = and_parts (is_one_line p) (list_all is_one_line ps) h in
    rw (all-without_end (λ c. not (c == newline)) is_dropped p b.0, (bytes_eq-Decides (without_end is_dropped (without_end is_dropped p)) (without_end is_dropped p)).1 (end-again is_dropped p)) (physical-ends ps b.1)

pub physical-all : (bs : List ℕ) → list_all is_physical (physical_lines bs) ≡ true
physical-all bs = physical-ends (pieces bs) (pieces-one bs)

-- a line of a file is one line, and one of a body can stand in a body
abbrev pub fits_place : Place → List ℕ → Bool
fits_place place text = elim place [ Plain ↦ true | Body ↦ is_body_line text | Close ↦ true ]

abbrev pub is_line : Line → Bool
is_line l = is_one_line l.text && fits_place l.place l.text

abbrev standing_one : Standing → Bool
standing_one outside = true
standing_one (joining n text) = is_one_line text
standing_one inside = true

-- what a step leaves
abbrev leaves : Step → Bool
leaves (nothing next) = standing_one next
leaves (line l next) = is_line l && standing_one next
leaves (fault n w) = true

without_last-one : (t : List ℕ) → is_one_line t ≡ true → is_one_line (without_last t) ≡ true
without_last-one t h = all-take (λ c. not (c == newline)) (length t - 1) t h

whole-leaves : (n : ℕ) (t : List ℕ) → is_one_line t ≡ true → leaves (whole n t) ≡ true
whole-leaves n t h = by_case (opens_body t)
  where
    by_case : (b : Bool) → (is_one_line t && true && standing_one (cond b inside outside)) ≡ true
    by_case true = rw h refl
    by_case false = rw h refl

append-one : (a b : List ℕ) → is_one_line a ≡ true → is_one_line b ≡ true → is_one_line (a ++ b) ≡ true
append-one a b h k = list_all-append (λ c. not (c == newline)) a b ∙ rw (h, k) refl

step-leaves : (s : Standing) (n : ℕ) (p : List ℕ) → standing_one s ≡ true → is_physical p ≡ true → leaves (step s n p) ≡ true
step-leaves outside n p h k = let a = and_parts (is_one_line p) (bytes_eq (without_end is_dropped p) p) k in by_case (is_empty p || is_comment p) (is_joined p) a.0
  where
    by_case : (b d : Bool) → is_one_line p ≡ true → leaves (cond b (nothing outside) (cond d (nothing (joining n (without_last p))) (whole n p))) ≡ true
    by_case true d o = refl
    by_case false true o = without_last-one p o
    by_case false false o = whole-leaves n p o
step-leaves (joining m t) n p h k = let a = and_parts (is_one_line p) (bytes_eq (without_end is_dropped p) p) k in by_case (is_comment p) (is_joined p) a.0
  where
    by_case : (b d : Bool) → is_one_line p ≡ true → leaves (cond b (fault n CommentInJoin) (cond d (nothing (joining m (t ++ without_last p))) (whole m (t ++ p)))) ≡ true
    by_case true d o = refl
    by_case false true o = append-one t (without_last p) h (without_last-one p o)
    by_case false false o = whole-leaves m (t ++ p) (append-one t p h o)
step-leaves inside n p h k = let a = and_parts (is_one_line p) (bytes_eq (without_end is_dropped p) p) k in by_case (bytes_eq p (codes "}")) refl a.0 a.1
  where
    by_case : (b : Bool) → bytes_eq p (codes "}") ≡ b → is_one_line p ≡ true → bytes_eq (without_end is_dropped p) p ≡ true
        → leaves (cond b (line (record { number = n; place = Close; text = p }) outside) (line (record { number = n; place = Body; text = p }) inside)) ≡ true
    by_case true e o w = rw o refl
    by_case false e o w = rw (o, w, e) refl

-- what is found behind a step
after : ℕ → List (List ℕ) → Step → OrFault (List Line)
after n ps st = elim st [ nothing next ↦ logical_from next (suc n) ps | line l next ↦ with_first l (logical_from next (suc n) ps) | fault at wrong ↦ Err (at, wrong) ]

pub first-made : {A : Type 0} (l : A) (r : OrFault (List A)) (ls : List A) → with_first l r ≡ Ok ls → (more : List A) × (r ≡ Ok more) × (ls ≡ l ∷ more)
first-made l (Ok more) ls e = let g : l ∷ more ≡ ls = cc in (more, refl, sym g)
first-made l (Err x) ls e = cc

none-made : (ls : List Line) → ◌≡◌ {A = OrFault (List Line)} (Ok []) (Ok ls) → list_all is_line ls ≡ true
none-made ls e = let g : [] ≡ ls = cc in ap (list_all is_line) (sym g)

by_step : (n : ℕ) (ps : List (List ℕ)) (ls : List Line) (st : Step) → leaves st ≡ true → ((next : Standing) (more : List Line) → standing_one next ≡ true → logical_from next (suc n) ps ≡ Ok more → list_all is_line more ≡ true)
    → after n ps st ≡ Ok ls → list_all is_line ls ≡ true
unfolding after
by_step n ps ls (nothing next) h f e = f next ls h e
by_step n ps ls (line l next) h f e = let a = and_parts (is_line l) (standing_one next) h in
    let m = first-made l (logical_from next (suc n) ps) ls e in
    ap (list_all is_line) m.2 ∙ rw (a.0, f next m.0 a.1 m.1) refl
by_step n ps ls (fault at wrong) h f e = cc

lines-made : (s : Standing) (n : ℕ) (ps : List (List ℕ)) (ls : List Line) → standing_one s ≡ true → list_all is_physical ps ≡ true → logical_from s n ps ≡ Ok ls → list_all is_line ls ≡ true
unfolding after
lines-made outside n [] ls h k e = none-made ls e
lines-made (joining m t) n [] ls h k e = cc
lines-made inside n [] ls h k e = none-made ls e
lines-made outside n (p ∷ ps) ls h k e = let a = and_parts (is_physical p) (list_all is_physical ps) k in
    by_step n ps ls (step outside n p) (step-leaves outside n p h a.0) (λ next more x y. lines-made next (suc n) ps more x a.1 y) e
lines-made (joining m t) n (p ∷ ps) ls h k e = let a = and_parts (is_physical p) (list_all is_physical ps) k in
    by_step n ps ls (step (joining m t) n p) (step-leaves (joining m t) n p h a.0) (λ next more x y. lines-made next (suc n) ps more x a.1 y) e
lines-made inside n (p ∷ ps) ls h k e = let a = and_parts (is_physical p) (list_all is_physical ps) k in
    by_step n ps ls (step inside n p) (step-leaves inside n p h a.0) (λ next more x y. lines-made next (suc n) ps more x a.1 y) e

pub lines-are : (bs : List ℕ) (ls : List Line) → logical_lines bs ≡ Ok ls → list_all is_line ls ≡ true
unfolding logical_lines
lines-are bs ls e = by_case (utf8_valid_len bs == length bs) e
  where
    by_case : (b : Bool) → cond b (lines_of_text bs) (Err (line_at (utf8_valid_len bs) bs, NotUtf8)) ≡ Ok ls → list_all is_line ls ≡ true
    by_case true h = lines-made outside 1 (physical_lines bs) ls refl (physical-all bs) h
    by_case false h = cc

whole-step : (p : Place) (t b : List ℕ) → is_one_line t ≡ true → fits_place p t ≡ true → are_whole_lines b ≡ true → are_whole_lines (elim p [ Plain ↦ [] | Body ↦ t ++ newline ∷ b | Close ↦ [] ]) ≡ true
whole-step Plain t b o h k = refl
whole-step Body t b o h k = let a = and_parts (ends_line b) (list_all is_body_line (pieces b)) k in rw (ends-behind t b, pieces-line t b o, a.0, h, a.1) refl
whole-step Close t b o h k = refl

-- the text of a body is whole lines
pub body-whole : (ls : List Line) → list_all is_line ls ≡ true → are_whole_lines (body_of ls) ≡ true
body-whole [] h = refl
body-whole (l ∷ ls) h = let a = and_parts (is_line l) (list_all is_line ls) h in let b = and_parts (is_one_line l.text) (fits_place l.place l.text) a.0 in
    whole-step l.place l.text (body_of ls) b.0 b.1 (body-whole ls a.1)
