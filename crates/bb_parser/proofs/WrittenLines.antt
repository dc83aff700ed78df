-- The logical lines of a text that is written of one statement.
use Rattle.std.proofs.Common.{◌≡◌, ℕ, suc, ◌-◌, Bool, true, false, cond, not, ◌==◌, List, [], ◌∷◌, ◌++◌, map, length, drop, refl, sym, ap, ◌∙◌, Ok, Err, arith, append_assoc, bytes_eq, codes}
use Rattle.std.specs.List.{list_all}
use Rattle.std.proofs.lemmas.Bool.{and_parts, and_right, eqb-true}
use Rattle.std.proofs.lemmas.Slice.Eq.{bytes_eq-Decides}
use Rattle.std.proofs.lemmas.List.{map-append, append-nil, take_at}
use Rattle.std.specs.Str.{IsUtf8}
use Rattle.meta_model.specs.declared.line.Line.{Line}
use Rattle.meta_model.specs.declared.line.Place.TheVariants.{Plain, Body, Close}
use Rattle.meta_model.specs.Text.{newline, is_blank, is_empty, without_end, without_last}
use Rattle.meta_model.specs.declared.line.Kind.{Kind}
use Rattle.meta_model.specs.Lines.{pieces, onto_first, is_comment, is_joined, opens_body, Step, nothing, line, fault, step, whole, outside, inside, joining, OrFault, with_first, logical_from, lines_of_text}
use Rattle.meta_model.specs.declared.statement.Statement.{Statement}
use Rattle.meta_model.specs.Statements.{AreStatements, statement_of, body_of, ends_in_body, statements_of_lines}
use Rattle.bb_lexer.proofs.Utf8Texts.{logical_lines-text}
use Rattle.bb_parser.proofs.ReadingFacts.{statements-lines}
use Rattle.bb_lexer.proofs.WholeLines.{step-outside, step-joining}
use Rattle.std.proofs.lemmas.List.Folds.{list_all-append}
use Rattle.bb_parser.specs.Written.{is_one_line, is_dropped, is_body_line, ends_line}
use Rattle.meta_model.proofs.Edges.{without_end-stays}
use Rattle.bb_parser.proofs.Tests.{not_false}

-- a line before a newline
pub pieces-line : (line rest : List ℕ) → is_one_line line ≡ true → pieces (line ++ newline ∷ rest) ≡ line ∷ pieces rest
pieces-line [] rest h = refl
pieces-line (c ∷ cs) rest h = let p = and_parts (not (c == newline)) (is_one_line cs) h in
    rw (not_false (c == newline) p.0, pieces-line cs rest p.1) refl

length-push : (c : ℕ) (ys : List ℕ) → length (ys ++ c ∷ []) ≡ suc (length ys)
length-push c [] = refl
length-push c (y ∷ ys) = ap suc (length-push c ys)

-- the last character of a line
pub drop-push : (ys : List ℕ) (c : ℕ) → drop (length (ys ++ c ∷ []) - 1) (ys ++ c ∷ []) ≡ c ∷ []
drop-push [] c = refl
drop-push (y ∷ ys) c = let e : suc (length (ys ++ c ∷ [])) - 1 ≡ suc (length (ys ++ c ∷ []) - 1) = omega (arith, length-push c ys) in
    rw e (drop-push ys c)

-- a line that ends in another character isn't joined
pub joined-no : (ys : List ℕ) (c : ℕ) → (92 == c) ≡ false → is_joined (ys ++ c ∷ []) ≡ false
joined-no ys c h = rw (drop-push ys c, h) refl

pub joined-yes : (ys : List ℕ) → is_joined (ys ++ 92 ∷ []) ≡ true
joined-yes ys = rw (drop-push ys 92) refl

pub without_last-push : (ys : List ℕ) (c : ℕ) → without_last (ys ++ c ∷ []) ≡ ys
without_last-push ys c = take_at ys (c ∷ []) (length (ys ++ c ∷ []) - 1) (omega (arith, length-push c ys))

-- a line that begins with a character that is no blank and no `#` is no comment
pub no_comment : (c : ℕ) (cs : List ℕ) → is_blank c ≡ false → (35 == c) ≡ false → is_comment (c ∷ cs) ≡ false
no_comment c cs b h = rw (b, h) refl

-- what a step leaves for the lines behind it
behind : ℕ → List (List ℕ) → Step → OrFault (List Line)
behind n ps st = elim st [ nothing next ↦ logical_from next (suc n) ps | line l next ↦ with_first l (logical_from next (suc n) ps) | fault at wrong ↦ Err (at, wrong) ]

-- a whole line outside of bodies that opens none
last-line : (n m : ℕ) (t : List ℕ) → opens_body t ≡ false → behind n [] (whole m t) ≡ Ok (record { number = m; place = Plain; text = t } ∷ [])
unfolding behind
last-line n m t o = rw o refl

lines-one : (p : List ℕ) → is_empty p ≡ false → is_comment p ≡ false → is_joined p ≡ false → opens_body p ≡ false → logical_from outside 1 (p ∷ []) ≡ Ok (record { number = 1; place = Plain; text = p } ∷ [])
unfolding behind
lines-one p e h j o = ap (behind 1 []) (step-outside 1 p p (rw (e, h) refl) j (sym (append-nil p))) ∙ last-line 1 1 p o

joins : (p : List ℕ) → is_empty p ≡ false → is_comment p ≡ false → is_joined p ≡ true → step outside 1 p ≡ nothing (joining 1 (without_last p))
joins p e h j = rw (e, h, j) refl

lines-joined : (p t : List ℕ) → is_empty p ≡ false → is_comment p ≡ false → is_joined p ≡ true → without_last p ≡ t → opens_body t ≡ false
    → logical_from outside 1 (p ∷ [] ∷ []) ≡ Ok (record { number = 1; place = Plain; text = t } ∷ [])
unfolding behind
lines-joined p t e h j w o = ap (behind 1 ([] ∷ [])) (joins p e h j ∙ ap (λ x. nothing (joining 1 x)) w) ∙ (ap (behind 2 []) (step-joining 1 2 t [] t refl refl (sym (append-nil t))) ∙ last-line 2 1 t o)

-- a text that is one line
pub one_line : (t : List ℕ) → is_empty t ≡ false → is_comment t ≡ false → is_one_line t ≡ true → without_end is_dropped t ≡ t → is_joined t ≡ false → opens_body t ≡ false
    → lines_of_text (t ++ newline ∷ []) ≡ Ok (record { number = 1; place = Plain; text = t } ∷ [])
one_line t e h l w j o = ap (λ ps. logical_from outside 1 (map (without_end is_dropped) ps)) (pieces-line t [] l) ∙ (ap (λ p. logical_from outside 1 (p ∷ [])) w ∙ lines-one t e h j o)

one_line-push : (t : List ℕ) → is_one_line t ≡ true → is_one_line (t ++ 92 ∷ []) ≡ true
one_line-push t h = list_all-append (λ c. not (c == newline)) t (92 ∷ []) ∙ rw h refl

-- a text that is one line, joined with an empty one
pub one_joined_line : (c : ℕ) (cs : List ℕ) → is_comment ((c ∷ cs) ++ 92 ∷ []) ≡ false → is_one_line (c ∷ cs) ≡ true → opens_body (c ∷ cs) ≡ false
    → lines_of_text ((c ∷ cs) ++ 92 ∷ newline ∷ newline ∷ []) ≡ Ok (record { number = 1; place = Plain; text = c ∷ cs } ∷ [])
one_joined_line c cs h l o =
    let p = pieces-line ((c ∷ cs) ++ 92 ∷ []) (newline ∷ []) (one_line-push (c ∷ cs) l) in
    ap lines_of_text (sym (append_assoc (c ∷ cs) (92 ∷ []) (newline ∷ newline ∷ []))) ∙ (ap (λ ps. logical_from outside 1 (map (without_end is_dropped) ps)) p
    ∙ (ap (λ x. logical_from outside 1 (x ∷ [] ∷ [])) (without_end-stays is_dropped (c ∷ cs) 92 refl)
    ∙ lines-joined ((c ∷ cs) ++ 92 ∷ []) (c ∷ cs) refl h (joined-yes (c ∷ cs)) (without_last-push (c ∷ cs) 92) o))

-- the lines of a body and the line that closes it
pub closing : ℕ → List (List ℕ) → List Line
closing n [] = record { number = n; place = Close; text = codes "}" } ∷ []
closing n (p ∷ ps) = record { number = n; place = Body; text = p } ∷ closing (suc n) ps

pub body_lines-text : List (List ℕ) → List ℕ
body_lines-text [] = []
body_lines-text (p ∷ ps) = p ++ newline ∷ body_lines-text ps

stays : (n : ℕ) (p : List ℕ) → bytes_eq p (codes "}") ≡ false → step inside n p ≡ line (record { number = n; place = Body; text = p }) inside
stays n p h = rw h refl

lines-body : (n : ℕ) (ps : List (List ℕ)) → list_all is_body_line ps ≡ true → logical_from inside n (map (without_end is_dropped) ps ++ codes "}" ∷ []) ≡ Ok (closing n ps)
unfolding behind closing
lines-body n [] h = refl
lines-body n (p ∷ ps) h =
    let a = and_parts (is_body_line p) (list_all is_body_line ps) h in
    let b = and_parts (bytes_eq (without_end is_dropped p) p) (not (bytes_eq p (codes "}"))) a.0 in
    let e = (bytes_eq-Decides (without_end is_dropped p) p).0 b.0 in
    ap (λ x. logical_from inside n (x ∷ map (without_end is_dropped) ps ++ codes "}" ∷ [])) e
    ∙ (ap (behind n (map (without_end is_dropped) ps ++ codes "}" ∷ [])) (stays n p (not_false (bytes_eq p (codes "}")) b.1))
    ∙ ap (with_first (record { number = n; place = Body; text = p })) (lines-body (suc n) ps a.1))

pub closing-body : (n : ℕ) (ps : List (List ℕ)) → body_of (closing n ps) ≡ body_lines-text ps
unfolding closing body_lines-text
closing-body n [] = refl
closing-body n (p ∷ ps) = ap (λ b. p ++ newline ∷ b) (closing-body (suc n) ps)

pub closing-closes : (n : ℕ) (ps : List (List ℕ)) → ends_in_body (closing n ps) ≡ false
unfolding closing
closing-closes n [] = refl
closing-closes n (p ∷ ps) = closing-closes (suc n) ps

pub closing-gives_none : (kind : Kind) (n : ℕ) (ps : List (List ℕ)) → statements_of_lines kind (closing n ps) ≡ Ok []
unfolding closing
closing-gives_none kind n [] = refl
closing-gives_none kind n (p ∷ ps) = closing-gives_none kind (suc n) ps

-- whole lines are their pieces, each with a newline
onto-text : (c : ℕ) (ps : List (List ℕ)) → (c == newline) ≡ false → is_empty ps ≡ false → body_lines-text (onto_first c ps) ≡ c ∷ body_lines-text ps
unfolding body_lines-text
onto-text c [] h e = cc
onto-text c (p ∷ ps) h e = refl

pieces-there : (c : ℕ) (cs : List ℕ) → is_empty (pieces (c ∷ cs)) ≡ false
pieces-there c cs = by_case (c == newline) refl (pieces cs)
  where
    onto : (ps : List (List ℕ)) → is_empty (onto_first c ps) ≡ false
    onto [] = refl
    onto (p ∷ ps) = refl

    by_case : (b : Bool) → (c == newline) ≡ b → (ps : List (List ℕ)) → is_empty (cond b ([] ∷ ps) (onto_first c ps)) ≡ false
    by_case true e ps = refl
    by_case false e ps = onto ps

step-text : (c : ℕ) (ps : List (List ℕ)) (t : List ℕ) → body_lines-text ps ≡ t → is_empty ps ≡ false → body_lines-text (cond (c == newline) ([] ∷ ps) (onto_first c ps)) ≡ c ∷ t
unfolding body_lines-text
step-text c ps t h k = by_case (c == newline) refl
  where
    by_case : (b : Bool) → (c == newline) ≡ b → body_lines-text (cond b ([] ∷ ps) (onto_first c ps)) ≡ c ∷ t
    by_case true e = rw (eqb-true c newline e) (ap (λ x. newline ∷ x) h)
    by_case false e = onto-text c ps e k ∙ ap (λ x. c ∷ x) h

last-text : (c : ℕ) → (c == newline) ≡ true → body_lines-text (cond (c == newline) ([] ∷ []) ((c ∷ []) ∷ [])) ≡ c ∷ []
unfolding body_lines-text
last-text c h = rw (eqb-true c newline h) refl

pub whole-text : (b : List ℕ) → ends_line b ≡ true → body_lines-text (pieces b) ≡ b
unfolding body_lines-text
whole-text [] h = refl
whole-text (c ∷ []) h = last-text c h
whole-text (c ∷ d ∷ ds) h = step-text c (pieces (d ∷ ds)) (d ∷ ds) (whole-text (d ∷ ds) h) (pieces-there d ds)

-- what follows whole lines is cut apart from them
onto-behind : (c : ℕ) (ps rs : List (List ℕ)) → is_empty ps ≡ false → onto_first c (ps ++ rs) ≡ onto_first c ps ++ rs
onto-behind c [] rs h = cc
onto-behind c (p ∷ ps) rs h = refl

step-behind : (c : ℕ) (ps qs rs : List (List ℕ)) → qs ≡ ps ++ rs → is_empty ps ≡ false → cond (c == newline) ([] ∷ qs) (onto_first c qs) ≡ cond (c == newline) ([] ∷ ps) (onto_first c ps) ++ rs
step-behind c ps qs rs h k = by_case (c == newline)
  where
    by_case : (b : Bool) → cond b ([] ∷ qs) (onto_first c qs) ≡ cond b ([] ∷ ps) (onto_first c ps) ++ rs
    by_case true = ap (λ x. [] ∷ x) h
    by_case false = ap (onto_first c) h ∙ onto-behind c ps rs k

last-behind : (c : ℕ) (rs : List (List ℕ)) → (c == newline) ≡ true → cond (c == newline) ([] ∷ rs) (onto_first c rs) ≡ cond (c == newline) ([] ∷ []) ((c ∷ []) ∷ []) ++ rs
last-behind c rs h = rw h refl

pub pieces-behind : (b rest : List ℕ) → ends_line b ≡ true → pieces (b ++ rest) ≡ pieces b ++ pieces rest
pieces-behind [] rest h = refl
pieces-behind (c ∷ []) rest h = last-behind c (pieces rest) h
pieces-behind (c ∷ d ∷ ds) rest h = step-behind c (pieces (d ∷ ds)) (pieces (d ∷ ds ++ rest)) (pieces rest) (pieces-behind (d ∷ ds) rest h) (pieces-there d ds)

opening : (n : ℕ) (ps : List (List ℕ)) (head : List ℕ) → opens_body head ≡ true → behind n ps (whole 1 head) ≡ with_first (record { number = 1; place = Plain; text = head }) (logical_from inside (suc n) ps)
unfolding behind
opening n ps head o = rw o refl

-- the lines of a function
pub function_lines : (head body : List ℕ) → is_empty head ≡ false → is_comment head ≡ false → is_one_line head ≡ true → without_end is_dropped head ≡ head → is_joined head ≡ false → opens_body head ≡ true
    → ends_line body ≡ true → list_all is_body_line (pieces body) ≡ true
    → lines_of_text (head ++ newline ∷ (body ++ 125 ∷ newline ∷ [])) ≡ Ok (record { number = 1; place = Plain; text = head } ∷ closing 2 (pieces body))
unfolding behind
function_lines head body e h l w j o b k =
    let ps = map (without_end is_dropped) (pieces body) ++ codes "}" ∷ [] in
    ap (λ x. logical_from outside 1 (map (without_end is_dropped) x)) (pieces-line head (body ++ 125 ∷ newline ∷ []) l ∙ ap (λ x. head ∷ x) (pieces-behind body (125 ∷ newline ∷ []) b))
    ∙ (ap (λ x. logical_from outside 1 (without_end is_dropped head ∷ x)) (map-append (without_end is_dropped) (pieces body) (codes "}" ∷ []))
    ∙ (ap (λ x. logical_from outside 1 (x ∷ ps)) w
    ∙ (ap (behind 1 ps) (step-outside 1 head head (rw (e, h) refl) j (sym (append-nil head)))
    ∙ (opening 1 ps head o
    ∙ ap (with_first (record { number = 1; place = Plain; text = head })) (lines-body 2 (pieces body) k)))))

-- the statement that a file of one line has
pub file_of_line : (kind : Kind) (bytes t : List ℕ) (s : Statement) → IsUtf8 bytes → lines_of_text bytes ≡ Ok (record { number = 1; place = Plain; text = t } ∷ []) → opens_body t ≡ false
    → statement_of kind t [] false ≡ Ok s → AreStatements kind bytes ((1, s) ∷ [])
file_of_line kind bytes t s u l o h = statements-lines kind bytes (record { number = 1; place = Plain; text = t } ∷ []) (logical_lines-text bytes u ∙ l) ∙ rw (o, h) refl

pub file_of_function : (kind : Kind) (bytes t body : List ℕ) (s : Statement) → IsUtf8 bytes → lines_of_text bytes ≡ Ok (record { number = 1; place = Plain; text = t } ∷ closing 2 (pieces body)) → ends_line body ≡ true
    → statement_of kind t body false ≡ Ok s → AreStatements kind bytes ((1, s) ∷ [])
file_of_function kind bytes t body s u l e h = statements-lines kind bytes (record { number = 1; place = Plain; text = t } ∷ closing 2 (pieces body)) (logical_lines-text bytes u ∙ l)
    ∙ rw (closing-body 2 (pieces body), whole-text body e, closing-closes 2 (pieces body), and_right (opens_body t) false refl, h, closing-gives_none kind 2 (pieces body)) refl
