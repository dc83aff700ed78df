-- Texts behind a word, and functions, that a line gives can be written.
use Rattle.std.proofs.Common.{◌≡◌, ℕ, ◌-◌, Bool, true, false, cond, not, ◌&&◌, ◌||◌, ◌==◌, List, [], ◌∷◌, ◌++◌, length, take, drop, is_some, refl, sym, ap, ◌∙◌, Option, Some, None, Result, Ok, Err, codes, nat_eq, append_assoc, ◌⊎◌, inl, inr, one-add}
use Rattle.std.specs.List.{list_all, list_any, before_first, ends_with}
use Rattle.std.proofs.lemmas.Bool.{and_parts, false≢true}
use Rattle.std.proofs.lemmas.List.Folds.{list_all-append, list_any-append}
use Rattle.meta_model.specs.declared.line.Kind.{Kind}
use Rattle.meta_model.specs.declared.line.Line.{Line}
use Rattle.meta_model.specs.declared.line.Place.{Place}
use Rattle.meta_model.specs.declared.line.Place.TheVariants.{Plain, Body, Close}
use Rattle.meta_model.specs.declared.line.SyntaxFault.{SyntaxFault}
use Rattle.meta_model.specs.declared.statement.Statement.{Statement}
use Rattle.meta_model.specs.declared.statement.Statement.TheVariants.{Assign, Export, Unset, Include, Require, Inherit, Function, ExportFunctions}
use Rattle.meta_model.specs.Text.{newline, equals, is_blank, is_white, is_quote, is_empty, is_in, begins_with, skip_blanks, without_end, end_kept, without_last}
use Rattle.meta_model.specs.Names.{is_name}
use Rattle.meta_model.specs.Lines.{opens_body, without_opening, OrFault, logical_lines}
use Rattle.meta_model.specs.declared.entry.Op.{Op}
use Rattle.meta_model.specs.Grammar.{Fit, Quoted, quoted, operator_here, ◌>>=◌, where_true, first_of_two, first_there, operator, operation, behind_word, assignment, flag_assignment, with_name, flag_unset, with_text, with_words, task_parts, task_names, function_head, fit_of, plain_fit, value_forms_of, directive_forms_of, exported_assignment, text_behind_word}
use Rattle.meta_model.specs.Statements.{AreStatements, statements, statements_of_lines, with_statement, of_lines, statement_of, body_of, ends_in_body, is_python_word, holds_python, statement_holds_python, statement_is_reserved, is_allowed, first_word, first_or_empty}
use Rattle.bb_parser.specs.Written.{is_one_line, is_free_name, is_python_name, are_whole_lines, begins_unblank, can_follow, line_of_text, can_be_written, IsNowhere}
use Rattle.bb_parser.proofs.Cuts.{starts-is, ends-is}
use Rattle.meta_model.proofs.Edges.{without_end-stays}
use Rattle.bb_parser.proofs.FormFacts.{fit_of-opens, two_lists}
use Rattle.bb_parser.proofs.NameSearch.{name_char}
use Rattle.bb_parser.proofs.WrittenNames
use Rattle.bb_parser.proofs.WrittenWords.{unwhite, front-all, front-some, first_word-front}
use Rattle.bb_parser.proofs.WrittenTasks.{skip-words}
use Rattle.bb_parser.proofs.GivenLines.{is_line, fits_place, lines-are, body-whole, first-made}
use Rattle.bb_parser.proofs.GivenForms
use Rattle.bb_parser.proofs.WrittenLines.{without_last-push}
use Rattle.std.specs.Result.{IsErrAnd, IfErr}
use Rattle.bb_parser.specs.declared.fault.PrintFault.{PrintFault}
use Rattle.bb_parser.specs.declared.fault.PrintFault.TheVariants.{NoText}
use Rattle.bb_parser.specs.Words.{skip_white}
use Rattle.bb_parser.proofs.WordFacts.{first_word-is}
use Rattle.bb_parser.proofs.WrittenForms.{all-append, all-from, name-word}
use Rattle.bb_parser.proofs.WrittenTexts.{opening-is, parens, ends-brace, ends-parens, any-none, unsigned}
use Rattle.bb_parser.proofs.Tests.{none_of, not_false, or_parts}

-- what follows a word and blanks
record Behind (word s t : List ℕ) : Type 0 where
  gap : ℕ
  blank : is_blank gap ≡ true
  rest : List ℕ
  is : s ≡ word ++ gap ∷ rest
  skipped : skip_blanks rest ≡ t

behind-parts : (word s t : List ℕ) → behind_word word s ≡ Some t → Behind word s t
behind-parts word s t e =
    let rest = drop (length word) s in
    let w = GivenForms.where-some (begins_with word s && list_any is_blank (take 1 rest)) (skip_blanks rest) t e in
    let a = and_parts (begins_with word s) (list_any is_blank (take 1 rest)) w.0 in
    by_rest rest (starts-is s word a.0) a.1 w.1
  where
    or_false : (b : Bool) → (b || false) ≡ true → b ≡ true
    or_false true h = refl
    or_false false h = h

    by_rest : (rest : List ℕ) → s ≡ word ++ rest → list_any is_blank (take 1 rest) ≡ true → skip_blanks rest ≡ t → Behind word s t
    by_rest [] i h k = absurd (false≢true h)
    by_rest (b ∷ rest) i h k = let c = or_false (is_blank b) h in record { gap = b; blank = c; rest = rest; is = i; skipped = sym (skip-goes b rest c) ∙ k }
      where
        skip-goes : (b : ℕ) (rest : List ℕ) → is_blank b ≡ true → skip_blanks (b ∷ rest) ≡ skip_blanks rest
        skip-goes b rest c = rw c refl

-- the text begins with no blank
skip-unblank : (s : List ℕ) → not (is_empty (skip_blanks s)) ≡ true → begins_unblank (skip_blanks s) ≡ true
skip-unblank [] h = h
skip-unblank (c ∷ s) h = by_case (is_blank c) refl h (skip-unblank s)
  where
    by_case : (b : Bool) → is_blank c ≡ b → not (is_empty (cond b (skip_blanks s) (c ∷ s))) ≡ true → (not (is_empty (skip_blanks s)) ≡ true → begins_unblank (skip_blanks s) ≡ true) → begins_unblank (cond b (skip_blanks s) (c ∷ s)) ≡ true
    by_case true e k f = f k
    by_case false e k f = rw e refl

skip-gone : (b : ℕ) (r : List ℕ) → is_blank b ≡ true → skip_blanks (b ∷ r) ≡ skip_blanks r
skip-gone b r h = rw h refl

skip-again : (s : List ℕ) → skip_blanks (skip_blanks s) ≡ skip_blanks s
skip-again [] = refl
skip-again (c ∷ s) = by_case (is_blank c) refl (skip-again s)
  where
    by_case : (b : Bool) → is_blank c ≡ b → skip_blanks (skip_blanks s) ≡ skip_blanks s → skip_blanks (cond b (skip_blanks s) (c ∷ s)) ≡ cond b (skip_blanks s) (c ∷ s)
    by_case true e h = h
    by_case false e h = rw e refl

-- the blanks in front
skip-split : (s : List ℕ) → (bs : List ℕ) × (s ≡ bs ++ skip_blanks s) × (list_all is_blank bs ≡ true)
skip-split [] = ([], refl, refl)
skip-split (c ∷ s) = by_case (is_blank c) refl (skip-split s)
  where
    by_case : (b : Bool) → is_blank c ≡ b → (bs : List ℕ) × (s ≡ bs ++ skip_blanks s) × (list_all is_blank bs ≡ true) → (bs : List ℕ) × (c ∷ s ≡ bs ++ cond b (skip_blanks s) (c ∷ s)) × (list_all is_blank bs ≡ true)
    by_case true e h = (c ∷ h.0, ap (λ x. c ∷ x) h.1, rw (e, h.2) refl)
    by_case false e h = ([], refl, refl)

-- the blanks at the end
end-split : (p : ℕ → Bool) (s : List ℕ) → (bs : List ℕ) × (s ≡ without_end p s ++ bs) × (list_all p bs ≡ true)
end-split p [] = ([], refl, refl)
end-split p (c ∷ s) = by_end (without_end p s) (end-split p s)
  where
    by_end : (k : List ℕ) → (bs : List ℕ) × (s ≡ k ++ bs) × (list_all p bs ≡ true) → (bs : List ℕ) × (c ∷ s ≡ end_kept p c k ++ bs) × (list_all p bs ≡ true)
    by_end [] h = by_case (p c) refl
      where
        by_case : (b : Bool) → p c ≡ b → (bs : List ℕ) × (c ∷ s ≡ cond b [] (c ∷ []) ++ bs) × (list_all p bs ≡ true)
        by_case true e = (c ∷ h.0, ap (λ x. c ∷ x) h.1, rw (e, h.2) refl)
        by_case false e = (h.0, ap (λ x. c ∷ x) h.1, h.2)
    by_end (y ∷ ys) h = (h.0, ap (λ x. c ∷ x) h.1, h.2)

without-gone : (p : ℕ → Bool) (bs : List ℕ) → list_all p bs ≡ true → without_end p bs ≡ []
without-gone p [] h = refl
without-gone p (b ∷ bs) h = let a = and_parts (p b) (list_all p bs) h in rw (without-gone p bs a.1, a.0) refl

without-behind : (p : ℕ → Bool) (xs bs : List ℕ) → list_all p bs ≡ true → without_end p (xs ++ bs) ≡ without_end p xs
without-behind p [] bs h = without-gone p bs h
without-behind p (x ∷ xs) bs h = ap (end_kept p x) (without-behind p xs bs h)

-- a line that ends like the head of a function
cond-some : {A : Type 0} (b : Bool) (x y : A) → cond b (Some x) None ≡ Some y → (b ≡ true) × (x ≡ y)
cond-some true x y e = let g : x ≡ y = cc in (refl, g)
cond-some false x y e = cc

two-last : (h k : List ℕ) → h ≡ k ++ 40 ∷ 41 ∷ [] → without_last (without_last h) ≡ k
two-last h k e = ap (λ x. without_last (without_last x)) (e ∙ sym (append_assoc k (40 ∷ []) (41 ∷ []))) ∙ (ap without_last (without_last-push (k ++ 40 ∷ []) 41) ∙ without_last-push k 40)

opening-shape : (z u : List ℕ) → without_opening z ≡ Some u → (bs : List ℕ) × (z ≡ u ++ 40 ∷ 41 ∷ (bs ++ 123 ∷ [])) × (list_all is_blank bs ≡ true)
opening-shape z u e =
    let h = without_end is_blank (without_last z) in
    let w = cond-some (ends_with nat_eq z (codes "{") && ends_with nat_eq h (codes "()")) (without_last (without_last h)) u e in
    let a = and_parts (ends_with nat_eq z (codes "{")) (ends_with nat_eq h (codes "()")) w.0 in
    let b = end-split is_blank (without_last z) in
    let k = take (length h - 2) h in
    let i : h ≡ k ++ 40 ∷ 41 ∷ [] = ends-is h (codes "()") a.1 in
    let g : k ≡ u = sym (two-last h k i) ∙ w.1 in (
      b.0,
      ends-is z (codes "{") a.0 ∙ (ap (λ x. x ++ 123 ∷ []) (b.1 ∙ ap (λ x. x ++ b.0) (i ∙ ap (λ x. x ++ 40 ∷ 41 ∷ []) g))
          ∙ (ap (λ x. x ++ 123 ∷ []) (append_assoc u (40 ∷ 41 ∷ []) b.0) ∙ append_assoc u (40 ∷ 41 ∷ b.0) (123 ∷ []))),
      b.2,
    )

shape-opens : (u bs : List ℕ) → list_all is_blank bs ≡ true → is_some (without_opening (u ++ 40 ∷ 41 ∷ (bs ++ 123 ∷ []))) ≡ true
shape-opens u bs h =
    let z = u ++ 40 ∷ 41 ∷ (bs ++ 123 ∷ []) in
    let w = u ++ 40 ∷ 41 ∷ [] in
    let e : z ≡ (w ++ bs) ++ 123 ∷ [] = sym (ap (λ x. x ++ 123 ∷ []) (append_assoc u (40 ∷ 41 ∷ []) bs) ∙ append_assoc u (40 ∷ 41 ∷ bs) (123 ∷ [])) in
    ap is_some (opening-is z w u
    (ap (λ x. without_end is_blank (without_last x)) e ∙ (ap (without_end is_blank) (without_last-push (w ++ bs) 123) ∙ (without-behind is_blank w bs h ∙ (ap (without_end is_blank) (parens u) ∙ (without_end-stays is_blank (u ++ 40 ∷ []) 41 refl ∙ sym (parens u))))))
    (ap (λ x. ends_with nat_eq x (codes "{")) e ∙ ends-brace (w ++ bs)) (ends-parens u) (two-last w u refl))

-- a text without `(` in front stands before the first of it
aligned : (x t u r : List ℕ) → list_all (λ c. not (c == 40)) x ≡ true → x ++ t ≡ u ++ 40 ∷ r → (v : List ℕ) × (t ≡ v ++ 40 ∷ r)
aligned [] t u r h e = (u, e)
aligned (c ∷ x) t [] r h e = let g : c ≡ 40 = cc in absurd (false≢true (ap (λ d. not (d == 40)) (sym g) ∙ (and_parts (not (c == 40)) (list_all (λ d. not (d == 40)) x) h).0))
aligned (c ∷ x) t (d ∷ u) r h e = let g : x ++ t ≡ u ++ 40 ∷ r = cc in aligned x t u r (and_parts (not (c == 40)) (list_all (λ y. not (y == 40)) x) h).1 g

abbrev is_sign : ℕ → Bool
is_sign c = c == equals || is_quote c

any-parts : (p : ℕ → Bool) (xs ys : List ℕ) → list_any p (xs ++ ys) ≡ false → (list_any p xs ≡ false) × (list_any p ys ≡ false)
any-parts p xs ys h = or_parts (list_any p xs) (list_any p ys) (sym (list_any-append p xs ys) ∙ h)

any-join : (p : ℕ → Bool) (xs ys : List ℕ) → list_any p xs ≡ false → list_any p ys ≡ false → list_any p (xs ++ ys) ≡ false
any-join p xs ys h k = list_any-append p xs ys ∙ rw (h, k) refl

-- what opens a body behind one text opens one behind another
opens-behind : (x y t : List ℕ) → list_all (λ c. not (c == 40)) x ≡ true → list_any is_sign y ≡ false → opens_body (y ++ t) ≡ false → opens_body (x ++ t) ≡ false
opens-behind x y t h k o = by_case (list_any is_sign (x ++ t)) refl (without_opening (x ++ t)) refl
  where
    by_case : (b : Bool) → list_any is_sign (x ++ t) ≡ b → (w : Option (List ℕ)) → without_opening (x ++ t) ≡ w → (not b && is_some w) ≡ false
    by_case true e w i = refl
    by_case false e None i = refl
    by_case false e (Some u) i =
        let m = opening-shape (x ++ t) u i in
        let v = aligned x t u (41 ∷ (m.0 ++ 123 ∷ [])) h m.1 in
        let q = ap (λ z. y ++ z) v.1 ∙ sym (append_assoc y v.0 (40 ∷ 41 ∷ (m.0 ++ 123 ∷ []))) in
        let s = any-join is_sign y t k (any-parts is_sign x t e).1 in
        let z : opens_body (y ++ t) ≡ true = rw (s, ap is_some (ap without_opening q) ∙ shape-opens (y ++ v.0) m.0 m.2) refl in
        absurd (false≢true (sym o ∙ z))

operator-gap : (b : ℕ) (r : List ℕ) → is_blank b ≡ true → operator (b ∷ r) ≡ operator (skip_blanks r)
unfolding operator
operator-gap b r h = ap operator_here (skip-gone b r h ∙ sym (skip-again r))

operation-gap : (b : ℕ) (r : List ℕ) → is_blank b ≡ true → operation (b ∷ r) ≡ operation (skip_blanks r)
operation-gap b r h = ap (λ o. o >>= λ x. quoted (skip_blanks x.1) >>= λ q. Some (x.0, q)) (operator-gap b r h)

blank-equals : (b : ℕ) (r : List ℕ) → is_blank b ≡ true → begins_with (codes "=") (b ∷ r) ≡ false
blank-equals b r h = rw (WrittenNames.fails_not is_blank 61 b refl h) refl

abbrev fit_made : List ℕ → Op × Quoted → Option Fit
fit_made name x = Some (record { statement = Assign false name x.0 x.1.text; inner = x.1.inner })

none_operation : (name r : List ℕ) → WrittenNames.assigned false (Some (name, r)) ≡ None → operation r ≡ None
none_operation name r e = by_case (operation r) refl e
  where
    by_case : (o : Option (Op × Quoted)) → operation r ≡ o → (o >>= fit_made name) ≡ None → operation r ≡ None
    by_case None i h = i
    by_case (Some x) i h = cc

-- where a word and a text are no assignment, no operator and quoted text follows the word
no_operation-behind : (w : ℕ) (ws : List ℕ) (b : ℕ) (rest : List ℕ) → is_name (w ∷ ws) ≡ true → is_blank b ≡ true → assignment false (w ∷ ws ++ b ∷ rest) ≡ None → operation (skip_blanks rest) ≡ None
no_operation-behind w ws b rest n h e = by_case (is_some (operator (b ∷ rest))) refl
  where
    by_case : (t : Bool) → is_some (operator (b ∷ rest)) ≡ t → operation (skip_blanks rest) ≡ None
    by_case true i = sym (operation-gap b rest h) ∙ none_operation (w ∷ ws) (b ∷ rest) (sym (ap (WrittenNames.assigned false) (WrittenNames.found-blank w ws (b ∷ rest) n (blank-equals b rest h) i)) ∙ e)
    by_case false i = WrittenNames.no_operation (skip_blanks rest) (none_of (operator (skip_blanks rest)) (ap is_some (sym (operator-gap b rest h)) ∙ i))

blank-unsigned : (bs : List ℕ) → list_all is_blank bs ≡ true → list_any is_sign bs ≡ false
blank-unsigned bs h = any-none is_sign bs (all-from is_blank (λ c. not (is_sign c)) bs (λ c t. rw (WrittenNames.passes_not is_blank 61 c refl t, WrittenNames.passes_not is_blank 34 c refl t, WrittenNames.passes_not is_blank 39 c refl t) refl) h)

-- the word and a text
text-can : (kind : Kind) (w : ℕ) (ws : List ℕ) (make : List ℕ → Statement) (text : List ℕ) (fit : Fit) → ((t : List ℕ) → can_be_written (make t) ≡ can_follow (w ∷ ws) t) → ((t : List ℕ) → statement_holds_python (make t) ≡ holds_python t) → is_name (w ∷ ws) ≡ true
    → GivenForms.Fine kind fit → is_one_line text ≡ true → assignment false (skip_blanks text) ≡ None → opens_body text ≡ false → with_text (w ∷ ws) make (skip_blanks text) ≡ Some fit → can_be_written fit.statement ≡ true
text-can kind w ws make text fit c d n f l a o e =
    let word = w ∷ ws in
    let s = skip_blanks text in
    let m = GivenForms.map-some (λ u. plain_fit (make u)) (text_behind_word word s) fit e in
    let t = m.0 in
    let st = ap (λ (z : Fit). z.statement) m.2 in
    let k = GivenForms.bind-some (behind_word word s) (λ u. where_true (not (is_empty u)) u) t m.1 in
    let there = GivenForms.where-some (not (is_empty k.0)) k.0 t k.2 in
    let b = behind-parts word s t (k.1 ∙ ap Some there.1) in
    let pre = skip-split text in
    let gap = skip-split b.rest in
    let x = pre.0 ++ (word ++ (b.gap ∷ gap.0)) in
    let i : s ≡ (word ++ (b.gap ∷ gap.0)) ++ t = b.is ∙ (ap (λ z. word ++ (b.gap ∷ z)) (gap.1 ∙ ap (λ z. gap.0 ++ z) b.skipped) ∙ sym (append_assoc word (b.gap ∷ gap.0) t)) in
    let j : text ≡ x ++ t = pre.1 ∙ (ap (λ z. pre.0 ++ z) i ∙ sym (append_assoc pre.0 (word ++ (b.gap ∷ gap.0)) t)) in
    let named = (and_parts (not (is_empty word)) (list_all name_char word) n).1 in
    let unsigned-x = any-join is_sign pre.0 (word ++ (b.gap ∷ gap.0)) (blank-unsigned pre.0 pre.2) (any-join is_sign word (b.gap ∷ gap.0) (any-none is_sign word (all-from name_char (λ y. not (is_sign y)) word unsigned named)) (blank-unsigned (b.gap ∷ gap.0) (rw (b.blank, gap.2) refl))) in
    let opens = ap opens_body (sym (append_assoc word (32 ∷ []) t)) ∙ opens-behind (word ++ 32 ∷ []) x t (all-append (λ y. not (y == 40)) word (32 ∷ []) (WrittenNames.name_without 40 word refl named) refl) unsigned-x (sym (ap opens_body j) ∙ o) in
    let none = ap operation (sym b.skipped) ∙ no_operation-behind w ws b.gap b.rest n b.blank (sym (ap (assignment false) b.is) ∙ a) in
    let one = (and_parts (is_one_line x) (is_one_line t) (sym (list_all-append (λ y. not (y == newline)) x t) ∙ (sym (ap is_one_line j) ∙ l))).1 in
    let dark = ap begins_unblank (sym b.skipped) ∙ skip-unblank b.rest (ap (λ z. not (is_empty z)) (b.skipped ∙ sym there.1) ∙ there.0) in
    let held = sym (d t) ∙ (ap statement_holds_python st ∙ f.holds) in
    ap can_be_written (sym st) ∙ (c t ∙ five (begins_unblank t) (is_one_line t) (holds_python t) (is_some (assignment false (line_of_text word t))) (opens_body (line_of_text word t)) dark one held
    (ap is_some (WrittenNames.no_assignment false w ws t n none)) opens)
  where
    five : (a b c d e : Bool) → a ≡ true → b ≡ true → c ≡ false → d ≡ false → e ≡ false → (a && b && not c && not d && not e) ≡ true
    five a b c d e h k l m n = rw (h, k, l, m, n) refl

-- the first word of the head of a function
front-unwhite : (name z : List ℕ) → list_all unwhite name ≡ true → before_first is_white (name ++ z) ≡ name ++ before_first is_white z
front-unwhite [] z h = refl
front-unwhite (c ∷ cs) z h = let b = and_parts (unwhite c) (list_all unwhite cs) h in rw (not_false (is_white c) b.0, one-add) (ap (λ x. c ∷ x) (front-unwhite cs z b.1))

paren-front : (r : List ℕ) → before_first is_white (40 ∷ r) ≡ 40 ∷ before_first is_white r
paren-front r = rw one-add refl

skip_white-stays : (c : ℕ) (s : List ℕ) → is_white c ≡ false → skip_white (c ∷ s) ≡ c ∷ s
skip_white-stays c s h = rw h refl

head-word : (c : ℕ) (cs bs r : List ℕ) → is_name (c ∷ cs) ≡ true → list_all is_blank bs ≡ true → before_first (λ d. d == 40) (first_word (c ∷ cs ++ (bs ++ 40 ∷ r))) ≡ c ∷ cs
head-word c cs [] r n h =
    let named = (and_parts (not (is_empty (c ∷ cs))) (list_all name_char (c ∷ cs)) n).1 in
    let u = WrittenNames.char-unwhite c (and_parts (name_char c) (list_all name_char cs) named).0 in
    let w = first_word-is (c ∷ cs ++ 40 ∷ r) ∙ (ap (before_first is_white) (skip_white-stays c (cs ++ 40 ∷ r) u) ∙ (front-unwhite (c ∷ cs) (40 ∷ r) (name-word c cs n) ∙ ap (λ x. c ∷ cs ++ x) (paren-front r))) in
    ap (before_first (λ d. d == 40)) w ∙ front-some 40 (c ∷ cs) (before_first is_white r) refl (WrittenNames.name_without 40 (c ∷ cs) refl named)
head-word c cs (b ∷ bs) r n h =
    let named = (and_parts (not (is_empty (c ∷ cs))) (list_all name_char (c ∷ cs)) n).1 in
    let k = (and_parts (is_blank b) (list_all is_blank bs) h).0 in
    ap (before_first (λ d. d == 40)) (first_word-front (c ∷ cs) (b ∷ (bs ++ 40 ∷ r)) (name-word c cs n) (rw k refl)) ∙ front-all 40 (c ∷ cs) (WrittenNames.name_without 40 (c ∷ cs) refl named)

python-word : (line name : List ℕ) → before_first (λ d. d == 40) (first_word line) ≡ name → is_python_word line ≡ is_python_name name
python-word line name e = ap (λ x. is_in x (codes "python" ∷ codes "def" ∷ codes "addhandler" ∷ [])) e

-- NAME() {
function-can : (kind : Kind) (text body : List ℕ) (fit : Fit) → GivenForms.Fine kind fit → is_python_word text ≡ false → holds_python body ≡ false → are_whole_lines body ≡ true → function_head body (skip_blanks text) ≡ Some fit → can_be_written fit.statement ≡ true
function-can kind text body fit f p h b e =
    let s = skip_blanks text in
    let m = GivenForms.bind-some (without_opening s) (λ head. where_true (is_name (without_end is_blank head)) (without_end is_blank head) >>= λ n. Some (plain_fit (Function n body))) fit e in
    let name = without_end is_blank m.0 in
    let n = GivenForms.bind-some (where_true (is_name name) name) (λ x. Some (plain_fit (Function x body))) fit m.2 in
    let w = GivenForms.where-some (is_name name) name n.0 n.1 in
    let g : plain_fit (Function n.0 body) ≡ fit = cc in
    let st = ap (λ x. Function x body) w.1 ∙ ap (λ (z : Fit). z.statement) g in
    let o = opening-shape s m.0 m.1 in
    let d = end-split is_blank m.0 in
    let i : s ≡ name ++ (d.0 ++ 40 ∷ 41 ∷ (o.0 ++ 123 ∷ [])) = o.1 ∙ (ap (λ x. x ++ 40 ∷ 41 ∷ (o.0 ++ 123 ∷ [])) d.1 ∙ append_assoc name d.0 (40 ∷ 41 ∷ (o.0 ++ 123 ∷ []))) in
    let y = by_name name d.0 (41 ∷ (o.0 ++ 123 ∷ [])) w.0 d.2 in
    let q = sym (python-word text name (ap (λ ws. before_first (λ x. x == 40) (first_or_empty ws)) (sym (skip-words text)) ∙ (ap (λ z. before_first (λ x. x == 40) (first_word z)) i ∙ y))) ∙ p in
    ap can_be_written (sym st) ∙ four (is_free_name name) (is_python_name name) (are_whole_lines body) (holds_python body) (GivenForms.free-is name w.0 (ap statement_is_reserved st ∙ f.free)) q b h
  where
    four : (a b c d : Bool) → a ≡ true → b ≡ false → c ≡ true → d ≡ false → (a && not b && (c && not d)) ≡ true
    four a b c d h k l m = rw (h, k, l, m) refl

    by_name : (name bs r : List ℕ) → is_name name ≡ true → list_all is_blank bs ≡ true → before_first (λ x. x == 40) (first_word (name ++ (bs ++ 40 ∷ r))) ≡ name
    by_name [] bs r n h = absurd (false≢true n)
    by_name (c ∷ cs) bs r n h = head-word c cs bs r n h

-- the first of two that is there
either : (a b : Option Fit) (f : Fit) → first_of_two a b ≡ Some f → (a ≡ Some f) ⊎ ((a ≡ None) × (b ≡ Some f))
either None b f e = inr (refl, e)
either (Some x) b f e = inl e

neither : (a b : Option Fit) → first_of_two a b ≡ None → a ≡ None
neither None b e = refl
neither (Some x) b e = cc

no_fit : (f : Fit) → ◌≡◌ {A = Option Fit} None (Some f) → ⊥
no_fit f e = cc

value-can : (kind : Kind) (s : List ℕ) (fit : Fit) → GivenForms.Fine kind fit → is_one_line s ≡ true → value_forms_of s ≡ Some fit → can_be_written fit.statement ≡ true
value-can kind s fit f l e = elim (either (assignment false s) (first_there (exported_assignment s ∷ flag_assignment s ∷ with_name (codes "export") Export s ∷ with_name (codes "unset") Unset s ∷ flag_unset s ∷ [])) fit e) [
  | inl a ↦ GivenForms.assigned-can kind false s fit f l a
  | inr r ↦ elim (either (exported_assignment s) (first_there (flag_assignment s ∷ with_name (codes "export") Export s ∷ with_name (codes "unset") Unset s ∷ flag_unset s ∷ [])) fit r.1) [
    | inl a ↦ exported s l a
    | inr r ↦ elim (either (flag_assignment s) (first_there (with_name (codes "export") Export s ∷ with_name (codes "unset") Unset s ∷ flag_unset s ∷ [])) fit r.1) [
      | inl a ↦ GivenForms.flagged-can kind s fit f l a
      | inr r ↦ elim (either (with_name (codes "export") Export s) (first_there (with_name (codes "unset") Unset s ∷ flag_unset s ∷ [])) fit r.1) [
        | inl a ↦ GivenForms.export-can kind s fit f a
        | inr r ↦ elim (either (with_name (codes "unset") Unset s) (first_there (flag_unset s ∷ [])) fit r.1) [
          | inl a ↦ GivenForms.unset-can kind s fit f a
          | inr r ↦ elim (either (flag_unset s) None fit r.1) [
            | inl a ↦ GivenForms.unset_flag-can kind s fit f a
            | inr r ↦ absurd (no_fit fit r.1)
          ]
        ]
      ]
    ]
  ]
]
  where
    exported : (s : List ℕ) → is_one_line s ≡ true → exported_assignment s ≡ Some fit → can_be_written fit.statement ≡ true
    exported s l a = let m = GivenForms.bind-some (behind_word (codes "export") s) (assignment true) fit a in let b = behind-parts (codes "export") s m.0 m.1 in
        let o = (and_parts (is_one_line (codes "export")) (is_one_line (b.gap ∷ b.rest)) (sym (list_all-append (λ y. not (y == newline)) (codes "export") (b.gap ∷ b.rest)) ∙ (sym (ap is_one_line b.is) ∙ l))).1 in
        GivenForms.assigned-can kind true m.0 fit f (ap is_one_line (sym b.skipped) ∙ GivenForms.all-skip (λ y. not (y == newline)) b.rest (and_parts (not (b.gap == newline)) (is_one_line b.rest) o).1) m.2

directive-can : (kind : Kind) (text : List ℕ) (fit : Fit) → GivenForms.Fine kind fit → is_one_line text ≡ true → assignment false (skip_blanks text) ≡ None → opens_body text ≡ false → directive_forms_of (skip_blanks text) ≡ Some fit → can_be_written fit.statement ≡ true
directive-can kind text fit f l a o e = let s = skip_blanks text in
    elim (either (with_text (codes "include") Include s) (first_there (with_text (codes "require") Require s ∷ with_text (codes "inherit") Inherit s ∷ with_words (codes "EXPORT_FUNCTIONS") (λ ws. Some (ExportFunctions ws)) s ∷ with_words (codes "addtask") task_parts s ∷ with_words (codes "deltask") task_names s ∷ [])) fit e) [
      | inl x ↦ text-can kind 105 (codes "nclude") Include text fit (λ t. refl) (λ t. refl) refl f l a o x
      | inr r ↦ elim (either (with_text (codes "require") Require s) (first_there (with_text (codes "inherit") Inherit s ∷ with_words (codes "EXPORT_FUNCTIONS") (λ ws. Some (ExportFunctions ws)) s ∷ with_words (codes "addtask") task_parts s ∷ with_words (codes "deltask") task_names s ∷ [])) fit r.1) [
        | inl x ↦ text-can kind 114 (codes "equire") Require text fit (λ t. refl) (λ t. refl) refl f l a o x
        | inr r ↦ elim (either (with_text (codes "inherit") Inherit s) (first_there (with_words (codes "EXPORT_FUNCTIONS") (λ ws. Some (ExportFunctions ws)) s ∷ with_words (codes "addtask") task_parts s ∷ with_words (codes "deltask") task_names s ∷ [])) fit r.1) [
          | inl x ↦ text-can kind 105 (codes "nherit") Inherit text fit (λ t. refl) (λ t. refl) refl f l a o x
          | inr r ↦ elim (either (with_words (codes "EXPORT_FUNCTIONS") (λ ws. Some (ExportFunctions ws)) s) (first_there (with_words (codes "addtask") task_parts s ∷ with_words (codes "deltask") task_names s ∷ [])) fit r.1) [
            | inl x ↦ GivenForms.exports-can s fit x
            | inr r ↦ elim (either (with_words (codes "addtask") task_parts s) (first_there (with_words (codes "deltask") task_names s ∷ [])) fit r.1) [
              | inl x ↦ GivenForms.addtask-can s fit x
              | inr r ↦ elim (either (with_words (codes "deltask") task_names s) None fit r.1) [
                | inl x ↦ GivenForms.deltask-can s fit x
                | inr r ↦ absurd (no_fit fit r.1)
              ]
            ]
          ]
        ]
      ]
    ]

fit-can : (kind : Kind) (text body : List ℕ) (fit : Fit) → GivenForms.Fine kind fit → is_one_line text ≡ true → is_python_word text ≡ false → holds_python body ≡ false → are_whole_lines body ≡ true → fit_of text body ≡ Some fit → can_be_written fit.statement ≡ true
fit-can kind text body fit f l p h b e = by_case (opens_body text) refl
  where
    by_case : (t : Bool) → opens_body text ≡ t → can_be_written fit.statement ≡ true
    by_case true o = function-can kind text body fit f p h b (sym (fit_of-opens text body o) ∙ e)
    by_case false o = elim (either (value_forms_of (skip_blanks text)) (directive_forms_of (skip_blanks text)) fit (sym (two_lists text body o) ∙ e)) [
      | inl x ↦ value-can kind (skip_blanks text) fit f (GivenForms.all-skip (λ y. not (y == newline)) text l) x
      | inr x ↦ directive-can kind text fit f l (neither (assignment false (skip_blanks text)) (first_there (exported_assignment (skip_blanks text) ∷ flag_assignment (skip_blanks text) ∷ with_name (codes "export") Export (skip_blanks text) ∷ with_name (codes "unset") Unset (skip_blanks text) ∷ flag_unset (skip_blanks text) ∷ [])) x.0) o x.1
    ]

-- each statement of a line, of lines and of a file
line-can : (kind : Kind) (text body : List ℕ) (o : Bool) (s : Statement) → is_one_line text ≡ true → are_whole_lines body ≡ true → statement_of kind text body o ≡ Ok s → can_be_written s ≡ true
line-can kind text body o s l b e = let g = GivenForms.given-is kind text body o s e in
    ap can_be_written (sym g.is) ∙ fit-can kind text body g.fit (record { holds = ap statement_holds_python g.is ∙ g.holds; inner = g.inner; free = ap statement_is_reserved g.is ∙ g.free; allowed = ap (is_allowed kind) g.is ∙ g.allowed }) l g.python g.unheld b g.fits

all_can : List (ℕ × Statement) → Bool
all_can list = list_all (λ p. can_be_written p.1) list

with-can : (n : ℕ) (r : Result Statement SyntaxFault) (rest : OrFault (List (ℕ × Statement))) (list : List (ℕ × Statement)) → ((s : Statement) → r ≡ Ok s → can_be_written s ≡ true)
    → ((more : List (ℕ × Statement)) → rest ≡ Ok more → all_can more ≡ true) → with_statement n r rest ≡ Ok list → all_can list ≡ true
unfolding all_can
with-can n (Ok s) rest list f g e = let m = first-made (n, s) rest list e in ap all_can m.2 ∙ rw (f s refl, g m.0 m.1) refl
with-can n (Err w) rest list f g e = cc

place-can : (p : Place) (a b : OrFault (List (ℕ × Statement))) (list : List (ℕ × Statement)) → ((more : List (ℕ × Statement)) → a ≡ Ok more → all_can more ≡ true) → ((more : List (ℕ × Statement)) → b ≡ Ok more → all_can more ≡ true)
    → ◌≡◌ {A = OrFault (List (ℕ × Statement))} (elim p [ Plain ↦ a | Body ↦ b | Close ↦ b ]) (Ok list) → all_can list ≡ true
place-can Plain a b list f g e = f list e
place-can Body a b list f g e = g list e
place-can Close a b list f g e = g list e

lines-can : (kind : Kind) (ls : List Line) (list : List (ℕ × Statement)) → list_all is_line ls ≡ true → statements_of_lines kind ls ≡ Ok list → all_can list ≡ true
unfolding all_can
lines-can kind [] list h e = let g : [] ≡ list = cc in ap all_can (sym g)
lines-can kind (l ∷ ls) list h e =
    let a = and_parts (is_line l) (list_all is_line ls) h in
    let o = (and_parts (is_one_line l.text) (fits_place l.place l.text) a.0).0 in
    let r = statement_of kind l.text (body_of ls) (opens_body l.text && ends_in_body ls) in
    place-can l.place (with_statement l.number r (statements_of_lines kind ls)) (statements_of_lines kind ls) list
    (λ more k. with-can l.number r (statements_of_lines kind ls) more (λ s i. line-can kind l.text (body_of ls) (opens_body l.text && ends_in_body ls) s o (body-whole ls a.1) i) (λ m i. lines-can kind ls m a.1 i) k)
    (λ more k. lines-can kind ls more a.1 k) e

pub file-can : (kind : Kind) (bytes : List ℕ) (list : List (ℕ × Statement)) → AreStatements kind bytes list → list_all (λ p. can_be_written p.1) list ≡ true
unfolding statements all_can
file-can kind bytes list e = by_lines (logical_lines bytes) refl e
  where
    by_lines : (r : OrFault (List Line)) → logical_lines bytes ≡ r → of_lines kind r ≡ Ok list → all_can list ≡ true
    by_lines (Ok ls) i h = lines-can kind ls list (lines-are bytes ls i) h
    by_lines (Err x) i h = cc

-- what can't be written, no file has
pub nowhere : (s : Statement) → can_be_written s ≡ false → IsNowhere s
nowhere s h kind bytes before after n e =
    let m = sym (list_all-append (λ p. can_be_written p.1) before ((n, s) ∷ after)) ∙ file-can kind bytes (before ++ (n, s) ∷ after) e in
    let b = and_parts (list_all (λ (p : ℕ × Statement). can_be_written p.1) before) (list_all (λ (p : ℕ × Statement). can_be_written p.1) ((n, s) ∷ after)) m in
    let d = and_parts (can_be_written s) (list_all (λ (p : ℕ × Statement). can_be_written p.1) after) b.1 in
    absurd (false≢true (sym h ∙ d.0))

pub nowhere-err : (s : Statement) (r : Result (List ℕ) PrintFault) (a : PrintFault) → IsErrAnd r (λ e. e ≡ a) → (a ≡ NoText → can_be_written s ≡ false) → IfErr r (λ e. e ≡ NoText → IsNowhere s)
nowhere-err s (Ok t) a h f = tt
nowhere-err s (Err e) a h f = λ k. nowhere s (f (sym h ∙ k))
