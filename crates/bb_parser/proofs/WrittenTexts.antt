-- What is written of a statement gives the statement.
use Rattle.std.proofs.Common.{◌≡◌, ℕ, ◌-◌, Bool, true, false, cond, not, ◌&&◌, ◌||◌, ◌==◌, List, [], ◌∷◌, ◌++◌, length, refl, sym, ap, ◌∙◌, Some, codes, nat_eq, bytes_eq, append_assoc, arith}
use Rattle.std.specs.List.{list_all, list_any, before_first, ends_with}
use Rattle.std.specs.Str.{IsUtf8}
use Rattle.std.proofs.lemmas.Bool.{and_parts, false≢true}
use Rattle.std.proofs.lemmas.List.{drop_at, length-append}
use Rattle.std.proofs.lemmas.List.Folds.{list_any-append}
use Rattle.meta_model.specs.declared.entry.Op.{Op}
use Rattle.meta_model.specs.declared.line.Kind.{Kind}
use Rattle.meta_model.specs.declared.line.Kind.TheVariants.{Class}
use Rattle.meta_model.specs.declared.statement.Statement.{Statement}
use Rattle.meta_model.specs.declared.statement.Statement.TheVariants.{Assign, Flag, Export, Unset, UnsetFlag, Include, Require, Inherit, Function, ExportFunctions, AddTask, DelTask}
use Rattle.meta_model.specs.Text.{newline, space, equals, is_blank, is_quote, is_empty, is_in, without_end, end_kept, without_last}
use Rattle.meta_model.specs.Names.{is_name, is_flag, is_late}
use Rattle.meta_model.specs.Lines.{pieces, is_joined, opens_body, without_opening}
use Rattle.meta_model.specs.Grammar.{fit_of, function_head}
use Rattle.meta_model.specs.Statements.{AreStatements, is_reserved, is_allowed, is_weak, holds_python, first_word}
use Rattle.bb_parser.specs.Written.{is_dropped, ends_line, is_body_line, is_body_text, is_free_name, is_python_name, is_refused_name, is_quotable, is_task, line_of_text, name_and_flag_text, flag_text, words_text, task_words, exports_text, assignment_text, operation_text, function_text, text_of, can_be_written}
use Rattle.meta_model.proofs.Edges.{without_end-goes, without_end-stays}
use Rattle.bb_parser.proofs.FormFacts.{fit_of-opens}
use Rattle.bb_parser.proofs.NameSearch.{name_char}
use Rattle.bb_parser.proofs.WrittenLines.{drop-push, without_last-push, joined-no, no_comment, function_lines, file_of_function}
use Rattle.bb_parser.proofs.WrittenNames
use Rattle.bb_parser.proofs.WrittenWords
use Rattle.bb_parser.proofs.WrittenForms.{IsLineOf, Assigned, assigned-parts, blank-assigned, close-assigned, export-assigned, flag-assigned, export-named, unset-named, unset-flagged, follows-parts, include-followed, require-followed, inherit-followed, line-gives, given, all-append, all-from, any-right, name-word, one-name}
use Rattle.bb_parser.proofs.WrittenTasks.{exports-line, addtask-line, deltask-line}
use Rattle.bb_parser.proofs.Tests.{not_false, or_parts}

assignment-line : (export : Bool) (c : ℕ) (cs : List ℕ) (op : Op) (text : List ℕ) → Assigned (c ∷ cs) op text → IsLineOf (assignment_text export (c ∷ cs) op text) (Assign export (c ∷ cs) op text)
assignment-line true c cs op text h = export-assigned c cs op text h
assignment-line false c cs op text h = by_case (is_refused_name (c ∷ cs)) refl
  where
    by_case : (b : Bool) → is_refused_name (c ∷ cs) ≡ b → IsLineOf (c ∷ cs ++ (cond b [] (space ∷ []) ++ operation_text op text)) (Assign false (c ∷ cs) op text)
    by_case true e = close-assigned c cs op text h e
    by_case false e = let p = or_parts (is_python_name (c ∷ cs)) (bytes_eq (c ∷ cs) (codes "fakeroot")) e in blank-assigned c cs op text h p.0 p.1

-- the head of a function
pub opening-is : (s h name : List ℕ) → without_end is_blank (without_last s) ≡ h → ends_with nat_eq s (codes "{") ≡ true → ends_with nat_eq h (codes "()") ≡ true → without_last (without_last h) ≡ name → without_opening s ≡ Some name
opening-is s h name e a b d = rw (e, a, b, d) refl

head-brace : (name : List ℕ) → function_text name ≡ (name ++ 40 ∷ 41 ∷ 32 ∷ []) ++ 123 ∷ []
head-brace name = sym (append_assoc name (40 ∷ 41 ∷ 32 ∷ []) (123 ∷ []))

pub parens : (name : List ℕ) → name ++ 40 ∷ 41 ∷ [] ≡ (name ++ 40 ∷ []) ++ 41 ∷ []
parens name = sym (append_assoc name (40 ∷ []) (41 ∷ []))

pub ends-brace : (ys : List ℕ) → ends_with nat_eq (ys ++ 123 ∷ []) (codes "{") ≡ true
ends-brace ys = rw (drop-push ys 123) refl

pub ends-parens : (name : List ℕ) → ends_with nat_eq (name ++ 40 ∷ 41 ∷ []) (codes "()") ≡ true
ends-parens name = rw (drop_at name (40 ∷ 41 ∷ []) (length (name ++ 40 ∷ 41 ∷ []) - 2) (omega (arith, length-append name (40 ∷ 41 ∷ [])))) refl

head-without : (name : List ℕ) → without_opening (function_text name) ≡ Some name
head-without name =
    let b : name ++ 40 ∷ 41 ∷ 32 ∷ [] ≡ (name ++ 40 ∷ 41 ∷ []) ++ 32 ∷ [] = sym (append_assoc name (40 ∷ 41 ∷ []) (32 ∷ [])) in
    opening-is (function_text name) (name ++ 40 ∷ 41 ∷ []) name
    (ap (λ x. without_end is_blank (without_last x)) (head-brace name) ∙ (ap (without_end is_blank) (without_last-push (name ++ 40 ∷ 41 ∷ 32 ∷ []) 123 ∙ b)
    ∙ (without_end-goes is_blank (name ++ 40 ∷ 41 ∷ []) 32 refl ∙ (ap (without_end is_blank) (parens name) ∙ (without_end-stays is_blank (name ++ 40 ∷ []) 41 refl ∙ sym (parens name))))))
    (ap (λ x. ends_with nat_eq x (codes "{")) (head-brace name) ∙ ends-brace (name ++ 40 ∷ 41 ∷ 32 ∷ []))
    (ends-parens name)
    (ap (λ x. without_last (without_last x)) (parens name) ∙ (ap without_last (without_last-push (name ++ 40 ∷ []) 41) ∙ without_last-push name 40))

pub any-none : (p : ℕ → Bool) (xs : List ℕ) → list_all (λ c. not (p c)) xs ≡ true → list_any p xs ≡ false
any-none p [] h = refl
any-none p (x ∷ xs) h = let b = and_parts (not (p x)) (list_all (λ c. not (p c)) xs) h in rw (not_false (p x) b.0) (any-none p xs b.1)

pub unsigned : (c : ℕ) → name_char c ≡ true → not (c == equals || is_quote c) ≡ true
unsigned c t = rw (WrittenNames.not_char 61 c refl t, WrittenNames.not_char 34 c refl t, WrittenNames.not_char 39 c refl t) refl

head-signs : (name : List ℕ) → list_all name_char name ≡ true → list_any (λ c. c == equals || is_quote c) (function_text name) ≡ false
head-signs name n = list_any-append (λ c. c == equals || is_quote c) name (codes "() {") ∙ rw (any-none (λ c. c == equals || is_quote c) name (all-from name_char (λ c. not (c == equals || is_quote c)) name unsigned n)) refl

head-opens : (name : List ℕ) → list_all name_char name ≡ true → opens_body (function_text name) ≡ true
head-opens name n = rw (head-signs name n, head-without name) refl

kept-all : (p : ℕ → Bool) (xs : List ℕ) → list_all (λ c. not (p c)) xs ≡ true → without_end p xs ≡ xs
kept-all p [] h = refl
kept-all p (x ∷ xs) h = let b = and_parts (not (p x)) (list_all (λ c. not (p c)) xs) h in ap (end_kept p x) (kept-all p xs b.1) ∙ stays x xs (not_false (p x) b.0)
  where
    stays : (x : ℕ) (xs : List ℕ) → p x ≡ false → end_kept p x xs ≡ x ∷ xs
    stays x [] e = rw e refl
    stays x (y ∷ ys) e = refl

head-fits : (c : ℕ) (cs body : List ℕ) → is_name (c ∷ cs) ≡ true → fit_of (function_text (c ∷ cs)) body ≡ Some (record { statement = Function (c ∷ cs) body; inner = 0 })
head-fits c cs body h =
    let n = (and_parts (not (is_empty (c ∷ cs))) (list_all name_char (c ∷ cs)) h).1 in
    let k = WrittenNames.char-unblank c (and_parts (name_char c) (list_all name_char cs) n).0 in
    let e = kept-all is_blank (c ∷ cs) (all-from name_char (λ d. not (is_blank d)) (c ∷ cs) (λ d t. rw (WrittenNames.char-unblank d t) refl) n) in
    fit_of-opens (function_text (c ∷ cs)) body (head-opens (c ∷ cs) n) ∙ (ap (function_head body) (WrittenNames.skip-stays c (cs ++ codes "() {") k) ∙ made (function_text (c ∷ cs)) (c ∷ cs) body (head-without (c ∷ cs)) e h)
  where
    made : (s name body : List ℕ) → without_opening s ≡ Some name → without_end is_blank name ≡ name → is_name name ≡ true → function_head body s ≡ Some (record { statement = Function name body; inner = 0 })
    made s name body o e h = rw (o, e, h) refl

-- NAME() { with the body and the closing brace
function-gives : (kind : Kind) (c : ℕ) (cs body : List ℕ) → is_name (c ∷ cs) ≡ true → is_reserved (c ∷ cs) ≡ false → is_python_name (c ∷ cs) ≡ false → is_body_text body ≡ true → IsUtf8 (text_of (Function (c ∷ cs) body)) → is_allowed kind (Function (c ∷ cs) body) ≡ true
    → AreStatements kind (text_of (Function (c ∷ cs) body)) ((1, Function (c ∷ cs) body) ∷ [])
function-gives kind c cs body h r p b u a =
    let name = c ∷ cs in
    let head = function_text name in
    let n = (and_parts (not (is_empty name)) (list_all name_char name) h).1 in
    let k = (and_parts (name_char c) (list_all name_char cs) n).0 in
    let x = and_parts (ends_line body && list_all is_body_line (pieces body)) (not (holds_python body)) b in
    let y = and_parts (ends_line body) (list_all is_body_line (pieces body)) x.0 in
    let front = name ++ 40 ∷ 41 ∷ 32 ∷ [] in
    let word = name ++ 40 ∷ 41 ∷ [] in
    let e : head ≡ word ++ 32 ∷ 123 ∷ [] = sym (append_assoc name (40 ∷ 41 ∷ []) (32 ∷ 123 ∷ [])) in
    let f = ap first_word e ∙ WrittenWords.first_word-front word (32 ∷ 123 ∷ []) (all-append WrittenWords.unwhite name (40 ∷ 41 ∷ []) (name-word c cs h) refl) refl in
    let python = ap (λ z. is_in (before_first (λ d. d == 40) z) (codes "python" ∷ codes "def" ∷ codes "addhandler" ∷ [])) f ∙ (ap (λ z. is_in z (codes "python" ∷ codes "def" ∷ codes "addhandler" ∷ [])) (WrittenWords.front-some 40 name (41 ∷ []) refl (WrittenNames.name_without 40 name refl n)) ∙ p) in
    let lines = function_lines head body refl (no_comment c (cs ++ codes "() {") (WrittenNames.char-unblank c k) (WrittenNames.char_not 35 c refl k)) (all-append (λ d. not (d == newline)) name (codes "() {") (one-name name n) refl)
    (ap (without_end is_dropped) (head-brace name) ∙ (without_end-stays is_dropped front 123 refl ∙ sym (head-brace name))) (ap is_joined (head-brace name) ∙ joined-no front 123 refl) (head-opens name n) y.0 y.1 in
    file_of_function kind (text_of (Function name body)) head body (Function name body) u lines y.0
    (given kind head body (Function name body) 0 (head-fits c cs body h) refl python (not_false (holds_python body) x.1) refl (WrittenWords.not_fakeroot 40 head word f (any-right (λ d. d == 40) name (40 ∷ 41 ∷ []) refl) refl) r a)

free-parts : (name : List ℕ) → is_free_name name ≡ true → (is_name name ≡ true) × (is_reserved name ≡ false)
free-parts name h = let a = and_parts (is_name name) (not (is_reserved name)) h in (a.0, not_false (is_reserved name) a.1)

-- the text of each statement that can be written gives it
pub written-gives : (kind : Kind) (s : Statement) → can_be_written s ≡ true → IsUtf8 (text_of s) → is_allowed kind s ≡ true → AreStatements kind (text_of s) ((1, s) ∷ [])
written-gives kind (Assign export [] op text) h u a = absurd (false≢true h)
written-gives kind (Assign export (c ∷ cs) op text) h u a =
    let b = and_parts (is_free_name (c ∷ cs) && is_quotable text) (not (is_weak op && is_late (c ∷ cs))) h in
    let d = and_parts (is_free_name (c ∷ cs)) (is_quotable text) b.0 in
    line-gives kind (assignment_text export (c ∷ cs) op text) (Assign export (c ∷ cs) op text) (assignment-line export c cs op text (assigned-parts (c ∷ cs) op text d.0 d.1)) u a
written-gives kind (Flag [] f op text) h u a = absurd (false≢true h)
written-gives kind (Flag (c ∷ cs) f op text) h u a =
    let b = and_parts (is_free_name (c ∷ cs) && is_flag f) (is_quotable text) h in
    let d = and_parts (is_free_name (c ∷ cs)) (is_flag f) b.0 in
    line-gives kind (flag_text (c ∷ cs) f op text) (Flag (c ∷ cs) f op text) (flag-assigned c cs f op text (assigned-parts (c ∷ cs) op text d.0 b.1) d.1) u a
written-gives kind (Export []) h u a = absurd (false≢true h)
written-gives kind (Export (c ∷ cs)) h u a = let b = free-parts (c ∷ cs) h in line-gives kind (line_of_text (codes "export") (c ∷ cs)) (Export (c ∷ cs)) (export-named c cs b.0 b.1) u a
written-gives kind (Unset []) h u a = absurd (false≢true h)
written-gives kind (Unset (c ∷ cs)) h u a = let b = free-parts (c ∷ cs) h in line-gives kind (line_of_text (codes "unset") (c ∷ cs)) (Unset (c ∷ cs)) (unset-named c cs b.0 b.1) u a
written-gives kind (UnsetFlag [] f) h u a = absurd (false≢true h)
written-gives kind (UnsetFlag (c ∷ cs) f) h u a =
    let d = and_parts (is_free_name (c ∷ cs)) (is_flag f) h in
    let b = free-parts (c ∷ cs) d.0 in
    line-gives kind (line_of_text (codes "unset") (name_and_flag_text (c ∷ cs) f)) (UnsetFlag (c ∷ cs) f) (unset-flagged c cs f b.0 b.1 d.1) u a
written-gives kind (Include path) h u a = line-gives kind (line_of_text (codes "include") path) (Include path) (include-followed path (follows-parts (codes "include") path h)) u a
written-gives kind (Require path) h u a = line-gives kind (line_of_text (codes "require") path) (Require path) (require-followed path (follows-parts (codes "require") path h)) u a
written-gives kind (Inherit names) h u a = line-gives kind (line_of_text (codes "inherit") names) (Inherit names) (inherit-followed names (follows-parts (codes "inherit") names h)) u a
written-gives kind (Function [] body) h u a = absurd (false≢true h)
written-gives kind (Function (c ∷ cs) body) h u a =
    let b = and_parts (is_free_name (c ∷ cs) && not (is_python_name (c ∷ cs))) (is_body_text body) h in
    let d = and_parts (is_free_name (c ∷ cs)) (not (is_python_name (c ∷ cs))) b.0 in
    let e = free-parts (c ∷ cs) d.0 in
    function-gives kind c cs body e.0 e.1 (not_false (is_python_name (c ∷ cs)) d.1) b.1 u a
written-gives kind (ExportFunctions []) h u a = absurd (false≢true h)
written-gives kind (ExportFunctions (w ∷ ws)) h u a = line-gives kind (exports_text (w ∷ ws)) (ExportFunctions (w ∷ ws)) (exports-line w ws h) u a
written-gives kind (AddTask [] as_ bs) h u a = absurd (false≢true h)
written-gives kind (AddTask (n ∷ ns) as_ bs) h u a =
    let b = and_parts (list_all is_task (n ∷ ns) && list_all is_task as_) (list_all is_task bs) h in
    let d = and_parts (list_all is_task (n ∷ ns)) (list_all is_task as_) b.0 in
    line-gives kind (codes "addtask" ++ words_text (task_words (n ∷ ns) as_ bs)) (AddTask (n ∷ ns) as_ bs) (addtask-line n ns as_ bs d.0 d.1 b.1) u a
written-gives kind (DelTask []) h u a = absurd (false≢true h)
written-gives kind (DelTask (n ∷ ns)) h u a = line-gives kind (codes "deltask" ++ words_text (n ∷ ns)) (DelTask (n ∷ ns)) (deltask-line n ns h) u a

-- each statement that can be written may stand in a class
pub class-allows : (s : Statement) → can_be_written s ≡ true → is_allowed Class s ≡ true
class-allows (Assign export name op text) h = (and_parts (is_free_name name && is_quotable text) (not (is_weak op && is_late name)) h).1
class-allows (Flag name f op text) h = refl
class-allows (Export name) h = refl
class-allows (Unset name) h = refl
class-allows (UnsetFlag name f) h = refl
class-allows (Include path) h = refl
class-allows (Require path) h = refl
class-allows (Inherit names) h = refl
class-allows (Function name body) h = refl
class-allows (ExportFunctions names) h = refl
class-allows (AddTask names after before) h = refl
class-allows (DelTask names) h = refl
