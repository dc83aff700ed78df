-- The lines of words that are written.
use Rattle.std.proofs.Common.{◌≡◌, ℕ, Bool, true, false, cond, not, ◌||◌, ◌==◌, List, [], ◌∷◌, ◌++◌, map, length, drop, is_some, refl, sym, ap, ◌∙◌, Some, None, codes, nat_le, bytes_eq, append_assoc, one-add, add-one, count_by}
use Rattle.std.specs.List.{list_all, after_first}
use Rattle.std.proofs.lemmas.Bool.{and_parts}
use Rattle.std.proofs.lemmas.List.{append-nil}
use Rattle.std.proofs.lemmas.List.Folds.{list_all-append}
use Rattle.std.proofs.lemmas.List.Sums.{sum_by-append, sum_by-cons}
use Rattle.std.proofs.lemmas.Slice.Eq.{bytes_eq-Decides}
use Rattle.std.specs.Char.{is_ascii_alphanumeric}
use Rattle.meta_model.specs.declared.statement.Statement.{Statement}
use Rattle.meta_model.specs.declared.statement.Statement.TheVariants.{ExportFunctions, AddTask, DelTask}
use Rattle.meta_model.specs.Text.{newline, is_blank, is_empty, begins_with, skip_blanks, words, is_shell_name}
use Rattle.meta_model.specs.Lines.{opens_body}
use Rattle.meta_model.specs.Grammar.{operation, operator, assignment, task_of, tasks, is_part, up_to_part, part, task_parts, task_names, directive_forms_of}
use Rattle.bb_parser.specs.Tasks.{is_task_name}
use Rattle.bb_parser.specs.Written.{is_word, is_task, is_one_line, words_text, part_words, task_words, exports_text}
use Rattle.bb_parser.proofs.Cuts.{starts-is}
use Rattle.bb_parser.proofs.WordFacts.{words-white}
use Rattle.bb_parser.proofs.WrittenNames
use Rattle.bb_parser.proofs.WrittenWords
use Rattle.bb_parser.proofs.WrittenWords.{unwhite, begins_white}
use Rattle.bb_parser.proofs.WrittenForms.{IsLineOf, directive-line, exports-is, addtask-is, deltask-is, all-append, all-from}
use Rattle.bb_parser.proofs.Tests.{none_of, not_false, or_parts}

white-front : (ws : List (List ℕ)) (v : List ℕ) → begins_white v ≡ true → begins_white (words_text ws ++ v) ≡ true
white-front [] v h = h
white-front (w ∷ ws) v h = refl

-- the words of words
pub words-written : (ws : List (List ℕ)) (v : List ℕ) → list_all is_word ws ≡ true → begins_white v ≡ true → words (words_text ws ++ v) ≡ ws ++ words v
words-written [] v h e = refl
words-written (w ∷ ws) v h e = let b = and_parts (is_word w) (list_all is_word ws) h in
    words-white 32 ((w ++ words_text ws) ++ v) refl ∙ (ap words (append_assoc w (words_text ws) v)
    ∙ (WrittenWords.word-front w (words_text ws ++ v) b.0 (white-front ws v e) ∙ ap (λ x. w ∷ x) (words-written ws v b.1 e)))

append-none : (ws : List (List ℕ)) → ws ++ [] ≡ ws
append-none ws = append-nil ws

-- white space in front changes no words
pub skip-words : (s : List ℕ) → words (skip_blanks s) ≡ words s
skip-words [] = refl
skip-words (c ∷ s) = by_case (is_blank c) refl (skip-words s)
  where
    by_case : (b : Bool) → is_blank c ≡ b → words (skip_blanks s) ≡ words s → words (skip_blanks (c ∷ s)) ≡ words (c ∷ s)
    by_case true e h = ap words (goes c s e) ∙ (h ∙ sym (words-white c s (rw e refl)))
      where
        goes : (c : ℕ) (s : List ℕ) → is_blank c ≡ true → skip_blanks (c ∷ s) ≡ skip_blanks s
        goes c s e = rw e refl
    by_case false e h = ap words (WrittenNames.skip-stays c s e)

-- what all characters of words are
pub words-all : (q : ℕ → Bool) (ws : List (List ℕ)) → q 32 ≡ true → list_all (λ w. list_all q w) ws ≡ true → list_all q (words_text ws) ≡ true
words-all q [] h k = refl
words-all q (w ∷ ws) h k = let b = and_parts (list_all q w) (list_all (λ x. list_all q x) ws) k in rw h (all-append q w (words_text ws) b.0 (words-all q ws h b.1))

lists-from : (p : List ℕ → Bool) (q : List ℕ → Bool) (ws : List (List ℕ)) → ((w : List ℕ) → p w ≡ true → q w ≡ true) → list_all p ws ≡ true → list_all q ws ≡ true
lists-from p q [] f h = refl
lists-from p q (w ∷ ws) f h = let b = and_parts (p w) (list_all p ws) h in rw (f w b.0) (lists-from p q ws f b.1)

word-one : (w : List ℕ) → is_word w ≡ true → is_one_line w ≡ true
word-one w h = all-from unwhite (λ c. not (c == newline)) w (λ c t. rw (WrittenNames.passes_not unwhite 10 c refl t) refl) (and_parts (not (is_empty w)) (list_all unwhite w) h).1

exports-fit : (t : List ℕ) (ws : List (List ℕ)) → words t ≡ ws → is_empty ws ≡ false → directive_forms_of (codes "EXPORT_FUNCTIONS" ++ 32 ∷ t) ≡ Some (record { statement = ExportFunctions ws; inner = 0 })
exports-fit t ws e h = rw (skip-words t, e, h) refl

return_no_operation : (r : List ℕ) → operation (13 ∷ r) ≡ None
unfolding operator
return_no_operation r = refl

-- EXPORT_FUNCTIONS WORDS
pub exports-line : (w : List ℕ) (ws : List (List ℕ)) → list_all is_word (w ∷ ws) ≡ true → IsLineOf (exports_text (w ∷ ws)) (ExportFunctions (w ∷ ws))
exports-line w ws h = by_case (is_some (assignment false line) || opens_body line) refl
  where
    line : List ℕ
    line = codes "EXPORT_FUNCTIONS" ++ words_text (w ∷ ws)

    rest : List ℕ
    rest = w ++ words_text ws

    s : Statement
    s = ExportFunctions (w ∷ ws)

    one : is_one_line (words_text (w ∷ ws)) ≡ true
    one = words-all (λ c. not (c == newline)) (w ∷ ws) refl (lists-from is_word is_one_line (w ∷ ws) word-one h)

    by_case : (b : Bool) → (is_some (assignment false line) || opens_body line) ≡ b → IsLineOf (cond b (codes "EXPORT_FUNCTIONS \r" ++ (words_text (w ∷ ws) ++ 32 ∷ [])) line) s
    by_case true e = let t = 13 ∷ (words_text (w ∷ ws) ++ 32 ∷ []) in
        directive-line (codes "EXPORT_FUNCTIONS") t s exports-is (all-append (λ c. not (c == newline)) (words_text (w ∷ ws)) (32 ∷ []) one refl)
        (WrittenNames.no_assignment false 69 (codes "XPORT_FUNCTIONS") t refl (return_no_operation (words_text (w ∷ ws) ++ 32 ∷ [])))
        (ap opens_body (sym (append_assoc (codes "EXPORT_FUNCTIONS \r") (words_text (w ∷ ws)) (32 ∷ []))) ∙ WrittenWords.blank_opens_none (codes "EXPORT_FUNCTIONS \r" ++ words_text (w ∷ ws)))
        (exports-fit t (w ∷ ws) (words-white 13 (words_text (w ∷ ws) ++ 32 ∷ []) refl ∙ (words-written (w ∷ ws) (32 ∷ []) h refl ∙ append-none (w ∷ ws))) refl) refl refl
    by_case false e = let b = or_parts (is_some (assignment false line)) (opens_body line) e in
        directive-line (codes "EXPORT_FUNCTIONS") rest s exports-is one (none_of (assignment false line) b.0) b.1
        (exports-fit rest (w ∷ ws) (sym (words-white 32 rest refl) ∙ (ap words (sym (append-nil (words_text (w ∷ ws)))) ∙ (words-written (w ∷ ws) [] h refl ∙ append-none (w ∷ ws)))) refl) refl refl

abbrev shell_char : ℕ → Bool
shell_char d = is_ascii_alphanumeric d || d == 95

-- the name of a task as a statement has it
task-shape : (t : List ℕ) → is_task t ≡ true → (t ≡ codes "do_" ++ drop 3 t) × (list_all shell_char (drop 3 t) ≡ true) × (begins_with (codes "do_") t ≡ true) × (is_task_name t ≡ true)
task-shape t h = let a = and_parts (begins_with (codes "do_") t) (is_task_name t) h in
    let b = and_parts (is_shell_name t) (nat_le (length t) 255) a.1 in
    let e = starts-is t (codes "do_") a.0 in
    (e, ap is_shell_name (sym e) ∙ b.0, a.0, a.1)

task-all : (q : ℕ → Bool) (t : List ℕ) → q 100 ≡ true → q 111 ≡ true → q 95 ≡ true → ((c : ℕ) → shell_char c ≡ true → q c ≡ true) → is_task t ≡ true → list_all q t ≡ true
task-all q t x y z f h = let s = task-shape t h in ap (list_all q) s.0 ∙ rw (x, y, z) (all-from shell_char q (drop 3 t) f s.1)

task-word : (t : List ℕ) → is_task t ≡ true → is_word t ≡ true
task-word t h = let s = task-shape t h in rw (ap is_empty s.0) (task-all unwhite t refl refl refl (λ c k. rw (WrittenNames.passes_not shell_char 32 c refl k, WrittenNames.passes_not shell_char 9 c refl k, WrittenNames.passes_not shell_char 10 c refl k, WrittenNames.passes_not shell_char 13 c refl k) refl) h)

task-unparen : (t : List ℕ) → is_task t ≡ true → list_all (λ c. not (c == 40)) t ≡ true
task-unparen t h = task-all (λ c. not (c == 40)) t refl refl refl (λ c k. rw (WrittenNames.passes_not shell_char 40 c refl k) refl) h

task-not_after : (t : List ℕ) → is_task t ≡ true → bytes_eq t (codes "after") ≡ false
task-not_after t h = ap (λ x. bytes_eq x (codes "after")) (task-shape t h).0

task-not_before : (t : List ℕ) → is_task t ≡ true → bytes_eq t (codes "before") ≡ false
task-not_before t h = ap (λ x. bytes_eq x (codes "before")) (task-shape t h).0

task-no_part : (t : List ℕ) → is_task t ≡ true → not (is_part t) ≡ true
task-no_part t h = ap (λ x. not (is_part x)) (task-shape t h).0

tasks-mapped : (ts : List (List ℕ)) → list_all is_task ts ≡ true → map task_of ts ≡ ts
tasks-mapped [] h = refl
tasks-mapped (t ∷ ts) h = let b = and_parts (is_task t) (list_all is_task ts) h in rw ((task-shape t b.0).2, tasks-mapped ts b.1) refl

tasks-are : (ts : List (List ℕ)) → list_all is_task ts ≡ true → tasks ts ≡ Some ts
tasks-are ts h = rw (tasks-mapped ts h, lists-from is_task is_task_name ts (λ t k. (task-shape t k).3) h) refl

-- nothing, or a word that begins a part
abbrev begins_part : List (List ℕ) → Bool
begins_part [] = true
begins_part (w ∷ ws) = is_part w

up_to-front : (ts r : List (List ℕ)) → list_all is_task ts ≡ true → begins_part r ≡ true → up_to_part (ts ++ r) ≡ ts
up_to-front [] [] h k = refl
up_to-front [] (w ∷ ws) h k = rw k refl
up_to-front (t ∷ ts) r h k = let b = and_parts (is_task t) (list_all is_task ts) h in rw (task-no_part t b.0, one-add) (ap (λ x. t ∷ x) (up_to-front ts r b.1 k))

-- none of the words is this one
abbrev none_is : List ℕ → List (List ℕ) → Bool
none_is word ws = list_all (λ w. not (bytes_eq w word)) ws

count-none : (word : List ℕ) (ws : List (List ℕ)) → none_is word ws ≡ true → count_by (λ w. bytes_eq w word) ws ≡ 0
count-none word [] h = refl
count-none word (w ∷ ws) h = let b = and_parts (not (bytes_eq w word)) (none_is word ws) h in sum_by-cons (λ x. cond (bytes_eq x word) 1 0) w ws ∙ rw (not_false (bytes_eq w word) b.0, count-none word ws b.1) refl

after-none : (word : List ℕ) (ws : List (List ℕ)) → none_is word ws ≡ true → after_first (λ w. bytes_eq w word) ws ≡ []
after-none word [] h = refl
after-none word (w ∷ ws) h = let b = and_parts (not (bytes_eq w word)) (none_is word ws) h in rw (not_false (bytes_eq w word) b.0, one-add, add-one) (rw add-one at (after-none word ws b.1))

after-pre : (word : List ℕ) (ws r : List (List ℕ)) → none_is word ws ≡ true → after_first (λ w. bytes_eq w word) (ws ++ r) ≡ after_first (λ w. bytes_eq w word) r
after-pre word [] r h = refl
after-pre word (w ∷ ws) r h = let b = and_parts (not (bytes_eq w word)) (none_is word ws) h in rw (not_false (bytes_eq w word) b.0, one-add, add-one) (rw add-one at (after-pre word ws r b.1))

part-none : (word : List ℕ) (ws : List (List ℕ)) → none_is word ws ≡ true → part word ws ≡ Some []
part-none word ws h = rw (count-none word ws h, after-none word ws h) refl

count-there : (word : List ℕ) (pre ts post : List (List ℕ)) → none_is word pre ≡ true → none_is word ts ≡ true → none_is word post ≡ true → count_by (λ w. bytes_eq w word) (pre ++ (word ∷ (ts ++ post))) ≡ 1
count-there word pre ts post a b d = let f : List ℕ → ℕ = λ x. cond (bytes_eq x word) 1 0 in
    sum_by-append f pre (word ∷ (ts ++ post)) ∙ rw (count-none word pre a, sum_by-cons f word (ts ++ post), (bytes_eq-Decides word word).1 refl, sum_by-append f ts post, count-none word ts b, count-none word post d) refl

after-there : (word : List ℕ) (pre r : List (List ℕ)) → none_is word pre ≡ true → after_first (λ w. bytes_eq w word) (pre ++ (word ∷ r)) ≡ r
after-there word pre r a = after-pre word pre (word ∷ r) a ∙ rw ((bytes_eq-Decides word word).1 refl) refl

part-there : (word : List ℕ) (pre : List (List ℕ)) (t : List ℕ) (ts post : List (List ℕ)) → none_is word pre ≡ true → none_is word (t ∷ ts) ≡ true → none_is word post ≡ true → list_all is_task (t ∷ ts) ≡ true → begins_part post ≡ true
    → part word (pre ++ (word ∷ (t ∷ ts ++ post))) ≡ Some (t ∷ ts)
part-there word pre t ts post a b d h k = rw (count-there word pre (t ∷ ts) post a b d, after-there word pre (t ∷ ts ++ post) a, up_to-front (t ∷ ts) post h k) refl

none-append : (word : List ℕ) (xs ys : List (List ℕ)) → none_is word xs ≡ true → none_is word ys ≡ true → none_is word (xs ++ ys) ≡ true
none-append word xs ys h k = list_all-append (λ w. not (bytes_eq w word)) xs ys ∙ rw (h, k) refl

none-after : (ts : List (List ℕ)) → list_all is_task ts ≡ true → none_is (codes "after") ts ≡ true
none-after ts h = lists-from is_task (λ w. not (bytes_eq w (codes "after"))) ts (λ t k. rw (task-not_after t k) refl) h

none-before : (ts : List (List ℕ)) → list_all is_task ts ≡ true → none_is (codes "before") ts ≡ true
none-before ts h = lists-from is_task (λ w. not (bytes_eq w (codes "before"))) ts (λ t k. rw (task-not_before t k) refl) h

none-before-part : (ts : List (List ℕ)) → list_all is_task ts ≡ true → none_is (codes "before") (part_words (codes "after") ts) ≡ true
none-before-part [] h = refl
none-before-part (t ∷ ts) h = none-before (t ∷ ts) h

none-after-part : (ts : List (List ℕ)) → list_all is_task ts ≡ true → none_is (codes "after") (part_words (codes "before") ts) ≡ true
none-after-part [] h = refl
none-after-part (t ∷ ts) h = none-after (t ∷ ts) h

before-begins : (ts : List (List ℕ)) → begins_part (part_words (codes "before") ts) ≡ true
before-begins [] = refl
before-begins (t ∷ ts) = refl

parts-begin : (as_ bs : List (List ℕ)) → begins_part (part_words (codes "after") as_ ++ part_words (codes "before") bs) ≡ true
parts-begin [] bs = before-begins bs
parts-begin (t ∷ ts) bs = refl

after-is : (ns as_ bs : List (List ℕ)) → list_all is_task ns ≡ true → list_all is_task as_ ≡ true → list_all is_task bs ≡ true → part (codes "after") (task_words ns as_ bs) ≡ Some as_
after-is ns [] bs h k l = part-none (codes "after") (ns ++ part_words (codes "before") bs) (none-append (codes "after") ns (part_words (codes "before") bs) (none-after ns h) (none-after-part bs l))
after-is ns (t ∷ ts) bs h k l = part-there (codes "after") ns t ts (part_words (codes "before") bs) (none-after ns h) (none-after (t ∷ ts) k) (none-after-part bs l) k (before-begins bs)

before-is : (ns as_ bs : List (List ℕ)) → list_all is_task ns ≡ true → list_all is_task as_ ≡ true → list_all is_task bs ≡ true → part (codes "before") (task_words ns as_ bs) ≡ Some bs
before-is ns as_ [] h k l = part-none (codes "before") (task_words ns as_ []) (none-append (codes "before") ns (part_words (codes "after") as_ ++ []) (none-before ns h) (none-append (codes "before") (part_words (codes "after") as_) [] (none-before-part as_ k) refl))
before-is ns as_ (t ∷ ts) h k l = let a = part_words (codes "after") as_ in
    ap (part (codes "before")) (sym (append_assoc ns a (codes "before" ∷ t ∷ ts)) ∙ ap (λ x. (ns ++ a) ++ (codes "before" ∷ x)) (sym (append-nil (t ∷ ts))))
    ∙ part-there (codes "before") (ns ++ a) t ts [] (none-append (codes "before") ns a (none-before ns h) (none-before-part as_ k)) (none-before (t ∷ ts) l) refl l refl

parts-are : (n : List ℕ) (ns as_ bs : List (List ℕ)) → list_all is_task (n ∷ ns) ≡ true → list_all is_task as_ ≡ true → list_all is_task bs ≡ true → task_parts (task_words (n ∷ ns) as_ bs) ≡ Some (AddTask (n ∷ ns) as_ bs)
parts-are n ns as_ bs h k l = let ws = task_words (n ∷ ns) as_ bs in
    made ws (n ∷ ns) as_ bs (up_to-front (n ∷ ns) (part_words (codes "after") as_ ++ part_words (codes "before") bs) h (parts-begin as_ bs)) refl (tasks-are (n ∷ ns) h) (after-is (n ∷ ns) as_ bs h k l) (tasks-are as_ k) (before-is (n ∷ ns) as_ bs h k l) (tasks-are bs l)
  where
    made : (ws ns as_ bs : List (List ℕ)) → up_to_part ws ≡ ns → is_empty ns ≡ false → tasks ns ≡ Some ns → part (codes "after") ws ≡ Some as_ → tasks as_ ≡ Some as_ → part (codes "before") ws ≡ Some bs → tasks bs ≡ Some bs → task_parts ws ≡ Some (AddTask ns as_ bs)
    made ws ns as_ bs u e a b d f g = rw (u, e, a, b, d, f, g) refl

part-all : (q : List ℕ → Bool) (word : List ℕ) (ts : List (List ℕ)) → q word ≡ true → list_all q ts ≡ true → list_all q (part_words word ts) ≡ true
part-all q word [] h k = refl
part-all q word (t ∷ ts) h k = rw h k

all-words : (q : List ℕ → Bool) (ns as_ bs : List (List ℕ)) → q (codes "after") ≡ true → q (codes "before") ≡ true → list_all q ns ≡ true → list_all q as_ ≡ true → list_all q bs ≡ true → list_all q (task_words ns as_ bs) ≡ true
all-words q ns as_ bs x y h k l = list_all-append q ns (part_words (codes "after") as_ ++ part_words (codes "before") bs) ∙ rw (h, list_all-append q (part_words (codes "after") as_) (part_words (codes "before") bs), part-all q (codes "after") as_ x k, part-all q (codes "before") bs y l) refl

addtask-fit : (t : List ℕ) (ws : List (List ℕ)) (s : Statement) → words t ≡ ws → is_empty ws ≡ false → task_parts ws ≡ Some s → directive_forms_of (codes "addtask" ++ 32 ∷ t) ≡ Some (record { statement = s; inner = 0 })
addtask-fit t ws s e h p = rw (skip-words t, e, h, p) refl

deltask-fit : (t : List ℕ) (ws : List (List ℕ)) (s : Statement) → words t ≡ ws → is_empty ws ≡ false → task_names ws ≡ Some s → directive_forms_of (codes "deltask" ++ 32 ∷ t) ≡ Some (record { statement = s; inner = 0 })
deltask-fit t ws s e h p = rw (skip-words t, e, h, p) refl

task-no_operator : (t r : List ℕ) → is_task t ≡ true → operation (t ++ r) ≡ None
task-no_operator t r h = WrittenNames.no_operation (t ++ r) (ap (λ x. operator (x ++ r)) (task-shape t h).0 ∙ WrittenNames.no_operator-letter 100 (111 ∷ 95 ∷ (drop 3 t ++ r)) refl)

behind-words : (w : List ℕ) (ws : List (List ℕ)) → list_all is_word (w ∷ ws) ≡ true → words (w ++ words_text ws) ≡ w ∷ ws
behind-words w ws h = sym (words-white 32 (w ++ words_text ws) refl) ∙ (ap words (sym (append-nil (words_text (w ∷ ws)))) ∙ (words-written (w ∷ ws) [] h refl ∙ append-none (w ∷ ws)))

-- addtask WORDS, with its parts
pub addtask-line : (n : List ℕ) (ns as_ bs : List (List ℕ)) → list_all is_task (n ∷ ns) ≡ true → list_all is_task as_ ≡ true → list_all is_task bs ≡ true → IsLineOf (codes "addtask" ++ words_text (task_words (n ∷ ns) as_ bs)) (AddTask (n ∷ ns) as_ bs)
addtask-line n ns as_ bs h k l =
    let ws = ns ++ (part_words (codes "after") as_ ++ part_words (codes "before") bs) in
    let t = n ++ words_text ws in
    let wordy = all-words is_word (n ∷ ns) as_ bs refl refl (lists-from is_task is_word (n ∷ ns) task-word h) (lists-from is_task is_word as_ task-word k) (lists-from is_task is_word bs task-word l) in
    let unparen = λ (c : ℕ). not (c == 40) in
    let bare = all-words (λ w. list_all unparen w) (n ∷ ns) as_ bs refl refl (lists-from is_task (λ w. list_all unparen w) (n ∷ ns) task-unparen h) (lists-from is_task (λ w. list_all unparen w) as_ task-unparen k) (lists-from is_task (λ w. list_all unparen w) bs task-unparen l) in
    let one = words-all (λ c. not (c == newline)) (n ∷ ws) refl (lists-from is_word is_one_line (n ∷ ws) word-one wordy) in
    directive-line (codes "addtask") t (AddTask (n ∷ ns) as_ bs) addtask-is one (WrittenNames.no_assignment false 97 (codes "ddtask") t refl (task-no_operator n (words_text ws) (and_parts (is_task n) (list_all is_task ns) h).0))
    (WrittenWords.no_paren (codes "addtask" ++ words_text (n ∷ ws)) (all-append unparen (codes "addtask") (words_text (n ∷ ws)) refl (words-all unparen (n ∷ ws) refl bare)))
    (addtask-fit t (n ∷ ws) (AddTask (n ∷ ns) as_ bs) (behind-words n ws wordy) refl (parts-are n ns as_ bs h k l)) refl refl

names-are : (ns : List (List ℕ)) → list_all is_task ns ≡ true → task_names ns ≡ Some (DelTask ns)
names-are ns h = rw (tasks-are ns h) refl

-- deltask WORDS
pub deltask-line : (n : List ℕ) (ns : List (List ℕ)) → list_all is_task (n ∷ ns) ≡ true → IsLineOf (codes "deltask" ++ words_text (n ∷ ns)) (DelTask (n ∷ ns))
deltask-line n ns h =
    let t = n ++ words_text ns in
    let wordy = lists-from is_task is_word (n ∷ ns) task-word h in
    let unparen = λ (c : ℕ). not (c == 40) in
    let bare = lists-from is_task (λ w. list_all unparen w) (n ∷ ns) task-unparen h in
    let one = words-all (λ c. not (c == newline)) (n ∷ ns) refl (lists-from is_word is_one_line (n ∷ ns) word-one wordy) in
    directive-line (codes "deltask") t (DelTask (n ∷ ns)) deltask-is one (WrittenNames.no_assignment false 100 (codes "eltask") t refl (task-no_operator n (words_text ns) (and_parts (is_task n) (list_all is_task ns) h).0))
    (WrittenWords.no_paren (codes "deltask" ++ words_text (n ∷ ns)) (all-append unparen (codes "deltask") (words_text (n ∷ ns)) refl (words-all unparen (n ∷ ns) refl bare)))
    (deltask-fit t (n ∷ ns) (DelTask (n ∷ ns)) (behind-words n ns wordy) refl (names-are (n ∷ ns) h)) refl refl
