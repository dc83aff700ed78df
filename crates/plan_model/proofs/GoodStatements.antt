-- The statements of a file add tasks of good names alone.
use Rattle.std.proofs.Common.{◌≡◌, refl, subst, ℕ, List, [], ◌∷◌, ◌++◌, map, length, Bool, true, false, not, ◌&&◌, Option, Some, None, Result, Ok, Err, IfOk, IfSome, codes, nat_le, nat_lt, if◌then◌else◌, option_map}
use Rattle.std.specs.Prelude.{find, is_some}
use Rattle.std.specs.List.{AllByRecursion, list_all}
use Rattle.meta_model.proofs.Bools.{and_left, and_right, both}
use Rattle.meta_model.specs.declared.line.Kind.{Kind}
use Rattle.meta_model.specs.declared.line.Line.{Line}
use Rattle.meta_model.specs.declared.line.Place.{Place}
use Rattle.meta_model.specs.declared.line.Place.TheVariants.{Plain, Body, Close}
use Rattle.meta_model.specs.declared.line.SyntaxFault.{SyntaxFault}
use Rattle.meta_model.specs.declared.line.SyntaxFault.TheVariants.{Python, Fakeroot, OneInnerQuote, ReservedName, BadLine, OpenFunction}
use Rattle.meta_model.specs.declared.statement.Statement.{Statement}
use Rattle.meta_model.specs.declared.statement.Statement.TheVariants.{Assign, Flag, Export, Unset, UnsetFlag, Include, Require, Inherit, Function, ExportFunctions, AddTask, DelTask}
use Rattle.meta_model.specs.Text.{begins_with, is_shell_name, skip_blanks, is_empty, cuts}
use Rattle.meta_model.specs.Names.{is_name}
use Rattle.meta_model.specs.Text.{is_blank, without_end}
use Rattle.meta_model.specs.Lines.{OrFault, with_first, logical_lines, opens_body, without_opening}
use Rattle.load_model.specs.LoadRefusal.{file_bytes}
use Rattle.load_model.specs.Loading.{Contents, with_cause, most_bytes, contents_of, sources_of}
use Rattle.meta_model.specs.Grammar.{Fit, ◌>>=◌, where_true, first_of_two, first_there, operator, operation, assignment, flag_assignment, flag_of_name, behind_word, with_name, flag_unset, with_text, with_words}
use Rattle.meta_model.specs.Grammar.{plain_fit, task_of, tasks, up_to_part, part, task_parts, task_names, function_head, fit_of, words_behind_word, text_behind_word, name_behind_word, value_forms_of, directive_forms_of, exported_assignment}
use Rattle.meta_model.specs.Statements.{statement_of, statement_of_fit, is_allowed, is_python, is_fakeroot, has_one_inner_quote, has_reserved_name, statements_of_lines, with_statement, body_of, ends_in_body, of_lines, statements}
use Rattle.plan_model.specs.Names.{is_task_name, AddsGoodTasks, AddGoodTasks}

-- a line that fits a form
abbrev Good : Option Fit → Type 0
Good fit = IfSome fit (λ f. AddsGoodTasks f.statement)

good_bind : {A : Type 0} (m : Option A) (f : A → Option Fit) → ((a : A) → m ≡ Some a → Good (f a)) → Good (m >>= f)
good_bind None f h = tt
good_bind (Some a) f h = h a refl

good_where : (b : Bool) (fit : Fit) → AddsGoodTasks fit.statement → Good (where_true b fit)
good_where true fit h = h
good_where false fit h = tt

good_two : (one other : Option Fit) → Good one → Good other → Good (first_of_two one other)
good_two (Some x) other h k = h
good_two None other h k = k

-- names of tasks

with_do : (w : List ℕ) → begins_with (codes "do_") (task_of w) ≡ true
with_do w = by (begins_with (codes "do_") w) refl
  where
    by : (b : Bool) → begins_with (codes "do_") w ≡ b → begins_with (codes "do_") (if b then w else codes "do_" ++ w) ≡ true
    by true e = e
    by false e = refl

names_good : (ws : List (List ℕ)) → list_all (λ t. is_shell_name t && nat_le (length t) 255) (map task_of ws) ≡ true → AllByRecursion (λ n. is_task_name n ≡ true) (map task_of ws)
names_good [] h = tt
names_good (w ∷ ws) h =
    let rest = list_all (λ t. is_shell_name t && nat_le (length t) 255) (map task_of ws) in
    let one = is_shell_name (task_of w) && nat_le (length (task_of w)) 255 in
    (both (begins_with (codes "do_") (task_of w)) one (with_do w) (and_left one rest h), names_good ws (and_right one rest h))

tasks_good : (ws ns : List (List ℕ)) → tasks ws ≡ Some ns → AllByRecursion (λ n. is_task_name n ≡ true) ns
tasks_good ws ns e = by (list_all (λ t. is_shell_name t && nat_le (length t) 255) (map task_of ws)) refl e
  where
    by : (b : Bool) → list_all (λ t. is_shell_name t && nat_le (length t) 255) (map task_of ws) ≡ b → where_true b (map task_of ws) ≡ Some ns → AllByRecursion (λ n. is_task_name n ≡ true) ns
    by true h k = let s : map task_of ws ≡ ns = cc in subst (AllByRecursion (λ n. is_task_name n ≡ true)) s (names_good ws h)
    by false h k = absurd (cc)

abbrev GoodMade : Option Statement → Type 0
GoodMade made = IfSome made AddsGoodTasks

made_bind : {A : Type 0} (m : Option A) (f : A → Option Statement) → ((a : A) → m ≡ Some a → GoodMade (f a)) → GoodMade (m >>= f)
made_bind None f h = tt
made_bind (Some a) f h = h a refl

parts_good : (ws : List (List ℕ)) → GoodMade (task_parts ws)
parts_good ws =
    made_bind (where_true (not (is_empty (up_to_part ws))) (up_to_part ws)) (λ names. tasks names >>= λ ns. part (codes "after") ws >>= λ after. tasks after >>= λ as_. part (codes "before") ws >>= λ before. tasks before >>= λ bs. Some (AddTask ns as_ bs)) (λ names e.
    made_bind (tasks names) (λ ns. part (codes "after") ws >>= λ after. tasks after >>= λ as_. part (codes "before") ws >>= λ before. tasks before >>= λ bs. Some (AddTask ns as_ bs)) (λ ns f.
    made_bind (part (codes "after") ws) (λ after. tasks after >>= λ as_. part (codes "before") ws >>= λ before. tasks before >>= λ bs. Some (AddTask ns as_ bs)) (λ after g.
    made_bind (tasks after) (λ as_. part (codes "before") ws >>= λ before. tasks before >>= λ bs. Some (AddTask ns as_ bs)) (λ as_ h.
    made_bind (part (codes "before") ws) (λ before. tasks before >>= λ bs. Some (AddTask ns as_ bs)) (λ before i.
    made_bind (tasks before) (λ bs. Some (AddTask ns as_ bs)) (λ bs j. tasks_good names ns f))))))

-- the forms

words_good : (word : List ℕ) (make : List (List ℕ) → Option Statement) → ((ws : List (List ℕ)) → GoodMade (make ws)) → (s : List ℕ) → Good (with_words word make s)
words_good word make h s =
    good_bind (words_behind_word word s) (λ ws. make ws >>= λ statement. Some (plain_fit statement)) (λ ws e.
    good_bind (make ws) (λ statement. Some (plain_fit statement)) (λ statement g. subst GoodMade g (h ws)))

good_plain : (make : List ℕ → Statement) → ((t : List ℕ) → AddsGoodTasks (make t)) → (o : Option (List ℕ)) → Good (option_map (λ t. plain_fit (make t)) o)
good_plain make h None = tt
good_plain make h (Some t) = h t

text_good : (word : List ℕ) (make : List ℕ → Statement) → ((t : List ℕ) → AddsGoodTasks (make t)) → (s : List ℕ) → Good (with_text word make s)
text_good word make h s = good_plain make h (text_behind_word word s)

name_good : (word : List ℕ) (make : List ℕ → Statement) → ((t : List ℕ) → AddsGoodTasks (make t)) → (s : List ℕ) → Good (with_name word make s)
name_good word make h s = good_plain make h (name_behind_word word s)

assignment_good : (export : Bool) (s : List ℕ) → Good (assignment export s)
assignment_good export s =
    good_bind (find (λ c. is_name c.0 && is_some (operator c.1)) (cuts s)) (λ c. operation c.1 >>= λ o. Some (record { statement = Assign export c.0 o.0 o.1.text; inner = o.1.inner })) (λ c e.
    good_bind (operation c.1) (λ o. Some (record { statement = Assign export c.0 o.0 o.1.text; inner = o.1.inner })) (λ o f. tt))

flag_good : (s : List ℕ) → Good (flag_assignment s)
flag_good s =
    good_bind (flag_of_name s) (λ n. operation n.2 >>= λ o. Some (record { statement = Flag n.0 n.1 o.0 o.1.text; inner = o.1.inner })) (λ n e.
    good_bind (operation n.2) (λ o. Some (record { statement = Flag n.0 n.1 o.0 o.1.text; inner = o.1.inner })) (λ o f. tt))

flag_unset_good : (s : List ℕ) → Good (flag_unset s)
flag_unset_good s =
    good_bind (behind_word (codes "unset") s) (λ rest. flag_of_name rest >>= λ n. where_true (is_empty n.2) (plain_fit (UnsetFlag n.0 n.1))) (λ rest e.
    good_bind (flag_of_name rest) (λ n. where_true (is_empty n.2) (plain_fit (UnsetFlag n.0 n.1))) (λ n f. good_where (is_empty n.2) (plain_fit (UnsetFlag n.0 n.1)) tt))

deltask_good : (ws : List (List ℕ)) → GoodMade (task_names ws)
deltask_good ws = made_bind (tasks ws) (λ ts. Some (DelTask ts)) (λ ts e. tt)

head_good : (body s : List ℕ) → Good (function_head body s)
head_good body s =
    good_bind (without_opening s) (λ head. where_true (is_name (without_end is_blank head)) (without_end is_blank head) >>= λ n. Some (plain_fit (Function n body))) (λ head e.
    good_bind (where_true (is_name (without_end is_blank head)) (without_end is_blank head)) (λ n. Some (plain_fit (Function n body))) (λ n f. tt))

abbrev AllGood : List (Option Fit) → Type 0
AllGood fits = AllByRecursion Good fits

first_good : (fits : List (Option Fit)) → AllGood fits → Good (first_there fits)
first_good [] h = tt
first_good (fit ∷ fits) h = good_two fit (first_there fits) h.0 (first_good fits h.1)

values_good : (s : List ℕ) → Good (value_forms_of s)
values_good s =
    first_good (assignment false s ∷ exported_assignment s ∷ flag_assignment s ∷ with_name (codes "export") Export s ∷ with_name (codes "unset") Unset s ∷ flag_unset s ∷ [])
    (assignment_good false s, (good_bind (behind_word (codes "export") s) (assignment true) (λ t e. assignment_good true t), (flag_good s, (name_good (codes "export") Export (λ t. tt) s, (name_good (codes "unset") Unset (λ t. tt) s, (flag_unset_good s, tt))))))

directives_good : (s : List ℕ) → Good (directive_forms_of s)
directives_good s =
    first_good (with_text (codes "include") Include s ∷ with_text (codes "require") Require s ∷ with_text (codes "inherit") Inherit s
    ∷ with_words (codes "EXPORT_FUNCTIONS") (λ ws. Some (ExportFunctions ws)) s ∷ with_words (codes "addtask") task_parts s ∷ with_words (codes "deltask") task_names s ∷ []) (
      text_good (codes "include") Include (λ t. tt) s,
      (
        text_good (codes "require") Require (λ t. tt) s,
        (
          text_good (codes "inherit") Inherit (λ t. tt) s,
          (words_good (codes "EXPORT_FUNCTIONS") (λ ws. Some (ExportFunctions ws)) (λ ws. tt) s, (words_good (codes "addtask") task_parts parts_good s, (words_good (codes "deltask") task_names deltask_good s, tt))),
        ),
      ),
    )

fit_by : (b : Bool) (body s : List ℕ) → Good (if b then function_head body s else first_of_two (value_forms_of s) (directive_forms_of s))
fit_by true body s = head_good body s
fit_by false body s = good_two (value_forms_of s) (directive_forms_of s) (values_good s) (directives_good s)

fit_good : (text body : List ℕ) → Good (fit_of text body)
unfolding fit_of
fit_good text body = fit_by (opens_body text) body (skip_blanks text)

-- statements

abbrev GoodStatement : Result Statement SyntaxFault → Type 0
GoodStatement r = IfOk r AddsGoodTasks

ok_if : (b : Bool) (wrong : SyntaxFault) (r : Result Statement SyntaxFault) → GoodStatement r → GoodStatement (if b then Err wrong else r)
ok_if true wrong r h = tt
ok_if false wrong r h = h

of_fit_good : (kind : Kind) (is_open : Bool) (fit : Option Fit) → Good fit → GoodStatement (statement_of_fit kind is_open fit)
of_fit_good kind is_open None h = tt
of_fit_good kind is_open (Some fit) h = ok_if (not (is_allowed kind fit.statement)) BadLine (if is_open then Err OpenFunction else Ok fit.statement) (ok_if is_open OpenFunction (Ok fit.statement) h)

one_good : (kind : Kind) (text body : List ℕ) (is_open : Bool) → GoodStatement (statement_of kind text body is_open)
unfolding statement_of
one_good kind text body is_open =
    let fit = fit_of text body in
    let last = statement_of_fit kind is_open fit in
    let fourth = if has_reserved_name fit then Err ReservedName else last in
    let third = if has_one_inner_quote fit then Err OneInnerQuote else fourth in
    let second = if is_fakeroot text then Err Fakeroot else third in
    ok_if (is_python text body fit) Python second
    (ok_if (is_fakeroot text) Fakeroot third
    (ok_if (has_one_inner_quote fit) OneInnerQuote fourth
    (ok_if (has_reserved_name fit) ReservedName last
    (of_fit_good kind is_open fit (fit_good text body)))))

abbrev GoodList : OrFault (List (ℕ × Statement)) → Type 0
GoodList r = IfOk r (AllByRecursion (λ s. AddsGoodTasks s.1))

first_more : (n : ℕ) (s : Statement) (rest : OrFault (List (ℕ × Statement))) → AddsGoodTasks s → GoodList rest → GoodList (with_first (n, s) rest)
first_more n s (Ok xs) h k = (h, k)
first_more n s (Err e) h k = tt

with_more : (n : ℕ) (r : Result Statement SyntaxFault) (rest : OrFault (List (ℕ × Statement))) → GoodStatement r → GoodList rest → GoodList (with_statement n r rest)
with_more n (Ok s) rest h k = first_more n s rest h k
with_more n (Err wrong) rest h k = tt

line_good : (place : Place) (n : ℕ) (r : Result Statement SyntaxFault) (rest : OrFault (List (ℕ × Statement))) → GoodStatement r → GoodList rest → GoodList (elim place [ Plain ↦ with_statement n r rest | Body ↦ rest | Close ↦ rest ])
line_good Plain n r rest h k = with_more n r rest h k
line_good Body n r rest h k = k
line_good Close n r rest h k = k

lines_good : (kind : Kind) (lines : List Line) → GoodList (statements_of_lines kind lines)
lines_good kind [] = tt
lines_good kind (l ∷ ls) = line_good l.place l.number (statement_of kind l.text (body_of ls) (opens_body l.text && ends_in_body ls)) (statements_of_lines kind ls) (one_good kind l.text (body_of ls) (opens_body l.text && ends_in_body ls)) (lines_good kind ls)

of_lines_good : (kind : Kind) (r : OrFault (List Line)) → GoodList (of_lines kind r)
of_lines_good kind (Ok ls) = lines_good kind ls
of_lines_good kind (Err e) = tt

-- the statements of a file add tasks of good names alone
pub statements_good : (kind : Kind) (bytes : List ℕ) → GoodList (statements kind bytes)
unfolding statements
statements_good kind bytes = of_lines_good kind (logical_lines bytes)

abbrev GoodContents : Contents → Type 0
GoodContents contents = IfOk contents (AllByRecursion (λ s. AddsGoodTasks s.1))

with_cause_good : (r : OrFault (List (ℕ × Statement))) → GoodList r → GoodContents (with_cause r)
with_cause_good (Ok xs) h = h
with_cause_good (Err e) h = tt

contents_good : (kind : Kind) (bytes : List ℕ) → GoodContents (contents_of kind bytes)
contents_good kind bytes = by (nat_lt most_bytes (length bytes))
  where
    by : (b : Bool) → GoodContents (if b then Err (0, file_bytes) else with_cause (statements kind bytes))
    by true = tt
    by false = with_cause_good (statements kind bytes) (statements_good kind bytes)

-- files add tasks of good names alone
pub files_add : (files : List ℕ → Option (List ℕ)) → AddGoodTasks (sources_of files)
files_add files path kind list e = by (files path) e
  where
    by : (o : Option (List ℕ)) → option_map (contents_of kind) o ≡ Some (Ok list) → AllByRecursion (λ s. AddsGoodTasks s.1) list
    by None f = absurd (cc)
    by (Some bytes) f = let g : contents_of kind bytes ≡ Ok list = cc in subst GoodContents g (contents_good kind bytes)
