-- The forms of a logical line.
use Rattle.std.specs.Prelude.{ℕ, Bool, true, false, not, ◌&&◌, ◌||◌, List, [], ◌∷◌, ◌++◌, map, length, take, drop, Option, Some, None, ◌==◌, nat_le, if◌then◌else◌, is_some, count_by, find, take_while, codes, bytes_eq, option_map}
use Rattle.std.specs.List.{list_any, list_all, after_first}
use Rattle.meta_model.specs.declared.entry.Op.{Op}
use Rattle.meta_model.specs.declared.entry.Op.TheVariants.{Set, Now, Soft, Weak, AddBlank, PutBlank, Add, Put}
use Rattle.meta_model.specs.declared.statement.Statement.{Statement}
use Rattle.meta_model.specs.declared.statement.Statement.TheVariants.{Assign, Flag, Export, Unset, UnsetFlag, Include, Require, Inherit, Function, ExportFunctions, AddTask, DelTask}
pub use Rattle.meta_model.specs.Text.{◌>>=◌}
use Rattle.meta_model.specs.Text.{open_bracket, close_bracket, is_blank, is_quote, is_empty, begins_with, is_in, skip_blanks, without_end, without_last, split_at_first, cuts, words, is_shell_name}
use Rattle.meta_model.specs.Names.{is_name, is_flag}
use Rattle.meta_model.specs.Lines.{without_opening, opens_body}

-- x, where the test holds
abbrev pub where_true : {A : Type 0} → Bool → A → Option A
where_true test x = if test then Some x else None

-- the first that is there
abbrev pub first_of_two : {A : Type 0} → Option A → Option A → Option A
first_of_two (Some x) other = Some x
first_of_two None other = other

abbrev pub first_there : {A : Type 0} → List (Option A) → Option A
first_there [] = None
first_there (x ∷ xs) = first_of_two x (first_there xs)

-- OP. The operators, the longer ones first (BitBake User Manual, "Syntax and Operators", section "Basic Syntax").
abbrev pub operators : List (List ℕ × Op)
operators = (codes "??=", Weak) ∷ (codes ":=", Now) ∷ (codes "?=", Soft) ∷ (codes "+=", AddBlank) ∷ (codes "=+", PutBlank)
    ∷ (codes ".=", Add) ∷ (codes "=.", Put) ∷ (codes "=", Set) ∷ []

-- the longest operator that t begins with, and what follows it
abbrev pub operator_here : List ℕ → Option (Op × List ℕ)
operator_here t = find (λ o. begins_with o.0 t) operators >>= λ o. Some (o.1, drop (length o.0) t)

-- the same behind blanks
unfoldable pub operator : List ℕ → Option (Op × List ℕ)
operator s = operator_here (skip_blanks s)

-- QUOTED: a quote, a text, and the same quote, which ends the line (own rule: the last quote of that kind counts).
-- `inner` is how often it stands in the text.
pub record Quoted : Type 0 where
  pub text : List ℕ
  pub inner : ℕ

unfoldable pub quoted : List ℕ → Option Quoted
quoted [] = None
quoted (q ∷ cs) = let text = without_last cs in
    where_true (is_quote q && bytes_eq cs (text ++ q ∷ [])) (record { text = text; inner = count_by (λ c. c == q) text })

-- OP QUOTED, with optional blanks before and between
abbrev pub operation : List ℕ → Option (Op × Quoted)
operation s = do
  o ← operator s
  q ← quoted (skip_blanks o.1)
  Some (o.0, q)

-- what follows the word and at least one blank
abbrev pub behind_word : List ℕ → List ℕ → Option (List ℕ)
behind_word word s = let rest = drop (length word) s in
    where_true (begins_with word s && list_any is_blank (take 1 rest)) (skip_blanks rest)

-- NAME[FLAG], and what follows it
abbrev pub flag_of_name : List ℕ → Option (List ℕ × List ℕ × List ℕ)
flag_of_name s = do
  n ← split_at_first open_bracket s
  f ← split_at_first close_bracket n.1
  where_true (is_name n.0 && is_flag f.0) (n.0, f.0, f.1)

-- A statement that a line fits, and how many inner quotes it has.
pub record Fit : Type 0 where
  pub statement : Statement
  pub inner : ℕ

abbrev pub plain_fit : Statement → Fit
plain_fit s = record { statement = s; inner = 0 }

-- NAME OP QUOTED. The name is the shortest that leaves an operator, the operator is then the longest, and there is no
-- going back (own rule).
abbrev pub assignment : Bool → List ℕ → Option Fit
assignment export s = do
  c ← find (λ c. is_name c.0 && is_some (operator c.1)) (cuts s)
  o ← operation c.1
  Some (record { statement = Assign export c.0 o.0 o.1.text; inner = o.1.inner })

-- NAME[FLAG] OP QUOTED ("Variable Flag Syntax")
abbrev pub flag_assignment : List ℕ → Option Fit
flag_assignment s = do
  n ← flag_of_name s
  o ← operation n.2
  Some (record { statement = Flag n.0 n.1 o.0 o.1.text; inner = o.1.inner })

-- the name behind a word
abbrev pub name_behind_word : List ℕ → List ℕ → Option (List ℕ)
name_behind_word word s = behind_word word s >>= λ n. where_true (is_name n) n

-- the word and NAME: `export NAME` ("Exporting Variables to the Environment"), `unset NAME` ("Unsetting variables")
abbrev pub with_name : List ℕ → (List ℕ → Statement) → List ℕ → Option Fit
with_name word make s = option_map (λ n. plain_fit (make n)) (name_behind_word word s)

-- unset NAME[FLAG]
abbrev pub flag_unset : List ℕ → Option Fit
flag_unset s = do
  rest ← behind_word (codes "unset") s
  n ← flag_of_name rest
  where_true (is_empty n.2) (plain_fit (UnsetFlag n.0 n.1))

-- the text behind a word, which has at least one character
abbrev pub text_behind_word : List ℕ → List ℕ → Option (List ℕ)
text_behind_word word s = behind_word word s >>= λ t. where_true (not (is_empty t)) t

-- the word and TEXT: `include`, `require` and `inherit` ("include Directive",
-- "require Directive", "inherit Directive")
abbrev pub with_text : List ℕ → (List ℕ → Statement) → List ℕ → Option Fit
with_text word make s = option_map (λ t. plain_fit (make t)) (text_behind_word word s)

-- the words behind a word, of which there is at least one
abbrev pub words_behind_word : List ℕ → List ℕ → Option (List (List ℕ))
words_behind_word word s = behind_word word s >>= λ t. where_true (not (is_empty (words t))) (words t)

-- the word and WORDS
abbrev pub with_words : List ℕ → (List (List ℕ) → Option Statement) → List ℕ → Option Fit
with_words word make s = words_behind_word word s >>= λ ws. make ws >>= λ statement. Some (plain_fit statement)

-- A task's name gets `do_` in front where it lacks it, and must then be a shell name of at most 255 bytes (own rule).
abbrev pub task_of : List ℕ → List ℕ
task_of w = if begins_with (codes "do_") w then w else codes "do_" ++ w

abbrev pub tasks : List (List ℕ) → Option (List (List ℕ))
tasks ws = let ts = map task_of ws in where_true (list_all (λ t. is_shell_name t && nat_le (length t) 255) ts) ts

abbrev pub is_part : List ℕ → Bool
is_part w = is_in w (codes "after" ∷ codes "before" ∷ [])

-- the words up to `after` or `before`
abbrev pub up_to_part : List (List ℕ) → List (List ℕ)
up_to_part ws = take_while (λ w. not (is_part w)) ws

-- the words of the part that this word begins; it stands at most once, and has at least one word (own rule)
abbrev pub part : List ℕ → List (List ℕ) → Option (List (List ℕ))
part word ws =
    let found = up_to_part (after_first (λ w. bytes_eq w word) ws) in
    let n = count_by (λ w. bytes_eq w word) ws in
    where_true (n == 0 || (n == 1 && not (is_empty found))) found

-- addtask WORDS [after WORDS] [before WORDS], the parts in either order ("Promoting a Function to a Task")
abbrev pub task_parts : List (List ℕ) → Option Statement
task_parts ws = do
  names ← where_true (not (is_empty (up_to_part ws))) (up_to_part ws)
  ns ← tasks names
  after ← part (codes "after") ws
  as_ ← tasks after
  before ← part (codes "before") ws
  bs ← tasks before
  Some (AddTask ns as_ bs)

-- deltask WORDS ("Deleting a Task"); here `after` and `before` are words like others
abbrev pub task_names : List (List ℕ) → Option Statement
task_names ws = tasks ws >>= λ ts. Some (DelTask ts)

-- NAME() {, with optional blanks before `(` and `{`, and the body's text ("Shell Functions")
abbrev pub function_head : List ℕ → List ℕ → Option Fit
function_head body s = do
  head ← without_opening s
  n ← where_true (is_name (without_end is_blank head)) (without_end is_blank head)
  Some (plain_fit (Function n body))

-- `export` and an assignment
abbrev pub exported_assignment : List ℕ → Option Fit
exported_assignment s = behind_word (codes "export") s >>= assignment true

-- the first form that fits, of those that give something to a name or its flag, assignments of names aside
abbrev pub later_value_forms_of : List ℕ → Option Fit
later_value_forms_of s = first_there (flag_assignment s
    ∷ with_name (codes "export") Export s
    ∷ with_name (codes "unset") Unset s
    ∷ flag_unset s
    ∷ [])

-- the first form that fits, of those that give something to a name
abbrev pub value_forms_of : List ℕ → Option Fit
value_forms_of s = first_of_two (assignment false s) (first_of_two (exported_assignment s) (later_value_forms_of s))

-- the first form that fits, of those with words behind a word of the language
abbrev pub word_forms_of : List ℕ → Option Fit
word_forms_of s = first_there (with_words (codes "EXPORT_FUNCTIONS") (λ ws. Some (ExportFunctions ws)) s
    ∷ with_words (codes "addtask") task_parts s
    ∷ with_words (codes "deltask") task_names s
    ∷ [])

-- the first form that fits, of those with a text or words behind a word of the language
abbrev pub directive_forms_of : List ℕ → Option Fit
directive_forms_of s = first_of_two (with_text (codes "include") Include s) (first_of_two (with_text (codes "require") Require s)
    (first_of_two (with_text (codes "inherit") Inherit s) (word_forms_of s)))

-- The statement of a line, whatever the file's kind: the first of these forms that the line fits, inner quotes aside.
-- A line that opens a body can be a function's head alone. Blanks before a line are skipped (own rules).
unfoldable pub fit_of : List ℕ → List ℕ → Option Fit
fit_of text body = let s = skip_blanks text in
    if opens_body text then function_head body s else first_of_two (value_forms_of s) (directive_forms_of s)
