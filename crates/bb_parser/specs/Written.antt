-- Which statements a text gives, and the text that is written of each.
use Rattle.std.specs.Prelude.{◌≡◌, ℕ, Bool, true, false, not, ◌&&◌, ◌||◌, List, [], ◌∷◌, ◌++◌, length, ◌-◌, ◌==◌, if◌then◌else◌, is_some, count_by, codes, bytes_eq, slice_index, Result, IfOk, IfErr}
use Rattle.std.specs.List.{list_all}
use Rattle.meta_model.specs.declared.entry.Op.{Op}
use Rattle.meta_model.specs.declared.entry.Op.TheVariants.{Set, Now, Soft, Weak, AddBlank, PutBlank, Add, Put}
use Rattle.meta_model.specs.declared.line.Kind.{Kind}
use Rattle.meta_model.specs.declared.statement.Statement.{Statement}
use Rattle.meta_model.specs.declared.statement.Statement.TheVariants.{Assign, Flag, Export, Unset, UnsetFlag, Include, Require, Inherit, Function, ExportFunctions, AddTask, DelTask}
use Rattle.meta_model.specs.Text.{newline, carriage_return, backslash, space, double_quote, single_quote, open_bracket, close_bracket, close_brace, is_blank, is_white, is_empty, begins_with, is_in, without_end}
use Rattle.meta_model.specs.Names.{is_name, is_flag, is_late}
use Rattle.meta_model.specs.Lines.{pieces, opens_body}
use Rattle.meta_model.specs.Grammar.{assignment}
use Rattle.meta_model.specs.Statements.{AreStatements, holds_python, is_reserved, is_weak}
use Rattle.bb_parser.specs.Tasks.{is_task_name}
use Rattle.bb_parser.specs.declared.fault.PrintFault.{PrintFault}
use Rattle.bb_parser.specs.declared.fault.PrintFault.TheVariants.{NoText}

-- no newline stands in it
abbrev pub is_one_line : List ℕ → Bool
is_one_line s = list_all (λ c. not (c == newline)) s

-- how often a character stands in a text
abbrev pub times_of : ℕ → List ℕ → ℕ
times_of q text = count_by (λ c. c == q) text

-- A name that a statement may give something to.
abbrev pub is_free_name : List ℕ → Bool
is_free_name name = is_name name && not (is_reserved name)

-- A text that can be quoted: it is one line, holds no `${@` that begins no form, and one of the two kinds of quote doesn't
-- stand in it exactly once.
abbrev pub is_quotable : List ℕ → Bool
is_quotable text = is_one_line text && not (holds_python text) && not (times_of double_quote text == 1 && times_of single_quote text == 1)

-- its first character is no blank, and it has one
abbrev pub begins_unblank : List ℕ → Bool
begins_unblank [] = false
begins_unblank (c ∷ cs) = not (is_blank c)

-- a word, a blank and a text
abbrev pub line_of_text : List ℕ → List ℕ → List ℕ
line_of_text word text = word ++ space ∷ text

-- A text that can stand behind a word: it is one line, holds no `${@` that begins no form, begins with a character that is no
-- blank, and the line of the word and the text is no assignment and opens no body.
abbrev pub can_follow : List ℕ → List ℕ → Bool
can_follow word text = begins_unblank text && is_one_line text && not (holds_python text)
    && not (is_some (assignment false (line_of_text word text))) && not (opens_body (line_of_text word text))

-- what is dropped at the end of a line
abbrev pub is_dropped : ℕ → Bool
is_dropped c = is_blank c || c == carriage_return

-- A line of a body: nothing is dropped at its end, and it isn't `}` alone.
abbrev pub is_body_line : List ℕ → Bool
is_body_line p = bytes_eq (without_end is_dropped p) p && not (bytes_eq p (codes "}"))

-- it has nothing, or ends with a newline
abbrev pub ends_line : List ℕ → Bool
ends_line [] = true
ends_line (c ∷ cs) = if is_empty cs then c == newline else ends_line cs

-- whole lines, each of which can stand in a body
abbrev pub are_whole_lines : List ℕ → Bool
are_whole_lines body = ends_line body && list_all is_body_line (pieces body)

-- The text of a body: whole lines that hold no `${@` which begins no form.
abbrev pub is_body_text : List ℕ → Bool
is_body_text body = are_whole_lines body && not (holds_python body)

-- words that begin a line of Python
abbrev pub is_python_name : List ℕ → Bool
is_python_name name = is_in name (codes "python" ∷ codes "def" ∷ codes "addhandler" ∷ [])

-- a word: it has a character, and no white space
abbrev pub is_word : List ℕ → Bool
is_word w = not (is_empty w) && list_all (λ c. not (is_white c)) w

-- the name of a task as a statement has it
abbrev pub is_task : List ℕ → Bool
is_task t = begins_with (codes "do_") t && is_task_name t

-- Whether the statement can be written: no more and no less than whether some file has it (which is proved).
abbrev pub can_be_written : Statement → Bool
can_be_written (Assign export name op text) = is_free_name name && is_quotable text && not (is_weak op && is_late name)
can_be_written (Flag name f op text) = is_free_name name && is_flag f && is_quotable text
can_be_written (Export name) = is_free_name name
can_be_written (Unset name) = is_free_name name
can_be_written (UnsetFlag name f) = is_free_name name && is_flag f
can_be_written (Include path) = can_follow (codes "include") path
can_be_written (Require path) = can_follow (codes "require") path
can_be_written (Inherit names) = can_follow (codes "inherit") names
can_be_written (Function name body) = is_free_name name && not (is_python_name name) && is_body_text body
can_be_written (ExportFunctions names) = not (is_empty names) && list_all is_word names
can_be_written (AddTask names after before) = not (is_empty names) && list_all is_task names && list_all is_task after && list_all is_task before
can_be_written (DelTask names) = not (is_empty names) && list_all is_task names

-- The text that is written of a statement: its line, and of a function its body and the closing `}`.
abbrev pub operator_text : Op → List ℕ
operator_text Set = codes "="
operator_text Now = codes ":="
operator_text Soft = codes "?="
operator_text Weak = codes "??="
operator_text AddBlank = codes "+="
operator_text PutBlank = codes "=+"
operator_text Add = codes ".="
operator_text Put = codes "=."

-- the quote that a text is put in
abbrev pub quote_of : List ℕ → ℕ
quote_of text = if times_of double_quote text == 1 then single_quote else double_quote

abbrev pub operation_text : Op → List ℕ → List ℕ
operation_text op text = operator_text op ++ (space ∷ (quote_of text ∷ (text ++ quote_of text ∷ [])))

-- a name that a line can't begin with where a blank follows
abbrev pub is_refused_name : List ℕ → Bool
is_refused_name name = is_python_name name || bytes_eq name (codes "fakeroot")

abbrev pub export_text : Bool → List ℕ
export_text true = codes "export "
export_text false = []

-- what stands between the name and the operator
abbrev pub gap_text : Bool → List ℕ → List ℕ
gap_text true name = space ∷ []
gap_text false name = if is_refused_name name then [] else space ∷ []

abbrev pub assignment_text : Bool → List ℕ → Op → List ℕ → List ℕ
assignment_text export name op text = export_text export ++ (name ++ (gap_text export name ++ operation_text op text))

abbrev pub name_and_flag_text : List ℕ → List ℕ → List ℕ
name_and_flag_text name f = name ++ (open_bracket ∷ (f ++ close_bracket ∷ []))

abbrev pub flag_text : List ℕ → List ℕ → Op → List ℕ → List ℕ
flag_text name f op text = name ++ (open_bracket ∷ (f ++ (close_bracket ∷ (space ∷ operation_text op text))))

-- words, each behind a blank
abbrev pub words_text : List (List ℕ) → List ℕ
words_text [] = []
words_text (w ∷ ws) = space ∷ (w ++ words_text ws)

-- The words behind `EXPORT_FUNCTIONS`. Where the line would be an assignment or open a body, a carriage return in front,
-- which is white space and no blank, and a blank at the end keep it from that.
abbrev pub exports_text : List (List ℕ) → List ℕ
exports_text names = let line = codes "EXPORT_FUNCTIONS" ++ words_text names in
    if is_some (assignment false line) || opens_body line then codes "EXPORT_FUNCTIONS \r" ++ (words_text names ++ space ∷ []) else line

-- a part of `addtask`, where it has words
abbrev pub part_words : List ℕ → List (List ℕ) → List (List ℕ)
part_words word [] = []
part_words word (t ∷ ts) = word ∷ t ∷ ts

abbrev pub task_words : List (List ℕ) → List (List ℕ) → List (List ℕ) → List (List ℕ)
task_words names after before = names ++ (part_words (codes "after") after ++ part_words (codes "before") before)

abbrev pub function_text : List ℕ → List ℕ
function_text name = name ++ codes "() {"

-- whether the end of a line would be dropped, or would join the line with the next
abbrev pub needs_join : List ℕ → Bool
needs_join line = let c = slice_index line (length line - 1) in is_dropped c || c == backslash

-- the line as it stands in a file
abbrev pub whole_line : List ℕ → List ℕ
whole_line line = if needs_join line then line ++ (backslash ∷ newline ∷ newline ∷ []) else line ++ newline ∷ []

abbrev pub text_of : Statement → List ℕ
text_of (Assign export name op text) = whole_line (assignment_text export name op text)
text_of (Flag name f op text) = whole_line (flag_text name f op text)
text_of (Export name) = whole_line (line_of_text (codes "export") name)
text_of (Unset name) = whole_line (line_of_text (codes "unset") name)
text_of (UnsetFlag name f) = whole_line (line_of_text (codes "unset") (name_and_flag_text name f))
text_of (Include path) = whole_line (line_of_text (codes "include") path)
text_of (Require path) = whole_line (line_of_text (codes "require") path)
text_of (Inherit names) = whole_line (line_of_text (codes "inherit") names)
text_of (Function name body) = function_text name ++ newline ∷ (body ++ close_brace ∷ newline ∷ [])
text_of (ExportFunctions names) = whole_line (exports_text names)
text_of (AddTask names after before) = whole_line (codes "addtask" ++ words_text (task_words names after before))
text_of (DelTask names) = whole_line (codes "deltask" ++ words_text names)

-- the statement can be written, and this is what is written; or memory ran out
abbrev pub Writes : Result (List ℕ) PrintFault → Bool → List ℕ → Type 0
Writes made can text = IfOk made (λ t. (can ≡ true) × (t ≡ text))

-- it can't be written, or memory ran out
abbrev pub Refuses : Result (List ℕ) PrintFault → Bool → Type 0
Refuses made can = IfErr made (λ e. e ≡ NoText → can ≡ false)

-- No file has the statement, wherever it may stand.
abbrev pub IsNowhere : Statement → Type 0
IsNowhere s = (kind : Kind) (bytes : List ℕ) (before after : List (ℕ × Statement)) (n : ℕ) → AreStatements kind bytes (before ++ (n, s) ∷ after) → ⊥
