-- The statements of a file, and its first fault.
use Rattle.std.specs.Prelude.{◌≡◌, ℕ, ◌⊎◌, Bool, true, false, not, ◌&&◌, ◌||◌, List, [], ◌∷◌, ◌++◌, Option, Some, None, is_some, drop, Result, Ok, Err, ◌==◌, if◌then◌else◌, codes, bytes_eq}
use Rattle.std.specs.List.{before_first}
use Rattle.meta_model.specs.declared.line.Kind.{Kind}
use Rattle.meta_model.specs.declared.line.Kind.TheVariants.{Conf, Recipe, Class}
use Rattle.meta_model.specs.declared.line.Line.{Line}
use Rattle.meta_model.specs.declared.line.Place.TheVariants.{Plain, Body, Close}
use Rattle.meta_model.specs.declared.line.SyntaxFault.{SyntaxFault}
use Rattle.meta_model.specs.declared.line.SyntaxFault.TheVariants.{Python, Fakeroot, OneInnerQuote, ReservedName, BadLine, OpenFunction}
use Rattle.meta_model.specs.declared.entry.Op.{Op}
use Rattle.meta_model.specs.declared.entry.Op.TheVariants.{Weak}
use Rattle.meta_model.specs.declared.statement.Statement.{Statement}
use Rattle.meta_model.specs.declared.statement.Statement.TheVariants.{Assign, Flag, Export, Unset, UnsetFlag, Include, Require, Inherit, Function, ExportFunctions, AddTask, DelTask}
use Rattle.meta_model.specs.Text.{newline, begins_with, close_brace, is_in, split_at_first, words}
use Rattle.meta_model.specs.Names.{first_part, is_late}
use Rattle.meta_model.specs.Lines.{OrFault, with_first, logical_lines, opens_body}
use Rattle.meta_model.specs.Forms.{form_of}
use Rattle.meta_model.specs.Grammar.{Fit, fit_of}

-- The first word of a line, or the empty text.
abbrev pub first_or_empty : List (List ℕ) → List ℕ
first_or_empty [] = []
first_or_empty (w ∷ ws) = w

abbrev pub first_word : List ℕ → List ℕ
first_word text = first_or_empty (words text)

-- Python is refused (own rule): a line whose first word is `python`, `def` or `addhandler`, also where a `(` follows at
-- once.
abbrev pub is_python_word : List ℕ → Bool
is_python_word text = is_in (before_first (λ c. c == 40) (first_word text)) (codes "python" ∷ codes "def" ∷ codes "addhandler" ∷ [])

-- A form stands at the front, up to the first brace that closes.
abbrev pub is_form : Option (List ℕ × List ℕ) → Bool
is_form None = false
is_form (Some cut) = is_some (form_of (drop 2 cut.0))

abbrev pub begins_form : List ℕ → Bool
begins_form s = begins_with (codes "${") s && is_form (split_at_first close_brace s)

-- ... and a quoted text, a body, or the text of `include`, `require` or `inherit` that holds a `${@` which begins no form.
abbrev pub holds_python : List ℕ → Bool
holds_python [] = false
holds_python (c ∷ cs) = (begins_with (codes "${@") (c ∷ cs) && not (begins_form (c ∷ cs))) || holds_python cs

abbrev pub statement_holds_python : Statement → Bool
statement_holds_python (Assign export name op text) = holds_python text
statement_holds_python (Flag name f op text) = holds_python text
statement_holds_python (Include path) = holds_python path
statement_holds_python (Require path) = holds_python path
statement_holds_python (Inherit names) = holds_python names
statement_holds_python _ = false

abbrev pub is_python : List ℕ → List ℕ → Option Fit → Bool
is_python text body None = is_python_word text || holds_python body
is_python text body (Some fit) = is_python_word text || holds_python body || statement_holds_python fit.statement

-- Fakeroot is refused (own rule): a line whose first word is `fakeroot`.
abbrev pub is_fakeroot : List ℕ → Bool
is_fakeroot text = bytes_eq (first_word text) (codes "fakeroot")

-- Exactly one inner quote of the kind that ends the text is refused; other numbers are kept (own rule).
abbrev pub has_one_inner_quote : Option Fit → Bool
has_one_inner_quote None = false
has_one_inner_quote (Some fit) = fit.inner == 1

-- WORKDIR, DEPSDIR and FILESDIR are set by the program: a name that is one of them up to its first colon is refused where
-- it is assigned, flagged, exported, unset or given a function (own rule).
abbrev pub is_reserved : List ℕ → Bool
is_reserved name = is_in (first_part name) (codes "WORKDIR" ∷ codes "DEPSDIR" ∷ codes "FILESDIR" ∷ [])

abbrev pub statement_is_reserved : Statement → Bool
statement_is_reserved (Assign export name op text) = is_reserved name
statement_is_reserved (Flag name f op text) = is_reserved name
statement_is_reserved (Export name) = is_reserved name
statement_is_reserved (Unset name) = is_reserved name
statement_is_reserved (UnsetFlag name f) = is_reserved name
statement_is_reserved (Function name body) = is_reserved name
statement_is_reserved _ = false

abbrev pub has_reserved_name : Option Fit → Bool
has_reserved_name None = false
has_reserved_name (Some fit) = statement_is_reserved fit.statement

abbrev pub is_class : Kind → Bool
is_class Conf = false
is_class Recipe = false
is_class Class = true

abbrev pub is_conf : Kind → Bool
is_conf Conf = true
is_conf Recipe = false
is_conf Class = false

abbrev pub is_weak : Op → Bool
is_weak Weak = true
is_weak _ = false

-- Functions, tasks and `inherit` stand in recipes and classes, EXPORT_FUNCTIONS in classes, the rest in every file; a
-- weak default has no late keyword in its name (own rule).
abbrev pub is_allowed : Kind → Statement → Bool
is_allowed kind (Assign export name op text) = not (is_weak op && is_late name)
is_allowed kind (Inherit names) = not (is_conf kind)
is_allowed kind (Function name body) = not (is_conf kind)
is_allowed kind (ExportFunctions names) = is_class kind
is_allowed kind (AddTask names after before) = not (is_conf kind)
is_allowed kind (DelTask names) = not (is_conf kind)
is_allowed kind _ = true

-- the statement of a fit, where nothing else is wrong
abbrev pub statement_of_fit : Kind → Bool → Option Fit → Result Statement SyntaxFault
statement_of_fit kind is_open None = Err BadLine
statement_of_fit kind is_open (Some fit) =
    if not (is_allowed kind fit.statement) then Err BadLine
    else (if is_open then Err OpenFunction
    else Ok fit.statement)

-- The statement of a logical line, or its first fault in this order. `body` is the text of the lines up to the `}`;
-- `is_open` says that the file ends before it.
unfoldable pub statement_of : Kind → List ℕ → List ℕ → Bool → Result Statement SyntaxFault
statement_of kind text body is_open = let fit = fit_of text body in
    if is_python text body fit then Err Python
    else (if is_fakeroot text then Err Fakeroot
    else (if has_one_inner_quote fit then Err OneInnerQuote
    else (if has_reserved_name fit then Err ReservedName
    else statement_of_fit kind is_open fit)))

-- A body's text: the body lines that stand at the front, each with a newline.
abbrev pub body_of : List Line → List ℕ
body_of [] = []
body_of (l ∷ ls) = elim (l.place) [ Plain ↦ [] | Body ↦ l.text ++ newline ∷ body_of ls | Close ↦ [] ]

-- The file ends in the body that stands at the front.
abbrev pub ends_in_body : List Line → Bool
ends_in_body [] = true
ends_in_body (l ∷ ls) = elim (l.place) [ Plain ↦ false | Body ↦ ends_in_body ls | Close ↦ false ]

abbrev pub with_statement : ℕ → Result Statement SyntaxFault → OrFault (List (ℕ × Statement)) → OrFault (List (ℕ × Statement))
with_statement n (Ok s) rest = with_first (n, s) rest
with_statement n (Err wrong) rest = Err (n, wrong)

-- The statements of the logical lines, each with its line's number; or the first fault, of the least line. A fault in a
-- body has the number of the function's head.
abbrev pub statements_of_lines : Kind → List Line → OrFault (List (ℕ × Statement))
statements_of_lines kind [] = Ok []
statements_of_lines kind (l ∷ ls) = elim (l.place) [
  | Plain ↦ with_statement l.number (statement_of kind l.text (body_of ls) (opens_body l.text && ends_in_body ls)) (statements_of_lines kind ls)
  | Body ↦ statements_of_lines kind ls
  | Close ↦ statements_of_lines kind ls
]

-- a fault of the lines comes before every fault of a statement (own rule)
abbrev pub of_lines : Kind → OrFault (List Line) → OrFault (List (ℕ × Statement))
of_lines kind (Ok ls) = statements_of_lines kind ls
of_lines kind (Err e) = Err e

-- the statements of a file, or its first fault
unfoldable pub statements : Kind → List ℕ → OrFault (List (ℕ × Statement))
statements kind bytes = of_lines kind (logical_lines bytes)

-- these are the statements of the file
abbrev pub AreStatements : Kind → List ℕ → List (ℕ × Statement) → Type 0
AreStatements kind bytes list = statements kind bytes ≡ Ok list

-- this is the first fault of the file
abbrev pub IsFirstFault : Kind → List ℕ → ℕ → SyntaxFault → Type 0
IsFirstFault kind bytes n wrong = statements kind bytes ≡ Err (n, wrong)

-- For each file either these are its statements, for one list alone, or this is its first fault, for one line and
-- one fault alone, and never both.
pub record HasOneMeaning (kind : Kind) (bytes : List ℕ) : Type 0 where
  pub some : ((list : List (ℕ × Statement)) × AreStatements kind bytes list) ⊎ ((n : ℕ) × (wrong : SyntaxFault) × IsFirstFault kind bytes n wrong)
  pub one_list : (a b : List (ℕ × Statement)) → AreStatements kind bytes a → AreStatements kind bytes b → a ≡ b
  pub one_fault : (m n : ℕ) (v w : SyntaxFault) → IsFirstFault kind bytes m v → IsFirstFault kind bytes n w → (m ≡ n) × (v ≡ w)
  pub not_both : (a : List (ℕ × Statement)) (n : ℕ) (w : SyntaxFault) → AreStatements kind bytes a → IsFirstFault kind bytes n w → ⊥
