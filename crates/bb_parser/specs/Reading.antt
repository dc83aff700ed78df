-- The statement of a line among the lines that follow it, and the faults of lines as the parser's.
use Rattle.std.specs.Prelude.{ℕ, Bool, true, false, List, Result, Ok, Err, ◌&&◌, ◌++◌}
use Rattle.meta_model.specs.declared.line.Kind.{Kind}
use Rattle.meta_model.specs.declared.line.Line.{Line}
use Rattle.meta_model.specs.declared.line.Place.{Place}
use Rattle.meta_model.specs.declared.line.Place.TheVariants.{Plain, Body, Close}
use Rattle.meta_model.specs.declared.line.SyntaxFault.{SyntaxFault}
use Rattle.meta_model.specs.declared.statement.Statement.{Statement}
use Rattle.meta_model.specs.Lines.{opens_body, OrFault}
use Rattle.meta_model.specs.Statements.{statement_of, body_of, ends_in_body}
use Rattle.bb_lexer.specs.declared.LexKind.{LexKind}
use Rattle.bb_lexer.specs.declared.LexKind.TheVariants as lexed
use Rattle.bb_parser.specs.declared.fault.ParseKind.{ParseKind}
use Rattle.bb_parser.specs.declared.fault.ParseKind.TheVariants.{NotUtf8, DanglingJoin, CommentInJoin, Memory}

-- the statement of a line, or what is wrong with it, where these lines follow
abbrev pub statement_at : Kind → Line → List Line → Result Statement SyntaxFault
statement_at kind l ls = statement_of kind l.text (body_of ls) (opens_body l.text && ends_in_body ls)

-- the kind of fault that a fault of lines is
abbrev pub kind_of_lines : LexKind → ParseKind
kind_of_lines k = elim k [ lexed.NotUtf8 ↦ NotUtf8 | lexed.DanglingJoin ↦ DanglingJoin | lexed.CommentInJoin ↦ CommentInJoin | lexed.Memory ↦ Memory ]

-- the statements so far in front of what is found behind them
abbrev pub onto : List (ℕ × Statement) → OrFault (List (ℕ × Statement)) → OrFault (List (ℕ × Statement))
onto list (Ok more) = Ok (list ++ more)
onto list (Err e) = Err e

-- inside a body, and outside of bodies
abbrev pub is_body : Place → Bool
is_body Plain = false
is_body Body = true
is_body Close = false

abbrev pub is_plain : Place → Bool
is_plain Plain = true
is_plain Body = false
is_plain Close = false
