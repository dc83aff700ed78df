-- What is wrong with a line, in the order in which its faults are told.
use Rattle.std.specs.Prelude.{if◌then◌else◌, ℕ, Bool, not, List, Option, Some, None}
use Rattle.meta_model.specs.declared.line.Kind.{Kind}
use Rattle.meta_model.specs.declared.statement.Statement.{Statement}
use Rattle.meta_model.specs.Grammar.{Fit}
use Rattle.meta_model.specs.Statements.{is_python, is_fakeroot, has_one_inner_quote, has_reserved_name, is_allowed}
use Rattle.bb_parser.specs.declared.fault.ParseKind.{ParseKind}
use Rattle.bb_parser.specs.declared.fault.ParseKind.TheVariants.{BadLine, OpenFunction, Python, Fakeroot, ReservedName, OneInnerQuote}

-- what is wrong with a line that may have this fit, whatever the kind of the file
abbrev pub text_fault : List ℕ → List ℕ → Option Fit → Option ParseKind
text_fault text body fit =
    if is_python text body fit then Some Python
    else (if is_fakeroot text then Some Fakeroot
    else (if has_one_inner_quote fit then Some OneInnerQuote
    else (if has_reserved_name fit then Some ReservedName
    else None)))

-- what is wrong where a statement stands in a file of this kind
abbrev pub place_fault : Kind → Bool → Statement → Option ParseKind
place_fault kind is_open s =
    if not (is_allowed kind s) then Some BadLine
    else (if is_open then Some OpenFunction
    else None)
