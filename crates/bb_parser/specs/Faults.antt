-- Faults as the parser answers them, against those of the definitions.
use Rattle.std.specs.Prelude.{◌≡◌, ℕ, Option, Some, None, Result, Err, MatchOption}
use Rattle.meta_model.specs.declared.line.SyntaxFault.{SyntaxFault}
use Rattle.meta_model.specs.declared.line.SyntaxFault.TheVariants as wrong
use Rattle.meta_model.specs.Lines.{OrFault}
use Rattle.bb_parser.specs.declared.fault.ParseKind.{ParseKind}
use Rattle.bb_parser.specs.declared.fault.ParseKind.TheVariants.{BadLine, OpenFunction, Python, Fakeroot, ReservedName, OneInnerQuote, NotUtf8, DanglingJoin, CommentInJoin, Memory}
use Rattle.bb_parser.specs.declared.fault.ParseFault.{ParseFault}

-- the fault of the definitions that a kind is; want of memory is none
abbrev pub named : ParseKind → Option SyntaxFault
named BadLine = Some wrong.BadLine
named OpenFunction = Some wrong.OpenFunction
named Python = Some wrong.Python
named Fakeroot = Some wrong.Fakeroot
named ReservedName = Some wrong.ReservedName
named OneInnerQuote = Some wrong.OneInnerQuote
named NotUtf8 = Some wrong.NotUtf8
named DanglingJoin = Some wrong.DanglingJoin
named CommentInJoin = Some wrong.CommentInJoin
named Memory = None

-- This is the fault that is found, at its line. Want of memory says nothing of what is found, and has no line.
abbrev pub IsFaultOf : {A : Type 0} → ParseFault → OrFault A → Type 0
IsFaultOf fault found = MatchOption (named fault.kind) (fault.line ≡ 0) (λ w. found ≡ Err (fault.line, w))

-- the fault of one line, where its number is left aside
abbrev pub IsKindOf : {A : Type 0} → ParseKind → Result A SyntaxFault → Type 0
IsKindOf kind found = MatchOption (named kind) (Unit {0}) (λ w. found ≡ Err w)

-- memory ran out
abbrev pub is_memory : ParseFault → Type 0
is_memory fault = (fault.kind ≡ Memory) × (fault.line ≡ 0)

-- the line of a fault; want of memory has none
abbrev pub line_of_kind : ℕ → ParseKind → ℕ
line_of_kind line Memory = 0
line_of_kind line _ = line

-- the fault of one line, at its number
abbrev pub IsFaultAt : {A : Type 0} → ParseFault → ℕ → Result A SyntaxFault → Type 0
IsFaultAt fault line found = MatchOption (named fault.kind) (fault.line ≡ 0) (λ w. (fault.line ≡ line) × (found ≡ Err w))
