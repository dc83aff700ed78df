-- What a fault of the lexer says of the file.
use Rattle.std.specs.Prelude.{◌≡◌, ℕ, Err}
use Rattle.meta_model.specs.Lines.{OrFault}
use Rattle.meta_model.specs.declared.line.SyntaxFault.TheVariants as syntax
use Rattle.bb_lexer.specs.declared.fault.LexKind.{LexKind}
use Rattle.bb_lexer.specs.declared.fault.LexKind.TheVariants.{NotUtf8, DanglingJoin, CommentInJoin, Memory}
use Rattle.bb_lexer.specs.declared.fault.LexFault.{LexFault}

-- Memory ran out, at no line.
abbrev pub IsWantOfMemory : LexFault → Type 0
IsWantOfMemory fault = fault ≡ record { line = 0; kind = Memory }

-- A fault of this kind at line n is what was found. Of want of memory nothing is claimed but that it has no line.
abbrev pub IsKindOf : {A : Type 0} → LexKind → ℕ → OrFault A → Type 0
IsKindOf NotUtf8 n found = found ≡ Err (n, syntax.NotUtf8)
IsKindOf DanglingJoin n found = found ≡ Err (n, syntax.DanglingJoin)
IsKindOf CommentInJoin n found = found ≡ Err (n, syntax.CommentInJoin)
IsKindOf Memory n found = n ≡ 0

-- The fault is what was found, with its line, unless memory ran out.
abbrev pub IsFaultOf : {A : Type 0} → LexFault → OrFault A → Type 0
IsFaultOf fault found = IsKindOf fault.kind fault.line found
