-- Lines, one after another.
use Rattle.std.proofs.Common.{◌≡◌, ℕ, suc, ◌+◌, ◌<◌, Bool, true, false, List, [], ◌∷◌, ◌++◌, length, drop, get_or, refl, sym, ap, ◌∙◌, Ok, Err, add-one, drop-cons}
use Rattle.meta_model.specs.declared.line.Kind.{Kind}
use Rattle.meta_model.specs.declared.line.Line.{Line}
use Rattle.meta_model.specs.declared.line.Place.{Place}
use Rattle.meta_model.specs.declared.line.Place.TheVariants.{Plain, Body, Close}
use Rattle.meta_model.specs.declared.line.SyntaxFault.{SyntaxFault}
use Rattle.meta_model.specs.Text.{newline}
use Rattle.meta_model.specs.Lines.{logical_lines}
use Rattle.meta_model.specs.Statements.{body_of, ends_in_body, statements_of_lines, of_lines, statements}
use Rattle.bb_lexer.specs.declared.LexKind.{LexKind}
use Rattle.bb_lexer.specs.declared.LexKind.TheVariants.{NotUtf8, DanglingJoin, CommentInJoin, Memory}
use Rattle.bb_lexer.specs.declared.LexFault.{LexFault}
use Rattle.bb_lexer.specs.Faults.{IsFaultOf as IsLexFaultOf}
use Rattle.bb_parser.specs.declared.fault.ParseFault.{ParseFault}
use Rattle.bb_parser.specs.Faults.{IsFaultOf}
use Rattle.bb_parser.specs.Reading.{kind_of_lines, is_body}

-- the line at a place, and those that follow it
pub line-and-rest : (ls : List Line) (i : ℕ) (l : Line) → i < length ls → l ≡ get_or ls i l → drop i ls ≡ l ∷ drop (i + 1) ls
line-and-rest ls i l h e = rw add-one (drop-cons ls i l h ∙ ap (λ x. x ∷ drop (suc i) ls) (sym e))

body-goes : (p : Place) (t b : List ℕ) → is_body p ≡ true → ◌≡◌ {A = List ℕ} (elim p [ Plain ↦ [] | Body ↦ t ++ newline ∷ b | Close ↦ [] ]) (t ++ newline ∷ b)
body-goes Plain t b e = cc
body-goes Body t b e = refl
body-goes Close t b e = cc

body-ends : (p : Place) (t b : List ℕ) → is_body p ≡ false → ◌≡◌ {A = List ℕ} (elim p [ Plain ↦ [] | Body ↦ t ++ newline ∷ b | Close ↦ [] ]) []
body-ends Plain t b e = refl
body-ends Body t b e = cc
body-ends Close t b e = refl

-- a line of the body, and the end of a body
pub body_of-next : (l : Line) (ls : List Line) → is_body l.place ≡ true → body_of (l ∷ ls) ≡ l.text ++ newline ∷ body_of ls
body_of-next l ls e = body-goes l.place l.text (body_of ls) e

pub body_of-end : (l : Line) (ls : List Line) → is_body l.place ≡ false → body_of (l ∷ ls) ≡ []
body_of-end l ls e = body-ends l.place l.text (body_of ls) e

end-goes : (p : Place) (b : Bool) → is_body p ≡ true → ◌≡◌ {A = Bool} (elim p [ Plain ↦ false | Body ↦ b | Close ↦ false ]) b
end-goes Plain b e = cc
end-goes Body b e = refl
end-goes Close b e = cc

end-ends : (p : Place) (b : Bool) → is_body p ≡ false → ◌≡◌ {A = Bool} (elim p [ Plain ↦ false | Body ↦ b | Close ↦ false ]) false
end-ends Plain b e = refl
end-ends Body b e = cc
end-ends Close b e = refl

pub ends_in_body-next : (l : Line) (ls : List Line) → is_body l.place ≡ true → ends_in_body (l ∷ ls) ≡ ends_in_body ls
ends_in_body-next l ls e = end-goes l.place (ends_in_body ls) e

pub ends_in_body-end : (l : Line) (ls : List Line) → is_body l.place ≡ false → ends_in_body (l ∷ ls) ≡ false
ends_in_body-end l ls e = end-ends l.place (ends_in_body ls) e

-- the lines of a file give its statements
pub statements-lines : (kind : Kind) (bytes : List ℕ) (ls : List Line) → logical_lines bytes ≡ Ok ls → statements kind bytes ≡ statements_of_lines kind ls
unfolding statements
statements-lines kind bytes ls e = ap (of_lines kind) e

statements-fault : (kind : Kind) (bytes : List ℕ) (n : ℕ) (w : SyntaxFault) → logical_lines bytes ≡ Err (n, w) → statements kind bytes ≡ Err (n, w)
unfolding statements
statements-fault kind bytes n w e = ap (of_lines kind) e

by_kind : (kind : Kind) (bytes : List ℕ) (n : ℕ) (k : LexKind) (f : ParseFault) → f.line ≡ n → f.kind ≡ kind_of_lines k → IsLexFaultOf (record { line = n; kind = k }) (logical_lines bytes) → IsFaultOf f (statements kind bytes)
by_kind kind bytes n NotUtf8 f e t h = rw (t, e) (statements-fault kind bytes n _ h)
by_kind kind bytes n DanglingJoin f e t h = rw (t, e) (statements-fault kind bytes n _ h)
by_kind kind bytes n CommentInJoin f e t h = rw (t, e) (statements-fault kind bytes n _ h)
by_kind kind bytes n Memory f e t h = rw (t, e) h

-- a fault of the lines is the file's
pub fault_of_lexer : (kind : Kind) (bytes : List ℕ) (x : LexFault) (f : ParseFault) → f.line ≡ x.line → f.kind ≡ kind_of_lines x.kind → IsLexFaultOf x (logical_lines bytes) → IsFaultOf f (statements kind bytes)
fault_of_lexer kind bytes x f e t h = by_kind kind bytes x.line x.kind f e t h
