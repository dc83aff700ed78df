-- The statement of a line, fault by fault.
use Rattle.std.proofs.Common.{◌≡◌, ℕ, Bool, true, false, cond, not, List, refl, sym, ap, ◌∙◌, Option, Some, None, Result, Ok, Err}
use Rattle.std.specs.Prelude.{IfOk, IfErr}
use Rattle.meta_model.specs.declared.line.Kind.{Kind}
use Rattle.meta_model.specs.declared.line.SyntaxFault.{SyntaxFault}
use Rattle.meta_model.specs.declared.line.SyntaxFault.TheVariants as wrong
use Rattle.meta_model.specs.declared.statement.Statement.{Statement}
use Rattle.meta_model.specs.Grammar.{Fit, fit_of}
use Rattle.meta_model.specs.Statements.{statement_of, statement_of_fit, is_python, is_fakeroot, has_one_inner_quote, has_reserved_name, is_allowed}
use Rattle.bb_parser.specs.declared.fault.ParseKind.{ParseKind}
use Rattle.bb_parser.specs.declared.fault.ParseKind.TheVariants as parsed
use Rattle.bb_parser.specs.Faults.{IsKindOf}
use Rattle.bb_parser.specs.LineFaults.{text_fault, place_fault}

-- what is told of a line of which these hold, and what is found
abbrev told : Bool → Bool → Bool → Bool → Option ParseKind
told p f q r = cond p (Some parsed.Python) (cond f (Some parsed.Fakeroot) (cond q (Some parsed.OneInnerQuote) (cond r (Some parsed.ReservedName) None)))

abbrev found : Bool → Bool → Bool → Bool → Result Statement SyntaxFault → Result Statement SyntaxFault
found p f q r rest = cond p (Err wrong.Python) (cond f (Err wrong.Fakeroot) (cond q (Err wrong.OneInnerQuote) (cond r (Err wrong.ReservedName) rest)))

told-is : (p f q r : Bool) (rest : Result Statement SyntaxFault) (k : ParseKind) → told p f q r ≡ Some k → IsKindOf k (found p f q r rest)
told-is true f q r rest k e = let h : parsed.Python ≡ k = cc in rw (← h) refl
told-is false true q r rest k e = let h : parsed.Fakeroot ≡ k = cc in rw (← h) refl
told-is false false true r rest k e = let h : parsed.OneInnerQuote ≡ k = cc in rw (← h) refl
told-is false false false true rest k e = let h : parsed.ReservedName ≡ k = cc in rw (← h) refl
told-is false false false false rest k e = cc

told-none : (p f q r : Bool) (rest : Result Statement SyntaxFault) → told p f q r ≡ None → found p f q r rest ≡ rest
told-none true f q r rest e = cc
told-none false true q r rest e = cc
told-none false false true r rest e = cc
told-none false false false true rest e = cc
told-none false false false false rest e = refl

-- a fault of the text is the line's, and where it has none the fit decides
pub of_text : (kind : Kind) (text body : List ℕ) (o : Bool) (fit : Option Fit) (k : ParseKind) → fit_of text body ≡ fit → text_fault text body fit ≡ Some k → IsKindOf k (statement_of kind text body o)
unfolding statement_of
of_text kind text body o fit k e t = rw e (told-is (is_python text body fit) (is_fakeroot text) (has_one_inner_quote fit) (has_reserved_name fit) (statement_of_fit kind o fit) k t)

pub of_rest : (kind : Kind) (text body : List ℕ) (o : Bool) (fit : Option Fit) → fit_of text body ≡ fit → text_fault text body fit ≡ None → statement_of kind text body o ≡ statement_of_fit kind o fit
unfolding statement_of
of_rest kind text body o fit e t = rw e (told-none (is_python text body fit) (is_fakeroot text) (has_one_inner_quote fit) (has_reserved_name fit) (statement_of_fit kind o fit) t)

-- a statement at its place
placed : (a o : Bool) (s : Statement) → cond (not a) (Some parsed.BadLine) (cond o (Some parsed.OpenFunction) None) ≡ None → cond (not a) (Err wrong.BadLine) (cond o (Err wrong.OpenFunction) (Ok s)) ≡ Ok s
placed true true s e = cc
placed true false s e = refl
placed false o s e = cc

misplaced : (a o : Bool) (s : Statement) (k : ParseKind) → cond (not a) (Some parsed.BadLine) (cond o (Some parsed.OpenFunction) None) ≡ Some k → IsKindOf k (cond (not a) (Err wrong.BadLine) (cond o (Err wrong.OpenFunction) (Ok s)))
misplaced true true s k e = let h : parsed.OpenFunction ≡ k = cc in rw (← h) refl
misplaced true false s k e = cc
misplaced false o s k e = let h : parsed.BadLine ≡ k = cc in rw (← h) refl

pub of_placed : (kind : Kind) (o : Bool) (fit : Fit) → place_fault kind o fit.statement ≡ None → statement_of_fit kind o (Some fit) ≡ Ok fit.statement
of_placed kind o fit e = placed (is_allowed kind fit.statement) o fit.statement e

pub of_misplaced : (kind : Kind) (o : Bool) (fit : Fit) (k : ParseKind) → place_fault kind o fit.statement ≡ Some k → IsKindOf k (statement_of_fit kind o (Some fit))
of_misplaced kind o fit k e = misplaced (is_allowed kind fit.statement) o fit.statement k e

pub placed_ok : (kind : Kind) (o : Bool) (fit : Fit) (made : Result Statement ParseKind) → IfOk made (λ s. (place_fault kind o fit.statement ≡ None) × (s ≡ fit.statement)) → IfOk made (λ s. statement_of_fit kind o (Some fit) ≡ Ok s)
placed_ok kind o fit (Ok s) h = of_placed kind o fit h.0 ∙ ap Ok (sym h.1)
placed_ok kind o fit (Err e) h = h

pub placed_err : (kind : Kind) (o : Bool) (fit : Fit) (made : Result Statement ParseKind) → IfErr made (λ e. place_fault kind o fit.statement ≡ Some e) → IfErr made (λ e. IsKindOf e (statement_of_fit kind o (Some fit)))
placed_err kind o fit (Ok s) h = h
placed_err kind o fit (Err e) h = of_misplaced kind o fit e h
