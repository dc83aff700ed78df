-- A file has one meaning.
use Rattle.std.proofs.Common.{◌≡◌, ℕ, List, ◌⊎◌, inl, inr, refl, ap, Ok, Err}
use Rattle.meta_model.specs.declared.line.Kind.{Kind}
use Rattle.meta_model.specs.declared.line.SyntaxFault.{SyntaxFault}
use Rattle.meta_model.specs.declared.statement.Statement.{Statement}
use Rattle.meta_model.specs.Lines.{OrFault}
use Rattle.meta_model.specs.Statements.{HasOneMeaning, statements}

-- what is found or a fault is one of the two
either : (r : OrFault (List (ℕ × Statement))) → ((list : List (ℕ × Statement)) × (r ≡ Ok list)) ⊎ ((n : ℕ) × (wrong : SyntaxFault) × (r ≡ Err (n, wrong)))
either (Ok list) = inl (list, refl)
either (Err e) = inr (e.0, e.1, refl)

-- one list alone
same_list : (r : OrFault (List (ℕ × Statement))) (a b : List (ℕ × Statement)) → r ≡ Ok a → r ≡ Ok b → a ≡ b
same_list r a b h k = cc

-- one fault alone
same_fault : (r : OrFault (List (ℕ × Statement))) (m n : ℕ) (v w : SyntaxFault) → r ≡ Err (m, v) → r ≡ Err (n, w) → (m ≡ n) × (v ≡ w)
same_fault r m n v w h k = let e : ◌≡◌ {A = ℕ × SyntaxFault} (m, v) (n, w) = cc in (ap (λ (p : ℕ × SyntaxFault). p.0) e, ap (λ (p : ℕ × SyntaxFault). p.1) e)

-- never both
neither : (r : OrFault (List (ℕ × Statement))) (a : List (ℕ × Statement)) (n : ℕ) (w : SyntaxFault) → r ≡ Ok a → r ≡ Err (n, w) → ⊥
neither r a n w h k = cc

-- each file has one meaning
pub has_one_meaning : (kind : Kind) (bytes : List ℕ) → HasOneMeaning kind bytes
has_one_meaning kind bytes = let r = statements kind bytes in
    record { some = either r; one_list = same_list r; one_fault = same_fault r; not_both = neither r }
