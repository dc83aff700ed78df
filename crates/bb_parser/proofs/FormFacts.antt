-- The first form that a line fits, part by part.
use Rattle.std.proofs.Common.{◌≡◌, ℕ, true, false, List, refl, sym, ap, ◌∙◌, Option, Some, None, option_map}
use Rattle.meta_model.specs.declared.statement.Statement.{Statement}
use Rattle.meta_model.specs.Text.{skip_blanks}
use Rattle.meta_model.specs.Lines.{opens_body}
use Rattle.meta_model.specs.Grammar.{Fit, ◌>>=◌, plain_fit, first_of_two, function_head, fit_of, with_name, with_text, with_words, value_forms_of, directive_forms_of, name_behind_word, text_behind_word, words_behind_word}

-- the first form of a body's head
pub fit_of-opens : (text body : List ℕ) → opens_body text ≡ true → fit_of text body ≡ function_head body (skip_blanks text)
unfolding fit_of
fit_of-opens text body e = rw e refl

pub two_lists : (text body : List ℕ) → opens_body text ≡ false → fit_of text body ≡ first_of_two (value_forms_of (skip_blanks text)) (directive_forms_of (skip_blanks text))
unfolding fit_of
two_lists text body e = rw e refl

pub fit_of-value : (text body : List ℕ) (f : Fit) → opens_body text ≡ false → value_forms_of (skip_blanks text) ≡ Some f → fit_of text body ≡ Some f
fit_of-value text body f e t = two_lists text body e ∙ ap (λ x. first_of_two x (directive_forms_of (skip_blanks text))) t

pub fit_of-directive : (text body : List ℕ) → opens_body text ≡ false → value_forms_of (skip_blanks text) ≡ None → fit_of text body ≡ directive_forms_of (skip_blanks text)
fit_of-directive text body e t = two_lists text body e ∙ ap (λ x. first_of_two x (directive_forms_of (skip_blanks text))) t

pub name-some : (word s : List ℕ) (make : List ℕ → Statement) (o : Option (List ℕ)) (t : List ℕ) (f : Fit) → o ≡ name_behind_word word s → o ≡ Some t → f ≡ plain_fit (make t) → with_name word make s ≡ Some f
name-some word s make o t f h e k = (ap (option_map (λ t. plain_fit (make t))) (sym h ∙ e) ∙ ap Some (sym k))

pub name-none : (word s : List ℕ) (make : List ℕ → Statement) (o : Option (List ℕ)) → o ≡ name_behind_word word s → o ≡ None → with_name word make s ≡ None
name-none word s make o h e = ap (option_map (λ t. plain_fit (make t))) (sym h ∙ e)

pub text-some : (word s : List ℕ) (make : List ℕ → Statement) (o : Option (List ℕ)) (t : List ℕ) (f : Fit) → o ≡ text_behind_word word s → o ≡ Some t → f ≡ plain_fit (make t) → with_text word make s ≡ Some f
text-some word s make o t f h e k = (ap (option_map (λ t. plain_fit (make t))) (sym h ∙ e) ∙ ap Some (sym k))

pub text-none : (word s : List ℕ) (make : List ℕ → Statement) (o : Option (List ℕ)) → o ≡ text_behind_word word s → o ≡ None → with_text word make s ≡ None
text-none word s make o h e = ap (option_map (λ t. plain_fit (make t))) (sym h ∙ e)

-- and so with words
pub words-some : (word s : List ℕ) (make : List (List ℕ) → Option Statement) (o : Option (List (List ℕ))) (ws : List (List ℕ)) (m : Option Statement) (st : Statement) (f : Fit) → o ≡ words_behind_word word s → o ≡ Some ws → m ≡ make ws → m ≡ Some st
    → f ≡ plain_fit st → with_words word make s ≡ Some f
words-some word s make o ws m st f h e k l i = (ap (λ x. x >>= λ ws. make ws >>= λ st. Some (plain_fit st)) (sym h ∙ e) ∙ (ap (λ x. x >>= λ st. Some (plain_fit st)) (sym k ∙ l) ∙ ap Some (sym i)))

pub words-none : (word s : List ℕ) (make : List (List ℕ) → Option Statement) (o : Option (List (List ℕ))) → o ≡ words_behind_word word s → o ≡ None → with_words word make s ≡ None
words-none word s make o h e = ap (λ x. x >>= λ ws. make ws >>= λ st. Some (plain_fit st)) (sym h ∙ e)
