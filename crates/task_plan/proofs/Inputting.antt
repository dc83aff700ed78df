-- Input files, one after another.
use Rattle.std.proofs.Common.{◌≡◌, ◌∙◌, refl, sym, ap, ℕ, ◌+◌, ◌-◌, ◌<◌, List, [], ◌∷◌, ◌++◌, length, drop, take, get_or, Bool, true, false, Option, Some, None, Result, bytes_eq}
use Rattle.std.specs.List.{cons_option, flat_map}
use Rattle.std.proofs.lemmas.List.{drop_more, take_more, length-append, flat_map_more}
use Rattle.tree_model.specs.declared.entry.Entry.{Entry}
use Rattle.tree_model.specs.Tree.{entry_at, put}
use Rattle.load_model.specs.LoadRefusal.{◌>>=◌}
use Rattle.plan_model.specs.PlanRefusal.{PlanRefusal}
use Rattle.plan_model.specs.Inputs.{Files, Inputs, input_word, input_words, inputs_of}
use Rattle.task_plan.specs.declared.fault.PlanFault.{PlanFault}
use Rattle.task_plan.specs.Faults.{IsPlanFault}
use Rattle.task_plan.specs.Steps.{one_named, word_taken}
use Rattle.task_plan.proofs.Faulting.{plan_same, plan_on}

-- the tree of one file holds just that
pub one_held : (name : List ℕ) (e : Entry) (q : List ℕ) → put (entry_at []) name (Some e) q ≡ entry_at ((name, e) ∷ []) q
one_held name e q = by (bytes_eq name q) refl
  where
    by : (b : Bool) → bytes_eq name q ≡ b → put (entry_at []) name (Some e) q ≡ entry_at ((name, e) ∷ []) q
    by true h = simp h refl
    by false h = simp h refl

-- words, one after another

pub word_first : (files : Files) (file : List ℕ) (inputs : Inputs) (word : List ℕ) (words : List (List ℕ)) → inputs_of files file inputs (input_words (word ∷ words)) ≡ (word_taken files file inputs word >>= λ more. inputs_of files file more (input_words words))
word_first files file inputs word words = by (input_word word)
  where
    by : (o : Option (List ℕ)) → inputs_of files file inputs (cons_option o (input_words words)) ≡ (one_named files file inputs o >>= λ more. inputs_of files file more (input_words words))
    by None = refl
    by (Some w) = refl

word_at : (files : Files) (file : List ℕ) (inputs : Inputs) (words : List (List ℕ)) (i : ℕ) (word : List ℕ) → word ≡ get_or words i word → i < length words → inputs_of files file inputs (input_words (drop i words)) ≡ (word_taken files file inputs word >>= λ more. inputs_of files file more (input_words (drop (i + 1) words)))
word_at files file inputs words i word is lt =
    ap (λ l. inputs_of files file inputs (input_words l)) (drop_more words i word lt ∙ ap (λ w. w ∷ drop (i + 1) words) (sym is)) ∙ word_first files file inputs word (drop (i + 1) words)

pub words_fault : (files : Files) (file : List ℕ) (inputs : Inputs) (words : List (List ℕ)) (i : ℕ) (word : List ℕ) (whole : Result Inputs PlanRefusal) (fault : PlanFault) → word ≡ get_or words i word → i < length words
    → whole ≡ inputs_of files file inputs (input_words (drop i words)) → IsPlanFault fault (word_taken files file inputs word) → IsPlanFault fault whole
words_fault files file inputs words i word whole fault is lt w h =
    plan_same fault whole (word_taken files file inputs word >>= λ more. inputs_of files file more (input_words (drop (i + 1) words))) (w ∙ word_at files file inputs words i word is lt) (plan_on fault (word_taken files file inputs word) (λ more. inputs_of files file more (input_words (drop (i + 1) words))) h)

-- bytes of items, one after another
pub more_bytes : {A : Type 0} (f : A → List ℕ) (xs : List A) (i : ℕ) (x : A) → x ≡ get_or xs i x → i < length xs → length (flat_map f (take (i + 1) xs)) ≡ length (flat_map f (take i xs)) + length (f x)
more_bytes f xs i x is lt =
    ap (λ l. length (flat_map f l)) (take_more xs i x lt ∙ ap (λ y. take i xs ++ y ∷ []) (sym is))
    ∙ ap length (sym (flat_map_more f [] (take i xs) x)) ∙ length-append (flat_map f (take i xs)) (f x)
