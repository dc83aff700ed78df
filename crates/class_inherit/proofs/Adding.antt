-- Entries behind those that were loaded.
use Rattle.std.proofs.Common.{◌≡◌, refl, sym, ◌∙◌, ap, subst, ℕ, ◌+◌, ◌<◌, ◌≤◌, List, [], ◌∷◌, ◌++◌, Bool, false, ◌||◌, true, length, take, map, reverse, get_or, append_assoc, Result, Ok, Err, OnOk, is_ok, codes}
use Rattle.std.specs.List.{list_any}
use Rattle.std.proofs.lemmas.List.{append-nil, map-append, take_all, take_more, reverse-append}
use Rattle.std.proofs.lemmas.List.Folds.{list_any-append}
use Rattle.meta_model.specs.declared.entry.Op.{Op}
use Rattle.meta_model.specs.declared.entry.Op.TheVariants.{Set, Now}
use Rattle.meta_model.specs.declared.entry.EntryLine.{EntryLine}
use Rattle.meta_model.specs.Refusal.{◌>>=◌}
use Rattle.meta_model.specs.Active.{expand, find_in}
use Rattle.meta_model.specs.Expansion.{longest, values_by}
use Rattle.meta_model.specs.Text.{holds}
use Rattle.var_expand.proofs.Expanding.{plain_ok}
use Rattle.meta_model.specs.Entries.{taken}
use Rattle.datastore.specs.declared.fault.DataFault.{DataFault}
use Rattle.datastore.specs.Faults.{IsDataFault}
use Rattle.datastore.proofs.Freezing.{fault_on, fault_same}
use Rattle.load_model.specs.Loading.{Loaded, with_lines}

with_all : List EntryLine → Loaded → Loaded
with_all lines old = record { lines = lines; classes = old.classes }

pub none_added : (old : Loaded) → old ≡ with_lines [] old
unfolding with_all
none_added old = ap (λ l. with_all l old) (sym (append-nil old.lines))

pub then_added : (a b : List EntryLine) (old : Loaded) → with_lines b (with_lines a old) ≡ with_lines (a ++ b) old
unfolding with_all
then_added a b old = ap (λ l. with_all l old) (append_assoc old.lines a b)

pub one_more : {A : Type 0} (f : A → EntryLine) (xs : List A) (i : ℕ) (x : A) (old now new : Loaded) → now ≡ with_lines (map f (take i xs)) old → new ≡ with_lines (f x ∷ []) now → x ≡ get_or xs i x → i < length xs → new ≡ with_lines (map f (take (i + 1) xs)) old
one_more f xs i x old now new e n is lt =
    n ∙ ap (with_lines (f x ∷ [])) e ∙ then_added (map f (take i xs)) (f x ∷ []) old
    ∙ ap (λ l. with_lines l old) (sym (ap (map f) (take_more xs i x lt) ∙ map-append f (take i xs) (get_or xs i x ∷ []) ∙ ap (λ y. map f (take i xs) ++ f y ∷ []) (sym is)))

pub all_more : {A : Type 0} (f : A → EntryLine) (xs ys : List A) (i : ℕ) (old now : Loaded) → now ≡ with_lines (map f (take i xs)) old → length xs ≤ i → xs ≡ ys → now ≡ with_lines (map f ys) old
all_more f xs ys i old now e le s = e ∙ ap (λ l. with_lines (map f l) old) (take_all i xs le ∙ s)

pub one_line : (xs : List EntryLine) (i : ℕ) (x : EntryLine) (old now new : Loaded) → now ≡ with_lines (take i xs) old → new ≡ with_lines (x ∷ []) now → x ≡ get_or xs i x → i < length xs → new ≡ with_lines (take (i + 1) xs) old
one_line xs i x old now new e n is lt =
    n ∙ ap (with_lines (x ∷ [])) e ∙ then_added (take i xs) (x ∷ []) old
    ∙ ap (λ l. with_lines l old) (sym (take_more xs i x lt ∙ ap (λ y. take i xs ++ y ∷ []) (sym is)))

pub all_lines : (xs : List EntryLine) (i : ℕ) (old now : Loaded) → now ≡ with_lines (take i xs) old → length xs ≤ i → now ≡ with_lines xs old
all_lines xs i old now e le = e ∙ ap (λ l. with_lines l old) (take_all i xs le)

-- a text that is found in a list is found from its other end

or_nothing : (a b : Bool) → (a || (b || false)) ≡ (b || a)
or_nothing true true = refl
or_nothing true false = refl
or_nothing false true = refl
or_nothing false false = refl

pub any_reverse : (p : List ℕ → Bool) (xs : List (List ℕ)) → list_any p (reverse xs) ≡ list_any p xs
any_reverse p [] = refl
any_reverse p (x ∷ xs) =
    ap (list_any p) (reverse-append (x ∷ []) xs) ∙ list_any-append p (reverse xs) (x ∷ []) ∙ or_nothing (list_any p (reverse xs)) (p x)
    ∙ ap (λ b. p x || b) (any_reverse p xs)

-- the text of `:=`

pub taken_now : (list found : List EntryLine) (op : Op) (text read made : List ℕ) → op ≡ Now → found ≡ list → read ≡ text → expand found read ≡ Ok made → taken list op text ≡ Ok (Set, made)
taken_now list found op text read made o f r e =
    ap (λ x. taken list x text) o ∙ ap (λ m. m >>= (λ t. Ok (Set, t))) (subst (λ l. expand l text ≡ Ok made) f (subst (λ t. expand found t ≡ Ok made) r e))

pub taken_fault : (list found : List EntryLine) (op : Op) (text read : List ℕ) (fault : DataFault) → op ≡ Now → found ≡ list → read ≡ text → IsDataFault fault (expand found read) → IsDataFault fault (taken list op text)
taken_fault list found op text read fault o f r h =
    fault_same fault (taken list op text) (taken list Now text) (ap (λ x. taken list x text) o)
    (fault_on fault (expand list text) (λ t. Ok (Set, t)) (subst (λ l. IsDataFault fault (expand l text)) f (subst (λ t. IsDataFault fault (expand found t)) r h)))

-- a text without references is its own expansion
pub plain_text : (lines : List EntryLine) (text bytes made : List ℕ) (b : Bool) → bytes ≡ text → b ≡ holds (codes "${") bytes → b ≡ false → length text ≤ longest → made ≡ text → expand lines text ≡ Ok made
plain_text lines text bytes made b e h f le m =
    plain_ok (values_by (find_in lines)) [] text (ap (holds (codes "${")) (sym e) ∙ sym h ∙ f) le ∙ ap Ok (sym m)

-- what is so where an answer without a fault says that the call before it had none
pub on_told : {X Y Z : Type 0} {P Q : Type 0} (done : Result X Y) (answer : Result X Z) → OnOk answer (is_ok done ≡ true) → OnOk done P → (P → Q) → OnOk answer Q
on_told (Ok x) (Ok y) e h f = f h
on_told (Err x) (Ok y) e h f = absurd cc
on_told done (Err y) e h f = tt
