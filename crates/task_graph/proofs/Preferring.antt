-- The recipes that preferences pick, from name to name.
use Rattle.std.proofs.Common.{◌≡◌, sym, ◌∙◌, ap, refl, ℕ, ◌+◌, ◌<◌, Bool, true, false, ◌||◌, ◌&&◌, List, length, take, get_or, Option, if◌then◌else◌, bytes_eq}
use Rattle.std.specs.Cmp.Lexicographic.{nat_list_eq_equiv}
use Rattle.std.proofs.lemmas.List.Folds.{list_any_more}
use Rattle.meta_model.specs.Text.{is_in}
use Rattle.task_graph.specs.declared.only.Only.{Only}
use Rattle.task_graph.specs.Only.{with_number}
use Rattle.task_graph.proofs.Kept.{again}

-- the same number again for a recipe that is picked
both_again : (a b w : Bool) (o : Option Only) (n : ℕ) → (if b && w then with_number (if a && w then with_number o n else o) n else (if a && w then with_number o n else o)) ≡ (if (a || b) && w then with_number o n else o)
both_again true true true o n = again true true o n
both_again true false true o n = refl
both_again false true true o n = refl
both_again false false true o n = refl
both_again true true false o n = refl
both_again true false false o n = refl
both_again false true false o n = refl
both_again false false false o n = refl

joined : (named among here : Bool) → ((named || among) || here) ≡ (named || (among || here))
joined true among here = refl
joined false among here = refl

-- one more name that the recipe provides
pub wanted_more : (names : List (List ℕ)) (i : ℕ) (name read q : List ℕ) (named w : Bool) (old mid new : Option Only) (n : ℕ) → i < length names → name ≡ get_or names i name → read ≡ name
    → mid ≡ (if (named || is_in q (take i names)) && w then with_number old n else old) → new ≡ (if bytes_eq read q && w then with_number mid n else mid)
    → new ≡ (if (named || is_in q (take (i + 1) names)) && w then with_number old n else old)
wanted_more names i name read q named w old mid new n lt is same before now =
    let more : is_in q (take (i + 1) names) ≡ (is_in q (take i names) || bytes_eq q name) = list_any_more (bytes_eq q) names i name lt ∙ ap (λ k. is_in q (take i names) || bytes_eq q k) (sym is) in
    let flip : bytes_eq read q ≡ bytes_eq q name = ap (λ k. bytes_eq k q) same ∙ nat_list_eq_equiv.symm name q in
    now ∙ rw (flip, before, more, sym (joined named (is_in q (take i names)) (bytes_eq q name))) (both_again (named || is_in q (take i names)) (bytes_eq q name) w old n)

-- one more name of a set
pub set_more : (names : List (List ℕ)) (i : ℕ) (name read q : List ℕ) (old new : Bool) → i < length names → name ≡ get_or names i name → read ≡ name → old ≡ is_in q (take i names) → new ≡ (if bytes_eq read q then true else old) → new ≡ is_in q (take (i + 1) names)
set_more names i name read q old new lt is same before now =
    let more : is_in q (take (i + 1) names) ≡ (is_in q (take i names) || bytes_eq q name) = list_any_more (bytes_eq q) names i name lt ∙ ap (λ k. is_in q (take i names) || bytes_eq q k) (sym is) in
    let flip : bytes_eq read q ≡ bytes_eq q name = ap (λ k. bytes_eq k q) same ∙ nat_list_eq_equiv.symm name q in
    now ∙ rw (flip, before, more) (either (is_in q (take i names)) (bytes_eq q name))
  where
    either : (a b : Bool) → (if b then true else a) ≡ (a || b)
    either true true = refl
    either true false = refl
    either false true = refl
    either false false = refl
