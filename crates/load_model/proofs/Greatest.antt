-- The greatest of some recipes is one of them, and none is greater.
use Rattle.std.proofs.Common.{◌≡◌, ◌⊎◌, inl, inr, refl, sym, ◌∙◌, ap, subst, List, [], ◌∷◌, true, false, true≢false, Some, fold, arith, suc}
use Rattle.std.specs.Prelude.{All, Contains}
use Rattle.std.proofs.lemmas.List.Elements.{All-cons, All-nil}
use Rattle.std.specs.Ordering.{is_lt, is_gt, ordering_reverse}
use Rattle.std.specs.Cmp.{IsTotalOrder, then_total, on_total, upto, tied_itself}
use Rattle.std.specs.declared.cmp.Ordering.{Ordering}
use Rattle.std.specs.declared.cmp.Ordering.TheVariants.{Less, Equal, Greater}
use Rattle.std.proofs.lemmas.Cmp.{nat_list_cmp_total}
use Rattle.meta_model.proofs.Bools.{either_way}
use Rattle.load_model.proofs.VersionOrder.{version_order}
use Rattle.load_model.specs.Recipes.{Recipe}
use Rattle.load_model.specs.Facts.{recipe_cmp, greater, greatest, IsGreatest}

recipe_order : IsTotalOrder recipe_cmp
recipe_order = let v = version_order.total in then_total (on_total (λ (r : Recipe). r.pv) v) (then_total (on_total (λ (r : Recipe). r.pr) v) (on_total (λ (r : Recipe). r.file) nat_list_cmp_total))

-- a is less than b or tied with it
abbrev UpTo : Recipe → Recipe → Type 0
UpTo a b = is_gt (recipe_cmp a b) ≡ false

less_up_to : (o : Ordering) → is_lt o ≡ true → is_gt o ≡ false
less_up_to Less h = refl
less_up_to Equal h = refl
less_up_to Greater h = absurd (true≢false (sym h))

not_less_turned : (o : Ordering) → is_lt o ≡ false → is_gt (ordering_reverse o) ≡ false
not_less_turned Less h = absurd (true≢false h)
not_less_turned Equal h = refl
not_less_turned Greater h = refl

-- what a fold from a best one on gives
record Goes (best : Recipe) (recipes : List Recipe) (b : Recipe) : Type 0 where
  is : fold greater (Some best) recipes ≡ Some b
  first : UpTo best b
  all : All (λ r. UpTo r b) recipes
  among : (best ≡ b) ⊎ Contains recipes b

at_front : (r b : Recipe) (rest : List Recipe) → r ≡ b → Contains (r ∷ rest) b
at_front r b rest e = (0, omega arith, e)

behind_front : (r b : Recipe) (rest : List Recipe) → Contains rest b → Contains (r ∷ rest) b
behind_front r b rest c = (suc c.0, (let k = c.1 in omega (arith, k)), c.2)

somewhere : (r b : Recipe) (rest : List Recipe) → (r ≡ b) ⊎ Contains rest b → Contains (r ∷ rest) b
somewhere r b rest (inl e) = at_front r b rest e
somewhere r b rest (inr c) = behind_front r b rest c

abbrev Ends : Recipe → List Recipe → Type 0
Ends best recipes = (b : Recipe) × Goes best recipes b

goes_on : (best r : Recipe) (rest : List Recipe) → Ends r rest → Ends best rest → (is_lt (recipe_cmp best r) ≡ true) ⊎ (is_lt (recipe_cmp best r) ≡ false) → Ends best (r ∷ rest)
goes_on best r rest from_r from_best (inl h) =
    let g = from_r.1 in (
      from_r.0,
      record {
        is = rw h g.is;
        first = upto recipe_order best r from_r.0 (less_up_to (recipe_cmp best r) h) g.first;
        all = All-cons (λ x. UpTo x from_r.0) r rest g.first g.all;
        among = inr (somewhere r from_r.0 rest g.among);
      },
    )
goes_on best r rest from_r from_best (inr h) =
    let g = from_best.1 in
    let turned : UpTo r best = ap is_gt (recipe_order.antisymm r best) ∙ not_less_turned (recipe_cmp best r) h in (
      from_best.0,
      record {
        is = rw h g.is;
        first = g.first;
        all = All-cons (λ x. UpTo x from_best.0) r rest (upto recipe_order r best from_best.0 turned g.first) g.all;
        among = elim g.among [ inl e ↦ inl e | inr a ↦ inr (behind_front r from_best.0 rest a) ];
      },
    )

goes : (best : Recipe) (recipes : List Recipe) → Ends best recipes
goes best [] = (best, record { is = refl; first = ap is_gt (tied_itself recipe_order best); all = All-nil (λ x. UpTo x best); among = inl refl })
goes best (r ∷ rest) = goes_on best r rest (goes r rest) (goes best rest) (either_way (is_lt (recipe_cmp best r)))

pub greatest_is : (recipes : List Recipe) → IsGreatest recipes (greatest recipes)
greatest_is [] = refl
greatest_is (r ∷ rest) = let g = goes r rest in subst (IsGreatest (r ∷ rest)) (sym g.1.is) (somewhere r g.0 rest g.1.among, All-cons (λ x. UpTo x g.0) r rest g.1.first g.1.all)
