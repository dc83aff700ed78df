-- The folder of a configuration is a clean path.
use Rattle.std.proofs.Common.{◌≡◌, refl, ap, ◌∙◌, sym, subst, ℕ, ◌+◌, ◌<◌, ◌≤◌, Bool, true, false, true≢false, inl, inr, List, [], ◌∷◌, codes, length, length-append, arith, All}
use Rattle.std.specs.Prelude.{◌==◌, ◌&&◌, ◌≢◌, Contains, nat_le, not}
use Rattle.std.specs.List.{AllByRecursion, list_all}
use Rattle.std.proofs.lemmas.Bool.Decides.{Decides-eqb}
use Rattle.std.proofs.lemmas.List.Splits.{slice_split_none}
use Rattle.std.proofs.lemmas.List.Elements.{All-append, All-cons, All-nil, All-from_recursion}
use Rattle.tree_model.specs.Path.{IsClean, IsPart, parts_of}
use Rattle.tree_model.proofs.FolderLemmas.{parts_inside}
use Rattle.meta_model.proofs.Bools.{either_way, and_left, and_right}
use Rattle.meta_model.specs.Text.{is_empty, is_letter_digit_or}
use Rattle.sub_disk.specs.Sub.{IsPrefix}
use Rattle.multi_config.specs.Configs.{store_prefix}
use Rattle.multi_config.specs.Named.{IsNamed}
use Rattle.multi_config.specs.Parts.{store_folder}
use Rattle.multi_config.specs.Words.{is_config_name}

abbrev is_good : ℕ → Bool
is_good c = is_letter_digit_or (codes "-_") c

each_good : (name : List ℕ) → list_all is_good name ≡ true → AllByRecursion (λ c. is_good c ≡ true) name
each_good [] e = tt
each_good (c ∷ name) e = (and_left (is_good c) (list_all is_good name) e, each_good name (and_right (is_good c) (list_all is_good name) e))

-- a byte that names don't have
not_good : (b c : ℕ) → is_good b ≡ false → is_good c ≡ true → (c == b) ≡ false
not_good b c f e = elim (either_way (c == b)) [
  | inl t ↦ absurd (true≢false (sym e ∙ ap is_good ((Decides-eqb c b).0 t) ∙ f))
  | inr g ↦ g
]

none_is : (b : ℕ) → is_good b ≡ false → (name : List ℕ) → AllByRecursion (λ c. is_good c ≡ true) name → AllByRecursion (λ c. (c == b) ≡ false) name
none_is b f [] h = tt
none_is b f (c ∷ name) h = (not_good b c f h.0, none_is b f name h.1)

head_is : (b : ℕ) → is_good b ≡ false → (name rest : List ℕ) → AllByRecursion (λ c. is_good c ≡ true) name → name ≢ b ∷ rest
head_is b f name rest h e = let g = subst (λ (l : List ℕ). AllByRecursion (λ c. is_good c ≡ true) l) e h in true≢false (sym g.0 ∙ f)

no_zero : (name : List ℕ) → AllByRecursion (λ c. is_good c ≡ true) name → Contains name 0 → ⊥
no_zero name h c =
    let all = All-from_recursion (λ (x : ℕ). is_good x ≡ true) name h in
    true≢false (sym (subst (λ (x : ℕ). is_good x ≡ true) c.2 (all c.0 0 c.1)))

length_is : (name : List ℕ) → nat_le (length name) 255 ≡ true → length name ≤ 255
length_is name e = grind (arith)

not_empty : (name : List ℕ) → not (is_empty name) ≡ true → 0 < length name
not_empty [] e = absurd cc
not_empty (c ∷ name) e = omega arith

clean_name : (name : List ℕ) → is_config_name name ≡ true → IsClean name
clean_name name e =
    let made = and_left (not (is_empty name) && list_all is_good name) (nat_le (length name) 255) e in
    let short = length_is name (and_right (not (is_empty name) && list_all is_good name) (nat_le (length name) 255) e) in
    let some = not_empty name (and_left (not (is_empty name)) (list_all is_good name) made) in
    let good = each_good name (and_right (not (is_empty name)) (list_all is_good name) made) in
    let part : IsPart name = record {
      not_empty = some;
      short = short;
      not_here = head_is 46 refl name [] good;
      not_above = head_is 46 refl name (46 ∷ []) good;
      no_zero = no_zero name good;
    } in
    let alone = slice_split_none (λ b. b == 47) name (All-from_recursion (λ b. (b == 47) ≡ false) name (none_is 47 refl name good)) in
    record {
      short = omega (arith, short);
      parts = let P : List (List ℕ) → Type 0 = λ l. All IsPart l in subst P (sym alone) (All-cons IsPart name [] part (All-nil IsPart));
    }

name_length : (name : List ℕ) → is_config_name name ≡ true → length name ≤ 255
name_length name e = length_is name (and_right (not (is_empty name) && list_all is_good name) (nat_le (length name) 255) e)

pub clean_folder : (mc : List ℕ) → is_config_name mc ≡ true → IsClean (store_folder mc)
clean_folder mc e =
    let short = name_length mc e in
    let mc_is = clean_name (codes "mc") refl in
    let name_is = clean_name mc e in
    record {
      short = let l : length (store_folder mc) ≡ length mc + 3 = omega arith in omega (arith, l, short);
      parts = let P : List (List ℕ) → Type 0 = λ l. All IsPart l in subst P (sym (parts_inside (codes "mc") mc)) (All-append IsPart (parts_of (codes "mc")) (parts_of mc) mc_is.parts name_is.parts);
    }

-- the prefix of a store's paths is that of a folder's, or nothing
pub prefix_is : (mc : List ℕ) → IsNamed mc → IsPrefix (store_prefix mc)
prefix_is [] n = inl refl
prefix_is (c ∷ mc) (inl e) = absurd cc
prefix_is (c ∷ mc) (inr e) = inr (store_folder (c ∷ mc), clean_folder (c ∷ mc) e, refl)

pub prefix_short : (mc : List ℕ) → IsNamed mc → length (store_prefix mc) ≤ 259
prefix_short [] n = omega arith
prefix_short (c ∷ mc) (inl e) = absurd cc
prefix_short (c ∷ mc) (inr e) = let short = name_length (c ∷ mc) e in let l = length-append (c ∷ mc) (codes "/") in omega (arith, short, l)

-- a name has no slash
pub name_slashless : (name : List ℕ) → is_config_name name ≡ true → AllByRecursion (λ c. (c == 47) ≡ false) name
name_slashless name e =
    let made = and_left (not (is_empty name) && list_all is_good name) (nat_le (length name) 255) e in
    none_is 47 refl name (each_good name (and_right (not (is_empty name)) (list_all is_good name) made))
