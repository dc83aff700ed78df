-- Each part is of the default configuration, or of one with a good name.
use Rattle.std.proofs.Common.{◌≡◌, refl, ap, ◌∙◌, sym, subst, ℕ, Bool, true, false, inl, inr, List, [], ◌∷◌, filter, map, Option, Some, None, Result, Ok, Err}
use Rattle.std.specs.Prelude.{All, if◌then◌else◌}
use Rattle.std.specs.List.{AllByRecursion, list_any}
use Rattle.meta_model.proofs.Bools.{either_way, and_left, from_or}
use Rattle.meta_model.specs.Text.{is_empty, is_in}
use Rattle.multi_config.specs.declared.parts.ConfigTargets.{ConfigTargets}
use Rattle.multi_config.specs.declared.places.Placed.{Placed}
use Rattle.multi_config.specs.Named.{IsNamed}
use Rattle.multi_config.specs.Words.{WordRefusal, firsts, is_config, is_config_name, no_such_config, part_of, parts_in, parts_of, place_in, place_of, placed, places_of, reached, with_first}

empty_is : (name : List ℕ) → is_empty name ≡ true → name ≡ []
empty_is [] e = refl
empty_is (c ∷ name) e = absurd cc

named : (configs : List (List ℕ)) (name : List ℕ) → is_config configs name ≡ true → IsNamed name
named configs name e = elim (either_way (is_empty name)) [
  | inl t ↦ inl (empty_is name t)
  | inr f ↦ inr (and_left (is_config_name name) (is_in name configs) (from_or (is_empty name) _ e f))
]

place_named : (configs : List (List ℕ)) (word : List ℕ) (o : Option Placed) (place : Placed) → place_in configs word o ≡ Ok place → IsNamed place.config
place_named configs word None place e = absurd cc
place_named configs word (Some target) place e = elim (either_way (is_config configs target.config)) [
  | inl t ↦ (let is : ◌≡◌ {A = Result Placed WordRefusal} (Ok target) (Ok place) = sym (ap (λ (b : Bool). if b then Ok target else Err (no_such_config target.config)) t) ∙ e in
      let same : target ≡ place = cc in
      subst (λ (p : Placed). IsNamed p.config) same (named configs target.config t))
  | inr f ↦ (let is : ◌≡◌ {A = Result Placed WordRefusal} (Err (no_such_config target.config)) (Ok place) = sym (ap (λ (b : Bool). if b then Ok target else Err (no_such_config target.config)) f) ∙ e in absurd cc)
]

abbrev pub AreNamed : List Placed → Type 0
AreNamed places = AllByRecursion (λ (p : Placed). IsNamed p.config) places

both_named : (first : Result Placed WordRefusal) (rest : Result (List Placed) WordRefusal) (places : List Placed) → ((p : Placed) → first ≡ Ok p → IsNamed p.config) → ((ps : List Placed) → rest ≡ Ok ps → AreNamed ps) → with_first first rest ≡ Ok places → AreNamed places
both_named (Err fault) rest places f g e = absurd cc
both_named (Ok p) (Err fault) places f g e = absurd cc
both_named (Ok p) (Ok ps) places f g e = let same : p ∷ ps ≡ places = cc in subst AreNamed same (f p refl, g ps refl)

pub places_named : (configs words : List (List ℕ)) (places : List Placed) → places_of configs words ≡ Ok places → AreNamed places
places_named configs [] places e = let same : [] ≡ places = cc in subst AreNamed same tt
places_named configs (word ∷ words) places e = both_named (place_of configs word) (places_of configs words) places (λ p f. place_named configs word (placed word) p f) (λ ps f. places_named configs words ps f) e

filter_named : (test : List ℕ → Bool) (names : List (List ℕ)) → AllByRecursion IsNamed names → AllByRecursion IsNamed (filter test names)
filter_named test [] h = tt
filter_named test (name ∷ names) h = let ih = filter_named test names h.1 in elim (either_way (test name)) [
  | inl t ↦ simp t (h.0, ih)
  | inr f ↦ simp f ih
]

firsts_named : (names : List (List ℕ)) → AllByRecursion IsNamed names → AllByRecursion IsNamed (firsts names)
firsts_named [] h = tt
firsts_named (name ∷ names) h = (h.0, filter_named _ (firsts names) (firsts_named names h.1))

configs_named : (places : List Placed) → AreNamed places → AllByRecursion IsNamed (map (λ (p : Placed). p.config) places)
configs_named [] h = tt
configs_named (p ∷ places) h = (h.0, configs_named places h.1)

pub reached_named : (places : List Placed) → AreNamed places → AllByRecursion IsNamed (reached places)
reached_named [] h = (inl refl, tt)
reached_named (p ∷ places) h =
    let names = firsts (map (λ (t : Placed). t.config) (p ∷ places)) in
    let all = firsts_named (map (λ (t : Placed). t.config) (p ∷ places)) (configs_named (p ∷ places) h) in
    by names all (list_any is_empty names)
  where
    by : (names : List (List ℕ)) → AllByRecursion IsNamed names → (b : Bool) → AllByRecursion IsNamed (if b then [] ∷ filter (λ name. Rattle.std.specs.Prelude.not (is_empty name)) names else names)
    by names all true = (inl refl, filter_named _ names all)
    by names all false = all

parts_are : (default : List ℕ) (places : List Placed) (names : List (List ℕ)) → AllByRecursion IsNamed names → AllByRecursion (λ (p : ConfigTargets). IsNamed p.mc) (map (part_of default places) names)
parts_are default places [] h = tt
parts_are default places (name ∷ names) h = (h.0, parts_are default places names h.1)

pub parts_named : (configs : List (List ℕ)) (default : List ℕ) (words : List (List ℕ)) (parts : List ConfigTargets) → parts_of configs default words ≡ Ok parts → AllByRecursion (λ (p : ConfigTargets). IsNamed p.mc) parts
unfolding parts_of
parts_named configs default words parts e = by (places_of configs words) (λ ps f. places_named configs words ps f) e
  where
    by : (r : Result (List Placed) WordRefusal) → ((ps : List Placed) → r ≡ Ok ps → AreNamed ps) → parts_in default r ≡ Ok parts → AllByRecursion (λ (p : ConfigTargets). IsNamed p.mc) parts
    by (Err fault) f h = absurd cc
    by (Ok places) f h =
        let same : map (part_of default places) (reached places) ≡ parts = cc in
        subst (AllByRecursion (λ (p : ConfigTargets). IsNamed p.mc)) same (parts_are default places (reached places) (reached_named places (f places refl)))
