-- The places of layers.
use Rattle.std.proofs.Common.{◌≡◌, refl, sym, ◌∙◌, ap, ℕ, zero, suc, ◌+◌, ◌<◌, arith, List, [], ◌∷◌, ◌++◌, length, take, drop, get_or, map, filter, flat_map, Bool, false, ◌&&◌, cond, eqb, nat_eq, inl, inr, append-nil, add-one}
use Rattle.std.specs.Option.{option_map_or}
use Rattle.std.proofs.lemmas.List.{take_more}
use Rattle.std.proofs.lemmas.List.Elements.{filter-append}
use Rattle.std.proofs.lemmas.List.Concat.{flat_map-append}
use Rattle.meta_model.proofs.Bools.{either_way}
use Rattle.meta_model.specs.Text.{begins_with}
use Rattle.load_model.specs.Paths.{slash, path_named}
use Rattle.load_model.specs.Layers.{longer, folder_length, nearest_from, layer_place, numbers_to}
use Rattle.layer_conf.specs.Places.{nearest_in, place_in}

-- folders that are named once

nearest_named : (k : ℕ) (layers : List (List ℕ)) (path : List ℕ) → nearest_in k (map path_named layers) path ≡ nearest_from k layers path
nearest_named k [] path = refl
nearest_named k (layer ∷ layers) path = ap (longer k (folder_length path layer)) (nearest_named (suc k) layers path)

map_length : (layers : List (List ℕ)) → length (map path_named layers) ≡ length layers
map_length [] = refl
map_length (layer ∷ layers) = ap suc (map_length layers)

pub place_named : (layers : List (List ℕ)) (path : List ℕ) → place_in (map path_named layers) path ≡ layer_place layers path
place_named layers path =
    ap (λ o. option_map_or (λ (found : ℕ × ℕ). found.0) o (length (map path_named layers))) (nearest_named 0 layers path) ∙ ap (option_map_or (λ (found : ℕ × ℕ). found.0) (nearest_from 0 layers path)) (map_length layers)

-- a folder that holds a path

begins_more : (front behind path : List ℕ) → begins_with (front ++ behind) path ≡ (begins_with front path && begins_with behind (drop (length front) path))
begins_more [] behind path = refl
begins_more (c ∷ front) behind [] = refl
begins_more (c ∷ front) behind (d ∷ path) = elim (either_way (nat_eq c d)) [
  | inl e ↦ rw e (begins_more front behind path)
  | inr e ↦ rw e refl
]

pub holds_both : (folder path : List ℕ) (b c : Bool) → b ≡ begins_with folder path → c ≡ begins_with (slash ∷ []) (drop (length folder) path) → (b && c) ≡ begins_with (folder ++ slash ∷ []) path
holds_both folder path b c e f = ap (λ x. x && c) e ∙ ap (λ x. begins_with folder path && x) f ∙ sym (begins_more folder (slash ∷ []) path)

pub holds_not : (folder path : List ℕ) → begins_with folder path ≡ false → false ≡ begins_with (folder ++ slash ∷ []) path
holds_not folder path e = sym (begins_more folder (slash ∷ []) path ∙ ap (λ x. x && begins_with (slash ∷ []) (drop (length folder) path)) e)

-- the numbers below one
abbrev pub below : ℕ → List ℕ
below zero = []
below (suc n) = numbers_to n

pub below_more : (n : ℕ) → below (n + 1) ≡ below n ++ n ∷ []
below_more zero = ap below (add-one 0)
below_more (suc n) = ap below (add-one (suc n))

pub numbers_are : (n : ℕ) → numbers_to n ≡ below n ++ n ∷ []
numbers_are zero = refl
numbers_are (suc n) = refl

-- paths with their places

get_map : (place : List ℕ → ℕ) (paths : List (List ℕ)) (i : ℕ) (x : List ℕ) → x ≡ get_or paths i x → i < length paths → get_or (map place paths) i 0 ≡ place x
get_map place [] i x is lt = absurd (omega arith)
get_map place (p ∷ paths) zero x is lt = ap place (sym is)
get_map place (p ∷ paths) (suc i) x is lt = get_map place paths i x is (omega arith)

filter_more : (test : List ℕ → Bool) (paths : List (List ℕ)) (i : ℕ) (x : List ℕ) → x ≡ get_or paths i x → i < length paths → filter test (take (i + 1) paths) ≡ filter test (take i paths) ++ cond (test x) (x ∷ []) []
filter_more test paths i x is lt = ap (filter test) (take_more paths i x lt ∙ ap (λ y. take i paths ++ y ∷ []) (sym is)) ∙ filter-append test (take i paths) (x ∷ [])

-- the paths of one more layer

pub more_placed : (layers paths made made' : List (List ℕ)) (k : ℕ) → made ≡ flat_map (λ j. filter (λ path. eqb (layer_place layers path) j) paths) (below k) → made' ≡ made ++ filter (λ path. eqb (layer_place layers path) k) paths
    → made' ≡ flat_map (λ j. filter (λ path. eqb (layer_place layers path) j) paths) (below k ++ k ∷ [])
more_placed layers paths made made' k h e =
    let F : ℕ → List (List ℕ) = λ j. filter (λ path. eqb (layer_place layers path) j) paths in
    e ∙ ap (λ l. l ++ F k) h ∙ ap (λ l. flat_map F (below k) ++ l) (sym (append-nil (F k))) ∙ sym (flat_map-append F (below k) (k ∷ []))

pub places_are : (layers paths : List (List ℕ)) → map (place_in (map path_named layers)) paths ≡ map (layer_place layers) paths
places_are layers [] = refl
places_are layers (path ∷ paths) = ap (λ p. p ∷ map (place_in (map path_named layers)) paths) (place_named layers path) ∙ ap (λ l. layer_place layers path ∷ l) (places_are layers paths)
