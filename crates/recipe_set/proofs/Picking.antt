-- The chosen recipe of each PN.
use Rattle.std.proofs.Common.{◌≡◌, refl, sym, ◌∙◌, ap, ℕ, ◌+◌, ◌<◌, List, [], ◌∷◌, ◌++◌, length, get_or, take, fold, map, filter, filter_map, Bool, true, false, not, cond, Option, Some, None, is_some, bytes_eq, inl, inr, String, BTreeMap, string_bytes}
use Rattle.std.specs.Global.{Global}
use Rattle.std.specs.Option.{option_map}
use Rattle.std.specs.Map.{update, lookup, keys_of}
use Rattle.std.specs.BTreeMap.{is_at, get_by_text, IsOrdered}
use Rattle.std.specs.String.{string_cmp}
use Rattle.std.specs.List.{AllByRecursion}
use Rattle.std.specs.List.Sorted.{IsStrictlySortedBy}
use Rattle.std.specs.Cmp.Lexicographic.{slice_cmp}
use Rattle.std.specs.Ordering.{nat_cmp, is_lt, is_eq}
use Rattle.std.specs.declared.cmp.Ordering.{Ordering}
use Rattle.std.specs.declared.cmp.Ordering.TheVariants.{Less, Equal, Greater}
use Rattle.std.proofs.lemmas.List.{take_more}
use Rattle.std.proofs.lemmas.List.Elements.{filter-append}
use Rattle.std.proofs.lemmas.Map.Keys.{sorted_head, sorted_tail}
use Rattle.std.proofs.lemmas.Map.Text.{is_eq-slice_cmp, text_cmp}
use Rattle.meta_model.proofs.Bools.{either_way, same_text, text_itself}
use Rattle.meta_model.specs.Text.{is_in, is_empty, in_byte_order}
use Rattle.value_maps.specs.Picked.{picked, passes}
use Rattle.meta_model.proofs.Ordered.{ascending_same, ordered_ascending, ordered_in}
use Rattle.value_maps.proofs.Picked.{picked_ascending, picked_in}
use Rattle.load_model.specs.Recipes.{Recipe}
use Rattle.load_model.specs.Facts.{greater, greatest, recipe_cmp, fits, that_count, chosen, all_chosen}
use Rattle.recipe_facts.proofs.Fronted.{turned}
use Rattle.recipe_facts.specs.Recipe.{recipe_meant}
use Rattle.recipe_set.specs.declared.choice.Pick.{Pick}
use Rattle.recipe_set.specs.Firsts.{first_of}
use Rattle.recipe_set.specs.Held.{Held, gives_way, turned_to, fits_wish, held_of}
use Rattle.recipe_set.specs.Picks.{pick_meant, ArePicks}

-- preferences

first_none : {A : Type 0} (o : Option A) → o ≡ first_of o None
first_none None = refl
first_none (Some a) = refl

some_first : {A : Type 0} (o later : Option A) → is_some o ≡ true → o ≡ first_of o later
some_first None later h = absurd cc
some_first (Some a) later h = refl

pub version_stays : {A : Type 0} (f : List ℕ → Option A) (k : List ℕ) (v : A) (t : List ℕ) → is_some (f k) ≡ true → f t ≡ first_of (f t) (cond (bytes_eq t k) (Some v) None)
version_stays f k v t h = elim (either_way (bytes_eq t k)) [
  | inl e ↦ rw e (some_first (f t) (Some v) (ap (λ x. is_some (f x)) (same_text t k e) ∙ h))
  | inr e ↦ rw e (first_none (f t))
]

none_is : {A : Type 0} (o : Option A) → is_some o ≡ false → o ≡ None
none_is None h = refl
none_is (Some a) h = absurd cc

pub version_put : {A : Type 0} (f g : List ℕ → Option A) (k : List ℕ) (v w : A) → is_some (f k) ≡ false → ((q : List ℕ) → g q ≡ update bytes_eq f k (Some w) q) → w ≡ v → (t : List ℕ) → g t ≡ first_of (f t) (cond (bytes_eq t k) (Some v) None)
version_put f g k v w h u e t = elim (either_way (bytes_eq t k)) [
  | inl s ↦
      let back : bytes_eq k t ≡ true = turned k t ∙ s in
      let away : f t ≡ None = ap f (same_text t k s) ∙ none_is (f k) h in
      let here : g t ≡ Some w = rw back at (u t) in
      rw (s, away) (here ∙ ap Some e)
  | inr s ↦
      let back : bytes_eq k t ≡ false = turned k t ∙ s in
      let here : g t ≡ f t = rw back at (u t) in
      rw s (here ∙ first_none (f t))
]

lookup_end : (t : List ℕ) (xs : List (List ℕ × List ℕ)) (x : List ℕ × List ℕ) → lookup (bytes_eq t) (xs ++ x ∷ []) ≡ first_of (lookup (bytes_eq t) xs) (lookup (bytes_eq t) (x ∷ []))
lookup_end t [] x = refl
lookup_end t (y ∷ xs) x = elim (either_way (bytes_eq t y.0)) [
  | inl e ↦ rw e refl
  | inr e ↦ rw e (lookup_end t xs x)
]

pub versions_more : (t : List ℕ) (xs : List (List ℕ × List ℕ)) (i : ℕ) (x : List ℕ × List ℕ) (old new : Option (List ℕ)) → x ≡ get_or xs i x → i < length xs → old ≡ lookup (bytes_eq t) (take i xs) → new ≡ first_of old (lookup (bytes_eq t) (x ∷ [])) → new ≡ lookup (bytes_eq t) (take (i + 1) xs)
versions_more t xs i x old new is lt h e =
    e ∙ ap (λ o. first_of o (lookup (bytes_eq t) (x ∷ []))) h ∙ sym (lookup_end t (take i xs) x) ∙ ap (lookup (bytes_eq t)) (sym (take_more xs i x lt ∙ ap (λ y. take i xs ++ y ∷ []) (sym is)))

-- one more recipe

meant_cond : (b : Bool) (w : Pick) (o : Option Pick) → option_map pick_meant (cond b (Some w) o) ≡ cond b (Some (pick_meant w)) (option_map pick_meant o)
meant_cond true w o = refl
meant_cond false w o = refl

same_cond : (b : Bool) (x y z : Option Held) → (b ≡ true → x ≡ y) → cond b x z ≡ cond b y z
same_cond true x y z h = h refl
same_cond false x y z h = refl

pub pick_put : (f g : List ℕ → Option Pick) (k : List ℕ) (w : Pick) (fit : Bool) (r : Recipe) → ((q : List ℕ) → g q ≡ update bytes_eq f k (Some w) q) → Some (pick_meant w) ≡ turned_to fit (option_map pick_meant (f k)) r
    → (t : List ℕ) → option_map pick_meant (g t) ≡ cond (bytes_eq k t) (turned_to fit (option_map pick_meant (f t)) r) (option_map pick_meant (f t))
pick_put f g k w fit r u e t =
    ap (option_map pick_meant) (u t) ∙ meant_cond (bytes_eq k t) w (f t)
    ∙ same_cond (bytes_eq k t) (Some (pick_meant w)) (turned_to fit (option_map pick_meant (f t)) r) (option_map pick_meant (f t)) (λ s. e ∙ ap (λ q. turned_to fit (option_map pick_meant (f q)) r) (same_text k t s))

pub takes : (pick : Pick) (fit : Bool) (r : Recipe) (o : Option Pick) → o ≡ Some pick → gives_way pick.fits (recipe_meant pick.recipe) fit r ≡ true → Some (r, fit) ≡ turned_to fit (option_map pick_meant o) r
takes pick fit r o e h = rw (e, h) refl

pub keeps : (pick : Pick) (fit : Bool) (r : Recipe) (o : Option Pick) → o ≡ Some pick → gives_way pick.fits (recipe_meant pick.recipe) fit r ≡ false → Some (pick_meant pick) ≡ turned_to fit (option_map pick_meant o) r
keeps pick fit r o e h = rw (e, h) refl

pub begins : (fit : Bool) (r : Recipe) (o : Option Pick) → o ≡ None → Some (r, fit) ≡ turned_to fit (option_map pick_meant o) r
begins fit r o e = rw e refl

fold_end : {A B : Type 0} (f : A → B → A) (a : A) (xs : List B) (x : B) → fold f a (xs ++ x ∷ []) ≡ f (fold f a xs) x
fold_end f a [] x = refl
fold_end f a (y ∷ xs) x = fold_end f (f a y) xs x

held_more : (wish : Option (List ℕ)) (xs : List Recipe) (r : Recipe) (b : Bool) → cond b (turned_to (fits_wish wish r) (held_of wish xs) r) (held_of wish xs) ≡ held_of wish (xs ++ cond b (r ∷ []) [])
held_more wish xs r true = sym (fold_end (λ held recipe. turned_to (fits_wish wish recipe) held recipe) None xs r)
held_more wish xs r false = ap (held_of wish) (sym (append_nothing xs))
  where
    append_nothing : (ys : List Recipe) → ys ++ [] ≡ ys
    append_nothing [] = refl
    append_nothing (y ∷ ys) = ap (λ l. y ∷ l) (append_nothing ys)

same_fit : (b c d : Bool) (o : Option Held) (r : Recipe) → (b ≡ true → c ≡ d) → cond b (turned_to c o r) o ≡ cond b (turned_to d o r) o
same_fit true c d o r h = ap (λ x. turned_to x o r) (h refl)
same_fit false c d o r h = refl

pub picked_more : (wishes : List (List ℕ × List ℕ)) (recipes : List Recipe) (versions : List ℕ → Option (List ℕ)) (old new : List ℕ → Option Held) (r : Recipe) (fit : Bool) → ((t : List ℕ) → versions t ≡ lookup (bytes_eq t) wishes) → fit ≡ fits_wish (versions r.pn) r
    → ((t : List ℕ) → old t ≡ held_of (lookup (bytes_eq t) wishes) (filter (λ x. bytes_eq x.pn t) recipes)) → ((t : List ℕ) → new t ≡ cond (bytes_eq r.pn t) (turned_to fit (old t) r) (old t))
    → (t : List ℕ) → new t ≡ held_of (lookup (bytes_eq t) wishes) (filter (λ x. bytes_eq x.pn t) (recipes ++ r ∷ []))
picked_more wishes recipes versions old new r fit v e o n t =
    let wish = lookup (bytes_eq t) wishes in
    let before = filter (λ (x : Recipe). bytes_eq x.pn t) recipes in
    n t
    ∙ same_fit (bytes_eq r.pn t) fit (fits_wish wish r) (old t) r (λ s. e ∙ ap (λ w. fits_wish w r) (v r.pn ∙ ap (λ q. lookup (bytes_eq q) wishes) (same_text r.pn t s)))
    ∙ ap (λ h. cond (bytes_eq r.pn t) (turned_to (fits_wish wish r) h r) h) (o t)
    ∙ held_more wish before r (bytes_eq r.pn t)
    ∙ ap (held_of wish) (sym (filter-append (λ (x : Recipe). bytes_eq x.pn t) recipes (r ∷ [])))

-- the greatest of those that count

abbrev tagged : Bool → Option Recipe → Option Held
tagged b o = option_map (λ r. (r, b)) o

abbrev joined : Option Recipe → Option Recipe → Option Held
joined all None = tagged false all
joined all (Some best) = Some (best, true)

tag_cond : (b c : Bool) (r best : Recipe) → cond c (Some (r, b)) (Some (best, b)) ≡ tagged b (cond c (Some r) (Some best))
tag_cond b true r best = refl
tag_cond b false r best = refl

some_cond : (c : Bool) (all : Option Recipe) (r best : Recipe) → cond c (Some (r, true)) (Some (best, true)) ≡ joined all (cond c (Some r) (Some best))
some_cond true all r best = refl
some_cond false all r best = refl

turn_joined : (b : Bool) (all some : Option Recipe) (r : Recipe) → turned_to b (joined all some) r ≡ joined (greater all r) (cond b (greater some r) some)
turn_joined true None None r = refl
turn_joined false None None r = refl
turn_joined true (Some y) None r = refl
turn_joined false (Some y) None r = tag_cond false (is_lt (recipe_cmp y r)) r y
turn_joined true all (Some x) r = some_cond (is_lt (recipe_cmp x r)) (greater all r) r x
turn_joined false all (Some x) r = refl

fold_joined : (f : Recipe → Bool) (rs : List Recipe) (all some : Option Recipe) → fold (λ held r. turned_to (f r) held r) (joined all some) rs ≡ joined (fold greater all rs) (fold greater some (filter f rs))
fold_joined f [] all some = refl
fold_joined f (r ∷ rs) all some =
    ap (λ h. fold (λ held x. turned_to (f x) held x) h rs) (turn_joined (f r) all some r)
    ∙ fold_joined f rs (greater all r) (cond (f r) (greater some r) some)
    ∙ ap (joined (fold greater (greater all r) rs)) (at (f r))
  where
    at : (b : Bool) → fold greater (cond b (greater some r) some) (filter f rs) ≡ fold greater some (cond b (r ∷ filter f rs) (filter f rs))
    at true = refl
    at false = refl

greater_some : (best r : Recipe) → (x : Recipe) × (greater (Some best) r ≡ Some x)
greater_some best r = at (is_lt (recipe_cmp best r))
  where
    at : (b : Bool) → (x : Recipe) × (cond b (Some r) (Some best) ≡ Some x)
    at true = (r, refl)
    at false = (best, refl)

fold_some : (rs : List Recipe) (best : Recipe) → (x : Recipe) × (fold greater (Some best) rs ≡ Some x)
fold_some [] best = (best, refl)
fold_some (r ∷ rs) best = let g = greater_some best r in let k = fold_some rs g.0 in (k.0, ap (λ o. fold greater o rs) g.1 ∙ k.1)

untagged : (b : Bool) (o : Option Recipe) → option_map (λ (h : Held). h.0) (tagged b o) ≡ o
untagged b None = refl
untagged b (Some r) = refl

best_of : (rs some : List Recipe) → option_map (λ (h : Held). h.0) (joined (greatest rs) (greatest some)) ≡ greatest (cond (is_empty some) rs some)
best_of rs [] = untagged false (greatest rs)
best_of rs (x ∷ some) = let k = fold_some some x in ap (λ o. option_map (λ (h : Held). h.0) (joined (greatest rs) o)) k.1 ∙ sym k.1

all_fit : (rs : List Recipe) → filter (λ (r : Recipe). true) rs ≡ rs
all_fit [] = refl
all_fit (r ∷ rs) = ap (λ l. r ∷ l) (all_fit rs)

best_itself : (rs : List Recipe) → option_map (λ (h : Held). h.0) (joined (greatest rs) (greatest rs)) ≡ greatest rs
best_itself [] = refl
best_itself (x ∷ rs) = let k = fold_some rs x in ap (λ o. option_map (λ (h : Held). h.0) (joined (greatest (x ∷ rs)) o)) k.1 ∙ sym k.1

held_greatest : (wish : Option (List ℕ)) (rs : List Recipe) → option_map (λ (h : Held). h.0) (held_of wish rs) ≡ greatest (that_count wish rs)
held_greatest None rs =
    ap (option_map (λ (h : Held). h.0)) (fold_joined (λ r. true) rs None None ∙ ap (λ l. joined (greatest rs) (greatest l)) (all_fit rs)) ∙ best_itself rs
held_greatest (Some preference) rs = ap (option_map (λ (h : Held). h.0)) (fold_joined (fits preference) rs None None) ∙ best_of rs (filter (fits preference) rs)

-- which PNs there are

is_some_map : {A B : Type 0} (f : A → B) (o : Option A) → is_some (option_map f o) ≡ is_some o
is_some_map f None = refl
is_some_map f (Some a) = refl

turned_some : (fit : Bool) (o : Option Held) (r : Recipe) → (x : Held) × (turned_to fit o r ≡ Some x)
turned_some fit None r = ((r, fit), refl)
turned_some fit (Some held) r = at (gives_way held.1 held.0 fit r)
  where
    at : (b : Bool) → (x : Held) × (cond b (Some (r, fit)) (Some held) ≡ Some x)
    at true = ((r, fit), refl)
    at false = (held, refl)

held_there : (wish : Option (List ℕ)) (rs : List Recipe) (held : Held) → is_some (fold (λ h r. turned_to (fits_wish wish r) h r) (Some held) rs) ≡ true
held_there wish [] held = refl
held_there wish (r ∷ rs) held = let k = turned_some (fits_wish wish r) (Some held) r in ap (λ o. is_some (fold (λ h x. turned_to (fits_wish wish x) h x) o rs)) k.1 ∙ held_there wish rs k.0

held_some : (wish : Option (List ℕ)) (rs : List Recipe) → is_some (held_of wish rs) ≡ not (is_empty rs)
held_some wish [] = refl
held_some wish (r ∷ rs) = let k = turned_some (fits_wish wish r) None r in ap (λ o. is_some (fold (λ h x. turned_to (fits_wish wish x) h x) o rs)) k.1 ∙ held_there wish rs k.0

named_some : (t : List ℕ) (rs : List Recipe) → not (is_empty (filter (λ (r : Recipe). bytes_eq r.pn t) rs)) ≡ is_in t (map (λ (r : Recipe). r.pn) rs)
named_some t [] = refl
named_some t (r ∷ rs) = elim (either_way (bytes_eq r.pn t)) [
  | inl e ↦ let back : bytes_eq t r.pn ≡ true = turned t r.pn ∙ e in rw (e, back) refl
  | inr e ↦ let back : bytes_eq t r.pn ≡ false = turned t r.pn ∙ e in rw (e, back) (named_some t rs)
]

pub pns_are : (wishes : List (List ℕ × List ℕ)) (recipes : List Recipe) (picks : BTreeMap (String Global) Pick) → ArePicks wishes recipes picks → (t : List ℕ) → is_some (get_by_text picks t) ≡ is_in t (map (λ (r : Recipe). r.pn) recipes)
pns_are wishes recipes picks h t =
    sym (is_some_map pick_meant (get_by_text picks t)) ∙ ap is_some (h t) ∙ held_some (lookup (bytes_eq t) wishes) (filter (λ r. bytes_eq r.pn t) recipes) ∙ named_some t recipes

-- entries in order

some_passes : (o : Option Pick) → passes (λ there. true) o ≡ is_some o
some_passes None = refl
some_passes (Some x) = refl

keys_are : (picks : BTreeMap (String Global) Pick) (xs : List (List ℕ)) → IsOrdered string_cmp picks → ((t : List ℕ) → is_some (get_by_text picks t) ≡ is_in t xs) → picked (λ there. true) picks.entries ≡ in_byte_order xs
keys_are picks xs ordered same =
    ascending_same (picked (λ there. true) picks.entries) (in_byte_order xs) (picked_ascending (λ there. true) picks.entries ordered) (ordered_ascending xs)
    (λ t. picked_in (λ there. true) picks.entries t ordered ∙ some_passes (get_by_text picks t) ∙ same t ∙ sym (ordered_in xs t))

abbrev Entry : Type 0
Entry = String Global × Pick

abbrev found_in : List Entry → List ℕ → Option Pick
found_in all t = lookup (is_at (text_cmp t)) all

-- each of some entries is found
abbrev Finds : List Entry → List Entry → Type 0
Finds all [] = Unit {0}
Finds all (e ∷ es) = (found_in all (string_bytes e.0) ≡ Some e.1) × Finds all es

less_apart : (o : Ordering) → o ≡ Less → is_eq o ≡ false
less_apart Less h = refl
less_apart Equal h = absurd cc
less_apart Greater h = refl

not_at : (x y : String Global) → string_cmp x y ≡ Less → is_at (text_cmp (string_bytes y)) x ≡ false
not_at x y h = is_eq-slice_cmp (string_bytes y) (string_bytes x) ∙ turned (string_bytes y) (string_bytes x) ∙ sym (is_eq-slice_cmp (string_bytes x) (string_bytes y)) ∙ less_apart (slice_cmp nat_cmp (string_bytes x) (string_bytes y)) h

finds_behind : (e : Entry) (all es : List Entry) → AllByRecursion (λ y. string_cmp e.0 y ≡ Less) (keys_of es) → Finds all es → Finds (e ∷ all) es
finds_behind e all [] s f = tt
finds_behind e all (x ∷ es) s f = (rw (not_at e.0 x.0 s.0) f.0, finds_behind e all es s.1 f.1)

finds_all : (es : List Entry) → IsStrictlySortedBy string_cmp (keys_of es) → Finds es es
finds_all [] s = tt
finds_all (e ∷ es) s =
    let at : is_at (text_cmp (string_bytes e.0)) e.0 ≡ true = is_eq-slice_cmp (string_bytes e.0) (string_bytes e.0) ∙ text_itself (string_bytes e.0) in
    (rw at refl, finds_behind e es es (sorted_head string_cmp e.0 (keys_of es) s) (finds_all es (sorted_tail string_cmp e.0 (keys_of es) s)))

values_are : (chooses : List ℕ → Option Recipe) (all es : List Entry) → ((t : List ℕ) → chooses t ≡ option_map (λ (p : Pick). recipe_meant p.recipe) (found_in all t)) → Finds all es → map (λ (e : Entry). recipe_meant e.1.recipe) es ≡ filter_map chooses (picked (λ there. true) es)
values_are chooses all [] h f = refl
values_are chooses all (e ∷ es) h f =
    let here : chooses (string_bytes e.0) ≡ Some (recipe_meant e.1.recipe) = h (string_bytes e.0) ∙ ap (option_map (λ (p : Pick). recipe_meant p.recipe)) f.0 in
    rw here (ap (λ l. recipe_meant e.1.recipe ∷ l) (values_are chooses all es h f.1))

map_map : (es : List Entry) → map recipe_meant (map (λ (e : Entry). e.1.recipe) es) ≡ map (λ (e : Entry). recipe_meant e.1.recipe) es
map_map [] = refl
map_map (e ∷ es) = ap (λ l. recipe_meant e.1.recipe ∷ l) (map_map es)

meant_first : (o : Option Pick) → option_map (λ (h : Held). h.0) (option_map pick_meant o) ≡ option_map (λ (p : Pick). recipe_meant p.recipe) o
meant_first None = refl
meant_first (Some p) = refl

pub chosen_are : (wishes : List (List ℕ × List ℕ)) (recipes : List Recipe) (picks : BTreeMap (String Global) Pick) → IsOrdered string_cmp picks → ArePicks wishes recipes picks → map recipe_meant (map (λ (e : Entry). e.1.recipe) picks.entries) ≡ all_chosen wishes recipes
chosen_are wishes recipes picks ordered h =
    map_map picks.entries
    ∙ values_are (chosen wishes recipes) picks.entries picks.entries
    (λ t. sym (held_greatest (lookup (bytes_eq t) wishes) (filter (λ r. bytes_eq r.pn t) recipes)) ∙ ap (option_map (λ (x : Held). x.0)) (sym (h t)) ∙ meant_first (get_by_text picks t))
    (finds_all picks.entries ordered)
    ∙ ap (filter_map (chosen wishes recipes)) (keys_are picks (map (λ (r : Recipe). r.pn) recipes) ordered (pns_are wishes recipes picks h))
