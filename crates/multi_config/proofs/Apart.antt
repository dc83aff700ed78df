-- The parts of words are of different configurations.
use Rattle.std.proofs.Common.{◌≡◌, ◌≢◌, ◌∙◌, refl, ap, sym, subst, ℕ, Bool, true, false, true≢false, not, inl, inr, List, [], ◌∷◌, filter, map, bytes_eq, Result, Ok, Err}
use Rattle.std.specs.Prelude.{drop, if◌then◌else◌}
use Rattle.std.specs.List.{AllByRecursion, list_any}
use Rattle.meta_model.proofs.Bools.{either_way, text_itself}
use Rattle.meta_model.specs.Text.{is_empty}
use Rattle.multi_config.specs.declared.parts.ConfigTargets.{ConfigTargets}
use Rattle.multi_config.specs.declared.places.Placed.{Placed}
use Rattle.multi_config.specs.Configs.{goes_on}
use Rattle.multi_config.specs.ConfigLaws.{AreApart, AreOthers, PartsAreApart, ReachedAreOthers}
use Rattle.multi_config.specs.Named.{IsNamed}
use Rattle.multi_config.specs.Parts.{AreReached, PartEnd}
use Rattle.multi_config.specs.Words.{WordRefusal, firsts, part_of, parts_in, parts_of, places_of, reached}
use Rattle.multi_config.proofs.Tests.{on_false, on_true}
use Rattle.multi_config.proofs.Named.{AreNamed, places_named, reached_named}

abbrev Distinct : List (List ℕ) → Type 0
Distinct [] = Unit {0}
Distinct (x ∷ xs) = AllByRecursion (λ (y : List ℕ). y ≢ x) xs × Distinct xs

all_filtered : (P : List ℕ → Type 0) (test : List ℕ → Bool) (xs : List (List ℕ)) → AllByRecursion P xs → AllByRecursion P (filter test xs)
all_filtered P test [] h = tt
all_filtered P test (x ∷ xs) h = let ih = all_filtered P test xs h.1 in elim (either_way (test x)) [
  | inl t ↦ simp t (h.0, ih)
  | inr f ↦ simp f ih
]

distinct_filtered : (test : List ℕ → Bool) (xs : List (List ℕ)) → Distinct xs → Distinct (filter test xs)
distinct_filtered test [] h = tt
distinct_filtered test (x ∷ xs) h = let ih = distinct_filtered test xs h.1 in let others = all_filtered (λ (y : List ℕ). y ≢ x) test xs h.0 in elim (either_way (test x)) [
  | inl t ↦ simp t (others, ih)
  | inr f ↦ simp f ih
]

not_same : (x y : List ℕ) → not (bytes_eq x y) ≡ true → y ≢ x
not_same x y t e = true≢false (sym t ∙ ap not (ap (bytes_eq x) e ∙ text_itself x))

others_filtered : (x : List ℕ) (xs : List (List ℕ)) → AllByRecursion (λ (y : List ℕ). y ≢ x) (filter (λ other. not (bytes_eq x other)) xs)
others_filtered x [] = tt
others_filtered x (y ∷ xs) = let ih = others_filtered x xs in elim (either_way (not (bytes_eq x y))) [
  | inl t ↦ simp t (not_same x y t, ih)
  | inr f ↦ simp f ih
]

firsts_distinct : (xs : List (List ℕ)) → Distinct (firsts xs)
firsts_distinct [] = tt
firsts_distinct (x ∷ xs) = (others_filtered x (firsts xs), distinct_filtered (λ other. not (bytes_eq x other)) (firsts xs) (firsts_distinct xs))

some_filtered : (xs : List (List ℕ)) → AllByRecursion (λ (y : List ℕ). y ≢ []) (filter (λ name. not (is_empty name)) xs)
some_filtered [] = tt
some_filtered ([] ∷ xs) = some_filtered xs
some_filtered ((c ∷ cs) ∷ xs) = ((λ e. let h : c ∷ cs ≡ [] = e in cc), some_filtered xs)

some_all : (xs : List (List ℕ)) → list_any is_empty xs ≡ false → AllByRecursion (λ (y : List ℕ). y ≢ []) xs
some_all [] e = tt
some_all ([] ∷ xs) e = absurd cc
some_all ((c ∷ cs) ∷ xs) e = ((λ h. let k : c ∷ cs ≡ [] = h in cc), some_all xs e)

tail_of : (P : List ℕ → Type 0) (xs : List (List ℕ)) → AllByRecursion P xs → AllByRecursion P (drop 1 xs)
tail_of P [] h = tt
tail_of P (x ∷ xs) h = h.1

abbrev SomeBehind : List (List ℕ) → Type 0
SomeBehind names = AllByRecursion (λ (y : List ℕ). y ≢ []) (drop 1 names)

reached_apart : (places : List Placed) → Distinct (reached places) × SomeBehind (reached places)
reached_apart [] = ((tt, tt), tt)
reached_apart (p ∷ places) = by (list_any is_empty names) refl
  where
    names : List (List ℕ)
    names = firsts (map (λ (t : Placed). t.config) (p ∷ places))

    by : (b : Bool) → list_any is_empty names ≡ b → Distinct (if b then [] ∷ filter (λ name. not (is_empty name)) names else names) × SomeBehind (if b then [] ∷ filter (λ name. not (is_empty name)) names else names)
    by true e = ((some_filtered names, distinct_filtered (λ name. not (is_empty name)) names (firsts_distinct (map (λ (t : Placed). t.config) (p ∷ places)))), some_filtered names)
    by false e = (firsts_distinct (map (λ (t : Placed). t.config) (p ∷ places)), tail_of (λ (y : List ℕ). y ≢ []) names (some_all names e))

parts_others : (default : List ℕ) (places : List Placed) (x : List ℕ) (names : List (List ℕ)) → AllByRecursion (λ (y : List ℕ). y ≢ x) names → AllByRecursion (λ (y : List ℕ). y ≢ []) names → AllByRecursion IsNamed names
    → AllByRecursion (λ (p : ConfigTargets). (p.mc ≢ []) × (IsNamed p.mc × (p.mc ≢ x))) (map (part_of default places) names)
parts_others default places x [] a b c = tt
parts_others default places x (name ∷ names) a b c = ((b.0, (c.0, a.0)), parts_others default places x names a.1 b.1 c.1)

parts_apart : (default : List ℕ) (places : List Placed) (names : List (List ℕ)) → Distinct names → SomeBehind names → AllByRecursion IsNamed names → AreApart (map (part_of default places) names)
parts_apart default places [] d s n = tt
parts_apart default places (x ∷ names) d s n = (parts_others default places x names d.0 s n.1, parts_apart default places names d.1 (tail_of (λ (y : List ℕ). y ≢ []) names s) n.1)

pub parts_are_apart : PartsAreApart
unfolding parts_of
parts_are_apart configs default words parts e = by (places_of configs words) (λ ps f. places_named configs words ps f) e
  where
    by : (r : Result (List Placed) WordRefusal) → ((ps : List Placed) → r ≡ Ok ps → AreNamed ps) → parts_in default r ≡ Ok parts → AreApart parts
    by (Err fault) f h = absurd cc
    by (Ok places) f h =
        let same : map (part_of default places) (reached places) ≡ parts = cc in
        let apart = reached_apart places in
        subst AreApart same (parts_apart default places (reached places) apart.0 apart.1 (reached_named places (f places refl)))

-- the parts that were reached behind a part are of those behind it
ends_others : (keep : Bool) (mc : List ℕ) (parts : List ConfigTargets) (ends : List PartEnd) → AreReached keep parts ends → AllByRecursion (λ (p : ConfigTargets). (p.mc ≢ []) × (IsNamed p.mc × (p.mc ≢ mc))) parts → AreOthers mc ends
ends_others keep mc parts [] went all = tt
ends_others keep mc [] (one ∷ more) went all = absurd went
ends_others keep mc (part ∷ parts) (one ∷ more) went all =
    let first = subst (λ (p : ConfigTargets). (p.mc ≢ []) × (IsNamed p.mc × (p.mc ≢ mc))) (sym went.0) all.0 in
    (first, by (goes_on keep one.status) refl (ends_others keep mc parts more))
  where
    by : (b : Bool) → goes_on keep one.status ≡ b → (AreReached keep parts more → AllByRecursion (λ (p : ConfigTargets). (p.mc ≢ []) × (IsNamed p.mc × (p.mc ≢ mc))) parts → AreOthers mc more) → AreOthers mc more
    by true goes rest = rest (on_true (goes_on keep one.status) (AreReached keep parts more) goes went.1) all.1
    by false stops rest = subst (AreOthers mc) (sym (on_false (goes_on keep one.status) (more ≡ []) stops went.2)) tt

pub reached_are_others : ReachedAreOthers
reached_are_others keep part parts one more went apart = by (goes_on keep one.status) refl
  where
    others : AreReached keep parts more → AreOthers one.part.mc more
    others r = ends_others keep one.part.mc parts more r (subst (λ (m : List ℕ). AllByRecursion (λ (p : ConfigTargets). (p.mc ≢ []) × (IsNamed p.mc × (p.mc ≢ m))) parts) (ap (λ (p : ConfigTargets). p.mc) (sym went.0)) apart.0)

    by : (b : Bool) → goes_on keep one.status ≡ b → AreOthers one.part.mc more
    by true goes = others (on_true (goes_on keep one.status) (AreReached keep parts more) goes went.1)
    by false stops = subst (AreOthers one.part.mc) (sym (on_false (goes_on keep one.status) (more ≡ []) stops went.2)) tt
