-- How paths begin that patterns match.
use Rattle.std.proofs.Common.{◌≡◌, refl, sym, ◌∙◌, ap, ℕ, ◌+◌, ◌<◌, ◌==◌, ◌&&◌, ◌||◌, Bool, true, false, inl, inr, List, [], ◌∷◌, ◌++◌, length, take, drop, get_or, take-append-drop, append_assoc, if◌then◌else◌, rules}
use Rattle.std.specs.List.{list_any}
use Rattle.std.proofs.lemmas.List.{take_at, take_more}
use Rattle.std.proofs.lemmas.Slice.Eq.{bytes_eq-Decides}
use Rattle.tree_model.specs.Path.{BeginsWith}
use Rattle.meta_model.proofs.Bools.{either_way, and_left, and_right, or_left, or_right, or_first, or_later, from_or}
use Rattle.meta_model.specs.Text.{begins_with}
use Rattle.load_model.specs.Patterns.{matches, behind, behind_byte}
use Rattle.layer_conf.specs.Globs.{matches_any, is_wild, begun_by}

-- the test and what it says

pub begins : (front path : List ℕ) → begins_with front path ≡ true → BeginsWith front path
begins front path holds =
    let same = (bytes_eq-Decides front (take (length front) path)).0 holds in
    (drop (length front) path, sym (take-append-drop (length front) path) ∙ ap (λ (l : List ℕ). l ++ drop (length front) path) (sym same))

pub begun : (front path : List ℕ) → BeginsWith front path → begins_with front path ≡ true
begun front path b = (bytes_eq-Decides front (take (length front) path)).1 (sym (ap (λ (l : List ℕ). take (length front) l) b.1 ∙ take_at front b.0 (length front) refl))

through : (a b c : List ℕ) → BeginsWith a b → BeginsWith b c → BeginsWith a c
through a b c f g = (f.0 ++ g.0, g.1 ∙ ap (λ (l : List ℕ). l ++ g.0) f.1 ∙ append_assoc a f.0 g.0)

-- what a pattern has before its first wildcard

one_any : (m : List ℕ → Bool) (b : Bool) (path : List ℕ) → list_any m (if b then path ∷ [] else []) ≡ (b && m path)
one_any m true path = or_false (m path)
  where
    or_false : (b : Bool) → (b || false) ≡ b
    or_false true = refl
    or_false false = refl
one_any m false path = refl

plain : (c : ℕ) (path : List ℕ) → (c == 42) ≡ false → (c == 63) ≡ false → behind c path ≡ behind_byte c path
plain c path e f = rw (e, f) refl

same_byte : (c d : ℕ) → (c == d) ≡ true → c ≡ d
same_byte c d e = search (rules, e)

byte_begins : (c : ℕ) (front : List ℕ) (m : List ℕ → Bool) (path : List ℕ) → ((rest : List ℕ) → m rest ≡ true → BeginsWith front rest) → list_any m (behind_byte c path) ≡ true → BeginsWith (c ∷ front) path
byte_begins c front m [] ih h = absurd cc
byte_begins c front m (d ∷ path) ih h =
    let both = sym (one_any m (c == d) path) ∙ h in
    let same = same_byte c d (and_left (c == d) (m path) both) in
    let rest = ih path (and_right (c == d) (m path) both) in
    (rest.0, ap (λ (l : List ℕ). d ∷ l) rest.1 ∙ ap (λ (x : ℕ). x ∷ (front ++ rest.0)) (sym same))

front_begins : (front more path : List ℕ) → list_any is_wild front ≡ false → matches (front ++ more) path ≡ true → BeginsWith front path
front_begins [] more path p h = (path, refl)
front_begins (c ∷ front) more path p h =
    let wild = or_left (is_wild c) (list_any is_wild front) p in
    let rest = or_right (is_wild c) (list_any is_wild front) p in
    let e = or_left (c == 42) (c == 63) wild in
    let f = or_right (c == 42) (c == 63) wild in
    byte_begins c front (matches (front ++ more)) path (λ left m. front_begins front more left rest m)
    (ap (list_any (matches (front ++ more))) (sym (plain c path e f)) ∙ h)

pub head_begins : (pattern path : List ℕ) (n : ℕ) → list_any is_wild (take n pattern) ≡ false → matches pattern path ≡ true → begins_with (take n pattern) path ≡ true
head_begins pattern path n p h =
    begun (take n pattern) path (front_begins (take n pattern) (drop n pattern) path p (ap (λ l. matches l path) (take-append-drop n pattern) ∙ h))

-- heads

any_more : (test : List ℕ → Bool) (xs : List (List ℕ)) (y : List ℕ) → list_any test (xs ++ y ∷ []) ≡ (list_any test xs || test y)
any_more test [] y = or_none (test y)
  where
    or_none : (b : Bool) → (b || false) ≡ b
    or_none true = refl
    or_none false = refl
any_more test (x ∷ xs) y = ap (λ b. test x || b) (any_more test xs y) ∙ or_assoc (test x) (list_any test xs) (test y)
  where
    or_assoc : (a b c : Bool) → (a || (b || c)) ≡ ((a || b) || c)
    or_assoc true b c = refl
    or_assoc false b c = refl

-- one of these heads, or the one behind them
pub either_head : (heads : List (List ℕ)) (head path : List ℕ) → begun_by (heads ++ head ∷ []) path ≡ (begun_by heads path || begins_with head path)
either_head heads head path = any_more (λ h. begins_with h path) heads head

-- a head that begins with another one isn't missed
pub begun_through : (heads : List (List ℕ)) (head path : List ℕ) → begun_by heads head ≡ true → begins_with head path ≡ true → begun_by heads path ≡ true
begun_through [] head path h b = h
begun_through (x ∷ heads) head path h b = elim (either_way (begins_with x head)) [
  | inl e ↦ or_first (begins_with x path) (begun_by heads path) (begun x path (through x head path (begins x head e) (begins head path b)))
  | inr e ↦ or_later (begins_with x path) (begun_by heads path) (begun_through heads head path (from_or (begins_with x head) (begun_by heads head) h e) b)
]

-- one more pattern
pub heads_next : (globs : List (List ℕ)) (i : ℕ) (glob : List ℕ) (old new : List (List ℕ)) → glob ≡ get_or globs i glob → i < length globs → ((path : List ℕ) → matches_any (take i globs) path ≡ true → begun_by old path ≡ true)
    → ((path : List ℕ) → begun_by old path ≡ true → begun_by new path ≡ true) → ((path : List ℕ) → matches glob path ≡ true → begun_by new path ≡ true)
    → (path : List ℕ) → matches_any (take (i + 1) globs) path ≡ true → begun_by new path ≡ true
heads_next globs i glob old new is lt inv kept added path h =
    let split : (matches_any (take i globs) path || matches glob path) ≡ true =
    sym (ap (λ l. matches_any l path) (take_more globs i glob lt ∙ ap (λ y. take i globs ++ y ∷ []) (sym is)) ∙ any_more (λ g. matches g path) (take i globs) glob) ∙ h in
    elim (either_way (matches_any (take i globs) path)) [
      | inl e ↦ kept path (inv path e)
      | inr e ↦ added path (from_or (matches_any (take i globs) path) (matches glob path) split e)
    ]
