-- Patterns and the rests of a path, byte by byte.
use Rattle.std.proofs.Common.{◌≡◌, replicate, refl, sym, ◌∙◌, ap, arith, ℕ, zero, suc, ◌+◌, ◌-◌, ◌<◌, ◌≤◌, Bool, true, false, not, ◌&&◌, ◌||◌, ◌==◌, List, [], ◌∷◌, ◌++◌, length, take, drop, get_or, append_assoc, length-append, add-one, append-nil, inl, inr, if◌then◌else◌}
use Rattle.std.specs.List.{list_any}
use Rattle.std.proofs.Math.Seq.{drop-cons, get_or-append_seam}
use Rattle.std.proofs.Math.ListN.{get_or-append}
use Rattle.std.proofs.lemmas.Bool.{cases_Bool}
use Rattle.std.proofs.lemmas.List.{take-append-drop, length-drop, drop_all, get_or_default}
use Rattle.load_model.specs.Paths.{is_slash}
use Rattle.load_model.specs.Patterns.{matches, behind_runs, behind_one, behind_byte, behind_character, goes_on}
use Rattle.layer_conf.specs.Rows.{rows, cell_of}

or_false : (b : Bool) → (b || false) ≡ b
or_false true = refl
or_false false = refl

-- one byte that is no wildcard

-- the row of the empty pattern

pub one_more_false : (n : ℕ) → replicate n false ++ false ∷ [] ≡ replicate (suc n) false
one_more_false zero = refl
one_more_false (suc n) = ap (λ l. false ∷ l) (one_more_false n)

pub first_row : (path : List ℕ) → rows [] path ≡ true ∷ replicate (length path) false
first_row [] = refl
first_row (c ∷ path) = ap (λ l. l ++ false ∷ []) (first_row path) ∙ ap (λ l. true ∷ l) (one_more_false (length path))

-- a row has a place for each number of bytes that are left
pub rows_long : (pattern path : List ℕ) → length (rows pattern path) ≡ suc (length path)
rows_long pattern [] = refl
rows_long pattern (c ∷ path) = length-append (rows pattern path) (matches pattern (c ∷ path) ∷ []) ∙ ap (λ n. n + 1) (rows_long pattern path) ∙ add-one (suc (length path))

-- at its end stands whether the whole path matches
pub rows_last : (pattern path : List ℕ) → get_or (rows pattern path) (length path) false ≡ matches pattern path
rows_last pattern [] = refl
rows_last pattern (c ∷ path) =
    ap (λ n. get_or (rows pattern path ++ matches pattern (c ∷ path) ∷ []) n false) (sym (rows_long pattern path))
    ∙ get_or-append_seam (rows pattern path) (matches pattern (c ∷ path)) [] false

-- what stands there for a rest of the path
pub rows_in : (pattern front path : List ℕ) → get_or (rows pattern (front ++ path)) (length path) false ≡ matches pattern path
rows_in pattern [] path = rows_last pattern path
rows_in pattern (c ∷ front) path =
    get_or-append (rows pattern (front ++ path)) (matches pattern (c ∷ (front ++ path)) ∷ []) false (length path) (within front path)
    ∙ rows_in pattern front path
  where
    within : (front path : List ℕ) → length path < length (rows pattern (front ++ path))
    within front path =
        let n = rows_long pattern (front ++ path) in
        let m = length-append front path in omega arith

-- one character is a front
pub character_cut : (path : List ℕ) → (front : List ℕ) × (path ≡ front ++ behind_character path)
character_cut [] = ([], refl)
character_cut (c ∷ path) = elim (cases_Bool (goes_on c)) [
  | inl e ↦ let more = character_cut path in (c ∷ more.0, rw (behind_character, e) (ap (λ l. c ∷ l) more.1))
  | inr e ↦ ([], rw (behind_character, e) refl)
]

-- what a character's later bytes leave
pub later_step : (c : ℕ) (path : List ℕ) (n later : ℕ) → later ≡ length (behind_character path) → n ≡ length path → (if goes_on c then later else n + 1) ≡ length (behind_character (c ∷ path))
later_step c path n later e m = elim (cases_Bool (goes_on c)) [
  | inl f ↦ rw (behind_character, f) e
  | inr f ↦ rw (behind_character, f) (ap (λ k. k + 1) m ∙ add-one (length path))
]

-- one cell

star_cell : (m : List ℕ → Bool) (next : ℕ) (path : List ℕ) → (m (next ∷ path) || (not (is_slash next) && list_any m (behind_runs path))) ≡ list_any m (behind_runs (next ∷ path))
star_cell m next path = elim (cases_Bool (is_slash next)) [
  | inl e ↦ rw (behind_runs, e) refl
  | inr e ↦ rw (behind_runs, e) refl
]

one_cell : (m : List ℕ → Bool) (next : ℕ) (path : List ℕ) → (not (is_slash next) && m (behind_character path)) ≡ list_any m (behind_one (next ∷ path))
one_cell m next path = elim (cases_Bool (is_slash next)) [
  | inl e ↦ rw e refl
  | inr e ↦ rw e (sym (or_false (m (behind_character path))))
]

byte_cell : (m : List ℕ → Bool) (byte next : ℕ) (path : List ℕ) → (byte == next && m path) ≡ list_any m (behind_byte byte (next ∷ path))
byte_cell m byte next path = elim (cases_Bool (byte == next)) [
  | inl e ↦ rw e (sym (or_false (m path)))
  | inr e ↦ rw e refl
]

cell_is : (byte next : ℕ) (pattern path : List ℕ) → cell_of byte next (matches pattern (next ∷ path)) (matches pattern path) (matches pattern (behind_character path)) (matches (byte ∷ pattern) path) ≡ matches (byte ∷ pattern) (next ∷ path)
cell_is byte next pattern path = elim (cases_Bool (byte == 42)) [
  | inl e ↦ rw e (star_cell (matches pattern) next path)
  | inr e ↦ elim (cases_Bool (byte == 63)) [
    | inl f ↦ rw (e, f) (one_cell (matches pattern) next path)
    | inr f ↦ rw (e, f) (byte_cell (matches pattern) byte next path)
  ]
]

-- the cell of one byte more of the path
pub next_cell : (byte next : ℕ) (pattern front path : List ℕ) (row made : List Bool) (later : ℕ) → row ≡ rows pattern (front ++ next ∷ path) → made ≡ rows (byte ∷ pattern) path → later ≡ length (behind_character path)
    → cell_of byte next (get_or row (length path + 1) false) (get_or row (length path) false) (get_or row later false) (get_or made (length path) false) ≡ matches (byte ∷ pattern) (next ∷ path)
next_cell byte next pattern front path row made later e m k =
    let whole : get_or row (length path + 1) false ≡ matches pattern (next ∷ path) =
    ap (λ n. get_or row n false) (add-one (length path)) ∙ ap (λ r. get_or r (suc (length path)) false) e ∙ rows_in pattern front (next ∷ path) in
    let behind : get_or row (length path) false ≡ matches pattern path =
    ap (λ r. get_or r (length path) false) (e ∙ ap (rows pattern) (sym (append_assoc front (next ∷ []) path))) ∙ rows_in pattern (front ++ next ∷ []) path in
    let cut = character_cut path in
    let last : get_or row later false ≡ matches pattern (behind_character path) =
    ap (λ n. get_or row n false) k
    ∙ ap (λ r. get_or r (length (behind_character path)) false) (e ∙ ap (λ l. rows pattern (front ++ next ∷ l)) cut.1 ∙ ap (rows pattern) (sym (append_assoc front (next ∷ cut.0) (behind_character path))))
    ∙ rows_in pattern (front ++ next ∷ cut.0) (behind_character path) in
    let again : get_or made (length path) false ≡ matches (byte ∷ pattern) path = ap (λ r. get_or r (length path) false) m ∙ rows_last (byte ∷ pattern) path in
    ap (λ b. cell_of byte next b (get_or row (length path) false) (get_or row later false) (get_or made (length path) false)) whole
    ∙ ap (λ b. cell_of byte next (matches pattern (next ∷ path)) b (get_or row later false) (get_or made (length path) false)) behind
    ∙ ap (λ b. cell_of byte next (matches pattern (next ∷ path)) (matches pattern path) b (get_or made (length path) false)) last
    ∙ ap (λ b. cell_of byte next (matches pattern (next ∷ path)) (matches pattern path) (matches pattern (behind_character path)) b) again
    ∙ cell_is byte next pattern path

-- the cell where nothing of the path is left
pub end_cell : (byte : ℕ) (pattern : List ℕ) → (byte == 42 && matches pattern []) ≡ matches (byte ∷ pattern) []
end_cell byte pattern = elim (cases_Bool (byte == 42)) [
  | inl e ↦ rw e (sym (or_false (matches pattern [])))
  | inr e ↦ elim (cases_Bool (byte == 63)) [
    | inl f ↦ rw (e, f) refl
    | inr f ↦ rw (e, f) refl
  ]
]

-- the row of a pattern with one byte more in front

pub row_start : (byte : ℕ) (pattern path : List ℕ) (row made : List Bool) (cell : Bool) → row ≡ rows pattern path → cell ≡ (byte == 42 && get_or row 0 false) → made ≡ cell ∷ [] → made ≡ rows (byte ∷ pattern) (drop (length path - 0) path)
row_start byte pattern path row made cell e c m =
    let none : drop (length path - 0) path ≡ [] = drop_all (length path - 0) path (omega arith) in
    let first : get_or row 0 false ≡ matches pattern [] = ap (λ r. get_or r 0 false) (e ∙ ap (rows pattern) (sym (append-nil path))) ∙ rows_in pattern path [] in
    m ∙ ap (λ b. b ∷ []) (c ∙ ap (λ b. byte == 42 && b) first ∙ end_cell byte pattern) ∙ ap (rows (byte ∷ pattern)) (sym none)

pub rest_next : (path : List ℕ) (left : ℕ) → left < length path → drop (length path - (left + 1)) path ≡ get_or path (length path - 1 - left) 0 ∷ drop (length path - left) path
rest_next path left lt =
    let one : length path - (left + 1) ≡ length path - 1 - left = omega arith in
    let two : suc (length path - (left + 1)) ≡ length path - left = omega arith in
    drop-cons path (length path - (left + 1)) 0 (omega arith)
    ∙ ap (λ i. get_or path i 0 ∷ drop (suc (length path - (left + 1))) path) one
    ∙ ap (λ i. get_or path (length path - 1 - left) 0 ∷ drop i path) two

rest_long : (path : List ℕ) (left : ℕ) → left < length path → left ≡ length (drop (length path - left) path)
rest_long path left lt = let d = length-drop (length path - left) path in omega arith

pub row_next : (byte next : ℕ) (pattern path : List ℕ) (row made made' : List Bool) (left later : ℕ) (cell : Bool) → left < length path → next ≡ get_or path (length path - 1 - left) 0 → row ≡ rows pattern path → made ≡ rows (byte ∷ pattern) (drop (length path - left) path) → later ≡ length (behind_character (drop (length path - left) path))
    → cell ≡ cell_of byte next (get_or row (left + 1) false) (get_or row left false) (get_or row later false) (get_or made left false) → made' ≡ made ++ cell ∷ [] → made' ≡ rows (byte ∷ pattern) (drop (length path - (left + 1)) path)
row_next byte next pattern path row made made' left later cell lt is e m k c m' =
    let i = length path - (left + 1) in
    let rest = drop (length path - left) path in
    let split : drop i path ≡ next ∷ rest = rest_next path left lt ∙ ap (λ n. n ∷ rest) (sym is) in
    let whole : path ≡ take i path ++ next ∷ rest = sym (take-append-drop i path) ∙ ap (λ l. take i path ++ l) split in
    let made_is = next_cell byte next pattern (take i path) rest row made later (e ∙ ap (rows pattern) whole) m k in
    m' ∙ ap (λ b. made ++ b ∷ []) (c ∙ ap (λ n. cell_of byte next (get_or row (n + 1) false) (get_or row n false) (get_or row later false) (get_or made n false)) (rest_long path left lt) ∙ made_is)
    ∙ ap (λ l. l ++ matches (byte ∷ pattern) (next ∷ rest) ∷ []) m
    ∙ ap (rows (byte ∷ pattern)) (sym split)

-- how many bytes a character leaves
pub later_next : (path : List ℕ) (next left later later' : ℕ) → left < length path → next ≡ get_or path (length path - 1 - left) 0 → later ≡ length (behind_character (drop (length path - left) path)) → later' ≡ (if goes_on next then later else left + 1) → later' ≡ length (behind_character (drop (length path - (left + 1)) path))
later_next path next left later later' lt is k e =
    e ∙ later_step next (drop (length path - left) path) left later k (rest_long path left lt)
    ∙ ap (λ l. length (behind_character l)) (ap (λ n. n ∷ drop (length path - left) path) is ∙ sym (rest_next path left lt))

pub later_within : (b : Bool) (left later later' : ℕ) → later ≤ left → later' ≡ (if b then later else left + 1) → later' ≤ left + 1
later_within true left later later' le e = omega arith
later_within false left later later' le e = omega arith

pub none_later : (path : List ℕ) → 0 ≡ length (behind_character (drop (length path - 0) path))
none_later path = ap (λ l. length (behind_character l)) (sym (drop_all (length path - 0) path (omega arith)))

pub one_longer : (made made' : List Bool) (cell : Bool) (n : ℕ) → made' ≡ made ++ cell ∷ [] → length made ≡ n → length made' ≡ n + 1
one_longer made made' cell n e k = ap length e ∙ length-append made (cell ∷ []) ∙ ap (λ i. i + 1) k

pub row_is_long : (pattern path : List ℕ) (row : List Bool) → row ≡ rows pattern path → length row ≡ length path + 1
row_is_long pattern path row e = ap length e ∙ rows_long pattern path ∙ sym (add-one (length path))

-- a whole path matches
pub row_answer : (pattern path : List ℕ) (row : List Bool) (left : ℕ) (answer : Bool) → left ≤ 0 → row ≡ rows (drop left pattern) path → answer ≡ get_or row (length path) answer → answer ≡ matches pattern path
row_answer pattern path row left answer z e is =
    let none : left ≡ 0 = omega arith in
    let long = row_is_long (drop left pattern) path row e in
    is ∙ get_or_default row (length path) answer false (omega arith)
    ∙ ap (λ r. get_or r (length path) false) (e ∙ ap (λ n. rows (drop n pattern) path) none) ∙ rows_last pattern path
