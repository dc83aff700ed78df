-- Which lines of told names count for a name.
use Rattle.std.proofs.Common.{◌≡◌, refl, sym, ◌∙◌, ap, subst, ℕ, Bool, true, false, not, ◌||◌, ◌&&◌, inl, inr, map, fold, List, [], ◌∷◌, ◌++◌, append_assoc, append-nil, length, nat_le, flat_map, filter, Option, Some, None, is_some, bytes_eq, codes, if◌then◌else◌, Result, Ok, Err, is_ok}
use Rattle.std.specs.List.{list_all}
use Rattle.std.proofs.lemmas.List.Elements.{filter-append}
use Rattle.meta_model.proofs.Bools.{not_both, either_way, both, and_left, and_right, from_or, or_left, or_right, or_first, or_later, same_text, text_itself, differs}
use Rattle.meta_model.proofs.Room.{ok_parts}
use Rattle.meta_model.specs.declared.entry.EntryLine.{EntryLine}
use Rattle.meta_model.specs.declared.entry.EntryLine.TheVariants.{Set, Later, Flag, Unset, UnsetFlag, Exported, Task, NoTask}
use Rattle.meta_model.specs.declared.entry.Op.TheVariants.{Set as Assign, Weak}
use Rattle.meta_model.specs.declared.entry.LateLine.{LateLine}
use Rattle.meta_model.specs.Refusal.{Refusal, ◌>>=◌}
use Rattle.meta_model.specs.Text.{holds, is_in, is_empty}
use Rattle.meta_model.specs.Slot.{Slot, nothing, is_set}
use Rattle.meta_model.specs.Base.{value_after, flag_after, flag_from, lates_after, value_slot, flag_slot, lates, flags_of, is_left}
use Rattle.meta_model.specs.Expansion.{longest, values_by}
use Rattle.meta_model.specs.Active.{expand, find_in}
use Rattle.meta_model.specs.Frozen.{Move, stays, moves, target_of, holds_reference, given, told_flag, conditions, told_lates, told, told_all, lines_where, is_task_line}
use Rattle.var_expand.proofs.Expanding.{plain_text}
use Rattle.value_maps.specs.Named.{subject}
use Rattle.value_maps.specs.Plain.{is_plain_text, is_plain_late}

-- names that are told again, and all names

kept_head : (t : Result (List ℕ) Refusal) (m : Result (List Move) Refusal) (r : List ℕ → Bool) (n : List ℕ) → r n ≡ true
    → (t >>= (λ target. (m >>= (λ all. Ok (filter (λ move. r move.source) all))) >>= (λ others. Ok ((let made : Move = record { source = n; target = target } in made) ∷ others))))
    ≡ ((t >>= (λ target. m >>= (λ others. Ok ((let made : Move = record { source = n; target = target } in made) ∷ others)))) >>= (λ all. Ok (filter (λ move. r move.source) all)))
kept_head (Err refusal) m r n h = refl
kept_head (Ok target) (Err refusal) r n h = refl
kept_head (Ok target) (Ok all) r n h = rw h refl

passed_head : (m : Result (List Move) Refusal) (r : List ℕ → Bool) (n : List ℕ) → r n ≡ false
    → (m >>= (λ all. Ok (filter (λ move. r move.source) all))) ≡ ((m >>= (λ others. Ok ((let made : Move = record { source = n; target = n } in made) ∷ others))) >>= (λ all. Ok (filter (λ move. r move.source) all)))
passed_head (Err refusal) r n h = refl
passed_head (Ok all) r n h = rw h refl

pub moves_filtered : (list : List EntryLine) (r : List ℕ → Bool) (ns : List (List ℕ)) → ((n : List ℕ) → is_in n ns ≡ true → r n ≡ false → holds_reference n ≡ false)
    → moves list (filter r ns) ≡ (moves list ns >>= (λ all. Ok (filter (λ move. r move.source) all)))
moves_filtered list r [] h = refl
moves_filtered list r (n ∷ ns) h =
    let later : (x : List ℕ) → is_in x ns ≡ true → r x ≡ false → holds_reference x ≡ false = λ x i. h x (or_later (bytes_eq x n) (is_in x ns) i) in
    elim (either_way (r n)) [
      | inl t ↦ rw t (ap (λ m. target_of list n (holds_reference n) >>= (λ target. m >>= (λ others. Ok ((let made : Move = record { source = n; target = target } in made) ∷ others)))) (moves_filtered list r ns later)
          ∙ kept_head (target_of list n (holds_reference n)) (moves list ns) r n t)
      | inr t ↦ rw (t, h n (or_first (bytes_eq n n) (is_in n ns) (text_itself n)) t) (moves_filtered list r ns later ∙ passed_head (moves list ns) r n t)
    ]

told_head : (t : Result (List EntryLine) Refusal) (m : Result (List (Move × List EntryLine)) Refusal) (q : Move → Bool) (move : Move) → q move ≡ true
    → (t >>= (λ first. (m >>= (λ all. Ok (filter (λ e. q e.0) all))) >>= (λ rest. Ok ((move, first) ∷ rest))))
    ≡ ((t >>= (λ first. m >>= (λ rest. Ok ((move, first) ∷ rest)))) >>= (λ all. Ok (filter (λ e. q e.0) all)))
told_head (Err refusal) m q move h = refl
told_head (Ok first) (Err refusal) q move h = refl
told_head (Ok first) (Ok all) q move h = rw h refl

told_passed : (t : Result (List EntryLine) Refusal) (m : Result (List (Move × List EntryLine)) Refusal) (q : Move → Bool) (move : Move) → q move ≡ false → is_ok t ≡ true
    → (m >>= (λ all. Ok (filter (λ e. q e.0) all))) ≡ ((t >>= (λ first. m >>= (λ rest. Ok ((move, first) ∷ rest)))) >>= (λ all. Ok (filter (λ e. q e.0) all)))
told_passed (Err refusal) m q move h o = absurd cc
told_passed (Ok first) (Err refusal) q move h o = refl
told_passed (Ok first) (Ok all) q move h o = rw h refl

pub told_filtered : (list : List EntryLine) (q : Move → Bool) (ms : List Move) → ((move : Move) → q move ≡ false → is_ok (told list move) ≡ true)
    → told_all list (filter q ms) ≡ (told_all list ms >>= (λ all. Ok (filter (λ e. q e.0) all)))
told_filtered list q [] h = refl
told_filtered list q (move ∷ ms) h = elim (either_way (q move)) [
  | inl t ↦ rw t (ap (λ m. told list move >>= (λ first. m >>= (λ rest. Ok ((move, first) ∷ rest)))) (told_filtered list q ms h) ∙ told_head (told list move) (told_all list ms) q move t)
  | inr t ↦ rw t (told_filtered list q ms h ∙ told_passed (told list move) (told_all list ms) q move t (h move t))
]

-- what entries make of a name and of a flag of it

abbrev pub State : Type 0
State = Slot × (List LateLine × Slot)

abbrev pub step : List ℕ → List ℕ → State → EntryLine → State
step n f s l = (value_after n s.0 l, (lates_after n s.1.0 l, flag_after n f s.0 s.1.1 l))

abbrev pub run : List ℕ → List ℕ → State → List EntryLine → State
run n f s [] = s
run n f s (l ∷ ls) = run n f (step n f s l) ls

abbrev pub begin : State
begin = (nothing, ([], nothing))

pub run_is : (n f : List ℕ) (ls : List EntryLine) (v : Slot) (a : List LateLine) (s : Slot) → run n f (v, (a, s)) ls ≡ (fold (value_after n) v ls, (fold (lates_after n) a ls, flag_from n f v s ls))
run_is n f [] v a s = refl
run_is n f (l ∷ ls) v a s = run_is n f ls (value_after n v l) (lates_after n a l) (flag_after n f v s l)

pub run_append : (n f : List ℕ) (s : State) (a b : List EntryLine) → run n f s (a ++ b) ≡ run n f (run n f s a) b
run_append n f s [] b = refl
run_append n f s (l ∷ a) b = run_append n f (step n f s l) a b

-- a line of a name, and of no task
abbrev pub is_line_of : List ℕ → EntryLine → Bool
is_line_of t l = bytes_eq (subject l) t && not (is_task_line l)

step_other : (n f : List ℕ) (s : State) (l : EntryLine) → bytes_eq (subject l) n ≡ false → step n f s l ≡ s
step_other n f s (Set m op text) h = rw h refl
step_other n f s (Later m kind when text) h = rw h refl
step_other n f s (Flag m g op text) h = rw h refl
step_other n f s (Unset m) h = rw h refl
step_other n f s (UnsetFlag m g) h = rw h refl
step_other n f s (Exported class m) h = rw h refl
step_other n f s (Task m after before) h = refl
step_other n f s (NoTask m) h = refl

run_other : (n f : List ℕ) (s : State) (t : List ℕ) (ls : List EntryLine) → list_all (is_line_of t) ls ≡ true → bytes_eq t n ≡ false → run n f s ls ≡ s
run_other n f s t [] h d = refl
run_other n f s t (l ∷ ls) h d =
    let one = and_left (is_line_of t l) (list_all (is_line_of t) ls) h in
    let of_t = and_left (bytes_eq (subject l) t) (not (is_task_line l)) one in
    ap (λ x. run n f x ls) (step_other n f s l (subst (λ u. bytes_eq u n ≡ false) (sym (same_text (subject l) t of_t)) d)) ∙ run_other n f s t ls (and_right (is_line_of t l) (list_all (is_line_of t) ls) h) d

-- what names tell, each with lines of its target

abbrev pub Told : Type 0
Told = List (Move × List EntryLine)

abbrev pub of_targets : Told → Bool
of_targets told = list_all (λ e. list_all (is_line_of e.0.target) e.1) told

abbrev pub sources : Told → List (List ℕ)
sources told = map (λ e. e.0.source) told

-- each source stands once
abbrev pub Once : List (List ℕ) → Type 0
Once [] = Unit {0}
Once (x ∷ xs) = (is_in x xs ≡ false) × Once xs

where_absent : (p : Move → Bool) → ((m : Move) → p m ≡ true → stays m ≡ true) → (n f : List ℕ) (s : State) (all : Told) → of_targets all ≡ true → is_in n (sources all) ≡ false → run n f s (lines_where p all) ≡ s
where_absent p still n f s [] h d = refl
where_absent p still n f s (e ∷ es) h d =
    let own = and_left (list_all (is_line_of e.0.target) e.1) (of_targets es) h in
    let rest = and_right (list_all (is_line_of e.0.target) e.1) (of_targets es) h in
    let here = or_left (bytes_eq n e.0.source) (is_in n (sources es)) d in
    let later = or_right (bytes_eq n e.0.source) (is_in n (sources es)) d in
    elim (either_way (p e.0)) [
      | inl t ↦ rw t (run_append n f s e.1 (lines_where p es)
          ∙ ap (λ x. run n f x (lines_where p es)) (run_other n f s e.0.target e.1 own (subst (λ u. bytes_eq u n ≡ false) (same_text e.0.source e.0.target (still e.0 t)) (differs n e.0.source here)))
          ∙ where_absent p still n f s es rest later)
      | inr t ↦ rw t (where_absent p still n f s es rest later)
    ]

-- the lines of one source, where it passes a test
abbrev pub part : (Move → Bool) → List ℕ → Told → List EntryLine
part p n [] = []
part p n (e ∷ es) = if bytes_eq n e.0.source then (if p e.0 then e.1 else []) else part p n es

-- only the lines of a name count for it
pub run_where : (p : Move → Bool) → ((m : Move) → p m ≡ true → stays m ≡ true) → (n f : List ℕ) (s : State) (all : Told) → of_targets all ≡ true → Once (sources all) → run n f s (lines_where p all) ≡ run n f s (part p n all)
run_where p still n f s [] h d = refl
run_where p still n f s (e ∷ es) h d =
    let own = and_left (list_all (is_line_of e.0.target) e.1) (of_targets es) h in
    let rest = and_right (list_all (is_line_of e.0.target) e.1) (of_targets es) h in
    elim (either_way (bytes_eq n e.0.source)) [
      | inl same ↦
          let none : is_in n (sources es) ≡ false = subst (λ t. is_in t (sources es) ≡ false) (sym (same_text n e.0.source same)) d.0 in
          elim (either_way (p e.0)) [
            | inl t ↦ rw (same, t) (run_append n f s e.1 (lines_where p es) ∙ where_absent p still n f (run n f s e.1) es rest none)
            | inr t ↦ rw (same, t) (where_absent p still n f s es rest none)
          ]
      | inr other ↦ elim (either_way (p e.0)) [
        | inl t ↦ rw (other, t) (run_append n f s e.1 (lines_where p es)
            ∙ ap (λ x. run n f x (lines_where p es)) (run_other n f s e.0.target e.1 own (subst (λ u. bytes_eq u n ≡ false) (same_text e.0.source e.0.target (still e.0 t)) (differs n e.0.source other)))
            ∙ run_where p still n f s es rest d.1)
        | inr t ↦ rw (other, t) (run_where p still n f s es rest d.1)
      ]
    ]

pub part_same : (p q : Move → Bool) (n : List ℕ) (all : Told) → ((m : Move) → m.source ≡ n → p m ≡ q m) → part p n all ≡ part q n all
part_same p q n [] h = refl
part_same p q n (e ∷ es) h = elim (either_way (bytes_eq n e.0.source)) [
  | inl t ↦ rw (t, h e.0 (sym (same_text n e.0.source t))) refl
  | inr t ↦ rw t (part_same p q n es h)
]

pub part_none : (p : Move → Bool) (n : List ℕ) (all : Told) → ((m : Move) → m.source ≡ n → p m ≡ false) → part p n all ≡ []
part_none p n [] h = refl
part_none p n (e ∷ es) h = elim (either_way (bytes_eq n e.0.source)) [
  | inl t ↦ rw (t, h e.0 (sym (same_text n e.0.source t))) refl
  | inr t ↦ rw t (part_none p n es h)
]

pub where_filtered : (p q : Move → Bool) (all : Told) → lines_where p (filter (λ e. q e.0) all) ≡ lines_where (λ m. p m && q m) all
where_filtered p q [] = refl
where_filtered p q (e ∷ es) = elim (either_way (q e.0)) [
  | inl t ↦ elim (either_way (p e.0)) [
    | inl u ↦ rw (t, u) (ap (λ l. e.1 ++ l) (where_filtered p q es))
    | inr u ↦ rw (t, u) (where_filtered p q es)
  ]
  | inr t ↦ elim (either_way (p e.0)) [
    | inl u ↦ rw (t, u) (where_filtered p q es)
    | inr u ↦ rw (t, u) (where_filtered p q es)
  ]
]

pub where_moving : (q : Move → Bool) (all : Told) → list_all (λ e. q e.0 || stays e.0) all ≡ true → lines_where (λ m. not (stays m)) (filter (λ e. q e.0) all) ≡ lines_where (λ m. not (stays m)) all
where_moving q [] h = refl
where_moving q (e ∷ es) h =
    let one = and_left (q e.0 || stays e.0) (list_all (λ x. q x.0 || stays x.0) es) h in
    let rest = and_right (q e.0 || stays e.0) (list_all (λ x. q x.0 || stays x.0) es) h in
    elim (either_way (q e.0)) [
      | inl t ↦ elim (either_way (stays e.0)) [
        | inl u ↦ rw (t, u) (where_moving q es rest)
        | inr u ↦ rw (t, u) (ap (λ l. e.1 ++ l) (where_moving q es rest))
      ]
      | inr t ↦ rw (t, from_or (q e.0) (stays e.0) one t) (where_moving q es rest)
    ]

pub all_mapped : (t : Move → Bool) (all : Told) → list_all (λ e. t e.0) all ≡ list_all t (map (λ e. e.0) all)
all_mapped t [] = refl
all_mapped t (e ∷ es) = ap (λ b. t e.0 && b) (all_mapped t es)

-- entries of tasks change nothing of a name
pub run_tasks : (n f : List ℕ) (s : State) (list : List EntryLine) → run n f s (filter is_task_line list) ≡ s
run_tasks n f s [] = refl
run_tasks n f s (Set m op text ∷ rest) = run_tasks n f s rest
run_tasks n f s (Later m kind when text ∷ rest) = run_tasks n f s rest
run_tasks n f s (Flag m g op text ∷ rest) = run_tasks n f s rest
run_tasks n f s (Unset m ∷ rest) = run_tasks n f s rest
run_tasks n f s (UnsetFlag m g ∷ rest) = run_tasks n f s rest
run_tasks n f s (Exported class m ∷ rest) = run_tasks n f s rest
run_tasks n f s (Task m after before ∷ rest) = run_tasks n f s rest
run_tasks n f s (NoTask m ∷ rest) = run_tasks n f s rest

-- all lines that a name tells are of its target

all_append : (t : List ℕ) (a b : List EntryLine) → list_all (is_line_of t) a ≡ true → list_all (is_line_of t) b ≡ true → list_all (is_line_of t) (a ++ b) ≡ true
all_append t [] b h k = k
all_append t (l ∷ a) b h k = both (is_line_of t l) (list_all (is_line_of t) (a ++ b)) (and_left (is_line_of t l) (list_all (is_line_of t) a) h) (all_append t a b (and_right (is_line_of t l) (list_all (is_line_of t) a) h) k)

all_given : (t : List ℕ) (line : List ℕ → EntryLine) (o : Option (List ℕ)) → ((text : List ℕ) → is_line_of t (line text) ≡ true) → list_all (is_line_of t) (given line o) ≡ true
all_given t line None h = refl
all_given t line (Some text) h = both (is_line_of t (line text)) true (h text) refl

itself : (t : List ℕ) → (bytes_eq t t && true) ≡ true
itself t = both (bytes_eq t t) true (text_itself t) refl

all_flag : (list : List EntryLine) (move : Move) (f : List ℕ) → list_all (is_line_of move.target) (told_flag list move f) ≡ true
all_flag list move f =
    let t = move.target in
    let slot = flag_slot list move.source f in
    both (is_line_of t (UnsetFlag t f)) (list_all (is_line_of t) (given (Flag t f Assign) slot.value ++ given (Flag t f Weak) slot.weak)) (itself t)
    (all_append t (given (Flag t f Assign) slot.value) (given (Flag t f Weak) slot.weak) (all_given t (Flag t f Assign) slot.value (λ text. itself t)) (all_given t (Flag t f Weak) slot.weak (λ text. itself t)))

all_flags : (list : List EntryLine) (move : Move) (fs : List (List ℕ)) → list_all (is_line_of move.target) (flat_map (told_flag list move) fs) ≡ true
all_flags list move [] = refl
all_flags list move (f ∷ fs) = all_append move.target (told_flag list move f) (flat_map (told_flag list move) fs) (all_flag list move f) (all_flags list move fs)

all_lates : (list : List EntryLine) (t : List ℕ) (ls : List LateLine) (made : List EntryLine) → told_lates list t ls ≡ Ok made → list_all (is_line_of t) made ≡ true
all_lates list t [] made e = let same : [] ≡ made = cc in subst (λ l. list_all (is_line_of t) l ≡ true) same refl
all_lates list t (l ∷ ls) made e =
    let first = ok_parts (conditions list l.when) (λ when. told_lates list t ls >>= (λ rest. Ok (Later t l.kind when l.text ∷ rest))) made e in
    let second = ok_parts (told_lates list t ls) (λ rest. Ok (Later t l.kind first.0 l.text ∷ rest)) made first.2 in
    let same : Later t l.kind first.0 l.text ∷ second.0 ≡ made = (let h = second.2 in cc) in
    subst (λ x. list_all (is_line_of t) x ≡ true) same (both (is_line_of t (Later t l.kind first.0 l.text)) (list_all (is_line_of t) second.0) (itself t) (all_lates list t ls second.0 second.1))

abbrev pub value_told : List ℕ → Slot → List EntryLine
value_told t slot = given (Set t Assign) slot.value ++ given (Set t Weak) slot.weak

-- what a name tells, in its parts
pub told_parts : (list : List EntryLine) (move : Move) (made : List EntryLine) → told list move ≡ Ok made
    → (late : List EntryLine) × (told_lates list move.target (lates list move.source) ≡ Ok late) × ((given (Set move.target Assign) (value_slot list move.source).value ++ given (Set move.target Weak) (value_slot list move.source).weak ++ flat_map (told_flag list move) (flags_of list move.source) ++ late) ≡ made)
told_parts list move made e =
    let slot = value_slot list move.source in
    let parts = ok_parts (told_lates list move.target (lates list move.source)) (λ late. Ok (given (Set move.target Assign) slot.value ++ given (Set move.target Weak) slot.weak ++ flat_map (told_flag list move) (flags_of list move.source) ++ late)) made e in
    (parts.0, parts.1, (let h = parts.2 in cc))

pub told_of : (list : List EntryLine) (move : Move) (made : List EntryLine) → told list move ≡ Ok made → list_all (is_line_of move.target) made ≡ true
told_of list move made e =
    let t = move.target in
    let slot = value_slot list move.source in
    let p = told_parts list move made e in
    let flags = flat_map (told_flag list move) (flags_of list move.source) in
    subst (λ l. list_all (is_line_of t) l ≡ true) p.2
    (all_append t (given (Set t Assign) slot.value ++ given (Set t Weak) slot.weak ++ flags) p.0
    (all_append t (given (Set t Assign) slot.value ++ given (Set t Weak) slot.weak) flags
    (all_append t (given (Set t Assign) slot.value) (given (Set t Weak) slot.weak) (all_given t (Set t Assign) slot.value (λ text. itself t)) (all_given t (Set t Weak) slot.weak (λ text. itself t)))
    (all_flags list move (flags_of list move.source)))
    (all_lates list t (lates list move.source) p.0 p.1))

-- what all names tell

one_told : (list : List EntryLine) (move : Move) (ms : List Move) (all : Told) → told_all list (move ∷ ms) ≡ Ok all
    → (first : List EntryLine) × (told list move ≡ Ok first) × (rest : Told) × (told_all list ms ≡ Ok rest) × (((move, first) ∷ rest) ≡ all)
one_told list move ms all e =
    let a = ok_parts (told list move) (λ first. told_all list ms >>= (λ rest. Ok ((move, first) ∷ rest))) all e in
    let b = ok_parts (told_all list ms) (λ rest. Ok ((move, a.0) ∷ rest)) all a.2 in
    (a.0, a.1, b.0, b.1, (let h = b.2 in cc))

pub told_targets : (list : List EntryLine) (ms : List Move) (all : Told) → told_all list ms ≡ Ok all → of_targets all ≡ true
told_targets list [] all e = let same : [] ≡ all = cc in subst (λ l. of_targets l ≡ true) same refl
told_targets list (move ∷ ms) all e =
    let p = one_told list move ms all e in
    subst (λ l. of_targets l ≡ true) p.4 (both (list_all (is_line_of move.target) p.0) (of_targets p.2) (told_of list move p.0 p.1) (told_targets list ms p.2 p.3))

pub told_moves : (list : List EntryLine) (ms : List Move) (all : Told) → told_all list ms ≡ Ok all → map (λ e. e.0) all ≡ ms
told_moves list [] all e = let same : [] ≡ all = cc in ap (map (λ x. x.0)) (sym same)
told_moves list (move ∷ ms) all e = let p = one_told list move ms all e in ap (map (λ x. x.0)) (sym p.4) ∙ ap (λ l. move ∷ l) (told_moves list ms p.2 p.3)

one_move : (list : List EntryLine) (n : List ℕ) (ns : List (List ℕ)) (ms : List Move) → moves list (n ∷ ns) ≡ Ok ms
    → (t : List ℕ) × (target_of list n (holds_reference n) ≡ Ok t) × (rest : List Move) × (moves list ns ≡ Ok rest) × (((let made : Move = record { source = n; target = t } in made) ∷ rest) ≡ ms)
one_move list n ns ms e =
    let a = ok_parts (target_of list n (holds_reference n)) (λ target. moves list ns >>= (λ others. Ok ((let made : Move = record { source = n; target = target } in made) ∷ others))) ms e in
    let b = ok_parts (moves list ns) (λ others. Ok ((let made : Move = record { source = n; target = a.0 } in made) ∷ others)) ms a.2 in
    (a.0, a.1, b.0, b.1, (let h = b.2 in cc))

pub move_sources : (list : List EntryLine) (ns : List (List ℕ)) (ms : List Move) → moves list ns ≡ Ok ms → map (λ m. m.source) ms ≡ ns
move_sources list [] ms e = let same : [] ≡ ms = cc in ap (map (λ m. m.source)) (sym same)
move_sources list (n ∷ ns) ms e = let p = one_move list n ns ms e in ap (map (λ m. m.source)) (sym p.4) ∙ ap (λ l. n ∷ l) (move_sources list ns p.2 p.3)

plain_target : (list : List EntryLine) (n t : List ℕ) → holds_reference n ≡ false → target_of list n (holds_reference n) ≡ Ok t → n ≡ t
plain_target list n t h e = let f : target_of list n false ≡ Ok t = rw h at e in (let g : (let r : Result (List ℕ) Refusal = Ok n in r) ≡ Ok t = f in cc)

-- names that aren't told again stay
pub plain_stay : (list : List EntryLine) (r : List ℕ → Bool) (ns : List (List ℕ)) (ms : List Move) → ((n : List ℕ) → is_in n ns ≡ true → r n ≡ false → holds_reference n ≡ false) → moves list ns ≡ Ok ms → list_all (λ m. r m.source || stays m) ms ≡ true
plain_stay list r [] ms h e = let same : [] ≡ ms = cc in subst (λ l. list_all (λ m. r m.source || stays m) l ≡ true) same refl
plain_stay list r (n ∷ ns) ms h e =
    let p = one_move list n ns ms e in
    let rest = plain_stay list r ns p.2 (λ x i. h x (or_later (bytes_eq x n) (is_in x ns) i)) p.3 in
    let here : (r n || bytes_eq n p.0) ≡ true = elim (either_way (r n)) [
      | inl t ↦ or_first (r n) (bytes_eq n p.0) t
      | inr t ↦ or_later (r n) (bytes_eq n p.0) (subst (λ x. bytes_eq n x ≡ true) (plain_target list n p.0 (h n (or_first (bytes_eq n n) (is_in n ns) (text_itself n)) t) p.1) (text_itself n))
    ] in
    subst (λ l. list_all (λ m. r m.source || stays m) l ≡ true) p.4 (both (r n || bytes_eq n p.0) (list_all (λ m. r m.source || stays m) p.2) here rest)

abbrev pub to_itself : List ℕ → Move
to_itself n = record { source = n; target = n }

-- what a name without references tells
pub part_told : (list : List EntryLine) (n : List ℕ) (ns : List (List ℕ)) (ms : List Move) (all : Told) → holds_reference n ≡ false → moves list ns ≡ Ok ms → told_all list ms ≡ Ok all → is_in n ns ≡ true → told list (to_itself n) ≡ Ok (part stays n all)
part_told list n [] ms all h e t i = not_both false i refl
part_told list n (x ∷ ns) ms all h e t i =
    let p = one_move list x ns ms e in
    let move : Move = record { source = x; target = p.0 } in
    let q = one_told list move p.2 all (subst (λ l. told_all list l ≡ Ok all) (sym p.4) t) in
    let made : part stays n ((move, q.0) ∷ q.2) ≡ part stays n all = ap (part stays n) q.4 in
    elim (either_way (bytes_eq n x)) [
      | inl same ↦
          let is : n ≡ x = same_text n x same in
          let goes : x ≡ p.0 = plain_target list x p.0 (subst (λ z. holds_reference z ≡ false) is h) p.1 in
          let stay : bytes_eq x p.0 ≡ true = subst (λ z. bytes_eq x z ≡ true) goes (text_itself x) in
          let here : part stays n ((move, q.0) ∷ q.2) ≡ q.0 = rw (same, stay) refl in
          let source : to_itself n ≡ move = ap to_itself is ∙ ap (λ z. let m : Move = record { source = x; target = z } in m) goes in
          ap (told list) source ∙ q.1 ∙ ap Ok (sym here ∙ made)
      | inr other ↦
          let here : part stays n ((move, q.0) ∷ q.2) ≡ part stays n q.2 = rw other refl in
          part_told list n ns p.2 q.2 h p.3 q.3 (from_or (bytes_eq n x) (is_in n ns) i other) ∙ ap Ok (sym here ∙ made)
    ]

pub part_absent : (p : Move → Bool) (n : List ℕ) (all : Told) → is_in n (sources all) ≡ false → part p n all ≡ []
part_absent p n [] h = refl
part_absent p n (e ∷ es) h = rw (or_left (bytes_eq n e.0.source) (is_in n (sources es)) h) (part_absent p n es (or_right (bytes_eq n e.0.source) (is_in n (sources es)) h))

-- a slot as a name tells it

abbrev pub clean : Slot → Slot
clean slot = record { value = slot.value; weak = slot.weak; exported = false }

abbrev slot_with : Option (List ℕ) → Option (List ℕ) → Slot
slot_with v w = record { value = v; weak = w; exported = false }

run_value : (n f : List ℕ) (v : Option (List ℕ)) (x : List LateLine × Slot) → run n f (nothing, x) (given (Set n Assign) v) ≡ (slot_with v None, x)
run_value n f None x = refl
run_value n f (Some text) x = rw (text_itself n) refl

run_weak : (n f : List ℕ) (v w : Option (List ℕ)) (x : List LateLine × Slot) → run n f (slot_with v None, x) (given (Set n Weak) w) ≡ (slot_with v w, x)
run_weak n f v None x = refl
run_weak n f v (Some text) x = rw (text_itself n) refl

run_flag : (n f g : List ℕ) (v w : Option (List ℕ)) (x : Slot) (a : List LateLine) (s : Slot) → run n f (x, (a, s)) (UnsetFlag n g ∷ (given (Flag n g Assign) v ++ given (Flag n g Weak) w)) ≡ (x, (a, if bytes_eq g f then slot_with v w else s))
run_flag n f g None None x a s = elim (either_way (bytes_eq g f)) [ inl t ↦ rw (text_itself n, t) refl | inr t ↦ rw (text_itself n, t) refl ]
run_flag n f g (Some v) None x a s = elim (either_way (bytes_eq g f)) [ inl t ↦ rw (text_itself n, t) refl | inr t ↦ rw (text_itself n, t) refl ]
run_flag n f g None (Some w) x a s = elim (either_way (bytes_eq g f)) [ inl t ↦ rw (text_itself n, t) refl | inr t ↦ rw (text_itself n, t) refl ]
run_flag n f g (Some v) (Some w) x a s = elim (either_way (bytes_eq g f)) [ inl t ↦ rw (text_itself n, t) refl | inr t ↦ rw (text_itself n, t) refl ]

run_flags : (list : List EntryLine) (n f : List ℕ) (fs : List (List ℕ)) (x : Slot) (a : List LateLine) (s : Slot) → run n f (x, (a, s)) (flat_map (told_flag list (to_itself n)) fs) ≡ (x, (a, if is_in f fs then clean (flag_slot list n f) else s))
run_flags list n f [] x a s = refl
run_flags list n f (g ∷ fs) x a s =
    let slot = flag_slot list n g in
    let rest = flat_map (told_flag list (to_itself n)) fs in
    run_append n f (x, (a, s)) (told_flag list (to_itself n) g) rest ∙ ap (λ y. run n f y rest) (run_flag n f g slot.value slot.weak x a s)
    ∙ run_flags list n f fs x a (if bytes_eq g f then clean slot else s) ∙ elim (either_way (bytes_eq f g)) [
      | inl t ↦ elim (either_way (is_in f fs)) [
        | inl i ↦ rw (t, i) refl
        | inr i ↦ rw (t, subst (λ y. bytes_eq g y ≡ true) (sym (same_text f g t)) (text_itself g), i) (ap (λ y. (x, (a, clean (flag_slot list n y)))) (sym (same_text f g t)))
      ]
      | inr t ↦ rw (t, differs f g t) refl
    ]

-- late entries whose conditions expansion leaves as they are

plain_expand : (list : List EntryLine) (t : List ℕ) → is_plain_text t ≡ true → expand list t ≡ Ok t
plain_expand list t h =
    let none : holds (codes "${") t ≡ false = not_false (holds (codes "${") t) (and_left (not (holds (codes "${") t)) (nat_le (length t) longest) h) in
    let fits : nat_le (length t) longest ≡ true = and_right (not (holds (codes "${") t)) (nat_le (length t) longest) h in
    plain_text (values_by (find_in list)) [] t none ∙ rw fits refl
  where
    not_false : (b : Bool) → not b ≡ true → b ≡ false
    not_false true e = absurd cc
    not_false false e = refl

plain_conditions : (list : List EntryLine) (when : List (List ℕ)) → list_all is_plain_text when ≡ true → conditions list when ≡ Ok when
plain_conditions list [] h = refl
plain_conditions list (t ∷ when) h =
    ap (λ m. m >>= (λ first. conditions list when >>= (λ rest. Ok (first ∷ rest)))) (plain_expand list t (and_left (is_plain_text t) (list_all is_plain_text when) h))
    ∙ ap (λ m. m >>= (λ rest. Ok (t ∷ rest))) (plain_conditions list when (and_right (is_plain_text t) (list_all is_plain_text when) h))

abbrev later : List ℕ → LateLine → EntryLine
later t l = Later t l.kind l.when l.text

pub plain_lates : (list : List EntryLine) (t : List ℕ) (ls : List LateLine) → list_all is_plain_late ls ≡ true → told_lates list t ls ≡ Ok (map (later t) ls)
plain_lates list t [] h = refl
plain_lates list t (l ∷ ls) h =
    ap (λ m. m >>= (λ when. told_lates list t ls >>= (λ rest. Ok (Later t l.kind when l.text ∷ rest)))) (plain_conditions list l.when (and_left (is_plain_late l) (list_all is_plain_late ls) h))
    ∙ ap (λ m. m >>= (λ rest. Ok (later t l ∷ rest))) (plain_lates list t ls (and_right (is_plain_late l) (list_all is_plain_late ls) h))

-- what has only such late entries is told
pub told_plain : (list : List EntryLine) (move : Move) → list_all is_plain_late (lates list move.source) ≡ true → is_ok (told list move) ≡ true
told_plain list move h = ap (λ m. is_ok (m >>= (λ late. let made : Result (List EntryLine) Refusal = Ok (given (Set move.target Assign) (value_slot list move.source).value ++ given (Set move.target Weak) (value_slot list move.source).weak ++ flat_map (told_flag list move) (flags_of list move.source) ++ late) in made))) (plain_lates list move.target (lates list move.source) h)

run_lates : (n f : List ℕ) (ls : List LateLine) (x : Slot) (a : List LateLine) (s : Slot) → run n f (x, (a, s)) (map (later n) ls) ≡ (x, (a ++ ls, s))
run_lates n f [] x a s = ap (λ l. (x, (l, s))) (sym (append-nil a))
run_lates n f (l ∷ ls) x a s =
    ap (λ y. run n f (x, (y, s)) (map (later n) ls)) (let grown : (if bytes_eq n n then a ++ l ∷ [] else a) ≡ a ++ l ∷ [] = rw (text_itself n) refl in grown)
    ∙ run_lates n f ls x (a ++ l ∷ []) s ∙ ap (λ y. (x, (y, s))) (append_assoc a (l ∷ []) ls)

-- what a plain name tells makes of it what it had
pub run_told : (list : List EntryLine) (n f : List ℕ) (made : List EntryLine) → told list (to_itself n) ≡ Ok made → list_all is_plain_late (lates list n) ≡ true
    → run n f begin made ≡ (clean (value_slot list n), (lates list n, if is_in f (flags_of list n) then clean (flag_slot list n f) else nothing))
run_told list n f made e h =
    let p = told_parts list (to_itself n) made e in
    let slot = value_slot list n in
    let set = given (Set n Assign) slot.value in
    let weak = given (Set n Weak) slot.weak in
    let flags = flat_map (told_flag list (to_itself n)) (flags_of list n) in
    let late : map (later n) (lates list n) ≡ p.0 = (let same = sym (plain_lates list n (lates list n) h) ∙ p.1 in cc) in
    let flag = if is_in f (flags_of list n) then clean (flag_slot list n f) else nothing in
    ap (run n f begin) (sym p.2) ∙ ap (λ l. run n f begin (set ++ weak ++ flags ++ l)) (sym late)
    ∙ run_append n f begin (set ++ weak ++ flags) (map (later n) (lates list n))
    ∙ ap (λ y. run n f y (map (later n) (lates list n)))
    (run_append n f begin (set ++ weak) flags ∙ ap (λ y. run n f y flags) (run_append n f begin set weak ∙ ap (λ y. run n f y weak) (run_value n f slot.value ([], nothing)) ∙ run_weak n f slot.value slot.weak ([], nothing))
    ∙ run_flags list n f (flags_of list n) (slot_with slot.value slot.weak) [] nothing)
    ∙ run_lates n f (lates list n) (clean slot) [] flag

-- what isn't set is nothing
pub unset_clean : (slot : Slot) → is_set slot ≡ false → clean slot ≡ nothing
unset_clean slot h = at slot.value slot.weak h
  where
    at : (v w : Option (List ℕ)) → (is_some v || is_some w) ≡ false → slot_with v w ≡ nothing
    at None None e = refl
    at None (Some w) e = absurd cc
    at (Some v) w e = absurd cc

empty_is : {A : Type 0} (l : List A) → not (is_empty l) ≡ false → l ≡ []
empty_is [] h = refl
empty_is (x ∷ l) h = absurd cc

-- of a name of which nothing is left there is nothing
pub gone_is : (list : List EntryLine) (n f : List ℕ) → is_left list n ≡ false → (clean (value_slot list n) ≡ nothing) × ((lates list n ≡ []) × ((if is_in f (flags_of list n) then clean (flag_slot list n f) else nothing) ≡ nothing))
gone_is list n f h =
    let value = is_set (value_slot list n) in
    let late = not (is_empty (lates list n)) in
    let flags = not (is_empty (flags_of list n)) in
    let rest = or_right value (late || flags) h in
    (unset_clean (value_slot list n) (or_left value (late || flags) h), (empty_is (lates list n) (or_left late flags rest), rw (empty_is (flags_of list n) (or_right late flags rest)) refl))

-- no line of a name is one of a task

no_tasks : (t : List ℕ) (ls : List EntryLine) → list_all (is_line_of t) ls ≡ true → filter is_task_line ls ≡ []
no_tasks t [] h = refl
no_tasks t (l ∷ ls) h =
    let one = and_right (bytes_eq (subject l) t) (not (is_task_line l)) (and_left (is_line_of t l) (list_all (is_line_of t) ls) h) in
    rw (not_true (is_task_line l) one) (no_tasks t ls (and_right (is_line_of t l) (list_all (is_line_of t) ls) h))
  where
    not_true : (b : Bool) → not b ≡ true → b ≡ false
    not_true true e = absurd cc
    not_true false e = refl

pub where_tasks : (p : Move → Bool) (all : Told) → of_targets all ≡ true → filter is_task_line (lines_where p all) ≡ []
where_tasks p [] h = refl
where_tasks p (e ∷ es) h =
    let own = and_left (list_all (is_line_of e.0.target) e.1) (of_targets es) h in
    let rest = where_tasks p es (and_right (list_all (is_line_of e.0.target) e.1) (of_targets es) h) in
    elim (either_way (p e.0)) [
      | inl t ↦ rw t (filter-append is_task_line e.1 (lines_where p es) ∙ ap (λ l. l ++ filter is_task_line (lines_where p es)) (no_tasks e.0.target e.1 own) ∙ rest)
      | inr t ↦ rw t rest
    ]

pub tasks_again : (list : List EntryLine) → filter is_task_line (filter is_task_line list) ≡ filter is_task_line list
tasks_again [] = refl
tasks_again (Set m op text ∷ rest) = tasks_again rest
tasks_again (Later m kind when text ∷ rest) = tasks_again rest
tasks_again (Flag m g op text ∷ rest) = tasks_again rest
tasks_again (Unset m ∷ rest) = tasks_again rest
tasks_again (UnsetFlag m g ∷ rest) = tasks_again rest
tasks_again (Exported class m ∷ rest) = tasks_again rest
tasks_again (Task m after before ∷ rest) = ap (λ l. Task m after before ∷ l) (tasks_again rest)
tasks_again (NoTask m ∷ rest) = ap (λ l. NoTask m ∷ l) (tasks_again rest)
