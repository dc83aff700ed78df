-- Names, conditions and lines, one after another.
use Rattle.std.proofs.Common.{◌≡◌, refl, sym, ◌∙◌, ap, subst, ℕ, ◌+◌, ◌<◌, Bool, true, false, not, map, List, [], ◌∷◌, ◌++◌, length, get_or, drop, flat_map, filter, Result, Ok, Err, append_assoc}
use Rattle.meta_model.specs.declared.entry.EntryLine.{EntryLine}
use Rattle.meta_model.specs.declared.entry.EntryLine.TheVariants.{Set, Later}
use Rattle.meta_model.specs.declared.entry.Op.TheVariants.{Set as Assign, Weak}
use Rattle.meta_model.specs.declared.entry.LateLine.{LateLine}
use Rattle.meta_model.specs.Refusal.{Refusal, value_cycle, too_deep, too_long, unstable, ◌>>=◌}
use Rattle.meta_model.specs.Base.{value_slot, lates, flags_of, names}
use Rattle.meta_model.specs.Frozen.{Move, stays, moves, target_of, holds_reference, given, told_flag, conditions, told_lates, told, told_all, lines_where, is_task_line, frozen}
use Rattle.var_expand.specs.declared.fault.ExpandFault.{ExpandFault}
use Rattle.var_expand.specs.declared.fault.ExpandFault.TheVariants as expand
use Rattle.var_expand.specs.Faults.{IsFaultOf}
use Rattle.datastore.specs.declared.fault.DataFault.{DataFault}
use Rattle.datastore.specs.declared.fault.DataFault.TheVariants.{Unstable, Expand, Memory}
use Rattle.datastore.specs.Faults.{IsDataFault}
use Rattle.value_maps.specs.Telling.{move_of, named_lines}
use Rattle.datastore.specs.Telling.{IsPushed, parted}
use Rattle.meta_model.specs.Passing.{behind}
use Rattle.meta_model.proofs.Passing.{next_of}

-- faults

expand_on : {A B : Type 0} (fault : ExpandFault) (m : Result A Refusal) (f : A → Result B Refusal) → IsFaultOf fault m → IsFaultOf fault (m >>= f)
expand_on (expand.ValueCycle name) m f e = ap (λ k. k >>= f) e
expand_on (expand.TooDeep name) m f e = ap (λ k. k >>= f) e
expand_on (expand.TooLong name) m f e = ap (λ k. k >>= f) e
expand_on (expand.Unstable before last) m f e = ap (λ k. k >>= f) e
expand_on expand.Memory m f e = tt

-- a fault of the first answer is one of the whole
pub fault_on : {A B : Type 0} (fault : DataFault) (m : Result A Refusal) (f : A → Result B Refusal) → IsDataFault fault m → IsDataFault fault (m >>= f)
fault_on (Unstable before last) m f e = ap (λ k. k >>= f) e
fault_on (Expand fault) m f e = expand_on fault m f e
fault_on Memory m f e = tt

abbrev answer : {A : Type 0} → A → Result A Refusal
answer a = Ok a

abbrev fails : {A : Type 0} → Refusal → Result A Refusal
fails refusal = Err refusal

-- an answer that is no refusal has no fault but want of memory
no_expand : {A B : Type 0} (fault : ExpandFault) (a : A) (n : Result B Refusal) → IsFaultOf fault (answer a) → IsFaultOf fault n
no_expand (expand.ValueCycle name) a n h = absurd cc
no_expand (expand.TooDeep name) a n h = absurd cc
no_expand (expand.TooLong name) a n h = absurd cc
no_expand (expand.Unstable before last) a n h = absurd cc
no_expand expand.Memory a n h = tt

pub no_fault : {A B : Type 0} (fault : DataFault) (a : A) (n : Result B Refusal) → IsDataFault fault (answer a) → IsDataFault fault n
no_fault (Unstable before last) a n h = absurd cc
no_fault (Expand fault) a n h = no_expand fault a n h
no_fault Memory a n h = tt

-- a refusal is one for answers of any type
refusal_at : (A B : Type 0) (x r : Refusal) → fails {A = A} x ≡ fails {A = A} r → fails {A = B} x ≡ fails {A = B} r
refusal_at A B x r e = let same : x ≡ r = cc in ap (λ z. fails z) same

same_expand : (A B : Type 0) (fault : ExpandFault) (refusal : Refusal) → IsFaultOf fault (fails {A = A} refusal) → IsFaultOf fault (fails {A = B} refusal)
same_expand A B (expand.ValueCycle name) refusal h = refusal_at A B refusal (value_cycle name) h
same_expand A B (expand.TooDeep name) refusal h = refusal_at A B refusal (too_deep name) h
same_expand A B (expand.TooLong name) refusal h = refusal_at A B refusal (too_long name) h
same_expand A B (expand.Unstable before last) refusal h = refusal_at A B refusal (unstable before last) h
same_expand A B expand.Memory refusal h = tt

same_refusal : (A B : Type 0) (fault : DataFault) (refusal : Refusal) → IsDataFault fault (fails {A = A} refusal) → IsDataFault fault (fails {A = B} refusal)
same_refusal A B (Unstable before last) refusal h = refusal_at A B refusal (unstable before last) h
same_refusal A B (Expand fault) refusal h = same_expand A B fault refusal h
same_refusal A B Memory refusal h = tt

pub fault_same : {A : Type 0} (fault : DataFault) (m n : Result A Refusal) → m ≡ n → IsDataFault fault n → IsDataFault fault m
fault_same fault m n e h = subst (IsDataFault fault) (sym e) h

-- a list that goes on behind what is there

behind_next : {A : Type 0} (before : List A) (x : A) (more : Result (List A) Refusal) → behind before (more >>= (λ rest. Ok (x ∷ rest))) ≡ behind (before ++ x ∷ []) more
behind_next before x (Ok rest) = ap Ok (sym (append_assoc before (x ∷ []) rest))
behind_next before x (Err refusal) = refl

-- one more of such a list, which is made of the first of what is left
pub one_more : {A B : Type 0} (make : B → Result A Refusal) (all : List B → Result (List A) Refusal) → ((b : B) (rest : List B) → all (b ∷ rest) ≡ (make b >>= (λ a. all rest >>= (λ more. Ok (a ∷ more)))))
    → (before : List A) (b : B) (rest : List B) (a : A) → make b ≡ Ok a → behind before (all (b ∷ rest)) ≡ behind (before ++ a ∷ []) (all rest)
one_more make all is before b rest a e = ap (behind before) (is b rest ∙ ap (λ m. m >>= (λ x. all rest >>= (λ more. Ok (x ∷ more)))) e) ∙ behind_next before a (all rest)

-- a fault of the first of what is left is one of all
pub one_fault : {A B : Type 0} (make : B → Result A Refusal) (all : List B → Result (List A) Refusal) → ((b : B) (rest : List B) → all (b ∷ rest) ≡ (make b >>= (λ a. all rest >>= (λ more. Ok (a ∷ more)))))
    → (whole : Result (List A) Refusal) (before : List A) (b : B) (rest : List B) (fault : DataFault) → whole ≡ behind before (all (b ∷ rest)) → IsDataFault fault (make b) → IsDataFault fault whole
one_fault make all is whole before b rest fault e h =
    fault_same fault whole (behind before (all (b ∷ rest))) e
    (fault_on fault (all (b ∷ rest)) (λ more. Ok (before ++ more)) (fault_same fault (all (b ∷ rest)) (make b >>= (λ a. all rest >>= (λ more. Ok (a ∷ more)))) (is b rest) (fault_on fault (make b) (λ a. all rest >>= (λ more. Ok (a ∷ more))) h)))

-- a fault of the first name that moves is one of all
pub move_fault : (list : List EntryLine) (whole : Result (List Move) Refusal) (before : List Move) (name : List ℕ) (rest : List (List ℕ)) (fault : DataFault) → whole ≡ behind before (moves list (name ∷ rest))
    → IsDataFault fault (target_of list name (holds_reference name)) → IsDataFault fault whole
move_fault list whole before name rest fault e h =
    fault_same fault whole (behind before (moves list (name ∷ rest))) e
    (fault_on fault (moves list (name ∷ rest)) (λ more. Ok (before ++ more)) (fault_on fault (target_of list name (holds_reference name)) (λ target. moves list rest >>= (λ others. Ok (record { source = name; target = target } ∷ others))) h))

-- one more name that moves
pub move_more : (list : List EntryLine) (before : List Move) (name : List ℕ) (rest : List (List ℕ)) (target : List ℕ) → target_of list name (holds_reference name) ≡ Ok target
    → behind before (moves list (name ∷ rest)) ≡ behind (before ++ record { source = name; target = target } ∷ []) (moves list rest)
move_more list before name rest target e =
    ap (λ m. behind before (m >>= (λ t. moves list rest >>= (λ others. Ok (record { source = name; target = t } ∷ others))))) e ∙ behind_next before (record { source = name; target = target }) (moves list rest)

-- a late entry, as one of another name
abbrev pub late_made : List EntryLine → List ℕ → LateLine → Result EntryLine Refusal
late_made list target line = conditions list line.when >>= (λ when. Ok (Later target line.kind when line.text))

lates_at : {A B C : Type 0} (m : Result A Refusal) (f : A → B) (g : B → Result C Refusal) → (m >>= (λ a. g (f a))) ≡ ((m >>= (λ a. Ok (f a))) >>= g)
lates_at (Ok a) f g = refl
lates_at (Err refusal) f g = refl

pub lates_are : (list : List EntryLine) (target : List ℕ) (line : LateLine) (lines : List LateLine) → told_lates list target (line ∷ lines) ≡ (late_made list target line >>= (λ a. told_lates list target lines >>= (λ more. Ok (a ∷ more))))
lates_are list target line lines = lates_at (conditions list line.when) (λ when. Later target line.kind when line.text) (λ a. told_lates list target lines >>= (λ more. Ok (a ∷ more)))

pub late_ok : (list : List EntryLine) (target : List ℕ) (line : LateLine) (when : List (List ℕ)) → conditions list line.when ≡ Ok when → late_made list target line ≡ Ok (Later target line.kind when line.text)
late_ok list target line when e = ap (λ m. m >>= (λ w. Ok (Later target line.kind w line.text))) e

-- what a name tells

behind_at : (m : Result (List EntryLine) Refusal) (old n new : List EntryLine) → behind (old ++ n) m ≡ Ok new → behind old (m >>= (λ late. Ok (n ++ late))) ≡ Ok new
behind_at (Ok late) old n new e = ap Ok (sym (append_assoc old n late)) ∙ e
behind_at (Err refusal) old n new e = absurd cc

pub told_ok : (list : List EntryLine) (move : Move) (old middle new : List EntryLine) (late : List LateLine) → middle ≡ old ++ named_lines list move → late ≡ lates list move.source → behind middle (told_lates list move.target late) ≡ Ok new → behind old (told list move) ≡ Ok new
told_ok list move old middle new late e f h =
    behind_at (told_lates list move.target (lates list move.source)) old (named_lines list move) new
    (subst (λ l. behind l (told_lates list move.target (lates list move.source)) ≡ Ok new) e (subst (λ l. behind middle (told_lates list move.target l) ≡ Ok new) f h))

pub told_fault : (list : List EntryLine) (move : Move) (fault : DataFault) → IsDataFault fault (told_lates list move.target (lates list move.source)) → IsDataFault fault (told list move)
told_fault list move fault h = fault_on fault (told_lates list move.target (lates list move.source)) (λ late. Ok (given (Set move.target Assign) (value_slot list move.source).value ++ given (Set move.target Weak) (value_slot list move.source).weak ++ flat_map (told_flag list move) (flags_of list move.source) ++ late)) h

-- all that names tell

stay_next : (m : Result (List (Move × List EntryLine)) Refusal) (s g first : List EntryLine) (move : Move) → stays move ≡ true → parted s g (m >>= (λ rest. Ok ((move, first) ∷ rest))) ≡ parted (s ++ first) g m
stay_next (Ok rest) s g first move h = rw h (ap (λ l. Ok (l, g ++ lines_where (λ m. not (stays m)) rest)) (sym (append_assoc s first (lines_where stays rest))))
stay_next (Err refusal) s g first move h = refl

go_next : (m : Result (List (Move × List EntryLine)) Refusal) (s g first : List EntryLine) (move : Move) → stays move ≡ false → parted s g (m >>= (λ rest. Ok ((move, first) ∷ rest))) ≡ parted s (g ++ first) m
go_next (Ok rest) s g first move h = rw h (ap (λ l. Ok (s ++ lines_where stays rest, l)) (sym (append_assoc g first (lines_where (λ m. not (stays m)) rest))))
go_next (Err refusal) s g first move h = refl

stay_at : (t : Result (List EntryLine) Refusal) (list : List EntryLine) (s g new : List EntryLine) (move : Move) (rest : List Move) → stays move ≡ true → told list move ≡ t → behind s t ≡ Ok new → parted s g (told_all list (move ∷ rest)) ≡ parted new g (told_all list rest)
stay_at (Ok first) list s g new move rest h e n =
    let same : s ++ first ≡ new = cc in
    ap (λ m. parted s g (m >>= (λ f. told_all list rest >>= (λ more. Ok ((move, f) ∷ more))))) e ∙ stay_next (told_all list rest) s g first move h ∙ ap (λ l. parted l g (told_all list rest)) same
stay_at (Err refusal) list s g new move rest h e n = absurd cc

go_at : (t : Result (List EntryLine) Refusal) (list : List EntryLine) (s g new : List EntryLine) (move : Move) (rest : List Move) → stays move ≡ false → told list move ≡ t → behind g t ≡ Ok new → parted s g (told_all list (move ∷ rest)) ≡ parted s new (told_all list rest)
go_at (Ok first) list s g new move rest h e n =
    let same : g ++ first ≡ new = cc in
    ap (λ m. parted s g (m >>= (λ f. told_all list rest >>= (λ more. Ok ((move, f) ∷ more))))) e ∙ go_next (told_all list rest) s g first move h ∙ ap (λ l. parted s l (told_all list rest)) same
go_at (Err refusal) list s g new move rest h e n = absurd cc

pub stay_step : (list : List EntryLine) (s g new : List EntryLine) (move : Move) (rest : List Move) → stays move ≡ true → behind s (told list move) ≡ Ok new → parted s g (told_all list (move ∷ rest)) ≡ parted new g (told_all list rest)
stay_step list s g new move rest h n = stay_at (told list move) list s g new move rest h refl n

pub go_step : (list : List EntryLine) (s g new : List EntryLine) (move : Move) (rest : List Move) → stays move ≡ false → behind g (told list move) ≡ Ok new → parted s g (told_all list (move ∷ rest)) ≡ parted s new (told_all list rest)
go_step list s g new move rest h n = go_at (told list move) list s g new move rest h refl n

-- a fault of what one name tells is one of all
pub parted_fault : (list : List EntryLine) (whole : Result (List (Move × List EntryLine)) Refusal) (s g s' g' : List EntryLine) (move : Move) (rest : List Move) (fault : DataFault) → parted s g whole ≡ parted s' g' (told_all list (move ∷ rest)) → IsDataFault fault (told list move) → IsDataFault fault (parted s g whole)
parted_fault list whole s g s' g' move rest fault e h =
    fault_same fault (parted s g whole) (parted s' g' (told_all list (move ∷ rest))) e
    (fault_on fault (told_all list (move ∷ rest)) (λ told. Ok (s' ++ lines_where stays told, g' ++ lines_where (λ m. not (stays m)) told)) (fault_on fault (told list move) (λ first. told_all list rest >>= (λ more. Ok ((move, first) ∷ more))) h))

-- the frozen entries

pub ok_pair : {A B : Type 0} (a c : A) (b d : B) → answer {A = A × B} (a, b) ≡ answer {A = A × B} (c, d) → (a ≡ c) × (b ≡ d)
ok_pair {A} {B} a c b d e =
    let first : A × B = (a, b) in
    let second : A × B = (c, d) in
    let same : first ≡ second = cc in (ap (λ (p : A × B). p.0) same, ap (λ (p : A × B). p.1) same)

pub moves_fault : (list : List EntryLine) (fault : DataFault) → IsDataFault fault (moves list (names list)) → IsDataFault fault (frozen list)
moves_fault list fault h = fault_on fault (moves list (names list)) (λ a. told_all list a >>= (λ told. Ok (lines_where stays told ++ lines_where (λ move. not (stays move)) told ++ filter is_task_line list))) h

-- what refuses the parted lines refuses the frozen ones
parted_same : (t : Result (List (Move × List EntryLine)) Refusal) (fault : DataFault) (tasks : List EntryLine) → IsDataFault fault (parted [] [] t) → IsDataFault fault (t >>= (λ told. Ok (lines_where stays told ++ lines_where (λ move. not (stays move)) told ++ tasks)))
parted_same (Ok all) fault tasks h = no_fault fault (lines_where stays all, lines_where (λ move. not (stays move)) all) (Ok (lines_where stays all ++ lines_where (λ move. not (stays move)) all ++ tasks)) h
parted_same (Err refusal) fault tasks h = same_refusal (List EntryLine × List EntryLine) (List EntryLine) fault refusal h

pub told_all_fault : (list : List EntryLine) (all : List Move) (fault : DataFault) → moves list (names list) ≡ Ok all → IsDataFault fault (parted [] [] (told_all list all)) → IsDataFault fault (frozen list)
told_all_fault list all fault e h =
    fault_same fault (frozen list) (told_all list all >>= (λ told. Ok (lines_where stays told ++ lines_where (λ move. not (stays move)) told ++ filter is_task_line list)))
    (ap (λ m. m >>= (λ a. told_all list a >>= (λ told. Ok (lines_where stays told ++ lines_where (λ move. not (stays move)) told ++ filter is_task_line list)))) e)
    (parted_same (told_all list all) fault (filter is_task_line list) h)

-- one more name
step_at : (list : List EntryLine) (s g s' g' : List EntryLine) (move : Move) (rest : List Move) (b : Bool) → stays move ≡ b → IsPushed s g s' g' b (told list move) → parted s g (told_all list (move ∷ rest)) ≡ parted s' g' (told_all list rest)
step_at list s g s' g' move rest true h p = stay_step list s g s' move rest h p.0 ∙ ap (λ l. parted s' l (told_all list rest)) (sym p.1)
step_at list s g s' g' move rest false h p = go_step list s g g' move rest h p.0 ∙ ap (λ l. parted l g' (told_all list rest)) (sym p.1)

pub move_step : (list : List EntryLine) (s g s' g' : List EntryLine) (move : Move) (rest : List Move) → IsPushed s g s' g' (stays move) (told list move) → parted s g (told_all list (move ∷ rest)) ≡ parted s' g' (told_all list rest)
move_step list s g s' g' move rest p = step_at list s g s' g' move rest (stays move) refl p

pub map_drop : (xs : List (List ℕ × List ℕ)) (i : ℕ) (x : List ℕ × List ℕ) → x ≡ get_or xs i x → i < length xs → map move_of (drop i xs) ≡ move_of x ∷ map move_of (drop (i + 1) xs)
map_drop xs i x is lt = next_of (map move_of) xs i x is lt

pub late_fault : (list : List EntryLine) (target : List ℕ) (line : LateLine) (fault : DataFault) → IsDataFault fault (conditions list line.when) → IsDataFault fault (late_made list target line)
late_fault list target line fault h = fault_on fault (conditions list line.when) (λ when. Ok (Later target line.kind when line.text)) h

-- what refuses lines behind others refuses the lines
pub behind_fault : (m : Result (List EntryLine) Refusal) (old : List EntryLine) (fault : DataFault) → IsDataFault fault (behind old m) → IsDataFault fault m
behind_fault (Ok lines) old fault h = no_fault fault (old ++ lines) (Ok lines) h
behind_fault (Err refusal) old fault h = same_refusal (List EntryLine) (List EntryLine) fault refusal h

pub told_lates_fault : (list : List EntryLine) (move : Move) (late : List LateLine) (fault : DataFault) → late ≡ lates list move.source → IsDataFault fault (told_lates list move.target late) → IsDataFault fault (told list move)
told_lates_fault list move late fault e h = told_fault list move fault (subst (λ l. IsDataFault fault (told_lates list move.target l)) e h)
