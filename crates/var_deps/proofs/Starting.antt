-- What a key starts with: the task, the functions before and after it, and the exported names.
use Rattle.std.proofs.Common.{◌≡◌, refl, sym, ◌∙◌, ap, ℕ, Bool, true, false, not, is_some, ◌||◌, List, [], ◌∷◌, ◌++◌, filter, map, Result, Ok, Err, append_assoc, append-nil, bytes_eq, codes, if◌then◌else◌}
use Rattle.std.specs.List.{list_any}
use Rattle.meta_model.proofs.Bools.{or_first, text_itself}
use Rattle.meta_model.specs.Refusal.{Refusal, ◌>>=◌}
use Rattle.meta_model.specs.Text.{is_in}
use Rattle.meta_model.specs.Forms.{asked_by}
use Rattle.var_expand.specs.declared.fault.ExpandFault.{ExpandFault}
use Rattle.var_expand.specs.Faults.{IsFaultOf}
use Rattle.meta_model.specs.declared.value.Key.{Key}
use Rattle.task_model.specs.Keys.{key_over, lines_of, reached}
use Rattle.task_model.specs.Leads.{View, Led, exported, flag_words, has_part, is_omitted, starting, without}
use Rattle.var_deps.specs.Exports.{starting_with}
use Rattle.var_deps.specs.Led.{kept_more}
use Rattle.var_deps.proofs.Loops.{filter_more, any_more}
use Rattle.var_expand.proofs.Expanding.{fault_on}
use Rattle.var_deps.proofs.Passing.{no_fault}
use Rattle.meta_model.proofs.Passing.{goes_on}

abbrev pub Names : Type 0
Names = List (List ℕ)

-- the task and these others
abbrev led_by : List ℕ → Led → Led
led_by task others = record { names = task ∷ others.names; left_out = is_some (asked_by task) || others.left_out }

-- two, one behind the other
abbrev both_led : Led → Led → Led
both_led a b = record { names = a.names ++ b.names; left_out = a.left_out || b.left_out }

without_two : (omitted a b : Names) → without omitted (a ++ b) ≡ both_led (without omitted a) (without omitted b)
without_two omitted a b =
    ap (λ l. let r : Led = record { names = filter (λ n. not (is_omitted omitted n)) l; left_out = list_any (is_omitted omitted) l } in r) (filter_more has_part a b)
    ∙ ap (λ l. let r : Led = record { names = l; left_out = list_any (is_omitted omitted) (filter has_part a ++ filter has_part b) } in r) (filter_more (λ n. not (is_omitted omitted n)) (filter has_part a) (filter has_part b))
    ∙ ap (λ o. let r : Led = record { names = (without omitted a).names ++ (without omitted b).names; left_out = o } in r) (any_more (is_omitted omitted) (filter has_part a) (filter has_part b))

-- one name more

or_none : (a : Bool) → (a || false) ≡ a
or_none true = refl
or_none false = refl

or_true : (a : Bool) → (a || true) ≡ true
or_true true = refl
or_true false = refl

abbrev led_with : Names → Bool → Led
led_with names left_out = record { names = names; left_out = left_out }

-- what is taken up of one name that has a part in keys, or has none
abbrev taken : Names → List ℕ → Bool → Led
taken omitted x part = let fit = (if part then x ∷ [] else []) in led_with (filter (λ n. not (is_omitted omitted n)) fit) (list_any (is_omitted omitted) fit)

kept_if : (x : List ℕ) (a : Led) (out : Bool) → both_led a (led_with (if not out then x ∷ [] else []) (out || false)) ≡ (if out then led_with a.names true else led_with (a.names ++ x ∷ []) a.left_out)
kept_if x a true = ap (λ l. led_with l (a.left_out || true)) (append-nil a.names) ∙ ap (led_with a.names) (or_true a.left_out)
kept_if x a false = ap (led_with (a.names ++ x ∷ [])) (or_none a.left_out)

kept_one : (omitted : Names) (x : List ℕ) (a : Led) (part : Bool) → both_led a (taken omitted x part) ≡ (if part then (if is_omitted omitted x then led_with a.names true else led_with (a.names ++ x ∷ []) a.left_out) else a)
kept_one omitted x a true = kept_if x a (is_omitted omitted x)
kept_one omitted x a false = ap (λ l. led_with l (a.left_out || false)) (append-nil a.names) ∙ ap (led_with a.names) (or_none a.left_out)

pub without_more : (omitted names : Names) (x : List ℕ) → without omitted (names ++ x ∷ []) ≡ kept_more omitted x (without omitted names)
without_more omitted names x = without_two omitted names (x ∷ []) ∙ kept_one omitted x (without omitted names) (has_part x)

or_assoc : (a b c : Bool) → (a || (b || c)) ≡ ((a || b) || c)
or_assoc true b c = refl
or_assoc false b c = refl

-- what a key starts with, by the words behind the task and those before it
abbrev begun : List ℕ → Names → Names → Result Names Refusal → Result Names Refusal → Result Led Refusal
begun task ignored names m n = m >>= λ after. n >>= λ before. Ok (led_by task (without ignored (before ++ (after ++ names))))

begun_whole : (task : List ℕ) (ignored names : Names) (m n : Result Names Refusal) (led : Led) → begun task ignored [] m n ≡ Ok led → begun task ignored names m n ≡ Ok (both_led led (without ignored names))
begun_whole task ignored names (Ok after) (Ok before) led e =
    let words = before ++ (after ++ []) in
    let apart : before ++ (after ++ names) ≡ words ++ names = sym (append_assoc before after names) ∙ ap (λ l. (before ++ l) ++ names) (sym (append-nil after)) in
    let is : led_by task (without ignored words) ≡ led = let k : Ok (led_by task (without ignored words)) ≡ Ok led = e in cc in
    ap (λ l. Ok (led_by task l)) (ap (without ignored) apart ∙ without_two ignored words names)
    ∙ ap (λ b. Ok (let r : Led = record { names = task ∷ ((without ignored words).names ++ (without ignored names).names); left_out = b } in r)) (or_assoc (is_some (asked_by task)) (without ignored words).left_out (without ignored names).left_out)
    ∙ ap (λ l. Ok (both_led l (without ignored names))) is
begun_whole task ignored names (Ok after) (Err refusal) led e = absurd cc
begun_whole task ignored names (Err refusal) n led e = absurd cc

begun_fault : (task : List ℕ) (ignored names : Names) (m n : Result Names Refusal) (fault : ExpandFault) → IsFaultOf fault (begun task ignored [] m n) → IsFaultOf fault (begun task ignored names m n)
begun_fault task ignored names (Ok after) (Ok before) fault h = no_fault fault (begun task ignored [] (Ok after) (Ok before)) (led_by task (without ignored (before ++ (after ++ [])))) (begun task ignored names (Ok after) (Ok before)) refl h
begun_fault task ignored names (Ok after) (Err refusal) fault h = h
begun_fault task ignored names (Err refusal) n fault h = h

begun_task : (task : List ℕ) (ignored : Names) (m n : Result Names Refusal) (led : Led) → begun task ignored [] m n ≡ Ok led → is_in task led.names ≡ true
begun_task task ignored (Ok after) (Ok before) led e =
    let is : led_by task (without ignored (before ++ (after ++ []))) ≡ led = let k : Ok (led_by task (without ignored (before ++ (after ++ [])))) ≡ Ok led = e in cc in
    ap (λ l. is_in task l.names) (sym is) ∙ or_first (bytes_eq task task) (is_in task (without ignored (before ++ (after ++ []))).names) (text_itself task)
begun_task task ignored (Ok after) (Err refusal) led e = absurd cc
begun_task task ignored (Err refusal) n led e = absurd cc

-- the start of a key is that without exported names, and these behind it
pub start_whole : (view : View) (led exports : Led) → starting_with view [] ≡ Ok led → exports ≡ without view.ignored (exported view) → starting view ≡ Ok (record { names = led.names ++ exports.names; left_out = led.left_out || exports.left_out })
start_whole view led exports e x =
    begun_whole view.task view.ignored (exported view) (flag_words view view.task (codes "postfuncs")) (flag_words view view.task (codes "prefuncs")) led e
    ∙ ap (λ o. Ok (both_led led o)) (sym x)

start_fault : (view : View) (fault : ExpandFault) → IsFaultOf fault (starting_with view []) → IsFaultOf fault (starting view)
start_fault view fault h = begun_fault view.task view.ignored (exported view) (flag_words view view.task (codes "postfuncs")) (flag_words view view.task (codes "prefuncs")) fault h

-- ... and refuses the key
pub start_refuses : (view : View) (fault : ExpandFault) → IsFaultOf fault (starting_with view []) → IsFaultOf fault (key_over view)
start_refuses view fault h = fault_on fault (starting view) (λ start. lines_of view (reached view start.names) >>= λ told. Ok (let r : Key = record { lines = map (λ t. t.line) told; excluded = start.left_out || list_any (λ t. t.left_out) told } in r)) (start_fault view fault h)

pub task_starts : (view : View) (led : Led) → starting_with view [] ≡ Ok led → is_in view.task led.names ≡ true
task_starts view led e = begun_task view.task view.ignored (flag_words view view.task (codes "postfuncs")) (flag_words view view.task (codes "prefuncs")) led e

-- what the words of the flags are made into
pub start_is : (view : View) (after before words names : Names) (led : Led) → flag_words view view.task (codes "postfuncs") ≡ Ok after → flag_words view view.task (codes "prefuncs") ≡ Ok before
    → words ≡ before ++ after → led ≡ without (view.ignored ++ []) words → names ≡ view.task ∷ led.names → starting_with view [] ≡ Ok (record { names = names; left_out = is_some (asked_by view.task) || led.left_out })
start_is view after before words names led a b w l n =
    let made : Names → Names → Result Led Refusal = λ x y. Ok (led_by view.task (without view.ignored (y ++ (x ++ [])))) in
    goes_on (flag_words view view.task (codes "postfuncs")) after (λ x. flag_words view view.task (codes "prefuncs") >>= λ y. made x y) a
    ∙ goes_on (flag_words view view.task (codes "prefuncs")) before (made after) b
    ∙ ap (λ o. Ok (led_by view.task o)) (sym (l ∙ ap (λ i. without i words) (append-nil view.ignored) ∙ ap (without view.ignored) (w ∙ ap (λ x. before ++ x) (sym (append-nil after)))))
    ∙ ap (λ m. Ok (let r : Led = record { names = m; left_out = is_some (asked_by view.task) || led.left_out } in r)) (sym n)
