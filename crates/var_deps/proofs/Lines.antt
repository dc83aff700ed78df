-- A key that grows line by line.
use Rattle.std.proofs.Common.{◌≡◌, refl, sym, ◌∙◌, ap, ℕ, Bool, true, false, ◌||◌, List, [], ◌∷◌, ◌++◌, map, Option, Result, Ok, Err, append_assoc, codes}
use Rattle.std.specs.List.{list_any}
use Rattle.meta_model.specs.declared.value.Key.{Key}
use Rattle.meta_model.specs.declared.entry.EntryLine.{EntryLine}
use Rattle.meta_model.specs.Refusal.{Refusal, ◌>>=◌}
use Rattle.meta_model.specs.Text.{is_in}
use Rattle.meta_model.specs.Base.{flag, names}
use Rattle.meta_model.specs.Active.{find_in}
use Rattle.var_expand.specs.declared.fault.ExpandFault.{ExpandFault}
use Rattle.var_expand.specs.Faults.{IsFaultOf}
use Rattle.task_model.specs.Views.{seen_by}
use Rattle.task_model.specs.Leads.{View, Led, starting, value_words, view_of}
use Rattle.task_model.specs.Keys.{Told, lines_of, line_of, reached, led_to, key, key_over, IsLeast}
use Rattle.task_model.proofs.Least.{NoOthers}
use Rattle.task_model.proofs.Leaders.{store_view}
use Rattle.task_model.proofs.KeyNames.{over_view, one_least}
use Rattle.var_deps.specs.Seen.{seen_with}
use Rattle.var_deps.specs.Reading.{view_by}
use Rattle.var_deps.specs.Kept.{key_behind, one_line}
use Rattle.var_expand.proofs.Expanding.{fault_on, fault_same}
use Rattle.var_deps.proofs.Passing.{no_fault, refused_any}
use Rattle.meta_model.proofs.Passing.{goes_on}

or_apart : (a b c : Bool) → (a || (b || c)) ≡ ((a || b) || c)
or_apart true b c = refl
or_apart false b c = refl

or_none : (a : Bool) → (a || false) ≡ a
or_none true = refl
or_none false = refl

key_two : (k : Key) (t : Told) (rest : List Told) → key_behind k (Ok (t ∷ rest)) ≡ key_behind (record { lines = k.lines ++ t.line ∷ []; excluded = k.excluded || (t.left_out || false) }) (Ok rest)
key_two k t rest =
    ap (λ l. Ok (let r : Key = record { lines = l; excluded = k.excluded || (t.left_out || list_any (λ u. u.left_out) rest) } in r)) (sym (append_assoc k.lines (t.line ∷ []) (map (λ u. u.line) rest)))
    ∙ ap (λ b. Ok (let r : Key = record { lines = (k.lines ++ t.line ∷ []) ++ map (λ u. u.line) rest; excluded = b } in r)) (or_apart k.excluded t.left_out (list_any (λ u. u.left_out) rest) ∙ ap (λ b. (k.excluded || b) || list_any (λ u. u.left_out) rest) (sym (or_none t.left_out)))

-- one line more
pub key_step : (k made : Key) (m : Result Told Refusal) (rest : Result (List Told) Refusal) → key_behind k (one_line m) ≡ Ok made → key_behind k (m >>= λ first. rest >>= λ others. Ok (first ∷ others)) ≡ key_behind made rest
key_step k made (Ok t) (Ok rest) e = key_two k t rest ∙ ap (λ j. key_behind j (Ok rest)) (cc)
key_step k made (Ok t) (Err refusal) e = refl
key_step k made (Err refusal) rest e = absurd cc

pub lines_turn : (view : View) (whole : Result Key Refusal) (k made : Key) (all rest : List (List ℕ)) (name : List ℕ) → all ≡ name ∷ rest
    → whole ≡ key_behind k (lines_of view all) → key_behind k (one_line (line_of view name)) ≡ Ok made → whole ≡ key_behind made (lines_of view rest)
lines_turn view whole k made all rest name is w e = w ∙ ap (λ l. key_behind k (lines_of view l)) is ∙ key_step k made (line_of view name) (lines_of view rest) e

fault_front : (fault : ExpandFault) (k : Key) (m : Result (List Told) Refusal) → IsFaultOf fault (key_behind k m) → IsFaultOf fault m
fault_front fault k (Ok told) h = no_fault fault (key_behind k (Ok told)) (record { lines = k.lines ++ map (λ t. t.line) told; excluded = k.excluded || list_any (λ t. t.left_out) told }) (Ok told) refl h
fault_front fault k (Err refusal) h = refused_any Key (List Told) fault refusal h

-- a line that is refused refuses the key
pub key_fault : (fault : ExpandFault) (k : Key) (m : Result (List Told) Refusal) → IsFaultOf fault m → IsFaultOf fault (key_behind k m)
key_fault fault k m h = fault_on fault m (λ told. Ok (let r : Key = record { lines = k.lines ++ map (λ t. t.line) told; excluded = k.excluded || list_any (λ t. t.left_out) told } in r)) h

-- a line that is refused
pub lines_fault : (view : View) (start k : Key) (names all rest : List (List ℕ)) (name : List ℕ) (fault : ExpandFault) → all ≡ name ∷ rest
    → key_behind start (lines_of view names) ≡ key_behind k (lines_of view all) → IsFaultOf fault (line_of view name) → IsFaultOf fault (lines_of view names)
lines_fault view start k names all rest name fault is w h =
    fault_front fault start (lines_of view names) (fault_same fault (key_behind start (lines_of view names)) (key_behind k (lines_of view (name ∷ rest)))
    (w ∙ ap (λ l. key_behind k (lines_of view l)) is)
    (key_fault fault k (lines_of view (name ∷ rest)) (fault_on fault (line_of view name) (λ first. lines_of view rest >>= λ others. Ok (first ∷ others)) h)))

-- the lines of the least set are the key
pub key_is_made : (view : View) → NoOthers view → (start : Led) (names : List (List ℕ)) → starting view ≡ Ok start → IsLeast (led_to view) start.names names
    → key_over view ≡ key_behind (record { lines = []; excluded = start.left_out }) (lines_of view names)
key_is_made view none start names e least =
    let same : reached view start.names ≡ names = one_least (led_to view) start.names (reached view start.names) names (over_view view none start.names) least in
    goes_on (starting view) start (λ s. lines_of view (reached view s.names) >>= λ told. Ok (let r : Key = record { lines = map (λ t. t.line) told; excluded = s.left_out || list_any (λ t. t.left_out) told } in r)) e
    ∙ ap (λ n. key_behind (record { lines = []; excluded = start.left_out }) (lines_of view n)) same

view_at : (store : List EntryLine) (task : List ℕ) (ignored sstate : List (List ℕ)) → value_words store (codes "BB_BASEHASH_IGNORE_VARS") ≡ Ok ignored → value_words store (codes "SSTATETASKS") ≡ Ok sstate → view_of store task ≡ Ok (store_view store task ignored sstate)
view_at store task ignored sstate a b =
    goes_on (value_words store (codes "BB_BASEHASH_IGNORE_VARS")) ignored (λ i. value_words store (codes "SSTATETASKS") >>= λ s. Ok (store_view store task i s)) a
    ∙ goes_on (value_words store (codes "SSTATETASKS")) sstate (λ s. Ok (store_view store task ignored s)) b

-- the key of a task is the key over what is kept
pub key_is : (store : List EntryLine) (task : List ℕ) (own : Option (List ℕ)) (ignored : List (List ℕ)) (sstate : List (List ℕ)) (is : Bool)
    → value_words store (codes "BB_BASEHASH_IGNORE_VARS") ≡ Ok ignored → value_words store (codes "SSTATETASKS") ≡ Ok sstate → is ≡ is_in task sstate → seen_with store own ≡ seen_by task (find_in store)
    → key store task ≡ key_over (view_by store own ignored is task)
key_is store task own ignored sstate is a b c seen =
    ap (λ m. m >>= key_over) (view_at store task ignored sstate a b)
    ∙ ap (λ f. key_over (record { task = task; find = f; flag = flag store; names = names store; ignored = ignored; sstate = is_in task sstate })) (sym seen) ∙ ap (λ s. key_over (view_by store own ignored s task)) (sym c)
