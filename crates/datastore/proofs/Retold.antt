-- A store whose names are moved keeps what it had of all names that needn't be told again.
use Rattle.std.proofs.Common.{◌≡◌, refl, sym, ◌∙◌, ap, subst, ℕ, ◌+◌, ◌<◌, Bool, true, false, not, ◌||◌, ◌&&◌, inl, inr, map, fold, List, [], ◌∷◌, ◌++◌, take, drop, length, get_or, filter, Option, is_some, bytes_eq, Result, Ok, Err, append-nil, if◌then◌else◌}
use Rattle.std.specs.List.{list_all}
use Rattle.std.proofs.lemmas.List.{take_more}
use Rattle.meta_model.proofs.Bools.{either_way, and_left, same_text}
use Rattle.meta_model.proofs.Room.{ok_parts}
use Rattle.meta_model.specs.declared.entry.EntryLine.{EntryLine}
use Rattle.meta_model.specs.Refusal.{Refusal, ◌>>=◌}
use Rattle.meta_model.specs.Text.{is_in}
use Rattle.meta_model.specs.Slot.{Slot, nothing}
use Rattle.meta_model.specs.Base.{value_slot, flag_slot, lates, flags_of, is_left, names_in, names}
use Rattle.meta_model.specs.Frozen.{Move, stays, moves, holds_reference, told_all, lines_where, is_task_line, frozen}
use Rattle.value_maps.specs.declared.maps.Maps.{Maps}
use Rattle.value_maps.specs.declared.named.Named.{Named}
use Rattle.datastore.specs.declared.freeze.Anew.{Anew}
use Rattle.value_maps.specs.Named.{slot_at, lates_at, flag_at}
use Rattle.value_maps.specs.Plain.{is_plain_late}
use Rattle.meta_model.specs.Ascending.{Ascending}
use Rattle.value_maps.specs.Keys.{AreKeys}
use Rattle.value_maps.specs.Maps.{named_at, base_of, under_entries, is_anew, Keeps, KeepsBase, IsHidden}
use Rattle.std.specs.Global.{Vec}
use Rattle.std.proofs.lemmas.List.Sums.{fold_push}
use Rattle.std.proofs.lemmas.List.Elements.{filter-append}
use Rattle.datastore.specs.declared.fault.DataFault.{DataFault}
use Rattle.datastore.specs.Faults.{IsDataFault}
use Rattle.datastore.specs.Telling.{parted}
use Rattle.datastore.specs.Store.{all_entries}
use Rattle.datastore.specs.Parts.{moved_with}
use Rattle.datastore.specs.Anew.{or_given, moved, IsAnew}
use Rattle.meta_model.proofs.Ordered.{above_not_in, ordered_in, ordered_ascending, filtered_in, filter_ascending, ascending_same}
use Rattle.value_maps.proofs.Naming.{left_named, left_kept}
use Rattle.value_maps.proofs.Hiding.{unmarked, plain_lates_at, no_reference, plain_of, anew_kept}
use Rattle.datastore.proofs.Freezing.{ok_pair, no_fault, moves_fault, told_all_fault}
use Rattle.datastore.proofs.Retelling.{State, run, begin, run_is, run_append, run_where, run_tasks, run_told, Told, sources, Once, part, part_same, part_none, part_absent, part_told, where_filtered, where_moving, all_mapped, moves_filtered, told_filtered, told_targets, told_moves, move_sources, plain_stay, told_plain, where_tasks, tasks_again, gone_is, clean}
use Rattle.datastore.proofs.Unexported.{clean_is, flag_told_is}

-- the names that are left

pub in_names : (list : List EntryLine) (n : List ℕ) → is_in n (names list) ≡ is_left list n
in_names list n = ordered_in (filter (is_left list) (names_in list)) n ∙ filtered_in (is_left list) (names_in list) n (λ h. left_named list n h)

in_both : (test other : List ℕ → Bool) (xs : List (List ℕ)) (n : List ℕ) → is_in n (filter test xs) ≡ (test n && is_in n xs)
in_both test other [] n = at (test n)
  where
    at : (b : Bool) → false ≡ (b && false)
    at true = refl
    at false = refl
in_both test other (x ∷ xs) n = elim (either_way (bytes_eq n x)) [
  | inl e ↦ elim (either_way (test x)) [
    | inl t ↦ rw (t, e, ap test (same_text n x e) ∙ t) refl
    | inr t ↦ rw (t, e) (in_both test other xs n ∙ ap (λ b. b && is_in n xs) (ap test (same_text n x e) ∙ t) ∙ sym (ap (λ b. b && true) (ap test (same_text n x e) ∙ t)))
  ]
  | inr e ↦ elim (either_way (test x)) [
    | inl t ↦ rw (t, e) (in_both test other xs n)
    | inr t ↦ rw (t, e) (in_both test other xs n)
  ]
]

-- of names that are told again those that are left
pub left_anew : (list : List EntryLine) (maps : Maps) (keys left : List (List ℕ)) → AreKeys keys (is_anew maps) → left ≡ filter (is_left list) keys → left ≡ filter (is_anew maps) (names list)
left_anew list maps keys left all e =
    e ∙ ascending_same (filter (is_left list) keys) (filter (is_anew maps) (names list)) (filter_ascending (is_left list) keys all.ordered) (filter_ascending (is_anew maps) (names list) (ordered_ascending (filter (is_left list) (names_in list))))
    (λ n. in_both (is_left list) (is_anew maps) keys n ∙ ap (λ b. is_left list n && b) (all.are n) ∙ turned (is_left list n) (is_anew maps n) ∙ ap (λ b. is_anew maps n && b) (sym (in_names list n)) ∙ sym (in_both (is_anew maps) (is_left list) (names list) n))
  where
    turned : (a b : Bool) → (a && b) ≡ (b && a)
    turned true true = refl
    turned true false = refl
    turned false true = refl
    turned false false = refl

-- a name that isn't told again

stays_put : (list : List EntryLine) (maps : Maps) → Keeps list maps → (n : List ℕ) → is_in n (names list) ≡ true → is_anew maps n ≡ false → holds_reference n ≡ false
stays_put list maps k n i h = no_reference n (named_at maps n) (left_kept list maps n k (sym (in_names list n) ∙ i)) (plain_of list maps n k h)

pub lates_stay : (list : List EntryLine) (maps : Maps) → Keeps list maps → (n : List ℕ) → is_anew maps n ≡ false → list_all is_plain_late (lates list n) ≡ true
lates_stay list maps k n h = subst (λ l. list_all is_plain_late l ≡ true) (k.late n) (plain_lates_at n (named_at maps n) (plain_of list maps n k h))

pub moves_of_all : (list : List EntryLine) (maps : Maps) → Keeps list maps → moves list (filter (is_anew maps) (names list)) ≡ (moves list (names list) >>= (λ all. Ok (filter (λ m. is_anew maps m.source) all)))
moves_of_all list maps k = moves_filtered list (is_anew maps) (names list) (stays_put list maps k)

pub told_of_all : (list : List EntryLine) (maps : Maps) → Keeps list maps → (ms : List Move) → told_all list (filter (λ m. is_anew maps m.source) ms) ≡ (told_all list ms >>= (λ all. Ok (filter (λ e. is_anew maps e.0.source) all)))
told_of_all list maps k ms = told_filtered list (λ m. is_anew maps m.source) ms (λ m h. told_plain list m (lates_stay list maps k m.source h))

once : (xs : List (List ℕ)) → Ascending xs → Once xs
once [] a = tt
once (x ∷ xs) a = (above_not_in x xs a.0, once xs a.1)

-- what a list of entries leaves

state_is : (n f : List ℕ) (list : List EntryLine) → run n f begin list ≡ (value_slot list n, (lates list n, flag_slot list n f))
state_is n f list = run_is n f list nothing [] nothing

pub keeps_run : (a b : List EntryLine) (after : Maps) → ((n f : List ℕ) → run n f begin a ≡ run n f begin b) → Keeps a after → Keeps b after
keeps_run a b after h k =
    let same = λ (n f : List ℕ). sym (state_is n f a) ∙ h n f ∙ state_is n f b in
    record {
      shared = k.shared;
      value = λ n. k.value n ∙ ap (λ (s : State). s.0) (same n []);
      late = λ n. k.late n ∙ ap (λ (s : State). s.1.0) (same n []);
      flags = λ n f. k.flags n f ∙ ap (λ (s : State). s.1.1) (same n f);
      forms = k.forms;
    }

-- the maps once names are moved

hidden_there : (list : List EntryLine) (maps hid : Maps) (anew : Anew) → Keeps list maps → AreKeys anew.names (is_anew maps) → IsHidden maps hid anew.names → (n : List ℕ) → is_some (named_at hid n) ≡ true → is_some (named_at maps n) ≡ true
hidden_there list maps hid anew k keys hidden n h = elim (either_way (is_anew maps n)) [
  | inl a ↦ anew_kept list maps k n a
  | inr a ↦ sym (ap is_some (hidden.others n (keys.are n ∙ a))) ∙ h
]

shown_at : (maps hid : Maps) (anew : Anew) → AreKeys anew.names (is_anew maps) → IsHidden maps hid anew.names → (n : List ℕ) → is_anew maps n ≡ false → named_at hid n ≡ named_at maps n
shown_at maps hid anew keys hidden n h = hidden.others n (keys.are n ∙ h)

-- what names tell that aren't told again
abbrev pub kept_lines : Maps → Told → List EntryLine
kept_lines maps all = lines_where (λ m. stays m && not (is_anew maps m.source)) all

abbrev of_maps : Option Named → List ℕ → State
of_maps o f = (slot_at o, (lates_at o, flag_at o f))

source_once : (list : List EntryLine) (ms : List Move) (all : Told) → moves list (names list) ≡ Ok ms → told_all list ms ≡ Ok all → sources all ≡ names list
source_once list ms all e t = mapped all ∙ ap (map (λ m. m.source)) (told_moves list ms all t) ∙ move_sources list (names list) ms e
  where
    mapped : (all : Told) → sources all ≡ map (λ m. m.source) (map (λ x. x.0) all)
    mapped [] = refl
    mapped (x ∷ xs) = ap (λ l. x.0.source ∷ l) (mapped xs)

plain_state : (list : List EntryLine) (maps : Maps) (ms : List Move) (all : Told) → Keeps list maps → moves list (names list) ≡ Ok ms → told_all list ms ≡ Ok all
    → (n f : List ℕ) → is_anew maps n ≡ false → run n f begin (part stays n all) ≡ of_maps (named_at maps n) f
plain_state list maps ms all k e t n f h =
    let unmarked_slot : (value_slot list n).exported ≡ false = subst (λ s. s.exported ≡ false) (k.value n) (unmarked n (named_at maps n) (plain_of list maps n k h)) in
    let value : clean (value_slot list n) ≡ slot_at (named_at maps n) = clean_is (value_slot list n) unmarked_slot ∙ sym (k.value n) in
    let flag = flag_told_is list n f ∙ sym (k.flags n f) in
    let told_flag : Slot = if is_in f (flags_of list n) then clean (flag_slot list n f) else nothing in
    elim (either_way (is_in n (names list))) [
      | inl i ↦
          run_told list n f (part stays n all) (part_told list n (names list) ms all (stays_put list maps k n i h) e t i) (lates_stay list maps k n h)
          ∙ ap (λ s. (s, (lates list n, told_flag))) value ∙ ap (λ l. (slot_at (named_at maps n), (l, told_flag))) (sym (k.late n)) ∙ ap (λ s. (slot_at (named_at maps n), (lates_at (named_at maps n), s))) flag
      | inr i ↦
          let gone = gone_is list n f (sym (in_names list n) ∙ i) in
          ap (run n f begin) (part_absent stays n all (ap (is_in n) (source_once list ms all e t) ∙ i))
          ∙ ap (λ s. (s, ([], nothing))) (sym gone.0 ∙ value) ∙ ap (λ l. (slot_at (named_at maps n), (l, nothing))) (sym gone.1.0 ∙ sym (k.late n)) ∙ ap (λ s. (slot_at (named_at maps n), (lates_at (named_at maps n), s))) (sym gone.1.1 ∙ flag)
    ]

and_none : (a b : Bool) → b ≡ false → (a && b) ≡ false
and_none true b h = h
and_none false b h = refl

and_all : (a b : Bool) → b ≡ true → (a && b) ≡ a
and_all true b h = h
and_all false b h = refl

-- the maps in which names are hidden keep the lines of all other names
pub hidden_keeps : (list : List EntryLine) (maps hid : Maps) (anew : Anew) (ms : List Move) (all : Told) → Keeps list maps → AreKeys anew.names (is_anew maps) → IsHidden maps hid anew.names → moves list (names list) ≡ Ok ms → told_all list ms ≡ Ok all → Keeps (kept_lines maps all) hid
hidden_keeps list maps hid anew ms all k keys hidden e t =
    let test = λ (m : Move). stays m && not (is_anew maps m.source) in
    let of_them = told_targets list ms all t in
    let single : Once (sources all) = subst Once (sym (source_once list ms all e t)) (once (names list) (ordered_ascending (filter (is_left list) (names_in list)))) in
    let here : (n f : List ℕ) → run n f begin (kept_lines maps all) ≡ of_maps (named_at hid n) f = λ n f.
    run_where test (λ m h. and_left (stays m) (not (is_anew maps m.source)) h) n f begin all of_them single ∙ (elim (either_way (is_anew maps n)) [
      | inl a ↦
          let empty = hidden.none n (keys.are n ∙ a) in
          ap (run n f begin) (part_none test n all (λ m s. and_none (stays m) (not (is_anew maps m.source)) (ap not (ap (is_anew maps) s ∙ a))))
          ∙ ap (λ s. (s, ([], nothing))) (sym empty.value) ∙ ap (λ l. (slot_at (named_at hid n), (l, nothing))) (sym empty.late) ∙ ap (λ s. (slot_at (named_at hid n), (lates_at (named_at hid n), s))) (sym (empty.flags f))
      | inr a ↦
          ap (run n f begin) (part_same test stays n all (λ m s. and_all (stays m) (not (is_anew maps m.source)) (ap not (ap (is_anew maps) s ∙ a))))
          ∙ plain_state list maps ms all k e t n f a ∙ ap (λ o. of_maps o f) (sym (shown_at maps hid anew keys hidden n a))
    ]) in
    let same = λ (n f : List ℕ). sym (here n f) ∙ state_is n f (kept_lines maps all) in
    record {
      shared = subst KeepsBase (sym hidden.same) k.shared;
      value = λ n. ap (λ (s : State). s.0) (same n []);
      late = λ n. ap (λ (s : State). s.1.0) (same n []);
      flags = λ n f. ap (λ (s : State). s.1.1) (same n f);
      forms = λ n some. λ c lt colon. subst (λ l. is_in (drop (c + 1) n) l ≡ true) (sym (hidden.noted (take c n))) (k.forms n (hidden_there list maps hid anew k keys hidden n some) c lt colon);
    }

-- what is told again, as a part of what all names tell

pub anew_parts : (list : List EntryLine) (maps : Maps) (anew : Anew) → Keeps list maps → IsAnew list maps anew
    → (ms : List Move) × (moves list (names list) ≡ Ok ms) × (all : Told) × (told_all list ms ≡ Ok all)
    × (lines_where stays (filter (λ e. is_anew maps e.0.source) all) ≡ anew.staying.items) × (lines_where (λ m. not (stays m)) (filter (λ e. is_anew maps e.0.source) all) ≡ anew.moving.items)
anew_parts list maps anew k h =
    let r = is_anew maps in
    let a = ok_parts (moves list (names list)) (λ all. Ok (filter (λ m. r m.source) all)) h.all (sym (moves_of_all list maps k) ∙ h.goes) in
    let b = ok_parts (told_all list h.all) (λ told. Ok (lines_where stays told, lines_where (λ m. not (stays m)) told)) (anew.staying.items, anew.moving.items) h.told in
    let same : filter (λ m. r m.source) a.0 ≡ h.all = (let e = a.2 in cc) in
    let c = ok_parts (told_all list a.0) (λ all. Ok (filter (λ e. r e.0.source) all)) b.0 (sym (told_of_all list maps k a.0) ∙ ap (told_all list) same ∙ b.1) in
    let told_same : filter (λ e. r e.0.source) c.0 ≡ b.0 = (let e = c.2 in cc) in
    let pair = ok_pair (lines_where stays b.0) anew.staying.items (lines_where (λ m. not (stays m)) b.0) anew.moving.items b.2 in
    (a.0, a.1, c.0, c.1, ap (lines_where stays) told_same ∙ pair.0, ap (lines_where (λ m. not (stays m))) told_same ∙ pair.1)

abbrev whole : List EntryLine → Told → List EntryLine
whole list all = lines_where stays all ++ lines_where (λ move. not (stays move)) all ++ filter is_task_line list

frozen_whole : (list : List EntryLine) (ms : List Move) (all : Told) → moves list (names list) ≡ Ok ms → told_all list ms ≡ Ok all → frozen list ≡ Ok (whole list all)
frozen_whole list ms all e t = ap (λ m. m >>= (λ a. told_all list a >>= (λ told. Ok (whole list told)))) e ∙ ap (λ m. m >>= (λ told. Ok (whole list told))) t

pub frozen_moved : (list : List EntryLine) (maps : Maps) (anew : Anew) → Keeps list maps → IsAnew list maps anew → frozen list ≡ Ok (moved list)
frozen_moved list maps anew k h =
    let p = anew_parts list maps anew k h in
    let f = frozen_whole list p.0 p.2 p.1 p.3 in
    f ∙ ap Ok (sym (ap (or_given list) f))

-- the lines of names that stay, in whatever order
stay_parts : (list : List EntryLine) (maps : Maps) (ms : List Move) (all : Told) → moves list (names list) ≡ Ok ms → told_all list ms ≡ Ok all
    → (n f : List ℕ) → run n f begin (kept_lines maps all ++ lines_where stays (filter (λ e. is_anew maps e.0.source) all)) ≡ run n f begin (lines_where stays all)
stay_parts list maps ms all e t n f =
    let r = λ (m : Move). is_anew maps m.source in
    let first = λ (m : Move). stays m && not (is_anew maps m.source) in
    let second = λ (m : Move). stays m && is_anew maps m.source in
    let of_them = told_targets list ms all t in
    let single : Once (sources all) = subst Once (sym (source_once list ms all e t)) (once (names list) (ordered_ascending (filter (is_left list) (names_in list)))) in
    run_append n f begin (kept_lines maps all) (lines_where stays (filter (λ x. r x.0) all))
    ∙ ap (run n f (run n f begin (kept_lines maps all))) (where_filtered stays r all)
    ∙ run_where second (λ m h. and_left (stays m) (is_anew maps m.source) h) n f (run n f begin (kept_lines maps all)) all of_them single
    ∙ ap (λ s. run n f s (part second n all)) (run_where first (λ m h. and_left (stays m) (not (is_anew maps m.source)) h) n f begin all of_them single)
    ∙ (elim (either_way (is_anew maps n)) [
      | inl a ↦
          ap (λ l. run n f (run n f begin l) (part second n all)) (part_none first n all (λ m s. and_none (stays m) (not (is_anew maps m.source)) (ap not (ap (is_anew maps) s ∙ a))))
          ∙ ap (run n f begin) (part_same second stays n all (λ m s. and_all (stays m) (is_anew maps m.source) (ap (is_anew maps) s ∙ a)))
      | inr a ↦
          ap (λ l. run n f (run n f begin (part first n all)) l) (part_none second n all (λ m s. and_none (stays m) (is_anew maps m.source) (ap (is_anew maps) s ∙ a)))
          ∙ ap (run n f begin) (part_same first stays n all (λ m s. and_all (stays m) (not (is_anew maps m.source)) (ap not (ap (is_anew maps) s ∙ a))))
    ])
    ∙ sym (run_where stays (λ m h. h) n f begin all of_them single)

-- the entries with their names moved
pub retold_keeps : (list : List EntryLine) (maps : Maps) (anew : Anew) (k : Keeps list maps) (h : IsAnew list maps anew) (after : Maps)
    → Keeps ((kept_lines maps (anew_parts list maps anew k h).2 ++ anew.staying.items) ++ anew.moving.items) after → Keeps (moved list) after
retold_keeps list maps anew k h after kept =
    let p = anew_parts list maps anew k h in
    let all = p.2 in
    let r = λ (m : Move). is_anew maps m.source in
    let first = kept_lines maps all in
    let stay = lines_where stays all in
    let move = lines_where (λ m. not (stays m)) all in
    let tasks = filter is_task_line list in
    let moving : anew.moving.items ≡ move = sym p.5 ∙ where_moving r all (all_mapped (λ m. r m || stays m) all ∙ ap (list_all (λ m. r m || stays m)) (told_moves list p.0 all p.3) ∙ plain_stay list (is_anew maps) (names list) p.0 (stays_put list maps k) p.1) in
    let same = λ (n f : List ℕ).
    run_append n f begin (first ++ anew.staying.items) anew.moving.items
    ∙ ap (λ l. run n f (run n f begin (first ++ l)) anew.moving.items) (sym p.4) ∙ ap (λ s. run n f s anew.moving.items) (stay_parts list maps p.0 all p.1 p.3 n f)
    ∙ ap (run n f (run n f begin stay)) moving ∙ sym (run_append n f begin stay move) ∙ sym (run_tasks n f (run n f begin (stay ++ move)) list) ∙ sym (run_append n f begin (stay ++ move) tasks)
    ∙ ap (run n f begin) (sym (ap (or_given list) (frozen_whole list p.0 all p.1 p.3))) in
    keeps_run ((first ++ anew.staying.items) ++ anew.moving.items) (moved list) after same kept

-- the entries of tasks stay where names are moved
pub tasks_moved : (list : List EntryLine) → filter is_task_line (moved list) ≡ filter is_task_line list
tasks_moved list = at (frozen list) refl
  where
    at : (m : Result (List EntryLine) Refusal) → frozen list ≡ m → filter is_task_line (or_given list m) ≡ filter is_task_line list
    at (Err refusal) e = refl
    at (Ok made) e =
        let a = ok_parts (moves list (names list)) (λ ms. told_all list ms >>= (λ told. Ok (whole list told))) made e in
        let b = ok_parts (told_all list a.0) (λ told. Ok (whole list told)) made a.2 in
        let same : whole list b.0 ≡ made = (let h = b.2 in cc) in
        let of_them = told_targets list a.0 b.0 b.1 in
        let stay = lines_where stays b.0 in
        let move = lines_where (λ m. not (stays m)) b.0 in
        let tasks = filter is_task_line list in
        ap (filter is_task_line) (sym same) ∙ filter-append is_task_line (stay ++ move) tasks
        ∙ ap (λ l. l ++ filter is_task_line tasks) (filter-append is_task_line stay move ∙ ap (λ l. l ++ filter is_task_line move) (where_tasks stays b.0 of_them) ∙ where_tasks (λ m. not (stays m)) b.0 of_them)
        ∙ tasks_again list

-- one more list of entries, behind which names are moved
pub past_turn : (list : List EntryLine) (xs : List (Vec EntryLine)) (i : ℕ) (x : Vec EntryLine) → x ≡ get_or xs i x → i < length xs → moved_with (fold moved_with list (take i xs)) x ≡ fold moved_with list (take (i + 1) xs)
past_turn list xs i x is lt = sym (ap (fold moved_with list) (take_more xs i x lt ∙ ap (λ z. take i xs ++ z ∷ []) (sym is)) ∙ fold_push moved_with list (take i xs) x)

-- a store whose names are moved now
pub moved_view : (old new : Maps) (past now : List (Vec EntryLine)) (own : Vec EntryLine) → base_of new ≡ base_of old → now ≡ past ++ own ∷ [] → all_entries new now [] ≡ moved (all_entries old past own.items)
moved_view old new past now own same e =
    append-nil (fold moved_with (under_entries (base_of new)) now) ∙ ap (λ b. fold moved_with (under_entries b) now) same ∙ ap (fold moved_with (under_entries (base_of old))) e ∙ fold_push moved_with (under_entries (base_of old)) past own

-- what refuses names that are told again refuses all

pub moves_back : (list : List EntryLine) (maps : Maps) (fault : DataFault) → Keeps list maps → IsDataFault fault (moves list (filter (is_anew maps) (names list))) → IsDataFault fault (frozen list)
moves_back list maps fault k h = moves_fault list fault (at (moves list (names list)) (subst (IsDataFault fault) (moves_of_all list maps k) h))
  where
    at : (m : Result (List Move) Refusal) → IsDataFault fault (m >>= (λ all. Ok (filter (λ m. is_anew maps m.source) all))) → IsDataFault fault m
    at (Ok all) h = no_fault fault (filter (λ m. is_anew maps m.source) all) (Ok all) h
    at (Err refusal) h = h

pub told_back : (list : List EntryLine) (maps : Maps) (ms : List Move) (fault : DataFault) → Keeps list maps → moves list (filter (is_anew maps) (names list)) ≡ Ok ms → IsDataFault fault (parted [] [] (told_all list ms)) → IsDataFault fault (frozen list)
told_back list maps ms fault k e h =
    let r = is_anew maps in
    let a = ok_parts (moves list (names list)) (λ all. Ok (filter (λ m. r m.source) all)) ms (sym (moves_of_all list maps k) ∙ e) in
    let same : filter (λ m. r m.source) a.0 ≡ ms = (let g = a.2 in cc) in
    told_all_fault list a.0 fault a.1 (at (told_all list a.0) (subst (λ t. IsDataFault fault (parted [] [] t)) (ap (told_all list) (sym same) ∙ told_of_all list maps k a.0) h))
  where
    at : (m : Result Told Refusal) → IsDataFault fault (parted [] [] (m >>= (λ all. Ok (filter (λ x. is_anew maps x.0.source) all)))) → IsDataFault fault (parted [] [] m)
    at (Ok all) h = no_fault fault _ (parted [] [] (Ok all)) h
    at (Err refusal) h = h
