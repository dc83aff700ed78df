-- Orders of tasks, from the last entry to the first.
use Rattle.std.proofs.Common.{◌≡◌, refl, sym, ◌∙◌, ap, ℕ, List, [], ◌∷◌, ◌++◌, fold, map, filter, filter_map, take, drop, get_or, length, ◌<◌, ◌+◌, Bool, true, false, not, ◌||◌, ◌&&◌, Option, Some, None, is_some, inl, inr, bytes_eq, String, BTreeMap}
use Rattle.std.specs.Global.{Global}
use Rattle.std.specs.Map.{update, lookup}
use Rattle.std.specs.BTreeMap.{is_at, get_by_text, IsOrdered}
use Rattle.std.specs.String.{string_cmp}
use Rattle.std.specs.Cmp.Lexicographic.{nat_list_eq_equiv}
use Rattle.std.proofs.lemmas.List.{take_more, drop_more, map-append}
use Rattle.std.proofs.lemmas.Map.Text.{text_cmp}
use Rattle.meta_model.proofs.Bools.{either_way, same_text}
use Rattle.meta_model.specs.declared.entry.EntryLine.{EntryLine}
use Rattle.meta_model.specs.declared.entry.EntryLine.TheVariants.{Set, Later, Flag, Unset, UnsetFlag, Exported, Task, NoTask}
use Rattle.meta_model.specs.Text.{is_in}
use Rattle.meta_model.specs.Tasks.{is_task, task_in, task_names, comes_after, comes_after_line}
use Rattle.value_maps.specs.Picked.{picked}
use Rattle.datastore.specs.Orders.{goes, is_gone, is_noted}
use Rattle.meta_model.proofs.Ordered.{ascending_same, filter_ascending, filtered_in, ordered_ascending, ordered_in}
use Rattle.value_maps.proofs.Picked.{picked_ascending, picked_in}
use Rattle.value_maps.proofs.Sets.{in_end}
use Rattle.datastore.proofs.Tasking.{task_named, there_passes}

-- what is there before some entries stays where they take neither task away

gone_more : (there ta tb ga gb : Bool) → ((there && not (ta || tb)) && not (ga || gb)) ≡ (there && not ((ta || ga) || (tb || gb)))
gone_more false ta tb ga gb = refl
gone_more true true tb ga gb = refl
gone_more true false true true gb = refl
gone_more true false true false gb = refl
gone_more true false false ga gb = refl

or_more : (there x s c : Bool) → (((there || x) && s) || c) ≡ ((there && s) || ((x && s) || c))
or_more true x true c = refl
or_more true true false c = refl
or_more true false false c = refl
or_more false x s c = refl

first_there : (there : Bool) → there ≡ ((there && true) || false)
first_there true = refl
first_there false = refl

pub from_there : (list : List EntryLine) (a b : List ℕ) (there : Bool) → fold (comes_after_line a b) there list ≡ ((there && not (is_gone list a || is_gone list b)) || comes_after list a b)
from_there [] a b there = first_there there
from_there (Set n op text ∷ rest) a b there = from_there rest a b there
from_there (Later n kind when text ∷ rest) a b there = from_there rest a b there
from_there (Flag n f op text ∷ rest) a b there = from_there rest a b there
from_there (Unset n ∷ rest) a b there = from_there rest a b there
from_there (UnsetFlag n f ∷ rest) a b there = from_there rest a b there
from_there (Exported class n ∷ rest) a b there = from_there rest a b there
from_there (Task t after before ∷ rest) a b there =
    let x = (bytes_eq t a && is_in b after) || (bytes_eq t b && is_in a before) in
    let s = not (is_gone rest a || is_gone rest b) in
    from_there rest a b (there || x) ∙ or_more there x s (comes_after rest a b) ∙ ap (λ c. (there && s) || c) (sym (from_there rest a b x))
from_there (NoTask t ∷ rest) a b there =
    from_there rest a b (there && not (bytes_eq t a || bytes_eq t b))
    ∙ ap (λ z. z || comes_after rest a b) (gone_more there (bytes_eq t a) (bytes_eq t b) (is_gone rest a) (is_gone rest b))

-- an order is noted

module _ {A : Type 0} where
  pub order_put : (f g : List ℕ → Option (BTreeMap (String Global) A)) (k o : List ℕ) (w : BTreeMap (String Global) A) → ((q : List ℕ) → g q ≡ update bytes_eq f k (Some w) q)
      → ((b : List ℕ) → is_some (get_by_text w b) ≡ (bytes_eq o b || is_noted (f k) b)) → (a b : List ℕ) → is_noted (g a) b ≡ ((bytes_eq k a && bytes_eq o b) || is_noted (f a) b)
  order_put f g k o w u h a b = ap (λ z. is_noted z b) (u a) ∙ elim (either_way (bytes_eq k a)) [
    | inl e ↦ rw e (h b ∙ ap (λ z. bytes_eq o b || is_noted (f z) b) (same_text k a e))
    | inr e ↦ rw e refl
  ]

  -- nothing is in a new set
  pub first_name : (set : BTreeMap (String Global) A) (p : Bool) (b : List ℕ) → set.entries ≡ [] → (p || is_some (get_by_text set b)) ≡ p
  first_name set true b e = refl
  first_name set false b e = ap (λ es. is_some (lookup (is_at (text_cmp b)) es)) e

  -- nor in none
  pub order_first : (x : Option (BTreeMap (String Global) A)) (p : Bool) (b : List ℕ) → x ≡ None → p ≡ (p || is_noted x b)
  order_first x true b n = refl
  order_first x false b n = rw n refl

at_pair : (gone : List ℕ → Bool) (t o a b : List ℕ) → ((bytes_eq t a && bytes_eq o b) && not (gone a || gone b)) ≡ ((bytes_eq t a && bytes_eq o b) && not (gone t || gone o))
at_pair gone t o a b = elim (either_way (bytes_eq t a)) [
  | inl e ↦ elim (either_way (bytes_eq o b)) [
    | inl f ↦ rw (e, f) (ap (λ z. not (gone z || gone b)) (sym (same_text t a e)) ∙ ap (λ z. not (gone t || gone z)) (sym (same_text o b f)))
    | inr f ↦ rw (e, f) refl
  ]
  | inr e ↦ rw e refl
]

and_false : (x : Bool) → (x && false) ≡ false
and_false true = refl
and_false false = refl

and_true : (x : Bool) → (x && true) ≡ x
and_true true = refl
and_true false = refl

-- a task that goes leaves no order
pub pair_gone : (gone : List ℕ → Bool) (t o a b : List ℕ) (old : Bool) → (gone t || gone o) ≡ true → old ≡ (((bytes_eq t a && bytes_eq o b) && not (gone a || gone b)) || old)
pair_gone gone t o a b old h = sym (ap (λ z. z || old) (at_pair gone t o a b ∙ ap (λ z. (bytes_eq t a && bytes_eq o b) && not z) h ∙ and_false (bytes_eq t a && bytes_eq o b)))

pub pair_stays : (gone : List ℕ → Bool) (t o a b : List ℕ) (old : Bool) → (gone t || gone o) ≡ false → ((bytes_eq t a && bytes_eq o b) || old) ≡ (((bytes_eq t a && bytes_eq o b) && not (gone a || gone b)) || old)
pair_stays gone t o a b old h = sym (ap (λ z. z || old) (at_pair gone t o a b ∙ ap (λ z. (bytes_eq t a && bytes_eq o b) && not z) h ∙ and_true (bytes_eq t a && bytes_eq o b)))

-- one more order of a list

turn_more : (p e i s old : Bool) → (((p && e) && s) || (((p && i) && s) || old)) ≡ (((p && (i || e)) && s) || old)
turn_more false e i s old = refl
turn_more true true true true old = refl
turn_more true true true false old = refl
turn_more true true false s old = refl
turn_more true false true s old = refl
turn_more true false false s old = refl

one_more : (xs : List (List ℕ)) (i : ℕ) (x q : List ℕ) → x ≡ get_or xs i x → i < length xs → (is_in q (take i xs) || bytes_eq x q) ≡ is_in q (take (i + 1) xs)
one_more xs i x q is lt =
    ap (λ z. is_in q (take i xs) || z) (nat_list_eq_equiv.symm x q)
    ∙ sym (in_end q x (take i xs))
    ∙ ap (λ z. is_in q (take i xs ++ z ∷ [])) is
    ∙ ap (is_in q) (sym (take_more xs i x lt))

pub after_turn : (xs : List (List ℕ)) (i : ℕ) (x q : List ℕ) (p s now before old : Bool) → x ≡ get_or xs i x → i < length xs → now ≡ (((p && bytes_eq x q) && s) || before) → before ≡ (((p && is_in q (take i xs)) && s) || old) → now ≡ (((p && is_in q (take (i + 1) xs)) && s) || old)
after_turn xs i x q p s now before old is lt n e =
    n ∙ ap (λ z. ((p && bytes_eq x q) && s) || z) e ∙ turn_more p (bytes_eq x q) (is_in q (take i xs)) s old
    ∙ ap (λ z. ((p && z) && s) || old) (one_more xs i x q is lt)

and_turn : (x y : Bool) → (x && y) ≡ (y && x)
and_turn true true = refl
and_turn true false = refl
and_turn false true = refl
and_turn false false = refl

pub before_turn : (xs : List (List ℕ)) (i : ℕ) (x q : List ℕ) (p s now before old : Bool) → x ≡ get_or xs i x → i < length xs → now ≡ (((bytes_eq x q && p) && s) || before) → before ≡ (((p && is_in q (take i xs)) && s) || old) → now ≡ (((p && is_in q (take (i + 1) xs)) && s) || old)
before_turn xs i x q p s now before old is lt n e =
    after_turn xs i x q p s now before old is lt (n ∙ ap (λ z. (z && s) || before) (and_turn (bytes_eq x q) p)) e

pub two_more : (x y s old : Bool) → ((y && s) || ((x && s) || old)) ≡ (((x || y) && s) || old)
two_more true true true old = refl
two_more true true false old = refl
two_more false true true old = refl
two_more false true false old = refl
two_more true false s old = refl
two_more false false s old = refl

-- one more entry, in front of those that were gone through

in_front : (lines : List EntryLine) (i : ℕ) (line : EntryLine) → line ≡ get_or lines i line → i < length lines → drop i lines ≡ line ∷ drop (i + 1) lines
in_front lines i line is lt = drop_more lines i line lt ∙ ap (λ l. l ∷ drop (i + 1) lines) (sym is)

pub orders_turn : (lines : List EntryLine) (i left : ℕ) (line : EntryLine) (a b : List ℕ) (ga gb now old : Bool) → left ≡ i + 1 → line ≡ get_or lines i line → i < length lines
    → ga ≡ is_gone (drop left lines) a → gb ≡ is_gone (drop left lines) b → old ≡ comes_after (drop left lines) a b
    → now ≡ ((comes_after_line a b false line && not (ga || gb)) || old) → now ≡ comes_after (drop i lines) a b
orders_turn lines i left line a b ga gb now old next is lt g h e n =
    n ∙ ap (λ z. (comes_after_line a b false line && not (z || gb)) || old) g
    ∙ ap (λ z. (comes_after_line a b false line && not (is_gone (drop left lines) a || z)) || old) h
    ∙ ap (λ z. (comes_after_line a b false line && not (is_gone (drop left lines) a || is_gone (drop left lines) b)) || z) e
    ∙ sym (from_there (drop left lines) a b (comes_after_line a b false line))
    ∙ ap (λ k. comes_after (line ∷ drop k lines) a b) next
    ∙ ap (λ l. comes_after l a b) (sym (in_front lines i line is lt))

pub gone_turn : (lines : List EntryLine) (i left : ℕ) (line : EntryLine) (t : List ℕ) (now old : Bool) → left ≡ i + 1 → line ≡ get_or lines i line → i < length lines
    → old ≡ is_gone (drop left lines) t → now ≡ (goes t line || old) → now ≡ is_gone (drop i lines) t
gone_turn lines i left line t now old next is lt e n =
    n ∙ ap (λ z. goes t line || z) e ∙ ap (λ k. is_gone (line ∷ drop k lines) t) next ∙ ap (λ l. is_gone l t) (sym (in_front lines i line is lt))

-- the tasks that a task comes after

filter_in : (test : List ℕ → Bool) (xs : List (List ℕ)) (t : List ℕ) → is_in t (filter test xs) ≡ (test t && is_in t xs)
filter_in test [] t = sym (and_false (test t))
filter_in test (x ∷ xs) t = elim (either_way (test x)) [
  | inl p ↦ elim (either_way (bytes_eq t x)) [
    | inl e ↦ rw (p, e, ap test (same_text t x e) ∙ p) refl
    | inr e ↦ rw (p, e) (filter_in test xs t)
  ]
  | inr n ↦ elim (either_way (bytes_eq t x)) [
    | inl e ↦ let f : test t ≡ false = ap test (same_text t x e) ∙ n in rw (n, f) (filter_in test xs t ∙ ap (λ z. z && is_in t xs) f)
    | inr e ↦ rw (n, e) (filter_in test xs t)
  ]
]

names_in : (list : List EntryLine) (t : List ℕ) → is_in t (task_names list) ≡ is_task list t
names_in list t = ordered_in (filter (is_task list) (filter_map task_in list)) t ∙ filtered_in (is_task list) (filter_map task_in list) t (task_named list t)

pub order_is : {V : Type 0} (list : List EntryLine) (task : List ℕ) (set : BTreeMap (String Global) V) (there : List ℕ → Bool) → IsOrdered string_cmp set
    → ((t : List ℕ) → there t ≡ is_task list t) → ((b : List ℕ) → is_some (get_by_text set b) ≡ comes_after list task b)
    → filter there (picked (λ x. true) set.entries) ≡ filter (comes_after list task) (task_names list)
order_is list task set there ordered tasks comes =
    ascending_same (filter there (picked (λ x. true) set.entries)) (filter (comes_after list task) (task_names list))
    (filter_ascending there _ (picked_ascending (λ x. true) set.entries ordered))
    (filter_ascending (comes_after list task) _ (ordered_ascending (filter (is_task list) (filter_map task_in list))))
    (λ t. filter_in there (picked (λ x. true) set.entries) t
    ∙ ap (λ z. there t && z) (picked_in (λ x. true) set.entries t ordered ∙ there_passes (get_by_text set t) ∙ comes t)
    ∙ ap (λ z. z && comes_after list task t) (tasks t ∙ sym (names_in list t))
    ∙ and_turn (is_in t (task_names list)) (comes_after list task t)
    ∙ sym (filter_in (comes_after list task) (task_names list) t))

pub none_is : (test : List ℕ → Bool) (xs : List (List ℕ)) → ((t : List ℕ) → test t ≡ false) → [] ≡ filter test xs
none_is test [] h = refl
none_is test (x ∷ xs) h = rw (h x) (none_is test xs h)

-- one more text of a list
pub map_turn : {B : Type 0} (f : List ℕ → B) (xs : List (List ℕ)) (i : ℕ) (x : List ℕ) → x ≡ get_or xs i x → i < length xs → map f (take i xs) ++ f x ∷ [] ≡ map f (take (i + 1) xs)
map_turn f xs i x is lt = sym (ap (map f) (take_more xs i x lt) ∙ map-append f (take i xs) (get_or xs i x ∷ []) ∙ ap (λ z. map f (take i xs) ++ f z ∷ []) (sym is))
