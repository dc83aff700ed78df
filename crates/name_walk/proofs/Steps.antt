-- The steps of a walk.
use Rattle.std.proofs.Common.{◌≡◌, refl, sym, ◌∙◌, ap, subst, arith, ℕ, suc, ◌+◌, ◌≤◌, ◌<◌, le_refl, List, [], ◌∷◌, ◌++◌, length, length-append, true, false, ◌⊎◌, inl, inr, bytes_eq, if◌then◌else◌}
use Rattle.meta_model.proofs.Bools.{not_both, either_way, or_first, or_later, from_or, same_text, text_itself}
use Rattle.meta_model.specs.Text.{is_in, into_order, in_byte_order}
use Rattle.task_model.specs.Keys.{IsLeast}
use Rattle.meta_model.specs.Ascending.{Ascending}
use Rattle.meta_model.proofs.Ordered.{into_in, into_ascending, ordered_in, ordered_ascending, ascending_same}
use Rattle.task_model.proofs.Agree.{in_front, in_behind}
use Rattle.task_model.proofs.Least.{in_either}
use Rattle.name_walk.specs.Walk.{is_met, IsWalk, HasGoneOn, weight, done_after, todo_after}

pub in_order : (names : List (List ℕ)) → Ascending names → in_byte_order names ≡ names
in_order names a = ascending_same (in_byte_order names) names (ordered_ascending names) a (λ x. ordered_in names x)

-- the cases of what is met

pub met_cases : (done todo : List (List ℕ)) (x : List ℕ) → is_met done todo x ≡ true → (is_in x done ≡ true) ⊎ (is_in x todo ≡ true)
met_cases done todo x h = elim (either_way (is_in x done)) [
  | inl t ↦ inl t
  | inr f ↦ inr (from_or (is_in x done) (is_in x todo) h f)
]

pub met_done : (done todo : List (List ℕ)) (x : List ℕ) → is_in x done ≡ true → is_met done todo x ≡ true
met_done done todo x h = or_first (is_in x done) (is_in x todo) h

pub met_todo : (done todo : List (List ℕ)) (x : List ℕ) → is_in x todo ≡ true → is_met done todo x ≡ true
met_todo done todo x h = or_later (is_in x done) (is_in x todo) h

last_in : (x name : List ℕ) → is_in x (name ∷ []) ≡ true → x ≡ name
last_in x name h = elim (either_way (bytes_eq x name)) [
  | inl t ↦ same_text x name t
  | inr f ↦ not_both false (from_or (bytes_eq x name) false h f) refl
]

itself_in : (name : List ℕ) (names : List (List ℕ)) → is_in name (name ∷ names) ≡ true
itself_in name names = or_first (bytes_eq name name) (is_in name names) (text_itself name)

in_noted : (done : List (List ℕ)) (name x : List ℕ) → is_in x done ≡ true → is_in x (into_order done name) ≡ true
in_noted done name x h = into_in done name x ∙ or_later (bytes_eq x name) (is_in x done) h

itself_noted : (done : List (List ℕ)) (name : List ℕ) → is_in name (into_order done name) ≡ true
itself_noted done name = into_in done name name ∙ or_first (bytes_eq name name) (is_in name done) (text_itself name)

from_noted : (done : List (List ℕ)) (name x : List ℕ) → is_in x (into_order done name) ≡ true → (x ≡ name) ⊎ (is_in x done ≡ true)
from_noted done name x h = elim (either_way (bytes_eq x name)) [
  | inl t ↦ inl (same_text x name t)
  | inr f ↦ inr (from_or (bytes_eq x name) (is_in x done) (sym (into_in done name x) ∙ h) f)
]

-- a walk starts
pub starts : (led : List ℕ → List (List ℕ)) (start : List (List ℕ)) → IsWalk led start [] start
starts led start = record {
  ordered = refl;
  holds = λ name h. h;
  closed = λ from name h k. not_both false h refl;
  least = λ other holds closed name h. holds name h;
}

-- a name that is done already is passed over
pub passed : (led : List ℕ → List (List ℕ)) (start done todo : List (List ℕ)) (name : List ℕ) → IsWalk led start done (todo ++ name ∷ []) → is_in name done ≡ true → IsWalk led start done todo
passed led start done todo name walk there = record {
  ordered = walk.ordered;
  holds = λ x h. less x (walk.holds x h);
  closed = λ from x h k. less x (walk.closed from x h k);
  least = λ other holds closed x h. walk.least other holds closed x (more x h);
}
  where
    less : (x : List ℕ) → is_met done (todo ++ name ∷ []) x ≡ true → is_met done todo x ≡ true
    less x h = elim (met_cases done (todo ++ name ∷ []) x h) [
      | inl d ↦ met_done done todo x d
      | inr t ↦ elim (in_either x todo (name ∷ []) t) [
        | inl k ↦ met_todo done todo x k
        | inr k ↦ met_done done todo x (subst (λ z. is_in z done ≡ true) (sym (last_in x name k)) there)
      ]
    ]

    more : (x : List ℕ) → is_met done todo x ≡ true → is_met done (todo ++ name ∷ []) x ≡ true
    more x h = elim (met_cases done todo x h) [
      | inl d ↦ met_done done (todo ++ name ∷ []) x d
      | inr t ↦ met_todo done (todo ++ name ∷ []) x (in_front x todo (name ∷ []) t)
    ]

-- a new name is done, and what it leads to is to be done
pub visited : (led : List ℕ → List (List ℕ)) (start done todo : List (List ℕ)) (name : List ℕ) → IsWalk led start done (todo ++ name ∷ []) → IsWalk led start (into_order done name) (todo ++ led name)
visited led start done todo name walk = record {
  ordered = in_order (into_order done name) (into_ascending done name (subst Ascending walk.ordered (ordered_ascending done)));
  holds = λ x h. kept x (walk.holds x h);
  closed = λ from x h k. elim (from_noted done name from h) [
    | inl e ↦ met_todo (into_order done name) (todo ++ led name) x (in_behind x todo (led name) (subst (λ z. is_in x (led z) ≡ true) e k))
    | inr d ↦ kept x (walk.closed from x d k)
  ];
  least = λ other holds closed x h. elim (met_cases (into_order done name) (todo ++ led name) x h) [
    | inl d ↦ elim (from_noted done name x d) [
      | inl e ↦ subst (λ z. is_in z other ≡ true) (sym e) (walk.least other holds closed name own)
      | inr k ↦ walk.least other holds closed x (met_done done (todo ++ name ∷ []) x k)
    ]
    | inr t ↦ elim (in_either x todo (led name) t) [
      | inl k ↦ walk.least other holds closed x (met_todo done (todo ++ name ∷ []) x (in_front x todo (name ∷ []) k))
      | inr k ↦ closed name x (walk.least other holds closed name own) k
    ]
  ];
}
  where
    own : is_met done (todo ++ name ∷ []) name ≡ true
    own = met_todo done (todo ++ name ∷ []) name (in_behind name todo (name ∷ []) (itself_in name []))

    kept : (x : List ℕ) → is_met done (todo ++ name ∷ []) x ≡ true → is_met (into_order done name) (todo ++ led name) x ≡ true
    kept x h = elim (met_cases done (todo ++ name ∷ []) x h) [
      | inl d ↦ met_done (into_order done name) (todo ++ led name) x (in_noted done name x d)
      | inr t ↦ elim (in_either x todo (name ∷ []) t) [
        | inl k ↦ met_todo (into_order done name) (todo ++ led name) x (in_front x todo (led name) k)
        | inr k ↦ met_done (into_order done name) (todo ++ led name) x (subst (λ z. is_in z (into_order done name) ≡ true) (sym (last_in x name k)) (itself_noted done name))
      ]
    ]

-- a walk ends
pub ended : (led : List ℕ → List (List ℕ)) (start done : List (List ℕ)) → IsWalk led start done [] → IsLeast led start done
ended led start done walk = record {
  ordered = walk.ordered;
  holds = λ x h. only x (walk.holds x h);
  closed = λ from x h k. only x (walk.closed from x h k);
  least = λ other holds closed x h. walk.least other holds closed x (met_done done [] x h);
}
  where
    only : (x : List ℕ) → is_met done [] x ≡ true → is_in x done ≡ true
    only x h = elim (met_cases done [] x h) [
      | inl d ↦ d
      | inr t ↦ not_both false t refl
    ]

-- the measure

weight_falls : (led : List ℕ → List (List ℕ)) (names done : List (List ℕ)) (name : List ℕ) → weight led names (into_order done name) ≤ weight led names done
weight_falls led [] done name = le_refl 0
weight_falls led (n ∷ names) done name =
    let rest = weight_falls led names done name in
    elim (either_way (is_in n done)) [
      | inl t ↦ rw (in_noted done name n t, t) (omega (arith, rest))
      | inr f ↦ elim (either_way (is_in n (into_order done name))) [
        | inl k ↦ rw (k, f) (omega (arith, rest))
        | inr k ↦ rw (k, f) (omega (arith, rest))
      ]
    ]

weight_drops : (led : List ℕ → List (List ℕ)) (names done : List (List ℕ)) (name : List ℕ) → is_in name names ≡ true → is_in name done ≡ false → weight led names (into_order done name) + suc (length (led name)) ≤ weight led names done
weight_drops led [] done name h f = not_both false h refl
weight_drops led (n ∷ names) done name h f = elim (either_way (bytes_eq name n)) [
  | inl t ↦
      let same : name ≡ n = same_text name n t in
      let rest = weight_falls led names done name in
      let there : is_in n (into_order done name) ≡ true = subst (λ z. is_in z (into_order done name) ≡ true) same (itself_noted done name) in
      let away : is_in n done ≡ false = subst (λ z. is_in z done ≡ false) same f in
      let long : length (led name) ≡ length (led n) = ap (λ z. length (led z)) same in
      rw (there, away) (omega (arith, rest, long))
  | inr g ↦
      let rest = weight_drops led names done name (from_or (bytes_eq name n) (is_in name names) h g) f in
      elim (either_way (is_in n done)) [
        | inl t ↦ rw (in_noted done name n t, t) (omega (arith, rest))
        | inr k ↦ elim (either_way (is_in n (into_order done name))) [
          | inl m ↦ rw (m, k) (omega (arith, rest))
          | inr m ↦ rw (m, k) (omega (arith, rest))
        ]
      ]
]

pub passes_less : (todo : List (List ℕ)) (name : List ℕ) (w : ℕ) → w + length todo < w + length (todo ++ name ∷ [])
passes_less todo name w = rw (length-append todo (name ∷ [])) (omega arith)

pub visits_less : (led : List ℕ → List (List ℕ)) (leaders done todo : List (List ℕ)) (name : List ℕ) → (is_in name leaders ≡ false → led name ≡ []) → is_in name done ≡ false → weight led leaders (into_order done name) + length (todo ++ led name) < weight led leaders done + length (todo ++ name ∷ [])
visits_less led leaders done todo name others f = elim (either_way (is_in name leaders)) [
  | inl t ↦
      let drop = weight_drops led leaders done name t f in
      rw (length-append todo (led name), length-append todo (name ∷ [])) (omega (arith, drop))
  | inr g ↦
      let fall = weight_falls led leaders done name in
      let none : length (led name) ≡ 0 = ap length (others g) in
      rw (length-append todo (led name), length-append todo (name ∷ [])) (omega (arith, fall, none))
]

-- a step: a name that is done already is passed over, another one is done

pub walks_on : (led : List ℕ → List (List ℕ)) (start done todo : List (List ℕ)) (name : List ℕ) → IsWalk led start done (todo ++ name ∷ []) → IsWalk led start (done_after name done) (todo_after led name done todo)
walks_on led start done todo name walk = elim (either_way (is_in name done)) [
  | inl t ↦ subst (λ b. IsWalk led start (if b then done else into_order done name) (if b then todo else todo ++ led name)) (sym t) (passed led start done todo name walk t)
  | inr f ↦ subst (λ b. IsWalk led start (if b then done else into_order done name) (if b then todo else todo ++ led name)) (sym f) (visited led start done todo name walk)
]

pub weighs_less : (led : List ℕ → List (List ℕ)) (leaders done todo : List (List ℕ)) (name : List ℕ) → (is_in name leaders ≡ false → led name ≡ []) → weight led leaders (done_after name done) + length (todo_after led name done todo) < weight led leaders done + length (todo ++ name ∷ [])
weighs_less led leaders done todo name others = elim (either_way (is_in name done)) [
  | inl t ↦ subst (λ b. weight led leaders (if b then done else into_order done name) + length (if b then todo else todo ++ led name) < weight led leaders done + length (todo ++ name ∷ [])) (sym t) (passes_less todo name (weight led leaders done))
  | inr f ↦ subst (λ b. weight led leaders (if b then done else into_order done name) + length (if b then todo else todo ++ led name) < weight led leaders done + length (todo ++ name ∷ [])) (sym f) (visits_less led leaders done todo name others f)
]

pub empty_of : (l : List (List ℕ)) → length l ≡ 0 → l ≡ []
empty_of [] h = refl
empty_of (x ∷ l) h = absurd (let e : suc (length l) ≡ 0 = h in omega (arith, e))

-- names that ascend do so with one more
pub still_ordered : (name : List ℕ) (done : List (List ℕ)) → in_byte_order done ≡ done → in_byte_order (done_after name done) ≡ done_after name done
still_ordered name done h = elim (either_way (is_in name done)) [
  | inl t ↦ subst (λ b. in_byte_order (if b then done else into_order done name) ≡ (if b then done else into_order done name)) (sym t) h
  | inr f ↦ subst (λ b. in_byte_order (if b then done else into_order done name) ≡ (if b then done else into_order done name)) (sym f) (in_order (into_order done name) (into_ascending done name (subst Ascending h (ordered_ascending done))))
]

-- one more step of a walk that has gone on
pub goes_further : (led : List ℕ → List (List ℕ)) (first rest done todo : List (List ℕ)) (name : List ℕ) → HasGoneOn led first rest done (todo ++ name ∷ []) → HasGoneOn led first rest (done_after name done) (todo_after led name done todo)
goes_further led first rest done todo name on = record {
  ordered = still_ordered name done on.ordered;
  walks = λ start walk. walks_on led start done todo name (on.walks start walk);
}
