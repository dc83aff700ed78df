-- What is asked while the sweep goes on.
use Rattle.std.proofs.Common.{◌≡◌, ◌≢◌, sym, ◌∙◌, ap, subst, refl, ℕ, zero, suc, ◌+◌, ◌-◌, ◌<◌, ◌≤◌, Bool, true, false, List, [], ◌∷◌, ◌++◌, Contains, get_or, length, length-set, set, take, drop, unwrap_or, slice_get, Option, Some, None, ◌⊎◌, inl, inr, arith}
use Rattle.std.proofs.lemmas.Bool.{cases_eq, cases_lt}
use Rattle.std.proofs.lemmas.List.{take_at, take_more}
use Rattle.std.proofs.lemmas.List.Elements.{Contains-append_left, Contains-append_right, Contains-push, Contains-push_cases}
use Rattle.std.proofs.lemmas.Option.{slice_get-get_or, slice_get_past}
use Rattle.meta_model.specs.declared.event.Avail.{Avail}
use Rattle.meta_model.specs.declared.event.Avail.TheVariants.{Missing}
use Rattle.meta_model.specs.declared.plan.Plan.{Plan}
use Rattle.run_core.specs.Need.{AreOrdered}
use Rattle.tale_model.specs.Need.{IsIn, IsNeed}
use Rattle.setscene_plan.specs.Sets.{Adds, IsBelow}
use Rattle.tree_model.specs.declared.hash.Hash.{Hash}
use Rattle.setscene_plan.specs.View.{IsKnown, Says, View}
use Rattle.setscene_plan.specs.Asked.{AreNeeds, AsksAll, AsksOne, SameAt, SameMissing, TakesOut, asks_from, asks_once, members_among, members_of_either, once_of_either}
use Rattle.setscene_plan.proofs.Sweeping.{IsSwept, swept_next, swept_all}

-- a set that has more asks for more
once_more : (a b known : Option Bool) → (a ≡ Some true → b ≡ Some true) → asks_once a known ≤ asks_once b known
once_more None b known more = omega arith
once_more (Some false) b known more = omega arith
once_more (Some true) b known more = rw (more refl) (omega arith)

pub asks_more : (set more known : List Bool) (place n : ℕ) → ((t : ℕ) → IsIn set t → IsIn more t) → asks_from set known place n ≤ asks_from more known place n
asks_more set more known place zero within = omega arith
asks_more set more known place (suc n) within = omega (arith, once_more (slice_get set place) (slice_get more place) (slice_get known place) (within place), asks_more set more known (suc place) n within)

-- The sweep so far: what was found needed is known from this place on, what was known before still is, and no more was asked
-- than was needed and not known.
pub record IsAsked (says : Says) (view : View) (unihashes : List Hash) (known : List Bool) (before : ℕ) (set : List Bool) (avail : List Avail) (asked : ℕ) (place : ℕ) : Type 0 where
  pub swept : IsSwept view.plan avail set place
  pub wide : length avail ≡ length view.plan.tasks
  pub learnt : (t : ℕ) → place ≤ t → IsIn set t → IsKnown says view unihashes t (slice_get avail t)
  pub right : (t : ℕ) → t < place → IsIn known t → IsKnown says view unihashes t (slice_get avail t)
  pub bound : asked ≤ before + asks_from set known place (length view.plan.tasks - place)

pub asked_next : (says : Says) (view : View) (unihashes : List Hash) (known : List Bool) (before : ℕ) (set new : List Bool) (avail next : List Avail) (asked then : ℕ) (place : ℕ) → AreOrdered view.plan.tasks → place < length view.plan.tasks → IsAsked says view unihashes known before set avail asked (suc place)
    → Adds (IsBelow view.plan.tasks next set place) set new → (IsIn set place → IsKnown says view unihashes place (slice_get next place)) → length next ≡ length avail
    → ((t : ℕ) → t ≢ place → slice_get next t ≡ slice_get avail t) → then ≤ asked + asks_once (slice_get set place) (slice_get known place) → IsAsked says view unihashes known before new next then place
asked_next says view unihashes known before set new avail next asked then place ordered lt is adds here wide elsewhere rise = record {
  swept = swept_next view.plan avail next set new place ordered is.swept elsewhere adds;
  wide = wide ∙ is.wide;
  learnt = λ t from member. by_place t from member (cases_eq t place);
  right = λ t lt member. subst (IsKnown says view unihashes t) (sym (elsewhere t (λ e. omega (arith, e, lt)))) (is.right t (omega (arith, lt)) member);
  bound = omega (arith, rise, is.bound, counted, asks_more set new known place (length view.plan.tasks - place) adds.kept);
}
  where
    before_it : (t : ℕ) → place ≤ t → IsIn new t → IsIn set t
    before_it t from member = elim (adds.only t member) [
      | inl old ↦ old
      | inr below ↦
          let small : t < place = subst (λ x. x < place) below.2.2 (ordered place below.2.0 t below.2.1) in
          absurd (omega (arith, small, from))
    ]

    by_place : (t : ℕ) → place ≤ t → IsIn new t → (t ≡ place) ⊎ (t ≢ place) → IsKnown says view unihashes t (slice_get next t)
    by_place t from member (inl same) = subst (λ x. IsKnown says view unihashes x (slice_get next x)) (sym same) (here (subst (IsIn set) same (before_it t from member)))
    by_place t from member (inr other) = subst (IsKnown says view unihashes t) (sym (elsewhere t other)) (is.learnt t (past t from other) (before_it t from member))
      where
        past : (u : ℕ) → place ≤ u → u ≢ place → suc place ≤ u
        past u le ne = elim (cases_lt place u) [ inl lt ↦ omega (arith, lt) | inr ge ↦ absurd (ne (omega (arith, le, ge))) ]

    counted : asks_from set known place (length view.plan.tasks - place) ≡ asks_once (slice_get set place) (slice_get known place) + asks_from set known (suc place) (length view.plan.tasks - suc place)
    counted = ap (asks_from set known place) (let e : length view.plan.tasks - place ≡ suc (length view.plan.tasks - suc place) = omega (arith, lt) in e)

pub asked_all : (says : Says) (view : View) (unihashes : List Hash) (known : List Bool) (before : ℕ) (set : List Bool) (avail : List Avail) (asked : ℕ) → IsAsked says view unihashes known before set avail asked 0 → AreNeeds says view unihashes set avail
asked_all says view unihashes known before set avail asked is = record {
  least = swept_all view.plan avail set is.swept;
  long = is.wide;
  known = λ t member. is.learnt t (omega arith) member;
}

-- a member is asked for once
pub asks_in : (set known : List Bool) (place asked then : ℕ) → IsIn set place → then ≤ asked + asks_once (Some true) (slice_get known place) → then ≤ asked + asks_once (slice_get set place) (slice_get known place)
asks_in set known place asked then member le = subst (λ o. then ≤ asked + asks_once o (slice_get known place)) (sym member) le

-- one task is taken out

pub else_where : {X : Type 0} (s : List X) (v : X) (x t : ℕ) → t ≢ x → slice_get (set s x v) t ≡ slice_get s t
else_where [] v x t ne = refl
else_where (b ∷ bs) v zero zero ne = absurd (ne refl)
else_where (b ∷ bs) v zero (suc t) ne = refl
else_where (b ∷ bs) v (suc x) zero ne = refl
else_where (b ∷ bs) v (suc x) (suc t) ne = else_where bs v x t (λ e. ne (ap suc e))

out_here : (s : List Bool) (x : ℕ) → IsIn (set s x false) x → ⊥
out_here [] x h = let e : None ≡ Some true = h in cc
out_here (b ∷ bs) zero h = let e : Some false ≡ Some true = h in cc
out_here (b ∷ bs) (suc x) h = out_here bs x h

once_out : (a known : Option Bool) → asks_once a known ≤ asks_once a None
once_out None known = omega arith
once_out (Some false) known = omega arith
once_out (Some true) None = omega arith
once_out (Some true) (Some false) = omega arith
once_out (Some true) (Some true) = omega arith

asks_past : (all s : List Bool) (x place n : ℕ) → x < place → asks_from all (set s x false) place n ≡ asks_from all s place n
asks_past all s x place zero lt = refl
asks_past all s x place (suc n) lt =
    let first : slice_get (set s x false) place ≡ slice_get s place = else_where s false x place (λ e. omega (arith, e, lt)) in
    let rest : asks_from all (set s x false) (suc place) n ≡ asks_from all s (suc place) n = asks_past all s x (suc place) n (omega (arith, lt)) in
    rw first (rw rest refl)

pub asks_out : (all s : List Bool) (x place n : ℕ) → asks_from all (set s x false) place n ≤ asks_from all s place n + asks_once (slice_get all x) None
asks_out all s x place zero = omega arith
asks_out all s x place (suc n) = by_place (asks_out all s x (suc place) n) (cases_eq place x)
  where
    by_place : asks_from all (set s x false) (suc place) n ≤ asks_from all s (suc place) n + asks_once (slice_get all x) None → (place ≡ x) ⊎ (place ≢ x) → asks_from all (set s x false) place (suc n) ≤ asks_from all s place (suc n) + asks_once (slice_get all x) None
    by_place rest (inl same) =
        let one : asks_once (slice_get all place) (slice_get (set s x false) place) ≤ asks_once (slice_get all x) None = subst (λ y. asks_once (slice_get all place) (slice_get (set s x false) place) ≤ asks_once (slice_get all y) None) same (once_out (slice_get all place) (slice_get (set s x false) place)) in
        omega (arith, one, asks_past all s x (suc place) n (omega (arith, same)))
    by_place rest (inr other) =
        let one : asks_once (slice_get all place) (slice_get (set s x false) place) ≡ asks_once (slice_get all place) (slice_get s place) = ap (asks_once (slice_get all place)) (else_where s false x place other) in
        omega (arith, one, rest)

among_push : (all : List Bool) (xs : List ℕ) (x : ℕ) → members_among all (xs ++ x ∷ []) ≡ members_among all xs + asks_once (slice_get all x) None
among_push all [] x = omega arith
among_push all (y ∷ ys) x = omega (arith, among_push all ys x)

pub out_more : (tasks : List ℕ) (i x : ℕ) (old mid : List Bool) → i < length tasks → get_or tasks i 0 ≡ x → TakesOut (take i tasks) old mid → TakesOut (take (i + 1) tasks) old (set mid x false)
out_more tasks i x old mid lt is outs =
    let grown : take (i + 1) tasks ≡ take i tasks ++ x ∷ [] = take_more tasks i 0 lt ∙ ap (λ y. take i tasks ++ y ∷ []) is in
    rw grown (record {
      wide = length-set mid x false ∙ outs.wide;
      left = λ t h. elim (cases_eq t x) [
        | inl same ↦ absurd (out_here mid x (subst (IsIn (set mid x false)) same h))
        | inr ne ↦
            let before = outs.left t (sym (else_where mid false x t ne) ∙ h) in
            (before.0, λ held. elim (Contains-push_cases (take i tasks) x t held) [ inl front ↦ before.1 front | inr same ↦ ne (sym same) ])
      ];
      beyond = λ all. omega (arith, outs.beyond all, asks_out all mid x 0 (length all), among_push all (take i tasks) x);
    })

-- the places at which something differs

pub told_same : (need new : List Bool) (avail next : List Avail) (told : List ℕ) (place : ℕ) → ((t : ℕ) → t < place → Contains told t ⊎ SameAt need new avail next t) → SameAt need new avail next place → (t : ℕ) → t < place + 1 → Contains told t ⊎ SameAt need new avail next t
told_same need new avail next told place before same t lt = elim (cases_lt t place) [
  | inl front ↦ before t front
  | inr last ↦ inr (subst (SameAt need new avail next) (let e : place ≡ t = omega (arith, lt, last) in e) same)
]

pub told_more : (need new : List Bool) (avail next : List Avail) (told : List ℕ) (place : ℕ) → ((t : ℕ) → t < place → Contains told t ⊎ SameAt need new avail next t) → (t : ℕ) → t < place + 1 → Contains (told ++ place ∷ []) t ⊎ SameAt need new avail next t
told_more need new avail next told place before t lt = elim (cases_lt t place) [
  | inl front ↦ elim (before t front) [ inl held ↦ inl (Contains-append_left told (place ∷ []) t held) | inr same ↦ inr same ]
  | inr last ↦ inl (subst (Contains (told ++ place ∷ [])) (let e : place ≡ t = omega (arith, lt, last) in e) (Contains-push told place))
]

pub told_all : (need new : List Bool) (avail next : List Avail) (told : List ℕ) (place : ℕ) → length need ≤ place → length new ≡ length need → length avail ≡ length need → length next ≡ length need → ((t : ℕ) → t < place → Contains told t ⊎ SameAt need new avail next t) → (t : ℕ) → Contains told t ⊎ SameAt need new avail next t
told_all need new avail next told place past a b c before t = elim (cases_lt t place) [
  | inl front ↦ before t front
  | inr out ↦ inr (slice_get_past new t (omega (arith, out, past, a)) ∙ sym (slice_get_past need t (omega (arith, out, past))), slice_get_past next t (omega (arith, out, past, c)) ∙ sym (slice_get_past avail t (omega (arith, out, past, b))))
]

pub same_at : (need new : List Bool) (avail next : List Avail) (t : ℕ) → t < length need → length new ≡ length need → length avail ≡ length need → length next ≡ length need → get_or need t false ≡ get_or new t false → get_or avail t Missing ≡ get_or next t Missing → SameAt need new avail next t
same_at need new avail next t lt a b c flags avails = (slice_get-get_or new t false (omega (arith, lt, a)) ∙ ap Some (sym flags) ∙ sym (slice_get-get_or need t false lt), slice_get-get_or next t Missing (omega (arith, lt, c)) ∙ ap Some (sym avails) ∙ sym (slice_get-get_or avail t Missing (omega (arith, lt, b))))

-- what is needed depends on no more than which outputs are missing
pub need_missing : (plan : Plan) (avail next : List Avail) (need : List Bool) → SameMissing avail next → IsNeed plan avail need → IsNeed plan next need
need_missing plan avail next need same is = record {
  long = is.long;
  closed = record {
    targets = is.closed.targets;
    nostamp = is.closed.nostamp;
    dependencies = λ t member lacks. is.closed.dependencies t member ((same t).1 lacks);
  };
  least = λ other closed. is.least other (record {
    targets = closed.targets;
    nostamp = closed.nostamp;
    dependencies = λ t member lacks. closed.dependencies t member ((same t).0 lacks);
  });
}

pub still_needs : (says : Says) (view : View) (unihashes : List Hash) (need : List Bool) (avail next : List Avail) (tasks told : List ℕ) → IsNeed view.plan avail need → length next ≡ length view.plan.tasks → SameMissing avail next → AsksAll says view unihashes need tasks 0 avail next told → AreNeeds says view unihashes need next
still_needs says view unihashes need avail next tasks told is long same asks = record {
  least = need_missing view.plan avail next need same is;
  long = long;
  known = λ t member. elim (asks.right t member) [ inl held ↦ absurd (omega (arith, held.1)) | inr e ↦ e ];
}

pub all_asked_next : (says : Says) (view : View) (unihashes : List Hash) (need : List Bool) (tasks : List ℕ) (place task : ℕ) (avail mid next : List Avail) (told more : List ℕ) (turned : Bool)
    → place < length tasks → get_or tasks place 0 ≡ task → AsksAll says view unihashes need tasks (suc place) avail mid told → AsksOne says view unihashes need task mid next told more turned → AsksAll says view unihashes need tasks place avail next more
all_asked_next says view unihashes need tasks place task avail mid next told more turned lt at all one = record {
  right = λ t member. elim (cases_eq t task) [
    | inl same ↦ inr (subst (λ x. IsKnown says view unihashes x (slice_get next x)) (sym same) (one.here (subst (IsIn need) same member)))
    | inr ne ↦ elim (all.right t member) [
      | inl held ↦ elim (Contains-push_cases (take place tasks) task t (subst (λ xs. Contains xs t) grown held)) [ inl front ↦ inl front | inr same ↦ absurd (ne (sym same)) ]
      | inr e ↦ inr (subst (IsKnown says view unihashes t) (sym (one.elsewhere t ne)) e)
    ]
  ];
  told_all = λ t. elim (cases_eq t task) [
    | inl same ↦ elim one.told_it [
      | inl held ↦ inl (subst (Contains more) (sym same) held)
      | inr e ↦ by_mid t (subst (λ x. slice_get next x ≡ slice_get mid x) (sym same) e) (all.told_all t)
    ]
    | inr ne ↦ by_mid t (one.elsewhere t ne) (all.told_all t)
  ];
}
  where
    grown : take (suc place) tasks ≡ take place tasks ++ task ∷ []
    grown = ap (λ n. take n tasks) (let e : suc place ≡ place + 1 = omega arith in e) ∙ take_more tasks place 0 lt ∙ ap (λ y. take place tasks ++ y ∷ []) at

    by_mid : (t : ℕ) → slice_get next t ≡ slice_get mid t → Contains told t ⊎ (slice_get mid t ≡ slice_get avail t) → Contains more t ⊎ (slice_get next t ≡ slice_get avail t)
    by_mid t e (inl held) = inl (one.told_on t held)
    by_mid t e (inr f) = inr (e ∙ f)

pub missing_next : (a b c : List Avail) → SameMissing a b → SameMissing b c → SameMissing a c
missing_next a b c first second t = ((λ e. (second t).0 ((first t).0 e)), (λ e. (first t).1 ((second t).1 e)))

pub among_next : (need : List Bool) (tasks : List ℕ) (place task : ℕ) → place < length tasks → get_or tasks place 0 ≡ task → members_among need (drop place tasks) ≡ asks_once (slice_get need task) None + members_among need (drop (suc place) tasks)
among_next need [] place task lt at = absurd (omega (arith, lt))
among_next need (t ∷ ts) zero task lt at = rw at refl
among_next need (t ∷ ts) (suc place) task lt at = among_next need ts place task (omega (arith, lt)) at

either_old : (a b : Option Bool) → asks_once a None ≤ once_of_either a b
either_old None b = omega arith
either_old (Some false) b = omega arith
either_old (Some true) b = omega arith

either_new : (a b : Option Bool) → asks_once b None ≤ once_of_either a b
either_new None b = omega arith
either_new (Some false) b = omega arith
either_new (Some true) None = omega arith
either_new (Some true) (Some false) = omega arith
either_new (Some true) (Some true) = omega arith

-- what was asked in both parts
pub either_asks : (old new : List Bool) (tasks : List ℕ) (place : ℕ) → members_among new (take place tasks) + members_among old (drop place tasks) ≤ members_of_either old new tasks
either_asks old new [] zero = omega arith
either_asks old new [] (suc place) = omega arith
either_asks old new (t ∷ ts) zero = omega (arith, either_old (slice_get old t) (slice_get new t), either_asks old new ts zero)
either_asks old new (t ∷ ts) (suc place) = omega (arith, either_new (slice_get old t) (slice_get new t), either_asks old new ts place)

-- after the questions, none turned or one did

pub whole : {X : Type 0} (new old : List X) (n : ℕ) → length new ≡ n → take n (new ++ drop (length new) old) ≡ new
whole new old n e = take_at new (drop (length new) old) n e

pub none_needs : (says : Says) (view : View) (unihashes : List Hash) (need read : List Bool) (avail given next : List Avail) (tasks told : List ℕ) (turned : Option ℕ)
    → IsNeed view.plan avail need → length next ≡ length view.plan.tasks → read ≡ need → given ≡ avail → turned ≡ None → (turned ≡ None → SameMissing given next) → AsksAll says view unihashes read tasks (unwrap_or turned 0) given next told → AreNeeds says view unihashes need next
none_needs says view unihashes need read avail given next tasks told turned is long r a none same asks = still_needs says view unihashes need avail next tasks told is long
    (subst (λ xs. SameMissing xs next) a (same none))
    (subst (λ xs. AsksAll says view unihashes need tasks 0 xs next told) a (subst (λ ns. AsksAll says view unihashes ns tasks 0 given next told) r (subst (λ o. AsksAll says view unihashes read tasks (unwrap_or o 0) given next told) none asks)))

pub none_asked : (need read new : List Bool) (tasks : List ℕ) (turned : Option ℕ) (asked then more : ℕ) → read ≡ need → turned ≡ None → then ≤ asked + members_among read (drop (unwrap_or turned 0) tasks) → then ≤ asked + (more + members_of_either need new tasks)
none_asked need read new tasks turned asked then more r none le =
    let first : then ≤ asked + members_among need (drop 0 tasks) = subst (λ o. then ≤ asked + members_among need (drop (unwrap_or o 0) tasks)) none (subst (λ ns. then ≤ asked + members_among ns (drop (unwrap_or turned 0) tasks)) r le) in
    omega (arith, first, either_asks need new tasks 0)

pub some_asked : (need read new : List Bool) (tasks : List ℕ) (turned : Option ℕ) (left asked mid then more : ℕ) → read ≡ need → turned ≡ Some left → mid ≤ asked + members_among read (drop (unwrap_or turned 0) tasks) → then ≤ mid + (more + members_among new (take left tasks)) → then ≤ asked + (more + members_of_either need new tasks)
some_asked need read new tasks turned left asked mid then more r some le rest =
    let first : mid ≤ asked + members_among need (drop left tasks) = subst (λ o. mid ≤ asked + members_among need (drop (unwrap_or o 0) tasks)) some (subst (λ ns. mid ≤ asked + members_among ns (drop (unwrap_or turned 0) tasks)) r le) in
    omega (arith, first, rest, either_asks need new tasks left)

pub none_told : (need : List Bool) (avail given next written : List Avail) (told : List ℕ) → given ≡ avail → written ≡ next → ((t : ℕ) → Contains told t ⊎ (slice_get next t ≡ slice_get given t)) → (t : ℕ) → Contains told t ⊎ SameAt need need avail written t
none_told need avail given next written told a w first t = elim (first t) [
  | inl held ↦ inl held
  | inr still ↦ inr (refl, ap (λ (xs : List Avail). slice_get xs t) w ∙ still ∙ ap (λ (xs : List Avail). slice_get xs t) a)
]

pub some_told : (need new : List Bool) (avail given next written final : List Avail) (told more slice all : List ℕ)
    → given ≡ avail → written ≡ next → slice ≡ more → all ≡ told ++ slice → ((t : ℕ) → Contains told t ⊎ (slice_get next t ≡ slice_get given t)) → ((t : ℕ) → Contains more t ⊎ SameAt need new written final t) → (t : ℕ) → Contains all t ⊎ SameAt need new avail final t
some_told need new avail given next written final told more slice all a w m e first second t = elim (second t) [
  | inl held ↦ inl (subst (λ xs. Contains xs t) (sym joined) (Contains-append_right told more t held))
  | inr same ↦ elim (first t) [
    | inl held ↦ inl (subst (λ xs. Contains xs t) (sym joined) (Contains-append_left told more t held))
    | inr still ↦ inr (same.0, same.1 ∙ ap (λ (xs : List Avail). slice_get xs t) w ∙ still ∙ ap (λ (xs : List Avail). slice_get xs t) a)
  ]
]
  where
    joined : all ≡ told ++ more
    joined = e ∙ ap (λ xs. told ++ xs) m

pub some_others : (says : Says) (view now : View) (unihashes : List Hash) (need read : List Bool) (given next written : List Avail) (tasks told : List ℕ) (turned : Option ℕ) (left : ℕ)
    → read ≡ need → written ≡ next → turned ≡ Some left → now ≡ view → AsksAll says view unihashes read tasks (unwrap_or turned 0) given next told → (t : ℕ) → IsIn need t → Contains (take left tasks) t ⊎ IsKnown says now unihashes t (slice_get written t)
some_others says view now unihashes need read given next written tasks told turned left r w some n asks t member = elim (asks.right t (subst (λ ns. IsIn ns t) (sym r) member)) [
  | inl held ↦ inl (subst (λ o. Contains (take (unwrap_or o 0) tasks) t) some held)
  | inr known ↦ inr (subst (λ (v : View). IsKnown says v unihashes t (slice_get written t)) (sym n) (subst (λ xs. IsKnown says view unihashes t (slice_get xs t)) (sym w) known))
]
