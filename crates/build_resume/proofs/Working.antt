-- What workers did, by the tale that they left.
use Rattle.std.proofs.Common.{◌≡◌, ◌≢◌, ◌∙◌, sym, ap, subst, refl, ℕ, ◌+◌, ◌<◌, ◌≤◌, zero, suc, arith, Bool, true, false, List, [], ◌∷◌, ◌++◌, All, take, drop, length, append-nil, replicate, Some, None, inl, inr}
use Rattle.std.specs.Prelude.{◌⊎◌, Option, if◌then◌else◌}
use Rattle.std.specs.List.{slice_get}
use Rattle.std.proofs.lemmas.Bool.{false≢true}
use Rattle.std.proofs.lemmas.Bool.Decides.{eqb_tells}
use Rattle.std.proofs.lemmas.List.{append_assoc, length-append, take-append-drop, take-append-le, take_all}
use Rattle.std.proofs.lemmas.Option.{get_or_from_slice_get, none-some, same_Some, slice_get_within}
use Rattle.run_model.specs.Report.{tale_text}
use Rattle.meta_model.specs.declared.plan.Plan.{Plan}
use Rattle.run_queue.specs.declared.fault.RunFault.{RunFault}
use Rattle.run_queue.specs.Keeps.{IsFront, Prints}
use Rattle.run_queue.specs.Seen.{Seen}
use Rattle.run_workers.specs.Ended.{AllEnded}
use Rattle.outside_traits.specs.Fault.{Rose}
use Rattle.meta_model.specs.declared.event.Event.{Event}
use Rattle.meta_model.specs.declared.event.Event.TheVariants as events
use Rattle.meta_model.specs.declared.event.Logged.{Logged}
use Rattle.run_model.specs.Runs.{RanScripts, RanThese, Runs, started_in}
use Rattle.meta_model.specs.CleanBuild.{Gives}
use Rattle.run_model.specs.Seats.{BreaksLast, own, is_bench_break, is_break}
use Rattle.run_model.specs.Seated.{HaveBenches, IsSeated}
use Rattle.tale_model.specs.declared.fate.Fate.TheVariants as fate
use Rattle.tale_model.specs.Fates.{fate_at, is_running}
use Rattle.run_workers.specs.Worked.{Breaks, NoneBroke, RanPrinted}
use Rattle.run_model.specs.Benches.{AtWorkers, BreaksBench, BreaksByFault, broken_at, started_by}
use Rattle.build_resume.specs.Benches.{HasSeats}
use Rattle.run_model.specs.Build.{RanJust, RanStarted}
use Rattle.build_resume.specs.Drive.{IsAlone, SaidByWorkers}
use Rattle.build_resume.proofs.Seating.{own_split}

-- ---- entries of a seat

-- the test of an entry's seat
pub own_step : (n : ℕ) (e : Logged) (tale : List Logged) → e.seat ≡ n → own n (e ∷ tale) ≡ e ∷ own n tale
own_step n e tale is = elim (eqb_tells e.seat n) [
  | inl same ↦ ap (λ (b : Bool). if b then e ∷ own n tale else own n tale) same.0
  | inr other ↦ absurd (other.1 is)
]

own_skip : (n : ℕ) (e : Logged) (tale : List Logged) → e.seat ≢ n → own n (e ∷ tale) ≡ own n tale
own_skip n e tale ne = elim (eqb_tells e.seat n) [
  | inl same ↦ absurd (ne same.1)
  | inr other ↦ ap (λ (b : Bool). if b then e ∷ own n tale else own n tale) other.0
]

-- an entry of a seat stands among its own
pub among_own : (n : ℕ) (tale : List Logged) (k : ℕ) (e : Logged) → slice_get tale k ≡ Some e → e.seat ≡ n → (j : ℕ) × (slice_get (own n tale) j ≡ Some e)
among_own n [] k e at is = absurd (none-some e at)
among_own n (x ∷ tale) zero e at is =
    let same : x ≡ e = same_Some x e at in
    let here : x.seat ≡ n = ap (λ (l : Logged). l.seat) same ∙ is in
    (0, ap (λ (l : List Logged). slice_get l 0) (own_step n x tale here) ∙ at)
among_own n (x ∷ tale) (suc k) e at is =
    let rest = among_own n tale k e at is in
    elim (eqb_tells x.seat n) [
      | inl same ↦ (suc rest.0, ap (λ (l : List Logged). slice_get l (suc rest.0)) (own_step n x tale same.1) ∙ rest.1)
      | inr other ↦ (rest.0, ap (λ (l : List Logged). slice_get l rest.0) (own_skip n x tale other.1) ∙ rest.1)
    ]

-- a seat that marked nothing has no entries
pub own_none : (n : ℕ) (tale : List Logged) → ((k : ℕ) (e : Logged) → slice_get tale k ≡ Some e → e.seat ≡ n → ⊥) → own n tale ≡ []
own_none n [] none = refl
own_none n (e ∷ tale) none = own_skip n e tale (none 0 e refl) ∙ own_none n tale (λ k x at is. none (suc k) x at is)

-- ---- breaks

break_is : (x : Event) → is_bench_break x ≡ true → is_break x ≡ true
break_is (events.Found t) e = absurd (false≢true e)
break_is (events.Restored t) e = absurd (false≢true e)
break_is (events.Started t seat) e = absurd (false≢true e)
break_is (events.Ended t) e = absurd (false≢true e)
break_is (events.Failed t w) e = absurd (false≢true e)
break_is (events.Broke t c) e = refl

none_broke : (front : List Logged) (k : ℕ) (e : Logged) → NoneBroke front → slice_get front k ≡ Some e → is_bench_break e.event ≡ true → ⊥
none_broke [] k e none at is = none-some e at
none_broke (x ∷ front) zero e none at is = false≢true (sym none.0 ∙ ap (λ (l : Logged). is_break l.event) (same_Some x e at) ∙ break_is e.event is)
none_broke (x ∷ front) (suc k) e none at is = none_broke front k e none.1 at is

two_places : (front back : List Logged) (k : ℕ) (e : Logged) → slice_get (front ++ back) k ≡ Some e → (slice_get front k ≡ Some e) ⊎ ((j : ℕ) × (slice_get back j ≡ Some e))
two_places [] back k e at = inr (k, at)
two_places (x ∷ front) back zero e at = inl at
two_places (x ∷ front) back (suc k) e at = two_places front back k e at

one_place : (x e : Logged) (k : ℕ) → slice_get (x ∷ []) k ≡ Some e → x ≡ e
one_place x e zero at = same_Some x e at
one_place x e (suc k) at = absurd (none-some e at)

-- a task of a worker broke off since its bench failed only where that bench's count rose
pub broke_by : (n before now : ℕ) (tale : List Logged) → Breaks (Unit {0}) (Rose before now) (own n tale) → BreaksByFault tale n before now
broke_by n before now tale b broke =
    let a = among_own n tale broke.place broke.entry broke.is_entry broke.of in
    elim (two_places b.front b.back a.0 broke.entry (ap (λ (l : List Logged). slice_get l a.0) (sym b.cut) ∙ a.1)) [
      | inl first ↦ absurd (none_broke b.front a.0 broke.entry b.before first broke.breaks)
      | inr later ↦ elim b.last [
        | inl none ↦ absurd (none-some broke.entry (ap (λ (l : List Logged). slice_get l later.0) (sym none) ∙ later.1))
        | inr one ↦
            let same : one.0 ≡ broke.entry = one_place one.0 broke.entry later.0 (ap (λ (l : List Logged). slice_get l later.0) (sym one.1) ∙ later.1) in
            one.3 (ap (λ (l : Logged). is_bench_break l.event) same ∙ broke.breaks)
      ]
    ]

-- ---- the seats of a tale

-- each entry is of a worker's seat, up to this number
pub has_seats : (n : ℕ) (tale : List Logged) → All (λ e. (0 < e.seat) × (e.seat ≤ n)) tale → HasSeats n tale
has_seats n tale all place entry at = subst (λ (e : Logged). (0 < e.seat) × (e.seat ≤ n)) (get_or_from_slice_get tale place entry entry at) (all place entry (slice_get_within tale place entry at))

pub seats_wider : (n m : ℕ) (tale : List Logged) → n ≤ m → HasSeats n tale → HasSeats m tale
seats_wider n m tale le has place entry at = let h = has place entry at in let b = h.1 in (h.0, omega (arith, le, b))

pub no_seats : (n : ℕ) (tale : List Logged) → tale ≡ [] → HasSeats n tale
no_seats n tale none place entry at = absurd (none-some entry (ap (λ (l : List Logged). slice_get l place) (sym none) ∙ at))

-- an entry of a front stands in the whole
pub taken : (n : ℕ) (tale : List Logged) (k : ℕ) (e : Logged) → slice_get (take n tale) k ≡ Some e → slice_get tale k ≡ Some e
taken zero tale k e at = absurd (none-some e at)
taken (suc n) [] k e at = at
taken (suc n) (x ∷ tale) zero e at = at
taken (suc n) (x ∷ tale) (suc k) e at = taken n tale k e at

pub seats_front : (n m : ℕ) (tale : List Logged) → HasSeats n tale → HasSeats n (take m tale)
seats_front n m tale has place entry at = has place entry (taken m tale place entry at)

-- seat 0 has none, nor has a seat behind the last
pub none_first : (n : ℕ) (tale : List Logged) → HasSeats n tale → started_by 0 tale ≡ []
none_first n tale has = ap started_in (own_none 0 tale (λ k e at is. let h = (has k e at).0 in omega (arith, h, is)))

pub none_behind : (n seat : ℕ) (tale : List Logged) → n < seat → HasSeats n tale → started_by seat tale ≡ []
none_behind n seat tale lt has = ap started_in (own_none seat tale (λ k e at is. let h = (has k e at).1 in omega (arith, h, is, lt)))

pub calm_first : (n : ℕ) (tale : List Logged) → HasSeats n tale → BreaksBench 0 tale → ⊥
calm_first n tale has b = let h = (has b.place b.entry b.is_entry).0 in let o = b.of in omega (arith, h, o)

pub calm_behind : (n seat count : ℕ) (tale : List Logged) → n < seat → HasSeats n tale → BreaksByFault tale seat count count
calm_behind n seat count tale lt has b = absurd (let h = (has b.place b.entry b.is_entry).1 in let o = b.of in omega (arith, h, o, lt))

-- ---- one bench more, that has no worker

last_or : {A : Type 0} (xs : List A) (x : A) (k : ℕ) (y : A) → slice_get (xs ++ x ∷ []) k ≡ Some y → (slice_get xs k ≡ Some y) ⊎ ((k ≡ length xs) × (x ≡ y))
last_or [] x zero y at = inr (refl, same_Some x y at)
last_or [] x (suc k) y at = absurd (none-some y at)
last_or (z ∷ xs) x zero y at = inl at
last_or (z ∷ xs) x (suc k) y at = elim (last_or xs x k y at) [
  | inl here ↦ inl here
  | inr last ↦ inr (ap suc last.0, last.1)
]

-- one more bench behind the workers', as it was and is
pub workers_grown : {A : Type 0} (P : ℕ → A → A → Type 0) (before now old new : List A) (x y : A) → old ≡ before ++ x ∷ [] → new ≡ now ++ y ∷ [] → AtWorkers P before now → P (length before + 1) x y → AtWorkers P old new
workers_grown P before now old new x y was is w same = record {
  long = ap length is ∙ length-append now (y ∷ []) ∙ ap (λ n. n + 1) w.long ∙ sym (length-append before (x ∷ [])) ∙ sym (ap length was);
  each = λ k a b at_a at_b. each k a b (ap (λ l. slice_get l k) (sym was) ∙ at_a) (ap (λ l. slice_get l k) (sym is) ∙ at_b);
}
  where
    each : (k : ℕ) (a b : _) → slice_get (before ++ x ∷ []) k ≡ Some a → slice_get (now ++ y ∷ []) k ≡ Some b → P (k + 1) a b
    each k a b at_a at_b = elim (last_or before x k a at_a) [
      | inl here ↦ elim (last_or now y k b at_b) [
        | inl there ↦ w.each k a b here there
        | inr last ↦ absurd (let within = slice_get_within before k a here in let l = last.0 in let long = w.long in omega (arith, within, l, long))
      ]
      | inr last ↦ elim (last_or now y k b at_b) [
        | inl there ↦ absurd (let within = slice_get_within now k b there in let l = last.0 in let long = w.long in omega (arith, within, l, long))
        | inr other ↦ subst (λ n. P (n + 1) a b) (sym last.0) (subst (λ z. P (length before + 1) a z) other.1 (subst (λ z. P (length before + 1) z y) last.1 same))
      ]
    ]

pub workers_pushed : {A : Type 0} (P : ℕ → A → A → Type 0) (before now old new : List A) (x : A) → old ≡ before ++ x ∷ [] → new ≡ now ++ x ∷ [] → AtWorkers P before now → P (length before + 1) x x → AtWorkers P old new
workers_pushed P before now old new x was is w same = workers_grown P before now old new x x was is w same

-- ---- what was printed

cancel : (xs rest : List ℕ) → xs ≡ xs ++ rest → rest ≡ []
cancel xs [] e = refl
cancel xs (r ∷ rest) e = absurd (let a : length xs ≡ length xs + length (r ∷ rest) = ap length e ∙ length-append xs (r ∷ rest) in omega (arith, a))

drop_all : (tale : List Logged) → drop (length tale) tale ≡ []
drop_all [] = refl
drop_all (e ∷ tale) = drop_all tale

pub said_by_workers : {B : Type 0} (runs : B → Runs) (plan : Plan) (fault : Option RunFault) (tale : List Logged) (before now : List B) (base written : List ℕ) (failed : Bool) (n count : ℕ) → HasSeats count tale → length now ≡ length before
    → IsFront (base ++ tale_text plan.tasks (take n tale)) written
    → ((k : ℕ) (old new : B) → slice_get before k ≡ Some old → slice_get now k ≡ Some new → RanPrinted plan (own (k + 1) tale) (own (k + 1) (take n tale)) (runs old) (runs new))
    → (fault ≡ None → n ≡ length tale) → (fault ≡ None → failed ≡ false) → Prints base written (tale_text plan.tasks tale) failed
    → SaidByWorkers runs plan fault tale before now base written
said_by_workers runs plan fault tale before now base written failed n count has long front each all stands prints = record {
  front = take n tale;
  back = drop n tale;
  cut = sym (take-append-drop n tale);
  ran = record { long = long; each = λ k old new a b. let r = each k old new a b in record { runs = r.runs; ran = r.ran; these = r.these } };
  none = none_first count (take n tale) (seats_front count n tale has);
  rest = front.rest;
  is = front.is ∙ append_assoc base (tale_text plan.tasks (take n tale)) front.rest;
  whole = λ none. (
    ap (λ k. drop k tale) (all none) ∙ drop_all tale,
    cancel (base ++ tale_text plan.tasks (take n tale)) front.rest
        (ap (λ (l : List Logged). base ++ tale_text plan.tasks l) (ap (λ k. take k tale) (all none) ∙ take_all tale) ∙ sym (whole_text none) ∙ front.is),
  );
}
  where
    take_all : (l : List Logged) → take (length l) l ≡ l
    take_all [] = refl
    take_all (x ∷ l) = ap (λ t. x ∷ t) (take_all l)

    whole_text : fault ≡ None → written ≡ base ++ tale_text plan.tasks tale
    whole_text none = (subst (λ (b : Bool). Prints base written (tale_text plan.tasks tale) b) (stands none) prints).whole

-- a front's entries are the tale's
front_has : (n : ℕ) (tale front back : List Logged) → tale ≡ front ++ back → HasSeats n tale → HasSeats n front
front_has n tale front back cut has place entry at = has place entry (subst (λ (l : List Logged). slice_get l place ≡ Some entry) (sym cut) (first front place at))
  where
    first : (l : List Logged) (k : ℕ) → slice_get l k ≡ Some entry → slice_get (l ++ back) k ≡ Some entry
    first [] k e = absurd (none-some entry e)
    first (x ∷ l) zero e = e
    first (x ∷ l) (suc k) e = first l k e

-- a seat behind the last one ran nothing
just_behind : (plan : Plan) (broke : Option ℕ) (n : ℕ) (tale : List Logged) (runs : Runs) → HasSeats n tale → RanJust plan broke (started_by (n + 1) tale) runs runs
just_behind plan broke n tale runs has = record {
  runs = [];
  ran = sym (append-nil runs);
  these = subst (λ (l : List ℕ). RanScripts plan broke l []) (sym (none_behind n (n + 1) tale (omega arith) has)) tt;
}

pub ran_behind : (gives : Gives) (plan : Plan) (n : ℕ) (tale : List Logged) (runs : Runs) → HasSeats n tale → RanStarted gives plan tale (n + 1) runs runs
ran_behind gives plan n tale runs has = record {
  runs = [];
  ran = sym (append-nil runs);
  these = subst (λ (l : List ℕ). RanThese gives plan (broken_at (n + 1) tale) l []) (sym (none_behind n (n + 1) tale (omega arith) has)) tt;
}

-- what was printed is as it was where one bench more has no worker
pub said_pushed : {B : Type 0} (runs : B → Runs) (plan : Plan) (fault : Option RunFault) (tale : List Logged) (before now old new : List B) (x : B) (base written : List ℕ) → old ≡ before ++ x ∷ [] → new ≡ now ++ x ∷ [] → HasSeats (length before) tale
    → SaidByWorkers runs plan fault tale before now base written → SaidByWorkers runs plan fault tale old new base written
said_pushed runs plan fault tale before now old new x base written was is has said = record {
  front = said.front;
  back = said.back;
  cut = said.cut;
  ran = workers_pushed (λ seat a b. RanJust plan (broken_at seat tale) (started_by seat said.front) (runs a) (runs b)) before now old new x was is said.ran (just_behind plan (broken_at (length before + 1) tale) (length before) said.front (runs x) (front_has (length before) tale said.front said.back said.cut has));
  none = said.none;
  rest = said.rest;
  is = said.is;
  whole = said.whole;
}

-- the seat of a break is that of a bench, where the calling thread went on alone
pub break_seat : (n : ℕ) (mid more tale : List Logged) → tale ≡ mid ++ more → IsAlone more → HasSeats n mid → (seat : ℕ) → BreaksBench seat tale → seat < n + 1
break_seat n mid more tale is alone has seat b = elim (two_places mid more b.place b.entry (ap (λ (l : List Logged). slice_get l b.place) (sym is) ∙ b.is_entry)) [
  | inl first ↦ let h = (has b.place b.entry first).1 in let o = b.of in omega (arith, h, o)
  | inr later ↦ let z = alone.seats later.0 b.entry later.1 in let o = b.of in omega (arith, z, o)
]

-- each entry is of a seat with a bench, where the calling thread went on alone
pub have_benches : (n : ℕ) (mid more tale : List Logged) → tale ≡ mid ++ more → IsAlone more → HasSeats n mid → HaveBenches (n + 1) tale
have_benches n mid more tale is alone has place entry at = elim (two_places mid more place entry (ap (λ (l : List Logged). slice_get l place) (sym is) ∙ at)) [
  | inl first ↦ let h = (has place entry first).1 in omega (arith, h)
  | inr later ↦ let z = alone.seats later.0 entry later.1 in omega (arith, z)
]

-- ---- each of the first benches had a worker, which came to an end

module _ {B : Type 0} (first : Seen) (faulty : List Logged → Type 0) (faults : B → ℕ) (wanting : Bool) (tale : List Logged) (workers : ℕ) where
  -- no bench
  pub ended_none : (olds news : List B) → olds ≡ [] → AllEnded first faulty faults wanting tale (take workers olds) (take workers news)
  ended_none olds news none k old new was is = absurd (none-some old (sym (ap (λ (l : List B). slice_get (take workers l) k) none ∙ ap (λ (l : List B). slice_get l k) (take_none workers)) ∙ was))
    where
      take_none : (n : ℕ) → ◌≡◌ {A = List B} (take n []) []
      take_none zero = refl
      take_none (suc n) = refl

  -- each of them
  pub ended_whole : (olds news : List B) → length olds ≤ workers → length news ≡ length olds → AllEnded first faulty faults wanting tale olds news → AllEnded first faulty faults wanting tale (take workers olds) (take workers news)
  ended_whole olds news few long all =
      subst (λ (l : List B). AllEnded first faulty faults wanting tale l (take workers news)) (sym (take_all workers olds few))
      (subst (λ (l : List B). AllEnded first faulty faults wanting tale olds l) (sym (take_all workers news (omega (arith, few, long)))) all)

  -- and one more, which had none
  pub ended_pushed : (olds news before now : List B) (x : B) → before ≡ olds ++ x ∷ [] → now ≡ news ++ x ∷ [] → length news ≡ length olds → workers ≤ length olds → AllEnded first faulty faults wanting tale (take workers olds) (take workers news) → AllEnded first faulty faults wanting tale (take workers before) (take workers now)
  ended_pushed olds news before now x was is long few all =
      subst (λ (l : List B). AllEnded first faulty faults wanting tale l (take workers now)) (sym (ap (take workers) was ∙ take-append-le workers olds (x ∷ []) few))
      (subst (λ (l : List B). AllEnded first faulty faults wanting tale (take workers olds) l) (sym (ap (take workers) is ∙ take-append-le workers news (x ∷ []) (omega (arith, few, long)))) all)

-- ---- seats are left behind tasks that broke off

-- behind the entry of a list that says so there is none
left_of : (halts failed : Type 0) (mine : List Logged) → Breaks halts failed mine → (front back : List Logged) (entry : Logged) → mine ≡ front ++ entry ∷ back → is_break entry.event ≡ true → back ≡ []
left_of halts failed mine b front back entry is breaks = at b.front b.back b.before (elim b.last [ inl none ↦ inl none | inr last ↦ inr (last.0, last.1) ]) front (sym b.cut ∙ is)
  where
    end_of : (xs : List Logged) (x : Logged) → [] ≡ xs ++ x ∷ back → ⊥
    end_of [] x e = cc
    end_of (y ∷ xs) x e = cc

    at : (calm last : List Logged) → NoneBroke calm → (last ≡ []) ⊎ ((e : Logged) × (last ≡ e ∷ [])) → (front : List Logged) → calm ++ last ≡ front ++ entry ∷ back → back ≡ []
    at [] last none (inl empty) front e = absurd (end_of front entry (sym empty ∙ e))
    at [] last none (inr one) [] e = (let same : one.0 ∷ [] ≡ entry ∷ back = sym one.1 ∙ e in cc)
    at [] last none (inr one) (x ∷ front) e = absurd (end_of front entry (let same : one.0 ∷ [] ≡ x ∷ (front ++ entry ∷ back) = sym one.1 ∙ e in cc))
    at (c ∷ calm) last none which [] e = absurd (false≢true (sym none.0 ∙ ap (λ (l : Logged). is_break l.event) (let same : c ≡ entry = (let whole : c ∷ (calm ++ last) ≡ entry ∷ back = e in cc) in same) ∙ breaks))
    at (c ∷ calm) last none which (x ∷ front) e = at calm last none.1 which front (let whole : c ∷ (calm ++ last) ≡ x ∷ (front ++ entry ∷ back) = e in cc)

-- a seat without entries
left_empty : (mine : List Logged) → mine ≡ [] → (front back : List Logged) (entry : Logged) → mine ≡ front ++ entry ∷ back → back ≡ []
left_empty mine none front back entry is = absurd (end front (sym none ∙ is))
  where
    end : (xs : List Logged) → [] ≡ xs ++ entry ∷ back → ⊥
    end [] e = cc
    end (y ∷ xs) e = cc

pub left_none : (tale : List Logged) → tale ≡ [] → BreaksLast tale
left_none tale none seat front back entry is breaks = left_empty (own seat tale) (ap (own seat) none) front back entry is

-- of workers' seats
pub left_workers : {B : Type 0} (faults : B → ℕ) (olds news : List B) (tale : List Logged) → length news ≡ length olds → HasSeats (length olds) tale
    → ((k : ℕ) (old new : B) → slice_get olds k ≡ Some old → slice_get news k ≡ Some new → Breaks (Unit {0}) (Rose (faults old) (faults new)) (own (k + 1) tale)) → BreaksLast tale
left_workers faults olds news tale long has each zero front back entry is breaks = left_empty (own 0 tale) (own_none 0 tale (λ k e at of. let h = (has k e at).0 in omega (arith, h, of))) front back entry is
left_workers faults olds news tale long has each (suc k) front back entry is breaks = elim (place olds k) [
  | inl old ↦ elim (place news k) [
    | inl new ↦ left_of (Unit {0}) (Rose (faults old.0) (faults new.0)) (own (suc k) tale) (subst (λ n. Breaks (Unit {0}) (Rose (faults old.0) (faults new.0)) (own n tale)) (let one : k + 1 ≡ suc k = omega arith in one) (each k old.0 new.0 old.1 new.1)) front back entry is breaks
    | inr behind ↦ absurd (let within = slice_get_within olds k old.0 old.1 in omega (arith, within, behind, long))
  ]
  | inr behind ↦ left_empty (own (suc k) tale) (own_none (suc k) tale (λ j e at of. let h = (has j e at).1 in omega (arith, h, of, behind))) front back entry is
]
  where
    place : {A : Type 0} (xs : List A) (n : ℕ) → ((x : A) × (slice_get xs n ≡ Some x)) ⊎ (length xs ≤ n)
    place [] n = inr (omega arith)
    place (x ∷ xs) zero = inl (x, refl)
    place (x ∷ xs) (suc n) = elim (place xs n) [ inl at ↦ inl at | inr le ↦ inr (omega (arith, le)) ]

-- where the calling thread goes on alone
pub left_on : (n : ℕ) (mid more tale : List Logged) → tale ≡ mid ++ more → IsAlone more → HasSeats n mid → BreaksLast mid → Breaks (Unit {0}) (Unit {0}) more → BreaksLast tale
left_on n mid more tale is alone has left broke zero front back entry at breaks =
    left_of (Unit {0}) (Unit {0}) more broke front back entry (sym (own_alone more alone) ∙ sym first ∙ at) breaks
  where
    first : own 0 tale ≡ own 0 more
    first = ap (own 0) is ∙ own_split 0 mid more ∙ ap (λ (l : List Logged). l ++ own 0 more) (own_none 0 mid (λ k e at of. let h = (has k e at).0 in omega (arith, h, of)))

    own_alone : (l : List Logged) → IsAlone l → own 0 l ≡ l
    own_alone [] a = refl
    own_alone (e ∷ l) a = own_step 0 e l (a.seats 0 e refl) ∙ ap (λ (x : List Logged). e ∷ x) (own_alone l (record { seats = λ place entry at. a.seats (suc place) entry at }))
left_on n mid more tale is alone has left broke (suc k) front back entry at breaks =
    left (suc k) front back entry (sym others ∙ at) breaks
  where
    others : own (suc k) tale ≡ own (suc k) mid
    others = ap (own (suc k)) is ∙ own_split (suc k) mid more ∙ ap (λ (l : List Logged). own (suc k) mid ++ l) (own_none (suc k) more (λ j e at of. let z = alone.seats j e at in omega (arith, z, of))) ∙ append-nil (own (suc k) mid)

-- ---- a tale without entries

pub none_benches : (n : ℕ) (tale : List Logged) → tale ≡ [] → HaveBenches n tale
none_benches n tale none place entry at = absurd (none-some entry (ap (λ (l : List Logged). slice_get l place) (sym none) ∙ at))

all_wait : (count t : ℕ) → fate_at (replicate count fate.Waiting) t ≡ fate.Waiting
all_wait zero t = refl
all_wait (suc count) zero = refl
all_wait (suc count) (suc t) = all_wait count t

pub none_seated : (plan : Plan) (tale : List Logged) → tale ≡ [] → IsSeated plan tale
none_seated plan tale none = record {
  front = [];
  back = tale;
  cut = refl;
  workers = λ place entry at. absurd (none-some entry at);
  rests = λ t runs. false≢true (sym (ap is_running (all_wait (length plan.tasks) t)) ∙ runs);
  alone = λ place entry at. absurd (none-some entry (ap (λ (l : List Logged). slice_get l place) (sym none) ∙ at));
  left = left_none tale none;
}
