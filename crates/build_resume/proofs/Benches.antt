-- What each bench of a row did.
use Rattle.std.proofs.Common.{◌≡◌, ◌≢◌, ◌∙◌, ap, sym, subst, refl, ℕ, zero, suc, ◌+◌, ◌<◌, List, [], ◌∷◌, ◌++◌, append-nil, arith, length, map, get_or, All, Some, inl, inr}
use Rattle.std.specs.Prelude.{Option, slice_index}
use Rattle.std.specs.List.{slice_get}
use Rattle.std.proofs.lemmas.List.{get_or_append_left, length-append, length-map, map-append}
use Rattle.std.proofs.lemmas.Option.{none-some, same_Some}
use Rattle.std.proofs.Math.Seq.{get_or-append_seam}
use Rattle.outside_traits.specs.Fault.{Rose}
use Rattle.meta_model.specs.declared.event.Logged.{Logged}
use Rattle.meta_model.specs.declared.plan.Plan.{Plan}
use Rattle.meta_model.specs.CleanBuild.{Gives}
use Rattle.run_model.specs.Runs.{RanThese, Runs, broken_off, started_in}
use Rattle.run_model.specs.Seats.{own}
use Rattle.run_model.specs.Benches.{AtSeats, AtWorkers, BreaksBench, BreaksByFault, SomeRose, broken_at, started_by}
use Rattle.run_model.specs.Build.{RanJust, RanStarted}
use Rattle.build_resume.specs.Drive.{IsAlone}
use Rattle.build_resume.proofs.Seating.{breaks_before, breaks_nil, broken_behind, own_split, started_split}
use Rattle.build_resume.proofs.Turning.{these_still}
use Rattle.build_resume.proofs.Working.{own_none}

-- ---- each bench of a row

-- what stands at a place of what a function makes of a list
mapped_at : {A X : Type 0} (f : A → X) (xs : List A) (k : ℕ) (y : X) → slice_get (map f xs) k ≡ Some y → (x : A) × (slice_get xs k ≡ Some x) × (f x ≡ y)
mapped_at f [] k y at = absurd (none-some y at)
mapped_at f (x ∷ xs) zero y at = (x, refl, same_Some (f x) y at)
mapped_at f (x ∷ xs) (suc k) y at = mapped_at f xs k y at

pub workers_mapped : {A X : Type 0} (f : A → X) (P : ℕ → X → X → Type 0) (before now : List A) → AtWorkers (λ s a b. P s (f a) (f b)) before now → AtWorkers P (map f before) (map f now)
workers_mapped f P before now w = record {
  long = length-map now f ∙ w.long ∙ sym (length-map before f);
  each = λ k old new at_old at_new.
      let a = mapped_at f before k old at_old in
      let b = mapped_at f now k new at_new in
      subst (λ x. P (k + 1) x new) a.2 (subst (λ y. P (k + 1) (f a.0) y) b.2 (w.each k a.0 b.0 a.1 b.1));
}

pub workers_weaker : {A : Type 0} (P Q : ℕ → A → A → Type 0) (before now : List A) → ((s : ℕ) (a b : A) → s ≢ 0 → P s a b → Q s a b) → AtWorkers P before now → AtWorkers Q before now
workers_weaker P Q before now weaker w = record { long = w.long; each = λ k old new at_old at_new. weaker (k + 1) old new (λ e. omega (arith, e)) (w.each k old new at_old at_new) }

-- where all benches are as they were
pub workers_same : {A : Type 0} (P : ℕ → A → A → Type 0) (before now : List A) → now ≡ before → ((s : ℕ) (a : A) → P s a a) → AtWorkers P before now
workers_same P before now same all = record {
  long = ap length same;
  each = λ k old new at_old at_new.
      let e : old ≡ new = same_Some old new (sym at_old ∙ ap (λ l. slice_get l k) (sym same) ∙ at_new) in
      subst (λ x. P (k + 1) old x) e (all (k + 1) old);
}

-- a row of workers' benches, and the last one behind them
pub at_seats : {A X : Type 0} (f : A → X) (P : ℕ → X → X → Type 0) (before now workers workers_now : List A) (x y : A) → before ≡ workers ++ x ∷ [] → now ≡ workers_now ++ y ∷ [] → AtWorkers (λ s a b. P s (f a) (f b)) workers workers_now → P 0 (f x) (f y) → AtSeats P (map f before) (map f now)
at_seats f P before now workers workers_now x y was is others alone = record {
  workers = map f workers;
  workers_now = map f workers_now;
  last = f x;
  last_now = f y;
  was = ap (map f) was ∙ map-append f workers (x ∷ []);
  is = ap (map f) is ∙ map-append f workers_now (y ∷ []);
  others = workers_mapped f P workers workers_now others;
  alone = alone;
}

last_of : {A : Type 0} (x : A) (xs : List A) → (front : List A) × (last : A) × (x ∷ xs ≡ front ++ last ∷ [])
last_of x [] = ([], x, refl)
last_of x (y ∷ xs) = let rest = last_of y xs in (x ∷ rest.0, rest.1, ap (λ l. x ∷ l) rest.2)

-- where no bench did anything
pub seats_same : {A : Type 0} (P : ℕ → A → A → Type 0) (before now : List A) → 0 < length before → now ≡ before → ((s : ℕ) (a : A) → P s a a) → AtSeats P before now
seats_same P [] now some same all = absurd (omega (arith, some))
seats_same P (x ∷ xs) now some same all =
    let l = last_of x xs in
    record { workers = l.0; workers_now = l.0; last = l.1; last_now = l.1; was = l.2; is = same ∙ l.2; others = workers_same P l.0 l.0 refl all; alone = all 0 l.1 }

pub some_mapped : {A X : Type 0} (f : A → X) (xs : List A) → 0 < length xs → 0 < length (map f xs)
some_mapped f xs some = let long = length-map xs f in omega (arith, some, long)

-- ---- counts of faults

module _ {B : Type 0} (benches after others others_now : List B) (x y : B) (was : benches ≡ others ++ x ∷ []) (is : after ≡ others_now ++ y ∷ []) (long : length others_now ≡ length others) where
  at_last : {X : Type 0} (f : B → X) (z : B) (front l : List B) (d : X) → l ≡ front ++ z ∷ [] → get_or (map f l) (length front) d ≡ f z
  at_last f z front l d e =
      let seam : get_or (map f front ++ f z ∷ []) (length (map f front)) d ≡ f z = get_or-append_seam (map f front) (f z) [] d in
      ap (λ m. get_or m (length front) d) (ap (map f) e ∙ map-append f front (z ∷ [])) ∙ ap (λ n. get_or (map f front ++ f z ∷ []) n d) (sym (length-map front f)) ∙ seam

  last_within : {X : Type 0} (f : B → X) → length others < length (map f benches)
  last_within f =
      let whole : length (map f benches) ≡ length (others ++ x ∷ []) = length-map benches f ∙ ap length was in
      let both : length (others ++ x ∷ []) ≡ length others + 1 = length-append others (x ∷ []) in
      omega (arith, whole, both)

  -- where the count of the last one rose, that of one did
  pub some_rose : (f : B → ℕ) → Rose (f x) (f y) → SomeRose (map f benches) (map f after)
  some_rose f rose =
      let before : get_or (map f benches) (length others) 0 ≡ f x = at_last f x others benches 0 was in
      let now : get_or (map f after) (length others) 0 ≡ f y = ap (λ n. get_or (map f after) n 0) (sym long) ∙ at_last f y others_now after 0 is in
      let P : ℕ → Type 0 = λ n. Rose n (get_or (map f after) (length others) 0) in
      (length others, last_within f, subst P (sym before) (subst (Rose (f x)) (sym now) rose))

-- what holds of all holds of the last one, and of those before it
pub last_has : {B : Type 0} (P : B → Type 0) (benches others : List B) (x : B) → benches ≡ others ++ x ∷ [] → All P benches → P x
last_has P benches others x was all =
    let seam : get_or (others ++ x ∷ []) (length others) x ≡ x = get_or-append_seam others x [] x in
    let at : get_or benches (length others) x ≡ x = ap (λ l. get_or l (length others) x) was ∙ seam in
    let long : length benches ≡ length (others ++ x ∷ []) = ap length was in
    let both : length (others ++ x ∷ []) ≡ length others + 1 = length-append others (x ∷ []) in
    subst P at (all (length others) x (omega (arith, long, both)))

pub others_have : {B : Type 0} (P : B → Type 0) (benches others : List B) (x : B) → benches ≡ others ++ x ∷ [] → All P benches → All P others
others_have P benches others x was all k d lt =
    let whole : length (others ++ x ∷ []) ≡ length others + 1 = length-append others (x ∷ []) in
    subst P (get_or_append_left others (x ∷ []) d k lt) (subst (All P) was all k d (omega (arith, lt, whole)))

-- ---- a tale that seat 0 went on with

-- the entries of a worker's seat are those that it had
own_before : (seat : ℕ) (old tale more : List Logged) → seat ≢ 0 → tale ≡ old ++ more → IsAlone more → own seat tale ≡ own seat old
own_before seat old tale more other is alone =
    ap (own seat) is ∙ own_split seat old more ∙ ap (λ (l : List Logged). own seat old ++ l) (own_none seat more (λ k e at of. other (sym of ∙ alone.seats k e at))) ∙ append-nil (own seat old)

pub ran_before : (gives : Gives) (plan : Plan) (seat : ℕ) (old tale more : List Logged) (before now : Runs) → seat ≢ 0 → tale ≡ old ++ more → IsAlone more → RanStarted gives plan old seat before now → RanStarted gives plan tale seat before now
ran_before gives plan seat old tale more before now other is alone r = record {
  runs = r.runs;
  ran = r.ran;
  these = subst (λ (l : List Logged). RanThese gives plan (broken_off l) (started_in l) r.runs) (sym (own_before seat old tale more other is alone)) r.these;
}

pub just_before : (plan : Plan) (seat : ℕ) (broke : Option ℕ) (old front more : List Logged) (before now : Runs) → seat ≢ 0 → front ≡ old ++ more → IsAlone more → RanJust plan broke (started_by seat old) before now → RanJust plan broke (started_by seat front) before now
just_before plan seat broke old front more before now other is alone r = subst (λ (l : List Logged). RanJust plan broke (started_in l) before now) (sym (own_before seat old front more other is alone)) r

-- by the whole tale
pub broken_before : (plan : Plan) (seat : ℕ) (old tale more : List Logged) (ts : List ℕ) (before now : Runs) → seat ≢ 0 → tale ≡ old ++ more → IsAlone more → RanJust plan (broken_at seat old) ts before now → RanJust plan (broken_at seat tale) ts before now
broken_before plan seat old tale more ts before now other is alone r = subst (λ (l : List Logged). RanJust plan (broken_off l) ts before now) (sym (own_before seat old tale more other is alone)) r

-- behind a tale in which seat 0 started nothing
pub ran_behind : (gives : Gives) (plan : Plan) (old tale more : List Logged) (before now : Runs) → started_by 0 old ≡ [] → tale ≡ old ++ more → RanStarted gives plan more 0 before now → RanStarted gives plan tale 0 before now
ran_behind gives plan old tale more before now none is r = record {
  runs = r.runs;
  ran = r.ran;
  these = subst (λ (l : List ℕ). RanThese gives plan (broken_at 0 tale) l r.runs) (sym (ap (started_by 0) is ∙ started_split 0 old more ∙ ap (λ (l : List ℕ). l ++ started_by 0 more) none))
      (these_still gives plan (broken_at 0 more) (broken_at 0 tale) (started_by 0 more) r.runs (λ t off. ap (broken_at 0) is ∙ broken_behind 0 old more t off) r.these);
}

-- a worker's task that broke off since its bench failed had done so
pub broke_before : (seat before now : ℕ) (old tale more : List Logged) → seat ≢ 0 → tale ≡ old ++ more → IsAlone more → BreaksByFault old seat before now → BreaksByFault tale seat before now
broke_before seat before now old tale more other is alone by b = by (breaks_before seat old more other alone (subst (BreaksBench seat) is b))

-- one of seat 0 did so behind a tale in which none had
pub broke_behind : (before now : ℕ) (old tale more : List Logged) → (BreaksBench 0 old → ⊥) → tale ≡ old ++ more → BreaksByFault more 0 before now → BreaksByFault tale 0 before now
broke_behind before now old tale more none is by b = elim (Rattle.build_resume.proofs.Seating.breaks_split 0 old more (subst (BreaksBench 0) is b)) [
  | inl had ↦ absurd (none had)
  | inr has ↦ by has
]

-- without a tale none did
pub broke_nothing : (tale : List Logged) → tale ≡ [] → (seat count : ℕ) → BreaksByFault tale seat count count
broke_nothing tale none seat count b = absurd (breaks_nil seat (subst (BreaksBench seat) none b))

-- ---- a seat's bench that rose

module _ {tale : List Logged} (before now : List ℕ) (s : AtSeats (BreaksByFault tale) before now) where
  long_now : length s.workers_now ≡ length s.workers
  long_now = s.others.long

  -- the numbers of a row, and the last one behind them
  in_row : (xs ys row : List ℕ) (y : ℕ) (k : ℕ) → ys ≡ row ++ y ∷ [] → k < length row → slice_index ys k ≡ get_or row k 0
  in_row xs ys row y k is lt = ap (λ l. get_or l k 0) is ∙ get_or_append_left row (y ∷ []) 0 k lt

  row_get : (row : List ℕ) (k : ℕ) → k < length row → slice_get row k ≡ Some (get_or row k 0)
  row_get [] k lt = absurd (omega (arith, lt))
  row_get (x ∷ row) zero lt = refl
  row_get (x ∷ row) (suc k) lt = row_get row k (omega (arith, lt))

  at_end : (ys row : List ℕ) (y k : ℕ) → ys ≡ row ++ y ∷ [] → k ≡ length row → slice_index ys k ≡ y
  at_end ys row y k is e = ap (λ l. get_or l k 0) is ∙ ap (λ n. get_or (row ++ y ∷ []) n 0) e ∙ get_or-append_seam row y [] 0

  long_all : length before ≡ length s.workers + 1
  long_all = ap length s.was ∙ length-append s.workers (s.last ∷ [])

  -- where a task of a seat broke off since its bench failed, the count of one bench rose
  pub rose_by : (seat : ℕ) → BreaksBench seat tale → seat < length before → SomeRose before now
  rose_by zero b lt =
      let was : slice_index before (length s.workers) ≡ s.last = at_end before s.workers s.last (length s.workers) s.was refl in
      let is : slice_index now (length s.workers) ≡ s.last_now = at_end now s.workers_now s.last_now (length s.workers) s.is (sym long_now) in
      (length s.workers, (let l = long_all in omega (arith, l)), subst (λ n. Rose n (slice_index now (length s.workers))) (sym was) (subst (Rose s.last) (sym is) (s.alone b)))
  rose_by (suc k) b lt =
      let within : k < length s.workers = (let l = long_all in omega (arith, l, lt)) in
      let within_now : k < length s.workers_now = (let l = long_now in omega (arith, l, within)) in
      let was = in_row before before s.workers s.last k s.was within in
      let is = in_row now now s.workers_now s.last_now k s.is within_now in
      let one : suc k ≡ k + 1 = omega arith in
      let rose : Rose (get_or s.workers k 0) (get_or s.workers_now k 0) = s.others.each k (get_or s.workers k 0) (get_or s.workers_now k 0) (row_get s.workers k within) (row_get s.workers_now k within_now) (subst (λ n. BreaksBench n tale) one b) in
      (k, (let l = long_all in omega (arith, l, lt)), subst (λ n. Rose n (slice_index now k)) (sym was) (subst (Rose (get_or s.workers k 0)) (sym is) rose))
