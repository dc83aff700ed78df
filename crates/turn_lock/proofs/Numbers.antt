-- The numbers of seats: which a seat has, and how they are shared at a split and a join.
use Rattle.std.proofs.Common.{◌≡◌, ℕ, zero, suc, ◌+◌, ◌-◌, ◌*◌, ◌<◌, ◌≤◌, Bool, true, false, true≢false, eqb, ltb, leb, if◌then◌else◌, [], ◌∷◌, ◌++◌, refl, sym, ap, ◌∙◌, arith, eq-eqb, ne_eqb, lt_of_not-le}
use Rattle.std.proofs.lemmas.Bool.{lt-ltb, le-leb, le-ltb, leb-true, ltb-true}
use mathlib.Core.Logic.{dite}
use native.Mathlib.Decide.{ℕ_discrete, dec_le}
use Rattle.turn_lock.specs.declared.rule.Record.{Record}
use Rattle.turn_lock.specs.declared.rule.View.{View}
use Rattle.turn_lock.specs.Totals.{once, total}
use Rattle.turn_lock.specs.Views.{numbered, records_of, spared, times_held, first_view, split_from, split_off, joined}
use Rattle.turn_lock.specs.Book.{owns}
use Rattle.turn_lock.specs.Steps.{joining}
use Rattle.turn_lock.proofs.Totals.{total-append}

-- the same for the test's answer b
below_case : (m seats : ℕ) (b : Bool) → ltb m seats ≡ b → 1 ≤ once b → m < seats
below_case m seats true e l = ltb-true m seats e
below_case m seats false e l = absurd (omega arith)

-- a number that counts among those below seats is one
pub inside_seats : (m seats : ℕ) → 1 ≤ once (ltb m seats) → m < seats
inside_seats m seats l = below_case m seats (ltb m seats) refl l

-- 1 where n lies above a and is at most c, else 0
abbrev pub range : ℕ → ℕ → ℕ → ℕ
range a n c = once (ltb a n) * once (leb n c)

-- a number in the range counts
pub in_range : (a n c : ℕ) → a < n → n ≤ c → range a n c ≡ 1
in_range a n c h k = ap (λ (x : ℕ). x * once (leb n c)) (ap once (lt-ltb a n h)) ∙ ap (λ (x : ℕ). 1 * x) (ap once (le-leb n c k))

-- one that is not above it doesn't
too_low : (a n c : ℕ) → n ≤ a → range a n c ≡ 0
too_low a n c h = let x : ℕ = once (leb n c) in let z : 0 * x ≡ 0 = omega arith in ap (λ (y : ℕ). y * x) (ap once (le-ltb a n h)) ∙ z

-- no test that n is at most c counts where n is greater
above : (n c : ℕ) (b : Bool) → leb n c ≡ b → c < n → once b ≡ 0
above n c true e h = let k = leb-true n c e in absurd (omega arith)
above n c false e h = refl

-- nor does one behind it
too_high : (a n c : ℕ) → c < n → range a n c ≡ 0
too_high a n c h = let x : ℕ = once (ltb a n) in let z : x * 0 ≡ 0 = omega arith in ap (λ (y : ℕ). x * y) (above n c (leb n c) refl h) ∙ z

-- no number lies above a and is at most a
no_range : (a n c : ℕ) → c ≡ a → range a n c ≡ 0
no_range a n c e = dite (dec_le n a) (λ le. too_low a n c le) (λ more. let m : a < n = lt_of_not-le more in too_high a n c (omega arith))

-- a number that counts lies in the range
pub ranged : (a n c : ℕ) → 0 < range a n c → (a < n) × (n ≤ c)
ranged a n c h = (
  dite (dec_le n a) (λ le. let x : ℕ = range a n c in let z : x ≡ 0 = too_low a n c le in let h' : 0 < x = h in absurd (omega arith)) (λ more. lt_of_not-le more),
  dite (dec_le n c) (λ le. le) (λ far. let f : c < n = lt_of_not-le far in let x : ℕ = range a n c in let z : x ≡ 0 = too_high a n c f in let h' : 0 < x = h in absurd (omega arith)),
)

-- a range is the shorter one and its last number
range_splits : (a s n : ℕ) → 0 < s → range a n (a + (s - 1)) + once (eqb (a + s) n) ≡ range a n (a + s)
range_splits a s n some_spare = dite (ℕ_discrete (a + s) n)
    (λ e. let x : ℕ = range a n (a + (s - 1)) in let y : ℕ = once (eqb (a + s) n) in let z : ℕ = range a n (a + s) in
    let x0 : x ≡ 0 = too_high a n (a + (s - 1)) (omega arith) in let y1 : y ≡ 1 = ap once (eq-eqb (a + s) n e) in let z1 : z ≡ 1 = in_range a n (a + s) (omega arith) (omega arith) in let g : x + y ≡ z = omega arith in g)
    (λ ne. let x : ℕ = range a n (a + (s - 1)) in let y : ℕ = once (eqb (a + s) n) in let z : ℕ = range a n (a + s) in let y0 : y ≡ 0 = ap once (ne_eqb (a + s) n ne) in dite (dec_le n a)
    (λ le. let x0 : x ≡ 0 = too_low a n (a + (s - 1)) le in let z0 : z ≡ 0 = too_low a n (a + s) le in let g : x + y ≡ z = omega arith in g)
    (λ more. let m : a < n = lt_of_not-le more in dite (dec_le n (a + (s - 1)))
    (λ le. let x1 : x ≡ 1 = in_range a n (a + (s - 1)) m le in let z1 : z ≡ 1 = in_range a n (a + s) m (omega arith) in let g : x + y ≡ z = omega arith in g)
    (λ far. let f : a + (s - 1) < n = lt_of_not-le far in let x0 : x ≡ 0 = too_high a n (a + (s - 1)) f in let z0 : z ≡ 0 = too_high a n (a + s) (omega arith) in let g : x + y ≡ z = omega arith in g)))

module _ {N E : Type 0} where
  -- a split shares the numbers between the two seats
  pub times_held-split : (n : ℕ) (v : View N E) → 0 < v.spare → times_held n (split_from v) + times_held n (split_off v) ≡ times_held n v
  times_held-split n v some_spare = let l : ℕ = times_held n (split_from v) in let r : ℕ = times_held n (split_off v) in let o : ℕ = times_held n v in let a : ℕ = once (eqb v.number n) in let t : ℕ = numbered n v.others in
      let b : ℕ = once (eqb (v.number + v.spare) n) in let x : ℕ = range v.number n (v.number + (v.spare - 1)) in let z : ℕ = range v.number n (v.number + v.spare) in let y : ℕ = range (v.number + v.spare) n (v.number + v.spare + 0) in
      let hl : l ≡ a + t + x = refl in let hr : r ≡ b + 0 + y = refl in let ho : o ≡ a + t + z = refl in
      let hy : y ≡ 0 = no_range (v.number + v.spare) n (v.number + v.spare + 0) (omega arith) in let hx : x + b ≡ z = range_splits v.number v.spare n some_spare in let g : l + r ≡ o = omega arith in g

  -- a join puts the numbers of both together, where the second has no spare one
  pub times_held-join : (n : ℕ) (v w : View N E) → w.spare ≡ 0 → times_held n (joined v w) ≡ times_held n v + times_held n w
  times_held-join n v w none_spare = let j : ℕ = times_held n (joined v w) in let o : ℕ = times_held n v in let p : ℕ = times_held n w in let a : ℕ = once (eqb v.number n) in
      let t : ℕ = numbered n v.others in let u : ℕ = numbered n (records_of w) in let x : ℕ = range v.number n (v.number + v.spare) in let y : ℕ = range w.number n (w.number + w.spare) in let tu : ℕ = numbered n (v.others ++ records_of w) in
      let hj : j ≡ a + tu + x = refl in let ho : o ≡ a + t + x = refl in let hp : p ≡ u + y = refl in let ht : tu ≡ t + u = total-append (λ (r : Record E). once (eqb r.number n)) v.others (records_of w) in
      let hy : y ≡ 0 = no_range w.number n (w.number + w.spare) (omega arith) in let g : j ≡ o + p = omega arith in g

  -- a seat that lives owns the numbers that it has
  pub owns_live : (n : ℕ) (v : View N E) → v.live ≡ true → owns n v ≡ times_held n v
  owns_live n v alive = ap (λ (b : Bool). if b then times_held n v else 0) alive

  -- its own number, those of the records that it took in, and its spare ones
  pub owns_parts : (n : ℕ) (v : View N E) → v.live ≡ true → owns n v ≡ once (eqb v.number n) + (numbered n v.others + spared n v)
  owns_parts n v alive = let o : ℕ = owns n v in let a : ℕ = once (eqb v.number n) in let t : ℕ = numbered n v.others in let r : ℕ = spared n v in let h : o ≡ a + t + r = owns_live n v alive in let g : o ≡ a + (t + r) = omega arith in g

  -- a seat that lives owns its own number
  pub owns_own : (v : View N E) → v.live ≡ true → 1 ≤ owns v.number v
  owns_own v alive = let o : ℕ = owns v.number v in let a : ℕ = once (eqb v.number v.number) in let t : ℕ = numbered v.number v.others in let r : ℕ = spared v.number v in
      let h : o ≡ a + (t + r) = owns_parts v.number v alive in let one : a ≡ 1 = ap once (eq-eqb v.number v.number refl) in omega arith

  -- a split shares what is owned
  pub owns_split : (n : ℕ) (v : View N E) → v.live ≡ true → 0 < v.spare → owns n (split_from v) + owns n (split_off v) ≡ owns n v
  owns_split n v alive some_spare = let l : ℕ = owns n (split_from v) in let r : ℕ = owns n (split_off v) in let o : ℕ = owns n v in let l' : ℕ = times_held n (split_from v) in let r' : ℕ = times_held n (split_off v) in let o' : ℕ = times_held n v in
      let hl : l ≡ l' = owns_live n (split_from v) alive in let hr : r ≡ r' = owns_live n (split_off v) alive in let ho : o ≡ o' = owns_live n v alive in let h : l' + r' ≡ o' = times_held-split n v some_spare in let g : l + r ≡ o = omega arith in g

  -- a join puts what is owned together
  pub owns_join : (n : ℕ) (v w : View N E) → v.live ≡ true → w.live ≡ true → w.spare ≡ 0 → owns n (joining v w) ≡ owns n v + owns n w
  owns_join n v w alive alive' none_spare = let j : ℕ = owns n (joining v w) in let o : ℕ = owns n v in let p : ℕ = owns n w in let j' : ℕ = times_held n (joined v w) in let o' : ℕ = times_held n v in let p' : ℕ = times_held n w in
      let hj : j ≡ j' = owns_live n (joining v w) alive in let ho : o ≡ o' = owns_live n v alive in let hp : p ≡ p' = owns_live n w alive' in let h : j' ≡ o' + p' = times_held-join n v w none_spare in let g : j ≡ o + p = omega arith in g

-- the spare numbers of the first seat are those above 0 and below seats
ranges : (n seats : ℕ) (b : Bool) → leb (suc n) (0 + (seats - 1)) ≡ b → once b ≡ once (ltb (suc n) seats)
ranges n seats true e = let h = leb-true (suc n) (0 + (seats - 1)) e in sym (ap once (lt-ltb (suc n) seats (omega arith)))
ranges n seats false e = dite (dec_le seats (suc n)) (λ le. sym (ap once (le-ltb (suc n) seats le)))
    (λ more. let m : suc n < seats = lt_of_not-le more in absurd (true≢false (sym (le-leb (suc n) (0 + (seats - 1)) (omega arith)) ∙ e)))

-- a number above 0 is not the first seat's own
parts : (x y a b : ℕ) → x ≡ 0 → y ≡ 1 → a ≡ b → x + 0 + y * a + 0 ≡ b
parts x y a b ex ey e = let h : x + 0 + 1 * a + 0 ≡ b = omega arith in ap (λ (z : ℕ). x + 0 + z * a + 0) ey ∙ h

-- the first seat owns each number below seats once
pub owns_first : {N : Type 0} (E : Type 0) (name : N) (seats : ℕ) → 0 < seats → (n : ℕ) → total (owns {N = _} {E = E} n) (first_view {E = E} name seats ∷ []) ≡ once (ltb n seats)
owns_first E name seats some_seat zero = let b : ℕ = once (ltb 0 seats) in let h : b ≡ 1 = ap once (lt-ltb 0 seats some_seat) in let k : ℕ = once (leb 0 (0 + (seats - 1))) in
    let g : 1 + 0 + 0 * k + 0 ≡ b = omega arith in g
owns_first E name seats some_seat (suc n) = parts (once (eqb 0 (suc n))) (once (ltb 0 (suc n))) (once (leb (suc n) (0 + (seats - 1)))) (once (ltb (suc n) seats)) (ap once (ne_eqb 0 (suc n) (λ e. omega arith))) (ap once (lt-ltb 0 (suc n) (omega arith)))
    (ranges n seats (leb (suc n) (0 + (seats - 1))) refl)
