-- The tale as seats hand it on: how it grows, and what of it is a seat's.
use Rattle.std.proofs.Common.{◌≡◌, ◌∙◌, ap, refl, ℕ, zero, suc, ◌+◌, ◌≤◌, ◌==◌, arith, Bool, true, false, if◌then◌else◌, List, [], ◌∷◌, ◌++◌, length, map, take}
use Rattle.meta_model.specs.declared.event.Logged.{Logged}
use Rattle.turn_lock.specs.Views.{entries_of}
use Rattle.run_workers.specs.declared.shared.Told.{Told}
use Rattle.run_workers.specs.Told.{logged_in, printed_in, tell, told}
use Rattle.run_model.specs.Seats.{own}

-- the entries of the tale are those that it tells
pub logged_told : (tale : List Logged) (n : ℕ) → logged_in (told tale n) ≡ tale
logged_told [] n = refl
logged_told (e ∷ tale) zero = ap (λ l. e ∷ l) (logged_told tale zero)
logged_told (e ∷ tale) (suc n) = ap (λ l. e ∷ l) (logged_told tale n)

pub told_none : (tale : List Logged) → told tale 0 ≡ map (tell false) tale
told_none [] = refl
told_none (e ∷ tale) = ap (λ l. tell false e ∷ l) (told_none tale)

pub told_all : (tale : List Logged) → told tale (length tale) ≡ map (tell true) tale
told_all [] = refl
told_all (e ∷ tale) = ap (λ l. tell true e ∷ l) (told_all tale)

-- entries behind what had been printed, which is all
pub told_whole : (tale added : List Logged) → told (tale ++ added) (length tale + length added) ≡ told tale (length tale) ++ map (tell true) added
told_whole [] added = let none : 0 + length added ≡ length added = omega arith in ap (told added) none ∙ told_all added
told_whole (e ∷ tale) added =
    let more : suc (length tale) + length added ≡ suc (length tale + length added) = omega arith in
    ap (told (e ∷ (tale ++ added))) more ∙ ap (λ l. tell true e ∷ l) (told_whole tale added)

-- entries that hadn't been printed
pub told_quiet : (tale added : List Logged) (n : ℕ) → n ≤ length tale → told (tale ++ added) n ≡ told tale n ++ map (tell false) added
told_quiet [] added zero le = told_none added
told_quiet [] added (suc n) le = absurd (omega (arith, le))
told_quiet (e ∷ tale) added zero le = ap (λ l. tell false e ∷ l) (told_quiet tale added zero (omega arith))
told_quiet (e ∷ tale) added (suc n) le = ap (λ l. tell true e ∷ l) (told_quiet tale added n (omega (arith, le)))

-- the first entries are as they were
pub take_within : (tale added : List Logged) (n : ℕ) → n ≤ length tale → take n (tale ++ added) ≡ take n tale
take_within tale added zero le = refl
take_within [] added (suc n) le = absurd (omega (arith, le))
take_within (e ∷ tale) added (suc n) le = ap (λ l. e ∷ l) (take_within tale added n (omega (arith, le)))

pub take_all : (tale : List Logged) → take (length tale) tale ≡ tale
take_all [] = refl
take_all (e ∷ tale) = ap (λ l. e ∷ l) (take_all tale)

-- the entries of a seat's record are the seat's entries
pub logged_own : (n : ℕ) (tale : List Told) → logged_in (entries_of (λ e. e.logged.seat) n tale) ≡ own n (logged_in tale)
logged_own n [] = refl
logged_own n (e ∷ tale) = by (e.logged.seat == n) (logged_own n tale)
  where
    by : (b : Bool) → logged_in (entries_of (λ e. e.logged.seat) n tale) ≡ own n (logged_in tale)
        → logged_in (if b then e ∷ entries_of (λ e. e.logged.seat) n tale else entries_of (λ e. e.logged.seat) n tale) ≡ (if b then e.logged ∷ own n (logged_in tale) else own n (logged_in tale))
    by true rest = ap (λ l. e.logged ∷ l) rest
    by false rest = rest

-- and those of them that had been printed are the seat's among the first so many
pub printed_own : (n : ℕ) (tale : List Logged) (k : ℕ) → printed_in (entries_of (λ e. e.logged.seat) n (told tale k)) ≡ own n (take k tale)
printed_own n [] zero = refl
printed_own n [] (suc k) = refl
printed_own n (e ∷ tale) zero = by (e.seat == n) (printed_own n tale zero)
  where
    by : (b : Bool) → printed_in (entries_of (λ e. e.logged.seat) n (told tale zero)) ≡ []
        → printed_in (if b then tell false e ∷ entries_of (λ e. e.logged.seat) n (told tale zero) else entries_of (λ e. e.logged.seat) n (told tale zero)) ≡ []
    by true rest = rest
    by false rest = rest
printed_own n (e ∷ tale) (suc k) = by (e.seat == n) (printed_own n tale k)
  where
    by : (b : Bool) → printed_in (entries_of (λ e. e.logged.seat) n (told tale k)) ≡ own n (take k tale)
        → printed_in (if b then tell true e ∷ entries_of (λ e. e.logged.seat) n (told tale k) else entries_of (λ e. e.logged.seat) n (told tale k)) ≡ (if b then e ∷ own n (take k tale) else own n (take k tale))
    by true rest = ap (λ l. e ∷ l) rest
    by false rest = rest

pub logged_split : (a b : List Told) → logged_in (a ++ b) ≡ logged_in a ++ logged_in b
logged_split [] b = refl
logged_split (e ∷ a) b = ap (λ l. e.logged ∷ l) (logged_split a b)

pub printed_split : (a b : List Told) → printed_in (a ++ b) ≡ printed_in a ++ printed_in b
printed_split [] b = refl
printed_split (e ∷ a) b = by e.printed (printed_split a b)
  where
    by : (p : Bool) → printed_in (a ++ b) ≡ printed_in a ++ printed_in b
        → (if p then e.logged ∷ printed_in (a ++ b) else printed_in (a ++ b)) ≡ (if p then e.logged ∷ printed_in a else printed_in a) ++ printed_in b
    by true rest = ap (λ l. e.logged ∷ l) rest
    by false rest = rest
