-- Tales: which entries stand under a number, and which of two tales is the longer one.
use Rattle.std.proofs.Common.{◌≡◌, ◌≢◌, ◌⊎◌, ℕ, zero, suc, ◌+◌, ◌<◌, ◌≤◌, Bool, true, false, true≢false, cond, if◌then◌else◌, eqb, leb, List, [], ◌∷◌, ◌++◌, length, get_or, All, refl, sym, ap, ◌∙◌, subst, ⊎_elim, arith, length-append, eq-eqb, ne_eqb, append_assoc, lt_of_not-le}
use Rattle.std.proofs.lemmas.Bool.{le-leb, leb-true}
use Rattle.std.proofs.lemmas.List.{append-nil}
use Rattle.std.proofs.lemmas.List.Elements.{filter-append}
use mathlib.Core.Logic.{dite}
use native.Mathlib.Decide.{dec_le}
use Rattle.turn_lock.specs.declared.rule.Record.{Record}
use Rattle.turn_lock.specs.declared.rule.Stage.{Stage}
use Rattle.turn_lock.specs.declared.rule.View.{View}
use Rattle.turn_lock.specs.Views.{Begins, entries_of, HasEntries, longer, shorter, Fits, staged}

-- what holds of the first element and of the others holds of all
pub all_cons : {A : Type 0} (P : A → Type 0) (x : A) (xs : List A) → P x → All P xs → All P (x ∷ xs)
all_cons P x xs p ps zero d l = p
all_cons P x xs p ps (suc k) d l = ps k d (omega arith)

module _ {E : Type 0} where
  -- a list begins with itself
  pub begins_whole : (all : List E) → Begins all all
  begins_whole all = ([], sym (append-nil all))

  -- a longer list begins with the same
  pub begins_more : (all front more : List E) → Begins all front → Begins (all ++ more) front
  begins_more all front more b = (b.0 ++ more, ap (λ (l : List E). l ++ more) b.1 ∙ append_assoc front b.0 more)

  -- a prefix that is no shorter is the whole list
  pub whole : (known front : List E) → Begins known front → length known ≤ length front → front ≡ known
  whole known front b l = empty_rest b.0 b.1
    where
      empty_rest : (more : List E) → known ≡ front ++ more → front ≡ known
      empty_rest [] e = sym (append-nil front) ∙ sym e
      empty_rest (x ∷ xs) e = let h : length known ≡ length front + length (x ∷ xs) = ap length e ∙ length-append front (x ∷ xs) in absurd (omega arith)

  -- the only prefix of the empty list is empty
  pub whole_empty : (known seen : List E) → Begins known seen → [] ≡ known → known ≡ seen
  whole_empty known [] f e = sym e
  whole_empty known (x ∷ xs) f e = let h : length known ≡ length (x ∷ xs) + length f.0 = ap length f.1 ∙ length-append (x ∷ xs) f.0 in let z : 0 ≡ length known = ap length e in absurd (omega arith)

  -- of two prefixes of a list the longer is one
  pub longer_begins : (known xs ys : List E) → Begins known xs → Begins known ys → Begins known (longer xs ys)
  longer_begins known xs ys a b = pick (leb (length xs) (length ys))
    where
      pick : (t : Bool) → Begins known (if t then ys else xs)
      pick true = b
      pick false = a

  -- where one of two prefixes is the whole list, the longer is the whole list
  pub longer_known : (known xs ys : List E) → Begins known xs → Begins known ys → (xs ≡ known) ⊎ (ys ≡ known) → longer xs ys ≡ known
  longer_known known xs ys a b h = pick (leb (length xs) (length ys)) refl
    where
      pick : (t : Bool) → leb (length xs) (length ys) ≡ t → (if t then ys else xs) ≡ known
      pick true e = let l = leb-true (length xs) (length ys) e in ⊎_elim (λ (x : xs ≡ known). let n : length xs ≡ length known = ap length x in whole known ys b (omega arith)) (λ (y : ys ≡ known). y) h
      pick false e = ⊎_elim (λ (x : xs ≡ known). x) (λ (y : ys ≡ known). let n : length ys ≡ length known = ap length y in let m : length known ≡ length xs + length a.0 = ap length a.1 ∙ length-append xs a.0 in
          absurd (true≢false (sym (le-leb (length xs) (length ys) (omega arith)) ∙ e))) h

  -- of two prefixes of one list, a longer one begins with a shorter one
  begins_begins : (known xs ys : List E) → Begins known xs → Begins known ys → length xs ≤ length ys → Begins ys xs
  begins_begins known [] ys a b l = (ys, refl)
  begins_begins known (x ∷ xs) [] a b l = absurd (omega arith)
  begins_begins known (x ∷ xs) (y ∷ ys) a b l = let same : x ∷ (xs ++ a.0) ≡ y ∷ (ys ++ b.0) = sym a.1 ∙ b.1 in let head : x ≡ y = ap (λ (l : List E). get_or l 0 x) same in
      let tail : xs ++ a.0 ≡ ys ++ b.0 = ap rest same in let h = begins_begins (xs ++ a.0) xs ys (a.0, refl) (b.0, tail) (omega arith) in (h.0, (λ i. sym head i ∷ h.1 i))
    where
      rest : List E → List E
      rest [] = []
      rest (z ∷ zs) = zs

  -- of two prefixes of one list, the longer begins with the shorter
  pub longer_shorter : (known xs ys : List E) → Begins known xs → Begins known ys → Begins (longer xs ys) (shorter xs ys)
  longer_shorter known xs ys a b = pick (leb (length xs) (length ys)) refl
    where
      pick : (t : Bool) → leb (length xs) (length ys) ≡ t → Begins (if t then ys else xs) (if t then xs else ys)
      pick true e = begins_begins known xs ys a b (leb-true (length xs) (length ys) e)
      pick false e = begins_begins known ys xs b a (dite (dec_le (length ys) (length xs)) (λ le. le)
          (λ more. let m : length xs < length ys = lt_of_not-le more in absurd (true≢false (sym (le-leb (length xs) (length ys) (omega arith)) ∙ e))))

  -- where the longer of two lists begins with the shorter, it begins with both
  pub longer_both : (xs ys : List E) → Begins (longer xs ys) (shorter xs ys) → Begins (longer xs ys) xs × Begins (longer xs ys) ys
  longer_both xs ys = pick (leb (length xs) (length ys))
    where
      pick : (t : Bool) → Begins (if t then ys else xs) (if t then xs else ys) → Begins (if t then ys else xs) xs × Begins (if t then ys else xs) ys
      pick true h = (h, begins_whole ys)
      pick false h = (begins_whole xs, h)

module _ {E : Type 0} (author : E → ℕ) where
  -- a further first entry under the number n is the first of its entries
  entries_here : (n : ℕ) (x : E) (xs : List E) → author x ≡ n → entries_of author n (x ∷ xs) ≡ x ∷ entries_of author n xs
  entries_here n x xs e = ap (λ (b : Bool). cond b (x ∷ entries_of author n xs) (entries_of author n xs)) (eq-eqb (author x) n e)

  -- a further first entry under another number is none of its entries
  entries_past : (n : ℕ) (x : E) (xs : List E) → author x ≢ n → entries_of author n (x ∷ xs) ≡ entries_of author n xs
  entries_past n x xs e = ap (λ (b : Bool). cond b (x ∷ entries_of author n xs) (entries_of author n xs)) (ne_eqb (author x) n e)

  -- none of the entries under one number stands under another
  entries_none : (n m : ℕ) (added : List E) → All (λ e. author e ≡ m) added → m ≢ n → entries_of author n added ≡ []
  entries_none n m [] h ne = refl
  entries_none n m (x ∷ xs) h ne = let a : author x ≡ m = h 0 x (omega arith) in entries_past n x xs (λ e. ne (sym a ∙ e)) ∙ entries_none n m xs (λ k d l. h (suc k) d (omega arith)) ne

  -- entries that all stand under a number are that number's
  pub entries_all : (n : ℕ) (added : List E) → All (λ e. author e ≡ n) added → entries_of author n added ≡ added
  entries_all n [] h = refl
  entries_all n (x ∷ xs) h = let a : author x ≡ n = h 0 x (omega arith) in entries_here n x xs a ∙ ap (λ (l : List E). x ∷ l) (entries_all n xs (λ k d l. h (suc k) d (omega arith)))

  -- what is added under one number leaves the entries of the others
  pub entries_same : (n m : ℕ) (known added : List E) → All (λ e. author e ≡ m) added → m ≢ n → entries_of author n (known ++ added) ≡ entries_of author n known
  entries_same n m known added h ne = filter-append (λ e. eqb (author e) n) known added ∙ (ap (λ (l : List E). entries_of author n known ++ l) (entries_none n m added h ne) ∙ append-nil (entries_of author n known))

  -- a number under which an entry stands has some entries
  pub entries_some : (n : ℕ) (known : List E) (k : ℕ) (d : E) → k < length known → author (get_or known k d) ≡ n → entries_of author n known ≡ [] → ⊥
  entries_some n [] k d l e none_there = absurd (omega arith)
  entries_some n (x ∷ xs) zero d l e none_there = let h : x ∷ entries_of author n xs ≡ [] = sym (entries_here n x xs e) ∙ none_there in let z : suc (length (entries_of author n xs)) ≡ 0 = ap length h in absurd (omega arith)
  entries_some n (x ∷ xs) (suc k) d l e none_there = entries_some n xs k d (omega arith) e (fewer (eqb (author x) n) none_there)
    where
      fewer : (b : Bool) → cond b (x ∷ entries_of author n xs) (entries_of author n xs) ≡ [] → entries_of author n xs ≡ []
      fewer true h = let z : suc (length (entries_of author n xs)) ≡ 0 = ap length h in absurd (omega arith)
      fewer false h = h

module _ {N E : Type 0} (author : E → ℕ) (v : View N E) (tale : List E) where
  -- a tale fits a view by what was seen, by the seat's own record and by the others
  pub fits_of : Begins tale v.seen → entries_of author v.number tale ≡ v.own → HasEntries author v.others tale → Fits author v tale
  fits_of seen own others = record { seen = seen; records = all_cons (λ (r : Record E). entries_of author r.number tale ≡ r.entries) record { number = v.number; entries = v.own } v.others own others }

  -- where a tale fits, it has the seat's own entries
  pub fits_own : Fits author v tale → entries_of author v.number tale ≡ v.own
  fits_own f = f.records 0 record { number = v.number; entries = v.own } (omega arith)

  -- and those of the other records
  pub fits_others : Fits author v tale → HasEntries author v.others tale
  fits_others f k d l = f.records (suc k) d (omega arith)

-- a tale that fits a view at another stage fits it
pub fits_staged : {N E : Type 0} (author : E → ℕ) (v w : View N E) (stage : Stage E) (tale : List E) → w ≡ staged stage v → Fits author w tale → Fits author v tale
fits_staged author v w stage tale e f = let g : Fits author (staged stage v) tale = subst (λ (u : View _ _). Fits author u tale) e f in record { seen = g.seen; records = g.records }
