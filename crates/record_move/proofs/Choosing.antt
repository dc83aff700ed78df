-- The wanted lines are a closed part of their book.
use Rattle.std.proofs.Common.{◌≡◌, ◌≢◌, ◌∙◌, sym, ap, refl, subst, arith, ℕ, zero, suc, ◌<◌, Bool, true, false, cond, ◌||◌, List, [], ◌∷◌, ◌++◌, append_assoc, filter, length, slice_index_or, inl, inr}
use Rattle.std.specs.Prelude.{Contains}
use Rattle.std.specs.List.{AllByRecursion, list_any}
use Rattle.tree_model.specs.declared.hash.Hash.{Hash}
use Rattle.meta_model.proofs.Bools.{either_way, from_or, not_both, or_first, or_later}
use Rattle.record_move.specs.declared.records.OldRecord.{OldRecord}
use Rattle.store_model.specs.declared.signature.DepLine.{DepLine}
use Rattle.store_model.specs.Origins.{Book, Line}
use Rattle.store_model.specs.Rows.{hash_eq}
use Rattle.store_model.specs.Valid.{StandsIn, stored_of}
use Rattle.store_model.proofs.Listing.{hash_itself, hash_same}
use Rattle.store_model.proofs.Ordered.{each_middle}
use Rattle.store_model.proofs.Standing.{each_line, stands_behind, stands_first}
use Rattle.store_move.specs.Formats.{Format, IsValidBook}
use Rattle.store_move.specs.Parts.{IsClosed}
use Rattle.store_move.proofs.Closing.{part_is_valid}
use Rattle.record_move.specs.Moved.{AreLinesOf}
use Rattle.record_move.specs.Wanted.{AskedAreWanted, WantedIsValid, is_named, is_named_by, names, wanted_lines, wanted_of}

-- ---- records beside lines

module _ (from : Format) where
  same_named : (name : Hash) (olds : List OldRecord) (lines : Book) → AreLinesOf from olds lines → is_named name olds ≡ is_named_by name lines
  same_named name [] [] are = refl
  same_named name [] (line ∷ lines) are = absurd are
  same_named name (c ∷ olds) [] are = absurd are
  same_named name (c ∷ olds) (line ∷ lines) are = λ i. names name (sym are.0.stored i) || same_named name olds lines are.1 i

  beside : (asked : List Bool) (olds : List OldRecord) (book : Book) → AreLinesOf from olds book → AreLinesOf from (wanted_of asked olds) (wanted_lines from asked book)
  beside [] olds book are = tt
  beside (a ∷ asked) [] [] are = tt
  beside (a ∷ asked) [] (line ∷ book) are = absurd are
  beside (a ∷ asked) (c ∷ olds) [] are = absurd are
  beside (a ∷ asked) (c ∷ olds) (line ∷ book) are = by (a || is_named_by (from.name_of line.sig) (wanted_lines from asked book)) refl (beside asked olds book are.1)
    where
      same : AreLinesOf from (wanted_of asked olds) (wanted_lines from asked book) → (a || is_named c.name (wanted_of asked olds)) ≡ (a || is_named_by (from.name_of line.sig) (wanted_lines from asked book))
      same rest = ap (λ (n : Hash). a || is_named n (wanted_of asked olds)) are.0.name ∙ ap (λ (b : Bool). a || b) (same_named (from.name_of line.sig) (wanted_of asked olds) (wanted_lines from asked book) rest)

      by : (b : Bool) → (a || is_named_by (from.name_of line.sig) (wanted_lines from asked book)) ≡ b → AreLinesOf from (wanted_of asked olds) (wanted_lines from asked book) → AreLinesOf from (wanted_of (a ∷ asked) (c ∷ olds)) (wanted_lines from (a ∷ asked) (line ∷ book))
      by true e rest = rw (same rest ∙ e, e) (are.0, rest)
      by false e rest = rw (same rest ∙ e, e) rest

  -- ---- which lines are wanted is told by their names

  abbrev has : Hash → Book → Bool
  has name lines = list_any (λ (line : Line). hash_eq (from.name_of line.sig) name) lines

  abbrev keep_of : Book → Line → Bool
  keep_of wanted line = has (from.name_of line.sig) wanted

  abbrev Others : Hash → Book → Type 0
  Others name lines = AllByRecursion (λ (line : Line). from.name_of line.sig ≢ name) lines

  abbrev Distinct : Book → Type 0
  Distinct [] = Unit {0}
  Distinct (line ∷ lines) = Others (from.name_of line.sig) lines × Distinct lines

  distinct_of : (book : Book) → ((before : Book) (line : Line) → StandsIn book before line → (behind : Book) (earlier : Line) → StandsIn before behind earlier → from.name_of earlier.sig ≢ from.name_of line.sig) → Distinct book
  distinct_of [] new = tt
  distinct_of (line ∷ lines) new = (
    each_line (λ (l : Line). from.name_of l.sig ≢ from.name_of line.sig) lines (λ before l s same. new (line ∷ before) l (stands_behind line lines before l s) [] line (stands_first line before) (sym same)),
    distinct_of lines (λ before l s behind earlier t. new (line ∷ before) l (stands_behind line lines before l s) (line ∷ behind) earlier (stands_behind line before behind earlier t)),
  )

  others_of : (name : Hash) (asked : List Bool) (lines : Book) → Others name lines → Others name (wanted_lines from asked lines)
  others_of name [] lines all = tt
  others_of name (a ∷ asked) [] all = tt
  others_of name (a ∷ asked) (line ∷ lines) all = by (a || is_named_by (from.name_of line.sig) (wanted_lines from asked lines)) (others_of name asked lines all.1)
    where
      by : (b : Bool) → Others name (wanted_lines from asked lines) → Others name (cond b (line ∷ wanted_lines from asked lines) (wanted_lines from asked lines))
      by true rest = (all.0, rest)
      by false rest = rest

  has_none : (name : Hash) (lines : Book) → Others name lines → has name lines ≡ false
  has_none name [] all = refl
  has_none name (line ∷ lines) all = elim (either_way (hash_eq (from.name_of line.sig) name)) [
    | inl t ↦ absurd (all.0 (hash_same (from.name_of line.sig) name t))
    | inr f ↦ ap (λ (b : Bool). b || has name lines) f ∙ has_none name lines all.1
  ]

  filter_none : (lines : Book) → filter (keep_of []) lines ≡ []
  filter_none [] = refl
  filter_none (line ∷ lines) = filter_none lines

  filter_same : (p q : Line → Bool) (lines : Book) → AllByRecursion (λ (l : Line). p l ≡ q l) lines → filter p lines ≡ filter q lines
  filter_same p q [] all = refl
  filter_same p q (line ∷ lines) all = λ i. cond (all.0 i) (line ∷ filter_same p q lines all.1 i) (filter_same p q lines all.1 i)

  -- of lines of other names it makes no difference that one more is wanted
  keep_same : (line : Line) (wanted lines : Book) → Others (from.name_of line.sig) lines → AllByRecursion (λ (l : Line). keep_of (line ∷ wanted) l ≡ keep_of wanted l) lines
  keep_same line wanted [] all = tt
  keep_same line wanted (l ∷ lines) all = (
    elim (either_way (hash_eq (from.name_of line.sig) (from.name_of l.sig))) [
      | inl t ↦ absurd (all.0 (sym (hash_same (from.name_of line.sig) (from.name_of l.sig) t)))
      | inr f ↦ ap (λ (b : Bool). b || has (from.name_of l.sig) wanted) f
    ],
    keep_same line wanted lines all.1,
  )

  wanted_is : (asked : List Bool) (book : Book) → Distinct book → filter (keep_of (wanted_lines from asked book)) book ≡ wanted_lines from asked book
  wanted_is [] book distinct = filter_none book
  wanted_is (a ∷ asked) [] distinct = refl
  wanted_is (a ∷ asked) (line ∷ book) distinct = by (a || is_named_by (from.name_of line.sig) (wanted_lines from asked book)) (wanted_is asked book distinct.1)
    where
      by : (b : Bool) → filter (keep_of (wanted_lines from asked book)) book ≡ wanted_lines from asked book
          → filter (keep_of (cond b (line ∷ wanted_lines from asked book) (wanted_lines from asked book))) (line ∷ book) ≡ cond b (line ∷ wanted_lines from asked book) (wanted_lines from asked book)
      by true rest =
          let wanted = wanted_lines from asked book in
          let own : keep_of (line ∷ wanted) line ≡ true = or_first (hash_eq (from.name_of line.sig) (from.name_of line.sig)) (has (from.name_of line.sig) wanted) (hash_itself (from.name_of line.sig) (from.name_of line.sig) refl) in
          ap (λ (b : Bool). cond b (line ∷ filter (keep_of (line ∷ wanted)) book) (filter (keep_of (line ∷ wanted)) book)) own
          ∙ ap (λ (l : Book). line ∷ l) (filter_same (keep_of (line ∷ wanted)) (keep_of wanted) book (keep_same line wanted book distinct.0) ∙ rest)
      by false rest =
          let wanted = wanted_lines from asked book in
          let own : keep_of wanted line ≡ false = has_none (from.name_of line.sig) wanted (others_of (from.name_of line.sig) asked book distinct.0) in
          ap (λ (b : Bool). cond b (line ∷ filter (keep_of wanted) book) (filter (keep_of wanted) book)) own ∙ rest

  -- ---- what a wanted line names is wanted

  other_name : (x line : Line) (before rest : Book) → Others (from.name_of x.sig) (before ++ line ∷ rest) → hash_eq (from.name_of x.sig) (from.name_of line.sig) ≡ false
  other_name x line before rest all = elim (either_way (hash_eq (from.name_of x.sig) (from.name_of line.sig))) [
    | inl t ↦ absurd (each_middle (λ (l : Line). from.name_of l.sig ≢ from.name_of x.sig) before line rest all (sym (hash_same (from.name_of x.sig) (from.name_of line.sig) t)))
    | inr f ↦ f
  ]

  kept_names : (asked : List Bool) (before rest : Book) (line : Line) → Distinct (before ++ line ∷ rest) → has (from.name_of line.sig) (wanted_lines from asked (before ++ line ∷ rest)) ≡ true → (n : Hash) → names n (stored_of line) ≡ true
      → is_named_by n (wanted_lines from asked (before ++ line ∷ rest)) ≡ true
  kept_names [] before rest line distinct kept n named = absurd (cc)
  kept_names (a ∷ asked) [] rest line distinct kept n named = by (a || is_named_by (from.name_of line.sig) (wanted_lines from asked rest)) kept
    where
      by : (b : Bool) → has (from.name_of line.sig) (cond b (line ∷ wanted_lines from asked rest) (wanted_lines from asked rest)) ≡ true → is_named_by n (cond b (line ∷ wanted_lines from asked rest) (wanted_lines from asked rest)) ≡ true
      by true k = or_first (names n (stored_of line)) (is_named_by n (wanted_lines from asked rest)) named
      by false k = not_both (has (from.name_of line.sig) (wanted_lines from asked rest)) k (has_none (from.name_of line.sig) (wanted_lines from asked rest) (others_of (from.name_of line.sig) asked rest distinct.0))
  kept_names (a ∷ asked) (x ∷ before) rest line distinct kept n named =
      by (a || is_named_by (from.name_of x.sig) (wanted_lines from asked (before ++ line ∷ rest))) kept (λ k. kept_names asked before rest line distinct.1 k n named)
    where
      by : (b : Bool) → has (from.name_of line.sig) (cond b (x ∷ wanted_lines from asked (before ++ line ∷ rest)) (wanted_lines from asked (before ++ line ∷ rest))) ≡ true
          → (has (from.name_of line.sig) (wanted_lines from asked (before ++ line ∷ rest)) ≡ true → is_named_by n (wanted_lines from asked (before ++ line ∷ rest)) ≡ true)
          → is_named_by n (cond b (x ∷ wanted_lines from asked (before ++ line ∷ rest)) (wanted_lines from asked (before ++ line ∷ rest))) ≡ true
      by true k later = or_later (names n (stored_of x)) (is_named_by n (wanted_lines from asked (before ++ line ∷ rest)))
          (later (from_or (hash_eq (from.name_of x.sig) (from.name_of line.sig)) (has (from.name_of line.sig) (wanted_lines from asked (before ++ line ∷ rest))) k (other_name x line before rest distinct.0)))
      by false k later = later k

  closed_at : (asked : List Bool) (behind mid rest : Book) (earlier line : Line) → Distinct (behind ++ earlier ∷ (mid ++ line ∷ rest)) → has (from.name_of line.sig) (wanted_lines from asked (behind ++ earlier ∷ (mid ++ line ∷ rest))) ≡ true
      → names (from.name_of earlier.sig) (stored_of line) ≡ true → has (from.name_of earlier.sig) (wanted_lines from asked (behind ++ earlier ∷ (mid ++ line ∷ rest))) ≡ true
  closed_at [] behind mid rest earlier line distinct kept named = absurd (cc)
  closed_at (a ∷ asked) [] mid rest earlier line distinct kept named = by (a || is_named_by (from.name_of earlier.sig) (wanted_lines from asked (mid ++ line ∷ rest))) refl kept
    where
      by : (b : Bool) → (a || is_named_by (from.name_of earlier.sig) (wanted_lines from asked (mid ++ line ∷ rest))) ≡ b → has (from.name_of line.sig) (cond b (earlier ∷ wanted_lines from asked (mid ++ line ∷ rest)) (wanted_lines from asked (mid ++ line ∷ rest))) ≡ true
          → has (from.name_of earlier.sig) (cond b (earlier ∷ wanted_lines from asked (mid ++ line ∷ rest)) (wanted_lines from asked (mid ++ line ∷ rest))) ≡ true
      by true e k = or_first (hash_eq (from.name_of earlier.sig) (from.name_of earlier.sig)) (has (from.name_of earlier.sig) (wanted_lines from asked (mid ++ line ∷ rest))) (hash_itself (from.name_of earlier.sig) (from.name_of earlier.sig) refl)
      by false e k = not_both (a || is_named_by (from.name_of earlier.sig) (wanted_lines from asked (mid ++ line ∷ rest)))
          (or_later a (is_named_by (from.name_of earlier.sig) (wanted_lines from asked (mid ++ line ∷ rest))) (kept_names asked mid rest line distinct.1 k (from.name_of earlier.sig) named)) e
  closed_at (a ∷ asked) (x ∷ behind) mid rest earlier line distinct kept named =
      by (a || is_named_by (from.name_of x.sig) (wanted_lines from asked (behind ++ earlier ∷ (mid ++ line ∷ rest)))) kept (λ k. closed_at asked behind mid rest earlier line distinct.1 k named)
    where
      apart : hash_eq (from.name_of x.sig) (from.name_of line.sig) ≡ false
      apart = other_name x line (behind ++ earlier ∷ mid) rest (subst (Others (from.name_of x.sig)) (sym (append_assoc behind (earlier ∷ mid) (line ∷ rest))) distinct.0)

      by : (b : Bool) → has (from.name_of line.sig) (cond b (x ∷ wanted_lines from asked (behind ++ earlier ∷ (mid ++ line ∷ rest))) (wanted_lines from asked (behind ++ earlier ∷ (mid ++ line ∷ rest)))) ≡ true
          → (has (from.name_of line.sig) (wanted_lines from asked (behind ++ earlier ∷ (mid ++ line ∷ rest))) ≡ true → has (from.name_of earlier.sig) (wanted_lines from asked (behind ++ earlier ∷ (mid ++ line ∷ rest))) ≡ true)
          → has (from.name_of earlier.sig) (cond b (x ∷ wanted_lines from asked (behind ++ earlier ∷ (mid ++ line ∷ rest))) (wanted_lines from asked (behind ++ earlier ∷ (mid ++ line ∷ rest)))) ≡ true
      by true k later = or_later (hash_eq (from.name_of x.sig) (from.name_of earlier.sig)) (has (from.name_of earlier.sig) (wanted_lines from asked (behind ++ earlier ∷ (mid ++ line ∷ rest))))
          (later (from_or (hash_eq (from.name_of x.sig) (from.name_of line.sig)) (has (from.name_of line.sig) (wanted_lines from asked (behind ++ earlier ∷ (mid ++ line ∷ rest)))) k apart))
      by false k later = later k

  any_of : (test : DepLine → Bool) (deps : List DepLine) (k : ℕ) (dep : DepLine) → k < length deps → slice_index_or deps k dep ≡ dep → test dep ≡ true → list_any test deps ≡ true
  any_of test [] k dep lt is t = absurd (omega (arith, lt))
  any_of test (d ∷ deps) zero dep lt is t = or_first (test d) (list_any test deps) (ap test is ∙ t)
  any_of test (d ∷ deps) (suc k) dep lt is t = or_later (test d) (list_any test deps) (any_of test deps k dep (omega (arith, lt)) is t)

  closed : (asked : List Bool) (book : Book) → Distinct book → IsClosed from (keep_of (wanted_lines from asked book)) book
  closed asked book distinct before line s kept = record {
    deps = λ dep c behind earlier t named. at behind earlier t
        (or_first (list_any (λ (d : DepLine). hash_eq d.name (from.name_of earlier.sig)) line.sig.deps) (hash_eq line.unihash (from.name_of earlier.sig)) (any_of (λ (d : DepLine). hash_eq d.name (from.name_of earlier.sig)) line.sig.deps c.0 dep c.1 c.2 (hash_itself dep.name (from.name_of earlier.sig) (sym named))));
    unihash = λ behind earlier t named. at behind earlier t
        (or_later (list_any (λ (d : DepLine). hash_eq d.name (from.name_of earlier.sig)) line.sig.deps) (hash_eq line.unihash (from.name_of earlier.sig)) (hash_itself line.unihash (from.name_of earlier.sig) named));
  }
    where
      at : (behind : Book) (earlier : Line) → StandsIn before behind earlier → names (from.name_of earlier.sig) (stored_of line) ≡ true → keep_of (wanted_lines from asked book) earlier ≡ true
      at behind earlier t named =
          let is : book ≡ behind ++ earlier ∷ (t.rest ++ line ∷ s.rest) = s.is ∙ ap (λ (b : Book). b ++ line ∷ s.rest) t.is ∙ append_assoc behind (earlier ∷ t.rest) (line ∷ s.rest) in
          subst (λ (b : Book). has (from.name_of earlier.sig) (wanted_lines from asked b) ≡ true) (sym is)
          (closed_at asked behind t.rest s.rest earlier line (subst Distinct is distinct) (subst (λ (b : Book). has (from.name_of line.sig) (wanted_lines from asked b) ≡ true) is kept) named)

pub wanted_is_valid : WantedIsValid
wanted_is_valid from gives reading asked olds book valid are =
    let distinct = distinct_of from book (λ before line s. let v = valid before line s in v.new) in
    record {
      records = beside from asked olds book are;
      valid = subst (IsValidBook from gives reading) (wanted_is from asked book distinct) (part_is_valid from gives reading book (keep_of from (wanted_lines from asked book)) valid (closed from asked book distinct));
    }

pub asked_are_wanted : AskedAreWanted
asked_are_wanted from [] before rest line asked = absurd (cc)
asked_are_wanted from (a ∷ more) [] rest line asked = rw asked (zero, omega arith, refl)
asked_are_wanted from (a ∷ more) (x ∷ before) rest line asked = by (a || is_named_by (from.name_of x.sig) (wanted_lines from more (before ++ line ∷ rest))) (asked_are_wanted from more before rest line asked)
  where
    by : (b : Bool) → Contains (wanted_lines from more (before ++ line ∷ rest)) line → Contains (cond b (x ∷ wanted_lines from more (before ++ line ∷ rest)) (wanted_lines from more (before ++ line ∷ rest))) line
    by true c = (suc c.0, (let lt = c.1 in omega (arith, lt)), c.2)
    by false c = c
