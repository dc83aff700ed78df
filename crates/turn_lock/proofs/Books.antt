-- The second part of the rule: what each step does to what the seats know and own.
use Rattle.std.proofs.Common.{◌≡◌, ◌≢◌, ◌⊎◌, ℕ, zero, suc, ◌+◌, ◌<◌, ◌≤◌, Bool, true, false, true≢false, eqb, ltb, List, [], ◌∷◌, ◌++◌, length, set, get_or, All, refl, sym, ap, ◌∙◌, subst, ⊎_elim, inl, inr, arith, length-set, length-append, eq-eqb}
use Rattle.std.proofs.lemmas.List.Elements.{filter-append, All-append}
use Rattle.std.proofs.Math.Seq.{drop-append_seam}
use mathlib.Core.Option.{some, some-ne-none, some-injective}
use mathlib.Core.Logic.{dite}
use native.Mathlib.Decide.{ℕ_discrete}
use lib.ListN.{get_elem?}
use Rattle.atomic_table.proofs.Lists.{at_longer, set_here, set_else}
use Rattle.turn_lock.specs.declared.rule.Record.{Record}
use Rattle.turn_lock.specs.declared.rule.Stage.{Stage}
use Rattle.turn_lock.specs.declared.rule.Stage.TheVariants.{Idle, Joining}
use Rattle.turn_lock.specs.declared.rule.View.{View}
use Rattle.turn_lock.specs.Totals.{once, total}
use Rattle.turn_lock.specs.Views.{Begins, entries_of, HasEntries, HasNoOthers, numbered, records_of, spared, longer, staged, after_turn, first_view, split_from, split_off}
use Rattle.turn_lock.specs.Book.{spare_of, owns, Knows, Book}
use Rattle.turn_lock.specs.Steps.{joining, taken_in}
use Rattle.turn_lock.proofs.Totals.{once_le, in_bounds, each_set, each_snoc, total-set, total-same, total-snoc, total-two, total-at, total-zero}
use Rattle.turn_lock.proofs.Stages.{tale_in, idle_joins}
use Rattle.turn_lock.proofs.Tales.{begins_whole, begins_more, whole_empty, longer_begins, longer_known, longer_shorter, entries_all, entries_same, entries_some, fits_of, fits_own, fits_others}
use Rattle.turn_lock.proofs.Numbers.{inside_seats, in_range, ranged, owns_live, owns_parts, owns_own, owns_split, owns_join, owns_first}

-- where a number isn't counted, it is another
other : (a n : ℕ) → once (eqb a n) ≡ 0 → n ≢ a
other a n z e = let h : once (eqb a n) ≡ 1 = ap once (eq-eqb a n (sym e)) in absurd (omega arith)

-- nothing is both 0 and 1
zero_one : (z : ℕ) → z ≡ 0 → z ≡ 1 → ⊥
zero_one z e f = absurd (omega arith)

-- where a sum is 0, so is each part
zero_parts : (o a b c : ℕ) → o ≡ a + (b + c) → o ≡ 0 → (a ≡ 0) × (b ≡ 0) × (c ≡ 0)
zero_parts o a b c e z = (omega arith, omega arith, omega arith)

-- where a sum is at most 1 and its first part is 1, the others are 0
one_parts : (o a b c : ℕ) → o ≡ a + (b + c) → o ≤ 1 → a ≡ 1 → (b ≡ 0) × (c ≡ 0)
one_parts o a b c e l one = (omega arith, omega arith)

-- a seat lives or was taken in
pub dead_or : (b : Bool) → (b ≡ true) ⊎ (b ≡ false)
dead_or true = inl refl
dead_or false = inr refl

module _ {N E : Type 0} (author : E → ℕ) (name : N) where
  -- what is added under a number that none of the records has leaves their entries
  others_same : (m : ℕ) (known added : List E) (records : List (Record E)) → All (λ e. author e ≡ m) added → numbered m records ≡ 0 → HasEntries author records known → HasEntries author records (known ++ added)
  others_same m known added records h z all k d l = let r : Record E = get_or records k d in
      entries_same author r.number m known added h (other r.number m (total-zero (λ (r : Record E). once (eqb r.number m)) records z k d l)) ∙ all k d l

  -- a number that is none of the spare ones differs from each of them
  spare_apart : (m n : ℕ) (v : View N E) → spared m v ≡ 0 → v.number < n → n ≤ v.number + v.spare → m ≢ n
  spare_apart m n v z a b e = let h = in_range v.number m (v.number + v.spare) (subst (λ (x : ℕ). v.number < x) (sym e) a) (subst (λ (x : ℕ). x ≤ v.number + v.spare) (sym e) b) in absurd (zero_one (spared m v) z h)

  -- another seat adds entries: a seat knows the same of the longer tale
  more_known : (known added : List E) (m : ℕ) (v : View N E) → Knows author name known v → All (λ e. author e ≡ m) added → owns m v ≡ 0 → Knows author name (known ++ added) v
  more_known known added m v k h z = record {
    name_is = k.name_is;
    fits = λ alive. let f = k.fits alive in let p = zero_parts (owns m v) (once (eqb v.number m)) (numbered m v.others) (spared m v) (owns_parts m v alive) z in fits_of author v (known ++ added)
        (begins_more known v.seen added f.seen)
        (entries_same author v.number m known added h (other v.number m p.0) ∙ fits_own author v known f)
        (others_same m known added v.others h p.1 (fits_others author v known f));
    spares = λ alive n a b. let p = zero_parts (owns m v) (once (eqb v.number m)) (numbered m v.others) (spared m v) (owns_parts m v alive) z in
        entries_same author n m known added h (spare_apart m n v p.2 a b) ∙ k.spares alive n a b;
    spent = k.spent;
    prefix = k.prefix;
  }

  -- a seat adds entries: it has seen the longer tale, and its own record has them
  my_turn : (known added : List E) (v : View N E) → v.live ≡ true → Knows author name known v → All (λ e. author e ≡ v.number) added → owns v.number v ≤ 1 → Knows author name (known ++ added) (after_turn v known (known ++ added))
  my_turn known added v alive k h few = let f = k.fits alive in let m : ℕ = v.number in let w : View N E = after_turn v known (known ++ added) in
      let p = one_parts (owns m v) (once (eqb v.number m)) (numbered m v.others) (spared m v) (owns_parts m v alive) few (ap once (eq-eqb v.number v.number refl)) in record {
        name_is = k.name_is;
        fits = λ _. fits_of author w (known ++ added)
            (begins_whole (known ++ added))
            (filter-append (λ e. eqb (author e) v.number) known added ∙ (λ i. fits_own author v known f i ++ (entries_all author v.number added h ∙ sym (drop-append_seam known added)) i))
            (others_same m known added v.others h p.0 (fits_others author v known f));
        spares = λ _ n a b. entries_same author n m known added h (spare_apart m n v p.1 a b) ∙ k.spares alive n a b;
        spent = λ dead. absurd (true≢false (sym alive ∙ dead));
        prefix = λ short e. absurd (idle_joins w.stage short refl e);
      }

  -- the book of a lock's first seat
  pub book_opens : (seats : ℕ) → 0 < seats → seats ≤ 64 → Book author name seats [] (first_view name seats ∷ [])
  book_opens seats some_seat few = record {
    small = few;
    few = omega arith;
    each = λ j u e. subst (Knows author name []) (only j u e) record {
      name_is = λ _. refl;
      fits = λ _. fits_of author (first_view name seats) [] ([], refl) refl (λ k d l. absurd (omega arith));
      spares = λ _ n a b. refl;
      spent = λ dead. absurd (true≢false dead);
      prefix = λ short e. absurd (idle_joins Idle short refl e);
    };
    apart = owns_first E name seats some_seat;
    longest = (0, first_view name seats, refl, refl);
    within = λ k d l. absurd (omega arith);
  }
    where
      only : (j : ℕ) (u : View N E) → get_elem? (first_view name seats ∷ []) j ≡ some u → first_view name seats ≡ u
      only zero u e = some-injective _ _ e
      only (suc j) u e = absurd (some-ne-none u (sym e))

  -- a seat goes to another stage
  pub book_staged : (seats : ℕ) (known : List E) (views : List (View N E)) (id : ℕ) (v : View N E) (stage : Stage E) → Book author name seats known views → get_elem? views id ≡ some v → v.live ≡ true
      → ((short : List E) → stage ≡ Joining short → ⊥) → Book author name seats known (set views id (staged stage v))
  book_staged seats known views id v stage b at alive no_join = let w : View N E = staged stage v in let k = b.each id v at in record {
    small = b.small;
    few = let s = total-same spare_of views id v w at refl in let l : length (set views id w) ≡ length views = length-set views id w in let f = b.few in omega arith;
    each = each_set (Knows author name known) views id w
        record {
          name_is = k.name_is;
          fits = λ _. let f = k.fits alive in record { seen = f.seen; records = f.records };
          spares = k.spares;
          spent = λ dead. absurd (true≢false (sym alive ∙ dead));
          prefix = λ short e. absurd (no_join short e);
        }
        (λ j u _ e. b.each j u e);
    apart = λ n. total-same (owns n) views id v w at refl ∙ b.apart n;
    longest = let o = b.longest in dite (ℕ_discrete o.0 id)
        (λ same. (id, w, set_here views id w (in_bounds views id v at), ap (λ (x : View N E). x.seen) (some-injective _ _ (sym at ∙ (ap (get_elem? views) (sym same) ∙ o.2))) ∙ o.3))
        (λ not. (o.0, o.1, set_else views id o.0 w not ∙ o.2, o.3));
    within = b.within;
  }

  -- a seat's turn ends, and the tale that it saw grow is the known one
  pub book_serves : (seats : ℕ) (known added : List E) (views : List (View N E)) (id : ℕ) (v : View N E) → Book author name seats known views → get_elem? views id ≡ some v → v.live ≡ true
      → All (λ e. author e ≡ v.number) added → Book author name seats (known ++ added) (set views id (after_turn v known (known ++ added)))
  book_serves seats known added views id v b at alive h = let w : View N E = after_turn v known (known ++ added) in let m : ℕ = v.number in let mine : 1 ≤ owns m v = owns_own v alive in
      let all = b.apart m in let le : once (ltb m seats) ≤ 1 = once_le (ltb m seats) in let up = total-at (owns m) views id v at in record {
        small = b.small;
        few = let s = total-same spare_of views id v w at refl in let l : length (set views id w) ≡ length views = length-set views id w in let f = b.few in omega arith;
        each = each_set (Knows author name (known ++ added)) views id w (my_turn known added v alive (b.each id v at) h (omega arith))
            (λ j u not e. let two = total-two (owns m) views id j v u at e (λ (same : id ≡ j). not (sym same)) in more_known known added m u (b.each j u e) h (omega arith));
        apart = λ n. total-same (owns n) views id v w at refl ∙ b.apart n;
        longest = (id, w, set_here views id w (in_bounds views id v at), refl);
        within = All-append (λ e. author e < seats) known added b.within (λ k d l. subst (λ (x : ℕ). x < seats) (sym (h k d l)) (inside_seats m seats (omega arith)));
      }

  -- a seat is split off
  pub book_splits : (seats : ℕ) (known : List E) (views : List (View N E)) (id : ℕ) (v : View N E) → Book author name seats known views → get_elem? views id ≡ some v → v.live ≡ true → 0 < v.spare
      → Book author name seats known (set views id (split_from v) ++ split_off v ∷ [])
  book_splits seats known views id v b at alive some_spare = let l : View N E = split_from v in let r : View N E = split_off v in let k = b.each id v at in let f = k.fits alive in let vs : List (View N E) = set views id l in record {
    small = b.small;
    few = let one = total-set spare_of views id v l at in let two = total-snoc spare_of vs r in let n : length vs ≡ length views = length-set views id l in let m : length (vs ++ r ∷ []) ≡ length vs + 1 = length-append vs (r ∷ []) in let few = b.few in omega arith;
    each = each_snoc (Knows author name known) vs r
        (each_set (Knows author name known) views id l
        record {
          name_is = k.name_is;
          fits = λ _. record { seen = f.seen; records = f.records };
          spares = λ _ n x y. k.spares alive n x (omega arith);
          spent = λ dead. absurd (true≢false (sym alive ∙ dead));
          prefix = k.prefix;
        }
        (λ j u _ e. b.each j u e))
        record {
          name_is = λ _. k.name_is alive;
          fits = λ _. fits_of author r known f.seen (k.spares alive (v.number + v.spare) (omega arith) (omega arith)) (λ i d h. absurd (omega arith));
          spares = λ _ n x y. absurd (omega arith);
          spent = λ dead. absurd (true≢false (sym alive ∙ dead));
          prefix = λ short e. absurd (idle_joins r.stage short refl e);
        };
    apart = λ n. let one = total-set (owns n) views id v l at in let two = total-snoc (owns n) vs r in let three = owns_split n v alive some_spare in
        let t : ℕ = total (owns n) views in let t' : ℕ = total (owns n) vs in let t'' : ℕ = total (owns n) (vs ++ r ∷ []) in let x : ℕ = owns n v in let y : ℕ = owns n l in let z : ℕ = owns n r in
        let e1 : t' + x ≡ t + y = one in let e2 : t'' ≡ t' + z = two in let e3 : y + z ≡ x = three in let g : t'' ≡ t = omega arith in g ∙ b.apart n;
    longest = let o = b.longest in dite (ℕ_discrete o.0 id)
        (λ same. (id, l, at_longer vs (r ∷ []) id l (set_here views id l (in_bounds views id v at)), ap (λ (x : View N E). x.seen) (some-injective _ _ (sym at ∙ (ap (get_elem? views) (sym same) ∙ o.2))) ∙ o.3))
        (λ not. (o.0, o.1, at_longer vs (r ∷ []) o.0 o.1 (set_else views id o.0 l not ∙ o.2), o.3));
    within = b.within;
  }

  -- what a seat knows that has just taken another in
  knows_both : (known : List E) (v w : View N E) → Knows author name known v → Knows author name known w → v.live ≡ true → w.live ≡ true → Knows author name known (joining v w)
  knows_both known v w k k' alive alive' = let f = k.fits alive in let f' = k'.fits alive' in record {
    name_is = k.name_is;
    fits = λ _. fits_of author (joining v w) known (longer_begins known v.seen w.seen f.seen f'.seen) (fits_own author v known f)
        (All-append (λ (r : Record E). entries_of author r.number known ≡ r.entries) v.others (records_of w) (fits_others author v known f) f'.records);
    spares = k.spares;
    spent = λ dead. absurd (true≢false (sym alive ∙ dead));
    prefix = λ short e. subst (Begins (longer v.seen w.seen)) (ap tale_in e) (longer_shorter known v.seen w.seen f.seen f'.seen);
  }

  -- a seat takes another in
  pub book_joins : (seats : ℕ) (known : List E) (views : List (View N E)) (id other : ℕ) (v w : View N E) → Book author name seats known views → get_elem? views id ≡ some v → other ≢ id → get_elem? views other ≡ some w → v.live ≡ true → w.live ≡ true
      → w.spare ≡ 0 → Book author name seats known (set (set views id (joining v w)) other taken_in)
  book_joins seats known views id other v w b at apart at' alive alive' none_spare = let both : View N E = joining v w in let gone : View N E = taken_in in let vs : List (View N E) = set views id both in let k = b.each id v at in let k' = b.each other w at' in
      let f = k.fits alive in let f' = k'.fits alive' in let there : get_elem? vs other ≡ some w = set_else views id other both apart ∙ at' in
      let here : get_elem? (set vs other gone) id ≡ some both = set_else vs other id gone (λ (e : id ≡ other). apart (sym e)) ∙ set_here views id both (in_bounds views id v at) in record {
        small = b.small;
        few = let one = total-same spare_of views id v both at refl in let two = total-set spare_of vs other w gone there in let n : length vs ≡ length views = length-set views id both in let m : length (set vs other gone) ≡ length vs = length-set vs other gone in let few = b.few in omega arith;
        each = each_set (Knows author name known) vs other gone
            record {
              name_is = λ e. absurd (true≢false (sym e));
              fits = λ e. absurd (true≢false (sym e));
              spares = λ e n x y. absurd (true≢false (sym e));
              spent = λ _. (refl, refl);
              prefix = λ short e. absurd (idle_joins gone.stage short refl e);
            }
            (λ j u _ e. each_set (Knows author name known) views id both (knows_both known v w k k' alive alive') (λ i x _ p. b.each i x p) j u e);
        apart = λ n. let t : ℕ = total (owns n) views in let t' : ℕ = total (owns n) vs in let t'' : ℕ = total (owns n) (set vs other gone) in let x : ℕ = owns n v in let y : ℕ = owns n w in let z : ℕ = owns n both in let q : ℕ = owns n gone in
            let e1 : t' + x ≡ t + z = total-set (owns n) views id v both at in let e2 : t'' + y ≡ t' + q = total-set (owns n) vs other w gone there in let e3 : z ≡ x + y = owns_join n v w alive alive' none_spare in
            let e4 : q ≡ 0 = refl in let g : t'' ≡ t = omega arith in g ∙ b.apart n;
        longest = let o = b.longest in dite (ℕ_discrete o.0 id)
            (λ same. (id, both, here, longer_known known v.seen w.seen f.seen f'.seen (inl (ap (λ (x : View N E). x.seen) (some-injective _ _ (sym at ∙ (ap (get_elem? views) (sym same) ∙ o.2))) ∙ o.3))))
            (λ not. dite (ℕ_discrete o.0 other)
            (λ same. (id, both, here, longer_known known v.seen w.seen f.seen f'.seen (inr (ap (λ (x : View N E). x.seen) (some-injective _ _ (sym at' ∙ (ap (get_elem? views) (sym same) ∙ o.2))) ∙ o.3))))
            (λ not'. (o.0, o.1, set_else vs other o.0 gone not' ∙ (set_else views id o.0 both not ∙ o.2), o.3)));
        within = b.within;
      }

  -- a seat that has every number is the only one that lives
  pub book_alone : (seats : ℕ) (known : List E) (views : List (View N E)) (id j : ℕ) (v u : View N E) → Book author name seats known views → get_elem? views id ≡ some v → ((n : ℕ) → n < seats → 0 < owns n v)
      → get_elem? views j ≡ some u → u.live ≡ true → j ≡ id
  book_alone seats known views id j v u b at all e lives = dite (ℕ_discrete j id) (λ same. same) (λ not. let m : ℕ = u.number in let own : 1 ≤ owns m u = owns_own u lives in
      let two = total-two (owns m) views id j v u at e (λ (same : id ≡ j). not (sym same)) in let sums = b.apart m in let le : once (ltb m seats) ≤ 1 = once_le (ltb m seats) in
      let mine = all m (inside_seats m seats (omega arith)) in absurd (omega arith))

  -- and it has seen all of the known tale
  pub book_whole : (seats : ℕ) (known : List E) (views : List (View N E)) (id : ℕ) (v : View N E) → Book author name seats known views → get_elem? views id ≡ some v → v.live ≡ true → ((n : ℕ) → n < seats → 0 < owns n v) → known ≡ v.seen
  book_whole seats known views id v b at alive all = let o = b.longest in let f = (b.each id v at).fits alive in ⊎_elim
      (λ (lives : o.1.live ≡ true). let same : o.0 ≡ id = book_alone seats known views id o.0 v o.1 b at all o.2 lives in
      sym o.3 ∙ ap (λ (q : View N E). q.seen) (some-injective _ _ (sym o.2 ∙ (ap (get_elem? views) same ∙ at))))
      (λ (dead : o.1.live ≡ false). whole_empty known v.seen f.seen (sym ((b.each o.0 o.1 o.2).spent dead).0 ∙ o.3))
      (dead_or o.1.live)

  -- the known tale has no entries but those of its records
  pub book_no_others : (seats : ℕ) (known : List E) (views : List (View N E)) (id : ℕ) (v : View N E) → Book author name seats known views → get_elem? views id ≡ some v → v.live ≡ true → ((n : ℕ) → n < seats → 0 < owns n v)
      → HasNoOthers author (records_of v) known
  book_no_others seats known views id v b at alive all k d l = let n : ℕ = author (get_or known k d) in let t : ℕ = numbered n (records_of v) in let r : ℕ = spared n v in let o : ℕ = owns n v in
      let e : o ≡ t + r = owns_live n v alive in let some_o : 0 < o = all n (b.within k d l) in dite (ℕ_discrete t 0)
      (λ z. let some_r : 0 < r = omega arith in let h = ranged v.number n (v.number + v.spare) some_r in absurd (entries_some author n known k d l refl ((b.each id v at).spares alive n h.0 h.1)))
      (λ not. let g : 0 < t = omega arith in g)
