-- Each step of the lock keeps the rule: its three parts put together.
use Rattle.std.proofs.Common.{◌≡◌, ℕ, ◌+◌, ◌%◌, ◌^◌, ◌<◌, ◌≤◌, true, false, List, [], ◌∷◌, ◌++◌, length, set, get_or, map, All, Some, None, Option, refl, sym, ap, ◌∙◌, subst, ⊎_elim, arith, length-set, get_or-set_same, get_or-set_other}
use mathlib.Core.Option.{some, none, some-injective}
use mathlib.Core.Option as maybe
use mathlib.Core.Logic.{dite}
use native.Mathlib.Decide.{ℕ_discrete}
use lib.ListN.{get_elem?}
use lib.Seq.{set-get_or}
use Rattle.atomic_table.specs.Table.{State, step, Final, Seen, Splits, Joins, keeps, takes, gives, put_back, stepped, opening, Allows}
use Rattle.atomic_table.proofs.Lists.{set_else, set_again}
use Rattle.turn_lock.specs.declared.rule.Stage.TheVariants.{Idle, Waiting, Holding, Joining}
use Rattle.turn_lock.specs.declared.rule.View.{View}
use Rattle.turn_lock.specs.Totals.{total}
use Rattle.turn_lock.specs.Views.{outstanding, HasTicket, HasEntries, HasNoOthers, records_of, times_held, Fits, staged, after_turn, first_view, split_off, split_from}
use Rattle.turn_lock.specs.Line.{tickets_of, Line}
use Rattle.turn_lock.specs.Book.{owns, Book}
use Rattle.turn_lock.specs.Turn.{IsOut, IsHome, Turn}
use Rattle.turn_lock.specs.Kept.{Kept}
use Rattle.turn_lock.specs.Steps.{Seated, drawn, looked, served, told, joining, taken_in}
use Rattle.turn_lock.proofs.Totals.{total-few}
use Rattle.turn_lock.proofs.Stages.{ticket_in, tale_in, outstanding_le, idle_holds, waiting_holds, joining_holds, idle_joins, waiting_joins, holding_joins}
use Rattle.turn_lock.proofs.Numbers.{owns_live}
use Rattle.turn_lock.proofs.Lines.{line_opens, line_draws, line_same, line_serves, line_snoc}
use Rattle.turn_lock.proofs.Books.{book_opens, book_staged, book_serves, book_splits, book_joins, book_alone, book_whole, book_no_others, dead_or}
use Rattle.turn_lock.proofs.Turns.{turn_opens, turn_rests, turn_snoc, turn_takes, turn_serves}

-- what a slot that was taken holds, and the default where there is none
abbrev item_of : {S : Type 0} → S → List (ℕ × Option S) → S
item_of d [] = d
item_of d ((k, Some y) ∷ ys) = y
item_of d ((k, None) ∷ ys) = d

-- all but the first
abbrev rest_of : {A : Type 0} → List A → List A
rest_of [] = []
rest_of (y ∷ ys) = ys

-- the first, and the default where there is none
abbrev first_or : {A : Type 0} → A → List A → A
first_or d [] = d
first_or d (x ∷ xs) = x

module _ {S N E : Type 0} (name_of : S → N) (tale_of : S → List E) (author : E → ℕ) (name : N) (seats : ℕ) where
  abbrev Rule : State (Option S) (View N E) → Type 0
  Rule = Kept name_of tale_of author name seats

  abbrev Views : Type 0
  Views = List (View N E)

  -- there are fewer tickets out than 2 ^ 64
  few_wait : (known : List E) (views : Views) → Book author name seats known views → total tickets_of views < 2 ^ 64
  few_wait known views b = let h = total-few tickets_of views (λ v. outstanding_le v.stage) in let f = b.few in let s = b.small in omega arith

  -- new: a table whose slot has the story, and its first seat
  pub opens : (items : List (Option S)) (x : S) → items ≡ Some x ∷ [] → name_of x ≡ name → tale_of x ≡ [] → 0 < seats → seats ≤ 64 → Rule (opening (0 ∷ 0 ∷ []) items (first_view name seats))
  opens items x is named empty some_seat few = let v : View N E = first_view name seats in record {
    known = [];
    wide = refl;
    line = line_opens v refl;
    book = book_opens author name seats some_seat few;
    turn = turn_opens name_of tale_of name 0 [] (map some items) v (x, (λ i. map some (is i)), named, empty) refl;
  }

  -- begin: an idle seat draws a ticket
  pub draws : (slots id : ℕ) (me : Seated S N E) → me.0.live ≡ true → me.0.stage ≡ Idle → Allows Rule slots id me 1 (λ n. (n + 1) % 2 ^ 64) (drawn (step slots 1 1 0 none) me)
  draws slots id me alive idle s r _ at small = let b : ℕ = get_or s.words 1 0 in let to : ℕ = (b + 1) % 2 ^ 64 in let v : View N E = me.0 in let w : View N E = staged (Waiting b) v in let wide = r.wide in
      let zero_same : get_or (set s.words 1 to) 0 0 ≡ get_or s.words 0 0 = get_or-set_other s.words 1 0 to 0 (λ e. omega arith) in
      let one_new : get_or (set s.words 1 to) 1 0 ≡ to = get_or-set_same s.words 1 to 0 (omega arith) in
      let views : Views = set s.views id w in (
        w,
        keeps,
        tt,
        record {
          known = r.known;
          wide = length-set s.words 1 to ∙ wide;
          line = subst (λ (x : ℕ × ℕ). Line x.0 x.1 views) (λ i. (sym zero_same i, sym one_new i)) (line_draws (get_or s.words 0 0) b s.views id v r.line (few_wait r.known s.views r.book) at idle);
          book = book_staged author name seats r.known s.views id v (Waiting b) r.book at alive (λ short e. waiting_joins w.stage b short refl e);
          turn = subst (λ (x : ℕ). Turn name_of tale_of name x r.known s.homes views) (sym zero_same)
              (turn_rests name_of tale_of name (get_or s.words 0 0) r.known s.homes s.views id v w r.turn at (λ t old e. idle_holds v.stage t old idle e) (λ t old e. waiting_holds w.stage t b old refl e));
        },
        (refl, refl),
      )

  -- a load of word 0 writes what was there
  loaded : (s : State (Option S) (View N E)) (known : List E) (homes : List (maybe.Option (Option S))) (views : Views) → length s.words ≡ 2 → Line (get_or s.words 0 0) (get_or s.words 1 0) views → Book author name seats known views
      → Turn name_of tale_of name (get_or s.words 0 0) known homes views → Rule record { words = set s.words 0 (get_or s.words 0 0); homes = homes; views = views }
  loaded s known homes views wide line book turn = subst (λ (ws : List ℕ). Rule record { words = ws; homes = homes; views = views }) (sym (set-get_or s.words 0 0)) record { known = known; wide = wide; line = line; book = book; turn = turn }

  -- a look that finds another ticket changes nothing
  unmoved : (s : State (Option S) (View N E)) (id : ℕ) (v : View N E) (cs : List (ℕ × Option S)) → Rule s → get_elem? s.views id ≡ some v → Rule (stepped s 0 (get_or s.words 0 0) id cs v keeps)
  unmoved s id v cs r at = subst (λ (x : List ℕ × Views). Rule record { words = x.0; homes = s.homes; views = x.1 }) (λ i. (sym (set-get_or s.words 0 0) i, sym (set_again s.views id v at) i)) r

  -- while a seat waits with the ticket that is served, the story is at home
  story_home : (s : State (Option S) (View N E)) (id t : ℕ) (v : View N E) → (r : Rule s) → get_elem? s.views id ≡ some v → v.stage ≡ Waiting t → get_or s.words 0 0 ≡ t → IsHome name_of tale_of name r.known s.homes
  story_home s id t v r at waiting hit = let a : ℕ = get_or s.words 0 0 in ⊎_elim
      (λ (h : IsHome name_of tale_of name r.known s.homes). h)
      (λ (h : (s.homes ≡ none ∷ []) × IsOut a r.known s.views). let o = h.1 in
      let mine : HasTicket a v.stage = subst (HasTicket a) (sym waiting) (sym hit) in let its : HasTicket a o.1.stage = subst (HasTicket a) (sym o.3) refl in
      let same : id ≡ o.0 = r.line.apart id o.0 v o.1 a at o.2 mine its in
      absurd (waiting_holds v.stage a t r.known waiting (ap (λ (y : View N E). y.stage) (some-injective _ _ (sym at ∙ (ap (get_elem? s.views) same ∙ o.2))) ∙ o.3)))
      r.turn.place

  -- begin: a seat that waits looks at the ticket that is served, and takes the story where it is its own
  pub looks : (slots id : ℕ) (me : Seated S N E) (t : ℕ) → me.0.live ≡ true → me.0.stage ≡ Waiting t → Allows Rule slots id me 0 (λ n. n) (looked name_of tale_of author (step slots 0 0 0 none) me)
  looks slots id me t alive waiting s r _ at small = let a : ℕ = get_or s.words 0 0 in let v : View N E = me.0 in dite (ℕ_discrete a t)
      (λ hit. let h = story_home s id t v r at waiting hit in let x : S = h.0 in let w : View N E = staged (Holding t (tale_of x)) v in let views : Views = set s.views id w in let fits = (r.book.each id v at).fits alive in (
        w,
        takes 0 (Some x),
        ap (λ (l : List (maybe.Option (Option S))). get_elem? l 0) h.1,
        loaded s r.known (set s.homes 0 none) views r.wide
            (line_same a (get_or s.words 1 0) s.views id v w r.line at (sym (ap outstanding waiting)) (λ u has. subst (HasTicket u) (sym waiting) has))
            (book_staged author name seats r.known s.views id v (Holding t (tale_of x)) r.book at alive (λ short e. holding_joins w.stage t (tale_of x) short refl e))
            (turn_takes name_of tale_of name a r.known s.homes s.views id t v x r.turn at hit h.1 h.3),
        λ t' is. let tt' : t ≡ t' = ap ticket_in (sym waiting ∙ is) in (
          (λ _. (x, (λ i. staged (Holding (tt' i) (tale_of x)) v), refl, (r.book.each id v at).name_is alive ∙ ap (λ (y : N). y ∷ []) (sym h.2), subst (Fits author v) (sym h.3) fits)),
          (λ not. absurd (not (hit ∙ tt'))),
        ),
      ))
      (λ miss. (v, keeps, tt, unmoved s id v me.1 r at, λ t' is. let tt' : t ≡ t' = ap ticket_in (sym waiting ∙ is) in ((λ e. absurd (miss (e ∙ sym tt'))), (λ _. refl))))

  -- end: the seat with the turn gives the story back, and the next ticket is served
  pub serves : (slots id : ℕ) (me : Seated S N E) (t : ℕ) (old added : List E) (x : S) → me.0.live ≡ true → me.0.stage ≡ Holding t old → me.1 ≡ (0, Some x) ∷ [] → me.0.name ≡ name_of x ∷ [] → tale_of x ≡ old ++ added
      → All (λ e. author e ≡ me.0.number) added → Allows Rule slots id me 0 (λ n. (n + 1) % 2 ^ 64) (served tale_of (step slots 0 1 0 none) me)
  serves slots id me t old added x alive holding has named grown own s r _ at small = let a : ℕ = get_or s.words 0 0 in let to : ℕ = (a + 1) % 2 ^ 64 in let v : View N E = me.0 in let wide = r.wide in
      let w : View N E = after_turn v old (tale_of x) in let views : Views = set s.views id w in let out = r.turn.held id v t old at holding in
      let zero_new : get_or (set s.words 0 to) 0 0 ≡ to = get_or-set_same s.words 0 to 0 (omega arith) in
      let one_same : get_or (set s.words 0 to) 1 0 ≡ get_or s.words 1 0 = get_or-set_other s.words 0 1 to 0 (λ e. omega arith) in
      let back : put_back s.homes me.1 ≡ some (Some x) ∷ [] = λ i. put_back (out.2 i) (has i) in
      let tale : r.known ++ added ≡ tale_of x = ap (λ (l : List E). l ++ added) (sym out.1) ∙ sym grown in
      let holds_a : v.stage ≡ Holding a old = holding ∙ ap (λ (y : ℕ). Holding y old) out.0 in
      let only : (j : ℕ) (u : View N E) (t' : ℕ) (old' : List E) → get_elem? s.views j ≡ some u → u.stage ≡ Holding t' old' → j ≡ id = λ j u t' old' e holds.
      r.line.apart j id u v a e at (subst (HasTicket a) (sym holds) (r.turn.held j u t' old' e holds).0) (subst (HasTicket a) (sym holds_a) refl) in (
        w,
        gives,
        tt,
        record {
          known = tale_of x;
          wide = length-set s.words 0 to ∙ wide;
          line = subst (λ (y : ℕ × ℕ). Line y.0 y.1 views) (λ i. (sym zero_new i, sym one_same i)) (line_serves a (get_or s.words 1 0) s.views id v w old r.line at holds_a refl);
          book = subst (λ (y : List E × List E). Book author name seats y.1 (set s.views id (after_turn v y.0 y.1))) (λ i. (sym out.1 i, tale i))
              (book_serves author name seats r.known added s.views id v r.book at alive own);
          turn = turn_serves name_of tale_of name a (get_or (set s.words 0 to) 0 0) r.known (tale_of x) s.homes (put_back s.homes me.1) s.views id w r.turn
              (x, back, ap (first_or name) (sym named ∙ (r.book.each id v at).name_is alive), refl) only refl;
        },
        λ t' old' x' is has'. let same : x ≡ x' = ap (item_of x) (sym has ∙ has') in
            ((λ i. after_turn v (ap tale_in (sym holding ∙ is) i) (tale_of (same i))), ap rest_of has),
      )

  -- split: an idle seat gives its last spare number to a new seat
  pub splits : (id : ℕ) (v : View N E) → v.live ≡ true → v.stage ≡ Idle → 0 < v.spare → Splits Rule id v (split_from v) (split_off v)
  splits id v alive idle some_spare s r at = let a : ℕ = get_or s.words 0 0 in let b : ℕ = get_or s.words 1 0 in let l : View N E = split_from v in let vs : Views = set s.views id l in record {
    known = r.known;
    wide = r.wide;
    line = line_snoc a b vs (split_off v) (line_same a b s.views id v l r.line at refl (λ t has. has)) refl;
    book = book_splits author name seats r.known s.views id v r.book at alive some_spare;
    turn = turn_snoc name_of tale_of name a r.known s.homes vs (split_off v)
        (turn_rests name_of tale_of name a r.known s.homes s.views id v l r.turn at (λ t old e. idle_holds v.stage t old idle e) (λ t old e. idle_holds v.stage t old idle e)) refl;
  }

  -- join: an idle seat takes an idle one in that has no spare number
  pub joins : (id : ℕ) (v : View N E) (other : ℕ) (w : View N E) → v.live ≡ true → v.stage ≡ Idle → w.live ≡ true → w.stage ≡ Idle → w.spare ≡ 0 → Joins Rule id v other w (joining v w) taken_in
  joins id v other w alive idle alive' idle' none_spare s r at apart there = let a : ℕ = get_or s.words 0 0 in let b : ℕ = get_or s.words 1 0 in let both : View N E = joining v w in let gone : View N E = taken_in in let vs : Views = set s.views id both in
      let at' : get_elem? s.views other ≡ some w = sym (set_else s.views id other both apart) ∙ there in record {
        known = r.known;
        wide = r.wide;
        line = line_same a b vs other w gone (line_same a b s.views id v both r.line at (sym (ap outstanding idle)) (λ t has. absurd has)) there (sym (ap outstanding idle')) (λ t has. absurd has);
        book = book_joins author name seats r.known s.views id other v w r.book at apart at' alive alive' none_spare;
        turn = turn_rests name_of tale_of name a r.known s.homes vs other w gone
            (turn_rests name_of tale_of name a r.known s.homes s.views id v both r.turn at (λ t old e. idle_holds v.stage t old idle e) (λ t old e. joining_holds both.stage t _ old refl e))
            there (λ t old e. idle_holds w.stage t old idle' e) (λ t old e. idle_holds gone.stage t old refl e);
      }

  -- join: the seat learns that what it has seen begins with both of the tales that were seen
  pub tells : (slots id : ℕ) (me : Seated S N E) (short : List E) → me.0.live ≡ true → me.0.stage ≡ Joining short → Allows Rule slots id me 0 (λ n. n) (told (step slots 0 0 0 none) me)
  tells slots id me short alive joins s r _ at small = let a : ℕ = get_or s.words 0 0 in let v : View N E = me.0 in let w : View N E = staged Idle v in (
    w,
    keeps,
    tt,
    loaded s r.known s.homes (set s.views id w) r.wide
        (line_same a (get_or s.words 1 0) s.views id v w r.line at (sym (ap outstanding joins)) (λ t has. absurd has))
        (book_staged author name seats r.known s.views id v Idle r.book at alive (λ l e. idle_joins w.stage l refl e))
        (turn_rests name_of tale_of name a r.known s.homes s.views id v w r.turn at (λ t old e. joining_holds v.stage t short old joins e) (λ t old e. idle_holds w.stage t old refl e)),
    (refl, refl, (r.book.each id v at).prefix),
  )

  -- close: a seat that has every number gets the story, with all that it has seen, the entries of its records and no others
  pub closes : (ws : List ℕ) (xs : List (Option S)) (id : ℕ) (v : View N E) (y : Option S) → Final (Seen Rule id v) ws xs → get_elem? xs 0 ≡ some y → v.live ≡ true → v.stage ≡ Idle → ((n : ℕ) → n < seats → 0 < times_held n v)
      → (x : S) × (y ≡ Some x) × (v.name ≡ name_of x ∷ []) × (tale_of x ≡ v.seen) × HasEntries author (records_of v) (tale_of x) × HasNoOthers author (records_of v) (tale_of x)
  closes ws xs id v y f at alive idle all = let s = f.0 in let r : Rule s = f.1.0 in let here = f.1.1 in let k = r.book.each id v here in
      let owned : (n : ℕ) → n < seats → 0 < owns n v = λ n l. subst (λ (q : ℕ). 0 < q) (sym (owns_live n v alive)) (all n l) in ⊎_elim
      (λ (h : IsHome name_of tale_of name r.known s.homes). let x : S = h.0 in (
        x,
        some-injective _ _ (sym at ∙ f.4 0 (Some x) (ap (λ (l : List (maybe.Option (Option S))). get_elem? l 0) h.1)),
        k.name_is alive ∙ ap (λ (q : N). q ∷ []) (sym h.2),
        h.3 ∙ book_whole author name seats r.known s.views id v r.book here alive owned,
        subst (HasEntries author (records_of v)) (sym h.3) (k.fits alive).records,
        subst (HasNoOthers author (records_of v)) (sym h.3) (book_no_others author name seats r.known s.views id v r.book here alive owned),
      ))
      (λ (h : (s.homes ≡ none ∷ []) × IsOut (get_or s.words 0 0) r.known s.views). let o = h.1 in absurd (⊎_elim
      (λ (lives : o.1.live ≡ true). let same : o.0 ≡ id = book_alone author name seats r.known s.views id o.0 v o.1 r.book here owned o.2 lives in
      idle_holds v.stage (get_or s.words 0 0) r.known idle (ap (λ (q : View N E). q.stage) (some-injective _ _ (sym here ∙ (ap (get_elem? s.views) (sym same) ∙ o.2))) ∙ o.3))
      (λ (dead : o.1.live ≡ false). idle_holds o.1.stage (get_or s.words 0 0) r.known ((r.book.each o.0 o.1 o.2).spent dead).1 o.3)
      (dead_or o.1.live)))
      r.turn.place
