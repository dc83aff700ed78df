-- The first part of the rule: what each step does to the line of tickets.
use Rattle.std.proofs.Common.{◌≡◌, ◌≢◌, ℕ, zero, suc, ◌+◌, ◌-◌, ◌%◌, ◌^◌, ◌<◌, List, [], ◌∷◌, ◌++◌, set, refl, sym, ap, ◌∙◌, subst, ⊎_elim, arith}
use Rattle.std.proofs.Math.Nat.{mod-add-mod, mod-lt, mod-eq_of_lt}
use mathlib.Core.Option.{some, some-ne-none, some-injective}
use mathlib.Core.Logic.{dite}
use native.Mathlib.Decide.{ℕ_discrete}
use lib.ListN.{get_elem?}
use Rattle.atomic_table.proofs.Lists.{at_set, at_snoc, one_turn}
use Rattle.turn_lock.specs.declared.rule.Stage.TheVariants.{Idle, Waiting, Holding}
use Rattle.turn_lock.specs.declared.rule.View.{View}
use Rattle.turn_lock.specs.Totals.{total}
use Rattle.turn_lock.specs.Views.{outstanding, HasTicket, staged}
use Rattle.turn_lock.specs.Line.{tickets_of, Line}
use Rattle.turn_lock.proofs.Totals.{total-set, total-same, total-snoc}

-- fewer than 2 ^ 64 tickets are out, so none of them is the next one
clash : (a b n k t : ℕ) → n < 2 ^ 64 → k < n → b ≡ (a + n) % 2 ^ 64 → t ≡ (a + k) % 2 ^ 64 → b ≡ t → ⊥
clash a b n k t few low next e f = let same : (a + k) % 2 ^ 64 ≡ (a + n) % 2 ^ 64 = sym e ∙ (sym f ∙ next) in
    let e' : a + k ≡ a + n = one_turn (a + k) (a + n) (2 ^ 64) (omega arith) (omega arith) same in absurd (omega arith)

-- a ticket lies one place less behind the next ticket that is served
moved : (a k k' : ℕ) → k ≡ k' + 1 → (a + k) % 2 ^ 64 ≡ ((a + 1) % 2 ^ 64 + k') % 2 ^ 64
moved a k k' e = let h : a + k ≡ (a + 1) + k' = omega arith in ap (λ (x : ℕ). x % 2 ^ 64) h ∙ sym (mod-add-mod (a + 1) (2 ^ 64) k')

-- the ticket that lies no place behind the one that is served is that one
at_zero : (a k t : ℕ) → a < 2 ^ 64 → k ≡ 0 → t ≡ (a + k) % 2 ^ 64 → t ≡ a
at_zero a k t low e f = let h : a + k ≡ a = omega arith in f ∙ (ap (λ (y : ℕ). y % 2 ^ 64) h ∙ mod-eq_of_lt low)

module _ {N E : Type 0} where
  -- a ticket that is out afterwards was out before, where the changed seat has none that it didn't have
  before : (views : List (View N E)) (id : ℕ) (v w : View N E) → get_elem? views id ≡ some v → ((t : ℕ) → HasTicket t w.stage → HasTicket t v.stage) → (j : ℕ) (u : View N E) (t : ℕ)
      → get_elem? (set views id w) j ≡ some u → HasTicket t u.stage → (u' : View N E) × (get_elem? views j ≡ some u') × HasTicket t u'.stage
  before views id v w at back j u t e has = ⊎_elim
      (λ (x : (j ≡ id) × (w ≡ u)). (v, subst (λ (i : ℕ). get_elem? views i ≡ some v) (sym x.0) at, back t (subst (λ (y : View N E). HasTicket t y.stage) (sym x.1) has)))
      (λ (x : (j ≢ id) × (get_elem? views j ≡ some u)). (u, x.1, has))
      (at_set views id j w u e)

  -- an idle seat has no ticket
  none_left : (w u : View N E) (t : ℕ) → w.stage ≡ Idle → w ≡ u → HasTicket t u.stage → ⊥
  none_left w u t idle e has = subst (HasTicket t) (ap (λ (y : View N E). y.stage) (sym e) ∙ idle) has

  -- the next ticket goes out to an idle seat
  pub line_draws : (a b : ℕ) (views : List (View N E)) (id : ℕ) (v : View N E) → Line a b views → total tickets_of views < 2 ^ 64 → get_elem? views id ≡ some v → v.stage ≡ Idle
      → Line a ((b + 1) % 2 ^ 64) (set views id (staged (Waiting b) v))
  line_draws a b views id v l few at idle = let n : ℕ = total tickets_of views in let w : View N E = staged (Waiting b) v in let z : tickets_of v ≡ 0 = ap outstanding idle in
      let more : total tickets_of (set views id w) ≡ n + 1 = let h = total-set tickets_of views id v w at in omega arith in record {
        next_is = ap (λ (x : ℕ). (x + 1) % 2 ^ 64) l.next_is ∙ (mod-add-mod (a + n) (2 ^ 64) 1 ∙ (let h : a + n + 1 ≡ a + total tickets_of (set views id w) = omega arith in ap (λ (x : ℕ). x % 2 ^ 64) h));
        low = l.low;
        within = λ j u t e has. ⊎_elim
            (λ (x : (j ≡ id) × (w ≡ u)). let f : b ≡ t = subst (λ (y : View N E). HasTicket t y.stage) (sym x.1) has in (n, omega arith, sym f ∙ l.next_is))
            (λ (x : (j ≢ id) × (get_elem? views j ≡ some u)). let old = l.within j u t x.1 has in let low = old.1 in (old.0, omega arith, old.2))
            (at_set views id j w u e);
        apart = λ i j u u' t e e' has has'. ⊎_elim
            (λ (x : (i ≡ id) × (w ≡ u)). ⊎_elim
            (λ (y : (j ≡ id) × (w ≡ u')). x.0 ∙ sym y.0)
            (λ (y : (j ≢ id) × (get_elem? views j ≡ some u')). let old = l.within j u' t y.1 has' in absurd (clash a b n old.0 t few old.1 l.next_is old.2 (subst (λ (q : View N E). HasTicket t q.stage) (sym x.1) has)))
            (at_set views id j w u' e'))
            (λ (x : (i ≢ id) × (get_elem? views i ≡ some u)). ⊎_elim
            (λ (y : (j ≡ id) × (w ≡ u')). let old = l.within i u t x.1 has in absurd (clash a b n old.0 t few old.1 l.next_is old.2 (subst (λ (q : View N E). HasTicket t q.stage) (sym y.1) has')))
            (λ (y : (j ≢ id) × (get_elem? views j ≡ some u')). l.apart i j u u' t x.1 y.1 has has')
            (at_set views id j w u' e'))
            (at_set views id i w u e);
      }

  -- a seat keeps its ticket, or has none
  pub line_same : (a b : ℕ) (views : List (View N E)) (id : ℕ) (v w : View N E) → Line a b views → get_elem? views id ≡ some v → tickets_of w ≡ tickets_of v → ((t : ℕ) → HasTicket t w.stage → HasTicket t v.stage)
      → Line a b (set views id w)
  line_same a b views id v w l at same back = let n : total tickets_of (set views id w) ≡ total tickets_of views = total-same tickets_of views id v w at same in let old = before views id v w at back in record {
    next_is = l.next_is ∙ ap (λ (x : ℕ). (a + x) % 2 ^ 64) (sym n);
    low = l.low;
    within = λ j u t e has. let o = old j u t e has in let k = l.within j o.0 t o.1 o.2 in let lo = k.1 in (k.0, omega arith, k.2);
    apart = λ i j u u' t e e' has has'. let o = old i u t e has in let o' = old j u' t e' has' in l.apart i j o.0 o'.0 t o.1 o'.1 o.2 o'.2;
  }

  -- the ticket that is served comes back, and the one behind it is served
  pub line_serves : (a b : ℕ) (views : List (View N E)) (id : ℕ) (v w : View N E) (old : List E) → Line a b views → get_elem? views id ≡ some v → v.stage ≡ Holding a old → w.stage ≡ Idle
      → Line ((a + 1) % 2 ^ 64) b (set views id w)
  line_serves a b views id v w old l at holds idle = let n : ℕ = total tickets_of views in let m : ℕ = total tickets_of (set views id w) in let z : tickets_of w ≡ 0 = ap outstanding idle in let o : tickets_of v ≡ 1 = ap outstanding holds in
      let less : m + 1 ≡ n = let h = total-set tickets_of views id v w at in omega arith in
      let mine : HasTicket a v.stage = subst (HasTicket a) (sym holds) refl in record {
        next_is = l.next_is ∙ moved a n m (sym less);
        low = mod-lt (a + 1) (omega arith);
        within = λ j u t e has. ⊎_elim
            (λ (x : (j ≡ id) × (w ≡ u)). absurd (none_left w u t idle x.1 has))
            (λ (x : (j ≢ id) × (get_elem? views j ≡ some u)). let k = l.within j u t x.1 has in let lo = k.1 in dite (ℕ_discrete k.0 0)
            (λ zero_k. let ta : t ≡ a = at_zero a k.0 t l.low zero_k k.2 in absurd (x.0 (l.apart j id u v t x.1 at has (subst (λ (y : ℕ). HasTicket y v.stage) (sym ta) mine))))
            (λ more. (k.0 - 1, omega arith, k.2 ∙ moved a k.0 (k.0 - 1) (omega arith))))
            (at_set views id j w u e);
        apart = λ i j u u' t e e' has has'. ⊎_elim
            (λ (x : (i ≡ id) × (w ≡ u)). absurd (none_left w u t idle x.1 has))
            (λ (x : (i ≢ id) × (get_elem? views i ≡ some u)). ⊎_elim
            (λ (y : (j ≡ id) × (w ≡ u')). absurd (none_left w u' t idle y.1 has'))
            (λ (y : (j ≢ id) × (get_elem? views j ≡ some u')). l.apart i j u u' t x.1 y.1 has has')
            (at_set views id j w u' e'))
            (at_set views id i w u e);
      }

  -- a further seat, with no ticket
  pub line_snoc : (a b : ℕ) (views : List (View N E)) (w : View N E) → Line a b views → w.stage ≡ Idle → Line a b (views ++ w ∷ [])
  line_snoc a b views w l idle = let z : tickets_of w ≡ 0 = ap outstanding idle in let n : total tickets_of (views ++ w ∷ []) ≡ total tickets_of views = let h = total-snoc tickets_of views w in omega arith in record {
    next_is = l.next_is ∙ ap (λ (x : ℕ). (a + x) % 2 ^ 64) (sym n);
    low = l.low;
    within = λ j u t e has. let k = l.within j u t (was j u t e has) has in let lo = k.1 in (k.0, omega arith, k.2);
    apart = λ i j u u' t e e' has has'. l.apart i j u u' t (was i u t e has) (was j u' t e' has') has has';
  }
    where
      was : (j : ℕ) (u : View N E) (t : ℕ) → get_elem? (views ++ w ∷ []) j ≡ some u → HasTicket t u.stage → get_elem? views j ≡ some u
      was j u t e has = ⊎_elim (λ (x : get_elem? views j ≡ some u). x) (λ (x : w ≡ u). absurd (subst (HasTicket t) (ap (λ (q : View N E). q.stage) (sym x) ∙ idle) has)) (at_snoc views w u j e)

  -- a lock's first seat has no ticket
  pub line_opens : (v : View N E) → v.stage ≡ Idle → Line 0 0 (v ∷ [])
  line_opens v idle = let z : tickets_of v ≡ 0 = ap outstanding idle in record {
    next_is = let n : 0 + total tickets_of (v ∷ []) ≡ 0 = omega arith in ap (λ (x : ℕ). x % 2 ^ 64) (sym n);
    low = omega arith;
    within = λ j u t e has. absurd (none j u t e has);
    apart = λ i j u u' t e e' has has'. absurd (none i u t e has);
  }
    where
      none : (j : ℕ) (u : View N E) (t : ℕ) → get_elem? (v ∷ []) j ≡ some u → HasTicket t u.stage → ⊥
      none zero u t e has = none_left v u t idle (some-injective _ _ e) has
      none (suc j) u t e has = some-ne-none u (sym e)
