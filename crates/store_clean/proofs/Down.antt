-- Records that go round by round.
use Rattle.std.proofs.Common.{◌≡◌, ◌≢◌, ◌∙◌, sym, ap, subst, refl, arith, ℕ, zero, suc, ◌+◌, ◌-◌, ◌<◌, ◌≤◌, ◌⊎◌, inl, inr, List, [], ◌∷◌, ◌++◌, length, get_or, take, None, Some, slice_get}
use Rattle.std.specs.Prelude.{Contains}
use Rattle.std.specs.List.{AllByRecursion}
use Rattle.std.proofs.lemmas.Bool.{cases_lt}
use Rattle.std.proofs.lemmas.List.{take_all}
use Rattle.std.proofs.lemmas.List.Elements.{Contains-append_left, Contains-push, Contains-push_cases}
use Rattle.store_model.specs.Paths.{record_path}
use Rattle.outside_traits.specs.Store.{Store}
use Rattle.tree_model.specs.Path.{IsBelow, inside}
use Rattle.store_opening.proofs.Areas.{differ, heads_differ}
use Rattle.store_clean.specs.declared.nodes.Node.{Node}
use Rattle.store_clean.specs.Cleared.{gone_path}
use Rattle.store_clean.specs.Steps.{AreInRounds, IsRecordOf, TakesAway, round_at}
use Rattle.store_clean.proofs.Lists.{nothing, past_end, some_one, taken_first, taken_last, taken_none, taken_or}

-- what is held where the rounds from one on went
pub record IsDownTo (nodes : List Node) (rounds : List (List ℕ)) (next : ℕ) (held now : Store) : Type 0 where
  pub gone : (k : ℕ) (q : List ℕ) → next ≤ k → IsRecordOf nodes (round_at rounds k) q → now q ≡ None
  pub taken : (q : List ℕ) → q ≢ gone_path → (now q ≡ held q) ⊎ ((k : ℕ) × (next ≤ k) × IsRecordOf nodes (round_at rounds k) q × (now q ≡ None))

pub record_apart : (nodes : List Node) (places : List ℕ) (q : List ℕ) → IsRecordOf nodes places q → q ≢ gone_path
record_apart nodes places q r e = heads_differ (differ 114 116 refl) (sym r.is ∙ e)

pub down_first : (nodes : List Node) (rounds : List (List ℕ)) (held now : Store) → now ≡ held → IsDownTo nodes rounds (length rounds) held now
down_first nodes rounds held now same = record {
  gone = λ k q past r. absurd (let lt = past_end rounds k r.place r.among in omega (arith, lt, past));
  taken = λ q ne. inl (ap (λ (h : Store). h q) same);
}

module _ (nodes : List Node) (rounds : List (List ℕ)) (next : ℕ) (held now image : Store) (down : IsDownTo nodes rounds (suc next) held now) (takes : TakesAway (IsRecordOf nodes (round_at rounds next)) now image) where
  -- what stands while the next round goes
  pub in_rounds : AreInRounds nodes rounds held image
  in_rounds = record {
    round = next;
    above = λ k q lt r. elim (takes.taken q (record_apart nodes (round_at rounds k) q r)) [
      | inl same ↦ same ∙ down.gone k q (omega (arith, lt)) r
      | inr w ↦ w.1
    ];
    taken = λ q ne. elim (takes.taken q ne) [
      | inr w ↦ inr (next, omega arith, w.0, w.1)
      | inl same ↦ elim (down.taken q ne) [
        | inl still ↦ inl (same ∙ still)
        | inr w ↦ inr (w.0, (let le = w.1 in omega (arith, le)), w.2, same ∙ w.3)
      ]
    ];
  }

  -- ... and behind it
  pub down_next : ((q : List ℕ) → IsRecordOf nodes (round_at rounds next) q → image q ≡ None) → IsDownTo nodes rounds next held image
  unfolding in_rounds
  down_next gone = record {
    gone = λ k q le r. elim (cases_lt next k) [
      | inl less ↦ in_rounds.above k q less r
      | inr more ↦ let here : k ≡ next = omega (arith, le, more) in gone q (subst (λ (n : ℕ). IsRecordOf nodes (round_at rounds n) q) here r)
    ];
    taken = in_rounds.taken;
  }

-- before the first round
pub rounds_start : (nodes : List Node) (rounds : List (List ℕ)) (held : Store) → AreInRounds nodes rounds held held
rounds_start nodes rounds held = record {
  round = length rounds;
  above = λ k q past r. absurd (let lt = past_end rounds k r.place r.among in omega (arith, lt, past));
  taken = λ q ne. inl refl;
}

pub inside_long : (a c : List ℕ) → length (inside a c) ≡ length a + suc (length c)
inside_long [] c = omega arith
inside_long (x ∷ a) c = let n = inside_long a c in omega (arith, n)

-- paths above `tmp/gone` and below it are other paths
pub above_gone : (q : List ℕ) → IsBelow q gone_path → q ≢ gone_path
above_gone q b same =
    let n : length gone_path ≡ length q + suc (length b.0) = ap length b.1 ∙ inside_long q b.0 in
    let m : length q ≡ length gone_path = ap length same in
    omega (arith, n, m)

pub below_gone : (q : List ℕ) → IsBelow gone_path q → q ≢ gone_path
below_gone q b same =
    let n : length q ≡ length gone_path + suc (length b.0) = ap length b.1 ∙ inside_long gone_path b.0 in
    let m : length q ≡ length gone_path = ap length same in
    omega (arith, n, m)

-- ---- the paths of records

abbrev pub ArePathsTo : List Node → List ℕ → List (List ℕ) → Type 0
ArePathsTo nodes places paths = (q : List ℕ) → (Contains paths q → IsRecordOf nodes places q) × (IsRecordOf nodes places q → Contains paths q)

pub paths_first : (nodes : List Node) (places : List ℕ) (paths : List (List ℕ)) → paths ≡ [] → ArePathsTo nodes (take 0 places) paths
paths_first nodes places paths empty q = (λ has. absurd (nothing q (subst (λ l. Contains l q) empty has)), λ r. absurd (taken_none places r.place r.among))

pub paths_next : (nodes : List Node) (places : List ℕ) (i place : ℕ) (node : Node) (paths new : List (List ℕ)) → i < length places → place ≡ get_or places i place → slice_get nodes place ≡ Some node → ArePathsTo nodes (take i places) paths → new ≡ paths ++ record_path node.name ∷ [] → ArePathsTo nodes (take (i + 1) places) new
paths_next nodes places i place node paths new lt is at was grown q = (forth, back)
  where
    forth : Contains new q → IsRecordOf nodes (take (i + 1) places) q
    forth has = elim (Contains-push_cases paths (record_path node.name) q (subst (λ l. Contains l q) grown has)) [
      | inl earlier ↦ let r = (was q).0 earlier in record { place = r.place; among = taken_first places i place r.place lt is r.among; node = r.node; stands = r.stands; is = r.is }
      | inr same ↦ record { place = place; among = taken_last places i place lt is; node = node; stands = at; is = sym same }
    ]

    back : IsRecordOf nodes (take (i + 1) places) q → Contains new q
    back r = subst (λ l. Contains l q) (sym grown) (elim (taken_or places i place r.place lt is r.among) [
      | inl earlier ↦ Contains-append_left paths (record_path node.name ∷ []) q ((was q).1 (record { place = r.place; among = earlier; node = r.node; stands = r.stands; is = r.is }))
      | inr same ↦
          let one : node ≡ r.node = some_one (slice_get nodes place) node r.node at (ap (slice_get nodes) same ∙ r.stands) in
          subst (Contains (paths ++ record_path node.name ∷ [])) (ap (λ (n : Node). record_path n.name) one ∙ sym r.is) (Contains-push paths (record_path node.name))
    ])

pub paths_all : (nodes : List Node) (places : List ℕ) (i : ℕ) (paths : List (List ℕ)) → length places ≤ i → ArePathsTo nodes (take i places) paths → ArePathsTo nodes places paths
paths_all nodes places i paths past was = subst (λ l. ArePathsTo nodes l paths) (take_all i places past) was

-- the round below one
pub down_at : (nodes : List Node) (rounds : List (List ℕ)) (n : ℕ) (held now : Store) → 0 < n → IsDownTo nodes rounds n held now → IsDownTo nodes rounds (suc (n - 1)) held now
down_at nodes rounds n held now lt down = let e : n ≡ suc (n - 1) = omega (arith, lt) in subst (λ (m : ℕ). IsDownTo nodes rounds m held now) e down

-- what is said of each round is said of this one
pub round_each : (P : List ℕ → Type 0) (rounds : List (List ℕ)) (k : ℕ) → AllByRecursion P rounds → k < length rounds → P (round_at rounds k)
round_each P [] k all lt = absurd (omega (arith, lt))
round_each P (r ∷ rounds) zero all lt = all.0
round_each P (r ∷ rounds) (suc k) all lt = round_each P rounds k all.1 (omega (arith, lt))
