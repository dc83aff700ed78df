-- Records come to stand at their places, round by round.
use Rattle.std.proofs.Common.{◌≡◌, ◌≢◌, ◌∙◌, sym, ap, subst, refl, ℕ, zero, suc, ◌+◌, ◌<◌, ◌≤◌, ◌⊎◌, inl, inr, List, [], ◌∷◌, ◌++◌, length, Option, None, Some, Ok, Result, arith, get_or, take}
use Rattle.std.specs.Prelude.{codes, Contains, IsSome}
use Rattle.std.specs.Option.{is_some}
use Rattle.std.proofs.lemmas.Bool.{cases_eq, false≢true}
use Rattle.std.proofs.lemmas.List.{take_all, take_more}
use Rattle.std.proofs.lemmas.List.Elements.{Contains-append_left, Contains-push}
use Rattle.tree_model.specs.declared.entry.Entry.{Entry}
use Rattle.tree_model.specs.declared.hash.Hash.{Hash}
use Rattle.tree_model.specs.Hash.{hash_text}
use Rattle.tree_model.specs.Path.{inside}
use Rattle.outside_traits.specs.declared.fault.DiskFault.{DiskFault}
use Rattle.outside_traits.specs.Answers.{IsSettled}
use Rattle.outside_traits.specs.Passes.{Passes}
use Rattle.outside_traits.specs.Store.{ChangesAt, Moves, Store}
use Rattle.outside_traits.specs.Story.{Story}
use Rattle.outside_traits.proofs.Folders.{under_same}
use Rattle.outside_traits.proofs.Puts.{path_cases}
use Rattle.outside_traits.proofs.Runs.{passes_then}
use Rattle.store_model.specs.Paths.{record_path}
use Rattle.store_model.specs.Publication.{record_file}
use Rattle.store_opening.specs.Paths.{staged_record_path}
use Rattle.store_opening.proofs.Areas.{differ, heads_differ}
use Rattle.record_move.specs.declared.records.AddedRecord.{AddedRecord}
use Rattle.store_upgrade.specs.Steps.{AreInRounds, ArePut, AreStaged, IsNone, IsNoneOf, IsPutOrNot, NamesDiffer, PutsOfRound, PutsRound, PutsRounds, RoundIsPut, StagesRecords}
use Rattle.store_upgrade.proofs.Called.{IsDurable, settled_by}
use Rattle.store_upgrade.proofs.Keyed.{among_all, front_among, last_of, none_first}

-- ---- paths

pub apart_paths : (a b : Hash) → staged_record_path a ≢ record_path b
apart_paths a b e = heads_differ (differ 116 114 refl) e

same_staged : (a b : Hash) → staged_record_path a ≡ staged_record_path b → hash_text a ≡ hash_text b
same_staged a b e = under_same (codes "rec2") (hash_text a) (hash_text b) (under_same (codes "tmp") (inside (codes "rec2") (hash_text a)) (inside (codes "rec2") (hash_text b)) e)

same_place : (a b : Hash) → record_path a ≡ record_path b → hash_text a ≡ hash_text b
same_place a b e = under_same (codes "rec2") (hash_text a) (hash_text b) e

staged_of : (a b : Hash) → hash_text a ≡ hash_text b → staged_record_path a ≡ staged_record_path b
staged_of a b e = ap (λ (t : List ℕ). inside (codes "tmp") (inside (codes "rec2") t)) e

-- ---- records are written first

pub stages_one : (added : List AddedRecord) (one : AddedRecord) (a b c : Story) → Contains added one → Passes a b (StagesRecords added) → Passes b c (ChangesAt (staged_record_path one.name)) → Passes a c (StagesRecords added)
stages_one added one a b c among run at = passes_then (StagesRecords added) run at (λ i j s. s) (λ i j k s change. record { others = λ q none. change.others q (none one among) ∙ s.others q none })

pub stages_none : (added : List AddedRecord) (i : Store) → StagesRecords added i i
stages_none added i = record { others = λ q none. refl }

pub staged_more : (added : List AddedRecord) (n : ℕ) (a : AddedRecord) (held now : Store) → n < length added → a ≡ get_or added n a → NamesDiffer added → AreStaged (take n added) held → ChangesAt (staged_record_path a.name) held now → now (staged_record_path a.name) ≡ Some (record_file a.stored) → AreStaged (take (n + 1) added) now
staged_more added n a held now lt is differ was changes here b has = by (last_of added n a b lt is has)
  where
    by : Contains (take n added) b ⊎ (a ≡ b) → now (staged_record_path b.name) ≡ Some (record_file b.stored)
    by (inr same) = subst (λ (x : AddedRecord). now (staged_record_path x.name) ≡ Some (record_file x.stored)) same here
    by (inl earlier) = at (path_cases (staged_record_path b.name) (staged_record_path a.name))
      where
        at : (staged_record_path b.name ≡ staged_record_path a.name) ⊎ (staged_record_path b.name ≢ staged_record_path a.name) → now (staged_record_path b.name) ≡ Some (record_file b.stored)
        at (inr other) = changes.others (staged_record_path b.name) other ∙ was b earlier
        at (inl same) =
            let one : b ≡ a = differ b a (front_among added n b earlier) (among_all added n a lt is) (same_staged b.name a.name same) in
            subst (λ (x : AddedRecord). now (staged_record_path x.name) ≡ Some (record_file x.stored)) (sym one) here

pub staged_all : (added : List AddedRecord) (n : ℕ) (held : Store) → length added ≤ n → AreStaged (take n added) held → AreStaged added held
staged_all added n held past was = subst (λ (l : List AddedRecord). AreStaged l held) (take_all n added past) was

pub staged_none : (added : List AddedRecord) (held : Store) → AreStaged (take 0 added) held
staged_none added held a has = absurd (none_first added a has)

-- ---- one round

-- those of the round among these were renamed away
abbrev pub AreGone : List AddedRecord → ℕ → Store → Type 0
AreGone added round held = (a : AddedRecord) → Contains added a → a.round ≡ round → held (staged_record_path a.name) ≡ None

none_some : (o : Option Entry) → o ≡ None → IsSome o → ⊥
none_some o none some = false≢true (sym (ap is_some none) ∙ some)

some_of : (o : Option Entry) → IsSome o → (e : Entry) × (o ≡ Some e)
some_of None some = absurd (false≢true some)
some_of (Some e) some = (e, refl)

-- what is still held where it was written first is none of those that were gone through
not_of : (added : List AddedRecord) (round : ℕ) (held : Store) (name : Hash) → AreGone added round held → IsSome (held (staged_record_path name)) → IsNoneOf added round (staged_record_path name)
not_of added round held name gone some a has own = (apart_paths name a.name, λ same. none_some (held (staged_record_path name)) (ap held same ∙ gone a has own) some)

pub round_settled : (added : List AddedRecord) (round : ℕ) (a b : Story) (name : Hash) → IsDurable a → Passes a b (PutsRound added round a.held) → AreGone added round b.held → IsSome (b.held (staged_record_path name)) → IsSettled (staged_record_path name) b
round_settled added round a b name durable run gone some = settled_by a b (PutsRound added round a.held) (staged_record_path name) durable run (λ i j puts. puts.others (staged_record_path name) (not_of added round b.held name gone some)) some

-- whether one of these of a round has this place
place_or : (xs : List AddedRecord) (round : ℕ) (q : List ℕ) → ((y : AddedRecord) × Contains xs y × (y.round ≡ round) × (record_path y.name ≡ q)) ⊎ ((y : AddedRecord) → Contains xs y → y.round ≡ round → q ≢ record_path y.name)
place_or [] round q = inr (λ y has own e. let lt = has.1 in omega (arith, lt))
place_or (x ∷ xs) round q = by (place_or xs round q) (cases_eq x.round round) (path_cases (record_path x.name) q)
  where
    by : ((y : AddedRecord) × Contains xs y × (y.round ≡ round) × (record_path y.name ≡ q)) ⊎ ((y : AddedRecord) → Contains xs y → y.round ≡ round → q ≢ record_path y.name) → (x.round ≡ round) ⊎ (x.round ≢ round) → (record_path x.name ≡ q) ⊎ (record_path x.name ≢ q)
        → ((y : AddedRecord) × Contains (x ∷ xs) y × (y.round ≡ round) × (record_path y.name ≡ q)) ⊎ ((y : AddedRecord) → Contains (x ∷ xs) y → y.round ≡ round → q ≢ record_path y.name)
    by (inl w) eq path = inl (w.0, (suc w.1.0, (let lt = w.1.1 in omega (arith, lt)), w.1.2), w.2, w.3)
    by (inr none) (inl own) (inl same) = inl (x, (0, omega arith, refl), own, same)
    by (inr none) (inl own) (inr other) = inr rest
      where
        rest : (y : AddedRecord) → Contains (x ∷ xs) y → y.round ≡ round → q ≢ record_path y.name
        rest y (zero, lt, e) own' same' = other (ap (λ (z : AddedRecord). record_path z.name) e ∙ sym same')
        rest y (suc k, lt, e) own' same' = none y (k, omega (arith, lt), e) own' same'
    by (inr none) (inr ne) path = inr rest
      where
        rest : (y : AddedRecord) → Contains (x ∷ xs) y → y.round ≡ round → q ≢ record_path y.name
        rest y (zero, lt, e) own' same' = ne (ap (λ (z : AddedRecord). z.round) e ∙ own')
        rest y (suc k, lt, e) own' same' = none y (k, omega (arith, lt), e) own' same'

first_more : (added : List AddedRecord) (n : ℕ) (a x : AddedRecord) → n < length added → a ≡ get_or added n a → Contains (take n added) x → Contains (take (n + 1) added) x
first_more added n a x lt is has = subst (λ (l : List AddedRecord). Contains l x) (sym (take_more added n a lt ∙ ap (λ (y : AddedRecord). take n added ++ y ∷ []) (sym is))) (Contains-append_left (take n added) (a ∷ []) x has)

last_more : (added : List AddedRecord) (n : ℕ) (a : AddedRecord) → n < length added → a ≡ get_or added n a → Contains (take (n + 1) added) a
last_more added n a lt is = subst (λ (l : List AddedRecord). Contains l a) (sym (take_more added n a lt ∙ ap (λ (y : AddedRecord). take n added ++ y ∷ []) (sym is))) (Contains-push (take n added) a)

-- records of one text have one place
put_same : (x y : AddedRecord) (staged i j : Store) → hash_text x.name ≡ hash_text y.name → IsPutOrNot x staged i j → IsPutOrNot y staged i j
put_same x y staged i j text was =
    let place : record_path x.name ≡ record_path y.name = ap (λ (t : List ℕ). inside (codes "rec2") t) text in
    elim was [
      | inl still ↦ inl (ap j (sym place) ∙ still ∙ ap i place)
      | inr w ↦ inr (w.0, ap staged (staged_of y.name x.name (sym text)) ∙ w.1, ap j (sym place) ∙ w.2)
    ]

-- one record more
module _ (added : List AddedRecord) (n : ℕ) (one : AddedRecord) (round : ℕ) (staged : Store) (lt : n < length added) (is : one ≡ get_or added n one) where
  fewer : (q : List ℕ) → IsNoneOf (take (n + 1) added) round q → IsNoneOf (take n added) round q
  fewer q none x has = none x (first_more added n one x lt is has)

  -- the place of one more record, as the earlier ones leave it
  next_place : (i j : Store) → PutsRound (take n added) round staged i j → IsPutOrNot one staged i j
  next_place i j puts = by (place_or (take n added) round (record_path one.name))
    where
      by : ((y : AddedRecord) × Contains (take n added) y × (y.round ≡ round) × (record_path y.name ≡ record_path one.name)) ⊎ ((y : AddedRecord) → Contains (take n added) y → y.round ≡ round → record_path one.name ≢ record_path y.name) → IsPutOrNot one staged i j
      by (inl w) = put_same w.0 one staged i j (same_place w.0.name one.name w.3) (puts.put w.0 w.1 w.2)
      by (inr none) = inl (puts.others (record_path one.name) (λ y has own. (none y has own, λ e. apart_paths y.name one.name (sym e))))

  early : (i j : Store) → PutsRound (take n added) round staged i j → PutsRound (take (n + 1) added) round staged i j
  early i j puts = record {
    others = λ q none. puts.others q (fewer q none);
    put = λ x has own. elim (last_of added n one x lt is has) [
      | inl earlier ↦ puts.put x earlier own
      | inr e ↦ subst (λ (y : AddedRecord). IsPutOrNot y staged i j) e (next_place i j puts)
    ];
  }

  -- its record moved
  moved_run : one.round ≡ round → (e : Entry) → staged (staged_record_path one.name) ≡ Some e → (i j k : Store) → PutsRound (take n added) round staged i j → Moves (staged_record_path one.name) (record_path one.name) (Some e) j k → PutsRound (take (n + 1) added) round staged i k
  moved_run own e there i j k puts moves = record {
    others = λ q none. let apart = none one (last_more added n one lt is) own in moves.others q apart.1 apart.0 ∙ puts.others q (fewer q none);
    put = λ x has x_own. by x ((early i j puts).put x has x_own) (path_cases (record_path x.name) (record_path one.name)) moves.target;
  }
    where
      shift : (x : AddedRecord) → k (record_path x.name) ≡ j (record_path x.name) → IsPutOrNot x staged i j → IsPutOrNot x staged i k
      shift x same was = elim was [
        | inl still ↦ inl (same ∙ still)
        | inr w ↦ inr (w.0, w.1, same ∙ w.2)
      ]

      by : (x : AddedRecord) → IsPutOrNot x staged i j → (record_path x.name ≡ record_path one.name) ⊎ (record_path x.name ≢ record_path one.name) → (k (record_path one.name) ≡ j (record_path one.name)) ⊎ (k (record_path one.name) ≡ Some e) → IsPutOrNot x staged i k
      by x was (inr other) target = shift x (moves.others (record_path x.name) (λ f. apart_paths one.name x.name (sym f)) other) was
      by x was (inl same) (inl now) = shift x (ap k same ∙ now ∙ ap j (sym same)) was
      by x was (inl same) (inr now) = inr (e, ap staged (staged_of x.name one.name (same_place x.name one.name same)) ∙ there, ap k same ∙ now)

  -- what the call did to the run
  pub round_run : (a b c : Story) (r : Result (Unit {0}) DiskFault) → staged ≡ a.held → Passes a b (PutsRound (take n added) round staged) → AreGone (take n added) round b.held → PutsOfRound one round b c r → Passes a c (PutsRound (take (n + 1) added) round staged)
  round_run a b c r from run gone (inr (other, same)) = passes_then (PutsRound (take (n + 1) added) round staged) run same early (λ i j k puts e. subst (PutsRound (take (n + 1) added) round staged i) (sym e) (early i j puts))
  round_run a b c r from run gone (inl (own, puts)) = by (b.held (staged_record_path one.name)) refl
    where
      by : (o : Option Entry) → b.held (staged_record_path one.name) ≡ o → Passes a c (PutsRound (take (n + 1) added) round staged)
      by None none = passes_then (PutsRound (take (n + 1) added) round staged) run (puts.same none) early (λ i j k p e. subst (PutsRound (take (n + 1) added) round staged i) (sym e) (early i j p))
      by (Some e) some =
          let still : staged (staged_record_path one.name) ≡ Some e = ap (λ (h : Store). h (staged_record_path one.name)) from ∙ sym (run.held.others (staged_record_path one.name) (not_of (take n added) round b.held one.name gone (subst IsSome (sym some) refl))) ∙ some in
          passes_then (PutsRound (take (n + 1) added) round staged) run (subst (λ (x : Option Entry). Passes b c (Moves (staged_record_path one.name) (record_path one.name) x)) some puts.moves) early (moved_run own e still)

  -- ... and to what is held
  pub gone_more : (b c : Story) (v : Unit {0}) → AreGone (take n added) round b.held → PutsOfRound one round b c (Ok v) → AreGone (take (n + 1) added) round c.held
  gone_more b c v gone (inr (other, same)) x has own = elim (last_of added n one x lt is has) [
    | inl earlier ↦ ap (λ (h : Store). h (staged_record_path x.name)) same.held ∙ gone x earlier own
    | inr e ↦ absurd (other (ap (λ (y : AddedRecord). y.round) e ∙ own))
  ]
  gone_more b c v gone (inl (mine, puts)) x has own = by (last_of added n one x lt is has) (path_cases (staged_record_path x.name) (staged_record_path one.name))
    where
      by : Contains (take n added) x ⊎ (one ≡ x) → (staged_record_path x.name ≡ staged_record_path one.name) ⊎ (staged_record_path x.name ≢ staged_record_path one.name) → c.held (staged_record_path x.name) ≡ None
      by which (inl same) = ap c.held same ∙ puts.gone
      by (inl earlier) (inr other) = puts.moves.held.others (staged_record_path x.name) other (apart_paths x.name one.name) ∙ gone x earlier own
      by (inr e) (inr other) = absurd (other (ap (λ (y : AddedRecord). staged_record_path y.name) (sym e)))

  pub put_more : (b c : Story) (v : Unit {0}) → PutsRound (take n added) round staged staged b.held → AreGone (take n added) round b.held → RoundIsPut (take n added) round staged b.held → PutsOfRound one round b c (Ok v) → RoundIsPut (take (n + 1) added) round staged c.held
  put_more b c v run gone was (inr (other, same)) x e has own there = elim (last_of added n one x lt is has) [
    | inl earlier ↦ ap (λ (h : Store). h (record_path x.name)) same.held ∙ was x e earlier own there
    | inr f ↦ absurd (other (ap (λ (y : AddedRecord). y.round) f ∙ own))
  ]
  put_more b c v run gone was (inl (mine, puts)) x e has own there = by (b.held (staged_record_path one.name)) refl (last_of added n one x lt is has)
    where
      by : (o : Option Entry) → b.held (staged_record_path one.name) ≡ o → Contains (take n added) x ⊎ (one ≡ x) → c.held (record_path x.name) ≡ Some e
      by o some (inl earlier) = at o some (path_cases (record_path x.name) (record_path one.name))
        where
          at : (o : Option Entry) → b.held (staged_record_path one.name) ≡ o → (record_path x.name ≡ record_path one.name) ⊎ (record_path x.name ≢ record_path one.name) → c.held (record_path x.name) ≡ Some e
          at o some (inr other) = puts.moves.held.others (record_path x.name) (λ f. apart_paths one.name x.name (sym f)) other ∙ was x e earlier own there
          at o some (inl same) =
              let none : b.held (staged_record_path one.name) ≡ None = ap b.held (staged_of one.name x.name (sym (same_place x.name one.name same))) ∙ gone x earlier own in
              ap (λ (h : Store). h (record_path x.name)) (puts.same none).held ∙ was x e earlier own there
      by (Some f) some (inr same) =
          let kept : b.held (staged_record_path one.name) ≡ staged (staged_record_path one.name) = run.others (staged_record_path one.name) (not_of (take n added) round b.held one.name gone (subst IsSome (sym some) refl)) in
          let mine' : b.held (staged_record_path one.name) ≡ Some e = kept ∙ ap (λ (y : AddedRecord). staged (staged_record_path y.name)) same ∙ there in
          ap (λ (y : AddedRecord). c.held (record_path y.name)) (sym same) ∙ puts.put e mine'
      by None none (inr same) = at (place_or (take n added) round (record_path one.name))
        where
          there_one : staged (staged_record_path one.name) ≡ Some e
          there_one = ap (λ (y : AddedRecord). staged (staged_record_path y.name)) same ∙ there

          at : ((y : AddedRecord) × Contains (take n added) y × (y.round ≡ round) × (record_path y.name ≡ record_path one.name)) ⊎ ((y : AddedRecord) → Contains (take n added) y → y.round ≡ round → record_path one.name ≢ record_path y.name) → c.held (record_path x.name) ≡ Some e
          at (inl w) =
              let text : hash_text w.0.name ≡ hash_text one.name = same_place w.0.name one.name w.3 in
              ap (λ (y : AddedRecord). c.held (record_path y.name)) (sym same) ∙ ap (λ (h : Store). h (record_path one.name)) (puts.same none).held ∙ ap b.held (sym w.3)
              ∙ was w.0 e w.1 w.2 (ap staged (staged_of w.0.name one.name text) ∙ there_one)
          at (inr never) =
              let kept : b.held (staged_record_path one.name) ≡ staged (staged_record_path one.name) = run.others (staged_record_path one.name) (λ y has' own'. (apart_paths one.name y.name, λ f. never y has' own' (ap (λ (t : List ℕ). inside (codes "rec2") t) (same_staged one.name y.name f)))) in
              absurd (none_some (b.held (staged_record_path one.name)) none (subst IsSome (sym (kept ∙ there_one)) refl))

pub gone_none : (added : List AddedRecord) (round : ℕ) (held : Store) → AreGone (take 0 added) round held
gone_none added round held a has own = absurd (none_first added a has)

pub put_none : (added : List AddedRecord) (round : ℕ) (staged held : Store) → RoundIsPut (take 0 added) round staged held
put_none added round staged held a e has own there = absurd (none_first added a has)

pub round_none : (added : List AddedRecord) (round : ℕ) (staged i : Store) → PutsRound (take 0 added) round staged i i
round_none added round staged i = record { others = λ q none. refl; put = λ a has own. absurd (none_first added a has) }

-- all of them
pub round_all : (added : List AddedRecord) (n round : ℕ) (staged : Store) (a b : Story) → length added ≤ n → Passes a b (PutsRound (take n added) round staged) → Passes a b (PutsRound added round staged)
round_all added n round staged a b past run = subst (λ (l : List AddedRecord). Passes a b (PutsRound l round staged)) (take_all n added past) run

pub put_all : (added : List AddedRecord) (n round : ℕ) (staged held : Store) → length added ≤ n → RoundIsPut (take n added) round staged held → RoundIsPut added round staged held
put_all added n round staged held past was = subst (λ (l : List AddedRecord). RoundIsPut l round staged held) (take_all n added past) was

-- the first ones of a round are some of it
pub round_first : (added : List AddedRecord) (n round : ℕ) (staged i j : Store) → PutsRound (take n added) round staged i j → PutsRound added round staged i j
round_first added n round staged i j puts = record {
  others = λ q none. puts.others q (λ a has own. none a (front_among added n a has) own);
  put = λ a has own. by a (place_or (take n added) round (record_path a.name));
}
  where
    by : (a : AddedRecord) → ((y : AddedRecord) × Contains (take n added) y × (y.round ≡ round) × (record_path y.name ≡ record_path a.name)) ⊎ ((y : AddedRecord) → Contains (take n added) y → y.round ≡ round → record_path a.name ≢ record_path y.name) → IsPutOrNot a staged i j
    by a (inl w) = put_same w.0 a staged i j (same_place w.0.name a.name w.3) (puts.put w.0 w.1 w.2)
    by a (inr none) = inl (puts.others (record_path a.name) (λ y has own. (none y has own, λ e. apart_paths y.name a.name (sym e))))

-- ---- all rounds

-- Records with names of their own of rounds before one stand; those of it and of later ones are where they were.
pub record IsUpTo (added : List AddedRecord) (round : ℕ) (held now : Store) : Type 0 where
  pub earlier : (a : AddedRecord) (e : Entry) → Contains added a → a.round < round → held (staged_record_path a.name) ≡ Some e → now (record_path a.name) ≡ Some e
  pub later : (a : AddedRecord) → Contains added a → round ≤ a.round → now (record_path a.name) ≡ held (record_path a.name)
  pub staged : (a : AddedRecord) → Contains added a → round ≤ a.round → now (staged_record_path a.name) ≡ held (staged_record_path a.name)

pub up_to_none : (added : List AddedRecord) (held : Store) → IsUpTo added 0 held held
up_to_none added held = record { earlier = λ a e has lt there. absurd (omega (arith, lt)); later = λ a has le. refl; staged = λ a has le. refl }

module _ (added : List AddedRecord) (round : ℕ) (held now : Store) (differ : NamesDiffer added) (up : IsUpTo added round held now) where
  -- the place of a record of another round
  other_round : (a : AddedRecord) → Contains added a → a.round ≢ round → IsNoneOf added round (record_path a.name)
  other_round a has ne y in_it own = ((λ e. ne (ap (λ (x : AddedRecord). x.round) (differ a y has in_it (same_place a.name y.name e)) ∙ own)), λ e. apart_paths y.name a.name (sym e))

  other_staged : (a : AddedRecord) → Contains added a → a.round ≢ round → IsNoneOf added round (staged_record_path a.name)
  other_staged a has ne y in_it own = (apart_paths a.name y.name, λ e. ne (ap (λ (x : AddedRecord). x.round) (differ a y has in_it (same_staged a.name y.name e)) ∙ own))

  -- while the round is put
  pub in_round : (image : Store) → PutsRound added round now now image → AreInRounds added held image
  in_round image puts = record {
    round = round;
    earlier = λ a e has lt there. puts.others (record_path a.name) (other_round a has (λ e'. omega (arith, lt, e'))) ∙ up.earlier a e has lt there;
    now = λ a has own. elim (puts.put a has own) [
      | inl still ↦ inl (still ∙ up.later a has (omega (arith, own)))
      | inr w ↦ inr (w.0, sym (up.staged a has (omega (arith, own))) ∙ w.1, w.2)
    ];
    later = λ a has lt. puts.others (record_path a.name) (other_round a has (λ e. omega (arith, lt, e))) ∙ up.later a has (omega (arith, lt));
  }

  -- when it is
  pub up_to_more : (next : Store) → PutsRound added round now now next → RoundIsPut added round now next → IsUpTo added (round + 1) held next
  up_to_more next puts put = record {
    earlier = λ a e has lt there. by a e has lt there (cases_eq a.round round);
    later = λ a has le. puts.others (record_path a.name) (other_round a has (λ e. omega (arith, le, e))) ∙ up.later a has (omega (arith, le));
    staged = λ a has le. puts.others (staged_record_path a.name) (other_staged a has (λ e. omega (arith, le, e))) ∙ up.staged a has (omega (arith, le));
  }
    where
      by : (a : AddedRecord) (e : Entry) → Contains added a → a.round < round + 1 → held (staged_record_path a.name) ≡ Some e → (a.round ≡ round) ⊎ (a.round ≢ round) → next (record_path a.name) ≡ Some e
      by a e has lt there (inl own) = put a e has own (up.staged a has (omega (arith, own)) ∙ there)
      by a e has lt there (inr ne) = puts.others (record_path a.name) (other_round a has ne) ∙ up.earlier a e has (omega (arith, lt, ne)) there

none_of : (added : List AddedRecord) (round : ℕ) (q : List ℕ) → IsNone added q → IsNoneOf added round q
none_of added round q none a has own = none a has

pub puts_now : (added : List AddedRecord) (round : ℕ) (held now image : Store) → ((q : List ℕ) → IsNone added q → now q ≡ held q) → (NamesDiffer added → IsUpTo added round held now) → PutsRound added round now now image → PutsRounds added held image
puts_now added round held now image others up puts = record {
  others = λ q none. puts.others q (none_of added round q none) ∙ others q none;
  rounds = λ differ. in_round added round held now differ (up differ) image puts;
}

pub puts_start : (added : List AddedRecord) (held : Store) → PutsRounds added held held
puts_start added held = record {
  others = λ q none. refl;
  rounds = λ differ. record { round = 0; earlier = λ a e has lt there. absurd (omega (arith, lt)); now = λ a has own. inl refl; later = λ a has lt. refl };
}

pub put_by_last : (added : List AddedRecord) (last round : ℕ) (held now : Store) → ((a : AddedRecord) → Contains added a → a.round ≤ last) → last < round → IsUpTo added round held now → AreStaged added held → ArePut added now
put_by_last added last round held now most lt up staged a has = up.earlier a (record_file a.stored) has (let le = most a has in omega (arith, le, lt)) (staged a has)

pub round_others : (added : List AddedRecord) (round : ℕ) (now next : Store) (q : List ℕ) → IsNone added q → PutsRound added round now now next → next q ≡ now q
round_others added round now next q none puts = puts.others q (none_of added round q none)
