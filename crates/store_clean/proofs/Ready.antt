-- What a disk that was just opened gives a clearing.
use Rattle.std.proofs.Common.{◌≡◌, ◌∙◌, sym, ap, subst, refl, arith, ℕ, zero, suc, ◌<◌, ◌≤◌, ◌⊎◌, inl, inr, List, [], ◌∷◌, length, get_or, None, Some}
use Rattle.std.specs.Prelude.{codes, Contains, map, slice_get}
use Rattle.std.proofs.lemmas.Bool.{cases_lt}
use Rattle.std.proofs.lemmas.List.Elements.{Contains-push_cases}
use Rattle.std.proofs.lemmas.Option.{get_or_from_slice_get, slice_get_within}
use Rattle.tree_model.specs.declared.hash.Hash.{Hash}
use Rattle.tree_model.specs.Path.{IsBelow, inside}
use Rattle.outside_traits.specs.Store.{IsFree, Store}
use Rattle.store_model.specs.declared.candidate.Candidate.{Candidate}
use Rattle.store_model.specs.declared.signature.DepLine.{DepLine}
use Rattle.store_model.specs.declared.signature.EquivRow.{EquivRow}
use Rattle.store_model.specs.declared.signature.ShortStored.{ShortStored}
use Rattle.store_model.specs.Believed.{ComesBefore, IsBelievedWithin, IsShared, MayBeBelieved, StandsBefore}
use Rattle.store_model.specs.Opened.{IsOpened, IsRecordFile, row_of_candidate, rows_at}
use Rattle.store_model.specs.Readable.{IsRow}
use Rattle.store_opening.proofs.Areas.{differ, heads, heads_differ}
use Rattle.store_opening.proofs.Indexed.{names_differ}
use Rattle.store_opening.proofs.Opened.{has_way, laid_out_is, rows_held}
use Rattle.store_opening.proofs.Sorted.{each_at}
use Rattle.store_keep.specs.Keep.{Names}
use Rattle.store_clean.specs.declared.deciding.Chosen.{Chosen}
use Rattle.store_clean.specs.declared.nodes.Node.{Node}
use Rattle.store_clean.specs.Naming.{RowNames, names_in, names_of}
use Rattle.store_clean.specs.Cleared.{gone_path}
use Rattle.store_clean.specs.Steps.{AreNodesBy, IsChosen, IsNode, IsReady, IsTitled}
use Rattle.store_clean.proofs.Down.{inside_long}
use Rattle.store_clean.proofs.Chosen.{edges_are, marks_closed}
use Rattle.store_clean.proofs.Known.{one_known}
use Rattle.store_clean.proofs.Lists.{place_of, some_one}
use Rattle.store_clean.proofs.Placed.{place_is}

tails : {c d : ℕ} {ps qs : List ℕ} → (c ∷ ps) ≡ (d ∷ qs) → ps ≡ qs
tails e = cc

-- a row stands where its candidate's place does
pub record RowPlace (candidates : List Candidate) (places : List ℕ) (k : ℕ) (row : EquivRow) : Type 0 where
  pub place : ℕ
  pub candidate : Candidate
  pub listed : slice_get places k ≡ Some place
  pub stands : slice_get candidates place ≡ Some candidate
  pub is : row ≡ row_of_candidate candidate

abbrev Valid : List Candidate → List ℕ → Type 0
Valid candidates places = (k p : ℕ) → slice_get places k ≡ Some p → (c : Candidate) × (slice_get candidates p ≡ Some c)

rows_cons : (candidates : List Candidate) (p : ℕ) (places : List ℕ) (c : Candidate) → slice_get candidates p ≡ Some c → rows_at candidates (p ∷ places) ≡ row_of_candidate c ∷ rows_at candidates places
rows_cons candidates p places c e = rw e refl

pub row_place : (candidates : List Candidate) (places : List ℕ) → Valid candidates places → (k : ℕ) (row : EquivRow) → slice_get (rows_at candidates places) k ≡ Some row → RowPlace candidates places k row
row_place candidates [] valid k row e = absurd (let none : None ≡ Some row = e in cc)
row_place candidates (p ∷ places) valid k row e = by (valid 0 p refl) (λ n r f. row_place candidates places (λ j q g. valid (suc j) q g) n r f) k e
  where
    by : (c : Candidate) × (slice_get candidates p ≡ Some c) → ((n : ℕ) (r : EquivRow) → slice_get (rows_at candidates places) n ≡ Some r → RowPlace candidates places n r) → (n : ℕ) → slice_get (rows_at candidates (p ∷ places)) n ≡ Some row → RowPlace candidates (p ∷ places) n row
    by c more n f = at n (subst (λ (l : List EquivRow). slice_get l n ≡ Some row) (rows_cons candidates p places c.0 c.1) f)
      where
        at : (m : ℕ) → slice_get (row_of_candidate c.0 ∷ rows_at candidates places) m ≡ Some row → RowPlace candidates (p ∷ places) m row
        at zero g = let same : row_of_candidate c.0 ≡ row = cc in record { place = p; candidate = c.0; listed = refl; stands = c.1; is = sym same }
        at (suc m) g = let r = more m row g in record { place = r.place; candidate = r.candidate; listed = r.listed; stands = r.stands; is = r.is }

-- ... and where a place is listed a row stands
pub place_row : (candidates : List Candidate) (places : List ℕ) → Valid candidates places → (k p : ℕ) (c : Candidate) → slice_get places k ≡ Some p → slice_get candidates p ≡ Some c → slice_get (rows_at candidates places) k ≡ Some (row_of_candidate c)
place_row candidates [] valid k p c e f = absurd (let none : None ≡ Some p = e in cc)
place_row candidates (q ∷ places) valid k p c e f = by (valid 0 q refl) (λ n x g. place_row candidates places (λ j r h. valid (suc j) r h) n p c g f) k e
  where
    by : (d : Candidate) × (slice_get candidates q ≡ Some d) → ((n : ℕ) (x : ℕ) → slice_get places n ≡ Some p → slice_get (rows_at candidates places) n ≡ Some (row_of_candidate c)) → (n : ℕ) → slice_get (q ∷ places) n ≡ Some p → slice_get (rows_at candidates (q ∷ places)) n ≡ Some (row_of_candidate c)
    by d more zero g =
        let same : q ≡ p = cc in
        let one : d.0 ≡ c = some_one (slice_get candidates p) d.0 c (ap (slice_get candidates) (sym same) ∙ d.1) f in
        ap (λ (l : List EquivRow). slice_get l 0) (rows_cons candidates q places d.0 d.1) ∙ ap (λ (x : Candidate). Some (row_of_candidate x)) one
    by d more (suc n) g = ap (λ (l : List EquivRow). slice_get l (suc n)) (rows_cons candidates q places d.0 d.1) ∙ more n 0 g

-- no place comes before itself
comes_not : (candidates : List Candidate) (p : ℕ) → ComesBefore candidates p p → ⊥
comes_not candidates p c = by c.before
  where
    one : c.at_p.candidate ≡ c.at_q.candidate
    one = some_one (slice_get candidates p) c.at_p.candidate c.at_q.candidate c.at_p.stands c.at_q.stands

    by : (c.depth_p < c.depth_q) ⊎ ((c.depth_p ≡ c.depth_q) × (p < p)) → ⊥
    by (inl lt) =
        let m = c.at_q.depth_is.first (suc c.depth_p) (subst (IsBelievedWithin candidates (suc c.depth_p)) one c.at_p.depth_is.within) in
        omega (arith, lt, m)
    by (inr w) = let lt = w.1 in omega (arith, lt)

-- what stands above `tmp/gone` is `tmp`
above_tmp : (q : List ℕ) → IsBelow q gone_path → (q ≡ codes "tmp") ⊎ ⊥
above_tmp [] b = inr (heads_differ (differ 116 47 refl) b.1)
above_tmp (a ∷ []) b = inr (let e = tails b.1 in heads_differ (differ 109 47 refl) e)
above_tmp (a ∷ (c ∷ [])) b = inr (let e = tails (tails b.1) in heads_differ (differ 112 47 refl) e)
above_tmp (a ∷ (c ∷ (d ∷ []))) b = inl (λ i. (sym (heads b.1) i) ∷ ((sym (heads (tails b.1)) i) ∷ ((sym (heads (tails (tails b.1))) i) ∷ [])))
above_tmp (a ∷ (c ∷ (d ∷ (f ∷ [])))) b = inr (let e = tails (tails (tails (tails b.1))) in heads_differ (differ 103 47 refl) e)
above_tmp (a ∷ (c ∷ (d ∷ (f ∷ (g ∷ []))))) b = inr (let e = tails (tails (tails (tails (tails b.1)))) in heads_differ (differ 111 47 refl) e)
above_tmp (a ∷ (c ∷ (d ∷ (f ∷ (g ∷ (h ∷ [])))))) b = inr (let e = tails (tails (tails (tails (tails (tails b.1))))) in heads_differ (differ 110 47 refl) e)
above_tmp (a ∷ (c ∷ (d ∷ (f ∷ (g ∷ (h ∷ (i ∷ []))))))) b = inr (let e = tails (tails (tails (tails (tails (tails (tails b.1)))))) in heads_differ (differ 101 47 refl) e)
above_tmp (a ∷ (c ∷ (d ∷ (f ∷ (g ∷ (h ∷ (i ∷ (j ∷ q)))))))) b = inr (let n : length gone_path ≡ length (inside (a ∷ (c ∷ (d ∷ (f ∷ (g ∷ (h ∷ (i ∷ (j ∷ q)))))))) b.0) = ap length b.1 in let m = inside_long (a ∷ (c ∷ (d ∷ (f ∷ (g ∷ (h ∷ (i ∷ (j ∷ q)))))))) b.0 in omega (arith, n, m))

module _ (before held : Store) (rows : List EquivRow) (o : IsOpened before held rows) where
  valid : Valid o.candidates o.places
  valid k p e = let w = o.believed.each k p e in (w.0, w.1)

  at_place : (v : ℕ) (row : EquivRow) → slice_get rows v ≡ Some row → RowPlace o.candidates o.places v row
  at_place v row e = row_place o.candidates o.places valid v row (ap (λ (l : List EquivRow). slice_get l v) (sym o.rows_are) ∙ e)

  -- candidates of one name are at one place
  one_name : (p q : ℕ) (c d : Candidate) → slice_get o.candidates p ≡ Some c → slice_get o.candidates q ≡ Some d → c.name ≡ d.name → p ≡ q
  one_name p q c d at_p at_q same = by (cases_lt p q) (cases_lt q p)
    where
      by : (p < q) ⊎ (q ≤ p) → (q < p) ⊎ (p ≤ q) → p ≡ q
      by (inl lt) other = absurd (names_differ o.candidates p q c d o.found.ascend lt at_p at_q same)
      by (inr le) (inl lt) = absurd (names_differ o.candidates q p d c o.found.ascend lt at_q at_p (sym same))
      by (inr le) (inr ge) = omega (arith, le, ge)

  -- a place is listed once
  one_index : (v w p : ℕ) → slice_get o.places v ≡ Some p → slice_get o.places w ≡ Some p → v ≡ w
  one_index v w p at_v at_w = by (cases_lt v w) (cases_lt w v)
    where
      twice : (i j : ℕ) → i < j → slice_get o.places i ≡ Some p → slice_get o.places j ≡ Some p → ⊥
      twice i j lt at_i at_j =
          let comes = o.believed.order i j p lt (slice_get_within o.places j p at_j) in
          comes_not o.candidates p (subst (λ (y : ℕ). ComesBefore o.candidates p y) (get_or_from_slice_get o.places j p p at_j) (subst (λ (x : ℕ). ComesBefore o.candidates x (get_or o.places j p)) (get_or_from_slice_get o.places i p p at_i) comes))

      by : (v < w) ⊎ (w ≤ v) → (w < v) ⊎ (v ≤ w) → v ≡ w
      by (inl lt) other = absurd (twice v w lt at_v at_w)
      by (inr le) (inl lt) = absurd (twice w v lt at_w at_v)
      by (inr le) (inr ge) = omega (arith, le, ge)

  pub rows_differ : (v w : ℕ) (row other : EquivRow) → slice_get rows v ≡ Some row → slice_get rows w ≡ Some other → row.name ≡ other.name → v ≡ w
  rows_differ v w row other at_v at_w same =
      let a = at_place v row at_v in
      let b = at_place w other at_w in
      let names : a.candidate.name ≡ b.candidate.name = sym (ap (λ (r : EquivRow). r.name) a.is) ∙ same ∙ ap (λ (r : EquivRow). r.name) b.is in
      let p = one_name a.place b.place a.candidate b.candidate a.stands b.stands names in
      one_index v w a.place a.listed (b.listed ∙ ap (λ n. Some n) (sym p))

  -- what a record names stands before it
  known_of : (p : ℕ) (c : Candidate) → slice_get o.candidates p ≡ Some c → (known : IsRow (row_of_candidate c)) × (known.stored ≡ c.stored)
  known_of p c e =
      let f = each_at (IsRecordFile before) o.candidates p c o.found.each e in (
        record {
          stored = c.stored;
          key = f.key;
          is = λ i. record { name = f.name i; pn = c.stored.sig.pn; task = c.stored.sig.task; sig = f.text i; manifest = c.stored.manifest; unihash = c.stored.unihash };
          spelled = f.spelled;
          short = f.short;
          digest = f.key_held.digest;
        },
        refl,
      )

  -- the row at an earlier index has the name
  earlier_row : (v w : ℕ) (other : EquivRow) (d : Candidate) → slice_get rows w ≡ Some other → StandsBefore o.candidates o.places v d → d.name ≡ other.name → w < v
  earlier_row v w other d at_w s same =
      let row : slice_get rows s.index ≡ Some (row_of_candidate d) = ap (λ (l : List EquivRow). slice_get l s.index) o.rows_are ∙ place_row o.candidates o.places valid s.index s.place d s.listed s.stands in
      let here : s.index ≡ w = rows_differ s.index w (row_of_candidate d) other row at_w same in
      let lt = s.earlier in
      omega (arith, lt, here)

  names_before : (v w : ℕ) (row other : EquivRow) → slice_get rows v ≡ Some row → slice_get rows w ≡ Some other → RowNames row other.name → (v ≡ w) ⊎ (w < v)
  names_before v w row other at_v at_w named = by (Contains-push_cases (map (λ (d : DepLine). d.name) a.candidate.stored.sig.deps) a.candidate.stored.unihash other.name has) may.unihash
    where
      a : RowPlace o.candidates o.places v row
      a = at_place v row at_v

      same_stored : named.known.stored ≡ a.candidate.stored
      same_stored =
          let k = known_of a.place a.candidate a.stands in
          let known : IsRow row = record { stored = k.0.stored; key = k.0.key; is = a.is ∙ k.0.is; spelled = k.0.spelled; short = k.0.short; digest = k.0.digest } in
          one_known row named.known known ∙ k.1

      has : Contains (names_in a.candidate.stored) other.name
      has = subst (λ (s : ShortStored). Contains (names_in s) other.name) same_stored named.named

      may : MayBeBelieved o.candidates (StandsBefore o.candidates o.places v) a.candidate
      may = o.believed.named v a.place a.candidate a.listed a.stands

      dep_case : (names : List DepLine) → ((i : ℕ) (dep : DepLine) → slice_get names i ≡ Some dep → (d : Candidate) × StandsBefore o.candidates o.places v d × (d.name ≡ dep.name)) → Contains (map (λ (d : DepLine). d.name) names) other.name → w < v
      dep_case names each h =
          let at = place_of (map (λ (d : DepLine). d.name) names) other.name h in
          let dep = dep_at names at.0 at.1 in
          let d = each at.0 dep.0 dep.1 in
          earlier_row v w other d.0 at_w d.1 (d.2 ∙ dep.2)
        where
          dep_at : (ns : List DepLine) (i : ℕ) → slice_get (map (λ (d : DepLine). d.name) ns) i ≡ Some other.name → (dep : DepLine) × (slice_get ns i ≡ Some dep) × (dep.name ≡ other.name)
          dep_at [] i e = absurd (let none : None ≡ Some other.name = e in cc)
          dep_at (n ∷ ns) zero e = (n, refl, (let same : n.name ≡ other.name = cc in same))
          dep_at (n ∷ ns) (suc i) e = dep_at ns i e

      own_case : a.candidate.stored.unihash ≡ a.candidate.name → a.candidate.stored.unihash ≡ other.name → v ≡ w
      own_case own e = rows_differ v w row other at_v at_w (ap (λ (r : EquivRow). r.name) a.is ∙ sym own ∙ e)

      by : Contains (map (λ (d : DepLine). d.name) a.candidate.stored.sig.deps) other.name ⊎ (a.candidate.stored.unihash ≡ other.name) → (a.candidate.stored.unihash ≡ a.candidate.name) ⊎ IsShared (StandsBefore o.candidates o.places v) a.candidate → (v ≡ w) ⊎ (w < v)
      by (inl h) which = inr (dep_case a.candidate.stored.sig.deps (λ i dep e. let n = may.deps i dep e in (n.other, n.admitted, n.name_is)) h)
      by (inr e) (inl own) = inl (own_case own e)
      by (inr e) (inr s) = inr (earlier_row v w other s.other at_w s.admitted (s.name_is ∙ e))

  -- nothing is held at `tmp`, nor below it
  pub opened_free : IsFree held gone_path
  opened_free = record {
    above = λ q b. elim (above_tmp q b) [ inl same ↦ ap held same ∙ (laid_out_is before held rows o).at_temporary | inr never ↦ absurd never ];
    below = λ q b. (has_way before held rows o).1 q (103 ∷ (111 ∷ (110 ∷ (101 ∷ 47 ∷ b.0))), b.1);
  }

  pub ready_of : (nodes : List Node) (roots : List Hash) (limit : ℕ) (chosen : Chosen) → AreNodesBy IsTitled rows nodes → AreNodesBy IsNode rows nodes → IsChosen nodes roots limit chosen → IsReady rows nodes chosen held
  ready_of nodes roots limit chosen titled are c = record {
    titled = titled;
    nodes_are = are;
    records = rows_held before held rows o;
    laid_out = laid_out_is before held rows o;
    differ = rows_differ;
    named = named;
    closed = marks_closed nodes roots limit chosen c;
  }
    where
      name_at : (rs : List EquivRow) (v : ℕ) (row : EquivRow) → slice_get rs v ≡ Some row → slice_get (names_of rs) v ≡ Some row.name
      name_at [] v row e = absurd (let none : None ≡ Some row = e in cc)
      name_at (r ∷ rs) zero row e = let same : r ≡ row = cc in ap (λ (x : EquivRow). Some x.name) same
      name_at (r ∷ rs) (suc v) row e = name_at rs v row e

      row_of_name : (rs : List EquivRow) (v : ℕ) (name : Hash) → slice_get (names_of rs) v ≡ Some name → (row : EquivRow) × (slice_get rs v ≡ Some row) × (row.name ≡ name)
      row_of_name [] v name e = absurd (let none : None ≡ Some name = e in cc)
      row_of_name (r ∷ rs) zero name e = (r, refl, (let same : r.name ≡ name = cc in same))
      row_of_name (r ∷ rs) (suc v) name e = row_of_name rs v name e

      distinct : (v w : ℕ) (x : Hash) → slice_get (names_of rows) v ≡ Some x → slice_get (names_of rows) w ≡ Some x → v ≡ w
      distinct v w x at_v at_w =
          let a = row_of_name rows v x at_v in
          let b = row_of_name rows w x at_w in
          rows_differ v w a.0 b.0 a.1 b.1 (a.2 ∙ sym b.2)

      named : (v w : ℕ) (row other : EquivRow) → slice_get rows v ≡ Some row → slice_get rows w ≡ Some other → RowNames row other.name → (v ≡ w) ⊎ Names chosen.edges.items v w
      named v w row other at_v at_w n = elim (names_before v w row other at_v at_w n) [
        | inl same ↦ inl same
        | inr lt ↦ inr (((edges_are rows nodes chosen.edges.items titled are c.edges).each v w).1 (record { earlier = lt; row = row; stands = at_v; name = other.name; named = n; place = place_is (names_of rows) distinct other.name w (name_at rows w other at_w) }))
      ]
