-- The rows of the believed candidates.
use Rattle.std.proofs.Common.{◌≡◌, ◌≢◌, ◌∙◌, sym, ap, subst, refl, ℕ, zero, suc, ◌+◌, ◌<◌, ◌⊎◌, inl, inr, true, false, List, [], ◌∷◌, ◌++◌, AllPairs, Option, Some, None, arith, get_or, length, take, map, filter_map}
use Rattle.std.specs.Prelude.{slice_get}
use Rattle.std.specs.List.{AllByRecursion}
use Rattle.std.specs.Ordering.{nat_cmp, is_eq}
use Rattle.std.specs.Cmp.Lexicographic.{slice_cmp}
use Rattle.std.specs.declared.cmp.Ordering.TheVariants.{Less}
use Rattle.std.proofs.lemmas.Bool.{false≢true}
use Rattle.std.proofs.lemmas.List.{take_more, map-append, get_or-take, length-take-le, get_or_default}
use Rattle.std.proofs.lemmas.List.Elements.{filter_map-append, recursion_from_All}
use Rattle.std.proofs.lemmas.Map.Text.{is_eq-slice_cmp}
use Rattle.std.proofs.lemmas.Option.{get_or_from_slice_get, slice_get-get_or}
use Rattle.tree_model.specs.declared.hash.Hash.{Hash}
use Rattle.meta_model.proofs.Bools.{text_itself}
use Rattle.store_model.specs.declared.signature.EquivRow.{EquivRow}
use Rattle.store_model.specs.Rows.{hash_eq, row_at}
use Rattle.store_model.proofs.Listing.{hash_other}
use Rattle.store_model.specs.declared.candidate.Candidate.{Candidate}
use Rattle.store_model.specs.Believed.{AreBelieved, Ascend, IsBelievedWithin, ComesBefore, name_cmp}
use Rattle.store_model.specs.Opened.{row_of_candidate, rows_at}
use Rattle.store_model.specs.Readable.{IsRow}
use Rattle.store_opening.specs.Survey.{HeldFile, IsGood}
use Rattle.store_opening.proofs.Hexed.{ways}
use Rattle.store_opening.proofs.Surveyed.{each_of}

some_one : {A : Type 0} (x y : A) (o : Option A) → o ≡ Some x → o ≡ Some y → x ≡ y
some_one x y o p q = cc

pub in_range : {A : Type 0} (xs : List A) (k : ℕ) (x : A) → slice_get xs k ≡ Some x → k < length xs
in_range [] k x e = absurd (cc)
in_range (y ∷ ys) zero x e = omega arith
in_range (y ∷ ys) (suc k) x e = let lt = in_range ys k x e in omega (arith, lt)

-- no name comes before itself
not_itself : (name : Hash) → name_cmp name name ≡ Less → ⊥
not_itself name less =
    let e : is_eq (slice_cmp nat_cmp name.bytes name.bytes) ≡ true = is_eq-slice_cmp name.bytes name.bytes ∙ text_itself name.bytes in
    let f : is_eq Less ≡ true = ap is_eq (sym less) ∙ e in
    false≢true f

-- candidates at two places have two names
pub names_differ : (candidates : List Candidate) (p q : ℕ) (c d : Candidate) → Ascend candidates → p < q → slice_get candidates p ≡ Some c → slice_get candidates q ≡ Some d → c.name ≢ d.name
names_differ candidates p q c d ascend lt at_p at_q same =
    let less = ascend p q c lt (in_range candidates q d at_q) in
    let first : get_or candidates p c ≡ c = get_or_from_slice_get candidates p c c at_p in
    let second : get_or candidates q c ≡ d = get_or_from_slice_get candidates q d c at_q in
    not_itself d.name (ap (λ x. name_cmp x d.name) (sym same) ∙ ap (λ x. name_cmp x.name d.name) (sym first) ∙ ap (λ y. name_cmp (get_or candidates p c).name y.name) (sym second) ∙ less)

-- no place comes before itself
comes_not : (candidates : List Candidate) (p : ℕ) → ComesBefore candidates p p → ⊥
comes_not candidates p c = by c.before
  where
    one : c.at_p.candidate ≡ c.at_q.candidate
    one = some_one c.at_p.candidate c.at_q.candidate (slice_get candidates p) c.at_p.stands c.at_q.stands

    by : (c.depth_p < c.depth_q) ⊎ ((c.depth_p ≡ c.depth_q) × (p < p)) → ⊥
    by (inl lt) =
        let P : Candidate → Type 0 = λ x. IsBelievedWithin candidates (suc c.depth_p) x in
        let m = c.at_q.depth_is.first (suc c.depth_p) (subst P one c.at_p.depth_is.within) in
        omega (arith, lt, m)
    by (inr w) = let lt = w.1 in omega (arith, lt)

-- ---- rows

abbrev IsNot : List Candidate → Hash → ℕ → Type 0
IsNot candidates name p = (d : Candidate) → slice_get candidates p ≡ Some d → d.name ≢ name

none_named : (candidates : List Candidate) (name : Hash) (places : List ℕ) → AllByRecursion (IsNot candidates name) places → row_at (rows_at candidates places) name ≡ None
none_named candidates name [] all = refl
none_named candidates name (p ∷ ps) all = by (slice_get candidates p) refl (none_named candidates name ps all.1)
  where
    by : (o : Option Candidate) → slice_get candidates p ≡ o → row_at (rows_at candidates ps) name ≡ None → row_at (rows_at candidates (p ∷ ps)) name ≡ None
    by None e more = rw e more
    by (Some d) e more =
        let other : hash_eq d.name name ≡ false = hash_other d.name name (λ same. all.0 d e same) in
        rw (e, other) more

earlier_are : (candidates : List Candidate) (places : List ℕ) (i : ℕ) (c : Candidate) → Ascend candidates → AllPairs (ComesBefore candidates) places → i < length places → slice_get candidates (get_or places i 0) ≡ Some c → AllByRecursion (IsNot candidates c.name) (take i places)
earlier_are candidates places i c ascend order lt at = recursion_from_All (IsNot candidates c.name) (take i places) each
  where
    q : ℕ
    q = get_or places i 0

    each : (k : ℕ) (d : ℕ) → k < length (take i places) → IsNot candidates c.name (get_or (take i places) k d)
    each k d within x at_x =
        let len : length (take i places) ≡ i = length-take-le i places (omega (arith, lt)) in
        let kept : get_or (take i places) k d ≡ get_or places k 0 = get_or-take i places k d (omega (arith, within, len)) ∙ get_or_default places k d 0 (omega (arith, within, len, lt)) in
        let before : ComesBefore candidates (get_or places k 0) q = order k i 0 (omega (arith, within, len)) lt in
        by (get_or places k 0) before (ap (slice_get candidates) (sym kept) ∙ at_x)
      where
        by : (p : ℕ) → ComesBefore candidates p q → slice_get candidates p ≡ Some x → x.name ≢ c.name
        by p before at_p = elim (ways p q) [
          | inl less ↦ names_differ candidates p q x c ascend less at_p at
          | inr (inl same) ↦ absurd (comes_not candidates q (subst (λ (n : ℕ). ComesBefore candidates n q) same before))
          | inr (inr more) ↦ λ e. names_differ candidates q p c x ascend more at at_p (sym e)
        ]

-- the place of a believed one is that of a candidate
pub believed_at : (candidates : List Candidate) (places : List ℕ) (i : ℕ) → AreBelieved candidates places → i < length places → get_or places i 0 < length candidates
believed_at candidates places i believed lt =
    let w = believed.each i (get_or places i 0) (slice_get-get_or places i 0 lt) in
    in_range candidates (get_or places i 0) w.0 w.1

pub new_name : (candidates : List Candidate) (places : List ℕ) (i : ℕ) (c : Candidate) → Ascend candidates → AreBelieved candidates places → i < length places → slice_get candidates (get_or places i 0) ≡ Some c → row_at (rows_at candidates (take i places)) c.name ≡ None
new_name candidates places i c ascend believed lt at = none_named candidates c.name (take i places) (earlier_are candidates places i c ascend believed.order lt at)

-- one row more
pub rows_more : (candidates : List Candidate) (places : List ℕ) (i : ℕ) (c : Candidate) → i < length places → slice_get candidates (get_or places i 0) ≡ Some c → rows_at candidates (take (i + 1) places) ≡ rows_at candidates (take i places) ++ row_of_candidate c ∷ []
rows_more candidates places i c lt at =
    let row : Candidate → EquivRow = row_of_candidate in
    let last : filter_map (slice_get candidates) (get_or places i 0 ∷ []) ≡ c ∷ [] = rw at refl in
    ap (λ ps. rows_at candidates ps) (take_more places i 0 lt)
    ∙ ap (map row) (filter_map-append (slice_get candidates) (take i places) (get_or places i 0 ∷ []))
    ∙ map-append row (filter_map (slice_get candidates) (take i places)) (filter_map (slice_get candidates) (get_or places i 0 ∷ []))
    ∙ ap (λ l. map row (filter_map (slice_get candidates) (take i places)) ++ map row l) last

-- the rows are those of records
pub rows_good : (keys : List HeldFile) (candidates : List Candidate) (places : List ℕ) → AllByRecursion (IsGood keys) candidates → AllByRecursion IsRow (rows_at candidates places)
rows_good keys candidates [] good = tt
rows_good keys candidates (p ∷ ps) good = by (slice_get candidates p) refl (rows_good keys candidates ps good)
  where
    by : (o : Option Candidate) → slice_get candidates p ≡ o → AllByRecursion IsRow (rows_at candidates ps) → AllByRecursion IsRow (rows_at candidates (p ∷ ps))
    by None e more = rw e more
    by (Some d) e more =
        let g = each_of (IsGood keys) candidates d good (p, in_range candidates p d e, get_or_from_slice_get candidates p d d e) in
        rw e (record { stored = d.stored; key = g.key; is = λ i. record { name = g.name i; pn = d.stored.sig.pn; task = d.stored.sig.task; sig = g.text i; manifest = d.stored.manifest; unihash = d.stored.unihash }; spelled = g.spelled; short = g.short; digest = g.key_in.digest }, more)
