-- Candidates in the order of their names.
use Rattle.std.proofs.Common.{◌≡◌, ◌≢◌, ◌∙◌, sym, ap, subst, refl, ℕ, zero, suc, ◌<◌, Bool, true, false, List, [], ◌∷◌, arith, Some, None}
use Rattle.std.specs.Prelude.{slice_get}
use Rattle.std.specs.List.{AllByRecursion}
use Rattle.std.specs.Ordering.{is_lt, ordering_reverse}
use Rattle.std.specs.declared.cmp.Ordering.{Ordering}
use Rattle.std.specs.declared.cmp.Ordering.TheVariants.{Less, Equal, Greater}
use Rattle.std.proofs.lemmas.Cmp.{nat_list_cmp_total}
use Rattle.std.proofs.lemmas.List.Elements.{All-from_recursion}
use Rattle.meta_model.specs.InOrder.{in_order, put_in_order}
use Rattle.store_model.proofs.Ordered.{each_ordered, each_weaker, put_each}
use Rattle.store_model.specs.declared.candidate.Candidate.{Candidate}
use Rattle.store_model.specs.Believed.{Ascend, IsAmong, name_cmp}
use Rattle.record_belief.proofs.Placing.{name_same, rising}

abbrev pub IsLess : Candidate → Candidate → Type 0
IsLess a b = name_cmp a.name b.name ≡ Less

-- each comes before all behind it
abbrev pub Up : List Candidate → Type 0
Up [] = Unit {0}
Up (c ∷ cs) = AllByRecursion (IsLess c) cs × Up cs

abbrev pub is_before : Candidate → Candidate → Bool
is_before a b = is_lt (name_cmp a.name b.name)

less_true : (o : Ordering) → is_lt o ≡ true → o ≡ Less
less_true Less e = refl
less_true Equal e = absurd (let f : false ≡ true = e in cc)
less_true Greater e = absurd (let f : false ≡ true = e in cc)

-- of two names that differ, one comes first
other_way : (a b : Candidate) → a.name ≢ b.name → is_before a b ≡ false → IsLess b a
other_way a b ne f = nat_list_cmp_total.antisymm b.name.bytes a.name.bytes ∙ by (name_cmp a.name b.name) refl f
  where
    by : (o : Ordering) → name_cmp a.name b.name ≡ o → is_lt o ≡ false → ordering_reverse (name_cmp a.name b.name) ≡ Less
    by Less e g = absurd (let k : true ≡ false = g in cc)
    by Equal e g = absurd (ne (name_same a.name b.name e))
    by Greater e g = rw e refl

less_trans : (a b c : Candidate) → IsLess a b → IsLess b c → IsLess a c
less_trans a b c p q = nat_list_cmp_total.trans a.name.bytes b.name.bytes c.name.bytes p q

put_up : (x : Candidate) (ys : List Candidate) → AllByRecursion (λ y. y.name ≢ x.name) ys → Up ys → Up (put_in_order is_before x ys)
put_up x [] ne up = (tt, tt)
put_up x (y ∷ ys) ne up = by (is_before y x) refl (put_up x ys ne.1 up.1)
  where
    by : (b : Bool) → is_before y x ≡ b → Up (put_in_order is_before x ys) → Up (put_in_order is_before x (y ∷ ys))
    by true e more = rw e (put_each (IsLess y) is_before x ys (less_true (name_cmp y.name x.name) e) up.0, more)
    by false e more =
        let less = other_way y x ne.0 e in
        rw e ((less, each_weaker (IsLess y) (IsLess x) (λ z. less_trans x y z less) ys up.0), up)

-- no name stands twice
abbrev pub Differ : List Candidate → Type 0
Differ [] = Unit {0}
Differ (c ∷ cs) = AllByRecursion (λ d. d.name ≢ c.name) cs × Differ cs

pub ordered_up : (xs : List Candidate) → Differ xs → Up (in_order is_before xs)
ordered_up [] differ = tt
ordered_up (x ∷ xs) differ = put_up x (in_order is_before xs) (each_ordered (λ d. d.name ≢ x.name) is_before xs differ.0) (ordered_up xs differ.1)

pub ascend_of : (xs : List Candidate) → Up xs → Ascend xs
ascend_of [] up i j d lt within = absurd (omega (arith, within))
ascend_of (x ∷ xs) up zero zero d lt within = absurd (omega (arith, lt))
ascend_of (x ∷ xs) up zero (suc j) d lt within = All-from_recursion (IsLess x) xs up.0 j d (omega (arith, within))
ascend_of (x ∷ xs) up (suc i) zero d lt within = absurd (omega (arith, lt))
ascend_of (x ∷ xs) up (suc i) (suc j) d lt within = ascend_of xs up.1 i j d (omega (arith, lt)) (omega (arith, within))

-- ---- what stands in a list

-- what each item has, the one at a place has
pub each_at : {A : Type 0} (P : A → Type 0) (xs : List A) (k : ℕ) (x : A) → AllByRecursion P xs → slice_get xs k ≡ Some x → P x
each_at {A} P [] k x all e = absurd (let f : ◌≡◌ {A = _} None (Some x) = e in cc)
each_at P (y ∷ ys) zero x all e = let same : y ≡ x = cc in subst P same all.0
each_at P (y ∷ ys) (suc k) x all e = each_at P ys k x all.1 e

among_behind : (y : Candidate) (ys : List Candidate) (c : Candidate) → IsAmong ys c → IsAmong (y ∷ ys) c
among_behind y ys c among = (suc among.0, among.1)

pub each_among : (xs : List Candidate) → AllByRecursion (IsAmong xs) xs
each_among [] = tt
each_among (x ∷ xs) = ((0, refl), each_weaker (IsAmong xs) (IsAmong (x ∷ xs)) (among_behind x xs) xs (each_among xs))

-- ---- ascending lists of the same candidates are one

not_less_itself : (c : Candidate) → IsLess c c → ⊥
not_less_itself c less =
    let back : name_cmp c.name c.name ≡ ordering_reverse (name_cmp c.name c.name) = nat_list_cmp_total.antisymm c.name.bytes c.name.bytes in
    let k : Less ≡ Greater = sym less ∙ back ∙ ap ordering_reverse less in cc

not_both : (c d : Candidate) → IsLess c d → IsLess d c → ⊥
not_both c d p q = not_less_itself c (less_trans c d c p q)

Rising : List Candidate → Type 0
Rising xs = (j k : ℕ) (c d : Candidate) → j < k → slice_get xs j ≡ Some c → slice_get xs k ≡ Some d → IsLess c d

same_lists : (xs ys : List Candidate) → Rising xs → Rising ys → ((c : Candidate) → IsAmong xs c → IsAmong ys c) → ((c : Candidate) → IsAmong ys c → IsAmong xs c) → xs ≡ ys
unfolding Rising
same_lists [] [] up vp there back = refl
same_lists [] (y ∷ ys) up vp there back = let f = back y (0, refl) in absurd (let e : None ≡ Some y = f.1 in cc)
same_lists (x ∷ xs) [] up vp there back = let f = there x (0, refl) in absurd (let e : None ≡ Some x = f.1 in cc)
same_lists (x ∷ xs) (y ∷ ys) up vp there back =
    let first : x ≡ y = same_first (there x (0, refl)) (back y (0, refl)) in
    let rest : xs ≡ ys = same_lists xs ys (λ i j p q lt e f. up (suc i) (suc j) p q (omega (arith, lt)) e f) (λ i j p q lt e f. vp (suc i) (suc j) p q (omega (arith, lt)) e f)
    (λ c among. later ys y c (there c (among_behind x xs c among)) (λ is. not_less_itself x (subst (λ z. IsLess x z) (sym (first ∙ is)) (up 0 (suc among.0) x c (omega arith) refl among.1))))
    (λ c among. later xs x c (back c (among_behind y ys c among)) (λ is. not_less_itself y (subst (λ z. IsLess y z) (sym (sym first ∙ is)) (vp 0 (suc among.0) y c (omega arith) refl among.1)))) in
    λ i. first i ∷ rest i
  where
    same_first : IsAmong (y ∷ ys) x → IsAmong (x ∷ xs) y → x ≡ y
    same_first (zero, e) b = let s : y ≡ x = cc in sym s
    same_first (suc j, e) (zero, f) = cc
    same_first (suc j, e) (suc k, f) = absurd (not_both x y (up 0 (suc k) x y (omega arith) refl f) (vp 0 (suc j) y x (omega arith) refl e))

    later : (zs : List Candidate) (z c : Candidate) → IsAmong (z ∷ zs) c → (z ≡ c → ⊥) → IsAmong zs c
    later zs z c (zero, e) differs = absurd (differs cc)
    later zs z c (suc j, e) differs = (j, e)

pub one_list : (xs ys : List Candidate) → Ascend xs → Ascend ys → ((c : Candidate) → IsAmong xs c → IsAmong ys c) → ((c : Candidate) → IsAmong ys c → IsAmong xs c) → xs ≡ ys
unfolding Rising
one_list xs ys up vp there back = same_lists xs ys (rising xs up) (rising ys vp) there back
