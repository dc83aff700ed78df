-- Records that are marked from one of them on.
use Rattle.std.proofs.Common.{◌≡◌, ◌∙◌, sym, ap, refl, subst, arith, ℕ, ◌+◌, ◌<◌, ◌≤◌, Bool, true, false, List, [], ◌∷◌, ◌++◌, append_assoc, append-nil, length, length-append, get_or, set, ◌⊎◌, inl, inr}
use Rattle.std.specs.Prelude.{All, Contains}
use Rattle.std.proofs.lemmas.Bool.{cases_eq}
use Rattle.std.proofs.lemmas.List.{get_or_append_left, get_or_default, get_or-set_other, get_or-set_same, length-set}
use Rattle.std.proofs.lemmas.List.Elements.{Contains-append_left, Contains-get_or, Contains-push, Contains-push_cases}
use Rattle.store_keep.specs.Keep.{AreClosed, IsClosure, IsMarked, LeadsTo, NameEarlier, Names, further, here, named_by}
use Rattle.store_keep.specs.Passes.{AreDone, IsGrown, IsTakenBack, IsTrail}
use Rattle.store_keep.specs.Tries.{IsTried, marked_in}
use Rattle.store_keep.proofs.Closures.{closure_of, closed_marks}
use Rattle.store_keep.proofs.Counting.{count_le, count_set, same_marks}
use Rattle.store_keep.proofs.Passing.{set_marked, set_only}

-- ---- the trail grows

pub trail_start : (edges : List (List ℕ)) (old : List Bool) (start : ℕ) → IsTrail edges old start [] old
trail_start edges old start = record {
  long = refl;
  kept = λ v m. m;
  on = λ v c. absurd (let lt = c.1 in omega (arith, lt));
  new = λ v c. absurd (let lt = c.1 in omega (arith, lt));
  led = λ v c. absurd (let lt = c.1 in omega (arith, lt));
  within = λ v c. absurd (let lt = c.1 in omega (arith, lt));
  only = λ v m. inl m;
  count = omega arith;
}

not_marked : (marks : List Bool) (v : ℕ) → get_or marks v false ≡ false → IsMarked marks v → ⊥
not_marked marks v un m = let e : true ≡ false = sym m ∙ un in cc

pub trail_more : (edges : List (List ℕ)) (old : List Bool) (start p : ℕ) (trail : List ℕ) (marks : List Bool) → p < length marks → get_or marks p false ≡ false → IsTrail edges old start trail marks → LeadsTo edges start p → IsTrail edges old start (trail ++ p ∷ []) (set marks p true)
trail_more edges old start p trail marks lt un t led = record {
  long = length-set marks p true ∙ t.long;
  kept = λ v m. set_marked marks p v lt (t.kept v m);
  on = λ v c. elim (Contains-push_cases trail p v c) [
    | inl was ↦ set_marked marks p v lt (t.on v was)
    | inr same ↦ here_marked v same
  ];
  new = λ v c. elim (Contains-push_cases trail p v c) [
    | inl was ↦ t.new v was
    | inr same ↦ subst (λ (x : ℕ). get_or old x false ≡ false) same unmarked
  ];
  led = λ v c. elim (Contains-push_cases trail p v c) [
    | inl was ↦ t.led v was
    | inr same ↦ subst (LeadsTo edges start) same led
  ];
  within = λ v c. elim (Contains-push_cases trail p v c) [
    | inl was ↦ t.within v was
    | inr same ↦ subst (λ (x : ℕ). x < length old) same (let e = t.long in omega (arith, lt, e))
  ];
  only = λ v m. elim (set_only marks p v m) [
    | inl was ↦ elim (t.only v was) [
      | inl o ↦ inl o
      | inr c ↦ inr (Contains-append_left trail (p ∷ []) v c)
    ]
    | inr same ↦ inr (subst (Contains (trail ++ p ∷ [])) (sym same) (Contains-push trail p))
  ];
  count = count_set marks p lt un ∙ (let e = t.count in omega (arith, e, length-append trail (p ∷ [])));
}
  where
    here_marked : (v : ℕ) → p ≡ v → IsMarked (set marks p true) v
    here_marked v same = subst (λ (x : ℕ). get_or (set marks p true) x false ≡ true) same (get_or-set_same marks p true false lt)

    unmarked : get_or old p false ≡ false
    unmarked = by (get_or old p false) refl
      where
        by : (b : Bool) → get_or old p false ≡ b → get_or old p false ≡ false
        by true is = absurd (not_marked marks p un (t.kept p is))
        by false is = is

pub grown_start : (trail : List ℕ) (marks : List Bool) → IsGrown trail marks trail marks
grown_start trail marks = record { long = refl; kept = λ v m. m; rest = []; is = sym (append-nil trail) }

pub grown_one : (trail : List ℕ) (marks : List Bool) (p : ℕ) → p < length marks → IsGrown trail marks (trail ++ p ∷ []) (set marks p true)
grown_one trail marks p lt = record { long = length-set marks p true; kept = λ v m. set_marked marks p v lt m; rest = p ∷ []; is = refl }

pub grown_more : (a b c : List ℕ) (x y z : List Bool) → IsGrown a x b y → IsGrown b y c z → IsGrown a x c z
grown_more a b c x y z g h = record {
  long = h.long ∙ g.long;
  kept = λ v m. h.kept v (g.kept v m);
  rest = g.rest ++ h.rest;
  is = h.is ∙ ap (λ (l : List ℕ). l ++ h.rest) g.is ∙ append_assoc a g.rest h.rest;
}

-- ---- what the trail's records name is marked

grown_at : (trail longer : List ℕ) (marks more : List Bool) (j d : ℕ) → IsGrown trail marks longer more → j < length trail → get_or longer j d ≡ get_or trail j d
grown_at trail longer marks more j d g lt = ap (λ (l : List ℕ). get_or l j d) g.is ∙ get_or_append_left trail g.rest d j lt

pub done_more : (edges : List (List ℕ)) (trail longer : List ℕ) (marks more : List Bool) (next record_at : ℕ) → next < length trail → record_at ≡ get_or trail next record_at → AreDone edges trail next marks → IsGrown trail marks longer more
    → All (IsMarked more) (named_by edges record_at) → AreDone edges longer (next + 1) more
done_more edges trail longer marks more next at lt is done g all j d w less inside n = by (cases_eq j next)
  where
    same_at : (i : ℕ) → i < length trail → get_or longer i d ≡ get_or trail i d
    same_at i l = grown_at trail longer marks more i d g l

    by : (j ≡ next) ⊎ (j ≡ next → ⊥) → IsMarked more w
    by (inl same) =
        let e : get_or longer j d ≡ at = ap (λ (x : ℕ). get_or longer x d) same ∙ same_at next lt ∙ get_or_default trail next d at lt ∙ sym is in
        let c = subst (λ (x : ℕ). Names edges x w) e n in
        subst (IsMarked more) c.2 (all c.0 w c.1)
    by (inr ne) =
        let before : j < next = omega (arith, less, ne) in
        let within : j < length trail = omega (arith, before, lt) in
        g.kept w (done j d w before within (subst (λ (x : ℕ). Names edges x w) (same_at j within) n))

pub done_enough : (edges : List (List ℕ)) (trail : List ℕ) (next : ℕ) (marks : List Bool) → length trail ≤ next → AreDone edges trail next marks → AreDone edges trail (length trail) marks
done_enough edges trail next marks all done j d w less inside n = done j d w (omega (arith, all, inside)) inside n

pub led_further : (edges : List (List ℕ)) (start v : ℕ) → LeadsTo edges start v → All (LeadsTo edges start) (named_by edges v)
led_further edges start v led j d inside = further start v (get_or (named_by edges v) j d) led (j, inside, get_or_default (named_by edges v) j (get_or (named_by edges v) j d) d inside)

pub longer_length : (trail longer : List ℕ) (marks more : List Bool) (next : ℕ) → next < length trail → IsGrown trail marks longer more → next + 1 ≤ length longer
longer_length trail longer marks more next lt g = omega (arith, lt, ap (length {A = ℕ}) g.is, length-append trail g.rest)

-- ---- the end of a walk

module _ (edges : List (List ℕ)) (old : List Bool) (start : ℕ) (trail : List ℕ) (marks : List Bool) (t : IsTrail edges old start trail marks) (inside : start < length old) (started : IsMarked marks start) where
  -- what is marked is led to
  led_to : (v : ℕ) → IsMarked marks v → (r : ℕ) × IsMarked (set old start true) r × LeadsTo edges r v
  led_to v m = elim (t.only v m) [
    | inl was ↦ (v, set_marked old start v inside was, here v)
    | inr c ↦ (start, get_or-set_same old start true false inside, t.led v c)
  ]

  module _ (closed : AreClosed edges old) (done : AreDone edges trail (length trail) marks) where
    pub closed_now : AreClosed edges marks
    closed_now v w m n = elim (t.only v m) [
      | inl was ↦ t.kept w (closed v w was n)
      | inr c ↦ done c.0 v w c.1 c.1 (subst (λ (x : ℕ). Names edges x w) (sym c.2) n)
    ]

    reached : (r v : ℕ) → IsMarked marks r → LeadsTo edges r v → IsMarked marks v
    reached r v m (here x) = m
    reached r v m (further x w u l n) = closed_now w u (reached r w m l) n

    pub whole_walk : IsClosure edges (set old start true) marks
    whole_walk = record {
      long = t.long ∙ sym (length-set old start true);
      whole = λ r v m l. reached r v (elim (set_only old start r m) [
        | inl was ↦ t.kept r was
        | inr same ↦ subst (IsMarked marks) (sym same) started
      ]) l;
      only = led_to;
    }

  -- any marks of what is led to are no fewer
  pub no_fewer : (with : List Bool) → IsClosure edges (set old start true) with → marked_in old + length trail ≤ marked_in with
  no_fewer with c =
      let e = t.count in
      let le = count_le marks with (t.long ∙ sym (length-set old start true) ∙ sym c.long) (λ v m. let at = led_to v m in c.whole at.0 v at.1 at.2) in
      omega (arith, e, le)

-- ---- marks are taken back

pub back_start : (old marks : List Bool) (trail : List ℕ) → length marks ≡ length old → ((v : ℕ) → IsMarked old v → IsMarked marks v) → IsTakenBack old marks trail 0 marks
back_start old marks trail long kept = record { long = long; kept = kept; fewer = λ v m. m; gone = λ j d less within. absurd (omega (arith, less)) }

clear_set : (marks : List Bool) (p v : ℕ) → p < length marks → get_or marks v false ≡ false → get_or (set marks p false) v false ≡ false
clear_set marks p v lt un = elim (cases_eq v p) [
  | inl same ↦ ap (λ (x : ℕ). get_or (set marks p false) x false) same ∙ get_or-set_same marks p false false lt
  | inr ne ↦ get_or-set_other marks p v false false ne ∙ un
]

pub back_more : (old marks now : List Bool) (trail : List ℕ) (i p : ℕ) → i < length trail → p ≡ get_or trail i p → p < length marks → length marks ≡ length old → ((v : ℕ) → Contains trail v → get_or old v false ≡ false) → IsTakenBack old marks trail i now → IsTakenBack old marks trail (i + 1) (set now p false)
back_more old marks now trail i p lt is within same_long new b = record {
  long = length-set now p false ∙ b.long;
  kept = λ v m. elim (cases_eq v p) [
    | inl same ↦ absurd (not_marked old p (new p (i, lt, sym is)) (subst (IsMarked old) same m))
    | inr ne ↦ get_or-set_other now p v false false ne ∙ b.kept v m
  ];
  fewer = λ v m. elim (cases_eq v p) [
    | inl same ↦ absurd (not_marked (set now p false) p (get_or-set_same now p false false inside) (subst (IsMarked (set now p false)) same m))
    | inr ne ↦ b.fewer v (sym (get_or-set_other now p v false false ne) ∙ m)
  ];
  gone = λ j d less in_trail. elim (cases_eq j i) [
    | inl same ↦ ap (λ (x : ℕ). get_or (set now p false) x false) (ap (λ (x : ℕ). get_or trail x d) same ∙ get_or_default trail i d p lt ∙ sym is) ∙ get_or-set_same now p false false inside
    | inr ne ↦ clear_set now p (get_or trail j d) inside (b.gone j d (omega (arith, less, ne)) in_trail)
  ];
}
  where
    inside : p < length now
    inside = let e = b.long in omega (arith, e, within, same_long)

pub back_end : (edges : List (List ℕ)) (old marks now : List Bool) (start : ℕ) (trail : List ℕ) → IsTrail edges old start trail marks → IsTakenBack old marks trail (length trail) now → now ≡ old
back_end edges old marks now start trail t b = same_marks now old b.long there b.kept
  where
    there : (v : ℕ) → IsMarked now v → IsMarked old v
    there v m = elim (t.only v (b.fewer v m)) [
      | inl was ↦ was
      | inr c ↦ absurd (not_marked now v (subst (λ (x : ℕ). get_or now x false ≡ false) c.2 (b.gone c.0 v c.1 c.1)) m)
    ]

-- ---- a try

pub passed_over : (edges : List (List ℕ)) (old marks now : List Bool) (limit start : ℕ) (trail : List ℕ) → NameEarlier edges → length old ≡ length edges → start < length old → IsTrail edges old start trail marks → IsMarked marks start
    → limit < marked_in old + length trail → now ≡ old → IsTried edges limit old start now
passed_over edges old marks now limit start trail earlier long inside t started more same =
    let with = closed_marks edges (length edges) (set old start true) in
    let c = closure_of edges (set old start true) earlier (length-set old start true ∙ long) in
    let le = no_fewer edges old start trail marks t inside started with c in
    inr (inr (with, c, inr (omega (arith, more, le), same)))

pub kept_whole : (edges : List (List ℕ)) (old marks : List Bool) (limit start : ℕ) (trail : List ℕ) → start < length old → IsTrail edges old start trail marks → IsMarked marks start → AreClosed edges old → AreDone edges trail (length trail) marks
    → marked_in old + length trail ≤ limit → IsTried edges limit old start marks
kept_whole edges old marks limit start trail inside t started closed done few =
    let e = t.count in
    inr (inr (marks, whole_walk edges old start trail marks t inside started closed done, inl (omega (arith, e, few), refl)))

pub all_within : (edges : List (List ℕ)) (old : List Bool) (start : ℕ) (trail places : List ℕ) (marks : List Bool) → places ≡ trail → IsTrail edges old start trail marks → All (λ v. v < length marks) places
all_within edges old start trail places marks is t j d inside =
    let lt : j < length trail = omega (arith, inside, ap (length {A = ℕ}) is) in
    let within = t.within (get_or trail j d) (Contains-get_or trail j d lt) in
    let e = t.long in
    subst (λ (l : List ℕ). get_or l j d < length marks) (sym is) (omega (arith, within, e))
