-- Clean paths of one part.
use Rattle.std.proofs.Common.{◌≡◌, ◌∙◌, sym, ap, subst, refl, ℕ, Bool, true, false, IsTrue, List, [], ◌∷◌, length, All, arith}
use Rattle.std.specs.Prelude.{◌==◌, ◌||◌, ◌↔◌, not}
use Rattle.std.specs.List.{list_any, onto_first}
use Rattle.std.proofs.lemmas.List.Splits.{slice_split-cons_yes, slice_split-cons_no, length-slice_split}
use Rattle.tree_model.specs.Path.{IsClean, IsPart, parts_of}
use Rattle.plan_model.specs.Sound.{IsOnePart}

abbrev pub is_slash : ℕ → Bool
is_slash c = c == 47

-- a path without a slash is its one part
alone : (path : List ℕ) → list_any is_slash path ≡ false → parts_of path ≡ path ∷ []
alone [] none = refl
alone (x ∷ path) none = by (is_slash x) refl none (alone path)
  where
    by : (t : Bool) → is_slash x ≡ t → (t || list_any is_slash path) ≡ false → (list_any is_slash path ≡ false → parts_of path ≡ path ∷ []) → parts_of (x ∷ path) ≡ (x ∷ path) ∷ []
    by true e h rest = let wrong : true ≡ false = h in cc
    by false e h rest = slice_split-cons_no is_slash x path e ∙ ap (onto_first x) (rest h)

-- ... and only such a path is
unslashed : (path : List ℕ) → parts_of path ≡ path ∷ [] → list_any is_slash path ≡ false
unslashed [] one = refl
unslashed (x ∷ path) one = by (unslashed path) (is_slash x) refl
  where
    next : (parts_of path ≡ path ∷ [] → list_any is_slash path ≡ false) → is_slash x ≡ false → (parts : List (List ℕ)) → parts_of path ≡ parts → list_any is_slash path ≡ false
    next rest e [] f = absurd (omega (arith, ap length f, length-slice_split is_slash path))
    next rest e (part ∷ parts) f =
        let both : onto_first x (part ∷ parts) ≡ (x ∷ path) ∷ [] = ap (onto_first x) (sym f) ∙ sym (slice_split-cons_no is_slash x path e) ∙ one in
        let same : part ∷ parts ≡ path ∷ [] = cc in
        rest (f ∙ same)

    by : (parts_of path ≡ path ∷ [] → list_any is_slash path ≡ false) → (t : Bool) → is_slash x ≡ t → list_any is_slash (x ∷ path) ≡ false
    by rest true e =
        let wrong : [] ∷ parts_of path ≡ (x ∷ path) ∷ [] = sym (slice_split-cons_yes is_slash x path e) ∙ one in
        cc
    by rest false e = subst (λ (t : Bool). (t || list_any is_slash path) ≡ false) (sym e) (next rest e (parts_of path) refl)

-- a clean path has one part where it has no slash
pub one_part : (path : List ℕ) (slashed : Bool) → IsClean path → slashed ≡ list_any is_slash path → IsTrue (not slashed) ↔ IsOnePart path
one_part path true clean is = (
  λ t. let wrong : false ≡ true = t in cc,
  λ one. let wrong : true ≡ false = is ∙ unslashed path one.alone in cc,
)
one_part path false clean is = (
  λ t.
      let whole = alone path (sym is) in
      record { part = (subst (λ (l : List (List ℕ)). All IsPart l) whole clean.parts) 0 path (omega arith); alone = whole },
  λ one. refl,
)
