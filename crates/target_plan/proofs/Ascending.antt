-- Lines that ascend from each to the next.
use Rattle.std.proofs.Common.{◌≡◌, ◌∙◌, sym, ap, subst, refl, ◌<◌, ◌≤◌, ◌-◌, arith, true, List, [], ◌∷◌, length, get_or, take, drop}
use Rattle.std.specs.Prelude.{◌↔◌}
use Rattle.std.proofs.lemmas.List.{length-drop}
use Rattle.std.proofs.Math.Seq.{take-length}
use Rattle.std.specs.Ordering.{is_lt}
use Rattle.std.specs.declared.cmp.Ordering.{Ordering}
use Rattle.std.specs.declared.cmp.Ordering.TheVariants.{Less, Equal, Greater}
use Rattle.std.specs.Cmp.{IsTotalOrder, on_total}
use Rattle.std.specs.Cmp.Lexicographic.{nat_list_cmp_total}
use Rattle.meta_model.specs.declared.value.KeyLine.{KeyLine}
use Rattle.store_model.specs.Signatures.{is_line_before, line_cmp}
use Rattle.store_model.specs.Spelled.{Ascends}
use Rattle.store_model.proofs.Ordered.{each_weaker}

abbrev pub AreUp : List KeyLine → Type 0
AreUp lines = Ascends line_cmp lines

is_less : (o : Ordering) → is_lt o ≡ true → o ≡ Less
is_less Less e = refl
is_less Equal e = absurd (cc)
is_less Greater e = absurd (cc)

line_order : IsTotalOrder line_cmp
line_order = on_total (λ (l : KeyLine). l.name) nat_list_cmp_total

-- a first line that comes before the second one
one_more : (x y : KeyLine) (lines : List KeyLine) → is_line_before x y ≡ true → AreUp (y ∷ lines) ↔ AreUp (x ∷ (y ∷ lines))
one_more x y lines e = (
  λ up. let first = is_less (line_cmp x y) e in ((first, each_weaker (λ z. line_cmp y z ≡ Less) (λ z. line_cmp x z ≡ Less) (λ z h. line_order.trans x y z first h) lines up.0), up),
  λ up. up.1,
)

behind_first : (lines : List KeyLine) (x y : KeyLine) → 1 < length lines → x ≡ get_or lines 0 x → y ≡ get_or lines 1 y → is_line_before x y ≡ true → AreUp (drop 1 lines) ↔ AreUp lines
behind_first [] x y lt e f up = absurd (omega arith)
behind_first (a ∷ []) x y lt e f up = absurd (omega arith)
behind_first (a ∷ b ∷ lines) x y lt e f up = one_more a b lines (subst (λ l. is_line_before l b ≡ true) e (subst (λ l. is_line_before x l ≡ true) f up))

-- a step of the test
pub goes_up : (lines whole : List KeyLine) (x y : KeyLine) → 1 < length lines → x ≡ get_or lines 0 x → y ≡ get_or lines 1 y → is_line_before x y ≡ true → AreUp lines ↔ AreUp whole → AreUp (take (length lines - 1) (drop 1 lines)) ↔ AreUp whole
goes_up lines whole x y lt e f up so_far =
    let step = behind_first lines x y lt e f up in
    let rest : take (length lines - 1) (drop 1 lines) ≡ drop 1 lines = ap (λ n. take n (drop 1 lines)) (sym (length-drop 1 lines)) ∙ take-length (drop 1 lines) in
    subst (λ l. AreUp l ↔ AreUp whole) (sym rest) (λ u. so_far.0 (step.0 u), λ u. step.1 (so_far.1 u))

-- the test ends
pub ends_up : (lines : List KeyLine) → length lines ≤ 1 → AreUp lines
ends_up [] le = tt
ends_up (x ∷ []) le = (tt, tt)
ends_up (x ∷ y ∷ lines) le = absurd (omega arith)
