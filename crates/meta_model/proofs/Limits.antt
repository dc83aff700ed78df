-- The tests of an output's limits, and what they mean.
use Rattle.std.proofs.Common.{◌≡◌, ◌⊎◌, inl, inr, ◌∙◌, ap, sym, refl, ℕ, zero, suc, ◌<◌, ◌≤◌, Bool, true, false, List, [], ◌∷◌, length, arith, All, get_or}
use Rattle.std.specs.Prelude.{◌||◌, nat_lt, slice_index_or}
use Rattle.std.specs.List.{list_any}
use Rattle.std.specs.Bool.{Decides}
use Rattle.std.proofs.lemmas.Bool.{false≢true}
use Rattle.std.proofs.lemmas.Bool.Decides.{Decides-ltb}
use Rattle.std.proofs.lemmas.List.Folds.{list_any_none}
use Rattle.tree_model.specs.declared.entry.Entry.{Entry}
use Rattle.tree_model.specs.declared.tree.Size.{Size}
use Rattle.tree_model.specs.Size.{Exceeds}
use Rattle.meta_model.specs.CleanBuild.{Entries, exceeds, is_long}
use Rattle.meta_model.proofs.Bools.{either_way, or_first, or_later}

-- a test that can't pass fails
fails : (b : Bool) (P : Type 0) → Decides b P → (P → ⊥) → b ≡ false
fails true P d never = absurd (never (d.0 refl))
fails false P d never = refl

-- the tests of the three numbers
pub exceeds_true : (size limit : Size) → Exceeds size limit → exceeds size limit ≡ true
exceeds_true size limit (inl more) = or_first _ _ ((Decides-ltb limit.entries size.entries).1 more)
exceeds_true size limit (inr (inl more)) = or_later _ _ (or_first _ _ ((Decides-ltb limit.largest size.largest).1 more))
exceeds_true size limit (inr (inr more)) = or_later _ _ (or_later _ _ ((Decides-ltb limit.bytes size.bytes).1 more))

pub exceeds_false : (size limit : Size) → (Exceeds size limit → ⊥) → exceeds size limit ≡ false
exceeds_false size limit never =
    let first = fails (nat_lt limit.entries size.entries) (limit.entries < size.entries) (Decides-ltb limit.entries size.entries) (λ more. never (inl more)) in
    let second = fails (nat_lt limit.largest size.largest) (limit.largest < size.largest) (Decides-ltb limit.largest size.largest) (λ more. never (inr (inl more))) in
    let third = fails (nat_lt limit.bytes size.bytes) (limit.bytes < size.bytes) (Decides-ltb limit.bytes size.bytes) (λ more. never (inr (inr more))) in
    ap (λ (b : Bool). b || (nat_lt limit.largest size.largest || nat_lt limit.bytes size.bytes)) first
    ∙ ap (λ (b : Bool). b || nat_lt limit.bytes size.bytes) second ∙ third

-- no path is long, or one is
pub long_false : (tree : Entries) → All (λ e. length e.0 ≤ 3072) tree → list_any is_long tree ≡ false
long_false tree short = list_any_none is_long tree (λ k d lt. fails (is_long (get_or tree k d)) (3072 < length (get_or tree k d).0) (Decides-ltb 3072 (length (get_or tree k d).0)) (λ more. let h = short k d lt in omega arith))

pub long_true : (tree : Entries) → (All (λ e. length e.0 ≤ 3072) tree → ⊥) → list_any is_long tree ≡ true
long_true [] never = absurd (never (λ k d lt. absurd (omega arith)))
long_true (e ∷ tree) never = elim (either_way (is_long e)) [
  | inl long ↦ or_first _ _ long
  | inr short ↦ or_later _ _ (long_true tree (λ rest. never (λ k d lt. each k d lt (at_most short) rest)))
]
  where
    at_most : is_long e ≡ false → length e.0 ≤ 3072
    at_most short = elim (le_or_gt (length e.0) 3072) [ inl le ↦ le | inr more ↦ absurd (false≢true (sym short ∙ (Decides-ltb 3072 (length e.0)).1 more)) ]
      where
        le_or_gt : (a b : ℕ) → (a ≤ b) ⊎ (b < a)
        le_or_gt zero b = inl (omega arith)
        le_or_gt (suc a) zero = inr (omega arith)
        le_or_gt (suc a) (suc b) = elim (le_or_gt a b) [ inl le ↦ inl (omega arith) | inr gt ↦ inr (omega arith) ]

    each : (k : ℕ) (d : List ℕ × Entry) → k < length (e ∷ tree) → length e.0 ≤ 3072 → All (λ x. length x.0 ≤ 3072) tree → length (slice_index_or (e ∷ tree) k d).0 ≤ 3072
    each zero d lt here rest = here
    each (suc k) d lt here rest = rest k d (omega arith)
