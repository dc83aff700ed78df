-- Files by path, one more at a time.
use Rattle.std.proofs.Common.{◌≡◌, ◌⊎◌, inl, inr, ℕ, List, [], ◌∷◌, ◌++◌, Bool, true, false, cond, Option, Some, None, refl, sym, ◌∙◌, ap, subst}
use Rattle.std.specs.Prelude.{IsSome, find, option_map}
use Rattle.std.specs.Option.{is_some}
use Rattle.std.proofs.lemmas.List.Folds.{find-append}
use Rattle.std.specs.Option.{option_or}
use Rattle.std.specs.Str.{bytes_eq}
use Rattle.std.specs.String.{string_bytes, string_cmp}
use Rattle.std.specs.Ordering.{nat_cmp}
use Rattle.std.specs.Cmp.Lexicographic.{slice_cmp}
use Rattle.std.specs.BTreeMap.{get_by_text, UpdatesBy}
use Rattle.std.proofs.lemmas.Bool.{false≢true}
use Rattle.std.proofs.lemmas.Map.Text.{btree_map_updates_text}
use Rattle.std.proofs.lemmas.Slice.Eq.{bytes_eq-Decides}
use Rattle.tree_model.specs.Path.{IsClean}
use Rattle.outside_traits.proofs.Puts.{bool_cases}
use Rattle.outside_mem.specs.Layers.{FileMap, bytes_at, AreFrom, with_file}

-- what is held at each path
abbrev Held : Type 0
Held = List ℕ → Option (List ℕ)

-- nothing else
or_none : (o : Option (List ℕ)) → option_or o None ≡ o
or_none None = refl
or_none (Some b) = refl

-- where nothing is found the other counts
or_first : (o w : Option (List ℕ)) → is_some o ≡ false → w ≡ option_or o w
or_first None w none = refl
or_first (Some b) w none = absurd (false≢true (sym none))

-- where none stands, the file is put
pub with_new : (m n : FileMap) (path bytes : List ℕ) → is_some (get_by_text m path) ≡ false → UpdatesBy string_cmp (λ k. slice_cmp nat_cmp path (string_bytes k)) m n (Some bytes) → get_by_text n ≡ with_file path bytes (get_by_text m)
with_new m n path bytes none updates = λ i q. at q i
  where
    at : (q : List ℕ) → get_by_text n q ≡ with_file path bytes (get_by_text m) q
    at q = btree_map_updates_text path m n (Some bytes) updates q ∙ elim (bool_cases (bytes_eq path q)) [
      | inl same ↦
          ap (λ (b : Bool). cond b (Some bytes) (get_by_text m q)) same
          ∙ or_first (get_by_text m q) (Some bytes) (subst (λ (p : List ℕ). is_some (get_by_text m p) ≡ false) ((bytes_eq-Decides path q).0 same) none)
          ∙ ap (λ (b : Bool). option_or (get_by_text m q) (cond b (Some bytes) None)) (sym same)
      | inr differ ↦
          ap (λ (b : Bool). cond b (Some bytes) (get_by_text m q)) differ ∙ sym (or_none (get_by_text m q))
          ∙ ap (λ (b : Bool). option_or (get_by_text m q) (cond b (Some bytes) None)) (sym differ)
    ]

-- the first of two, and then a part of it
mapped_or : (a b : Option (List ℕ × List ℕ)) → option_map (λ f. f.1) (option_or a b) ≡ option_or (option_map (λ f. f.1) a) (option_map (λ f. f.1) b)
mapped_or None b = refl
mapped_or (Some f) b = refl

-- the first file at a path, with one file more behind
bytes_push : (files : List (List ℕ × List ℕ)) (f : List ℕ × List ℕ) (q : List ℕ) → bytes_at (files ++ f ∷ []) q ≡ option_or (bytes_at files q) (cond (bytes_eq f.0 q) (Some f.1) None)
bytes_push files f q =
    ap (option_map (λ (g : List ℕ × List ℕ). g.1)) (find-append (λ (g : List ℕ × List ℕ). bytes_eq g.0 q) files (f ∷ []))
    ∙ mapped_or (find (λ (g : List ℕ × List ℕ). bytes_eq g.0 q) files) (find (λ (g : List ℕ × List ℕ). bytes_eq g.0 q) (f ∷ []))
    ∙ ap (option_or (bytes_at files q)) (last (bytes_eq f.0 q))
  where
    last : (b : Bool) → option_map (λ (g : List ℕ × List ℕ). g.1) (cond b (Some f) None) ≡ cond b (Some f.1) None
    last true = refl
    last false = refl

-- what is held after one file more is that file, or was held before
some_either : (o : Option (List ℕ)) (b : Bool) (x : List ℕ) → IsSome (option_or o (cond b (Some x) None)) → (b ≡ true) ⊎ IsSome o
some_either o true x some = inl refl
some_either o false x some = inr (subst IsSome (or_none o) some)

-- one clean file more
pub from_clean : (files : List (List ℕ × List ℕ)) (held held' : Held) (f : List ℕ × List ℕ) → IsClean f.0 → held' ≡ with_file f.0 f.1 held → AreFrom files held → AreFrom (files ++ f ∷ []) held'
from_clean files held held' f clean is from = record {
  first = λ q q_clean. ap (λ (h : Held). h q) is ∙ ap (λ (o : Option (List ℕ)). option_or o (cond (bytes_eq f.0 q) (Some f.1) None)) (from.first q q_clean) ∙ sym (bytes_push files f q);
  clean = λ q some. elim (some_either (held q) (bytes_eq f.0 q) f.1 (subst (λ (h : Held). IsSome (h q)) is some)) [
    | inl same ↦ subst IsClean ((bytes_eq-Decides f.0 q).0 same) clean
    | inr was ↦ from.clean q was
  ];
}

-- one file more, at a path that isn't clean
pub from_unclean : (files : List (List ℕ × List ℕ)) (held : Held) (f : List ℕ × List ℕ) → (IsClean f.0 → ⊥) → AreFrom files held → AreFrom (files ++ f ∷ []) held
from_unclean files held f unclean from = record {
  first = λ q q_clean. from.first q q_clean ∙ sym (or_none (bytes_at files q))
      ∙ ap (λ (b : Bool). option_or (bytes_at files q) (cond b (Some f.1) None)) (sym (differ q q_clean)) ∙ sym (bytes_push files f q);
  clean = from.clean;
}
  where
    differ : (q : List ℕ) → IsClean q → bytes_eq f.0 q ≡ false
    differ q q_clean = elim (bool_cases (bytes_eq f.0 q)) [
      | inl same ↦ absurd (unclean (subst IsClean (sym ((bytes_eq-Decides f.0 q).0 same)) q_clean))
      | inr unlike ↦ unlike
    ]
