-- The story of a disk in memory after one call more.
use Rattle.std.proofs.Common.{◌≡◌, ◌≢◌, inl, inr, subst, false, Result, Ok, Err, OnOk, OnErr, None, List, [], ◌∷◌, ◌++◌, ℕ, Option, reverse, sym, ap, ◌∙◌}
use Rattle.std.specs.Result.{is_err}
use Rattle.std.proofs.lemmas.Bool.{false≢true}
use Rattle.std.proofs.lemmas.List.{reverse-append}
use Rattle.tree_model.specs.declared.entry.Entry.{Entry}
use Rattle.tree_model.specs.Tree.{entry_at}
use Rattle.outside_traits.specs.declared.call.Call.{Call}
use Rattle.outside_traits.specs.Bench.{Entries}
use Rattle.outside_traits.specs.Store.{Store, put}
use Rattle.outside_traits.specs.Story.{Story, IsSound}
use Rattle.outside_traits.proofs.Puts.{put-same, put-other, path_cases}
use Rattle.outside_mem.specs.Kept.{story_by}

reverse_push : (calls : List Call) (call : Call) → reverse (calls ++ call ∷ []) ≡ call ∷ reverse calls
reverse_push calls call = reverse-append calls (call ∷ [])

-- one call more
pub story_after : (tree : Entries) (h : Store) (old new : List Call) (call : Call) → entry_at tree ≡ h → new ≡ old ++ call ∷ []
    → story_by tree new ≡ record { held = h; calls = call ∷ reverse old }
story_after tree h old new call is pushed = let e = ap reverse pushed ∙ reverse_push old call in λ i. record { held = is i; calls = e i }

-- a step taken or not
pub sound_either : {T E : Type 0} (r : Result T E) (s t new : Story) → OnOk r (new ≡ t) → OnErr r (new ≡ s) → IsSound s → IsSound t → IsSound new
sound_either (Ok v) s t new ok err was is = subst IsSound (sym ok) is
sound_either (Err e) s t new ok err was is = subst IsSound (sym err) was

-- what a rename leaves, where the target was written first
pub moved_apart : (h : Store) (p q : List ℕ) (x : Option Entry) → p ≢ q → put (put h q x) p None ≡ put (put h p None) q x
moved_apart h p q x ne = λ i r. at r i
  where
    at : (r : List ℕ) → put (put h q x) p None r ≡ put (put h p None) q x r
    at r = elim (path_cases r q) [
      | inl same ↦ put-other (put h q x) p r None (λ is. ne (sym is ∙ same)) ∙ put-same h q r x same ∙ sym (put-same (put h p None) q r x same)
      | inr other ↦ elim (path_cases r p) [
        | inl same ↦ put-same (put h q x) p r None same ∙ sym (put-other (put h p None) q r x other ∙ put-same h p r None same)
        | inr neither ↦ put-other (put h q x) p r None neither ∙ put-other h q r x other ∙ sym (put-other (put h p None) q r x other ∙ put-other h p r None neither)
      ]
    ]

pub moved_onto : (h : Store) (p q : List ℕ) (x : Option Entry) → p ≡ q → put h q x ≡ put (put h p None) q x
moved_onto h p q x is = λ i r. at r i
  where
    at : (r : List ℕ) → put h q x r ≡ put (put h p None) q x r
    at r = elim (path_cases r q) [
      | inl same ↦ put-same h q r x same ∙ sym (put-same (put h p None) q r x same)
      | inr other ↦ put-other h q r x other ∙ sym (put-other (put h p None) q r x other ∙ put-other h p r None (λ same. other (same ∙ is)))
    ]

-- the fact of an answer that was no error
pub ok_of : {T E : Type 0} (r : Result T E) (P : Type 0) → false ≡ is_err r → OnOk r P → P
ok_of (Ok v) P is ok = ok
ok_of (Err e) P is ok = absurd (false≢true is)
