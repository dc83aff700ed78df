-- Folders at which, and above which, nothing is held.
use Rattle.std.proofs.Common.{◌≡◌, ◌∙◌, sym, ap, refl, ℕ, ◌+◌, ◌<◌, true, false, true≢false, List, ◌∷◌, ◌++◌, length, get_or, take, drop, Option, Some, None, is_some, take-append-drop}
use Rattle.std.proofs.lemmas.List.{drop_more}
use Rattle.tree_model.specs.declared.entry.Entry.{Entry}
use Rattle.tree_model.specs.Path.{IsBelow}
use Rattle.outside_traits.specs.Store.{Store, IsOpen}

-- a test that finds nothing says that nothing is there
pub nothing_held : (o : Option Entry) → is_some o ≡ false → o ≡ None
nothing_held None e = refl
nothing_held (Some x) e = absurd (true≢false e)

pub something_held : (o : Option Entry) → is_some o ≡ true → o ≡ None → ⊥
something_held None e f = true≢false (sym e)
something_held (Some x) e f = cc

-- a path that ends before a slash of the folder is above it
pub above_at : (folder : List ℕ) (n : ℕ) → n < length folder → get_or folder n 0 ≡ 47 → IsBelow (take n folder) folder
above_at folder n lt is = (
  drop (n + 1) folder,
  sym (take-append-drop n folder) ∙ ap (λ (l : List ℕ). take n folder ++ l) (drop_more folder n 0 lt ∙ ap (λ (b : ℕ). b ∷ drop (n + 1) folder) is),
)

-- where something is held there, the folder isn't open
pub not_open : (folder : List ℕ) (n : ℕ) (held : Store) → n < length folder → get_or folder n 0 ≡ 47 → is_some (held (take n folder)) ≡ true → IsOpen folder held → ⊥
not_open folder n held lt is some open' = something_held (held (take n folder)) some (open'.above (take n folder) (above_at folder n lt is))
