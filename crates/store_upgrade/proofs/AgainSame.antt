-- Where no contents of two books clash, none of the same lines in other orders do.
use Rattle.std.proofs.Common.{◌∙◌, sym, ℕ, List, ◌⊎◌, inl, inr}
use Rattle.meta_model.specs.CleanBuild.{Entries, Gives}
use Rattle.store_model.specs.Origins.{Book, Reading}
use Rattle.store_move.specs.Formats.{Format, IsValidBook}
use Rattle.store_move.specs.Moves as of
use Rattle.store_move.specs.Moves.{HasNoClash, IsContent, IsTreeOf}
use Rattle.store_upgrade.proofs.Again.{IsReordered, same_origin}

tree_again : (form : Format) (gives : Gives) (reading : Reading) (book again : Book) → IsValidBook form gives reading book → IsReordered form book again
    → (tree : Entries) → IsTreeOf form gives reading again tree → IsTreeOf form gives reading book tree
tree_again form gives reading book again valid re tree (of.output before line t s e) =
    let l = re.only before line s in
    of.output l.0 line t l.1 (sym (same_origin form gives reading book again valid re before l.0 line s l.1) ∙ e)
tree_again form gives reading book again valid re tree (of.files before line s) = let l = re.only before line s in of.files l.0 line l.1

module _ (from to : Format) (gives : Gives) (reading : Reading) (book start olds again : Book) (valid : IsValidBook from gives reading book)
    (valid' : IsValidBook to gives reading start) (re : IsReordered from book olds) (re' : IsReordered to start again) where
  content_again : (bytes : List ℕ) → IsContent from to gives reading olds again bytes → IsContent from to gives reading book start bytes
  content_again bytes c = (c.0, by c.1, c.2)
    where
      by : IsTreeOf from gives reading olds c.0 ⊎ IsTreeOf to gives reading again c.0 → IsTreeOf from gives reading book c.0 ⊎ IsTreeOf to gives reading start c.0
      by (inl old) = inl (tree_again from gives reading book olds valid re c.0 old)
      by (inr new) = inr (tree_again to gives reading start again valid' re' c.0 new)

  pub no_clash_again : HasNoClash from to gives reading book start → HasNoClash from to gives reading olds again
  no_clash_again none a b has_a has_b same = none a b (content_again a has_a) (content_again b has_b) same
