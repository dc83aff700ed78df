-- Lines that are marked by their places are closed where their places are.
use Rattle.std.proofs.Common.{◌≡◌, ◌∙◌, sym, ap, ℕ, Bool, true, List, length, get_or, inl, inr, ◌⊎◌}
use Rattle.std.specs.Prelude.{Contains}
use Rattle.std.proofs.lemmas.List.Elements.{Contains-get_or}
use Rattle.tree_model.specs.declared.hash.Hash.{Hash}
use Rattle.store_model.specs.declared.signature.DepLine.{DepLine}
use Rattle.store_model.specs.Spelling.{name_of}
use Rattle.store_model.specs.Origins.{Book, Line}
use Rattle.store_model.specs.Valid.{IsNamedAlike, IsNamedBefore, StandsIn}
use Rattle.store_model.proofs.Standing.{stands_earlier}
use Rattle.store_keep.specs.Keep.{AreClosed, Names}
use Rattle.book_change.specs.Marking.{AreEdgesOf, KeepsMarked, MarkedIsClosed}

module _ (book : Book) (edges : List (List ℕ)) (marks : List Bool) (keep : Hash → Bool) (are : AreEdgesOf book edges) (closed : AreClosed edges marks) (told : KeepsMarked book marks keep) (before : Book) (line : Line) (s : StandsIn book before line) (kept : keep (name_of line.sig) ≡ true) where
  -- an earlier line stays whose place is among those of the line
  stays : (behind : Book) (earlier : Line) → StandsIn before behind earlier → Names edges (length before) (length behind) → keep (name_of earlier.sig) ≡ true
  stays behind earlier t named = told behind earlier (stands_earlier book before behind line earlier s t) ∙ closed (length before) (length behind) (sym (told before line s) ∙ kept) named

  dep_stays : (dep : DepLine) → Contains line.sig.deps dep → IsNamedBefore before dep → keep dep.name ≡ true
  dep_stays dep c n = ap keep (sym n.name) ∙ stays n.behind n.line n.stands (are.deps before n.behind line n.line dep s n.stands c n.name)

  unihash_stays : (line.unihash ≡ name_of line.sig) ⊎ IsNamedAlike before line → keep line.unihash ≡ true
  unihash_stays (inl own) = ap keep own ∙ kept
  unihash_stays (inr f) = ap keep f.name ∙ stays f.behind f.first f.stands (are.unihash before f.behind line f.first s f.stands f.name)

pub marked_is_closed : MarkedIsClosed
marked_is_closed gives reading book edges marks keep valid are closed told before line s kept =
    let v = valid before line s in
    record {
      deps = λ i d inside. dep_stays book edges marks keep are closed told before line s kept (get_or line.sig.deps i d) (Contains-get_or line.sig.deps i d inside) (v.deps i d inside);
      unihash = unihash_stays book edges marks keep are closed told before line s kept v.named;
    }
