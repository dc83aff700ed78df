-- Which item of an open publication stands at a place.
use Rattle.std.proofs.Common.{◌≡◌, ◌∙◌, sym, ap, refl, ℕ, ◌+◌, ◌<◌, ◌≤◌, ◌-◌, List, ◌∷◌, ◌++◌, length, get_or, drop, map, Option, Some, None, arith, length-append, add-one}
use Rattle.std.proofs.Math.ListN.{get_or-append}
use Rattle.std.proofs.Math.Seq.{drop-cons, get_or-append_right}
use Rattle.std.proofs.lemmas.List.{get_or-map, length-map}
use Rattle.tree_model.specs.declared.entry.Entry.{Entry}
use Rattle.tree_model.specs.declared.hash.Hash.{Hash}
use Rattle.tree_model.specs.Path.{inside}
use Rattle.meta_model.specs.CleanBuild.{Entries}
use Rattle.store_model.specs.Available.{object_folder}
use Rattle.store_model.specs.Publication.{work_at}
use Rattle.build_store.specs.Items.{Item, removal, writing}
use Rattle.build_store.specs.Noting.{writings}
use Rattle.build_store.specs.OpenOnes.{shared_writings}

pub length_shared : (object : Option Hash) (tree : Entries) (unihash : Hash) → object ≡ Some unihash → length (shared_writings object tree) ≡ length tree
length_shared None tree unihash is = absurd (let n : None ≡ Some unihash = is in cc)
length_shared (Some other) tree unihash is = length-map tree (λ e. writing (inside (object_folder other) e.0) e.1)

pub length_none : (object : Option Hash) (tree : Entries) → object ≡ None → length (shared_writings object tree) ≡ 0
length_none None tree is = refl
length_none (Some other) tree is = absurd (let n : Some other ≡ None = is in cc)

pub few_shared : (object : Option Hash) (tree : Entries) → length (shared_writings object tree) ≤ length tree
few_shared None tree = omega arith
few_shared (Some other) tree = omega (arith, length-map tree (λ e. writing (inside (object_folder other) e.0) e.1))

-- an item of the object
pub at_object : (object : Option Hash) (tree : Entries) (unihash : Hash) → object ≡ Some unihash → (k : ℕ) (d : Item) (e : List ℕ × Entry) → k < length tree → get_or (shared_writings object tree) k d ≡ writing (inside (object_folder unihash) (get_or tree k e).0) (get_or tree k e).1
at_object None tree unihash is k d e lt = absurd (let n : None ≡ Some unihash = is in cc)
at_object (Some other) tree unihash is k d e lt =
    let same : other ≡ unihash = (let n : Some other ≡ Some unihash = is in cc) in
    get_or-map (λ (w : List ℕ × Entry). writing (inside (object_folder other) w.0) w.1) tree k e d lt ∙ ap (λ (h : Hash). writing (inside (object_folder h) (get_or tree k e).0) (get_or tree k e).1) same

-- what an item of the object writes
pub at_shared : (object : Option Hash) (tree : Entries) (k : ℕ) → k < length (shared_writings object tree) → (d : Item) (e : List ℕ × Entry) → (k < length tree) × ((unihash : Hash) × (object ≡ Some unihash) × (get_or (shared_writings object tree) k d ≡ writing (inside (object_folder unihash) (get_or tree k e).0) (get_or tree k e).1))
at_shared None tree k lt d e = absurd (omega (arith, lt))
at_shared (Some unihash) tree k lt d e =
    let within : k < length tree = omega (arith, lt, length-map tree (λ e. writing (inside (object_folder unihash) e.0) e.1)) in
    (within, (unihash, refl, at_object (Some unihash) tree unihash refl k d e within))

module _ (folder : List ℕ) (extra : List (List ℕ)) (tree : Entries) (object : Option Hash) where
  abbrev pub behind : List Item
  behind = writings (work_at folder) tree ++ shared_writings object tree

  abbrev pub items : List Item
  items = map removal extra ++ behind

  pub length_items : length items ≡ length extra + (length tree + length (shared_writings object tree))
  length_items = omega (arith, length-append (map removal extra) behind, length-append (writings (work_at folder) tree) (shared_writings object tree), length-map extra removal, length-map tree (λ e. writing (inside (work_at folder) e.0) e.1))

  pub at_removal : (k : ℕ) (d : Item) (e : List ℕ) → k < length extra → get_or items k d ≡ removal (get_or extra k e)
  at_removal k d e lt = get_or-append (map removal extra) behind d k (omega (arith, lt, length-map extra removal)) ∙ get_or-map removal extra k e d lt

  at_behind : (k : ℕ) (d : Item) → length extra ≤ k → get_or items k d ≡ get_or behind (k - length extra) d
  at_behind k d le = get_or-append_right (map removal extra) behind k d (omega (arith, le, length-map extra removal)) ∙ ap (λ (n : ℕ). get_or behind (k - n) d) (length-map extra removal)

  pub at_work : (k : ℕ) (d : Item) (e : List ℕ × Entry) → length extra ≤ k → k - length extra < length tree → get_or items k d ≡ writing (inside (work_at folder) (get_or tree (k - length extra) e).0) (get_or tree (k - length extra) e).1
  at_work k d e le lt =
      at_behind k d le
      ∙ get_or-append (writings (work_at folder) tree) (shared_writings object tree) d (k - length extra) (omega (arith, lt, length-map tree (λ e. writing (inside (work_at folder) e.0) e.1)))
      ∙ get_or-map (λ (w : List ℕ × Entry). writing (inside (work_at folder) w.0) w.1) tree (k - length extra) e d lt

  pub at_last : (k : ℕ) (d : Item) → length extra ≤ k → length tree ≤ k - length extra → get_or items k d ≡ get_or (shared_writings object tree) (k - length extra - length tree) d
  at_last k d le more =
      let count = length-map tree (λ (e : List ℕ × Entry). writing (inside (work_at folder) e.0) e.1) in
      at_behind k d le
      ∙ get_or-append_right (writings (work_at folder) tree) (shared_writings object tree) (k - length extra) d (omega (arith, more, count))
      ∙ ap (λ (n : ℕ). get_or (shared_writings object tree) (k - length extra - n) d) count

-- the item at a place is the next one
pub next_item : (items : List Item) (k : ℕ) (d : Item) → k < length items → drop k items ≡ get_or items k d ∷ drop (k + 1) items
next_item items k d lt = drop-cons items k d lt ∙ ap (λ (n : ℕ). get_or items k d ∷ drop n items) (sym (add-one k))
