-- No value of a flag is one of EXPORT_FUNCTIONS.
use Rattle.std.proofs.Common.{◌≡◌, refl, ◌∙◌, ap, sym, ℕ, List, [], ◌∷◌, Bool, true, false, ◌&&◌, Option, Some, None, inl, inr, bytes_eq, codes, if◌then◌else◌}
use Rattle.meta_model.proofs.Bools.{either_way}
use Rattle.meta_model.specs.declared.entry.Op.{Op}
use Rattle.meta_model.specs.declared.entry.Op.TheVariants.{Set as Assign, Now, Soft, Weak, AddBlank, PutBlank, Add, Put}
use Rattle.meta_model.specs.declared.entry.EntryLine.{EntryLine}
use Rattle.meta_model.specs.declared.entry.EntryLine.TheVariants.{Set, Later, Flag, Unset, UnsetFlag, Exported, Task, NoTask}
use Rattle.meta_model.specs.Text.{is_in}
use Rattle.meta_model.specs.Slot.{Slot, nothing, with_value, with_soft, assigned}
use Rattle.meta_model.specs.Base.{may_export, value_after, flag_after, flag_from, flag_slot, flags_of}
use Rattle.value_maps.proofs.Naming.{in_flags}
use Rattle.datastore.proofs.Retelling.{clean, unset_clean}

soft : (text : List ℕ) (slot : Slot) (v : Option (List ℕ)) → slot.exported ≡ false → (with_soft text slot v).exported ≡ false
soft text slot None h = refl
soft text slot (Some v) h = h

given_by : (op : Op) (text : List ℕ) (slot : Slot) → slot.exported ≡ false → (assigned op text slot).exported ≡ false
given_by Assign text slot h = refl
given_by Now text slot h = refl
given_by Soft text slot h = soft text slot slot.value h
given_by Weak text slot h = h
given_by AddBlank text slot h = refl
given_by PutBlank text slot h = refl
given_by Add text slot h = refl
given_by Put text slot h = refl

either : (b : Bool) (x y : Slot) → x.exported ≡ false → y.exported ≡ false → (if b then x else y).exported ≡ false
either true x y h k = h
either false x y h k = k

after : (n f : List ℕ) (value slot : Slot) (l : EntryLine) → slot.exported ≡ false → (flag_after n f value slot l).exported ≡ false
after n f value slot (Set m op text) h = h
after n f value slot (Later m kind when text) h = h
after n f value slot (Flag m g op text) h = either (bytes_eq m n && bytes_eq g f) (assigned op text slot) slot (given_by op text slot h) h
after n f value slot (Unset m) h = either (bytes_eq m n) nothing slot refl h
after n f value slot (UnsetFlag m g) h = either (bytes_eq m n && bytes_eq g f) nothing slot refl h
after n f value slot (Exported class m) h = either (bytes_eq m n && (may_export value && bytes_eq f (codes "func"))) (with_value (codes "1") slot) slot refl h
after n f value slot (Task t before later) h = h
after n f value slot (NoTask t) h = h

from : (n f : List ℕ) (value slot : Slot) (list : List EntryLine) → slot.exported ≡ false → (flag_from n f value slot list).exported ≡ false
from n f value slot [] h = h
from n f value slot (l ∷ list) h = from n f (value_after n value l) (flag_after n f value slot l) list (after n f value slot l h)

unexported : (list : List EntryLine) (n f : List ℕ) → (flag_slot list n f).exported ≡ false
unexported list n f = from n f nothing nothing list refl

-- a slot without a mark is as it is told
pub clean_is : (slot : Slot) → slot.exported ≡ false → clean slot ≡ slot
clean_is slot h = ap (λ b. let made : Slot = record { value = slot.value; weak = slot.weak; exported = b } in made) (sym h)

-- a flag is as it is told
pub flag_told_is : (list : List EntryLine) (n f : List ℕ) → (if is_in f (flags_of list n) then clean (flag_slot list n f) else nothing) ≡ flag_slot list n f
flag_told_is list n f = elim (either_way (is_in f (flags_of list n))) [
  | inl t ↦ rw t (clean_is (flag_slot list n f) (unexported list n f))
  | inr t ↦ rw t (sym (unset_clean (flag_slot list n f) (sym (in_flags list n f) ∙ t)) ∙ clean_is (flag_slot list n f) (unexported list n f))
]
