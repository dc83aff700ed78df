-- What questions to a disk that is looked at leave, and what becomes of a fault.
use Rattle.std.proofs.Common.{◌≡◌, ◌∙◌, sym, ap, subst, refl, ℕ, arith, inl, false, List, Option, Some, None}
use Rattle.std.specs.Prelude.{unwrap_or}
use Rattle.std.specs.Option.{is_some}
use Rattle.std.proofs.lemmas.Bool.{true≢false}
use Rattle.std.proofs.lemmas.Option.{none-some, same_Some}
use Rattle.tree_model.specs.declared.hash.Hash.{Hash}
use Rattle.outside_traits.specs.Fault.{Counts}
use Rattle.outside_traits.specs.Passes.{Passes, Same}
use Rattle.outside_traits.specs.Story.{Story}
use Rattle.meta_model.specs.declared.plan.Plan.{Plan}
use Rattle.store_model.specs.declared.signature.EquivRow.{EquivRow}
use Rattle.store_model.specs.declared.signature.SigRecord.{SigRecord}
use Rattle.store_model.specs.Clashes.{AreToldApart}
use Rattle.store_model.specs.Rows.{row_at}
use Rattle.store_model.specs.Spelling.{name_of, signature_bytes, text_name}
use Rattle.run_model.specs.Causes.{IsClashOf}
use Rattle.build_store.specs.Faults.{IsClash, IsCollision, is_disk_fault}
use Rattle.build_store.proofs.Texts.{text_name_is}
use Rattle.build_store.specs.declared.fault.StoreFault.{StoreFault}
use Rattle.build_store.specs.declared.fault.StoreFault.TheVariants as fault_of
use Rattle.setscene_plan.specs.View.{IsAskedOf, IsNamedFor}
use Rattle.setscene_plan.specs.declared.probe.ProbeFault.{ProbeFault}
use Rattle.why_text.specs.Looks.{IsMet, IsWhyFault, Keeps, Looks, fault_count}

-- ---- faults

-- the name and the bytes of a signature for which an output is asked
pub asked_name : (plan : Plan) (rows : List EquivRow) (number : ℕ) (sig : SigRecord) → IsAskedOf (record { plan = plan; rows = rows }) number sig → IsNamedFor (record { plan = plan; rows = rows }) (name_of sig) (signature_bytes sig)
asked_name plan rows number sig asked = record { number = number; signed = asked.signed; is_signed = asked.is_signed; spelled = ap signature_bytes asked.is; named = ap name_of asked.is }

-- what a collision is where the name is that of the signature of a task of the plan
clash_of : (plan : Plan) (rows : List EquivRow) (at name : Hash) (bytes held given : List ℕ) → IsNamedFor (record { plan = plan; rows = rows }) at bytes → IsCollision rows at bytes name held given → IsClashOf plan rows name held given
clash_of plan rows at name bytes held given named clash = record {
  number = named.number;
  signed = named.signed;
  is_signed = named.is_signed;
  meet = inl (
    clash.row,
    ap (row_at rows) (sym named.named) ∙ clash.is_row,
    subst (λ (h : Hash). AreToldApart clash.row.sig (signature_bytes named.signed.sig) h name held given) named.named (subst (λ (b : List ℕ). AreToldApart clash.row.sig b at name held given) named.spelled clash.told),
  );
  differ = clash.told.differ;
  held_name = clash.told.held_name;
  given_name = clash.told.given_name;
}

-- a text that is named for a task has the name that its short part gives
pub named_text : (plan : Plan) (rows : List EquivRow) (name : Hash) (bytes : List ℕ) → IsNamedFor (record { plan = plan; rows = rows }) name bytes → name ≡ text_name bytes
named_text plan rows name bytes named = named.named ∙ sym (text_name_is named.signed.sig) ∙ ap text_name (sym named.spelled)

-- why a question about a signature is refused
pub clash_met : (plan : Plan) (rows : List EquivRow) (name : Hash) (bytes : List ℕ) (before now : ℕ) (fault : StoreFault) → IsNamedFor (record { plan = plan; rows = rows }) name bytes → IsClash rows name bytes fault → Counts before now (is_disk_fault fault) → IsMet plan rows before now fault
clash_met plan rows name bytes before now fault_of.Disk named clash counts = counts
clash_met plan rows name bytes before now (fault_of.Collision at held given) named clash counts = (counts.stayed, clash_of plan rows name at bytes held given named clash)
clash_met plan rows name bytes before now (fault_of.Unsteady pn task held given) named clash counts = absurd clash
clash_met plan rows name bytes before now fault_of.Memory named clash counts = counts.stayed

-- a count that stands still
pub counts_none : (count : ℕ) (fault : StoreFault) → is_disk_fault fault ≡ false → Counts count count (is_disk_fault fault)
counts_none count fault rests = subst (Counts count count) (sym rests) (record { later = omega arith; rose = tt; stayed = refl })

some_or : {A : Type 0} (x : Option A) (y : A) → x ≡ None → x ≡ Some y → ⊥
some_or x y none some = none-some y (sym none ∙ some)

-- a question that met a fault, which is kept
pub looks_met : {D : Type 0} (plan : Plan) (rows : List EquivRow) (tells : Type 0) (story : D → Story) (faults : D → ℕ) (a b : D) (f g : Option StoreFault) (fault : StoreFault) (answer : ProbeFault)
    → (tells → Passes (story a) (story b) Same) → f ≡ None → IsMet plan rows (faults a) (faults b) fault → Keeps fault f g answer → Looks plan rows tells story faults a b f g
looks_met plan rows tells story faults a b f g fault answer images none why keeps = record {
  images = images;
  stays = λ x is. absurd (some_or f x none is);
  none = λ was is. count_same fault why keeps is;
  met = λ x was is. met_by fault why keeps x is;
}
  where
    count_same : (y : StoreFault) → IsMet plan rows (faults a) (faults b) y → Keeps y f g answer → g ≡ None → faults b ≡ faults a
    count_same fault_of.Disk w k is = absurd (some_or g fault_of.Disk is k.0)
    count_same (fault_of.Collision name held given) w k is = absurd (some_or g (fault_of.Collision name held given) is k.0)
    count_same (fault_of.Unsteady pn task held given) w k is = absurd w
    count_same fault_of.Memory w k is = w

    met_by : (y : StoreFault) → IsMet plan rows (faults a) (faults b) y → Keeps y f g answer → (x : StoreFault) → g ≡ Some x → IsMet plan rows (faults a) (faults b) x
    met_by fault_of.Disk w k x is = subst (λ (z : StoreFault). IsMet plan rows (faults a) (faults b) z) (same_Some fault_of.Disk x (sym k.0 ∙ is)) w
    met_by (fault_of.Collision name held given) w k x is = subst (λ (z : StoreFault). IsMet plan rows (faults a) (faults b) z) (same_Some (fault_of.Collision name held given) x (sym k.0 ∙ is)) w
    met_by (fault_of.Unsteady pn task held given) w k x is = absurd w
    met_by fault_of.Memory w k x is = absurd (some_or g x (k.0 ∙ none) is)

-- ... and one that met none
pub looks_past : {D : Type 0} (plan : Plan) (rows : List EquivRow) (tells : Type 0) (story : D → Story) (faults : D → ℕ) (a b : D) (f : Option StoreFault)
    → (tells → Passes (story a) (story b) Same) → f ≡ None → faults b ≡ faults a → Looks plan rows tells story faults a b f f
looks_past plan rows tells story faults a b f images none same = record {
  images = images;
  stays = λ x is. absurd (some_or f x none is);
  none = λ was is. same;
  met = λ x was is. absurd (some_or f x was is);
}

-- ---- what becomes of them

pub count_none : (g : Option StoreFault) → fault_count g ≡ 0 → g ≡ None
count_none None is = refl
count_none (Some x) is = absurd (omega (arith, is))

module _ {D : Type 0} (plan : Plan) (rows : List EquivRow) (tells : Type 0) (story : D → Story) (faults : D → ℕ) (a b : D) where
  -- why nothing is told
  pub fault_by : (g : Option StoreFault) → Looks plan rows tells story faults a b None g → IsWhyFault plan (unwrap_or g fault_of.Memory)
  fault_by None looks = tt
  fault_by (Some x) looks = by x (looks.met x refl refl)
    where
      by : (y : StoreFault) → IsMet plan rows (faults a) (faults b) y → IsWhyFault plan y
      by fault_of.Disk m = tt
      by (fault_of.Collision name held given) m = (rows, m.1)
      by (fault_of.Unsteady pn task held given) m = absurd m
      by fault_of.Memory m = tt

  same_counts : faults b ≡ faults a → Counts (faults a) (faults b) false
  same_counts same = record { later = omega (arith, same); rose = tt; stayed = same }

  pub counts_by : (g : Option StoreFault) → Looks plan rows tells story faults a b None g → Counts (faults a) (faults b) (is_disk_fault (unwrap_or g fault_of.Memory))
  counts_by None looks = same_counts (looks.none refl refl)
  counts_by (Some x) looks = by x (looks.met x refl refl)
    where
      by : (y : StoreFault) → IsMet plan rows (faults a) (faults b) y → Counts (faults a) (faults b) (is_disk_fault y)
      by fault_of.Disk m = m
      by (fault_of.Collision name held given) m = same_counts m.0
      by (fault_of.Unsteady pn task held given) m = absurd m
      by fault_of.Memory m = same_counts m

  pub counts_fine : Looks plan rows tells story faults a b None None → Counts (faults a) (faults b) false
  counts_fine looks = same_counts (looks.none refl refl)

-- a fault that isn't kept
pub none_kept : (g : Option StoreFault) → is_some g ≡ false → g ≡ None
none_kept None is = refl
none_kept (Some x) is = absurd (true≢false is)
