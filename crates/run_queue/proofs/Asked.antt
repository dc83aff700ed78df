-- What questions leave of a store, and what answers mean.
use Rattle.std.proofs.Common.{◌≡◌, ◌∙◌, sym, ap, subst, refl, ℕ, ◌<◌, arith, Bool, true, false, List, Option, Some, None, inl, inr}
use Rattle.std.specs.Prelude.{IfOk, Result, Ok, Err, unwrap_or}
use Rattle.std.proofs.lemmas.Option.{none-some, same_Some}
use Rattle.tree_model.specs.declared.hash.Hash.{Hash}
use Rattle.outside_traits.specs.Fault.{Counts, Rose}
use Rattle.outside_traits.specs.Passes.{Passes, Same}
use Rattle.outside_traits.specs.Store.{Store}
use Rattle.outside_traits.specs.Story.{Story}
use Rattle.meta_model.specs.declared.event.Avail.{Avail}
use Rattle.meta_model.specs.declared.plan.Plan.{Plan}
use Rattle.meta_model.specs.declared.plan.PlanTask.{PlanTask}
use Rattle.store_model.specs.declared.signature.EquivRow.{EquivRow}
use Rattle.store_model.specs.declared.signature.SigRecord.{SigRecord}
use Rattle.store_model.specs.Available.{IsAvailable}
use Rattle.store_model.specs.Spelling.{text_name}
use Rattle.build_store.specs.Faults.{IsClash, is_disk_fault}
use Rattle.build_store.proofs.Texts.{text_name_is}
use Rattle.build_store.specs.View.{SameBooks, View, signed_by}
use Rattle.build_store.specs.declared.fault.StoreFault.{StoreFault}
use Rattle.build_store.specs.declared.fault.StoreFault.TheVariants as fault_of
use Rattle.setscene_plan.specs.declared.probe.ProbeFault.{ProbeFault}
use Rattle.sig_gen.specs.Signing.{signature_by}
use Rattle.setscene_plan.specs.declared.replan.Replan.{Replan}
use Rattle.setscene_plan.specs.Replans.{IsCurrent, IsSettled, avail_in, need_in, unihashes_in}
use Rattle.setscene_plan.specs.View.{Follows, IsNamedFor}
use Rattle.setscene_plan.proofs.Meanings.{Yields, current_follows, settled_yields}
use Rattle.run_queue.specs.Asking.{Asks, Earlier, IsMet, IsUnknown, Keeps, Means, earlier_in, kept_or_meant, meant, nothing_earlier}
use Rattle.run_queue.specs.Seen.{no_meaning}
use Rattle.run_queue.proofs.Causing.{clash_of}

-- ---- what questions leave

some_or : {A : Type 0} (x : Option A) (y : A) → x ≡ None → x ≡ Some y → ⊥
some_or x y none some = let e : None ≡ Some y = sym none ∙ some in cc

module _ {D : Type 0} (plan : Plan) (tells : Type 0) (story : D → Story) (faults : D → ℕ) where
  -- one that met a fault, which is kept
  pub asks_met : (a b : View D) (f g : Option StoreFault) (fault : StoreFault) (answer : ProbeFault) → SameBooks a b → (tells → Passes (story a.disk) (story b.disk) Same) → f ≡ None → IsUnknown plan a.rows (faults a.disk) (faults b.disk) fault → Keeps fault f g answer → Asks plan tells story faults a b f g
  asks_met a b f g fault answer books images none why keeps = record {
    rows = books.rows;
    keys = books.keys;
    kept = books.kept;
    opened = books.opened;
    faultless = books.faultless;
    images = images;
    stays = λ x is. absurd (some_or f x none is);
    none = λ was is. count_same fault why keeps is;
    met = λ x was is. subst (λ (r : List EquivRow). IsMet plan r (faults b.disk) x) (sym books.rows) (met_by fault why keeps x is);
  }
    where
      count_same : (y : StoreFault) → IsUnknown plan a.rows (faults a.disk) (faults b.disk) y → Keeps y f g answer → g ≡ None → faults b.disk ≡ faults a.disk
      count_same fault_of.Disk w k is = absurd (some_or g fault_of.Disk is k.0)
      count_same (fault_of.Collision name held given) w k is = absurd (some_or g (fault_of.Collision name held given) is k.0)
      count_same (fault_of.Unsteady pn task held given) w k is = absurd w
      count_same fault_of.Memory w k is = w

      met_by : (y : StoreFault) → IsUnknown plan a.rows (faults a.disk) (faults b.disk) y → Keeps y f g answer → (x : StoreFault) → g ≡ Some x → IsMet plan a.rows (faults b.disk) x
      met_by fault_of.Disk w k x is = subst (λ (z : StoreFault). IsMet plan a.rows (faults b.disk) z) (same_Some fault_of.Disk x (sym k.0 ∙ is)) w
      met_by (fault_of.Collision name held given) w k x is = subst (λ (z : StoreFault). IsMet plan a.rows (faults b.disk) z) (same_Some (fault_of.Collision name held given) x (sym k.0 ∙ is)) w
      met_by (fault_of.Unsteady pn task held given) w k x is = absurd w
      met_by fault_of.Memory w k x is = absurd (some_or g x (k.0 ∙ none) is)

  -- why nothing is known
  pub unknown_by : (a b : View D) (g : Option StoreFault) → Asks plan tells story faults a b None g → IsUnknown plan b.rows (faults a.disk) (faults b.disk) (unwrap_or g fault_of.Memory)
  unknown_by a b None asks = asks.none refl refl
  unknown_by a b (Some x) asks = by x (asks.met x refl refl)
    where
      by : (y : StoreFault) → IsMet plan b.rows (faults b.disk) y → IsUnknown plan b.rows (faults a.disk) (faults b.disk) y
      by fault_of.Disk m = m
      by (fault_of.Collision name held given) m = m
      by (fault_of.Unsteady pn task held given) m = m
      by fault_of.Memory m = absurd m

pub counts_none : (count : ℕ) (fault : StoreFault) → is_disk_fault fault ≡ false → Counts count count (is_disk_fault fault)
counts_none count fault rests = subst (Counts count count) (sym rests) (record { later = omega arith; rose = tt; stayed = refl })

rose_above : (before now : ℕ) → Rose before now → 0 < now
rose_above before now rose = omega (arith, rose)

-- why a question about a signature is refused
-- a text that is named for a task has the name that its short part gives
pub named_text : (plan : Plan) (rows : List EquivRow) (name : Hash) (bytes : List ℕ) → IsNamedFor (record { plan = plan; rows = rows }) name bytes → name ≡ text_name bytes
named_text plan rows name bytes named = named.named ∙ sym (text_name_is named.signed.sig) ∙ ap text_name (sym named.spelled)

pub clash_unknown : (plan : Plan) (rows : List EquivRow) (name : Hash) (bytes : List ℕ) (before now : ℕ) (fault : StoreFault) → IsNamedFor (record { plan = plan; rows = rows }) name bytes → IsClash rows name bytes fault → Counts before now (is_disk_fault fault) → IsUnknown plan rows before now fault
clash_unknown plan rows name bytes before now fault_of.Disk named clash counts = rose_above before now counts.rose
clash_unknown plan rows name bytes before now (fault_of.Collision at held given) named clash counts = clash_of plan rows name at bytes held given named clash
clash_unknown plan rows name bytes before now (fault_of.Unsteady pn task held given) named clash counts = absurd clash
clash_unknown plan rows name bytes before now fault_of.Memory named clash counts = counts.stayed

-- what a store answers of a task that wasn't begun
pub told_here : (tells : Type 0) (held : Store) (rows : List EquivRow) (setscene : Bool) (own task : PlanTask) (sig : SigRecord) (before : Option Avail) (there : Avail) → before ≡ None → own ≡ task → (tells → IsAvailable held rows setscene (signed_by own sig) there) → Means tells held rows setscene task sig before there
told_here tells held rows setscene own task sig before there none same is =
    subst (λ (b : Option Avail). Means tells held rows setscene task sig b there) (sym none)
    (subst (λ (k : PlanTask). tells → IsAvailable held rows setscene (signed_by k sig) there) same is)

-- ---- answers that were kept before

-- where nothing was kept each answer is the store's
kept_none : (tells : Type 0) (held : Store) (rows : List EquivRow) (setscene : Bool) (tasks : List PlanTask) (begun : List (Option Avail)) → Follows (kept_or_meant nothing_earlier tells held rows setscene tasks begun) (meant tells held rows setscene tasks begun)
kept_none tells held rows setscene tasks begun t sig there (inl kept) = absurd (none-some true kept.needed)
kept_none tells held rows setscene tasks begun t sig there (inr is) = is

if_ok_on : {A E : Type 0} (r : Result A E) (P Q : A → Type 0) → ((a : A) → P a → Q a) → IfOk r P → IfOk r Q
if_ok_on (Ok a) P Q f is = f a is
if_ok_on (Err e) P Q f is = tt

-- what is known where nothing was kept before
pub first_current : (tells : Type 0) (held : Store) (rows : List EquivRow) (setscene : Bool) (begun : List (Option Avail)) (plan asked : Plan) (r : Result Replan ProbeFault) → asked ≡ plan
    → IfOk r (IsCurrent (kept_or_meant nothing_earlier tells held rows setscene asked.tasks begun) (record { plan = asked; rows = rows }))
    → IfOk r (λ made. IsCurrent (meant tells held rows setscene plan.tasks begun) (record { plan = plan; rows = rows }) made)
first_current tells held rows setscene begun plan asked r same is =
    if_ok_on r (IsCurrent (kept_or_meant nothing_earlier tells held rows setscene asked.tasks begun) (record { plan = asked; rows = rows }))
    (λ made. IsCurrent (meant tells held rows setscene plan.tasks begun) (record { plan = plan; rows = rows }) made)
    (λ made current. subst (λ (p : Plan). IsCurrent (meant tells held rows setscene p.tasks begun) (record { plan = p; rows = rows }) made) same
    (current_follows (kept_or_meant nothing_earlier tells held rows setscene asked.tasks begun) (meant tells held rows setscene asked.tasks begun) (record { plan = asked; rows = rows }) made (kept_none tells held rows setscene asked.tasks begun) current))
    is

-- an answer that is kept was kept
kept_yields : (tells : Type 0) (held : Store) (rows : List EquivRow) (setscene : Bool) (begun : List (Option Avail)) (plan : Plan) (known : Replan)
    → Yields no_meaning (kept_or_meant (earlier_in known) tells held rows setscene plan.tasks begun) (record { plan = plan; rows = rows }) (unihashes_in known) (need_in known) (avail_in known)
kept_yields tells held rows setscene begun plan known t task there member at is said = inl (record {
  needed = member;
  kept = is;
  signed = λ other here. ap (signature_by plan.tasks (unihashes_in known)) (same_Some task other (sym at ∙ here));
})

-- What a probe asks of what is known before it is brought up to date, where what was kept counts.
pub settled_asked : (e : Earlier) (tells : Type 0) (held : Store) (rows : List EquivRow) (setscene : Bool) (begun : List (Option Avail)) (plan asked : Plan) (task : ℕ) (known : Replan) → e ≡ earlier_in known → asked ≡ plan
    → IsSettled no_meaning (record { plan = plan; rows = rows }) task known → IsSettled (kept_or_meant e tells held rows setscene asked.tasks begun) (record { plan = asked; rows = rows }) task known
settled_asked e tells held rows setscene begun plan asked task known earlier same is =
    subst (λ (p : Plan). IsSettled (kept_or_meant e tells held rows setscene p.tasks begun) (record { plan = p; rows = rows }) task known) (sym same)
    (subst (λ (x : Earlier). IsSettled (kept_or_meant x tells held rows setscene plan.tasks begun) (record { plan = plan; rows = rows }) task known) (sym earlier)
    (settled_yields no_meaning (kept_or_meant (earlier_in known) tells held rows setscene plan.tasks begun) (record { plan = plan; rows = rows }) task known (kept_yields tells held rows setscene begun plan known) is))
