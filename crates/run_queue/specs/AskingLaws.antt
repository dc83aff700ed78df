-- What is proved of the questions to a store: a trait asks for it.
use Rattle.std.proofs.Common.{◌≡◌, ◌∙◌, sym, ap, subst, refl, ℕ, Bool, List, Option, Some, None, slice_get, inl, inr}
use Rattle.std.proofs.Math.Nat.{le_refl}
use Rattle.std.proofs.lemmas.Option.{none-some, same_Some}
use Rattle.outside_traits.specs.Passes.{Passes, Same}
use Rattle.outside_traits.specs.Store.{Store}
use Rattle.outside_traits.specs.Story.{Story, moment}
use Rattle.outside_traits.proofs.Calls.{then_same}
use Rattle.meta_model.specs.declared.event.Avail.{Avail}
use Rattle.meta_model.specs.declared.plan.Plan.{Plan}
use Rattle.meta_model.specs.declared.plan.PlanTask.{PlanTask}
use Rattle.store_model.specs.declared.signature.EquivRow.{EquivRow}
use Rattle.store_model.specs.declared.signature.SigRecord.{SigRecord}
use Rattle.store_model.specs.Available.{IsAvailable}
use Rattle.build_store.specs.View.{View, signed_by}
use Rattle.build_store.specs.declared.fault.StoreFault.{StoreFault}
use Rattle.setscene_plan.specs.View.{Follows}
use Rattle.run_queue.specs.Asking.{Asks, Earlier, IsMet, Means, WasKept, answered_of, kept_or_meant, meant}

-- ---- what answers mean

means_on : (tells : Type 0) (held now : Store) (rows : List EquivRow) (setscene : Bool) (task : PlanTask) (sig : SigRecord) (before : Option Avail) (there : Avail) → (tells → held ≡ now) → Means tells held rows setscene task sig before there → Means tells now rows setscene task sig before there
means_on tells held now rows setscene task sig None there same is = λ t. subst (λ (h : Store). IsAvailable h rows setscene (signed_by task sig) there) (same t) (is t)
means_on tells held now rows setscene task sig (Some before) there same is = is

-- over the same they mean the same
pub meant_follows : (tells : Type 0) (held now : Store) (rows others : List EquivRow) (setscene counts : Bool) (tasks them : List PlanTask) (begun more : List (Option Avail)) → (tells → held ≡ now) → rows ≡ others → setscene ≡ counts → tasks ≡ them → begun ≡ more → Follows (meant tells held rows setscene tasks begun) (meant tells now others counts them more)
meant_follows tells held now rows others setscene counts tasks them begun more same r c ts b t sig there is task at =
    let here : slice_get tasks t ≡ Some task = ap (λ (xs : List PlanTask). slice_get xs t) ts ∙ at in
    let one : Means tells now rows setscene task sig (answered_of begun t) there = means_on tells held now rows setscene task sig (answered_of begun t) there same (is task here) in
    let two : Means tells now others setscene task sig (answered_of begun t) there = subst (λ (xs : List EquivRow). Means tells now xs setscene task sig (answered_of begun t) there) r one in
    let three : Means tells now others counts task sig (answered_of begun t) there = subst (λ (y : Bool). Means tells now others y task sig (answered_of begun t) there) c two in
    subst (λ (xs : List (Option Avail)). Means tells now others counts task sig (answered_of xs t) there) b three

pub kept_or_meant_follows : (e : Earlier) (tells : Type 0) {held now : Store} {rows others : List EquivRow} {setscene counts : Bool} {tasks them : List PlanTask} {begun more : List (Option Avail)}
    → (tells → held ≡ now) → rows ≡ others → setscene ≡ counts → tasks ≡ them → begun ≡ more → Follows (kept_or_meant e tells held rows setscene tasks begun) (kept_or_meant e tells now others counts them more)
kept_or_meant_follows e tells same r c ts b t sig there (inl kept) = inl (subst (λ (xs : List PlanTask). WasKept e xs t sig there) ts kept)
kept_or_meant_follows e tells {held} {now} {rows} {others} {setscene} {counts} {tasks} {them} {begun} {more} same r c ts b t sig there (inr is) = inr (meant_follows tells held now rows others setscene counts tasks them begun more same r c ts b t sig there is)

-- ---- what questions leave

-- a story that went on by nothing
pub same_story : (s : Story) → Passes s s Same
same_story s = record { later = le_refl (moment s); held = refl; now = λ image is. (image, is, refl); since = λ t image le is. inl is; above = λ k image le is. (image, is, refl) }

some_or : {A : Type 0} (x : Option A) (y : A) → x ≡ None → x ≡ Some y → ⊥
some_or x y none some = none-some y (sym none ∙ some)

module _ {D : Type 0} (plan : Plan) (tells : Type 0) (story : D → Story) (faults : D → ℕ) where
  pub asks_itself : (v : View D) (f : Option StoreFault) → Asks plan tells story faults v v f f
  asks_itself v f = record {
    rows = refl;
    keys = refl;
    kept = refl;
    opened = refl;
    faultless = refl;
    images = λ t. same_story (story v.disk);
    stays = λ x is. (is, refl);
    none = λ was is. refl;
    met = λ x none some. absurd (some_or f x none some);
  }

  asks_more : (a b c : View D) (f g h : Option StoreFault) → Asks plan tells story faults a b f g → Asks plan tells story faults b c g h → Asks plan tells story faults a c f h
  asks_more a b c f g h first second = record {
    rows = second.rows ∙ first.rows;
    keys = second.keys ∙ first.keys;
    kept = second.kept ∙ first.kept;
    opened = second.opened ∙ first.opened;
    faultless = second.faultless ∙ first.faultless;
    images = λ t. then_same (first.images t) (second.images t);
    stays = λ x is. let one = first.stays x is in let two = second.stays x one.0 in (two.0, two.1 ∙ one.1);
    none = λ was is. none_on g refl was is;
    met = λ x was is. met_on g refl x was is;
  }
    where
      none_on : (mid : Option StoreFault) → g ≡ mid → f ≡ None → h ≡ None → faults c.disk ≡ faults a.disk
      none_on None e was is = second.none e is ∙ first.none was e
      none_on (Some x) e was is = absurd (some_or h x is (second.stays x e).0)

      met_on : (mid : Option StoreFault) → g ≡ mid → (x : StoreFault) → f ≡ None → h ≡ Some x → IsMet plan c.rows (faults c.disk) x
      met_on None e x was is = second.met x e is
      met_on (Some y) e x was is =
          let stays = second.stays y e in
          let same : y ≡ x = same_Some y x (sym stays.0 ∙ is) in
          subst (λ (r : List EquivRow). IsMet plan r (faults c.disk) x) (sym second.rows)
          (subst (λ (n : ℕ). IsMet plan b.rows n x) (sym stays.1) (subst (λ (z : StoreFault). IsMet plan b.rows (faults b.disk) z) same (first.met y was e)))

  -- questions go on, on the tasks of one plan
  pub asks_on : (other : Plan) (a b c : View D) (f g h : Option StoreFault) → other ≡ plan → Asks plan tells story faults a b f g → Asks other tells story faults b c g h → Asks plan tells story faults a c f h
  asks_on other a b c f g h same first second = asks_more a b c f g h first (subst (λ (p : Plan). Asks p tells story faults b c g h) same second)
