-- What is proved of the questions to a disk that is looked at: a trait asks for it.
use Rattle.std.proofs.Common.{◌≡◌, ◌∙◌, sym, ap, subst, refl, ℕ, Bool, List, Option, Some, None, slice_get, inl}
use Rattle.std.proofs.Math.Nat.{le_refl}
use Rattle.std.proofs.lemmas.Option.{none-some, same_Some}
use Rattle.outside_traits.specs.Passes.{Passes, Same}
use Rattle.outside_traits.specs.Store.{Store}
use Rattle.outside_traits.specs.Story.{Story, moment}
use Rattle.outside_traits.proofs.Calls.{then_same}
use Rattle.meta_model.specs.declared.plan.Plan.{Plan}
use Rattle.meta_model.specs.declared.plan.PlanTask.{PlanTask}
use Rattle.store_model.specs.declared.signature.EquivRow.{EquivRow}
use Rattle.store_model.specs.Available.{IsAvailable}
use Rattle.build_store.specs.View.{signed_by}
use Rattle.build_store.specs.declared.fault.StoreFault.{StoreFault}
use Rattle.setscene_plan.specs.View.{Follows}
use Rattle.why_text.specs.Looks.{IsMet, Looks, looked}

-- over the same they mean the same
pub looked_follows : (tells : Type 0) {held now : Store} {rows others : List EquivRow} {setscene counts : Bool} {tasks them : List PlanTask}
    → (tells → now ≡ held) → others ≡ rows → counts ≡ setscene → them ≡ tasks → Follows (looked tells now others counts them) (looked tells held rows setscene tasks)
looked_follows tells {held} {now} {rows} {others} {setscene} {counts} {tasks} {them} same r c ts t sig there is task at told =
    let here : slice_get them t ≡ Some task = ap (λ (xs : List PlanTask). slice_get xs t) ts ∙ at in
    let one : IsAvailable now others counts (signed_by task sig) there = is task here told in
    let two : IsAvailable held others counts (signed_by task sig) there = subst (λ (h : Store). IsAvailable h others counts (signed_by task sig) there) (same told) one in
    let three : IsAvailable held rows counts (signed_by task sig) there = subst (λ (xs : List EquivRow). IsAvailable held xs counts (signed_by task sig) there) r two in
    subst (λ (y : Bool). IsAvailable held rows y (signed_by task sig) there) c three

-- a story that went on by nothing
pub same_story : (s : Story) → Passes s s Same
same_story s = record { later = le_refl (moment s); held = refl; now = λ image is. (image, is, refl); since = λ t image le is. inl is; above = λ k image le is. (image, is, refl) }

some_or : {A : Type 0} (x : Option A) (y : A) → x ≡ None → x ≡ Some y → ⊥
some_or x y none some = none-some y (sym none ∙ some)

pub met_from : (plan : Plan) (rows : List EquivRow) (first before now : ℕ) (x : StoreFault) → before ≡ first → IsMet plan rows before now x → IsMet plan rows first now x
met_from plan rows first before now x same met = subst (λ (n : ℕ). IsMet plan rows n now x) same met

module _ {D : Type 0} (plan : Plan) (rows : List EquivRow) (tells : Type 0) (story : D → Story) (faults : D → ℕ) where
  pub looks_self : (v : D) (f : Option StoreFault) → Looks plan rows tells story faults v v f f
  looks_self v f = record {
    images = λ t. same_story (story v);
    stays = λ x is. (is, refl);
    none = λ was is. refl;
    met = λ x none some. absurd (some_or f x none some);
  }

  pub looks_more : (a b c : D) (f g h : Option StoreFault) → Looks plan rows tells story faults a b f g → Looks plan rows tells story faults b c g h → Looks plan rows tells story faults a c f h
  looks_more a b c f g h first second = record {
    images = λ t. then_same (first.images t) (second.images t);
    stays = λ x is. let one = first.stays x is in let two = second.stays x one.0 in (two.0, two.1 ∙ one.1);
    none = λ was is. none_on g refl was is;
    met = λ x was is. met_on g refl x was is;
  }
    where
      none_on : (mid : Option StoreFault) → g ≡ mid → f ≡ None → h ≡ None → faults c ≡ faults a
      none_on None e was is = second.none e is ∙ first.none was e
      none_on (Some x) e was is = absurd (some_or h x is (second.stays x e).0)

      met_on : (mid : Option StoreFault) → g ≡ mid → (x : StoreFault) → f ≡ None → h ≡ Some x → IsMet plan rows (faults a) (faults c) x
      met_on None e x was is = met_from plan rows (faults a) (faults b) (faults c) x (first.none was e) (second.met x e is)
      met_on (Some y) e x was is =
          let stays = second.stays y e in
          let same : y ≡ x = same_Some y x (sym stays.0 ∙ is) in
          subst (λ (n : ℕ). IsMet plan rows (faults a) n x) (sym stays.1) (subst (λ (z : StoreFault). IsMet plan rows (faults a) (faults b) z) same (first.met y was e))

pub looks_itself : {D : Type 0} (plan : Plan) (rows : List EquivRow) (tells : Type 0) (story : D → Story) (faults : D → ℕ) (v : D) (f : Option StoreFault) → Looks plan rows tells story faults v v f f
looks_itself plan rows tells story faults v f = looks_self plan rows tells story faults v f

-- questions go on, on the tasks of one plan over the same rows
pub looks_on : {D : Type 0} (plan other : Plan) (rows others : List EquivRow) (tells : Type 0) (story : D → Story) (faults : D → ℕ) (a b c : D) (f g h : Option StoreFault)
    → other ≡ plan → others ≡ rows → Looks plan rows tells story faults a b f g → Looks other others tells story faults b c g h → Looks plan rows tells story faults a c f h
looks_on plan other rows others tells story faults a b c f g h same r first second =
    looks_more plan rows tells story faults a b c f g h first
    (subst (λ (xs : List EquivRow). Looks plan xs tells story faults b c g h) r (subst (λ (p : Plan). Looks p others tells story faults b c g h) same second))
