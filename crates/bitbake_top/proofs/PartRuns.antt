-- A run of the plan of a part, and what stays of the benches.
use Rattle.std.proofs.Common.{◌≡◌, ◌⊎◌, ◌≤◌, inl, inr, ◌∙◌, ap, sym, subst, refl, arith, ℕ, zero, suc, true, List, [], ◌∷◌, ◌++◌, append_assoc, length, map, Some, Result, Ok, Err}
use Rattle.std.specs.Prelude.{OnErr}
use Rattle.std.specs.List.{slice_get}
use Rattle.std.proofs.lemmas.List.{length-map}
use Rattle.std.proofs.lemmas.List.Elements.{All-nil}
use Rattle.outside_traits.specs.Bench.{Gives}
use Rattle.outside_traits.specs.Fault.{Rose}
use Rattle.meta_model.specs.declared.event.Logged.{Logged}
use Rattle.meta_model.specs.declared.event.Status.{Status}
use Rattle.meta_model.specs.declared.event.Status.TheVariants as status
use Rattle.meta_model.specs.declared.plan.Options.{Options}
use Rattle.meta_model.specs.declared.plan.Plan.{Plan}
use Rattle.run_model.specs.Benches.{AtWorkers, SomeRose}
use Rattle.run_model.specs.Build.{MayEndSo}
use Rattle.run_model.specs.Written.{WritesFront}
use Rattle.answer_model.specs.Answers.{is_refusal}
use Rattle.answer_model.specs.Run.{IsCertain, WritesCall}
use Rattle.multi_config.specs.Parts.{Standing, StayBenches}
use Rattle.bitbake_top.specs.Parts.{RanPlan, behind_text}

no_item : {A X : Type 0} (x : A) (xs : List A) → x ∷ xs ≡ [] → X
no_item x xs e = absurd cc

-- a front of the first of two texts is one of both
pub front_first : (old new first second : List ℕ) → WritesFront old new first → WritesFront old new (first ++ second)
front_first old new first second w = record {
  front = w.front;
  rest = w.rest ++ second;
  cut = ap (λ (l : List ℕ). l ++ second) w.cut ∙ append_assoc w.front w.rest second;
  written = w.written;
}

-- a front of a text behind a line
pub behind_line : (base mid now line text : List ℕ) → mid ≡ base ++ line → WritesFront mid now text → WritesFront base now (line ++ text)
behind_line base mid now line text is w = record {
  front = line ++ w.front;
  rest = w.rest;
  cut = ap (λ (l : List ℕ). line ++ l) w.cut ∙ sym (append_assoc line w.front w.rest);
  written = w.written ∙ ap (λ (l : List ℕ). l ++ w.front) is ∙ append_assoc base line w.front;
}

-- what holds in any case holds of a refusal
pub of_refusal : {T E : Type 0} (r : Result T E) (P : Type 0) → P → OnErr r P
of_refusal (Ok x) P p = tt
of_refusal (Err e) P p = p

pub mapped : {T E : Type 0} (r : Result T E) (P Q : Type 0) → (P → Q) → OnErr r P → OnErr r Q
mapped (Ok x) P Q f p = tt
mapped (Err e) P Q f p = f p

-- a front of the last of three texts that are written one behind the other
pub front_third : (base one two now first second third : List ℕ) → one ≡ base ++ first → two ≡ one ++ second → WritesFront two now third → WritesFront base now (first ++ (second ++ third))
front_third base one two now first second third f s w = behind_line base one now first (second ++ third) f (behind_line one two now second third s w)

-- ---- no run was begun

not_ok : (s : Status) → (s ≡ status.OutOfMemory) ⊎ (s ≡ status.WriteFault) → s ≡ status.Ok → ⊥
not_ok s (inl m) e = let h : status.OutOfMemory ≡ status.Ok = sym m ∙ e in cc
not_ok s (inr w) e = let h : status.WriteFault ≡ status.Ok = sym w ∙ e in cc

not_certain : (s : Status) (rose : Type 0) → (s ≡ status.OutOfMemory) ⊎ (s ≡ status.WriteFault) → (s ≡ status.WriteFault → rose) → (rose → ⊥) → IsCertain s → ⊥
not_certain s rose (inl m) from none certain = subst IsCertain m certain
not_certain s rose (inr w) from none certain = none (from w)

its_cause : (disk : ℕ) (bench rose : Type 0) (s : Status) → (s ≡ status.OutOfMemory) ⊎ (s ≡ status.WriteFault) → (s ≡ status.WriteFault → rose) → MayEndSo disk bench rose s
its_cause disk bench rose s (inl m) from = subst (MayEndSo disk bench rose) (sym m) tt
its_cause disk bench rose s (inr w) from = subst (MayEndSo disk bench rose) (sym w) (from w)

refused_or_written : (s : Status) → (s ≡ status.OutOfMemory) ⊎ (s ≡ status.WriteFault) → (is_refusal s ≡ true) ⊎ (s ≡ status.WriteFault)
refused_or_written s (inl m) = inl (subst (λ (x : Status). is_refusal x ≡ true) (sym m) refl)
refused_or_written s (inr w) = inr w

still : (at : Standing) → (k m n : ℕ) → slice_get at.benches k ≡ Some m → slice_get at.benches k ≡ Some n → m ≤ n
still at k m n a b = let both : Some m ≡ Some n = sym a ∙ b in let same : m ≡ n = cc in omega (arith, same)

pub unbegun_ran : (disk bench sink : Type 0) (options : Options) (mc : List ℕ) (plan : Plan) (at : Standing) (w : List ℕ) (n : ℕ) (plans : List Plan) (tales : List (List Logged)) (s : Status) → (plans ≡ plan ∷ []) ⊎ ((plans ≡ []) × (s ≡ status.OutOfMemory)) → tales ≡ []
    → (s ≡ status.OutOfMemory) ⊎ (s ≡ status.WriteFault) → at.sink ≤ n → (s ≡ status.WriteFault → Rose at.sink n) → (sink → WritesCall (Rose at.sink n) at.written w plans [] s) → RanPlan disk bench sink options mc plan at (behind_text w n at) plans tales s
unbegun_ran disk bench sink options mc plan at w n plans tales s planned none how later rose text = subst (λ (l : List (List Logged)). RanPlan disk bench sink options mc plan at (behind_text w n at) plans l s) (sym none) (record {
  plans_are = planned;
  concludes = inl (refl, refused_or_written s how);
  unbegun = λ e. how;
  folder = λ d tale one. no_item tale [] (sym one);
  exactly = λ d b gives all reading book may wanted ds bs ss certain. (λ ok. absurd (not_ok s how ok), λ good. absurd (not_certain s (Rose at.sink n) how rose ss certain));
  text = text;
  printed = λ x y. refl;
  same_disk = λ e. (refl, refl);
  same_benches = λ e. (refl, refl);
  benches = All-nil _;
  broke = All-nil _;
  causes = its_cause at.disk (SomeRose at.benches at.benches) (Rose at.sink n) s how rose;
  disk_cause = λ e. absurd (differs how e);
  later = (omega arith, later);
  stay = record { gives = refl; long = refl; later = still at };
})
  where
    differs : (s ≡ status.OutOfMemory) ⊎ (s ≡ status.WriteFault) → s ≡ status.DiskFault → ⊥
    differs (inl m) e = let h : status.OutOfMemory ≡ status.DiskFault = sym m ∙ e in cc
    differs (inr w') e = let h : status.WriteFault ≡ status.DiskFault = sym w' ∙ e in cc

-- ---- what stays of the benches

at_map : {X Y : Type 0} (f : X → Y) (xs : List X) (k : ℕ) (y : Y) → slice_get (map f xs) k ≡ Some y → (x : X) × (slice_get xs k ≡ Some x) × (f x ≡ y)
at_map f [] k y e = absurd cc
at_map f (x ∷ xs) zero y e = (x, refl, (let h : Some (f x) ≡ Some y = e in cc))
at_map f (x ∷ xs) (suc k) y e = at_map f xs k y e

same_gives : {B : Type 0} (gives : B → Gives) (old new : List B) → length new ≡ length old → ((k : ℕ) (a b : B) → slice_get old k ≡ Some a → slice_get new k ≡ Some b → gives b ≡ gives a) → map gives new ≡ map gives old
same_gives gives [] [] long each = refl
same_gives gives [] (b ∷ new) long each = absurd (omega (arith, long))
same_gives gives (a ∷ old) [] long each = absurd (omega (arith, long))
same_gives gives (a ∷ old) (b ∷ new) long each =
    let first = each 0 a b refl refl in
    let rest = same_gives gives old new (omega (arith, long)) (λ k x y at_x at_y. each (suc k) x y at_x at_y) in
    λ i. first i ∷ rest i

pub stays : {B : Type 0} (gives : B → Gives) (faults : B → ℕ) (old new : List B) (before now : Standing) → before.gives ≡ map gives old → now.gives ≡ map gives new → before.benches ≡ map faults old → now.benches ≡ map faults new
    → AtWorkers (λ seat a b. (gives b ≡ gives a) × (faults a ≤ faults b)) old new → StayBenches before now
stays gives faults old new before now was_gives is_gives was is all = record {
  gives = is_gives ∙ same_gives gives old new all.long (λ k a b at_a at_b. (all.each k a b at_a at_b).0) ∙ sym was_gives;
  long = ap length is ∙ length-map new faults ∙ all.long ∙ sym (length-map old faults) ∙ sym (ap length was);
  later = λ k m n at_m at_n.
      let a = at_map faults old k m (ap (λ l. slice_get l k) (sym was) ∙ at_m) in
      let b = at_map faults new k n (ap (λ l. slice_get l k) (sym is) ∙ at_n) in
      let le : faults a.0 ≤ faults b.0 = (all.each k a.0 b.0 a.1 b.1).1 in
      let x = a.2 in
      let y = b.2 in
      omega (arith, le, x, y);
}

-- the tale of a run that was begun is the one that is handed back
pub same_tale : (tale other : List Logged) (tales : List (List Logged)) → tales ≡ tale ∷ [] → tales ≡ other ∷ [] → tale ≡ other
same_tale tale other tales one two = let both : tale ∷ [] ≡ other ∷ [] = sym one ∙ two in cc

pub some_tale : {X : Type 0} (tale : List Logged) (tales : List (List Logged)) → tales ≡ tale ∷ [] → tales ≡ [] → X
some_tale tale tales one none = no_item tale [] (sym one ∙ none)
