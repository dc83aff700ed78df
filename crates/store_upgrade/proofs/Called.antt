-- What runs of calls leave.
use Rattle.std.proofs.Common.{◌≡◌, ◌∙◌, sym, ap, subst, ℕ, inl, inr, List, [], ◌∷◌, ◌++◌, Option, None, Ok, Err, Result, append_assoc, arith}
use Rattle.std.specs.Prelude.{Contains, IsSome, OnOk}
use Rattle.std.specs.Option.{is_some}
use Rattle.std.proofs.lemmas.Bool.{false≢true}
use Rattle.tree_model.specs.declared.entry.Entry.{Entry}
use Rattle.tree_model.specs.Path.{IsBelow}
use Rattle.outside_traits.specs.Answers.{IsSettled}
use Rattle.outside_traits.specs.Passes.{EachNow, Passes, Same}
use Rattle.outside_traits.specs.Store.{IsListing, Store}
use Rattle.outside_traits.specs.Story.{IsSound, Story, synced}
use Rattle.outside_traits.proofs.Held.{none_unless}
use Rattle.outside_traits.proofs.Runs.{passes_at}
use Rattle.outside_traits.proofs.Images.{above-image}
use Rattle.store_opening.specs.Survey.{TakesOut}
use Rattle.store_upgrade.specs.Steps.{Below}

-- each image is what is held
abbrev pub IsDurable : Story → Type 0
IsDurable story = EachNow story (λ image. image ≡ story.held)

pub durable_synced : (a b : Story) → b ≡ synced a → IsDurable b
durable_synced a b did = subst IsDurable (sym did) (λ image img. img)

-- nothing changed since all was durable
pub durable_same : (a b : Story) → IsDurable a → Passes a b Same → IsDurable b
durable_same a b was run image img = let w = run.now image img in w.2 ∙ was w.0 w.1 ∙ sym run.held

-- what a run leaves alone since all was durable may be renamed
pub settled_by : (a b : Story) (R : Store → Store → Type 0) (q : List ℕ) → IsDurable a → Passes a b R → ((i j : Store) → R i j → j q ≡ i q) → IsSome (b.held q) → IsSettled q b
settled_by a b R q was run leaves some = record {
  held = some;
  kept = λ image img.
      let w = run.now image img in
      leaves w.0 image w.2 ∙ ap (λ (h : Store). h q) (was w.0 w.1) ∙ sym (leaves a.held b.held run.held);
}

pub none_some : (o : Option Entry) → o ≡ None → IsSome o → ⊥
none_some o none some = false≢true (sym (ap is_some none) ∙ some)

pub listed_below : (folder : List ℕ) (held : Store) (paths : List (List ℕ)) → IsListing (folder ++ 47 ∷ []) held paths → (q : List ℕ) → Contains paths q → IsBelow folder q
listed_below folder held paths listing q has = let at = (listing.are_held q has).0 in (at.0, at.1 ∙ append_assoc folder (47 ∷ []) at.0)

pub takes_below : (folder : List ℕ) (held : Store) (paths : List (List ℕ)) → IsListing (folder ++ 47 ∷ []) held paths → (i j : Store) → TakesOut paths i j → Below folder i j
takes_below folder held paths listing i j takes = record { others = λ q never. takes.others q (λ has. never (listed_below folder held paths listing q has)) }

pub below_gone : (folder : List ℕ) (held now : Store) (paths : List (List ℕ)) → IsListing (folder ++ 47 ∷ []) held paths → TakesOut paths held now → ((q : List ℕ) → Contains paths q → now q ≡ None) → (q : List ℕ) → IsBelow folder q → now q ≡ None
below_gone folder held now paths listing takes gone q below = none_unless (now q) (λ some. has_not some (listing.all q (below.0, below.1 ∙ sym (append_assoc folder (47 ∷ []) below.0)) (subst IsSome (takes.others q (has_not some)) some)))
  where
    has_not : IsSome (now q) → Contains paths q → ⊥
    has_not some has = none_some (now q) (gone q has) some

-- ---- runs by what each image is, where all was durable before

pub passes_start : (a : Story) (P : Store → Type 0) → IsSound a → IsDurable a → P a.held → Passes a a (λ i k. P k)
passes_start a P sound durable p = record {
  later = omega arith;
  held = p;
  now = λ i img. (i, img, subst P (sym (durable i img)) p);
  since = λ t i le left. inl left;
  above = λ k i le left. (i, left, subst P (sym (durable i (above-image a sound k i left))) p);
}

pub passes_on : {a b c : Story} {S : Store → Store → Type 0} (P Q : Store → Type 0) → IsSound b → IsDurable b → Passes a b (λ i j. P j) → Passes b c S → ((j : Store) → P j → Q j) → ((k : Store) → S b.held k → Q k) → Passes a c (λ i k. Q k)
passes_on {a} {b} {c} {S} P Q sound durable first second early late = passes_at (λ j. j ≡ b.held) (λ i k. Q k) sound durable first second (λ i j p. early j p) (λ i j k p e s. late k (subst (λ (h : Store). S h k) e s))

-- a run from what was durable, by what it does to that
pub passes_from : {a b : Story} {S : Store → Store → Type 0} (Q : Store → Type 0) → IsSound a → IsDurable a → Passes a b S → ((k : Store) → S a.held k → Q k) → Passes a b (λ i k. Q k)
passes_from {a} {b} {S} Q sound durable run says = record {
  later = run.later;
  held = says b.held run.held;
  now = λ k img. let w = run.now k img in (w.0, w.1, says k (subst (λ (h : Store). S h k) (durable w.0 w.1) w.2));
  since = λ t k le left. elim (run.since t k le left) [
    | inl past ↦ inl past
    | inr w ↦ inr (w.0, w.1, says k (subst (λ (h : Store). S h k) (durable w.0 w.1) w.2))
  ];
  above = λ n k le left. let w = run.above n k le left in (w.0, w.1, says k (subst (λ (h : Store). S h k) (durable w.0 (above-image a sound n w.0 w.1)) w.2));
}

-- what holds holds after each answer
pub on_ok_of : {T E P : Type 0} (r : Result T E) → P → OnOk r P
on_ok_of (Ok v) p = p
on_ok_of (Err e) p = tt
