-- What each call of a disk does to the images, whatever it answers.
use Rattle.std.proofs.Common.{◌≡◌, ◌⊎◌, inl, inr, ⊎_elim, ◌-◌, ◌≤◌, min, ℕ, suc, List, ◌∷◌, Option, Result, Ok, Err, None, refl, sym, ◌∙◌, ap, subst, arith}
use Rattle.tree_model.specs.declared.entry.Entry.{Entry}
use Rattle.outside_traits.specs.declared.call.Call.{Call}
use Rattle.outside_traits.specs.declared.call.Call.TheVariants.{Looked, Synced, Ended, Put, Moved}
use Rattle.outside_traits.specs.declared.fault.DiskFault.{DiskFault}
use Rattle.outside_traits.specs.declared.fault.DiskFault.TheVariants.{Failed, Memory}
use Rattle.outside_traits.specs.Store.{Store, put, ChangesAt, Moves}
use Rattle.outside_traits.specs.Story.{Story, before, unsynced, LeftBy, Leaves, LeftSince, moment, IsImage, IsImageAbove, IsSound, looked, synced, ended, put_at, moved}
use Rattle.outside_traits.specs.Answers.{Answers, Reads, Lists, Writes, Removes, Renames, Syncs, Ends, HalfMoved}
use Rattle.outside_traits.specs.Passes.{Passes, Same}
use Rattle.outside_traits.proofs.Puts.{put-same, put-other, put-undone, ChangesAt-put, moved-undone, path_cases}
use Rattle.outside_traits.proofs.Images.{held-image, held_by, left_more, above-image, held-above}
use Rattle.outside_traits.proofs.Runs.{passes_none, passes_then, passes_so}

-- whatever the answer is
pub by_answer : {T X : Type 0} (r : Result T DiskFault) (ok : T → Type 0) (failed memory : Type 0) → Answers r ok failed memory → ((v : T) → ok v → X) → (failed → X) → (memory → X) → X
by_answer (Ok v) ok failed memory a on_ok on_failed on_memory = on_ok v a
by_answer (Err Failed) ok failed memory a on_ok on_failed on_memory = on_failed a
by_answer (Err Memory) ok failed memory a on_ok on_failed on_memory = on_memory a

-- where one more moment isn't durable
one_more : (l k u v : ℕ) → k ≤ l → v ≡ suc u → min (suc l - k) v ≡ suc (min (l - k) u)
one_more l k u v le is = omega (arith, le, is)

-- one call, after which the same moment is durable
goes_on : (old : Story) (h : Store) (call : Call) (R : Store → Store → Type 0) → before call h ≡ old.held → unsynced (call ∷ old.calls) ≡ suc (unsynced old.calls) → R old.held h
    → ((n : ℕ) (i : Store) → LeftBy (suc n) h (call ∷ old.calls) i → (j : Store) × LeftBy n old.held old.calls j × R j i)
    → Passes old (record { held = h; calls = call ∷ old.calls }) R
goes_on old h call R undone counts changed each = record {
  later = omega arith;
  held = changed;
  now = now;
  since = λ t i le left. ⊎_elim (λ here. inr (now i here.1)) (λ past. inl (subst (λ (g : Store). LeftSince g old.calls t i) undone past)) left;
  above = λ k i le left. each (min (moment old - k) (unsynced old.calls)) i
      (subst (λ (n : ℕ). LeftBy n h (call ∷ old.calls) i) (one_more (moment old) k (unsynced old.calls) (unsynced (call ∷ old.calls)) le counts) left);
}
  where
    now : (i : Store) → Leaves h (call ∷ old.calls) i → (j : Store) × IsImage old j × R j i
    now i left = each (unsynced old.calls) i (subst (λ (n : ℕ). LeftBy n h (call ∷ old.calls) i) counts left)

looked_passes : (s : Story) → Passes s (looked s) Same
looked_passes s = goes_on s s.held Looked Same refl refl refl (λ n i left. (i, left, refl))

synced_passes : (s : Story) → IsSound s → Passes s (synced s) Same
synced_passes s sound = record {
  later = omega arith;
  held = refl;
  now = λ i left. (s.held, held-image s sound, left);
  since = λ t i le left. ⊎_elim (λ here. inr (s.held, held-image s sound, here.1)) (λ past. inl past) left;
  above = λ k i le left. let none : min (suc (moment s) - k) 0 ≡ 0 = omega arith in (s.held, held-above s sound k, subst (λ (n : ℕ). LeftBy n s.held (Synced ∷ s.calls) i) none left);
}

-- the end of a ticket: each image is one of those before it
pub ended_passes : (s : Story) → IsSound s → (t : ℕ) → Passes s (ended t s) Same
ended_passes s sound t = record {
  later = omega arith;
  held = refl;
  now = λ i left. (i, above-image s sound t i left, refl);
  since = λ k i le left. ⊎_elim (λ here. inr (i, above-image s sound t i here.1, refl)) (λ past. inl past) left;
  above = λ k i le left. (i, fewer k i (subst (λ (n : ℕ). LeftBy n s.held (Ended t ∷ s.calls) i) (one_more (moment s) k (min (moment s - t) (unsynced s.calls)) _ le refl) left), refl);
}
  where
    fewer : (k : ℕ) (i : Store) → LeftBy (min (moment s - k) (min (moment s - t) (unsynced s.calls))) s.held s.calls i → IsImageAbove s k i
    fewer k i left = left_more (min (moment s - k) (min (moment s - t) (unsynced s.calls))) (min (moment s - k) (unsynced s.calls)) (omega arith) s.held s.calls sound.content i left

put_passes : (s : Story) (p : List ℕ) (x : Option Entry) → Passes s (put_at p x s) (ChangesAt p)
put_passes s p x = let undone : put (put s.held p x) p (s.held p) ≡ s.held = put-undone s.held p x in
    goes_on s (put s.held p x) (Put p (s.held p)) (ChangesAt p) undone refl (ChangesAt-put s.held p x)
    (λ n i left. (left.1.0, subst (λ (g : Store). LeftBy n g s.calls left.1.0) undone left.1.1, left.1.2))

module _ (s : Story) (p q : List ℕ) (x y : Option Entry) (half : HalfMoved p q s.held x y) where
  abbrev after : Store
  after = put (put s.held p x) q y

  at_source : (after p ≡ s.held p) ⊎ (after p ≡ None)
  at_source = elim (path_cases p q) [
    | inl same ↦ inl (put-same (put s.held p x) q p y same ∙ ⊎_elim (λ e. e ∙ ap s.held (sym same)) (λ e. e) half.target)
    | inr ne ↦ ⊎_elim (λ e. inl (put-other (put s.held p x) q p y ne ∙ put-same s.held p p x refl ∙ e))
        (λ e. inr (put-other (put s.held p x) q p y ne ∙ put-same s.held p p x refl ∙ e)) half.source
  ]

  at_target : (after q ≡ s.held q) ⊎ (after q ≡ s.held p)
  at_target = ⊎_elim (λ e. inl (put-same (put s.held p x) q q y refl ∙ e)) (λ e. inr (put-same (put s.held p x) q q y refl ∙ e)) half.target

  held_moves : Moves p q (s.held p) s.held after
  held_moves = record {
    others = λ r np nq. put-other (put s.held p x) q r y nq ∙ put-other s.held p r x np;
    source = at_source;
    target = at_target;
  }

  moved_passes : IsSound s → Passes s (moved p q x y s) (Moves p q (s.held p))
  moved_passes sound = let undone : before (Moved p q (s.held p) (s.held q)) after ≡ s.held = moved-undone s.held p q x y in
      goes_on s after (Moved p q (s.held p) (s.held q)) (Moves p q (s.held p)) undone refl held_moves
      (λ n i left. ⊎_elim
      (λ held. (s.held, held_by n s.held s.calls sound.content, subst (Moves p q (s.held p) s.held) (sym held) held_moves))
      (λ w. (w.0, subst (λ (g : Store). LeftBy n g s.calls w.0) undone w.1, w.2))
      left.1)

pub reads_passes : {p : List ℕ} {a b : Story} {r : Result (Option Entry) DiskFault} → Reads p a b r → Passes a b Same
reads_passes {p} {a} {b} {r} did =
    let at : (s : Story) → b ≡ s → Passes a s Same → Passes a b Same = λ s is run. subst (λ (n : Story). Passes a n Same) (sym is) run in
    by_answer r _ _ _ did.answers (λ v ok. at _ ok.1 (looked_passes a)) (λ failed. at _ failed (looked_passes a)) (λ memory. at _ memory (passes_none a Same (λ i. refl)))

pub lists_passes : {p : List ℕ} {a b : Story} {r : Result (List (List ℕ)) DiskFault} → Lists p a b r → Passes a b Same
lists_passes {p} {a} {b} {r} did =
    let at : (s : Story) → b ≡ s → Passes a s Same → Passes a b Same = λ s is run. subst (λ (n : Story). Passes a n Same) (sym is) run in
    by_answer r _ _ _ did.answers (λ v ok. at _ ok.1 (looked_passes a)) (λ failed. at _ failed (looked_passes a)) (λ memory. at _ memory (passes_none a Same (λ i. refl)))

pub writes_passes : {p : List ℕ} {e : Entry} {a b : Story} {T : Type 0} {r : Result T DiskFault} → Writes p e a b r → Passes a b (ChangesAt p)
writes_passes {p} {e} {a} {b} {T} {r} did =
    let at : (s : Story) → b ≡ s → Passes a s (ChangesAt p) → Passes a b (ChangesAt p) = λ s is run. subst (λ (n : Story). Passes a n (ChangesAt p)) (sym is) run in
    by_answer r _ _ _ did.answers (λ v ok. at _ ok (put_passes a p _)) (λ failed. at _ failed.1 (put_passes a p failed.0)) (λ memory. at _ memory (passes_none a (ChangesAt p) (λ i. record { others = λ q ne. refl })))

pub removes_passes : {p : List ℕ} {a b : Story} {T : Type 0} {r : Result T DiskFault} → Removes p a b r → Passes a b (ChangesAt p)
removes_passes {p} {a} {b} {T} {r} did =
    let at : (s : Story) → b ≡ s → Passes a s (ChangesAt p) → Passes a b (ChangesAt p) = λ s is run. subst (λ (n : Story). Passes a n (ChangesAt p)) (sym is) run in
    by_answer r _ _ _ did.answers (λ v ok. at _ ok (put_passes a p _)) (λ failed. at _ failed.1 (put_passes a p failed.0)) (λ memory. at _ memory (passes_none a (ChangesAt p) (λ i. record { others = λ q ne. refl })))

pub Moves-same : (p q : List ℕ) (x : Option Entry) (i : Store) → Moves p q x i i
Moves-same p q x i = record { others = λ r np nq. refl; source = inl refl; target = inl refl }

pub renames_passes : {p q : List ℕ} {a b : Story} {T : Type 0} {r : Result T DiskFault} → IsSound a → Renames p q a b r → Passes a b (Moves p q (a.held p))
renames_passes {p} {q} {a} {b} {T} {r} sound did =
    let R : Store → Store → Type 0 = Moves p q (a.held p) in
    let at : (s : Story) → b ≡ s → Passes a s R → Passes a b R = λ s is run. subst (λ (n : Story). Passes a n R) (sym is) run in
    by_answer r _ _ _ did.answers
    (λ v ok. at _ ok (moved_passes a p q _ _ (record { source = inr refl; target = inr refl }) sound))
    (λ failed. at _ failed.3 (moved_passes a p q failed.0 failed.1 failed.2 sound))
    (λ memory. at _ memory (passes_none a R (Moves-same p q (a.held p))))

pub syncs_passes : {a b : Story} {T : Type 0} {r : Result T DiskFault} → IsSound a → Syncs a b r → Passes a b Same
syncs_passes {a} {b} {T} {r} sound did =
    let at : (s : Story) → b ≡ s → Passes a s Same → Passes a b Same = λ s is run. subst (λ (n : Story). Passes a n Same) (sym is) run in
    by_answer r _ _ _ did.answers (λ v ok. at _ ok (synced_passes a sound)) (λ failed. at _ failed (looked_passes a)) (λ memory. at _ memory (passes_none a Same (λ i. refl)))

pub ends_passes : {k : ℕ} {a b : Story} {T : Type 0} {r : Result T DiskFault} → IsSound a → Ends k a b r → Passes a b Same
ends_passes {k} {a} {b} {T} {r} sound did =
    let at : (s : Story) → b ≡ s → Passes a s Same → Passes a b Same = λ s is run. subst (λ (n : Story). Passes a n Same) (sym is) run in
    by_answer r _ _ _ did.answers (λ v ok. at _ ok (ended_passes a sound k)) (λ failed. at _ failed (looked_passes a)) (λ memory. at _ memory (passes_none a Same (λ i. refl)))

-- a call that changes nothing, after a run or before it
pub then_same : {a b c : Story} {R : Store → Store → Type 0} → Passes a b R → Passes b c Same → Passes a c R
then_same {R = R} first second = passes_then R first second (λ i j r. r) (λ i j k r s. subst (R i) (sym s) r)

pub same_then : {a b c : Story} {R : Store → Store → Type 0} → ((i : Store) → R i i) → Passes a b Same → Passes b c R → Passes a c R
same_then {R = R} same first second = passes_then R first second (λ i j s. subst (R i) (sym s) (same i)) (λ i j k s r. subst (λ (x : Store). R x k) s r)

-- nothing changed, so no more than by R
pub same_so : {a b : Story} (R : Store → Store → Type 0) → ((i : Store) → R i i) → Passes a b Same → Passes a b R
same_so R same run = passes_so R run (λ i j s. subst (R i) (sym s) (same i))

pub ChangesAt-same : (p : List ℕ) (i : Store) → ChangesAt p i i
ChangesAt-same p i = record { others = λ q ne. refl }
