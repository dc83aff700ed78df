-- Images of a story.
use Rattle.std.proofs.Common.{◌≡◌, inl, inr, ⊎_elim, ◌-◌, min, ℕ, zero, suc, ◌≤◌, List, [], ◌∷◌, length, refl, sym, subst, arith}
use Rattle.outside_traits.specs.declared.call.Call.{Call}
use Rattle.outside_traits.specs.declared.call.Call.TheVariants.{Looked, Synced, Ended, Put, Moved}
use Rattle.outside_traits.specs.Store.{Store}
use Rattle.outside_traits.specs.Story.{Story, before, unsynced, LeftBy, Leaves, LeftSince, moment, IsContent, IsImage, IsImageAbove, IsImageSince, held_before, IsSound}
use Rattle.outside_traits.proofs.Puts.{put-other}

-- an image since t was left at a moment that isn't earlier
since_bound : (h : Store) (calls : List Call) (t : ℕ) (i : Store) → LeftSince h calls t i → t ≤ length calls
since_bound h [] t i left = left.0
since_bound h (call ∷ calls) t i (inl now) = now.0
since_bound h (call ∷ calls) t i (inr past) = let le = since_bound (before call h) calls t i past in omega arith

only_now : (h : Store) (calls : List Call) (i : Store) → LeftSince h calls (length calls) i → Leaves h calls i
only_now h [] i left = left.1
only_now h (call ∷ calls) i (inl now) = now.1
only_now h (call ∷ calls) i (inr past) = let le = since_bound (before call h) calls (length (call ∷ calls)) i past in absurd (omega arith)

counts_now : (h : Store) (calls : List Call) (t : ℕ) (i : Store) → t ≤ length calls → Leaves h calls i → LeftSince h calls t i
counts_now h [] t i le left = (le, left)
counts_now h (call ∷ calls) t i le left = inl (le, left)

-- since this moment there is no other
pub since-now : (s : Story) (i : Store) → IsImageSince s (moment s) i → IsImage s i
since-now s i left = only_now s.held s.calls i left

-- this moment is one of those since an earlier one
pub now-since : (s : Story) (t : ℕ) (i : Store) → t ≤ moment s → IsImage s i → IsImageSince s t i
now-since s t i le left = counts_now s.held s.calls t i le left

pub held_by : (n : ℕ) (h : Store) (calls : List Call) → ((k : ℕ) → IsContent (held_before k h calls)) → LeftBy n h calls h
held_by zero h calls content = refl
held_by (suc n) h [] content = refl
held_by (suc n) h (Looked ∷ calls) content = held_by n h calls (λ k. content (suc k))
held_by (suc n) h (Synced ∷ calls) content = held_by n h calls (λ k. content (suc k))
held_by (suc n) h (Ended t ∷ calls) content = held_by n h calls (λ k. content (suc k))
held_by (suc n) h (Put p was ∷ calls) content = (content 0, (before (Put p was) h, held_by n (before (Put p was) h) calls (λ k. content (suc k)), record { others = λ q ne. sym (put-other h p q was ne) }))
held_by (suc n) h (Moved p q was replaced ∷ calls) content = (content 0, inl refl)

pub held_left : (h : Store) (calls : List Call) → ((k : ℕ) → IsContent (held_before k h calls)) → Leaves h calls h
held_left h calls content = held_by (unsynced calls) h calls content

-- what is held is itself an image
pub held-image : (s : Story) → IsSound s → IsImage s s.held
held-image s sound = held_left s.held s.calls sound.content

-- the fewer calls aren't durable the fewer images there are
pub left_more : (n m : ℕ) → n ≤ m → (h : Store) (calls : List Call) → ((k : ℕ) → IsContent (held_before k h calls)) → (i : Store) → LeftBy n h calls i → LeftBy m h calls i
left_more zero m le h calls content i left = subst (LeftBy m h calls) (sym left) (held_by m h calls content)
left_more (suc n) zero le h calls content i left = absurd (omega (arith, le))
left_more (suc n) (suc m) le h [] content i left = left
left_more (suc n) (suc m) le h (Looked ∷ calls) content i left = left_more n m (omega (arith, le)) h calls (λ k. content (suc k)) i left
left_more (suc n) (suc m) le h (Synced ∷ calls) content i left = left_more n m (omega (arith, le)) h calls (λ k. content (suc k)) i left
left_more (suc n) (suc m) le h (Ended t ∷ calls) content i left = left_more n m (omega (arith, le)) h calls (λ k. content (suc k)) i left
left_more (suc n) (suc m) le h (Put p was ∷ calls) content i left =
    (left.0, (left.1.0, left_more n m (omega (arith, le)) (before (Put p was) h) calls (λ k. content (suc k)) left.1.0 left.1.1, left.1.2))
left_more (suc n) (suc m) le h (Moved p q was replaced ∷ calls) content i left =
    (left.0, ⊎_elim (λ held. inl held) (λ w. inr (w.0, left_more n m (omega (arith, le)) (before (Moved p q was replaced) h) calls (λ k. content (suc k)) w.0 w.1, w.2)) left.1)

-- where besides a moment is durable there are no more images
pub above-image : (s : Story) → IsSound s → (k : ℕ) (i : Store) → IsImageAbove s k i → IsImage s i
above-image s sound k i left = left_more (min (moment s - k) (unsynced s.calls)) (unsynced s.calls) (omega arith) s.held s.calls sound.content i left

-- where this moment is durable there is but what is held
pub above-now : (s : Story) (i : Store) → IsImageAbove s (moment s) i → i ≡ s.held
above-now s i left = let none : min (moment s - moment s) (unsynced s.calls) ≡ 0 = omega arith in subst (λ (n : ℕ). LeftBy n s.held s.calls i) none left

pub held-above : (s : Story) → IsSound s → (k : ℕ) → IsImageAbove s k s.held
held-above s sound k = held_by (min (moment s - k) (unsynced s.calls)) s.held s.calls sound.content
