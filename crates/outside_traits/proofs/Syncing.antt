-- Tickets that are ended at once.
use Rattle.std.proofs.Common.{◌≡◌, inl, inr, ⊎_elim, ◌-◌, min, ℕ, List, [], ◌∷◌, length, sym, subst, arith}
use Rattle.outside_traits.specs.declared.call.Call.{Call}
use Rattle.outside_traits.specs.declared.call.Call.TheVariants.{Looked, Synced, Ended, Put, Moved}
use Rattle.outside_traits.specs.Store.{Store}
use Rattle.outside_traits.specs.Story.{before, unsynced, LeftBy, Leaves, LeftSince}
use Rattle.outside_traits.specs.Syncs.{AreAtOnce, AtOnceIsSame, SyncLeaves, SyncLeftSince}

none_behind : (k : ℕ) (calls : List Call) → k ≡ length calls → min (length calls - k) (unsynced calls) ≡ 0
none_behind k calls is = omega (arith, is)

to : (h : Store) (calls : List Call) → AreAtOnce calls → (i : Store) → Leaves h calls i → SyncLeaves h calls i
to h [] once i left = left
to h (Looked ∷ calls) once i left = to h calls once i left
to h (Synced ∷ calls) once i left = left
to h (Ended k ∷ calls) once i left = subst (λ (n : ℕ). LeftBy n h calls i) (none_behind k calls once.0) left
to h (Put p was ∷ calls) once i left = (left.0, (left.1.0, to (before (Put p was) h) calls once left.1.0 left.1.1, left.1.2))
to h (Moved p q was replaced ∷ calls) once i left =
    (left.0, ⊎_elim (λ held. inl held) (λ w. inr (w.0, to (before (Moved p q was replaced) h) calls once w.0 w.1, w.2)) left.1)

back : (h : Store) (calls : List Call) → AreAtOnce calls → (i : Store) → SyncLeaves h calls i → Leaves h calls i
back h [] once i left = left
back h (Looked ∷ calls) once i left = back h calls once i left
back h (Synced ∷ calls) once i left = left
back h (Ended k ∷ calls) once i left = subst (λ (n : ℕ). LeftBy n h calls i) (sym (none_behind k calls once.0)) left
back h (Put p was ∷ calls) once i left = (left.0, (left.1.0, back (before (Put p was) h) calls once left.1.0 left.1.1, left.1.2))
back h (Moved p q was replaced ∷ calls) once i left =
    (left.0, ⊎_elim (λ held. inl held) (λ w. inr (w.0, back (before (Moved p q was replaced) h) calls once w.0 w.1, w.2)) left.1)

rest : (call : Call) (calls : List Call) → AreAtOnce (call ∷ calls) → AreAtOnce calls
rest Looked calls once = once
rest Synced calls once = once
rest (Ended k) calls once = once.1
rest (Put p was) calls once = once
rest (Moved p q was replaced) calls once = once

since_to : (h : Store) (calls : List Call) → AreAtOnce calls → (t : ℕ) (i : Store) → LeftSince h calls t i → SyncLeftSince h calls t i
since_to h [] once t i left = left
since_to h (call ∷ calls) once t i left = ⊎_elim (λ here. inl (here.0, to h (call ∷ calls) once i here.1)) (λ past. inr (since_to (before call h) calls (rest call calls once) t i past)) left

since_back : (h : Store) (calls : List Call) → AreAtOnce calls → (t : ℕ) (i : Store) → SyncLeftSince h calls t i → LeftSince h calls t i
since_back h [] once t i left = left
since_back h (call ∷ calls) once t i left = ⊎_elim (λ here. inl (here.0, back h (call ∷ calls) once i here.1)) (λ past. inr (since_back (before call h) calls (rest call calls once) t i past)) left

pub at_once_is_same : AtOnceIsSame
at_once_is_same h calls once = record { now = to h calls once; now_back = back h calls once; since = since_to h calls once; since_back = since_back h calls once }
