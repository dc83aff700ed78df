-- What a disk holds stays something that a disk may hold.
use Rattle.std.proofs.Common.{◌≡◌, inl, inr, ℕ, zero, suc, List, ◌∷◌, Option, None, refl, sym, ◌∙◌, ap, subst, arith, length, length-append}
use Rattle.std.specs.Prelude.{IsSome}
use Rattle.std.specs.Option.{is_some}
use Rattle.outside_traits.specs.declared.call.Call.{Call}
use Rattle.outside_traits.specs.declared.call.Call.TheVariants.{Looked, Synced, Ended, Put, Moved}
use Rattle.std.proofs.lemmas.Bool.{false≢true}
use Rattle.tree_model.specs.declared.entry.Entry.{Entry}
use Rattle.tree_model.specs.Path.{IsBelow, IsClean}
use Rattle.outside_traits.specs.Store.{Store, IsTreelike, IsFree, put}
use Rattle.outside_traits.specs.Story.{Story, IsContent, before, held_before, IsSound, looked, synced, ended, put_at, moved}
use Rattle.outside_traits.proofs.Puts.{put-same, put-other, put-own, puts-own, put-undone, moved-undone, path_cases}

none_some : {o : Option Entry} → o ≡ None → IsSome o → ⊥
none_some none some = false≢true (sym (ap is_some none) ∙ some)

-- what a store without the path holds elsewhere
kept : (h : Store) (p q : List ℕ) → IsSome (put h p None q) → IsSome (h q)
kept h p q some = elim (path_cases q p) [
  | inl same ↦ absurd (none_some (put-same h p q None same) some)
  | inr ne ↦ subst IsSome (put-other h p q None ne) some
]

treelike_without : (h : Store) (p : List ℕ) → IsTreelike h → IsTreelike (put h p None)
treelike_without h p tree a b below at_a at_b = tree a b below (kept h p a at_a) (kept h p b at_b)

treelike_with : (h : Store) (p : List ℕ) (x : Option Entry) → IsFree h p → IsTreelike h → IsTreelike (put h p x)
treelike_with h p x free tree a b below at_a at_b = elim (path_cases a p) [
  | inl a_is ↦ elim (path_cases b p) [
    | inl b_is ↦ itself below a_is b_is
    | inr b_ne ↦ none_some (free.below b (subst (λ (c : List ℕ). IsBelow c b) a_is below)) (subst IsSome (put-other h p b x b_ne) at_b)
  ]
  | inr a_ne ↦ elim (path_cases b p) [
    | inl b_is ↦ none_some (free.above a (subst (λ (c : List ℕ). IsBelow a c) b_is below)) (subst IsSome (put-other h p a x a_ne) at_a)
    | inr b_ne ↦ tree a b below (subst IsSome (put-other h p a x a_ne) at_a) (subst IsSome (put-other h p b x b_ne) at_b)
  ]
]
  where
    itself : IsBelow a b → a ≡ p → b ≡ p → ⊥
    itself under is_a is_b = let e = ap length (is_a ∙ sym is_b ∙ under.1) ∙ length-append a (47 ∷ under.0) in omega arith

pub content_without : (h : Store) (p : List ℕ) → IsContent h → IsContent (put h p None)
content_without h p was = record { treelike = treelike_without h p was.treelike; clean = λ q some. was.clean q (kept h p q some) }

pub content_with : (h : Store) (p : List ℕ) (x : Option Entry) → IsClean p → IsFree h p → IsContent h → IsContent (put h p x)
content_with h p x p_clean free was = record { treelike = treelike_with h p x free was.treelike; clean = clean }
  where
    clean : (q : List ℕ) → IsSome (put h p x q) → IsClean q
    clean q some = elim (path_cases q p) [
      | inl same ↦ subst IsClean (sym same) p_clean
      | inr ne ↦ was.clean q (subst IsSome (put-other h p q x ne) some)
    ]

pub sound_on : (old : Story) (h : Store) (call : Call) → before call h ≡ old.held → IsContent h → IsSound old → IsSound (record { held = h; calls = call ∷ old.calls })
sound_on old h call undone content sound = record { content = each }
  where
    each : (k : ℕ) → IsContent (held_before k h (call ∷ old.calls))
    each zero = content
    each (suc k) = subst (λ (g : Store). IsContent (held_before k g old.calls)) (sym undone) (sound.content k)

pub sound_looked : (s : Story) → IsSound s → IsSound (looked s)
sound_looked s sound = sound_on s s.held Looked refl (sound.content 0) sound

pub sound_synced : (s : Story) → IsSound s → IsSound (synced s)
sound_synced s sound = sound_on s s.held Synced refl (sound.content 0) sound

pub sound_ended : (s : Story) (k : ℕ) → IsSound s → IsSound (ended k s)
sound_ended s k sound = sound_on s s.held (Ended k) refl (sound.content 0) sound

pub sound_put : (s : Story) (p : List ℕ) (x : Option Entry) → IsClean p → IsFree s.held p → IsSound s → IsSound (put_at p x s)
sound_put s p x clean free sound = sound_on s (put s.held p x) (Put p (s.held p)) (put-undone s.held p x) (content_with s.held p x clean free (sound.content 0)) sound

pub sound_removed : (s : Story) (p : List ℕ) → IsSound s → IsSound (put_at p None s)
sound_removed s p sound = sound_on s (put s.held p None) (Put p (s.held p)) (put-undone s.held p None) (content_without s.held p (sound.content 0)) sound

free_without : (h : Store) (p q : List ℕ) → IsFree h q → IsFree (put h p None) q
free_without h p q free = record { above = λ a below. none a (free.above a below); below = λ b below. none b (free.below b below) }
  where
    none : (a : List ℕ) → h a ≡ None → put h p None a ≡ None
    none a is = elim (path_cases a p) [ inl same ↦ put-same h p a None same | inr ne ↦ put-other h p a None ne ∙ is ]

pub sound_moved : (s : Story) (p q : List ℕ) (y : Option Entry) → IsClean q → IsFree s.held q → IsSound s → IsSound (moved p q None y s)
sound_moved s p q y clean free sound = sound_on s (put (put s.held p None) q y) (Moved p q (s.held p) (s.held q)) (moved-undone s.held p q None y)
    (content_with (put s.held p None) q y clean (free_without s.held p q free) (content_without s.held p (sound.content 0))) sound

-- a call that changed nothing, kept as one that failed
pub sound_put_own : (s : Story) (p : List ℕ) → IsSound s → IsSound (put_at p (s.held p) s)
sound_put_own s p sound = sound_on s (put s.held p (s.held p)) (Put p (s.held p)) (put-undone s.held p (s.held p)) (subst IsContent (sym (put-own s.held p)) (sound.content 0)) sound

pub sound_moved_own : (s : Story) (p q : List ℕ) → IsSound s → IsSound (moved p q (s.held p) (s.held q) s)
sound_moved_own s p q sound = sound_on s (put (put s.held p (s.held p)) q (s.held q)) (Moved p q (s.held p) (s.held q)) (moved-undone s.held p q (s.held p) (s.held q))
    (subst IsContent (sym (puts-own s.held p q)) (sound.content 0)) sound
