-- What a call does to what is held, whatever it answers.
use Rattle.std.proofs.Common.{◌≡◌, inl, inr, ℕ, List, Option, Some, None, Result, Ok, refl, sym, ◌∙◌, ap, subst}
use Rattle.std.specs.Prelude.{IsSome}
use Rattle.std.specs.Option.{is_some}
use Rattle.std.proofs.lemmas.Bool.{false≢true}
use Rattle.tree_model.specs.declared.entry.Entry.{Entry}
use Rattle.outside_traits.specs.declared.fault.DiskFault.{DiskFault}
use Rattle.outside_traits.specs.Store.{ChangesAt}
use Rattle.outside_traits.specs.Story.{Story}
use Rattle.outside_traits.specs.Answers.{Lists, Writes, Removes}
use Rattle.outside_traits.proofs.Puts.{put-same, ChangesAt-put, path_cases}
use Rattle.outside_traits.proofs.Calls.{by_answer, ChangesAt-same}

pub removes_others : {p : List ℕ} {a b : Story} {T : Type 0} {r : Result T DiskFault} → Removes p a b r → ChangesAt p a.held b.held
removes_others {p} {a} {b} {T} {r} did =
    let at : (s : Story) → b ≡ s → ChangesAt p a.held s.held → ChangesAt p a.held b.held = λ s is c. subst (λ (n : Story). ChangesAt p a.held n.held) (sym is) c in
    by_answer r _ _ _ did.answers (λ v ok. at _ ok (ChangesAt-put a.held p _)) (λ failed. at _ failed.1 (ChangesAt-put a.held p failed.0)) (λ memory. at _ memory (ChangesAt-same p a.held))

pub writes_others : {p : List ℕ} {e : Entry} {a b : Story} {T : Type 0} {r : Result T DiskFault} → Writes p e a b r → ChangesAt p a.held b.held
writes_others {p} {e} {a} {b} {T} {r} did =
    let at : (s : Story) → b ≡ s → ChangesAt p a.held s.held → ChangesAt p a.held b.held = λ s is c. subst (λ (n : Story). ChangesAt p a.held n.held) (sym is) c in
    by_answer r _ _ _ did.answers (λ v ok. at _ ok (ChangesAt-put a.held p _)) (λ failed. at _ failed.1 (ChangesAt-put a.held p failed.0)) (λ memory. at _ memory (ChangesAt-same p a.held))

pub lists_held : {p : List ℕ} {a b : Story} {r : Result (List (List ℕ)) DiskFault} → Lists p a b r → b.held ≡ a.held
lists_held {p} {a} {b} {r} did =
    by_answer r _ _ _ did.answers (λ v ok. ap (λ (s : Story). s.held) ok.1) (λ failed. ap (λ (s : Story). s.held) failed) (λ memory. ap (λ (s : Story). s.held) memory)

pub removes_ok : {p : List ℕ} {a b : Story} {T : Type 0} {v : T} → Removes p a b (Ok v) → b.held p ≡ None
removes_ok {p} {a} did = ap (λ (s : Story). s.held p) did.answers ∙ put-same a.held p p None refl

pub writes_ok : {p : List ℕ} {e : Entry} {a b : Story} {T : Type 0} {v : T} → Writes p e a b (Ok v) → b.held p ≡ Some e
writes_ok {p} {e} {a} did = ap (λ (s : Story). s.held p) did.answers ∙ put-same a.held p p (Some e) refl

-- what isn't held stays so through a removal
pub removed_none : {p : List ℕ} {a b : Story} {T : Type 0} {v : T} (q : List ℕ) → Removes p a b (Ok v) → a.held q ≡ None → b.held q ≡ None
removed_none {p} {a} {b} q did none = elim (path_cases q p) [
  | inl same ↦ ap b.held same ∙ removes_ok did
  | inr ne ↦ (removes_others did).others q ne ∙ none
]

pub removed_some : {p : List ℕ} {a b : Story} {T : Type 0} {v : T} (q : List ℕ) → Removes p a b (Ok v) → IsSome (b.held q) → IsSome (a.held q)
removed_some {p} {a} {b} q did some = elim (path_cases q p) [
  | inl same ↦ absurd (none_some (ap b.held same ∙ removes_ok did) some)
  | inr ne ↦ subst IsSome ((removes_others did).others q ne) some
]
  where
    none_some : {o : Option Entry} → o ≡ None → IsSome o → ⊥
    none_some none held = false≢true (sym (ap is_some none) ∙ held)

pub none_unless : (o : Option Entry) → (IsSome o → ⊥) → o ≡ None
none_unless None not = refl
none_unless (Some e) not = absurd (not refl)
