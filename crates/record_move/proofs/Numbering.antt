-- Rounds of records.
use Rattle.std.proofs.Common.{◌≡◌, ◌∙◌, sym, ap, refl, arith, ℕ, ◌<◌, ◌≤◌, max, fold, Bool, true, false, cond, List, [], ◌∷◌, ◌++◌, Option, Some, None}
use Rattle.std.specs.Prelude.{find}
use Rattle.std.specs.Option.{option_or}
use Rattle.std.proofs.lemmas.List.Folds.{find-append}
use Rattle.tree_model.specs.declared.hash.Hash.{Hash}
use Rattle.store_model.specs.declared.signature.DepLine.{DepLine}
use Rattle.store_model.specs.declared.signature.StoredSig.{StoredSig}
use Rattle.store_model.specs.Rows.{hash_eq}
use Rattle.record_move.specs.declared.records.AddedRecord.{AddedRecord}
use Rattle.record_move.specs.Adding.{AddsRecord, AreRoundsOf}
use Rattle.record_move.specs.Named.{PutsFirst, value_at}
use Rattle.record_move.specs.Rounds.{behind, round_for, round_in, round_of}

pub behind_few : (o : Option ℕ) (n : ℕ) → ((round : ℕ) → o ≡ Some round → round < n) → behind o ≤ n
behind_few None n few = omega arith
behind_few (Some round) n few = let lt = few round refl in omega (arith, lt)

pub fold_few : (rounds : List (List ℕ × ℕ)) (deps : List DepLine) (first n : ℕ) → ((q : Hash) (round : ℕ) → value_at rounds q ≡ Some round → round < n) → first ≤ n
    → fold (λ round (dep : DepLine). max round (behind (value_at rounds dep.name))) first deps ≤ n
fold_few rounds [] first n few le = le
fold_few rounds (dep ∷ deps) first n few le =
    let one = behind_few (value_at rounds dep.name) n (few dep.name) in
    fold_few rounds deps (max first (behind (value_at rounds dep.name))) n few (omega (arith, le, one))

same_round : (added : List AddedRecord) (a : AddedRecord) (q : Hash) → round_of (added ++ a ∷ []) q ≡ option_or (round_of added q) (cond (hash_eq a.name q) (Some a.round) None)
same_round added a q =
    ap round_in (find-append (λ x. hash_eq x.name q) added (a ∷ []))
    ∙ or_round (find (λ x. hash_eq x.name q) added) (hash_eq a.name q)
  where
    or_round : (o : Option AddedRecord) (b : Bool) → round_in (option_or o (cond b (Some a) None)) ≡ option_or (round_in o) (cond b (Some a.round) None)
    or_round None true = refl
    or_round None false = refl
    or_round (Some x) b = refl

pub record_added : (added : List AddedRecord) (name : Hash) (stored : StoredSig) (round : ℕ) (more : List AddedRecord) (rounds now : List (List ℕ × ℕ)) → AreRoundsOf added rounds → round ≡ round_for added stored
    → more ≡ added ++ record { name = name; stored = stored; round = round } ∷ [] → PutsFirst rounds now name round → AddsRecord added name stored more now
record_added added name stored round more rounds now are is items puts = record {
  is = items ∙ ap (λ (r : ℕ). added ++ record { name = name; stored = stored; round = r } ∷ []) is;
  rounds = λ q. puts q ∙ ap (λ (o : Option ℕ). option_or o (cond (hash_eq name q) (Some round) None)) (are q) ∙ sym (same_round added (record { name = name; stored = stored; round = round }) q) ∙ ap (λ (l : List AddedRecord). round_of l q) (sym items);
}
