-- Records that are gone through from the last one back.
use Rattle.std.proofs.Common.{◌≡◌, ◌∙◌, sym, ap, refl, ℕ, ◌+◌, ◌<◌, Bool, true, false, cond, ◌||◌, List, [], ◌∷◌, length, get_or, take, drop, Option, Some, None}
use Rattle.std.specs.List.{list_any}
use Rattle.std.specs.Option.{is_some, option_or}
use Rattle.std.proofs.lemmas.List.{drop_more, take_more}
use Rattle.std.proofs.lemmas.List.Folds.{list_any-append}
use Rattle.tree_model.specs.declared.hash.Hash.{Hash}
use Rattle.record_move.specs.declared.records.OldRecord.{OldRecord}
use Rattle.store_model.specs.declared.signature.DepLine.{DepLine}
use Rattle.store_model.specs.declared.signature.StoredSig.{StoredSig}
use Rattle.store_model.specs.Rows.{hash_eq}
use Rattle.record_move.specs.Named.{PutsFirst, value_at}
use Rattle.record_move.specs.Wanted.{is_named, names, wanted_of}

abbrev Noted : Type 0
Noted = List (List ℕ × Bool)

some_first : (o : Option Bool) (b : Bool) → is_some (option_or o (cond b (Some true) None)) ≡ (is_some o || b)
some_first None true = refl
some_first None false = refl
some_first (Some x) b = refl

-- one name more is noted
pub one_noted : (old new : Noted) (name : Hash) → PutsFirst old new name true → (q : Hash) → is_some (value_at new q) ≡ (is_some (value_at old q) || hash_eq name q)
one_noted old new name puts q = ap (is_some {T = Bool}) (puts q) ∙ some_first (value_at old q) (hash_eq name q)

or_joined : (a b c : Bool) → ((a || b) || c) ≡ (a || (b || c))
or_joined true b c = refl
or_joined false b c = refl

pub or_last : (a : Bool) → (a || false) ≡ a
or_last true = refl
or_last false = refl

or_turned : (a b : Bool) → (a || b) ≡ (b || a)
or_turned true true = refl
or_turned true false = refl
or_turned false true = refl
or_turned false false = refl

-- after one needed task more
pub deps_noted : (first old new : Noted) (deps : List DepLine) (i : ℕ) (d : DepLine) → i < length deps → ((q : Hash) → is_some (value_at old q) ≡ (is_some (value_at first q) || list_any (λ (dep : DepLine). hash_eq dep.name q) (take i deps)))
    → PutsFirst old new (get_or deps i d).name true → (q : Hash) → is_some (value_at new q) ≡ (is_some (value_at first q) || list_any (λ (dep : DepLine). hash_eq dep.name q) (take (i + 1) deps))
deps_noted first old new deps i d lt so_far puts q =
    let test : DepLine → Bool = λ dep. hash_eq dep.name q in
    let one = get_or deps i d in
    one_noted old new one.name puts q
    ∙ ap (λ (b : Bool). b || hash_eq one.name q) (so_far q)
    ∙ or_joined (is_some (value_at first q)) (list_any test (take i deps)) (hash_eq one.name q)
    ∙ ap (λ (b : Bool). is_some (value_at first q) || b) (ap (λ (b : Bool). list_any test (take i deps) || b) (sym (or_last (hash_eq one.name q))) ∙ sym (list_any-append test (take i deps) (one ∷ [])) ∙ ap (list_any test) (sym (take_more deps i d lt)))

-- all names of a record
pub names_noted : (first mid new : Noted) (stored : StoredSig) → ((q : Hash) → is_some (value_at mid q) ≡ (is_some (value_at first q) || list_any (λ (dep : DepLine). hash_eq dep.name q) stored.sig.deps)) → PutsFirst mid new stored.unihash true
    → (q : Hash) → is_some (value_at new q) ≡ (is_some (value_at first q) || names q stored)
names_noted first mid new stored deps puts q =
    one_noted mid new stored.unihash puts q ∙ ap (λ (b : Bool). b || hash_eq stored.unihash q) (deps q)
    ∙ or_joined (is_some (value_at first q)) (list_any (λ (dep : DepLine). hash_eq dep.name q) stored.sig.deps) (hash_eq stored.unihash q)

-- a record more is taken
pub taken_noted : (first new : Noted) (old : OldRecord) (records : List OldRecord) → ((q : Hash) → is_some (value_at first q) ≡ is_named q records) → ((q : Hash) → is_some (value_at new q) ≡ (is_some (value_at first q) || names q old.stored))
    → (q : Hash) → is_some (value_at new q) ≡ is_named q (old ∷ records)
taken_noted first new old records so_far more q = more q ∙ ap (λ (b : Bool). b || names q old.stored) (so_far q) ∙ or_turned (is_named q records) (names q old.stored)

-- what is wanted of one record more in front
pub wanted_more : (asked : List Bool) (n : ℕ) (b : Bool) (old : OldRecord) (rest : List OldRecord) → n < length asked → b ≡ get_or asked n false
    → wanted_of (drop n asked) (old ∷ rest) ≡ cond (b || is_named old.name (wanted_of (drop (n + 1) asked) rest)) (old ∷ wanted_of (drop (n + 1) asked) rest) (wanted_of (drop (n + 1) asked) rest)
wanted_more asked n b old rest lt is =
    ap (λ (l : List Bool). wanted_of l (old ∷ rest)) (drop_more asked n false lt)
    ∙ ap (λ (x : Bool). cond (x || is_named old.name (wanted_of (drop (n + 1) asked) rest)) (old ∷ wanted_of (drop (n + 1) asked) rest) (wanted_of (drop (n + 1) asked) rest)) (sym is)
