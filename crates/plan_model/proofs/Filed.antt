-- The input files of a task are plain, at paths of one part.
use Rattle.std.proofs.Common.{◌≡◌, ◌∙◌, sym, ap, refl, subst, ℕ, suc, ◌+◌, ◌-◌, ◌<◌, ◌≤◌, ◌⊎◌, inl, inr, arith, List, [], ◌∷◌, ◌++◌, length, drop, cond, not, Bool, true, false, Option, Some, None, Result, Ok, Err, All, get_or, nat_le, if◌then◌else◌, length-append, add-one}
use Rattle.std.specs.List.{AllByRecursion, onto_first, suffix_len}
use Rattle.std.specs.Prelude.{IsSome, filter}
use Rattle.std.specs.Ordering.{nat_cmp, is_lt}
use Rattle.std.specs.Cmp.Lexicographic.{slice_cmp}
use Rattle.std.proofs.lemmas.List.Elements.{All-from_recursion, recursion_from_All, All-cons, All-nil, All-filter}
use Rattle.std.proofs.lemmas.List.Splits.{slice_split_none}
use Rattle.std.proofs.lemmas.List.Sums.{suffix_len_is}
use Rattle.std.proofs.lemmas.Grind.{common_steps}
use Rattle.tree_model.specs.declared.entry.Entry.{Entry}
use Rattle.tree_model.specs.declared.entry.Entry.TheVariants.{File}
use Rattle.tree_model.specs.Path.{IsPart, IsClean, parts_of}
use Rattle.tree_model.specs.Tree.{IsTree}
use Rattle.tree_model.specs.Overlay.{is_free, in_place, all_in_place, overlaid}
use Rattle.tree_model.proofs.OverlaidLemmas.{overlaid_is}
use Rattle.meta_model.specs.CleanBuild.{Entries}
use Rattle.load_model.specs.Paths.{path_named, file_name, is_slash, slash}
use Rattle.store_model.specs.Valid.{IsPlain}
use Rattle.plan_model.specs.PlanRefusal.{PlanRefusal, missing_file, input_bytes, plan_bytes}
use Rattle.plan_model.specs.Inputs.{Files, Inputs, input_there, input_at, input_of, with_input, within_limit, one_more, inputs_of, most_of_input, most_of_inputs}
use Rattle.plan_model.specs.Sound.{AreClean, IsOnePart}
use Rattle.plan_model.proofs.Planning.{ok_parts, same_ok}

-- the last part of a path

abbrev HasNoSlash : List ℕ → Type 0
HasNoSlash path = AllByRecursion (λ c. is_slash c ≡ false) path

-- what stands before the last slash and behind it
record IsCut (path : List ℕ) : Type 0 where
  front : List ℕ
  tail : List ℕ
  whole : path ≡ front ++ slash ∷ tail
  free : HasNoSlash tail

cut_last : (path : List ℕ) → HasNoSlash path ⊎ IsCut path
cut_last [] = inl tt
cut_last (c ∷ path) = by (is_slash c) refl (cut_last path)
  where
    by : (b : Bool) → is_slash c ≡ b → HasNoSlash path ⊎ IsCut path → HasNoSlash (c ∷ path) ⊎ IsCut (c ∷ path)
    by b e (inr cut) = inr (record { front = c ∷ cut.front; tail = cut.tail; whole = ap (λ l. c ∷ l) cut.whole; free = cut.free })
    by true e (inl free) = inr (record { front = []; tail = path; whole = ap (λ n. n ∷ path) (slash_is c e); free = free })
      where
        slash_is : (n : ℕ) → is_slash n ≡ true → n ≡ slash
        slash_is n h = grind (arith, common_steps, h)
    by false e (inl free) = inl (e, free)

-- where no slash stands from a place on, and one stands before it, the last part begins there
name_from : (path : List ℕ) (n : ℕ) → n ≤ length path → ((k : ℕ) → n ≤ k → k < length path → not (is_slash (get_or path k 0)) ≡ true) → (0 < n → not (is_slash (get_or path (n - 1) 0)) ≡ false) → file_name path ≡ drop n path
name_from path n within free before =
    let e : suffix_len (λ c. not (is_slash c)) path ≡ length path - n = suffix_len_is (λ c. not (is_slash c)) path n 0 within free before in
    let same : length path - suffix_len (λ c. not (is_slash c)) path ≡ n = omega (arith, e, within) in
    ap (λ m. drop m path) same

not_slash : (b : Bool) → b ≡ false → not b ≡ true
not_slash b e = ap not e

free_at : (path : List ℕ) → HasNoSlash path → (k : ℕ) → k < length path → not (is_slash (get_or path k 0)) ≡ true
free_at path free k lt = not_slash (is_slash (get_or path k 0)) (All-from_recursion (λ c. is_slash c ≡ false) path free k 0 lt)

alone : (path : List ℕ) → HasNoSlash path → parts_of path ≡ path ∷ []
alone path free = slice_split_none is_slash path (All-from_recursion (λ c. is_slash c ≡ false) path free)

-- the parts behind a slash are the last parts of a path
record EndsIn (path tail : List ℕ) : Type 0 where
  first : List ℕ
  more : List (List ℕ)
  split : parts_of path ≡ first ∷ (more ++ parts_of tail)

ends_in : (front tail : List ℕ) → EndsIn (front ++ slash ∷ tail) tail
ends_in [] tail = record { first = []; more = []; split = refl }
ends_in (c ∷ front) tail = by (is_slash c) refl (ends_in front tail)
  where
    by : (b : Bool) → is_slash c ≡ b → EndsIn (front ++ slash ∷ tail) tail → EndsIn (c ∷ (front ++ slash ∷ tail)) tail
    by true e rest = record { first = []; more = rest.first ∷ rest.more; split = ap (λ b. cond b ([] ∷ parts_of (front ++ slash ∷ tail)) (onto_first c (parts_of (front ++ slash ∷ tail)))) e ∙ ap (λ l. [] ∷ l) rest.split }
    by false e rest = record { first = c ∷ rest.first; more = rest.more; split = ap (λ b. cond b ([] ∷ parts_of (front ++ slash ∷ tail)) (onto_first c (parts_of (front ++ slash ∷ tail)))) e ∙ ap (onto_first c) rest.split }

last_of : (P : List ℕ → Type 0) (more last : List (List ℕ)) → AllByRecursion P (more ++ last) → AllByRecursion P last
last_of P [] last h = h
last_of P (x ∷ more) last h = last_of P more last h.1

tail_part : (path tail : List ℕ) → EndsIn path tail → HasNoSlash tail → IsClean path → IsOnePart tail
tail_part path tail ends free clean =
    let all : AllByRecursion IsPart (ends.first ∷ (ends.more ++ parts_of tail)) = subst (AllByRecursion IsPart) ends.split (recursion_from_All IsPart (parts_of path) clean.parts) in
    let last : AllByRecursion IsPart (tail ∷ []) = subst (AllByRecursion IsPart) (alone tail free) (last_of IsPart ends.more (parts_of tail) all.1) in
    record { part = last.0; alone = alone tail free }

drop_first : (front : List ℕ) (c : ℕ) (tail : List ℕ) → drop (suc (length front)) (front ++ c ∷ tail) ≡ tail
drop_first [] c tail = refl
drop_first (x ∷ front) c tail = drop_first front c tail

drop_front : (front : List ℕ) (c : ℕ) (tail : List ℕ) → drop (length front + 1) (front ++ c ∷ tail) ≡ tail
drop_front front c tail = rw add-one (drop_first front c tail)

tail_at : (front : List ℕ) (c : ℕ) (tail : List ℕ) (k : ℕ) → length front + 1 ≤ k → get_or (front ++ c ∷ tail) k 0 ≡ get_or tail (k - (length front + 1)) 0
tail_at front c tail k h = grind (arith, common_steps, h)

slash_at : (front : List ℕ) (c : ℕ) (tail : List ℕ) → get_or (front ++ c ∷ tail) (length front + 1 - 1) 0 ≡ c
slash_at front c tail = grind (arith, common_steps)

name_is_tail : (front tail : List ℕ) → HasNoSlash tail → file_name (front ++ slash ∷ tail) ≡ tail
name_is_tail front tail free =
    let path = front ++ slash ∷ tail in
    name_from path (length front + 1) (omega (arith, length-append front (slash ∷ tail)))
    (λ k h lt. subst (λ c. not (is_slash c) ≡ true) (sym (tail_at front slash tail k h)) (free_at tail free (k - (length front + 1)) (omega (arith, lt, h, length-append front (slash ∷ tail)))))
    (λ h. ap (λ c. not (is_slash c)) (slash_at front slash tail))
    ∙ drop_front front slash tail

-- the last part of a clean path is a path of one part
pub name_is_part : (path : List ℕ) → IsClean path → IsOnePart (file_name path)
name_is_part path clean = by (cut_last path)
  where
    by : HasNoSlash path ⊎ IsCut path → IsOnePart (file_name path)
    by (inl free) =
        let name : file_name path ≡ path = name_from path 0 (omega arith) (λ k h lt. free_at path free k lt) (λ h. absurd (omega arith)) in
        let one : AllByRecursion IsPart (path ∷ []) = subst (AllByRecursion IsPart) (alone path free) (recursion_from_All IsPart (parts_of path) clean.parts) in
        subst IsOnePart (sym name) (record { part = one.0; alone = alone path free })
    by (inr cut) =
        let name : file_name path ≡ cut.tail = ap file_name cut.whole ∙ name_is_tail cut.front cut.tail cut.free in
        subst IsOnePart (sym name) (tail_part path cut.tail (subst (λ p. EndsIn p cut.tail) (sym cut.whole) (ends_in cut.front cut.tail)) cut.free clean)

-- trees of such files

pub record IsGood (tree : Entries) : Type 0 where
  pub is_tree : IsTree tree
  pub plain : All IsPlain tree
  pub parts : All (λ e. IsOnePart e.0) tree

pub no_files : IsGood []
no_files = record { is_tree = record { clean = All-nil (λ e. IsClean e.0); ordered = λ i j d lt within. absurd (omega arith) }; plain = All-nil IsPlain; parts = All-nil (λ e. IsOnePart e.0) }

one_part_clean : (path : List ℕ) → IsOnePart path → IsClean path
one_part_clean path one = record { short = omega (arith, one.part.short); parts = subst (All IsPart) (sym one.alone) (All-cons IsPart path [] one.part (All-nil IsPart)) }

pub one_file : (path bytes : List ℕ) → IsOnePart path → IsGood ((path, File false bytes) ∷ [])
one_file path bytes one = record {
  is_tree = record { clean = All-cons (λ e. IsClean e.0) (path, File false bytes) [] (one_part_clean path one) (All-nil (λ e. IsClean e.0)); ordered = λ i j d lt within. absurd (omega arith) };
  plain = All-cons IsPlain (path, File false bytes) [] refl (All-nil IsPlain);
  parts = All-cons (λ e. IsOnePart e.0) (path, File false bytes) [] one (All-nil (λ e. IsOnePart e.0));
}

module _ (P : List ℕ × Entry → Type 0) where
  all_placed : (e : List ℕ × Entry) (xs : Entries) → P e → AllByRecursion P xs → AllByRecursion P (in_place e xs)
  all_placed e [] p h = (p, tt)
  all_placed e (x ∷ xs) p h = by (is_lt (slice_cmp nat_cmp e.0 x.0)) (all_placed e xs p h.1)
    where
      by : (b : Bool) → AllByRecursion P (in_place e xs) → AllByRecursion P (if b then e ∷ (x ∷ xs) else x ∷ in_place e xs)
      by true rest = (p, h)
      by false rest = (h.0, rest)

  all_all_placed : (es tree : Entries) → AllByRecursion P es → AllByRecursion P tree → AllByRecursion P (all_in_place es tree)
  all_all_placed [] tree k h = h
  all_all_placed (e ∷ es) tree k h = all_placed e (all_in_place es tree) k.0 (all_all_placed es tree k.1 h)

  pub all_overlaid : (earlier later : Entries) → All P earlier → All P later → All P (overlaid earlier later)
  unfolding overlaid
  all_overlaid earlier later a b =
      All-from_recursion P (overlaid earlier later)
      (all_all_placed (filter (λ e. is_free later e.0) earlier) later (recursion_from_All P (filter (λ e. is_free later e.0) earlier) (All-filter (λ e. is_free later e.0) P earlier a)) (recursion_from_All P later b))

pub laid : (earlier later : Entries) → IsGood earlier → IsGood later → IsGood (overlaid earlier later)
laid earlier later a b = record {
  is_tree = (overlaid_is earlier later a.is_tree b.is_tree).tree;
  plain = all_overlaid IsPlain earlier later a.plain b.plain;
  parts = all_overlaid (λ e. IsOnePart e.0) earlier later a.parts b.parts;
}

-- the file that a word names

there_good : (files : Files) → AreClean files → (file word path : List ℕ) (found : Option (List ℕ)) → files path ≡ found → (input : List ℕ × Entry) → input_there file word path found ≡ Ok input → IsGood (input ∷ [])
there_good files clean file word path None e input h = absurd (let n : ◌≡◌ {A = Result (List ℕ × Entry) PlanRefusal} (Err (missing_file file word)) (Ok input) = h in cc)
there_good files clean file word path (Some bytes) e input h = by (nat_le (length bytes) most_of_input) h
  where
    by : (b : Bool) → (if b then Ok (file_name path, File false bytes) else Err (input_bytes path)) ≡ Ok input → IsGood (input ∷ [])
    by true k = subst (λ i. IsGood (i ∷ [])) (same_ok {E = PlanRefusal} (file_name path, File false bytes) input k) (one_file (file_name path) bytes (name_is_part path (clean path (subst IsSome (sym e) refl))))
    by false k = absurd (let n : ◌≡◌ {A = Result (List ℕ × Entry) PlanRefusal} (Err (input_bytes path)) (Ok input) = k in cc)

at_good : (files : Files) → AreClean files → (file word : List ℕ) (path : Option (List ℕ)) (input : List ℕ × Entry) → input_at files file word path ≡ Ok input → IsGood (input ∷ [])
at_good files clean file word None input h = absurd (let n : ◌≡◌ {A = Result (List ℕ × Entry) PlanRefusal} (Err (missing_file file word)) (Ok input) = h in cc)
at_good files clean file word (Some path) input h = there_good files clean file word path (files path) refl input h

limit_same : (inputs more : Inputs) → within_limit inputs ≡ Ok more → inputs ≡ more
limit_same inputs more h = by (nat_le inputs.bytes most_of_inputs) h
  where
    by : (b : Bool) → (if b then Ok inputs else Err plan_bytes) ≡ Ok more → inputs ≡ more
    by true k = same_ok {E = PlanRefusal} inputs more k
    by false k = absurd (let n : ◌≡◌ {A = Result Inputs PlanRefusal} (Err plan_bytes) (Ok more) = k in cc)

pub inputs_good : (files : Files) → AreClean files → (file : List ℕ) (inputs : Inputs) (words : List (List ℕ)) (all : Inputs) → IsGood inputs.tree → inputs_of files file inputs words ≡ Ok all → IsGood all.tree
inputs_good files clean file inputs [] all good h = subst (λ i. IsGood i.tree) (same_ok {E = PlanRefusal} inputs all h) good
inputs_good files clean file inputs (word ∷ words) all good h =
    let more = ok_parts (one_more files file inputs word) (λ more. inputs_of files file more words) all h in
    let input = ok_parts (input_of files file word) (λ input. within_limit (with_input inputs input)) more.0 more.1 in
    let same = limit_same (with_input inputs input.0) more.0 input.2 in
    inputs_good files clean file more.0 words all
    (subst (λ i. IsGood i.tree) same (laid inputs.tree (input.0 ∷ []) good (at_good files clean file word (path_named word) input.0 input.1)))
    more.2
