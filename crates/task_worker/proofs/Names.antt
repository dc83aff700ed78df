-- Names that are parts of paths, and paths behind them.
use Rattle.std.proofs.Common.{◌≡◌, ◌<◌, ◌≤◌, ◌∙◌, sym, ap, subst, refl, ℕ, List, [], ◌∷◌, length, get_or, arith, All, Bool, true, false, zero, suc, append_assoc, length-append, lit<, lit≤}
use Rattle.std.specs.Prelude.{Contains, slice_index_or, codes, ◌==◌, ◌&&◌, ◌||◌, not, nat_le}
use Rattle.std.specs.List.{list_all}
use Rattle.std.specs.Bool.{Decides}
use Rattle.std.specs.Char.{is_ascii_alphabetic, is_ascii_alphanumeric}
use Rattle.std.proofs.lemmas.Bool.{false≢true, leb-true}
use Rattle.std.proofs.lemmas.Bool.Decides.{Decides-eqb}
use Rattle.std.proofs.lemmas.List.Sums.{AllPass-from_list_all}
use Rattle.std.proofs.lemmas.List.Splits.{slice_split_at}
use Rattle.std.proofs.lemmas.List.Elements.{All-contains}
use Rattle.tree_model.specs.Path.{IsClean, IsPart, parts_of, inside}
use Rattle.tree_model.proofs.PathLemmas.{no_zero_in}
use Rattle.meta_model.proofs.Bools.{and_left, and_right}
use Rattle.meta_model.specs.Text.{begins_with, is_empty, is_in, is_letter_digit_or, is_made_of, is_shell_name}
use Rattle.meta_model.specs.declared.plan.PlanTask.{PlanTask}
use Rattle.load_model.specs.Recipes.{is_pn}
use Rattle.plan_model.specs.Names.{is_task_name}
use Rattle.task_worker.specs.Runnable.{IsRunnableTask}
use Rattle.task_worker.specs.Work.{HasNames, IsName}

cons_at : {X : Type 0} (P : X → Type 0) (x : X) (xs : List X) → P x → All P xs → (k : ℕ) (d : X) → k < length (x ∷ xs) → P (slice_index_or (x ∷ xs) k d)
cons_at P x xs here rest zero d lt = here
cons_at P x xs here rest (suc k) d lt = rest k d (omega arith)

pub All-cons : {X : Type 0} (P : X → Type 0) (x : X) (xs : List X) → P x → All P xs → All P (x ∷ xs)
All-cons P x xs here rest = λ k d lt. cons_at P x xs here rest k d lt

-- what passes a test that a byte fails isn't that byte
other_byte : (p : ℕ → Bool) (z b : ℕ) → p z ≡ false → p b ≡ true → (b == z) ≡ false
other_byte p z b f t = by (b == z) refl
  where
    by : (r : Bool) → (b == z) ≡ r → (b == z) ≡ false
    by false e = e
    by true e = let same : b ≡ z = (subst (λ (r : Bool). Decides r (b ≡ z)) e (Decides-eqb b z)).0 refl in absurd (false≢true (sym (ap p same ∙ f) ∙ t))

all_other : (p : ℕ → Bool) (z : ℕ) → p z ≡ false → (text : List ℕ) → list_all p text ≡ true → All (λ b. (b == z) ≡ false) text
all_other p z f text h k d lt = other_byte p z (get_or text k d) f (AllPass-from_list_all p text h k d lt)

none_of : (p : ℕ → Bool) (z : ℕ) → p z ≡ false → (text : List ℕ) → list_all p text ≡ true → Contains text z → ⊥
none_of p z f text h has = false≢true (sym f ∙ All-contains (λ b. p b ≡ true) text z (AllPass-from_list_all p text h) has)

some_byte : (name : List ℕ) → not (is_empty name) ≡ true → 0 < length name
some_byte [] e = absurd (false≢true e)
some_byte (b ∷ name) e = omega arith

abbrev is_other : List ℕ → Bool
is_other name = not (is_in name (codes "." ∷ codes ".." ∷ []))

not_a_dot : (name : List ℕ) → is_other name ≡ true → name ≡ 46 ∷ [] → ⊥
not_a_dot name other e = let h : false ≡ true = subst (λ (n : List ℕ). is_other n ≡ true) e other in false≢true h

not_two_dots : (name : List ℕ) → is_other name ≡ true → name ≡ 46 ∷ 46 ∷ [] → ⊥
not_two_dots name other e = let h : false ≡ true = subst (λ (n : List ℕ). is_other n ≡ true) e other in false≢true h

pn_is_name : (name : List ℕ) → is_pn name ≡ true → IsName name
pn_is_name name is =
    let made = and_left (is_made_of (codes "+-.") name) (nat_le (length name) 255 && is_other name) is in
    let rest = and_right (is_made_of (codes "+-.") name) (nat_le (length name) 255 && is_other name) is in
    let some = and_left (not (is_empty name)) (list_all (is_letter_digit_or (codes "+-.")) name) made in
    let plain = and_right (not (is_empty name)) (list_all (is_letter_digit_or (codes "+-.")) name) made in
    let short = and_left (nat_le (length name) 255) (is_other name) rest in
    let other = and_right (nat_le (length name) 255) (is_other name) rest in
    record {
      part = record {
        not_empty = some_byte name some;
        short = leb-true (length name) 255 short;
        not_here = not_a_dot name other;
        not_above = not_two_dots name other;
        no_zero = none_of (is_letter_digit_or (codes "+-.")) 0 refl name plain;
      };
      no_slash = all_other (is_letter_digit_or (codes "+-.")) 47 refl name plain;
    }

shell_other : (z : ℕ) → (is_ascii_alphabetic z || z == 95) ≡ false → (is_ascii_alphanumeric z || z == 95) ≡ false → (name : List ℕ) → is_shell_name name ≡ true → All (λ b. (b == z) ≡ false) name
shell_other z e f [] h = λ k d lt. absurd (omega arith)
shell_other z e f (c ∷ cs) h =
    let first = and_left (is_ascii_alphabetic c || c == 95) (list_all (λ d. is_ascii_alphanumeric d || d == 95) cs) h in
    let rest = and_right (is_ascii_alphabetic c || c == 95) (list_all (λ d. is_ascii_alphanumeric d || d == 95) cs) h in
    All-cons (λ b. (b == z) ≡ false) c cs (other_byte (λ b. is_ascii_alphabetic b || b == 95) z c e first) (all_other (λ b. is_ascii_alphanumeric b || b == 95) z f cs rest)

shell_some : (name : List ℕ) → is_shell_name name ≡ true → 0 < length name
shell_some [] h = absurd (false≢true h)
shell_some (c ∷ cs) h = omega arith

never_zero : (name : List ℕ) → All (λ b. (b == 0) ≡ false) name → Contains name 0 → ⊥
never_zero name other has = let e : false ≡ true = sym (All-contains (λ b. (b == 0) ≡ false) name 0 other has) in false≢true e

shell_not : (name other : List ℕ) → is_shell_name other ≡ false → is_shell_name name ≡ true → name ≡ other → ⊥
shell_not name other f h e = false≢true (sym f ∙ ap is_shell_name (sym e) ∙ h)

task_is_name : (name : List ℕ) → is_task_name name ≡ true → IsName name
task_is_name name is =
    let rest = and_right (begins_with (codes "do_") name) (is_shell_name name && nat_le (length name) 255) is in
    let shell = and_left (is_shell_name name) (nat_le (length name) 255) rest in
    let short = and_right (is_shell_name name) (nat_le (length name) 255) rest in
    record {
      part = record {
        not_empty = shell_some name shell;
        short = leb-true (length name) 255 short;
        not_here = shell_not name (46 ∷ []) refl shell;
        not_above = shell_not name (46 ∷ 46 ∷ []) refl shell;
        no_zero = never_zero name (shell_other 0 refl refl name shell);
      };
      no_slash = shell_other 47 refl refl name shell;
    }

pub has_names : (n : ℕ) (task : PlanTask) → IsRunnableTask n task → HasNames task
has_names n task s = record { pn = pn_is_name task.id.pn s.pn; task = task_is_name task.id.task s.name }

-- ---- paths behind names

pub parts_behind : (name path : List ℕ) → All (λ b. (b == 47) ≡ false) name → parts_of (inside name path) ≡ name ∷ parts_of path
parts_behind name path plain = slice_split_at (λ b. b == 47) name 47 path plain refl

deps_is_part : IsPart (codes "deps")
deps_is_part = record { not_empty = lit< tt; short = lit≤ tt; not_here = λ e. cc; not_above = λ e. cc; no_zero = λ has. no_zero_in (codes "deps") refl has }

work_is_part : IsPart (codes "work")
work_is_part = record { not_empty = lit< tt; short = lit≤ tt; not_here = λ e. cc; not_above = λ e. cc; no_zero = λ has. no_zero_in (codes "work") refl has }

files_is_part : IsPart (codes "files")
files_is_part = record { not_empty = lit< tt; short = lit≤ tt; not_here = λ e. cc; not_above = λ e. cc; no_zero = λ has. no_zero_in (codes "files") refl has }

-- a path of an output behind `work`
pub clean_work : (path : List ℕ) → IsClean path → length path ≤ 3072 → IsClean (inside (codes "work") path)
clean_work path clean short = record {
  short = omega (arith, length-append (codes "work") (47 ∷ path));
  parts = All-cons IsPart (codes "work") (parts_of path) work_is_part clean.parts;
}

-- a file's path behind `files`
pub clean_files : (path : List ℕ) → IsClean path → length path ≤ 255 → IsClean (inside (codes "files") path)
clean_files path clean short = record {
  short = omega (arith, length-append (codes "files") (47 ∷ path));
  parts = All-cons IsPart (codes "files") (parts_of path) files_is_part clean.parts;
}

-- a path of an output behind `deps`, a PN and a task
pub clean_dependency : (pn task path : List ℕ) → IsName pn → IsName task → IsClean path → length path ≤ 3072 → IsClean (inside (inside (codes "deps") (inside pn task)) path)
clean_dependency pn task path p t clean short = record {
  short = let a = p.part.short in let b = t.part.short in
      omega (arith, a, b, short, length-append (inside (codes "deps") (inside pn task)) (47 ∷ path), length-append (codes "deps") (47 ∷ inside pn task), length-append pn (47 ∷ task));
  parts = let P : List (List ℕ) → Type 0 = λ l. All IsPart l in
      subst P (sym split) (All-cons IsPart (codes "deps") (pn ∷ task ∷ parts_of path) deps_is_part (All-cons IsPart pn (task ∷ parts_of path) p.part (All-cons IsPart task (parts_of path) t.part clean.parts)));
}
  where
    inner : parts_of (inside (inside pn task) path) ≡ pn ∷ task ∷ parts_of path
    inner = ap parts_of (append_assoc pn (47 ∷ task) (47 ∷ path)) ∙ parts_behind pn (inside task path) p.no_slash ∙ ap (λ l. pn ∷ l) (parts_behind task path t.no_slash)

    split : parts_of (inside (inside (codes "deps") (inside pn task)) path) ≡ codes "deps" ∷ pn ∷ task ∷ parts_of path
    split = ap (λ l. codes "deps" ∷ l) inner
