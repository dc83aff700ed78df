-- No entry that a statement adds has the operator `:=`.
use Rattle.std.proofs.Common.{◌≡◌, refl, sym, ap, subst, ℕ, List, [], ◌∷◌, map, Bool, true, false, not, Option, Some, None, Result, Ok, if◌then◌else◌, codes}
use Rattle.std.specs.List.{list_all}
use Rattle.meta_model.proofs.Bools.{both}
use Rattle.meta_model.proofs.Room.{ok_parts}
use Rattle.meta_model.specs.declared.entry.Op.{Op}
use Rattle.meta_model.specs.declared.entry.Op.TheVariants.{Set, Now, Soft, Weak, AddBlank, PutBlank, Add, Put}
use Rattle.meta_model.specs.declared.entry.EntryLine.{EntryLine}
use Rattle.meta_model.specs.declared.entry.EntryLine.TheVariants as entry
use Rattle.meta_model.specs.declared.statement.Statement.{Statement}
use Rattle.meta_model.specs.declared.statement.Statement.TheVariants.{Assign, Flag, Export, Unset, UnsetFlag, Include, Require, Inherit, Function, ExportFunctions, AddTask, DelTask}
use Rattle.meta_model.specs.Refusal.{Refusal}
use Rattle.meta_model.specs.Names.{LateName, late_name, first_part}
use Rattle.meta_model.specs.Active.{expand}
use Rattle.meta_model.specs.Entries.{taken, line_of, assignment_line, set_flag, is_now, has_no_now, lines_of}

-- a text that is taken has another operator
taken_op : (before : List EntryLine) (op : Op) (text : List ℕ) (t : Op × List ℕ) → taken before op text ≡ Ok t → is_now t.0 ≡ false
taken_op before Now text t e =
    let parts = ok_parts (expand before text) (λ expanded. Ok (Set, expanded)) t e in
    let same : ◌≡◌ {A = Op × List ℕ} (Set, parts.0) t = cc in
    sym (ap (λ (p : Op × List ℕ). is_now p.0) same)
taken_op before Set text t e = let same : ◌≡◌ {A = Op × List ℕ} (Set, text) t = cc in sym (ap (λ (p : Op × List ℕ). is_now p.0) same)
taken_op before Soft text t e = let same : ◌≡◌ {A = Op × List ℕ} (Soft, text) t = cc in sym (ap (λ (p : Op × List ℕ). is_now p.0) same)
taken_op before Weak text t e = let same : ◌≡◌ {A = Op × List ℕ} (Weak, text) t = cc in sym (ap (λ (p : Op × List ℕ). is_now p.0) same)
taken_op before AddBlank text t e = let same : ◌≡◌ {A = Op × List ℕ} (AddBlank, text) t = cc in sym (ap (λ (p : Op × List ℕ). is_now p.0) same)
taken_op before PutBlank text t e = let same : ◌≡◌ {A = Op × List ℕ} (PutBlank, text) t = cc in sym (ap (λ (p : Op × List ℕ). is_now p.0) same)
taken_op before Add text t e = let same : ◌≡◌ {A = Op × List ℕ} (Add, text) t = cc in sym (ap (λ (p : Op × List ℕ). is_now p.0) same)
taken_op before Put text t e = let same : ◌≡◌ {A = Op × List ℕ} (Put, text) t = cc in sym (ap (λ (p : Op × List ℕ). is_now p.0) same)

line_op : (op : Op) (name text : List ℕ) (late : Option LateName) → is_now op ≡ false → has_no_now (line_of op name text late) ≡ true
line_op op name text None h = ap not h
line_op op name text (Some late) h = refl

export_lines : (export : Bool) (name flag : List ℕ) → list_all has_no_now (if export then set_flag name flag ∷ [] else []) ≡ true
export_lines true name flag = refl
export_lines false name flag = refl

exported_lines : (class : List ℕ) (names : List (List ℕ)) → list_all has_no_now (map (entry.Exported class) names) ≡ true
exported_lines class [] = refl
exported_lines class (name ∷ names) = exported_lines class names

task_lines : (names after before : List (List ℕ)) → list_all has_no_now (map (λ name. entry.Task name after before) names) ≡ true
task_lines [] after before = refl
task_lines (name ∷ names) after before = task_lines names after before

no_task_lines : (names : List (List ℕ)) → list_all has_no_now (map entry.NoTask names) ≡ true
no_task_lines [] = refl
no_task_lines (name ∷ names) = no_task_lines names

-- what one list is, another equal one is
of_list : (a b : List EntryLine) → list_all has_no_now a ≡ true → ◌≡◌ {A = Result (List EntryLine) Refusal} (Ok a) (Ok b) → list_all has_no_now b ≡ true
of_list a b h e = let same : a ≡ b = cc in subst (λ l. list_all has_no_now l ≡ true) same h

-- no entry has `:=`
pub lines_have_no_now : (class : List ℕ) (before : List EntryLine) (statement : Statement) (lines : List EntryLine) → lines_of class before statement ≡ Ok lines → list_all has_no_now lines ≡ true
lines_have_no_now class before (Assign export name op text) lines e =
    let rest = λ (t : Op × List ℕ). assignment_line name t.0 t.1 ∷ (if export then set_flag name (codes "export") ∷ [] else []) in
    let parts = ok_parts (taken before op text) (λ t. Ok (rest t)) lines e in
    of_list (rest parts.0) lines (both (has_no_now (assignment_line name parts.0.0 parts.0.1)) (list_all has_no_now (if export then set_flag name (codes "export") ∷ [] else []))
    (line_op parts.0.0 name parts.0.1 (late_name name) (taken_op before op text parts.0 parts.1)) (export_lines export name (codes "export"))) parts.2
lines_have_no_now class before (Flag name flag op text) lines e =
    let parts = ok_parts (taken before op text) (λ t. Ok (entry.Flag name flag t.0 t.1 ∷ [])) lines e in
    of_list (entry.Flag name flag parts.0.0 parts.0.1 ∷ []) lines (both (not (is_now parts.0.0)) true (ap not (taken_op before op text parts.0 parts.1)) refl) parts.2
lines_have_no_now class before (Export name) lines e = of_list (set_flag name (codes "export") ∷ []) lines refl e
lines_have_no_now class before (Unset name) lines e = of_list (entry.Unset name ∷ []) lines refl e
lines_have_no_now class before (UnsetFlag name flag) lines e = of_list (entry.UnsetFlag name flag ∷ []) lines refl e
lines_have_no_now class before (Function name body) lines e =
    of_list (assignment_line name Set body ∷ set_flag (first_part name) (codes "func") ∷ []) lines
    (both (has_no_now (assignment_line name Set body)) true (line_op Set name body (late_name name) refl) refl) e
lines_have_no_now class before (ExportFunctions names) lines e = of_list (map (entry.Exported class) names) lines (exported_lines class names) e
lines_have_no_now class before (AddTask names after earlier) lines e = of_list (map (λ name. entry.Task name after earlier) names) lines (task_lines names after earlier) e
lines_have_no_now class before (DelTask names) lines e = of_list (map entry.NoTask names) lines (no_task_lines names) e
lines_have_no_now class before (Include path) lines e = of_list [] lines refl e
lines_have_no_now class before (Require path) lines e = of_list [] lines refl e
lines_have_no_now class before (Inherit names) lines e = of_list [] lines refl e
