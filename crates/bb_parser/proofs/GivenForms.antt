-- Each statement that a line gives can be written.
use Rattle.std.proofs.Common.{◌≡◌, ℕ, zero, suc, ◌-◌, Bool, true, false, cond, not, ◌&&◌, ◌||◌, ◌==◌, List, [], ◌∷◌, ◌++◌, map, length, drop, is_some, refl, sym, ap, ◌∙◌, Option, Some, None, Result, Ok, Err, find, codes, bytes_eq, count_by}
use Rattle.std.specs.List.{list_all, slice_split}
use Rattle.std.specs.List.{onto_first as split_onto}
use Rattle.std.specs.Option.{option_map}
use Rattle.std.proofs.lemmas.Bool.{and_parts, and_right, eqb-true}
use Rattle.std.proofs.lemmas.List.Folds.{list_all-append}
use Rattle.meta_model.specs.declared.entry.Op.{Op}
use Rattle.meta_model.specs.declared.line.Kind.{Kind}
use Rattle.meta_model.specs.declared.line.SyntaxFault.{SyntaxFault}
use Rattle.meta_model.specs.declared.line.SyntaxFault.TheVariants as wrong
use Rattle.meta_model.specs.declared.statement.Statement.{Statement}
use Rattle.meta_model.specs.declared.statement.Statement.TheVariants.{Assign, Flag, Export, Unset, UnsetFlag, ExportFunctions, AddTask, DelTask}
use Rattle.meta_model.specs.Text.{cuts, newline, is_blank, is_white, is_quote, is_empty, begins_with, skip_blanks, without_last, split_at_first, words, non_empty}
use Rattle.meta_model.specs.Names.{is_name, is_flag, is_late}
use Rattle.meta_model.specs.Grammar.{Fit, Quoted, ◌>>=◌, where_true, operators, operator, operation, quoted, behind_word, assignment, flag_of_name, flag_assignment, with_name, flag_unset, with_words, task_of, tasks, part, up_to_part, task_parts, task_names, fit_of, plain_fit, name_behind_word, words_behind_word}
use Rattle.meta_model.specs.Statements.{statement_of, statement_of_fit, is_python, is_python_word, is_fakeroot, holds_python, statement_holds_python, has_one_inner_quote, has_reserved_name, statement_is_reserved, is_reserved, is_allowed, is_weak}
use Rattle.bb_parser.specs.Written.{is_one_line, times_of, is_quotable, is_free_name, is_word, is_task, can_be_written}
use Rattle.bb_parser.proofs.NameSearch.{wanted, with_char, find-map}
use Rattle.bb_parser.specs.Tasks.{is_task_name}
use Rattle.bb_parser.proofs.Bounds.{one_of_two}
use Rattle.bb_parser.proofs.WrittenWords.{unwhite, all-take}
use Rattle.bb_parser.proofs.WritableFacts.{split-is}
use Rattle.bb_parser.proofs.Tests.{not_true, or_parts}

three : (a b c : Bool) → a ≡ true → b ≡ true → c ≡ true → (a && b && c) ≡ true
three a b c h k l = rw (h, k, l) refl

four : (a b c d : Bool) → a ≡ true → b ≡ true → c ≡ true → d ≡ true → (a && b && c && d) ≡ true
four a b c d h k l m = rw (h, k, l, m) refl

-- what is known of a statement that a line gives
pub record IsGiven (kind : Kind) (text body : List ℕ) (s : Statement) : Type 0 where
  pub fit : Fit
  pub fits : fit_of text body ≡ Some fit
  pub is : fit.statement ≡ s
  pub python : is_python_word text ≡ false
  pub unheld : holds_python body ≡ false
  pub holds : statement_holds_python s ≡ false
  pub inner : (fit.inner == 1) ≡ false
  pub free : statement_is_reserved s ≡ false
  pub allowed : is_allowed kind s ≡ true

chain : Bool → Bool → Bool → Bool → Result Statement SyntaxFault → Result Statement SyntaxFault
chain p f q r last = cond p (Err wrong.Python) (cond f (Err wrong.Fakeroot) (cond q (Err wrong.OneInnerQuote) (cond r (Err wrong.ReservedName) last)))

chain-ok : (p f q r : Bool) (last : Result Statement SyntaxFault) (s : Statement) → chain p f q r last ≡ Ok s → (p ≡ false) × (q ≡ false) × (r ≡ false) × (last ≡ Ok s)
unfolding chain
chain-ok true f q r last s h = cc
chain-ok false true q r last s h = cc
chain-ok false false true r last s h = cc
chain-ok false false false true last s h = cc
chain-ok false false false false last s h = (refl, refl, refl, h)

fit-ok : (kind : Kind) (o a : Bool) (x s : Statement) → is_allowed kind x ≡ a → ◌≡◌ {A = Result Statement SyntaxFault} (cond (not a) (Err wrong.BadLine) (cond o (Err wrong.OpenFunction) (Ok x))) (Ok s) → (x ≡ s) × (is_allowed kind x ≡ true)
fit-ok kind o false x s e h = cc
fit-ok kind true true x s e h = cc
fit-ok kind false true x s e h = let g : x ≡ s = cc in (g, e)

pub given-is : (kind : Kind) (text body : List ℕ) (o : Bool) (s : Statement) → statement_of kind text body o ≡ Ok s → IsGiven kind text body s
unfolding statement_of chain
given-is kind text body o s h = by_fit (fit_of text body) refl h
  where
    by_fit : (fit : Option Fit) → fit_of text body ≡ fit → chain (is_python text body fit) (is_fakeroot text) (has_one_inner_quote fit) (has_reserved_name fit) (statement_of_fit kind o fit) ≡ Ok s → IsGiven kind text body s
    by_fit None e k = absurd (no_fit (is_python text body None) (is_fakeroot text) k)
      where
        no_fit : (p f : Bool) → chain p f false false (Err wrong.BadLine) ≡ Ok s → ⊥
        no_fit p f k = let m = chain-ok p f false false (Err wrong.BadLine) s k in let g = m.3 in cc
    by_fit (Some fit) e k =
        let m = chain-ok (is_python text body (Some fit)) (is_fakeroot text) (has_one_inner_quote (Some fit)) (has_reserved_name (Some fit)) (statement_of_fit kind o (Some fit)) s k in
        let a = fit-ok kind o (is_allowed kind fit.statement) fit.statement s refl m.3 in
        let p = or_parts (is_python_word text || holds_python body) (statement_holds_python fit.statement) m.0 in
        let q = or_parts (is_python_word text) (holds_python body) p.0 in
        record { fit = fit; fits = e; is = a.0; python = q.0; unheld = q.1; holds = ap statement_holds_python (sym a.0) ∙ p.1; inner = m.1; free = ap statement_is_reserved (sym a.0) ∙ m.2; allowed = ap (is_allowed kind) (sym a.0) ∙ a.1 }

-- the cut that is found is one of the text
find-passes : {A : Type 0} (p : A → Bool) (xs : List A) (x : A) → find p xs ≡ Some x → p x ≡ true
find-passes p [] x e = cc
find-passes p (y ∷ ys) x e = by_case (p y) refl e (find-passes p ys x)
  where
    by_case : (b : Bool) → p y ≡ b → cond b (Some y) (find p ys) ≡ Some x → (find p ys ≡ Some x → p x ≡ true) → p x ≡ true
    by_case true t h f = let g : y ≡ x = cc in ap p (sym g) ∙ t
    by_case false t h f = f h

pub map-some : {A B : Type 0} (f : A → B) (o : Option A) (y : B) → option_map f o ≡ Some y → (x : A) × (o ≡ Some x) × (f x ≡ y)
map-some f None y e = cc
map-some f (Some x) y e = let g : f x ≡ y = cc in (x, refl, g)

pub bind-some : {A B : Type 0} (m : Option A) (f : A → Option B) (y : B) → (m >>= f) ≡ Some y → (x : A) × (m ≡ Some x) × (f x ≡ Some y)
bind-some None f y e = cc
bind-some (Some x) f y e = (x, refl, e)

pub where-some : {A : Type 0} (t : Bool) (x y : A) → where_true t x ≡ Some y → (t ≡ true) × (x ≡ y)
where-some true x y e = let g : x ≡ y = cc in (refl, g)
where-some false x y e = cc

-- what all characters behind a cut are
all-cuts : (q : ℕ → Bool) (p : List ℕ × List ℕ → Bool) (s : List ℕ) (x : List ℕ × List ℕ) → list_all q s ≡ true → find p (cuts s) ≡ Some x → list_all q x.1 ≡ true
all-cuts q p [] x h e = cc
all-cuts q p (c ∷ cs) x h e = by_case (p (c ∷ [], cs)) e (and_parts (q c) (list_all q cs) h).1 (λ y k. all-cuts q (λ z. p (with_char c z)) cs y (and_parts (q c) (list_all q cs) h).1 k)
  where
    by_case : (b : Bool) → cond b (Some (c ∷ [], cs)) (find p (map (with_char c) (cuts cs))) ≡ Some x → list_all q cs ≡ true
        → ((y : List ℕ × List ℕ) → find (λ z. p (with_char c z)) (cuts cs) ≡ Some y → list_all q y.1 ≡ true) → list_all q x.1 ≡ true
    by_case true k h f = let g : ◌≡◌ {A = List ℕ × List ℕ} (c ∷ [], cs) x = cc in ap (λ z. list_all q z.1) (sym g) ∙ h
    by_case false k h f = let m = map-some (with_char c) (find (λ z. p (with_char c z)) (cuts cs)) x (sym (find-map p (with_char c) (cuts cs)) ∙ k) in
        ap (λ z. list_all q z.1) (sym m.2) ∙ f m.0 m.1

all-drop : (q : ℕ → Bool) (n : ℕ) (xs : List ℕ) → list_all q xs ≡ true → list_all q (drop n xs) ≡ true
all-drop q zero xs h = h
all-drop q (suc n) [] h = refl
all-drop q (suc n) (x ∷ xs) h = all-drop q n xs (and_parts (q x) (list_all q xs) h).1

pub all-skip : (q : ℕ → Bool) (xs : List ℕ) → list_all q xs ≡ true → list_all q (skip_blanks xs) ≡ true
all-skip q [] h = refl
all-skip q (x ∷ xs) h = by_case (is_blank x) h (all-skip q xs (and_parts (q x) (list_all q xs) h).1)
  where
    by_case : (b : Bool) → list_all q (x ∷ xs) ≡ true → list_all q (skip_blanks xs) ≡ true → list_all q (cond b (skip_blanks xs) (x ∷ xs)) ≡ true
    by_case true h k = k
    by_case false h k = h

all-operator : (q : ℕ → Bool) (s : List ℕ) (o : Op × List ℕ) → list_all q s ≡ true → operator s ≡ Some o → list_all q o.1 ≡ true
unfolding operator
all-operator q s o h e = let m = bind-some (find (λ x. begins_with x.0 (skip_blanks s)) operators) (λ x. Some (x.1, drop (length x.0) (skip_blanks s))) o e in
    let g : ◌≡◌ {A = Op × List ℕ} (m.0.1, drop (length m.0.0) (skip_blanks s)) o = cc in
    ap (λ z. list_all q z.1) (sym g) ∙ all-drop q (length m.0.0) (skip_blanks s) (all-skip q s h)

-- a text in quotes
record IsQuoted (s : List ℕ) (q : Quoted) : Type 0 where
  quote : ℕ
  quotes : is_quote quote ≡ true
  counts : q.inner ≡ times_of quote q.text
  made : (p : ℕ → Bool) → list_all p s ≡ true → list_all p q.text ≡ true

quoted-parts : (s : List ℕ) (q : Quoted) → quoted s ≡ Some q → IsQuoted s q
unfolding quoted
quoted-parts [] q e = cc
quoted-parts (c ∷ cs) q e =
    let r : Quoted = record { text = without_last cs; inner = count_by (λ d. d == c) (without_last cs) } in
    let w = where-some (is_quote c && bytes_eq cs (without_last cs ++ c ∷ [])) r q e in
    let a = and_parts (is_quote c) (bytes_eq cs (without_last cs ++ c ∷ [])) w.0 in
    record {
      quote = c;
      quotes = a.0;
      counts = ap (λ (z : Quoted). z.inner) (sym w.1) ∙ ap (λ (z : Quoted). times_of c z.text) w.1;
      made = λ p h. ap (λ (z : Quoted). list_all p z.text) (sym w.1) ∙ all-take p (length cs - 1) cs (and_parts (p c) (list_all p cs) h).1;
    }

operation-parts : (s : List ℕ) (o : Op × Quoted) → operation s ≡ Some o → (t : List ℕ) × IsQuoted t o.1 × ((p : ℕ → Bool) → list_all p s ≡ true → list_all p t ≡ true)
operation-parts s o e =
    let m = bind-some (operator s) (λ x. quoted (skip_blanks x.1) >>= λ q. Some (x.0, q)) o e in
    let n = bind-some (quoted (skip_blanks m.0.1)) (λ q. Some (m.0.0, q)) o m.2 in
    let g : ◌≡◌ {A = Op × Quoted} (m.0.0, n.0) o = cc in
    (skip_blanks m.0.1, quoted-parts (skip_blanks m.0.1) o.1 (n.1 ∙ ap (λ z. Some z.1) g), λ p h. all-skip p m.0.1 (all-operator p s m.0 h m.1))

quotable-is : (q : Quoted) (c : ℕ) → is_quote c ≡ true → q.inner ≡ times_of c q.text → (q.inner == 1) ≡ false → is_one_line q.text ≡ true → holds_python q.text ≡ false → is_quotable q.text ≡ true
quotable-is q c k e i o h = rw (o, h) (not_true (times_of 34 q.text == 1 && times_of 39 q.text == 1) (one_of_two (c == 34) (c == 39) k
    (λ t. rw (ap (λ d. times_of d q.text == 1) (sym (eqb-true c 34 t)) ∙ (ap (λ n. n == 1) (sym e) ∙ i)) refl)
    (λ t. and_right (times_of 34 q.text == 1) (times_of 39 q.text == 1) (ap (λ d. times_of d q.text == 1) (sym (eqb-true c 39 t)) ∙ (ap (λ n. n == 1) (sym e) ∙ i)))))

-- what is known of a fit
pub record Fine (kind : Kind) (fit : Fit) : Type 0 where
  pub holds : statement_holds_python fit.statement ≡ false
  pub inner : (fit.inner == 1) ≡ false
  pub free : statement_is_reserved fit.statement ≡ false
  pub allowed : is_allowed kind fit.statement ≡ true

pub free-is : (name : List ℕ) → is_name name ≡ true → is_reserved name ≡ false → is_free_name name ≡ true
free-is name h k = rw (h, k) refl

-- NAME OP QUOTED
pub assigned-can : (kind : Kind) (export : Bool) (s : List ℕ) (fit : Fit) → Fine kind fit → is_one_line s ≡ true → assignment export s ≡ Some fit → can_be_written fit.statement ≡ true
assigned-can kind export s fit f l e =
    let m = bind-some (find wanted (cuts s)) (λ c. operation c.1 >>= λ o. Some (record { statement = Assign export c.0 o.0 o.1.text; inner = o.1.inner })) fit e in
    let n = bind-some (operation m.0.1) (λ o. Some (record { statement = Assign export m.0.0 o.0 o.1.text; inner = o.1.inner })) fit m.2 in
    let g : ◌≡◌ {A = Fit} (record { statement = Assign export m.0.0 n.0.0 n.0.1.text; inner = n.0.1.inner }) fit = cc in
    let d = operation-parts m.0.1 n.0 n.1 in
    let st = ap (λ (z : Fit). z.statement) g in
    let w = and_parts (is_name m.0.0) (is_some (operator m.0.1)) (find-passes wanted (cuts s) m.0 m.1) in
    let o = d.1.made (λ c. not (c == newline)) (d.2 (λ c. not (c == newline)) (all-cuts (λ c. not (c == newline)) wanted s m.0 l m.1)) in
    let q = quotable-is n.0.1 d.1.quote d.1.quotes d.1.counts (ap (λ (z : Fit). z.inner == 1) g ∙ f.inner) o (ap statement_holds_python st ∙ f.holds) in
    ap can_be_written (sym st) ∙ three (is_free_name m.0.0) (is_quotable n.0.1.text) (not (is_weak n.0.0 && is_late m.0.0)) (free-is m.0.0 w.0 (ap statement_is_reserved st ∙ f.free)) q (ap (is_allowed kind) st ∙ f.allowed)

-- NAME[FLAG], and what follows it
flag-parts : (s : List ℕ) (n : List ℕ × List ℕ × List ℕ) → flag_of_name s ≡ Some n → (is_name n.0 ≡ true) × (is_flag n.1 ≡ true) × ((p : ℕ → Bool) → list_all p s ≡ true → list_all p n.2 ≡ true)
flag-parts s n e =
    let m = bind-some (split_at_first 91 s) (λ x. split_at_first 93 x.1 >>= λ f. where_true (is_name x.0 && is_flag f.0) (x.0, f.0, f.1)) n e in
    let k = bind-some (split_at_first 93 m.0.1) (λ f. where_true (is_name m.0.0 && is_flag f.0) (m.0.0, f.0, f.1)) n m.2 in
    let w = where-some (is_name m.0.0 && is_flag k.0.0) (m.0.0, k.0.0, k.0.1) n k.2 in
    let a = and_parts (is_name m.0.0) (is_flag k.0.0) w.0 in (
      ap (λ z. is_name z.0) (sym w.1) ∙ a.0,
      ap (λ z. is_flag z.1) (sym w.1) ∙ a.1,
      λ p h. ap (λ z. list_all p z.2) (sym w.1) ∙ split-all p 93 m.0.1 k.0 (split-all p 91 s m.0 h m.1) k.1,
    )
  where
    split-all : (p : ℕ → Bool) (d : ℕ) (xs : List ℕ) (x : List ℕ × List ℕ) → list_all p xs ≡ true → split_at_first d xs ≡ Some x → list_all p x.1 ≡ true
    split-all p d xs x h e = let k = split-is d xs x.0 x.1 e in
        (and_parts (p d) (list_all p x.1) (and_parts (list_all p x.0) (list_all p (d ∷ x.1)) (sym (list_all-append p x.0 (d ∷ x.1)) ∙ (ap (list_all p) (sym k.0) ∙ h))).1).1

-- NAME[FLAG] OP QUOTED
pub flagged-can : (kind : Kind) (s : List ℕ) (fit : Fit) → Fine kind fit → is_one_line s ≡ true → flag_assignment s ≡ Some fit → can_be_written fit.statement ≡ true
flagged-can kind s fit f l e =
    let m = bind-some (flag_of_name s) (λ n. operation n.2 >>= λ o. Some (record { statement = Flag n.0 n.1 o.0 o.1.text; inner = o.1.inner })) fit e in
    let n = bind-some (operation m.0.2) (λ o. Some (record { statement = Flag m.0.0 m.0.1 o.0 o.1.text; inner = o.1.inner })) fit m.2 in
    let g : ◌≡◌ {A = Fit} (record { statement = Flag m.0.0 m.0.1 n.0.0 n.0.1.text; inner = n.0.1.inner }) fit = cc in
    let d = operation-parts m.0.2 n.0 n.1 in
    let st = ap (λ (z : Fit). z.statement) g in
    let w = flag-parts s m.0 m.1 in
    let o = d.1.made (λ c. not (c == newline)) (d.2 (λ c. not (c == newline)) (w.2 (λ c. not (c == newline)) l)) in
    let q = quotable-is n.0.1 d.1.quote d.1.quotes d.1.counts (ap (λ (z : Fit). z.inner == 1) g ∙ f.inner) o (ap statement_holds_python st ∙ f.holds) in
    ap can_be_written (sym st) ∙ three (is_free_name m.0.0) (is_flag m.0.1) (is_quotable n.0.1.text) (free-is m.0.0 w.0 (ap statement_is_reserved st ∙ f.free)) w.1 q

-- what stands behind a word is a name
name-behind : (word s n : List ℕ) → name_behind_word word s ≡ Some n → is_name n ≡ true
name-behind word s n e =
    let m = bind-some (behind_word word s) (λ t. where_true (is_name t) t) n e in
    let w = where-some (is_name m.0) m.0 n m.2 in
    ap is_name (sym w.1) ∙ w.0

-- the word and NAME
pub export-can : (kind : Kind) (s : List ℕ) (fit : Fit) → Fine kind fit → with_name (codes "export") Export s ≡ Some fit → can_be_written fit.statement ≡ true
export-can kind s fit f e =
    let m = map-some (λ n. plain_fit (Export n)) (name_behind_word (codes "export") s) fit e in
    let st = ap (λ (z : Fit). z.statement) m.2 in
    ap can_be_written (sym st) ∙ free-is m.0 (name-behind (codes "export") s m.0 m.1) (ap statement_is_reserved st ∙ f.free)

pub unset-can : (kind : Kind) (s : List ℕ) (fit : Fit) → Fine kind fit → with_name (codes "unset") Unset s ≡ Some fit → can_be_written fit.statement ≡ true
unset-can kind s fit f e =
    let m = map-some (λ n. plain_fit (Unset n)) (name_behind_word (codes "unset") s) fit e in
    let st = ap (λ (z : Fit). z.statement) m.2 in
    ap can_be_written (sym st) ∙ free-is m.0 (name-behind (codes "unset") s m.0 m.1) (ap statement_is_reserved st ∙ f.free)

-- unset NAME[FLAG]
pub unset_flag-can : (kind : Kind) (s : List ℕ) (fit : Fit) → Fine kind fit → flag_unset s ≡ Some fit → can_be_written fit.statement ≡ true
unset_flag-can kind s fit f e =
    let m = bind-some (behind_word (codes "unset") s) (λ rest. flag_of_name rest >>= λ n. where_true (is_empty n.2) (plain_fit (UnsetFlag n.0 n.1))) fit e in
    let n = bind-some (flag_of_name m.0) (λ x. where_true (is_empty x.2) (plain_fit (UnsetFlag x.0 x.1))) fit m.2 in
    let w = where-some (is_empty n.0.2) (plain_fit (UnsetFlag n.0.0 n.0.1)) fit n.2 in
    let d = flag-parts m.0 n.0 n.1 in
    let st = ap (λ (z : Fit). z.statement) w.1 in
    ap can_be_written (sym st) ∙ rw (free-is n.0.0 d.0 (ap statement_is_reserved st ∙ f.free), d.1) refl

-- words
pieces-unwhite : (s : List ℕ) → list_all (λ w. list_all unwhite w) (slice_split is_white s) ≡ true
pieces-unwhite [] = refl
pieces-unwhite (c ∷ s) = by_case (is_white c) refl (slice_split is_white s) (pieces-unwhite s)
  where
    onto : (ps : List (List ℕ)) → unwhite c ≡ true → list_all (λ w. list_all unwhite w) ps ≡ true → list_all (λ w. list_all unwhite w) (split_onto c ps) ≡ true
    onto [] h k = rw h refl
    onto (p ∷ ps) h k = rw h k

    by_case : (b : Bool) → is_white c ≡ b → (ps : List (List ℕ)) → list_all (λ w. list_all unwhite w) ps ≡ true → list_all (λ w. list_all unwhite w) (cond b ([] ∷ ps) (split_onto c ps)) ≡ true
    by_case true e ps h = h
    by_case false e ps h = onto ps (rw e refl) h

kept-words : (ps : List (List ℕ)) → list_all (λ w. list_all unwhite w) ps ≡ true → list_all is_word (non_empty ps) ≡ true
kept-words [] h = refl
kept-words ([] ∷ ps) h = kept-words ps h
kept-words ((c ∷ cs) ∷ ps) h = let b = and_parts (list_all unwhite (c ∷ cs)) (list_all (λ w. list_all unwhite w) ps) h in rw b.0 (kept-words ps b.1)

pub words-are : (s : List ℕ) → list_all is_word (words s) ≡ true
words-are s = kept-words (slice_split is_white s) (pieces-unwhite s)

words-behind : (word s : List ℕ) (make : List (List ℕ) → Option Statement) (fit : Fit) → with_words word make s ≡ Some fit → (t : List ℕ) × (not (is_empty (words t)) ≡ true) × (make (words t) ≡ Some fit.statement)
words-behind word s make fit e =
    let n = bind-some (words_behind_word word s) (λ ws. make ws >>= λ st. Some (plain_fit st)) fit e in
    let m = bind-some (behind_word word s) (λ t. where_true (not (is_empty (words t))) (words t)) n.0 n.1 in
    let w = where-some (not (is_empty (words m.0))) (words m.0) n.0 m.2 in
    let k = bind-some (make n.0) (λ st. Some (plain_fit st)) fit n.2 in
    let g : plain_fit k.0 ≡ fit = cc in
    (m.0, w.0, ap make w.1 ∙ (k.1 ∙ ap (λ (z : Fit). Some z.statement) g))

pub exports-can : (s : List ℕ) (fit : Fit) → with_words (codes "EXPORT_FUNCTIONS") (λ ws. Some (ExportFunctions ws)) s ≡ Some fit → can_be_written fit.statement ≡ true
exports-can s fit e = let m = words-behind (codes "EXPORT_FUNCTIONS") s (λ ws. Some (ExportFunctions ws)) fit e in
    let st : ExportFunctions (words m.0) ≡ fit.statement = cc in
    ap can_be_written (sym st) ∙ rw (m.1, words-are m.0) refl

task-made : (w : List ℕ) → begins_with (codes "do_") (task_of w) ≡ true
task-made w = by_case (begins_with (codes "do_") w) refl
  where
    by_case : (b : Bool) → begins_with (codes "do_") w ≡ b → begins_with (codes "do_") (cond b w (codes "do_" ++ w)) ≡ true
    by_case true e = e
    by_case false e = refl

tasks-can : (ws : List (List ℕ)) → list_all is_task_name (map task_of ws) ≡ true → list_all is_task (map task_of ws) ≡ true
tasks-can [] h = refl
tasks-can (w ∷ ws) h = let b = and_parts (is_task_name (task_of w)) (list_all is_task_name (map task_of ws)) h in rw (task-made w, b.0) (tasks-can ws b.1)

tasks-given : (ws ts : List (List ℕ)) → tasks ws ≡ Some ts → (list_all is_task ts ≡ true) × (map task_of ws ≡ ts)
tasks-given ws ts e = let w = where-some (list_all is_task_name (map task_of ws)) (map task_of ws) ts e in (ap (list_all is_task) (sym w.1) ∙ tasks-can ws w.0, w.1)

there-mapped : (ws : List (List ℕ)) → not (is_empty ws) ≡ true → not (is_empty (map task_of ws)) ≡ true
there-mapped [] h = h
there-mapped (w ∷ ws) h = refl

pub deltask-can : (s : List ℕ) (fit : Fit) → with_words (codes "deltask") task_names s ≡ Some fit → can_be_written fit.statement ≡ true
deltask-can s fit e = let m = words-behind (codes "deltask") s task_names fit e in
    let n = bind-some (tasks (words m.0)) (λ ts. Some (DelTask ts)) fit.statement m.2 in
    let st : DelTask n.0 ≡ fit.statement = cc in
    let d = tasks-given (words m.0) n.0 n.1 in
    ap can_be_written (sym st) ∙ rw (ap (λ ts. not (is_empty ts)) (sym d.1) ∙ there-mapped (words m.0) m.1, d.0) refl

parts-given : (ws : List (List ℕ)) (st : Statement) → task_parts ws ≡ Some st → can_be_written st ≡ true
parts-given ws st e =
    let a = bind-some (where_true (not (is_empty (up_to_part ws))) (up_to_part ws)) (λ names. tasks names >>= λ ns. part (codes "after") ws >>= λ after. tasks after >>= λ as_. part (codes "before") ws >>= λ before. tasks before >>= λ bs. Some (AddTask ns as_ bs)) st e in
    let w = where-some (not (is_empty (up_to_part ws))) (up_to_part ws) a.0 a.1 in
    let b = bind-some (tasks a.0) (λ ns. part (codes "after") ws >>= λ after. tasks after >>= λ as_. part (codes "before") ws >>= λ before. tasks before >>= λ bs. Some (AddTask ns as_ bs)) st a.2 in
    let c = bind-some (part (codes "after") ws) (λ after. tasks after >>= λ as_. part (codes "before") ws >>= λ before. tasks before >>= λ bs. Some (AddTask b.0 as_ bs)) st b.2 in
    let d = bind-some (tasks c.0) (λ as_. part (codes "before") ws >>= λ before. tasks before >>= λ bs. Some (AddTask b.0 as_ bs)) st c.2 in
    let f = bind-some (part (codes "before") ws) (λ before. tasks before >>= λ bs. Some (AddTask b.0 d.0 bs)) st d.2 in
    let g = bind-some (tasks f.0) (λ bs. Some (AddTask b.0 d.0 bs)) st f.2 in
    let k : AddTask b.0 d.0 g.0 ≡ st = cc in
    let x = tasks-given a.0 b.0 b.1 in
    ap can_be_written (sym k) ∙ four (not (is_empty b.0)) (list_all is_task b.0) (list_all is_task d.0) (list_all is_task g.0)
    (ap (λ ts. not (is_empty ts)) (sym x.1) ∙ there-mapped a.0 (ap (λ ts. not (is_empty ts)) (sym w.1) ∙ w.0)) x.0 (tasks-given c.0 d.0 d.1).0 (tasks-given f.0 g.0 g.1).0

pub addtask-can : (s : List ℕ) (fit : Fit) → with_words (codes "addtask") task_parts s ≡ Some fit → can_be_written fit.statement ≡ true
addtask-can s fit e = let m = words-behind (codes "addtask") s task_parts fit e in parts-given (words m.0) fit.statement m.2
