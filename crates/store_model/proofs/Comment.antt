-- A comment in a task's function: the premises of the laws hold before both runs, and the stores that these leave are valid.
use Rattle.std.proofs.Common.{◌≡◌, ◌≢◌, ◌⊎◌, ◌∙◌, sym, ap, refl, subst, ℕ, zero, suc, arith, Bool, true, false, List, [], ◌∷◌, ◌++◌, Option, Some, None, Result, Ok, inl, inr, if◌then◌else◌}
use Rattle.std.specs.Prelude.{All, Any, Contains, codes, ◌==◌, slice_index, unwrap_or}
use Rattle.std.specs.Fmt.{digits}
use Rattle.std.specs.List.{AllByRecursion, slice_get}
use Rattle.std.specs.Str.{bytes_eq}
use Rattle.std.specs.Option.{option_map}
use Rattle.std.proofs.lemmas.List.Elements.{All-nil}
use Rattle.std.proofs.lemmas.List.Kept.{AllPairs-cons}
use Rattle.hex.specs.Hex.{encode_with}
use Rattle.sha2.specs.Sha256.{compress, digest_bytes, first_words, hash_after, rounds, schedule, sha256}
use Rattle.tree_model.specs.declared.entry.Entry.{Entry}
use Rattle.tree_model.specs.declared.hash.Hash.{Hash}
use Rattle.tree_model.specs.declared.entry.Entry.TheVariants.{File}
use Rattle.tree_model.specs.Folder.{picked}
use Rattle.tree_model.specs.Hash.{hash_text}
use Rattle.tree_model.specs.Manifest.{content_of}
use Rattle.tree_model.specs.Overlay.{overlaid}
use Rattle.tree_model.specs.Path.{IsBelow, IsClean, IsPart, inside, parts_of}
use Rattle.tree_model.specs.Tree.{IsTree, Precedes, entry_at}
use Rattle.outside_traits.specs.Store.{Store}
use Rattle.meta_model.specs.declared.plan.PlanTask.{PlanTask}
use Rattle.meta_model.specs.declared.event.Avail.TheVariants as avail
use Rattle.meta_model.specs.Worked.{file}
use Rattle.meta_model.specs.CleanBuild.{Built, Entries, Lack, clean_build, is_beyond, is_beyond_layout}
use Rattle.meta_model.specs.Layout.{layout_in_order}
use Rattle.store_model.specs.declared.signature.EquivRow.{EquivRow}
use Rattle.store_model.specs.Rows.{hash_eq, row_at}
use Rattle.store_model.specs.Signatures.{Signed, is_order, signatures}
use Rattle.store_model.specs.Spelling.{key_bytes, key_name, name_of, record_bytes, short_bytes, short_record, signature_bytes}
use Rattle.meta_model.specs.declared.value.Key.{Key}
use Rattle.store_model.specs.declared.signature.SigRecord.{SigRecord}
use Rattle.store_model.specs.Paths.{key_path, record_path}
use Rattle.store_model.specs.Origins.{Book, Line, origin, row_of, rows_of}
use Rattle.store_model.specs.Valid.{IsPlain, IsValid, StandsIn, key_file, record_entry, stored_of}
use Rattle.store_model.specs.Premises.{HasNoCollision, HasOneKey, HasOneSignature, IsBlind, IsContent, IsSoundTask, IsTreeOf, IsWord}
use Rattle.store_model.specs.Premises as of
use Rattle.store_model.specs.Reuse.{MayReuse}
use Rattle.store_model.specs.Recording.{HasRow, with_record}
use Rattle.store_model.specs.Available.{IsAvailable, IsInWork, stamp_path, work_folder}
use Rattle.store_model.specs.Lasting.{IsGrown}
use Rattle.store_model.specs.Lasting as run
use Rattle.store_model.specs.Comment.{CommentIsRecorded, WhatIsAvailable, again, build_body, build_line, build_name, build_signed, build_task, build_tree, edited_plan, first_book, first_store, found_store, gen_body, gen_line, gen_signed, gen_task, gen_tree, gives, noted_body, noted_line, noted_signed, noted_task, one, plan, reading, second_book, second_store, task_of, waiting}
use Rattle.store_model.specs.Hello.{nothing_held}
use Rattle.store_model.proofs.Hello.{empty_tree, nothing_stands}
use Rattle.store_model.proofs.Lasting.{empty_is_valid, grown_stays_reusable}
use Rattle.store_model.proofs.Listing.{hash_itself}
use Rattle.store_model.proofs.Worked.{all_of, each, end_not_slash, is_part, not_above, not_same}

-- ---- books

-- where a line stands in a book of two
in_two : (x y : Line) (before : Book) (line : Line) → StandsIn (x ∷ (y ∷ [])) before line → ((before ≡ []) × (line ≡ x)) ⊎ ((before ≡ x ∷ []) × (line ≡ y))
in_two x y [] line s = let e = s.is in inl (refl, cc)
in_two x y (a ∷ []) line s = let e = s.is in inr (cc, cc)
in_two x y (a ∷ (b ∷ before)) line s =
    let e = s.is in
    let rest : [] ≡ before ++ (line ∷ s.rest) = cc in
    nothing_stands before line (record { rest = s.rest; is = rest })

-- ---- signatures

-- no line of the book has the name of the task and another signature
one_signature : (book : Book) (s : Signed) → AllByRecursion (λ l. (hash_eq (name_of l.sig) (name_of s.sig) ≡ false) ⊎ (l.sig ≡ s.sig)) book → HasOneSignature book s
one_signature [] s all before line stands same = nothing_stands before line stands
one_signature (x ∷ xs) s all [] line stands same =
    let e = stands.is in
    let is : x ≡ line = cc in
    elim all.0 [
      | inl differ ↦ let same_names : hash_eq (name_of x.sig) (name_of s.sig) ≡ true = hash_itself (name_of x.sig) (name_of s.sig) (ap (λ l. name_of l.sig) is ∙ same) in absurd (cc)
      | inr alike ↦ sym (ap (λ l. l.sig) is) ∙ alike
    ]
one_signature (x ∷ xs) s all (y ∷ before) line stands same =
    let e = stands.is in
    let rest : xs ≡ before ++ (line ∷ stands.rest) = cc in
    one_signature xs s all.1 before line (record { rest = stands.rest; is = rest }) same

-- the tasks of the plan, and those of the edited one, over the books on the way
none_over_nothing : HasNoCollision [] [] plan
none_over_nothing = all_of (HasOneSignature []) (signatures [] plan) (one_signature [] gen_signed tt, (λ before line stands same. nothing_stands before line stands, tt))

none_over_one : HasNoCollision (gen_line ∷ []) (rows_of (gen_line ∷ [])) plan
unfolding name_of signature_bytes short_bytes key_name key_bytes digits encode_with first_words schedule rounds compress hash_after digest_bytes sha256
none_over_one = all_of (HasOneSignature (gen_line ∷ [])) (signatures (rows_of (gen_line ∷ [])) plan)
    (one_signature (gen_line ∷ []) gen_signed (inr refl, tt), (one_signature (gen_line ∷ []) build_signed (inl refl, tt), tt))

none_over_two : HasNoCollision first_book (rows_of first_book) plan
unfolding name_of signature_bytes short_bytes key_name key_bytes digits encode_with first_words schedule rounds compress hash_after digest_bytes sha256
none_over_two = all_of (HasOneSignature first_book) (signatures (rows_of first_book) plan)
    (one_signature first_book gen_signed (inr refl, (inl refl, tt)), (one_signature first_book build_signed (inl refl, (inr refl, tt)), tt))

edited_over_two : HasNoCollision first_book (rows_of first_book) edited_plan
unfolding name_of signature_bytes short_bytes key_name key_bytes digits encode_with first_words schedule rounds compress hash_after digest_bytes sha256
edited_over_two = all_of (HasOneSignature first_book) (signatures (rows_of first_book) edited_plan)
    (one_signature first_book noted_signed (inl refl, (inl refl, tt)), (one_signature first_book waiting (inl refl, (inl refl, tt)), tt))

edited_over_three : HasNoCollision second_book (rows_of second_book) edited_plan
unfolding name_of signature_bytes short_bytes key_name key_bytes digits encode_with first_words schedule rounds compress hash_after digest_bytes sha256
edited_over_three = all_of (HasOneSignature second_book) (signatures (rows_of second_book) edited_plan)
    (one_signature second_book noted_signed (inl refl, (inl refl, (inr refl, tt))), (one_signature second_book again (inl refl, (inr refl, (inl refl, tt))), tt))

-- ---- contents

-- all files have the same bytes
abbrev IsOnly : Entries → Type 0
IsOnly tree = AllByRecursion (λ e. content_of e.1 ≡ one) tree

any_one : (tree : Entries) → IsOnly tree → (bytes : List ℕ) → Any (λ (e : List ℕ × Entry). content_of e.1 ≡ bytes) tree → bytes ≡ one
any_one [] all bytes (k, x, lt, at, is) = absurd (omega arith)
any_one (y ∷ ys) all bytes (zero, x, lt, at, is) = sym is ∙ sym (ap (λ e. content_of e.1) at) ∙ all.0
any_one (y ∷ ys) all bytes (suc k, x, lt, at, is) = any_one ys all.1 bytes (k, x, omega arith, at, is)

given_tree : (a t : Entries) → ◌≡◌ {A = Result Entries Lack} (Ok a) (Ok t) → IsOnly a → IsOnly t
given_tree a t e only_one = let is : a ≡ t = cc in subst IsOnly is only_one

abbrev built_gen : Built
built_gen = record { task = gen_task; outcome = Ok gen_tree }

abbrev built_noted : Built
built_noted = record { task = noted_task; outcome = Ok gen_tree }

abbrev built_build : Built
built_build = record { task = build_task; outcome = Ok build_tree }

plan_is_built : clean_build gives plan ≡ built_gen ∷ (built_build ∷ [])
unfolding is_beyond is_beyond_layout layout_in_order overlaid picked
plan_is_built = refl

edited_is_built : clean_build gives edited_plan ≡ built_noted ∷ (built_build ∷ [])
unfolding is_beyond is_beyond_layout layout_in_order overlaid picked
edited_is_built = refl

abbrev GivesOne : Built → Type 0
GivesOne b = (t : Entries) → b.outcome ≡ Ok t → IsOnly t

built_one : (first : PlanTask) → AllByRecursion GivesOne (record { task = first; outcome = Ok gen_tree } ∷ (built_build ∷ []))
built_one first = (λ t o. given_tree gen_tree t o (refl, tt), (λ t o. given_tree build_tree t o (refl, (refl, tt)), tt))

of_plan : (tree : Entries) → IsTreeOf gives reading [] plan tree → IsOnly tree
of_plan tree (of.output before line t s o) = nothing_stands before line s
of_plan tree (of.files before line s) = nothing_stands before line s
of_plan tree (of.clean b t among o) = each GivesOne (built_gen ∷ (built_build ∷ [])) (built_one gen_task) b (subst (λ l. Contains l b) plan_is_built among) t o
of_plan tree (of.inputs task among) = each (λ task. IsOnly task.files) plan (tt, (tt, tt)) task among

gen_origin : origin gives reading [] gen_line ≡ Ok gen_tree
unfolding name_of signature_bytes short_bytes key_name key_bytes digits encode_with first_words schedule rounds compress hash_after digest_bytes sha256 layout_in_order is_beyond is_beyond_layout overlaid picked
gen_origin = refl

build_origin : origin gives reading (gen_line ∷ []) build_line ≡ Ok build_tree
unfolding name_of signature_bytes short_bytes key_name key_bytes digits encode_with first_words schedule rounds compress hash_after digest_bytes sha256 layout_in_order is_beyond is_beyond_layout overlaid picked
build_origin = refl

of_output : (before : Book) (line : Line) (t : Entries) → StandsIn first_book before line → origin gives reading before line ≡ Ok t → IsOnly t
of_output before line t s o = elim (in_two gen_line build_line before line s) [
  | inl p ↦ given_tree gen_tree t (sym gen_origin ∙ subst (λ l. origin gives reading [] l ≡ Ok t) p.1 (subst (λ b. origin gives reading b line ≡ Ok t) p.0 o)) (refl, tt)
  | inr p ↦ given_tree build_tree t (sym build_origin ∙ subst (λ l. origin gives reading (gen_line ∷ []) l ≡ Ok t) p.1 (subst (λ b. origin gives reading b line ≡ Ok t) p.0 o)) (refl, (refl, tt))
]

of_files : (before : Book) (line : Line) → StandsIn first_book before line → IsOnly line.files
of_files before line s = elim (in_two gen_line build_line before line s) [
  | inl p ↦ subst (λ l. IsOnly l.files) (sym p.1) tt
  | inr p ↦ subst (λ l. IsOnly l.files) (sym p.1) tt
]

of_edited : (tree : Entries) → IsTreeOf gives reading first_book edited_plan tree → IsOnly tree
of_edited tree (of.output before line t s o) = of_output before line t s o
of_edited tree (of.files before line s) = of_files before line s
of_edited tree (of.clean b t among o) = each GivesOne (built_noted ∷ (built_build ∷ [])) (built_one noted_task) b (subst (λ l. Contains l b) edited_is_built among) t o
of_edited tree (of.inputs task among) = each (λ task. IsOnly task.files) edited_plan (tt, (tt, tt)) task among

content_before : (bytes : List ℕ) → IsContent gives reading nothing_held [] plan bytes → bytes ≡ one
content_before bytes (inr (path, entry, held, is)) = absurd (cc)
content_before bytes (inl (tree, is, any)) = any_one tree (of_plan tree is) bytes any

-- what is put into a store that holds nothing, the last first
puts : List (List ℕ × Entry) → Store
puts [] q = None
puts (e ∷ es) q = if bytes_eq e.0 q then Some e.1 else puts es q

each_put : (P : Entry → Type 0) (es : List (List ℕ × Entry)) (q : List ℕ) (x : Entry) → AllByRecursion (λ e. P e.1) es → puts es q ≡ Some x → P x
unfolding puts
each_put P [] q x all e = absurd (cc)
each_put P (y ∷ ys) q x all e = by (bytes_eq y.0 q) e (each_put P ys q x all.1)
  where
    by : (b : Bool) → (if b then Some y.1 else puts ys q) ≡ Some x → (puts ys q ≡ Some x → P x) → P x
    by true is more = let same : y.1 ≡ x = cc in subst P same all.0
    by false is more = more is

none_put : (es : List (List ℕ × Entry)) (q : List ℕ) → AllByRecursion (λ e. bytes_eq e.0 q ≡ false) es → puts es q ≡ None
unfolding puts
none_put [] q all = refl
none_put (y ∷ ys) q all = rw all.0 (none_put ys q all.1)

-- a line's record and its key
line_puts : Line → List (List ℕ × Entry) → List (List ℕ × Entry)
line_puts line es = (record_path (name_of line.sig), (record_entry line).1) ∷ ((key_path (key_name line.sig.key), key_file line.sig.key) ∷ es)

-- the two records that are held between the runs, and their keys
gen_bytes : List ℕ
gen_bytes = record_bytes (stored_of gen_line)

build_bytes : List ℕ
build_bytes = record_bytes (stored_of build_line)

gen_key : List ℕ
gen_key = key_bytes gen_line.sig.key

build_key : List ℕ
build_key = key_bytes build_line.sig.key

contents : List (List ℕ)
contents = one ∷ (gen_bytes ∷ (build_bytes ∷ (gen_key ∷ (build_key ∷ []))))

abbrev IsOfThese : List ℕ → Type 0
IsOfThese bytes = (k : ℕ) × (slice_get contents k ≡ Some bytes)

held_between : (path : List ℕ) → first_store path ≡ puts (line_puts build_line (line_puts gen_line [])) path
unfolding puts line_puts
held_between path = refl

all_between : AllByRecursion (λ (e : List ℕ × Entry). IsOfThese (content_of e.1)) (line_puts build_line (line_puts gen_line []))
unfolding contents line_puts gen_bytes build_bytes gen_key build_key
all_between = ((2, refl), ((4, refl), ((1, refl), ((3, refl), tt))))

content_between : (bytes : List ℕ) → IsContent gives reading first_store first_book edited_plan bytes → IsOfThese bytes
unfolding contents
content_between bytes (inl (tree, is, any)) = (0, ap (λ (b : List ℕ). Some b) (sym (any_one tree (of_edited tree is) bytes any)))
content_between bytes (inr (path, entry, held, is)) = subst IsOfThese is (each_put (λ x. IsOfThese (content_of x)) (line_puts build_line (line_puts gen_line [])) path entry all_between (sym (held_between path) ∙ held))

-- the first byte of a digest
abbrev mark : List ℕ → ℕ
mark bytes = slice_index (sha256 bytes) 0

-- each text has its mark, and no two marks are one
abbrev HaveMarks : List (List ℕ) → List ℕ → Type 0
HaveMarks [] marks = Unit {0}
HaveMarks (x ∷ xs) [] = ⊥
HaveMarks (x ∷ xs) (m ∷ marks) = (mark x ≡ m) × (AllByRecursion (λ n. m ≢ n) marks × HaveMarks xs marks)

-- the mark of one of them
mark_of : (xs : List (List ℕ)) (marks : List ℕ) (m : ℕ) → HaveMarks xs marks → AllByRecursion (λ n. m ≢ n) marks → (k : ℕ) (x : List ℕ) → slice_get xs k ≡ Some x → m ≢ mark x
mark_of [] marks m have other k x at same = absurd (cc)
mark_of (y ∷ ys) [] m have other k x at same = have
mark_of (y ∷ ys) (n ∷ marks) m have other zero x at same =
    let is : y ≡ x = cc in
    let one : m ≡ n = same ∙ sym (ap mark is) ∙ have.0 in
    other.0 one
mark_of (y ∷ ys) (n ∷ marks) m have other (suc k) x at same = mark_of ys marks m have.1.1 other.1 k x at same

by_marks : (xs : List (List ℕ)) (marks : List ℕ) → HaveMarks xs marks → (i j : ℕ) (a b : List ℕ) → slice_get xs i ≡ Some a → slice_get xs j ≡ Some b → sha256 a ≡ sha256 b → a ≡ b
by_marks [] marks have i j a b p q e = absurd (cc)
by_marks (x ∷ xs) [] have i j a b p q e = absurd have
by_marks (x ∷ xs) (m ∷ marks) have zero zero a b p q e = let f : x ≡ a = cc in let s : x ≡ b = cc in sym f ∙ s
by_marks (x ∷ xs) (m ∷ marks) have zero (suc j) a b p q e = let f : x ≡ a = cc in absurd (mark_of xs marks m have.1.1 have.1.0 j b q (sym have.0 ∙ ap mark f ∙ ap (λ (d : List ℕ). slice_index d 0) e))
by_marks (x ∷ xs) (m ∷ marks) have (suc i) zero a b p q e = let f : x ≡ b = cc in absurd (mark_of xs marks m have.1.1 have.1.0 i a p (sym have.0 ∙ ap mark f ∙ ap (λ (d : List ℕ). slice_index d 0) (sym e)))
by_marks (x ∷ xs) (m ∷ marks) have (suc i) (suc j) a b p q e = by_marks xs marks have.1.1 i j a b p q e

have_marks : HaveMarks contents (67 ∷ (71 ∷ (124 ∷ (169 ∷ (29 ∷ [])))))
unfolding name_of short_bytes key_name key_bytes digits encode_with first_words schedule rounds compress hash_after digest_bytes sha256 record_bytes short_record contents gen_bytes build_bytes gen_key build_key
have_marks = (refl, ((λ e. omega (arith, e), (λ e. omega (arith, e), (λ e. omega (arith, e), (λ e. omega (arith, e), tt)))), (refl, ((λ e. omega (arith, e), (λ e. omega (arith, e), (λ e. omega (arith, e), tt))), (refl, ((λ e. omega (arith, e), (λ e. omega (arith, e), tt)), (refl, ((λ e. omega (arith, e), tt), (refl, (tt, tt))))))))))

no_clash : (a b : List ℕ) → IsOfThese a → IsOfThese b → sha256 a ≡ sha256 b → a ≡ b
no_clash a b x y e = by_marks contents (67 ∷ (71 ∷ (124 ∷ (169 ∷ (29 ∷ []))))) have_marks x.0 y.0 a b x.1 y.1 e

-- ---- plans

is_word : IsWord (codes "do_gen")
is_word = record { not_empty = λ e. absurd (cc); no_blank = all_of (λ c. (c == 32) ≡ false) (codes "do_gen") (refl, (refl, (refl, (refl, (refl, (refl, tt)))))) }

sound_first : (body : List ℕ) → IsSoundTask [] (task_of (codes "do_gen") body [] 0)
sound_first body = record {
  differ = tt;
  names = All-nil (λ t. IsWord t.id.task);
  no_order = all_of (λ l. is_order l ≡ false) (task_of (codes "do_gen") body [] 0).key.lines (refl, tt);
  ascends = (tt, tt);
  plain = All-nil IsPlain;
  tree = empty_tree;
}

sound_build : (body : List ℕ) → IsSoundTask (task_of (codes "do_gen") body [] 0 ∷ []) build_task
sound_build body = record {
  differ = (tt, tt);
  names = all_of (λ t. IsWord t.id.task) (task_of (codes "do_gen") body [] 0 ∷ []) (is_word, tt);
  no_order = all_of (λ l. is_order l ≡ false) build_task.key.lines (refl, tt);
  ascends = (tt, tt);
  plain = All-nil IsPlain;
  tree = empty_tree;
}

blind : (name body : List ℕ) (deps : List ℕ) (depth : ℕ) → IsBlind gives reading (task_of name body deps depth)
blind name body deps depth = record { script = body; is_script = refl; same = λ tree. record { forth = λ out e. e; back = λ out e. e }; places = refl; sstate = refl }

all_blind : (body : List ℕ) → All (IsBlind gives reading) (task_of (codes "do_gen") body [] 0 ∷ (build_task ∷ []))
all_blind body = all_of (IsBlind gives reading) (task_of (codes "do_gen") body [] 0 ∷ (build_task ∷ [])) (blind (codes "do_gen") body [] 0, (blind (codes "do_build") build_body (0 ∷ []) 1, tt))

-- ---- runs

before : MayReuse gives reading nothing_held [] plan
before = record {
  valid = (empty_is_valid gives reading).lines;
  sound = (sound_first gen_body, (sound_build gen_body, tt));
  blind = all_blind gen_body;
  no_clash = λ a b x y e. content_before a x ∙ sym (content_before b y);
  no_collision = none_over_nothing;
}

has_gen : row_at (rows_of (gen_line ∷ [])) (name_of gen_signed.sig) ≡ Some (row_of gen_line)
unfolding name_of signature_bytes short_bytes key_name key_bytes digits encode_with first_words schedule rounds compress hash_after digest_bytes sha256
has_gen = refl

no_build : row_at (rows_of (gen_line ∷ [])) (name_of build_signed.sig) ≡ None
unfolding name_of signature_bytes short_bytes key_name key_bytes digits encode_with first_words schedule rounds compress hash_after digest_bytes sha256
no_build = refl

no_noted : row_at (rows_of first_book) (name_of noted_signed.sig) ≡ None
unfolding name_of signature_bytes short_bytes key_name key_bytes digits encode_with first_words schedule rounds compress hash_after digest_bytes sha256
no_noted = refl

gen_has_row : (s : Signed) → ◌≡◌ {A = Option Signed} (Some gen_signed) (Some s) → HasRow (rows_of (gen_line ∷ [])) (name_of s.sig)
gen_has_row s e none =
    let is : gen_signed ≡ s = cc in
    let lacks : row_at (rows_of (gen_line ∷ [])) (name_of gen_signed.sig) ≡ None = subst (λ x. row_at (rows_of (gen_line ∷ [])) (name_of x.sig) ≡ None) (sym is) none in
    let clash : ◌≡◌ {A = Option EquivRow} (Some (row_of gen_line)) None = sym has_gen ∙ lacks in
    absurd (cc)

-- no line of the book has another key with the digest of the task's
one_key : (book : Book) (sig : SigRecord) → AllByRecursion (λ l. (hash_eq (key_name l.sig.key) (key_name sig.key) ≡ false) ⊎ (l.sig.key ≡ sig.key)) book → HasOneKey book sig
one_key [] sig all before line stands same = nothing_stands before line stands
one_key (x ∷ xs) sig all [] line stands same =
    let e = stands.is in
    let is : x ≡ line = cc in
    elim all.0 [
      | inl differ ↦ let same_names : hash_eq (key_name x.sig.key) (key_name sig.key) ≡ true = hash_itself (key_name x.sig.key) (key_name sig.key) (ap (λ l. key_name l.sig.key) is ∙ same) in absurd (cc)
      | inr alike ↦ ap key_bytes (sym (ap (λ l. l.sig.key) is) ∙ alike)
    ]
one_key (x ∷ xs) sig all (y ∷ before) line stands same =
    let e = stands.is in
    let rest : xs ≡ before ++ (line ∷ stands.rest) = cc in
    one_key xs sig all.1 before line (record { rest = stands.rest; is = rest }) same

build_key_is_one : HasOneKey (gen_line ∷ []) build_signed.sig
unfolding key_name key_bytes digits encode_with first_words schedule rounds compress hash_after digest_bytes sha256
build_key_is_one = one_key (gen_line ∷ []) build_signed.sig (inl refl, tt)

noted_key_is_one : HasOneKey first_book noted_signed.sig
unfolding key_name key_bytes digits encode_with first_words schedule rounds compress hash_after digest_bytes sha256
noted_key_is_one = one_key first_book noted_signed.sig (inl refl, (inl refl, tt))

first_run : IsGrown gives reading plan nothing_held [] first_store first_book
first_run = run.grown (with_record nothing_held gen_line) (gen_line ∷ []) 1 build_signed built_build build_tree
    (run.grown nothing_held [] 0 gen_signed built_gen gen_tree run.begun refl (ap (λ l. slice_get l 0) plan_is_built) (All-nil (λ d. (s : Signed) → slice_get (signatures [] plan) d ≡ Some s → HasRow [] (name_of s.sig))) refl refl (one_key [] gen_signed.sig tt) none_over_one)
    refl (ap (λ l. slice_get l 1) plan_is_built)
    (all_of (λ d. (s : Signed) → slice_get (signatures (rows_of (gen_line ∷ [])) plan) d ≡ Some s → HasRow (rows_of (gen_line ∷ [])) (name_of s.sig)) (0 ∷ []) (gen_has_row, tt))
    refl no_build build_key_is_one none_over_two

first : IsValid gives reading first_store first_book
first = (grown_stays_reusable gives reading nothing_held nothing_held [] plan (empty_is_valid gives reading) before first_store first_book first_run).valid

between : MayReuse gives reading first_store first_book edited_plan
between = record {
  valid = first.lines;
  sound = (sound_first noted_body, (sound_build noted_body, tt));
  blind = all_blind noted_body;
  no_clash = λ a b x y e. no_clash a b (content_between a x) (content_between b y) e;
  no_collision = edited_over_two;
}

second_run : IsGrown gives reading edited_plan first_store first_book second_store second_book
second_run = run.grown first_store first_book 0 noted_signed built_noted gen_tree run.begun refl (ap (λ l. slice_get l 0) edited_is_built)
    (All-nil (λ d. (s : Signed) → slice_get (signatures (rows_of first_book) edited_plan) d ≡ Some s → HasRow (rows_of first_book) (name_of s.sig))) refl no_noted noted_key_is_one edited_over_three

pub comment_is_recorded : CommentIsRecorded
comment_is_recorded = record {
  before = before;
  first = first;
  between = between;
  after = (grown_stays_reusable gives reading first_store first_store first_book edited_plan first between second_store second_book second_run).valid;
}

-- ---- what is available

-- a task without a row is missing
missing : (held : Store) (s : Signed) → row_at (rows_of first_book) (name_of s.sig) ≡ None → s.task.sstate ≡ false → IsAvailable held (rows_of first_book) true s avail.Missing
missing held s none plain = (
  (λ w. let clash : ◌≡◌ {A = Option EquivRow} None (Some w.row) = sym none ∙ w.stored.is_row in absurd (cc)),
  (λ o. let clash = o.sstate in absurd (cc)),
)

no_waiting : row_at (rows_of first_book) (name_of waiting.sig) ≡ None
unfolding name_of signature_bytes short_bytes key_name key_bytes digits encode_with first_words schedule rounds compress hash_after digest_bytes sha256
no_waiting = refl

row_again : row_at (rows_of second_book) (name_of again.sig) ≡ Some (row_of build_line)
unfolding name_of signature_bytes short_bytes key_name key_bytes digits encode_with first_words schedule rounds compress hash_after digest_bytes sha256
row_again = refl

sig_again : (row_of build_line).sig ≡ signature_bytes again.sig
unfolding name_of signature_bytes short_bytes key_name key_bytes digits encode_with first_words schedule rounds compress hash_after digest_bytes sha256
sig_again = refl

stamp_again : found_store (stamp_path build_task) ≡ Some (File false (hash_text (name_of again.sig) ++ 10 ∷ []))
unfolding name_of signature_bytes short_bytes key_name key_bytes digits encode_with first_words schedule rounds compress hash_after digest_bytes sha256
stamp_again = refl

m_clean : IsClean (codes "m.txt")
m_clean = record { short = omega arith; parts = all_of IsPart (parts_of (codes "m.txt")) (is_part (codes "m.txt") (omega arith) (omega arith) (refl, (refl, (refl, (refl, (refl, tt))))), tt) }

n_clean : IsClean (codes "n.txt")
n_clean = record { short = omega arith; parts = all_of IsPart (parts_of (codes "n.txt")) (is_part (codes "n.txt") (omega arith) (omega arith) (refl, (refl, (refl, (refl, (refl, tt))))), tt) }

-- the characters w, r, s, m and n
w_not_r : ◌≡◌ {A = Option ℕ} (Some 119) (Some 114) → ⊥
w_not_r e = let is : 119 ≡ 114 = ap (λ o. unwrap_or o 0) e in absurd (omega (arith, is))

w_not_s : ◌≡◌ {A = Option ℕ} (Some 119) (Some 115) → ⊥
w_not_s e = let is : 119 ≡ 115 = ap (λ o. unwrap_or o 0) e in absurd (omega (arith, is))

m_not_n : ◌≡◌ {A = Option ℕ} (Some 109) (Some 110) → ⊥
m_not_n e = let is : 109 ≡ 110 = ap (λ o. unwrap_or o 0) e in absurd (omega (arith, is))

m_before_n : Precedes (codes "m.txt") (codes "n.txt")
m_before_n = record {
  before = refl;
  not_above = λ b. not_same (codes "n.txt") (inside (codes "m.txt") b.0) 0 (Some 110) (Some 109) refl refl (λ e. m_not_n (sym e)) b.1;
  not_below = λ b. not_same (codes "m.txt") (inside (codes "n.txt") b.0) 0 (Some 109) (Some 110) refl refl m_not_n b.1;
}

is_tree : IsTree build_tree
is_tree = record {
  clean = all_of (λ e. IsClean e.0) build_tree (m_clean, (n_clean, tt));
  ordered = AllPairs-cons (λ a b. Precedes a.0 b.0) (file (codes "m.txt") one) (file (codes "n.txt") one ∷ []) (all_of (λ b. Precedes (codes "m.txt") b.0) (file (codes "n.txt") one ∷ []) (m_before_n, tt))
      (AllPairs-cons (λ a b. Precedes a.0 b.0) (file (codes "n.txt") one) [] (All-nil (λ b. Precedes (codes "n.txt") b.0)) (λ i j d lt within. absurd (omega arith)));
}

by_two : (a b : Bool) (x y : Entry) (u v : List ℕ) → (if a then Some x else if b then Some y else None) ≡ option_map (λ (e : List ℕ × Entry). e.1) (if a then Some (u, x) else if b then Some (v, y) else None)
by_two true b x y u v = refl
by_two false true x y u v = refl
by_two false false x y u v = refl

entries : (path : List ℕ) → found_store (inside (work_folder build_task) path) ≡ entry_at build_tree path
entries path = by_two (bytes_eq (codes "m.txt") path) (bytes_eq (codes "n.txt") path) (File false one) (File false one) (codes "m.txt") (codes "n.txt")

w_not_k : ◌≡◌ {A = Option ℕ} (Some 119) (Some 107) → ⊥
w_not_k e = let is : 119 ≡ 107 = ap (λ o. unwrap_or o 0) e in absurd (omega (arith, is))

open_above : (q : List ℕ) → IsBelow q (work_folder build_task) → found_store q ≡ None
unfolding puts line_puts
open_above q below = none_put Held q (
  beside (stamp_path build_task) (λ b. not_same (work_folder build_task) (inside (stamp_path build_task) b.0) 0 (Some 119) (Some 115) refl refl w_not_s b.1),
  (
    beside (inside (work_folder build_task) (codes "m.txt")) (λ b. not_same (work_folder build_task) (inside (inside (work_folder build_task) (codes "m.txt")) b.0) 15 None (Some 47) refl refl end_not_slash b.1),
    (
      beside (inside (work_folder build_task) (codes "n.txt")) (λ b. not_same (work_folder build_task) (inside (inside (work_folder build_task) (codes "n.txt")) b.0) 15 None (Some 47) refl refl end_not_slash b.1),
      (
        no_record (name_of noted_line.sig),
        (no_key noted_line.sig.key, (no_record (name_of build_line.sig), (no_key build_line.sig.key, (no_record (name_of gen_line.sig), (no_key gen_line.sig.key, tt))))),
      ),
    ),
  ),
)
  where
    Held : List (List ℕ × Entry)
    Held = (stamp_path build_task, File false (hash_text build_name ++ 10 ∷ [])) ∷ ((inside (work_folder build_task) (codes "m.txt"), File false one) ∷ ((inside (work_folder build_task) (codes "n.txt"), File false one)
        ∷ line_puts noted_line (line_puts build_line (line_puts gen_line []))))

    beside : (path : List ℕ) → (IsBelow path (work_folder build_task) → ⊥) → bytes_eq path q ≡ false
    beside path other = not_above (work_folder build_task) path q other below

    no_record : (name : Hash) → bytes_eq (record_path name) q ≡ false
    no_record name = beside (record_path name) (λ b. not_same (work_folder build_task) (inside (record_path name) b.0) 0 (Some 119) (Some 114) refl refl w_not_r b.1)

    no_key : (key : Key) → bytes_eq (key_path (key_name key)) q ≡ false
    no_key key = beside (key_path (key_name key)) (λ b. not_same (work_folder build_task) (inside (key_path (key_name key)) b.0) 0 (Some 119) (Some 107) refl refl w_not_k b.1)

found : IsInWork found_store (rows_of second_book) again
found = record {
  kept = refl;
  row = row_of build_line;
  stored = record { is_row = row_again; sig = sig_again };
  stamp = stamp_again;
  folder = record { tree = build_tree; is_tree = is_tree; holds = record { entries = entries; outside = record { at = refl; above = open_above } }; manifest = refl };
}

pub what_is_available : WhatIsAvailable
what_is_available = record {
  edited = λ held. missing held noted_signed no_noted refl;
  above = λ held. missing held waiting no_waiting refl;
  found = found;
}
