-- Where runs of worked plans may begin.
use Rattle.std.proofs.Common.{◌≡◌, ◌⊎◌, ◌∙◌, sym, ap, refl, subst, ℕ, zero, suc, arith, ◌<◌, ◌≤◌, ◌^◌, lit<, mod-lt, Bool, true, false, List, [], ◌∷◌, ◌++◌, length, Some, None, Result, Ok, inl, inr, if◌then◌else◌}
use Rattle.std.specs.Prelude.{Any, Contains, codes, slice_index, ◌==◌}
use Rattle.std.specs.Fmt.{digits}
use Rattle.std.specs.Int.{to_be_bytes, w32}
use Rattle.std.specs.List.{AllByRecursion}
use Rattle.std.specs.Str.{bytes_eq, chars, is_utf8}
use Rattle.std.proofs.lemmas.List.Elements.{All-nil}
use Rattle.std.proofs.lemmas.Str.{IsUtf8-from_is_utf8}
use Rattle.std.proofs.Math.Utf8.{encode}
use Rattle.hex.specs.Hex.{encode_with}
use Rattle.sha2.specs.Sha256.{compress, digest_bytes, first_words, hash_after, rounds, schedule, sha256}
use Rattle.sha2.proofs.Facts256.{length-sha256}
use Rattle.tree_model.specs.declared.entry.Entry.{Entry}
use Rattle.tree_model.specs.declared.entry.Entry.TheVariants.{File}
use Rattle.tree_model.specs.declared.hash.Hash.{Hash}
use Rattle.tree_model.specs.Folder.{picked}
use Rattle.tree_model.specs.Hash.{IsHash, hash_text}
use Rattle.tree_model.specs.Manifest.{content_of}
use Rattle.tree_model.specs.Overlay.{overlaid}
use Rattle.tree_model.specs.Path.{IsClean, IsPart, inside, parts_of}
use Rattle.meta_model.specs.Layout.{layout_in_order}
use Rattle.meta_model.specs.CleanBuild.{Built, Entries, Lack, clean_build, is_beyond, is_beyond_layout}
use Rattle.meta_model.specs.Worked.{shell}
use Rattle.store_model.specs.Origins.{Book, Line, origin, rows_of}
use Rattle.store_model.specs.Premises.{HasOneSignature, IsBlind, IsContent, IsSoundTask, IsTreeOf, IsWord}
use Rattle.store_model.specs.Premises as of
use Rattle.store_model.specs.Paths.{key_path, record_path}
use Rattle.store_model.specs.Publication.{stamp_text}
use Rattle.store_model.specs.Readable.{IsReadable}
use Rattle.store_model.specs.Reuse.{MayReuse}
use Rattle.store_model.specs.Rows.{hash_eq}
use Rattle.store_model.specs.Signatures.{is_order, signatures}
use Rattle.store_model.specs.Sound.{IsText}
use Rattle.store_model.specs.Spelling.{key_bytes, key_name, name_of, record_bytes, short_bytes, short_of, short_record}
use Rattle.store_model.specs.Valid.{IsPlain, IsValid, StandsIn, key_file, record_entry, stored_of}
use Rattle.store_model.specs.Available.{stamp_path, work_folder}
use Rattle.store_model.specs.Hello.{chain_reading, first_line, hello_name, hello_reading, hello_signed, hello_task, hello_tree, top_task, top_tree}
use Rattle.store_model.proofs.Hello.{empty_tree, hello_is_recorded, nothing_stands}
use Rattle.store_model.proofs.Lasting.{empty_is_valid}
use Rattle.store_model.proofs.Listing.{hash_itself}
use Rattle.store_model.proofs.Ordered.{each_append}
use Rattle.store_model.proofs.Worked.{all_of, each}
use Rattle.run_model.specs.Headline.{MayBegin, nothing}
use Rattle.build_resume.specs.Worked.{hello_plan}
use Rattle.bitbake_top.specs.Worked.{chain_plan, hello_book, hello_left}

-- ---- a first run

first_run : (plan_tasks : MayReuse shell hello_reading nothing [] hello_plan.tasks) → MayBegin shell hello_reading [] nothing hello_plan
first_run may = record { valid = empty_is_valid shell hello_reading; readable = tt; may = λ none. may }

pub hello_begins : MayBegin shell hello_reading [] nothing hello_plan
hello_begins = first_run hello_is_recorded.before

-- ---- contents

-- all files of a tree have the same bytes
abbrev IsOnly : Entries → Type 0
IsOnly tree = AllByRecursion (λ e. content_of e.1 ≡ codes "1") tree

any_one : (tree : Entries) → IsOnly tree → (bytes : List ℕ) → Any (λ (e : List ℕ × Entry). content_of e.1 ≡ bytes) tree → bytes ≡ codes "1"
any_one [] all bytes (k, x, lt, at, is) = absurd (omega arith)
any_one (y ∷ ys) all bytes (zero, x, lt, at, is) = sym is ∙ sym (ap (λ e. content_of e.1) at) ∙ all.0
any_one (y ∷ ys) all bytes (suc k, x, lt, at, is) = any_one ys all.1 bytes (k, x, omega arith, at, is)

given_tree : (a t : Entries) → ◌≡◌ {A = Result Entries Lack} (Ok a) (Ok t) → IsOnly a → IsOnly t
given_tree a t e only_one = let is : a ≡ t = cc in subst IsOnly is only_one

abbrev GivesOne : Built → Type 0
GivesOne b = (t : Entries) → b.outcome ≡ Ok t → IsOnly t

abbrev hello_built : Built
hello_built = record { task = hello_task; outcome = Ok hello_tree }

abbrev top_built : Built
top_built = record { task = top_task; outcome = Ok top_tree }

hello_gives : GivesOne hello_built
hello_gives t o = given_tree hello_tree t o (refl, tt)

hello_is_built : clean_build shell (hello_task ∷ []) ≡ hello_built ∷ []
unfolding is_beyond is_beyond_layout layout_in_order overlaid picked
hello_is_built = refl

-- ---- two tasks, of which one needs the other

chain_is_built : clean_build shell chain_plan.tasks ≡ hello_built ∷ (top_built ∷ [])
unfolding is_beyond is_beyond_layout layout_in_order overlaid picked
chain_is_built = refl

chain_tree : (tree : Entries) → IsTreeOf shell chain_reading [] chain_plan.tasks tree → IsOnly tree
chain_tree tree (of.output before line t s o) = nothing_stands before line s
chain_tree tree (of.files before line s) = nothing_stands before line s
chain_tree tree (of.clean b t among o) = each GivesOne (hello_built ∷ (top_built ∷ [])) (hello_gives, (λ u e. given_tree top_tree u e (refl, tt), tt)) b (subst (λ l. Contains l b) chain_is_built among) t o
chain_tree tree (of.inputs task among) = each (λ task. IsOnly task.files) chain_plan.tasks (tt, (tt, tt)) task among

chain_content : (bytes : List ℕ) → IsContent shell chain_reading nothing [] chain_plan.tasks bytes → bytes ≡ codes "1"
chain_content bytes (inr (path, entry, held, is)) = absurd (cc)
chain_content bytes (inl (tree, is, any)) = any_one tree (chain_tree tree is) bytes any

is_word : IsWord (codes "do_build")
is_word = record { not_empty = λ e. absurd (cc); no_blank = all_of (λ c. (c == 32) ≡ false) (codes "do_build") (refl, (refl, (refl, (refl, (refl, (refl, (refl, (refl, tt)))))))) }

top_sound : IsSoundTask (hello_task ∷ []) top_task
top_sound = record {
  differ = (tt, tt);
  names = all_of (λ t. IsWord t.id.task) (hello_task ∷ []) (is_word, tt);
  no_order = All-nil (λ l. is_order l ≡ false);
  ascends = tt;
  plain = All-nil IsPlain;
  tree = empty_tree;
}

chain_blind : AllByRecursion (IsBlind shell chain_reading) chain_plan.tasks
chain_blind = (
  record { script = codes "gen"; is_script = refl; same = λ tree. record { forth = λ out e. e; back = λ out e. e }; places = refl; sstate = refl },
  (record { script = codes "all"; is_script = refl; same = λ tree. record { forth = λ out e. e; back = λ out e. e }; places = refl; sstate = refl }, tt),
)

chain_may : MayReuse shell chain_reading nothing [] chain_plan.tasks
chain_may = record {
  valid = (empty_is_valid shell chain_reading).lines;
  sound = (hello_is_recorded.before.sound.0, (top_sound, tt));
  blind = all_of (IsBlind shell chain_reading) chain_plan.tasks chain_blind;
  no_clash = λ a b x y e. chain_content a x ∙ sym (chain_content b y);
  no_collision = all_of (HasOneSignature []) (signatures [] chain_plan.tasks) (λ before line stands same. nothing_stands before line stands, (λ before line stands same. nothing_stands before line stands, tt));
}

pub chain_begins : MayBegin shell chain_reading [] nothing chain_plan
chain_begins = record { valid = empty_is_valid shell chain_reading; readable = tt; may = λ none. chain_may }

-- ---- a second run

-- the record of the line can be read again
text_is : (t : List ℕ) → length t < 2 ^ 64 → is_utf8 t ≡ true → IsText t
text_is t fits utf8 = record { fits = fits; utf8 = IsUtf8-from_is_utf8 t utf8 }

word_bytes : (n : ℕ) → AllByRecursion (λ b. b < 256) (to_be_bytes w32 n)
word_bytes n = (mod-lt _ (lit< tt), (mod-lt _ (lit< tt), (mod-lt _ (lit< tt), (mod-lt _ (lit< tt), tt))))

each_byte : (h : List ℕ) (n : ℕ) → AllByRecursion (λ b. b < 256) (digest_bytes h n)
unfolding digest_bytes
each_byte h zero = tt
each_byte h (suc n) = each_append (λ b. b < 256) (digest_bytes h n) (to_be_bytes w32 (slice_index h n)) (each_byte h n) (word_bytes (slice_index h n))

bytes_are : (xs : List ℕ) → AllByRecursion (λ b. b < 256) xs → (i : ℕ) → slice_index xs i < 256
bytes_are [] all i = lit< tt
bytes_are (x ∷ xs) all zero = all.0
bytes_are (x ∷ xs) all (suc i) = bytes_are xs all.1 i

digest_is_bytes : (m : List ℕ) (i : ℕ) → slice_index (sha256 m) i < 256
unfolding sha256
digest_is_bytes m = bytes_are (sha256 m) (each_byte _ 8)

digest_is_hash : (m : List ℕ) → IsHash (record { bytes = sha256 m })
digest_is_hash m = record { size = length-sha256 m; bytes = digest_is_bytes m }

name_is_hash : IsHash (name_of hello_signed.sig)
unfolding name_of
name_is_hash = digest_is_hash (short_bytes (short_of hello_signed.sig))

n_clean : IsClean (codes "n")
n_clean = record {
  short = omega arith;
  parts = all_of IsPart (parts_of (codes "n")) (
    record {
      not_empty = omega arith;
      short = omega arith;
      not_here = λ e. let same : ◌≡◌ {A = ℕ} 110 46 = ap (λ l. slice_index l 0) e in absurd (omega (arith, same));
      not_above = λ e. let same : ◌≡◌ {A = ℕ} 110 46 = ap (λ l. slice_index l 0) e in absurd (omega (arith, same));
      no_zero = λ among. let not : ◌≡◌ {A = ℕ} 110 0 = only_byte among in absurd (omega (arith, not));
    },
    tt,
  );
}
  where
    only_byte : Contains (codes "n") 0 → ◌≡◌ {A = ℕ} 110 0
    only_byte (zero, lt, e) = e
    only_byte (suc k, lt, e) = absurd (omega arith)

few : length (short_bytes (short_of hello_signed.sig)) < 2 ^ 64
unfolding short_bytes key_name key_bytes digits encode_with first_words schedule rounds compress hash_after digest_bytes sha256
few = lit< tt

line_readable : IsReadable first_line
unfolding is_utf8 chars encode
line_readable = record {
  spelled = record {
    sound = record {
      sig = record {
        pn = text_is (codes "hello") (lit< tt) refl;
        task = text_is (codes "do_build") (lit< tt) refl;
        lines = (
          lit< tt,
          (
            record {
              name = text_is (codes "do_build") (lit< tt) refl;
              value = record {
                text = text_is (codes "    echo hello > hello.txt" ++ (10 ∷ [])) (lit< tt) refl;
                removes = (lit< tt, tt);
                flags = (lit< tt, ((text_is (codes "func") (lit< tt) refl, text_is (codes "1") (lit< tt) refl), tt));
              };
            },
            tt,
          ),
        );
        files = (lit< tt, tt);
        deps = (lit< tt, tt);
        spelled = record { lines = (tt, tt); files = tt; deps = tt; excluded = refl };
      };
      few = few;
      lines = (lit< tt, (record { path = text_is (codes "n") (lit< tt) refl; length = lit< tt; hash = digest_is_hash (codes "1") }, tt));
      ascends = (tt, tt);
      unihash = name_is_hash;
    };
    paths = (n_clean, (tt, tt));
    is = refl;
  };
  short = all_of (λ l. length l.path ≤ 3072) first_line.manifest (omega arith, tt);
}

left_valid : IsValid shell hello_reading hello_left hello_book
left_valid = record { records = λ path. hello_is_recorded.after.records path; lines = hello_is_recorded.after.lines; keys = λ before line stands. hello_is_recorded.after.keys before line stands }

-- where a line stands in a book of one
in_one : (x : Line) (before : Book) (line : Line) → StandsIn (x ∷ []) before line → (before ≡ []) × (line ≡ x)
in_one x [] line s = let e = s.is in (refl, cc)
in_one x (a ∷ before) line s =
    let e = s.is in
    let rest : [] ≡ before ++ (line ∷ s.rest) = cc in
    nothing_stands before line (record { rest = s.rest; is = rest })

line_origin : origin shell hello_reading [] first_line ≡ Ok hello_tree
unfolding is_beyond is_beyond_layout layout_in_order overlaid picked
line_origin = refl

again_tree : (tree : Entries) → IsTreeOf shell hello_reading hello_book hello_plan.tasks tree → IsOnly tree
again_tree tree (of.output before line t s o) =
    let p = in_one first_line before line s in
    given_tree hello_tree t (sym line_origin ∙ subst (λ l. origin shell hello_reading [] l ≡ Ok t) p.1 (subst (λ b. origin shell hello_reading b line ≡ Ok t) p.0 o)) (refl, tt)
again_tree tree (of.files before line s) = let p = in_one first_line before line s in subst (λ (l : Line). IsOnly l.files) (sym p.1) tt
again_tree tree (of.clean b t among o) = each GivesOne (hello_built ∷ []) (hello_gives, tt) b (subst (λ l. Contains l b) hello_is_built among) t o
again_tree tree (of.inputs task among) = each (λ task. IsOnly task.files) hello_plan.tasks (tt, tt) task among

-- what is held: the output's one file, the record, its key and the stamp
record_text : List ℕ
record_text = record_bytes (stored_of first_line)

key_text : List ℕ
key_text = key_bytes first_line.sig.key

abbrev IsOfFour : List ℕ → Type 0
IsOfFour bytes = (bytes ≡ codes "1") ⊎ ((bytes ≡ record_text) ⊎ ((bytes ≡ stamp_text hello_name) ⊎ (bytes ≡ key_text)))

held_of_four : (a b c d : Bool) (x y z w entry : Entry) → (if a then Some x else if b then Some y else if c then Some z else if d then Some w else None) ≡ Some entry → (x ≡ entry) ⊎ ((y ≡ entry) ⊎ ((z ≡ entry) ⊎ (w ≡ entry)))
held_of_four true b c d x y z w entry e = inl cc
held_of_four false true c d x y z w entry e = inr (inl cc)
held_of_four false false true d x y z w entry e = inr (inr (inl cc))
held_of_four false false false true x y z w entry e = inr (inr (inr cc))
held_of_four false false false false x y z w entry e = absurd (cc)

again_content : (bytes : List ℕ) → IsContent shell hello_reading hello_left hello_book hello_plan.tasks bytes → IsOfFour bytes
unfolding record_text key_text
again_content bytes (inl (tree, is, any)) = inl (any_one tree (again_tree tree is) bytes any)
again_content bytes (inr (path, entry, held, is)) =
    let four = held_of_four (bytes_eq (stamp_path hello_task) path) (bytes_eq (inside (work_folder hello_task) (codes "n")) path) (bytes_eq (record_path (name_of first_line.sig)) path) (bytes_eq (key_path (key_name first_line.sig.key)) path)
    (File false (stamp_text hello_name)) (File false (codes "1")) (record_entry first_line).1 (key_file first_line.sig.key) entry held in
    elim four [
      | inl e ↦ inr (inr (inl (sym is ∙ sym (ap content_of e))))
      | inr rest ↦ elim rest [
        | inl e ↦ inl (sym is ∙ sym (ap content_of e))
        | inr more ↦ elim more [
          | inl e ↦ inr (inl (sym is ∙ sym (ap content_of e)))
          | inr e ↦ inr (inr (inr (sym is ∙ sym (ap content_of e))))
        ]
      ]
    ]

abbrev digest : List ℕ → Hash
digest bytes = record { bytes = sha256 bytes }

apart : (a b : List ℕ) → hash_eq (digest a) (digest b) ≡ false → sha256 a ≡ sha256 b → a ≡ b
apart a b other e = let yes : hash_eq (digest a) (digest b) ≡ true = hash_itself (digest a) (digest b) (ap (λ x. record { bytes = x }) e) in absurd (cc)

one_and_record : hash_eq (digest (codes "1")) (digest record_text) ≡ false
unfolding name_of short_bytes key_name key_bytes digits encode_with first_words schedule rounds compress hash_after digest_bytes sha256 record_bytes short_record record_text key_text
one_and_record = refl

one_and_stamp : hash_eq (digest (codes "1")) (digest (stamp_text hello_name)) ≡ false
unfolding name_of short_bytes key_name key_bytes digits encode_with first_words schedule rounds compress hash_after digest_bytes sha256 record_bytes short_record record_text key_text
one_and_stamp = refl

one_and_key : hash_eq (digest (codes "1")) (digest key_text) ≡ false
unfolding name_of short_bytes key_name key_bytes digits encode_with first_words schedule rounds compress hash_after digest_bytes sha256 record_bytes short_record record_text key_text
one_and_key = refl

record_and_stamp : hash_eq (digest record_text) (digest (stamp_text hello_name)) ≡ false
unfolding name_of short_bytes key_name key_bytes digits encode_with first_words schedule rounds compress hash_after digest_bytes sha256 record_bytes short_record record_text key_text
record_and_stamp = refl

record_and_key : hash_eq (digest record_text) (digest key_text) ≡ false
unfolding name_of short_bytes key_name key_bytes digits encode_with first_words schedule rounds compress hash_after digest_bytes sha256 record_bytes short_record record_text key_text
record_and_key = refl

stamp_and_key : hash_eq (digest (stamp_text hello_name)) (digest key_text) ≡ false
unfolding name_of short_bytes key_name key_bytes digits encode_with first_words schedule rounds compress hash_after digest_bytes sha256 record_bytes short_record record_text key_text
stamp_and_key = refl

-- contents are one where they are the same as some that are
moved : (x y : List ℕ) → hash_eq (digest x) (digest y) ≡ false → (a b : List ℕ) → a ≡ x → b ≡ y → sha256 a ≡ sha256 b → a ≡ b
moved x y other a b p q same = p ∙ apart x y other (sym (ap sha256 p) ∙ same ∙ ap sha256 q) ∙ sym q

moved_back : (x y : List ℕ) → hash_eq (digest x) (digest y) ≡ false → (a b : List ℕ) → a ≡ y → b ≡ x → sha256 a ≡ sha256 b → a ≡ b
moved_back x y other a b p q same = sym (moved x y other b a q p (sym same))

no_clash : (a b : List ℕ) → IsOfFour a → IsOfFour b → sha256 a ≡ sha256 b → a ≡ b
no_clash a b (inl p) (inl q) e = p ∙ sym q
no_clash a b (inl p) (inr (inl q)) e = moved (codes "1") record_text one_and_record a b p q e
no_clash a b (inl p) (inr (inr (inl q))) e = moved (codes "1") (stamp_text hello_name) one_and_stamp a b p q e
no_clash a b (inl p) (inr (inr (inr q))) e = moved (codes "1") key_text one_and_key a b p q e
no_clash a b (inr (inl p)) (inl q) e = moved_back (codes "1") record_text one_and_record a b p q e
no_clash a b (inr (inl p)) (inr (inl q)) e = p ∙ sym q
no_clash a b (inr (inl p)) (inr (inr (inl q))) e = moved record_text (stamp_text hello_name) record_and_stamp a b p q e
no_clash a b (inr (inl p)) (inr (inr (inr q))) e = moved record_text key_text record_and_key a b p q e
no_clash a b (inr (inr (inl p))) (inl q) e = moved_back (codes "1") (stamp_text hello_name) one_and_stamp a b p q e
no_clash a b (inr (inr (inl p))) (inr (inl q)) e = moved_back record_text (stamp_text hello_name) record_and_stamp a b p q e
no_clash a b (inr (inr (inl p))) (inr (inr (inl q))) e = p ∙ sym q
no_clash a b (inr (inr (inl p))) (inr (inr (inr q))) e = moved (stamp_text hello_name) key_text stamp_and_key a b p q e
no_clash a b (inr (inr (inr p))) (inl q) e = moved_back (codes "1") key_text one_and_key a b p q e
no_clash a b (inr (inr (inr p))) (inr (inl q)) e = moved_back record_text key_text record_and_key a b p q e
no_clash a b (inr (inr (inr p))) (inr (inr (inl q))) e = moved_back (stamp_text hello_name) key_text stamp_and_key a b p q e
no_clash a b (inr (inr (inr p))) (inr (inr (inr q))) e = p ∙ sym q

one_signature : HasOneSignature hello_book hello_signed
one_signature before line stands same = ap (λ l. l.sig) (in_one first_line before line stands).1

again_may : MayReuse shell hello_reading hello_left hello_book hello_plan.tasks
again_may = record {
  valid = hello_is_recorded.after.lines;
  sound = hello_is_recorded.before.sound;
  blind = hello_is_recorded.before.blind;
  no_clash = λ a b x y e. no_clash a b (again_content a x) (again_content b y) e;
  no_collision = all_of (HasOneSignature hello_book) (signatures (rows_of hello_book) hello_plan.tasks) (one_signature, tt);
}

pub hello_begins_again : MayBegin shell hello_reading hello_book hello_left hello_plan
hello_begins_again = record { valid = left_valid; readable = (line_readable, tt); may = λ none. again_may }
