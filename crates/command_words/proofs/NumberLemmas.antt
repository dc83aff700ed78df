-- The number of `--sample`: what a parse of the program's command says of its text, and how the text is read.
use Rattle.std.proofs.Common.{◌≡◌, ◌∙◌, ◌≤◌, ◌<◌, ap, arith, cond, refl, subst, sym, inl, inr, zero, suc, ℕ, Bool, true, false, List, [], ◌∷◌, length, map, slice_index}
use Rattle.std.specs.Prelude.{⊤, IfSome, Option, Some, None, Result, Ok, Err, pos, codes, option_map, slice_get, unwrap_or}
use Rattle.std.specs.Borrow.{Bor}
use Rattle.std.specs.List.{All, slice_index_or}
use Rattle.std.specs.Str.{bytes_eq}
use Rattle.std.specs.Str.Parse.{ParsesUnsigned, starts_with_minus}
use Rattle.std.proofs.lemmas.Bool.{cases_lt}
use Rattle.std.proofs.lemmas.Int.{ints}
use Rattle.std.proofs.lemmas.List.Elements.{All-get_or}
use Rattle.std.proofs.lemmas.Slice.Eq.{bytes_eq-Decides}
use Rattle.clap.specs.Built.{IsAuto, IsParsedFrom, SameRules}
use Rattle.clap.specs.Facts.{Entry, EntryPasses, HasReading, PassesArg, ValuesPass, args_of, groups_of, parser_of, parser_of_value}
use Rattle.clap.specs.Lexer.{without_minus}
use Rattle.clap.specs.Matches.{ReadsOne, first_value, found_of, matched_of, one_text}
use Rattle.clap.specs.Simple.{App, app_of}
use Rattle.clap.specs.Values.{Accepts, IsSignedIn, read_as, reading_of}
use Rattle.clap.specs.Walk.{Rule, first_of, rows_of, rule_of}
use Rattle.clap.specs.declared.builder.arg.Arg.{Arg}
use Rattle.clap.specs.declared.builder.command.Command.{Command}
use Rattle.clap.specs.declared.builder.value_parser.Reading.{Reading}
use Rattle.clap.specs.declared.builder.value_parser.Reading.TheVariants as reading
use Rattle.clap.specs.declared.builder.value_parser.ValueParser.{ValueParser}
use Rattle.clap.specs.declared.builder.value_parser.ValueParser.TheVariants as vp
use Rattle.clap.specs.declared.parser.matches.ArgMatches.{ArgMatches}
use Rattle.clap.specs.declared.parser.matches.Found.{Found}
use Rattle.clap.specs.declared.parser.matches.MatchedArg.{MatchedArg}
use Rattle.clap.proofs.CallerLemmas.{entry_by_id}
use Rattle.clap.proofs.SimpleLemmas.{all_simple, plain_fields, simple_groups}
use Rattle.clap.proofs.WalkLemmas.{first_value-rows}
use Rattle.answer_model.specs.Command.{command, rules}
use Rattle.command_words.specs.Numbers.{HasNumber}
use Rattle.answer_model.specs.Reading.{number_of}

abbrev sample : List ℕ
sample = codes "sample"

abbrev size : ValueParser
size = vp.Signed (pos 1) (pos 1000)

-- the option, if it is this one, has the range
abbrev IsRanged : Rule → Type 0
IsRanged r = bytes_eq r.id sample ≡ true → r.parser ≡ Some size

abbrev EachRanged : List Rule → Type 0
EachRanged [] = ⊤
EachRanged (r ∷ rs) = IsRanged r × EachRanged rs

rules_ranged : EachRanged rules
rules_ranged = (λ e. cc, (λ e. cc, (λ e. cc, (λ e. cc, (λ e. cc, (λ e. cc, (λ e. cc, (λ e. cc, (λ e. refl, (λ e. cc, tt))))))))))

ranged_at : (xs : List Arg) → EachRanged (map rule_of xs) → (k : ℕ) (d : Arg) → k < length xs → IsRanged (rule_of (slice_index_or xs k d))
ranged_at [] h k d lt = absurd (omega arith)
ranged_at (x ∷ xs) h zero d lt = h.0
ranged_at (x ∷ xs) h (suc k) d lt = ranged_at xs h.1 k d (omega arith)

-- an argument that building added is another one
no_auto : (t : List ℕ) → t ≡ sample → (t ≡ codes "help" → ⊥) × (t ≡ codes "version" → ⊥)
no_auto t is = (
  λ h. let bad : 115 ≡ 104 = ap (λ (u : List ℕ). slice_index u 0) (sym is ∙ h) in omega arith,
  λ h. let bad : 115 ≡ 118 = ap (λ (u : List ℕ). slice_index u 0) (sym is ∙ h) in omega arith,
)

has_name : (t : List ℕ) → t ≡ sample → t ≡ [] → ⊥
has_name t is empty = let bad : sample ≡ [] = sym is ∙ empty in cc

-- the parser of the option in the command that was built
parser_is : (old : Command) (m : ArgMatches) (p : IsParsedFrom old m) → app_of old ≡ command → (j : ℕ) (x : Arg) → j < length (args_of p.built)
    → slice_index_or (args_of p.built) j x ≡ x → bytes_eq x.id.now sample ≡ true → parser_of x ≡ size
unfolding command
parser_is old m p is j x high at same =
    elim (cases_lt j (length (args_of old))) [
      | inl under ↦
          let s = subst (λ w. SameRules (slice_index_or (args_of old) j x) w) at (p.from.kept j x under).1 in
          let old_same : bytes_eq (slice_index_or (args_of old) j x).id.now sample ≡ true = rw (← s.id) same in
          let ranged : EachRanged (map rule_of (args_of old)) = subst EachRanged (sym (ap (λ (a : App). a.top.rules) is)) rules_ranged in
          ap parser_of_value (s.parser size (ranged_at (args_of old) ranged j x under old_same))
      | inr over ↦
          let flag = subst IsAuto at (p.from.extra j x over high) in
          let none = no_auto x.id.now ((bytes_eq-Decides x.id.now sample).0 same) in
          absurd (elim flag [ inl h ↦ none.0 h | inr h ↦ none.1 h ])
    ]

-- what the entry of the option gives, where it has a first value
entry_gives : (c : Command) (f : Found) (t : List ℕ) (P : List ℕ → Type 0) → groups_of c ≡ [] → ((v : List ℕ) → PassesArg c sample v → P v)
    → ((r : Reading) → HasReading c sample r → r ≡ reading.WithoutMinus) → (x : MatchedArg) (e : Entry) → e.1 ≡ x → e.0.now ≡ sample → EntryPasses c e
    → option_map (λ s. s.now) (slice_get x.vals.items 0) ≡ Some t
    → P t × (x.reading ≡ reading.WithoutMinus)
entry_gives c f t P no_groups passes reads x e same_x id pass first =
    let no_group : e.1.is_group ≡ true → ⊥ = λ g. elim (pass.3 g) [
      | inl empty ↦ has_name e.0.now id empty
      | inr lots ↦
          let bad : 0 < 0 = rw no_groups at lots in
          omega arith
    ] in
    let all : All (λ v. PassesArg c sample v.now) x.vals.items = elim pass.0 [
      | inl g ↦ absurd (no_group g)
      | inr vals ↦ subst (λ (w : List ℕ). All (λ v. PassesArg c w v.now) x.vals.items) id (rw same_x at vals)
    ] in
    let is : e.1.reading ≡ reading.WithoutMinus = elim pass.4 [
      | inl g ↦ absurd (no_group g)
      | inr h ↦ reads e.1.reading (subst (λ (w : List ℕ). HasReading c w e.1.reading) id h)
    ] in
    (head x.vals.items all first, ap (λ (y : MatchedArg). y.reading) (sym same_x) ∙ is)
  where
    head : (vs : List (Bor (List ℕ))) → All (λ v. PassesArg c sample v.now) vs → option_map (λ s. s.now) (slice_get vs 0) ≡ Some t → P t
    head [] all first = cc
    head (v ∷ vs) all first =
        let is : v.now ≡ t = ap (λ (o : Option (List ℕ)). unwrap_or o v.now) first in
        subst P is (passes v.now (All-get_or (λ w. PassesArg c sample w.now) (v ∷ vs) 0 v (omega arith) all))

found_gives : (c : Command) (f : Found) (t : List ℕ) (P : List ℕ → Type 0) → ValuesPass c f → groups_of c ≡ [] → ((v : List ℕ) → PassesArg c sample v → P v)
    → ((r : Reading) → HasReading c sample r → r ≡ reading.WithoutMinus) → first_value f sample ≡ Some t → P t × (one_text f sample ≡ Some (without_minus t))
found_gives c f t P values no_groups passes reads first = go (matched_of f sample) refl
  where
    go : (o : Option MatchedArg) → matched_of f sample ≡ o → P t × (one_text f sample ≡ Some (without_minus t))
    go None e =
        let bad : None ≡ Some t = rw e at first in
        cc
    go (Some x) e =
        let here : option_map (λ s. s.now) (slice_get x.vals.items 0) ≡ Some t = rw e at first in
        let got = entry_by_id (EntryPasses c) f.entries.items sample x values e in
        let gives = entry_gives c f t P no_groups passes reads x got.0 got.1 ((bytes_eq-Decides got.0.0.now sample).0 got.2) got.3 here in
        (gives.0, rw (e, gives.1) (text x.vals.items here))
      where
        text : (vs : List (Bor (List ℕ))) → option_map (λ s. s.now) (slice_get vs 0) ≡ Some t → option_map (λ s. without_minus s.now) (slice_get vs 0) ≡ Some (without_minus t)
        text [] first = cc
        text (v ∷ vs) first = ap (λ (o : Option (List ℕ)). option_map without_minus o) first

-- a text that was found for the option is a number in its range, and is read as it stands but for a hyphen
pub sample_found : (old : Command) (m : ArgMatches) → app_of old ≡ command → IsParsedFrom old m → (t : List ℕ) → first_value (found_of m) sample ≡ Some t
    → IsSignedIn (pos 1) (pos 1000) t × (one_text (found_of m) sample ≡ Some (without_minus t))
unfolding command
sample_found old m is p t first =
    let plain = plain_fields old (ap (λ (a : App). a.top.is_plain) is) in
    let parsed = p.parsed (p.from.globals ∙ plain.globals) in
    found_gives p.built (found_of m) t (IsSignedIn (pos 1) (pos 1000)) parsed.values
    ((p.from.same_groups (simple_groups old (ap (λ (a : App). all_simple a.top.rules) is))).1 ∙ plain.groups)
    (λ v pass. subst (λ (q : ValueParser). Accepts pass.1.ignore_case q v) (parser_is old m p is pass.0 pass.1 pass.2 pass.3 pass.4.0) pass.4.1)
    (λ r any. sym any.4.1 ∙ ap reading_of (parser_is old m p is any.0 any.1 any.2 any.3 any.4.0))
    first

as_it_stands : (t : List ℕ) → starts_with_minus t ≡ false → without_minus t ≡ t
as_it_stands [] e = refl
as_it_stands (x ∷ xs) e = ap (λ (b : Bool). unwrap_or (cond b (Some xs) None) (x ∷ xs)) e

-- such a text is read as its number
pub number_read : (E : Type 0) (G : List ℕ → Result ℕ E → Type 0) (t : List ℕ) (r : Option ℕ) → IsSignedIn (pos 1) (pos 1000) t
    → ReadsOne G (without_minus t) r → ((u : List ℕ) (x : Result ℕ E) → G u x → ParsesUnsigned 32 10 u x)
    → (r ≡ Some (number_of t)) × (1 ≤ number_of t) × (number_of t ≤ 1000)
number_read E G t r passed read only = go (starts_with_minus t) refl
  where
    plain : starts_with_minus t ≡ false → (o : Option ℕ) → ReadsOne G t o → (o ≡ Some (number_of t)) × (1 ≤ number_of t) × (number_of t ≤ 1000)
    plain minus (Some v) h =
        let low_ok = rw minus at passed.2 in
        let high_ok = rw minus at passed.3 in
        let parsed = only t (Ok v) h in
        (ap Some parsed.1, omega (arith, ints), omega (arith, ints))
    plain minus None h =
        let low_ok = rw minus at passed.2 in
        let high_ok = rw minus at passed.3 in
        let numeral = rw minus at passed.0 in
        absurd (only t (Err h.0) h.1 (numeral, omega (arith, ints)))

    go : (b : Bool) → starts_with_minus t ≡ b → (r ≡ Some (number_of t)) × (1 ≤ number_of t) × (number_of t ≤ 1000)
    go true minus =
        let low_ok = rw minus at passed.2 in
        absurd (omega (arith, ints))
    go false minus = plain minus r (subst (λ (u : List ℕ). ReadsOne G u r) (as_it_stands t minus) read)

-- where there is no first value there is no text to read
none_read : (f : Found) (id : List ℕ) → first_value f id ≡ None → one_text f id ≡ None
none_read f id none = go (matched_of f id) refl
  where
    text : (how : Reading) (vs : List (Bor (List ℕ))) → option_map (λ s. s.now) (slice_get vs 0) ≡ None → option_map (λ s. read_as how s.now) (slice_get vs 0) ≡ None
    text how [] e = refl
    text how (v ∷ vs) e = cc

    go : (o : Option MatchedArg) → matched_of f id ≡ o → one_text f id ≡ None
    go None e = rw e refl
    go (Some x) e =
        let here : option_map (λ s. s.now) (slice_get x.vals.items 0) ≡ None = rw e at none in
        rw e (text x.reading x.vals.items here)

-- what is read of the option: its number, where it has a text
pub size_read : (E : Type 0) (G : List ℕ → Result ℕ E → Type 0) (f : Found) (r : Option ℕ) → HasNumber f → (one_text f sample ≡ None → r ≡ None)
    → ((t : List ℕ) → one_text f sample ≡ Some t → ReadsOne G t r) → ((u : List ℕ) (x : Result ℕ E) → G u x → ParsesUnsigned 32 10 u x)
    → (r ≡ option_map number_of (first_of sample (rows_of f))) × IfSome r (λ n. (1 ≤ n) × (n ≤ 1000))
size_read E G f r has none some only = go (first_value f sample) refl
  where
    is : (o : Option (List ℕ)) → first_value f sample ≡ o → r ≡ option_map number_of o → r ≡ option_map number_of (first_of sample (rows_of f))
    is o e given = given ∙ ap (option_map number_of) (sym e ∙ first_value-rows f sample)

    go : (o : Option (List ℕ)) → first_value f sample ≡ o → (r ≡ option_map number_of (first_of sample (rows_of f))) × IfSome r (λ n. (1 ≤ n) × (n ≤ 1000))
    go None e =
        let gone = none (none_read f sample e) in
        (is None e gone, rw gone tt)
    go (Some t) e =
        let text = has t e in
        let read = number_read E G t r text.0 (some (without_minus t) text.1) only in
        (is (Some t) e read.0, rw read.0 (read.1, read.2))
