-- Late operations that count.
use Rattle.std.proofs.Common.{◌≡◌, refl, sym, ap, ◌∙◌, inl, inr, ℕ, suc, ◌+◌, ◌<◌, arith, Bool, true, false, not, ◌||◌, List, [], ◌∷◌, ◌++◌, map, filter, fold, reverse, length, take, drop, get_or, Option, Some, None, is_some, unwrap_or, Bor, append_assoc, append-nil}
use Rattle.std.specs.List.{concat, list_any}
use Rattle.std.specs.Option.{option_map, option_copied}
use Rattle.std.proofs.Math.Seq.{drop-cons}
use Rattle.std.proofs.lemmas.List.{take_more, map-append, reverse-append}
use Rattle.std.proofs.lemmas.List.Elements.{filter-append}
use Rattle.std.proofs.lemmas.List.Folds.{concat-append}
use Rattle.std.proofs.lemmas.Bool.{cases_Bool, true≢false}
use Rattle.meta_model.specs.declared.entry.Late.{Late}
use Rattle.meta_model.specs.declared.entry.Late.TheVariants.{Append, Prepend, Remove}
use Rattle.meta_model.specs.declared.entry.LateLine.{LateLine}
use Rattle.meta_model.specs.Text.{is_empty}
use Rattle.meta_model.specs.Overrides.{counts, texts_of, applied}
use Rattle.override_eval.specs.LateValue.{with_removes, late_value}

texts_append : (kind : Late) (active : List (List ℕ)) (xs ys : List LateLine) → texts_of kind active (xs ++ ys) ≡ texts_of kind active xs ++ texts_of kind active ys
texts_append kind active xs ys = ap (map (λ line. line.text)) (filter-append (counts active kind) xs ys) ∙ map-append (λ line. line.text) (filter (counts active kind) xs) (filter (counts active kind) ys)

-- one more line from the front
pub texts_more : (kind : Late) (active : List (List ℕ)) (lines : List LateLine) (i : ℕ) (line : LateLine) → i < length lines → texts_of kind active (take (i + 1) lines) ≡ texts_of kind active (take i lines) ++ texts_of kind active (get_or lines i line ∷ [])
texts_more kind active lines i line h = ap (texts_of kind active) (take_more lines i line h) ∙ texts_append kind active (take i lines) (get_or lines i line ∷ [])

pub joined_more : (kind : Late) (active : List (List ℕ)) (lines : List LateLine) (i : ℕ) (line : LateLine) → i < length lines → concat (texts_of kind active (take (i + 1) lines)) ≡ concat (texts_of kind active (take i lines)) ++ concat (texts_of kind active (get_or lines i line ∷ []))
joined_more kind active lines i line h = ap concat (texts_more kind active lines i line h) ∙ concat-append (texts_of kind active (take i lines)) (texts_of kind active (get_or lines i line ∷ []))

-- the texts of one line are in order from either end
one_back : (kind : Late) (active : List (List ℕ)) (line : LateLine) → reverse (texts_of kind active (line ∷ [])) ≡ texts_of kind active (line ∷ [])
one_back kind active line = elim (cases_Bool (counts active kind line)) [
  | inl e ↦ rw e refl
  | inr e ↦ rw e refl
]

-- one more line from the end
pub joined_back : (kind : Late) (active : List (List ℕ)) (lines : List LateLine) (i j : ℕ) (line : LateLine) → i ≡ j + 1 → j < length lines
    → concat (reverse (texts_of kind active (drop j lines))) ≡ concat (reverse (texts_of kind active (drop i lines))) ++ concat (texts_of kind active (get_or lines j line ∷ []))
joined_back kind active lines i j line e h =
    let first = get_or lines j line in
    let rest = drop i lines in
    let cut : drop j lines ≡ (first ∷ []) ++ rest = drop-cons lines j line h ∙ ap (λ n. first ∷ drop n lines) (let s : suc j ≡ i = omega (arith, e) in s) in
    let texts : texts_of kind active (drop j lines) ≡ texts_of kind active (first ∷ []) ++ texts_of kind active rest = ap (texts_of kind active) cut ∙ texts_append kind active (first ∷ []) rest in
    ap (λ ts. concat (reverse ts)) texts
    ∙ ap concat (reverse-append (texts_of kind active (first ∷ [])) (texts_of kind active rest))
    ∙ concat-append (reverse (texts_of kind active rest)) (reverse (texts_of kind active (first ∷ [])))
    ∙ ap (λ ts. concat (reverse (texts_of kind active rest)) ++ concat ts) (one_back kind active first)

-- a line counts where there is a text
pub any_text : (kind : Late) (active : List (List ℕ)) (lines : List LateLine) → list_any (counts active kind) lines ≡ not (is_empty (texts_of kind active lines))
any_text kind active [] = refl
any_text kind active (line ∷ lines) = elim (cases_Bool (counts active kind line)) [
  | inl e ↦ rw e refl
  | inr e ↦ rw e (any_text kind active lines)
]

-- each in front of what stands
fronts : (text : List ℕ) (prepends : List (List ℕ)) → fold (λ text front. front ++ text) text prepends ≡ concat (reverse prepends) ++ text
fronts text [] = refl
fronts text (front ∷ prepends) =
    fronts (front ++ text) prepends
    ∙ sym (append_assoc (concat (reverse prepends)) front text)
    ∙ ap (λ s. s ++ text) (sym (ap concat (reverse-append (front ∷ []) prepends) ∙ concat-append (reverse prepends) (front ∷ []) ∙ ap (λ s. concat (reverse prepends) ++ s) (append-nil front)))

-- a value with appends and prepends, where something is there
pub applied_some : (value : Option (List ℕ)) (appends prepends : List (List ℕ)) → (is_some value || (not (is_empty appends) || not (is_empty prepends))) ≡ true
    → applied value appends prepends ≡ Some ((concat (reverse prepends) ++ unwrap_or value []) ++ concat appends)
applied_some None [] [] h = absurd (true≢false (sym h))
applied_some None [] (front ∷ prepends) h = ap Some (fronts ([] ++ concat []) (front ∷ prepends) ∙ sym (append_assoc (concat (reverse (front ∷ prepends))) [] []))
applied_some None (text ∷ appends) prepends h = ap Some (fronts ([] ++ concat (text ∷ appends)) prepends ∙ sym (append_assoc (concat (reverse prepends)) [] (concat (text ∷ appends))))
applied_some (Some value) appends prepends h = ap Some (fronts (value ++ concat appends) prepends ∙ sym (append_assoc (concat (reverse prepends)) value (concat appends)))

-- and where nothing is
pub applied_none : (value : Option (List ℕ)) (appends prepends : List (List ℕ)) → is_some value ≡ false → not (is_empty appends) ≡ false → not (is_empty prepends) ≡ false → applied value appends prepends ≡ None
applied_none None [] [] v a p = refl
applied_none None [] (front ∷ prepends) v a p = absurd (true≢false p)
applied_none None (text ∷ appends) prepends v a p = absurd (true≢false a)
applied_none (Some value) appends prepends v a p = absurd (true≢false v)

-- one step of a loop over the lines, from either end
pub put_more : (kind : Late) (active : List (List ℕ)) (lines : List LateLine) (i : ℕ) (line : LateLine) (start text text' : List ℕ) → i < length lines → line ≡ get_or lines i line
    → text ≡ start ++ concat (texts_of kind active (take i lines)) → text' ≡ text ++ concat (texts_of kind active (line ∷ [])) → text' ≡ start ++ concat (texts_of kind active (take (i + 1) lines))
put_more kind active lines i line start text text' h e t u =
    u
    ∙ ap (λ s. s ++ concat (texts_of kind active (line ∷ []))) t
    ∙ append_assoc start (concat (texts_of kind active (take i lines))) (concat (texts_of kind active (line ∷ [])))
    ∙ ap (λ l. start ++ (concat (texts_of kind active (take i lines)) ++ concat (texts_of kind active (l ∷ [])))) e
    ∙ ap (λ s. start ++ s) (sym (joined_more kind active lines i line h))

pub put_back : (kind : Late) (active : List (List ℕ)) (lines : List LateLine) (i j : ℕ) (line : LateLine) (start text text' : List ℕ) → i ≡ j + 1 → j < length lines → line ≡ get_or lines j line
    → text ≡ start ++ concat (reverse (texts_of kind active (drop i lines))) → text' ≡ text ++ concat (texts_of kind active (line ∷ [])) → text' ≡ start ++ concat (reverse (texts_of kind active (drop j lines)))
put_back kind active lines i j line start text text' n h e t u =
    u
    ∙ ap (λ s. s ++ concat (texts_of kind active (line ∷ []))) t
    ∙ append_assoc start (concat (reverse (texts_of kind active (drop i lines)))) (concat (texts_of kind active (line ∷ [])))
    ∙ ap (λ l. start ++ (concat (reverse (texts_of kind active (drop i lines))) ++ concat (texts_of kind active (l ∷ [])))) e
    ∙ ap (λ s. start ++ s) (sym (joined_back kind active lines i j line n h))

-- the whole value, where it is absent and where it isn't

abbrev pub adds : List (List ℕ) → List LateLine → Bool
adds active lines = list_any (counts active Append) lines || list_any (counts active Prepend) lines

false_of_not : (b : Bool) → true ≡ not b → b ≡ false
false_of_not true e = absurd (true≢false e)
false_of_not false e = refl

true_of_not : (b : Bool) → false ≡ not b → b ≡ true
true_of_not true e = refl
true_of_not false e = absurd (true≢false (sym e))

or_left : (a b : Bool) → (a || b) ≡ false → a ≡ false
or_left true b e = e
or_left false b e = refl

or_right : (a b : Bool) → (a || b) ≡ false → b ≡ false
or_right true b e = absurd (true≢false e)
or_right false b e = e

some_copied : (base : Option (Bor (List ℕ))) → is_some (option_copied base) ≡ is_some base
some_copied None = refl
some_copied (Some text) = refl

pub late_absent : (active : List (List ℕ)) (base : Option (Bor (List ℕ))) (lines : List LateLine) (r : Bool) → r ≡ not (is_some base || adds active lines) → r ≡ true → None ≡ late_value active (option_copied base) lines
late_absent active base lines r e t =
    let n : (is_some base || adds active lines) ≡ false = false_of_not (is_some base || adds active lines) (sym t ∙ e) in
    let b = or_left (is_some base) (adds active lines) n in
    let l = or_right (is_some base) (adds active lines) n in
    let a = or_left (list_any (counts active Append) lines) (list_any (counts active Prepend) lines) l in
    let p = or_right (list_any (counts active Append) lines) (list_any (counts active Prepend) lines) l in
    sym (ap (option_map (with_removes active lines)) (applied_none (option_copied base) (texts_of Append active lines) (texts_of Prepend active lines) (some_copied base ∙ b) (sym (any_text Append active lines) ∙ a) (sym (any_text Prepend active lines) ∙ p)))

pub late_present : (active : List (List ℕ)) (base : Option (Bor (List ℕ))) (lines : List LateLine) (r : Bool) (text : List ℕ) (removes : List (List ℕ)) (flags : List (List ℕ × List ℕ)) → r ≡ not (is_some base || adds active lines) → r ≡ false
    → text ≡ (concat (reverse (texts_of Prepend active lines)) ++ unwrap_or (option_copied base) []) ++ concat (texts_of Append active lines) → removes ≡ texts_of Remove active lines → flags ≡ []
    → Some (record { text = text; removes = removes; flags = flags }) ≡ late_value active (option_copied base) lines
late_present active base lines r text removes flags e f t m g =
    let n : (is_some base || adds active lines) ≡ true = true_of_not (is_some base || adds active lines) (sym f ∙ e) in
    let s : (is_some (option_copied base) || (not (is_empty (texts_of Append active lines)) || not (is_empty (texts_of Prepend active lines)))) ≡ true = rw (some_copied base, ← any_text Append active lines, ← any_text Prepend active lines) n in
    rw (t, m, g) (sym (ap (option_map (with_removes active lines)) (applied_some (option_copied base) (texts_of Append active lines) (texts_of Prepend active lines) s)))
