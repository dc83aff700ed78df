-- Whole lines, what a line keeps at its end, and words one behind another.
use Rattle.std.proofs.Common.{◌≡◌, ℕ, ◌+◌, ◌-◌, ◌<◌, ◌≤◌, Bool, true, false, cond, not, ◌&&◌, ◌==◌, List, [], ◌∷◌, ◌++◌, length, take, get_or, refl, sym, ap, ◌∙◌, Option, Some, None, codes, is_some, ◌||◌, bytes_eq, append_assoc, append-nil, arith}
use Rattle.std.specs.List.{list_all}
use Rattle.std.proofs.lemmas.Bool.{eqb-true, false≢true, false_from_ne_true}
use Rattle.std.proofs.lemmas.Slice.Eq.{bytes_eq-Decides}
use Rattle.std.proofs.lemmas.List.{take_more, length-append}
use Rattle.meta_model.specs.Text.{newline, space, without_end, end_kept, without_last, split_at_first}
use Rattle.std.specs.Option.{option_map}
use Rattle.meta_model.specs.Lines.{pieces, opens_body}
use Rattle.meta_model.specs.Grammar.{assignment}
use Rattle.bb_parser.proofs.WrittenLines.{pieces-line}
use Rattle.bb_parser.specs.Written.{is_dropped, is_body_line, ends_line, are_whole_lines, words_text, part_words, task_words, exports_text}
use Rattle.meta_model.proofs.Edges.{without_end-goes, without_end-stays}
use Rattle.bb_parser.proofs.NameSearch.{with_char}
use Rattle.bb_parser.proofs.QuoteFacts.{with_last}

-- what is dropped makes a line shorter
kept-short : (p : ℕ → Bool) (x : ℕ) (ys zs : List ℕ) → length ys ≤ length zs → length (end_kept p x ys) ≤ length (x ∷ zs)
kept-short p x [] zs h = by_case (p x)
  where
    by_case : (b : Bool) → length (cond b [] (x ∷ [])) ≤ length (x ∷ zs)
    by_case true = omega arith
    by_case false = omega arith
kept-short p x (y ∷ ys) zs h = omega arith

end-short : (p : ℕ → Bool) (xs : List ℕ) → length (without_end p xs) ≤ length xs
end-short p [] = omega arith
end-short p (x ∷ xs) = kept-short p x (without_end p xs) xs (end-short p xs)

keeps-push : (ys : List ℕ) (c : ℕ) → bytes_eq (without_end is_dropped (ys ++ c ∷ [])) (ys ++ c ∷ []) ≡ not (is_dropped c)
keeps-push ys c = by_case (is_dropped c) refl
  where
    by_case : (b : Bool) → is_dropped c ≡ b → bytes_eq (without_end is_dropped (ys ++ c ∷ [])) (ys ++ c ∷ []) ≡ not b
    by_case true e = false_from_ne_true (bytes_eq (without_end is_dropped (ys ++ c ∷ [])) (ys ++ c ∷ [])) (λ t.
        let h = ap length (sym (without_end-goes is_dropped ys c e) ∙ (bytes_eq-Decides (without_end is_dropped (ys ++ c ∷ [])) (ys ++ c ∷ [])).0 t) in
        omega (arith, h, end-short is_dropped ys, length-append ys (c ∷ [])))
    by_case false e = (bytes_eq-Decides (without_end is_dropped (ys ++ c ∷ [])) (ys ++ c ∷ [])).1 (without_end-stays is_dropped ys c e)

-- nothing is dropped where the last character isn't
pub keeps-last : (xs : List ℕ) → bytes_eq (without_end is_dropped xs) xs ≡ not (is_dropped (get_or xs (length xs - 1) 0))
keeps-last [] = refl
keeps-last (x ∷ xs) = let w = with_last (x ∷ xs) (omega arith) in
    ap (λ l. bytes_eq (without_end is_dropped l) l) w ∙ keeps-push (without_last (x ∷ xs)) (get_or (x ∷ xs) (length (x ∷ xs) - 1) 0)

-- whole lines, one after another
pub ends-behind : (front r : List ℕ) → ends_line (front ++ newline ∷ r) ≡ ends_line r
ends-behind [] [] = refl
ends-behind [] (x ∷ r) = refl
ends-behind (f ∷ []) r = ends-behind [] r
ends-behind (f ∷ g ∷ gs) r = ends-behind (g ∷ gs) r

swapped : (a b c : Bool) → (a && (b && c)) ≡ (b && (a && c))
swapped true true c = refl
swapped true false c = refl
swapped false true c = refl
swapped false false c = refl

-- a split text, part by part
abbrev here : List ℕ → Option (List ℕ × List ℕ)
here xs = Some ([], xs)

split-cons : (d x : ℕ) (o : Option (List ℕ × List ℕ)) (a b : List ℕ) → option_map (with_char x) o ≡ Some (a, b) → (front : List ℕ) × (o ≡ Some (front, b)) × (a ≡ x ∷ front)
split-cons d x None a b e = cc
split-cons d x (Some p) a b e = let g : ◌≡◌ {A = List ℕ × List ℕ} (x ∷ p.0, p.1) (a, b) = cc in (p.0, ap (λ y. Some (p.0, y)) (ap (λ t. t.1) g), sym (ap (λ t. t.0) g))

pub split-is : (d : ℕ) (xs a b : List ℕ) → split_at_first d xs ≡ Some (a, b) → (xs ≡ a ++ d ∷ b) × (list_all (λ c. not (c == d)) a ≡ true)
split-is d [] a b e = cc
split-is d (x ∷ xs) a b e = by_case (x == d) refl e (λ front h. split-is d xs front b h)
  where
    by_case : (t : Bool) → (x == d) ≡ t → cond t (here xs) (option_map (with_char x) (split_at_first d xs)) ≡ Some (a, b)
        → ((front : List ℕ) → split_at_first d xs ≡ Some (front, b) → (xs ≡ front ++ d ∷ b) × (list_all (λ c. not (c == d)) front ≡ true)) → (x ∷ xs ≡ a ++ d ∷ b) × (list_all (λ c. not (c == d)) a ≡ true)
    by_case true t h f = let g : ◌≡◌ {A = List ℕ × List ℕ} ([], xs) (a, b) = cc in
        (ap (λ y. x ∷ y) (ap (λ p. p.1) g) ∙ (ap (λ y. y ∷ b) (eqb-true x d t) ∙ ap (λ y. y ++ d ∷ b) (ap (λ p. p.0) g)), ap (list_all (λ c. not (c == d))) (sym (ap (λ p. p.0) g)))
    by_case false t h f = let k = split-cons d x (split_at_first d xs) a b h in let m = f k.0 k.1 in
        (ap (λ y. x ∷ y) m.0 ∙ ap (λ y. y ++ d ∷ b) (sym k.2), ap (list_all (λ c. not (c == d))) k.2 ∙ rw (t, m.1) refl)

pub split-shorter : (d : ℕ) (xs a b : List ℕ) → split_at_first d xs ≡ Some (a, b) → length b < length xs
split-shorter d xs a b e = rw (split-is d xs a b e).0 (omega (arith, length-append a (d ∷ b)))

pub whole-split : (xs a b : List ℕ) → split_at_first newline xs ≡ Some (a, b) → are_whole_lines xs ≡ (is_body_line a && are_whole_lines b)
whole-split xs a b e = let h = split-is newline xs a b e in
    ap are_whole_lines h.0 ∙ (ap (λ x. x && list_all is_body_line (pieces (a ++ newline ∷ b))) (ends-behind a b) ∙ (ap (λ x. ends_line b && list_all is_body_line x) (pieces-line a b h.1)
    ∙ swapped (ends_line b) (is_body_line a) (list_all is_body_line (pieces b))))

split-no : (d x : ℕ) (t : Bool) (xs : List ℕ) (o : Option (List ℕ × List ℕ)) → cond t (here xs) (option_map (with_char x) o) ≡ None → (t ≡ false) × (o ≡ None)
split-no d x true xs o e = cc
split-no d x false xs None e = (refl, refl)
split-no d x false xs (Some p) e = cc

ends-none : (x : ℕ) (xs : List ℕ) → split_at_first newline (x ∷ xs) ≡ None → ends_line (x ∷ xs) ≡ false
ends-none x [] e = (split-no newline x (x == newline) [] None e).0
ends-none x (y ∷ ys) e = ends-none y ys (split-no newline x (x == newline) (y ∷ ys) (split_at_first newline (y ∷ ys)) e).1

pub whole-none : (xs : List ℕ) → 0 < length xs → split_at_first newline xs ≡ None → are_whole_lines xs ≡ false
whole-none [] h e = absurd (omega arith)
whole-none (x ∷ xs) h e = ap (λ b. b && list_all is_body_line (pieces (x ∷ xs))) (ends-none x xs e)

-- words, one behind another
pub words_text-append : (xs ys : List (List ℕ)) → words_text (xs ++ ys) ≡ words_text xs ++ words_text ys
words_text-append [] ys = refl
words_text-append (x ∷ xs) ys = ap (λ t. space ∷ t) (ap (λ t. x ++ t) (words_text-append xs ys) ∙ sym (append_assoc x (words_text xs) (words_text ys)))

pub words_text-more : (xs : List (List ℕ)) (i : ℕ) (x : List ℕ) → i < length xs → x ≡ get_or xs i x → words_text (take (i + 1) xs) ≡ words_text (take i xs) ++ space ∷ x
words_text-more xs i x h e = ap words_text (take_more xs i x h ∙ ap (λ d. take i xs ++ d ∷ []) (sym e)) ∙ (words_text-append (take i xs) (x ∷ []) ∙ ap (λ t. words_text (take i xs) ++ space ∷ t) (append-nil x))

pub nonempty : (xs : List ℕ) (b : Bool) → b ≡ (length xs == 0) → b ≡ false → 0 < length xs
nonempty [] b e t = absurd (false≢true (sym t ∙ e))
nonempty (x ∷ xs) b e t = omega arith

-- the line of EXPORT_FUNCTIONS, as it is or kept from being an assignment or opening a body
pub exports-plain : (names : List (List ℕ)) (line : List ℕ) → line ≡ codes "EXPORT_FUNCTIONS" ++ words_text names → is_some (assignment false line) ≡ false → opens_body line ≡ false → line ≡ exports_text names
exports-plain names line e a o = e ∙ sym (rw (ap (λ l. is_some (assignment false l)) (sym e) ∙ a, ap opens_body (sym e) ∙ o) refl)

pub exports-odd : (names : List (List ℕ)) (line : List ℕ) → line ≡ codes "EXPORT_FUNCTIONS" ++ words_text names → (is_some (assignment false line) || opens_body line) ≡ true → (codes "EXPORT_FUNCTIONS \r" ++ words_text names) ++ codes " " ≡ exports_text names
exports-odd names line e a = append_assoc (codes "EXPORT_FUNCTIONS \r") (words_text names) (codes " ") ∙ sym (rw (ap (λ l. is_some (assignment false l) || opens_body l) (sym e) ∙ a) refl)

pub words_text-pushed : (old : List ℕ) (ws : List (List ℕ)) (i : ℕ) (w a b d t : List ℕ) → i < length ws → w ≡ get_or ws i w → a ≡ old ++ words_text (take i ws) → b ≡ a ++ codes " " → d ≡ b ++ t → t ≡ w → d ≡ old ++ words_text (take (i + 1) ws)
words_text-pushed old ws i w a b d t h e k l m n = m ∙ (ap (λ x. x ++ t) l ∙ (append_assoc a (codes " ") t ∙ (ap (λ x. a ++ (codes " " ++ x)) n ∙ (ap (λ x. x ++ (codes " " ++ w)) k
    ∙ (append_assoc old (words_text (take i ws)) (codes " " ++ w) ∙ ap (λ x. old ++ x) (sym (words_text-more ws i w h e)))))))

pub tasks-pushed : (names after before : List (List ℕ)) (a b d : List ℕ) → a ≡ codes "addtask" ++ words_text names → b ≡ a ++ words_text (part_words (codes "after") after) → d ≡ b ++ words_text (part_words (codes "before") before) → d ≡ codes "addtask" ++ words_text (task_words names after before)
tasks-pushed names after before a b d h k l = let x = part_words (codes "after") after in let y = part_words (codes "before") before in
    l ∙ (ap (λ t. t ++ words_text y) (k ∙ ap (λ t. t ++ words_text x) h) ∙ (append_assoc (codes "addtask" ++ words_text names) (words_text x) (words_text y)
    ∙ ap (λ t. codes "addtask" ++ t) (ap (λ t. words_text names ++ t) (sym (words_text-append x y)) ∙ sym (words_text-append names (x ++ y)))))
