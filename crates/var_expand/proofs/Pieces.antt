-- The parts that the program has.
use Rattle.std.proofs.Common.{◌≡◌, refl, sym, ◌∙◌, ap, arith, ℕ, max, ◌+◌, ◌<◌, List, [], ◌∷◌, ◌++◌, length, drop, get_or, append_assoc, Option, Some, None, option_map, Bool, true, false, not, ◌&&◌, ◌||◌}
use mathlib.Core.Former.{Count}
use Rattle.std.proofs.lemmas.List.{drop_more}
use Rattle.std.specs.List.{list_all, list_any}
use Rattle.meta_model.specs.Names.{is_name_character}
use Rattle.meta_model.specs.Parts.{Parts, end, reference, plain_bytes, is_name, is_nothing, are_name_parts, joined_with, depth}
use Rattle.var_expand.specs.declared.parts.Part.{Part, Plain, Ref, Ref', Call, Row_of-Part, end_of-Part, more_of-Part, items-the_row-Part, items_hidden-the_row-Part-0}
use Rattle.var_expand.specs.declared.parts.Parts.{Parts as Pieces}
use Rattle.var_expand.specs.Pieces.{text_before, part_before, parts_in_row, parts_in_list, parts_in, is_name_part, is_something}
use Rattle.var_expand.proofs.Openings.{joined_assoc, text_joined, joined_depth}

-- a part in front of others
pub before_joined : (part : Part) (after : Parts) → part_before part after ≡ joined_with (part_before part end) after
before_joined (Plain text) after = text_joined text after
before_joined (Ref' shape row) after = refl
before_joined (Call f) after = refl

pub list_append : (xs ys : List Part) → parts_in_list (xs ++ ys) ≡ joined_with (parts_in_list xs) (parts_in_list ys)
list_append [] ys = refl
list_append (x ∷ xs) ys =
    ap (part_before x) (list_append xs ys) ∙ before_joined x (joined_with (parts_in_list xs) (parts_in_list ys))
    ∙ sym (joined_assoc (part_before x end) (parts_in_list xs) (parts_in_list ys))
    ∙ ap (λ p. joined_with p (parts_in_list ys)) (sym (before_joined x (parts_in_list xs)))

-- one part more
pub list_more : (old new : List Part) (part : Part) → new ≡ old ++ part ∷ [] → parts_in_list new ≡ joined_with (parts_in_list old) (part_before part end)
list_more old new part e = ap parts_in_list e ∙ list_append old (part ∷ [])

pub in_row : (n : _) (row : Row_of-Part n) → parts_in_row row ≡ parts_in_list (items-the_row-Part n row)
in_row n end_of-Part = refl
in_row n (more_of-Part part rest) = ap (part_before part) (in_row _ rest)

abbrev pub row_of : Part → (n : Count) × Row_of-Part n
row_of (Ref' _ row) = (_, row)
row_of (Plain _) = (_, end_of-Part)
row_of (Call _) = (_, end_of-Part)

-- a reference is one
pub ref_part : (pieces : Pieces) (after : Parts) → part_before (Ref pieces) after ≡ reference (parts_in pieces) after
ref_part pieces after =
    let row = row_of (Ref pieces) in
    ap (λ q. reference q after) (in_row row.0 row.1 ∙ ap parts_in_list (items_hidden-the_row-Part-0 pieces.list))

pub text_depth : (t : List ℕ) → depth (text_before t end) ≡ 0
text_depth [] = refl
text_depth (c ∷ t) = text_depth t

pub depth_text : (p : Parts) (t : List ℕ) → depth (joined_with p (text_before t end)) ≡ depth p
depth_text p t = let e = joined_depth p (text_before t end) in let f = text_depth t in grind (arith, e, f)

pub before_depth : (part : Part) (after : Parts) → depth (part_before part after) ≡ max (depth (part_before part end)) (depth after)
before_depth part after = ap depth (before_joined part after) ∙ joined_depth (part_before part end) after

-- the bytes of plain parts

mapped_on : (t u : List ℕ) (o : Option (List ℕ)) → option_map (λ b. t ++ b) (option_map (λ b. u ++ b) o) ≡ option_map (λ b. (t ++ u) ++ b) o
mapped_on t u None = refl
mapped_on t u (Some b) = ap Some (sym (append_assoc t u b))

text_bytes : (t : List ℕ) (after : Parts) → plain_bytes (text_before t after) ≡ option_map (λ b. t ++ b) (plain_bytes after)
text_bytes [] after = same (plain_bytes after)
  where
    same : (o : Option (List ℕ)) → o ≡ option_map (λ b. b) o
    same None = refl
    same (Some b) = refl
text_bytes (c ∷ t) after = ap (option_map (λ b. c ∷ b)) (text_bytes t after) ∙ both (plain_bytes after)
  where
    both : (o : Option (List ℕ)) → option_map (λ b. c ∷ b) (option_map (λ b. t ++ b) o) ≡ option_map (λ b. c ∷ (t ++ b)) o
    both None = refl
    both (Some b) = refl

-- one plain part more
pub bytes_more : (list : List Part) (i : ℕ) (t made : List ℕ) (d : Part) → Plain t ≡ get_or list i d → i < length list
    → option_map (λ b. made ++ b) (plain_bytes (parts_in_list (drop i list))) ≡ option_map (λ b. (made ++ t) ++ b) (plain_bytes (parts_in_list (drop (i + 1) list)))
bytes_more list i t made d is lt =
    ap (λ l. option_map (λ b. made ++ b) (plain_bytes (parts_in_list l))) (drop_more list i d lt)
    ∙ ap (λ p. option_map (λ b. made ++ b) (plain_bytes (part_before p (parts_in_list (drop (i + 1) list))))) (sym is)
    ∙ ap (option_map (λ b. made ++ b)) (text_bytes t (parts_in_list (drop (i + 1) list)))
    ∙ mapped_on made t (plain_bytes (parts_in_list (drop (i + 1) list)))

-- names

something_text : (t : List ℕ) (after : Parts) → is_nothing (text_before t after) ≡ (not (is_something (Plain t)) && is_nothing after)
something_text [] after = refl
something_text (c ∷ t) after = refl

nothing_part : (part : Part) (after : Parts) → is_nothing (part_before part after) ≡ (not (is_something part) && is_nothing after)
nothing_part (Plain text) after = something_text text after
nothing_part (Ref' shape row) after = refl
nothing_part (Call f) after = refl

not_or : (a b : Bool) → (not a && not b) ≡ not (a || b)
not_or true b = refl
not_or false b = refl

nothing_list : (list : List Part) → is_nothing (parts_in_list list) ≡ not (list_any is_something list)
nothing_list [] = refl
nothing_list (x ∷ list) = nothing_part x (parts_in_list list) ∙ ap (λ b. not (is_something x) && b) (nothing_list list) ∙ not_or (is_something x) (list_any is_something list)

and_assoc : (a b c : Bool) → (a && (b && c)) ≡ ((a && b) && c)
and_assoc true b c = refl
and_assoc false b c = refl

name_text : (t : List ℕ) (after : Parts) → are_name_parts (text_before t after) ≡ (list_all is_name_character t && are_name_parts after)
name_text [] after = refl
name_text (c ∷ t) after = ap (λ b. is_name_character c && b) (name_text t after) ∙ and_assoc (is_name_character c) (list_all is_name_character t) (are_name_parts after)

name_part : (part : Part) (after : Parts) → are_name_parts (part_before part after) ≡ (is_name_part part && are_name_parts after)
name_part (Plain text) after = name_text text after
name_part (Ref' shape row) after = refl
name_part (Call f) after = refl

name_list : (list : List Part) → are_name_parts (parts_in_list list) ≡ list_all is_name_part list
name_list [] = refl
name_list (x ∷ list) = name_part x (parts_in_list list) ∙ ap (λ b. is_name_part x && b) (name_list list)

not_not : (b : Bool) → not (not b) ≡ b
not_not true = refl
not_not false = refl

pub is_name_list : (list : List Part) → is_name (parts_in_list list) ≡ (list_any is_something list && list_all is_name_part list)
is_name_list list = rw (nothing_list list, name_list list, not_not (list_any is_something list)) refl

pub is_name_found : (list : List Part) (r : Bool) → list_any is_something list ≡ true → r ≡ list_all is_name_part list → r ≡ is_name (parts_in_list list)
is_name_found list r some e = e ∙ sym (is_name_list list ∙ ap (λ b. b && list_all is_name_part list) some)

pub is_name_none : (list : List Part) → list_any is_something list ≡ false → false ≡ is_name (parts_in_list list)
is_name_none list none = sym (is_name_list list ∙ ap (λ b. b && list_all is_name_part list) none)
