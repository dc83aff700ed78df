-- How names are noted.
use Rattle.std.proofs.Common.{◌≡◌, refl, sym, ◌∙◌, ap, subst, ℕ, ◌+◌, Bool, true, false, List, [], ◌∷◌, ◌++◌, fold, Result, Ok, Err, if◌then◌else◌, OnOk, IfErr}
use Rattle.std.specs.List.{list_all}
use Rattle.meta_model.specs.Refusal.{Refusal, ◌>>=◌}
use Rattle.meta_model.specs.Text.{into_order}
use Rattle.meta_model.specs.declared.form.Form.{Form}
use Rattle.meta_model.specs.Forms.{told_name}
use Rattle.meta_model.specs.Names.{is_name_character}
use Rattle.meta_model.specs.Parts.{Parts, end, reference, form}
use Rattle.meta_model.specs.Expansion.{Values, longest, expanded_parts}
use Rattle.var_expand.specs.declared.fault.ExpandFault.{ExpandFault}
use Rattle.var_expand.specs.declared.fault.ExpandFault.TheVariants.{ValueCycle, TooDeep, TooLong, Unstable, Memory}
use Rattle.var_expand.specs.declared.parts.Part.{Part, Plain, Ref, Ref', Call}
use Rattle.var_expand.specs.declared.parts.Parts.{Parts as Pieces}
use Rattle.var_expand.specs.Faults.{IsFaultOf, IsWantOfMemory}
use Rattle.var_expand.specs.Pieces.{text_before, part_before, parts_in, parts_in_row}
use Rattle.meta_model.specs.References.{names_looked_up, noted}
use Rattle.var_expand.proofs.Pieces.{ref_part}

fold_more : (names xs ys : List (List ℕ)) → fold into_order names (xs ++ ys) ≡ fold into_order (fold into_order names xs) ys
fold_more names [] ys = refl
fold_more names (x ∷ xs) ys = fold_more (into_order names x) xs ys

from_ok : (d : List (List ℕ)) → Result (List (List ℕ)) Refusal → List (List ℕ)
from_ok d (Ok a) = a
from_ok d (Err refusal) = d

ok_same : (a b : List (List ℕ)) (m : Result (List (List ℕ)) Refusal) → m ≡ Ok a → m ≡ Ok b → a ≡ b
unfolding from_ok
ok_same a b m e f = ap (from_ok a) (sym e ∙ f)

-- plain text looks nothing up
pub noted_plain : (values : Values) (t : List ℕ) (after : Parts) (names : List (List ℕ)) → noted values (text_before t after) names ≡ noted values after names
noted_plain values [] after names = refl
noted_plain values (c ∷ t) after names = noted_plain values t after names

after_reference : (k : Result (List ℕ) Refusal) (m n : Result (List (List ℕ)) Refusal) (names some : List (List ℕ))
    → ((k >>= (λ l. m >>= (λ inside. Ok (inside ++ (if list_all is_name_character l then l ∷ [] else []))))) >>= (λ list. Ok (fold into_order names list))) ≡ Ok some
    → ((k >>= (λ l. m >>= (λ inside. n >>= (λ rest. Ok (inside ++ (if list_all is_name_character l then l ∷ rest else rest)))))) >>= (λ list. Ok (fold into_order names list))) ≡ (n >>= (λ list. Ok (fold into_order some list)))
after_reference (Ok l) (Ok inside) (Ok rest) names some e = ap Ok (one (list_all is_name_character l) (ok_same (fold into_order names (inside ++ (if list_all is_name_character l then l ∷ [] else []))) some (Ok (fold into_order names (inside ++ (if list_all is_name_character l then l ∷ [] else [])))) refl e))
  where
    one : (b : Bool) → fold into_order names (inside ++ (if b then l ∷ [] else [])) ≡ some → fold into_order names (inside ++ (if b then l ∷ rest else rest)) ≡ fold into_order some rest
    one true h = fold_more names inside (l ∷ rest) ∙ ap (λ s. fold into_order s rest) (sym (fold_more names inside (l ∷ [])) ∙ h)
    one false h = fold_more names inside rest ∙ ap (λ s. fold into_order s rest) (sym (fold_more names inside []) ∙ h)
after_reference (Ok l) (Ok inside) (Err refusal) names some e = refl
after_reference (Ok l) (Err refusal) n names some e = absurd cc
after_reference (Err refusal) m n names some e = absurd cc

-- a part is noted, and what follows it comes next
pub part_next : (values : Values) (part : Part) (after : Parts) (names some : List (List ℕ)) → noted values (part_before part end) names ≡ Ok some → noted values (part_before part after) names ≡ noted values after some
part_next values (Plain t) after names some e =
    noted_plain values t after names ∙ ap (noted values after) (ok_same names some (noted values (text_before t end) names) (noted_plain values t end names) e)
part_next values (Ref' shape row) after names some e =
    after_reference (expanded_parts values [] (parts_in_row row) longest) (names_looked_up values (parts_in_row row)) (names_looked_up values after) names some e
part_next values (Call f) after names some e =
    after_form (names_looked_up values after) (told_name f.name f.words) (ok_same (into_order names (told_name f.name f.words)) some (Ok (into_order names (told_name f.name f.words))) refl e)
  where
    after_form : (m : Result (List (List ℕ)) Refusal) (told : List ℕ) → into_order names told ≡ some → ((m >>= (λ rest. Ok (told ∷ rest))) >>= (λ list. Ok (fold into_order names list))) ≡ (m >>= (λ list. Ok (fold into_order some list)))
    after_form (Ok rest) told k = ap (λ s. Ok (fold into_order s rest)) k
    after_form (Err refusal) told k = refl

no_fault : {A B : Type 0} (fault : ExpandFault) (m : Result A Refusal) (a : A) (n : Result B Refusal) → m ≡ Ok a → IsFaultOf fault m → IsFaultOf fault n
no_fault (ValueCycle name) m a n e f = absurd cc
no_fault (TooDeep name) m a n e f = absurd cc
no_fault (TooLong name) m a n e f = absurd cc
no_fault (Unstable before last) m a n e f = absurd cc
no_fault Memory m a n e f = tt

fault_after : (fault : ExpandFault) (k : Result (List ℕ) Refusal) (m n : Result (List (List ℕ)) Refusal) (names : List (List ℕ))
    → IsFaultOf fault ((k >>= (λ l. m >>= (λ inside. Ok (inside ++ (if list_all is_name_character l then l ∷ [] else []))))) >>= (λ list. Ok (fold into_order names list)))
    → IsFaultOf fault ((k >>= (λ l. m >>= (λ inside. n >>= (λ rest. Ok (inside ++ (if list_all is_name_character l then l ∷ rest else rest)))))) >>= (λ list. Ok (fold into_order names list)))
fault_after fault (Err refusal) m n names h = h
fault_after fault (Ok l) (Err refusal) n names h = h
fault_after fault (Ok l) (Ok inside) n names h =
    no_fault fault (Ok (fold into_order names (inside ++ (if list_all is_name_character l then l ∷ [] else [])))) (fold into_order names (inside ++ (if list_all is_name_character l then l ∷ [] else [])))
    ((n >>= (λ rest. Ok (inside ++ (if list_all is_name_character l then l ∷ rest else rest)))) >>= (λ list. Ok (fold into_order names list))) refl h

-- a part's fault comes before what follows it
pub part_fault : (values : Values) (part : Part) (after : Parts) (names : List (List ℕ)) (fault : ExpandFault) → IsFaultOf fault (noted values (part_before part end) names) → IsFaultOf fault (noted values (part_before part after) names)
part_fault values (Plain t) after names fault h = no_fault fault (noted values (text_before t end) names) names (noted values (text_before t after) names) (noted_plain values t end names) h
part_fault values (Ref' shape row) after names fault h =
    fault_after fault (expanded_parts values [] (parts_in_row row) longest) (names_looked_up values (parts_in_row row)) (names_looked_up values after) names h
part_fault values (Call f) after names fault h =
    no_fault fault (noted values (form f end) names) (into_order names (told_name f.name f.words)) (noted values (form f after) names) refl h

pub part_is : (values : Values) (part : Part) (pieces : Pieces) (names : List (List ℕ)) → part ≡ Ref pieces → noted values (part_before part end) names ≡ noted values (reference (parts_in pieces) end) names
part_is values part pieces names is = ap (λ p. noted values (part_before p end) names) is ∙ ap (λ p. noted values p names) (ref_part pieces end)

pub part_plain : (values : Values) (part : Part) (t : List ℕ) (names : List (List ℕ)) → part ≡ Plain t → noted values (part_before part end) names ≡ Ok names
part_plain values part t names is = ap (λ p. noted values (part_before p end) names) is ∙ noted_plain values t end names

-- a part that is a reference gives what the reference gives

pub ref_ok : {T : Type 0} (values : Values) (part : Part) (pieces : Pieces) (names new : List (List ℕ)) (r : Result T ExpandFault) → part ≡ Ref pieces
    → OnOk r (noted values (reference (parts_in pieces) end) names ≡ Ok new) → OnOk r (noted values (part_before part end) names ≡ Ok new)
ref_ok values part pieces names new (Ok u) is h = part_is values part pieces names is ∙ h
ref_ok values part pieces names new (Err fault) is h = h

pub ref_err : {T : Type 0} (values : Values) (part : Part) (pieces : Pieces) (names : List (List ℕ)) (r : Result T ExpandFault) → part ≡ Ref pieces
    → IfErr r (λ fault. IsFaultOf fault (noted values (reference (parts_in pieces) end) names)) → IfErr r (λ fault. IsFaultOf fault (noted values (part_before part end) names))
ref_err values part pieces names (Ok u) is h = h
ref_err values part pieces names (Err fault) is h = subst (IsFaultOf fault) (sym (part_is values part pieces names is)) h

-- a form is noted by the name under which a key tells it

pub call_ok : {T : Type 0} (values : Values) (part : Part) (f : Form) (names new : List (List ℕ)) (r : Result T ExpandFault) → part ≡ Call f
    → OnOk r (new ≡ into_order names (told_name f.name f.words)) → OnOk r (noted values (part_before part end) names ≡ Ok new)
call_ok values part f names new (Ok u) is h = ap (λ p. noted values (part_before p end) names) is ∙ ap Ok (sym h)
call_ok values part f names new (Err fault) is h = h

pub call_err : {T : Type 0} (values : Values) (part : Part) (names : List (List ℕ)) (r : Result T ExpandFault)
    → IfErr r IsWantOfMemory → IfErr r (λ fault. IsFaultOf fault (noted values (part_before part end) names))
call_err values part names (Ok u) h = h
call_err values part names (Err fault) h = subst (λ f. IsFaultOf f (noted values (part_before part end) names)) (sym h) tt
