-- Lists of paths.
use Rattle.std.proofs.Common.{◌≡◌, refl, sym, ◌∙◌, ap, ℕ, suc, ◌+◌, ◌<◌, ◌||◌, arith, Bool, true, false, inl, inr, List, [], ◌∷◌, ◌++◌, length, take, get_or, filter, filter_map, Option, bytes_eq}
use Rattle.std.specs.Prelude.{Contains, if◌then◌else◌}
use Rattle.std.specs.Cmp.Lexicographic.{nat_list_eq_equiv}
use Rattle.std.proofs.lemmas.List.{take_more}
use Rattle.std.proofs.lemmas.Map.Views.{list_any-from_Contains}
use Rattle.meta_model.proofs.Bools.{either_way, same_text, and_right, from_or, or_first, or_later}
use Rattle.meta_model.specs.Text.{is_in, in_byte_order, begins_with}
use Rattle.meta_model.proofs.Ordered.{ascending_same, ordered_ascending, ordered_in}
use Rattle.meta_model.proofs.Winner.{in_filter, filter_passes}
use Rattle.name_walk.proofs.Besides.{in_both}
use Rattle.outside_traits.specs.Store.{IsListing}
use Rattle.load_model.specs.Paths.{path_named, has_ending}
use Rattle.load_model.specs.Layers.{named_files}
use Rattle.layer_conf.specs.Globs.{matches_any, is_wanted, begun_by, IsFound, IsCover, IsJoined}
use Rattle.layer_conf.proofs.Globbing.{named_are}
use Rattle.layer_conf.proofs.Begun.{begins, either_head}

pub in_contains : (t : List ℕ) (xs : List (List ℕ)) → is_in t xs ≡ true → Contains xs t
in_contains t [] h = absurd cc
in_contains t (x ∷ xs) h = elim (either_way (bytes_eq t x)) [
  | inl e ↦ (0, omega arith, sym (same_text t x e))
  | inr e ↦ let c = in_contains t xs (from_or (bytes_eq t x) (is_in t xs) h e) in (suc c.0, (let k = c.1 in omega (arith, k)), c.2)
]

pub contains_in : (t : List ℕ) (xs : List (List ℕ)) → Contains xs t → is_in t xs ≡ true
contains_in t xs c = list_any-from_Contains nat_list_eq_equiv t xs c

pub both_ways : (a b : Bool) → (a ≡ true → b ≡ true) → (b ≡ true → a ≡ true) → a ≡ b
both_ways true b f g = sym (f refl)
both_ways false true f g = g refl
both_ways false false f g = refl

-- the listings of heads, one behind another

pub none_found : (held : List ℕ → Option (List ℕ)) → IsFound [] held []
none_found held = record {
  are_held = λ q h. absurd cc;
  all = λ q h s. absurd cc;
}

pub found_next : (heads : List (List ℕ)) (i : ℕ) (head : List ℕ) (held : List ℕ → Option (List ℕ)) (old new : List (List ℕ)) → head ≡ get_or heads i head → i < length heads → IsFound (take i heads) held old → IsJoined head held old new → IsFound (take (i + 1) heads) held new
found_next heads i head held old new is lt inv more =
    let listing = more.listing in
    let either : (q : List ℕ) → is_in q new ≡ (is_in q old || is_in q listing) = λ q. ap (is_in q) more.joined ∙ in_both q old listing in
    let heads_are = take_more heads i head lt ∙ ap (λ y. take i heads ++ y ∷ []) (sym is) in
    record {
      are_held = λ q h. elim (either_way (is_in q old)) [
        | inl e ↦ inv.are_held q e
        | inr e ↦ (more.listed.are_held q (in_contains q listing (from_or (is_in q old) (is_in q listing) (sym (either q) ∙ h) e))).1
      ];
      all = λ q h s. either q ∙ elim (either_way (begun_by (take i heads) q)) [
        | inl e ↦ or_first (is_in q old) (is_in q listing) (inv.all q e s)
        | inr e ↦ or_later (is_in q old) (is_in q listing) (contains_in q listing (more.listed.all q (begins head q
            (from_or (begun_by (take i heads) q) (begins_with head q) (sym (ap (λ l. begun_by l q) heads_are ∙ either_head (take i heads) head q) ∙ h) e)) s))
      ];
    }

pub covers : (globs heads : List (List ℕ)) (held : List ℕ → Option (List ℕ)) (paths : List (List ℕ)) → ((q : List ℕ) → matches_any globs q ≡ true → begun_by heads q ≡ true) → IsFound heads held paths → IsCover globs held paths
covers globs heads held paths h found = record {
  are_held = found.are_held;
  all = λ q m s. found.all q (h q m) s;
}

-- the files that words name, among all files or among those that were listed

there_step : (b : Bool) (x t : List ℕ) (xs ys : List (List ℕ)) → (is_in t ys ≡ true → is_in t xs ≡ true) → is_in t (if b then x ∷ ys else ys) ≡ true → is_in t (x ∷ xs) ≡ true
there_step true x t xs ys f h = elim (either_way (bytes_eq t x)) [
  | inl e ↦ or_first (bytes_eq t x) (is_in t xs) e
  | inr e ↦ or_later (bytes_eq t x) (is_in t xs) (f (from_or (bytes_eq t x) (is_in t ys) h e))
]
there_step false x t xs ys f h = or_later (bytes_eq t x) (is_in t xs) (f h)

there : (test : List ℕ → Bool) (xs : List (List ℕ)) (t : List ℕ) → is_in t (filter test xs) ≡ true → is_in t xs ≡ true
there test [] t h = h
there test (x ∷ xs) t h = there_step (test x) x t xs (filter test xs) (there test xs t) h

pub named_among : (globs words found paths : List (List ℕ)) (ending : List ℕ) (held : List ℕ → Option (List ℕ)) → globs ≡ filter_map path_named words → IsCover globs held found → IsListing [] held paths → named_files words ending found ≡ named_files words ending paths
named_among globs words found paths ending held e cover listing =
    let wanted = is_wanted globs ending in
    let same : (t : List ℕ) → is_in t (filter wanted found) ≡ is_in t (filter wanted paths) = λ t. both_ways (is_in t (filter wanted found)) (is_in t (filter wanted paths))
    (λ h. in_filter wanted paths t (filter_passes wanted found t h) (contains_in t paths (listing.all t (t, refl) (cover.are_held t (there wanted found t h)))))
    (λ h. let passes = filter_passes wanted paths t h in in_filter wanted found t passes (cover.all t (and_right (has_ending ending t) (matches_any globs t) passes) (listing.are_held t (in_contains t paths (there wanted paths t h))).1)) in
    sym (named_are globs words found ending e)
    ∙ ascending_same (in_byte_order (filter wanted found)) (in_byte_order (filter wanted paths)) (ordered_ascending (filter wanted found)) (ordered_ascending (filter wanted paths))
    (λ t. ordered_in (filter wanted found) t ∙ same t ∙ sym (ordered_in (filter wanted paths) t))
    ∙ named_are globs words paths ending e
