use Rattle.std.proofs.Common.{◌≡◌, ◌∙◌, ◌++◌, ◌∷◌, [], map, sym, ap, List, ℕ, subst}
use Rattle.std.specs.Prelude.{String, nat_eq}
use Rattle.std.specs.declared.alloc.Global.{Global}
use Rattle.std.specs.List.{starts_with}
use Rattle.std.specs.BTreeMap.{get_by_text}
use Rattle.std.specs.String.{string_bytes}
use Rattle.std.specs.Map.Iter.{deref_pair}
use Rattle.std.proofs.lemmas.List.{map-append}
use Rattle.std.proofs.lemmas.Map.Iter.{iter_end, rest_so_far, rest_more}
use Rattle.tree_model.specs.Path.{BeginsWith}
use Rattle.outside_traits.specs.Store.{IsListing}
use Rattle.outside_mem.proofs.Listing.{from_key, picked, listed_all, listed_some, names, names_deref, picked_more, starts_not}
use Rattle.outside_mem.proofs.layers.listed.Goals as goal
use Rattle.outside_mem.proofs.layers.listed.Goals.{in-None, in-Some+then-not-begins_with}

pub returns : goal.returns
returns c =
    let key : String Global = c.in_ok-from_str.field-0 in
    let seen : List (String Global × List ℕ) = map deref_pair c.loop-path.yielded in
    let found : c.loop-path.found ≡ picked c.args.prefix.now (names seen) = c.loop-path.invariant ∙ ap (picked c.args.prefix.now) (sym (names_deref c.loop-path.yielded)) in
    let whole : c.into_iter-path-iterator.result ≡ from_key key c.args.files.now.entries = c.into_iter-path-iterator.ensures.into_iter_gives ∙ c.range-path-items.ensures.between tt in
    subst (IsListing c.args.prefix.now (get_by_text c.args.files.now)) (sym found)
    (elim c.match-next.branch [
      | in-None w ↦
          listed_all c.args.prefix.now key c.in_ok-from_str.ensures.ok c.args.files.now c.range-path-items.ensures.ordered seen
          (iter_end deref_pair (from_key key c.args.files.now.entries) c.loop-path.yielded c.into_iter-path-iterator.result c.loop-path.path-iterator c.next.new.self c.next.result whole c.loop-path.yielded_by w.in-None.is c.next.ensures.steps).0
      | in-Some+then-not-begins_with w ↦
          listed_some c.args.prefix.now key c.in_ok-from_str.ensures.ok c.args.files.now c.range-path-items.ensures.ordered seen
          (w.in-Some.path.now, w.in-Some.field-0-1.now) c.next.new.self
          (sym whole ∙ rest_so_far deref_pair c.loop-path.yielded c.into_iter-path-iterator.result c.loop-path.path-iterator c.loop-path.yielded_by
          ∙ ap (λ (l : List (String Global × List ℕ)). seen ++ l) (rest_more deref_pair c.loop-path.path-iterator c.next.new.self c.next.result (w.in-Some.path, w.in-Some.field-0-1) w.in-Some.is c.next.ensures.steps))
          (sym (ap (λ (q : List ℕ). starts_with nat_eq q c.args.prefix.now) w.as_str.ensures.value) ∙ starts_not c.args.prefix.now w.as_str.result.now w.if-not-begins_with.ensures)
    ])

pub loop-path-preserved : goal.loop-path-preserved
loop-path-preserved c =
    let prefix = c.args.prefix.now in
    let path = string_bytes c.in-Some.path.now in
    let seen : List (List ℕ) = map (λ x. string_bytes x.0.now) c.loop-path.yielded in
    let begins : BeginsWith prefix path = subst (BeginsWith prefix) c.as_str.ensures.value c.if-not-begins_with.ensures in
    c.in_ok-push.ensures.ok
    ∙ ap (λ (l : List (List ℕ)). l ++ c.in_ok-from_str-2.field-0 ∷ []) c.loop-path.invariant
    ∙ ap (λ (t : List ℕ). picked prefix seen ++ t ∷ []) (c.in_ok-from_str-2.ensures ∙ c.as_str-in-loop-path.ensures.value)
    ∙ sym (picked_more prefix seen path begins)
    ∙ ap (picked prefix) (sym (map-append (λ x. string_bytes x.0.now) c.loop-path.yielded ((c.in-Some.path, c.in-Some.field-0-1) ∷ [])))
