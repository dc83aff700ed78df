use Rattle.std.proofs.Common.{◌∙◌, ◌++◌, ◌∷◌, [], inl, ap, refl, sym, List, ℕ}
use Rattle.store_upgrade.proofs.Stamped.{folders_more}
use Rattle.store_upgrade.proofs.stamps.put_renewed.Goals as goal

pub returns-in_ok-push-in-Some-renewal-clause-takes : goal.returns-in_ok-push-in-Some-renewal-clause-takes
returns-in_ok-push-in-Some-renewal-clause-takes c =
    let r = c.in-Some-renewal.ensures.some in
    let f = c.if-not-is_folder.ensures.0 refl in
    inl (
      c.in-Some.folder.now,
      c.in-Some-renewal.name,
      record { at = sym c.as_str.ensures ∙ c.in-Some.ensures.some; is_folder = f.0; two = f.1; old = r.0; is_hash = r.1; is = r.2; renewed = r.3 },
      c.in_ok-push-in-Some-renewal.ensures.items ∙ ap (λ (t : List ℕ). c.args.found.now.items ++ (t, c.in-Some-renewal.name) ∷ []) c.in_ok-from_str-in-Some-renewal.ensures,
    )

pub returns-in_ok-push-in-Some-renewal-clause-folders : goal.returns-in_ok-push-in-Some-renewal-clause-folders
returns-in_ok-push-in-Some-renewal-clause-folders c =
    let new = c.in_ok-push-in-Some-renewal.ensures.items ∙ ap (λ (t : List ℕ). c.args.found.now.items ++ (t, c.in-Some-renewal.name) ∷ []) c.in_ok-from_str-in-Some-renewal.ensures in
    folders_more c.args.found.now.items c.push.new.self.items c.in-Some.folder.now c.in-Some-renewal.name new (c.if-not-is_folder.ensures.0 refl)
