use Rattle.std.proofs.Common.{◌∙◌, sym, ap, refl}
use Rattle.std.specs.Option.{option_map}
use Rattle.std.proofs.lemmas.Option.{slice_get-map}
use Rattle.hash_equiv.proofs.index.name_at.Goals as goal

pub returns-in-Some : goal.returns-in-Some
returns-in-Some c = record {
  row = c.in-Some.row.now;
  place = c.args.place;
  stands = slice_get-map (λ e. e.1) c.args.rows.now.entries c.args.place ∙ ap (option_map (λ e. e.1)) (sym c.in-Some.ensures.entry);
  signed = c.is_same.ensures.0 c.if-is_same.true;
  named = refl;
}
