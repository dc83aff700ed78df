-- The order of versions is a total order.
use Rattle.std.proofs.Common.{◌≡◌, ap, true≢false}
use Rattle.std.specs.Ordering.{ordering_then, nat_cmp, on, is_lt, is_gt}
use Rattle.std.specs.Cmp.{then_total, on_total}
use Rattle.std.specs.Cmp.Lexicographic.{slice_cmp, lists_total}
use Rattle.std.proofs.lemmas.Cmp.{nat_list_cmp_total}
use Rattle.std.proofs.lemmas.Map.Lookups.{exact_bytes}
use Rattle.std.specs.declared.cmp.Ordering.{Ordering}
use Rattle.std.specs.declared.cmp.Ordering.TheVariants.{Less, Equal, Greater}
use Rattle.load_model.specs.Versions.{weights_of, IsVersionOrder}

-- where both orders in turn find no difference, the second finds none
second_equal : (r s : Ordering) → ordering_then r s ≡ Equal → s ≡ Equal
second_equal Equal s e = e
second_equal Less s e = absurd (true≢false (ap is_lt e))
second_equal Greater s e = absurd (true≢false (ap is_gt e))

pub version_order : IsVersionOrder
version_order = record {
  total = then_total (on_total weights_of (lists_total nat_list_cmp_total)) nat_list_cmp_total;
  apart = λ a b e. exact_bytes a b (second_equal (on weights_of (slice_cmp (slice_cmp nat_cmp)) a b) (slice_cmp nat_cmp a b) e);
}
