-- The order in which sets are listed is total, and only equal sets compare equal.
use Rattle.std.specs.Prelude.{◌≡◌, length, nat_eq}
use Rattle.std.specs.declared.cmp.Ordering.{Ordering}
use Rattle.std.specs.declared.cmp.Ordering.TheVariants.{Less, Equal, Greater}
use Rattle.std.specs.Ordering.{ordering_then, is_eq, eq_by_cmp}
use Rattle.std.specs.Cmp.{IsTotalOrder, IsPartialOrder, nat_cmp_total, on_total, then_total, both_ways, Equal-is, partial_order_from_agreeing_total}
use Rattle.std.specs.Cmp.Lexicographic.{pointwise, bytes_decides, nat_list_cmp_total}
use Rattle.std.specs.Ordering.{as_partial_cmp}
use Rattle.std.specs.FinMap.{slice_cmp-IsAntisymmetric, nat_cmp-IsAntisymmetric}
use Rattle.std.proofs.lemmas.Cmp.{tied_itself}
use mathlib.Core.Path.{refl, subst}
use Rattle.hp_sets.specs.Sets.{Set, cmp_listed}

pub cmp_listed_total : IsTotalOrder cmp_listed
cmp_listed_total = then_total (on_total length nat_cmp_total) nat_list_cmp_total

second : (r s : Ordering) → ordering_then r s ≡ Equal → s ≡ Equal
second Less s e = cc
second Equal s e = e
second Greater s e = cc

pub cmp_listed_same : (s t : Set) → cmp_listed s t ≡ Equal → s ≡ t
cmp_listed_same s t e = slice_cmp-IsAntisymmetric nat_cmp-IsAntisymmetric s t (second _ _ e)

pub cmp_listed_equal : (s t : Set) → s ≡ t → cmp_listed s t ≡ Equal
cmp_listed_equal s t e = subst (λ z. cmp_listed s z ≡ Equal) e (tied_itself cmp_listed_total s)

-- two sets are equal where they compare equal
pub equal-cmp_listed : (s t : Set) → pointwise nat_eq s t ≡ eq_by_cmp cmp_listed s t
equal-cmp_listed s t =
    both_ways (pointwise nat_eq s t) (is_eq (cmp_listed s t))
    (λ e. (Equal-is (cmp_listed s t)).1 (cmp_listed_equal s t ((bytes_decides s t).0 e)))
    (λ e. (bytes_decides s t).1 (cmp_listed_same s t ((Equal-is (cmp_listed s t)).0 e)))

pub cmp_listed_partial : IsPartialOrder (pointwise nat_eq) (as_partial_cmp cmp_listed)
cmp_listed_partial = partial_order_from_agreeing_total cmp_listed cmp_listed_total (λ s t. refl) equal-cmp_listed
