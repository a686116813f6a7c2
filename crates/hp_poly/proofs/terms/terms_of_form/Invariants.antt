use Rattle.std.proofs.Common.{◌≡◌, ◌+◌, ◌≤◌, ◌++◌, length, map}
use Rattle.std.proofs.Common.{zip}
use Rattle.hp_lists.specs.Lists.{range_with_len}
use Rattle.hp_mono.specs.Monomials.{variable}
use Rattle.hp_poly.specs.Polynomials.{form_terms}
use Rattle.hp_poly.proofs.terms.terms_of_form.Given as goal

abbrev pub invariant-loop-c : goal.invariant-loop-c
invariant-loop-c g l = record {
  counted : 1 ≤ l.i;
  count : l.i + length l.rest ≡ length l.form + 1;
  written : l.out.items ++ map (λ t. (variable t.0, t.1)) (zip (range_with_len l.i (length l.rest)) l.rest)
      ≡ form_terms g.F.Ring.ring l.form;
}

abbrev pub decreases-loop-c : goal.decreases-loop-c
decreases-loop-c g l = length l.rest
