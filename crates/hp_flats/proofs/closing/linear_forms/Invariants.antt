use Rattle.std.proofs.Common.{◌≡◌, map, take, length, All}
use Rattle.hp_flats.proofs.closing.linear_forms.Given as goal

-- the linear forms of the first j rows
abbrev pub invariant-loop-j : goal.invariant-loop-j
invariant-loop-j g l = (map (λ form. form.items) l.forms.items ≡ map (take l.aff.dim) (take l.j l.aff.forms)) × All (λ form. length form.items ≡ l.aff.dim) l.forms.items
