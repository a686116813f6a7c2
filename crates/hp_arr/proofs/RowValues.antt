-- The value of a row by its coefficients and its constant; and rows padded one by one.
use Rattle.std.proofs.Common.{◌≡◌, ℕ, ◌+◌, List, [], ◌∷◌, ◌++◌, All, take, length, sym, ap, ◌∙◌}
use Rattle.std.proofs.Math.Seq.{take-append_seam}
use Rattle.hp_algebra.specs.Ring.{RingOf, IsRing, dot_of}
use Rattle.hp_algebra.specs.Rows.{IsRow, entry}
use Rattle.hp_algebra.proofs.Dots.{dot_of-push}
use Rattle.hp_arr.proofs.ConePoints.{split-height, entry-height}

front : {X : Type 0} (xs ys : List X) (m : ℕ) → length xs ≡ m → take m (xs ++ ys) ≡ xs
front xs ys m e = ap (λ k. take k (xs ++ ys)) (sym e) ∙ take-append_seam xs ys

pub value-parts : {K : Type 0} {ring : RingOf K} (laws : IsRing ring) (r x : List K) → IsRow ring (length x + 1) r → All ring.IsValue x
    → ring.add (dot_of ring (take (length x) r) x) (entry ring r (length x)) ≡ dot_of ring r (x ++ ring.one ∷ [])
value-parts {ring = ring} laws r x rr vx =
    let d = split-height ring (length x) r rr in
    (λ j. ring.add (dot_of ring ((ap (take (length x)) d.4 ∙ front d.0 (d.1 ∷ []) (length x) d.2.0) j) x)
    ((ap (λ g. entry ring g (length x)) d.4 ∙ entry-height ring (length x) d.0 d.1 d.2.0 ∙ sym (laws.mul_one d.1 d.3)) j))
    ∙ sym (dot_of-push laws d.0 x d.1 ring.one d.2.0 d.2.1 vx d.3 laws.one_value)
    ∙ ap (λ g. dot_of ring g (x ++ ring.one ∷ [])) (sym d.4)
