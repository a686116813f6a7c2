-- One turn of the loop over the flats of an affine arrangement and their covers: what holds before it, and what it adds.
use Rattle.std.specs.Prelude.{◌≡◌, ◌≢◌, ◌+◌, ◌<◌, ℕ, ℤ, List, [], ◌∷◌, ◌++◌, All, Contains, map, length}
use Rattle.std.specs.List.{AllPairs}
use Rattle.std.specs.BTreeMap.{BTreeMap}
use Rattle.std.proofs.Common.{get_or, w64, to_z, of_z, SFits, sym, ap, ◌∙◌, subst}
use Rattle.std.proofs.lemmas.Int.{to_z-of_z}
use Rattle.hp_sets.specs.Sets.{Set}
use Rattle.hp_sets.specs.declared.flat.Flat.{Flat}
use Rattle.hp_arr.specs.Flats.{flats}
use Rattle.hp_arr.specs.Moebius.{mobius}
use Rattle.hp_arr.proofs.ConePoints.{AffineSetting}
use Rattle.hp_flats.specs.Covers.{IsCoverList}
use Rattle.hp_flats.specs.declared.levels.Covered.{Covered}
use Rattle.hp_mobius.specs.Partial.{IsAddedUp, IsShared, IsSmall, noted, value_from}
use Rattle.hp_mobius.proofs.CoverSums.{added-value, added-small, added-next, small-at}
use Rattle.hp_mobius.proofs.Coefficients.{mapped-at}

module _ {K : Type 0} (S : AffineSetting K) where
  open S use {ring, numbers, arr}

  abbrev all : List Flat
  all = flats S.ring S.numbers S.arr

  abbrev mu : Set → ℤ
  mu = mobius S.ring S.numbers S.arr

  -- the flat is number k, its covers are all, and the flats before it are added up
  pub record IsTurn (k : ℕ) (sums : BTreeMap Set ℤ) (values : List (Flat × ℤ)) (this : Covered) : Type 0 where
    pub within : k < length all
    pub at : this.flat ≡ get_or all k this.flat
    pub covers : IsCoverList ring numbers arr this.flat.set this.covers
    pub added : IsAddedUp ring numbers arr k sums values

  pub turn-of : {k : ℕ} {sums : BTreeMap Set ℤ} {values : List (Flat × ℤ)} {this : Covered} (covered : List Covered)
      → map (λ c. c.flat) covered ≡ all → All (λ c. IsCoverList ring numbers arr c.flat.set c.covers) covered
      → k < length covered → this ≡ get_or covered k this → IsAddedUp ring numbers arr k sums values
      → IsTurn k sums values this
  turn-of {k} {sums} {values} {this} covered e lists inside at added =
      let place = mapped-at (λ (c : Covered). c.flat) covered all k this e inside at in
      record {
        within = place.0;
        at = place.1;
        covers = subst (λ (c : Covered). IsCoverList ring numbers arr c.flat.set c.covers) (sym at) (lists k this inside);
        added = added;
      }

  module _ {k : ℕ} {sums : BTreeMap Set ℤ} {values : List (Flat × ℤ)} {this : Covered} (t : IsTurn k sums values this) where
    pub turn-once : (gs : List Set) → gs ≡ this.covers → AllPairs (λ g h. g ≢ h) gs
    turn-once gs e = subst (λ gs. AllPairs (λ g h. g ≢ h) gs) (sym e) t.covers.once

    pub turn-sums : (gs : List Set) → gs ≡ this.covers → (g : Set) → Contains gs g → IsSmall (noted sums g)
    turn-sums gs e g c = added-small S k sums values g t.added ((t.covers.members g).0 (subst (λ gs. Contains gs g) e c)).0

    -- the value that is found is the Möbius value
    pub turn-value : (v : ℤ) → SFits w64 v → v ≡ value_from sums this.flat.set → to_z w64 (of_z w64 v) ≡ mu this.flat.set
    turn-value v fits e = to_z-of_z w64 v fits ∙ e ∙ added-value S k sums values this.flat t.added t.within t.at

    pub turn-small : (v : ℤ) → v ≡ mu this.flat.set → IsSmall v
    turn-small v e = subst IsSmall (sym e) (small-at S k this.flat t.within t.at)

    -- with its share given to the covers, the flat is added up
    pub turn-next : (v : ℤ) (gs : List Set) (after : BTreeMap Set ℤ) (pushed : List (Flat × ℤ)) → v ≡ mu this.flat.set → gs ≡ this.covers
        → IsShared this.flat.set v gs (noted sums) (noted after) → pushed ≡ values ++ (this.flat, v) ∷ []
        → IsAddedUp ring numbers arr (k + 1) after pushed
    turn-next v gs after pushed valued e shared p =
        let own : IsShared this.flat.set (mu this.flat.set) this.covers (noted sums) (noted after) =
        subst (λ z. IsShared this.flat.set z this.covers (noted sums) (noted after)) valued
        (subst (λ gs. IsShared this.flat.set v gs (noted sums) (noted after)) e shared) in
        subst (λ values. IsAddedUp ring numbers arr (k + 1) after values) (sym (p ∙ ap (λ z. values ++ (this.flat, z) ∷ []) valued))
        (added-next S k sums after values this.flat this.covers t.added t.within t.at t.covers own)
