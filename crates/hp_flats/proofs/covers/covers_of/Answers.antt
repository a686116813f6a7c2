use Rattle.std.proofs.Common.{rules, ◌≡◌, ◌≢◌, ◌⊎◌, ◌↔◌, ◌+◌, ◌<◌, suc, false, IfErr, slice_index_or, [], ◌∷◌, ◌++◌, length, Contains, refl, sym, ap, subst, ◌∙◌, arith, inl, inr}
use Rattle.std.proofs.lemmas.List.Elements.{Contains-get_or, All-contains}
use Rattle.hp_lists.proofs.Distinct.{last-cases}
use Rattle.hp_lists.proofs.Ordered.{pairs_from_Ordered}
use Rattle.hp_lists.proofs.Members.{Contains-none, not_both}
use Rattle.hp_arr.specs.Flats.{rank, flats_of_rank}
use Rattle.hp_arr.proofs.Cuts.{IsIndex}
use Rattle.hp_arr.proofs.ArrangementMatroids.{index-ground}
use Rattle.hp_sets.specs.Sets.{IsSetWithin, contains, union}
use Rattle.hp_sets.proofs.SetLaws.{Contains-contains}
use Rattle.hp_sets.proofs.SetMembers.{union-set}
use Rattle.hp_flats.specs.Levels.{at_form, AreOfRank, IsParallelFrom}
use Rattle.hp_flats.specs.declared.stop.FlatStop.{FlatStop}
use Rattle.hp_flats.specs.declared.stop.FlatStop.TheVariants.{Memory}
use Rattle.hp_flats.proofs.ValuePoints.{outside-place}
use Rattle.hp_flats.specs.Covers.{IsCoverList}
use Rattle.hp_arr.proofs.ConePoints.{affine_setting, index-cone, cone_over}
use Rattle.hp_arr.proofs.ConeMatroids.{affine_matroid, central, central-laws, flat-set}
use Rattle.hp_flats.proofs.ClassValues.{flat-cone, infinity-place}
use Rattle.hp_matroid.proofs.CentralCovers as matroid
use Rattle.hp_flats.proofs.CoverSteps.{flat-of, IsCovering, cone-widths, cover-start, cover-class, cover-rank, cover-entry, cover-turn, cover-end}
use Rattle.hp_flats.proofs.covers.covers_of.Goals as goal

pub place_off-requires-clause-widths : goal.place_off-requires-clause-widths
place_off-requires-clause-widths g c =
    let A = affine_setting g.met.K.Field.field_laws g.met.K.FiniteField.numbering c.len-count.ensures.lawful in
    let ring = g.K.Ring.ring in
    let numbers = g.K.FiniteField.numbers in
    let arr = c.args.aff.now in
    let f = c.args.set in
    let rows = c.args.rows.now in
    let is = c.requires.entry.is_flat in
    let has = c.requires.entry.has_values in
    let value : c.len-count.result ≡ length arr.forms = c.len-count.ensures.value in
    λ k d l. (let e = cone-widths A f is rows has k d l in omega (arith, e, value))

pub unreachable-requires : goal.unreachable-requires
unreachable-requires g c =
    let A = affine_setting g.met.K.Field.field_laws g.met.K.FiniteField.numbering c.len-count.ensures.lawful in
    let ring = g.K.Ring.ring in
    let numbers = g.K.FiniteField.numbers in
    let arr = c.args.aff.now in
    let f = c.args.set in
    let rows = c.args.rows.now in
    let is = c.requires.entry.is_flat in
    let has = c.requires.entry.has_values in
    let value : c.len-count.result ≡ length arr.forms = c.len-count.ensures.value in
    let em : c.len-count.result + 1 ≡ suc (length arr.forms) = omega (arith, value) in
    infinity-place A f is rows has (λ w m. subst (λ j. at_form ring j w ≡ ring.zero) em (All-contains (λ w. at_form ring (c.len-count.result + 1) w ≡ ring.zero) rows w (c.in_default.ensures.none refl) m))

pub with_parallel-covered-requires-clause-set : goal.with_parallel-covered-requires-clause-set
with_parallel-covered-requires-clause-set g c =
    let A = affine_setting g.met.K.Field.field_laws g.met.K.FiniteField.numbering c.len-count.ensures.lawful in
    let ring = g.K.Ring.ring in
    let numbers = g.K.FiniteField.numbers in
    let arr = c.args.aff.now in
    let f = c.args.set in
    let rows = c.args.rows.now in
    let is = c.requires.entry.is_flat in
    let has = c.requires.entry.has_values in
    let value : c.len-count.result ≡ length arr.forms = c.len-count.ensures.value in
    subst (λ m. IsSetWithin m f) (sym value) (flat-set A f is)

pub with_parallel-covered-requires-clause-widths : goal.with_parallel-covered-requires-clause-widths
with_parallel-covered-requires-clause-widths g c =
    let A = affine_setting g.met.K.Field.field_laws g.met.K.FiniteField.numbering c.len-count.ensures.lawful in
    let ring = g.K.Ring.ring in
    let numbers = g.K.FiniteField.numbers in
    let arr = c.args.aff.now in
    let f = c.args.set in
    let rows = c.args.rows.now in
    let is = c.requires.entry.is_flat in
    let has = c.requires.entry.has_values in
    let value : c.len-count.result ≡ length arr.forms = c.len-count.ensures.value in
    λ k d l. cone-widths A f is rows has k d l ∙ ap (λ m. m + 1) (sym value)

pub with_parallel-cover-requires-clause-set : goal.with_parallel-cover-requires-clause-set
with_parallel-cover-requires-clause-set g c =
    let A = affine_setting g.met.K.Field.field_laws g.met.K.FiniteField.numbering c.len-count.ensures.lawful in
    let ring = g.K.Ring.ring in
    let numbers = g.K.FiniteField.numbers in
    let arr = c.args.aff.now in
    let f = c.args.set in
    let rows = c.args.rows.now in
    let is = c.requires.entry.is_flat in
    let has = c.requires.entry.has_values in
    let value : c.len-count.result ≡ length arr.forms = c.len-count.ensures.value in
    subst (λ m. IsSetWithin m f) (sym value) (flat-set A f is)

pub with_parallel-cover-requires-clause-widths : goal.with_parallel-cover-requires-clause-widths
with_parallel-cover-requires-clause-widths g c =
    let A = affine_setting g.met.K.Field.field_laws g.met.K.FiniteField.numbering c.len-count.ensures.lawful in
    let ring = g.K.Ring.ring in
    let numbers = g.K.FiniteField.numbers in
    let arr = c.args.aff.now in
    let f = c.args.set in
    let rows = c.args.rows.now in
    let is = c.requires.entry.is_flat in
    let has = c.requires.entry.has_values in
    let value : c.len-count.result ≡ length arr.forms = c.len-count.ensures.value in
    λ k d l. cone-widths A f is rows has k d l ∙ ap (λ m. m + 1) (sym value)

pub loop-i-init : goal.loop-i-init
loop-i-init g c =
    let A = affine_setting g.met.K.Field.field_laws g.met.K.FiniteField.numbering c.len-count.ensures.lawful in
    let ring = g.K.Ring.ring in
    let numbers = g.K.FiniteField.numbers in
    let arr = c.args.aff.now in
    let f = c.args.set in
    let rows = c.args.rows.now in
    let is = c.requires.entry.is_flat in
    let has = c.requires.entry.has_values in
    let value : c.len-count.result ≡ length arr.forms = c.len-count.ensures.value in
    let covered = c.with_parallel-covered.result in
    let em : c.len-count.result + 1 ≡ suc (length arr.forms) = omega (arith, value) in
    record {
      covering = λ lawful flat. (let B = affine_setting g.met.K.Field.field_laws g.met.K.FiniteField.numbering lawful in
          subst (λ xs. IsCovering B f flat covered xs 1) (sym c.new-covers.ensures.items)
          (cover-start B f flat rows has c.in-Some.p (c.len-count.result + 1) em c.in-Some.ensures.some c.in-Some.ensures.off covered
          (λ k. subst (λ m. Contains covered k ↔ (Contains f k ⊎ IsParallelFrom ring rows f c.in-Some.p (c.len-count.result + 1) 1 m k)) value (c.with_parallel-covered.ensures.members k))));
      within = subst (λ m. IsSetWithin m covered) value c.with_parallel-covered.ensures.set;
      are = c.requires.next;
      few = c.requires.room;
      keeps = λ h d. d;
      has = λ h d. absurd (Contains-none h (subst (λ xs. Contains xs h) c.new-covers.ensures.items d));
    }

pub loop-i-preserved-then-contains : goal.loop-i-preserved-then-contains
loop-i-preserved-then-contains g c =
    let A = affine_setting g.met.K.Field.field_laws g.met.K.FiniteField.numbering c.len-count.ensures.lawful in
    let ring = g.K.Ring.ring in
    let numbers = g.K.FiniteField.numbers in
    let arr = c.args.aff.now in
    let f = c.args.set in
    let rows = c.args.rows.now in
    let is = c.requires.entry.is_flat in
    let has = c.requires.entry.has_values in
    let value : c.len-count.result ≡ length arr.forms = c.len-count.ensures.value in
    let inv = c.loop-i.invariant in
    record {
      covering = λ lawful flat. (let B = affine_setting g.met.K.Field.field_laws g.met.K.FiniteField.numbering lawful in
          matroid.covering-skip (affine_matroid B) (central B) (central-laws B) f (flat-of B f flat) c.loop-i.covered c.loop-i.covers.items c.loop-i.i (inv.covering lawful flat) (sym c.contains.ensures.value ∙ c.if-contains.true));
      within = inv.within;
      are = inv.are;
      few = inv.few;
      keeps = inv.keeps;
      has = inv.has;
    }

pub place_off-requires-in-loop-i-clause-widths : goal.place_off-requires-in-loop-i-clause-widths
place_off-requires-in-loop-i-clause-widths g c =
    let A = affine_setting g.met.K.Field.field_laws g.met.K.FiniteField.numbering c.len-count.ensures.lawful in
    let ring = g.K.Ring.ring in
    let numbers = g.K.FiniteField.numbers in
    let arr = c.args.aff.now in
    let f = c.args.set in
    let rows = c.args.rows.now in
    let is = c.requires.entry.is_flat in
    let has = c.requires.entry.has_values in
    let value : c.len-count.result ≡ length arr.forms = c.len-count.ensures.value in
    λ k d l. (let e = cone-widths A f is rows has k d l in omega (arith, e, c.loop-i-test.true, value))

pub unreachable-requires-in_default-place_off : goal.unreachable-requires-in_default-place_off
unreachable-requires-in_default-place_off g c =
    let A = affine_setting g.met.K.Field.field_laws g.met.K.FiniteField.numbering c.len-count.ensures.lawful in
    let ring = g.K.Ring.ring in
    let numbers = g.K.FiniteField.numbers in
    let arr = c.args.aff.now in
    let f = c.args.set in
    let rows = c.args.rows.now in
    let is = c.requires.entry.is_flat in
    let has = c.requires.entry.has_values in
    let value : c.len-count.result ≡ length arr.forms = c.len-count.ensures.value in
    let covered = c.loop-i.covered in
    let covers = c.loop-i.covers.items in
    let i = c.loop-i.i in
    let s = c.loop-i.invariant.covering c.len-count.ensures.lawful is in
    let r : IsIndex arr i = (c.loop-i.auto.i, omega (arith, c.loop-i-test.true, value)) in
    let out : contains covered i ≡ false = sym c.contains.ensures.value ∙ c.if-contains.false in
    let fresh = matroid.fresh-outside (affine_matroid A) (central A) (central-laws A) f (flat-of A f is) covered covers i s (index-ground (length arr.forms) i r.0 r.1) out in
    outside-place (cone_over A) f (flat-cone A f is) rows has i (index-cone A i r) (λ d. not_both (contains f i) (Contains-contains f i d) fresh)
    (λ w m. All-contains (λ w. at_form ring i w ≡ ring.zero) rows w (c.in_default-place_off.ensures.none refl) m)

pub put-requires-clause-widths : goal.put-requires-clause-widths
put-requires-clause-widths g c =
    let A = affine_setting g.met.K.Field.field_laws g.met.K.FiniteField.numbering c.len-count.ensures.lawful in
    let ring = g.K.Ring.ring in
    let numbers = g.K.FiniteField.numbers in
    let arr = c.args.aff.now in
    let f = c.args.set in
    let rows = c.args.rows.now in
    let is = c.requires.entry.is_flat in
    let has = c.requires.entry.has_values in
    let value : c.len-count.result ≡ length arr.forms = c.len-count.ensures.value in
    λ k d l. cone-widths A f is rows has k d l ∙ sym (cone-widths A f is rows has c.in-Some-place_off.q [] c.in-Some-place_off.ensures.some)

pub put-requires-clause-entry : goal.put-requires-clause-entry
put-requires-clause-entry g c =
    let A = affine_setting g.met.K.Field.field_laws g.met.K.FiniteField.numbering c.len-count.ensures.lawful in
    let ring = g.K.Ring.ring in
    let numbers = g.K.FiniteField.numbers in
    let arr = c.args.aff.now in
    let f = c.args.set in
    let rows = c.args.rows.now in
    let is = c.requires.entry.is_flat in
    let has = c.requires.entry.has_values in
    let value : c.len-count.result ≡ length arr.forms = c.len-count.ensures.value in
    let covered = c.loop-i.covered in
    let covers = c.loop-i.covers.items in
    let i = c.loop-i.i in
    let s = c.loop-i.invariant.covering c.len-count.ensures.lawful is in
    let r : IsIndex arr i = (c.loop-i.auto.i, omega (arith, c.loop-i-test.true, value)) in
    let out : contains covered i ≡ false = sym c.contains.ensures.value ∙ c.if-contains.false in
    let q = c.in-Some-place_off.q in
    let inside = c.in-Some-place_off.ensures.some in
    let off = c.in-Some-place_off.ensures.off in
    let cover = c.with_parallel-cover.result in
    let own : IsSetWithin (length arr.forms) cover = subst (λ m. IsSetWithin m cover) value c.with_parallel-cover.ensures.set in
    let same = cover-class A f is rows has covered covers i s r out q inside off cover own
    (λ k. subst (λ m. Contains cover k ↔ (Contains f k ⊎ IsParallelFrom ring rows covered q i i m k)) value (c.with_parallel-cover.ensures.members k)) in
    let more = cover-rank A f is rows has covered covers i s r out q inside off cover same in
    cover-entry A f is rows has covered covers i s r out q inside off cover same

pub put-requires-clause-next : goal.put-requires-clause-next
put-requires-clause-next g c =
    let A = affine_setting g.met.K.Field.field_laws g.met.K.FiniteField.numbering c.len-count.ensures.lawful in
    let ring = g.K.Ring.ring in
    let numbers = g.K.FiniteField.numbers in
    let arr = c.args.aff.now in
    let f = c.args.set in
    let rows = c.args.rows.now in
    let is = c.requires.entry.is_flat in
    let has = c.requires.entry.has_values in
    let value : c.len-count.result ≡ length arr.forms = c.len-count.ensures.value in
    let covered = c.loop-i.covered in
    let covers = c.loop-i.covers.items in
    let i = c.loop-i.i in
    let s = c.loop-i.invariant.covering c.len-count.ensures.lawful is in
    let r : IsIndex arr i = (c.loop-i.auto.i, omega (arith, c.loop-i-test.true, value)) in
    let out : contains covered i ≡ false = sym c.contains.ensures.value ∙ c.if-contains.false in
    let q = c.in-Some-place_off.q in
    let inside = c.in-Some-place_off.ensures.some in
    let off = c.in-Some-place_off.ensures.off in
    let cover = c.with_parallel-cover.result in
    let own : IsSetWithin (length arr.forms) cover = subst (λ m. IsSetWithin m cover) value c.with_parallel-cover.ensures.set in
    let same = cover-class A f is rows has covered covers i s r out q inside off cover own
    (λ k. subst (λ m. Contains cover k ↔ (Contains f k ⊎ IsParallelFrom ring rows covered q i i m k)) value (c.with_parallel-cover.ensures.members k)) in
    let more = cover-rank A f is rows has covered covers i s r out q inside off cover same in
    subst (λ k. AreOfRank ring numbers arr k c.loop-i.next.entries) (sym more) c.loop-i.invariant.are

pub returns-in_err-put-clause-stop : goal.returns-in_err-put-clause-stop
returns-in_err-put-clause-stop g c =
    let A = affine_setting g.met.K.Field.field_laws g.met.K.FiniteField.numbering c.len-count.ensures.lawful in
    let ring = g.K.Ring.ring in
    let numbers = g.K.FiniteField.numbers in
    let arr = c.args.aff.now in
    let f = c.args.set in
    let rows = c.args.rows.now in
    let is = c.requires.entry.is_flat in
    let has = c.requires.entry.has_values in
    let value : c.len-count.result ≡ length arr.forms = c.len-count.ensures.value in
    let covered = c.loop-i.covered in
    let covers = c.loop-i.covers.items in
    let i = c.loop-i.i in
    let s = c.loop-i.invariant.covering c.len-count.ensures.lawful is in
    let r : IsIndex arr i = (c.loop-i.auto.i, omega (arith, c.loop-i-test.true, value)) in
    let out : contains covered i ≡ false = sym c.contains.ensures.value ∙ c.if-contains.false in
    let q = c.in-Some-place_off.q in
    let inside = c.in-Some-place_off.ensures.some in
    let off = c.in-Some-place_off.ensures.off in
    let cover = c.with_parallel-cover.result in
    let own : IsSetWithin (length arr.forms) cover = subst (λ m. IsSetWithin m cover) value c.with_parallel-cover.ensures.set in
    let same = cover-class A f is rows has covered covers i s r out q inside off cover own
    (λ k. subst (λ m. Contains cover k ↔ (Contains f k ⊎ IsParallelFrom ring rows covered q i i m k)) value (c.with_parallel-cover.ensures.members k)) in
    let more = cover-rank A f is rows has covered covers i s r out q inside off cover same in
    let h : IfErr c.from_residual.result (λ (e : FlatStop). (e ≡ Memory) ⊎ (c.args.room < length (flats_of_rank ring numbers arr (rank ring numbers arr cover)))) = search rules in
    subst (λ k. IfErr c.from_residual.result (λ (e : FlatStop). (e ≡ Memory) ⊎ (c.args.room < length (flats_of_rank ring numbers arr k)))) more h

pub loop-i-preserved : goal.loop-i-preserved
loop-i-preserved g c =
    let A = affine_setting g.met.K.Field.field_laws g.met.K.FiniteField.numbering c.len-count.ensures.lawful in
    let ring = g.K.Ring.ring in
    let numbers = g.K.FiniteField.numbers in
    let arr = c.args.aff.now in
    let f = c.args.set in
    let rows = c.args.rows.now in
    let is = c.requires.entry.is_flat in
    let has = c.requires.entry.has_values in
    let value : c.len-count.result ≡ length arr.forms = c.len-count.ensures.value in
    let covered = c.loop-i.covered in
    let covers = c.loop-i.covers.items in
    let i = c.loop-i.i in
    let s = c.loop-i.invariant.covering c.len-count.ensures.lawful is in
    let r : IsIndex arr i = (c.loop-i.auto.i, omega (arith, c.loop-i-test.true, value)) in
    let out : contains covered i ≡ false = sym c.contains.ensures.value ∙ c.if-contains.false in
    let q = c.in-Some-place_off.q in
    let inside = c.in-Some-place_off.ensures.some in
    let off = c.in-Some-place_off.ensures.off in
    let cover = c.with_parallel-cover.result in
    let own : IsSetWithin (length arr.forms) cover = subst (λ m. IsSetWithin m cover) value c.with_parallel-cover.ensures.set in
    let same = cover-class A f is rows has covered covers i s r out q inside off cover own
    (λ k. subst (λ m. Contains cover k ↔ (Contains f k ⊎ IsParallelFrom ring rows covered q i i m k)) value (c.with_parallel-cover.ensures.members k)) in
    let more = cover-rank A f is rows has covered covers i s r out q inside off cover same in
    let inv = c.loop-i.invariant in
    let n = length arr.forms in
    let after : c.union-covered.result ≡ union covered cover = c.union-covered.ensures.value in
    let items : c.push.new.self.items ≡ covers ++ cover ∷ [] = c.in_ok-push.ensures.items in
    let keys = c.in_ok-put.ensures.keys in
    record {
      covering = λ lawful flat. (let B = affine_setting g.met.K.Field.field_laws g.met.K.FiniteField.numbering lawful in
          let t = inv.covering lawful flat in
          let made = cover-class B f flat rows has covered covers i t r out q inside off cover own
          (λ k. subst (λ m. Contains cover k ↔ (Contains f k ⊎ IsParallelFrom ring rows covered q i i m k)) value (c.with_parallel-cover.ensures.members k)) in
          cover-turn B f flat rows has covered covers i t r out q inside off cover made inv.within own c.union-covered.result after c.push.new.self.items items);
      within = subst (IsSetWithin n) (sym after) (union-set n covered cover inv.within own);
      are = subst (λ k. AreOfRank ring numbers arr k c.put.new.next.entries) more c.in_ok-put.ensures.next;
      few = c.in_ok-put.ensures.room;
      keeps = λ h d. (keys h).1 (inl (inv.keeps h d));
      has = λ h d. elim (last-cases covers cover h (subst (λ xs. Contains xs h) items d)) [ inl k ↦ (keys h).1 (inl (inv.has h k)) | inr e ↦ (keys h).1 (inr e) ];
    }

pub returns-clause-covers : goal.returns-clause-covers
returns-clause-covers g c =
    let A = affine_setting g.met.K.Field.field_laws g.met.K.FiniteField.numbering c.len-count.ensures.lawful in
    let ring = g.K.Ring.ring in
    let numbers = g.K.FiniteField.numbers in
    let arr = c.args.aff.now in
    let f = c.args.set in
    let rows = c.args.rows.now in
    let is = c.requires.entry.is_flat in
    let has = c.requires.entry.has_values in
    let value : c.len-count.result ≡ length arr.forms = c.len-count.ensures.value in
    let s = c.loop-i.invariant.covering c.len-count.ensures.lawful is in
    let beyond : length arr.forms < c.loop-i.i = omega (arith, c.loop-i-test.false, value) in
    subst (IsCoverList ring numbers arr f) (sym c.of.ensures)
    (record { members = cover-end A f is c.loop-i.covered c.loop-i.covers.items c.loop-i.i s beyond; once = pairs_from_Ordered (λ x y. x ≢ y) c.loop-i.covers.items s.once })

pub returns-clause-added : goal.returns-clause-added
returns-clause-added g c =
    let A = affine_setting g.met.K.Field.field_laws g.met.K.FiniteField.numbering c.len-count.ensures.lawful in
    let ring = g.K.Ring.ring in
    let numbers = g.K.FiniteField.numbers in
    let arr = c.args.aff.now in
    let f = c.args.set in
    let rows = c.args.rows.now in
    let is = c.requires.entry.is_flat in
    let has = c.requires.entry.has_values in
    let value : c.len-count.result ≡ length arr.forms = c.len-count.ensures.value in
    let items = c.of.result in
    λ k d l. c.loop-i.invariant.has _ (subst (λ xs. Contains xs (slice_index_or items k d)) c.of.ensures (Contains-get_or items k d l))
