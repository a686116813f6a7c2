-- Homogeneous generators of low degree make a lawful job.
use Rattle.std.proofs.Common.{◌≡◌, ℕ, ◌+◌, ◌<◌, ◌≤◌, List, [], ◌∷◌, All, length, replicate, slice_index_or, ap, sym, ◌∙◌, subst, arith}
use mathlib.Core.Path.{refl}
use Rattle.std.proofs.lemmas.List.Elements.{All-head, All-nil, All-weaker}
use Rattle.hp_algebra.specs.Ring.{RingOf, IsField}
use Rattle.hp_mono.specs.declared.term.Term.{Term}
use Rattle.hp_mono.specs.Monomials.{Monomial, degree}
use Rattle.hp_module.specs.Vectors.{IsHomogeneousVector, IsVector, Vector}
use Rattle.hp_module.specs.FreeModules.{HasDegree, degree_of, terms}
use Rattle.hp_module.specs.EliminationLaws.{elimination-is_order}
use Rattle.hp_module.proofs.EntryTerms.{terms_all}
use Rattle.hp_module.proofs.TruncatedBases.{unshifted}
use Rattle.hp_groebner.specs.declared.limits.Limits.{Limits}
use Rattle.hp_groebner.specs.LimitRules.{AreLimits, most_generator_degree}
use Rattle.hp_module.specs.declared.order.ElimOrder.{ElimOrder}
use Rattle.hp_groebner.specs.declared.setting.Setting.{Setting}
use Rattle.hp_groebner.specs.Runs.{IsJob, Job, first_degree, job, module_of}

module _ {F : Type 0} (ring : RingOf F) (inverse : F → F) (field : IsField ring inverse) (split width : ℕ)
    (limits : Limits) (gens : List (Vector F)) where
  abbrev pub J : Job F
  J = record {
    ring = ring;
    inverse = inverse;
    split = split;
    width = width;
    shifts = replicate width 0;
    limits = limits;
    gens = gens;
  }

  abbrev Of : ℕ → Term × F → Type 0
  Of d a = degree_of (module_of J) a.0 ≡ d

  graded : (d : ℕ) (v : Vector F) → IsHomogeneousVector ring d v → HasDegree (module_of J) d v
  graded d v h =
      terms_all (Of d) 1 v (λ j l.
      All-weaker (λ (t : Monomial × F). degree t.0 ≡ d) (λ t. Of d (record { mono = t.0; comp = 1 + j }, t.1))
      (λ t e. unshifted width (record { mono = t.0; comp = 1 + j }) ∙ e) (slice_index_or v j []) (h j [] l))

  -- the degree of all terms is that of the first
  first-degree : (d : ℕ) (xs : List (Term × F)) → All (Of d) xs → All (Of (first_degree xs)) xs
  first-degree d [] h = All-nil (Of 0)
  first-degree d (x ∷ xs) h =
      All-weaker (Of d) (Of (degree x.0.mono)) (λ a e. e ∙ sym (All-head (Of d) x xs h) ∙ unshifted width x.0) (x ∷ xs) h

  first-low : (d n : ℕ) (xs : List (Term × F)) → All (Of d) xs → d ≤ n → first_degree xs ≤ n
  first-low d n [] h l = omega arith
  first-low d n (x ∷ xs) h l = let e = All-head (Of d) x xs h in let p = unshifted width x.0 in omega (arith, e, p, l)

  pub is-job : All (λ v. length v ≡ width) gens
      → All (λ v. (d : ℕ) × (d ≤ most_generator_degree) × IsHomogeneousVector ring d v) gens → AreLimits limits
      → All (λ v. IsVector ring (length v) v) gens → IsJob J
  is-job widths homogeneous lawful vectors =
      let at = λ (i : ℕ) (l : i < length gens).
      graded (homogeneous i [] l).0 (slice_index_or gens i []) (homogeneous i [] l).2 in
      record {
        lawful = record { field = field; order = elimination-is_order split width };
        plain = refl;
        limits = lawful;
        vectors = λ k d l. subst (λ w. IsVector ring w (slice_index_or gens k d)) (widths k d l) (vectors k d l);
        homogeneous = λ i l. first-degree (homogeneous i [] l).0 (terms (slice_index_or gens i [])) (at i l);
        degrees = λ i l. first-low (homogeneous i [] l).0 most_generator_degree (terms (slice_index_or gens i [])) (at i l) (homogeneous i [] l).1;
      }

  -- the job of a setting with this order, no shifts and these limits
  pub same-job : (setting : Setting) → setting.order ≡ record { split = split; width = width }
      → setting.grading.shifts ≡ replicate width 0 → setting.limits ≡ limits → job ring inverse setting gens ≡ J
  same-job setting order shifts bounds =
      ap (λ (o : ElimOrder). record (job ring inverse setting gens) { split = o.split; width = o.width }) order
      ∙ ap (λ (s : List ℕ). record (record (job ring inverse setting gens) { split = split; width = width }) { shifts = s }) shifts
      ∙ ap (λ (l : Limits). record J { limits = l }) bounds
