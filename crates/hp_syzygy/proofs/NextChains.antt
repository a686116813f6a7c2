-- The order of the next level: what its terms stand for, and that it is the order that the leads induce.
use Rattle.std.specs.Prelude.{◌≡◌, ℕ, zero, suc, ◌+◌, ◌-◌, ◌<◌, ◌≤◌, max, List, [], ◌∷◌, length, map, All, slice_index_or}
use Rattle.std.specs.Ordering.{nat_cmp, ordering_then}
use Rattle.std.proofs.lemmas.List.{get_or-map, get_or_default, length-map}
use Rattle.std.proofs.lemmas.List.Elements.{All-map}
use mathlib.Core.Path.{sym, ap, ◌∙◌, subst}
use native.Mathlib.Omega.{arith}
use Rattle.hp_algebra.specs.Ring.{RingOf}
use Rattle.hp_mono.specs.declared.term.Term.{Term}
use Rattle.hp_mono.specs.Monomials.{degree, vars}
use Rattle.hp_mono.specs.TermOrders.{IsTermWithin, term_grevlex, times}
use Rattle.hp_mono.proofs.MonomialLaws.{degree_product}
use Rattle.hp_mono.proofs.TermLaws.{times-times}
use Rattle.hp_module.specs.FreeModules.{term_degree}
use Rattle.hp_module.specs.Leads.{lead_times, no_term}
use Rattle.hp_module.specs.InducedOrders.{induced}
use Rattle.hp_module.proofs.Criterion.{Ranking, lead-in}
use Rattle.hp_resolution.specs.Resolutions.{highest}
use Rattle.hp_syzygy.specs.ChainOrders.{Chain, IsChain, chain_order, full, rank_of, top_of}
use Rattle.hp_syzygy.specs.ChainLaws.{full-in, top-in}
use Rattle.hp_syzygy.specs.FrameLevels.{AreRanks, IsLevel, Level, level_lead, level_width, with_leads}
use Rattle.hp_syzygy.proofs.AgreeingOrders.{Agree, refined}

pub at-most : (xs : List ℕ) (i : ℕ) → slice_index_or xs i 0 ≤ highest xs
at-most [] i = omega arith
at-most (x ∷ xs) zero = first x (highest xs)
  where
    first : (x y : ℕ) → x ≤ max x y
    first x y = omega arith
at-most (x ∷ xs) (suc i) = later x (highest xs) (slice_index_or xs i 0) (at-most xs i)
  where
    later : (x y z : ℕ) → z ≤ y → z ≤ max x y
    later x y z l = omega arith

-- the degree of a term is that of what it stands for
pub chain-degree : (c : Chain) → IsChain c → (degrees : List ℕ) → degrees ≡ map (λ t. degree t.mono) c.tops → (a : Term)
    → IsTermWithin (length c.tops) a → term_degree degrees a ≡ degree (full c a).mono
chain-degree c is degrees e a h =
    let l : a.comp - 1 < length c.tops = omega (arith, h.1, h.2) in
    let w = top-in c is a.comp h.1 h.2 in
    let t = ap (λ ds. slice_index_or ds (a.comp - 1) 0) e ∙ get_or-map (λ (t : Term). degree t.mono) c.tops (a.comp - 1) no_term 0 l in
    ap (λ k. degree a.mono + k) t ∙ sym (degree_product vars a.mono (top_of c a.comp).mono h.0 w.0)

module _ {F : Type 0} {ring : RingOf F} {inverse : F → F} {v : Level F} (is : IsLevel ring inverse v) where
  -- the leads are terms of the module, counted from 0
  pub lead-within : (i : ℕ) → i < length v.members → IsTermWithin (level_width v) (level_lead v i)
  lead-within i l =
      let back : suc i - 1 ≡ i = omega arith in
      subst (λ k. IsTermWithin (level_width v) (level_lead v k)) back
      (lead-in is.module_laws is.led (suc i) (omega arith) (omega (arith, l)))

  leads-within : All (IsTermWithin (level_width v)) v.leads
  leads-within i d l =
      subst (IsTermWithin (level_width v)) (get_or_default v.leads i no_term d l) (lead-within i (omega (arith, l, is.led.same_length)))

  module _ {ranks : List ℕ} (ar : AreRanks v ranks) where
    abbrev pub rank : ℕ → ℕ
    rank c = slice_index_or ranks (c - 1) 0

    abbrev pub ranking : Ranking (length v.members)
    ranking = record {
      rank = rank;
      most = highest ranks;
      rank_most = λ i a b. at-most ranks (i - 1);
      apart = λ i j a b c d e.
          let p = ar.apart (i - 1) (j - 1) (omega (arith, a, b, is.led.same_length)) (omega (arith, c, d, is.led.same_length)) e in
          omega (arith, p, a, c);
    }

    -- each member as a component stands for what its lead stands for
    abbrev pub next_chain : Chain
    next_chain = record { width = v.chain.width; tops = map (full v.chain) v.leads; ranks = ranks }

    pub next-width : length next_chain.tops ≡ length v.members
    next-width = length-map v.leads (full v.chain) ∙ is.led.same_length

    pub next-is_chain : IsChain next_chain
    next-is_chain =
        let lm = length-map v.leads (full v.chain) in
        record {
          tops = All-map (IsTermWithin v.chain.width) (full v.chain) v.leads (λ i d l. full-in v.chain is.chain _ (leads-within i d l));
          one_each = ar.one_each ∙ sym lm;
          apart = λ i j a b e. ar.apart i j (subst (λ k. i < k) lm a) (subst (λ k. j < k) lm b) e;
        }

    pub full-next : (a : Term) → IsTermWithin (length v.members) a
        → full next_chain a ≡ full v.chain (lead_times (with_leads v) a)
    full-next a h =
        let l : a.comp - 1 < length v.leads = omega (arith, h.1, h.2, is.led.same_length) in
        let lead = level_lead v (a.comp - 1) in
        ap (times a.mono) (get_or-map (full v.chain) v.leads (a.comp - 1) no_term no_term l)
        ∙ sym (times-times a.mono lead.mono (top_of v.chain lead.comp))

    -- The order of the next level is the order that the leads induce.
    pub next-agrees : Agree (length v.members) (chain_order next_chain) (induced (chain_order v.chain) (with_leads v) rank)
    next-agrees a b ha hb =
        let la : a.comp - 1 < length v.leads = omega (arith, ha.1, ha.2, is.led.same_length) in
        let lb : b.comp - 1 < length v.leads = omega (arith, hb.1, hb.2, is.led.same_length) in
        let fa = full-next a ha in
        let fb = full-next b hb in
        (λ i. ordering_then (term_grevlex (fa i) (fb i)) (nat_cmp (rank a.comp) (rank b.comp)))
        ∙ refined (term_grevlex (full v.chain (lead_times (with_leads v) a)) (full v.chain (lead_times (with_leads v) b)))
        (rank_of v.chain (level_lead v (a.comp - 1)).comp) (rank_of v.chain (level_lead v (b.comp - 1)).comp) (rank a.comp) (rank b.comp)
        (ar.by_component (a.comp - 1) (b.comp - 1) la lb) (ar.by_component (b.comp - 1) (a.comp - 1) lb la)
