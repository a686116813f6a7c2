-- Sets of vectors with the same least leads stop alike.
use Rattle.std.specs.Prelude.{◌↔◌, ℕ}
use Rattle.std.specs.declared.cmp.Ordering.{Ordering}
use Rattle.std.proofs.lemmas.List.Elements.{All-weaker}
use mathlib.Core.Logic.{inl, inr}
use Rattle.hp_mono.specs.declared.term.Term.{Term}
use Rattle.hp_module.specs.Vectors.{Vector}
use Rattle.hp_module.specs.Leads.{IsLeastLead}
use Rattle.hp_groebner.specs.declared.limits.Limits.{Limits}
use Rattle.hp_groebner.specs.declared.limits.Stop.{Stop}
use Rattle.hp_groebner.specs.declared.limits.Stop.TheVariants as stops
use Rattle.hp_groebner.specs.LimitRules.{IsFirstPassed, IsLeastLeadUpTo, IsPassed, IsStop, HasTooHighPair, HasTooManyPairs, NeverStops}

module _ {F : Type 0} (cmp : Term → Term → Ordering) (limits : Limits) where
  abbrev SameLeads : (Vector F → Type 0) → (Vector F → Type 0) → Type 0
  SameLeads A B = (t : Term) → IsLeastLead cmp A t → IsLeastLead cmp B t

  many : {A B : Vector F → Type 0} → SameLeads A B → (d : ℕ) → HasTooManyPairs cmp A limits d → HasTooManyPairs cmp B limits d
  many {A} {B} same d h = (
    h.0,
    record {
      each = All-weaker (IsLeastLeadUpTo cmp A d) (IsLeastLeadUpTo cmp B d) (λ t p. (same t p.0, p.1)) h.0 h.1.each;
      once = h.1.once;
    },
    h.2,
  )

  high : {A B : Vector F → Type 0} → SameLeads A B → (d : ℕ) → HasTooHighPair cmp A limits d → HasTooHighPair cmp B limits d
  high same d h = record {
    first = h.first;
    second = h.second;
    first_lead = (let p = h.first_lead in (same h.first p.0, p.1));
    second_lead = (let p = h.second_lead in (same h.second p.0, p.1));
    different = h.different;
    same_component = h.same_component;
    high = h.high;
  }

  passed : {A B : Vector F → Type 0} → SameLeads A B → (d : ℕ) → IsPassed cmp A limits d → IsPassed cmp B limits d
  passed same d h = elim h [ inl m ↦ inl (many same d m) | inr g ↦ inr (high same d g) ]

  module _ {N N' : Vector F → Type 0} (same : (t : Term) → IsLeastLead cmp N t ↔ IsLeastLead cmp N' t) where
    there : SameLeads N N'
    there t = (same t).0

    back : SameLeads N' N
    back t = (same t).1

    first : (d : ℕ) → IsFirstPassed cmp N limits d → IsFirstPassed cmp N' limits d
    first d h = (passed there d h.0, λ e l p. h.1 e l (passed back e p))

    pub same-never : NeverStops cmp N limits → NeverStops cmp N' limits
    same-never h d p = h d (passed back d p)

    pub same-stop : (e : Stop) → IsStop cmp N limits e → IsStop cmp N' limits e
    same-stop stops.Pairs h = (h.0, first h.0 h.1, many there h.0 h.2)
    same-stop stops.Degree h = (h.0, first h.0 h.1, λ m. h.2 (many back h.0 m))
    same-stop stops.Memory h = h
