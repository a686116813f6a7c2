-- The reduced basis of a set of vectors is that of each subset that has its members, and of each set with the same vectors.
use Rattle.std.specs.Prelude.{◌≡◌, ◌↔◌, List, All}
use Rattle.std.proofs.lemmas.List.Elements.{All-contains, All-weaker}
use mathlib.Core.Path.{subst}
use Rattle.hp_mono.specs.declared.term.Term.{Term}
use Rattle.hp_module.specs.Vectors.{Vector}
use Rattle.hp_module.specs.FreeModules.{FreeModule, IsFreeModule, IsIn}
use Rattle.hp_module.specs.Leads.{IsLead, IsLeastLead, IsReducedBasis}
use Rattle.hp_module.proofs.LeastLeads.{lead_divided}

module _ {F : Type 0} {M : FreeModule F} (L : IsFreeModule M) {S N : Vector F → Type 0} {G : List (Vector F)}
    (basis : IsReducedBasis M.ring M.cmp S G) where
  open M use {ring, cmp}

  pub reduced-subset : ((v : Vector F) → S v → IsIn M v) → ((v : Vector F) → N v → S v) → All N G → IsReducedBasis ring cmp N G
  reduced-subset vectors inside members = record {
    members = members;
    monic = λ i d l. let m = basis.monic i d l in (
      m.0,
      m.1,
      record {
        lead = (_, ring.one, members i d l, m.1);
        least = λ s ls ds. m.2.least s (wider s ls) ds;
      },
    );
    complete = λ t ll.
        let d = lead_divided L vectors basis t (wider t ll.lead) in
        let a = basis.complete d.0 d.1 in
        let own = All-contains N G a.1 members (a.0, a.2, a.3) in
        let same : d.0 ≡ t = ll.least d.0 (a.1, ring.one, own, a.4) d.2 in
        basis.complete t (subst (IsLeastLead cmp S) same d.1);
    only_one = basis.only_one;
    tails = λ g t s c d at gt os ne u lu du. basis.tails g t s c d at gt os ne u (wider u lu) du;
    in_order = basis.in_order;
  }
    where
      wider : (t : Term) → IsLead cmp N t → IsLead cmp S t
      wider t ls = (ls.0, ls.1, inside ls.0 ls.2, ls.3)

  pub reduced-same : ((v : Vector F) → S v ↔ N v) → IsReducedBasis ring cmp N G
  reduced-same iff = record {
    members = All-weaker S N (λ v s. (iff v).0 s) G basis.members;
    monic = λ i d l. let m = basis.monic i d l in (
      m.0,
      m.1,
      record {
        lead = there m.0 m.2.lead;
        least = λ s ls ds. m.2.least s (back s ls) ds;
      },
    );
    complete = λ t ll. basis.complete t (record { lead = back t ll.lead; least = λ s ls ds. ll.least s (there s ls) ds });
    only_one = basis.only_one;
    tails = λ g t s c d at gt os ne u lu du. basis.tails g t s c d at gt os ne u (back u lu) du;
    in_order = basis.in_order;
  }
    where
      there : (t : Term) → IsLead cmp S t → IsLead cmp N t
      there t ls = (ls.0, ls.1, (iff ls.0).0 ls.2, ls.3)

      back : (t : Term) → IsLead cmp N t → IsLead cmp S t
      back t ls = (ls.0, ls.1, (iff ls.0).1 ls.2, ls.3)
