use Rattle.std.proofs.Common.{◌+◌, ◌<◌, ◌≤◌, ◌==◌, ◌↔◌, ℕ, length, sym, ap, ◌∙◌, subst, arith}
use Rattle.std.specs.Bool.{IsTrue}
use Rattle.std.specs.List.{filter}
use Rattle.hp_groebner.specs.KeptCofactors.{AreMonomials}
use Rattle.hp_groebner.specs.NewPairs.{AreAdded, new_degree}
use Rattle.hp_groebner.specs.PairQueues.{AreMinimalCofactors, IsCompanion, IsLonger, IsQueue, Queue}
use Rattle.hp_groebner.specs.contracts.queue.Queue.{the_view}
use Rattle.hp_groebner.proofs.QueueSteps.{IsGrown, filter-short, grown-longer, grown-queue, high-before, high-new}
use Rattle.hp_groebner.proofs.queue.Queue.push.Goals as goal
use Rattle.hp_groebner.proofs.queue.Queue.push.Goals.{then-self, else-self}

pub overflow_add-self : goal.overflow_add-self
overflow_add-self c =
    let few = subst (λ (q : Queue). q.pairs ≤ 1000000) (sym c.self.view_is) c.requires.few in
    let short = filter-short (λ s. s.comp == c.args.t.comp) c.as_slice-leads.result.now in
    let v = c.self.inside.leads in
    let many = ap length c.as_slice-leads.ensures.value in
    omega (arith, few, c.companions.ensures, short, many, v.ok.0, v.ok.1, v.small)

-- the queue before and after
abbrev before : goal.After-drop-kept-2 → Queue
before c = the_view c.self.inside

abbrev after : goal.After-drop-kept-2 → Queue
after c = record {
  leads = c.push.new.self.items;
  due = c.add_pairs.new.due.items;
  pairs = c.self.inside.pairs + c.companions.result;
  high = c.if-self.self;
}

grown : (c : goal.After-drop-kept-2) → IsGrown c.args.limits.now (before c) c.args.t c.in_ok-kept.kept.items (after c)
grown c =
    let e = c.as_slice-leads.ensures.value in
    let f = c.as_slice.ensures.value in
    record {
      leads = c.in_ok-push.ensures.items;
      due = subst (λ ls. AreAdded ls c.args.t c.args.limits.now.degree c.in_ok-kept.kept.items
          (length c.in_ok-kept.kept.items) c.self.inside.due.items c.add_pairs.new.due.items) e
          (subst (λ xs. AreAdded c.as_slice-leads.result.now c.args.t c.args.limits.now.degree xs (length xs)
          c.self.inside.due.items c.add_pairs.new.due.items) f c.in_ok-add_pairs.ensures);
      pairs = ap (λ n. c.self.inside.pairs + n) (c.companions.ensures
          ∙ ap (λ ls. length (filter (λ s. s.comp == c.args.t.comp) ls)) e);
      high = elim c.if-self.branch [
        | then-self w ↦ high-before c.self.inside.high c.if-self.self w.if-self.true (w.self-is ∙ w.if-self.true)
        | else-self w ↦
            let r = w.is_high_with-self-inside in
            high-new c.self.inside.high c.if-self.self r.result w.if-self.false w.self-is
            (subst (λ ls. IsTrue r.result
            ↔ ((j : ℕ) × IsCompanion ls c.args.t j × (c.args.limits.now.degree < new_degree ls c.args.t j))) e
            r.ensures)
      ];
    }

is_queue : (c : goal.After-drop-kept-2) → IsQueue c.args.limits.now (before c)
is_queue c = subst (IsQueue c.args.limits.now) (sym c.self.view_is) c.requires.queue

monomials : (c : goal.After-drop-kept-2) → AreMonomials (before c).leads c.args.t (length (before c).leads)
monomials c =
    subst (λ ls. AreMonomials ls c.args.t (length ls)) c.as_slice-leads.ensures.value c.in_ok-kept.ensures.monomials

minimal : (c : goal.After-drop-kept-2) → AreMinimalCofactors (before c).leads c.args.t c.in_ok-kept.kept.items
minimal c =
    subst (λ ls. AreMinimalCofactors ls c.args.t c.in_ok-kept.kept.items) c.as_slice-leads.ensures.value
    c.in_ok-kept.ensures.minimal

pub returns-clause-queue : goal.returns-clause-queue
returns-clause-queue c =
    grown-queue c.args.limits.now (before c) c.args.t c.in_ok-kept.kept.items (after c) (is_queue c) (monomials c)
    (minimal c) (grown c)

pub returns-clause-longer : goal.returns-clause-longer
returns-clause-longer c =
    subst (λ q. IsLonger q c.args.t (after c)) c.self.view_is
    (grown-longer c.args.limits.now (before c) c.args.t c.in_ok-kept.kept.items (after c) (is_queue c) (monomials c)
    (minimal c) (grown c))
