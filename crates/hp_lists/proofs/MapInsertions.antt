-- The entries of an ordered map after one more key.
use Rattle.std.proofs.Common.{◌≡◌, ◌⊎◌, ◌↔◌, true, cond, List, [], ◌∷◌, Contains, refl, sym, ap, subst, ◌∙◌, inl, inr}
use Rattle.std.specs.Prelude.{Some}
use Rattle.std.specs.declared.cmp.Ordering.{Ordering}
use Rattle.std.specs.declared.cmp.Ordering.TheVariants.{Less, Equal, Greater}
use Rattle.std.specs.BTreeMap.{insert_entry, is_at}
use Rattle.std.specs.Cmp.{IsTotalOrder}
use Rattle.std.specs.Map.{keys_of, lookup}
use Rattle.std.specs.Option.{is_some}
use Rattle.std.specs.Ordering.{match_ordering, is_eq}
use Rattle.std.proofs.lemmas.Cmp.{tied_itself}
use Rattle.hp_lists.proofs.Members.{Contains-here, Contains-later, Contains-cases, Contains-none}

module _ {X V : Type 0} (cmp : X → X → Ordering) (o : IsTotalOrder cmp)
    (same : (x y : X) → cmp x y ≡ Equal → x ≡ y) (k : X) where
  -- the new entry, and what was there
  pub entry-cases : (es : List (X × V)) (v : V) (e : X × V) → Contains (insert_entry cmp es k v) e
      → (e.1 ≡ v) × (e.0 ≡ k) ⊎ Contains es e
  entry-cases [] v e c = pick (Contains-cases {X = X × V} (k, v) [] e c)
    where
      pick : ((k, v) ≡ e) ⊎ Contains {X = X × V} [] e → (e.1 ≡ v) × (e.0 ≡ k) ⊎ Contains {X = X × V} [] e
      pick (inl f) = inl (ap (λ (d : X × V). d.1) (sym f), ap (λ (d : X × V). d.0) (sym f))
      pick (inr d) = inr d
  entry-cases (a ∷ es) v e c = step (cmp k a.0) refl (λ d. entry-cases es v e d) c
    where
      new : {T : Type 0} → (d : X × V) → d.1 ≡ v → d.0 ≡ k → (d ≡ e) ⊎ T
          → (T → (e.1 ≡ v) × (e.0 ≡ k) ⊎ Contains (a ∷ es) e) → (e.1 ≡ v) × (e.0 ≡ k) ⊎ Contains (a ∷ es) e
      new d p q (inl f) h = inl (ap (λ (d : X × V). d.1) (sym f) ∙ p, ap (λ (d : X × V). d.0) (sym f) ∙ q)
      new d p q (inr t) h = h t

      later : (e.1 ≡ v) × (e.0 ≡ k) ⊎ Contains es e → (e.1 ≡ v) × (e.0 ≡ k) ⊎ Contains (a ∷ es) e
      later (inl f) = inl f
      later (inr d) = inr (Contains-later a es e d)

      behind : (a ≡ e) ⊎ Contains (insert_entry cmp es k v) e
          → (Contains (insert_entry cmp es k v) e → (e.1 ≡ v) × (e.0 ≡ k) ⊎ Contains es e)
          → (e.1 ≡ v) × (e.0 ≡ k) ⊎ Contains (a ∷ es) e
      behind (inl f) h = inr (subst (Contains (a ∷ es)) f (Contains-here a es))
      behind (inr d) h = later (h d)

      step : (r : Ordering) → cmp k a.0 ≡ r
          → (Contains (insert_entry cmp es k v) e → (e.1 ≡ v) × (e.0 ≡ k) ⊎ Contains es e)
          → Contains (match_ordering r ((k, v) ∷ a ∷ es) ((a.0, v) ∷ es) (a ∷ insert_entry cmp es k v)) e → (e.1 ≡ v) × (e.0 ≡ k) ⊎ Contains (a ∷ es) e
      step Less q h d = new (k, v) refl refl (Contains-cases {X = X × V} (k, v) (a ∷ es) e d) (λ t. inr t)
      step Equal q h d = new (a.0, v) refl (sym (same k a.0 q)) (Contains-cases {X = X × V} (a.0, v) es e d) (λ t. inr (Contains-later a es e t))
      step Greater q h d = behind (Contains-cases a (insert_entry cmp es k v) e d) h

  -- the keys: the old ones and the new one
  pub key-here : (es : List (X × V)) (v : V) → Contains (keys_of (insert_entry cmp es k v)) k
  key-here [] v = Contains-here k []
  key-here (a ∷ es) v = step (cmp k a.0) refl (key-here es v)
    where
      step : (r : Ordering) → cmp k a.0 ≡ r → Contains (keys_of (insert_entry cmp es k v)) k
          → Contains (keys_of (match_ordering r ((k, v) ∷ a ∷ es) ((a.0, v) ∷ es) (a ∷ insert_entry cmp es k v))) k
      step Less q h = Contains-here k (a.0 ∷ keys_of es)
      step Equal q h = subst (Contains (a.0 ∷ keys_of es)) (sym (same k a.0 q)) (Contains-here a.0 (keys_of es))
      step Greater q h = Contains-later a.0 (keys_of (insert_entry cmp es k v)) k h

  pub key-stays : (es : List (X × V)) (v : V) (g : X) → Contains (keys_of es) g
      → Contains (keys_of (insert_entry cmp es k v)) g
  key-stays [] v g c = absurd (Contains-none g c)
  key-stays (a ∷ es) v g c = step (cmp k a.0) (λ d. key-stays es v g d)
    where
      more : (a.0 ≡ g) ⊎ Contains (keys_of es) g
          → (Contains (keys_of es) g → Contains (keys_of (insert_entry cmp es k v)) g)
          → Contains (a.0 ∷ keys_of (insert_entry cmp es k v)) g
      more (inl e) h = subst (Contains (a.0 ∷ keys_of (insert_entry cmp es k v))) e (Contains-here a.0 (keys_of (insert_entry cmp es k v)))
      more (inr d) h = Contains-later a.0 (keys_of (insert_entry cmp es k v)) g (h d)

      step : (r : Ordering) → (Contains (keys_of es) g → Contains (keys_of (insert_entry cmp es k v)) g)
          → Contains (keys_of (match_ordering r ((k, v) ∷ a ∷ es) ((a.0, v) ∷ es) (a ∷ insert_entry cmp es k v))) g
      step Less h = Contains-later k (a.0 ∷ keys_of es) g c
      step Equal h = c
      step Greater h = more (Contains-cases a.0 (keys_of es) g c) h

  -- a look-up finds the key exactly where it is there
  pub lookup-key : (es : List (X × V)) → (is_some (lookup (is_at (cmp k)) es) ≡ true) ↔ Contains (keys_of es) k
  lookup-key [] = ((λ e. cc), λ c. absurd (Contains-none k c))
  lookup-key (a ∷ es) = step (cmp k a.0) refl (lookup-key es)
    where
      other : (r : Ordering) → cmp k a.0 ≡ r → (r ≡ Equal → ⊥)
          → ((is_some (lookup (is_at (cmp k)) es) ≡ true) ↔ Contains (keys_of es) k)
          → (is_some (lookup (is_at (cmp k)) es) ≡ true) ↔ Contains (a.0 ∷ keys_of es) k
      other r q n h = ((λ e. Contains-later a.0 (keys_of es) k (h.0 e)), λ c. h.1 (pick (Contains-cases a.0 (keys_of es) k c)))
        where
          pick : (a.0 ≡ k) ⊎ Contains (keys_of es) k → Contains (keys_of es) k
          pick (inl e) = absurd (n (sym q ∙ ap (cmp k) e ∙ tied_itself o k))
          pick (inr d) = d

      step : (r : Ordering) → cmp k a.0 ≡ r → ((is_some (lookup (is_at (cmp k)) es) ≡ true) ↔ Contains (keys_of es) k)
          → (is_some (cond (is_eq r) (Some a.1) (lookup (is_at (cmp k)) es)) ≡ true) ↔ Contains (a.0 ∷ keys_of es) k
      step Equal q h = ((λ e. subst (Contains (a.0 ∷ keys_of es)) (sym (same k a.0 q)) (Contains-here a.0 (keys_of es))), λ c. refl)
      step Less q h = other Less q (λ e. cc) h
      step Greater q h = other Greater q (λ e. cc) h
