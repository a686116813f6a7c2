-- The fault of a list of forms, from what a search through them finds.
use Rattle.std.proofs.Common.{◌≡◌, ◌≢◌, ◌||◌, ◌∷◌, ℕ, ◌+◌, ◌-◌, All, Bool, IfSome, Option, cond, map, ◌<◌, ◌≤◌, true, false, List, [], length, get_or, Some, None, ap, ◌∙◌, arith}
use Rattle.std.specs.Prelude.{nat_lt, nat_le}
use Rattle.std.proofs.lemmas.List.{get_or_read}
use Rattle.std.proofs.lemmas.List.Elements.{All-head, All-tail, All-cons, All-nil, All-map}
use Rattle.std.specs.Option.{option_map}
use Rattle.hp_algebra.specs.Ring.{RingOf, Numbering}
use Rattle.hp_lists.specs.Lists.{one_to, first_some}
use Rattle.hp_arr.specs.Arrangement.{max_forms}
use Rattle.hp_algebra.specs.Rows.{is_zero_row, is_multiple}
use Rattle.hp_arr.specs.FormFaults.{row, zero_fault, earlier_multiple, repeat_of, repeated_fault, too_many_fault, form_fault}
use Rattle.hp_arr.specs.declared.fault.ArrFault.{ArrFault}
use Rattle.hp_arr.specs.declared.fault.ArrFault.TheVariants.{ZeroForm, Repeated, TooMany, Memory}
use Rattle.hp_lists.proofs.Firsts.{find-first, find-none, find-none_at, first_some-first, first_some-none, option_map-none}

pub zero_fault-first : {K : Type 0} (ring : RingOf K) (rows : List (List K)) (i : ℕ) → 1 ≤ i → i ≤ length rows → is_zero_row ring (row rows i) ≡ true → ((h : ℕ) → 1 ≤ h → h < i → is_zero_row ring (row rows h) ≡ false) → zero_fault ring rows ≡ Some (ZeroForm i)
zero_fault-first ring rows i low high zero before =
    ap (option_map ZeroForm) (find-first (λ h. is_zero_row ring (row rows h)) 1 (length rows) i low (omega arith) zero before)

pub zero_fault-none : {K : Type 0} (ring : RingOf K) (rows : List (List K)) → ((h : ℕ) → 1 ≤ h → h ≤ length rows → is_zero_row ring (row rows h) ≡ false) → zero_fault ring rows ≡ None
zero_fault-none ring rows nonzero =
    ap (option_map ZeroForm) (find-none (λ h. is_zero_row ring (row rows h)) 1 (length rows) (λ h low high. nonzero h low (omega arith)))

-- where no form is zero, each is not
pub zero_fault-none_at : {K : Type 0} (ring : RingOf K) (rows : List (List K)) → zero_fault ring rows ≡ None → (h : ℕ) → 1 ≤ h → h ≤ length rows → is_zero_row ring (row rows h) ≡ false
zero_fault-none_at ring rows none h low high =
    find-none_at (λ i. is_zero_row ring (row rows i)) 1 (length rows) (option_map-none ZeroForm _ none) h low (omega arith)

-- a form as it is read
pub row_read : {K : Type 0} (rows : List (List K)) (i : ℕ) (x shown : List K) → 1 ≤ i → i ≤ length rows → x ≡ get_or rows (i - 1) x → shown ≡ x → shown ≡ row rows i
row_read rows i x shown low high read same = same ∙ get_or_read rows (i - 1) x (omega arith) read []

-- what is made of a form as it is read
pub form_made : {K V : Type 0} (f : List K → V) (rows : List (List K)) (k : ℕ) (x shown : List K) (made : V) → k < length rows
    → x ≡ get_or rows k x → shown ≡ x → made ≡ f shown → made ≡ f (get_or rows k [])
form_made f rows k x shown made within read same e = e ∙ ap f (same ∙ get_or_read rows k x within read [])

pub row_made : {K V : Type 0} (f : List K → V) (rows : List (List K)) (k : ℕ) (x shown : List K) (made : V) → k < length rows
    → x ≡ get_or rows k x → shown ≡ x → made ≡ f shown → made ≡ f (row rows (k + 1))
row_made f rows k x shown made within read same e =
    let at : k ≡ k + 1 - 1 = omega arith in
    form_made f rows k x shown made within read same e ∙ ap (λ n. f (get_or rows n [])) at

module _ {K : Type 0} (ring : RingOf K) (numbers : Numbering K) where
  pub earlier_multiple-first : (rows : List (List K)) (i j : ℕ) → 1 ≤ i → i < j → is_multiple ring numbers (row rows i) (row rows j) ≡ true → ((h : ℕ) → 1 ≤ h → h < i → is_multiple ring numbers (row rows h) (row rows j) ≡ false) → earlier_multiple ring numbers rows j ≡ Some i
  earlier_multiple-first rows i j low high at before = find-first (λ h. is_multiple ring numbers (row rows h) (row rows j)) 1 (j - 1) i low (omega arith) at before

  pub earlier_multiple-none : (rows : List (List K)) (j : ℕ) → ((h : ℕ) → 1 ≤ h → h < j → is_multiple ring numbers (row rows h) (row rows j) ≡ false) → earlier_multiple ring numbers rows j ≡ None
  earlier_multiple-none rows j none = find-none (λ h. is_multiple ring numbers (row rows h) (row rows j)) 1 (j - 1) (λ h low high. none h low (omega arith))

  pub repeated_fault-first : (rows : List (List K)) (i j : ℕ) → 1 ≤ j → j ≤ length rows → earlier_multiple ring numbers rows j ≡ Some i → ((h : ℕ) → 1 ≤ h → h < j → earlier_multiple ring numbers rows h ≡ None) → repeated_fault ring numbers rows ≡ Some (Repeated i j)
  repeated_fault-first rows i j low high at before =
      first_some-first (repeat_of ring numbers rows) 1 (length rows) j (Repeated i j) low (omega arith)
      (ap (option_map (λ g. Repeated g j)) at)
      (λ h from below. ap (option_map (λ g. Repeated g h)) (before h from below))

  pub repeated_fault-none : (rows : List (List K)) → ((h : ℕ) → 1 ≤ h → h ≤ length rows → earlier_multiple ring numbers rows h ≡ None) → repeated_fault ring numbers rows ≡ None
  repeated_fault-none rows none =
      first_some-none (repeat_of ring numbers rows) 1 (length rows)
      (λ h from below. ap (option_map (λ g. Repeated g h)) (none h from (omega arith)))

-- the first that is there has what each that is there has
first_some-has : {X : Type 0} (P : X → Type 0) (os : List (Option X)) → All (λ o. IfSome o P) os → IfSome (first_some os) P
first_some-has P [] each = tt
first_some-has P (None ∷ os) each = first_some-has P os (All-tail (λ o. IfSome o P) None os each)
first_some-has P (Some x ∷ os) each = All-head (λ o. IfSome o P) (Some x) os each

map-has : {X Y : Type 0} (P : Y → Type 0) (f : X → Y) (o : Option X) → ((x : X) → P (f x)) → IfSome (option_map f o) P
map-has P f None each = tt
map-has P f (Some x) each = each x

not_memory-at : (o : Option ArrFault) → IfSome o (λ e. e ≢ Memory) → o ≢ Some Memory
not_memory-at None has e = cc
not_memory-at (Some x) has e = has cc

-- want of memory is no fault of the forms
pub form_fault-not_memory : {K : Type 0} (ring : RingOf K) (numbers : Numbering K) (rows : List (List K)) → form_fault ring numbers rows ≢ Some Memory
form_fault-not_memory ring numbers rows =
    let Other : ArrFault → Type 0 = λ e. e ≢ Memory in
    let Has : Option ArrFault → Type 0 = λ o. IfSome o Other in
    let zero : Has (zero_fault ring rows) = map-has Other ZeroForm _ (λ i e. cc) in
    let repeated : Has (repeated_fault ring numbers rows) =
    first_some-has Other (map (repeat_of ring numbers rows) (one_to (length rows))) (All-map Has (repeat_of ring numbers rows) (one_to (length rows)) (λ k d h. map-has Other (λ i. Repeated i (get_or (one_to (length rows)) k d)) _ (λ i e. cc))) in
    let many : Has (too_many_fault numbers rows) = too_many-has (nat_lt max_forms (length rows) || nat_le numbers.order (length rows)) (length rows) in
    let last : All Has (too_many_fault numbers rows ∷ []) = All-cons Has (too_many_fault numbers rows) [] many (All-nil Has) in
    let later : All Has (repeated_fault ring numbers rows ∷ too_many_fault numbers rows ∷ []) = All-cons Has (repeated_fault ring numbers rows) (too_many_fault numbers rows ∷ []) repeated last in
    let all : All Has (zero_fault ring rows ∷ repeated_fault ring numbers rows ∷ too_many_fault numbers rows ∷ []) = All-cons Has (zero_fault ring rows) (repeated_fault ring numbers rows ∷ too_many_fault numbers rows ∷ []) zero later in
    not_memory-at (form_fault ring numbers rows) (first_some-has Other (zero_fault ring rows ∷ repeated_fault ring numbers rows ∷ too_many_fault numbers rows ∷ []) all)
  where
    too_many-has : (b : Bool) (n : ℕ) → IfSome (cond b (Some (TooMany n)) None) (λ e. e ≢ Memory)
    too_many-has true n = λ e. cc
    too_many-has false n = tt
